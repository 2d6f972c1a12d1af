-- The table of a partial tree over the formulas of a program, behind the terms of an opening.
use Rattle.std.proofs.Common.{sym, subst, ℕ, List}
use Rattle.std.specs.Prelude.{slice_get}
use Rattle.proc_template.specs.Shape.{TemplatesAreShaped}
use Rattle.proc_template.specs.Template.{AreTemplates}
use Rattle.proc_template.specs.Told.{RolesAreTold, TemplatesHaveSites}
use Rattle.template_law.specs.Formulas.{HaveFormulas}
use Rattle.tree_terms.proofs.Growth.{are_later}
use Rattle.tree_terms.specs.Standing.{AreOf, Later}
use Rattle.tree_words.specs.Stands.{ins_at}
use Rattle.tree_query.specs.Based.{OpeningsAreBases}
use Rattle.tree_query.specs.Readied.{TablesAreReady}
use Rattle.tree_query.specs.Tabled.{HaveSites}
use Rattle.tree_query.specs.Walked.{TablesAreWalked}
use Rattle.tree_query.proofs.Formed.{have_formulas, have_sites}
use Rattle.tree_query.proofs.Lifting.{bits_bools, bits_there, filled, linked, signed, sites_fit}

pub tables_ready : TablesAreWalked → OpeningsAreBases → TemplatesHaveSites → TemplatesAreShaped → RolesAreTold → TablesAreReady
tables_ready walks bases sites shaped roles flat entry bound tree f b q base h entry_is part has values grows sorted fit table templates qc qg qa =
    let ts : AreTemplates flat h.limits q.templates = subst (AreTemplates flat h.limits) (sym templates) h.templates_are in
    let there : HaveSites flat q.templates = subst (HaveSites flat) (sym templates) (have_sites sites flat f h) in
    let w = walks flat entry bound tree q part there table in
    let have : HaveFormulas flat h.limits entry q = have_formulas sites flat h.limits entry tree q h.flat_is ts entry_is w in
    let later : Later b.terms.nodes base = record { nodes = grows; sound = sorted } in
    let ins = ins_at (slice_get flat.procs entry) in
    let consts : AreOf base q.consts flat.consts = subst (λ (ns : List ℕ). AreOf base ns flat.consts) (sym qc) (are_later b.terms.nodes base b.consts flat.consts later has.consts) in
    let globals : AreOf base q.globals flat.globals = subst (λ (ns : List ℕ). AreOf base ns flat.globals) (sym qg) (are_later b.terms.nodes base b.globals flat.globals later has.globals) in
    let args : AreOf base q.args ins = subst (λ (ns : List ℕ). AreOf base ns ins) (sym qa) (are_later b.terms.nodes base b.args ins later has.args) in
    record {
      walked = w;
      formulas = have;
      filled = filled shaped roles flat h.limits entry tree base q h.flat_is w have consts globals args;
      bits = bits_there shaped roles flat h.limits entry tree base q h.flat_is w have consts globals args;
      bools = bits_bools shaped roles flat h.limits entry tree base q h.flat_is w have consts globals args;
      signed = signed shaped roles flat h.limits entry tree base q h.flat_is w have consts globals args;
      linked = linked shaped roles flat h.limits entry tree base q h.flat_is w have consts globals args;
      paths = w.paths;
      at_base = bases flat entry b q base has values grows sorted fit qc qg qa;
      sites = sites_fit shaped roles flat h.limits entry tree base q h.flat_is w have consts globals args;
    }
