-- The terms that a question begins with as its base.
use Rattle.std.proofs.Common.{◌≡◌, ℕ, true, ◌∙◌, ap, subst}
use Rattle.std.specs.Prelude.{slice_get}
use Rattle.hy_val.specs.Stores.{have_sorts}
use Rattle.hy_term.proofs.Sorting.{and_left, and_right}
use Rattle.tree_terms.specs.Standing.{Later, all_at}
use Rattle.tree_terms.proofs.Growth.{map_later}
use Rattle.tree_words.specs.Stands.{args_fit, ins_at}
use Rattle.tree_query.specs.Based.{OpeningsAreBases}

pub based : OpeningsAreBases
based flat entry b q nodes has values grows sorted fit qc qg qa = λ vs root hv same call.
    let later : Later b.terms.nodes nodes = record { nodes = grows; sound = sorted } in
    let gs : have_sorts root.globals flat.globals ≡ true = and_left (have_sorts root.globals flat.globals) (args_fit flat root.proc root.args) call in
    let args : have_sorts root.args (ins_at (slice_get flat.procs entry)) ≡ true =
    subst (λ (p : ℕ). have_sorts root.args (ins_at (slice_get flat.procs p)) ≡ true) same (and_right (have_sorts root.globals flat.globals) (args_fit flat root.proc root.args) call) in
    let r = values vs root.globals root.args hv gs args in (
      r.0,
      fit r.0 r.1,
      ap (all_at r.0 nodes) qc ∙ map_later b.terms.nodes nodes r.0 b.consts flat.consts later has.consts ∙ r.2,
      ap (all_at r.0 nodes) qg ∙ map_later b.terms.nodes nodes r.0 b.globals flat.globals later has.globals ∙ r.3,
      ap (all_at r.0 nodes) qa ∙ map_later b.terms.nodes nodes r.0 b.args (ins_at (slice_get flat.procs entry)) later has.args ∙ r.4,
    )
