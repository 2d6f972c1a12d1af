-- What is read has these bits, and a net of the terms says of them what the terms do.
use Rattle.std.proofs.Common.{◌≡◌, ◌∙◌, Bool, List, ap, sym, subst}
use Rattle.std.specs.Prelude.{IsTrue}
use Rattle.hy_val.specs.declared.atom.Atom.{Atom}
use Rattle.hy_term.specs.Formula.{Formula}
use Rattle.hy_term.specs.TermSorts.{is_formula}
use Rattle.hy_term.specs.Variables.{variables}
use Rattle.hy_term.specs.declared.node.TermVariable.{TermVariable}
use Rattle.gate_net.specs.Net.{value}
use Rattle.bit_blast.specs.Blasted.{assigned}
use Rattle.bit_blast.specs.Standing.{atoms_read}
use Rattle.bit_blast.proofs.Building.{Given}
use Rattle.bit_blast.proofs.FromBits.{Back, read_right}
use Rattle.bit_blast.proofs.reading.read_back.Goals as goal

pub returns-clause-sorts : goal.returns-clause-sorts
returns-clause-sorts c =
    let given : Given c.args.terms.now = record {
      laws = c.term_laws.ensures;
      formula = subst (λ (f : Formula). IsTrue (is_formula f)) c.terms.ensures.value c.nodes-nodes.ensures.kept;
      plain = c.terms.ensures.kept;
    } in
    let nodes : c.nodes-nodes.result.now ≡ c.args.terms.now.nodes = c.nodes-nodes.ensures.value ∙ ap (λ (f : Formula). f.nodes) c.terms.ensures.value in
    let listed : c.as_slice.result.now ≡ variables c.args.terms.now.nodes = c.as_slice.ensures ∙ c.in_ok-variables.ensures ∙ ap variables nodes in
    let is : c.in_ok-values.values ≡ atoms_read (variables c.args.terms.now.nodes) c.args.bits.now =
    c.in_ok-values.ensures ∙ ap (λ (vs : List TermVariable). atoms_read vs c.args.bits.now) listed in
    let back : Back c.args.terms.now c.in_ok-values.values c.args.bits.now =
    subst (λ (xs : List Atom). Back c.args.terms.now xs c.args.bits.now) (sym is) (read_right c.args.terms.now c.args.bits.now given c.requires) in
    back.sorts

pub returns-clause-fits : goal.returns-clause-fits
returns-clause-fits c =
    let given : Given c.args.terms.now = record {
      laws = c.term_laws.ensures;
      formula = subst (λ (f : Formula). IsTrue (is_formula f)) c.terms.ensures.value c.nodes-nodes.ensures.kept;
      plain = c.terms.ensures.kept;
    } in
    let nodes : c.nodes-nodes.result.now ≡ c.args.terms.now.nodes = c.nodes-nodes.ensures.value ∙ ap (λ (f : Formula). f.nodes) c.terms.ensures.value in
    let listed : c.as_slice.result.now ≡ variables c.args.terms.now.nodes = c.as_slice.ensures ∙ c.in_ok-variables.ensures ∙ ap variables nodes in
    let is : c.in_ok-values.values ≡ atoms_read (variables c.args.terms.now.nodes) c.args.bits.now =
    c.in_ok-values.ensures ∙ ap (λ (vs : List TermVariable). atoms_read vs c.args.bits.now) listed in
    let back : Back c.args.terms.now c.in_ok-values.values c.args.bits.now =
    subst (λ (xs : List Atom). Back c.args.terms.now xs c.args.bits.now) (sym is) (read_right c.args.terms.now c.args.bits.now given c.requires) in
    back.fit

pub returns-clause-bits : goal.returns-clause-bits
returns-clause-bits c =
    let given : Given c.args.terms.now = record {
      laws = c.term_laws.ensures;
      formula = subst (λ (f : Formula). IsTrue (is_formula f)) c.terms.ensures.value c.nodes-nodes.ensures.kept;
      plain = c.terms.ensures.kept;
    } in
    let nodes : c.nodes-nodes.result.now ≡ c.args.terms.now.nodes = c.nodes-nodes.ensures.value ∙ ap (λ (f : Formula). f.nodes) c.terms.ensures.value in
    let listed : c.as_slice.result.now ≡ variables c.args.terms.now.nodes = c.as_slice.ensures ∙ c.in_ok-variables.ensures ∙ ap variables nodes in
    let is : c.in_ok-values.values ≡ atoms_read (variables c.args.terms.now.nodes) c.args.bits.now =
    c.in_ok-values.ensures ∙ ap (λ (vs : List TermVariable). atoms_read vs c.args.bits.now) listed in
    let back : Back c.args.terms.now c.in_ok-values.values c.args.bits.now =
    subst (λ (xs : List Atom). Back c.args.terms.now xs c.args.bits.now) (sym is) (read_right c.args.terms.now c.args.bits.now given c.requires) in
    back.bits

pub returns-clause-holds : goal.returns-clause-holds
returns-clause-holds c = λ net meant.
    let given : Given c.args.terms.now = record {
      laws = c.term_laws.ensures;
      formula = subst (λ (f : Formula). IsTrue (is_formula f)) c.terms.ensures.value c.nodes-nodes.ensures.kept;
      plain = c.terms.ensures.kept;
    } in
    let nodes : c.nodes-nodes.result.now ≡ c.args.terms.now.nodes = c.nodes-nodes.ensures.value ∙ ap (λ (f : Formula). f.nodes) c.terms.ensures.value in
    let listed : c.as_slice.result.now ≡ variables c.args.terms.now.nodes = c.as_slice.ensures ∙ c.in_ok-variables.ensures ∙ ap variables nodes in
    let is : c.in_ok-values.values ≡ atoms_read (variables c.args.terms.now.nodes) c.args.bits.now =
    c.in_ok-values.ensures ∙ ap (λ (vs : List TermVariable). atoms_read vs c.args.bits.now) listed in
    let back : Back c.args.terms.now c.in_ok-values.values c.args.bits.now =
    subst (λ (xs : List Atom). Back c.args.terms.now xs c.args.bits.now) (sym is) (read_right c.args.terms.now c.args.bits.now given c.requires) in
    ap (λ (ins : List Bool). value ins net.gates.items net.root) (sym back.bits) ∙ meant.means (assigned c.args.terms.now.nodes c.in_ok-values.values) back.fit
