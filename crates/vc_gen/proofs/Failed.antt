-- A procedure fails at one assert or call, and its asserts are those of its blocks.
use Rattle.std.proofs.Common.{◌≡◌, ℕ, ◌+◌, false, ◌||◌, refl, List, [], ◌∷◌, ◌++◌, map, length, sym, ◌∙◌, ap}
use Rattle.std.specs.Prelude.{Some}
use Rattle.hy_val.specs.Values.{is_on}
use Rattle.hy_term.specs.Meaning.{value}
use Rattle.hy_term.specs.declared.node.TermNode.{TermNode}
use Rattle.flat_prog.specs.Program.{variables_of}
use Rattle.flat_prog.specs.declared.proc.FlatProc.{FlatProc}
use Rattle.passive_form.specs.Laws.{AllThere}
use Rattle.passive_form.specs.Limited.{Limited}
use Rattle.passive_form.specs.Making.{passive_of}
use Rattle.vc_gen.specs.Breaking.{any_breaks}
use Rattle.vc_gen.specs.Fold.{Edge, seen}
use Rattle.vc_gen.specs.Inputs.{givens_at}
use Rattle.vc_gen.specs.Edges.{env_at}
use Rattle.vc_gen.specs.Instance.{all_at, edges_at, start_sorts, first_edge}
use Rattle.vc_gen.specs.Singly.{true_asserts, failed_sites, one_if, count_breaks, FailsOnce, assert_place, asserts_laid}
use Rattle.vc_gen.specs.declared.parts.Actuals.{Actuals}
use Rattle.vc_gen.specs.declared.parts.Draft.{Draft}
use Rattle.vc_gen.specs.declared.parts.EdgeTerm.{EdgeTerm}
use Rattle.vc_gen.specs.declared.parts.FailTerm.{FailTerm}
use Rattle.vc_gen.specs.declared.parts.SiteTerm.{SiteTerm}
use Rattle.vc_gen.specs.declared.parts.Wait.{Wait}
use Rattle.vc_gen.proofs.Assembling.{Parts, start_stage, wait_from}
use Rattle.vc_gen.proofs.Checked.{none_checked, start_checked, order_checked}
use Rattle.vc_gen.proofs.Counting.{counted_later}
use Rattle.vc_gen.proofs.Ends.{first_one}
use Rattle.vc_gen.proofs.Joining.{fits_before}
use Rattle.vc_gen.proofs.Opening.{start_chosen, start_quiet}
use Rattle.vc_gen.proofs.Passes.{bit_later}
use Rattle.vc_gen.proofs.Placed.{none_laid, start_laid}
use Rattle.vc_gen.proofs.Singling.{at_most_one}
use Rattle.vc_gen.proofs.Stepping.{vals_at, meant_at}

module _ (flat : Limited) (q : FlatProc) (order : List ℕ) (old n2 n3 n4 new : List TermNode) (actuals : Actuals) (k lit1 lit0 : ℕ) (e g : Draft) (edges : List EdgeTerm) (left : List Wait) (end : Wait)
    (there : AllThere flat q order) (h : Parts old n2 n3 n4 new (passive_of flat q order) actuals k lit1 lit0 e g edges left end) where
  no_sites : h.step.sites ≡ []
  no_sites = none_laid h.step.sites (h.step.laid ∙ start_laid flat q q.kind 0 0 k)

  no_asserts : h.step.asserts ≡ []
  no_asserts = none_checked h.step.asserts (h.step.checked ∙ start_checked flat q q.kind 0)

  sites_are : g.sites ≡ h.went.sites
  sites_are = h.went.sites_are ∙ ap (λ r. r ++ h.went.sites) (h.step.sites_behind ∙ no_sites)

  asserts_are : g.asserts ≡ h.went.asserts
  asserts_are = h.went.asserts_are ∙ ap (λ r. r ++ h.went.asserts) (h.step.asserts_behind ∙ no_asserts)

  pub asserts_of_all : map assert_place g.asserts ≡ asserts_laid q order
  asserts_of_all = ap (map assert_place) asserts_are ∙ h.went.checked ∙ order_checked flat q order

  pub fails_once : FailsOnce new g.fails g.asserts g.sites
  fails_once a f =
      let p = passive_of flat q order in
      let first = wait_from e.versions p.start lit1 in
      let stage3 = start_stage old n2 n3 p actuals k lit1 lit0 e h.ready h.begun h.step in
      let says = h.went.says flat q order refl there stage3 h.ready.fit.blocks in
      let env = env_at a n3 (all_at a n3 actuals.consts) first.globals first.locals in
      let stage4 = h.went.stage flat.consts flat.globals (variables_of q) stage3 h.ready.fit.blocks in
      let f4 = fits_before a n4 new h.later f in
      let f3 = fits_before a n3 n4 h.went.later f4 in
      let next_is : e.next ≡ k + length (start_sorts q q.kind) = h.step.next ∙ ap (λ ss. k + length ss) (start_chosen flat q q.kind) in
      let first_is : edges_at a n3 (all_at a n3 actuals.consts) (first ∷ []) ≡ first_edge env =
      ap {B = List Edge} (λ x. record { target = Some 0; live = x; env = env } ∷ []) (bit_later n2 n3 a lit1 h.step.later h.begun.yes_is.sort ∙ h.begun.yes_is.means a) in
      let gs = givens_at flat q a (k + length (start_sorts q q.kind)) order in
      let count : length (true_asserts a n4 h.went.asserts) + length (failed_sites a n4 h.went.sites) ≡ count_breaks flat q (seen flat q env gs (first_edge env)) =
      says.single a env f4 ∙ ap (λ x. count_breaks flat q (seen flat q env (givens_at flat q a x order) (edges_at a n3 (all_at a n3 actuals.consts) (first ∷ [])))) next_is
      ∙ ap (λ x. count_breaks flat q (seen flat q env gs x)) first_is in
      let said = h.step.says a (all_at a n3 actuals.consts) (vals_at a n3 e.versions) f3 (meant_at a n3 actuals.consts e.versions) in
      let none : is_on (value a n3 e.fails) ≡ false =
      said.fails ∙ start_quiet flat q q.kind (all_at a n3 actuals.consts) (vals_at a n3 e.versions) (is_on (value a n2 lit1)) (is_on (value a n2 lit0)) ∙ h.begun.no_is.means a in
      let bit : is_on (value a new g.fails) ≡ any_breaks flat q (seen flat q env gs (first_edge env)) =
      bit_later n4 new a g.fails h.later stage4.fails ∙ says.fails a env f4
      ∙ ap (λ x. x || any_breaks flat q (seen flat q env (givens_at flat q a e.next order) (edges_at a n3 (all_at a n3 actuals.consts) (first ∷ [])))) none
      ∙ ap (λ x. any_breaks flat q (seen flat q env (givens_at flat q a x order) (edges_at a n3 (all_at a n3 actuals.consts) (first ∷ [])))) next_is ∙ ap (λ x. any_breaks flat q (seen flat q env gs x)) first_is in
      ap (λ (fs : List FailTerm). length (true_asserts a new fs) + length (failed_sites a new g.sites)) asserts_are
      ∙ ap (λ (ss : List SiteTerm). length (true_asserts a new h.went.asserts) + length (failed_sites a new ss)) sites_are
      ∙ counted_later n4 new a h.went.asserts h.went.sites h.later h.went.asserts_there h.went.sites_there ∙ count
      ∙ at_most_one flat q env gs (first_edge env) 0 env (first_one env) ∙ sym (ap one_if bit)
