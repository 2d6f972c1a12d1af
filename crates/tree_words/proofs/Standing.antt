-- The terms of a question can hold exactly where it has a member.
use Rattle.std.proofs.Common.{◌≡◌, ℕ, Bool, true, List, [], refl, ap, ◌∙◌, subst}
use Rattle.std.specs.Prelude.{IsTrue, slice_get, Option, Some}
use Rattle.hy_val.specs.declared.value.Value.{Value}
use Rattle.flat_prog.specs.declared.proc.FlatProc.{FlatProc}
use Rattle.hy_term.specs.Formula.{Formula}
use Rattle.hy_term.specs.Meaning.{CanHold, fits, holds}
use Rattle.hy_term.specs.Laws.{VariablesAloneMatter}
use Rattle.flat_prog.specs.Program.{FlatProgram}
use Rattle.flat_prog.specs.Changes.{MayBe}
use Rattle.flat_prog.specs.Local.{Request, have_sorts}
use Rattle.flat_prog.specs.Runs.{are_allowed}
use Rattle.flat_prog.specs.Trees.{Run, is_whole}
use Rattle.call_tree.specs.declared.piece.Decision2.{Decision2}
use Rattle.tree_words.specs.View.{SiteView, NodeView}
use Rattle.tree_words.specs.Question.{IsMember}
use Rattle.tree_words.specs.Compose.{Returned, Composed}
use Rattle.tree_words.specs.Whole.{RootSays}
use Rattle.tree_words.specs.Said.{Says}
use Rattle.tree_words.specs.Built.{built, root_run}
use Rattle.tree_words.specs.Template.{Template, called_with, node_values, viewer_of}
use Rattle.tree_terms.specs.Standing.{all_at}
use Rattle.tree_words.specs.Stands.{IsQuestion, views_at, ins_at, args_fit}
use Rattle.tree_words.proofs.Bridge.{composed}
use Rattle.tree_words.proofs.Composing.{composed_members}
use Rattle.tree_words.proofs.Complete.{choices}

root_says : (flat : FlatProgram) (is_node is_open : List ℕ → Bool) (blocked : Bool) (piece : List (List ℕ × Decision2)) (free_values : SiteView → List Value) (height : ℕ) (consts : List Value) (root : Request) (view : List ℕ → NodeView) (run : Run) → (blocked ≡ true → is_whole run ≡ true)
    → Says flat is_node is_open piece free_values height consts root view run → RootSays is_node is_open blocked piece view
root_says flat is_node is_open blocked piece free_values height consts root view run whole s = record { fails = s.fails; over = s.over; sites = s.sites; closed = λ b. s.whole (whole b); meet = s.meet }

module _ (alone : VariablesAloneMatter) (flat : FlatProgram) (entry : ℕ) (is_node is_open : List ℕ → Bool) (blocked : Bool) (free_values : SiteView → List Value) (height : ℕ) (piece : List (List ℕ × Decision2)) (f : Formula)
    (template : List ℕ → Template) (put place : List ℕ → ℕ → ℕ) (consts : List ℕ) (globals args : List ℕ → List ℕ) (proc : List ℕ → ℕ) (callee : List ℕ → ℕ → ℕ)
    (own_ok : List ℕ → (ℕ → Value) → Bool) (free_ok : List ℕ → ℕ → Returned → Bool) (call_ok : List ℕ → Request → Bool) (back : (ℕ → Value) → List ℕ → ℕ → Returned)
    (q : IsQuestion flat entry is_node is_open blocked free_values height piece f template put place consts globals args proc callee own_ok free_ok call_ok back) where
  pub read_off : (a : ℕ → Value) → IsTrue (fits a f.nodes) → holds a f ≡ true
      → IsMember flat entry (MayBe flat) is_node is_open piece (root_run (all_at a f.nodes consts) (called_with a f.nodes globals args proc []) (built height flat is_node free_values (views_at a f template put) []))
      × (blocked ≡ true → is_whole (root_run (all_at a f.nodes consts) (called_with a f.nodes globals args proc []) (built height flat is_node free_values (views_at a f template put) [])) ≡ true)
  read_off a fit hold =
      let says = (q.root a fit).0 hold in
      let s = q.sorts a fit in
      let values = all_at a f.nodes consts in
      let comp = composed alone is_node template f.nodes put place consts globals args proc q.composite a fit (λ p. node_values a f.nodes put p) (back a) s.agrees free_ok q.tree.closed s.frees in
      composed_members flat entry is_node is_open blocked free_values height piece values (λ p. viewer_of values (template p)) own_ok free_ok call_ok
      (called_with a f.nodes globals args proc []) (λ p. node_values a f.nodes put p) (back a) (called_with a f.nodes globals args proc) (views_at a f template put)
      (q.sound values s.consts_fit) (q.keeps values) q.tree q.names
      (record { proc = q.entry_is; consts_fit = s.consts_fit; allowed = says.1 })
      comp (record { owns = s.owns; calls = s.calls }) says.0

  pub sound : CanHold f → (run : Run) × IsMember flat entry (MayBe flat) is_node is_open piece run × (blocked ≡ true → is_whole run ≡ true)
  sound (a, fit, hold) =
      let m = read_off a fit hold in
      (root_run (all_at a f.nodes consts) (called_with a f.nodes globals args proc []) (built height flat is_node free_values (views_at a f template put) []), m.0, m.1)

  entry_args : (args : List Value) (p : FlatProc) → slice_get flat.procs entry ≡ Some p → have_sorts args p.ins ≡ true → args_fit flat entry args ≡ true
  entry_args args p is fit = ap (λ (o : Option FlatProc). have_sorts args (ins_at o)) is ∙ fit

  -- an assignment off which this member is read
  pub member_read : (run : Run) → IsMember flat entry (MayBe flat) is_node is_open piece run → (blocked ≡ true → is_whole run ≡ true)
      → (a : ℕ → Value) × IsTrue (fits a f.nodes) × (holds a f ≡ true)
      × (root_run (all_at a f.nodes consts) (called_with a f.nodes globals args proc []) (built height flat is_node free_values (views_at a f template put) []) ≡ run)
  member_read run m whole =
      let values = m.fails.consts in
      let root : Request = record { proc = entry; globals = m.fails.globals; args = m.fails.args } in
      let c = choices flat entry is_node is_open free_values height piece (λ p. viewer_of values (template p)) own_ok free_ok callee proc run m (q.complete values m.fails.consts_fit) q.tree q.names in
      let g = q.assigns values root c.0 c.1 m.fails.consts_fit refl (q.root_ok root refl m.fails.globals_fit (entry_args m.fails.args m.fails.proc m.fails.proc_is m.fails.args_fit)) c.2 c.3 in
      let comp = composed alone is_node template f.nodes put place consts globals args proc q.composite g.a g.fits c.0 c.1 g.agrees free_ok q.tree.closed g.frees in
      let comp_values : Composed is_node (λ p. viewer_of values (template p)) (λ p i ret. free_ok p i ret ≡ true) root c.0 c.1 (called_with g.a f.nodes globals args proc) (views_at g.a f template put) =
      subst (λ (r : Request). Composed is_node (λ p. viewer_of values (template p)) (λ p i ret. free_ok p i ret ≡ true) r c.0 c.1 (called_with g.a f.nodes globals args proc) (views_at g.a f template put)) g.root_is
      (subst (λ (vs : List Value). Composed is_node (λ p. viewer_of vs (template p)) (λ p i ret. free_ok p i ret ≡ true) (called_with g.a f.nodes globals args proc []) c.0 c.1
      (called_with g.a f.nodes globals args proc) (views_at g.a f template put)) g.consts_are comp) in
      let says = c.4 (called_with g.a f.nodes globals args proc) (views_at g.a f template put) comp_values in (
        g.a,
        g.fits,
        (q.root g.a g.fits).1 (root_says flat is_node is_open blocked piece free_values height values root (views_at g.a f template put) run whole says, ap (are_allowed flat) g.consts_are ∙ m.fails.allowed),
        ap (λ (vs : List Value). root_run vs (called_with g.a f.nodes globals args proc []) (built height flat is_node free_values (views_at g.a f template put) [])) g.consts_are
            ∙ (ap (λ (r : Request). root_run values r (built height flat is_node free_values (views_at g.a f template put) [])) g.root_is ∙ says.is),
      )

  pub complete : (run : Run) → IsMember flat entry (MayBe flat) is_node is_open piece run → (blocked ≡ true → is_whole run ≡ true) → CanHold f
  complete run m whole = let r = member_read run m whole in (r.0, r.1, r.2)
