-- What a thought has.
use Rattle.std.proofs.Common.{◌≡◌, ℕ, length, get_or, ◌<◌, ◌≤◌, Bool, true, false, ◌&&◌, List, [], ◌∷◌, slice_get, refl, sym, ap, ◌∙◌, subst, true≢false, Some, arith}
use Rattle.std.specs.Prelude.{filter, nat_le}
use Rattle.std.proofs.lemmas.Bool.{and_from, or_right, leb-true, le-leb}
use Rattle.call_tree.specs.declared.piece.Decision2.{Decision2}
use Rattle.call_tree.specs.Trees.{has_path, are_in}
use Rattle.call_tree.specs.Pieces.{undecided_of}
use Rattle.call_tree.specs.Questions.{frees_of}
use Rattle.call_tree.specs.Laws.{InlineLaw, passed_of}
use Rattle.call_tree.proofs.PartTrees.{filter_has, has_head}
use Rattle.flat_prog.specs.Trees.{Run}
use Rattle.piece_core.specs.declared.tasks.Task.{Task}
use Rattle.piece_core.specs.Shapes.{has_some, is_due}
use Rattle.piece_core.specs.Evidence.{Over, MayInline, MaySplit}
use Rattle.tree_query.specs.Asking.{MayAsk}
use Rattle.engine.specs.Engine.{MayThink, NoUnder}

pub may_ask : (task : Task) (tree : List (List ℕ)) (piece : List (List ℕ × Decision2)) → MayThink task tree piece → MayAsk task.flat task.entry task.bound tree piece
may_ask task tree piece h = record { entry_is = h.opens.entry_is; fits = h.fits; named = h.named }

has_one : (ps : List (List ℕ)) (p : List ℕ) → has_path ps p ≡ true → has_some ps ≡ true
has_one [] p h = absurd (true≢false (sym h))
has_one (q ∷ qs) p h = refl

-- each path that passes a test is among those that have it
tested_in : (ps : List (List ℕ)) (frees : List (List ℕ)) → are_in (filter (has_path frees) ps) frees ≡ true
tested_in ps frees = from (filter (has_path frees) ps) (λ p at. (filter_has (has_path frees) ps p at).0)
  where
    from : (qs : List (List ℕ)) → ((p : List ℕ) → has_path qs p ≡ true → has_path frees p ≡ true) → are_in qs frees ≡ true
    from [] h = refl
    from (q ∷ qs) h = and_from (has_path frees q) (are_in qs frees) (h q (has_head q qs)) (from qs (λ p at. h p (or_right _ (has_path qs p) at)))

-- the open sites that a member of over passes may be inlined
pub may_inline : InlineLaw → (task : Task) (tree : List (List ℕ)) (piece : List (List ℕ × Decision2)) (inlined : ℕ) (sites : List (List ℕ)) (run : Run) → MayThink task tree piece → NoUnder task tree piece → Over task tree piece run
    → is_due task.grain tree piece inlined ≡ false → sites ≡ passed_of task.flat task.entry task.bound tree run → MayInline task tree piece inlined sites run × (sites ≡ passed_of task.flat task.entry task.bound tree run)
may_inline law task tree piece inlined sites run may none over undue is =
    let can = law task.flat task.entry task.bound tree piece run may.fits over none in
    let passed = passed_of task.flat task.entry task.bound tree run in (
      subst (λ (ss : List (List ℕ)). MayInline task tree piece inlined ss run) (sym is)
          (record {
            undue = undue;
            can = and_from (has_some passed) _ (has_one passed can.some.0 can.some.1) (and_from (are_in passed _) _ can.opens can.differ);
            no_under = none;
            over = over;
            passes = tested_in _ (frees_of run task.flat []);
          }),
      is,
    )

-- below the grain nothing is due
pub not_due : (task : Task) (tree : List (List ℕ)) (piece : List (List ℕ × Decision2)) (inlined : ℕ) → inlined < task.grain → is_due task.grain tree piece inlined ≡ false
not_due task tree piece inlined less = ap (λ (b : Bool). b && has_some (undecided_of tree piece)) (le_false task.grain inlined less)
  where
    le_false : (m n : ℕ) → n < m → nat_le m n ≡ false
    le_false m n h = by (nat_le m n) refl
      where
        by : (b : Bool) → nat_le m n ≡ b → b ≡ false
        by false e = refl
        by true e = absurd (omega (arith, h, leb-true m n e))

-- a due sight may be split on the first undecided site
pub may_split : (task : Task) (tree : List (List ℕ)) (piece : List (List ℕ × Decision2)) (inlined : ℕ) (sites : List (List ℕ)) (first site : List ℕ) → sites ≡ undecided_of tree piece → 1 ≤ length sites → first ≡ get_or sites 0 first → site ≡ first → task.grain ≤ inlined
    → MaySplit task tree piece inlined site × (slice_get (undecided_of tree piece) 0 ≡ Some site)
may_split task tree piece inlined [] first site is some at same grain = absurd (omega (arith, some))
may_split task tree piece inlined (x ∷ xs) first site is some at same grain =
    let one : x ≡ site = sym (same ∙ at) in (
      record {
        due = and_from (nat_le task.grain inlined) (has_some (undecided_of tree piece)) (le-leb task.grain inlined grain) (ap has_some (sym is));
        free = subst (λ (ps : List (List ℕ)). has_path ps site ≡ true) is (subst (λ (p : List ℕ). has_path (x ∷ xs) p ≡ true) one (has_head x xs));
      },
      ap (λ (ps : List (List ℕ)). slice_get ps 0) (sym is) ∙ ap Some one,
    )
