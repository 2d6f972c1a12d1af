-- The flat program of row 5 is one, so the laws speak of it: its failing list has a tree, and its failing tree a list.
use Rattle.std.proofs.Common.{◌≡◌, ℕ, zero, suc, ◌<◌, true, List, [], ◌∷◌, ◌⊎◌, inl, inr, refl, arith, ap, sym, ◌∙◌, subst}
use Rattle.std.specs.Prelude.{Option, Some, slice_get, Contains, slice_index_or, IsTrue}
use Rattle.flat_prog.specs.Shape.{IsFlat, IsFlatProc, place_of, is_loop_kind}
use Rattle.flat_prog.specs.Caps.{kind_of}
use Rattle.flat_prog.specs.Runs.{FailsIn, IsFull}
use Rattle.flat_prog.specs.Trees.{Run}
use Rattle.flat_prog.specs.declared.block.FlatNext.TheVariants.{Goto}
use Rattle.flat_prog.specs.declared.proc.FlatProc.{FlatProc}
use Rattle.extract_law.proofs.ListsToTrees.{lists_have_trees}
use Rattle.extract_law.proofs.RowTree.{list_fails}
use Rattle.extract_def.proofs.Rows.{row5}
use Rattle.extract_def.specs.Extraction.{flat_of}

one_target : (a place to : ℕ) (ns : List ℕ) → Contains ns a → place_of (Goto (a ∷ [])) place ≡ Some to → Contains ns to
one_target a zero to ns h e = let same : a ≡ to = cc in subst (Contains ns) same h
one_target a (suc place) to ns h e = absurd cc

two_targets : (a b place to : ℕ) (ns : List ℕ) → Contains ns a → Contains ns b → place_of (Goto (a ∷ b ∷ [])) place ≡ Some to → Contains ns to
two_targets a b zero to ns h k e = let same : a ≡ to = cc in subst (Contains ns) same h
two_targets a b (suc zero) to ns h k e = let same : b ≡ to = cc in subst (Contains ns) same k
two_targets a b (suc (suc place)) to ns h k e = absurd cc

four : (n : ℕ) → n < 4 → (n ≡ 0) ⊎ ((n ≡ 1) ⊎ ((n ≡ 2) ⊎ (n ≡ 3)))
four zero lt = inl refl
four (suc zero) lt = inr (inl refl)
four (suc (suc zero)) lt = inr (inr (inl refl))
four (suc (suc (suc zero))) lt = inr (inr (inr refl))
four (suc (suc (suc (suc n)))) lt = absurd (omega (arith, lt))

all_four : (ns : List ℕ) → Contains ns 0 → Contains ns 1 → Contains ns 2 → Contains ns 3 → (n : ℕ) → n < 4 → Contains ns n
all_four ns a b c d n lt = at (four n lt)
  where
    at : (n ≡ 0) ⊎ ((n ≡ 1) ⊎ ((n ≡ 2) ⊎ (n ≡ 3))) → Contains ns n
    at (inl e) = subst (Contains ns) (sym e) a
    at (inr (inl e)) = subst (Contains ns) (sym e) b
    at (inr (inr (inl e))) = subst (Contains ns) (sym e) c
    at (inr (inr (inr e))) = subst (Contains ns) (sym e) d

each_fits : (k : ℕ) (d : FlatProc) → k < 2 → IsFlatProc (flat_of row5) (slice_index_or (flat_of row5).procs k d)
each_fits zero d lt = record {
  variables = refl;
  some = refl;
  blocks = refl;
  loop_outs = tt;
  acyclic = record {
    order = 0 ∷ 1 ∷ 3 ∷ 2 ∷ [];
    onward = (λ place to e. one_target 1 place to (1 ∷ 3 ∷ 2 ∷ []) (0, omega arith, refl) e, (λ place to e. one_target 3 place to (3 ∷ 2 ∷ []) (0, omega arith, refl) e, (λ place to e. one_target 2 place to (2 ∷ []) (0, omega arith, refl) e, (λ place to e. absurd cc, tt))));
    every = all_four (0 ∷ 1 ∷ 3 ∷ 2 ∷ []) (0, omega arith, refl) (1, omega arith, refl) (3, omega arith, refl) (2, omega arith, refl);
  };
}
each_fits (suc zero) d lt = record {
  variables = refl;
  some = refl;
  blocks = refl;
  loop_outs = refl;
  acyclic = record {
    order = 0 ∷ 1 ∷ 2 ∷ 3 ∷ [];
    onward = (λ place to e. two_targets 1 2 place to (1 ∷ 2 ∷ 3 ∷ []) (0, omega arith, refl) (1, omega arith, refl) e, (λ place to e. one_target 3 place to (2 ∷ 3 ∷ []) (1, omega arith, refl) e, (λ place to e. absurd cc, (λ place to e. absurd cc, tt))));
    every = all_four (0 ∷ 1 ∷ 2 ∷ 3 ∷ []) (0, omega arith, refl) (1, omega arith, refl) (2, omega arith, refl) (3, omega arith, refl);
  };
}
each_fits (suc (suc k)) d lt = absurd (omega (arith, lt))

row5_is_flat : IsFlat (flat_of row5)
row5_is_flat = record {
  consts = refl;
  globals = refl;
  uniques = refl;
  axioms = refl;
  few = refl;
  procs = each_fits;
  loops = record { order = 1 ∷ []; onward = (λ q called to a b k c. only called to b k, tt); every = λ p q a k. itself q p a k };
}
  where
    only : (called : FlatProc) (to : ℕ) → slice_get (flat_of row5).procs to ≡ Some called → IsTrue (is_loop_kind called.kind) → (to ≡ 1) ⊎ Contains [] to
    only called zero b k = absurd (let e : is_loop_kind (slice_index_or (flat_of row5).procs 0 called).kind ≡ true = ap (λ (o : Option FlatProc). is_loop_kind (kind_of o)) b ∙ k in cc)
    only called (suc zero) b k = inl refl
    only called (suc (suc to)) b k = absurd cc

    itself : (q : FlatProc) (p : ℕ) → slice_get (flat_of row5).procs p ≡ Some q → IsTrue (is_loop_kind q.kind) → Contains (1 ∷ []) p
    itself q zero b k = absurd (let e : is_loop_kind (slice_index_or (flat_of row5).procs 0 q).kind ≡ true = ap (λ (o : Option FlatProc). is_loop_kind (kind_of o)) b ∙ k in cc)
    itself q (suc zero) b k = (0, omega arith, refl)
    itself q (suc (suc p)) b k = absurd cc

-- some tree in the full inlining fails
row5_tree : (run : Run) × IsFull (flat_of row5) 0 3 run × FailsIn (flat_of row5) 0 run 0 1
row5_tree = lists_have_trees row5 refl row5_is_flat 0 3 (omega arith) _ 0 1 list_fails
