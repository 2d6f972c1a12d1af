-- Whatever is reached meets exactly one end's piece, so nothing fails where all are closed.
use Rattle.std.proofs.Common.{◌≡◌, ℕ, ◌+◌, Bool, true, false, not, ◌&&◌, cond, List, [], ◌∷◌, ◌++◌, count_by, refl, sym, ap, ◌∙◌, arith, ⊎_elim}
use Rattle.std.proofs.lemmas.List.Sums.{sum_by-append}
use Rattle.std.proofs.lemmas.Bool.{cases_Bool}
use Rattle.flat_prog.specs.Program.{FlatProgram}
use Rattle.flat_prog.specs.Shape.{IsFlat}
use Rattle.flat_prog.specs.Trees.{Run}
use Rattle.flat_prog.specs.Runs.{IsFull, FailsIn}
use Rattle.call_tree.specs.declared.piece.Decision2.{Decision2}
use Rattle.call_tree.specs.declared.piece.Decision2.TheVariants.{Must, Avoid}
use Rattle.call_tree.specs.Pieces.{reaches, is_kept, meets}
use Rattle.call_tree.specs.Splits.{Splits, leaf, split, pieces_of, CoverLaw, IsClosed, AllClosed, SafeLaw}
use Rattle.call_tree.specs.Laws.{OverLaw}

and_assoc : (a b c : Bool) → ((a && b) && c) ≡ (a && (b && c))
and_assoc true b c = refl
and_assoc false b c = refl

and_one : (b : Bool) → (b && true) ≡ b
and_one true = refl
and_one false = refl

-- one decision more
pub meets_more : (reached : List ℕ → Bool) (piece : List (List ℕ × Decision2)) (d : List ℕ × Decision2) → meets reached (piece ++ d ∷ []) ≡ (meets reached piece && is_kept reached d)
meets_more reached [] d = and_one (is_kept reached d)
meets_more reached (e ∷ piece) d = ap (λ b. is_kept reached e && b) (meets_more reached piece d) ∙ sym (and_assoc (is_kept reached e) (meets reached piece) (is_kept reached d))

both_ways_once : (m r : Bool) → cond (m && r) 1 0 + cond (m && not r) 1 0 ≡ cond m 1 0
both_ways_once true true = refl
both_ways_once true false = refl
both_ways_once false true = refl
both_ways_once false false = refl

pub ends_cover : (reached : List ℕ → Bool) (splits : Splits) (piece : List (List ℕ × Decision2)) → count_by (meets reached) (pieces_of splits piece) ≡ cond (meets reached piece) 1 0
ends_cover reached leaf piece = let e : 0 + cond (meets reached piece) 1 0 ≡ cond (meets reached piece) 1 0 = omega arith in e
ends_cover reached (split site must avoid) piece =
    sum_by-append (λ p. cond (meets reached p) 1 0) (pieces_of must (piece ++ (site, Must) ∷ [])) (pieces_of avoid (piece ++ (site, Avoid) ∷ []))
    ∙ (rw (ends_cover reached must (piece ++ (site, Must) ∷ []), ends_cover reached avoid (piece ++ (site, Avoid) ∷ []), meets_more reached piece (site, Must), meets_more reached piece (site, Avoid)) (both_ways_once (meets reached piece) (reached site)))

pub cover : CoverLaw
cover reached splits = ends_cover reached splits []

-- going down to the end whose piece is met
met_end : (flat : FlatProgram) (entry bound : ℕ) (reached : List ℕ → Bool) (splits : Splits) (piece : List (List ℕ × Decision2)) → meets reached piece ≡ true → AllClosed flat entry bound (pieces_of splits piece) →
    (met : List (List ℕ × Decision2)) × (meets reached met ≡ true) × IsClosed flat entry bound met
met_end flat entry bound reached leaf piece h closed = (piece, h, closed.0)
met_end flat entry bound reached (split site must avoid) piece h closed =
    ⊎_elim
    (λ r. met_end flat entry bound reached must (piece ++ (site, Must) ∷ []) (meets_more reached piece (site, Must) ∙ both (meets reached piece) (reached site) h r) parts.0)
    (λ r. met_end flat entry bound reached avoid (piece ++ (site, Avoid) ∷ []) (meets_more reached piece (site, Avoid) ∙ both (meets reached piece) (not (reached site)) h (ap not r)) parts.1)
    (cases_Bool (reached site))
  where
    both : (a b : Bool) → a ≡ true → b ≡ true → (a && b) ≡ true
    both a b h k = ap (λ x. x && b) h ∙ k

    closed_parts : (xs ys : List (List (List ℕ × Decision2))) → AllClosed flat entry bound (xs ++ ys) → AllClosed flat entry bound xs × AllClosed flat entry bound ys
    closed_parts [] ys all = (tt, all)
    closed_parts (x ∷ xs) ys all = let r = closed_parts xs ys all.1 in ((all.0, r.0), r.1)

    parts : AllClosed flat entry bound (pieces_of must (piece ++ (site, Must) ∷ [])) × AllClosed flat entry bound (pieces_of avoid (piece ++ (site, Avoid) ∷ []))
    parts = closed_parts (pieces_of must (piece ++ (site, Must) ∷ [])) (pieces_of avoid (piece ++ (site, Avoid) ∷ [])) closed

-- a closed piece is met by no failing run within the caps
pub closed_leaf : OverLaw → (flat : FlatProgram) (entry bound : ℕ) (piece : List (List ℕ × Decision2)) (run : Run) (proc number : ℕ) → IsFlat flat → IsClosed flat entry bound piece → IsFull flat entry bound run → FailsIn flat entry run proc number →
    meets (reaches flat run) piece ≡ true → ⊥
closed_leaf over flat entry bound piece run proc number fits c full fails meet =
    let r = over flat entry bound c.tree piece run proc number fits c.is c.names full fails meet in c.none r.0 r.1

pub safe : OverLaw → SafeLaw
safe over flat entry bound splits fits closed run proc number full fails =
    let m = met_end flat entry bound (reaches flat run) splits [] refl closed in
    closed_leaf over flat entry bound m.0 run proc number fits m.2 full fails m.1
