-- Where a search has ended the verdict stands.
use Rattle.std.proofs.Common.{◌≡◌, inl, inr, ℕ, ◌+◌, Bool, true, false, List, [], ◌∷◌, refl, sym, ap, ◌∙◌, true≢false, Some}
use Rattle.std.specs.Prelude.{Option, None, All, ◌≢◌}
use Rattle.std.proofs.lemmas.Option.{none-some}
use Rattle.std.proofs.lemmas.Bool.{and_from}
use Rattle.std.proofs.lemmas.List.Elements.{All-head, All-tail}
use Rattle.piece_core.specs.declared.leaves.Leaf.{Leaf}
use Rattle.piece_core.specs.declared.leaves.StatusKind.{StatusKind}
use Rattle.piece_core.specs.declared.leaves.StatusKind.TheVariants.{Live as LiveKind, Closed as ClosedKind, Found as FoundKind, Split as SplitKind}
use Rattle.piece_core.specs.declared.verdicts.Verdict2.{Verdict2}
use Rattle.piece_core.specs.declared.verdicts.Verdict2.TheVariants.{Bug, Safe, Unfinished}
use Rattle.piece_core.specs.Shapes.{Shape, is_live, is_found}
use Rattle.piece_core.specs.Evidence.{kind_of, shape_of, shapes_of}
use Rattle.piece_core.specs.Book.{Ledger, IsFoundFirst, IsSound, all_closed, first_found, is_closed, least_live, live_or, verdict_of, verdict_with}
use Rattle.engine.specs.Engine.{IsEnded}

abbrev is_unfinished : Verdict2 → Bool
is_unfinished (Bug node) = false
is_unfinished Safe = false
is_unfinished Unfinished = true

-- a verdict that is not Unfinished
stands : (v : Verdict2) → is_unfinished v ≡ false → v ≢ Unfinished
stands v h e = true≢false (sym (ap is_unfinished e) ∙ h)

settled : (s : StatusKind) → is_live s ≡ false → is_found s ≡ false → is_closed s ≡ true
settled LiveKind live found = absurd (true≢false live)
settled ClosedKind live found = refl
settled FoundKind live found = absurd (true≢false found)
settled SplitKind live found = refl

-- no leaf is live where there is no least one
none_live : (k : ℕ) (leaf : Leaf) (nodes : List Leaf) (b : Bool) → is_live (kind_of leaf.status) ≡ b → live_or b k (least_live (k + 1) nodes) ≡ None → (b ≡ false) × (least_live (k + 1) nodes ≡ None)
none_live k leaf nodes true is h = absurd (none-some k (sym h))
none_live k leaf nodes false is h = (refl, h)

closed : (k : ℕ) (nodes : List Leaf) → least_live k nodes ≡ None → All (λ (s : Shape). is_found s.status ≡ false) (shapes_of nodes) → all_closed (shapes_of nodes) ≡ true
closed k [] none found = refl
closed k (leaf ∷ nodes) none found =
    let r = none_live k leaf nodes (is_live (kind_of leaf.status)) refl none in
    and_from (is_closed (kind_of leaf.status)) (all_closed (shapes_of nodes)) (settled (kind_of leaf.status) r.0 (All-head (λ (s : Shape). is_found s.status ≡ false) (shape_of leaf) (shapes_of nodes) found)) (closed (k + 1) nodes r.1 (All-tail (λ (s : Shape). is_found s.status ≡ false) (shape_of leaf) (shapes_of nodes) found))

by_found : (nodes : List Leaf) (first : Option ℕ) → least_live 0 nodes ≡ None → IsFoundFirst (shapes_of nodes) first → is_unfinished (verdict_with first (all_closed (shapes_of nodes))) ≡ false
by_found nodes (Some node) none found = refl
by_found nodes None none found = ap (λ (b : Bool). is_unfinished (verdict_with None b)) (closed 0 nodes none found)

pub decided : (l : Ledger) → IsSound l.task l.nodes l.entries → IsEnded l → verdict_of (shapes_of l.nodes) l.entries ≢ Unfinished
decided l sound (inl none) = stands (verdict_of (shapes_of l.nodes) l.entries) (by_found l.nodes (first_found l.entries) none sound.found)
decided l sound (inr (node, is)) = stands (verdict_of (shapes_of l.nodes) l.entries) (ap (λ (o : Option ℕ). is_unfinished (verdict_with o (all_closed (shapes_of l.nodes)))) is)
