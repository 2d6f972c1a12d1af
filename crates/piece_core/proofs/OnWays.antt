-- How many events are on the way to a node: each Inline adds to its tree, and each Split to its piece.
use Rattle.std.proofs.Common.{◌≡◌, ℕ, zero, suc, ◌+◌, ◌≤◌, List, [], ◌∷◌, ◌++◌, length, set, slice_get, refl, sym, ap, ◌∙◌, subst, arith, Some, length-append, le_refl}
use Rattle.std.specs.Prelude.{Option, None, All}
use Rattle.std.proofs.lemmas.Option.{none-some, same_Some}
use Rattle.std.proofs.lemmas.List.Elements.{All-cons, All-nil, All-head, All-tail}
use Rattle.flat_prog.specs.Shape.{IsFlat}
use Rattle.call_tree.specs.declared.piece.Decision2.{Decision2}
use Rattle.call_tree.specs.declared.piece.Decision2.TheVariants.{Must, Avoid}
use Rattle.piece_core.specs.declared.tasks.Task.{Task}
use Rattle.piece_core.specs.declared.events.Event.{Event}
use Rattle.piece_core.specs.declared.events.Event.TheVariants.{Take, Inline, Split, Close, Found, Back}
use Rattle.piece_core.specs.declared.events.Entry.{Entry}
use Rattle.piece_core.specs.Shapes.{Shape, Ask, Legal, replay, first, opening, after_at, after, changed, made, half, IsWell, fault_at}
use Rattle.piece_core.specs.Measures.{paths_count}
use Rattle.piece_core.specs.Counts.{Way, way_after, way_below, ways_made, ways_at, ways_of, no_ways, IsShort}
use Rattle.piece_core.proofs.Table.{Lets, IsHere, here_of}
use Rattle.piece_core.proofs.Well.{can_parts}
use Rattle.piece_core.proofs.Measure.{few_paths, some_length}

-- no more Inline events than paths in the tree, and no more Split events than decisions
pub record Fits (way : Way) (s : Shape) : Type 0 where
  pub inlines : way.inlines ≤ length s.tree
  pub splits : way.splits ≤ length s.piece

-- the ways go to these nodes, one for one
abbrev pub Follow : List Way → List Shape → Type 0
Follow [] [] = Unit {0}
Follow [] (s ∷ ss) = ⊥
Follow (w ∷ ws) [] = ⊥
Follow (w ∷ ws) (s ∷ ss) = Fits w s × Follow ws ss

follow_get : (ways : List Way) (nodes : List Shape) (i : ℕ) (s : Shape) → Follow ways nodes → slice_get nodes i ≡ Some s → (w : Way) × (slice_get ways i ≡ Some w) × Fits w s
follow_get [] [] i s all at = absurd (none-some s at)
follow_get [] (x ∷ xs) i s all at = absurd all
follow_get (w ∷ ws) [] i s all at = absurd all
follow_get (w ∷ ws) (x ∷ xs) zero s all at = (w, refl, subst (λ (t : Shape). Fits w t) (same_Some x s at) all.0)
follow_get (w ∷ ws) (x ∷ xs) (suc i) s all at = follow_get ws xs i s all.1 at

follow_set : (ways : List Way) (nodes : List Shape) (i : ℕ) (w : Way) (s : Shape) → Follow ways nodes → Fits w s → Follow (set ways i w) (set nodes i s)
follow_set [] [] i w s all fits = tt
follow_set [] (x ∷ xs) i w s all fits = absurd all
follow_set (v ∷ vs) [] i w s all fits = absurd all
follow_set (v ∷ vs) (x ∷ xs) zero w s all fits = (fits, all.1)
follow_set (v ∷ vs) (x ∷ xs) (suc i) w s all fits = (all.0, follow_set vs xs i w s all.1 fits)

follow_more : (ways more : List Way) (nodes others : List Shape) → Follow ways nodes → Follow more others → Follow (ways ++ more) (nodes ++ others)
follow_more [] more [] others all rest = rest
follow_more [] more (x ∷ xs) others all rest = absurd all
follow_more (w ∷ ws) more [] others all rest = absurd all
follow_more (w ∷ ws) more (x ∷ xs) others all rest = (all.0, follow_more ws more xs others all.1 rest)

fits_changed : (task : Task) (way : Way) (s : Shape) (w : ℕ) (event : Event) → Lets task s w event → Fits way s → Fits (way_after way event) (changed s w event)
fits_changed task way s w Take lets fits = record { inlines = let h = fits.inlines in omega (arith, h); splits = fits.splits }
fits_changed task way s w (Inline sites) lets fits =
    let h = fits.inlines in
    let some = some_length sites (can_parts task s.tree sites lets.2).0 in
    let long : length (s.tree ++ sites) ≡ length s.tree + length sites = length-append s.tree sites in
    record { inlines = omega (arith, h, some, long); splits = fits.splits }
fits_changed task way s w (Split site) lets fits = record { inlines = let h = fits.inlines in omega (arith, h); splits = fits.splits }
fits_changed task way s w Close lets fits = record { inlines = let h = fits.inlines in omega (arith, h); splits = fits.splits }
fits_changed task way s w Found lets fits = record { inlines = let h = fits.inlines in omega (arith, h); splits = fits.splits }
fits_changed task way s w Back lets fits = record { inlines = let h = fits.inlines in omega (arith, h); splits = fits.splits }

fits_half : (way : Way) (s : Shape) (holder : Option ℕ) (site : List ℕ) (to : Decision2) → Fits way s → Fits (way_below way) (half s holder site to)
fits_half way s holder site to fits =
    let h = fits.splits in
    let long : length (s.piece ++ (site, to) ∷ []) ≡ length s.piece + 1 = length-append s.piece ((site, to) ∷ []) in
    record { inlines = fits.inlines; splits = omega (arith, h, long) }

fits_made : (way : Way) (s : Shape) (w : ℕ) (event : Event) → Fits way s → Follow (ways_made way event) (made s w event)
fits_made way s w Take fits = tt
fits_made way s w (Inline sites) fits = tt
fits_made way s w (Split site) fits = (fits_half way s (Some w) site Must fits, (fits_half way s None site Avoid fits, tt))
fits_made way s w Close fits = tt
fits_made way s w Found fits = tt
fits_made way s w Back fits = tt

follow_after : (task : Task) (ways : List Way) (nodes : List Shape) (e : Entry) → fault_at task (slice_get nodes e.node) e ≡ None → Follow ways nodes → Follow (ways_at ways e (slice_get ways e.node)) (after nodes e)
follow_after task ways nodes e h all =
    let here = here_of task nodes e h in
    let own = follow_get ways nodes e.node here.shape all here.at in
    let fits = fits_changed task own.0 here.shape e.worker e.event here.lets own.2 in
    subst (λ (o : Option Way). Follow (ways_at ways e o) (after nodes e)) (sym own.1)
    (subst (λ (o : Option Shape). Follow (ways_at ways e (Some own.0)) (after_at nodes e o)) (sym here.at)
    (follow_more (set ways e.node (way_after own.0 e.event)) (ways_made own.0 e.event) (set nodes e.node (changed here.shape e.worker e.event)) (made here.shape e.worker e.event)
    (follow_set ways nodes e.node (way_after own.0 e.event) (changed here.shape e.worker e.event) all fits) (fits_made own.0 here.shape e.worker e.event own.2)))

follow_all : (ask : Ask) (task : Task) (ways : List Way) (nodes : List Shape) (entries : List Entry) → Legal ask task nodes entries → Follow ways nodes → Follow (ways_of ways entries) (replay nodes entries)
follow_all ask task ways nodes [] legal all = all
follow_all ask task ways nodes (e ∷ es) (fine, asked, legal) all = follow_all ask task (ways_at ways e (slice_get ways e.node)) (after nodes e) es legal (follow_after task ways nodes e fine all)

pub ways_follow : (ask : Ask) (task : Task) (piece : List (List ℕ × Decision2)) (tree : List (List ℕ)) (entries : List Entry) → Legal ask task (opening piece tree) entries → Follow (ways_of no_ways entries) (replay (opening piece tree) entries)
ways_follow ask task piece tree entries legal = follow_all ask task no_ways (opening piece tree) entries legal (record { inlines = omega arith; splits = omega arith }, tt)

-- ways to nodes whose trees and pieces are as they should be are short
pub short : (task : Task) (ways : List Way) (nodes : List Shape) → IsFlat task.flat → All (IsWell task) nodes → Follow ways nodes → All (IsShort (paths_count task)) ways
short task [] [] flat all follow = All-nil (IsShort (paths_count task))
short task [] (s ∷ ss) flat all follow = absurd follow
short task (w ∷ ws) [] flat all follow = absurd follow
short task (w ∷ ws) (s ∷ ss) flat all follow =
    let few = few_paths task s flat (All-head (IsWell task) s ss all) in
    let trees = few.0 in
    let pieces = few.1 in
    let i = follow.0.inlines in
    let p = follow.0.splits in
    All-cons (IsShort (paths_count task)) w ws (record { inlines = omega (arith, trees, i); splits = omega (arith, trees, pieces, p) }) (short task ws ss flat (All-tail (IsWell task) s ss all) follow.1)
