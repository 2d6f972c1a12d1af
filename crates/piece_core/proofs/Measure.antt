-- Each event that changes a leaf lowers the potential, and Take and Back keep it.
use Rattle.std.proofs.Common.{◌≡◌, ℕ, zero, suc, true≢false, le_refl, ◌+◌, ◌-◌, ◌*◌, ◌^◌, ◌<◌, ◌≤◌, Bool, true, false, not, ◌&&◌, cond, List, [], ◌∷◌, ◌++◌, length, set, slice_get, refl, sym, ap, ◌∙◌, subst, arith, Some, add-zero, length-append, pow-suc}
use Rattle.std.specs.Prelude.{sum_by, Option, None, All, IsTrue}
use Rattle.std.proofs.lemmas.List.Elements.{All-head}
use Rattle.flat_prog.specs.Shape.{IsFlat}
use Rattle.call_tree.specs.declared.piece.Decision2.{Decision2}
use Rattle.call_tree.specs.declared.piece.Decision2.TheVariants.{Must, Avoid}
use Rattle.call_tree.specs.Trees.{has_path}
use Rattle.call_tree.specs.Pieces.{names_of}
use Rattle.call_tree.proofs.PartTrees.{are_in_each, fewer}
use Rattle.call_tree.proofs.Whole.{size}
use Rattle.piece_core.specs.declared.tasks.Task.{Task}
use Rattle.piece_core.specs.declared.events.Event.{Event}
use Rattle.piece_core.specs.declared.events.Event.TheVariants.{Take, Inline, Split, Close, Found, Back}
use Rattle.piece_core.specs.declared.events.Entry.{Entry}
use Rattle.piece_core.specs.declared.leaves.StatusKind.{StatusKind}
use Rattle.piece_core.specs.declared.leaves.StatusKind.TheVariants.{Live as LiveKind}
use Rattle.piece_core.specs.Shapes.{Shape, has_some, changed, half, made, after, IsWell, fault_at}
use Rattle.piece_core.specs.Measures.{live_weight, weight, potential, leaf_share, share, is_progress, paths_count}
use Rattle.piece_core.proofs.Table.{Lets, IsHere, here_of}
use Rattle.piece_core.proofs.Cover.{sum_after}
use Rattle.piece_core.proofs.Well.{all_at, can_parts, well_changed, well_made}

length_names : (piece : List (List ℕ × Decision2)) → length (names_of piece) ≡ length piece
length_names [] = refl
length_names ((path, way) ∷ ds) = ap suc (length_names ds)

-- a leaf has at most that many paths and decisions
pub few_paths : (task : Task) (s : Shape) → IsFlat task.flat → IsWell task s → (length s.tree ≤ paths_count task) × (length s.piece ≤ length s.tree)
few_paths task s flat well = (
  size task.flat task.entry task.bound s.tree flat well.tree,
  subst (λ n. n ≤ length s.tree) (length_names s.piece) (fewer (names_of s.piece) s.tree well.once (λ p at. are_in_each (names_of s.piece) s.tree p well.named at)),
)

live_is : (b : ℕ) (s : Shape) → s.status ≡ LiveKind → weight b s ≡ 3 ^ ((b - length s.tree) + (b - length s.piece))
live_is b s live = ap (λ (t : StatusKind). live_weight t (3 ^ ((b - length s.tree) + (b - length s.piece)))) live

three_pos : (m : ℕ) → 0 < 3 ^ m
three_pos zero = omega arith
three_pos (suc m) = let e : 3 ^ suc m ≡ 3 ^ m * 3 = pow-suc 3 m in let h = three_pos m in omega arith

three_up : (d m : ℕ) → 3 ^ m ≤ 3 ^ (m + d)
three_up zero m = let e : m + 0 ≡ m = omega arith in rw e (le_refl (3 ^ m))
three_up (suc d) m =
    let e : m + suc d ≡ suc (m + d) = omega arith in
    let f : 3 ^ suc (m + d) ≡ 3 ^ (m + d) * 3 = pow-suc 3 (m + d) in
    let h : 3 ^ m ≤ 3 ^ (m + d) = three_up d m in
    rw (e, f) (omega arith)

three_more : (m n : ℕ) → m < n → 3 * 3 ^ m ≤ 3 ^ n
three_more m n h =
    let step : 3 ^ suc m ≡ 3 ^ m * 3 = pow-suc 3 m in
    let e : suc m + (n - suc m) ≡ n = omega arith in
    let mono : 3 ^ suc m ≤ 3 ^ n = subst (λ k. 3 ^ suc m ≤ 3 ^ k) e (three_up (n - suc m) (suc m)) in
    omega arith

pub some_length : (ps : List (List ℕ)) → has_some ps ≡ true → 0 < length ps
some_length [] h = absurd (true≢false (sym h))
some_length (p ∷ ps) h = omega arith

-- a progress on a live leaf leaves less
less : (task : Task) (s : Shape) (w : ℕ) (event : Event) → IsFlat task.flat → s.status ≡ LiveKind → Lets task s w event → IsWell task s → is_progress event ≡ true →
    weight (paths_count task) (changed s w event) + sum_by (weight (paths_count task)) (made s w event) < weight (paths_count task) s
less task s w Take flat live lets well progress = absurd (true≢false (sym progress))
less task s w (Inline sites) flat live lets well progress =
    let b = paths_count task in
    let grown = changed s w (Inline sites) in
    let few = few_paths task grown flat (well_changed task s w (Inline sites) lets well) in
    let long : length (s.tree ++ sites) ≡ length s.tree + length sites = length-append s.tree sites in
    let some = some_length sites (can_parts task s.tree sites lets.2).0 in
    let fits : length (s.tree ++ sites) ≤ b = few.0 in
    let drop : (b - length (s.tree ++ sites)) + (b - length s.piece) < (b - length s.tree) + (b - length s.piece) = omega arith in
    let falls = three_more ((b - length (s.tree ++ sites)) + (b - length s.piece)) ((b - length s.tree) + (b - length s.piece)) drop in
    let pos = three_pos ((b - length (s.tree ++ sites)) + (b - length s.piece)) in
    let one : weight b s ≡ 3 ^ ((b - length s.tree) + (b - length s.piece)) = live_is b s live in
    let two : weight b grown ≡ 3 ^ ((b - length (s.tree ++ sites)) + (b - length s.piece)) = live_is b grown live in
    rw (one, two) (omega arith)
less task s w (Split site) flat live lets well progress =
    let b = paths_count task in
    let must = half s (Some w) site Must in
    let few = few_paths task must flat (All-head (IsWell task) must (half s None site Avoid ∷ []) (well_made task s w (Split site) lets well)) in
    let long : length (s.piece ++ (site, Must) ∷ []) ≡ length s.piece + 1 = length-append s.piece ((site, Must) ∷ []) in
    let same : length (s.piece ++ (site, Avoid) ∷ []) ≡ length s.piece + 1 = length-append s.piece ((site, Avoid) ∷ []) in
    let fits : length s.tree ≤ b = few.0 in
    let named : length (s.piece ++ (site, Must) ∷ []) ≤ length s.tree = few.1 in
    let drop : (b - length s.tree) + (b - (length s.piece + 1)) < (b - length s.tree) + (b - length s.piece) = omega arith in
    let falls = three_more ((b - length s.tree) + (b - (length s.piece + 1))) ((b - length s.tree) + (b - length s.piece)) drop in
    let pos = three_pos ((b - length s.tree) + (b - (length s.piece + 1))) in
    let one : weight b s ≡ 3 ^ ((b - length s.tree) + (b - length s.piece)) = live_is b s live in
    rw (one, long, same) (omega arith)
less task s w Close flat live lets well progress = rw (live_is (paths_count task) s live) (let pos = three_pos (((paths_count task) - length s.tree) + ((paths_count task) - length s.piece)) in omega arith)
less task s w Found flat live lets well progress = rw (live_is (paths_count task) s live) (let pos = three_pos (((paths_count task) - length s.tree) + ((paths_count task) - length s.piece)) in omega arith)
less task s w Back flat live lets well progress = absurd (true≢false (sym progress))

-- a progress lowers the potential
pub potential_falls : (task : Task) (nodes : List Shape) (e : Entry) → IsFlat task.flat → fault_at task (slice_get nodes e.node) e ≡ None → All (IsWell task) nodes → is_progress e.event ≡ true →
    potential (paths_count task) (after nodes e) < potential (paths_count task) nodes
potential_falls task nodes e flat h well progress =
    let here = here_of task nodes e h in
    let f = weight (paths_count task) in
    let sums = sum_after f nodes e here.shape here.at in
    let lower : f (changed here.shape e.worker e.event) + sum_by f (made here.shape e.worker e.event) < f here.shape = less task here.shape e.worker e.event flat here.live here.lets (all_at (IsWell task) nodes e.node here.shape here.at well) progress in
    omega (arith, sums, lower)

-- who holds a leaf does not matter
stays : (b : ℕ) (s : Shape) (w : ℕ) (event : Event) → is_progress event ≡ false → weight b (changed s w event) + sum_by (weight b) (made s w event) ≡ weight b s
stays b s w Take h = add-zero (weight b s)
stays b s w (Inline sites) h = absurd (true≢false h)
stays b s w (Split site) h = absurd (true≢false h)
stays b s w Close h = absurd (true≢false h)
stays b s w Found h = absurd (true≢false h)
stays b s w Back h = add-zero (weight b s)

pub potential_stays : (task : Task) (b : ℕ) (nodes : List Shape) (e : Entry) → fault_at task (slice_get nodes e.node) e ≡ None → is_progress e.event ≡ false → potential b (after nodes e) ≡ potential b nodes
potential_stays task b nodes e h still =
    let here = here_of task nodes e h in
    let f = weight b in
    let sums = sum_after f nodes e here.shape here.at in
    let same : f (changed here.shape e.worker e.event) + sum_by f (made here.shape e.worker e.event) ≡ f here.shape = stays b here.shape e.worker e.event still in
    omega (arith, sums, same)

-- ---- the shares of the leaves in 2 ^ B

two_halves : (b p : ℕ) → p + 1 ≤ b → 2 ^ (b - (p + 1)) + 2 ^ (b - (p + 1)) ≡ 2 ^ (b - p)
two_halves b p h =
    let e : b - p ≡ suc (b - (p + 1)) = omega arith in
    let f : 2 ^ suc (b - (p + 1)) ≡ 2 ^ (b - (p + 1)) * 2 = pow-suc 2 (b - (p + 1)) in
    rw (e, f) (omega arith)

live_share : (b : ℕ) (s : Shape) → s.status ≡ LiveKind → share b s ≡ 2 ^ (b - length s.piece)
live_share b s live = ap (λ (t : StatusKind). leaf_share t (2 ^ (b - length s.piece))) live

share_same : (task : Task) (s : Shape) (w : ℕ) (event : Event) → IsFlat task.flat → s.status ≡ LiveKind → Lets task s w event → IsWell task s → share (paths_count task) (changed s w event) + sum_by (share (paths_count task)) (made s w event) ≡ share (paths_count task) s
share_same task s w Take flat live lets well = add-zero (share (paths_count task) s)
share_same task s w (Inline sites) flat live lets well = add-zero (share (paths_count task) s)
share_same task s w (Split site) flat live lets well =
    let b = paths_count task in
    let must = half s (Some w) site Must in
    let few = few_paths task must flat (All-head (IsWell task) must (half s None site Avoid ∷ []) (well_made task s w (Split site) lets well)) in
    let long : length (s.piece ++ (site, Must) ∷ []) ≡ length s.piece + 1 = length-append s.piece ((site, Must) ∷ []) in
    let same : length (s.piece ++ (site, Avoid) ∷ []) ≡ length s.piece + 1 = length-append s.piece ((site, Avoid) ∷ []) in
    let fits : length s.tree ≤ b = few.0 in
    let named : length (s.piece ++ (site, Must) ∷ []) ≤ length s.tree = few.1 in
    let halves = two_halves b (length s.piece) (omega arith) in
    rw (live_share b s live, long, same) (omega arith)
share_same task s w Close flat live lets well = add-zero _ ∙ sym (live_share (paths_count task) s live)
share_same task s w Found flat live lets well = add-zero _ ∙ sym (live_share (paths_count task) s live)
share_same task s w Back flat live lets well = add-zero (share (paths_count task) s)

pub shares_after : (task : Task) (nodes : List Shape) (e : Entry) → IsFlat task.flat → fault_at task (slice_get nodes e.node) e ≡ None → All (IsWell task) nodes → sum_by (share (paths_count task)) (after nodes e) ≡ sum_by (share (paths_count task)) nodes
shares_after task nodes e flat h well =
    let here = here_of task nodes e h in
    let f = share (paths_count task) in
    let sums = sum_after f nodes e here.shape here.at in
    let same : f (changed here.shape e.worker e.event) + sum_by f (made here.shape e.worker e.event) ≡ f here.shape = share_same task here.shape e.worker e.event flat here.live here.lets (all_at (IsWell task) nodes e.node here.shape here.at well) in
    omega (arith, sums, same)
