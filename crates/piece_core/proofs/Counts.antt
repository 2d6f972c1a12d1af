-- How many events a legal journal has.
use Rattle.std.proofs.Common.{◌≡◌, ℕ, zero, suc, ◌+◌, ◌-◌, ◌*◌, ◌^◌, ◌<◌, ◌≤◌, Bool, true, false, cond, List, [], ◌∷◌, ◌++◌, length, set, slice_get, refl, sym, ap, ◌∙◌, subst, arith, Some, length-append, pow-suc, le_refl, zero-le}
use Rattle.std.specs.Prelude.{sum_by, count_by, Option, None, All}
use Rattle.std.proofs.lemmas.List.Sums.{sum_by-cons}
use Rattle.flat_prog.specs.Shape.{IsFlat}
use Rattle.call_tree.specs.declared.piece.Decision2.{Decision2}
use Rattle.call_tree.specs.declared.piece.Decision2.TheVariants.{Must, Avoid}
use Rattle.piece_core.specs.declared.tasks.Task.{Task}
use Rattle.piece_core.specs.declared.events.Event.{Event}
use Rattle.piece_core.specs.declared.events.Event.TheVariants.{Take, Inline, Split, Close, Found, Back}
use Rattle.piece_core.specs.declared.events.Entry.{Entry}
use Rattle.piece_core.specs.declared.leaves.StatusKind.{StatusKind}
use Rattle.piece_core.specs.declared.leaves.StatusKind.TheVariants.{Live as LiveKind, Closed as ClosedKind, Found as FoundKind, Split as SplitKind}
use Rattle.piece_core.specs.Shapes.{Shape, first, Ask, AskNothing, Legal, replay, opening, changed, made, after, IsWell, is_leaf, fault_at}
use Rattle.piece_core.specs.Measures.{share, leaf_share, paths_count}
use Rattle.piece_core.specs.Book.{found_first}
use Rattle.piece_core.specs.Counts.{ways_of, no_ways, split_count, inline_count, splits_in, inlines_in, CountsLaw, Replayed, JournalLaw}
use Rattle.piece_core.proofs.Table.{Lets, IsHere, here_of}
use Rattle.piece_core.proofs.Cover.{sum_after}
use Rattle.piece_core.proofs.Well.{all_at, can_parts, well_changed, well_after}
use Rattle.piece_core.proofs.Kept.{first_stands}
use Rattle.piece_core.proofs.Journal.{opening_well, covers, well}
use Rattle.piece_core.proofs.OnWays.{ways_follow, short}
use Rattle.piece_core.proofs.Measure.{few_paths, shares_after, some_length}

two_pos : (m : ℕ) → 1 ≤ 2 ^ m
two_pos zero = omega arith
two_pos (suc m) = let e : 2 ^ suc m ≡ 2 ^ m * 2 = pow-suc 2 m in let h = two_pos m in omega arith

-- ---- leaves

abbrev pub leaves : Shape → ℕ
leaves s = cond (is_leaf s.status) 1 0

one_leaf : (s : Shape) (w : ℕ) (event : Event) → s.status ≡ LiveKind → leaves (changed s w event) + sum_by leaves (made s w event) ≡ leaves s + split_count event
one_leaf s w Take live = refl
one_leaf s w (Inline sites) live = refl
one_leaf s w (Split site) live = ap (λ (t : StatusKind). cond (is_leaf t) 1 0 + 1) (sym live)
one_leaf s w Close live = ap (λ (t : StatusKind). cond (is_leaf t) 1 0 + 0) (sym live)
one_leaf s w Found live = ap (λ (t : StatusKind). cond (is_leaf t) 1 0 + 0) (sym live)
one_leaf s w Back live = refl

-- each leaf has a share
leaf_shares : (b : ℕ) (t : StatusKind) (n : ℕ) → 1 ≤ n → cond (is_leaf t) 1 0 ≤ leaf_share t n
leaf_shares b LiveKind n h = h
leaf_shares b ClosedKind n h = h
leaf_shares b FoundKind n h = h
leaf_shares b SplitKind n h = omega arith

leaves_share : (b : ℕ) (nodes : List Shape) → sum_by leaves nodes ≤ sum_by (share b) nodes
leaves_share b [] = omega arith
leaves_share b (s ∷ ss) =
    let one = leaf_shares b s.status (2 ^ (b - length s.piece)) (two_pos (b - length s.piece)) in
    let rest = leaves_share b ss in
    rw (sum_by-cons leaves s ss, sum_by-cons (share b) s ss) (omega (arith, one, rest))

-- ---- what is left of trees

abbrev pub slack : ℕ → Shape → ℕ
slack b s = b - length s.tree

one_slack : (task : Task) (s : Shape) (w : ℕ) (event : Event) → IsFlat task.flat → Lets task s w event → IsWell task s →
    slack (paths_count task) (changed s w event) + sum_by (slack (paths_count task)) (made s w event) + inline_count event ≤ slack (paths_count task) s + 2 * paths_count task * split_count event
one_slack task s w Take flat lets well = omega arith
one_slack task s w (Inline sites) flat lets well =
    let b = paths_count task in
    let few = (few_paths task (changed s w (Inline sites)) flat (well_changed task s w (Inline sites) lets well)).0 in
    let long : length (s.tree ++ sites) ≡ length s.tree + length sites = length-append s.tree sites in
    let some = some_length sites (can_parts task s.tree sites lets.2).0 in
    let fits : length (s.tree ++ sites) ≤ b = few in
    omega arith
one_slack task s w (Split site) flat lets well = omega arith
one_slack task s w Close flat lets well = omega arith
one_slack task s w Found flat lets well = omega arith
one_slack task s w Back flat lets well = omega arith

-- ---- along a journal

record Counted (task : Task) (nodes : List Shape) (last : List Shape) (splits inlines : ℕ) : Type 0 where
  pub leaves_are : sum_by leaves last ≡ sum_by leaves nodes + splits
  pub shares_are : sum_by (share (paths_count task)) last ≡ sum_by (share (paths_count task)) nodes
  pub slack_is : sum_by (slack (paths_count task)) last + inlines ≤ sum_by (slack (paths_count task)) nodes + 2 * paths_count task * splits

times_more : (b n m : ℕ) → 2 * b * (n + m) ≡ 2 * b * n + 2 * b * m
times_more b n m = omega arith

counted_all : (ask : Ask) (task : Task) (nodes : List Shape) (entries : List Entry) → IsFlat task.flat → All (IsWell task) nodes → Legal ask task nodes entries → Counted task nodes (replay nodes entries) (splits_in entries) (inlines_in entries)
counted_all ask task nodes [] flat well legal = record { leaves_are = omega arith; shares_are = refl; slack_is = omega arith }
counted_all ask task nodes (e ∷ es) flat well (fine, asked, legal) =
    let b = paths_count task in
    let here = here_of task nodes e fine in
    let own = all_at (IsWell task) nodes e.node here.shape here.at well in
    let rest = counted_all ask task (after nodes e) es flat (well_after task nodes e fine well) legal in
    let leaf_sums = sum_after leaves nodes e here.shape here.at in
    let leaf_one : leaves (changed here.shape e.worker e.event) + sum_by leaves (made here.shape e.worker e.event) ≡ leaves here.shape + split_count e.event = one_leaf here.shape e.worker e.event here.live in
    let slack_sums = sum_after (slack b) nodes e here.shape here.at in
    let slack_one = one_slack task here.shape e.worker e.event flat here.lets own in
    let more : 2 * b * (split_count e.event + splits_in es) ≡ 2 * b * split_count e.event + 2 * b * splits_in es = times_more b (split_count e.event) (splits_in es) in
    let a = rest.leaves_are in
    let z = rest.slack_is in
    record {
      leaves_are = omega (arith, leaf_sums, leaf_one, a);
      shares_are = rest.shares_are ∙ shares_after task nodes e flat fine well;
      slack_is = rw more (omega (arith, slack_sums, slack_one, z));
    }

total : (b splits inlines : ℕ) → splits + 1 ≤ 2 ^ b → inlines ≤ b + 2 * b * splits → inlines ≤ b * 2 ^ (b + 1)
total b splits inlines h k =
    let e : 2 ^ (b + 1) ≡ 2 ^ b * 2 = subst (λ n. 2 ^ n ≡ 2 ^ b * 2) (omega arith) (pow-suc 2 b) in
    let more : b * (splits + 1) ≤ b * 2 ^ b = times_up b (splits + 1) (2 ^ b) h in
    let left : b * (splits + 1) ≡ b * splits + b = omega arith in
    rw e (omega arith)
  where
    times_up : (k m n : ℕ) → m ≤ n → k * m ≤ k * n
    times_up k m n h = grind (arith, h)

pub counts : CountsLaw
counts task piece tree entries flat starts legal =
    let b = paths_count task in
    let all = opening_well task piece tree starts in
    let r = counted_all AskNothing task (opening piece tree) entries flat all legal in
    let shares = leaves_share b (replay (opening piece tree) entries) in
    let same = r.shares_are in
    let leaves_are = r.leaves_are in
    let slack_is = r.slack_is in
    let first_share : sum_by (share b) (opening piece tree) ≡ 2 ^ (b - length piece) + 0 = sum_by-cons (share b) (first piece tree) [] in
    let most = two_up (b - length piece) b (omega arith) in
    let few : splits_in entries + 1 ≤ 2 ^ b = omega (arith, shares, same, leaves_are, first_share, most) in
    let first_slack : sum_by (slack b) (opening piece tree) ≡ (b - length tree) + 0 = sum_by-cons (slack b) (first piece tree) [] in
    record {
      ways = short task (ways_of no_ways entries) (replay (opening piece tree) entries) flat (well AskNothing task piece tree entries starts legal) (ways_follow AskNothing task piece tree entries legal);
      splits = few;
      inlines = total b (splits_in entries) (inlines_in entries) few (omega (arith, slack_is, first_slack));
    }
  where
    two_up : (m n : ℕ) → m ≤ n → 2 ^ m ≤ 2 ^ n
    two_up m n h = subst (λ k. 2 ^ m ≤ 2 ^ k) (more m n h) (up (n - m) m)
      where
        more : (m n : ℕ) → m ≤ n → m + (n - m) ≡ n
        more m n h = omega (arith, h)

        up : (d m : ℕ) → 2 ^ m ≤ 2 ^ (m + d)
        up zero m = let e : m + 0 ≡ m = omega arith in rw e (le_refl (2 ^ m))
        up (suc d) m =
            let e : m + suc d ≡ suc (m + d) = omega arith in
            let f : 2 ^ suc (m + d) ≡ 2 ^ (m + d) * 2 = pow-suc 2 (m + d) in
            let h : 2 ^ m ≤ 2 ^ (m + d) = up d m in
            rw (e, f) (omega arith)

pub journals : JournalLaw
journals task piece tree entries starts legal = record { covers = covers AskNothing task piece tree entries legal; well = well AskNothing task piece tree entries starts legal; found = first_stands AskNothing task piece tree entries legal }
