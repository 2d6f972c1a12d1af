-- How many nodes stand before the least live leaf: what it says of the book, and what events make of it.
use Rattle.std.proofs.Common.{◌≡◌, ℕ, zero, suc, ◌+◌, ◌<◌, Bool, true, false, ◌&&◌, List, [], ◌∷◌, ◌++◌, length, set, drop, slice_get, refl, sym, ap, ◌∙◌, subst, arith, Some, true≢false, length-set, length-append, ◌≤◌}
use Rattle.std.specs.Prelude.{Option, None, All}
use Rattle.std.proofs.lemmas.Option.{none-some, same_Some}
use Rattle.std.proofs.lemmas.List.Elements.{All-head, All-tail}
use Rattle.piece_core.specs.declared.leaves.Leaf.{Leaf}
use Rattle.piece_core.specs.declared.leaves.Status2.{Status2}
use Rattle.piece_core.specs.declared.leaves.Status2.TheVariants.{Live}
use Rattle.piece_core.specs.declared.leaves.StatusKind.{StatusKind}
use Rattle.piece_core.specs.declared.leaves.StatusKind.TheVariants.{Live as LiveKind, Closed as ClosedKind, Found as FoundKind, Split as SplitKind}
use Rattle.piece_core.specs.Shapes.{is_live, is_found}
use Rattle.piece_core.specs.Evidence.{kind_of, shape_of, shapes_of}
use Rattle.piece_core.specs.Book.{is_closed, all_closed, live_or, least_live, settled_or, settled_of}
use Rattle.piece_core.proofs.Kept.{NotFound}

-- ---- what it says

one_few : (kind : StatusKind) (rest n : ℕ) → rest ≤ n → settled_or (is_live kind) rest ≤ suc n
one_few LiveKind rest n few = omega arith
one_few ClosedKind rest n few = omega (arith, few)
one_few FoundKind rest n few = omega (arith, few)
one_few SplitKind rest n few = omega (arith, few)

few_settled : (nodes : List Leaf) → settled_of nodes ≤ length nodes
few_settled [] = omega arith
few_settled (leaf ∷ nodes) = one_few (kind_of leaf.status) (settled_of nodes) (length nodes) (few_settled nodes)

-- and no more than there are after a write
pub settled_within : (nodes : List Leaf) (i : ℕ) (new : Leaf) (settled : ℕ) → settled ≡ settled_of nodes → settled ≤ length (set nodes i new)
settled_within nodes i new settled is =
    let few = few_settled nodes in
    let long : length (set nodes i new) ≡ length nodes = length-set nodes i new in
    omega (arith, is, few, long)

pub settled_below : (nodes : List Leaf) (i : ℕ) (new : Leaf) (more : List Leaf) (settled : ℕ) → settled ≡ settled_of nodes → settled ≤ length (set nodes i new ++ more)
settled_below nodes i new more settled is =
    let few = settled_within nodes i new settled is in
    let long : length (set nodes i new ++ more) ≡ length (set nodes i new) + length more = length-append (set nodes i new) more in
    omega (arith, few, long)

-- a live leaf before the end is not closed
one_live : (kind : StatusKind) (rest : ℕ) (more : Bool) (n : ℕ) → settled_or (is_live kind) rest < suc n → (rest < n → more ≡ false) → (is_closed kind && more) ≡ false
one_live LiveKind rest more n less go = refl
one_live ClosedKind rest more n less go = go (omega (arith, less))
one_live FoundKind rest more n less go = refl
one_live SplitKind rest more n less go = go (omega (arith, less))

pub some_live : (nodes : List Leaf) → settled_of nodes < length nodes → all_closed (shapes_of nodes) ≡ false
some_live [] less = absurd (omega (arith, less))
some_live (leaf ∷ nodes) less = one_live (kind_of leaf.status) (settled_of nodes) (all_closed (shapes_of nodes)) (length nodes) less (some_live nodes)

-- where none is live and none was found, all leaves are closed
one_settled : (kind : StatusKind) (rest : ℕ) (more : Bool) (n : ℕ) → (settled_or (is_live kind) rest < suc n → ⊥) → is_found kind ≡ false → ((rest < n → ⊥) → more ≡ true) → (is_closed kind && more) ≡ true
one_settled LiveKind rest more n not unfound go = absurd (not (omega arith))
one_settled ClosedKind rest more n not unfound go = go (λ less. not (omega (arith, less)))
one_settled FoundKind rest more n not unfound go = absurd (true≢false unfound)
one_settled SplitKind rest more n not unfound go = go (λ less. not (omega (arith, less)))

pub none_live : (nodes : List Leaf) → (settled_of nodes < length nodes → ⊥) → All NotFound (shapes_of nodes) → all_closed (shapes_of nodes) ≡ true
none_live [] not all = refl
none_live (leaf ∷ nodes) not all =
    one_settled (kind_of leaf.status) (settled_of nodes) (all_closed (shapes_of nodes)) (length nodes) not (All-head NotFound (shape_of leaf) (shapes_of nodes) all)
    (λ n. none_live nodes n (All-tail NotFound (shape_of leaf) (shapes_of nodes) all))

one_least : (kind : StatusKind) (start rest n : ℕ) (later : Option ℕ) → settled_or (is_live kind) rest < suc n → (rest < n → later ≡ Some (start + 1 + rest)) → live_or (is_live kind) start later ≡ Some (start + settled_or (is_live kind) rest)
one_least LiveKind start rest n later less go = let e : start ≡ start + 0 = omega arith in ap Some e
one_least ClosedKind start rest n later less go = let e : start + 1 + rest ≡ start + suc rest = omega arith in go (omega (arith, less)) ∙ ap Some e
one_least FoundKind start rest n later less go = let e : start + 1 + rest ≡ start + suc rest = omega arith in go (omega (arith, less)) ∙ ap Some e
one_least SplitKind start rest n later less go = let e : start + 1 + rest ≡ start + suc rest = omega arith in go (omega (arith, less)) ∙ ap Some e

pub least_some : (start : ℕ) (nodes : List Leaf) → settled_of nodes < length nodes → least_live start nodes ≡ Some (start + settled_of nodes)
least_some start [] less = absurd (omega (arith, less))
least_some start (leaf ∷ nodes) less = one_least (kind_of leaf.status) start (settled_of nodes) (length nodes) (least_live (start + 1) nodes) less (least_some (start + 1) nodes)

one_no_least : (kind : StatusKind) (start rest n : ℕ) (later : Option ℕ) → (settled_or (is_live kind) rest < suc n → ⊥) → ((rest < n → ⊥) → later ≡ None) → live_or (is_live kind) start later ≡ None
one_no_least LiveKind start rest n later not go = absurd (not (omega arith))
one_no_least ClosedKind start rest n later not go = go (λ less. not (omega (arith, less)))
one_no_least FoundKind start rest n later not go = go (λ less. not (omega (arith, less)))
one_no_least SplitKind start rest n later not go = go (λ less. not (omega (arith, less)))

pub least_none : (start : ℕ) (nodes : List Leaf) → (settled_of nodes < length nodes → ⊥) → least_live start nodes ≡ None
least_none start [] not = refl
least_none start (leaf ∷ nodes) not = one_no_least (kind_of leaf.status) start (settled_of nodes) (length nodes) (least_live (start + 1) nodes) not (least_none (start + 1) nodes)

-- the same, of the number that the book keeps
pub before_end : (nodes : List Leaf) (settled count : ℕ) → settled ≡ settled_of nodes → count ≡ length nodes → settled < count → settled_of nodes < length nodes
before_end nodes settled count is long less = omega (arith, is, long, less)

pub past_end : (nodes : List Leaf) (settled count : ℕ) → settled ≡ settled_of nodes → count ≡ length nodes → count ≤ settled → settled_of nodes < length nodes → ⊥
past_end nodes settled count is long over less = omega (arith, is, long, over, less)

pub least_is : (nodes : List Leaf) (settled : ℕ) → settled ≡ settled_of nodes → settled_of nodes < length nodes → Some settled ≡ least_live 0 nodes
least_is nodes settled is less = let e : settled ≡ 0 + settled_of nodes = omega (arith, is) in ap Some e ∙ sym (least_some 0 nodes less)

-- ---- what events make of it

zero_live : (status : Status2) (rest : ℕ) → status ≡ Live → settled_or (is_live (kind_of status)) rest ≡ 0
zero_live status rest live = ap (λ (t : Status2). settled_or (is_live (kind_of t)) rest) live

-- a live leaf that stays live moves nothing
pub still_settled : (nodes : List Leaf) (i : ℕ) (old new : Leaf) → slice_get nodes i ≡ Some old → old.status ≡ Live → new.status ≡ Live → settled_of (set nodes i new) ≡ settled_of nodes
still_settled [] i old new at live still = refl
still_settled (leaf ∷ nodes) zero old new at live still =
    let same : leaf.status ≡ Live = ap (λ (l : Leaf). l.status) (same_Some leaf old at) ∙ live in
    zero_live new.status (settled_of nodes) still ∙ sym (zero_live leaf.status (settled_of nodes) same)
still_settled (leaf ∷ nodes) (suc i) old new at live still = ap (settled_or (is_live (kind_of leaf.status))) (still_settled nodes i old new at live still)

step_settled : (leaf : Leaf) (kind : StatusKind) (n : ℕ) (new : List Leaf) → kind ≡ kind_of leaf.status → settled_of new ≡ n + settled_of (drop n new)
    → settled_or (is_live kind) (settled_of new) ≡ settled_or (is_live kind) n + settled_of (drop (settled_or (is_live kind) n) (leaf ∷ new))
step_settled leaf LiveKind n new is h =
    let e : settled_or (is_live (kind_of leaf.status)) (settled_of new) ≡ 0 + settled_or (is_live (kind_of leaf.status)) (settled_of new) = omega arith in
    ap (λ (k : StatusKind). settled_or (is_live k) (settled_of new)) is ∙ e
step_settled leaf ClosedKind n new is h = let e : suc n + settled_of (drop n new) ≡ suc (n + settled_of (drop n new)) = omega arith in ap suc h ∙ sym e
step_settled leaf FoundKind n new is h = let e : suc n + settled_of (drop n new) ≡ suc (n + settled_of (drop n new)) = omega arith in ap suc h ∙ sym e
step_settled leaf SplitKind n new is h = let e : suc n + settled_of (drop n new) ≡ suc (n + settled_of (drop n new)) = omega arith in ap suc h ∙ sym e

-- whatever is written over a live leaf and behind all nodes, the least live leaf is not before the one that was it
pub settled_moves : (nodes : List Leaf) (i : ℕ) (old new : Leaf) (more : List Leaf) → slice_get nodes i ≡ Some old → old.status ≡ Live
    → settled_of (set nodes i new ++ more) ≡ settled_of nodes + settled_of (drop (settled_of nodes) (set nodes i new ++ more))
settled_moves [] i old new more at live = absurd (none-some old at)
settled_moves (leaf ∷ nodes) zero old new more at live =
    let same : leaf.status ≡ Live = ap (λ (l : Leaf). l.status) (same_Some leaf old at) ∙ live in
    let all = new ∷ (nodes ++ more) in
    let e : settled_of all ≡ 0 + settled_of all = omega arith in
    subst (λ n. settled_of all ≡ n + settled_of (drop n all)) (sym (zero_live leaf.status (settled_of nodes) same)) e
settled_moves (leaf ∷ nodes) (suc i) old new more at live =
    step_settled leaf (kind_of leaf.status) (settled_of nodes) (set nodes i new ++ more) refl (settled_moves nodes i old new more at live)
