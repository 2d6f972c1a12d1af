-- Lists of lists, sites, and what a loop has of them so far.
use Rattle.std.proofs.Common.{◌≡◌, ℕ, zero, suc, ◌+◌, ◌<◌, ◌≤◌, List, [], ◌∷◌, ◌++◌, length, take, refl, sym, ap, ◌∙◌, subst, arith, append_assoc, append-nil, length-append, slice_index_or, map}
use Rattle.std.proofs.lemmas.List.{take_more}
use Rattle.std.specs.Prelude.{None, Some, slice_get, slice_index, Result, IfOk, Bool, true, false, if◌then◌else◌}
use Rattle.std.specs.declared.alloc.AllocError.{AllocError}
use Rattle.hy_val.specs.declared.value.Value.{Value}
use Rattle.hy_val.specs.Values.{at}
use Rattle.flat_prog.specs.declared.proc.FlatProc.{FlatProc}
use Rattle.flat_prog.specs.declared.run.RunNode.{RunNode}
use Rattle.tree_terms.specs.declared.linked.Linked.{Linked}
use Rattle.tree_words.specs.Linking.{formula}
use Rattle.tree_words.specs.Template.{view_by}
use Rattle.tree_words.specs.Reading.{track_by, front_at, node_with, node_at, nodes_to, reached, slot, slots_to}
use Rattle.flat_prog.specs.Sites.{calls_of, calls_at, sites_of, numbers_from, sites_passed}
use Rattle.flat_prog.specs.declared.block.FlatBlock.{FlatBlock}
use Rattle.flat_prog.specs.declared.block.FlatCmd.{FlatCmd}
use Rattle.flat_prog.specs.declared.block.FlatCmd.TheVariants.{Assign, Havoc, Assume, Assert, Call}
use Rattle.tree_terms.specs.Tables.{row}

pub row_some : (t : List (List ℕ)) (m : ℕ) (r : List ℕ) → slice_get t m ≡ Some r → r ≡ row t m
row_some [] m r h = cc
row_some (x ∷ t) zero r h = cc
row_some (x ∷ t) (suc m) r h = row_some t m r h

pub row_none : (t : List (List ℕ)) (m : ℕ) → slice_get t m ≡ None → [] ≡ row t m
row_none [] m h = refl
row_none (x ∷ t) zero h = cc
row_none (x ∷ t) (suc m) h = row_none t m h

calls_behind : (xs ys : List FlatCmd) → calls_of (xs ++ ys) ≡ calls_of xs ++ calls_of ys
calls_behind [] ys = refl
calls_behind (Assign pairs ∷ xs) ys = calls_behind xs ys
calls_behind (Havoc vs ∷ xs) ys = calls_behind xs ys
calls_behind (Assume e ∷ xs) ys = calls_behind xs ys
calls_behind (Assert p n e ∷ xs) ys = calls_behind xs ys
calls_behind (Call p args outs ∷ xs) ys = ap (λ (cs : List ℕ). p ∷ cs) (calls_behind xs ys)

sites_behind : (xs ys : List FlatBlock) → sites_of (xs ++ ys) ≡ sites_of xs ++ sites_of ys
sites_behind [] ys = refl
sites_behind (b ∷ xs) ys = ap (λ (cs : List ℕ). calls_of b.cmds ++ cs) (sites_behind xs ys) ∙ sym (append_assoc (calls_of b.cmds) (sites_of xs) (sites_of ys))

numbers_more : (first k : ℕ) → numbers_from first (k + 1) ≡ numbers_from first k ++ (first + k) ∷ []
numbers_more first zero = ap (λ (n : ℕ). n ∷ []) (let e : first ≡ first + 0 = omega arith in e)
numbers_more first (suc k) =
    let e : (first + 1) + k ≡ first + suc k = omega arith in
    ap (λ (n : ℕ). numbers_from first n) (let m : suc k + 1 ≡ suc (k + 1) = omega arith in m)
    ∙ ap (λ (ns : List ℕ). first ∷ ns) (numbers_more (first + 1) k ∙ ap (λ (n : ℕ). numbers_from (first + 1) k ++ n ∷ []) e)

passed_behind : (blocks : List FlatBlock) (xs : List ℕ) (b : ℕ)
    → sites_passed blocks (xs ++ b ∷ []) ≡ sites_passed blocks xs ++ numbers_from (length (sites_of (take b blocks))) (length (calls_at (slice_get blocks b)))
passed_behind blocks [] b = append-nil (numbers_from (length (sites_of (take b blocks))) (length (calls_at (slice_get blocks b))))
passed_behind blocks (x ∷ xs) b =
    let front = numbers_from (length (sites_of (take x blocks))) (length (calls_at (slice_get blocks x))) in
    ap (λ (ns : List ℕ). front ++ ns) (passed_behind blocks xs b)
    ∙ sym (append_assoc front (sites_passed blocks xs) (numbers_from (length (sites_of (take b blocks))) (length (calls_at (slice_get blocks b)))))

taken : {X : Type 0} (xs : List X) (i : ℕ) (x : X) → i < length xs → x ≡ slice_index_or xs i x → take (i + 1) xs ≡ take i xs ++ x ∷ []
taken xs i x l is = take_more xs i x l ∙ ap (λ z. take i xs ++ z ∷ []) (sym is)

-- a block more
pub before_more : (blocks : List FlatBlock) (i count more : ℕ) (block : FlatBlock) → i < length blocks → block ≡ slice_index_or blocks i block → count ≡ length (sites_of (take i blocks))
    → more ≡ count + length (calls_of block.cmds) → more ≡ length (sites_of (take (i + 1) blocks))
before_more blocks i count more block l is h m =
    let e : length (sites_of (take (i + 1) blocks)) ≡ length (sites_of (take i blocks)) + length (calls_of block.cmds) =
    ap (λ (bs : List FlatBlock). length (sites_of bs)) (taken blocks i block l is)
    ∙ (ap length (sites_behind (take i blocks) (block ∷ [])) ∙ (length-append (sites_of (take i blocks)) (sites_of (block ∷ []))
    ∙ ap (λ (ns : List ℕ). length (sites_of (take i blocks)) + length ns) (append-nil (calls_of block.cmds)))) in
    omega (arith, e, h, m)

-- a number more
pub pushed_more : (old now new : List ℕ) (first k n : ℕ) → now ≡ old ++ numbers_from first k → n ≡ first + k → new ≡ now ++ n ∷ [] → new ≡ old ++ numbers_from first (k + 1)
pushed_more old now new first k n h e p =
    p ∙ (ap (λ (ns : List ℕ). ns ++ n ∷ []) h ∙ (append_assoc old (numbers_from first k) (n ∷ [])
    ∙ ap (λ (ns : List ℕ). old ++ ns) (ap (λ (m : ℕ). numbers_from first k ++ m ∷ []) e ∙ sym (numbers_more first k))))

-- a block of the path more
pub passed_more : (blocks : List FlatBlock) (path : List ℕ) (i first count : ℕ) (old new : List ℕ) → i < length path → old ≡ sites_passed blocks (take i path)
    → first ≡ length (sites_of (take (slice_index path i) blocks)) → count ≡ length (calls_at (slice_get blocks (slice_index path i))) → new ≡ old ++ numbers_from first count
    → new ≡ sites_passed blocks (take (i + 1) path)
passed_more blocks path i first count old new l h f c p =
    let b = slice_index path i in
    p ∙ (ap (λ (ns : List ℕ). ns ++ numbers_from first count) h
    ∙ (ap (λ (n : ℕ). sites_passed blocks (take i path) ++ numbers_from n count) f
    ∙ (ap (λ (n : ℕ). sites_passed blocks (take i path) ++ numbers_from (length (sites_of (take b blocks))) n) c
    ∙ sym (ap (sites_passed blocks) (take_more path i 0 l) ∙ passed_behind blocks (take i path) b))))

-- ---- nodes of a run

pub node_is : (r : Result RunNode AllocError) (procs : List FlatProc) (changes : List (List ℕ)) (slots : List ℕ) (q : Linked) (places : List (List ℕ)) (vs : List Value) (m : ℕ) (own own2 front : List Value) (places_of : List ℕ)
    → own2 ≡ own → own ≡ map (at vs) places_of → places_of ≡ row places m → front ≡ front_at q vs m
    → IfOk r (λ n. n ≡ node_with procs changes slots q m (view_by (formula q track_by m) own2) front) → IfOk r (λ n. n ≡ node_at procs changes slots q places vs m)
node_is r procs changes slots q places vs m own own2 front places_of e f g h is =
    subst (λ (x : List Value). IfOk r (λ n. n ≡ node_with procs changes slots q m (view_by (formula q track_by m) x) (front_at q vs m))) (e ∙ (f ∙ ap (map (at vs)) g))
    (subst (λ (x : List Value). IfOk r (λ n. n ≡ node_with procs changes slots q m (view_by (formula q track_by m) own2) x)) h is)

pub node_more : (r : ℕ → Bool) (node : ℕ → RunNode) (m : ℕ) (old new : List RunNode) (n : RunNode) → r m ≡ true → old ≡ nodes_to r node m → n ≡ node m → new ≡ old ++ n ∷ [] → new ≡ nodes_to r node (m + 1)
node_more r node m old new n on h is p =
    let e : suc m ≡ m + 1 = omega arith in
    p ∙ (ap (λ (ns : List RunNode). ns ++ n ∷ []) h ∙ (ap (λ (x : RunNode). nodes_to r node m ++ x ∷ []) is
    ∙ (sym (ap (λ (b : Bool). if b then nodes_to r node m ++ node m ∷ [] else nodes_to r node m) on) ∙ ap (λ (k : ℕ). nodes_to r node k) e)))

pub node_less : (r : ℕ → Bool) (node : ℕ → RunNode) (m : ℕ) (old : List RunNode) → r m ≡ false → old ≡ nodes_to r node m → old ≡ nodes_to r node (m + 1)
node_less r node m old off h =
    let e : suc m ≡ m + 1 = omega arith in
    h ∙ (sym (ap (λ (b : Bool). if b then nodes_to r node m ++ node m ∷ [] else nodes_to r node m) off) ∙ ap (λ (k : ℕ). nodes_to r node k) e)

-- ---- numbers among those that are reached

pub record Slots (r : ℕ → Bool) (list : List ℕ) (next m : ℕ) : Type 0 where
  pub list_is : list ≡ slots_to r m
  pub next_is : next ≡ slot r m
  pub low : next ≤ m

slots_more : (r : ℕ → Bool) (list new : List ℕ) (next m : ℕ) → Slots r list next m → new ≡ list ++ next ∷ [] → new ≡ slots_to r (m + 1)
slots_more r list new next m s p =
    let e : suc m ≡ m + 1 = omega arith in
    p ∙ (ap (λ (ns : List ℕ). ns ++ next ∷ []) s.list_is ∙ (ap (λ (n : ℕ). slots_to r m ++ n ∷ []) s.next_is ∙ ap (slots_to r) e))

pub slot_on : (r : ℕ → Bool) (list new : List ℕ) (next m : ℕ) → Slots r list next m → r m ≡ true → new ≡ list ++ next ∷ [] → Slots r new (next + 1) (m + 1)
slot_on r list new next m s on p = record {
  list_is = slots_more r list new next m s p;
  next_is =
      let e : suc m ≡ m + 1 = omega arith in
      let f : next + 1 ≡ suc next = omega arith in
      f ∙ (ap suc s.next_is ∙ (sym (ap (λ (b : Bool). if b then suc (slot r m) else slot r m) on) ∙ ap (slot r) e));
  low = omega (arith, s.low);
}

pub slot_off : (r : ℕ → Bool) (list new : List ℕ) (next m : ℕ) → Slots r list next m → r m ≡ false → new ≡ list ++ next ∷ [] → Slots r new next (m + 1)
slot_off r list new next m s off p = record {
  list_is = slots_more r list new next m s p;
  next_is =
      let e : suc m ≡ m + 1 = omega arith in
      s.next_is ∙ (sym (ap (λ (b : Bool). if b then suc (slot r m) else slot r m) off) ∙ ap (slot r) e);
  low = omega (arith, s.low);
}

pub read_more : (procs : List FlatProc) (changes : List (List ℕ)) (q : Linked) (places : List (List ℕ)) (reach : List ℕ) (vs : List Value) (m len : ℕ) (slots slots2 : List ℕ) (old new : List RunNode) (n : RunNode)
    → reached reach vs m ≡ true → slots2 ≡ slots → slots ≡ slots_to (reached reach vs) len → len ≡ length q.tree
    → old ≡ nodes_to (reached reach vs) (node_at procs changes (slots_to (reached reach vs) (length q.tree)) q places vs) m
    → n ≡ node_at procs changes slots2 q places vs m → new ≡ old ++ n ∷ [] → new ≡ nodes_to (reached reach vs) (node_at procs changes (slots_to (reached reach vs) (length q.tree)) q places vs) (m + 1)
read_more procs changes q places reach vs m len slots slots2 old new n on e f g h is p =
    node_more (reached reach vs) (node_at procs changes (slots_to (reached reach vs) (length q.tree)) q places vs) m old new n on h
    (is ∙ ap (λ (s : List ℕ). node_at procs changes s q places vs m) (e ∙ (f ∙ ap (slots_to (reached reach vs)) g))) p
