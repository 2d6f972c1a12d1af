-- What is settled of the blocks of a path is laid out in a row, and read back.
use Rattle.std.proofs.Common.{◌≡◌, ℕ, zero, suc, ◌+◌, ◌<◌, true, List, [], ◌∷◌, ◌++◌, map, length, replicate, take, arith, sym, ◌∙◌, ap, refl, subst, append_assoc, length-append}
use Rattle.std.specs.Prelude.{Option, None, Some, slice_get, IsTrue}
use Rattle.std.proofs.lemmas.Bool.Decides.{nat_tests}
use Rattle.hy_val.specs.Values.{has_sort}
use Rattle.hy_val.specs.declared.sort.Sort.{Sort}
use Rattle.hy_val.specs.declared.value.Value.{Value}
use Rattle.hy_term.specs.Meaning.{values, node_value, values_onto}
use Rattle.hy_term.specs.Variables.{node_below, below, reads}
use Rattle.hy_term.specs.declared.node.TermNode.{TermNode}
use Rattle.hy_term.specs.declared.node.TermNode.TheVariants.{Lit, ZeroMap, Variable, Unary, Binary, If, Select, Store}
use Rattle.hy_term.proofs.Sorting.{and_left, and_right}
use Rattle.flat_prog.specs.declared.proc.FlatProc.{FlatProc}
use Rattle.passive_form.specs.Limited.{Limited}
use Rattle.passive_form.specs.Local.{sorted_as}
use Rattle.vc_gen.specs.Fold.{Given}
use Rattle.vc_gen.specs.BlockPlans.{Entry, Any, Is, Stop, Keeps, Agree, AllSettled, Off}
use Rattle.vc_gen.specs.Items.{bool_sort, chosen}
use Rattle.vc_gen.specs.Inputs.{items_at, choices_at, sorts_of_block, sorts_of_blocks, given_at, givens_at, Shaped}
use Rattle.vc_gen.specs.Plans.{Follows, RowFits, AllOpen, OpenOff, settled_value, opens, OpenBehind, OpenAt}
use Rattle.vc_gen.proofs.Joining.{sorts_both, and_first, and_second}
use Rattle.vc_gen.proofs.Laying.{bits, bits_have, given_read}

-- ---- the old terms, under assignments that agree on their variables

node_same : (a b : ℕ → Value) (k : ℕ) (known : List Value) (node : TermNode) → IsTrue (node_below k node) → ((n : ℕ) → n < k → a n ≡ b n) → node_value a known node ≡ node_value b known node
node_same a b k known (Lit v) l h = refl
node_same a b k known (ZeroMap i e) l h = refl
node_same a b k known (Variable number sort) l h = h number (grind (arith, nat_tests, l))
node_same a b k known (Unary op child) l h = refl
node_same a b k known (Binary op left right) l h = refl
node_same a b k known (If test one other) l h = refl
node_same a b k known (Select m i) l h = refl
node_same a b k known (Store m i v) l h = refl

onto_same : (a b : ℕ → Value) (k : ℕ) (known : List Value) (nodes : List TermNode) → IsTrue (below k nodes) → ((n : ℕ) → n < k → a n ≡ b n) → values_onto a known nodes ≡ values_onto b known nodes
onto_same a b k known [] l h = refl
onto_same a b k known (node ∷ nodes) l h =
    ap (λ (v : Value). values_onto a (known ++ v ∷ []) nodes) (node_same a b k known node (and_left (node_below k node) (below k nodes) l) h)
    ∙ onto_same a b k (known ++ node_value b known node ∷ []) nodes (and_right (node_below k node) (below k nodes) l) h

pub old_same : (a b : ℕ → Value) (k : ℕ) (nodes : List TermNode) → IsTrue (below k nodes) → ((n : ℕ) → n < k → a n ≡ b n) → values a nodes ≡ values b nodes
old_same a b k nodes l h = onto_same a b k [] nodes l h

-- ---- rows

pub opens_open : (n : ℕ) → AllOpen (opens n)
opens_open zero = tt
opens_open (suc n) = opens_open n

pub opens_fit : (ss : List Sort) → RowFits ss (opens (length ss))
opens_fit [] = tt
opens_fit (s ∷ ss) = opens_fit ss

pub settled_fit : (ss : List Sort) (vs : List Value) → sorted_as ss vs ≡ true → RowFits ss (map settled_value vs)
settled_fit [] [] h = tt
settled_fit [] (v ∷ vs) h = cc
settled_fit (s ∷ ss) [] h = cc
settled_fit (s ∷ ss) (v ∷ vs) h = (and_first (has_sort v s) (sorted_as ss vs) h, settled_fit ss vs (and_second (has_sort v s) (sorted_as ss vs) h))

pub fits_both : (ss rs : List Sort) (vs ws : List (Option Value)) → RowFits ss vs → RowFits rs ws → RowFits (ss ++ rs) (vs ++ ws)
fits_both [] rs [] ws h k = k
fits_both [] rs (v ∷ vs) ws h k = absurd h
fits_both (s ∷ ss) rs [] ws h k = absurd h
fits_both (s ∷ ss) rs (None ∷ vs) ws h k = fits_both ss rs vs ws h k
fits_both (s ∷ ss) rs (Some v ∷ vs) ws (h, hs) k = (h, fits_both ss rs vs ws hs k)

pub row_count : (ss : List Sort) (vs : List (Option Value)) → RowFits ss vs → length vs ≡ length ss
row_count [] [] h = refl
row_count [] (v ∷ vs) h = absurd h
row_count (s ∷ ss) [] h = absurd h
row_count (s ∷ ss) (None ∷ vs) h = ap suc (row_count ss vs h)
row_count (s ∷ ss) (Some v ∷ vs) (h, hs) = ap suc (row_count ss vs hs)

pub follows_split : (a : ℕ → Value) (k : ℕ) (vs ws : List (Option Value)) → Follows a k (vs ++ ws) → Follows a k vs × Follows a (k + length vs) ws
follows_split a k [] ws h = let e : k ≡ k + 0 = omega arith in (tt, subst (λ (i : ℕ). Follows a i ws) e h)
follows_split a k (None ∷ vs) ws h =
    let e : k + 1 + length vs ≡ k + suc (length vs) = omega arith in
    let r = follows_split a (k + 1) vs ws h in
    (r.0, subst (λ (i : ℕ). Follows a i ws) e r.1)
follows_split a k (Some v ∷ vs) ws (h, hs) =
    let e : k + 1 + length vs ≡ k + suc (length vs) = omega arith in
    let r = follows_split a (k + 1) vs ws hs in
    ((h, r.0), subst (λ (i : ℕ). Follows a i ws) e r.1)

pub settled_read : (a : ℕ → Value) (k : ℕ) (vs : List Value) → Follows a k (map settled_value vs) → reads a k (length vs) ≡ vs
settled_read a k [] h = refl
settled_read a k (v ∷ vs) (h, hs) = ap (λ x. x ∷ reads a (k + 1) (length vs)) h ∙ ap (λ r. v ∷ r) (settled_read a (k + 1) vs hs)

-- ---- plans

-- what is settled where a run stops
pub record StopRow (flat : Limited) (q : FlatProc) (L : Given → Type 0) (count : ℕ) (n : ℕ) : Type 0 where
  pub vs : List (Option Value)
  pub sorts : RowFits (sorts_of_block flat q n) vs
  pub behind : OpenBehind count vs
  pub stops : (a : ℕ → Value) (k : ℕ) → Follows a k vs → L (given_at flat q a k n)

pub record LaidPlan (flat : Limited) (q : FlatProc) (L : Given → Type 0) (count : ℕ) (ns : List ℕ) (plan : List Entry) : Type 0 where
  pub vs : List (Option Value)
  pub sorts : RowFits (sorts_of_blocks flat q ns) vs
  pub agrees : (a : ℕ → Value) (k : ℕ) → Follows a k vs → Agree L ns plan (givens_at flat q a k ns)
  pub opens_are : (path : List ℕ) → Off path ns plan → OpenOff flat q path ns vs
  pub stops_are : (i : ℕ) → slice_get plan i ≡ Some Stop → OpenAt flat q ns i count vs

put_row : (flat : Limited) (q : FlatProc) (L : Given → Type 0) (count : ℕ) (n : ℕ) (ns : List ℕ) (p : Entry) (plan : List Entry) (mine : List (Option Value)) → RowFits (sorts_of_block flat q n) mine →
    ((a : ℕ → Value) (k : ℕ) → Follows a k mine → Keeps L n p (given_at flat q a k n)) → (p ≡ Any → AllOpen mine) → (p ≡ Stop → OpenBehind count mine) → LaidPlan flat q L count ns plan → LaidPlan flat q L count (n ∷ ns) (p ∷ plan)
put_row flat q L count n ns p plan mine fit keeps unsettled behind rest =
    let size = row_count (sorts_of_block flat q n) mine fit in
    record {
      vs = mine ++ rest.vs;
      sorts = fits_both (sorts_of_block flat q n) (sorts_of_blocks flat q ns) mine rest.vs fit rest.sorts;
      agrees = λ a k h.
          let two = follows_split a k mine rest.vs h in
          (keeps a k two.0, rest.agrees a (k + length (sorts_of_block flat q n)) (subst (λ (i : ℕ). Follows a (k + i) rest.vs) size two.1));
      opens_are = λ path o. (mine, rest.vs, refl, size, (λ h. unsettled (o.0 h)), rest.opens_are path o.1);
      stops_are = at_place size;
    }
  where
    at_place : length mine ≡ length (sorts_of_block flat q n) → (i : ℕ) → slice_get (p ∷ plan) i ≡ Some Stop → OpenAt flat q (n ∷ ns) i count (mine ++ rest.vs)
    at_place size zero h = let e : p ≡ Stop = cc in record {
      pre = [];
      mine = mine;
      post = rest.vs;
      row_is = refl;
      before = refl;
      size = λ m at. let same : n ≡ m = cc in size ∙ ap (λ j. length (sorts_of_block flat q j)) same;
      behind = behind e;
    }
    at_place size (suc i) h =
        let z = rest.stops_are i h in
        record {
          pre = mine ++ z.pre;
          mine = z.mine;
          post = z.post;
          row_is = ap (λ r. mine ++ r) z.row_is ∙ sym (append_assoc mine z.pre (z.mine ++ z.post));
          before = length-append mine z.pre ∙ ap (λ j. j + length z.pre) size ∙ ap (λ j. length (sorts_of_block flat q n) + j) z.before
              ∙ sym (length-append (sorts_of_block flat q n) (sorts_of_blocks flat q (take i ns)));
          size = z.size;
          behind = z.behind;
        }

given_here : (flat : Limited) (q : FlatProc) (n : ℕ) (g : Given) (num : g.number ≡ n) (sh : Shaped flat q g) (a : ℕ → Value) (k : ℕ) → Follows a k (map settled_value (sh.ins ++ bits g.choices)) → given_at flat q a k n ≡ g
given_here flat q n g num sh a k h = ap (given_at flat q a k) (sym num) ∙ given_read flat q g sh a k (settled_read a k (sh.ins ++ bits g.choices) h)

abbrev no_entries : List Entry
no_entries = []

pub laid_plan : (flat : Limited) (q : FlatProc) (L : Given → Type 0) (T : ℕ → Type 0) (count : ℕ) → ((n : ℕ) → T n → StopRow flat q L count n) → (ns : List ℕ) (plan : List Entry) → AllSettled (Shaped flat q) T ns plan → LaidPlan flat q L count ns plan
laid_plan flat q L T count stop [] [] h = record { vs = []; sorts = tt; agrees = λ a k f. tt; opens_are = λ path o. refl; stops_are = none }
  where
    none : (i : ℕ) → slice_get no_entries i ≡ Some Stop → OpenAt flat q [] i count []
    none i h = cc
laid_plan flat q L T count stop [] (p ∷ ps) h = absurd h
laid_plan flat q L T count stop (n ∷ ns) [] h = absurd h
laid_plan flat q L T count stop (n ∷ ns) (Any ∷ ps) (h, hs) =
    put_row flat q L count n ns Any ps (opens (length (sorts_of_block flat q n))) (opens_fit (sorts_of_block flat q n)) (λ a k f. refl) (λ e. opens_open (length (sorts_of_block flat q n))) (λ e. absurd (clash e)) (laid_plan flat q L T count stop ns ps hs)
  where
    clash : Any ≡ Stop → ⊥
    clash e = cc
laid_plan flat q L T count stop (n ∷ ns) (Is g ∷ ps) ((num, sh), hs) =
    let own = sh.ins ++ bits g.choices in
    let own_sorts : sorted_as (sorts_of_block flat q g.number) own ≡ true =
    sorts_both (chosen (items_at flat q g.number)) (replicate (choices_at q g.number) bool_sort) sh.ins (bits g.choices) sh.sorts (bits_have g.choices (choices_at q g.number) sh.count) in
    put_row flat q L count n ns (Is g) ps (map settled_value own) (subst (λ (i : ℕ). RowFits (sorts_of_block flat q i) (map settled_value own)) num (settled_fit (sorts_of_block flat q g.number) own own_sorts))
    (λ a k f. given_here flat q n g num sh a k f) (λ e. absurd (other g e)) (λ e. absurd (clash g e)) (laid_plan flat q L T count stop ns ps hs)
  where
    other : (g : Given) → Is g ≡ Any → ⊥
    other g e = cc

    clash : (g : Given) → Is g ≡ Stop → ⊥
    clash g e = cc
laid_plan flat q L T count stop (n ∷ ns) (Stop ∷ ps) (h, hs) =
    let z = stop n h in
    put_row flat q L count n ns Stop ps z.vs z.sorts (λ a k f. (refl, z.stops a k f)) (λ e. absurd (other e)) (λ e. z.behind) (laid_plan flat q L T count stop ns ps hs)
  where
    other : Stop ≡ Any → ⊥
    other e = cc
