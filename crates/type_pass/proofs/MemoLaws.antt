-- Values that are found step by step: where a graph has an order, one value for each node is enough.
use Rattle.std.proofs.Common.{◌≡◌, ℕ, zero, suc, ◌+◌, ◌<◌, ◌≤◌, Bool, true, false, List, [], ◌∷◌, ◌++◌, length, take, get_or, set, refl, sym, ◌∙◌, ap, subst, arith, append_assoc, length-append, length-set, get_or-set_same, get_or-set_other, true≢false}
use Rattle.std.proofs.lemmas.Bool.Decides.{Decides-eqb}
use Rattle.std.proofs.lemmas.List.{take_more, take_all}
use Rattle.std.specs.List.{list_all}
use Rattle.std.specs.Prelude.{nat_eq, ◌&&◌, ◌||◌}
use Rattle.type_pass.specs.Graphs.{Graph, edges}
use Rattle.type_pass.specs.Memos.{listed_value}
use Rattle.type_pass.specs.Orders.{is_in, Follows, IsOrder}
use Rattle.type_pass.proofs.OrderLaws.{is_in-push}

both : (a b : Bool) → (a && b) ≡ true → (a ≡ true) × (b ≡ true)
both true true h = (refl, refl)
both true false h = absurd (cc)
both false b h = absurd (cc)

same-number : (c n : ℕ) → nat_eq c n ≡ true → c ≡ n
same-number c n h = (Decides-eqb c n).0 h

-- what holds of all holds of one
pub at-one : (p : ℕ → Bool) (es : List ℕ) (c : ℕ) → list_all p es ≡ true → is_in es c ≡ true → p c ≡ true
at-one p [] c all here = absurd (true≢false (sym here))
at-one p (e ∷ es) c all here = by (nat_eq c e) refl here (at-one p es c (both (p e) (list_all p es) all).1)
  where
    by : (b : Bool) → nat_eq c e ≡ b → (b || is_in es c) ≡ true → (is_in es c ≡ true → p c ≡ true) → p c ≡ true
    by true same h later = ap p (same-number c e same) ∙ (both (p e) (list_all p es) all).0
    by false same h later = later h

-- one of which it does not hold
pub one-not : (p : ℕ → Bool) (es : List ℕ) → list_all p es ≡ false → (c : ℕ) × (is_in es c ≡ true) × (p c ≡ false)
one-not p [] h = absurd (true≢false h)
one-not p (e ∷ es) h = by (p e) refl h (one-not p es)
  where
    same : (n : ℕ) → nat_eq n n ≡ true
    same n = (Decides-eqb n n).1 refl

    later : (c : ℕ) (b : Bool) → is_in es c ≡ true → (b || is_in es c) ≡ true
    later c true h = refl
    later c false h = h

    by : (b : Bool) → p e ≡ b → (b && list_all p es) ≡ false → (list_all p es ≡ false → (c : ℕ) × (is_in es c ≡ true) × (p c ≡ false)) → (c : ℕ) × (is_in (e ∷ es) c ≡ true) × (p c ≡ false)
    by false none h rest = (e, ap (λ b. b || is_in es e) (same e), none)
    by true some h rest = let o = rest h in (o.0, later o.0 (nat_eq o.0 e) o.1, o.2)

-- the edges of a node lead to those that stand before it
pub follows-at : (g : Graph) (before ns : List ℕ) (h : ℕ) → Follows g before ns → h < length ns → list_all (is_in (before ++ take h ns)) (edges g (get_or ns h 0)) ≡ true
follows-at g before [] h f within = absurd (omega arith)
follows-at g before (n ∷ ns) zero f within = subst (λ ms. list_all (is_in ms) (edges g n) ≡ true) (sym (nil before)) f.0
  where
    nil : (xs : List ℕ) → xs ++ [] ≡ xs
    nil [] = refl
    nil (x ∷ xs) = ap (λ ys. x ∷ ys) (nil xs)
follows-at g before (n ∷ ns) (suc h) f within =
    let lt : h < length ns = omega arith in
    subst (λ ms. list_all (is_in ms) (edges g (get_or ns h 0)) ≡ true) (append_assoc before (n ∷ []) (take h ns)) (follows-at g (before ++ n ∷ []) ns h f.1 lt)

module _ {V : Type 0} (none : V) (step : (ℕ → V) → ℕ → V) where
  -- the value after so many steps
  abbrev pub iterated : ℕ → ℕ → V
  iterated zero i = none
  iterated (suc k) i = step (iterated k) i

-- the value of a node depends on those to which its edges lead, and is none where one of those has none
pub record IsStep {V : Type 0} (none : V) (step : (ℕ → V) → ℕ → V) (g : Graph) : Type 0 where
  pub agree : (f h : ℕ → V) (i : ℕ) → ((c : ℕ) → is_in (edges g i) c ≡ true → f c ≡ h c) → step f i ≡ step h i
  pub strict : (f : ℕ → V) (i c : ℕ) → is_in (edges g i) c ≡ true → f c ≡ none → step f i ≡ none
  pub inside : (i c : ℕ) → is_in (edges g i) c ≡ true → c < length g

-- the values of the nodes seen so far are noted, and no others
pub record IsNoted {V : Type 0} (none : V) (step : (ℕ → V) → ℕ → V) (g : Graph) (seen : List ℕ) (memo : List V) : Type 0 where
  pub known : (c : ℕ) → is_in seen c ≡ true → get_or memo c none ≡ iterated none step (length g) c
  pub blank : (c : ℕ) → is_in seen c ≡ false → get_or memo c none ≡ none
  pub size : length memo ≡ length g

module _ {V : Type 0} (none : V) (step : (ℕ → V) → ℕ → V) (g : Graph) (is : IsStep none step g) where
  stable-step : (n i : ℕ) → ((c : ℕ) → is_in (edges g i) c ≡ true → (k : ℕ) → n ≤ k → iterated none step k c ≡ iterated none step n c)
      → (k : ℕ) → suc n ≤ k → iterated none step k i ≡ iterated none step (suc n) i
  stable-step n i h zero le = absurd (omega arith)
  stable-step n i h (suc k) le = is.agree (iterated none step k) (iterated none step n) i (λ c here. h c here k (omega arith))

  stable-more : (n m i : ℕ) → n ≤ m → ((k : ℕ) → n ≤ k → iterated none step k i ≡ iterated none step n i) → (k : ℕ) → m ≤ k → iterated none step k i ≡ iterated none step m i
  stable-more n m i le h k above = h k (omega arith) ∙ sym (h m le)

  longer : (before : List ℕ) (n : ℕ) → length (before ++ n ∷ []) ≡ suc (length before)
  longer before n = let e = length-append before (n ∷ []) in omega (arith, e)

  left-true : (b : Bool) → (b || false) ≡ true → b ≡ true
  left-true true e = refl
  left-true false e = absurd (cc)

  stable-next : (before : List ℕ) (n c : ℕ) (b : Bool) → nat_eq c n ≡ b
      → ((k : ℕ) → suc (length before) ≤ k → iterated none step k n ≡ iterated none step (suc (length before)) n)
      → ((c : ℕ) → is_in before c ≡ true → (k : ℕ) → length before ≤ k → iterated none step k c ≡ iterated none step (length before) c)
      → (is_in before c || b) ≡ true → (k : ℕ) → suc (length before) ≤ k → iterated none step k c ≡ iterated none step (suc (length before)) c
  stable-next before n c true same head h e k le =
      let z : c ≡ n = same-number c n same in
      subst (λ (v : ℕ). iterated none step k v ≡ iterated none step (suc (length before)) v) (sym z) (head k le)
  stable-next before n c false same head h e k le = stable-more (length before) (suc (length before)) c (omega arith) (h c (left-true (is_in before c) e)) k le

  stable-either : (before ns : List ℕ) (n i : ℕ) (b : Bool) → nat_eq i n ≡ b
      → ((k : ℕ) → suc (length before) ≤ k → iterated none step k n ≡ iterated none step (suc (length before)) n)
      → (is_in ns i ≡ true → (k : ℕ) → length (before ++ n ∷ []) + length ns ≤ k → iterated none step k i ≡ iterated none step (length (before ++ n ∷ []) + length ns) i)
      → (b || is_in ns i) ≡ true → (k : ℕ) → length before + suc (length ns) ≤ k → iterated none step k i ≡ iterated none step (length before + suc (length ns)) i
  stable-either before ns n i true same head rest e =
      let z : i ≡ n = same-number i n same in
      stable-more (suc (length before)) (length before + suc (length ns)) i (omega arith)
      (subst (λ (v : ℕ). (k : ℕ) → suc (length before) ≤ k → iterated none step k v ≡ iterated none step (suc (length before)) v) (sym z) head)
  stable-either before ns n i false same head rest e =
      let l = longer before n in
      let sum : length (before ++ n ∷ []) + length ns ≡ length before + suc (length ns) = omega (arith, l) in
      subst (λ (v : ℕ). (k : ℕ) → v ≤ k → iterated none step k i ≡ iterated none step v i) sum (rest e)

  stable-order : (before ns : List ℕ) → Follows g before ns
      → ((c : ℕ) → is_in before c ≡ true → (k : ℕ) → length before ≤ k → iterated none step k c ≡ iterated none step (length before) c)
      → (i : ℕ) → is_in ns i ≡ true → (k : ℕ) → length before + length ns ≤ k → iterated none step k i ≡ iterated none step (length before + length ns) i
  stable-order before [] f h i here = absurd (true≢false (sym here))
  stable-order before (n ∷ ns) f h i here =
      let head : (k : ℕ) → suc (length before) ≤ k → iterated none step k n ≡ iterated none step (suc (length before)) n =
      stable-step (length before) n (λ c e. h c (at-one (is_in before) (edges g n) c f.0 e)) in
      stable-either before ns n i (nat_eq i n) refl head
      (λ e. stable-order (before ++ n ∷ []) ns f.1
      (λ c here'. subst (λ (v : ℕ). (k : ℕ) → v ≤ k → iterated none step k c ≡ iterated none step v c) (sym (longer before n))
      (stable-next before n c (nat_eq c n) refl head h (sym (is_in-push before n c) ∙ here')))
      i e)
      here

  -- a node that has a place has its value after as many steps as there are nodes
  pub settled : (ns : List ℕ) → IsOrder g ns → (i : ℕ) → is_in ns i ≡ true → (k : ℕ) → length g ≤ k → iterated none step k i ≡ iterated none step (length g) i
  settled ns o i here =
      let few = o.few in
      stable-more (0 + length ns) (length g) i (omega arith) (stable-order [] ns o.follows (λ c h. absurd (true≢false (sym h))) i here)

  -- and another one has none, after any number of steps
  pub bottom : (ns : List ℕ) → IsOrder g ns → (k i : ℕ) → i < length g → is_in ns i ≡ false → iterated none step k i ≡ none
  bottom ns o zero i within out = refl
  bottom ns o (suc k) i within out =
      let c = one-not (is_in ns) (edges g i) (o.others i within out) in
      is.strict (iterated none step k) i c.0 c.1 (bottom ns o k c.0 (is.inside i c.0 c.1) c.2)

  -- the value of the next node
  pub next-value : (ns : List ℕ) → IsOrder g ns → (h : ℕ) (memo : List V) → h < length ns → IsNoted none step g (take h ns) memo
      → step (listed_value none memo) (get_or ns h 0) ≡ iterated none step (length g) (get_or ns h 0)
  next-value ns o h memo within noted =
      let n = get_or ns h 0 in
      let before : list_all (is_in (take h ns)) (edges g n) ≡ true = follows-at g [] ns h o.follows within in
      is.agree (listed_value none memo) (iterated none step (length g)) n (λ c e. noted.known c (at-one (is_in (take h ns)) (edges g n) c before e))
      ∙ settled ns o n (at-itself ns h within) (suc (length g)) (omega arith)
    where
      same : (n : ℕ) → nat_eq n n ≡ true
      same n = (Decides-eqb n n).1 refl

      later : (a b : Bool) → b ≡ true → (a || b) ≡ true
      later true b h = refl
      later false b h = h

      at-itself : (ms : List ℕ) (j : ℕ) → j < length ms → is_in ms (get_or ms j 0) ≡ true
      at-itself [] j w = absurd (omega arith)
      at-itself (m ∷ ms) zero w = ap (λ b. b || is_in ms m) (same m)
      at-itself (m ∷ ms) (suc j) w = let lt : j < length ms = omega arith in later (nat_eq (get_or ms j 0) m) (is_in ms (get_or ms j 0)) (at-itself ms j lt)

  pub node-within : (ns : List ℕ) → IsOrder g ns → (h : ℕ) → h < length ns → get_or ns h 0 < length g
  node-within ns o h within = o.nodes (get_or ns h 0) (at-itself ns h within)
    where
      same : (n : ℕ) → nat_eq n n ≡ true
      same n = (Decides-eqb n n).1 refl

      later : (a b : Bool) → b ≡ true → (a || b) ≡ true
      later true b h = refl
      later false b h = h

      at-itself : (ms : List ℕ) (j : ℕ) → j < length ms → is_in ms (get_or ms j 0) ≡ true
      at-itself [] j w = absurd (omega arith)
      at-itself (m ∷ ms) zero w = ap (λ b. b || is_in ms m) (same m)
      at-itself (m ∷ ms) (suc j) w = let lt : j < length ms = omega arith in later (nat_eq (get_or ms j 0) m) (is_in ms (get_or ms j 0)) (at-itself ms j lt)

  -- one node more is noted
  pub noted-more : (ns : List ℕ) → IsOrder g ns → (h : ℕ) (memo : List V) (v : V) (n : ℕ) → h < length ns → n ≡ get_or ns h 0 → v ≡ step (listed_value none memo) n
      → IsNoted none step g (take h ns) memo → IsNoted none step g (take (h + 1) ns) (set memo n v)
  noted-more ns o h memo v n within at value noted =
      let e : take (h + 1) ns ≡ take h ns ++ n ∷ [] = take_more ns h 0 within ∙ ap (λ m. take h ns ++ m ∷ []) (sym at) in
      let lt : n < length memo = let w = node-within ns o h within in omega (arith, noted.size, at) in
      let right : v ≡ iterated none step (length g) n = value ∙ ap (step (listed_value none memo)) at ∙ next-value ns o h memo within noted ∙ ap (iterated none step (length g)) (sym at) in
      record {
        known = λ c here. known c (nat_eq c n) refl lt right (sym (is_in-push (take h ns) n c) ∙ ap (λ ms. is_in ms c) (sym e) ∙ here);
        blank = λ c out. blank c (nat_eq c n) refl (sym (is_in-push (take h ns) n c) ∙ ap (λ ms. is_in ms c) (sym e) ∙ out);
        size = length-set memo n v ∙ noted.size;
      }
    where
      left : (b : Bool) → (b || false) ≡ true → b ≡ true
      left true e = refl
      left false e = absurd (cc)

      left-not : (b : Bool) → (b || false) ≡ false → b ≡ false
      left-not true e = absurd (cc)
      left-not false e = refl

      never : (b : Bool) → (b || true) ≡ false → false ≡ true
      never true e = sym e
      never false e = sym e

      known : (c : ℕ) (b : Bool) → nat_eq c n ≡ b → n < length memo → v ≡ iterated none step (length g) n → (is_in (take h ns) c || b) ≡ true
          → get_or (set memo n v) c none ≡ iterated none step (length g) c
      known c true same lt right here =
          let z : c ≡ n = same-number c n same in
          ap (λ k. get_or (set memo n v) k none) z ∙ get_or-set_same memo n v none lt ∙ right ∙ ap (iterated none step (length g)) (sym z)
      known c false same lt right here =
          get_or-set_other memo n c v none (λ z. true≢false (sym ((Decides-eqb c n).1 z) ∙ same)) ∙ noted.known c (left (is_in (take h ns) c) here)

      blank : (c : ℕ) (b : Bool) → nat_eq c n ≡ b → (is_in (take h ns) c || b) ≡ false → get_or (set memo n v) c none ≡ none
      blank c true same out = absurd (true≢false (sym (never (is_in (take h ns) c) out)))
      blank c false same out =
          get_or-set_other memo n c v none (λ z. true≢false (sym ((Decides-eqb c n).1 z) ∙ same)) ∙ noted.blank c (left-not (is_in (take h ns) c) out)

  -- at the end each node has its value
  pub noted-all : (ns : List ℕ) → IsOrder g ns → (h : ℕ) (memo : List V) → length ns ≤ h → IsNoted none step g (take h ns) memo → (c : ℕ) → c < length g
      → get_or memo c none ≡ iterated none step (length g) c
  noted-all ns o h memo past noted c within =
      let e : take h ns ≡ ns = take_all h ns past in
      by e (is_in ns c) refl
    where
      by : take h ns ≡ ns → (b : Bool) → is_in ns c ≡ b → get_or memo c none ≡ iterated none step (length g) c
      by e true here = noted.known c (ap (λ ms. is_in ms c) e ∙ here)
      by e false out = noted.blank c (ap (λ ms. is_in ms c) e ∙ out) ∙ sym (bottom ns o (length g) c within out)
