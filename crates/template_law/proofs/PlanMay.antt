-- What free children may be: the numbers of what they change are those of the lists, and what they hand back is read there.
use Rattle.std.proofs.Common.{◌≡◌, ℕ, zero, suc, ◌+◌, ◌<◌, Bool, true, false, not, List, [], ◌∷◌, ◌++◌, map, length, slice_get, slice_index, slice_index_or, slice_set, All, Contains, refl, sym, ap, ◌∙◌, subst, inl, inr, ◌⊎◌, ⊎_elim, arith, true≢false}
use Rattle.std.specs.Prelude.{if◌then◌else◌}
use Rattle.std.specs.List.Sorted.{IsStrictlyIncreasing}
use Rattle.std.proofs.lemmas.Bool.{and_parts}
use Rattle.hy_val.specs.Values.{at}
use Rattle.hy_val.specs.declared.value.Value.{Value}
use Rattle.flat_prog.proofs.Lists.{has_cases, has_here, has_none, has_there}
use Rattle.flat_prog.proofs.Steps.{set_length, set_other}
use Rattle.flat_prog.specs.Changes.{AreChanged, MayBe, set_all}
use Rattle.flat_prog.specs.Limits.{AreLimits}
use Rattle.flat_prog.specs.Local.{Broken, Ended, Result, have_sorts}
use Rattle.flat_prog.specs.Program.{FlatProgram, outs_at}
use Rattle.vc_gen.specs.Emit.{AllBehind}
use Rattle.proc_template.specs.Numbered.{Ascends}
use Rattle.tree_terms.specs.Tables.{row}
use Rattle.tree_words.specs.Compose.{SiteIs}
use Rattle.tree_words.specs.Reading.{free_by}
use Rattle.tree_words.specs.View.{SiteView}
use Rattle.template_law.specs.Formulas.{AreChanges}
use Rattle.template_law.proofs.Fitting.{have_count}

-- ---- numbers that rise

rest_rises : (n : ℕ) (ns : List ℕ) → IsStrictlyIncreasing (n ∷ ns) → IsStrictlyIncreasing ns
rest_rises n ns h k l =
    let e : suc k + 1 ≡ suc (k + 1) = omega arith in
    subst (λ (j : ℕ). slice_index ns k < slice_index (n ∷ ns) j) e (h (suc k) (omega (arith, l)))

behind_all : (n : ℕ) (ns : List ℕ) → (0 < length ns → n < slice_index ns 0) → IsStrictlyIncreasing ns → AllBehind n ns
behind_all n [] first h = tt
behind_all n (m ∷ ns) first h =
    let low = first (omega arith) in
    (low, behind_all n ns (λ l. let next = h 0 (omega (arith, l)) in omega (arith, low, next)) (rest_rises m ns h))

ascends : (ns : List ℕ) → IsStrictlyIncreasing ns → Ascends ns
ascends [] h = tt
ascends (n ∷ ns) h = (behind_all n ns (λ l. h 0 (omega (arith, l))) (rest_rises n ns h), ascends ns (rest_rises n ns h))

behind_has : (n : ℕ) (ns : List ℕ) (g : ℕ) → AllBehind n ns → Contains ns g → n < g
behind_has n [] g h at = absurd (has_none g at)
behind_has n (m ∷ ns) g h at = ⊎_elim (λ e. let low = h.0 in omega (arith, e, low)) (λ more. behind_has n ns g h.1 more) (has_cases g m ns at)

-- with the same elements they are the same
same_rising : (xs ys : List ℕ) → Ascends xs → Ascends ys → ((g : ℕ) → Contains xs g → Contains ys g) → ((g : ℕ) → Contains ys g → Contains xs g) → xs ≡ ys
same_rising [] [] h k to back = refl
same_rising [] (y ∷ ys) h k to back = absurd (has_none y (back y (has_here y ys)))
same_rising (x ∷ xs) [] h k to back = absurd (has_none x (to x (has_here x xs)))
same_rising (x ∷ xs) (y ∷ ys) h k to back =
    let first : x ≡ y = by (has_cases x y ys (to x (has_here x xs))) (has_cases y x xs (back y (has_here y ys))) in
    ap (λ n. n ∷ xs) first ∙ ap (λ ns. y ∷ ns) (same_rising xs ys h.1 k.1 (λ g at. later y ys x first g (behind_has x xs g h.0 at) (to g (has_there g x xs at))) (λ g at. later x xs y (sym first) g (behind_has y ys g k.0 at) (back g (has_there g y ys at))))
  where
    by : (y ≡ x) ⊎ Contains ys x → (x ≡ y) ⊎ Contains xs y → x ≡ y
    by (inl e) other = sym e
    by (inr at) (inl e) = e
    by (inr at) (inr on) = let a = behind_has y ys x k.0 at in let b = behind_has x xs y h.0 on in absurd (omega (arith, a, b))

    later : (m : ℕ) (ms : List ℕ) (n : ℕ) → n ≡ m → (g : ℕ) → n < g → Contains (m ∷ ms) g → Contains ms g
    later m ms n e g low at = ⊎_elim (λ is. absurd (omega (arith, e, low, is))) (λ more. more) (has_cases g m ms at)

-- ---- values that are set

at_slice : (vs ws : List Value) (i : ℕ) → slice_get vs i ≡ slice_get ws i → at vs i ≡ at ws i
at_slice vs ws i e = rw e refl

set_at : (vs : List Value) (n : ℕ) (v : Value) → n < length vs → at (slice_set vs n v) n ≡ v
set_at [] n v h = absurd (omega (arith, h))
set_at (w ∷ vs) zero v h = refl
set_at (w ∷ vs) (suc n) v h = set_at vs n v (omega (arith, h))

all_count : (vs : List Value) (ns : List ℕ) (ws : List Value) → length (set_all vs ns ws) ≡ length vs
all_count vs [] ws = refl
all_count vs (n ∷ ns) [] = refl
all_count vs (n ∷ ns) (w ∷ ws) = all_count (slice_set vs n w) ns ws ∙ set_length vs n w

all_other : (vs : List Value) (ns : List ℕ) (ws : List Value) (g : ℕ) → (Contains ns g → ⊥) → at (set_all vs ns ws) g ≡ at vs g
all_other vs [] ws g out = refl
all_other vs (n ∷ ns) [] g out = refl
all_other vs (n ∷ ns) (w ∷ ws) g out =
    all_other (slice_set vs n w) ns ws g (λ more. out (has_there g n ns more))
    ∙ at_slice (slice_set vs n w) vs g (set_other vs n g w (λ e. out (subst (λ (m : ℕ). Contains (m ∷ ns) g) (sym e) (has_here g ns))))

-- what is set is read there
set_read : (vs : List Value) (ns : List ℕ) (ws : List Value) → Ascends ns → ((g : ℕ) → Contains ns g → g < length vs) → length ws ≡ length ns → map (at (set_all vs ns ws)) ns ≡ ws
set_read vs [] [] h low n = refl
set_read vs [] (w ∷ ws) h low n = absurd (omega (arith, n))
set_read vs (m ∷ ns) [] h low n = absurd (omega (arith, n))
set_read vs (m ∷ ns) (w ∷ ws) h low n =
    let here : at (set_all (slice_set vs m w) ns ws) m ≡ w =
    all_other (slice_set vs m w) ns ws m (λ at. let l = behind_has m ns m h.0 at in omega (arith, l)) ∙ set_at vs m w (low m (has_here m ns)) in
    let count = set_length vs m w in
    ap (λ v. v ∷ map (at (set_all (slice_set vs m w) ns ws)) ns) here
    ∙ ap (λ xs. w ∷ xs) (set_read (slice_set vs m w) ns ws h.1 (λ g at. let l = low g (has_there g m ns at) in omega (arith, l, count)) (omega (arith, n)))

-- ---- what may be changed is a global

mark_within : (marks : List Bool) (g : ℕ) → slice_index_or marks g false ≡ true → g < length marks
mark_within [] g h = absurd (true≢false (sym h))
mark_within (m ∷ marks) zero h = omega arith
mark_within (m ∷ marks) (suc g) h = let l = mark_within marks g h in omega (arith, l)

row_within : (limits : List (List Bool)) (n p g : ℕ) → All (λ (marks : List Bool). length marks ≡ n) limits → slice_index_or (slice_index_or limits p []) g false ≡ true → g < n
row_within [] n p g all h = absurd (true≢false (sym h))
row_within (marks ∷ limits) n zero g all h = let e = all 0 marks (omega arith) in let l = mark_within marks g h in omega (arith, e, l)
row_within (marks ∷ limits) n (suc p) g all h = row_within limits n p g (λ i d within. all (suc i) d (omega (arith, within))) h

-- ---- free children

module _ (flat : FlatProgram) (limits : List (List Bool)) (changes : List (List ℕ)) (are : AreLimits flat limits) (ch : AreChanges flat changes) where
  numbers_are : (p : ℕ) (ns : List ℕ) → AreChanged flat p ns → row changes p ≡ ns
  numbers_are p ns c =
      same_rising (row changes p) ns (ascends (row changes p) (ch p).ascend) (ascends ns c.ascend) (λ g at. (c.exact g).1 (((ch p).exact g).0 at)) (λ g at. ((ch p).exact g).1 ((c.exact g).0 at))

  pub may_is : (s : SiteView) (ends : Bool) (values : List Value) (result : Result) → MayBe flat s.call ends values result → SiteIs s result → (not s.fails ≡ ends) × (free_by changes s ≡ values)
  may_is s true values (Broken p n) m k = absurd m
  may_is s false values (Ended os gs) m k = absurd m
  may_is s false values (Broken p n) m k = (ap not k, ap (λ (b : Bool). if b then [] else s.outs ++ map (at s.globals) (row changes s.call.proc)) k ∙ sym m)
  may_is s true values (Ended os gs) m k =
      let ns = m.numbers in
      let fit = and_parts (have_sorts os (outs_at (slice_get flat.procs s.call.proc))) (have_sorts gs flat.globals) m.fit in
      let count = have_count gs flat.globals fit.1 in
      let same = ap length m.globals_are ∙ all_count s.call.globals ns m.new in
      let low : (g : ℕ) → Contains ns g → g < length s.call.globals = λ g at.
      let l = row_within limits (length flat.globals) s.call.proc g are.wide ((are.exact s.call.proc g).1 ((m.changed.exact g).0 at)) in
      omega (arith, l, count, same) in
      let read : map (at gs) ns ≡ m.new = ap (λ (vs : List Value). map (at vs) ns) m.globals_are ∙ set_read s.call.globals ns m.new (ascends ns m.changed.ascend) low m.one_each in (
        ap not k.0,
        ap (λ (b : Bool). if b then [] else s.outs ++ map (at s.globals) (row changes s.call.proc)) k.0
            ∙ ap (λ (xs : List Value). xs ++ map (at s.globals) (row changes s.call.proc)) k.1
            ∙ ap (λ (vs : List Value). os ++ map (at vs) (row changes s.call.proc)) k.2
            ∙ ap (λ (ms : List ℕ). os ++ map (at gs) ms) (numbers_are s.call.proc ns m.changed)
            ∙ ap (λ (xs : List Value). os ++ xs) read ∙ sym m.values_are,
      )
