-- Each entry with the next one of its map.
use Rattle.std.proofs.Common.{◌≡◌, ◌≢◌, ℕ, zero, suc, ◌+◌, ◌-◌, ◌<◌, ◌≤◌, Bool, true, false, ◌&&◌, List, [], ◌∷◌, length, drop, arith, sym, ◌∙◌, ap, refl, subst}
use Rattle.std.specs.Prelude.{Option, None, Some, if◌then◌else◌, slice_get, slice_index, slice_set, nat_eq}
use Rattle.std.specs.Option.{unwrap_or}
use Rattle.std.proofs.lemmas.Bool.Decides.{nat_tests}
use Rattle.std.proofs.lemmas.Option.{slice_get-get_or, slice_get_within}
use Rattle.std.proofs.lemmas.List.{length-set}
use Rattle.hy_val.specs.Table.{Table}
use Rattle.hy_val.specs.Maps.{stored}
use Rattle.hy_val.specs.Values.{at, atom_of}
use Rattle.hy_val.specs.declared.value.Value.{Value}
use Rattle.map_axioms.specs.declared.entry.Entry.{Entry}
use Rattle.map_axioms.specs.Steps.{IsNext, LinksFrom, filled, pairs_on, of_map}
use Rattle.map_axioms.proofs.Homes.{number_is}
use Rattle.map_axioms.proofs.Conjoining.{pair_other, drop_at}

-- ---- what is left out

drop_none : {A : Type 0} (xs : List A) (k : ℕ) → slice_get xs k ≡ None → drop k xs ≡ []
drop_none [] zero h = refl
drop_none [] (suc k) h = refl
drop_none (x ∷ xs) zero h = cc
drop_none (x ∷ xs) (suc k) h = drop_none xs k h

none_after : {A : Type 0} (xs : List A) (k l : ℕ) → slice_get xs k ≡ None → k ≤ l → slice_get xs l ≡ None
none_after [] zero zero h low = refl
none_after [] zero (suc l) h low = refl
none_after [] (suc k) zero h low = refl
none_after [] (suc k) (suc l) h low = refl
none_after (x ∷ xs) zero l h low = cc
none_after (x ∷ xs) (suc k) zero h low = absurd (omega (arith, low))
none_after (x ∷ xs) (suc k) (suc l) h low = none_after xs k l h (omega (arith, low))

-- no entry of the map stands from one place to another
abbrev pub Skips : ℕ → List Entry → ℕ → ℕ → Type 0
Skips m es a l = (k : ℕ) (x : Entry) → a ≤ k → k < l → slice_get es k ≡ Some x → nat_eq m x.map ≡ false

-- what entries of other maps don't change is the same from both places
skip_by : {X : Type 0} (f : List Entry → X) (m : ℕ) (es : List Entry) (d a l : ℕ) (o : Option Entry) → ((x : Entry) (rest : List Entry) → nat_eq m x.map ≡ false → f (x ∷ rest) ≡ f rest) → slice_get es a ≡ o → a + d ≡ l → Skips m es a l
    → f (drop a es) ≡ f (drop l es)
skip_by f m es zero a l o other is end h = let same : a ≡ l = omega (arith, end) in ap (λ (k : ℕ). f (drop k es)) same
skip_by f m es (suc d) a l None other is end h =
    let low : a ≤ l = omega (arith, end) in
    ap f (drop_none es a is ∙ sym (drop_none es l (none_after es a l is low)))
skip_by f m es (suc d) a l (Some x) other is end h =
    ap f (drop_at es a x is) ∙ other x (drop (a + 1) es) (h a x (omega arith) (omega (arith, end)) is)
    ∙ skip_by f m es d (a + 1) l (slice_get es (a + 1)) other refl (omega (arith, end)) (λ k y low high there. h k y (omega (arith, low)) high there)

skip : {X : Type 0} (f : List Entry → X) (m : ℕ) (es : List Entry) (a l : ℕ) → ((x : Entry) (rest : List Entry) → nat_eq m x.map ≡ false → f (x ∷ rest) ≡ f rest) → IsNext es m a l → f (drop a es) ≡ f (drop l es)
skip f m es a l other h = skip_by f m es (l - a) a l (slice_get es a) other refl (let w = h.after in omega (arith, w)) h.skips

pub skip_pairs : (vs : List Value) (p : Entry) (es : List Entry) (a l : ℕ) → IsNext es p.map a l → pairs_on vs p (drop a es) ≡ pairs_on vs p (drop l es)
skip_pairs vs p es a l h = skip (pairs_on vs p) p.map es a l (λ x rest other. ap (λ (b : Bool). b && pairs_on vs p rest) (pair_other p x vs other)) h

few_by : (n : ℕ) (b : Bool) → b ≡ false → (if b then 1 else 0) + n ≡ n
few_by n true h = cc
few_by n false h = omega arith

pub skip_few : (p : Entry) (es : List Entry) (a l : ℕ) → IsNext es p.map a l → of_map p (drop a es) ≡ of_map p (drop l es)
skip_few p es a l h = skip (of_map p) p.map es a l (λ x rest other. few_by (of_map p rest) (nat_eq p.map x.map) other) h

pub skip_filled : (b : ℕ → Value) (vs : List Value) (n : ℕ) (m : Table) (es : List Entry) (a l : ℕ) → IsNext es n a l → filled b vs n m (drop a es) ≡ filled b vs n m (drop l es)
skip_filled b vs n m es a l h =
    skip (filled b vs n m) n es a l
    (λ x rest other.
    let test : nat_eq x.map n ≡ false = grind (arith, nat_tests, other) in
    ap (λ (t : Bool). filled b vs n (if t then stored m (atom_of (at vs x.index)) (atom_of (b x.number)) else m) rest) test) h

-- ---- the links as they are made, from the last entry on

set_cases : (P : Type 0) (ls : List ℕ) (i v k l : ℕ) → slice_get (slice_set ls i v) k ≡ Some l → (k ≡ i → v ≡ l → P) → (k ≢ i → slice_get ls k ≡ Some l → P) → P
set_cases P [] zero v k l is new old = absurd (let no : None ≡ Some l → ⊥ = λ q. cc in no is)
set_cases P [] (suc i) v k l is new old = absurd (let no : None ≡ Some l → ⊥ = λ q. cc in no is)
set_cases P (x ∷ xs) zero v zero l is new old = let same : v ≡ l = cc in new refl same
set_cases P (x ∷ xs) zero v (suc k) l is new old = old (λ e. absurd (omega (arith, e))) is
set_cases P (x ∷ xs) (suc i) v zero l is new old = old (λ e. absurd (omega (arith, e))) is
set_cases P (x ∷ xs) (suc i) v (suc k) l is new old =
    set_cases P xs i v k l is (λ e q. new (omega (arith, e)) q) (λ other q. old (λ e. other (omega (arith, e))) q)

pub links_last : (es : List Entry) (ls : List ℕ) (n : ℕ) → length ls ≡ length es → n ≡ length es → LinksFrom es ls n
links_last es ls n count end = record {
  count = count;
  next = λ k l e low is link. absurd (let w = slice_get_within es k e is in omega (arith, w, low, end));
}

pub links_set : (es : List Entry) (ls ls' : List ℕ) (i left v : ℕ) (e : Entry) → slice_get es i ≡ Some e → i + 1 ≡ left → LinksFrom es ls left → IsNext es e.map left v → ls' ≡ slice_set ls i v → LinksFrom es ls' i
links_set es ls ls' i left v e is n h new set = subst (λ (xs : List ℕ). LinksFrom es xs i) (sym set) (record {
  count = length-set ls i v ∙ h.count;
  next = λ k l x low there link.
      set_cases (IsNext es x.map (k + 1) l) ls i v k l link
      (λ here same.
      let both : Some e ≡ Some x = sym is ∙ ap (slice_get es) (sym here) ∙ there in
      let one : e ≡ x = cc in
      let from : left ≡ k + 1 = omega (arith, n, here) in
      subst (λ (y : Entry). IsNext es y.map (k + 1) l) one (subst (λ (m : ℕ). IsNext es e.map m l) from (subst (λ (m : ℕ). IsNext es e.map left m) same new)))
      (λ other old. h.next k l x (let o : k ≢ i = other in let q : i ≤ k = low in let after : i < k = grind (arith, o, q) in omega (arith, after, n)) there old);
})

pub next_one : (es : List Entry) (ls : List ℕ) (k m : ℕ) (e : Entry) → LinksFrom es ls 0 → slice_get es k ≡ Some e → e.map ≡ m → IsNext es m (k + 1) (slice_index ls k)
next_one es ls k m e h is map =
    let w = slice_get_within es k e is in
    let n = h.count in
    subst (λ (x : ℕ). IsNext es x (k + 1) (slice_index ls k)) map (h.next k (slice_index ls k) e (omega arith) is (slice_get-get_or ls k 0 (omega (arith, n, w))))

pub next_last : (es : List Entry) (m : ℕ) → IsNext es m (length es) (length es)
next_last es m = record {
  after = omega arith;
  skips = λ k x low high is. absurd (omega (arith, low, high));
  at = λ x is. absurd (let w = slice_get_within es (length es) x is in omega (arith, w));
}

moved_by : (es : List Entry) (m i : ℕ) (e : Entry) (b : Bool) (o : Option ℕ) → slice_get es i ≡ Some e → nat_eq e.map m ≡ b → IsNext es m (i + 1) (unwrap_or o (length es)) → IsNext es m i (unwrap_or (if b then Some i else o) (length es))
moved_by es m i e true o is test h = record {
  after = omega arith;
  skips = λ k x low high there. absurd (omega (arith, low, high));
  at = λ x there. let same : e ≡ x = cc in ap (λ (y : Entry). y.map) (sym same) ∙ number_is e.map m test;
}
moved_by es m i e false o is test h = record {
  after = let w = h.after in omega (arith, w);
  skips = λ k x low high there. skip_first k x (nat_eq k i) refl low high there;
  at = h.at;
}
  where
    skip_first : (k : ℕ) (x : Entry) (t : Bool) → nat_eq k i ≡ t → i ≤ k → k < unwrap_or o (length es) → slice_get es k ≡ Some x → nat_eq m x.map ≡ false
    skip_first k x true t low high there =
        let here : k ≡ i = number_is k i t in
        let both : Some e ≡ Some x = sym is ∙ ap (slice_get es) (sym here) ∙ there in
        let same : e ≡ x = cc in
        let other : nat_eq m e.map ≡ false = grind (arith, nat_tests, test) in
        ap (λ (y : Entry). nat_eq m y.map) (sym same) ∙ other
    skip_first k x false t low high there = h.skips k x (grind (arith, nat_tests, t, low)) high there

-- the next entries, with one entry more before them
pub next_moved : (es : List Entry) (i left : ℕ) (e : Entry) (find find' : ℕ → Option ℕ) → slice_get es i ≡ Some e → i + 1 ≡ left → ((m : ℕ) → IsNext es m left (unwrap_or (find m) (length es)))
    → ((m : ℕ) → find' m ≡ (if nat_eq e.map m then Some i else find m)) → (m : ℕ) → IsNext es m i (unwrap_or (find' m) (length es))
next_moved es i left e find find' is n h set m =
    subst (λ (o : Option ℕ). IsNext es m i (unwrap_or o (length es))) (sym (set m))
    (moved_by es m i e (nat_eq e.map m) (find m) is refl (subst (λ (k : ℕ). IsNext es m k (unwrap_or (find m) (length es))) (sym n) (h m)))
