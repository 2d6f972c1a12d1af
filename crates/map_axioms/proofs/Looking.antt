-- What a look past the end of a list gives, and the first entry asked for.
use Rattle.std.proofs.Common.{◌≡◌, ℕ, zero, suc, Bool, true, false, ◌&&◌, List, [], ◌∷◌, ◌++◌, arith, refl, sym, ap, ◌∙◌}
use Rattle.std.specs.Prelude.{Option, None, Some, if◌then◌else◌, slice_get, slice_index_or, nat_eq}
use Rattle.std.proofs.lemmas.Bool.Decides.{nat_tests}
use Rattle.map_axioms.specs.declared.entry.Entry.{Entry}
use Rattle.map_axioms.specs.Steps.{asked, found}

pub none_is : {A : Type 0} (xs : List A) (k : ℕ) (d : A) → slice_get xs k ≡ None → slice_index_or xs k d ≡ d
none_is [] k d h = refl
none_is (x ∷ xs) zero d h = cc
none_is (x ∷ xs) (suc k) d h = none_is xs k d h

pub some_there : {A : Type 0} (xs : List A) (k : ℕ) (x d : A) → slice_get xs k ≡ Some x → slice_index_or xs k d ≡ x
some_there [] k x d h = cc
some_there (y ∷ xs) zero x d h = cc
some_there (y ∷ xs) (suc k) x d h = some_there xs k x d h

none_here : (b : Bool) (x : ℕ) (o : Option ℕ) → (if b then Some x else o) ≡ None → b ≡ false
none_here true x o h = cc
none_here false x o h = refl

none_rest : (b : Bool) (x : ℕ) (o : Option ℕ) → (if b then Some x else o) ≡ None → o ≡ None
none_rest true x o h = cc
none_rest false x o h = h

apart_keys : (a b c d m i : ℕ) → (nat_eq a m && nat_eq b i) ≡ true → (nat_eq a c && nat_eq b d) ≡ false → (nat_eq c m && nat_eq d i) ≡ false
apart_keys a b c d m i h k = grind (arith, nat_tests, h, k)

last_by : (p b : Bool) (x y : ℕ) (o r : Option ℕ) → r ≡ (if b then Some y else o) → (p ≡ true → b ≡ false) → (if p then Some x else r) ≡ (if b then Some y else (if p then Some x else o))
last_by true true x y o r h k = absurd (let e : true ≡ false = k refl in let no : true ≡ false → ⊥ = λ q. cc in no e)
last_by true false x y o r h k = refl
last_by false b x y o r h k = h

-- a new entry behind the others
pub asked_last : (m i : ℕ) (es : List Entry) (e : Entry) → asked e.map e.place es ≡ None → asked m i (es ++ e ∷ []) ≡ (if nat_eq e.map m && nat_eq e.place i then Some e.entry else asked m i es)
asked_last m i [] e h = refl
asked_last m i (x ∷ es) e h =
    last_by (nat_eq x.map m && nat_eq x.place i) (nat_eq e.map m && nat_eq e.place i) x.entry e.entry (asked m i es) (asked m i (es ++ e ∷ []))
    (asked_last m i es e (none_rest (nat_eq x.map e.map && nat_eq x.place e.place) x.entry (asked e.map e.place es) h))
    (λ p. let off = none_here (nat_eq x.map e.map && nat_eq x.place e.place) x.entry (asked e.map e.place es) h in apart_keys x.map x.place e.map e.place m i p off)

-- the index of the entries, with a new entry behind the others
pub kept_index : (es es' : List Entry) (e : Entry) (cells cells' : List ((ℕ × ℕ) × ℕ)) → ((m i : ℕ) → found m i cells ≡ asked m i es) → asked e.map e.place es ≡ None → es' ≡ es ++ e ∷ []
    → ((a b : ℕ) → found a b cells' ≡ (if nat_eq e.map a && nat_eq e.place b then Some e.entry else found a b cells)) → (m i : ℕ) → found m i cells' ≡ asked m i es'
kept_index es es' e cells cells' h none is set m i =
    set m i ∙ ap (λ (o : Option ℕ). if nat_eq e.map m && nat_eq e.place i then Some e.entry else o) (h m i) ∙ sym (asked_last m i es e none) ∙ ap (asked m i) (sym is)
