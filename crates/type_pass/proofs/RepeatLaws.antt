-- One name further.
use Rattle.std.proofs.Common.{◌≡◌, ℕ, ◌+◌, ◌<◌, Bool, true, false, not, List, [], ◌∷◌, ◌++◌, length, map, take, drop, Option, Some, refl, sym, ◌∙◌, ap, arith, get_or, suc, Bor}
use Rattle.std.proofs.Math.Seq.{drop-cons}
use Rattle.std.proofs.lemmas.List.{take_more, map-append}
use Rattle.std.proofs.lemmas.List.Folds.{list_any-append}
use Rattle.std.proofs.lemmas.Slice.Eq.{bytes_eq-Decides}
use Rattle.std.specs.List.{list_any}
use Rattle.std.specs.Prelude.{if◌then◌else◌, ◌||◌}
use Rattle.std.specs.Str.{bytes_eq}
use Rattle.bpl_ast.specs.declared.name.Name.{Name}
use Rattle.type_pass.specs.declared.fault.TypeFault.{TypeFault}
use Rattle.type_pass.specs.declared.fault.TypeKind.TheVariants.{Twice}
use Rattle.type_pass.specs.Faults.{fault, told, earlier, first}
use Rattle.type_pass.specs.Names.{is_among, repeats_after}
use Rattle.type_pass.proofs.FaultLaws.{first-append, earlier-assoc, earlier-none}

or-false : (b : Bool) → (b || false) ≡ b
or-false true = refl
or-false false = refl

or-true : (b : Bool) → (b || true) ≡ true
or-true true = refl
or-true false = refl

any-more : {X : Type 0} (p : X → Bool) (xs : List X) (x : X) → list_any p (xs ++ x ∷ []) ≡ (list_any p xs || p x)
any-more p xs x = list_any-append p xs (x ∷ []) ∙ ap (λ b. list_any p xs || b) (or-false (p x))

-- a list of names behind references
abbrev pub texts : List (Bor Name) → List Name
texts names = map (λ n. n.now) names

-- a name that is there already adds nothing
known-already : (before : List Name) (n : Name) (text : List ℕ) (same : Bool) → bytes_eq text n.text ≡ same → is_among before n.text ≡ true
    → is_among before text ≡ (is_among before text || bytes_eq text n.text)
known-already before n text false e h = sym (ap (λ b. is_among before text || b) e ∙ or-false (is_among before text))
known-already before n text true e h =
    let here : is_among before text ≡ true = ap (is_among before) ((bytes_eq-Decides text n.text).0 e) ∙ h in
    here ∙ sym (ap (λ b. is_among before text || b) e ∙ or-true (is_among before text))

-- the keys after a name is put in
has-further : (ks : List (Bor (List ℕ))) (k : Bor (List ℕ)) (before : List Name) (n : Name) (there : Bool)
    → k.now ≡ n.text → ((text : List ℕ) → list_any (λ j. bytes_eq text j.now) ks ≡ is_among before text)
    → list_any (λ j. bytes_eq k.now j.now) ks ≡ there
    → (text : List ℕ) → list_any (λ j. bytes_eq text j.now) (if there then ks else ks ++ k ∷ []) ≡ is_among (before ++ n ∷ []) text
has-further ks k before n true same has already text =
    has text ∙ known-already before n text (bytes_eq text n.text) refl (sym (has n.text) ∙ ap (λ v. list_any (λ j. bytes_eq v j.now) ks) (sym same) ∙ already)
    ∙ sym (any-more (λ m. bytes_eq text m.text) before n)
has-further ks k before n false same has already text =
    any-more (λ j. bytes_eq text j.now) ks k ∙ ap (λ b. b || bytes_eq text k.now) (has text) ∙ ap (λ v. is_among before text || bytes_eq text v) same
    ∙ sym (any-more (λ m. bytes_eq text m.text) before n)

-- the fault of one name
abbrev pub fault_if : Bool → Name → Option TypeFault
fault_if seen n = first (told seen n.at Twice)

found-further : (before rest : List Name) (n : Name) (found all : Option TypeFault)
    → earlier found (first (repeats_after before (n ∷ rest))) ≡ all
    → earlier (earlier found (fault_if (is_among before n.text) n)) (first (repeats_after (before ++ n ∷ []) rest)) ≡ all
found-further before rest n found all h =
    earlier-assoc found (fault_if (is_among before n.text) n) (first (repeats_after (before ++ n ∷ []) rest))
    ∙ ap (earlier found) (sym (first-append (told (is_among before n.text) n.at Twice) (repeats_after (before ++ n ∷ []) rest))) ∙ h

-- the names so far, and one more
pub before-more : (names : List (Bor Name)) (i : ℕ) (n : Bor Name) → i < length names → n ≡ get_or names i n → texts (take (i + 1) names) ≡ texts (take i names) ++ n.now ∷ []
before-more names i n within is = ap texts (take_more names i n within) ∙ map-append (λ m. m.now) (take i names) (get_or names i n ∷ []) ∙ ap (λ m. texts (take i names) ++ m.now ∷ []) (sym is)

pub rest-less : (names : List (Bor Name)) (i : ℕ) (n : Bor Name) → i < length names → n ≡ get_or names i n → texts (drop i names) ≡ n.now ∷ texts (drop (i + 1) names)
rest-less names i n within is =
    let next : suc i ≡ i + 1 = omega arith in
    ap texts (drop-cons names i n within) ∙ ap (λ m. m.now ∷ texts (drop (suc i) names)) (sym is) ∙ ap (λ j. n.now ∷ texts (drop j names)) next

-- the set has the names so far, and what was found comes before what the rest has
pub record Steps (keys : List (Bor (List ℕ))) (before rest : List Name) (found all : Option TypeFault) : Type 0 where
  pub has : (text : List ℕ) → list_any (λ k. bytes_eq text k.now) keys ≡ is_among before text
  pub finds : earlier found (first (repeats_after before rest)) ≡ all

-- what was found so far with the fault of the name, where it was new
pub after-new : (found : Option TypeFault) (n : Name) (there : Bool) → there ≡ false → found ≡ earlier found (fault_if there n)
after-new found n there h = sym (ap (λ b. earlier found (fault_if b n)) h ∙ earlier-none found)

pub after-old : (found : Option TypeFault) (n : Name) (there : Bool) → there ≡ true → earlier found (Some (fault n.at Twice)) ≡ earlier found (fault_if there n)
after-old found n there h = sym (ap (λ b. earlier found (fault_if b n)) h)

-- one turn: the name is put in, and its fault where it was there
pub turn : (names : List (Bor Name)) (i : ℕ) (n : Bor Name) (ks : List (Bor (List ℕ))) (k : Bor (List ℕ)) (found next all : Option TypeFault)
    → i < length names → n ≡ get_or names i n → k.now ≡ n.now.text
    → ((text : List ℕ) → list_any (λ j. bytes_eq text j.now) ks ≡ is_among (texts (take i names)) text)
    → earlier found (first (repeats_after (texts (take i names)) (texts (drop i names)))) ≡ all
    → next ≡ earlier found (fault_if (list_any (λ j. bytes_eq k.now j.now) ks) n.now)
    → Steps (if list_any (λ j. bytes_eq k.now j.now) ks then ks else ks ++ k ∷ []) (texts (take (i + 1) names)) (texts (drop (i + 1) names)) next all
turn names i n ks k found next all within is same has finds next_is =
    let before = texts (take i names) in
    let there : list_any (λ j. bytes_eq k.now j.now) ks ≡ is_among before n.now.text = has k.now ∙ ap (is_among before) same in
    record {
      has = λ text. has-further ks k before n.now (list_any (λ j. bytes_eq k.now j.now) ks) same has refl text ∙ ap (λ ns. is_among ns text) (sym (before-more names i n within is));
      finds = ap (λ f. earlier f (first (repeats_after (texts (take (i + 1) names)) (texts (drop (i + 1) names))))) (next_is ∙ ap (λ b. earlier found (fault_if b n.now)) there)
          ∙ ap (λ ns. earlier (earlier found (fault_if (is_among before n.now.text) n.now)) (first (repeats_after ns (texts (drop (i + 1) names))))) (before-more names i n within is)
          ∙ found-further before (texts (drop (i + 1) names)) n.now found all (ap (λ ns. earlier found (first (repeats_after before ns))) (sym (rest-less names i n within is)) ∙ finds);
    }

pub not-true : (b : Bool) → not b ≡ true → b ≡ false
not-true true h = absurd (cc)
not-true false h = refl

pub not-false : (b : Bool) → not b ≡ false → b ≡ true
not-false true h = refl
not-false false h = absurd (cc)
