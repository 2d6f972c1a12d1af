-- What reads as a command is of its form.
use Rattle.std.proofs.Common.{◌≡◌, ℕ, ◌+◌, ◌⊎◌, inl, inr, Bool, true, false, List, [], ◌∷◌, Result, Ok, Err, refl, ap, ◌∙◌, arith, codes, if◌then◌else◌}
use Rattle.std.proofs.lemmas.Bool.Decides.{nat_tests}
use Rattle.std.proofs.lemmas.Slice.Eq.{bytes_eq-Decides}
use Rattle.std.specs.Str.{bytes_eq}
use Rattle.std.specs.Str.Parse.{digits_value}
use Rattle.hy_text.specs.Number.{are_digits}
use Rattle.hydra_words.specs.declared.command.WordFault.{WordFault}
use Rattle.hydra_words.specs.declared.command.WordKind.TheVariants.{NotNumber, OutOfRange, Unexpected}
use Rattle.hydra_words.specs.declared.options.Options.{Options}
use Rattle.hydra_words.specs.declared.options.Grain.{Grain}
use Rattle.hydra_words.specs.declared.options.Grain.TheVariants.{NotGiven, Due, Given}
use Rattle.hydra_words.specs.Words.{◌>>=◌, refused, number_in, in_range, ranged, once, is_given, with_name, with_word, with_grain, with_words, no_options, grain_of}
use Rattle.hydra_words.specs.Forms.{Writes, AreOptions}
use Rattle.hydra_words.specs.Forms.AreOptions.{neither, journal_alone, grain_alone, grain_first, journal_first}

pub bind_ok : {A B : Type 0} (read : Result A WordFault) (next : A → Result B WordFault) (y : B) → (read >>= next) ≡ Ok y → (x : A) × (read ≡ Ok x) × (next x ≡ Ok y)
bind_ok (Ok x) next y h = (x, refl, h)
bind_ok (Err fault) next y h = let never : ⊥ = cc in absurd never

ranged_written : (low high index n v : ℕ) (word : List ℕ) (fits : Bool) → are_digits word ≡ true → digits_value 10 word ≡ v → in_range low high v ≡ fits → (if fits then Ok v else refused index OutOfRange) ≡ Ok n → Writes low high n word
ranged_written low high index n v word true digits value fits h =
    let same : v ≡ n = cc in
    record { digits = digits; value = value ∙ same; least = rw (← same) (grind (arith, nat_tests)); most = rw (← same) (grind (arith, nat_tests)) }
ranged_written low high index n v word false digits value fits h = let never : ⊥ = cc in absurd never

written : (low high index n : ℕ) (word : List ℕ) (some : Bool) → are_digits word ≡ some → (if some then ranged low high index (digits_value 10 word) else refused index NotNumber) ≡ Ok n → Writes low high n word
written low high index n word true digits h = ranged_written low high index n (digits_value 10 word) word (in_range low high (digits_value 10 word)) digits refl refl h
written low high index n word false digits h = let never : ⊥ = cc in absurd never

-- a number that reads is written
pub number_in-only : (low high index n : ℕ) (word : List ℕ) → number_in low high index word ≡ Ok n → Writes low high n word
unfolding number_in
number_in-only low high index n word h = written low high index n word (are_digits word) refl h

data Named (options : Options) (word : List ℕ) (next : Options) : Type 0 where
  names_grain : word ≡ codes "--grain" → is_given options.grain ≡ false → next ≡ record { grain = Due; journal = options.journal } → Named options word next
  names_journal : word ≡ codes "--journal" → options.journal ≡ false → next ≡ record { grain = options.grain; journal = true } → Named options word next

once-only : (again : Bool) (index : ℕ) (options next : Options) → once index again options ≡ Ok next → (again ≡ false) × (next ≡ options)
once-only true index options next h = let never : ⊥ = cc in absurd never
once-only false index options next h = (refl, cc)

named : (index : ℕ) (options next : Options) (word : List ℕ) (g j : Bool) → bytes_eq word (codes "--grain") ≡ g → bytes_eq word (codes "--journal") ≡ j → (if g then once index (is_given options.grain) (record options { grain = Due }) else (if j then once index options.journal (record options { journal = true }) else refused index Unexpected)) ≡ Ok next → Named options word next
named index options next word true j is_grain is_journal h =
    let e = once-only (is_given options.grain) index (record options { grain = Due }) next h in
    names_grain ((bytes_eq-Decides word (codes "--grain")).0 is_grain) e.0 e.1
named index options next word false true is_grain is_journal h =
    let e = once-only options.journal index (record options { journal = true }) next h in
    names_journal ((bytes_eq-Decides word (codes "--journal")).0 is_journal) e.0 e.1
named index options next word false false is_grain is_journal h = let never : ⊥ = cc in absurd never

with_name-only : (index : ℕ) (options next : Options) (word : List ℕ) → with_name index options word ≡ Ok next → Named options word next
with_name-only index options next word h = named index options next word (bytes_eq word (codes "--grain")) (bytes_eq word (codes "--journal")) refl refl h

abbrev says : Grain → Bool → Options
says grain journal = record { grain = grain; journal = journal }

module _ (next : Options) (word : List ℕ) where
  none_named : (n : ℕ) → Named (says (Given n) true) word next → ⊥
  none_named n (names_grain spelt free is_next) = cc
  none_named n (names_journal spelt free is_next) = cc

  journal_named : (n : ℕ) → Named (says (Given n) false) word next → (word ≡ codes "--journal") × (next ≡ says (Given n) true)
  journal_named n (names_grain spelt free is_next) = let never : ⊥ = cc in absurd never
  journal_named n (names_journal spelt free is_next) = (spelt, is_next)

  grain_named : Named (says NotGiven true) word next → (word ≡ codes "--grain") × (next ≡ says Due true)
  grain_named (names_grain spelt free is_next) = (spelt, is_next)
  grain_named (names_journal spelt free is_next) = let never : ⊥ = cc in absurd never

-- both options are given
both : (first n : ℕ) (words : List (List ℕ)) (options : Options) → with_words first (says (Given n) true) words ≡ Ok options → (words ≡ []) × (options ≡ says (Given n) true)
unfolding with_words with_word
both first n [] options h = (refl, cc)
both first n (word ∷ rest) options h =
    let b = bind_ok (with_name first (says (Given n) true) word) (λ next. with_words (first + 1) next rest) options h in
    absurd (none_named b.0 word n (with_name-only first (says (Given n) true) b.0 word b.1))

-- the number of `--grain` is due
pub due : (first : ℕ) (journal : Bool) (word : List ℕ) (next : Options) → with_grain first (says Due journal) word ≡ Ok next → (n : ℕ) × Writes 1 1000000 n word × (next ≡ says (Given n) journal)
due first journal word next h =
    let b = bind_ok (number_in 1 1000000 first word) (λ n. Ok (says (Given n) journal)) next h in
    (b.0, number_in-only 1 1000000 first b.0 word b.1, cc (b.2))

due_last : (first : ℕ) (words : List (List ℕ)) (options : Options) → with_words first (says Due true) words ≡ Ok options → (n : ℕ) × (g : List ℕ) × Writes 1 1000000 n g × (words ≡ g ∷ []) × (options ≡ says (Given n) true)
unfolding with_words with_word
due_last first [] options h = let never : ⊥ = cc in absurd never
due_last first (word ∷ rest) options h =
    let b = bind_ok (with_grain first (says Due true) word) (λ next. with_words (first + 1) next rest) options h in
    let d = due first true word b.0 b.1 in
    let left : with_words (first + 1) (says (Given d.0) true) rest ≡ Ok options = rw d.2 at b.2 in
    let e = both (first + 1) d.0 rest options left in
    (d.0, word, d.1, ap (λ ws. word ∷ ws) e.0, e.1)

-- `--grain` is given
grain_given : (first n : ℕ) (words : List (List ℕ)) (options : Options) → with_words first (says (Given n) false) words ≡ Ok options → ((words ≡ []) × (options ≡ says (Given n) false)) ⊎ ((words ≡ codes "--journal" ∷ []) × (options ≡ says (Given n) true))
unfolding with_words with_word
grain_given first n [] options h = inl (refl, cc)
grain_given first n (word ∷ rest) options h =
    let b = bind_ok (with_name first (says (Given n) false) word) (λ next. with_words (first + 1) next rest) options h in
    let named = journal_named b.0 word n (with_name-only first (says (Given n) false) b.0 word b.1) in
    let left : with_words (first + 1) (says (Given n) true) rest ≡ Ok options = rw named.1 at b.2 in
    let e = both (first + 1) n rest options left in
    inr (cc (named.0, e.0), e.1)

-- `--journal` is given
journal_given : (first : ℕ) (words : List (List ℕ)) (options : Options) → with_words first (says NotGiven true) words ≡ Ok options → ((words ≡ []) × (options ≡ says NotGiven true)) ⊎ ((n : ℕ) × (g : List ℕ) × Writes 1 1000000 n g × (words ≡ codes "--grain" ∷ g ∷ []) × (options ≡ says (Given n) true))
unfolding with_words with_word
journal_given first [] options h = inl (refl, cc)
journal_given first (word ∷ rest) options h =
    let b = bind_ok (with_name first (says NotGiven true) word) (λ next. with_words (first + 1) next rest) options h in
    let named = grain_named b.0 word (with_name-only first (says NotGiven true) b.0 word b.1) in
    let left : with_words (first + 1) (says Due true) rest ≡ Ok options = rw named.1 at b.2 in
    let e = due_last (first + 1) rest options left in
    inr (e.0, e.1, e.2, cc (named.0, e.3), e.4)

abbrev Said : Options → List (List ℕ) → Type 0
Said options words = AreOptions (grain_of options.grain) options.journal words

after_number : (n : ℕ) (g : List ℕ) (rest : List (List ℕ)) (options : Options) → Writes 1 1000000 n g → ((rest ≡ []) × (options ≡ says (Given n) false)) ⊎ ((rest ≡ codes "--journal" ∷ []) × (options ≡ says (Given n) true)) → Said options (codes "--grain" ∷ g ∷ rest)
after_number n g rest options w (inl e) = rw (e.0, e.1) (grain_alone n g w)
after_number n g rest options w (inr e) = rw (e.0, e.1) (grain_first n g w)

after_grain : (first : ℕ) (words : List (List ℕ)) (options : Options) → with_words first (says Due false) words ≡ Ok options → Said options (codes "--grain" ∷ words)
unfolding with_words with_word
after_grain first [] options h = let never : ⊥ = cc in absurd never
after_grain first (word ∷ rest) options h =
    let b = bind_ok (with_grain first (says Due false) word) (λ next. with_words (first + 1) next rest) options h in
    let d = due first false word b.0 b.1 in
    let left : with_words (first + 1) (says (Given d.0) false) rest ≡ Ok options = rw d.2 at b.2 in
    after_number d.0 word rest options d.1 (grain_given (first + 1) d.0 rest options left)

after_journal : (words : List (List ℕ)) (options : Options) → ((words ≡ []) × (options ≡ says NotGiven true)) ⊎ ((n : ℕ) × (g : List ℕ) × Writes 1 1000000 n g × (words ≡ codes "--grain" ∷ g ∷ []) × (options ≡ says (Given n) true)) → Said options (codes "--journal" ∷ words)
after_journal words options (inl e) = rw (e.0, e.1) journal_alone
after_journal words options (inr e) = rw (e.3, e.4) (journal_first e.0 e.1 e.2)

first_named : (first : ℕ) (word : List ℕ) (rest : List (List ℕ)) (next options : Options) → Named no_options word next → with_words (first + 1) next rest ≡ Ok options → Said options (word ∷ rest)
first_named first word rest next options (names_grain spelt free is_next) h =
    rw spelt (after_grain (first + 1) rest options (rw is_next at h))
first_named first word rest next options (names_journal spelt free is_next) h =
    rw spelt (after_journal rest options (journal_given (first + 1) rest options (rw is_next at h)))

-- what reads as options is options
pub with_words-only : (first : ℕ) (words : List (List ℕ)) (options : Options) → with_words first no_options words ≡ Ok options → Said options words
unfolding with_words with_word
with_words-only first [] options h = let same : options ≡ no_options = cc in rw same neither
with_words-only first (word ∷ rest) options h =
    let b = bind_ok (with_name first no_options word) (λ next. with_words (first + 1) next rest) options h in
    first_named first word rest b.0 options (with_name-only first no_options b.0 word b.1) b.2
