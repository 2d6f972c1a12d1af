-- The words of a command read as it.
use Rattle.std.proofs.Common.{◌≡◌, ℕ, ◌+◌, ◌≤◌, Bool, true, false, List, Ok, refl, arith}
use Rattle.std.proofs.lemmas.Bool.Decides.{nat_tests}
use Rattle.hydra_words.specs.declared.options.Options.{Options}
use Rattle.hydra_words.specs.declared.options.Grain.TheVariants.{NotGiven, Given}
use Rattle.hydra_words.specs.Words.{number_in, in_range, with_word, with_words, no_options, grain_of}
use Rattle.hydra_words.specs.Forms.{Writes, AreOptions}
use Rattle.hydra_words.specs.Forms.AreOptions.{neither, journal_alone, grain_alone, grain_first, journal_first}

within : (low high n : ℕ) → low ≤ n → n ≤ high → in_range low high n ≡ true
within low high n least most = grind (arith, nat_tests)

-- a number that is written reads as it
pub number_in-written : (low high index n : ℕ) (word : List ℕ) → Writes low high n word → number_in low high index word ≡ Ok n
unfolding number_in
number_in-written low high index n word w = rw (w.digits, w.value, within low high n w.least w.most) refl

-- options read as what they say
pub with_words-options : (grain : ℕ) (journal : Bool) (words : List (List ℕ)) (first : ℕ) → AreOptions grain journal words → (options : Options) × (with_words first no_options words ≡ Ok options) × (grain_of options.grain ≡ grain) × (options.journal ≡ journal)
unfolding with_words with_word
with_words-options grain journal words first neither = (no_options, refl, refl, refl)
with_words-options grain journal words first journal_alone = (record { grain = NotGiven; journal = true }, refl, refl, refl)
with_words-options grain journal words first (grain_alone n g w) = (record { grain = Given n; journal = false }, rw (number_in-written 1 1000000 (first + 1) n g w) refl, refl, refl)
with_words-options grain journal words first (grain_first n g w) = (record { grain = Given n; journal = true }, rw (number_in-written 1 1000000 (first + 1) n g w) refl, refl, refl)
with_words-options grain journal words first (journal_first n g w) = (record { grain = Given n; journal = true }, rw (number_in-written 1 1000000 (first + 1 + 1) n g w) refl, refl, refl)
