-- What the options say, a word further.
use Rattle.std.proofs.Common.{◌≡◌, ℕ, ◌+◌, ◌<◌, ◌≤◌, List, length, drop, get_or, Ok, Err, refl, ap, ◌∙◌}
use Rattle.std.proofs.lemmas.List.{drop_more, drop_all}
use Rattle.hydra_words.specs.declared.command.WordFault.{WordFault}
use Rattle.hydra_words.specs.declared.options.Options.{Options}
use Rattle.hydra_words.specs.Words.{◌>>=◌, with_word, with_words, whole}

more : (words : List (List ℕ)) (i at : ℕ) (options : Options) (word : List ℕ) → i < length words → with_words at options (drop i words) ≡ (with_word at options (get_or words i word) >>= λ next. with_words (at + 1) next (drop (i + 1) words))
unfolding with_words
more words i at options word lt = rw (drop_more words i word lt) refl

-- a word that fits
pub with_words-ok : (words : List (List ℕ)) (i at : ℕ) (options next : Options) (word : List ℕ) → i < length words → word ≡ get_or words i word → with_word at options word ≡ Ok next → with_words at options (drop i words) ≡ with_words (at + 1) next (drop (i + 1) words)
with_words-ok words i at options next word lt here fits =
    let there : with_word at options (get_or words i word) ≡ Ok next = ap (with_word at options) (cc here) ∙ fits in
    more words i at options word lt ∙ rw there refl

-- a word that is at fault
pub with_words-err : (words : List (List ℕ)) (i at : ℕ) (options : Options) (word : List ℕ) (fault : WordFault) → i < length words → word ≡ get_or words i word → with_word at options word ≡ Err fault → with_words at options (drop i words) ≡ Err fault
with_words-err words i at options word fault lt here fails =
    let there : with_word at options (get_or words i word) ≡ Err fault = ap (with_word at options) (cc here) ∙ fails in
    more words i at options word lt ∙ rw there refl

-- no word is left
pub with_words-end : (words : List (List ℕ)) (i at : ℕ) (options : Options) → length words ≤ i → with_words at options (drop i words) ≡ whole at options
unfolding with_words
with_words-end words i at options le = rw (drop_all i words le) refl

pub ruleset steps = (with_words-ok, with_words-err, with_words-end, drop_all)
