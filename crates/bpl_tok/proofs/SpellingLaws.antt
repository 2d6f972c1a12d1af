-- A table of spellings that is made of two.
use Rattle.std.proofs.Common.{◌≡◌, ℕ, true, false, cond, List, [], ◌∷◌, ◌++◌, length, nat_eq, refl, ap, ◌∙◌}
use Rattle.std.specs.Prelude.{Some}
use Rattle.std.specs.Option.{option_or}
use Rattle.std.specs.List.{starts_with}
use Rattle.std.specs.Str.{bytes_eq}
use Rattle.bpl_tok.specs.Spellings.{Spelling, spelt, sign_of, keywords, of_two, of_three, of_four, of_five, of_six, of_seven, of_eight, of_nine, of_fourteen}

pub spelt-append : (a b : List Spelling) (word : List ℕ) → spelt (a ++ b) word ≡ option_or (spelt a word) (spelt b word)
unfolding spelt
spelt-append [] b word = refl
spelt-append (e ∷ more) b word =
    elim (bytes_eq word e.0) as (λ t. cond t (Some e.1) (spelt (more ++ b) word) ≡ option_or (cond t (Some e.1) (spelt more word)) (spelt b word)) [ true ↦ refl | false ↦ spelt-append more b word ]

pub sign_of-append : (a b : List Spelling) (bs : List ℕ) → sign_of (a ++ b) bs ≡ option_or (sign_of a bs) (sign_of b bs)
unfolding sign_of
sign_of-append [] b bs = refl
sign_of-append (e ∷ more) b bs =
    elim (starts_with nat_eq bs e.0) as (λ t. cond t (Some (e.1, length e.0)) (sign_of (more ++ b) bs) ≡ option_or (cond t (Some (e.1, length e.0)) (sign_of more bs)) (sign_of b bs)) [ true ↦ refl | false ↦ sign_of-append more b bs ]

first_2 : (word : List ℕ) → spelt (of_two ++ of_three) word ≡ option_or (spelt of_two word) (spelt of_three word)
first_2 word = spelt-append (of_two) of_three word

first_3 : (word : List ℕ) → spelt (of_two ++ of_three ++ of_four) word ≡ option_or (option_or (spelt of_two word) (spelt of_three word)) (spelt of_four word)
first_3 word = spelt-append (of_two ++ of_three) of_four word ∙ ap (λ o. option_or o (spelt of_four word)) (first_2 word)

first_4 : (word : List ℕ) → spelt (of_two ++ of_three ++ of_four ++ of_five) word ≡ option_or (option_or (option_or (spelt of_two word) (spelt of_three word)) (spelt of_four word)) (spelt of_five word)
first_4 word = spelt-append (of_two ++ of_three ++ of_four) of_five word ∙ ap (λ o. option_or o (spelt of_five word)) (first_3 word)

first_5 : (word : List ℕ) → spelt (of_two ++ of_three ++ of_four ++ of_five ++ of_six) word ≡ option_or (option_or (option_or (option_or (spelt of_two word) (spelt of_three word)) (spelt of_four word)) (spelt of_five word)) (spelt of_six word)
first_5 word = spelt-append (of_two ++ of_three ++ of_four ++ of_five) of_six word ∙ ap (λ o. option_or o (spelt of_six word)) (first_4 word)

first_6 : (word : List ℕ) → spelt (of_two ++ of_three ++ of_four ++ of_five ++ of_six ++ of_seven) word ≡ option_or (option_or (option_or (option_or (option_or (spelt of_two word) (spelt of_three word)) (spelt of_four word)) (spelt of_five word)) (spelt of_six word)) (spelt of_seven word)
first_6 word = spelt-append (of_two ++ of_three ++ of_four ++ of_five ++ of_six) of_seven word ∙ ap (λ o. option_or o (spelt of_seven word)) (first_5 word)

first_7 : (word : List ℕ) → spelt (of_two ++ of_three ++ of_four ++ of_five ++ of_six ++ of_seven ++ of_eight) word ≡ option_or (option_or (option_or (option_or (option_or (option_or (spelt of_two word) (spelt of_three word)) (spelt of_four word)) (spelt of_five word)) (spelt of_six word)) (spelt of_seven word)) (spelt of_eight word)
first_7 word = spelt-append (of_two ++ of_three ++ of_four ++ of_five ++ of_six ++ of_seven) of_eight word ∙ ap (λ o. option_or o (spelt of_eight word)) (first_6 word)

first_8 : (word : List ℕ) → spelt (of_two ++ of_three ++ of_four ++ of_five ++ of_six ++ of_seven ++ of_eight ++ of_nine) word ≡ option_or (option_or (option_or (option_or (option_or (option_or (option_or (spelt of_two word) (spelt of_three word)) (spelt of_four word)) (spelt of_five word)) (spelt of_six word)) (spelt of_seven word)) (spelt of_eight word)) (spelt of_nine word)
first_8 word = spelt-append (of_two ++ of_three ++ of_four ++ of_five ++ of_six ++ of_seven ++ of_eight) of_nine word ∙ ap (λ o. option_or o (spelt of_nine word)) (first_7 word)

pub keywords_by_length : (word : List ℕ) → spelt (keywords) word ≡ option_or (option_or (option_or (option_or (option_or (option_or (option_or (option_or (spelt of_two word) (spelt of_three word)) (spelt of_four word)) (spelt of_five word)) (spelt of_six word)) (spelt of_seven word)) (spelt of_eight word)) (spelt of_nine word)) (spelt of_fourteen word)
keywords_by_length word = spelt-append (of_two ++ of_three ++ of_four ++ of_five ++ of_six ++ of_seven ++ of_eight ++ of_nine) of_fourteen word ∙ ap (λ o. option_or o (spelt of_fourteen word)) (first_8 word)
