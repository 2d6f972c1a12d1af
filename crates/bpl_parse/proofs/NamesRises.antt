-- The rules of names and attributes with one level more: what was read is read, a token that was too deep is passed, and what has begun ends as a phrase.
use Rattle.bpl_parse.proofs.EachTerminal.{tok, apart}
use Rattle.bpl_parse.proofs.NamesLaws.{name_lawful, lexeme_lawful, attribute_lawful}
use Rattle.bpl_parse.specs.Names.{name, names, lexeme_of, lexeme, attribute_of, attribute, attributes}
use Rattle.bpl_parse.specs.Reader.{name_of}
use Rattle.bpl_parse.specs.Tests.{is, is_no_brace}
use Rattle.bpl_parse.specs.declared.place.Place.TheVariants as at
use Rattle.bpl_parse.specs.declared.place.Place.{Place}
use Rattle.bpl_rules.proofs.Choice.{seq_lawful}
use Rattle.bpl_rules.proofs.Forms.{behind_lawful, ended_lawful, behind_rises, ended_rises, separated_rises, has_behind, has_ended, has_separated}
use Rattle.bpl_rules.proofs.Many.{many_lawful}
use Rattle.bpl_rules.proofs.Rises.{Rises, HasExample, one_rises, seq_rises, made_rises, many_rises, sealed_rises, has_one, has_seq, has_made, has_many, has_sealed}
use Rattle.bpl_rules.specs.Rules.{one, seq, made, many, never, behind, ended, separated}
use Rattle.bpl_tok.specs.declared.token.Terminal.TheVariants as k
use Rattle.std.proofs.Common.{ℕ, true, false, List, refl}

pub name_example : (s : List ℕ) (place : Place) → HasExample (name s place)
name_example s place = has_made (name_of s) (one place (is k.Ident)) (has_one place (is k.Ident) (tok k.Ident) refl)

pub name_rises : (s : List ℕ) (place : Place) → Rises (name s place) (name s place)
name_rises s place = made_rises (name_of s) (one place (is k.Ident)) (one place (is k.Ident)) (one_rises place (is k.Ident))

pub names_example : (s : List ℕ) → HasExample (names s)
unfolding names
names_example s = has_sealed (is k.Ident) false (is k.Comma) (separated at.Other (is k.Comma) (name s at.Other)) (has_separated at.Other (is k.Comma) (name s at.Other) (name_example s at.Other))

pub names_rises : (s : List ℕ) → Rises (names s) (names s)
unfolding names
names_rises s = sealed_rises (is k.Ident) false (is k.Comma) (separated at.Other (is k.Comma) (name s at.Other)) (separated at.Other (is k.Comma) (name s at.Other)) (separated_rises at.Other (is k.Comma) (name s at.Other) (name s at.Other) (name_rises s at.Other) (name_lawful s at.Other) (name_example s at.Other) (apart (λ t. refl) (λ t. refl) refl))

pub lexeme_example : (s : List ℕ) → HasExample (lexeme s)
lexeme_example s = has_made (lexeme_of s) (one at.Other is_no_brace) (has_one at.Other is_no_brace (tok k.Ident) refl)

pub lexeme_rises : (s : List ℕ) → Rises (lexeme s) (lexeme s)
lexeme_rises s = made_rises (lexeme_of s) (one at.Other is_no_brace) (one at.Other is_no_brace) (one_rises at.Other is_no_brace)

pub attribute_example : (s : List ℕ) → HasExample (attribute s)
unfolding attribute
attribute_example s = has_sealed (is k.LeftBrace) false never (made attribute_of (seq (one at.Other (is k.LeftBrace)) (behind at.Other (is k.Colon) (seq (name s at.Other) (ended (many (lexeme s)) at.Other (is k.RightBrace)))))) (has_made attribute_of (seq (one at.Other (is k.LeftBrace)) (behind at.Other (is k.Colon) (seq (name s at.Other) (ended (many (lexeme s)) at.Other (is k.RightBrace))))) (has_seq (one at.Other (is k.LeftBrace)) (behind at.Other (is k.Colon) (seq (name s at.Other) (ended (many (lexeme s)) at.Other (is k.RightBrace)))) (has_one at.Other (is k.LeftBrace) (tok k.LeftBrace) refl) (has_behind at.Other (is k.Colon) (tok k.Colon) refl (seq (name s at.Other) (ended (many (lexeme s)) at.Other (is k.RightBrace))) (has_seq (name s at.Other) (ended (many (lexeme s)) at.Other (is k.RightBrace)) (name_example s at.Other) (has_ended (many (lexeme s)) at.Other (is k.RightBrace) (tok k.RightBrace) refl (has_many (lexeme s)))))))

pub attribute_rises : (s : List ℕ) → Rises (attribute s) (attribute s)
unfolding attribute
attribute_rises s = sealed_rises (is k.LeftBrace) false never (made attribute_of (seq (one at.Other (is k.LeftBrace)) (behind at.Other (is k.Colon) (seq (name s at.Other) (ended (many (lexeme s)) at.Other (is k.RightBrace)))))) (made attribute_of (seq (one at.Other (is k.LeftBrace)) (behind at.Other (is k.Colon) (seq (name s at.Other) (ended (many (lexeme s)) at.Other (is k.RightBrace)))))) (made_rises attribute_of (seq (one at.Other (is k.LeftBrace)) (behind at.Other (is k.Colon) (seq (name s at.Other) (ended (many (lexeme s)) at.Other (is k.RightBrace))))) (seq (one at.Other (is k.LeftBrace)) (behind at.Other (is k.Colon) (seq (name s at.Other) (ended (many (lexeme s)) at.Other (is k.RightBrace))))) (seq_rises (one at.Other (is k.LeftBrace)) (one at.Other (is k.LeftBrace)) (behind at.Other (is k.Colon) (seq (name s at.Other) (ended (many (lexeme s)) at.Other (is k.RightBrace)))) (behind at.Other (is k.Colon) (seq (name s at.Other) (ended (many (lexeme s)) at.Other (is k.RightBrace)))) (one_rises at.Other (is k.LeftBrace)) (behind_rises at.Other (is k.Colon) (seq (name s at.Other) (ended (many (lexeme s)) at.Other (is k.RightBrace))) (seq (name s at.Other) (ended (many (lexeme s)) at.Other (is k.RightBrace))) (seq_rises (name s at.Other) (name s at.Other) (ended (many (lexeme s)) at.Other (is k.RightBrace)) (ended (many (lexeme s)) at.Other (is k.RightBrace)) (name_rises s at.Other) (ended_rises (many (lexeme s)) (many (lexeme s)) at.Other (is k.RightBrace) (many_rises (lexeme s) (lexeme s) (lexeme_rises s) (lexeme_lawful s) (λ t. refl)) (tok k.RightBrace) refl) (ended_lawful (many (lexeme s)) at.Other (is k.RightBrace) (many_lawful (lexeme s) (lexeme_lawful s) refl (apart (λ t. refl) (λ t. refl) refl)) (apart (λ t. refl) (λ t. refl) refl)) (has_ended (many (lexeme s)) at.Other (is k.RightBrace) (tok k.RightBrace) refl (has_many (lexeme s)))) (seq_lawful (name s at.Other) (ended (many (lexeme s)) at.Other (is k.RightBrace)) (name_lawful s at.Other) (ended_lawful (many (lexeme s)) at.Other (is k.RightBrace) (many_lawful (lexeme s) (lexeme_lawful s) refl (apart (λ t. refl) (λ t. refl) refl)) (apart (λ t. refl) (λ t. refl) refl)) (apart (λ t. refl) (λ t. refl) refl)) (has_seq (name s at.Other) (ended (many (lexeme s)) at.Other (is k.RightBrace)) (name_example s at.Other) (has_ended (many (lexeme s)) at.Other (is k.RightBrace) (tok k.RightBrace) refl (has_many (lexeme s))))) (behind_lawful at.Other (is k.Colon) (seq (name s at.Other) (ended (many (lexeme s)) at.Other (is k.RightBrace))) (seq_lawful (name s at.Other) (ended (many (lexeme s)) at.Other (is k.RightBrace)) (name_lawful s at.Other) (ended_lawful (many (lexeme s)) at.Other (is k.RightBrace) (many_lawful (lexeme s) (lexeme_lawful s) refl (apart (λ t. refl) (λ t. refl) refl)) (apart (λ t. refl) (λ t. refl) refl)) (apart (λ t. refl) (λ t. refl) refl))) (has_behind at.Other (is k.Colon) (tok k.Colon) refl (seq (name s at.Other) (ended (many (lexeme s)) at.Other (is k.RightBrace))) (has_seq (name s at.Other) (ended (many (lexeme s)) at.Other (is k.RightBrace)) (name_example s at.Other) (has_ended (many (lexeme s)) at.Other (is k.RightBrace) (tok k.RightBrace) refl (has_many (lexeme s)))))))

pub attributes_example : (s : List ℕ) → HasExample (attributes s)
unfolding attributes
attributes_example s = has_sealed (is k.LeftBrace) true (is k.LeftBrace) (many (attribute s)) (has_many (attribute s))

pub attributes_rises : (s : List ℕ) → Rises (attributes s) (attributes s)
unfolding attributes attribute
attributes_rises s = sealed_rises (is k.LeftBrace) true (is k.LeftBrace) (many (attribute s)) (many (attribute s)) (many_rises (attribute s) (attribute s) (attribute_rises s) (attribute_lawful s) (λ t. refl))
