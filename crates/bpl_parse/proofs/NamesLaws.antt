-- The rules of names and attributes are lawful.
use Rattle.bpl_parse.proofs.EachTerminal.{apart, within}
use Rattle.bpl_parse.specs.Names.{name, names, lexeme_of, lexeme, attribute_of, attribute, attributes}
use Rattle.bpl_parse.specs.Reader.{name_of}
use Rattle.bpl_parse.specs.Tests.{is, is_no_brace}
use Rattle.bpl_parse.specs.declared.place.Place.TheVariants as at
use Rattle.bpl_parse.specs.declared.place.Place.{Place}
use Rattle.bpl_rules.proofs.Choice.{seq_lawful, made_lawful, sealed_lawful}
use Rattle.bpl_rules.proofs.Forms.{behind_lawful, ended_lawful, separated_lawful}
use Rattle.bpl_rules.proofs.Laws.{Lawful}
use Rattle.bpl_rules.proofs.Many.{many_lawful}
use Rattle.bpl_rules.proofs.Single.{one_lawful}
use Rattle.bpl_rules.specs.Rules.{one, seq, made, many, never, behind, ended, separated}
use Rattle.bpl_tok.specs.declared.token.Terminal.TheVariants as k
use Rattle.std.proofs.Common.{ℕ, true, false, List, refl}

pub name_lawful : (s : List ℕ) (place : Place) → Lawful (name s place)
name_lawful s place = made_lawful (name_of s) (one place (is k.Ident)) (one_lawful place (is k.Ident))

pub names_lawful : (s : List ℕ) → Lawful (names s)
unfolding names
names_lawful s = sealed_lawful (is k.Ident) false (is k.Comma) (separated at.Other (is k.Comma) (name s at.Other)) (separated_lawful at.Other (is k.Comma) (name s at.Other) (name_lawful s at.Other) refl (apart (λ t. refl) (λ t. refl) refl)) refl (within (λ t. refl) (λ t. refl) refl) (within (λ t. refl) (λ t. refl) refl)

pub lexeme_lawful : (s : List ℕ) → Lawful (lexeme s)
lexeme_lawful s = made_lawful (lexeme_of s) (one at.Other is_no_brace) (one_lawful at.Other is_no_brace)

pub attribute_lawful : (s : List ℕ) → Lawful (attribute s)
unfolding attribute
attribute_lawful s = sealed_lawful (is k.LeftBrace) false never (made attribute_of (seq (one at.Other (is k.LeftBrace)) (behind at.Other (is k.Colon) (seq (name s at.Other) (ended (many (lexeme s)) at.Other (is k.RightBrace)))))) (made_lawful attribute_of (seq (one at.Other (is k.LeftBrace)) (behind at.Other (is k.Colon) (seq (name s at.Other) (ended (many (lexeme s)) at.Other (is k.RightBrace))))) (seq_lawful (one at.Other (is k.LeftBrace)) (behind at.Other (is k.Colon) (seq (name s at.Other) (ended (many (lexeme s)) at.Other (is k.RightBrace)))) (one_lawful at.Other (is k.LeftBrace)) (behind_lawful at.Other (is k.Colon) (seq (name s at.Other) (ended (many (lexeme s)) at.Other (is k.RightBrace))) (seq_lawful (name s at.Other) (ended (many (lexeme s)) at.Other (is k.RightBrace)) (name_lawful s at.Other) (ended_lawful (many (lexeme s)) at.Other (is k.RightBrace) (many_lawful (lexeme s) (lexeme_lawful s) refl (apart (λ t. refl) (λ t. refl) refl)) (apart (λ t. refl) (λ t. refl) refl)) (apart (λ t. refl) (λ t. refl) refl))) (apart (λ t. refl) (λ t. refl) refl))) refl (within (λ t. refl) (λ t. refl) refl) (within (λ t. refl) (λ t. refl) refl)

pub attributes_lawful : (s : List ℕ) → Lawful (attributes s)
unfolding attributes attribute
attributes_lawful s = sealed_lawful (is k.LeftBrace) true (is k.LeftBrace) (many (attribute s)) (many_lawful (attribute s) (attribute_lawful s) refl (apart (λ t. refl) (λ t. refl) refl)) refl (within (λ t. refl) (λ t. refl) refl) (within (λ t. refl) (λ t. refl) refl)
