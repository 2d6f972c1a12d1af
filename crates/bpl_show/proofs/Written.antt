-- A text, and tokens after it, token by token.
use Rattle.std.proofs.Common.{◌≡◌, ℕ, Bool, false, List, [], ◌∷◌, ◌++◌, refl, ap, sym, ◌∙◌, append_assoc}
use Rattle.std.proofs.lemmas.Grind.{flat_map-append}
use Rattle.std.proofs.lemmas.List.{append-nil}
use Rattle.bpl_show.specs.Tokens.{Token, spelt, text_of, written, mark, word, gap_after}
use Rattle.bpl_show.specs.Exprs.{literal}
use Rattle.std.specs.Prelude.{codes, flat_map}
use Rattle.bpl_ast.specs.declared.decl.Ast.{Ast}
use Rattle.bpl_show.specs.Decls.{decl}
use Rattle.bpl_show.specs.Shown.{shown, shown_text}
use Rattle.std.specs.Fmt.{decimal}

pub written-nil : (out : List ℕ) → written out [] ≡ out
unfolding written text_of
written-nil out = append-nil out

pub written-mark : (out : List ℕ) (ends_line : Bool) (text : List ℕ) → written out (mark ends_line text) ≡ (out ++ text) ++ gap_after ends_line ∷ []
unfolding written text_of
written-mark out ends_line text = ap (λ l. out ++ l) (append-nil (text ++ gap_after ends_line ∷ [])) ∙ sym (append_assoc out text (gap_after ends_line ∷ []))

parted : (out xs ys zs : List ℕ) → out ++ (xs ++ ys ++ zs) ≡ ((out ++ xs) ++ ys) ++ zs
parted out xs ys zs = simp append_assoc

pub written-literal : (out : List ℕ) (width bits : ℕ) → written out (word (literal width bits)) ≡ (((out ++ decimal bits) ++ codes "bv") ++ decimal width) ++ 32 ∷ []
written-literal out width bits = written-mark out false (literal width bits) ∙ ap (λ l. l ++ 32 ∷ []) (parted out (decimal bits) (codes "bv") (decimal width))

pub written-append : (out : List ℕ) (xs ys : List Token) → written out (xs ++ ys) ≡ written (written out xs) ys
unfolding written text_of
written-append out xs ys = ap (λ l. out ++ l) (flat_map-append spelt xs ys) ∙ sym (append_assoc out (text_of xs) (text_of ys))

pub written-cons : (out : List ℕ) (t : Token) (ts : List Token) → written out (t ∷ ts) ≡ written (written out (t ∷ [])) ts
written-cons out t ts = written-append out (t ∷ []) ts

pub ruleset writing = (written-nil, written-append, written-cons)

pub ruleset marks = (written-mark, written-literal)

pub written-shown : (ast : Ast) → written [] (flat_map decl ast.decls) ≡ shown_text ast
unfolding written shown_text shown
written-shown ast = refl

pub ruleset shows = (written-shown)
