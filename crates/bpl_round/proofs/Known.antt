-- The words and signs of the grammar, and numbers and literals without leading zeros, are the tokens that they spell.
use Rattle.std.proofs.Common.{◌≡◌, ℕ, ◌^◌, ◌<◌, ◌≤◌, true, false, List, [], ◌∷◌, length, nat_lt, refl, sym, arith, inl, inr, append_assoc, codes}
use Rattle.std.specs.Prelude.{Some, slice_index}
use Rattle.std.specs.Char.{digit_value, is_ascii_digit}
use Rattle.std.specs.Fmt.{decimal}
use Rattle.std.specs.List.{list_all}
use Rattle.std.specs.Str.Parse.{AllDigits}
use Rattle.std.proofs.lemmas.Bool.{ltb-true}
use Rattle.std.proofs.lemmas.Bool.Decides.{nat_tests}
use Rattle.std.proofs.lemmas.Fmt.{decimal_is_IsNumeral_wide}
use Rattle.bpl_tok.specs.declared.token.Terminal.{Terminal}
use Rattle.bpl_tok.specs.declared.token.Terminal.TheVariants as k
use Rattle.bpl_tok.specs.declared.token.TokKind.TheVariants.{Keyword, Number, BvLit, Sign}
use Rattle.bpl_tok.specs.Bytes.{begins_ident, in_ident}
use Rattle.bpl_tok.specs.Cuts.{HasSpelling}
use Rattle.bpl_tok.specs.Pieces.{is_width_word}
use Rattle.bpl_tok.specs.Spellings.{keywords, signs, spelt}
use Rattle.bpl_show.specs.Exprs.{literal}
use Rattle.bpl_round.proofs.Again.{IsSpelt, IsText, spelt_text}
use Rattle.bpl_round.proofs.Words.{token_spelt, sign_in, signs_spelt}

keyword_text : (terminal : Terminal) (text : List ℕ) → nat_lt 0 (length text) ≡ true → begins_ident (slice_index text 0) ≡ true → list_all in_ident text ≡ true → is_width_word text ≡ false → spelt keywords text ≡ Some terminal → IsText terminal text
keyword_text terminal text some begins passes plain is =
    spelt_text (Keyword terminal) text (token_spelt (Keyword terminal) text [] (record { begins = begins; run = record { some = ltb-true 0 (length text) some; passes = passes; stops = tt } }, plain, is))

sign_text : (terminal : Terminal) (text : List ℕ) → HasSpelling signs text terminal → IsText terminal text
sign_text terminal text h = spelt_text (Sign terminal) text (sign_in signs text terminal signs_spelt h)

pub type_word : IsText k.TypeWord (codes "type")
unfolding spelt
type_word = keyword_text k.TypeWord (codes "type") refl refl refl refl refl

pub const_word : IsText k.Const (codes "const")
unfolding spelt
const_word = keyword_text k.Const (codes "const") refl refl refl refl refl

pub unique_word : IsText k.Unique (codes "unique")
unfolding spelt
unique_word = keyword_text k.Unique (codes "unique") refl refl refl refl refl

pub function_word : IsText k.Function (codes "function")
unfolding spelt
function_word = keyword_text k.Function (codes "function") refl refl refl refl refl

pub axiom_word : IsText k.Axiom (codes "axiom")
unfolding spelt
axiom_word = keyword_text k.Axiom (codes "axiom") refl refl refl refl refl

pub var_word : IsText k.Var (codes "var")
unfolding spelt
var_word = keyword_text k.Var (codes "var") refl refl refl refl refl

pub procedure_word : IsText k.Procedure (codes "procedure")
unfolding spelt
procedure_word = keyword_text k.Procedure (codes "procedure") refl refl refl refl refl

pub implementation_word : IsText k.Implementation (codes "implementation")
unfolding spelt
implementation_word = keyword_text k.Implementation (codes "implementation") refl refl refl refl refl

pub returns_word : IsText k.Returns (codes "returns")
unfolding spelt
returns_word = keyword_text k.Returns (codes "returns") refl refl refl refl refl

pub modifies_word : IsText k.Modifies (codes "modifies")
unfolding spelt
modifies_word = keyword_text k.Modifies (codes "modifies") refl refl refl refl refl

pub free_word : IsText k.Free (codes "free")
unfolding spelt
free_word = keyword_text k.Free (codes "free") refl refl refl refl refl

pub assert_word : IsText k.Assert (codes "assert")
unfolding spelt
assert_word = keyword_text k.Assert (codes "assert") refl refl refl refl refl

pub assume_word : IsText k.Assume (codes "assume")
unfolding spelt
assume_word = keyword_text k.Assume (codes "assume") refl refl refl refl refl

pub havoc_word : IsText k.Havoc (codes "havoc")
unfolding spelt
havoc_word = keyword_text k.Havoc (codes "havoc") refl refl refl refl refl

pub call_word : IsText k.Call (codes "call")
unfolding spelt
call_word = keyword_text k.Call (codes "call") refl refl refl refl refl

pub goto_word : IsText k.Goto (codes "goto")
unfolding spelt
goto_word = keyword_text k.Goto (codes "goto") refl refl refl refl refl

pub return_word : IsText k.Return (codes "return")
unfolding spelt
return_word = keyword_text k.Return (codes "return") refl refl refl refl refl

pub if_word : IsText k.If (codes "if")
unfolding spelt
if_word = keyword_text k.If (codes "if") refl refl refl refl refl

pub then_word : IsText k.Then (codes "then")
unfolding spelt
then_word = keyword_text k.Then (codes "then") refl refl refl refl refl

pub else_word : IsText k.Else (codes "else")
unfolding spelt
else_word = keyword_text k.Else (codes "else") refl refl refl refl refl

pub while_word : IsText k.While (codes "while")
unfolding spelt
while_word = keyword_text k.While (codes "while") refl refl refl refl refl

pub break_word : IsText k.Break (codes "break")
unfolding spelt
break_word = keyword_text k.Break (codes "break") refl refl refl refl refl

pub invariant_word : IsText k.Invariant (codes "invariant")
unfolding spelt
invariant_word = keyword_text k.Invariant (codes "invariant") refl refl refl refl refl

pub bool_word : IsText k.BoolWord (codes "bool")
unfolding spelt
bool_word = keyword_text k.BoolWord (codes "bool") refl refl refl refl refl

pub true_word : IsText k.True (codes "true")
unfolding spelt
true_word = keyword_text k.True (codes "true") refl refl refl refl refl

pub false_word : IsText k.False (codes "false")
unfolding spelt
false_word = keyword_text k.False (codes "false") refl refl refl refl refl

pub left_paren : IsText k.LeftParen (codes "(")
left_paren = sign_text k.LeftParen (codes "(") (inl (refl, refl))

pub right_paren : IsText k.RightParen (codes ")")
right_paren = sign_text k.RightParen (codes ")") (inr (inl (refl, refl)))

pub left_bracket : IsText k.LeftBracket (codes "[")
left_bracket = sign_text k.LeftBracket (codes "[") (inr (inr (inl (refl, refl))))

pub right_bracket : IsText k.RightBracket (codes "]")
right_bracket = sign_text k.RightBracket (codes "]") (inr (inr (inr (inl (refl, refl)))))

pub left_brace : IsText k.LeftBrace (codes "{")
left_brace = sign_text k.LeftBrace (codes "{") (inr (inr (inr (inr (inl (refl, refl))))))

pub right_brace : IsText k.RightBrace (codes "}")
right_brace = sign_text k.RightBrace (codes "}") (inr (inr (inr (inr (inr (inl (refl, refl)))))))

pub comma : IsText k.Comma (codes ",")
comma = sign_text k.Comma (codes ",") (inr (inr (inr (inr (inr (inr (inl (refl, refl))))))))

pub semicolon : IsText k.Semicolon (codes ";")
semicolon = sign_text k.Semicolon (codes ";") (inr (inr (inr (inr (inr (inr (inr (inl (refl, refl)))))))))

pub star : IsText k.Star (codes "*")
star = sign_text k.Star (codes "*") (inr (inr (inr (inr (inr (inr (inr (inr (inr (inl (refl, refl)))))))))))

pub assign : IsText k.Assign (codes ":=")
assign = sign_text k.Assign (codes ":=") (inr (inr (inr (inr (inr (inr (inr (inr (inr (inr (inr (inr (inl (refl, refl))))))))))))))

pub colon : IsText k.Colon (codes ":")
colon = sign_text k.Colon (codes ":") (inr (inr (inr (inr (inr (inr (inr (inr (inr (inr (inr (inr (inr (inl (refl, refl)))))))))))))))

pub implies : IsText k.Implies (codes "==>")
implies = sign_text k.Implies (codes "==>") (inr (inr (inr (inr (inr (inr (inr (inr (inr (inr (inr (inr (inr (inr (inl (refl, refl))))))))))))))))

pub equal : IsText k.Equal (codes "==")
equal = sign_text k.Equal (codes "==") (inr (inr (inr (inr (inr (inr (inr (inr (inr (inr (inr (inr (inr (inr (inr (inl (refl, refl)))))))))))))))))

pub equals_sign : IsText k.EqualsSign (codes "=")
equals_sign = sign_text k.EqualsSign (codes "=") (inr (inr (inr (inr (inr (inr (inr (inr (inr (inr (inr (inr (inr (inr (inr (inr (inl (refl, refl))))))))))))))))))

pub not_equal : IsText k.NotEqual (codes "!=")
not_equal = sign_text k.NotEqual (codes "!=") (inr (inr (inr (inr (inr (inr (inr (inr (inr (inr (inr (inr (inr (inr (inr (inr (inr (inl (refl, refl)))))))))))))))))))

pub bang : IsText k.Bang (codes "!")
bang = sign_text k.Bang (codes "!") (inr (inr (inr (inr (inr (inr (inr (inr (inr (inr (inr (inr (inr (inr (inr (inr (inr (inr (inl (refl, refl))))))))))))))))))))

pub equivalent : IsText k.Equivalent (codes "<==>")
equivalent = sign_text k.Equivalent (codes "<==>") (inr (inr (inr (inr (inr (inr (inr (inr (inr (inr (inr (inr (inr (inr (inr (inr (inr (inr (inr (inl (refl, refl)))))))))))))))))))))

pub implied_by : IsText k.ImpliedBy (codes "<==")
implied_by = sign_text k.ImpliedBy (codes "<==") (inr (inr (inr (inr (inr (inr (inr (inr (inr (inr (inr (inr (inr (inr (inr (inr (inr (inr (inr (inr (inl (refl, refl))))))))))))))))))))))

pub and_and : IsText k.AndAnd (codes "&&")
and_and = sign_text k.AndAnd (codes "&&") (inr (inr (inr (inr (inr (inr (inr (inr (inr (inr (inr (inr (inr (inr (inr (inr (inr (inr (inr (inr (inr (inr (inr (inr (inr (inl (refl, refl)))))))))))))))))))))))))))

pub or_or : IsText k.OrOr (codes "||")
or_or = sign_text k.OrOr (codes "||") (inr (inr (inr (inr (inr (inr (inr (inr (inr (inr (inr (inr (inr (inr (inr (inr (inr (inr (inr (inr (inr (inr (inr (inr (inr (inr (inl (refl, refl))))))))))))))))))))))))))))

pub plus_plus : IsText k.PlusPlus (codes "++")
plus_plus = sign_text k.PlusPlus (codes "++") (inr (inr (inr (inr (inr (inr (inr (inr (inr (inr (inr (inr (inr (inr (inr (inr (inr (inr (inr (inr (inr (inr (inr (inr (inr (inr (inr (inl (refl, refl)))))))))))))))))))))))))))))

-- ---- numbers and literals

passes_digit : (c : ℕ) → digit_value c < 10 → is_ascii_digit c ≡ true
passes_digit c h = grind (arith, nat_tests)

all_pass : (ds : List ℕ) → AllDigits 10 ds → list_all is_ascii_digit ds ≡ true
all_pass [] h = refl
all_pass (d ∷ ds) h = rw (passes_digit d h.0) (all_pass ds h.1)

pub number_spelt : (n : ℕ) → n < 2 ^ 128 → IsSpelt (Number n) (decimal n)
number_spelt n lt =
    let is = decimal_is_IsNumeral_wide n (omega arith) in
    token_spelt (Number n) (decimal n) [] (record { run = record { some = is.0.0; passes = all_pass (decimal n) is.0.1; stops = tt }; alone = refl; is_value = sym is.1; fits = lt })

pub literal_spelt : (width bits : ℕ) → 1 ≤ width → width ≤ 64 → bits < 2 ^ 64 → bits < 2 ^ width → IsSpelt (BvLit width bits) (literal width bits)
literal_spelt width bits least most small lt =
    let w = decimal_is_IsNumeral_wide width (omega arith) in
    let b = decimal_is_IsNumeral_wide bits (omega arith) in
    token_spelt (BvLit width bits) (literal width bits) [] (record {
      front = decimal bits;
      back = decimal width;
      parts = append_assoc (decimal bits) (codes "bv") (decimal width);
      some = b.0.0;
      digits = all_pass (decimal bits) b.0.1;
      run = record { some = w.0.0; passes = all_pass (decimal width) w.0.1; stops = tt };
      is_bits = sym b.1;
      is_width = sym w.1;
      least = least;
      most = most;
      fits = lt;
    })
