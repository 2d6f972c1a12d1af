-- sort = "bool" | "bvN" | id | "[" sort "]" sort | "(" sort ")"
-- The brackets and the element sort after them nest one level deeper, and so do the parentheses.
use Rattle.std.specs.Prelude.{ℕ, false, List, Some, None}
use Rattle.bpl_ast.specs.declared.sort.Sort.{Sort}
use Rattle.bpl_ast.specs.declared.sort.Sort.TheVariants as sorts
use Rattle.bpl_tok.specs.declared.token.Terminal.TheVariants as k
use Rattle.bpl_tok.specs.declared.token.TokKind.{TokKind}
use Rattle.bpl_tok.specs.declared.token.TokKind.TheVariants.{Ident, Keyword, Width, Number, BvLit, Str, Sign}
use Rattle.bpl_tok.specs.declared.token.Token.{Token}
use Rattle.bpl_parse.specs.declared.place.Place.TheVariants as at
use Rattle.bpl_rules.specs.Rules.{one, seq, made, alt, sealed, never, behind, ended, nested}
use Rattle.bpl_parse.specs.Tests.{is, begins_sort, begins_unnamed}
use Rattle.bpl_parse.specs.Reader.{Reader, Levels, text_of, name_of, as_sort}

-- N of a token `bvN`
abbrev pub width_of : TokKind → ℕ
width_of (Width (Some n)) = n
width_of (Width None) = 0
width_of Ident = 0
width_of (Keyword word) = 0
width_of (Number value) = 0
width_of (BvLit width bits) = 0
width_of Str = 0
width_of (Sign sign) = 0

abbrev pub boolean : Reader Sort
boolean = made (λ t. sorts.Boolean t.at) (one at.Sort (is k.BoolWord))

abbrev pub vector : List ℕ → Reader Sort
vector s = made (λ t. sorts.Bits t.at (width_of t.kind) (text_of s t)) (one at.Sort (is k.Width))

abbrev pub named_sort : List ℕ → Reader Sort
named_sort s = made (λ t. sorts.Named (name_of s t)) (one at.Sort (is k.Ident))

abbrev pub map_of : Token × (Sort × Sort) → Sort
map_of x = sorts.Map x.0.at x.1.0 x.1.1

abbrev pub after_map : Reader Sort → Reader (Sort × Sort)
after_map r = seq (as_sort r) (behind at.AfterIndexSort (is k.RightBracket) (as_sort r))

unfoldable pub map_sort : Levels → Reader Sort
map_sort l = nested at.Sort (is k.LeftBracket) never map_of after_map l.sorts

abbrev pub after_sort_group : Reader Sort → Reader Sort
after_sort_group r = ended (as_sort r) at.AfterSort (is k.RightParen)

unfoldable pub sort_group : Levels → Reader Sort
sort_group l = nested at.Sort (is k.LeftParen) never (λ x. x.1) after_sort_group l.sorts

-- a sort that is no name
unfoldable pub unnamed_sort : List ℕ → Levels → Reader Sort
unnamed_sort s l = sealed begins_unnamed false never (alt boolean (alt (vector s) (alt (map_sort l) (sort_group l))))

unfoldable pub sort : List ℕ → Levels → Reader Sort
sort s l = sealed begins_sort false never (alt (named_sort s) (unnamed_sort s l))
