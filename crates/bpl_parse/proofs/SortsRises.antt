-- The rules of sorts with one level more: what was read is read, a token that was too deep is passed, and what has begun ends as a phrase.
use Rattle.bpl_ast.specs.declared.sort.Sort.TheVariants as sorts
use Rattle.bpl_ast.specs.declared.sort.Sort.{Sort}
use Rattle.bpl_parse.proofs.EachTerminal.{tok}
use Rattle.bpl_parse.proofs.LevelsLaws.{LevelsAre}
use Rattle.bpl_parse.proofs.LevelsRises.{LevelsRise, Goes}
use Rattle.bpl_parse.proofs.SortsLaws.{map_sort_after, sort_group_after}
use Rattle.bpl_parse.specs.Reader.{Reader, text_of, name_of, as_sort, Levels}
use Rattle.bpl_parse.specs.Sorts.{width_of, boolean, vector, named_sort, map_of, after_map, map_sort, after_sort_group, sort_group, unnamed_sort, sort}
use Rattle.bpl_parse.specs.Tests.{is, begins_unnamed, begins_sort}
use Rattle.bpl_parse.specs.declared.place.Place.TheVariants as at
use Rattle.bpl_rules.proofs.Forms.{behind_lawful, behind_rises, ended_rises, has_behind, has_ended}
use Rattle.bpl_rules.proofs.Laws.{Lawful}
use Rattle.bpl_rules.proofs.Nested.{rise_map, nested_rises}
use Rattle.bpl_rules.proofs.Rises.{Rises, HasExample, one_rises, seq_rises, made_rises, alt_rises, sealed_rises, has_one, has_seq, has_made, has_first, has_sealed}
use Rattle.bpl_rules.specs.Rules.{one, alt, never, behind}
use Rattle.bpl_tok.specs.declared.token.Terminal.TheVariants as k
use Rattle.std.proofs.Common.{ℕ, false, List, refl}

pub boolean_example : HasExample boolean
boolean_example = has_made (λ t. sorts.Boolean t.at) (one at.Sort (is k.BoolWord)) (has_one at.Sort (is k.BoolWord) (tok k.BoolWord) refl)

pub boolean_rises : Rises boolean boolean
boolean_rises = made_rises (λ t. sorts.Boolean t.at) (one at.Sort (is k.BoolWord)) (one at.Sort (is k.BoolWord)) (one_rises at.Sort (is k.BoolWord))

pub vector_example : (s : List ℕ) → HasExample (vector s)
vector_example s = has_made (λ t. sorts.Bits t.at (width_of t.kind) (text_of s t)) (one at.Sort (is k.Width)) (has_one at.Sort (is k.Width) (tok k.Width) refl)

pub vector_rises : (s : List ℕ) → Rises (vector s) (vector s)
vector_rises s = made_rises (λ t. sorts.Bits t.at (width_of t.kind) (text_of s t)) (one at.Sort (is k.Width)) (one at.Sort (is k.Width)) (one_rises at.Sort (is k.Width))

pub named_sort_example : (s : List ℕ) → HasExample (named_sort s)
named_sort_example s = has_made (λ t. sorts.Named (name_of s t)) (one at.Sort (is k.Ident)) (has_one at.Sort (is k.Ident) (tok k.Ident) refl)

pub named_sort_rises : (s : List ℕ) → Rises (named_sort s) (named_sort s)
named_sort_rises s = made_rises (λ t. sorts.Named (name_of s t)) (one at.Sort (is k.Ident)) (one at.Sort (is k.Ident)) (one_rises at.Sort (is k.Ident))

pub after_map_example : (q : Reader Sort) → HasExample (as_sort q) → HasExample (after_map q)
after_map_example q X = has_seq (as_sort q) (behind at.AfterIndexSort (is k.RightBracket) (as_sort q)) X (has_behind at.AfterIndexSort (is k.RightBracket) (tok k.RightBracket) refl (as_sort q) X)

pub after_map_rises : (r q : Reader Sort) → Lawful (as_sort q) → Goes (as_sort r) (as_sort q) → Rises (after_map r) (after_map q)
after_map_rises r q Q G = seq_rises (as_sort r) (as_sort q) (behind at.AfterIndexSort (is k.RightBracket) (as_sort r)) (behind at.AfterIndexSort (is k.RightBracket) (as_sort q)) G.0 (behind_rises at.AfterIndexSort (is k.RightBracket) (as_sort r) (as_sort q) G.0 Q G.1) (behind_lawful at.AfterIndexSort (is k.RightBracket) (as_sort q) Q) (has_behind at.AfterIndexSort (is k.RightBracket) (tok k.RightBracket) refl (as_sort q) G.1)

pub map_sort_rises : (l m : Levels) → LevelsRise l m → LevelsAre m → Rises (map_sort l) (map_sort m)
unfolding map_sort
map_sort_rises l m R M = nested_rises at.Sort (is k.LeftBracket) never map_of after_map l.sorts m.sorts (rise_map _ _ _ _ (λ r. Lawful (as_sort r)) l.sorts m.sorts (λ q k u. tt) (λ r q Q g. (after_map_rises r q Q g, after_map_example q g.1)) M.sorts R.sorts) (map_sort_after m M)

pub after_sort_group_example : (q : Reader Sort) → HasExample (as_sort q) → HasExample (after_sort_group q)
after_sort_group_example q X = has_ended (as_sort q) at.AfterSort (is k.RightParen) (tok k.RightParen) refl X

pub after_sort_group_rises : (r q : Reader Sort) → Lawful (as_sort q) → Goes (as_sort r) (as_sort q) → Rises (after_sort_group r) (after_sort_group q)
after_sort_group_rises r q Q G = ended_rises (as_sort r) (as_sort q) at.AfterSort (is k.RightParen) G.0 (tok k.RightParen) refl

pub sort_group_rises : (l m : Levels) → LevelsRise l m → LevelsAre m → Rises (sort_group l) (sort_group m)
unfolding sort_group
sort_group_rises l m R M = nested_rises at.Sort (is k.LeftParen) never (λ x. x.1) after_sort_group l.sorts m.sorts (rise_map _ _ _ _ (λ r. Lawful (as_sort r)) l.sorts m.sorts (λ q k u. tt) (λ r q Q g. (after_sort_group_rises r q Q g, after_sort_group_example q g.1)) M.sorts R.sorts) (sort_group_after m M)

pub unnamed_sort_example : (s : List ℕ) (l m : Levels) → LevelsRise l m → HasExample (unnamed_sort s m)
unfolding unnamed_sort
unnamed_sort_example s l m R = has_sealed begins_unnamed false never (alt boolean (alt (vector s) (alt (map_sort m) (sort_group m)))) (has_first boolean (alt (vector s) (alt (map_sort m) (sort_group m))) boolean_example)

pub unnamed_sort_rises : (s : List ℕ) (l m : Levels) → LevelsRise l m → LevelsAre m → Rises (unnamed_sort s l) (unnamed_sort s m)
unfolding unnamed_sort map_sort sort_group
unnamed_sort_rises s l m R M = sealed_rises begins_unnamed false never (alt boolean (alt (vector s) (alt (map_sort l) (sort_group l)))) (alt boolean (alt (vector s) (alt (map_sort m) (sort_group m)))) (alt_rises boolean boolean (alt (vector s) (alt (map_sort l) (sort_group l))) (alt (vector s) (alt (map_sort m) (sort_group m))) boolean_rises (alt_rises (vector s) (vector s) (alt (map_sort l) (sort_group l)) (alt (map_sort m) (sort_group m)) (vector_rises s) (alt_rises (map_sort l) (map_sort m) (sort_group l) (sort_group m) (map_sort_rises l m R M) (sort_group_rises l m R M) (λ t. refl)) (λ t. refl)) (λ t. refl))

pub sort_example : (s : List ℕ) (l m : Levels) → LevelsRise l m → HasExample (sort s m)
unfolding sort
sort_example s l m R = has_sealed begins_sort false never (alt (named_sort s) (unnamed_sort s m)) (has_first (named_sort s) (unnamed_sort s m) (named_sort_example s))

pub sort_rises : (s : List ℕ) (l m : Levels) → LevelsRise l m → LevelsAre m → Rises (sort s l) (sort s m)
unfolding sort unnamed_sort
sort_rises s l m R M = sealed_rises begins_sort false never (alt (named_sort s) (unnamed_sort s l)) (alt (named_sort s) (unnamed_sort s m)) (alt_rises (named_sort s) (named_sort s) (unnamed_sort s l) (unnamed_sort s m) (named_sort_rises s) (unnamed_sort_rises s l m R M) (λ t. refl))
