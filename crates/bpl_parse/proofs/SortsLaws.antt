-- The rules of sorts are lawful.
use Rattle.bpl_ast.specs.declared.sort.Sort.TheVariants as sorts
use Rattle.bpl_ast.specs.declared.sort.Sort.{Sort}
use Rattle.bpl_parse.proofs.EachTerminal.{apart, within}
use Rattle.bpl_parse.proofs.LevelsLaws.{LevelsAre}
use Rattle.bpl_parse.specs.Reader.{Reader, text_of, name_of, as_sort, Levels}
use Rattle.bpl_parse.specs.Sorts.{width_of, boolean, vector, named_sort, map_of, after_map, map_sort, after_sort_group, sort_group, unnamed_sort, sort}
use Rattle.bpl_parse.specs.Tests.{is, begins_unnamed, begins_sort}
use Rattle.bpl_parse.specs.declared.place.Place.TheVariants as at
use Rattle.bpl_rules.proofs.Choice.{seq_lawful, made_lawful, alt_lawful, sealed_lawful}
use Rattle.bpl_rules.proofs.Forms.{behind_lawful, ended_lawful}
use Rattle.bpl_rules.proofs.Laws.{Lawful}
use Rattle.bpl_rules.proofs.Nested.{AtBelow, at_map, AfterIs, nested_lawful}
use Rattle.bpl_rules.proofs.Single.{one_lawful}
use Rattle.bpl_rules.specs.Rules.{one, alt, never, behind}
use Rattle.bpl_tok.specs.declared.token.Terminal.TheVariants as k
use Rattle.std.proofs.Common.{ℕ, false, List, refl}

pub boolean_lawful : Lawful boolean
boolean_lawful = made_lawful (λ t. sorts.Boolean t.at) (one at.Sort (is k.BoolWord)) (one_lawful at.Sort (is k.BoolWord))

pub vector_lawful : (s : List ℕ) → Lawful (vector s)
vector_lawful s = made_lawful (λ t. sorts.Bits t.at (width_of t.kind) (text_of s t)) (one at.Sort (is k.Width)) (one_lawful at.Sort (is k.Width))

pub named_sort_lawful : (s : List ℕ) → Lawful (named_sort s)
named_sort_lawful s = made_lawful (λ t. sorts.Named (name_of s t)) (one at.Sort (is k.Ident)) (one_lawful at.Sort (is k.Ident))

pub after_map_lawful : (r : Reader Sort) → Lawful (as_sort r) → Lawful (after_map r)
after_map_lawful r R = seq_lawful (as_sort r) (behind at.AfterIndexSort (is k.RightBracket) (as_sort r)) R (behind_lawful at.AfterIndexSort (is k.RightBracket) (as_sort r) R) (apart (λ t. refl) (λ t. refl) refl)

pub map_sort_after : (l : Levels) → LevelsAre l → AtBelow (λ r. AfterIs never (after_map r)) l.sorts
map_sort_after l L = at_map (λ r. Lawful (as_sort r)) _ l.sorts (λ r R. record { lawful = after_map_lawful r R; goes_on = within (λ t. refl) (λ t. refl) refl }) L.sorts

pub map_sort_lawful : (l : Levels) → LevelsAre l → Lawful (map_sort l)
unfolding map_sort
map_sort_lawful l L = nested_lawful at.Sort (is k.LeftBracket) never map_of after_map l.sorts (map_sort_after l L)

pub after_sort_group_lawful : (r : Reader Sort) → Lawful (as_sort r) → Lawful (after_sort_group r)
after_sort_group_lawful r R = ended_lawful (as_sort r) at.AfterSort (is k.RightParen) R (apart (λ t. refl) (λ t. refl) refl)

pub sort_group_after : (l : Levels) → LevelsAre l → AtBelow (λ r. AfterIs never (after_sort_group r)) l.sorts
sort_group_after l L = at_map (λ r. Lawful (as_sort r)) _ l.sorts (λ r R. record { lawful = after_sort_group_lawful r R; goes_on = within (λ t. refl) (λ t. refl) refl }) L.sorts

pub sort_group_lawful : (l : Levels) → LevelsAre l → Lawful (sort_group l)
unfolding sort_group
sort_group_lawful l L = nested_lawful at.Sort (is k.LeftParen) never (λ x. x.1) after_sort_group l.sorts (sort_group_after l L)

pub unnamed_sort_lawful : (s : List ℕ) (l : Levels) → LevelsAre l → Lawful (unnamed_sort s l)
unfolding unnamed_sort map_sort sort_group
unnamed_sort_lawful s l L = sealed_lawful begins_unnamed false never (alt boolean (alt (vector s) (alt (map_sort l) (sort_group l)))) (alt_lawful boolean (alt (vector s) (alt (map_sort l) (sort_group l))) boolean_lawful (alt_lawful (vector s) (alt (map_sort l) (sort_group l)) (vector_lawful s) (alt_lawful (map_sort l) (sort_group l) (map_sort_lawful l L) (sort_group_lawful l L) (apart (λ t. refl) (λ t. refl) refl) refl) (apart (λ t. refl) (λ t. refl) refl) refl) (apart (λ t. refl) (λ t. refl) refl) refl) refl (within (λ t. refl) (λ t. refl) refl) (within (λ t. refl) (λ t. refl) refl)

pub sort_lawful : (s : List ℕ) (l : Levels) → LevelsAre l → Lawful (sort s l)
unfolding sort unnamed_sort
sort_lawful s l L = sealed_lawful begins_sort false never (alt (named_sort s) (unnamed_sort s l)) (alt_lawful (named_sort s) (unnamed_sort s l) (named_sort_lawful s) (unnamed_sort_lawful s l L) (apart (λ t. refl) (λ t. refl) refl) refl) refl (within (λ t. refl) (λ t. refl) refl) (within (λ t. refl) (λ t. refl) refl)
