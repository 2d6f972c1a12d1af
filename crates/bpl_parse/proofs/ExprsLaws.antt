-- The rules of expressions are lawful.
use Rattle.bpl_ast.specs.declared.expr.Expr.TheVariants as e
use Rattle.bpl_ast.specs.declared.expr.Expr.{Expr}
use Rattle.bpl_parse.proofs.EachTerminal.{apart, within}
use Rattle.bpl_parse.proofs.LevelsLaws.{LevelsAre}
use Rattle.bpl_parse.proofs.NamesLaws.{name_lawful}
use Rattle.bpl_parse.specs.Exprs.{no_arguments, some_arguments, after_arguments, arguments, literal_of, truth, falsehood, literal, after_group, group, named_of, named, atom, bits_of, bit_range, selected, stored, after_index, indexed, after_bracket, suffix, index_of, post_of, post, after_bang, negation_of, negation, unary, chain_of, cat, relation_of, equal_to, unequal_to, relation_tail, rel, logic_of, conjunct, disjunct, ands, ors, logic_tail, logic, implication_of, after_implies, right, left, rights, lefts, impl_tail, implication, equiv, choice_of, after_if, choice, expr}
use Rattle.bpl_parse.specs.Names.{name}
use Rattle.bpl_parse.specs.Reader.{Reader, place_of, as_expr, as_impl, as_unary, Levels}
use Rattle.bpl_parse.specs.Tests.{is, begins_atom, begins_unary, begins_expr, follows_post, follows_cat, follows_rel, follows_logic, follows_impl, follows_expr}
use Rattle.bpl_parse.specs.declared.parts.ImplicationTail.TheVariants as impls
use Rattle.bpl_parse.specs.declared.parts.LogicTail.TheVariants as logics
use Rattle.bpl_parse.specs.declared.parts.RelationTail.TheVariants as relations
use Rattle.bpl_parse.specs.declared.place.Place.TheVariants as at
use Rattle.bpl_rules.proofs.Choice.{seq_lawful, made_lawful, placed_lawful, alt_lawful, sealed_lawful}
use Rattle.bpl_rules.proofs.Forms.{some_lawful, behind_lawful, ended_lawful, separated_lawful}
use Rattle.bpl_rules.proofs.Laws.{Lawful}
use Rattle.bpl_rules.proofs.Many.{many_lawful}
use Rattle.bpl_rules.proofs.Nested.{AtBelow, at_map, AfterIs, nested_lawful, maybe_lawful}
use Rattle.bpl_rules.proofs.Single.{one_lawful, two_lawful, empty_lawful}
use Rattle.bpl_rules.specs.Rules.{one, two, empty, seq, made, placed, alt, maybe, many, some, never, behind, ended, separated}
use Rattle.bpl_tok.specs.declared.token.Terminal.TheVariants as k
use Rattle.std.proofs.Common.{ℕ, false, List, [], Some, None, refl}

pub no_arguments_lawful : Lawful no_arguments
no_arguments_lawful = made_lawful (λ t. []) (one at.Operand (is k.RightParen)) (one_lawful at.Operand (is k.RightParen))

pub some_arguments_lawful : (r : Reader Expr) → Lawful (as_expr r) → Lawful (some_arguments r)
some_arguments_lawful r R = ended_lawful (separated at.AfterOperand (is k.Comma) (as_expr r)) at.AfterOperand (is k.RightParen) (separated_lawful at.AfterOperand (is k.Comma) (as_expr r) R refl (apart (λ t. refl) (λ t. refl) refl)) (apart (λ t. refl) (λ t. refl) refl)

pub after_arguments_lawful : (r : Reader Expr) → Lawful (as_expr r) → Lawful (after_arguments r)
after_arguments_lawful r R = alt_lawful no_arguments (some_arguments r) no_arguments_lawful (some_arguments_lawful r R) (apart (λ t. refl) (λ t. refl) refl) refl

pub arguments_after : (l : Levels) → LevelsAre l → AtBelow (λ r. AfterIs never (after_arguments r)) l.exprs
arguments_after l L = at_map (λ r. Lawful (as_expr r)) _ l.exprs (λ r R. record { lawful = after_arguments_lawful r R; goes_on = within (λ t. refl) (λ t. refl) refl }) L.exprs

pub arguments_lawful : (l : Levels) → LevelsAre l → Lawful (arguments l)
unfolding arguments
arguments_lawful l L = nested_lawful at.Other (is k.LeftParen) never (λ x. x.1) after_arguments l.exprs (arguments_after l L)

pub truth_lawful : Lawful truth
truth_lawful = made_lawful (λ t. e.True t.at) (one at.Operand (is k.True)) (one_lawful at.Operand (is k.True))

pub falsehood_lawful : Lawful falsehood
falsehood_lawful = made_lawful (λ t. e.False t.at) (one at.Operand (is k.False)) (one_lawful at.Operand (is k.False))

pub literal_lawful : Lawful literal
literal_lawful = made_lawful (λ t. literal_of t.at t.kind) (one at.Operand (is k.Literal)) (one_lawful at.Operand (is k.Literal))

pub after_group_lawful : (r : Reader Expr) → Lawful (as_expr r) → Lawful (after_group r)
after_group_lawful r R = ended_lawful (as_expr r) at.AfterOperand (is k.RightParen) R (apart (λ t. refl) (λ t. refl) refl)

pub group_after : (l : Levels) → LevelsAre l → AtBelow (λ r. AfterIs never (after_group r)) l.exprs
group_after l L = at_map (λ r. Lawful (as_expr r)) _ l.exprs (λ r R. record { lawful = after_group_lawful r R; goes_on = within (λ t. refl) (λ t. refl) refl }) L.exprs

pub group_lawful : (l : Levels) → LevelsAre l → Lawful (group l)
unfolding group
group_lawful l L = nested_lawful at.Operand (is k.LeftParen) never (λ x. x.1) after_group l.exprs (group_after l L)

pub named_lawful : (s : List ℕ) (l : Levels) → LevelsAre l → Lawful (named s l)
unfolding named arguments
named_lawful s l L = sealed_lawful (is k.Ident) false (is k.LeftParen) (made named_of (seq (name s at.Operand) (maybe (arguments l)))) (made_lawful named_of (seq (name s at.Operand) (maybe (arguments l))) (seq_lawful (name s at.Operand) (maybe (arguments l)) (name_lawful s at.Operand) (maybe_lawful (arguments l) (arguments_lawful l L) refl) (apart (λ t. refl) (λ t. refl) refl))) refl (within (λ t. refl) (λ t. refl) refl) (within (λ t. refl) (λ t. refl) refl)

pub atom_lawful : (s : List ℕ) (l : Levels) → LevelsAre l → Lawful (atom s l)
unfolding atom group named
atom_lawful s l L = sealed_lawful begins_atom false (is k.LeftParen) (alt truth (alt falsehood (alt literal (alt (group l) (named s l))))) (alt_lawful truth (alt falsehood (alt literal (alt (group l) (named s l)))) truth_lawful (alt_lawful falsehood (alt literal (alt (group l) (named s l))) falsehood_lawful (alt_lawful literal (alt (group l) (named s l)) literal_lawful (alt_lawful (group l) (named s l) (group_lawful l L) (named_lawful s l L) (apart (λ t. refl) (λ t. refl) refl) refl) (apart (λ t. refl) (λ t. refl) refl) refl) (apart (λ t. refl) (λ t. refl) refl) refl) (apart (λ t. refl) (λ t. refl) refl) refl) refl (within (λ t. refl) (λ t. refl) refl) (within (λ t. refl) (λ t. refl) refl)

pub bit_range_lawful : Lawful bit_range
bit_range_lawful = made_lawful bits_of (seq (two at.Operand (is k.Number) (is k.Colon)) (ended (one at.Other (is k.Number)) at.Other (is k.RightBracket))) (seq_lawful (two at.Operand (is k.Number) (is k.Colon)) (ended (one at.Other (is k.Number)) at.Other (is k.RightBracket)) (two_lawful at.Operand (is k.Number) (is k.Colon)) (ended_lawful (one at.Other (is k.Number)) at.Other (is k.RightBracket) (one_lawful at.Other (is k.Number)) (apart (λ t. refl) (λ t. refl) refl)) (apart (λ t. refl) (λ t. refl) refl))

pub selected_lawful : Lawful selected
selected_lawful = made_lawful (λ t. None) (one at.AfterIndex (is k.RightBracket)) (one_lawful at.AfterIndex (is k.RightBracket))

pub stored_lawful : (r : Reader Expr) → Lawful (as_expr r) → Lawful (stored r)
stored_lawful r R = made_lawful Some (behind at.AfterIndex (is k.Assign) (ended (as_expr r) at.AfterOperand (is k.RightBracket))) (behind_lawful at.AfterIndex (is k.Assign) (ended (as_expr r) at.AfterOperand (is k.RightBracket)) (ended_lawful (as_expr r) at.AfterOperand (is k.RightBracket) R (apart (λ t. refl) (λ t. refl) refl)))

pub after_index_lawful : (r : Reader Expr) → Lawful (as_expr r) → Lawful (after_index r)
after_index_lawful r R = alt_lawful selected (stored r) selected_lawful (stored_lawful r R) (apart (λ t. refl) (λ t. refl) refl) refl

pub indexed_lawful : (r : Reader Expr) → Lawful (as_expr r) → Lawful (indexed r)
indexed_lawful r R = made_lawful index_of (seq (as_expr r) (after_index r)) (seq_lawful (as_expr r) (after_index r) R (after_index_lawful r R) (apart (λ t. refl) (λ t. refl) refl))

pub after_bracket_lawful : (r : Reader Expr) → Lawful (as_expr r) → Lawful (after_bracket r)
after_bracket_lawful r R = alt_lawful bit_range (indexed r) bit_range_lawful (indexed_lawful r R) (apart (λ t. refl) (λ t. refl) refl) refl

pub suffix_after : (l : Levels) → LevelsAre l → AtBelow (λ r. AfterIs never (after_bracket r)) l.exprs
suffix_after l L = at_map (λ r. Lawful (as_expr r)) _ l.exprs (λ r R. record { lawful = after_bracket_lawful r R; goes_on = within (λ t. refl) (λ t. refl) refl }) L.exprs

pub suffix_lawful : (l : Levels) → LevelsAre l → Lawful (suffix l)
unfolding suffix
suffix_lawful l L = nested_lawful at.AfterOperand (is k.LeftBracket) never (λ x. x.1) after_bracket l.exprs (suffix_after l L)

pub post_lawful : (s : List ℕ) (l : Levels) → LevelsAre l → Lawful (post s l)
unfolding post atom suffix
post_lawful s l L = sealed_lawful begins_atom false follows_post (placed (λ t. post_of (place_of t)) (seq (atom s l) (many (suffix l)))) (placed_lawful (λ t. post_of (place_of t)) (seq (atom s l) (many (suffix l))) (seq_lawful (atom s l) (many (suffix l)) (atom_lawful s l L) (many_lawful (suffix l) (suffix_lawful l L) refl (apart (λ t. refl) (λ t. refl) refl)) (apart (λ t. refl) (λ t. refl) refl)) refl) refl (within (λ t. refl) (λ t. refl) refl) (within (λ t. refl) (λ t. refl) refl)

pub after_bang_lawful : (r : Reader Expr) → Lawful (as_unary r) → Lawful (after_bang r)
after_bang_lawful r R = R

pub negation_after : (l : Levels) → LevelsAre l → AtBelow (λ r. AfterIs follows_post (after_bang r)) l.unaries
negation_after l L = at_map (λ r. Lawful (as_unary r)) _ l.unaries (λ r R. record { lawful = after_bang_lawful r R; goes_on = within (λ t. refl) (λ t. refl) refl }) L.unaries

pub negation_lawful : (l : Levels) → LevelsAre l → Lawful (negation l)
unfolding negation
negation_lawful l L = nested_lawful at.Operand (is k.Bang) follows_post negation_of after_bang l.unaries (negation_after l L)

pub unary_lawful : (s : List ℕ) (l : Levels) → LevelsAre l → Lawful (unary s l)
unfolding unary negation post
unary_lawful s l L = sealed_lawful begins_unary false follows_post (alt (negation l) (post s l)) (alt_lawful (negation l) (post s l) (negation_lawful l L) (post_lawful s l L) (apart (λ t. refl) (λ t. refl) refl) refl) refl (within (λ t. refl) (λ t. refl) refl) (within (λ t. refl) (λ t. refl) refl)

pub cat_lawful : (s : List ℕ) (l : Levels) → LevelsAre l → Lawful (cat s l)
unfolding cat unary
cat_lawful s l L = sealed_lawful begins_unary false follows_cat (placed (λ t. chain_of (e.Concat (place_of t))) (separated at.AfterOperand (is k.PlusPlus) (unary s l))) (placed_lawful (λ t. chain_of (e.Concat (place_of t))) (separated at.AfterOperand (is k.PlusPlus) (unary s l)) (separated_lawful at.AfterOperand (is k.PlusPlus) (unary s l) (unary_lawful s l L) refl (apart (λ t. refl) (λ t. refl) refl)) refl) refl (within (λ t. refl) (λ t. refl) refl) (within (λ t. refl) (λ t. refl) refl)

pub equal_to_lawful : (s : List ℕ) (l : Levels) → LevelsAre l → Lawful (equal_to s l)
unfolding cat
equal_to_lawful s l L = made_lawful relations.Equal (behind at.AfterOperand (is k.Equal) (cat s l)) (behind_lawful at.AfterOperand (is k.Equal) (cat s l) (cat_lawful s l L))

pub unequal_to_lawful : (s : List ℕ) (l : Levels) → LevelsAre l → Lawful (unequal_to s l)
unfolding cat
unequal_to_lawful s l L = made_lawful relations.NotEqual (behind at.AfterOperand (is k.NotEqual) (cat s l)) (behind_lawful at.AfterOperand (is k.NotEqual) (cat s l) (cat_lawful s l L))

pub relation_tail_lawful : (s : List ℕ) (l : Levels) → LevelsAre l → Lawful (relation_tail s l)
unfolding relation_tail cat
relation_tail_lawful s l L = alt_lawful (equal_to s l) (alt (unequal_to s l) (empty relations.Alone)) (equal_to_lawful s l L) (alt_lawful (unequal_to s l) (empty relations.Alone) (unequal_to_lawful s l L) (empty_lawful relations.Alone) (apart (λ t. refl) (λ t. refl) refl) refl) (apart (λ t. refl) (λ t. refl) refl) refl

pub rel_lawful : (s : List ℕ) (l : Levels) → LevelsAre l → Lawful (rel s l)
unfolding rel cat relation_tail
rel_lawful s l L = sealed_lawful begins_unary false follows_rel (placed (λ t. relation_of (place_of t)) (seq (cat s l) (relation_tail s l))) (placed_lawful (λ t. relation_of (place_of t)) (seq (cat s l) (relation_tail s l)) (seq_lawful (cat s l) (relation_tail s l) (cat_lawful s l L) (relation_tail_lawful s l L) (apart (λ t. refl) (λ t. refl) refl)) refl) refl (within (λ t. refl) (λ t. refl) refl) (within (λ t. refl) (λ t. refl) refl)

pub conjunct_lawful : (s : List ℕ) (l : Levels) → LevelsAre l → Lawful (conjunct s l)
unfolding conjunct rel
conjunct_lawful s l L = sealed_lawful (is k.AndAnd) false follows_rel (behind at.AfterOperand (is k.AndAnd) (rel s l)) (behind_lawful at.AfterOperand (is k.AndAnd) (rel s l) (rel_lawful s l L)) refl (within (λ t. refl) (λ t. refl) refl) (within (λ t. refl) (λ t. refl) refl)

pub disjunct_lawful : (s : List ℕ) (l : Levels) → LevelsAre l → Lawful (disjunct s l)
unfolding disjunct rel
disjunct_lawful s l L = sealed_lawful (is k.OrOr) false follows_rel (behind at.AfterOperand (is k.OrOr) (rel s l)) (behind_lawful at.AfterOperand (is k.OrOr) (rel s l) (rel_lawful s l L)) refl (within (λ t. refl) (λ t. refl) refl) (within (λ t. refl) (λ t. refl) refl)

pub ands_lawful : (s : List ℕ) (l : Levels) → LevelsAre l → Lawful (ands s l)
unfolding conjunct
ands_lawful s l L = made_lawful logics.Ands (some (conjunct s l)) (some_lawful (conjunct s l) (conjunct_lawful s l L) refl (apart (λ t. refl) (λ t. refl) refl))

pub ors_lawful : (s : List ℕ) (l : Levels) → LevelsAre l → Lawful (ors s l)
unfolding disjunct
ors_lawful s l L = made_lawful logics.Ors (some (disjunct s l)) (some_lawful (disjunct s l) (disjunct_lawful s l L) refl (apart (λ t. refl) (λ t. refl) refl))

pub logic_tail_lawful : (s : List ℕ) (l : Levels) → LevelsAre l → Lawful (logic_tail s l)
unfolding logic_tail conjunct disjunct
logic_tail_lawful s l L = alt_lawful (ands s l) (alt (ors s l) (empty logics.Alone)) (ands_lawful s l L) (alt_lawful (ors s l) (empty logics.Alone) (ors_lawful s l L) (empty_lawful logics.Alone) (apart (λ t. refl) (λ t. refl) refl) refl) (apart (λ t. refl) (λ t. refl) refl) refl

pub logic_lawful : (s : List ℕ) (l : Levels) → LevelsAre l → Lawful (logic s l)
unfolding logic rel logic_tail conjunct disjunct
logic_lawful s l L = sealed_lawful begins_unary false follows_logic (placed (λ t. logic_of (place_of t)) (seq (rel s l) (logic_tail s l))) (placed_lawful (λ t. logic_of (place_of t)) (seq (rel s l) (logic_tail s l)) (seq_lawful (rel s l) (logic_tail s l) (rel_lawful s l L) (logic_tail_lawful s l L) (apart (λ t. refl) (λ t. refl) refl)) refl) refl (within (λ t. refl) (λ t. refl) refl) (within (λ t. refl) (λ t. refl) refl)

pub after_implies_lawful : (r : Reader Expr) → Lawful (as_impl r) → Lawful (after_implies r)
after_implies_lawful r R = R

pub right_after : (l : Levels) → LevelsAre l → AtBelow (λ r. AfterIs follows_impl (after_implies r)) l.impls
right_after l L = at_map (λ r. Lawful (as_impl r)) _ l.impls (λ r R. record { lawful = after_implies_lawful r R; goes_on = within (λ t. refl) (λ t. refl) refl }) L.impls

pub right_lawful : (l : Levels) → LevelsAre l → Lawful (right l)
unfolding right
right_lawful l L = nested_lawful at.AfterOperand (is k.Implies) follows_impl (λ x. x.1) after_implies l.impls (right_after l L)

pub left_lawful : (s : List ℕ) (l : Levels) → LevelsAre l → Lawful (left s l)
unfolding left logic
left_lawful s l L = sealed_lawful (is k.ImpliedBy) false follows_logic (behind at.AfterOperand (is k.ImpliedBy) (logic s l)) (behind_lawful at.AfterOperand (is k.ImpliedBy) (logic s l) (logic_lawful s l L)) refl (within (λ t. refl) (λ t. refl) refl) (within (λ t. refl) (λ t. refl) refl)

pub rights_lawful : (l : Levels) → LevelsAre l → Lawful (rights l)
unfolding right
rights_lawful l L = made_lawful impls.Right (right l) (right_lawful l L)

pub lefts_lawful : (s : List ℕ) (l : Levels) → LevelsAre l → Lawful (lefts s l)
unfolding left
lefts_lawful s l L = made_lawful impls.Lefts (some (left s l)) (some_lawful (left s l) (left_lawful s l L) refl (apart (λ t. refl) (λ t. refl) refl))

pub impl_tail_lawful : (s : List ℕ) (l : Levels) → LevelsAre l → Lawful (impl_tail s l)
unfolding impl_tail right left
impl_tail_lawful s l L = alt_lawful (rights l) (alt (lefts s l) (empty impls.Alone)) (rights_lawful l L) (alt_lawful (lefts s l) (empty impls.Alone) (lefts_lawful s l L) (empty_lawful impls.Alone) (apart (λ t. refl) (λ t. refl) refl) refl) (apart (λ t. refl) (λ t. refl) refl) refl

pub implication_lawful : (s : List ℕ) (l : Levels) → LevelsAre l → Lawful (implication s l)
unfolding implication logic impl_tail right left
implication_lawful s l L = sealed_lawful begins_unary false follows_impl (placed (λ t. implication_of (place_of t)) (seq (logic s l) (impl_tail s l))) (placed_lawful (λ t. implication_of (place_of t)) (seq (logic s l) (impl_tail s l)) (seq_lawful (logic s l) (impl_tail s l) (logic_lawful s l L) (impl_tail_lawful s l L) (apart (λ t. refl) (λ t. refl) refl)) refl) refl (within (λ t. refl) (λ t. refl) refl) (within (λ t. refl) (λ t. refl) refl)

pub equiv_lawful : (s : List ℕ) (l : Levels) → LevelsAre l → Lawful (equiv s l)
unfolding equiv implication
equiv_lawful s l L = sealed_lawful begins_unary false follows_expr (placed (λ t. chain_of (e.Equivalent (place_of t))) (separated at.AfterOperand (is k.Equivalent) (implication s l))) (placed_lawful (λ t. chain_of (e.Equivalent (place_of t))) (separated at.AfterOperand (is k.Equivalent) (implication s l)) (separated_lawful at.AfterOperand (is k.Equivalent) (implication s l) (implication_lawful s l L) refl (apart (λ t. refl) (λ t. refl) refl)) refl) refl (within (λ t. refl) (λ t. refl) refl) (within (λ t. refl) (λ t. refl) refl)

pub after_if_lawful : (r : Reader Expr) → Lawful (as_expr r) → Lawful (after_if r)
after_if_lawful r R = seq_lawful (as_expr r) (seq (behind at.AfterOperand (is k.Then) (as_expr r)) (behind at.AfterOperand (is k.Else) (as_expr r))) R (seq_lawful (behind at.AfterOperand (is k.Then) (as_expr r)) (behind at.AfterOperand (is k.Else) (as_expr r)) (behind_lawful at.AfterOperand (is k.Then) (as_expr r) R) (behind_lawful at.AfterOperand (is k.Else) (as_expr r) R) (apart (λ t. refl) (λ t. refl) refl)) (apart (λ t. refl) (λ t. refl) refl)

pub choice_after : (l : Levels) → LevelsAre l → AtBelow (λ r. AfterIs follows_expr (after_if r)) l.exprs
choice_after l L = at_map (λ r. Lawful (as_expr r)) _ l.exprs (λ r R. record { lawful = after_if_lawful r R; goes_on = within (λ t. refl) (λ t. refl) refl }) L.exprs

pub choice_lawful : (l : Levels) → LevelsAre l → Lawful (choice l)
unfolding choice
choice_lawful l L = nested_lawful at.Operand (is k.If) follows_expr choice_of after_if l.exprs (choice_after l L)

pub expr_lawful : (s : List ℕ) (l : Levels) → LevelsAre l → Lawful (expr s l)
unfolding expr choice equiv
expr_lawful s l L = sealed_lawful begins_expr false follows_expr (alt (choice l) (equiv s l)) (alt_lawful (choice l) (equiv s l) (choice_lawful l L) (equiv_lawful s l L) (apart (λ t. refl) (λ t. refl) refl) refl) refl (within (λ t. refl) (λ t. refl) refl) (within (λ t. refl) (λ t. refl) refl)
