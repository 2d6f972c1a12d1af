-- The rules of expressions with one level more: what was read is read, a token that was too deep is passed, and what has begun ends as a phrase.
use Rattle.bpl_ast.specs.declared.expr.Expr.TheVariants as e
use Rattle.bpl_ast.specs.declared.expr.Expr.{Expr}
use Rattle.bpl_parse.proofs.EachTerminal.{tok, apart}
use Rattle.bpl_parse.proofs.ExprsLaws.{arguments_lawful, arguments_after, group_after, after_index_lawful, suffix_lawful, suffix_after, negation_after, unary_lawful, cat_lawful, relation_tail_lawful, rel_lawful, conjunct_lawful, disjunct_lawful, logic_tail_lawful, logic_lawful, right_after, left_lawful, impl_tail_lawful, implication_lawful, choice_after}
use Rattle.bpl_parse.proofs.LevelsLaws.{LevelsAre}
use Rattle.bpl_parse.proofs.LevelsRises.{LevelsRise, Goes}
use Rattle.bpl_parse.proofs.NamesRises.{name_rises, name_example}
use Rattle.bpl_parse.specs.Exprs.{no_arguments, some_arguments, after_arguments, arguments, literal_of, truth, falsehood, literal, after_group, group, named_of, named, atom, bits_of, bit_range, selected, stored, after_index, indexed, after_bracket, suffix, index_of, post_of, post, after_bang, negation_of, negation, unary, chain_of, cat, relation_of, equal_to, unequal_to, relation_tail, rel, logic_of, conjunct, disjunct, ands, ors, logic_tail, logic, implication_of, after_implies, right, left, rights, lefts, impl_tail, implication, equiv, choice_of, after_if, choice, expr}
use Rattle.bpl_parse.specs.Names.{name}
use Rattle.bpl_parse.specs.Reader.{Reader, place_of, as_expr, as_impl, as_unary, Levels}
use Rattle.bpl_parse.specs.Tests.{is, begins_atom, begins_unary, begins_expr, follows_post, follows_cat, follows_rel, follows_logic, follows_impl, follows_expr}
use Rattle.bpl_parse.specs.declared.parts.ImplicationTail.TheVariants as impls
use Rattle.bpl_parse.specs.declared.parts.LogicTail.TheVariants as logics
use Rattle.bpl_parse.specs.declared.parts.RelationTail.TheVariants as relations
use Rattle.bpl_parse.specs.declared.place.Place.TheVariants as at
use Rattle.bpl_rules.proofs.Choice.{seq_lawful}
use Rattle.bpl_rules.proofs.Forms.{behind_lawful, ended_lawful, some_rises, behind_rises, ended_rises, separated_rises, has_some, has_behind, has_ended, has_separated}
use Rattle.bpl_rules.proofs.Laws.{Lawful}
use Rattle.bpl_rules.proofs.Many.{many_lawful}
use Rattle.bpl_rules.proofs.Nested.{maybe_lawful, rise_map, nested_rises, has_above, maybe_rises}
use Rattle.bpl_rules.proofs.Rises.{Rises, HasExample, one_rises, two_rises, empty_rises, seq_rises, made_rises, placed_rises, alt_rises, many_rises, sealed_rises, has_one, has_seq, has_made, has_placed, has_first, has_second, has_none, has_many, has_sealed}
use Rattle.bpl_rules.proofs.Single.{one_lawful}
use Rattle.bpl_rules.specs.Rules.{one, two, empty, seq, made, placed, alt, maybe, many, some, never, behind, ended, separated}
use Rattle.bpl_tok.specs.declared.token.Terminal.TheVariants as k
use Rattle.std.proofs.Common.{ℕ, false, List, [], ◌∷◌, Some, None, refl}

pub no_arguments_example : HasExample no_arguments
no_arguments_example = has_made (λ t. []) (one at.Operand (is k.RightParen)) (has_one at.Operand (is k.RightParen) (tok k.RightParen) refl)

pub no_arguments_rises : Rises no_arguments no_arguments
no_arguments_rises = made_rises (λ t. []) (one at.Operand (is k.RightParen)) (one at.Operand (is k.RightParen)) (one_rises at.Operand (is k.RightParen))

pub some_arguments_example : (q : Reader Expr) → HasExample (as_expr q) → HasExample (some_arguments q)
some_arguments_example q X = has_ended (separated at.AfterOperand (is k.Comma) (as_expr q)) at.AfterOperand (is k.RightParen) (tok k.RightParen) refl (has_separated at.AfterOperand (is k.Comma) (as_expr q) X)

pub some_arguments_rises : (r q : Reader Expr) → Lawful (as_expr q) → Goes (as_expr r) (as_expr q) → Rises (some_arguments r) (some_arguments q)
some_arguments_rises r q Q G = ended_rises (separated at.AfterOperand (is k.Comma) (as_expr r)) (separated at.AfterOperand (is k.Comma) (as_expr q)) at.AfterOperand (is k.RightParen) (separated_rises at.AfterOperand (is k.Comma) (as_expr r) (as_expr q) G.0 Q G.1 (apart (λ t. refl) (λ t. refl) refl)) (tok k.RightParen) refl

pub after_arguments_example : (q : Reader Expr) → HasExample (after_arguments q)
after_arguments_example q = has_first no_arguments (some_arguments q) no_arguments_example

pub after_arguments_rises : (r q : Reader Expr) → Lawful (as_expr q) → Goes (as_expr r) (as_expr q) → Rises (after_arguments r) (after_arguments q)
after_arguments_rises r q Q G = alt_rises no_arguments no_arguments (some_arguments r) (some_arguments q) no_arguments_rises (some_arguments_rises r q Q G) (λ t. refl)

pub arguments_example : (l m : Levels) → LevelsRise l m → HasExample (arguments m)
unfolding arguments
arguments_example l m R = has_above at.Other (is k.LeftParen) never (λ x. x.1) after_arguments _ _ l.exprs m.exprs R.exprs (tok k.LeftParen) refl (λ q u. after_arguments_example q) (λ r q g. after_arguments_example q)

pub arguments_rises : (l m : Levels) → LevelsRise l m → LevelsAre m → Rises (arguments l) (arguments m)
unfolding arguments
arguments_rises l m R M = nested_rises at.Other (is k.LeftParen) never (λ x. x.1) after_arguments l.exprs m.exprs (rise_map _ _ _ _ (λ r. Lawful (as_expr r)) l.exprs m.exprs (λ q k u. tt) (λ r q Q g. (after_arguments_rises r q Q g, after_arguments_example q)) M.exprs R.exprs) (arguments_after m M)

pub truth_example : HasExample truth
truth_example = has_made (λ t. e.True t.at) (one at.Operand (is k.True)) (has_one at.Operand (is k.True) (tok k.True) refl)

pub truth_rises : Rises truth truth
truth_rises = made_rises (λ t. e.True t.at) (one at.Operand (is k.True)) (one at.Operand (is k.True)) (one_rises at.Operand (is k.True))

pub falsehood_example : HasExample falsehood
falsehood_example = has_made (λ t. e.False t.at) (one at.Operand (is k.False)) (has_one at.Operand (is k.False) (tok k.False) refl)

pub falsehood_rises : Rises falsehood falsehood
falsehood_rises = made_rises (λ t. e.False t.at) (one at.Operand (is k.False)) (one at.Operand (is k.False)) (one_rises at.Operand (is k.False))

pub literal_example : HasExample literal
literal_example = has_made (λ t. literal_of t.at t.kind) (one at.Operand (is k.Literal)) (has_one at.Operand (is k.Literal) (tok k.Literal) refl)

pub literal_rises : Rises literal literal
literal_rises = made_rises (λ t. literal_of t.at t.kind) (one at.Operand (is k.Literal)) (one at.Operand (is k.Literal)) (one_rises at.Operand (is k.Literal))

pub after_group_example : (q : Reader Expr) → HasExample (as_expr q) → HasExample (after_group q)
after_group_example q X = has_ended (as_expr q) at.AfterOperand (is k.RightParen) (tok k.RightParen) refl X

pub after_group_rises : (r q : Reader Expr) → Lawful (as_expr q) → Goes (as_expr r) (as_expr q) → Rises (after_group r) (after_group q)
after_group_rises r q Q G = ended_rises (as_expr r) (as_expr q) at.AfterOperand (is k.RightParen) G.0 (tok k.RightParen) refl

pub group_rises : (l m : Levels) → LevelsRise l m → LevelsAre m → Rises (group l) (group m)
unfolding group
group_rises l m R M = nested_rises at.Operand (is k.LeftParen) never (λ x. x.1) after_group l.exprs m.exprs (rise_map _ _ _ _ (λ r. Lawful (as_expr r)) l.exprs m.exprs (λ q k u. tt) (λ r q Q g. (after_group_rises r q Q g, after_group_example q g.1)) M.exprs R.exprs) (group_after m M)

pub named_example : (s : List ℕ) (l m : Levels) → LevelsRise l m → HasExample (named s m)
unfolding named
named_example s l m R = has_sealed (is k.Ident) false (is k.LeftParen) (made named_of (seq (name s at.Operand) (maybe (arguments m)))) (has_made named_of (seq (name s at.Operand) (maybe (arguments m))) (has_seq (name s at.Operand) (maybe (arguments m)) (name_example s at.Operand) (has_second (made Some (arguments m)) (empty None) (has_none None))))

pub named_rises : (s : List ℕ) (l m : Levels) → LevelsRise l m → LevelsAre m → Rises (named s l) (named s m)
unfolding named arguments
named_rises s l m R M = sealed_rises (is k.Ident) false (is k.LeftParen) (made named_of (seq (name s at.Operand) (maybe (arguments l)))) (made named_of (seq (name s at.Operand) (maybe (arguments m)))) (made_rises named_of (seq (name s at.Operand) (maybe (arguments l))) (seq (name s at.Operand) (maybe (arguments m))) (seq_rises (name s at.Operand) (name s at.Operand) (maybe (arguments l)) (maybe (arguments m)) (name_rises s at.Operand) (maybe_rises (arguments l) (arguments m) (arguments_rises l m R M) (λ t. refl)) (maybe_lawful (arguments m) (arguments_lawful m M) refl) (has_second (made Some (arguments m)) (empty None) (has_none None))))

pub atom_example : (s : List ℕ) (l m : Levels) → LevelsRise l m → HasExample (atom s m)
unfolding atom
atom_example s l m R = has_sealed begins_atom false (is k.LeftParen) (alt truth (alt falsehood (alt literal (alt (group m) (named s m))))) (has_first truth (alt falsehood (alt literal (alt (group m) (named s m)))) truth_example)

pub atom_rises : (s : List ℕ) (l m : Levels) → LevelsRise l m → LevelsAre m → Rises (atom s l) (atom s m)
unfolding atom group named
atom_rises s l m R M = sealed_rises begins_atom false (is k.LeftParen) (alt truth (alt falsehood (alt literal (alt (group l) (named s l))))) (alt truth (alt falsehood (alt literal (alt (group m) (named s m))))) (alt_rises truth truth (alt falsehood (alt literal (alt (group l) (named s l)))) (alt falsehood (alt literal (alt (group m) (named s m)))) truth_rises (alt_rises falsehood falsehood (alt literal (alt (group l) (named s l))) (alt literal (alt (group m) (named s m))) falsehood_rises (alt_rises literal literal (alt (group l) (named s l)) (alt (group m) (named s m)) literal_rises (alt_rises (group l) (group m) (named s l) (named s m) (group_rises l m R M) (named_rises s l m R M) (λ t. refl)) (λ t. refl)) (λ t. refl)) (λ t. refl))

pub bit_range_example : HasExample bit_range
bit_range_example = has_made bits_of (seq (two at.Operand (is k.Number) (is k.Colon)) (ended (one at.Other (is k.Number)) at.Other (is k.RightBracket))) (has_seq (two at.Operand (is k.Number) (is k.Colon)) (ended (one at.Other (is k.Number)) at.Other (is k.RightBracket)) (record { tokens = tok k.Number ∷ tok k.Colon ∷ []; value = (tok k.Number, tok k.Colon); spells = record { alone = refl; first = refl; second = refl } }) (has_ended (one at.Other (is k.Number)) at.Other (is k.RightBracket) (tok k.RightBracket) refl (has_one at.Other (is k.Number) (tok k.Number) refl)))

pub bit_range_rises : Rises bit_range bit_range
bit_range_rises = made_rises bits_of (seq (two at.Operand (is k.Number) (is k.Colon)) (ended (one at.Other (is k.Number)) at.Other (is k.RightBracket))) (seq (two at.Operand (is k.Number) (is k.Colon)) (ended (one at.Other (is k.Number)) at.Other (is k.RightBracket))) (seq_rises (two at.Operand (is k.Number) (is k.Colon)) (two at.Operand (is k.Number) (is k.Colon)) (ended (one at.Other (is k.Number)) at.Other (is k.RightBracket)) (ended (one at.Other (is k.Number)) at.Other (is k.RightBracket)) (two_rises at.Operand (is k.Number) (is k.Colon) (tok k.Colon) refl) (ended_rises (one at.Other (is k.Number)) (one at.Other (is k.Number)) at.Other (is k.RightBracket) (one_rises at.Other (is k.Number)) (tok k.RightBracket) refl) (ended_lawful (one at.Other (is k.Number)) at.Other (is k.RightBracket) (one_lawful at.Other (is k.Number)) (apart (λ t. refl) (λ t. refl) refl)) (has_ended (one at.Other (is k.Number)) at.Other (is k.RightBracket) (tok k.RightBracket) refl (has_one at.Other (is k.Number) (tok k.Number) refl)))

pub selected_example : HasExample selected
selected_example = has_made (λ t. None) (one at.AfterIndex (is k.RightBracket)) (has_one at.AfterIndex (is k.RightBracket) (tok k.RightBracket) refl)

pub selected_rises : Rises selected selected
selected_rises = made_rises (λ t. None) (one at.AfterIndex (is k.RightBracket)) (one at.AfterIndex (is k.RightBracket)) (one_rises at.AfterIndex (is k.RightBracket))

pub stored_example : (q : Reader Expr) → HasExample (as_expr q) → HasExample (stored q)
stored_example q X = has_made Some (behind at.AfterIndex (is k.Assign) (ended (as_expr q) at.AfterOperand (is k.RightBracket))) (has_behind at.AfterIndex (is k.Assign) (tok k.Assign) refl (ended (as_expr q) at.AfterOperand (is k.RightBracket)) (has_ended (as_expr q) at.AfterOperand (is k.RightBracket) (tok k.RightBracket) refl X))

pub stored_rises : (r q : Reader Expr) → Lawful (as_expr q) → Goes (as_expr r) (as_expr q) → Rises (stored r) (stored q)
stored_rises r q Q G = made_rises Some (behind at.AfterIndex (is k.Assign) (ended (as_expr r) at.AfterOperand (is k.RightBracket))) (behind at.AfterIndex (is k.Assign) (ended (as_expr q) at.AfterOperand (is k.RightBracket))) (behind_rises at.AfterIndex (is k.Assign) (ended (as_expr r) at.AfterOperand (is k.RightBracket)) (ended (as_expr q) at.AfterOperand (is k.RightBracket)) (ended_rises (as_expr r) (as_expr q) at.AfterOperand (is k.RightBracket) G.0 (tok k.RightBracket) refl) (ended_lawful (as_expr q) at.AfterOperand (is k.RightBracket) Q (apart (λ t. refl) (λ t. refl) refl)) (has_ended (as_expr q) at.AfterOperand (is k.RightBracket) (tok k.RightBracket) refl G.1))

pub after_index_example : (q : Reader Expr) → HasExample (after_index q)
after_index_example q = has_first selected (stored q) selected_example

pub after_index_rises : (r q : Reader Expr) → Lawful (as_expr q) → Goes (as_expr r) (as_expr q) → Rises (after_index r) (after_index q)
after_index_rises r q Q G = alt_rises selected selected (stored r) (stored q) selected_rises (stored_rises r q Q G) (λ t. refl)

pub indexed_example : (q : Reader Expr) → HasExample (as_expr q) → HasExample (indexed q)
indexed_example q X = has_made index_of (seq (as_expr q) (after_index q)) (has_seq (as_expr q) (after_index q) X (after_index_example q))

pub indexed_rises : (r q : Reader Expr) → Lawful (as_expr q) → Goes (as_expr r) (as_expr q) → Rises (indexed r) (indexed q)
indexed_rises r q Q G = made_rises index_of (seq (as_expr r) (after_index r)) (seq (as_expr q) (after_index q)) (seq_rises (as_expr r) (as_expr q) (after_index r) (after_index q) G.0 (after_index_rises r q Q G) (after_index_lawful q Q) (after_index_example q))

pub after_bracket_example : (q : Reader Expr) → HasExample (after_bracket q)
after_bracket_example q = has_first bit_range (indexed q) bit_range_example

pub after_bracket_rises : (r q : Reader Expr) → Lawful (as_expr q) → Goes (as_expr r) (as_expr q) → Rises (after_bracket r) (after_bracket q)
after_bracket_rises r q Q G = alt_rises bit_range bit_range (indexed r) (indexed q) bit_range_rises (indexed_rises r q Q G) (λ t. refl)

pub suffix_example : (l m : Levels) → LevelsRise l m → HasExample (suffix m)
unfolding suffix
suffix_example l m R = has_above at.AfterOperand (is k.LeftBracket) never (λ x. x.1) after_bracket _ _ l.exprs m.exprs R.exprs (tok k.LeftBracket) refl (λ q u. after_bracket_example q) (λ r q g. after_bracket_example q)

pub suffix_rises : (l m : Levels) → LevelsRise l m → LevelsAre m → Rises (suffix l) (suffix m)
unfolding suffix
suffix_rises l m R M = nested_rises at.AfterOperand (is k.LeftBracket) never (λ x. x.1) after_bracket l.exprs m.exprs (rise_map _ _ _ _ (λ r. Lawful (as_expr r)) l.exprs m.exprs (λ q k u. tt) (λ r q Q g. (after_bracket_rises r q Q g, after_bracket_example q)) M.exprs R.exprs) (suffix_after m M)

pub post_example : (s : List ℕ) (l m : Levels) → LevelsRise l m → HasExample (post s m)
unfolding post
post_example s l m R = has_sealed begins_atom false follows_post (placed (λ t. post_of (place_of t)) (seq (atom s m) (many (suffix m)))) (has_placed (λ t. post_of (place_of t)) (seq (atom s m) (many (suffix m))) (has_seq (atom s m) (many (suffix m)) (atom_example s l m R) (has_many (suffix m))))

pub post_rises : (s : List ℕ) (l m : Levels) → LevelsRise l m → LevelsAre m → Rises (post s l) (post s m)
unfolding post atom suffix
post_rises s l m R M = sealed_rises begins_atom false follows_post (placed (λ t. post_of (place_of t)) (seq (atom s l) (many (suffix l)))) (placed (λ t. post_of (place_of t)) (seq (atom s m) (many (suffix m)))) (placed_rises (λ t. post_of (place_of t)) (seq (atom s l) (many (suffix l))) (seq (atom s m) (many (suffix m))) (seq_rises (atom s l) (atom s m) (many (suffix l)) (many (suffix m)) (atom_rises s l m R M) (many_rises (suffix l) (suffix m) (suffix_rises l m R M) (suffix_lawful m M) (λ t. refl)) (many_lawful (suffix m) (suffix_lawful m M) refl (apart (λ t. refl) (λ t. refl) refl)) (has_many (suffix m))))

pub after_bang_example : (q : Reader Expr) → HasExample (as_unary q) → HasExample (after_bang q)
after_bang_example q X = X

pub after_bang_rises : (r q : Reader Expr) → Lawful (as_unary q) → Goes (as_unary r) (as_unary q) → Rises (after_bang r) (after_bang q)
after_bang_rises r q Q G = G.0

pub negation_rises : (l m : Levels) → LevelsRise l m → LevelsAre m → Rises (negation l) (negation m)
unfolding negation
negation_rises l m R M = nested_rises at.Operand (is k.Bang) follows_post negation_of after_bang l.unaries m.unaries (rise_map _ _ _ _ (λ r. Lawful (as_unary r)) l.unaries m.unaries (λ q k u. tt) (λ r q Q g. g) M.unaries R.unaries) (negation_after m M)

pub unary_example : (s : List ℕ) (l m : Levels) → LevelsRise l m → HasExample (unary s m)
unfolding unary
unary_example s l m R = has_sealed begins_unary false follows_post (alt (negation m) (post s m)) (has_second (negation m) (post s m) (post_example s l m R))

pub unary_rises : (s : List ℕ) (l m : Levels) → LevelsRise l m → LevelsAre m → Rises (unary s l) (unary s m)
unfolding unary negation post
unary_rises s l m R M = sealed_rises begins_unary false follows_post (alt (negation l) (post s l)) (alt (negation m) (post s m)) (alt_rises (negation l) (negation m) (post s l) (post s m) (negation_rises l m R M) (post_rises s l m R M) (λ t. refl))

pub cat_example : (s : List ℕ) (l m : Levels) → LevelsRise l m → HasExample (cat s m)
unfolding cat
cat_example s l m R = has_sealed begins_unary false follows_cat (placed (λ t. chain_of (e.Concat (place_of t))) (separated at.AfterOperand (is k.PlusPlus) (unary s m))) (has_placed (λ t. chain_of (e.Concat (place_of t))) (separated at.AfterOperand (is k.PlusPlus) (unary s m)) (has_separated at.AfterOperand (is k.PlusPlus) (unary s m) (unary_example s l m R)))

pub cat_rises : (s : List ℕ) (l m : Levels) → LevelsRise l m → LevelsAre m → Rises (cat s l) (cat s m)
unfolding cat unary
cat_rises s l m R M = sealed_rises begins_unary false follows_cat (placed (λ t. chain_of (e.Concat (place_of t))) (separated at.AfterOperand (is k.PlusPlus) (unary s l))) (placed (λ t. chain_of (e.Concat (place_of t))) (separated at.AfterOperand (is k.PlusPlus) (unary s m))) (placed_rises (λ t. chain_of (e.Concat (place_of t))) (separated at.AfterOperand (is k.PlusPlus) (unary s l)) (separated at.AfterOperand (is k.PlusPlus) (unary s m)) (separated_rises at.AfterOperand (is k.PlusPlus) (unary s l) (unary s m) (unary_rises s l m R M) (unary_lawful s m M) (unary_example s l m R) (apart (λ t. refl) (λ t. refl) refl)))

pub equal_to_example : (s : List ℕ) (l m : Levels) → LevelsRise l m → HasExample (equal_to s m)
equal_to_example s l m R = has_made relations.Equal (behind at.AfterOperand (is k.Equal) (cat s m)) (has_behind at.AfterOperand (is k.Equal) (tok k.Equal) refl (cat s m) (cat_example s l m R))

pub equal_to_rises : (s : List ℕ) (l m : Levels) → LevelsRise l m → LevelsAre m → Rises (equal_to s l) (equal_to s m)
unfolding cat
equal_to_rises s l m R M = made_rises relations.Equal (behind at.AfterOperand (is k.Equal) (cat s l)) (behind at.AfterOperand (is k.Equal) (cat s m)) (behind_rises at.AfterOperand (is k.Equal) (cat s l) (cat s m) (cat_rises s l m R M) (cat_lawful s m M) (cat_example s l m R))

pub unequal_to_example : (s : List ℕ) (l m : Levels) → LevelsRise l m → HasExample (unequal_to s m)
unequal_to_example s l m R = has_made relations.NotEqual (behind at.AfterOperand (is k.NotEqual) (cat s m)) (has_behind at.AfterOperand (is k.NotEqual) (tok k.NotEqual) refl (cat s m) (cat_example s l m R))

pub unequal_to_rises : (s : List ℕ) (l m : Levels) → LevelsRise l m → LevelsAre m → Rises (unequal_to s l) (unequal_to s m)
unfolding cat
unequal_to_rises s l m R M = made_rises relations.NotEqual (behind at.AfterOperand (is k.NotEqual) (cat s l)) (behind at.AfterOperand (is k.NotEqual) (cat s m)) (behind_rises at.AfterOperand (is k.NotEqual) (cat s l) (cat s m) (cat_rises s l m R M) (cat_lawful s m M) (cat_example s l m R))

pub relation_tail_example : (s : List ℕ) (l m : Levels) → LevelsRise l m → HasExample (relation_tail s m)
unfolding relation_tail
relation_tail_example s l m R = has_second (equal_to s m) (alt (unequal_to s m) (empty relations.Alone)) (has_second (unequal_to s m) (empty relations.Alone) (has_none relations.Alone))

pub relation_tail_rises : (s : List ℕ) (l m : Levels) → LevelsRise l m → LevelsAre m → Rises (relation_tail s l) (relation_tail s m)
unfolding relation_tail cat
relation_tail_rises s l m R M = alt_rises (equal_to s l) (equal_to s m) (alt (unequal_to s l) (empty relations.Alone)) (alt (unequal_to s m) (empty relations.Alone)) (equal_to_rises s l m R M) (alt_rises (unequal_to s l) (unequal_to s m) (empty relations.Alone) (empty relations.Alone) (unequal_to_rises s l m R M) (empty_rises relations.Alone) (λ t. refl)) (λ t. refl)

pub rel_example : (s : List ℕ) (l m : Levels) → LevelsRise l m → HasExample (rel s m)
unfolding rel
rel_example s l m R = has_sealed begins_unary false follows_rel (placed (λ t. relation_of (place_of t)) (seq (cat s m) (relation_tail s m))) (has_placed (λ t. relation_of (place_of t)) (seq (cat s m) (relation_tail s m)) (has_seq (cat s m) (relation_tail s m) (cat_example s l m R) (relation_tail_example s l m R)))

pub rel_rises : (s : List ℕ) (l m : Levels) → LevelsRise l m → LevelsAre m → Rises (rel s l) (rel s m)
unfolding rel cat relation_tail
rel_rises s l m R M = sealed_rises begins_unary false follows_rel (placed (λ t. relation_of (place_of t)) (seq (cat s l) (relation_tail s l))) (placed (λ t. relation_of (place_of t)) (seq (cat s m) (relation_tail s m))) (placed_rises (λ t. relation_of (place_of t)) (seq (cat s l) (relation_tail s l)) (seq (cat s m) (relation_tail s m)) (seq_rises (cat s l) (cat s m) (relation_tail s l) (relation_tail s m) (cat_rises s l m R M) (relation_tail_rises s l m R M) (relation_tail_lawful s m M) (relation_tail_example s l m R)))

pub conjunct_example : (s : List ℕ) (l m : Levels) → LevelsRise l m → HasExample (conjunct s m)
unfolding conjunct
conjunct_example s l m R = has_sealed (is k.AndAnd) false follows_rel (behind at.AfterOperand (is k.AndAnd) (rel s m)) (has_behind at.AfterOperand (is k.AndAnd) (tok k.AndAnd) refl (rel s m) (rel_example s l m R))

pub conjunct_rises : (s : List ℕ) (l m : Levels) → LevelsRise l m → LevelsAre m → Rises (conjunct s l) (conjunct s m)
unfolding conjunct rel
conjunct_rises s l m R M = sealed_rises (is k.AndAnd) false follows_rel (behind at.AfterOperand (is k.AndAnd) (rel s l)) (behind at.AfterOperand (is k.AndAnd) (rel s m)) (behind_rises at.AfterOperand (is k.AndAnd) (rel s l) (rel s m) (rel_rises s l m R M) (rel_lawful s m M) (rel_example s l m R))

pub disjunct_example : (s : List ℕ) (l m : Levels) → LevelsRise l m → HasExample (disjunct s m)
unfolding disjunct
disjunct_example s l m R = has_sealed (is k.OrOr) false follows_rel (behind at.AfterOperand (is k.OrOr) (rel s m)) (has_behind at.AfterOperand (is k.OrOr) (tok k.OrOr) refl (rel s m) (rel_example s l m R))

pub disjunct_rises : (s : List ℕ) (l m : Levels) → LevelsRise l m → LevelsAre m → Rises (disjunct s l) (disjunct s m)
unfolding disjunct rel
disjunct_rises s l m R M = sealed_rises (is k.OrOr) false follows_rel (behind at.AfterOperand (is k.OrOr) (rel s l)) (behind at.AfterOperand (is k.OrOr) (rel s m)) (behind_rises at.AfterOperand (is k.OrOr) (rel s l) (rel s m) (rel_rises s l m R M) (rel_lawful s m M) (rel_example s l m R))

pub ands_example : (s : List ℕ) (l m : Levels) → LevelsRise l m → HasExample (ands s m)
ands_example s l m R = has_made logics.Ands (some (conjunct s m)) (has_some (conjunct s m) (conjunct_example s l m R))

pub ands_rises : (s : List ℕ) (l m : Levels) → LevelsRise l m → LevelsAre m → Rises (ands s l) (ands s m)
unfolding conjunct
ands_rises s l m R M = made_rises logics.Ands (some (conjunct s l)) (some (conjunct s m)) (some_rises (conjunct s l) (conjunct s m) (conjunct_rises s l m R M) (conjunct_lawful s m M) refl (apart (λ t. refl) (λ t. refl) refl) (λ t. refl))

pub ors_example : (s : List ℕ) (l m : Levels) → LevelsRise l m → HasExample (ors s m)
ors_example s l m R = has_made logics.Ors (some (disjunct s m)) (has_some (disjunct s m) (disjunct_example s l m R))

pub ors_rises : (s : List ℕ) (l m : Levels) → LevelsRise l m → LevelsAre m → Rises (ors s l) (ors s m)
unfolding disjunct
ors_rises s l m R M = made_rises logics.Ors (some (disjunct s l)) (some (disjunct s m)) (some_rises (disjunct s l) (disjunct s m) (disjunct_rises s l m R M) (disjunct_lawful s m M) refl (apart (λ t. refl) (λ t. refl) refl) (λ t. refl))

pub logic_tail_example : (s : List ℕ) (l m : Levels) → LevelsRise l m → HasExample (logic_tail s m)
unfolding logic_tail
logic_tail_example s l m R = has_second (ands s m) (alt (ors s m) (empty logics.Alone)) (has_second (ors s m) (empty logics.Alone) (has_none logics.Alone))

pub logic_tail_rises : (s : List ℕ) (l m : Levels) → LevelsRise l m → LevelsAre m → Rises (logic_tail s l) (logic_tail s m)
unfolding logic_tail conjunct disjunct
logic_tail_rises s l m R M = alt_rises (ands s l) (ands s m) (alt (ors s l) (empty logics.Alone)) (alt (ors s m) (empty logics.Alone)) (ands_rises s l m R M) (alt_rises (ors s l) (ors s m) (empty logics.Alone) (empty logics.Alone) (ors_rises s l m R M) (empty_rises logics.Alone) (λ t. refl)) (λ t. refl)

pub logic_example : (s : List ℕ) (l m : Levels) → LevelsRise l m → HasExample (logic s m)
unfolding logic
logic_example s l m R = has_sealed begins_unary false follows_logic (placed (λ t. logic_of (place_of t)) (seq (rel s m) (logic_tail s m))) (has_placed (λ t. logic_of (place_of t)) (seq (rel s m) (logic_tail s m)) (has_seq (rel s m) (logic_tail s m) (rel_example s l m R) (logic_tail_example s l m R)))

pub logic_rises : (s : List ℕ) (l m : Levels) → LevelsRise l m → LevelsAre m → Rises (logic s l) (logic s m)
unfolding logic rel logic_tail conjunct disjunct
logic_rises s l m R M = sealed_rises begins_unary false follows_logic (placed (λ t. logic_of (place_of t)) (seq (rel s l) (logic_tail s l))) (placed (λ t. logic_of (place_of t)) (seq (rel s m) (logic_tail s m))) (placed_rises (λ t. logic_of (place_of t)) (seq (rel s l) (logic_tail s l)) (seq (rel s m) (logic_tail s m)) (seq_rises (rel s l) (rel s m) (logic_tail s l) (logic_tail s m) (rel_rises s l m R M) (logic_tail_rises s l m R M) (logic_tail_lawful s m M) (logic_tail_example s l m R)))

pub after_implies_example : (q : Reader Expr) → HasExample (as_impl q) → HasExample (after_implies q)
after_implies_example q X = X

pub after_implies_rises : (r q : Reader Expr) → Lawful (as_impl q) → Goes (as_impl r) (as_impl q) → Rises (after_implies r) (after_implies q)
after_implies_rises r q Q G = G.0

pub right_rises : (l m : Levels) → LevelsRise l m → LevelsAre m → Rises (right l) (right m)
unfolding right
right_rises l m R M = nested_rises at.AfterOperand (is k.Implies) follows_impl (λ x. x.1) after_implies l.impls m.impls (rise_map _ _ _ _ (λ r. Lawful (as_impl r)) l.impls m.impls (λ q k u. tt) (λ r q Q g. g) M.impls R.impls) (right_after m M)

pub left_example : (s : List ℕ) (l m : Levels) → LevelsRise l m → HasExample (left s m)
unfolding left
left_example s l m R = has_sealed (is k.ImpliedBy) false follows_logic (behind at.AfterOperand (is k.ImpliedBy) (logic s m)) (has_behind at.AfterOperand (is k.ImpliedBy) (tok k.ImpliedBy) refl (logic s m) (logic_example s l m R))

pub left_rises : (s : List ℕ) (l m : Levels) → LevelsRise l m → LevelsAre m → Rises (left s l) (left s m)
unfolding left logic
left_rises s l m R M = sealed_rises (is k.ImpliedBy) false follows_logic (behind at.AfterOperand (is k.ImpliedBy) (logic s l)) (behind at.AfterOperand (is k.ImpliedBy) (logic s m)) (behind_rises at.AfterOperand (is k.ImpliedBy) (logic s l) (logic s m) (logic_rises s l m R M) (logic_lawful s m M) (logic_example s l m R))

pub rights_rises : (l m : Levels) → LevelsRise l m → LevelsAre m → Rises (rights l) (rights m)
unfolding right
rights_rises l m R M = made_rises impls.Right (right l) (right m) (right_rises l m R M)

pub lefts_example : (s : List ℕ) (l m : Levels) → LevelsRise l m → HasExample (lefts s m)
lefts_example s l m R = has_made impls.Lefts (some (left s m)) (has_some (left s m) (left_example s l m R))

pub lefts_rises : (s : List ℕ) (l m : Levels) → LevelsRise l m → LevelsAre m → Rises (lefts s l) (lefts s m)
unfolding left
lefts_rises s l m R M = made_rises impls.Lefts (some (left s l)) (some (left s m)) (some_rises (left s l) (left s m) (left_rises s l m R M) (left_lawful s m M) refl (apart (λ t. refl) (λ t. refl) refl) (λ t. refl))

pub impl_tail_example : (s : List ℕ) (l m : Levels) → LevelsRise l m → HasExample (impl_tail s m)
unfolding impl_tail
impl_tail_example s l m R = has_second (rights m) (alt (lefts s m) (empty impls.Alone)) (has_second (lefts s m) (empty impls.Alone) (has_none impls.Alone))

pub impl_tail_rises : (s : List ℕ) (l m : Levels) → LevelsRise l m → LevelsAre m → Rises (impl_tail s l) (impl_tail s m)
unfolding impl_tail right left
impl_tail_rises s l m R M = alt_rises (rights l) (rights m) (alt (lefts s l) (empty impls.Alone)) (alt (lefts s m) (empty impls.Alone)) (rights_rises l m R M) (alt_rises (lefts s l) (lefts s m) (empty impls.Alone) (empty impls.Alone) (lefts_rises s l m R M) (empty_rises impls.Alone) (λ t. refl)) (λ t. refl)

pub implication_example : (s : List ℕ) (l m : Levels) → LevelsRise l m → HasExample (implication s m)
unfolding implication
implication_example s l m R = has_sealed begins_unary false follows_impl (placed (λ t. implication_of (place_of t)) (seq (logic s m) (impl_tail s m))) (has_placed (λ t. implication_of (place_of t)) (seq (logic s m) (impl_tail s m)) (has_seq (logic s m) (impl_tail s m) (logic_example s l m R) (impl_tail_example s l m R)))

pub implication_rises : (s : List ℕ) (l m : Levels) → LevelsRise l m → LevelsAre m → Rises (implication s l) (implication s m)
unfolding implication logic impl_tail right left
implication_rises s l m R M = sealed_rises begins_unary false follows_impl (placed (λ t. implication_of (place_of t)) (seq (logic s l) (impl_tail s l))) (placed (λ t. implication_of (place_of t)) (seq (logic s m) (impl_tail s m))) (placed_rises (λ t. implication_of (place_of t)) (seq (logic s l) (impl_tail s l)) (seq (logic s m) (impl_tail s m)) (seq_rises (logic s l) (logic s m) (impl_tail s l) (impl_tail s m) (logic_rises s l m R M) (impl_tail_rises s l m R M) (impl_tail_lawful s m M) (impl_tail_example s l m R)))

pub equiv_example : (s : List ℕ) (l m : Levels) → LevelsRise l m → HasExample (equiv s m)
unfolding equiv
equiv_example s l m R = has_sealed begins_unary false follows_expr (placed (λ t. chain_of (e.Equivalent (place_of t))) (separated at.AfterOperand (is k.Equivalent) (implication s m))) (has_placed (λ t. chain_of (e.Equivalent (place_of t))) (separated at.AfterOperand (is k.Equivalent) (implication s m)) (has_separated at.AfterOperand (is k.Equivalent) (implication s m) (implication_example s l m R)))

pub equiv_rises : (s : List ℕ) (l m : Levels) → LevelsRise l m → LevelsAre m → Rises (equiv s l) (equiv s m)
unfolding equiv implication
equiv_rises s l m R M = sealed_rises begins_unary false follows_expr (placed (λ t. chain_of (e.Equivalent (place_of t))) (separated at.AfterOperand (is k.Equivalent) (implication s l))) (placed (λ t. chain_of (e.Equivalent (place_of t))) (separated at.AfterOperand (is k.Equivalent) (implication s m))) (placed_rises (λ t. chain_of (e.Equivalent (place_of t))) (separated at.AfterOperand (is k.Equivalent) (implication s l)) (separated at.AfterOperand (is k.Equivalent) (implication s m)) (separated_rises at.AfterOperand (is k.Equivalent) (implication s l) (implication s m) (implication_rises s l m R M) (implication_lawful s m M) (implication_example s l m R) (apart (λ t. refl) (λ t. refl) refl)))

pub after_if_example : (q : Reader Expr) → HasExample (as_expr q) → HasExample (after_if q)
after_if_example q X = has_seq (as_expr q) (seq (behind at.AfterOperand (is k.Then) (as_expr q)) (behind at.AfterOperand (is k.Else) (as_expr q))) X (has_seq (behind at.AfterOperand (is k.Then) (as_expr q)) (behind at.AfterOperand (is k.Else) (as_expr q)) (has_behind at.AfterOperand (is k.Then) (tok k.Then) refl (as_expr q) X) (has_behind at.AfterOperand (is k.Else) (tok k.Else) refl (as_expr q) X))

pub after_if_rises : (r q : Reader Expr) → Lawful (as_expr q) → Goes (as_expr r) (as_expr q) → Rises (after_if r) (after_if q)
after_if_rises r q Q G = seq_rises (as_expr r) (as_expr q) (seq (behind at.AfterOperand (is k.Then) (as_expr r)) (behind at.AfterOperand (is k.Else) (as_expr r))) (seq (behind at.AfterOperand (is k.Then) (as_expr q)) (behind at.AfterOperand (is k.Else) (as_expr q))) G.0 (seq_rises (behind at.AfterOperand (is k.Then) (as_expr r)) (behind at.AfterOperand (is k.Then) (as_expr q)) (behind at.AfterOperand (is k.Else) (as_expr r)) (behind at.AfterOperand (is k.Else) (as_expr q)) (behind_rises at.AfterOperand (is k.Then) (as_expr r) (as_expr q) G.0 Q G.1) (behind_rises at.AfterOperand (is k.Else) (as_expr r) (as_expr q) G.0 Q G.1) (behind_lawful at.AfterOperand (is k.Else) (as_expr q) Q) (has_behind at.AfterOperand (is k.Else) (tok k.Else) refl (as_expr q) G.1)) (seq_lawful (behind at.AfterOperand (is k.Then) (as_expr q)) (behind at.AfterOperand (is k.Else) (as_expr q)) (behind_lawful at.AfterOperand (is k.Then) (as_expr q) Q) (behind_lawful at.AfterOperand (is k.Else) (as_expr q) Q) (apart (λ t. refl) (λ t. refl) refl)) (has_seq (behind at.AfterOperand (is k.Then) (as_expr q)) (behind at.AfterOperand (is k.Else) (as_expr q)) (has_behind at.AfterOperand (is k.Then) (tok k.Then) refl (as_expr q) G.1) (has_behind at.AfterOperand (is k.Else) (tok k.Else) refl (as_expr q) G.1))

pub choice_rises : (l m : Levels) → LevelsRise l m → LevelsAre m → Rises (choice l) (choice m)
unfolding choice
choice_rises l m R M = nested_rises at.Operand (is k.If) follows_expr choice_of after_if l.exprs m.exprs (rise_map _ _ _ _ (λ r. Lawful (as_expr r)) l.exprs m.exprs (λ q k u. tt) (λ r q Q g. (after_if_rises r q Q g, after_if_example q g.1)) M.exprs R.exprs) (choice_after m M)

pub expr_example : (s : List ℕ) (l m : Levels) → LevelsRise l m → HasExample (expr s m)
unfolding expr
expr_example s l m R = has_sealed begins_expr false follows_expr (alt (choice m) (equiv s m)) (has_second (choice m) (equiv s m) (equiv_example s l m R))

pub expr_rises : (s : List ℕ) (l m : Levels) → LevelsRise l m → LevelsAre m → Rises (expr s l) (expr s m)
unfolding expr choice equiv
expr_rises s l m R M = sealed_rises begins_expr false follows_expr (alt (choice l) (equiv s l)) (alt (choice m) (equiv s m)) (alt_rises (choice l) (choice m) (equiv s l) (equiv s m) (choice_rises l m R M) (equiv_rises s l m R M) (λ t. refl))
