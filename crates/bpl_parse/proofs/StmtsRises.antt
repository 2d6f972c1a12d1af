-- The rules of statements with one level more: what was read is read, a token that was too deep is passed, and what has begun ends as a phrase.
use Rattle.bpl_ast.specs.declared.expr.Expr.{Expr}
use Rattle.bpl_ast.specs.declared.stmt.Else.TheVariants as others
use Rattle.bpl_ast.specs.declared.stmt.Guard.TheVariants as guards
use Rattle.bpl_ast.specs.declared.stmt.Stmt.{Stmt}
use Rattle.bpl_parse.proofs.EachTerminal.{tok, apart}
use Rattle.bpl_parse.proofs.ExprsLaws.{arguments_lawful, expr_lawful}
use Rattle.bpl_parse.proofs.ExprsRises.{arguments_rises, arguments_example, expr_rises, expr_example}
use Rattle.bpl_parse.proofs.LevelsLaws.{LevelsAre}
use Rattle.bpl_parse.proofs.LevelsRises.{LevelsRise, Goes}
use Rattle.bpl_parse.proofs.NamesLaws.{name_lawful, names_lawful, attributes_lawful}
use Rattle.bpl_parse.proofs.NamesRises.{name_rises, name_example, names_rises, names_example, attributes_rises, attributes_example}
use Rattle.bpl_parse.proofs.StmtsLaws.{target_index_lawful, target_index_after, next_target_lawful, values_lawful, named_rest_lawful, condition_lawful, listing_lawful, next_out_lawful, called_rest_lawful, guard_lawful, block_lawful, block_after, else_if_after, else_end_lawful, else_part_lawful, if_rest_lawful, invariant_lawful, stmt_lawful}
use Rattle.bpl_parse.specs.Exprs.{arguments, expr}
use Rattle.bpl_parse.specs.Names.{name, names, attributes}
use Rattle.bpl_parse.specs.Reader.{Reader, place_of, as_expr, as_stmts, as_if_rest, Levels}
use Rattle.bpl_parse.specs.Stmts.{after_target, target_index, target_of, next_target, values, assignment_of, assignment, label_colon, named_stmt_of, named_rest, named_stmt, condition, listing, assert_of, assertion, assume_of, assumption_stmt, havoc_of, havoc, goto_of, jump, return_of, return_stmt, break_of, break_stmt, call_alone, next_out, outs_of, call_with_outs, called_rest, call_of, call_stmt, simple, any_guard, condition_guard, guard, after_brace, block, if_of, after_else_if, else_if, else_end, else_part, if_rest_of, if_rest, if_stmt_of, if_stmt, freedom, invariant_of, invariant, while_of, while_stmt, stmt, statements}
use Rattle.bpl_parse.specs.Tests.{is, begins_assignment, begins_simple, begins_stmt, begins_invariant, begins_if_rest, follows_stmts}
use Rattle.bpl_parse.specs.declared.parts.CalledRest.TheVariants as calls
use Rattle.bpl_parse.specs.declared.parts.IfRest.{IfRest}
use Rattle.bpl_parse.specs.declared.parts.NamedRest.TheVariants as rests
use Rattle.bpl_parse.specs.declared.place.Place.TheVariants as at
use Rattle.bpl_rules.proofs.Choice.{seq_lawful, made_lawful}
use Rattle.bpl_rules.proofs.Forms.{behind_lawful, ended_lawful, behind_rises, ended_rises, separated_rises, has_behind, has_ended, has_separated}
use Rattle.bpl_rules.proofs.Laws.{Lawful}
use Rattle.bpl_rules.proofs.Many.{many_lawful}
use Rattle.bpl_rules.proofs.Nested.{maybe_lawful, rise_map, nested_rises, has_above, maybe_rises}
use Rattle.bpl_rules.proofs.Rises.{Rises, HasExample, one_rises, seq_rises, made_rises, placed_rises, alt_rises, many_rises, sealed_rises, has_one, has_seq, has_made, has_placed, has_first, has_second, has_none, has_many, has_sealed}
use Rattle.bpl_rules.specs.Rules.{one, empty, seq, made, placed, alt, maybe, many, never, behind, ended, separated}
use Rattle.bpl_tok.specs.declared.token.Terminal.TheVariants as k
use Rattle.std.proofs.Common.{is_some, ℕ, true, false, List, Some, None, refl}

pub after_target_example : (q : Reader Expr) → HasExample (as_expr q) → HasExample (after_target q)
after_target_example q X = has_ended (as_expr q) at.AfterIndex (is k.RightBracket) (tok k.RightBracket) refl X

pub after_target_rises : (r q : Reader Expr) → Lawful (as_expr q) → Goes (as_expr r) (as_expr q) → Rises (after_target r) (after_target q)
after_target_rises r q Q G = ended_rises (as_expr r) (as_expr q) at.AfterIndex (is k.RightBracket) G.0 (tok k.RightBracket) refl

pub target_index_rises : (l m : Levels) → LevelsRise l m → LevelsAre m → Rises (target_index l) (target_index m)
unfolding target_index
target_index_rises l m R M = nested_rises at.Other (is k.LeftBracket) never (λ x. x.1) after_target l.exprs m.exprs (rise_map _ _ _ _ (λ r. Lawful (as_expr r)) l.exprs m.exprs (λ q k u. tt) (λ r q Q g. (after_target_rises r q Q g, after_target_example q g.1)) M.exprs R.exprs) (target_index_after m M)

pub next_target_example : (s : List ℕ) (l m : Levels) → LevelsRise l m → HasExample (next_target s m)
unfolding next_target
next_target_example s l m R = has_sealed (is k.Comma) false (is k.LeftBracket) (behind at.Other (is k.Comma) (made target_of (seq (name s at.Other) (maybe (target_index m))))) (has_behind at.Other (is k.Comma) (tok k.Comma) refl (made target_of (seq (name s at.Other) (maybe (target_index m)))) (has_made target_of (seq (name s at.Other) (maybe (target_index m))) (has_seq (name s at.Other) (maybe (target_index m)) (name_example s at.Other) (has_second (made Some (target_index m)) (empty None) (has_none None)))))

pub next_target_rises : (s : List ℕ) (l m : Levels) → LevelsRise l m → LevelsAre m → Rises (next_target s l) (next_target s m)
unfolding next_target target_index
next_target_rises s l m R M = sealed_rises (is k.Comma) false (is k.LeftBracket) (behind at.Other (is k.Comma) (made target_of (seq (name s at.Other) (maybe (target_index l))))) (behind at.Other (is k.Comma) (made target_of (seq (name s at.Other) (maybe (target_index m))))) (behind_rises at.Other (is k.Comma) (made target_of (seq (name s at.Other) (maybe (target_index l)))) (made target_of (seq (name s at.Other) (maybe (target_index m)))) (made_rises target_of (seq (name s at.Other) (maybe (target_index l))) (seq (name s at.Other) (maybe (target_index m))) (seq_rises (name s at.Other) (name s at.Other) (maybe (target_index l)) (maybe (target_index m)) (name_rises s at.Other) (maybe_rises (target_index l) (target_index m) (target_index_rises l m R M) (λ t. refl)) (maybe_lawful (target_index m) (target_index_lawful m M) refl) (has_second (made Some (target_index m)) (empty None) (has_none None)))) (made_lawful target_of (seq (name s at.Other) (maybe (target_index m))) (seq_lawful (name s at.Other) (maybe (target_index m)) (name_lawful s at.Other) (maybe_lawful (target_index m) (target_index_lawful m M) refl) (apart (λ t. refl) (λ t. refl) refl))) (has_made target_of (seq (name s at.Other) (maybe (target_index m))) (has_seq (name s at.Other) (maybe (target_index m)) (name_example s at.Other) (has_second (made Some (target_index m)) (empty None) (has_none None)))))

pub values_example : (s : List ℕ) (l m : Levels) → LevelsRise l m → HasExample (values s m)
unfolding values
values_example s l m R = has_ended (separated at.AfterOperand (is k.Comma) (expr s m)) at.AfterOperand (is k.Semicolon) (tok k.Semicolon) refl (has_separated at.AfterOperand (is k.Comma) (expr s m) (expr_example s l m R))

pub values_rises : (s : List ℕ) (l m : Levels) → LevelsRise l m → LevelsAre m → Rises (values s l) (values s m)
unfolding values expr
values_rises s l m R M = ended_rises (separated at.AfterOperand (is k.Comma) (expr s l)) (separated at.AfterOperand (is k.Comma) (expr s m)) at.AfterOperand (is k.Semicolon) (separated_rises at.AfterOperand (is k.Comma) (expr s l) (expr s m) (expr_rises s l m R M) (expr_lawful s m M) (expr_example s l m R) (apart (λ t. refl) (λ t. refl) refl)) (tok k.Semicolon) refl

pub assignment_example : (s : List ℕ) (l m : Levels) → LevelsRise l m → HasExample (assignment s m)
unfolding assignment
assignment_example s l m R = has_sealed begins_assignment false never (made assignment_of (seq (maybe (target_index m)) (seq (many (next_target s m)) (behind at.Other (is k.Assign) (values s m))))) (has_made assignment_of (seq (maybe (target_index m)) (seq (many (next_target s m)) (behind at.Other (is k.Assign) (values s m)))) (has_seq (maybe (target_index m)) (seq (many (next_target s m)) (behind at.Other (is k.Assign) (values s m))) (has_second (made Some (target_index m)) (empty None) (has_none None)) (has_seq (many (next_target s m)) (behind at.Other (is k.Assign) (values s m)) (has_many (next_target s m)) (has_behind at.Other (is k.Assign) (tok k.Assign) refl (values s m) (values_example s l m R)))))

pub assignment_rises : (s : List ℕ) (l m : Levels) → LevelsRise l m → LevelsAre m → Rises (assignment s l) (assignment s m)
unfolding assignment target_index next_target values expr
assignment_rises s l m R M = sealed_rises begins_assignment false never (made assignment_of (seq (maybe (target_index l)) (seq (many (next_target s l)) (behind at.Other (is k.Assign) (values s l))))) (made assignment_of (seq (maybe (target_index m)) (seq (many (next_target s m)) (behind at.Other (is k.Assign) (values s m))))) (made_rises assignment_of (seq (maybe (target_index l)) (seq (many (next_target s l)) (behind at.Other (is k.Assign) (values s l)))) (seq (maybe (target_index m)) (seq (many (next_target s m)) (behind at.Other (is k.Assign) (values s m)))) (seq_rises (maybe (target_index l)) (maybe (target_index m)) (seq (many (next_target s l)) (behind at.Other (is k.Assign) (values s l))) (seq (many (next_target s m)) (behind at.Other (is k.Assign) (values s m))) (maybe_rises (target_index l) (target_index m) (target_index_rises l m R M) (λ t. refl)) (seq_rises (many (next_target s l)) (many (next_target s m)) (behind at.Other (is k.Assign) (values s l)) (behind at.Other (is k.Assign) (values s m)) (many_rises (next_target s l) (next_target s m) (next_target_rises s l m R M) (next_target_lawful s m M) (λ t. refl)) (behind_rises at.Other (is k.Assign) (values s l) (values s m) (values_rises s l m R M) (values_lawful s m M) (values_example s l m R)) (behind_lawful at.Other (is k.Assign) (values s m) (values_lawful s m M)) (has_behind at.Other (is k.Assign) (tok k.Assign) refl (values s m) (values_example s l m R))) (seq_lawful (many (next_target s m)) (behind at.Other (is k.Assign) (values s m)) (many_lawful (next_target s m) (next_target_lawful s m M) refl (apart (λ t. refl) (λ t. refl) refl)) (behind_lawful at.Other (is k.Assign) (values s m) (values_lawful s m M)) (apart (λ t. refl) (λ t. refl) refl)) (has_seq (many (next_target s m)) (behind at.Other (is k.Assign) (values s m)) (has_many (next_target s m)) (has_behind at.Other (is k.Assign) (tok k.Assign) refl (values s m) (values_example s l m R)))))

pub label_colon_example : HasExample label_colon
label_colon_example = has_made (λ t. rests.Label) (one at.Other (is k.Colon)) (has_one at.Other (is k.Colon) (tok k.Colon) refl)

pub label_colon_rises : Rises label_colon label_colon
label_colon_rises = made_rises (λ t. rests.Label) (one at.Other (is k.Colon)) (one at.Other (is k.Colon)) (one_rises at.Other (is k.Colon))

pub named_rest_example : (s : List ℕ) (l m : Levels) → LevelsRise l m → HasExample (named_rest s m)
named_rest_example s l m R = has_first label_colon (assignment s m) label_colon_example

pub named_rest_rises : (s : List ℕ) (l m : Levels) → LevelsRise l m → LevelsAre m → Rises (named_rest s l) (named_rest s m)
unfolding assignment
named_rest_rises s l m R M = alt_rises label_colon label_colon (assignment s l) (assignment s m) label_colon_rises (assignment_rises s l m R M) (λ t. refl)

pub named_stmt_example : (s : List ℕ) (l m : Levels) → LevelsRise l m → HasExample (named_stmt s m)
unfolding named_stmt
named_stmt_example s l m R = has_sealed (is k.Ident) false never (made named_stmt_of (seq (name s at.Statement) (named_rest s m))) (has_made named_stmt_of (seq (name s at.Statement) (named_rest s m)) (has_seq (name s at.Statement) (named_rest s m) (name_example s at.Statement) (named_rest_example s l m R)))

pub named_stmt_rises : (s : List ℕ) (l m : Levels) → LevelsRise l m → LevelsAre m → Rises (named_stmt s l) (named_stmt s m)
unfolding named_stmt assignment
named_stmt_rises s l m R M = sealed_rises (is k.Ident) false never (made named_stmt_of (seq (name s at.Statement) (named_rest s l))) (made named_stmt_of (seq (name s at.Statement) (named_rest s m))) (made_rises named_stmt_of (seq (name s at.Statement) (named_rest s l)) (seq (name s at.Statement) (named_rest s m)) (seq_rises (name s at.Statement) (name s at.Statement) (named_rest s l) (named_rest s m) (name_rises s at.Statement) (named_rest_rises s l m R M) (named_rest_lawful s m M) (named_rest_example s l m R)))

pub condition_example : (s : List ℕ) (l m : Levels) → LevelsRise l m → HasExample (condition s m)
condition_example s l m R = has_seq (attributes s) (ended (expr s m) at.AfterOperand (is k.Semicolon)) (attributes_example s) (has_ended (expr s m) at.AfterOperand (is k.Semicolon) (tok k.Semicolon) refl (expr_example s l m R))

pub condition_rises : (s : List ℕ) (l m : Levels) → LevelsRise l m → LevelsAre m → Rises (condition s l) (condition s m)
unfolding attributes expr
condition_rises s l m R M = seq_rises (attributes s) (attributes s) (ended (expr s l) at.AfterOperand (is k.Semicolon)) (ended (expr s m) at.AfterOperand (is k.Semicolon)) (attributes_rises s) (ended_rises (expr s l) (expr s m) at.AfterOperand (is k.Semicolon) (expr_rises s l m R M) (tok k.Semicolon) refl) (ended_lawful (expr s m) at.AfterOperand (is k.Semicolon) (expr_lawful s m M) (apart (λ t. refl) (λ t. refl) refl)) (has_ended (expr s m) at.AfterOperand (is k.Semicolon) (tok k.Semicolon) refl (expr_example s l m R))

pub listing_example : (s : List ℕ) → HasExample (listing s)
listing_example s = has_seq (attributes s) (ended (names s) at.Other (is k.Semicolon)) (attributes_example s) (has_ended (names s) at.Other (is k.Semicolon) (tok k.Semicolon) refl (names_example s))

pub listing_rises : (s : List ℕ) → Rises (listing s) (listing s)
unfolding attributes names
listing_rises s = seq_rises (attributes s) (attributes s) (ended (names s) at.Other (is k.Semicolon)) (ended (names s) at.Other (is k.Semicolon)) (attributes_rises s) (ended_rises (names s) (names s) at.Other (is k.Semicolon) (names_rises s) (tok k.Semicolon) refl) (ended_lawful (names s) at.Other (is k.Semicolon) (names_lawful s) (apart (λ t. refl) (λ t. refl) refl)) (has_ended (names s) at.Other (is k.Semicolon) (tok k.Semicolon) refl (names_example s))

pub assertion_example : (s : List ℕ) (l m : Levels) → LevelsRise l m → HasExample (assertion s m)
unfolding assertion
assertion_example s l m R = has_sealed (is k.Assert) false never (made assert_of (seq (one at.Statement (is k.Assert)) (condition s m))) (has_made assert_of (seq (one at.Statement (is k.Assert)) (condition s m)) (has_seq (one at.Statement (is k.Assert)) (condition s m) (has_one at.Statement (is k.Assert) (tok k.Assert) refl) (condition_example s l m R)))

pub assertion_rises : (s : List ℕ) (l m : Levels) → LevelsRise l m → LevelsAre m → Rises (assertion s l) (assertion s m)
unfolding assertion attributes expr
assertion_rises s l m R M = sealed_rises (is k.Assert) false never (made assert_of (seq (one at.Statement (is k.Assert)) (condition s l))) (made assert_of (seq (one at.Statement (is k.Assert)) (condition s m))) (made_rises assert_of (seq (one at.Statement (is k.Assert)) (condition s l)) (seq (one at.Statement (is k.Assert)) (condition s m)) (seq_rises (one at.Statement (is k.Assert)) (one at.Statement (is k.Assert)) (condition s l) (condition s m) (one_rises at.Statement (is k.Assert)) (condition_rises s l m R M) (condition_lawful s m M) (condition_example s l m R)))

pub assumption_stmt_example : (s : List ℕ) (l m : Levels) → LevelsRise l m → HasExample (assumption_stmt s m)
unfolding assumption_stmt
assumption_stmt_example s l m R = has_sealed (is k.Assume) false never (made assume_of (seq (one at.Statement (is k.Assume)) (condition s m))) (has_made assume_of (seq (one at.Statement (is k.Assume)) (condition s m)) (has_seq (one at.Statement (is k.Assume)) (condition s m) (has_one at.Statement (is k.Assume) (tok k.Assume) refl) (condition_example s l m R)))

pub assumption_stmt_rises : (s : List ℕ) (l m : Levels) → LevelsRise l m → LevelsAre m → Rises (assumption_stmt s l) (assumption_stmt s m)
unfolding assumption_stmt attributes expr
assumption_stmt_rises s l m R M = sealed_rises (is k.Assume) false never (made assume_of (seq (one at.Statement (is k.Assume)) (condition s l))) (made assume_of (seq (one at.Statement (is k.Assume)) (condition s m))) (made_rises assume_of (seq (one at.Statement (is k.Assume)) (condition s l)) (seq (one at.Statement (is k.Assume)) (condition s m)) (seq_rises (one at.Statement (is k.Assume)) (one at.Statement (is k.Assume)) (condition s l) (condition s m) (one_rises at.Statement (is k.Assume)) (condition_rises s l m R M) (condition_lawful s m M) (condition_example s l m R)))

pub havoc_example : (s : List ℕ) → HasExample (havoc s)
unfolding havoc
havoc_example s = has_sealed (is k.Havoc) false never (made havoc_of (seq (one at.Statement (is k.Havoc)) (listing s))) (has_made havoc_of (seq (one at.Statement (is k.Havoc)) (listing s)) (has_seq (one at.Statement (is k.Havoc)) (listing s) (has_one at.Statement (is k.Havoc) (tok k.Havoc) refl) (listing_example s)))

pub havoc_rises : (s : List ℕ) → Rises (havoc s) (havoc s)
unfolding havoc attributes names
havoc_rises s = sealed_rises (is k.Havoc) false never (made havoc_of (seq (one at.Statement (is k.Havoc)) (listing s))) (made havoc_of (seq (one at.Statement (is k.Havoc)) (listing s))) (made_rises havoc_of (seq (one at.Statement (is k.Havoc)) (listing s)) (seq (one at.Statement (is k.Havoc)) (listing s)) (seq_rises (one at.Statement (is k.Havoc)) (one at.Statement (is k.Havoc)) (listing s) (listing s) (one_rises at.Statement (is k.Havoc)) (listing_rises s) (listing_lawful s) (listing_example s)))

pub jump_example : (s : List ℕ) → HasExample (jump s)
unfolding jump
jump_example s = has_sealed (is k.Goto) false never (made goto_of (seq (one at.Statement (is k.Goto)) (listing s))) (has_made goto_of (seq (one at.Statement (is k.Goto)) (listing s)) (has_seq (one at.Statement (is k.Goto)) (listing s) (has_one at.Statement (is k.Goto) (tok k.Goto) refl) (listing_example s)))

pub jump_rises : (s : List ℕ) → Rises (jump s) (jump s)
unfolding jump attributes names
jump_rises s = sealed_rises (is k.Goto) false never (made goto_of (seq (one at.Statement (is k.Goto)) (listing s))) (made goto_of (seq (one at.Statement (is k.Goto)) (listing s))) (made_rises goto_of (seq (one at.Statement (is k.Goto)) (listing s)) (seq (one at.Statement (is k.Goto)) (listing s)) (seq_rises (one at.Statement (is k.Goto)) (one at.Statement (is k.Goto)) (listing s) (listing s) (one_rises at.Statement (is k.Goto)) (listing_rises s) (listing_lawful s) (listing_example s)))

pub return_stmt_example : (s : List ℕ) → HasExample (return_stmt s)
unfolding return_stmt
return_stmt_example s = has_sealed (is k.Return) false never (made return_of (seq (one at.Statement (is k.Return)) (ended (attributes s) at.Other (is k.Semicolon)))) (has_made return_of (seq (one at.Statement (is k.Return)) (ended (attributes s) at.Other (is k.Semicolon))) (has_seq (one at.Statement (is k.Return)) (ended (attributes s) at.Other (is k.Semicolon)) (has_one at.Statement (is k.Return) (tok k.Return) refl) (has_ended (attributes s) at.Other (is k.Semicolon) (tok k.Semicolon) refl (attributes_example s))))

pub return_stmt_rises : (s : List ℕ) → Rises (return_stmt s) (return_stmt s)
unfolding return_stmt attributes
return_stmt_rises s = sealed_rises (is k.Return) false never (made return_of (seq (one at.Statement (is k.Return)) (ended (attributes s) at.Other (is k.Semicolon)))) (made return_of (seq (one at.Statement (is k.Return)) (ended (attributes s) at.Other (is k.Semicolon)))) (made_rises return_of (seq (one at.Statement (is k.Return)) (ended (attributes s) at.Other (is k.Semicolon))) (seq (one at.Statement (is k.Return)) (ended (attributes s) at.Other (is k.Semicolon))) (seq_rises (one at.Statement (is k.Return)) (one at.Statement (is k.Return)) (ended (attributes s) at.Other (is k.Semicolon)) (ended (attributes s) at.Other (is k.Semicolon)) (one_rises at.Statement (is k.Return)) (ended_rises (attributes s) (attributes s) at.Other (is k.Semicolon) (attributes_rises s) (tok k.Semicolon) refl) (ended_lawful (attributes s) at.Other (is k.Semicolon) (attributes_lawful s) (apart (λ t. refl) (λ t. refl) refl)) (has_ended (attributes s) at.Other (is k.Semicolon) (tok k.Semicolon) refl (attributes_example s))))

pub break_stmt_example : (s : List ℕ) → HasExample (break_stmt s)
unfolding break_stmt
break_stmt_example s = has_sealed (is k.Break) false never (made break_of (seq (one at.Statement (is k.Break)) (seq (attributes s) (ended (maybe (name s at.Other)) at.Other (is k.Semicolon))))) (has_made break_of (seq (one at.Statement (is k.Break)) (seq (attributes s) (ended (maybe (name s at.Other)) at.Other (is k.Semicolon)))) (has_seq (one at.Statement (is k.Break)) (seq (attributes s) (ended (maybe (name s at.Other)) at.Other (is k.Semicolon))) (has_one at.Statement (is k.Break) (tok k.Break) refl) (has_seq (attributes s) (ended (maybe (name s at.Other)) at.Other (is k.Semicolon)) (attributes_example s) (has_ended (maybe (name s at.Other)) at.Other (is k.Semicolon) (tok k.Semicolon) refl (has_second (made Some (name s at.Other)) (empty None) (has_none None))))))

pub break_stmt_rises : (s : List ℕ) → Rises (break_stmt s) (break_stmt s)
unfolding break_stmt attributes
break_stmt_rises s = sealed_rises (is k.Break) false never (made break_of (seq (one at.Statement (is k.Break)) (seq (attributes s) (ended (maybe (name s at.Other)) at.Other (is k.Semicolon))))) (made break_of (seq (one at.Statement (is k.Break)) (seq (attributes s) (ended (maybe (name s at.Other)) at.Other (is k.Semicolon))))) (made_rises break_of (seq (one at.Statement (is k.Break)) (seq (attributes s) (ended (maybe (name s at.Other)) at.Other (is k.Semicolon)))) (seq (one at.Statement (is k.Break)) (seq (attributes s) (ended (maybe (name s at.Other)) at.Other (is k.Semicolon)))) (seq_rises (one at.Statement (is k.Break)) (one at.Statement (is k.Break)) (seq (attributes s) (ended (maybe (name s at.Other)) at.Other (is k.Semicolon))) (seq (attributes s) (ended (maybe (name s at.Other)) at.Other (is k.Semicolon))) (one_rises at.Statement (is k.Break)) (seq_rises (attributes s) (attributes s) (ended (maybe (name s at.Other)) at.Other (is k.Semicolon)) (ended (maybe (name s at.Other)) at.Other (is k.Semicolon)) (attributes_rises s) (ended_rises (maybe (name s at.Other)) (maybe (name s at.Other)) at.Other (is k.Semicolon) (maybe_rises (name s at.Other) (name s at.Other) (name_rises s at.Other) (λ t. refl)) (tok k.Semicolon) refl) (ended_lawful (maybe (name s at.Other)) at.Other (is k.Semicolon) (maybe_lawful (name s at.Other) (name_lawful s at.Other) refl) (apart (λ t. refl) (λ t. refl) refl)) (has_ended (maybe (name s at.Other)) at.Other (is k.Semicolon) (tok k.Semicolon) refl (has_second (made Some (name s at.Other)) (empty None) (has_none None)))) (seq_lawful (attributes s) (ended (maybe (name s at.Other)) at.Other (is k.Semicolon)) (attributes_lawful s) (ended_lawful (maybe (name s at.Other)) at.Other (is k.Semicolon) (maybe_lawful (name s at.Other) (name_lawful s at.Other) refl) (apart (λ t. refl) (λ t. refl) refl)) (apart (λ t. refl) (λ t. refl) refl)) (has_seq (attributes s) (ended (maybe (name s at.Other)) at.Other (is k.Semicolon)) (attributes_example s) (has_ended (maybe (name s at.Other)) at.Other (is k.Semicolon) (tok k.Semicolon) refl (has_second (made Some (name s at.Other)) (empty None) (has_none None))))))

pub call_alone_example : (l m : Levels) → LevelsRise l m → HasExample (call_alone m)
call_alone_example l m R = has_made calls.Arguments (arguments m) (arguments_example l m R)

pub call_alone_rises : (l m : Levels) → LevelsRise l m → LevelsAre m → Rises (call_alone l) (call_alone m)
unfolding arguments
call_alone_rises l m R M = made_rises calls.Arguments (arguments l) (arguments m) (arguments_rises l m R M)

pub next_out_example : (s : List ℕ) → HasExample (next_out s)
next_out_example s = has_behind at.Other (is k.Comma) (tok k.Comma) refl (name s at.Other) (name_example s at.Other)

pub next_out_rises : (s : List ℕ) → Rises (next_out s) (next_out s)
next_out_rises s = behind_rises at.Other (is k.Comma) (name s at.Other) (name s at.Other) (name_rises s at.Other) (name_lawful s at.Other) (name_example s at.Other)

pub call_with_outs_example : (s : List ℕ) (l m : Levels) → LevelsRise l m → HasExample (call_with_outs s m)
call_with_outs_example s l m R = has_made outs_of (seq (many (next_out s)) (behind at.Other (is k.Assign) (seq (name s at.Other) (arguments m)))) (has_seq (many (next_out s)) (behind at.Other (is k.Assign) (seq (name s at.Other) (arguments m))) (has_many (next_out s)) (has_behind at.Other (is k.Assign) (tok k.Assign) refl (seq (name s at.Other) (arguments m)) (has_seq (name s at.Other) (arguments m) (name_example s at.Other) (arguments_example l m R))))

pub call_with_outs_rises : (s : List ℕ) (l m : Levels) → LevelsRise l m → LevelsAre m → Rises (call_with_outs s l) (call_with_outs s m)
unfolding arguments
call_with_outs_rises s l m R M = made_rises outs_of (seq (many (next_out s)) (behind at.Other (is k.Assign) (seq (name s at.Other) (arguments l)))) (seq (many (next_out s)) (behind at.Other (is k.Assign) (seq (name s at.Other) (arguments m)))) (seq_rises (many (next_out s)) (many (next_out s)) (behind at.Other (is k.Assign) (seq (name s at.Other) (arguments l))) (behind at.Other (is k.Assign) (seq (name s at.Other) (arguments m))) (many_rises (next_out s) (next_out s) (next_out_rises s) (next_out_lawful s) (λ t. refl)) (behind_rises at.Other (is k.Assign) (seq (name s at.Other) (arguments l)) (seq (name s at.Other) (arguments m)) (seq_rises (name s at.Other) (name s at.Other) (arguments l) (arguments m) (name_rises s at.Other) (arguments_rises l m R M) (arguments_lawful m M) (arguments_example l m R)) (seq_lawful (name s at.Other) (arguments m) (name_lawful s at.Other) (arguments_lawful m M) (apart (λ t. refl) (λ t. refl) refl)) (has_seq (name s at.Other) (arguments m) (name_example s at.Other) (arguments_example l m R))) (behind_lawful at.Other (is k.Assign) (seq (name s at.Other) (arguments m)) (seq_lawful (name s at.Other) (arguments m) (name_lawful s at.Other) (arguments_lawful m M) (apart (λ t. refl) (λ t. refl) refl))) (has_behind at.Other (is k.Assign) (tok k.Assign) refl (seq (name s at.Other) (arguments m)) (has_seq (name s at.Other) (arguments m) (name_example s at.Other) (arguments_example l m R))))

pub called_rest_example : (s : List ℕ) (l m : Levels) → LevelsRise l m → HasExample (called_rest s m)
called_rest_example s l m R = has_first (call_alone m) (call_with_outs s m) (call_alone_example l m R)

pub called_rest_rises : (s : List ℕ) (l m : Levels) → LevelsRise l m → LevelsAre m → Rises (called_rest s l) (called_rest s m)
unfolding arguments
called_rest_rises s l m R M = alt_rises (call_alone l) (call_alone m) (call_with_outs s l) (call_with_outs s m) (call_alone_rises l m R M) (call_with_outs_rises s l m R M) (λ t. refl)

pub call_stmt_example : (s : List ℕ) (l m : Levels) → LevelsRise l m → HasExample (call_stmt s m)
unfolding call_stmt
call_stmt_example s l m R = has_sealed (is k.Call) false never (made call_of (seq (one at.Statement (is k.Call)) (seq (attributes s) (ended (seq (name s at.Called) (called_rest s m)) at.Other (is k.Semicolon))))) (has_made call_of (seq (one at.Statement (is k.Call)) (seq (attributes s) (ended (seq (name s at.Called) (called_rest s m)) at.Other (is k.Semicolon)))) (has_seq (one at.Statement (is k.Call)) (seq (attributes s) (ended (seq (name s at.Called) (called_rest s m)) at.Other (is k.Semicolon))) (has_one at.Statement (is k.Call) (tok k.Call) refl) (has_seq (attributes s) (ended (seq (name s at.Called) (called_rest s m)) at.Other (is k.Semicolon)) (attributes_example s) (has_ended (seq (name s at.Called) (called_rest s m)) at.Other (is k.Semicolon) (tok k.Semicolon) refl (has_seq (name s at.Called) (called_rest s m) (name_example s at.Called) (called_rest_example s l m R))))))

pub call_stmt_rises : (s : List ℕ) (l m : Levels) → LevelsRise l m → LevelsAre m → Rises (call_stmt s l) (call_stmt s m)
unfolding call_stmt attributes arguments
call_stmt_rises s l m R M = sealed_rises (is k.Call) false never (made call_of (seq (one at.Statement (is k.Call)) (seq (attributes s) (ended (seq (name s at.Called) (called_rest s l)) at.Other (is k.Semicolon))))) (made call_of (seq (one at.Statement (is k.Call)) (seq (attributes s) (ended (seq (name s at.Called) (called_rest s m)) at.Other (is k.Semicolon))))) (made_rises call_of (seq (one at.Statement (is k.Call)) (seq (attributes s) (ended (seq (name s at.Called) (called_rest s l)) at.Other (is k.Semicolon)))) (seq (one at.Statement (is k.Call)) (seq (attributes s) (ended (seq (name s at.Called) (called_rest s m)) at.Other (is k.Semicolon)))) (seq_rises (one at.Statement (is k.Call)) (one at.Statement (is k.Call)) (seq (attributes s) (ended (seq (name s at.Called) (called_rest s l)) at.Other (is k.Semicolon))) (seq (attributes s) (ended (seq (name s at.Called) (called_rest s m)) at.Other (is k.Semicolon))) (one_rises at.Statement (is k.Call)) (seq_rises (attributes s) (attributes s) (ended (seq (name s at.Called) (called_rest s l)) at.Other (is k.Semicolon)) (ended (seq (name s at.Called) (called_rest s m)) at.Other (is k.Semicolon)) (attributes_rises s) (ended_rises (seq (name s at.Called) (called_rest s l)) (seq (name s at.Called) (called_rest s m)) at.Other (is k.Semicolon) (seq_rises (name s at.Called) (name s at.Called) (called_rest s l) (called_rest s m) (name_rises s at.Called) (called_rest_rises s l m R M) (called_rest_lawful s m M) (called_rest_example s l m R)) (tok k.Semicolon) refl) (ended_lawful (seq (name s at.Called) (called_rest s m)) at.Other (is k.Semicolon) (seq_lawful (name s at.Called) (called_rest s m) (name_lawful s at.Called) (called_rest_lawful s m M) (apart (λ t. refl) (λ t. refl) refl)) (apart (λ t. refl) (λ t. refl) refl)) (has_ended (seq (name s at.Called) (called_rest s m)) at.Other (is k.Semicolon) (tok k.Semicolon) refl (has_seq (name s at.Called) (called_rest s m) (name_example s at.Called) (called_rest_example s l m R)))) (seq_lawful (attributes s) (ended (seq (name s at.Called) (called_rest s m)) at.Other (is k.Semicolon)) (attributes_lawful s) (ended_lawful (seq (name s at.Called) (called_rest s m)) at.Other (is k.Semicolon) (seq_lawful (name s at.Called) (called_rest s m) (name_lawful s at.Called) (called_rest_lawful s m M) (apart (λ t. refl) (λ t. refl) refl)) (apart (λ t. refl) (λ t. refl) refl)) (apart (λ t. refl) (λ t. refl) refl)) (has_seq (attributes s) (ended (seq (name s at.Called) (called_rest s m)) at.Other (is k.Semicolon)) (attributes_example s) (has_ended (seq (name s at.Called) (called_rest s m)) at.Other (is k.Semicolon) (tok k.Semicolon) refl (has_seq (name s at.Called) (called_rest s m) (name_example s at.Called) (called_rest_example s l m R))))))

pub simple_example : (s : List ℕ) (l m : Levels) → LevelsRise l m → HasExample (simple s m)
unfolding simple
simple_example s l m R = has_sealed begins_simple false never (alt (assertion s m) (alt (assumption_stmt s m) (alt (havoc s) (alt (jump s) (alt (return_stmt s) (alt (break_stmt s) (call_stmt s m))))))) (has_second (assertion s m) (alt (assumption_stmt s m) (alt (havoc s) (alt (jump s) (alt (return_stmt s) (alt (break_stmt s) (call_stmt s m)))))) (has_second (assumption_stmt s m) (alt (havoc s) (alt (jump s) (alt (return_stmt s) (alt (break_stmt s) (call_stmt s m))))) (has_second (havoc s) (alt (jump s) (alt (return_stmt s) (alt (break_stmt s) (call_stmt s m)))) (has_second (jump s) (alt (return_stmt s) (alt (break_stmt s) (call_stmt s m))) (has_first (return_stmt s) (alt (break_stmt s) (call_stmt s m)) (return_stmt_example s))))))

pub simple_rises : (s : List ℕ) (l m : Levels) → LevelsRise l m → LevelsAre m → Rises (simple s l) (simple s m)
unfolding simple assertion assumption_stmt havoc jump return_stmt break_stmt call_stmt
simple_rises s l m R M = sealed_rises begins_simple false never (alt (assertion s l) (alt (assumption_stmt s l) (alt (havoc s) (alt (jump s) (alt (return_stmt s) (alt (break_stmt s) (call_stmt s l))))))) (alt (assertion s m) (alt (assumption_stmt s m) (alt (havoc s) (alt (jump s) (alt (return_stmt s) (alt (break_stmt s) (call_stmt s m))))))) (alt_rises (assertion s l) (assertion s m) (alt (assumption_stmt s l) (alt (havoc s) (alt (jump s) (alt (return_stmt s) (alt (break_stmt s) (call_stmt s l)))))) (alt (assumption_stmt s m) (alt (havoc s) (alt (jump s) (alt (return_stmt s) (alt (break_stmt s) (call_stmt s m)))))) (assertion_rises s l m R M) (alt_rises (assumption_stmt s l) (assumption_stmt s m) (alt (havoc s) (alt (jump s) (alt (return_stmt s) (alt (break_stmt s) (call_stmt s l))))) (alt (havoc s) (alt (jump s) (alt (return_stmt s) (alt (break_stmt s) (call_stmt s m))))) (assumption_stmt_rises s l m R M) (alt_rises (havoc s) (havoc s) (alt (jump s) (alt (return_stmt s) (alt (break_stmt s) (call_stmt s l)))) (alt (jump s) (alt (return_stmt s) (alt (break_stmt s) (call_stmt s m)))) (havoc_rises s) (alt_rises (jump s) (jump s) (alt (return_stmt s) (alt (break_stmt s) (call_stmt s l))) (alt (return_stmt s) (alt (break_stmt s) (call_stmt s m))) (jump_rises s) (alt_rises (return_stmt s) (return_stmt s) (alt (break_stmt s) (call_stmt s l)) (alt (break_stmt s) (call_stmt s m)) (return_stmt_rises s) (alt_rises (break_stmt s) (break_stmt s) (call_stmt s l) (call_stmt s m) (break_stmt_rises s) (call_stmt_rises s l m R M) (λ t. refl)) (λ t. refl)) (λ t. refl)) (λ t. refl)) (λ t. refl)) (λ t. refl))

pub any_guard_example : HasExample any_guard
any_guard_example = has_ended (made (λ t. guards.Any t.at) (one at.Operand (is k.Star))) at.Other (is k.RightParen) (tok k.RightParen) refl (has_made (λ t. guards.Any t.at) (one at.Operand (is k.Star)) (has_one at.Operand (is k.Star) (tok k.Star) refl))

pub any_guard_rises : Rises any_guard any_guard
any_guard_rises = ended_rises (made (λ t. guards.Any t.at) (one at.Operand (is k.Star))) (made (λ t. guards.Any t.at) (one at.Operand (is k.Star))) at.Other (is k.RightParen) (made_rises (λ t. guards.Any t.at) (one at.Operand (is k.Star)) (one at.Operand (is k.Star)) (one_rises at.Operand (is k.Star))) (tok k.RightParen) refl

pub condition_guard_example : (s : List ℕ) (l m : Levels) → LevelsRise l m → HasExample (condition_guard s m)
condition_guard_example s l m R = has_ended (made guards.Condition (expr s m)) at.AfterOperand (is k.RightParen) (tok k.RightParen) refl (has_made guards.Condition (expr s m) (expr_example s l m R))

pub condition_guard_rises : (s : List ℕ) (l m : Levels) → LevelsRise l m → LevelsAre m → Rises (condition_guard s l) (condition_guard s m)
unfolding expr
condition_guard_rises s l m R M = ended_rises (made guards.Condition (expr s l)) (made guards.Condition (expr s m)) at.AfterOperand (is k.RightParen) (made_rises guards.Condition (expr s l) (expr s m) (expr_rises s l m R M)) (tok k.RightParen) refl

pub guard_example : (s : List ℕ) (l m : Levels) → LevelsRise l m → HasExample (guard s m)
unfolding guard
guard_example s l m R = has_first any_guard (condition_guard s m) any_guard_example

pub guard_rises : (s : List ℕ) (l m : Levels) → LevelsRise l m → LevelsAre m → Rises (guard s l) (guard s m)
unfolding guard expr
guard_rises s l m R M = alt_rises any_guard any_guard (condition_guard s l) (condition_guard s m) any_guard_rises (condition_guard_rises s l m R M) (λ t. refl)

pub after_brace_example : (q : Reader (List Stmt)) → HasExample (as_stmts q) → HasExample (after_brace q)
after_brace_example q X = has_ended (as_stmts q) at.Statement (is k.RightBrace) (tok k.RightBrace) refl X

pub after_brace_rises : (r q : Reader (List Stmt)) → Lawful (as_stmts q) → Goes (as_stmts r) (as_stmts q) → Rises (after_brace r) (after_brace q)
after_brace_rises r q Q G = ended_rises (as_stmts r) (as_stmts q) at.Statement (is k.RightBrace) G.0 (tok k.RightBrace) refl

pub block_example : (l m : Levels) → LevelsRise l m → HasExample (block m)
unfolding block
block_example l m R = has_above at.Other (is k.LeftBrace) never (λ x. x.1) after_brace _ _ l.blocks m.blocks R.blocks (tok k.LeftBrace) refl (λ q u. after_brace_example q u) (λ r q g. after_brace_example q g.1)

pub block_rises : (l m : Levels) → LevelsRise l m → LevelsAre m → Rises (block l) (block m)
unfolding block
block_rises l m R M = nested_rises at.Other (is k.LeftBrace) never (λ x. x.1) after_brace l.blocks m.blocks (rise_map _ _ _ _ (λ r. Lawful (as_stmts r)) l.blocks m.blocks (λ q k u. tt) (λ r q Q g. (after_brace_rises r q Q g, after_brace_example q g.1)) M.blocks R.blocks) (block_after m M)

pub after_else_if_example : (q : Reader IfRest) → HasExample (as_if_rest q) → HasExample (after_else_if q)
after_else_if_example q X = X

pub after_else_if_rises : (r q : Reader IfRest) → Lawful (as_if_rest q) → Goes (as_if_rest r) (as_if_rest q) → Rises (after_else_if r) (after_else_if q)
after_else_if_rises r q Q G = G.0

pub else_if_rises : (l m : Levels) → LevelsRise l m → LevelsAre m → Rises (else_if l) (else_if m)
unfolding else_if
else_if_rises l m R M = nested_rises at.Other (is k.If) (is k.Else) if_of after_else_if l.ifs m.ifs (rise_map _ _ _ _ (λ r. Lawful (as_if_rest r)) l.ifs m.ifs (λ q k u. tt) (λ r q Q g. g) M.ifs R.ifs) (else_if_after m M)

pub else_end_example : (l m : Levels) → LevelsRise l m → HasExample (else_end m)
else_end_example l m R = has_second (made others.If (else_if m)) (made others.Block (block m)) (has_made others.Block (block m) (block_example l m R))

pub else_end_rises : (l m : Levels) → LevelsRise l m → LevelsAre m → Rises (else_end l) (else_end m)
unfolding else_if block
else_end_rises l m R M = alt_rises (made others.If (else_if l)) (made others.If (else_if m)) (made others.Block (block l)) (made others.Block (block m)) (made_rises others.If (else_if l) (else_if m) (else_if_rises l m R M)) (made_rises others.Block (block l) (block m) (block_rises l m R M)) (λ t. refl)

pub else_part_example : (l m : Levels) → LevelsRise l m → HasExample (else_part m)
unfolding else_part
else_part_example l m R = has_sealed (is k.Else) false (is k.Else) (behind at.Other (is k.Else) (else_end m)) (has_behind at.Other (is k.Else) (tok k.Else) refl (else_end m) (else_end_example l m R))

pub else_part_rises : (l m : Levels) → LevelsRise l m → LevelsAre m → Rises (else_part l) (else_part m)
unfolding else_part else_if block
else_part_rises l m R M = sealed_rises (is k.Else) false (is k.Else) (behind at.Other (is k.Else) (else_end l)) (behind at.Other (is k.Else) (else_end m)) (behind_rises at.Other (is k.Else) (else_end l) (else_end m) (else_end_rises l m R M) (else_end_lawful m M) (else_end_example l m R))

pub if_rest_example : (s : List ℕ) (l m : Levels) → LevelsRise l m → HasExample (if_rest s m)
unfolding if_rest
if_rest_example s l m R = has_sealed begins_if_rest false (is k.Else) (made if_rest_of (seq (attributes s) (behind at.Other (is k.LeftParen) (seq (guard s m) (seq (block m) (maybe (else_part m))))))) (has_made if_rest_of (seq (attributes s) (behind at.Other (is k.LeftParen) (seq (guard s m) (seq (block m) (maybe (else_part m)))))) (has_seq (attributes s) (behind at.Other (is k.LeftParen) (seq (guard s m) (seq (block m) (maybe (else_part m))))) (attributes_example s) (has_behind at.Other (is k.LeftParen) (tok k.LeftParen) refl (seq (guard s m) (seq (block m) (maybe (else_part m)))) (has_seq (guard s m) (seq (block m) (maybe (else_part m))) (guard_example s l m R) (has_seq (block m) (maybe (else_part m)) (block_example l m R) (has_second (made Some (else_part m)) (empty None) (has_none None)))))))

pub if_rest_rises : (s : List ℕ) (l m : Levels) → LevelsRise l m → LevelsAre m → Rises (if_rest s l) (if_rest s m)
unfolding if_rest attributes guard expr block else_part
if_rest_rises s l m R M = sealed_rises begins_if_rest false (is k.Else) (made if_rest_of (seq (attributes s) (behind at.Other (is k.LeftParen) (seq (guard s l) (seq (block l) (maybe (else_part l))))))) (made if_rest_of (seq (attributes s) (behind at.Other (is k.LeftParen) (seq (guard s m) (seq (block m) (maybe (else_part m))))))) (made_rises if_rest_of (seq (attributes s) (behind at.Other (is k.LeftParen) (seq (guard s l) (seq (block l) (maybe (else_part l)))))) (seq (attributes s) (behind at.Other (is k.LeftParen) (seq (guard s m) (seq (block m) (maybe (else_part m)))))) (seq_rises (attributes s) (attributes s) (behind at.Other (is k.LeftParen) (seq (guard s l) (seq (block l) (maybe (else_part l))))) (behind at.Other (is k.LeftParen) (seq (guard s m) (seq (block m) (maybe (else_part m))))) (attributes_rises s) (behind_rises at.Other (is k.LeftParen) (seq (guard s l) (seq (block l) (maybe (else_part l)))) (seq (guard s m) (seq (block m) (maybe (else_part m)))) (seq_rises (guard s l) (guard s m) (seq (block l) (maybe (else_part l))) (seq (block m) (maybe (else_part m))) (guard_rises s l m R M) (seq_rises (block l) (block m) (maybe (else_part l)) (maybe (else_part m)) (block_rises l m R M) (maybe_rises (else_part l) (else_part m) (else_part_rises l m R M) (λ t. refl)) (maybe_lawful (else_part m) (else_part_lawful m M) refl) (has_second (made Some (else_part m)) (empty None) (has_none None))) (seq_lawful (block m) (maybe (else_part m)) (block_lawful m M) (maybe_lawful (else_part m) (else_part_lawful m M) refl) (apart (λ t. refl) (λ t. refl) refl)) (has_seq (block m) (maybe (else_part m)) (block_example l m R) (has_second (made Some (else_part m)) (empty None) (has_none None)))) (seq_lawful (guard s m) (seq (block m) (maybe (else_part m))) (guard_lawful s m M) (seq_lawful (block m) (maybe (else_part m)) (block_lawful m M) (maybe_lawful (else_part m) (else_part_lawful m M) refl) (apart (λ t. refl) (λ t. refl) refl)) (apart (λ t. refl) (λ t. refl) refl)) (has_seq (guard s m) (seq (block m) (maybe (else_part m))) (guard_example s l m R) (has_seq (block m) (maybe (else_part m)) (block_example l m R) (has_second (made Some (else_part m)) (empty None) (has_none None))))) (behind_lawful at.Other (is k.LeftParen) (seq (guard s m) (seq (block m) (maybe (else_part m)))) (seq_lawful (guard s m) (seq (block m) (maybe (else_part m))) (guard_lawful s m M) (seq_lawful (block m) (maybe (else_part m)) (block_lawful m M) (maybe_lawful (else_part m) (else_part_lawful m M) refl) (apart (λ t. refl) (λ t. refl) refl)) (apart (λ t. refl) (λ t. refl) refl))) (has_behind at.Other (is k.LeftParen) (tok k.LeftParen) refl (seq (guard s m) (seq (block m) (maybe (else_part m)))) (has_seq (guard s m) (seq (block m) (maybe (else_part m))) (guard_example s l m R) (has_seq (block m) (maybe (else_part m)) (block_example l m R) (has_second (made Some (else_part m)) (empty None) (has_none None)))))))

pub if_stmt_example : (s : List ℕ) (l m : Levels) → LevelsRise l m → HasExample (if_stmt s m)
unfolding if_stmt
if_stmt_example s l m R = has_sealed (is k.If) false (is k.Else) (made if_stmt_of (seq (one at.Statement (is k.If)) (if_rest s m))) (has_made if_stmt_of (seq (one at.Statement (is k.If)) (if_rest s m)) (has_seq (one at.Statement (is k.If)) (if_rest s m) (has_one at.Statement (is k.If) (tok k.If) refl) (if_rest_example s l m R)))

pub if_stmt_rises : (s : List ℕ) (l m : Levels) → LevelsRise l m → LevelsAre m → Rises (if_stmt s l) (if_stmt s m)
unfolding if_stmt if_rest
if_stmt_rises s l m R M = sealed_rises (is k.If) false (is k.Else) (made if_stmt_of (seq (one at.Statement (is k.If)) (if_rest s l))) (made if_stmt_of (seq (one at.Statement (is k.If)) (if_rest s m))) (made_rises if_stmt_of (seq (one at.Statement (is k.If)) (if_rest s l)) (seq (one at.Statement (is k.If)) (if_rest s m)) (seq_rises (one at.Statement (is k.If)) (one at.Statement (is k.If)) (if_rest s l) (if_rest s m) (one_rises at.Statement (is k.If)) (if_rest_rises s l m R M) (if_rest_lawful s m M) (if_rest_example s l m R)))

pub freedom_example : HasExample freedom
freedom_example = has_made is_some (maybe (one at.Other (is k.Free))) (has_second (made Some (one at.Other (is k.Free))) (empty None) (has_none None))

pub freedom_rises : Rises freedom freedom
freedom_rises = made_rises is_some (maybe (one at.Other (is k.Free))) (maybe (one at.Other (is k.Free))) (maybe_rises (one at.Other (is k.Free)) (one at.Other (is k.Free)) (one_rises at.Other (is k.Free)) (λ t. refl))

pub invariant_example : (s : List ℕ) (l m : Levels) → LevelsRise l m → HasExample (invariant s m)
unfolding invariant
invariant_example s l m R = has_sealed begins_invariant false never (placed (λ t. invariant_of (place_of t)) (seq freedom (behind at.Other (is k.Invariant) (condition s m)))) (has_placed (λ t. invariant_of (place_of t)) (seq freedom (behind at.Other (is k.Invariant) (condition s m))) (has_seq freedom (behind at.Other (is k.Invariant) (condition s m)) freedom_example (has_behind at.Other (is k.Invariant) (tok k.Invariant) refl (condition s m) (condition_example s l m R))))

pub invariant_rises : (s : List ℕ) (l m : Levels) → LevelsRise l m → LevelsAre m → Rises (invariant s l) (invariant s m)
unfolding invariant attributes expr
invariant_rises s l m R M = sealed_rises begins_invariant false never (placed (λ t. invariant_of (place_of t)) (seq freedom (behind at.Other (is k.Invariant) (condition s l)))) (placed (λ t. invariant_of (place_of t)) (seq freedom (behind at.Other (is k.Invariant) (condition s m)))) (placed_rises (λ t. invariant_of (place_of t)) (seq freedom (behind at.Other (is k.Invariant) (condition s l))) (seq freedom (behind at.Other (is k.Invariant) (condition s m))) (seq_rises freedom freedom (behind at.Other (is k.Invariant) (condition s l)) (behind at.Other (is k.Invariant) (condition s m)) freedom_rises (behind_rises at.Other (is k.Invariant) (condition s l) (condition s m) (condition_rises s l m R M) (condition_lawful s m M) (condition_example s l m R)) (behind_lawful at.Other (is k.Invariant) (condition s m) (condition_lawful s m M)) (has_behind at.Other (is k.Invariant) (tok k.Invariant) refl (condition s m) (condition_example s l m R))))

pub while_stmt_example : (s : List ℕ) (l m : Levels) → LevelsRise l m → HasExample (while_stmt s m)
unfolding while_stmt
while_stmt_example s l m R = has_sealed (is k.While) false never (made while_of (seq (one at.Statement (is k.While)) (seq (attributes s) (behind at.Other (is k.LeftParen) (seq (guard s m) (seq (many (invariant s m)) (block m))))))) (has_made while_of (seq (one at.Statement (is k.While)) (seq (attributes s) (behind at.Other (is k.LeftParen) (seq (guard s m) (seq (many (invariant s m)) (block m)))))) (has_seq (one at.Statement (is k.While)) (seq (attributes s) (behind at.Other (is k.LeftParen) (seq (guard s m) (seq (many (invariant s m)) (block m))))) (has_one at.Statement (is k.While) (tok k.While) refl) (has_seq (attributes s) (behind at.Other (is k.LeftParen) (seq (guard s m) (seq (many (invariant s m)) (block m)))) (attributes_example s) (has_behind at.Other (is k.LeftParen) (tok k.LeftParen) refl (seq (guard s m) (seq (many (invariant s m)) (block m))) (has_seq (guard s m) (seq (many (invariant s m)) (block m)) (guard_example s l m R) (has_seq (many (invariant s m)) (block m) (has_many (invariant s m)) (block_example l m R)))))))

pub while_stmt_rises : (s : List ℕ) (l m : Levels) → LevelsRise l m → LevelsAre m → Rises (while_stmt s l) (while_stmt s m)
unfolding while_stmt attributes guard expr invariant block
while_stmt_rises s l m R M = sealed_rises (is k.While) false never (made while_of (seq (one at.Statement (is k.While)) (seq (attributes s) (behind at.Other (is k.LeftParen) (seq (guard s l) (seq (many (invariant s l)) (block l))))))) (made while_of (seq (one at.Statement (is k.While)) (seq (attributes s) (behind at.Other (is k.LeftParen) (seq (guard s m) (seq (many (invariant s m)) (block m))))))) (made_rises while_of (seq (one at.Statement (is k.While)) (seq (attributes s) (behind at.Other (is k.LeftParen) (seq (guard s l) (seq (many (invariant s l)) (block l)))))) (seq (one at.Statement (is k.While)) (seq (attributes s) (behind at.Other (is k.LeftParen) (seq (guard s m) (seq (many (invariant s m)) (block m)))))) (seq_rises (one at.Statement (is k.While)) (one at.Statement (is k.While)) (seq (attributes s) (behind at.Other (is k.LeftParen) (seq (guard s l) (seq (many (invariant s l)) (block l))))) (seq (attributes s) (behind at.Other (is k.LeftParen) (seq (guard s m) (seq (many (invariant s m)) (block m))))) (one_rises at.Statement (is k.While)) (seq_rises (attributes s) (attributes s) (behind at.Other (is k.LeftParen) (seq (guard s l) (seq (many (invariant s l)) (block l)))) (behind at.Other (is k.LeftParen) (seq (guard s m) (seq (many (invariant s m)) (block m)))) (attributes_rises s) (behind_rises at.Other (is k.LeftParen) (seq (guard s l) (seq (many (invariant s l)) (block l))) (seq (guard s m) (seq (many (invariant s m)) (block m))) (seq_rises (guard s l) (guard s m) (seq (many (invariant s l)) (block l)) (seq (many (invariant s m)) (block m)) (guard_rises s l m R M) (seq_rises (many (invariant s l)) (many (invariant s m)) (block l) (block m) (many_rises (invariant s l) (invariant s m) (invariant_rises s l m R M) (invariant_lawful s m M) (λ t. refl)) (block_rises l m R M) (block_lawful m M) (block_example l m R)) (seq_lawful (many (invariant s m)) (block m) (many_lawful (invariant s m) (invariant_lawful s m M) refl (apart (λ t. refl) (λ t. refl) refl)) (block_lawful m M) (apart (λ t. refl) (λ t. refl) refl)) (has_seq (many (invariant s m)) (block m) (has_many (invariant s m)) (block_example l m R))) (seq_lawful (guard s m) (seq (many (invariant s m)) (block m)) (guard_lawful s m M) (seq_lawful (many (invariant s m)) (block m) (many_lawful (invariant s m) (invariant_lawful s m M) refl (apart (λ t. refl) (λ t. refl) refl)) (block_lawful m M) (apart (λ t. refl) (λ t. refl) refl)) (apart (λ t. refl) (λ t. refl) refl)) (has_seq (guard s m) (seq (many (invariant s m)) (block m)) (guard_example s l m R) (has_seq (many (invariant s m)) (block m) (has_many (invariant s m)) (block_example l m R)))) (behind_lawful at.Other (is k.LeftParen) (seq (guard s m) (seq (many (invariant s m)) (block m))) (seq_lawful (guard s m) (seq (many (invariant s m)) (block m)) (guard_lawful s m M) (seq_lawful (many (invariant s m)) (block m) (many_lawful (invariant s m) (invariant_lawful s m M) refl (apart (λ t. refl) (λ t. refl) refl)) (block_lawful m M) (apart (λ t. refl) (λ t. refl) refl)) (apart (λ t. refl) (λ t. refl) refl))) (has_behind at.Other (is k.LeftParen) (tok k.LeftParen) refl (seq (guard s m) (seq (many (invariant s m)) (block m))) (has_seq (guard s m) (seq (many (invariant s m)) (block m)) (guard_example s l m R) (has_seq (many (invariant s m)) (block m) (has_many (invariant s m)) (block_example l m R))))) (seq_lawful (attributes s) (behind at.Other (is k.LeftParen) (seq (guard s m) (seq (many (invariant s m)) (block m)))) (attributes_lawful s) (behind_lawful at.Other (is k.LeftParen) (seq (guard s m) (seq (many (invariant s m)) (block m))) (seq_lawful (guard s m) (seq (many (invariant s m)) (block m)) (guard_lawful s m M) (seq_lawful (many (invariant s m)) (block m) (many_lawful (invariant s m) (invariant_lawful s m M) refl (apart (λ t. refl) (λ t. refl) refl)) (block_lawful m M) (apart (λ t. refl) (λ t. refl) refl)) (apart (λ t. refl) (λ t. refl) refl))) (apart (λ t. refl) (λ t. refl) refl)) (has_seq (attributes s) (behind at.Other (is k.LeftParen) (seq (guard s m) (seq (many (invariant s m)) (block m)))) (attributes_example s) (has_behind at.Other (is k.LeftParen) (tok k.LeftParen) refl (seq (guard s m) (seq (many (invariant s m)) (block m))) (has_seq (guard s m) (seq (many (invariant s m)) (block m)) (guard_example s l m R) (has_seq (many (invariant s m)) (block m) (has_many (invariant s m)) (block_example l m R)))))))

pub stmt_example : (s : List ℕ) (l m : Levels) → LevelsRise l m → HasExample (stmt s m)
unfolding stmt
stmt_example s l m R = has_sealed begins_stmt false (is k.Else) (alt (simple s m) (alt (if_stmt s m) (alt (while_stmt s m) (named_stmt s m)))) (has_first (simple s m) (alt (if_stmt s m) (alt (while_stmt s m) (named_stmt s m))) (simple_example s l m R))

pub stmt_rises : (s : List ℕ) (l m : Levels) → LevelsRise l m → LevelsAre m → Rises (stmt s l) (stmt s m)
unfolding stmt simple if_stmt while_stmt named_stmt
stmt_rises s l m R M = sealed_rises begins_stmt false (is k.Else) (alt (simple s l) (alt (if_stmt s l) (alt (while_stmt s l) (named_stmt s l)))) (alt (simple s m) (alt (if_stmt s m) (alt (while_stmt s m) (named_stmt s m)))) (alt_rises (simple s l) (simple s m) (alt (if_stmt s l) (alt (while_stmt s l) (named_stmt s l))) (alt (if_stmt s m) (alt (while_stmt s m) (named_stmt s m))) (simple_rises s l m R M) (alt_rises (if_stmt s l) (if_stmt s m) (alt (while_stmt s l) (named_stmt s l)) (alt (while_stmt s m) (named_stmt s m)) (if_stmt_rises s l m R M) (alt_rises (while_stmt s l) (while_stmt s m) (named_stmt s l) (named_stmt s m) (while_stmt_rises s l m R M) (named_stmt_rises s l m R M) (λ t. refl)) (λ t. refl)) (λ t. refl))

pub statements_example : (s : List ℕ) (m : Levels) → HasExample (statements s m)
unfolding statements
statements_example s m = has_sealed begins_stmt true follows_stmts (many (stmt s m)) (has_many (stmt s m))

pub statements_rises : (s : List ℕ) (l m : Levels) → LevelsRise l m → LevelsAre m → Rises (statements s l) (statements s m)
unfolding statements stmt
statements_rises s l m R M = sealed_rises begins_stmt true follows_stmts (many (stmt s l)) (many (stmt s m)) (many_rises (stmt s l) (stmt s m) (stmt_rises s l m R M) (stmt_lawful s m M) (λ t. refl))
