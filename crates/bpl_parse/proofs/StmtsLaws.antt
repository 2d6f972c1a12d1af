-- The rules of statements are lawful.
use Rattle.bpl_ast.specs.declared.expr.Expr.{Expr}
use Rattle.bpl_ast.specs.declared.stmt.Else.TheVariants as others
use Rattle.bpl_ast.specs.declared.stmt.Guard.TheVariants as guards
use Rattle.bpl_ast.specs.declared.stmt.Stmt.{Stmt}
use Rattle.bpl_parse.proofs.EachTerminal.{apart, within}
use Rattle.bpl_parse.proofs.ExprsLaws.{arguments_lawful, expr_lawful}
use Rattle.bpl_parse.proofs.LevelsLaws.{LevelsAre}
use Rattle.bpl_parse.proofs.NamesLaws.{name_lawful, names_lawful, attributes_lawful}
use Rattle.bpl_parse.specs.Exprs.{arguments, expr}
use Rattle.bpl_parse.specs.Names.{name, names, attributes}
use Rattle.bpl_parse.specs.Reader.{Reader, place_of, as_expr, as_stmts, as_if_rest, Levels}
use Rattle.bpl_parse.specs.Stmts.{after_target, target_index, target_of, next_target, values, assignment_of, assignment, label_colon, named_stmt_of, named_rest, named_stmt, condition, listing, assert_of, assertion, assume_of, assumption_stmt, havoc_of, havoc, goto_of, jump, return_of, return_stmt, break_of, break_stmt, call_alone, next_out, outs_of, call_with_outs, called_rest, call_of, call_stmt, simple, any_guard, condition_guard, guard, after_brace, block, if_of, after_else_if, else_if, else_end, else_part, if_rest_of, if_rest, if_stmt_of, if_stmt, freedom, invariant_of, invariant, while_of, while_stmt, stmt, statements}
use Rattle.bpl_parse.specs.Tests.{is, begins_assignment, begins_simple, begins_stmt, begins_invariant, begins_if_rest, follows_stmts}
use Rattle.bpl_parse.specs.declared.parts.CalledRest.TheVariants as calls
use Rattle.bpl_parse.specs.declared.parts.IfRest.{IfRest}
use Rattle.bpl_parse.specs.declared.parts.NamedRest.TheVariants as rests
use Rattle.bpl_parse.specs.declared.place.Place.TheVariants as at
use Rattle.bpl_rules.proofs.Choice.{seq_lawful, made_lawful, placed_lawful, alt_lawful, sealed_lawful}
use Rattle.bpl_rules.proofs.Forms.{behind_lawful, ended_lawful, separated_lawful}
use Rattle.bpl_rules.proofs.Laws.{Lawful}
use Rattle.bpl_rules.proofs.Many.{many_lawful}
use Rattle.bpl_rules.proofs.Nested.{AtBelow, at_map, AfterIs, nested_lawful, maybe_lawful}
use Rattle.bpl_rules.proofs.Single.{one_lawful}
use Rattle.bpl_rules.specs.Rules.{one, seq, made, placed, alt, maybe, many, never, behind, ended, separated}
use Rattle.bpl_tok.specs.declared.token.Terminal.TheVariants as k
use Rattle.std.proofs.Common.{is_some, ℕ, true, false, List, refl}

pub after_target_lawful : (r : Reader Expr) → Lawful (as_expr r) → Lawful (after_target r)
after_target_lawful r R = ended_lawful (as_expr r) at.AfterIndex (is k.RightBracket) R (apart (λ t. refl) (λ t. refl) refl)

pub target_index_after : (l : Levels) → LevelsAre l → AtBelow (λ r. AfterIs never (after_target r)) l.exprs
target_index_after l L = at_map (λ r. Lawful (as_expr r)) _ l.exprs (λ r R. record { lawful = after_target_lawful r R; goes_on = within (λ t. refl) (λ t. refl) refl }) L.exprs

pub target_index_lawful : (l : Levels) → LevelsAre l → Lawful (target_index l)
unfolding target_index
target_index_lawful l L = nested_lawful at.Other (is k.LeftBracket) never (λ x. x.1) after_target l.exprs (target_index_after l L)

pub next_target_lawful : (s : List ℕ) (l : Levels) → LevelsAre l → Lawful (next_target s l)
unfolding next_target target_index
next_target_lawful s l L = sealed_lawful (is k.Comma) false (is k.LeftBracket) (behind at.Other (is k.Comma) (made target_of (seq (name s at.Other) (maybe (target_index l))))) (behind_lawful at.Other (is k.Comma) (made target_of (seq (name s at.Other) (maybe (target_index l)))) (made_lawful target_of (seq (name s at.Other) (maybe (target_index l))) (seq_lawful (name s at.Other) (maybe (target_index l)) (name_lawful s at.Other) (maybe_lawful (target_index l) (target_index_lawful l L) refl) (apart (λ t. refl) (λ t. refl) refl)))) refl (within (λ t. refl) (λ t. refl) refl) (within (λ t. refl) (λ t. refl) refl)

pub values_lawful : (s : List ℕ) (l : Levels) → LevelsAre l → Lawful (values s l)
unfolding values expr
values_lawful s l L = ended_lawful (separated at.AfterOperand (is k.Comma) (expr s l)) at.AfterOperand (is k.Semicolon) (separated_lawful at.AfterOperand (is k.Comma) (expr s l) (expr_lawful s l L) refl (apart (λ t. refl) (λ t. refl) refl)) (apart (λ t. refl) (λ t. refl) refl)

pub assignment_lawful : (s : List ℕ) (l : Levels) → LevelsAre l → Lawful (assignment s l)
unfolding assignment target_index next_target values expr
assignment_lawful s l L = sealed_lawful begins_assignment false never (made assignment_of (seq (maybe (target_index l)) (seq (many (next_target s l)) (behind at.Other (is k.Assign) (values s l))))) (made_lawful assignment_of (seq (maybe (target_index l)) (seq (many (next_target s l)) (behind at.Other (is k.Assign) (values s l)))) (seq_lawful (maybe (target_index l)) (seq (many (next_target s l)) (behind at.Other (is k.Assign) (values s l))) (maybe_lawful (target_index l) (target_index_lawful l L) refl) (seq_lawful (many (next_target s l)) (behind at.Other (is k.Assign) (values s l)) (many_lawful (next_target s l) (next_target_lawful s l L) refl (apart (λ t. refl) (λ t. refl) refl)) (behind_lawful at.Other (is k.Assign) (values s l) (values_lawful s l L)) (apart (λ t. refl) (λ t. refl) refl)) (apart (λ t. refl) (λ t. refl) refl))) refl (within (λ t. refl) (λ t. refl) refl) (within (λ t. refl) (λ t. refl) refl)

pub label_colon_lawful : Lawful label_colon
label_colon_lawful = made_lawful (λ t. rests.Label) (one at.Other (is k.Colon)) (one_lawful at.Other (is k.Colon))

pub named_rest_lawful : (s : List ℕ) (l : Levels) → LevelsAre l → Lawful (named_rest s l)
unfolding assignment
named_rest_lawful s l L = alt_lawful label_colon (assignment s l) label_colon_lawful (assignment_lawful s l L) (apart (λ t. refl) (λ t. refl) refl) refl

pub named_stmt_lawful : (s : List ℕ) (l : Levels) → LevelsAre l → Lawful (named_stmt s l)
unfolding named_stmt assignment
named_stmt_lawful s l L = sealed_lawful (is k.Ident) false never (made named_stmt_of (seq (name s at.Statement) (named_rest s l))) (made_lawful named_stmt_of (seq (name s at.Statement) (named_rest s l)) (seq_lawful (name s at.Statement) (named_rest s l) (name_lawful s at.Statement) (named_rest_lawful s l L) (apart (λ t. refl) (λ t. refl) refl))) refl (within (λ t. refl) (λ t. refl) refl) (within (λ t. refl) (λ t. refl) refl)

pub condition_lawful : (s : List ℕ) (l : Levels) → LevelsAre l → Lawful (condition s l)
unfolding attributes expr
condition_lawful s l L = seq_lawful (attributes s) (ended (expr s l) at.AfterOperand (is k.Semicolon)) (attributes_lawful s) (ended_lawful (expr s l) at.AfterOperand (is k.Semicolon) (expr_lawful s l L) (apart (λ t. refl) (λ t. refl) refl)) (apart (λ t. refl) (λ t. refl) refl)

pub listing_lawful : (s : List ℕ) → Lawful (listing s)
unfolding attributes names
listing_lawful s = seq_lawful (attributes s) (ended (names s) at.Other (is k.Semicolon)) (attributes_lawful s) (ended_lawful (names s) at.Other (is k.Semicolon) (names_lawful s) (apart (λ t. refl) (λ t. refl) refl)) (apart (λ t. refl) (λ t. refl) refl)

pub assertion_lawful : (s : List ℕ) (l : Levels) → LevelsAre l → Lawful (assertion s l)
unfolding assertion attributes expr
assertion_lawful s l L = sealed_lawful (is k.Assert) false never (made assert_of (seq (one at.Statement (is k.Assert)) (condition s l))) (made_lawful assert_of (seq (one at.Statement (is k.Assert)) (condition s l)) (seq_lawful (one at.Statement (is k.Assert)) (condition s l) (one_lawful at.Statement (is k.Assert)) (condition_lawful s l L) (apart (λ t. refl) (λ t. refl) refl))) refl (within (λ t. refl) (λ t. refl) refl) (within (λ t. refl) (λ t. refl) refl)

pub assumption_stmt_lawful : (s : List ℕ) (l : Levels) → LevelsAre l → Lawful (assumption_stmt s l)
unfolding assumption_stmt attributes expr
assumption_stmt_lawful s l L = sealed_lawful (is k.Assume) false never (made assume_of (seq (one at.Statement (is k.Assume)) (condition s l))) (made_lawful assume_of (seq (one at.Statement (is k.Assume)) (condition s l)) (seq_lawful (one at.Statement (is k.Assume)) (condition s l) (one_lawful at.Statement (is k.Assume)) (condition_lawful s l L) (apart (λ t. refl) (λ t. refl) refl))) refl (within (λ t. refl) (λ t. refl) refl) (within (λ t. refl) (λ t. refl) refl)

pub havoc_lawful : (s : List ℕ) → Lawful (havoc s)
unfolding havoc attributes names
havoc_lawful s = sealed_lawful (is k.Havoc) false never (made havoc_of (seq (one at.Statement (is k.Havoc)) (listing s))) (made_lawful havoc_of (seq (one at.Statement (is k.Havoc)) (listing s)) (seq_lawful (one at.Statement (is k.Havoc)) (listing s) (one_lawful at.Statement (is k.Havoc)) (listing_lawful s) (apart (λ t. refl) (λ t. refl) refl))) refl (within (λ t. refl) (λ t. refl) refl) (within (λ t. refl) (λ t. refl) refl)

pub jump_lawful : (s : List ℕ) → Lawful (jump s)
unfolding jump attributes names
jump_lawful s = sealed_lawful (is k.Goto) false never (made goto_of (seq (one at.Statement (is k.Goto)) (listing s))) (made_lawful goto_of (seq (one at.Statement (is k.Goto)) (listing s)) (seq_lawful (one at.Statement (is k.Goto)) (listing s) (one_lawful at.Statement (is k.Goto)) (listing_lawful s) (apart (λ t. refl) (λ t. refl) refl))) refl (within (λ t. refl) (λ t. refl) refl) (within (λ t. refl) (λ t. refl) refl)

pub return_stmt_lawful : (s : List ℕ) → Lawful (return_stmt s)
unfolding return_stmt attributes
return_stmt_lawful s = sealed_lawful (is k.Return) false never (made return_of (seq (one at.Statement (is k.Return)) (ended (attributes s) at.Other (is k.Semicolon)))) (made_lawful return_of (seq (one at.Statement (is k.Return)) (ended (attributes s) at.Other (is k.Semicolon))) (seq_lawful (one at.Statement (is k.Return)) (ended (attributes s) at.Other (is k.Semicolon)) (one_lawful at.Statement (is k.Return)) (ended_lawful (attributes s) at.Other (is k.Semicolon) (attributes_lawful s) (apart (λ t. refl) (λ t. refl) refl)) (apart (λ t. refl) (λ t. refl) refl))) refl (within (λ t. refl) (λ t. refl) refl) (within (λ t. refl) (λ t. refl) refl)

pub break_stmt_lawful : (s : List ℕ) → Lawful (break_stmt s)
unfolding break_stmt attributes
break_stmt_lawful s = sealed_lawful (is k.Break) false never (made break_of (seq (one at.Statement (is k.Break)) (seq (attributes s) (ended (maybe (name s at.Other)) at.Other (is k.Semicolon))))) (made_lawful break_of (seq (one at.Statement (is k.Break)) (seq (attributes s) (ended (maybe (name s at.Other)) at.Other (is k.Semicolon)))) (seq_lawful (one at.Statement (is k.Break)) (seq (attributes s) (ended (maybe (name s at.Other)) at.Other (is k.Semicolon))) (one_lawful at.Statement (is k.Break)) (seq_lawful (attributes s) (ended (maybe (name s at.Other)) at.Other (is k.Semicolon)) (attributes_lawful s) (ended_lawful (maybe (name s at.Other)) at.Other (is k.Semicolon) (maybe_lawful (name s at.Other) (name_lawful s at.Other) refl) (apart (λ t. refl) (λ t. refl) refl)) (apart (λ t. refl) (λ t. refl) refl)) (apart (λ t. refl) (λ t. refl) refl))) refl (within (λ t. refl) (λ t. refl) refl) (within (λ t. refl) (λ t. refl) refl)

pub call_alone_lawful : (l : Levels) → LevelsAre l → Lawful (call_alone l)
unfolding arguments
call_alone_lawful l L = made_lawful calls.Arguments (arguments l) (arguments_lawful l L)

pub next_out_lawful : (s : List ℕ) → Lawful (next_out s)
next_out_lawful s = behind_lawful at.Other (is k.Comma) (name s at.Other) (name_lawful s at.Other)

pub call_with_outs_lawful : (s : List ℕ) (l : Levels) → LevelsAre l → Lawful (call_with_outs s l)
unfolding arguments
call_with_outs_lawful s l L = made_lawful outs_of (seq (many (next_out s)) (behind at.Other (is k.Assign) (seq (name s at.Other) (arguments l)))) (seq_lawful (many (next_out s)) (behind at.Other (is k.Assign) (seq (name s at.Other) (arguments l))) (many_lawful (next_out s) (next_out_lawful s) refl (apart (λ t. refl) (λ t. refl) refl)) (behind_lawful at.Other (is k.Assign) (seq (name s at.Other) (arguments l)) (seq_lawful (name s at.Other) (arguments l) (name_lawful s at.Other) (arguments_lawful l L) (apart (λ t. refl) (λ t. refl) refl))) (apart (λ t. refl) (λ t. refl) refl))

pub called_rest_lawful : (s : List ℕ) (l : Levels) → LevelsAre l → Lawful (called_rest s l)
unfolding arguments
called_rest_lawful s l L = alt_lawful (call_alone l) (call_with_outs s l) (call_alone_lawful l L) (call_with_outs_lawful s l L) (apart (λ t. refl) (λ t. refl) refl) refl

pub call_stmt_lawful : (s : List ℕ) (l : Levels) → LevelsAre l → Lawful (call_stmt s l)
unfolding call_stmt attributes arguments
call_stmt_lawful s l L = sealed_lawful (is k.Call) false never (made call_of (seq (one at.Statement (is k.Call)) (seq (attributes s) (ended (seq (name s at.Called) (called_rest s l)) at.Other (is k.Semicolon))))) (made_lawful call_of (seq (one at.Statement (is k.Call)) (seq (attributes s) (ended (seq (name s at.Called) (called_rest s l)) at.Other (is k.Semicolon)))) (seq_lawful (one at.Statement (is k.Call)) (seq (attributes s) (ended (seq (name s at.Called) (called_rest s l)) at.Other (is k.Semicolon))) (one_lawful at.Statement (is k.Call)) (seq_lawful (attributes s) (ended (seq (name s at.Called) (called_rest s l)) at.Other (is k.Semicolon)) (attributes_lawful s) (ended_lawful (seq (name s at.Called) (called_rest s l)) at.Other (is k.Semicolon) (seq_lawful (name s at.Called) (called_rest s l) (name_lawful s at.Called) (called_rest_lawful s l L) (apart (λ t. refl) (λ t. refl) refl)) (apart (λ t. refl) (λ t. refl) refl)) (apart (λ t. refl) (λ t. refl) refl)) (apart (λ t. refl) (λ t. refl) refl))) refl (within (λ t. refl) (λ t. refl) refl) (within (λ t. refl) (λ t. refl) refl)

pub simple_lawful : (s : List ℕ) (l : Levels) → LevelsAre l → Lawful (simple s l)
unfolding simple assertion assumption_stmt havoc jump return_stmt break_stmt call_stmt
simple_lawful s l L = sealed_lawful begins_simple false never (alt (assertion s l) (alt (assumption_stmt s l) (alt (havoc s) (alt (jump s) (alt (return_stmt s) (alt (break_stmt s) (call_stmt s l))))))) (alt_lawful (assertion s l) (alt (assumption_stmt s l) (alt (havoc s) (alt (jump s) (alt (return_stmt s) (alt (break_stmt s) (call_stmt s l)))))) (assertion_lawful s l L) (alt_lawful (assumption_stmt s l) (alt (havoc s) (alt (jump s) (alt (return_stmt s) (alt (break_stmt s) (call_stmt s l))))) (assumption_stmt_lawful s l L) (alt_lawful (havoc s) (alt (jump s) (alt (return_stmt s) (alt (break_stmt s) (call_stmt s l)))) (havoc_lawful s) (alt_lawful (jump s) (alt (return_stmt s) (alt (break_stmt s) (call_stmt s l))) (jump_lawful s) (alt_lawful (return_stmt s) (alt (break_stmt s) (call_stmt s l)) (return_stmt_lawful s) (alt_lawful (break_stmt s) (call_stmt s l) (break_stmt_lawful s) (call_stmt_lawful s l L) (apart (λ t. refl) (λ t. refl) refl) refl) (apart (λ t. refl) (λ t. refl) refl) refl) (apart (λ t. refl) (λ t. refl) refl) refl) (apart (λ t. refl) (λ t. refl) refl) refl) (apart (λ t. refl) (λ t. refl) refl) refl) (apart (λ t. refl) (λ t. refl) refl) refl) refl (within (λ t. refl) (λ t. refl) refl) (within (λ t. refl) (λ t. refl) refl)

pub any_guard_lawful : Lawful any_guard
any_guard_lawful = ended_lawful (made (λ t. guards.Any t.at) (one at.Operand (is k.Star))) at.Other (is k.RightParen) (made_lawful (λ t. guards.Any t.at) (one at.Operand (is k.Star)) (one_lawful at.Operand (is k.Star))) (apart (λ t. refl) (λ t. refl) refl)

pub condition_guard_lawful : (s : List ℕ) (l : Levels) → LevelsAre l → Lawful (condition_guard s l)
unfolding expr
condition_guard_lawful s l L = ended_lawful (made guards.Condition (expr s l)) at.AfterOperand (is k.RightParen) (made_lawful guards.Condition (expr s l) (expr_lawful s l L)) (apart (λ t. refl) (λ t. refl) refl)

pub guard_lawful : (s : List ℕ) (l : Levels) → LevelsAre l → Lawful (guard s l)
unfolding guard expr
guard_lawful s l L = alt_lawful any_guard (condition_guard s l) any_guard_lawful (condition_guard_lawful s l L) (apart (λ t. refl) (λ t. refl) refl) refl

pub after_brace_lawful : (r : Reader (List Stmt)) → Lawful (as_stmts r) → Lawful (after_brace r)
after_brace_lawful r R = ended_lawful (as_stmts r) at.Statement (is k.RightBrace) R (apart (λ t. refl) (λ t. refl) refl)

pub block_after : (l : Levels) → LevelsAre l → AtBelow (λ r. AfterIs never (after_brace r)) l.blocks
block_after l L = at_map (λ r. Lawful (as_stmts r)) _ l.blocks (λ r R. record { lawful = after_brace_lawful r R; goes_on = within (λ t. refl) (λ t. refl) refl }) L.blocks

pub block_lawful : (l : Levels) → LevelsAre l → Lawful (block l)
unfolding block
block_lawful l L = nested_lawful at.Other (is k.LeftBrace) never (λ x. x.1) after_brace l.blocks (block_after l L)

pub after_else_if_lawful : (r : Reader IfRest) → Lawful (as_if_rest r) → Lawful (after_else_if r)
after_else_if_lawful r R = R

pub else_if_after : (l : Levels) → LevelsAre l → AtBelow (λ r. AfterIs (is k.Else) (after_else_if r)) l.ifs
else_if_after l L = at_map (λ r. Lawful (as_if_rest r)) _ l.ifs (λ r R. record { lawful = after_else_if_lawful r R; goes_on = within (λ t. refl) (λ t. refl) refl }) L.ifs

pub else_if_lawful : (l : Levels) → LevelsAre l → Lawful (else_if l)
unfolding else_if
else_if_lawful l L = nested_lawful at.Other (is k.If) (is k.Else) if_of after_else_if l.ifs (else_if_after l L)

pub else_end_lawful : (l : Levels) → LevelsAre l → Lawful (else_end l)
unfolding else_if block
else_end_lawful l L = alt_lawful (made others.If (else_if l)) (made others.Block (block l)) (made_lawful others.If (else_if l) (else_if_lawful l L)) (made_lawful others.Block (block l) (block_lawful l L)) (apart (λ t. refl) (λ t. refl) refl) refl

pub else_part_lawful : (l : Levels) → LevelsAre l → Lawful (else_part l)
unfolding else_part else_if block
else_part_lawful l L = sealed_lawful (is k.Else) false (is k.Else) (behind at.Other (is k.Else) (else_end l)) (behind_lawful at.Other (is k.Else) (else_end l) (else_end_lawful l L)) refl (within (λ t. refl) (λ t. refl) refl) (within (λ t. refl) (λ t. refl) refl)

pub if_rest_lawful : (s : List ℕ) (l : Levels) → LevelsAre l → Lawful (if_rest s l)
unfolding if_rest attributes guard expr block else_part
if_rest_lawful s l L = sealed_lawful begins_if_rest false (is k.Else) (made if_rest_of (seq (attributes s) (behind at.Other (is k.LeftParen) (seq (guard s l) (seq (block l) (maybe (else_part l))))))) (made_lawful if_rest_of (seq (attributes s) (behind at.Other (is k.LeftParen) (seq (guard s l) (seq (block l) (maybe (else_part l)))))) (seq_lawful (attributes s) (behind at.Other (is k.LeftParen) (seq (guard s l) (seq (block l) (maybe (else_part l))))) (attributes_lawful s) (behind_lawful at.Other (is k.LeftParen) (seq (guard s l) (seq (block l) (maybe (else_part l)))) (seq_lawful (guard s l) (seq (block l) (maybe (else_part l))) (guard_lawful s l L) (seq_lawful (block l) (maybe (else_part l)) (block_lawful l L) (maybe_lawful (else_part l) (else_part_lawful l L) refl) (apart (λ t. refl) (λ t. refl) refl)) (apart (λ t. refl) (λ t. refl) refl))) (apart (λ t. refl) (λ t. refl) refl))) refl (within (λ t. refl) (λ t. refl) refl) (within (λ t. refl) (λ t. refl) refl)

pub if_stmt_lawful : (s : List ℕ) (l : Levels) → LevelsAre l → Lawful (if_stmt s l)
unfolding if_stmt if_rest
if_stmt_lawful s l L = sealed_lawful (is k.If) false (is k.Else) (made if_stmt_of (seq (one at.Statement (is k.If)) (if_rest s l))) (made_lawful if_stmt_of (seq (one at.Statement (is k.If)) (if_rest s l)) (seq_lawful (one at.Statement (is k.If)) (if_rest s l) (one_lawful at.Statement (is k.If)) (if_rest_lawful s l L) (apart (λ t. refl) (λ t. refl) refl))) refl (within (λ t. refl) (λ t. refl) refl) (within (λ t. refl) (λ t. refl) refl)

pub freedom_lawful : Lawful freedom
freedom_lawful = made_lawful is_some (maybe (one at.Other (is k.Free))) (maybe_lawful (one at.Other (is k.Free)) (one_lawful at.Other (is k.Free)) refl)

pub invariant_lawful : (s : List ℕ) (l : Levels) → LevelsAre l → Lawful (invariant s l)
unfolding invariant attributes expr
invariant_lawful s l L = sealed_lawful begins_invariant false never (placed (λ t. invariant_of (place_of t)) (seq freedom (behind at.Other (is k.Invariant) (condition s l)))) (placed_lawful (λ t. invariant_of (place_of t)) (seq freedom (behind at.Other (is k.Invariant) (condition s l))) (seq_lawful freedom (behind at.Other (is k.Invariant) (condition s l)) freedom_lawful (behind_lawful at.Other (is k.Invariant) (condition s l) (condition_lawful s l L)) (apart (λ t. refl) (λ t. refl) refl)) refl) refl (within (λ t. refl) (λ t. refl) refl) (within (λ t. refl) (λ t. refl) refl)

pub while_stmt_lawful : (s : List ℕ) (l : Levels) → LevelsAre l → Lawful (while_stmt s l)
unfolding while_stmt attributes guard expr invariant block
while_stmt_lawful s l L = sealed_lawful (is k.While) false never (made while_of (seq (one at.Statement (is k.While)) (seq (attributes s) (behind at.Other (is k.LeftParen) (seq (guard s l) (seq (many (invariant s l)) (block l))))))) (made_lawful while_of (seq (one at.Statement (is k.While)) (seq (attributes s) (behind at.Other (is k.LeftParen) (seq (guard s l) (seq (many (invariant s l)) (block l)))))) (seq_lawful (one at.Statement (is k.While)) (seq (attributes s) (behind at.Other (is k.LeftParen) (seq (guard s l) (seq (many (invariant s l)) (block l))))) (one_lawful at.Statement (is k.While)) (seq_lawful (attributes s) (behind at.Other (is k.LeftParen) (seq (guard s l) (seq (many (invariant s l)) (block l)))) (attributes_lawful s) (behind_lawful at.Other (is k.LeftParen) (seq (guard s l) (seq (many (invariant s l)) (block l))) (seq_lawful (guard s l) (seq (many (invariant s l)) (block l)) (guard_lawful s l L) (seq_lawful (many (invariant s l)) (block l) (many_lawful (invariant s l) (invariant_lawful s l L) refl (apart (λ t. refl) (λ t. refl) refl)) (block_lawful l L) (apart (λ t. refl) (λ t. refl) refl)) (apart (λ t. refl) (λ t. refl) refl))) (apart (λ t. refl) (λ t. refl) refl)) (apart (λ t. refl) (λ t. refl) refl))) refl (within (λ t. refl) (λ t. refl) refl) (within (λ t. refl) (λ t. refl) refl)

pub stmt_lawful : (s : List ℕ) (l : Levels) → LevelsAre l → Lawful (stmt s l)
unfolding stmt simple if_stmt while_stmt named_stmt
stmt_lawful s l L = sealed_lawful begins_stmt false (is k.Else) (alt (simple s l) (alt (if_stmt s l) (alt (while_stmt s l) (named_stmt s l)))) (alt_lawful (simple s l) (alt (if_stmt s l) (alt (while_stmt s l) (named_stmt s l))) (simple_lawful s l L) (alt_lawful (if_stmt s l) (alt (while_stmt s l) (named_stmt s l)) (if_stmt_lawful s l L) (alt_lawful (while_stmt s l) (named_stmt s l) (while_stmt_lawful s l L) (named_stmt_lawful s l L) (apart (λ t. refl) (λ t. refl) refl) refl) (apart (λ t. refl) (λ t. refl) refl) refl) (apart (λ t. refl) (λ t. refl) refl) refl) refl (within (λ t. refl) (λ t. refl) refl) (within (λ t. refl) (λ t. refl) refl)

pub statements_lawful : (s : List ℕ) (l : Levels) → LevelsAre l → Lawful (statements s l)
unfolding statements stmt
statements_lawful s l L = sealed_lawful begins_stmt true follows_stmts (many (stmt s l)) (many_lawful (stmt s l) (stmt_lawful s l L) refl (apart (λ t. refl) (λ t. refl) refl)) refl (within (λ t. refl) (λ t. refl) refl) (within (λ t. refl) (λ t. refl) refl)
