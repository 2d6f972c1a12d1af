-- The rules of declarations and programs are lawful.
use Rattle.bpl_ast.specs.declared.decl.Decl.TheVariants as decls
use Rattle.bpl_parse.proofs.EachTerminal.{apart, within}
use Rattle.bpl_parse.proofs.ExprsLaws.{unary_lawful, implication_lawful, expr_lawful}
use Rattle.bpl_parse.proofs.LevelsLaws.{LevelsAre}
use Rattle.bpl_parse.proofs.NamesLaws.{name_lawful, names_lawful, attributes_lawful}
use Rattle.bpl_parse.proofs.SortsLaws.{unnamed_sort_lawful, sort_lawful}
use Rattle.bpl_parse.proofs.StmtsLaws.{condition_lawful, if_rest_lawful, statements_lawful}
use Rattle.bpl_parse.specs.Decls.{synonym_of, synonym, uniqueness, constants_of, constants, named_argument_of, argument_sort, named_argument, unnamed_argument_of, unnamed_argument, argument, no_function_arguments, some_function_arguments, function_arguments, no_body, some_body, function_body, returns_of, returned, plain_of, plain, function_end, function_of, function, axiom_of, axiom_decl, group_of, variable_group, variables_of, variables, globals, parameter_group_of, parameter_group, no_parameters, some_parameters, parameters, outs, groups_of, maybe_outs, heads_of, heads, body_of, body, names_of, maybe_names, modifies_of, modifies, contract, spec, bodiless, bodied, procedure_end, procedure_of, procedure, implementation_of, implementation, decl, ast_of, program, levels, whole}
use Rattle.bpl_parse.specs.Exprs.{unary, implication, expr}
use Rattle.bpl_parse.specs.Names.{name, names, attributes}
use Rattle.bpl_parse.specs.Reader.{Levels}
use Rattle.bpl_parse.specs.Sorts.{unnamed_sort, sort}
use Rattle.bpl_parse.specs.Stmts.{condition, if_rest, statements}
use Rattle.bpl_parse.specs.Tests.{is, begins_sort, begins_parameter, begins_contract, begins_spec, begins_procedure_end, begins_decl}
use Rattle.bpl_parse.specs.declared.place.Place.TheVariants as at
use Rattle.bpl_parse.specs.declared.place.Place.{Place}
use Rattle.bpl_rules.proofs.Choice.{seq_lawful, made_lawful, placed_lawful, alt_lawful, sealed_lawful}
use Rattle.bpl_rules.proofs.Forms.{behind_lawful, ended_lawful, separated_lawful}
use Rattle.bpl_rules.proofs.Laws.{Lawful}
use Rattle.bpl_rules.proofs.Many.{many_lawful}
use Rattle.bpl_rules.proofs.Nested.{maybe_lawful}
use Rattle.bpl_rules.proofs.Single.{one_lawful, end_lawful, refuse_lawful}
use Rattle.bpl_rules.specs.Rules.{one, end, refuse, seq, made, placed, alt, maybe, many, never, behind, ended, separated}
use Rattle.bpl_tok.specs.declared.token.Terminal.TheVariants as k
use Rattle.std.proofs.Common.{is_some, ℕ, zero, suc, false, List, [], Some, None, refl}

pub synonym_lawful : (s : List ℕ) (l : Levels) → LevelsAre l → Lawful (synonym s l)
unfolding synonym attributes sort
synonym_lawful s l L = sealed_lawful (is k.TypeWord) false never (made synonym_of (seq (one at.Other (is k.TypeWord)) (seq (attributes s) (seq (name s at.Other) (behind at.SynonymSign (is k.EqualsSign) (ended (sort s l) at.AfterSort (is k.Semicolon))))))) (made_lawful synonym_of (seq (one at.Other (is k.TypeWord)) (seq (attributes s) (seq (name s at.Other) (behind at.SynonymSign (is k.EqualsSign) (ended (sort s l) at.AfterSort (is k.Semicolon)))))) (seq_lawful (one at.Other (is k.TypeWord)) (seq (attributes s) (seq (name s at.Other) (behind at.SynonymSign (is k.EqualsSign) (ended (sort s l) at.AfterSort (is k.Semicolon))))) (one_lawful at.Other (is k.TypeWord)) (seq_lawful (attributes s) (seq (name s at.Other) (behind at.SynonymSign (is k.EqualsSign) (ended (sort s l) at.AfterSort (is k.Semicolon)))) (attributes_lawful s) (seq_lawful (name s at.Other) (behind at.SynonymSign (is k.EqualsSign) (ended (sort s l) at.AfterSort (is k.Semicolon))) (name_lawful s at.Other) (behind_lawful at.SynonymSign (is k.EqualsSign) (ended (sort s l) at.AfterSort (is k.Semicolon)) (ended_lawful (sort s l) at.AfterSort (is k.Semicolon) (sort_lawful s l L) (apart (λ t. refl) (λ t. refl) refl))) (apart (λ t. refl) (λ t. refl) refl)) (apart (λ t. refl) (λ t. refl) refl)) (apart (λ t. refl) (λ t. refl) refl))) refl (within (λ t. refl) (λ t. refl) refl) (within (λ t. refl) (λ t. refl) refl)

pub uniqueness_lawful : Lawful uniqueness
uniqueness_lawful = made_lawful is_some (maybe (one at.Other (is k.Unique))) (maybe_lawful (one at.Other (is k.Unique)) (one_lawful at.Other (is k.Unique)) refl)

pub constants_lawful : (s : List ℕ) (l : Levels) → LevelsAre l → Lawful (constants s l)
unfolding constants attributes names sort
constants_lawful s l L = sealed_lawful (is k.Const) false never (made constants_of (seq (one at.Other (is k.Const)) (seq (attributes s) (seq uniqueness (seq (names s) (behind at.Other (is k.Colon) (ended (sort s l) at.AfterConstantSort (is k.Semicolon)))))))) (made_lawful constants_of (seq (one at.Other (is k.Const)) (seq (attributes s) (seq uniqueness (seq (names s) (behind at.Other (is k.Colon) (ended (sort s l) at.AfterConstantSort (is k.Semicolon))))))) (seq_lawful (one at.Other (is k.Const)) (seq (attributes s) (seq uniqueness (seq (names s) (behind at.Other (is k.Colon) (ended (sort s l) at.AfterConstantSort (is k.Semicolon)))))) (one_lawful at.Other (is k.Const)) (seq_lawful (attributes s) (seq uniqueness (seq (names s) (behind at.Other (is k.Colon) (ended (sort s l) at.AfterConstantSort (is k.Semicolon))))) (attributes_lawful s) (seq_lawful uniqueness (seq (names s) (behind at.Other (is k.Colon) (ended (sort s l) at.AfterConstantSort (is k.Semicolon)))) uniqueness_lawful (seq_lawful (names s) (behind at.Other (is k.Colon) (ended (sort s l) at.AfterConstantSort (is k.Semicolon))) (names_lawful s) (behind_lawful at.Other (is k.Colon) (ended (sort s l) at.AfterConstantSort (is k.Semicolon)) (ended_lawful (sort s l) at.AfterConstantSort (is k.Semicolon) (sort_lawful s l L) (apart (λ t. refl) (λ t. refl) refl))) (apart (λ t. refl) (λ t. refl) refl)) (apart (λ t. refl) (λ t. refl) refl)) (apart (λ t. refl) (λ t. refl) refl)) (apart (λ t. refl) (λ t. refl) refl))) refl (within (λ t. refl) (λ t. refl) refl) (within (λ t. refl) (λ t. refl) refl)

pub argument_sort_lawful : (s : List ℕ) (l : Levels) → LevelsAre l → Lawful (argument_sort s l)
unfolding sort
argument_sort_lawful s l L = behind_lawful at.AfterSort (is k.Colon) (sort s l) (sort_lawful s l L)

pub named_argument_lawful : (s : List ℕ) (l : Levels) → LevelsAre l → Lawful (named_argument s l)
unfolding sort
named_argument_lawful s l L = made_lawful named_argument_of (seq (name s at.Sort) (maybe (argument_sort s l))) (seq_lawful (name s at.Sort) (maybe (argument_sort s l)) (name_lawful s at.Sort) (maybe_lawful (argument_sort s l) (argument_sort_lawful s l L) refl) (apart (λ t. refl) (λ t. refl) refl))

pub unnamed_argument_lawful : (s : List ℕ) (l : Levels) → LevelsAre l → Lawful (unnamed_argument s l)
unfolding unnamed_sort
unnamed_argument_lawful s l L = placed_lawful unnamed_argument_of (unnamed_sort s l) (unnamed_sort_lawful s l L) refl

pub argument_lawful : (s : List ℕ) (l : Levels) → LevelsAre l → Lawful (argument s l)
unfolding argument sort unnamed_sort
argument_lawful s l L = sealed_lawful begins_sort false (is k.Colon) (alt (named_argument s l) (unnamed_argument s l)) (alt_lawful (named_argument s l) (unnamed_argument s l) (named_argument_lawful s l L) (unnamed_argument_lawful s l L) (apart (λ t. refl) (λ t. refl) refl) refl) refl (within (λ t. refl) (λ t. refl) refl) (within (λ t. refl) (λ t. refl) refl)

pub no_function_arguments_lawful : Lawful no_function_arguments
no_function_arguments_lawful = made_lawful (λ t. []) (one at.Sort (is k.RightParen)) (one_lawful at.Sort (is k.RightParen))

pub some_function_arguments_lawful : (s : List ℕ) (l : Levels) → LevelsAre l → Lawful (some_function_arguments s l)
unfolding argument
some_function_arguments_lawful s l L = ended_lawful (separated at.Other (is k.Comma) (argument s l)) at.AfterSort (is k.RightParen) (separated_lawful at.Other (is k.Comma) (argument s l) (argument_lawful s l L) refl (apart (λ t. refl) (λ t. refl) refl)) (apart (λ t. refl) (λ t. refl) refl)

pub function_arguments_lawful : (s : List ℕ) (l : Levels) → LevelsAre l → Lawful (function_arguments s l)
unfolding argument
function_arguments_lawful s l L = alt_lawful no_function_arguments (some_function_arguments s l) no_function_arguments_lawful (some_function_arguments_lawful s l L) (apart (λ t. refl) (λ t. refl) refl) refl

pub no_body_lawful : (place : Place) → Lawful (no_body place)
no_body_lawful place = made_lawful (λ t. None) (one place (is k.Semicolon)) (one_lawful place (is k.Semicolon))

pub some_body_lawful : (s : List ℕ) (l : Levels) (place : Place) → LevelsAre l → Lawful (some_body s l place)
unfolding expr
some_body_lawful s l place L = made_lawful Some (behind place (is k.LeftBrace) (ended (expr s l) at.AfterOperand (is k.RightBrace))) (behind_lawful place (is k.LeftBrace) (ended (expr s l) at.AfterOperand (is k.RightBrace)) (ended_lawful (expr s l) at.AfterOperand (is k.RightBrace) (expr_lawful s l L) (apart (λ t. refl) (λ t. refl) refl)))

pub function_body_lawful : (s : List ℕ) (l : Levels) (place : Place) → LevelsAre l → Lawful (function_body s l place)
unfolding expr
function_body_lawful s l place L = alt_lawful (no_body place) (some_body s l place) (no_body_lawful place) (some_body_lawful s l place L) (apart (λ t. refl) (λ t. refl) refl) refl

pub returned_lawful : (s : List ℕ) (l : Levels) → LevelsAre l → Lawful (returned s l)
unfolding argument
returned_lawful s l L = made_lawful returns_of (seq (one at.Other (is k.Returns)) (behind at.Other (is k.LeftParen) (ended (argument s l) at.AfterSort (is k.RightParen)))) (seq_lawful (one at.Other (is k.Returns)) (behind at.Other (is k.LeftParen) (ended (argument s l) at.AfterSort (is k.RightParen))) (one_lawful at.Other (is k.Returns)) (behind_lawful at.Other (is k.LeftParen) (ended (argument s l) at.AfterSort (is k.RightParen)) (ended_lawful (argument s l) at.AfterSort (is k.RightParen) (argument_lawful s l L) (apart (λ t. refl) (λ t. refl) refl))) (apart (λ t. refl) (λ t. refl) refl))

pub plain_lawful : (s : List ℕ) (l : Levels) → LevelsAre l → Lawful (plain s l)
unfolding sort
plain_lawful s l L = made_lawful plain_of (seq (one at.Other (is k.Colon)) (sort s l)) (seq_lawful (one at.Other (is k.Colon)) (sort s l) (one_lawful at.Other (is k.Colon)) (sort_lawful s l L) (apart (λ t. refl) (λ t. refl) refl))

pub function_end_lawful : (s : List ℕ) (l : Levels) → LevelsAre l → Lawful (function_end s l)
unfolding argument expr sort
function_end_lawful s l L = alt_lawful (seq (returned s l) (function_body s l at.Other)) (seq (plain s l) (function_body s l at.AfterSort)) (seq_lawful (returned s l) (function_body s l at.Other) (returned_lawful s l L) (function_body_lawful s l at.Other L) (apart (λ t. refl) (λ t. refl) refl)) (seq_lawful (plain s l) (function_body s l at.AfterSort) (plain_lawful s l L) (function_body_lawful s l at.AfterSort L) (apart (λ t. refl) (λ t. refl) refl)) (apart (λ t. refl) (λ t. refl) refl) refl

pub function_lawful : (s : List ℕ) (l : Levels) → LevelsAre l → Lawful (function s l)
unfolding function attributes argument expr sort
function_lawful s l L = sealed_lawful (is k.Function) false never (made function_of (seq (one at.Other (is k.Function)) (seq (attributes s) (seq (name s at.Other) (behind at.AfterDeclaredName (is k.LeftParen) (seq (function_arguments s l) (function_end s l))))))) (made_lawful function_of (seq (one at.Other (is k.Function)) (seq (attributes s) (seq (name s at.Other) (behind at.AfterDeclaredName (is k.LeftParen) (seq (function_arguments s l) (function_end s l)))))) (seq_lawful (one at.Other (is k.Function)) (seq (attributes s) (seq (name s at.Other) (behind at.AfterDeclaredName (is k.LeftParen) (seq (function_arguments s l) (function_end s l))))) (one_lawful at.Other (is k.Function)) (seq_lawful (attributes s) (seq (name s at.Other) (behind at.AfterDeclaredName (is k.LeftParen) (seq (function_arguments s l) (function_end s l)))) (attributes_lawful s) (seq_lawful (name s at.Other) (behind at.AfterDeclaredName (is k.LeftParen) (seq (function_arguments s l) (function_end s l))) (name_lawful s at.Other) (behind_lawful at.AfterDeclaredName (is k.LeftParen) (seq (function_arguments s l) (function_end s l)) (seq_lawful (function_arguments s l) (function_end s l) (function_arguments_lawful s l L) (function_end_lawful s l L) (apart (λ t. refl) (λ t. refl) refl))) (apart (λ t. refl) (λ t. refl) refl)) (apart (λ t. refl) (λ t. refl) refl)) (apart (λ t. refl) (λ t. refl) refl))) refl (within (λ t. refl) (λ t. refl) refl) (within (λ t. refl) (λ t. refl) refl)

pub axiom_decl_lawful : (s : List ℕ) (l : Levels) → LevelsAre l → Lawful (axiom_decl s l)
unfolding axiom_decl attributes expr
axiom_decl_lawful s l L = sealed_lawful (is k.Axiom) false never (made axiom_of (seq (one at.Other (is k.Axiom)) (condition s l))) (made_lawful axiom_of (seq (one at.Other (is k.Axiom)) (condition s l)) (seq_lawful (one at.Other (is k.Axiom)) (condition s l) (one_lawful at.Other (is k.Axiom)) (condition_lawful s l L) (apart (λ t. refl) (λ t. refl) refl))) refl (within (λ t. refl) (λ t. refl) refl) (within (λ t. refl) (λ t. refl) refl)

pub variable_group_lawful : (s : List ℕ) (l : Levels) → LevelsAre l → Lawful (variable_group s l)
unfolding variable_group names sort
variable_group_lawful s l L = sealed_lawful (is k.Ident) false never (placed group_of (seq (names s) (behind at.Other (is k.Colon) (sort s l)))) (placed_lawful group_of (seq (names s) (behind at.Other (is k.Colon) (sort s l))) (seq_lawful (names s) (behind at.Other (is k.Colon) (sort s l)) (names_lawful s) (behind_lawful at.Other (is k.Colon) (sort s l) (sort_lawful s l L)) (apart (λ t. refl) (λ t. refl) refl)) refl) refl (within (λ t. refl) (λ t. refl) refl) (within (λ t. refl) (λ t. refl) refl)

pub variables_lawful : (s : List ℕ) (l : Levels) → LevelsAre l → Lawful (variables s l)
unfolding variables attributes variable_group
variables_lawful s l L = sealed_lawful (is k.Var) false never (made variables_of (seq (one at.Statement (is k.Var)) (seq (attributes s) (ended (separated at.Other (is k.Comma) (variable_group s l)) at.AfterSort (is k.Semicolon))))) (made_lawful variables_of (seq (one at.Statement (is k.Var)) (seq (attributes s) (ended (separated at.Other (is k.Comma) (variable_group s l)) at.AfterSort (is k.Semicolon)))) (seq_lawful (one at.Statement (is k.Var)) (seq (attributes s) (ended (separated at.Other (is k.Comma) (variable_group s l)) at.AfterSort (is k.Semicolon))) (one_lawful at.Statement (is k.Var)) (seq_lawful (attributes s) (ended (separated at.Other (is k.Comma) (variable_group s l)) at.AfterSort (is k.Semicolon)) (attributes_lawful s) (ended_lawful (separated at.Other (is k.Comma) (variable_group s l)) at.AfterSort (is k.Semicolon) (separated_lawful at.Other (is k.Comma) (variable_group s l) (variable_group_lawful s l L) refl (apart (λ t. refl) (λ t. refl) refl)) (apart (λ t. refl) (λ t. refl) refl)) (apart (λ t. refl) (λ t. refl) refl)) (apart (λ t. refl) (λ t. refl) refl))) refl (within (λ t. refl) (λ t. refl) refl) (within (λ t. refl) (λ t. refl) refl)

pub globals_lawful : (s : List ℕ) (l : Levels) → LevelsAre l → Lawful (globals s l)
unfolding variables
globals_lawful s l L = made_lawful decls.Variables (variables s l) (variables_lawful s l L)

pub parameter_group_lawful : (s : List ℕ) (l : Levels) → LevelsAre l → Lawful (parameter_group s l)
unfolding parameter_group attributes names sort
parameter_group_lawful s l L = sealed_lawful begins_parameter false never (placed parameter_group_of (seq (attributes s) (seq (names s) (behind at.Other (is k.Colon) (sort s l))))) (placed_lawful parameter_group_of (seq (attributes s) (seq (names s) (behind at.Other (is k.Colon) (sort s l)))) (seq_lawful (attributes s) (seq (names s) (behind at.Other (is k.Colon) (sort s l))) (attributes_lawful s) (seq_lawful (names s) (behind at.Other (is k.Colon) (sort s l)) (names_lawful s) (behind_lawful at.Other (is k.Colon) (sort s l) (sort_lawful s l L)) (apart (λ t. refl) (λ t. refl) refl)) (apart (λ t. refl) (λ t. refl) refl)) refl) refl (within (λ t. refl) (λ t. refl) refl) (within (λ t. refl) (λ t. refl) refl)

pub no_parameters_lawful : Lawful no_parameters
no_parameters_lawful = made_lawful (λ t. []) (one at.Other (is k.RightParen)) (one_lawful at.Other (is k.RightParen))

pub some_parameters_lawful : (s : List ℕ) (l : Levels) → LevelsAre l → Lawful (some_parameters s l)
unfolding parameter_group
some_parameters_lawful s l L = ended_lawful (separated at.Other (is k.Comma) (parameter_group s l)) at.AfterSort (is k.RightParen) (separated_lawful at.Other (is k.Comma) (parameter_group s l) (parameter_group_lawful s l L) refl (apart (λ t. refl) (λ t. refl) refl)) (apart (λ t. refl) (λ t. refl) refl)

pub parameters_lawful : (s : List ℕ) (l : Levels) → LevelsAre l → Lawful (parameters s l)
unfolding parameter_group
parameters_lawful s l L = alt_lawful no_parameters (some_parameters s l) no_parameters_lawful (some_parameters_lawful s l L) (apart (λ t. refl) (λ t. refl) refl) refl

pub outs_lawful : (s : List ℕ) (l : Levels) → LevelsAre l → Lawful (outs s l)
unfolding parameter_group
outs_lawful s l L = behind_lawful at.Other (is k.Returns) (behind at.Other (is k.LeftParen) (parameters s l)) (behind_lawful at.Other (is k.LeftParen) (parameters s l) (parameters_lawful s l L))

pub maybe_outs_lawful : (s : List ℕ) (l : Levels) → LevelsAre l → Lawful (maybe_outs s l)
unfolding parameter_group
maybe_outs_lawful s l L = made_lawful groups_of (maybe (outs s l)) (maybe_lawful (outs s l) (outs_lawful s l L) refl)

pub heads_lawful : (s : List ℕ) (l : Levels) → LevelsAre l → Lawful (heads s l)
unfolding heads parameter_group
heads_lawful s l L = sealed_lawful (is k.LeftParen) false (is k.Returns) (made heads_of (seq (one at.AfterDeclaredName (is k.LeftParen)) (seq (parameters s l) (maybe_outs s l)))) (made_lawful heads_of (seq (one at.AfterDeclaredName (is k.LeftParen)) (seq (parameters s l) (maybe_outs s l))) (seq_lawful (one at.AfterDeclaredName (is k.LeftParen)) (seq (parameters s l) (maybe_outs s l)) (one_lawful at.AfterDeclaredName (is k.LeftParen)) (seq_lawful (parameters s l) (maybe_outs s l) (parameters_lawful s l L) (maybe_outs_lawful s l L) (apart (λ t. refl) (λ t. refl) refl)) (apart (λ t. refl) (λ t. refl) refl))) refl (within (λ t. refl) (λ t. refl) refl) (within (λ t. refl) (λ t. refl) refl)

pub body_lawful : (s : List ℕ) (l : Levels) → LevelsAre l → Lawful (body s l)
unfolding body variables statements
body_lawful s l L = sealed_lawful (is k.LeftBrace) false never (made body_of (seq (one at.Other (is k.LeftBrace)) (seq (many (variables s l)) (ended (statements s l) at.Statement (is k.RightBrace))))) (made_lawful body_of (seq (one at.Other (is k.LeftBrace)) (seq (many (variables s l)) (ended (statements s l) at.Statement (is k.RightBrace)))) (seq_lawful (one at.Other (is k.LeftBrace)) (seq (many (variables s l)) (ended (statements s l) at.Statement (is k.RightBrace))) (one_lawful at.Other (is k.LeftBrace)) (seq_lawful (many (variables s l)) (ended (statements s l) at.Statement (is k.RightBrace)) (many_lawful (variables s l) (variables_lawful s l L) refl (apart (λ t. refl) (λ t. refl) refl)) (ended_lawful (statements s l) at.Statement (is k.RightBrace) (statements_lawful s l L) (apart (λ t. refl) (λ t. refl) refl)) (apart (λ t. refl) (λ t. refl) refl)) (apart (λ t. refl) (λ t. refl) refl))) refl (within (λ t. refl) (λ t. refl) refl) (within (λ t. refl) (λ t. refl) refl)

pub maybe_names_lawful : (s : List ℕ) → Lawful (maybe_names s)
unfolding names
maybe_names_lawful s = made_lawful names_of (maybe (names s)) (maybe_lawful (names s) (names_lawful s) refl)

pub modifies_lawful : (s : List ℕ) → Lawful (modifies s)
unfolding modifies attributes names
modifies_lawful s = sealed_lawful (is k.Modifies) false never (made modifies_of (seq (one at.Spec (is k.Modifies)) (seq (attributes s) (ended (maybe_names s) at.Other (is k.Semicolon))))) (made_lawful modifies_of (seq (one at.Spec (is k.Modifies)) (seq (attributes s) (ended (maybe_names s) at.Other (is k.Semicolon)))) (seq_lawful (one at.Spec (is k.Modifies)) (seq (attributes s) (ended (maybe_names s) at.Other (is k.Semicolon))) (one_lawful at.Spec (is k.Modifies)) (seq_lawful (attributes s) (ended (maybe_names s) at.Other (is k.Semicolon)) (attributes_lawful s) (ended_lawful (maybe_names s) at.Other (is k.Semicolon) (maybe_names_lawful s) (apart (λ t. refl) (λ t. refl) refl)) (apart (λ t. refl) (λ t. refl) refl)) (apart (λ t. refl) (λ t. refl) refl))) refl (within (λ t. refl) (λ t. refl) refl) (within (λ t. refl) (λ t. refl) refl)

pub contract_lawful : Lawful contract
unfolding contract
contract_lawful = sealed_lawful begins_contract false never (refuse at.Spec) (refuse_lawful at.Spec) refl (within (λ t. refl) (λ t. refl) refl) (within (λ t. refl) (λ t. refl) refl)

pub spec_lawful : (s : List ℕ) → Lawful (spec s)
unfolding spec modifies contract
spec_lawful s = sealed_lawful begins_spec false never (alt (modifies s) contract) (alt_lawful (modifies s) contract (modifies_lawful s) contract_lawful (apart (λ t. refl) (λ t. refl) refl) refl) refl (within (λ t. refl) (λ t. refl) refl) (within (λ t. refl) (λ t. refl) refl)

pub bodiless_lawful : (s : List ℕ) → Lawful (bodiless s)
unfolding spec
bodiless_lawful s = made_lawful (λ x. (x, None)) (behind at.Other (is k.Semicolon) (many (spec s))) (behind_lawful at.Other (is k.Semicolon) (many (spec s)) (many_lawful (spec s) (spec_lawful s) refl (apart (λ t. refl) (λ t. refl) refl)))

pub bodied_lawful : (s : List ℕ) (l : Levels) → LevelsAre l → Lawful (bodied s l)
unfolding spec body
bodied_lawful s l L = made_lawful (λ x. (x.0, Some x.1)) (seq (many (spec s)) (body s l)) (seq_lawful (many (spec s)) (body s l) (many_lawful (spec s) (spec_lawful s) refl (apart (λ t. refl) (λ t. refl) refl)) (body_lawful s l L) (apart (λ t. refl) (λ t. refl) refl))

pub procedure_end_lawful : (s : List ℕ) (l : Levels) → LevelsAre l → Lawful (procedure_end s l)
unfolding procedure_end spec body
procedure_end_lawful s l L = sealed_lawful begins_procedure_end false begins_spec (alt (bodiless s) (bodied s l)) (alt_lawful (bodiless s) (bodied s l) (bodiless_lawful s) (bodied_lawful s l L) (apart (λ t. refl) (λ t. refl) refl) refl) refl (within (λ t. refl) (λ t. refl) refl) (within (λ t. refl) (λ t. refl) refl)

pub procedure_lawful : (s : List ℕ) (l : Levels) → LevelsAre l → Lawful (procedure s l)
unfolding procedure attributes heads procedure_end
procedure_lawful s l L = sealed_lawful (is k.Procedure) false begins_spec (made procedure_of (seq (one at.Other (is k.Procedure)) (seq (attributes s) (seq (name s at.Other) (seq (heads s l) (procedure_end s l)))))) (made_lawful procedure_of (seq (one at.Other (is k.Procedure)) (seq (attributes s) (seq (name s at.Other) (seq (heads s l) (procedure_end s l))))) (seq_lawful (one at.Other (is k.Procedure)) (seq (attributes s) (seq (name s at.Other) (seq (heads s l) (procedure_end s l)))) (one_lawful at.Other (is k.Procedure)) (seq_lawful (attributes s) (seq (name s at.Other) (seq (heads s l) (procedure_end s l))) (attributes_lawful s) (seq_lawful (name s at.Other) (seq (heads s l) (procedure_end s l)) (name_lawful s at.Other) (seq_lawful (heads s l) (procedure_end s l) (heads_lawful s l L) (procedure_end_lawful s l L) (apart (λ t. refl) (λ t. refl) refl)) (apart (λ t. refl) (λ t. refl) refl)) (apart (λ t. refl) (λ t. refl) refl)) (apart (λ t. refl) (λ t. refl) refl))) refl (within (λ t. refl) (λ t. refl) refl) (within (λ t. refl) (λ t. refl) refl)

pub implementation_lawful : (s : List ℕ) (l : Levels) → LevelsAre l → Lawful (implementation s l)
unfolding implementation attributes heads body
implementation_lawful s l L = sealed_lawful (is k.Implementation) false never (made implementation_of (seq (one at.Other (is k.Implementation)) (seq (attributes s) (seq (name s at.Other) (seq (heads s l) (body s l)))))) (made_lawful implementation_of (seq (one at.Other (is k.Implementation)) (seq (attributes s) (seq (name s at.Other) (seq (heads s l) (body s l))))) (seq_lawful (one at.Other (is k.Implementation)) (seq (attributes s) (seq (name s at.Other) (seq (heads s l) (body s l)))) (one_lawful at.Other (is k.Implementation)) (seq_lawful (attributes s) (seq (name s at.Other) (seq (heads s l) (body s l))) (attributes_lawful s) (seq_lawful (name s at.Other) (seq (heads s l) (body s l)) (name_lawful s at.Other) (seq_lawful (heads s l) (body s l) (heads_lawful s l L) (body_lawful s l L) (apart (λ t. refl) (λ t. refl) refl)) (apart (λ t. refl) (λ t. refl) refl)) (apart (λ t. refl) (λ t. refl) refl)) (apart (λ t. refl) (λ t. refl) refl))) refl (within (λ t. refl) (λ t. refl) refl) (within (λ t. refl) (λ t. refl) refl)

pub decl_lawful : (s : List ℕ) (l : Levels) → LevelsAre l → Lawful (decl s l)
unfolding decl synonym constants function axiom_decl variables procedure implementation
decl_lawful s l L = sealed_lawful begins_decl false begins_spec (alt (synonym s l) (alt (constants s l) (alt (function s l) (alt (axiom_decl s l) (alt (globals s l) (alt (procedure s l) (implementation s l))))))) (alt_lawful (synonym s l) (alt (constants s l) (alt (function s l) (alt (axiom_decl s l) (alt (globals s l) (alt (procedure s l) (implementation s l)))))) (synonym_lawful s l L) (alt_lawful (constants s l) (alt (function s l) (alt (axiom_decl s l) (alt (globals s l) (alt (procedure s l) (implementation s l))))) (constants_lawful s l L) (alt_lawful (function s l) (alt (axiom_decl s l) (alt (globals s l) (alt (procedure s l) (implementation s l)))) (function_lawful s l L) (alt_lawful (axiom_decl s l) (alt (globals s l) (alt (procedure s l) (implementation s l))) (axiom_decl_lawful s l L) (alt_lawful (globals s l) (alt (procedure s l) (implementation s l)) (globals_lawful s l L) (alt_lawful (procedure s l) (implementation s l) (procedure_lawful s l L) (implementation_lawful s l L) (apart (λ t. refl) (λ t. refl) refl) refl) (apart (λ t. refl) (λ t. refl) refl) refl) (apart (λ t. refl) (λ t. refl) refl) refl) (apart (λ t. refl) (λ t. refl) refl) refl) (apart (λ t. refl) (λ t. refl) refl) refl) (apart (λ t. refl) (λ t. refl) refl) refl) refl (within (λ t. refl) (λ t. refl) refl) (within (λ t. refl) (λ t. refl) refl)

pub program_lawful : (s : List ℕ) (l : Levels) → LevelsAre l → Lawful (program s l)
unfolding program decl
program_lawful s l L = made_lawful ast_of (seq (many (decl s l)) (end at.Other)) (seq_lawful (many (decl s l)) (end at.Other) (many_lawful (decl s l) (decl_lawful s l L) refl (apart (λ t. refl) (λ t. refl) refl)) (end_lawful at.Other) (apart (λ t. refl) (λ t. refl) refl))

pub levels_are : (s : List ℕ) (depth : ℕ) → LevelsAre (levels s depth)
unfolding levels sort expr implication unary statements if_rest
levels_are s zero = record { sorts = tt; exprs = tt; impls = tt; unaries = tt; blocks = tt; ifs = tt }
levels_are s (suc depth) = record {
  sorts = sort_lawful s (levels s depth) (levels_are s depth);
  exprs = expr_lawful s (levels s depth) (levels_are s depth);
  impls = implication_lawful s (levels s depth) (levels_are s depth);
  unaries = unary_lawful s (levels s depth) (levels_are s depth);
  blocks = statements_lawful s (levels s depth) (levels_are s depth);
  ifs = if_rest_lawful s (levels s depth) (levels_are s depth);
}

pub whole_lawful : (s : List ℕ) (depth : ℕ) → Lawful (whole s depth)
unfolding whole
whole_lawful s depth = program_lawful s (levels s depth) (levels_are s depth)
