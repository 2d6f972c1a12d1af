-- The rules of declarations and programs with one level more: what was read is read, a token that was too deep is passed, and what has begun ends as a phrase.
use Rattle.bpl_ast.specs.declared.decl.Decl.TheVariants as decls
use Rattle.bpl_parse.proofs.DeclsLaws.{uniqueness_lawful, argument_sort_lawful, argument_lawful, function_arguments_lawful, function_body_lawful, function_end_lawful, variable_group_lawful, variables_lawful, parameter_group_lawful, parameters_lawful, maybe_outs_lawful, heads_lawful, body_lawful, maybe_names_lawful, spec_lawful, procedure_end_lawful, decl_lawful, levels_are}
use Rattle.bpl_parse.proofs.EachTerminal.{tok, apart}
use Rattle.bpl_parse.proofs.ExprsLaws.{expr_lawful}
use Rattle.bpl_parse.proofs.ExprsRises.{unary_rises, unary_example, implication_rises, implication_example, expr_rises, expr_example}
use Rattle.bpl_parse.proofs.LevelsLaws.{LevelsAre}
use Rattle.bpl_parse.proofs.LevelsRises.{LevelsRise}
use Rattle.bpl_parse.proofs.NamesLaws.{name_lawful, names_lawful, attributes_lawful}
use Rattle.bpl_parse.proofs.NamesRises.{name_rises, name_example, names_rises, names_example, attributes_rises, attributes_example}
use Rattle.bpl_parse.proofs.SortsLaws.{sort_lawful}
use Rattle.bpl_parse.proofs.SortsRises.{unnamed_sort_rises, unnamed_sort_example, sort_rises, sort_example}
use Rattle.bpl_parse.proofs.StmtsLaws.{condition_lawful, statements_lawful}
use Rattle.bpl_parse.proofs.StmtsRises.{condition_rises, condition_example, if_rest_rises, if_rest_example, statements_rises, statements_example}
use Rattle.bpl_parse.specs.Decls.{synonym_of, synonym, uniqueness, constants_of, constants, named_argument_of, argument_sort, named_argument, unnamed_argument_of, unnamed_argument, argument, no_function_arguments, some_function_arguments, function_arguments, no_body, some_body, function_body, returns_of, returned, plain_of, plain, function_end, function_of, function, axiom_of, axiom_decl, group_of, variable_group, variables_of, variables, globals, parameter_group_of, parameter_group, no_parameters, some_parameters, parameters, outs, groups_of, maybe_outs, heads_of, heads, body_of, body, names_of, maybe_names, modifies_of, modifies, contract, spec, bodiless, bodied, procedure_end, procedure_of, procedure, implementation_of, implementation, decl, ast_of, program, levels, whole}
use Rattle.bpl_parse.specs.Exprs.{unary, implication, expr}
use Rattle.bpl_parse.specs.Names.{name, names, attributes}
use Rattle.bpl_parse.specs.Reader.{Levels}
use Rattle.bpl_parse.specs.Sorts.{unnamed_sort, sort}
use Rattle.bpl_parse.specs.Stmts.{condition, if_rest, statements}
use Rattle.bpl_parse.specs.Tests.{is, begins_sort, begins_parameter, begins_contract, begins_spec, begins_procedure_end, begins_decl}
use Rattle.bpl_parse.specs.declared.place.Place.TheVariants as at
use Rattle.bpl_parse.specs.declared.place.Place.{Place}
use Rattle.bpl_rules.proofs.Choice.{seq_lawful}
use Rattle.bpl_rules.proofs.Forms.{behind_lawful, ended_lawful, separated_lawful, behind_rises, ended_rises, separated_rises, has_behind, has_ended, has_separated}
use Rattle.bpl_rules.proofs.Many.{many_lawful}
use Rattle.bpl_rules.proofs.Nested.{maybe_lawful, maybe_rises}
use Rattle.bpl_rules.proofs.Rises.{Rises, HasExample, one_rises, end_rises, refuse_rises, seq_rises, made_rises, placed_rises, alt_rises, many_rises, sealed_rises, has_one, has_seq, has_made, has_placed, has_first, has_second, has_none, has_many, has_sealed}
use Rattle.bpl_rules.proofs.Single.{end_lawful}
use Rattle.bpl_rules.specs.Rules.{one, end, empty, refuse, seq, made, placed, alt, maybe, many, never, behind, ended, separated}
use Rattle.bpl_tok.specs.declared.token.Terminal.TheVariants as k
use Rattle.std.proofs.Common.{is_some, ℕ, zero, suc, false, List, [], Some, None, refl}

pub synonym_example : (s : List ℕ) (l m : Levels) → LevelsRise l m → HasExample (synonym s m)
unfolding synonym
synonym_example s l m R = has_sealed (is k.TypeWord) false never (made synonym_of (seq (one at.Other (is k.TypeWord)) (seq (attributes s) (seq (name s at.Other) (behind at.SynonymSign (is k.EqualsSign) (ended (sort s m) at.AfterSort (is k.Semicolon))))))) (has_made synonym_of (seq (one at.Other (is k.TypeWord)) (seq (attributes s) (seq (name s at.Other) (behind at.SynonymSign (is k.EqualsSign) (ended (sort s m) at.AfterSort (is k.Semicolon)))))) (has_seq (one at.Other (is k.TypeWord)) (seq (attributes s) (seq (name s at.Other) (behind at.SynonymSign (is k.EqualsSign) (ended (sort s m) at.AfterSort (is k.Semicolon))))) (has_one at.Other (is k.TypeWord) (tok k.TypeWord) refl) (has_seq (attributes s) (seq (name s at.Other) (behind at.SynonymSign (is k.EqualsSign) (ended (sort s m) at.AfterSort (is k.Semicolon)))) (attributes_example s) (has_seq (name s at.Other) (behind at.SynonymSign (is k.EqualsSign) (ended (sort s m) at.AfterSort (is k.Semicolon))) (name_example s at.Other) (has_behind at.SynonymSign (is k.EqualsSign) (tok k.EqualsSign) refl (ended (sort s m) at.AfterSort (is k.Semicolon)) (has_ended (sort s m) at.AfterSort (is k.Semicolon) (tok k.Semicolon) refl (sort_example s l m R)))))))

pub synonym_rises : (s : List ℕ) (l m : Levels) → LevelsRise l m → LevelsAre m → Rises (synonym s l) (synonym s m)
unfolding synonym attributes sort
synonym_rises s l m R M = sealed_rises (is k.TypeWord) false never (made synonym_of (seq (one at.Other (is k.TypeWord)) (seq (attributes s) (seq (name s at.Other) (behind at.SynonymSign (is k.EqualsSign) (ended (sort s l) at.AfterSort (is k.Semicolon))))))) (made synonym_of (seq (one at.Other (is k.TypeWord)) (seq (attributes s) (seq (name s at.Other) (behind at.SynonymSign (is k.EqualsSign) (ended (sort s m) at.AfterSort (is k.Semicolon))))))) (made_rises synonym_of (seq (one at.Other (is k.TypeWord)) (seq (attributes s) (seq (name s at.Other) (behind at.SynonymSign (is k.EqualsSign) (ended (sort s l) at.AfterSort (is k.Semicolon)))))) (seq (one at.Other (is k.TypeWord)) (seq (attributes s) (seq (name s at.Other) (behind at.SynonymSign (is k.EqualsSign) (ended (sort s m) at.AfterSort (is k.Semicolon)))))) (seq_rises (one at.Other (is k.TypeWord)) (one at.Other (is k.TypeWord)) (seq (attributes s) (seq (name s at.Other) (behind at.SynonymSign (is k.EqualsSign) (ended (sort s l) at.AfterSort (is k.Semicolon))))) (seq (attributes s) (seq (name s at.Other) (behind at.SynonymSign (is k.EqualsSign) (ended (sort s m) at.AfterSort (is k.Semicolon))))) (one_rises at.Other (is k.TypeWord)) (seq_rises (attributes s) (attributes s) (seq (name s at.Other) (behind at.SynonymSign (is k.EqualsSign) (ended (sort s l) at.AfterSort (is k.Semicolon)))) (seq (name s at.Other) (behind at.SynonymSign (is k.EqualsSign) (ended (sort s m) at.AfterSort (is k.Semicolon)))) (attributes_rises s) (seq_rises (name s at.Other) (name s at.Other) (behind at.SynonymSign (is k.EqualsSign) (ended (sort s l) at.AfterSort (is k.Semicolon))) (behind at.SynonymSign (is k.EqualsSign) (ended (sort s m) at.AfterSort (is k.Semicolon))) (name_rises s at.Other) (behind_rises at.SynonymSign (is k.EqualsSign) (ended (sort s l) at.AfterSort (is k.Semicolon)) (ended (sort s m) at.AfterSort (is k.Semicolon)) (ended_rises (sort s l) (sort s m) at.AfterSort (is k.Semicolon) (sort_rises s l m R M) (tok k.Semicolon) refl) (ended_lawful (sort s m) at.AfterSort (is k.Semicolon) (sort_lawful s m M) (apart (λ t. refl) (λ t. refl) refl)) (has_ended (sort s m) at.AfterSort (is k.Semicolon) (tok k.Semicolon) refl (sort_example s l m R))) (behind_lawful at.SynonymSign (is k.EqualsSign) (ended (sort s m) at.AfterSort (is k.Semicolon)) (ended_lawful (sort s m) at.AfterSort (is k.Semicolon) (sort_lawful s m M) (apart (λ t. refl) (λ t. refl) refl))) (has_behind at.SynonymSign (is k.EqualsSign) (tok k.EqualsSign) refl (ended (sort s m) at.AfterSort (is k.Semicolon)) (has_ended (sort s m) at.AfterSort (is k.Semicolon) (tok k.Semicolon) refl (sort_example s l m R)))) (seq_lawful (name s at.Other) (behind at.SynonymSign (is k.EqualsSign) (ended (sort s m) at.AfterSort (is k.Semicolon))) (name_lawful s at.Other) (behind_lawful at.SynonymSign (is k.EqualsSign) (ended (sort s m) at.AfterSort (is k.Semicolon)) (ended_lawful (sort s m) at.AfterSort (is k.Semicolon) (sort_lawful s m M) (apart (λ t. refl) (λ t. refl) refl))) (apart (λ t. refl) (λ t. refl) refl)) (has_seq (name s at.Other) (behind at.SynonymSign (is k.EqualsSign) (ended (sort s m) at.AfterSort (is k.Semicolon))) (name_example s at.Other) (has_behind at.SynonymSign (is k.EqualsSign) (tok k.EqualsSign) refl (ended (sort s m) at.AfterSort (is k.Semicolon)) (has_ended (sort s m) at.AfterSort (is k.Semicolon) (tok k.Semicolon) refl (sort_example s l m R))))) (seq_lawful (attributes s) (seq (name s at.Other) (behind at.SynonymSign (is k.EqualsSign) (ended (sort s m) at.AfterSort (is k.Semicolon)))) (attributes_lawful s) (seq_lawful (name s at.Other) (behind at.SynonymSign (is k.EqualsSign) (ended (sort s m) at.AfterSort (is k.Semicolon))) (name_lawful s at.Other) (behind_lawful at.SynonymSign (is k.EqualsSign) (ended (sort s m) at.AfterSort (is k.Semicolon)) (ended_lawful (sort s m) at.AfterSort (is k.Semicolon) (sort_lawful s m M) (apart (λ t. refl) (λ t. refl) refl))) (apart (λ t. refl) (λ t. refl) refl)) (apart (λ t. refl) (λ t. refl) refl)) (has_seq (attributes s) (seq (name s at.Other) (behind at.SynonymSign (is k.EqualsSign) (ended (sort s m) at.AfterSort (is k.Semicolon)))) (attributes_example s) (has_seq (name s at.Other) (behind at.SynonymSign (is k.EqualsSign) (ended (sort s m) at.AfterSort (is k.Semicolon))) (name_example s at.Other) (has_behind at.SynonymSign (is k.EqualsSign) (tok k.EqualsSign) refl (ended (sort s m) at.AfterSort (is k.Semicolon)) (has_ended (sort s m) at.AfterSort (is k.Semicolon) (tok k.Semicolon) refl (sort_example s l m R)))))))

pub uniqueness_example : HasExample uniqueness
uniqueness_example = has_made is_some (maybe (one at.Other (is k.Unique))) (has_second (made Some (one at.Other (is k.Unique))) (empty None) (has_none None))

pub uniqueness_rises : Rises uniqueness uniqueness
uniqueness_rises = made_rises is_some (maybe (one at.Other (is k.Unique))) (maybe (one at.Other (is k.Unique))) (maybe_rises (one at.Other (is k.Unique)) (one at.Other (is k.Unique)) (one_rises at.Other (is k.Unique)) (λ t. refl))

pub constants_example : (s : List ℕ) (l m : Levels) → LevelsRise l m → HasExample (constants s m)
unfolding constants
constants_example s l m R = has_sealed (is k.Const) false never (made constants_of (seq (one at.Other (is k.Const)) (seq (attributes s) (seq uniqueness (seq (names s) (behind at.Other (is k.Colon) (ended (sort s m) at.AfterConstantSort (is k.Semicolon)))))))) (has_made constants_of (seq (one at.Other (is k.Const)) (seq (attributes s) (seq uniqueness (seq (names s) (behind at.Other (is k.Colon) (ended (sort s m) at.AfterConstantSort (is k.Semicolon))))))) (has_seq (one at.Other (is k.Const)) (seq (attributes s) (seq uniqueness (seq (names s) (behind at.Other (is k.Colon) (ended (sort s m) at.AfterConstantSort (is k.Semicolon)))))) (has_one at.Other (is k.Const) (tok k.Const) refl) (has_seq (attributes s) (seq uniqueness (seq (names s) (behind at.Other (is k.Colon) (ended (sort s m) at.AfterConstantSort (is k.Semicolon))))) (attributes_example s) (has_seq uniqueness (seq (names s) (behind at.Other (is k.Colon) (ended (sort s m) at.AfterConstantSort (is k.Semicolon)))) uniqueness_example (has_seq (names s) (behind at.Other (is k.Colon) (ended (sort s m) at.AfterConstantSort (is k.Semicolon))) (names_example s) (has_behind at.Other (is k.Colon) (tok k.Colon) refl (ended (sort s m) at.AfterConstantSort (is k.Semicolon)) (has_ended (sort s m) at.AfterConstantSort (is k.Semicolon) (tok k.Semicolon) refl (sort_example s l m R))))))))

pub constants_rises : (s : List ℕ) (l m : Levels) → LevelsRise l m → LevelsAre m → Rises (constants s l) (constants s m)
unfolding constants attributes names sort
constants_rises s l m R M = sealed_rises (is k.Const) false never (made constants_of (seq (one at.Other (is k.Const)) (seq (attributes s) (seq uniqueness (seq (names s) (behind at.Other (is k.Colon) (ended (sort s l) at.AfterConstantSort (is k.Semicolon)))))))) (made constants_of (seq (one at.Other (is k.Const)) (seq (attributes s) (seq uniqueness (seq (names s) (behind at.Other (is k.Colon) (ended (sort s m) at.AfterConstantSort (is k.Semicolon)))))))) (made_rises constants_of (seq (one at.Other (is k.Const)) (seq (attributes s) (seq uniqueness (seq (names s) (behind at.Other (is k.Colon) (ended (sort s l) at.AfterConstantSort (is k.Semicolon))))))) (seq (one at.Other (is k.Const)) (seq (attributes s) (seq uniqueness (seq (names s) (behind at.Other (is k.Colon) (ended (sort s m) at.AfterConstantSort (is k.Semicolon))))))) (seq_rises (one at.Other (is k.Const)) (one at.Other (is k.Const)) (seq (attributes s) (seq uniqueness (seq (names s) (behind at.Other (is k.Colon) (ended (sort s l) at.AfterConstantSort (is k.Semicolon)))))) (seq (attributes s) (seq uniqueness (seq (names s) (behind at.Other (is k.Colon) (ended (sort s m) at.AfterConstantSort (is k.Semicolon)))))) (one_rises at.Other (is k.Const)) (seq_rises (attributes s) (attributes s) (seq uniqueness (seq (names s) (behind at.Other (is k.Colon) (ended (sort s l) at.AfterConstantSort (is k.Semicolon))))) (seq uniqueness (seq (names s) (behind at.Other (is k.Colon) (ended (sort s m) at.AfterConstantSort (is k.Semicolon))))) (attributes_rises s) (seq_rises uniqueness uniqueness (seq (names s) (behind at.Other (is k.Colon) (ended (sort s l) at.AfterConstantSort (is k.Semicolon)))) (seq (names s) (behind at.Other (is k.Colon) (ended (sort s m) at.AfterConstantSort (is k.Semicolon)))) uniqueness_rises (seq_rises (names s) (names s) (behind at.Other (is k.Colon) (ended (sort s l) at.AfterConstantSort (is k.Semicolon))) (behind at.Other (is k.Colon) (ended (sort s m) at.AfterConstantSort (is k.Semicolon))) (names_rises s) (behind_rises at.Other (is k.Colon) (ended (sort s l) at.AfterConstantSort (is k.Semicolon)) (ended (sort s m) at.AfterConstantSort (is k.Semicolon)) (ended_rises (sort s l) (sort s m) at.AfterConstantSort (is k.Semicolon) (sort_rises s l m R M) (tok k.Semicolon) refl) (ended_lawful (sort s m) at.AfterConstantSort (is k.Semicolon) (sort_lawful s m M) (apart (λ t. refl) (λ t. refl) refl)) (has_ended (sort s m) at.AfterConstantSort (is k.Semicolon) (tok k.Semicolon) refl (sort_example s l m R))) (behind_lawful at.Other (is k.Colon) (ended (sort s m) at.AfterConstantSort (is k.Semicolon)) (ended_lawful (sort s m) at.AfterConstantSort (is k.Semicolon) (sort_lawful s m M) (apart (λ t. refl) (λ t. refl) refl))) (has_behind at.Other (is k.Colon) (tok k.Colon) refl (ended (sort s m) at.AfterConstantSort (is k.Semicolon)) (has_ended (sort s m) at.AfterConstantSort (is k.Semicolon) (tok k.Semicolon) refl (sort_example s l m R)))) (seq_lawful (names s) (behind at.Other (is k.Colon) (ended (sort s m) at.AfterConstantSort (is k.Semicolon))) (names_lawful s) (behind_lawful at.Other (is k.Colon) (ended (sort s m) at.AfterConstantSort (is k.Semicolon)) (ended_lawful (sort s m) at.AfterConstantSort (is k.Semicolon) (sort_lawful s m M) (apart (λ t. refl) (λ t. refl) refl))) (apart (λ t. refl) (λ t. refl) refl)) (has_seq (names s) (behind at.Other (is k.Colon) (ended (sort s m) at.AfterConstantSort (is k.Semicolon))) (names_example s) (has_behind at.Other (is k.Colon) (tok k.Colon) refl (ended (sort s m) at.AfterConstantSort (is k.Semicolon)) (has_ended (sort s m) at.AfterConstantSort (is k.Semicolon) (tok k.Semicolon) refl (sort_example s l m R))))) (seq_lawful uniqueness (seq (names s) (behind at.Other (is k.Colon) (ended (sort s m) at.AfterConstantSort (is k.Semicolon)))) uniqueness_lawful (seq_lawful (names s) (behind at.Other (is k.Colon) (ended (sort s m) at.AfterConstantSort (is k.Semicolon))) (names_lawful s) (behind_lawful at.Other (is k.Colon) (ended (sort s m) at.AfterConstantSort (is k.Semicolon)) (ended_lawful (sort s m) at.AfterConstantSort (is k.Semicolon) (sort_lawful s m M) (apart (λ t. refl) (λ t. refl) refl))) (apart (λ t. refl) (λ t. refl) refl)) (apart (λ t. refl) (λ t. refl) refl)) (has_seq uniqueness (seq (names s) (behind at.Other (is k.Colon) (ended (sort s m) at.AfterConstantSort (is k.Semicolon)))) uniqueness_example (has_seq (names s) (behind at.Other (is k.Colon) (ended (sort s m) at.AfterConstantSort (is k.Semicolon))) (names_example s) (has_behind at.Other (is k.Colon) (tok k.Colon) refl (ended (sort s m) at.AfterConstantSort (is k.Semicolon)) (has_ended (sort s m) at.AfterConstantSort (is k.Semicolon) (tok k.Semicolon) refl (sort_example s l m R)))))) (seq_lawful (attributes s) (seq uniqueness (seq (names s) (behind at.Other (is k.Colon) (ended (sort s m) at.AfterConstantSort (is k.Semicolon))))) (attributes_lawful s) (seq_lawful uniqueness (seq (names s) (behind at.Other (is k.Colon) (ended (sort s m) at.AfterConstantSort (is k.Semicolon)))) uniqueness_lawful (seq_lawful (names s) (behind at.Other (is k.Colon) (ended (sort s m) at.AfterConstantSort (is k.Semicolon))) (names_lawful s) (behind_lawful at.Other (is k.Colon) (ended (sort s m) at.AfterConstantSort (is k.Semicolon)) (ended_lawful (sort s m) at.AfterConstantSort (is k.Semicolon) (sort_lawful s m M) (apart (λ t. refl) (λ t. refl) refl))) (apart (λ t. refl) (λ t. refl) refl)) (apart (λ t. refl) (λ t. refl) refl)) (apart (λ t. refl) (λ t. refl) refl)) (has_seq (attributes s) (seq uniqueness (seq (names s) (behind at.Other (is k.Colon) (ended (sort s m) at.AfterConstantSort (is k.Semicolon))))) (attributes_example s) (has_seq uniqueness (seq (names s) (behind at.Other (is k.Colon) (ended (sort s m) at.AfterConstantSort (is k.Semicolon)))) uniqueness_example (has_seq (names s) (behind at.Other (is k.Colon) (ended (sort s m) at.AfterConstantSort (is k.Semicolon))) (names_example s) (has_behind at.Other (is k.Colon) (tok k.Colon) refl (ended (sort s m) at.AfterConstantSort (is k.Semicolon)) (has_ended (sort s m) at.AfterConstantSort (is k.Semicolon) (tok k.Semicolon) refl (sort_example s l m R))))))))

pub argument_sort_example : (s : List ℕ) (l m : Levels) → LevelsRise l m → HasExample (argument_sort s m)
argument_sort_example s l m R = has_behind at.AfterSort (is k.Colon) (tok k.Colon) refl (sort s m) (sort_example s l m R)

pub argument_sort_rises : (s : List ℕ) (l m : Levels) → LevelsRise l m → LevelsAre m → Rises (argument_sort s l) (argument_sort s m)
unfolding sort
argument_sort_rises s l m R M = behind_rises at.AfterSort (is k.Colon) (sort s l) (sort s m) (sort_rises s l m R M) (sort_lawful s m M) (sort_example s l m R)

pub named_argument_example : (s : List ℕ) (l m : Levels) → LevelsRise l m → HasExample (named_argument s m)
named_argument_example s l m R = has_made named_argument_of (seq (name s at.Sort) (maybe (argument_sort s m))) (has_seq (name s at.Sort) (maybe (argument_sort s m)) (name_example s at.Sort) (has_second (made Some (argument_sort s m)) (empty None) (has_none None)))

pub named_argument_rises : (s : List ℕ) (l m : Levels) → LevelsRise l m → LevelsAre m → Rises (named_argument s l) (named_argument s m)
unfolding sort
named_argument_rises s l m R M = made_rises named_argument_of (seq (name s at.Sort) (maybe (argument_sort s l))) (seq (name s at.Sort) (maybe (argument_sort s m))) (seq_rises (name s at.Sort) (name s at.Sort) (maybe (argument_sort s l)) (maybe (argument_sort s m)) (name_rises s at.Sort) (maybe_rises (argument_sort s l) (argument_sort s m) (argument_sort_rises s l m R M) (λ t. refl)) (maybe_lawful (argument_sort s m) (argument_sort_lawful s m M) refl) (has_second (made Some (argument_sort s m)) (empty None) (has_none None)))

pub unnamed_argument_example : (s : List ℕ) (l m : Levels) → LevelsRise l m → HasExample (unnamed_argument s m)
unnamed_argument_example s l m R = has_placed unnamed_argument_of (unnamed_sort s m) (unnamed_sort_example s l m R)

pub unnamed_argument_rises : (s : List ℕ) (l m : Levels) → LevelsRise l m → LevelsAre m → Rises (unnamed_argument s l) (unnamed_argument s m)
unfolding unnamed_sort
unnamed_argument_rises s l m R M = placed_rises unnamed_argument_of (unnamed_sort s l) (unnamed_sort s m) (unnamed_sort_rises s l m R M)

pub argument_example : (s : List ℕ) (l m : Levels) → LevelsRise l m → HasExample (argument s m)
unfolding argument
argument_example s l m R = has_sealed begins_sort false (is k.Colon) (alt (named_argument s m) (unnamed_argument s m)) (has_first (named_argument s m) (unnamed_argument s m) (named_argument_example s l m R))

pub argument_rises : (s : List ℕ) (l m : Levels) → LevelsRise l m → LevelsAre m → Rises (argument s l) (argument s m)
unfolding argument sort unnamed_sort
argument_rises s l m R M = sealed_rises begins_sort false (is k.Colon) (alt (named_argument s l) (unnamed_argument s l)) (alt (named_argument s m) (unnamed_argument s m)) (alt_rises (named_argument s l) (named_argument s m) (unnamed_argument s l) (unnamed_argument s m) (named_argument_rises s l m R M) (unnamed_argument_rises s l m R M) (λ t. refl))

pub no_function_arguments_example : HasExample no_function_arguments
no_function_arguments_example = has_made (λ t. []) (one at.Sort (is k.RightParen)) (has_one at.Sort (is k.RightParen) (tok k.RightParen) refl)

pub no_function_arguments_rises : Rises no_function_arguments no_function_arguments
no_function_arguments_rises = made_rises (λ t. []) (one at.Sort (is k.RightParen)) (one at.Sort (is k.RightParen)) (one_rises at.Sort (is k.RightParen))

pub some_function_arguments_example : (s : List ℕ) (l m : Levels) → LevelsRise l m → HasExample (some_function_arguments s m)
some_function_arguments_example s l m R = has_ended (separated at.Other (is k.Comma) (argument s m)) at.AfterSort (is k.RightParen) (tok k.RightParen) refl (has_separated at.Other (is k.Comma) (argument s m) (argument_example s l m R))

pub some_function_arguments_rises : (s : List ℕ) (l m : Levels) → LevelsRise l m → LevelsAre m → Rises (some_function_arguments s l) (some_function_arguments s m)
unfolding argument
some_function_arguments_rises s l m R M = ended_rises (separated at.Other (is k.Comma) (argument s l)) (separated at.Other (is k.Comma) (argument s m)) at.AfterSort (is k.RightParen) (separated_rises at.Other (is k.Comma) (argument s l) (argument s m) (argument_rises s l m R M) (argument_lawful s m M) (argument_example s l m R) (apart (λ t. refl) (λ t. refl) refl)) (tok k.RightParen) refl

pub function_arguments_example : (s : List ℕ) (l m : Levels) → LevelsRise l m → HasExample (function_arguments s m)
function_arguments_example s l m R = has_first no_function_arguments (some_function_arguments s m) no_function_arguments_example

pub function_arguments_rises : (s : List ℕ) (l m : Levels) → LevelsRise l m → LevelsAre m → Rises (function_arguments s l) (function_arguments s m)
unfolding argument
function_arguments_rises s l m R M = alt_rises no_function_arguments no_function_arguments (some_function_arguments s l) (some_function_arguments s m) no_function_arguments_rises (some_function_arguments_rises s l m R M) (λ t. refl)

pub no_body_example : (place : Place) → HasExample (no_body place)
no_body_example place = has_made (λ t. None) (one place (is k.Semicolon)) (has_one place (is k.Semicolon) (tok k.Semicolon) refl)

pub no_body_rises : (place : Place) → Rises (no_body place) (no_body place)
no_body_rises place = made_rises (λ t. None) (one place (is k.Semicolon)) (one place (is k.Semicolon)) (one_rises place (is k.Semicolon))

pub some_body_example : (s : List ℕ) (l m : Levels) (place : Place) → LevelsRise l m → HasExample (some_body s m place)
some_body_example s l m place R = has_made Some (behind place (is k.LeftBrace) (ended (expr s m) at.AfterOperand (is k.RightBrace))) (has_behind place (is k.LeftBrace) (tok k.LeftBrace) refl (ended (expr s m) at.AfterOperand (is k.RightBrace)) (has_ended (expr s m) at.AfterOperand (is k.RightBrace) (tok k.RightBrace) refl (expr_example s l m R)))

pub some_body_rises : (s : List ℕ) (l m : Levels) (place : Place) → LevelsRise l m → LevelsAre m → Rises (some_body s l place) (some_body s m place)
unfolding expr
some_body_rises s l m place R M = made_rises Some (behind place (is k.LeftBrace) (ended (expr s l) at.AfterOperand (is k.RightBrace))) (behind place (is k.LeftBrace) (ended (expr s m) at.AfterOperand (is k.RightBrace))) (behind_rises place (is k.LeftBrace) (ended (expr s l) at.AfterOperand (is k.RightBrace)) (ended (expr s m) at.AfterOperand (is k.RightBrace)) (ended_rises (expr s l) (expr s m) at.AfterOperand (is k.RightBrace) (expr_rises s l m R M) (tok k.RightBrace) refl) (ended_lawful (expr s m) at.AfterOperand (is k.RightBrace) (expr_lawful s m M) (apart (λ t. refl) (λ t. refl) refl)) (has_ended (expr s m) at.AfterOperand (is k.RightBrace) (tok k.RightBrace) refl (expr_example s l m R)))

pub function_body_example : (s : List ℕ) (l m : Levels) (place : Place) → LevelsRise l m → HasExample (function_body s m place)
function_body_example s l m place R = has_first (no_body place) (some_body s m place) (no_body_example place)

pub function_body_rises : (s : List ℕ) (l m : Levels) (place : Place) → LevelsRise l m → LevelsAre m → Rises (function_body s l place) (function_body s m place)
unfolding expr
function_body_rises s l m place R M = alt_rises (no_body place) (no_body place) (some_body s l place) (some_body s m place) (no_body_rises place) (some_body_rises s l m place R M) (λ t. refl)

pub returned_example : (s : List ℕ) (l m : Levels) → LevelsRise l m → HasExample (returned s m)
returned_example s l m R = has_made returns_of (seq (one at.Other (is k.Returns)) (behind at.Other (is k.LeftParen) (ended (argument s m) at.AfterSort (is k.RightParen)))) (has_seq (one at.Other (is k.Returns)) (behind at.Other (is k.LeftParen) (ended (argument s m) at.AfterSort (is k.RightParen))) (has_one at.Other (is k.Returns) (tok k.Returns) refl) (has_behind at.Other (is k.LeftParen) (tok k.LeftParen) refl (ended (argument s m) at.AfterSort (is k.RightParen)) (has_ended (argument s m) at.AfterSort (is k.RightParen) (tok k.RightParen) refl (argument_example s l m R))))

pub returned_rises : (s : List ℕ) (l m : Levels) → LevelsRise l m → LevelsAre m → Rises (returned s l) (returned s m)
unfolding argument
returned_rises s l m R M = made_rises returns_of (seq (one at.Other (is k.Returns)) (behind at.Other (is k.LeftParen) (ended (argument s l) at.AfterSort (is k.RightParen)))) (seq (one at.Other (is k.Returns)) (behind at.Other (is k.LeftParen) (ended (argument s m) at.AfterSort (is k.RightParen)))) (seq_rises (one at.Other (is k.Returns)) (one at.Other (is k.Returns)) (behind at.Other (is k.LeftParen) (ended (argument s l) at.AfterSort (is k.RightParen))) (behind at.Other (is k.LeftParen) (ended (argument s m) at.AfterSort (is k.RightParen))) (one_rises at.Other (is k.Returns)) (behind_rises at.Other (is k.LeftParen) (ended (argument s l) at.AfterSort (is k.RightParen)) (ended (argument s m) at.AfterSort (is k.RightParen)) (ended_rises (argument s l) (argument s m) at.AfterSort (is k.RightParen) (argument_rises s l m R M) (tok k.RightParen) refl) (ended_lawful (argument s m) at.AfterSort (is k.RightParen) (argument_lawful s m M) (apart (λ t. refl) (λ t. refl) refl)) (has_ended (argument s m) at.AfterSort (is k.RightParen) (tok k.RightParen) refl (argument_example s l m R))) (behind_lawful at.Other (is k.LeftParen) (ended (argument s m) at.AfterSort (is k.RightParen)) (ended_lawful (argument s m) at.AfterSort (is k.RightParen) (argument_lawful s m M) (apart (λ t. refl) (λ t. refl) refl))) (has_behind at.Other (is k.LeftParen) (tok k.LeftParen) refl (ended (argument s m) at.AfterSort (is k.RightParen)) (has_ended (argument s m) at.AfterSort (is k.RightParen) (tok k.RightParen) refl (argument_example s l m R))))

pub plain_example : (s : List ℕ) (l m : Levels) → LevelsRise l m → HasExample (plain s m)
plain_example s l m R = has_made plain_of (seq (one at.Other (is k.Colon)) (sort s m)) (has_seq (one at.Other (is k.Colon)) (sort s m) (has_one at.Other (is k.Colon) (tok k.Colon) refl) (sort_example s l m R))

pub plain_rises : (s : List ℕ) (l m : Levels) → LevelsRise l m → LevelsAre m → Rises (plain s l) (plain s m)
unfolding sort
plain_rises s l m R M = made_rises plain_of (seq (one at.Other (is k.Colon)) (sort s l)) (seq (one at.Other (is k.Colon)) (sort s m)) (seq_rises (one at.Other (is k.Colon)) (one at.Other (is k.Colon)) (sort s l) (sort s m) (one_rises at.Other (is k.Colon)) (sort_rises s l m R M) (sort_lawful s m M) (sort_example s l m R))

pub function_end_example : (s : List ℕ) (l m : Levels) → LevelsRise l m → HasExample (function_end s m)
function_end_example s l m R = has_second (seq (returned s m) (function_body s m at.Other)) (seq (plain s m) (function_body s m at.AfterSort)) (has_seq (plain s m) (function_body s m at.AfterSort) (plain_example s l m R) (function_body_example s l m at.AfterSort R))

pub function_end_rises : (s : List ℕ) (l m : Levels) → LevelsRise l m → LevelsAre m → Rises (function_end s l) (function_end s m)
unfolding argument expr sort
function_end_rises s l m R M = alt_rises (seq (returned s l) (function_body s l at.Other)) (seq (returned s m) (function_body s m at.Other)) (seq (plain s l) (function_body s l at.AfterSort)) (seq (plain s m) (function_body s m at.AfterSort)) (seq_rises (returned s l) (returned s m) (function_body s l at.Other) (function_body s m at.Other) (returned_rises s l m R M) (function_body_rises s l m at.Other R M) (function_body_lawful s m at.Other M) (function_body_example s l m at.Other R)) (seq_rises (plain s l) (plain s m) (function_body s l at.AfterSort) (function_body s m at.AfterSort) (plain_rises s l m R M) (function_body_rises s l m at.AfterSort R M) (function_body_lawful s m at.AfterSort M) (function_body_example s l m at.AfterSort R)) (λ t. refl)

pub function_example : (s : List ℕ) (l m : Levels) → LevelsRise l m → HasExample (function s m)
unfolding function
function_example s l m R = has_sealed (is k.Function) false never (made function_of (seq (one at.Other (is k.Function)) (seq (attributes s) (seq (name s at.Other) (behind at.AfterDeclaredName (is k.LeftParen) (seq (function_arguments s m) (function_end s m))))))) (has_made function_of (seq (one at.Other (is k.Function)) (seq (attributes s) (seq (name s at.Other) (behind at.AfterDeclaredName (is k.LeftParen) (seq (function_arguments s m) (function_end s m)))))) (has_seq (one at.Other (is k.Function)) (seq (attributes s) (seq (name s at.Other) (behind at.AfterDeclaredName (is k.LeftParen) (seq (function_arguments s m) (function_end s m))))) (has_one at.Other (is k.Function) (tok k.Function) refl) (has_seq (attributes s) (seq (name s at.Other) (behind at.AfterDeclaredName (is k.LeftParen) (seq (function_arguments s m) (function_end s m)))) (attributes_example s) (has_seq (name s at.Other) (behind at.AfterDeclaredName (is k.LeftParen) (seq (function_arguments s m) (function_end s m))) (name_example s at.Other) (has_behind at.AfterDeclaredName (is k.LeftParen) (tok k.LeftParen) refl (seq (function_arguments s m) (function_end s m)) (has_seq (function_arguments s m) (function_end s m) (function_arguments_example s l m R) (function_end_example s l m R)))))))

pub function_rises : (s : List ℕ) (l m : Levels) → LevelsRise l m → LevelsAre m → Rises (function s l) (function s m)
unfolding function attributes argument expr sort
function_rises s l m R M = sealed_rises (is k.Function) false never (made function_of (seq (one at.Other (is k.Function)) (seq (attributes s) (seq (name s at.Other) (behind at.AfterDeclaredName (is k.LeftParen) (seq (function_arguments s l) (function_end s l))))))) (made function_of (seq (one at.Other (is k.Function)) (seq (attributes s) (seq (name s at.Other) (behind at.AfterDeclaredName (is k.LeftParen) (seq (function_arguments s m) (function_end s m))))))) (made_rises function_of (seq (one at.Other (is k.Function)) (seq (attributes s) (seq (name s at.Other) (behind at.AfterDeclaredName (is k.LeftParen) (seq (function_arguments s l) (function_end s l)))))) (seq (one at.Other (is k.Function)) (seq (attributes s) (seq (name s at.Other) (behind at.AfterDeclaredName (is k.LeftParen) (seq (function_arguments s m) (function_end s m)))))) (seq_rises (one at.Other (is k.Function)) (one at.Other (is k.Function)) (seq (attributes s) (seq (name s at.Other) (behind at.AfterDeclaredName (is k.LeftParen) (seq (function_arguments s l) (function_end s l))))) (seq (attributes s) (seq (name s at.Other) (behind at.AfterDeclaredName (is k.LeftParen) (seq (function_arguments s m) (function_end s m))))) (one_rises at.Other (is k.Function)) (seq_rises (attributes s) (attributes s) (seq (name s at.Other) (behind at.AfterDeclaredName (is k.LeftParen) (seq (function_arguments s l) (function_end s l)))) (seq (name s at.Other) (behind at.AfterDeclaredName (is k.LeftParen) (seq (function_arguments s m) (function_end s m)))) (attributes_rises s) (seq_rises (name s at.Other) (name s at.Other) (behind at.AfterDeclaredName (is k.LeftParen) (seq (function_arguments s l) (function_end s l))) (behind at.AfterDeclaredName (is k.LeftParen) (seq (function_arguments s m) (function_end s m))) (name_rises s at.Other) (behind_rises at.AfterDeclaredName (is k.LeftParen) (seq (function_arguments s l) (function_end s l)) (seq (function_arguments s m) (function_end s m)) (seq_rises (function_arguments s l) (function_arguments s m) (function_end s l) (function_end s m) (function_arguments_rises s l m R M) (function_end_rises s l m R M) (function_end_lawful s m M) (function_end_example s l m R)) (seq_lawful (function_arguments s m) (function_end s m) (function_arguments_lawful s m M) (function_end_lawful s m M) (apart (λ t. refl) (λ t. refl) refl)) (has_seq (function_arguments s m) (function_end s m) (function_arguments_example s l m R) (function_end_example s l m R))) (behind_lawful at.AfterDeclaredName (is k.LeftParen) (seq (function_arguments s m) (function_end s m)) (seq_lawful (function_arguments s m) (function_end s m) (function_arguments_lawful s m M) (function_end_lawful s m M) (apart (λ t. refl) (λ t. refl) refl))) (has_behind at.AfterDeclaredName (is k.LeftParen) (tok k.LeftParen) refl (seq (function_arguments s m) (function_end s m)) (has_seq (function_arguments s m) (function_end s m) (function_arguments_example s l m R) (function_end_example s l m R)))) (seq_lawful (name s at.Other) (behind at.AfterDeclaredName (is k.LeftParen) (seq (function_arguments s m) (function_end s m))) (name_lawful s at.Other) (behind_lawful at.AfterDeclaredName (is k.LeftParen) (seq (function_arguments s m) (function_end s m)) (seq_lawful (function_arguments s m) (function_end s m) (function_arguments_lawful s m M) (function_end_lawful s m M) (apart (λ t. refl) (λ t. refl) refl))) (apart (λ t. refl) (λ t. refl) refl)) (has_seq (name s at.Other) (behind at.AfterDeclaredName (is k.LeftParen) (seq (function_arguments s m) (function_end s m))) (name_example s at.Other) (has_behind at.AfterDeclaredName (is k.LeftParen) (tok k.LeftParen) refl (seq (function_arguments s m) (function_end s m)) (has_seq (function_arguments s m) (function_end s m) (function_arguments_example s l m R) (function_end_example s l m R))))) (seq_lawful (attributes s) (seq (name s at.Other) (behind at.AfterDeclaredName (is k.LeftParen) (seq (function_arguments s m) (function_end s m)))) (attributes_lawful s) (seq_lawful (name s at.Other) (behind at.AfterDeclaredName (is k.LeftParen) (seq (function_arguments s m) (function_end s m))) (name_lawful s at.Other) (behind_lawful at.AfterDeclaredName (is k.LeftParen) (seq (function_arguments s m) (function_end s m)) (seq_lawful (function_arguments s m) (function_end s m) (function_arguments_lawful s m M) (function_end_lawful s m M) (apart (λ t. refl) (λ t. refl) refl))) (apart (λ t. refl) (λ t. refl) refl)) (apart (λ t. refl) (λ t. refl) refl)) (has_seq (attributes s) (seq (name s at.Other) (behind at.AfterDeclaredName (is k.LeftParen) (seq (function_arguments s m) (function_end s m)))) (attributes_example s) (has_seq (name s at.Other) (behind at.AfterDeclaredName (is k.LeftParen) (seq (function_arguments s m) (function_end s m))) (name_example s at.Other) (has_behind at.AfterDeclaredName (is k.LeftParen) (tok k.LeftParen) refl (seq (function_arguments s m) (function_end s m)) (has_seq (function_arguments s m) (function_end s m) (function_arguments_example s l m R) (function_end_example s l m R)))))))

pub axiom_decl_example : (s : List ℕ) (l m : Levels) → LevelsRise l m → HasExample (axiom_decl s m)
unfolding axiom_decl
axiom_decl_example s l m R = has_sealed (is k.Axiom) false never (made axiom_of (seq (one at.Other (is k.Axiom)) (condition s m))) (has_made axiom_of (seq (one at.Other (is k.Axiom)) (condition s m)) (has_seq (one at.Other (is k.Axiom)) (condition s m) (has_one at.Other (is k.Axiom) (tok k.Axiom) refl) (condition_example s l m R)))

pub axiom_decl_rises : (s : List ℕ) (l m : Levels) → LevelsRise l m → LevelsAre m → Rises (axiom_decl s l) (axiom_decl s m)
unfolding axiom_decl attributes expr
axiom_decl_rises s l m R M = sealed_rises (is k.Axiom) false never (made axiom_of (seq (one at.Other (is k.Axiom)) (condition s l))) (made axiom_of (seq (one at.Other (is k.Axiom)) (condition s m))) (made_rises axiom_of (seq (one at.Other (is k.Axiom)) (condition s l)) (seq (one at.Other (is k.Axiom)) (condition s m)) (seq_rises (one at.Other (is k.Axiom)) (one at.Other (is k.Axiom)) (condition s l) (condition s m) (one_rises at.Other (is k.Axiom)) (condition_rises s l m R M) (condition_lawful s m M) (condition_example s l m R)))

pub variable_group_example : (s : List ℕ) (l m : Levels) → LevelsRise l m → HasExample (variable_group s m)
unfolding variable_group
variable_group_example s l m R = has_sealed (is k.Ident) false never (placed group_of (seq (names s) (behind at.Other (is k.Colon) (sort s m)))) (has_placed group_of (seq (names s) (behind at.Other (is k.Colon) (sort s m))) (has_seq (names s) (behind at.Other (is k.Colon) (sort s m)) (names_example s) (has_behind at.Other (is k.Colon) (tok k.Colon) refl (sort s m) (sort_example s l m R))))

pub variable_group_rises : (s : List ℕ) (l m : Levels) → LevelsRise l m → LevelsAre m → Rises (variable_group s l) (variable_group s m)
unfolding variable_group names sort
variable_group_rises s l m R M = sealed_rises (is k.Ident) false never (placed group_of (seq (names s) (behind at.Other (is k.Colon) (sort s l)))) (placed group_of (seq (names s) (behind at.Other (is k.Colon) (sort s m)))) (placed_rises group_of (seq (names s) (behind at.Other (is k.Colon) (sort s l))) (seq (names s) (behind at.Other (is k.Colon) (sort s m))) (seq_rises (names s) (names s) (behind at.Other (is k.Colon) (sort s l)) (behind at.Other (is k.Colon) (sort s m)) (names_rises s) (behind_rises at.Other (is k.Colon) (sort s l) (sort s m) (sort_rises s l m R M) (sort_lawful s m M) (sort_example s l m R)) (behind_lawful at.Other (is k.Colon) (sort s m) (sort_lawful s m M)) (has_behind at.Other (is k.Colon) (tok k.Colon) refl (sort s m) (sort_example s l m R))))

pub variables_example : (s : List ℕ) (l m : Levels) → LevelsRise l m → HasExample (variables s m)
unfolding variables
variables_example s l m R = has_sealed (is k.Var) false never (made variables_of (seq (one at.Statement (is k.Var)) (seq (attributes s) (ended (separated at.Other (is k.Comma) (variable_group s m)) at.AfterSort (is k.Semicolon))))) (has_made variables_of (seq (one at.Statement (is k.Var)) (seq (attributes s) (ended (separated at.Other (is k.Comma) (variable_group s m)) at.AfterSort (is k.Semicolon)))) (has_seq (one at.Statement (is k.Var)) (seq (attributes s) (ended (separated at.Other (is k.Comma) (variable_group s m)) at.AfterSort (is k.Semicolon))) (has_one at.Statement (is k.Var) (tok k.Var) refl) (has_seq (attributes s) (ended (separated at.Other (is k.Comma) (variable_group s m)) at.AfterSort (is k.Semicolon)) (attributes_example s) (has_ended (separated at.Other (is k.Comma) (variable_group s m)) at.AfterSort (is k.Semicolon) (tok k.Semicolon) refl (has_separated at.Other (is k.Comma) (variable_group s m) (variable_group_example s l m R))))))

pub variables_rises : (s : List ℕ) (l m : Levels) → LevelsRise l m → LevelsAre m → Rises (variables s l) (variables s m)
unfolding variables attributes variable_group
variables_rises s l m R M = sealed_rises (is k.Var) false never (made variables_of (seq (one at.Statement (is k.Var)) (seq (attributes s) (ended (separated at.Other (is k.Comma) (variable_group s l)) at.AfterSort (is k.Semicolon))))) (made variables_of (seq (one at.Statement (is k.Var)) (seq (attributes s) (ended (separated at.Other (is k.Comma) (variable_group s m)) at.AfterSort (is k.Semicolon))))) (made_rises variables_of (seq (one at.Statement (is k.Var)) (seq (attributes s) (ended (separated at.Other (is k.Comma) (variable_group s l)) at.AfterSort (is k.Semicolon)))) (seq (one at.Statement (is k.Var)) (seq (attributes s) (ended (separated at.Other (is k.Comma) (variable_group s m)) at.AfterSort (is k.Semicolon)))) (seq_rises (one at.Statement (is k.Var)) (one at.Statement (is k.Var)) (seq (attributes s) (ended (separated at.Other (is k.Comma) (variable_group s l)) at.AfterSort (is k.Semicolon))) (seq (attributes s) (ended (separated at.Other (is k.Comma) (variable_group s m)) at.AfterSort (is k.Semicolon))) (one_rises at.Statement (is k.Var)) (seq_rises (attributes s) (attributes s) (ended (separated at.Other (is k.Comma) (variable_group s l)) at.AfterSort (is k.Semicolon)) (ended (separated at.Other (is k.Comma) (variable_group s m)) at.AfterSort (is k.Semicolon)) (attributes_rises s) (ended_rises (separated at.Other (is k.Comma) (variable_group s l)) (separated at.Other (is k.Comma) (variable_group s m)) at.AfterSort (is k.Semicolon) (separated_rises at.Other (is k.Comma) (variable_group s l) (variable_group s m) (variable_group_rises s l m R M) (variable_group_lawful s m M) (variable_group_example s l m R) (apart (λ t. refl) (λ t. refl) refl)) (tok k.Semicolon) refl) (ended_lawful (separated at.Other (is k.Comma) (variable_group s m)) at.AfterSort (is k.Semicolon) (separated_lawful at.Other (is k.Comma) (variable_group s m) (variable_group_lawful s m M) refl (apart (λ t. refl) (λ t. refl) refl)) (apart (λ t. refl) (λ t. refl) refl)) (has_ended (separated at.Other (is k.Comma) (variable_group s m)) at.AfterSort (is k.Semicolon) (tok k.Semicolon) refl (has_separated at.Other (is k.Comma) (variable_group s m) (variable_group_example s l m R)))) (seq_lawful (attributes s) (ended (separated at.Other (is k.Comma) (variable_group s m)) at.AfterSort (is k.Semicolon)) (attributes_lawful s) (ended_lawful (separated at.Other (is k.Comma) (variable_group s m)) at.AfterSort (is k.Semicolon) (separated_lawful at.Other (is k.Comma) (variable_group s m) (variable_group_lawful s m M) refl (apart (λ t. refl) (λ t. refl) refl)) (apart (λ t. refl) (λ t. refl) refl)) (apart (λ t. refl) (λ t. refl) refl)) (has_seq (attributes s) (ended (separated at.Other (is k.Comma) (variable_group s m)) at.AfterSort (is k.Semicolon)) (attributes_example s) (has_ended (separated at.Other (is k.Comma) (variable_group s m)) at.AfterSort (is k.Semicolon) (tok k.Semicolon) refl (has_separated at.Other (is k.Comma) (variable_group s m) (variable_group_example s l m R))))))

pub globals_example : (s : List ℕ) (l m : Levels) → LevelsRise l m → HasExample (globals s m)
globals_example s l m R = has_made decls.Variables (variables s m) (variables_example s l m R)

pub globals_rises : (s : List ℕ) (l m : Levels) → LevelsRise l m → LevelsAre m → Rises (globals s l) (globals s m)
unfolding variables
globals_rises s l m R M = made_rises decls.Variables (variables s l) (variables s m) (variables_rises s l m R M)

pub parameter_group_example : (s : List ℕ) (l m : Levels) → LevelsRise l m → HasExample (parameter_group s m)
unfolding parameter_group
parameter_group_example s l m R = has_sealed begins_parameter false never (placed parameter_group_of (seq (attributes s) (seq (names s) (behind at.Other (is k.Colon) (sort s m))))) (has_placed parameter_group_of (seq (attributes s) (seq (names s) (behind at.Other (is k.Colon) (sort s m)))) (has_seq (attributes s) (seq (names s) (behind at.Other (is k.Colon) (sort s m))) (attributes_example s) (has_seq (names s) (behind at.Other (is k.Colon) (sort s m)) (names_example s) (has_behind at.Other (is k.Colon) (tok k.Colon) refl (sort s m) (sort_example s l m R)))))

pub parameter_group_rises : (s : List ℕ) (l m : Levels) → LevelsRise l m → LevelsAre m → Rises (parameter_group s l) (parameter_group s m)
unfolding parameter_group attributes names sort
parameter_group_rises s l m R M = sealed_rises begins_parameter false never (placed parameter_group_of (seq (attributes s) (seq (names s) (behind at.Other (is k.Colon) (sort s l))))) (placed parameter_group_of (seq (attributes s) (seq (names s) (behind at.Other (is k.Colon) (sort s m))))) (placed_rises parameter_group_of (seq (attributes s) (seq (names s) (behind at.Other (is k.Colon) (sort s l)))) (seq (attributes s) (seq (names s) (behind at.Other (is k.Colon) (sort s m)))) (seq_rises (attributes s) (attributes s) (seq (names s) (behind at.Other (is k.Colon) (sort s l))) (seq (names s) (behind at.Other (is k.Colon) (sort s m))) (attributes_rises s) (seq_rises (names s) (names s) (behind at.Other (is k.Colon) (sort s l)) (behind at.Other (is k.Colon) (sort s m)) (names_rises s) (behind_rises at.Other (is k.Colon) (sort s l) (sort s m) (sort_rises s l m R M) (sort_lawful s m M) (sort_example s l m R)) (behind_lawful at.Other (is k.Colon) (sort s m) (sort_lawful s m M)) (has_behind at.Other (is k.Colon) (tok k.Colon) refl (sort s m) (sort_example s l m R))) (seq_lawful (names s) (behind at.Other (is k.Colon) (sort s m)) (names_lawful s) (behind_lawful at.Other (is k.Colon) (sort s m) (sort_lawful s m M)) (apart (λ t. refl) (λ t. refl) refl)) (has_seq (names s) (behind at.Other (is k.Colon) (sort s m)) (names_example s) (has_behind at.Other (is k.Colon) (tok k.Colon) refl (sort s m) (sort_example s l m R)))))

pub no_parameters_example : HasExample no_parameters
no_parameters_example = has_made (λ t. []) (one at.Other (is k.RightParen)) (has_one at.Other (is k.RightParen) (tok k.RightParen) refl)

pub no_parameters_rises : Rises no_parameters no_parameters
no_parameters_rises = made_rises (λ t. []) (one at.Other (is k.RightParen)) (one at.Other (is k.RightParen)) (one_rises at.Other (is k.RightParen))

pub some_parameters_example : (s : List ℕ) (l m : Levels) → LevelsRise l m → HasExample (some_parameters s m)
some_parameters_example s l m R = has_ended (separated at.Other (is k.Comma) (parameter_group s m)) at.AfterSort (is k.RightParen) (tok k.RightParen) refl (has_separated at.Other (is k.Comma) (parameter_group s m) (parameter_group_example s l m R))

pub some_parameters_rises : (s : List ℕ) (l m : Levels) → LevelsRise l m → LevelsAre m → Rises (some_parameters s l) (some_parameters s m)
unfolding parameter_group
some_parameters_rises s l m R M = ended_rises (separated at.Other (is k.Comma) (parameter_group s l)) (separated at.Other (is k.Comma) (parameter_group s m)) at.AfterSort (is k.RightParen) (separated_rises at.Other (is k.Comma) (parameter_group s l) (parameter_group s m) (parameter_group_rises s l m R M) (parameter_group_lawful s m M) (parameter_group_example s l m R) (apart (λ t. refl) (λ t. refl) refl)) (tok k.RightParen) refl

pub parameters_example : (s : List ℕ) (l m : Levels) → LevelsRise l m → HasExample (parameters s m)
parameters_example s l m R = has_first no_parameters (some_parameters s m) no_parameters_example

pub parameters_rises : (s : List ℕ) (l m : Levels) → LevelsRise l m → LevelsAre m → Rises (parameters s l) (parameters s m)
unfolding parameter_group
parameters_rises s l m R M = alt_rises no_parameters no_parameters (some_parameters s l) (some_parameters s m) no_parameters_rises (some_parameters_rises s l m R M) (λ t. refl)

pub outs_example : (s : List ℕ) (l m : Levels) → LevelsRise l m → HasExample (outs s m)
outs_example s l m R = has_behind at.Other (is k.Returns) (tok k.Returns) refl (behind at.Other (is k.LeftParen) (parameters s m)) (has_behind at.Other (is k.LeftParen) (tok k.LeftParen) refl (parameters s m) (parameters_example s l m R))

pub outs_rises : (s : List ℕ) (l m : Levels) → LevelsRise l m → LevelsAre m → Rises (outs s l) (outs s m)
unfolding parameter_group
outs_rises s l m R M = behind_rises at.Other (is k.Returns) (behind at.Other (is k.LeftParen) (parameters s l)) (behind at.Other (is k.LeftParen) (parameters s m)) (behind_rises at.Other (is k.LeftParen) (parameters s l) (parameters s m) (parameters_rises s l m R M) (parameters_lawful s m M) (parameters_example s l m R)) (behind_lawful at.Other (is k.LeftParen) (parameters s m) (parameters_lawful s m M)) (has_behind at.Other (is k.LeftParen) (tok k.LeftParen) refl (parameters s m) (parameters_example s l m R))

pub maybe_outs_example : (s : List ℕ) (l m : Levels) → LevelsRise l m → HasExample (maybe_outs s m)
maybe_outs_example s l m R = has_made groups_of (maybe (outs s m)) (has_second (made Some (outs s m)) (empty None) (has_none None))

pub maybe_outs_rises : (s : List ℕ) (l m : Levels) → LevelsRise l m → LevelsAre m → Rises (maybe_outs s l) (maybe_outs s m)
unfolding parameter_group
maybe_outs_rises s l m R M = made_rises groups_of (maybe (outs s l)) (maybe (outs s m)) (maybe_rises (outs s l) (outs s m) (outs_rises s l m R M) (λ t. refl))

pub heads_example : (s : List ℕ) (l m : Levels) → LevelsRise l m → HasExample (heads s m)
unfolding heads
heads_example s l m R = has_sealed (is k.LeftParen) false (is k.Returns) (made heads_of (seq (one at.AfterDeclaredName (is k.LeftParen)) (seq (parameters s m) (maybe_outs s m)))) (has_made heads_of (seq (one at.AfterDeclaredName (is k.LeftParen)) (seq (parameters s m) (maybe_outs s m))) (has_seq (one at.AfterDeclaredName (is k.LeftParen)) (seq (parameters s m) (maybe_outs s m)) (has_one at.AfterDeclaredName (is k.LeftParen) (tok k.LeftParen) refl) (has_seq (parameters s m) (maybe_outs s m) (parameters_example s l m R) (maybe_outs_example s l m R))))

pub heads_rises : (s : List ℕ) (l m : Levels) → LevelsRise l m → LevelsAre m → Rises (heads s l) (heads s m)
unfolding heads parameter_group
heads_rises s l m R M = sealed_rises (is k.LeftParen) false (is k.Returns) (made heads_of (seq (one at.AfterDeclaredName (is k.LeftParen)) (seq (parameters s l) (maybe_outs s l)))) (made heads_of (seq (one at.AfterDeclaredName (is k.LeftParen)) (seq (parameters s m) (maybe_outs s m)))) (made_rises heads_of (seq (one at.AfterDeclaredName (is k.LeftParen)) (seq (parameters s l) (maybe_outs s l))) (seq (one at.AfterDeclaredName (is k.LeftParen)) (seq (parameters s m) (maybe_outs s m))) (seq_rises (one at.AfterDeclaredName (is k.LeftParen)) (one at.AfterDeclaredName (is k.LeftParen)) (seq (parameters s l) (maybe_outs s l)) (seq (parameters s m) (maybe_outs s m)) (one_rises at.AfterDeclaredName (is k.LeftParen)) (seq_rises (parameters s l) (parameters s m) (maybe_outs s l) (maybe_outs s m) (parameters_rises s l m R M) (maybe_outs_rises s l m R M) (maybe_outs_lawful s m M) (maybe_outs_example s l m R)) (seq_lawful (parameters s m) (maybe_outs s m) (parameters_lawful s m M) (maybe_outs_lawful s m M) (apart (λ t. refl) (λ t. refl) refl)) (has_seq (parameters s m) (maybe_outs s m) (parameters_example s l m R) (maybe_outs_example s l m R))))

pub body_example : (s : List ℕ) (l m : Levels) → LevelsRise l m → HasExample (body s m)
unfolding body
body_example s l m R = has_sealed (is k.LeftBrace) false never (made body_of (seq (one at.Other (is k.LeftBrace)) (seq (many (variables s m)) (ended (statements s m) at.Statement (is k.RightBrace))))) (has_made body_of (seq (one at.Other (is k.LeftBrace)) (seq (many (variables s m)) (ended (statements s m) at.Statement (is k.RightBrace)))) (has_seq (one at.Other (is k.LeftBrace)) (seq (many (variables s m)) (ended (statements s m) at.Statement (is k.RightBrace))) (has_one at.Other (is k.LeftBrace) (tok k.LeftBrace) refl) (has_seq (many (variables s m)) (ended (statements s m) at.Statement (is k.RightBrace)) (has_many (variables s m)) (has_ended (statements s m) at.Statement (is k.RightBrace) (tok k.RightBrace) refl (statements_example s m)))))

pub body_rises : (s : List ℕ) (l m : Levels) → LevelsRise l m → LevelsAre m → Rises (body s l) (body s m)
unfolding body variables statements
body_rises s l m R M = sealed_rises (is k.LeftBrace) false never (made body_of (seq (one at.Other (is k.LeftBrace)) (seq (many (variables s l)) (ended (statements s l) at.Statement (is k.RightBrace))))) (made body_of (seq (one at.Other (is k.LeftBrace)) (seq (many (variables s m)) (ended (statements s m) at.Statement (is k.RightBrace))))) (made_rises body_of (seq (one at.Other (is k.LeftBrace)) (seq (many (variables s l)) (ended (statements s l) at.Statement (is k.RightBrace)))) (seq (one at.Other (is k.LeftBrace)) (seq (many (variables s m)) (ended (statements s m) at.Statement (is k.RightBrace)))) (seq_rises (one at.Other (is k.LeftBrace)) (one at.Other (is k.LeftBrace)) (seq (many (variables s l)) (ended (statements s l) at.Statement (is k.RightBrace))) (seq (many (variables s m)) (ended (statements s m) at.Statement (is k.RightBrace))) (one_rises at.Other (is k.LeftBrace)) (seq_rises (many (variables s l)) (many (variables s m)) (ended (statements s l) at.Statement (is k.RightBrace)) (ended (statements s m) at.Statement (is k.RightBrace)) (many_rises (variables s l) (variables s m) (variables_rises s l m R M) (variables_lawful s m M) (λ t. refl)) (ended_rises (statements s l) (statements s m) at.Statement (is k.RightBrace) (statements_rises s l m R M) (tok k.RightBrace) refl) (ended_lawful (statements s m) at.Statement (is k.RightBrace) (statements_lawful s m M) (apart (λ t. refl) (λ t. refl) refl)) (has_ended (statements s m) at.Statement (is k.RightBrace) (tok k.RightBrace) refl (statements_example s m))) (seq_lawful (many (variables s m)) (ended (statements s m) at.Statement (is k.RightBrace)) (many_lawful (variables s m) (variables_lawful s m M) refl (apart (λ t. refl) (λ t. refl) refl)) (ended_lawful (statements s m) at.Statement (is k.RightBrace) (statements_lawful s m M) (apart (λ t. refl) (λ t. refl) refl)) (apart (λ t. refl) (λ t. refl) refl)) (has_seq (many (variables s m)) (ended (statements s m) at.Statement (is k.RightBrace)) (has_many (variables s m)) (has_ended (statements s m) at.Statement (is k.RightBrace) (tok k.RightBrace) refl (statements_example s m)))))

pub maybe_names_example : (s : List ℕ) → HasExample (maybe_names s)
maybe_names_example s = has_made names_of (maybe (names s)) (has_second (made Some (names s)) (empty None) (has_none None))

pub maybe_names_rises : (s : List ℕ) → Rises (maybe_names s) (maybe_names s)
unfolding names
maybe_names_rises s = made_rises names_of (maybe (names s)) (maybe (names s)) (maybe_rises (names s) (names s) (names_rises s) (λ t. refl))

pub modifies_example : (s : List ℕ) → HasExample (modifies s)
unfolding modifies
modifies_example s = has_sealed (is k.Modifies) false never (made modifies_of (seq (one at.Spec (is k.Modifies)) (seq (attributes s) (ended (maybe_names s) at.Other (is k.Semicolon))))) (has_made modifies_of (seq (one at.Spec (is k.Modifies)) (seq (attributes s) (ended (maybe_names s) at.Other (is k.Semicolon)))) (has_seq (one at.Spec (is k.Modifies)) (seq (attributes s) (ended (maybe_names s) at.Other (is k.Semicolon))) (has_one at.Spec (is k.Modifies) (tok k.Modifies) refl) (has_seq (attributes s) (ended (maybe_names s) at.Other (is k.Semicolon)) (attributes_example s) (has_ended (maybe_names s) at.Other (is k.Semicolon) (tok k.Semicolon) refl (maybe_names_example s)))))

pub modifies_rises : (s : List ℕ) → Rises (modifies s) (modifies s)
unfolding modifies attributes names
modifies_rises s = sealed_rises (is k.Modifies) false never (made modifies_of (seq (one at.Spec (is k.Modifies)) (seq (attributes s) (ended (maybe_names s) at.Other (is k.Semicolon))))) (made modifies_of (seq (one at.Spec (is k.Modifies)) (seq (attributes s) (ended (maybe_names s) at.Other (is k.Semicolon))))) (made_rises modifies_of (seq (one at.Spec (is k.Modifies)) (seq (attributes s) (ended (maybe_names s) at.Other (is k.Semicolon)))) (seq (one at.Spec (is k.Modifies)) (seq (attributes s) (ended (maybe_names s) at.Other (is k.Semicolon)))) (seq_rises (one at.Spec (is k.Modifies)) (one at.Spec (is k.Modifies)) (seq (attributes s) (ended (maybe_names s) at.Other (is k.Semicolon))) (seq (attributes s) (ended (maybe_names s) at.Other (is k.Semicolon))) (one_rises at.Spec (is k.Modifies)) (seq_rises (attributes s) (attributes s) (ended (maybe_names s) at.Other (is k.Semicolon)) (ended (maybe_names s) at.Other (is k.Semicolon)) (attributes_rises s) (ended_rises (maybe_names s) (maybe_names s) at.Other (is k.Semicolon) (maybe_names_rises s) (tok k.Semicolon) refl) (ended_lawful (maybe_names s) at.Other (is k.Semicolon) (maybe_names_lawful s) (apart (λ t. refl) (λ t. refl) refl)) (has_ended (maybe_names s) at.Other (is k.Semicolon) (tok k.Semicolon) refl (maybe_names_example s))) (seq_lawful (attributes s) (ended (maybe_names s) at.Other (is k.Semicolon)) (attributes_lawful s) (ended_lawful (maybe_names s) at.Other (is k.Semicolon) (maybe_names_lawful s) (apart (λ t. refl) (λ t. refl) refl)) (apart (λ t. refl) (λ t. refl) refl)) (has_seq (attributes s) (ended (maybe_names s) at.Other (is k.Semicolon)) (attributes_example s) (has_ended (maybe_names s) at.Other (is k.Semicolon) (tok k.Semicolon) refl (maybe_names_example s)))))

pub contract_rises : Rises contract contract
unfolding contract
contract_rises = sealed_rises begins_contract false never (refuse at.Spec) (refuse at.Spec) (refuse_rises at.Spec)

pub spec_example : (s : List ℕ) → HasExample (spec s)
unfolding spec
spec_example s = has_sealed begins_spec false never (alt (modifies s) contract) (has_first (modifies s) contract (modifies_example s))

pub spec_rises : (s : List ℕ) → Rises (spec s) (spec s)
unfolding spec modifies contract
spec_rises s = sealed_rises begins_spec false never (alt (modifies s) contract) (alt (modifies s) contract) (alt_rises (modifies s) (modifies s) contract contract (modifies_rises s) contract_rises (λ t. refl))

pub bodiless_example : (s : List ℕ) → HasExample (bodiless s)
bodiless_example s = has_made (λ x. (x, None)) (behind at.Other (is k.Semicolon) (many (spec s))) (has_behind at.Other (is k.Semicolon) (tok k.Semicolon) refl (many (spec s)) (has_many (spec s)))

pub bodiless_rises : (s : List ℕ) → Rises (bodiless s) (bodiless s)
unfolding spec
bodiless_rises s = made_rises (λ x. (x, None)) (behind at.Other (is k.Semicolon) (many (spec s))) (behind at.Other (is k.Semicolon) (many (spec s))) (behind_rises at.Other (is k.Semicolon) (many (spec s)) (many (spec s)) (many_rises (spec s) (spec s) (spec_rises s) (spec_lawful s) (λ t. refl)) (many_lawful (spec s) (spec_lawful s) refl (apart (λ t. refl) (λ t. refl) refl)) (has_many (spec s)))

pub bodied_example : (s : List ℕ) (l m : Levels) → LevelsRise l m → HasExample (bodied s m)
bodied_example s l m R = has_made (λ x. (x.0, Some x.1)) (seq (many (spec s)) (body s m)) (has_seq (many (spec s)) (body s m) (has_many (spec s)) (body_example s l m R))

pub bodied_rises : (s : List ℕ) (l m : Levels) → LevelsRise l m → LevelsAre m → Rises (bodied s l) (bodied s m)
unfolding spec body
bodied_rises s l m R M = made_rises (λ x. (x.0, Some x.1)) (seq (many (spec s)) (body s l)) (seq (many (spec s)) (body s m)) (seq_rises (many (spec s)) (many (spec s)) (body s l) (body s m) (many_rises (spec s) (spec s) (spec_rises s) (spec_lawful s) (λ t. refl)) (body_rises s l m R M) (body_lawful s m M) (body_example s l m R))

pub procedure_end_example : (s : List ℕ) (l m : Levels) → LevelsRise l m → HasExample (procedure_end s m)
unfolding procedure_end
procedure_end_example s l m R = has_sealed begins_procedure_end false begins_spec (alt (bodiless s) (bodied s m)) (has_first (bodiless s) (bodied s m) (bodiless_example s))

pub procedure_end_rises : (s : List ℕ) (l m : Levels) → LevelsRise l m → LevelsAre m → Rises (procedure_end s l) (procedure_end s m)
unfolding procedure_end spec body
procedure_end_rises s l m R M = sealed_rises begins_procedure_end false begins_spec (alt (bodiless s) (bodied s l)) (alt (bodiless s) (bodied s m)) (alt_rises (bodiless s) (bodiless s) (bodied s l) (bodied s m) (bodiless_rises s) (bodied_rises s l m R M) (λ t. refl))

pub procedure_example : (s : List ℕ) (l m : Levels) → LevelsRise l m → HasExample (procedure s m)
unfolding procedure
procedure_example s l m R = has_sealed (is k.Procedure) false begins_spec (made procedure_of (seq (one at.Other (is k.Procedure)) (seq (attributes s) (seq (name s at.Other) (seq (heads s m) (procedure_end s m)))))) (has_made procedure_of (seq (one at.Other (is k.Procedure)) (seq (attributes s) (seq (name s at.Other) (seq (heads s m) (procedure_end s m))))) (has_seq (one at.Other (is k.Procedure)) (seq (attributes s) (seq (name s at.Other) (seq (heads s m) (procedure_end s m)))) (has_one at.Other (is k.Procedure) (tok k.Procedure) refl) (has_seq (attributes s) (seq (name s at.Other) (seq (heads s m) (procedure_end s m))) (attributes_example s) (has_seq (name s at.Other) (seq (heads s m) (procedure_end s m)) (name_example s at.Other) (has_seq (heads s m) (procedure_end s m) (heads_example s l m R) (procedure_end_example s l m R))))))

pub procedure_rises : (s : List ℕ) (l m : Levels) → LevelsRise l m → LevelsAre m → Rises (procedure s l) (procedure s m)
unfolding procedure attributes heads procedure_end
procedure_rises s l m R M = sealed_rises (is k.Procedure) false begins_spec (made procedure_of (seq (one at.Other (is k.Procedure)) (seq (attributes s) (seq (name s at.Other) (seq (heads s l) (procedure_end s l)))))) (made procedure_of (seq (one at.Other (is k.Procedure)) (seq (attributes s) (seq (name s at.Other) (seq (heads s m) (procedure_end s m)))))) (made_rises procedure_of (seq (one at.Other (is k.Procedure)) (seq (attributes s) (seq (name s at.Other) (seq (heads s l) (procedure_end s l))))) (seq (one at.Other (is k.Procedure)) (seq (attributes s) (seq (name s at.Other) (seq (heads s m) (procedure_end s m))))) (seq_rises (one at.Other (is k.Procedure)) (one at.Other (is k.Procedure)) (seq (attributes s) (seq (name s at.Other) (seq (heads s l) (procedure_end s l)))) (seq (attributes s) (seq (name s at.Other) (seq (heads s m) (procedure_end s m)))) (one_rises at.Other (is k.Procedure)) (seq_rises (attributes s) (attributes s) (seq (name s at.Other) (seq (heads s l) (procedure_end s l))) (seq (name s at.Other) (seq (heads s m) (procedure_end s m))) (attributes_rises s) (seq_rises (name s at.Other) (name s at.Other) (seq (heads s l) (procedure_end s l)) (seq (heads s m) (procedure_end s m)) (name_rises s at.Other) (seq_rises (heads s l) (heads s m) (procedure_end s l) (procedure_end s m) (heads_rises s l m R M) (procedure_end_rises s l m R M) (procedure_end_lawful s m M) (procedure_end_example s l m R)) (seq_lawful (heads s m) (procedure_end s m) (heads_lawful s m M) (procedure_end_lawful s m M) (apart (λ t. refl) (λ t. refl) refl)) (has_seq (heads s m) (procedure_end s m) (heads_example s l m R) (procedure_end_example s l m R))) (seq_lawful (name s at.Other) (seq (heads s m) (procedure_end s m)) (name_lawful s at.Other) (seq_lawful (heads s m) (procedure_end s m) (heads_lawful s m M) (procedure_end_lawful s m M) (apart (λ t. refl) (λ t. refl) refl)) (apart (λ t. refl) (λ t. refl) refl)) (has_seq (name s at.Other) (seq (heads s m) (procedure_end s m)) (name_example s at.Other) (has_seq (heads s m) (procedure_end s m) (heads_example s l m R) (procedure_end_example s l m R)))) (seq_lawful (attributes s) (seq (name s at.Other) (seq (heads s m) (procedure_end s m))) (attributes_lawful s) (seq_lawful (name s at.Other) (seq (heads s m) (procedure_end s m)) (name_lawful s at.Other) (seq_lawful (heads s m) (procedure_end s m) (heads_lawful s m M) (procedure_end_lawful s m M) (apart (λ t. refl) (λ t. refl) refl)) (apart (λ t. refl) (λ t. refl) refl)) (apart (λ t. refl) (λ t. refl) refl)) (has_seq (attributes s) (seq (name s at.Other) (seq (heads s m) (procedure_end s m))) (attributes_example s) (has_seq (name s at.Other) (seq (heads s m) (procedure_end s m)) (name_example s at.Other) (has_seq (heads s m) (procedure_end s m) (heads_example s l m R) (procedure_end_example s l m R))))))

pub implementation_example : (s : List ℕ) (l m : Levels) → LevelsRise l m → HasExample (implementation s m)
unfolding implementation
implementation_example s l m R = has_sealed (is k.Implementation) false never (made implementation_of (seq (one at.Other (is k.Implementation)) (seq (attributes s) (seq (name s at.Other) (seq (heads s m) (body s m)))))) (has_made implementation_of (seq (one at.Other (is k.Implementation)) (seq (attributes s) (seq (name s at.Other) (seq (heads s m) (body s m))))) (has_seq (one at.Other (is k.Implementation)) (seq (attributes s) (seq (name s at.Other) (seq (heads s m) (body s m)))) (has_one at.Other (is k.Implementation) (tok k.Implementation) refl) (has_seq (attributes s) (seq (name s at.Other) (seq (heads s m) (body s m))) (attributes_example s) (has_seq (name s at.Other) (seq (heads s m) (body s m)) (name_example s at.Other) (has_seq (heads s m) (body s m) (heads_example s l m R) (body_example s l m R))))))

pub implementation_rises : (s : List ℕ) (l m : Levels) → LevelsRise l m → LevelsAre m → Rises (implementation s l) (implementation s m)
unfolding implementation attributes heads body
implementation_rises s l m R M = sealed_rises (is k.Implementation) false never (made implementation_of (seq (one at.Other (is k.Implementation)) (seq (attributes s) (seq (name s at.Other) (seq (heads s l) (body s l)))))) (made implementation_of (seq (one at.Other (is k.Implementation)) (seq (attributes s) (seq (name s at.Other) (seq (heads s m) (body s m)))))) (made_rises implementation_of (seq (one at.Other (is k.Implementation)) (seq (attributes s) (seq (name s at.Other) (seq (heads s l) (body s l))))) (seq (one at.Other (is k.Implementation)) (seq (attributes s) (seq (name s at.Other) (seq (heads s m) (body s m))))) (seq_rises (one at.Other (is k.Implementation)) (one at.Other (is k.Implementation)) (seq (attributes s) (seq (name s at.Other) (seq (heads s l) (body s l)))) (seq (attributes s) (seq (name s at.Other) (seq (heads s m) (body s m)))) (one_rises at.Other (is k.Implementation)) (seq_rises (attributes s) (attributes s) (seq (name s at.Other) (seq (heads s l) (body s l))) (seq (name s at.Other) (seq (heads s m) (body s m))) (attributes_rises s) (seq_rises (name s at.Other) (name s at.Other) (seq (heads s l) (body s l)) (seq (heads s m) (body s m)) (name_rises s at.Other) (seq_rises (heads s l) (heads s m) (body s l) (body s m) (heads_rises s l m R M) (body_rises s l m R M) (body_lawful s m M) (body_example s l m R)) (seq_lawful (heads s m) (body s m) (heads_lawful s m M) (body_lawful s m M) (apart (λ t. refl) (λ t. refl) refl)) (has_seq (heads s m) (body s m) (heads_example s l m R) (body_example s l m R))) (seq_lawful (name s at.Other) (seq (heads s m) (body s m)) (name_lawful s at.Other) (seq_lawful (heads s m) (body s m) (heads_lawful s m M) (body_lawful s m M) (apart (λ t. refl) (λ t. refl) refl)) (apart (λ t. refl) (λ t. refl) refl)) (has_seq (name s at.Other) (seq (heads s m) (body s m)) (name_example s at.Other) (has_seq (heads s m) (body s m) (heads_example s l m R) (body_example s l m R)))) (seq_lawful (attributes s) (seq (name s at.Other) (seq (heads s m) (body s m))) (attributes_lawful s) (seq_lawful (name s at.Other) (seq (heads s m) (body s m)) (name_lawful s at.Other) (seq_lawful (heads s m) (body s m) (heads_lawful s m M) (body_lawful s m M) (apart (λ t. refl) (λ t. refl) refl)) (apart (λ t. refl) (λ t. refl) refl)) (apart (λ t. refl) (λ t. refl) refl)) (has_seq (attributes s) (seq (name s at.Other) (seq (heads s m) (body s m))) (attributes_example s) (has_seq (name s at.Other) (seq (heads s m) (body s m)) (name_example s at.Other) (has_seq (heads s m) (body s m) (heads_example s l m R) (body_example s l m R))))))

pub decl_example : (s : List ℕ) (l m : Levels) → LevelsRise l m → HasExample (decl s m)
unfolding decl
decl_example s l m R = has_sealed begins_decl false begins_spec (alt (synonym s m) (alt (constants s m) (alt (function s m) (alt (axiom_decl s m) (alt (globals s m) (alt (procedure s m) (implementation s m))))))) (has_first (synonym s m) (alt (constants s m) (alt (function s m) (alt (axiom_decl s m) (alt (globals s m) (alt (procedure s m) (implementation s m)))))) (synonym_example s l m R))

pub decl_rises : (s : List ℕ) (l m : Levels) → LevelsRise l m → LevelsAre m → Rises (decl s l) (decl s m)
unfolding decl synonym constants function axiom_decl variables procedure implementation
decl_rises s l m R M = sealed_rises begins_decl false begins_spec (alt (synonym s l) (alt (constants s l) (alt (function s l) (alt (axiom_decl s l) (alt (globals s l) (alt (procedure s l) (implementation s l))))))) (alt (synonym s m) (alt (constants s m) (alt (function s m) (alt (axiom_decl s m) (alt (globals s m) (alt (procedure s m) (implementation s m))))))) (alt_rises (synonym s l) (synonym s m) (alt (constants s l) (alt (function s l) (alt (axiom_decl s l) (alt (globals s l) (alt (procedure s l) (implementation s l)))))) (alt (constants s m) (alt (function s m) (alt (axiom_decl s m) (alt (globals s m) (alt (procedure s m) (implementation s m)))))) (synonym_rises s l m R M) (alt_rises (constants s l) (constants s m) (alt (function s l) (alt (axiom_decl s l) (alt (globals s l) (alt (procedure s l) (implementation s l))))) (alt (function s m) (alt (axiom_decl s m) (alt (globals s m) (alt (procedure s m) (implementation s m))))) (constants_rises s l m R M) (alt_rises (function s l) (function s m) (alt (axiom_decl s l) (alt (globals s l) (alt (procedure s l) (implementation s l)))) (alt (axiom_decl s m) (alt (globals s m) (alt (procedure s m) (implementation s m)))) (function_rises s l m R M) (alt_rises (axiom_decl s l) (axiom_decl s m) (alt (globals s l) (alt (procedure s l) (implementation s l))) (alt (globals s m) (alt (procedure s m) (implementation s m))) (axiom_decl_rises s l m R M) (alt_rises (globals s l) (globals s m) (alt (procedure s l) (implementation s l)) (alt (procedure s m) (implementation s m)) (globals_rises s l m R M) (alt_rises (procedure s l) (procedure s m) (implementation s l) (implementation s m) (procedure_rises s l m R M) (implementation_rises s l m R M) (λ t. refl)) (λ t. refl)) (λ t. refl)) (λ t. refl)) (λ t. refl)) (λ t. refl))

pub program_example : (s : List ℕ) (l m : Levels) → LevelsRise l m → HasExample (program s m)
unfolding program
program_example s l m R = has_made ast_of (seq (many (decl s m)) (end at.Other)) (has_seq (many (decl s m)) (end at.Other) (has_many (decl s m)) (record { tokens = []; value = tt; spells = refl }))

pub program_rises : (s : List ℕ) (l m : Levels) → LevelsRise l m → LevelsAre m → Rises (program s l) (program s m)
unfolding program decl
program_rises s l m R M = made_rises ast_of (seq (many (decl s l)) (end at.Other)) (seq (many (decl s m)) (end at.Other)) (seq_rises (many (decl s l)) (many (decl s m)) (end at.Other) (end at.Other) (many_rises (decl s l) (decl s m) (decl_rises s l m R M) (decl_lawful s m M) (λ t. refl)) (end_rises at.Other) (end_lawful at.Other) (record { tokens = []; value = tt; spells = refl }))

pub levels_rise : (s : List ℕ) (depth : ℕ) → LevelsRise (levels s depth) (levels s (suc depth))
unfolding levels sort expr implication unary statements if_rest
levels_rise s zero = record { sorts = tt; exprs = tt; impls = tt; unaries = tt; blocks = statements_example s (levels s zero); ifs = tt }
levels_rise s (suc depth) =
    let R = levels_rise s depth in
    let M = levels_are s (suc depth) in
    record {
      sorts = (sort_rises s (levels s depth) (levels s (suc depth)) R M, sort_example s (levels s depth) (levels s (suc depth)) R);
      exprs = (expr_rises s (levels s depth) (levels s (suc depth)) R M, expr_example s (levels s depth) (levels s (suc depth)) R);
      impls = (implication_rises s (levels s depth) (levels s (suc depth)) R M, implication_example s (levels s depth) (levels s (suc depth)) R);
      unaries = (unary_rises s (levels s depth) (levels s (suc depth)) R M, unary_example s (levels s depth) (levels s (suc depth)) R);
      blocks = (statements_rises s (levels s depth) (levels s (suc depth)) R M, statements_example s (levels s (suc depth)));
      ifs = (if_rest_rises s (levels s depth) (levels s (suc depth)) R M, if_rest_example s (levels s depth) (levels s (suc depth)) R);
    }

pub whole_rises : (s : List ℕ) (depth : ℕ) → Rises (whole s depth) (whole s (suc depth))
unfolding whole
whole_rises s depth = program_rises s (levels s depth) (levels s (suc depth)) (levels_rise s depth) (levels_are s (suc depth))

pub whole_example : (s : List ℕ) (depth : ℕ) → HasExample (whole s (suc depth))
unfolding whole
whole_example s depth = program_example s (levels s depth) (levels s (suc depth)) (levels_rise s depth)
