-- The first fault of a part, with what else is told of it.
use Rattle.std.specs.Prelude.{List, [], map, flat_map, Option}
use Rattle.bpl_ast.specs.declared.decl.Decl.{Decl}
use Rattle.bpl_ast.specs.declared.decl.Decl.TheVariants as decls
use Rattle.bpl_ast.specs.declared.decl.Implementation.{Implementation}
use Rattle.bpl_ast.specs.declared.decl.ParameterGroup.{ParameterGroup}
use Rattle.bpl_ast.specs.declared.decl.Synonym.{Synonym}
use Rattle.bpl_ast.specs.declared.word.Word.TheVariants.{MapOfMap}
use Rattle.type_pass.specs.declared.fault.TypeFault.{TypeFault}
use Rattle.type_pass.specs.declared.fault.TypeKind.TheVariants.{LeftOut}
use Rattle.type_pass.specs.declared.sorts.SortFault.{SortFault}
use Rattle.type_pass.specs.declared.tables.Tables.{Tables}
use Rattle.type_pass.specs.Declarations.{in_parameters}
use Rattle.type_pass.specs.Faults.{told, first, earlier}
use Rattle.type_pass.specs.Passes.{implementation_faults, operator_faults, modifies_faults}
use Rattle.type_pass.specs.Scopes.{procedure_named, signature_of, sort_in}
use Rattle.type_pass.specs.Sorts.{SortPart, sort_faults}

abbrev pub sort_told : SortPart → SortFault
sort_told p = record { at = p.at; is_map = p.is_map; fault = first p.faults }

-- the first fault of an index or an element of a map
abbrev pub inside_told : SortFault → Option TypeFault
inside_told p = earlier (first (told p.is_map p.at (LeftOut MapOfMap))) p.fault

-- the faults of the sort of parameters, for each of them
abbrev pub parameter_faults : List Synonym → ParameterGroup → List TypeFault
parameter_faults types g = flat_map (λ d. sort_faults types d.sort) (in_parameters g)

-- ---- heads, by the types and the tables

abbrev pub implementation_told : List Synonym → Tables → Implementation → List TypeFault
implementation_told types tables i =
    implementation_faults i.name.at (procedure_named tables i.name.text) (map (sort_in types) (flat_map in_parameters i.heads.ins)) (map (sort_in types) (flat_map in_parameters i.heads.outs))

abbrev pub head_faults_with : List Synonym → Tables → Decl → List TypeFault
head_faults_with types tables (decls.Function f) = operator_faults f.name.at (signature_of types f) (signature_of types f).meaning
head_faults_with types tables (decls.Procedure p) = flat_map (λ s. flat_map (modifies_faults tables) s.names) p.specs
head_faults_with types tables (decls.Implementation i) = implementation_told types tables i
head_faults_with types tables _ = []
