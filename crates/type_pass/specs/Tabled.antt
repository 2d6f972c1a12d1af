-- Parts of the tables, by what is known while they are made.
use Rattle.std.specs.Prelude.{ℕ, ◌||◌, List, map, flat_map, is_some}
use Rattle.bpl_ast.specs.declared.decl.Procedure.{Procedure}
use Rattle.bpl_ast.specs.declared.decl.Synonym.{Synonym}
use Rattle.bpl_ast.specs.declared.name.Name.{Name}
use Rattle.hy_val.specs.declared.sort.Sort.{Sort}
use Rattle.type_pass.specs.declared.tables.Heading.{Heading}
use Rattle.type_pass.specs.declared.tables.Named.{Named}
use Rattle.type_pass.specs.Declarations.{in_parameters}
use Rattle.type_pass.specs.Memos.{number_among}
use Rattle.type_pass.specs.Scopes.{sort_in}

abbrev pub named_as : Sort → Name → Named
named_as sort name = record { name = name.text; sort = sort }

-- by the names of the implementations
abbrev pub heading_with : List Synonym → List (List ℕ) → Procedure → Heading
heading_with types implemented p =
    record { name = p.name.text; ins = map (sort_in types) (flat_map in_parameters p.heads.ins); outs = map (sort_in types) (flat_map in_parameters p.heads.outs); has_body = is_some p.body || is_some (number_among implemented p.name.text) }
