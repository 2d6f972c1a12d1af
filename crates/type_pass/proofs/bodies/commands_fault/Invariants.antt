use Rattle.std.proofs.Common.{◌≡◌, ◌≤◌, map, drop}
use Rattle.std.specs.Prelude.{flat_map}
use Rattle.type_pass.specs.Declarations.{function_of, synonyms}
use Rattle.type_pass.specs.Faults.{earlier, first}
use Rattle.type_pass.specs.Passes.{command_faults, commands_faults}
use Rattle.type_pass.specs.Scopes.{signature_of}
use Rattle.type_pass.proofs.bodies.commands_fault.Given as goal

abbrev pub invariant-loop-decl : goal.invariant-loop-decl
invariant-loop-decl l = record {
  found : earlier l.so_far (first (flat_map (command_faults l.fn.ast) (drop l.decl-index l.fn.ast.decls))) ≡ first (commands_faults l.fn.ast);
  functions : drop l.number l.fn.known.functions ≡ map (signature_of (synonyms l.fn.ast)) (flat_map function_of (drop l.decl-index l.fn.ast.decls));
  within : l.number ≤ l.decl-index;
}
