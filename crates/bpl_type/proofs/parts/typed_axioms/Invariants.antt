use Rattle.std.proofs.Common.{◌≡◌, ◌++◌, map, drop}
use Rattle.std.specs.Prelude.{flat_map}
use Rattle.type_pass.specs.Declarations.{axiom_of, axioms}
use Rattle.type_pass.specs.Scopes.{axiom_scope}
use Rattle.bpl_type.specs.WellMade.{expr_in}
use Rattle.bpl_type.proofs.parts.typed_axioms.Given as goal

abbrev pub invariant-loop-decl : goal.invariant-loop-decl
invariant-loop-decl l =
    l.made ++ map (λ a. expr_in l.fn.program.ast.now axiom_scope a.condition) (flat_map axiom_of (drop l.decl-index l.fn.program.ast.now.decls))
    ≡ map (λ a. expr_in l.fn.program.ast.now axiom_scope a.condition) (axioms l.fn.program.ast.now)
