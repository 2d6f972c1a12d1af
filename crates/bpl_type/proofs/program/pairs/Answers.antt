use Rattle.std.proofs.Common.{◌∙◌, ◌++◌, ◌∷◌, [], List, take, sym, ap}
use Rattle.std.specs.Option.{option_copied}
use Rattle.hy_val.specs.declared.expr.ExprNode.{ExprNode}
use Rattle.hy_val.specs.declared.expr.Var.{Var}
use Rattle.type_pass.specs.Declarations.{functions}
use Rattle.type_pass.specs.Scopes.{tables_of}
use Rattle.bpl_type.specs.TypedOf.{pairs_of, var_of}
use Rattle.bpl_type.proofs.ProgramLaws.{pairs-further, pairs-end, pair-is}
use Rattle.bpl_type.proofs.program.pairs.Goals as goal

pub returns-in_default : goal.returns-in_default
returns-in_default c =
    c.loop-number.invariant
    ∙ pairs-end (tables_of c.args.program.now.ast.now) (functions c.args.program.now.ast.now) c.args.scope.now c.args.targets.now c.args.values.now c.loop-number.number (sym c.at.ensures ∙ ap option_copied c.in_default.is)

pub new_value-requires : goal.new_value-requires
new_value-requires c =
    pair-is (tables_of c.args.program.now.ast.now) (functions c.args.program.now.ast.now) c.args.scope.now c.args.targets.now c.args.values.now c.loop-number.number c.index-targets-number.result c.in-Some.value.now
    c.loop-number-test.true c.index-targets-number.is (sym c.at.ensures ∙ ap option_copied c.in-Some.is) c.requires

pub loop-number-preserved : goal.loop-number-preserved
loop-number-preserved c =
    let t = tables_of c.args.program.now.ast.now in
    let fs = functions c.args.program.now.ast.now in
    let s = c.args.scope.now in
    c.in_ok-push.ensures.ok
    ∙ ap (λ (ps : List (Var × List ExprNode)). ps ++ (c.variable-var.result, c.in_ok-new_value.field-0) ∷ []) c.loop-number.invariant
    ∙ ap (λ (x : Var). pairs_of t fs s (take c.loop-number.number c.args.targets.now) c.args.values.now ++ (x, c.in_ok-new_value.field-0) ∷ []) c.variable-var.ensures
    ∙ ap (λ (e : List ExprNode). pairs_of t fs s (take c.loop-number.number c.args.targets.now) c.args.values.now ++ (var_of t s c.index-targets-number.result.name, e) ∷ []) c.in_ok-new_value.ensures
    ∙ sym (pairs-further t fs s c.args.targets.now c.args.values.now c.loop-number.number c.index-targets-number.result c.in-Some.value.now c.loop-number-test.true c.index-targets-number.is (sym c.at.ensures ∙ ap option_copied c.in-Some.is))
