use Rattle.std.proofs.Common.{◌≡◌, ◌∙◌, List, map, sym, ap, take_all, unwrap_or}
use Rattle.std.specs.Option.{option_copied, option_and_then}
use Rattle.std.specs.List.{slice_get}
use Rattle.std.proofs.lemmas.Result.{on_ok_weaker}
use Rattle.bpl_ast.specs.declared.expr.Expr.{Expr}
use Rattle.bpl_type.specs.Making.{with_term, term_with, read_back, body_nodes}
use Rattle.type_pass.specs.Scopes.{function_named}
use Rattle.type_pass.specs.Terms.{Term, substituted, missing, nodes_of}
use Rattle.bpl_type.proofs.MakingLaws.{reads-back}
use Rattle.bpl_type.proofs.WritingLaws.{made-is, canonical, mapped-further, read-mapped, use-body}
use Rattle.bpl_type.proofs.writing.+writing.Goals as goal

pub write_body-new-requires : goal.write_body-new-requires
write_body-new-requires t c =
    canonical c.new-nodes.result c.write.new.out (term_with c.args.place.now.known.now c.args.place.now.bodies.now c.args.place.now.scope.now c.argument-item.result) c.new-nodes.ensures c.in_ok-write.ensures

pub write_body-loop-argument-preserved : goal.write_body-loop-argument-preserved
write_body-loop-argument-preserved t c =
    let term = λ (x : Expr). term_with c.args.place.now.known.now c.args.place.now.bodies.now c.args.place.now.scope.now x in
    mapped-further (λ x. nodes_of (term x)) c.args.arguments.now c.loop-argument.argument-index c.argument-item.result c.loop-argument.made c.push.new.self c.new.result c.loop-argument-test.true c.argument-item.is c.loop-argument.invariant
    (c.new.ensures ∙ made-is c.new-nodes.result c.write.new.out (term c.argument-item.result) c.new-nodes.ensures c.in_ok-write.ensures) c.in_ok-push.ensures.ok

pub write_body-returns-in-None : goal.write_body-returns-in-None
write_body-returns-in-None t c =
    let xs : List Term = map (term_with c.args.place.now.known.now c.args.place.now.bodies.now c.args.place.now.scope.now) c.args.arguments.now in
    on_ok_weaker c.push_missing.result
    (λ e. e ∙ ap (with_term c.args.out.now) (sym (ap (λ o. substituted xs (read_back (unwrap_or (option_copied o) (nodes_of missing)))) c.in-None.is ∙ ap (substituted xs) (reads-back missing))))
    c.push_missing.ensures

pub write_body-returns : goal.write_body-returns
write_body-returns t c =
    let term = λ (x : Expr). term_with c.args.place.now.known.now c.args.place.now.bodies.now c.args.place.now.scope.now x in
    let xs : List Term = map term c.args.arguments.now in
    let made : map read_back c.as_slice.result.now ≡ xs =
    ap (map read_back) (c.as_slice.ensures ∙ c.loop-argument.invariant ∙ ap (map (λ x. nodes_of (term x))) (take_all c.loop-argument.argument-index c.args.arguments.now c.loop-argument-test.false))
    ∙ read-mapped term c.args.arguments.now in
    on_ok_weaker c.append_body.result
    (λ e. e ∙ ap (λ ts. with_term c.args.out.now (substituted ts (read_back c.in-Some.body.now))) made
    ∙ ap (λ o. with_term c.args.out.now (substituted xs (read_back (unwrap_or (option_copied o) (nodes_of missing))))) (sym c.in-Some.is))
    c.append_body.ensures

pub write_use-returns-in-Body : goal.write_use-returns-in-Body
write_use-returns-in-Body t c =
    let tables = c.args.place.now.known.now in
    let bodies = c.args.place.now.bodies.now in
    let text = c.args.name.now.text in
    let xs : List Term = map (term_with tables bodies c.args.place.now.scope.now) c.args.arguments.now in
    let named : function_named tables text ≡ option_copied c.function.result = ap (function_named tables) (sym c.as_slice-text.ensures) ∙ sym c.function.ensures in
    let body : option_copied c.body_of-body.result ≡ option_and_then (slice_get bodies) c.function_number.result = c.body_of-body.ensures in
    on_ok_weaker c.write_body.result
    (λ e. e ∙ ap (λ o. with_term c.args.out.now (substituted xs (read_back (unwrap_or o (nodes_of missing))))) (body ∙ ap (option_and_then (slice_get bodies)) c.function_number.ensures)
    ∙ ap (λ x. with_term c.args.out.now (substituted xs (read_back (body_nodes tables bodies x)))) c.as_slice-text.ensures
    ∙ ap (with_term c.args.out.now) (sym (use-body tables bodies text xs c.in-Some.signature.now (named ∙ ap option_copied c.in-Some.is) c.in-Body.is)))
    c.write_body.ensures
