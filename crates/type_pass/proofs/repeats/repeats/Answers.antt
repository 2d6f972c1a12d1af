use Rattle.std.proofs.Common.{◌≡◌, Bool, not, sym, ◌∙◌, ap}
use Rattle.std.specs.List.{list_any}
use Rattle.std.specs.Str.{bytes_eq}
use Rattle.type_pass.specs.Faults.{earlier}
use Rattle.type_pass.proofs.repeats.repeats.Goals as goal
use Rattle.type_pass.proofs.repeats.repeats.Goals.{then-not-branch, else-not-branch}
use Rattle.type_pass.proofs.RepeatLaws.{turn, after-new, after-old, fault_if, not-true, not-false}

pub loop-name-preserved : goal.loop-name-preserved
loop-name-preserved c =
    let a = c.in_ok-insert.ensures {u = tt} in
    let there : Bool = list_any (λ j. bytes_eq c.as_slice.result.now j.now) c.loop-name.seen.keys in
    let added : c.in_ok-insert.field-0 ≡ not there = a.added in
    let next : c.if-not-branch.found ≡ earlier c.loop-name.found (fault_if there c.name-item.result.now) =
    elim c.if-not-branch.branch [
      | then-not-branch w ↦ w.found-is ∙ w.earlier-found.ensures ∙ after-old c.loop-name.found c.name-item.result.now there (not-false there (sym added ∙ w.if-not-branch.true))
      | else-not-branch w ↦ w.found-is ∙ after-new c.loop-name.found c.name-item.result.now there (not-true there (sym added ∙ w.if-not-branch.false))
    ] in
    let s = turn c.args.names.now c.loop-name.name-index c.name-item.result c.loop-name.seen.keys c.as_slice.result c.loop-name.found c.if-not-branch.found _
    c.loop-name-test.true c.name-item.is c.as_slice.ensures c.loop-name.invariant.0 c.loop-name.invariant.1 next in
    (λ text. ap (λ ks. list_any (λ k. bytes_eq text k.now) ks) a.keys ∙ s.has text, s.finds)
