use Rattle.std.proofs.Common.{◌≡◌, ◌≤◌, ◌-◌, true, take, drop, ap, sym, ◌∙◌, arith}
use Rattle.extract_def.specs.declared.scope.Scope.TheVariants.{Whole, In}
use Rattle.loop_extract.specs.Ascents.{ascends}
use Rattle.loop_extract.proofs.Windows.{whole_window, loop_window, window_at, part_is}
use Rattle.loop_extract.proofs.spans.Heads.window.Goals as goal

pub returns-in-Whole : goal.returns-in-Whole
returns-in-Whole c =
    let v = c.self.view_is in
    let items = c.self.inside.items in
    let up : ascends 0 c.self.inside.numbers ≡ true = ap (ascends 0) (sym c.numbers-numbers.ensures.value) ∙ c.numbers-numbers.ensures.kept in
    let w = window_at c.args.scope Whole items c.args.self.now items c.as_slice.result.now 0 (whole_window items (ap (ascends 0) (sym c.self.invariant.numbers_are) ∙ up)) c.in-Whole.is v c.as_slice.ensures in
    record { spans = w.spans; inners = w.inners; ascend = w.ascend }

pub returns-in-In : goal.returns-in-In
returns-in-In c =
    let v = c.self.view_is in
    let items = c.self.inside.items in
    let first = c.place_from-first.result in
    let end = c.max-end.result in
    let up : ascends 0 c.self.inside.numbers ≡ true = ap (ascends 0) (sym c.numbers-numbers.ensures.value) ∙ c.numbers-numbers.ensures.kept in
    let past : c.place_from.result ≤ c.max-end.result = omega (arith, c.max-end.ensures) in
    let from : c.place_from-first.result ≤ c.max-end.result = omega (arith, c.max-end.ensures) in
    let low = c.place_from-first.ensures in
    let high = c.place_from.ensures in
    let part = loop_window c.in-In.head c.in-In.exit c.place_from-first.result c.place_from.result c.max-end.result c.self.inside.numbers c.self.inside.items c.self.invariant up
    (record { within = low.within; less = low.less; more = low.more }) (record { within = high.within; less = high.less; more = high.more }) past from in
    let w = window_at c.args.scope (In c.in-In.head c.in-In.exit) c.self.inside.items c.args.self.now (take (c.max-end.result - c.place_from-first.result) (drop c.place_from-first.result c.self.inside.items)) _ c.place_from-first.result part c.in-In.is v
    (part_is c.place_from-first.result c.max-end.result c.self.inside.items c.as_slice-in-In.result.now c.as_slice-in-In.ensures) in
    record { spans = w.spans; inners = w.inners; ascend = w.ascend }
