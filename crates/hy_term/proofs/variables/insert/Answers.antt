-- Each way is what an insertion does at the place of the number.
use Rattle.std.proofs.Common.{◌≡◌, ◌≤◌, ◌∙◌, ap, length, true, false, arith}
use Rattle.hy_term.proofs.Ordering.{insert_known, place_within}
use Rattle.hy_term.proofs.variables.insert.Goals as goal

pub returns-then-has_number : goal.returns-then-has_number
returns-then-has_number c =
    insert_known c.args.variable c.args.variables.now.items c.as_slice.result.now c.as_slice-2.result.now c.place_of-place.result c.has_number.result true
    c.place_of-place.ensures c.as_slice.ensures.value c.has_number.ensures c.as_slice-2.ensures.value c.if-has_number.true

pub insert-requires : goal.insert-requires
insert-requires c =
    let le : c.place_of-place.result ≤ length c.args.variables.now.items =
    place_within c.args.variable.number c.args.variables.now.items c.as_slice.result.now c.place_of-place.result c.place_of-place.ensures c.as_slice.ensures.value in
    let same : length c.as_slice.result.now ≡ length c.args.variables.now.items = ap length c.as_slice.ensures.value in
    omega (arith, c.as_slice.ensures.len)

pub returns : goal.returns
returns c =
    c.in_ok-insert.ensures.items
    ∙ insert_known c.args.variable c.args.variables.now.items c.as_slice.result.now c.as_slice-2.result.now c.place_of-place.result c.has_number.result false
    c.place_of-place.ensures c.as_slice.ensures.value c.has_number.ensures c.as_slice-2.ensures.value c.if-has_number.false
