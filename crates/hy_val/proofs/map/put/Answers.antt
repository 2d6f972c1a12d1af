-- Each way of writing is what `put` does at the place of the index.
use Rattle.std.proofs.Common.{◌≡◌, ◌<◌, ◌≤◌, ◌∙◌, ap, length, true, false, arith}
use Rattle.hy_val.proofs.Tables.{put_known, there_known, place_known}
use Rattle.hy_val.proofs.map.put.Goals as goal

pub returns-then-there-clause-ok : goal.returns-then-there-clause-ok
returns-then-there-clause-ok c =
    c.remove.ensures.items
    ∙ put_known c.args.i c.args.v c.args.pairs.now.items c.as_slice.result.now c.as_slice-2.result.now c.place-place.result c.is_at-there.result c.is_zero.result true true
    c.place-place.ensures c.as_slice.ensures.value c.is_at-there.ensures c.as_slice-2.ensures.value c.if-there.true c.is_zero.ensures c.if-is_zero.true

pub returns-else-there-clause-ok : goal.returns-else-there-clause-ok
returns-else-there-clause-ok c =
    put_known c.args.i c.args.v c.args.pairs.now.items c.as_slice.result.now c.as_slice-2.result.now c.place-place.result c.is_at-there.result c.is_zero.result false true
    c.place-place.ensures c.as_slice.ensures.value c.is_at-there.ensures c.as_slice-2.ensures.value c.if-there.false c.is_zero.ensures c.if-is_zero.true

pub index_mut-requires : goal.index_mut-requires
index_mut-requires c =
    let less : c.place-place.result < length c.args.pairs.now.items =
    there_known c.args.i c.args.pairs.now.items c.as_slice-2.result.now c.place-place.result c.is_at-there.result c.is_at-there.ensures c.as_slice-2.ensures.value c.if-there-2.true in
    let same : length c.as_slice.result.now ≡ length c.args.pairs.now.items = ap length c.as_slice.ensures.value in
    omega (arith, c.as_slice.ensures.len)

pub returns-then-there-2-clause-ok : goal.returns-then-there-2-clause-ok
returns-then-there-2-clause-ok c =
    put_known c.args.i c.args.v c.args.pairs.now.items c.as_slice.result.now c.as_slice-2.result.now c.place-place.result c.is_at-there.result c.is_zero.result true false
    c.place-place.ensures c.as_slice.ensures.value c.is_at-there.ensures c.as_slice-2.ensures.value c.if-there-2.true c.is_zero.ensures c.if-is_zero.false

pub insert-requires : goal.insert-requires
insert-requires c =
    let le : c.place-place.result ≤ length c.args.pairs.now.items =
    place_known c.args.i c.args.pairs.now.items c.as_slice.result.now c.place-place.result c.place-place.ensures c.as_slice.ensures.value in
    let same : length c.as_slice.result.now ≡ length c.args.pairs.now.items = ap length c.as_slice.ensures.value in
    omega (arith, c.as_slice.ensures.len)

pub returns-clause-ok : goal.returns-clause-ok
returns-clause-ok c =
    c.in_ok-insert.ensures.items
    ∙ put_known c.args.i c.args.v c.args.pairs.now.items c.as_slice.result.now c.as_slice-2.result.now c.place-place.result c.is_at-there.result c.is_zero.result false false
    c.place-place.ensures c.as_slice.ensures.value c.is_at-there.ensures c.as_slice-2.ensures.value c.if-there-2.false c.is_zero.ensures c.if-is_zero.false
