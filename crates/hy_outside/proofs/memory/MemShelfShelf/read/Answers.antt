use Rattle.std.proofs.Common.{◌≡◌, ◌≤◌, ◌+◌, length, drop, take, arith, ◌∙◌, ap, sym}
use Rattle.std.proofs.lemmas.Grind.{common_steps}
use Rattle.hy_outside.specs.Memory.{ShelfState}
use Rattle.hy_outside.proofs.Reading.{taken_back, none_left, same_room}
use Rattle.hy_outside.proofs.memory.MemShelfShelf.read.Goals as goal

pub returns-clause-bytes : goal.returns-clause-bytes
returns-clause-bytes c =
    let content = c.self.inside.content in
    let at = c.self.inside.at in
    let count = c.in-Some.count in
    let within : at + count ≤ length content = grind (arith, common_steps, c.in-Some.ensures.within, c.self.invariant) in
    let front : c.copy_from_slice.new.self ≡ take count (drop at content) = grind (arith, common_steps, c.copy_from_slice.ensures.after, c.as_slice.ensures) in
    let size : length c.copy_from_slice.new.self ≡ count = grind (arith, common_steps, c.copy_from_slice.ensures.len) in
    let left : c.args.self.now.left ≡ drop at content = ap (λ (s : ShelfState). s.left) (sym c.self.view_is) in (
      left ∙ taken_back at count content c.copy_from_slice.new.self (drop count c.args.buf.now) within front,
      λ none some. none_left at count c.min-most.result (length c.args.buf.now) c.len.result content c.in-Some.ensures.some c.min-most.ensures c.len.ensures none (same_room count c.copy_from_slice.new.self c.args.buf.now size some (grind (arith, c.in-Some.ensures.within))),
    )
