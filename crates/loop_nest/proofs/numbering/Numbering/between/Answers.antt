use Rattle.std.proofs.Common.{◌≡◌, ℕ, ◌<◌, ◌≤◌, List, ◌∙◌, length, get_or, arith}
use Rattle.std.proofs.lemmas.List.{get_or_default}
use Rattle.loop_nest.specs.declared.numbering.Numbering.{Numbering}
use Rattle.loop_nest.proofs.ListLaws.{IsPart, part-of, part-ok}
use Rattle.loop_nest.proofs.numbering.Numbering.between.Goals as goal

part-here : (n : Numbering) (from to : ℕ) (ups : List ℕ) (first end : ℕ) → from ≤ to → to < length n.flags.items → ups ≡ n.numbers.items → first ≡ get_or n.before.items from first → end ≡ get_or n.before.items to end
    → IsPart n.flags.items from to ups first end
part-here n from to ups first end le within same f e =
    let size = n.exact.size in
    let a : from < length n.before.items = omega arith in
    let b : to < length n.before.items = omega arith in
    part-of n.flags.items from to ups n.numbers.items n.before.items first end n.exact le within same (f ∙ get_or_default n.before.items from first 0 a) (e ∙ get_or_default n.before.items to end 0 b)

pub part-requires-clause-order : goal.part-requires-clause-order
part-requires-clause-order c = (part-here c.args.self.now c.args.from c.args.to c.as_slice.result.now c.index-first.result.now c.index-end.result.now c.requires.order c.requires.within c.as_slice.ensures.value c.index-first.ensures c.index-end.ensures).order

pub part-requires-clause-within : goal.part-requires-clause-within
part-requires-clause-within c = (part-here c.args.self.now c.args.from c.args.to c.as_slice.result.now c.index-first.result.now c.index-end.result.now c.requires.order c.requires.within c.as_slice.ensures.value c.index-first.ensures c.index-end.ensures).within

pub returns : goal.returns
returns c =
    part-ok c.part.result c.args.self.now.flags.items c.args.from c.args.to c.as_slice.result.now c.index-first.result.now c.index-end.result.now
    (part-here c.args.self.now c.args.from c.args.to c.as_slice.result.now c.index-first.result.now c.index-end.result.now c.requires.order c.requires.within c.as_slice.ensures.value c.index-first.ensures c.index-end.ensures) c.part.ensures
