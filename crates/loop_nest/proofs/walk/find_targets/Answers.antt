use Rattle.std.proofs.Common.{List, ℕ, length, sym, ◌∙◌, subst}
use Rattle.std.specs.Result.{OnOk}
use Rattle.loop_nest.specs.Walks.{Finds}
use Rattle.loop_nest.proofs.WalkLaws.{targets-goto, targets-return, targets-within, finds-none}
use Rattle.loop_nest.proofs.walk.find_targets.Goals as goal

pub find_all-requires-clause-within : goal.find_all-requires-clause-within
find_all-requires-clause-within c =
    targets-within c.args.blocks.now c.args.from c.in-Goto.targets c.as_slice.result.now (length c.args.walk.now.seen.items) c.requires.closed c.requires.size
    (targets-goto c.args.blocks.now c.args.from c.index-blocks-from.result c.in-Goto.targets c.requires.within c.in-Goto.is) c.as_slice.ensures

pub returns-in-Goto : goal.returns-in-Goto
returns-in-Goto c =
    subst (λ (ts : List ℕ). OnOk c.find_all.result (Finds ts c.args.walk.now.found.items c.find_all.new.walk.found.items c.args.walk.now.seen.items c.find_all.new.walk.seen.items))
    (c.as_slice.ensures ∙ sym (targets-goto c.args.blocks.now c.args.from c.index-blocks-from.result c.in-Goto.targets c.requires.within c.in-Goto.is)) c.find_all.ensures

pub returns-in-Return : goal.returns-in-Return
returns-in-Return c =
    subst (λ (ts : List ℕ). Finds ts c.args.walk.now.found.items c.args.walk.now.found.items c.args.walk.now.seen.items c.args.walk.now.seen.items)
    (sym (targets-return c.args.blocks.now c.args.from c.index-blocks-from.result c.requires.within c.in-Return.is)) (finds-none c.args.walk.now.found.items c.args.walk.now.seen.items c.requires.found)
