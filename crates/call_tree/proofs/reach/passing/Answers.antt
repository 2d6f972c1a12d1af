use Rattle.std.proofs.Common.{length, sym, ◌∙◌}
use Rattle.flat_prog.specs.Sites.{calls_of}
use Rattle.call_tree.proofs.Reaching.{room, pass_short, pass_behind}
use Rattle.call_tree.proofs.reach.passing.Goals as goal

pub overflow_sub-result : goal.overflow_sub-result
overflow_sub-result c = room (calls_of c.args.cmds.now) (length c.args.children.now) c.in-Err.left (sym c.seek_call.ensures ∙ c.in-Err.is)

pub returns-in-Ok : goal.returns-in-Ok
returns-in-Ok c = λ first site out. pass_short (calls_of c.args.cmds.now) c.args.children.now _ first site (sym c.seek_call.ensures ∙ c.in-Ok.is) out

pub returns-in-Err : goal.returns-in-Err
returns-in-Err c = λ first site out. pass_behind (calls_of c.args.cmds.now) c.args.children.now c.in-Err.left first site (sym c.seek_call.ensures ∙ c.in-Err.is) out
