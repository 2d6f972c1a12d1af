use Rattle.std.proofs.Common.{rules}
use Rattle.proc_template.proofs.Layouts.{no_mark}
use Rattle.proc_template.proofs.layout.is_marked.Goals as goal

pub returns-in-None : goal.returns-in-None
returns-in-None c = search (rules, no_mark)
