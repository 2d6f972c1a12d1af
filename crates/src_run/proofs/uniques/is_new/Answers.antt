use Rattle.src_run.proofs.Unseen.{adds}
use Rattle.src_run.proofs.uniques.is_new.Goals as goal

pub returns-in-Ok : goal.returns-in-Ok
returns-in-Ok c = adds c.args.atom c.key_of.result c.args.seen.now c.insert.new.self c.in-Ok.added c.key_of.ensures c.in-Ok.ensures.added c.in-Ok.ensures.updates
