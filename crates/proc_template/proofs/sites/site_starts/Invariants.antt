use Rattle.std.proofs.Common.{◌≡◌, map, take, length}
use Rattle.flat_prog.specs.Sites.{sites_of, numbers_from}
use Rattle.proc_template.proofs.sites.site_starts.Given as goal

abbrev pub invariant-loop-block : goal.invariant-loop-block
invariant-loop-block l = (l.callees ≡ sites_of (take l.block-index l.blocks)) × (l.starts ≡ map (λ n. length (sites_of (take n l.blocks))) (numbers_from 0 l.block-index))
