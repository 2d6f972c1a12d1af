use Rattle.std.proofs.Common.{ap, ◌∙◌}
use Rattle.std.specs.Result.{result_ok}
use Rattle.flat_prog.specs.Sites.{sites_of}
use Rattle.call_tree.proofs.Seeking.{seek_get}
use Rattle.call_tree.proofs.sites.seek_site.Goals as goal

pub returns : goal.returns
returns c = c.ok.ensures.value ∙ ap result_ok c.seek_sites.ensures ∙ seek_get (sites_of c.args.blocks.now) c.args.site
