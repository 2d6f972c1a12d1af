use Rattle.std.proofs.Common.{◌≡◌, ◌++◌, take}
use Rattle.std.specs.Prelude.{flat_map}
use Rattle.journal_text.specs.Journal.{site_text}
use Rattle.journal_text.proofs.printing.put_sites.Given as goal

abbrev pub invariant-loop-site : goal.invariant-loop-site
invariant-loop-site l = l.text ≡ l.initial.text ++ flat_map site_text (take l.site-index l.sites)
