use Rattle.std.proofs.Common.{◌≡◌, ◌++◌, take}
use Rattle.journal_text.specs.Journal.{paths_text}
use Rattle.journal_text.proofs.printing.put_paths.Given as goal

abbrev pub invariant-loop-path : goal.invariant-loop-path
invariant-loop-path l = l.text ≡ l.initial.text ++ paths_text (take l.path-index l.paths)
