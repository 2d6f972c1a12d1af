use Rattle.std.proofs.Common.{◌≡◌, ◌+◌, drop}
use Rattle.hydra_words.specs.Words.{no_options, with_words}
use Rattle.hydra_words.proofs.options.with_words.Given as goal

abbrev pub invariant-loop-word : goal.invariant-loop-word
invariant-loop-word l = (l.index ≡ l.first + l.word-index) × (with_words l.index l.options (drop l.word-index l.words) ≡ with_words l.first no_options l.words)
