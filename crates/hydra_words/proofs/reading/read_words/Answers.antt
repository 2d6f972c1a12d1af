use Rattle.std.proofs.Common.{rules}
use Rattle.hydra_words.specs.Words.{Gives, command_of}
use Rattle.hydra_words.proofs.InRange.{given_in_range}
use Rattle.hydra_words.proofs.reading.read_words.Goals as goal

pub returns-clause-ranges : goal.returns-clause-ranges
unfolding command_of
returns-clause-ranges c =
    let answer : Gives c.command_named.result (command_of c.args.words.now) = search rules in
    given_in_range _ c.args.words.now answer
