use Rattle.replay_law.proofs.PrintedBack.{printed_back}
use Rattle.replay_law.proofs.laws.printed_traces_are_replayed.Goals as goal

pub returns : goal.returns
returns c =
    printed_back c.replays_are_determined.ensures c.statuses_are_unique.ensures c.names_are_of_choices.ensures c.statuses_have_causes.ensures c.traces_are_read_back.ensures
