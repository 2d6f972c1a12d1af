use Rattle.passive_form.proofs.Passing.{items_say}
use Rattle.passive_form.proofs.laws.items_say_what_commands_do.Goals as goal

pub returns : goal.returns
returns c = items_say
