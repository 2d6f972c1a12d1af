use Rattle.std.proofs.Common.{rules, sym, ◌∙◌}
use Rattle.trace_text.proofs.Numbers.{up_to_read, up_to_refused}
use Rattle.trace_text.proofs.reading.parts.number_up_to.Goals as goal

pub returns-in-Ok : goal.returns-in-Ok
returns-in-Ok c = record {
  value = c.at_most.ensures.value ∙ sym (up_to_read c.args.most c.in-Ok.number c.args.digits.now (sym c.in-Ok.ensures));
  within = c.at_most.ensures.within;
}

pub returns-in-Err : goal.returns-in-Err
returns-in-Err c = record {
  value = sym (up_to_refused c.args.most _ c.args.digits.now (search rules) (sym c.in-Err.ensures));
  within = tt;
}
