use Rattle.std.proofs.Common.{◌≡◌, None, map, drop}
use Rattle.bpl_flow.specs.Walk.{walk, go_all}
use Rattle.bpl_flow.proofs.state.Walk.+walk.Given as goal

abbrev pub invariant-statements-loop-statement : goal.invariant-statements-loop-statement
invariant-statements-loop-statement l = record {
  around : l.around ≡ l.initial.around;
  walked : go_all (map walk (drop l.statement-index l.statements)) l.around l.before l.self ≡ go_all (map walk l.statements) l.initial.around None l.initial.self;
}
