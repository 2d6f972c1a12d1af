use Rattle.std.proofs.Common.{◌≡◌, sym, refl, subst, ℕ}
use Rattle.std.specs.Prelude.{Option, None, Some, IfSome}
use Rattle.map_axioms.specs.declared.entry.Entry.{Entry}
use Rattle.map_axioms.specs.Steps.{asked, entry_number}
use Rattle.map_axioms.proofs.Arms.{entry_fits, entry_placed}
use Rattle.map_axioms.proofs.Rows.{entry_found}
use Rattle.map_axioms.proofs.entry.variable_entry.Goals as goal

pub returns-in-Some-clause-entry : goal.returns-in-Some-clause-entry
returns-in-Some-clause-entry c =
    let is : asked c.args.ask.map c.args.ask.place c.args.entries.now ≡ Some c.in-Some.entry = sym c.in-Some.ensures in
    entry_found c.args.base c.args.nodes.now c.args.out.now.nodes c.args.entries.now c.args.ask.map c.args.ask.place c.args.ask.index c.in-Some.entry c.args.ask.elem c.requires.state c.requires.ask is

pub add-requires : goal.add-requires
add-requires c =
    let number : c.in_ok-number.number ≡ entry_number c.args.base c.args.ask.place c.args.ask.map =
    subst (λ (o : Option ℕ). IfSome o (λ n. n ≡ entry_number c.args.base c.args.ask.place c.args.ask.map)) c.in_ok-number.ensures.ok_part c.entry_number.ensures in
    entry_fits c.args.base c.args.nodes.now c.args.out.now.nodes c.args.entries.now c.args.ask.map c.args.ask.place c.args.ask.index c.in_ok-number.number c.args.ask.elem c.scalar.result c.requires.state c.requires.ask c.requires.own
    number c.scalar.ensures

pub returns-clause-entry : goal.returns-clause-entry
returns-clause-entry c =
    let number : c.in_ok-number.number ≡ entry_number c.args.base c.args.ask.place c.args.ask.map =
    subst (λ (o : Option ℕ). IfSome o (λ n. n ≡ entry_number c.args.base c.args.ask.place c.args.ask.map)) c.in_ok-number.ensures.ok_part c.entry_number.ensures in
    let none : asked c.args.ask.map c.args.ask.place c.args.entries.now ≡ None = sym c.in_default.ensures in
    let e : Entry = record { map = c.args.ask.map; place = c.args.ask.place; index = c.args.ask.index; number = c.in_ok-number.number; entry = c.in_ok-entry.entry } in
    entry_placed c.args.base c.args.nodes.now c.args.out.now.nodes c.args.entries.now c.args.ask.map c.args.ask.place c.args.ask.index c.in_ok-number.number c.in_ok-entry.entry c.args.ask.elem c.scalar.result
    c.add.new.self.nodes c.push.new.self e c.requires.state c.requires.ask c.requires.own none number c.scalar.ensures c.in_ok-entry.ensures.node c.in_ok-push.ensures refl refl refl refl refl
