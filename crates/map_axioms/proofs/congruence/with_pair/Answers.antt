use Rattle.std.proofs.Common.{◌≡◌, ◌≢◌, true, false, arith, length}
use Rattle.std.specs.Prelude.{nat_eq}
use Rattle.std.proofs.lemmas.Bool.Decides.{nat_tests}
use Rattle.map_axioms.specs.Steps.{pair_on}
use Rattle.map_axioms.proofs.Conjoining.{conjoined_same, pair_other, first_step, second_fits, second_step, third_fits, third_step, fourth_fits, fourth}
use Rattle.map_axioms.proofs.Counting.{four_more}
use Rattle.map_axioms.proofs.congruence.with_pair.Goals as goal

pub returns-then-one-other-clause-all : goal.returns-then-one-other-clause-all
returns-then-one-other-clause-all c =
    let other : c.args.one.map ≢ c.args.other.map = c.if-one-other.true in
    let test : nat_eq c.args.one.map c.args.other.map ≡ false = grind (arith, nat_tests, other) in
    conjoined_same c.args.base c.args.nodes.now c.args.out.now.nodes c.args.entries.now c.args.all (λ vs. pair_on vs c.args.one c.args.other) c.requires.state c.requires.all
    (λ vs. pair_other c.args.one c.args.other vs test)

pub add-requires-2 : goal.add-requires-2
add-requires-2 c =
    let s1 = first_step c.args.base c.args.nodes.now c.args.out.now.nodes c.args.entries.now c.args.all c.args.one c.args.other c.requires.state c.requires.all c.requires.one c.requires.other c.if-one-other.false c.add.new.self.nodes c.in_ok-same.same c.in_ok-same.ensures.node in
    second_fits c.args.base c.args.nodes.now c.args.out.now.nodes c.args.entries.now c.args.all c.args.one c.args.other c.requires.state c.requires.all c.requires.one c.requires.other c.if-one-other.false c.add.new.self.nodes c.in_ok-same.same s1

pub add-requires-3 : goal.add-requires-3
add-requires-3 c =
    let s1 = first_step c.args.base c.args.nodes.now c.args.out.now.nodes c.args.entries.now c.args.all c.args.one c.args.other c.requires.state c.requires.all c.requires.one c.requires.other c.if-one-other.false c.add.new.self.nodes c.in_ok-same.same c.in_ok-same.ensures.node in
    let s2 = second_step c.args.base c.args.nodes.now c.args.out.now.nodes c.args.entries.now c.args.all c.args.one c.args.other c.requires.state c.requires.all c.requires.one c.requires.other c.if-one-other.false c.add.new.self.nodes c.in_ok-same.same s1 c.add-2.new.self.nodes c.in_ok-alike.alike c.in_ok-alike.ensures.node in
    third_fits c.args.base c.args.nodes.now c.args.out.now.nodes c.args.entries.now c.args.all c.args.one c.args.other c.requires.state c.requires.all c.requires.one c.requires.other c.if-one-other.false c.add.new.self.nodes c.in_ok-same.same s1 c.add-2.new.self.nodes c.in_ok-alike.alike s2

pub add-requires-4 : goal.add-requires-4
add-requires-4 c =
    let s1 = first_step c.args.base c.args.nodes.now c.args.out.now.nodes c.args.entries.now c.args.all c.args.one c.args.other c.requires.state c.requires.all c.requires.one c.requires.other c.if-one-other.false c.add.new.self.nodes c.in_ok-same.same c.in_ok-same.ensures.node in
    let s2 = second_step c.args.base c.args.nodes.now c.args.out.now.nodes c.args.entries.now c.args.all c.args.one c.args.other c.requires.state c.requires.all c.requires.one c.requires.other c.if-one-other.false c.add.new.self.nodes c.in_ok-same.same s1 c.add-2.new.self.nodes c.in_ok-alike.alike c.in_ok-alike.ensures.node in
    let s3 = third_step c.args.base c.args.nodes.now c.args.out.now.nodes c.args.entries.now c.args.all c.args.one c.args.other c.requires.state c.requires.all c.requires.one c.requires.other c.if-one-other.false c.add.new.self.nodes c.in_ok-same.same s1 c.add-2.new.self.nodes c.in_ok-alike.alike s2 c.add-3.new.self.nodes c.in_ok-implied.implied c.in_ok-implied.ensures.node in
    fourth_fits c.args.base c.args.nodes.now c.args.out.now.nodes c.args.entries.now c.args.all c.args.one c.args.other c.requires.state c.requires.all c.requires.one c.requires.other c.if-one-other.false c.add.new.self.nodes c.in_ok-same.same s1 c.add-2.new.self.nodes c.in_ok-alike.alike s2 c.add-3.new.self.nodes c.in_ok-implied.implied s3

pub returns-clause-all : goal.returns-clause-all
returns-clause-all c =
    let s1 = first_step c.args.base c.args.nodes.now c.args.out.now.nodes c.args.entries.now c.args.all c.args.one c.args.other c.requires.state c.requires.all c.requires.one c.requires.other c.if-one-other.false c.add.new.self.nodes c.in_ok-same.same c.in_ok-same.ensures.node in
    let s2 = second_step c.args.base c.args.nodes.now c.args.out.now.nodes c.args.entries.now c.args.all c.args.one c.args.other c.requires.state c.requires.all c.requires.one c.requires.other c.if-one-other.false c.add.new.self.nodes c.in_ok-same.same s1 c.add-2.new.self.nodes c.in_ok-alike.alike c.in_ok-alike.ensures.node in
    let s3 = third_step c.args.base c.args.nodes.now c.args.out.now.nodes c.args.entries.now c.args.all c.args.one c.args.other c.requires.state c.requires.all c.requires.one c.requires.other c.if-one-other.false c.add.new.self.nodes c.in_ok-same.same s1 c.add-2.new.self.nodes c.in_ok-alike.alike s2 c.add-3.new.self.nodes c.in_ok-implied.implied c.in_ok-implied.ensures.node in
    fourth c.args.base c.args.nodes.now c.args.out.now.nodes c.args.entries.now c.args.all c.args.one c.args.other c.requires.state c.requires.all c.requires.one c.requires.other c.if-one-other.false c.add.new.self.nodes c.in_ok-same.same s1 c.add-2.new.self.nodes c.in_ok-alike.alike s2 c.add-3.new.self.nodes c.in_ok-implied.implied s3
    c.add-4.new.self.nodes c.in_ok-both.both c.in_ok-both.ensures.node

pub returns-clause-nodes : goal.returns-clause-nodes
returns-clause-nodes c =
    let same : c.args.one.map ≡ c.args.other.map = c.if-one-other.false in
    let test : nat_eq c.args.one.map c.args.other.map ≡ true = grind (arith, nat_tests, same) in
    four_more (length c.args.out.now.nodes) (length c.add.new.self.nodes) (length c.add-2.new.self.nodes) (length c.add-3.new.self.nodes) (length c.add-4.new.self.nodes) (nat_eq c.args.one.map c.args.other.map) test
    c.in_ok-same.ensures.count c.in_ok-alike.ensures.count c.in_ok-implied.ensures.count c.in_ok-both.ensures.count
