-- The root's wire carries whether the terms hold.
use Rattle.std.proofs.Common.{◌∙◌, ◌<◌, ℕ, List, length, ap, subst, rules}
use Rattle.gate_net.specs.Net.{value}
use Rattle.gate_net.specs.declared.net.NetGate.{NetGate}
use Rattle.hy_term.specs.Variables.{variables}
use Rattle.bit_blast.specs.Blasted.{input_bits}
use Rattle.bit_blast.specs.Standing.{CarriesNode}
use Rattle.bit_blast.proofs.Building.{Given, root_carries}
use Rattle.bit_blast.proofs.FromBits.{can_both}
use Rattle.bit_blast.proofs.blasting.net_of.Goals as goal

pub bounds-word-0 : goal.bounds-word-0
bounds-word-0 c =
    let some : 0 < length c.word_of-word.result.now = (c.in_ok-words.ensures.stands.each c.root.result c.word_of-word.result.now c.word_of-word.ensures).some in
    search rules

pub set_root-requires : goal.set_root-requires
set_root-requires c =
    let carries = c.in_ok-words.ensures.stands.each c.root.result c.word_of-word.result.now c.word_of-word.ensures in
    carries.wires.there 0 0 carries.some

pub returns-clause-net : goal.returns-clause-net
returns-clause-net c =
    let given : Given c.args.terms.now = record { laws = c.term_laws.ensures; formula = c.nodes.ensures.kept; plain = c.requires } in
    let carries : CarriesNode c.args.terms.now.nodes c.all_words.new.net c.args.terms.now.root c.word_of-word.result.now =
    subst (λ (k : ℕ). CarriesNode c.args.terms.now.nodes c.all_words.new.net k c.word_of-word.result.now) c.root.ensures.value
    (c.in_ok-words.ensures.stands.each c.root.result c.word_of-word.result.now c.word_of-word.ensures) in
    record {
      inputs = c.set_root.ensures.inputs ∙ c.in_ok-words.ensures.stands.inputs;
      means = λ a fit.
          ap (λ (gs : List NetGate). value (input_bits (variables c.args.terms.now.nodes) a) gs c.set_root.new.self.root) c.set_root.ensures.gates
          ∙ ap (value (input_bits (variables c.args.terms.now.nodes) a) c.all_words.new.net.gates.items) c.set_root.ensures.root
          ∙ root_carries c.args.terms.now c.all_words.new.net c.word_of-word.result.now 0 given carries a fit;
    }

pub returns-clause-can : goal.returns-clause-can
returns-clause-can c =
    let given : Given c.args.terms.now = record { laws = c.term_laws.ensures; formula = c.nodes.ensures.kept; plain = c.requires } in
    can_both c.args.terms.now c.set_root.new.self given (returns-clause-net c)
