-- One node more.
use Rattle.std.proofs.Common.{◌≡◌, ◌∙◌, ◌+◌, ◌*◌, ◌++◌, [], ◌∷◌, ℕ, List, length, ap, sym, subst, refl, arith, length-append}
use Rattle.std.specs.Prelude.{slice_get, Some}
use Rattle.std.proofs.lemmas.Option.{slice_get_read}
use Rattle.hy_term.specs.declared.node.TermNode.{TermNode}
use Rattle.bit_blast.specs.Blasted.{reach}
use Rattle.bit_blast.specs.Standing.{CarriesNode, Stands}
use Rattle.bit_blast.proofs.Growing.{grows_then}
use Rattle.bit_blast.proofs.Building.{Given, gates_next, stands_push}
use Rattle.bit_blast.proofs.blasting.all_words.Goals as goal

pub loop-k-preserved : goal.loop-k-preserved
loop-k-preserved c =
    let given : Given c.args.terms.now = record { laws = c.term_laws.ensures; formula = c.nodes-node-items.ensures.kept; plain = c.requires.plain } in
    let item : slice_get c.nodes-node-items.result.now c.loop-k.k ≡ Some c.node-item.result = slice_get_read c.nodes-node-items.result.now _ c.loop-k.k c.node-item.result refl c.loop-k-test.true c.node-item.is in
    let at : slice_get c.args.terms.now.nodes c.loop-k.k ≡ Some c.node-item.result = ap (λ (ns : List TermNode). slice_get ns c.loop-k.k) (sym c.nodes-node-items.ensures.value) ∙ item in
    let gates = gates_next c.args.terms.now.nodes c.loop-k.k c.node-item.result at in
    let pushed : c.push.new.self ≡ c.loop-k.words ++ c.in_ok-word.word.items ∷ [] = c.in_ok-push.ensures.ok ∙ ap (λ (w : List ℕ). c.loop-k.words ++ w ∷ []) c.from_vec.ensures in
    let new : CarriesNode c.args.terms.now.nodes c.node_word.new.net (length c.loop-k.words) c.in_ok-word.word.items =
    subst (λ (k : ℕ). CarriesNode c.args.terms.now.nodes c.node_word.new.net k c.in_ok-word.word.items) (sym c.loop-k.invariant.count) c.in_ok-word.ensures.carries in
    record {
      count = ap length pushed ∙ length-append c.loop-k.words (c.in_ok-word.word.items ∷ []) ∙ ap (λ (n : ℕ). n + 1) c.loop-k.invariant.count;
      stands = subst (λ (ws : List (List ℕ)). Stands c.args.terms.now.nodes c.node_word.new.net ws) (sym pushed)
          (stands_push c.args.terms.now c.loop-k.net c.node_word.new.net _ c.loop-k.words c.in_ok-word.word.items given c.node_word.ensures.grows c.loop-k.invariant.stands new);
      grows = (
        c.loop-k.invariant.grows.0 + 64 * (reach c.args.terms.now.nodes c.loop-k.k c.node-item.result * reach c.args.terms.now.nodes c.loop-k.k c.node-item.result),
        grows_then c.loop-k.invariant.grows.1 c.node_word.ensures.grows (omega arith),
        omega (arith, c.loop-k.invariant.grows.2, gates),
      );
    }
