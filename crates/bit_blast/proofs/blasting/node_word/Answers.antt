-- Each kind of node by its own lemma.
use Rattle.std.proofs.Common.{◌∙◌, ℕ, List, length, take, drop, ap, sym, subst, refl, arith}
use Rattle.std.specs.Prelude.{IsTrue, Some}
use Rattle.hy_val.specs.Sorts.{scalar_of}
use Rattle.hy_val.specs.declared.sort.Sort.{Sort}
use Rattle.hy_val.specs.declared.sort.ScalarKind.TheVariants.{Bool as BoolSort}
use Rattle.hy_term.specs.Variables.{count_below}
use Rattle.hy_term.specs.declared.node.TermVariable.{TermVariable}
use Rattle.hy_term.specs.declared.node.TermNode.TheVariants.{Lit, ZeroMap, Variable, Unary, Binary, If, Select, Store}
use Rattle.bit_blast.specs.Blasted.{scalar_width, sort_width, input_count}
use Rattle.bit_blast.specs.Operations.{is_within, widths_fit}
use Rattle.bit_blast.proofs.Operating.{unary_fits, binary_fits}
use Rattle.bit_blast.proofs.Carrying.{Sorted, all_sorted, child, unary_carries, binary_carries, if_carries, lit_carries, variable_carries}
use Rattle.bit_blast.proofs.Nodes.{not_plain, here, unary_ready, binary_ready, if_ready, if_scalar, lit_sort, variable_sort, unary_bound, binary_bound, if_bound}
use Rattle.bit_blast.proofs.blasting.node_word.Goals as goal

pub word_of-requires : goal.word_of-requires
word_of-requires c =
    let s : Sorted c.args.terms.now.nodes = all_sorted c.args.terms.now c.nodes-nodes.ensures.kept in
    let r = unary_ready c.term_laws.ensures c.args.terms.now s c.args.k c.args.node.now c.in-Unary.op c.in-Unary.child c.sort_of-own.result c.requires.node c.in-Unary.is c.sort_of-own.ensures in
    omega (arith, r.below, c.requires.count)

pub unary-requires-clause-some : goal.unary-requires-clause-some
unary-requires-clause-some c =
    let s : Sorted c.args.terms.now.nodes = all_sorted c.args.terms.now c.nodes-nodes.ensures.kept in
    let r = unary_ready c.term_laws.ensures c.args.terms.now s c.args.k c.args.node.now c.in-Unary.op c.in-Unary.child c.sort_of-own.result c.requires.node c.in-Unary.is c.sort_of-own.ensures in
    let d = child c.args.terms.now c.args.net.now c.args.words.now s c.args.k c.in-Unary.child r.t c.word_of.result.now c.requires.stands r.operand c.word_of.ensures in
    d.carries.some

pub unary-requires-clause-within : goal.unary-requires-clause-within
unary-requires-clause-within c =
    let s : Sorted c.args.terms.now.nodes = all_sorted c.args.terms.now c.nodes-nodes.ensures.kept in
    let r = unary_ready c.term_laws.ensures c.args.terms.now s c.args.k c.args.node.now c.in-Unary.op c.in-Unary.child c.sort_of-own.result c.requires.node c.in-Unary.is c.sort_of-own.ensures in
    let d = child c.args.terms.now c.args.net.now c.args.words.now s c.args.k c.in-Unary.child r.t c.word_of.result.now c.requires.stands r.operand c.word_of.ensures in
    subst (λ (w : ℕ). IsTrue (is_within c.in-Unary.op w)) (sym d.width) (unary_fits c.in-Unary.op r.t r.u r.result).0

pub unary-requires-clause-a : goal.unary-requires-clause-a
unary-requires-clause-a c =
    let s : Sorted c.args.terms.now.nodes = all_sorted c.args.terms.now c.nodes-nodes.ensures.kept in
    let r = unary_ready c.term_laws.ensures c.args.terms.now s c.args.k c.args.node.now c.in-Unary.op c.in-Unary.child c.sort_of-own.result c.requires.node c.in-Unary.is c.sort_of-own.ensures in
    let d = child c.args.terms.now c.args.net.now c.args.words.now s c.args.k c.in-Unary.child r.t c.word_of.result.now c.requires.stands r.operand c.word_of.ensures in
    d.carries.wires.there

pub returns-in_ok-word-in-Unary-clause-grows : goal.returns-in_ok-word-in-Unary-clause-grows
returns-in_ok-word-in-Unary-clause-grows c =
    let s : Sorted c.args.terms.now.nodes = all_sorted c.args.terms.now c.nodes-nodes.ensures.kept in
    let r = unary_ready c.term_laws.ensures c.args.terms.now s c.args.k c.args.node.now c.in-Unary.op c.in-Unary.child c.sort_of-own.result c.requires.node c.in-Unary.is c.sort_of-own.ensures in
    let d = child c.args.terms.now c.args.net.now c.args.words.now s c.args.k c.in-Unary.child r.t c.word_of.result.now c.requires.stands r.operand c.word_of.ensures in
    unary_bound c.args.terms.now.nodes c.args.net.now c.unary.new.net c.args.k c.args.node.now c.in-Unary.op c.in-Unary.child c.word_of.result.now c.in-Unary.is d.carries c.unary.ensures.grows

pub returns-in_err-word-in-Unary-clause-grows : goal.returns-in_err-word-in-Unary-clause-grows
returns-in_err-word-in-Unary-clause-grows c =
    let s : Sorted c.args.terms.now.nodes = all_sorted c.args.terms.now c.nodes-nodes.ensures.kept in
    let r = unary_ready c.term_laws.ensures c.args.terms.now s c.args.k c.args.node.now c.in-Unary.op c.in-Unary.child c.sort_of-own.result c.requires.node c.in-Unary.is c.sort_of-own.ensures in
    let d = child c.args.terms.now c.args.net.now c.args.words.now s c.args.k c.in-Unary.child r.t c.word_of.result.now c.requires.stands r.operand c.word_of.ensures in
    unary_bound c.args.terms.now.nodes c.args.net.now c.unary.new.net c.args.k c.args.node.now c.in-Unary.op c.in-Unary.child c.word_of.result.now c.in-Unary.is d.carries c.unary.ensures.grows

pub returns-in_ok-word-in-Unary-clause-carries : goal.returns-in_ok-word-in-Unary-clause-carries
returns-in_ok-word-in-Unary-clause-carries c =
    let s : Sorted c.args.terms.now.nodes = all_sorted c.args.terms.now c.nodes-nodes.ensures.kept in
    let r = unary_ready c.term_laws.ensures c.args.terms.now s c.args.k c.args.node.now c.in-Unary.op c.in-Unary.child c.sort_of-own.result c.requires.node c.in-Unary.is c.sort_of-own.ensures in
    let d = child c.args.terms.now c.args.net.now c.args.words.now s c.args.k c.in-Unary.child r.t c.word_of.result.now c.requires.stands r.operand c.word_of.ensures in
    unary_carries c.args.terms.now c.args.net.now c.unary.new.net _ c.args.k c.in-Unary.child c.in-Unary.op r.t r.u c.word_of.result.now c.in_ok-word-in-Unary.word.items
    (here c.term_laws.ensures c.args.terms.now c.unary.new.net c.args.k c.args.node.now (Unary c.in-Unary.op c.in-Unary.child) c.sort_of-own.result r.u c.nodes-nodes.ensures.kept c.requires.plain c.requires.node c.in-Unary.is c.sort_of-own.ensures c.keeps_widths.ensures r.whole (c.unary.ensures.grows.inputs ∙ c.requires.stands.inputs))
    d r.result c.unary.ensures.grows c.in_ok-word-in-Unary.ensures.word c.in_ok-word-in-Unary.ensures.value

pub word_of-requires-in-Binary : goal.word_of-requires-in-Binary
word_of-requires-in-Binary c =
    let s : Sorted c.args.terms.now.nodes = all_sorted c.args.terms.now c.nodes-nodes.ensures.kept in
    let r = binary_ready c.term_laws.ensures c.args.terms.now s c.args.k c.args.node.now c.in-Binary.op c.in-Binary.left c.in-Binary.right c.sort_of-own.result c.requires.node c.in-Binary.is c.sort_of-own.ensures in
    omega (arith, r.left_below, c.requires.count)

pub word_of-requires-in-Binary-2 : goal.word_of-requires-in-Binary-2
word_of-requires-in-Binary-2 c =
    let s : Sorted c.args.terms.now.nodes = all_sorted c.args.terms.now c.nodes-nodes.ensures.kept in
    let r = binary_ready c.term_laws.ensures c.args.terms.now s c.args.k c.args.node.now c.in-Binary.op c.in-Binary.left c.in-Binary.right c.sort_of-own.result c.requires.node c.in-Binary.is c.sort_of-own.ensures in
    omega (arith, r.right_below, c.requires.count)

pub binary-requires-clause-some : goal.binary-requires-clause-some
binary-requires-clause-some c =
    let s : Sorted c.args.terms.now.nodes = all_sorted c.args.terms.now c.nodes-nodes.ensures.kept in
    let r = binary_ready c.term_laws.ensures c.args.terms.now s c.args.k c.args.node.now c.in-Binary.op c.in-Binary.left c.in-Binary.right c.sort_of-own.result c.requires.node c.in-Binary.is c.sort_of-own.ensures in
    let d = child c.args.terms.now c.args.net.now c.args.words.now s c.args.k c.in-Binary.left r.t c.word_of-in-Binary.result.now c.requires.stands r.left c.word_of-in-Binary.ensures in
    d.carries.some

pub binary-requires-clause-narrow : goal.binary-requires-clause-narrow
binary-requires-clause-narrow c =
    let s : Sorted c.args.terms.now.nodes = all_sorted c.args.terms.now c.nodes-nodes.ensures.kept in
    let r = binary_ready c.term_laws.ensures c.args.terms.now s c.args.k c.args.node.now c.in-Binary.op c.in-Binary.left c.in-Binary.right c.sort_of-own.result c.requires.node c.in-Binary.is c.sort_of-own.ensures in
    let d = child c.args.terms.now c.args.net.now c.args.words.now s c.args.k c.in-Binary.left r.t c.word_of-in-Binary.result.now c.requires.stands r.left c.word_of-in-Binary.ensures in
    d.carries.narrow

pub binary-requires-clause-fit : goal.binary-requires-clause-fit
binary-requires-clause-fit c =
    let s : Sorted c.args.terms.now.nodes = all_sorted c.args.terms.now c.nodes-nodes.ensures.kept in
    let r = binary_ready c.term_laws.ensures c.args.terms.now s c.args.k c.args.node.now c.in-Binary.op c.in-Binary.left c.in-Binary.right c.sort_of-own.result c.requires.node c.in-Binary.is c.sort_of-own.ensures in
    let d = child c.args.terms.now c.args.net.now c.args.words.now s c.args.k c.in-Binary.left r.t c.word_of-in-Binary.result.now c.requires.stands r.left c.word_of-in-Binary.ensures in
    let e = child c.args.terms.now c.args.net.now c.args.words.now s c.args.k c.in-Binary.right r.t' c.word_of-in-Binary-2.result.now c.requires.stands r.right c.word_of-in-Binary-2.ensures in
    let fit : IsTrue (widths_fit c.in-Binary.op (length c.word_of-in-Binary.result.now) (length c.word_of-in-Binary-2.result.now)) =
    subst (λ (v : ℕ). IsTrue (widths_fit c.in-Binary.op v (length c.word_of-in-Binary-2.result.now))) (sym d.width)
    (subst (λ (w : ℕ). IsTrue (widths_fit c.in-Binary.op (scalar_width r.t) w)) (sym e.width) (binary_fits c.in-Binary.op r.t r.t' r.u r.result).0) in
    fit

pub binary-requires-clause-a : goal.binary-requires-clause-a
binary-requires-clause-a c =
    let s : Sorted c.args.terms.now.nodes = all_sorted c.args.terms.now c.nodes-nodes.ensures.kept in
    let r = binary_ready c.term_laws.ensures c.args.terms.now s c.args.k c.args.node.now c.in-Binary.op c.in-Binary.left c.in-Binary.right c.sort_of-own.result c.requires.node c.in-Binary.is c.sort_of-own.ensures in
    let d = child c.args.terms.now c.args.net.now c.args.words.now s c.args.k c.in-Binary.left r.t c.word_of-in-Binary.result.now c.requires.stands r.left c.word_of-in-Binary.ensures in
    d.carries.wires.there

pub binary-requires-clause-b : goal.binary-requires-clause-b
binary-requires-clause-b c =
    let s : Sorted c.args.terms.now.nodes = all_sorted c.args.terms.now c.nodes-nodes.ensures.kept in
    let r = binary_ready c.term_laws.ensures c.args.terms.now s c.args.k c.args.node.now c.in-Binary.op c.in-Binary.left c.in-Binary.right c.sort_of-own.result c.requires.node c.in-Binary.is c.sort_of-own.ensures in
    let d = child c.args.terms.now c.args.net.now c.args.words.now s c.args.k c.in-Binary.left r.t c.word_of-in-Binary.result.now c.requires.stands r.left c.word_of-in-Binary.ensures in
    let e = child c.args.terms.now c.args.net.now c.args.words.now s c.args.k c.in-Binary.right r.t' c.word_of-in-Binary-2.result.now c.requires.stands r.right c.word_of-in-Binary-2.ensures in
    e.carries.wires.there

pub returns-in_ok-word-in-Binary-clause-grows : goal.returns-in_ok-word-in-Binary-clause-grows
returns-in_ok-word-in-Binary-clause-grows c =
    let s : Sorted c.args.terms.now.nodes = all_sorted c.args.terms.now c.nodes-nodes.ensures.kept in
    let r = binary_ready c.term_laws.ensures c.args.terms.now s c.args.k c.args.node.now c.in-Binary.op c.in-Binary.left c.in-Binary.right c.sort_of-own.result c.requires.node c.in-Binary.is c.sort_of-own.ensures in
    let d = child c.args.terms.now c.args.net.now c.args.words.now s c.args.k c.in-Binary.left r.t c.word_of-in-Binary.result.now c.requires.stands r.left c.word_of-in-Binary.ensures in
    let e = child c.args.terms.now c.args.net.now c.args.words.now s c.args.k c.in-Binary.right r.t' c.word_of-in-Binary-2.result.now c.requires.stands r.right c.word_of-in-Binary-2.ensures in
    let fit : IsTrue (widths_fit c.in-Binary.op (length c.word_of-in-Binary.result.now) (length c.word_of-in-Binary-2.result.now)) =
    subst (λ (v : ℕ). IsTrue (widths_fit c.in-Binary.op v (length c.word_of-in-Binary-2.result.now))) (sym d.width)
    (subst (λ (w : ℕ). IsTrue (widths_fit c.in-Binary.op (scalar_width r.t) w)) (sym e.width) (binary_fits c.in-Binary.op r.t r.t' r.u r.result).0) in
    binary_bound c.args.terms.now.nodes c.args.net.now c.binary.new.net c.args.k c.args.node.now c.in-Binary.op c.in-Binary.left c.in-Binary.right c.word_of-in-Binary.result.now c.word_of-in-Binary-2.result.now c.in-Binary.is d.carries fit c.binary.ensures.grows

pub returns-in_err-word-in-Binary-clause-grows : goal.returns-in_err-word-in-Binary-clause-grows
returns-in_err-word-in-Binary-clause-grows c =
    let s : Sorted c.args.terms.now.nodes = all_sorted c.args.terms.now c.nodes-nodes.ensures.kept in
    let r = binary_ready c.term_laws.ensures c.args.terms.now s c.args.k c.args.node.now c.in-Binary.op c.in-Binary.left c.in-Binary.right c.sort_of-own.result c.requires.node c.in-Binary.is c.sort_of-own.ensures in
    let d = child c.args.terms.now c.args.net.now c.args.words.now s c.args.k c.in-Binary.left r.t c.word_of-in-Binary.result.now c.requires.stands r.left c.word_of-in-Binary.ensures in
    let e = child c.args.terms.now c.args.net.now c.args.words.now s c.args.k c.in-Binary.right r.t' c.word_of-in-Binary-2.result.now c.requires.stands r.right c.word_of-in-Binary-2.ensures in
    let fit : IsTrue (widths_fit c.in-Binary.op (length c.word_of-in-Binary.result.now) (length c.word_of-in-Binary-2.result.now)) =
    subst (λ (v : ℕ). IsTrue (widths_fit c.in-Binary.op v (length c.word_of-in-Binary-2.result.now))) (sym d.width)
    (subst (λ (w : ℕ). IsTrue (widths_fit c.in-Binary.op (scalar_width r.t) w)) (sym e.width) (binary_fits c.in-Binary.op r.t r.t' r.u r.result).0) in
    binary_bound c.args.terms.now.nodes c.args.net.now c.binary.new.net c.args.k c.args.node.now c.in-Binary.op c.in-Binary.left c.in-Binary.right c.word_of-in-Binary.result.now c.word_of-in-Binary-2.result.now c.in-Binary.is d.carries fit c.binary.ensures.grows

pub returns-in_ok-word-in-Binary-clause-carries : goal.returns-in_ok-word-in-Binary-clause-carries
returns-in_ok-word-in-Binary-clause-carries c =
    let s : Sorted c.args.terms.now.nodes = all_sorted c.args.terms.now c.nodes-nodes.ensures.kept in
    let r = binary_ready c.term_laws.ensures c.args.terms.now s c.args.k c.args.node.now c.in-Binary.op c.in-Binary.left c.in-Binary.right c.sort_of-own.result c.requires.node c.in-Binary.is c.sort_of-own.ensures in
    let d = child c.args.terms.now c.args.net.now c.args.words.now s c.args.k c.in-Binary.left r.t c.word_of-in-Binary.result.now c.requires.stands r.left c.word_of-in-Binary.ensures in
    let e = child c.args.terms.now c.args.net.now c.args.words.now s c.args.k c.in-Binary.right r.t' c.word_of-in-Binary-2.result.now c.requires.stands r.right c.word_of-in-Binary-2.ensures in
    binary_carries c.args.terms.now c.args.net.now c.binary.new.net _ c.args.k c.in-Binary.left c.in-Binary.right c.in-Binary.op r.t r.t' r.u c.word_of-in-Binary.result.now c.word_of-in-Binary-2.result.now c.in_ok-word-in-Binary.word.items
    (here c.term_laws.ensures c.args.terms.now c.binary.new.net c.args.k c.args.node.now (Binary c.in-Binary.op c.in-Binary.left c.in-Binary.right) c.sort_of-own.result r.u c.nodes-nodes.ensures.kept c.requires.plain c.requires.node c.in-Binary.is c.sort_of-own.ensures c.keeps_widths.ensures r.whole (c.binary.ensures.grows.inputs ∙ c.requires.stands.inputs))
    d e r.result c.binary.ensures.grows c.in_ok-word-in-Binary.ensures.word c.in_ok-word-in-Binary.ensures.value

pub word_of-requires-in-If : goal.word_of-requires-in-If
word_of-requires-in-If c =
    let s : Sorted c.args.terms.now.nodes = all_sorted c.args.terms.now c.nodes-nodes.ensures.kept in
    let r = if_ready c.term_laws.ensures c.args.terms.now s c.args.k c.args.node.now c.in-If.cond c.in-If.yes c.in-If.no c.sort_of-own.result c.requires.node c.in-If.is c.sort_of-own.ensures in
    omega (arith, r.cond_below, c.requires.count)

pub word_of-requires-in-If-2 : goal.word_of-requires-in-If-2
word_of-requires-in-If-2 c =
    let s : Sorted c.args.terms.now.nodes = all_sorted c.args.terms.now c.nodes-nodes.ensures.kept in
    let r = if_ready c.term_laws.ensures c.args.terms.now s c.args.k c.args.node.now c.in-If.cond c.in-If.yes c.in-If.no c.sort_of-own.result c.requires.node c.in-If.is c.sort_of-own.ensures in
    omega (arith, r.one_below, c.requires.count)

pub word_of-requires-in-If-3 : goal.word_of-requires-in-If-3
word_of-requires-in-If-3 c =
    let s : Sorted c.args.terms.now.nodes = all_sorted c.args.terms.now c.nodes-nodes.ensures.kept in
    let r = if_ready c.term_laws.ensures c.args.terms.now s c.args.k c.args.node.now c.in-If.cond c.in-If.yes c.in-If.no c.sort_of-own.result c.requires.node c.in-If.is c.sort_of-own.ensures in
    omega (arith, r.other_below, c.requires.count)

pub choice-requires-clause-cond : goal.choice-requires-clause-cond
choice-requires-clause-cond c =
    let s : Sorted c.args.terms.now.nodes = all_sorted c.args.terms.now c.nodes-nodes.ensures.kept in
    let r = if_ready c.term_laws.ensures c.args.terms.now s c.args.k c.args.node.now c.in-If.cond c.in-If.yes c.in-If.no c.sort_of-own.result c.requires.node c.in-If.is c.sort_of-own.ensures in
    let u = if_scalar c.args.terms.now c.args.net.now c.args.words.now s c.args.k c.in-If.cond c.in-If.yes c.in-If.no c.sort_of-own.result c.word_of-in-If-2.result.now r c.requires.stands c.word_of-in-If-2.ensures in
    let b = child c.args.terms.now c.args.net.now c.args.words.now s c.args.k c.in-If.cond BoolSort c.word_of-in-If.result.now c.requires.stands r.cond c.word_of-in-If.ensures in
    let d = child c.args.terms.now c.args.net.now c.args.words.now s c.args.k c.in-If.yes u.0 c.word_of-in-If-2.result.now c.requires.stands (r.one ∙ ap (λ (x : Sort). Some x) u.1) c.word_of-in-If-2.ensures in
    let e = child c.args.terms.now c.args.net.now c.args.words.now s c.args.k c.in-If.no u.0 c.word_of-in-If-3.result.now c.requires.stands (r.other ∙ ap (λ (x : Sort). Some x) u.1) c.word_of-in-If-3.ensures in
    record { width = b.width; there = b.carries.wires.there }

pub choice-requires-clause-same : goal.choice-requires-clause-same
choice-requires-clause-same c =
    let s : Sorted c.args.terms.now.nodes = all_sorted c.args.terms.now c.nodes-nodes.ensures.kept in
    let r = if_ready c.term_laws.ensures c.args.terms.now s c.args.k c.args.node.now c.in-If.cond c.in-If.yes c.in-If.no c.sort_of-own.result c.requires.node c.in-If.is c.sort_of-own.ensures in
    let u = if_scalar c.args.terms.now c.args.net.now c.args.words.now s c.args.k c.in-If.cond c.in-If.yes c.in-If.no c.sort_of-own.result c.word_of-in-If-2.result.now r c.requires.stands c.word_of-in-If-2.ensures in
    let b = child c.args.terms.now c.args.net.now c.args.words.now s c.args.k c.in-If.cond BoolSort c.word_of-in-If.result.now c.requires.stands r.cond c.word_of-in-If.ensures in
    let d = child c.args.terms.now c.args.net.now c.args.words.now s c.args.k c.in-If.yes u.0 c.word_of-in-If-2.result.now c.requires.stands (r.one ∙ ap (λ (x : Sort). Some x) u.1) c.word_of-in-If-2.ensures in
    let e = child c.args.terms.now c.args.net.now c.args.words.now s c.args.k c.in-If.no u.0 c.word_of-in-If-3.result.now c.requires.stands (r.other ∙ ap (λ (x : Sort). Some x) u.1) c.word_of-in-If-3.ensures in
    e.width ∙ sym d.width

pub choice-requires-clause-yes : goal.choice-requires-clause-yes
choice-requires-clause-yes c =
    let s : Sorted c.args.terms.now.nodes = all_sorted c.args.terms.now c.nodes-nodes.ensures.kept in
    let r = if_ready c.term_laws.ensures c.args.terms.now s c.args.k c.args.node.now c.in-If.cond c.in-If.yes c.in-If.no c.sort_of-own.result c.requires.node c.in-If.is c.sort_of-own.ensures in
    let u = if_scalar c.args.terms.now c.args.net.now c.args.words.now s c.args.k c.in-If.cond c.in-If.yes c.in-If.no c.sort_of-own.result c.word_of-in-If-2.result.now r c.requires.stands c.word_of-in-If-2.ensures in
    let b = child c.args.terms.now c.args.net.now c.args.words.now s c.args.k c.in-If.cond BoolSort c.word_of-in-If.result.now c.requires.stands r.cond c.word_of-in-If.ensures in
    let d = child c.args.terms.now c.args.net.now c.args.words.now s c.args.k c.in-If.yes u.0 c.word_of-in-If-2.result.now c.requires.stands (r.one ∙ ap (λ (x : Sort). Some x) u.1) c.word_of-in-If-2.ensures in
    let e = child c.args.terms.now c.args.net.now c.args.words.now s c.args.k c.in-If.no u.0 c.word_of-in-If-3.result.now c.requires.stands (r.other ∙ ap (λ (x : Sort). Some x) u.1) c.word_of-in-If-3.ensures in
    d.carries.wires.there

pub choice-requires-clause-no : goal.choice-requires-clause-no
choice-requires-clause-no c =
    let s : Sorted c.args.terms.now.nodes = all_sorted c.args.terms.now c.nodes-nodes.ensures.kept in
    let r = if_ready c.term_laws.ensures c.args.terms.now s c.args.k c.args.node.now c.in-If.cond c.in-If.yes c.in-If.no c.sort_of-own.result c.requires.node c.in-If.is c.sort_of-own.ensures in
    let u = if_scalar c.args.terms.now c.args.net.now c.args.words.now s c.args.k c.in-If.cond c.in-If.yes c.in-If.no c.sort_of-own.result c.word_of-in-If-2.result.now r c.requires.stands c.word_of-in-If-2.ensures in
    let b = child c.args.terms.now c.args.net.now c.args.words.now s c.args.k c.in-If.cond BoolSort c.word_of-in-If.result.now c.requires.stands r.cond c.word_of-in-If.ensures in
    let d = child c.args.terms.now c.args.net.now c.args.words.now s c.args.k c.in-If.yes u.0 c.word_of-in-If-2.result.now c.requires.stands (r.one ∙ ap (λ (x : Sort). Some x) u.1) c.word_of-in-If-2.ensures in
    let e = child c.args.terms.now c.args.net.now c.args.words.now s c.args.k c.in-If.no u.0 c.word_of-in-If-3.result.now c.requires.stands (r.other ∙ ap (λ (x : Sort). Some x) u.1) c.word_of-in-If-3.ensures in
    e.carries.wires.there

pub returns-in_ok-word-in-If-clause-grows : goal.returns-in_ok-word-in-If-clause-grows
returns-in_ok-word-in-If-clause-grows c =
    let s : Sorted c.args.terms.now.nodes = all_sorted c.args.terms.now c.nodes-nodes.ensures.kept in
    let r = if_ready c.term_laws.ensures c.args.terms.now s c.args.k c.args.node.now c.in-If.cond c.in-If.yes c.in-If.no c.sort_of-own.result c.requires.node c.in-If.is c.sort_of-own.ensures in
    let u = if_scalar c.args.terms.now c.args.net.now c.args.words.now s c.args.k c.in-If.cond c.in-If.yes c.in-If.no c.sort_of-own.result c.word_of-in-If-2.result.now r c.requires.stands c.word_of-in-If-2.ensures in
    let b = child c.args.terms.now c.args.net.now c.args.words.now s c.args.k c.in-If.cond BoolSort c.word_of-in-If.result.now c.requires.stands r.cond c.word_of-in-If.ensures in
    let d = child c.args.terms.now c.args.net.now c.args.words.now s c.args.k c.in-If.yes u.0 c.word_of-in-If-2.result.now c.requires.stands (r.one ∙ ap (λ (x : Sort). Some x) u.1) c.word_of-in-If-2.ensures in
    let e = child c.args.terms.now c.args.net.now c.args.words.now s c.args.k c.in-If.no u.0 c.word_of-in-If-3.result.now c.requires.stands (r.other ∙ ap (λ (x : Sort). Some x) u.1) c.word_of-in-If-3.ensures in
    if_bound c.args.terms.now.nodes c.args.net.now c.choice.new.net c.args.k c.args.node.now c.in-If.cond c.in-If.yes c.in-If.no c.word_of-in-If-2.result.now c.in-If.is d.carries c.choice.ensures.grows

pub returns-in_err-word-in-If-clause-grows : goal.returns-in_err-word-in-If-clause-grows
returns-in_err-word-in-If-clause-grows c =
    let s : Sorted c.args.terms.now.nodes = all_sorted c.args.terms.now c.nodes-nodes.ensures.kept in
    let r = if_ready c.term_laws.ensures c.args.terms.now s c.args.k c.args.node.now c.in-If.cond c.in-If.yes c.in-If.no c.sort_of-own.result c.requires.node c.in-If.is c.sort_of-own.ensures in
    let u = if_scalar c.args.terms.now c.args.net.now c.args.words.now s c.args.k c.in-If.cond c.in-If.yes c.in-If.no c.sort_of-own.result c.word_of-in-If-2.result.now r c.requires.stands c.word_of-in-If-2.ensures in
    let b = child c.args.terms.now c.args.net.now c.args.words.now s c.args.k c.in-If.cond BoolSort c.word_of-in-If.result.now c.requires.stands r.cond c.word_of-in-If.ensures in
    let d = child c.args.terms.now c.args.net.now c.args.words.now s c.args.k c.in-If.yes u.0 c.word_of-in-If-2.result.now c.requires.stands (r.one ∙ ap (λ (x : Sort). Some x) u.1) c.word_of-in-If-2.ensures in
    let e = child c.args.terms.now c.args.net.now c.args.words.now s c.args.k c.in-If.no u.0 c.word_of-in-If-3.result.now c.requires.stands (r.other ∙ ap (λ (x : Sort). Some x) u.1) c.word_of-in-If-3.ensures in
    if_bound c.args.terms.now.nodes c.args.net.now c.choice.new.net c.args.k c.args.node.now c.in-If.cond c.in-If.yes c.in-If.no c.word_of-in-If-2.result.now c.in-If.is d.carries c.choice.ensures.grows

pub returns-in_ok-word-in-If-clause-carries : goal.returns-in_ok-word-in-If-clause-carries
returns-in_ok-word-in-If-clause-carries c =
    let s : Sorted c.args.terms.now.nodes = all_sorted c.args.terms.now c.nodes-nodes.ensures.kept in
    let r = if_ready c.term_laws.ensures c.args.terms.now s c.args.k c.args.node.now c.in-If.cond c.in-If.yes c.in-If.no c.sort_of-own.result c.requires.node c.in-If.is c.sort_of-own.ensures in
    let u = if_scalar c.args.terms.now c.args.net.now c.args.words.now s c.args.k c.in-If.cond c.in-If.yes c.in-If.no c.sort_of-own.result c.word_of-in-If-2.result.now r c.requires.stands c.word_of-in-If-2.ensures in
    let b = child c.args.terms.now c.args.net.now c.args.words.now s c.args.k c.in-If.cond BoolSort c.word_of-in-If.result.now c.requires.stands r.cond c.word_of-in-If.ensures in
    let d = child c.args.terms.now c.args.net.now c.args.words.now s c.args.k c.in-If.yes u.0 c.word_of-in-If-2.result.now c.requires.stands (r.one ∙ ap (λ (x : Sort). Some x) u.1) c.word_of-in-If-2.ensures in
    let e = child c.args.terms.now c.args.net.now c.args.words.now s c.args.k c.in-If.no u.0 c.word_of-in-If-3.result.now c.requires.stands (r.other ∙ ap (λ (x : Sort). Some x) u.1) c.word_of-in-If-3.ensures in
    if_carries c.args.terms.now c.args.net.now c.choice.new.net _ c.args.k c.in-If.cond c.in-If.yes c.in-If.no u.0 c.word_of-in-If.result.now c.word_of-in-If-2.result.now c.word_of-in-If-3.result.now c.in_ok-word-in-If.word.items
    (here c.term_laws.ensures c.args.terms.now c.choice.new.net c.args.k c.args.node.now (If c.in-If.cond c.in-If.yes c.in-If.no) c.sort_of-own.result u.0 c.nodes-nodes.ensures.kept c.requires.plain c.requires.node c.in-If.is c.sort_of-own.ensures c.keeps_widths.ensures u.1 (c.choice.ensures.grows.inputs ∙ c.requires.stands.inputs))
    b d e c.choice.ensures.grows c.in_ok-word-in-If.ensures.word c.in_ok-word-in-If.ensures.value

pub unreachable-requires : goal.unreachable-requires
unreachable-requires c =
    not_plain c.args.terms.now.nodes c.args.k c.args.node.now (ZeroMap c.in-ZeroMap.index c.in-ZeroMap.elem) c.requires.plain c.requires.node c.in-ZeroMap.is refl

pub unreachable-requires-in-Select : goal.unreachable-requires-in-Select
unreachable-requires-in-Select c =
    not_plain c.args.terms.now.nodes c.args.k c.args.node.now (Select c.in-Select.map c.in-Select.index) c.requires.plain c.requires.node c.in-Select.is refl

pub unreachable-requires-in-Store : goal.unreachable-requires-in-Store
unreachable-requires-in-Store c =
    not_plain c.args.terms.now.nodes c.args.k c.args.node.now (Store c.in-Store.map c.in-Store.index c.in-Store.value) c.requires.plain c.requires.node c.in-Store.is refl

pub returns-in_ok-word-in-Lit-clause-carries : goal.returns-in_ok-word-in-Lit-clause-carries
returns-in_ok-word-in-Lit-clause-carries c =
    let s : Sorted c.args.terms.now.nodes = all_sorted c.args.terms.now c.nodes-nodes.ensures.kept in
    let own = lit_sort c.term_laws.ensures c.args.terms.now s c.args.k c.args.node.now c.in-Lit.atom c.sort_of-own.result c.requires.node c.in-Lit.is c.sort_of-own.ensures in
    lit_carries c.args.terms.now c.args.net.now c.args.k c.in-Lit.atom (scalar_of c.in-Lit.atom) c.in_ok-word-in-Lit.word.items
    (here c.term_laws.ensures c.args.terms.now c.args.net.now c.args.k c.args.node.now (Lit c.in-Lit.atom) c.sort_of-own.result (scalar_of c.in-Lit.atom) c.nodes-nodes.ensures.kept c.requires.plain c.requires.node c.in-Lit.is c.sort_of-own.ensures c.keeps_widths.ensures own c.requires.stands.inputs)
    refl c.in_ok-word-in-Lit.ensures.word c.in_ok-word-in-Lit.ensures.bits

pub returns-in_ok-word-in-Variable-clause-carries : goal.returns-in_ok-word-in-Variable-clause-carries
returns-in_ok-word-in-Variable-clause-carries c =
    let s : Sorted c.args.terms.now.nodes = all_sorted c.args.terms.now c.nodes-nodes.ensures.kept in
    let own = variable_sort c.term_laws.ensures c.args.terms.now s c.args.k c.args.node.now c.in-Variable.number c.in-Variable.sort c.sort_of-own.result c.requires.plain c.requires.node c.in-Variable.is c.sort_of-own.ensures in
    variable_carries c.args.terms.now c.args.net.now c.args.k c.in-Variable.number c.in-Variable.sort own.0 c.in_ok-word-in-Variable.word.items
    (here c.term_laws.ensures c.args.terms.now c.args.net.now c.args.k c.args.node.now (Variable c.in-Variable.number c.in-Variable.sort) c.sort_of-own.result own.0 c.nodes-nodes.ensures.kept c.requires.plain c.requires.node c.in-Variable.is c.sort_of-own.ensures c.keeps_widths.ensures own.1 c.requires.stands.inputs)
    own.2 c.in_ok-word-in-Variable.ensures.word
    (λ ins e.
    c.in_ok-word-in-Variable.ensures.bits ins e
    ∙ ap (λ (vs : List TermVariable). take (sort_width c.in-Variable.sort) (drop (input_count (take (count_below c.in-Variable.number vs) vs)) ins)) c.requires.variables)
