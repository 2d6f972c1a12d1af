-- What is decided of the terms answers the question.
use Rattle.std.proofs.Common.{List, subst, sym}
use Rattle.hy_val.specs.declared.value.Value.{Value}
use Rattle.hy_term.specs.Variables.{numbers, of_list}
use Rattle.decide.specs.Decided.{IsModel}
use Rattle.tree_query.proofs.Answering.{refuted_answers, run_answers, stands}
use Rattle.tree_query.proofs.asking.answer.Goals as goal

pub run_read-requires : goal.run_read-requires
run_read-requires c =
    let x = c.in_ok-question.question in
    let st = stands c.nodes_are_members.ensures c.made_are_questions.ensures c.questions_stand.ensures c.members_are_over.ensures c.sound_parts_are_met.ensures c.parts_are_met.ensures c.args.flat.now c.args.changes.now
    c.args.entry c.args.bound c.args.blocked c.args.tree.now c.args.piece.now c.args.q.now x.terms x.places x.reach c.consts-consts.ensures.kept c.requires.changes c.requires.may c.in_ok-question.ensures in
    let m : IsModel x.terms c.as_slice.result.now = subst (λ (vs : List Value). IsModel x.terms vs) (sym c.as_slice.ensures) c.in-Model.ensures in
    record { count = c.in_ok-question.ensures.made.done.copying.count; model = m; nodes = (st.reads (of_list (numbers x.terms.nodes) c.as_slice.result.now) m.fits m.holds).fit }

pub returns-in-Model : goal.returns-in-Model
returns-in-Model c =
    let x = c.in_ok-question.question in
    let st = stands c.nodes_are_members.ensures c.made_are_questions.ensures c.questions_stand.ensures c.members_are_over.ensures c.sound_parts_are_met.ensures c.parts_are_met.ensures c.args.flat.now c.args.changes.now
    c.args.entry c.args.bound c.args.blocked c.args.tree.now c.args.piece.now c.args.q.now x.terms x.places x.reach c.consts-consts.ensures.kept c.requires.changes c.requires.may c.in_ok-question.ensures in
    let m : IsModel x.terms c.as_slice.result.now = subst (λ (vs : List Value). IsModel x.terms vs) (sym c.as_slice.ensures) c.in-Model.ensures in
    run_answers c.args.changes.now c.args.flat.now c.args.entry c.args.bound c.args.blocked c.args.tree.now c.args.piece.now c.args.q.now x.terms x.places x.reach c.as_slice.result.now c.in_ok-run-in-Model.run' st m c.in_ok-run-in-Model.ensures

pub returns-in-Refuted : goal.returns-in-Refuted
returns-in-Refuted c =
    let x = c.in_ok-question.question in
    let st = stands c.nodes_are_members.ensures c.made_are_questions.ensures c.questions_stand.ensures c.members_are_over.ensures c.sound_parts_are_met.ensures c.parts_are_met.ensures c.args.flat.now c.args.changes.now
    c.args.entry c.args.bound c.args.blocked c.args.tree.now c.args.piece.now c.args.q.now x.terms x.places x.reach c.consts-consts.ensures.kept c.requires.changes c.requires.may c.in_ok-question.ensures in
    refuted_answers c.args.changes.now c.args.flat.now c.args.entry c.args.bound c.args.blocked c.args.tree.now c.args.piece.now c.args.q.now x.terms x.places x.reach c.in-Refuted.refuted st c.in-Refuted.ensures
