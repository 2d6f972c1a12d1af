use Rattle.std.proofs.Common.{◌≡◌, ℕ, ◌∙◌, ap}
use Rattle.std.specs.Prelude.{List, ◌++◌, ◌∷◌, []}
use Rattle.hy_val.specs.declared.sort.SortKind.TheVariants.{Scalar as ScalarSort}
use Rattle.passive_form.specs.Local.{replaced}
use Rattle.vc_gen.specs.Items.{bool_sort}
use Rattle.vc_gen.specs.Emit.{ArgsSay, terms_of}
use Rattle.vc_gen.proofs.Growth.{later_then, sort_later}
use Rattle.vc_gen.proofs.Calling.{sorts_front, sorts_back, call_made, call_cond, call_fails, site_named, step_site}
use Rattle.vc_gen.proofs.site.emit_site.Goals as goal

pub fresh_all-requires-clause-own : goal.fresh_all-requires-clause-own
fresh_all-requires-clause-own c = sorts_front c.args.outs.now c.args.after.now c.requires.ready.fit.3

pub fresh_all-requires-2-clause-own : goal.fresh_all-requires-2-clause-own
fresh_all-requires-2-clause-own c = sorts_back c.args.outs.now c.args.after.now c.requires.ready.fit.3

pub negated-requires-clause-child : goal.negated-requires-clause-child
negated-requires-clause-child c =
    let call = (call_made c.translate_all.new.terms.nodes c.fresh_one.new.terms.nodes c.fresh_all.new.terms.nodes c.fresh_all-2.new.terms.nodes c.args.draft.now c.fresh_one.new.draft c.fresh_all.new.draft c.fresh_all-2.new.draft
    c.scalar.result c.args.outs.now c.args.after.now c.in_ok-bit.bit c.in_ok-outs.outs c.in_ok-changed.changed (c.scalar.ensures ∙ ap (λ s. ScalarSort s) c.bool.ensures)
    c.in_ok-bit.ensures.fresh c.in_ok-bit.ensures.version c.in_ok-outs.ensures.fresh c.in_ok-outs.ensures.versions c.in_ok-changed.ensures.fresh c.in_ok-changed.ensures.versions) in
    call.bit_is

pub returns-in_err-holds-clause-later : goal.returns-in_err-holds-clause-later
returns-in_err-holds-clause-later c =
    let call = (call_made c.translate_all.new.terms.nodes c.fresh_one.new.terms.nodes c.fresh_all.new.terms.nodes c.fresh_all-2.new.terms.nodes c.args.draft.now c.fresh_one.new.draft c.fresh_all.new.draft c.fresh_all-2.new.draft
    c.scalar.result c.args.outs.now c.args.after.now c.in_ok-bit.bit c.in_ok-outs.outs c.in_ok-changed.changed (c.scalar.ensures ∙ ap (λ s. ScalarSort s) c.bool.ensures)
    c.in_ok-bit.ensures.fresh c.in_ok-bit.ensures.version c.in_ok-outs.ensures.fresh c.in_ok-outs.ensures.versions c.in_ok-changed.ensures.fresh c.in_ok-changed.ensures.versions) in
    later_then c.args.terms.now.nodes c.translate_all.new.terms.nodes c.negated.new.terms.nodes c.in_ok-args.ensures.later
    (later_then c.translate_all.new.terms.nodes c.fresh_all-2.new.terms.nodes c.negated.new.terms.nodes call.fresh.later c.in_err-holds.ensures.later)

pub pass-requires-clause-cond : goal.pass-requires-clause-cond
pass-requires-clause-cond c =
    let call = (call_made c.translate_all.new.terms.nodes c.fresh_one.new.terms.nodes c.fresh_all.new.terms.nodes c.fresh_all-2.new.terms.nodes c.args.draft.now c.fresh_one.new.draft c.fresh_all.new.draft c.fresh_all-2.new.draft
    c.scalar.result c.args.outs.now c.args.after.now c.in_ok-bit.bit c.in_ok-outs.outs c.in_ok-changed.changed (c.scalar.ensures ∙ ap (λ s. ScalarSort s) c.bool.ensures)
    c.in_ok-bit.ensures.fresh c.in_ok-bit.ensures.version c.in_ok-outs.ensures.fresh c.in_ok-outs.ensures.versions c.in_ok-changed.ensures.fresh c.in_ok-changed.ensures.versions) in
    call_cond c.args.terms.now.nodes c.translate_all.new.terms.nodes c.fresh_all-2.new.terms.nodes c.negated.new.terms.nodes c.args.draft.now c.fresh_all-2.new.draft c.args.outs.now c.args.after.now c.in_ok-bit.bit c.in_ok-outs.outs c.in_ok-changed.changed c.in_ok-args.ensures.later call c.in_ok-holds.ensures.later c.requires.ready.stands.cond

pub pass-requires-clause-fails : goal.pass-requires-clause-fails
pass-requires-clause-fails c =
    let call = (call_made c.translate_all.new.terms.nodes c.fresh_one.new.terms.nodes c.fresh_all.new.terms.nodes c.fresh_all-2.new.terms.nodes c.args.draft.now c.fresh_one.new.draft c.fresh_all.new.draft c.fresh_all-2.new.draft
    c.scalar.result c.args.outs.now c.args.after.now c.in_ok-bit.bit c.in_ok-outs.outs c.in_ok-changed.changed (c.scalar.ensures ∙ ap (λ s. ScalarSort s) c.bool.ensures)
    c.in_ok-bit.ensures.fresh c.in_ok-bit.ensures.version c.in_ok-outs.ensures.fresh c.in_ok-outs.ensures.versions c.in_ok-changed.ensures.fresh c.in_ok-changed.ensures.versions) in
    call_fails c.args.terms.now.nodes c.translate_all.new.terms.nodes c.fresh_all-2.new.terms.nodes c.negated.new.terms.nodes c.args.draft.now c.fresh_all-2.new.draft c.args.outs.now c.args.after.now c.in_ok-bit.bit c.in_ok-outs.outs c.in_ok-changed.changed c.in_ok-args.ensures.later call c.in_ok-holds.ensures.later c.requires.ready.stands.fails

pub pass-requires-clause-broken : goal.pass-requires-clause-broken
pass-requires-clause-broken c =
    let call = (call_made c.translate_all.new.terms.nodes c.fresh_one.new.terms.nodes c.fresh_all.new.terms.nodes c.fresh_all-2.new.terms.nodes c.args.draft.now c.fresh_one.new.draft c.fresh_all.new.draft c.fresh_all-2.new.draft
    c.scalar.result c.args.outs.now c.args.after.now c.in_ok-bit.bit c.in_ok-outs.outs c.in_ok-changed.changed (c.scalar.ensures ∙ ap (λ s. ScalarSort s) c.bool.ensures)
    c.in_ok-bit.ensures.fresh c.in_ok-bit.ensures.version c.in_ok-outs.ensures.fresh c.in_ok-outs.ensures.versions c.in_ok-changed.ensures.fresh c.in_ok-changed.ensures.versions) in
    sort_later c.fresh_all-2.new.terms.nodes c.negated.new.terms.nodes c.in_ok-bit.bit bool_sort c.in_ok-holds.ensures.later call.bit_is

pub returns-in_err-fails-clause-later : goal.returns-in_err-fails-clause-later
returns-in_err-fails-clause-later c =
    let call = (call_made c.translate_all.new.terms.nodes c.fresh_one.new.terms.nodes c.fresh_all.new.terms.nodes c.fresh_all-2.new.terms.nodes c.args.draft.now c.fresh_one.new.draft c.fresh_all.new.draft c.fresh_all-2.new.draft
    c.scalar.result c.args.outs.now c.args.after.now c.in_ok-bit.bit c.in_ok-outs.outs c.in_ok-changed.changed (c.scalar.ensures ∙ ap (λ s. ScalarSort s) c.bool.ensures)
    c.in_ok-bit.ensures.fresh c.in_ok-bit.ensures.version c.in_ok-outs.ensures.fresh c.in_ok-outs.ensures.versions c.in_ok-changed.ensures.fresh c.in_ok-changed.ensures.versions) in
    later_then c.args.terms.now.nodes c.translate_all.new.terms.nodes c.pass.new.terms.nodes c.in_ok-args.ensures.later
    (later_then c.translate_all.new.terms.nodes c.fresh_all-2.new.terms.nodes c.pass.new.terms.nodes call.fresh.later
    (later_then c.fresh_all-2.new.terms.nodes c.negated.new.terms.nodes c.pass.new.terms.nodes c.in_ok-holds.ensures.later c.in_err-fails.ensures.later))

pub returns-in_err-globals_after-clause-later : goal.returns-in_err-globals_after-clause-later
returns-in_err-globals_after-clause-later c =
    let call = (call_made c.translate_all.new.terms.nodes c.fresh_one.new.terms.nodes c.fresh_all.new.terms.nodes c.fresh_all-2.new.terms.nodes c.args.draft.now c.fresh_one.new.draft c.fresh_all.new.draft c.fresh_all-2.new.draft
    c.scalar.result c.args.outs.now c.args.after.now c.in_ok-bit.bit c.in_ok-outs.outs c.in_ok-changed.changed (c.scalar.ensures ∙ ap (λ s. ScalarSort s) c.bool.ensures)
    c.in_ok-bit.ensures.fresh c.in_ok-bit.ensures.version c.in_ok-outs.ensures.fresh c.in_ok-outs.ensures.versions c.in_ok-changed.ensures.fresh c.in_ok-changed.ensures.versions) in
    later_then c.args.terms.now.nodes c.translate_all.new.terms.nodes c.pass.new.terms.nodes c.in_ok-args.ensures.later
    (later_then c.translate_all.new.terms.nodes c.fresh_all-2.new.terms.nodes c.pass.new.terms.nodes call.fresh.later
    (later_then c.fresh_all-2.new.terms.nodes c.negated.new.terms.nodes c.pass.new.terms.nodes c.in_ok-holds.ensures.later c.in_ok-fails.ensures.later))

pub returns-in_err-calls-clause-later : goal.returns-in_err-calls-clause-later
returns-in_err-calls-clause-later c =
    let call = (call_made c.translate_all.new.terms.nodes c.fresh_one.new.terms.nodes c.fresh_all.new.terms.nodes c.fresh_all-2.new.terms.nodes c.args.draft.now c.fresh_one.new.draft c.fresh_all.new.draft c.fresh_all-2.new.draft
    c.scalar.result c.args.outs.now c.args.after.now c.in_ok-bit.bit c.in_ok-outs.outs c.in_ok-changed.changed (c.scalar.ensures ∙ ap (λ s. ScalarSort s) c.bool.ensures)
    c.in_ok-bit.ensures.fresh c.in_ok-bit.ensures.version c.in_ok-outs.ensures.fresh c.in_ok-outs.ensures.versions c.in_ok-changed.ensures.fresh c.in_ok-changed.ensures.versions) in
    later_then c.args.terms.now.nodes c.translate_all.new.terms.nodes c.pass.new.terms.nodes c.in_ok-args.ensures.later
    (later_then c.translate_all.new.terms.nodes c.fresh_all-2.new.terms.nodes c.pass.new.terms.nodes call.fresh.later
    (later_then c.fresh_all-2.new.terms.nodes c.negated.new.terms.nodes c.pass.new.terms.nodes c.in_ok-holds.ensures.later c.in_ok-fails.ensures.later))

pub returns-clause-step : goal.returns-clause-step
returns-clause-step c =
    let call = (call_made c.translate_all.new.terms.nodes c.fresh_one.new.terms.nodes c.fresh_all.new.terms.nodes c.fresh_all-2.new.terms.nodes c.args.draft.now c.fresh_one.new.draft c.fresh_all.new.draft c.fresh_all-2.new.draft
    c.scalar.result c.args.outs.now c.args.after.now c.in_ok-bit.bit c.in_ok-outs.outs c.in_ok-changed.changed (c.scalar.ensures ∙ ap (λ s. ScalarSort s) c.bool.ensures)
    c.in_ok-bit.ensures.fresh c.in_ok-bit.ensures.version c.in_ok-outs.ensures.fresh c.in_ok-outs.ensures.versions c.in_ok-changed.ensures.fresh c.in_ok-changed.ensures.versions) in
    let say : ArgsSay c.args.terms.now.nodes c.args.consts.now c.args.draft.now.versions c.args.args.now c.translate_all.new.terms.nodes c.in_ok-args.args = rw (← c.as_slice.ensures) c.in_ok-args.ensures.say in
    let named : c.in_ok-globals_before.globals_before ≡ terms_of c.args.draft.now.versions c.args.before.now = site_named c.args.consts.now c.args.draft.now.versions c.as_slice-2.result.now c.args.before.now c.in_ok-globals_before.globals_before c.in_ok-globals_before.ensures c.as_slice-2.ensures in
    let all : c.in_ok-globals_after.globals_after ≡ replaced c.args.changes.now c.in_ok-globals_before.globals_before c.in_ok-changed.changed =
    c.in_ok-globals_after.ensures ∙ ap (λ (ts : List ℕ). replaced c.args.changes.now ts c.as_slice-4.result.now) c.as_slice-3.ensures ∙ ap (replaced c.args.changes.now c.in_ok-globals_before.globals_before) c.as_slice-4.ensures in
    step_site c.args.consts.now c.args.block c.args.terms.now.nodes c.args.draft.now c.args.proc c.args.failed c.args.args.now c.args.before.now c.args.outs.now c.args.changes.now c.args.after.now
    c.translate_all.new.terms.nodes c.fresh_all-2.new.terms.nodes c.negated.new.terms.nodes c.pass.new.terms.nodes c.in_ok-args.args c.fresh_all-2.new.draft c.in_ok-bit.bit c.in_ok-outs.outs c.in_ok-changed.changed
    c.in_ok-holds.holds c.in_ok-fails.fails c.pass.new.draft c.push.new.self c.in_ok-calls.calls
    c.requires.ready say call c.in_ok-holds.ensures.later c.in_ok-holds.ensures.plain c.in_ok-holds.ensures.bit c.in_ok-fails.ensures.later c.in_ok-fails.ensures.plain c.in_ok-fails.ensures.passed
    (c.in_ok-push.ensures.ok
    ∙ ap (λ (ts : List ℕ). c.pass.new.draft.sites ++ record { block = c.args.block; call = c.pass.new.draft.calls; proc = c.args.proc; node = c.fresh_all-2.new.draft.cond; first = c.args.draft.now.next; failed = c.in_ok-bit.bit; args = c.in_ok-args.args; globals_before = c.in_ok-globals_before.globals_before; outs = c.in_ok-outs.outs; changed = c.in_ok-changed.changed; globals_after = ts; fails = c.in_ok-fails.fails } ∷ []) all
    ∙ ap (λ (ts : List ℕ). c.pass.new.draft.sites ++ record { block = c.args.block; call = c.pass.new.draft.calls; proc = c.args.proc; node = c.fresh_all-2.new.draft.cond; first = c.args.draft.now.next; failed = c.in_ok-bit.bit; args = c.in_ok-args.args; globals_before = ts; outs = c.in_ok-outs.outs; changed = c.in_ok-changed.changed; globals_after = replaced c.args.changes.now ts c.in_ok-changed.changed; fails = c.in_ok-fails.fails } ∷ []) named)
    c.in_ok-calls.ensures
