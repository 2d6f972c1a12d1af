use Rattle.std.proofs.Common.{◌≡◌, ◌+◌, ◌∙◌, ℕ, suc, ap, sym, subst, length, set, arith}
use Rattle.crossbeam_deque.proofs.Lists.{at_index}
use Rattle.steal_pool.specs.Seats.{owners}
use Rattle.steal_pool.specs.Build.{AreFresh}
use Rattle.steal_pool.proofs.Meetings.{Joining, opens, ready, joins, closes}
use Rattle.steal_pool.proofs.build.introduce.Goals as goal

pub loop-at-init : goal.loop-at-init
loop-at-init c = opens c.args.all.now.items c.args.new c.requires.all.0 c.requires.all.1 c.requires.new

pub meet-requires-clause-ports : goal.meet-requires-clause-ports
meet-requires-clause-ports c = ((ready c.args.all.now.items c.args.new c.requires.all.0 c.requires.all.1 c.requires.new c.loop-at.at c.loop-at.all.items c.loop-at.new c.loop-at.invariant c.index_mut-old.result.now (at_index c.loop-at.all.items c.loop-at.at c.index_mut-old.result.now (omega (arith, c.loop-at-test.true, c.len.ensures, c.loop-at.all.ok.0)) c.index_mut-old.ensures.value)).0, c.loop-at.invariant.port)

pub meet-requires-clause-old : goal.meet-requires-clause-old
meet-requires-clause-old c = let r = ready c.args.all.now.items c.args.new c.requires.all.0 c.requires.all.1 c.requires.new c.loop-at.at c.loop-at.all.items c.loop-at.new c.loop-at.invariant c.index_mut-old.result.now (at_index c.loop-at.all.items c.loop-at.at c.index_mut-old.result.now (omega (arith, c.loop-at-test.true, c.len.ensures, c.loop-at.all.ok.0)) c.index_mut-old.ensures.value) in r.1

pub meet-requires-clause-new : goal.meet-requires-clause-new
meet-requires-clause-new c = let r = ready c.args.all.now.items c.args.new c.requires.all.0 c.requires.all.1 c.requires.new c.loop-at.at c.loop-at.all.items c.loop-at.new c.loop-at.invariant c.index_mut-old.result.now (at_index c.loop-at.all.items c.loop-at.at c.index_mut-old.result.now (omega (arith, c.loop-at-test.true, c.len.ensures, c.loop-at.all.ok.0)) c.index_mut-old.ensures.value) in r.2

pub loop-at-preserved : goal.loop-at-preserved
loop-at-preserved c =
    let one : suc c.loop-at.at ≡ c.loop-at.at + 1 = omega arith in
    subst (λ (n : ℕ). Joining c.args.all.now.items c.args.new n (set c.loop-at.all.items c.loop-at.at c.meet.new.old) c.meet.new.new) one
    (joins c.args.all.now.items c.args.new c.requires.all.0 c.requires.all.1 c.requires.new c.loop-at.at c.loop-at.all.items c.loop-at.new c.loop-at.invariant c.index_mut-old.result.now (at_index c.loop-at.all.items c.loop-at.at c.index_mut-old.result.now (omega (arith, c.loop-at-test.true, c.len.ensures, c.loop-at.all.ok.0)) c.index_mut-old.ensures.value) c.meet.new.old c.meet.new.new c.in_ok-meet.ensures)

pub returns-clause-fresh : goal.returns-clause-fresh
returns-clause-fresh c =
    let whole : c.loop-at.at ≡ length c.args.all.now.items = omega (arith, c.loop-at-test.false, c.len.ensures, c.loop-at.all.ok.0, c.loop-at.invariant.count, c.loop-at.invariant.few) in
    let r = closes c.args.all.now.items c.args.new c.requires.all.0 c.requires.all.1 c.requires.new c.loop-at.all.items c.loop-at.new (subst (λ (n : ℕ). Joining c.args.all.now.items c.args.new n c.loop-at.all.items c.loop-at.new) whole c.loop-at.invariant) in
    subst AreFresh (sym c.in_ok-push.ensures.items) r.0

pub returns-clause-owners : goal.returns-clause-owners
returns-clause-owners c =
    let whole : c.loop-at.at ≡ length c.args.all.now.items = omega (arith, c.loop-at-test.false, c.len.ensures, c.loop-at.all.ok.0, c.loop-at.invariant.count, c.loop-at.invariant.few) in
    let r = closes c.args.all.now.items c.args.new c.requires.all.0 c.requires.all.1 c.requires.new c.loop-at.all.items c.loop-at.new (subst (λ (n : ℕ). Joining c.args.all.now.items c.args.new n c.loop-at.all.items c.loop-at.new) whole c.loop-at.invariant) in
    ap owners c.in_ok-push.ensures.items ∙ r.1
