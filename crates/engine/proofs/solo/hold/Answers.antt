use Rattle.std.proofs.Common.{◌≡◌, Some, ◌∙◌}
use Rattle.piece_core.specs.Refusals.{back_refusal, take_refusal}
use Rattle.engine.proofs.Rounds.{same_stays, either_stays}
use Rattle.engine.proofs.Turning.{held_by}
use Rattle.engine.proofs.Holding.{freed, free_same, taken, live_of_free}
use Rattle.engine.proofs.solo.hold.Goals as goal

pub returns-in_err-make_room-clause-stays : goal.returns-in_err-make_room-clause-stays
returns-in_err-make_room-clause-stays c =
    same_stays c.back.new.self c.make_room.new.self c.make_room.ensures.same ∙ either_stays _ _ _ (λ e. back_refusal c.args.book.now.nodes c.args.node ≡ Some e) c.back.result c.args.book.now c.back.new.self c.back.ensures

pub unreachable-requires : goal.unreachable-requires
unreachable-requires c =
    taken c.make_room.new.self c.args.node _ (free_same c.back.new.self c.make_room.new.self c.args.node c.make_room.ensures.same (freed _ _ c.back.result c.args.book.now c.back.new.self c.args.worker.now.number c.args.node c.requires c.back.ensures)) c.in-Err.ensures.0

pub returns-clause-stays : goal.returns-clause-stays
returns-clause-stays c =
    either_stays _ _ _ (λ e. take_refusal c.make_room.new.self.nodes c.args.node ≡ Some e) c.take.result c.make_room.new.self c.take.new.self c.take.ensures
    ∙ same_stays c.back.new.self c.make_room.new.self c.make_room.ensures.same ∙ either_stays _ _ _ (λ e. back_refusal c.args.book.now.nodes c.args.node ≡ Some e) c.back.result c.args.book.now c.back.new.self c.back.ensures

pub returns-clause-held : goal.returns-clause-held
returns-clause-held c =
    held_by c.make_room.new.self c.take.new.self c.args.worker.now.number c.args.node
    (live_of_free c.make_room.new.self c.args.node (free_same c.back.new.self c.make_room.new.self c.args.node c.make_room.ensures.same (freed _ _ c.back.result c.args.book.now c.back.new.self c.args.worker.now.number c.args.node c.requires c.back.ensures)))
    c.in-Ok.ensures.1
