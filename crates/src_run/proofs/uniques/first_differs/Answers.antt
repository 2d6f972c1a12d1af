use Rattle.std.proofs.Common.{◌≡◌, not, subst}
use Rattle.std.specs.List.{list_all, slice_index}
use Rattle.hy_val.specs.Stores.{same_value}
use Rattle.hy_val.specs.Values.{at}
use Rattle.src_run.proofs.Unseen.{first_atom, first_map, rest_is}
use Rattle.src_run.proofs.uniques.first_differs.Goals as goal

pub returns-in_ok-new-in-Some : goal.returns-in_ok-new-in-Some
returns-in_ok-new-in-Some c = first_atom c.args.consts.now c.args.numbers.now c.in-Some.atom c.args.seen.now c.is_new.new.seen c.in_ok-new-in-Some.new c.requires c.in-Some.ensures c.in_ok-new-in-Some.ensures

pub returns-in-None : goal.returns-in-None
returns-in-None c =
    first_map c.args.consts.now c.args.numbers.now c.args.seen.now c.differs_from.result c.requires c.in-None.ensures
    (subst (λ ms. c.differs_from.result ≡ list_all (λ m. not (same_value (at c.args.consts.now (slice_index c.args.numbers.now 0)) (at c.args.consts.now m))) ms) (rest_is 1 c.args.numbers.now) c.differs_from.ensures)
