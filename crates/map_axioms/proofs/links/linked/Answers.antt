use Rattle.std.proofs.Common.{◌≡◌, ◌<◌, ◌+◌, ◌-◌, sym, subst, refl, ℕ, List, length, arith}
use Rattle.std.specs.Prelude.{Some, nat_eq, slice_get, slice_index_or}
use Rattle.std.specs.Map.{lookup}
use Rattle.std.specs.Option.{unwrap_or}
use Rattle.std.proofs.lemmas.Option.{slice_get-get_or}
use Rattle.indexmap.specs.IndexMap.{get}
use Rattle.map_axioms.specs.declared.entry.Entry.{Entry}
use Rattle.map_axioms.specs.Steps.{IsNext}
use Rattle.map_axioms.proofs.Linking.{links_last, links_set, next_last, next_moved}
use Rattle.map_axioms.proofs.links.linked.Goals as goal

pub back-init : goal.back-init
back-init c = record {
  within = omega arith;
  links = links_last c.args.entries.now c.in_ok-next.next (length c.args.entries.now) c.in_ok-next.ensures refl;
  firsts = λ m.
      subst (λ (found : List (ℕ × ℕ)). IsNext c.args.entries.now m (length c.args.entries.now) (unwrap_or (lookup (nat_eq m) found) (length c.args.entries.now))) (sym c.new-firsts.ensures.empty)
      (next_last c.args.entries.now m);
}

pub set-requires : goal.set-requires
set-requires c = let n = c.back.invariant.links.count in omega (arith, n, c.back.invariant.within, c.back-test.true)

pub back-preserved : goal.back-preserved
back-preserved c =
    let within : c.back.left - 1 < length c.args.entries.now = omega (arith, c.back.invariant.within, c.back-test.true) in
    let none : Entry = record { map = 0; place = 0; index = 0; number = 0; entry = 0 } in
    let x = slice_index_or c.args.entries.now (c.back.left - 1) none in
    let there : slice_get c.args.entries.now (c.back.left - 1) ≡ Some x =
    slice_get-get_or c.args.entries.now (c.back.left - 1) none within in
    let n : c.back.left - 1 + 1 ≡ c.back.left = omega (arith, c.back-test.true) in
    record {
      within = omega (arith, within);
      links =
          links_set c.args.entries.now c.back.next c.set.new.self (c.back.left - 1) c.back.left c.place_for-later.result x there n c.back.invariant.links
          (subst (λ (k : ℕ). IsNext c.args.entries.now x.map c.back.left k) (sym c.place_for-later.ensures) (c.back.invariant.firsts x.map)) c.set.ensures;
      firsts = next_moved c.args.entries.now (c.back.left - 1) c.back.left x (get nat_eq c.back.firsts) (get nat_eq c.insert.new.self) there n c.back.invariant.firsts c.in_ok-insert.ensures.updates.0;
    }
