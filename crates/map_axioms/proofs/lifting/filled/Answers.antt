use Rattle.std.proofs.Common.{◌≡◌, ◌+◌, ◌∙◌, ap, sym, subst, ℕ, List, drop, arith, refl}
use Rattle.std.specs.Prelude.{Some, slice_get, slice_index, slice_index_or}
use Rattle.std.proofs.lemmas.Option.{slice_get-get_or}
use Rattle.hy_val.specs.Table.{Table}
use Rattle.map_axioms.specs.declared.entry.Entry.{Entry}
use Rattle.map_axioms.specs.Steps.{IsNext, LinksFrom, atom_values, chosen_by, filled}
use Rattle.map_axioms.proofs.Conjoining.{drop_at}
use Rattle.map_axioms.proofs.Linking.{next_one, skip_filled}
use Rattle.map_axioms.proofs.Pairs.{IsFilled}
use Rattle.map_axioms.proofs.WayBack.{fill_index, fill_elem, fill_then, fill_fits}
use Rattle.map_axioms.proofs.lifting.filled.Goals as goal

pub fill-init : goal.fill-init
fill-init c =
    let first : IsNext c.args.entries.now c.args.number 0 c.place_for-next.result =
    subst (λ (k : ℕ). IsNext c.args.entries.now c.args.number 0 k) (sym c.place_for-next.ensures) (c.requires.firsts c.args.number) in
    record {
      value =
          sym (skip_filled (chosen_by c.args.variables.now c.args.atoms.now) (atom_values c.args.known.now) c.args.number c.zero-map.result c.args.entries.now 0 c.place_for-next.result first)
          ∙ ap (λ (m : Table). filled (chosen_by c.args.variables.now c.args.atoms.now) (atom_values c.args.known.now) c.args.number m c.args.entries.now) c.zero-map.ensures;
      fits = subst (λ (m : Table). IsFilled m c.args.index c.args.elem) (sym c.zero-map.ensures) (record { fits = refl; index_is = refl; elem_is = refl });
      same = first.at;
    }

pub store-requires-clause-index : goal.store-requires-clause-index
store-requires-clause-index c =
    let none : Entry = record { map = 0; place = 0; index = 0; number = 0; entry = 0 } in
    let e = slice_index_or c.args.entries.now c.fill.next none in
    let is : slice_get c.args.entries.now c.fill.next ≡ Some e = slice_get-get_or c.args.entries.now c.fill.next none c.fill-test.true in
    fill_index (chosen_by c.args.variables.now c.args.atoms.now) (atom_values c.args.known.now) c.args.number c.args.index c.args.elem c.args.entries.now c.fill.map c.fill.next e c.atom_at-place.result c.requires.sorts c.fill.invariant.fits is (c.fill.invariant.same e is) c.atom_at-place.ensures

pub store-requires-clause-elem : goal.store-requires-clause-elem
store-requires-clause-elem c =
    let none : Entry = record { map = 0; place = 0; index = 0; number = 0; entry = 0 } in
    let e = slice_index_or c.args.entries.now c.fill.next none in
    let is : slice_get c.args.entries.now c.fill.next ≡ Some e = slice_get-get_or c.args.entries.now c.fill.next none c.fill-test.true in
    fill_elem (chosen_by c.args.variables.now c.args.atoms.now) (atom_values c.args.known.now) c.args.number c.args.index c.args.elem c.args.entries.now c.fill.map c.fill.next e c.atom_of-value.result c.requires.sorts c.fill.invariant.fits is (c.fill.invariant.same e is) c.atom_of-value.ensures

pub fill-preserved : goal.fill-preserved
fill-preserved c =
    let none : Entry = record { map = 0; place = 0; index = 0; number = 0; entry = 0 } in
    let e = slice_index_or c.args.entries.now c.fill.next none in
    let is : slice_get c.args.entries.now c.fill.next ≡ Some e = slice_get-get_or c.args.entries.now c.fill.next none c.fill-test.true in
    let map : e.map ≡ c.args.number = c.fill.invariant.same e is in
    let links : LinksFrom c.args.entries.now c.as_slice-later.result.now 0 = subst (λ (ls : List ℕ). LinksFrom c.args.entries.now ls 0) (sym c.as_slice-later.ensures) c.requires.next in
    let next : IsNext c.args.entries.now c.args.number (c.fill.next + 1) (slice_index c.as_slice-later.result.now c.fill.next) = next_one c.args.entries.now c.as_slice-later.result.now c.fill.next c.args.number e links is map in
    record {
      value =
          sym (skip_filled (chosen_by c.args.variables.now c.args.atoms.now) (atom_values c.args.known.now) c.args.number c.store.new.m c.args.entries.now (c.fill.next + 1) (slice_index c.as_slice-later.result.now c.fill.next) next)
          ∙ fill_then (chosen_by c.args.variables.now c.args.atoms.now) (atom_values c.args.known.now) c.args.number c.fill.map c.store.new.m (drop c.fill.next c.args.entries.now) (drop (c.fill.next + 1) c.args.entries.now) e c.atom_at-place.result c.atom_of-value.result
          (drop_at c.args.entries.now c.fill.next e is) map c.atom_at-place.ensures c.atom_of-value.ensures c.in_ok-store.ensures.ok
          ∙ c.fill.invariant.value;
      fits =
          fill_fits (chosen_by c.args.variables.now c.args.atoms.now) (atom_values c.args.known.now) c.args.number c.args.index c.args.elem c.args.entries.now c.fill.map c.store.new.m c.fill.next e c.atom_at-place.result c.atom_of-value.result
          c.requires.sorts c.fill.invariant.fits is map c.atom_at-place.ensures c.atom_of-value.ensures c.in_ok-store.ensures.ok;
      same = next.at;
    }

pub fill-smaller : goal.fill-smaller
fill-smaller c =
    let none : Entry = record { map = 0; place = 0; index = 0; number = 0; entry = 0 } in
    let e = slice_index_or c.args.entries.now c.fill.next none in
    let is : slice_get c.args.entries.now c.fill.next ≡ Some e = slice_get-get_or c.args.entries.now c.fill.next none c.fill-test.true in
    let links : LinksFrom c.args.entries.now c.as_slice-later.result.now 0 = subst (λ (ls : List ℕ). LinksFrom c.args.entries.now ls 0) (sym c.as_slice-later.ensures) c.requires.next in
    let a = (next_one c.args.entries.now c.as_slice-later.result.now c.fill.next c.args.number e links is (c.fill.invariant.same e is)).after in
    omega (arith, a, c.fill-test.true)
