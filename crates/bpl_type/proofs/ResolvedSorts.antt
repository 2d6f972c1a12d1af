-- What a sort of the text stands for has widths from 1 to 64.
use Rattle.std.proofs.Common.{◌≡◌, ℕ, zero, suc, Bool, true, false, List, length, Option, Some, None, refl, sym, ◌∙◌, subst, unwrap_or}
use Rattle.std.specs.Option.{option_and_then}
use Rattle.std.specs.Prelude.{if◌then◌else◌}
use Rattle.bpl_ast.specs.declared.decl.Synonym.{Synonym}
use Rattle.bpl_ast.specs.declared.sort.Sort.{Sort, roll-Sort}
use Rattle.bpl_ast.specs.declared.sort.Sort.TheFolds.{ind-Sort, map-Sort}
use Rattle.bpl_ast.specs.declared.sort.Sort.TheOpen.{Sort-F}
use Rattle.bpl_ast.specs.declared.sort.Sort.TheVariants.{rolls-Boolean, rolls-Bits, rolls-Named, rolls-Map}
use Rattle.hy_val.specs.NodeSorts.{as_scalar, is_sort}
use Rattle.hy_val.specs.Sorts.{is_scalar}
use Rattle.hy_val.specs.declared.sort.ScalarKind.TheVariants.{Bool as BoolSort, Bv as BvSort}
use Rattle.hy_val.specs.declared.sort.Sort.{Sort as Resolved}
use Rattle.hy_val.specs.declared.sort.SortKind.TheVariants.{Scalar as ScalarSort, Map as MapSort}
use Rattle.type_pass.specs.Sorts.{type_named, map_sort, resolved_by, named_sort, resolved, sort_of}
use Rattle.bpl_type.proofs.Elements.{some-is, and-true}
use Rattle.type_pass.proofs.SortEquations.{resolved-boolean, resolved-bits, resolved-named, resolved-map}

-- what is there is a sort
abbrev AreSorts : Option Resolved → Type 0
AreSorts o = (r : Resolved) → o ≡ Some r → is_sort r ≡ true

bits-if : (b : Bool) (w : ℕ) (r : Resolved) → is_scalar (BvSort w) ≡ b → (if b then Some (ScalarSort (BvSort w)) else None) ≡ Some r → is_sort r ≡ true
bits-if true w r is h = subst (λ v. is_sort v ≡ true) (some-is (ScalarSort (BvSort w)) r h) is
bits-if false w r is h = absurd (cc)

map-is : (a b : Option Resolved) → AreSorts a → AreSorts b → AreSorts (map_sort (as_scalar a) (as_scalar b))
map-is None b ha hb r h = absurd (cc)
map-is (Some (MapSort i e)) b ha hb r h = absurd (cc)
map-is (Some (ScalarSort i)) None ha hb r h = absurd (cc)
map-is (Some (ScalarSort i)) (Some (MapSort j e)) ha hb r h = absurd (cc)
map-is (Some (ScalarSort i)) (Some (ScalarSort e)) ha hb r h =
    subst (λ v. is_sort v ≡ true) (some-is (MapSort i e) r h) (and-true (is_scalar i) (is_scalar e) (ha (ScalarSort i) refl) (hb (ScalarSort e) refl))

module _ (name_sort : List ℕ → Option Resolved) (names : (text : List ℕ) → AreSorts (name_sort text)) where
  abbrev Stands : Sort → Type 0
  Stands x = AreSorts (resolved_by name_sort x)

  step : {C : Type 0} (v : C → Sort) (kv : (c : C) → Stands (v c)) (y : Sort-F C) → Stands (roll-Sort (map-Sort C Sort v y))
  step v kv (Sort-F.Boolean at) = subst Stands (sym (rolls-Boolean at)) (λ r h. subst (λ w. is_sort w ≡ true) (some-is (ScalarSort BoolSort) r (sym (resolved-boolean name_sort at) ∙ h)) refl)
  step v kv (Sort-F.Bits at width text) = subst Stands (sym (rolls-Bits at width text)) (λ r h. bits-if (is_scalar (BvSort width)) width r refl (sym (resolved-bits name_sort at width text) ∙ h))
  step v kv (Sort-F.Named n) = subst Stands (sym (rolls-Named n)) (λ r h. names n.text r (sym (resolved-named name_sort n) ∙ h))
  step v kv (Sort-F.Map at x y) = subst Stands (sym (rolls-Map at (v x) (v y)))
      (λ r h. map-is (resolved_by name_sort (v x)) (resolved_by name_sort (v y)) (kv x) (kv y) r (sym (resolved-map name_sort at (v x) (v y)) ∙ h))

  by_names : (x : Sort) → Stands x
  by_names = ind-Sort Stands (λ x y same. subst (λ (w : Sort-F Sort). Stands (roll-Sort w)) same (step (λ c. c.0) (λ c. c.1) y))

and-then-none : (f : Synonym → Option Resolved) (o : Option Synonym) → ((s : Synonym) → AreSorts (f s)) → AreSorts (option_and_then f o)
and-then-none f None all r h = absurd (cc)
and-then-none f (Some s) all r h = all s r h

named-is : (n : ℕ) (types : List Synonym) (text : List ℕ) → AreSorts (named_sort n types text)
named-is zero types text r h = absurd (cc)
named-is (suc n) types text r h =
    and-then-none (λ s. resolved_by (named_sort n types) s.sort) (type_named types text) (λ s. by_names (named_sort n types) (named-is n types) s.sort) r h

or-bool : (o : Option Resolved) → AreSorts o → is_sort (unwrap_or o (ScalarSort BoolSort)) ≡ true
or-bool None h = refl
or-bool (Some r) h = h r refl

pub sort-is : (types : List Synonym) (x : Sort) → is_sort (sort_of types x) ≡ true
sort-is types x = or-bool (resolved types x) (by_names (named_sort (length types) types) (named-is (length types) types) x)
