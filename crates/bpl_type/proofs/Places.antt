-- The variables that a scope knows, with their sorts.
use Rattle.std.proofs.Common.{◌≡◌, ℕ, Bool, true, false, List, [], Option, Some, None, refl, ◌∙◌, ap, subst}
use Rattle.std.specs.List.{AllByRecursion, slice_get, position}
use Rattle.std.specs.Option.{option_map, option_and_then, option_or}
use Rattle.std.specs.Prelude.{if◌then◌else◌}
use Rattle.std.specs.Str.{bytes_eq}
use Rattle.std.proofs.lemmas.Option.{slice_get-map}
use Rattle.hy_val.specs.NodeSorts.{is_sort}
use Rattle.hy_val.specs.declared.expr.Var.{Var}
use Rattle.hy_val.specs.declared.expr.Var.TheVariants.{Const, Global, Local}
use Rattle.hy_val.specs.declared.sort.Sort.{Sort}
use Rattle.hy_val.specs.Scope.{sort_of_variable, is_sort_of}
use Rattle.hy_val.specs.Scope as src
use Rattle.type_pass.specs.declared.tables.Scope.{Scope}
use Rattle.type_pass.specs.declared.tables.Tables.{Tables}
use Rattle.type_pass.specs.declared.tables.Named.{Named}
use Rattle.type_pass.specs.Scopes.{seen_as, seen_if, find_name}
use Rattle.bpl_type.specs.WellTyped.{sorts_of}
use Rattle.bpl_type.proofs.Elements.{all_at, and-true, found-map}
use Rattle.bpl_type.proofs.Preserved.{AreKnown, same_sort-self}
use Rattle.bpl_type.proofs.TermFits.{knows_in}

abbrev pub globals_if : Bool → Tables → List Sort
globals_if known t = if known then sorts_of t.globals else []

-- the variables of a scope, by number
abbrev pub place : Tables → Scope → src.Scope
place t s = record { consts = sorts_of t.consts; globals = globals_if s.globals t; locals = sorts_of s.locals }

abbrev pub HaveSorts : List Named → Type 0
HaveSorts names = AllByRecursion (λ n. is_sort n.sort ≡ true) names

-- the sorts of all names are sorts
pub record SortsKnown (t : Tables) (s : Scope) : Type 0 where
  pub consts : HaveSorts t.consts
  pub globals : HaveSorts t.globals
  pub locals : HaveSorts s.locals

-- a name's variable is in the place, with its sort
pub record Stands (t : Tables) (s : Scope) (seen : Var × Sort) : Type 0 where
  pub is_sort : is_sort seen.1 ≡ true
  pub there : sort_of_variable (place t s) seen.0 ≡ Some seen.1

or-elim : {A P : Type 0} (a b : Option A) (x : A) → (a ≡ Some x → P) → (b ≡ Some x → P) → option_or a b ≡ Some x → P
or-elim None b x f g h = g h
or-elim (Some y) b x f g h = f h

and-then-is : {A B : Type 0} (f : A → Option B) (o : Option A) (y : B) → option_and_then f o ≡ Some y → (x : A) × (o ≡ Some x) × (f x ≡ Some y)
and-then-is f None y h = absurd (cc)
and-then-is f (Some x) y h = (x, refl, h)

-- what is seen among some names has a number there
seen-at : (var : ℕ → Var) (names : List Named) (text : List ℕ) (seen : Var × Sort) → seen_as var names text ≡ Some seen
    → (i : ℕ) × (n : Named) × (slice_get names i ≡ Some n) × ((var i, n.sort) ≡ seen)
seen-at var names text seen h =
    let p = and-then-is (λ i. option_map (λ n. (var i, n.sort)) (slice_get names i)) (position (λ n. bytes_eq text n.name) names) seen h in
    let q = found-map (λ (n : Named). (var p.0, n.sort)) (slice_get names p.0) seen p.2 in
    (p.0, q.0, q.1, q.2)

-- the sort at a number
pub sort-at : (names : List Named) (i : ℕ) (n : Named) → slice_get names i ≡ Some n → slice_get (sorts_of names) i ≡ Some n.sort
sort-at names i n h = slice_get-map (λ (m : Named). m.sort) names i ∙ ap (option_map (λ (m : Named). m.sort)) h

seen-if-is : (known : Bool) (o : Option (Var × Sort)) (seen : Var × Sort) → seen_if known o ≡ Some seen → (known ≡ true) × (o ≡ Some seen)
seen-if-is true o seen h = (refl, h)
seen-if-is false o seen h = absurd (cc)

pub found-stands : (t : Tables) (s : Scope) → SortsKnown t s → (text : List ℕ) (seen : Var × Sort) → find_name t s text ≡ Some seen → Stands t s seen
found-stands t s known text seen h =
    or-elim (seen_as Local s.locals text) (option_or (seen_as Const t.consts text) (seen_if s.globals (seen_as Global t.globals text))) seen
    (λ l. let p = seen-at Local s.locals text seen l in
    subst (Stands t s) p.3 (record { is_sort = all_at (λ (n : Named). is_sort n.sort ≡ true) s.locals p.0 p.1 known.locals p.2; there = sort-at s.locals p.0 p.1 p.2 }))
    (λ r. or-elim (seen_as Const t.consts text) (seen_if s.globals (seen_as Global t.globals text)) seen
    (λ c. let p = seen-at Const t.consts text seen c in
    subst (Stands t s) p.3 (record { is_sort = all_at (λ (n : Named). is_sort n.sort ≡ true) t.consts p.0 p.1 known.consts p.2; there = sort-at t.consts p.0 p.1 p.2 }))
    (λ g. let q = seen-if-is s.globals (seen_as Global t.globals text) seen g in
    let p = seen-at Global t.globals text seen q.1 in
    subst (Stands t s) p.3 (record {
      is_sort = all_at (λ (n : Named). is_sort n.sort ≡ true) t.globals p.0 p.1 known.globals p.2;
      there = ap (λ b. slice_get (globals_if b t) p.0) q.0 ∙ sort-at t.globals p.0 p.1 p.2;
    })) r) h

pub is_sort_of-self : (o : Option Sort) (s : Sort) → o ≡ Some s → is_sort_of o s ≡ true
is_sort_of-self o s h = ap (λ v. is_sort_of v s) h ∙ same_sort-self s

pub are-known : (t : Tables) (s : Scope) → SortsKnown t s → AreKnown (knows_in (place t s)) t s
are-known t s known text seen h =
    let p = found-stands t s known text seen h in
    and-true (is_sort seen.1) (is_sort_of (sort_of_variable (place t s) seen.0) seen.1) p.is_sort (is_sort_of-self (sort_of_variable (place t s) seen.0) seen.1 p.there)
