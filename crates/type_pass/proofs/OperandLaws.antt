-- Operands one after another.
use Rattle.std.proofs.Common.{◌≡◌, ℕ, ◌+◌, ◌<◌, ◌≤◌, Bool, true, false, not, List, [], ◌∷◌, length, map, drop, get_or, Option, Some, None, Result, Ok, Err, refl, sym, ◌∙◌, ap, arith, suc, add-zero, zero-add, ◌⊎◌, inl, inr}
use Rattle.std.proofs.Math.Seq.{drop-cons, drop-length}
use Rattle.std.proofs.lemmas.List.{drop_all}
use Rattle.std.proofs.lemmas.Option.{slice_get_cases}
use Rattle.std.specs.Prelude.{nat_eq, nat_le, slice_get, position, if◌then◌else◌}
use Rattle.std.specs.Option.{option_map, option_and_then, option_or}
use Rattle.std.specs.Str.{bytes_eq}
use Rattle.bpl_ast.specs.declared.expr.Bracket.{Bracket}
use Rattle.bpl_ast.specs.declared.expr.Bracket.TheVariants as brackets
use Rattle.bpl_ast.specs.declared.expr.Expr.{Expr}
use Rattle.bpl_ast.specs.declared.expr.Expr.TheVariants as e
use Rattle.bpl_ast.specs.declared.word.Word.TheVariants.{Uninterpreted}
use Rattle.hy_val.specs.NodeSorts.{same_sort}
use Rattle.hy_val.specs.declared.expr.Var.{Var}
use Rattle.hy_val.specs.declared.sort.ScalarKind.TheVariants.{Bool as BoolSort, Bv as BvSort}
use Rattle.hy_val.specs.declared.sort.Sort.{Sort}
use Rattle.hy_val.specs.declared.sort.SortKind.TheVariants.{Scalar as ScalarSort, Map as MapSort}
use Rattle.type_pass.specs.declared.fault.TypeFault.{TypeFault}
use Rattle.type_pass.specs.declared.fault.TypeKind.TheVariants.{Mismatch, Arity, Width, LeftOut}
use Rattle.type_pass.specs.declared.operand.Operand.{Operand}
use Rattle.type_pass.specs.declared.tables.Scope.{Scope}
use Rattle.type_pass.specs.declared.tables.Signature.{Signature}
use Rattle.type_pass.specs.declared.tables.Tables.{Tables}
use Rattle.type_pass.specs.declared.tables.Named.{Named}
use Rattle.type_pass.specs.ExprSorts.{Checked, Part, refused, with_sort, with_operand, with_operands, with_width, bool_sort, all_bools, chain_of_bools, joined_after, all_fit, applied, is_nothing, selected, stored, extracted, chosen, bracket_part, part}
use Rattle.type_pass.specs.Faults.{fault}
use Rattle.type_pass.specs.Running.{with_answer, unfit, unless_told, argument_sort, applied_from, joined_with, joined_from}
use Rattle.type_pass.specs.Scopes.{seen_as}
use Rattle.type_pass.proofs.ExprLaws.{operand-then, operand-stops, same-operands, bracket-place, brackets-stop, bracketed}
use Rattle.type_pass.proofs.PartEquations.{on-select, on-store, on-extract, part-post, part-choice}

-- ---- names

abbrev pub numbered : List Named → List ℕ → Option (ℕ × Sort)
numbered names text = option_and_then (λ i. option_map (λ n. (i, n.sort)) (slice_get names i)) (position (λ n. bytes_eq text n.name) names)

at-place : (var : ℕ → Var) (i : ℕ) (o : Option Named) → option_map {T = ℕ × Sort} {U = Var × Sort} (λ s. (var s.0, s.1)) (option_map (λ n. (i, n.sort)) o) ≡ option_map (λ n. (var i, n.sort)) o
at-place var i None = refl
at-place var i (Some n) = refl

through : (var : ℕ → Var) (names : List Named) (o : Option ℕ)
    → option_map {T = ℕ × Sort} {U = Var × Sort} (λ s. (var s.0, s.1)) (option_and_then (λ i. option_map (λ n. (i, n.sort)) (slice_get names i)) o) ≡ option_and_then (λ i. option_map (λ n. (var i, n.sort)) (slice_get names i)) o
through var names None = refl
through var names (Some i) = at-place var i (slice_get names i)

-- what is seen is a variable of the number
pub seen-is : (var : ℕ → Var) (names : List Named) (text : List ℕ) (o : Option (ℕ × Sort)) → o ≡ numbered names text → option_map {T = ℕ × Sort} {U = Var × Sort} (λ s. (var s.0, s.1)) o ≡ seen_as var names text
seen-is var names text o h = ap (option_map {T = ℕ × Sort} {U = Var × Sort} (λ s. (var s.0, s.1))) h ∙ through var names (position (λ n. bytes_eq text n.name) names)

-- ---- one operand

sort-answer : {A : Type 0} (c : Checked) (at : ℕ) (next : Operand → Result A TypeFault)
    → with_answer (with_sort c (λ s. Ok (record { at = at; sort = s }))) next ≡ with_sort c (λ s. next (record { at = at; sort = s }))
sort-answer (Ok s) at next = refl
sort-answer (Err f) at next = refl

-- what an operand leads to, from the answer for it
pub answer-then : {A : Type 0} (p : Part) (r : Result Operand TypeFault) (next : Operand → Result A TypeFault) → r ≡ with_operand p (λ o. Ok o) → with_answer r next ≡ with_operand p next
answer-then p r next h = ap (λ v. with_answer v next) h ∙ sort-answer p.sort p.at next

-- ---- operands in order

pub drop-more : {A : Type 0} (xs : List A) (i : ℕ) (x : A) → i < length xs → x ≡ get_or xs i x → drop i xs ≡ x ∷ drop (i + 1) xs
drop-more xs i x within is =
    let next : suc i ≡ i + 1 = omega arith in
    drop-cons xs i x within ∙ ap (λ y. y ∷ drop (suc i) xs) (sym is) ∙ ap (λ j. x ∷ drop j xs) next

parts-rest : (t : Tables) (s : Scope) (xs : List Expr) (i : ℕ) (x : Expr) → i < length xs → x ≡ get_or xs i x → map (part t s) (drop i xs) ≡ part t s x ∷ map (part t s) (drop (i + 1) xs)
parts-rest t s xs i x within is = ap (map (part t s)) (drop-more xs i x within is)

-- one operand further, where what it adds is known
pub turn : {A : Type 0} (t : Tables) (s : Scope) (xs : List Expr) (i : ℕ) (x : Expr) (o : Operand) (before after : List Operand → Result A TypeFault) (all : Result A TypeFault)
    → i < length xs → x ≡ get_or xs i x → Ok o ≡ with_operand (part t s x) (λ v. Ok v)
    → ((os : List Operand) → before (o ∷ os) ≡ after os)
    → with_operands (map (part t s) (drop i xs)) before ≡ all
    → with_operands (map (part t s) (drop (i + 1) xs)) after ≡ all
turn t s xs i x o before after all within is got adds h =
    let rest : List Part = map (part t s) (drop (i + 1) xs) in
    same-operands rest after (λ os. before (o ∷ os)) (λ os. sym (adds os))
    ∙ sym (operand-then (part t s x) o (λ v. with_operands rest (λ os. before (v ∷ os))) (sym got))
    ∙ ap (λ ps. with_operands ps before) (sym (parts-rest t s xs i x within is))
    ∙ h

-- its fault ends them
pub stops : {A : Type 0} (t : Tables) (s : Scope) (xs : List Expr) (i : ℕ) (x : Expr) (f : TypeFault) (before : List Operand → Result A TypeFault) (all : Result A TypeFault)
    → i < length xs → x ≡ get_or xs i x → Err f ≡ with_operand (part t s x) (λ v. Ok v)
    → with_operands (map (part t s) (drop i xs)) before ≡ all
    → Err f ≡ all
stops t s xs i x f before all within is got h =
    let rest : List Part = map (part t s) (drop (i + 1) xs) in
    sym (operand-stops (part t s x) f (λ v. with_operands rest (λ os. before (v ∷ os))) (sym got))
    ∙ ap (λ ps. with_operands ps before) (sym (parts-rest t s xs i x within is))
    ∙ h

-- behind the last one
pub finish : {A : Type 0} (t : Tables) (s : Scope) (xs : List Expr) (i : ℕ) (before : List Operand → Result A TypeFault) (all : Result A TypeFault)
    → i ≡ length xs → with_operands (map (part t s) (drop i xs)) before ≡ all → before [] ≡ all
finish t s xs i before all ends h =
    ap (λ ys. with_operands (map (part t s) ys) before) (sym (drop-length xs)) ∙ ap (λ j. with_operands (map (part t s) (drop j xs)) before) (sym ends) ∙ h

-- ---- chains of bools

abbrev pub bools_from : Option TypeFault → List Operand → Checked
bools_from told os = unless_told told (all_bools os)

told-if : (b : Bool) (f : TypeFault) (rest : Checked) → (if b then rest else Err f) ≡ unless_told (option_or None (if b then None else Some f)) rest
told-if true f rest = refl
told-if false f rest = refl

pub bools-further : (told : Option TypeFault) (o : Operand) (os : List Operand) → bools_from told (o ∷ os) ≡ bools_from (option_or told (unfit o (Some bool_sort))) os
bools-further None o os = told-if (same_sort o.sort bool_sort) (fault o.at Mismatch) (all_bools os)
bools-further (Some f) o os = refl

pub bools-turn : (t : Tables) (s : Scope) (xs : List Expr) (i : ℕ) (x : Expr) (o : Operand) (wanted : Sort) (told next : Option TypeFault) (all : Checked)
    → wanted ≡ bool_sort → next ≡ option_or told (unfit o (Some wanted))
    → i < length xs → x ≡ get_or xs i x → Ok o ≡ with_operand (part t s x) (λ v. Ok v)
    → with_operands (map (part t s) (drop i xs)) (bools_from told) ≡ all
    → with_operands (map (part t s) (drop (i + 1) xs)) (bools_from next) ≡ all
bools-turn t s xs i x o wanted told next all bools same within is got h =
    let now : next ≡ option_or told (unfit o (Some bool_sort)) = same ∙ ap (λ (w : Sort). option_or told (unfit o (Some w))) bools in
    turn t s xs i x o (bools_from told) (bools_from next) all within is got (λ os. bools-further told o os ∙ ap (λ (v : Option TypeFault). bools_from v os) (sym now)) h

-- a chain of some operands
pub chain-some : (t : Tables) (s : Scope) (at : ℕ) (xs : List Expr) → 0 < length xs → with_operands (map (part t s) xs) all_bools ≡ with_operands (map (part t s) xs) (chain_of_bools at)
chain-some t s at [] h = absurd (omega (arith, h))
chain-some t s at (x ∷ xs) h = refl

-- ---- chains of `++`

if-joined : (b : Bool) (at w : ℕ) (f : TypeFault) (os : List Operand) → (if b then joined_after at w os else Err f) ≡ joined_from at (Some (if b then Ok w else Err f)) os
if-joined true at w f os = refl
if-joined false at w f os = refl

width-further : (at width : ℕ) (o : Operand) (s : Sort) (os : List Operand)
    → with_width o s (λ w. if nat_le (width + w) 64 then joined_after at (width + w) os else refused at Width)
    ≡ joined_from at (Some (with_width o s (λ w. if nat_le (width + w) 64 then Ok (width + w) else refused at Width))) os
width-further at width o (ScalarSort BoolSort) os = refl
width-further at width o (ScalarSort (BvSort w)) os = if-joined (nat_le (width + w) 64) at (width + w) (fault at Width) os
width-further at width o (MapSort index elem) os = refl

first-width : (at : ℕ) (o : Operand) (s : Sort) (os : List Operand) → with_width o s (λ w. joined_after at w os) ≡ joined_from at (Some (with_width o s (λ w. Ok w))) os
first-width at o (ScalarSort BoolSort) os = refl
first-width at o (ScalarSort (BvSort w)) os = refl
first-width at o (MapSort index elem) os = refl

joined-further : (at : ℕ) (width : Option (Result ℕ TypeFault)) (o : Operand) (os : List Operand) → joined_from at width (o ∷ os) ≡ joined_from at (Some (joined_with at width o)) os
joined-further at None o os = first-width at o o.sort os
joined-further at (Some (Err f)) o os = refl
joined-further at (Some (Ok width)) o os = width-further at width o o.sort os

pub joined-turn : (t : Tables) (s : Scope) (at : ℕ) (xs : List Expr) (i : ℕ) (x : Expr) (o : Operand) (width : Option (Result ℕ TypeFault)) (next : Result ℕ TypeFault) (all : Checked)
    → next ≡ joined_with at width o
    → i < length xs → x ≡ get_or xs i x → Ok o ≡ with_operand (part t s x) (λ v. Ok v)
    → with_operands (map (part t s) (drop i xs)) (joined_from at width) ≡ all
    → with_operands (map (part t s) (drop (i + 1) xs)) (joined_from at (Some next)) ≡ all
joined-turn t s at xs i x o width next all same within is got h =
    turn t s xs i x o (joined_from at width) (joined_from at (Some next)) all within is got (λ os. joined-further at width o os ∙ ap (λ (w : Result ℕ TypeFault). joined_from at (Some w) os) (sym same)) h

-- ---- uses of functions

fit-none : (ss : List Sort) (output : Sort) → all_fit ss [] output ≡ Ok output
fit-none [] output = refl
fit-none (s ∷ ss) output = refl

fit-further : (told : Option TypeFault) (s : Sort) (ss : List Sort) (o : Operand) (os : List Operand) (output : Sort)
    → unless_told told (all_fit (s ∷ ss) (o ∷ os) output) ≡ unless_told (option_or told (unfit o (Some s))) (all_fit ss os output)
fit-further None s ss o os output = told-if (same_sort o.sort s) (fault o.at Mismatch) (all_fit ss os output)
fit-further (Some f) s ss o os output = refl

abbrev srt : Named → Sort
srt a = a.sort

or-none : (told : Option TypeFault) → option_or told None ≡ told
or-none None = refl
or-none (Some f) = refl

fit-cases : (told : Option TypeFault) (o : Operand) (os : List Operand) (output : Sort) (ns : List Named) (n : ℕ)
    → ((a : Named) × (n < length ns) × (slice_get ns n ≡ Some a) × (get_or ns n a ≡ a)) ⊎ ((length ns ≤ n) × (slice_get ns n ≡ None))
    → unless_told told (all_fit (map srt (drop n ns)) (o ∷ os) output) ≡ unless_told (option_or told (unfit o (option_map srt (slice_get ns n)))) (all_fit (map srt (drop (n + 1) ns)) os output)
fit-cases told o os output ns n (inl w) =
    ap (λ ys. unless_told told (all_fit (map srt ys) (o ∷ os) output)) (drop-more ns n w.0 w.1 (sym w.3))
    ∙ fit-further told w.0.sort (map srt (drop (n + 1) ns)) o os output
    ∙ ap (λ g. unless_told (option_or told (unfit o (option_map srt g))) (all_fit (map srt (drop (n + 1) ns)) os output)) (sym w.2)
fit-cases told o os output ns n (inr w) =
    ap (λ ys. unless_told told (all_fit (map srt ys) (o ∷ os) output)) (drop_all n ns w.0)
    ∙ ap (λ v. unless_told v (Ok output)) (sym (or-none told))
    ∙ ap (λ ys. unless_told (option_or told None) (all_fit (map srt ys) os output)) (sym (drop_all (n + 1) ns (omega (arith, w.0))))
    ∙ ap (λ g. unless_told (option_or told (unfit o (option_map srt g))) (all_fit (map srt (drop (n + 1) ns)) os output)) (sym w.1)

pub applied-further : (at : ℕ) (function : Option Signature) (n : ℕ) (told : Option TypeFault) (o : Operand) (os : List Operand)
    → applied_from at function n told (o ∷ os) ≡ applied_from at function (n + 1) (option_or told (unfit o (argument_sort function n))) os
applied-further at None n told o os = refl
applied-further at (Some f) n told o os =
    let count : n + length (o ∷ os) ≡ n + 1 + length os = omega arith in
    ap (λ k. if not (nat_eq (length f.arguments) k) then refused at Arity else if is_nothing f.meaning then refused at (LeftOut Uninterpreted) else unless_told told (all_fit (map srt (drop n f.arguments)) (o ∷ os) f.output)) count
    ∙ ap (λ r. if not (nat_eq (length f.arguments) (n + 1 + length os)) then refused at Arity else if is_nothing f.meaning then refused at (LeftOut Uninterpreted) else r) (fit-cases told o os f.output f.arguments n (slice_get_cases f.arguments n).1)

pub applied-turn : (t : Tables) (s : Scope) (at : ℕ) (function : Option Signature) (xs : List Expr) (i : ℕ) (x : Expr) (o : Operand) (wanted : Option Sort) (told next : Option TypeFault) (all : Checked)
    → wanted ≡ argument_sort function i → next ≡ option_or told (unfit o wanted)
    → i < length xs → x ≡ get_or xs i x → Ok o ≡ with_operand (part t s x) (λ v. Ok v)
    → with_operands (map (part t s) (drop i xs)) (applied_from at function i told) ≡ all
    → with_operands (map (part t s) (drop (i + 1) xs)) (applied_from at function (i + 1) next) ≡ all
applied-turn t s at function xs i x o wanted told next all place same within is got h =
    let now : next ≡ option_or told (unfit o (argument_sort function i)) = same ∙ ap (λ (w : Option Sort). option_or told (unfit o w)) place in
    turn t s xs i x o (applied_from at function i told) (applied_from at function (i + 1) next) all within is got
    (λ os. applied-further at function i told o os ∙ ap (λ (v : Option TypeFault). applied_from at function (i + 1) v os) (sym now)) h

from-start : (at : ℕ) (function : Option Signature) (os : List Operand) → applied_from at function 0 None os ≡ applied at function os
from-start at None os = refl
from-start at (Some f) os =
    ap (λ k. if not (nat_eq (length f.arguments) k) then refused at Arity else if is_nothing f.meaning then refused at (LeftOut Uninterpreted) else all_fit (map srt f.arguments) os f.output) (zero-add (length os))

pub applied-start : (t : Tables) (s : Scope) (at : ℕ) (function : Option Signature) (xs : List Expr)
    → with_operands (map (part t s) xs) (applied_from at function 0 None) ≡ with_operands (map (part t s) xs) (applied at function)
applied-start t s at function xs = same-operands (map (part t s) xs) (applied_from at function 0 None) (applied at function) (from-start at function)

-- behind the last argument
pub applied-end : (at : ℕ) (f : Signature) (n : ℕ) (told : Option TypeFault)
    → applied_from at (Some f) n told [] ≡ (if not (nat_eq (length f.arguments) n) then refused at Arity else if is_nothing f.meaning then refused at (LeftOut Uninterpreted) else unless_told told (Ok f.output))
applied-end at f n told =
    ap (λ k. if not (nat_eq (length f.arguments) k) then refused at Arity else if is_nothing f.meaning then refused at (LeftOut Uninterpreted) else unless_told told (all_fit (map srt (drop n f.arguments)) [] f.output)) (add-zero n)
    ∙ ap (λ r. if not (nat_eq (length f.arguments) n) then refused at Arity else if is_nothing f.meaning then refused at (LeftOut Uninterpreted) else unless_told told r) (fit-none (map srt (drop n f.arguments)) f.output)

-- ---- brackets

-- what stands before a bracket
abbrev pub operand_part : Operand → Part
operand_part o = record { at = o.at; sort = Ok o.sort }

is-part : (c : Checked) (at : ℕ) (o : Operand) → Ok o ≡ with_sort c (λ s. Ok (record { at = at; sort = s })) → operand_part o ≡ record { at = at; sort = c }
is-part (Ok s) at o h = ap (λ (r : Result Operand TypeFault). elim r [ Ok v ↦ operand_part v | Err f ↦ record { at = at; sort = Err f } ]) h
is-part (Err f) at o h = absurd (cc)

is-fault : (c : Checked) (at : ℕ) (f : TypeFault) → Err f ≡ with_sort {A = Operand} c (λ s. Ok (record { at = at; sort = s })) → c ≡ Err f
is-fault (Ok s) at f h = absurd (cc)
is-fault (Err g) at f h = cc

-- an operand with its brackets
post-is : (t : Tables) (s : Scope) (at : ℕ) (bs : List Bracket) (p : Part) (r : Result Operand TypeFault) → r ≡ with_operand p (λ o. Ok o)
    → with_answer r (λ o. (bracketed t s at (operand_part o) bs).sort) ≡ (bracketed t s at p bs).sort
post-is t s at bs p (Ok o) got = ap (λ q. (bracketed t s at q bs).sort) (is-part p.sort p.at o got)
post-is t s at bs p (Err f) got = sym (brackets-stop t s at bs p f (is-fault p.sort p.at f got))

made-part : (p : Part) (at : ℕ) (sort : Sort) → p.at ≡ at → Ok sort ≡ p.sort → record { at = at; sort = Ok sort } ≡ p
made-part p at sort place h = ap (λ (c : Checked). record { at = at; sort = c }) h ∙ ap (λ (a : ℕ). record { at = a; sort = p.sort }) (sym place)

pub brackets-further : (t : Tables) (s : Scope) (at : ℕ) (bs : List Bracket) (i : ℕ) (b : Bracket) (o : Operand) (sort : Sort) (all : Checked)
    → i < length bs → b ≡ get_or bs i b → Ok sort ≡ (bracket_part t s b at (operand_part o)).sort
    → (bracketed t s at (operand_part o) (drop i bs)).sort ≡ all
    → (bracketed t s at (record { at = at; sort = Ok sort }) (drop (i + 1) bs)).sort ≡ all
brackets-further t s at bs i b o sort all within is got h =
    ap (λ p. (bracketed t s at p (drop (i + 1) bs)).sort) (made-part (bracket_part t s b at (operand_part o)) at sort (bracket-place t s b at (operand_part o)) got)
    ∙ ap (λ ys. (bracketed t s at (operand_part o) ys).sort) (sym (drop-more bs i b within is)) ∙ h

pub brackets-fault : (t : Tables) (s : Scope) (at : ℕ) (bs : List Bracket) (i : ℕ) (b : Bracket) (o : Operand) (f : TypeFault) (all : Checked)
    → i < length bs → b ≡ get_or bs i b → Err f ≡ (bracket_part t s b at (operand_part o)).sort
    → (bracketed t s at (operand_part o) (drop i bs)).sort ≡ all
    → Err f ≡ all
brackets-fault t s at bs i b o f all within is got h =
    sym (brackets-stop t s at (drop (i + 1) bs) (bracket_part t s b at (operand_part o)) f (sym got))
    ∙ ap (λ ys. (bracketed t s at (operand_part o) ys).sort) (sym (drop-more bs i b within is)) ∙ h

pub brackets-end : (t : Tables) (s : Scope) (at : ℕ) (bs : List Bracket) (i : ℕ) (o : Operand) (all : Checked)
    → i ≡ length bs → (bracketed t s at (operand_part o) (drop i bs)).sort ≡ all → Ok o.sort ≡ all
brackets-end t s at bs i o all ends h =
    ap (λ ys. (bracketed t s at (operand_part o) ys).sort) (sym (drop-length bs)) ∙ ap (λ j. (bracketed t s at (operand_part o) (drop j bs)).sort) (sym ends) ∙ h

-- ---- the arms of a bracket

select-is : (t : Tables) (s : Scope) (at : ℕ) (o : Operand) (x : Expr) (r : Result Operand TypeFault) → r ≡ with_operand (part t s x) (λ v. Ok v)
    → with_answer r (selected o) ≡ (bracket_part t s (brackets.Select x) at (operand_part o)).sort
select-is t s at o x r got = answer-then (part t s x) r (selected o) got ∙ sym (ap (λ q. q.sort) (on-select t s x at (operand_part o)))

pub select-arm : (t : Tables) (s : Scope) (at : ℕ) (o : Operand) (b : Bracket) (x : Expr) (r : Result Operand TypeFault) (answer : Checked)
    → b ≡ brackets.Select x → r ≡ with_operand (part t s x) (λ v. Ok v) → answer ≡ with_answer r (selected o)
    → answer ≡ (bracket_part t s b at (operand_part o)).sort
select-arm t s at o b x r answer is got h = h ∙ select-is t s at o x r got ∙ ap (λ c. (bracket_part t s c at (operand_part o)).sort) (sym is)

same-sorts : {A : Type 0} (c : Checked) (next other : Sort → Result A TypeFault) → ((s : Sort) → next s ≡ other s) → with_sort c next ≡ with_sort c other
same-sorts (Ok s) next other same = same s
same-sorts (Err f) next other same = refl

pub two-answers : {A : Type 0} (p q : Part) (r u : Result Operand TypeFault) (next : Operand → Operand → Result A TypeFault) → r ≡ with_operand p (λ v. Ok v) → u ≡ with_operand q (λ v. Ok v)
    → with_answer r (λ a. with_answer u (next a)) ≡ with_operand p (λ a. with_operand q (next a))
two-answers p q r u next got also =
    answer-then p r (λ a. with_answer u (next a)) got
    ∙ same-sorts p.sort (λ s. with_answer u (next (record { at = p.at; sort = s }))) (λ s. with_operand q (next (record { at = p.at; sort = s }))) (λ s. answer-then q u (next (record { at = p.at; sort = s })) also)

pub three-answers : {A : Type 0} (p q l : Part) (r u v : Result Operand TypeFault) (next : Operand → Operand → Operand → Result A TypeFault)
    → r ≡ with_operand p (λ o. Ok o) → u ≡ with_operand q (λ o. Ok o) → v ≡ with_operand l (λ o. Ok o)
    → with_answer r (λ a. with_answer u (λ b. with_answer v (next a b))) ≡ with_operand p (λ a. with_operand q (λ b. with_operand l (next a b)))
three-answers p q l r u v next got also third =
    answer-then p r (λ a. with_answer u (λ b. with_answer v (next a b))) got
    ∙ same-sorts p.sort (λ s. with_answer u (λ b. with_answer v (next (record { at = p.at; sort = s }) b))) (λ s. with_operand q (λ b. with_operand l (next (record { at = p.at; sort = s }) b)))
    (λ s. two-answers q l u v (next (record { at = p.at; sort = s })) also third)

store-is : (t : Tables) (s : Scope) (at : ℕ) (o : Operand) (x y : Expr) (r u : Result Operand TypeFault) → r ≡ with_operand (part t s x) (λ v. Ok v) → u ≡ with_operand (part t s y) (λ v. Ok v)
    → with_answer r (λ i. with_answer u (stored o i)) ≡ (bracket_part t s (brackets.Store x y) at (operand_part o)).sort
store-is t s at o x y r u got also = two-answers (part t s x) (part t s y) r u (stored o) got also ∙ sym (ap (λ q. q.sort) (on-store t s x y at (operand_part o)))

pub store-arm : (t : Tables) (s : Scope) (at : ℕ) (o : Operand) (b : Bracket) (x y : Expr) (r u : Result Operand TypeFault) (answer : Checked)
    → b ≡ brackets.Store x y → r ≡ with_operand (part t s x) (λ v. Ok v) → u ≡ with_operand (part t s y) (λ v. Ok v) → answer ≡ with_answer r (λ i. with_answer u (stored o i))
    → answer ≡ (bracket_part t s b at (operand_part o)).sort
store-arm t s at o b x y r u answer is got also h = h ∙ store-is t s at o x y r u got also ∙ ap (λ c. (bracket_part t s c at (operand_part o)).sort) (sym is)

pub extract-arm : (t : Tables) (s : Scope) (at : ℕ) (o : Operand) (b : Bracket) (high low : ℕ) (answer : Checked)
    → b ≡ brackets.Extract high low → answer ≡ extracted at high low o → answer ≡ (bracket_part t s b at (operand_part o)).sort
extract-arm t s at o b high low answer is h = h ∙ sym (ap (λ q. q.sort) (on-extract t s high low at (operand_part o))) ∙ ap (λ c. (bracket_part t s c at (operand_part o)).sort) (sym is)

-- ---- the arms of an expression

-- an operand behind a box
pub unboxed : (t : Tables) (s : Scope) (x y : Expr) (r : Result Operand TypeFault) → y ≡ x → r ≡ with_operand (part t s y) (λ v. Ok v) → r ≡ with_operand (part t s x) (λ v. Ok v)
unboxed t s x y r is got = got ∙ ap (λ z. with_operand (part t s z) (λ v. Ok v)) is

pub sort-is : (t : Tables) (s : Scope) (x y : Expr) (p : Part) (answer : Checked) → x ≡ y → part t s y ≡ p → answer ≡ p.sort → answer ≡ (part t s x).sort
sort-is t s x y p answer is node h = h ∙ ap (λ q. q.sort) (sym node) ∙ ap (λ z. (part t s z).sort) (sym is)

pub post-arm : (t : Tables) (s : Scope) (x : Expr) (at : ℕ) (inner boxed : Expr) (bs cs : List Bracket) (r : Result Operand TypeFault) (answer : Checked)
    → x ≡ e.Post at inner bs → boxed ≡ inner → cs ≡ bs → r ≡ with_operand (part t s boxed) (λ v. Ok v)
    → answer ≡ with_answer r (λ o. (bracketed t s at (operand_part o) cs).sort) → answer ≡ (part t s x).sort
post-arm t s x at inner boxed bs cs r answer is same slice got h =
    sort-is t s x (e.Post at inner bs) _ answer is (part-post t s at inner bs)
    (h ∙ ap (λ ds. with_answer r (λ o. (bracketed t s at (operand_part o) ds).sort)) slice ∙ post-is t s at bs (part t s inner) r (unboxed t s inner boxed r same got))

pub two-arm : (t : Tables) (s : Scope) (x y left right : Expr) (boxed also : Expr) (r u : Result Operand TypeFault) (next : Operand → Operand → Checked) (p : Part) (answer : Checked)
    → x ≡ y → part t s y ≡ p → with_operand (part t s left) (λ a. with_operand (part t s right) (next a)) ≡ p.sort
    → boxed ≡ left → also ≡ right → r ≡ with_operand (part t s boxed) (λ v. Ok v) → u ≡ with_operand (part t s also) (λ v. Ok v)
    → answer ≡ with_answer r (λ a. with_answer u (next a))
    → answer ≡ (part t s x).sort
two-arm t s x y left right boxed also r u next p answer is node sorts one other got second h =
    sort-is t s x y p answer is node
    (h ∙ two-answers (part t s left) (part t s right) r u next (unboxed t s left boxed r one got) (unboxed t s right also u other second) ∙ sorts)

pub three-arm : (t : Tables) (s : Scope) (x : Expr) (at : ℕ) (condition one other boxed also last : Expr) (r u v : Result Operand TypeFault) (answer : Checked)
    → x ≡ e.Choice at condition one other
    → boxed ≡ condition → also ≡ one → last ≡ other
    → r ≡ with_operand (part t s boxed) (λ o. Ok o) → u ≡ with_operand (part t s also) (λ o. Ok o) → v ≡ with_operand (part t s last) (λ o. Ok o)
    → answer ≡ with_answer r (λ a. with_answer u (λ b. with_answer v (chosen at a b)))
    → answer ≡ (part t s x).sort
three-arm t s x at condition one other boxed also last r u v answer is here there end got second third h =
    sort-is t s x (e.Choice at condition one other) _ answer is (part-choice t s at condition one other)
    (h ∙ three-answers (part t s condition) (part t s one) (part t s other) r u v (chosen at) (unboxed t s condition boxed r here got) (unboxed t s one also u there second) (unboxed t s other last v end third))
