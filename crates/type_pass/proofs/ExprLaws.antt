-- What the answers for operands lead to.
use Rattle.std.proofs.Common.{◌≡◌, ℕ, List, [], ◌∷◌, ◌++◌, map, fold, Result, Ok, Err, refl, sym, ◌∙◌, ap, append_assoc}
use Rattle.bpl_ast.specs.declared.expr.Bracket.{Bracket}
use Rattle.bpl_ast.specs.declared.expr.Bracket.TheOpen.{Bracket-F}
use Rattle.bpl_ast.specs.declared.expr.Bracket.TheFolds.{fold_out-Bracket}
use Rattle.hy_val.specs.declared.sort.Sort.{Sort}
use Rattle.type_pass.specs.declared.fault.TypeFault.{TypeFault}
use Rattle.type_pass.specs.declared.operand.Operand.{Operand}
use Rattle.type_pass.specs.declared.tables.Scope.{Scope}
use Rattle.type_pass.specs.declared.tables.Tables.{Tables}
use Rattle.type_pass.specs.ExprSorts.{Checked, Part, with_sort, with_operand, with_operands, selected, stored, extracted, bracket_node, bracket_part, part_node}

sort-is : {A : Type 0} (c : Checked) (s : Sort) (next : Sort → Result A TypeFault) → c ≡ Ok s → with_sort c next ≡ next s
sort-is c s next h = ap (λ v. with_sort v next) h

sort-err : {A : Type 0} (c : Checked) (f : TypeFault) (next : Sort → Result A TypeFault) → c ≡ Err f → with_sort c next ≡ Err f
sort-err c f next h = ap (λ v. with_sort v next) h

-- a part of this sort and place is this operand
pub operand-is : (p : Part) (at : ℕ) (s : Sort) → p.sort ≡ Ok s → at ≡ p.at → with_operand p (λ o. Ok o) ≡ Ok (record { at = at; sort = s })
operand-is p at s h place = sort-is p.sort s (λ v. Ok (record { at = p.at; sort = v })) h ∙ ap (λ (a : ℕ). Ok (record { at = a; sort = s })) (sym place)

pub operand-err : (p : Part) (f : TypeFault) → p.sort ≡ Err f → with_operand p (λ o. Ok o) ≡ Err f
operand-err p f h = sort-err p.sort f (λ v. Ok (record { at = p.at; sort = v })) h

-- what an operand leads to
then-sort : {A : Type 0} (c : Checked) (at : ℕ) (o : Operand) (next : Operand → Result A TypeFault)
    → with_sort c (λ v. Ok (record { at = at; sort = v })) ≡ Ok o → with_sort c (λ v. next (record { at = at; sort = v })) ≡ next o
then-sort (Ok s) at o next h = ap (λ (r : Result Operand TypeFault). elim r [ Ok v ↦ next v | Err f ↦ Err f ]) h
then-sort (Err f) at o next h = absurd (cc)

pub operand-then : {A : Type 0} (p : Part) (o : Operand) (next : Operand → Result A TypeFault) → with_operand p (λ v. Ok v) ≡ Ok o → with_operand p next ≡ next o
operand-then p o next h = then-sort p.sort p.at o next h

err-sort : {A : Type 0} (c : Checked) (at : ℕ) (f : TypeFault) (next : Operand → Result A TypeFault)
    → with_sort {A = Operand} c (λ v. Ok (record { at = at; sort = v })) ≡ Err f → with_sort c (λ v. next (record { at = at; sort = v })) ≡ Err f
err-sort (Ok s) at f next h = absurd (cc)
err-sort (Err g) at f next h = cc

pub operand-stops : {A : Type 0} (p : Part) (f : TypeFault) (next : Operand → Result A TypeFault) → with_operand p (λ v. Ok v) ≡ Err f → with_operand p next ≡ Err f
operand-stops p f next h = err-sort p.sort p.at f next h

-- ---- several operands

same-next : {A : Type 0} (c : Checked) (next other : Sort → Result A TypeFault) → ((s : Sort) → next s ≡ other s) → with_sort c next ≡ with_sort c other
same-next (Ok s) next other same = same s
same-next (Err f) next other same = refl

pub same-operands : {A : Type 0} (ps : List Part) (next other : List Operand → Result A TypeFault) → ((os : List Operand) → next os ≡ other os) → with_operands ps next ≡ with_operands ps other
same-operands [] next other same = same []
same-operands (p ∷ ps) next other same =
    same-next p.sort (λ s. with_operands ps (λ os. next (record { at = p.at; sort = s } ∷ os))) (λ s. with_operands ps (λ os. other (record { at = p.at; sort = s } ∷ os)))
    (λ s. same-operands ps (λ os. next (record { at = p.at; sort = s } ∷ os)) (λ os. other (record { at = p.at; sort = s } ∷ os)) (λ os. same (record { at = p.at; sort = s } ∷ os)))

-- one operand further
pub operands-further : (p : Part) (ps : List Part) (found : List Operand) (o : Operand) → with_operand p (λ v. Ok v) ≡ Ok o
    → with_operands (p ∷ ps) (λ os. Ok (found ++ os)) ≡ with_operands ps (λ os. Ok ((found ++ o ∷ []) ++ os))
operands-further p ps found o h =
    operand-then p o (λ v. with_operands ps (λ os. Ok (found ++ v ∷ os))) h
    ∙ same-operands ps (λ os. Ok (found ++ o ∷ os)) (λ os. Ok ((found ++ o ∷ []) ++ os)) (λ os. ap (λ (xs : List Operand). Ok xs) (sym (append_assoc found (o ∷ []) os)))

-- what all operands lead to
sorts-then : {A : Type 0} (c : Checked) (first : Sort → Result (List Operand) TypeFault) (next : Sort → Result A TypeFault) (os : List Operand) (a : Result A TypeFault)
    → ((s : Sort) → first s ≡ Ok os → next s ≡ a) → with_sort c first ≡ Ok os → with_sort c next ≡ a
sorts-then (Ok s) first next os a leads h = leads s h
sorts-then (Err f) first next os a leads h = absurd (cc)

sorts-stop : {A : Type 0} (c : Checked) (first : Sort → Result (List Operand) TypeFault) (next : Sort → Result A TypeFault) (f : TypeFault)
    → ((s : Sort) → first s ≡ Err f → next s ≡ Err f) → with_sort c first ≡ Err f → with_sort c next ≡ Err f
sorts-stop (Ok s) first next f leads h = leads s h
sorts-stop (Err g) first next f leads h = cc

-- where the operands so far are handed on
from-operands : {A : Type 0} (ps : List Part) (before os : List Operand) (next : List Operand → Result A TypeFault)
    → with_operands ps (λ v. Ok (before ++ v)) ≡ Ok os → with_operands ps (λ v. next (before ++ v)) ≡ next os
from-operands [] before os next h = ap (λ (r : Result (List Operand) TypeFault). elim r [ Ok v ↦ next v | Err f ↦ Err f ]) h
from-operands (p ∷ ps) before os next h =
    sorts-then p.sort (λ s. with_operands ps (λ v. Ok (before ++ record { at = p.at; sort = s } ∷ v))) (λ s. with_operands ps (λ v. next (before ++ record { at = p.at; sort = s } ∷ v))) os (next os)
    (λ s k. same-operands ps (λ v. next (before ++ record { at = p.at; sort = s } ∷ v)) (λ v. next ((before ++ record { at = p.at; sort = s } ∷ []) ++ v)) (λ v. ap next (sym (append_assoc before (record { at = p.at; sort = s } ∷ []) v)))
    ∙ from-operands ps (before ++ record { at = p.at; sort = s } ∷ []) os next
    (same-operands ps (λ v. Ok ((before ++ record { at = p.at; sort = s } ∷ []) ++ v)) (λ v. Ok (before ++ record { at = p.at; sort = s } ∷ v)) (λ v. ap (λ (xs : List Operand). Ok xs) (append_assoc before (record { at = p.at; sort = s } ∷ []) v)) ∙ k)) h

pub operands-then : {A : Type 0} (ps : List Part) (os : List Operand) (next : List Operand → Result A TypeFault) → with_operands ps (λ v. Ok v) ≡ Ok os → with_operands ps next ≡ next os
operands-then ps os next h = from-operands ps [] os next h

pub operands-stop : {A : Type 0} (ps : List Part) (f : TypeFault) (first : List Operand → Result (List Operand) TypeFault) (next : List Operand → Result A TypeFault)
    → ((os : List Operand) → (first os ≡ Err f) → next os ≡ Err f) → with_operands ps first ≡ Err f → with_operands ps next ≡ Err f
operands-stop [] f first next leads h = leads [] h
operands-stop (p ∷ ps) f first next leads h =
    sorts-stop p.sort (λ s. with_operands ps (λ v. first (record { at = p.at; sort = s } ∷ v))) (λ s. with_operands ps (λ v. next (record { at = p.at; sort = s } ∷ v))) f
    (λ s k. operands-stop ps f (λ v. first (record { at = p.at; sort = s } ∷ v)) (λ v. next (record { at = p.at; sort = s } ∷ v)) (λ v. leads (record { at = p.at; sort = s } ∷ v)) k) h

never : {A : Type 0} (os : List Operand) (f : TypeFault) (a : Result A TypeFault) → Ok os ≡ Err f → a ≡ Err f
never os f a h = absurd (cc)

pub operands-err : {A : Type 0} (ps : List Part) (f : TypeFault) (next : List Operand → Result A TypeFault) → with_operands ps (λ v. Ok v) ≡ Err f → with_operands ps next ≡ Err f
operands-err ps f next h = operands-stop ps f (λ v. Ok v) next (λ os k. never os f (next os) k) h

-- ---- brackets

node-place : (y : Bracket-F (ℕ → Part → Part) Part) (at : ℕ) (p : Part) → (bracket_node y at p).at ≡ at
node-place (Bracket-F.Select index) at p = refl
node-place (Bracket-F.Store index value) at p = refl
node-place (Bracket-F.Extract high low) at p = refl

node-stops : (y : Bracket-F (ℕ → Part → Part) Part) (at : ℕ) (p : Part) (f : TypeFault) → p.sort ≡ Err f → (bracket_node y at p).sort ≡ Err f
node-stops (Bracket-F.Select index) at p f h = sort-err p.sort f (λ v. with_operand index (λ i. selected (record { at = p.at; sort = v }) i)) h
node-stops (Bracket-F.Store index value) at p f h = sort-err p.sort f (λ v. with_operand index (λ i. with_operand value (λ w. stored (record { at = p.at; sort = v }) i w))) h
node-stops (Bracket-F.Extract high low) at p f h = sort-err p.sort f (λ v. extracted at high low (record { at = p.at; sort = v })) h

-- a bracket makes a part that begins where the whole does
pub bracket-place : (t : Tables) (s : Scope) (b : Bracket) (at : ℕ) (p : Part) → (bracket_part t s b at p).at ≡ at
unfolding bracket_part
bracket-place t s b at p = ap (λ f. (f at p).at) (fold_out-Bracket (ℕ → Part → Part) Part bracket_node (part_node t s) b) ∙ node-place _ at p

-- a fault of what stands before it stays
pub bracket-stops : (t : Tables) (s : Scope) (b : Bracket) (at : ℕ) (p : Part) (f : TypeFault) → p.sort ≡ Err f → (bracket_part t s b at p).sort ≡ Err f
unfolding bracket_part
bracket-stops t s b at p f h = ap (λ g. (g at p).sort) (fold_out-Bracket (ℕ → Part → Part) Part bracket_node (part_node t s) b) ∙ node-stops _ at p f h

abbrev pub bracketed : Tables → Scope → ℕ → Part → List Bracket → Part
bracketed t s at p bs = fold (λ q b. b at q) p (map (bracket_part t s) bs)

pub brackets-stop : (t : Tables) (s : Scope) (at : ℕ) (bs : List Bracket) (p : Part) (f : TypeFault) → p.sort ≡ Err f → (bracketed t s at p bs).sort ≡ Err f
brackets-stop t s at [] p f h = h
brackets-stop t s at (b ∷ bs) p f h = brackets-stop t s at bs (bracket_part t s b at p) f (bracket-stops t s b at p f h)
