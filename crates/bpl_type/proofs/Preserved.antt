-- Where an expression has a sort, and the functions that it uses fit, its term over known variables has that sort.
use Rattle.std.proofs.Common.{◌≡◌, ℕ, suc, ◌+◌, ◌-◌, Bool, true, false, not, ◌&&◌, List, [], ◌∷◌, ◌++◌, length, map, fold, Option, Some, None, Result, Ok, Err, refl, sym, ◌∙◌, ap, subst, arith}
use Rattle.std.proofs.lemmas.Bool.Decides.{nat_tests}
use Rattle.std.specs.List.{AllByRecursion}
use Rattle.std.specs.Prelude.{nat_eq, nat_lt, nat_le, if◌then◌else◌}
use Rattle.bpl_ast.specs.declared.expr.Bracket.{Bracket}
use Rattle.bpl_ast.specs.declared.expr.Expr.{Expr}
use Rattle.bpl_ast.specs.declared.expr.Expr.TheVariants as e
use Rattle.bpl_ast.specs.declared.expr.Bracket.TheVariants as brackets
use Rattle.bpl_ast.specs.declared.name.Name.{Name}
use Rattle.bpl_ast.specs.declared.word.Word.TheVariants.{Uninterpreted}
use Rattle.hy_val.specs.NodeSorts.{same_sort, as_sort, as_scalar, unary_sort, binary_sort, if_sort, select_sort, store_sort}
use Rattle.hy_val.specs.Operators.{bits_atom, bits_if}
use Rattle.hy_val.specs.Sorts.{same_scalar, has_scalar}
use Rattle.hy_val.specs.declared.expr.Var.{Var}
use Rattle.hy_val.specs.declared.operator.BvOp.{BvOp}
use Rattle.hy_val.specs.declared.operator.BvOp.TheVariants.{And, Or, Implies, Iff, Eq, Ne, Concat}
use Rattle.hy_val.specs.declared.operator.UnOp.TheVariants.{Not, Extract}
use Rattle.hy_val.specs.declared.sort.Scalar.{Scalar}
use Rattle.hy_val.specs.declared.sort.ScalarKind.TheVariants.{Bool as BoolSort, Bv as BvSort}
use Rattle.hy_val.specs.declared.sort.Sort.{Sort}
use Rattle.hy_val.specs.declared.sort.SortKind.TheVariants.{Scalar as ScalarSort, Map as MapSort}
use Rattle.type_pass.specs.declared.fault.TypeFault.{TypeFault}
use Rattle.type_pass.specs.declared.fault.TypeKind.TheVariants.{Mismatch, Width, Arity, LeftOut}
use Rattle.type_pass.specs.declared.operand.Operand.{Operand}
use Rattle.type_pass.specs.declared.tables.Scope.{Scope}
use Rattle.type_pass.specs.declared.tables.Signature.{Signature}
use Rattle.type_pass.specs.declared.tables.Tables.{Tables}
use Rattle.type_pass.specs.declared.tables.Named.{Named}
use Rattle.type_pass.specs.ExprSorts.{Checked, Part, with_sort, with_operand, with_operands, bool_sort, needs, all_bools, chain_of_bools, with_width, joined, joined_after, compared, chosen, with_map, selected, stored, extracted, sort_if, all_fit, is_nothing, applied, refused, part, bracket_part}
use Rattle.type_pass.specs.Faults.{fault}
use Rattle.type_pass.specs.Replaced.{Use, term_by, bracket_term, read_if}
use Rattle.type_pass.specs.Scopes.{find_name, function_named}
use Rattle.type_pass.proofs.PartEquations as parts
use Rattle.type_pass.proofs.PartEquations.{part-true, part-false, part-literal, part-variable, part-apply, part-post, part-not, part-concat, part-equal, part-not_equal, part-and, part-or, part-implies, part-implied_by, part-equivalent, part-choice}
use Rattle.bpl_type.proofs.TermEquations as terms
use Rattle.bpl_type.proofs.TermEquations.{term-true, term-false, term-literal, term-variable, term-apply, term-post, term-not, term-concat, term-equal, term-not_equal, term-and, term-or, term-implies, term-implied_by, term-equivalent, term-choice}
use Rattle.type_pass.specs.Terms.{Term, read, binary, implied, chain}
use Rattle.type_pass.specs.Passes.{all_uses, uses}
use Rattle.bpl_type.proofs.Elements.{all_split}
use Rattle.bpl_type.proofs.Fitted.{Known, fitted}
use Rattle.type_pass.specs.Uses.{in_bracket}
use Rattle.type_pass.proofs.UseEquations.{uses-apply, uses-post, uses-not, uses-concat, uses-equal, uses-not_equal, uses-and, uses-or, uses-implies, uses-implied_by, uses-equivalent, uses-choice, uses-select, uses-store}

-- ---- what an answer says of its parts

with_sort-ok : {A : Type 0} (c : Checked) (next : Sort → Result A TypeFault) (a : A) → with_sort c next ≡ Ok a → (r : Sort) × (c ≡ Ok r) × (next r ≡ Ok a)
with_sort-ok (Ok r) next a h = (r, refl, h)
with_sort-ok (Err f) next a h = absurd (cc)

if-ok : {A : Type 0} (b : Bool) (x : Result A TypeFault) (f : TypeFault) (a : A) → (if b then x else Err f) ≡ Ok a → (b ≡ true) × (x ≡ Ok a)
if-ok true x f a h = (refl, h)
if-ok false x f a h = absurd (cc)

eq-is : (v w : ℕ) → nat_eq v w ≡ true → v ≡ w
eq-is v w h = grind (arith, nat_tests)

eq-self : (w : ℕ) → nat_eq w w ≡ true
eq-self w = grind (arith, nat_tests)

both : (a b : Bool) → (a && b) ≡ true → (a ≡ true) × (b ≡ true)
both true true h = (refl, refl)
both true false h = absurd (cc)
both false b h = absurd (cc)

same_scalar-is : (s t : Scalar) → same_scalar s t ≡ true → s ≡ t
same_scalar-is BoolSort BoolSort h = refl
same_scalar-is BoolSort (BvSort w) h = absurd (cc)
same_scalar-is (BvSort v) BoolSort h = absurd (cc)
same_scalar-is (BvSort v) (BvSort w) h = ap BvSort (eq-is v w h)

same_scalar-self : (s : Scalar) → same_scalar s s ≡ true
same_scalar-self BoolSort = refl
same_scalar-self (BvSort w) = eq-self w

pub same_sort-is : (s t : Sort) → same_sort s t ≡ true → s ≡ t
same_sort-is (ScalarSort s) (ScalarSort t) h = ap ScalarSort (same_scalar-is s t h)
same_sort-is (ScalarSort s) (MapSort i e') h = absurd (cc)
same_sort-is (MapSort i e') (ScalarSort t) h = absurd (cc)
same_sort-is (MapSort i e') (MapSort j f) h =
    let p = both (same_scalar i j) (same_scalar e' f) h in
    ap (λ x. MapSort x e') (same_scalar-is i j p.0) ∙ ap (λ y. MapSort j y) (same_scalar-is e' f p.1)

pub same_sort-self : (s : Sort) → same_sort s s ≡ true
same_sort-self (ScalarSort s) = same_scalar-self s
same_sort-self (MapSort i e') = ap (λ (b : Bool). b && same_scalar e' e') (same_scalar-self i) ∙ same_scalar-self e'

needs-ok : {A : Type 0} (sort : Sort) (o : Operand) (next : Result A TypeFault) (a : A) → needs sort o next ≡ Ok a → (o.sort ≡ sort) × (next ≡ Ok a)
needs-ok sort o next a h = let p = if-ok (same_sort o.sort sort) next (fault o.at Mismatch) a h in (same_sort-is o.sort sort p.0, p.1)

-- ---- operands and their terms

module _ (knows : Known) where
  -- the parts have the sorts of the operands
  abbrev HaveParts : List Part → List Operand → Type 0
  HaveParts [] [] = Unit {0}
  HaveParts [] (o ∷ os) = ⊥
  HaveParts (p ∷ ps) [] = ⊥
  HaveParts (p ∷ ps) (o ∷ os) = (p.sort ≡ Ok o.sort) × HaveParts ps os

  -- and so have the terms
  abbrev HaveTerms : List Term → List Operand → Type 0
  HaveTerms [] [] = Unit {0}
  HaveTerms [] (o ∷ os) = ⊥
  HaveTerms (t ∷ ts) [] = ⊥
  HaveTerms (t ∷ ts) (o ∷ os) = (fitted knows t ≡ Some o.sort) × HaveTerms ts os

  with_operands-ok : {A : Type 0} (ps : List Part) (next : List Operand → Result A TypeFault) (a : A) → with_operands ps next ≡ Ok a
      → (os : List Operand) × HaveParts ps os × (next os ≡ Ok a)
  with_operands-ok [] next a h = ([], tt, h)
  with_operands-ok (p ∷ ps) next a h =
      let r = with_sort-ok p.sort (λ s. with_operands ps (λ os. next (record { at = p.at; sort = s } ∷ os))) a h in
      let rest = with_operands-ok ps (λ os. next (record { at = p.at; sort = r.0 } ∷ os)) a r.2 in
      (record { at = p.at; sort = r.0 } ∷ rest.0, (r.1, rest.1), rest.2)

  -- ---- chains

  all_bools-ok : (os : List Operand) (s : Sort) → all_bools os ≡ Ok s → bool_sort ≡ s
  all_bools-ok [] s h = cc
  all_bools-ok (o ∷ os) s h = all_bools-ok os s (needs-ok bool_sort o (all_bools os) s h).1

  -- two bools are joined to a bool
  abbrev JoinsBools : (Term → Term → Term) → Type 0
  JoinsBools join = (a b : Term) → fitted knows a ≡ Some bool_sort → fitted knows b ≡ Some bool_sort → fitted knows (join a b) ≡ Some bool_sort

  fold-bools : (join : Term → Term → Term) → JoinsBools join → (t : Term) (ts : List Term) (os : List Operand) (s : Sort)
      → fitted knows t ≡ Some bool_sort → HaveTerms ts os → all_bools os ≡ Ok s → fitted knows (fold join t ts) ≡ Some bool_sort
  fold-bools join joins t [] os s at have h = at
  fold-bools join joins t (x ∷ xs) [] s at have h = absurd have
  fold-bools join joins t (x ∷ xs) (o ∷ os) s at have h =
      let p = needs-ok bool_sort o (all_bools os) s h in
      fold-bools join joins (join t x) xs os s (joins t x at (have.0 ∙ ap Some p.0)) have.1 p.1

  chain-bools : (join : Term → Term → Term) → JoinsBools join → (at : ℕ) (ts : List Term) (os : List Operand) (s : Sort)
      → HaveTerms ts os → chain_of_bools at os ≡ Ok s → fitted knows (chain join ts) ≡ Some s
  chain-bools join joins at [] [] s have h = absurd (cc)
  chain-bools join joins at [] (o ∷ os) s have h = absurd have
  chain-bools join joins at (t ∷ ts) [] s have h = absurd have
  chain-bools join joins at (t ∷ ts) (o ∷ os) s have h =
      let p = needs-ok bool_sort o (all_bools os) s h in
      fold-bools join joins t ts os s (have.0 ∙ ap Some p.0) have.1 p.1 ∙ ap Some (all_bools-ok os s p.1)

  binary-joins : (op : BvOp) → binary_sort op (Some BoolSort) (Some BoolSort) ≡ Some bool_sort → JoinsBools (binary op)
  binary-joins op h a b x y = ap (λ o. binary_sort op (as_scalar o) (as_scalar (fitted knows b))) x ∙ ap (λ o. binary_sort op (Some BoolSort) (as_scalar o)) y ∙ h

  implied-joins : JoinsBools implied
  implied-joins a b x y = ap (λ o. binary_sort Implies (as_scalar (fitted knows b)) (as_scalar o)) x ∙ ap (λ o. binary_sort Implies (as_scalar o) (Some BoolSort)) y

  with_width-ok : {A : Type 0} (o : Operand) (sort : Sort) (next : ℕ → Result A TypeFault) (a : A) → with_width o sort next ≡ Ok a → (w : ℕ) × (sort ≡ ScalarSort (BvSort w)) × (next w ≡ Ok a)
  with_width-ok o (ScalarSort BoolSort) next a h = absurd (cc)
  with_width-ok o (ScalarSort (BvSort w)) next a h = (w, refl, h)
  with_width-ok o (MapSort i e') next a h = absurd (cc)

  joins-words : (a b : Term) (v w : ℕ) → fitted knows a ≡ Some (ScalarSort (BvSort v)) → fitted knows b ≡ Some (ScalarSort (BvSort w)) → nat_le (v + w) 64 ≡ true
      → fitted knows (binary Concat a b) ≡ Some (ScalarSort (BvSort (v + w)))
  joins-words a b v w x y h =
      ap (λ o. binary_sort Concat (as_scalar o) (as_scalar (fitted knows b))) x ∙ ap (λ o. binary_sort Concat (Some (BvSort v)) (as_scalar o)) y
      ∙ ap (λ (fits : Bool). as_sort (bits_if fits (v + w))) h

  fold-words : (at w : ℕ) (t : Term) (ts : List Term) (os : List Operand) (s : Sort)
      → fitted knows t ≡ Some (ScalarSort (BvSort w)) → HaveTerms ts os → joined_after at w os ≡ Ok s → fitted knows (fold (binary Concat) t ts) ≡ Some s
  fold-words at w t [] [] s is have h = is ∙ cc
  fold-words at w t [] (o ∷ os) s is have h = absurd have
  fold-words at w t (x ∷ xs) [] s is have h = absurd have
  fold-words at w t (x ∷ xs) (o ∷ os) s is have h =
      let p = with_width-ok o o.sort (λ v. if nat_le (w + v) 64 then joined_after at (w + v) os else refused at Width) s h in
      let q = if-ok (nat_le (w + p.0) 64) (joined_after at (w + p.0) os) (fault at Width) s p.2 in
      fold-words at (w + p.0) (binary Concat t x) xs os s (joins-words t x w p.0 is (have.0 ∙ ap Some p.1) q.0) have.1 q.1

  chain-words : (at : ℕ) (ts : List Term) (os : List Operand) (s : Sort) → HaveTerms ts os → joined at os ≡ Ok s → fitted knows (chain (binary Concat) ts) ≡ Some s
  chain-words at [] [] s have h = absurd (cc)
  chain-words at [] (o ∷ os) s have h = absurd have
  chain-words at (t ∷ ts) [] s have h = absurd have
  chain-words at (t ∷ ts) (o ∷ os) s have h =
      let p = with_width-ok o o.sort (λ w. joined_after at w os) s h in
      fold-words at p.0 t ts os s (have.0 ∙ ap Some p.1) have.1 p.2

  -- ---- the other operators

  compared-if : (b : Bool) (f : TypeFault) (s : Sort) → (if b then Ok bool_sort else Err f) ≡ Ok s → as_sort (if b then Some BoolSort else None) ≡ Some s
  compared-if true f s h = cc
  compared-if false f s h = absurd (cc)

  -- the operator compares two bools, and two bit vectors of one width
  record Compares (op : BvOp) : Type 0 where
    pub bools : binary_sort op (Some BoolSort) (Some BoolSort) ≡ Some bool_sort
    pub words : (v w : ℕ) → binary_sort op (Some (BvSort v)) (Some (BvSort w)) ≡ as_sort (if nat_eq v w then Some BoolSort else None)

  compared-of : (op : BvOp) → Compares op → (at i j : ℕ) (x y s : Sort) → compared at (record { at = i; sort = x }) (record { at = j; sort = y }) ≡ Ok s → binary_sort op (as_scalar (Some x)) (as_scalar (Some y)) ≡ Some s
  compared-of op c at i j (ScalarSort BoolSort) (ScalarSort BoolSort) s h = c.bools ∙ cc
  compared-of op c at i j (ScalarSort BoolSort) (ScalarSort (BvSort w)) s h = absurd (cc)
  compared-of op c at i j (ScalarSort (BvSort v)) (ScalarSort BoolSort) s h = absurd (cc)
  compared-of op c at i j (ScalarSort (BvSort v)) (ScalarSort (BvSort w)) s h = c.words v w ∙ compared-if (nat_eq v w) (fault at Mismatch) s h
  compared-of op c at i j (ScalarSort BoolSort) (MapSort k e') s h = absurd (cc)
  compared-of op c at i j (ScalarSort (BvSort v)) (MapSort k e') s h = absurd (cc)
  compared-of op c at i j (MapSort k e') y s h = absurd (cc)

  compared-ok : (op : BvOp) → Compares op → (at : ℕ) (l r : Operand) (x y s : Sort) → l.sort ≡ x → r.sort ≡ y → compared at l r ≡ Ok s → binary_sort op (as_scalar (Some x)) (as_scalar (Some y)) ≡ Some s
  compared-ok op c at l r x y s lx ry h =
      compared-of op c at l.at r.at x y s (subst (λ v. compared at (record { at = l.at; sort = v }) (record { at = r.at; sort = y }) ≡ Ok s) lx (subst (λ v. compared at l (record { at = r.at; sort = v }) ≡ Ok s) ry h))

  -- a sort that fits, as an answer and as an option
  fits-if : (b : Bool) (x y : Sort) (f : TypeFault) → (if b then Ok x else Err f) ≡ Ok y → (if b then Some x else None) ≡ Some y
  fits-if true x y f h = cc
  fits-if false x y f h = absurd (cc)

  chosen-ok : (at : ℕ) (c l r : Operand) (s : Sort) → chosen at c l r ≡ Ok s → (c.sort ≡ bool_sort) × (if_sort (Some BoolSort) (Some l.sort) (Some r.sort) ≡ Some s)
  chosen-ok at c l r s h =
      let p = needs-ok bool_sort c (if same_sort l.sort r.sort then Ok l.sort else refused at Mismatch) s h in
      (p.0, fits-if (same_sort l.sort r.sort) l.sort s (fault at Mismatch) p.1)

  with_map-ok : {A : Type 0} (o : Operand) (sort : Sort) (next : Scalar → Scalar → Result A TypeFault) (a : A) → with_map o sort next ≡ Ok a
      → (i : Scalar) × (e' : Scalar) × (sort ≡ MapSort i e') × (next i e' ≡ Ok a)
  with_map-ok o (ScalarSort x) next a h = absurd (cc)
  with_map-ok o (MapSort i e') next a h = (i, e', refl, h)

  -- the entry of a map at an index of its sort
  entry-self : (i e' : Scalar) → select_sort (Some (MapSort i e')) (Some i) ≡ Some (ScalarSort e')
  entry-self i e' = ap (λ (b : Bool). if b then Some (ScalarSort e') else None) (same_scalar-self i)

  pub written-self : (i e' : Scalar) → store_sort (Some (MapSort i e')) (Some i) (Some e') ≡ Some (MapSort i e')
  written-self i e' =
      ap (λ (b : Bool). if b && same_scalar e' e' then Some (MapSort i e') else None) (same_scalar-self i)
      ∙ ap (λ (b : Bool). if b then Some (MapSort i e') else None) (same_scalar-self e')

  selected-ok : (m i : Operand) (s : Sort) → selected m i ≡ Ok s → select_sort (Some m.sort) (as_scalar (Some i.sort)) ≡ Some s
  selected-ok m i s h =
      let p = with_map-ok m m.sort (λ x y. needs (ScalarSort x) i (Ok (ScalarSort y))) s h in
      let q = needs-ok (ScalarSort p.0) i (Ok (ScalarSort p.1)) s p.3 in
      ap (λ v. select_sort (Some v) (as_scalar (Some i.sort))) p.2
      ∙ ap (λ v. select_sort (Some (MapSort p.0 p.1)) (as_scalar (Some v))) q.0
      ∙ entry-self p.0 p.1 ∙ cc (q.1)

  stored-ok : (m i v : Operand) (s : Sort) → stored m i v ≡ Ok s → store_sort (Some m.sort) (as_scalar (Some i.sort)) (as_scalar (Some v.sort)) ≡ Some s
  stored-ok m i v s h =
      let p = with_map-ok m m.sort (λ x y. needs (ScalarSort x) i (needs (ScalarSort y) v (Ok (MapSort x y)))) s h in
      let q = needs-ok (ScalarSort p.0) i (needs (ScalarSort p.1) v (Ok (MapSort p.0 p.1))) s p.3 in
      let r = needs-ok (ScalarSort p.1) v (Ok (MapSort p.0 p.1)) s q.1 in
      ap (λ u. store_sort (Some u) (as_scalar (Some i.sort)) (as_scalar (Some v.sort))) p.2
      ∙ ap (λ u. store_sort (Some (MapSort p.0 p.1)) (as_scalar (Some u)) (as_scalar (Some v.sort))) q.0
      ∙ ap (λ u. store_sort (Some (MapSort p.0 p.1)) (Some p.0) (as_scalar (Some u))) r.0
      ∙ written-self p.0 p.1 ∙ cc (r.1)

  bits-if : (b : Bool) (w : ℕ) (f : TypeFault) (s : Sort) → (if b then Ok (ScalarSort (BvSort w)) else Err f) ≡ Ok s → as_sort (bits_if b w) ≡ Some s
  bits-if true w f s h = cc
  bits-if false w f s h = absurd (cc)

  extracted-ok : (at high low : ℕ) (o : Operand) (s : Sort) → extracted at high low o ≡ Ok s → unary_sort (Extract high low) (as_scalar (Some o.sort)) ≡ Some s
  extracted-ok at high low o s h =
      let p = with_width-ok o o.sort (λ w. if nat_lt low high && nat_le high w then Ok (ScalarSort (BvSort (high - low))) else refused at Width) s h in
      ap (λ v. unary_sort (Extract high low) (as_scalar (Some v))) p.1 ∙ bits-if (nat_lt low high && nat_le high p.0) (high - low) (fault at Width) s p.2

  -- ---- names

  -- every name in scope is a known variable
  abbrev pub AreKnown : Tables → Scope → Type 0
  AreKnown t s = (text : List ℕ) (seen : Var × Sort) → find_name t s text ≡ Some seen → knows seen.0 seen.1 ≡ true

  read-of : (x : Var) (sort : Sort) → knows x sort ≡ true → fitted knows (read x sort) ≡ Some sort
  read-of x sort h = ap (λ (b : Bool). if b then Some sort else None) h

  variable-of : (at : ℕ) (found : Option (Var × Sort)) (s : Sort) → ((seen : Var × Sort) → found ≡ Some seen → knows seen.0 seen.1 ≡ true) → sort_if at found ≡ Ok s → fitted knows (read_if found) ≡ Some s
  variable-of at None s known h = absurd (cc)
  variable-of at (Some seen) s known h = read-of seen.0 seen.1 (known seen refl) ∙ cc

  -- the terms have these sorts, in order
  abbrev pub HaveSorts : List Term → List Sort → Type 0
  HaveSorts [] [] = Unit {0}
  HaveSorts [] (s ∷ ss) = ⊥
  HaveSorts (t ∷ ts) [] = ⊥
  HaveSorts (t ∷ ts) (s ∷ ss) = (fitted knows t ≡ Some s) × HaveSorts ts ss

  abbrev pub sorts_of : Signature → List Sort
  sorts_of f = map (λ a. a.sort) f.arguments

  -- a use of a function of this name, if it has a meaning, has its sort
  abbrev pub UseFits : Use → Tables → List ℕ → Type 0
  UseFits u t text = (f : Signature) → function_named t text ≡ Some f → is_nothing f.meaning ≡ false → (arguments : List Term) → HaveSorts arguments (sorts_of f) → fitted knows (u text arguments) ≡ Some f.output

  abbrev pub UsesFit : Use → Tables → List (List ℕ) → Type 0
  UsesFit u t names = AllByRecursion (UseFits u t) names

  fit-ok : (ss : List Sort) (os : List Operand) (ts : List Term) (output s : Sort) → length ss ≡ length os → HaveTerms ts os → all_fit ss os output ≡ Ok s → HaveSorts ts ss × (output ≡ s)
  fit-ok [] [] [] output s same have h = (tt, cc)
  fit-ok [] [] (t ∷ ts) output s same have h = absurd have
  fit-ok [] (o ∷ os) ts output s same have h = absurd (omega arith)
  fit-ok (x ∷ xs) [] ts output s same have h = absurd (omega arith)
  fit-ok (x ∷ xs) (o ∷ os) [] output s same have h = absurd have
  fit-ok (x ∷ xs) (o ∷ os) (t ∷ ts) output s same have h =
      let p = needs-ok x o (all_fit xs os output) s h in
      let q = fit-ok xs os ts output s (omega arith) have.1 p.1 in
      ((have.0 ∙ ap Some p.0, q.0), q.1)

  unless-ok : {A : Type 0} (b : Bool) (x : Result A TypeFault) (f : TypeFault) (a : A) → (if b then Err f else x) ≡ Ok a → (b ≡ false) × (x ≡ Ok a)
  unless-ok true x f a h = absurd (cc)
  unless-ok false x f a h = (refl, h)

  not-false : (b : Bool) → not b ≡ false → b ≡ true
  not-false true h = refl
  not-false false h = absurd (cc)

  length-sorts : (arguments : List Named) → length (map (λ a. a.sort) arguments) ≡ length arguments
  length-sorts [] = refl
  length-sorts (a ∷ rest) = ap suc (length-sorts rest)

  applied-ok : (at : ℕ) (found : Option Signature) (os : List Operand) (s : Sort) → applied at found os ≡ Ok s
      → (f : Signature) × (found ≡ Some f) × (is_nothing f.meaning ≡ false) × (length f.arguments ≡ length os) × (all_fit (sorts_of f) os f.output ≡ Ok s)
  applied-ok at None os s h = absurd (cc)
  applied-ok at (Some f) os s h =
      let p = unless-ok (not (nat_eq (length f.arguments) (length os))) (if is_nothing f.meaning then refused at (LeftOut Uninterpreted) else all_fit (sorts_of f) os f.output) (fault at Arity) s h in
      let q = unless-ok (is_nothing f.meaning) (all_fit (sorts_of f) os f.output) (fault at (LeftOut Uninterpreted)) s p.1 in
      (f, refl, q.0, eq-is (length f.arguments) (length os) (not-false (nat_eq (length f.arguments) (length os)) p.0), q.1)

  apply-of : (u : Use) (t : Tables) (at : ℕ) (text : List ℕ) (os : List Operand) (ts : List Term) (s : Sort)
      → UseFits u t text → HaveTerms ts os → applied at (function_named t text) os ≡ Ok s → fitted knows (u text ts) ≡ Some s
  apply-of u t at text os ts s fits have h =
      let p = applied-ok at (function_named t text) os s h in
      let q = fit-ok (sorts_of p.0) os ts p.0.output s (length-sorts p.0.arguments ∙ p.3) have p.4 in
      fits p.0 p.1 p.2 ts q.0 ∙ ap Some q.1

  -- ---- by induction on the tree

  -- where the expression has a sort and the functions that it uses fit, its term has that sort
  abbrev pub Preserved : Use → Tables → Scope → Expr → Type 0
  Preserved u t s x = UsesFit u t (uses x) → (r : Sort) → (part t s x).sort ≡ Ok r → fitted knows (term_by u t s x) ≡ Some r

  -- what a bracket makes of a part and its term
  abbrev pub Keeps : Use → Tables → Scope → Bracket → Type 0
  Keeps u t s b = UsesFit u t (in_bracket b) → (at : ℕ) (p : Part) (a : Term) → ((r : Sort) → p.sort ≡ Ok r → fitted knows a ≡ Some r)
      → (r : Sort) → (bracket_part t s b at p).sort ≡ Ok r → fitted knows (bracket_term u t s b a) ≡ Some r

  -- each of several expressions
  abbrev pub AllPreserved : Use → Tables → Scope → List Expr → Type 0
  AllPreserved u t s [] = Unit {0}
  AllPreserved u t s (x ∷ xs) = Preserved u t s x × AllPreserved u t s xs

  have_terms : (u : Use) (t : Tables) (s : Scope) (xs : List Expr) (os : List Operand) → AllPreserved u t s xs → UsesFit u t (all_uses (map uses xs)) → HaveParts (map (part t s) xs) os → HaveTerms (map (term_by u t s) xs) os
  have_terms u t s [] [] all fit have = tt
  have_terms u t s [] (o ∷ os) all fit have = have
  have_terms u t s (x ∷ xs) [] all fit have = have
  have_terms u t s (x ∷ xs) (o ∷ os) all fit have =
      let f = all_split (UseFits u t) (uses x) (all_uses (map uses xs)) fit in
      (all.0 f.0 o.sort have.0, have_terms u t s xs os all.1 f.1 have.1)

  module _ (u : Use) (t : Tables) (s : Scope) (known : AreKnown t s) where
    -- the uses of two parts, and of three
    two-fit : (xs ys : List (List ℕ)) → UsesFit u t (xs ++ ys) → UsesFit u t xs × UsesFit u t ys
    two-fit xs ys fit = all_split (UseFits u t) xs ys fit

    -- the answer of a chain, and the terms of its operands
    chain_from : (xs : List Expr) (next : List Operand → Checked) (r : Sort) → AllPreserved u t s xs → UsesFit u t (all_uses (map uses xs)) → with_operands (map (part t s) xs) next ≡ Ok r
        → (os : List Operand) × HaveTerms (map (term_by u t s) xs) os × (next os ≡ Ok r)
    chain_from xs next r all fit h = let p = with_operands-ok (map (part t s) xs) next r h in (p.0, have_terms u t s xs p.0 all fit p.1, p.2)

    pub true-is : (at : ℕ) → Preserved u t s (e.True at)
    true-is at fit r h = rw (term-true u t s at) (cc (ap (λ p. p.sort) (sym (part-true t s at)) ∙ h))

    pub false-is : (at : ℕ) → Preserved u t s (e.False at)
    false-is at fit r h = rw (term-false u t s at) (cc (ap (λ p. p.sort) (sym (part-false t s at)) ∙ h))

    pub literal-is : (at width bits : ℕ) → Preserved u t s (e.Literal at width bits)
    literal-is at width bits fit r h =
        rw (term-literal u t s at width bits)
        (fits-if (has_scalar (bits_atom width bits) (BvSort width)) (ScalarSort (BvSort width)) r (fault at Width) (ap (λ p. p.sort) (sym (part-literal t s at width bits)) ∙ h))

    pub variable-is : (n : Name) → Preserved u t s (e.Variable n)
    variable-is n fit r h = rw (term-variable u t s n) (variable-of n.at (find_name t s n.text) r (known n.text) (ap (λ p. p.sort) (sym (part-variable t s n)) ∙ h))

    pub apply-is : (f : Name) (xs : List Expr) → AllPreserved u t s xs → Preserved u t s (e.Apply f xs)
    apply-is f xs all fit r h =
        let g = two-fit (all_uses (map uses xs)) (f.text ∷ []) (subst (UsesFit u t) (uses-apply f xs) fit) in
        let c = chain_from xs (applied f.at (function_named t f.text)) r all g.0 (ap (λ p. p.sort) (sym (part-apply t s f xs)) ∙ h) in
        rw (term-apply u t s f xs) (apply-of u t f.at f.text c.0 (map (term_by u t s) xs) r g.1.0 c.1 c.2)

    pub not-is : (at : ℕ) (x : Expr) → Preserved u t s x → Preserved u t s (e.Not at x)
    not-is at x keep fit r h =
        let o = with_sort-ok (part t s x).sort (λ v. needs bool_sort (record { at = (part t s x).at; sort = v }) (Ok bool_sort)) r (ap (λ p. p.sort) (sym (part-not t s at x)) ∙ h) in
        let n = needs-ok bool_sort (record { at = (part t s x).at; sort = o.0 }) (Ok bool_sort) r o.2 in
        rw (term-not u t s at x) (ap (λ v. unary_sort Not (as_scalar v)) (keep (subst (UsesFit u t) (uses-not at x) fit) o.0 o.1 ∙ ap Some n.0) ∙ cc (n.1))

    pub concat-is : (at : ℕ) (xs : List Expr) → AllPreserved u t s xs → Preserved u t s (e.Concat at xs)
    concat-is at xs all fit r h =
        let c = chain_from xs (joined at) r all (subst (UsesFit u t) (uses-concat at xs) fit) (ap (λ p. p.sort) (sym (part-concat t s at xs)) ∙ h) in
        rw (term-concat u t s at xs) (chain-words at (map (term_by u t s) xs) c.0 r c.1 c.2)

    pub bools-is : (join : Term → Term → Term) → JoinsBools join → (at : ℕ) (xs : List Expr) (r : Sort) → AllPreserved u t s xs → UsesFit u t (all_uses (map uses xs))
        → with_operands (map (part t s) xs) (chain_of_bools at) ≡ Ok r → fitted knows (chain join (map (term_by u t s) xs)) ≡ Some r
    bools-is join joins at xs r all fit h = let c = chain_from xs (chain_of_bools at) r all fit h in chain-bools join joins at (map (term_by u t s) xs) c.0 r c.1 c.2

    pub and-is : (at : ℕ) (xs : List Expr) → AllPreserved u t s xs → Preserved u t s (e.And at xs)
    and-is at xs all fit r h = rw (term-and u t s at xs) (bools-is (binary And) (binary-joins And refl) at xs r all (subst (UsesFit u t) (uses-and at xs) fit) (ap (λ p. p.sort) (sym (part-and t s at xs)) ∙ h))

    pub or-is : (at : ℕ) (xs : List Expr) → AllPreserved u t s xs → Preserved u t s (e.Or at xs)
    or-is at xs all fit r h = rw (term-or u t s at xs) (bools-is (binary Or) (binary-joins Or refl) at xs r all (subst (UsesFit u t) (uses-or at xs) fit) (ap (λ p. p.sort) (sym (part-or t s at xs)) ∙ h))

    pub implied_by-is : (at : ℕ) (xs : List Expr) → AllPreserved u t s xs → Preserved u t s (e.ImpliedBy at xs)
    implied_by-is at xs all fit r h = rw (term-implied_by u t s at xs) (bools-is implied implied-joins at xs r all (subst (UsesFit u t) (uses-implied_by at xs) fit) (ap (λ p. p.sort) (sym (part-implied_by t s at xs)) ∙ h))

    pub equivalent-is : (at : ℕ) (xs : List Expr) → AllPreserved u t s xs → Preserved u t s (e.Equivalent at xs)
    equivalent-is at xs all fit r h = rw (term-equivalent u t s at xs) (bools-is (binary Iff) (binary-joins Iff refl) at xs r all (subst (UsesFit u t) (uses-equivalent at xs) fit) (ap (λ p. p.sort) (sym (part-equivalent t s at xs)) ∙ h))

    -- two operands, and what their sorts lead to
    two_from : (x y : Expr) (next : Operand → Operand → Checked) (r : Sort) → Preserved u t s x → Preserved u t s y → UsesFit u t (uses x ++ uses y)
        → with_operand (part t s x) (λ l. with_operand (part t s y) (λ k. next l k)) ≡ Ok r
        → (l : Operand) × (k : Operand) × (fitted knows (term_by u t s x) ≡ Some l.sort) × (fitted knows (term_by u t s y) ≡ Some k.sort) × (next l k ≡ Ok r)
    two_from x y next r kx ky fit h =
        let f = two-fit (uses x) (uses y) fit in
        let a = with_sort-ok (part t s x).sort (λ v. with_operand (part t s y) (λ k. next (record { at = (part t s x).at; sort = v }) k)) r h in
        let b = with_sort-ok (part t s y).sort (λ v. next (record { at = (part t s x).at; sort = a.0 }) (record { at = (part t s y).at; sort = v })) r a.2 in
        (record { at = (part t s x).at; sort = a.0 }, record { at = (part t s y).at; sort = b.0 }, kx f.0 a.0 a.1, ky f.1 b.0 b.1, b.2)

    pub equal-is : (at : ℕ) (x y : Expr) → Preserved u t s x → Preserved u t s y → Preserved u t s (e.Equal at x y)
    equal-is at x y kx ky fit r h =
        let d = two_from x y (compared at) r kx ky (subst (UsesFit u t) (uses-equal at x y) fit) (ap (λ p. p.sort) (sym (part-equal t s at x y)) ∙ h) in
        rw (term-equal u t s at x y)
        (ap (λ v. binary_sort Eq (as_scalar v) (as_scalar (fitted knows (term_by u t s y)))) d.2 ∙ ap (λ v. binary_sort Eq (as_scalar (Some d.0.sort)) (as_scalar v)) d.3
        ∙ compared-ok Eq (record { bools = refl; words = λ v w. refl }) at d.0 d.1 d.0.sort d.1.sort r refl refl d.4)

    pub not_equal-is : (at : ℕ) (x y : Expr) → Preserved u t s x → Preserved u t s y → Preserved u t s (e.NotEqual at x y)
    not_equal-is at x y kx ky fit r h =
        let d = two_from x y (compared at) r kx ky (subst (UsesFit u t) (uses-not_equal at x y) fit) (ap (λ p. p.sort) (sym (part-not_equal t s at x y)) ∙ h) in
        rw (term-not_equal u t s at x y)
        (ap (λ v. binary_sort Ne (as_scalar v) (as_scalar (fitted knows (term_by u t s y)))) d.2 ∙ ap (λ v. binary_sort Ne (as_scalar (Some d.0.sort)) (as_scalar v)) d.3
        ∙ compared-ok Ne (record { bools = refl; words = λ v w. refl }) at d.0 d.1 d.0.sort d.1.sort r refl refl d.4)

    pub implies-is : (at : ℕ) (x y : Expr) → Preserved u t s x → Preserved u t s y → Preserved u t s (e.Implies at x y)
    implies-is at x y kx ky fit r h =
        let d = two_from x y (λ l k. needs bool_sort l (needs bool_sort k (Ok bool_sort))) r kx ky (subst (UsesFit u t) (uses-implies at x y) fit) (ap (λ p. p.sort) (sym (part-implies t s at x y)) ∙ h) in
        let m = needs-ok bool_sort d.0 (needs bool_sort d.1 (Ok bool_sort)) r d.4 in
        let n = needs-ok bool_sort d.1 (Ok bool_sort) r m.1 in
        rw (term-implies u t s at x y) (binary-joins Implies refl (term_by u t s x) (term_by u t s y) (d.2 ∙ ap Some m.0) (d.3 ∙ ap Some n.0) ∙ cc (n.1))

    pub choice-is : (at : ℕ) (x y z : Expr) → Preserved u t s x → Preserved u t s y → Preserved u t s z → Preserved u t s (e.Choice at x y z)
    choice-is at x y z kx ky kz fit r h =
        let f = two-fit (uses x ++ uses y) (uses z) (subst (UsesFit u t) (uses-choice at x y z) fit) in
        let g = two-fit (uses x) (uses y) f.0 in
        let px = part t s x in let py = part t s y in let pz = part t s z in
        let a = with_sort-ok px.sort (λ v. with_operand py (λ l. with_operand pz (λ k. chosen at (record { at = px.at; sort = v }) l k))) r (ap (λ p. p.sort) (sym (part-choice t s at x y z)) ∙ h) in
        let b = with_sort-ok py.sort (λ v. with_operand pz (λ k. chosen at (record { at = px.at; sort = a.0 }) (record { at = py.at; sort = v }) k)) r a.2 in
        let c = with_sort-ok pz.sort (λ v. chosen at (record { at = px.at; sort = a.0 }) (record { at = py.at; sort = b.0 }) (record { at = pz.at; sort = v })) r b.2 in
        let d = chosen-ok at (record { at = px.at; sort = a.0 }) (record { at = py.at; sort = b.0 }) (record { at = pz.at; sort = c.0 }) r c.2 in
        rw (term-choice u t s at x y z)
        (ap (λ v. if_sort (as_scalar v) (fitted knows (term_by u t s y)) (fitted knows (term_by u t s z))) (kx g.0 a.0 a.1 ∙ ap Some d.0)
        ∙ ap (λ v. if_sort (Some BoolSort) v (fitted knows (term_by u t s z))) (ky g.1 b.0 b.1)
        ∙ ap (λ v. if_sort (Some BoolSort) (Some b.0) v) (kz f.1 c.0 c.1) ∙ d.1)

    pub select-keeps : (x : Expr) → Preserved u t s x → Keeps u t s (brackets.Select x)
    select-keeps x kx fit at p a ka r h =
        let m = with_sort-ok p.sort (λ v. with_operand (part t s x) (λ i. selected (record { at = p.at; sort = v }) i)) r (ap (λ q. q.sort) (sym (parts.on-select t s x at p)) ∙ h) in
        let i = with_sort-ok (part t s x).sort (λ v. selected (record { at = p.at; sort = m.0 }) (record { at = (part t s x).at; sort = v })) r m.2 in
        rw (terms.on-select u t s x a)
        (ap (λ v. select_sort v (as_scalar (fitted knows (term_by u t s x)))) (ka m.0 m.1) ∙ ap (λ v. select_sort (Some m.0) (as_scalar v)) (kx (subst (UsesFit u t) (uses-select x) fit) i.0 i.1)
        ∙ selected-ok (record { at = p.at; sort = m.0 }) (record { at = (part t s x).at; sort = i.0 }) r i.2)

    pub store-keeps : (x y : Expr) → Preserved u t s x → Preserved u t s y → Keeps u t s (brackets.Store x y)
    store-keeps x y kx ky fit at p a ka r h =
        let f = two-fit (uses x) (uses y) (subst (UsesFit u t) (uses-store x y) fit) in
        let px = part t s x in let py = part t s y in
        let m = with_sort-ok p.sort (λ v. with_operand px (λ i. with_operand py (λ w. stored (record { at = p.at; sort = v }) i w))) r (ap (λ q. q.sort) (sym (parts.on-store t s x y at p)) ∙ h) in
        let i = with_sort-ok px.sort (λ v. with_operand py (λ w. stored (record { at = p.at; sort = m.0 }) (record { at = px.at; sort = v }) w)) r m.2 in
        let w = with_sort-ok py.sort (λ v. stored (record { at = p.at; sort = m.0 }) (record { at = px.at; sort = i.0 }) (record { at = py.at; sort = v })) r i.2 in
        rw (terms.on-store u t s x y a)
        (ap (λ v. store_sort v (as_scalar (fitted knows (term_by u t s x))) (as_scalar (fitted knows (term_by u t s y)))) (ka m.0 m.1)
        ∙ ap (λ v. store_sort (Some m.0) (as_scalar v) (as_scalar (fitted knows (term_by u t s y)))) (kx f.0 i.0 i.1)
        ∙ ap (λ v. store_sort (Some m.0) (as_scalar (Some i.0)) (as_scalar v)) (ky f.1 w.0 w.1)
        ∙ stored-ok (record { at = p.at; sort = m.0 }) (record { at = px.at; sort = i.0 }) (record { at = py.at; sort = w.0 }) r w.2)

    pub extract-keeps : (high low : ℕ) → Keeps u t s (brackets.Extract high low)
    extract-keeps high low fit at p a ka r h =
        let m = with_sort-ok p.sort (λ v. extracted at high low (record { at = p.at; sort = v })) r (ap (λ q. q.sort) (sym (parts.on-extract t s high low at p)) ∙ h) in
        rw (terms.on-extract u t s high low a)
        (ap (λ v. unary_sort (Extract high low) (as_scalar v)) (ka m.0 m.1) ∙ extracted-ok at high low (record { at = p.at; sort = m.0 }) r m.2)

    -- each of several brackets
    abbrev pub AllKeep : List Bracket → Type 0
    AllKeep [] = Unit {0}
    AllKeep (b ∷ bs) = Keeps u t s b × AllKeep bs

    pub brackets-is : (at : ℕ) (bs : List Bracket) → AllKeep bs → UsesFit u t (all_uses (map in_bracket bs)) → (p : Part) (a : Term) → ((r : Sort) → p.sort ≡ Ok r → fitted knows a ≡ Some r)
        → (r : Sort) → (fold (λ q b. b at q) p (map (bracket_part t s) bs)).sort ≡ Ok r → fitted knows (fold (λ c b. b c) a (map (bracket_term u t s) bs)) ≡ Some r
    brackets-is at [] all fit p a ka r h = ka r h
    brackets-is at (b ∷ bs) all fit p a ka r h =
        let f = two-fit (in_bracket b) (all_uses (map in_bracket bs)) fit in
        brackets-is at bs all.1 f.1 (bracket_part t s b at p) (bracket_term u t s b a) (all.0 f.0 at p a ka) r h

    pub post-is : (at : ℕ) (x : Expr) (bs : List Bracket) → Preserved u t s x → AllKeep bs → Preserved u t s (e.Post at x bs)
    post-is at x bs kx all fit r h =
        let f = two-fit (uses x) (all_uses (map in_bracket bs)) (subst (UsesFit u t) (uses-post at x bs) fit) in
        rw (term-post u t s at x bs) (brackets-is at bs all f.1 (part t s x) (term_by u t s x) (kx f.0) r (ap (λ p. p.sort) (sym (part-post t s at x bs)) ∙ h))
