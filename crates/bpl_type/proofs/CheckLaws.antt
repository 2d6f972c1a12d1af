-- The answer of checking, from those of the passes.
use Rattle.std.proofs.Common.{◌≡◌, ℕ, List, [], Option, Some, None, Result, Ok, Err, refl, sym, ◌∙◌, ap}
use Rattle.std.specs.Option.{option_or}
use Rattle.std.specs.Result.{IfOk}
use Rattle.bpl_ast.specs.declared.decl.Ast.{Ast}
use Rattle.type_pass.specs.declared.fault.TypeFault.{TypeFault}
use Rattle.bpl_type.specs.declared.parts.Parts.{Parts}
use Rattle.type_pass.specs.declared.tables.Tables.{Tables}
use Rattle.bpl_type.specs.declared.typed.Typed.{Typed}
use Rattle.bpl_type.specs.Checked.{checked_within, after_names, after_sorts, after_heads, after_commands, after_circles, after_sizes}
use Rattle.type_pass.specs.Faults.{first}
use Rattle.bpl_type.specs.Parted.{TellsPast, parts_of}
use Rattle.type_pass.specs.Passes.{twice_faults, sorts_faults, heads_faults, commands_faults, circle_faults, large_faults}
use Rattle.type_pass.specs.Scopes.{tables_of}
use Rattle.bpl_type.specs.TypedOf.{typed_of}
use Rattle.bpl_type.proofs.ProgramFits.{first-none}

none-first : (a b : Option TypeFault) → None ≡ option_or a b → (a ≡ None) × (b ≡ None)
none-first None b h = (refl, sym h)
none-first (Some f) b h = absurd (cc)

-- three passes without a fault
pub all-none : (a b c : Option TypeFault) → None ≡ option_or a (option_or b c) → (a ≡ None) × (b ≡ None) × (c ≡ None)
all-none a b c h =
    let p = none-first a (option_or b c) h in
    let q = none-first b c (sym p.1) in
    (p.0, q.0, q.1)

module _ (limit : ℕ) (ast : Ast) where
  pub told-names : (f : TypeFault) → Some f ≡ first (twice_faults ast) → checked_within limit ast ≡ Err f
  told-names f n = ap (after_names limit ast) (sym n)

  pub told-sorts : (f : TypeFault) → None ≡ first (twice_faults ast) → Some f ≡ first (sorts_faults ast) → checked_within limit ast ≡ Err f
  told-sorts f n s = ap (after_names limit ast) (sym n) ∙ ap (after_sorts limit ast) (sym s)

  -- the passes behind that of sorts decide
  pub past-sorts : (r : Result Typed TypeFault) → None ≡ first (sorts_faults ast) → after_sorts limit ast None ≡ r → after_names limit ast None ≡ r
  past-sorts r s h = ap (after_sorts limit ast) (sym s) ∙ h

  told-by : (f : TypeFault) (a b c : Option TypeFault) → first (heads_faults ast) ≡ a → first (commands_faults ast) ≡ b → first (circle_faults ast) ≡ c → Some f ≡ option_or a (option_or b c) → after_heads limit ast a ≡ Err f
  told-by f (Some x) b c h k l e = cc
  told-by f None (Some x) c h k l e = ap (after_commands limit ast) k ∙ cc
  told-by f None None (Some x) h k l e = ap (after_commands limit ast) k ∙ ap (after_circles limit ast) l ∙ cc
  told-by f None None None h k l e = absurd (cc)

  -- a fault of heads, commands or circles
  pub told-before : (f : TypeFault) → Some f ≡ option_or (first (heads_faults ast)) (option_or (first (commands_faults ast)) (first (circle_faults ast))) → after_sorts limit ast None ≡ Err f
  told-before f e = told-by f (first (heads_faults ast)) (first (commands_faults ast)) (first (circle_faults ast)) refl refl refl e

  -- where the three passes tell nothing, none of them has a fault
  pub faultless : None ≡ option_or (first (heads_faults ast)) (option_or (first (commands_faults ast)) (first (circle_faults ast))) → (heads_faults ast ≡ []) × (commands_faults ast ≡ []) × (circle_faults ast ≡ [])
  faultless n =
      let p = all-none (first (heads_faults ast)) (first (commands_faults ast)) (first (circle_faults ast)) n in
      (first-none (heads_faults ast) p.0, first-none (commands_faults ast) p.1, first-none (circle_faults ast) p.2)

  past-by : (o : Option TypeFault) → (heads_faults ast ≡ []) × (commands_faults ast ≡ []) × (circle_faults ast ≡ []) → after_sorts limit ast None ≡ after_sizes ast o → TellsPast limit ast o
  past-by None none h = (h, none.0, none.1, none.2)
  past-by (Some f) none h = h

  -- the sizes decide
  pub past-circles : (o : Option TypeFault) → None ≡ option_or (first (heads_faults ast)) (option_or (first (commands_faults ast)) (first (circle_faults ast))) → o ≡ first (large_faults limit ast) → TellsPast limit ast o
  past-circles o n l =
      let p = all-none (first (heads_faults ast)) (first (commands_faults ast)) (first (circle_faults ast)) n in
      past-by o (faultless n)
      (ap (after_heads limit ast) p.0 ∙ ap (after_commands limit ast) p.1 ∙ ap (after_circles limit ast) p.2 ∙ ap (after_sizes ast) (sym l))

  pub sizes-tell : {E : Type 0} (r : Result (Option TypeFault) E) → None ≡ option_or (first (heads_faults ast)) (option_or (first (commands_faults ast)) (first (circle_faults ast))) → IfOk r (λ o. o ≡ first (large_faults limit ast)) → IfOk r (TellsPast limit ast)
  sizes-tell (Ok o) n h = past-circles o n h
  sizes-tell (Err e) n h = tt

-- a program whose parts are there
pub whole-is : (ast : Ast) (tables : Tables) (parts : Parts) (made : Typed) → tables ≡ tables_of ast → parts ≡ parts_of ast
    → made ≡ record { consts = tables.consts; uniques = parts.uniques; axioms = parts.axioms; globals = tables.globals; procs = parts.procs } → made ≡ typed_of ast
whole-is ast tables parts made t p h =
    h ∙ ap (λ (k : Tables). let r : Typed = record { consts = k.consts; uniques = parts.uniques; axioms = parts.axioms; globals = k.globals; procs = parts.procs } in r) t
    ∙ ap (λ (q : Parts). let r : Typed = record { consts = (tables_of ast).consts; uniques = q.uniques; axioms = q.axioms; globals = (tables_of ast).globals; procs = q.procs } in r) p
