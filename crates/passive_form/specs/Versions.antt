-- What items say of versions: definitions, conditions, and what is taken and asked for.
use Rattle.std.specs.Prelude.{◌≡◌, ℕ, zero, suc, ◌+◌, Bool, true, false, not, ◌&&◌, List, [], ◌∷◌, ◌++◌, map, length, slice_get, Option, None, Some, if◌then◌else◌}
use Rattle.std.specs.Option.{option_map}
use Rattle.hy_val.specs.Exprs.{eval_by}
use Rattle.hy_val.specs.Values.{zero_of, has_sort, default, at, is_on}
use Rattle.hy_val.specs.declared.atom.AtomKind.TheVariants.{Bool as BoolAtom}
use Rattle.hy_val.specs.declared.sort.Sort.{Sort}
use Rattle.hy_val.specs.declared.value.Value.{Value}
use Rattle.hy_val.specs.declared.value.Value.TheVariants.{Atom as AtomValue}
use Rattle.hy_val.specs.declared.expr.Var.{Var}
use Rattle.hy_val.specs.declared.expr.Var.TheVariants.{Const, Global, Local}
use Rattle.hy_val.specs.declared.expr.Env.{Env}
use Rattle.hy_val.specs.declared.expr.ExprNode.{ExprNode}
use Rattle.flat_prog.specs.Local.{Request, Result, Ended, Broken}
use Rattle.passive_form.specs.Local.{sorted_as}
use Rattle.passive_form.specs.declared.Item.{Item}
use Rattle.passive_form.specs.declared.Item.TheVariants.{Let, Zero, Free, Need, Check, Site}

-- the version of each variable
pub record Cur : Type 0 where
  pub globals : List ℕ
  pub locals : List ℕ

-- the values of the variables of an expression over versions; a version is read as a local
abbrev pub look_at : List Value → (ℕ → Value) → Var → Value
look_at consts vals (Const n) = at consts n
look_at consts vals (Global n) = default None
look_at consts vals (Local n) = vals n

abbrev pub env_of : List Value → (ℕ → Value) → Cur → Env
env_of consts vals cur = record { consts = consts; globals = map vals cur.globals; locals = map vals cur.locals }

-- so many numbers from k on
abbrev pub from : {A : Type 0} → ℕ → List A → List ℕ
from k [] = []
from k (x ∷ xs) = k ∷ from (k + 1) xs

-- the versions of the outs of a site, and of the globals that its callee may change
abbrev pub outs_from : ℕ → List Sort → List ℕ
outs_from failed outs = from (failed + 1) outs

abbrev pub after_from : ℕ → List Sort → List Sort → List ℕ
after_from failed outs after = from (failed + 1 + length outs) after

-- each Let's version has its expression's value, each Zero is zero, and each free version has its sort
abbrev pub Defined : List Value → (ℕ → Value) → List Item → Type 0
Defined consts vals [] = Unit {0}
Defined consts vals (Let v e ∷ items) = (vals v ≡ eval_by (look_at consts vals) e) × Defined consts vals items
Defined consts vals (Zero v s ∷ items) = (vals v ≡ zero_of s) × Defined consts vals items
Defined consts vals (Free v s ∷ items) = (has_sort (vals v) s ≡ true) × Defined consts vals items
Defined consts vals (Need e ∷ items) = Defined consts vals items
Defined consts vals (Check p e ∷ items) = Defined consts vals items
Defined consts vals (Site p f args before outs changes after ∷ items) =
    ((sorted_as outs (map vals (outs_from f outs)) && sorted_as after (map vals (after_from f outs after))) ≡ true) × Defined consts vals items

-- Needs and Checks are true, and no Site has failed
abbrev pub hold : List Value → (ℕ → Value) → List Item → Bool
hold consts vals [] = true
hold consts vals (Let v e ∷ items) = hold consts vals items
hold consts vals (Zero v s ∷ items) = hold consts vals items
hold consts vals (Free v s ∷ items) = hold consts vals items
hold consts vals (Need e ∷ items) = is_on (eval_by (look_at consts vals) e) && hold consts vals items
hold consts vals (Check p e ∷ items) = is_on (eval_by (look_at consts vals) e) && hold consts vals items
hold consts vals (Site p f args before outs changes after ∷ items) = not (is_on (vals f)) && hold consts vals items

-- what is taken
abbrev pub taken_values : (ℕ → Value) → List Item → List Value
taken_values vals [] = []
taken_values vals (Let v e ∷ items) = taken_values vals items
taken_values vals (Zero v s ∷ items) = taken_values vals items
taken_values vals (Free v s ∷ items) = vals v ∷ taken_values vals items
taken_values vals (Need e ∷ items) = taken_values vals items
taken_values vals (Check p e ∷ items) = taken_values vals items
taken_values vals (Site p f args before outs changes after ∷ items) = taken_values vals items

-- which assert a failing callee fails in is left open
abbrev pub site_result : (ℕ → Value) → ℕ → List Sort → List Sort → Result
site_result vals f outs after = if is_on (vals f) then Broken 0 0 else Ended (map vals (outs_from f outs)) (map vals (after_from f outs after))

abbrev pub taken_results : (ℕ → Value) → List Item → List Result
taken_results vals [] = []
taken_results vals (Let v e ∷ items) = taken_results vals items
taken_results vals (Zero v s ∷ items) = taken_results vals items
taken_results vals (Free v s ∷ items) = taken_results vals items
taken_results vals (Need e ∷ items) = taken_results vals items
taken_results vals (Check p e ∷ items) = taken_results vals items
taken_results vals (Site p f args before outs changes after ∷ items) = site_result vals f outs after ∷ taken_results vals items

-- what callees are asked for
abbrev pub eval_all : (Var → Value) → List (List ExprNode) → List Value
eval_all look [] = []
eval_all look (e ∷ es) = eval_by look e ∷ eval_all look es

abbrev pub made_call : List Value → (ℕ → Value) → ℕ → List (List ExprNode) → List ℕ → Request
made_call consts vals p args before = record { proc = p; globals = map vals before; args = eval_all (look_at consts vals) args }

abbrev pub made_calls : List Value → (ℕ → Value) → List Item → List Request
made_calls consts vals [] = []
made_calls consts vals (Let v e ∷ items) = made_calls consts vals items
made_calls consts vals (Zero v s ∷ items) = made_calls consts vals items
made_calls consts vals (Free v s ∷ items) = made_calls consts vals items
made_calls consts vals (Need e ∷ items) = made_calls consts vals items
made_calls consts vals (Check p e ∷ items) = made_calls consts vals items
made_calls consts vals (Site p f args before outs changes after ∷ items) = made_call consts vals p args before ∷ made_calls consts vals items

-- all that an assignment chooses, in order
abbrev pub inputs : (ℕ → Value) → List Item → List Value
inputs vals [] = []
inputs vals (Let v e ∷ items) = inputs vals items
inputs vals (Zero v s ∷ items) = inputs vals items
inputs vals (Free v s ∷ items) = vals v ∷ inputs vals items
inputs vals (Need e ∷ items) = inputs vals items
inputs vals (Check p e ∷ items) = inputs vals items
inputs vals (Site p f args before outs changes after ∷ items) = vals f ∷ (map vals (outs_from f outs) ++ (map vals (after_from f outs after) ++ inputs vals items))
