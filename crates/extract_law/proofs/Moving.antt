-- Commands of a source procedure do the same where its locals stand further behind, with others before and behind them.
use Rattle.std.proofs.Common.{◌≡◌, ℕ, Bool, true, false, if◌then◌else◌, List, [], ◌∷◌, ◌++◌, map, length, sym, ◌∙◌, ap, refl, subst}
use Rattle.std.specs.Prelude.{Option, None, Some}
use Rattle.std.specs.Option.{option_and_then, option_map}
use Rattle.std.specs.List.{list_all}
use Rattle.hy_val.proofs.Lawful.{renaming, only_variables}
use Rattle.hy_val.specs.Exprs.{eval, read, reads, variable, is_there}
use Rattle.hy_val.specs.Laws.{AgreeOn}
use Rattle.hy_val.specs.Values.{default, is_on}
use Rattle.hy_val.specs.declared.expr.ExprNode.{ExprNode}
use Rattle.hy_val.specs.declared.expr.ExprNode.TheVariants.{Lit, Var as Read, Unary, Binary, If, Select, Store as StoreNode}
use Rattle.hy_val.specs.declared.expr.Var.{Var}
use Rattle.hy_val.specs.declared.expr.Var.TheVariants.{Const, Global, Local}
use Rattle.hy_val.specs.declared.sort.Sort.{Sort}
use Rattle.hy_val.specs.declared.value.Value.{Value}
use Rattle.hy_val.specs.Scope.{Scope, sort_of_target, is_target, are_same}
use Rattle.hy_val.proofs.Booleans.{and-first, and-second}
use Rattle.hy_val.specs.Stores.{Store, write, write_all, holds}
use Rattle.flat_prog.specs.Local.{State, havoc, havoc_one}
use Rattle.hy_val.specs.Stores.{env_with, is_value_of}
use Rattle.extract_def.proofs.Lookup.{get_left, get_right, set_left, set_right, set_length}
use Rattle.extract_def.proofs.Moved.{IsWithin, IsMoved, moved_target}
use Rattle.extract_def.specs.Renaming.{behind, moved, moved_pair}

-- the values of a source procedure's variables among those of a flat one's
abbrev pub wide : (before others : List Value) → Store → Store
wide before others s = record { globals = s.globals; locals = before ++ (s.locals ++ others) }

abbrev pub widen : (before others : List Value) → State → State
widen before others s = record s { store = wide before others s.store }

-- ---- expressions

found_there : (o : Option Value) (s : Sort) → is_there o s ≡ true → (v : Value) × (o ≡ Some v)
found_there None s h = cc
found_there (Some v) s h = (v, refl)

-- a variable that is there has the same value among others
read_behind : (consts before others : List Value) (s : Store) (x : Var) (v : Value) → variable (env_with consts s) x ≡ Some v → read (env_with consts (wide before others s)) (behind (length before) x) ≡ read (env_with consts s) x
read_behind consts before others s (Const n) v h = refl
read_behind consts before others s (Global n) v h = refl
read_behind consts before others s (Local n) v h =
    ap default (get_right before (s.locals ++ others) n ∙ (get_left s.locals others n v h ∙ sym h))

reads_agree : (consts before others : List Value) (s : Store) (nodes : List ExprNode) → reads (env_with consts s) nodes ≡ true → AgreeOn (λ x. read (env_with consts (wide before others s)) (behind (length before) x)) (read (env_with consts s)) nodes
reads_agree consts before others s [] h = tt
reads_agree consts before others s (Lit a ∷ nodes) h = reads_agree consts before others s nodes h
reads_agree consts before others s (Unary op c ∷ nodes) h = reads_agree consts before others s nodes h
reads_agree consts before others s (Binary op l r ∷ nodes) h = reads_agree consts before others s nodes h
reads_agree consts before others s (If c l r ∷ nodes) h = reads_agree consts before others s nodes h
reads_agree consts before others s (Select m i ∷ nodes) h = reads_agree consts before others s nodes h
reads_agree consts before others s (StoreNode m i v ∷ nodes) h = reads_agree consts before others s nodes h
reads_agree consts before others s (Read x sort ∷ nodes) h =
    let one = found_there (variable (env_with consts s) x) sort (and-first (is_there (variable (env_with consts s) x) sort) _ h) in
    (read_behind consts before others s x one.0 one.1, reads_agree consts before others s nodes (and-second (is_there (variable (env_with consts s) x) sort) _ h))

pub moved_value : (consts before others : List Value) (s : Store) (nodes : List ExprNode) → reads (env_with consts s) nodes ≡ true → eval (env_with consts (wide before others s)) (moved (length before) nodes) ≡ eval (env_with consts s) nodes
moved_value consts before others s nodes h =
    let kept = renaming (behind (length before)) (read (env_with consts (wide before others s))) nodes in
    kept.value ∙ only_variables (λ x. read (env_with consts (wide before others s)) (behind (length before) x)) (read (env_with consts s)) nodes (reads_agree consts before others s nodes h)

pub moved_holds : (consts before others : List Value) (s : Store) (nodes : List ExprNode) → reads (env_with consts s) nodes ≡ true → holds (env_with consts (wide before others s)) (moved (length before) nodes) ≡ holds (env_with consts s) nodes
moved_holds consts before others s nodes h = ap is_on (moved_value consts before others s nodes h)

pub moved_values : (consts before others : List Value) (s : Store) (es : List (List ExprNode)) → list_all (reads (env_with consts s)) es ≡ true → map (eval (env_with consts (wide before others s))) (map (moved (length before)) es) ≡ map (eval (env_with consts s)) es
moved_values consts before others s [] h = refl
moved_values consts before others s (e ∷ es) h =
    ap (λ v. v ∷ map (eval (env_with consts (wide before others s))) (map (moved (length before)) es)) (moved_value consts before others s e (and-first (reads (env_with consts s) e) _ h))
    ∙ ap (λ vs. eval (env_with consts s) e ∷ vs) (moved_values consts before others s es (and-second (reads (env_with consts s) e) _ h))

pub moved_pairs_values : (consts before others : List Value) (s : Store) (pairs : List (Var × List ExprNode)) → list_all (λ (p : Var × List ExprNode). reads (env_with consts s) p.1) pairs ≡ true →
    map (λ (p : Var × List ExprNode). eval (env_with consts (wide before others s)) p.1) (map (moved_pair (length before)) pairs) ≡ map (λ (p : Var × List ExprNode). eval (env_with consts s) p.1) pairs
moved_pairs_values consts before others s [] h = refl
moved_pairs_values consts before others s (p ∷ ps) h =
    ap (λ v. v ∷ map (λ (p : Var × List ExprNode). eval (env_with consts (wide before others s)) p.1) (map (moved_pair (length before)) ps)) (moved_value consts before others s p.1 (and-first (reads (env_with consts s) p.1) _ h))
    ∙ ap (λ vs. eval (env_with consts s) p.1 ∷ vs) (moved_pairs_values consts before others s ps (and-second (reads (env_with consts s) p.1) _ h))

pub moved_targets : (by : ℕ) (pairs : List (Var × List ExprNode)) → map (λ (p : Var × List ExprNode). p.0) (map (moved_pair by) pairs) ≡ map (behind by) (map (λ (p : Var × List ExprNode). p.0) pairs)
moved_targets by [] = refl
moved_targets by (p ∷ ps) = ap (λ xs. behind by p.0 ∷ xs) (moved_targets by ps)

-- ---- variables that are written

abbrev pub AreWithin : ℕ → List Var → Type 0
AreWithin n [] = Unit {0}
AreWithin n (x ∷ xs) = IsWithin n x × AreWithin n xs

moved_write : (before others : List Value) (s : Store) (x : Var) (v : Value) → IsWithin (length s.locals) x → write (wide before others s) (behind (length before) x) v ≡ wide before others (write s x v)
moved_write before others s (Const k) v h = refl
moved_write before others s (Global k) v h = refl
moved_write before others s (Local k) v h =
    ap (λ (ls : List Value). record { globals = s.globals; locals = ls }) (set_right before (s.locals ++ others) k v ∙ ap (λ ls. before ++ ls) (set_left s.locals others k v h))

write_length : (s : Store) (x : Var) (v : Value) → length (write s x v).locals ≡ length s.locals
write_length s (Const k) v = refl
write_length s (Global k) v = refl
write_length s (Local k) v = set_length s.locals k v

pub moved_writes : (before others : List Value) (n : ℕ) (xs : List Var) (s : Store) (vs : List Value) → length s.locals ≡ n → AreWithin n xs → write_all (wide before others s) (map (behind (length before)) xs) vs ≡ wide before others (write_all s xs vs)
moved_writes before others n [] s vs len h = refl
moved_writes before others n (x ∷ xs) s [] len h = refl
moved_writes before others n (x ∷ xs) s (v ∷ vs) len h =
    ap (λ (t : Store). write_all t (map (behind (length before)) xs) vs) (moved_write before others s x v (subst (λ k. IsWithin k x) (sym len) h.0))
    ∙ moved_writes before others n xs (write s x v) vs (write_length s x v ∙ len) h.1

-- ---- targets

same_some : (o : Option Sort) → are_same o o ≡ true → (s : Sort) × (o ≡ Some s)
same_some None h = cc
same_some (Some s) h = (s, refl)

pub havoc_within : (old : Scope) (by : ℕ) (xs : List Var) → list_all (is_target old) xs ≡ true → (new : Scope) → IsMoved by old new → AreWithin (length old.locals) xs
havoc_within old by [] h new m = tt
havoc_within old by (x ∷ xs) h new m =
    let one = same_some (sort_of_target old x) (and-first (is_target old x) _ h) in
    ((moved_target by old new x one.0 m one.1).1, havoc_within old by xs (and-second (is_target old x) _ h) new m)

widen_if : (before others : List Value) (b : Bool) (s : State) → (if b then Some (widen before others s) else None) ≡ option_map (widen before others) (if b then Some s else None)
widen_if before others true s = refl
widen_if before others false s = refl

moved_havoc_one : (before others : List Value) (old new : Scope) (x : Var) (s : State) (values : List Value) → IsMoved (length before) old new → is_target old x ≡ true → length s.store.locals ≡ length old.locals →
    havoc_one new (behind (length before) x) (widen before others s) values ≡ option_map (widen before others) (havoc_one old x s values)
moved_havoc_one before others old new x s [] m h len = refl
moved_havoc_one before others old new x s (v ∷ vs) m h len =
    let one = same_some (sort_of_target old x) h in
    let two = moved_target (length before) old new x one.0 m one.1 in
    let sorts : sort_of_target new (behind (length before) x) ≡ sort_of_target old x = two.0 ∙ sym one.1 in
    ap (λ (o : Option Sort). if is_value_of o v then Some (record s { store = write (wide before others s.store) (behind (length before) x) v; values = vs }) else None) sorts
    ∙ ap (λ (t : Store). if is_value_of (sort_of_target old x) v then Some (record s { store = t; values = vs }) else None) (moved_write before others s.store x v (subst (λ k. IsWithin k x) (sym len) two.1))
    ∙ widen_if before others (is_value_of (sort_of_target old x) v) (record s { store = write s.store x v; values = vs })

havoc_one_length : (scope : Scope) (x : Var) (s t : State) (values : List Value) → havoc_one scope x s values ≡ Some t → length t.store.locals ≡ length s.store.locals
havoc_one_length scope x s t [] e = absurd cc
havoc_one_length scope x s t (v ∷ vs) e = at (is_value_of (sort_of_target scope x) v) e
  where
    at : (b : Bool) → (if b then Some (record s { store = write s.store x v; values = vs }) else None) ≡ Some t → length t.store.locals ≡ length s.store.locals
    at true k = let same : ◌≡◌ {A = State} (record s { store = write s.store x v; values = vs }) t = cc in ap (λ (u : State). length u.store.locals) (sym same) ∙ write_length s.store x v
    at false k = absurd cc

moved_then : (before others : List Value) (f g : State → Option State) (o : Option State) → ((t : State) → o ≡ Some t → g (widen before others t) ≡ option_map (widen before others) (f t)) →
    option_and_then g (option_map (widen before others) o) ≡ option_map (widen before others) (option_and_then f o)
moved_then before others f g None h = refl
moved_then before others f g (Some t) h = h t refl

pub moved_havoc : (before others : List Value) (old new : Scope) (xs : List Var) (s : State) → IsMoved (length before) old new → list_all (is_target old) xs ≡ true → length s.store.locals ≡ length old.locals →
    havoc new (map (behind (length before)) xs) (widen before others s) ≡ option_map (widen before others) (havoc old xs s)
moved_havoc before others old new [] s m h len = refl
moved_havoc before others old new (x ∷ xs) s m h len =
    ap (option_and_then (havoc new (map (behind (length before)) xs))) (moved_havoc_one before others old new x s s.values m (and-first (is_target old x) _ h) len)
    ∙ moved_then before others (havoc old xs) (havoc new (map (behind (length before)) xs)) (havoc_one old x s s.values)
    (λ t e. moved_havoc before others old new xs t m (and-second (is_target old x) _ h) (havoc_one_length old x s t s.values e ∙ len))
