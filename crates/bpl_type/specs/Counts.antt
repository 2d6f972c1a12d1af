-- Numbers of nodes, counted for all sizes of the arguments at once, up to a bound.
use Rattle.std.specs.Prelude.{◌≡◌, ℕ, ◌+◌, ◌*◌, ◌≤◌, ◌⊎◌, Bool, true, false, List, [], ◌∷◌, slice_get, Option, None, Some}
use Rattle.hy_val.specs.declared.expr.Var.{Var}
use Rattle.hy_val.specs.declared.expr.Var.TheVariants.{Const, Global, Local}
use Rattle.type_pass.specs.Terms.{Term, lit, read, unary, binary, implied, choice, select, store}

abbrev pub weigh_read : (ℕ → ℕ) → Var → ℕ
weigh_read v (Const n) = 1
weigh_read v (Global n) = 1
weigh_read v (Local n) = v n

-- the number of nodes, where a read of a local counts as many as are given for it
abbrev pub weigh : (ℕ → ℕ) → Term → ℕ
weigh v (lit a) = 1
weigh v (read x sort) = weigh_read v x
weigh v (unary op a) = weigh v a + 1
weigh v (binary op a b) = weigh v a + weigh v b + 1
weigh v (implied a b) = weigh v a + weigh v b + 1
weigh v (choice c a b) = weigh v c + weigh v a + weigh v b + 1
weigh v (select m i) = weigh v m + weigh v i + 1
weigh v (store m i x) = weigh v m + weigh v i + weigh v x + 1

abbrev pub weigh_if : (ℕ → ℕ) → ℕ → Option Term → ℕ
weigh_if v n None = v n
weigh_if v n (Some a) = weigh v a

-- the number for an argument, which stays a local where it isn't there
abbrev pub weigh_argument : (ℕ → ℕ) → List Term → ℕ → ℕ
weigh_argument v arguments n = weigh_if v n (slice_get arguments n)

-- two numbers are the same, or both reach the bound
abbrev pub Alike : ℕ → ℕ → ℕ → Type 0
Alike most a b = (a ≡ b) ⊎ ((most ≤ a) × (most ≤ b))

-- the sum of the slopes, from one local on, times the numbers of the locals
abbrev pub sloped : List ℕ → ℕ → (ℕ → ℕ) → ℕ
sloped [] i v = 0
sloped (m ∷ ms) i v = m * v i + sloped ms (i + 1) v

-- an affine function of the numbers of the locals
abbrev pub affine_at : ℕ → List ℕ → (ℕ → ℕ) → ℕ
affine_at base slopes v = base + sloped slopes 0 v

-- in a whole expression each local is one node
abbrev pub Valued : Bool → (ℕ → ℕ) → Type 0
Valued true v = (n : ℕ) → v n ≡ 1
Valued false v = Unit {0}

-- so many times a number is added to an affine function
abbrev pub Counted : ℕ → Bool → ℕ → List ℕ → ℕ → List ℕ → ℕ → ((ℕ → ℕ) → ℕ) → Type 0
Counted most whole base slopes base' slopes' weight f = (v : ℕ → ℕ) → Valued whole v → Alike most (affine_at base' slopes' v) (affine_at base slopes v + weight * f v)
