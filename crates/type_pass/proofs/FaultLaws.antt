-- The order of faults.
use Rattle.std.proofs.Common.{◌≡◌, ℕ, ◌+◌, ◌*◌, ◌≤◌, Bool, true, false, List, [], ◌∷◌, ◌++◌, Option, Some, None, refl, sym, ◌∙◌, ap, arith}
use Rattle.std.proofs.lemmas.Bool.Decides.{nat_tests}
use Rattle.std.specs.Prelude.{nat_eq, nat_lt, ◌&&◌, ◌||◌, if◌then◌else◌}
use Rattle.type_pass.specs.declared.fault.TypeFault.{TypeFault}
use Rattle.type_pass.specs.declared.fault.TypeKind.{TypeKind}
use Rattle.type_pass.specs.declared.fault.TypeKind.TheVariants.{Unknown, Twice, Mismatch, Arity, Width, Cyclic, NotAssignable, Large, LeftOut}
use Rattle.type_pass.specs.Faults.{rank, is_before, sooner, earlier, first}

rank-small : (k : TypeKind) → rank k ≤ 8
rank-small Unknown = omega arith
rank-small Arity = omega arith
rank-small Mismatch = omega arith
rank-small Width = omega arith
rank-small NotAssignable = omega arith
rank-small Twice = omega arith
rank-small (LeftOut what) = omega arith
rank-small Cyclic = omega arith
rank-small Large = omega arith

-- places and kinds as one number
abbrev key : TypeFault → ℕ
key f = 9 * f.at + rank f.kind

before-numbers : (a b r s : ℕ) → r ≤ 8 → s ≤ 8 → (nat_lt a b || (nat_eq a b && nat_lt r s)) ≡ nat_lt (9 * a + r) (9 * b + s)
before-numbers a b r s hr hs = grind (arith, nat_tests)

before-is : (f g : TypeFault) → is_before f g ≡ nat_lt (key f) (key g)
before-is f g = before-numbers f.at g.at (rank f.kind) (rank g.kind) (rank-small f.kind) (rank-small g.kind)

-- the least of three, by numbers
abbrev least : ℕ → ℕ → TypeFault → TypeFault → TypeFault
least a b f g = if nat_lt b a then g else f

sooner-some : (f g : TypeFault) → sooner f (Some g) ≡ (if nat_lt (key g) (key f) then g else f)
sooner-some f g = ap (λ b. if b then g else f) (before-is g f)

three-ways : (f g h : TypeFault) (a b c : ℕ) →
    (if nat_lt c b then (if nat_lt c a then h else f) else (if nat_lt b a then g else f))
    ≡ (if nat_lt b a then (if nat_lt c b then h else g) else (if nat_lt c a then h else f))
three-ways f g h a b c = grind (arith, nat_tests)

if-sooner : (b : Bool) (f g h : TypeFault) → sooner f (Some (if b then g else h)) ≡ (if b then sooner f (Some g) else sooner f (Some h))
if-sooner true f g h = refl
if-sooner false f g h = refl

if-then-sooner : (b : Bool) (f g h : TypeFault) → sooner (if b then f else g) (Some h) ≡ (if b then sooner f (Some h) else sooner g (Some h))
if-then-sooner true f g h = refl
if-then-sooner false f g h = refl

sooner-three : (f g h : TypeFault) → sooner f (Some (sooner g (Some h))) ≡ sooner (sooner f (Some g)) (Some h)
sooner-three f g h =
    ap (λ v. sooner f (Some v)) (sooner-some g h) ∙ if-sooner (nat_lt (key h) (key g)) f h g
    ∙ ap (λ v. if nat_lt (key h) (key g) then v else sooner f (Some g)) (sooner-some f h)
    ∙ ap (λ v. if nat_lt (key h) (key g) then (if nat_lt (key h) (key f) then h else f) else v) (sooner-some f g)
    ∙ three-ways f g h (key f) (key g) (key h)
    ∙ ap (λ v. if nat_lt (key g) (key f) then v else (if nat_lt (key h) (key f) then h else f)) (sym (sooner-some g h))
    ∙ ap (λ v. if nat_lt (key g) (key f) then sooner g (Some h) else v) (sym (sooner-some f h))
    ∙ sym (if-then-sooner (nat_lt (key g) (key f)) g f h)
    ∙ ap (λ v. sooner v (Some h)) (sym (sooner-some f g))

sooner-earlier : (f : TypeFault) (o p : Option TypeFault) → sooner f (earlier o p) ≡ sooner (sooner f o) p
sooner-earlier f None p = refl
sooner-earlier f (Some g) None = refl
sooner-earlier f (Some g) (Some h) = sooner-three f g h

-- the first of two lists of faults
pub first-append : (xs ys : List TypeFault) → first (xs ++ ys) ≡ earlier (first xs) (first ys)
first-append [] ys = refl
first-append (f ∷ fs) ys = ap Some (ap (sooner f) (first-append fs ys) ∙ sooner-earlier f (first fs) (first ys))

pub earlier-assoc : (o p q : Option TypeFault) → earlier (earlier o p) q ≡ earlier o (earlier p q)
earlier-assoc None p q = refl
earlier-assoc (Some f) p q = ap Some (sym (sooner-earlier f p q))

pub earlier-none : (o : Option TypeFault) → earlier o None ≡ o
earlier-none None = refl
earlier-none (Some f) = refl
