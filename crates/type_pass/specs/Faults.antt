-- Faults, and which of several comes first.
use Rattle.std.specs.Prelude.{ℕ, Bool, ◌&&◌, ◌||◌, nat_eq, nat_lt, List, [], ◌∷◌, Option, None, Some, if◌then◌else◌}
use Rattle.type_pass.specs.declared.fault.TypeFault.{TypeFault}
use Rattle.type_pass.specs.declared.fault.TypeKind.{TypeKind}
use Rattle.type_pass.specs.declared.fault.TypeKind.TheVariants.{Unknown, Twice, Mismatch, Arity, Width, Cyclic, NotAssignable, Large, LeftOut}

abbrev pub fault : ℕ → TypeKind → TypeFault
fault at kind = record { at = at; kind = kind }

-- the fault where the test holds, else none
abbrev pub told : Bool → ℕ → TypeKind → List TypeFault
told holds at kind = if holds then fault at kind ∷ [] else []

-- the order of the kinds at one place
abbrev pub rank : TypeKind → ℕ
rank Unknown = 0
rank Arity = 1
rank Mismatch = 2
rank Width = 3
rank NotAssignable = 4
rank Twice = 5
rank (LeftOut what) = 6
rank Cyclic = 7
rank Large = 8

-- the place is earlier, or the same and the kind comes before
abbrev pub is_before : TypeFault → TypeFault → Bool
is_before f g = nat_lt f.at g.at || (nat_eq f.at g.at && nat_lt (rank f.kind) (rank g.kind))

-- a fault, or another one that is there and comes before it
abbrev pub sooner : TypeFault → Option TypeFault → TypeFault
sooner f None = f
sooner f (Some g) = if is_before g f then g else f

-- the one that comes first of two faults that may be there
abbrev pub earlier : Option TypeFault → Option TypeFault → Option TypeFault
earlier None g = g
earlier (Some f) g = Some (sooner f g)

-- the fault that comes first; of two with one place and one kind, the one that is listed first
abbrev pub first : List TypeFault → Option TypeFault
first [] = None
first (f ∷ fs) = Some (sooner f (first fs))
