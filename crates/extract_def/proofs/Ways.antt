-- Where an edge leads, seen from a scope: a block of the scope, a loop inside it, the head of its own loop, or outside.
use Rattle.std.proofs.Common.{◌≡◌, ℕ, Bool, true, false, ◌&&◌, if◌then◌else◌, List, [], ◌∷◌, arith, ap, refl}
use Rattle.std.proofs.lemmas.Bool.{eqb-true}
use Rattle.std.proofs.lemmas.Bool.Decides.{nat_tests}
use Rattle.std.specs.Prelude.{nat_eq, nat_lt, not}
use Rattle.src_prog.specs.Loops.{holds_block}
use Rattle.src_prog.specs.declared.proc.SrcLoop.{SrcLoop}
use Rattle.src_run.specs.Machine.{Way, Again, Enter, Stay, Out, entry_of}
use Rattle.extract_def.specs.Exits.{At, leaves}
use Rattle.extract_def.specs.Places.{loop_in}
use Rattle.extract_def.specs.Scopes.{In, way_from}

pub data IsEntry : Way → Type 0 where
  enters : (exit : ℕ) → IsEntry (Enter exit)
  stays : IsEntry Stay

entry_if : (b : Bool) (exit : ℕ) (y : Way) → IsEntry y → IsEntry (if b then Enter exit else y)
entry_if true exit y e = enters exit
entry_if false exit y e = e

pub is_entry : (ls : List SrcLoop) (to : ℕ) → IsEntry (entry_of ls to)
is_entry [] to = stays
is_entry (l ∷ ls) to = entry_if (nat_eq l.head to) l.exit (entry_of ls to) (is_entry ls to)

not_again : (y : Way) → IsEntry y → y ≡ Again → ⊥
not_again (Enter exit) e h = cc
not_again Stay e h = cc
not_again Again e h = elim e [ ]
not_again Out e h = elim e [ ]

again_if : (a b : Bool) (head to : ℕ) (y : Way) → IsEntry y → nat_eq head to ≡ a → (if a then Again else if b then y else Out) ≡ Again → head ≡ to
again_if true b head to y n e h = eqb-true head to e
again_if false true head to y n e h = absurd (not_again y n h)
again_if false false head to y n e h = absurd cc

pub way_again : (ls : List SrcLoop) (head exit to : ℕ) → way_from ls (In head exit) to ≡ Again → head ≡ to
way_again ls head exit to h = again_if (nat_eq head to) (nat_lt head to && nat_lt to exit) head to (entry_of ls to) (is_entry ls to) refl h

out_if : (a b : Bool) (y : Way) → IsEntry y → (if a then Again else if b then y else Out) ≡ Out → (a ≡ false) × (b ≡ false)
out_if true b y n h = absurd cc
out_if false true y (enters exit) h = absurd cc
out_if false true y stays h = absurd cc
out_if false false y n h = (refl, refl)

-- an edge out of the loop leaves it
outside : (head exit to : ℕ) (a b c : Bool) → nat_eq head to ≡ a → nat_lt head to ≡ b → nat_lt to exit ≡ c → a ≡ false → (b && c) ≡ false → holds_block (loop_in head exit) to ≡ false
outside head exit to a b c e f g h k = grind (arith, nat_tests)

pub way_out : (ls : List SrcLoop) (head exit to : ℕ) → way_from ls (In head exit) to ≡ Out → leaves (loop_in head exit) (At to) ≡ true
way_out ls head exit to h =
    let o = out_if (nat_eq head to) (nat_lt head to && nat_lt to exit) (entry_of ls to) (is_entry ls to) h in
    ap not (outside head exit to (nat_eq head to) (nat_lt head to) (nat_lt to exit) refl refl refl o.0 o.1)
