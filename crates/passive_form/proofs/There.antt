-- What stands in an order is there.
use Rattle.std.proofs.Common.{◌≡◌, ℕ, zero, suc, ◌<◌, nat_eq, Bool, true, false, ◌&&◌, ◌||◌, List, [], ◌∷◌, length, arith, refl, ap}
use Rattle.std.specs.Prelude.{Some, slice_get, is_some}
use Rattle.std.proofs.lemmas.Bool.{eq-eqb}
use Rattle.hy_val.proofs.Booleans.{and-both}
use Rattle.hy_val.specs.declared.expr.Var.{Var}
use Rattle.flat_prog.specs.declared.block.FlatCmd.{FlatCmd}
use Rattle.flat_prog.specs.declared.block.FlatCmd.TheVariants.{Assign, Havoc, Assume, Assert, Call}
use Rattle.flat_prog.specs.declared.block.FlatBlock.{FlatBlock}
use Rattle.flat_prog.specs.declared.proc.FlatProc.{FlatProc}
use Rattle.passive_form.specs.Limited.{Limited}
use Rattle.flat_prog.specs.Ordering.{is_in}
use Rattle.passive_form.specs.WellSorted.{NamesSorted, CmdSorted, CmdsSorted, ProcSorted}
use Rattle.passive_form.specs.Laws.{targets_there, cmd_there, cmds_there, AllThere, OrderedAreThere}

names_there : (flat : Limited) (q : FlatProc) (xs : List Var) → NamesSorted flat q xs → targets_there flat q xs ≡ true
names_there flat q [] h = refl
names_there flat q (x ∷ xs) (a, h) = and-both _ (targets_there flat q xs) (ap is_some a.1) (names_there flat q xs h)

cmd_is_there : (flat : Limited) (q : FlatProc) (c : FlatCmd) → CmdSorted flat q c → cmd_there flat q c ≡ true
cmd_is_there flat q (Assign pairs) h = refl
cmd_is_there flat q (Havoc xs) h = names_there flat q xs h
cmd_is_there flat q (Assume e) h = refl
cmd_is_there flat q (Assert p n e) h = refl
cmd_is_there flat q (Call p args outs) h = refl

cmds_are_there : (flat : Limited) (q : FlatProc) (cs : List FlatCmd) → CmdsSorted flat q cs → cmds_there flat q cs ≡ true
cmds_are_there flat q [] h = refl
cmds_are_there flat q (c ∷ cs) (a, h) = and-both (cmd_there flat q c) (cmds_there flat q cs) (cmd_is_there flat q c a) (cmds_are_there flat q cs h)

block_at : (bs : List FlatBlock) (n : ℕ) → n < length bs → (b : FlatBlock) × (slice_get bs n ≡ Some b)
block_at [] n l = absurd (omega (arith, l))
block_at (b ∷ bs) zero l = (b, refl)
block_at (b ∷ bs) (suc n) l = block_at bs n (omega (arith, l))

or_r : (a b : Bool) → b ≡ true → (a || b) ≡ true
or_r true b h = refl
or_r false b h = h

or_l : (a b : Bool) → a ≡ true → (a || b) ≡ true
or_l true b h = refl
or_l false b h = cc

all_there : (flat : Limited) (q : FlatProc) (ns : List ℕ) → ProcSorted flat q → ((n : ℕ) → is_in n ns ≡ true → n < length q.blocks) → AllThere flat q ns
all_there flat q [] s h = tt
all_there flat q (n ∷ ns) s h =
    let b = block_at q.blocks n (h n (or_l (nat_eq n n) (is_in n ns) (eq-eqb n n refl))) in
    ((b.0, b.1, cmds_are_there flat q b.0.cmds (s.blocks n b.0 b.1).0), all_there flat q ns s (λ m i. h m (or_r (nat_eq m n) (is_in m ns) i)))

pub ordered_are_there : OrderedAreThere
ordered_are_there = λ flat q order s some o. (o.every 0 some, all_there flat q order s o.there)
