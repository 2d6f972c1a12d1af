-- The sites of a procedure have its callees' sorts.
use Rattle.std.proofs.Common.{◌≡◌, ℕ, ◌+◌, Bool, List, [], ◌∷◌, ◌++◌, length, sym, refl, subst}
use Rattle.hy_val.specs.declared.sort.Sort.{Sort}
use Rattle.hy_val.specs.declared.expr.Var.{Var}
use Rattle.hy_val.specs.declared.expr.ExprNode.{ExprNode}
use Rattle.hy_term.specs.declared.node.TermNode.{TermNode}
use Rattle.flat_prog.specs.declared.block.FlatCmd.{FlatCmd}
use Rattle.flat_prog.specs.declared.block.FlatCmd.TheVariants.{Assign, Havoc, Assume, Assert, Call}
use Rattle.flat_prog.specs.declared.proc.FlatKind.{FlatKind}
use Rattle.flat_prog.specs.declared.proc.FlatKind.TheVariants.{Source, Loop}
use Rattle.flat_prog.specs.declared.proc.FlatProc.{FlatProc}
use Rattle.passive_form.specs.Limited.{Limited}
use Rattle.passive_form.specs.Local.{changed_sorts}
use Rattle.flat_prog.specs.Shape.{exit_sort}
use Rattle.passive_form.specs.declared.Item.{Item}
use Rattle.passive_form.specs.declared.Item.TheVariants.{Let, Zero, Free, Need, Check, Site}
use Rattle.passive_form.specs.Versions.{Cur}
use Rattle.passive_form.specs.Making.{lets, frees, callee_outs, callee_changes, items_of, cur_after, next_after, items_all, free_items, zero_items, passive_start}
use Rattle.vc_gen.specs.declared.parts.SiteTerm.{SiteTerm}
use Rattle.vc_gen.specs.Standing.{Later}
use Rattle.vc_gen.specs.Emit.{SiteIs, SitesOf}
use Rattle.vc_gen.specs.Signed.{SiteSigned, SitesSigned}
use Rattle.vc_gen.proofs.Growth.{are_later}

-- the call items are those of the program
abbrev ItemsOf : Limited → List Item → Type 0
ItemsOf flat [] = Unit {0}
ItemsOf flat (Let v e ∷ items) = ItemsOf flat items
ItemsOf flat (Zero v s ∷ items) = ItemsOf flat items
ItemsOf flat (Free v s ∷ items) = ItemsOf flat items
ItemsOf flat (Need e ∷ items) = ItemsOf flat items
ItemsOf flat (Check p e ∷ items) = ItemsOf flat items
ItemsOf flat (Site p f args before outs changes after ∷ items) = ((outs ≡ callee_outs flat p) × (changes ≡ callee_changes flat p) × (after ≡ changed_sorts flat p)) × ItemsOf flat items

both : (flat : Limited) (xs ys : List Item) → ItemsOf flat xs → ItemsOf flat ys → ItemsOf flat (xs ++ ys)
both flat [] ys h k = k
both flat (Let v e ∷ xs) ys h k = both flat xs ys h k
both flat (Zero v s ∷ xs) ys h k = both flat xs ys h k
both flat (Free v s ∷ xs) ys h k = both flat xs ys h k
both flat (Need e ∷ xs) ys h k = both flat xs ys h k
both flat (Check p e ∷ xs) ys h k = both flat xs ys h k
both flat (Site p f args before outs changes after ∷ xs) ys (h, hs) k = (h, both flat xs ys hs k)

lets_of : (flat : Limited) (cur : Cur) (k : ℕ) (pairs : List (Var × List ExprNode)) → ItemsOf flat (lets cur k pairs)
lets_of flat cur k [] = tt
lets_of flat cur k (pair ∷ pairs) = lets_of flat cur (k + 1) pairs

frees_of : (flat : Limited) (q : FlatProc) (k : ℕ) (xs : List Var) → ItemsOf flat (frees flat q k xs)
frees_of flat q k [] = tt
frees_of flat q k (x ∷ xs) = frees_of flat q (k + 1) xs

cmd_of : (flat : Limited) (q : FlatProc) (cur : Cur) (at k : ℕ) (c : FlatCmd) → ItemsOf flat (items_of flat q cur at k c)
cmd_of flat q cur at k (Assign pairs) = lets_of flat cur k pairs
cmd_of flat q cur at k (Havoc xs) = frees_of flat q k xs
cmd_of flat q cur at k (Assume e) = tt
cmd_of flat q cur at k (Assert p n e) = tt
cmd_of flat q cur at k (Call p args outs) = ((refl, refl, refl), tt)

cmds_of : (flat : Limited) (q : FlatProc) (cur : Cur) (at k : ℕ) (cmds : List FlatCmd) → ItemsOf flat (items_all flat q cur at k cmds)
cmds_of flat q cur at k [] = tt
cmds_of flat q cur at k (c ∷ cs) =
    both flat (items_of flat q cur at k c) (items_all flat q (cur_after flat cur k c) (at + 1) (next_after flat k c) cs) (cmd_of flat q cur at k c) (cmds_of flat q (cur_after flat cur k c) (at + 1) (next_after flat k c) cs)

free_of : (flat : Limited) (k : ℕ) (ss : List Sort) → ItemsOf flat (free_items k ss)
free_of flat k [] = tt
free_of flat k (s ∷ ss) = free_of flat (k + 1) ss

zero_of : (flat : Limited) (k : ℕ) (ss : List Sort) → ItemsOf flat (zero_items k ss)
zero_of flat k [] = tt
zero_of flat k (s ∷ ss) = zero_of flat (k + 1) ss

start_of : (flat : Limited) (q : FlatProc) (kind : FlatKind) → ItemsOf flat (passive_start flat q kind).items
start_of flat q (Source p) = free_of flat (length flat.globals + length q.ins) (q.outs ++ q.locals)
start_of flat q (Loop p head) = zero_of flat (length flat.globals + length q.ins) (exit_sort ∷ q.locals)

signed : (flat : Limited) (nodes : List TermNode) (items : List Item) (ts : List SiteTerm) → ItemsOf flat items → SitesOf nodes items ts → SitesSigned flat nodes ts
signed flat nodes [] [] i h = tt
signed flat nodes [] (t ∷ ts) i h = absurd h
signed flat nodes (Let v e ∷ items) ts i h = signed flat nodes items ts i h
signed flat nodes (Zero v s ∷ items) ts i h = signed flat nodes items ts i h
signed flat nodes (Free v s ∷ items) ts i h = signed flat nodes items ts i h
signed flat nodes (Need e ∷ items) ts i h = signed flat nodes items ts i h
signed flat nodes (Check p e ∷ items) ts i h = signed flat nodes items ts i h
signed flat nodes (Site p f args before outs changes after ∷ items) [] i h = absurd h
signed flat nodes (Site p f args before outs changes after ∷ items) (t ∷ ts) ((o, c, a), i) (h, hs) = (by t o c a h, signed flat nodes items ts i hs)
  where
    by : (t : SiteTerm) → outs ≡ callee_outs flat p → changes ≡ callee_changes flat p → after ≡ changed_sorts flat p → SiteIs nodes p outs changes after t → SiteSigned flat nodes t
    by t o c a h =
        subst (λ (n : ℕ). SiteIs nodes n (callee_outs flat n) (callee_changes flat n) (changed_sorts flat n) t) (sym h.proc_is)
        (subst (λ (x : List Sort). SiteIs nodes p (callee_outs flat p) (callee_changes flat p) x t) a
        (subst (λ (x : List Bool). SiteIs nodes p (callee_outs flat p) x after t) c (subst (λ (x : List Sort). SiteIs nodes p x changes after t) o h)))

pub cmds_signed : (flat : Limited) (q : FlatProc) (cur : Cur) (at k : ℕ) (cmds : List FlatCmd) (nodes : List TermNode) (ts : List SiteTerm) → SitesOf nodes (items_all flat q cur at k cmds) ts → SitesSigned flat nodes ts
cmds_signed flat q cur at k cmds nodes ts h = signed flat nodes (items_all flat q cur at k cmds) ts (cmds_of flat q cur at k cmds) h

pub start_signed : (flat : Limited) (q : FlatProc) (kind : FlatKind) (nodes : List TermNode) (ts : List SiteTerm) → SitesOf nodes (passive_start flat q kind).items ts → SitesSigned flat nodes ts
start_signed flat q kind nodes ts h = signed flat nodes (passive_start flat q kind).items ts (start_of flat q kind) h

pub signed_later : (flat : Limited) (x y : List TermNode) (ts : List SiteTerm) → Later x y → SitesSigned flat x ts → SitesSigned flat y ts
signed_later flat x y [] h k = tt
signed_later flat x y (t ∷ ts) h (k, ks) =
    (record { proc_is = k.proc_is; outs_are = are_later x y t.outs (callee_outs flat t.proc) h k.outs_are; changed_are = are_later x y t.changed (changed_sorts flat t.proc) h k.changed_are; after_is = k.after_is }, signed_later flat x y ts h ks)

pub signed_both : (flat : Limited) (x : List TermNode) (ss ts : List SiteTerm) → SitesSigned flat x ss → SitesSigned flat x ts → SitesSigned flat x (ss ++ ts)
signed_both flat x [] ts h k = k
signed_both flat x (s ∷ ss) ts (h, hs) k = (h, signed_both flat x ss ts hs k)
