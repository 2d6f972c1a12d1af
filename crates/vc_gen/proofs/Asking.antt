-- What the sites of a procedure are asked for has its sorts: arguments those of the callee's ins, and all globals.
use Rattle.std.proofs.Common.{◌≡◌, ℕ, ◌+◌, List, [], ◌∷◌, ◌++◌, map, length, sym, ◌∙◌, ap, refl, subst, append-nil, append_assoc, length-append}
use Rattle.hy_val.specs.Building.{whole_sort}
use Rattle.hy_val.specs.declared.sort.Sort.{Sort}
use Rattle.hy_val.specs.declared.expr.Var.{Var}
use Rattle.hy_val.specs.declared.expr.ExprNode.{ExprNode}
use Rattle.hy_term.specs.declared.node.TermNode.{TermNode}
use Rattle.flat_prog.specs.Program.{variables_of}
use Rattle.flat_prog.specs.declared.block.FlatCmd.{FlatCmd}
use Rattle.flat_prog.specs.declared.block.FlatCmd.TheVariants.{Assign, Havoc, Assume, Assert, Call}
use Rattle.flat_prog.specs.declared.proc.FlatProc.{FlatProc}
use Rattle.passive_form.specs.Limited.{Limited}
use Rattle.passive_form.specs.Making.{over_versions, lets, sort_or, frees, items_of, cur_after, next_after, items_all, entry_cur, entry_count}
use Rattle.passive_form.specs.Versions.{Cur}
use Rattle.passive_form.specs.WellSorted.{ArgsHave, SortsGood, CmdSorted, CmdsSorted, callee_ins}
use Rattle.passive_form.specs.declared.Item.{Item}
use Rattle.passive_form.specs.declared.Item.TheVariants.{Let, Zero, Free, Need, Check, Site}
use Rattle.vc_gen.specs.Emit.{SiteAsks, SitesAsk}
use Rattle.vc_gen.specs.Fitting.{SortsAre}
use Rattle.vc_gen.specs.Items.{made_by, made, sorts_of_all}
use Rattle.vc_gen.specs.Signed.{SiteAsked, SitesAsked}
use Rattle.passive_form.specs.Local.{sort_of}
use Rattle.vc_gen.specs.Standing.{Later, AreOf}
use Rattle.vc_gen.specs.declared.parts.SiteTerm.{SiteTerm}
use Rattle.vc_gen.proofs.Fitness.{CurFits, cmd_fine, entry_fits, whole_same}
use Rattle.vc_gen.proofs.Growth.{are_later}

-- ---- items

-- a call's arguments have the sorts of its callee's ins, and the versions before it those of all globals
abbrev ItemRight : Limited → List Sort → Item → Type 0
ItemRight flat vsorts (Let v e) = Unit {0}
ItemRight flat vsorts (Zero v s) = Unit {0}
ItemRight flat vsorts (Free v s) = Unit {0}
ItemRight flat vsorts (Need e) = Unit {0}
ItemRight flat vsorts (Check p e) = Unit {0}
ItemRight flat vsorts (Site p f args before outs changes after) = (sorts_of_all args ≡ callee_ins flat p) × SortsAre vsorts before flat.globals

abbrev ItemsRight : Limited → List Sort → List Item → Type 0
ItemsRight flat vsorts [] = Unit {0}
ItemsRight flat vsorts (i ∷ items) = ItemRight flat vsorts i × ItemsRight flat (vsorts ++ made_by i) items

right_both : (flat : Limited) (vsorts : List Sort) (xs ys : List Item) → ItemsRight flat vsorts xs → ItemsRight flat (vsorts ++ made xs) ys → ItemsRight flat vsorts (xs ++ ys)
right_both flat vsorts [] ys h k = subst (λ (ss : List Sort). ItemsRight flat ss ys) (append-nil vsorts) k
right_both flat vsorts (x ∷ xs) ys (h, hs) k = (h, right_both flat (vsorts ++ made_by x) xs ys hs (subst (λ (ss : List Sort). ItemsRight flat ss ys) (sym (append_assoc vsorts (made_by x) (made xs))) k))

lets_right : (flat : Limited) (vsorts : List Sort) (cur : Cur) (k : ℕ) (pairs : List (Var × List ExprNode)) → ItemsRight flat vsorts (lets cur k pairs)
lets_right flat vsorts cur k [] = tt
lets_right flat vsorts cur k (pair ∷ pairs) = (tt, lets_right flat (vsorts ++ sort_or (whole_sort (over_versions cur pair.1)) ∷ []) cur (k + 1) pairs)

frees_right : (flat : Limited) (q : FlatProc) (vsorts : List Sort) (k : ℕ) (xs : List Var) → ItemsRight flat vsorts (frees flat q k xs)
frees_right flat q vsorts k [] = tt
frees_right flat q vsorts k (x ∷ xs) = (tt, frees_right flat q (vsorts ++ made_by (Free k (sort_or (sort_of flat q x)))) (k + 1) xs)

args_right : (cur : Cur) (args : List (List ExprNode)) (ss : List Sort) → ArgsHave args ss → sorts_of_all (map (over_versions cur) args) ≡ ss
args_right cur [] [] h = refl
args_right cur [] (s ∷ ss) h = absurd h
args_right cur (e ∷ args) [] h = absurd h
args_right cur (e ∷ args) (s ∷ ss) (h, hs) = ap (λ o. sort_or o ∷ sorts_of_all (map (over_versions cur) args)) (whole_same cur e ∙ h) ∙ ap (λ r. s ∷ r) (args_right cur args ss hs)

cmd_right : (flat : Limited) (q : FlatProc) (vsorts : List Sort) (cur : Cur) (at k : ℕ) (c : FlatCmd) → CurFits flat q vsorts cur → CmdSorted flat q c → ItemsRight flat vsorts (items_of flat q cur at k c)
cmd_right flat q vsorts cur at k (Assign pairs) h p = lets_right flat vsorts cur k pairs
cmd_right flat q vsorts cur at k (Havoc xs) h p = frees_right flat q vsorts k xs
cmd_right flat q vsorts cur at k (Assume e) h p = (tt, tt)
cmd_right flat q vsorts cur at k (Assert p n e) h w = (tt, tt)
cmd_right flat q vsorts cur at k (Call p args outs) h (a, t, o, i) = ((args_right cur args (callee_ins flat p) i, h.globals), tt)

cmds_right : (flat : Limited) (q : FlatProc) (vsorts : List Sort) (cur : Cur) (at k : ℕ) (cmds : List FlatCmd) → SortsGood flat.globals → CurFits flat q vsorts cur → k ≡ length vsorts → CmdsSorted flat q cmds →
    ItemsRight flat vsorts (items_all flat q cur at k cmds)
cmds_right flat q vsorts cur at k [] g h n p = tt
cmds_right flat q vsorts cur at k (c ∷ cs) g h n (p, ps) =
    let xs = items_of flat q cur at k c in
    let r = cmd_fine flat q vsorts cur at k c g h n p in
    right_both flat vsorts xs (items_all flat q (cur_after flat cur k c) (at + 1) (next_after flat k c) cs) (cmd_right flat q vsorts cur at k c h p)
    (cmds_right flat q (vsorts ++ made xs) (cur_after flat cur k c) (at + 1) (next_after flat k c) cs g r.cur_fits r.count ps)

-- ---- sites

one_asked : (flat : Limited) (nodes : List TermNode) (vsorts : List Sort) (p : ℕ) (args : List (List ExprNode)) (before : List ℕ) (t : SiteTerm) → sorts_of_all args ≡ callee_ins flat p → SortsAre vsorts before flat.globals → SiteAsks nodes vsorts p args before t →
    SiteAsked flat nodes t
one_asked flat nodes vsorts p args before t a b h = record {
  args_are = subst (λ (n : ℕ). AreOf nodes t.args (callee_ins flat n)) (sym h.proc_is) (subst (λ (ss : List Sort). AreOf nodes t.args ss) a h.args_are);
  before_are = h.before_are flat.globals b;
}

right_asked : (flat : Limited) (nodes : List TermNode) (vsorts : List Sort) (items : List Item) (ts : List SiteTerm) → ItemsRight flat vsorts items → SitesAsk nodes vsorts items ts → SitesAsked flat nodes ts
right_asked flat nodes vsorts [] [] r h = tt
right_asked flat nodes vsorts [] (t ∷ ts) r h = absurd h
right_asked flat nodes vsorts (Let v e ∷ items) ts (r, rs) h = right_asked flat nodes (vsorts ++ made_by (Let v e)) items ts rs h
right_asked flat nodes vsorts (Zero v s ∷ items) ts (r, rs) h = right_asked flat nodes (vsorts ++ made_by (Zero v s)) items ts rs h
right_asked flat nodes vsorts (Free v s ∷ items) ts (r, rs) h = right_asked flat nodes (vsorts ++ made_by (Free v s)) items ts rs h
right_asked flat nodes vsorts (Need e ∷ items) ts (r, rs) h = right_asked flat nodes (vsorts ++ made_by (Need e)) items ts rs h
right_asked flat nodes vsorts (Check p e ∷ items) ts (r, rs) h = right_asked flat nodes (vsorts ++ made_by (Check p e)) items ts rs h
right_asked flat nodes vsorts (Site p f args before outs changes after ∷ items) [] r h = absurd h
right_asked flat nodes vsorts (Site p f args before outs changes after ∷ items) (t ∷ ts) ((a, b), rs) (h, hs) =
    (one_asked flat nodes vsorts p args before t a b h, right_asked flat nodes (vsorts ++ made_by (Site p f args before outs changes after)) items ts rs hs)

-- the sites of a block
pub block_asked : (flat : Limited) (q : FlatProc) (cmds : List FlatCmd) (nodes : List TermNode) (ts : List SiteTerm) → SortsGood flat.globals → CmdsSorted flat q cmds →
    SitesAsk nodes (flat.globals ++ variables_of q) (items_all flat q (entry_cur flat q) 0 (entry_count flat q) cmds) ts → SitesAsked flat nodes ts
block_asked flat q cmds nodes ts g c h =
    let vsorts = flat.globals ++ variables_of q in
    right_asked flat nodes vsorts (items_all flat q (entry_cur flat q) 0 (entry_count flat q) cmds) ts
    (cmds_right flat q vsorts (entry_cur flat q) 0 (entry_count flat q) cmds g (entry_fits flat q) (sym (length-append flat.globals (variables_of q))) c) h

pub asked_later : (flat : Limited) (x y : List TermNode) (ts : List SiteTerm) → Later x y → SitesAsked flat x ts → SitesAsked flat y ts
asked_later flat x y [] h k = tt
asked_later flat x y (t ∷ ts) h (k, ks) = (record { args_are = are_later x y t.args (callee_ins flat t.proc) h k.args_are; before_are = are_later x y t.globals_before flat.globals h k.before_are }, asked_later flat x y ts h ks)

pub asked_both : (flat : Limited) (x : List TermNode) (ss ts : List SiteTerm) → SitesAsked flat x ss → SitesAsked flat x ts → SitesAsked flat x (ss ++ ts)
asked_both flat x [] ts h k = k
asked_both flat x (s ∷ ss) ts (h, hs) k = (h, asked_both flat x ss ts hs k)
