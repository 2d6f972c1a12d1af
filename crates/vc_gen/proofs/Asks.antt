-- What the sites of items are asked for, part by part.
use Rattle.std.proofs.Common.{ℕ, List, [], ◌∷◌, ◌++◌, sym, subst, append-nil, append_assoc}
use Rattle.hy_val.specs.declared.sort.Sort.{Sort}
use Rattle.hy_val.specs.declared.expr.ExprNode.{ExprNode}
use Rattle.hy_term.specs.declared.node.TermNode.{TermNode}
use Rattle.passive_form.specs.declared.Item.{Item}
use Rattle.passive_form.specs.declared.Item.TheVariants.{Let, Zero, Free, Need, Check, Site}
use Rattle.vc_gen.specs.Emit.{SiteAsks, SitesAsk}
use Rattle.vc_gen.specs.Items.{made_by, made, sorts_of_all}
use Rattle.vc_gen.specs.Standing.{Later}
use Rattle.vc_gen.specs.declared.parts.SiteTerm.{SiteTerm}
use Rattle.vc_gen.proofs.Growth.{are_later}

one_later : (x y : List TermNode) (vsorts : List Sort) (p : ℕ) (args : List (List ExprNode)) (before : List ℕ) (t : SiteTerm) → Later x y → SiteAsks x vsorts p args before t → SiteAsks y vsorts p args before t
one_later x y vsorts p args before t h k = record {
  proc_is = k.proc_is;
  args_are = are_later x y t.args (sorts_of_all args) h k.args_are;
  before_are = λ ss are. are_later x y t.globals_before ss h (k.before_are ss are);
}

pub asks_later : (x y : List TermNode) (vsorts : List Sort) (items : List Item) (ts : List SiteTerm) → Later x y → SitesAsk x vsorts items ts → SitesAsk y vsorts items ts
asks_later x y vsorts [] [] h k = tt
asks_later x y vsorts [] (t ∷ ts) h k = absurd k
asks_later x y vsorts (Let v e ∷ items) ts h k = asks_later x y (vsorts ++ made_by (Let v e)) items ts h k
asks_later x y vsorts (Zero v s ∷ items) ts h k = asks_later x y (vsorts ++ made_by (Zero v s)) items ts h k
asks_later x y vsorts (Free v s ∷ items) ts h k = asks_later x y (vsorts ++ made_by (Free v s)) items ts h k
asks_later x y vsorts (Need e ∷ items) ts h k = asks_later x y (vsorts ++ made_by (Need e)) items ts h k
asks_later x y vsorts (Check p e ∷ items) ts h k = asks_later x y (vsorts ++ made_by (Check p e)) items ts h k
asks_later x y vsorts (Site p f args before outs changes after ∷ items) [] h k = absurd k
asks_later x y vsorts (Site p f args before outs changes after ∷ items) (t ∷ ts) h (k, ks) =
    (one_later x y vsorts p args before t h k, asks_later x y (vsorts ++ made_by (Site p f args before outs changes after)) items ts h ks)

-- behind the versions of one item more
moved : (x : List TermNode) (vsorts : List Sort) (i : Item) (xs ys : List Item) (ts : List SiteTerm) → SitesAsk x (vsorts ++ made (i ∷ xs)) ys ts → SitesAsk x ((vsorts ++ made_by i) ++ made xs) ys ts
moved x vsorts i xs ys ts k = subst (λ (ss : List Sort). SitesAsk x ss ys ts) (sym (append_assoc vsorts (made_by i) (made xs))) k

pub asks_both : (x : List TermNode) (vsorts : List Sort) (xs ys : List Item) (ss ts : List SiteTerm) → SitesAsk x vsorts xs ss → SitesAsk x (vsorts ++ made xs) ys ts → SitesAsk x vsorts (xs ++ ys) (ss ++ ts)
asks_both x vsorts [] ys [] ts h k = subst (λ (rs : List Sort). SitesAsk x rs ys ts) (append-nil vsorts) k
asks_both x vsorts [] ys (s ∷ ss) ts h k = absurd h
asks_both x vsorts (Let v e ∷ xs) ys ss ts h k = asks_both x (vsorts ++ made_by (Let v e)) xs ys ss ts h (moved x vsorts (Let v e) xs ys ts k)
asks_both x vsorts (Zero v s ∷ xs) ys ss ts h k = asks_both x (vsorts ++ made_by (Zero v s)) xs ys ss ts h (moved x vsorts (Zero v s) xs ys ts k)
asks_both x vsorts (Free v s ∷ xs) ys ss ts h k = asks_both x (vsorts ++ made_by (Free v s)) xs ys ss ts h (moved x vsorts (Free v s) xs ys ts k)
asks_both x vsorts (Need e ∷ xs) ys ss ts h k = asks_both x (vsorts ++ made_by (Need e)) xs ys ss ts h (moved x vsorts (Need e) xs ys ts k)
asks_both x vsorts (Check p e ∷ xs) ys ss ts h k = asks_both x (vsorts ++ made_by (Check p e)) xs ys ss ts h (moved x vsorts (Check p e) xs ys ts k)
asks_both x vsorts (Site p f args before outs changes after ∷ xs) ys [] ts h k = absurd h
asks_both x vsorts (Site p f args before outs changes after ∷ xs) ys (s ∷ ss) ts (h, hs) k =
    let i = Site p f args before outs changes after in
    (h, asks_both x (vsorts ++ made_by i) xs ys ss ts hs (moved x vsorts i xs ys ts k))
