-- What is chosen for items that fit has sorts.
use Rattle.std.proofs.Common.{◌≡◌, ℕ, Bool, true, false, ◌||◌, List, [], ◌∷◌, ◌++◌, sym, refl, subst}
use Rattle.std.specs.Prelude.{Option, None, Some, nat_eq, slice_get}
use Rattle.hy_val.specs.declared.sort.Sort.{Sort}
use Rattle.flat_prog.specs.declared.block.FlatBlock.{FlatBlock}
use Rattle.flat_prog.specs.declared.proc.FlatProc.{FlatProc}
use Rattle.passive_form.specs.Limited.{Limited}
use Rattle.flat_prog.specs.Ordering.{is_in}
use Rattle.vc_gen.proofs.Sound.{number_is}
use Rattle.passive_form.specs.declared.Item.{Item}
use Rattle.passive_form.specs.declared.Item.TheVariants.{Let, Zero, Free, Need, Check, Site}
use Rattle.passive_form.specs.Making.{entry_cur, entry_count, items_all, block_or, passive_blocks}
use Rattle.vc_gen.specs.Items.{made_by, chosen, AreSorts, ItemsFit}
use Rattle.vc_gen.specs.Inputs.{items_at}
use Rattle.vc_gen.specs.Fitting.{AllFit}

pub sorts_append : (ss rs : List Sort) → AreSorts ss → AreSorts rs → AreSorts (ss ++ rs)
sorts_append [] rs h k = k
sorts_append (s ∷ ss) rs (h, hs) k = (h, sorts_append ss rs hs k)

pub items_sorts : (csorts vsorts : List Sort) (items : List Item) → ItemsFit csorts vsorts items → AreSorts (chosen items)
items_sorts csorts vsorts [] h = tt
items_sorts csorts vsorts (Let v e ∷ items) h = items_sorts csorts (vsorts ++ made_by (Let v e)) items h.1
items_sorts csorts vsorts (Zero v s ∷ items) h = items_sorts csorts (vsorts ++ made_by (Zero v s)) items h.1
items_sorts csorts vsorts (Free v s ∷ items) h = (h.0.1, items_sorts csorts (vsorts ++ made_by (Free v s)) items h.1)
items_sorts csorts vsorts (Need e ∷ items) h = items_sorts csorts (vsorts ++ made_by (Need e)) items h.1
items_sorts csorts vsorts (Check p e ∷ items) h = items_sorts csorts (vsorts ++ made_by (Check p e)) items h.1
items_sorts csorts vsorts (Site p f args before outs changes after ∷ items) h =
    (refl, sorts_append (outs ++ after) (chosen items) h.0.3 (items_sorts csorts (vsorts ++ made_by (Site p f args before outs changes after)) items h.1))

in_order : (csorts gsorts lsorts : List Sort) (flat : Limited) (q : FlatProc) (order : List ℕ) (n : ℕ) → AllFit csorts gsorts lsorts (passive_blocks flat q order) → is_in n order ≡ true → AreSorts (chosen (items_at flat q n))
in_order csorts gsorts lsorts flat q [] n h k = cc
in_order csorts gsorts lsorts flat q (m ∷ ns) n h k = by (nat_eq n m) refl k (λ later. in_order csorts gsorts lsorts flat q ns n h.1 later)
  where
    by : (b : Bool) → nat_eq n m ≡ b → (b || is_in n ns) ≡ true → (is_in n ns ≡ true → AreSorts (chosen (items_at flat q n))) → AreSorts (chosen (items_at flat q n))
    by true e k go = subst (λ (i : ℕ). AreSorts (chosen (items_at flat q i))) (number_is n m e) (items_sorts csorts (gsorts ++ lsorts) (items_at flat q m) h.0.items)
    by false e k go = go k

pub all_sorts : (csorts gsorts lsorts : List Sort) (flat : Limited) (q : FlatProc) (order : List ℕ) → AllFit csorts gsorts lsorts (passive_blocks flat q order) → ((n : ℕ) (b : FlatBlock) → slice_get q.blocks n ≡ Some b → is_in n order ≡ true) →
    (n : ℕ) → AreSorts (chosen (items_at flat q n))
all_sorts csorts gsorts lsorts flat q order h all n = by (slice_get q.blocks n) refl
  where
    by : (o : Option FlatBlock) → slice_get q.blocks n ≡ o → AreSorts (chosen (items_at flat q n))
    by None e = subst (λ (o : Option FlatBlock). AreSorts (chosen (items_all flat q (entry_cur flat q) 0 (entry_count flat q) (block_or o).cmds))) (sym e) tt
    by (Some b) e = in_order csorts gsorts lsorts flat q order n h (all n b e)
