-- The sites of items, of blocks and of an order, part by part.
use Rattle.std.proofs.Common.{◌≡◌, ℕ, ◌+◌, List, [], ◌∷◌, ◌++◌, map, length, arith, sym, ◌∙◌, ap, refl, append-nil, append_assoc, length-append}
use Rattle.std.proofs.lemmas.List.{map-append, length-map}
use Rattle.hy_val.specs.declared.sort.Sort.{Sort}
use Rattle.flat_prog.specs.declared.proc.FlatKind.{FlatKind}
use Rattle.flat_prog.specs.declared.proc.FlatKind.TheVariants.{Source, Loop}
use Rattle.flat_prog.specs.declared.proc.FlatProc.{FlatProc}
use Rattle.flat_prog.specs.Shape.{exit_sort}
use Rattle.passive_form.specs.Limited.{Limited}
use Rattle.passive_form.specs.Making.{free_items, zero_items, passive_start, passive_blocks}
use Rattle.passive_form.specs.declared.Item.{Item}
use Rattle.passive_form.specs.declared.Item.TheVariants.{Let, Zero, Free, Need, Check, Site}
use Rattle.passive_form.specs.declared.PassiveBlock.{PassiveBlock}
use Rattle.vc_gen.specs.declared.parts.SiteTerm.{SiteTerm}
use Rattle.vc_gen.specs.Items.{bool_sort, chosen}
use Rattle.vc_gen.specs.Inputs.{items_at, sorts_of_block}
use Rattle.vc_gen.specs.Fitting.{block_sorts, blocks_sorts}
use Rattle.vc_gen.specs.Laid.{site_laid, calls_laid, sites_laid, blocks_laid}

pub laid_append : (n c k : ℕ) (xs ys : List Item) (i j : ℕ) → i ≡ c + length (calls_laid n c k xs) → j ≡ k + length (chosen xs) → calls_laid n c k (xs ++ ys) ≡ calls_laid n c k xs ++ calls_laid n i j ys
laid_append n c k [] ys i j h g =
    let e : c ≡ i = omega (arith, h) in
    let f : k ≡ j = omega (arith, g) in
    ap (λ x. calls_laid n x k ys) e ∙ ap (λ x. calls_laid n i x ys) f
laid_append n c k (Let v e ∷ xs) ys i j h g = laid_append n c (k + 0) xs ys i j h (omega (arith, g))
laid_append n c k (Zero v s ∷ xs) ys i j h g = laid_append n c (k + 0) xs ys i j h (omega (arith, g))
laid_append n c k (Free v s ∷ xs) ys i j h g = laid_append n c (k + 1) xs ys i j h (omega (arith, g))
laid_append n c k (Need e ∷ xs) ys i j h g = laid_append n c (k + 0) xs ys i j h (omega (arith, g))
laid_append n c k (Check p e ∷ xs) ys i j h g = laid_append n c (k + 0) xs ys i j h (omega (arith, g))
laid_append n c k (Site p f args before outs changes after ∷ xs) ys i j h g =
    let own = bool_sort ∷ (outs ++ after) in
    ap (λ r. record { block = n; call = c; proc = p; first = k } ∷ r) (laid_append n (c + 1) (k + length own) xs ys i j (omega (arith, h)) (omega (arith, g, length-append own (chosen xs))))

-- the sites of some items, and of those behind them
pub laid_then : (n : ℕ) (ss ts : List SiteTerm) (xs ys : List Item) (c k i j : ℕ) → map site_laid ss ≡ calls_laid n c k xs → i ≡ c + length ss → j ≡ k + length (chosen xs) → map site_laid ts ≡ calls_laid n i j ys →
    map site_laid (ss ++ ts) ≡ calls_laid n c k (xs ++ ys)
laid_then n ss ts xs ys c k i j h e g l =
    let count : length ss ≡ length (calls_laid n c k xs) = sym (length-map ss site_laid) ∙ ap length h in
    map-append site_laid ss ts ∙ ap (λ r. r ++ map site_laid ts) h ∙ ap (λ r. calls_laid n c k xs ++ r) l ∙ sym (laid_append n c k xs ys i j (omega (arith, e, count)) g)

laid_push : (k : ℕ) (bs : List PassiveBlock) (b : PassiveBlock) (j : ℕ) → j ≡ k + length (blocks_sorts bs) → blocks_laid k (bs ++ b ∷ []) ≡ blocks_laid k bs ++ calls_laid b.number 0 j b.items
laid_push k [] b j h =
    let e : k ≡ j = omega (arith, h) in
    append-nil (calls_laid b.number 0 k b.items) ∙ ap (λ x. calls_laid b.number 0 x b.items) e
laid_push k (x ∷ bs) b j h =
    let here = calls_laid x.number 0 k x.items in
    let next = k + length (block_sorts x) in
    ap (λ r. here ++ r) (laid_push next bs b j (omega (arith, h, length-append (block_sorts x) (blocks_sorts bs)))) ∙ sym (append_assoc here (blocks_laid next bs) (calls_laid b.number 0 j b.items))

-- the sites of some blocks, and of the next one
pub laid_next : (ss ts : List SiteTerm) (bs : List PassiveBlock) (b : PassiveBlock) (k j : ℕ) → map site_laid ss ≡ blocks_laid k bs → j ≡ k + length (blocks_sorts bs) → map site_laid ts ≡ calls_laid b.number 0 j b.items →
    map site_laid (ss ++ ts) ≡ blocks_laid k (bs ++ b ∷ [])
laid_next ss ts bs b k j h e l = map-append site_laid ss ts ∙ ap (λ r. r ++ map site_laid ts) h ∙ ap (λ r. blocks_laid k bs ++ r) l ∙ sym (laid_push k bs b j e)

-- the sites of the blocks in an order
pub order_laid : (flat : Limited) (q : FlatProc) (order : List ℕ) (k : ℕ) → blocks_laid k (passive_blocks flat q order) ≡ sites_laid flat q order k
order_laid flat q [] k = refl
order_laid flat q (n ∷ order) k = ap (λ r. calls_laid n 0 k (items_at flat q n) ++ r) (order_laid flat q order (k + length (sorts_of_block flat q n)))

free_laid : (n c k v : ℕ) (ss : List Sort) → calls_laid n c k (free_items v ss) ≡ []
free_laid n c k v [] = refl
free_laid n c k v (s ∷ ss) = free_laid n c (k + 1) (v + 1) ss

zero_laid : (n c k v : ℕ) (ss : List Sort) → calls_laid n c k (zero_items v ss) ≡ []
zero_laid n c k v [] = refl
zero_laid n c k v (s ∷ ss) = zero_laid n c (k + 0) (v + 1) ss

-- nothing is called as the procedure begins
pub start_laid : (flat : Limited) (q : FlatProc) (kind : FlatKind) (n c k : ℕ) → calls_laid n c k (passive_start flat q kind).items ≡ []
start_laid flat q (Source p) n c k = free_laid n c k (length flat.globals + length q.ins) (q.outs ++ q.locals)
start_laid flat q (Loop p head) n c k = zero_laid n c k (length flat.globals + length q.ins) (exit_sort ∷ q.locals)

pub none_laid : (ss : List SiteTerm) → map site_laid ss ≡ [] → ss ≡ []
none_laid [] h = refl
none_laid (s ∷ ss) h = cc
