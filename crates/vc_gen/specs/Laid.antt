-- Where the calls of a procedure stand in its formula: by block in the order, and in each block in order.
use Rattle.std.specs.Prelude.{◌≡◌, ℕ, ◌+◌, nat_eq, true, false, List, [], ◌∷◌, ◌++◌, map, length, take, slice_get, Some}
use Rattle.std.specs.List.{filter}
use Rattle.flat_prog.specs.Once.{has_number, numbers_differ}
use Rattle.flat_prog.specs.Sites.{calls_at, numbers_from}
use Rattle.flat_prog.specs.declared.proc.FlatProc.{FlatProc}
use Rattle.passive_form.specs.Limited.{Limited}
use Rattle.passive_form.specs.declared.Item.{Item}
use Rattle.passive_form.specs.declared.Item.TheVariants.{Site}
use Rattle.passive_form.specs.declared.PassiveBlock.{PassiveBlock}
use Rattle.vc_gen.specs.Items.{bool_sort, chosen_by}
use Rattle.vc_gen.specs.Inputs.{items_at, sorts_of_block, sorts_of_blocks}
use Rattle.vc_gen.specs.Fitting.{block_sorts}
use Rattle.vc_gen.specs.declared.parts.SiteTerm.{SiteTerm}

-- a call: its block, its number among the calls of the block, the procedure that it calls, and the first of its variables
pub record Laid : Type 0 where
  pub block : ℕ
  pub call : ℕ
  pub proc : ℕ
  pub first : ℕ

abbrev pub site_laid : SiteTerm → Laid
site_laid s = record { block = s.block; call = s.call; proc = s.proc; first = s.first }

-- the calls among the items of block n, where the next one has number c, and the variables of the items are numbered from k on
abbrev pub calls_laid : (n c k : ℕ) → List Item → List Laid
calls_laid n c k [] = []
calls_laid n c k (Site p f args before outs changes after ∷ items) = record { block = n; call = c; proc = p; first = k } ∷ calls_laid n (c + 1) (k + length (bool_sort ∷ (outs ++ after))) items
calls_laid n c k (item ∷ items) = calls_laid n c (k + length (chosen_by item)) items

-- the calls of the blocks in an order, where the variables of the first block are numbered from k on
abbrev pub sites_laid : Limited → FlatProc → List ℕ → ℕ → List Laid
sites_laid flat q [] k = []
sites_laid flat q (n ∷ order) k = calls_laid n 0 k (items_at flat q n) ++ sites_laid flat q order (k + length (sorts_of_block flat q n))

-- the same of passive blocks
abbrev pub blocks_laid : ℕ → List PassiveBlock → List Laid
blocks_laid k [] = []
blocks_laid k (b ∷ bs) = calls_laid b.number 0 k b.items ++ blocks_laid (k + length (block_sorts b)) bs

-- ---- a site for each call

abbrev pub laid_call : Laid → ℕ
laid_call l = l.call

abbrev pub laid_proc : Laid → ℕ
laid_proc l = l.proc

-- the sites of block n
abbrev pub laid_in : ℕ → List Laid → List Laid
laid_in n ls = filter (λ (l : Laid). nat_eq l.block n) ls

-- a block's calls as commands make them, numbered on from 0
pub record CallsOfBlock (flat : Limited) (q : FlatProc) (n k : ℕ) : Type 0 where
  pub procs : map laid_proc (calls_laid n 0 k (items_at flat q n)) ≡ calls_at (slice_get q.blocks n)
  pub calls : map laid_call (calls_laid n 0 k (items_at flat q n)) ≡ numbers_from 0 (length (calls_at (slice_get q.blocks n)))

-- the sites of a block of the order are its calls, one for each and in order; of other blocks there is none
pub record EachCallOnce (flat : Limited) (q : FlatProc) (order : List ℕ) (k : ℕ) : Type 0 where
  pub some : (i n : ℕ) → slice_get order i ≡ Some n → laid_in n (sites_laid flat q order k) ≡ calls_laid n 0 (k + length (sorts_of_blocks flat q (take i order))) (items_at flat q n)
  pub none : (n : ℕ) → has_number order n ≡ false → laid_in n (sites_laid flat q order k) ≡ []
  pub calls : (n j : ℕ) → CallsOfBlock flat q n j

-- so it is in an order that has no block twice
abbrev pub OneSiteEach : Type 0
OneSiteEach = (flat : Limited) (q : FlatProc) (order : List ℕ) (k : ℕ) → numbers_differ order ≡ true → EachCallOnce flat q order k
