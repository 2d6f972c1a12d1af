-- What an assignment says of a block, read off its variables in a row.
use Rattle.std.specs.Prelude.{◌≡◌, ℕ, ◌+◌, true, List, [], ◌∷◌, ◌++◌, map, length, take, drop, replicate, slice_get, if◌then◌else◌}
use Rattle.hy_val.specs.Values.{is_on}
use Rattle.hy_val.specs.declared.sort.Sort.{Sort}
use Rattle.hy_val.specs.declared.value.Value.{Value}
use Rattle.hy_term.specs.Variables.{reads}
use Rattle.flat_prog.specs.declared.block.FlatBlock.{FlatBlock}
use Rattle.flat_prog.specs.declared.proc.FlatProc.{FlatProc}
use Rattle.passive_form.specs.Limited.{Limited}
use Rattle.flat_prog.specs.Local.{Result, Ended, Broken}
use Rattle.passive_form.specs.Local.{sorted_as}
use Rattle.vc_gen.specs.Fold.{Given, choice_count}
use Rattle.passive_form.specs.declared.Item.{Item}
use Rattle.passive_form.specs.declared.Item.TheVariants.{Let, Zero, Free, Need, Check, Site}
use Rattle.passive_form.specs.Making.{items_all, entry_cur, entry_count, block_or}
use Rattle.vc_gen.specs.Items.{bool_sort, chosen}

-- the values and results that items take, from what is chosen for them
abbrev pub values_in : List Item → List Value → List Value
values_in [] xs = []
values_in (Let v e ∷ items) xs = values_in items xs
values_in (Zero v s ∷ items) xs = values_in items xs
values_in (Free v s ∷ items) [] = []
values_in (Free v s ∷ items) (x ∷ xs) = x ∷ values_in items xs
values_in (Need e ∷ items) xs = values_in items xs
values_in (Check p e ∷ items) xs = values_in items xs
values_in (Site p f args before outs changes after ∷ items) xs = values_in items (drop (length (bool_sort ∷ (outs ++ after))) xs)

abbrev pub result_in : List Sort → List Sort → List Value → Result
result_in outs after [] = Broken 0 0
result_in outs after (x ∷ xs) = if is_on x then Broken 0 0 else Ended (take (length outs) xs) (take (length after) (drop (length outs) xs))

abbrev pub results_in : List Item → List Value → List Result
results_in [] xs = []
results_in (Let v e ∷ items) xs = results_in items xs
results_in (Zero v s ∷ items) xs = results_in items xs
results_in (Free v s ∷ items) [] = results_in items []
results_in (Free v s ∷ items) (x ∷ xs) = results_in items xs
results_in (Need e ∷ items) xs = results_in items xs
results_in (Check p e ∷ items) xs = results_in items xs
results_in (Site p f args before outs changes after ∷ items) xs = result_in outs after xs ∷ results_in items (drop (length (bool_sort ∷ (outs ++ after))) xs)

-- the items of a block, by its number
abbrev pub block_at : FlatProc → ℕ → FlatBlock
block_at q n = block_or (slice_get q.blocks n)

abbrev pub items_at : Limited → FlatProc → ℕ → List Item
items_at flat q n = items_all flat q (entry_cur flat q) 0 (entry_count flat q) (block_at q n).cmds

abbrev pub choices_at : FlatProc → ℕ → ℕ
choices_at q n = choice_count (block_at q n).next

-- the sorts of the variables of a block, and of all blocks in an order
abbrev pub sorts_of_block : Limited → FlatProc → ℕ → List Sort
sorts_of_block flat q n = chosen (items_at flat q n) ++ replicate (choices_at q n) bool_sort

abbrev pub sorts_of_blocks : Limited → FlatProc → List ℕ → List Sort
sorts_of_blocks flat q [] = []
sorts_of_blocks flat q (n ∷ ns) = sorts_of_block flat q n ++ sorts_of_blocks flat q ns

-- what an assignment says of a block whose variables are numbered from k on
abbrev pub given_at : Limited → FlatProc → (ℕ → Value) → ℕ → ℕ → Given
given_at flat q a k n = record {
  number = n;
  values = values_in (items_at flat q n) (reads a k (length (chosen (items_at flat q n))));
  results = results_in (items_at flat q n) (reads a k (length (chosen (items_at flat q n))));
  choices = map is_on (reads a (k + length (chosen (items_at flat q n))) (choices_at q n));
}

abbrev pub givens_at : Limited → FlatProc → (ℕ → Value) → ℕ → List ℕ → List Given
givens_at flat q a k [] = []
givens_at flat q a k (n ∷ ns) = given_at flat q a k n ∷ givens_at flat q a (k + length (sorts_of_block flat q n)) ns

-- the values of a block can be given by variables
pub record Shaped (flat : Limited) (q : FlatProc) (g : Given) : Type 0 where
  pub ins : List Value
  pub sorts : sorted_as (chosen (items_at flat q g.number)) ins ≡ true
  pub values_are : values_in (items_at flat q g.number) ins ≡ g.values
  pub results_are : results_in (items_at flat q g.number) ins ≡ g.results
  pub count : length g.choices ≡ choices_at q g.number
