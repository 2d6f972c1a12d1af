-- Looking for the child at a site, block by block. No public clause cites it.
use Rattle.std.specs.Prelude.{◌≡◌, ◌≤◌, ℕ, List, ◌++◌, length, take, drop, slice_get}
use Rattle.flat_prog.specs.declared.block.FlatBlock.{FlatBlock}
use Rattle.flat_prog.specs.declared.run.Child.{Child}
use Rattle.flat_prog.specs.Sites.{sites_of, numbers_from, calls_at}
use Rattle.call_tree.specs.Walks.{child_for}
use Rattle.call_tree.specs.declared.reach.InBlock.{InBlock}
use Rattle.call_tree.specs.declared.reach.InBlock.TheVariants.{Here, Behind}

-- the numbers of the sites in a block
abbrev pub sites_in : List FlatBlock → ℕ → List ℕ
sites_in blocks b = numbers_from (length (sites_of (take b blocks))) (length (calls_at (slice_get blocks b)))

-- the first child at the site is this, or it is to be looked for behind so many children
abbrev pub Finds : List ℕ → List Child → ℕ → InBlock → Type 0
Finds sites children site (Here child) = (more : List ℕ) → child_for (sites ++ more) children site ≡ child
Finds sites children site (Behind count) = (count ≤ length children) × ((more : List ℕ) → child_for (sites ++ more) children site ≡ child_for more (drop count children) site)
