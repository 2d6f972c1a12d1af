-- What a passive form keeps of sorts: items, and the versions with which blocks are left.
use Rattle.std.specs.Prelude.{◌≡◌, ℕ, ◌<◌, List, [], ◌∷◌, ◌++◌, length, replicate, slice_get, Some}
use Rattle.hy_val.specs.declared.sort.Sort.{Sort}
use Rattle.flat_prog.specs.declared.block.FlatNext.{FlatNext}
use Rattle.flat_prog.specs.declared.block.FlatNext.TheVariants.{Goto, Return}
use Rattle.vc_gen.specs.Fold.{choice_count}
use Rattle.passive_form.specs.declared.PassiveBlock.{PassiveBlock}
use Rattle.passive_form.specs.declared.Passive.{Passive}
use Rattle.vc_gen.specs.Items.{bool_sort, made, chosen, ItemsFit}

-- the versions have these sorts
abbrev pub SortsAre : List Sort → List ℕ → List Sort → Type 0
SortsAre vsorts [] [] = Unit {0}
SortsAre vsorts [] (s ∷ ss) = ⊥
SortsAre vsorts (v ∷ vs) [] = ⊥
SortsAre vsorts (v ∷ vs) (s ∷ ss) = (slice_get vsorts v ≡ Some s) × SortsAre vsorts vs ss

-- a goto leads somewhere
abbrev pub HasTarget : FlatNext → Type 0
HasTarget Return = Unit {0}
HasTarget (Goto ts) = 0 < length ts

pub record BlockFits (csorts gsorts lsorts : List Sort) (block : PassiveBlock) : Type 0 where
  pub items : ItemsFit csorts (gsorts ++ lsorts) block.items
  pub globals : SortsAre ((gsorts ++ lsorts) ++ made block.items) block.globals gsorts
  pub locals : SortsAre ((gsorts ++ lsorts) ++ made block.items) block.locals lsorts
  pub next : HasTarget block.next

abbrev pub AllFit : List Sort → List Sort → List Sort → List PassiveBlock → Type 0
AllFit csorts gsorts lsorts [] = Unit {0}
AllFit csorts gsorts lsorts (b ∷ bs) = BlockFits csorts gsorts lsorts b × AllFit csorts gsorts lsorts bs

pub record PassiveFits (p : Passive) : Type 0 where
  pub start_items : ItemsFit p.consts (p.globals ++ p.ins) p.start.items
  pub start_globals : SortsAre ((p.globals ++ p.ins) ++ made p.start.items) p.start.globals p.globals
  pub start_locals : SortsAre ((p.globals ++ p.ins) ++ made p.start.items) p.start.locals p.locals
  pub blocks : AllFit p.consts p.globals p.locals p.blocks

-- the sorts of a block's variables: what is chosen for its items, and a bit for each target but the last
abbrev pub block_sorts : PassiveBlock → List Sort
block_sorts b = chosen b.items ++ replicate (choice_count b.next) bool_sort

abbrev pub blocks_sorts : List PassiveBlock → List Sort
blocks_sorts [] = []
blocks_sorts (b ∷ bs) = block_sorts b ++ blocks_sorts bs
