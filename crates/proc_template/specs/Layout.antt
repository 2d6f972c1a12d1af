-- What the variables of a formula stand for, in the order of their numbers: constants, globals and ins, what the begin takes, and for each block in turn
-- what its havocs take, what its calls give back, and its choices of a target.
use Rattle.std.specs.Prelude.{ℕ, ◌+◌, Bool, false, List, [], ◌∷◌, ◌++◌, map, length, take, replicate, slice_index, slice_index_or, if◌then◌else◌}
use Rattle.hy_val.specs.declared.sort.Sort.{Sort}
use Rattle.flat_prog.specs.declared.block.FlatBlock.{FlatBlock}
use Rattle.flat_prog.specs.Sites.{sites_of, numbers_from}
use Rattle.passive_form.specs.declared.Item.{Item}
use Rattle.passive_form.specs.declared.Item.TheVariants.{Let, Zero, Free, Need, Check, Site}
use Rattle.passive_form.specs.declared.Passive.{Passive}
use Rattle.passive_form.specs.declared.PassiveBlock.{PassiveBlock}
use Rattle.vc_gen.specs.Fold.{choice_count}
use Rattle.proc_template.specs.declared.layout.Layout.{Layout}
use Rattle.tree_terms.specs.declared.linked.Role.{Role}
use Rattle.tree_terms.specs.declared.linked.Role.TheVariants.{Const, Global, In, Failed, Out, After, Own}

-- for each block the number of its first site: that of the calls in the blocks before it
abbrev pub starts_of : List FlatBlock → List ℕ
starts_of blocks = map (λ n. length (sites_of (take n blocks))) (numbers_from 0 (length blocks))

-- one role for each, numbered on from k
abbrev pub numbered : {A : Type 0} → (ℕ → Role) → ℕ → List A → List Role
numbered role k [] = []
numbered role k (x ∷ xs) = role k ∷ numbered role (k + 1) xs

abbrev pub const_roles : List Sort → List Role
const_roles ss = numbered Const 0 ss

abbrev pub global_roles : List Sort → List Role
global_roles ss = numbered Global 0 ss

abbrev pub in_roles : List Sort → List Role
in_roles ss = numbered In 0 ss

abbrev pub out_roles : ℕ → List Sort → List Role
out_roles site ss = numbered (Out site) 0 ss

abbrev pub own_roles : ℕ → List Role
own_roles count = replicate count Own

-- the role, where it is marked
abbrev pub role_if : Bool → Role → List Role
role_if mark role = if mark then role ∷ [] else []

-- of the globals from g on those that are marked, after the call at a site
abbrev pub after_roles : ℕ → List Bool → ℕ → List ℕ → List Role
after_roles site marks g [] = []
after_roles site marks g (v ∷ vs) = role_if (slice_index_or marks g false) (After site g) ++ after_roles site marks (g + 1) vs

-- that the callee fails, its outs, and the globals that it may change
abbrev pub site_roles : ℕ → List Sort → List Bool → List ℕ → List Role
site_roles site outs changes before = Failed site ∷ (out_roles site outs ++ after_roles site changes 0 before)

-- ---- items

abbrev pub item_roles : ℕ → Item → List Role
item_roles site (Let v e) = []
item_roles site (Zero v s) = []
item_roles site (Free v s) = Own ∷ []
item_roles site (Need e) = []
item_roles site (Check p e) = []
item_roles site (Site p f args before outs changes after) = site_roles site outs changes before

abbrev pub item_sites : Item → ℕ
item_sites (Let v e) = 0
item_sites (Zero v s) = 0
item_sites (Free v s) = 0
item_sites (Need e) = 0
item_sites (Check p e) = 0
item_sites (Site p f args before outs changes after) = 1

-- the roles of the variables of items whose first site has this number
abbrev pub items_roles : ℕ → List Item → List Role
items_roles site [] = []
items_roles site (i ∷ items) = item_roles site i ++ items_roles (site + item_sites i) items

-- ---- blocks, where these are the numbers of their first sites

abbrev pub block_roles : List ℕ → PassiveBlock → List Role
block_roles starts b = items_roles (slice_index starts b.number) b.items ++ own_roles (choice_count b.next)

abbrev pub blocks_roles : List ℕ → List PassiveBlock → List Role
blocks_roles starts [] = []
blocks_roles starts (b ∷ bs) = block_roles starts b ++ blocks_roles starts bs

-- ---- procedures

abbrev pub first_roles : Passive → List Role
first_roles p = const_roles p.consts ++ (global_roles p.globals ++ in_roles p.ins)

abbrev pub begin_roles : Passive → List Role
begin_roles p = first_roles p ++ items_roles 0 p.start.items

-- for each variable number its role
abbrev pub roles_of : List FlatBlock → Passive → List Role
roles_of blocks p = begin_roles p ++ blocks_roles (starts_of blocks) p.blocks

-- the variables that a run takes values for as it begins
abbrev pub begin_values : Passive → List ℕ
begin_values p = numbers_from (length (first_roles p)) (length (items_roles 0 p.start.items))

abbrev pub layout_of : List FlatBlock → Passive → Layout
layout_of blocks p = record { roles = roles_of blocks p; begin = begin_values p }
