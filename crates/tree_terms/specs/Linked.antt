-- What stands in the place of each variable of the nodes' formulas.
use Rattle.std.specs.Prelude.{◌≡◌, ℕ, zero, suc, ◌<◌, List, [], length, slice_get, Option, None, Some, IsSome}
use Rattle.std.specs.Option.{option_and_then}
use Rattle.hy_val.specs.declared.sort.Sort.{Sort}
use Rattle.hy_term.specs.TermSorts.{sorts, sort_at}
use Rattle.hy_term.specs.declared.node.TermNode.{TermNode}
use Rattle.hy_term.specs.declared.node.TermNode.TheVariants.{Variable}
use Rattle.tree_terms.specs.declared.linked.Linked.{Linked}
use Rattle.tree_terms.specs.declared.linked.Place.{Place}
use Rattle.tree_terms.specs.declared.linked.Role.{Role}
use Rattle.tree_terms.specs.declared.linked.Role.TheVariants.{Const, Global, In, Failed, Out, After, Own}
use Rattle.tree_terms.specs.declared.linked.SiteTerms.{SiteTerms}
use Rattle.tree_terms.specs.declared.linked.Source.{Source}
use Rattle.tree_terms.specs.declared.linked.Source.TheVariants.{Given, Up, Down, Fresh}
use Rattle.tree_terms.specs.declared.linked.Template.{Template}

abbrev pub template_of : Linked → ℕ → Option Template
template_of q m = option_and_then (λ (p : Place). slice_get q.templates p.template) (slice_get q.tree m)

abbrev pub nodes_by : Option Template → List TermNode
nodes_by None = []
nodes_by (Some t) = t.nodes

-- the nodes of the formula of a node of the tree
abbrev pub nodes_of : Linked → ℕ → List TermNode
nodes_of q m = nodes_by (template_of q m)

abbrev pub parent_by : Option Place → ℕ
parent_by None = 0
parent_by (Some p) = p.parent

abbrev pub parent : Linked → ℕ → ℕ
parent q m = parent_by (slice_get q.tree m)

abbrev pub joined : Option (Option ℕ) → Option ℕ
joined None = None
joined (Some o) = o

-- the node at a site of a node
abbrev pub kid : Linked → ℕ → ℕ → Option ℕ
kid q m i = option_and_then (λ (p : Place). joined (slice_get p.kids i)) (slice_get q.tree m)

abbrev pub role_of : Linked → ℕ → ℕ → Option Role
role_of q m n = option_and_then (λ (t : Template). slice_get t.roles n) (template_of q m)

-- the site at which a node is called
abbrev pub site_of : Linked → ℕ → Option SiteTerms
site_of q m = option_and_then (λ (p : Place). option_and_then (λ (t : Template). slice_get t.sites p.site) (template_of q p.parent)) (slice_get q.tree m)

abbrev pub node_by : Option SiteTerms → ℕ
node_by None = 0
node_by (Some s) = s.node

abbrev pub given : Option ℕ → Source
given None = Fresh
given (Some t) = Given t

abbrev pub up : Option ℕ → Source
up None = Fresh
up (Some i) = Up i

abbrev pub down : ℕ → Option ℕ → Source
down c None = Fresh
down c (Some i) = Down c i

-- at a node's site the callee's term, else a new variable
abbrev pub back : Linked → (Template → Option ℕ) → Option ℕ → Source
back q which None = Fresh
back q which (Some c) = down c (option_and_then which (template_of q c))

abbrev pub global : Linked → ℕ → ℕ → Source
global q zero k = given (slice_get q.globals k)
global q (suc m) k = up (option_and_then (λ (s : SiteTerms). slice_get s.before k) (site_of q (suc m)))

abbrev pub argument : Linked → ℕ → ℕ → Source
argument q zero k = given (slice_get q.args k)
argument q (suc m) k = up (option_and_then (λ (s : SiteTerms). slice_get s.args k) (site_of q (suc m)))

abbrev pub by_role : Linked → ℕ → Option Role → Source
by_role q m None = Fresh
by_role q m (Some (Const k)) = given (slice_get q.consts k)
by_role q m (Some (Global k)) = global q m k
by_role q m (Some (In k)) = argument q m k
by_role q m (Some (Failed i)) = back q (λ (t : Template). Some t.fails) (kid q m i)
by_role q m (Some (Out i k)) = back q (λ (t : Template). slice_get t.outs k) (kid q m i)
by_role q m (Some (After i k)) = back q (λ (t : Template). slice_get t.globals k) (kid q m i)
by_role q m (Some Own) = Fresh

-- what stands in the place of a variable of a node's formula
abbrev pub source : Linked → ℕ → ℕ → Source
source q m number = by_role q m (role_of q m number)

abbrev pub IsVariable : Linked → ℕ → ℕ → ℕ → Sort → Type 0
IsVariable q m j number sort = slice_get (nodes_of q m) j ≡ Some (Variable number sort)

-- What stands in a variable's place has its sort, parents stand before their nodes, and what a callee takes from its caller stands before what the caller
-- takes from it.
pub record IsLinked (q : Linked) (base : List TermNode) : Type 0 where
  pub sorted : (m : ℕ) → m < length q.tree → IsSome (sorts (nodes_of q m))
  pub given : (m j number t : ℕ) (sort : Sort) → m < length q.tree → IsVariable q m j number sort → source q m number ≡ Given t → sort_at base t ≡ Some sort
  pub up : (m j number i : ℕ) (sort : Sort) → m < length q.tree → IsVariable q m j number sort → source q m number ≡ Up i
      → (parent q m < m) × (sort_at (nodes_of q (parent q m)) i ≡ Some sort)
  pub down : (m j number c i : ℕ) (sort : Sort) → m < length q.tree → IsVariable q m j number sort → source q m number ≡ Down c i
      → (m < c) × (c < length q.tree) × (sort_at (nodes_of q c) i ≡ Some sort)
      × ((j2 number2 i2 : ℕ) (sort2 : Sort) → IsVariable q c j2 number2 sort2 → source q c number2 ≡ Up i2 → (parent q c ≡ m) × (i2 < j))
