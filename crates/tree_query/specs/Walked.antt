-- What the table of a tree says of its nodes, by number and by path.
use Rattle.std.specs.Prelude.{◌≡◌, ◌<◌, ℕ, suc, List, [], length, slice_get, Option, None, Some}
use Rattle.flat_prog.specs.Program.{FlatProgram}
use Rattle.call_tree.specs.Trees.{has_path, IsPartTree, proc_at}
use Rattle.tree_terms.specs.declared.linked.Linked.{Linked}
use Rattle.tree_terms.specs.declared.linked.SiteTerms.{SiteTerms}
use Rattle.tree_terms.specs.Linked.{template_of, parent, kid, site_of}
use Rattle.tree_words.specs.Linking.{is_node_of, sites_by, proc_of}
use Rattle.tree_words.specs.Assigning.{ArePaths}
use Rattle.tree_query.specs.Tabled.{HaveSites, IsTabled}

abbrev pub path_or : Option (List ℕ) → List ℕ
path_or None = []
path_or (Some p) = p

-- the path of a tree's place
abbrev pub path_at : List (List ℕ) → ℕ → List ℕ
path_at tree m = path_or (slice_get tree m)

-- the node c at the site i of a node stands behind it, and is called there
pub record IsKid (q : Linked) (m i c : ℕ) : Type 0 where
  pub behind : m < c
  pub there : c < length q.tree
  pub caller : parent q c ≡ m
  pub site : SiteTerms
  pub site_there : slice_get (sites_by (template_of q m)) i ≡ Some site
  pub called : site_of q c ≡ Some site

-- a node is called at a site of one before it, which calls the procedure to which its path leads
pub record IsCalled (flat : FlatProgram) (entry : ℕ) (tree : List (List ℕ)) (q : Linked) (m : ℕ) : Type 0 where
  pub site : SiteTerms
  pub is : site_of q m ≡ Some site
  pub caller : parent q m < m
  pub calls : site.proc ≡ proc_at flat entry (path_at tree m)

-- The table's nodes are those of the tree's paths, in its order: the paths lead to them, and to no others; the nodes at a node's sites are called there;
-- each has the formula of the procedure to which its path leads.
pub record IsWalked (flat : FlatProgram) (entry : ℕ) (tree : List (List ℕ)) (q : Linked) : Type 0 where
  pub count : length q.tree ≡ length tree
  pub root : 0 < length q.tree
  pub paths : ArePaths q (path_at tree)
  pub nodes : (p : List ℕ) → is_node_of q p ≡ has_path tree p
  pub kids : (m i c : ℕ) → m < length q.tree → kid q m i ≡ Some c → IsKid q m i c
  pub calls : (m : ℕ) → suc m < length q.tree → IsCalled flat entry tree q (suc m)
  pub procs : (m : ℕ) → m < length q.tree → proc_of q entry m ≡ proc_at flat entry (path_at tree m)
  pub formulas : (m : ℕ) → m < length q.tree → template_of q m ≡ slice_get q.templates (proc_at flat entry (path_at tree m))

-- the table of a partial tree says this
abbrev pub TablesAreWalked : Type 0
TablesAreWalked = (flat : FlatProgram) (entry bound : ℕ) (tree : List (List ℕ)) (q : Linked) → IsPartTree flat entry bound tree → HaveSites flat q.templates → IsTabled flat entry tree q → IsWalked flat entry tree q
