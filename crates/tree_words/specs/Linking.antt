-- The tree of calls and the copies of its formulas, which the program keeps by the numbers of nodes, by the paths to them.
use Rattle.std.specs.Prelude.{◌≡◌, ◌<◌, ℕ, zero, suc, Bool, List, [], ◌∷◌, map, length, slice_get, slice_index, Option, None, Some, is_some, if◌then◌else◌}
use Rattle.std.specs.Option.{option_and_then}
use Rattle.hy_val.specs.declared.sort.Sort.{Sort}
use Rattle.hy_val.specs.declared.value.Value.{Value}
use Rattle.hy_term.specs.TermSorts.{named}
use Rattle.hy_term.specs.declared.node.TermNode.{TermNode}
use Rattle.flat_prog.specs.Local.{Track}
use Rattle.tree_terms.specs.declared.linked.Linked.{Linked}
use Rattle.tree_terms.specs.declared.linked.Role.{Role}
use Rattle.tree_terms.specs.declared.linked.Role.TheVariants.{Const, Global, In, Failed, Out, After, Own}
use Rattle.tree_terms.specs.declared.linked.SiteTerms.{SiteTerms}
use Rattle.tree_terms.specs.declared.linked.Template.{Template as Formula}
use Rattle.tree_terms.specs.Linked.{template_of, nodes_of, parent, kid, role_of, site_of, IsVariable}
use Rattle.tree_terms.specs.Copying.{AreCopied}
use Rattle.tree_terms.specs.Tables.{row}
use Rattle.tree_words.specs.Template.{Template, TemplateFits, IsComposite}

-- the node at the end of these sites, from a node; None where a site on the way is open
abbrev pub walk : Linked → ℕ → List ℕ → Option ℕ
walk q m [] = Some m
walk q m (i ∷ p) = option_and_then (λ c. walk q c p) (kid q m i)

-- a number that is not there is read as 0
abbrev pub number_or : Option ℕ → ℕ
number_or None = 0
number_or (Some m) = m

-- the path leads to a node, and to the node of this number
abbrev pub is_node_of : Linked → List ℕ → Bool
is_node_of q p = is_some (walk q 0 p)

abbrev pub number : Linked → List ℕ → ℕ
number q p = number_or (walk q 0 p)

-- the parts of a formula that may be missing
abbrev pub role_or : Option Role → Role
role_or None = Own
role_or (Some r) = r

abbrev pub sites_by : Option Formula → List SiteTerms
sites_by None = []
sites_by (Some t) = t.sites

abbrev pub ends_by : Option Formula → ℕ
ends_by None = 0
ends_by (Some t) = t.ends

abbrev pub fails_by : Option Formula → ℕ
fails_by None = 0
fails_by (Some t) = t.fails

abbrev pub outs_by : Option Formula → List ℕ
outs_by None = []
outs_by (Some t) = t.outs

abbrev pub globals_by : Option Formula → List ℕ
globals_by None = []
globals_by (Some t) = t.globals

-- the formula of the node of a number, as contracts see it; track reads the run's own path, places and values off the values of its nodes
abbrev pub formula : Linked → (Option Formula → List Value → Track) → ℕ → Template
formula q track m = record {
  nodes = nodes_of q m;
  role = λ n. role_or (role_of q m n);
  track = track (template_of q m);
  sites = sites_by (template_of q m);
  ends = ends_by (template_of q m);
  fails = fails_by (template_of q m);
  outs = outs_by (template_of q m);
  globals = globals_by (template_of q m);
}

abbrev pub template_at : Linked → (Option Formula → List Value → Track) → List ℕ → Template
template_at q track p = formula q track (number q p)

-- the copy of a node of the formula of the node at a path
abbrev pub place_at : Linked → List (List ℕ) → List ℕ → ℕ → ℕ
place_at q places p k = slice_index (row places (number q p)) k

-- the place of the first node that is the variable of a number
abbrev pub first_at : ℕ → List TermNode → ℕ
first_at n [] = 0
first_at n (node ∷ nodes) = if is_some (named n node) then 0 else suc (first_at n nodes)

-- the term in the place of a variable of the node at a path
abbrev pub put_at : Linked → List (List ℕ) → List ℕ → ℕ → ℕ
put_at q places p n = place_at q places p (first_at n (nodes_of q (number q p)))

-- what a site passes, and whom it calls; nothing where there is none
abbrev pub before_by : Option SiteTerms → List ℕ
before_by None = []
before_by (Some s) = s.before

abbrev pub args_by : Option SiteTerms → List ℕ
args_by None = []
args_by (Some s) = s.args

abbrev pub proc_by : Option SiteTerms → ℕ
proc_by None = 0
proc_by (Some s) = s.proc

-- The terms of what a node is called with: of the globals, of the ins, and the procedure. The root's are given.
abbrev pub globals_of : Linked → List (List ℕ) → ℕ → List ℕ
globals_of q places zero = q.globals
globals_of q places (suc m) = map (slice_index (row places (parent q (suc m)))) (before_by (site_of q (suc m)))

abbrev pub args_of : Linked → List (List ℕ) → ℕ → List ℕ
args_of q places zero = q.args
args_of q places (suc m) = map (slice_index (row places (parent q (suc m)))) (args_by (site_of q (suc m)))

abbrev pub proc_of : Linked → ℕ → ℕ → ℕ
proc_of q entry zero = entry
proc_of q entry (suc m) = proc_by (site_of q (suc m))

-- what a variable stands for is there
abbrev pub GlobalIs : Linked → ℕ → ℕ → Type 0
GlobalIs q zero k = k < length q.globals
GlobalIs q (suc m) k = (s : SiteTerms) × (site_of q (suc m) ≡ Some s) × (k < length s.before)

abbrev pub InIs : Linked → ℕ → ℕ → Type 0
InIs q zero k = k < length q.args
InIs q (suc m) k = (s : SiteTerms) × (site_of q (suc m) ≡ Some s) × (k < length s.args)

abbrev pub IsThere : Linked → ℕ → Role → Type 0
IsThere q m (Const k) = k < length q.consts
IsThere q m (Global k) = GlobalIs q m k
IsThere q m (In k) = InIs q m k
IsThere q m (Failed i) = Unit {0}
IsThere q m (Out i k) = (c : ℕ) → kid q m i ≡ Some c → k < length (outs_by (template_of q c))
IsThere q m (After i k) = (c : ℕ) → kid q m i ≡ Some c → k < length (globals_by (template_of q c))
IsThere q m Own = Unit {0}

-- Each node has a formula, with all that its variables stand for: each variable is one node of it, and the node at a site of a node stands behind it and is
-- called there.
pub record IsFilled (q : Linked) (track : Option Formula → List Value → Track) : Type 0 where
  pub root : 0 < length q.tree
  pub formulas : (m : ℕ) → m < length q.tree → (t : Formula) × (template_of q m ≡ Some t)
  pub fits : (m : ℕ) → m < length q.tree → TemplateFits (formula q track m)
  pub once : (m j n : ℕ) (sort : Sort) → m < length q.tree → IsVariable q m j n sort → first_at n (nodes_of q m) ≡ j
  pub kids : (m i c : ℕ) → m < length q.tree → kid q m i ≡ Some c → (m < c) × (c < length q.tree) × (parent q c ≡ m)
      × (s : SiteTerms) × (slice_get (sites_by (template_of q m)) i ≡ Some s) × (site_of q c ≡ Some s)
  pub there : (m j n : ℕ) (sort : Sort) → m < length q.tree → IsVariable q m j n sort → IsThere q m (role_or (role_of q m n))

-- the copies are put together
abbrev pub CopiedAreComposite : Type 0
CopiedAreComposite =
    (q : Linked) (track : Option Formula → List Value → Track) (entry : ℕ) (base into : List TermNode) (places : List (List ℕ)) → IsFilled q track → AreCopied q base into places
    → IsComposite (is_node_of q) (template_at q track) into (put_at q places) (place_at q places) q.consts (λ p. globals_of q places (number q p)) (λ p. args_of q places (number q p))
    (λ p. proc_of q entry (number q p))
