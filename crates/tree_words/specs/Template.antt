-- The formula of a procedure, as terms over variables of its own, what it says under values of these, and the terms of a question into which such formulas are
-- copied: a variable that stands for what comes from outside has the term itself in its place.
use Rattle.std.specs.Prelude.{◌≡◌, ◌<◌, ℕ, Bool, true, false, List, [], ◌∷◌, ◌++◌, map, length, slice_get, slice_index, Option, None, Some, IsSome, IsTrue}
use Rattle.hy_val.specs.declared.atom.AtomKind.TheVariants.{Bool as BoolAtom}
use Rattle.hy_val.specs.declared.value.Value.{Value}
use Rattle.hy_val.specs.declared.value.Value.TheVariants.{Atom as AtomValue}
use Rattle.hy_val.specs.Values.{at, is_on}
use Rattle.hy_term.specs.TermSorts.{sorts}
use Rattle.hy_term.specs.Meaning.{value, values, fits as sorts_fit}
use Rattle.hy_term.specs.Variables.{is_in, numbers}
use Rattle.tree_terms.specs.declared.linked.Role.{Role}
use Rattle.tree_terms.specs.declared.linked.Role.TheVariants.{Const, Global, In, Failed, Out, After, Own}
use Rattle.tree_terms.specs.declared.linked.SiteTerms.{SiteTerms}
use Rattle.hy_term.specs.declared.node.TermNode.{TermNode}
use Rattle.flat_prog.specs.Local.{Track, Request}
use Rattle.tree_terms.specs.Standing.{all_at}
use Rattle.tree_words.specs.View.{SiteView, NodeView}
use Rattle.tree_words.specs.Compose.{Returned, Viewer}

-- A formula, as contracts see it: its nodes, for each variable number what it stands for, how its run is read, its call sites by number, the nodes of the bools
-- that it ends and that it fails, and those of its outs and of all globals where it ends.
pub record Template : Type 0 where
  pub nodes : List TermNode
  pub role : ℕ → Role
  -- the run's own path, places and values, read off the values of the nodes
  pub track : List Value → Track
  pub sites : List SiteTerms
  pub ends : ℕ
  pub fails : ℕ
  pub outs : List ℕ
  pub globals : List ℕ

-- the view of a site, where the nodes of the formula have these values; one that is not there is not passed
abbrev pub site_by : List Value → Option SiteTerms → SiteView
site_by vs None = record { on = false; fails = false; call = record { proc = 0; globals = []; args = [] }; outs = []; globals = [] }
site_by vs (Some s) = record {
  on = is_on (at vs s.node);
  fails = is_on (at vs s.fails);
  call = record { proc = s.proc; globals = map (at vs) s.before; args = map (at vs) s.args };
  outs = map (at vs) s.outs;
  globals = map (at vs) s.after;
}

-- what the formula says where its nodes have these values
abbrev pub view_by : Template → List Value → NodeView
view_by t vs = record {
  ends = is_on (at vs t.ends);
  fails = is_on (at vs t.fails);
  outs = map (at vs) t.outs;
  globals = map (at vs) t.globals;
  track = t.track vs;
  site = λ i. site_by vs (slice_get t.sites i);
}

-- what the formula says under values of its variables
abbrev pub view_of : Template → (ℕ → Value) → NodeView
view_of t c = view_by t (values c t.nodes)

-- the number of a variable that stands in the nodes
abbrev pub Stands : Template → ℕ → Type 0
Stands t n = is_in n (numbers t.nodes) ≡ true

abbrev pub bool_value : Bool → Value
bool_value b = AtomValue (BoolAtom b)

-- the value of a variable by what it stands for: from the constants, the call, the node's own choices and what comes back
abbrev pub by_role : List Value → Request → (ℕ → Value) → (ℕ → Returned) → ℕ → Role → Value
by_role consts call own ret n (Const k) = at consts k
by_role consts call own ret n (Global k) = at call.globals k
by_role consts call own ret n (In k) = at call.args k
by_role consts call own ret n (Failed i) = bool_value (ret i).fails
by_role consts call own ret n (Out i k) = at (ret i).outs k
by_role consts call own ret n (After i k) = at (ret i).globals k
by_role consts call own ret n Own = own n

-- what it says from what it is called with, what it chooses, and what comes back
abbrev pub viewer_of : List Value → Template → Viewer
viewer_of consts t call own ret = view_of t (λ n. by_role consts call own ret n (t.role n))

-- ---- copies

-- each of these is a node
abbrev pub Within : List TermNode → List ℕ → Type 0
Within nodes [] = Unit {0}
Within nodes (t ∷ ts) = (t < length nodes) × Within nodes ts

-- what a site reads are nodes
pub record SiteFits (nodes : List TermNode) (s : SiteTerms) : Type 0 where
  pub args : Within nodes s.args
  pub before : Within nodes s.before

-- the nodes have their sorts, and what is handed over are nodes
pub record TemplateFits (t : Template) : Type 0 where
  pub sorted : IsSome (sorts t.nodes)
  pub fails : t.fails < length t.nodes
  pub outs : Within t.nodes t.outs
  pub globals : Within t.nodes t.globals
  pub sites : (i : ℕ) (s : SiteTerms) → slice_get t.sites i ≡ Some s → SiteFits t.nodes s

-- The term in the place of a variable of the node at a path is that of the constant, of what the caller passes, or of what the callee gives back; a new one
-- at open sites and for the node's own choices.
abbrev pub PutIs : (List ℕ → Bool) → (List ℕ → Template) → (place : List ℕ → ℕ → ℕ) → (consts globals args : List ℕ) → List ℕ → ℕ → Role → Type 0
PutIs is_node template place consts globals args p put (Const k) = (k < length consts) × (put ≡ slice_index consts k)
PutIs is_node template place consts globals args p put (Global k) = (k < length globals) × (put ≡ slice_index globals k)
PutIs is_node template place consts globals args p put (In k) = (k < length args) × (put ≡ slice_index args k)
PutIs is_node template place consts globals args p put (Failed i) = is_node (p ++ i ∷ []) ≡ true → put ≡ place (p ++ i ∷ []) (template (p ++ i ∷ [])).fails
PutIs is_node template place consts globals args p put (Out i k) =
    is_node (p ++ i ∷ []) ≡ true → (k < length (template (p ++ i ∷ [])).outs) × (put ≡ place (p ++ i ∷ []) (slice_index (template (p ++ i ∷ [])).outs k))
PutIs is_node template place consts globals args p put (After i k) =
    is_node (p ++ i ∷ []) ≡ true → (k < length (template (p ++ i ∷ [])).globals) × (put ≡ place (p ++ i ∷ []) (slice_index (template (p ++ i ∷ [])).globals k))
PutIs is_node template place consts globals args p put Own = Unit {0}

-- The formulas of the nodes, told by their paths, are copied into one list of terms: the copy of a node of a formula has the formula's value where the
-- variables have the values of the terms in their places. What a callee is called with are the caller's terms, and what comes back from a node is that node's.
pub record IsComposite (is_node : List ℕ → Bool) (template : List ℕ → Template) (into : List TermNode) (put place : List ℕ → ℕ → ℕ) (consts : List ℕ) (globals args : List ℕ → List ℕ)
    (proc : List ℕ → ℕ) : Type 0 where
  pub fits : (p : List ℕ) → is_node p ≡ true → TemplateFits (template p)
  pub copied : (p : List ℕ) → is_node p ≡ true → (a : ℕ → Value) → IsTrue (sorts_fit a into) → (k : ℕ) → k < length (template p).nodes
      → value a into (place p k) ≡ value (λ n. value a into (put p n)) (template p).nodes k
  pub puts : (p : List ℕ) → is_node p ≡ true → (n : ℕ) → Stands (template p) n → PutIs is_node template place consts (globals p) (args p) p (put p n) ((template p).role n)
  pub actuals : (p : List ℕ) (i : ℕ) → is_node (p ++ i ∷ []) ≡ true → is_node p ≡ true → (s : SiteTerms) × (slice_get (template p).sites i ≡ Some s)
      × (globals (p ++ i ∷ []) ≡ map (place p) s.before) × (args (p ++ i ∷ []) ≡ map (place p) s.args) × (proc (p ++ i ∷ []) ≡ s.proc)

-- the values of a node's variables, by the terms in their places
abbrev pub node_values : (ℕ → Value) → List TermNode → (List ℕ → ℕ → ℕ) → List ℕ → ℕ → Value
node_values a into put p n = value a into (put p n)

-- a variable that is free at a node has the value that is chosen; one that says of a callee that it fails has a bool's
abbrev pub Agrees : (List ℕ → Bool) → (ℕ → Value) → (ℕ → Returned) → List ℕ → ℕ → Value → Role → Type 0
Agrees is_node own chosen p n v (Const k) = Unit {0}
Agrees is_node own chosen p n v (Global k) = Unit {0}
Agrees is_node own chosen p n v (In k) = Unit {0}
Agrees is_node own chosen p n v (Failed i) = (is_node (p ++ i ∷ []) ≡ true → v ≡ bool_value (is_on v)) × (is_node (p ++ i ∷ []) ≡ false → v ≡ bool_value (chosen i).fails)
Agrees is_node own chosen p n v (Out i k) = is_node (p ++ i ∷ []) ≡ false → v ≡ at (chosen i).outs k
Agrees is_node own chosen p n v (After i k) = is_node (p ++ i ∷ []) ≡ false → v ≡ at (chosen i).globals k
Agrees is_node own chosen p n v Own = v ≡ own n

-- what a node is called with, by the terms that it is handed
abbrev pub called_with : (ℕ → Value) → List TermNode → (List ℕ → List ℕ) → (List ℕ → List ℕ) → (List ℕ → ℕ) → List ℕ → Request
called_with a into globals args proc p = record { proc = proc p; globals = all_at a into (globals p); args = all_at a into (args p) }
