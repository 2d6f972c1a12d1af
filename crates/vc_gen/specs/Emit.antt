-- The items of a block become terms: under every assignment these have the values that the items say.
use Rattle.flat_prog.specs.Sites.{numbers_from}
use Rattle.vc_gen.specs.Passages.{places_from}
use Rattle.std.specs.Prelude.{◌≡◌, ℕ, ◌+◌, ◌<◌, ◌≤◌, Bool, true, not, ◌&&◌, ◌||◌, List, [], ◌∷◌, ◌++◌, map, length, take, drop, slice_get, slice_index, Some, IsTrue, IsSome}
use Rattle.hy_val.specs.Values.{at, is_on}
use Rattle.hy_val.specs.Sorts.{zero_of_scalar}
use Rattle.hy_val.specs.declared.sort.Sort.{Sort}
use Rattle.hy_val.specs.declared.sort.SortKind.TheVariants.{Scalar as ScalarSort, Map as MapSort}
use Rattle.hy_val.specs.declared.value.Value.{Value}
use Rattle.hy_val.specs.declared.expr.ExprNode.{ExprNode}
use Rattle.hy_term.specs.TermSorts.{sorts, sort_at}
use Rattle.hy_term.specs.Meaning.{values, value, fits}
use Rattle.hy_term.specs.Variables.{below, reads}
use Rattle.hy_term.specs.declared.node.TermNode.{TermNode}
use Rattle.hy_term.specs.declared.node.TermNode.TheVariants.{Lit, ZeroMap, Variable}
use Rattle.passive_form.specs.Local.{sorted_as, replaced}
use Rattle.passive_form.specs.declared.Item.{Item}
use Rattle.passive_form.specs.declared.Item.TheVariants.{Let, Zero, Free, Need, Check, Site}
use Rattle.passive_form.specs.Versions.{from, look_at, Defined, eval_all}
use Rattle.vc_gen.specs.declared.parts.Draft.{Draft}
use Rattle.vc_gen.specs.declared.parts.SiteTerm.{SiteTerm}
use Rattle.vc_gen.specs.declared.parts.FailTerm.{FailTerm}
use Rattle.vc_gen.specs.declared.parts.ValueTerm.{ValueTerm}
use Rattle.vc_gen.specs.Taken.{true_values, ValuesThere, frees_in}
use Rattle.vc_gen.specs.Standing.{Later, Plain, AreOf, variables_in}
use Rattle.vc_gen.specs.Laid.{site_laid, calls_laid}
use Rattle.vc_gen.specs.Singly.{assert_place, checks_at}
use Rattle.vc_gen.specs.Fitting.{SortsAre}
use Rattle.vc_gen.specs.Items.{bool_sort, AllRead, sorts_of_all, made_by, made, chosen, ItemFits, ItemsFit, SiteMeans, FailMeans, inputs, on_end, fails_in, sites_in, asserts_in}

-- the constants and the versions, whose sorts are known, and the bits stand in the nodes; new variables are above all others
pub record Stands (nodes : List TermNode) (cs : List ℕ) (d : Draft) (csorts vsorts : List Sort) : Type 0 where
  pub sound : IsSome (sorts nodes)
  pub consts : AreOf nodes cs csorts
  pub versions : AreOf nodes d.versions vsorts
  pub cond : sort_at nodes d.cond ≡ Some bool_sort
  pub fails : sort_at nodes d.fails ≡ Some bool_sort
  pub next : IsTrue (below d.next nodes)

-- the bit of a term that is added, from those of terms that were there
pub record Bit (old new : List TermNode) (t : ℕ) (bit : (ℕ → Value) → Bool) : Type 0 where
  pub sort : sort_at new t ≡ Some bool_sort
  pub means : (a : ℕ → Value) → IsTrue (fits a old) → is_on (value a new t) ≡ bit a

abbrev pub IsBoth : List TermNode → List TermNode → ℕ → ℕ → ℕ → Type 0
IsBoth old new left right t = Bit old new t (λ a. is_on (value a old left) && is_on (value a old right))

abbrev pub IsEither : List TermNode → List TermNode → ℕ → ℕ → ℕ → Type 0
IsEither old new left right t = Bit old new t (λ a. is_on (value a old left) || is_on (value a old right))

abbrev pub IsNot : List TermNode → List TermNode → ℕ → ℕ → Type 0
IsNot old new child t = Bit old new t (λ a. not (is_on (value a old child)))

-- all that an item asks for
pub record ItemReady (nodes : List TermNode) (cs : List ℕ) (d : Draft) (item : Item) : Type 0 where
  pub csorts : List Sort
  pub vsorts : List Sort
  pub stands : Stands nodes cs d csorts vsorts
  pub fit : ItemFits csorts vsorts item

-- all that the items of a block ask for
pub record ItemsReady (nodes : List TermNode) (cs : List ℕ) (d : Draft) (items : List Item) : Type 0 where
  pub csorts : List Sort
  pub vsorts : List Sort
  pub stands : Stands nodes cs d csorts vsorts
  pub fit : ItemsFit csorts vsorts items

-- the constants' and the versions' values are those of their terms
pub record Meant (a : ℕ → Value) (nodes : List TermNode) (cs versions : List ℕ) (consts : List Value) (vals : ℕ → Value) : Type 0 where
  pub consts_are : map (at (values a nodes)) cs ≡ consts
  pub each : (v t : ℕ) → slice_get versions v ≡ Some t → vals v ≡ value a nodes t

-- variables of these sorts, numbered from k on
abbrev pub row_of : ℕ → List Sort → List TermNode
row_of k [] = []
row_of k (s ∷ ss) = Variable k s ∷ row_of (k + 1) ss

-- new variables of these sorts, numbered on, have become versions
pub record Fresh (old : List TermNode) (d : Draft) (sorts : List Sort) (new : List TermNode) (e : Draft) : Type 0 where
  pub later : Later old new
  pub more : List ℕ
  pub draft_is : e ≡ record d { versions = d.versions ++ more; next = d.next + length sorts }
  pub nodes_are : new ≡ old ++ row_of d.next sorts
  pub more_are : more ≡ from (length old) sorts
  pub are : AreOf new more sorts
  pub below : IsTrue (below e.next new)
  pub read : (a : ℕ → Value) → map (at (values a new)) more ≡ reads a d.next (length sorts)
  pub fit : (a : ℕ → Value) → IsTrue (fits a old) → sorted_as sorts (reads a d.next (length sorts)) ≡ true → IsTrue (fits a new)

-- the same, while they are made
pub record FreshSoFar (old : List TermNode) (d : Draft) (sorts : List Sort) (new : List TermNode) (e : Draft) (made : List ℕ) : Type 0 where
  pub fresh : Fresh old d sorts new e
  pub versions : e.versions ≡ d.versions ++ made

-- the node that is a sort's zero
abbrev pub zero_node : Sort → TermNode
zero_node (ScalarSort s) = Lit (zero_of_scalar s)
zero_node (MapSort index elem) = ZeroMap index elem

-- what the terms of a site mean
abbrev pub site_value : (ℕ → Value) → List TermNode → SiteTerm → SiteMeans
site_value a nodes s = record {
  proc = s.proc;
  on = is_on (value a nodes s.node);
  args = map (at (values a nodes)) s.args;
  before = map (at (values a nodes)) s.globals_before;
  outs = map (at (values a nodes)) s.outs;
  changed = map (at (values a nodes)) s.changed;
  after = map (at (values a nodes)) s.globals_after;
  fails = is_on (value a nodes s.fails);
}

abbrev pub fail_value : (ℕ → Value) → List TermNode → FailTerm → FailMeans
fail_value a nodes f = record { block = f.block; position = f.position; fails = is_on (value a nodes f.node) }

-- nodes that are variables of these sorts, numbered from k on
abbrev pub AreVariables : List TermNode → List ℕ → ℕ → List Sort → Type 0
AreVariables nodes [] k [] = Unit {0}
AreVariables nodes [] k (s ∷ ss) = ⊥
AreVariables nodes (t ∷ ts) k [] = ⊥
AreVariables nodes (t ∷ ts) k (s ∷ ss) = (slice_get nodes t ≡ Some (Variable k s)) × AreVariables nodes ts (k + 1) ss

-- all of these nodes stand before a node, or behind it
abbrev pub AllBefore : ℕ → List ℕ → Type 0
AllBefore n [] = Unit {0}
AllBefore n (t ∷ ts) = (t < n) × AllBefore n ts

abbrev pub AllBehind : ℕ → List ℕ → Type 0
AllBehind n [] = Unit {0}
AllBehind n (t ∷ ts) = (n < t) × AllBehind n ts

-- The terms of a site are there. The run fails in it where it comes to it and the callee fails. What it is asked for stands before its variables,
-- which are one node each, and no variable before them has their numbers.
pub record SiteThere (nodes : List TermNode) (s : SiteTerm) : Type 0 where
  pub node : sort_at nodes s.node ≡ Some bool_sort
  pub args : (sorts : List Sort) × AreOf nodes s.args sorts
  pub before : (sorts : List Sort) × AreOf nodes s.globals_before sorts
  pub outs : (sorts : List Sort) × AreOf nodes s.outs sorts
  pub changed : (sorts : List Sort) × AreOf nodes s.changed sorts
  pub after : (sorts : List Sort) × AreOf nodes s.globals_after sorts
  pub fails : sort_at nodes s.fails ≡ Some bool_sort
  pub failed : sort_at nodes s.failed ≡ Some bool_sort
  pub fails_is : (a : ℕ → Value) → IsTrue (fits a nodes) → is_on (value a nodes s.fails) ≡ (is_on (value a nodes s.node) && is_on (value a nodes s.failed))
  pub variables : (sorts : List Sort) × AreVariables nodes (s.failed ∷ (s.outs ++ s.changed)) s.first sorts
  pub args_before : AllBefore s.failed s.args
  pub globals_before : AllBefore s.failed s.globals_before
  pub others_behind : AllBehind s.failed (s.outs ++ s.changed)
  pub numbers : IsTrue (below s.first (take s.failed nodes))
  pub after_is : (changes : List Bool) × (s.globals_after ≡ replaced changes s.globals_before s.changed)

abbrev pub SitesThere : List TermNode → List SiteTerm → Type 0
SitesThere nodes [] = Unit {0}
SitesThere nodes (s ∷ ss) = SiteThere nodes s × SitesThere nodes ss

abbrev pub FailsThere : List TermNode → List FailTerm → Type 0
FailsThere nodes [] = Unit {0}
FailsThere nodes (f ∷ fs) = (sort_at nodes f.node ≡ Some bool_sort) × FailsThere nodes fs

-- the terms of a call have the sorts that its item says
pub record SiteIs (nodes : List TermNode) (p : ℕ) (outs : List Sort) (changes : List Bool) (after : List Sort) (s : SiteTerm) : Type 0 where
  pub proc_is : s.proc ≡ p
  pub outs_are : AreOf nodes s.outs outs
  pub changed_are : AreOf nodes s.changed after
  pub after_is : s.globals_after ≡ replaced changes s.globals_before s.changed

-- one site for each call
abbrev pub SitesOf : List TermNode → List Item → List SiteTerm → Type 0
SitesOf nodes [] [] = Unit {0}
SitesOf nodes [] (t ∷ ts) = ⊥
SitesOf nodes (Let v e ∷ items) ts = SitesOf nodes items ts
SitesOf nodes (Zero v s ∷ items) ts = SitesOf nodes items ts
SitesOf nodes (Free v s ∷ items) ts = SitesOf nodes items ts
SitesOf nodes (Need e ∷ items) ts = SitesOf nodes items ts
SitesOf nodes (Check p e ∷ items) ts = SitesOf nodes items ts
SitesOf nodes (Site p f args before outs changes after ∷ items) [] = ⊥
SitesOf nodes (Site p f args before outs changes after ∷ items) (t ∷ ts) = SiteIs nodes p outs changes after t × SitesOf nodes items ts

-- What a call is asked for has the sorts that its item says: the arguments those of their expressions, the globals before it those of their versions.
pub record SiteAsks (nodes : List TermNode) (vsorts : List Sort) (p : ℕ) (args : List (List ExprNode)) (before : List ℕ) (s : SiteTerm) : Type 0 where
  pub proc_is : s.proc ≡ p
  pub args_are : AreOf nodes s.args (sorts_of_all args)
  pub before_are : (ss : List Sort) → SortsAre vsorts before ss → AreOf nodes s.globals_before ss

-- the same of each call, behind versions of these sorts
abbrev pub SitesAsk : List TermNode → List Sort → List Item → List SiteTerm → Type 0
SitesAsk nodes vsorts [] [] = Unit {0}
SitesAsk nodes vsorts [] (t ∷ ts) = ⊥
SitesAsk nodes vsorts (Let v e ∷ items) ts = SitesAsk nodes (vsorts ++ made_by (Let v e)) items ts
SitesAsk nodes vsorts (Zero v s ∷ items) ts = SitesAsk nodes (vsorts ++ made_by (Zero v s)) items ts
SitesAsk nodes vsorts (Free v s ∷ items) ts = SitesAsk nodes (vsorts ++ made_by (Free v s)) items ts
SitesAsk nodes vsorts (Need e ∷ items) ts = SitesAsk nodes (vsorts ++ made_by (Need e)) items ts
SitesAsk nodes vsorts (Check p e ∷ items) ts = SitesAsk nodes (vsorts ++ made_by (Check p e)) items ts
SitesAsk nodes vsorts (Site p f args before outs changes after ∷ items) [] = ⊥
SitesAsk nodes vsorts (Site p f args before outs changes after ∷ items) (t ∷ ts) =
    SiteAsks nodes vsorts p args before t × SitesAsk nodes (vsorts ++ made_by (Site p f args before outs changes after)) items ts

-- where a call stands: its block, and its number there
abbrev pub site_place : SiteTerm → ℕ × ℕ
site_place s = (s.block, s.call)

-- what holds under an assignment that gives the versions these values
pub record Says (cs : List ℕ) (block : ℕ) (old : List TermNode) (d : Draft) (items : List Item) (new : List TermNode) (e : Draft) (sites : List SiteTerm) (asserts : List FailTerm)
    (a : ℕ → Value) (consts : List Value) (vals : ℕ → Value) : Type 0 where
  pub defined : Defined consts vals items
  pub on : is_on (value a new e.cond) ≡ on_end consts vals (is_on (value a old d.cond)) items
  pub fails : is_on (value a new e.fails) ≡ fails_in consts vals (is_on (value a old d.cond)) (is_on (value a old d.fails)) items
  pub inputs_are : inputs vals items ≡ reads a d.next (length (chosen items))
  pub sites_are : map (site_value a new) sites ≡ sites_in consts vals (is_on (value a old d.cond)) items
  pub asserts_are : map (fail_value a new) asserts ≡ asserts_in block consts vals (is_on (value a old d.cond)) items

-- the items have become terms
pub record Step (cs : List ℕ) (block : ℕ) (old : List TermNode) (d : Draft) (items : List Item) (new : List TermNode) (e : Draft) : Type 0 where
  pub later : Later old new
  pub more : List ℕ
  pub versions : e.versions ≡ d.versions ++ more
  pub are : AreOf new more (made items)
  pub cond : sort_at new e.cond ≡ Some bool_sort
  pub fails : sort_at new e.fails ≡ Some bool_sort
  pub next : e.next ≡ d.next + length (chosen items)
  pub below : IsTrue (below e.next new)
  pub sites : List SiteTerm
  pub sites_there : SitesThere new sites
  pub sites_of : SitesOf new items sites
  pub sites_behind : e.sites ≡ d.sites ++ sites
  pub asked : (csorts vsorts : List Sort) → Stands old cs d csorts vsorts → SitesAsk new vsorts items sites
  pub numbered : map site_place sites ≡ places_from block d.calls (length sites)
  pub laid : map site_laid sites ≡ calls_laid block d.calls d.next items
  pub calls : e.calls ≡ d.calls + length sites
  pub variables : variables_in new ≡ variables_in old ++ numbers_from d.next (length (chosen items))
  pub asserts : List FailTerm
  pub asserts_there : FailsThere new asserts
  pub asserts_behind : e.asserts ≡ d.asserts ++ asserts
  pub checked : map assert_place asserts ≡ checks_at block items
  pub values : List ValueTerm
  pub values_there : ValuesThere new values
  pub values_behind : e.values ≡ d.values ++ values
  pub taken : (a : ℕ → Value) (consts : List Value) (vals : ℕ → Value) → IsTrue (fits a new) → Meant a new cs e.versions consts vals → true_values a new values ≡ frees_in consts vals (is_on (value a old d.cond)) items
  pub says : (a : ℕ → Value) (consts : List Value) (vals : ℕ → Value) → IsTrue (fits a new) → Meant a new cs e.versions consts vals → Says cs block old d items new e sites asserts a consts vals
  pub fit : (a : ℕ → Value) → IsTrue (fits a old) → sorted_as (chosen items) (reads a d.next (length (chosen items))) ≡ true → IsTrue (fits a new)

-- the run goes on where one bit holds, and fails where the other is true; t says that it fails here
pub record Passed (old : List TermNode) (d : Draft) (holds broken : ℕ) (new : List TermNode) (e : Draft) (t : ℕ) : Type 0 where
  pub draft_is : e ≡ record d { cond = e.cond; fails = e.fails }
  pub sort : sort_at new t ≡ Some bool_sort
  pub cond : sort_at new e.cond ≡ Some bool_sort
  pub fails : sort_at new e.fails ≡ Some bool_sort
  pub here : (a : ℕ → Value) → IsTrue (fits a old) → is_on (value a new t) ≡ (is_on (value a old d.cond) && is_on (value a old broken))
  pub goes : (a : ℕ → Value) → IsTrue (fits a old) → is_on (value a new e.cond) ≡ (is_on (value a old d.cond) && is_on (value a old holds))
  pub failed : (a : ℕ → Value) → IsTrue (fits a old) → is_on (value a new e.fails) ≡ (is_on (value a old d.fails) || (is_on (value a old d.cond) && is_on (value a old broken)))

-- the arguments of a call: expressions over constants and versions of known sorts
pub record ArgsReady (nodes : List TermNode) (cs versions : List ℕ) (args : List (List ExprNode)) : Type 0 where
  pub csorts : List Sort
  pub vsorts : List Sort
  pub sound : IsSome (sorts nodes)
  pub consts : AreOf nodes cs csorts
  pub are : AreOf nodes versions vsorts
  pub reads : AllRead csorts vsorts args

-- their terms have their values
pub record ArgsSay (old : List TermNode) (cs versions : List ℕ) (args : List (List ExprNode)) (new : List TermNode) (ts : List ℕ) : Type 0 where
  pub later : Later old new
  pub plain : Plain old new
  pub sorts : List Sort
  pub are : AreOf new ts sorts
  pub sorts_are : sorts ≡ sorts_of_all args
  pub values_are : (a : ℕ → Value) (consts : List Value) (vals : ℕ → Value) → Meant a old cs versions consts vals → map (at (values a new)) ts ≡ eval_all (look_at consts vals) args

-- the terms of versions
abbrev pub terms_of : List ℕ → List ℕ → List ℕ
terms_of versions vs = map (slice_index versions) vs

-- what is left behind i globals, of which j are replaced
abbrev pub left : List Bool → List ℕ → List ℕ → ℕ → ℕ → List ℕ
left ms xs ys i j = replaced (drop i ms) (drop i xs) (drop j ys)

-- the terms of all globals behind a call, so far
abbrev pub Behind : List Bool → List ℕ → List ℕ → ℕ → ℕ → List ℕ → Type 0
Behind ms xs ys i j found = (found ++ left ms xs ys i j ≡ replaced ms xs ys) × (j ≤ length ys)
