-- A procedure becomes terms: what is asked for, and what its parts are.
use Rattle.flat_prog.specs.Shape.{IsFlat}
use Rattle.flat_prog.specs.Program.{FlatProgram}
use Rattle.flat_prog.specs.Once.{numbers_differ}
use Rattle.flat_prog.specs.Sites.{numbers_from}
use Rattle.std.specs.Prelude.{◌≡◌, ℕ, ◌+◌, Bool, true, List, ◌++◌, map, length, Some, slice_get, IsTrue, IsSome}
use Rattle.hy_val.specs.Values.{is_on}
use Rattle.hy_val.specs.declared.value.Value.{Value}
use Rattle.hy_term.specs.TermSorts.{sorts, sort_at}
use Rattle.hy_term.specs.Meaning.{value}
use Rattle.hy_term.specs.Variables.{below}
use Rattle.hy_term.specs.declared.node.TermNode.{TermNode}
use Rattle.flat_prog.specs.declared.block.FlatBlock.{FlatBlock}
use Rattle.flat_prog.specs.declared.proc.FlatProc.{FlatProc}
use Rattle.passive_form.specs.Limited.{Limited, limited}
use Rattle.flat_prog.specs.Ordering.{is_in, Onward}
use Rattle.passive_form.specs.WellSorted.{ProcSorted}
use Rattle.passive_form.specs.Laws.{cmds_there, AllThere, IsPassiveOf}
use Rattle.passive_form.specs.declared.Passive.{Passive}
use Rattle.passive_form.specs.Making.{passive_of}
use Rattle.vc_gen.specs.declared.parts.Actuals.{Actuals}
use Rattle.vc_gen.specs.declared.parts.Instance.{Instance}
use Rattle.vc_gen.specs.declared.parts.Wait.{Wait}
use Rattle.vc_gen.specs.Standing.{AreOf, variables_in}
use Rattle.vc_gen.specs.Emit.{SitesThere}
use Rattle.vc_gen.specs.Signed.{SitesSigned, SitesAsked}
use Rattle.vc_gen.specs.Laid.{site_laid, sites_laid}
use Rattle.vc_gen.specs.Singly.{FailsOnce, assert_place, asserts_laid}
use Rattle.vc_gen.specs.Plans.{EndsPlanned, FailsPlanned}
use Rattle.vc_gen.specs.Taken.{ValuesThere}
use Rattle.vc_gen.specs.Valued.{BuiltValued, EndsValued, FailsValued}
use Rattle.vc_gen.specs.Items.{bool_sort}
use Rattle.vc_gen.specs.Fitting.{PassiveFits}
use Rattle.vc_gen.specs.Instance.{NeverBoth, PartsThere, EndsSound, EndsComplete, FailsSound, FailsComplete, EndsPlaced, FailsPlaced, IsRoom, start_sorts}

-- a literal
pub record IsLiteral (nodes : List TermNode) (t : ℕ) (bit : Bool) : Type 0 where
  pub sort : sort_at nodes t ≡ Some bool_sort
  pub means : (a : ℕ → Value) → is_on (value a nodes t) ≡ bit

-- the actuals' terms are there with their sorts, and all variables are below the first new number
pub record InstanceReady (nodes : List TermNode) (p : Passive) (actuals : Actuals) (next : ℕ) : Type 0 where
  pub sound : IsSome (sorts nodes)
  pub consts : AreOf nodes actuals.consts p.consts
  pub globals : AreOf nodes actuals.globals p.globals
  pub args : AreOf nodes actuals.args p.ins
  pub below : IsTrue (below next nodes)
  pub fit : PassiveFits p

-- an order of all blocks in which edges lead on
pub record IsOrder (flat : Limited) (q : FlatProc) (order : List ℕ) : Type 0 where
  pub onward : Onward q order
  pub first : is_in 0 order ≡ true
  pub all : (n : ℕ) (b : FlatBlock) → slice_get q.blocks n ≡ Some b → is_in n order ≡ true
  pub there : AllThere flat q order

-- the variables that the new nodes add are one node each, numbered on in order; the next number is free
pub record NewVariables (old : List TermNode) (k : ℕ) (new : List TermNode) (next : ℕ) : Type 0 where
  pub count : ℕ
  pub numbers : variables_in new ≡ variables_in old ++ numbers_from k count
  pub next_is : next ≡ k + count
  pub below : IsTrue (below next new)

-- the terms of the passive form of a procedure
abbrev pub IsBuilt : List TermNode → Passive → Actuals → ℕ → List TermNode → Instance → Type 0
IsBuilt old p actuals k new i = (flat : Limited) (q : FlatProc) (order : List ℕ) → p ≡ passive_of flat q order → AllThere flat q order →
    (left : List Wait) × BuiltValued flat q order actuals k old new left i.ended i.fails i.outs i.globals i.edges i.sites i.values
    × PartsThere flat.globals q.outs new i.ended i.fails i.outs i.globals i.edges i.asserts × IsRoom flat q order k old new i.next × FailsOnce new i.fails i.asserts i.sites × (map assert_place i.asserts ≡ asserts_laid q order)

-- the assignments that make `ended` true are the runs that end
abbrev pub SaysEnds : List TermNode → Passive → Actuals → ℕ → List TermNode → Instance → Type 0
SaysEnds old p actuals k new i = (flat : Limited) (q : FlatProc) (order : List ℕ) → p ≡ passive_of flat q order → AllThere flat q order → EndsSound flat q order actuals k new i.ended i.outs i.globals i.edges i.sites

-- and each run that ends has one, whatever the old variables are
abbrev pub HasEnds : List TermNode → Passive → Actuals → ℕ → List TermNode → Instance → Type 0
HasEnds old p actuals k new i = (flat : Limited) (q : FlatProc) (order : List ℕ) → p ≡ passive_of flat q order → IsOrder flat q order → EndsComplete flat q order actuals k old new i.ended i.outs i.globals i.edges i.sites

-- the assignments that make `fails` true are the runs that fail
abbrev pub SaysFails : List TermNode → Passive → Actuals → ℕ → List TermNode → Instance → Type 0
SaysFails old p actuals k new i = (flat : Limited) (q : FlatProc) (order : List ℕ) → p ≡ passive_of flat q order → AllThere flat q order → FailsSound flat q order actuals k new i.fails i.edges i.sites

abbrev pub HasFails : List TermNode → Passive → Actuals → ℕ → List TermNode → Instance → Type 0
HasFails old p actuals k new i = (flat : Limited) (q : FlatProc) (order : List ℕ) → p ≡ passive_of flat q order → IsOrder flat q order → FailsComplete flat q order actuals k old new i.fails i.edges i.sites

-- each run that ends settles some variables, none of them of what it doesn't pass; whatever the others are, the terms say the run
abbrev pub PlansEnds : List TermNode → Passive → Actuals → ℕ → List TermNode → Instance → Type 0
PlansEnds old p actuals k new i = (flat : Limited) (q : FlatProc) (order : List ℕ) → p ≡ passive_of flat q order → IsOrder flat q order → EndsPlanned flat q order actuals k old new i.ended i.outs i.globals i.edges i.sites

abbrev pub PlansFails : List TermNode → Passive → Actuals → ℕ → List TermNode → Instance → Type 0
PlansFails old p actuals k new i = (flat : Limited) (q : FlatProc) (order : List ℕ) → p ≡ passive_of flat q order → IsOrder flat q order → FailsPlanned flat q order actuals k old new i.fails i.edges i.sites

abbrev pub SaysOne : Passive → List TermNode → Instance → Type 0
SaysOne p new i = (flat : Limited) (q : FlatProc) (order : List ℕ) → p ≡ passive_of flat q order → AllThere flat q order → NeverBoth new i.ended i.fails

-- the sites stand in the terms, their variables behind what they are asked for, and have their callees' sorts
abbrev pub HasSites : Passive → List TermNode → Instance → Type 0
HasSites p new i = (flat : Limited) (q : FlatProc) (order : List ℕ) → p ≡ passive_of flat q order → AllThere flat q order → SitesThere new i.sites × SitesSigned flat new i.sites

-- the end's bit, the fail bit, the outs, the globals, and the bits of edges and asserts are there with their sorts
abbrev pub HasTerms : Passive → List TermNode → Instance → Type 0
HasTerms p new i = (flat : Limited) (q : FlatProc) (order : List ℕ) → p ≡ passive_of flat q order → AllThere flat q order → PartsThere flat.globals q.outs new i.ended i.fails i.outs i.globals i.edges i.asserts

-- where the run fails exactly one bit is true among those of the asserts and those of the calls that fail, else none; and the asserts are those of the
-- blocks in the order, one for each
abbrev pub FailsAtOne : Passive → List TermNode → Instance → Type 0
FailsAtOne p new i =
    (flat : Limited) (q : FlatProc) (order : List ℕ) → p ≡ passive_of flat q order → AllThere flat q order → FailsOnce new i.fails i.asserts i.sites × (map assert_place i.asserts ≡ asserts_laid q order)

-- where the procedure has its sorts, each site is asked for values of its callee's sorts, and for all globals
abbrev pub HasRequests : Passive → List TermNode → Instance → Type 0
HasRequests p new i = (flat : Limited) (q : FlatProc) (order : List ℕ) → p ≡ passive_of flat q order → AllThere flat q order → ProcSorted flat q → SitesAsked flat new i.sites

-- the sites are the calls of the blocks in the order, one for each, with the variables that the layout has for it
abbrev pub IsLaidOut : Passive → ℕ → Instance → Type 0
IsLaidOut p k i = (flat : Limited) (q : FlatProc) (order : List ℕ) → p ≡ passive_of flat q order → AllThere flat q order → map site_laid i.sites ≡ sites_laid flat q order (k + length (start_sorts q q.kind))

-- the new variables have the sorts of the layout: as many as it has, and any values of these sorts will do
abbrev pub HasRoom : List TermNode → Passive → ℕ → List TermNode → Instance → Type 0
HasRoom old p k new i = (flat : Limited) (q : FlatProc) (order : List ℕ) → p ≡ passive_of flat q order → AllThere flat q order → IsRoom flat q order k old new i.next

-- the sites whose bits are true are the calls of the path's blocks: all of them where the run ends, and the first ones where it fails
abbrev pub HasPlaces : Passive → Actuals → List TermNode → Instance → Type 0
HasPlaces p actuals new i = (flat : Limited) (q : FlatProc) (order : List ℕ) → p ≡ passive_of flat q order → AllThere flat q order → EndsPlaced flat q actuals new i.ended i.edges i.sites × FailsPlaced flat q actuals new i.fails i.edges i.sites

-- The values that a run takes of its blocks are those whose bits are true: where it ends, all of its path's blocks, and where it fails, those before the
-- command that fails. Each has its bit and its variable among the terms.
abbrev pub HasValues : Passive → Actuals → ℕ → List TermNode → Instance → Type 0
HasValues p actuals k new i = (flat : Limited) (q : FlatProc) (order : List ℕ) → p ≡ passive_of flat q order → AllThere flat q order →
    ValuesThere new i.values × EndsValued flat q order actuals k new i.ended i.edges i.values × FailsValued flat q order actuals k new i.fails i.edges i.sites i.values

-- the passive form of a procedure with sorts can become terms, and names what is there
abbrev pub SortedFit : Type 0
SortedFit = (flat : Limited) (q : FlatProc) (order : List ℕ) → ProcSorted flat q → PassiveFits (passive_of flat q order)

-- the passive form of a procedure of a flat program can become terms, and its blocks stand in an order
abbrev pub PassiveReady : Type 0
PassiveReady =
    (flat : FlatProgram) (limits : List (List Bool)) (n : ℕ) (q : FlatProc) (p : Passive) → IsFlat flat → slice_get flat.procs n ≡ Some q → (is : IsPassiveOf (limited flat limits) q p) →
    PassiveFits p × IsOrder (limited flat limits) q is.order

abbrev pub SortedThere : Type 0
SortedThere = (flat : Limited) (q : FlatProc) (n : ℕ) (b : FlatBlock) → ProcSorted flat q → slice_get q.blocks n ≡ Some b → cmds_there flat q b.cmds ≡ true

-- the order of a passive form has no block twice
abbrev pub BlocksStandOnce : Type 0
BlocksStandOnce = (flat : Limited) (q : FlatProc) (p : Passive) → (is : IsPassiveOf flat q p) → numbers_differ is.order ≡ true
