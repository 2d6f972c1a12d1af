-- The formula of a procedure, over variables of its own.
use Rattle.std.specs.Prelude.{◌≡◌, ℕ, ◌<◌, Bool, List, length, slice_get, Some, All}
use Rattle.hy_term.specs.declared.node.TermNode.{TermNode}
use Rattle.flat_prog.specs.Program.{FlatProgram}
use Rattle.flat_prog.specs.declared.block.FlatBlock.{FlatBlock}
use Rattle.flat_prog.specs.declared.proc.FlatProc.{FlatProc}
use Rattle.passive_form.specs.Laws.{IsPassiveOf}
use Rattle.passive_form.specs.Limited.{limited}
use Rattle.passive_form.specs.declared.Passive.{Passive}
use Rattle.passive_form.specs.declared.PassiveBlock.{PassiveBlock}
use Rattle.vc_gen.specs.Fitting.{PassiveFits}
use Rattle.vc_gen.specs.Items.{AreSorts}
use Rattle.vc_gen.specs.Standing.{Later}
use Rattle.vc_gen.specs.Whole.{NewVariables, SaysEnds, HasEnds, SaysFails, HasFails, PlansEnds, PlansFails, SaysOne, HasTerms, HasSites, HasPlaces, HasRoom, HasRequests, IsLaidOut, FailsAtOne, HasValues}
use Rattle.vc_gen.specs.declared.parts.Actuals.{Actuals}
use Rattle.vc_gen.specs.declared.parts.Instance.{Instance}
use Rattle.tree_terms.specs.declared.linked.Template.{Template}
use Rattle.proc_template.specs.Layout.{layout_of, roles_of}
use Rattle.proc_template.specs.Sites.{sorted_sites}
use Rattle.proc_template.specs.Starting.{first_actuals, first_nodes, first_sorts}
use Rattle.proc_template.specs.Track.{track_of}

-- what a passive form has to be
pub record IsFit (blocks : List FlatBlock) (p : Passive) : Type 0 where
  pub fit : PassiveFits p
  pub sorts : AreSorts (first_sorts p)
  pub numbers : All (λ (b : PassiveBlock). b.number < length blocks) p.blocks

-- what `instance` says of its terms
pub record IsInstance (old : List TermNode) (p : Passive) (actuals : Actuals) (k : ℕ) (nodes : List TermNode) (i : Instance) : Type 0 where
  pub later : Later old nodes
  pub ends : SaysEnds old p actuals k nodes i
  pub all_ends : HasEnds old p actuals k nodes i
  pub plans_ends : PlansEnds old p actuals k nodes i
  pub plans_failures : PlansFails old p actuals k nodes i
  pub one : SaysOne p nodes i
  pub there : HasTerms p nodes i
  pub variables : NewVariables old k nodes i.next
  pub room : HasRoom old p k nodes i
  pub laid : IsLaidOut p k i
  pub single : FailsAtOne p nodes i
  pub requests : HasRequests p nodes i
  pub values : HasValues p actuals k nodes i
  pub sites : HasSites p nodes i
  pub places : HasPlaces p actuals nodes i
  pub failures : SaysFails old p actuals k nodes i
  pub all_failures : HasFails old p actuals k nodes i

-- These are the nodes and the parts of the passive form's instance, whose constants, globals and ins are the variables from 0 on.
abbrev pub IsInstanceOf : Passive → List TermNode → Instance → Type 0
IsInstanceOf p nodes i = IsInstance (first_nodes (first_sorts p)) p (first_actuals p) (length (first_sorts p)) nodes i

-- the formula of the procedure of this number, with these blocks, from such an instance
abbrev pub template_from : ℕ → List FlatBlock → Passive → List TermNode → Instance → Template
template_from proc blocks p nodes i = record {
  nodes = nodes;
  roles = roles_of blocks p;
  sites = sorted_sites (length blocks) i.sites;
  track = track_of proc blocks nodes (layout_of blocks p) i;
  ends = i.ended;
  fails = i.fails;
  outs = i.outs;
  globals = i.globals;
}

pub record IsMadeOf (proc : ℕ) (blocks : List FlatBlock) (p : Passive) (t : Template) : Type 0 where
  pub instance : Instance
  pub instance_is : IsInstanceOf p t.nodes instance
  pub made : t ≡ template_from proc blocks p t.nodes instance

-- The formula of a procedure of a flat program, where these are the globals that each procedure may change: it is that of an instance of the procedure's
-- passive form, with the roles of its variables, its sites by number, and its track.
pub record IsTemplateOf (flat : FlatProgram) (limits : List (List Bool)) (proc : ℕ) (t : Template) : Type 0 where
  pub q : FlatProc
  pub proc_is : slice_get flat.procs proc ≡ Some q
  pub passive : Passive
  pub passive_is : IsPassiveOf (limited flat limits) q passive
  pub made : IsMadeOf proc q.blocks passive t

-- one for each procedure, in order
pub record AreTemplates (flat : FlatProgram) (limits : List (List Bool)) (ts : List Template) : Type 0 where
  pub count : length ts ≡ length flat.procs
  pub each : (proc : ℕ) (t : Template) → slice_get ts proc ≡ Some t → IsTemplateOf flat limits proc t
