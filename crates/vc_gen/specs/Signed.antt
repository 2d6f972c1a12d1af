-- The terms of calls have the sorts of the procedures that they call.
use Rattle.std.specs.Prelude.{List, [], ◌∷◌}
use Rattle.hy_term.specs.declared.node.TermNode.{TermNode}
use Rattle.passive_form.specs.Limited.{Limited}
use Rattle.passive_form.specs.Local.{changed_sorts}
use Rattle.passive_form.specs.WellSorted.{callee_ins}
use Rattle.passive_form.specs.Making.{callee_outs, callee_changes}
use Rattle.vc_gen.specs.declared.parts.SiteTerm.{SiteTerm}
use Rattle.vc_gen.specs.Standing.{AreOf}
use Rattle.vc_gen.specs.Emit.{SiteIs}

-- the outs have the callee's sorts, the changed globals those that it may change, and the other globals are those before the call
abbrev pub SiteSigned : Limited → List TermNode → SiteTerm → Type 0
SiteSigned flat nodes t = SiteIs nodes t.proc (callee_outs flat t.proc) (callee_changes flat t.proc) (changed_sorts flat t.proc) t

abbrev pub SitesSigned : Limited → List TermNode → List SiteTerm → Type 0
SitesSigned flat nodes [] = Unit {0}
SitesSigned flat nodes (t ∷ ts) = SiteSigned flat nodes t × SitesSigned flat nodes ts

-- a call is asked for values of the sorts of its callee's ins, and for all globals
pub record SiteAsked (flat : Limited) (nodes : List TermNode) (t : SiteTerm) : Type 0 where
  pub args_are : AreOf nodes t.args (callee_ins flat t.proc)
  pub before_are : AreOf nodes t.globals_before flat.globals

abbrev pub SitesAsked : Limited → List TermNode → List SiteTerm → Type 0
SitesAsked flat nodes [] = Unit {0}
SitesAsked flat nodes (t ∷ ts) = SiteAsked flat nodes t × SitesAsked flat nodes ts
