-- What the instance in a formula says of its sites and variables.
use Rattle.std.proofs.Common.{arith, ◌≡◌, ℕ, ◌+◌, ◌≤◌, Bool, List, map, length, ap, ◌∙◌}
use Rattle.flat_prog.specs.Program.{FlatProgram}
use Rattle.flat_prog.specs.Shape.{IsFlat}
use Rattle.flat_prog.specs.Sites.{sites_of}
use Rattle.passive_form.specs.Laws.{ProcsAreSorted}
use Rattle.passive_form.specs.Limited.{limited}
use Rattle.vc_gen.specs.Instance.{start_sorts}
use Rattle.vc_gen.specs.Laid.{OneSiteEach, EachCallOnce, site_laid, sites_laid}
use Rattle.vc_gen.specs.Whole.{BlocksStandOnce, IsOrder, PassiveReady}
use Rattle.tree_terms.specs.declared.linked.SiteTerms.{SiteTerms}
use Rattle.tree_terms.specs.declared.linked.Template.{Template}
use Rattle.proc_template.specs.Starting.{first_sorts}
use Rattle.proc_template.specs.Template.{IsTemplateOf}
use Rattle.proc_template.specs.Told.{TemplatesHaveSites}
use Rattle.proc_template.proofs.Getting.{take_whole}
use Rattle.proc_template.proofs.Placing.{Sited, sited, procs_are}

-- the laws of vc_gen that tell of sites
pub record SiteLaws : Type 0 where
  pub ready : PassiveReady
  pub once : BlocksStandOnce
  pub each : OneSiteEach
  pub sorted : ProcsAreSorted

-- the number of the first variable of the blocks
abbrev pub first_of_blocks : {flat : FlatProgram} {limits : List (List Bool)} {proc : ℕ} {t : Template} → IsTemplateOf flat limits proc t → ℕ
first_of_blocks h = length (first_sorts h.passive) + length (start_sorts h.q h.q.kind)

pub order_is : PassiveReady → (flat : FlatProgram) (limits : List (List Bool)) (proc : ℕ) (t : Template) → IsFlat flat → (h : IsTemplateOf flat limits proc t) → IsOrder (limited flat limits) h.q h.passive_is.order
order_is ready flat limits proc t is h = (ready flat limits proc h.q h.passive is h.proc_is h.passive_is).1

pub laid_are : PassiveReady → (flat : FlatProgram) (limits : List (List Bool)) (proc : ℕ) (t : Template) → IsFlat flat → (h : IsTemplateOf flat limits proc t) →
    map site_laid h.made.instance.sites ≡ sites_laid (limited flat limits) h.q h.passive_is.order (first_of_blocks h)
laid_are ready flat limits proc t is h = h.made.instance_is.laid (limited flat limits) h.q h.passive_is.order h.passive_is.is (order_is ready flat limits proc t is h).there

pub once_each : SiteLaws → (flat : FlatProgram) (limits : List (List Bool)) (proc : ℕ) (t : Template) → (h : IsTemplateOf flat limits proc t) → EachCallOnce (limited flat limits) h.q h.passive_is.order (first_of_blocks h)
once_each laws flat limits proc t h = laws.each (limited flat limits) h.q h.passive_is.order (first_of_blocks h) (laws.once (limited flat limits) h.q h.passive h.passive_is)

pub sites_are : SiteLaws → (flat : FlatProgram) (limits : List (List Bool)) (proc : ℕ) (t : Template) → IsFlat flat → (h : IsTemplateOf flat limits proc t) → Sited h.q.blocks h.made.instance.sites
sites_are laws flat limits proc t is h =
    sited (limited flat limits) h.q h.passive_is.order (first_of_blocks h) h.made.instance.sites (laid_are laws.ready flat limits proc t is h) (once_each laws flat limits proc t h) h.passive_is.ordered

pub have_sites : SiteLaws → TemplatesHaveSites
have_sites laws = λ flat limits proc t is h.
    let n = length h.q.blocks in
    let all : n ≤ n = omega arith in
    ap (λ (x : Template). map (λ (s : SiteTerms). s.proc) x.sites) h.made.made ∙ procs_are h.q.blocks h.made.instance.sites (sites_are laws flat limits proc t is h) n all ∙ ap sites_of (take_whole h.q.blocks)
