-- Which variable of a formula stands for what: the roles of the variables, and the variables of the sites.
use Rattle.std.specs.Prelude.{◌≡◌, ℕ, ◌+◌, ◌<◌, Bool, true, false, List, length, map, slice_get, slice_index, slice_index_or, Some}
use Rattle.hy_val.specs.declared.sort.Sort.{Sort}
use Rattle.hy_term.specs.declared.node.TermNode.TheVariants.{Variable}
use Rattle.flat_prog.specs.Limits.{row}
use Rattle.flat_prog.specs.Program.{FlatProgram}
use Rattle.flat_prog.specs.Shape.{IsFlat}
use Rattle.flat_prog.specs.Sites.{sites_of}
use Rattle.passive_form.specs.WellSorted.{ins_at}
use Rattle.vc_gen.specs.Items.{bool_sort}
use Rattle.tree_terms.specs.declared.linked.Role.{Role}
use Rattle.tree_terms.specs.declared.linked.Role.TheVariants.{Const, Global, In, Failed, Out, After, Own}
use Rattle.tree_terms.specs.declared.linked.SiteTerms.{SiteTerms}
use Rattle.tree_terms.specs.declared.linked.Template.{Template}
use Rattle.proc_template.specs.Template.{IsTemplateOf}

-- the sites are the calls of the procedure, by number
abbrev pub TemplatesHaveSites : Type 0
TemplatesHaveSites = (flat : FlatProgram) (limits : List (List Bool)) (proc : ℕ) (t : Template) → IsFlat flat → (h : IsTemplateOf flat limits proc t) → map (λ (s : SiteTerms). s.proc) t.sites ≡ sites_of h.q.blocks

-- ---- what a variable stands for

-- the node is the one that says that the callee at a site fails, and is a bool
pub record IsFailed (t : Template) (j : ℕ) (sort : Sort) (i : ℕ) : Type 0 where
  pub site : SiteTerms
  pub site_is : slice_get t.sites i ≡ Some site
  pub node_is : site.fails ≡ j
  pub sort_is : sort ≡ bool_sort

-- the node is an out of the callee at a site, and stands behind the one that says that it fails
pub record IsOut (t : Template) (j i k : ℕ) : Type 0 where
  pub site : SiteTerms
  pub site_is : slice_get t.sites i ≡ Some site
  pub within : k < length site.outs
  pub node_is : slice_index site.outs k ≡ j
  pub behind : site.fails < j

-- the node is a global after the call at a site, and stands behind the one that says that the callee fails
pub record IsAfter (t : Template) (j i k : ℕ) : Type 0 where
  pub site : SiteTerms
  pub site_is : slice_get t.sites i ≡ Some site
  pub within : k < length site.after
  pub node_is : slice_index site.after k ≡ j
  pub behind : site.fails < j

-- what the variable of this sort at node j stands for is there, with this sort
abbrev pub RoleIs : FlatProgram → (proc : ℕ) → Template → (j : ℕ) → Sort → Role → Type 0
RoleIs flat proc t j sort (Const k) = slice_get flat.consts k ≡ Some sort
RoleIs flat proc t j sort (Global k) = slice_get flat.globals k ≡ Some sort
RoleIs flat proc t j sort (In k) = slice_get (ins_at (slice_get flat.procs proc)) k ≡ Some sort
RoleIs flat proc t j sort (Failed i) = IsFailed t j sort i
RoleIs flat proc t j sort (Out i k) = IsOut t j i k
RoleIs flat proc t j sort (After i k) = IsAfter t j i k
RoleIs flat proc t j sort Own = Unit {0}

-- each variable has a role, and it is so
abbrev pub RolesAreTold : Type 0
RolesAreTold =
    (flat : FlatProgram) (limits : List (List Bool)) (proc : ℕ) (t : Template) (j n : ℕ) (sort : Sort) → IsFlat flat → IsTemplateOf flat limits proc t → slice_get t.nodes j ≡ Some (Variable n sort) →
    (r : Role) × (slice_get t.roles n ≡ Some r) × RoleIs flat proc t j sort r

-- ---- the way back

-- the node is the variable of this number, and has this role
pub record StandsFor (t : Template) (j n : ℕ) (r : Role) : Type 0 where
  pub sort : Sort
  pub node_is : slice_get t.nodes j ≡ Some (Variable n sort)
  pub role_is : slice_get t.roles n ≡ Some r

-- Of a site: that its callee fails, its outs, and the globals after it that the callee may change are variables with these roles; the other globals are as before.
pub record IsToldSite (limits : List (List Bool)) (t : Template) (i : ℕ) (s : SiteTerms) : Type 0 where
  pub fails : (n : ℕ) × StandsFor t s.fails n (Failed i)
  pub outs : (k : ℕ) → k < length s.outs → (n : ℕ) × StandsFor t (slice_index s.outs k) n (Out i k)
  pub changed : (k : ℕ) → k < length s.after → slice_index_or (row limits s.proc) k false ≡ true → (n : ℕ) × StandsFor t (slice_index s.after k) n (After i k)
  pub kept : (k : ℕ) → k < length s.after → slice_index_or (row limits s.proc) k false ≡ false → slice_index s.after k ≡ slice_index s.before k

abbrev pub SitesAreTold : Type 0
SitesAreTold =
    (flat : FlatProgram) (limits : List (List Bool)) (proc : ℕ) (t : Template) (i : ℕ) (s : SiteTerms) → IsFlat flat → IsTemplateOf flat limits proc t → slice_get t.sites i ≡ Some s → IsToldSite limits t i s

-- the first variables are the constants, the globals and the ins, numbered from 0 in this order, each at the node behind its number
pub record AreToldFirst (flat : FlatProgram) (proc : ℕ) (t : Template) : Type 0 where
  pub consts : (k : ℕ) → k < length flat.consts → StandsFor t (1 + k) k (Const k)
  pub globals : (k : ℕ) → k < length flat.globals → StandsFor t (1 + (length flat.consts + k)) (length flat.consts + k) (Global k)
  pub ins : (k : ℕ) → k < length (ins_at (slice_get flat.procs proc)) → StandsFor t (1 + (length flat.consts + (length flat.globals + k))) (length flat.consts + (length flat.globals + k)) (In k)

abbrev pub FirstAreTold : Type 0
FirstAreTold = (flat : FlatProgram) (limits : List (List Bool)) (proc : ℕ) (t : Template) → IsFlat flat → IsTemplateOf flat limits proc t → AreToldFirst flat proc t
