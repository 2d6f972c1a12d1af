-- Each variable of a formula has the role that its node plays.
use Rattle.std.proofs.Common.{arith, ◌≡◌, ℕ, zero, suc, ◌+◌, ◌<◌, ◌⊎◌, Bool, true, false, ◌||◌, List, [], ◌∷◌, ◌++◌, map, length, length-append, take, sym, ap, ◌∙◌, refl, subst, inl, inr}
use Rattle.std.specs.Prelude.{Some, slice_get, slice_index, slice_index_or, nat_eq, IsSome}
use Rattle.hy_val.specs.declared.sort.Sort.{Sort}
use Rattle.hy_term.specs.Meaning.{Grows}
use Rattle.hy_term.specs.TermSorts.{sorts, sort_at}
use Rattle.hy_term.specs.declared.node.TermNode.{TermNode}
use Rattle.hy_term.specs.declared.node.TermNode.TheVariants.{Variable}
use Rattle.flat_prog.specs.Limits.{row}
use Rattle.flat_prog.specs.Ordering.{is_in}
use Rattle.flat_prog.specs.Program.{FlatProgram}
use Rattle.flat_prog.specs.Shape.{IsFlat, exit_sort}
use Rattle.flat_prog.specs.Sites.{numbers_from}
use Rattle.flat_prog.specs.declared.block.FlatBlock.{FlatBlock}
use Rattle.flat_prog.specs.declared.proc.FlatKind.{FlatKind}
use Rattle.flat_prog.specs.declared.proc.FlatKind.TheVariants.{Source, Loop}
use Rattle.flat_prog.specs.declared.proc.FlatProc.{FlatProc}
use Rattle.passive_form.specs.Limited.{Limited, limited}
use Rattle.passive_form.specs.Local.{changed_sorts}
use Rattle.passive_form.specs.Making.{callee_outs, free_items, passive_blocks, passive_of, passive_start, zero_items}
use Rattle.passive_form.specs.WellSorted.{ins_at}
use Rattle.passive_form.specs.declared.Passive.{Passive}
use Rattle.vc_gen.specs.Emit.{AllBehind, AreVariables, SiteThere, SitesThere, row_of}
use Rattle.vc_gen.specs.Inputs.{items_at, sorts_of_blocks}
use Rattle.vc_gen.specs.Instance.{start_sorts}
use Rattle.vc_gen.specs.Items.{bool_sort}
use Rattle.vc_gen.specs.Laid.{Laid, calls_laid, laid_in, site_laid}
use Rattle.vc_gen.specs.Signed.{SiteAsked, SiteSigned, SitesAsked, SitesSigned}
use Rattle.vc_gen.specs.Standing.{AreOf, variables_in}
use Rattle.vc_gen.specs.declared.parts.SiteTerm.{SiteTerm}
use Rattle.tree_terms.specs.declared.linked.Role.{Role}
use Rattle.tree_terms.specs.declared.linked.Role.TheVariants.{Const, Global, In, Failed, Out, After, Own}
use Rattle.tree_terms.specs.declared.linked.SiteTerms.{SiteTerms}
use Rattle.tree_terms.specs.declared.linked.Template.{Template}
use Rattle.tree_terms.proofs.Parts.{variable_sort}
use Rattle.proc_template.specs.Layout.{begin_roles, blocks_roles, const_roles, first_roles, global_roles, in_roles, items_roles, numbered, roles_of, starts_of}
use Rattle.proc_template.specs.Sites.{site_terms, sorted_sites}
use Rattle.proc_template.specs.Starting.{first_nodes, first_sorts}
use Rattle.proc_template.specs.Template.{IsTemplateOf}
use Rattle.proc_template.specs.Told.{FirstAreTold, IsAfter, IsFailed, IsOut, IsToldSite, RoleIs, RolesAreTold, SitesAreTold}
use Rattle.proc_template.proofs.Getting.{get_left, get_right, get_split, get_map, get_same, get_there, get_within, index_of, number_equals, numbers_get}
use Rattle.proc_template.proofs.Marked.{marked, kept_at, marked_within, replaced_at, replaced_count}
use Rattle.proc_template.proofs.Placing.{IsNumbered, by_laid, by_number, in_at, site_stands, start_of}
use Rattle.proc_template.proofs.Roles.{RoleAt, RolesOf, blocks_back, blocks_count, blocks_role, get_numbered, numbered_get, with_front}
use Rattle.proc_template.proofs.Sited.{SiteLaws, first_of_blocks, laid_are, once_each, order_is, sites_are}
use Rattle.proc_template.proofs.Unique.{in_order, once, under}

-- ---- sites of a list

pub there_at : (nodes : List TermNode) (ss : List SiteTerm) → SitesThere nodes ss → (k : ℕ) (s : SiteTerm) → slice_get ss k ≡ Some s → SiteThere nodes s
there_at nodes [] h k s e = absurd cc
there_at nodes (x ∷ ss) h zero s e = let same : x ≡ s = cc in subst (SiteThere nodes) same h.0
there_at nodes (x ∷ ss) h (suc k) s e = there_at nodes ss h.1 k s e

pub signed_at : (flat : Limited) (nodes : List TermNode) (ss : List SiteTerm) → SitesSigned flat nodes ss → (k : ℕ) (s : SiteTerm) → slice_get ss k ≡ Some s → SiteSigned flat nodes s
signed_at flat nodes [] h k s e = absurd cc
signed_at flat nodes (x ∷ ss) h zero s e = let same : x ≡ s = cc in subst (SiteSigned flat nodes) same h.0
signed_at flat nodes (x ∷ ss) h (suc k) s e = signed_at flat nodes ss h.1 k s e

pub asked_at : (flat : Limited) (nodes : List TermNode) (ss : List SiteTerm) → SitesAsked flat nodes ss → (k : ℕ) (s : SiteTerm) → slice_get ss k ≡ Some s → SiteAsked flat nodes s
asked_at flat nodes [] h k s e = absurd cc
asked_at flat nodes (x ∷ ss) h zero s e = let same : x ≡ s = cc in subst (SiteAsked flat nodes) same h.0
asked_at flat nodes (x ∷ ss) h (suc k) s e = asked_at flat nodes ss h.1 k s e

pub are_count : (nodes : List TermNode) (ts : List ℕ) (ss : List Sort) → AreOf nodes ts ss → length ts ≡ length ss
are_count nodes [] [] h = refl
are_count nodes [] (s ∷ ss) h = absurd h
are_count nodes (t ∷ ts) [] h = absurd h
are_count nodes (t ∷ ts) (s ∷ ss) h = ap suc (are_count nodes ts ss h.1)

variables_at : (nodes : List TermNode) (ts : List ℕ) (k : ℕ) (ss : List Sort) → AreVariables nodes ts k ss → (y t : ℕ) → slice_get ts y ≡ Some t → (s : Sort) × (slice_get nodes t ≡ Some (Variable (k + y) s))
variables_at nodes [] k ss h y t e = absurd cc
variables_at nodes (x ∷ ts) k [] h y t e = absurd h
variables_at nodes (x ∷ ts) k (s ∷ ss) h zero t e =
    let same : x ≡ t = cc in
    let z : k ≡ k + 0 = omega arith in
    (s, ap (slice_get nodes) (sym same) ∙ h.0 ∙ ap (λ i. Some (Variable i s)) z)
variables_at nodes (x ∷ ts) k (s ∷ ss) h (suc y) t e =
    let r = variables_at nodes ts (k + 1) ss h.1 y t e in
    let z : k + 1 + y ≡ k + suc y = omega arith in
    (r.0, r.1 ∙ ap (λ i. Some (Variable i r.0)) z)

-- a variable of a site by its place among the site's
pub site_variable : (nodes : List TermNode) (s : SiteTerm) → SiteThere nodes s → (y t : ℕ) → slice_get (s.failed ∷ (s.outs ++ s.changed)) y ≡ Some t → (sort : Sort) × (slice_get nodes t ≡ Some (Variable (s.first + y) sort))
site_variable nodes s h y t e = variables_at nodes (s.failed ∷ (s.outs ++ s.changed)) s.first h.variables.0 h.variables.1 y t e

behind_at : (n : ℕ) (ts : List ℕ) → AllBehind n ts → (y t : ℕ) → slice_get ts y ≡ Some t → n < t
behind_at n [] h y t e = absurd cc
behind_at n (x ∷ ts) h zero t e = let same : x ≡ t = cc in subst (λ i. n < i) same h.0
behind_at n (x ∷ ts) h (suc y) t e = behind_at n ts h.1 y t e

-- ---- what is known of a formula

-- the number of a block's first site, as the layout has it
pub starts_at : (blocks : List FlatBlock) (n : ℕ) → n < length blocks → slice_index (starts_of blocks) n ≡ start_of blocks n
starts_at blocks n l =
    let z : 0 + n ≡ n = omega arith in
    index_of (starts_of blocks) n (start_of blocks n) (get_map (start_of blocks) (numbers_from 0 (length blocks)) n n (numbers_get 0 (length blocks) n l ∙ ap Some z))

in_order_at : (order : List ℕ) (i n : ℕ) → slice_get order i ≡ Some n → is_in n order ≡ true
in_order_at [] i n e = absurd cc
in_order_at (m ∷ order) zero n e = let same : n ≡ m = cc in ap (λ b. b || is_in n order) (number_equals n m same)
in_order_at (m ∷ order) (suc i) n e = or_last (nat_eq n m) (is_in n order) (in_order_at order i n e)
  where
    or_last : (a b : Bool) → b ≡ true → (a || b) ≡ true
    or_last true b h = refl
    or_last false b h = h

-- the variables stand in the order of their numbers, and each has a role
pub record Counted (flat : FlatProgram) (limits : List (List Bool)) (proc : ℕ) (t : Template) (h : IsTemplateOf flat limits proc t) : Type 0 where
  pub total : ℕ
  pub numbers : variables_in t.nodes ≡ numbers_from 0 total
  pub front_is : length (begin_roles (passive_of (limited flat limits) h.q h.passive_is.order)) ≡ first_of_blocks h
  pub roles_are : t.roles ≡ begin_roles (passive_of (limited flat limits) h.q h.passive_is.order) ++ blocks_roles (starts_of h.q.blocks) (passive_blocks (limited flat limits) h.q h.passive_is.order)
  pub roles_count : length t.roles ≡ total

free_count : (site k : ℕ) (ss : List Sort) → length (items_roles site (free_items k ss)) ≡ length ss
free_count site k [] = refl
free_count site k (s ∷ ss) = ap suc (free_count (site + 0) (k + 1) ss)

zero_count : (site k : ℕ) (ss : List Sort) → length (items_roles site (zero_items k ss)) ≡ 0
zero_count site k [] = refl
zero_count site k (s ∷ ss) = zero_count (site + 0) (k + 1) ss

pub begin_count : (flat : Limited) (q : FlatProc) (kind : FlatKind) → length (items_roles 0 (passive_start flat q kind).items) ≡ length (start_sorts q kind)
begin_count flat q (Source p) = free_count 0 (length flat.globals + length q.ins) (q.outs ++ q.locals)
begin_count flat q (Loop p head) = zero_count 0 (length flat.globals + length q.ins) (exit_sort ∷ q.locals)

free_own : (site k : ℕ) (ss : List Sort) (y : ℕ) (r : Role) → slice_get (items_roles site (free_items k ss)) y ≡ Some r → r ≡ Own
free_own site k [] y r e = absurd cc
free_own site k (s ∷ ss) zero r e = cc
free_own site k (s ∷ ss) (suc y) r e = free_own (site + 0) (k + 1) ss y r e

zero_own : (site k : ℕ) (ss : List Sort) (y : ℕ) (r : Role) → slice_get (items_roles site (zero_items k ss)) y ≡ Some r → r ≡ Own
zero_own site k [] y r e = absurd cc
zero_own site k (s ∷ ss) y r e = zero_own (site + 0) (k + 1) ss y r e

begin_own : (flat : Limited) (q : FlatProc) (kind : FlatKind) (y : ℕ) (r : Role) → slice_get (items_roles 0 (passive_start flat q kind).items) y ≡ Some r → r ≡ Own
begin_own flat q (Source p) y r e = free_own 0 (length flat.globals + length q.ins) (q.outs ++ q.locals) y r e
begin_own flat q (Loop p head) y r e = zero_own 0 (length flat.globals + length q.ins) (exit_sort ∷ q.locals) y r e

numbered_length : {A : Type 0} (role : ℕ → Role) (k : ℕ) (xs : List A) → length (numbered role k xs) ≡ length xs
numbered_length role k [] = refl
numbered_length role k (x ∷ xs) = ap suc (numbered_length role (k + 1) xs)

pub first_count : (cs gs is : List Sort) → length (const_roles cs ++ (global_roles gs ++ in_roles is)) ≡ length (cs ++ (gs ++ is))
first_count cs gs is =
    let a = length-append (const_roles cs) (global_roles gs ++ in_roles is) in
    let b = length-append (global_roles gs) (in_roles is) in
    let c = length-append cs (gs ++ is) in
    let d = length-append gs is in
    let x = numbered_length Const 0 cs in
    let y = numbered_length Global 0 gs in
    let z = numbered_length In 0 is in
    omega (arith, a, b, c, d, x, y, z)

pub counted : SiteLaws → (flat : FlatProgram) (limits : List (List Bool)) (proc : ℕ) (t : Template) → IsFlat flat → (h : IsTemplateOf flat limits proc t) → Counted flat limits proc t h
counted laws flat limits proc t is h =
    let fl = limited flat limits in
    let q = h.q in
    let order = h.passive_is.order in
    let p = passive_of fl q order in
    let i = h.made.instance_is in
    let ss = first_sorts h.passive in
    let there = (order_is laws.ready flat limits proc t is h).there in
    let space = i.room fl q order h.passive_is.is there in
    let same : length ss ≡ length (first_sorts p) = ap (λ (x : Passive). length (first_sorts x)) h.passive_is.is in
    let front : length (begin_roles p) ≡ length ss + length (start_sorts q q.kind) =
    let a = length-append (first_roles p) (items_roles 0 p.start.items) in
    let b = first_count flat.consts flat.globals q.ins in
    let c = begin_count fl q q.kind in
    omega (arith, a, b, c, same) in
    let roles : t.roles ≡ begin_roles p ++ blocks_roles (starts_of q.blocks) p.blocks = ap (λ (x : Template). x.roles) h.made.made ∙ ap (roles_of q.blocks) h.passive_is.is in
    record {
      total = length ss + i.variables.count;
      numbers = in_order ss t.nodes h.made.instance.next i.variables;
      front_is = front;
      roles_are = roles;
      roles_count =
          let a = length-append (begin_roles p) (blocks_roles (starts_of q.blocks) p.blocks) in
          let b = blocks_count fl q (starts_of q.blocks) order in
          let c = length-append (start_sorts q q.kind) (sorts_of_blocks fl q order) in
          let d = ap length roles in
          omega (arith, a, b, c, d, front, space.next_is, i.variables.next_is);
    }

-- ---- a call that is laid out

-- its site, and where it stands
pub record FoundSite (flat : FlatProgram) (limits : List (List Bool)) (t : Template) (i : ℕ) (l : Laid) : Type 0 where
  pub site : SiteTerm
  pub laid : site_laid site ≡ l
  pub stands : slice_get t.sites i ≡ Some (site_terms site)
  pub there : SiteThere t.nodes site
  pub signed : SiteSigned (limited flat limits) t.nodes site
  pub asked : SiteAsked (limited flat limits) t.nodes site

pub found : SiteLaws → (flat : FlatProgram) (limits : List (List Bool)) (proc : ℕ) (t : Template) → IsFlat flat → (h : IsTemplateOf flat limits proc t) → (place n d i : ℕ) (l : Laid) → slice_get h.passive_is.order place ≡ Some n →
    slice_get (calls_laid n 0 (first_of_blocks h + length (sorts_of_blocks (limited flat limits) h.q (take place h.passive_is.order))) (items_at (limited flat limits) h.q n)) d ≡ Some l → i ≡ slice_index (starts_of h.q.blocks) n + d →
    FoundSite flat limits t i l
found laws flat limits proc t is h place n d i l at e number =
    let fl = limited flat limits in
    let q = h.q in
    let order = h.passive_is.order in
    let ss = h.made.instance.sites in
    let there = (order_is laws.ready flat limits proc t is h).there in
    let laid_here = ap (laid_in n) (laid_are laws.ready flat limits proc t is h) ∙ (once_each laws flat limits proc t h).some place n at in
    let this : slice_get (laid_in n (map site_laid ss)) d ≡ Some l = ap (λ ls. slice_get ls d) laid_here ∙ e in
    let f = by_laid n ss d l this in
    let inside = h.passive_is.ordered.there n (in_order_at order place n at) in
    let stands = site_stands q.blocks ss (sites_are laws flat limits proc t is h) n f.0 d f.1 inside f.2 in
    let sites = h.made.instance_is.sites fl q order h.passive_is.is there in
    let requests = h.made.instance_is.requests fl q order h.passive_is.is there (laws.sorted flat limits proc q is h.proc_is) in
    record {
      site = f.1;
      laid = get_same (laid_in n (map site_laid ss)) d (site_laid f.1) l f.2.laid this;
      stands = ap (λ (x : Template). slice_get x.sites i) h.made.made ∙ ap (slice_get (sorted_sites (length q.blocks) ss)) (number ∙ ap (λ x. x + d) (starts_at q.blocks n inside)) ∙ stands;
      there = there_at t.nodes ss sites.0 f.0 f.1 f.2.all;
      signed = signed_at fl t.nodes ss sites.1 f.0 f.1 f.2.all;
      asked = asked_at fl t.nodes ss requests f.0 f.1 f.2.all;
    }

-- ---- the first variables

-- elements at one place of two lists that are put together alike
both_split : {A B : Type 0} (xs ys : List A) (us vs : List B) (i : ℕ) (x : A) (u : B) → length xs ≡ length us → slice_get (xs ++ ys) i ≡ Some x → slice_get (us ++ vs) i ≡ Some u →
    ((slice_get xs i ≡ Some x) × (slice_get us i ≡ Some u)) ⊎ ((j : ℕ) × (slice_get ys j ≡ Some x) × (slice_get vs j ≡ Some u))
both_split [] ys [] vs i x u c e f = inr (i, e, f)
both_split [] ys (w ∷ us) vs i x u c e f = absurd (omega (arith, c))
both_split (z ∷ xs) ys [] vs i x u c e f = absurd (omega (arith, c))
both_split (z ∷ xs) ys (w ∷ us) vs zero x u c e f = inl (e, f)
both_split (z ∷ xs) ys (w ∷ us) vs (suc i) x u c e f = elim (both_split xs ys us vs i x u (omega (arith, c)) e f) [ inl h ↦ inl h | inr h ↦ inr h ]

numbered_same : {A : Type 0} (role : ℕ → Role) (xs : List A) (j : ℕ) (r : Role) → slice_get (numbered role 0 xs) j ≡ Some r → r ≡ role j
numbered_same role xs j r e = let z : 0 + j ≡ j = omega arith in (numbered_get role 0 xs j r e).1 ∙ ap role z

first_role : (flat : FlatProgram) (proc : ℕ) (q : FlatProc) (t : Template) (j n : ℕ) (sort : Sort) (r : Role) → slice_get flat.procs proc ≡ Some q →
    slice_get (const_roles flat.consts ++ (global_roles flat.globals ++ in_roles q.ins)) n ≡ Some r → slice_get (flat.consts ++ (flat.globals ++ q.ins)) n ≡ Some sort → RoleIs flat proc t j sort r
first_role flat proc q t j n sort r at e f =
    elim (both_split (const_roles flat.consts) (global_roles flat.globals ++ in_roles q.ins) flat.consts (flat.globals ++ q.ins) n r sort (numbered_length Const 0 flat.consts) e f) [
      | inl h ↦ subst (RoleIs flat proc t j sort) (sym (numbered_same Const flat.consts n r h.0)) h.1
      | inr h ↦
          elim (both_split (global_roles flat.globals) (in_roles q.ins) flat.globals q.ins h.0 r sort (numbered_length Global 0 flat.globals) h.1 h.2) [
            | inl g ↦ subst (RoleIs flat proc t j sort) (sym (numbered_same Global flat.globals h.0 r g.0)) g.1
            | inr g ↦ subst (RoleIs flat proc t j sort) (sym (numbered_same In q.ins g.0 r g.1)) (ap (λ o. slice_get (ins_at o) g.0) at ∙ g.2)
          ]
    ]

row_sort : (k : ℕ) (ss : List Sort) (more : List TermNode) (j : ℕ) (s : Sort) → slice_get ss j ≡ Some s → slice_get (row_of k ss ++ more) j ≡ Some (Variable (k + j) s)
row_sort k [] more j s e = absurd cc
row_sort k (x ∷ ss) more zero s e =
    let z : k ≡ k + 0 = omega arith in
    let same : x ≡ s = cc in
    ap (λ i. Some (Variable i x)) z ∙ ap (λ (y : Sort). Some (Variable (k + 0) y)) same
row_sort k (x ∷ ss) more (suc j) s e = let z : k + 1 + j ≡ k + suc j = omega arith in row_sort (k + 1) ss more j s e ∙ ap (λ i. Some (Variable i s)) z

-- a first variable by its number
pub first_node : (ss : List Sort) (nodes : List TermNode) → Grows (first_nodes ss) nodes → (j : ℕ) (s : Sort) → slice_get ss j ≡ Some s → slice_get nodes (suc j) ≡ Some (Variable j s)
first_node ss nodes g j s e = let z : 0 + j ≡ j = omega arith in ap (λ (ns : List TermNode). slice_get ns (suc j)) g.1 ∙ row_sort 0 ss g.0 j s e ∙ ap (λ i. Some (Variable i s)) z

-- ---- the roles

-- what is asked of a variable's node
record AtNode (t : Template) (j n : ℕ) (sort : Sort) : Type 0 where
  pub node_is : slice_get t.nodes j ≡ Some (Variable n sort)
  pub sound : IsSome (sorts t.nodes)
  pub unique : (i : ℕ) (other : Sort) → slice_get t.nodes i ≡ Some (Variable n other) → i ≡ j

failed_is : (flat : FlatProgram) (limits : List (List Bool)) (proc : ℕ) (t : Template) (j n i : ℕ) (sort : Sort) (l : Laid) → AtNode t j n sort → FoundSite flat limits t i l → n ≡ l.first → IsFailed t j sort i
failed_is flat limits proc t j n i sort l at f e =
    let s = f.site in
    let v = site_variable t.nodes s f.there 0 s.failed refl in
    let first : s.first ≡ l.first = ap (λ (x : Laid). x.first) f.laid in
    let number : s.first + 0 ≡ n = omega (arith, e, first) in
    let same : s.failed ≡ j = at.unique s.failed v.0 (v.1 ∙ ap (λ k. Some (Variable k v.0)) number) in
    let this : Some sort ≡ Some bool_sort = sym (variable_sort t.nodes j n sort at.sound at.node_is) ∙ ap (sort_at t.nodes) (sym same) ∙ f.there.failed in
    record { site = site_terms s; site_is = f.stands; node_is = same; sort_is = some_same sort bool_sort this }
  where
    some_same : (x y : Sort) → Some x ≡ Some y → x ≡ y
    some_same x y h = cc

out_is : (flat : FlatProgram) (limits : List (List Bool)) (proc : ℕ) (t : Template) (j n i x : ℕ) (sort : Sort) (l : Laid) → AtNode t j n sort → FoundSite flat limits t i l → x < length (callee_outs (limited flat limits) l.proc) →
    n ≡ l.first + (1 + x) → IsOut t j i x
out_is flat limits proc t j n i x sort l at f b e =
    let fl = limited flat limits in
    let s = f.site in
    let first : s.first ≡ l.first = ap (λ (y : Laid). y.first) f.laid in
    let count : length s.outs ≡ length (callee_outs fl l.proc) = are_count t.nodes s.outs (callee_outs fl s.proc) f.signed.outs_are ∙ ap (λ (y : Laid). length (callee_outs fl y.proc)) f.laid in
    let inside : x < length s.outs = omega (arith, count, b) in
    let o = get_there s.outs x inside in
    let place = get_left s.outs s.changed x o.0 o.1 in
    let v = site_variable t.nodes s f.there (suc x) o.0 place in
    let number : s.first + suc x ≡ n = omega (arith, e, first) in
    let same : o.0 ≡ j = at.unique o.0 v.0 (v.1 ∙ ap (λ k. Some (Variable k v.0)) number) in
    record {
      site = site_terms s;
      site_is = f.stands;
      within = inside;
      node_is = index_of s.outs x o.0 o.1 ∙ same;
      behind = subst (λ k. s.failed < k) same (behind_at s.failed (s.outs ++ s.changed) f.there.others_behind x o.0 place);
    }

-- a global that the callee may change, by its number
pub record ChangedAt (t : Template) (s : SiteTerm) (g y : ℕ) : Type 0 where
  pub node : ℕ
  pub place : slice_get (s.outs ++ s.changed) y ≡ Some node
  pub after : slice_get s.globals_after g ≡ Some node

pub changed_at : (flat : FlatProgram) (limits : List (List Bool)) (t : Template) (s : SiteTerm) → SiteSigned (limited flat limits) t.nodes s → SiteAsked (limited flat limits) t.nodes s → (g : ℕ) → g < length flat.globals →
    slice_index_or (row limits s.proc) g false ≡ true → ChangedAt t s g (length s.outs + marked (row limits s.proc) g)
changed_at flat limits t s signed asked g b m =
    let fl = limited flat limits in
    let marks = row limits s.proc in
    let before = are_count t.nodes s.globals_before flat.globals asked.before_are in
    let changed = are_count t.nodes s.changed (changed_sorts fl s.proc) signed.changed_are in
    let low = marked_within marks flat.globals g b m in
    let o = get_there s.changed (marked marks g) (omega (arith, changed, low)) in
    record {
      node = o.0;
      place = get_right s.outs s.changed (marked marks g) ∙ o.1;
      after = ap (λ ts. slice_get ts g) signed.after_is ∙ replaced_at marks s.globals_before s.changed g o.0 (omega (arith, before, b)) m o.1;
    }

after_is : (flat : FlatProgram) (limits : List (List Bool)) (proc : ℕ) (t : Template) (j n i g : ℕ) (sort : Sort) (l : Laid) → AtNode t j n sort → FoundSite flat limits t i l → g < length flat.globals →
    slice_index_or (row limits l.proc) g false ≡ true → n ≡ l.first + (1 + (length (callee_outs (limited flat limits) l.proc) + marked (row limits l.proc) g)) → IsAfter t j i g
after_is flat limits proc t j n i g sort l at f b m e =
    let fl = limited flat limits in
    let s = f.site in
    let first : s.first ≡ l.first = ap (λ (y : Laid). y.first) f.laid in
    let proc_same : s.proc ≡ l.proc = ap (λ (y : Laid). y.proc) f.laid in
    let count : length s.outs ≡ length (callee_outs fl l.proc) = are_count t.nodes s.outs (callee_outs fl s.proc) f.signed.outs_are ∙ ap (λ (y : Laid). length (callee_outs fl y.proc)) f.laid in
    let marks : marked (row limits s.proc) g ≡ marked (row limits l.proc) g = ap (λ p. marked (row limits p) g) proc_same in
    let c = changed_at flat limits t s f.signed f.asked g b (ap (λ p. slice_index_or (row limits p) g false) proc_same ∙ m) in
    let v = site_variable t.nodes s f.there (suc (length s.outs + marked (row limits s.proc) g)) c.node c.place in
    let number : s.first + suc (length s.outs + marked (row limits s.proc) g) ≡ n = omega (arith, e, first, count, marks) in
    let same : c.node ≡ j = at.unique c.node v.0 (v.1 ∙ ap (λ k. Some (Variable k v.0)) number) in
    record {
      site = site_terms s;
      site_is = f.stands;
      within = get_within s.globals_after g c.node c.after;
      node_is = index_of s.globals_after g c.node c.after ∙ same;
      behind = subst (λ k. s.failed < k) same (behind_at s.failed (s.outs ++ s.changed) f.there.others_behind (length s.outs + marked (row limits s.proc) g) c.node c.place);
    }

-- the role of a variable of a block
block_told : SiteLaws → (flat : FlatProgram) (limits : List (List Bool)) (proc : ℕ) (t : Template) → IsFlat flat → (h : IsTemplateOf flat limits proc t) → (j n place number : ℕ) (sort : Sort) → AtNode t j n sort → slice_get h.passive_is.order place ≡ Some number →
    (r : Role) → RoleAt (limited flat limits) (calls_laid number 0 (first_of_blocks h + length (sorts_of_blocks (limited flat limits) h.q (take place h.passive_is.order))) (items_at (limited flat limits) h.q number))
    (slice_index (starts_of h.q.blocks) number) n r → RoleIs flat proc t j sort r
block_told laws flat limits proc t is h j n place number sort at there (Const k) e = absurd e
block_told laws flat limits proc t is h j n place number sort at there (Global k) e = absurd e
block_told laws flat limits proc t is h j n place number sort at there (In k) e = absurd e
block_told laws flat limits proc t is h j n place number sort at there (Failed i) e = failed_is flat limits proc t j n i sort e.1 at (found laws flat limits proc t is h place number e.0 i e.1 there e.3 e.2) e.4
block_told laws flat limits proc t is h j n place number sort at there (Out i x) e = out_is flat limits proc t j n i x sort e.1 at (found laws flat limits proc t is h place number e.0 i e.1 there e.3 e.2) e.4 e.5
block_told laws flat limits proc t is h j n place number sort at there (After i g) e = after_is flat limits proc t j n i g sort e.1 at (found laws flat limits proc t is h place number e.0 i e.1 there e.3 e.2) e.4 e.5 e.6
block_told laws flat limits proc t is h j n place number sort at there Own e = tt

role_told : SiteLaws → (flat : FlatProgram) (limits : List (List Bool)) (proc : ℕ) (t : Template) (j n : ℕ) (sort : Sort) → IsFlat flat → (h : IsTemplateOf flat limits proc t) → Counted flat limits proc t h → AtNode t j n sort → (r : Role) →
    slice_get t.roles n ≡ Some r → RoleIs flat proc t j sort r
role_told laws flat limits proc t j n sort is h c at r e =
    let fl = limited flat limits in
    let q = h.q in
    let order = h.passive_is.order in
    let p = passive_of fl q order in
    let blocks = blocks_roles (starts_of q.blocks) (passive_blocks fl q order) in
    let made : slice_get (begin_roles p ++ blocks) n ≡ Some r = ap (λ rs. slice_get rs n) (sym c.roles_are) ∙ e in
    elim (get_split (begin_roles p) blocks n r made) [
      | inl front ↦ elim (get_split (first_roles p) (items_roles 0 p.start.items) n r front) [
        | inl first ↦
            let sorts_are : first_sorts h.passive ≡ first_sorts p = ap first_sorts h.passive_is.is in
            let low : n < length (first_sorts p) = subst (λ k. n < k) (first_count flat.consts flat.globals q.ins) (get_within (first_roles p) n r first) in
            let s = get_there (first_sorts p) n low in
            let node = first_node (first_sorts h.passive) t.nodes h.made.instance_is.later.nodes n s.0 (ap (λ ss. slice_get ss n) sorts_are ∙ s.1) in
            let same : suc n ≡ j = at.unique (suc n) s.0 node in
            let one : Some (Variable n s.0) ≡ Some (Variable n sort) = sym node ∙ ap (slice_get t.nodes) same ∙ at.node_is in
            first_role flat proc q t j n sort r h.proc_is first (s.1 ∙ ap Some (sort_same n s.0 sort one))
        | inr own ↦ subst (RoleIs flat proc t j sort) (sym (begin_own fl q q.kind own.0 r own.2)) tt
      ]
      | inr behind ↦
          let b = blocks_role fl q (starts_of q.blocks) order (first_of_blocks h) behind.0 r behind.2 in
          let number : first_of_blocks h + behind.0 ≡ n = omega (arith, c.front_is, behind.1) in
          block_told laws flat limits proc t is h j n b.place b.number sort at b.there r
          (subst (λ k. RoleAt fl (calls_laid b.number 0 (first_of_blocks h + length (sorts_of_blocks fl q (take b.place order))) (items_at fl q b.number)) (slice_index (starts_of q.blocks) b.number) k r) number b.role)
    ]
  where
    sort_same : (n : ℕ) (x y : Sort) → Some (Variable n x) ≡ Some (Variable n y) → x ≡ y
    sort_same n x y h = cc

pub roles_told : SiteLaws → RolesAreTold
roles_told laws = λ flat limits proc t j n sort is h at.
    let c = counted laws flat limits proc t is h in
    let low = under 0 c.total t.nodes c.numbers j n sort at in
    let r = get_there t.roles n (omega (arith, c.roles_count, low)) in
    let here : AtNode t j n sort = record { node_is = at; sound = h.made.instance_is.later.sound; unique = λ i other e. once 0 c.total t.nodes c.numbers i j n other sort e at } in
    (r.0, r.1, role_told laws flat limits proc t j n sort is h c here r.0 r.1)

-- ---- the way back

-- the site, its variables and their roles
pub record BackSite (flat : FlatProgram) (limits : List (List Bool)) (t : Template) (i : ℕ) (s : SiteTerm) : Type 0 where
  pub found : FoundSite flat limits t i (site_laid s)
  pub roles : RolesOf (limited flat limits) t.roles 0 i (site_laid s)

pub back_site : SiteLaws → (flat : FlatProgram) (limits : List (List Bool)) (proc : ℕ) (t : Template) → IsFlat flat → (h : IsTemplateOf flat limits proc t) → (i : ℕ) (x : SiteTerms) → IsNumbered h.q.blocks h.made.instance.sites i x →
    (s : SiteTerm) × (site_terms s ≡ x) × BackSite flat limits t i s
back_site laws flat limits proc t is h i x m =
    let fl = limited flat limits in
    let q = h.q in
    let order = h.passive_is.order in
    let ss = h.made.instance.sites in
    let s = m.site in
    let n = s.block in
    let place = in_at n order (h.passive_is.ordered.every n m.known) in
    let laid_here = ap (laid_in n) (laid_are laws.ready flat limits proc t is h) ∙ (once_each laws flat limits proc t h).some place.0 n place.1 in
    let this = ap (λ ls. slice_get ls s.call) (sym laid_here) ∙ m.laid in
    let c = counted laws flat limits proc t is h in
    let number : i ≡ slice_index (starts_of q.blocks) n + s.call = m.number_is ∙ ap (λ k. k + s.call) (sym (starts_at q.blocks n m.known)) in
    let back = blocks_back fl q (starts_of q.blocks) order (first_of_blocks h) place.0 n s.call (site_laid s) place.1 this in
    let front = with_front fl (begin_roles (passive_of fl q order)) (blocks_roles (starts_of q.blocks) (passive_blocks fl q order)) 0 (first_of_blocks h) (slice_index (starts_of q.blocks) n + s.call) (site_laid s) (omega (arith, c.front_is)) back in (
      s,
      m.terms_are,
      record {
        found = found laws flat limits proc t is h place.0 n s.call i (site_laid s) place.1 this number;
        roles = subst (λ (rs : List Role). RolesOf fl rs 0 i (site_laid s)) (sym c.roles_are)
            (subst (λ k. RolesOf fl (begin_roles (passive_of fl q order) ++ blocks_roles (starts_of q.blocks) (passive_blocks fl q order)) 0 k (site_laid s)) (sym number) front);
      },
    )

told_by : (flat : FlatProgram) (limits : List (List Bool)) (t : Template) (i : ℕ) (l : Laid) → FoundSite flat limits t i l → RolesOf (limited flat limits) t.roles 0 i l → (f : FoundSite flat limits t i l) → IsToldSite limits t i (site_terms f.site)
told_by flat limits t i l f0 b f =
    let fl = limited flat limits in
    let s = f.site in
    let first : s.first ≡ l.first = ap (λ (y : Laid). y.first) f.laid in
    let proc_same : s.proc ≡ l.proc = ap (λ (y : Laid). y.proc) f.laid in
    let count : length s.outs ≡ length (callee_outs fl l.proc) = are_count t.nodes s.outs (callee_outs fl s.proc) f.signed.outs_are ∙ ap (λ (y : Laid). length (callee_outs fl y.proc)) f.laid in
    let before = are_count t.nodes s.globals_before flat.globals f.asked.before_are in
    let all : length s.globals_after ≡ length s.globals_before = ap length f.signed.after_is ∙ replaced_count (row limits s.proc) s.globals_before s.changed in
    record {
      fails =
          let v = site_variable t.nodes s f.there 0 s.failed refl in
          let number : s.first + 0 ≡ b.offset = omega (arith, first, b.first_is) in
          (b.offset, record { sort = v.0; node_is = v.1 ∙ ap (λ k. Some (Variable k v.0)) number; role_is = b.failed });
      outs = λ k low.
          let o = get_there s.outs k low in
          let v = site_variable t.nodes s f.there (suc k) o.0 (get_left s.outs s.changed k o.0 o.1) in
          let number : s.first + suc k ≡ b.offset + (1 + k) = omega (arith, first, b.first_is) in (
            b.offset + (1 + k),
            record {
              sort = v.0;
              node_is = ap (slice_get t.nodes) (index_of s.outs k o.0 o.1) ∙ v.1 ∙ ap (λ x. Some (Variable x v.0)) number;
              role_is = b.outs k (subst (λ x. k < x) count low);
            },
          );
      changed = λ k low m.
          let inside : k < length flat.globals = omega (arith, low, all, before) in
          let marks : marked (row limits s.proc) k ≡ marked (row limits l.proc) k = ap (λ p. marked (row limits p) k) proc_same in
          let c = changed_at flat limits t s f.signed f.asked k inside m in
          let v = site_variable t.nodes s f.there (suc (length s.outs + marked (row limits s.proc) k)) c.node c.place in
          let number : s.first + suc (length s.outs + marked (row limits s.proc) k) ≡ b.offset + (1 + (length (callee_outs fl l.proc) + marked (row limits l.proc) k)) = omega (arith, first, b.first_is, count, marks) in (
            b.offset + (1 + (length (callee_outs fl l.proc) + marked (row limits l.proc) k)),
            record {
              sort = v.0;
              node_is = ap (slice_get t.nodes) (index_of s.globals_after k c.node c.after) ∙ v.1 ∙ ap (λ x. Some (Variable x v.0)) number;
              role_is = b.after k inside (ap (λ p. slice_index_or (row limits p) k false) (sym proc_same) ∙ m);
            },
          );
      kept = λ k low m.
          let o = get_there s.globals_after k low in
          let there : slice_get s.globals_before k ≡ Some o.0 = sym (kept_at (row limits s.proc) s.globals_before s.changed k m) ∙ ap (λ ts. slice_get ts k) (sym f.signed.after_is) ∙ o.1 in
          index_of s.globals_after k o.0 o.1 ∙ sym (index_of s.globals_before k o.0 there);
    }

pub sites_told : SiteLaws → SitesAreTold
sites_told laws = λ flat limits proc t i x is h at.
    let ss = h.made.instance.sites in
    let here : slice_get (sorted_sites (length h.q.blocks) ss) i ≡ Some x = ap (λ (y : Template). slice_get y.sites i) (sym h.made.made) ∙ at in
    let b = back_site laws flat limits proc t is h i x (by_number h.q.blocks ss (sites_are laws flat limits proc t is h) i x here) in
    let f = b.2.found in
    let same : site_terms f.site ≡ x = get_same t.sites i (site_terms f.site) x f.stands at in
    subst (IsToldSite limits t i) same (told_by flat limits t i (site_laid b.0) f b.2.roles f)

-- ---- the first variables

pub first_told : SiteLaws → FirstAreTold
first_told laws = λ flat limits proc t is h.
    let fl = limited flat limits in
    let q = h.q in
    let order = h.passive_is.order in
    let p = passive_of fl q order in
    let c = counted laws flat limits proc t is h in
    let own = items_roles 0 p.start.items in
    let blocks = blocks_roles (starts_of q.blocks) (passive_blocks fl q order) in
    let role : (n : ℕ) (r : Role) → slice_get (const_roles flat.consts ++ (global_roles flat.globals ++ in_roles q.ins)) n ≡ Some r → slice_get t.roles n ≡ Some r =
    λ n r e. ap (λ rs. slice_get rs n) c.roles_are ∙ get_left (begin_roles p) blocks n r (get_left (first_roles p) own n r e) in
    let node : (n : ℕ) (s : Sort) → slice_get (flat.consts ++ (flat.globals ++ q.ins)) n ≡ Some s → slice_get t.nodes (1 + n) ≡ Some (Variable n s) =
    λ n s e.
    let one : 1 + n ≡ suc n = omega arith in
    ap (slice_get t.nodes) one ∙ first_node (first_sorts h.passive) t.nodes h.made.instance_is.later.nodes n s (ap (λ (x : Passive). slice_get (first_sorts x) n) h.passive_is.is ∙ e) in
    let cs = numbered_length Const 0 flat.consts in
    let gs = numbered_length Global 0 flat.globals in
    record {
      consts = λ k low.
          let s = get_there flat.consts k low in
          let z : 0 + k ≡ k = omega arith in
          record {
            sort = s.0;
            node_is = node k s.0 (get_left flat.consts (flat.globals ++ q.ins) k s.0 s.1);
            role_is = role k (Const k) (get_left (const_roles flat.consts) (global_roles flat.globals ++ in_roles q.ins) k (Const k) (get_numbered Const 0 flat.consts k low ∙ ap (λ i. Some (Const i)) z));
          };
      globals = λ k low.
          let s = get_there flat.globals k low in
          let z : 0 + k ≡ k = omega arith in
          let n : length flat.consts + k ≡ length (const_roles flat.consts) + k = omega (arith, cs) in
          record {
            sort = s.0;
            node_is = node (length flat.consts + k) s.0 (get_right flat.consts (flat.globals ++ q.ins) k ∙ get_left flat.globals q.ins k s.0 s.1);
            role_is = role (length flat.consts + k) (Global k)
                (ap (slice_get (const_roles flat.consts ++ (global_roles flat.globals ++ in_roles q.ins))) n ∙ get_right (const_roles flat.consts) (global_roles flat.globals ++ in_roles q.ins) k
                ∙ get_left (global_roles flat.globals) (in_roles q.ins) k (Global k) (get_numbered Global 0 flat.globals k low ∙ ap (λ i. Some (Global i)) z));
          };
      ins = λ k low.
          let inside : k < length q.ins = subst (λ o. k < length (ins_at o)) h.proc_is low in
          let s = get_there q.ins k inside in
          let z : 0 + k ≡ k = omega arith in
          let m : length flat.globals + k ≡ length (global_roles flat.globals) + k = omega (arith, gs) in
          let n : length flat.consts + (length flat.globals + k) ≡ length (const_roles flat.consts) + (length flat.globals + k) = omega (arith, cs) in
          record {
            sort = s.0;
            node_is = node (length flat.consts + (length flat.globals + k)) s.0 (get_right flat.consts (flat.globals ++ q.ins) (length flat.globals + k) ∙ get_right flat.globals q.ins k ∙ s.1);
            role_is = role (length flat.consts + (length flat.globals + k)) (In k)
                (ap (slice_get (const_roles flat.consts ++ (global_roles flat.globals ++ in_roles q.ins))) n ∙ get_right (const_roles flat.consts) (global_roles flat.globals ++ in_roles q.ins) (length flat.globals + k)
                ∙ ap (slice_get (global_roles flat.globals ++ in_roles q.ins)) m ∙ get_right (global_roles flat.globals) (in_roles q.ins) k ∙ get_numbered In 0 q.ins k inside ∙ ap (λ i. Some (In i)) z);
          };
    }
