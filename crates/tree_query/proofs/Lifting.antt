-- The table of a partial tree over the formulas of a program has all that copying the formulas asks.
use Rattle.std.proofs.Common.{◌≡◌, ℕ, zero, suc, ◌<◌, ◌≤◌, Bool, true, false, List, [], ◌∷◌, length, arith, refl, sym, ap, ◌∙◌, subst, true≢false}
use Rattle.std.specs.Prelude.{Option, None, Some, is_some, slice_get, slice_index, IsSome, if◌then◌else◌, nat_eq}
use Rattle.std.specs.Option.{option_and_then}
use Rattle.std.proofs.lemmas.Option.{slice_get_within}
use Rattle.hy_val.specs.declared.sort.Sort.{Sort}
use Rattle.hy_term.specs.TermSorts.{named, sorts, sort_at}
use Rattle.hy_term.specs.declared.node.TermNode.{TermNode}
use Rattle.hy_term.specs.declared.node.TermNode.TheVariants.{Lit, ZeroMap, Variable, Unary, Binary, If, Select, Store}
use Rattle.hy_term.proofs.Numbering.{number_is, same_number}
use Rattle.flat_prog.specs.Program.{FlatProgram, outs_at}
use Rattle.flat_prog.specs.Shape.{IsFlat}
use Rattle.flat_prog.specs.declared.proc.FlatProc.{FlatProc}
use Rattle.passive_form.specs.WellSorted.{ins_at as passive_ins}
use Rattle.vc_gen.specs.Emit.{AllBefore}
use Rattle.vc_gen.specs.Items.{bool_sort}
use Rattle.proc_template.specs.Shape.{IsShaped, IsShapedSite, TemplatesAreShaped}
use Rattle.proc_template.specs.Template.{IsTemplateOf}
use Rattle.proc_template.specs.Told.{RoleIs, RolesAreTold}
use Rattle.template_law.specs.Formulas.{HaveFormulas}
use Rattle.tree_terms.proofs.Growth.{are_count, are_get, are_got, sort_within}
use Rattle.tree_terms.proofs.Parts.{variable_sort}
use Rattle.tree_terms.specs.Copying.{AreCopied}
use Rattle.tree_terms.specs.Linked.{template_of, nodes_by, nodes_of, parent, kid, role_of, site_of, node_by, given, up, down, back, by_role, source, IsVariable, IsLinked}
use Rattle.tree_terms.specs.Reach.{SitesFit}
use Rattle.tree_terms.specs.Rules.{IsBool}
use Rattle.tree_terms.specs.Standing.{AreOf}
use Rattle.tree_terms.specs.Tables.{row}
use Rattle.tree_terms.specs.declared.linked.Linked.{Linked}
use Rattle.tree_terms.specs.declared.linked.Role.{Role}
use Rattle.tree_terms.specs.declared.linked.Role.TheVariants.{Const, Global, In, Failed, Out, After, Own}
use Rattle.tree_terms.specs.declared.linked.SiteTerms.{SiteTerms}
use Rattle.tree_terms.specs.declared.linked.Source.TheVariants.{Given, Up, Down}
use Rattle.tree_terms.specs.declared.linked.Template.{Template as Formula}
use Rattle.tree_words.specs.Filling.{IsBack, IsSigned, SiteIsOf}
use Rattle.tree_words.specs.Linking.{ends_by, fails_by, first_at, globals_by, outs_by, proc_by, proc_of, role_or, sites_by, GlobalIs, InIs, IsFilled, IsThere}
use Rattle.tree_words.specs.Reading.{track_by}
use Rattle.tree_words.specs.Rooting.{BitsAreThere}
use Rattle.tree_words.specs.RulesSaid.{BitsAreBools}
use Rattle.tree_words.specs.Stands.{ins_at}
use Rattle.tree_words.specs.Template.{Template, TemplateFits, Within}
use Rattle.tree_query.specs.Walked.{IsWalked}
use Rattle.tree_query.proofs.Formed.{site_place}

-- ---- the one node of a variable

named_self : (n : ℕ) (sort : Sort) → named n (Variable n sort) ≡ Some sort
named_self n sort = ap (λ (b : Bool). if b then Some sort else None) (same_number n)

named_node : (n : ℕ) (node : TermNode) → is_some (named n node) ≡ true → (sort : Sort) × (node ≡ Variable n sort)
named_node n (Lit a) h = cc
named_node n (ZeroMap i e) h = cc
named_node n (Variable k sort) h = by_test (nat_eq k n) refl h
  where
    by_test : (b : Bool) → nat_eq k n ≡ b → is_some (if b then Some sort else None) ≡ true → (s : Sort) × (Variable k sort ≡ Variable n s)
    by_test true e y = (sort, ap (λ (m : ℕ). Variable m sort) (number_is k n e))
    by_test false e y = cc
named_node n (Unary op c) h = cc
named_node n (Binary op l r) h = cc
named_node n (If t o p) h = cc
named_node n (Select m i) h = cc
named_node n (Store m i v) h = cc

first_is : (n : ℕ) (nodes : List TermNode) (j : ℕ) (sort : Sort) → slice_get nodes j ≡ Some (Variable n sort) → ((i : ℕ) (other : Sort) → slice_get nodes i ≡ Some (Variable n other) → i ≡ j) → first_at n nodes ≡ j
first_is n [] j sort is one = cc
first_is n (node ∷ nodes) zero sort is one = by_test (is_some (named n node)) (ap is_some (ap (named n) here ∙ named_self n sort))
  where
    here : node ≡ Variable n sort
    here = cc

    by_test : (b : Bool) → b ≡ true → (if b then 0 else suc (first_at n nodes)) ≡ 0
    by_test true e = refl
    by_test false e = absurd (true≢false (sym e))
first_is n (node ∷ nodes) (suc j) sort is one = by_test (is_some (named n node)) refl (first_is n nodes j sort is (λ i other there. let e = one (suc i) other there in omega (arith, e)))
  where
    by_test : (b : Bool) → is_some (named n node) ≡ b → first_at n nodes ≡ j → (if b then 0 else suc (first_at n nodes)) ≡ suc j
    by_test true e rest = let v = named_node n node e in let none = one 0 v.0 (ap (λ (x : TermNode). Some x) v.1) in absurd (omega (arith, none))
    by_test false e rest = ap suc rest

-- ---- lists of nodes

within_of : (nodes : List TermNode) (ts : List ℕ) (ss : List Sort) → AreOf nodes ts ss → Within nodes ts
within_of nodes [] [] h = tt
within_of nodes [] (s ∷ ss) h = absurd h
within_of nodes (t ∷ ts) [] h = absurd h
within_of nodes (t ∷ ts) (s ∷ ss) h = (sort_within nodes t s h.0, within_of nodes ts ss h.1)

before_at : (n : ℕ) (ts : List ℕ) (k t : ℕ) → AllBefore n ts → slice_get ts k ≡ Some t → t < n
before_at n [] k t h is = cc
before_at n (x ∷ ts) zero t h is = let e : x ≡ t = cc in let l = h.0 in omega (arith, e, l)
before_at n (x ∷ ts) (suc k) t h is = before_at n ts k t h.1 is

-- the sort of a node in a list, by that at its place among the sorts
sort_got : (nodes : List TermNode) (ts : List ℕ) (ss : List Sort) (k t : ℕ) (sort : Sort) → AreOf nodes ts ss → slice_get ss k ≡ Some sort → slice_get ts k ≡ Some t → sort_at nodes t ≡ Some sort
sort_got nodes ts ss k t sort h is there = sym (ap (option_and_then (sort_at nodes)) there) ∙ are_get nodes ts ss k sort h is

-- ---- sources

given_is : (o : Option ℕ) (t : ℕ) → given o ≡ Given t → o ≡ Some t
given_is None t h = cc
given_is (Some x) t h = let e : x ≡ t = cc in ap (λ (y : ℕ). Some y) e

given_not_up : (o : Option ℕ) (i : ℕ) → given o ≡ Up i → ⊥
given_not_up None i h = cc
given_not_up (Some x) i h = cc

given_not_down : (o : Option ℕ) (c i : ℕ) → given o ≡ Down c i → ⊥
given_not_down None c i h = cc
given_not_down (Some x) c i h = cc

up_is : (o : Option ℕ) (i : ℕ) → up o ≡ Up i → o ≡ Some i
up_is None i h = cc
up_is (Some x) i h = let e : x ≡ i = cc in ap (λ (y : ℕ). Some y) e

up_not_given : (o : Option ℕ) (t : ℕ) → up o ≡ Given t → ⊥
up_not_given None t h = cc
up_not_given (Some x) t h = cc

up_not_down : (o : Option ℕ) (c i : ℕ) → up o ≡ Down c i → ⊥
up_not_down None c i h = cc
up_not_down (Some x) c i h = cc

down_is : (d : ℕ) (o : Option ℕ) (c i : ℕ) → down d o ≡ Down c i → (d ≡ c) × (o ≡ Some i)
down_is d None c i h = cc
down_is d (Some x) c i h = let e : x ≡ i = cc in let f : d ≡ c = cc in (f, ap (λ (y : ℕ). Some y) e)

down_not_given : (d : ℕ) (o : Option ℕ) (t : ℕ) → down d o ≡ Given t → ⊥
down_not_given d None t h = cc
down_not_given d (Some x) t h = cc

down_not_up : (d : ℕ) (o : Option ℕ) (i : ℕ) → down d o ≡ Up i → ⊥
down_not_up d None i h = cc
down_not_up d (Some x) i h = cc

back_is : (q : Linked) (which : Formula → Option ℕ) (o : Option ℕ) (c i : ℕ) → back q which o ≡ Down c i → (o ≡ Some c) × (option_and_then which (template_of q c) ≡ Some i)
back_is q which None c i h = cc
back_is q which (Some d) c i h =
    let e = down_is d (option_and_then which (template_of q d)) c i h in
    (ap (λ (y : ℕ). Some y) e.0, subst (λ (y : ℕ). option_and_then which (template_of q y) ≡ Some i) e.0 e.1)

back_not_given : (q : Linked) (which : Formula → Option ℕ) (o : Option ℕ) (t : ℕ) → back q which o ≡ Given t → ⊥
back_not_given q which None t h = cc
back_not_given q which (Some d) t h = down_not_given d (option_and_then which (template_of q d)) t h

back_not_up : (q : Linked) (which : Formula → Option ℕ) (o : Option ℕ) (i : ℕ) → back q which o ≡ Up i → ⊥
back_not_up q which None i h = cc
back_not_up q which (Some d) i h = down_not_up d (option_and_then which (template_of q d)) i h

-- ---- nodes

same_ins : (o : Option FlatProc) → passive_ins o ≡ ins_at o
same_ins None = refl
same_ins (Some p) = refl

site_is_of : (flat : FlatProgram) (nodes : List TermNode) (s : SiteTerms) → IsShapedSite flat nodes s → SiteIsOf flat nodes s
site_is_of flat nodes s h = record {
  outs = h.outs;
  after = h.after_are;
  args = subst (AreOf nodes s.args) (same_ins (slice_get flat.procs s.proc)) h.args_are;
  before = h.before_are;
}

-- a node of the table has a formula of its procedure
record NodeIs (flat : FlatProgram) (limits : List (List Bool)) (entry : ℕ) (q : Linked) (m : ℕ) : Type 0 where
  t : Formula
  is : template_of q m ≡ Some t
  made : IsTemplateOf flat limits (proc_of q entry m) t
  shape : IsShaped flat (proc_of q entry m) t

-- what a variable of a node stands for
record VariableIs (flat : FlatProgram) (entry : ℕ) (q : Linked) (t : Formula) (m j n : ℕ) (sort : Sort) : Type 0 where
  role : Role
  is : role_of q m n ≡ Some role
  says : RoleIs flat (proc_of q entry m) t j sort role
  here : sort_at t.nodes j ≡ Some sort

-- the node behind another is called by one before it
record CallIs (flat : FlatProgram) (limits : List (List Bool)) (entry : ℕ) (q : Linked) (m : ℕ) : Type 0 where
  site : SiteTerms
  is : site_of q (suc m) ≡ Some site
  before : parent q (suc m) < suc m
  low : parent q (suc m) < length q.tree
  caller : NodeIs flat limits entry q (parent q (suc m))
  shape : IsShapedSite flat caller.t.nodes site

-- the node c at the site of a node m
record KidIs (flat : FlatProgram) (limits : List (List Bool)) (entry : ℕ) (q : Linked) (m c : ℕ) (s : SiteTerms) : Type 0 where
  behind : m < c
  low : c < length q.tree
  caller : parent q c ≡ m
  is : site_of q c ≡ Some s
  node : NodeIs flat limits entry q c
  outs : AreOf node.t.nodes node.t.outs (outs_at (slice_get flat.procs s.proc))

-- what comes from a node's caller
record UpIs (q : Linked) (m i : ℕ) (sort : Sort) : Type 0 where
  low : parent q m < m
  sorted : sort_at (nodes_of q (parent q m)) i ≡ Some sort
  site : SiteTerms
  is : site_of q m ≡ Some site
  before : i < site.fails

-- a formula as contracts of questions see it
abbrev formula_by : Option Formula → Template
formula_by o = record {
  nodes = nodes_by o;
  role = λ n. role_or (option_and_then (λ (t : Formula). slice_get t.roles n) o);
  track = track_by o;
  sites = sites_by o;
  ends = ends_by o;
  fails = fails_by o;
  outs = outs_by o;
  globals = globals_by o;
}

module _ (shaped : TemplatesAreShaped) (roles : RolesAreTold) (flat : FlatProgram) (limits : List (List Bool)) (entry : ℕ) (tree : List (List ℕ)) (base : List TermNode) (q : Linked) (fl : IsFlat flat)
    (w : IsWalked flat entry tree q) (have : HaveFormulas flat limits entry q) (consts : AreOf base q.consts flat.consts) (globals : AreOf base q.globals flat.globals)
    (args : AreOf base q.args (ins_at (slice_get flat.procs entry))) where
  node_is : (m : ℕ) → m < length q.tree → NodeIs flat limits entry q m
  node_is m l = let h = have.each m l in record { t = h.0; is = h.1; made = h.2; shape = shaped flat limits (proc_of q entry m) h.0 fl h.2 }

  variable_is : (m j n : ℕ) (sort : Sort) → (x : NodeIs flat limits entry q m) → IsVariable q m j n sort → VariableIs flat entry q x.t m j n sort
  variable_is m j n sort x is =
      let here : slice_get x.t.nodes j ≡ Some (Variable n sort) = subst (λ (o : Option Formula). slice_get (nodes_by o) j ≡ Some (Variable n sort)) x.is is in
      let r = roles flat limits (proc_of q entry m) x.t j n sort fl x.made here in
      record {
        role = r.0;
        is = ap (λ (o : Option Formula). option_and_then (λ (t : Formula). slice_get t.roles n) o) x.is ∙ r.1;
        says = r.2;
        here = variable_sort x.t.nodes j n sort x.shape.sorted here;
      }

  site_in : (m i : ℕ) (s : SiteTerms) → (x : NodeIs flat limits entry q m) → slice_get (sites_by (template_of q m)) i ≡ Some s → slice_get x.t.sites i ≡ Some s
  site_in m i s x is = subst (λ (o : Option Formula). slice_get (sites_by o) i ≡ Some s) x.is is

  call_is : (m : ℕ) → suc m < length q.tree → CallIs flat limits entry q m
  call_is m l =
      let c = w.calls m l in
      let low : parent q (suc m) < length q.tree = omega (arith, l, c.caller) in
      let x = node_is (parent q (suc m)) low in
      let place = site_place q (suc m) c.site c.is in
      record { site = c.site; is = c.is; before = c.caller; low = low; caller = x; shape = x.shape.sites place.0 c.site (site_in (parent q (suc m)) place.0 c.site x place.1) }

  called_proc : (m c : ℕ) (s : SiteTerms) → m < c → site_of q c ≡ Some s → proc_of q entry c ≡ s.proc
  called_proc m zero s l is = absurd (omega (arith, l))
  called_proc m (suc c) s l is = ap proc_by is

  kid_is : (m i c : ℕ) (s : SiteTerms) → m < length q.tree → (x : NodeIs flat limits entry q m) → slice_get x.t.sites i ≡ Some s → kid q m i ≡ Some c → KidIs flat limits entry q m c s
  kid_is m i c s l x there is =
      let k = w.kids m i c l is in
      let other : slice_get x.t.sites i ≡ Some k.site = site_in m i k.site x k.site_there in
      let both : Some k.site ≡ Some s = sym other ∙ there in
      let same : k.site ≡ s = cc in
      let called : site_of q c ≡ Some s = k.called ∙ both in
      let y = node_is c k.there in
      record {
        behind = k.behind;
        low = k.there;
        caller = k.caller;
        is = called;
        node = y;
        outs = subst (λ (p : ℕ). AreOf y.t.nodes y.t.outs (outs_at (slice_get flat.procs p))) (called_proc m c s k.behind called) y.shape.outs;
      }

  -- ---- bits

  pub bits_there : BitsAreThere q
  bits_there = record {
    ends = λ m l. let x = node_is m l in subst (λ (o : Option Formula). ends_by o < length (nodes_by o)) (sym x.is) (sort_within x.t.nodes x.t.ends bool_sort x.shape.ends);
    fails = λ m l. let x = node_is m l in subst (λ (o : Option Formula). fails_by o < length (nodes_by o)) (sym x.is) (sort_within x.t.nodes x.t.fails bool_sort x.shape.fails);
    sites = λ m i s l is.
        let x = node_is m l in
        subst (λ (o : Option Formula). s.node < length (nodes_by o)) (sym x.is) (sort_within x.t.nodes s.node bool_sort (x.shape.sites i s (site_in m i s x is)).node);
  }

  pub bits_bools : BitsAreBools q
  bits_bools = record {
    ends = λ m l. let x = node_is m l in subst (λ (o : Option Formula). IsBool (nodes_by o) (ends_by o)) (sym x.is) x.shape.ends;
    fails = λ m l. let x = node_is m l in subst (λ (o : Option Formula). IsBool (nodes_by o) (fails_by o)) (sym x.is) x.shape.fails;
    sites = λ m i s l is. let x = node_is m l in subst (λ (o : Option Formula). IsBool (nodes_by o) s.node) (sym x.is) (x.shape.sites i s (site_in m i s x is)).node;
  }

  -- ---- what variables stand for is there

  global_there : (m k : ℕ) → m < length q.tree → k < length flat.globals → GlobalIs q m k
  global_there zero k l low = omega (arith, low, are_count base q.globals flat.globals globals)
  global_there (suc m) k l low =
      let c = call_is m l in
      let count = are_count c.caller.t.nodes c.site.before flat.globals c.shape.before_are in
      let within : k < length c.site.before = omega (arith, low, count) in
      (c.site, c.is, within)

  in_there : (m k : ℕ) → m < length q.tree → k < length (passive_ins (slice_get flat.procs (proc_of q entry m))) → InIs q m k
  in_there zero k l low =
      let count = are_count base q.args (ins_at (slice_get flat.procs entry)) args in
      let same = ap length (same_ins (slice_get flat.procs entry)) in
      omega (arith, low, count, same)
  in_there (suc m) k l low =
      let c = call_is m l in
      let count = are_count c.caller.t.nodes c.site.args (passive_ins (slice_get flat.procs c.site.proc)) c.shape.args_are in
      let here : k < length (passive_ins (slice_get flat.procs c.site.proc)) = subst (λ (o : Option SiteTerms). k < length (passive_ins (slice_get flat.procs (proc_by o)))) c.is low in
      let within : k < length c.site.args = omega (arith, here, count) in
      (c.site, c.is, within)

  there_by : (m j : ℕ) (sort : Sort) → m < length q.tree → (x : NodeIs flat limits entry q m) → (r : Role) → RoleIs flat (proc_of q entry m) x.t j sort r → IsThere q m r
  there_by m j sort l x (Const k) h = let low = slice_get_within flat.consts k sort h in omega (arith, low, are_count base q.consts flat.consts consts)
  there_by m j sort l x (Global k) h = global_there m k l (slice_get_within flat.globals k sort h)
  there_by m j sort l x (In k) h = in_there m k l (slice_get_within (passive_ins (slice_get flat.procs (proc_of q entry m))) k sort h)
  there_by m j sort l x (Failed i) h = tt
  there_by m j sort l x (Out i k) h = λ c is.
      let s = h.site in
      let y = kid_is m i c s l x h.site_is is in
      let mine = are_count x.t.nodes s.outs (outs_at (slice_get flat.procs s.proc)) (x.shape.sites i s h.site_is).outs in
      let its = are_count y.node.t.nodes y.node.t.outs (outs_at (slice_get flat.procs s.proc)) y.outs in
      let low : k < length y.node.t.outs = omega (arith, h.within, mine, its) in
      subst (λ (o : Option Formula). k < length (outs_by o)) (sym y.node.is) low
  there_by m j sort l x (After i k) h = λ c is.
      let s = h.site in
      let y = kid_is m i c s l x h.site_is is in
      let mine = are_count x.t.nodes s.after flat.globals (x.shape.sites i s h.site_is).after_are in
      let its = are_count y.node.t.nodes y.node.t.globals flat.globals y.node.shape.globals in
      let low : k < length y.node.t.globals = omega (arith, h.within, mine, its) in
      subst (λ (o : Option Formula). k < length (globals_by o)) (sym y.node.is) low
  there_by m j sort l x Own h = tt

  pub filled : IsFilled q track_by
  filled = record {
    root = w.root;
    formulas = λ m l. let h = have.each m l in (h.0, h.1);
    fits = λ m l.
        let x = node_is m l in
        subst (λ (o : Option Formula). TemplateFits (formula_by o)) (sym x.is)
        (record {
          sorted = x.shape.sorted;
          fails = sort_within x.t.nodes x.t.fails bool_sort x.shape.fails;
          outs = within_of x.t.nodes x.t.outs (outs_at (slice_get flat.procs (proc_of q entry m))) x.shape.outs;
          globals = within_of x.t.nodes x.t.globals flat.globals x.shape.globals;
          sites = λ i s is.
              let h = x.shape.sites i s is in
              record { args = within_of x.t.nodes s.args (passive_ins (slice_get flat.procs s.proc)) h.args_are; before = within_of x.t.nodes s.before flat.globals h.before_are };
        });
    once = λ m j n sort l is.
        let x = node_is m l in
        let here : slice_get x.t.nodes j ≡ Some (Variable n sort) = subst (λ (o : Option Formula). slice_get (nodes_by o) j ≡ Some (Variable n sort)) x.is is in
        subst (λ (o : Option Formula). first_at n (nodes_by o) ≡ j) (sym x.is) (first_is n x.t.nodes j sort here (λ i other there. x.shape.once i j n other sort there here));
    kids = λ m i c l is. let k = w.kids m i c l is in (k.behind, k.there, k.caller, k.site, k.site_there, k.called);
    there = λ m j n sort l is.
        let x = node_is m l in
        let v = variable_is m j n sort x is in
        subst (λ (o : Option Role). IsThere q m (role_or o)) (sym v.is) (there_by m j sort l x v.role v.says);
  }

  -- ---- signatures

  back_by : (m j : ℕ) (sort : Sort) → (x : NodeIs flat limits entry q m) → (r : Role) → RoleIs flat (proc_of q entry m) x.t j sort r → IsBack q m j sort r
  back_by m j sort x (Const k) h = tt
  back_by m j sort x (Global k) h = tt
  back_by m j sort x (In k) h = tt
  back_by m j sort x (Failed i) h = (h.site, subst (λ (o : Option Formula). slice_get (sites_by o) i ≡ Some h.site) (sym x.is) h.site_is, h.node_is, h.sort_is)
  back_by m j sort x (Out i k) h = (h.site, subst (λ (o : Option Formula). slice_get (sites_by o) i ≡ Some h.site) (sym x.is) h.site_is, h.within, h.node_is)
  back_by m j sort x (After i k) h = (h.site, subst (λ (o : Option Formula). slice_get (sites_by o) i ≡ Some h.site) (sym x.is) h.site_is, h.within, h.node_is)
  back_by m j sort x Own h = tt

  pub signed : IsSigned flat entry q base
  signed = record {
    consts = consts;
    globals = globals;
    args = args;
    sites = λ m i s l is.
        let x = node_is m l in
        subst (λ (o : Option Formula). SiteIsOf flat (nodes_by o) s) (sym x.is) (site_is_of flat x.t.nodes s (x.shape.sites i s (site_in m i s x is)));
    called = λ m l.
        let c = call_is m l in
        (c.site, c.is, c.before, subst (λ (o : Option Formula). SiteIsOf flat (nodes_by o) c.site) (sym c.caller.is) (site_is_of flat c.caller.t.nodes c.site c.shape));
    callee_outs = λ m i c s l is there.
        let x = node_is m l in
        let y = kid_is m i c s l x (site_in m i s x is) there in
        subst (λ (o : Option Formula). AreOf (nodes_by o) (outs_by o) (outs_at (slice_get flat.procs s.proc))) (sym y.node.is) y.outs;
    callee_globals = λ m l. let x = node_is m l in subst (λ (o : Option Formula). AreOf (nodes_by o) (globals_by o) flat.globals) (sym x.is) x.shape.globals;
    back = λ m j n sort l is.
        let x = node_is m l in
        let v = variable_is m j n sort x is in
        subst (λ (o : Option Role). IsBack q m j sort (role_or o)) (sym v.is) (back_by m j sort x v.role v.says);
  }

  -- ---- sources

  given_by : (m j t : ℕ) (sort : Sort) → (x : NodeIs flat limits entry q m) → (r : Role) → RoleIs flat (proc_of q entry m) x.t j sort r → by_role q m (Some r) ≡ Given t → sort_at base t ≡ Some sort
  given_by m j t sort x (Const k) h src = sort_got base q.consts flat.consts k t sort consts h (given_is (slice_get q.consts k) t src)
  given_by zero j t sort x (Global k) h src = sort_got base q.globals flat.globals k t sort globals h (given_is (slice_get q.globals k) t src)
  given_by (suc m) j t sort x (Global k) h src = absurd (up_not_given (option_and_then (λ (s : SiteTerms). slice_get s.before k) (site_of q (suc m))) t src)
  given_by zero j t sort x (In k) h src =
      sort_got base q.args (ins_at (slice_get flat.procs entry)) k t sort args (subst (λ (ss : List Sort). slice_get ss k ≡ Some sort) (same_ins (slice_get flat.procs entry)) h) (given_is (slice_get q.args k) t src)
  given_by (suc m) j t sort x (In k) h src = absurd (up_not_given (option_and_then (λ (s : SiteTerms). slice_get s.args k) (site_of q (suc m))) t src)
  given_by m j t sort x (Failed i) h src = absurd (back_not_given q (λ (f : Formula). Some f.fails) (kid q m i) t src)
  given_by m j t sort x (Out i k) h src = absurd (back_not_given q (λ (f : Formula). slice_get f.outs k) (kid q m i) t src)
  given_by m j t sort x (After i k) h src = absurd (back_not_given q (λ (f : Formula). slice_get f.globals k) (kid q m i) t src)
  given_by m j t sort x Own h src = cc

  up_from : (m i : ℕ) (sort : Sort) → (c : CallIs flat limits entry q m) → sort_at c.caller.t.nodes i ≡ Some sort → i < c.site.fails → UpIs q (suc m) i sort
  up_from m i sort c s b = record {
    low = c.before;
    sorted = subst (λ (o : Option Formula). sort_at (nodes_by o) i ≡ Some sort) (sym c.caller.is) s;
    site = c.site;
    is = c.is;
    before = b;
  }

  up_by : (m j i : ℕ) (sort : Sort) → m < length q.tree → (x : NodeIs flat limits entry q m) → (r : Role) → RoleIs flat (proc_of q entry m) x.t j sort r → by_role q m (Some r) ≡ Up i → UpIs q m i sort
  up_by m j i sort l x (Const k) h src = absurd (given_not_up (slice_get q.consts k) i src)
  up_by zero j i sort l x (Global k) h src = absurd (given_not_up (slice_get q.globals k) i src)
  up_by (suc m) j i sort l x (Global k) h src =
      let c = call_is m l in
      let there : slice_get c.site.before k ≡ Some i =
      sym (ap (λ (o : Option SiteTerms). option_and_then (λ (s : SiteTerms). slice_get s.before k) o) c.is) ∙ up_is (option_and_then (λ (s : SiteTerms). slice_get s.before k) (site_of q (suc m))) i src in
      up_from m i sort c (sort_got c.caller.t.nodes c.site.before flat.globals k i sort c.shape.before_are h there) (before_at c.site.fails c.site.before k i c.shape.before there)
  up_by zero j i sort l x (In k) h src = absurd (given_not_up (slice_get q.args k) i src)
  up_by (suc m) j i sort l x (In k) h src =
      let c = call_is m l in
      let there : slice_get c.site.args k ≡ Some i =
      sym (ap (λ (o : Option SiteTerms). option_and_then (λ (s : SiteTerms). slice_get s.args k) o) c.is) ∙ up_is (option_and_then (λ (s : SiteTerms). slice_get s.args k) (site_of q (suc m))) i src in
      let its : slice_get (passive_ins (slice_get flat.procs c.site.proc)) k ≡ Some sort = subst (λ (o : Option SiteTerms). slice_get (passive_ins (slice_get flat.procs (proc_by o))) k ≡ Some sort) c.is h in
      up_from m i sort c (sort_got c.caller.t.nodes c.site.args (passive_ins (slice_get flat.procs c.site.proc)) k i sort c.shape.args_are its there) (before_at c.site.fails c.site.args k i c.shape.args there)
  up_by m j i sort l x (Failed k) h src = absurd (back_not_up q (λ (f : Formula). Some f.fails) (kid q m k) i src)
  up_by m j i sort l x (Out k n) h src = absurd (back_not_up q (λ (f : Formula). slice_get f.outs n) (kid q m k) i src)
  up_by m j i sort l x (After k n) h src = absurd (back_not_up q (λ (f : Formula). slice_get f.globals n) (kid q m k) i src)
  up_by m j i sort l x Own h src = cc

  up_source : (m j n i : ℕ) (sort : Sort) → m < length q.tree → IsVariable q m j n sort → source q m n ≡ Up i → UpIs q m i sort
  up_source m j n i sort l is src =
      let x = node_is m l in
      let v = variable_is m j n sort x is in
      up_by m j i sort l x v.role v.says (sym (ap (by_role q m) v.is) ∙ src)

  -- what a variable for what comes back from the node c has in its place
  abbrev DownIs : (m j c i : ℕ) → Sort → Type 0
  DownIs m j c i sort =
      (m < c) × (c < length q.tree) × (sort_at (nodes_of q c) i ≡ Some sort)
      × ((j2 number2 i2 : ℕ) (sort2 : Sort) → IsVariable q c j2 number2 sort2 → source q c number2 ≡ Up i2 → (parent q c ≡ m) × (i2 < j))

  down_from : (m j c i : ℕ) (sort : Sort) (s : SiteTerms) → (y : KidIs flat limits entry q m c s) → sort_at y.node.t.nodes i ≡ Some sort → s.fails ≤ j → DownIs m j c i sort
  down_from m j c i sort s y h low = (
    y.behind,
    y.low,
    subst (λ (o : Option Formula). sort_at (nodes_by o) i ≡ Some sort) (sym y.node.is) h,
    λ j2 number2 i2 sort2 is src.
        let u = up_source c j2 number2 i2 sort2 y.low is src in
        let both : Some u.site ≡ Some s = sym u.is ∙ y.is in
        let same : u.site ≡ s = cc in
        let before : i2 < s.fails = subst (λ (z : SiteTerms). i2 < z.fails) same u.before in
        let ordered : i2 < j = omega (arith, before, low) in
        (y.caller, ordered),
  )

  down_by : (m j c i : ℕ) (sort : Sort) → m < length q.tree → (x : NodeIs flat limits entry q m) → sort_at x.t.nodes j ≡ Some sort → (r : Role) → RoleIs flat (proc_of q entry m) x.t j sort r → by_role q m (Some r) ≡ Down c i
      → DownIs m j c i sort
  down_by m j c i sort l x here (Const k) h src = absurd (given_not_down (slice_get q.consts k) c i src)
  down_by zero j c i sort l x here (Global k) h src = absurd (given_not_down (slice_get q.globals k) c i src)
  down_by (suc m) j c i sort l x here (Global k) h src = absurd (up_not_down (option_and_then (λ (s : SiteTerms). slice_get s.before k) (site_of q (suc m))) c i src)
  down_by zero j c i sort l x here (In k) h src = absurd (given_not_down (slice_get q.args k) c i src)
  down_by (suc m) j c i sort l x here (In k) h src = absurd (up_not_down (option_and_then (λ (s : SiteTerms). slice_get s.args k) (site_of q (suc m))) c i src)
  down_by m j c i sort l x here (Failed k) h src =
      let b = back_is q (λ (f : Formula). Some f.fails) (kid q m k) c i src in
      let y = kid_is m k c h.site l x h.site_is b.0 in
      let fails : Some y.node.t.fails ≡ Some i = sym (ap (option_and_then (λ (f : Formula). Some f.fails)) y.node.is) ∙ b.1 in
      let same : y.node.t.fails ≡ i = cc in
      let low : h.site.fails ≤ j = omega (arith, h.node_is) in
      down_from m j c i sort h.site y (ap (sort_at y.node.t.nodes) (sym same) ∙ (y.node.shape.fails ∙ ap (λ (z : Sort). Some z) (sym h.sort_is))) low
  down_by m j c i sort l x here (Out k n) h src =
      let s = h.site in
      let b = back_is q (λ (f : Formula). slice_get f.outs n) (kid q m k) c i src in
      let y = kid_is m k c s l x h.site_is b.0 in
      let its = outs_at (slice_get flat.procs s.proc) in
      let mine = (x.shape.sites k s h.site_is).outs in
      let count = are_count x.t.nodes s.outs its mine in
      let sorted : slice_get its n ≡ Some sort = sym (are_got x.t.nodes s.outs its n mine (omega (arith, h.within, count))) ∙ (ap (sort_at x.t.nodes) h.node_is ∙ here) in
      let there : slice_get y.node.t.outs n ≡ Some i = sym (ap (option_and_then (λ (f : Formula). slice_get f.outs n)) y.node.is) ∙ b.1 in
      let low : s.fails ≤ j = omega (arith, h.behind) in
      down_from m j c i sort s y (sort_got y.node.t.nodes y.node.t.outs its n i sort y.outs sorted there) low
  down_by m j c i sort l x here (After k n) h src =
      let s = h.site in
      let b = back_is q (λ (f : Formula). slice_get f.globals n) (kid q m k) c i src in
      let y = kid_is m k c s l x h.site_is b.0 in
      let mine = (x.shape.sites k s h.site_is).after_are in
      let count = are_count x.t.nodes s.after flat.globals mine in
      let sorted : slice_get flat.globals n ≡ Some sort = sym (are_got x.t.nodes s.after flat.globals n mine (omega (arith, h.within, count))) ∙ (ap (sort_at x.t.nodes) h.node_is ∙ here) in
      let there : slice_get y.node.t.globals n ≡ Some i = sym (ap (option_and_then (λ (f : Formula). slice_get f.globals n)) y.node.is) ∙ b.1 in
      let low : s.fails ≤ j = omega (arith, h.behind) in
      down_from m j c i sort s y (sort_got y.node.t.nodes y.node.t.globals flat.globals n i sort y.node.shape.globals sorted there) low
  down_by m j c i sort l x here Own h src = cc

  pub linked : IsLinked q base
  linked = record {
    sorted = λ m l. let x = node_is m l in subst (λ (o : Option Formula). IsSome (sorts (nodes_by o))) (sym x.is) x.shape.sorted;
    given = λ m j n t sort l is src.
        let x = node_is m l in
        let v = variable_is m j n sort x is in
        given_by m j t sort x v.role v.says (sym (ap (by_role q m) v.is) ∙ src);
    up = λ m j n i sort l is src. let u = up_source m j n i sort l is src in (u.low, u.sorted);
    down = λ m j n c i sort l is src.
        let x = node_is m l in
        let v = variable_is m j n sort x is in
        down_by m j c i sort l x v.here v.role v.says (sym (ap (by_role q m) v.is) ∙ src);
  }

  -- ---- the sites of the nodes, where the formulas are copied

  site_low : (m : ℕ) → (c : CallIs flat limits entry q m) → (into : List TermNode) (places : List (List ℕ)) → AreCopied q base into places → c.site.node < length (row places (parent q (suc m)))
  site_low m c into places done =
      let up = parent q (suc m) in
      let whole = done.whole up c.low in
      let here : c.site.node < length (nodes_of q up) = subst (λ (o : Option Formula). c.site.node < length (nodes_by o)) (sym c.caller.is) (sort_within c.caller.t.nodes c.site.node bool_sort c.shape.node) in
      omega (arith, whole, here)

  pub sites_fit : (into : List TermNode) (places : List (List ℕ)) → AreCopied q base into places → SitesFit q into places
  sites_fit into places done = record {
    count = done.copying.count;
    up = λ m l. (call_is m l).before;
    there = λ m l. let c = call_is m l in subst (λ (o : Option SiteTerms). node_by o < length (row places (parent q (suc m)))) (sym c.is) (site_low m c into places done);
    bool = λ m l.
        let c = call_is m l in
        let bool : sort_at (nodes_of q (parent q (suc m))) c.site.node ≡ Some bool_sort = subst (λ (o : Option Formula). sort_at (nodes_by o) c.site.node ≡ Some bool_sort) (sym c.caller.is) c.shape.node in
        subst (λ (o : Option SiteTerms). IsBool into (slice_index (row places (parent q (suc m))) (node_by o))) (sym c.is)
        ((done.copying.parts (parent q (suc m)) c.low).sorts_are c.site.node (site_low m c into places done) ∙ bool);
  }
