-- One item becomes terms.
use Rattle.std.proofs.Common.{◌≡◌, ℕ, Bool, true, false, not, ◌&&◌, ◌||◌, List, [], ◌∷◌, ◌++◌, length, arith, sym, ◌∙◌, ap, refl, subst, append-nil}
use Rattle.std.specs.Prelude.{Option, None, Some, slice_get, IsTrue, IsSome}
use Rattle.std.specs.Option.{option_and_then, option_map}
use Rattle.std.proofs.lemmas.Option.{slice_get-map}
use Rattle.hy_val.specs.Exprs.{eval_by}
use Rattle.hy_val.specs.Building.{whole_sort}
use Rattle.hy_val.specs.Laws.{AgreeOn}
use Rattle.hy_val.specs.Values.{default, at, is_on, has_sort, zero_of}
use Rattle.hy_val.specs.declared.sort.Sort.{Sort}
use Rattle.hy_val.specs.declared.value.Value.{Value}
use Rattle.hy_val.specs.declared.expr.Var.{Var}
use Rattle.hy_val.specs.declared.expr.Var.TheVariants.{Const, Global, Local}
use Rattle.hy_val.specs.declared.expr.ExprNode.{ExprNode}
use Rattle.hy_val.specs.declared.expr.ExprNode.TheVariants.{Lit, Var as Read, Unary, Binary, If, Select, Store}
use Rattle.hy_val.proofs.Lawful.{only_variables}
use Rattle.hy_val.proofs.Lists.{slice_get-seam}
use Rattle.hy_term.specs.TermSorts.{sort_at}
use Rattle.hy_term.specs.Meaning.{values, value}
use Rattle.hy_term.specs.Variables.{below}
use Rattle.hy_term.specs.declared.node.TermNode.{TermNode}
use Rattle.passive_form.specs.declared.Item.TheVariants.{Let, Zero, Need, Check}
use Rattle.passive_form.specs.Making.{sort_or}
use Rattle.passive_form.specs.Versions.{look_at}
use Rattle.vc_gen.specs.declared.parts.Draft.{Draft}
use Rattle.vc_gen.specs.declared.parts.FailTerm.{FailTerm}
use Rattle.vc_gen.specs.Standing.{Later, Plain, AreOf, variables_in}
use Rattle.vc_gen.specs.Translate.{term_of, value_of, look_terms, ReadsFit, Says as ExprSays}
use Rattle.vc_gen.specs.Items.{bool_sort, sort_in, ReadsIn, FailMeans}
use Rattle.vc_gen.specs.Emit.{ItemReady, Meant, IsBoth, IsNot, Passed, Step}
use Rattle.vc_gen.proofs.Growth.{later_then, sort_later, are_count, are_get}
use Rattle.vc_gen.proofs.Joining.{meant_back, fits_before}
use Rattle.vc_gen.proofs.Passes.{bit_later}

-- ---- expressions

in_fits : (nodes : List TermNode) (cs versions : List ℕ) (csorts vsorts : List Sort) (x : Var) (s : Sort) → AreOf nodes cs csorts → AreOf nodes versions vsorts → sort_in csorts vsorts x ≡ Some s →
    option_and_then (sort_at nodes) (term_of cs versions x) ≡ Some s
in_fits nodes cs versions csorts vsorts (Const n) s c v h = are_get nodes cs csorts n s c h
in_fits nodes cs versions csorts vsorts (Global n) s c v h = cc
in_fits nodes cs versions csorts vsorts (Local n) s c v h = are_get nodes versions vsorts n s v h

pub reads_fit : (nodes : List TermNode) (cs versions : List ℕ) (csorts vsorts : List Sort) (e : List ExprNode) → AreOf nodes cs csorts → AreOf nodes versions vsorts → ReadsIn csorts vsorts e → ReadsFit nodes cs versions e
reads_fit nodes cs versions csorts vsorts [] c v h = tt
reads_fit nodes cs versions csorts vsorts (Lit a ∷ e) c v h = (tt, reads_fit nodes cs versions csorts vsorts e c v h)
reads_fit nodes cs versions csorts vsorts (Read x s ∷ e) c v (h, hs) = (in_fits nodes cs versions csorts vsorts x s c v h, reads_fit nodes cs versions csorts vsorts e c v hs)
reads_fit nodes cs versions csorts vsorts (Unary op i ∷ e) c v h = (tt, reads_fit nodes cs versions csorts vsorts e c v h)
reads_fit nodes cs versions csorts vsorts (Binary op l r ∷ e) c v h = (tt, reads_fit nodes cs versions csorts vsorts e c v h)
reads_fit nodes cs versions csorts vsorts (If t y n ∷ e) c v h = (tt, reads_fit nodes cs versions csorts vsorts e c v h)
reads_fit nodes cs versions csorts vsorts (Select m i ∷ e) c v h = (tt, reads_fit nodes cs versions csorts vsorts e c v h)
reads_fit nodes cs versions csorts vsorts (Store m i w ∷ e) c v h = (tt, reads_fit nodes cs versions csorts vsorts e c v h)

const_value : (vs : List Value) (o : Option ℕ) → value_of vs o ≡ default (option_map (at vs) o)
const_value vs None = refl
const_value vs (Some t) = refl

local_value : (a : ℕ → Value) (nodes : List TermNode) (cs versions : List ℕ) (consts : List Value) (vals : ℕ → Value) (n : ℕ) (s : Sort) (o : Option ℕ) → Meant a nodes cs versions consts vals → slice_get versions n ≡ o →
    option_and_then (sort_at nodes) o ≡ Some s → value_of (values a nodes) o ≡ vals n
local_value a nodes cs versions consts vals n s None m e h = cc
local_value a nodes cs versions consts vals n s (Some t) m e h = sym (m.each n t e)

var_value : (a : ℕ → Value) (nodes : List TermNode) (cs versions : List ℕ) (consts : List Value) (vals : ℕ → Value) (x : Var) (s : Sort) → Meant a nodes cs versions consts vals →
    option_and_then (sort_at nodes) (term_of cs versions x) ≡ Some s → look_terms (values a nodes) cs versions x ≡ look_at consts vals x
var_value a nodes cs versions consts vals (Const n) s m h =
    const_value (values a nodes) (slice_get cs n) ∙ ap default (sym (slice_get-map (at (values a nodes)) cs n)) ∙ ap (λ (vs : List Value). at vs n) m.consts_are
var_value a nodes cs versions consts vals (Global n) s m h = cc
var_value a nodes cs versions consts vals (Local n) s m h = local_value a nodes cs versions consts vals n s (slice_get versions n) m refl h

agree_terms : (a : ℕ → Value) (nodes : List TermNode) (cs versions : List ℕ) (consts : List Value) (vals : ℕ → Value) (e : List ExprNode) → Meant a nodes cs versions consts vals → ReadsFit nodes cs versions e →
    AgreeOn (look_terms (values a nodes) cs versions) (look_at consts vals) e
agree_terms a nodes cs versions consts vals [] m h = tt
agree_terms a nodes cs versions consts vals (Lit v ∷ e) m (h, hs) = agree_terms a nodes cs versions consts vals e m hs
agree_terms a nodes cs versions consts vals (Read x s ∷ e) m (h, hs) = (var_value a nodes cs versions consts vals x s m h, agree_terms a nodes cs versions consts vals e m hs)
agree_terms a nodes cs versions consts vals (Unary op i ∷ e) m (h, hs) = agree_terms a nodes cs versions consts vals e m hs
agree_terms a nodes cs versions consts vals (Binary op l r ∷ e) m (h, hs) = agree_terms a nodes cs versions consts vals e m hs
agree_terms a nodes cs versions consts vals (If t y n ∷ e) m (h, hs) = agree_terms a nodes cs versions consts vals e m hs
agree_terms a nodes cs versions consts vals (Select i j ∷ e) m (h, hs) = agree_terms a nodes cs versions consts vals e m hs
agree_terms a nodes cs versions consts vals (Store i j w ∷ e) m (h, hs) = agree_terms a nodes cs versions consts vals e m hs

-- the term of an expression has the value of the expression over versions
pub expr_value : (old new : List TermNode) (cs versions : List ℕ) (a : ℕ → Value) (consts : List Value) (vals : ℕ → Value) (e : List ExprNode) (t : ℕ) → ExprSays old new cs versions e t → ReadsFit old cs versions e →
    Meant a old cs versions consts vals → value a new t ≡ eval_by (look_at consts vals) e
expr_value old new cs versions a consts vals e t s r m =
    s.value_is a ∙ only_variables (look_terms (values a old) cs versions) (look_at consts vals) e (agree_terms a old cs versions consts vals e m r)

-- ---- items

pub or_false : (b : Bool) → b ≡ (b || false)
or_false true = refl
or_false false = refl

pub sort_is : (o : Option Sort) → IsSome o → o ≡ Some (sort_or o)
sort_is None h = cc
sort_is (Some s) h = refl

-- the version that is pushed
pub pushed_at : (vs : List ℕ) (t v n : ℕ) → v ≡ n → length vs ≡ n → slice_get (vs ++ t ∷ []) v ≡ Some t
pushed_at vs t v n p q = ap (slice_get (vs ++ t ∷ [])) (p ∙ sym q) ∙ slice_get-seam vs t

module _ (cs : List ℕ) (block : ℕ) (old : List TermNode) (d : Draft) where
  pub step_let : (new : List TermNode) (v t : ℕ) (e : List ExprNode) (vs : List ℕ) → ItemReady old cs d (Let v e) → Later old new → Plain old new → ExprSays old new cs d.versions e t → vs ≡ d.versions ++ t ∷ [] →
      Step cs block old d (Let v e ∷ []) new (record d { versions = vs })
  step_let new v t e vs r later plain s is =
      let st = r.stands in
      let fit = reads_fit old cs d.versions r.csorts r.vsorts e st.consts st.versions r.fit.1 in
      record {
        later = later;
        more = t ∷ [];
        versions = is;
        are = (s.sort ∙ sort_is (whole_sort e) s.there, tt);
        cond = sort_later old new d.cond bool_sort later st.cond;
        fails = sort_later old new d.fails bool_sort later st.fails;
        next = omega arith;
        below = plain.below d.next st.next;
        sites = [];
        sites_there = tt;
        sites_of = tt;
        sites_behind = sym (append-nil d.sites);
        asked = λ csorts vsorts _. tt;
        numbered = refl;
        laid = refl;
        calls = omega arith;
        variables = plain.numbers ∙ sym (append-nil (variables_in old));
        asserts = [];
        asserts_there = tt;
        asserts_behind = sym (append-nil d.asserts);
        checked = refl;
        values = [];
        values_there = tt;
        values_behind = sym (append-nil d.values);
        taken = λ a consts vals f m. refl;
        says = λ a consts vals f m.
            let back = meant_back a old new cs d.versions (t ∷ []) vs r.csorts r.vsorts consts vals later st.consts st.versions is m in
            record {
              defined = (m.each v t (ap (λ xs. slice_get xs v) is ∙ pushed_at d.versions t v (length r.vsorts) r.fit.0 (are_count old d.versions r.vsorts st.versions)) ∙ expr_value old new cs d.versions a consts vals e t s fit back, tt);
              on = bit_later old new a d.cond later st.cond;
              fails = bit_later old new a d.fails later st.fails ∙ or_false (is_on (value a old d.fails));
              inputs_are = refl;
              sites_are = refl;
              asserts_are = refl;
            };
        fit = λ a f k. plain.fit a f;
      }

  pub step_zero : (new : List TermNode) (v t : ℕ) (s : Sort) (vs : List ℕ) → ItemReady old cs d (Zero v s) → Later old new → Plain old new → sort_at new t ≡ Some s → ((a : ℕ → Value) → value a new t ≡ zero_of s) → vs ≡ d.versions ++ t ∷ [] →
      Step cs block old d (Zero v s ∷ []) new (record d { versions = vs })
  step_zero new v t s vs r later plain sorted zero_is is =
      let st = r.stands in
      record {
        later = later;
        more = t ∷ [];
        versions = is;
        are = (sorted, tt);
        cond = sort_later old new d.cond bool_sort later st.cond;
        fails = sort_later old new d.fails bool_sort later st.fails;
        next = omega arith;
        below = plain.below d.next st.next;
        sites = [];
        sites_there = tt;
        sites_of = tt;
        sites_behind = sym (append-nil d.sites);
        asked = λ csorts vsorts _. tt;
        numbered = refl;
        laid = refl;
        calls = omega arith;
        variables = plain.numbers ∙ sym (append-nil (variables_in old));
        asserts = [];
        asserts_there = tt;
        asserts_behind = sym (append-nil d.asserts);
        checked = refl;
        values = [];
        values_there = tt;
        values_behind = sym (append-nil d.values);
        taken = λ a consts vals f m. refl;
        says = λ a consts vals f m. record {
          defined = (m.each v t (ap (λ xs. slice_get xs v) is ∙ pushed_at d.versions t v (length r.vsorts) r.fit.0 (are_count old d.versions r.vsorts st.versions)) ∙ zero_is a, tt);
          on = bit_later old new a d.cond later st.cond;
          fails = bit_later old new a d.fails later st.fails ∙ or_false (is_on (value a old d.fails));
          inputs_are = refl;
          sites_are = refl;
          asserts_are = refl;
        };
        fit = λ a f k. plain.fit a f;
      }

  pub step_need : (mid new : List TermNode) (e : List ExprNode) (t u : ℕ) → ItemReady old cs d (Need e) → Later old mid → Plain old mid → ExprSays old mid cs d.versions e t → Later mid new → Plain mid new → IsBoth mid new d.cond t u →
      Step cs block old d (Need e ∷ []) new (record d { cond = u })
  step_need mid new e t u r l1 p1 s l2 p2 b =
      let st = r.stands in
      let later = later_then old mid new l1 l2 in
      let fit = reads_fit old cs d.versions r.csorts r.vsorts e st.consts st.versions r.fit.1 in
      record {
        later = later;
        more = [];
        versions = sym (append-nil d.versions);
        are = tt;
        cond = b.sort;
        fails = sort_later old new d.fails bool_sort later st.fails;
        next = omega arith;
        below = p2.below d.next (p1.below d.next st.next);
        sites = [];
        sites_there = tt;
        sites_of = tt;
        sites_behind = sym (append-nil d.sites);
        asked = λ csorts vsorts _. tt;
        numbered = refl;
        laid = refl;
        calls = omega arith;
        variables = p2.numbers ∙ p1.numbers ∙ sym (append-nil (variables_in old));
        asserts = [];
        asserts_there = tt;
        asserts_behind = sym (append-nil d.asserts);
        checked = refl;
        values = [];
        values_there = tt;
        values_behind = sym (append-nil d.values);
        taken = λ a consts vals f m. refl;
        says = λ a consts vals f m.
            let back = meant_back a old new cs d.versions [] d.versions r.csorts r.vsorts consts vals later st.consts st.versions (sym (append-nil d.versions)) m in
            record {
              defined = tt;
              on = b.means a (fits_before a mid new l2 f) ∙ ap (λ x. x && is_on (value a mid t)) (bit_later old mid a d.cond l1 st.cond)
                  ∙ ap (λ x. is_on (value a old d.cond) && is_on x) (expr_value old mid cs d.versions a consts vals e t s fit back);
              fails = bit_later old new a d.fails later st.fails ∙ or_false (is_on (value a old d.fails));
              inputs_are = refl;
              sites_are = refl;
              asserts_are = refl;
            };
        fit = λ a f k. p2.fit a (p1.fit a f);
      }

  pub step_check : (m1 m2 new : List TermNode) (p : ℕ) (e : List ExprNode) (h n t : ℕ) (g : Draft) (fs : List FailTerm) → ItemReady old cs d (Check p e) → Later old m1 → Plain old m1 → ExprSays old m1 cs d.versions e h →
      Later m1 m2 → Plain m1 m2 → IsNot m1 m2 h n → Later m2 new → Plain m2 new → Passed m2 d h n new g t → fs ≡ g.asserts ++ record { block = block; position = p; node = t } ∷ [] →
      Step cs block old d (Check p e ∷ []) new (record g { asserts = fs })
  step_check m1 m2 new p e h n t g fs r l1 p1 s l2 p2 b l3 p3 w is =
      let st = r.stands in
      let l12 = later_then old m1 m2 l1 l2 in
      let later = later_then old m2 new l12 l3 in
      let fit = reads_fit old cs d.versions r.csorts r.vsorts e st.consts st.versions r.fit.1 in
      let hb : sort_at m1 h ≡ Some bool_sort = s.sort ∙ r.fit.0 in
      let same_versions : g.versions ≡ d.versions = ap (λ (x : Draft). x.versions) w.draft_is in
      let vs : g.versions ≡ d.versions ++ [] = same_versions ∙ sym (append-nil d.versions) in
      let same_next : g.next ≡ d.next = ap (λ (x : Draft). x.next) w.draft_is in
      let same_sites : g.sites ≡ d.sites ++ [] = ap (λ (x : Draft). x.sites) w.draft_is ∙ sym (append-nil d.sites) in
      let same_asserts : g.asserts ≡ d.asserts = ap (λ (x : Draft). x.asserts) w.draft_is in
      record {
        later = later;
        more = [];
        versions = vs;
        are = tt;
        cond = w.cond;
        fails = w.fails;
        next = omega (arith, same_next);
        below = subst (λ (k : ℕ). IsTrue (below k new)) (sym same_next) (p3.below d.next (p2.below d.next (p1.below d.next st.next)));
        sites = [];
        sites_there = tt;
        sites_of = tt;
        sites_behind = same_sites;
        asked = λ csorts vsorts _. tt;
        numbered = refl;
        laid = refl;
        calls = omega (arith, ap (λ (x : Draft). x.calls) w.draft_is);
        variables = p3.numbers ∙ p2.numbers ∙ p1.numbers ∙ sym (append-nil (variables_in old));
        asserts = record { block = block; position = p; node = t } ∷ [];
        asserts_there = (w.sort, tt);
        asserts_behind = is ∙ ap (λ xs. xs ++ record { block = block; position = p; node = t } ∷ []) same_asserts;
        checked = refl;
        values = [];
        values_there = tt;
        values_behind = ap (λ (x : Draft). x.values) w.draft_is ∙ sym (append-nil d.values);
        taken = λ a consts vals f m. refl;
        says = λ a consts vals f m.
            let f2 = fits_before a m2 new l3 f in
            let f1 = fits_before a m1 m2 l2 f2 in
            let back = meant_back a old new cs d.versions [] g.versions r.csorts r.vsorts consts vals later st.consts st.versions vs m in
            let cond_is = bit_later old m2 a d.cond l12 st.cond in
            let gone_is = bit_later old m2 a d.fails l12 st.fails in
            let at_h : is_on (value a m1 h) ≡ is_on (eval_by (look_at consts vals) e) = ap is_on (expr_value old m1 cs d.versions a consts vals e h s fit back) in
            let h_is : is_on (value a m2 h) ≡ is_on (eval_by (look_at consts vals) e) = bit_later m1 m2 a h l2 hb ∙ at_h in
            let n_is : is_on (value a m2 n) ≡ not (is_on (eval_by (look_at consts vals) e)) = b.means a f1 ∙ ap not at_h in
            let here : (is_on (value a m2 d.cond) && is_on (value a m2 n)) ≡ (is_on (value a old d.cond) && not (is_on (eval_by (look_at consts vals) e))) =
            ap (λ x. x && is_on (value a m2 n)) cond_is ∙ ap (λ x. is_on (value a old d.cond) && x) n_is in
            record {
              defined = tt;
              on = w.goes a f2 ∙ ap (λ x. x && is_on (value a m2 h)) cond_is ∙ ap (λ x. is_on (value a old d.cond) && x) h_is;
              fails = w.failed a f2 ∙ ap (λ x. x || (is_on (value a m2 d.cond) && is_on (value a m2 n))) gone_is ∙ ap (λ x. is_on (value a old d.fails) || x) here;
              inputs_are = refl;
              sites_are = refl;
              asserts_are = ap {B = List FailMeans} (λ x. record { block = block; position = p; fails = x } ∷ []) (w.here a f2 ∙ here);
            };
        fit = λ a f k. p3.fit a (p2.fit a (p1.fit a f));
      }

one_sort : (v : Value) (s : Sort) (t : Sort) → s ≡ t → has_sort v s ≡ true → has_sort v t ≡ true
one_sort v s t e h = ap (has_sort v) (sym e) ∙ h
