-- Terms into which the formulas of the nodes are copied say what the formulas say, put together.
use Rattle.std.proofs.Common.{◌≡◌, ℕ, zero, suc, ◌<◌, Bool, true, false, List, [], ◌∷◌, ◌++◌, map, length, refl, sym, ap, ◌∙◌, arith}
use Rattle.std.specs.Prelude.{slice_get, slice_index, Option, IsTrue}
use Rattle.hy_val.specs.declared.value.Value.{Value}
use Rattle.hy_val.specs.Values.{at, is_on}
use Rattle.hy_term.specs.Meaning.{value, values, fits}
use Rattle.hy_term.specs.Laws.{VariablesAloneMatter}
use Rattle.hy_term.specs.declared.node.TermNode.{TermNode}
use Rattle.flat_prog.specs.Local.{Request}
use Rattle.tree_terms.specs.declared.linked.Role.{Role}
use Rattle.tree_terms.specs.declared.linked.Role.TheVariants.{Const, Global, In, Failed, Out, After, Own}
use Rattle.tree_terms.specs.declared.linked.SiteTerms.{SiteTerms}
use Rattle.tree_words.specs.Compose.{Returned, ret_at, ret_of, Composed}
use Rattle.tree_words.specs.Template.{Template, site_by, view_by, view_of, Stands, bool_value, by_role, viewer_of, Within, IsComposite, PutIs, Agrees, node_values, called_with}
use Rattle.tree_terms.specs.Standing.{all_at}

pub at_map : (f : ℕ → Value) (ts : List ℕ) (k : ℕ) → k < length ts → at (map f ts) k ≡ f (slice_index ts k)
at_map f [] k h = absurd (omega (arith, h))
at_map f (t ∷ ts) zero h = refl
at_map f (t ∷ ts) (suc k) h = at_map f ts k (omega (arith, h))

within_at : (nodes : List TermNode) (ts : List ℕ) (k : ℕ) → Within nodes ts → k < length ts → slice_index ts k < length nodes
within_at nodes [] k w h = absurd (omega (arith, h))
within_at nodes (t ∷ ts) zero w h = w.0
within_at nodes (t ∷ ts) (suc k) w h = within_at nodes ts k w.1 (omega (arith, h))

same_request : (p q : ℕ) (gs hs xs ys : List Value) → p ≡ q → gs ≡ hs → xs ≡ ys → ◌≡◌ {A = Request} (record { proc = p; globals = gs; args = xs }) (record { proc = q; globals = hs; args = ys })
same_request p q gs hs xs ys e f g = cc

module _ (alone : VariablesAloneMatter) (is_node : List ℕ → Bool) (template : List ℕ → Template) (into : List TermNode) (put place : List ℕ → ℕ → ℕ) (consts : List ℕ) (globals args : List ℕ → List ℕ)
    (proc : List ℕ → ℕ) (is : IsComposite is_node template into put place consts globals args proc) (a : ℕ → Value) (assigned : IsTrue (fits a into)) where
  copies : (p : List ℕ) → is_node p ≡ true → (k : ℕ) → k < length (template p).nodes → value a into (place p k) ≡ value (node_values a into put p) (template p).nodes k
  copies p at k within = is.copied p at a assigned k within

  all_copies : (p : List ℕ) → is_node p ≡ true → (ts : List ℕ) → Within (template p).nodes ts → all_at a into (map (place p) ts) ≡ all_at (node_values a into put p) (template p).nodes ts
  all_copies p at [] w = refl
  all_copies p at (t ∷ ts) w =
      ap (λ (v : Value). v ∷ all_at a into (map (place p) ts)) (copies p at t w.0)
      ∙ ap (λ (vs : List Value). value (node_values a into put p) (template p).nodes t ∷ vs) (all_copies p at ts w.1)

  called : (p : List ℕ) (i : ℕ) → is_node p ≡ true → is_node (p ++ i ∷ []) ≡ true
      → called_with a into globals args proc (p ++ i ∷ []) ≡ (site_by (values (node_values a into put p) (template p).nodes) (slice_get (template p).sites i)).call
  called p i here at =
      let s = is.actuals p i at here in
      let fits = (is.fits p here).sites i s.0 s.1 in
      same_request (proc (p ++ i ∷ [])) s.0.proc (all_at a into (globals (p ++ i ∷ []))) (all_at (node_values a into put p) (template p).nodes s.0.before)
      (all_at a into (args (p ++ i ∷ []))) (all_at (node_values a into put p) (template p).nodes s.0.args)
      s.4 (ap (all_at a into) s.2 ∙ all_copies p here s.0.before fits.before) (ap (all_at a into) s.3 ∙ all_copies p here s.0.args fits.args)
      ∙ ap (λ (o : Option SiteTerms). (site_by (values (node_values a into put p) (template p).nodes) o).call) (sym s.1)

  module _ (own : List ℕ → ℕ → Value) (chosen : List ℕ → ℕ → Returned)
      (agrees : (p : List ℕ) → is_node p ≡ true → (n : ℕ) → Stands (template p) n → Agrees is_node (own p) (chosen p) p n (node_values a into put p n) ((template p).role n)) where
    right : (p : List ℕ) (n : ℕ) (r : Role) → PutIs is_node template place consts (globals p) (args p) p (put p n) r → Agrees is_node (own p) (chosen p) p n (node_values a into put p n) r
        → node_values a into put p n ≡ by_role (all_at a into consts) (called_with a into globals args proc p) (own p)
        (ret_of is_node (λ q. view_of (template q) (node_values a into put q)) chosen p) n r
    right p n (Const k) h g = ap (value a into) h.1 ∙ sym (at_map (value a into) consts k h.0)
    right p n (Global k) h g = ap (value a into) h.1 ∙ sym (at_map (value a into) (globals p) k h.0)
    right p n (In k) h g = ap (value a into) h.1 ∙ sym (at_map (value a into) (args p) k h.0)
    right p n (Failed i) h g = by_node (is_node (p ++ i ∷ [])) refl
      where
        by_node : (b : Bool) → is_node (p ++ i ∷ []) ≡ b
            → node_values a into put p n ≡ bool_value (ret_at b (view_of (template (p ++ i ∷ [])) (node_values a into put (p ++ i ∷ []))) (chosen p i)).fails
        by_node true at =
            let same : node_values a into put p n ≡ value (node_values a into put (p ++ i ∷ [])) (template (p ++ i ∷ [])).nodes (template (p ++ i ∷ [])).fails =
            ap (value a into) (h at) ∙ copies (p ++ i ∷ []) at (template (p ++ i ∷ [])).fails (is.fits (p ++ i ∷ []) at).fails in
            g.0 at ∙ ap (λ (v : Value). bool_value (is_on v)) same
        by_node false out = g.1 out
    right p n (Out i k) h g = by_node (is_node (p ++ i ∷ [])) refl
      where
        by_node : (b : Bool) → is_node (p ++ i ∷ []) ≡ b
            → node_values a into put p n ≡ at (ret_at b (view_of (template (p ++ i ∷ [])) (node_values a into put (p ++ i ∷ []))) (chosen p i)).outs k
        by_node true here =
            let fits = is.fits (p ++ i ∷ []) here in
            ap (value a into) (h here).1
            ∙ (copies (p ++ i ∷ []) here (slice_index (template (p ++ i ∷ [])).outs k) (within_at (template (p ++ i ∷ [])).nodes (template (p ++ i ∷ [])).outs k fits.outs (h here).0)
            ∙ sym (at_map (value (node_values a into put (p ++ i ∷ [])) (template (p ++ i ∷ [])).nodes) (template (p ++ i ∷ [])).outs k (h here).0))
        by_node false out = g out
    right p n (After i k) h g = by_node (is_node (p ++ i ∷ [])) refl
      where
        by_node : (b : Bool) → is_node (p ++ i ∷ []) ≡ b
            → node_values a into put p n ≡ at (ret_at b (view_of (template (p ++ i ∷ [])) (node_values a into put (p ++ i ∷ []))) (chosen p i)).globals k
        by_node true here =
            let fits = is.fits (p ++ i ∷ []) here in
            ap (value a into) (h here).1
            ∙ (copies (p ++ i ∷ []) here (slice_index (template (p ++ i ∷ [])).globals k) (within_at (template (p ++ i ∷ [])).nodes (template (p ++ i ∷ [])).globals k fits.globals (h here).0)
            ∙ sym (at_map (value (node_values a into put (p ++ i ∷ [])) (template (p ++ i ∷ [])).nodes) (template (p ++ i ∷ [])).globals k (h here).0))
        by_node false out = g out
    right p n Own h g = g

    pub composed : (free_ok : List ℕ → ℕ → Returned → Bool) → ((p rest : List ℕ) → is_node (p ++ rest) ≡ true → is_node p ≡ true)
        → ((p : List ℕ) (i : ℕ) → free_ok p i (ret_of is_node (λ q. view_of (template q) (node_values a into put q)) chosen p i) ≡ true)
        → Composed is_node (λ p. viewer_of (all_at a into consts) (template p)) (λ p i ret. free_ok p i ret ≡ true) (called_with a into globals args proc []) own chosen
        (called_with a into globals args proc) (λ p. view_of (template p) (node_values a into put p))
    composed free_ok closed fit = record {
      begins = refl;
      views = λ p at. ap (view_by (template p))
          (alone (node_values a into put p)
          (λ n. by_role (all_at a into consts) (called_with a into globals args proc p) (own p) (ret_of is_node (λ q. view_of (template q) (node_values a into put q)) chosen p) n ((template p).role n))
          (template p).nodes (λ n stands. right p n ((template p).role n) (is.puts p at n stands) (agrees p at n stands))).0;
      calls = λ p i at. called p i (closed p (i ∷ []) at) at;
      fit = fit;
    }
