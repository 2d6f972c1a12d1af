-- What the run read off has at each node.
use Rattle.std.proofs.Common.{◌≡◌, ℕ, zero, suc, ◌+◌, ◌<◌, ◌≤◌, Bool, true, false, not, ◌&&◌, ◌||◌, List, [], ◌∷◌, ◌++◌, length, length-append, append_assoc, append-nil, refl, sym, ap, ◌∙◌, arith}
use Rattle.std.specs.Prelude.{None, Some, nat_eq, if◌then◌else◌}
use Rattle.std.proofs.lemmas.Bool.{both_ways}
use Rattle.hy_val.specs.declared.value.Value.{Value}
use Rattle.hy_term.proofs.Numbering.{number_is}
use Rattle.flat_prog.specs.Program.{FlatProgram}
use Rattle.flat_prog.specs.Trees.{Run, inner, free}
use Rattle.tree_words.specs.View.{SiteView, NodeView}
use Rattle.flat_prog.specs.Once.{has_number}
use Rattle.tree_words.specs.Built.{built, below_built, on_sites}
use Rattle.tree_words.specs.Question.{goes}
use Rattle.tree_words.proofs.Sound.{goes_snoc}
use Rattle.tree_words.specs.Passing.{track_from, track_below, sites_by_track, InOrder, TracksAreViews}

module _ (flat : FlatProgram) (is_node : List ℕ → Bool) (free_values : SiteView → List Value) (height : ℕ) (view : List ℕ → NodeView) (closed : (p rest : List ℕ) → is_node (p ++ rest) ≡ true → is_node p ≡ true)
    (low : (p : List ℕ) → is_node p ≡ true → length p < height) (in_order : (p : List ℕ) → is_node p ≡ true → goes view [] p ≡ true → InOrder flat (view p)) where
  below_track : (sub : List ℕ → Run) (v : NodeView) (p : List ℕ) (i : ℕ) (rest more ss : List ℕ) → is_node (p ++ i ∷ []) ≡ true
      → track_below (below_built sub is_node free_values v p ss) flat (ss ++ more) i rest ≡ (if has_number ss i then track_from (sub (p ++ i ∷ [])) flat rest else None)
  below_track sub v p i rest more [] here = refl
  below_track sub v p i rest more (s ∷ ss) here = by_node (is_node (p ++ s ∷ [])) refl (nat_eq s i) refl (below_track sub v p i rest more ss here)
    where
      by_node : (b : Bool) → is_node (p ++ s ∷ []) ≡ b → (e : Bool) → nat_eq s i ≡ e
          → track_below (below_built sub is_node free_values v p ss) flat (ss ++ more) i rest ≡ (if has_number ss i then track_from (sub (p ++ i ∷ [])) flat rest else None)
          → track_below (if b then inner (sub (p ++ s ∷ [])) (below_built sub is_node free_values v p ss) else free (not (v.site s).fails) (free_values (v.site s)) (below_built sub is_node free_values v p ss)) flat (s ∷ (ss ++ more)) i rest
          ≡ (if nat_eq s i || has_number ss i then track_from (sub (p ++ i ∷ [])) flat rest else None)
      by_node true at true same ih =
          ap (λ (x : Bool). if x then track_from (sub (p ++ s ∷ [])) flat rest else track_below (below_built sub is_node free_values v p ss) flat (ss ++ more) i rest) same
          ∙ (ap (λ (n : ℕ). track_from (sub (p ++ n ∷ [])) flat rest) (number_is s i same)
          ∙ sym (ap (λ (x : Bool). if x || has_number ss i then track_from (sub (p ++ i ∷ [])) flat rest else None) same))
      by_node true at false off ih =
          ap (λ (x : Bool). if x then track_from (sub (p ++ s ∷ [])) flat rest else track_below (below_built sub is_node free_values v p ss) flat (ss ++ more) i rest) off
          ∙ (ih ∙ sym (ap (λ (x : Bool). if x || has_number ss i then track_from (sub (p ++ i ∷ [])) flat rest else None) off))
      by_node false out true same ih = absurd (both_ways (is_node (p ++ s ∷ [])) out (ap (λ (n : ℕ). is_node (p ++ n ∷ [])) (number_is s i same) ∙ here))
      by_node false out false off ih =
          ap (λ (x : Bool). if x then None else track_below (below_built sub is_node free_values v p ss) flat (ss ++ more) i rest) off
          ∙ (ih ∙ sym (ap (λ (x : Bool). if x || has_number ss i then track_from (sub (p ++ i ∷ [])) flat rest else None) off))

  tracks : (deep : ℕ) (from rest : List ℕ) → is_node from ≡ true → goes view [] from ≡ true → height ≤ length from + deep → is_node (from ++ rest) ≡ true
      → track_from (built deep flat is_node free_values view from) flat rest ≡ (if goes view from rest then Some (view (from ++ rest)).track else None)
  tracks zero from rest here go h at = absurd (let l = low from here in omega (arith, l, h))
  tracks (suc deep) from [] here go h at = ap (λ (p : List ℕ). Some (view p).track) (sym (append-nil from))
  tracks (suc deep) from (i ∷ rest) here go h at =
      let o = in_order from here go in
      let v = view from in
      let ss = on_sites v (sites_by_track flat v.track) in
      ap (λ (sites : List ℕ). track_below (below_built (built deep flat is_node free_values view) is_node free_values v from ss) flat sites i rest) o.along
      ∙ (below_track (built deep flat is_node free_values view) v from i rest o.more ss kid_here
      ∙ (ap (λ (b : Bool). if b then track_from (built deep flat is_node free_values view (from ++ i ∷ [])) flat rest else None) (sym (o.are i))
      ∙ by_on ((v.site i).on) refl (λ on. tracks deep (from ++ i ∷ []) rest kid_here (goes_snoc view [] from i go on) longer kid_at)))
    where
      kid_at : is_node ((from ++ i ∷ []) ++ rest) ≡ true
      kid_at = ap is_node (append_assoc from (i ∷ []) rest) ∙ at

      kid_here : is_node (from ++ i ∷ []) ≡ true
      kid_here = closed (from ++ i ∷ []) rest kid_at

      longer : height ≤ length (from ++ i ∷ []) + deep
      longer = let l = length-append from (i ∷ []) in omega (arith, h, l)

      by_on : (b : Bool) → ((view from).site i).on ≡ b
          → (((view from).site i).on ≡ true → track_from (built deep flat is_node free_values view (from ++ i ∷ [])) flat rest ≡ (if goes view (from ++ i ∷ []) rest then Some (view ((from ++ i ∷ []) ++ rest)).track else None))
          → (if b then track_from (built deep flat is_node free_values view (from ++ i ∷ [])) flat rest else None) ≡ (if b && goes view (from ++ i ∷ []) rest then Some (view (from ++ i ∷ rest)).track else None)
      by_on true on ih = ih on ∙ ap (λ (p : List ℕ). if goes view (from ++ i ∷ []) rest then Some (view p).track else None) (append_assoc from (i ∷ []) rest)
      by_on false off ih = refl

pub tracks_are_views : TracksAreViews
tracks_are_views flat is_node free_values height view root closed low in_order p at =
    let l : height ≤ length {A = ℕ} [] + height = omega arith in
    tracks flat is_node free_values height view closed low in_order height [] p root refl l at
