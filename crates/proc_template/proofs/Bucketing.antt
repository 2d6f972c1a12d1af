-- The places of sites by block.
use Rattle.std.proofs.Common.{arith, ◌≡◌, ℕ, zero, suc, ◌+◌, ◌<◌, ◌≤◌, Bool, true, false, List, [], ◌∷◌, ◌++◌, length, map, take, drop, sym, ap, ◌∙◌, refl, subst, append-nil, append_assoc}
use Rattle.std.specs.Prelude.{Some, slice_get, slice_index_or, nat_eq, if◌then◌else◌}
use Rattle.std.proofs.lemmas.Bool.Decides.{nat_tests}
use Rattle.std.proofs.lemmas.List.{map-append}
use Rattle.flat_prog.specs.Sites.{calls_of, sites_of, numbers_from}
use Rattle.flat_prog.specs.declared.block.FlatBlock.{FlatBlock}
use Rattle.proc_template.proofs.Beginning.{numbers_append}
use Rattle.vc_gen.specs.declared.parts.SiteTerm.{SiteTerm}
use Rattle.tree_terms.specs.Tables.{row, IsPushed}
use Rattle.tree_terms.specs.declared.linked.SiteTerms.{SiteTerms}
use Rattle.proc_template.specs.Sites.{place_if, places_in, IsNoted, IsBucketed, sites_at, sites_of_block, site_terms, site_if, sorted_sites}

other_block : (m n : ℕ) → n < m → nat_eq m n ≡ false
other_block m n l = grind (arith, nat_tests, l)

same_block : (m n : ℕ) → nat_eq m n ≡ true → n ≡ m
same_block m n h = grind (arith, nat_tests, h)

pub noted_out : (old : List (List ℕ)) (block place : ℕ) → length old ≤ block → IsNoted old old block place
noted_out old block place l = record {
  count = refl;
  rows = λ n h. sym (ap (λ (b : Bool). row old n ++ (if b then place ∷ [] else [])) (other_block block n (omega (arith, l, h))) ∙ append-nil (row old n));
}

noted_row : (old new : List (List ℕ)) (block place n : ℕ) (b : Bool) → nat_eq block n ≡ b → IsPushed old new block place → row new n ≡ row old n ++ (if b then place ∷ [] else [])
noted_row old new block place n true e h = let same = same_block block n e in subst (λ (m : ℕ). row new m ≡ row old m ++ place ∷ []) (sym same) h.here
noted_row old new block place n false e h = h.others n (differ e) ∙ sym (append-nil (row old n))
  where
    differ : nat_eq block n ≡ false → n ≡ block → ⊥
    differ e f = grind (arith, nat_tests, e, f)

pub noted_in : (old new : List (List ℕ)) (block place : ℕ) → IsPushed old new block place → IsNoted old new block place
noted_in old new block place h = record { count = h.count; rows = λ n l. noted_row old new block place n (nat_eq block n) refl h }

drop_next : (ss : List SiteTerm) (i : ℕ) (s : SiteTerm) → i < length ss → s ≡ slice_index_or ss i s → drop i ss ≡ s ∷ drop (suc i) ss
drop_next [] i s l h = absurd (omega (arith, l))
drop_next (x ∷ ss) zero s l h = ap (λ (y : SiteTerm). y ∷ ss) (sym h)
drop_next (x ∷ ss) (suc i) s l h = drop_next ss i s (omega (arith, l)) h

drop_rest : (ss : List SiteTerm) (i : ℕ) → length ss ≤ i → drop i ss ≡ []
drop_rest [] zero l = refl
drop_rest [] (suc i) l = refl
drop_rest (x ∷ ss) zero l = absurd (omega (arith, l))
drop_rest (x ∷ ss) (suc i) l = drop_rest ss i (omega (arith, l))

pub bucketed_none : (sites : List SiteTerm) (count : ℕ) (table : List (List ℕ)) → length table ≡ count → ((m : ℕ) → row table m ≡ []) → IsBucketed sites count table 0
bucketed_none sites count table e h = (e, λ n l. sym (ap (λ r. r ++ places_in n 0 sites) (h n)))

pub bucketed_next : (sites : List SiteTerm) (count : ℕ) (old new : List (List ℕ)) (i : ℕ) (s : SiteTerm) → i < length sites → s ≡ slice_index_or sites i s → IsBucketed sites count old i → IsNoted old new s.block i → IsBucketed sites count new (i + 1)
bucketed_next sites count old new i s l is h k =
    let e : suc i ≡ i + 1 = omega arith in
    let here : drop i sites ≡ s ∷ drop (i + 1) sites = drop_next sites i s l is ∙ ap (λ j. s ∷ drop j sites) e in (
      k.count ∙ h.0,
      λ n m. h.1 n m ∙ ap (λ ss. row old n ++ places_in n i ss) here ∙ sym (append_assoc (row old n) (place_if s.block n i) (places_in n (i + 1) (drop (i + 1) sites)))
          ∙ ap (λ r. r ++ places_in n (i + 1) (drop (i + 1) sites)) (sym (k.rows n (subst (λ c. n < c) (sym h.0) m))),
    )

pub bucketed_all : (sites : List SiteTerm) (count : ℕ) (table : List (List ℕ)) (i : ℕ) → length sites ≤ i → IsBucketed sites count table i → (n : ℕ) → n < count → row table n ≡ places_in n 0 sites
bucketed_all sites count table i l h n m = sym (h.1 n m ∙ ap (λ ss. row table n ++ places_in n i ss) (drop_rest sites i l) ∙ append-nil (row table n))

drop_more : (all : List SiteTerm) (i : ℕ) (s : SiteTerm) (ss : List SiteTerm) → drop i all ≡ s ∷ ss → (slice_get all i ≡ Some s) × (drop (i + 1) all ≡ ss)
drop_more [] zero s ss e = cc
drop_more [] (suc i) s ss e = cc
drop_more (x ∷ all) zero s ss e = let a : x ≡ s = cc in let b : all ≡ ss = cc in (ap Some a, b)
drop_more (x ∷ all) (suc i) s ss e =
    let h = drop_more all i s ss e in
    let n : suc i + 1 ≡ suc (i + 1) = omega arith in
    (h.0, ap (λ j. drop j (x ∷ all)) n ∙ h.1)

place_step : (all : List SiteTerm) (n i : ℕ) (s : SiteTerm) (ss : List SiteTerm) (b : Bool) → slice_get all i ≡ Some s → sites_at all (places_in n (i + 1) ss) ≡ sites_of_block n ss →
    sites_at all ((if b then i ∷ [] else []) ++ places_in n (i + 1) ss) ≡ (if b then site_terms s ∷ sites_of_block n ss else sites_of_block n ss)
place_step all n i s ss true h k = ap (λ o. site_if o ++ sites_at all (places_in n (i + 1) ss)) h ∙ ap (λ r. site_terms s ∷ r) k
place_step all n i s ss false h k = k

-- the sites at the places of a block are its sites
pub block_places : (all : List SiteTerm) (n i : ℕ) (ss : List SiteTerm) → drop i all ≡ ss → sites_at all (places_in n i ss) ≡ sites_of_block n ss
block_places all n i [] e = refl
block_places all n i (s ∷ ss) e =
    let here = drop_more all i s ss e in
    place_step all n i s ss (nat_eq s.block n) here.0 (block_places all n (i + 1) ss here.1)

pub sorted_next : (sites : List SiteTerm) (n : ℕ) (sorted more : List SiteTerms) (row : List ℕ) → sorted ≡ sorted_sites n sites → row ≡ places_in n 0 sites → more ≡ sorted ++ sites_at sites row → more ≡ sorted_sites (n + 1) sites
sorted_next sites n sorted more row h r m =
    let e : suc n ≡ n + 1 = omega arith in
    m ∙ ap (λ x. x ++ sites_at sites row) h ∙ ap (λ x. sorted_sites n sites ++ sites_at sites x) r ∙ ap (λ x. sorted_sites n sites ++ x) (block_places sites n 0 sites refl) ∙ ap (λ i. sorted_sites i sites) e

-- ---- the numbers of first sites

sites_append : (xs : List FlatBlock) (b : FlatBlock) → sites_of (xs ++ b ∷ []) ≡ sites_of xs ++ calls_of b.cmds
sites_append [] b = append-nil (calls_of b.cmds)
sites_append (x ∷ xs) b = ap (λ r. calls_of x.cmds ++ r) (sites_append xs b) ∙ sym (append_assoc (calls_of x.cmds) (sites_of xs) (calls_of b.cmds))

take_next : (xs : List FlatBlock) (i : ℕ) (b : FlatBlock) → i < length xs → b ≡ slice_index_or xs i b → take (suc i) xs ≡ take i xs ++ b ∷ []
take_next [] i b l h = absurd (omega (arith, l))
take_next (x ∷ xs) zero b l h = ap (λ (y : FlatBlock). y ∷ []) (sym h)
take_next (x ∷ xs) (suc i) b l h = ap (λ ys. x ∷ ys) (take_next xs i b (omega (arith, l)) h)

pub starts_next : (blocks : List FlatBlock) (i : ℕ) (b : FlatBlock) (callees callees2 starts starts2 : List ℕ) → i < length blocks → b ≡ slice_index_or blocks i b → callees ≡ sites_of (take i blocks) → callees2 ≡ callees ++ calls_of b.cmds →
    starts ≡ map (λ n. length (sites_of (take n blocks))) (numbers_from 0 i) → starts2 ≡ starts ++ length callees ∷ [] →
    (callees2 ≡ sites_of (take (i + 1) blocks)) × (starts2 ≡ map (λ n. length (sites_of (take n blocks))) (numbers_from 0 (i + 1)))
starts_next blocks i b callees callees2 starts starts2 l is h k m p =
    let e : suc i ≡ i + 1 = omega arith in
    let z : 0 + i ≡ i = omega arith in
    let f : ℕ → ℕ = λ n. length (sites_of (take n blocks)) in (
      k ∙ ap (λ r. r ++ calls_of b.cmds) h ∙ sym (sites_append (take i blocks) b) ∙ ap sites_of (sym (take_next blocks i b l is)) ∙ ap (λ n. sites_of (take n blocks)) e,
      p ∙ ap (λ r. r ++ length callees ∷ []) m ∙ ap (λ r. map f (numbers_from 0 i) ++ length r ∷ []) h ∙ sym (map-append f (numbers_from 0 i) (i ∷ [])) ∙ ap (λ j. map f (numbers_from 0 i ++ j ∷ [])) (sym z)
          ∙ ap (map f) (sym (numbers_append 0 i 1)),
    )
