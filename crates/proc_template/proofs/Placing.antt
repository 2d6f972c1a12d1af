-- Sites by number: those of a block in order, and the blocks one after another.
use Rattle.std.proofs.Common.{arith, ◌≡◌, ℕ, zero, suc, ◌+◌, ◌<◌, ◌≤◌, ◌⊎◌, Bool, true, false, ◌||◌, List, [], ◌∷◌, ◌++◌, map, length, take, sym, ap, ◌∙◌, refl, subst, inl, inr, append-nil, append_assoc}
use Rattle.std.specs.Prelude.{Some, slice_get, nat_eq, if◌then◌else◌}
use Rattle.std.proofs.lemmas.Bool.Decides.{nat_tests}
use Rattle.std.proofs.lemmas.List.{map-append}
use Rattle.flat_prog.specs.Ordering.{is_in, IsOrderOf}
use Rattle.flat_prog.specs.Once.{has_number}
use Rattle.flat_prog.specs.Sites.{calls_at, calls_of, numbers_from, sites_of}
use Rattle.flat_prog.specs.declared.block.FlatBlock.{FlatBlock}
use Rattle.flat_prog.specs.declared.proc.FlatProc.{FlatProc}
use Rattle.passive_form.specs.Limited.{Limited}
use Rattle.vc_gen.specs.Inputs.{items_at, sorts_of_blocks}
use Rattle.vc_gen.specs.Laid.{Laid, calls_laid, laid_call, laid_in, laid_proc, site_laid, sites_laid, EachCallOnce}
use Rattle.vc_gen.specs.declared.parts.SiteTerm.{SiteTerm}
use Rattle.tree_terms.specs.declared.linked.SiteTerms.{SiteTerms}
use Rattle.proc_template.specs.Sites.{site_terms, sites_of_block, sorted_sites}
use Rattle.proc_template.proofs.Getting.{get_left, get_right, get_split, get_map, get_within, get_there, get_same, numbers_at, map_count, equal_numbers, number_equals}

abbrev proc_of_site : SiteTerms → ℕ
proc_of_site s = s.proc

-- ---- the sites of a block

-- a site stands at this place among all, and at this one among those of its block
pub record PlacedIn (n : ℕ) (ss : List SiteTerm) (k j : ℕ) (s : SiteTerm) : Type 0 where
  pub block_is : s.block ≡ n
  pub all : slice_get ss k ≡ Some s
  pub term : slice_get (sites_of_block n ss) j ≡ Some (site_terms s)
  pub laid : slice_get (laid_in n (map site_laid ss)) j ≡ Some (site_laid s)

abbrev if_block : Bool → SiteTerm → List SiteTerms → List SiteTerms
if_block b x xs = if b then site_terms x ∷ xs else xs

abbrev if_laid : Bool → SiteTerm → List Laid → List Laid
if_laid b x ls = if b then site_laid x ∷ ls else ls

-- the same, where the first site is or isn't one of the block
record PlacedWith (b : Bool) (x : SiteTerm) (n : ℕ) (ss : List SiteTerm) (k j : ℕ) (s : SiteTerm) : Type 0 where
  pub block_is : s.block ≡ n
  pub all : slice_get (x ∷ ss) k ≡ Some s
  pub term : slice_get (if_block b x (sites_of_block n ss)) j ≡ Some (site_terms s)
  pub laid : slice_get (if_laid b x (laid_in n (map site_laid ss))) j ≡ Some (site_laid s)

with_first : (x : SiteTerm) (n : ℕ) (ss : List SiteTerm) (k j : ℕ) (s : SiteTerm) → PlacedWith (nat_eq x.block n) x n ss k j s → PlacedIn n (x ∷ ss) k j s
with_first x n ss k j s h = record { block_is = h.block_is; all = h.all; term = h.term; laid = h.laid }

behind_first : (b : Bool) (x : SiteTerm) (n : ℕ) (ss : List SiteTerm) (k j : ℕ) (s : SiteTerm) → PlacedIn n ss k j s → (i : ℕ) × PlacedWith b x n ss (suc k) i s
behind_first true x n ss k j s h = (suc j, record { block_is = h.block_is; all = h.all; term = h.term; laid = h.laid })
behind_first false x n ss k j s h = (j, record { block_is = h.block_is; all = h.all; term = h.term; laid = h.laid })

-- a site of a block by its place among all
pub by_place : (n : ℕ) (ss : List SiteTerm) (k : ℕ) (s : SiteTerm) → slice_get ss k ≡ Some s → s.block ≡ n → (j : ℕ) × PlacedIn n ss k j s
by_place n [] k s e b = absurd cc
by_place n (x ∷ ss) zero s e b =
    let same : x ≡ s = cc in
    let first : nat_eq x.block n ≡ true = number_equals x.block n (ap (λ (y : SiteTerm). y.block) same ∙ b) in
    let at_first : PlacedWith true x n ss zero zero s = record { block_is = b; all = e; term = ap (λ (y : SiteTerm). Some (site_terms y)) same; laid = ap (λ (y : SiteTerm). Some (site_laid y)) same } in
    (0, with_first x n ss zero zero s (subst (λ (v : Bool). PlacedWith v x n ss zero zero s) (sym first) at_first))
by_place n (x ∷ ss) (suc k) s e b =
    let h = by_place n ss k s e b in
    let m = behind_first (nat_eq x.block n) x n ss k h.0 s h.1 in
    (m.0, with_first x n ss (suc k) m.0 s m.1)

-- and by its place among those of the block
by_index_if : (b : Bool) (x : SiteTerm) (n : ℕ) (ss : List SiteTerm) → nat_eq x.block n ≡ b → ((j : ℕ) (l : Laid) → slice_get (laid_in n (map site_laid ss)) j ≡ Some l → (k : ℕ) × (s : SiteTerm) × PlacedIn n ss k j s) →
    (j : ℕ) (l : Laid) → slice_get (if_laid b x (laid_in n (map site_laid ss))) j ≡ Some l → (k : ℕ) × (s : SiteTerm) × PlacedWith b x n ss k j s
by_index_if true x n ss e rest zero l is = (0, x, record { block_is = equal_numbers x.block n e; all = refl; term = refl; laid = refl })
by_index_if true x n ss e rest (suc j) l is = let h = rest j l is in (suc h.0, h.1, record { block_is = h.2.block_is; all = h.2.all; term = h.2.term; laid = h.2.laid })
by_index_if false x n ss e rest j l is = let h = rest j l is in (suc h.0, h.1, record { block_is = h.2.block_is; all = h.2.all; term = h.2.term; laid = h.2.laid })

pub by_laid : (n : ℕ) (ss : List SiteTerm) (j : ℕ) (l : Laid) → slice_get (laid_in n (map site_laid ss)) j ≡ Some l → (k : ℕ) × (s : SiteTerm) × PlacedIn n ss k j s
by_laid n [] j l is = absurd cc
by_laid n (x ∷ ss) j l is =
    let h = by_index_if (nat_eq x.block n) x n ss refl (by_laid n ss) j l is in
    (h.0, h.1, with_first x n ss h.0 j h.1 h.2)

-- there are as many
count_if : (b : Bool) (x : SiteTerm) (ts : List SiteTerms) (ls : List Laid) → length ts ≡ length ls → length (if_block b x ts) ≡ length (if_laid b x ls)
count_if true x ts ls e = ap suc e
count_if false x ts ls e = e

block_count : (n : ℕ) (ss : List SiteTerm) → length (sites_of_block n ss) ≡ length (laid_in n (map site_laid ss))
block_count n [] = refl
block_count n (x ∷ ss) = count_if (nat_eq x.block n) x (sites_of_block n ss) (laid_in n (map site_laid ss)) (block_count n ss)

pub by_term : (n : ℕ) (ss : List SiteTerm) (j : ℕ) (t : SiteTerms) → slice_get (sites_of_block n ss) j ≡ Some t → (k : ℕ) × (s : SiteTerm) × PlacedIn n ss k j s × (site_terms s ≡ t)
by_term n ss j t is =
    let within = get_within (sites_of_block n ss) j t is in
    let l = get_there (laid_in n (map site_laid ss)) j (subst (λ m. j < m) (block_count n ss) within) in
    let h = by_laid n ss j l.0 l.1 in
    (h.0, h.1, h.2, get_same (sites_of_block n ss) j (site_terms h.1) t h.2.term is)

-- ---- which procedures they call

procs_if : (b : Bool) (x : SiteTerm) (ts : List SiteTerms) (ls : List Laid) → map proc_of_site ts ≡ map laid_proc ls → map proc_of_site (if_block b x ts) ≡ map laid_proc (if_laid b x ls)
procs_if true x ts ls e = ap (λ ps. x.proc ∷ ps) e
procs_if false x ts ls e = e

block_procs : (n : ℕ) (ss : List SiteTerm) → map proc_of_site (sites_of_block n ss) ≡ map laid_proc (laid_in n (map site_laid ss))
block_procs n [] = refl
block_procs n (x ∷ ss) = procs_if (nat_eq x.block n) x (sites_of_block n ss) (laid_in n (map site_laid ss)) (block_procs n ss)

pub sites_take : (blocks : List FlatBlock) (n : ℕ) → sites_of (take (suc n) blocks) ≡ sites_of (take n blocks) ++ calls_at (slice_get blocks n)
sites_take [] zero = refl
sites_take [] (suc n) = refl
sites_take (b ∷ blocks) zero = append-nil (calls_of b.cmds)
sites_take (b ∷ blocks) (suc n) = ap (λ r. calls_of b.cmds ++ r) (sites_take blocks n) ∙ sym (append_assoc (calls_of b.cmds) (sites_of (take n blocks)) (calls_at (slice_get blocks n)))

-- ---- what the layout says of each block

-- the sites of each block are its calls, numbered from 0
pub record Sited (blocks : List FlatBlock) (ss : List SiteTerm) : Type 0 where
  pub procs : (n : ℕ) → n < length blocks → map laid_proc (laid_in n (map site_laid ss)) ≡ calls_at (slice_get blocks n)
  pub calls : (n : ℕ) → n < length blocks → map laid_call (laid_in n (map site_laid ss)) ≡ numbers_from 0 (length (calls_at (slice_get blocks n)))
  pub known : (k : ℕ) (s : SiteTerm) → slice_get ss k ≡ Some s → s.block < length blocks

in_at_if : (n m : ℕ) (order : List ℕ) (b : Bool) → nat_eq n m ≡ b → (b || is_in n order) ≡ true → (is_in n order ≡ true → (i : ℕ) × (slice_get order i ≡ Some n)) → (i : ℕ) × (slice_get (m ∷ order) i ≡ Some n)
in_at_if n m order true e h rest = (0, ap Some (sym (equal_numbers n m e)))
in_at_if n m order false e h rest = let r = rest h in (suc r.0, r.1)

pub in_at : (n : ℕ) (order : List ℕ) → is_in n order ≡ true → (i : ℕ) × (slice_get order i ≡ Some n)
in_at n [] h = absurd cc
in_at n (m ∷ order) h = in_at_if n m order (nat_eq n m) refl h (in_at n order)

pub procs_are : (blocks : List FlatBlock) (ss : List SiteTerm) → Sited blocks ss → (n : ℕ) → n ≤ length blocks → map proc_of_site (sorted_sites n ss) ≡ sites_of (take n blocks)
procs_are blocks ss h zero l = refl
procs_are blocks ss h (suc n) l =
    map-append proc_of_site (sorted_sites n ss) (sites_of_block n ss) ∙ ap (λ r. r ++ map proc_of_site (sites_of_block n ss)) (procs_are blocks ss h n (omega (arith, l)))
    ∙ ap (λ r. sites_of (take n blocks) ++ r) (block_procs n ss ∙ h.procs n (omega (arith, l))) ∙ sym (sites_take blocks n)

-- the number of a block's first site
abbrev pub start_of : List FlatBlock → ℕ → ℕ
start_of blocks n = length (sites_of (take n blocks))

pub sorted_count : (blocks : List FlatBlock) (ss : List SiteTerm) → Sited blocks ss → (n : ℕ) → n ≤ length blocks → length (sorted_sites n ss) ≡ start_of blocks n
sorted_count blocks ss h n l = sym (map_count proc_of_site (sorted_sites n ss)) ∙ ap length (procs_are blocks ss h n l)

-- ---- all sites

low_or_same : (n m : ℕ) → n < suc m → (n < m) ⊎ (n ≡ m)
low_or_same zero zero l = inr refl
low_or_same zero (suc m) l = inl (omega arith)
low_or_same (suc n) zero l = absurd (omega (arith, l))
low_or_same (suc n) (suc m) l = elim (low_or_same n m (omega (arith, l))) [ inl h ↦ inl (omega (arith, h)) | inr h ↦ inr (ap suc h) ]

sorted_at : (ss : List SiteTerm) (m n j : ℕ) (t : SiteTerms) → n < m → slice_get (sites_of_block n ss) j ≡ Some t → slice_get (sorted_sites m ss) (length (sorted_sites n ss) + j) ≡ Some t
sorted_at ss zero n j t l is = absurd (omega (arith, l))
sorted_at ss (suc m) n j t l is =
    elim (low_or_same n m l) [
      | inl before ↦ get_left (sorted_sites m ss) (sites_of_block m ss) (length (sorted_sites n ss) + j) t (sorted_at ss m n j t before is)
      | inr same ↦ ap (λ i. slice_get (sorted_sites m ss ++ sites_of_block m ss) (length (sorted_sites i ss) + j)) same ∙ get_right (sorted_sites m ss) (sites_of_block m ss) j ∙ ap (λ i. slice_get (sites_of_block i ss) j) (sym same) ∙ is
    ]

sorted_from : (ss : List SiteTerm) (m i : ℕ) (t : SiteTerms) → slice_get (sorted_sites m ss) i ≡ Some t → (n : ℕ) × (j : ℕ) × (n < m) × (i ≡ length (sorted_sites n ss) + j) × (slice_get (sites_of_block n ss) j ≡ Some t)
sorted_from ss zero i t is = absurd cc
sorted_from ss (suc m) i t is =
    elim (get_split (sorted_sites m ss) (sites_of_block m ss) i t is) [
      | inl before ↦ let h = sorted_from ss m i t before in (h.0, h.1, omega (arith, h.2), h.3, h.4)
      | inr here ↦ (m, here.0, omega arith, here.1, here.2)
    ]

-- the number of a site
abbrev pub number_of : List FlatBlock → SiteTerm → ℕ
number_of blocks s = start_of blocks s.block + s.call

call_is : (blocks : List FlatBlock) (ss : List SiteTerm) → Sited blocks ss → (n k j : ℕ) (s : SiteTerm) → n < length blocks → PlacedIn n ss k j s → s.call ≡ j
call_is blocks ss h n k j s l p =
    let e = get_map laid_call (laid_in n (map site_laid ss)) j (site_laid s) p.laid in
    let f = numbers_at 0 (length (calls_at (slice_get blocks n))) j s.call (ap (λ r. slice_get r j) (sym (h.calls n l)) ∙ e) in
    omega (arith, f)

-- a site of a block stands at its number
pub site_stands : (blocks : List FlatBlock) (ss : List SiteTerm) → Sited blocks ss → (n k j : ℕ) (s : SiteTerm) → n < length blocks → PlacedIn n ss k j s → slice_get (sorted_sites (length blocks) ss) (start_of blocks n + j) ≡ Some (site_terms s)
site_stands blocks ss h n k j s l p =
    let c = sorted_count blocks ss h n (omega (arith, l)) in
    ap (λ i. slice_get (sorted_sites (length blocks) ss) (i + j)) (sym c) ∙ sorted_at ss (length blocks) n j (site_terms s) l p.term

-- each site stands at its number
pub each_stands : (blocks : List FlatBlock) (ss : List SiteTerm) → Sited blocks ss → (k : ℕ) (s : SiteTerm) → slice_get ss k ≡ Some s → slice_get (sorted_sites (length blocks) ss) (number_of blocks s) ≡ Some (site_terms s)
each_stands blocks ss h k s is =
    let l = h.known k s is in
    let p = by_place s.block ss k s is refl in
    let c = call_is blocks ss h s.block k p.0 s l p.1 in
    ap (λ i. slice_get (sorted_sites (length blocks) ss) (start_of blocks s.block + i)) c ∙ site_stands blocks ss h s.block k p.0 s l p.1

-- a site by its number
pub record IsNumbered (blocks : List FlatBlock) (ss : List SiteTerm) (i : ℕ) (t : SiteTerms) : Type 0 where
  pub place : ℕ
  pub site : SiteTerm
  pub site_is : slice_get ss place ≡ Some site
  pub number_is : i ≡ number_of blocks site
  pub terms_are : site_terms site ≡ t
  pub known : site.block < length blocks
  pub laid : slice_get (laid_in site.block (map site_laid ss)) site.call ≡ Some (site_laid site)

pub by_number : (blocks : List FlatBlock) (ss : List SiteTerm) → Sited blocks ss → (i : ℕ) (t : SiteTerms) → slice_get (sorted_sites (length blocks) ss) i ≡ Some t → IsNumbered blocks ss i t
by_number blocks ss h i t is =
    let f = sorted_from ss (length blocks) i t is in
    let n = f.0 in
    let p = by_term n ss f.1 t f.4 in
    let s = p.1 in
    let c = call_is blocks ss h n p.0 f.1 s f.2 p.2 in
    let b = p.2.block_is in
    record {
      place = p.0;
      site = s;
      site_is = p.2.all;
      number_is = f.3 ∙ ap (λ x. x + f.1) (sorted_count blocks ss h n (omega (arith, f.2))) ∙ ap (λ x. start_of blocks n + x) (sym c) ∙ ap (λ x. start_of blocks x + s.call) (sym b);
      terms_are = p.3;
      known = subst (λ x. x < length blocks) (sym b) f.2;
      laid = ap (λ x. slice_get (laid_in x (map site_laid ss)) s.call) b ∙ ap (slice_get (laid_in n (map site_laid ss))) c ∙ p.2.laid;
    }

-- ---- from the layout

nat_eq_swap : (m n : ℕ) → nat_eq m n ≡ nat_eq n m
nat_eq_swap m n = grind (arith, nat_tests)

has_is_in : (ns : List ℕ) (n : ℕ) → has_number ns n ≡ is_in n ns
has_is_in [] n = refl
has_is_in (m ∷ ns) n = ap (λ b. b || has_number ns n) (nat_eq_swap m n) ∙ ap (λ b. nat_eq n m || b) (has_is_in ns n)

-- the layout's sites are those of the blocks
pub sited : (flat : Limited) (q : FlatProc) (order : List ℕ) (k : ℕ) (ss : List SiteTerm) → map site_laid ss ≡ sites_laid flat q order k → EachCallOnce flat q order k → IsOrderOf q order → Sited q.blocks ss
sited flat q order k ss laid once ordered =
    let here : (n : ℕ) → n < length q.blocks → (i : ℕ) × (laid_in n (map site_laid ss) ≡ calls_laid n 0 (k + length (sorts_of_blocks flat q (take i order))) (items_at flat q n)) =
    λ n l. let i = in_at n order (ordered.every n l) in (i.0, ap (laid_in n) laid ∙ once.some i.0 n i.1) in
    record {
      procs = λ n l. let e = here n l in ap (map laid_proc) e.1 ∙ (once.calls n (k + length (sorts_of_blocks flat q (take e.0 order)))).procs;
      calls = λ n l. let e = here n l in ap (map laid_call) e.1 ∙ (once.calls n (k + length (sorts_of_blocks flat q (take e.0 order)))).calls;
      known = λ p s is.
          let j = by_place s.block ss p s is refl in
          let in_order : has_number order s.block ≡ true = present (has_number order s.block) (λ off. nothing s (laid_in s.block (map site_laid ss)) j.0 j.1.laid (ap (laid_in s.block) laid ∙ once.none s.block off)) in
          ordered.there s.block (sym (has_is_in order s.block) ∙ in_order);
    }
  where
    present : (b : Bool) → (b ≡ false → ⊥) → b ≡ true
    present true h = refl
    present false h = absurd (h refl)

    nothing : (s : SiteTerm) (ls : List Laid) (j : ℕ) → slice_get ls j ≡ Some (site_laid s) → ls ≡ [] → ⊥
    nothing s [] j e f = absurd cc
    nothing s (l ∷ ls) j e f = absurd cc
