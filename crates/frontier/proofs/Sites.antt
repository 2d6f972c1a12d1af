-- The wanted sites of a node, by the way to it.
use Rattle.std.proofs.Common.{◌≡◌, ℕ, zero, suc, ◌+◌, ◌<◌, Bool, true, false, not, ◌&&◌, cond, List, [], ◌∷◌, ◌++◌, length, take, slice_get, slice_index_or, Option, None, Some, filter, bytes_eq, refl, sym, ap, ◌∙◌, subst, append_assoc, append-nil, arith, true≢false, not-suc-le-zero}
use Rattle.std.proofs.lemmas.Bool.{or_left, or_right}
use Rattle.std.proofs.lemmas.List.Elements.{filter-append}
use Rattle.std.proofs.lemmas.Slice.Eq.{bytes_eq-Decides}
use Rattle.flat_prog.specs.Program.{FlatProgram}
use Rattle.flat_prog.specs.Sites.{numbers_from, along}
use Rattle.flat_prog.specs.Caps.{chain_within, within}
use Rattle.call_tree.specs.Trees.{has_path, IsPartTree, callees, last_or, last_of, extended, sites_at, all_sites}
use Rattle.call_tree.specs.Laws.{NodesLaw, SiteLaw}
use Rattle.frontier.specs.declared.listing.Wanted.{Wanted}
use Rattle.frontier.specs.declared.listing.Wanted.TheVariants.{Open, Cut}
use Rattle.frontier.specs.Ways.{callee_lists, list_at, way_on}
use Rattle.frontier.specs.Wanted.{is_wanted, takes, taken}
use Rattle.frontier.proofs.Lists.{take_next, lists_are, way_is}

-- ---- one site after the other

cond_append : (b : Bool) (x : List ℕ) (xs ys : List (List ℕ)) → cond b (x ∷ xs ++ ys) (xs ++ ys) ≡ cond b (x ∷ xs) xs ++ ys
cond_append true x xs ys = refl
cond_append false x xs ys = refl

taken_more : (test : List ℕ → ℕ → Bool) (path : List ℕ) (first : ℕ) (xs : List ℕ) (c : ℕ) → taken test path first (xs ++ c ∷ []) ≡ taken test path first xs ++ taken test path (first + length xs) (c ∷ [])
taken_more test path first [] c = let e : first ≡ first + 0 = omega arith in ap (λ n. taken test path n (c ∷ [])) e
taken_more test path first (x ∷ xs) c =
    let e : first + 1 + length xs ≡ first + suc (length xs) = omega arith in
    ap (λ ys. cond (test (path ++ first ∷ []) x) ((path ++ first ∷ []) ∷ ys) ys) (taken_more test path (first + 1) xs c ∙ ap (λ n. taken test path (first + 1) xs ++ taken test path n (c ∷ [])) e)
    ∙ cond_append (test (path ++ first ∷ []) x) (path ++ first ∷ []) (taken test path (first + 1) xs) (taken test path (first + suc (length xs)) (c ∷ []))

take_length : (xs : List ℕ) (i : ℕ) → i < length xs → length (take i xs) ≡ i
take_length [] i h = absurd (not-suc-le-zero h)
take_length (x ∷ xs) zero h = refl
take_length (x ∷ xs) (suc i) h = ap suc (take_length xs i (omega arith))

pub taken_next : (test : List ℕ → ℕ → Bool) (path callees : List ℕ) (i callee site next : ℕ) (old mid new : List (List ℕ)) → i < length callees → callee ≡ slice_index_or callees i callee →
    (site ≡ i) × (mid ≡ old ++ taken test path 0 (take i callees)) → next ≡ site + 1 → new ≡ mid ++ taken test path site (callee ∷ []) → (next ≡ i + 1) × (new ≡ old ++ taken test path 0 (take (i + 1) callees))
taken_next test path callees i callee site next old mid new h is before number step =
    let at : site ≡ 0 + length (take i callees) = let l = take_length callees i h in let s = before.0 in omega arith in (
      let s = before.0 in omega arith,
      step ∙ ap (λ x. x ++ taken test path site (callee ∷ [])) before.1 ∙ append_assoc old (taken test path 0 (take i callees)) (taken test path site (callee ∷ []))
          ∙ ap (λ n. old ++ (taken test path 0 (take i callees) ++ taken test path n (callee ∷ []))) at
          ∙ ap (λ x. old ++ x) (sym (ap (taken test path 0) (take_next callees i callee h is) ∙ taken_more test path 0 (take i callees) callee)),
    )

-- ---- all sites of a node

taken_is : (test : List ℕ → ℕ → Bool) (wanted : List ℕ → Bool) (path : List ℕ) (first : ℕ) (xs : List ℕ) → ((i c : ℕ) → slice_get xs i ≡ Some c → test (path ++ (first + i) ∷ []) c ≡ wanted (path ++ (first + i) ∷ [])) →
    taken test path first xs ≡ filter wanted (extended path (numbers_from first (length xs)))
taken_is test wanted path first [] each = refl
taken_is test wanted path first (x ∷ xs) each =
    let e : first + 0 ≡ first = omega arith in
    let same : test (path ++ first ∷ []) x ≡ wanted (path ++ first ∷ []) = subst (λ (n : ℕ). test (path ++ n ∷ []) x ≡ wanted (path ++ n ∷ [])) e (each 0 x refl) in
    let rest = taken_is test wanted path (first + 1) xs
    (λ i c at. let f : first + suc i ≡ first + 1 + i = omega arith in subst (λ (n : ℕ). test (path ++ n ∷ []) c ≡ wanted (path ++ n ∷ [])) f (each (suc i) c at)) in
    ap (λ ys. cond (test (path ++ first ∷ []) x) ((path ++ first ∷ []) ∷ ys) ys) rest
    ∙ ap (λ b. cond b ((path ++ first ∷ []) ∷ filter wanted (extended path (numbers_from (first + 1) (length xs)))) (filter wanted (extended path (numbers_from (first + 1) (length xs))))) same

-- what is within the caps exists
exists_of : (flat : FlatProgram) (bound : ℕ) (o : Option (List ℕ)) → chain_within flat bound o ≡ true → (ps : List ℕ) × (o ≡ Some ps)
exists_of flat bound None h = absurd (true≢false (sym h))
exists_of flat bound (Some ps) h = (ps, refl)

same_test : (flat : FlatProgram) (entry bound : ℕ) (tree nodes : List (List ℕ)) (wanted : Wanted) (path way : List ℕ) (site callee : ℕ) → SiteLaw → along flat entry path ≡ Some way → within flat entry bound path ≡ true →
    slice_get (callees flat (last_or 0 way)) site ≡ Some callee → ((p : List ℕ) → has_path nodes p ≡ has_path tree p) →
    takes flat bound nodes wanted way (path ++ site ∷ []) callee ≡ is_wanted flat entry bound tree wanted (path ++ site ∷ [])
same_test flat entry bound tree nodes Open path way site callee law exists caps at same =
    ap (λ b. b && not (has_path nodes (path ++ site ∷ []))) (sym (law flat entry bound path way site callee exists caps at)) ∙ ap (λ b. within flat entry bound (path ++ site ∷ []) && not b) (same (path ++ site ∷ []))
same_test flat entry bound tree nodes Cut path way site callee law exists caps at same = ap not (sym (law flat entry bound path way site callee exists caps at))

pub node_taken : (flat : FlatProgram) (entry bound : ℕ) (tree nodes lists : List (List ℕ)) (wanted : Wanted) (path : List ℕ) → NodesLaw → SiteLaw → IsPartTree flat entry bound tree → lists ≡ callee_lists flat.procs →
    ((p : List ℕ) → has_path nodes p ≡ has_path tree p) → has_path tree path ≡ true →
    taken (takes flat bound nodes wanted (way_on lists entry path)) path 0 (list_at lists (last_or 0 (way_on lists entry path))) ≡ filter (is_wanted flat entry bound tree wanted) (sites_at flat entry path)
node_taken flat entry bound tree nodes lists wanted path nodes_law site_law is are same at =
    let caps = nodes_law flat entry bound tree path is at in
    let e = exists_of flat bound (along flat entry path) caps in
    let way_same : way_on lists entry path ≡ e.0 = ap (λ ls. way_on ls entry path) are ∙ way_is flat entry path e.0 e.1 in
    let list_same : list_at lists (last_or 0 (way_on lists entry path)) ≡ callees flat (last_or 0 e.0) =
    ap (λ ls. list_at ls (last_or 0 (way_on lists entry path))) are ∙ lists_are flat (last_or 0 (way_on lists entry path)) ∙ ap (λ w. callees flat (last_or 0 w)) way_same in
    ap (λ w. taken (takes flat bound nodes wanted w) path 0 (list_at lists (last_or 0 (way_on lists entry path)))) way_same
    ∙ ap (λ xs. taken (takes flat bound nodes wanted e.0) path 0 xs) list_same
    ∙ taken_is (takes flat bound nodes wanted e.0) (is_wanted flat entry bound tree wanted) path 0 (callees flat (last_or 0 e.0))
    (λ i c here. let f : i ≡ 0 + i = omega arith in
    subst (λ (n : ℕ). takes flat bound nodes wanted e.0 (path ++ n ∷ []) c ≡ is_wanted flat entry bound tree wanted (path ++ n ∷ [])) f
    (same_test flat entry bound tree nodes wanted path e.0 i c site_law e.1 caps here same))
    ∙ ap (λ o. filter (is_wanted flat entry bound tree wanted) (extended path (numbers_from 0 (length (callees flat (last_of o)))))) (sym e.1)

-- ---- one node after the other

all_append : (flat : FlatProgram) (entry : ℕ) (ps qs : List (List ℕ)) → all_sites flat entry (ps ++ qs) ≡ all_sites flat entry ps ++ all_sites flat entry qs
all_append flat entry [] qs = refl
all_append flat entry (p ∷ ps) qs = ap (λ x. sites_at flat entry p ++ x) (all_append flat entry ps qs) ∙ sym (append_assoc (sites_at flat entry p) (all_sites flat entry ps) (all_sites flat entry qs))

has_at : (tree : List (List ℕ)) (i : ℕ) (path : List ℕ) → i < length tree → path ≡ slice_index_or tree i path → has_path tree path ≡ true
has_at [] i path h is = absurd (not-suc-le-zero h)
has_at (p ∷ tree) zero path h is = or_left (bytes_eq p path) (has_path tree path) (subst (λ (q : List ℕ). bytes_eq p q ≡ true) (sym is) (same p))
  where
    same : (q : List ℕ) → bytes_eq q q ≡ true
    same q = (bytes_eq-Decides q q).1 refl
has_at (p ∷ tree) (suc i) path h is = or_right (bytes_eq p path) (has_path tree path) (has_at tree i path (omega arith) is)

pub all_next : (flat : FlatProgram) (entry bound : ℕ) (tree nodes lists : List (List ℕ)) (wanted : Wanted) (i : ℕ) (path : List ℕ) (old new : List (List ℕ)) → NodesLaw → SiteLaw → IsPartTree flat entry bound tree → lists ≡ callee_lists flat.procs →
    ((p : List ℕ) → has_path nodes p ≡ has_path tree p) → i < length tree → path ≡ slice_index_or tree i path → old ≡ filter (is_wanted flat entry bound tree wanted) (all_sites flat entry (take i tree)) →
    new ≡ old ++ taken (takes flat bound nodes wanted (way_on lists entry path)) path 0 (list_at lists (last_or 0 (way_on lists entry path))) →
    new ≡ filter (is_wanted flat entry bound tree wanted) (all_sites flat entry (take (i + 1) tree))
all_next flat entry bound tree nodes lists wanted i path old new nodes_law site_law part are same h is before step =
    let test = is_wanted flat entry bound tree wanted in
    step ∙ ap (λ x. old ++ x) (node_taken flat entry bound tree nodes lists wanted path nodes_law site_law part are same (has_at tree i path h is)) ∙ ap (λ x. x ++ filter test (sites_at flat entry path)) before
    ∙ sym (ap (λ t. filter test (all_sites flat entry t)) (take_next tree i path h is)
    ∙ ap (filter test) (all_append flat entry (take i tree) (path ∷ []) ∙ ap (λ x. all_sites flat entry (take i tree) ++ x) (append-nil (sites_at flat entry path)))
    ∙ filter-append test (all_sites flat entry (take i tree)) (sites_at flat entry path))

-- by the way and the callees
pub same_taken : (flat : FlatProgram) (bound : ℕ) (nodes : List (List ℕ)) (wanted : Wanted) (path way other callees others : List ℕ) → way ≡ other → callees ≡ others →
    taken (takes flat bound nodes wanted way) path 0 callees ≡ taken (takes flat bound nodes wanted other) path 0 others
same_taken flat bound nodes wanted path way other callees others h k = ap (λ w. taken (takes flat bound nodes wanted w) path 0 callees) h ∙ ap (λ xs. taken (takes flat bound nodes wanted other) path 0 xs) k
