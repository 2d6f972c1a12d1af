-- The places of paths in a list.
use Rattle.std.proofs.Common.{◌≡◌, ℕ, zero, suc, ◌+◌, ◌<◌, Bool, true, false, not, ◌&&◌, ◌||◌, cond, if◌then◌else◌, List, [], ◌∷◌, ◌++◌, length, map, take, bytes_eq, arith, refl, sym, ap, ◌∙◌, subst}
use Rattle.std.specs.Prelude.{Option, None, Some, nat_lt, slice_get}
use Rattle.std.specs.Option.{option_map}
use Rattle.std.specs.List.{list_any, position, position_or_len}
use Rattle.std.specs.Global.{Vec}
use Rattle.std.proofs.lemmas.Bool.Decides.{nat_tests}
use Rattle.indexmap.specs.IndexSet.{insert_key}
use Rattle.call_tree.specs.Trees.{has_path, all_differ}
use Rattle.call_tree.proofs.PartTrees.{path_is, path_refl}
use Rattle.tree_query.specs.Tabled.{place_in}

-- ---- the keys of a set

test_suc : (n l : ℕ) → nat_lt (1 + n) (suc l) ≡ nat_lt n l
test_suc n l = by_tests (nat_lt (1 + n) (suc l)) (nat_lt n l) refl refl
  where
    by_tests : (x y : Bool) → nat_lt (1 + n) (suc l) ≡ x → nat_lt n l ≡ y → x ≡ y
    by_tests true true e f = refl
    by_tests true false e f = absurd (grind (arith, nat_tests, e, f))
    by_tests false true e f = absurd (grind (arith, nat_tests, e, f))
    by_tests false false e f = refl

cons_by : (b : Bool) (n l : ℕ) → cond (nat_lt (cond (not b) (1 + n) 0) (suc l)) (Some (cond (not b) (1 + n) 0)) None ≡ (if b then Some 0 else option_map suc (cond (nat_lt n l) (Some n) None))
cons_by true n l = let h : nat_lt 0 (suc l) ≡ true = grind (arith, nat_tests) in ap (λ (t : Bool). cond t (Some 0) None) h
cons_by false n l = ap (λ (t : Bool). cond t (Some (1 + n)) None) (test_suc n l) ∙ by_test (nat_lt n l)
  where
    by_test : (t : Bool) → cond t (Some (1 + n)) None ≡ option_map suc (cond t (Some n) None)
    by_test true = let e : 1 + n ≡ suc n = omega arith in ap (λ (k : ℕ). Some k) e
    by_test false = refl

same_sym : (a b : List ℕ) → bytes_eq a b ≡ bytes_eq b a
same_sym a b = by_test (bytes_eq a b) (bytes_eq b a) refl refl
  where
    by_test : (x y : Bool) → bytes_eq a b ≡ x → bytes_eq b a ≡ y → x ≡ y
    by_test true true e f = refl
    by_test true false e f = sym (subst (λ (q : List ℕ). bytes_eq q a ≡ true) (path_is a b e) (path_refl a)) ∙ f
    by_test false true e f = sym e ∙ subst (λ (q : List ℕ). bytes_eq q b ≡ true) (path_is b a f) (path_refl b)
    by_test false false e f = refl

pub found_is : (path : List ℕ) (keys : List (Vec ℕ)) → position (λ k. bytes_eq path k.items) keys ≡ place_in (map (λ k. k.items) keys) path
found_is path [] = refl
found_is path (k ∷ keys) =
    cons_by (bytes_eq path k.items) (position_or_len (λ k. bytes_eq path k.items) keys) (length keys)
    ∙ ap (λ (b : Bool). if b then Some 0 else option_map suc (position (λ k. bytes_eq path k.items) keys)) (same_sym path k.items)
    ∙ ap (λ (o : Option ℕ). if bytes_eq k.items path then Some 0 else option_map suc o) (found_is path keys)

any_is : (path : List ℕ) (keys : List (Vec ℕ)) → list_any (λ k. bytes_eq path k.items) keys ≡ has_path (map (λ k. k.items) keys) path
any_is path [] = refl
any_is path (k ∷ keys) = ap (λ (b : Bool). b || list_any (λ k. bytes_eq path k.items) keys) (same_sym path k.items) ∙ ap (λ (b : Bool). bytes_eq k.items path || b) (any_is path keys)

items-append : (ks ms : List (Vec ℕ)) → map (λ k. k.items) (ks ++ ms) ≡ map (λ k. k.items) ks ++ map (λ k. k.items) ms
items-append [] ms = refl
items-append (k ∷ ks) ms = ap (λ ps. k.items ∷ ps) (items-append ks ms)

-- a key that is none of them goes last
pub key_added : (key : Vec ℕ) (old new : List (Vec ℕ)) (view : List (List ℕ)) (path : List ℕ) → key.items ≡ path → map (λ k. k.items) old ≡ view → new ≡ insert_key (λ x y. bytes_eq x.items y.items) old key
    → has_path view path ≡ false → map (λ k. k.items) new ≡ view ++ path ∷ []
key_added key old new view path same is step none =
    let test : list_any (λ k. bytes_eq key.items k.items) old ≡ false = any_is key.items old ∙ ap (λ v. has_path v key.items) is ∙ ap (has_path view) same ∙ none in
    ap (map (λ k. k.items)) (step ∙ ap (λ (b : Bool). if b then old else old ++ key ∷ []) test) ∙ items-append old (key ∷ []) ∙ ap (λ (v : List (List ℕ)). v ++ key.items ∷ []) is ∙ ap (λ (p : List ℕ). view ++ p ∷ []) same

pub finds : (path : List ℕ) (keys : List (Vec ℕ)) (view : List (List ℕ)) → map (λ k. k.items) keys ≡ view → position (λ k. bytes_eq path k.items) keys ≡ place_in view path
finds path keys view is = found_is path keys ∙ ap (λ v. place_in v path) is

-- ---- lists of paths

pub take_path : (paths : List (List ℕ)) (i : ℕ) (p : List ℕ) → slice_get paths i ≡ Some p → take (i + 1) paths ≡ take i paths ++ p ∷ []
take_path paths i p h = let next : i + 1 ≡ suc i = omega arith in ap (λ (k : ℕ). take k paths) next ∙ by_suc paths i p h
  where
    by_suc : (qs : List (List ℕ)) (j : ℕ) (q : List ℕ) → slice_get qs j ≡ Some q → take (suc j) qs ≡ take j qs ++ q ∷ []
    by_suc [] j q h = cc
    by_suc (x ∷ qs) zero q h = let same : x ≡ q = cc in ap (λ (y : List ℕ). y ∷ []) same
    by_suc (x ∷ qs) (suc j) q h = ap (λ (r : List (List ℕ)). x ∷ r) (by_suc qs j q h)

not_true : (b : Bool) → not b ≡ true → b ≡ false
not_true true h = cc
not_true false h = refl

both_left : (x y : Bool) → (x && y) ≡ true → x ≡ true
both_left true y h = refl
both_left false y h = cc

both_right : (x y : Bool) → (x && y) ≡ true → y ≡ true
both_right true y h = h
both_right false y h = cc

none_here : (x y : Bool) → (x || y) ≡ false → x ≡ false
none_here true y h = cc
none_here false y h = refl

none_behind : (x y : Bool) → (x || y) ≡ false → y ≡ false
none_behind true y h = cc
none_behind false y h = h

-- a path is at its place alone
pub place_at : (paths : List (List ℕ)) (k : ℕ) (p : List ℕ) → all_differ paths ≡ true → slice_get paths k ≡ Some p → place_in paths p ≡ Some k
place_at [] k p d h = cc
place_at (q ∷ ps) zero p d h =
    let same : q ≡ p = cc in
    ap (λ (b : Bool). if b then Some 0 else option_map suc (place_in ps p)) (ap (λ (x : List ℕ). bytes_eq x p) same ∙ path_refl p)
place_at (q ∷ ps) (suc k) p d h =
    ap (λ (b : Bool). if b then Some 0 else option_map suc (place_in ps p)) (other ps q p (not_true (has_path ps q) (both_left (not (has_path ps q)) (all_differ ps) d)) k h)
    ∙ ap (option_map suc) (place_at ps k p (both_right (not (has_path ps q)) (all_differ ps) d) h)
  where
    other : (rs : List (List ℕ)) (x y : List ℕ) → has_path rs x ≡ false → (j : ℕ) → slice_get rs j ≡ Some y → bytes_eq x y ≡ false
    other [] x y n j is = cc
    other (r ∷ rs) x y n zero is = let same : r ≡ y = cc in same_sym x y ∙ ap (λ (z : List ℕ). bytes_eq z x) (sym same) ∙ none_here (bytes_eq r x) (has_path rs x) n
    other (r ∷ rs) x y n (suc j) is = other rs x y (none_behind (bytes_eq r x) (has_path rs x) n) j is

-- a path is none of those before it
pub new_path : (paths : List (List ℕ)) (i : ℕ) (p : List ℕ) → all_differ paths ≡ true → slice_get paths i ≡ Some p → has_path (take i paths) p ≡ false
new_path [] i p d h = cc
new_path (q ∷ ps) zero p d h = refl
new_path (q ∷ ps) (suc i) p d h =
    ap (λ (b : Bool). b || has_path (take i ps) p) (other ps q p (not_true (has_path ps q) (both_left (not (has_path ps q)) (all_differ ps) d)) i h)
    ∙ new_path ps i p (both_right (not (has_path ps q)) (all_differ ps) d) h
  where
    other : (rs : List (List ℕ)) (x y : List ℕ) → has_path rs x ≡ false → (j : ℕ) → slice_get rs j ≡ Some y → bytes_eq x y ≡ false
    other [] x y n j is = cc
    other (r ∷ rs) x y n zero is = let same : r ≡ y = cc in same_sym x y ∙ ap (λ (z : List ℕ). bytes_eq z x) (sym same) ∙ none_here (bytes_eq r x) (has_path rs x) n
    other (r ∷ rs) x y n (suc j) is = other rs x y (none_behind (bytes_eq r x) (has_path rs x) n) j is

-- what stands at the place of a path is the path
is_behind : (q p : List ℕ) (ps : List (List ℕ)) (o : Option ℕ) (k : ℕ) → ((i : ℕ) → o ≡ Some i → slice_get ps i ≡ Some p) → option_map suc o ≡ Some k → slice_get (q ∷ ps) k ≡ Some p
is_behind q p ps None k go e = cc
is_behind q p ps (Some i) k go e = let same : suc i ≡ k = cc in subst (λ (n : ℕ). slice_get (q ∷ ps) n ≡ Some p) same (go i refl)

is_by : (q p : List ℕ) (ps : List (List ℕ)) (b : Bool) (k : ℕ) → bytes_eq q p ≡ b → ((i : ℕ) → place_in ps p ≡ Some i → slice_get ps i ≡ Some p) → (if b then Some 0 else option_map suc (place_in ps p)) ≡ Some k → slice_get (q ∷ ps) k ≡ Some p
is_by q p ps true k e go f = let same : 0 ≡ k = cc in subst (λ (n : ℕ). slice_get (q ∷ ps) n ≡ Some p) same (ap (λ (x : List ℕ). Some x) (path_is q p e))
is_by q p ps false k e go f = is_behind q p ps (place_in ps p) k go f

pub place_is : (paths : List (List ℕ)) (p : List ℕ) (k : ℕ) → place_in paths p ≡ Some k → slice_get paths k ≡ Some p
place_is [] p k h = cc
place_is (q ∷ ps) p k h = is_by q p ps (bytes_eq q p) k refl (λ i g. place_is ps p i g) h

-- a path among the first ones is at one of these places
pub record Before (paths : List (List ℕ)) (m : ℕ) (p : List ℕ) : Type 0 where
  pub place : ℕ
  pub is : place_in paths p ≡ Some place
  pub low : place < m

before_by : (q p : List ℕ) (ps : List (List ℕ)) (m : ℕ) (b : Bool) → bytes_eq q p ≡ b → (has_path (take m ps) p ≡ true → Before ps m p) → (b || has_path (take m ps) p) ≡ true → Before (q ∷ ps) (suc m) p
before_by q p ps m true e go f = record { place = 0; is = ap (λ (b : Bool). if b then Some 0 else option_map suc (place_in ps p)) e; low = omega arith }
before_by q p ps m false e go f =
    let r = go f in
    record { place = suc r.place; is = ap (λ (b : Bool). if b then Some 0 else option_map suc (place_in ps p)) e ∙ ap (option_map suc) r.is; low = let l : r.place < m = r.low in omega (arith, l) }

pub place_before : (paths : List (List ℕ)) (m : ℕ) (p : List ℕ) → has_path (take m paths) p ≡ true → Before paths m p
place_before [] zero p h = cc
place_before [] (suc m) p h = cc
place_before (q ∷ ps) zero p h = cc
place_before (q ∷ ps) (suc m) p h = before_by q p ps m (bytes_eq q p) refl (λ g. place_before ps m p g) h
