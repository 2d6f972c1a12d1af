-- Paths in a set.
use Rattle.std.proofs.Common.{◌≡◌, ℕ, ◌+◌, ◌<◌, Bool, true, false, ◌||◌, if◌then◌else◌, List, [], ◌∷◌, ◌++◌, length, map, take, slice_index_or, bytes_eq, refl, sym, ap, ◌∙◌, subst, true≢false}
use Rattle.std.proofs.lemmas.Bool.{or_left}
use Rattle.std.proofs.lemmas.Slice.Eq.{bytes_eq-Decides}
use Rattle.std.specs.Global.{Vec}
use Rattle.std.specs.List.{list_any}
use Rattle.indexmap.specs.IndexSet.{insert_key}
use Rattle.call_tree.specs.Trees.{has_path}
use Rattle.frontier.proofs.Lists.{take_next}

pub or_none : (b : Bool) → (b || false) ≡ b
or_none true = refl
or_none false = refl

pub or_assoc : (a b c : Bool) → (a || (b || c)) ≡ ((a || b) || c)
or_assoc true b c = refl
or_assoc false b c = refl

pub has-append : (xs ys : List (List ℕ)) (p : List ℕ) → has_path (xs ++ ys) p ≡ (has_path xs p || has_path ys p)
has-append [] ys p = refl
has-append (x ∷ xs) ys p = ap (λ b. bytes_eq x p || b) (has-append xs ys p) ∙ or_assoc (bytes_eq x p) (has_path xs p) (has_path ys p)

-- one node more
pub node_added : (nodes : List (List ℕ)) (i : ℕ) (node path : List ℕ) (old new : List (List ℕ)) → i < length nodes → node ≡ slice_index_or nodes i node → path ≡ node → ((p : List ℕ) → has_path old p ≡ has_path (take i nodes) p) →
    ((p : List ℕ) → has_path new p ≡ has_path (old ++ path ∷ []) p) → (p : List ℕ) → has_path new p ≡ has_path (take (i + 1) nodes) p
node_added nodes i node path old new h is same before step p =
    step p ∙ has-append old (path ∷ []) p ∙ ap (λ b. b || has_path (path ∷ []) p) (before p) ∙ ap (λ q. has_path (take i nodes) p || has_path (q ∷ []) p) same
    ∙ sym (ap (λ ns. has_path ns p) (take_next nodes i node h is) ∙ has-append (take i nodes) (node ∷ []) p)

same_sym : (a b : List ℕ) → bytes_eq a b ≡ bytes_eq b a
same_sym a b = by_test (bytes_eq a b) (bytes_eq b a) refl refl
  where
    by_test : (x y : Bool) → bytes_eq a b ≡ x → bytes_eq b a ≡ y → x ≡ y
    by_test true true e f = refl
    by_test true false e f = absurd (true≢false (sym ((bytes_eq-Decides b a).1 (sym ((bytes_eq-Decides a b).0 e))) ∙ f))
    by_test false true e f = absurd (true≢false (sym ((bytes_eq-Decides a b).1 (sym ((bytes_eq-Decides b a).0 f))) ∙ e))
    by_test false false e f = refl

-- the set finds a path exactly where it is one of the keys
pub found_is : (path : List ℕ) (keys : List (Vec ℕ)) → list_any (λ k. bytes_eq path k.items) keys ≡ has_path (map (λ k. k.items) keys) path
found_is path [] = refl
found_is path (k ∷ keys) = ap (λ b. b || list_any (λ k. bytes_eq path k.items) keys) (same_sym path k.items) ∙ ap (λ b. bytes_eq k.items path || b) (found_is path keys)

items-append : (ks ms : List (Vec ℕ)) → map (λ k. k.items) (ks ++ ms) ≡ map (λ k. k.items) ks ++ map (λ k. k.items) ms
items-append [] ms = refl
items-append (k ∷ ks) ms = ap (λ ps. k.items ∷ ps) (items-append ks ms)

-- one key more
pub added_is : (key : Vec ℕ) (keys : List (Vec ℕ)) (p : List ℕ) → has_path (map (λ k. k.items) (insert_key (λ x y. bytes_eq x.items y.items) keys key)) p ≡ has_path (map (λ k. k.items) keys ++ key.items ∷ []) p
added_is key keys p = by_test (list_any (λ k. bytes_eq key.items k.items) keys) refl
  where
    there : has_path (map (λ k. k.items) keys) key.items ≡ true → has_path (map (λ k. k.items) keys) p ≡ (has_path (map (λ k. k.items) keys) p || (bytes_eq key.items p || false))
    there at = by_path (bytes_eq key.items p) refl
      where
        by_path : (b : Bool) → bytes_eq key.items p ≡ b → has_path (map (λ k. k.items) keys) p ≡ (has_path (map (λ k. k.items) keys) p || (b || false))
        by_path true e =
            let one : has_path (map (λ k. k.items) keys) p ≡ true = subst (λ (q : List ℕ). has_path (map (λ k. k.items) keys) q ≡ true) ((bytes_eq-Decides key.items p).0 e) at in
            one ∙ sym (or_left (has_path (map (λ k. k.items) keys) p) true one)
        by_path false e = sym (or_none (has_path (map (λ k. k.items) keys) p))

    by_test : (b : Bool) → list_any (λ k. bytes_eq key.items k.items) keys ≡ b → has_path (map (λ k. k.items) (if b then keys else keys ++ key ∷ [])) p ≡ has_path (map (λ k. k.items) keys ++ key.items ∷ []) p
    by_test true e = there (sym (found_is key.items keys) ∙ e) ∙ sym (has-append (map (λ k. k.items) keys) (key.items ∷ []) p)
    by_test false e = ap (λ ps. has_path ps p) (items-append keys (key ∷ []))

pub key_added : (key : Vec ℕ) (old new : List (Vec ℕ)) (view : List (List ℕ)) (path : List ℕ) → key.items ≡ path → map (λ k. k.items) old ≡ view → new ≡ insert_key (λ x y. bytes_eq x.items y.items) old key →
    (p : List ℕ) → has_path (map (λ k. k.items) new) p ≡ has_path (view ++ path ∷ []) p
key_added key old new view path same is step p =
    ap (λ ks. has_path (map (λ k. k.items) ks) p) step ∙ added_is key old p ∙ ap (λ v. has_path (v ++ key.items ∷ []) p) is ∙ ap (λ q. has_path (view ++ q ∷ []) p) same

pub finds : (path : List ℕ) (keys : List (Vec ℕ)) (view : List (List ℕ)) → map (λ k. k.items) keys ≡ view → list_any (λ k. bytes_eq path k.items) keys ≡ has_path view path
finds path keys view is = found_is path keys ∙ ap (λ v. has_path v path) is
