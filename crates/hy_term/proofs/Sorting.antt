-- The sorts of terms that grow.
use Rattle.std.proofs.Common.{◌≡◌, ℕ, zero, suc, ◌+◌, ◌<◌, Bool, true, false, ◌&&◌, List, [], ◌∷◌, ◌++◌, length, arith, sym, ◌∙◌, ap, refl, subst, length-append, append_assoc}
use Rattle.std.specs.Prelude.{Option, None, Some, slice_get, IsTrue, IsSome, is_some}
use Rattle.std.specs.Option.{option_and_then}
use Rattle.hy_val.specs.declared.sort.Sort.{Sort}
use Rattle.hy_term.specs.Formula.{Formula}
use Rattle.hy_term.specs.TermSorts.{sort_of_node, sorts_onto, sorts, sort_at, sort_behind, variable_agrees, fits_behind, agree_onto, is_bool, Sorted}
use Rattle.hy_term.specs.declared.node.TermNode.{TermNode}

pub and_left : (a b : Bool) → IsTrue (a && b) → IsTrue a
and_left true b h = refl
and_left false b h = h

pub and_right : (a b : Bool) → IsTrue (a && b) → IsTrue b
and_right true b h = h
and_right false b h = cc

pub and_both : (a b : Bool) → IsTrue a → IsTrue b → IsTrue (a && b)
and_both true b h k = k
and_both false b h k = h

append_by : (known : List Sort) (xs ys : List TermNode) (o : Option Sort)
    → ((s : Sort) → sorts_onto (known ++ s ∷ []) (xs ++ ys) ≡ option_and_then (λ ss. sorts_onto ss ys) (sorts_onto (known ++ s ∷ []) xs))
    → option_and_then (λ s. sorts_onto (known ++ s ∷ []) (xs ++ ys)) o ≡ option_and_then (λ ss. sorts_onto ss ys) (option_and_then (λ s. sorts_onto (known ++ s ∷ []) xs) o)
append_by known xs ys None ih = refl
append_by known xs ys (Some s) ih = ih s

pub sorts-append : (known : List Sort) (xs ys : List TermNode) → sorts_onto known (xs ++ ys) ≡ option_and_then (λ ss. sorts_onto ss ys) (sorts_onto known xs)
sorts-append known [] ys = refl
sorts-append known (x ∷ xs) ys = append_by known xs ys (sort_of_node known x) (λ s. sorts-append (known ++ s ∷ []) xs ys)

-- one node more
pub sorts_push : (nodes : List TermNode) (node : TermNode) (ss : List Sort) (s : Sort) → sorts nodes ≡ Some ss → sort_of_node ss node ≡ Some s
    → sorts (nodes ++ node ∷ []) ≡ Some (ss ++ s ∷ [])
sorts_push nodes node ss s h k =
    sorts-append [] nodes (node ∷ [])
    ∙ ap (option_and_then (λ (us : List Sort). sorts_onto us (node ∷ []))) h
    ∙ ap (option_and_then (λ (t : Sort). Some (ss ++ t ∷ []))) k

length_by : (known : List Sort) (xs : List TermNode) (ss : List Sort) (o : Option Sort) → option_and_then (λ s. sorts_onto (known ++ s ∷ []) xs) o ≡ Some ss
    → ((s : Sort) → sorts_onto (known ++ s ∷ []) xs ≡ Some ss → length ss ≡ length (known ++ s ∷ []) + length xs) → length ss ≡ length known + suc (length xs)
length_by known xs ss None h ih = cc
length_by known xs ss (Some s) h ih = omega (arith, ih s h, length-append known (s ∷ []))

pub length-sorts : (known : List Sort) (nodes : List TermNode) (ss : List Sort) → sorts_onto known nodes ≡ Some ss → length ss ≡ length known + length nodes
length-sorts known [] ss h = let e : known ≡ ss = cc in omega (arith, ap length e)
length-sorts known (x ∷ xs) ss h = length_by known xs ss (sort_of_node known x) h (λ s. length-sorts (known ++ s ∷ []) xs ss)

pub count_sorts : (nodes : List TermNode) (ss : List Sort) → sorts nodes ≡ Some ss → length ss ≡ length nodes
count_sorts nodes ss h = omega (arith, length-sorts [] nodes ss h)

-- what is there is in range
pub there : (ss : List Sort) (k : ℕ) → IsSome (slice_get ss k) → k < length ss
there [] k h = cc
there (s ∷ ss) zero h = omega arith
there (s ∷ ss) (suc k) h = omega (arith, there ss k h)

bool_some : (o : Option Sort) → IsTrue (is_bool o) → IsSome o
bool_some None h = cc
bool_some (Some s) h = refl

pub root_within : (f : Formula) (ss : List Sort) → Sorted f ss → f.root < length f.nodes
root_within f ss h = omega (arith, count_sorts f.nodes ss h.each, there ss f.root (bool_some (slice_get ss f.root) h.root))

agree-push : (before nodes : List TermNode) (node : TermNode) → IsTrue (agree_onto before nodes) → IsTrue (variable_agrees (before ++ nodes) node) → IsTrue (agree_onto before (nodes ++ node ∷ []))
agree-push before [] node h k = and_both (variable_agrees before node) true (subst (λ (b : List TermNode). IsTrue (variable_agrees b node)) (append_nil before) k) refl
  where
    append_nil : (xs : List TermNode) → xs ++ [] ≡ xs
    append_nil [] = refl
    append_nil (x ∷ xs) = ap (λ (r : List TermNode). x ∷ r) (append_nil xs)
agree-push before (x ∷ nodes) node h k =
    and_both (variable_agrees before x) (agree_onto (before ++ x ∷ []) (nodes ++ node ∷ []))
    (and_left (variable_agrees before x) (agree_onto (before ++ x ∷ []) nodes) h)
    (agree-push (before ++ x ∷ []) nodes node (and_right (variable_agrees before x) (agree_onto (before ++ x ∷ []) nodes) h)
    (subst (λ (b : List TermNode). IsTrue (variable_agrees b node)) (sym (append_assoc before (x ∷ []) nodes)) k))

slice-push : (ss : List Sort) (s : Sort) (k : ℕ) → k < length ss → slice_get (ss ++ s ∷ []) k ≡ slice_get ss k
slice-push [] s k h = absurd (omega (arith, h))
slice-push (t ∷ ss) s zero h = refl
slice-push (t ∷ ss) s (suc k) h = slice-push ss s k (omega (arith, h))

-- a node that fits is put behind the others
pub sorted_push : (f : Formula) (ss : List Sort) (node : TermNode) (s : Sort) → Sorted f ss → IsTrue (fits_behind f.nodes node) → sort_of_node ss node ≡ Some s
    → Sorted (record { nodes = f.nodes ++ node ∷ []; root = f.root }) (ss ++ s ∷ [])
sorted_push f ss node s h fit is = record {
  each = sorts_push f.nodes node ss s h.each is;
  agree = agree-push [] f.nodes node h.agree (and_right (is_some (sort_behind f.nodes node)) (variable_agrees f.nodes node) fit);
  root = subst (λ (o : Option Sort). IsTrue (is_bool o)) (sym (slice-push ss s f.root (there ss f.root (bool_some (slice_get ss f.root) h.root)))) h.root;
}

pub sort_there : (nodes : List TermNode) (ss : List Sort) (k : ℕ) → sorts nodes ≡ Some ss → k < length nodes → (s : Sort) × (slice_get ss k ≡ Some s)
sort_there nodes ss k h within = get ss k (omega (arith, count_sorts nodes ss h, within))
  where
    get : (ts : List Sort) (j : ℕ) → j < length ts → (s : Sort) × (slice_get ts j ≡ Some s)
    get [] j l = absurd (omega (arith, l))
    get (t ∷ ts) zero l = (t, refl)
    get (t ∷ ts) (suc j) l = get ts j (omega (arith, l))

pub sort_got : (nodes : List TermNode) (ss : List Sort) (k : ℕ) (s : Sort) → sorts nodes ≡ Some ss → slice_get ss k ≡ Some s → sort_at nodes k ≡ Some s
sort_got nodes ss k s h is = ap (option_and_then (λ (ts : List Sort). slice_get ts k)) h ∙ is
