-- One node more: bits of bits, and new variables.
use Rattle.flat_prog.specs.Sites.{numbers_from}
use Rattle.std.proofs.Common.{◌≡◌, ℕ, zero, suc, ◌+◌, ◌<◌, ◌≤◌, Bool, true, not, ◌&&◌, ◌||◌, List, [], ◌∷◌, ◌++◌, map, length, take, arith, sym, ◌∙◌, ap, refl, subst, append-nil, append_assoc, length-append}
use Rattle.std.specs.Prelude.{Option, None, Some, slice_index_or, nat_lt, IsTrue, IsSome, if◌then◌else◌}
use Rattle.std.specs.Option.{option_and_then}
use Rattle.std.proofs.lemmas.List.{map-append}
use Rattle.std.proofs.lemmas.Bool.Decides.{nat_tests}
use Rattle.hy_val.specs.NodeSorts.{is_sort}
use Rattle.hy_val.specs.Sorts.{has_scalar}
use Rattle.hy_val.specs.Values.{at, is_on, has_sort, unary_value, binary_value}
use Rattle.hy_val.specs.declared.atom.Atom.{Atom}
use Rattle.hy_val.specs.declared.atom.AtomKind.TheVariants.{Bool as BoolAtom, Bv as BvAtom}
use Rattle.hy_val.specs.declared.sort.Sort.{Sort}
use Rattle.hy_val.specs.declared.sort.ScalarKind.TheVariants.{Bool as BoolSort}
use Rattle.hy_val.specs.declared.operator.UnOp.TheVariants.{Not}
use Rattle.hy_val.specs.declared.operator.BvOp.TheVariants.{And, Or}
use Rattle.hy_val.specs.declared.value.Value.{Value}
use Rattle.hy_val.specs.declared.value.Value.TheVariants.{Atom as AtomValue, Map as MapValue}
use Rattle.hy_val.proofs.Lawful.{keep_sorts}
use Rattle.hy_term.specs.TermSorts.{sorts, sort_at, sort_behind, free_or_same, fits_behind}
use Rattle.hy_term.specs.Meaning.{values, value, node_value, fits}
use Rattle.hy_term.specs.Variables.{node_below, below, reads}
use Rattle.hy_term.specs.declared.node.TermNode.{TermNode}
use Rattle.hy_term.specs.declared.node.TermNode.TheVariants.{Variable, Unary, Binary}
use Rattle.hy_term.proofs.Growing.{value-new}
use Rattle.hy_term.proofs.Numbering.{above_is_free}
use Rattle.hy_term.proofs.Typing.{value_has_sort}
use Rattle.hy_term.proofs.Sorting.{and_both, and_left, and_right}
use Rattle.passive_form.specs.Local.{sorted_as}
use Rattle.vc_gen.specs.declared.parts.Draft.{Draft}
use Rattle.vc_gen.specs.Standing.{Later, variables_in}
use Rattle.vc_gen.specs.Items.{bool_sort, AreSorts}
use Rattle.vc_gen.specs.Emit.{Bit, IsBoth, IsEither, IsNot, row_of, Fresh, FreshSoFar}
use Rattle.passive_form.specs.Versions.{from}
use Rattle.vc_gen.proofs.Growth.{behind_unary, behind_binary, sort_added, fits_by, later_same, later_push, later_then, below_push, fits_push, are_later, are_append, map_later, variables_append}
use Rattle.vc_gen.proofs.Looking.{take_at, take_all}
use Rattle.vc_gen.proofs.Joining.{reads_append, length_reads, sorts_left, sorts_right, and_first}

-- a bool's value
pub record IsBool (v : Value) : Type 0 where
  pub bit : Bool
  pub is : v ≡ AtomValue (BoolAtom bit)

bool_atom : (a : Atom) → has_scalar a BoolSort ≡ true → IsBool (AtomValue a)
bool_atom (BoolAtom b) h = record { bit = b; is = refl }
bool_atom (BvAtom w) h = cc

bool_value : (v : Value) → has_sort v bool_sort ≡ true → IsBool v
bool_value (AtomValue a) h = bool_atom a h
bool_value (MapValue m) h = cc

pub bool_at : (a : ℕ → Value) (nodes : List TermNode) (t : ℕ) → IsTrue (fits a nodes) → sort_at nodes t ≡ Some bool_sort → IsBool (value a nodes t)
bool_at a nodes t f h = bool_value (value a nodes t) (value_has_sort keep_sorts a nodes t bool_sort f h)

and_is : (v w : Value) → IsBool v → IsBool w → is_on (binary_value And v w) ≡ (is_on v && is_on w)
and_is v w x y = ap (λ z. is_on (binary_value And z w)) x.is ∙ ap (λ z. is_on (binary_value And (AtomValue (BoolAtom x.bit)) z)) y.is ∙ sym (ap (λ z. is_on z && is_on w) x.is ∙ ap (λ z. x.bit && is_on z) y.is)

or_is : (v w : Value) → IsBool v → IsBool w → is_on (binary_value Or v w) ≡ (is_on v || is_on w)
or_is v w x y = ap (λ z. is_on (binary_value Or z w)) x.is ∙ ap (λ z. is_on (binary_value Or (AtomValue (BoolAtom x.bit)) z)) y.is ∙ sym (ap (λ z. is_on z || is_on w) x.is ∙ ap (λ z. x.bit || is_on z) y.is)

not_is : (v : Value) → IsBool v → is_on (unary_value Not v) ≡ not (is_on v)
not_is v x = ap (λ z. is_on (unary_value Not z)) x.is ∙ sym (ap (λ z. not (is_on z)) x.is)

bit_push : (old new : List TermNode) (node : TermNode) (t : ℕ) (f : (ℕ → Value) → Bool) → sort_behind old node ≡ Some bool_sort → ((a : ℕ → Value) → IsTrue (fits a old) → is_on (node_value a (values a old) node) ≡ f a) →
    new ≡ old ++ node ∷ [] → t ≡ length old → Bit old new t f
bit_push old new node t f s m is at_end =
    subst (λ (i : ℕ). Bit old new i f) (sym at_end) (subst (λ (ns : List TermNode). Bit old ns (length old) f) (sym is)
    (record { sort = sort_added old node bool_sort s; means = λ a h. ap is_on (value-new a old node) ∙ m a h }))

pub and_behind : (old : List TermNode) (l r : ℕ) → sort_at old l ≡ Some bool_sort → sort_at old r ≡ Some bool_sort → sort_behind old (Binary And l r) ≡ Some bool_sort
and_behind old l r h k = behind_binary old And l r BoolSort BoolSort BoolSort h k refl

pub or_behind : (old : List TermNode) (l r : ℕ) → sort_at old l ≡ Some bool_sort → sort_at old r ≡ Some bool_sort → sort_behind old (Binary Or l r) ≡ Some bool_sort
or_behind old l r h k = behind_binary old Or l r BoolSort BoolSort BoolSort h k refl

pub not_behind : (old : List TermNode) (c : ℕ) → sort_at old c ≡ Some bool_sort → sort_behind old (Unary Not c) ≡ Some bool_sort
not_behind old c h = behind_unary old Not c BoolSort BoolSort h refl

pub and_says : (old new : List TermNode) (l r t : ℕ) → sort_at old l ≡ Some bool_sort → sort_at old r ≡ Some bool_sort → new ≡ old ++ Binary And l r ∷ [] → t ≡ length old → IsBoth old new l r t
and_says old new l r t h k is at_end =
    bit_push old new (Binary And l r) t (λ a. is_on (value a old l) && is_on (value a old r)) (and_behind old l r h k) (λ a f. and_is (value a old l) (value a old r) (bool_at a old l f h) (bool_at a old r f k)) is at_end

pub or_says : (old new : List TermNode) (l r t : ℕ) → sort_at old l ≡ Some bool_sort → sort_at old r ≡ Some bool_sort → new ≡ old ++ Binary Or l r ∷ [] → t ≡ length old → IsEither old new l r t
or_says old new l r t h k is at_end =
    bit_push old new (Binary Or l r) t (λ a. is_on (value a old l) || is_on (value a old r)) (or_behind old l r h k) (λ a f. or_is (value a old l) (value a old r) (bool_at a old l f h) (bool_at a old r f k)) is at_end

pub not_says : (old new : List TermNode) (c t : ℕ) → sort_at old c ≡ Some bool_sort → new ≡ old ++ Unary Not c ∷ [] → t ≡ length old → IsNot old new c t
not_says old new c t h is at_end =
    bit_push old new (Unary Not c) t (λ a. not (is_on (value a old c))) (not_behind old c h) (λ a f. not_is (value a old c) (bool_at a old c f h)) is at_end

-- ---- new variables

some_sorts : (o : Option (List Sort)) (s : Sort) → IsSome o → option_and_then (λ (ss : List Sort). Some s) o ≡ Some s
some_sorts None s h = cc
some_sorts (Some ss) s h = refl

pub variable_behind : (old : List TermNode) (n : ℕ) (s : Sort) → IsSome (sorts old) → IsTrue (is_sort s) → sort_behind old (Variable n s) ≡ Some s
variable_behind old n s h k =
    ap (λ (b : Bool). option_and_then (λ (ss : List Sort). if b then Some s else None) (sorts old)) k ∙ some_sorts (sorts old) s h

pub variable_fits : (old : List TermNode) (n : ℕ) (s : Sort) → IsSome (sorts old) → IsTrue (is_sort s) → IsTrue (below n old) → IsTrue (fits_behind old (Variable n s))
variable_fits old n s h k b = fits_by old (Variable n s) s (variable_behind old n s h k) (ap (λ (o : Option Sort). free_or_same o s) (above_is_free n old b))

below_node : (k m : ℕ) (node : TermNode) → k ≤ m → IsTrue (node_below k node) → IsTrue (node_below m node)
below_node k m (Variable n s) l h = grind (arith, nat_tests, l, h)
below_node k m node l h = h

below_up : (k m : ℕ) (xs : List TermNode) → k ≤ m → IsTrue (below k xs) → IsTrue (below m xs)
below_up k m [] l h = refl
below_up k m (x ∷ xs) l h = and_both (node_below m x) (below m xs) (below_node k m x l (and_left (node_below k x) (below k xs) h)) (below_up k m xs l (and_right (node_below k x) (below k xs) h))

self_below : (n : ℕ) → nat_lt n (n + 1) ≡ true
self_below n = grind (arith, nat_tests)

pub fresh_one_is : (old new : List TermNode) (d e : Draft) (s : Sort) (t : ℕ) → IsSome (sorts old) → IsTrue (is_sort s) → IsTrue (below d.next old) → new ≡ old ++ Variable d.next s ∷ [] → t ≡ length old →
    e ≡ record d { versions = d.versions ++ t ∷ []; next = d.next + 1 } → Fresh old d (s ∷ []) new e
fresh_one_is old new d e s t h k b is at_end same =
    let node = Variable d.next s in
    let behind = variable_behind old d.next s h k in
    subst (λ (x : Draft). Fresh old d (s ∷ []) new x) (sym same)
    (subst (λ (i : ℕ). Fresh old d (s ∷ []) new (record d { versions = d.versions ++ i ∷ []; next = d.next + 1 })) (sym at_end)
    (subst (λ (ns : List TermNode). Fresh old d (s ∷ []) ns (record d { versions = d.versions ++ length old ∷ []; next = d.next + 1 })) (sym is) (record {
      later = later_push old (old ++ node ∷ []) node s behind refl;
      more = length old ∷ [];
      draft_is = refl;
      nodes_are = refl;
      more_are = refl;
      are = (sort_added old node s behind, tt);
      below = below_push (d.next + 1) old node (below_up d.next (d.next + 1) old (omega arith) b) (self_below d.next);
      read = λ a. ap (λ v. v ∷ []) (value-new a old node);
      fit = λ a f g. fits_push a old node f (and_first (has_sort (a d.next) s) true g);
    })))

pub fresh_none : (old : List TermNode) (d : Draft) → IsSome (sorts old) → IsTrue (below d.next old) → Fresh old d [] old d
fresh_none old d h b =
    let n : d.next ≡ d.next + 0 = omega arith in
    record { later = later_same old h; more = []; draft_is = same d.versions d.next (d.versions ++ []) (d.next + 0) (sym (append-nil d.versions)) n; nodes_are = sym (append-nil old); more_are = refl; are = tt; below = b; read = λ a. refl; fit = λ a f g. f }
  where
    same : (vs : List ℕ) (k : ℕ) (ws : List ℕ) (m : ℕ) → vs ≡ ws → k ≡ m → ◌≡◌ {A = Draft} (record d { versions = vs; next = k }) (record d { versions = ws; next = m })
    same vs k ws m p q = cc

row_append : (k : ℕ) (xs ys : List Sort) → row_of k (xs ++ ys) ≡ row_of k xs ++ row_of (k + length xs) ys
row_append k [] ys = let e : k ≡ k + 0 = omega arith in ap (λ i. row_of i ys) e
row_append k (x ∷ xs) ys = let e : k + 1 + length xs ≡ k + suc (length xs) = omega arith in ap (λ r. Variable k x ∷ r) (row_append (k + 1) xs ys ∙ ap (λ i. row_of (k + 1) xs ++ row_of i ys) e)

from_append : (k : ℕ) (xs ys : List Sort) → from k (xs ++ ys) ≡ from k xs ++ from (k + length xs) ys
from_append k [] ys = let e : k ≡ k + 0 = omega arith in ap (λ i. from i ys) e
from_append k (x ∷ xs) ys = let e : k + 1 + length xs ≡ k + suc (length xs) = omega arith in ap (λ r. k ∷ r) (from_append (k + 1) xs ys ∙ ap (λ i. from (k + 1) xs ++ from i ys) e)

pub row_count : (k : ℕ) (xs : List Sort) → length (row_of k xs) ≡ length xs
row_count k [] = refl
row_count k (x ∷ xs) = ap suc (row_count (k + 1) xs)

pub fresh_then : (old mid new : List TermNode) (d m e : Draft) (xs ys : List Sort) → Fresh old d xs mid m → Fresh mid m ys new e → Fresh old d (xs ++ ys) new e
fresh_then old mid new d m e xs ys h k =
    let n : length (xs ++ ys) ≡ length xs + length ys = length-append xs ys in
    let next : m.next ≡ d.next + length xs = ap (λ (x : Draft). x.next) h.draft_is in
    let vs : m.versions ≡ d.versions ++ h.more = ap (λ (x : Draft). x.versions) h.draft_is in
    let end : m.next + length ys ≡ d.next + length (xs ++ ys) = omega (arith, n, next) in
    let mid_count : length mid ≡ length old + length xs = ap length h.nodes_are ∙ length-append old (row_of d.next xs) ∙ ap (λ i. length old + i) (row_count d.next xs) in
    let split : (a : ℕ → Value) → reads a d.next (length (xs ++ ys)) ≡ reads a d.next (length xs) ++ reads a m.next (length ys) = λ a.
    ap (reads a d.next) n ∙ reads_append a d.next (length xs) (length ys) ∙ ap (λ i. reads a d.next (length xs) ++ reads a i (length ys)) (sym next) in
    record {
      later = later_then old mid new h.later k.later;
      more = h.more ++ k.more;
      draft_is = k.draft_is ∙ ap (λ (x : Draft). record x { versions = m.versions ++ k.more; next = m.next + length ys }) h.draft_is
          ∙ same (m.versions ++ k.more) (m.next + length ys) (d.versions ++ (h.more ++ k.more)) (d.next + length (xs ++ ys)) (ap (λ x. x ++ k.more) vs ∙ append_assoc d.versions h.more k.more) end;
      nodes_are = k.nodes_are ∙ ap (λ z. z ++ row_of m.next ys) h.nodes_are ∙ append_assoc old (row_of d.next xs) (row_of m.next ys)
          ∙ ap (λ r. old ++ r) (ap (λ i. row_of d.next xs ++ row_of i ys) next ∙ sym (row_append d.next xs ys));
      more_are = ap (λ z. z ++ k.more) h.more_are ∙ ap (λ z. from (length old) xs ++ z) (k.more_are ∙ ap (λ i. from i ys) mid_count) ∙ sym (from_append (length old) xs ys);
      are = are_append new h.more k.more xs ys (are_later mid new h.more xs k.later h.are) k.are;
      below = k.below;
      read = λ a. map-append (at (values a new)) h.more k.more ∙ ap (λ r. r ++ map (at (values a new)) k.more) (map_later mid new a h.more xs k.later h.are ∙ h.read a)
          ∙ ap (λ r. reads a d.next (length xs) ++ r) (k.read a) ∙ sym (split a);
      fit = λ a f g.
          let g2 : sorted_as (xs ++ ys) (reads a d.next (length xs) ++ reads a m.next (length ys)) ≡ true = sym (ap (sorted_as (xs ++ ys)) (split a)) ∙ g in
          let l = length_reads a d.next (length xs) in
          k.fit a (h.fit a f (sorts_left xs ys (reads a d.next (length xs)) (reads a m.next (length ys)) l g2)) (sorts_right xs ys (reads a d.next (length xs)) (reads a m.next (length ys)) l g2);
    }
  where
    same : (vs : List ℕ) (i : ℕ) (ws : List ℕ) (j : ℕ) → vs ≡ ws → i ≡ j → ◌≡◌ {A = Draft} (record d { versions = vs; next = i }) (record d { versions = ws; next = j })
    same vs i ws j p q = cc

pub fresh_made : (old new : List TermNode) (d : Draft) (s : Sort) (t : ℕ) (vs : List ℕ) (k : ℕ) → IsSome (sorts old) → IsTrue (is_sort s) → IsTrue (below d.next old) → new ≡ old ++ Variable d.next s ∷ [] → t ≡ length old →
    vs ≡ d.versions ++ t ∷ [] → k ≡ d.next + 1 → Fresh old d (s ∷ []) new (record d { versions = vs; next = k })
fresh_made old new d s t vs k h ok b is at_end p q =
    fresh_one_is old new d (record d { versions = vs; next = k }) s t h ok b is at_end (let e : ◌≡◌ {A = Draft} (record d { versions = vs; next = k }) (record d { versions = d.versions ++ t ∷ []; next = d.next + 1 }) = cc in e)

sort_of_all : (ss : List Sort) (i : ℕ) (s : Sort) → AreSorts ss → i < length ss → IsTrue (is_sort (slice_index_or ss i s))
sort_of_all [] i s h l = absurd (omega (arith, l))
sort_of_all (r ∷ ss) zero s h l = h.0
sort_of_all (r ∷ ss) (suc i) s h l = sort_of_all ss i s h.1 (omega (arith, l))

pub next_is_sort : (ss : List Sort) (i : ℕ) (s : Sort) → AreSorts ss → i < length ss → s ≡ slice_index_or ss i s → IsTrue (is_sort s)
next_is_sort ss i s h l is = subst (λ (r : Sort). IsTrue (is_sort r)) (sym is) (sort_of_all ss i s h l)

pub fresh_next : (old mid new : List TermNode) (d m e : Draft) (ss : List Sort) (i : ℕ) (s : Sort) → i < length ss → s ≡ slice_index_or ss i s → Fresh old d (take i ss) mid m → Fresh mid m (s ∷ []) new e → Fresh old d (take (i + 1) ss) new e
fresh_next old mid new d m e ss i s l is h k =
    subst (λ (xs : List Sort). Fresh old d xs new e) (sym (take_at ss s i l ∙ ap (λ r. take i ss ++ r ∷ []) (sym is))) (fresh_then old mid new d m e (take i ss) (s ∷ []) h k)

pub fresh_whole : (old new : List TermNode) (d e : Draft) (ss : List Sort) (i : ℕ) → length ss ≤ i → Fresh old d (take i ss) new e → Fresh old d ss new e
fresh_whole old new d e ss i l h = subst (λ (xs : List Sort). Fresh old d xs new e) (take_all ss i l) h

row_numbers : (k : ℕ) (ss : List Sort) → variables_in (row_of k ss) ≡ numbers_from k (length ss)
row_numbers k [] = refl
row_numbers k (s ∷ ss) = ap (λ r. k ∷ r) (row_numbers (k + 1) ss)

-- new variables are numbered on
pub fresh_numbers : (old new : List TermNode) (d e : Draft) (ss : List Sort) → Fresh old d ss new e → variables_in new ≡ variables_in old ++ numbers_from d.next (length ss)
fresh_numbers old new d e ss h = ap variables_in h.nodes_are ∙ variables_append old (row_of d.next ss) ∙ ap (λ r. variables_in old ++ r) (row_numbers d.next ss)

pub so_far_none : (old : List TermNode) (d : Draft) (ts : List ℕ) → IsSome (sorts old) → IsTrue (below d.next old) → ts ≡ [] → FreshSoFar old d [] old d ts
so_far_none old d ts h b e = record { fresh = fresh_none old d h b; versions = sym (append-nil d.versions) ∙ ap (λ r. d.versions ++ r) (sym e) }

pub so_far_next : (old mid new : List TermNode) (d m e : Draft) (ss : List Sort) (i : ℕ) (s : Sort) (ts us : List ℕ) (t : ℕ) → i < length ss → s ≡ slice_index_or ss i s → FreshSoFar old d (take i ss) mid m ts →
    Fresh mid m (s ∷ []) new e → e.versions ≡ m.versions ++ t ∷ [] → us ≡ ts ++ t ∷ [] → FreshSoFar old d (take (i + 1) ss) new e us
so_far_next old mid new d m e ss i s ts us t l is h k v u = record {
  fresh = fresh_next old mid new d m e ss i s l is h.fresh k;
  versions = v ∙ ap (λ r. r ++ t ∷ []) h.versions ∙ append_assoc d.versions ts (t ∷ []) ∙ ap (λ r. d.versions ++ r) (sym u);
}

pub so_far_later : (old new : List TermNode) (d e : Draft) (ss : List Sort) (ts : List ℕ) → FreshSoFar old d ss new e ts → Later old new
so_far_later old new d e ss ts h = h.fresh.later
