-- Conjunctions that say that constants differ, and that axioms hold, one by one.
use Rattle.std.proofs.Common.{◌≡◌, ℕ, ◌+◌, ◌≤◌, Bool, true, ◌&&◌, List, length, drop, sym, ◌∙◌, ap}
use Rattle.std.specs.Prelude.{Some, slice_get}
use Rattle.std.specs.List.{list_all}
use Rattle.hy_val.specs.Stores.{all_differ, holds}
use Rattle.hy_val.specs.declared.expr.ExprNode.{ExprNode}
use Rattle.hy_val.specs.declared.sort.Sort.{Sort}
use Rattle.hy_val.specs.declared.value.Value.{Value}
use Rattle.hy_term.specs.declared.node.TermNode.{TermNode}
use Rattle.flat_prog.specs.Program.{FlatProgram}
use Rattle.flat_prog.specs.Runs.{are_allowed}
use Rattle.tree_terms.specs.Rules.{IsBit, bit}
use Rattle.tree_terms.specs.Standing.{AreOf, all_at}
use Rattle.tree_terms.proofs.Growth.{are_later, map_later}
use Rattle.tree_query.specs.Allowing.{differ}
use Rattle.tree_query.proofs.Conjoining.{Conjoins, bit_after, bit_later, conjoins_later, conjoin_next, conjoin_end}
use Rattle.tree_query.proofs.Differing.{drop_number, drop_numbers}
use Rattle.tree_query.proofs.Holding.{env_of, drop_axiom, drop_axioms}

-- a constant differs from those that are left
abbrev pub differs_from : List TermNode → List ℕ → ℕ → List ℕ → (ℕ → Value) → Bool
differs_from old consts one others a = list_all (differ (all_at a old consts) one) others

-- those that are left differ from one another
abbrev pub are_different : List TermNode → List ℕ → List ℕ → (ℕ → Value) → Bool
are_different old consts ns a = all_differ (all_at a old consts) ns

-- the axioms that are left hold
abbrev pub are_true : List TermNode → List ℕ → List (List ExprNode) → (ℕ → Value) → Bool
are_true old consts axioms a = list_all (holds (env_of (all_at a old consts))) axioms

pub differs_next : (old cur new : List TermNode) (consts : List ℕ) (ss : List Sort) (one : ℕ) (others : List ℕ) (i n t u : ℕ) (whole : (ℕ → Value) → Bool) → AreOf old consts ss → slice_get others i ≡ Some n
    → Conjoins old cur (differs_from old consts one (drop i others)) whole t → IsBit cur new (λ a. bit a cur t && differ (all_at a cur consts) one n) u
    → Conjoins old new (differs_from old consts one (drop (i + 1) others)) whole u
differs_next old cur new consts ss one others i n t u whole are is c b =
    conjoin_next old cur new (differs_from old consts one (drop i others)) (differs_from old consts one (drop (i + 1) others)) whole (λ a. differ (all_at a cur consts) one n) t u c b
    (λ a fit. ap (λ (ns : List ℕ). differs_from old consts one ns a) (drop_number others i n is)
    ∙ ap (λ (vs : List Value). differ vs one n && differs_from old consts one (drop (i + 1) others) a) (sym (map_later old cur a consts ss (conjoins_later old cur (differs_from old consts one (drop i others)) whole t c) are)))

pub differs_end : (old cur : List TermNode) (consts : List ℕ) (one : ℕ) (others : List ℕ) (i t : ℕ) (whole : (ℕ → Value) → Bool) → length others ≤ i → Conjoins old cur (differs_from old consts one (drop i others)) whole t → IsBit old cur whole t
differs_end old cur consts one others i t whole l c =
    conjoin_end old cur (differs_from old consts one (drop i others)) whole t c (λ a. ap (λ (ns : List ℕ). differs_from old consts one ns a) (drop_numbers others i l))

pub different_next : (old cur new : List TermNode) (consts : List ℕ) (ss : List Sort) (ns : List ℕ) (i n t u : ℕ) (whole : (ℕ → Value) → Bool) → AreOf old consts ss → slice_get ns i ≡ Some n
    → Conjoins old cur (are_different old consts (drop i ns)) whole t → IsBit cur new (λ a. bit a cur t && list_all (differ (all_at a cur consts) n) (drop (i + 1) ns)) u
    → Conjoins old new (are_different old consts (drop (i + 1) ns)) whole u
different_next old cur new consts ss ns i n t u whole are is c b =
    conjoin_next old cur new (are_different old consts (drop i ns)) (are_different old consts (drop (i + 1) ns)) whole (λ a. list_all (differ (all_at a cur consts) n) (drop (i + 1) ns)) t u c b
    (λ a fit. ap (λ (ms : List ℕ). are_different old consts ms a) (drop_number ns i n is)
    ∙ ap (λ (vs : List Value). list_all (differ vs n) (drop (i + 1) ns) && are_different old consts (drop (i + 1) ns) a) (sym (map_later old cur a consts ss (conjoins_later old cur (are_different old consts (drop i ns)) whole t c) are)))

pub different_end : (old cur : List TermNode) (consts : List ℕ) (ns : List ℕ) (i t : ℕ) (whole : (ℕ → Value) → Bool) → length ns ≤ i → Conjoins old cur (are_different old consts (drop i ns)) whole t → IsBit old cur whole t
different_end old cur consts ns i t whole l c =
    conjoin_end old cur (are_different old consts (drop i ns)) whole t c (λ a. ap (λ (ms : List ℕ). are_different old consts ms a) (drop_numbers ns i l))

pub true_next : (old cur new : List TermNode) (consts : List ℕ) (ss : List Sort) (axioms : List (List ExprNode)) (i : ℕ) (e : List ExprNode) (t u : ℕ) (whole : (ℕ → Value) → Bool) → AreOf old consts ss → slice_get axioms i ≡ Some e
    → Conjoins old cur (are_true old consts (drop i axioms)) whole t → IsBit cur new (λ a. bit a cur t && holds (env_of (all_at a cur consts)) e) u
    → Conjoins old new (are_true old consts (drop (i + 1) axioms)) whole u
true_next old cur new consts ss axioms i e t u whole are is c b =
    conjoin_next old cur new (are_true old consts (drop i axioms)) (are_true old consts (drop (i + 1) axioms)) whole (λ a. holds (env_of (all_at a cur consts)) e) t u c b
    (λ a fit. ap (λ (es : List (List ExprNode)). are_true old consts es a) (drop_axiom axioms i e is)
    ∙ ap (λ (vs : List Value). holds (env_of vs) e && are_true old consts (drop (i + 1) axioms) a) (sym (map_later old cur a consts ss (conjoins_later old cur (are_true old consts (drop i axioms)) whole t c) are)))

pub true_end : (old cur : List TermNode) (consts : List ℕ) (axioms : List (List ExprNode)) (i t : ℕ) (whole : (ℕ → Value) → Bool) → length axioms ≤ i → Conjoins old cur (are_true old consts (drop i axioms)) whole t → IsBit old cur whole t
true_end old cur consts axioms i t whole l c =
    conjoin_end old cur (are_true old consts (drop i axioms)) whole t c (λ a. ap (λ (es : List (List ExprNode)). are_true old consts es a) (drop_axioms axioms i l))

-- what the constants' terms say while nodes are put behind
pub are_after : (old cur : List TermNode) (consts : List ℕ) (ss : List Sort) (rest whole : (ℕ → Value) → Bool) (t : ℕ) → AreOf old consts ss → Conjoins old cur rest whole t → AreOf cur consts ss
are_after old cur consts ss rest whole t are c = are_later old cur consts ss (conjoins_later old cur rest whole t c) are

-- the constants are allowed where they differ and the axioms hold
pub allowed_bit : (flat : FlatProgram) (old one two new : List TermNode) (consts : List ℕ) (ss : List Sort) (us : List ℕ) (axioms : List (List ExprNode)) (s d t : ℕ) → us ≡ flat.uniques → axioms ≡ flat.axioms → AreOf old consts ss
    → IsBit old one (λ a. true) s → IsBit one two (λ a. bit a one s && all_differ (all_at a one consts) us) d → IsBit two new (λ a. bit a two d && list_all (holds (env_of (all_at a two consts))) axioms) t
    → IsBit old new (λ a. are_allowed flat (all_at a old consts)) t
allowed_bit flat old one two new consts ss us axioms s d t same_us same_axioms are x y z =
    let distinct =
    bit_after old one two (λ a. true) (λ a. bit a one s && all_differ (all_at a one consts) us) (λ a. all_differ (all_at a old consts) us) s d x y
    (λ a fit h. ap (λ (b : Bool). b && all_differ (all_at a one consts) us) h ∙ ap (λ (vs : List Value). all_differ vs us) (map_later old one a consts ss (bit_later old one (λ a. true) s x) are)) in
    bit_after old two new (λ a. all_differ (all_at a old consts) us) (λ a. bit a two d && list_all (holds (env_of (all_at a two consts))) axioms) (λ a. are_allowed flat (all_at a old consts)) d t distinct z
    (λ a fit h. ap (λ (b : Bool). b && list_all (holds (env_of (all_at a two consts))) axioms) h
    ∙ ap (λ (vs : List Value). all_differ (all_at a old consts) us && list_all (holds (env_of vs)) axioms) (map_later old two a consts ss (bit_later old two (λ a. all_differ (all_at a old consts) us) d distinct) are)
    ∙ ap (λ (ns : List ℕ). all_differ (all_at a old consts) ns && list_all (holds (env_of (all_at a old consts))) axioms) same_us
    ∙ ap (λ (es : List (List ExprNode)). all_differ (all_at a old consts) flat.uniques && list_all (holds (env_of (all_at a old consts))) es) same_axioms)
