-- Operands with brackets behind them: when they are alike, and how many nodes they have.
use Rattle.std.proofs.Common.{◌≡◌, ℕ, ◌≤◌, List, [], ◌∷◌, ◌++◌, map, length, take, drop, nat_eq, Bool, true, false, refl, ap, sym, ◌∙◌, rules, arith, ◌↔◌}
use Rattle.std.proofs.lemmas.Bool.{eqb-true}
use Rattle.std.proofs.lemmas.List.{append-nil, append_assoc, length-append, length-map, map-append, nil_from_length, take-append-drop}
use Rattle.std.proofs.lemmas.List.Sums.{sum_by-take-drop}
use Rattle.std.specs.List.{sum_by}
use Rattle.std.proofs.Math.Seq.{drop-append_seam, take-append_seam}
use Rattle.bpl_ast.specs.Alike.{Spine, bare_bracket, bare_expr, spine, whole}
use Rattle.bpl_ast.specs.declared.expr.Bracket.{Bracket}
use Rattle.bpl_ast.specs.declared.expr.Bracket.TheFolds.{the_lemmas}
use Rattle.bpl_ast.specs.declared.expr.Expr.{Expr}
use Rattle.bpl_ast.specs.declared.expr.Expr.TheVariants as e
use Rattle.bpl_alike.specs.Behind.{behind}
use Rattle.bpl_alike.specs.Groups.{NoPost}
use Rattle.bpl_alike.proofs.ExprLaws.{no_brackets, whole_same}
use Rattle.bpl_alike.proofs.Weights.{bracket_weight}

-- ---- two lists with backs of one length

heads_long : {X : Type 0} (a b p k : List X) → length p ≡ length k → a ++ p ≡ b ++ k → length a ≡ length b
heads_long a b p k many same =
    let h : length (a ++ p) ≡ length (b ++ k) = ap length same in
    omega (arith, h, many, length-append a p, length-append b k)

backs_same : {X : Type 0} (a b p k : List X) → length p ≡ length k → a ++ p ≡ b ++ k → p ≡ k
backs_same a b p k many same =
    sym (drop-append_seam a p) ∙ (ap (drop (length a)) same ∙ (ap (λ n. drop n (b ++ k)) (heads_long a b p k many same) ∙ drop-append_seam b k))

heads_same : {X : Type 0} (a b p k : List X) → length p ≡ length k → a ++ p ≡ b ++ k → a ≡ b
heads_same a b p k many same =
    sym (take-append_seam a p) ∙ (ap (take (length a)) same ∙ (ap (λ n. take n (b ++ k)) (heads_long a b p k many same) ∙ take-append_seam b k))

-- ---- brackets behind

abbrev with_brackets : Spine → List Bracket → Spine
with_brackets s more = record { operand = s.operand; brackets = s.brackets ++ more }

abbrev of_parts : Expr → List Bracket → Spine
of_parts x bs = record { operand = x; brackets = bs }

-- brackets in two parts
parted : (y : Expr) (front back : List Bracket) → behind y (front ++ back) ≡ with_brackets (behind y front) (map bare_bracket back)
parted y front back = ap (of_parts (spine y).operand) (ap (λ bs. (spine y).brackets ++ bs) (map-append bare_bracket front back) ∙ sym (append_assoc (spine y).brackets (map bare_bracket front) (map bare_bracket back)))

cut_at : (y : Expr) (n : ℕ) (q : List Bracket) → behind y q ≡ with_brackets (behind y (take n q)) (map bare_bracket (drop n q))
cut_at y n q = ap (behind y) (sym (take-append-drop n q)) ∙ parted y (take n q) (drop n q)

-- the backs agree, and so do the fronts
joined : (x y : Expr) (p q : List Bracket) (n : ℕ) → map bare_bracket p ≡ map bare_bracket (drop n q) → spine x ≡ behind y (take n q) → behind x p ≡ behind y q
joined x y p q n backs fronts =
    ap (λ s. with_brackets s (map bare_bracket p)) fronts ∙ (ap (with_brackets (behind y (take n q))) backs ∙ sym (cut_at y n q))

mapped_long : (p k : List Bracket) → length p ≡ length k → length (map bare_bracket p) ≡ length (map bare_bracket k)
mapped_long p k many = length-map p bare_bracket ∙ (many ∙ sym (length-map k bare_bracket))

lists_same : (x y : Expr) (p q : List Bracket) (n : ℕ) → behind x p ≡ behind y q
    → (spine x).brackets ++ map bare_bracket p ≡ (behind y (take n q)).brackets ++ map bare_bracket (drop n q)
lists_same x y p q n same = ap (λ (s : Spine). s.brackets) (same ∙ cut_at y n q)

backs : (x y : Expr) (p q : List Bracket) (n : ℕ) → length p ≡ length (drop n q) → behind x p ≡ behind y q → map bare_bracket p ≡ map bare_bracket (drop n q)
backs x y p q n many same =
    backs_same (spine x).brackets (behind y (take n q)).brackets (map bare_bracket p) (map bare_bracket (drop n q)) (mapped_long p (drop n q) many) (lists_same x y p q n same)

fronts : (x y : Expr) (p q : List Bracket) (n : ℕ) → length p ≡ length (drop n q) → behind x p ≡ behind y q → spine x ≡ behind y (take n q)
fronts x y p q n many same =
    let bs : (spine x).brackets ≡ (behind y (take n q)).brackets =
    heads_same (spine x).brackets (behind y (take n q)).brackets (map bare_bracket p) (map bare_bracket (drop n q)) (mapped_long p (drop n q) many) (lists_same x y p q n same) in
    let o : (spine x).operand ≡ (spine y).operand = ap (λ (s : Spine). s.operand) same in
    ap (λ z. of_parts z (spine x).brackets) o ∙ ap (of_parts (spine y).operand) bs

-- what is left once the backs agree
pub left : {r b : Bool} (x y : Expr) (p q front back : List Bracket) (n : ℕ) → front ≡ take n q → back ≡ drop n q → length p ≡ length back → b ≡ true
    → (b ≡ true ↔ map bare_bracket p ≡ map bare_bracket back) → (r ≡ true ↔ spine x ≡ behind y front) → (r ≡ true ↔ behind x p ≡ behind y q)
left x y p q front back n is_front is_back many held agree same =
    let long : length p ≡ length (drop n q) = many ∙ ap length is_back in
    let told : map bare_bracket p ≡ map bare_bracket (drop n q) = agree.0 held ∙ ap (map bare_bracket) is_back in
    (λ h. joined x y p q n told (same.0 h ∙ ap (behind y) is_front), λ all. same.1 (fronts x y p q n long all ∙ sym (ap (behind y) is_front)))

-- the backs differ
pub differ : {b : Bool} (x y : Expr) (p q back : List Bracket) (n : ℕ) → back ≡ drop n q → length p ≡ length back → b ≡ false
    → (b ≡ true ↔ map bare_bracket p ≡ map bare_bracket back) → (b ≡ true ↔ behind x p ≡ behind y q)
differ x y p q back n is_back many failed agree =
    let long : length p ≡ length (drop n q) = many ∙ ap length is_back in
    (λ h. let clash : true ≡ false = sym h ∙ failed in absurd cc, λ all. agree.1 (backs x y p q n long all ∙ sym (ap (map bare_bracket) is_back)))

pub turned_round : {r : Bool} {S : Type 0} {s t : S} → (r ≡ true ↔ s ≡ t) → (r ≡ true ↔ t ≡ s)
turned_round same = (λ h. sym (same.0 h), λ is. same.1 (sym is))

-- ---- parts of brackets have no more nodes

pub front_lighter : (q front : List Bracket) (n : ℕ) → front ≡ take n q → sum_by bracket_weight front ≤ sum_by bracket_weight q
front_lighter q front n is = omega (arith, ap (sum_by bracket_weight) is, sum_by-take-drop bracket_weight q n)

pub back_lighter : (q back : List Bracket) (n : ℕ) → back ≡ drop n q → sum_by bracket_weight back ≤ sum_by bracket_weight q
back_lighter q back n is = omega (arith, ap (sum_by bracket_weight) is, sum_by-take-drop bracket_weight q n)

-- ---- an expression against an operand with brackets behind it

pub none_behind : (r : Bool) (q : List Bracket) → r ≡ nat_eq (length q) 0 → r ≡ true → q ≡ []
none_behind r q is held = nil_from_length q (eqb-true (length q) 0 (sym is ∙ held))

behind_none : (y : Expr) → spine y ≡ behind y []
behind_none y = ap (of_parts (spine y).operand) (sym (append-nil (spine y).brackets))

pub at_end : {r : Bool} (x y : Expr) (q : List Bracket) → q ≡ [] → (r ≡ true ↔ bare_expr x ≡ bare_expr y) → (r ≡ true ↔ spine x ≡ behind y q)
at_end x y q none same =
    let is : spine y ≡ behind y q = behind_none y ∙ ap (behind y) (sym none) in
    (λ h. whole_same (spine x) (spine y) (same.0 h) ∙ is, λ all. same.1 (ap whole (all ∙ sym is)))

post_is : (at : ℕ) (x : Expr) (p : List Bracket) → spine (e.Post at x p) ≡ behind x p
unfolding spine bare_bracket
post_is at x p = search (rules, the_lemmas)

pub post_spine : (at : ℕ) (a x x' : Expr) (p p' : List Bracket) → a ≡ e.Post at x p → x' ≡ x → p' ≡ p → spine a ≡ behind x' p'
post_spine at a x x' p p' is same_x same_p = ap spine is ∙ (post_is at x p ∙ (ap (λ z. behind z p) (sym same_x) ∙ ap (behind x') (sym same_p)))

-- the operand and the brackets of a node are looked at in its place
pub peeled : {r : Bool} (a x y : Expr) (p q : List Bracket) → spine a ≡ behind x p → (r ≡ true ↔ behind x p ≡ behind y q) → (r ≡ true ↔ spine a ≡ behind y q)
peeled a x y p q s same = (λ h. s ∙ same.0 h, λ all. same.1 (sym s ∙ all))

pub node : {r : Bool} (a b y : Expr) (q : List Bracket) → spine b ≡ behind y q → (r ≡ true ↔ spine a ≡ behind y q) → (r ≡ true ↔ bare_expr a ≡ bare_expr b)
node a b y q s same = (λ h. ap whole (same.0 h ∙ sym s), λ all. same.1 (whole_same (spine a) (spine b) all ∙ s))

some_left : (xs : List Bracket) (q : List Bracket) → (q ≡ [] → ⊥) → xs ++ map bare_bracket q ≡ [] → ⊥
some_left [] [] some none = some refl
some_left [] (b ∷ q) some none = absurd cc
some_left (x ∷ xs) q some none = absurd cc

-- nothing stands behind an operand alone
pub alone_differs : (x y : Expr) (q : List Bracket) → NoPost x → (q ≡ [] → ⊥) → (false ≡ true ↔ spine x ≡ behind y q)
alone_differs x y q isnt some =
    (λ h. absurd cc, λ all. absurd (some_left (spine y).brackets q some (ap (λ (s : Spine). s.brackets) (sym all) ∙ no_brackets x isnt)))
