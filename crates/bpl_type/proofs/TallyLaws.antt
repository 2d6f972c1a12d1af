-- What is added to a tally, step by step.
use Rattle.std.proofs.Common.{◌≡◌, ℕ, zero, suc, ◌+◌, ◌*◌, ◌<◌, ◌≤◌, List, [], ◌∷◌, ◌++◌, ◌-◌, length, map, drop, set, take, get_or, Some, Result, Ok, Err, refl, sym, ◌∙◌, ap, subst, arith, min, take_all}
use Rattle.std.proofs.lemmas.List.{map-append, take_more, length-take-le}
use Rattle.std.specs.List.{slice_get, slice_index_or}
use Rattle.std.specs.Result.{OnOk}
use Rattle.bpl_ast.specs.declared.expr.Bracket.{Bracket}
use Rattle.bpl_ast.specs.declared.expr.Bracket.TheVariants as brackets
use Rattle.bpl_ast.specs.declared.expr.Expr.{Expr}
use Rattle.bpl_ast.specs.declared.expr.Expr.TheVariants as e
use Rattle.bpl_ast.specs.declared.name.Name.{Name}
use Rattle.hy_val.specs.declared.operator.BvOp.{BvOp}
use Rattle.hy_val.specs.declared.operator.UnOp.{UnOp}
use Rattle.bpl_type.specs.declared.count.Counting.{Counting}
use Rattle.bpl_type.specs.declared.count.Tally.{Tally}
use Rattle.type_pass.specs.declared.tables.Builtin.{Builtin}
use Rattle.type_pass.specs.declared.tables.Builtin.TheVariants.{Unary, Binary}
use Rattle.bpl_type.specs.Counts.{Counted, affine_at, sloped}
use Rattle.type_pass.specs.Scopes.{function_named}
use Rattle.bpl_type.specs.Tallies.{Adds, templates_of, weight_in, bracket_weight_in, weights_in, use_weight_in}
use Rattle.bpl_type.specs.Weights.{Weight, Templates, all_weights, rest_weight, chain_weight, argument_weight, operand_weight, operated_weight, used_weight}
use Rattle.bpl_type.proofs.CountLaws.{counted-none, counted-same, counted-then, counted-slope, counted-room, counted-local}
use Rattle.bpl_type.proofs.WeightEquations.{weight-apply, weight-post, weight-not, weight-concat, weight-equal, weight-not_equal, weight-and, weight-or, weight-implies, weight-implied_by, weight-equivalent, weight-choice, weight-select, weight-store}

-- the same number in another form
pub same-ok : {T E : Type 0} (r : Result T E) (c : Counting) (w : ℕ) (f g : Weight) (old new : Tally) → ((v : ℕ → ℕ) → f v ≡ g v) → OnOk r (Adds c w f old new) → OnOk r (Adds c w g old new)
same-ok (Err e) c w f g old new same h = tt
same-ok (Ok u) c w f g old new same h = counted-same c.most c.whole old.base old.slopes new.base new.slopes w f g same h

pub same-adds : (c : Counting) (w : ℕ) (f g : Weight) (old new : Tally) → ((v : ℕ → ℕ) → f v ≡ g v) → Adds c w f old new → Adds c w g old new
same-adds c w f g old new same h = counted-same c.most c.whole old.base old.slopes new.base new.slopes w f g same h

pub then-adds : (c : Counting) (w : ℕ) (f g : Weight) (old mid new : Tally) → Adds c w f old mid → Adds c w g mid new → Adds c w (λ v. f v + g v) old new
then-adds c w f g old mid new h k = counted-then c.most c.whole old.base old.slopes mid.base mid.slopes new.base new.slopes w f g h k

-- one number and then another one
pub then-ok : {T E : Type 0} (r : Result T E) (c : Counting) (w : ℕ) (f g h : Weight) (old mid new : Tally) → ((v : ℕ → ℕ) → f v + g v ≡ h v) → Adds c w f old mid → OnOk r (Adds c w g mid new) → OnOk r (Adds c w h old new)
then-ok (Err e) c w f g h old mid new same one two = tt
then-ok (Ok u) c w f g h old mid new same one two = same-adds c w (λ v. f v + g v) h old new same (then-adds c w f g old mid new one two)

pub three-ok : {T E : Type 0} (r : Result T E) (c : Counting) (w : ℕ) (f g h k : Weight) (old mid next new : Tally) → ((v : ℕ → ℕ) → f v + g v + h v ≡ k v)
    → Adds c w f old mid → Adds c w g mid next → OnOk r (Adds c w h next new) → OnOk r (Adds c w k old new)
three-ok r c w f g h k old mid next new same one two three = then-ok r c w (λ v. f v + g v) h k old next new same (then-adds c w f g old mid next one two) three

pub four-ok : {T E : Type 0} (r : Result T E) (c : Counting) (w : ℕ) (f g h k m : Weight) (old mid next later new : Tally) → ((v : ℕ → ℕ) → f v + g v + h v + k v ≡ m v)
    → Adds c w f old mid → Adds c w g mid next → Adds c w h next later → OnOk r (Adds c w k later new) → OnOk r (Adds c w m old new)
four-ok r c w f g h k m old mid next later new same one two three four = then-ok r c w (λ v. f v + g v + h v) k m old later new same (then-adds c w (λ v. f v + g v) h old next later (then-adds c w f g old mid next one two) three) four

-- ---- the nodes of an expression

-- an operand and a node
pub one-arm : {T E : Type 0} (r : Result T E) (c : Counting) (w : ℕ) (x whole left l1 : Expr) (old mid new : Tally) → x ≡ whole → l1 ≡ left
    → ((v : ℕ → ℕ) → weight_in c whole v ≡ weight_in c left v + 1)
    → Adds c w (weight_in c l1) old mid → OnOk r (Adds c w (λ v. 1) mid new) → OnOk r (Adds c w (weight_in c x) old new)
one-arm r c w x whole left l1 old mid new is first same one two =
    then-ok r c w (weight_in c l1) (λ v. 1) (weight_in c x) old mid new (λ v. ap (λ y. weight_in c y v + 1) first ∙ sym (same v) ∙ ap (λ y. weight_in c y v) (sym is)) one two

-- two operands and a node
pub two-arm : {T E : Type 0} (r : Result T E) (c : Counting) (w : ℕ) (x whole left right l1 r1 : Expr) (old mid next new : Tally) → x ≡ whole → l1 ≡ left → r1 ≡ right
    → ((v : ℕ → ℕ) → weight_in c whole v ≡ weight_in c left v + weight_in c right v + 1)
    → Adds c w (weight_in c l1) old mid → Adds c w (weight_in c r1) mid next → OnOk r (Adds c w (λ v. 1) next new) → OnOk r (Adds c w (weight_in c x) old new)
two-arm r c w x whole left right l1 r1 old mid next new is first second same one two three =
    three-ok r c w (weight_in c l1) (weight_in c r1) (λ v. 1) (weight_in c x) old mid next new
    (λ v. ap (λ y. weight_in c y v + weight_in c r1 v + 1) first ∙ ap (λ y. weight_in c left v + weight_in c y v + 1) second ∙ sym (same v) ∙ ap (λ y. weight_in c y v) (sym is)) one two three

-- three operands and a node
pub three-arm : {T E : Type 0} (r : Result T E) (c : Counting) (w : ℕ) (x whole left right last l1 r1 s1 : Expr) (old mid next later new : Tally) → x ≡ whole → l1 ≡ left → r1 ≡ right → s1 ≡ last
    → ((v : ℕ → ℕ) → weight_in c whole v ≡ weight_in c left v + weight_in c right v + weight_in c last v + 1)
    → Adds c w (weight_in c l1) old mid → Adds c w (weight_in c r1) mid next → Adds c w (weight_in c s1) next later → OnOk r (Adds c w (λ v. 1) later new) → OnOk r (Adds c w (weight_in c x) old new)
three-arm r c w x whole left right last l1 r1 s1 old mid next later new is first second third same one two three four =
    four-ok r c w (weight_in c l1) (weight_in c r1) (weight_in c s1) (λ v. 1) (weight_in c x) old mid next later new
    (λ v. ap (λ y. weight_in c y v + weight_in c r1 v + weight_in c s1 v + 1) first ∙ ap (λ y. weight_in c left v + weight_in c y v + weight_in c s1 v + 1) second
    ∙ ap (λ y. weight_in c left v + weight_in c right v + weight_in c y v + 1) third ∙ sym (same v) ∙ ap (λ y. weight_in c y v) (sym is)) one two three four

-- an operand and brackets
pub post-arm : {T E : Type 0} (r : Result T E) (c : Counting) (w : ℕ) (x whole left l1 : Expr) (bs bs1 : List Bracket) (old mid new : Tally) → x ≡ whole → l1 ≡ left → bs1 ≡ bs
    → ((v : ℕ → ℕ) → weight_in c whole v ≡ weight_in c left v + all_weights (map (bracket_weight_in c) bs) v)
    → Adds c w (weight_in c l1) old mid → OnOk r (Adds c w (all_weights (map (bracket_weight_in c) bs1)) mid new) → OnOk r (Adds c w (weight_in c x) old new)
post-arm r c w x whole left l1 bs bs1 old mid new is first second same one two =
    then-ok r c w (weight_in c l1) (all_weights (map (bracket_weight_in c) bs1)) (weight_in c x) old mid new
    (λ v. ap (λ y. weight_in c y v + all_weights (map (bracket_weight_in c) bs1) v) first ∙ ap (λ ys. weight_in c left v + all_weights (map (bracket_weight_in c) ys) v) second
    ∙ sym (same v) ∙ ap (λ y. weight_in c y v) (sym is)) one two

-- one step whose number is that of the whole
pub whole-arm : {T E : Type 0} (r : Result T E) (c : Counting) (w : ℕ) (x whole : Expr) (f : Weight) (old new : Tally) → x ≡ whole → ((v : ℕ → ℕ) → weight_in c whole v ≡ f v)
    → OnOk r (Adds c w f old new) → OnOk r (Adds c w (weight_in c x) old new)
whole-arm r c w x whole f old new is same h = same-ok r c w f (weight_in c x) old new (λ v. sym (same v) ∙ ap (λ y. weight_in c y v) (sym is)) h

-- ---- lists

pub mapped-more : {A B : Type 0} (f : A → B) (xs : List A) (i : ℕ) (x : A) → i < length xs → x ≡ get_or xs i x → map f (take (i + 1) xs) ≡ map f (take i xs) ++ f x ∷ []
mapped-more f xs i x less at =
    ap (map f) (take_more xs i x less) ∙ map-append f (take i xs) (get_or xs i x ∷ []) ∙ ap (λ y. map f (take i xs) ++ f y ∷ []) (sym at)

rest-push : (ws : List Weight) (w : Weight) (v : ℕ → ℕ) → rest_weight ws v + w v + 1 ≡ rest_weight (ws ++ w ∷ []) v
rest-push [] w v = omega arith
rest-push (x ∷ xs) w v = let e : rest_weight xs v + w v + 1 ≡ rest_weight (xs ++ w ∷ []) v = rest-push xs w v in omega (arith, e)

all-push : (ws : List Weight) (w : Weight) (v : ℕ → ℕ) → all_weights ws v + w v ≡ all_weights (ws ++ w ∷ []) v
all-push [] w v = omega arith
all-push (x ∷ xs) w v = let e : all_weights xs v + w v ≡ all_weights (xs ++ w ∷ []) v = all-push xs w v in omega (arith, e)

rest-step : (c : Counting) (w : ℕ) (xs : List Expr) (i : ℕ) (x : Expr) (old mid next new : Tally) → i < length xs → x ≡ get_or xs i x
    → Adds c w (rest_weight (map (weight_in c) (take i xs))) old mid → Adds c w (weight_in c x) mid next → Adds c w (λ v. 1) next new
    → Adds c w (rest_weight (map (weight_in c) (take (i + 1) xs))) old new
rest-step c w xs i x old mid next new less at so_far one node =
    same-adds c w (λ v. rest_weight (map (weight_in c) (take i xs)) v + weight_in c x v + 1) (rest_weight (map (weight_in c) (take (i + 1) xs))) old new
    (λ v. rest-push (map (weight_in c) (take i xs)) (weight_in c x) v ∙ ap (λ ws. rest_weight ws v) (sym (mapped-more (weight_in c) xs i x less at)))
    (then-adds c w (λ v. rest_weight (map (weight_in c) (take i xs)) v + weight_in c x v) (λ v. 1) old next new
    (then-adds c w (rest_weight (map (weight_in c) (take i xs))) (weight_in c x) old mid next so_far one) node)

-- one more of the operands after the first
pub rest-turn : (c : Counting) (w : ℕ) (xs : List Expr) (i : ℕ) (x : Expr) (old mid next new : Tally) → 1 ≤ i → i < length xs → x ≡ get_or xs i x
    → Adds c w (rest_weight (map (weight_in c) (take (i - 1) (drop 1 xs)))) old mid → Adds c w (weight_in c x) mid next → Adds c w (λ v. 1) next new
    → Adds c w (rest_weight (map (weight_in c) (take (i + 1 - 1) (drop 1 xs)))) old new
rest-turn c w [] i x old mid next new from less at so_far one node = absurd (omega arith)
rest-turn c w (y ∷ ys) zero x old mid next new from less at so_far one node = absurd (omega arith)
rest-turn c w (y ∷ ys) (suc k) x old mid next new from less at so_far one node =
    let below : k < length ys = omega arith in
    let before : suc k - 1 ≡ k = omega arith in
    let after : suc k + 1 - 1 ≡ k + 1 = omega arith in
    subst (λ n. Adds c w (rest_weight (map (weight_in c) (take n ys))) old new) (sym after)
    (rest-step c w ys k x old mid next new below at (subst (λ n. Adds c w (rest_weight (map (weight_in c) (take n ys))) old mid) before so_far) one node)

-- all operands after the first
pub rest-end : (c : Counting) (w : ℕ) (xs : List Expr) (i : ℕ) (old new : Tally) → length xs ≤ i
    → Adds c w (rest_weight (map (weight_in c) (take (i - 1) (drop 1 xs)))) old new → Adds c w (rest_weight (map (weight_in c) (drop 1 xs))) old new
rest-end c w [] i old new past h = subst (λ ys. Adds c w (rest_weight (map (weight_in c) ys)) old new) (take_all (i - 1) [] (omega arith)) h
rest-end c w (y ∷ ys) i old new past h =
    let long : length ys ≤ i - 1 = omega arith in
    subst (λ zs. Adds c w (rest_weight (map (weight_in c) zs)) old new) (take_all (i - 1) ys long) h

-- the first operand, and the others
pub chain-arm : {T E : Type 0} (r : Result T E) (c : Counting) (w : ℕ) (xs : List Expr) (x : Expr) (old mid new : Tally) → 0 < length xs → x ≡ get_or xs 0 x
    → Adds c w (weight_in c x) old mid → OnOk r (Adds c w (rest_weight (map (weight_in c) (drop 1 xs))) mid new) → OnOk r (Adds c w (chain_weight (map (weight_in c) xs)) old new)
chain-arm r c w [] x old mid new some at one two = absurd (omega arith)
chain-arm r c w (y ∷ ys) x old mid new some at one two =
    then-ok r c w (weight_in c x) (rest_weight (map (weight_in c) ys)) (chain_weight (map (weight_in c) (y ∷ ys))) old mid new (λ v. ap (λ z. weight_in c z v + rest_weight (map (weight_in c) ys) v) at) one two

pub brackets-turn : (c : Counting) (w : ℕ) (xs : List Bracket) (i : ℕ) (x : Bracket) (old mid new : Tally) → i < length xs → x ≡ get_or xs i x
    → Adds c w (all_weights (map (bracket_weight_in c) (take i xs))) old mid → Adds c w (bracket_weight_in c x) mid new
    → Adds c w (all_weights (map (bracket_weight_in c) (take (i + 1) xs))) old new
brackets-turn c w xs i x old mid new less at so_far one =
    same-adds c w (λ v. all_weights (map (bracket_weight_in c) (take i xs)) v + bracket_weight_in c x v) (all_weights (map (bracket_weight_in c) (take (i + 1) xs))) old new
    (λ v. all-push (map (bracket_weight_in c) (take i xs)) (bracket_weight_in c x) v ∙ ap (λ ws. all_weights ws v) (sym (mapped-more (bracket_weight_in c) xs i x less at)))
    (then-adds c w (all_weights (map (bracket_weight_in c) (take i xs))) (bracket_weight_in c x) old mid new so_far one)

-- nothing yet
pub none-yet : (c : Counting) (w : ℕ) (f : Weight) (old : Tally) → ((v : ℕ → ℕ) → 0 ≡ f v) → Adds c w f old old
none-yet c w f old none = same-adds c w (λ v. 0) f old old none (counted-none c.most c.whole old.base old.slopes w)

-- one slope more
pub body-turn : (c : Counting) (w : ℕ) (base : ℕ) (slopes : List ℕ) (xs : List Expr) (i slope part : ℕ) (old mid new : Tally) → i < length slopes → slope ≡ get_or slopes i 0 → part ≡ min (w * slope) c.most
    → Adds c w (λ v. affine_at base (take i slopes) (argument_weight v (weights_in c xs v))) old mid
    → Adds c part (λ v. argument_weight v (weights_in c xs v) i) mid new
    → Adds c w (λ v. affine_at base (take (i + 1) slopes) (argument_weight v (weights_in c xs v))) old new
body-turn c w base slopes xs i slope part old mid new less at is so_far one =
    let arguments = λ (v : ℕ → ℕ). argument_weight v (weights_in c xs v) in
    let long : length (take i slopes) ≡ i = length-take-le i slopes (omega (arith, less)) in
    let more : take (i + 1) slopes ≡ take i slopes ++ slope ∷ [] = take_more slopes i 0 less ∙ ap (λ k. take i slopes ++ k ∷ []) (sym at) in
    same-adds c w (λ v. affine_at base (take i slopes ++ slope ∷ []) (arguments v)) (λ v. affine_at base (take (i + 1) slopes) (arguments v)) old new
    (λ v. ap (λ ks. affine_at base ks (arguments v)) (sym more))
    (counted-slope c.most c.whole old.base old.slopes mid.base mid.slopes new.base new.slopes w base (take i slopes) slope arguments so_far
    (same-adds c (min (w * slope) c.most) (λ v. arguments v i) (λ v. arguments v (length (take i slopes))) mid new (λ v. ap (arguments v) (sym long))
    (subst (λ k. Adds c k (λ v. arguments v i) mid new) is one)))

-- ---- locals

get-at : (xs : List ℕ) (n : ℕ) → n < length xs → slice_get xs n ≡ Some (slice_index_or xs n 0)
get-at [] n h = absurd (omega arith)
get-at (x ∷ xs) zero h = refl
get-at (x ∷ xs) (suc n) h = get-at xs n (omega arith)

-- the slope of a local is raised
pub raised : (c : Counting) (w n base slope sum : ℕ) (slopes room view new : List ℕ) → ((i : ℕ) (v : ℕ → ℕ) → sloped room i v ≡ sloped slopes i v) → n < length room
    → view ≡ room → slope ≡ slice_index_or view n 0 → sum ≡ min (slope + w) c.most → new ≡ set room n sum → Counted c.most c.whole base slopes base new w (λ v. v n)
raised c w n base slope sum slopes room view new same less viewed at total written =
    let here : slice_get room n ≡ Some slope = get-at room n less ∙ ap Some (sym (at ∙ ap (λ xs. slice_index_or xs n 0) viewed)) in
    counted-room c.most c.whole base slopes room base new w (λ v. v n) same
    (subst (λ ks. Counted c.most c.whole base room base ks w (λ v. v n)) (sym (written ∙ ap (λ k. set room n k) total)) (counted-local c.most c.whole base room w n slope here))

-- ---- the numbers of nodes, by their kinds

module _ (c : Counting) where
  abbrev m : Templates
  m = templates_of c.known.now c.templates.now

  mapped-weights : (xs : List Expr) (v : ℕ → ℕ) → map (λ (w : Weight). w v) (map (weight_in c) xs) ≡ weights_in c xs v
  mapped-weights [] v = refl
  mapped-weights (x ∷ xs) v = ap (λ ys. weight_in c x v ∷ ys) (mapped-weights xs v)

  pub of-apply : (g : Name) (xs : List Expr) (v : ℕ → ℕ) → weight_in c (e.Apply g xs) v ≡ use_weight_in c g.text xs v
  of-apply g xs v = ap (λ f. f v) (weight-apply m c.known.now c.scope.now g xs) ∙ ap (used_weight (function_named c.known.now g.text) (m g.text) v) (mapped-weights xs v)

  pub of-post : (at : ℕ) (x : Expr) (bs : List Bracket) (v : ℕ → ℕ) → weight_in c (e.Post at x bs) v ≡ weight_in c x v + all_weights (map (bracket_weight_in c) bs) v
  of-post at x bs v = ap (λ f. f v) (weight-post m c.known.now c.scope.now at x bs)

  pub of-not : (at : ℕ) (x : Expr) (v : ℕ → ℕ) → weight_in c (e.Not at x) v ≡ weight_in c x v + 1
  of-not at x v = ap (λ f. f v) (weight-not m c.known.now c.scope.now at x)

  pub of-equal : (at : ℕ) (x y : Expr) (v : ℕ → ℕ) → weight_in c (e.Equal at x y) v ≡ weight_in c x v + weight_in c y v + 1
  of-equal at x y v = ap (λ f. f v) (weight-equal m c.known.now c.scope.now at x y)

  pub of-not_equal : (at : ℕ) (x y : Expr) (v : ℕ → ℕ) → weight_in c (e.NotEqual at x y) v ≡ weight_in c x v + weight_in c y v + 1
  of-not_equal at x y v = ap (λ f. f v) (weight-not_equal m c.known.now c.scope.now at x y)

  pub of-implies : (at : ℕ) (x y : Expr) (v : ℕ → ℕ) → weight_in c (e.Implies at x y) v ≡ weight_in c x v + weight_in c y v + 1
  of-implies at x y v = ap (λ f. f v) (weight-implies m c.known.now c.scope.now at x y)

  pub of-choice : (at : ℕ) (x y z : Expr) (v : ℕ → ℕ) → weight_in c (e.Choice at x y z) v ≡ weight_in c x v + weight_in c y v + weight_in c z v + 1
  of-choice at x y z v = ap (λ f. f v) (weight-choice m c.known.now c.scope.now at x y z)

  pub of-concat : (at : ℕ) (xs : List Expr) (v : ℕ → ℕ) → weight_in c (e.Concat at xs) v ≡ chain_weight (map (weight_in c) xs) v
  of-concat at xs v = ap (λ f. f v) (weight-concat m c.known.now c.scope.now at xs)

  pub of-and : (at : ℕ) (xs : List Expr) (v : ℕ → ℕ) → weight_in c (e.And at xs) v ≡ chain_weight (map (weight_in c) xs) v
  of-and at xs v = ap (λ f. f v) (weight-and m c.known.now c.scope.now at xs)

  pub of-or : (at : ℕ) (xs : List Expr) (v : ℕ → ℕ) → weight_in c (e.Or at xs) v ≡ chain_weight (map (weight_in c) xs) v
  of-or at xs v = ap (λ f. f v) (weight-or m c.known.now c.scope.now at xs)

  pub of-implied_by : (at : ℕ) (xs : List Expr) (v : ℕ → ℕ) → weight_in c (e.ImpliedBy at xs) v ≡ chain_weight (map (weight_in c) xs) v
  of-implied_by at xs v = ap (λ f. f v) (weight-implied_by m c.known.now c.scope.now at xs)

  pub of-equivalent : (at : ℕ) (xs : List Expr) (v : ℕ → ℕ) → weight_in c (e.Equivalent at xs) v ≡ chain_weight (map (weight_in c) xs) v
  of-equivalent at xs v = ap (λ f. f v) (weight-equivalent m c.known.now c.scope.now at xs)

-- a whole whose operands stand in a list
pub list-arm : {T E : Type 0} (r : Result T E) (c : Counting) (w : ℕ) (x whole : Expr) (xs ys : List Expr) (old new : Tally) → x ≡ whole → ys ≡ xs
    → ((v : ℕ → ℕ) → weight_in c whole v ≡ chain_weight (map (weight_in c) xs) v)
    → OnOk r (Adds c w (chain_weight (map (weight_in c) ys)) old new) → OnOk r (Adds c w (weight_in c x) old new)
list-arm r c w x whole xs ys old new is same kind h =
    whole-arm r c w x whole (chain_weight (map (weight_in c) ys)) old new is (λ v. kind v ∙ ap (λ zs. chain_weight (map (weight_in c) zs) v) (sym same)) h

pub use-arm : {T E : Type 0} (r : Result T E) (c : Counting) (w : ℕ) (x : Expr) (g : Name) (xs ys : List Expr) (old new : Tally) → x ≡ e.Apply g xs → ys ≡ xs
    → OnOk r (Adds c w (use_weight_in c g.text ys) old new) → OnOk r (Adds c w (weight_in c x) old new)
use-arm r c w x g xs ys old new is same h =
    whole-arm r c w x (e.Apply g xs) (use_weight_in c g.text ys) old new is (λ v. of-apply c g xs v ∙ ap (λ zs. use_weight_in c g.text zs v) (sym same)) h

-- ---- brackets

pub select-arm : {T E : Type 0} (r : Result T E) (c : Counting) (w : ℕ) (b : Bracket) (x : Expr) (old mid new : Tally) → b ≡ brackets.Select x
    → Adds c w (weight_in c x) old mid → OnOk r (Adds c w (λ v. 1) mid new) → OnOk r (Adds c w (bracket_weight_in c b) old new)
select-arm r c w b x old mid new is one two =
    then-ok r c w (weight_in c x) (λ v. 1) (bracket_weight_in c b) old mid new
    (λ v. sym (ap (λ f. f v) (weight-select (m c) c.known.now c.scope.now x)) ∙ ap (λ y. bracket_weight_in c y v) (sym is)) one two

pub store-arm : {T E : Type 0} (r : Result T E) (c : Counting) (w : ℕ) (b : Bracket) (x y : Expr) (old mid next new : Tally) → b ≡ brackets.Store x y
    → Adds c w (weight_in c x) old mid → Adds c w (weight_in c y) mid next → OnOk r (Adds c w (λ v. 1) next new) → OnOk r (Adds c w (bracket_weight_in c b) old new)
store-arm r c w b x y old mid next new is one two three =
    three-ok r c w (weight_in c x) (weight_in c y) (λ v. 1) (bracket_weight_in c b) old mid next new
    (λ v. sym (ap (λ f. f v) (weight-store (m c) c.known.now c.scope.now x y)) ∙ ap (λ z. bracket_weight_in c z v) (sym is)) one two three

-- ---- operators

pub unary-arm : {T E : Type 0} (r : Result T E) (c : Counting) (w : ℕ) (b : Builtin) (op : UnOp) (xs : List Expr) (old mid new : Tally) → b ≡ Unary op
    → Adds c w (λ v. operand_weight (weights_in c xs v) 0) old mid → OnOk r (Adds c w (λ v. 1) mid new) → OnOk r (Adds c w (λ v. operated_weight b (weights_in c xs v)) old new)
unary-arm r c w b op xs old mid new is one two =
    then-ok r c w (λ v. operand_weight (weights_in c xs v) 0) (λ v. 1) (λ v. operated_weight b (weights_in c xs v)) old mid new (λ v. ap (λ k. operated_weight k (weights_in c xs v)) (sym is)) one two

pub binary-arm : {T E : Type 0} (r : Result T E) (c : Counting) (w : ℕ) (b : Builtin) (op : BvOp) (xs : List Expr) (old mid next new : Tally) → b ≡ Binary op
    → Adds c w (λ v. operand_weight (weights_in c xs v) 0) old mid → Adds c w (λ v. operand_weight (weights_in c xs v) 1) mid next → OnOk r (Adds c w (λ v. 1) next new)
    → OnOk r (Adds c w (λ v. operated_weight b (weights_in c xs v)) old new)
binary-arm r c w b op xs old mid next new is one two three =
    three-ok r c w (λ v. operand_weight (weights_in c xs v) 0) (λ v. operand_weight (weights_in c xs v) 1) (λ v. 1) (λ v. operated_weight b (weights_in c xs v)) old mid next new
    (λ v. ap (λ k. operated_weight k (weights_in c xs v)) (sym is)) one two three
