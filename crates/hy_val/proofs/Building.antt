-- The sorts of a list of nodes with one more, and of its front.
use Rattle.std.proofs.Common.{◌≡◌, ℕ, zero, suc, ◌-◌, ◌+◌, ◌<◌, ◌≤◌, true, false, not, List, [], ◌∷◌, ◌++◌, length, take, arith, sym, ◌∙◌, ap, refl, subst, length-append}
use Rattle.std.specs.Prelude.{Option, None, Some, slice_get, IsTrue, IsSome, is_some}
use Rattle.std.specs.Option.{option_map, option_and_then}
use Rattle.hy_val.specs.Exprs.{sort_of_node, sorts_onto, is_empty, is_expr}
use Rattle.hy_val.specs.Building.{sorts_of, sort_at, whole_sort, sort_next, Added}
use Rattle.hy_val.proofs.Tables.{both}
use Rattle.hy_val.proofs.Lists.{slice_get-left, slice_get-seam}
use Rattle.hy_val.specs.declared.sort.Sort.{Sort}
use Rattle.hy_val.specs.declared.expr.ExprNode.{ExprNode}

push_by : (o : Option Sort) (known : List Sort) → option_and_then (λ s. Some (known ++ s ∷ [])) o ≡ option_map (λ s. known ++ s ∷ []) o
push_by None known = refl
push_by (Some s) known = refl

under : (o : Option Sort) (f g : Sort → Option (List Sort)) → ((s : Sort) → f s ≡ g s) → option_and_then f o ≡ option_and_then g o
under None f g same = refl
under (Some s) f g same = same s

nested : (o : Option Sort) (f : Sort → Option (List Sort)) (g : List Sort → Option (List Sort))
    → option_and_then (λ s. option_and_then g (f s)) o ≡ option_and_then g (option_and_then f o)
nested None f g = refl
nested (Some s) f g = refl

pub sorts_onto-push : (known : List Sort) (nodes : List ExprNode) (node : ExprNode)
    → sorts_onto known (nodes ++ node ∷ []) ≡ option_and_then (λ sorts. option_map (λ s. sorts ++ s ∷ []) (sort_of_node sorts node)) (sorts_onto known nodes)
sorts_onto-push known [] node = push_by (sort_of_node known node) known
sorts_onto-push known (first ∷ nodes) node =
    under (sort_of_node known first) (λ s. sorts_onto (known ++ s ∷ []) (nodes ++ node ∷ []))
    (λ s. option_and_then (λ sorts. option_map (λ t. sorts ++ t ∷ []) (sort_of_node sorts node)) (sorts_onto (known ++ s ∷ []) nodes))
    (λ s. sorts_onto-push (known ++ s ∷ []) nodes node)
    ∙ nested (sort_of_node known first) (λ s. sorts_onto (known ++ s ∷ []) nodes) (λ sorts. option_map (λ t. sorts ++ t ∷ []) (sort_of_node sorts node))

pub sorts_push : (nodes : List ExprNode) (node : ExprNode) (sorts : List Sort) (s : Sort) → sorts_of nodes ≡ Some sorts → sort_of_node sorts node ≡ Some s
    → sorts_of (nodes ++ node ∷ []) ≡ Some (sorts ++ s ∷ [])
sorts_push nodes node sorts s known next =
    sorts_onto-push [] nodes node
    ∙ ap (λ (o : Option (List Sort)). option_and_then (λ ss. option_map (λ t. ss ++ t ∷ []) (sort_of_node ss node)) o) known
    ∙ ap (λ (o : Option Sort). option_map (λ t. sorts ++ t ∷ []) o) next

length-sorts_by : (o : Option Sort) (known : List Sort) (nodes : List ExprNode) (sorts : List Sort)
    → ((s : Sort) → sorts_onto (known ++ s ∷ []) nodes ≡ Some sorts → length sorts ≡ length (known ++ s ∷ []) + length nodes)
    → option_and_then (λ s. sorts_onto (known ++ s ∷ []) nodes) o ≡ Some sorts → length sorts ≡ suc (length known + length nodes)
length-sorts_by None known nodes sorts rest h = absurd (let no : None ≡ Some sorts → ⊥ = λ x. cc in no h)
length-sorts_by (Some s) known nodes sorts rest h =
    let more : length (known ++ s ∷ []) ≡ length known + 1 = length-append known (s ∷ []) in
    let all : length sorts ≡ length (known ++ s ∷ []) + length nodes = rest s h in
    omega arith

some_list : (xs ys : List Sort) → Some xs ≡ Some ys → xs ≡ ys
some_list xs ys h = cc

pub length-sorts_onto : (known : List Sort) (nodes : List ExprNode) (sorts : List Sort) → sorts_onto known nodes ≡ Some sorts → length sorts ≡ length known + length nodes
length-sorts_onto known [] sorts h = let same : known ≡ sorts = some_list known sorts h in let count : length known ≡ length sorts = ap length same in omega arith
length-sorts_onto known (node ∷ nodes) sorts h =
    let all : length sorts ≡ suc (length known + length nodes) =
    length-sorts_by (sort_of_node known node) known nodes sorts (λ s k. length-sorts_onto (known ++ s ∷ []) nodes sorts k) h in
    omega arith

pub length-sorts : (nodes : List ExprNode) (sorts : List Sort) → sorts_of nodes ≡ Some sorts → length sorts ≡ length nodes
length-sorts nodes sorts h =
    let all : length sorts ≡ length {A = Sort} [] + length nodes = length-sorts_onto [] nodes sorts h in
    omega arith

-- ---- one node more

pub node_added : (old new : List ExprNode) (node : ExprNode) (n : ℕ) (sorts : List Sort) (s : Sort) → sorts_of old ≡ Some sorts → Some s ≡ sort_of_node sorts node
    → new ≡ old ++ node ∷ [] → n ≡ length old → Added old node new n
node_added old new node n sorts s known next more is =
    let all : sorts_of new ≡ Some (sorts ++ s ∷ []) = ap sorts_of more ∙ sorts_push old node sorts s known (sym next) in
    let count : length sorts ≡ length old = length-sorts old sorts known in
    let would : sort_next old node ≡ Some s = ap (λ (o : Option (List Sort)). option_and_then (λ ss. sort_of_node ss node) o) known ∙ sym next in
    record {
      nodes = more;
      number = is;
      fits = ap is_some would;
      sort =
          ap (λ (o : Option (List Sort)). option_and_then (λ ss. slice_get ss n) o) all
          ∙ ap (λ (m : ℕ). slice_get (sorts ++ s ∷ []) m) (is ∙ sym count) ∙ slice_get-seam sorts s ∙ sym would;
      others = λ k less.
          ap (λ (o : Option (List Sort)). option_and_then (λ ss. slice_get ss k) o) all
          ∙ slice_get-left sorts (s ∷ []) k (omega (arith, less, count)) ∙ sym (ap (λ (o : Option (List Sort)). option_and_then (λ ss. slice_get ss k) o) known);
    }

pub node_refused : (old : List ExprNode) (node : ExprNode) (sorts : List Sort) → sorts_of old ≡ Some sorts → None ≡ sort_of_node sorts node → sort_next old node ≡ None
node_refused old node sorts known next = ap (λ (o : Option (List Sort)). option_and_then (λ ss. sort_of_node ss node) o) known ∙ sym next

-- ---- the front

front_by : (o : Option Sort) (known : List Sort) (nodes : List ExprNode) (n : ℕ)
    → ((s : Sort) → IsSome (sorts_onto (known ++ s ∷ []) nodes) → IsSome (sorts_onto (known ++ s ∷ []) (take n nodes)))
    → IsSome (option_and_then (λ s. sorts_onto (known ++ s ∷ []) nodes) o) → IsSome (option_and_then (λ s. sorts_onto (known ++ s ∷ []) (take n nodes)) o)
front_by None known nodes n rest h = h
front_by (Some s) known nodes n rest h = rest s h

pub front_fits : (n : ℕ) (known : List Sort) (nodes : List ExprNode) → IsSome (sorts_onto known nodes) → IsSome (sorts_onto known (take n nodes))
front_fits zero known nodes h = refl
front_fits (suc n) known [] h = refl
front_fits (suc n) known (node ∷ nodes) h = front_by (sort_of_node known node) known nodes n (λ s k. front_fits n (known ++ s ∷ []) nodes k) h

front_some : (n : ℕ) (nodes : List ExprNode) → n < length nodes → not (is_empty (take (suc n) nodes)) ≡ true
front_some n [] h = absurd (omega (arith, h))
front_some n (node ∷ nodes) h = refl

pub front_is_expr : (nodes : List ExprNode) (sorts : List Sort) (n m : ℕ) → sorts_of nodes ≡ Some sorts → n < length nodes → m ≡ suc n → IsTrue (is_expr (take m nodes))
front_is_expr nodes sorts n m known less is =
    subst (λ (k : ℕ). IsTrue (is_expr (take k nodes))) (sym is)
    (both (not (is_empty (take (suc n) nodes))) (is_some (sorts_onto [] (take (suc n) nodes)))
    (front_some n nodes less) (front_fits (suc n) [] nodes (ap is_some known)))

-- what is known stays in front
front_known_by : (o : Option Sort) (known : List Sort) (nodes : List ExprNode) (sorts : List Sort) (k : ℕ) → k < length known
    → ((s : Sort) → sorts_onto (known ++ s ∷ []) nodes ≡ Some sorts → slice_get sorts k ≡ slice_get (known ++ s ∷ []) k)
    → option_and_then (λ s. sorts_onto (known ++ s ∷ []) nodes) o ≡ Some sorts → slice_get sorts k ≡ slice_get known k
front_known_by None known nodes sorts k less rest h = absurd (let no : None ≡ Some sorts → ⊥ = λ x. cc in no h)
front_known_by (Some s) known nodes sorts k less rest h = rest s h ∙ slice_get-left known (s ∷ []) k less

front_known : (known : List Sort) (nodes : List ExprNode) (sorts : List Sort) (k : ℕ) → sorts_onto known nodes ≡ Some sorts → k < length known → slice_get sorts k ≡ slice_get known k
front_known known [] sorts k h less = ap (λ ss. slice_get ss k) (sym (some_list known sorts h))
front_known known (node ∷ nodes) sorts k h less =
    front_known_by (sort_of_node known node) known nodes sorts k less
    (λ s next. let more : length (known ++ s ∷ []) ≡ length known + 1 = length-append known (s ∷ []) in
    front_known (known ++ s ∷ []) nodes sorts k next (omega (arith, less, more))) h

front_sort_by : (o : Option Sort) (m : ℕ) (known : List Sort) (nodes : List ExprNode) (sorts fronts : List Sort) (k : ℕ)
    → ((s : Sort) → sorts_onto (known ++ s ∷ []) nodes ≡ Some sorts → sorts_onto (known ++ s ∷ []) (take m nodes) ≡ Some fronts → slice_get fronts k ≡ slice_get sorts k)
    → option_and_then (λ s. sorts_onto (known ++ s ∷ []) nodes) o ≡ Some sorts
    → option_and_then (λ s. sorts_onto (known ++ s ∷ []) (take m nodes)) o ≡ Some fronts → slice_get fronts k ≡ slice_get sorts k
front_sort_by None m known nodes sorts fronts k rest h f = absurd (let no : None ≡ Some sorts → ⊥ = λ x. cc in no h)
front_sort_by (Some s) m known nodes sorts fronts k rest h f = rest s h f

front_sort : (m : ℕ) (known : List Sort) (nodes : List ExprNode) (sorts fronts : List Sort) (k : ℕ) → sorts_onto known nodes ≡ Some sorts
    → sorts_onto known (take m nodes) ≡ Some fronts → k < length fronts → slice_get fronts k ≡ slice_get sorts k
front_sort zero known nodes sorts fronts k h f less =
    let same : known ≡ fronts = some_list known fronts f in
    let within : k < length known = subst (λ ss. k < length ss) (sym same) less in
    ap (λ ss. slice_get ss k) (sym same) ∙ sym (front_known known nodes sorts k h within)
front_sort (suc m) known [] sorts fronts k h f less = ap (λ ss. slice_get ss k) (some_list fronts sorts (sym f ∙ h))
front_sort (suc m) known (node ∷ nodes) sorts fronts k h f less =
    front_sort_by (sort_of_node known node) m known nodes sorts fronts k (λ s g e. front_sort m (known ++ s ∷ []) nodes sorts fronts k g e less) h f

whole_place : (nodes : List ExprNode) (m : ℕ) → m ≤ length nodes → length (take m nodes) ≡ m
whole_place nodes zero le = refl
whole_place [] (suc m) le = absurd (omega (arith, le))
whole_place (node ∷ nodes) (suc m) le = ap suc (whole_place nodes m (omega (arith, le)))

sort_in_front_by : (o : Option (List Sort)) (nodes : List ExprNode) (sorts : List Sort) (n m : ℕ) → sorts_of (take m nodes) ≡ o → IsSome o → sorts_of nodes ≡ Some sorts
    → n < length nodes → m ≡ suc n → sort_at (take m nodes) n ≡ sort_at nodes n
sort_in_front_by None nodes sorts n m is h known less next = absurd (let no : false ≡ true → ⊥ = λ x. cc in no h)
sort_in_front_by (Some fronts) nodes sorts n m is h known less next =
    let count : length fronts ≡ length (take m nodes) = length-sorts (take m nodes) fronts is in
    let all : length (take m nodes) ≡ m = whole_place nodes m (omega (arith, less, next)) in
    let within : n < length fronts = omega arith in
    ap (λ (o : Option (List Sort)). option_and_then (λ ss. slice_get ss n) o) is
    ∙ front_sort m [] nodes sorts fronts n known is within
    ∙ sym (ap (λ (o : Option (List Sort)). option_and_then (λ ss. slice_get ss n) o) known)

-- the whole of the front has its node's sort
pub front_whole_sort : (nodes : List ExprNode) (sorts : List Sort) (n m : ℕ) → sorts_of nodes ≡ Some sorts → n < length nodes → m ≡ suc n
    → whole_sort (take m nodes) ≡ sort_at nodes n
front_whole_sort nodes sorts n m known less next =
    let place : length (take m nodes) ≡ m = whole_place nodes m (omega (arith, less, next)) in
    let last : length (take m nodes) - 1 ≡ n = omega arith in
    ap (λ (k : ℕ). sort_at (take m nodes) k) last
    ∙ sort_in_front_by (sorts_of (take m nodes)) nodes sorts n m refl (front_fits m [] nodes (ap is_some known)) known less next
