-- The graph of uses, piece by piece.
use Rattle.std.proofs.Common.{◌≡◌, ℕ, suc, ◌<◌, true, List, [], ◌∷◌, ◌++◌, length, map, Option, None, Some, Result, Ok, Err, Bor, refl, sym, ◌∙◌, ap, append_assoc, arith, true≢false}
use Rattle.std.proofs.lemmas.Option.{slice_get-map}
use Rattle.std.specs.Prelude.{flat_map, filter_map, slice_get, unwrap_or, option_map, option_to_list}
use Rattle.std.specs.List.{cons_option}
use Rattle.std.specs.Result.{IfOk, OnOk}
use Rattle.std.specs.Str.{bytes_eq}
use Rattle.bpl_ast.specs.declared.decl.Ast.{Ast}
use Rattle.bpl_ast.specs.declared.decl.Decl.{Decl}
use Rattle.bpl_ast.specs.declared.decl.Function.{Function}
use Rattle.bpl_ast.specs.declared.expr.Bracket.{Bracket}
use Rattle.bpl_ast.specs.declared.expr.Expr.{Expr}
use Rattle.bpl_ast.specs.declared.expr.Expr.TheVariants as e
use Rattle.bpl_ast.specs.declared.name.Name.{Name}
use Rattle.type_pass.specs.declared.fault.TypeFault.{TypeFault}
use Rattle.type_pass.specs.Circles.{IsClosed}
use Rattle.type_pass.specs.Declarations.{function_of, functions}
use Rattle.type_pass.specs.Faults.{first}
use Rattle.type_pass.specs.Graphs.{Graph, edges}
use Rattle.type_pass.specs.Memos.{number_among}
use Rattle.type_pass.specs.Orders.{is_in}
use Rattle.type_pass.specs.Passes.{uses, all_uses, uses_if, use_graph, function_number, cyclic_names, circle_faults}
use Rattle.type_pass.specs.Uses.{in_bracket, used_numbers}
use Rattle.type_pass.proofs.NumberLaws.{filter_map-append, position-map, position-within}
use Rattle.type_pass.proofs.SpaceLaws.{nil-append}
use Rattle.type_pass.proofs.TableLaws.{map-flat}
use Rattle.type_pass.proofs.TypeLaws.{numbers-within}
use Rattle.type_pass.proofs.UseEquations.{uses-true, uses-false, uses-literal, uses-variable, uses-apply, uses-post, uses-not, uses-concat, uses-equal, uses-not_equal, uses-and, uses-or, uses-implies, uses-implied_by, uses-equivalent, uses-choice, uses-select, uses-store, uses-extract}

all-numbers : {X : Type 0} (num : List ℕ → Option ℕ) (f : X → List (List ℕ)) (xs : List X) → filter_map num (all_uses (map f xs)) ≡ flat_map (λ x. filter_map num (f x)) xs
all-numbers num f [] = refl
all-numbers num f (x ∷ xs) = filter_map-append num (f x) (all_uses (map f xs)) ∙ ap (λ ys. filter_map num (f x) ++ ys) (all-numbers num f xs)

pub all-exprs : (num : List ℕ → Option ℕ) (xs : List Expr) → filter_map num (all_uses (map uses xs)) ≡ flat_map (λ x. filter_map num (uses x)) xs
all-exprs num xs = all-numbers num uses xs

pub all-brackets : (num : List ℕ → Option ℕ) (bs : List Bracket) → filter_map num (all_uses (map in_bracket bs)) ≡ flat_map (λ b. filter_map num (in_bracket b)) bs
all-brackets num bs = all-numbers num in_bracket bs

abbrev pub function_piece : List (List ℕ) → Decl → List (List ℕ)
function_piece names d = map (used_numbers names) (function_of d)

number-is : (fs : List Function) (names : List (List ℕ)) → names ≡ map (λ f. f.name.text) fs → number_among names ≡ function_number fs
number-is fs names e = λ j t. (ap (λ ns. number_among ns t) e ∙ position-map (bytes_eq t) (λ (f : Function). f.name.text) fs) j

pub graph-is : (ast : Ast) (names : List (List ℕ)) → names ≡ map (λ f. f.name.text) (functions ast) → flat_map (function_piece names) ast.decls ≡ use_graph (functions ast)
graph-is ast names e =
    sym (map-flat (used_numbers names) function_of ast.decls) ∙ ap (λ num. map (λ (f : Function). filter_map num (uses_if f.body)) (functions ast)) (number-is (functions ast) names e)

pub uses-closed : (fs : List Function) → IsClosed (use_graph fs)
uses-closed fs = λ i c here. by i c (slice_get fs i) refl here
  where
    size : length (use_graph fs) ≡ length fs
    size = length-map (λ (f : Function). filter_map (function_number fs) (uses_if f.body)) fs
      where
        length-map : {A B : Type 0} (f : A → B) (xs : List A) → length (map f xs) ≡ length xs
        length-map f [] = refl
        length-map f (x ∷ xs) = ap suc (length-map f xs)

    by : (i c : ℕ) (o : Option Function) → slice_get fs i ≡ o → is_in (edges (use_graph fs) i) c ≡ true → c < length (use_graph fs)
    by i c None n here = absurd (true≢false (sym here ∙ ap (λ v. is_in (unwrap_or v []) c) (slice_get-map (λ (f : Function). filter_map (function_number fs) (uses_if f.body)) fs i ∙ ap (option_map (λ (f : Function). filter_map (function_number fs) (uses_if f.body))) n)))
    by i c (Some f) n here =
        let w = numbers-within (function_number fs) (length fs) (λ t k h. position-within (λ f. bytes_eq t f.name.text) fs k h) (uses_if f.body) c
        (sym (ap (λ v. is_in (unwrap_or v []) c) (slice_get-map (λ (f : Function). filter_map (function_number fs) (uses_if f.body)) fs i ∙ ap (option_map (λ (f : Function). filter_map (function_number fs) (uses_if f.body))) n)) ∙ here) in
        omega (arith, w, size)

texts-of : (names : List (Bor Name)) → map (λ n. n.now.text) names ≡ map (λ n. n.text) (map (λ n. n.now) names)
texts-of [] = refl
texts-of (n ∷ ns) = ap (λ ts. n.now.text ∷ ts) (texts-of ns)

names-texts : (fs : List Function) → map (λ n. n.text) (map (λ f. f.name) fs) ≡ map (λ f. f.name.text) fs
names-texts [] = refl
names-texts (f ∷ fs) = ap (λ ts. f.name.text ∷ ts) (names-texts fs)

pub numbers-are : (fs : List Function) (names names1 : List (Bor Name)) (texts : List (Bor (List ℕ))) (numbers : List (List ℕ)) → names1 ≡ names → map (λ n. n.now) names ≡ map (λ f. f.name) fs
    → map (λ t. t.now) texts ≡ map (λ n. n.now.text) names1 → numbers ≡ map (λ t. t.now) texts → numbers ≡ map (λ f. f.name.text) fs
numbers-are fs names names1 texts numbers same n t e =
    e ∙ t ∙ ap (λ (v : List (Bor Name)). map (λ n. n.now.text) v) same ∙ texts-of names ∙ ap (λ (v : List Name). map (λ n. n.text) v) n ∙ names-texts fs

pub circle-ok : {E : Type 0} (r : Result (Option TypeFault) E) (ast : Ast) (g g1 : Graph) (names names1 : List (Bor Name)) → g1 ≡ g → names1 ≡ names → g ≡ use_graph (functions ast) → map (λ n. n.now) names ≡ map (λ f. f.name) (functions ast)
    → IfOk r (λ f. f ≡ first (cyclic_names g1 (map (λ n. n.now) names1))) → IfOk r (λ f. f ≡ first (circle_faults ast))
circle-ok (Err e) ast g g1 names names1 a b c d h = tt
circle-ok (Ok f) ast g g1 names names1 a b c d h =
    h ∙ ap (λ v. first (cyclic_names v (map (λ n. n.now) names1))) (a ∙ c) ∙ ap (λ v. first (cyclic_names (use_graph (functions ast)) v)) (ap (λ (v : List (Bor Name)). map (λ n. n.now) v) b ∙ d)

pub apply-ok : {T E : Type 0} (r : Result T E) (names : List (List ℕ)) (old mid new : List ℕ) (x : Expr) (f : Name) (xs xs1 : List Expr) (text : List ℕ) (number : Option ℕ)
    → x ≡ e.Apply f xs → xs1 ≡ xs → text ≡ f.text → number ≡ number_among names text → mid ≡ old ++ flat_map (λ y. filter_map (number_among names) (uses y)) xs1
    → OnOk r (new ≡ mid ++ option_to_list number) → OnOk r (new ≡ old ++ filter_map (number_among names) (uses x))
apply-ok (Err e) names old mid new x f xs xs1 text number is same t n args h = tt
apply-ok (Ok u) names old mid new x f xs xs1 text number is same t n args h =
    let all : filter_map (number_among names) (uses x) ≡ flat_map (λ y. filter_map (number_among names) (uses y)) xs ++ option_to_list number =
    ap (λ y. filter_map (number_among names) (uses y)) is ∙ ap (filter_map (number_among names)) (uses-apply f xs) ∙ filter_map-append (number_among names) (all_uses (map uses xs)) (f.text ∷ [])
    ∙ ap (λ ys. ys ++ filter_map (number_among names) (f.text ∷ [])) (all-exprs (number_among names) xs)
    ∙ ap (λ ys. flat_map (λ y. filter_map (number_among names) (uses y)) xs ++ ys) (one (number_among names f.text) ∙ ap option_to_list (ap (number_among names) (sym t) ∙ sym n)) in
    h ∙ ap (λ ys. ys ++ option_to_list number) (args ∙ ap (λ ys. old ++ flat_map (λ y. filter_map (number_among names) (uses y)) ys) same)
    ∙ append_assoc old (flat_map (λ y. filter_map (number_among names) (uses y)) xs) (option_to_list number) ∙ ap (λ ys. old ++ ys) (sym all)
  where
    one : (o : Option ℕ) → cons_option o [] ≡ option_to_list o
    one None = refl
    one (Some k) = refl

pub ruleset use_laws = (uses-true, uses-false, uses-literal, uses-variable, uses-apply, uses-post, uses-not, uses-concat, uses-equal, uses-not_equal, uses-and, uses-or, uses-implies, uses-implied_by, uses-equivalent, uses-choice, uses-select, uses-store, uses-extract, all-exprs, all-brackets, filter_map-append, append_assoc, nil-append)
