-- What the steps of writing expressions keep.
use Rattle.std.proofs.Common.{◌≡◌, ℕ, ◌+◌, ◌<◌, List, [], ◌∷◌, ◌++◌, length, map, fold, get_or, take, Some, refl, sym, ◌∙◌, ap}
use Rattle.std.proofs.lemmas.List.{map-append, take_more}
use Rattle.hy_val.specs.declared.expr.ExprNode.{ExprNode}
use Rattle.type_pass.specs.declared.tables.Meaning.TheVariants as means
use Rattle.type_pass.specs.declared.tables.Signature.{Signature}
use Rattle.type_pass.specs.declared.tables.Tables.{Tables}
use Rattle.bpl_type.specs.Making.{with_term, read_back, body_nodes, use_with}
use Rattle.type_pass.specs.Replaced.{used, meant}
use Rattle.type_pass.specs.Scopes.{function_named}
use Rattle.type_pass.specs.Terms.{Term, nodes_of, substituted}
use Rattle.bpl_type.proofs.MakingLaws.{reads-back, with-nothing}

pub made-is : (before out : List ExprNode) (t : Term) → before ≡ [] → out ≡ with_term before t → out ≡ nodes_of t
made-is before out t none h = h ∙ ap (λ b. with_term b t) none ∙ with-nothing t

-- what is written behind nothing are the nodes of a term
pub canonical : (before out : List ExprNode) (t : Term) → before ≡ [] → out ≡ with_term before t → out ≡ nodes_of (read_back out)
canonical before out t none h =
    let e = made-is before out t none h in
    e ∙ ap nodes_of (sym (reads-back t)) ∙ ap (λ o. nodes_of (read_back o)) (sym e)

-- one element more
pub mapped-further : {A B : Type 0} (f : A → B) (xs : List A) (i : ℕ) (x : A) (before after : List B) (v : B) → i < length xs → x ≡ get_or xs i x → before ≡ map f (take i xs) → v ≡ f x → after ≡ before ++ v ∷ []
    → after ≡ map f (take (i + 1) xs)
mapped-further f xs i x before after v less at h e k =
    k ∙ ap (λ b. b ++ v ∷ []) h ∙ ap (λ y. map f (take i xs) ++ y ∷ []) (e ∙ ap f at)
    ∙ sym (ap (map f) (take_more xs i x less) ∙ map-append f (take i xs) (get_or xs i x ∷ []))

pub read-mapped : {A : Type 0} (f : A → Term) (xs : List A) → map read_back (map (λ x. nodes_of (f x)) xs) ≡ map f xs
read-mapped f [] = refl
read-mapped f (x ∷ xs) = ap (λ t. t ∷ map read_back (map (λ y. nodes_of (f y)) xs)) (reads-back (f x)) ∙ ap (λ ts. f x ∷ ts) (read-mapped f xs)

-- a use of a function that means its body
pub use-body : (tables : Tables) (bodies : List (List ExprNode)) (text : List ℕ) (xs : List Term) (f : Signature) → function_named tables text ≡ Some f → f.meaning ≡ means.Body
    → use_with tables bodies text xs ≡ substituted xs (read_back (body_nodes tables bodies text))
unfolding use_with
use-body tables bodies text xs f named meaning =
    ap (λ o. used o xs (λ g. read_back (body_nodes tables bodies text))) named ∙ ap (λ m. meant m xs (read_back (body_nodes tables bodies text))) meaning

-- ---- chains

-- the nodes with those of a chain behind them, as far as it goes
abbrev pub chained : List ExprNode → (Term → Term → Term) → List Term → List ExprNode
chained out join [] = out
chained out join (t ∷ ts) = with_term out (fold join t ts)
