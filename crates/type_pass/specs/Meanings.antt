-- What a function means: its body, or the operator that its attribute `bvbuiltin` names.
use Rattle.std.specs.Prelude.{ℕ, ◌-◌, min, Bool, true, false, ◌&&◌, nat_eq, List, [], ◌∷◌, ◌++◌, length, take, drop, filter, flat_map, map, Option, None, Some, if◌then◌else◌, codes}
use Rattle.std.specs.List.{starts_with, ends_with}
use Rattle.std.specs.Option.{option_and_then, option_or}
use Rattle.std.specs.Str.{bytes_eq}
use Rattle.std.specs.Str.Parse.{digits_value}
use Rattle.hy_text.specs.Number.{are_digits}
use Rattle.bpl_ast.specs.declared.decl.Function.{Function}
use Rattle.bpl_ast.specs.declared.expr.Expr.{Expr}
use Rattle.bpl_ast.specs.declared.name.Attribute.{Attribute}
use Rattle.bpl_ast.specs.declared.name.Lexeme.{Lexeme}
use Rattle.hy_val.specs.NodeSorts.{same_sort, as_scalar, unary_sort, binary_sort}
use Rattle.hy_val.specs.declared.operator.BvOp.{BvOp}
use Rattle.hy_val.specs.declared.operator.BvOp.TheVariants.{BvAnd, BvOr, BvXor, BvAdd, BvSub, BvMul, BvUdiv, BvUrem, BvSdiv, BvSrem, BvSmod, BvShl, BvLshr, BvAshr, BvUlt, BvUle, BvUgt, BvUge, BvSlt, BvSle, BvSgt, BvSge}
use Rattle.hy_val.specs.declared.operator.UnOp.{UnOp}
use Rattle.hy_val.specs.declared.operator.UnOp.TheVariants.{BvNot, BvNeg, ZeroExtend, SignExtend}
use Rattle.hy_val.specs.declared.sort.ScalarKind.TheVariants.{Bool as BoolSort, Bv as BvSort}
use Rattle.hy_val.specs.declared.sort.Sort.{Sort}
use Rattle.hy_val.specs.declared.sort.SortKind.TheVariants.{Scalar as ScalarSort, Map as MapSort}
use Rattle.type_pass.specs.declared.fault.TypeKind.{TypeKind}
use Rattle.type_pass.specs.declared.fault.TypeKind.TheVariants.{Mismatch, Width}
use Rattle.type_pass.specs.declared.tables.Builtin.{Builtin}
use Rattle.type_pass.specs.declared.tables.Builtin.TheVariants.{Unary, Binary}
use Rattle.type_pass.specs.declared.tables.Meaning.{Meaning}
use Rattle.type_pass.specs.declared.tables.Meaning.TheVariants.{Body, Operator, Nothing}
use Rattle.type_pass.specs.Declarations.{is_builtin_attribute}

-- ---- the names of operators

abbrev pub unary_names : List (List ℕ × Builtin)
unary_names = (codes "bvnot", Unary BvNot) ∷ (codes "bvneg", Unary BvNeg) ∷ []

abbrev pub word_names : List (List ℕ × Builtin)
word_names =
    (codes "bvand", Binary BvAnd) ∷ (codes "bvor", Binary BvOr) ∷ (codes "bvxor", Binary BvXor) ∷
    (codes "bvadd", Binary BvAdd) ∷ (codes "bvsub", Binary BvSub) ∷ (codes "bvmul", Binary BvMul) ∷
    (codes "bvudiv", Binary BvUdiv) ∷ (codes "bvurem", Binary BvUrem) ∷
    (codes "bvsdiv", Binary BvSdiv) ∷ (codes "bvsrem", Binary BvSrem) ∷ (codes "bvsmod", Binary BvSmod) ∷
    (codes "bvshl", Binary BvShl) ∷ (codes "bvlshr", Binary BvLshr) ∷ (codes "bvashr", Binary BvAshr) ∷ []

abbrev pub test_names : List (List ℕ × Builtin)
test_names =
    (codes "bvult", Binary BvUlt) ∷ (codes "bvule", Binary BvUle) ∷ (codes "bvugt", Binary BvUgt) ∷ (codes "bvuge", Binary BvUge) ∷
    (codes "bvslt", Binary BvSlt) ∷ (codes "bvsle", Binary BvSle) ∷ (codes "bvsgt", Binary BvSgt) ∷ (codes "bvsge", Binary BvSge) ∷ []

abbrev pub listed : List (List ℕ × Builtin) → List ℕ → Option Builtin
listed [] text = None
listed (entry ∷ more) text = if bytes_eq text entry.0 then Some entry.1 else listed more text

-- what stands behind a front, and before a back
abbrev pub behind : List ℕ → List ℕ → Option (List ℕ)
behind front text = if starts_with nat_eq text front then Some (drop (length front) text) else None

abbrev pub before : List ℕ → List ℕ → Option (List ℕ)
before back text = if ends_with nat_eq text back then Some (take (length text - length back) text) else None

-- An extension by the number that digits write. More than 64 bits never fit, so that a greater number counts as 64.
abbrev pub by_digits : (ℕ → UnOp) → List ℕ → Option Builtin
by_digits op digits = if are_digits digits then Some (Unary (op (min (digits_value 10 digits) 64))) else None

-- `NAME k` or `(_ NAME k)`
abbrev pub extension : List ℕ → (ℕ → UnOp) → List ℕ → Option Builtin
extension name op text =
    option_or (option_and_then (by_digits op) (behind (name ++ codes " ") text))
    (option_and_then (by_digits op) (option_and_then (before (codes ")")) (behind (codes "(_ " ++ name ++ codes " ") text)))

abbrev pub builtin_named : List ℕ → Option Builtin
builtin_named text =
    option_or (listed (unary_names ++ word_names ++ test_names) text)
    (option_or (extension (codes "zero_extend") ZeroExtend text) (extension (codes "sign_extend") SignExtend text))

-- ---- attributes

-- a token that begins with a quote
abbrev pub is_string : Lexeme → Bool
is_string t = starts_with nat_eq t.text (codes "\"")

-- the bytes between the quotes
abbrev pub inside : Lexeme → List ℕ
inside t = take (length t.text - 2) (drop 1 t.text)

abbrev pub strings_of : Attribute → List (List ℕ)
strings_of a = map inside (filter is_string a.tokens)

-- the strings of all attributes `bvbuiltin` of a function
abbrev pub builtin_strings : Function → List (List ℕ)
builtin_strings f = flat_map strings_of (filter is_builtin_attribute f.attributes)

abbrev pub operator_if : Option Builtin → Meaning
operator_if None = Nothing
operator_if (Some b) = Operator b

-- exactly one string, which names an operator
abbrev pub meaning_of_strings : List (List ℕ) → Meaning
meaning_of_strings [] = Nothing
meaning_of_strings (text ∷ []) = operator_if (builtin_named text)
meaning_of_strings (text ∷ other ∷ more) = Nothing

abbrev pub meaning_without : Function → Option Expr → Meaning
meaning_without f (Some body) = Body
meaning_without f None = meaning_of_strings (builtin_strings f)

abbrev pub meaning_of : Function → Meaning
meaning_of f = meaning_without f f.body

-- ---- the sorts of an operator

abbrev pub is_bool : Sort → Bool
is_bool sort = same_sort sort (ScalarSort BoolSort)

abbrev pub is_bits : Sort → Bool
is_bits (ScalarSort BoolSort) = false
is_bits (ScalarSort (BvSort w)) = true
is_bits (MapSort index elem) = false

abbrev pub is_same : Option Sort → Sort → Bool
is_same None sort = false
is_same (Some s) sort = same_sort s sort

-- the kind of sort that a bit-vector operator gives, which is the same at every width
abbrev pub is_result_kind : BvOp → Sort → Bool
is_result_kind op sort = if is_same (binary_sort op (Some (BvSort 1)) (Some (BvSort 1))) (ScalarSort BoolSort) then is_bool sort else is_bits sort

abbrev pub width_unless : Bool → Option TypeKind
width_unless fits = if fits then None else Some Width

-- What is wrong with the sorts: Width where the kinds of sort fit and the widths don't, else Mismatch.
abbrev pub misfit : Builtin → List Sort → Sort → Option TypeKind
misfit (Unary op) (s ∷ []) output =
    if is_bits s && is_bits output then width_unless (is_same (unary_sort op (as_scalar (Some s))) output) else Some Mismatch
misfit (Binary op) (s ∷ t ∷ []) output =
    if is_bits s && is_bits t && is_result_kind op output then width_unless (is_same (binary_sort op (as_scalar (Some s)) (as_scalar (Some t))) output) else Some Mismatch
misfit _ _ output = Some Mismatch
