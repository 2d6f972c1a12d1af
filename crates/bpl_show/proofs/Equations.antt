-- The tokens of sorts, expressions and statements, by the outermost node.
use Rattle.std.proofs.Common.{◌≡◌, ℕ, List, [], ◌∷◌, ◌++◌, map, ap, ◌∙◌, refl, Option, rules}
use Rattle.std.specs.Prelude.{codes, flat_map}
use Rattle.std.specs.List.{join_by}
use Rattle.std.proofs.lemmas.List.Folds.{flat_map-map}
use Rattle.bpl_ast.specs.declared.expr.Bracket.{Bracket}
use Rattle.bpl_ast.specs.declared.expr.Bracket.TheFolds.{the_lemmas as expr_lemmas}
use Rattle.bpl_ast.specs.declared.expr.Bracket.TheVariants as brackets
use Rattle.bpl_ast.specs.declared.expr.Expr.{Expr}
use Rattle.bpl_ast.specs.declared.expr.Expr.TheVariants as e
use Rattle.bpl_ast.specs.declared.name.Attribute.{Attribute}
use Rattle.bpl_ast.specs.declared.name.Name.{Name}
use Rattle.bpl_ast.specs.declared.sort.Sort.{Sort}
use Rattle.bpl_ast.specs.declared.sort.Sort.TheFolds.{the_lemmas as sort_lemmas}
use Rattle.bpl_ast.specs.declared.sort.Sort.TheVariants as sorts
use Rattle.bpl_ast.specs.declared.stmt.Else.TheFolds.{the_lemmas as stmt_lemmas}
use Rattle.bpl_ast.specs.declared.stmt.Else.TheVariants as others
use Rattle.bpl_ast.specs.declared.stmt.Guard.{Guard}
use Rattle.bpl_ast.specs.declared.stmt.If.{If}
use Rattle.bpl_ast.specs.declared.stmt.Invariant.{Invariant}
use Rattle.bpl_ast.specs.declared.stmt.Stmt.{Stmt}
use Rattle.bpl_ast.specs.declared.stmt.Stmt.TheVariants as stmts
use Rattle.bpl_ast.specs.declared.stmt.Target.{Target}
use Rattle.bpl_show.specs.declared.phrase.Phrase.{Phrase}
use Rattle.bpl_show.specs.declared.phrase.Phrase.TheVariants.{Whole, Equivalence, Implication, Logic, Relation, Concatenation, Unary, Operand}
use Rattle.bpl_show.specs.Exprs.{expr, bracket, placed, literal, whole, chained}
use Rattle.bpl_show.specs.Names.{name, listed, sort}
use Rattle.bpl_show.specs.Stmts.{stmt, if_stmt, else_part, condition, naming, guarded, invariant, block, block_of, label, return_from, break_from, assignment, call}
use Rattle.bpl_show.specs.Tokens.{Token, word, last, number}

-- ---- sorts

pub sort-boolean : (at : ℕ) → sort (sorts.Boolean at) ≡ word (codes "bool")
unfolding sort
sort-boolean at = search (rules, sort_lemmas)

pub sort-bits : (at width : ℕ) (text : List ℕ) → sort (sorts.Bits at width text) ≡ word text
unfolding sort
sort-bits at width text = search (rules, sort_lemmas)

pub sort-named : (n : Name) → sort (sorts.Named n) ≡ name n
unfolding sort
sort-named n = search (rules, sort_lemmas)

pub sort-map : (at : ℕ) (index elem : Sort) → sort (sorts.Map at index elem) ≡ word (codes "[") ++ sort index ++ word (codes "]") ++ sort elem
unfolding sort
sort-map at index elem = search (rules, sort_lemmas)

-- ---- lists whose items were shown before

pub joined-map : {X Y : Type 0} (v : X → Y) (f : Y → List Token) (sep : List Token) (xs : List X) → join_by f sep (map v xs) ≡ join_by (λ x. f (v x)) sep xs
joined-map v f sep [] = refl
joined-map v f sep (x ∷ xs) = ap (λ more. f (v x) ++ more) (flat_map-map (λ y. sep ++ f y) v xs)

-- ---- expressions

pub expr-true : (at : ℕ) (asked : Phrase) → expr (e.True at) asked ≡ placed Operand asked (word (codes "true"))
unfolding expr
expr-true at asked = search (rules, expr_lemmas)

pub expr-false : (at : ℕ) (asked : Phrase) → expr (e.False at) asked ≡ placed Operand asked (word (codes "false"))
unfolding expr
expr-false at asked = search (rules, expr_lemmas)

pub expr-literal : (at width bits : ℕ) (asked : Phrase) → expr (e.Literal at width bits) asked ≡ placed Operand asked (word (literal width bits))
unfolding expr
expr-literal at width bits asked = search (rules, expr_lemmas)

pub expr-variable : (n : Name) (asked : Phrase) → expr (e.Variable n) asked ≡ placed Operand asked (name n)
unfolding expr
expr-variable n asked = search (rules, expr_lemmas)

chain-is : (own kind asked : Phrase) (sign : List ℕ) (x : Expr) (xs : List Expr) → expr x asked ≡ placed own asked (join_by (λ y. y kind) (word sign) (map expr xs)) → expr x asked ≡ placed own asked (chained sign kind xs)
chain-is own kind asked sign x xs e = e ∙ ap (placed own asked) (joined-map expr (λ y. y kind) (word sign) xs)

pub expr-apply : (f : Name) (xs : List Expr) (asked : Phrase) → expr (e.Apply f xs) asked ≡ placed Operand asked (name f ++ word (codes "(") ++ listed whole xs ++ word (codes ")"))
unfolding expr
expr-apply f xs asked =
    let e : expr (e.Apply f xs) asked ≡ placed Operand asked (name f ++ word (codes "(") ++ listed (λ y. y Whole) (map expr xs) ++ word (codes ")")) = search (rules, expr_lemmas) in
    e ∙ ap (λ l. placed Operand asked (name f ++ word (codes "(") ++ l ++ word (codes ")"))) (joined-map expr (λ y. y Whole) (word (codes ",")) xs)

pub expr-post : (at : ℕ) (x : Expr) (bs : List Bracket) (asked : Phrase) → expr (e.Post at x bs) asked ≡ placed Operand asked (expr x Operand ++ flat_map bracket bs)
unfolding expr bracket
expr-post at x bs asked =
    let e : expr (e.Post at x bs) asked ≡ placed Operand asked (expr x Operand ++ flat_map (λ b. b) (map bracket bs)) = search (rules, expr_lemmas) in
    e ∙ ap (λ l. placed Operand asked (expr x Operand ++ l)) (flat_map-map (λ b. b) bracket bs)

pub expr-not : (at : ℕ) (x : Expr) (asked : Phrase) → expr (e.Not at x) asked ≡ placed Unary asked (word (codes "!") ++ expr x Unary)
unfolding expr
expr-not at x asked = search (rules, expr_lemmas)

pub expr-concat : (at : ℕ) (xs : List Expr) (asked : Phrase) → expr (e.Concat at xs) asked ≡ placed Concatenation asked (chained (codes "++") Unary xs)
unfolding expr
expr-concat at xs asked = chain-is Concatenation Unary asked (codes "++") (e.Concat at xs) xs (search (rules, expr_lemmas))

pub expr-and : (at : ℕ) (xs : List Expr) (asked : Phrase) → expr (e.And at xs) asked ≡ placed Logic asked (chained (codes "&&") Relation xs)
unfolding expr
expr-and at xs asked = chain-is Logic Relation asked (codes "&&") (e.And at xs) xs (search (rules, expr_lemmas))

pub expr-or : (at : ℕ) (xs : List Expr) (asked : Phrase) → expr (e.Or at xs) asked ≡ placed Logic asked (chained (codes "||") Relation xs)
unfolding expr
expr-or at xs asked = chain-is Logic Relation asked (codes "||") (e.Or at xs) xs (search (rules, expr_lemmas))

pub expr-implied_by : (at : ℕ) (xs : List Expr) (asked : Phrase) → expr (e.ImpliedBy at xs) asked ≡ placed Implication asked (chained (codes "<==") Logic xs)
unfolding expr
expr-implied_by at xs asked = chain-is Implication Logic asked (codes "<==") (e.ImpliedBy at xs) xs (search (rules, expr_lemmas))

pub expr-equivalent : (at : ℕ) (xs : List Expr) (asked : Phrase) → expr (e.Equivalent at xs) asked ≡ placed Equivalence asked (chained (codes "<==>") Implication xs)
unfolding expr
expr-equivalent at xs asked = chain-is Equivalence Implication asked (codes "<==>") (e.Equivalent at xs) xs (search (rules, expr_lemmas))

pub expr-equal : (at : ℕ) (x y : Expr) (asked : Phrase) → expr (e.Equal at x y) asked ≡ placed Relation asked (expr x Concatenation ++ word (codes "==") ++ expr y Concatenation)
unfolding expr
expr-equal at x y asked = search (rules, expr_lemmas)

pub expr-not_equal : (at : ℕ) (x y : Expr) (asked : Phrase) → expr (e.NotEqual at x y) asked ≡ placed Relation asked (expr x Concatenation ++ word (codes "!=") ++ expr y Concatenation)
unfolding expr
expr-not_equal at x y asked = search (rules, expr_lemmas)

pub expr-implies : (at : ℕ) (x y : Expr) (asked : Phrase) → expr (e.Implies at x y) asked ≡ placed Implication asked (expr x Logic ++ word (codes "==>") ++ expr y Implication)
unfolding expr
expr-implies at x y asked = search (rules, expr_lemmas)

pub expr-choice : (at : ℕ) (x y z : Expr) (asked : Phrase) → expr (e.Choice at x y z) asked ≡ placed Whole asked (word (codes "if") ++ whole x ++ word (codes "then") ++ whole y ++ word (codes "else") ++ whole z)
unfolding expr
expr-choice at x y z asked = search (rules, expr_lemmas)

pub bracket-select : (index : Expr) → bracket (brackets.Select index) ≡ word (codes "[") ++ whole index ++ word (codes "]")
unfolding bracket expr
bracket-select index = search (rules, expr_lemmas)

pub bracket-store : (index value : Expr) → bracket (brackets.Store index value) ≡ word (codes "[") ++ whole index ++ word (codes ":=") ++ whole value ++ word (codes "]")
unfolding bracket expr
bracket-store index value = search (rules, expr_lemmas)

pub bracket-extract : (high low : ℕ) → bracket (brackets.Extract high low) ≡ word (codes "[") ++ number high ++ word (codes ":") ++ number low ++ word (codes "]")
unfolding bracket expr
bracket-extract high low = search (rules, expr_lemmas)

-- ---- statements

block-map : (body : List Stmt) → block (map stmt body) ≡ block_of body
block-map body = ap (λ l. last (codes "{") ++ l ++ last (codes "}")) (flat_map-map (λ s. s) stmt body)

pub stmt-label : (n : Name) → stmt (stmts.Label n) ≡ label n
unfolding stmt
stmt-label n = search (rules, stmt_lemmas)

pub stmt-assert : (at : ℕ) (xs : List Attribute) (x : Expr) → stmt (stmts.Assert at xs x) ≡ condition (codes "assert") xs x
unfolding stmt
stmt-assert at xs x = search (rules, stmt_lemmas)

pub stmt-assume : (at : ℕ) (xs : List Attribute) (x : Expr) → stmt (stmts.Assume at xs x) ≡ condition (codes "assume") xs x
unfolding stmt
stmt-assume at xs x = search (rules, stmt_lemmas)

pub stmt-havoc : (at : ℕ) (xs : List Attribute) (ns : List Name) → stmt (stmts.Havoc at xs ns) ≡ naming (codes "havoc") xs ns
unfolding stmt
stmt-havoc at xs ns = search (rules, stmt_lemmas)

pub stmt-goto : (at : ℕ) (xs : List Attribute) (ns : List Name) → stmt (stmts.Goto at xs ns) ≡ naming (codes "goto") xs ns
unfolding stmt
stmt-goto at xs ns = search (rules, stmt_lemmas)

pub stmt-return : (at : ℕ) (xs : List Attribute) → stmt (stmts.Return at xs) ≡ return_from xs
unfolding stmt
stmt-return at xs = search (rules, stmt_lemmas)

pub stmt-break : (at : ℕ) (xs : List Attribute) (from : Option Name) → stmt (stmts.Break at xs from) ≡ break_from xs from
unfolding stmt
stmt-break at xs from = search (rules, stmt_lemmas)

pub stmt-assign : (at : ℕ) (targets : List Target) (values : List Expr) → stmt (stmts.Assign at targets values) ≡ assignment targets values
unfolding stmt
stmt-assign at targets values = search (rules, stmt_lemmas)

pub stmt-call : (at : ℕ) (xs : List Attribute) (outs : List Name) (procedure : Name) (arguments : List Expr) → stmt (stmts.Call at xs outs procedure arguments) ≡ call xs outs procedure arguments
unfolding stmt
stmt-call at xs outs procedure arguments = search (rules, stmt_lemmas)

pub stmt-if : (inner : If) → stmt (stmts.If inner) ≡ if_stmt inner
unfolding stmt if_stmt
stmt-if inner = search (rules, stmt_lemmas)

pub stmt-while : (at : ℕ) (xs : List Attribute) (g : Guard) (is : List Invariant) (body : List Stmt) → stmt (stmts.While at xs g is body) ≡ guarded (codes "while") xs g ++ flat_map invariant is ++ block_of body
unfolding stmt
stmt-while at xs g is body =
    let e : stmt (stmts.While at xs g is body) ≡ guarded (codes "while") xs g ++ flat_map invariant is ++ block (map stmt body) = search (rules, stmt_lemmas) in
    e ∙ ap (λ l. guarded (codes "while") xs g ++ flat_map invariant is ++ l) (block-map body)

pub else-absent : else_part others.Absent ≡ []
unfolding else_part
else-absent = search (rules, stmt_lemmas)

pub else-if : (inner : If) → else_part (others.If inner) ≡ word (codes "else") ++ if_stmt inner
unfolding else_part if_stmt
else-if inner = search (rules, stmt_lemmas)

pub else-block : (body : List Stmt) → else_part (others.Block body) ≡ word (codes "else") ++ block_of body
unfolding else_part stmt
else-block body =
    let e : else_part (others.Block body) ≡ word (codes "else") ++ block (map stmt body) = search (rules, stmt_lemmas) in
    e ∙ ap (λ l. word (codes "else") ++ l) (block-map body)

pub if-is : (s : If) → if_stmt s ≡ guarded (codes "if") s.attributes s.guard ++ block_of s.then ++ else_part s.other
unfolding if_stmt stmt else_part
if-is s =
    let e : if_stmt s ≡ guarded (codes "if") s.attributes s.guard ++ block (map stmt s.then) ++ else_part s.other = search (rules, stmt_lemmas) in
    e ∙ ap (λ l. guarded (codes "if") s.attributes s.guard ++ l ++ else_part s.other) (block-map s.then)

pub ruleset equations = (sort-boolean, sort-bits, sort-named, sort-map, expr-true, expr-false, expr-literal, expr-variable, expr-apply, expr-post, expr-not, expr-concat, expr-and, expr-or, expr-implied_by, expr-equivalent, expr-equal, expr-not_equal, expr-implies, expr-choice, bracket-select, bracket-store, bracket-extract, stmt-label, stmt-assert, stmt-assume, stmt-havoc, stmt-goto, stmt-return, stmt-break, stmt-assign, stmt-call, stmt-if, stmt-while, else-absent, else-if, else-block, if-is)
