-- The tokens of statements. A line ends after each command, invariant, label and brace of a block.
use Rattle.std.specs.Prelude.{ℕ, Bool, true, false, List, [], ◌∷◌, ◌++◌, flat_map, Option, None, Some, codes}
use Rattle.bpl_ast.specs.declared.expr.Expr.{Expr}
use Rattle.bpl_ast.specs.declared.name.Attribute.{Attribute}
use Rattle.bpl_ast.specs.declared.name.Name.{Name}
use Rattle.bpl_ast.specs.declared.stmt.Else.{Else}
use Rattle.bpl_ast.specs.declared.stmt.Else.TheFolds.{fold-Else, fold-Stmt, fold-If}
use Rattle.bpl_ast.specs.declared.stmt.Else.TheOpen.{Else-F, Stmt-F, If-F}
use Rattle.bpl_ast.specs.declared.stmt.Guard.{Guard}
use Rattle.bpl_ast.specs.declared.stmt.Guard.TheVariants.{Any, Condition}
use Rattle.bpl_ast.specs.declared.stmt.If.{If}
use Rattle.bpl_ast.specs.declared.stmt.Invariant.{Invariant}
use Rattle.bpl_ast.specs.declared.stmt.Stmt.{Stmt}
use Rattle.bpl_ast.specs.declared.stmt.Target.{Target}
use Rattle.bpl_show.specs.Exprs.{whole}
use Rattle.bpl_show.specs.Names.{name, names, listed, attributes}
use Rattle.bpl_show.specs.Tokens.{Token, word, last}

-- a condition or a list of names behind its word
abbrev pub condition : List ℕ → List Attribute → Expr → List Token
condition keyword xs x = word keyword ++ attributes xs ++ whole x ++ last (codes ";")

abbrev pub naming : List ℕ → List Attribute → List Name → List Token
naming keyword xs ns = word keyword ++ attributes xs ++ names ns ++ last (codes ";")

abbrev pub maybe_name : Option Name → List Token
maybe_name None = []
maybe_name (Some n) = name n

abbrev pub maybe_index : Option Expr → List Token
maybe_index None = []
maybe_index (Some index) = word (codes "[") ++ whole index ++ word (codes "]")

abbrev pub target : Target → List Token
target t = name t.name ++ maybe_index t.index

-- the names that take the outs of a call, and the sign after them
abbrev pub taking : List Name → List Token
taking [] = []
taking (n ∷ ns) = names (n ∷ ns) ++ word (codes ":=")

abbrev pub guard : Guard → List Token
guard (Any at) = word (codes "*")
guard (Condition x) = whole x

abbrev pub maybe_free : Bool → List Token
maybe_free true = word (codes "free")
maybe_free false = []

abbrev pub invariant : Invariant → List Token
invariant i = maybe_free i.free ++ condition (codes "invariant") i.attributes i.condition

-- a block of statements
abbrev pub block : List (List Token) → List Token
block body = last (codes "{") ++ flat_map (λ s. s) body ++ last (codes "}")

abbrev pub else_node : Else-F (List Token) (List Token) (List Token) → List Token
else_node Else-F.Absent = []
else_node (Else-F.Else::If inner) = word (codes "else") ++ inner
else_node (Else-F.Block body) = word (codes "else") ++ block body

-- the word, attributes and the guard in its parentheses
abbrev pub guarded : List ℕ → List Attribute → Guard → List Token
guarded keyword xs g = word keyword ++ attributes xs ++ word (codes "(") ++ guard g ++ word (codes ")")

abbrev pub if_node : If-F (List Token) (List Token) (List Token) → List Token
if_node s = guarded (codes "if") s.attributes s.guard ++ block s.then ++ s.other

abbrev pub label : Name → List Token
label n = name n ++ last (codes ":")

abbrev pub return_from : List Attribute → List Token
return_from xs = word (codes "return") ++ attributes xs ++ last (codes ";")

abbrev pub break_from : List Attribute → Option Name → List Token
break_from xs from = word (codes "break") ++ attributes xs ++ maybe_name from ++ last (codes ";")

abbrev pub assignment : List Target → List Expr → List Token
assignment targets values = listed target targets ++ word (codes ":=") ++ listed whole values ++ last (codes ";")

abbrev pub call : List Attribute → List Name → Name → List Expr → List Token
call xs outs procedure arguments =
    word (codes "call") ++ attributes xs ++ taking outs ++ name procedure ++ word (codes "(") ++ listed whole arguments ++ word (codes ")") ++ last (codes ";")

abbrev pub stmt_node : Stmt-F (List Token) (List Token) (List Token) → List Token
stmt_node (Stmt-F.Label n) = label n
stmt_node (Stmt-F.Assert at xs x) = condition (codes "assert") xs x
stmt_node (Stmt-F.Assume at xs x) = condition (codes "assume") xs x
stmt_node (Stmt-F.Havoc at xs ns) = naming (codes "havoc") xs ns
stmt_node (Stmt-F.Goto at xs labels) = naming (codes "goto") xs labels
stmt_node (Stmt-F.Return at xs) = return_from xs
stmt_node (Stmt-F.Break at xs from) = break_from xs from
stmt_node (Stmt-F.Assign at targets values) = assignment targets values
stmt_node (Stmt-F.Call at xs outs procedure arguments) = call xs outs procedure arguments
stmt_node (Stmt-F.Stmt::If inner) = inner
stmt_node (Stmt-F.While at xs g invariants body) = guarded (codes "while") xs g ++ flat_map invariant invariants ++ block body

unfoldable pub stmt : Stmt → List Token
stmt = fold-Stmt (List Token) (List Token) (List Token) else_node stmt_node if_node

unfoldable pub if_stmt : If → List Token
if_stmt = fold-If (List Token) (List Token) (List Token) else_node stmt_node if_node

unfoldable pub else_part : Else → List Token
else_part = fold-Else (List Token) (List Token) (List Token) else_node stmt_node if_node

-- statements in their braces
abbrev pub block_of : List Stmt → List Token
block_of body = last (codes "{") ++ flat_map stmt body ++ last (codes "}")
