-- The parts of a program without faults are made of expressions, and are those of the typed program.
use Rattle.std.proofs.Common.{◌≡◌, ℕ, zero, suc, ◌<◌, Bool, true, List, [], ◌∷◌, ◌++◌, length, map, flat_map, get_or, Option, Some, None, sym, refl, ◌∙◌, ap, subst, arith}
use Rattle.std.specs.List.{list_all, find}
use Rattle.std.specs.Str.{bytes_eq}
use Rattle.bpl_ast.specs.declared.decl.Ast.{Ast}
use Rattle.bpl_ast.specs.declared.decl.Axiom.{Axiom}
use Rattle.bpl_ast.specs.declared.decl.Body.{Body}
use Rattle.bpl_ast.specs.declared.decl.Decl.{Decl}
use Rattle.bpl_ast.specs.declared.decl.Decl.TheVariants as decls
use Rattle.bpl_ast.specs.declared.decl.Heads.{Heads}
use Rattle.bpl_ast.specs.declared.decl.Implementation.{Implementation}
use Rattle.bpl_ast.specs.declared.decl.Procedure.{Procedure}
use Rattle.bpl_ast.specs.declared.decl.Synonym.{Synonym}
use Rattle.bpl_ast.specs.declared.stmt.Stmt.{Stmt}
use Rattle.hy_val.specs.Exprs.{is_expr}
use Rattle.hy_val.specs.declared.expr.ExprNode.{ExprNode}
use Rattle.type_pass.specs.declared.fault.TypeFault.{TypeFault}
use Rattle.bpl_type.specs.declared.program.Program.{Program}
use Rattle.type_pass.specs.declared.tables.Scope.{Scope}
use Rattle.type_pass.specs.declared.tables.Named.{Named}
use Rattle.bpl_type.specs.declared.typed.TypedBody.{TypedBody}
use Rattle.bpl_type.specs.declared.typed.TypedStmt.{TypedStmt}
use Rattle.type_pass.specs.Commands.{condition_faults}
use Rattle.type_pass.specs.Declarations.{synonyms, implementations, in_heads, in_body}
use Rattle.type_pass.specs.Passes.{command_faults, commands_faults, body_faults}
use Rattle.type_pass.specs.Scopes.{tables_of, named_of, axiom_scope, body_scope}
use Rattle.bpl_type.specs.TypedOf.{body_of, formed, formed_by, formed_with}
use Rattle.bpl_type.specs.WellMade.{is_made, expr_in, stmt_in}
use Rattle.bpl_type.proofs.Elements.{nil-split}
use Rattle.bpl_type.proofs.Places.{place}
use Rattle.bpl_type.proofs.ProgramFits.{NoFaults, sound, sorts-are, known-in, called, calls, stmts-fit, form-faultless}
use Rattle.bpl_type.proofs.StmtMade.{condition-made, stmts-made}
use Rattle.bpl_type.proofs.StmtsFit.{condition-fits}

-- one of the declarations
decl-faultless : (f : Decl → List TypeFault) (ds : List Decl) (i : ℕ) (d : Decl) → i < length ds → d ≡ get_or ds i d → flat_map f ds ≡ [] → f d ≡ []
decl-faultless f [] i d less at h = absurd (omega arith)
decl-faultless f (x ∷ xs) zero d less at h = ap f at ∙ (nil-split (f x) (flat_map f xs) h).0
decl-faultless f (x ∷ xs) (suc i) d less at h = decl-faultless f xs i d (omega arith) at (nil-split (f x) (flat_map f xs) h).1

none-of : (p : Program) → NoFaults p.ast.now
none-of p = record { heads = p.heads; commands = p.commands; circles = p.circles }

command-faultless : (p : Program) (ds : List Decl) (i : ℕ) (d e : Decl) → ds ≡ p.ast.now.decls → i < length ds → d ≡ get_or ds i d → d ≡ e → command_faults p.ast.now e ≡ []
command-faultless p ds i d e same less at is =
    subst (λ x. command_faults p.ast.now x ≡ []) is (decl-faultless (command_faults p.ast.now) ds i d less at (ap (flat_map (command_faults p.ast.now)) same ∙ p.commands))

-- ---- axioms

pub axiom-faultless : (p : Program) (ds : List Decl) (i : ℕ) (d : Decl) (a : Axiom) → ds ≡ p.ast.now.decls → i < length ds → d ≡ get_or ds i d → d ≡ decls.Axiom a → condition_faults (tables_of p.ast.now) axiom_scope a.condition ≡ []
axiom-faultless p ds i d a same less at is = command-faultless p ds i d (decls.Axiom a) same less at is

pub axiom-made : (p : Program) (a : Axiom) (scope : Scope) → scope ≡ axiom_scope → condition_faults (tables_of p.ast.now) axiom_scope a.condition ≡ [] → is_expr (expr_in p.ast.now scope a.condition) ≡ true
axiom-made p a scope axiomatic h =
    let none = none-of p in
    let ast = p.ast.now in
    ap (λ s. is_expr (expr_in ast s a.condition)) axiomatic
    ∙ condition-made (place (tables_of ast) axiom_scope) (expr_in ast axiom_scope a.condition)
    (condition-fits ast (sound ast none) axiom_scope (known-in ast none axiom_scope tt) (called ast none) (calls ast none) a.condition h)

-- ---- bodies

pub scope-is : (types own : List Synonym) (heads : Heads) (body : Body) (names scope : Scope) (slice : List Named) → types ≡ own → names ≡ body_scope types heads body → slice ≡ names.locals
    → scope ≡ record { locals = slice; ins = names.ins; globals = names.globals } → scope ≡ body_scope own heads body
scope-is types own heads body names scope slice t n l s =
    s ∙ ap (λ (ls : List Named). let x : Scope = record { locals = ls; ins = names.ins; globals = names.globals } in x) l ∙ n ∙ ap (λ ts. body_scope ts heads body) t

pub block-made : (p : Program) (heads : Heads) (body : Body) (scope : Scope) (slice : List Stmt) → scope ≡ body_scope (synonyms p.ast.now) heads body → slice ≡ body.statements
    → body_faults (tables_of p.ast.now) (synonyms p.ast.now) heads (Some body) ≡ [] → list_all is_made (map (stmt_in p.ast.now scope) slice) ≡ true
block-made p heads body scope slice s b h =
    let none = none-of p in
    let ast = p.ast.now in
    let own = body_scope (synonyms ast) heads body in
    ap (λ v. list_all is_made (map (stmt_in ast v) slice)) s ∙ ap (λ v. list_all is_made (map (stmt_in ast own) v)) b
    ∙ stmts-made (called ast none) (place (tables_of ast) own) (map (stmt_in ast own) body.statements)
    (stmts-fit ast none own (sorts-are (synonyms ast) (in_heads heads ++ in_body body)) body.statements h)

pub body-is : (ast : Ast) (types : List Synonym) (heads : Heads) (body : Body) (scope : Scope) (slice : List Stmt) (locals : List Named) (statements : List TypedStmt)
    → types ≡ synonyms ast → scope ≡ body_scope (synonyms ast) heads body → slice ≡ body.statements → locals ≡ map (named_of types) (in_body body) → statements ≡ map (stmt_in ast scope) slice
    → (let made : TypedBody = record { locals = locals; statements = statements } in made) ≡ body_of ast heads body
body-is ast types heads body scope slice locals statements t s b l h =
    ap (λ (ls : List Named). let made : TypedBody = record { locals = ls; statements = statements } in made) (l ∙ ap (λ ts. map (named_of ts) (in_body body)) t)
    ∙ ap (λ (ss : List TypedStmt). let made : TypedBody = record { locals = map (named_of (synonyms ast)) (in_body body); statements = ss } in made)
    (h ∙ ap (λ v. map (stmt_in ast v) slice) s ∙ ap (map (stmt_in ast (body_scope (synonyms ast) heads body))) b)

-- ---- procedures

pub procedure-faultless : (p : Program) (ds : List Decl) (i : ℕ) (d : Decl) (q : Procedure) → ds ≡ p.ast.now.decls → i < length ds → d ≡ get_or ds i d → d ≡ decls.Procedure q
    → body_faults (tables_of p.ast.now) (synonyms p.ast.now) q.heads q.body ≡ []
procedure-faultless p ds i d q same less at is = command-faultless p ds i d (decls.Procedure q) same less at is

-- the implementation of a procedure, by any list that is that of the implementations
found-in : (ast : Ast) (q : Procedure) (o : Option Implementation) (found : List Implementation) (slice : List ℕ) → found ≡ implementations ast → slice ≡ q.name.text → find (λ j. bytes_eq slice j.name.text) found ≡ o
    → find (λ j. bytes_eq q.name.text j.name.text) (implementations ast) ≡ o
found-in ast q o found slice all text is =
    sym (ap (λ (js : List Implementation). find (λ j. bytes_eq slice j.name.text) js) all ∙ ap (λ t. find (λ (j : Implementation). bytes_eq t j.name.text) (implementations ast)) text) ∙ is

-- it has no faults
pub implementation-faultless : (p : Program) (q : Procedure) (i : Implementation) (found : List Implementation) (slice : List ℕ) → found ≡ implementations p.ast.now → slice ≡ q.name.text → find (λ j. bytes_eq slice j.name.text) found ≡ Some i
    → body_faults (tables_of p.ast.now) (synonyms p.ast.now) i.heads (Some i.body) ≡ []
implementation-faultless p q i found slice all text is =
    let ast = p.ast.now in
    subst (λ o. body_faults (tables_of ast) (synonyms ast) (formed_by q.heads o).heads (formed_by q.heads o).body ≡ []) (found-in ast q (Some i) found slice all text is)
    (form-faultless ast (none-of p) q None refl)

-- what a procedure without a body of its own is formed from
pub form-is : (ast : Ast) (q : Procedure) (o : Option Implementation) (found : List Implementation) (slice : List ℕ) → q.body ≡ None → found ≡ implementations ast → slice ≡ q.name.text → find (λ j. bytes_eq slice j.name.text) found ≡ o
    → formed ast q ≡ formed_by q.heads o
form-is ast q o found slice none all text is = ap (formed_with ast q) none ∙ ap (formed_by q.heads) (found-in ast q o found slice all text is)
