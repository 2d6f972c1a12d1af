-- When two statements are alike, by their outermost nodes.
use Rattle.std.proofs.Common.{◌≡◌, ℕ, List, map, Option, option_map, Bool, true, false, refl, ap, sym, ◌∙◌, rules, ◌↔◌}
use Rattle.bpl_ast.specs.Alike.{bare_name, bare_attribute, bare_expr, bare_guard, bare_target, bare_invariant, bare_stmt, bare_if, bare_else}
use Rattle.bpl_ast.specs.declared.expr.Expr.{Expr}
use Rattle.bpl_ast.specs.declared.name.Attribute.{Attribute}
use Rattle.bpl_ast.specs.declared.name.Name.{Name}
use Rattle.bpl_ast.specs.declared.stmt.Else.TheFolds.{the_lemmas}
use Rattle.bpl_ast.specs.declared.stmt.Else.TheOpen.{Stmt-F}
use Rattle.bpl_ast.specs.declared.stmt.Else.{Else}
use Rattle.bpl_ast.specs.declared.stmt.Guard.{Guard}
use Rattle.bpl_ast.specs.declared.stmt.If.{If}
use Rattle.bpl_ast.specs.declared.stmt.Invariant.{Invariant}
use Rattle.bpl_ast.specs.declared.stmt.Stmt.{Stmt, out-Stmt, roll-Stmt}
use Rattle.bpl_ast.specs.declared.stmt.Target.{Target}

-- a node whose offsets are 0 and whose children are bare
abbrev pub layer : Stmt-F Else Stmt If → Stmt-F Else Stmt If
layer (Stmt-F.Label name) = Stmt-F.Label (bare_name name)
layer (Stmt-F.Assert at attributes condition) = Stmt-F.Assert 0 (map bare_attribute attributes) (bare_expr condition)
layer (Stmt-F.Assume at attributes condition) = Stmt-F.Assume 0 (map bare_attribute attributes) (bare_expr condition)
layer (Stmt-F.Havoc at attributes names) = Stmt-F.Havoc 0 (map bare_attribute attributes) (map bare_name names)
layer (Stmt-F.Goto at attributes labels) = Stmt-F.Goto 0 (map bare_attribute attributes) (map bare_name labels)
layer (Stmt-F.Return at attributes) = Stmt-F.Return 0 (map bare_attribute attributes)
layer (Stmt-F.Break at attributes label) = Stmt-F.Break 0 (map bare_attribute attributes) (option_map bare_name label)
layer (Stmt-F.Assign at targets values) = Stmt-F.Assign 0 (map bare_target targets) (map bare_expr values)
layer (Stmt-F.Call at attributes outs procedure arguments) = Stmt-F.Call 0 (map bare_attribute attributes) (map bare_name outs) (bare_name procedure) (map bare_expr arguments)
layer (Stmt-F.Stmt::If inner) = Stmt-F.Stmt::If (bare_if inner)
layer (Stmt-F.While at attributes guard invariants body) = Stmt-F.While 0 (map bare_attribute attributes) (bare_guard guard) (map bare_invariant invariants) (map bare_stmt body)

bare-roll : (y : Stmt-F Else Stmt If) → bare_stmt (roll-Stmt y) ≡ roll-Stmt (layer y)
unfolding bare_stmt bare_if bare_else
bare-roll (Stmt-F.Label name) = search (rules, the_lemmas)
bare-roll (Stmt-F.Assert at attributes condition) = search (rules, the_lemmas)
bare-roll (Stmt-F.Assume at attributes condition) = search (rules, the_lemmas)
bare-roll (Stmt-F.Havoc at attributes names) = search (rules, the_lemmas)
bare-roll (Stmt-F.Goto at attributes labels) = search (rules, the_lemmas)
bare-roll (Stmt-F.Return at attributes) = search (rules, the_lemmas)
bare-roll (Stmt-F.Break at attributes label) = search (rules, the_lemmas)
bare-roll (Stmt-F.Assign at targets values) = search (rules, the_lemmas)
bare-roll (Stmt-F.Call at attributes outs procedure arguments) = search (rules, the_lemmas)
bare-roll (Stmt-F.Stmt::If inner) = search (rules, the_lemmas)
bare-roll (Stmt-F.While at attributes guard invariants body) = search (rules, the_lemmas)

opened : (x : Stmt) → roll-Stmt (out-Stmt x) ≡ x
opened x = search (rules, the_lemmas)

shut : (y : Stmt-F Else Stmt If) → out-Stmt (roll-Stmt y) ≡ y
shut y = search (rules, the_lemmas)

pub forth : (x y : Stmt-F Else Stmt If) → bare_stmt (roll-Stmt x) ≡ bare_stmt (roll-Stmt y) → layer x ≡ layer y
forth x y same = let e : roll-Stmt (layer x) ≡ roll-Stmt (layer y) = sym (bare-roll x) ∙ (same ∙ bare-roll y) in sym (shut (layer x)) ∙ (ap out-Stmt e ∙ shut (layer y))

pub back : (x y : Stmt-F Else Stmt If) → layer x ≡ layer y → bare_stmt (roll-Stmt x) ≡ bare_stmt (roll-Stmt y)
back x y same = bare-roll x ∙ (ap roll-Stmt same ∙ sym (bare-roll y))

-- two nodes that are known
pub both : {r : Bool} {a b : Stmt} (x y : Stmt-F Else Stmt If) → a ≡ roll-Stmt x → b ≡ roll-Stmt y → (r ≡ true ↔ layer x ≡ layer y) → (r ≡ true ↔ bare_stmt a ≡ bare_stmt b)
both x y p q same = (λ h. ap bare_stmt p ∙ (back x y (same.0 h) ∙ sym (ap bare_stmt q)), λ e. same.1 (forth x y (sym (ap bare_stmt p) ∙ (e ∙ ap bare_stmt q))))

-- two nodes of two kinds
pub apart : {a : Stmt} (b : Stmt) (x : Stmt-F Else Stmt If) → a ≡ roll-Stmt x → (layer x ≡ layer (out-Stmt b) → ⊥) → (false ≡ true ↔ bare_stmt a ≡ bare_stmt b)
apart b x p never = both {r = false} x (out-Stmt b) p (sym (opened b)) (λ h. absurd cc, λ e. absurd (never e))

-- a value that is opened to this node
pub turned : (b : Stmt) (z : Stmt-F Else Stmt If) → out-Stmt b ≡ z → b ≡ roll-Stmt z
turned b z is = sym (opened b) ∙ ap roll-Stmt is

pub not-label : (name : Name) (other : Stmt-F Else Stmt If) → ((name' : Name) → other ≡ Stmt-F.Label name' → ⊥) → layer (Stmt-F.Label name) ≡ layer other → ⊥
not-label name (Stmt-F.Label name') isnt same = isnt name' refl
not-label name _ isnt same = absurd cc

pub not-assert : (at : ℕ) (attributes : List Attribute) (condition : Expr) (other : Stmt-F Else Stmt If) → ((at' : ℕ) (attributes' : List Attribute) (condition' : Expr) → other ≡ Stmt-F.Assert at' attributes' condition' → ⊥) → layer (Stmt-F.Assert at attributes condition) ≡ layer other → ⊥
not-assert at attributes condition (Stmt-F.Assert at' attributes' condition') isnt same = isnt at' attributes' condition' refl
not-assert at attributes condition _ isnt same = absurd cc

pub not-assume : (at : ℕ) (attributes : List Attribute) (condition : Expr) (other : Stmt-F Else Stmt If) → ((at' : ℕ) (attributes' : List Attribute) (condition' : Expr) → other ≡ Stmt-F.Assume at' attributes' condition' → ⊥) → layer (Stmt-F.Assume at attributes condition) ≡ layer other → ⊥
not-assume at attributes condition (Stmt-F.Assume at' attributes' condition') isnt same = isnt at' attributes' condition' refl
not-assume at attributes condition _ isnt same = absurd cc

pub not-havoc : (at : ℕ) (attributes : List Attribute) (names : List Name) (other : Stmt-F Else Stmt If) → ((at' : ℕ) (attributes' : List Attribute) (names' : List Name) → other ≡ Stmt-F.Havoc at' attributes' names' → ⊥) → layer (Stmt-F.Havoc at attributes names) ≡ layer other → ⊥
not-havoc at attributes names (Stmt-F.Havoc at' attributes' names') isnt same = isnt at' attributes' names' refl
not-havoc at attributes names _ isnt same = absurd cc

pub not-goto : (at : ℕ) (attributes : List Attribute) (labels : List Name) (other : Stmt-F Else Stmt If) → ((at' : ℕ) (attributes' : List Attribute) (labels' : List Name) → other ≡ Stmt-F.Goto at' attributes' labels' → ⊥) → layer (Stmt-F.Goto at attributes labels) ≡ layer other → ⊥
not-goto at attributes labels (Stmt-F.Goto at' attributes' labels') isnt same = isnt at' attributes' labels' refl
not-goto at attributes labels _ isnt same = absurd cc

pub not-return : (at : ℕ) (attributes : List Attribute) (other : Stmt-F Else Stmt If) → ((at' : ℕ) (attributes' : List Attribute) → other ≡ Stmt-F.Return at' attributes' → ⊥) → layer (Stmt-F.Return at attributes) ≡ layer other → ⊥
not-return at attributes (Stmt-F.Return at' attributes') isnt same = isnt at' attributes' refl
not-return at attributes _ isnt same = absurd cc

pub not-break : (at : ℕ) (attributes : List Attribute) (label : Option Name) (other : Stmt-F Else Stmt If) → ((at' : ℕ) (attributes' : List Attribute) (label' : Option Name) → other ≡ Stmt-F.Break at' attributes' label' → ⊥) → layer (Stmt-F.Break at attributes label) ≡ layer other → ⊥
not-break at attributes label (Stmt-F.Break at' attributes' label') isnt same = isnt at' attributes' label' refl
not-break at attributes label _ isnt same = absurd cc

pub not-assign : (at : ℕ) (targets : List Target) (values : List Expr) (other : Stmt-F Else Stmt If) → ((at' : ℕ) (targets' : List Target) (values' : List Expr) → other ≡ Stmt-F.Assign at' targets' values' → ⊥) → layer (Stmt-F.Assign at targets values) ≡ layer other → ⊥
not-assign at targets values (Stmt-F.Assign at' targets' values') isnt same = isnt at' targets' values' refl
not-assign at targets values _ isnt same = absurd cc

pub not-call : (at : ℕ) (attributes : List Attribute) (outs : List Name) (procedure : Name) (arguments : List Expr) (other : Stmt-F Else Stmt If) → ((at' : ℕ) (attributes' : List Attribute) (outs' : List Name) (procedure' : Name) (arguments' : List Expr) → other ≡ Stmt-F.Call at' attributes' outs' procedure' arguments' → ⊥) → layer (Stmt-F.Call at attributes outs procedure arguments) ≡ layer other → ⊥
not-call at attributes outs procedure arguments (Stmt-F.Call at' attributes' outs' procedure' arguments') isnt same = isnt at' attributes' outs' procedure' arguments' refl
not-call at attributes outs procedure arguments _ isnt same = absurd cc

pub not-if : (inner : If) (other : Stmt-F Else Stmt If) → ((inner' : If) → other ≡ Stmt-F.Stmt::If inner' → ⊥) → layer (Stmt-F.Stmt::If inner) ≡ layer other → ⊥
not-if inner (Stmt-F.Stmt::If inner') isnt same = isnt inner' refl
not-if inner _ isnt same = absurd cc

pub not-while : (at : ℕ) (attributes : List Attribute) (guard : Guard) (invariants : List Invariant) (body : List Stmt) (other : Stmt-F Else Stmt If) → ((at' : ℕ) (attributes' : List Attribute) (guard' : Guard) (invariants' : List Invariant) (body' : List Stmt) → other ≡ Stmt-F.While at' attributes' guard' invariants' body' → ⊥) → layer (Stmt-F.While at attributes guard invariants body) ≡ layer other → ⊥
not-while at attributes guard invariants body (Stmt-F.While at' attributes' guard' invariants' body') isnt same = isnt at' attributes' guard' invariants' body' refl
not-while at attributes guard invariants body _ isnt same = absurd cc
