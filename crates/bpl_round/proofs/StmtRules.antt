-- Statements: what was read is printed so that it reads again as a statement alike.
use Rattle.std.proofs.Common.{◌≡◌, ℕ, Bool, true, false, List, [], ◌∷◌, ◌++◌, map, Option, None, Some, refl, sym, ap, subst, ◌∙◌, codes, append_assoc}
use Rattle.std.specs.Prelude.{option_map}
use Rattle.std.specs.List.{flat_map, join_by}
use Rattle.bpl_ast.specs.Alike.{whole, spine, bare_name, bare_attribute, bare_expr, bare_guard, bare_target, bare_invariant, bare_stmt, bare_if, bare_else}
use Rattle.bpl_ast.specs.declared.expr.Expr.{Expr}
use Rattle.bpl_ast.specs.declared.name.Attribute.{Attribute}
use Rattle.bpl_ast.specs.declared.name.Name.{Name}
use Rattle.bpl_ast.specs.declared.stmt.Else.{Else}
use Rattle.bpl_ast.specs.declared.stmt.Else.TheVariants as others
use Rattle.bpl_ast.specs.declared.stmt.Guard.{Guard}
use Rattle.bpl_ast.specs.declared.stmt.Guard.TheVariants as guards
use Rattle.bpl_ast.specs.declared.stmt.If.{If}
use Rattle.bpl_ast.specs.declared.stmt.Invariant.{Invariant}
use Rattle.bpl_ast.specs.declared.stmt.Stmt.{Stmt}
use Rattle.bpl_ast.specs.declared.stmt.Stmt.TheVariants as stmts
use Rattle.bpl_ast.specs.declared.stmt.Target.{Target}
use Rattle.bpl_tok.specs.declared.token.Terminal.TheVariants as k
use Rattle.bpl_tok.specs.declared.token.Token.{Token}
use Rattle.bpl_parse.specs.declared.parts.CalledRest.{CalledRest}
use Rattle.bpl_parse.specs.declared.parts.CalledRest.TheVariants as calls
use Rattle.bpl_parse.specs.declared.parts.IfRest.{IfRest}
use Rattle.bpl_parse.specs.declared.parts.NamedRest.{NamedRest}
use Rattle.bpl_parse.specs.declared.parts.NamedRest.TheVariants as rests
use Rattle.bpl_parse.specs.declared.place.Place.TheVariants as at
use Rattle.bpl_parse.specs.Exprs.{arguments, expr}
use Rattle.bpl_parse.specs.Reader.{Levels, place_of}
use Rattle.bpl_parse.specs.Stmts.{after_target, target_index, target_of, next_target, values, assignment_of, assignment, named_stmt_of, named_stmt, condition, listing, assert_of, assertion, assume_of, assumption_stmt, havoc_of, havoc, goto_of, jump, return_of, return_stmt, break_of, break_stmt, outs_of, called_rest, call_at, call_of, call_stmt, simple, guard, after_brace, block, if_at, if_of, after_else_if, else_if, else_end, else_part, other_of, if_rest_of, if_rest, if_stmt_of, if_stmt, invariant_of, invariant, while_of, while_stmt, stmt, statements}
use Rattle.bpl_parse.specs.Tests.{is}
use Rattle.bpl_rules.specs.Rules.{one, seq, made, never, behind}
use Rattle.bpl_show.specs.Stmts.{block_of}
use Rattle.bpl_show.proofs.Equations.{stmt-label, stmt-assert, stmt-assume, stmt-havoc, stmt-goto, stmt-return, stmt-break, stmt-assign, stmt-call, stmt-if, stmt-while, else-absent, else-if, else-block, if-is}
use Rattle.bpl_show.specs.Exprs as exprs
use Rattle.bpl_show.specs.Names as names
use Rattle.bpl_show.specs.Stmts as show
use Rattle.bpl_show.specs.Tokens as shown
use Rattle.bpl_round.proofs.Again.{Stands, Again, Yields, one_again, seq_again, made_again, good_again, left_again, right_again, one_yields, seq_yields, made_yields, more_yields, alt_yields}
use Rattle.bpl_round.proofs.ExprRules.{ExprsAgain, argument_texts, arguments_renders, whole_nests}
use Rattle.bpl_round.proofs.ExprTails.{expr_reads}
use Rattle.bpl_round.proofs.Fits.{naked, Same}
use Rattle.bpl_round.proofs.Joined.{texts}
use Rattle.bpl_round.proofs.Known as known
use Rattle.bpl_round.proofs.Old.{name_renders}
use Rattle.bpl_round.proofs.Pairs.{Renders, Like, Nests, maybe_texts, flag_texts, nests_map, one_renders, seq_renders, made_renders, placed_renders, alt_renders, more_renders, behind_renders, ended_renders, flag_renders, maybe_renders, many_renders, separated_renders, nested_renders}
use Rattle.bpl_round.proofs.SortRules.{ap2, ap3, ap4, SortsNest, names_render, attributes_render}
use Rattle.bpl_round.proofs.StmtTrees.{bare-label, bare-assert, bare-assume, bare-havoc, bare-goto, bare-return, bare-break, bare-assign, bare-call, bare-if, bare-while, bare-else_if, bare-else_block, bare-if_is}
use Rattle.bpl_round.proofs.Texts.{texts_append, texts_flat, texts_join, texts_3, texts_4, texts_7, texts_8}

-- ---- what is printed of parts of statements

abbrev pub attribute_texts : List Attribute → List (List ℕ)
attribute_texts xs = texts (names.attributes xs)

abbrev pub stmts_texts : List Stmt → List (List ℕ)
stmts_texts xs = texts (flat_map show.stmt xs)

abbrev pub block_texts : List Stmt → List (List ℕ)
block_texts xs = codes "{" ∷ (stmts_texts xs ++ codes "}" ∷ [])

abbrev pub guard_texts : Guard → List (List ℕ)
guard_texts g = texts (show.guard g)

abbrev pub else_texts : Else → List (List ℕ)
else_texts x = texts (show.else_part x)

-- what stands after the word of an `if` or a `while`
abbrev pub header_texts : List Attribute → Guard → List (List ℕ) → List (List ℕ)
header_texts xs g more = attribute_texts xs ++ codes "(" ∷ ((guard_texts g ++ codes ")" ∷ []) ++ more)

abbrev pub rest_texts : IfRest → List (List ℕ)
rest_texts r = header_texts r.attributes r.guard (block_texts r.then ++ else_texts r.other)

abbrev pub LikeRest : IfRest → IfRest → Type 0
LikeRest x y = bare_if (if_at 0 y) ≡ bare_if (if_at 0 x)

header_is : (w : List ℕ) (xs : List Attribute) (g : Guard) (a b : List shown.Token) → texts (show.guarded w xs g ++ a ++ b) ≡ w ∷ header_texts xs g (texts a ++ texts b)
header_is w xs g a b =
    texts_7 (shown.word w) (names.attributes xs) (shown.word (codes "(")) (show.guard g) (shown.word (codes ")")) a b
    ∙ ap (λ ws. w ∷ (attribute_texts xs ++ codes "(" ∷ ws)) (sym (append_assoc (guard_texts g) (codes ")" ∷ []) (texts a ++ texts b)))

block_is : (xs : List Stmt) → texts (block_of xs) ≡ block_texts xs
block_is xs = texts_3 (shown.last (codes "{")) (flat_map show.stmt xs) (shown.last (codes "}"))

if_is : (place : ℕ) (r : IfRest) → texts (show.if_stmt (if_at place r)) ≡ codes "if" ∷ rest_texts r
if_is place r = ap texts (if-is (if_at place r)) ∙ header_is (codes "if") r.attributes r.guard (block_of r.then) (show.else_part r.other) ∙ ap (λ ws. codes "if" ∷ header_texts r.attributes r.guard (ws ++ else_texts r.other)) (block_is r.then)

bare_at : (here place : ℕ) (x y : IfRest) → LikeRest x y → bare_if (if_at here y) ≡ bare_if (if_at place x)
bare_at here place x y h = bare-if_is (if_at here y) ∙ sym (bare-if_is (if_at 0 y)) ∙ h ∙ bare-if_is (if_at 0 x) ∙ sym (bare-if_is (if_at place x))

pub record LevelsAgain (s s' : List ℕ) (l l' : Levels) : Type 0 where
  pub exprs : ExprsAgain s s' l l'
  pub sorts : SortsNest s s' l' l.sorts l'.sorts
  pub blocks : Nests (λ r r'. Renders s s' r.Spells r'.Spells stmts_texts (Like (map bare_stmt))) l.blocks l'.blocks
  pub ifs : Nests (λ r r'. Renders s s' r.Spells r'.Spells rest_texts LikeRest) l.ifs l'.ifs

-- ---- lists of expressions

map_bare : (xs : List Expr) → map bare_expr xs ≡ map whole (map spine xs)
map_bare [] = refl
map_bare (x ∷ xs) = ap (λ ys. bare_expr x ∷ ys) (map_bare xs)

bare_list : (xs ys : List Expr) → map spine ys ≡ map spine xs → map bare_expr ys ≡ map bare_expr xs
bare_list xs ys h = map_bare ys ∙ ap (map whole) h ∙ sym (map_bare xs)

-- ---- targets of assignments

abbrev index_one : Expr → List (List ℕ)
index_one x = codes "[" ∷ (naked x ++ codes "]" ∷ [])

abbrev index_texts : Option Expr → List (List ℕ)
index_texts o = maybe_texts index_one o

abbrev target_texts : Target → List (List ℕ)
target_texts t = texts (show.target t)

target_is : (n : Name) (o : Option Expr) → target_texts (record { name = n; index = o }) ≡ n.text ∷ index_texts o
target_is n None = refl
target_is n (Some x) = ap (λ ws. n.text ∷ ws) (texts_3 (shown.word (codes "[")) (exprs.whole x) (shown.word (codes "]")))

abbrev target_with : Name → Option Expr → Target
target_with n o = record { name = n; index = o }

-- what stands after the first name of a statement
abbrev named_texts : NamedRest → List (List ℕ)
named_texts rests.Label = codes ":" ∷ []
named_texts (rests.Assign index more right) = index_texts index ++ (flat_map (λ t. codes "," ∷ target_texts t) more ++ codes ":=" ∷ (join_by naked (codes "," ∷ []) right ++ codes ";" ∷ []))

abbrev LikeNamed : NamedRest → NamedRest → Type 0
LikeNamed rests.Label rests.Label = Unit {0}
LikeNamed rests.Label (rests.Assign j n q) = ⊥
LikeNamed (rests.Assign i m p) rests.Label = ⊥
LikeNamed (rests.Assign i m p) (rests.Assign j n q) = Like (option_map bare_expr) i j × Like (map bare_target) m n × Like (map bare_expr) p q

assign_is : (n : Name) (i : Option Expr) (more : List Target) (right : List Expr) → texts (show.stmt (stmts.Assign n.at (record { name = n; index = i } ∷ more) right)) ≡ n.text ∷ named_texts (rests.Assign i more right)
assign_is n i more right =
    let after = codes ":=" ∷ (join_by naked (codes "," ∷ []) right ++ codes ";" ∷ []) in
    ap texts (stmt-assign n.at (record { name = n; index = i } ∷ more) right)
    ∙ texts_4 (names.listed show.target (record { name = n; index = i } ∷ more)) (shown.word (codes ":=")) (names.listed exprs.whole right) (shown.last (codes ";"))
    ∙ ap (λ ws. texts (names.listed show.target (record { name = n; index = i } ∷ more)) ++ codes ":=" ∷ (ws ++ codes ";" ∷ [])) (texts_join exprs.whole (codes ",") right)
    ∙ ap (λ ws. ws ++ after) (texts_join show.target (codes ",") (record { name = n; index = i } ∷ more))
    ∙ ap (λ ws. (ws ++ flat_map (λ t. codes "," ∷ target_texts t) more) ++ after) (target_is n i)
    ∙ ap (λ ws. n.text ∷ ws) (append_assoc (index_texts i) (flat_map (λ t. codes "," ∷ target_texts t) more) after)

named_is : (n : Name) (r : NamedRest) → texts (show.stmt (named_stmt_of (n, r))) ≡ n.text ∷ named_texts r
named_is n rests.Label = ap texts (stmt-label n)
named_is n (rests.Assign i more right) = assign_is n i more right

named_good : (n m : Name) (r q : NamedRest) → bare_name m ≡ bare_name n → LikeNamed r q → bare_stmt (named_stmt_of (m, q)) ≡ bare_stmt (named_stmt_of (n, r))
named_good n m rests.Label rests.Label h g = bare-label m ∙ ap stmts.Label h ∙ sym (bare-label n)
named_good n m rests.Label (rests.Assign j b q) h g = absurd g
named_good n m (rests.Assign i a p) rests.Label h g = absurd g
named_good n m (rests.Assign i a p) (rests.Assign j b q) h g =
    bare-assign m.at (record { name = m; index = j } ∷ b) q
    ∙ ap2 (stmts.Assign 0) (ap2 (λ (t : Target) ts. t ∷ ts) (ap2 target_with h g.0) g.1) g.2
    ∙ sym (bare-assign n.at (record { name = n; index = i } ∷ a) p)

-- ---- calls

abbrev out_texts : Name → List (List ℕ)
out_texts n = codes "," ∷ n.text ∷ []

-- what stands after the first name of a call
abbrev called_texts : CalledRest → List (List ℕ)
called_texts (calls.Arguments args) = argument_texts args
called_texts (calls.Outs outs p args) = flat_map out_texts outs ++ codes ":=" ∷ p.text ∷ argument_texts args

abbrev LikeCalled : CalledRest → CalledRest → Type 0
LikeCalled (calls.Arguments xs) (calls.Arguments ys) = Like (map bare_expr) xs ys
LikeCalled (calls.Arguments xs) (calls.Outs b q ys) = ⊥
LikeCalled (calls.Outs a p xs) (calls.Arguments ys) = ⊥
LikeCalled (calls.Outs a p xs) (calls.Outs b q ys) = Like (map bare_name) a b × Like bare_name p q × Like (map bare_expr) xs ys

arguments_are : (args : List Expr) → codes "(" ∷ (texts (names.listed exprs.whole args) ++ codes ")" ∷ codes ";" ∷ []) ≡ argument_texts args ++ codes ";" ∷ []
arguments_are args = ap (λ ws. codes "(" ∷ (ws ++ codes ")" ∷ codes ";" ∷ [])) (texts_join exprs.whole (codes ",") args) ∙ ap (λ ws. codes "(" ∷ ws) (sym (append_assoc (join_by naked (codes "," ∷ []) args) (codes ")" ∷ []) (codes ";" ∷ [])))

call_is : (place : ℕ) (xs : List Attribute) (outs : List Name) (p : Name) (args : List Expr)
    → texts (show.stmt (stmts.Call place xs outs p args)) ≡ codes "call" ∷ (attribute_texts xs ++ (texts (show.taking outs) ++ p.text ∷ (argument_texts args ++ codes ";" ∷ [])))
call_is place xs outs p args =
    ap texts (stmt-call place xs outs p args)
    ∙ texts_8 (shown.word (codes "call")) (names.attributes xs) (show.taking outs) (names.name p) (shown.word (codes "(")) (names.listed exprs.whole args) (shown.word (codes ")")) (shown.last (codes ";"))
    ∙ ap (λ ws. codes "call" ∷ (attribute_texts xs ++ (texts (show.taking outs) ++ p.text ∷ ws))) (arguments_are args)

called_is : (place : ℕ) (xs : List Attribute) (n : Name) (r : CalledRest) → texts (show.stmt (call_at place xs n r)) ≡ codes "call" ∷ (attribute_texts xs ++ ((n.text ∷ called_texts r) ++ codes ";" ∷ []))
called_is place xs n (calls.Arguments args) = call_is place xs [] n args
called_is place xs n (calls.Outs outs p args) =
    let tail = p.text ∷ (argument_texts args ++ codes ";" ∷ []) in
    call_is place xs (n ∷ outs) p args
    ∙ ap (λ ws. codes "call" ∷ (attribute_texts xs ++ (ws ++ tail))) (texts_append (names.names (n ∷ outs)) (shown.word (codes ":=")))
    ∙ ap (λ ws. codes "call" ∷ (attribute_texts xs ++ ((ws ++ codes ":=" ∷ []) ++ tail))) (texts_join names.name (codes ",") (n ∷ outs))
    ∙ ap (λ ws. codes "call" ∷ (attribute_texts xs ++ n.text ∷ ws)) (append_assoc (flat_map out_texts outs) (codes ":=" ∷ []) tail ∙ sym (append_assoc (flat_map out_texts outs) (codes ":=" ∷ p.text ∷ argument_texts args) (codes ";" ∷ [])))

called_good : (here place : ℕ) (xs ys : List Attribute) (n m : Name) (r q : CalledRest) → Like (map bare_attribute) xs ys → Like bare_name n m → LikeCalled r q → bare_stmt (call_at here ys m q) ≡ bare_stmt (call_at place xs n r)
called_good here place xs ys n m (calls.Arguments a) (calls.Arguments b) h g i = bare-call here ys [] m b ∙ ap3 (λ attributes p args. stmts.Call 0 attributes [] p args) h g i ∙ sym (bare-call place xs [] n a)
called_good here place xs ys n m (calls.Arguments a) (calls.Outs c q b) h g i = absurd i
called_good here place xs ys n m (calls.Outs c p a) (calls.Arguments b) h g i = absurd i
called_good here place xs ys n m (calls.Outs c p a) (calls.Outs d q b) h g i =
    bare-call here ys (m ∷ d) q b ∙ ap4 (stmts.Call 0) h (ap2 (λ (x : Name) zs. x ∷ zs) g i.0) i.1 i.2 ∙ sym (bare-call place xs (n ∷ c) p a)

-- ---- small parts

maybe_name_is : (o : Option Name) → texts (show.maybe_name o) ≡ maybe_texts (λ n. n.text ∷ []) o
maybe_name_is None = refl
maybe_name_is (Some n) = refl

maybe_free_is : (b : Bool) → texts (show.maybe_free b) ≡ flag_texts (codes "free") b
maybe_free_is true = refl
maybe_free_is false = refl

pub condition_is : (w : List ℕ) (xs : List Attribute) (x : Expr) → texts (show.condition w xs x) ≡ w ∷ (attribute_texts xs ++ (naked x ++ codes ";" ∷ []))
condition_is w xs x = texts_4 (shown.word w) (names.attributes xs) (exprs.whole x) (shown.last (codes ";"))

pub naming_is : (w : List ℕ) (xs : List Attribute) (ns : List Name) → texts (show.naming w xs ns) ≡ w ∷ (attribute_texts xs ++ (texts (names.names ns) ++ codes ";" ∷ []))
naming_is w xs ns = texts_4 (shown.word w) (names.attributes xs) (names.names ns) (shown.last (codes ";"))

other_is : (o : Option Else) → else_texts (other_of o) ≡ maybe_texts else_texts o
other_is None = ap texts else-absent
other_is (Some x) = refl

other_good : (o p : Option Else) → Like (option_map bare_else) o p → bare_else (other_of p) ≡ bare_else (other_of o)
other_good None None h = refl
other_good None (Some y) h = absurd cc
other_good (Some x) None h = absurd cc
other_good (Some x) (Some y) h = cc

abbrev if_with : List Attribute → Guard → List Stmt → Else → If
if_with xs g body other = record { at = 0; attributes = xs; guard = g; then = body; other = other }

abbrev invariant_with : Bool → List Attribute → Expr → Invariant
invariant_with free xs x = record { at = 0; free = free; attributes = xs; condition = x }

-- any texts of an `else`, whose first token is the word
record Elsed (s' : List ℕ) (S : List Token → Else → Type 0) (x : Else) : Type 0 where
  pub rest : List (List ℕ)
  pub shows : else_texts x ≡ codes "else" ∷ rest
  pub again : Again s' S rest (Like bare_else x)

module _ (s s' : List ℕ) (l l' : Levels) (L : LevelsAgain s s' l l') where
  pub expr_renders : Renders s s' (expr s l).Spells (expr s' l').Spells naked (Like bare_expr)
  expr_renders = record { each = more_yields s (expr s l).Spells _ _ (expr_reads s s' l l' L.exprs) (λ x f. good_again s' (expr s' l').Spells (naked x) (Same x) (Like bare_expr x) f.here (λ y g. ap whole g.0)) }

  args_render : Renders s s' (arguments l).Spells (arguments l').Spells argument_texts (Like (map bare_expr))
  args_render = more_renders s s' argument_texts (Like (map bare_expr)) (arguments_renders s s' l l' L.exprs) (λ x. refl) bare_list

  -- ---- statements that begin with a name

  index_nests : Nests (λ r r'. Renders s s' (after_target r).Spells (after_target r').Spells (λ x. naked x ++ codes "]" ∷ []) (Like bare_expr)) l.exprs l'.exprs
  index_nests = nests_map (λ r r'. Renders s s' r.Spells r'.Spells naked (Like spine)) (λ r r'. Renders s s' (after_target r).Spells (after_target r').Spells (λ x. naked x ++ codes "]" ∷ []) (Like bare_expr)) l.exprs l'.exprs
      (λ r r' y. ended_renders s s' at.AfterIndex k.RightBracket (codes "]") (more_renders s s' naked (Like bare_expr) y (λ x. refl) (λ x z h. ap whole h)) known.right_bracket) (whole_nests s s' l l' L.exprs)

  target_index_renders : Renders s s' (target_index l).Spells (target_index l').Spells index_one (Like bare_expr)
  unfolding target_index
  target_index_renders = nested_renders s s' at.Other k.LeftBracket (codes "[") never (λ x. x.1) after_target (λ x. naked x ++ codes "]" ∷ []) (Like bare_expr) index_one (Like bare_expr) l.exprs l'.exprs known.left_bracket index_nests (λ x. refl) (λ x y h. h)

  next_target_renders : Renders s s' (next_target s l).Spells (next_target s' l').Spells (λ t. codes "," ∷ target_texts t) (Like bare_target)
  unfolding next_target
  next_target_renders = behind_renders s s' at.Other k.Comma (codes ",") known.comma
      (made_renders s s' target_of target_texts (Like bare_target) (seq_renders s s' (name_renders s s' at.Other) (maybe_renders s s' bare_expr target_index_renders)) (λ x. target_is x.0 x.1) (λ x y h. ap2 target_with h.0 h.1))

  values_render : Renders s s' (values s l).Spells (values s' l').Spells (λ xs. join_by naked (codes "," ∷ []) xs ++ codes ";" ∷ []) (Like (map bare_expr))
  unfolding values
  values_render = ended_renders s s' at.AfterOperand k.Semicolon (codes ";") (separated_renders s s' at.AfterOperand k.Comma (codes ",") bare_expr known.comma expr_renders) known.semicolon

  assignment_renders : Renders s s' (assignment s l).Spells (assignment s' l').Spells named_texts LikeNamed
  unfolding assignment
  assignment_renders = made_renders s s' assignment_of named_texts LikeNamed
      (seq_renders s s' (maybe_renders s s' bare_expr target_index_renders) (seq_renders s s' (many_renders s s' bare_target next_target_renders) (behind_renders s s' at.Other k.Assign (codes ":=") known.assign values_render)))
      (λ x. refl) (λ x y h. (h.0, h.1.0, h.1.1))

  named_stmt_renders : Renders s s' (named_stmt s l).Spells (named_stmt s' l').Spells (λ x. texts (show.stmt x)) (Like bare_stmt)
  unfolding named_stmt
  named_stmt_renders = made_renders s s' named_stmt_of (λ x. texts (show.stmt x)) (Like bare_stmt)
      (seq_renders s s' (name_renders s s' at.Statement) (alt_renders s s' (made_renders s s' (λ t. rests.Label) named_texts LikeNamed (one_renders s s' at.Other k.Colon (codes ":") known.colon) (λ x. refl) (λ x y h. tt)) assignment_renders))
      (λ x. named_is x.0 x.1) (λ x y h. named_good x.0 y.0 x.1 y.1 h.0 h.1)

  -- ---- statements of one line

  pub condition_renders : Renders s s' (condition s l).Spells (condition s' l').Spells (λ x. attribute_texts x.0 ++ (naked x.1 ++ codes ";" ∷ [])) (λ x y. Like (map bare_attribute) x.0 y.0 × Like bare_expr x.1 y.1)
  condition_renders = seq_renders s s' (attributes_render s s') (ended_renders s s' at.AfterOperand k.Semicolon (codes ";") expr_renders known.semicolon)

  listing_renders : Renders s s' (listing s).Spells (listing s').Spells (λ x. attribute_texts x.0 ++ (texts (names.names x.1) ++ codes ";" ∷ [])) (λ x y. Like (map bare_attribute) x.0 y.0 × Like (map bare_name) x.1 y.1)
  listing_renders = seq_renders s s' (attributes_render s s') (ended_renders s s' at.Other k.Semicolon (codes ";") (names_render s s') known.semicolon)

  assertion_renders : Renders s s' (assertion s l).Spells (assertion s' l').Spells (λ x. texts (show.stmt x)) (Like bare_stmt)
  unfolding assertion
  assertion_renders = made_renders s s' assert_of (λ x. texts (show.stmt x)) (Like bare_stmt) (seq_renders s s' (one_renders s s' at.Statement k.Assert (codes "assert") known.assert_word) condition_renders)
      (λ x. ap texts (stmt-assert x.0.at x.1.0 x.1.1) ∙ condition_is (codes "assert") x.1.0 x.1.1)
      (λ x y h. bare-assert y.0.at y.1.0 y.1.1 ∙ ap2 (stmts.Assert 0) h.1.0 h.1.1 ∙ sym (bare-assert x.0.at x.1.0 x.1.1))

  assume_renders : Renders s s' (assumption_stmt s l).Spells (assumption_stmt s' l').Spells (λ x. texts (show.stmt x)) (Like bare_stmt)
  unfolding assumption_stmt
  assume_renders = made_renders s s' assume_of (λ x. texts (show.stmt x)) (Like bare_stmt) (seq_renders s s' (one_renders s s' at.Statement k.Assume (codes "assume") known.assume_word) condition_renders)
      (λ x. ap texts (stmt-assume x.0.at x.1.0 x.1.1) ∙ condition_is (codes "assume") x.1.0 x.1.1)
      (λ x y h. bare-assume y.0.at y.1.0 y.1.1 ∙ ap2 (stmts.Assume 0) h.1.0 h.1.1 ∙ sym (bare-assume x.0.at x.1.0 x.1.1))

  havoc_renders : Renders s s' (havoc s).Spells (havoc s').Spells (λ x. texts (show.stmt x)) (Like bare_stmt)
  unfolding havoc
  havoc_renders = made_renders s s' havoc_of (λ x. texts (show.stmt x)) (Like bare_stmt) (seq_renders s s' (one_renders s s' at.Statement k.Havoc (codes "havoc") known.havoc_word) listing_renders)
      (λ x. ap texts (stmt-havoc x.0.at x.1.0 x.1.1) ∙ naming_is (codes "havoc") x.1.0 x.1.1)
      (λ x y h. bare-havoc y.0.at y.1.0 y.1.1 ∙ ap2 (stmts.Havoc 0) h.1.0 h.1.1 ∙ sym (bare-havoc x.0.at x.1.0 x.1.1))

  jump_renders : Renders s s' (jump s).Spells (jump s').Spells (λ x. texts (show.stmt x)) (Like bare_stmt)
  unfolding jump
  jump_renders = made_renders s s' goto_of (λ x. texts (show.stmt x)) (Like bare_stmt) (seq_renders s s' (one_renders s s' at.Statement k.Goto (codes "goto") known.goto_word) listing_renders)
      (λ x. ap texts (stmt-goto x.0.at x.1.0 x.1.1) ∙ naming_is (codes "goto") x.1.0 x.1.1)
      (λ x y h. bare-goto y.0.at y.1.0 y.1.1 ∙ ap2 (stmts.Goto 0) h.1.0 h.1.1 ∙ sym (bare-goto x.0.at x.1.0 x.1.1))

  return_renders : Renders s s' (return_stmt s).Spells (return_stmt s').Spells (λ x. texts (show.stmt x)) (Like bare_stmt)
  unfolding return_stmt
  return_renders = made_renders s s' return_of (λ x. texts (show.stmt x)) (Like bare_stmt)
      (seq_renders s s' (one_renders s s' at.Statement k.Return (codes "return") known.return_word) (ended_renders s s' at.Other k.Semicolon (codes ";") (attributes_render s s') known.semicolon))
      (λ x. ap texts (stmt-return x.0.at x.1) ∙ texts_3 (shown.word (codes "return")) (names.attributes x.1) (shown.last (codes ";")))
      (λ x y h. bare-return y.0.at y.1 ∙ ap (stmts.Return 0) h.1 ∙ sym (bare-return x.0.at x.1))

  break_renders : Renders s s' (break_stmt s).Spells (break_stmt s').Spells (λ x. texts (show.stmt x)) (Like bare_stmt)
  unfolding break_stmt
  break_renders = made_renders s s' break_of (λ x. texts (show.stmt x)) (Like bare_stmt)
      (seq_renders s s' (one_renders s s' at.Statement k.Break (codes "break") known.break_word) (seq_renders s s' (attributes_render s s') (ended_renders s s' at.Other k.Semicolon (codes ";") (maybe_renders s s' bare_name (name_renders s s' at.Other)) known.semicolon)))
      (λ x. ap texts (stmt-break x.0.at x.1.0 x.1.1) ∙ texts_4 (shown.word (codes "break")) (names.attributes x.1.0) (show.maybe_name x.1.1) (shown.last (codes ";")) ∙ ap (λ ws. codes "break" ∷ (attribute_texts x.1.0 ++ (ws ++ codes ";" ∷ []))) (maybe_name_is x.1.1))
      (λ x y h. bare-break y.0.at y.1.0 y.1.1 ∙ ap2 (stmts.Break 0) h.1.0 h.1.1 ∙ sym (bare-break x.0.at x.1.0 x.1.1))

  called_rest_renders : Renders s s' (called_rest s l).Spells (called_rest s' l').Spells called_texts LikeCalled
  called_rest_renders =
      alt_renders s s'
      (made_renders s s' calls.Arguments called_texts LikeCalled args_render (λ x. refl) (λ x y h. h))
      (made_renders s s' outs_of called_texts LikeCalled
      (seq_renders s s' (many_renders s s' bare_name (behind_renders s s' at.Other k.Comma (codes ",") known.comma (name_renders s s' at.Other))) (behind_renders s s' at.Other k.Assign (codes ":=") known.assign (seq_renders s s' (name_renders s s' at.Other) args_render)))
      (λ x. refl) (λ x y h. (h.0, h.1.0, h.1.1)))

  call_renders : Renders s s' (call_stmt s l).Spells (call_stmt s' l').Spells (λ x. texts (show.stmt x)) (Like bare_stmt)
  unfolding call_stmt
  call_renders = made_renders s s' call_of (λ x. texts (show.stmt x)) (Like bare_stmt)
      (seq_renders s s' (one_renders s s' at.Statement k.Call (codes "call") known.call_word) (seq_renders s s' (attributes_render s s') (ended_renders s s' at.Other k.Semicolon (codes ";") (seq_renders s s' (name_renders s s' at.Called) called_rest_renders) known.semicolon)))
      (λ x. called_is x.0.at x.1.0 x.1.1.0 x.1.1.1) (λ x y h. called_good y.0.at x.0.at x.1.0 y.1.0 x.1.1.0 y.1.1.0 x.1.1.1 y.1.1.1 h.1.0 h.1.1.0 h.1.1.1)

  simple_renders : Renders s s' (simple s l).Spells (simple s' l').Spells (λ x. texts (show.stmt x)) (Like bare_stmt)
  unfolding simple
  simple_renders = alt_renders s s' assertion_renders (alt_renders s s' assume_renders (alt_renders s s' havoc_renders (alt_renders s s' jump_renders (alt_renders s s' return_renders (alt_renders s s' break_renders call_renders)))))

  -- ---- guards and blocks

  guard_renders : Renders s s' (guard s l).Spells (guard s' l').Spells (λ g. guard_texts g ++ codes ")" ∷ []) (Like bare_guard)
  unfolding guard
  guard_renders =
      alt_renders s s'
      (ended_renders s s' at.Other k.RightParen (codes ")") (made_renders s s' (λ t. guards.Any t.at) guard_texts (Like bare_guard) (one_renders s s' at.Operand k.Star (codes "*") known.star) (λ x. refl) (λ x y h. refl)) known.right_paren)
      (ended_renders s s' at.AfterOperand k.RightParen (codes ")") (made_renders s s' guards.Condition guard_texts (Like bare_guard) expr_renders (λ x. refl) (λ x y h. ap guards.Condition h)) known.right_paren)

  block_renders : Renders s s' (block l).Spells (block l').Spells block_texts (Like (map bare_stmt))
  unfolding block
  block_renders = nested_renders s s' at.Other k.LeftBrace (codes "{") never (λ x. x.1) after_brace (λ xs. stmts_texts xs ++ codes "}" ∷ []) (Like (map bare_stmt)) block_texts (Like (map bare_stmt)) l.blocks l'.blocks known.left_brace
      (nests_map (λ r r'. Renders s s' r.Spells r'.Spells stmts_texts (Like (map bare_stmt))) (λ r r'. Renders s s' (after_brace r).Spells (after_brace r').Spells (λ xs. stmts_texts xs ++ codes "}" ∷ []) (Like (map bare_stmt))) l.blocks l'.blocks (λ r r' y. ended_renders s s' at.Statement k.RightBrace (codes "}") y known.right_brace) L.blocks)
      (λ x. refl) (λ x y h. h)

  -- ---- if

  else_if_renders : Renders s s' (else_if l).Spells (else_if l').Spells (λ x. texts (show.if_stmt x)) (Like bare_if)
  unfolding else_if
  else_if_renders = nested_renders s s' at.Other k.If (codes "if") (is k.Else) if_of after_else_if rest_texts LikeRest (λ x. texts (show.if_stmt x)) (Like bare_if) l.ifs l'.ifs known.if_word L.ifs (λ x. if_is x.0.at x.1) (λ x y h. bare_at y.0.at x.0.at x.1 y.1 h)

  else_end_yields : Yields s (else_end l).Spells (Elsed s' (else_end l').Spells)
  else_end_yields =
      alt_yields s (made others.If (else_if l)).Spells (made others.Block (block l)).Spells _
      (made_yields s others.If (else_if l) _ _ else_if_renders.each (λ x c. record {
        rest = texts (show.if_stmt x);
        shows = ap texts (else-if x);
        again = left_again s' (made others.If (else_if l')).Spells _ (texts (show.if_stmt x)) (Like bare_else (others.If x))
            (made_again s' others.If (else_if l') (texts (show.if_stmt x)) (Like bare_if x) (Like bare_else (others.If x)) c (λ y h. bare-else_if y ∙ ap others.If h ∙ sym (bare-else_if x)));
      }))
      (made_yields s others.Block (block l) _ _ block_renders.each (λ x c. record {
        rest = block_texts x;
        shows = ap texts (else-block x) ∙ ap (λ ws. codes "else" ∷ ws) (block_is x);
        again = right_again s' (made others.If (else_if l')).Spells _ (block_texts x) (Like bare_else (others.Block x))
            (made_again s' others.Block (block l') (block_texts x) (Like (map bare_stmt) x) (Like bare_else (others.Block x)) c (λ y h. bare-else_block y ∙ ap others.Block h ∙ sym (bare-else_block x)));
      }))

  else_part_renders : Renders s s' (else_part l).Spells (else_part l').Spells else_texts (Like bare_else)
  unfolding else_part
  else_part_renders = record {
    each = made_yields s (λ x. x.1) (seq (one at.Other (is k.Else)) (else_end l)) _ _ (seq_yields s (one at.Other (is k.Else)) (else_end l) _ _ (one_yields s (is k.Else)) else_end_yields)
        (λ x c. subst (λ (ws : List (List ℕ)). Again s' (behind at.Other (is k.Else) (else_end l')).Spells ws (Like bare_else x.1)) (sym c.1.shows)
        (made_again s' (λ x. x.1) (seq (one at.Other (is k.Else)) (else_end l')) (codes "else" ∷ c.1.rest) (λ z. Stands s' (codes "else") z.0 × Like bare_else x.1 z.1) (Like bare_else x.1)
        (seq_again s' (one at.Other (is k.Else)) (else_end l') (codes "else" ∷ []) c.1.rest (Stands s' (codes "else")) (Like bare_else x.1) (one_again s' at.Other k.Else (codes "else") known.else_word) c.1.again) (λ z p. p.1)));
  }

  pub if_rest_renders : Renders s s' (if_rest s l).Spells (if_rest s' l').Spells rest_texts LikeRest
  unfolding if_rest
  if_rest_renders = made_renders s s' if_rest_of rest_texts LikeRest
      (seq_renders s s' (attributes_render s s') (behind_renders s s' at.Other k.LeftParen (codes "(") known.left_paren (seq_renders s s' guard_renders (seq_renders s s' block_renders (maybe_renders s s' bare_else else_part_renders)))))
      (λ x. ap (λ ws. header_texts x.0 x.1.0 (block_texts x.1.1.0 ++ ws)) (other_is x.1.1.1))
      (λ x y h. bare-if_is (if_at 0 (if_rest_of y)) ∙ ap4 if_with h.0 h.1.0 h.1.1.0 (other_good x.1.1.1 y.1.1.1 h.1.1.1) ∙ sym (bare-if_is (if_at 0 (if_rest_of x))))

  if_stmt_renders : Renders s s' (if_stmt s l).Spells (if_stmt s' l').Spells (λ x. texts (show.stmt x)) (Like bare_stmt)
  unfolding if_stmt
  if_stmt_renders = made_renders s s' if_stmt_of (λ x. texts (show.stmt x)) (Like bare_stmt) (seq_renders s s' (one_renders s s' at.Statement k.If (codes "if") known.if_word) if_rest_renders)
      (λ x. ap texts (stmt-if (if_of x)) ∙ if_is x.0.at x.1)
      (λ x y h. bare-if (if_of y) ∙ ap stmts.If (bare_at y.0.at x.0.at x.1 y.1 h.1) ∙ sym (bare-if (if_of x)))

  -- ---- while

  invariant_renders : Renders s s' (invariant s l).Spells (invariant s' l').Spells (λ x. texts (show.invariant x)) (Like bare_invariant)
  unfolding invariant
  invariant_renders = placed_renders s s' (λ t. invariant_of (place_of t)) (λ x. texts (show.invariant x)) (Like bare_invariant)
      (seq_renders s s' (flag_renders s s' at.Other k.Free (codes "free") known.free_word) (behind_renders s s' at.Other k.Invariant (codes "invariant") known.invariant_word condition_renders))
      (λ t x. texts_append (show.maybe_free x.0) (show.condition (codes "invariant") x.1.0 x.1.1) ∙ ap2 (λ a b. a ++ b) (maybe_free_is x.0) (condition_is (codes "invariant") x.1.0 x.1.1))
      (λ t u x y h. ap3 invariant_with h.0 h.1.0 h.1.1)

  while_renders : Renders s s' (while_stmt s l).Spells (while_stmt s' l').Spells (λ x. texts (show.stmt x)) (Like bare_stmt)
  unfolding while_stmt
  while_renders = made_renders s s' while_of (λ x. texts (show.stmt x)) (Like bare_stmt)
      (seq_renders s s' (one_renders s s' at.Statement k.While (codes "while") known.while_word) (seq_renders s s' (attributes_render s s') (behind_renders s s' at.Other k.LeftParen (codes "(") known.left_paren (seq_renders s s' guard_renders (seq_renders s s' (many_renders s s' bare_invariant invariant_renders) block_renders)))))
      (λ x. ap texts (stmt-while x.0.at x.1.0 x.1.1.0 x.1.1.1.0 x.1.1.1.1) ∙ header_is (codes "while") x.1.0 x.1.1.0 (flat_map show.invariant x.1.1.1.0) (block_of x.1.1.1.1)
      ∙ ap2 (λ a b. codes "while" ∷ header_texts x.1.0 x.1.1.0 (a ++ b)) (texts_flat show.invariant x.1.1.1.0) (block_is x.1.1.1.1))
      (λ x y h. bare-while y.0.at y.1.0 y.1.1.0 y.1.1.1.0 y.1.1.1.1 ∙ ap4 (stmts.While 0) h.1.0 h.1.1.0 h.1.1.1.0 h.1.1.1.1 ∙ sym (bare-while x.0.at x.1.0 x.1.1.0 x.1.1.1.0 x.1.1.1.1))

  -- ---- all statements

  stmt_renders : Renders s s' (stmt s l).Spells (stmt s' l').Spells (λ x. texts (show.stmt x)) (Like bare_stmt)
  unfolding stmt
  stmt_renders = alt_renders s s' simple_renders (alt_renders s s' if_stmt_renders (alt_renders s s' while_renders named_stmt_renders))

  pub statements_render : Renders s s' (statements s l).Spells (statements s' l').Spells stmts_texts (Like (map bare_stmt))
  unfolding statements
  statements_render = more_renders s s' stmts_texts (Like (map bare_stmt)) (many_renders s s' bare_stmt stmt_renders) (λ xs. texts_flat show.stmt xs) (λ x y h. h)
