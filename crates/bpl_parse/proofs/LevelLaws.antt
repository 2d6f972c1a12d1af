-- Each nested form at the last level, and above it.
use Rattle.std.proofs.Common.{◌≡◌, ℕ, suc, ◌-◌, ◌<◌, List, Result, Err, refl, ap, ◌∙◌, arith}
use Rattle.bpl_parse.specs.Decls.{levels}
use Rattle.bpl_parse.specs.Exprs.{arguments, after_arguments, group, after_group, suffix, after_bracket, negation, negation_of, after_bang, right, after_implies, choice, choice_of, after_if, expr, implication, unary}
use Rattle.bpl_parse.specs.Gives.{Fails, IsHalt, at_bottom}
use Rattle.bpl_parse.specs.Sorts.{map_sort, map_of, after_map, sort_group, after_sort_group, sort}
use Rattle.bpl_parse.specs.Stmts.{target_index, after_target, block, after_brace, else_if, if_of, after_else_if, if_rest, statements}
use Rattle.bpl_parse.specs.Tests.{is, follows_post, follows_impl, follows_expr}
use Rattle.bpl_parse.specs.declared.error.ReadError.TheVariants as errors
use Rattle.bpl_parse.specs.declared.error.ReadError.{ReadError}
use Rattle.bpl_parse.specs.declared.place.Place.TheVariants as at
use Rattle.bpl_parse.specs.declared.place.Place.{Place}
use Rattle.bpl_rules.proofs.Nested.{bottom_run, above_run}
use Rattle.bpl_rules.specs.Rules.{Halt, bottom, above, never, form}
use Rattle.bpl_tok.specs.declared.token.Terminal.TheVariants as k
use Rattle.bpl_tok.specs.declared.token.Terminal.{Terminal}
use Rattle.bpl_tok.specs.declared.token.Token.{Token}

-- a fault at the last level
pub fails_at : {Y : Type 0} (e : ReadError) (kind : Terminal) (place : Place) (ts : List Token) (read : Result Y (Halt Place Token)) → IsHalt e (at_bottom kind place ts) → read ≡ Err (at_bottom kind place ts) → Fails e read
fails_at errors.Memory kind place ts read h r = tt
fails_at (errors.Stop stop left) kind place ts read h r = r ∙ ap Err h

sorts_bottom : (s : List ℕ) (d : ℕ) → d ≡ 0 → (levels s d).sorts ≡ bottom
unfolding levels
sorts_bottom s d same = rw same refl

sorts_suc : (s : List ℕ) (n d : ℕ) → d ≡ suc n → (levels s d).sorts ≡ above (sort s (levels s n))
unfolding levels
sorts_suc s n d same = rw same refl

sorts_above : (s : List ℕ) (d : ℕ) → 0 < d → (levels s d).sorts ≡ above (sort s (levels s (d - 1)))
sorts_above s d lt = sorts_suc s (d - 1) d (omega arith)

exprs_bottom : (s : List ℕ) (d : ℕ) → d ≡ 0 → (levels s d).exprs ≡ bottom
unfolding levels
exprs_bottom s d same = rw same refl

exprs_suc : (s : List ℕ) (n d : ℕ) → d ≡ suc n → (levels s d).exprs ≡ above (expr s (levels s n))
unfolding levels
exprs_suc s n d same = rw same refl

exprs_above : (s : List ℕ) (d : ℕ) → 0 < d → (levels s d).exprs ≡ above (expr s (levels s (d - 1)))
exprs_above s d lt = exprs_suc s (d - 1) d (omega arith)

impls_bottom : (s : List ℕ) (d : ℕ) → d ≡ 0 → (levels s d).impls ≡ bottom
unfolding levels
impls_bottom s d same = rw same refl

impls_suc : (s : List ℕ) (n d : ℕ) → d ≡ suc n → (levels s d).impls ≡ above (implication s (levels s n))
unfolding levels
impls_suc s n d same = rw same refl

impls_above : (s : List ℕ) (d : ℕ) → 0 < d → (levels s d).impls ≡ above (implication s (levels s (d - 1)))
impls_above s d lt = impls_suc s (d - 1) d (omega arith)

unaries_bottom : (s : List ℕ) (d : ℕ) → d ≡ 0 → (levels s d).unaries ≡ bottom
unfolding levels
unaries_bottom s d same = rw same refl

unaries_suc : (s : List ℕ) (n d : ℕ) → d ≡ suc n → (levels s d).unaries ≡ above (unary s (levels s n))
unfolding levels
unaries_suc s n d same = rw same refl

unaries_above : (s : List ℕ) (d : ℕ) → 0 < d → (levels s d).unaries ≡ above (unary s (levels s (d - 1)))
unaries_above s d lt = unaries_suc s (d - 1) d (omega arith)

blocks_bottom : (s : List ℕ) (d : ℕ) → d ≡ 0 → (levels s d).blocks ≡ bottom
unfolding levels
blocks_bottom s d same = rw same refl

blocks_suc : (s : List ℕ) (n d : ℕ) → d ≡ suc n → (levels s d).blocks ≡ above (statements s (levels s n))
unfolding levels
blocks_suc s n d same = rw same refl

blocks_above : (s : List ℕ) (d : ℕ) → 0 < d → (levels s d).blocks ≡ above (statements s (levels s (d - 1)))
blocks_above s d lt = blocks_suc s (d - 1) d (omega arith)

ifs_bottom : (s : List ℕ) (d : ℕ) → d ≡ 0 → (levels s d).ifs ≡ bottom
unfolding levels
ifs_bottom s d same = rw same refl

ifs_suc : (s : List ℕ) (n d : ℕ) → d ≡ suc n → (levels s d).ifs ≡ above (if_rest s (levels s n))
unfolding levels
ifs_suc s n d same = rw same refl

ifs_above : (s : List ℕ) (d : ℕ) → 0 < d → (levels s d).ifs ≡ above (if_rest s (levels s (d - 1)))
ifs_above s d lt = ifs_suc s (d - 1) d (omega arith)

pub map_sort_bottom : (s : List ℕ) (d : ℕ) (ts : List Token) → d ≡ 0 → (map_sort (levels s d)).run ts ≡ Err (at_bottom k.LeftBracket at.Sort ts)
unfolding map_sort
map_sort_bottom s d ts none = bottom_run at.Sort (is k.LeftBracket) never map_of after_map (levels s d).sorts (sorts_bottom s d none) ts

pub map_sort_above : (s : List ℕ) (d : ℕ) (ts : List Token) → 0 < d → (map_sort (levels s d)).run ts ≡ (form at.Sort (is k.LeftBracket) map_of after_map (sort s (levels s (d - 1)))).run ts
unfolding map_sort
map_sort_above s d ts lt = above_run at.Sort (is k.LeftBracket) never map_of after_map (levels s d).sorts (sort s (levels s (d - 1))) (sorts_above s d lt) ts

pub sort_group_bottom : (s : List ℕ) (d : ℕ) (ts : List Token) → d ≡ 0 → (sort_group (levels s d)).run ts ≡ Err (at_bottom k.LeftParen at.Sort ts)
unfolding sort_group
sort_group_bottom s d ts none = bottom_run at.Sort (is k.LeftParen) never (λ x. x.1) after_sort_group (levels s d).sorts (sorts_bottom s d none) ts

pub sort_group_above : (s : List ℕ) (d : ℕ) (ts : List Token) → 0 < d → (sort_group (levels s d)).run ts ≡ (form at.Sort (is k.LeftParen) (λ x. x.1) after_sort_group (sort s (levels s (d - 1)))).run ts
unfolding sort_group
sort_group_above s d ts lt = above_run at.Sort (is k.LeftParen) never (λ x. x.1) after_sort_group (levels s d).sorts (sort s (levels s (d - 1))) (sorts_above s d lt) ts

pub arguments_bottom : (s : List ℕ) (d : ℕ) (ts : List Token) → d ≡ 0 → (arguments (levels s d)).run ts ≡ Err (at_bottom k.LeftParen at.Other ts)
unfolding arguments
arguments_bottom s d ts none = bottom_run at.Other (is k.LeftParen) never (λ x. x.1) after_arguments (levels s d).exprs (exprs_bottom s d none) ts

pub arguments_above : (s : List ℕ) (d : ℕ) (ts : List Token) → 0 < d → (arguments (levels s d)).run ts ≡ (form at.Other (is k.LeftParen) (λ x. x.1) after_arguments (expr s (levels s (d - 1)))).run ts
unfolding arguments
arguments_above s d ts lt = above_run at.Other (is k.LeftParen) never (λ x. x.1) after_arguments (levels s d).exprs (expr s (levels s (d - 1))) (exprs_above s d lt) ts

pub group_bottom : (s : List ℕ) (d : ℕ) (ts : List Token) → d ≡ 0 → (group (levels s d)).run ts ≡ Err (at_bottom k.LeftParen at.Operand ts)
unfolding group
group_bottom s d ts none = bottom_run at.Operand (is k.LeftParen) never (λ x. x.1) after_group (levels s d).exprs (exprs_bottom s d none) ts

pub group_above : (s : List ℕ) (d : ℕ) (ts : List Token) → 0 < d → (group (levels s d)).run ts ≡ (form at.Operand (is k.LeftParen) (λ x. x.1) after_group (expr s (levels s (d - 1)))).run ts
unfolding group
group_above s d ts lt = above_run at.Operand (is k.LeftParen) never (λ x. x.1) after_group (levels s d).exprs (expr s (levels s (d - 1))) (exprs_above s d lt) ts

pub suffix_bottom : (s : List ℕ) (d : ℕ) (ts : List Token) → d ≡ 0 → (suffix (levels s d)).run ts ≡ Err (at_bottom k.LeftBracket at.AfterOperand ts)
unfolding suffix
suffix_bottom s d ts none = bottom_run at.AfterOperand (is k.LeftBracket) never (λ x. x.1) after_bracket (levels s d).exprs (exprs_bottom s d none) ts

pub suffix_above : (s : List ℕ) (d : ℕ) (ts : List Token) → 0 < d → (suffix (levels s d)).run ts ≡ (form at.AfterOperand (is k.LeftBracket) (λ x. x.1) after_bracket (expr s (levels s (d - 1)))).run ts
unfolding suffix
suffix_above s d ts lt = above_run at.AfterOperand (is k.LeftBracket) never (λ x. x.1) after_bracket (levels s d).exprs (expr s (levels s (d - 1))) (exprs_above s d lt) ts

pub negation_bottom : (s : List ℕ) (d : ℕ) (ts : List Token) → d ≡ 0 → (negation (levels s d)).run ts ≡ Err (at_bottom k.Bang at.Operand ts)
unfolding negation
negation_bottom s d ts none = bottom_run at.Operand (is k.Bang) follows_post negation_of after_bang (levels s d).unaries (unaries_bottom s d none) ts

pub negation_above : (s : List ℕ) (d : ℕ) (ts : List Token) → 0 < d → (negation (levels s d)).run ts ≡ (form at.Operand (is k.Bang) negation_of after_bang (unary s (levels s (d - 1)))).run ts
unfolding negation
negation_above s d ts lt = above_run at.Operand (is k.Bang) follows_post negation_of after_bang (levels s d).unaries (unary s (levels s (d - 1))) (unaries_above s d lt) ts

pub right_bottom : (s : List ℕ) (d : ℕ) (ts : List Token) → d ≡ 0 → (right (levels s d)).run ts ≡ Err (at_bottom k.Implies at.AfterOperand ts)
unfolding right
right_bottom s d ts none = bottom_run at.AfterOperand (is k.Implies) follows_impl (λ x. x.1) after_implies (levels s d).impls (impls_bottom s d none) ts

pub right_above : (s : List ℕ) (d : ℕ) (ts : List Token) → 0 < d → (right (levels s d)).run ts ≡ (form at.AfterOperand (is k.Implies) (λ x. x.1) after_implies (implication s (levels s (d - 1)))).run ts
unfolding right
right_above s d ts lt = above_run at.AfterOperand (is k.Implies) follows_impl (λ x. x.1) after_implies (levels s d).impls (implication s (levels s (d - 1))) (impls_above s d lt) ts

pub choice_bottom : (s : List ℕ) (d : ℕ) (ts : List Token) → d ≡ 0 → (choice (levels s d)).run ts ≡ Err (at_bottom k.If at.Operand ts)
unfolding choice
choice_bottom s d ts none = bottom_run at.Operand (is k.If) follows_expr choice_of after_if (levels s d).exprs (exprs_bottom s d none) ts

pub choice_above : (s : List ℕ) (d : ℕ) (ts : List Token) → 0 < d → (choice (levels s d)).run ts ≡ (form at.Operand (is k.If) choice_of after_if (expr s (levels s (d - 1)))).run ts
unfolding choice
choice_above s d ts lt = above_run at.Operand (is k.If) follows_expr choice_of after_if (levels s d).exprs (expr s (levels s (d - 1))) (exprs_above s d lt) ts

pub target_index_bottom : (s : List ℕ) (d : ℕ) (ts : List Token) → d ≡ 0 → (target_index (levels s d)).run ts ≡ Err (at_bottom k.LeftBracket at.Other ts)
unfolding target_index
target_index_bottom s d ts none = bottom_run at.Other (is k.LeftBracket) never (λ x. x.1) after_target (levels s d).exprs (exprs_bottom s d none) ts

pub target_index_above : (s : List ℕ) (d : ℕ) (ts : List Token) → 0 < d → (target_index (levels s d)).run ts ≡ (form at.Other (is k.LeftBracket) (λ x. x.1) after_target (expr s (levels s (d - 1)))).run ts
unfolding target_index
target_index_above s d ts lt = above_run at.Other (is k.LeftBracket) never (λ x. x.1) after_target (levels s d).exprs (expr s (levels s (d - 1))) (exprs_above s d lt) ts

pub block_bottom : (s : List ℕ) (d : ℕ) (ts : List Token) → d ≡ 0 → (block (levels s d)).run ts ≡ Err (at_bottom k.LeftBrace at.Other ts)
unfolding block
block_bottom s d ts none = bottom_run at.Other (is k.LeftBrace) never (λ x. x.1) after_brace (levels s d).blocks (blocks_bottom s d none) ts

pub block_above : (s : List ℕ) (d : ℕ) (ts : List Token) → 0 < d → (block (levels s d)).run ts ≡ (form at.Other (is k.LeftBrace) (λ x. x.1) after_brace (statements s (levels s (d - 1)))).run ts
unfolding block
block_above s d ts lt = above_run at.Other (is k.LeftBrace) never (λ x. x.1) after_brace (levels s d).blocks (statements s (levels s (d - 1))) (blocks_above s d lt) ts

pub else_if_bottom : (s : List ℕ) (d : ℕ) (ts : List Token) → d ≡ 0 → (else_if (levels s d)).run ts ≡ Err (at_bottom k.If at.Other ts)
unfolding else_if
else_if_bottom s d ts none = bottom_run at.Other (is k.If) (is k.Else) if_of after_else_if (levels s d).ifs (ifs_bottom s d none) ts

pub else_if_above : (s : List ℕ) (d : ℕ) (ts : List Token) → 0 < d → (else_if (levels s d)).run ts ≡ (form at.Other (is k.If) if_of after_else_if (if_rest s (levels s (d - 1)))).run ts
unfolding else_if
else_if_above s d ts lt = above_run at.Other (is k.If) (is k.Else) if_of after_else_if (levels s d).ifs (if_rest s (levels s (d - 1))) (ifs_above s d lt) ts
