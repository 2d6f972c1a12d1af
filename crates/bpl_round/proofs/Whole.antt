-- The rules at each number of levels, and the law of whole programs.
use Rattle.std.proofs.Common.{◌≡◌, ℕ, zero, suc, ◌≤◌, List, [], ◌∷◌, Ok, arith}
use Rattle.std.specs.List.{flat_map}
use Rattle.bpl_ast.specs.Alike.{spine, bare, AreAlike}
use Rattle.bpl_ast.specs.declared.decl.Ast.{Ast}
use Rattle.bpl_tok.specs.declared.token.Token.{Token}
use Rattle.bpl_tok.specs.Cuts.{AreSlices}
use Rattle.bpl_tok.specs.Lexed.{tokens_of}
use Rattle.bpl_tok.proofs.CutLaws.{tokens_lie}
use Rattle.bpl_parse.specs.Decls.{levels, whole}
use Rattle.bpl_parse.specs.Exprs.{expr, implication, unary}
use Rattle.bpl_parse.specs.Reader.{Levels}
use Rattle.bpl_parse.specs.Sorts.{sort}
use Rattle.bpl_show.specs.declared.phrase.Phrase.TheVariants.{Implication, Unary}
use Rattle.bpl_show.specs.Exprs as show
use Rattle.bpl_show.specs.Shown.{shown, shown_text}
use Rattle.bpl_show.specs.Tokens as tokens
use Rattle.bpl_round.proofs.Again.{Again, AreOld, Yields, more_yields}
use Rattle.bpl_round.proofs.DeclRules.{program_renders}
use Rattle.bpl_round.proofs.ExprChains.{unary_reads}
use Rattle.bpl_round.proofs.ExprRules.{Inside, ExprsAgain}
use Rattle.bpl_round.proofs.ExprTails.{implication_reads, expr_reads}
use Rattle.bpl_round.proofs.Fits.{at_again}
use Rattle.bpl_round.proofs.Joined.{texts, shown_read}
use Rattle.bpl_round.proofs.Pairs.{Renders, Like}
use Rattle.bpl_round.proofs.SortRules.{SortInside, sort_renders}
use Rattle.bpl_round.proofs.StmtRules.{LevelsAgain, statements_render, if_rest_renders}
use Rattle.bpl_round.specs.Round.{HasTree, ShownReadsAlike}

module _ (s s' : List ℕ) where
  exprs_inside : (l l' m' : Levels) → ExprsAgain s s' l l' → ExprsAgain s s' l m' → Yields s (expr s l).Spells (Inside s' (expr s' l') m')
  exprs_inside l l' m' A B = record {
    each = λ ts x old h.
        let a = (expr_reads s s' l l' A).each ts x old h in
        let b = (expr_reads s s' l m' B).each ts x old h in
        record { shows = a.shows; inside = a.here; here = b.here };
  }

  implication_renders : (l l' : Levels) → ExprsAgain s s' l l' → Renders s s' (implication s l).Spells (implication s' l').Spells (λ x. texts (show.expr x Implication)) (Like spine)
  implication_renders l l' A = record { each = more_yields s (implication s l).Spells _ _ (implication_reads s s' l l' A) (λ x f. at_again s' l' x Implication f) }

  unary_renders : (l l' : Levels) → ExprsAgain s s' l l' → Renders s s' (unary s l).Spells (unary s' l').Spells (λ x. texts (show.expr x Unary)) (Like spine)
  unary_renders l l' A = record { each = more_yields s (unary s l).Spells _ _ (unary_reads s s' l l' A) (λ x f. at_again s' l' x Unary f) }

  sorts_inside : (l l' m' : Levels) → LevelsAgain s s' l l' → LevelsAgain s s' l m' → Yields s (sort s l).Spells (SortInside s' (sort s' l') m')
  sorts_inside l l' m' A B = record {
    each = λ ts x old h. record { inside = (sort_renders s s' l l' A.sorts).each.each ts x old h; here = (sort_renders s s' l m' B.sorts).each.each ts x old h };
  }

  -- The levels that sufficed for the source suffice, and so do more.
  levels_again : (d n : ℕ) → d ≤ n → LevelsAgain s s' (levels s d) (levels s' n)
  unfolding levels
  levels_again zero n le = record { exprs = record { exprs = tt; impls = tt; unaries = tt }; sorts = tt; blocks = tt; ifs = tt }
  levels_again (suc d) zero le = absurd (omega arith)
  levels_again (suc d) (suc n) le =
      let A = levels_again d n (omega arith) in
      let B = levels_again d (suc n) (omega arith) in
      record {
        exprs = record {
          exprs = exprs_inside (levels s d) (levels s' n) (levels s' (suc n)) A.exprs B.exprs;
          impls = implication_renders (levels s d) (levels s' n) A.exprs;
          unaries = unary_renders (levels s d) (levels s' n) A.exprs;
        };
        sorts = sorts_inside (levels s d) (levels s' n) (levels s' (suc n)) A B;
        blocks = statements_render s s' (levels s d) (levels s' n) A;
        ifs = if_rest_renders s s' (levels s d) (levels s' n) A;
      }

  whole_renders : (d : ℕ) → Renders s s' (whole s d).Spells (whole s' d).Spells (λ tree. texts (shown tree)) (Like bare)
  unfolding whole
  whole_renders d = program_renders s s' (levels s d) (levels s' d) (levels_again d d (omega arith))

-- the tokens of a source are tokens of it
slices_old : (s : List ℕ) (ts : List Token) → AreSlices s ts → AreOld s ts
slices_old s [] h = tt
slices_old s (t ∷ ts) h = (record { rest = _; token = h.0 }, slices_old s ts h.1)

tokens_old : (s : List ℕ) (ts : List Token) → tokens_of s ≡ Ok ts → AreOld s ts
tokens_old s ts h = slices_old s ts (tokens_lie s ts h).1

shown_has : (tree : Ast) → ((s' : List ℕ) → Again s' (whole s' 200).Spells (texts (shown tree)) (Like bare tree)) → (again : Ast) × HasTree (shown_text tree) again × AreAlike again tree
unfolding shown_text tokens.text_of
shown_has tree h =
    let there = h (flat_map tokens.spelt (shown tree)) in
    let (ts, reads, stand) = shown_read (shown tree) there.spelt in
    let (again, spells, alike) = there.reads ts stand in
    (again, (ts, reads, spells), alike)

pub reads_alike : ShownReadsAlike
reads_alike source tree h =
    let (ts, reads, spells) = h in
    shown_has tree (λ s'. (whole_renders source s' 200).each.each ts tree (tokens_old source ts reads) spells)
