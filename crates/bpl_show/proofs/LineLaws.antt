-- Each declaration ends its line, so that the text of a program is whole lines.
use Rattle.std.proofs.Common.{◌≡◌, ℕ, Bool, true, false, List, [], ◌∷◌, ◌++◌, map, Option, None, Some, ap, sym, ◌∙◌, refl, append_assoc}
use Rattle.std.specs.Prelude.{codes, flat_map}
use Rattle.std.specs.List.{join_by}
use Rattle.std.proofs.lemmas.Bool.{false≢true}
use Rattle.std.proofs.lemmas.List.{append-nil}
use Rattle.bpl_ast.specs.declared.decl.Body.{Body}
use Rattle.bpl_ast.specs.declared.decl.Decl.{Decl}
use Rattle.bpl_ast.specs.declared.decl.Decl.TheVariants as decls
use Rattle.bpl_ast.specs.declared.decl.Modifies.{Modifies}
use Rattle.bpl_ast.specs.declared.expr.Expr.{Expr}
use Rattle.bpl_show.specs.Decls as d
use Rattle.bpl_show.specs.Exprs.{whole}
use Rattle.bpl_show.specs.Lines.{Line, AreLines, ShownInLines, tokens_of, line_text}
use Rattle.bpl_show.specs.Names.{name, names, listed, attributes, sort}
use Rattle.bpl_show.specs.Shown.{shown, shown_text}
use Rattle.bpl_show.specs.Stmts.{stmt}
use Rattle.bpl_show.specs.Tokens.{Token, word, last, text_of}

-- ---- where no line is open after tokens

abbrev closed_after : Bool → List Token → Bool
closed_after closed [] = closed
closed_after closed (t ∷ ts) = closed_after t.ends_line ts

closed-append : (b : Bool) (xs ys : List Token) → closed_after b (xs ++ ys) ≡ closed_after (closed_after b xs) ys
closed-append b [] ys = refl
closed-append b (x ∷ xs) ys = closed-append x.ends_line xs ys

-- whatever stands before them, these tokens end their line
abbrev Closes : List Token → Type 0
Closes ts = (b : Bool) → closed_after b ts ≡ true

by_last : (xs : List Token) (text : List ℕ) → Closes (xs ++ last text)
by_last xs text b = closed-append b xs (last text)

by_end : (xs ys : List Token) → Closes ys → Closes (xs ++ ys)
by_end xs ys ends b = closed-append b xs ys ∙ ends (closed_after b xs)

stays_closed : {X : Type 0} (f : X → List Token) (ends : (x : X) → Closes (f x)) (xs : List X) → closed_after true (flat_map f xs) ≡ true
stays_closed f ends [] = refl
stays_closed f ends (x ∷ xs) = closed-append true (f x) (flat_map f xs) ∙ ap (λ b. closed_after b (flat_map f xs)) (ends x true) ∙ stays_closed f ends xs

by_each : {X : Type 0} (f : X → List Token) (ends : (x : X) → Closes (f x)) (x : X) (xs : List X) → Closes (flat_map f (x ∷ xs))
by_each f ends x xs b = closed-append b (f x) (flat_map f xs) ∙ ap (λ c. closed_after c (flat_map f xs)) (ends x b) ∙ stays_closed f ends xs

-- ---- declarations

function_end-closes : (body : Option Expr) → Closes (d.function_end body)
function_end-closes None = by_last [] (codes ";")
function_end-closes (Some x) = by_last (word (codes "{") ++ whole x) (codes "}")

modifies-closes : (s : Modifies) → Closes (d.modifies s)
modifies-closes s = by_last (word (codes "modifies") ++ attributes s.attributes ++ names s.names) (codes ";")

body-closes : (b : Body) → Closes (d.body b)
body-closes b = by_last (last (codes "{") ++ flat_map d.variables b.locals ++ flat_map stmt b.statements) (codes "}")

bodiless-closes : (specs : List Modifies) → Closes (d.bodiless specs)
bodiless-closes [] = by_last [] (codes ";")
bodiless-closes (s ∷ ss) = by_end (word (codes ";")) (flat_map d.modifies (s ∷ ss)) (by_each d.modifies modifies-closes s ss)

procedure_end-closes : (specs : List Modifies) (body : Option Body) → Closes (d.procedure_end specs body)
procedure_end-closes specs None = bodiless-closes specs
procedure_end-closes specs (Some b) = by_end (flat_map d.modifies specs) (d.body b) (body-closes b)

decl-closes : (x : Decl) → Closes (d.decl x)
decl-closes (decls.Synonym x) = by_last (word (codes "type") ++ attributes x.attributes ++ name x.name ++ word (codes "=") ++ sort x.sort) (codes ";")
decl-closes (decls.Constants x) = by_last (word (codes "const") ++ attributes x.attributes ++ d.maybe_unique x.unique ++ d.typed x.names x.sort) (codes ";")
decl-closes (decls.Function x) =
    by_end (word (codes "function") ++ attributes x.attributes ++ name x.name ++ word (codes "(") ++ listed d.argument x.arguments ++ word (codes ")") ++ d.output x.output) (d.function_end x.body) (function_end-closes x.body)
decl-closes (decls.Axiom x) = by_last (word (codes "axiom") ++ attributes x.attributes ++ whole x.condition) (codes ";")
decl-closes (decls.Variables x) = by_last (word (codes "var") ++ attributes x.attributes ++ listed d.group x.groups) (codes ";")
decl-closes (decls.Procedure x) =
    by_end (word (codes "procedure") ++ attributes x.attributes ++ name x.name ++ d.heads x.heads) (d.procedure_end x.specs x.body) (procedure_end-closes x.specs x.body)
decl-closes (decls.Implementation x) =
    by_end (word (codes "implementation") ++ attributes x.attributes ++ name x.name ++ d.heads x.heads) (d.body x.body) (body-closes x.body)

-- ---- lines

-- tokens in lines, of which there is a first
record StartsLine (tokens : List Token) : Type 0 where
  first : Line
  lines : List Line
  all_tokens : tokens_of first ++ flat_map tokens_of lines ≡ map (λ t. t.text) tokens
  all_bytes : text_of tokens ≡ line_text first ++ flat_map line_text lines

within_line : (text more end rest : List ℕ) → (text ++ 32 ∷ []) ++ ((more ++ end) ++ rest) ≡ ((text ++ 32 ∷ more) ++ end) ++ rest
within_line text more end rest = simp append_assoc

starts : (text : List ℕ) (ends_line : Bool) (ts : List Token) → closed_after ends_line ts ≡ true → StartsLine (record { text = text; ends_line = ends_line } ∷ ts)
unfolding text_of
starts text true [] closed = record {
  first = record { first = text; others = [] };
  lines = [];
  all_tokens = refl;
  all_bytes = ap (λ x. (x ++ 10 ∷ []) ++ []) (sym (append-nil text));
}
starts text false [] closed = absurd (false≢true closed)
starts text true (t ∷ ts) closed =
    let r = starts t.text t.ends_line ts closed in
    record {
      first = record { first = text; others = [] };
      lines = r.first ∷ r.lines;
      all_tokens = ap (λ l. text ∷ l) r.all_tokens;
      all_bytes = ap (λ x. (x ++ 10 ∷ []) ++ text_of (t ∷ ts)) (sym (append-nil text)) ∙ ap (λ y. ((text ++ []) ++ 10 ∷ []) ++ y) r.all_bytes;
    }
starts text false (t ∷ ts) closed =
    let r = starts t.text t.ends_line ts closed in
    record {
      first = record { first = text; others = tokens_of r.first };
      lines = r.lines;
      all_tokens = ap (λ l. text ∷ l) r.all_tokens;
      all_bytes =
          ap (λ y. (text ++ 32 ∷ []) ++ y) r.all_bytes ∙
          within_line text (join_by (λ token. token) (32 ∷ []) (tokens_of r.first)) (10 ∷ []) (flat_map line_text r.lines);
    }

are_lines : (ts : List Token) → closed_after true ts ≡ true → AreLines ts (text_of ts)
unfolding text_of
are_lines [] closed = record { lines = []; all_tokens = refl; all_bytes = refl }
are_lines (t ∷ ts) closed =
    let r = starts t.text t.ends_line ts closed in
    record { lines = r.first ∷ r.lines; all_tokens = r.all_tokens; all_bytes = r.all_bytes }

pub shown_lines : ShownInLines
unfolding shown shown_text
shown_lines ast = are_lines (flat_map d.decl ast.decls) (stays_closed d.decl decl-closes ast.decls)

pub ruleset in_lines = (shown_lines)
