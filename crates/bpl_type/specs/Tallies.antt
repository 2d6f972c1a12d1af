-- What functions and expressions count, as it is noted while they are counted.
use Rattle.std.specs.Prelude.{ℕ, List, [], map, position, slice_get, Option, None, Some}
use Rattle.std.specs.Str.{bytes_eq}
use Rattle.bpl_ast.specs.declared.expr.Bracket.{Bracket}
use Rattle.bpl_ast.specs.declared.expr.Expr.{Expr}
use Rattle.bpl_type.specs.declared.count.Counting.{Counting}
use Rattle.bpl_type.specs.declared.count.Tally.{Tally}
use Rattle.type_pass.specs.declared.tables.Tables.{Tables}
use Rattle.bpl_type.specs.Counts.{Counted}
use Rattle.type_pass.specs.Scopes.{function_named}
use Rattle.bpl_type.specs.Weights.{Affine, Templates, Weight, used_weight, weight_by, bracket_weight_by}

-- ---- the templates of functions, in their order

abbrev pub noted_template : Option Tally → Affine
noted_template None = (0, [])
noted_template (Some t) = (t.base, t.slopes)

abbrev pub template_if : List Tally → Option ℕ → Affine
template_if templates None = (0, [])
template_if templates (Some i) = noted_template (slice_get templates i)

-- by the number of the function
abbrev pub templates_of : Tables → List Tally → Templates
templates_of tables templates text = template_if templates (position (λ f. bytes_eq text f.name) tables.functions)

-- ---- where nodes are counted

abbrev pub weight_in : Counting → Expr → Weight
weight_in c = weight_by (templates_of c.known.now c.templates.now) c.known.now c.scope.now

abbrev pub bracket_weight_in : Counting → Bracket → Weight
bracket_weight_in c = bracket_weight_by (templates_of c.known.now c.templates.now) c.known.now c.scope.now

-- the numbers of arguments
abbrev pub weights_in : Counting → List Expr → (ℕ → ℕ) → List ℕ
weights_in c xs v = map (λ x. weight_in c x v) xs

-- a use of a function, by its name
abbrev pub use_weight_in : Counting → List ℕ → List Expr → Weight
use_weight_in c text xs v = used_weight (function_named c.known.now text) (templates_of c.known.now c.templates.now text) v (weights_in c xs v)

-- a number is added so many times to a tally
abbrev pub Adds : Counting → ℕ → Weight → Tally → Tally → Type 0
Adds c weight f old new = Counted c.most c.whole old.base old.slopes new.base new.slopes weight f
