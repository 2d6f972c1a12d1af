-- The terms that a question begins with: variables for the constants, the globals and the entry's ins, which may have any values of their sorts.
use Rattle.std.specs.Prelude.{◌≡◌, ℕ, ◌+◌, true, List, [], ◌∷◌, ◌++◌, length, slice_get, IsSome, IsTrue}
use Rattle.hy_val.specs.Stores.{have_sorts}
use Rattle.hy_val.specs.declared.atom.AtomKind.TheVariants.{Bool as BoolAtom}
use Rattle.hy_val.specs.declared.sort.Sort.{Sort}
use Rattle.hy_val.specs.declared.value.Value.{Value}
use Rattle.hy_term.specs.TermSorts.{sorts}
use Rattle.hy_term.specs.Meaning.{fits}
use Rattle.hy_term.specs.Variables.{below}
use Rattle.hy_term.specs.declared.node.TermNode.{TermNode}
use Rattle.hy_term.specs.declared.node.TermNode.TheVariants.{Lit, Variable}
use Rattle.flat_prog.specs.Program.{FlatProgram}
use Rattle.flat_prog.specs.Sites.{numbers_from}
use Rattle.tree_terms.specs.Standing.{AreOf, all_at}
use Rattle.tree_words.specs.Stands.{ins_at}
use Rattle.tree_query.specs.declared.opening.BaseTerms.{BaseTerms}

-- variables of these sorts, numbered from a number on
abbrev pub variables_from : ℕ → List Sort → List TermNode
variables_from k [] = []
variables_from k (s ∷ ss) = Variable k s ∷ variables_from (k + 1) ss

-- the sorts of the values that the entry is called with: those of the constants, of the globals and of its ins
abbrev pub called_sorts : FlatProgram → ℕ → List Sort
called_sorts flat entry = flat.consts ++ (flat.globals ++ ins_at (slice_get flat.procs entry))

-- the literal true and the variables, whose numbers are those of their nodes
pub record IsOpening (flat : FlatProgram) (entry : ℕ) (b : BaseTerms) : Type 0 where
  pub nodes : b.terms.nodes ≡ Lit (BoolAtom true) ∷ variables_from 1 (called_sorts flat entry)
  pub root : b.terms.root ≡ 0
  pub consts : b.consts ≡ numbers_from 1 (length flat.consts)
  pub globals : b.globals ≡ numbers_from (1 + length flat.consts) (length flat.globals)
  pub args : b.args ≡ numbers_from ((1 + length flat.consts) + length flat.globals) (length (ins_at (slice_get flat.procs entry)))

-- among these nodes, which have their sorts and variables of numbers below their count, the terms stand with the sorts of the program
pub record HasTerms (flat : FlatProgram) (entry : ℕ) (nodes : List TermNode) (b : BaseTerms) : Type 0 where
  pub sorted : IsSome (sorts nodes)
  pub low : IsTrue (below (length nodes) nodes)
  pub consts : AreOf nodes b.consts flat.consts
  pub globals : AreOf nodes b.globals flat.globals
  pub args : AreOf nodes b.args (ins_at (slice_get flat.procs entry))

-- whatever values of their sorts the constants, the globals and the ins are to have, an assignment gives them
abbrev pub CanHaveValues : FlatProgram → ℕ → List TermNode → BaseTerms → Type 0
CanHaveValues flat entry nodes b =
    (consts globals args : List Value) → have_sorts consts flat.consts ≡ true → have_sorts globals flat.globals ≡ true → have_sorts args (ins_at (slice_get flat.procs entry)) ≡ true
    → (a : ℕ → Value) × IsTrue (fits a nodes) × (all_at a nodes b.consts ≡ consts) × (all_at a nodes b.globals ≡ globals) × (all_at a nodes b.args ≡ args)
