-- The variables with which a formula begins: one for each constant, global and in, numbered from 0 in this order, behind the literal true.
use Rattle.std.specs.Prelude.{◌≡◌, ℕ, ◌+◌, true, List, ◌∷◌, ◌++◌, length}
use Rattle.hy_val.specs.declared.atom.AtomKind.TheVariants.{Bool as BoolAtom}
use Rattle.hy_val.specs.declared.sort.Sort.{Sort}
use Rattle.hy_term.specs.declared.node.TermNode.{TermNode}
use Rattle.hy_term.specs.declared.node.TermNode.TheVariants.{Lit}
use Rattle.flat_prog.specs.Sites.{numbers_from}
use Rattle.passive_form.specs.declared.Passive.{Passive}
use Rattle.vc_gen.specs.Emit.{row_of}
use Rattle.vc_gen.specs.Items.{AreSorts}
use Rattle.vc_gen.specs.declared.parts.Actuals.{Actuals}

-- the sorts of the constants, the globals and the ins
abbrev pub first_sorts : Passive → List Sort
first_sorts p = p.consts ++ (p.globals ++ p.ins)

-- the literal true, and variables of these sorts
abbrev pub first_nodes : List Sort → List TermNode
first_nodes ss = Lit (BoolAtom true) ∷ row_of 0 ss

-- the nodes of the constants, the globals and the ins
abbrev pub first_actuals : Passive → Actuals
first_actuals p = record {
  consts = numbers_from 1 (length p.consts);
  globals = numbers_from (1 + length p.consts) (length p.globals);
  args = numbers_from (1 + length p.consts + length p.globals) (length p.ins);
}

-- nothing is there but the literal true and variables
abbrev pub IsBegun : List TermNode → Type 0
IsBegun nodes = (ss : List Sort) × (nodes ≡ first_nodes ss) × AreSorts ss

-- variables of these sorts are added, and these are their nodes
abbrev pub Adds : List TermNode → List Sort → List TermNode → List ℕ → Type 0
Adds old sorts new ts = (ss : List Sort) → old ≡ first_nodes ss → (new ≡ first_nodes (ss ++ sorts)) × (ts ≡ numbers_from (1 + length ss) (length sorts))
