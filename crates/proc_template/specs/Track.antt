-- How the path and the values of a run are read off the values of its formula's nodes.
use Rattle.std.specs.Prelude.{ℕ, ◌+◌, List, [], ◌∷◌, ◌++◌, map, slice_get, slice_index, Option, None, Some}
use Rattle.hy_term.specs.declared.node.TermNode.{TermNode}
use Rattle.hy_term.specs.declared.node.TermNode.TheVariants.{Lit, ZeroMap, Variable, Unary, Binary, If, Select, Store}
use Rattle.flat_prog.specs.Shape.{place_at}
use Rattle.flat_prog.specs.declared.block.FlatBlock.{FlatBlock}
use Rattle.vc_gen.specs.declared.parts.EdgeTerm.{EdgeTerm}
use Rattle.vc_gen.specs.declared.parts.FailTerm.{FailTerm}
use Rattle.vc_gen.specs.declared.parts.Instance.{Instance}
use Rattle.vc_gen.specs.declared.parts.ValueTerm.{ValueTerm}
use Rattle.tree_terms.specs.declared.linked.EdgeTerms.{EdgeTerms}
use Rattle.tree_terms.specs.declared.linked.FailTerms.{FailTerms}
use Rattle.tree_terms.specs.declared.linked.TrackTerms.{TrackTerms}
use Rattle.tree_terms.specs.declared.linked.ValueTerms.{ValueTerms}
use Rattle.proc_template.specs.declared.layout.Layout.{Layout}

-- the places of the variables among nodes, where the first has this one
abbrev pub variables_from : ℕ → List TermNode → List ℕ
variables_from place [] = []
variables_from place (Variable number sort ∷ nodes) = place ∷ variables_from (place + 1) nodes
variables_from place (Lit a ∷ nodes) = variables_from (place + 1) nodes
variables_from place (ZeroMap index elem ∷ nodes) = variables_from (place + 1) nodes
variables_from place (Unary op child ∷ nodes) = variables_from (place + 1) nodes
variables_from place (Binary op left right ∷ nodes) = variables_from (place + 1) nodes
variables_from place (If test one other ∷ nodes) = variables_from (place + 1) nodes
variables_from place (Select map index ∷ nodes) = variables_from (place + 1) nodes
variables_from place (Store map index value ∷ nodes) = variables_from (place + 1) nodes

-- an edge with the block that it leads to
abbrev pub edge_to : EdgeTerm → Option ℕ → List EdgeTerms
edge_to e None = []
edge_to e (Some target) = record { block = e.block; place = e.place; target = target; node = e.node } ∷ []

abbrev pub edges_with : List FlatBlock → List EdgeTerm → List EdgeTerms
edges_with blocks [] = []
edges_with blocks (e ∷ es) = edge_to e (place_at (slice_get blocks e.block) e.place) ++ edges_with blocks es

abbrev pub fail_terms : FailTerm → FailTerms
fail_terms f = record { block = f.block; position = f.position; node = f.node }

abbrev pub value_terms : ValueTerm → ValueTerms
value_terms v = record { node = v.node; live = v.live }

-- the nodes of variables, by number
abbrev pub nodes_at : List ℕ → List ℕ → List ℕ
nodes_at variables numbers = map (slice_index variables) numbers

abbrev pub track_of : ℕ → List FlatBlock → List TermNode → Layout → Instance → TrackTerms
track_of proc blocks nodes layout i = record {
  proc = proc;
  edges = edges_with blocks i.edges;
  begin = nodes_at (variables_from 0 nodes) layout.begin;
  values = map value_terms i.values;
  asserts = map fail_terms i.asserts;
}
