-- The terms of edges and calls say exactly which edges and calls a run passes.
use Rattle.vc_gen.specs.declared.parts.SiteTerm.{SiteTerm}
use Rattle.std.specs.Prelude.{◌≡◌, ℕ, ◌+◌, true, false, List, [], ◌∷◌, ◌++◌, Option, None, Some, if◌then◌else◌}
use Rattle.hy_val.specs.Values.{is_on}
use Rattle.hy_val.specs.declared.value.Value.{Value}
use Rattle.hy_term.specs.TermSorts.{sort_at}
use Rattle.hy_term.specs.Meaning.{value}
use Rattle.hy_term.specs.declared.node.TermNode.{TermNode}
use Rattle.flat_prog.specs.Local.{Result, Ended, Broken, Request}
use Rattle.vc_gen.specs.Passages.{Passage}
use Rattle.vc_gen.specs.declared.parts.EdgeTerm.{EdgeTerm}
use Rattle.vc_gen.specs.declared.parts.Wait.{Wait}
use Rattle.vc_gen.specs.Items.{bool_sort, SiteMeans}

-- the terms of a block's edges, by place; a return has none
abbrev pub edge_term : ℕ → ℕ → Option ℕ → ℕ → List EdgeTerm
edge_term n p None live = []
edge_term n p (Some t) live = record { block = n; place = p; node = live } ∷ []

abbrev pub edge_terms : ℕ → ℕ → List Wait → List EdgeTerm
edge_terms n p [] = []
edge_terms n p (w ∷ ws) = edge_term n p w.target w.live ++ edge_terms n (p + 1) ws

-- the edges whose bits are true
abbrev pub true_edges : (ℕ → Value) → List TermNode → List EdgeTerm → List (ℕ × ℕ)
true_edges a nodes [] = []
true_edges a nodes (e ∷ es) = if is_on (value a nodes e.node) then (e.block, e.place) ∷ true_edges a nodes es else true_edges a nodes es

-- the calls whose bits are true, by block and number
abbrev pub true_sites : (ℕ → Value) → List TermNode → List SiteTerm → List (ℕ × ℕ)
true_sites a nodes [] = []
true_sites a nodes (s ∷ ss) = if is_on (value a nodes s.node) then (s.block, s.call) ∷ true_sites a nodes ss else true_sites a nodes ss

abbrev pub EdgesThere : List TermNode → List EdgeTerm → Type 0
EdgesThere nodes [] = Unit {0}
EdgesThere nodes (e ∷ es) = (sort_at nodes e.node ≡ Some bool_sort) × EdgesThere nodes es

-- what a call's terms ask for and give back
abbrev pub request_of : SiteMeans → Request
request_of m = record { proc = m.proc; globals = m.before; args = m.args }

abbrev pub result_of : SiteMeans → Result
result_of m = if m.fails then Broken 0 0 else Ended m.outs m.changed

-- the bit is true exactly where the run comes to the call; there the terms are what it asks for and what comes back
pub record SameCall (m : SiteMeans) (p : Passage) : Type 0 where
  pub on_is : m.on ≡ p.on
  pub call_is : p.on ≡ true → request_of m ≡ p.call
  pub result_is : p.on ≡ true → Some (result_of m) ≡ p.result
  pub off : p.on ≡ false → m.fails ≡ false

abbrev pub SameCalls : List SiteMeans → List Passage → Type 0
SameCalls [] [] = Unit {0}
SameCalls [] (p ∷ ps) = ⊥
SameCalls (m ∷ ms) [] = ⊥
SameCalls (m ∷ ms) (p ∷ ps) = SameCall m p × SameCalls ms ps

-- of the calls whose bits are true: what they ask for, and what they give back
abbrev pub asked : List SiteMeans → List Request
asked [] = []
asked (m ∷ ms) = if m.on then request_of m ∷ asked ms else asked ms

abbrev pub given_back : List SiteMeans → List Result
given_back [] = []
given_back (m ∷ ms) = if m.on then result_of m ∷ given_back ms else given_back ms
