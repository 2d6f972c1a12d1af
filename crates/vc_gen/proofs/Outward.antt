-- A block is left, by a goto or a return.
use Rattle.std.proofs.Common.{◌≡◌, ℕ, List, [], ◌∷◌, ◌++◌, arith, sym, refl, append-nil}
use Rattle.std.specs.Prelude.{None, Some, IsTrue, IsSome}
use Rattle.hy_val.specs.declared.sort.Sort.{Sort}
use Rattle.hy_term.specs.TermSorts.{sorts, sort_at}
use Rattle.hy_term.specs.Variables.{below}
use Rattle.hy_term.specs.declared.node.TermNode.{TermNode}
use Rattle.flat_prog.specs.declared.block.FlatNext.TheVariants.{Goto, Return}
use Rattle.vc_gen.specs.declared.parts.Draft.{Draft}
use Rattle.vc_gen.specs.declared.parts.Wait.{Wait}
use Rattle.vc_gen.specs.Standing.{AreOf, variables_in}
use Rattle.vc_gen.specs.Items.{bool_sort}
use Rattle.vc_gen.specs.Emit.{terms_of}
use Rattle.vc_gen.specs.Edges.{Fanned}
use Rattle.vc_gen.specs.Fitting.{SortsAre}
use Rattle.vc_gen.specs.Flowing.{LeftBy}
use Rattle.vc_gen.proofs.Growth.{later_same, are_at}

pub are_terms : (nodes : List TermNode) (versions : List ℕ) (vsorts : List Sort) (vs : List ℕ) (ss : List Sort) → AreOf nodes versions vsorts → SortsAre vsorts vs ss → AreOf nodes (terms_of versions vs) ss
are_terms nodes versions vsorts [] [] h k = tt
are_terms nodes versions vsorts [] (s ∷ ss) h k = absurd k
are_terms nodes versions vsorts (v ∷ vs) [] h k = absurd k
are_terms nodes versions vsorts (v ∷ vs) (s ∷ ss) h (k, ks) = (are_at nodes versions vsorts v s h k, are_terms nodes versions vsorts vs ss h ks)

pub left_goto : (old new : List TermNode) (d e : Draft) (ts globals locals : List ℕ) (before waits : List Wait) → Fanned old d ts globals locals before new e waits → LeftBy old d (Goto ts) globals locals before new e waits
left_goto old new d e ts globals locals before waits h = record {
  later = h.later;
  frame = h.frame;
  next_is = h.next;
  below = h.below;
  numbers = h.numbers;
  more = h.more;
  waits_are = h.waits_are;
  of = h.of;
  says = h.says;
  fit = h.fit;
}

pub left_return : (old : List TermNode) (d : Draft) (globals locals : List ℕ) (before waits : List Wait) → IsSome (sorts old) → sort_at old d.cond ≡ Some bool_sort → IsTrue (below d.next old) →
    waits ≡ before ++ record { target = None; live = d.cond; globals = globals; locals = locals } ∷ [] → LeftBy old d Return globals locals before old d waits
left_return old d globals locals before waits h c b is =
    let w : Wait = record { target = None; live = d.cond; globals = globals; locals = locals } in
    record {
      later = later_same old h;
      frame = refl;
      next_is = omega arith;
      below = b;
      numbers = sym (append-nil (variables_in old));
      more = w ∷ [];
      waits_are = is;
      of = λ gs ls g l. (record { live = c; globals = g; locals = l }, tt);
      says = λ a consts f. refl;
      fit = λ a f k. f;
    }
