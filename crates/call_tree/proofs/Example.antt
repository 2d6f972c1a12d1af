-- A caller whose callee fails: the full tree, and the member of the over question for the root alone, whose child is free.
use Rattle.std.proofs.Common.{◌≡◌, ℕ, zero, suc, true, false, ◌&&◌, nat_lt, [], ◌∷◌, length, slice_get, Some, IsTrue, refl, sym, subst, arith, true≢false}
use Rattle.std.proofs.lemmas.List.Elements.{All-nil, All-cons}
use Rattle.std.specs.List.{list_all}
use Rattle.hy_val.specs.Scope.{are_numbered}
use Rattle.hy_val.specs.declared.atom.AtomKind.TheVariants.{Bool as BoolAtom}
use Rattle.hy_val.specs.declared.expr.ExprNode.TheVariants.{Lit}
use Rattle.flat_prog.specs.Program.{FlatProgram, scope_of, variables_of}
use Rattle.flat_prog.specs.Shape.{IsFlat, IsFlatProc, AreAcyclic, HaveLoopOuts, sorts_fit, block_fits, place_of, is_loop_kind}
use Rattle.flat_prog.specs.declared.block.FlatNext.{FlatNext}
use Rattle.call_tree.specs.declared.piece.Decision2.TheVariants.{Must}
use Rattle.call_tree.specs.Laws.{OverLaw}
use Rattle.flat_prog.specs.declared.block.FlatCmd.TheVariants.{Assert, Call}
use Rattle.flat_prog.specs.declared.block.FlatNext.TheVariants.{Goto, Return}
use Rattle.flat_prog.specs.declared.block.FlatBlock.{FlatBlock}
use Rattle.flat_prog.specs.declared.proc.FlatKind.TheVariants.{Source}
use Rattle.flat_prog.specs.declared.proc.FlatProc.{FlatProc}
use Rattle.flat_prog.specs.Local.{State, Request, Broken}
use Rattle.flat_prog.specs.Trees.{Run, node, none, inner, free}
use Rattle.flat_prog.specs.Runs.{FailsIn, IsFull}
use Rattle.call_tree.specs.Questions.{IsOver}

abbrev callee_block : FlatBlock
callee_block = record { cmds = Assert 1 7 (Lit (BoolAtom false) ∷ []) ∷ []; next = Return }

abbrev callee : FlatProc
callee = record { kind = Source 1; ins = []; outs = []; locals = []; blocks = callee_block ∷ [] }

abbrev caller_block : FlatBlock
caller_block = record { cmds = Call 1 [] [] ∷ []; next = Return }

abbrev caller : FlatProc
caller = record { kind = Source 0; ins = []; outs = []; locals = []; blocks = caller_block ∷ [] }

abbrev flat : FlatProgram
flat = record { consts = []; uniques = []; axioms = []; globals = []; procs = caller ∷ callee ∷ [] }

abbrev begin : State
begin = record { store = record { globals = []; locals = [] }; values = []; results = []; calls = [] }

abbrev asked : Request
asked = record { proc = 1; globals = []; args = [] }

abbrev full_tree : Run
full_tree = node (record { proc = 0; path = 0 ∷ []; places = []; values = [] }) (inner (node (record { proc = 1; path = 0 ∷ []; places = []; values = [] }) none) none)

pub full_fails : FailsIn flat 0 full_tree 1 7
full_fails = record {
  proc = caller;
  consts = [];
  globals = [];
  args = [];
  rest = [];
  begin = begin;
  same = refl;
  proc_is = refl;
  values = refl;
  consts_fit = refl;
  globals_fit = refl;
  args_fit = refl;
  allowed = refl;
  begin_is = refl;
  means = (
    Broken 1 7 ∷ [],
    asked ∷ [],
    (
      [],
      caller_block,
      refl,
      refl,
      record { before = []; at = Call 1 [] []; behind = []; over = record begin { results = Broken 1 7 ∷ [] }; splits = refl; passes = refl; fails = refl; values = refl },
    ),
    (
      (
        callee,
        begin,
        record { same = refl; proc = refl; globals = refl; args = refl; begin_is = refl },
        (
          [],
          [],
          (
            [],
            callee_block,
            refl,
            refl,
            record { before = []; at = Assert 1 7 (Lit (BoolAtom false) ∷ []); behind = []; over = begin; splits = refl; passes = refl; fails = refl; values = refl },
          ),
          tt,
        ),
      ),
      tt,
    ),
  );
}

pub full : IsFull flat 0 1 full_tree
full = record { result = Broken 1 7; means = full_fails; within_caps = refl }

abbrev part : Run
part = node (record { proc = 0; path = 0 ∷ []; places = []; values = [] }) (free false [] none)

pub part_fails : IsOver flat 0 1 ([] ∷ []) [] part
part_fails = record {
  proc = 1;
  number = 7;
  fails = record {
    proc = caller;
    consts = [];
    globals = [];
    args = [];
    rest = [];
    begin = begin;
    same = refl;
    proc_is = refl;
    values = refl;
    consts_fit = refl;
    globals_fit = refl;
    args_fit = refl;
    allowed = refl;
    begin_is = refl;
    means = (
      Broken 1 7 ∷ [],
      asked ∷ [],
      (
        [],
        caller_block,
        refl,
        refl,
        record { before = []; at = Call 1 [] []; behind = []; over = record begin { results = Broken 1 7 ∷ [] }; splits = refl; passes = refl; fails = refl; values = refl },
      ),
      (refl, tt),
    );
  };
  stands = refl;
  meets = refl;
}

-- the program is one, so the law is not empty: it gives a member of the over question for the root alone, and for the tree with both nodes
acyclic : (block : FlatBlock) → block.next ≡ Return → AreAcyclic (block ∷ [])
acyclic block ends = record {
  order = 0 ∷ [];
  onward = (λ place to h. absurd (no_edge block.next ends place to h), tt);
  every = λ n within. (0, omega arith, let l = within in omega arith);
}
  where
    no_edge : (next : FlatNext) → next ≡ Return → (place to : ℕ) → place_of next place ≡ Some to → ⊥
    no_edge Return e place to h = cc
    no_edge (Goto targets) e place to h = cc

proc_fits : (q : FlatProc) (block : FlatBlock) → IsTrue (sorts_fit (variables_of q)) → IsTrue (nat_lt 0 (length q.blocks) && are_numbered (length q.blocks)) → IsTrue (list_all (block_fits flat.procs (scope_of flat q) (length q.blocks)) q.blocks) →
    q.blocks ≡ block ∷ [] → block.next ≡ Return → HaveLoopOuts q.kind q → IsFlatProc flat q
proc_fits q block v s b e r l = record { variables = v; some = s; blocks = b; acyclic = subst AreAcyclic (sym e) (acyclic block r); loop_outs = l }

no_loop : (p : ℕ) (q : FlatProc) → slice_get flat.procs p ≡ Some q → IsTrue (is_loop_kind q.kind) → ⊥
no_loop zero q h loop = let e : caller ≡ q = cc in true≢false (sym (subst (λ (r : FlatProc). is_loop_kind r.kind ≡ true) (sym e) loop))
no_loop (suc zero) q h loop = let e : callee ≡ q = cc in true≢false (sym (subst (λ (r : FlatProc). is_loop_kind r.kind ≡ true) (sym e) loop))
no_loop (suc (suc p)) q h loop = cc

pub flat_fits : IsFlat flat
flat_fits = record {
  consts = refl;
  globals = refl;
  uniques = refl;
  axioms = refl;
  few = refl;
  procs = All-cons (IsFlatProc flat) caller (callee ∷ []) (proc_fits caller caller_block refl refl refl refl refl tt)
      (All-cons (IsFlatProc flat) callee [] (proc_fits callee callee_block refl refl refl refl refl tt) (All-nil (IsFlatProc flat)));
  loops = record { order = []; onward = tt; every = λ p q h loop. absurd (no_loop p q h loop) };
}

pub root_alone : OverLaw → (cut : Run) × IsOver flat 0 1 ([] ∷ []) [] cut
root_alone over = let r = over flat 0 1 ([] ∷ []) [] full_tree 1 7 flat_fits (record { rest = []; root_first = refl; root = refl; placed = refl }) refl full full_fails refl in (r.0, r.1)

pub both_nodes : OverLaw → (cut : Run) × IsOver flat 0 1 ([] ∷ (0 ∷ []) ∷ []) ((0 ∷ [], Must) ∷ []) cut
both_nodes over = let r = over flat 0 1 ([] ∷ (0 ∷ []) ∷ []) ((0 ∷ [], Must) ∷ []) full_tree 1 7 flat_fits (record { rest = (0 ∷ []) ∷ []; root_first = refl; root = refl; placed = refl }) refl full full_fails refl in (r.0, r.1)
