-- Where the machine fails on some choices, a run tree in the full inlining fails in the same assert.
use Rattle.std.proofs.Common.{◌≡◌, ℕ, ◌≤◌, true, [], arith}
use Rattle.std.proofs.lemmas.Bool.{lt-ltb, le-leb}
use Rattle.std.specs.Prelude.{slice_get}
use Rattle.flat_prog.proofs.Capping.{capped_full}
use Rattle.flat_prog.specs.Caps.{kind_of, may_follow}
use Rattle.flat_prog.specs.Local.{Broken}
use Rattle.flat_prog.specs.declared.proc.FlatKind.{FlatKind}
use Rattle.flat_prog.specs.declared.proc.FlatKind.TheVariants.{Source, Loop}
use Rattle.extract_def.proofs.Extracting.{facts_of}
use Rattle.extract_def.specs.Extraction.{flat_of}
use Rattle.extract_law.proofs.Entry.{list_to_tree}
use Rattle.extract_law.specs.Laws.{FailingListsHaveTrees}

root_may : (bound : ℕ) (entry : ℕ) (kd : FlatKind) → 1 ≤ bound → may_follow bound kd entry [] ≡ true
root_may bound entry (Source p) h = lt-ltb 0 bound (omega (arith, h))
root_may bound entry (Loop p head) h = le-leb 0 bound (omega (arith, h))

pub lists_have_trees : FailingListsHaveTrees
lists_have_trees prog fits flat entry bound some choices proc number h =
    let t = list_to_tree prog fits (facts_of prog fits flat) entry bound choices proc number h in
    let run = t.0 in let fails = t.1 in let capped = t.2 in
    (run, capped_full (flat_of prog) entry bound run (Broken proc number) fails (root_may bound entry (kind_of (slice_get (flat_of prog).procs entry)) some) capped, fails)
