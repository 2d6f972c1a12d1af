use Rattle.std.proofs.Common.{◌≡◌, ℕ, subst, refl, ap, ◌∙◌, ◌++◌, List, ◌∷◌, []}
use Rattle.std.specs.List.{flat_map}
use Rattle.src_run.specs.Machine.{HasStatus}
use Rattle.src_run.specs.declared.machine.Status.TheVariants.{Failed}
use Rattle.trace_text.specs.Printing.{IsFailed, items_of, proc_name, trace_with}
use Rattle.trace_text.specs.Traces.{item_line, end_line}
use Rattle.trace_text.proofs.printing.print.Goals as goal

pub failed-proc-requires : goal.failed-proc-requires
failed-proc-requires c =
    let (proc, assert, fails) = c.requires.fails in
    let run = c.in_ok-run.ensures {u = tt} in
    subst IsFailed (run.2 (Failed proc assert) fails) tt

pub returns : goal.returns
returns c =
    let run = c.in_ok-run.ensures {u = tt} in
    let proc = c.failed-proc.result.0 in
    let assert = c.failed-proc.result.1 in
    let items = flat_map item_line (items_of c.in_ok-run.run'.names c.args.choices.now) in
    let head : c.put_choices.new.text ≡ (66 ∷ 117 ∷ 103 ∷ 10 ∷ []) ++ items = (rw c.as_slice.ensures at (c.in_ok-put_choices.ensures {u = tt})) ∙ ap (λ (t : List ℕ). t ++ items) (c.in_ok-text.ensures {u = tt}) in
    let text : c.put_end.new.text ≡ ((66 ∷ 117 ∷ 103 ∷ 10 ∷ []) ++ items) ++ end_line (proc_name c.args.prog.now proc) assert =
    c.in_ok-put_end.ensures {u = tt} ∙ ap (λ (t : List ℕ). t ++ end_line c.proc_name.result.now assert) head ∙ ap (λ (n : List ℕ). ((66 ∷ 117 ∷ 103 ∷ 10 ∷ []) ++ items) ++ end_line n assert) c.proc_name.ensures in (
      trace_with c.args.prog.now c.args.choices.now c.in_ok-run.run'.names proc assert,
      record {
        proc = proc;
        assert = assert;
        names = c.in_ok-run.run'.names;
        fails = subst (HasStatus c.args.prog.now c.args.entry c.args.bound c.args.choices.now) c.failed-proc.ensures run.0;
        are = run.1;
        is = refl;
      },
      text,
    )
