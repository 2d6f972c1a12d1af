use Rattle.std.proofs.Common.{◌∙◌, ◌++◌, ◌∷◌, [], ap, sym, map}
use Rattle.std.proofs.lemmas.List.{map-append}
use Rattle.flat_prog.specs.Marking.{across}
use Rattle.flat_prog.specs.Sites.{numbers_from}
use Rattle.flat_prog.proofs.Searching.{numbers_on}
use Rattle.flat_prog.proofs.changing.rows.Goals as goal

pub loop-proc-preserved : goal.loop-proc-preserved
loop-proc-preserved c =
    c.in_ok-push.ensures.ok ∙ ap (λ rs. rs ++ c.in_ok-across.field-0 ∷ []) c.loop-proc.invariant
    ∙ ap (λ r. map (across c.args.columns.now) (numbers_from 0 c.loop-proc.proc) ++ r ∷ []) c.in_ok-across.ensures
    ∙ sym (map-append (across c.args.columns.now) (numbers_from 0 c.loop-proc.proc) (c.loop-proc.proc ∷ []))
    ∙ sym (ap (map (across c.args.columns.now)) (numbers_on c.loop-proc.proc))
