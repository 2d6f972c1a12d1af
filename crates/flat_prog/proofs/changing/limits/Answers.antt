use Rattle.std.proofs.Common.{◌≡◌, ◌∙◌, ap, subst, length, map, List, Bool}
use Rattle.hy_val.specs.declared.sort.Sort.{Sort}
use Rattle.flat_prog.specs.declared.proc.FlatProc.{FlatProc}
use Rattle.flat_prog.specs.Limits.{AreLimits}
use Rattle.flat_prog.specs.Marking.{AreColumns, across}
use Rattle.flat_prog.specs.Program.{FlatProgram}
use Rattle.flat_prog.specs.Shape.{IsFlat}
use Rattle.flat_prog.specs.Sites.{numbers_from}
use Rattle.flat_prog.proofs.Marks.{limits_are}
use Rattle.flat_prog.proofs.changing.limits.Goals as goal

joined : (flat : FlatProgram) (globals : List Sort) (procs : List FlatProc) (columns same rows : List (List Bool)) → IsFlat flat → globals ≡ flat.globals → procs ≡ flat.procs → same ≡ columns → AreColumns procs (length globals) columns →
    rows ≡ map (across same) (numbers_from 0 (length procs)) → AreLimits flat rows
joined flat globals procs columns same rows fits gs ps cs h is =
    limits_are flat columns rows fits
    (subst (λ (x : List FlatProc). AreColumns x (length flat.globals) columns) ps (subst (λ (x : List Sort). AreColumns procs (length x) columns) gs h))
    (is ∙ ap (λ x. map (across x) (numbers_from 0 (length procs))) cs ∙ ap (λ (x : List FlatProc). map (across columns) (numbers_from 0 (length x))) ps)

pub returns : goal.returns
returns c =
    joined c.args.flat.now c.globals-globals.result.now c.procs-procs.result.now c.in_ok-columns.columns c.as_slice.result.now c.in_ok-rows.rows
    c.consts-consts.ensures.kept c.globals-globals.ensures c.procs-procs.ensures c.as_slice.ensures c.in_ok-columns.ensures c.in_ok-rows.ensures
