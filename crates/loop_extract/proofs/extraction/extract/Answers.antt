use Rattle.std.proofs.Common.{List, ◌&&◌, length, sym, ap, ◌∙◌, subst}
use Rattle.std.specs.List.{list_all}
use Rattle.src_prog.specs.Scope.{sorts_of}
use Rattle.hy_val.specs.Scope.{are_numbered}
use Rattle.flat_prog.specs.Shape.{IsFlat}
use Rattle.flat_prog.specs.declared.proc.FlatProc.{FlatProc}
use Rattle.extract_def.specs.Laws.{is_small_proc}
use Rattle.loop_extract.proofs.Flats.{flat_is, small_is}
use Rattle.loop_extract.proofs.extraction.extract.Goals as goal

pub new-flat-requires : goal.new-flat-requires
new-flat-requires c =
    let prog = c.args.prog.now in
    let small = ap (λ (qs : List FlatProc). are_numbered (length qs) && list_all is_small_proc qs) (sym c.as_slice.ensures) ∙ sym c.are_small.ensures ∙ c.if-not-are_small.false in
    let whole = flat_is prog c.in_ok-consts.consts c.in_ok-globals.globals c.in_ok-uniques.uniques c.in_ok-axioms.axioms c.in_ok-procs.procs (c.in_ok-consts.ensures ∙ ap sorts_of c.consts-named.ensures.value) (c.in_ok-uniques.ensures ∙ c.uniques.ensures)
    (c.in_ok-axioms.ensures ∙ c.axioms.ensures) (c.in_ok-globals.ensures ∙ ap sorts_of c.globals.ensures) c.in_ok-procs.ensures.procs in
    subst IsFlat (sym whole) (c.extraction_is_flat.ensures prog c.consts-named.ensures.kept (small_is prog c.in_ok-procs.procs c.in_ok-procs.ensures.procs small))
