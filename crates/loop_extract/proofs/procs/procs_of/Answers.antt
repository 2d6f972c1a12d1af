use Rattle.std.proofs.Common.{map}
use Rattle.src_prog.specs.declared.proc.SrcLoop.{SrcLoop}
use Rattle.src_prog.specs.declared.proc.SrcProc.{SrcProc}
use Rattle.extract_def.specs.Origins.{origins_of}
use Rattle.extract_def.specs.Scopes.{reached_loops}
use Rattle.extract_def.specs.declared.scope.Scope.TheVariants.{Whole, In}
use Rattle.loop_extract.proofs.Rests.{row_more, rows_more}
use Rattle.extract_def.specs.Extraction.{source_procs, loop_procs}
use Rattle.loop_extract.proofs.Wholes.{sources_more, loops_more, base_more}
use Rattle.loop_extract.proofs.procs.procs_of.Goals as goal

pub loop-k-preserved : goal.loop-k-preserved
loop-k-preserved c =
    let ps = c.procs-procs.result.now in
    record {
      sources = sources_more c.args.prog.now ps c.loop-k.k c.in_ok-number.number c.index-procs-k.result (source_procs c.args.prog.now 0 ps) c.loop-k.made.sources c.add_proc.new.made.sources c.loop-k.invariant.sources c.loop-k-test.true c.index-procs-k.is c.in_ok-number.ensures.value c.in_ok-add_proc.ensures.sources;
      loops = loops_more c.args.prog.now ps c.loop-k.k c.in_ok-number.number c.index-procs-k.result (loop_procs c.args.prog.now 0 ps) c.loop-k.made.loops c.add_proc.new.made.loops c.loop-k.invariant.loops c.loop-k-test.true c.index-procs-k.is c.in_ok-number.ensures.value c.in_ok-add_proc.ensures.loops;
      base = base_more ps c.loop-k.k c.loop-k.made.base c.add_proc.new.made.base c.index-procs-k.result c.loop-k.invariant.base c.loop-k-test.true c.index-procs-k.is c.in_ok-add_proc.ensures.base;
      source_origins = row_more (λ (proc : SrcProc). origins_of proc Whole) ps c.loop-k.k c.index-procs-k.result c.loop-k.made.source_origins c.add_proc.new.made.source_origins c.loop-k.invariant.source_origins c.loop-k-test.true c.index-procs-k.is c.in_ok-add_proc.ensures.source_origins;
      loop_origins = rows_more (λ (proc : SrcProc). map (λ (l : SrcLoop). origins_of proc (In l.head l.exit)) (reached_loops proc)) ps c.loop-k.k c.index-procs-k.result c.loop-k.made.loop_origins c.add_proc.new.made.loop_origins c.loop-k.invariant.loop_origins c.loop-k-test.true c.index-procs-k.is c.in_ok-add_proc.ensures.loop_origins;
    }
