use Rattle.bpl_parse.proofs.exprs.+nested.Given as goal

abbrev pub decreases-nested : goal.decreases-nested
decreases-nested l = l.depth
