use Rattle.std.proofs.Common.{◌≡◌, List, ◌+◌, Bool, take, true, ap, sym, ◌∙◌, subst}
use Rattle.std.proofs.lemmas.Bool.{and_parts}
use Rattle.std.specs.List.{list_any}
use Rattle.cnf_form.specs.Lines.{accepts, refutes, is_empty_line}
use Rattle.cnf_form.specs.declared.log.Line.{Line}
use Rattle.proof_check.specs.Trimming.{AreNeeded}
use Rattle.proof_check.proofs.Keeping.{accepts_earlier, accepts_take, log_good}
use Rattle.proof_check.proofs.trimmer.trim_log.Goals as goal

pub needed_lines-requires-clause-earlier : goal.needed_lines-requires-clause-earlier
needed_lines-requires-clause-earlier c =
    let cs = c.args.cnf.now.clauses in
    let lines = c.args.log.now.lines in
    let n = c.first_empty-last.result + 1 in
    let parts = and_parts (accepts cs lines) (list_any is_empty_line lines) c.requires in
    rw (c.len-offset.ensures, c.as_slice-all.ensures) (accepts_earlier cs (take n lines) (accepts_take cs n lines parts.0))

pub returns-clause-refutes : goal.returns-clause-refutes
returns-clause-refutes c =
    let cs = c.args.cnf.now.clauses in
    let all = c.as_slice-all.result.now in
    let last = c.first_empty-last.result in
    let o = c.len-offset.result in
    let whole : refutes cs all ≡ true = ap (λ (ls : List Line). refutes cs ls) c.as_slice-all.ensures ∙ c.requires in
    let needed : AreNeeded o (take (last + 1) all) c.as_slice.result.now = subst (λ (fs : List Bool). AreNeeded o (take (last + 1) all) fs) (sym c.as_slice.ensures.value) c.in_ok-needed.ensures in
    (log_good cs all last o c.as_slice.result.now c.in_ok-kept.kept c.len-offset.ensures whole c.first_empty-last.ensures.within c.first_empty-last.ensures.before c.first_empty-last.ensures.refutes needed c.in_ok-kept.ensures).0

pub returns-clause-trimmed : goal.returns-clause-trimmed
returns-clause-trimmed c =
    let cs = c.args.cnf.now.clauses in
    let all = c.as_slice-all.result.now in
    let last = c.first_empty-last.result in
    let o = c.len-offset.result in
    let whole : refutes cs all ≡ true = ap (λ (ls : List Line). refutes cs ls) c.as_slice-all.ensures ∙ c.requires in
    let needed : AreNeeded o (take (last + 1) all) c.as_slice.result.now = subst (λ (fs : List Bool). AreNeeded o (take (last + 1) all) fs) (sym c.as_slice.ensures.value) c.in_ok-needed.ensures in
    (log_good cs all last o c.as_slice.result.now c.in_ok-kept.kept c.len-offset.ensures whole c.first_empty-last.ensures.within c.first_empty-last.ensures.before c.first_empty-last.ensures.refutes needed c.in_ok-kept.ensures).1
