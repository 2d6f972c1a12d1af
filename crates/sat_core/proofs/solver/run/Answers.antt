use Rattle.std.proofs.Common.{◌≡◌, ℕ, List, ◌++◌, [], ◌∷◌, true, length, Some, slice_get, sym, ◌∙◌, ap, subst}
use Rattle.cnf_form.specs.Literal.{clauses_in_range}
use Rattle.cnf_form.specs.Lines.{follows, clauses_of}
use Rattle.cnf_form.specs.Store.{NoneSeen}
use Rattle.cnf_form.specs.declared.log.Line.{Line}
use Rattle.cnf_form.proofs.Accepting.{accepts_push}
use Rattle.sat_core.proofs.Extending.{learnt_more, extended_more}
use Rattle.sat_core.proofs.Placing.{placed_consistent}
use Rattle.sat_core.proofs.Satisfying.{all_satisfied}
use Rattle.sat_core.proofs.Searches.{get_more}
use Rattle.sat_core.proofs.solver.run.Goals as goal

pub returns-in_err-turn-clause-extended : goal.returns-in_err-turn-clause-extended
returns-in_err-turn-clause-extended g c =
    let a = g.S.ClauseStore.clauses c.args.store.now in
    let b = g.S.ClauseStore.clauses c.search.store in
    let k = c.search.invariant.learnt in
    extended_more a b (g.S.ClauseStore.clauses c.turn.new.store) (k.more, k.added) c.turn.ensures.extended

pub search-preserved : goal.search-preserved
search-preserved g c =
    let a = g.S.ClauseStore.clauses c.args.store.now in
    let b = g.S.ClauseStore.clauses c.search.store in
    let next = rw c.in-Onward.is at c.in_ok-turn.ensures.turn in
    record {
      searching = next.searching;
      sized = next.sized ∙ c.search.invariant.sized;
      learnt = learnt_more a b (g.S.ClauseStore.clauses c.turn.new.store) [] c.search.search.lines c.turn.new.self.lines c.search.invariant.learnt next.learnt;
    }

pub returns-in-Satisfied-clause-answer : goal.returns-in-Satisfied-clause-answer
returns-in-Satisfied-clause-answer g c =
    let a = g.S.ClauseStore.clauses c.args.store.now in
    let b = g.S.ClauseStore.clauses c.search.store in
    let s = c.search.search in
    let i = c.search.invariant in
    let end = rw c.in-Satisfied.is at c.in_ok-turn.ensures.turn in
    let v = c.in_ok-values-in-Satisfied.values.items in
    let len = rw end.2 at c.in_ok-values-in-Satisfied.ensures.len in
    let at = rw (end.1, end.2) at c.in_ok-values-in-Satisfied.ensures.values in
    let none : NoneSeen a s.trail.items = λ id d e. end.3 id d (subst (λ (ds : List (List ℕ)). slice_get ds id ≡ Some d) (sym i.learnt.added.clauses) (get_more a (clauses_of i.learnt.more) id d e)) in
    let range : clauses_in_range (length s.places.items) a ≡ true = rw i.sized c.requires.in_range in
    (len ∙ i.sized, all_satisfied v s.trail.items (length s.places.items) (placed_consistent s.trail.items s.places.items i.searching.placed) at a range none end.4)

pub returns-in-Refuted-clause-answer : goal.returns-in-Refuted-clause-answer
returns-in-Refuted-clause-answer g c =
    let a = g.S.ClauseStore.clauses c.args.store.now in
    let k = c.search.invariant.learnt in
    let line = c.in-Refuted.line in
    let end = rw c.in-Refuted.is at c.in_ok-turn.ensures.turn in
    let lines : c.push.new.self ≡ k.more ++ line ∷ [] = c.in_ok-push-in-Refuted.ensures.ok ∙ ap (λ (ls : List Line). ls ++ line ∷ []) (c.into_lines-lines.ensures ∙ end.1 ∙ k.log) in
    record {
      front = k.more;
      last = line;
      ends = lines;
      empty = end.2;
      new = k.added.new;
      accepted = rw (lines, accepts_push, k.added.accepted) (ap (λ (ds : List (List ℕ)). follows ds line) (sym k.added.clauses) ∙ end.3);
    }
