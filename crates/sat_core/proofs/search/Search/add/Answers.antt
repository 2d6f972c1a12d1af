use Rattle.sat_core.proofs.Searches.{search_added, get_last}
use Rattle.sat_core.proofs.search.Search.add.Goals as goal

pub returns-clause-searching : goal.returns-clause-searching
returns-clause-searching g c =
    let cs = g.S.ClauseStore.clauses c.args.store.now in
    let ls = g.S.ClauseStore.assigned c.args.store.now in
    let s = c.args.self.now in
    let next = search_added cs ls s.trail.items s.places.items s.reasons.items s.starts.items c.requires.searching c.args.line.clause c.requires.in_range c.requires.quiet in
    rw (c.in_ok-id.ensures.ok, c.in_ok-id.ensures.assigned, c.in_ok-clause.ensures) next

pub returns-clause-id : goal.returns-clause-id
returns-clause-id g c = rw (c.in_ok-id.ensures.ok, c.in_ok-id.ensures.id, c.in_ok-clause.ensures) (get_last (g.S.ClauseStore.clauses c.args.store.now) c.args.line.clause)
