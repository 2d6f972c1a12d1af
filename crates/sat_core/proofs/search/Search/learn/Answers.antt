use Rattle.std.proofs.Common.{◌≡◌, ◌+◌, ◌-◌, ◌<◌, ◌≤◌, ◌++◌, [], ◌∷◌, length, take, get_or, arith, sym, ◌∙◌, refl}
use Rattle.std.proofs.lemmas.List.{length-take-le}
use Rattle.sat_core.specs.Analysis.{IsLearnt}
use Rattle.sat_core.specs.Searching.{IsSearch, HasLearnt}
use Rattle.sat_core.proofs.Extending.{added_one}
use Rattle.sat_core.proofs.Measure.{goes_back}
use Rattle.sat_core.proofs.Returning.{learnt_range, learnt_quiet, learnt_free, learnt_variable, learnt_forces}
use Rattle.sat_core.proofs.Searches.{start_last}
use Rattle.sat_core.proofs.search.Search.learn.Goals as goal

pub add-requires-clause-in_range : goal.add-requires-clause-in_range
add-requires-clause-in_range g c =
    let cs = g.S.ClauseStore.clauses c.args.store.now in
    let ls = g.S.ClauseStore.assigned c.args.store.now in
    let f = c.in_ok-line.ensures in
    let line = c.in_ok-line.line in
    let n = c.analyze_last.new.self in
    let t = n.trail.items in
    let pl = n.places.items in
    let st = n.starts.items in
    let k : IsSearch cs ls t pl n.reasons.items st = rw (f.trail, f.places, f.reasons, f.starts) c.requires.searching in
    let start = get_or st (length st - 1) 0 in
    let learnt : IsLearnt cs t start line = rw (f.trail, f.starts) f.learnt in
    let rest = c.in-Some.rest.now in
    let lit = c.in-Some.last.now in
    let ends : line.clause ≡ rest ++ lit ∷ [] = sym c.as_slice.ensures ∙ c.in-Some.ensures.cases.0 in
    rw c.in_ok-go_back.ensures.places (learnt_range cs ls t pl n.reasons.items st k start line learnt rest lit ends)

pub add-requires-clause-quiet : goal.add-requires-clause-quiet
add-requires-clause-quiet g c =
    let cs = g.S.ClauseStore.clauses c.args.store.now in
    let ls = g.S.ClauseStore.assigned c.args.store.now in
    let f = c.in_ok-line.ensures in
    let line = c.in_ok-line.line in
    let n = c.analyze_last.new.self in
    let t = n.trail.items in
    let pl = n.places.items in
    let st = n.starts.items in
    let k : IsSearch cs ls t pl n.reasons.items st = rw (f.trail, f.places, f.reasons, f.starts) c.requires.searching in
    let start = get_or st (length st - 1) 0 in
    let learnt : IsLearnt cs t start line = rw (f.trail, f.starts) f.learnt in
    let rest = c.in-Some.rest.now in
    let lit = c.in-Some.last.now in
    let ends : line.clause ≡ rest ++ lit ∷ [] = sym c.as_slice.ensures ∙ c.in-Some.ensures.cases.0 in
    let level = c.level_of-level.result in
    let v = c.level_of-level.ensures in
    let last : get_or st level 0 ≤ start = start_last st k.ascending level v.within in
    rw (c.in_ok-go_back.ensures.starts, c.in_ok-go_back.ensures.trail) (learnt_quiet cs ls t pl n.reasons.items st k start line learnt rest lit ends level v.within last v.holds v.least)

pub propagate-requires-clause-free : goal.propagate-requires-clause-free
propagate-requires-clause-free g c =
    let cs = g.S.ClauseStore.clauses c.args.store.now in
    let ls = g.S.ClauseStore.assigned c.args.store.now in
    let f = c.in_ok-line.ensures in
    let line = c.in_ok-line.line in
    let n = c.analyze_last.new.self in
    let t = n.trail.items in
    let pl = n.places.items in
    let st = n.starts.items in
    let k : IsSearch cs ls t pl n.reasons.items st = rw (f.trail, f.places, f.reasons, f.starts) c.requires.searching in
    let start = get_or st (length st - 1) 0 in
    let learnt : IsLearnt cs t start line = rw (f.trail, f.starts) f.learnt in
    let rest = c.in-Some.rest.now in
    let lit = c.in-Some.last.now in
    let ends : line.clause ≡ rest ++ lit ∷ [] = sym c.as_slice.ensures ∙ c.in-Some.ensures.cases.0 in
    let level = c.level_of-level.result in
    let v = c.level_of-level.ensures in
    let last : get_or st level 0 ≤ start = start_last st k.ascending level v.within in
    rw (c.in_ok-id.ensures.trail, c.in_ok-go_back.ensures.trail) (learnt_free cs ls t pl n.reasons.items st k start line learnt rest lit ends level v.within last v.holds v.least)

pub propagate-requires-clause-variable : goal.propagate-requires-clause-variable
propagate-requires-clause-variable g c =
    let cs = g.S.ClauseStore.clauses c.args.store.now in
    let ls = g.S.ClauseStore.assigned c.args.store.now in
    let f = c.in_ok-line.ensures in
    let line = c.in_ok-line.line in
    let n = c.analyze_last.new.self in
    let t = n.trail.items in
    let pl = n.places.items in
    let st = n.starts.items in
    let k : IsSearch cs ls t pl n.reasons.items st = rw (f.trail, f.places, f.reasons, f.starts) c.requires.searching in
    let start = get_or st (length st - 1) 0 in
    let learnt : IsLearnt cs t start line = rw (f.trail, f.starts) f.learnt in
    let rest = c.in-Some.rest.now in
    let lit = c.in-Some.last.now in
    let ends : line.clause ≡ rest ++ lit ∷ [] = sym c.as_slice.ensures ∙ c.in-Some.ensures.cases.0 in
    rw (c.in_ok-id.ensures.places, c.in_ok-go_back.ensures.places) (learnt_variable cs ls t pl n.reasons.items st k start line learnt rest lit ends)

pub propagate-requires-clause-forced : goal.propagate-requires-clause-forced
propagate-requires-clause-forced g c =
    let cs = g.S.ClauseStore.clauses c.args.store.now in
    let ls = g.S.ClauseStore.assigned c.args.store.now in
    let f = c.in_ok-line.ensures in
    let line = c.in_ok-line.line in
    let n = c.analyze_last.new.self in
    let t = n.trail.items in
    let pl = n.places.items in
    let st = n.starts.items in
    let k : IsSearch cs ls t pl n.reasons.items st = rw (f.trail, f.places, f.reasons, f.starts) c.requires.searching in
    let start = get_or st (length st - 1) 0 in
    let learnt : IsLearnt cs t start line = rw (f.trail, f.starts) f.learnt in
    let rest = c.in-Some.rest.now in
    let lit = c.in-Some.last.now in
    let ends : line.clause ≡ rest ++ lit ∷ [] = sym c.as_slice.ensures ∙ c.in-Some.ensures.cases.0 in
    let level = c.level_of-level.result in
    let v = c.level_of-level.ensures in
    let last : get_or st level 0 ≤ start = start_last st k.ascending level v.within in
    rw (c.in_ok-id.ensures.trail, c.in_ok-go_back.ensures.trail) (learnt_forces cs ls t pl n.reasons.items st k start line learnt rest lit ends level v.within last v.holds v.least (g.S.ClauseStore.clauses c.add.new.store) c.in_ok-id.id c.in_ok-id.ensures.id)

pub returns-in_err-propagate-clause-extended : goal.returns-in_err-propagate-clause-extended
returns-in_err-propagate-clause-extended g c =
    let cs = g.S.ClauseStore.clauses c.args.store.now in
    let line = c.in_ok-line.line in
    let f = c.in_ok-line.ensures in
    rw (c.propagate.ensures.clauses, c.in_ok-id.ensures.clauses, c.in_ok-go_back.ensures.clauses) (line ∷ [], added_one cs line f.learnt.derived f.learnt.new)

pub returns-clause-extended : goal.returns-clause-extended
returns-clause-extended g c =
    let cs = g.S.ClauseStore.clauses c.args.store.now in
    let line = c.in_ok-line.line in
    let f = c.in_ok-line.ensures in
    rw (c.propagate.ensures.clauses, c.in_ok-id.ensures.clauses, c.in_ok-go_back.ensures.clauses) (line ∷ [], added_one cs line f.learnt.derived f.learnt.new)

pub returns-clause-onward : goal.returns-clause-onward
returns-clause-onward g c =
    let cs = g.S.ClauseStore.clauses c.args.store.now in
    let line = c.in_ok-line.line in
    let f = c.in_ok-line.ensures in
    let ls = g.S.ClauseStore.assigned c.args.store.now in
    let s = c.args.self.now in
    let st = s.starts.items in
    let k = c.requires.searching in
    let level = c.level_of-level.result in
    let within : level < length st = rw f.starts at c.level_of-level.ensures.within in
    let p = c.in_ok-propagate.ensures in
    let q = c.propagate.new.self in
    let count : length (take (get_or st level 0) s.trail.items) ≡ get_or st level 0 = let b = k.below level within in length-take-le (get_or st level 0) s.trail.items (omega (arith, b)) in
    let one : HasLearnt cs s.lines (cs ++ line.clause ∷ []) (s.lines ++ line ∷ []) = record { more = line ∷ []; log = refl; added = added_one cs line f.learnt.derived f.learnt.new } in
    let sized : length q.places.items ≡ length s.places.items = rw (p.sized, c.in_ok-id.ensures.places, c.in_ok-go_back.ensures.places, f.places) refl in
    let starts : q.starts.items ≡ take level st = rw (p.starts, c.in_ok-id.ensures.starts, c.in_ok-go_back.ensures.starts, f.starts) refl in
    let longer : length q.trail.items ≡ get_or st level 0 + 1 = rw (p.longer, c.in_ok-id.ensures.trail, c.in_ok-go_back.ensures.trail, f.starts, f.trail, count) refl in
    record {
      searching = p.searching;
      sized = sized;
      learnt = rw (p.clauses, c.in_ok-id.ensures.clauses, c.in_ok-go_back.ensures.clauses, p.lines, c.in_ok-id.ensures.lines, c.in_ok-go_back.ensures.lines, f.lines) one;
      less = rw (sized, starts, longer) (goes_back cs ls s.trail.items s.places.items s.reasons.items st k level within);
    }
