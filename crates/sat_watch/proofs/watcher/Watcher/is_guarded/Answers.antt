use Rattle.std.proofs.Common.{◌≡◌, ◌==◌, false, List, ap, ◌∙◌, sym, subst, rules}
use Rattle.std.proofs.lemmas.Bool.{eq-eqb, false≢true, not-true}
use Rattle.sat_watch.specs.Watches.{watch_at}
use Rattle.sat_watch.specs.Watching.{is_false, IsGuarded}
use Rattle.sat_watch.specs.declared.watch.Watch.{Watch}
use Rattle.sat_watch.proofs.Watched.{guarded_open}
use Rattle.sat_watch.proofs.watcher.Watcher.is_guarded.Goals as goal

pub returns : goal.returns
returns c = λ h.
    let s = c.args.self.now in
    let v = c.watch_of-watch.result in
    let e : v ≡ watch_at s.watches.items c.args.id = c.watch_of-watch.ensures ∙ ap (λ (r : List Watch). watch_at r c.args.id) c.deref.ensures.value in
    let n : (v.first == v.second) ≡ false = search rules in
    let a : is_false s.walked v.first ≡ false = search rules in
    let no : c.is_true-2.result ≡ false = not-true c.is_true-2.result h in
    let b : is_false s.walked v.second ≡ false = search rules in
    let P : Watch → Type 0 = λ x. IsGuarded s.walked x in
    subst P e (guarded_open s.walked v (λ z. false≢true (sym n ∙ eq-eqb v.first v.second z)) a b)
