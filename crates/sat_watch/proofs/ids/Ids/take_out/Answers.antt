use Rattle.std.proofs.Common.{◌≡◌, ℕ, ◌+◌, ◌-◌, ◌<◌, List, length, get_or, vec_len, ap, ◌∙◌, rules, arith}
use Rattle.sat_watch.proofs.Entries.{among_left}
use Rattle.sat_watch.proofs.ids.Ids.take_out.Goals as goal

pub returns-clause-others : goal.returns-clause-others
returns-clause-others c = λ id a.
    let xs = c.args.self.now in
    let ys = c.swap_remove.new.self.items in
    let e : c.self.inside.items.items ≡ xs = c.self.view_is in
    let len : vec_len c.self.inside.items ≡ length xs = search rules in
    let less : length ys + 1 ≡ length xs = search rules in
    let last : c.args.at + 1 < length xs → get_or ys c.args.at 0 ≡ get_or xs (length xs - 1) 0 = λ h.
    c.swap_remove.ensures.by_index.0 0 (omega (arith, h, len)) ∙ ap (λ n. get_or c.self.inside.items.items (n - 1) 0) len ∙ ap (λ (r : List ℕ). get_or r (length xs - 1) 0) e in
    let same : (k : ℕ) → (k ≡ c.args.at → ⊥) → k + 1 < length xs → get_or ys k 0 ≡ get_or xs k 0 = λ k n h.
    c.swap_remove.ensures.by_index.1 k 0 n (omega (arith, h, len)) ∙ ap (λ (r : List ℕ). get_or r k 0) e in
    among_left xs ys c.args.at c.requires less last same id a
