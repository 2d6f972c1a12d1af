use Rattle.std.proofs.Common.{ℕ, List, Bor, sym, ◌∙◌}
use Rattle.std.specs.Str.{bytes_eq}
use Rattle.indexmap.specs.IndexMap.{get_by}
use Rattle.type_pass.proofs.NumberLaws.{name-known, name-new}
use Rattle.type_pass.proofs.numbers.put_first.Goals as goal

pub returns-then-contains_key : goal.returns-then-contains_key
returns-then-contains_key c = λ text. name-known (λ t. get_by (λ k. bytes_eq t k.now) c.args.places.now) c.args.name.now text c.args.number (sym c.contains_key.ensures ∙ c.if-contains_key.true)

pub returns : goal.returns
returns c = λ text.
    let q : Bor (List ℕ) = record c.args.name { now = text } in
    name-new (λ t. get_by (λ k. bytes_eq t k.now) c.args.places.now) (λ t. get_by (λ k. bytes_eq t k.now) c.insert.new.self) c.args.name.now text c.args.number
    (sym c.contains_key.ensures ∙ c.if-contains_key.false) (c.in_ok-insert.ensures.updates.0 q)
