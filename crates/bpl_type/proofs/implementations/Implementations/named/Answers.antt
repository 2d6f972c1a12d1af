use Rattle.std.proofs.Common.{map, refl, sym, ◌∙◌, ap}
use Rattle.std.specs.Option.{option_copied}
use Rattle.bpl_type.proofs.ImplementationLaws.{named-none, named-past, named-some}
use Rattle.bpl_type.proofs.implementations.Implementations.named.Goals as goal

pub returns-in-None : goal.returns-in-None
returns-in-None c =
    named-none c.args.self.now.items.items (map (λ i. i.now) c.args.self.now.items.items) c.args.self.now.names c.args.text.now c.number.result refl c.args.self.now.named c.number.ensures c.in-None.is

pub returns-in-None-at : goal.returns-in-None-at
returns-in-None-at c =
    named-past c.args.self.now.items.items c.as_slice.result.now (map (λ i. i.now) c.args.self.now.items.items) c.args.self.now.names c.args.text.now c.number.result c.in-Some.place refl c.args.self.now.named c.number.ensures c.in-Some.is
    c.as_slice.ensures.value (sym c.at.ensures ∙ ap option_copied c.in-None-at.is)

pub returns-in-Some-at : goal.returns-in-Some-at
returns-in-Some-at c =
    named-some c.args.self.now.items.items c.as_slice.result.now (map (λ i. i.now) c.args.self.now.items.items) c.args.self.now.names c.args.text.now c.number.result c.in-Some.place c.in-Some-at.found.now refl c.args.self.now.named c.number.ensures c.in-Some.is
    c.as_slice.ensures.value (sym c.at.ensures ∙ ap option_copied c.in-Some-at.is)
