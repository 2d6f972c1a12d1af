use Rattle.type_pass.specs.Declarations.{functions}
use Rattle.type_pass.proofs.UsedNumbers.{numbers-are}
use Rattle.type_pass.proofs.uses.graph_of_uses.Goals as goal

pub use_graph-requires : goal.use_graph-requires
use_graph-requires c =
    numbers-are (functions c.args.ast.now) c.in_ok-names.names.items c.as_slice.result.now c.in_ok-texts.texts.items c.in_ok-numbers.numbers
    c.as_slice.ensures.value c.in_ok-names.ensures c.in_ok-texts.ensures c.in_ok-numbers.ensures
