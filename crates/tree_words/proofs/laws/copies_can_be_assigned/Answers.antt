use Rattle.tree_words.proofs.Assigning.{assigns}
use Rattle.tree_words.proofs.laws.copies_can_be_assigned.Goals as goal

pub returns : goal.returns
returns c = λ flat entry q track base into places f path filled signed linked done grows ok extends paths at_base values root own chosen consts_fit proc_is call_ok own_ok free_ok.
    assigns c.each_value_has_its_sort.ensures flat entry q track base into places f path filled signed linked done grows ok extends paths own chosen own_ok free_ok at_base values root consts_fit proc_is call_ok
