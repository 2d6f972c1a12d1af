use Rattle.std.proofs.Common.{sym, subst, ◌++◌, List, []}
use Rattle.hy_val.specs.declared.sort.Sort.{Sort}
use Rattle.vc_gen.specs.Items.{AreSorts}
use Rattle.proc_template.specs.Starting.{Adds, IsBegun}
use Rattle.proc_template.proofs.Beginning.{are_first, are_second, begun_still, all_added}
use Rattle.proc_template.proofs.starting.begin.Goals as goal

pub add_variables-requires-clause-sorts : goal.add_variables-requires-clause-sorts
add_variables-requires-clause-sorts c =
    let p = c.args.passive.now in
    subst AreSorts (sym c.as_slice.ensures) (are_first p.consts (p.globals ++ p.ins) c.requires.sorts)

pub add_variables-requires-2-clause-begun : goal.add_variables-requires-2-clause-begun
add_variables-requires-2-clause-begun c =
    let p = c.args.passive.now in
    let first : IsBegun c.args.terms.now.nodes = ([], c.requires.none, tt) in
    begun_still c.args.terms.now.nodes c.add_variables.new.terms.nodes c.as_slice.result.now c.in_ok-consts.consts first (subst AreSorts (sym c.as_slice.ensures) (are_first p.consts (p.globals ++ p.ins) c.requires.sorts)) c.in_ok-consts.ensures

pub add_variables-requires-2-clause-sorts : goal.add_variables-requires-2-clause-sorts
add_variables-requires-2-clause-sorts c =
    let p = c.args.passive.now in
    subst AreSorts (sym c.as_slice-2.ensures) (are_first p.globals p.ins (are_second p.consts (p.globals ++ p.ins) c.requires.sorts))

pub add_variables-requires-3-clause-begun : goal.add_variables-requires-3-clause-begun
add_variables-requires-3-clause-begun c =
    let p = c.args.passive.now in
    let first : IsBegun c.args.terms.now.nodes = ([], c.requires.none, tt) in
    let second = begun_still c.args.terms.now.nodes c.add_variables.new.terms.nodes c.as_slice.result.now c.in_ok-consts.consts first (subst AreSorts (sym c.as_slice.ensures) (are_first p.consts (p.globals ++ p.ins) c.requires.sorts)) c.in_ok-consts.ensures in
    begun_still c.add_variables.new.terms.nodes c.add_variables-2.new.terms.nodes c.as_slice-2.result.now c.in_ok-globals.globals second
    (subst AreSorts (sym c.as_slice-2.ensures) (are_first p.globals p.ins (are_second p.consts (p.globals ++ p.ins) c.requires.sorts))) c.in_ok-globals.ensures

pub add_variables-requires-3-clause-sorts : goal.add_variables-requires-3-clause-sorts
add_variables-requires-3-clause-sorts c =
    let p = c.args.passive.now in
    subst AreSorts (sym c.as_slice-3.ensures) (are_second p.globals p.ins (are_second p.consts (p.globals ++ p.ins) c.requires.sorts))

pub returns-clause-nodes : goal.returns-clause-nodes
returns-clause-nodes c =
    let n1 = c.add_variables.new.terms.nodes in
    let n2 = c.add_variables-2.new.terms.nodes in
    let n3 = c.add_variables-3.new.terms.nodes in
    (all_added c.args.passive.now c.args.terms.now.nodes n1 n2 n3 c.in_ok-consts.consts c.in_ok-globals.globals c.in_ok-args.args c.requires.none
    (subst (λ (ss : List Sort). Adds c.args.terms.now.nodes ss n1 c.in_ok-consts.consts) c.as_slice.ensures c.in_ok-consts.ensures)
    (subst (λ (ss : List Sort). Adds n1 ss n2 c.in_ok-globals.globals) c.as_slice-2.ensures c.in_ok-globals.ensures)
    (subst (λ (ss : List Sort). Adds n2 ss n3 c.in_ok-args.args) c.as_slice-3.ensures c.in_ok-args.ensures)).0

pub returns-clause-actuals : goal.returns-clause-actuals
returns-clause-actuals c =
    let n1 = c.add_variables.new.terms.nodes in
    let n2 = c.add_variables-2.new.terms.nodes in
    let n3 = c.add_variables-3.new.terms.nodes in
    (all_added c.args.passive.now c.args.terms.now.nodes n1 n2 n3 c.in_ok-consts.consts c.in_ok-globals.globals c.in_ok-args.args c.requires.none
    (subst (λ (ss : List Sort). Adds c.args.terms.now.nodes ss n1 c.in_ok-consts.consts) c.as_slice.ensures c.in_ok-consts.ensures)
    (subst (λ (ss : List Sort). Adds n1 ss n2 c.in_ok-globals.globals) c.as_slice-2.ensures c.in_ok-globals.ensures)
    (subst (λ (ss : List Sort). Adds n2 ss n3 c.in_ok-args.args) c.as_slice-3.ensures c.in_ok-args.ensures)).1
