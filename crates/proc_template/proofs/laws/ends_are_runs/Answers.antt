use Rattle.proc_template.proofs.Running.{ends_are_runs as runs}
use Rattle.proc_template.proofs.laws.ends_are_runs.Goals as goal

pub returns : goal.returns
returns c =
    runs
    (record {
      node_value = c.each_node_has_its_value.ensures;
      sites = record { ready = c.passive_forms_are_ready.ensures; once = c.blocks_stand_once.ensures; each = c.calls_have_one_site_each.ensures; sorted = c.procedures_have_their_sorts.ensures };
      plain = c.plain_runs_are_runs.ensures;
      passed_once = c.sites_are_passed_once.ensures;
    })
