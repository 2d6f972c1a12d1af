use Rattle.template_law.proofs.Planning.{parts_are_met as met}
use Rattle.template_law.proofs.plans.parts_are_met.Goals as goal

pub returns : goal.returns
returns c =
    met (record {
      base = record {
        value_is = c.each_node_has_its_value.ensures;
        keep = c.each_value_has_its_sort.ensures;
        shaped = c.templates_are_shaped.ensures;
        roles = c.roles_are_told.ensures;
        sites = c.sites_are_told.ensures;
        firsts = c.first_variables_are_told.ensures;
        ends = c.ends_are_runs.ensures;
        failures = c.failures_are_runs.ensures;
        single = c.one_site_fails.ensures;
        none_fails = c.none_fails_at_ends.ensures;
      };
      never = c.bits_are_never_both.ensures;
      numbered = c.passed_sites_are_numbered.ensures;
      read = c.taken_values_are_read.ensures;
      new_values = c.new_variables.ensures;
      sorted = c.each_node_has_its_sort.ensures;
      keep = c.values_keep_sorts.ensures;
      ready = c.passive_forms_are_ready.ensures;
      blocks_once = c.blocks_stand_once.ensures;
      stay = c.runs_stay.ensures;
      start_is = c.runs_begin_alike.ensures;
      limited_runs = c.limited_runs_are_runs.ensures;
      passed_once = c.sites_are_passed_once.ensures;
      of_runs = c.calls_go_to_the_sites_passed.ensures;
      runs_keep = c.runs_keep.ensures;
    })
