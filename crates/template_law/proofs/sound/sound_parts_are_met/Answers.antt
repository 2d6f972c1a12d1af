use Rattle.template_law.proofs.Sounding.{sound_parts_are_met as met}
use Rattle.template_law.proofs.sound.sound_parts_are_met.Goals as goal

pub returns : goal.returns
returns c =
    met (record {
      value_is = c.each_node_has_its_value.ensures;
      keep = c.each_value_has_its_sort.ensures;
      shaped = c.templates_are_shaped.ensures;
      roles = c.roles_are_told.ensures;
      sites = c.sites_are_told.ensures;
      firsts = c.first_variables_are_told.ensures;
      ends = c.ends_are_runs.ensures;
      failures = c.failures_are_runs.ensures;
      single = c.one_site_fails.ensures;
      none_fails = c.none_fails_at_ends.ensures;
    })
