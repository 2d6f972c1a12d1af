use Rattle.std.proofs.Common.{ap, ◌∙◌, ◌-◌, List, length}
use Rattle.hy_term.specs.declared.node.TermNode.{TermNode}
use Rattle.vc_gen.specs.declared.parts.SiteTerm.{SiteTerm}
use Rattle.proc_template.specs.Sites.{sorted_sites}
use Rattle.proc_template.specs.Template.{IsInstanceOf}
use Rattle.proc_template.specs.Track.{track_of}
use Rattle.proc_template.specs.declared.layout.Layout.{Layout}
use Rattle.proc_template.proofs.Ready.{instance_asked, instance_said, next_is, made_of}
use Rattle.proc_template.proofs.making.of_passive.Goals as goal

pub instance-requires : goal.instance-requires
instance-requires c =
    let p = c.args.passive.now in
    record {
      ready = instance_asked p c.begin.new.terms.nodes c.in_ok-actuals.actuals (length c.nodes.result.now - 1) (c.in_ok-actuals.ensures {u = tt}).nodes (c.in_ok-actuals.ensures {u = tt}).actuals
          (next_is p c.begin.new.terms.nodes c.nodes.result.now (c.in_ok-actuals.ensures {u = tt}).nodes c.nodes.ensures.value) c.requires.fit c.requires.sorts;
    }

pub returns : goal.returns
returns c =
    let p = c.args.passive.now in
    let i = c.in_ok-instance.instance in
    let new = c.instance.new.terms.nodes in
    let said = c.in_ok-instance.ensures {u = tt} in
    let made : IsInstanceOf p new i = instance_said p c.begin.new.terms.nodes c.in_ok-actuals.actuals (length c.nodes.result.now - 1) new i (c.in_ok-actuals.ensures {u = tt}).nodes (c.in_ok-actuals.ensures {u = tt}).actuals
    (next_is p c.begin.new.terms.nodes c.nodes.result.now (c.in_ok-actuals.ensures {u = tt}).nodes c.nodes.ensures.value)
    (record {
      later = said.later;
      ends = said.ends;
      all_ends = said.all_ends;
      plans_ends = said.plans_ends;
      plans_failures = said.plans_failures;
      one = said.one;
      there = said.there;
      variables = said.variables;
      room = said.room;
      laid = said.laid;
      single = said.single;
      requests = said.requests;
      values = said.values;
      sites = said.sites;
      places = said.places;
      failures = said.failures;
      all_failures = said.all_failures;
    }) in
    let nodes_are = (c.in_ok-nodes.ensures {u = tt}) ∙ c.nodes-3.ensures.value in
    let track_is = (c.in_ok-track.ensures {u = tt}) ∙ ap (λ (ns : List TermNode). track_of c.args.proc c.args.blocks.now ns c.in_ok-layout.layout i) c.nodes-2.ensures.value
    ∙ ap (λ (l : Layout). track_of c.args.proc c.args.blocks.now new l i) (c.in_ok-layout.ensures {u = tt}) in
    let sites_are = (c.in_ok-sites.ensures {u = tt}) ∙ ap (λ (ss : List SiteTerm). sorted_sites (length c.args.blocks.now) ss) c.as_slice.ensures in
    made_of c.args.proc c.args.blocks.now p new i c.in_ok-nodes.nodes c.in_ok-layout.layout.roles c.in_ok-sites.sites c.in_ok-track.track made nodes_are (ap (λ (l : Layout). l.roles) (c.in_ok-layout.ensures {u = tt})) sites_are track_is
