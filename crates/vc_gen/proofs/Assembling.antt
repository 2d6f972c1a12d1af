-- Start, blocks and end together.
use Rattle.flat_prog.specs.Sites.{numbers_from}
use Rattle.vc_gen.proofs.Numbers.{numbers_then}
use Rattle.std.proofs.Common.{◌≡◌, ℕ, ◌+◌, true, false, ◌||◌, List, [], ◌∷◌, ◌++◌, map, length, arith, sym, ◌∙◌, ap, refl, subst, length-append}
use Rattle.std.specs.Prelude.{None, Some, IsTrue}
use Rattle.std.proofs.lemmas.List.{map-append}
use Rattle.hy_val.specs.Values.{is_on}
use Rattle.hy_val.specs.declared.sort.Sort.{Sort}
use Rattle.hy_val.specs.declared.value.Value.{Value}
use Rattle.hy_val.specs.declared.expr.Env.{Env}
use Rattle.hy_term.specs.Meaning.{value, fits}
use Rattle.hy_term.specs.Variables.{reads}
use Rattle.hy_term.specs.declared.node.TermNode.{TermNode}
use Rattle.flat_prog.specs.declared.proc.FlatProc.{FlatProc}
use Rattle.passive_form.specs.Limited.{Limited}
use Rattle.passive_form.specs.Local.{sorted_as, start}
use Rattle.flat_prog.specs.Local.{outs_of}
use Rattle.vc_gen.specs.declared.parts.FailTerm.{FailTerm}
use Rattle.vc_gen.proofs.Fitness.{sorts_from}
use Rattle.vc_gen.specs.Passages.{all_passages, all_places}
use Rattle.vc_gen.specs.Fold.{Edge, fold, seen, live_edges, ends, end_env}
use Rattle.vc_gen.specs.Breaking.{any_breaks}
use Rattle.vc_gen.specs.Alike.{Alike}
use Rattle.passive_form.specs.declared.PassiveStart.{PassiveStart}
use Rattle.passive_form.specs.declared.Passive.{Passive}
use Rattle.passive_form.specs.Versions.{from}
use Rattle.flat_prog.specs.Program.{variables_of}
use Rattle.passive_form.specs.Making.{passive_blocks, passive_of}
use Rattle.vc_gen.specs.declared.parts.Actuals.{Actuals}
use Rattle.vc_gen.specs.declared.parts.Draft.{Draft}
use Rattle.vc_gen.specs.declared.parts.ValueTerm.{ValueTerm}
use Rattle.vc_gen.specs.Taken.{true_values, ValuesThere, all_values}
use Rattle.vc_gen.specs.Valued.{BuiltValued}
use Rattle.vc_gen.proofs.Taking.{values_later, values_stay}
use Rattle.vc_gen.specs.declared.parts.Wait.{Wait}
use Rattle.vc_gen.specs.declared.parts.EdgeTerm.{EdgeTerm}
use Rattle.vc_gen.specs.Exact.{true_edges, SameCalls, EdgesThere, true_sites}
use Rattle.vc_gen.specs.Standing.{Later, Plain, variables_in}
use Rattle.vc_gen.specs.Items.{bool_sort, SiteMeans, made, chosen}
use Rattle.vc_gen.specs.Emit.{Stands, ItemsReady, Step, terms_of, site_value, SitesThere, FailsThere}
use Rattle.vc_gen.specs.declared.parts.SiteTerm.{SiteTerm}
use Rattle.vc_gen.specs.Signed.{SitesSigned, SitesAsked}
use Rattle.vc_gen.specs.Laid.{site_laid, sites_laid}
use Rattle.vc_gen.proofs.Asking.{asked_later}
use Rattle.vc_gen.proofs.Placed.{none_laid, start_laid, order_laid}
use Rattle.vc_gen.proofs.Signing.{signed_later, signed_both, start_signed}
use Rattle.vc_gen.specs.Inputs.{sorts_of_block, sorts_of_blocks, givens_at}
use Rattle.vc_gen.specs.Instance.{all_at, edges_at, start_sorts, room, first_edge, Built, PartsThere, IsRoom}
use Rattle.vc_gen.specs.Edges.{env_at}
use Rattle.vc_gen.specs.Entering.{met, EnterReady, Entered}
use Rattle.vc_gen.specs.Fitting.{blocks_sorts, SortsAre}
use Rattle.vc_gen.specs.Flowing.{Stage, FlowReady, WentAll}
use Rattle.passive_form.specs.Laws.{AllThere}
use Rattle.vc_gen.specs.Whole.{IsLiteral, InstanceReady, NewVariables}
use Rattle.vc_gen.proofs.Growth.{later_then, sort_later, are_later, are_append, map_later}
use Rattle.vc_gen.proofs.Joining.{sites_later, sites_stay, sites_there_append, fits_before, stands_then, reads_append, length_reads, sorts_left, sorts_right, fails_stay, fails_there_append}
use Rattle.vc_gen.proofs.Passes.{bit_later}
use Rattle.vc_gen.proofs.Fanning.{edges_later}
use Rattle.vc_gen.proofs.Arriving.{met_ends, met_end_env, all_there}
use Rattle.vc_gen.proofs.Stepping.{vals_at, meant_at}
use Rattle.vc_gen.proofs.Outward.{are_terms}
use Rattle.vc_gen.proofs.Exacting.{marks_later, marks_stay, placed_later}
use Rattle.vc_gen.proofs.Opening.{start_chosen, start_quiet, start_sites, start_begins, outs_are}

abbrev pub opened : Actuals → ℕ → ℕ → ℕ → Draft
opened actuals lit1 lit0 k = record { versions = actuals.globals ++ actuals.args; cond = lit1; fails = lit0; next = k; calls = 0; sites = []; asserts = []; values = [] }

-- what is taken as the procedure begins is no value of a block
abbrev pub emptied : Draft → Draft
emptied e = record e { values = [] }

abbrev pub wait_from : List ℕ → PassiveStart → ℕ → Wait
wait_from versions start live = record { target = Some 0; live = live; globals = terms_of versions start.globals; locals = terms_of versions start.locals }

-- the literals are there
pub record Begun (old n2 : List TermNode) (lit1 lit0 : ℕ) : Type 0 where
  pub later : Later old n2
  pub plain : Plain old n2
  pub yes_is : IsLiteral n2 lit1 true
  pub no_is : IsLiteral n2 lit0 false

pub literals : (old n1 n2 : List TermNode) (lit1 lit0 : ℕ) → Later old n1 → Plain old n1 → IsLiteral n1 lit1 true → Later n1 n2 → Plain n1 n2 → IsLiteral n2 lit0 false → Begun old n2 lit1 lit0
literals old n1 n2 lit1 lit0 l p y l2 p2 z = record {
  later = later_then old n1 n2 l l2;
  plain = record { below = λ k h. p2.below k (p.below k h); fit = λ a h. p2.fit a (p.fit a h); numbers = p2.numbers ∙ p.numbers };
  yes_is = record { sort = sort_later n1 n2 lit1 bool_sort l2 y.sort; means = λ a. bit_later n1 n2 a lit1 l2 y.sort ∙ y.means a };
  no_is = z;
}

open_stands : (old n2 : List TermNode) (p : Passive) (actuals : Actuals) (k lit1 lit0 : ℕ) → InstanceReady old p actuals k → Begun old n2 lit1 lit0 → Stands n2 actuals.consts (opened actuals lit1 lit0 k) p.consts (p.globals ++ p.ins)
open_stands old n2 p actuals k lit1 lit0 r b = record {
  sound = b.later.sound;
  consts = are_later old n2 actuals.consts p.consts b.later r.consts;
  versions = are_append n2 actuals.globals actuals.args p.globals p.ins (are_later old n2 actuals.globals p.globals b.later r.globals) (are_later old n2 actuals.args p.ins b.later r.args);
  cond = b.yes_is.sort;
  fails = b.no_is.sort;
  next = b.plain.below k r.below;
}

pub start_ready : (old n2 : List TermNode) (p : Passive) (actuals : Actuals) (k lit1 lit0 : ℕ) → InstanceReady old p actuals k → Begun old n2 lit1 lit0 → ItemsReady n2 actuals.consts (opened actuals lit1 lit0 k) p.start.items
start_ready old n2 p actuals k lit1 lit0 r b = record { csorts = p.consts; vsorts = p.globals ++ p.ins; stands = open_stands old n2 p actuals k lit1 lit0 r b; fit = r.fit.start_items }

pub start_stage : (old n2 n3 : List TermNode) (p : Passive) (actuals : Actuals) (k lit1 lit0 : ℕ) (e : Draft) → InstanceReady old p actuals k → Begun old n2 lit1 lit0 → Step actuals.consts 0 n2 (opened actuals lit1 lit0 k) p.start.items n3 e →
    Stage p.consts p.globals p.locals n3 actuals.consts (wait_from e.versions p.start lit0) (emptied e) (wait_from e.versions p.start lit1 ∷ [])
start_stage old n2 n3 p actuals k lit1 lit0 e r b s =
    let st = stands_then actuals.consts 0 n2 n3 (opened actuals lit1 lit0 k) e p.consts (p.globals ++ p.ins) p.start.items (open_stands old n2 p actuals k lit1 lit0 r b) s in
    let gs = are_terms n3 e.versions ((p.globals ++ p.ins) ++ made p.start.items) p.start.globals p.globals st.versions r.fit.start_globals in
    let ls = are_terms n3 e.versions ((p.globals ++ p.ins) ++ made p.start.items) p.start.locals p.locals st.versions r.fit.start_locals in
    record {
      sound = s.later.sound;
      consts = st.consts;
      spare_of = record { live = sort_later n2 n3 lit0 bool_sort s.later b.no_is.sort; globals = gs; locals = ls };
      spare_off = λ a. bit_later n2 n3 a lit0 s.later b.no_is.sort ∙ b.no_is.means a;
      waits_of = (record { live = sort_later n2 n3 lit1 bool_sort s.later b.yes_is.sort; globals = gs; locals = ls }, tt);
      fails = s.fails;
      below = s.below;
    }

pub flow_ready : (old n2 n3 : List TermNode) (p : Passive) (actuals : Actuals) (k lit1 lit0 : ℕ) (e : Draft) → InstanceReady old p actuals k → Begun old n2 lit1 lit0 → Step actuals.consts 0 n2 (opened actuals lit1 lit0 k) p.start.items n3 e →
    FlowReady n3 actuals.consts (wait_from e.versions p.start lit0) (emptied e) (wait_from e.versions p.start lit1 ∷ []) p.blocks
flow_ready old n2 n3 p actuals k lit1 lit0 e r b s = record { csorts = p.consts; gsorts = p.globals; lsorts = p.locals; stage = start_stage old n2 n3 p actuals k lit1 lit0 e r b s; fit = r.fit.blocks }

pub end_ready : (old n2 n3 n4 : List TermNode) (p : Passive) (actuals : Actuals) (k lit1 lit0 : ℕ) (e g : Draft) (edges : List EdgeTerm) (left : List Wait) → InstanceReady old p actuals k → Begun old n2 lit1 lit0 → Step actuals.consts 0 n2 (opened actuals lit1 lit0 k) p.start.items n3 e →
    WentAll actuals.consts (wait_from e.versions p.start lit0) n3 (emptied e) [] (wait_from e.versions p.start lit1 ∷ []) p.blocks n4 g edges left → EnterReady n4 (wait_from e.versions p.start lit0) left
end_ready old n2 n3 n4 p actuals k lit1 lit0 e g edges left r b s w =
    let h = w.stage p.consts p.globals p.locals (start_stage old n2 n3 p actuals k lit1 lit0 e r b s) r.fit.blocks in
    record { gs = p.globals; ls = p.locals; sound = h.sound; spare_of = h.spare_of; spare_off = h.spare_off; waits_of = h.waits_of }

-- all parts of an instance
pub record Parts (old n2 n3 n4 new : List TermNode) (p : Passive) (actuals : Actuals) (k lit1 lit0 : ℕ) (e g : Draft) (edges : List EdgeTerm) (left : List Wait) (end : Wait) : Type 0 where
  pub ready : InstanceReady old p actuals k
  pub begun : Begun old n2 lit1 lit0
  pub step : Step actuals.consts 0 n2 (opened actuals lit1 lit0 k) p.start.items n3 e
  pub went : WentAll actuals.consts (wait_from e.versions p.start lit0) n3 (emptied e) [] (wait_from e.versions p.start lit1 ∷ []) p.blocks n4 g edges left
  pub later : Later n4 new
  pub plain : Plain n4 new
  pub entered : Entered n4 (wait_from e.versions p.start lit0) left None new end

order_sorts : (flat : Limited) (q : FlatProc) (order : List ℕ) → blocks_sorts (passive_blocks flat q order) ≡ sorts_of_blocks flat q order
order_sorts flat q [] = refl
order_sorts flat q (n ∷ ns) = ap (λ r. sorts_of_block flat q n ++ r) (order_sorts flat q ns)

names_in : (ins outs others : List Sort) → SortsAre (ins ++ (outs ++ others)) (from (length ins) outs) outs
names_in ins outs others = sorts_from (ins ++ (outs ++ others)) ins outs others (length ins) refl refl

no_means : (nodes : List TermNode) (a : ℕ → Value) (ss : List SiteTerm) → map (site_value a nodes) ss ≡ [] → ss ≡ []
no_means nodes a [] h = refl
no_means nodes a (s ∷ ss) h = cc

pub variables_of_all : (old n2 n3 n4 new : List TermNode) (p : Passive) (actuals : Actuals) (k lit1 lit0 : ℕ) (e g : Draft) (edges : List EdgeTerm) (left : List Wait) (end : Wait) → Parts old n2 n3 n4 new p actuals k lit1 lit0 e g edges left end →
    NewVariables old k new g.next
variables_of_all old n2 n3 n4 new p actuals k lit1 lit0 e g edges left end h =
    let s = h.step in
    let stage3 = start_stage old n2 n3 p actuals k lit1 lit0 e h.ready h.begun s in
    let stage4 = h.went.stage p.consts p.globals p.locals stage3 h.ready.fit.blocks in
    let n = length (chosen p.start.items) in
    let m = length (blocks_sorts p.blocks) in
    record {
      count = n + m;
      numbers = h.plain.numbers ∙ numbers_then (variables_in old) (variables_in n3) (variables_in n4) k e.next n m (n + m) (s.variables ∙ ap (λ r. r ++ numbers_from k n) h.begun.plain.numbers) s.next h.went.numbers refl;
      next_is = omega (arith, h.went.next, s.next);
      below = h.plain.below g.next stage4.below;
    }

pub there_of : (flat : Limited) (q : FlatProc) (order : List ℕ) (old n2 n3 n4 new : List TermNode) (actuals : Actuals) (k lit1 lit0 : ℕ) (e g : Draft) (edges : List EdgeTerm) (left : List Wait) (end : Wait) →
    Parts old n2 n3 n4 new (passive_of flat q order) actuals k lit1 lit0 e g edges left end →
    PartsThere flat.globals q.outs new end.live g.fails (terms_of end.locals (from (length q.ins) q.outs)) end.globals edges g.asserts
there_of flat q order old n2 n3 n4 new actuals k lit1 lit0 e g edges left end h =
    let p = passive_of flat q order in
    let s = h.step in
    let stage3 = start_stage old n2 n3 p actuals k lit1 lit0 e h.ready h.begun s in
    let stage4 = h.went.stage flat.consts flat.globals (variables_of q) stage3 h.ready.fit.blocks in
    let l35 = later_then n3 n4 new h.went.later h.later in
    let w = h.entered.are flat.globals (variables_of q) stage4.spare_of stage4.waits_of in
    record {
      ended_is = w.live;
      fails_is = sort_later n4 new g.fails bool_sort h.later stage4.fails;
      outs_are = are_terms new end.locals (variables_of q) (from (length q.ins) q.outs) q.outs w.locals (names_in q.ins q.outs q.locals);
      globals_are = w.globals;
      edges_are = subst (λ (es : List EdgeTerm). EdgesThere new es) (sym h.went.marks_are) (marks_stay n4 new h.went.marks h.later h.went.marks_there);
      asserts_are = subst (λ (fs : List FailTerm). FailsThere new fs) (sym (h.went.asserts_are ∙ ap (λ r. r ++ h.went.asserts) s.asserts_behind))
          (fails_there_append new s.asserts h.went.asserts (fails_stay n3 new s.asserts l35 s.asserts_there) (fails_stay n4 new h.went.asserts h.later h.went.asserts_there));
    }

pub built_of : (flat : Limited) (q : FlatProc) (order : List ℕ) (old n2 n3 n4 new : List TermNode) (actuals : Actuals) (k lit1 lit0 : ℕ) (e g : Draft) (edges : List EdgeTerm) (left : List Wait) (end : Wait) → AllThere flat q order →
    Parts old n2 n3 n4 new (passive_of flat q order) actuals k lit1 lit0 e g edges left end →
    Built flat q order actuals k old new left end.live g.fails (terms_of end.locals (from (length q.ins) q.outs)) end.globals edges g.sites
built_of flat q order old n2 n3 n4 new actuals k lit1 lit0 e g edges left end there h =
    let p = passive_of flat q order in
    let cs = actuals.consts in
    let first = wait_from e.versions p.start lit1 in
    let spare = wait_from e.versions p.start lit0 in
    let r = h.ready in
    let b = h.begun in
    let s = h.step in
    let d = opened actuals lit1 lit0 k in
    let stage3 = start_stage old n2 n3 p actuals k lit1 lit0 e r b s in
    let stage4 = h.went.stage flat.consts flat.globals (variables_of q) stage3 r.fit.blocks in
    let says = h.went.says flat q order refl there stage3 r.fit.blocks in
    let l35 = later_then n3 n4 new h.went.later h.later in
    let l03 = later_then old n2 n3 b.later s.later in
    let l05 = later_then old n3 new l03 l35 in
    let c2 = are_later old n2 cs flat.consts b.later r.consts in
    let g2 = are_later old n2 actuals.globals flat.globals b.later r.globals in
    let i2 = are_later old n2 actuals.args q.ins b.later r.args in
    let c3 = are_later n2 n3 cs flat.consts s.later c2 in
    let g3 = are_later n2 n3 actuals.globals flat.globals s.later g2 in
    let i3 = are_later n2 n3 actuals.args q.ins s.later i2 in
    let env = λ (a : ℕ → Value). env_at a n3 (all_at a n3 cs) first.globals first.locals in
    let next_is : e.next ≡ k + length (start_sorts q q.kind) = s.next ∙ ap (λ ss. k + length ss) (start_chosen flat q q.kind) in
    let first_is : (a : ℕ → Value) → edges_at a n3 (all_at a n3 cs) (first ∷ []) ≡ first_edge (env a) = λ a.
    ap {B = List Edge} (λ x. record { target = Some 0; live = x; env = env a } ∷ []) (bit_later n2 n3 a lit1 s.later b.yes_is.sort ∙ b.yes_is.means a) in
    let waits_there = all_there n4 flat.globals (variables_of q) left stage4.waits_of in
    let same_left : (a : ℕ → Value) (consts : List Value) → edges_at a new consts left ≡ edges_at a n4 consts left = λ a consts. edges_later n4 new a consts left h.later waits_there in
    let left_is : (a : ℕ → Value) → edges_at a new (all_at a new cs) left ≡ edges_at a n4 (all_at a n4 cs) left = λ a.
    ap (λ x. edges_at a new x left) (map_later n4 new a cs flat.consts h.later stage4.consts) ∙ same_left a (all_at a n4 cs) in
    let w = h.entered.are flat.globals (variables_of q) stage4.spare_of stage4.waits_of in
    let met_is : (a : ℕ → Value) → met None (edges_at a n4 (all_at a new cs) left) ≡ ends (edges_at a new (all_at a new cs) left) = λ a.
    met_ends (edges_at a n4 (all_at a new cs) left) ∙ ap ends (sym (same_left a (all_at a new cs))) in
    let end_is : (a : ℕ → Value) → IsTrue (fits a new) → ends (edges_at a new (all_at a new cs) left) ≡ true →
    env_at a new (all_at a new cs) end.globals end.locals ≡ end_env (env a) (edges_at a new (all_at a new cs) left) = λ a f on.
    h.entered.env_is a (all_at a new cs) (env a) f (met_is a ∙ on) ∙ met_end_env (env a) (edges_at a n4 (all_at a new cs) left) ∙ ap (end_env (env a)) (sym (same_left a (all_at a new cs))) in
    let rewrite : (a : ℕ → Value) → fold flat q (env a) (givens_at flat q a e.next order) (edges_at a n3 (all_at a n3 cs) (first ∷ []))
    ≡ fold flat q (env a) (givens_at flat q a (k + length (start_sorts q q.kind)) order) (first_edge (env a)) = λ a.
    ap (λ x. fold flat q (env a) (givens_at flat q a x order) (edges_at a n3 (all_at a n3 cs) (first ∷ []))) next_is
    ∙ ap (fold flat q (env a) (givens_at flat q a (k + length (start_sorts q q.kind)) order)) (first_is a) in
    let n_s = length (start_sorts q q.kind) in
    let n_b = length (sorts_of_blocks flat q order) in
    record {
      later = l05;
      env = env;
      begin = λ a more f.
          let f3 = fits_before a n3 new l35 f in
          ap (λ x. start q q.kind x (all_at a new actuals.globals) (all_at a new actuals.args) (reads a k n_s ++ more)) (map_later n3 new a cs flat.consts l35 c3)
          ∙ ap (λ x. start q q.kind (all_at a n3 cs) x (all_at a new actuals.args) (reads a k n_s ++ more)) (map_later n3 new a actuals.globals flat.globals l35 g3)
          ∙ ap (λ x. start q q.kind (all_at a n3 cs) (all_at a n3 actuals.globals) x (reads a k n_s ++ more)) (map_later n3 new a actuals.args q.ins l35 i3)
          ∙ start_begins flat q q.kind cs actuals.globals actuals.args n2 n3 d e c2 g2 i2 refl s a more f3;
      alike = λ a f.
          subst (λ (x : List Edge). Alike x (fold flat q (env a) (givens_at flat q a (k + length (start_sorts q q.kind)) order) (first_edge (env a)))) (sym (left_is a))
          (subst (λ (x : List Edge). Alike (edges_at a n4 (all_at a n4 cs) left) x) (rewrite a) (says.alike a (env a) (fits_before a n4 new h.later f)));
      fit = λ a f t.
          let split : reads a k (length (room flat q order)) ≡ reads a k n_s ++ reads a e.next n_b =
          ap (reads a k) (length-append (start_sorts q q.kind) (sorts_of_blocks flat q order)) ∙ reads_append a k n_s n_b ∙ ap (λ i. reads a k n_s ++ reads a i n_b) (sym next_is) in
          let t2 : sorted_as (room flat q order) (reads a k n_s ++ reads a e.next n_b) ≡ true = ap (sorted_as (room flat q order)) (sym split) ∙ t in
          let len = length_reads a k n_s in
          let s1 = sorts_left (start_sorts q q.kind) (sorts_of_blocks flat q order) (reads a k n_s) (reads a e.next n_b) len t2 in
          let s2 = sorts_right (start_sorts q q.kind) (sorts_of_blocks flat q order) (reads a k n_s) (reads a e.next n_b) len t2 in
          let f3 = s.fit a (b.plain.fit a f) (ap (λ ss. sorted_as ss (reads a k (length ss))) (start_chosen flat q q.kind) ∙ s1) in
          h.plain.fit a (h.went.fit a f3 (ap (λ ss. sorted_as ss (reads a e.next (length ss))) (order_sorts flat q order) ∙ s2));
      fails_is = λ a f.
          let f4 = fits_before a n4 new h.later f in
          let f3 = fits_before a n3 n4 h.went.later f4 in
          let said = s.says a (all_at a n3 cs) (vals_at a n3 e.versions) f3 (meant_at a n3 cs e.versions) in
          let none : is_on (value a n3 e.fails) ≡ false =
          said.fails ∙ start_quiet flat q q.kind (all_at a n3 cs) (vals_at a n3 e.versions) (is_on (value a n2 lit1)) (is_on (value a n2 lit0)) ∙ b.no_is.means a in
          bit_later n4 new a g.fails h.later stage4.fails ∙ says.fails a (env a) f4
          ∙ ap (λ x. x || any_breaks flat q (seen flat q (env a) (givens_at flat q a e.next order) (edges_at a n3 (all_at a n3 cs) (first ∷ [])))) none
          ∙ ap (λ x. any_breaks flat q (seen flat q (env a) (givens_at flat q a x order) (edges_at a n3 (all_at a n3 cs) (first ∷ [])))) next_is
          ∙ ap (λ x. any_breaks flat q (seen flat q (env a) (givens_at flat q a (k + length (start_sorts q q.kind)) order) x)) (first_is a);
      edges_are = λ a f.
          let f4 = fits_before a n4 new h.later f in
          ap (true_edges a new) h.went.marks_are ∙ marks_later n4 new a h.went.marks h.later h.went.marks_there ∙ says.edges a (env a) f4
          ∙ ap (λ x. live_edges flat q (env a) (givens_at flat q a x order) (edges_at a n3 (all_at a n3 cs) (first ∷ []))) next_is
          ∙ ap (live_edges flat q (env a) (givens_at flat q a (k + length (start_sorts q q.kind)) order)) (first_is a);
      calls_are = λ a f.
          let f4 = fits_before a n4 new h.later f in
          let f3 = fits_before a n3 n4 h.went.later f4 in
          let said = s.says a (all_at a n3 cs) (vals_at a n3 e.versions) f3 (meant_at a n3 cs e.versions) in
          let none : map (site_value a new) s.sites ≡ [] =
          sites_later n3 new a s.sites l35 s.sites_there ∙ said.sites_are ∙ start_sites flat q q.kind (all_at a n3 cs) (vals_at a n3 e.versions) (is_on (value a n2 lit1)) in
          let sites_is : map (site_value a new) g.sites ≡ map (site_value a n4) h.went.sites =
          ap (map (site_value a new)) (h.went.sites_are ∙ ap (λ r. r ++ h.went.sites) s.sites_behind) ∙ map-append (site_value a new) s.sites h.went.sites
          ∙ ap (λ r. r ++ map (site_value a new) h.went.sites) none ∙ sites_later n4 new a h.went.sites h.later h.went.sites_there in
          subst (λ (ms : List SiteMeans). SameCalls ms (all_passages flat q (seen flat q (env a) (givens_at flat q a (k + length (start_sorts q q.kind)) order) (first_edge (env a))))) (sym sites_is)
          (subst (λ (es : List Edge). SameCalls (map (site_value a n4) h.went.sites) (all_passages flat q (seen flat q (env a) (givens_at flat q a (k + length (start_sorts q q.kind)) order) es))) (first_is a)
          (subst (λ (i : ℕ). SameCalls (map (site_value a n4) h.went.sites) (all_passages flat q (seen flat q (env a) (givens_at flat q a i order) (edges_at a n3 (all_at a n3 cs) (first ∷ []))))) next_is
          (says.calls a (env a) f4)));
      places_are = λ a f.
          let f4 = fits_before a n4 new h.later f in
          let f3 = fits_before a n3 n4 h.went.later f4 in
          let said = s.says a (all_at a n3 cs) (vals_at a n3 e.versions) f3 (meant_at a n3 cs e.versions) in
          let none : s.sites ≡ [] = no_means n3 a s.sites (said.sites_are ∙ start_sites flat q q.kind (all_at a n3 cs) (vals_at a n3 e.versions) (is_on (value a n2 lit1))) in
          ap (true_sites a new) (h.went.sites_are ∙ ap (λ r. r ++ h.went.sites) (s.sites_behind ∙ none)) ∙ placed_later n4 new a h.went.sites h.later h.went.sites_there ∙ says.places a (env a) f4
          ∙ ap (λ x. all_places flat q (seen flat q (env a) (givens_at flat q a x order) (edges_at a n3 (all_at a n3 cs) (first ∷ [])))) next_is
          ∙ ap (λ x. all_places flat q (seen flat q (env a) (givens_at flat q a (k + length (start_sorts q q.kind)) order) x)) (first_is a);
      sites_there = subst (λ (ss : List SiteTerm). SitesThere new ss) (sym (h.went.sites_are ∙ ap (λ r. r ++ h.went.sites) s.sites_behind))
          (sites_there_append new s.sites h.went.sites (sites_stay n3 new s.sites l35 s.sites_there) (sites_stay n4 new h.went.sites h.later h.went.sites_there));
      signed = subst (λ (ss : List SiteTerm). SitesSigned flat new ss) (sym (h.went.sites_are ∙ ap (λ r. r ++ h.went.sites) s.sites_behind))
          (signed_both flat new s.sites h.went.sites (signed_later flat n3 new s.sites l35 (start_signed flat q q.kind n3 s.sites s.sites_of)) (signed_later flat n4 new h.went.sites h.later says.signed));
      laid =
          let none : s.sites ≡ [] = none_laid s.sites (s.laid ∙ start_laid flat q q.kind 0 0 k) in
          ap (map site_laid) (h.went.sites_are ∙ ap (λ r. r ++ h.went.sites) (s.sites_behind ∙ none)) ∙ h.went.laid ∙ order_laid flat q order e.next ∙ ap (sites_laid flat q order) next_is;
      asked = λ sorted.
          let none : s.sites ≡ [] = none_laid s.sites (s.laid ∙ start_laid flat q q.kind 0 0 k) in
          subst (λ (ss : List SiteTerm). SitesAsked flat new ss) (sym (h.went.sites_are ∙ ap (λ r. r ++ h.went.sites) (s.sites_behind ∙ none))) (asked_later flat n4 new h.went.sites h.later (says.asked sorted));
      ended_is = λ a f. h.entered.live_is a (all_at a new cs) f ∙ met_is a;
      outs_are = λ a f on.
          outs_are a new end.locals q.ins q.outs q.locals w.locals ∙ ap (λ (v : Env). outs_of q v.locals) (end_is a f on);
      globals_are = λ a f on. ap (λ (x : Env). x.globals) (end_is a f on);
    }

-- the values of the blocks
pub valued_of : (flat : Limited) (q : FlatProc) (order : List ℕ) (old n2 n3 n4 new : List TermNode) (actuals : Actuals) (k lit1 lit0 : ℕ) (e g : Draft) (edges : List EdgeTerm) (left : List Wait) (end : Wait) → AllThere flat q order →
    Parts old n2 n3 n4 new (passive_of flat q order) actuals k lit1 lit0 e g edges left end →
    BuiltValued flat q order actuals k old new left end.live g.fails (terms_of end.locals (from (length q.ins) q.outs)) end.globals edges g.sites g.values
unfolding built_of
valued_of flat q order old n2 n3 n4 new actuals k lit1 lit0 e g edges left end there h =
    let p = passive_of flat q order in
    let cs = actuals.consts in
    let first = wait_from e.versions p.start lit1 in
    let s = h.step in
    let b = h.begun in
    let stage3 = start_stage old n2 n3 p actuals k lit1 lit0 e h.ready b s in
    let says = h.went.says flat q order refl there stage3 h.ready.fit.blocks in
    let env = λ (a : ℕ → Value). env_at a n3 (all_at a n3 cs) first.globals first.locals in
    let next_is : e.next ≡ k + length (start_sorts q q.kind) = s.next ∙ ap (λ ss. k + length ss) (start_chosen flat q q.kind) in
    let first_is : (a : ℕ → Value) → edges_at a n3 (all_at a n3 cs) (first ∷ []) ≡ first_edge (env a) = λ a.
    ap {B = List Edge} (λ x. record { target = Some 0; live = x; env = env a } ∷ []) (bit_later n2 n3 a lit1 s.later b.yes_is.sort ∙ b.yes_is.means a) in
    record {
      built = built_of flat q order old n2 n3 n4 new actuals k lit1 lit0 e g edges left end there h;
      there = subst (λ (vs : List ValueTerm). ValuesThere new vs) (sym h.went.vals_are) (values_stay n4 new h.went.vals h.later h.went.vals_there);
      are = λ a f.
          ap (true_values a new) h.went.vals_are ∙ values_later n4 new a h.went.vals h.later h.went.vals_there ∙ says.values a (env a) (fits_before a n4 new h.later f)
          ∙ ap (λ x. all_values flat q (seen flat q (env a) (givens_at flat q a x order) (edges_at a n3 (all_at a n3 cs) (first ∷ [])))) next_is
          ∙ ap (λ x. all_values flat q (seen flat q (env a) (givens_at flat q a (k + length (start_sorts q q.kind)) order) x)) (first_is a);
    }

-- the variables of the start, and those of the blocks
pub room_of : (flat : Limited) (q : FlatProc) (order : List ℕ) (old n2 n3 n4 new : List TermNode) (actuals : Actuals) (k lit1 lit0 : ℕ) (e g : Draft) (edges : List EdgeTerm) (left : List Wait) (end : Wait) → AllThere flat q order →
    Parts old n2 n3 n4 new (passive_of flat q order) actuals k lit1 lit0 e g edges left end → IsRoom flat q order k old new g.next
room_of flat q order old n2 n3 n4 new actuals k lit1 lit0 e g edges left end there h =
    let n_s = length (start_sorts q q.kind) in
    let n_b = length (sorts_of_blocks flat q order) in
    let first : e.next ≡ k + n_s = h.step.next ∙ ap (λ ss. k + length ss) (start_chosen flat q q.kind) in
    let rest : g.next ≡ e.next + n_b = h.went.next ∙ ap (λ ss. e.next + length ss) (order_sorts flat q order) in
    record {
      next_is = omega (arith, first, rest, length-append (start_sorts q q.kind) (sorts_of_blocks flat q order));
      fit = (built_of flat q order old n2 n3 n4 new actuals k lit1 lit0 e g edges left end there h).fit;
    }
