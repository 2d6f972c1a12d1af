-- Choices of a node for each run of its procedure.
use Rattle.std.proofs.Common.{◌≡◌, ℕ, zero, suc, ◌+◌, Bool, true, false, List, [], ◌∷◌, ◌++◌, map, length, take, slice_get, Option, Some, refl, sym, ap, ◌∙◌, arith, append_assoc, append-nil, length-append, inl, inr}
use Rattle.std.specs.Prelude.{IsTrue, ◌⊎◌}
use Rattle.hy_val.specs.Values.{at, is_on}
use Rattle.hy_val.specs.declared.value.Value.{Value}
use Rattle.hy_term.specs.Meaning.{fits, value, values}
use Rattle.flat_prog.specs.Changes.{AllKeep}
use Rattle.flat_prog.specs.Limits.{AreLimits}
use Rattle.flat_prog.specs.Local.{Begins, Broken, Ended, LocalRun as FlatRun, Request, Result, State as FlatState, Track, have_sorts}
use Rattle.flat_prog.specs.Once.{has_number}
use Rattle.flat_prog.specs.Program.{FlatProgram}
use Rattle.flat_prog.specs.Shape.{IsFlat}
use Rattle.flat_prog.specs.Sites.{calls_at, calls_of, numbers_from, sites_of, sites_passed}
use Rattle.flat_prog.specs.declared.block.FlatBlock.{FlatBlock}
use Rattle.flat_prog.specs.declared.block.FlatCmd.{FlatCmd}
use Rattle.flat_prog.specs.declared.proc.FlatProc.{FlatProc}
use Rattle.passive_form.specs.Laws.{AllThere}
use Rattle.passive_form.specs.Limited.{Limited, limited}
use Rattle.passive_form.specs.Local.{LocalEnds, LocalFails, walk}
use Rattle.passive_form.specs.Making.{block_or, entry_count, entry_cur, passive_blocks}
use Rattle.passive_form.specs.SameRuns.{in_env, slims}
use Rattle.vc_gen.specs.Fold.{last_of}
use Rattle.vc_gen.specs.Inputs.{block_at}
use Rattle.vc_gen.specs.Instance.{EndsFrom, FailsFrom, IsRoom}
use Rattle.vc_gen.specs.Passages.{blame, path_places, places_from}
use Rattle.vc_gen.specs.Plans.{EndPlan, FailPlan, call_bit, settled_count}
use Rattle.tree_terms.specs.declared.linked.Role.{Role}
use Rattle.tree_terms.specs.declared.linked.Role.TheVariants.{Failed}
use Rattle.tree_terms.specs.declared.linked.Template.{Template as Formula}
use Rattle.proc_template.proofs.Getting.{take_whole}
use Rattle.proc_template.specs.Layout.{blocks_roles, starts_of}
use Rattle.proc_template.specs.Starting.{first_actuals, first_nodes, first_sorts}
use Rattle.proc_template.specs.Template.{IsTemplateOf}
use Rattle.tree_words.specs.Compose.{Bits, Plan, Returned}
use Rattle.tree_words.specs.Filling.{comes_back, own_nodes}
use Rattle.tree_words.specs.Linking.{proc_by, role_or}
use Rattle.tree_words.specs.Stands.{ins_at}
use Rattle.tree_words.specs.Template.{view_of, viewer_of}
use Rattle.template_law.specs.Formulas.{AreChanges}
use Rattle.template_law.proofs.Formula.{CallFits, fits_by_role}
use Rattle.template_law.proofs.PlanBase as base
use Rattle.template_law.proofs.PlanBlocks.{OfCall, before, failing, front_of, settled_ends, settled_fails, start_at}
use Rattle.template_law.proofs.PlanFrom.{Told, Why, formula_of, plan, put_by}
use Rattle.template_law.proofs.PlanRows.{entry, site_of}
use Rattle.template_law.proofs.PlanRuns.{Takes, all_take, calls_before, takes_both, walk_takes}
use Rattle.template_law.proofs.PlanSplit.{Last, Split, a_call, calls_split, fail_last, front_count, no_call, none_left, numbers_count, numbers_split, one_left, path_sites, split_results, take_front, there_at, walk_last}
use Rattle.template_law.proofs.PlanTold.{PlanLaws, told_so}

true_false : true ≡ false → ⊥
true_false e = cc

-- as many places as sites
from_places : (n i count : ℕ) → length (places_from n i count) ≡ count
from_places n i zero = refl
from_places n i (suc count) = ap suc (from_places n (i + 1) count)

places_count : (q : FlatProc) (path : List ℕ) → length (path_places q path) ≡ length (sites_passed q.blocks path)
places_count q [] = refl
places_count q (b ∷ path) =
    length-append (places_from b 0 (length (calls_at (slice_get q.blocks b)))) (path_places q path)
    ∙ ap (λ n. n + length (path_places q path)) (from_places b 0 (length (calls_at (slice_get q.blocks b))) ∙ sym (numbers_count (length (sites_of (take b q.blocks))) (length (calls_at (slice_get q.blocks b)))))
    ∙ ap (λ n. length (numbers_from (length (sites_of (take b q.blocks))) (length (calls_at (slice_get q.blocks b)))) + n) (places_count q path)
    ∙ sym (length-append (numbers_from (length (sites_of (take b q.blocks))) (length (calls_at (slice_get q.blocks b)))) (sites_passed q.blocks path))

module _ (laws : PlanLaws) (flat : FlatProgram) (limits : List (List Bool)) (changes : List (List ℕ)) (proc : ℕ) (t : Formula) (is : IsFlat flat) (are : AreLimits flat limits) (ch : AreChanges flat changes) (h : IsTemplateOf flat limits proc t)
    (vs : List Value) (vs_have : have_sorts vs flat.consts ≡ true) (call : Request) (track : Track) (begin : FlatState) (begins : Begins flat track call h.q begin) (call_proc : call.proc ≡ proc)
    (results : List Result) (calls : List Request) (keep : AllKeep flat calls results) where
  abbrev full : Limited
  full = limited flat limits

  abbrev order : List ℕ
  order = h.passive_is.order

  abbrev k : ℕ
  k = length (first_sorts h.passive)

  there : AllThere full h.q order
  there = (laws.ready flat limits proc h.q h.passive is h.proc_is h.passive_is).1.there

  track_proc : track.proc ≡ proc
  track_proc = begins.same ∙ call_proc

  called : CallFits flat proc call
  called = record { same = call_proc; globals = begins.globals; args = ap (λ (o : Option FlatProc). have_sorts call.args (ins_at o)) h.proc_is ∙ begins.args }

  by_role_fits : (own : ℕ → Value) (ret : ℕ → Returned) → own_nodes (λ n. role_or (slice_get t.roles n)) own t.nodes ≡ true → ((i : ℕ) → comes_back flat (slice_get t.sites i) (ret i) ≡ true) → IsTrue (fits (put_by t vs call own ret) t.nodes)
  by_role_fits own ret owns back = fits_by_role laws.base flat limits changes proc t is are ch h vs call own ret back vs_have called owns

  -- ---- a run that ends

  module _ (os gs : List Value) (run : FlatRun flat h.q vs track begin results calls (Ended os gs)) where
    abbrev path : List ℕ
    path = run.0

    lim : LocalEnds full h.q track (in_env vs begin) (slims limits calls results) calls os gs
    lim = laws.limited_runs flat limits h.q vs track call begin results calls (Ended os gs) are begins run keep

    walks : walk full h.q (0 ∷ path) track.places (record (in_env vs begin) { results = slims limits calls results }) ≡ Some (Some lim.last, lim.arrived)
    walks = ap (λ ns. walk full h.q ns track.places (record (in_env vs begin) { results = slims limits calls results })) (sym run.2) ∙ lim.walks

    from : EndsFrom full h.q (first_actuals h.passive) (base.first_assigned laws.base.value_is laws.new_values laws.keep.zero laws.ready laws.start_is flat limits proc t is h vs vs_have call track begin begins) (first_nodes (first_sorts h.passive)) path track.places track.values
        (slims limits calls results) calls os gs
    from = record {
      begin = in_env vs begin;
      begin_is = base.started laws.base.value_is laws.new_values laws.keep.zero laws.ready laws.start_is flat limits proc t is h vs vs_have call track begin begins;
      run = record { last = lim.last; arrived = lim.arrived; over = lim.over; walks = walks; passes = lim.passes; returns = lim.returns; taken = lim.taken; calls_are = lim.calls_are; outs_are = lim.outs_are; globals_are = lim.globals_are };
    }

    ends_rows : EndPlan full h.q order (base.first_assigned laws.base.value_is laws.new_values laws.keep.zero laws.ready laws.start_is flat limits proc t is h vs vs_have call track begin begins) k t.nodes h.made.instance.ended h.made.instance.outs h.made.instance.globals
        h.made.instance.edges h.made.instance.sites path track.places track.values (slims limits calls results) calls os gs
    ends_rows = h.made.instance_is.plans_ends full h.q order h.passive_is.is (laws.ready flat limits proc h.q h.passive is h.proc_is h.passive_is).1
        (base.first_assigned laws.base.value_is laws.new_values laws.keep.zero laws.ready laws.start_is flat limits proc t is h vs vs_have call track begin begins)
        (base.old_fits laws.base.value_is laws.new_values laws.keep.zero laws.ready laws.start_is flat limits proc t is h vs vs_have call track begin begins) path track.places track.values (slims limits calls results) calls os gs from

    room_is : IsRoom full h.q order k (first_nodes (first_sorts h.passive)) t.nodes h.made.instance.next
    room_is = h.made.instance_is.room full h.q order h.passive_is.is there

    each_one : length calls ≡ length results
    each_one = (laws.of_runs flat proc h.q vs track begin results calls (Ended os gs) h.proc_is run).one_each

    last_at : slice_get h.q.blocks (last_of 0 path) ≡ Some lim.last
    last_at = walk_last full h.q 0 path track.places (record (in_env vs begin) { results = slims limits calls results }) (Some lim.last) lim.arrived walks

    took : Takes (calls_before h.q (0 ∷ path) + length (calls_of lim.last.cmds)) (record (in_env vs begin) { results = slims limits calls results }) lim.over
    took = takes_both (calls_before h.q (0 ∷ path)) (length (calls_of lim.last.cmds)) (record (in_env vs begin) { results = slims limits calls results }) lim.arrived lim.over
        (walk_takes full h.q (0 ∷ path) track.places (record (in_env vs begin) { results = slims limits calls results }) (Some lim.last) lim.arrived walks) (all_take full h.q lim.last.cmds lim.arrived lim.over lim.passes)

    split : Split limits results [] (length took.taken)
    split = split_results limits calls results took.taken [] each_one (took.results_are ∙ ap (λ (rs : List Result). took.taken ++ rs) lim.taken.1) took.ended

    results_split : results ≡ split.front ++ []
    results_split = split.results_are ∙ ap (λ (rs : List Result). split.front ++ rs) (none_left limits split.calls split.rest split.each split.back_are)

    sites_count : length (sites_passed h.q.blocks (0 ∷ path)) ≡ length split.front
    sites_count =
        ap length (path_sites h.q 0 path lim.last last_at) ∙ length-append (sites_passed h.q.blocks (front_of (0 ∷ path))) (numbers_from (start_at h.q.blocks (last_of 0 path)) (length (calls_of lim.last.cmds)))
        ∙ ap (λ n. n + length (numbers_from (start_at h.q.blocks (last_of 0 path)) (length (calls_of lim.last.cmds)))) (front_count h.q 0 path)
        ∙ ap (λ n. calls_before h.q (0 ∷ path) + n) (numbers_count (start_at h.q.blocks (last_of 0 path)) (length (calls_of lim.last.cmds))) ∙ sym took.each ∙ sym split.size

    ends_settle : (j : ℕ) (v : Value) (r : Role) (i : ℕ) → entry ends_rows.row j ≡ Some v → slice_get (blocks_roles (starts_of h.q.blocks) (passive_blocks full h.q order)) j ≡ Some r → site_of r ≡ Some i →
        (has_number (sites_passed h.q.blocks (0 ∷ path)) i ≡ true) ⊎ ((r ≡ Failed i) × (x : ℕ) × (z : ℕ) × ([] ≡ i ∷ []) × ([] ≡ Broken x z ∷ []))
    ends_settle j v r i settled at_j at_i = inl (settled_ends full h.q order (0 ∷ path) ends_rows.row ends_rows.open_off (there_at full h.q order there) j v r i settled at_j at_i)

    abbrev ends_own : ℕ → Value
    ends_own = base.settled_own laws.base.value_is laws.new_values laws.keep.zero laws.ready laws.start_is flat limits proc t is h vs vs_have call track begin begins ends_rows.first ends_rows.first_sorts ends_rows.row ends_rows.row_sorts h.made.instance_is.variables room_is

    ends_bits : (b : ℕ → Value) → IsTrue (fits b t.nodes) → is_on (value b t.nodes h.made.instance.ended) ≡ true → map (at (values b t.nodes)) h.made.instance.outs ≡ os → map (at (values b t.nodes)) h.made.instance.globals ≡ gs →
        Bits (view_of (formula_of t) b) (Ended os gs)
    ends_bits b fit bit outs globals =
        let made = h.made.made in
        let on : is_on (value b t.nodes t.ends) ≡ true = ap (λ (x : Formula). is_on (value b t.nodes x.ends)) made ∙ bit in
        (on, laws.never flat limits proc t b is h fit on, ap (λ (x : Formula). map (at (values b t.nodes)) x.outs) made ∙ outs, ap (λ (x : Formula). map (at (values b t.nodes)) x.globals) made ∙ globals)

    ends_told : (b : ℕ → Value) → IsTrue (fits b t.nodes) → ((n : ℕ) → Why t k (sites_passed h.q.blocks (0 ∷ path)) [] [] n → b n ≡ ends_own n) → Told t b (sites_passed h.q.blocks (0 ∷ path) ++ []) calls results (Ended os gs) track
    ends_told b fit agree =
        let old = base.agrees_old laws.base.value_is laws.new_values laws.keep.zero laws.ready laws.start_is flat limits proc t is h vs vs_have call track begin begins ends_rows.first ends_rows.first_sorts ends_rows.row ends_rows.row_sorts h.made.instance_is.variables room_is (sites_passed h.q.blocks (0 ∷ path)) [] [] ends_settle b agree in
        let says = ends_rows.says b old fit (base.agrees_first laws.base.value_is laws.new_values laws.keep.zero laws.ready laws.start_is flat limits proc t is h vs vs_have call track begin begins ends_rows.first ends_rows.first_sorts ends_rows.row ends_rows.row_sorts h.made.instance_is.variables room_is (sites_passed h.q.blocks (0 ∷ path)) [] [] ends_settle b agree)
        (base.agrees_row laws.base.value_is laws.new_values laws.keep.zero laws.ready laws.start_is flat limits proc t is h vs vs_have call track begin begins ends_rows.first ends_rows.first_sorts ends_rows.row ends_rows.row_sorts h.made.instance_is.variables room_is (sites_passed h.q.blocks (0 ∷ path)) [] [] ends_settle b agree) in
        let answers = says.0 in
        let stays = laws.stay full h.q h.passive (first_actuals h.passive) k (first_nodes (first_sorts h.passive)) t.nodes (base.first_assigned laws.base.value_is laws.new_values laws.keep.zero laws.ready laws.start_is flat limits proc t is h vs vs_have call track begin begins) b (base.ready_of laws.base.value_is laws.new_values laws.keep.zero laws.ready laws.start_is flat limits proc t is h vs vs_have call track begin begins) h.made.instance_is.later old in
        let from_b = stays.ends path track.places track.values (slims limits calls results) calls os gs from in
        let taken = (h.made.instance_is.values full h.q order h.passive_is.is there).1 b fit answers.ended_is path track.places track.values (slims limits calls results) calls os gs from_b answers.passes.passed_are says.1 in
        let places = (h.made.instance_is.places full h.q order h.passive_is.is there).0 b fit answers.ended_is path track.places track.values (slims limits calls results) calls os gs from_b answers.passes.passed_are in
        let ps = path_places h.q (0 ∷ path) in
        let passes = ap (λ n. take n (sites_passed h.q.blocks (0 ∷ path))) (places_count h.q (0 ∷ path)) ∙ take_whole (sites_passed h.q.blocks (0 ∷ path)) ∙ sym (append-nil (sites_passed h.q.blocks (0 ∷ path))) in
        told_so laws flat limits proc t is are h b fit track path (length ps) (sites_passed h.q.blocks (0 ∷ path) ++ []) calls results (Ended os gs) (record (in_env vs begin) { results = slims limits calls results }) (Some lim.last, lim.arrived)
        track_proc run.2 walks answers.passes.passed_are taken (places ∙ sym (take_whole ps)) passes answers.passes.calls_are (ap (map blame) answers.passes.results_are) keep (ends_bits b fit answers.ended_is answers.outs_is answers.globals_is)

    pub ends_plan : Plan (viewer_of vs (formula_of t)) (λ own. own_nodes (λ n. role_or (slice_get t.roles n)) own t.nodes ≡ true) (λ i ret. comes_back flat (slice_get t.sites i) ret ≡ true) (λ i. proc_by (slice_get t.sites i)) h.q call track results calls (Ended os gs)
    ends_plan =
        let ns = sites_passed h.q.blocks (0 ∷ path) in
        let none = append-nil ns in
        let along : sites_passed h.q.blocks track.path ≡ (ns ++ []) ++ [] = ap (sites_passed h.q.blocks) run.2 ∙ sym none ∙ sym (append-nil (ns ++ [])) in
        let made = laws.of_runs flat proc h.q vs track begin results calls (Ended os gs) h.proc_is run in
        let differ = laws.passed_once flat proc h.q vs track begin results calls (Ended os gs) is h.proc_is run in
        let count : length (ns ++ []) ≡ length results = ap length none ∙ sites_count ∙ sym (ap length (append-nil split.front)) ∙ sym (ap length results_split) in
        plan laws.base.value_is laws.base.keep laws.base.roles flat limits proc t is h (laws.base.shaped flat limits proc t is h) vs call track results calls (Ended os gs) by_role_fits k ns [] [] split.front [] along differ results_split split.ended sites_count
        (count ∙ sym each_one) count made.fit ends_own (base.own_fits laws.base.value_is laws.new_values laws.keep.zero laws.ready laws.start_is flat limits proc t is h vs vs_have call track begin begins ends_rows.first ends_rows.first_sorts ends_rows.row ends_rows.row_sorts h.made.instance_is.variables room_is) (λ n l ret. base.role_first laws.base.value_is laws.new_values laws.keep.zero laws.ready laws.start_is flat limits proc t is h vs vs_have call track begin begins n l ends_own ret ∙ sym (base.own_old laws.base.value_is laws.new_values laws.keep.zero laws.ready laws.start_is flat limits proc t is h vs vs_have call track begin begins ends_rows.first ends_rows.first_sorts ends_rows.row ends_rows.row_sorts h.made.instance_is.variables room_is n l)) ends_told

  -- ---- a run that fails

  module _ (x y : ℕ) (run : FlatRun flat h.q vs track begin results calls (Broken x y)) where
    abbrev fails_path : List ℕ
    fails_path = run.0

    lim_fails : LocalFails full h.q track (in_env vs begin) (slims limits calls results) calls x y
    lim_fails = laws.limited_runs flat limits h.q vs track call begin results calls (Broken x y) are begins run keep

    fails_walks : walk full h.q (0 ∷ fails_path) track.places (record (in_env vs begin) { results = slims limits calls results }) ≡ Some (Some lim_fails.last, lim_fails.arrived)
    fails_walks = ap (λ ns. walk full h.q ns track.places (record (in_env vs begin) { results = slims limits calls results })) (sym run.2) ∙ lim_fails.walks

    fails_from : FailsFrom full h.q (first_actuals h.passive) (base.first_assigned laws.base.value_is laws.new_values laws.keep.zero laws.ready laws.start_is flat limits proc t is h vs vs_have call track begin begins) (first_nodes (first_sorts h.passive)) fails_path track.places track.values (slims limits calls results) calls x y
    fails_from = record {
      begin = in_env vs begin;
      begin_is = base.started laws.base.value_is laws.new_values laws.keep.zero laws.ready laws.start_is flat limits proc t is h vs vs_have call track begin begins;
      run = record { last = lim_fails.last; arrived = lim_fails.arrived; before = lim_fails.before; at = lim_fails.at; after = lim_fails.after; over = lim_fails.over; walks = fails_walks; splits = lim_fails.splits; passes = lim_fails.passes; fails = lim_fails.fails; taken = lim_fails.taken };
    }

    fails_rows : FailPlan full h.q order (base.first_assigned laws.base.value_is laws.new_values laws.keep.zero laws.ready laws.start_is flat limits proc t is h vs vs_have call track begin begins) k t.nodes h.made.instance.fails h.made.instance.edges h.made.instance.sites fails_path track.places track.values (slims limits calls results) calls
        (settled_count full h.q (entry_cur full h.q) 0 (entry_count full h.q) lim_fails.before lim_fails.at)
    unfolding lim_fails fails_from
    fails_rows = h.made.instance_is.plans_failures full h.q order h.passive_is.is (laws.ready flat limits proc h.q h.passive is h.proc_is h.passive_is).1 (base.first_assigned laws.base.value_is laws.new_values laws.keep.zero laws.ready laws.start_is flat limits proc t is h vs vs_have call track begin begins) (base.old_fits laws.base.value_is laws.new_values laws.keep.zero laws.ready laws.start_is flat limits proc t is h vs vs_have call track begin begins) fails_path track.places track.values (slims limits calls results) calls x y fails_from

    fails_room : IsRoom full h.q order k (first_nodes (first_sorts h.passive)) t.nodes h.made.instance.next
    fails_room = h.made.instance_is.room full h.q order h.passive_is.is there

    fails_each : length calls ≡ length results
    fails_each = (laws.of_runs flat proc h.q vs track begin results calls (Broken x y) h.proc_is run).one_each

    fails_last_at : slice_get h.q.blocks (last_of 0 fails_path) ≡ Some lim_fails.last
    fails_last_at = walk_last full h.q 0 fails_path track.places (record (in_env vs begin) { results = slims limits calls results }) (Some lim_fails.last) lim_fails.arrived fails_walks

    splits_at : (block_at h.q (last_of 0 fails_path)).cmds ≡ lim_fails.before ++ lim_fails.at ∷ lim_fails.after
    splits_at = ap (λ (o : Option FlatBlock). (block_or o).cmds) fails_last_at ∙ lim_fails.splits

    fails_took : Takes (calls_before h.q (0 ∷ fails_path) + length (calls_of lim_fails.before)) (record (in_env vs begin) { results = slims limits calls results }) lim_fails.over
    fails_took = takes_both (calls_before h.q (0 ∷ fails_path)) (length (calls_of lim_fails.before)) (record (in_env vs begin) { results = slims limits calls results }) lim_fails.arrived lim_fails.over
        (walk_takes full h.q (0 ∷ fails_path) track.places (record (in_env vs begin) { results = slims limits calls results }) (Some lim_fails.last) lim_fails.arrived fails_walks) (all_take full h.q lim_fails.before lim_fails.arrived lim_fails.over lim_fails.passes)

    fails_split : Split limits results lim_fails.over.results (length fails_took.taken)
    fails_split = split_results limits calls results fails_took.taken lim_fails.over.results fails_each fails_took.results_are fails_took.ended

    -- the site of the call that fails, where it is a call
    abbrev last_site : ℕ
    last_site = start_at h.q.blocks (last_of 0 fails_path) + length (calls_of lim_fails.before)

    abbrev fails_front : List ℕ
    fails_front = sites_passed h.q.blocks (front_of (0 ∷ fails_path)) ++ numbers_from (start_at h.q.blocks (last_of 0 fails_path)) (length (calls_of lim_fails.before))

    abbrev fails_rest : List ℕ
    fails_rest = numbers_from last_site (call_bit lim_fails.at)

    abbrev fails_more : List ℕ
    fails_more = numbers_from (last_site + call_bit lim_fails.at) (length (calls_of lim_fails.after))

    fails_sites : sites_passed h.q.blocks (0 ∷ fails_path) ≡ (fails_front ++ fails_rest) ++ fails_more
    fails_sites =
        let s = start_at h.q.blocks (last_of 0 fails_path) in
        let m = length (calls_of lim_fails.before) in
        let bit = call_bit lim_fails.at in
        let after = length (calls_of lim_fails.after) in
        let fore = sites_passed h.q.blocks (front_of (0 ∷ fails_path)) in
        path_sites h.q 0 fails_path lim_fails.last fails_last_at
        ∙ ap (λ (cs : List FlatCmd). fore ++ numbers_from s (length (calls_of cs))) lim_fails.splits
        ∙ ap (λ n. fore ++ numbers_from s n) (calls_split lim_fails.before lim_fails.at lim_fails.after)
        ∙ ap (λ (ns : List ℕ). fore ++ ns) (numbers_split s m (bit + after) ∙ ap (λ (ns : List ℕ). numbers_from s m ++ ns) (numbers_split (s + m) bit after))
        ∙ sym (append_assoc fore (numbers_from s m) (numbers_from (s + m) bit ++ numbers_from (s + m + bit) after))
        ∙ sym (append_assoc (fore ++ numbers_from s m) (numbers_from (s + m) bit) (numbers_from (s + m + bit) after))

    fails_count : length fails_front ≡ length fails_split.front
    fails_count =
        length-append (sites_passed h.q.blocks (front_of (0 ∷ fails_path))) (numbers_from (start_at h.q.blocks (last_of 0 fails_path)) (length (calls_of lim_fails.before)))
        ∙ ap (λ n. n + length (numbers_from (start_at h.q.blocks (last_of 0 fails_path)) (length (calls_of lim_fails.before)))) (front_count h.q 0 fails_path)
        ∙ ap (λ n. calls_before h.q (0 ∷ fails_path) + n) (numbers_count (start_at h.q.blocks (last_of 0 fails_path)) (length (calls_of lim_fails.before))) ∙ sym fails_took.each ∙ sym fails_split.size

    -- what is left is the result of that call
    module _ (lasts : List Result) (lasts_are : fails_split.rest ≡ lasts) (lasts_count : length lasts ≡ call_bit lim_fails.at)
        (lasts_fail : call_bit lim_fails.at ≡ 1 → (a : ℕ) × (z : ℕ) × (lasts ≡ Broken a z ∷ [])) where
      results_are : results ≡ fails_split.front ++ lasts
      results_are = fails_split.results_are ∙ ap (λ (rs : List Result). fails_split.front ++ rs) lasts_are

      passes_each : length (fails_front ++ fails_rest) ≡ length results
      passes_each =
          length-append fails_front fails_rest ∙ ap (λ n. n + length fails_rest) fails_count ∙ ap (λ n. length fails_split.front + n) (numbers_count last_site (call_bit lim_fails.at) ∙ sym lasts_count)
          ∙ sym (length-append fails_split.front lasts) ∙ sym (ap length results_are)

      fails_settle : (j : ℕ) (v : Value) (r : Role) (i : ℕ) → entry fails_rows.row j ≡ Some v → slice_get (blocks_roles (starts_of h.q.blocks) (passive_blocks full h.q order)) j ≡ Some r → site_of r ≡ Some i →
          (has_number fails_front i ≡ true) ⊎ ((r ≡ Failed i) × (a : ℕ) × (z : ℕ) × (fails_rest ≡ i ∷ []) × (lasts ≡ Broken a z ∷ []))
      fails_settle j v r i settled at_j at_i =
          by (settled_fails full h.q order fails_path fails_rows.row fails_rows.open_off (there_at full h.q order there) (laws.blocks_once full h.q h.passive h.passive_is) fails_rows.place fails_rows.place_is
          lim_fails.before lim_fails.at lim_fails.after splits_at fails_rows.open_behind (fails_rows.open_behind.size (last_of 0 fails_path) fails_rows.place_is) j v r i settled at_j at_i)
        where
          by : OfCall fails_front r i last_site lim_fails.at → (has_number fails_front i ≡ true) ⊎ ((r ≡ Failed i) × (a : ℕ) × (z : ℕ) × (fails_rest ≡ i ∷ []) × (lasts ≡ Broken a z ∷ []))
          by (before has) = inl has
          by (failing role at one) =
              let z = lasts_fail one in
              inr (role, z.0, z.1, ap (numbers_from last_site) one ∙ ap (λ n. n ∷ []) (sym at), z.2)

      abbrev fails_own : ℕ → Value
      fails_own = base.settled_own laws.base.value_is laws.new_values laws.keep.zero laws.ready laws.start_is flat limits proc t is h vs vs_have call track begin begins fails_rows.first fails_rows.first_sorts fails_rows.row fails_rows.row_sorts h.made.instance_is.variables fails_room

      fails_bits : (b : ℕ → Value) → IsTrue (fits b t.nodes) → is_on (value b t.nodes h.made.instance.fails) ≡ true → Bits (view_of (formula_of t) b) (Broken x y)
      fails_bits b fit bit =
          let on : is_on (value b t.nodes t.fails) ≡ true = ap (λ (u : Formula). is_on (value b t.nodes u.fails)) h.made.made ∙ bit in
          (on, off (is_on (value b t.nodes t.ends)) refl on)
        where
          off : (c : Bool) → is_on (value b t.nodes t.ends) ≡ c → is_on (value b t.nodes t.fails) ≡ true → is_on (value b t.nodes t.ends) ≡ false
          off true e on = absurd (true_false (sym on ∙ laws.never flat limits proc t b is h fit e))
          off false e on = e

      fails_told : (b : ℕ → Value) → IsTrue (fits b t.nodes) → ((n : ℕ) → Why t k fails_front fails_rest lasts n → b n ≡ fails_own n) → Told t b (fails_front ++ fails_rest) calls results (Broken x y) track
      fails_told b fit agree =
          let old = base.agrees_old laws.base.value_is laws.new_values laws.keep.zero laws.ready laws.start_is flat limits proc t is h vs vs_have call track begin begins fails_rows.first fails_rows.first_sorts fails_rows.row fails_rows.row_sorts h.made.instance_is.variables fails_room fails_front fails_rest lasts fails_settle b agree in
          let says = fails_rows.says b old fit (base.agrees_first laws.base.value_is laws.new_values laws.keep.zero laws.ready laws.start_is flat limits proc t is h vs vs_have call track begin begins fails_rows.first fails_rows.first_sorts fails_rows.row fails_rows.row_sorts h.made.instance_is.variables fails_room fails_front fails_rest lasts fails_settle b agree)
          (base.agrees_row laws.base.value_is laws.new_values laws.keep.zero laws.ready laws.start_is flat limits proc t is h vs vs_have call track begin begins fails_rows.first fails_rows.first_sorts fails_rows.row fails_rows.row_sorts h.made.instance_is.variables fails_room fails_front fails_rest lasts fails_settle b agree) in
          let answers = says.0 in
          let stays = laws.stay full h.q h.passive (first_actuals h.passive) k (first_nodes (first_sorts h.passive)) t.nodes (base.first_assigned laws.base.value_is laws.new_values laws.keep.zero laws.ready laws.start_is flat limits proc t is h vs vs_have call track begin begins) b (base.ready_of laws.base.value_is laws.new_values laws.keep.zero laws.ready laws.start_is flat limits proc t is h vs vs_have call track begin begins) h.made.instance_is.later old in
          let from_b = stays.fails fails_path track.places track.values (slims limits calls results) calls x y fails_from in
          let taken = (h.made.instance_is.values full h.q order h.passive_is.is there).2 b fit answers.fails_is fails_path track.places track.values (slims limits calls results) calls x y from_b answers.passed_are answers.calls_are answers.results_are says.1 in
          let places = (h.made.instance_is.places full h.q order h.passive_is.is there).1 b fit answers.fails_is fails_path track.places track.values (slims limits calls results) calls x y from_b answers.passed_are answers.calls_are in
          let passes = ap (λ n. take n (sites_passed h.q.blocks (0 ∷ fails_path))) (fails_each ∙ sym passes_each) ∙ ap (take (length (fails_front ++ fails_rest))) fails_sites ∙ take_front (fails_front ++ fails_rest) fails_more in
          told_so laws flat limits proc t is are h b fit track fails_path (length calls) (fails_front ++ fails_rest) calls results (Broken x y) (record (in_env vs begin) { results = slims limits calls results }) (Some lim_fails.last, lim_fails.arrived)
          track_proc run.2 fails_walks answers.passed_are taken places passes answers.calls_are answers.results_are keep (fails_bits b fit answers.fails_is)

      fails_plan_with : Plan (viewer_of vs (formula_of t)) (λ own. own_nodes (λ n. role_or (slice_get t.roles n)) own t.nodes ≡ true) (λ i ret. comes_back flat (slice_get t.sites i) ret ≡ true) (λ i. proc_by (slice_get t.sites i)) h.q call track results calls (Broken x y)
      fails_plan_with =
          let along : sites_passed h.q.blocks track.path ≡ (fails_front ++ fails_rest) ++ fails_more = ap (sites_passed h.q.blocks) run.2 ∙ fails_sites in
          let made = laws.of_runs flat proc h.q vs track begin results calls (Broken x y) h.proc_is run in
          let differ = laws.passed_once flat proc h.q vs track begin results calls (Broken x y) is h.proc_is run in
          plan laws.base.value_is laws.base.keep laws.base.roles flat limits proc t is h (laws.base.shaped flat limits proc t is h) vs call track results calls (Broken x y) by_role_fits k fails_front fails_rest fails_more fails_split.front lasts along differ results_are
          fails_split.ended fails_count (passes_each ∙ sym fails_each) passes_each made.fit fails_own (base.own_fits laws.base.value_is laws.new_values laws.keep.zero laws.ready laws.start_is flat limits proc t is h vs vs_have call track begin begins fails_rows.first fails_rows.first_sorts fails_rows.row fails_rows.row_sorts h.made.instance_is.variables fails_room) (λ n l ret. base.role_first laws.base.value_is laws.new_values laws.keep.zero laws.ready laws.start_is flat limits proc t is h vs vs_have call track begin begins n l fails_own ret ∙ sym (base.own_old laws.base.value_is laws.new_values laws.keep.zero laws.ready laws.start_is flat limits proc t is h vs vs_have call track begin begins fails_rows.first fails_rows.first_sorts fails_rows.row fails_rows.row_sorts h.made.instance_is.variables fails_room n l)) fails_told

    pub fails_plan : Plan (viewer_of vs (formula_of t)) (λ own. own_nodes (λ n. role_or (slice_get t.roles n)) own t.nodes ≡ true) (λ i ret. comes_back flat (slice_get t.sites i) ret ≡ true) (λ i. proc_by (slice_get t.sites i)) h.q call track results calls (Broken x y)
    fails_plan = by (fail_last lim_fails.at lim_fails.over x y calls lim_fails.fails)
      where
        clash : (n : ℕ) → n ≡ 0 → n ≡ 1 → ⊥
        clash n e f = absurd (omega (arith, e, f))

        by : Last lim_fails.at lim_fails.over.results →
            Plan (viewer_of vs (formula_of t)) (λ own. own_nodes (λ n. role_or (slice_get t.roles n)) own t.nodes ≡ true) (λ i ret. comes_back flat (slice_get t.sites i) ret ≡ true) (λ i. proc_by (slice_get t.sites i)) h.q call track results calls (Broken x y)
        by (no_call none left) = fails_plan_with [] (none_left limits fails_split.calls fails_split.rest fails_split.each (fails_split.back_are ∙ left)) (sym none) (λ one. absurd (clash (call_bit lim_fails.at) none one))
        by (a_call a z one left) = fails_plan_with (Broken a z ∷ []) (one_left limits fails_split.calls fails_split.rest a z fails_split.each (fails_split.back_are ∙ left)) (sym one) (λ e. (a, z, refl))
