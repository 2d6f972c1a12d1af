-- Where a formula's bit is true that the run ends, or that it fails, there is such a run.
use Rattle.std.proofs.Common.{arith, ◌≡◌, ℕ, zero, suc, ◌+◌, ◌<◌, ◌≤◌, Bool, true, false, not, ◌||◌, List, [], ◌∷◌, ◌++◌, map, length, take, drop, sym, ap, ◌∙◌, refl, length-append}
use Rattle.std.specs.Prelude.{Option, Some, slice_get, slice_index, filter, nat_eq, if◌then◌else◌, IsSome, IsTrue}
use Rattle.std.proofs.lemmas.Bool.{and_parts}
use Rattle.hy_val.specs.Stores.{have_sorts}
use Rattle.hy_val.specs.Values.{at, is_on}
use Rattle.hy_val.specs.declared.sort.Sort.{Sort}
use Rattle.hy_val.specs.declared.value.Value.{Value}
use Rattle.hy_term.specs.Laws.{EachNodeHasItsValue}
use Rattle.hy_term.specs.Meaning.{fits, value, values}
use Rattle.hy_term.specs.TermSorts.{sorts}
use Rattle.hy_term.specs.Variables.{reads}
use Rattle.hy_term.specs.declared.node.TermNode.{TermNode}
use Rattle.hy_term.specs.declared.node.TermNode.TheVariants.{Variable}
use Rattle.flat_prog.specs.declared.block.FlatBlock.{FlatBlock}
use Rattle.flat_prog.specs.Changes.{AllKeep}
use Rattle.flat_prog.specs.Laws.{OnceLaw}
use Rattle.flat_prog.specs.Local.{edges_of, Begins, Broken, Ended, LocalRun, Request, Result, State as FlatState}
use Rattle.flat_prog.specs.Once.{has_number, numbers_differ}
use Rattle.flat_prog.specs.Program.{FlatProgram}
use Rattle.flat_prog.specs.Shape.{IsFlat}
use Rattle.flat_prog.specs.declared.proc.FlatProc.{FlatProc}
use Rattle.passive_form.specs.Limited.{limited}
use Rattle.passive_form.specs.Local.{State, LocalEnds, LocalFails, start, walk}
use Rattle.passive_form.specs.Making.{passive_blocks, passive_of}
use Rattle.flat_prog.specs.Sites.{numbers_from, sites_passed}
use Rattle.passive_form.specs.SameRuns.{in_env, wides, PlainRun}
use Rattle.passive_form.specs.declared.Passive.{Passive}
use Rattle.vc_gen.specs.BlockPlans.{recast}
use Rattle.vc_gen.specs.Emit.{site_value}
use Rattle.vc_gen.specs.Exact.{asked, given_back, true_edges, true_sites}
use Rattle.vc_gen.specs.Instance.{start_sorts}
use Rattle.vc_gen.specs.Passages.{blame, path_places}
use Rattle.vc_gen.specs.Singly.{failed_sites, one_if}
use Rattle.vc_gen.specs.Standing.{variables_in}
use Rattle.vc_gen.specs.Taken.{true_values}
use Rattle.vc_gen.specs.Valued.{begin_and_true}
use Rattle.vc_gen.specs.Whole.{PassiveReady}
use Rattle.vc_gen.specs.declared.parts.SiteTerm.{SiteTerm}
use Rattle.vc_gen.specs.declared.parts.ValueTerm.{ValueTerm}
use Rattle.tree_terms.specs.declared.linked.EdgeTerms.{EdgeTerms}
use Rattle.tree_terms.specs.declared.linked.Template.{Template}
use Rattle.tree_terms.specs.declared.linked.ValueTerms.{ValueTerms}
use Rattle.proc_template.specs.Layout.{begin_roles, begin_values, blocks_roles, first_roles, items_roles, starts_of}
use Rattle.proc_template.specs.Runs.{passed, track_at, consts_at, call_at, values_taken, SaysRun, EndsAreRuns, FailuresAreRuns, BitsAreNeverBoth, TakenAreRead}
use Rattle.proc_template.specs.Starting.{first_actuals, first_sorts}
use Rattle.proc_template.specs.Template.{IsTemplateOf, template_from}
use Rattle.proc_template.specs.Track.{edges_with, nodes_at, value_terms, variables_from}
use Rattle.proc_template.proofs.Actual.{first_values, first_sorted}
use Rattle.proc_template.proofs.Begins.{BeginsAs, begins_as}
use Rattle.proc_template.proofs.Getting.{equal_numbers, index_of, map_count, take_whole}
use Rattle.proc_template.proofs.Numbering.{all_known, fail_count, number_at, passed_by, path_numbers, results_by, true_are, true_numbers}
use Rattle.proc_template.proofs.Passing.{path_reads}
use Rattle.proc_template.proofs.Sited.{SiteLaws}
use Rattle.proc_template.proofs.Telling.{begin_count, counted, first_count}

-- the laws of the layers below
pub record Laws : Type 0 where
  pub node_value : EachNodeHasItsValue
  pub sites : SiteLaws
  pub plain : PlainRun
  pub passed_once : OnceLaw

-- what the first variables say, under an assignment
record First (flat : FlatProgram) (q : FlatProc) (p : Passive) (a : ℕ → Value) (nodes : List TermNode) : Type 0 where
  pub consts_are : map (at (values a nodes)) (first_actuals p).consts ≡ reads a 0 (length p.consts)
  pub globals_are : map (at (values a nodes)) (first_actuals p).globals ≡ reads a (length p.consts) (length p.globals)
  pub args_are : map (at (values a nodes)) (first_actuals p).args ≡ reads a (length p.consts + length p.globals) (length p.ins)
  pub consts_fit : have_sorts (reads a 0 (length p.consts)) flat.consts ≡ true
  pub globals_fit : have_sorts (reads a (length p.consts) (length p.globals)) flat.globals ≡ true
  pub args_fit : have_sorts (reads a (length p.consts + length p.globals) (length p.ins)) q.ins ≡ true

first_are : Laws → (flat : FlatProgram) (limits : List (List Bool)) (proc : ℕ) (t : Template) (a : ℕ → Value) (h : IsTemplateOf flat limits proc t) → IsTrue (fits a t.nodes) → First flat h.q h.passive a t.nodes
first_are laws flat limits proc t a h fit =
    let p = h.passive in
    let later = h.made.instance_is.later in
    let ss = first_sorts p in
    let one = length-append p.consts (p.globals ++ p.ins) in
    let two = length-append p.globals p.ins in
    let f = first_sorted a p.consts p.globals p.ins t.nodes later.nodes fit in
    let assoc : 1 + length p.consts + length p.globals ≡ 1 + (length p.consts + length p.globals) = omega arith in
    let is = h.passive_is.is in
    record {
      consts_are = first_values laws.node_value a ss t.nodes later.nodes later.sound 0 (length p.consts) (omega (arith, one));
      globals_are = first_values laws.node_value a ss t.nodes later.nodes later.sound (length p.consts) (length p.globals) (omega (arith, one, two));
      args_are = ap (λ i. map (at (values a t.nodes)) (numbers_from i (length p.ins))) assoc
          ∙ first_values laws.node_value a ss t.nodes later.nodes later.sound (length p.consts + length p.globals) (length p.ins) (omega (arith, one, two));
      consts_fit = ap (λ (x : Passive). have_sorts (reads a 0 (length p.consts)) x.consts) (sym is) ∙ f.0;
      globals_fit = ap (λ (x : Passive). have_sorts (reads a (length p.consts) (length p.globals)) x.globals) (sym is) ∙ f.1;
      args_fit = ap (λ (x : Passive). have_sorts (reads a (length p.consts + length p.globals) (length p.ins)) x.ins) (sym is) ∙ f.2;
    }

-- a start over the terms of the first variables is one over their values
starts : (q : FlatProc) (p : Passive) (a : ℕ → Value) (nodes : List TermNode) (taken : List Value) (b : State) (flat : FlatProgram) → First flat q p a nodes →
    start q q.kind (map (at (values a nodes)) (first_actuals p).consts) (map (at (values a nodes)) (first_actuals p).globals) (map (at (values a nodes)) (first_actuals p).args) taken ≡ Some b →
    start q q.kind (reads a 0 (length p.consts)) (reads a (length p.consts) (length p.globals)) (reads a (length p.consts + length p.globals) (length p.ins)) taken ≡ Some b
starts q p a nodes taken b flat f h =
    sym (ap (λ cs. start q q.kind cs (map (at (values a nodes)) (first_actuals p).globals) (map (at (values a nodes)) (first_actuals p).args) taken) f.consts_are
    ∙ ap (λ gs. start q q.kind (reads a 0 (length p.consts)) gs (map (at (values a nodes)) (first_actuals p).args) taken) f.globals_are
    ∙ ap (λ xs. start q q.kind (reads a 0 (length p.consts)) (reads a (length p.consts) (length p.globals)) xs taken) f.args_are) ∙ h

-- ---- what a walk says

-- the track that is read, and the begin of its run
record Begun (flat : FlatProgram) (limits : List (List Bool)) (proc : ℕ) (t : Template) (a : ℕ → Value) (h : IsTemplateOf flat limits proc t) (path places : List ℕ) (taken : List Value) (b : State) (results : List Result) (r : Option FlatBlock × State) : Type 0 where
  pub path_is : (track_at t a taken).path ≡ 0 ∷ path
  pub begun : BeginsAs flat (track_at t a taken) (call_at proc h.passive a) h.q (consts_at h.passive a) b
  pub walks : walk (limited flat limits) h.q (track_at t a taken).path (track_at t a taken).places (record (in_env (consts_at h.passive a) begun.begin) { results = results }) ≡ Some r

begun_so : (flat : FlatProgram) (limits : List (List Bool)) (proc : ℕ) (t : Template) (a : ℕ → Value) (h : IsTemplateOf flat limits proc t) → t ≡ template_from proc h.q.blocks h.passive t.nodes h.made.instance → First flat h.q h.passive a t.nodes →
    (path places : List ℕ) (taken : List Value) (b : State) (results : List Result) (r : Option FlatBlock × State) →
    start h.q h.q.kind (map (at (values a t.nodes)) (first_actuals h.passive).consts) (map (at (values a t.nodes)) (first_actuals h.passive).globals) (map (at (values a t.nodes)) (first_actuals h.passive).args) taken ≡ Some b →
    walk (limited flat limits) h.q (0 ∷ path) places (record b { results = results }) ≡ Some r → edges_of (0 ∷ path) places ≡ true_edges a t.nodes h.made.instance.edges → Begun flat limits proc t a h path places taken b results r
begun_so flat limits proc t a h made f path places taken b results r started walks passed_are =
    let q = h.q in
    let p = h.passive in
    let full = limited flat limits in
    let track = track_at t a taken in
    let state : State = record b { results = results } in
    let edges_are : t.track.edges ≡ edges_with q.blocks h.made.instance.edges = ap (λ (x : Template). x.track.edges) made in
    let e = path_reads full q a t.nodes h.made.instance.edges path places state r walks passed_are in
    let path_is : track.path ≡ 0 ∷ path = ap (λ (es : List EdgeTerms). 0 ∷ map (λ (x : EdgeTerms). x.target) (passed (values a t.nodes) es)) edges_are ∙ ap (λ ns. 0 ∷ ns) e.0 in
    let places_are : track.places ≡ places = ap (λ (es : List EdgeTerms). map (λ (x : EdgeTerms). x.place) (passed (values a t.nodes) es)) edges_are ∙ e.1 in
    let proc_is : track.proc ≡ proc = ap (λ (x : Template). x.track.proc) made in
    let s = begins_as flat track (call_at proc p a) q (consts_at p a) b proc_is (ap (slice_get flat.procs) proc_is ∙ h.proc_is) f.globals_fit f.args_fit (starts q p a t.nodes taken b flat f started) in
    record {
      path_is = path_is;
      begun = s;
      walks = ap (λ (st : State). walk full q track.path track.places (record st { results = results })) (sym s.same)
          ∙ ap (λ ns. walk full q ns track.places state) path_is ∙ ap (λ ns. walk full q (0 ∷ path) ns state) places_are ∙ walks;
    }

pub never_both : PassiveReady → BitsAreNeverBoth
never_both ready = λ flat limits proc t a is h fit on.
    let i = h.made.instance in
    let made = h.made.made in
    let order = h.passive_is.order in
    let there = (ready flat limits proc h.q h.passive is h.proc_is h.passive_is).1.there in
    let bit : is_on (value a t.nodes i.ended) ≡ true = sym (ap (λ (x : Template). is_on (value a t.nodes x.ends)) made) ∙ on in
    ap (λ (x : Template). is_on (value a t.nodes x.fails)) made ∙ h.made.instance_is.one (limited flat limits) h.q order h.passive_is.is there a fit bit

-- ---- which values it takes

-- the variables are the nodes at these places
placed_variables : (c m place : ℕ) (nodes : List TermNode) → variables_in nodes ≡ numbers_from c m → (y : ℕ) → y < m →
    (j : ℕ) × (sort : Sort) × (slice_get (variables_from place nodes) y ≡ Some (place + j)) × (slice_get nodes j ≡ Some (Variable (c + y) sort))
placed_variables c zero place [] e y l = absurd (omega (arith, l))
placed_variables c (suc m) place [] e y l = absurd cc
placed_variables c zero place (Variable k s ∷ nodes) e y l = absurd (omega (arith, l))
placed_variables c (suc m) place (Variable k s ∷ nodes) e zero l =
    let z : place ≡ place + 0 = omega arith in
    let same : k ≡ c = cc in
    let w : c ≡ c + 0 = omega arith in
    (0, s, ap Some z, ap (λ i. Some (Variable i s)) (same ∙ w))
placed_variables c (suc m) place (Variable k s ∷ nodes) e (suc y) l =
    let rest : variables_in nodes ≡ numbers_from (c + 1) m = cc in
    let h = placed_variables (c + 1) m (place + 1) nodes rest y (omega (arith, l)) in
    let z : place + 1 + h.0 ≡ place + suc h.0 = omega arith in
    let w : c + 1 + y ≡ c + suc y = omega arith in
    (suc h.0, h.1, h.2 ∙ ap Some z, h.3 ∙ ap (λ i. Some (Variable i h.1)) w)
placed_variables c m place (node ∷ nodes) e y l =
    let h = placed_variables c m (place + 1) nodes e y l in
    let z : place + 1 + h.0 ≡ place + suc h.0 = omega arith in
    (suc h.0, h.1, h.2 ∙ ap Some z, h.3)

-- their values are those that the assignment gives
variables_read : EachNodeHasItsValue → (a : ℕ → Value) (nodes : List TermNode) (total : ℕ) → variables_in nodes ≡ numbers_from 0 total → IsSome (sorts nodes) → (k m : ℕ) → k + m ≤ total →
    map (at (values a nodes)) (nodes_at (variables_from 0 nodes) (numbers_from k m)) ≡ reads a k m
variables_read law a nodes total e s k zero l = refl
variables_read law a nodes total e s k (suc m) l =
    let v = placed_variables 0 total 0 nodes e k (omega (arith, l)) in
    let here : slice_index (variables_from 0 nodes) k ≡ 0 + v.0 = index_of (variables_from 0 nodes) k (0 + v.0) v.2 in
    let z : 0 + v.0 ≡ v.0 = omega arith in
    let w : 0 + k ≡ k = omega arith in
    ap (λ i. at (values a nodes) i ∷ map (at (values a nodes)) (nodes_at (variables_from 0 nodes) (numbers_from (k + 1) m))) (here ∙ z)
    ∙ ap (λ x. x ∷ map (at (values a nodes)) (nodes_at (variables_from 0 nodes) (numbers_from (k + 1) m))) (law a nodes v.0 (Variable (0 + k) v.1) s v.3 ∙ ap a w)
    ∙ ap (λ xs. a k ∷ xs) (variables_read law a nodes total e s (k + 1) m (omega (arith, l)))

take_if : (b : Bool) (v : ValueTerms) (vs : List Value) (rest : List ValueTerms) (xs : List Value) → xs ≡ map (λ (w : ValueTerms). at vs w.node) rest →
    (if b then at vs v.node ∷ xs else xs) ≡ map (λ (w : ValueTerms). at vs w.node) (if b then v ∷ rest else rest)
take_if true v vs rest xs e = ap (λ ys. at vs v.node ∷ ys) e
take_if false v vs rest xs e = e

true_taken : (a : ℕ → Value) (nodes : List TermNode) (vs : List ValueTerm) → true_values a nodes vs ≡ values_taken (values a nodes) (map value_terms vs)
true_taken a nodes [] = refl
true_taken a nodes (v ∷ vs) =
    take_if (is_on (value a nodes v.live)) (value_terms v) (values a nodes) (filter (λ (w : ValueTerms). is_on (at (values a nodes) w.live)) (map value_terms vs)) (true_values a nodes vs) (true_taken a nodes vs)

pub taken_read : Laws → TakenAreRead
taken_read laws = λ flat limits proc t a is h fit.
    let q = h.q in
    let fl = limited flat limits in
    let p = passive_of fl q h.passive_is.order in
    let c = counted laws.sites flat limits proc t is h in
    let made = h.made.made in
    let later = h.made.instance_is.later in
    let k = length (first_sorts h.passive) in
    let m = length (start_sorts q q.kind) in
    let front : length (begin_roles p) ≡ k + m = c.front_is in
    let all = ap length c.roles_are ∙ length-append (begin_roles p) (blocks_roles (starts_of q.blocks) (passive_blocks fl q h.passive_is.order)) in
    let inside : k + m ≤ c.total = omega (arith, front, all, c.roles_count) in
    let first : length (first_roles h.passive) ≡ k = first_count h.passive.consts h.passive.globals h.passive.ins in
    let own : length (items_roles 0 h.passive.start.items) ≡ m = ap (λ (x : Passive). length (items_roles 0 x.start.items)) h.passive_is.is ∙ begin_count fl q q.kind in
    let begin : t.track.begin ≡ nodes_at (variables_from 0 t.nodes) (begin_values h.passive) = ap (λ (x : Template). x.track.begin) made in
    let numbers : begin_values h.passive ≡ numbers_from k m = ap (λ i. numbers_from i (length (items_roles 0 h.passive.start.items))) first ∙ ap (numbers_from k) own in (
      sym (ap (map (at (values a t.nodes))) (begin ∙ ap (nodes_at (variables_from 0 t.nodes)) numbers) ∙ variables_read laws.node_value a t.nodes c.total c.numbers later.sound k m inside),
      true_taken a t.nodes h.made.instance.values ∙ ap (λ (x : Template). values_taken (values a t.nodes) x.track.values) (sym made),
    )

-- ---- which sites it passes

front_and_rest : (n : ℕ) (xs : List ℕ) → xs ≡ take n xs ++ drop n xs
front_and_rest zero xs = refl
front_and_rest (suc n) [] = refl
front_and_rest (suc n) (x ∷ xs) = ap (λ ys. x ∷ ys) (front_and_rest n xs)

has_behind : (xs ys : List ℕ) (i : ℕ) → has_number ys i ≡ true → has_number (xs ++ ys) i ≡ true
has_behind [] ys i h = h
has_behind (x ∷ xs) ys i h = or_last (nat_eq x i) (has_number (xs ++ ys) i) (has_behind xs ys i h)
  where
    or_last : (a b : Bool) → b ≡ true → (a || b) ≡ true
    or_last true b h = refl
    or_last false b h = h

apart_by : (xs ys : List ℕ) → numbers_differ (xs ++ ys) ≡ true → (i : ℕ) → has_number ys i ≡ true → has_number xs i ≡ false
apart_by [] ys d i h = refl
apart_by (x ∷ xs) ys d i h =
    let p = and_parts (not (has_number (xs ++ ys) x)) (numbers_differ (xs ++ ys)) d in
    first (nat_eq x i) refl (has_number (xs ++ ys) x) refl p.0 (apart_by xs ys p.1 i h)
  where
    first : (b : Bool) → nat_eq x i ≡ b → (c : Bool) → has_number (xs ++ ys) x ≡ c → not c ≡ true → has_number xs i ≡ false → (b || has_number xs i) ≡ false
    first true e true f n rest = absurd cc
    first true e false f n rest =
        let same = equal_numbers x i e in
        let there : has_number (xs ++ ys) x ≡ true = ap (has_number (xs ++ ys)) same ∙ has_behind xs ys i h in
        let bad : true ≡ false = sym there ∙ f in
        absurd cc
    first false e c f n rest = rest

-- a run, as the layers below tell of it
record Told (flat : FlatProgram) (limits : List (List Bool)) (proc : ℕ) (t : Template) (h : IsTemplateOf flat limits proc t) (a : ℕ → Value) (x y : ℕ) (taken : List Value) (begin : FlatState) (results : List Result) (calls : List Request) (result : Result) : Type 0 where
  pub begins : Begins flat (track_at t a taken) (call_at proc h.passive a) h.q begin
  pub run : LocalRun flat h.q (consts_at h.passive a) (track_at t a taken) begin results calls result
  pub keep : AllKeep flat calls results
  pub calls_are : calls ≡ asked (map (site_value a t.nodes) h.made.instance.sites)
  pub results_are : results ≡ wides limits calls (map (recast x y) (given_back (map (site_value a t.nodes) h.made.instance.sites)))
  pub taken_are : taken ≡ begin_and_true h.q (length (first_sorts h.passive)) a t.nodes h.made.instance.values

said : Laws → (flat : FlatProgram) (limits : List (List Bool)) (proc : ℕ) (t : Template) (a : ℕ → Value) → IsFlat flat → (h : IsTemplateOf flat limits proc t) → IsTrue (fits a t.nodes) → (x y : ℕ) (taken : List Value) (begin : FlatState) (results : List Result)
    (calls : List Request) (result : Result) → Told flat limits proc t h a x y taken begin results calls result → (path : List ℕ) (count : ℕ) → (track_at t a taken).path ≡ path →
    true_sites a t.nodes h.made.instance.sites ≡ take count (path_places h.q path) → (s : SaysRun flat limits proc t h a x y result) × (s.more ≡ drop count (sites_passed h.q.blocks path))
said laws flat limits proc t a is h fit x y taken begin results calls result told path count path_is places =
    let blocks = h.q.blocks in
    let ss = h.made.instance.sites in
    let vs = values a t.nodes in
    let known = all_known laws.sites flat limits proc t is h in
    let by = passed_by laws.sites flat limits proc t a is h fit in
    let passed = true_numbers a t.nodes blocks ss in
    let more = drop count (sites_passed blocks path) in
    let front : passed ≡ take count (sites_passed blocks path) = true_are h.q path count (true_sites a t.nodes ss) places in
    let along : sites_passed blocks (track_at t a taken).path ≡ passed ++ more = ap (sites_passed blocks) path_is ∙ front_and_rest count (sites_passed blocks path) ∙ ap (λ r. r ++ more) (sym front) in
    let differ = laws.passed_once flat proc h.q (consts_at h.passive a) (track_at t a taken) begin results calls result is h.proc_is told.run in
    let read = taken_read laws flat limits proc t a is h fit in (
      record {
        taken = taken;
        begin = begin;
        results = results;
        calls = calls;
        begins = told.begins;
        run = told.run;
        keep = told.keep;
        passed = passed;
        more = more;
        along = along;
        apart = apart_by passed more (ap numbers_differ (sym along) ∙ differ);
        on = by.on;
        calls_are = told.calls_are ∙ by.asked_are;
        results_are = told.results_are ∙ ap (λ cs. wides limits cs (map (recast x y) (given_back (map (site_value a t.nodes) ss)))) told.calls_are ∙ results_by flat limits a t.nodes blocks t.sites x y ss fit known;
        track_is = told.taken_are ∙ ap (λ xs. xs ++ true_values a t.nodes h.made.instance.values) read.0 ∙ ap (λ xs. map (at vs) t.track.begin ++ xs) read.1;
      },
      refl,
    )

-- ---- runs

drop_all : {A : Type 0} (xs : List A) → drop (length xs) xs ≡ []
drop_all [] = refl
drop_all (x ∷ xs) = drop_all xs

-- where no callee fails the assert that one would fail in is none of the results
none_recast : (a : ℕ → Value) (nodes : List TermNode) (x y : ℕ) (ss : List SiteTerm) → length (failed_sites a nodes ss) ≤ 0 → given_back (map (site_value a nodes) ss) ≡ map (recast x y) (given_back (map (site_value a nodes) ss))
none_recast a nodes x y [] l = refl
none_recast a nodes x y (s ∷ ss) l = first (is_on (value a nodes s.fails)) (is_on (value a nodes s.node)) l (none_recast a nodes x y ss)
  where
    ended : (n : Bool) (os gs : List Value) (rs : List Result) → rs ≡ map (recast x y) rs → (if n then Ended os gs ∷ rs else rs) ≡ map (recast x y) (if n then Ended os gs ∷ rs else rs)
    ended true os gs rs e = ap (λ zs. Ended os gs ∷ zs) e
    ended false os gs rs e = e

    first : (f n : Bool) → length (if f then (s.block, s.call) ∷ failed_sites a nodes ss else failed_sites a nodes ss) ≤ 0 → (length (failed_sites a nodes ss) ≤ 0 → given_back (map (site_value a nodes) ss) ≡ map (recast x y) (given_back (map (site_value a nodes) ss))) →
        (if n then (if f then Broken 0 0 else Ended (map (at (values a nodes)) s.outs) (map (at (values a nodes)) s.changed)) ∷ given_back (map (site_value a nodes) ss) else given_back (map (site_value a nodes) ss))
        ≡ map (recast x y) (if n then (if f then Broken 0 0 else Ended (map (at (values a nodes)) s.outs) (map (at (values a nodes)) s.changed)) ∷ given_back (map (site_value a nodes) ss) else given_back (map (site_value a nodes) ss))
    first true n m rest = absurd (omega (arith, m))
    first false n m rest = ended n (map (at (values a nodes)) s.outs) (map (at (values a nodes)) s.changed) (given_back (map (site_value a nodes) ss)) (rest m)

pub ends_are_runs : Laws → EndsAreRuns
ends_are_runs laws = λ flat limits proc t a is are h fit on x y.
    let q = h.q in
    let p = h.passive in
    let i = h.made.instance in
    let made = h.made.made in
    let full = limited flat limits in
    let order = h.passive_is.order in
    let there = (laws.sites.ready flat limits proc q p is h.proc_is h.passive_is).1.there in
    let f = first_are laws flat limits proc t a h fit in
    let bit : is_on (value a t.nodes i.ended) ≡ true = sym (ap (λ (u : Template). is_on (value a t.nodes u.ends)) made) ∙ on in
    let s = h.made.instance_is.ends full q order h.passive_is.is there a fit bit in
    let from = s.5 in
    let r = from.run in
    let g = begun_so flat limits proc t a h made f s.0 s.1 s.2 from.begin s.3 (Some r.last, r.arrived) from.begin_is r.walks s.6.passed_are in
    let track = track_at t a s.2 in
    let outs = map (at (values a t.nodes)) t.outs in
    let globals = map (at (values a t.nodes)) t.globals in
    let run : LocalEnds full q track (in_env (consts_at p a) g.begun.begin) s.3 s.4 outs globals = record {
      last = r.last;
      arrived = r.arrived;
      over = r.over;
      walks = g.walks;
      passes = r.passes;
      returns = r.returns;
      taken = r.taken;
      calls_are = r.calls_are;
      outs_are = ap (λ (u : Template). map (at (values a t.nodes)) u.outs) made ∙ r.outs_are;
      globals_are = ap (λ (u : Template). map (at (values a t.nodes)) u.globals) made ∙ r.globals_are;
    } in
    let plain = laws.plain flat limits q (consts_at p a) track (map (λ (e : EdgeTerms). e.target) (passed (values a t.nodes) t.track.edges)) (call_at proc p a) g.begun.begin s.3 s.4 (Ended outs globals)
    is are f.consts_fit g.begun.begins refl run in
    let none : length (failed_sites a t.nodes i.sites) ≤ 0 =
    let l = fail_count laws.sites.ready flat limits proc t a is h fit in
    let b = ap one_if (never_both laws.sites.ready flat limits proc t a is h fit on) in
    omega (arith, l, b) in
    let told : Told flat limits proc t h a x y s.2 g.begun.begin (wides limits s.4 s.3) s.4 (Ended outs globals) = record {
      begins = g.begun.begins;
      run = plain.0;
      keep = plain.1;
      calls_are = s.6.calls_are;
      results_are = ap (wides limits s.4) (s.6.results_are ∙ none_recast a t.nodes x y i.sites none);
      taken_are = (h.made.instance_is.values full q order h.passive_is.is there).1 a fit bit s.0 s.1 s.2 s.3 s.4 (map (at (values a t.nodes)) i.outs) (map (at (values a t.nodes)) i.globals) from s.6.passed_are s.7;
    } in
    let places = (h.made.instance_is.places full q order h.passive_is.is there).0 a fit bit s.0 s.1 s.2 s.3 s.4 (map (at (values a t.nodes)) i.outs) (map (at (values a t.nodes)) i.globals) from s.6.passed_are in
    let path = path_places q (0 ∷ s.0) in
    let count : length path ≡ length (sites_passed q.blocks (0 ∷ s.0)) = sym (map_count (number_at q.blocks) path) ∙ ap length (path_numbers q (0 ∷ s.0)) in
    let whole = said laws flat limits proc t a is h fit x y s.2 g.begun.begin (wides limits s.4 s.3) s.4 (Ended outs globals) told (0 ∷ s.0) (length path) g.path_is (places ∙ sym (take_whole path)) in
    (whole.0, whole.1 ∙ ap (λ n. drop n (sites_passed q.blocks (0 ∷ s.0))) count ∙ drop_all (sites_passed q.blocks (0 ∷ s.0)))

blame_recast : (x y : ℕ) (rs : List Result) → map blame (map (recast x y) rs) ≡ map blame rs
blame_recast x y [] = refl
blame_recast x y (Ended os gs ∷ rs) = ap (λ zs. Ended os gs ∷ zs) (blame_recast x y rs)
blame_recast x y (Broken p n ∷ rs) = ap (λ zs. Broken 0 0 ∷ zs) (blame_recast x y rs)

pub failures_are_runs : Laws → FailuresAreRuns
failures_are_runs laws = λ flat limits proc t a is are h fit on x y.
    let q = h.q in
    let p = h.passive in
    let i = h.made.instance in
    let made = h.made.made in
    let full = limited flat limits in
    let order = h.passive_is.order in
    let there = (laws.sites.ready flat limits proc q p is h.proc_is h.passive_is).1.there in
    let f = first_are laws flat limits proc t a h fit in
    let bit : is_on (value a t.nodes i.fails) ≡ true = sym (ap (λ (u : Template). is_on (value a t.nodes u.fails)) made) ∙ on in
    let s = h.made.instance_is.failures full q order h.passive_is.is there a fit bit x y in
    let from = s.7 in
    let r = from.run in
    let g = begun_so flat limits proc t a h made f s.0 s.1 s.2 from.begin s.3 (Some r.last, r.arrived) from.begin_is r.walks s.8.passed_are in
    let track = track_at t a s.2 in
    let run : LocalFails full q track (in_env (consts_at p a) g.begun.begin) s.3 s.4 s.5 s.6 = record {
      last = r.last;
      arrived = r.arrived;
      before = r.before;
      at = r.at;
      after = r.after;
      over = r.over;
      walks = g.walks;
      splits = r.splits;
      passes = r.passes;
      fails = r.fails;
      taken = r.taken;
    } in
    let plain = laws.plain flat limits q (consts_at p a) track (map (λ (e : EdgeTerms). e.target) (passed (values a t.nodes) t.track.edges)) (call_at proc p a) g.begun.begin s.3 s.4 (Broken s.5 s.6)
    is are f.consts_fit g.begun.begins refl run in
    let back : map blame s.3 ≡ map blame (given_back (map (site_value a t.nodes) i.sites)) = ap (map blame) s.8.results_are ∙ blame_recast x y (given_back (map (site_value a t.nodes) i.sites)) in
    let told : Told flat limits proc t h a x y s.2 g.begun.begin (wides limits s.4 s.3) s.4 (Broken s.5 s.6) = record {
      begins = g.begun.begins;
      run = plain.0;
      keep = plain.1;
      calls_are = s.8.calls_are;
      results_are = ap (wides limits s.4) s.8.results_are;
      taken_are = (h.made.instance_is.values full q order h.passive_is.is there).2 a fit bit s.0 s.1 s.2 s.3 s.4 s.5 s.6 from s.8.passed_are s.8.calls_are back s.9;
    } in
    let places = (h.made.instance_is.places full q order h.passive_is.is there).1 a fit bit s.0 s.1 s.2 s.3 s.4 s.5 s.6 from s.8.passed_are s.8.calls_are in
    let whole = said laws flat limits proc t a is h fit x y s.2 g.begun.begin (wides limits s.4 s.3) s.4 (Broken s.5 s.6) told (0 ∷ s.0) (length s.4) g.path_is places in
    (s.5, s.6, whole.0)
