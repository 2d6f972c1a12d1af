-- A run of a node's procedure as one over its formula's first variables, and an assignment that has all that the run settles.
use Rattle.std.proofs.Common.{◌≡◌, ℕ, zero, suc, ◌+◌, ◌-◌, ◌<◌, ◌≤◌, Bool, true, false, List, [], ◌∷◌, ◌++◌, length, map, replicate, refl, sym, ap, ◌∙◌, subst, arith, append_assoc, append-nil, length-append, inl, inr}
use Rattle.std.specs.Prelude.{Option, None, Some, slice_get, nat_lt, IsTrue, IsSome, is_some, ◌⊎◌}
use Rattle.std.proofs.lemmas.Bool.Decides.{nat_tests}
use Rattle.hy_val.specs.NodeSorts.{is_sort}
use Rattle.hy_val.specs.Values.{at, has_sort, zero_of}
use Rattle.hy_val.specs.declared.sort.Sort.{Sort}
use Rattle.hy_val.specs.declared.value.Value.{Value}
use Rattle.hy_term.specs.Laws.{EachNodeHasItsValue, NewVariables as NewValues}
use Rattle.hy_term.specs.Meaning.{extended, fits, values, Grows}
use Rattle.hy_term.specs.TermSorts.{sorts}
use Rattle.hy_term.specs.Variables.{reads}
use Rattle.hy_term.specs.declared.node.TermNode.{TermNode}
use Rattle.hy_term.specs.declared.node.TermNode.TheVariants.{Variable}
use Rattle.flat_prog.specs.Local.{Begins, Request, State as FlatState, Track, have_sorts}
use Rattle.flat_prog.specs.Program.{FlatProgram}
use Rattle.flat_prog.specs.Shape.{IsFlat}
use Rattle.flat_prog.specs.Sites.{numbers_from}
use Rattle.passive_form.specs.Limited.{Limited, limited}
use Rattle.passive_form.specs.Local.{sorted_as, start}
use Rattle.passive_form.specs.Making.{passive_blocks, passive_of}
use Rattle.passive_form.specs.SameRuns.{StartIs, in_env}
use Rattle.passive_form.specs.declared.Passive.{Passive}
use Rattle.vc_gen.proofs.Sortable.{all_sorts, sorts_append}
use Rattle.vc_gen.specs.Fitting.{AllFit}
use Rattle.vc_gen.specs.Inputs.{choices_at, items_at, sorts_of_block, sorts_of_blocks}
use Rattle.vc_gen.specs.Instance.{all_at, room, start_sorts, IsRoom}
use Rattle.vc_gen.specs.Items.{AreSorts, bool_sort, chosen}
use Rattle.vc_gen.specs.Plans.{Follows, RowFits}
use Rattle.vc_gen.specs.Whole.{InstanceReady, IsOrder, NewVariables, PassiveReady}
use Rattle.tree_terms.specs.declared.linked.Role.{Role}
use Rattle.tree_terms.specs.declared.linked.Role.TheVariants.{Const, Global, In, Failed, Out, After, Own}
use Rattle.tree_terms.specs.declared.linked.Template.{Template as Formula}
use Rattle.proc_template.proofs.Actual.{first_values}
use Rattle.proc_template.proofs.Beginning.{begun_sorts}
use Rattle.proc_template.proofs.Ready.{passive_fits, instance_ready}
use Rattle.proc_template.specs.Layout.{begin_roles, blocks_roles, const_roles, first_roles, global_roles, in_roles, items_roles, own_roles, roles_of, starts_of}
use Rattle.proc_template.specs.Starting.{first_actuals, first_nodes, first_sorts}
use Rattle.proc_template.specs.Template.{IsFit, IsTemplateOf}
use Rattle.flat_prog.specs.Local.{Result, Broken}
use Rattle.flat_prog.specs.Once.{has_number}
use Rattle.tree_words.specs.Compose.{Returned}
use Rattle.tree_words.specs.Linking.{role_or}
use Rattle.tree_words.specs.Template.{by_role}
use Rattle.template_law.proofs.PlanFrom.{Why, of_old, of_own, of_call, of_failing, put_by}
use Rattle.template_law.proofs.PlanNumbers.{InBlock, role_in_block, blocks_count, start_own, rep_count, rep_get, get_left, get_right, get_there, numbered_get, numbered_count, node_from, reads_same, at_left, at_right, reads_part, row_fits, have_both, have_count, filled, filled_sorted, filled_at, sorted_both, sorted_count, extended_old, extended_new}
use Rattle.template_law.proofs.PlanRows.{entry, entry_within, follows_by, site_of}

-- the list of what a formula's first variables stand for
abbrev pub base_of : List Value → Request → List Value
base_of vs call = vs ++ (call.globals ++ call.args)

reads_of : (f : ℕ → Value) (k : ℕ) (xs : List Value) → ((j : ℕ) → j < length xs → f (k + j) ≡ at xs j) → reads f k (length xs) ≡ xs
reads_of f k [] h = refl
reads_of f k (x ∷ xs) h =
    let e : k ≡ k + 0 = omega arith in
    ap (λ v. v ∷ reads f (k + 1) (length xs)) (ap f e ∙ h 0 (omega arith))
    ∙ ap (λ vs. x ∷ vs) (reads_of f (k + 1) xs (λ j l. let g : k + 1 + j ≡ k + suc j = omega arith in ap f g ∙ h (suc j) (omega (arith, l))))

bools_are : (n : ℕ) → AreSorts (replicate n bool_sort)
bools_are zero = tt
bools_are (suc n) = (refl, bools_are n)

rest_of : (r : Role) → InBlock r → (o : Option ℕ) → site_of r ≡ o → ((i : ℕ) × (site_of r ≡ Some i)) ⊎ (r ≡ Own)
rest_of (Const k) h o e = absurd h
rest_of (Global k) h o e = absurd h
rest_of (In k) h o e = absurd h
rest_of (Failed i) h o e = inl (i, refl)
rest_of (Out i k) h o e = inl (i, refl)
rest_of (After i k) h o e = inl (i, refl)
rest_of Own h o e = inr refl

module _ (node_value : EachNodeHasItsValue) (new_values : NewValues) (zeros : (s : Sort) → IsTrue (is_sort s) → IsTrue (has_sort (zero_of s) s)) (ready : PassiveReady) (start_is : StartIs)
    (flat : FlatProgram) (limits : List (List Bool)) (proc : ℕ) (t : Formula) (is : IsFlat flat) (h : IsTemplateOf flat limits proc t) (vs : List Value) (vs_have : have_sorts vs flat.consts ≡ true)
    (call : Request) (track : Track) (begin : FlatState) (begins : Begins flat track call h.q begin) where
  abbrev pub full : Limited
  full = limited flat limits

  abbrev pub order : List ℕ
  order = h.passive_is.order

  abbrev pub first_number : ℕ
  first_number = length (first_sorts h.passive)

  abbrev pub first_assigned : ℕ → Value
  first_assigned = at (base_of vs call)

  abbrev pub first_old : List TermNode
  first_old = first_nodes (first_sorts h.passive)

  pub made_of : h.passive ≡ passive_of (limited flat limits) h.q h.passive_is.order
  made_of = h.passive_is.is

  pub fit_of : IsFit h.q.blocks h.passive
  fit_of = passive_fits flat limits proc h.q h.passive ready is h.proc_is h.passive_is

  pub order_of : IsOrder (limited flat limits) h.q h.passive_is.order
  order_of = (ready flat limits proc h.q h.passive is h.proc_is h.passive_is).1

  pub ready_of : InstanceReady (first_nodes (first_sorts h.passive)) h.passive (first_actuals h.passive) (length (first_sorts h.passive))
  ready_of = instance_ready h.passive fit_of.fit fit_of.sorts

  consts_count : length h.passive.consts ≡ length vs
  consts_count = ap (λ (x : Passive). length x.consts) made_of ∙ sym (have_count vs flat.consts vs_have)

  globals_count : length h.passive.globals ≡ length call.globals
  globals_count = ap (λ (x : Passive). length x.globals) made_of ∙ sym (have_count call.globals flat.globals begins.globals)

  ins_count : length h.passive.ins ≡ length call.args
  ins_count = ap (λ (x : Passive). length x.ins) made_of ∙ sym (have_count call.args h.q.ins begins.args)

  pub first_count : length (first_sorts h.passive) ≡ length (base_of vs call)
  first_count =
      let a = length-append h.passive.consts (h.passive.globals ++ h.passive.ins) in
      let b = length-append h.passive.globals h.passive.ins in
      let c = length-append vs (call.globals ++ call.args) in
      let d = length-append call.globals call.args in
      let x = consts_count in
      let y = globals_count in
      let z = ins_count in
      omega (arith, a, b, c, d, x, y, z)

  consts_are : reads (at (base_of vs call)) 0 (length h.passive.consts) ≡ vs
  consts_are = ap (reads (at (base_of vs call)) 0) consts_count ∙ reads_part [] vs (call.globals ++ call.args)

  globals_are : reads (at (base_of vs call)) (length h.passive.consts) (length h.passive.globals) ≡ call.globals
  globals_are = ap (λ n. reads (at (base_of vs call)) n (length h.passive.globals)) consts_count ∙ ap (reads (at (base_of vs call)) (length vs)) globals_count ∙ reads_part vs call.globals call.args

  args_are : reads (at (base_of vs call)) (length h.passive.consts + length h.passive.globals) (length h.passive.ins) ≡ call.args
  args_are =
      let n : length h.passive.consts + length h.passive.globals ≡ length (vs ++ call.globals) = let a = length-append vs call.globals in let x = consts_count in let y = globals_count in omega (arith, a, x, y) in
      let e : base_of vs call ≡ (vs ++ call.globals) ++ (call.args ++ []) = sym (append_assoc vs call.globals call.args) ∙ ap (λ r. (vs ++ call.globals) ++ r) (sym (append-nil call.args)) in
      ap (λ m. reads (at (base_of vs call)) m (length h.passive.ins)) n ∙ ap (reads (at (base_of vs call)) (length (vs ++ call.globals))) ins_count
      ∙ ap (λ xs. reads (at xs) (length (vs ++ call.globals)) (length call.args)) e ∙ reads_part (vs ++ call.globals) call.args []

  old_sorted : sorts (first_nodes (first_sorts h.passive)) ≡ Some (bool_sort ∷ first_sorts h.passive)
  old_sorted = begun_sorts (first_sorts h.passive) fit_of.sorts

  -- they fit
  pub old_fits : IsTrue (fits (at (base_of vs call)) (first_nodes (first_sorts h.passive)))
  old_fits =
      let ss = first_sorts h.passive in
      let all : reads (at (base_of vs call)) 0 (length ss) ≡ base_of vs call =
      ap (reads (at (base_of vs call)) 0) first_count ∙ ap (λ xs. reads (at xs) 0 (length (base_of vs call))) (sym (append-nil (base_of vs call))) ∙ reads_part [] (base_of vs call) [] in
      let have : have_sorts (base_of vs call) (flat.consts ++ (flat.globals ++ h.q.ins)) ≡ true =
      have_both vs (call.globals ++ call.args) flat.consts (flat.globals ++ h.q.ins) vs_have (have_both call.globals call.args flat.globals h.q.ins begins.globals begins.args) in
      let same : ss ≡ flat.consts ++ (flat.globals ++ h.q.ins) = ap first_sorts made_of in
      row_fits (at (base_of vs call)) 0 ss (ap (λ xs. have_sorts xs ss) all ∙ ap (have_sorts (base_of vs call)) same ∙ have)

  grown : Grows (first_nodes (first_sorts h.passive)) (first_nodes (first_sorts h.passive))
  grown = ([], sym (append-nil (first_nodes (first_sorts h.passive))))

  sorted_some : IsSome (sorts (first_nodes (first_sorts h.passive)))
  sorted_some = ap is_some old_sorted

  -- the run begins in the state of the first variables' terms
  pub started : start h.q h.q.kind (all_at (at (base_of vs call)) (first_nodes (first_sorts h.passive)) (first_actuals h.passive).consts) (all_at (at (base_of vs call)) (first_nodes (first_sorts h.passive)) (first_actuals h.passive).globals)
      (all_at (at (base_of vs call)) (first_nodes (first_sorts h.passive)) (first_actuals h.passive).args) track.values ≡ Some (in_env vs begin)
  started =
      let a = at (base_of vs call) in
      let ss = first_sorts h.passive in
      let one = length-append h.passive.consts (h.passive.globals ++ h.passive.ins) in
      let two = length-append h.passive.globals h.passive.ins in
      let assoc : 1 + length h.passive.consts + length h.passive.globals ≡ 1 + (length h.passive.consts + length h.passive.globals) = omega arith in
      let cs : all_at a (first_nodes ss) (first_actuals h.passive).consts ≡ vs = first_values node_value a ss (first_nodes ss) grown sorted_some 0 (length h.passive.consts) (omega (arith, one)) ∙ consts_are in
      let gs : all_at a (first_nodes ss) (first_actuals h.passive).globals ≡ call.globals =
      first_values node_value a ss (first_nodes ss) grown sorted_some (length h.passive.consts) (length h.passive.globals) (omega (arith, one, two)) ∙ globals_are in
      let xs : all_at a (first_nodes ss) (first_actuals h.passive).args ≡ call.args =
      ap (λ i. map (at (values a (first_nodes ss))) (numbers_from i (length h.passive.ins))) assoc
      ∙ first_values node_value a ss (first_nodes ss) grown sorted_some (length h.passive.consts + length h.passive.globals) (length h.passive.ins) (omega (arith, one, two)) ∙ args_are in
      ap (λ c. start h.q h.q.kind c (all_at a (first_nodes ss) (first_actuals h.passive).globals) (all_at a (first_nodes ss) (first_actuals h.passive).args) track.values) cs
      ∙ ap (λ g. start h.q h.q.kind vs g (all_at a (first_nodes ss) (first_actuals h.passive).args) track.values) gs ∙ ap (λ x. start h.q h.q.kind vs call.globals x track.values) xs
      ∙ start_is flat track call h.q begin vs begins

  -- ---- roles by number

  roles_are : t.roles ≡ roles_of h.q.blocks h.passive
  roles_are = ap (λ (x : Formula). x.roles) h.made.made

  first_roles_count : length (first_roles h.passive) ≡ length (first_sorts h.passive)
  first_roles_count =
      let p = h.passive in
      let a = length-append (const_roles p.consts) (global_roles p.globals ++ in_roles p.ins) in
      let b = length-append (global_roles p.globals) (in_roles p.ins) in
      let c = length-append p.consts (p.globals ++ p.ins) in
      let d = length-append p.globals p.ins in
      let x = numbered_count Const 0 p.consts in
      let y = numbered_count Global 0 p.globals in
      let z = numbered_count In 0 p.ins in
      omega (arith, a, b, c, d, x, y, z)

  start_roles : items_roles 0 h.passive.start.items ≡ own_roles (length (start_sorts h.q h.q.kind))
  start_roles = ap (λ (x : Passive). items_roles 0 x.start.items) made_of ∙ start_own (limited flat limits) h.q h.q.kind

  begin_count : length (begin_roles h.passive) ≡ length (first_sorts h.passive) + length (start_sorts h.q h.q.kind)
  begin_count =
      length-append (first_roles h.passive) (items_roles 0 h.passive.start.items) ∙ ap (λ n. n + length (items_roles 0 h.passive.start.items)) first_roles_count
      ∙ ap (λ n. length (first_sorts h.passive) + n) (ap length start_roles ∙ rep_count (length (start_sorts h.q h.q.kind)) Own)

  pub role_start : (j : ℕ) → j < length (start_sorts h.q h.q.kind) → slice_get t.roles (length (first_sorts h.passive) + j) ≡ Some Own
  role_start j l =
      let b = begin_count in
      let e : length (first_sorts h.passive) + j ≡ length (first_roles h.passive) + j = ap (λ n. n + j) (sym first_roles_count) in
      ap (λ rs. slice_get rs (length (first_sorts h.passive) + j)) roles_are
      ∙ get_left (begin_roles h.passive) (blocks_roles (starts_of h.q.blocks) h.passive.blocks) (length (first_sorts h.passive) + j) (omega (arith, b, l))
      ∙ ap (slice_get (begin_roles h.passive)) e ∙ get_right (first_roles h.passive) (items_roles 0 h.passive.start.items) j ∙ ap (λ rs. slice_get rs j) start_roles
      ∙ rep_get (length (start_sorts h.q h.q.kind)) Own j l

  pub role_block : (j : ℕ) → slice_get t.roles (length (first_sorts h.passive) + length (start_sorts h.q h.q.kind) + j) ≡ slice_get (blocks_roles (starts_of h.q.blocks) (passive_blocks (limited flat limits) h.q h.passive_is.order)) j
  role_block j =
      ap (λ rs. slice_get rs (length (first_sorts h.passive) + length (start_sorts h.q h.q.kind) + j)) roles_are
      ∙ ap (λ n. slice_get (roles_of h.q.blocks h.passive) (n + j)) (sym begin_count) ∙ get_right (begin_roles h.passive) (blocks_roles (starts_of h.q.blocks) h.passive.blocks) j
      ∙ ap (λ (x : Passive). slice_get (blocks_roles (starts_of h.q.blocks) x.blocks) j) made_of

  -- the first variables stand for the constants, the globals and the ins
  pub role_first : (n : ℕ) → n < length (first_sorts h.passive) → (own : ℕ → Value) (ret : ℕ → Returned) → put_by t vs call own ret n ≡ at (base_of vs call) n
  role_first n l own ret =
      ap (λ o. by_role vs call own ret n (role_or o)) (ap (λ rs. slice_get rs n) roles_are ∙ get_left (begin_roles h.passive) (blocks_roles (starts_of h.q.blocks) h.passive.blocks) n (let b = begin_count in omega (arith, b, l))
      ∙ get_left (first_roles h.passive) (items_roles 0 h.passive.start.items) n (let c = first_roles_count in omega (arith, c, l)))
      ∙ by (nat_lt n (length h.passive.consts)) refl (nat_lt n (length h.passive.consts + length h.passive.globals)) refl
    where
      by : (b : Bool) → nat_lt n (length h.passive.consts) ≡ b → (c : Bool) → nat_lt n (length h.passive.consts + length h.passive.globals) ≡ c → by_role vs call own ret n (role_or (slice_get (first_roles h.passive) n)) ≡ at (base_of vs call) n
      by true e c f =
          let low : n < length h.passive.consts = grind (arith, nat_tests) in
          let x = numbered_count Const 0 h.passive.consts in
          let z : 0 + n ≡ n = omega arith in
          let m = consts_count in
          ap (λ o. by_role vs call own ret n (role_or o)) (get_left (const_roles h.passive.consts) (global_roles h.passive.globals ++ in_roles h.passive.ins) n (omega (arith, low, x)) ∙ numbered_get Const 0 h.passive.consts n low ∙ ap (λ i. Some (Const i)) z)
          ∙ sym (at_left vs (call.globals ++ call.args) n (omega (arith, low, m)))
      by false e true f =
          let low : n < length h.passive.consts + length h.passive.globals = grind (arith, nat_tests) in
          let high : length h.passive.consts ≤ n = grind (arith, nat_tests) in
          let x = numbered_count Const 0 h.passive.consts in
          let y = numbered_count Global 0 h.passive.globals in
          let m = consts_count in
          let g = globals_count in
          let j = n - length h.passive.consts in
          let split : n ≡ length (const_roles h.passive.consts) + j = omega (arith, high, x) in
          let split2 : n ≡ length vs + j = omega (arith, high, m) in
          let z : 0 + j ≡ j = omega arith in
          ap (λ o. by_role vs call own ret n (role_or o)) (ap (slice_get (first_roles h.passive)) split ∙ get_right (const_roles h.passive.consts) (global_roles h.passive.globals ++ in_roles h.passive.ins) j
          ∙ get_left (global_roles h.passive.globals) (in_roles h.passive.ins) j (omega (arith, low, high, y)) ∙ numbered_get Global 0 h.passive.globals j (omega (arith, low, high)) ∙ ap (λ i. Some (Global i)) z)
          ∙ sym (ap (at (base_of vs call)) split2 ∙ at_right vs (call.globals ++ call.args) j ∙ at_left call.globals call.args j (omega (arith, low, high, g)))
      by false e false f =
          let high : length h.passive.consts + length h.passive.globals ≤ n = grind (arith, nat_tests) in
          let x = numbered_count Const 0 h.passive.consts in
          let y = numbered_count Global 0 h.passive.globals in
          let a = length-append h.passive.consts (h.passive.globals ++ h.passive.ins) in
          let b = length-append h.passive.globals h.passive.ins in
          let m = consts_count in
          let g = globals_count in
          let i = ins_count in
          let j = n - (length h.passive.consts + length h.passive.globals) in
          let split : n ≡ length (const_roles h.passive.consts) + (length (global_roles h.passive.globals) + j) = omega (arith, high, x, y) in
          let split2 : n ≡ length vs + (length call.globals + j) = omega (arith, high, m, g) in
          let z : 0 + j ≡ j = omega arith in
          ap (λ o. by_role vs call own ret n (role_or o)) (ap (slice_get (first_roles h.passive)) split ∙ get_right (const_roles h.passive.consts) (global_roles h.passive.globals ++ in_roles h.passive.ins) (length (global_roles h.passive.globals) + j)
          ∙ get_right (global_roles h.passive.globals) (in_roles h.passive.ins) j ∙ numbered_get In 0 h.passive.ins j (omega (arith, l, a, b, high)) ∙ ap (λ i. Some (In i)) z)
          ∙ sym (ap (at (base_of vs call)) split2 ∙ at_right vs (call.globals ++ call.args) (length call.globals + j) ∙ at_right call.globals call.args j)

  -- ---- an assignment with what is settled

  sorts_are : (ns : List ℕ) → AreSorts (sorts_of_blocks (limited flat limits) h.q ns)
  sorts_are [] = tt
  sorts_are (n ∷ ns) =
      let p = h.passive in
      let blocks : AllFit p.consts p.globals p.locals (passive_blocks (limited flat limits) h.q h.passive_is.order) = subst (λ (x : Passive). AllFit p.consts p.globals p.locals x.blocks) made_of fit_of.fit.blocks in
      sorts_append (sorts_of_block (limited flat limits) h.q n) (sorts_of_blocks (limited flat limits) h.q ns)
      (sorts_append (chosen (items_at (limited flat limits) h.q n)) (replicate (choices_at h.q n) bool_sort) (all_sorts p.consts p.globals p.locals (limited flat limits) h.q h.passive_is.order blocks order_of.all n) (bools_are (choices_at h.q n))) (sorts_are ns)

  module _ (first : List Value) (first_sorted : sorted_as (start_sorts h.q h.q.kind) first ≡ true) (row : List (Option Value)) (row_sorted : RowFits (sorts_of_blocks (limited flat limits) h.q h.passive_is.order) row)
      (variables : NewVariables (first_nodes (first_sorts h.passive)) (length (first_sorts h.passive)) t.nodes h.made.instance.next)
      (roomy : IsRoom (limited flat limits) h.q h.passive_is.order (length (first_sorts h.passive)) (first_nodes (first_sorts h.passive)) t.nodes h.made.instance.next) where
    abbrev pub settled_values : List Value
    settled_values = first ++ filled (sorts_of_blocks (limited flat limits) h.q h.passive_is.order) row

    abbrev pub settled_own : ℕ → Value
    settled_own = extended (at (base_of vs call)) (length (first_sorts h.passive)) (first ++ filled (sorts_of_blocks (limited flat limits) h.q h.passive_is.order) row)

    values_sorted : sorted_as (room (limited flat limits) h.q h.passive_is.order) settled_values ≡ true
    values_sorted = sorted_both (start_sorts h.q h.q.kind) (sorts_of_blocks (limited flat limits) h.q h.passive_is.order) first (filled (sorts_of_blocks (limited flat limits) h.q h.passive_is.order) row) first_sorted
        (filled_sorted zeros (sorts_of_blocks (limited flat limits) h.q h.passive_is.order) row (sorts_are h.passive_is.order) row_sorted)

    pub own_fits : IsTrue (fits settled_own t.nodes)
    own_fits =
        let law = new_values (at (base_of vs call)) (length (first_sorts h.passive)) settled_values (first_nodes (first_sorts h.passive)) ready_of.below in
        let n = sorted_count (room (limited flat limits) h.q h.passive_is.order) settled_values values_sorted in
        roomy.fit settled_own (law.1 ∙ old_fits) (ap (λ m. sorted_as (room (limited flat limits) h.q h.passive_is.order) (reads settled_own (length (first_sorts h.passive)) m)) (sym n)
        ∙ ap (sorted_as (room (limited flat limits) h.q h.passive_is.order)) law.2 ∙ values_sorted)

    pub own_old : (n : ℕ) → n < length (first_sorts h.passive) → settled_own n ≡ at (base_of vs call) n
    own_old n l = extended_old (at (base_of vs call)) (length (first_sorts h.passive)) settled_values n l

    own_first : reads settled_own (length (first_sorts h.passive)) (length (start_sorts h.q h.q.kind)) ≡ first
    own_first =
        ap (reads settled_own (length (first_sorts h.passive))) (sym (sorted_count (start_sorts h.q h.q.kind) first first_sorted))
        ∙ reads_of settled_own (length (first_sorts h.passive)) first (λ j l. extended_new (at (base_of vs call)) (length (first_sorts h.passive)) settled_values j ∙ at_left first (filled (sorts_of_blocks (limited flat limits) h.q h.passive_is.order) row) j l)

    own_row : (j : ℕ) (v : Value) → entry row j ≡ Some v → settled_own (length (first_sorts h.passive) + length (start_sorts h.q h.q.kind) + j) ≡ v
    own_row j v is_v =
        let n = sorted_count (start_sorts h.q h.q.kind) first first_sorted in
        let e : length (first_sorts h.passive) + length (start_sorts h.q h.q.kind) + j ≡ length (first_sorts h.passive) + (length first + j) = omega (arith, n) in
        ap settled_own e ∙ extended_new (at (base_of vs call)) (length (first_sorts h.passive)) settled_values (length first + j)
        ∙ at_right first (filled (sorts_of_blocks (limited flat limits) h.q h.passive_is.order) row) j ∙ filled_at (sorts_of_blocks (limited flat limits) h.q h.passive_is.order) row j v row_sorted is_v

    module _ (front rest : List ℕ) (lasts : List Result) (settles : (j : ℕ) (v : Value) (r : Role) (i : ℕ) → entry row j ≡ Some v →
        slice_get (blocks_roles (starts_of h.q.blocks) (passive_blocks (limited flat limits) h.q h.passive_is.order)) j ≡ Some r → site_of r ≡ Some i →
        (has_number front i ≡ true) ⊎ ((r ≡ Failed i) × (x : ℕ) × (z : ℕ) × (rest ≡ i ∷ []) × (lasts ≡ Broken x z ∷ []))) where
      why : (j : ℕ) (v : Value) → entry row j ≡ Some v → Why t (length (first_sorts h.passive)) front rest lasts (length (first_sorts h.passive) + length (start_sorts h.q h.q.kind) + j)
      why j v is_v =
          let k = length (first_sorts h.passive) in
          let s = length (start_sorts h.q h.q.kind) in
          let rs = blocks_roles (starts_of h.q.blocks) (passive_blocks (limited flat limits) h.q h.passive_is.order) in
          let within = entry_within row j v is_v in
          let n1 = row_count (sorts_of_blocks (limited flat limits) h.q h.passive_is.order) row row_sorted in
          let n2 = blocks_count (limited flat limits) h.q (starts_of h.q.blocks) h.passive_is.order in
          let n3 = length-append (start_sorts h.q h.q.kind) (sorts_of_blocks (limited flat limits) h.q h.passive_is.order) in
          let n4 = roomy.next_is in
          let n5 = variables.next_is in
          let r = get_there rs j (omega (arith, within, n1, n2)) in
          let role_is : slice_get t.roles (k + s + j) ≡ Some r.0 = role_block j ∙ r.1 in
          let y = node_from (first_nodes (first_sorts h.passive)) t.nodes k variables.count (s + j) variables.numbers (omega (arith, within, n1, n3, n4, n5)) in
          let e : k + (s + j) ≡ k + s + j = omega arith in
          let node_is : slice_get t.nodes y.0 ≡ Some (Variable (k + s + j) y.1) = y.2 ∙ ap (λ n. Some (Variable n y.1)) e in
          by (k + s + j) y.0 y.1 r.0 role_is node_is r.1 (rest_of r.0 (role_in_block (starts_of h.q.blocks) (passive_blocks (limited flat limits) h.q h.passive_is.order) j r.0 r.1) (site_of r.0) refl)
        where
          row_count : (ss : List Sort) (xs : List (Option Value)) → RowFits ss xs → length xs ≡ length ss
          row_count [] [] h = refl
          row_count [] (v ∷ xs) h = absurd h
          row_count (s ∷ ss) [] h = absurd h
          row_count (s ∷ ss) (None ∷ xs) h = ap suc (row_count ss xs h)
          row_count (s ∷ ss) (Some v ∷ xs) h = ap suc (row_count ss xs h.1)

          by_site : (n y : ℕ) (sort : Sort) (r : Role) (i : ℕ) → slice_get t.roles n ≡ Some r → slice_get t.nodes y ≡ Some (Variable n sort) → site_of r ≡ Some i →
              (has_number front i ≡ true) ⊎ ((r ≡ Failed i) × (x : ℕ) × (z : ℕ) × (rest ≡ i ∷ []) × (lasts ≡ Broken x z ∷ [])) → Why t (length (first_sorts h.passive)) front rest lasts n
          by_site n y sort r i role_is node_is at_i (inl has) = of_call y sort r i node_is role_is at_i has
          by_site n y sort r i role_is node_is at_i (inr z) = of_failing y sort i z.1 z.2 node_is (role_is ∙ ap (λ x. Some x) z.0) z.3 z.4

          by : (n y : ℕ) (sort : Sort) (r : Role) → slice_get t.roles n ≡ Some r → slice_get t.nodes y ≡ Some (Variable n sort) →
              slice_get (blocks_roles (starts_of h.q.blocks) (passive_blocks (limited flat limits) h.q h.passive_is.order)) j ≡ Some r → ((i : ℕ) × (site_of r ≡ Some i)) ⊎ (r ≡ Own) → Why t (length (first_sorts h.passive)) front rest lasts n
          by n y sort r role_is node_is in_row (inl z) = by_site n y sort r z.0 role_is node_is z.1 (settles j v r z.0 is_v in_row z.1)
          by n y sort r role_is node_is in_row (inr e) = of_own (role_is ∙ ap (λ x. Some x) e)

      -- an assignment that has what is settled agrees on the old variables, has the values of the start, and follows the row
      pub agrees_old : (b : ℕ → Value) → ((n : ℕ) → Why t (length (first_sorts h.passive)) front rest lasts n → b n ≡ settled_own n) → (n : ℕ) → n < length (first_sorts h.passive) → b n ≡ at (base_of vs call) n
      agrees_old b agree n l = agree n (of_old l) ∙ own_old n l

      pub agrees_first : (b : ℕ → Value) → ((n : ℕ) → Why t (length (first_sorts h.passive)) front rest lasts n → b n ≡ settled_own n) → reads b (length (first_sorts h.passive)) (length (start_sorts h.q h.q.kind)) ≡ first
      agrees_first b agree =
          reads_same b settled_own (length (first_sorts h.passive)) (length (start_sorts h.q h.q.kind)) (λ n low high. agree n (of_own (own_at n low high))) ∙ own_first
        where
          own_at : (n : ℕ) → length (first_sorts h.passive) ≤ n → n < length (first_sorts h.passive) + length (start_sorts h.q h.q.kind) → slice_get t.roles n ≡ Some Own
          own_at n low high =
              let e : length (first_sorts h.passive) + (n - length (first_sorts h.passive)) ≡ n = omega (arith, low) in
              sym (ap (slice_get t.roles) e) ∙ role_start (n - length (first_sorts h.passive)) (omega (arith, low, high))

      pub agrees_row : (b : ℕ → Value) → ((n : ℕ) → Why t (length (first_sorts h.passive)) front rest lasts n → b n ≡ settled_own n) → Follows b (length (first_sorts h.passive) + length (start_sorts h.q h.q.kind)) row
      agrees_row b agree = follows_by b (length (first_sorts h.passive) + length (start_sorts h.q h.q.kind)) row (λ j v is_v. agree (length (first_sorts h.passive) + length (start_sorts h.q h.q.kind) + j) (why j v is_v) ∙ own_row j v is_v)
