-- A block becomes terms: from the edges that lead in to those that are left.
use Rattle.flat_prog.specs.Sites.{numbers_from}
use Rattle.vc_gen.proofs.Numbers.{numbers_then}
use Rattle.std.proofs.Common.{◌≡◌, ℕ, zero, suc, ◌+◌, Bool, true, false, ◌&&◌, ◌||◌, List, [], ◌++◌, map, length, replicate, arith, sym, ◌∙◌, ap, refl, subst, append-nil, append_assoc, length-append}
use Rattle.std.specs.Prelude.{Option, Some, slice_get, if◌then◌else◌, IsTrue}
use Rattle.std.proofs.lemmas.List.{map-append}
use Rattle.hy_val.specs.Values.{at, is_on}
use Rattle.hy_val.specs.declared.sort.Sort.{Sort}
use Rattle.hy_val.specs.declared.value.Value.{Value}
use Rattle.hy_val.specs.declared.expr.Env.{Env}
use Rattle.hy_term.specs.TermSorts.{sort_at}
use Rattle.hy_term.specs.Meaning.{value, fits}
use Rattle.hy_term.specs.Variables.{reads}
use Rattle.hy_term.specs.declared.node.TermNode.{TermNode}
use Rattle.flat_prog.specs.declared.block.FlatBlock.{FlatBlock}
use Rattle.flat_prog.specs.declared.proc.FlatProc.{FlatProc}
use Rattle.passive_form.specs.Limited.{Limited}
use Rattle.passive_form.specs.Local.{alone, sorted_as, cmds_of}
use Rattle.flat_prog.specs.Local.{Result}
use Rattle.vc_gen.specs.Fold.{Edge, seen_at, reached, entered, others, out_next, step, choice_count}
use Rattle.vc_gen.specs.Breaking.{breaks, breaks_seen}
use Rattle.vc_gen.specs.Passages.{Passage, passages, passages_seen, targets_on, places_from}
use Rattle.vc_gen.proofs.Marks.{out_targets}
use Rattle.vc_gen.specs.Alike.{Alike}
use Rattle.vc_gen.specs.Emit.{SitesOf, SitesAsk, Stands, ItemsReady, Step, terms_of, site_value}
use Rattle.vc_gen.proofs.Asking.{block_asked, asked_later}
use Rattle.vc_gen.specs.Singly.{one_if}
use Rattle.vc_gen.proofs.Counting.{counted_later, step_counted}
use Rattle.vc_gen.proofs.Signing.{signed_later, cmds_signed}
use Rattle.passive_form.specs.declared.Item.{Item}
use Rattle.passive_form.specs.declared.PassiveBlock.{PassiveBlock}
use Rattle.passive_form.specs.Versions.{env_of, Defined, taken_values, taken_results}
use Rattle.flat_prog.specs.Program.{variables_of}
use Rattle.passive_form.specs.Making.{entry_cur, entry_count, items_all, cur_end, block_or, passive_block}
use Rattle.passive_form.specs.Laws.{cmds_there}
use Rattle.vc_gen.specs.declared.parts.Draft.{Draft}
use Rattle.vc_gen.specs.declared.parts.Wait.{Wait}
use Rattle.vc_gen.specs.declared.parts.EdgeTerm.{EdgeTerm}
use Rattle.vc_gen.specs.Exact.{edge_terms, EdgesThere, SameCalls}
use Rattle.vc_gen.specs.Standing.{Later, Plain, AreOf, variables_in}
use Rattle.vc_gen.specs.Items.{bool_sort, SiteMeans, made, chosen, inputs, sites_in}
use Rattle.vc_gen.specs.Inputs.{values_in, results_in, items_at, choices_at, given_at}
use Rattle.vc_gen.specs.Instance.{all_at, edge_at, edges_at}
use Rattle.vc_gen.specs.Joins.{WaitsOf}
use Rattle.vc_gen.specs.Edges.{env_at, picked}
use Rattle.vc_gen.specs.Entering.{met, met_env, kept, EnterReady, Entered}
use Rattle.vc_gen.specs.Fitting.{BlockFits, block_sorts}
use Rattle.vc_gen.specs.Flowing.{LeftBy, Stage, BlockReady, BlockSays, BlockDone}
use Rattle.vc_gen.proofs.Growth.{later_then, sort_later, are_later, are_append, are_count, map_later}
use Rattle.vc_gen.proofs.Joining.{fits_before, stands_then, sites_later, sites_stay, reads_append, length_reads, sorts_left, sorts_right, fails_stay}
use Rattle.vc_gen.proofs.Passes.{bit_later}
use Rattle.vc_gen.proofs.Calling.{span_values}
use Rattle.vc_gen.proofs.Fanning.{edges_later, of_later, all_later, of_append}
use Rattle.vc_gen.proofs.Arriving.{met_reached, met_entered, kept_others, kept_of, all_there}
use Rattle.vc_gen.proofs.Stepping.{vals_at, meant_at, values_read, results_read, block_step}
use Rattle.vc_gen.proofs.Failing.{broken, fails_or, off_broken}
use Rattle.vc_gen.proofs.Breakages.{breaks_is}
use Rattle.vc_gen.proofs.Outward.{are_terms}
use Rattle.vc_gen.proofs.Exacting.{edges_there, marks_are, off_calls, on_calls, placed_same}
use Rattle.vc_gen.specs.Taken.{true_values, values_on, values_seen, frees_in}
use Rattle.vc_gen.proofs.Taking.{values_later, values_stay}
use Rattle.vc_gen.proofs.Havocs.{off_frees, on_values}

-- ---- the fail bit of a block

same_env : (c g g' l l' : List Value) → g ≡ g' → l ≡ l' → ◌≡◌ {A = Env} (record { consts = c; globals = g; locals = l }) (record { consts = c; globals = g'; locals = l' })
same_env c g g' l l' p q = cc

off_or_on : (r : Bool) (f : Bool → Bool) (x : Bool) → f false ≡ false → (r ≡ true → f true ≡ x) → f r ≡ (r && x)
off_or_on true f x h k = k refl
off_or_on false f x h k = h

where_on : (r : Bool) (f : Bool → List Value) (x : List Value) → f false ≡ [] → (r ≡ true → f true ≡ x) → f r ≡ (if r then x else [])
where_on true f x h k = k refl
where_on false f x h k = h

module _ (flat : Limited) (q : FlatProc) (cs : List ℕ) (n : ℕ) (b : FlatBlock) (before new : List TermNode) (d e : Draft) (globals locals : List ℕ) (csorts : List Sort)
    (at_n : slice_get q.blocks n ≡ Some b) (there : cmds_there flat q b.cmds ≡ true)
    (versions : d.versions ≡ globals ++ locals) (c_are : AreOf before cs csorts) (g_are : AreOf before globals flat.globals) (l_are : AreOf before locals (variables_of q))
    (s : Step cs n before d (items_all flat q (entry_cur flat q) 0 (entry_count flat q) b.cmds) new e) where
  -- its items fail where it is reached and fails
  pub block_broken : (a : ℕ → Value) (dead : Env) (es : List Edge) → IsTrue (fits a new) → is_on (value a before d.cond) ≡ reached n es →
      (reached n es ≡ true → record { consts = all_at a before cs; globals = all_at a before globals; locals = all_at a before locals } ≡ entered n dead es) →
      broken (all_at a new cs) (vals_at a new e.versions) (is_on (value a before d.cond)) (items_all flat q (entry_cur flat q) 0 (entry_count flat q) b.cmds) ≡ breaks_seen flat q (seen_at dead (given_at flat q a d.next n) es)
  block_broken a dead es f on env =
      let items = items_all flat q (entry_cur flat q) 0 (entry_count flat q) b.cmds in
      let vals = vals_at a new e.versions in
      let consts = all_at a new cs in
      let m = meant_at a new cs e.versions in
      let says = s.says a consts vals f m in
      let here : items_at flat q n ≡ items = ap (λ (o : Option FlatBlock). items_all flat q (entry_cur flat q) 0 (entry_count flat q) (block_or o).cmds) at_n in
      let row : e.versions ≡ [] ++ (globals ++ (locals ++ s.more)) = s.versions ∙ ap (λ x. x ++ s.more) versions ∙ append_assoc globals locals s.more in
      let row2 : e.versions ≡ globals ++ (locals ++ s.more) = row in
      let ng = are_count before globals flat.globals g_are in
      let nl = are_count before locals (variables_of q) l_are in
      let g_is : map vals (entry_cur flat q).globals ≡ all_at a before globals =
      span_values a new e.versions vals m.each [] globals (locals ++ s.more) flat.globals 0 row refl ng ∙ map_later before new a globals flat.globals s.later g_are in
      let l_is : map vals (entry_cur flat q).locals ≡ all_at a before locals =
      span_values a new e.versions vals m.each globals locals s.more (variables_of q) (length flat.globals) row2 ng nl ∙ map_later before new a locals (variables_of q) s.later l_are in
      let c_is : consts ≡ all_at a before cs = map_later before new a cs csorts s.later c_are in
      let entry : reached n es ≡ true → env_of consts vals (entry_cur flat q) ≡ entered n dead es = λ y.
      ap (λ x. record { consts = x; globals = map vals (entry_cur flat q).globals; locals = map vals (entry_cur flat q).locals }) c_is
      ∙ same_env (all_at a before cs) (map vals (entry_cur flat q).globals) (all_at a before globals) (map vals (entry_cur flat q).locals) (all_at a before locals) g_is l_is ∙ env y in
      let chosen_is : reads a d.next (length (chosen (items_at flat q n))) ≡ inputs vals items = ap (λ i. reads a d.next (length (chosen i))) here ∙ sym says.inputs_are in
      let g = given_at flat q a d.next n in
      let v_is : taken_values vals items ++ [] ≡ g.values =
      append-nil (taken_values vals items) ∙ sym (ap (λ i. values_in i (reads a d.next (length (chosen (items_at flat q n))))) here ∙ ap (values_in items) chosen_is ∙ values_read vals items) in
      let r_is : taken_results vals items ++ [] ≡ g.results =
      append-nil (taken_results vals items) ∙ sym (ap (λ i. results_in i (reads a d.next (length (chosen (items_at flat q n))))) here ∙ ap (results_in items) chosen_is ∙ results_read vals items) in
      let cur = entry_cur flat q in
      let law = breaks_is flat q consts vals cur 0 (entry_count flat q) b.cmds [] [] [] there says.defined in
      let x = breaks flat q (cmds_of (slice_get q.blocks n)) (alone (entered n dead es) g.values g.results []) in
      let when_on : reached n es ≡ true → broken consts vals true items ≡ x = λ y.
      law
      ∙ ap (λ v. breaks flat q b.cmds (alone v (taken_values vals items ++ []) (taken_results vals items ++ []) [])) (entry y)
      ∙ ap (λ v. breaks flat q b.cmds (alone (entered n dead es) v (taken_results vals items ++ []) [])) v_is
      ∙ ap (λ v. breaks flat q b.cmds (alone (entered n dead es) g.values v [])) r_is
      ∙ ap (λ (o : Option FlatBlock). breaks flat q (cmds_of o) (alone (entered n dead es) g.values g.results [])) (sym at_n) in
      ap (λ y. broken consts vals y items) on ∙ off_or_on (reached n es) (λ y. broken consts vals y items) x (off_broken consts vals items) when_on

  pub block_breaks : (a : ℕ → Value) (dead : Env) (es : List Edge) → IsTrue (fits a new) → is_on (value a before d.cond) ≡ reached n es →
      (reached n es ≡ true → record { consts = all_at a before cs; globals = all_at a before globals; locals = all_at a before locals } ≡ entered n dead es) →
      is_on (value a new e.fails) ≡ (is_on (value a before d.fails) || breaks_seen flat q (seen_at dead (given_at flat q a d.next n) es))
  block_breaks a dead es f on env =
      let items = items_all flat q (entry_cur flat q) 0 (entry_count flat q) b.cmds in
      let vals = vals_at a new e.versions in
      let consts = all_at a new cs in
      let says = s.says a consts vals f (meant_at a new cs e.versions) in
      says.fails ∙ fails_or consts vals (is_on (value a before d.cond)) (is_on (value a before d.fails)) items ∙ ap (λ y. is_on (value a before d.fails) || y) (block_broken a dead es f on env)

module _ (flat : Limited) (q : FlatProc) (cs : List ℕ) (n : ℕ) (b : FlatBlock) (before new : List TermNode) (d e : Draft) (globals locals : List ℕ) (csorts : List Sort)
    (at_n : slice_get q.blocks n ≡ Some b) (there : cmds_there flat q b.cmds ≡ true)
    (versions : d.versions ≡ globals ++ locals) (c_are : AreOf before cs csorts) (g_are : AreOf before globals flat.globals) (l_are : AreOf before locals (variables_of q))
    (num : ℕ) (own : List Item) (own_is : own ≡ items_all flat q (entry_cur flat q) 0 (entry_count flat q) b.cmds) (s : Step cs num before d own new e) where
  pub block_calls : (a : ℕ → Value) (dead : Env) (es : List Edge) → IsTrue (fits a new) → is_on (value a before d.cond) ≡ reached n es →
      (reached n es ≡ true → record { consts = all_at a before cs; globals = all_at a before globals; locals = all_at a before locals } ≡ entered n dead es) →
      SameCalls (map (site_value a new) s.sites) (passages_seen flat q (seen_at dead (given_at flat q a d.next n) es))
  block_calls a dead es f on env =
      let items = items_all flat q (entry_cur flat q) 0 (entry_count flat q) b.cmds in
      let vals = vals_at a new e.versions in
      let consts = all_at a new cs in
      let m = meant_at a new cs e.versions in
      let says = s.says a consts vals f m in
      let defined : Defined consts vals items = subst (λ (xs : List Item). Defined consts vals xs) own_is says.defined in
      let here : items_at flat q n ≡ items = ap (λ (o : Option FlatBlock). items_all flat q (entry_cur flat q) 0 (entry_count flat q) (block_or o).cmds) at_n in
      let row : e.versions ≡ [] ++ (globals ++ (locals ++ s.more)) = s.versions ∙ ap (λ x. x ++ s.more) versions ∙ append_assoc globals locals s.more in
      let row2 : e.versions ≡ globals ++ (locals ++ s.more) = row in
      let ng = are_count before globals flat.globals g_are in
      let nl = are_count before locals (variables_of q) l_are in
      let g_is : map vals (entry_cur flat q).globals ≡ all_at a before globals =
      span_values a new e.versions vals m.each [] globals (locals ++ s.more) flat.globals 0 row refl ng ∙ map_later before new a globals flat.globals s.later g_are in
      let l_is : map vals (entry_cur flat q).locals ≡ all_at a before locals =
      span_values a new e.versions vals m.each globals locals s.more (variables_of q) (length flat.globals) row2 ng nl ∙ map_later before new a locals (variables_of q) s.later l_are in
      let c_is : consts ≡ all_at a before cs = map_later before new a cs csorts s.later c_are in
      let entry : reached n es ≡ true → env_of consts vals (entry_cur flat q) ≡ entered n dead es = λ y.
      ap (λ x. record { consts = x; globals = map vals (entry_cur flat q).globals; locals = map vals (entry_cur flat q).locals }) c_is
      ∙ same_env (all_at a before cs) (map vals (entry_cur flat q).globals) (all_at a before globals) (map vals (entry_cur flat q).locals) (all_at a before locals) g_is l_is ∙ env y in
      let says_inputs : inputs vals items ≡ reads a d.next (length (chosen items)) = sym (ap (inputs vals) own_is) ∙ says.inputs_are ∙ ap (λ xs. reads a d.next (length (chosen xs))) own_is in
      let chosen_is : reads a d.next (length (chosen (items_at flat q n))) ≡ inputs vals items = ap (λ i. reads a d.next (length (chosen i))) here ∙ sym says_inputs in
      let g = given_at flat q a d.next n in
      let v_is : taken_values vals items ++ [] ≡ g.values =
      append-nil (taken_values vals items) ∙ sym (ap (λ i. values_in i (reads a d.next (length (chosen (items_at flat q n))))) here ∙ ap (values_in items) chosen_is ∙ values_read vals items) in
      let r_is : taken_results vals items ++ [] ≡ g.results =
      append-nil (taken_results vals items) ∙ sym (ap (λ i. results_in i (reads a d.next (length (chosen (items_at flat q n))))) here ∙ ap (results_in items) chosen_is ∙ results_read vals items) in
      let cur = entry_cur flat q in
      let v = entered n dead es in
      let calls_are : map (site_value a new) s.sites ≡ sites_in consts vals (reached n es) items =
      says.sites_are ∙ ap (sites_in consts vals (is_on (value a before d.cond))) own_is ∙ ap (λ y. sites_in consts vals y items) on in
      let on_law : reached n es ≡ true → SameCalls (sites_in consts vals true items) (passages flat q b.cmds true (alone v g.values g.results [])) = λ y.
      subst (λ (x : List Result). SameCalls (sites_in consts vals true items) (passages flat q b.cmds true (alone v g.values x []))) r_is
      (subst (λ (x : List Value). SameCalls (sites_in consts vals true items) (passages flat q b.cmds true (alone v x (taken_results vals items ++ []) []))) v_is
      (subst (λ (x : Env). SameCalls (sites_in consts vals true items) (passages flat q b.cmds true (alone x (taken_values vals items ++ []) (taken_results vals items ++ []) []))) (entry y)
      (on_calls flat q consts vals cur 0 (entry_count flat q) b.cmds [] [] [] there defined))) in
      subst (λ (ms : List SiteMeans). SameCalls ms (passages_seen flat q (seen_at dead g es))) (sym calls_are)
      (subst (λ (x : Option FlatBlock). SameCalls (sites_in consts vals (reached n es) items) (passages flat q (cmds_of x) (reached n es) (alone v g.values g.results []))) (sym at_n)
      (by (reached n es) (sites_in consts vals true items) (sites_in consts vals false items) (λ y. passages flat q b.cmds y (alone v g.values g.results [])) (λ y. sites_in consts vals y items) refl refl on_law
      (off_calls flat q consts vals cur 0 (entry_count flat q) b.cmds (alone v g.values g.results []))))
    where
      by : (r : Bool) (x y : List SiteMeans) (ps : Bool → List Passage) (ms : Bool → List SiteMeans) → ms true ≡ x → ms false ≡ y → (r ≡ true → SameCalls x (ps true)) → SameCalls y (ps false) → SameCalls (ms r) (ps r)
      by true x y ps ms p k h off = subst (λ (z : List SiteMeans). SameCalls z (ps true)) (sym p) (h refl)
      by false x y ps ms p k h off = subst (λ (z : List SiteMeans). SameCalls z (ps false)) (sym k) off

  pub block_values : (a : ℕ → Value) (dead : Env) (es : List Edge) → IsTrue (fits a new) → is_on (value a before d.cond) ≡ reached n es →
      (reached n es ≡ true → record { consts = all_at a before cs; globals = all_at a before globals; locals = all_at a before locals } ≡ entered n dead es) →
      true_values a new s.values ≡ values_seen flat q (seen_at dead (given_at flat q a d.next n) es)
  block_values a dead es f on env =
      let items = items_all flat q (entry_cur flat q) 0 (entry_count flat q) b.cmds in
      let vals = vals_at a new e.versions in
      let consts = all_at a new cs in
      let m = meant_at a new cs e.versions in
      let says = s.says a consts vals f m in
      let defined : Defined consts vals items = subst (λ (xs : List Item). Defined consts vals xs) own_is says.defined in
      let here : items_at flat q n ≡ items = ap (λ (o : Option FlatBlock). items_all flat q (entry_cur flat q) 0 (entry_count flat q) (block_or o).cmds) at_n in
      let row : e.versions ≡ [] ++ (globals ++ (locals ++ s.more)) = s.versions ∙ ap (λ x. x ++ s.more) versions ∙ append_assoc globals locals s.more in
      let row2 : e.versions ≡ globals ++ (locals ++ s.more) = row in
      let ng = are_count before globals flat.globals g_are in
      let nl = are_count before locals (variables_of q) l_are in
      let g_is : map vals (entry_cur flat q).globals ≡ all_at a before globals =
      span_values a new e.versions vals m.each [] globals (locals ++ s.more) flat.globals 0 row refl ng ∙ map_later before new a globals flat.globals s.later g_are in
      let l_is : map vals (entry_cur flat q).locals ≡ all_at a before locals =
      span_values a new e.versions vals m.each globals locals s.more (variables_of q) (length flat.globals) row2 ng nl ∙ map_later before new a locals (variables_of q) s.later l_are in
      let c_is : consts ≡ all_at a before cs = map_later before new a cs csorts s.later c_are in
      let entry : reached n es ≡ true → env_of consts vals (entry_cur flat q) ≡ entered n dead es = λ y.
      ap (λ x. record { consts = x; globals = map vals (entry_cur flat q).globals; locals = map vals (entry_cur flat q).locals }) c_is
      ∙ same_env (all_at a before cs) (map vals (entry_cur flat q).globals) (all_at a before globals) (map vals (entry_cur flat q).locals) (all_at a before locals) g_is l_is ∙ env y in
      let says_inputs : inputs vals items ≡ reads a d.next (length (chosen items)) = sym (ap (inputs vals) own_is) ∙ says.inputs_are ∙ ap (λ xs. reads a d.next (length (chosen xs))) own_is in
      let chosen_is : reads a d.next (length (chosen (items_at flat q n))) ≡ inputs vals items = ap (λ i. reads a d.next (length (chosen i))) here ∙ sym says_inputs in
      let g = given_at flat q a d.next n in
      let v_is : taken_values vals items ++ [] ≡ g.values =
      append-nil (taken_values vals items) ∙ sym (ap (λ i. values_in i (reads a d.next (length (chosen (items_at flat q n))))) here ∙ ap (values_in items) chosen_is ∙ values_read vals items) in
      let r_is : taken_results vals items ++ [] ≡ g.results =
      append-nil (taken_results vals items) ∙ sym (ap (λ i. results_in i (reads a d.next (length (chosen (items_at flat q n))))) here ∙ ap (results_in items) chosen_is ∙ results_read vals items) in
      let cur = entry_cur flat q in
      let v = entered n dead es in
      let values_are : true_values a new s.values ≡ frees_in consts vals (reached n es) items =
      s.taken a consts vals f m ∙ ap (frees_in consts vals (is_on (value a before d.cond))) own_is ∙ ap (λ y. frees_in consts vals y items) on in
      let on_law : reached n es ≡ true → frees_in consts vals true items ≡ values_on flat q (cmds_of (slice_get q.blocks n)) (alone v g.values g.results []) = λ y.
      on_values flat q consts vals cur 0 (entry_count flat q) b.cmds [] [] [] there defined
      ∙ ap (λ x. values_on flat q b.cmds (alone x (taken_values vals items ++ []) (taken_results vals items ++ []) [])) (entry y)
      ∙ ap (λ x. values_on flat q b.cmds (alone v x (taken_results vals items ++ []) [])) v_is
      ∙ ap (λ x. values_on flat q b.cmds (alone v g.values x [])) r_is
      ∙ ap (λ (o : Option FlatBlock). values_on flat q (cmds_of o) (alone v g.values g.results [])) (sym at_n) in
      values_are ∙ where_on (reached n es) (λ y. frees_in consts vals y items) (values_on flat q (cmds_of (slice_get q.blocks n)) (alone v g.values g.results [])) (off_frees consts vals items) on_law

-- ---- the parts of a block together

pub enter_ready : (csorts gsorts lsorts : List Sort) (nodes : List TermNode) (cs : List ℕ) (spare : Wait) (d : Draft) (waits : List Wait) → Stage csorts gsorts lsorts nodes cs spare d waits → EnterReady nodes spare waits
enter_ready csorts gsorts lsorts nodes cs spare d waits h = record { gs = gsorts; ls = lsorts; sound = h.sound; spare_of = h.spare_of; spare_off = h.spare_off; waits_of = h.waits_of }

-- the draft at the start of a block
abbrev pub at_entry : Draft → Wait → Draft
at_entry d entry = record d { versions = entry.globals ++ entry.locals; cond = entry.live; calls = 0 }

entry_stands : (csorts gsorts lsorts : List Sort) (old mid : List TermNode) (cs : List ℕ) (spare : Wait) (d : Draft) (waits : List Wait) (goal : Option ℕ) (entry : Wait) →
    Stage csorts gsorts lsorts old cs spare d waits → Later old mid → Plain old mid → Entered old spare waits goal mid entry → Stands mid cs (at_entry d entry) csorts (gsorts ++ lsorts)
entry_stands csorts gsorts lsorts old mid cs spare d waits goal entry h l p n =
    let w = n.are gsorts lsorts h.spare_of h.waits_of in
    record {
      sound = l.sound;
      consts = are_later old mid cs csorts l h.consts;
      versions = are_append mid entry.globals entry.locals gsorts lsorts w.globals w.locals;
      cond = w.live;
      fails = sort_later old mid d.fails bool_sort l h.fails;
      next = p.below d.next h.below;
    }

pub items_ready : (old mid : List TermNode) (cs : List ℕ) (spare : Wait) (d : Draft) (waits : List Wait) (block : PassiveBlock) (goal : Option ℕ) (entry : Wait) → (r : BlockReady old cs spare d waits block) →
    Later old mid → Plain old mid → Entered old spare waits goal mid entry → ItemsReady mid cs (at_entry d entry) block.items
items_ready old mid cs spare d waits block goal entry r l p n = record {
  csorts = r.csorts;
  vsorts = r.gsorts ++ r.lsorts;
  stands = entry_stands r.csorts r.gsorts r.lsorts old mid cs spare d waits goal entry r.stage l p n;
  fit = r.fit.items;
}

-- all that is known when the items have become terms
pub record Inside (csorts gsorts lsorts : List Sort) (old mid new : List TermNode) (cs : List ℕ) (spare : Wait) (d e : Draft) (waits : List Wait) (block : PassiveBlock) : Type 0 where
  pub stands : Stands new cs e csorts ((gsorts ++ lsorts) ++ made block.items)
  pub globals : AreOf new (terms_of e.versions block.globals) gsorts
  pub locals : AreOf new (terms_of e.versions block.locals) lsorts

pub inside : (csorts gsorts lsorts : List Sort) (old mid new : List TermNode) (cs : List ℕ) (spare : Wait) (d e : Draft) (waits : List Wait) (block : PassiveBlock) (goal : Option ℕ) (entry : Wait) →
    Stage csorts gsorts lsorts old cs spare d waits → BlockFits csorts gsorts lsorts block →
    Later old mid → Plain old mid → Entered old spare waits goal mid entry → Step cs block.number mid (at_entry d entry) block.items new e → Inside csorts gsorts lsorts old mid new cs spare d e waits block
inside csorts gsorts lsorts old mid new cs spare d e waits block goal entry h fit l p n s =
    let st = stands_then cs block.number mid new (at_entry d entry) e csorts (gsorts ++ lsorts) block.items (entry_stands csorts gsorts lsorts old mid cs spare d waits goal entry h l p n) s in
    record {
      stands = st;
      globals = are_terms new e.versions ((gsorts ++ lsorts) ++ made block.items) block.globals gsorts st.versions fit.globals;
      locals = are_terms new e.versions ((gsorts ++ lsorts) ++ made block.items) block.locals lsorts st.versions fit.locals;
    }

pub inside_of : (old mid new : List TermNode) (cs : List ℕ) (spare : Wait) (d e : Draft) (waits : List Wait) (block : PassiveBlock) (goal : Option ℕ) (entry : Wait) → (r : BlockReady old cs spare d waits block) →
    Later old mid → Plain old mid → Entered old spare waits goal mid entry → Step cs block.number mid (at_entry d entry) block.items new e → Inside r.csorts r.gsorts r.lsorts old mid new cs spare d e waits block
inside_of old mid new cs spare d e waits block goal entry r l p n s = inside r.csorts r.gsorts r.lsorts old mid new cs spare d e waits block goal entry r.stage r.fit l p n s

picked_later : (a : ℕ → Value) (k n m : ℕ) → n ≡ m → picked a k n ≡ picked a k m
picked_later a k n m h = ap (picked a k) h

length_replicate : (i : ℕ) → length (replicate i bool_sort) ≡ i
length_replicate zero = refl
length_replicate (suc i) = ap suc (length_replicate i)

module _ (cs : List ℕ) (spare : Wait) (old mid low new : List TermNode) (d e g : Draft) (waits out left : List Wait) (edges edges' : List EdgeTerm) (block : PassiveBlock) (entry : Wait)
    (l1 : Later old mid) (p1 : Plain old mid) (n : Entered old spare waits (Some block.number) mid entry)
    (s : Step cs block.number mid (at_entry d entry) block.items low e)
    (o : LeftBy low e block.next (terms_of e.versions block.globals) (terms_of e.versions block.locals) [] new g out)
    (left_eq : left ≡ kept (Some block.number) waits ++ out) (marks_eq : edges' ≡ edges ++ edge_terms block.number 0 out) where
  -- all that wait behind the block
  left_all : left ≡ kept (Some block.number) waits ++ o.more
  left_all = left_eq ∙ ap (λ x. kept (Some block.number) waits ++ x) o.waits_are

  l13 : Later old new
  l13 = later_then old mid new l1 (later_then mid low new s.later o.later)

  stage_next : (csorts gsorts lsorts : List Sort) → Stage csorts gsorts lsorts old cs spare d waits → BlockFits csorts gsorts lsorts block → Stage csorts gsorts lsorts new cs spare g left
  stage_next csorts gsorts lsorts h fit =
      let i = inside csorts gsorts lsorts old mid low cs spare d e waits block (Some block.number) entry h fit l1 p1 n s in
      record {
        sound = o.later.sound;
        consts = are_later old new cs csorts l13 h.consts;
        spare_of = of_later old new gsorts lsorts spare l13 h.spare_of;
        spare_off = λ a. bit_later old new a spare.live l13 h.spare_of.live ∙ h.spare_off a;
        waits_of = subst (λ (ws : List Wait). WaitsOf new gsorts lsorts ws) (sym left_all)
            (of_append new gsorts lsorts (kept (Some block.number) waits) o.more (all_later old new gsorts lsorts (kept (Some block.number) waits) l13 (kept_of old gsorts lsorts (Some block.number) waits h.waits_of))
            (o.of gsorts lsorts i.globals i.locals));
        fails = subst (λ (x : ℕ). sort_at new x ≡ Some bool_sort) (sym (ap (λ (x : Draft). x.fails) o.frame)) (sort_later low new e.fails bool_sort o.later s.fails);
        below = o.below;
      }

  block_says : (flat : Limited) (q : FlatProc) (m : ℕ) (b : FlatBlock) → slice_get q.blocks m ≡ Some b → cmds_there flat q b.cmds ≡ true → block ≡ passive_block flat q m b →
      Stage flat.consts flat.globals (variables_of q) old cs spare d waits → BlockSays flat q m cs old d waits new g left (edge_terms block.number 0 out) s.sites s.asserts s.values
  block_says flat q m b at there is h =
      let items = items_all flat q (entry_cur flat q) 0 (entry_count flat q) b.cmds in
      let leave = cur_end flat (entry_cur flat q) (entry_count flat q) b.cmds in
      let w = n.are flat.globals (variables_of q) h.spare_of h.waits_of in
      let number_is : block.number ≡ m = ap (λ (x : PassiveBlock). x.number) is in
      let st : Step cs m mid (at_entry d entry) items low e =
      subst (λ (x : PassiveBlock). Step cs x.number mid (at_entry d entry) x.items low e) is s in
      let left_is : left ≡ kept (Some m) waits ++ o.more = left_all ∙ ap (λ x. kept (Some x) waits ++ o.more) number_is in
      let c_mid = are_later old mid cs flat.consts l1 h.consts in
      let l23 = later_then mid low new s.later o.later in
      let ws_there = all_there old flat.globals (variables_of q) waits h.waits_of in
      let kept_there = all_there old flat.globals (variables_of q) (kept (Some m) waits) (kept_of old flat.globals (variables_of q) (Some m) waits h.waits_of) in
      let es = λ (a : ℕ → Value). edges_at a old (all_at a old cs) waits in
      let c_new : (a : ℕ → Value) → all_at a new cs ≡ all_at a old cs = λ a. map_later old new a cs flat.consts l13 h.consts in
      let on_is : (a : ℕ → Value) → IsTrue (fits a new) → is_on (value a mid entry.live) ≡ reached m (es a) = λ a f.
      n.live_is a (all_at a old cs) (fits_before a mid new l23 f) ∙ ap (λ x. met (Some x) (es a)) number_is ∙ met_reached m (es a) in
      let env_is : (a : ℕ → Value) (dead : Env) → IsTrue (fits a new) → reached m (es a) ≡ true →
      record { consts = all_at a mid cs; globals = all_at a mid entry.globals; locals = all_at a mid entry.locals } ≡ entered m dead (es a) = λ a dead f r.
      ap (λ (x : List Value). record { consts = x; globals = all_at a mid entry.globals; locals = all_at a mid entry.locals }) (map_later old mid a cs flat.consts l1 h.consts)
      ∙ n.env_is a (all_at a old cs) dead (fits_before a mid new l23 f) (ap (λ x. met (Some x) (es a)) number_is ∙ met_reached m (es a) ∙ r)
      ∙ ap (λ x. met_env (Some x) dead (es a)) number_is ∙ met_entered m dead (es a) in
      let alike_both : (a : ℕ → Value) (dead : Env) → IsTrue (fits a new) → Alike (others m (es a) ++ edges_at a new (all_at a new cs) o.more) (step flat q dead (given_at flat q a d.next m) (es a)) = λ a dead f.
      let law = block_step flat q cs m b mid low (at_entry d entry) e entry.globals entry.locals flat.consts at there refl c_mid w.globals w.locals st a dead (es a) (fits_before a low new o.later f) (on_is a f) (env_is a dead f) in
      let consts = all_at a low cs in
      let c_low : all_at a new cs ≡ consts = map_later low new a cs flat.consts o.later (are_later mid low cs flat.consts s.later c_mid) in
      let k = choice_count block.next in
      let next_is : block.next ≡ b.next = ap (λ (x : PassiveBlock). x.next) is in
      let count : k ≡ choices_at q m = ap (λ (x : PassiveBlock). choice_count x.next) is ∙ ap (λ (x : Option FlatBlock). choice_count (block_or x).next) (sym at) in
      let place : e.next ≡ d.next + length (chosen (items_at flat q m)) =
      st.next ∙ ap (λ (x : Option FlatBlock). d.next + length (chosen (items_all flat q (entry_cur flat q) 0 (entry_count flat q) (block_or x).cmds))) (sym at) in
      let out_is : edges_at a new consts o.more ≡ out_next b.next (is_on (value a low e.cond)) (record { consts = consts; globals = all_at a low (terms_of e.versions leave.globals); locals = all_at a low (terms_of e.versions leave.locals) })
      (picked a (d.next + length (chosen (items_at flat q m))) (choices_at q m)) =
      o.says a consts f
      ∙ ap (λ (x : PassiveBlock). out_next x.next (is_on (value a low e.cond)) (env_at a low consts (terms_of e.versions x.globals) (terms_of e.versions x.locals)) (picked a e.next k)) is
      ∙ ap (λ x. out_next b.next (is_on (value a low e.cond)) (env_at a low consts (terms_of e.versions leave.globals) (terms_of e.versions leave.locals)) (picked a e.next x)) count
      ∙ ap (λ x. out_next b.next (is_on (value a low e.cond)) (env_at a low consts (terms_of e.versions leave.globals) (terms_of e.versions leave.locals)) (picked a x (choices_at q m))) place in
      subst (λ (x : List Edge). Alike (others m (es a) ++ x) (step flat q dead (given_at flat q a d.next m) (es a))) (sym (ap (λ x. edges_at a new x o.more) c_low ∙ out_is)) law in
      let calls_same : (a : ℕ → Value) (dead : Env) → IsTrue (fits a new) → SameCalls (map (site_value a new) s.sites) (passages_seen flat q (seen_at dead (given_at flat q a d.next m) (es a))) = λ a dead f.
      subst (λ (ms : List SiteMeans). SameCalls ms (passages_seen flat q (seen_at dead (given_at flat q a d.next m) (es a)))) (sym (sites_later low new a s.sites o.later s.sites_there))
      (block_calls flat q cs m b mid low (at_entry d entry) e entry.globals entry.locals flat.consts at there refl c_mid w.globals w.locals block.number block.items (ap (λ (x : PassiveBlock). x.items) is) s a dead (es a) (fits_before a low new o.later f) (on_is a f) (env_is a dead f)) in
      record {
        alike = λ a dead f.
            let all : edges_at a new (all_at a new cs) left ≡ others m (es a) ++ edges_at a new (all_at a new cs) o.more =
            ap (edges_at a new (all_at a new cs)) left_is
            ∙ map-append (edge_at a new (all_at a new cs)) (kept (Some m) waits) o.more
            ∙ ap (λ x. edges_at a new x (kept (Some m) waits) ++ edges_at a new (all_at a new cs) o.more) (c_new a)
            ∙ ap (λ x. x ++ edges_at a new (all_at a new cs) o.more) (edges_later old new a (all_at a old cs) (kept (Some m) waits) l13 kept_there ∙ kept_others a old (all_at a old cs) m waits) in
            subst (λ (x : List Edge). Alike x (step flat q dead (given_at flat q a d.next m) (es a))) (sym all) (alike_both a dead f);
        edges = λ a dead f.
            marks_are a new (all_at a new cs) block.number 0 out
            ∙ ap (λ x. targets_on x 0 (edges_at a new (all_at a new cs) out)) number_is
            ∙ ap (λ x. targets_on m 0 (edges_at a new (all_at a new cs) x)) o.waits_are
            ∙ out_targets flat q dead (given_at flat q a d.next m) (es a) (edges_at a new (all_at a new cs) o.more) b at (alike_both a dead f);
        calls = calls_same;
        places = λ a dead f. placed_same a new m 0 s.sites (passages_seen flat q (seen_at dead (given_at flat q a d.next m) (es a))) (s.numbered ∙ ap (λ x. places_from x 0 (length s.sites)) number_is) (calls_same a dead f);
        values = λ a dead f.
            values_later low new a s.values o.later s.values_there
            ∙ block_values flat q cs m b mid low (at_entry d entry) e entry.globals entry.locals flat.consts at there refl c_mid w.globals w.locals block.number block.items (ap (λ (x : PassiveBlock). x.items) is) s a dead (es a) (fits_before a low new o.later f) (on_is a f) (env_is a dead f);
        signed = signed_later flat low new s.sites o.later (cmds_signed flat q (entry_cur flat q) 0 (entry_count flat q) b.cmds low s.sites (subst (λ (x : PassiveBlock). SitesOf low x.items s.sites) is s.sites_of));
        single = λ a dead f.
            let f1 = fits_before a low new o.later f in
            counted_later low new a s.asserts s.sites o.later s.asserts_there s.sites_there ∙ step_counted cs block.number mid low (at_entry d entry) e block.items s a f1
            ∙ ap (λ (x : PassiveBlock). one_if (broken (all_at a low cs) (vals_at a low e.versions) (is_on (value a mid entry.live)) x.items)) is
            ∙ ap one_if (block_broken flat q cs m b mid low (at_entry d entry) e entry.globals entry.locals flat.consts at there refl c_mid w.globals w.locals st a dead (es a) f1 (on_is a f) (env_is a dead f));
        asked = λ sorted.
            asked_later flat low new s.sites o.later
            (block_asked flat q b.cmds low s.sites sorted.globals (sorted.blocks m b at).0
            (subst (λ (x : PassiveBlock). SitesAsk low (flat.globals ++ variables_of q) x.items s.sites) is
            (s.asked flat.consts (flat.globals ++ variables_of q) (entry_stands flat.consts flat.globals (variables_of q) old mid cs spare d waits (Some block.number) entry h l1 p1 n))));
        fails = λ a dead f.
            let f1 = fits_before a low new o.later f in
            bit_fails a
            ∙ block_breaks flat q cs m b mid low (at_entry d entry) e entry.globals entry.locals flat.consts at there refl c_mid w.globals w.locals st a dead (es a) f1 (on_is a f) (env_is a dead f)
            ∙ ap (λ x. x || breaks_seen flat q (seen_at dead (given_at flat q a d.next m) (es a))) (bit_later old mid a d.fails l1 h.fails);
      }
    where
      bit_fails : (a : ℕ → Value) → is_on (value a new g.fails) ≡ is_on (value a low e.fails)
      bit_fails a = ap (λ (x : Draft). is_on (value a new x.fails)) o.frame ∙ bit_later low new a e.fails o.later s.fails

  pub block_done : BlockReady old cs spare d waits block → BlockDone cs spare old d waits edges block new g edges' left
  block_done r =
      let i = inside_of old mid low cs spare d e waits block (Some block.number) entry r l1 p1 n s in
      let marks_of : EdgesThere new (edge_terms block.number 0 out) =
      subst (λ (ws : List Wait). EdgesThere new (edge_terms block.number 0 ws)) (sym o.waits_are) (edges_there new r.gsorts r.lsorts block.number 0 o.more (o.of r.gsorts r.lsorts i.globals i.locals)) in
      let k = choice_count block.next in
      let c = length (chosen block.items) in
      let total : length (block_sorts block) ≡ c + k = length-append (chosen block.items) (replicate k bool_sort) ∙ ap (λ x. c + x) (length_replicate k) in
      record {
        later = l13;
        marks = edge_terms block.number 0 out;
        marks_are = marks_eq;
        marks_there = marks_of;
        sites = s.sites;
        sites_are = ap (λ (x : Draft). x.sites) o.frame ∙ s.sites_behind;
        sites_there = sites_stay low new s.sites o.later s.sites_there;
        laid = s.laid;
        asserts = s.asserts;
        asserts_are = ap (λ (x : Draft). x.asserts) o.frame ∙ s.asserts_behind;
        asserts_there = fails_stay low new s.asserts o.later s.asserts_there;
        vals = s.values;
        vals_are = ap (λ (x : Draft). x.values) o.frame ∙ s.values_behind;
        vals_there = values_stay low new s.values o.later s.values_there;
        checked = s.checked;
        next = omega (arith, o.next_is, s.next, total);
        numbers = numbers_then (variables_in old) (variables_in low) (variables_in new) d.next e.next c k (length (block_sorts block)) (s.variables ∙ ap (λ r. r ++ numbers_from d.next c) p1.numbers) s.next o.numbers total;
        fit = λ a f h.
            let split : reads a d.next (length (block_sorts block)) ≡ reads a d.next c ++ reads a e.next k =
            ap (reads a d.next) total ∙ reads_append a d.next c k ∙ ap (λ x. reads a d.next c ++ reads a x k) (sym s.next) in
            let h2 : sorted_as (chosen block.items ++ replicate k bool_sort) (reads a d.next c ++ reads a e.next k) ≡ true = ap (sorted_as (block_sorts block)) (sym split) ∙ h in
            let len = length_reads a d.next c in
            o.fit a (s.fit a (p1.fit a f) (sorts_left (chosen block.items) (replicate k bool_sort) (reads a d.next c) (reads a e.next k) len h2))
            (sorts_right (chosen block.items) (replicate k bool_sort) (reads a d.next c) (reads a e.next k) len h2);
        stage = stage_next;
        says = block_says;
      }
