-- A block's terms, under an assignment, do with the waiting edges what the block does.
use Rattle.std.proofs.Common.{◌≡◌, ℕ, zero, suc, ◌+◌, Bool, true, false, not, ◌&&◌, List, [], ◌∷◌, ◌++◌, map, length, take, drop, arith, sym, ◌∙◌, ap, refl, subst, append_assoc, length-append}
use Rattle.std.specs.Prelude.{Option, Some, slice_get, slice_index, if◌then◌else◌, IsTrue}
use Rattle.std.proofs.lemmas.List.{length-map}
use Rattle.hy_val.specs.Exprs.{eval_by}
use Rattle.hy_val.specs.Values.{is_on}
use Rattle.hy_val.specs.declared.sort.Sort.{Sort}
use Rattle.hy_val.specs.declared.value.Value.{Value}
use Rattle.hy_val.specs.declared.expr.Env.{Env}
use Rattle.hy_term.specs.Meaning.{value, fits}
use Rattle.hy_term.specs.Variables.{reads}
use Rattle.hy_term.specs.declared.node.TermNode.{TermNode}
use Rattle.flat_prog.specs.declared.block.FlatBlock.{FlatBlock}
use Rattle.flat_prog.specs.declared.proc.FlatProc.{FlatProc}
use Rattle.passive_form.specs.Limited.{Limited}
use Rattle.flat_prog.specs.Local.{Result, Ended, Broken}
use Rattle.vc_gen.specs.Fold.{Edge, Given, reached, entered, others, out_next, step}
use Rattle.vc_gen.specs.Alike.{Alike}
use Rattle.passive_form.specs.declared.Item.{Item}
use Rattle.passive_form.specs.declared.Item.TheVariants.{Let, Zero, Free, Need, Check, Site}
use Rattle.passive_form.specs.Versions.{look_at, env_of, from, outs_from, after_from, hold, taken_values, site_result, taken_results}
use Rattle.flat_prog.specs.Program.{variables_of}
use Rattle.passive_form.specs.Making.{entry_cur, entry_count, items_all, cur_end, block_or}
use Rattle.passive_form.specs.Laws.{cmds_there}
use Rattle.vc_gen.proofs.BlockLaws.{given_by, block_law}
use Rattle.vc_gen.specs.declared.parts.Draft.{Draft}
use Rattle.vc_gen.specs.Standing.{AreOf}
use Rattle.vc_gen.specs.Items.{bool_sort, chosen, inputs, on_end}
use Rattle.vc_gen.specs.Emit.{Meant, Step, terms_of}
use Rattle.vc_gen.specs.Inputs.{values_in, result_in, results_in, items_at, choices_at, given_at}
use Rattle.vc_gen.specs.Instance.{all_at}
use Rattle.vc_gen.proofs.Growth.{are_count, map_later}
use Rattle.vc_gen.proofs.Calling.{span_values}
use Rattle.vc_gen.proofs.Shapes.{take_front, drop_front}

-- ---- what items take is read off what is chosen

length_from : (k : ℕ) (ss : List Sort) → length (from k ss) ≡ length ss
length_from k [] = refl
length_from k (s ∷ ss) = ap suc (length_from (k + 1) ss)

site_count : (vals : ℕ → Value) (f : ℕ) (outs after : List Sort) → length (vals f ∷ (map vals (outs_from f outs) ++ map vals (after_from f outs after))) ≡ length (bool_sort ∷ (outs ++ after))
site_count vals f outs after =
    omega (
      arith,
      length-append (map vals (outs_from f outs)) (map vals (after_from f outs after)),
      length-append outs after,
      length-map (outs_from f outs) vals,
      length-map (after_from f outs after) vals,
      length_from (f + 1) outs,
      length_from (f + 1 + length outs) after,
    )

pub values_read : (vals : ℕ → Value) (items : List Item) → values_in items (inputs vals items) ≡ taken_values vals items
values_read vals [] = refl
values_read vals (Let v e ∷ items) = values_read vals items
values_read vals (Zero v s ∷ items) = values_read vals items
values_read vals (Free v s ∷ items) = ap (λ r. vals v ∷ r) (values_read vals items)
values_read vals (Need e ∷ items) = values_read vals items
values_read vals (Check p e ∷ items) = values_read vals items
values_read vals (Site p f args before outs changes after ∷ items) =
    ap (values_in items) (drop_front (vals f ∷ (map vals (outs_from f outs) ++ map vals (after_from f outs after))) (inputs vals items) (length (bool_sort ∷ (outs ++ after))) (site_count vals f outs after))
    ∙ values_read vals items

site_read : (vals : ℕ → Value) (f : ℕ) (outs after : List Sort) (more : List Value) →
    result_in outs after (vals f ∷ ((map vals (outs_from f outs) ++ map vals (after_from f outs after)) ++ more)) ≡ site_result vals f outs after
site_read vals f outs after more =
    let os = map vals (outs_from f outs) in
    let gs = map vals (after_from f outs after) in
    let n : length os ≡ length outs = length-map (outs_from f outs) vals ∙ length_from (f + 1) outs in
    let m : length gs ≡ length after = length-map (after_from f outs after) vals ∙ length_from (f + 1 + length outs) after in
    ap (λ x. if is_on (vals f) then Broken 0 0 else Ended x (take (length after) (drop (length outs) ((os ++ gs) ++ more)))) (ap (take (length outs)) (append_assoc os gs more) ∙ take_front os (gs ++ more) (length outs) n)
    ∙ ap (λ x. if is_on (vals f) then Broken 0 0 else Ended os x)
    (ap (λ z. take (length after) (drop (length outs) z)) (append_assoc os gs more) ∙ ap (take (length after)) (drop_front os (gs ++ more) (length outs) n) ∙ take_front gs more (length after) m)

pub results_read : (vals : ℕ → Value) (items : List Item) → results_in items (inputs vals items) ≡ taken_results vals items
results_read vals [] = refl
results_read vals (Let v e ∷ items) = results_read vals items
results_read vals (Zero v s ∷ items) = results_read vals items
results_read vals (Free v s ∷ items) = results_read vals items
results_read vals (Need e ∷ items) = results_read vals items
results_read vals (Check p e ∷ items) = results_read vals items
results_read vals (Site p f args before outs changes after ∷ items) =
    ap (λ x. x ∷ results_in items (drop (length (bool_sort ∷ (outs ++ after))) ((vals f ∷ (map vals (outs_from f outs) ++ map vals (after_from f outs after))) ++ inputs vals items))) (site_read vals f outs after (inputs vals items))
    ∙ ap (λ x. site_result vals f outs after ∷ results_in items x)
    (drop_front (vals f ∷ (map vals (outs_from f outs) ++ map vals (after_from f outs after))) (inputs vals items) (length (bool_sort ∷ (outs ++ after))) (site_count vals f outs after))
    ∙ ap (λ x. site_result vals f outs after ∷ x) (results_read vals items)

-- ---- the bit behind the items

and_true : (b : Bool) → b ≡ (b && true)
and_true true = refl
and_true false = refl

and_assoc : (a b c : Bool) → ((a && b) && c) ≡ (a && (b && c))
and_assoc true b c = refl
and_assoc false b c = refl

pub on_is : (consts : List Value) (vals : ℕ → Value) (on : Bool) (items : List Item) → on_end consts vals on items ≡ (on && hold consts vals items)
on_is consts vals on [] = and_true on
on_is consts vals on (Let v e ∷ items) = on_is consts vals on items
on_is consts vals on (Zero v s ∷ items) = on_is consts vals on items
on_is consts vals on (Free v s ∷ items) = on_is consts vals on items
on_is consts vals on (Need e ∷ items) = on_is consts vals (on && is_on (eval_by (look_at consts vals) e)) items ∙ and_assoc on (is_on (eval_by (look_at consts vals) e)) (hold consts vals items)
on_is consts vals on (Check p e ∷ items) = on_is consts vals (on && is_on (eval_by (look_at consts vals) e)) items ∙ and_assoc on (is_on (eval_by (look_at consts vals) e)) (hold consts vals items)
on_is consts vals on (Site p f args before outs changes after ∷ items) = on_is consts vals (on && not (is_on (vals f))) items ∙ and_assoc on (not (is_on (vals f))) (hold consts vals items)

-- ---- the versions' values are their terms'

abbrev pub vals_at : (ℕ → Value) → List TermNode → List ℕ → ℕ → Value
vals_at a nodes versions v = value a nodes (slice_index versions v)

index_is : (xs : List ℕ) (v t : ℕ) → slice_get xs v ≡ Some t → slice_index xs v ≡ t
index_is [] v t h = cc
index_is (x ∷ xs) zero t h = cc
index_is (x ∷ xs) (suc v) t h = index_is xs v t h

pub meant_at : (a : ℕ → Value) (nodes : List TermNode) (cs versions : List ℕ) → Meant a nodes cs versions (all_at a nodes cs) (vals_at a nodes versions)
meant_at a nodes cs versions = record { consts_are = refl; each = λ v t h. ap (value a nodes) (index_is versions v t h) }

pub terms_are : (a : ℕ → Value) (nodes : List TermNode) (versions vs : List ℕ) → all_at a nodes (terms_of versions vs) ≡ map (vals_at a nodes versions) vs
terms_are a nodes versions [] = refl
terms_are a nodes versions (v ∷ vs) = ap (λ r. vals_at a nodes versions v ∷ r) (terms_are a nodes versions vs)

same_env : (c g g' l l' : List Value) → g ≡ g' → l ≡ l' → ◌≡◌ {A = Env} (record { consts = c; globals = g; locals = l }) (record { consts = c; globals = g'; locals = l' })
same_env c g g' l l' p q = cc

-- ---- one block

module _ (flat : Limited) (q : FlatProc) (cs : List ℕ) (n : ℕ) (b : FlatBlock) (before new : List TermNode) (d e : Draft) (globals locals : List ℕ) (csorts : List Sort)
    (at_n : slice_get q.blocks n ≡ Some b) (there : cmds_there flat q b.cmds ≡ true)
    (versions : d.versions ≡ globals ++ locals) (c_are : AreOf before cs csorts) (g_are : AreOf before globals flat.globals) (l_are : AreOf before locals (variables_of q))
    (s : Step cs n before d (items_all flat q (entry_cur flat q) 0 (entry_count flat q) b.cmds) new e) where
  pub block_step : (a : ℕ → Value) (dead : Env) (es : List Edge) → IsTrue (fits a new) → is_on (value a before d.cond) ≡ reached n es →
      (reached n es ≡ true → record { consts = all_at a before cs; globals = all_at a before globals; locals = all_at a before locals } ≡ entered n dead es) →
      Alike
      (others n es ++ out_next b.next (is_on (value a new e.cond))
      (record {
        consts = all_at a new cs;
        globals = all_at a new (terms_of e.versions (cur_end flat (entry_cur flat q) (entry_count flat q) b.cmds).globals);
        locals = all_at a new (terms_of e.versions (cur_end flat (entry_cur flat q) (entry_count flat q) b.cmds).locals);
      })
      (map is_on (reads a (d.next + length (chosen (items_at flat q n))) (choices_at q n))))
      (step flat q dead (given_at flat q a d.next n) es)
  block_step a dead es f on env =
      let items = items_all flat q (entry_cur flat q) 0 (entry_count flat q) b.cmds in
      let leave = cur_end flat (entry_cur flat q) (entry_count flat q) b.cmds in
      let vals = vals_at a new e.versions in
      let consts = all_at a new cs in
      let m = meant_at a new cs e.versions in
      let says = s.says a consts vals f m in
      let here : items_at flat q n ≡ items = ap (λ (o : Option FlatBlock). items_all flat q (entry_cur flat q) 0 (entry_count flat q) (block_or o).cmds) at_n in
      let choices = map is_on (reads a (d.next + length (chosen (items_at flat q n))) (choices_at q n)) in
      let row : e.versions ≡ [] ++ (globals ++ (locals ++ s.more)) = s.versions ∙ ap (λ x. x ++ s.more) versions ∙ append_assoc globals locals s.more in
      let row2 : e.versions ≡ globals ++ (locals ++ s.more) = row in
      let ng = are_count before globals flat.globals g_are in
      let nl = are_count before locals (variables_of q) l_are in
      let g_is : map vals (entry_cur flat q).globals ≡ all_at a before globals =
      span_values a new e.versions vals m.each [] globals (locals ++ s.more) flat.globals 0 row refl ng ∙ map_later before new a globals flat.globals s.later g_are in
      let l_is : map vals (entry_cur flat q).locals ≡ all_at a before locals =
      span_values a new e.versions vals m.each globals locals s.more (variables_of q) (length flat.globals) row2 ng nl ∙ map_later before new a locals (variables_of q) s.later l_are in
      let c_is : consts ≡ all_at a before cs = map_later before new a cs csorts s.later c_are in
      let entry : reached n es ≡ true → env_of consts vals (entry_cur flat q) ≡ entered n dead es = λ y.
      ap (λ x. record { consts = x; globals = map vals (entry_cur flat q).globals; locals = map vals (entry_cur flat q).locals }) c_is
      ∙ same_env (all_at a before cs) (map vals (entry_cur flat q).globals) (all_at a before globals) (map vals (entry_cur flat q).locals) (all_at a before locals) g_is l_is ∙ env y in
      let law = block_law flat q dead consts vals n b es choices at_n there says.defined entry in
      let bit : is_on (value a new e.cond) ≡ (reached n es && hold consts vals items) = says.on ∙ on_is consts vals (is_on (value a before d.cond)) items ∙ ap (λ x. x && hold consts vals items) on in
      let out : env_of consts vals leave ≡ record { consts = consts; globals = all_at a new (terms_of e.versions leave.globals); locals = all_at a new (terms_of e.versions leave.locals) } =
      same_env consts (map vals leave.globals) (all_at a new (terms_of e.versions leave.globals)) (map vals leave.locals) (all_at a new (terms_of e.versions leave.locals))
      (sym (terms_are a new e.versions leave.globals)) (sym (terms_are a new e.versions leave.locals)) in
      let chosen_is : reads a d.next (length (chosen (items_at flat q n))) ≡ inputs vals items = ap (λ i. reads a d.next (length (chosen i))) here ∙ sym says.inputs_are in
      let given : given_by vals n items choices ≡ given_at flat q a d.next n =
      same_given (taken_values vals items) (values_in (items_at flat q n) (reads a d.next (length (chosen (items_at flat q n))))) (taken_results vals items) (results_in (items_at flat q n) (reads a d.next (length (chosen (items_at flat q n)))))
      choices
      (sym (ap (λ i. values_in i (reads a d.next (length (chosen (items_at flat q n))))) here ∙ ap (values_in items) chosen_is ∙ values_read vals items))
      (sym (ap (λ i. results_in i (reads a d.next (length (chosen (items_at flat q n))))) here ∙ ap (results_in items) chosen_is ∙ results_read vals items)) in
      subst (λ (g : Given). Alike (others n es ++ out_next b.next (is_on (value a new e.cond)) (record { consts = consts; globals = all_at a new (terms_of e.versions leave.globals); locals = all_at a new (terms_of e.versions leave.locals) }) choices) (step flat q dead g es)) given
      (subst (λ (v : Env). Alike (others n es ++ out_next b.next (is_on (value a new e.cond)) v choices) (step flat q dead (given_by vals n items choices) es)) out
      (subst (λ (x : Bool). Alike (others n es ++ out_next b.next x (env_of consts vals leave) choices) (step flat q dead (given_by vals n items choices) es)) (sym bit) law))
    where
      same_given : (v v' : List Value) (r r' : List Result) (c : List Bool) → v ≡ v' → r ≡ r' →
          ◌≡◌ {A = Given} (record { number = n; values = v; results = r; choices = c }) (record { number = n; values = v'; results = r'; choices = c })
      same_given v v' r r' c p q = cc
