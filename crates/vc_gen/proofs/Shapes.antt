-- What a run takes of values and results has the shape that variables can give.
use Rattle.std.proofs.Common.{◌≡◌, ℕ, zero, suc, ◌+◌, Bool, true, false, List, [], ◌∷◌, ◌++◌, map, length, take, drop, arith, sym, ◌∙◌, ap, refl, append-nil, append_assoc, length-append}
use Rattle.std.specs.Prelude.{Option, None, Some}
use Rattle.hy_val.specs.Values.{has_sort}
use Rattle.hy_val.specs.declared.atom.AtomKind.TheVariants.{Bool as BoolAtom}
use Rattle.hy_val.specs.declared.sort.Sort.{Sort}
use Rattle.hy_val.specs.declared.value.Value.{Value}
use Rattle.hy_val.specs.declared.value.Value.TheVariants.{Atom as AtomValue}
use Rattle.hy_val.specs.declared.expr.Var.{Var}
use Rattle.hy_val.specs.declared.expr.ExprNode.{ExprNode}
use Rattle.flat_prog.specs.declared.block.FlatCmd.{FlatCmd}
use Rattle.flat_prog.specs.declared.block.FlatCmd.TheVariants.{Assign, Havoc, Assume, Assert, Call}
use Rattle.flat_prog.specs.declared.block.FlatBlock.{FlatBlock}
use Rattle.flat_prog.specs.declared.proc.FlatProc.{FlatProc}
use Rattle.passive_form.specs.Limited.{Limited}
use Rattle.passive_form.specs.Local.{State, alone, sort_of, sorted_as, result_fits, after_call, changed_sorts, targets_of, assigned, write, write_all, havoc, havoc_with, come_back, request, pass, pass_all}
use Rattle.flat_prog.specs.Local.{Result, Ended, Broken}
use Rattle.hy_val.specs.Stores.{is_value_of, holds}
use Rattle.vc_gen.specs.Fold.{choice_count}
use Rattle.vc_gen.proofs.Frames.{choose_some, and_then_some}
use Rattle.vc_gen.proofs.Complete.{Fine}
use Rattle.passive_form.specs.declared.Item.{Item}
use Rattle.passive_form.specs.declared.Item.TheVariants.{Free, Need, Check, Site}
use Rattle.passive_form.specs.Versions.{Cur}
use Rattle.passive_form.specs.Making.{over_versions, lets, sort_or, frees, callee_outs, callee_changes, items_of, cur_after, next_after, items_all, entry_cur, entry_count, block_or}
use Rattle.vc_gen.specs.Items.{bool_sort, chosen}
use Rattle.vc_gen.specs.Inputs.{values_in, results_in, block_at, items_at, Shaped}
use Rattle.vc_gen.proofs.Joining.{chosen_append, sorts_both, and_first, and_second, and_two}

-- from what is chosen for the items, these values and results are taken
pub record Takes (items : List Item) (vs : List Value) (rs : List Result) : Type 0 where
  pub ins : List Value
  pub sorts : sorted_as (chosen items) ins ≡ true
  pub values_are : (ys : List Item) (more : List Value) → values_in (items ++ ys) (ins ++ more) ≡ vs ++ values_in ys more
  pub results_are : (ys : List Item) (more : List Value) → results_in (items ++ ys) (ins ++ more) ≡ rs ++ results_in ys more

takes_none : Takes [] [] []
takes_none = record { ins = []; sorts = refl; values_are = λ ys more. refl; results_are = λ ys more. refl }

takes_append : (xs ys : List Item) (vs ws : List Value) (rs ts : List Result) → Takes xs vs rs → Takes ys ws ts → Takes (xs ++ ys) (vs ++ ws) (rs ++ ts)
takes_append xs ys vs ws rs ts h k = record {
  ins = h.ins ++ k.ins;
  sorts = ap (λ ss. sorted_as ss (h.ins ++ k.ins)) (chosen_append xs ys) ∙ sorts_both (chosen xs) (chosen ys) h.ins k.ins h.sorts k.sorts;
  values_are = λ zs more.
      ap (λ i. values_in i ((h.ins ++ k.ins) ++ more)) (append_assoc xs ys zs) ∙ ap (values_in (xs ++ (ys ++ zs))) (append_assoc h.ins k.ins more) ∙ h.values_are (ys ++ zs) (k.ins ++ more)
      ∙ ap (λ r. vs ++ r) (k.values_are zs more) ∙ sym (append_assoc vs ws (values_in zs more));
  results_are = λ zs more.
      ap (λ i. results_in i ((h.ins ++ k.ins) ++ more)) (append_assoc xs ys zs) ∙ ap (results_in (xs ++ (ys ++ zs))) (append_assoc h.ins k.ins more) ∙ h.results_are (ys ++ zs) (k.ins ++ more)
      ∙ ap (λ r. rs ++ r) (k.results_are zs more) ∙ sym (append_assoc rs ts (results_in zs more));
}

takes_lets : (cur : Cur) (k : ℕ) (pairs : List (Var × List ExprNode)) → Takes (lets cur k pairs) [] []
takes_lets cur k [] = takes_none
takes_lets cur k (pair ∷ pairs) =
    let h = takes_lets cur (k + 1) pairs in
    record { ins = h.ins; sorts = h.sorts; values_are = λ ys more. h.values_are ys more; results_are = λ ys more. h.results_are ys more }

takes_free : (k : ℕ) (s : Sort) (v : Value) → has_sort v s ≡ true → Takes (Free k s ∷ []) (v ∷ []) []
takes_free k s v h = record { ins = v ∷ []; sorts = and_two (has_sort v s) true h refl; values_are = λ ys more. refl; results_are = λ ys more. refl }

sort_or_fits : (o : Option Sort) (v : Value) → is_value_of o v ≡ true → has_sort v (sort_or o) ≡ true
sort_or_fits None v h = cc
sort_or_fits (Some s) v h = h

-- what a part takes of a state
pub record Part (s m : State) (items : List Item) : Type 0 where
  pub values : List Value
  pub results : List Result
  pub values_are : s.values ≡ values ++ m.values
  pub results_are : s.results ≡ results ++ m.results
  pub takes : Takes items values results

nothing : (s m : State) (items : List Item) → s ≡ m → Takes items [] [] → Part s m items
nothing s m items e t = record { values = []; results = []; values_are = ap (λ (x : State). x.values) e; results_are = ap (λ (x : State). x.results) e; takes = t }

part_append : (s m t : State) (xs ys : List Item) → Part s m xs → Part m t ys → Part s t (xs ++ ys)
part_append s m t xs ys h k = record {
  values = h.values ++ k.values;
  results = h.results ++ k.results;
  values_are = h.values_are ∙ ap (λ r. h.values ++ r) k.values_are ∙ sym (append_assoc h.values k.values t.values);
  results_are = h.results_are ∙ ap (λ r. h.results ++ r) k.results_are ∙ sym (append_assoc h.results k.results t.results);
  takes = takes_append xs ys h.values k.values h.results k.results h.takes k.takes;
}

havoc_one : (flat : Limited) (q : FlatProc) (x : Var) (k : ℕ) (s m : State) (values : List Value) → s.values ≡ values → havoc_with flat q x s values ≡ Some m → Part s m (Free k (sort_or (sort_of flat q x)) ∷ [])
havoc_one flat q x k s m [] are h = cc
havoc_one flat q x k s m (v ∷ vs) are h =
    let c = choose_some (is_value_of (sort_of flat q x) v) (alone (write s.env x v) vs s.results s.calls) m h in
    record {
      values = v ∷ [];
      results = [];
      values_are = are ∙ ap (λ (y : State). v ∷ y.values) c.1;
      results_are = ap (λ (y : State). y.results) c.1;
      takes = takes_free k (sort_or (sort_of flat q x)) v (sort_or_fits (sort_of flat q x) v c.0);
    }

havoc_part : (flat : Limited) (q : FlatProc) (k : ℕ) (xs : List Var) (s m : State) → havoc flat q xs s ≡ Some m → Part s m (frees flat q k xs)
havoc_part flat q k [] s m h = let e : s ≡ m = cc in nothing s m [] e takes_none
havoc_part flat q k (x ∷ xs) s m h =
    let t = and_then_some (havoc flat q xs) (havoc_with flat q x s s.values) m h in
    part_append s t.0 m (Free k (sort_or (sort_of flat q x)) ∷ []) (frees flat q (k + 1) xs) (havoc_one flat q x k s t.0 s.values refl t.1) (havoc_part flat q (k + 1) xs t.0 m t.2)

pub length_have : (ss : List Sort) (vs : List Value) → sorted_as ss vs ≡ true → length vs ≡ length ss
length_have [] [] h = refl
length_have [] (v ∷ vs) h = cc
length_have (s ∷ ss) [] h = cc
length_have (s ∷ ss) (v ∷ vs) h = ap suc (length_have ss vs (and_second (has_sort v s) (sorted_as ss vs) h))

pub take_front : {A : Type 0} (xs ys : List A) (n : ℕ) → length xs ≡ n → take n (xs ++ ys) ≡ xs
take_front [] ys zero h = refl
take_front [] ys (suc n) h = absurd (omega (arith, h))
take_front (x ∷ xs) ys zero h = absurd (omega (arith, h))
take_front (x ∷ xs) ys (suc n) h = ap (λ r. x ∷ r) (take_front xs ys n (omega (arith, h)))

pub drop_front : {A : Type 0} (xs ys : List A) (n : ℕ) → length xs ≡ n → drop n (xs ++ ys) ≡ ys
drop_front [] ys zero h = refl
drop_front [] ys (suc n) h = absurd (omega (arith, h))
drop_front (x ∷ xs) ys zero h = absurd (omega (arith, h))
drop_front (x ∷ xs) ys (suc n) h = drop_front xs ys n (omega (arith, h))

takes_site : (p f : ℕ) (args : List (List ExprNode)) (before : List ℕ) (outs : List Sort) (changes : List Bool) (after : List Sort) (os gs : List Value) → sorted_as outs os ≡ true → sorted_as after gs ≡ true → Takes (Site p f args before outs changes after ∷ []) [] (Ended os gs ∷ [])
takes_site p f args before outs changes after os gs h k =
    let off : Value = AtomValue (BoolAtom false) in
    let n = length_have outs os h in
    let m = length_have after gs k in
    let all : length (off ∷ (os ++ gs)) ≡ length (bool_sort ∷ (outs ++ after)) = omega (arith, length-append os gs, length-append outs after, n, m) in
    record {
      ins = off ∷ (os ++ gs);
      sorts = ap (λ (ss : List Sort). sorted_as ss (off ∷ (os ++ gs))) (append-nil (bool_sort ∷ (outs ++ after))) ∙ sorts_both outs after os gs h k;
      values_are = λ ys more. ap (values_in ys) (drop_front (off ∷ (os ++ gs)) more (length (bool_sort ∷ (outs ++ after))) all);
      results_are = λ ys more.
          ap (λ x. Ended x (take (length after) (drop (length outs) ((os ++ gs) ++ more))) ∷ results_in ys (drop (length (bool_sort ∷ (outs ++ after))) ((off ∷ (os ++ gs)) ++ more)))
          (ap (take (length outs)) (append_assoc os gs more) ∙ take_front os (gs ++ more) (length outs) n)
          ∙ ap (λ x. Ended os x ∷ results_in ys (drop (length (bool_sort ∷ (outs ++ after))) ((off ∷ (os ++ gs)) ++ more)))
          (ap (λ z. take (length after) (drop (length outs) z)) (append_assoc os gs more) ∙ ap (take (length after)) (drop_front os (gs ++ more) (length outs) n) ∙ take_front gs more (length after) m)
          ∙ ap (λ x. Ended os gs ∷ results_in ys x) (drop_front (off ∷ (os ++ gs)) more (length (bool_sort ∷ (outs ++ after))) all);
    }

call_part : (flat : Limited) (s m : State) (p k : ℕ) (args : List (List ExprNode)) (own : List (List ExprNode)) (outs : List Var) (before : List ℕ) (results : List Result) → s.results ≡ results → come_back flat s (request s p args) outs results ≡ Some m →
    Part s m (Site p k own before (callee_outs flat p) (callee_changes flat p) (changed_sorts flat p) ∷ [])
call_part flat s m p k args own outs before [] are h = cc
call_part flat s m p k args own outs before (Broken a b ∷ rs) are h = cc
call_part flat s m p k args own outs before (Ended os gs ∷ rs) are h =
    let c = choose_some (result_fits flat p os gs) (alone (write_all (after_call flat p s.env gs) outs os) s.values rs (s.calls ++ request s p args ∷ [])) m h in
    record {
      values = [];
      results = Ended os gs ∷ [];
      values_are = ap (λ (y : State). y.values) c.1;
      results_are = are ∙ ap (λ (y : State). Ended os gs ∷ y.results) c.1;
      takes = takes_site p k own before (callee_outs flat p) (callee_changes flat p) (changed_sorts flat p) os gs (and_first (sorted_as (callee_outs flat p) os) (sorted_as (changed_sorts flat p) gs) c.0) (and_second (sorted_as (callee_outs flat p) os) (sorted_as (changed_sorts flat p) gs) c.0);
    }

pub pass_part : (flat : Limited) (q : FlatProc) (cur : Cur) (at k : ℕ) (c : FlatCmd) (s m : State) → pass flat q c s ≡ Some m → Part s m (items_of flat q cur at k c)
pass_part flat q cur at k (Assign pairs) s m h =
    let e : ◌≡◌ {A = State} (alone (write_all s.env (targets_of pairs) (assigned s.env pairs)) s.values s.results s.calls) m = cc in
    record { values = []; results = []; values_are = ap (λ (x : State). x.values) e; results_are = ap (λ (x : State). x.results) e; takes = takes_lets cur k pairs }
pass_part flat q cur at k (Havoc xs) s m h = havoc_part flat q k xs s m h
pass_part flat q cur at k (Assume e) s m h =
    let c = choose_some (holds s.env e) s m h in
    nothing s m (Need (over_versions cur e) ∷ []) c.1 (record { ins = []; sorts = refl; values_are = λ ys more. refl; results_are = λ ys more. refl })
pass_part flat q cur at k (Assert p n e) s m h =
    let c = choose_some (holds s.env e) s m h in
    nothing s m (Check at (over_versions cur e) ∷ []) c.1 (record { ins = []; sorts = refl; values_are = λ ys more. refl; results_are = λ ys more. refl })
pass_part flat q cur at k (Call p args outs) s m h = call_part flat s m p k args (map (over_versions cur) args) outs cur.globals s.results refl h

pub pass_all_part : (flat : Limited) (q : FlatProc) (cur : Cur) (at k : ℕ) (cmds : List FlatCmd) (s m : State) → pass_all flat q cmds s ≡ Some m → Part s m (items_all flat q cur at k cmds)
pass_all_part flat q cur at k [] s m h = let e : s ≡ m = cc in nothing s m [] e takes_none
pass_all_part flat q cur at k (c ∷ cmds) s m h =
    let t = and_then_some (pass_all flat q cmds) (pass flat q c s) m h in
    part_append s t.0 m (items_of flat q cur at k c) (items_all flat q (cur_after flat cur k c) (at + 1) (next_after flat k c) cmds)
    (pass_part flat q cur at k c s t.0 t.1) (pass_all_part flat q (cur_after flat cur k c) (at + 1) (next_after flat k c) cmds t.0 m t.2)

-- the values of a passed block
pub shaped_used : (flat : Limited) (q : FlatProc) → Fine flat q (Shaped flat q)
shaped_used flat q n block s m u cs at count =
    let here : block_at q n ≡ block = ap block_or at in
    let part = pass_all_part flat q (entry_cur flat q) 0 (entry_count flat q) block.cmds (alone s.env u.values u.results []) (alone m.env [] [] u.calls) u.does in
    let items_are : items_at flat q n ≡ items_all flat q (entry_cur flat q) 0 (entry_count flat q) block.cmds = ap (λ (b : FlatBlock). items_all flat q (entry_cur flat q) 0 (entry_count flat q) b.cmds) here in
    let items = items_all flat q (entry_cur flat q) 0 (entry_count flat q) block.cmds in
    let t = part.takes in
    record {
      ins = t.ins;
      sorts = ap (λ (i : List Item). sorted_as (chosen i) t.ins) items_are ∙ t.sorts;
      values_are = ap (λ (i : List Item). values_in i t.ins) items_are ∙ ap (λ i. values_in i t.ins) (sym (append-nil items)) ∙ ap (values_in (items ++ [])) (sym (append-nil t.ins)) ∙ t.values_are [] [] ∙ sym part.values_are;
      results_are = ap (λ (i : List Item). results_in i t.ins) items_are ∙ ap (λ i. results_in i t.ins) (sym (append-nil items)) ∙ ap (results_in (items ++ [])) (sym (append-nil t.ins)) ∙ t.results_are [] [] ∙ sym part.results_are;
      count = count ∙ ap (λ (b : FlatBlock). choice_count b.next) (sym here);
    }
