-- The edges of a goto, one by one.
use Rattle.flat_prog.specs.Sites.{numbers_from}
use Rattle.vc_gen.proofs.Numbers.{numbers_then}
use Rattle.std.proofs.Common.{◌≡◌, ℕ, zero, suc, ◌+◌, ◌-◌, ◌<◌, Bool, true, not, ◌&&◌, List, [], ◌∷◌, ◌++◌, length, drop, replicate, arith, sym, ◌∙◌, ap, refl, append-nil, append_assoc}
use Rattle.std.specs.Prelude.{Option, Some, slice_index, IsTrue, IsSome}
use Rattle.std.proofs.lemmas.List.{map-append}
use Rattle.hy_val.specs.Values.{is_on}
use Rattle.hy_val.specs.declared.sort.Sort.{Sort}
use Rattle.hy_val.specs.declared.value.Value.{Value}
use Rattle.hy_term.specs.TermSorts.{sorts, sort_at}
use Rattle.hy_term.specs.Meaning.{value}
use Rattle.hy_term.specs.Variables.{below, reads}
use Rattle.hy_term.specs.declared.node.TermNode.{TermNode}
use Rattle.passive_form.specs.Local.{sorted_as}
use Rattle.vc_gen.specs.Fold.{Edge, fan}
use Rattle.vc_gen.specs.declared.parts.Draft.{Draft}
use Rattle.vc_gen.specs.declared.parts.Wait.{Wait}
use Rattle.vc_gen.specs.Standing.{Later, variables_in}
use Rattle.vc_gen.specs.Items.{bool_sort}
use Rattle.vc_gen.specs.Instance.{all_at, edge_at, edges_at}
use Rattle.vc_gen.specs.Joins.{WaitThere, WaitOf, WaitsOf}
use Rattle.vc_gen.specs.Edges.{Parted, WaitsThere, ListThere, env_at, picked, FanSoFar, Fanned}
use Rattle.vc_gen.proofs.Growth.{later_same, later_then, sort_later, are_later, map_later}
use Rattle.vc_gen.proofs.Joining.{fits_before, reads_append, length_reads, sorts_left, sorts_right}
use Rattle.vc_gen.proofs.Passes.{bit_later}
use Rattle.vc_gen.proofs.Ways.{framed_then}

same_edge : (t : Option ℕ) (b b' : Bool) (c g g' l l' : List Value) → b ≡ b' → g ≡ g' → l ≡ l' →
    ◌≡◌ {A = Edge} (record { target = t; live = b; env = record { consts = c; globals = g; locals = l } }) (record { target = t; live = b'; env = record { consts = c; globals = g'; locals = l' } })
same_edge t b b' c g g' l l' p q r = cc

pub edge_later : (x y : List TermNode) (a : ℕ → Value) (consts : List Value) (w : Wait) → Later x y → WaitThere x w → edge_at a y consts w ≡ edge_at a x consts w
edge_later x y a consts w h t =
    same_edge w.target (is_on (value a y w.live)) (is_on (value a x w.live)) consts (all_at a y w.globals) (all_at a x w.globals) (all_at a y w.locals) (all_at a x w.locals)
    (bit_later x y a w.live h t.live) (map_later x y a w.globals t.globals.0 h t.globals.1) (map_later x y a w.locals t.locals.0 h t.locals.1)

pub edges_later : (x y : List TermNode) (a : ℕ → Value) (consts : List Value) (ws : List Wait) → Later x y → WaitsThere x ws → edges_at a y consts ws ≡ edges_at a x consts ws
edges_later x y a consts [] h t = refl
edges_later x y a consts (w ∷ ws) h (t, ts) = ap (λ e. e ∷ edges_at a y consts ws) (edge_later x y a consts w h t) ∙ ap (λ es. edge_at a x consts w ∷ es) (edges_later x y a consts ws h ts)

pub waits_stay : (x y : List TermNode) (ws : List Wait) → Later x y → WaitsThere x ws → WaitsThere y ws
waits_stay x y [] h t = tt
waits_stay x y (w ∷ ws) h (t, ts) =
    (record { live = sort_later x y w.live bool_sort h t.live; globals = (t.globals.0, are_later x y w.globals t.globals.0 h t.globals.1); locals = (t.locals.0, are_later x y w.locals t.locals.0 h t.locals.1) }, waits_stay x y ws h ts)

pub waits_append : (x : List TermNode) (ws us : List Wait) → WaitsThere x ws → WaitsThere x us → WaitsThere x (ws ++ us)
waits_append x [] us h k = k
waits_append x (w ∷ ws) us (h, hs) k = (h, waits_append x ws us hs k)

pub of_later : (x y : List TermNode) (gs ls : List Sort) (w : Wait) → Later x y → WaitOf x gs ls w → WaitOf y gs ls w
of_later x y gs ls w h k = record { live = sort_later x y w.live bool_sort h k.live; globals = are_later x y w.globals gs h k.globals; locals = are_later x y w.locals ls h k.locals }

pub all_later : (x y : List TermNode) (gs ls : List Sort) (ws : List Wait) → Later x y → WaitsOf x gs ls ws → WaitsOf y gs ls ws
all_later x y gs ls [] h k = tt
all_later x y gs ls (w ∷ ws) h (k, ks) = (of_later x y gs ls w h k, all_later x y gs ls ws h ks)

pub of_append : (x : List TermNode) (gs ls : List Sort) (ws us : List Wait) → WaitsOf x gs ls ws → WaitsOf x gs ls us → WaitsOf x gs ls (ws ++ us)
of_append x gs ls [] us h k = k
of_append x gs ls (w ∷ ws) us (h, hs) k = (h, of_append x gs ls ws us hs k)

pub fan_start : (old : List TermNode) (d : Draft) (targets globals locals : List ℕ) (before : List Wait) → IsSome (sorts old) → sort_at old d.cond ≡ Some bool_sort → IsTrue (below d.next old) →
    FanSoFar old d targets globals locals before 0 old d d.cond before
fan_start old d targets globals locals before h c b =
    let z : length targets - 1 - 0 ≡ length targets - 1 = omega arith in
    record {
      later = later_same old h;
      frame = refl;
      next = omega arith;
      below = b;
      numbers = sym (append-nil (variables_in old));
      left_sort = c;
      more = [];
      waits_are = sym (append-nil before);
      there = tt;
      of = λ gs ls g l. tt;
      says = λ a consts f. ap (λ n. fan (is_on (value a old d.cond)) (env_at a old consts globals locals) targets (picked a d.next n)) z;
      fit = λ a f k. f;
    }

-- one target more, which isn't the last
two_more : (xs : List ℕ) (i : ℕ) → i < length xs - 1 → (t u : ℕ) × (rest : List ℕ) × (drop i xs ≡ t ∷ u ∷ rest) × (slice_index xs i ≡ t) × (drop (suc i) xs ≡ u ∷ rest)
two_more [] i l = absurd (omega (arith, l))
two_more (x ∷ []) i l = absurd (omega (arith, l))
two_more (x ∷ y ∷ xs) zero l = (x, y, xs, refl, refl, refl)
two_more (x ∷ y ∷ xs) (suc i) l = two_more (y ∷ xs) i (omega (arith, l))

replicate_push : (i : ℕ) → replicate i bool_sort ++ bool_sort ∷ [] ≡ replicate (suc i) bool_sort
replicate_push zero = refl
replicate_push (suc i) = ap (λ x. bool_sort ∷ x) (replicate_push i)

length_replicate : (i : ℕ) → length (replicate i bool_sort) ≡ i
length_replicate zero = refl
length_replicate (suc i) = ap suc (length_replicate i)

pub fan_next : (old mid new : List TermNode) (d m e : Draft) (targets globals locals : List ℕ) (before : List Wait) (i left live rest : ℕ) (waits waits' : List Wait) → ListThere old globals → ListThere old locals → i < length targets - 1 →
    FanSoFar old d targets globals locals before i mid m left waits → Parted mid m left new e live rest →
    waits' ≡ waits ++ record { target = Some (slice_index targets i); live = live; globals = globals; locals = locals } ∷ [] →
    FanSoFar old d targets globals locals before (i + 1) new e rest waits'
fan_next old mid new d m e targets globals locals before i left live rest waits waits' gt lt l h p push =
    let w : Wait = record { target = Some (slice_index targets i); live = live; globals = globals; locals = locals } in
    let all = later_then old mid new h.later p.later in
    let two = two_more targets i l in
    let t = two.0 in
    let u = two.1 in
    let ts = two.2 in
    let s1 : suc i ≡ i + 1 = omega arith in
    let dropped : drop (i + 1) targets ≡ u ∷ ts = ap (λ n. drop n targets) (sym s1) ∙ two.5 in
    let count : length targets - 1 - i ≡ suc (length targets - 1 - (i + 1)) = omega (arith, l) in
    let w_there : WaitThere new w = record { live = p.live_sort; globals = (gt.0, are_later old new globals gt.0 all gt.1); locals = (lt.0, are_later old new locals lt.0 all lt.1) } in
    record {
      later = all;
      frame = framed_then d m e h.frame p.frame;
      next = omega (arith, p.next, h.next);
      below = p.below;
      numbers = numbers_then (variables_in old) (variables_in mid) (variables_in new) d.next m.next i 1 (i + 1) h.numbers h.next p.numbers refl;
      left_sort = p.rest_sort;
      more = h.more ++ w ∷ [];
      waits_are = push ∙ ap (λ x. x ++ w ∷ []) h.waits_are ∙ append_assoc before h.more (w ∷ []);
      there = waits_append new h.more (w ∷ []) (waits_stay mid new h.more p.later h.there) (w_there, tt);
      of = λ gs ls g k. of_append new gs ls h.more (w ∷ []) (all_later mid new gs ls h.more p.later (h.of gs ls g k))
          (record { live = p.live_sort; globals = are_later old new globals gs all g; locals = are_later old new locals ls all k }, tt);
      says = λ a consts f.
          let f1 = fits_before a mid new p.later f in
          let env = env_at a old consts globals locals in
          let on = is_on (value a mid left) in
          let c = is_on (a m.next) in
          let cs = picked a e.next (length targets - 1 - (i + 1)) in
          let edge_is : edge_at a new consts w ≡ record { target = Some t; live = on && c; env = env } =
          ap {B = Edge} (λ (x : ℕ). record { target = Some x; live = is_on (value a new live); env = env_at a new consts globals locals }) two.4
          ∙ same_edge (Some t) (is_on (value a new live)) (on && c) consts (all_at a new globals) (all_at a old globals) (all_at a new locals) (all_at a old locals) (p.live_is a f)
          (map_later old new a globals gt.0 all gt.1) (map_later old new a locals lt.0 all lt.1) in
          let choices : picked a m.next (length targets - 1 - i) ≡ c ∷ cs = ap (picked a m.next) count ∙ ap (λ n. c ∷ picked a n (length targets - 1 - (i + 1))) (sym p.next) in
          let rest_is : fan on env (drop i targets) (picked a m.next (length targets - 1 - i)) ≡ record { target = Some t; live = on && c; env = env } ∷ fan (on && not c) env (u ∷ ts) cs =
          ap (λ x. fan on env x (picked a m.next (length targets - 1 - i))) two.3 ∙ ap (fan on env (t ∷ u ∷ ts)) choices in
          ap (λ x. x ++ fan (is_on (value a new rest)) env (drop (i + 1) targets) cs) (map-append (edge_at a new consts) h.more (w ∷ []))
          ∙ append_assoc (edges_at a new consts h.more) (edge_at a new consts w ∷ []) (fan (is_on (value a new rest)) env (drop (i + 1) targets) cs)
          ∙ ap (λ x. x ++ (edge_at a new consts w ∷ fan (is_on (value a new rest)) env (drop (i + 1) targets) cs)) (edges_later mid new a consts h.more p.later h.there)
          ∙ ap (λ x. edges_at a mid consts h.more ++ (x ∷ fan (is_on (value a new rest)) env (drop (i + 1) targets) cs)) edge_is
          ∙ ap (λ x. edges_at a mid consts h.more ++ (record { target = Some t; live = on && c; env = env } ∷ fan x env (drop (i + 1) targets) cs)) (p.rest_is a f)
          ∙ ap (λ x. edges_at a mid consts h.more ++ (record { target = Some t; live = on && c; env = env } ∷ fan (on && not c) env x cs)) dropped
          ∙ ap (λ x. edges_at a mid consts h.more ++ x) (sym rest_is)
          ∙ h.says a consts f1;
      fit = λ a f k.
          let n : i + 1 ≡ suc i = omega arith in
          let split : reads a d.next (i + 1) ≡ reads a d.next i ++ a m.next ∷ [] = reads_append a d.next i 1 ∙ ap (λ x. reads a d.next i ++ a x ∷ []) (sym h.next) in
          let k2 : sorted_as (replicate i bool_sort ++ bool_sort ∷ []) (reads a d.next i ++ a m.next ∷ []) ≡ true =
          ap (λ x. sorted_as x (reads a d.next i ++ a m.next ∷ [])) (replicate_push i ∙ ap (λ x. replicate x bool_sort) (sym n)) ∙ ap (sorted_as (replicate (i + 1) bool_sort)) (sym split) ∙ k in
          let len : length (reads a d.next i) ≡ length (replicate i bool_sort) = length_reads a d.next i ∙ sym (length_replicate i) in
          p.fit a (h.fit a f (sorts_left (replicate i bool_sort) (bool_sort ∷ []) (reads a d.next i) (a m.next ∷ []) len k2)) (sorts_right (replicate i bool_sort) (bool_sort ∷ []) (reads a d.next i) (a m.next ∷ []) len k2);
    }

-- the last target
one_more : (xs : List ℕ) (i : ℕ) → 0 < length xs → i ≡ length xs - 1 → (t : ℕ) × (drop i xs ≡ t ∷ []) × (slice_index xs i ≡ t)
one_more [] i l e = absurd (omega (arith, l))
one_more (x ∷ []) zero l e = (x, refl, refl)
one_more (x ∷ []) (suc i) l e = absurd (omega (arith, e))
one_more (x ∷ y ∷ xs) zero l e = absurd (omega (arith, e))
one_more (x ∷ y ∷ xs) (suc i) l e = one_more (y ∷ xs) i (omega arith) (omega (arith, e))

pub fan_end : (old new : List TermNode) (d e : Draft) (targets globals locals : List ℕ) (before : List Wait) (i j left : ℕ) (waits waits' : List Wait) → ListThere old globals → ListThere old locals → 0 < length targets → j ≡ length targets - 1 → i ≡ j →
    FanSoFar old d targets globals locals before i new e left waits →
    waits' ≡ waits ++ record { target = Some (slice_index targets j); live = left; globals = globals; locals = locals } ∷ [] →
    Fanned old d targets globals locals before new e waits'
fan_end old new d e targets globals locals before i j left waits waits' gt lt some last same h push =
    let w : Wait = record { target = Some (slice_index targets j); live = left; globals = globals; locals = locals } in
    let i_last : i ≡ length targets - 1 = same ∙ last in
    let one = one_more targets i some i_last in
    let t = one.0 in
    let index : slice_index targets j ≡ t = ap (slice_index targets) (sym same) ∙ one.2 in
    let none : length targets - 1 - i ≡ 0 = omega (arith, i_last) in
    record {
      later = h.later;
      frame = h.frame;
      next = h.next ∙ ap (λ n. d.next + n) i_last;
      below = h.below;
      numbers = h.numbers ∙ ap (λ n. variables_in old ++ numbers_from d.next n) i_last;
      more = h.more ++ w ∷ [];
      waits_are = push ∙ ap (λ x. x ++ w ∷ []) h.waits_are ∙ append_assoc before h.more (w ∷ []);
      there = waits_append new h.more (w ∷ []) h.there
          (record { live = h.left_sort; globals = (gt.0, are_later old new globals gt.0 h.later gt.1); locals = (lt.0, are_later old new locals lt.0 h.later lt.1) }, tt);
      of = λ gs ls g k. of_append new gs ls h.more (w ∷ []) (h.of gs ls g k)
          (record { live = h.left_sort; globals = are_later old new globals gs h.later g; locals = are_later old new locals ls h.later k }, tt);
      says = λ a consts f.
          let env = env_at a old consts globals locals in
          let on = is_on (value a new left) in
          let edge_is : edge_at a new consts w ≡ record { target = Some t; live = on; env = env } =
          ap {B = Edge} (λ (x : ℕ). record { target = Some x; live = on; env = env_at a new consts globals locals }) index
          ∙ same_edge (Some t) on on consts (all_at a new globals) (all_at a old globals) (all_at a new locals) (all_at a old locals) refl
          (map_later old new a globals gt.0 h.later gt.1) (map_later old new a locals lt.0 h.later lt.1) in
          let rest_is : fan on env (drop i targets) (picked a e.next (length targets - 1 - i)) ≡ record { target = Some t; live = on; env = env } ∷ [] =
          ap (λ x. fan on env x (picked a e.next (length targets - 1 - i))) one.1 in
          map-append (edge_at a new consts) h.more (w ∷ []) ∙ ap (λ x. edges_at a new consts h.more ++ x ∷ []) edge_is ∙ ap (λ x. edges_at a new consts h.more ++ x) (sym rest_is) ∙ h.says a consts f;
      fit = λ a f k. h.fit a f (ap (λ n. sorted_as (replicate n bool_sort) (reads a d.next n)) i_last ∙ k);
    }
