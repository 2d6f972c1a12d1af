-- Literals, the start of a procedure, and the outs at its end.
use Rattle.std.proofs.Common.{◌≡◌, ℕ, zero, suc, ◌+◌, ◌-◌, ◌<◌, ◌≤◌, Bool, true, false, List, [], ◌∷◌, ◌++◌, map, length, take, drop, arith, sym, ◌∙◌, ap, refl, append_assoc, length-append}
use Rattle.std.specs.Prelude.{Option, None, Some, slice_index, IsTrue, IsSome, if◌then◌else◌}
use Rattle.std.specs.Option.{option_and_then}
use Rattle.std.proofs.lemmas.List.{map-append, length-map}
use Rattle.hy_val.specs.Values.{at, is_on, has_sort, zero_of}
use Rattle.hy_val.specs.declared.atom.AtomKind.TheVariants.{Bool as BoolAtom}
use Rattle.hy_val.specs.declared.sort.Sort.{Sort}
use Rattle.hy_val.specs.declared.value.Value.{Value}
use Rattle.hy_val.specs.declared.expr.Env.{Env}
use Rattle.hy_term.specs.TermSorts.{sorts, sort_at, sort_behind}
use Rattle.hy_term.specs.Meaning.{values, value, fits}
use Rattle.hy_term.specs.Variables.{reads}
use Rattle.hy_term.specs.declared.node.TermNode.{TermNode}
use Rattle.hy_term.specs.declared.node.TermNode.TheVariants.{Lit}
use Rattle.hy_term.proofs.Growing.{value-new}
use Rattle.flat_prog.specs.declared.proc.FlatKind.{FlatKind}
use Rattle.flat_prog.specs.declared.proc.FlatKind.TheVariants.{Source, Loop}
use Rattle.flat_prog.specs.declared.proc.FlatProc.{FlatProc}
use Rattle.passive_form.specs.Limited.{Limited}
use Rattle.passive_form.specs.Local.{alone, sorted_as, start}
use Rattle.flat_prog.specs.Shape.{exit_sort}
use Rattle.passive_form.specs.Versions.{Defined, from}
use Rattle.passive_form.specs.Making.{free_items, zero_items, passive_start}
use Rattle.vc_gen.specs.declared.parts.Draft.{Draft}
use Rattle.vc_gen.specs.Standing.{Later, Plain, AreOf}
use Rattle.vc_gen.specs.Items.{bool_sort, chosen, inputs, fails_in, sites_in}
use Rattle.vc_gen.specs.Emit.{Step, terms_of}
use Rattle.vc_gen.specs.Instance.{all_at, start_sorts}
use Rattle.vc_gen.specs.Whole.{IsLiteral}
use Rattle.vc_gen.proofs.Growth.{later_push, plain_push, sort_added, are_count}
use Rattle.vc_gen.proofs.Joining.{and_two}
use Rattle.vc_gen.proofs.Calling.{span_values}
use Rattle.vc_gen.proofs.Shapes.{take_front, drop_front}
use Rattle.vc_gen.proofs.Stepping.{vals_at, meant_at, terms_are}

-- ---- literals

some_sorts : (o : Option (List Sort)) (s : Sort) → IsSome o → option_and_then (λ (ss : List Sort). Some s) o ≡ Some s
some_sorts None s h = cc
some_sorts (Some ss) s h = refl

lit_behind : (old : List TermNode) (b : Bool) → IsSome (sorts old) → sort_behind old (Lit (BoolAtom b)) ≡ Some bool_sort
lit_behind old b h = some_sorts (sorts old) bool_sort h

lit_value : (a : ℕ → Value) (old : List TermNode) (b : Bool) → is_on (value a (old ++ Lit (BoolAtom b) ∷ []) (length old)) ≡ b
lit_value a old true = ap is_on (value-new a old (Lit (BoolAtom true)))
lit_value a old false = ap is_on (value-new a old (Lit (BoolAtom false)))

pub lit_later : (old new : List TermNode) (b : Bool) → IsSome (sorts old) → new ≡ old ++ Lit (BoolAtom b) ∷ [] → Later old new
lit_later old new b h is = later_push old new (Lit (BoolAtom b)) bool_sort (lit_behind old b h) is

pub lit_plain : (old new : List TermNode) (b : Bool) → new ≡ old ++ Lit (BoolAtom b) ∷ [] → Plain old new
lit_plain old new b is = plain_push old new (Lit (BoolAtom b)) (λ k. refl) (λ a. refl) is

pub lit_is : (old new : List TermNode) (b : Bool) (t : ℕ) → IsSome (sorts old) → new ≡ old ++ Lit (BoolAtom b) ∷ [] → t ≡ length old → IsLiteral new t b
lit_is old new b t h is at_end = record {
  sort = ap (λ (ns : List TermNode). sort_at ns t) is ∙ ap (sort_at (old ++ Lit (BoolAtom b) ∷ [])) at_end ∙ sort_added old (Lit (BoolAtom b)) bool_sort (lit_behind old b h);
  means = λ a. ap (λ (ns : List TermNode). is_on (value a ns t)) is ∙ ap (λ i. is_on (value a (old ++ Lit (BoolAtom b) ∷ []) i)) at_end ∙ lit_value a old b;
}

-- ---- the items of a start

pub free_chosen : (k : ℕ) (ss : List Sort) → chosen (free_items k ss) ≡ ss
free_chosen k [] = refl
free_chosen k (s ∷ ss) = ap (λ r. s ∷ r) (free_chosen (k + 1) ss)

pub zero_chosen : (k : ℕ) (ss : List Sort) → chosen (zero_items k ss) ≡ []
zero_chosen k [] = refl
zero_chosen k (s ∷ ss) = zero_chosen (k + 1) ss

pub start_chosen : (flat : Limited) (q : FlatProc) (kind : FlatKind) → chosen (passive_start flat q kind).items ≡ start_sorts q kind
start_chosen flat q (Source p) = free_chosen (length flat.globals + length q.ins) (q.outs ++ q.locals)
start_chosen flat q (Loop p head) = zero_chosen (length flat.globals + length q.ins) (exit_sort ∷ q.locals)

free_inputs : (vals : ℕ → Value) (k : ℕ) (ss : List Sort) → inputs vals (free_items k ss) ≡ map vals (from k ss)
free_inputs vals k [] = refl
free_inputs vals k (s ∷ ss) = ap (λ r. vals k ∷ r) (free_inputs vals (k + 1) ss)

free_have : (consts : List Value) (vals : ℕ → Value) (k : ℕ) (ss : List Sort) → Defined consts vals (free_items k ss) → sorted_as ss (map vals (from k ss)) ≡ true
free_have consts vals k [] h = refl
free_have consts vals k (s ∷ ss) (h, hs) = and_two (has_sort (vals k) s) (sorted_as ss (map vals (from (k + 1) ss))) h (free_have consts vals (k + 1) ss hs)

zero_have : (consts : List Value) (vals : ℕ → Value) (k : ℕ) (ss : List Sort) → Defined consts vals (zero_items k ss) → map vals (from k ss) ≡ map zero_of ss
zero_have consts vals k [] h = refl
zero_have consts vals k (s ∷ ss) (h, hs) = ap (λ v. v ∷ map vals (from (k + 1) ss)) h ∙ ap (λ r. zero_of s ∷ r) (zero_have consts vals (k + 1) ss hs)

free_quiet : (consts : List Value) (vals : ℕ → Value) (on failed : Bool) (k : ℕ) (ss : List Sort) → fails_in consts vals on failed (free_items k ss) ≡ failed
free_quiet consts vals on true k [] = refl
free_quiet consts vals on false k [] = refl
free_quiet consts vals on true k (s ∷ ss) = free_quiet consts vals on true (k + 1) ss
free_quiet consts vals on false k (s ∷ ss) = free_quiet consts vals on false (k + 1) ss

zero_quiet : (consts : List Value) (vals : ℕ → Value) (on failed : Bool) (k : ℕ) (ss : List Sort) → fails_in consts vals on failed (zero_items k ss) ≡ failed
zero_quiet consts vals on true k [] = refl
zero_quiet consts vals on false k [] = refl
zero_quiet consts vals on true k (s ∷ ss) = zero_quiet consts vals on true (k + 1) ss
zero_quiet consts vals on false k (s ∷ ss) = zero_quiet consts vals on false (k + 1) ss

pub start_quiet : (flat : Limited) (q : FlatProc) (kind : FlatKind) (consts : List Value) (vals : ℕ → Value) (on failed : Bool) → fails_in consts vals on failed (passive_start flat q kind).items ≡ failed
start_quiet flat q (Source p) consts vals on failed = free_quiet consts vals on failed (length flat.globals + length q.ins) (q.outs ++ q.locals)
start_quiet flat q (Loop p head) consts vals on failed = zero_quiet consts vals on failed (length flat.globals + length q.ins) (exit_sort ∷ q.locals)

free_sites : (consts : List Value) (vals : ℕ → Value) (on : Bool) (k : ℕ) (ss : List Sort) → sites_in consts vals on (free_items k ss) ≡ []
free_sites consts vals on k [] = refl
free_sites consts vals on k (s ∷ ss) = free_sites consts vals on (k + 1) ss

zero_sites : (consts : List Value) (vals : ℕ → Value) (on : Bool) (k : ℕ) (ss : List Sort) → sites_in consts vals on (zero_items k ss) ≡ []
zero_sites consts vals on k [] = refl
zero_sites consts vals on k (s ∷ ss) = zero_sites consts vals on (k + 1) ss

pub start_sites : (flat : Limited) (q : FlatProc) (kind : FlatKind) (consts : List Value) (vals : ℕ → Value) (on : Bool) → sites_in consts vals on (passive_start flat q kind).items ≡ []
start_sites flat q (Source p) consts vals on = free_sites consts vals on (length flat.globals + length q.ins) (q.outs ++ q.locals)
start_sites flat q (Loop p head) consts vals on = zero_sites consts vals on (length flat.globals + length q.ins) (exit_sort ∷ q.locals)

length_from : (k : ℕ) (ss : List Sort) → length (from k ss) ≡ length ss
length_from k [] = refl
length_from k (s ∷ ss) = ap suc (length_from (k + 1) ss)

same_env : (c g g' l l' : List Value) → g ≡ g' → l ≡ l' → ◌≡◌ {A = Env} (record { consts = c; globals = g; locals = l }) (record { consts = c; globals = g'; locals = l' })
same_env c g g' l l' p q = cc

-- with these values of its versions the start does what its items say
begun : (flat : Limited) (q : FlatProc) (kind : FlatKind) (consts globals args own more : List Value) (vals : ℕ → Value) →
    Defined consts vals (passive_start flat q kind).items → inputs vals (passive_start flat q kind).items ≡ own →
    map vals (from 0 flat.globals) ≡ globals → map vals (from (length flat.globals) q.ins) ≡ args →
    start q kind consts globals args (own ++ more) ≡ Some (alone (record { consts = consts; globals = map vals (passive_start flat q kind).globals; locals = map vals (passive_start flat q kind).locals }) more [] [])
begun flat q (Source p) consts globals args own more vals h is g a =
    let ss = q.outs ++ q.locals in
    let k = length flat.globals + length q.ins in
    let v = map vals (from k ss) in
    let own_is : own ≡ v = sym is ∙ free_inputs vals k ss in
    let n : length v ≡ length ss = length-map (from k ss) vals ∙ length_from k ss in
    let t : take (length ss) (own ++ more) ≡ v = ap (λ x. take (length ss) (x ++ more)) own_is ∙ take_front v more (length ss) n in
    let d : drop (length ss) (own ++ more) ≡ more = ap (λ x. drop (length ss) (x ++ more)) own_is ∙ drop_front v more (length ss) n in
    let ls : args ++ v ≡ map vals (from (length flat.globals) q.ins ++ from k ss) = ap (λ x. x ++ v) (sym a) ∙ sym (map-append vals (from (length flat.globals) q.ins) (from k ss)) in
    ap (λ x. if sorted_as ss x then Some (alone (record { consts = consts; globals = globals; locals = args ++ x }) (drop (length ss) (own ++ more)) [] []) else None) t
    ∙ ap (λ b. if b then Some (alone (record { consts = consts; globals = globals; locals = args ++ v }) (drop (length ss) (own ++ more)) [] []) else None) (free_have consts vals k ss h)
    ∙ ap (λ x. Some (alone (record { consts = consts; globals = globals; locals = args ++ v }) x [] [])) d
    ∙ ap (λ (x : Env). Some (alone x more [] [])) (same_env consts globals (map vals (from 0 flat.globals)) (args ++ v) (map vals (from (length flat.globals) q.ins ++ from k ss)) (sym g) ls)
begun flat q (Loop p head) consts globals args own more vals h is g a =
    let zs = exit_sort ∷ q.locals in
    let k = length flat.globals + length q.ins in
    let ns = from (length flat.globals) q.ins in
    let none : own ≡ [] = sym is ∙ zero_inputs k zs in
    let z : map vals (from k zs) ≡ map zero_of zs = zero_have consts vals k zs h in
    let ls : args ++ (args ++ map zero_of zs) ≡ map vals (ns ++ (ns ++ from k zs)) =
    ap (λ x. x ++ (x ++ map zero_of zs)) (sym a) ∙ ap (λ x. map vals ns ++ (map vals ns ++ x)) (sym z)
    ∙ ap (λ x. map vals ns ++ x) (sym (map-append vals ns (from k zs))) ∙ sym (map-append vals ns (ns ++ from k zs)) in
    ap (λ x. Some (alone (record { consts = consts; globals = globals; locals = args ++ (args ++ map zero_of zs) }) (x ++ more) [] [])) none
    ∙ ap (λ (x : Env). Some (alone x more [] [])) (same_env consts globals (map vals (from 0 flat.globals)) (args ++ (args ++ map zero_of zs)) (map vals (ns ++ (ns ++ from k zs))) (sym g) ls)
  where
    zero_inputs : (k : ℕ) (ss : List Sort) → inputs vals (zero_items k ss) ≡ []
    zero_inputs k [] = refl
    zero_inputs k (s ∷ ss) = zero_inputs (k + 1) ss

-- the same of the terms
module _ (flat : Limited) (q : FlatProc) (kind : FlatKind) (cs globals args : List ℕ) (old new : List TermNode) (d e : Draft)
    (c_are : AreOf old cs flat.consts) (g_are : AreOf old globals flat.globals) (i_are : AreOf old args q.ins) (versions : d.versions ≡ globals ++ args)
    (s : Step cs 0 old d (passive_start flat q kind).items new e) where
  pub start_begins : (a : ℕ → Value) (more : List Value) → IsTrue (fits a new) →
      start q kind (all_at a new cs) (all_at a new globals) (all_at a new args) (reads a d.next (length (start_sorts q kind)) ++ more)
      ≡ Some (alone (record { consts = all_at a new cs; globals = all_at a new (terms_of e.versions (passive_start flat q kind).globals); locals = all_at a new (terms_of e.versions (passive_start flat q kind).locals) }) more [] [])
  start_begins a more f =
      let items = (passive_start flat q kind).items in
      let vals = vals_at a new e.versions in
      let consts = all_at a new cs in
      let m = meant_at a new cs e.versions in
      let says = s.says a consts vals f m in
      let row : e.versions ≡ [] ++ (globals ++ (args ++ s.more)) = s.versions ∙ ap (λ x. x ++ s.more) versions ∙ append_assoc globals args s.more in
      let row2 : e.versions ≡ globals ++ (args ++ s.more) = row in
      let ng = are_count old globals flat.globals g_are in
      let ni = are_count old args q.ins i_are in
      let g_is : map vals (from 0 flat.globals) ≡ all_at a new globals = span_values a new e.versions vals m.each [] globals (args ++ s.more) flat.globals 0 row refl ng in
      let i_is : map vals (from (length flat.globals) q.ins) ≡ all_at a new args = span_values a new e.versions vals m.each globals args s.more q.ins (length flat.globals) row2 ng ni in
      let own : inputs vals items ≡ reads a d.next (length (start_sorts q kind)) = says.inputs_are ∙ ap (λ ss. reads a d.next (length ss)) (start_chosen flat q kind) in
      let p = passive_start flat q kind in
      begun flat q kind consts (all_at a new globals) (all_at a new args) (reads a d.next (length (start_sorts q kind))) more vals says.defined own g_is i_is
      ∙ ap (λ (x : Env). Some (alone x more [] [])) (same_env consts (map vals p.globals) (all_at a new (terms_of e.versions p.globals)) (map vals p.locals) (all_at a new (terms_of e.versions p.locals))
      (sym (terms_are a new e.versions p.globals)) (sym (terms_are a new e.versions p.locals)))

-- ---- the outs

pub outs_next : {A : Type 0} (locals : List ℕ) (k : ℕ) (xs : List A) (i t : ℕ) (found : List ℕ) → i < length xs → t ≡ slice_index locals (k + i) → found ≡ terms_of locals (from k (take i xs)) → found ++ t ∷ [] ≡ terms_of locals (from k (take (i + 1) xs))
outs_next locals k xs i t found l is h = ap (λ x. x ++ t ∷ []) h ∙ ap (λ x. terms_of locals (from k (take i xs)) ++ x ∷ []) is ∙ sym (go k xs i l)
  where
    go : {A : Type 0} (k : ℕ) (xs : List A) (i : ℕ) → i < length xs → terms_of locals (from k (take (i + 1) xs)) ≡ terms_of locals (from k (take i xs)) ++ slice_index locals (k + i) ∷ []
    go k [] i l = absurd (omega (arith, l))
    go k (x ∷ xs) zero l = let e : k ≡ k + 0 = omega arith in ap (λ j. slice_index locals j ∷ []) e
    go k (x ∷ xs) (suc i) l =
        let e : k + 1 + i ≡ k + suc i = omega arith in
        let f : suc i + 1 ≡ suc (i + 1) = omega arith in
        ap (λ j. terms_of locals (from k (take j (x ∷ xs)))) f ∙ ap (λ r. slice_index locals k ∷ r) (go (k + 1) xs i (omega (arith, l)) ∙ ap (λ j. terms_of locals (from (k + 1) (take i xs)) ++ slice_index locals j ∷ []) e)

take_map : {A B : Type 0} (f : A → B) (n : ℕ) (xs : List A) → map f (take n xs) ≡ take n (map f xs)
take_map f zero xs = refl
take_map f (suc n) [] = refl
take_map f (suc n) (x ∷ xs) = ap (λ r. f x ∷ r) (take_map f n xs)

drop_map : {A B : Type 0} (f : A → B) (n : ℕ) (xs : List A) → map f (drop n xs) ≡ drop n (map f xs)
drop_map f zero xs = refl
drop_map f (suc n) [] = refl
drop_map f (suc n) (x ∷ xs) = drop_map f n xs

take_drop : {A : Type 0} (n : ℕ) (xs : List A) → xs ≡ take n xs ++ drop n xs
take_drop zero xs = refl
take_drop (suc n) [] = refl
take_drop (suc n) (x ∷ xs) = ap (λ r. x ∷ r) (take_drop n xs)

take_count : {A : Type 0} (n : ℕ) (xs : List A) → n ≤ length xs → length (take n xs) ≡ n
take_count zero xs l = refl
take_count (suc n) [] l = absurd (omega (arith, l))
take_count (suc n) (x ∷ xs) l = ap suc (take_count n xs (omega (arith, l)))

drop_count : {A : Type 0} (n : ℕ) (xs : List A) → length (drop n xs) ≡ length xs - n
drop_count zero xs = omega arith
drop_count (suc n) [] = omega arith
drop_count (suc n) (x ∷ xs) = let e : suc (length xs) - suc n ≡ length xs - n = omega arith in drop_count n xs ∙ sym e

pub outs_are : (a : ℕ → Value) (nodes : List TermNode) (locals : List ℕ) (ins outs others : List Sort) → AreOf nodes locals (ins ++ (outs ++ others)) →
    all_at a nodes (terms_of locals (from (length ins) outs)) ≡ take (length outs) (drop (length ins) (all_at a nodes locals))
outs_are a nodes locals ins outs others h =
    let vals = vals_at a nodes locals in
    let m = meant_at a nodes [] locals in
    let n : length locals ≡ length ins + (length outs + length others) = are_count nodes locals (ins ++ (outs ++ others)) h ∙ length-append ins (outs ++ others) ∙ ap (λ x. length ins + x) (length-append outs others) in
    let front = take (length ins) locals in
    let rest = drop (length ins) locals in
    let mid = take (length outs) rest in
    let back = drop (length outs) rest in
    let row : locals ≡ front ++ (mid ++ back) = take_drop (length ins) locals ∙ ap (λ x. front ++ x) (take_drop (length outs) rest) in
    let n1 : length front ≡ length ins = take_count (length ins) locals (omega (arith, n)) in
    let n2 : length mid ≡ length outs = take_count (length outs) rest (omega (arith, n, drop_count (length ins) locals)) in
    terms_are a nodes locals (from (length ins) outs)
    ∙ span_values a nodes locals vals m.each front mid back outs (length ins) row n1 n2
    ∙ take_map (at (values a nodes)) (length outs) rest ∙ ap (take (length outs)) (drop_map (at (values a nodes)) (length ins) locals)
