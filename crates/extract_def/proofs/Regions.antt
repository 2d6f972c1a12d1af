-- In which scope an edge of a procedure arrives.
use Rattle.std.proofs.Common.{◌≡◌, ℕ, zero, suc, ◌≤◌, ◌<◌, Bool, true, false, ◌&&◌, ◌||◌, not, if◌then◌else◌, List, [], ◌∷◌, length, ◌⊎◌, inl, inr, arith, sym, ◌∙◌, ap, refl, subst}
use Rattle.std.proofs.lemmas.Bool.{eqb-true, eq-eqb, ltb-true, leb-true, lt-ltb, le-leb}
use Rattle.std.specs.Prelude.{Option, None, Some, slice_get, nat_eq, nat_lt, nat_le}
use Rattle.std.specs.List.{list_all}
use Rattle.std.specs.Option.{option_map}
use Rattle.src_prog.specs.Loops.{holds_block, is_apart_or_inside, are_nested, edge_fits}
use Rattle.src_prog.specs.declared.block.Next.{Next}
use Rattle.src_prog.specs.declared.block.Next.TheVariants.{Goto, Return}
use Rattle.src_prog.specs.declared.block.SrcBlock.{SrcBlock}
use Rattle.src_prog.specs.declared.proc.SrcLoop.{SrcLoop}
use Rattle.src_prog.specs.declared.proc.SrcProc.{SrcProc}
use Rattle.hy_val.proofs.Booleans.{and-first, and-second, and-both}
use Rattle.src_run.specs.Machine.{Way, Again, Enter, Stay, Out, entry_of}
use Rattle.extract_def.proofs.Ways.{IsEntry, enters as entry_enters, stays as entry_stays}
use Rattle.extract_def.proofs.Facts.{Among, Inside, Around, Holds, IsInside, Seen, Leaves, IsEdge, dest_of}
use Rattle.extract_def.proofs.Members.{all_at, at_is_in}
use Rattle.extract_def.proofs.Reaching.{EdgesFit, LoopsFit, enters, edge_reached, head_reached}
use Rattle.extract_def.specs.Exits.{Dest, Back, At, leaves}
use Rattle.extract_def.specs.Places.{loop_in}
use Rattle.extract_def.specs.Scopes.{Scope, Whole, In, is_in, targets_of, reached_from, reached_blocks, innermost, way_from}

-- ---- how two loops lie

-- l is apart from m, before it, or holds it and its exit
pub record Before (l m : SrcLoop) : Type 0 where
  pub heads : l.head < m.head
  pub lies : (l.exit ≤ m.head) ⊎ (m.exit < l.exit)

pub before_of : (l m : SrcLoop) → is_apart_or_inside l m ≡ true → Before l m
before_of l m h =
    let two = and-second (nat_lt l.head m.head) _ h in
    record { heads = ltb-true l.head m.head (and-first (nat_lt l.head m.head) _ h); lies = at (nat_le l.exit m.head) refl two }
  where
    at : (b : Bool) → nat_le l.exit m.head ≡ b → (b || nat_lt m.exit l.exit) ≡ true → (l.exit ≤ m.head) ⊎ (m.exit < l.exit)
    at true e k = inl (leb-true l.exit m.head e)
    at false e k = inr (ltb-true m.exit l.exit k)

pub two_loops : (ls : List SrcLoop) (l m : SrcLoop) → are_nested ls ≡ true → Among ls l → Among ls m → (l ≡ m) ⊎ (Before l m ⊎ Before m l)
two_loops [] l m h (k, e) b = absurd cc
two_loops (n ∷ ns) l m h (zero, e) (zero, f) = inl cc
two_loops (n ∷ ns) l m h (zero, e) (suc j, f) = let same : n ≡ l = cc in inr (inl (before_of l m (all_at (is_apart_or_inside l) ns m (subst (λ k. list_all (is_apart_or_inside k) ns ≡ true) same (and-first (list_all (is_apart_or_inside n) ns) _ h)) (j, f))))
two_loops (n ∷ ns) l m h (suc k, e) (zero, f) = let same : n ≡ m = cc in inr (inr (before_of m l (all_at (is_apart_or_inside m) ns l (subst (λ k. list_all (is_apart_or_inside k) ns ≡ true) same (and-first (list_all (is_apart_or_inside n) ns) _ h)) (k, e))))
two_loops (n ∷ ns) l m h (suc k, e) (suc j, f) = two_loops ns l m (and-second (list_all (is_apart_or_inside n) ns) _ h) (k, e) (j, f)

pub record Holding (l : SrcLoop) (b : ℕ) : Type 0 where
  pub from : l.head ≤ b
  pub below : b < l.exit

pub holding : (l : SrcLoop) (b : ℕ) → holds_block l b ≡ true → Holding l b
holding l b h = record { from = leb-true l.head b (and-first (nat_le l.head b) _ h); below = ltb-true b l.exit (and-second (nat_le l.head b) _ h) }

pub holds_it : (l : SrcLoop) (b : ℕ) → l.head ≤ b → b < l.exit → holds_block l b ≡ true
holds_it l b h k = and-both (nat_le l.head b) (nat_lt b l.exit) (le-leb l.head b h) (lt-ltb b l.exit k)

-- of two loops that hold a block, one holds the other
pub both_hold : (ls : List SrcLoop) (l m : SrcLoop) (b : ℕ) → are_nested ls ≡ true → Among ls l → Among ls m → holds_block l b ≡ true → holds_block m b ≡ true → (l ≡ m) ⊎ (((l.head < m.head) × (m.exit < l.exit)) ⊎ ((m.head < l.head) × (l.exit < m.exit)))
both_hold ls l m b h x y i j = at (two_loops ls l m h x y) (holding l b i) (holding m b j)
  where
    in_one : (Before l m ⊎ Before m l) → Holding l b → Holding m b → ((l.head < m.head) × (m.exit < l.exit)) ⊎ ((m.head < l.head) × (l.exit < m.exit))
    in_one (inl c) hl hm = more c.lies
      where
        more : (l.exit ≤ m.head) ⊎ (m.exit < l.exit) → ((l.head < m.head) × (m.exit < l.exit)) ⊎ ((m.head < l.head) × (l.exit < m.exit))
        more (inl k) = let p = hl.below in let q = hm.from in absurd (omega (arith, k, p, q))
        more (inr k) = inl (c.heads, k)
    in_one (inr c) hl hm = more c.lies
      where
        more : (m.exit ≤ l.head) ⊎ (l.exit < m.exit) → ((l.head < m.head) × (m.exit < l.exit)) ⊎ ((m.head < l.head) × (l.exit < m.exit))
        more (inl k) = let p = hm.below in let q = hl.from in absurd (omega (arith, k, p, q))
        more (inr k) = inr (c.heads, k)

    at : (l ≡ m) ⊎ (Before l m ⊎ Before m l) → Holding l b → Holding m b → (l ≡ m) ⊎ (((l.head < m.head) × (m.exit < l.exit)) ⊎ ((m.head < l.head) × (l.exit < m.exit)))
    at (inl e) hl hm = inl e
    at (inr c) hl hm = inr (in_one c hl hm)

pub same_loop : (ls : List SrcLoop) (l m : SrcLoop) → are_nested ls ≡ true → Among ls l → Among ls m → l.head ≡ m.head → l ≡ m
same_loop ls l m h x y e = at (two_loops ls l m h x y)
  where
    at : (l ≡ m) ⊎ (Before l m ⊎ Before m l) → l ≡ m
    at (inl k) = k
    at (inr (inl c)) = let k = c.heads in absurd (omega (arith, e, k))
    at (inr (inr c)) = let k = c.heads in absurd (omega (arith, e, k))

-- ---- the innermost loop that passes a test

-- none passes, or this one does, and the others that do have lesser heads
pub data Inmost (test : SrcLoop → Bool) (ls : List SrcLoop) (before found : Scope) : Type 0 where
  none_passes : found ≡ before → ((l : SrcLoop) → Among ls l → test l ≡ false) → Inmost test ls before found
  this_passes : (m : SrcLoop) → found ≡ In m.head m.exit → Among ls m → test m ≡ true → ((l : SrcLoop) → Among ls l → test l ≡ true → (l ≡ m) ⊎ (l.head < m.head)) → Inmost test ls before found

pub inmost : (test : SrcLoop → Bool) (scope : Scope) (ls : List SrcLoop) → are_nested ls ≡ true → Inmost test ls scope (innermost test scope ls)
inmost test scope [] h = none_passes refl (λ l a. absurd (let e = a.1 in cc))
inmost test scope (n ∷ ns) h = at (test n) refl (λ s. inmost test s ns (and-second (list_all (is_apart_or_inside n) ns) _ h))
  where
    now : Scope → Scope
    now s = innermost test s ns

    later : (s : Scope) (t : Bool) → test n ≡ t → s ≡ (if t then In n.head n.exit else scope) → innermost test scope (n ∷ ns) ≡ now s
    later s t e f = ap (λ b. now (if b then In n.head n.exit else scope)) e ∙ ap now (sym f)

    over : (s : Scope) → innermost test scope (n ∷ ns) ≡ now s → (m : SrcLoop) → now s ≡ In m.head m.exit → Among ns m → test m ≡ true → ((l : SrcLoop) → Among ns l → test l ≡ true → (l ≡ m) ⊎ (l.head < m.head)) → Inmost test (n ∷ ns) scope (innermost test scope (n ∷ ns))
    over s is m e a p less = this_passes m (is ∙ e) (suc a.0, a.1) p each
      where
        each : (l : SrcLoop) → Among (n ∷ ns) l → test l ≡ true → (l ≡ m) ⊎ (l.head < m.head)
        each l (zero, f) q = let same : n ≡ l = cc in let b = before_of n m (all_at (is_apart_or_inside n) ns m (and-first (list_all (is_apart_or_inside n) ns) _ h) a) in inr (subst (λ (k : SrcLoop). k.head < m.head) same b.heads)
        each l (suc j, f) q = less l (j, f) q

    at : (t : Bool) → test n ≡ t → ((s : Scope) → Inmost test ns s (now s)) → Inmost test (n ∷ ns) scope (innermost test scope (n ∷ ns))
    at true e ih = more (ih (In n.head n.exit))
      where
        more : Inmost test ns (In n.head n.exit) (now (In n.head n.exit)) → Inmost test (n ∷ ns) scope (innermost test scope (n ∷ ns))
        more (none_passes f g) = this_passes n (later (In n.head n.exit) true e refl ∙ f) (0, refl) e each
          where
            each : (l : SrcLoop) → Among (n ∷ ns) l → test l ≡ true → (l ≡ n) ⊎ (l.head < n.head)
            each l (zero, k) q = inl cc
            each l (suc j, k) q = absurd (let z = g l (j, k) in cc)
        more (this_passes m f a p less) = over (In n.head n.exit) (later (In n.head n.exit) true e refl) m f a p less
    at false e ih = more (ih scope)
      where
        more : Inmost test ns scope (now scope) → Inmost test (n ∷ ns) scope (innermost test scope (n ∷ ns))
        more (none_passes f g) = none_passes (later scope false e refl ∙ f) each
          where
            each : (l : SrcLoop) → Among (n ∷ ns) l → test l ≡ false
            each l (zero, k) = let same : n ≡ l = cc in ap test (sym same) ∙ e
            each l (suc j, k) = g l (j, k)
        more (this_passes m f a p less) = over scope (later scope false e refl) m f a p less

-- where none passes
pub none_is : (test : SrcLoop → Bool) (ls : List SrcLoop) → are_nested ls ≡ true → ((l : SrcLoop) → Among ls l → test l ≡ true → ⊥) → innermost test Whole ls ≡ Whole
none_is test ls h none = at (inmost test Whole ls h)
  where
    at : Inmost test ls Whole (innermost test Whole ls) → innermost test Whole ls ≡ Whole
    at (none_passes e g) = e
    at (this_passes m e a p less) = absurd (none m a p)

-- where this one passes, and the others that do have lesser heads
pub this_is : (test : SrcLoop → Bool) (ls : List SrcLoop) (l : SrcLoop) → are_nested ls ≡ true → Among ls l → test l ≡ true → ((m : SrcLoop) → Among ls m → test m ≡ true → (m ≡ l) ⊎ (m.head < l.head)) → innermost test Whole ls ≡ In l.head l.exit
this_is test ls l h a p least = at (inmost test Whole ls h)
  where
    at : Inmost test ls Whole (innermost test Whole ls) → innermost test Whole ls ≡ In l.head l.exit
    at (none_passes e g) = absurd (let z = g l a in cc)
    at (this_passes m e b q less) = more (least m b q) (less l a p)
      where
        more : (m ≡ l) ⊎ (m.head < l.head) → (l ≡ m) ⊎ (l.head < m.head) → innermost test Whole ls ≡ In l.head l.exit
        more (inl same) r = e ∙ ap (λ (k : SrcLoop). In k.head k.exit) same
        more (inr lt) (inl same) = e ∙ ap (λ (k : SrcLoop). In k.head k.exit) (sym same)
        more (inr lt) (inr lt') = absurd (omega (arith, lt, lt'))

-- what a scope that is found says
pub record Found (test : SrcLoop → Bool) (ls : List SrcLoop) (head exit : ℕ) : Type 0 where
  pub among : Among ls (loop_in head exit)
  pub passes : test (loop_in head exit) ≡ true
  pub least : (l : SrcLoop) → Among ls l → test l ≡ true → (l ≡ loop_in head exit) ⊎ (l.head < head)

pub found_in : (test : SrcLoop → Bool) (ls : List SrcLoop) (head exit : ℕ) → are_nested ls ≡ true → innermost test Whole ls ≡ In head exit → Found test ls head exit
found_in test ls head exit h e = at (inmost test Whole ls h)
  where
    at : Inmost test ls Whole (innermost test Whole ls) → Found test ls head exit
    at (none_passes f g) = absurd (let z : Whole ≡ In head exit = sym f ∙ e in cc)
    at (this_passes m f a p less) =
        let z : In m.head m.exit ≡ In head exit = sym f ∙ e in
        let x : m.head ≡ head = cc in let y : m.exit ≡ exit = cc in
        let same : m ≡ loop_in head exit = ap (λ k. loop_in k m.exit) x ∙ ap (loop_in head) y in
        subst (λ (k : SrcLoop). Found test ls k.head k.exit) same (record { among = a; passes = p; least = less })

pub found_none : (test : SrcLoop → Bool) (ls : List SrcLoop) (l : SrcLoop) → are_nested ls ≡ true → innermost test Whole ls ≡ Whole → Among ls l → test l ≡ true → ⊥
found_none test ls l h e a p = at (inmost test Whole ls h)
  where
    at : Inmost test ls Whole (innermost test Whole ls) → ⊥
    at (none_passes f g) = let z = g l a in cc
    at (this_passes m f b q less) = let z : In m.head m.exit ≡ Whole = sym f ∙ e in cc

-- ---- ways

entry_none : (ls : List SrcLoop) (l : SrcLoop) (to : ℕ) → Among ls l → l.head ≡ to → entry_of ls to ≡ Stay → ⊥
entry_none [] l to (k, e) h s = cc
entry_none (m ∷ ms) l to (zero, e) h s =
    let same : m ≡ l = cc in
    let t = eq-eqb m.head to (ap (λ (k : SrcLoop). k.head) same ∙ h) in
    let z : Enter m.exit ≡ Stay = ap (λ b. if b then Enter m.exit else entry_of ms to) (sym t) ∙ s in cc
entry_none (m ∷ ms) l to (suc k, e) h s = at (nat_eq m.head to) refl (entry_none ms l to (k, e) h)
  where
    at : (b : Bool) → nat_eq m.head to ≡ b → (entry_of ms to ≡ Stay → ⊥) → ⊥
    at true t ih = let z : Enter m.exit ≡ Stay = ap (λ b. if b then Enter m.exit else entry_of ms to) (sym t) ∙ s in cc
    at false t ih = ih (ap (λ b. if b then Enter m.exit else entry_of ms to) (sym t) ∙ s)

entry_found : (ls : List SrcLoop) (to exit : ℕ) → entry_of ls to ≡ Enter exit → Among ls (loop_in to exit)
entry_found [] to exit s = absurd cc
entry_found (m ∷ ms) to exit s = at (nat_eq m.head to) refl (entry_found ms to exit)
  where
    at : (b : Bool) → nat_eq m.head to ≡ b → (entry_of ms to ≡ Enter exit → Among ms (loop_in to exit)) → Among (m ∷ ms) (loop_in to exit)
    at true t ih =
        let z : Enter m.exit ≡ Enter exit = ap (λ b. if b then Enter m.exit else entry_of ms to) (sym t) ∙ s in
        let y : m.exit ≡ exit = cc in
        (0, ap (λ k. Some k) (ap (λ k. loop_in k m.exit) (eqb-true m.head to t) ∙ ap (loop_in to) y))
    at false t ih = let i = ih (ap (λ b. if b then Enter m.exit else entry_of ms to) (sym t) ∙ s) in (suc i.0, i.1)

-- an edge within a loop, or into one inside it
pub record Within (ls : List SrcLoop) (head exit to : ℕ) (y : Way) : Type 0 where
  pub from : head < to
  pub below : to < exit
  pub is : entry_of ls to ≡ y

pub within_of : (ls : List SrcLoop) (head exit to : ℕ) (y : Way) → IsEntry y → way_from ls (In head exit) to ≡ y → Within ls head exit to y
within_of ls head exit to y e h = at (nat_eq head to) (nat_lt head to) (nat_lt to exit) refl refl refl y e h
  where
    at : (a b c : Bool) → nat_eq head to ≡ a → nat_lt head to ≡ b → nat_lt to exit ≡ c → (y : Way) → IsEntry y → (if a then Again else if b && c then entry_of ls to else Out) ≡ y → Within ls head exit to y
    at true b c p q r y (entry_enters x) k = absurd (let z : Again ≡ Enter x = k in cc)
    at true b c p q r y entry_stays k = absurd (let z : Again ≡ Stay = k in cc)
    at false true true p q r y e k = record { from = ltb-true head to q; below = ltb-true to exit r; is = k }
    at false true false p q r y (entry_enters x) k = absurd (let z : Out ≡ Enter x = k in cc)
    at false true false p q r y entry_stays k = absurd (let z : Out ≡ Stay = k in cc)
    at false false c p q r y (entry_enters x) k = absurd (let z : Out ≡ Enter x = k in cc)
    at false false c p q r y entry_stays k = absurd (let z : Out ≡ Stay = k in cc)

-- ---- in a procedure that fits

pub record Fits (q : SrcProc) : Type 0 where
  pub some : 0 < length q.blocks
  pub nested : are_nested q.loops ≡ true
  pub loops : LoopsFit q
  pub edges : EdgesFit q

pub edge_target : (q : SrcProc) (b place to : ℕ) (e : IsEdge q b place (At to)) → is_in to (targets_of e.block.next) ≡ true
edge_target q b place to e = at e.block.next e.dest_is
  where
    some_at : (o : Option ℕ) → option_map At o ≡ Some (At to) → o ≡ Some to
    some_at None k = absurd cc
    some_at (Some u) k = let f : At u ≡ At to = cc in cc

    at : (next : Next) → dest_of next place ≡ Some (At to) → is_in to (targets_of next) ≡ true
    at (Goto ts) k = at_is_in to ts (place, some_at (slice_get ts place) k)
    at Return k = absurd (none place k)
      where
        none : (place : ℕ) → dest_of Return place ≡ Some (At to) → ⊥
        none zero k = let f : Back ≡ At to = cc in cc
        none (suc p) k = cc

pub seen_fits : (q : SrcProc) (b place to : ℕ) → Fits q → IsEdge q b place (At to) → edge_fits q.loops b to ≡ true
seen_fits q b place to f e = (f.edges b e.block to e.block_is (edge_target q b place to e)).1

seen_reaches : (q : SrcProc) (scope : Scope) (b place to : ℕ) → Fits q → Seen q scope b (At to) → IsEdge q b place (At to) → is_in to (reached_blocks q) ≡ true
seen_reaches q scope b place to f s e = edge_reached q f.edges f.loops b to e.block e.block_is (edge_target q b place to e) s.reached

pub loop_order : (q : SrcProc) (l : SrcLoop) → Fits q → Among q.loops l → l.head < l.exit
loop_order q l f a =
    let w = f.loops l a in
    ltb-true l.head l.exit (and-first (nat_lt l.head l.exit) _ (and-second (nat_lt 0 l.head) _ w))

-- a loop inside the scope holds no target of an edge that is seen from there, unless it is entered there
not_inside : (q : SrcProc) (scope : Scope) (b place to : ℕ) → Fits q → Seen q scope b (At to) → IsEdge q b place (At to) → (m : SrcLoop) → Among q.loops m → IsInside scope m → holds_block m to ≡ true → (m.head ≡ to → ⊥) → ⊥
not_inside q scope b place to f s e m a within holds other = at (enters q.loops b to m (seen_fits q b place to f e) a holds)
  where
    at : (holds_block m b ≡ true) ⊎ (m.head ≡ to) → ⊥
    at (inl here) = let out = s.outward m a here within in let z : not (holds_block m to) ≡ false = ap not holds in cc
    at (inr head) = other head

-- a loop that holds a block of a loop is this loop, around it, or inside
beside : (q : SrcProc) (head exit to : ℕ) → Fits q → Among q.loops (loop_in head exit) → holds_block (loop_in head exit) to ≡ true → (m : SrcLoop) → Among q.loops m → holds_block m to ≡ true → (IsInside (In head exit) m → ⊥) → (m ≡ loop_in head exit) ⊎ (m.head < head)
beside q head exit to f a holds m b holds' not_in = at (both_hold q.loops (loop_in head exit) m to f.nested a b holds holds')
  where
    at : (loop_in head exit ≡ m) ⊎ (((head < m.head) × (m.exit < exit)) ⊎ ((m.head < head) × (exit < m.exit))) → (m ≡ loop_in head exit) ⊎ (m.head < head)
    at (inl e) = inl (sym e)
    at (inr (inl c)) = absurd (not_in c)
    at (inr (inr c)) = inr c.0

pub inside_first : (q : SrcProc) → Fits q → Inside q Whole 0
inside_first q f = record { reached = first q.blocks f.some; is = none_is (λ l. holds_block l 0) q.loops f.nested (λ l a h. let k = holding l 0 h in let w = ltb-true 0 l.head (and-first (nat_lt 0 l.head) _ (f.loops l a)) in let p = k.from in omega (arith, p, w)) }
  where
    first : (blocks : List SrcBlock) → 0 < length blocks → is_in 0 (reached_from 0 blocks (0 ∷ [])) ≡ true
    first [] lt = absurd (omega (arith, lt))
    first (b ∷ bs) lt = refl

pub inside_head : (q : SrcProc) (head exit : ℕ) → Fits q → Among q.loops (loop_in head exit) → is_in head (reached_blocks q) ≡ true → Inside q (In head exit) head
inside_head q head exit f a r =
    let order = loop_order q (loop_in head exit) f a in
    record {
      reached = r;
      is = this_is (λ l. holds_block l head) q.loops (loop_in head exit) f.nested a (holds_it (loop_in head exit) head (omega arith) order)
          (λ m b h. beside q head exit head f a (holds_it (loop_in head exit) head (omega arith) order) m b h (λ c. let k = holding m head h in let p = k.from in let z = c.0 in omega (arith, p, z)));
    }

pub inside_again : (q : SrcProc) (head exit b : ℕ) (dest : Dest) → Fits q → Seen q (In head exit) b dest → Inside q (In head exit) head
inside_again q head exit b dest f s = inside_head q head exit f s.held.0 (head_reached q f.edges f.loops b (loop_in head exit) s.held.0 s.held.1 s.reached)

pub seen_own : (q : SrcProc) (scope : Scope) (b : ℕ) (dest : Dest) → Fits q → Inside q scope b → Seen q scope b dest
seen_own q Whole b dest f i = record { reached = i.reached; held = tt; outward = λ l a h w. absurd (found_none (λ m. holds_block m b) q.loops l f.nested i.is a h) }
seen_own q (In head exit) b dest f i =
    let d = found_in (λ m. holds_block m b) q.loops head exit f.nested i.is in
    record { reached = i.reached; held = (d.among, d.passes); outward = λ l a h w. at l w (d.least l a h) }
  where
    at : (l : SrcLoop) → IsInside (In head exit) l → (l ≡ loop_in head exit) ⊎ (l.head < head) → leaves l dest ≡ true
    at l w (inl e) = let z : l.head ≡ head = ap (λ (k : SrcLoop). k.head) e in let p = w.0 in absurd (omega (arith, p, z))
    at l w (inr lt) = let p = w.0 in absurd (omega (arith, p, lt))

pub inside_stay : (q : SrcProc) (scope : Scope) (b place to : ℕ) → Fits q → Seen q scope b (At to) → IsEdge q b place (At to) → way_from q.loops scope to ≡ Stay → Inside q scope to
inside_stay q Whole b place to f s e w =
    record {
      reached = seen_reaches q Whole b place to f s e;
      is = none_is (λ l. holds_block l to) q.loops f.nested (λ l a h. not_inside q Whole b place to f s e l a tt h (λ k. entry_none q.loops l to a k w));
    }
inside_stay q (In head exit) b place to f s e w =
    let i = within_of q.loops head exit to Stay entry_stays w in
    let lt = i.from in
    let holds = holds_it (loop_in head exit) to (omega (arith, lt)) i.below in
    record {
      reached = seen_reaches q (In head exit) b place to f s e;
      is = this_is (λ l. holds_block l to) q.loops (loop_in head exit) f.nested s.held.0 holds
          (λ m a h. beside q head exit to f s.held.0 holds m a h (λ c. not_inside q (In head exit) b place to f s e m a c h (λ k. entry_none q.loops m to a k i.is)));
    }

pub around_test : (l : SrcLoop) (head : ℕ) → (holds_block l head && not (nat_eq l.head head)) ≡ true → (holds_block l head ≡ true) × (l.head ≡ head → ⊥)
around_test l head h = (and-first (holds_block l head) _ h, λ e. let t = eq-eqb l.head head e in let z : not (nat_eq l.head head) ≡ false = ap not t in let y = and-second (holds_block l head) _ h in cc)

test_around : (l : SrcLoop) (head : ℕ) → holds_block l head ≡ true → (l.head ≡ head → ⊥) → (holds_block l head && not (nat_eq l.head head)) ≡ true
test_around l head h other = and-both (holds_block l head) (not (nat_eq l.head head)) h (at (nat_eq l.head head) refl)
  where
    at : (b : Bool) → nat_eq l.head head ≡ b → not (nat_eq l.head head) ≡ true
    at true e = absurd (other (eqb-true l.head head e))
    at false e = ap not e

pub inside_enter : (q : SrcProc) (scope : Scope) (b place to exit : ℕ) → Fits q → Seen q scope b (At to) → IsEdge q b place (At to) → way_from q.loops scope to ≡ Enter exit → Inside q (In to exit) to × Around q to exit scope
inside_enter q Whole b place to exit f s e w =
    let a = entry_found q.loops to exit w in
    let r = seen_reaches q Whole b place to f s e in (
      inside_head q to exit f a r,
      record {
        reached = r;
        among = a;
        is = none_is (λ l. holds_block l to && not (nat_eq l.head to)) q.loops f.nested (λ m c h. let t = around_test m to h in not_inside q Whole b place to f s e m c tt t.0 t.1);
      },
    )
inside_enter q (In head end) b place to exit f s e w =
    let i = within_of q.loops head end to (Enter exit) (entry_enters exit) w in
    let a = entry_found q.loops to exit i.is in
    let r = seen_reaches q (In head end) b place to f s e in
    let lt = i.from in
    let holds = holds_it (loop_in head end) to (omega (arith, lt)) i.below in (
      inside_head q to exit f a r,
      record {
        reached = r;
        among = a;
        is = this_is (λ l. holds_block l to && not (nat_eq l.head to)) q.loops (loop_in head end) f.nested s.held.0 (test_around (loop_in head end) to holds (λ k. omega (arith, lt, k)))
            (λ m c h. let t = around_test m to h in beside q head end to f s.held.0 holds m c t.0 (λ d. not_inside q (In head end) b place to f s e m c d t.0 t.1));
      },
    )

-- the loop around a loop holds it
pub around_holds : (q : SrcProc) (head exit outer end : ℕ) → Fits q → Around q head exit (In outer end) → Among q.loops (loop_in outer end) × (outer < head) × (exit < end)
around_holds q head exit outer end f a =
    let d = found_in (λ l. holds_block l head && not (nat_eq l.head head)) q.loops outer end f.nested a.is in
    let t = around_test (loop_in outer end) head d.passes in
    let order = loop_order q (loop_in head exit) f a.among in
    let two = both_hold q.loops (loop_in outer end) (loop_in head exit) head f.nested d.among a.among t.0 (holds_it (loop_in head exit) head (omega arith) order) in
    let u = at two t.0 t.1 in (d.among, u.0, u.1)
  where
    at : (loop_in outer end ≡ loop_in head exit) ⊎ (((outer < head) × (exit < end)) ⊎ ((head < outer) × (end < exit))) → holds_block (loop_in outer end) head ≡ true → (outer ≡ head → ⊥) → (outer < head) × (exit < end)
    at (inl e) h n = absurd (n (ap (λ (k : SrcLoop). k.head) e))
    at (inr (inl c)) h n = c
    at (inr (inr c)) h n = let k = (holding (loop_in outer end) head h).from in let z = c.0 in absurd (omega (arith, k, z))

pub seen_out : (q : SrcProc) (scope : Scope) (head exit b : ℕ) (dest : Dest) → Fits q → Around q head exit scope → Seen q (In head exit) b dest → Leaves head exit dest → Seen q scope b dest
seen_out q scope head exit b dest f a s out = record { reached = s.reached; held = held scope a; outward = λ l c h w. each l c h w }
  where
    own : Holding (loop_in head exit) b
    own = holding (loop_in head exit) b s.held.1

    held : (scope : Scope) → Around q head exit scope → Holds q scope b
    held Whole a = tt
    held (In outer end) a =
        let d = around_holds q head exit outer end f a in
        let x = own.from in let y = own.below in let p = d.1 in let r = d.2 in
        (d.0, holds_it (loop_in outer end) b (omega (arith, x, p)) (omega (arith, y, r)))

    around_more : (scope : Scope) → Around q head exit scope → (l : SrcLoop) → Among q.loops l → l.head < head → exit < l.exit → IsInside scope l → ⊥
    around_more Whole a l c lt gt w =
        let order = loop_order q (loop_in head exit) f a.among in
        found_none (λ m. holds_block m head && not (nat_eq m.head head)) q.loops l f.nested a.is c (test_around l head (holds_it l head (omega (arith, lt)) (omega (arith, order, gt))) (λ e. omega (arith, lt, e)))
    around_more (In outer end) a l c lt gt w =
        let order = loop_order q (loop_in head exit) f a.among in
        let d = found_in (λ m. holds_block m head && not (nat_eq m.head head)) q.loops outer end f.nested a.is in
        at (d.least l c (test_around l head (holds_it l head (omega (arith, lt)) (omega (arith, order, gt))) (λ e. omega (arith, lt, e))))
      where
        at : (l ≡ loop_in outer end) ⊎ (l.head < outer) → ⊥
        at (inl e) = let z : l.head ≡ outer = ap (λ (k : SrcLoop). k.head) e in let p = w.0 in omega (arith, z, p)
        at (inr k) = let p = w.0 in omega (arith, k, p)

    each : (l : SrcLoop) → Among q.loops l → holds_block l b ≡ true → IsInside scope l → leaves l dest ≡ true
    each l c h w = at (both_hold q.loops (loop_in head exit) l b f.nested s.held.0 c s.held.1 h)
      where
        at : (loop_in head exit ≡ l) ⊎ (((head < l.head) × (l.exit < exit)) ⊎ ((l.head < head) × (exit < l.exit))) → leaves l dest ≡ true
        at (inl e) = subst (λ (k : SrcLoop). leaves k dest ≡ true) e out
        at (inr (inl d)) = s.outward l c h d
        at (inr (inr d)) = absurd (around_more scope a l c d.0 d.1 w)
