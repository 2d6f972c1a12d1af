-- What is kept of a walk where an `if` or a `while` begins, and where it ends.
use Rattle.std.proofs.Common.{◌≡◌, ◌⊎◌, inl, inr, ℕ, ◌+◌, ◌<◌, ◌≤◌, Bool, true, false, ◌||◌, nat_eq, List, [], ◌∷◌, ◌++◌, map, Option, Some, refl, sym, ap, ◌∙◌, subst, arith}
use Rattle.std.specs.Prelude.{if◌then◌else◌}
use Rattle.std.specs.List.{list_all, list_any, filter, AllByRecursion as Each}
use Rattle.std.proofs.lemmas.Bool.{eqb-true, eq-eqb, ne_eqb, or_cases, or_left, or_right, or_parts, or_from}
use Rattle.std.proofs.lemmas.List.{map-append}
use Rattle.std.proofs.lemmas.List.Elements.{filter-append}
use Rattle.std.proofs.lemmas.List.Folds.{list_any-append}
use Rattle.bpl_flow.proofs.Among.{In, each-weaker, in-left, in-last, in-cases}
use Rattle.bpl_flow.proofs.Edges.{Held, Holds, has_key, Marks, EdgeFits, Known, ExitFits, EndedFits, PlaceFits, Later, later-ended, later-place-fits}
use Rattle.bpl_flow.proofs.Kept.{statements_of, statements_of-last, loop-around, IsWithin, IsAround, CurrentFits, Kept, marks_of, IsKept, all-within-weaker, with_end-each, kept-start, new-edge}
use Rattle.bpl_flow.specs.Flow.{number_at}
use Rattle.bpl_flow.specs.Walk.{begin_body, begin_part, loops_of, start, stop, where_true, with_end}
use Rattle.bpl_flow.specs.declared.state.Aim.TheVariants.{Block}
use Rattle.bpl_flow.specs.declared.state.Around.{Around}
use Rattle.bpl_flow.specs.declared.state.End.TheVariants.{Goes}
use Rattle.bpl_flow.specs.declared.state.Ended.{Ended}
use Rattle.bpl_flow.specs.declared.state.Walk.{Walk}
use Rattle.hy_val.specs.declared.expr.ExprNode.{ExprNode}
use Rattle.hy_val.specs.Scope.{Scope}
use Rattle.src_prog.specs.Scope.{cmd_fits}
use Rattle.src_prog.specs.declared.block.Cmd.{Cmd}
use Rattle.src_prog.specs.declared.proc.SrcLoop.{SrcLoop}
use Rattle.src_prog.specs.declared.proc.SrcProc.{SrcProc}

-- ---- exits by key

has_key-left : (s : ℕ) (es more : List (ℕ × ℕ)) → has_key s es ≡ true → has_key s (es ++ more) ≡ true
has_key-left s es more h = list_any-append (λ (e : ℕ × ℕ). nat_eq e.0 s) es more ∙ or_left (has_key s es) (has_key s more) h

has_key-last : (s x : ℕ) (es : List (ℕ × ℕ)) → has_key s (es ++ (s, x) ∷ []) ≡ true
has_key-last s x es = list_any-append (λ (e : ℕ × ℕ). nat_eq e.0 s) es ((s, x) ∷ []) ∙ or_right (has_key s es) (has_key s ((s, x) ∷ [])) (or_left (nat_eq s s) false (eq-eqb s s refl))

has_key-none : (t s x : ℕ) (es : List (ℕ × ℕ)) → has_key t es ≡ false → t < s → has_key t (es ++ (s, x) ∷ []) ≡ false
has_key-none t s x es h lt =
    list_any-append (λ (e : ℕ × ℕ). nat_eq e.0 t) es ((s, x) ∷ []) ∙ or_from (has_key t es) (has_key t ((s, x) ∷ [])) h (or_from (nat_eq s t) false (ne_eqb s t (λ e. omega arith)) refl)

has_key-one : (t s x limit : ℕ) → s < limit → (nat_eq s t ≡ true) ⊎ (false ≡ true) → t < limit
has_key-one t s x limit below (inl e) = omega (arith, eqb-true s t e)
has_key-one t s x limit below (inr e) = absurd (cc)

has_key-or : (t s x limit : ℕ) (es : List (ℕ × ℕ)) → (has_key t es ≡ true → t < limit) → s < limit → (has_key t es ≡ true) ⊎ (has_key t ((s, x) ∷ []) ≡ true) → t < limit
has_key-or t s x limit es f below (inl h) = f h
has_key-or t s x limit es f below (inr h) = has_key-one t s x limit below (or_cases (nat_eq s t) false h)

has_key-below : (t s x limit : ℕ) (es : List (ℕ × ℕ)) → (has_key t es ≡ true → t < limit) → s < limit → has_key t (es ++ (s, x) ∷ []) ≡ true → t < limit
has_key-below t s x limit es f below h =
    has_key-or t s x limit es f below (or_cases (has_key t es) (has_key t ((s, x) ∷ [])) (sym (list_any-append (λ (e : ℕ × ℕ). nat_eq e.0 t) es ((s, x) ∷ [])) ∙ h))

number_at-if : (b c : Bool) (n m k : ℕ) → (b || c) ≡ true → (c ≡ true → m ≡ k) → (if b then n else m) ≡ (if b then n else k)
number_at-if true c n m k h f = refl
number_at-if false c n m k h f = f h

number_at-left : (s : ℕ) (es more : List (ℕ × ℕ)) → has_key s es ≡ true → number_at s (es ++ more) ≡ number_at s es
number_at-left s [] more h = absurd (cc)
number_at-left s ((k, n) ∷ es) more h = number_at-if (nat_eq k s) (has_key s es) n (number_at s (es ++ more)) (number_at s es) h (number_at-left s es more)

number_at-last : (s x : ℕ) (es : List (ℕ × ℕ)) → has_key s es ≡ false → number_at s (es ++ (s, x) ∷ []) ≡ x
number_at-last s x [] h = rw (eq-eqb s s refl) refl
number_at-last s x ((k, n) ∷ es) h =
    let p = or_parts (nat_eq k s) (has_key s es) h in
    rw p.0 (number_at-last s x es p.1)

-- ---- loops around

pub loops_of-append : (around more : List Around) → loops_of (around ++ more) ≡ loops_of around ++ loops_of more
loops_of-append around more =
    ap (map (λ (x : Around). x.statement)) (filter-append (λ (x : Around). x.is_loop) around more)
    ∙ map-append (λ (x : Around). x.statement) (filter (λ (x : Around). x.is_loop) around) (filter (λ (x : Around). x.is_loop) more)

loop-outer : (around : List Around) (a : Around) (h : ℕ) → In h (loops_of around) → In h (loops_of (around ++ a ∷ []))
loop-outer around a h i = subst (In h) (sym (loops_of-append around (a ∷ []))) (in-left h (loops_of around) (loops_of (a ∷ [])) i)

loop-one : (b : Bool) (a : Around) (h : ℕ) → In h (statements_of (if b then a ∷ [] else [])) → h ≡ a.statement
loop-one false a h i = absurd (cc)
loop-one true a h i = loop-only (or_cases (nat_eq h a.statement) false i)
  where
    loop-only : (nat_eq h a.statement ≡ true) ⊎ (false ≡ true) → h ≡ a.statement
    loop-only (inl e) = eqb-true h a.statement e
    loop-only (inr e) = absurd (cc)

loop-split : (around : List Around) (a : Around) (h : ℕ) → In h (loops_of around) ⊎ In h (loops_of (a ∷ [])) → In h (loops_of around) ⊎ (h ≡ a.statement)
loop-split around a h (inl i) = inl i
loop-split around a h (inr i) = inr (loop-one a.is_loop a h i)

loop-inner : (around : List Around) (a : Around) (h : ℕ) → In h (loops_of (around ++ a ∷ [])) → In h (loops_of around) ⊎ (h ≡ a.statement)
loop-inner around a h i =
    loop-split around a h (or_cases (list_any (nat_eq h) (loops_of around)) (list_any (nat_eq h) (loops_of (a ∷ [])))
    (sym (list_any-append (nat_eq h) (loops_of around) (loops_of (a ∷ []))) ∙ subst (In h) (loops_of-append around (a ∷ [])) i))

pub holds-outer : (closed : List SrcLoop) (around : List Around) (a : Around) (h b : ℕ) → Holds closed around h b → Holds closed (around ++ a ∷ []) h b
holds-outer closed around a h b (inl p) = inl p
holds-outer closed around a h b (inr p) = inr (loop-outer around a h p.0, p.1)

holds-inner-or : (closed : List SrcLoop) (around : List Around) (a : Around) (h b : ℕ) → h ≤ b → In h (loops_of around) ⊎ (h ≡ a.statement) → Holds closed around h b ⊎ ((h ≡ a.statement) × (h ≤ b))
holds-inner-or closed around a h b le (inl i) = inl (inr (i, le))
holds-inner-or closed around a h b le (inr e) = inr (e, le)

pub holds-inner : (closed : List SrcLoop) (around : List Around) (a : Around) (h b : ℕ) → Holds closed (around ++ a ∷ []) h b → Holds closed around h b ⊎ ((h ≡ a.statement) × (h ≤ b))
holds-inner closed around a h b (inl p) = inl (inl p)
holds-inner closed around a h b (inr p) = holds-inner-or closed around a h b p.1 (loop-inner around a h p.0)

around-cases : (around : List Around) (a : Around) (s : ℕ) → In s (statements_of (around ++ a ∷ [])) → In s (statements_of around) ⊎ (s ≡ a.statement)
around-cases around a s i = in-cases s (statements_of around) a.statement (subst (In s) (statements_of-last around a) i)

around-outer : (around : List Around) (a : Around) (s : ℕ) → In s (statements_of around) → In s (statements_of (around ++ a ∷ []))
around-outer around a s i = subst (In s) (sym (statements_of-last around a)) (in-left s (statements_of around) (a.statement ∷ []) i)

pub around-last : (around : List Around) (a : Around) → In a.statement (statements_of (around ++ a ∷ []))
around-last around a = subst (In a.statement) (sym (statements_of-last around a)) (in-last (statements_of around) a.statement)

-- an edge to a block that no loop holds but those around
pub far-edge : (closed : List SrcLoop) (around : List Around) (b t : ℕ) → b < t → ((s : ℕ) → In s (statements_of around) → s ≤ b) → ((h : ℕ) → h < t → Held closed h t → ⊥) → EdgeFits (Holds closed around) b t
far-edge closed around b t on behind f = record {
  way = inl on;
  entered = λ h lt held. far-held h lt held;
}
  where
    far-held : (h : ℕ) → h < t → Holds closed around h t → Holds closed around h b
    far-held h lt (inl p) = absurd (f h lt p)
    far-held h lt (inr p) = inr (p.0, behind h (loop-around around h p.0))

module _ (procs : List SrcProc) (scope : Scope) where
  -- ---- a statement begins

  abbrev entered-marks : List Around → Around → Walk → Marks
  entered-marks around a w = record { limit = w.made + 1; around = statements_of (around ++ a ∷ []); exits = w.exits; places = w.places; jumps = w.jumps }

  enter-back : (closed : List SrcLoop) (around : List Around) (a : Around) (limit h b : ℕ) → a.statement ≡ limit → b < limit → Holds closed around h b ⊎ ((h ≡ a.statement) × (h ≤ b)) → Holds closed around h b
  enter-back closed around a limit h b e below (inl p) = p
  enter-back closed around a limit h b e below (inr p) = absurd (omega (arith, p.0, p.1))

  enter-later : (closed : List SrcLoop) (around : List Around) (a : Around) (w : Walk) → a.statement ≡ w.made → Later (Holds closed around) (Holds closed (around ++ a ∷ [])) (marks_of around w) (entered-marks around a w)
  enter-later closed around a w e = record {
    limit = omega arith;
    forth = λ h b bb held. holds-outer closed around a h b held;
    back = λ h b bb held. enter-back closed around a w.made h b e bb (holds-inner closed around a h b held);
    exits = λ s has. (has, refl);
    around = λ b s bb i le. inr (around-outer around a s i, le);
    places = λ name p f. inl f;
    jumps = λ j f. f;
  }

  enter-around : (around : List Around) (a : Around) (w : Walk) (s : ℕ) → a.statement ≡ w.made → 0 < w.made → ((t : ℕ) → In t (statements_of around) → IsAround w.made w.exits t) → ((t : ℕ) → has_key t w.exits ≡ true → t < w.made)
      → In s (statements_of around) ⊎ (s ≡ a.statement) → IsAround (w.made + 1) w.exits s
  enter-around around a w s e some f keys (inl i) = let k = f s i in record { some = k.some; below = omega (arith, k.below); new = k.new }
  enter-around around a w s e some f keys (inr same) = record { some = omega arith; below = omega arith; new = enter-new (has_key s w.exits) (λ h. keys s h) }
    where
      enter-new : (b : Bool) → (b ≡ true → s < w.made) → b ≡ false
      enter-new false g = refl
      enter-new true g = absurd (omega (arith, g refl))

  enter-behind : (around : List Around) (a : Around) (w : Walk) (s : ℕ) → a.statement ≡ w.made → ((t : ℕ) → In t (statements_of around) → IsAround w.made w.exits t) → In s (statements_of around) ⊎ (s ≡ a.statement) → s ≤ w.made
  enter-behind around a w s e f (inl i) = omega (arith, (f s i).below)
  enter-behind around a w s e f (inr same) = omega arith

  enter-kept : (closed : List SrcLoop) (around : List Around) (a : Around) (w : Walk) (first : List Cmd) (done : List Ended) → a.statement ≡ w.made → IsKept procs scope closed around w → list_all (cmd_fits procs scope) first ≡ true
      → Each (EndedFits procs scope (Holds closed (around ++ a ∷ [])) (entered-marks around a w)) done
      → Kept procs scope closed (around ++ a ∷ []) (Some (record { number = w.made; cmds = first })) done (entered-marks around a w)
  enter-kept closed around a w first done e k fits ended = record {
    some = omega arith;
    closed = all-within-weaker 1 w.made 1 (w.made + 1) (omega arith) (omega arith) closed k.closed;
    around = λ s i. enter-around around a w s e k.some k.around k.keys (around-cases around a s i);
    keys = λ s has. omega (arith, k.keys s has);
    current = record { below = omega arith; cmds = fits; behind = λ s i. enter-behind around a w s e k.around (around-cases around a s i) };
    ended = ended;
    places = each-weaker (PlaceFits (Holds closed around) w.made) (PlaceFits (Holds closed (around ++ a ∷ [])) (w.made + 1))
        (later-place-fits (Holds closed around) (Holds closed (around ++ a ∷ [])) (marks_of around w) (entered-marks around a w) (enter-later closed around a w e)) w.places k.places;
  }

  enter-ended : (closed : List SrcLoop) (around : List Around) (a : Around) (w : Walk) → a.statement ≡ w.made → IsKept procs scope closed around w
      → Each (EndedFits procs scope (Holds closed (around ++ a ∷ [])) (entered-marks around a w)) w.ended
  enter-ended closed around a w e k =
      each-weaker (EndedFits procs scope (Holds closed around) (marks_of around w)) (EndedFits procs scope (Holds closed (around ++ a ∷ [])) (entered-marks around a w))
      (later-ended (Holds closed around) (Holds closed (around ++ a ∷ [])) (marks_of around w) (entered-marks around a w) (enter-later closed around a w e) procs scope) w.ended k.ended

  pub kept-part : (closed : List SrcLoop) (around : List Around) (a : Around) (w : Walk) (guard : Option (List ExprNode)) → a.statement ≡ w.made → IsKept procs scope closed around w → list_all (cmd_fits procs scope) (where_true guard) ≡ true
      → IsKept procs scope closed (around ++ a ∷ []) (begin_part guard w)
  kept-part closed around a w guard e k fits = enter-kept closed around a w (where_true guard) w.ended e k fits (enter-ended closed around a w e k)

  enter-edge-or : (closed : List SrcLoop) (around : List Around) (a : Around) (b t h : ℕ) → a.statement ≡ t → h < t → EdgeFits (Holds closed around) b t → Holds closed around h t ⊎ ((h ≡ a.statement) × (h ≤ t)) → Holds closed (around ++ a ∷ []) h b
  enter-edge-or closed around a b t h e lt edge (inl p) = holds-outer closed around a h b (edge.entered h lt p)
  enter-edge-or closed around a b t h e lt edge (inr p) = absurd (omega (arith, p.0))

  pub kept-body : (closed : List SrcLoop) (around : List Around) (a : Around) (w : Walk) (guard : Option (List ExprNode)) (asserts : ℕ) → a.statement ≡ w.made → IsKept procs scope closed around w → list_all (cmd_fits procs scope) (where_true guard) ≡ true
      → IsKept procs scope closed (around ++ a ∷ []) (begin_body guard asserts w)
  kept-body closed around a w guard asserts e k fits =
      kept-start procs scope closed (around ++ a ∷ []) (record (start [] (stop (Goes (Block w.made ∷ [])) w)) { asserts = asserts; loops = [] }) (where_true guard)
      (enter-kept closed around a w [] (with_end w.current (Goes (Block w.made ∷ [])) w.ended) e k refl
      (with_end-each (EndedFits procs scope (Holds closed (around ++ a ∷ [])) (entered-marks around a w)) (CurrentFits procs scope w.made (statements_of around)) w.current (Goes (Block w.made ∷ [])) w.ended
      (enter-ended closed around a w e k) k.current
      (λ c q. let edge = new-edge procs scope closed around w.made c.number w.made k.closed (omega arith) q.below q.behind in
      record {
        below = omega (arith, q.below);
        cmds = q.cmds;
        ends = (
          omega arith,
          (
            (
              omega arith,
              record {
                way = inl q.below;
                entered = λ h lt held. enter-edge-or closed around a c.number w.made h e lt edge (holds-inner closed around a h w.made held);
              },
            ),
            tt,
          ),
        );
      })))
      fits

  -- ---- a statement ends

  abbrev pub left-marks : List Around → ℕ → ℕ → Walk → Marks
  left-marks around s x v = record { limit = x + 1; around = statements_of around; exits = v.exits ++ (s, x) ∷ []; places = v.places; jumps = v.jumps }

  -- what is known where a statement ends: its exit is no block of a loop but those around, and nothing else changes
  pub record Leaves (inner closed : List SrcLoop) (around : List Around) (a : Around) (x : ℕ) (v : Walk) : Type 0 where
    pub kept : IsKept procs scope inner (around ++ a ∷ []) v
    pub exit : v.made ≤ x
    pub outer : (s : ℕ) → In s (statements_of around) → s < a.statement
    pub closed-within : Each (IsWithin 1 (x + 1)) closed
    pub forth : (h b : ℕ) → b < v.made → Holds inner (around ++ a ∷ []) h b → Holds closed around h b
    pub back : (h b : ℕ) → b < v.made → Holds closed around h b → Holds inner (around ++ a ∷ []) h b
    pub apart : (h : ℕ) → Held closed h x → ⊥

  pub leave-exit : (inner closed : List SrcLoop) (around : List Around) (a : Around) (x : ℕ) (v : Walk) (l : Leaves inner closed around a x v) (b : ℕ) → a.statement ≤ b → b < x
      → Known (Holds closed around) (left-marks around a.statement x v) b a.statement
  leave-exit inner closed around a x v l b from below =
      let n : number_at a.statement (v.exits ++ (a.statement, x) ∷ []) ≡ x = number_at-last a.statement x v.exits (l.kept.around a.statement (around-last around a)).new in
      record {
        has = has_key-last a.statement x v.exits;
        below = omega (arith, n);
        edge = subst (EdgeFits (Holds closed around) b) (sym n) (far-edge closed around b x below (λ s i. omega (arith, l.outer s i)) (λ h lt held. l.apart h held));
      }

  leave-around : (inner closed : List SrcLoop) (around : List Around) (a : Around) (x : ℕ) (v : Walk) (l : Leaves inner closed around a x v) (b s : ℕ) → b < v.made → s ≤ b → In s (statements_of around) ⊎ (s ≡ a.statement)
      → ExitFits (Holds closed around) (left-marks around a.statement x v) b s
  leave-around inner closed around a x v l b s below le (inl i) = inr (i, le)
  leave-around inner closed around a x v l b s below le (inr e) =
      inl (subst (Known (Holds closed around) (left-marks around a.statement x v) b) (sym e) (leave-exit inner closed around a x v l b (omega arith) (omega (arith, l.exit))))

  leave-later : (inner closed : List SrcLoop) (around : List Around) (a : Around) (x : ℕ) (v : Walk) (l : Leaves inner closed around a x v)
      → Later (Holds inner (around ++ a ∷ [])) (Holds closed around) (marks_of (around ++ a ∷ []) v) (left-marks around a.statement x v)
  leave-later inner closed around a x v l = record {
    limit = omega (arith, l.exit);
    forth = l.forth;
    back = l.back;
    exits = λ s has. (has_key-left s v.exits ((a.statement, x) ∷ []) has, number_at-left s v.exits ((a.statement, x) ∷ []) has);
    around = λ b s bb i le. leave-around inner closed around a x v l b s bb le (around-cases around a s i);
    places = λ name p e. inl e;
    jumps = λ j f. f;
  }

  pub leave-ended : (inner closed : List SrcLoop) (around : List Around) (a : Around) (x : ℕ) (v : Walk) (l : Leaves inner closed around a x v) (done : List Ended)
      → Each (EndedFits procs scope (Holds inner (around ++ a ∷ [])) (marks_of (around ++ a ∷ []) v)) done → Each (EndedFits procs scope (Holds closed around) (left-marks around a.statement x v)) done
  leave-ended inner closed around a x v l done each =
      each-weaker (EndedFits procs scope (Holds inner (around ++ a ∷ [])) (marks_of (around ++ a ∷ []) v)) (EndedFits procs scope (Holds closed around) (left-marks around a.statement x v))
      (later-ended (Holds inner (around ++ a ∷ [])) (Holds closed around) (marks_of (around ++ a ∷ []) v) (left-marks around a.statement x v) (leave-later inner closed around a x v l) procs scope) done each

  pub leave-kept : (inner closed : List SrcLoop) (around : List Around) (a : Around) (x : ℕ) (v : Walk) (l : Leaves inner closed around a x v) (first : List Cmd) (done : List Ended) → list_all (cmd_fits procs scope) first ≡ true
      → Each (EndedFits procs scope (Holds closed around) (left-marks around a.statement x v)) done
      → Kept procs scope closed around (Some (record { number = x; cmds = first })) done (left-marks around a.statement x v)
  leave-kept inner closed around a x v l first done fits ended =
      let own = l.kept.around a.statement (around-last around a) in
      record {
        some = omega arith;
        closed = l.closed-within;
        around = λ s i.
            let k = l.kept.around s (around-outer around a s i) in
            record { some = k.some; below = omega (arith, k.below, l.exit); new = has_key-none s a.statement x v.exits k.new (l.outer s i) };
        keys = λ s has. omega (arith, l.exit, has_key-below s a.statement x v.made v.exits (l.kept.keys s) own.below has);
        current = record { below = omega arith; cmds = fits; behind = λ s i. omega (arith, l.outer s i, own.below, l.exit) };
        ended = ended;
        places = each-weaker (PlaceFits (Holds inner (around ++ a ∷ [])) v.made) (PlaceFits (Holds closed around) (x + 1))
            (later-place-fits (Holds inner (around ++ a ∷ [])) (Holds closed around) (marks_of (around ++ a ∷ []) v) (left-marks around a.statement x v) (leave-later inner closed around a x v l)) v.places l.kept.places;
      }
