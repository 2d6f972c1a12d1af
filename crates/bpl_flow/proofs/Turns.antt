-- What steps one behind another and an `if` keep of a walk, and what they add.
use Rattle.std.proofs.Common.{◌≡◌, ◌⊎◌, inl, inr, ℕ, ◌+◌, ◌<◌, ◌≤◌, Bool, true, false, ◌||◌, List, [], ◌∷◌, ◌++◌, map, Option, None, refl, ap, ◌∙◌, subst, append_assoc, arith}
use Rattle.std.specs.Prelude.{if◌then◌else◌, nat_lt, nat_le}
use Rattle.std.specs.List.{list_all, AllByRecursion as Each}
use Rattle.std.proofs.lemmas.Bool.{or_left, or_right, and_parts, and_from, lt-ltb, le-leb}
use Rattle.std.proofs.lemmas.List.Folds.{list_all-append}
use Rattle.bpl_ast.specs.declared.name.Name.{Name}
use Rattle.bpl_flow.proofs.Among.{In, each-append}
use Rattle.bpl_flow.proofs.Edges.{Held, Holds, EndedFits}
use Rattle.bpl_flow.proofs.Kept.{statements_of, IsWithin, CurrentFits, IsKept, Stepped, all-within-weaker, held-below, held-from, held-cases, with_end-each, kept-start, kept-ensure, kept-stop, plain-step, ensure-loops, ensure-made}
use Rattle.bpl_flow.proofs.Nesting.{loops_of-append, holds-outer, around-last, far-edge, kept-part, Leaves, left-marks, leave-exit, leave-ended, leave-kept}
use Rattle.bpl_flow.specs.Walk.{Step, begin_else, begin_part, end_if, go_all, in_block, loops_of, stop, walk_if, where_false, where_true, with_end}
use Rattle.bpl_flow.specs.declared.state.Aim.TheVariants.{Block, Exit}
use Rattle.bpl_flow.specs.declared.state.Around.{Around}
use Rattle.bpl_flow.specs.declared.state.End.TheVariants.{Goes}
use Rattle.bpl_flow.specs.declared.state.Walk.{Walk}
use Rattle.hy_val.specs.declared.expr.ExprNode.{ExprNode}
use Rattle.src_prog.specs.Loops.{are_nested, is_apart_or_inside}
use Rattle.hy_val.specs.Scope.{Scope}
use Rattle.src_prog.specs.Scope.{cmd_fits}
use Rattle.src_prog.specs.declared.proc.SrcLoop.{SrcLoop}
use Rattle.src_prog.specs.declared.proc.SrcProc.{SrcProc}

-- ---- loops of two parts

apart-all : (x : SrcLoop) (a m b : ℕ) (ys : List SrcLoop) → IsWithin a m x → Each (IsWithin m b) ys → list_all (is_apart_or_inside x) ys ≡ true
apart-all x a m b [] w v = refl
apart-all x a m b (y ∷ ys) w v =
    let y0 = v.0 in
    and_from (is_apart_or_inside x y) (list_all (is_apart_or_inside x) ys)
    (and_from (nat_lt x.head y.head) (nat_le x.exit y.head || nat_lt y.exit x.exit) (lt-ltb x.head y.head (omega (arith, w.inside, w.below, y0.from)))
    (or_left (nat_le x.exit y.head) (nat_lt y.exit x.exit) (le-leb x.exit y.head (omega (arith, w.below, y0.from)))))
    (apart-all x a m b ys w v.1)

pub nested-append : (a m b : ℕ) (xs ys : List SrcLoop) → Each (IsWithin a m) xs → Each (IsWithin m b) ys → are_nested xs ≡ true → are_nested ys ≡ true → are_nested (xs ++ ys) ≡ true
nested-append a m b [] ys w v p q = q
nested-append a m b (x ∷ xs) ys w v p q =
    let r = and_parts (list_all (is_apart_or_inside x) xs) (are_nested xs) p in
    and_from (list_all (is_apart_or_inside x) (xs ++ ys)) (are_nested (xs ++ ys))
    (list_all-append (is_apart_or_inside x) xs ys ∙ and_from (list_all (is_apart_or_inside x) xs) (list_all (is_apart_or_inside x) ys) r.0 (apart-all x a m b ys w.0 v))
    (nested-append a m b xs ys w.1 v r.1 q)

-- inner loops lie behind the head and below the exit
pub inside-all : (x : SrcLoop) (m b : ℕ) (ys : List SrcLoop) → x.head < m → b ≤ x.exit → Each (IsWithin m b) ys → list_all (is_apart_or_inside x) ys ≡ true
inside-all x m b [] head exit v = refl
inside-all x m b (y ∷ ys) head exit v =
    let y0 = v.0 in
    and_from (is_apart_or_inside x y) (list_all (is_apart_or_inside x) ys)
    (and_from (nat_lt x.head y.head) (nat_le x.exit y.head || nat_lt y.exit x.exit) (lt-ltb x.head y.head (omega (arith, y0.from)))
    (or_right (nat_le x.exit y.head) (nat_lt y.exit x.exit) (lt-ltb y.exit x.exit (omega (arith, y0.below)))))
    (inside-all x m b ys head exit v.1)

module _ (procs : List SrcProc) (scope : Scope) where
  -- ---- one step behind another

  pub step-then : (closed : List SrcLoop) (around : List Around) (w v u : Walk) (s : Stepped procs scope closed around w v) → Stepped procs scope (closed ++ s.new) around v u → Stepped procs scope closed around w u
  step-then closed around w v u s t = record {
    new = s.new ++ t.new;
    loops = t.loops ∙ ap (λ ls. ls ++ t.new) s.loops ∙ append_assoc w.loops s.new t.new;
    made = omega (arith, s.made, t.made);
    within = each-append (IsWithin w.made u.made) s.new t.new
        (all-within-weaker w.made v.made w.made u.made (omega arith) t.made s.new s.within)
        (all-within-weaker v.made u.made w.made u.made s.made (omega arith) t.new t.within);
    nested = nested-append w.made v.made u.made s.new t.new s.within t.within s.nested t.nested;
    kept = subst (λ ls. IsKept procs scope ls around u) (append_assoc closed s.new t.new) t.kept;
  }

  -- a step of any walk
  abbrev pub Steps : Step → Type 0
  Steps s = (closed : List SrcLoop) (around : List Around) (before : Option Name) (w : Walk) → IsKept procs scope closed around w → Stepped procs scope closed around w (s.go around before w)

  pub all-step : (ss : List Step) → Each Steps ss → (closed : List SrcLoop) (around : List Around) (before : Option Name) (w : Walk) → IsKept procs scope closed around w
      → Stepped procs scope closed around w (go_all ss around before w)
  all-step [] each closed around before w k = plain-step procs scope closed around w w refl (omega arith) k
  all-step (s ∷ ss) each closed around before w k =
      let t = each.0 closed around before w k in
      step-then closed around w (s.go around before w) (go_all ss around s.label (s.go around before w)) t (all-step ss each.1 (closed ++ t.new) around s.label (s.go around before w) t.kept)

  -- ---- if

  -- where the parts of an `if` have been walked
  pub record Parted (closed : List SrcLoop) (around : List Around) (a : Around) (from begun part otherwise end : Walk) : Type 0 where
    pub kept : IsKept procs scope closed around from
    pub number : a.statement ≡ from.made
    pub plain : a.is_loop ≡ false
    pub first : begun.made ≡ from.made + 1
    pub second : otherwise.made ≡ part.made + 1
    pub one : Stepped procs scope closed (around ++ a ∷ []) begun part
    pub other : Stepped procs scope (closed ++ one.new) (around ++ a ∷ []) otherwise end

  parted-inner : (closed : List SrcLoop) (around : List Around) (a : Around) (h b : ℕ) → a.is_loop ≡ false → Holds closed (around ++ a ∷ []) h b → Holds closed around h b
  parted-inner closed around a h b e (inl p) = inl p
  parted-inner closed around a h b e (inr p) = inr (subst (In h) (loops_of-none around a e) p.0, p.1)
    where
      loops_of-only : (c : Bool) (s : ℕ) (x : Around) → c ≡ false → map (λ (y : Around). y.statement) (if c then x ∷ [] else []) ≡ []
      loops_of-only false s x e = refl
      loops_of-only true s x e = absurd (cc)

      append-none : (xs ys : List ℕ) → ys ≡ [] → xs ++ ys ≡ xs
      append-none [] ys e = e
      append-none (x ∷ xs) ys e = ap (λ zs. x ∷ zs) (append-none xs ys e)

      loops_of-none : (around : List Around) (a : Around) → a.is_loop ≡ false → loops_of (around ++ a ∷ []) ≡ loops_of around
      loops_of-none around a e = loops_of-append around (a ∷ []) ∙ append-none (loops_of around) (loops_of (a ∷ [])) (loops_of-only a.is_loop a.statement a e)

  parted-apart : (closed : List SrcLoop) (around : List Around) (a : Around) (from begun part otherwise end : Walk) (p : Parted closed around a from begun part otherwise end) (h t : ℕ)
      → (from.made ≤ t) × (t ≤ from.made ⊎ part.made ≤ t) × (t < otherwise.made ⊎ end.made ≤ t)
      → h ≤ t → Held ((closed ++ p.one.new) ++ p.other.new) h t → ⊥
  parted-apart closed around a from begun part otherwise end p h t on le held = parted-or (held-cases (closed ++ p.one.new) p.other.new h t held)
    where
      parted-one : t ≤ from.made ⊎ part.made ≤ t → Held p.one.new h t → ⊥
      parted-one (inl x) q = omega (arith, held-from begun.made part.made p.one.new h t p.one.within q, p.first)
      parted-one (inr x) q = omega (arith, held-below begun.made part.made p.one.new h t p.one.within q)

      parted-other : t < otherwise.made ⊎ end.made ≤ t → Held p.other.new h t → ⊥
      parted-other (inl x) q = omega (arith, held-from otherwise.made end.made p.other.new h t p.other.within q)
      parted-other (inr x) q = omega (arith, held-below otherwise.made end.made p.other.new h t p.other.within q)

      parted-first : Held closed h t ⊎ Held p.one.new h t → ⊥
      parted-first (inl q) = omega (arith, held-below 1 from.made closed h t p.kept.closed q, on.0)
      parted-first (inr q) = parted-one on.1 q

      parted-or : Held (closed ++ p.one.new) h t ⊎ Held p.other.new h t → ⊥
      parted-or (inl q) = parted-first (held-cases closed p.one.new h t q)
      parted-or (inr q) = parted-other on.2 q

  parted-leaves : (closed : List SrcLoop) (around : List Around) (a : Around) (from begun part otherwise end : Walk) (p : Parted closed around a from begun part otherwise end)
      → Leaves procs scope ((closed ++ p.one.new) ++ p.other.new) ((closed ++ p.one.new) ++ p.other.new) around a end.made end
  parted-leaves closed around a from begun part otherwise end p = record {
    kept = p.other.kept;
    exit = omega arith;
    outer = λ s i. omega (arith, (p.kept.around s i).below, p.number);
    closed-within = all-within-weaker 1 end.made 1 (end.made + 1) (omega arith) (omega arith) ((closed ++ p.one.new) ++ p.other.new) p.other.kept.closed;
    forth = λ h b bb held. parted-inner ((closed ++ p.one.new) ++ p.other.new) around a h b p.plain held;
    back = λ h b bb held. holds-outer ((closed ++ p.one.new) ++ p.other.new) around a h b held;
    apart = λ h held. omega (arith, held-below 1 end.made ((closed ++ p.one.new) ++ p.other.new) h end.made p.other.kept.closed held);
  }

  parted-kept : (closed : List SrcLoop) (around : List Around) (a : Around) (from begun part otherwise end : Walk) (p : Parted closed around a from begun part otherwise end)
      → IsKept procs scope ((closed ++ p.one.new) ++ p.other.new) around (end_if from.current a.statement part.made end)
  parted-kept closed around a from begun part otherwise end p =
      let ls = (closed ++ p.one.new) ++ p.other.new in
      let l = parted-leaves closed around a from begun part otherwise end p in
      let more : (from.made < part.made) × (part.made < end.made) = (omega (arith, p.first, p.one.made), omega (arith, p.second, p.other.made)) in
      leave-kept procs scope ((closed ++ p.one.new) ++ p.other.new) ((closed ++ p.one.new) ++ p.other.new) around a end.made end l []
      (with_end from.current (Goes (Block a.statement ∷ Block part.made ∷ [])) (with_end end.current (Goes (Exit a.statement ∷ [])) end.ended)) refl
      (with_end-each (EndedFits procs scope (Holds ((closed ++ p.one.new) ++ p.other.new) around) (left-marks procs scope around a.statement end.made end)) (CurrentFits procs scope from.made (statements_of around)) from.current
      (Goes (Block a.statement ∷ Block part.made ∷ [])) (with_end end.current (Goes (Exit a.statement ∷ [])) end.ended)
      (with_end-each (EndedFits procs scope (Holds ((closed ++ p.one.new) ++ p.other.new) around) (left-marks procs scope around a.statement end.made end)) (CurrentFits procs scope end.made (statements_of (around ++ a ∷ []))) end.current
      (Goes (Exit a.statement ∷ [])) end.ended
      (leave-ended procs scope ((closed ++ p.one.new) ++ p.other.new) ((closed ++ p.one.new) ++ p.other.new) around a end.made end l end.ended p.other.kept.ended)
      p.other.kept.current
      (λ c q. record {
        below = omega (arith, q.below);
        cmds = q.cmds;
        ends = (omega arith, (inl (leave-exit procs scope ((closed ++ p.one.new) ++ p.other.new) ((closed ++ p.one.new) ++ p.other.new) around a end.made end l c.number (q.behind a.statement (around-last around a)) q.below), tt));
      }))
      p.kept.current
      (λ c q. record {
        below = omega (arith, q.below, more.0, more.1);
        cmds = q.cmds;
        ends = (
          omega arith,
          (
            (
              omega (arith, p.number, more.0, more.1),
              far-edge ((closed ++ p.one.new) ++ p.other.new) around c.number a.statement (omega (arith, q.below, p.number)) q.behind
                  (λ h lt held. parted-apart closed around a from begun part otherwise end p h a.statement (omega (arith, p.number), inl (omega (arith, p.number)), inl (omega (arith, p.number, more.0, p.second))) (omega arith) held),
            ),
            (
              (
                omega (arith, more.1),
                far-edge ((closed ++ p.one.new) ++ p.other.new) around c.number part.made (omega (arith, q.below, more.0)) q.behind
                    (λ h lt held. parted-apart closed around a from begun part otherwise end p h part.made (omega (arith, more.0), inr (omega arith), inl (omega (arith, p.second))) (omega arith) held),
              ),
              tt,
            ),
          ),
        );
      }))

  pub step-if : (guard : Option (List ExprNode)) (part other : List Step) → list_all (cmd_fits procs scope) (where_true guard) ≡ true → list_all (cmd_fits procs scope) (where_false guard) ≡ true
      → Each Steps part → Each Steps other
      → (closed : List SrcLoop) (around : List Around) (before : Option Name) (w : Walk) → IsKept procs scope closed around w → Stepped procs scope closed around w (walk_if guard part other around before w)
  step-if guard part other yes-fits not-fits parts others closed around before w k =
      let from = in_block w in
      let a : Around = record { statement = (in_block w).made; label = before; is_loop = false } in
      let kf = kept-ensure procs scope closed around w w.current k in
      let one = all-step part parts closed (around ++ a ∷ []) None (begin_part guard (in_block w)) (kept-part procs scope closed around a (in_block w) guard refl kf yes-fits) in
      let after = go_all part (around ++ a ∷ []) None (begin_part guard (in_block w)) in
      let begun = kept-start procs scope (closed ++ one.new) (around ++ a ∷ []) (stop (Goes (Exit a.statement ∷ [])) after) (where_false guard)
      (kept-stop procs scope (closed ++ one.new) (around ++ a ∷ []) after (Goes (Exit a.statement ∷ [])) one.kept (λ c q. (omega arith, (inr (around-last around a, q.behind a.statement (around-last around a)), tt)))) not-fits in
      let two = all-step other others (closed ++ one.new) (around ++ a ∷ []) None (begin_else a.statement guard after) begun in
      let last = go_all other (around ++ a ∷ []) None (begin_else a.statement guard after) in
      let p : Parted closed around a (in_block w) (begin_part guard (in_block w)) after (begin_else a.statement guard after) last =
      record { kept = kf; number = refl; plain = refl; first = refl; second = refl; one = one; other = two } in
      let n = ensure-made procs scope w.current w in
      let late = one.made in
      let later = two.made in
      record {
        new = one.new ++ two.new;
        loops = two.loops ∙ ap (λ ls. ls ++ two.new) one.loops ∙ append_assoc (in_block w).loops one.new two.new ∙ ap (λ ls. ls ++ (one.new ++ two.new)) (ensure-loops procs scope w.current w);
        made = omega (arith, n, late, later);
        within = each-append (IsWithin w.made (last.made + 1)) one.new two.new
            (all-within-weaker ((in_block w).made + 1) after.made w.made (last.made + 1) (omega (arith, n)) (omega (arith, later)) one.new one.within)
            (all-within-weaker (after.made + 1) last.made w.made (last.made + 1) (omega (arith, n, late)) (omega arith) two.new two.within);
        nested = nested-append ((in_block w).made + 1) after.made last.made one.new two.new one.within (all-within-weaker (after.made + 1) last.made after.made last.made (omega arith) (omega arith) two.new two.within) one.nested two.nested;
        kept = subst (λ ls. IsKept procs scope ls around (end_if (in_block w).current (in_block w).made after.made last)) (append_assoc closed one.new two.new)
            (parted-kept closed around a (in_block w) (begin_part guard (in_block w)) after (begin_else a.statement guard after) last p);
      }
