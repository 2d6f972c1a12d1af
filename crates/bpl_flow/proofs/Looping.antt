-- What a `while` keeps of a walk, and what it adds.
use Rattle.std.proofs.Common.{◌≡◌, ◌⊎◌, inl, inr, ℕ, ◌+◌, ◌<◌, ◌≤◌, Bool, true, false, List, [], ◌∷◌, ◌++◌, Option, None, Some, refl, sym, ap, ◌∙◌, subst, arith}
use Rattle.std.specs.List.{list_all, AllByRecursion as Each}
use Rattle.std.proofs.lemmas.Bool.{and_from}
use Rattle.bpl_ast.specs.declared.name.Name.{Name}
use Rattle.bpl_flow.proofs.Among.{In, each-append, each-last, in-last}
use Rattle.bpl_flow.proofs.Edges.{Held, Holds, Marks, EdgeFits, EndedFits}
use Rattle.bpl_flow.proofs.Kept.{statements_of, loop-around, loops_of-loop, IsWithin, CurrentFits, Kept, IsKept, Stepped, all-within-weaker, held-below, held-from, held-cases, held-left, held-right, with_end-each, kept-ensure, ensure-loops, ensure-made}
use Rattle.bpl_flow.proofs.Nesting.{holds-outer, holds-inner, around-last, kept-body, Leaves, left-marks, leave-exit, leave-ended, leave-kept}
use Rattle.bpl_flow.proofs.Turns.{Steps, all-step, inside-all}
use Rattle.bpl_flow.specs.Walk.{Step, add_invariants, begin_body, end_while, go_all, head_block, in_block, is_broken, loops_of, walk_while, where_false, where_true, with_end}
use Rattle.bpl_flow.specs.declared.state.Aim.TheVariants.{Block, Exit}
use Rattle.bpl_flow.specs.declared.state.Around.{Around}
use Rattle.bpl_flow.specs.declared.state.End.TheVariants.{Goes}
use Rattle.bpl_flow.specs.declared.state.Ended.{Ended}
use Rattle.bpl_flow.specs.declared.state.Walk.{Walk}
use Rattle.bpl_type.specs.declared.typed.TypedInvariant.{TypedInvariant}
use Rattle.hy_val.specs.declared.expr.ExprNode.{ExprNode}
use Rattle.src_prog.specs.Loops.{are_nested, is_apart_or_inside}
use Rattle.hy_val.specs.Scope.{Scope}
use Rattle.src_prog.specs.Scope.{cmd_fits}
use Rattle.src_prog.specs.declared.block.Cmd.{Cmd}
use Rattle.src_prog.specs.declared.proc.SrcLoop.{SrcLoop}
use Rattle.src_prog.specs.declared.proc.SrcProc.{SrcProc}

abbrev loop_at : ℕ → Option Name → Around
loop_at s name = record { statement = s; label = name; is_loop = true }

-- a loop between its head and an exit
abbrev between : ℕ → ℕ → SrcLoop
between s x = record { head = s; exit = x }

module _ (procs : List SrcProc) (scope : Scope) where
  -- where the body of a loop has been walked; the exit is to be block x
  pub record Looped (closed : List SrcLoop) (around : List Around) (name : Option Name) (from begun end : Walk) (x : ℕ) : Type 0 where
    pub kept : IsKept procs scope closed around from
    pub first : begun.made ≡ from.made + 2
    pub body : Stepped procs scope closed (around ++ loop_at from.made name ∷ []) begun end
    pub exit : end.made ≤ x

  module _ (closed : List SrcLoop) (around : List Around) (name : Option Name) (from begun end : Walk) (x : ℕ) (p : Looped closed around name from begun end x) where
    -- the loops, the new one before those inside it
    abbrev all_loops : List SrcLoop
    all_loops = closed ++ between from.made x ∷ p.body.new

    more-made : from.made + 2 ≤ end.made
    more-made = omega (arith, p.first, p.body.made)

    own-loop : (b : ℕ) → from.made ≤ b → b < x → Holds all_loops around from.made b
    own-loop b le lt = inl (held-right closed (between from.made x ∷ p.body.new) from.made b (inl (refl, le, lt)))

    loop-forth-or : (h b : ℕ) → b < end.made → Holds (closed ++ p.body.new) around h b ⊎ ((h ≡ from.made) × (h ≤ b)) → Holds all_loops around h b
    loop-forth-or h b bb (inl (inl held)) = inl (loop-held (held-cases closed p.body.new h b held))
      where
        loop-held : Held closed h b ⊎ Held p.body.new h b → Held all_loops h b
        loop-held (inl q) = held-left closed (between from.made x ∷ p.body.new) h b q
        loop-held (inr q) = held-right closed (between from.made x ∷ p.body.new) h b (inr q)
    loop-forth-or h b bb (inl (inr open')) = inr open'
    loop-forth-or h b bb (inr own) = subst (λ n. Holds all_loops around n b) (sym own.0) (own-loop b (omega (arith, own.0, own.1)) (omega (arith, bb, p.exit)))

    loop-back-or : (h b : ℕ) → Held closed h b ⊎ Held (between from.made x ∷ p.body.new) h b → Holds (closed ++ p.body.new) (around ++ loop_at from.made name ∷ []) h b
    loop-back-or h b (inl q) = inl (held-left closed p.body.new h b q)
    loop-back-or h b (inr (inl q)) = inr (subst (In h) (sym (loops_of-loop around from.made name)) (subst (λ n. In n (loops_of around ++ from.made ∷ [])) q.0 (in-last (loops_of around) from.made)), omega (arith, q.0, q.1))
    loop-back-or h b (inr (inr q)) = inl (held-right closed p.body.new h b q)

    loop-back : (h b : ℕ) → Holds all_loops around h b → Holds (closed ++ p.body.new) (around ++ loop_at from.made name ∷ []) h b
    loop-back h b (inl held) = loop-back-or h b (held-cases closed (between from.made x ∷ p.body.new) h b held)
    loop-back h b (inr open') = holds-outer (closed ++ p.body.new) around (loop_at from.made name) h b (inr open')

    -- which loops hold a block from the head on
    loop-held-at : (h t : ℕ) → from.made ≤ t → Held all_loops h t → ((h ≡ from.made) × (t < x)) ⊎ ((from.made + 2 ≤ h) × (t < end.made))
    loop-held-at h t above held = loop-held-or (held-cases closed (between from.made x ∷ p.body.new) h t held)
      where
        loop-held-or : Held closed h t ⊎ Held (between from.made x ∷ p.body.new) h t → ((h ≡ from.made) × (t < x)) ⊎ ((from.made + 2 ≤ h) × (t < end.made))
        loop-held-or (inl q) = absurd (omega (arith, held-below 1 from.made closed h t p.kept.closed q))
        loop-held-or (inr (inl q)) = inl (sym q.0, q.2)
        loop-held-or (inr (inr q)) = inr (omega (arith, held-from begun.made end.made p.body.new h t p.body.within q, p.first), held-below begun.made end.made p.body.new h t p.body.within q)

    loop-apart : (h : ℕ) → Held all_loops h x → ⊥
    loop-apart h held = loop-apart-or (loop-held-at h x (omega (arith, more-made, p.exit)) held)
      where
        loop-apart-or : ((h ≡ from.made) × (x < x)) ⊎ ((from.made + 2 ≤ h) × (x < end.made)) → ⊥
        loop-apart-or (inl q) = omega (arith, q.1)
        loop-apart-or (inr q) = omega (arith, q.1, p.exit)

    loop-leaves : Leaves procs scope (closed ++ p.body.new) all_loops around (loop_at from.made name) x end
    loop-leaves = record {
      kept = p.body.kept;
      exit = p.exit;
      outer = λ s i. (p.kept.around s i).below;
      closed-within = each-append (IsWithin 1 (x + 1)) closed (between from.made x ∷ p.body.new)
          (all-within-weaker 1 from.made 1 (x + 1) (omega arith) (omega (arith, more-made, p.exit)) closed p.kept.closed) (
            record { from = p.kept.some; inside = omega (arith, more-made, p.exit); below = omega arith },
            all-within-weaker begun.made end.made 1 (x + 1) (omega (arith, p.first)) (omega (arith, p.exit)) p.body.new p.body.within,
          );
      forth = λ h b bb held. loop-forth-or h b bb (holds-inner (closed ++ p.body.new) around (loop_at from.made name) h b held);
      back = λ h b bb held. loop-back h b held;
      apart = loop-apart;
    }

    -- an edge from the head to a block that no inner loop holds
    head-edge : (t : ℕ) → from.made < t → ((h : ℕ) → from.made + 2 ≤ h → h < t → t < end.made → ⊥) → EdgeFits (Holds all_loops around) from.made t
    head-edge t on f = record {
      way = inl on;
      entered = λ h lt held. head-held h lt held;
    }
      where
        head-held-or : (h : ℕ) → h < t → ((h ≡ from.made) × (t < x)) ⊎ ((from.made + 2 ≤ h) × (t < end.made)) → Holds all_loops around h from.made
        head-held-or h lt (inl q) = subst (λ n. Holds all_loops around n from.made) (sym q.0) (own-loop from.made (omega arith) (omega (arith, more-made, p.exit)))
        head-held-or h lt (inr q) = absurd (f h q.0 lt q.1)

        head-held : (h : ℕ) → h < t → Holds all_loops around h t → Holds all_loops around h from.made
        head-held h lt (inl q) = head-held-or h lt (loop-held-at h t (omega arith) q)
        head-held h lt (inr q) = inr (q.0, let s = (p.kept.around h (loop-around around h q.0)).below in omega (arith, s))

    -- the edge back to the head
    back-edge : (b : ℕ) → from.made ≤ b → b < end.made → EdgeFits (Holds all_loops around) b from.made
    back-edge b le lt = record {
      way = inr (own-loop b le (omega (arith, p.exit)));
      entered = λ h below held. back-held h below held;
    }
      where
        back-held-or : (h : ℕ) → h < from.made → ((h ≡ from.made) × (from.made < x)) ⊎ ((from.made + 2 ≤ h) × (from.made < end.made)) → Holds all_loops around h b
        back-held-or h below (inl q) = absurd (omega (arith, q.0))
        back-held-or h below (inr q) = absurd (omega (arith, q.0))

        back-held : (h : ℕ) → h < from.made → Holds all_loops around h from.made → Holds all_loops around h b
        back-held h below (inl q) = back-held-or h below (loop-held-at h from.made (omega arith) q)
        back-held h below (inr q) = inr (q.0, omega arith)

    abbrev exit_marks : Marks
    exit_marks = left-marks procs scope around from.made x end

    -- the blocks that the end of a loop adds
    loop-ended : (first : List Cmd) → list_all (cmd_fits procs scope) first ≡ true
        → Each (EndedFits procs scope (Holds all_loops around) exit_marks) (with_end end.current (Goes (Block from.made ∷ [])) (end.ended ++ head_block from.made first end.made ∷ []))
    loop-ended first fits =
        with_end-each (EndedFits procs scope (Holds all_loops around) exit_marks) (CurrentFits procs scope end.made (statements_of (around ++ loop_at from.made name ∷ []))) end.current (Goes (Block from.made ∷ []))
        (end.ended ++ head_block from.made first end.made ∷ [])
        (each-last (EndedFits procs scope (Holds all_loops around) exit_marks) end.ended (head_block from.made first end.made)
        (leave-ended procs scope (closed ++ p.body.new) all_loops around (loop_at from.made name) x end loop-leaves end.ended p.body.kept.ended)
        (record {
          below = omega (arith, more-made, p.exit);
          cmds = fits;
          ends = (
            omega arith,
            (
              (omega (arith, more-made, p.exit), head-edge (from.made + 1) (omega arith) (λ h above lt below. omega arith)),
              (
                (omega (arith, p.exit), head-edge end.made (omega (arith, more-made)) (λ h above lt below. omega arith)),
                tt,
              ),
            ),
          );
        }))
        p.body.kept.current
        (λ c q. record {
          below = omega (arith, q.below, p.exit);
          cmds = q.cmds;
          ends = (omega arith, ((omega (arith, more-made, p.exit), back-edge c.number (q.behind from.made (around-last around (loop_at from.made name))) q.below), tt));
        })

    loop-kept : (first : List Cmd) (done : List Ended) → list_all (cmd_fits procs scope) first ≡ true → Each (EndedFits procs scope (Holds all_loops around) exit_marks) done
        → Kept procs scope all_loops around (Some (record { number = x; cmds = first })) done exit_marks
    loop-kept first done fits each = leave-kept procs scope (closed ++ p.body.new) all_loops around (loop_at from.made name) x end loop-leaves first done fits each

    -- the block of the negated guard, where a break passes by it
    stray-ended : (first : List Cmd) (done : List Ended) → list_all (cmd_fits procs scope) first ≡ true → end.made < x → Each (EndedFits procs scope (Holds all_loops around) exit_marks) done
        → Each (EndedFits procs scope (Holds all_loops around) exit_marks) (done ++ record { number = end.made; cmds = first; end = Goes (Exit from.made ∷ []) } ∷ [])
    stray-ended first done fits below each =
        each-last (EndedFits procs scope (Holds all_loops around) exit_marks) done (record { number = end.made; cmds = first; end = Goes (Exit from.made ∷ []) }) each
        (record {
          below = omega arith;
          cmds = fits;
          ends = (omega arith, (inl (leave-exit procs scope (closed ++ p.body.new) all_loops around (loop_at from.made name) x end loop-leaves end.made (omega (arith, more-made)) below), tt));
        })

    loop-stepped : (w v : Walk) → w.made ≤ from.made → v.made ≡ x + 1 → w.loops ≡ from.loops → v.loops ≡ from.loops ++ between from.made x ∷ end.loops → end.loops ≡ p.body.new → IsKept procs scope all_loops around v
        → Stepped procs scope closed around w v
    loop-stepped w v le made same loops inner k = record {
      new = between from.made x ∷ p.body.new;
      loops = loops ∙ ap (λ ls. ls ++ between from.made x ∷ end.loops) (sym same) ∙ ap (λ ls. w.loops ++ between from.made x ∷ ls) inner;
      made = omega (arith, made, more-made, p.exit);
      within = (
        record { from = le; inside = omega (arith, more-made, p.exit); below = omega (arith, made) },
        all-within-weaker begun.made end.made w.made v.made (omega (arith, p.first)) (omega (arith, made, p.exit)) p.body.new p.body.within,
      );
      nested = and_from (list_all (is_apart_or_inside (between from.made x)) p.body.new) (are_nested p.body.new)
          (inside-all (between from.made x) begun.made end.made p.body.new (omega (arith, p.first)) p.exit p.body.within) p.body.nested;
      kept = k;
    }

  -- the two ends of a loop
  looped-end : (closed : List SrcLoop) (around : List Around) (name : Option Name) (from begun end w : Walk) (broken : Bool) (guard : Option (List ExprNode)) (first : List Cmd)
      → IsKept procs scope closed around from → begun.made ≡ from.made + 2 → (body : Stepped procs scope closed (around ++ loop_at from.made name ∷ []) begun end) → begun.loops ≡ []
      → list_all (cmd_fits procs scope) (where_false guard) ≡ true → list_all (cmd_fits procs scope) first ≡ true
      → w.made ≤ from.made → w.loops ≡ from.loops
      → Stepped procs scope closed around w (end_while broken guard from.made first from.loops end)
  looped-end closed around name from begun end w false guard first k made body none' not-fits fits le same =
      let p : Looped closed around name from begun end end.made = record { kept = k; first = made; body = body; exit = omega arith } in
      loop-stepped closed around name from begun end end.made p w (end_while false guard from.made first from.loops end) le refl same refl (body.loops ∙ ap (λ ls. ls ++ body.new) none')
      (loop-kept closed around name from begun end end.made p (where_false guard) (with_end end.current (Goes (Block from.made ∷ [])) (end.ended ++ head_block from.made first end.made ∷ [])) not-fits
      (loop-ended closed around name from begun end end.made p first fits))
  looped-end closed around name from begun end w true guard first k made body none' not-fits fits le same =
      let p : Looped closed around name from begun end (end.made + 1) = record { kept = k; first = made; body = body; exit = omega arith } in
      loop-stepped closed around name from begun end (end.made + 1) p w (end_while true guard from.made first from.loops end) le refl same refl (body.loops ∙ ap (λ ls. ls ++ body.new) none')
      (loop-kept closed around name from begun end (end.made + 1) p []
      (with_end end.current (Goes (Block from.made ∷ [])) (end.ended ++ head_block from.made first end.made ∷ []) ++ record { number = end.made; cmds = where_false guard; end = Goes (Exit from.made ∷ []) } ∷ []) refl
      (stray-ended closed around name from begun end (end.made + 1) p (where_false guard) (with_end end.current (Goes (Block from.made ∷ [])) (end.ended ++ head_block from.made first end.made ∷ [])) not-fits (omega arith)
      (loop-ended closed around name from begun end (end.made + 1) p first fits)))

  pub step-while : (guard : Option (List ExprNode)) (invariants : List TypedInvariant) (body : List Step) → list_all (cmd_fits procs scope) (where_true guard) ≡ true → list_all (cmd_fits procs scope) (where_false guard) ≡ true
      → ((asserts : ℕ) → list_all (cmd_fits procs scope) (add_invariants invariants [] asserts).0 ≡ true) → Each (Steps procs scope) body
      → (closed : List SrcLoop) (around : List Around) (before : Option Name) (w : Walk) → IsKept procs scope closed around w → Stepped procs scope closed around w (walk_while guard invariants body around before w)
  step-while guard invariants body yes-fits not-fits head-fits steps closed around before w k =
      let a = loop_at (in_block w).made before in
      let kf = kept-ensure procs scope closed around w w.current k in
      let asserts = (add_invariants invariants [] (in_block w).asserts).1 in
      let begun = begin_body guard asserts (in_block w) in
      let one = all-step procs scope body steps closed (around ++ a ∷ []) None begun (kept-body procs scope closed around a (in_block w) guard asserts refl kf yes-fits) in
      let last = go_all body (around ++ a ∷ []) None begun in
      looped-end closed around before (in_block w) begun last w (is_broken guard (in_block w).made last.breaks) guard (add_invariants invariants [] (in_block w).asserts).0
      kf (omega arith) one refl not-fits (head-fits (in_block w).asserts) (ensure-made procs scope w.current w) (sym (ensure-loops procs scope w.current w))
