-- What each statement keeps of a walk, and what it adds.
use Rattle.std.proofs.Common.{◌≡◌, ◌⊎◌, inl, inr, ℕ, ◌+◌, ◌<◌, ◌≤◌, Bool, true, false, nat_eq, List, [], ◌∷◌, ◌++◌, length, map, Option, None, Some, refl, sym, ap, ◌∙◌, subst, arith}
use Rattle.std.specs.Prelude.{IfSome, if◌then◌else◌}
use Rattle.std.specs.List.{list_all, list_any, filter, AllByRecursion as Each}
use Rattle.std.specs.Str.{bytes_eq}
use Rattle.std.proofs.lemmas.Bool.{eq-eqb, or_cases, or_left, or_right, or_parts, and_from}
use Rattle.std.proofs.lemmas.List.{append-nil, map-append, length-map}
use Rattle.std.proofs.lemmas.List.Elements.{filter-append}
use Rattle.std.proofs.lemmas.List.Folds.{list_all-append}
use Rattle.bpl_ast.specs.declared.name.Name.{Name}
use Rattle.bpl_flow.proofs.Among.{In, Among, among-left, among-right, each-last, each-weaker, each-map, each-among}
use Rattle.bpl_flow.proofs.Edges.{Held, Holds, has_key, Marks, EdgeFits, JumpFits, AimFits, EndFits, EndedFits, PlaceFits, Later, later-ended, later-place-fits}
use Rattle.bpl_flow.specs.Flow.{place_of}
use Rattle.bpl_flow.specs.Walk.{append, asserted, break_to, command, ensure, goto, in_block, is_placed, jump_of, label, leaves, left_by, loops_of, start, stop, with_command, with_end}
use Rattle.bpl_flow.specs.declared.state.Aim.TheVariants.{Block, Label, Exit}
use Rattle.bpl_flow.specs.declared.state.Around.{Around}
use Rattle.bpl_flow.specs.declared.state.Current.{Current}
use Rattle.bpl_flow.specs.declared.state.End.{End}
use Rattle.bpl_flow.specs.declared.state.End.TheVariants.{Goes, Returns}
use Rattle.bpl_flow.specs.declared.state.Ended.{Ended}
use Rattle.bpl_flow.specs.declared.state.Jump.{Jump}
use Rattle.bpl_flow.specs.declared.state.Place.{Place}
use Rattle.bpl_flow.specs.declared.state.Walk.{Walk}
use Rattle.hy_val.specs.declared.expr.ExprNode.{ExprNode}
use Rattle.src_prog.specs.Loops.{are_nested}
use Rattle.hy_val.specs.Scope.{Scope}
use Rattle.src_prog.specs.Scope.{cmd_fits}
use Rattle.src_prog.specs.declared.block.Cmd.{Cmd}
use Rattle.src_prog.specs.declared.block.Cmd.TheVariants as cmds
use Rattle.src_prog.specs.declared.proc.SrcLoop.{SrcLoop}
use Rattle.src_prog.specs.declared.proc.SrcProc.{SrcProc}

-- ---- statements around

abbrev pub statements_of : List Around → List ℕ
statements_of around = map (λ a. a.statement) around

pub statements_of-last : (around : List Around) (a : Around) → statements_of (around ++ a ∷ []) ≡ statements_of around ++ a.statement ∷ []
statements_of-last around a = map-append (λ (x : Around). x.statement) around (a ∷ [])

pub loops_of-loop : (around : List Around) (s : ℕ) (name : Option Name) → loops_of (around ++ record { statement = s; label = name; is_loop = true } ∷ []) ≡ loops_of around ++ s ∷ []
loops_of-loop around s name =
    ap (map (λ (x : Around). x.statement)) (filter-append (λ (x : Around). x.is_loop) around (record { statement = s; label = name; is_loop = true } ∷ []))
    ∙ map-append (λ (x : Around). x.statement) (filter (λ (x : Around). x.is_loop) around) (record { statement = s; label = name; is_loop = true } ∷ [])

pub loops_of-if : (around : List Around) (s : ℕ) (name : Option Name) → loops_of (around ++ record { statement = s; label = name; is_loop = false } ∷ []) ≡ loops_of around
loops_of-if around s name =
    ap (map (λ (x : Around). x.statement)) (filter-append (λ (x : Around). x.is_loop) around (record { statement = s; label = name; is_loop = false } ∷ []) ∙ append-nil (filter (λ (x : Around). x.is_loop) around))

in-kept : (b : Bool) (a : Around) (rest : List Around) (ns : List ℕ) (n : ℕ) → (In n (statements_of rest) → In n ns) → In n (statements_of (if b then a ∷ rest else rest)) → In n (a.statement ∷ ns)
in-kept false a rest ns n f h = or_right (nat_eq n a.statement) (list_any (nat_eq n) ns) (f h)
in-kept true a rest ns n f h = in-kept-or (or_cases (nat_eq n a.statement) (list_any (nat_eq n) (statements_of rest)) h)
  where
    in-kept-or : (nat_eq n a.statement ≡ true) ⊎ In n (statements_of rest) → In n (a.statement ∷ ns)
    in-kept-or (inl e) = or_left (nat_eq n a.statement) (list_any (nat_eq n) ns) e
    in-kept-or (inr i) = or_right (nat_eq n a.statement) (list_any (nat_eq n) ns) (f i)

-- a loop around is a statement around
pub loop-around : (around : List Around) (n : ℕ) → In n (loops_of around) → In n (statements_of around)
loop-around [] n h = h
loop-around (a ∷ around) n h = in-kept a.is_loop a (filter (λ (x : Around). x.is_loop) around) (statements_of around) n (loop-around around n) h

-- ---- what is kept

pub record IsWithin (least limit : ℕ) (l : SrcLoop) : Type 0 where
  pub from : least ≤ l.head
  pub inside : l.head < l.exit
  pub below : l.exit < limit

pub record IsAround (limit : ℕ) (exits : List (ℕ × ℕ)) (s : ℕ) : Type 0 where
  pub some : 0 < s
  pub below : s < limit
  pub new : has_key s exits ≡ false

pub record CurrentFits (procs : List SrcProc) (scope : Scope) (limit : ℕ) (outer : List ℕ) (c : Current) : Type 0 where
  pub below : c.number < limit
  pub cmds : list_all (cmd_fits procs scope) c.cmds ≡ true
  pub behind : (s : ℕ) → In s outer → s ≤ c.number

pub record Kept (procs : List SrcProc) (scope : Scope) (loops : List SrcLoop) (outer : List Around) (now : Option Current) (done : List Ended) (m : Marks) : Type 0 where
  pub some : 0 < m.limit
  pub closed : Each (IsWithin 1 m.limit) loops
  pub around : (s : ℕ) → In s m.around → IsAround m.limit m.exits s
  pub keys : (s : ℕ) → has_key s m.exits ≡ true → s < m.limit
  pub current : IfSome now (CurrentFits procs scope m.limit m.around)
  pub ended : Each (EndedFits procs scope (Holds loops outer) m) done
  pub places : Each (PlaceFits (Holds loops outer) m.limit) m.places

abbrev pub marks_of : List Around → Walk → Marks
marks_of around w = record { limit = w.made; around = statements_of around; exits = w.exits; places = w.places; jumps = w.jumps }

-- what is kept of a walk, where these loops have been walked and these statements are around
abbrev pub IsKept : List SrcProc → Scope → List SrcLoop → List Around → Walk → Type 0
IsKept procs scope closed around w = Kept procs scope closed around w.current w.ended (marks_of around w)

-- a step from a walk to another: the loops that it adds have new blocks alone
pub record Stepped (procs : List SrcProc) (scope : Scope) (closed : List SrcLoop) (around : List Around) (w v : Walk) : Type 0 where
  pub new : List SrcLoop
  pub loops : v.loops ≡ w.loops ++ new
  pub made : w.made ≤ v.made
  pub within : Each (IsWithin w.made v.made) new
  pub nested : are_nested new ≡ true
  pub kept : IsKept procs scope (closed ++ new) around v

-- ---- helpers

pub within-weaker : (a b c d : ℕ) → c ≤ a → b ≤ d → (l : SrcLoop) → IsWithin a b l → IsWithin c d l
within-weaker a b c d ca bd l w = record { from = omega (arith, w.from); inside = w.inside; below = omega (arith, w.below) }

pub all-within-weaker : (a b c d : ℕ) → c ≤ a → b ≤ d → (ls : List SrcLoop) → Each (IsWithin a b) ls → Each (IsWithin c d) ls
all-within-weaker a b c d ca bd ls w = each-weaker (IsWithin a b) (IsWithin c d) (within-weaker a b c d ca bd) ls w

-- loops hold no block from the limit on, and none below their heads
pub held-below : (from limit : ℕ) (ls : List SrcLoop) (h b : ℕ) → Each (IsWithin from limit) ls → Held ls h b → b < limit
held-below from limit [] h b w held = absurd held
held-below from limit (l ∷ ls) h b w (inl p) = omega (arith, p.2, w.0.below)
held-below from limit (l ∷ ls) h b w (inr p) = held-below from limit ls h b w.1 p

pub held-from : (from limit : ℕ) (ls : List SrcLoop) (h b : ℕ) → Each (IsWithin from limit) ls → Held ls h b → from ≤ h
held-from from limit [] h b w held = absurd held
held-from from limit (l ∷ ls) h b w (inl p) = omega (arith, p.0, w.0.from)
held-from from limit (l ∷ ls) h b w (inr p) = held-from from limit ls h b w.1 p

pub held-head : (ls : List SrcLoop) (h b : ℕ) → Held ls h b → h ≤ b
held-head [] h b held = absurd held
held-head (l ∷ ls) h b (inl p) = omega (arith, p.0, p.1)
held-head (l ∷ ls) h b (inr p) = held-head ls h b p

pub held-cases : (xs ys : List SrcLoop) (h b : ℕ) → Held (xs ++ ys) h b → Held xs h b ⊎ Held ys h b
held-cases [] ys h b held = inr held
held-cases (x ∷ xs) ys h b (inl p) = inl (inl p)
held-cases (x ∷ xs) ys h b (inr p) = held-one (held-cases xs ys h b p)
  where
    held-one : Held xs h b ⊎ Held ys h b → Held (x ∷ xs) h b ⊎ Held ys h b
    held-one (inl q) = inl (inr q)
    held-one (inr q) = inr q

pub held-left : (xs ys : List SrcLoop) (h b : ℕ) → Held xs h b → Held (xs ++ ys) h b
held-left [] ys h b held = absurd held
held-left (x ∷ xs) ys h b (inl p) = inl p
held-left (x ∷ xs) ys h b (inr p) = inr (held-left xs ys h b p)

pub held-right : (xs ys : List SrcLoop) (h b : ℕ) → Held ys h b → Held (xs ++ ys) h b
held-right [] ys h b held = held
held-right (x ∷ xs) ys h b held = inr (held-right xs ys h b held)

pub with_end-each : (P : Ended → Type 0) (Q : Current → Type 0) (o : Option Current) (end : End) (done : List Ended)
    → Each P done → IfSome o Q → ((c : Current) → Q c → P (record { number = c.number; cmds = c.cmds; end = end })) → Each P (with_end o end done)
with_end-each P Q None end done each some f = each
with_end-each P Q (Some c) end done each some f = each-last P done (record { number = c.number; cmds = c.cmds; end = end }) each (f c some)

-- the same walk, later: nothing but the limit has changed
pub later-limit : (H : ℕ → ℕ → Type 0) (m : Marks) (limit : ℕ) → m.limit ≤ limit → Later H H m (record { limit = limit; around = m.around; exits = m.exits; places = m.places; jumps = m.jumps })
later-limit H m limit more = record {
  limit = more;
  forth = λ h b bb held. held;
  back = λ h b bb held. held;
  exits = λ s has. (has, refl);
  around = λ b s bb i le. inr (i, le);
  places = λ name p e. inl e;
  jumps = λ j a. a;
}

module _ (procs : List SrcProc) (scope : Scope) where
  -- an edge from the current block to a new one
  pub new-edge : (closed : List SrcLoop) (around : List Around) (limit b t : ℕ) → Each (IsWithin 1 limit) closed → limit ≤ t → b < t
      → ((s : ℕ) → In s (statements_of around) → s ≤ b) → EdgeFits (Holds closed around) b t
  new-edge closed around limit b t within new on behind = record {
    way = inl on;
    entered = λ h lt held. new-edge-held h held;
  }
    where
      new-edge-held : (h : ℕ) → Holds closed around h t → Holds closed around h b
      new-edge-held h (inl p) = absurd (omega (arith, held-below 1 limit closed h t within p))
      new-edge-held h (inr p) = inr (p.0, behind h (loop-around around h p.0))

  -- a block begins
  pub kept-start : (closed : List SrcLoop) (around : List Around) (w : Walk) (first : List Cmd) → IsKept procs scope closed around w → list_all (cmd_fits procs scope) first ≡ true
      → IsKept procs scope closed around (start first w)
  kept-start closed around w first k fits =
      let l = later-limit (Holds closed around) (marks_of around w) (w.made + 1) (omega arith) in
      record {
        some = omega arith;
        closed = all-within-weaker 1 w.made 1 (w.made + 1) (omega arith) (omega arith) closed k.closed;
        around = λ s i. let a = k.around s i in record { some = a.some; below = omega (arith, a.below); new = a.new };
        keys = λ s has. omega (arith, k.keys s has);
        current = record { below = omega arith; cmds = fits; behind = λ s i. omega (arith, (k.around s i).below) };
        ended = each-weaker (EndedFits procs scope (Holds closed around) (marks_of around w)) (EndedFits procs scope (Holds closed around) (marks_of around (start first w)))
            (later-ended (Holds closed around) (Holds closed around) (marks_of around w) (marks_of around (start first w)) l procs scope) w.ended k.ended;
        places = each-weaker (PlaceFits (Holds closed around) w.made) (PlaceFits (Holds closed around) (w.made + 1))
            (later-place-fits (Holds closed around) (Holds closed around) (marks_of around w) (marks_of around (start first w)) l) w.places k.places;
      }

  pub kept-ensure : (closed : List SrcLoop) (around : List Around) (w : Walk) (o : Option Current) → IsKept procs scope closed around w → IsKept procs scope closed around (ensure o w)
  kept-ensure closed around w None k = kept-start closed around w [] k refl
  kept-ensure closed around w (Some c) k = k

  -- the current block ends with edges that fit
  pub kept-stop : (closed : List SrcLoop) (around : List Around) (w : Walk) (end : End) → IsKept procs scope closed around w
      → ((c : Current) → CurrentFits procs scope w.made (statements_of around) c → EndFits (Holds closed around) (marks_of around w) c.number end)
      → IsKept procs scope closed around (stop end w)
  kept-stop closed around w end k f = record {
    some = k.some;
    closed = k.closed;
    around = k.around;
    keys = k.keys;
    current = tt;
    ended = with_end-each (EndedFits procs scope (Holds closed around) (marks_of around w)) (CurrentFits procs scope w.made (statements_of around)) w.current end w.ended k.ended k.current
        (λ c q. record { below = q.below; cmds = q.cmds; ends = f c q });
    places = k.places;
  }

  current-with : (limit : ℕ) (outer : List ℕ) (o : Option Current) (cmd : Cmd) → IfSome o (CurrentFits procs scope limit outer) → cmd_fits procs scope cmd ≡ true → IfSome (with_command o cmd) (CurrentFits procs scope limit outer)
  current-with limit outer None cmd q fits = tt
  current-with limit outer (Some c) cmd q fits = record {
    below = q.below;
    cmds = list_all-append (cmd_fits procs scope) c.cmds (cmd ∷ []) ∙ and_from (list_all (cmd_fits procs scope) c.cmds) (list_all (cmd_fits procs scope) (cmd ∷ [])) q.cmds (and_from (cmd_fits procs scope cmd) true fits refl);
    behind = q.behind;
  }

  -- the current block gets a command
  pub kept-append : (closed : List SrcLoop) (around : List Around) (w : Walk) (cmd : Cmd) → IsKept procs scope closed around w → cmd_fits procs scope cmd ≡ true
      → IsKept procs scope closed around (append cmd w)
  kept-append closed around w cmd k fits = record {
    some = k.some;
    closed = k.closed;
    around = k.around;
    keys = k.keys;
    current = current-with w.made (statements_of around) w.current cmd k.current fits;
    ended = k.ended;
    places = k.places;
  }

  pub ensure-loops : (o : Option Current) (w : Walk) → (ensure o w).loops ≡ w.loops
  ensure-loops None w = refl
  ensure-loops (Some c) w = refl

  pub ensure-made : (o : Option Current) (w : Walk) → w.made ≤ (ensure o w).made
  ensure-made None w = omega arith
  ensure-made (Some c) w = omega arith

  -- a step that adds no loop
  pub plain-step : (closed : List SrcLoop) (around : List Around) (w v : Walk) → v.loops ≡ w.loops → w.made ≤ v.made → IsKept procs scope closed around v → Stepped procs scope closed around w v
  plain-step closed around w v same more k = record {
    new = [];
    loops = same ∙ sym (append-nil w.loops);
    made = more;
    within = tt;
    nested = refl;
    kept = subst (λ cl. IsKept procs scope cl around v) (sym (append-nil closed)) k;
  }

  pub step-command : (closed : List SrcLoop) (around : List Around) (w : Walk) (cmd : Cmd) → IsKept procs scope closed around w → cmd_fits procs scope cmd ≡ true
      → Stepped procs scope closed around w (command cmd w)
  step-command closed around w cmd k fits =
      plain-step closed around w (command cmd w) (ensure-loops w.current w) (ensure-made w.current w) (kept-append closed around (in_block w) cmd (kept-ensure closed around w w.current k) fits)

  pub step-assert : (closed : List SrcLoop) (around : List Around) (w : Walk) (condition : List ExprNode) → IsKept procs scope closed around w → cmd_fits procs scope (cmds.Assert (w.asserts + 1) condition) ≡ true
      → Stepped procs scope closed around w (asserted condition w)
  step-assert closed around w condition k fits =
      let cmd = cmds.Assert (w.asserts + 1) condition in
      plain-step closed around w (asserted condition w) (ensure-loops w.current w) (ensure-made w.current w) (kept-append closed around (in_block w) cmd (kept-ensure closed around w w.current k) fits)

  pub step-return : (closed : List SrcLoop) (around : List Around) (w : Walk) → IsKept procs scope closed around w → Stepped procs scope closed around w (stop Returns (in_block w))
  step-return closed around w k =
      plain-step closed around w (stop Returns (in_block w)) (ensure-loops w.current w) (ensure-made w.current w) (kept-stop closed around (in_block w) Returns (kept-ensure closed around w w.current k) (λ c q. tt))

  -- ---- breaks

  left-or : (name : Option Name) (b : Bool) (found : Option ℕ) (a : Around) (rest : List Around) (s : ℕ)
      → In s (statements_of rest) ⊎ ((if b then Some a.statement else found) ≡ Some s) → In s (statements_of (a ∷ rest)) ⊎ (found ≡ Some s)
  left-or name b found a rest s (inl i) = inl (or_right (nat_eq s a.statement) (list_any (nat_eq s) (statements_of rest)) i)
  left-or name true found a rest s (inr e) =
      let same : a.statement ≡ s = cc in
      inl (or_left (nat_eq s a.statement) (list_any (nat_eq s) (statements_of rest)) (eq-eqb s a.statement (sym same)))
  left-or name false found a rest s (inr e) = inr e

  pub left_by-around : (name : Option Name) (found : Option ℕ) (around : List Around) (s : ℕ) → left_by name found around ≡ Some s → In s (statements_of around) ⊎ (found ≡ Some s)
  left_by-around name found [] s e = inr e
  left_by-around name found (a ∷ rest) s e =
      left-or name (leaves name a) found a rest s (left_by-around name (if leaves name a then Some a.statement else found) rest s e)

  left-around : (name : Option Name) (around : List Around) (s : ℕ) → In s (statements_of around) ⊎ (None ≡ Some s) → In s (statements_of around)
  left-around name around s (inl i) = i
  left-around name around s (inr e) = absurd (cc)

  kept-break : (closed : List SrcLoop) (around : List Around) (w : Walk) (o : Option ℕ) (at : ℕ) → ((s : ℕ) → o ≡ Some s → In s (statements_of around)) → IsKept procs scope closed around w
      → IsKept procs scope closed around (break_to o at w)
  kept-break closed around w None at f k = kept-stop closed around w Returns k (λ c q. tt)
  kept-break closed around w (Some s) at f k = kept-stop closed around w (Goes (Exit s ∷ [])) k (λ c q. (omega arith, (inr (f s refl, q.behind s (f s refl)), tt)))

  break-loops : (o : Option ℕ) (at : ℕ) (w : Walk) → (break_to o at w).loops ≡ w.loops
  break-loops None at w = refl
  break-loops (Some s) at w = refl

  break-made : (o : Option ℕ) (at : ℕ) (w : Walk) → (break_to o at w).made ≡ w.made
  break-made None at w = refl
  break-made (Some s) at w = refl

  pub step-break : (closed : List SrcLoop) (around : List Around) (w : Walk) (name : Option Name) (at : ℕ) → IsKept procs scope closed around w
      → Stepped procs scope closed around w (break_to (left_by name None around) at (in_block w))
  step-break closed around w name at k =
      let o = left_by name None around in
      plain-step closed around w (break_to o at (in_block w)) (break-loops o at (in_block w) ∙ ensure-loops w.current w)
      (omega (arith, break-made o at (in_block w), ensure-made w.current w))
      (kept-break closed around (in_block w) o at (λ s e. left-around name around s (left_by-around name None around s e)) (kept-ensure closed around w w.current k))

  -- ---- gotos

  jump-ahead : (b : Bool) (name : List ℕ) (places : List Place) (c : ℕ) → (b ≡ false → place_of name places ≡ None) → (b ≡ true) ⊎ ((p : Place) → place_of name places ≡ Some p → c < p.block)
  jump-ahead true name places c f = inl refl
  jump-ahead false name places c f = inr (λ p e. let n = f refl in absurd (cc))

  unplaced : (name : List ℕ) (places : List Place) → is_placed name places ≡ false → place_of name places ≡ None
  unplaced name [] h = refl
  unplaced name (p ∷ ps) h =
      let n = or_parts (bytes_eq p.name name) (is_placed name ps) h in
      rw n.0 (unplaced name ps n.1)

  goto-jump : (closed : List SrcLoop) (around : List Around) (w : Walk) (n : Name) (js : List Jump) (c : Current) → IsKept procs scope closed around w → CurrentFits procs scope w.made (statements_of around) c
      → Among (jump_of around w.places n) js
      → JumpFits (Holds closed around) (record { limit = w.made; around = statements_of around; exits = w.exits; places = w.places; jumps = js }) c.number n.text
  goto-jump closed around w n js c k q a = record {
    jump = jump_of around w.places n;
    listed = a;
    named = refl;
    ahead = jump-ahead (is_placed n.text w.places) n.text w.places c.number (unplaced n.text w.places);
    below = λ h i. (k.around h (loop-around around h i)).below;
    loops = λ h i held. inr (i, q.behind h (loop-around around h i));
  }

  abbrev with_jumps : List Around → List Name → Walk → Walk
  with_jumps around names w = record w { jumps = w.jumps ++ map (jump_of around w.places) names }

  kept-jumps : (closed : List SrcLoop) (around : List Around) (names : List Name) (w : Walk) → IsKept procs scope closed around w → IsKept procs scope closed around (with_jumps around names w)
  kept-jumps closed around names w k =
      let more = map (jump_of around w.places) names in
      let l : Later (Holds closed around) (Holds closed around) (marks_of around w) (marks_of around (with_jumps around names w)) = record {
        limit = omega arith;
        forth = λ h b bb held. held;
        back = λ h b bb held. held;
        exits = λ s has. (has, refl);
        around = λ b s bb i le. inr (i, le);
        places = λ name p e. inl e;
        jumps = λ j a. among-left j w.jumps (map (jump_of around w.places) names) a;
      } in
      record {
        some = k.some;
        closed = k.closed;
        around = k.around;
        keys = k.keys;
        current = k.current;
        ended = each-weaker (EndedFits procs scope (Holds closed around) (marks_of around w)) (EndedFits procs scope (Holds closed around) (marks_of around (with_jumps around names w)))
            (later-ended (Holds closed around) (Holds closed around) (marks_of around w) (marks_of around (with_jumps around names w)) l procs scope) w.ended k.ended;
        places = k.places;
      }

  kept-goto : (closed : List SrcLoop) (around : List Around) (names : List Name) (w : Walk) → 0 < length names → IsKept procs scope closed around w
      → IsKept procs scope closed around (stop (Goes (map (λ (n : Name). Label n.text) names)) (with_jumps around names w))
  kept-goto closed around names w some k =
      let v = with_jumps around names w in
      kept-stop closed around (with_jumps around names w) (Goes (map (λ (n : Name). Label n.text) names)) (kept-jumps closed around names w k)
      (λ c q. (
        omega (arith, length-map names (λ (n : Name). Label n.text)),
        each-map (AimFits (Holds closed around) (marks_of around (with_jumps around names w)) c.number) (λ (n : Name). Label n.text) names
            (each-weaker (λ n. Among (jump_of around w.places n) (map (jump_of around w.places) names)) (λ n. JumpFits (Holds closed around) (marks_of around (with_jumps around names w)) c.number n.text)
            (λ n a. goto-jump closed around w n (w.jumps ++ map (jump_of around w.places) names) c k q (among-right (jump_of around w.places n) w.jumps (map (jump_of around w.places) names) a))
            names (each-among (jump_of around w.places) names)),
      ))

  goto-from : (closed : List SrcLoop) (around : List Around) (names : List Name) (w : Walk) (o : Option Current) → 0 < length names → IsKept procs scope closed around (ensure o w)
      → IsKept procs scope closed around (stop (Goes (map (λ (n : Name). Label n.text) names)) (record (ensure o w) { jumps = w.jumps ++ map (jump_of around w.places) names }))
  goto-from closed around names w None some k = kept-goto closed around names (start [] w) some k
  goto-from closed around names w (Some c) some k = kept-goto closed around names w some k

  pub step-goto : (closed : List SrcLoop) (around : List Around) (names : List Name) (w : Walk) → 0 < length names → IsKept procs scope closed around w
      → Stepped procs scope closed around w (goto around names w)
  step-goto closed around names w some k =
      plain-step closed around w (goto around names w) (ensure-loops w.current w) (ensure-made w.current w) (goto-from closed around names w w.current some (kept-ensure closed around w w.current k))

  -- ---- labels

  place_of-last : (name : List ℕ) (ps : List Place) (q p : Place) → place_of name (ps ++ q ∷ []) ≡ Some p → (place_of name ps ≡ Some p) ⊎ (p ≡ q)
  place_of-last name [] q p e = place_of-one (bytes_eq q.name name) q p e
    where
      place_of-one : (b : Bool) (q p : Place) → (if b then Some q else None) ≡ Some p → (None ≡ Some p) ⊎ (p ≡ q)
      place_of-one true q p e = inr (let s : q ≡ p = cc in sym s)
      place_of-one false q p e = inl e
  place_of-last name (x ∷ ps) q p e = place_of-more (bytes_eq x.name name) x (place_of name ps) (place_of name (ps ++ q ∷ [])) q p (place_of-last name ps q p) e
    where
      place_of-more : (b : Bool) (x : Place) (o r : Option Place) (q p : Place) → (r ≡ Some p → (o ≡ Some p) ⊎ (p ≡ q)) → (if b then Some x else r) ≡ Some p
          → ((if b then Some x else o) ≡ Some p) ⊎ (p ≡ q)
      place_of-more true x o r q p f e = inl e
      place_of-more false x o r q p f e = f e

  placed-later : (b : Bool) (name : List ℕ) (ps : List Place) (q p : Place) (limit : ℕ) → limit ≤ q.block → place_of name (if b then ps else ps ++ q ∷ []) ≡ Some p → (place_of name ps ≡ Some p) ⊎ (limit ≤ p.block)
  placed-later true name ps q p limit above e = inl e
  placed-later false name ps q p limit above e = placed-new (place_of-last name ps q p e)
    where
      placed-new : (place_of name ps ≡ Some p) ⊎ (p ≡ q) → (place_of name ps ≡ Some p) ⊎ (limit ≤ p.block)
      placed-new (inl same) = inl same
      placed-new (inr same) = inr (omega (arith, ap (λ (x : Place). x.block) same))

  placed-each : (P : Place → Type 0) (b : Bool) (ps : List Place) (q : Place) → Each P ps → P q → Each P (if b then ps else ps ++ q ∷ [])
  placed-each P true ps q each fits = each
  placed-each P false ps q each fits = each-last P ps q each fits

  place-loops : (closed : List SrcLoop) (around : List Around) (limit h : ℕ) → Each (IsWithin 1 limit) closed → Holds closed around h limit → In h (loops_of around)
  place-loops closed around limit h within (inl p) = absurd (omega (arith, held-below 1 limit closed h limit within p))
  place-loops closed around limit h within (inr p) = p.0

  pub step-label : (closed : List SrcLoop) (around : List Around) (name : Name) (w : Walk) → IsKept procs scope closed around w → Stepped procs scope closed around w (label around name w)
  step-label closed around name w k =
      let v = label around name w in
      let place : Place = record { name = name.text; block = w.made; loops = loops_of around } in
      let l : Later (Holds closed around) (Holds closed around) (marks_of around w) (marks_of around (label around name w)) = record {
        limit = omega arith;
        forth = λ h b bb held. held;
        back = λ h b bb held. held;
        exits = λ s has. (has, refl);
        around = λ b s bb i le. inr (i, le);
        places = λ n p e. placed-later (is_placed name.text w.places) n w.places (record { name = name.text; block = w.made; loops = loops_of around }) p w.made (omega arith) e;
        jumps = λ j a. a;
      } in
      plain-step closed around w v refl (omega arith) (record {
        some = omega arith;
        closed = all-within-weaker 1 w.made 1 (w.made + 1) (omega arith) (omega arith) closed k.closed;
        around = λ s i. let a = k.around s i in record { some = a.some; below = omega (arith, a.below); new = a.new };
        keys = λ s has. omega (arith, k.keys s has);
        current = record { below = omega arith; cmds = refl; behind = λ s i. omega (arith, (k.around s i).below) };
        ended = with_end-each (EndedFits procs scope (Holds closed around) (marks_of around v)) (CurrentFits procs scope w.made (statements_of around)) w.current (Goes (Block w.made ∷ [])) w.ended
            (each-weaker (EndedFits procs scope (Holds closed around) (marks_of around w)) (EndedFits procs scope (Holds closed around) (marks_of around v))
            (later-ended (Holds closed around) (Holds closed around) (marks_of around w) (marks_of around v) l procs scope) w.ended k.ended)
            k.current
            (λ c q. record {
              below = omega (arith, q.below);
              cmds = q.cmds;
              ends = (omega arith, ((omega arith, new-edge closed around w.made c.number w.made k.closed (omega arith) q.below q.behind), tt));
            });
        places = placed-each (PlaceFits (Holds closed around) (w.made + 1)) (is_placed name.text w.places) w.places (record { name = name.text; block = w.made; loops = loops_of around })
            (each-weaker (PlaceFits (Holds closed around) w.made) (PlaceFits (Holds closed around) (w.made + 1))
            (later-place-fits (Holds closed around) (Holds closed around) (marks_of around w) (marks_of around v) l) w.places k.places)
            (record { below = omega arith; loops = λ h held. place-loops closed around w.made h k.closed held });
      })
