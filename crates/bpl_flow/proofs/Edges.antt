-- What holds of blocks that have ended, of labels and of edges, where the walk stands; and that it stays so as the walk goes on.
use Rattle.std.proofs.Common.{◌≡◌, ◌⊎◌, inl, inr, ℕ, ◌<◌, ◌≤◌, Bool, true, nat_eq, List, [], ◌∷◌, length, Some, sym, subst, arith}
use Rattle.std.specs.List.{list_all, list_any, AllByRecursion as Each}
use Rattle.bpl_flow.proofs.Among.{In, Among, each-weaker}
use Rattle.bpl_flow.specs.Flow.{number_at, place_of}
use Rattle.bpl_flow.specs.Walk.{loops_of}
use Rattle.bpl_flow.specs.declared.state.Aim.{Aim}
use Rattle.bpl_flow.specs.declared.state.Aim.TheVariants.{Block, Label, Exit}
use Rattle.bpl_flow.specs.declared.state.Around.{Around}
use Rattle.bpl_flow.specs.declared.state.End.{End}
use Rattle.bpl_flow.specs.declared.state.End.TheVariants.{Goes, Returns}
use Rattle.bpl_flow.specs.declared.state.Ended.{Ended}
use Rattle.bpl_flow.specs.declared.state.Jump.{Jump}
use Rattle.bpl_flow.specs.declared.state.Place.{Place}
use Rattle.hy_val.specs.Scope.{Scope}
use Rattle.src_prog.specs.Scope.{cmd_fits}
use Rattle.src_prog.specs.declared.proc.SrcLoop.{SrcLoop}
use Rattle.src_prog.specs.declared.proc.SrcProc.{SrcProc}

-- one of these loops has this head and holds the block
abbrev pub Held : List SrcLoop → ℕ → ℕ → Type 0
Held [] h b = ⊥
Held (l ∷ ls) h b = ((l.head ≡ h) × (l.head ≤ b) × (b < l.exit)) ⊎ Held ls h b

-- a loop of this head that has been walked, or one that is still around, holds the block
abbrev pub Holds : List SrcLoop → List Around → ℕ → ℕ → Type 0
Holds closed around h b = Held closed h b ⊎ (In h (loops_of around) × (h ≤ b))

abbrev pub has_key : ℕ → List (ℕ × ℕ) → Bool
has_key s exits = list_any (λ e. nat_eq e.0 s) exits

-- what is known of the numbers so far: blocks are below a limit, and these statements are around
pub record Marks : Type 0 where
  pub limit : ℕ
  pub around : List ℕ
  pub exits : List (ℕ × ℕ)
  pub places : List Place
  pub jumps : List Jump

-- an edge leads on or back to the head of a loop, and into a loop only at its head
pub record EdgeFits (H : ℕ → ℕ → Type 0) (b t : ℕ) : Type 0 where
  pub way : (b < t) ⊎ H t b
  pub entered : (h : ℕ) → h < t → H h t → H h b

pub record Known (H : ℕ → ℕ → Type 0) (m : Marks) (b s : ℕ) : Type 0 where
  pub has : has_key s m.exits ≡ true
  pub below : number_at s m.exits < m.limit
  pub edge : EdgeFits H b (number_at s m.exits)

-- an edge past a statement that has been walked, or past one around
abbrev pub ExitFits : (ℕ → ℕ → Type 0) → Marks → ℕ → ℕ → Type 0
ExitFits H m b s = Known H m b s ⊎ (In s m.around × (s ≤ b))

-- an edge of a goto; where the label didn't stand before, its place is ahead
pub record JumpFits (H : ℕ → ℕ → Type 0) (m : Marks) (b : ℕ) (name : List ℕ) : Type 0 where
  pub jump : Jump
  pub listed : Among jump m.jumps
  pub named : jump.name.text ≡ name
  pub ahead : (jump.is_behind ≡ true) ⊎ ((p : Place) → place_of name m.places ≡ Some p → b < p.block)
  pub below : (h : ℕ) → In h jump.loops → h < m.limit
  pub loops : (h : ℕ) → In h jump.loops → H h h → H h b

abbrev pub AimFits : (ℕ → ℕ → Type 0) → Marks → ℕ → Aim → Type 0
AimFits H m b (Block t) = (t < m.limit) × EdgeFits H b t
AimFits H m b (Label name) = JumpFits H m b name
AimFits H m b (Exit s) = ExitFits H m b s

abbrev pub EndFits : (ℕ → ℕ → Type 0) → Marks → ℕ → End → Type 0
EndFits H m b (Goes aims) = (0 < length aims) × Each (AimFits H m b) aims
EndFits H m b Returns = Unit {0}

pub record EndedFits (procs : List SrcProc) (scope : Scope) (H : ℕ → ℕ → Type 0) (m : Marks) (b : Ended) : Type 0 where
  pub below : b.number < m.limit
  pub cmds : list_all (cmd_fits procs scope) b.cmds ≡ true
  pub ends : EndFits H m b.number b.end

-- each loop that holds the label's block is among those kept with it
pub record PlaceFits (H : ℕ → ℕ → Type 0) (limit : ℕ) (p : Place) : Type 0 where
  pub below : p.block < limit
  pub loops : (h : ℕ) → H h p.block → In h p.loops

-- ---- the walk goes on

pub record Later (H K : ℕ → ℕ → Type 0) (m n : Marks) : Type 0 where
  pub limit : m.limit ≤ n.limit
  pub forth : (h b : ℕ) → b < m.limit → H h b → K h b
  pub back : (h b : ℕ) → b < m.limit → K h b → H h b
  pub exits : (s : ℕ) → has_key s m.exits ≡ true → (has_key s n.exits ≡ true) × (number_at s n.exits ≡ number_at s m.exits)
  pub around : (b s : ℕ) → b < m.limit → In s m.around → s ≤ b → ExitFits K n b s
  pub places : (name : List ℕ) (p : Place) → place_of name n.places ≡ Some p → (place_of name m.places ≡ Some p) ⊎ (m.limit ≤ p.block)
  pub jumps : (j : Jump) → Among j m.jumps → Among j n.jumps

module _ (H K : ℕ → ℕ → Type 0) (m n : Marks) (l : Later H K m n) where
  later-way : (b t : ℕ) → b < m.limit → (b < t) ⊎ H t b → (b < t) ⊎ K t b
  later-way b t below (inl on) = inl on
  later-way b t below (inr held) = inr (l.forth t b below held)

  later-edge : (b t : ℕ) → b < m.limit → t < m.limit → EdgeFits H b t → EdgeFits K b t
  later-edge b t bb tb e = record {
    way = later-way b t bb e.way;
    entered = λ h lt held. l.forth h b bb (e.entered h lt (l.back h t tb held));
  }

  later-exit : (b s : ℕ) → b < m.limit → ExitFits H m b s → ExitFits K n b s
  later-exit b s bb (inl k) =
      let e = l.exits s k.has in
      inl (record {
        has = e.0;
        below = omega (arith, e.1, k.below, l.limit);
        edge = subst (EdgeFits K b) (sym e.1) (later-edge b (number_at s m.exits) bb k.below k.edge);
      })
  later-exit b s bb (inr o) = l.around b s bb o.0 o.1

  later-place : (name : List ℕ) (b : ℕ) (p : Place) → b < m.limit → ((q : Place) → place_of name m.places ≡ Some q → b < q.block) → (place_of name m.places ≡ Some p) ⊎ (m.limit ≤ p.block) → b < p.block
  later-place name b p bb f (inl e) = f p e
  later-place name b p bb f (inr above) = omega arith

  later-ahead : (j : Jump) (name : List ℕ) (b : ℕ) → b < m.limit → (j.is_behind ≡ true) ⊎ ((p : Place) → place_of name m.places ≡ Some p → b < p.block)
      → (j.is_behind ≡ true) ⊎ ((p : Place) → place_of name n.places ≡ Some p → b < p.block)
  later-ahead j name b bb (inl e) = inl e
  later-ahead j name b bb (inr f) = inr (λ p e. later-place name b p bb f (l.places name p e))

  later-jump : (b : ℕ) (name : List ℕ) → b < m.limit → JumpFits H m b name → JumpFits K n b name
  later-jump b name bb j = record {
    jump = j.jump;
    listed = l.jumps j.jump j.listed;
    named = j.named;
    ahead = later-ahead j.jump name b bb j.ahead;
    below = λ h i. omega (arith, j.below h i, l.limit);
    loops = λ h i held. l.forth h b bb (j.loops h i (l.back h h (j.below h i) held));
  }

  pub later-aim : (b : ℕ) → b < m.limit → (a : Aim) → AimFits H m b a → AimFits K n b a
  later-aim b bb (Block t) f = (omega (arith, f.0, l.limit), later-edge b t bb f.0 f.1)
  later-aim b bb (Label name) f = later-jump b name bb f
  later-aim b bb (Exit s) f = later-exit b s bb f

  later-end : (b : ℕ) → b < m.limit → (e : End) → EndFits H m b e → EndFits K n b e
  later-end b bb (Goes aims) f = (f.0, each-weaker (AimFits H m b) (AimFits K n b) (later-aim b bb) aims f.1)
  later-end b bb Returns f = tt

  pub later-ended : (procs : List SrcProc) (scope : Scope) (b : Ended) → EndedFits procs scope H m b → EndedFits procs scope K n b
  later-ended procs scope b f = record {
    below = omega (arith, f.below, l.limit);
    cmds = f.cmds;
    ends = later-end b.number f.below b.end f.ends;
  }

  pub later-place-fits : (p : Place) → PlaceFits H m.limit p → PlaceFits K n.limit p
  later-place-fits p f = record {
    below = omega (arith, f.below, l.limit);
    loops = λ h held. f.loops h (l.back h p.block f.below held);
  }
