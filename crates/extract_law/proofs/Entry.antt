-- A list of choices on which the machine fails gives a failing run tree of the flat program, within the caps.
use Rattle.std.proofs.Common.{◌≡◌, ℕ, suc, ◌≤◌, true, if◌then◌else◌, List, [], ◌∷◌, ◌++◌, map, inl, inr, arith, sym, ◌∙◌, ap, refl, subst}
use Rattle.std.specs.Prelude.{Option, None, Some, slice_get}
use Rattle.hy_val.specs.Values.{has_sort}
use Rattle.hy_val.specs.declared.sort.Sort.{Sort}
use Rattle.hy_val.specs.declared.value.Value.{Value}
use Rattle.src_prog.specs.Program.{Program}
use Rattle.src_prog.specs.Scope.{sorts_of, locals_of}
use Rattle.src_prog.specs.Shape.{is_program}
use Rattle.src_prog.specs.declared.proc.SrcProc.{SrcProc}
use Rattle.src_run.proofs.Sorting.{begin_sorted}
use Rattle.src_run.specs.declared.machine.Choice.{Choice}
use Rattle.src_run.specs.declared.machine.Choice.TheVariants.{Go, Val}
use Rattle.src_run.specs.declared.machine.Status.TheVariants.{Going, Ended as IsEnded, Failed, Blocked, BadChoice}
use Rattle.src_run.specs.Machine.{Config, Frame, Want, AConst, AGlobal, locals_wanted, with_status, are_allowed, tested, take_choice, first_frame, begin, begin_in, within, ALocal, HasStatus}
use Rattle.flat_prog.specs.Caps.{Capped}
use Rattle.hy_val.specs.Stores.{have_sorts}
use Rattle.flat_prog.specs.Runs.{FailsIn}
use Rattle.flat_prog.specs.Trees.{Run, node}
use Rattle.extract_law.proofs.Commands.{both_claims, opened, Opened, flat_begin, front_sorts, zeros_of}
use Rattle.extract_def.proofs.Facts.{Facts}
use Rattle.extract_law.proofs.Failing.{World, FailsFrom, wanting, after_choice, ended, blocked, bad, over_run, is_over, held, after_fill}
use Rattle.extract_law.proofs.Moving.{wide}
use Rattle.extract_law.proofs.RunsOn.{RunsOn}
use Rattle.extract_law.proofs.Spots.{Setting, out_of, here_at, haves, Outcome, code_of}
use Rattle.extract_def.specs.Extraction.{flat_of, proc_of, own_block}
use Rattle.extract_def.specs.declared.scope.Scope.TheVariants.{Whole}

-- ---- constants

pub tested_behind : (prog : Program) (c : Config) (gs ls : List Sort) → tested prog c (map AGlobal gs ++ locals_wanted ls) ≡ (if are_allowed prog c.consts then c else with_status c Blocked)
tested_behind prog c (g ∷ gs) ls = refl
tested_behind prog c [] (l ∷ ls) = refl
tested_behind prog c [] [] = refl

-- the constants were given, and are allowed
pub record Constants (w : World) (turns : ℕ) (tail : List Want) (frames : List Frame) : Type 0 where
  pub values : List Value
  pub allowed : are_allowed w.prog values ≡ true
  pub less : ℕ
  pub smaller : less ≤ turns
  pub fails : FailsFrom w less (wanting values [] tail frames)

take_const : (w : World) (turns index : ℕ) (known : List Value) (t : Sort) (wants : List Want) (frames : List Frame) (x : Choice) → FailsFrom w turns (take_choice w.prog w.bound (wanting known [] (AConst t ∷ wants) frames) index (AConst t) wants x) →
    (v : Value) × FailsFrom w turns (tested w.prog (wanting (known ++ v ∷ []) [] wants frames) wants)
take_const w turns index known t wants frames (Go place) r = absurd (is_over w turns (wanting known [] (AConst t ∷ wants) frames) (BadChoice index) (bad index) r)
take_const w turns index known t wants frames (Val v) r =
    let h = held w turns (wanting known [] (AConst t ∷ wants) frames) (tested w.prog (wanting (known ++ v ∷ []) [] wants frames) wants) (BadChoice index) (bad index) (has_sort v t) r in (v, h.1)

constants : (w : World) (gs ls ts : List Sort) (turns : ℕ) (known : List Value) (frames : List Frame) →
    FailsFrom w turns (tested w.prog (wanting known [] (map AConst ts ++ (map AGlobal gs ++ locals_wanted ls)) frames) (map AConst ts ++ (map AGlobal gs ++ locals_wanted ls))) → Constants w turns (map AGlobal gs ++ locals_wanted ls) frames
constants w gs ls [] turns known frames r =
    let tail = map AGlobal gs ++ locals_wanted ls in
    let c = wanting known [] tail frames in
    let h = held w turns c c Blocked blocked (are_allowed w.prog known) (subst (FailsFrom w turns) (tested_behind w.prog c gs ls) r) in
    record { values = known; allowed = h.0; less = turns; smaller = omega arith; fails = h.1 }
constants w gs ls (t ∷ ts) turns known frames r =
    let tail = map AGlobal gs ++ locals_wanted ls in
    let k = after_choice w turns known [] (AConst t) (map AConst ts ++ tail) frames r in
    let h = take_const w k.later.less k.index known t (map AConst ts ++ tail) frames k.choice k.later.fails in
    let n = constants w gs ls ts k.later.less (known ++ h.0 ∷ []) frames h.1 in
    let lt = k.later.smaller in let le = n.smaller in
    record { values = n.values; allowed = n.allowed; less = n.less; smaller = omega arith; fails = n.fails }

-- ---- globals

pub record Globals (w : World) (turns : ℕ) (consts : List Value) (tail : List Want) (frames : List Frame) : Type 0 where
  pub values : List Value
  pub less : ℕ
  pub smaller : less ≤ turns
  pub fails : FailsFrom w less (wanting consts values tail frames)

take_global : (w : World) (turns index : ℕ) (consts known : List Value) (t : Sort) (wants : List Want) (frames : List Frame) (x : Choice) → FailsFrom w turns (take_choice w.prog w.bound (wanting consts known (AGlobal t ∷ wants) frames) index (AGlobal t) wants x) →
    (v : Value) × FailsFrom w turns (wanting consts (known ++ v ∷ []) wants frames)
take_global w turns index consts known t wants frames (Go place) r = absurd (is_over w turns (wanting consts known (AGlobal t ∷ wants) frames) (BadChoice index) (bad index) r)
take_global w turns index consts known t wants frames (Val v) r =
    let h = held w turns (wanting consts known (AGlobal t ∷ wants) frames) (wanting consts (known ++ v ∷ []) wants frames) (BadChoice index) (bad index) (has_sort v t) r in (v, h.1)

globals : (w : World) (ts : List Sort) (turns : ℕ) (consts known : List Value) (tail : List Want) (frames : List Frame) → FailsFrom w turns (wanting consts known (map AGlobal ts ++ tail) frames) → Globals w turns consts tail frames
globals w [] turns consts known tail frames r = record { values = known; less = turns; smaller = omega arith; fails = r }
globals w (t ∷ ts) turns consts known tail frames r =
    let k = after_choice w turns consts known (AGlobal t) (map AGlobal ts ++ tail) frames r in
    let h = take_global w k.later.less k.index consts known t (map AGlobal ts ++ tail) frames k.choice k.later.fails in
    let n = globals w ts k.later.less consts (known ++ h.0 ∷ []) tail frames h.1 in
    let lt = k.later.smaller in let le = n.smaller in
    record { values = n.values; less = n.less; smaller = omega arith; fails = n.fails }

-- ---- the entry

-- a failing run tree of the entry, within the caps
pub record EntryFails (v : Setting) (entry proc number : ℕ) : Type 0 where
  pub run : Run
  pub fails : FailsIn (out_of v) entry run proc number
  pub capped : Capped run (out_of v) v.w.bound (entry ∷ [])

entry_outcome : (v : Setting) (entry : ℕ) (q : SrcProc) (turns : ℕ) (consts gs args : List Value) → slice_get v.w.prog.procs entry ≡ Some q → are_allowed v.w.prog consts ≡ true → have_sorts consts (sorts_of v.w.prog.consts) ≡ true → have_sorts args (sorts_of q.ins) ≡ true →
    (o : Opened v turns consts entry q [] [] gs args) →
    Outcome v (λ r. RunsOn (out_of v) v.w.bound consts (code_of v entry q []) (here_at v entry [] []) (own_block v.w.prog entry q Whole 0 o.arrives.b).cmds (own_block v.w.prog entry q Whole 0 o.arrives.b).next (wide [] (zeros_of q) (record { globals = gs; locals = args ++ o.values })) r) o.less consts entry q [] [] [] →
    EntryFails v entry v.w.proc v.w.number
entry_outcome v entry q turns consts gs args proc_is allowed consts_have args_have o (inr (os, gs', k, a, b, l)) = absurd (is_over v.w l.less (record { status = Going; consts = consts; globals = gs'; wants = []; frames = [] }) IsEnded ended l.fails)
entry_outcome v entry q turns consts gs args proc_is allowed consts_have args_have o (inl k) =
    let code = proc_of v.w.prog entry q Whole in
    let rest = (o.values ++ zeros_of q) ++ k.values in
    record {
      run = node (record { proc = entry; path = 0 ∷ k.path; places = k.places; values = consts ++ (gs ++ (args ++ rest)) }) k.below;
      fails = record {
        proc = code;
        consts = consts;
        globals = gs;
        args = args;
        rest = rest;
        begin = record { store = record { globals = gs; locals = (args ++ o.values) ++ zeros_of q }; values = k.values; results = []; calls = [] };
        same = refl;
        proc_is = v.x.whole_there entry q proc_is;
        values = refl;
        consts_fit = consts_have;
        globals_fit = o.sorted.globals;
        args_fit = args_have;
        allowed = allowed;
        begin_is = flat_begin v entry q gs args o.values k.values o.passes;
        means = (k.results, k.calls, (k.path, own_block v.w.prog entry q Whole 0 o.arrives.b, refl, ap (slice_get code.blocks) (sym (v.x.first_whole entry q proc_is)) ∙ o.arrives.there, k.tail []), k.answers);
      };
      capped = k.capped;
    }

entry_fails : (v : Setting) (entry : ℕ) (q : SrcProc) (turns : ℕ) → slice_get v.w.prog.procs entry ≡ Some q → FailsFrom v.w turns (begin_in v.w.prog entry (Some q)) → EntryFails v entry v.w.proc v.w.number
entry_fails v entry q turns proc_is r =
    let f0 = first_frame entry in
    let own = sorts_of q.outs ++ sorts_of q.locals in
    let c = constants v.w (sorts_of v.w.prog.globals) (locals_of q) (sorts_of v.w.prog.consts) turns [] (f0 ∷ []) r in
    let g = globals v.w (sorts_of v.w.prog.globals) c.less c.values [] (locals_wanted (locals_of q)) (f0 ∷ []) c.fails in
    let two : locals_wanted (locals_of q) ≡ locals_wanted (sorts_of q.ins) ++ locals_wanted own = locals_split (sorts_of q.ins) own in
    let i = after_fill v.w (sorts_of q.ins) g.less c.values g.values [] (locals_wanted own) f0 [] (subst (λ ws. FailsFrom v.w g.less (wanting c.values g.values ws (f0 ∷ []))) two g.fails) in
    let o = opened v (suc i.less) (both_claims v (suc i.less)).0 i.less c.values entry q [] [] g.values i.values (omega arith) proc_is i.fails in
    let args_have = front_sorts i.values o.values (sorts_of q.ins) own i.count o.sorted.locals in
    entry_outcome v entry q i.less c.values g.values i.values proc_is c.allowed (haves c.values (sorts_of v.w.prog.consts) o.consts_sorted) args_have o o.arrives.outcome
  where
    locals_split : (xs ys : List Sort) → locals_wanted (xs ++ ys) ≡ locals_wanted xs ++ locals_wanted ys
    locals_split [] ys = refl
    locals_split (x ∷ xs) ys = ap (λ ws. ALocal x ∷ ws) (locals_split xs ys)

-- Some list of choices fails: some run tree of the flat program, within the caps, fails in the same assert of the same procedure.
pub list_to_tree : (prog : Program) → is_program prog ≡ true → Facts prog → (entry bound : ℕ) (choices : List Choice) (proc number : ℕ) → HasStatus prog entry bound choices (Failed proc number) →
    (run : Run) × FailsIn (flat_of prog) entry run proc number × Capped run (flat_of prog) bound (entry ∷ [])
list_to_tree prog fits facts entry bound choices proc number h = at (slice_get prog.procs entry) refl
  where
    w : World
    w = record { prog = prog; bound = bound; proc = proc; number = number; fits = fits }

    at : (o : Option SrcProc) → slice_get prog.procs entry ≡ o → (run : Run) × FailsIn (flat_of prog) entry run proc number × Capped run (flat_of prog) bound (entry ∷ [])
    at None e =
        let is : begin prog entry ≡ begin_in prog entry None = ap (begin_in prog entry) e in
        absurd (over_run w h.turns 0 (begin_in prog entry None) Blocked choices h.last blocked (subst (λ c. within h.turns prog bound 0 c choices ≡ Some h.last) is h.runs) h.is)
    at (Some q) e =
        let is : begin prog entry ≡ begin_in prog entry (Some q) = ap (begin_in prog entry) e in
        let r : FailsFrom w h.turns (begin prog entry) = record { index = 0; choices = choices; last = h.last; runs = h.runs; status = h.is; sorted = begin_sorted prog entry q e } in
        let f = entry_fails (record { w = w; x = facts }) entry q h.turns e (subst (FailsFrom w h.turns) is r) in
        (f.run, f.fails, f.capped)
