-- Flat runs from within a block, taken apart: the next command, or the end of the block; and the choices of what is left.
use Rattle.std.proofs.Common.{◌≡◌, ℕ, zero, suc, Bool, List, [], ◌∷◌, ◌++◌, map, length, take, drop, ◌∙◌, ap, refl, append_assoc}
use Rattle.std.specs.Prelude.{Option, None, Some}
use Rattle.std.specs.Option.{option_map}
use Rattle.hy_val.specs.declared.value.Value.{Value}
use Rattle.src_run.specs.declared.machine.Choice.{Choice}
use Rattle.src_run.specs.declared.machine.Choice.TheVariants.{Val}
use Rattle.flat_prog.proofs.Capping.{and_then_some}
use Rattle.flat_prog.specs.Local.{Result, Ended, Broken, Request, State, pass, pass_all, fail, Tail, StopFails}
use Rattle.flat_prog.specs.Program.{FlatProgram}
use Rattle.flat_prog.specs.declared.block.FlatBlock.{FlatBlock}
use Rattle.flat_prog.specs.declared.block.FlatCmd.{FlatCmd}
use Rattle.flat_prog.specs.declared.block.FlatCmd.TheVariants.{Assign, Havoc, Assume, Assert, Call}
use Rattle.flat_prog.specs.declared.block.FlatNext.{FlatNext}
use Rattle.flat_prog.specs.declared.proc.FlatProc.{FlatProc}
use Rattle.extract_law.specs.Choices.{own_choices, values_behind, lists_behind, cmds_choices, path_choices}

-- the next command holds, or the run is over there
pub data TailHead (flat : FlatProgram) (q : FlatProc) (consts : List Value) (path places : List ℕ) (c : FlatCmd) (cmds : List FlatCmd) (next : FlatNext) (s : State) (calls : List Request) (r : Result) : Type 0 where
  passes : (u : State) → pass flat q consts c s ≡ Some u → Tail flat q consts path places cmds next u calls r → TailHead flat q consts path places c cmds next s calls r
  breaks : (p n : ℕ) → path ≡ [] → places ≡ [] → r ≡ Broken p n → fail consts c s ≡ Some (Broken p n, calls) → s.values ≡ [] → TailHead flat q consts path places c cmds next s calls r

broken_head : (flat : FlatProgram) (q : FlatProc) (consts : List Value) (c : FlatCmd) (cmds : List FlatCmd) (next : FlatNext) (s : State) (calls : List Request) (p n : ℕ) (before : List FlatCmd) (at : FlatCmd) (behind : List FlatCmd) (over : State) →
    c ∷ cmds ≡ before ++ at ∷ behind → pass_all flat q consts before s ≡ Some over → fail consts at over ≡ Some (Broken p n, calls) → over.values ≡ [] → TailHead flat q consts [] [] c cmds next s calls (Broken p n)
broken_head flat q consts c cmds next s calls p n [] at behind over e h f v =
    let x : c ≡ at = cc in let y : s ≡ over = cc in
    breaks p n refl refl refl (ap (λ d. fail consts d s) x ∙ (ap (λ (u : State). fail consts at u) y ∙ f)) (ap (λ (u : State). u.values) y ∙ v)
broken_head flat q consts c cmds next s calls p n (d ∷ ds) at behind over e h f v =
    let x : c ≡ d = cc in let y : cmds ≡ ds ++ at ∷ behind = cc in
    let m = and_then_some (pass_all flat q consts ds) (pass flat q consts d s) over h in
    passes m.0 (ap (λ k. pass flat q consts k s) x ∙ m.1) (record { before = ds; at = at; behind = behind; over = over; splits = y; passes = m.2; fails = f; values = v })

pub tail_head : (flat : FlatProgram) (q : FlatProc) (consts : List Value) (path places : List ℕ) (c : FlatCmd) (cmds : List FlatCmd) (next : FlatNext) (s : State) (calls : List Request) (r : Result) →
    Tail flat q consts path places (c ∷ cmds) next s calls r → TailHead flat q consts path places c cmds next s calls r
tail_head flat q consts [] [] c cmds next s calls (Ended os gs) k =
    let m = and_then_some (pass_all flat q consts cmds) (pass flat q consts c s) k.over k.passes in
    passes m.0 m.1 (record { over = k.over; passes = m.2; returns = k.returns; values = k.values; results = k.results; calls_are = k.calls_are; outs_are = k.outs_are; globals_are = k.globals_are })
tail_head flat q consts [] [] c cmds next s calls (Broken p n) k = broken_head flat q consts c cmds next s calls p n k.before k.at k.behind k.over k.splits k.passes k.fails k.values
tail_head flat q consts [] (place ∷ places) c cmds next s calls r k = absurd k
tail_head flat q consts (b ∷ path) [] c cmds next s calls r k = absurd k
tail_head flat q consts (b ∷ path) (place ∷ places) c cmds next s calls r (block, t, h, there, is, k) =
    let m = and_then_some (pass_all flat q consts cmds) (pass flat q consts c s) t h in
    passes m.0 m.1 (block, t, m.2, there, is, k)

-- no command is left to fail
pub none_fails : (flat : FlatProgram) (q : FlatProc) (consts : List Value) (s : State) (calls : List Request) (p n : ℕ) → StopFails flat q consts [] s calls p n → ⊥
none_fails flat q consts s calls p n k = at k.before k.splits
  where
    at : (before : List FlatCmd) → [] ≡ before ++ k.at ∷ k.behind → ⊥
    at [] e = cc
    at (c ∷ cs) e = cc

-- ---- choices

-- one command in front
pub choices_cons : (flat : FlatProgram) (blocks : List FlatBlock) (asks : Bool) (path places : List ℕ) (c : FlatCmd) (cmds : List FlatCmd) (next : FlatNext) (values : List Value) (lists : List (List Choice)) →
    path_choices flat blocks asks path places (c ∷ cmds) next values lists ≡ own_choices c values lists ++ path_choices flat blocks asks path places cmds next (values_behind c values) (lists_behind c lists)
choices_cons flat blocks asks [] places c cmds next values lists = refl
choices_cons flat blocks asks (b ∷ path) [] c cmds next values lists = refl
choices_cons flat blocks asks (b ∷ path) (place ∷ places) c cmds next values lists = append_assoc (own_choices c values lists) (cmds_choices cmds (values_behind c values) (lists_behind c lists)) _

take_none : (n : ℕ) → take {A = Value} n [] ≡ []
take_none zero = refl
take_none (suc n) = refl

drop_none : (n : ℕ) → drop {A = Value} n [] ≡ []
drop_none zero = refl
drop_none (suc n) = refl

-- where nothing is left, nothing is chosen
pub nothing_left : (cmds : List FlatCmd) → cmds_choices cmds [] [] ≡ []
nothing_left [] = refl
nothing_left (Assign pairs ∷ cmds) = nothing_left cmds
nothing_left (Havoc xs ∷ cmds) = ap (λ vs. map Val vs ++ cmds_choices cmds (drop (length xs) []) []) (take_none (length xs)) ∙ (ap (λ vs. cmds_choices cmds vs []) (drop_none (length xs)) ∙ nothing_left cmds)
nothing_left (Assume e ∷ cmds) = nothing_left cmds
nothing_left (Assert p n e ∷ cmds) = nothing_left cmds
nothing_left (Call p args outs ∷ cmds) = nothing_left cmds

pub option_map_some : {A B : Type 0} (f : A → B) (o : Option A) (b : B) → option_map f o ≡ Some b → (a : A) × (o ≡ Some a) × (f a ≡ b)
option_map_some f None b h = absurd cc
option_map_some f (Some a) b h = (a, refl, cc)
