-- The names of the choices of a run, turn by turn.
use Rattle.std.proofs.Common.{◌≡◌, ℕ, zero, suc, List, [], ◌∷◌, ◌++◌, option_map, refl, sym, ap, ◌∙◌, subst, append_assoc}
use Rattle.std.proofs.lemmas.List.{append-nil}
use Rattle.src_prog.specs.Program.{Program}
use Rattle.src_run.specs.declared.machine.Choice.{Choice}
use Rattle.src_run.specs.declared.machine.Status.{Status}
use Rattle.src_run.specs.declared.machine.Status.TheVariants.{Going, Ended, Failed, Blocked, Cut, BadChoice}
use Rattle.src_run.specs.Machine.{Config, Want, Stands, GoesOn, turn, bad}
use Rattle.src_run.specs.Names.{Name, name_of, turn_names, names_behind, names_within, NamesCome}
use Rattle.src_run.specs.Replaying.{Finishes, Asks, Ends}
use Rattle.src_run.specs.State.{IsOver}

-- one turn in front
pub names_more : (prog : Program) (bound index next : ℕ) (c d : Config) (xs ys : List Choice) (names : List Name) → turn prog bound index c c.status xs ≡ GoesOn next d ys → NamesCome prog bound next d ys names
    → NamesCome prog bound index c xs (turn_names prog c c.status xs ++ names)
names_more prog bound index next c d xs ys names t h = record {
  turns = suc h.turns;
  are = ap (names_behind (turn_names prog c c.status xs) (λ i b zs. names_within h.turns prog bound i b zs)) t ∙ ap (option_map (λ more. turn_names prog c c.status xs ++ more)) h.are;
}

one_turn : (prog : Program) (bound index : ℕ) (c d : Config) (xs : List Choice) → turn prog bound index c c.status xs ≡ Stands d → NamesCome prog bound index c xs (turn_names prog c c.status xs)
one_turn prog bound index c d xs t = record { turns = 1; are = ap (names_behind (turn_names prog c c.status xs) (λ i b zs. names_within zero prog bound i b zs)) t }

-- a run that is over stands in one turn, and takes no choice
over_turn : (prog : Program) (bound index : ℕ) (d : Config) (xs : List Choice) (s : Status) → d.status ≡ s → IsOver s → (last : Config) × (turn prog bound index d d.status xs ≡ Stands last) × (turn_names prog d d.status xs ≡ [])
over_turn prog bound index d xs s e o = let t = at s xs o in (t.0, ap (λ v. turn prog bound index d v xs) e ∙ t.1, ap (λ v. turn_names prog d v xs) e ∙ t.2)
  where
    at : (s : Status) (xs : List Choice) → IsOver s → (last : Config) × (turn prog bound index d s xs ≡ Stands last) × (turn_names prog d s xs ≡ [])
    at Going xs o = absurd o
    at Ended [] o = (d, refl, refl)
    at Ended (x ∷ xs) o = (bad index d, refl, refl)
    at (Failed p n) [] o = (d, refl, refl)
    at (Failed p n) (x ∷ xs) o = (bad index d, refl, refl)
    at Blocked [] o = (d, refl, refl)
    at Blocked (x ∷ xs) o = (bad index d, refl, refl)
    at Cut [] o = (d, refl, refl)
    at Cut (x ∷ xs) o = (bad index d, refl, refl)
    at (BadChoice i) xs o = (d, refl, refl)

pub over_names : (prog : Program) (bound index : ℕ) (d : Config) (xs : List Choice) (s : Status) → d.status ≡ s → IsOver s → NamesCome prog bound index d xs []
over_names prog bound index d xs s e o =
    let t = over_turn prog bound index d xs s e o in
    subst (NamesCome prog bound index d xs) t.2 (one_turn prog bound index d t.0 xs t.1)

-- the last names of a run that finishes
pub finished_names : (prog : Program) (bound index : ℕ) (c : Config) (xs : List Choice) (status : Status) → Finishes prog bound index c xs status → NamesCome prog bound index c xs (turn_names prog c c.status xs)
finished_names prog bound index c xs status (Asks t e) = one_turn prog bound index c c xs t
finished_names prog bound index c xs status (Ends next d left s t e o is) =
    subst (NamesCome prog bound index c xs) (append-nil (turn_names prog c c.status xs)) (names_more prog bound index next c d xs left [] t (over_names prog bound next d left s e o))

-- what is taken in a turn
pub taken_names : (prog : Program) (c : Config) (want : Want) (rest : List Want) (choice : Choice) (xs : List Choice) (ys : List Choice) → c.status ≡ Going → c.wants ≡ want ∷ rest → ys ≡ choice ∷ xs → turn_names prog c c.status ys ≡ name_of prog c want ∷ []
taken_names prog c want rest choice xs ys going wants left = rw (going, wants, left) refl

-- names that were joined are joined with more
pub joined : (prog : Program) (bound index : ℕ) (c : Config) (xs : List Choice) (new names turn more : List Name) → new ≡ names ++ turn → NamesCome prog bound index c xs (names ++ (turn ++ more)) → NamesCome prog bound index c xs (new ++ more)
joined prog bound index c xs new names turn more e h = subst (NamesCome prog bound index c xs) (sym (ap (λ ns. ns ++ more) e ∙ append_assoc names turn more)) h
