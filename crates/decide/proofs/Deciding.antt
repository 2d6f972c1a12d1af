-- A log of the solver's refutes.
use Rattle.std.proofs.Common.{◌≡◌, ◌∙◌, ℕ, true, List, [], ◌∷◌, ◌++◌, ap, refl}
use Rattle.std.specs.List.{list_any}
use Rattle.std.proofs.Math.Bool.{or-true}
use Rattle.cnf_form.specs.Lines.{refutes, is_empty_line}
use Rattle.cnf_form.specs.declared.log.Line.{Line}
use Rattle.sat_core.specs.Answer.{RefutesAnew}

any_last : (front : List Line) (last : Line) → last.clause ≡ [] → list_any is_empty_line (front ++ last ∷ []) ≡ true
any_last [] last e = rw e refl
any_last (x ∷ xs) last e = rw (any_last xs last e, or-true) refl

-- a log that refutes anew refutes
pub anew_refutes : (cs : List (List ℕ)) (lines : List Line) → RefutesAnew cs lines → refutes cs lines ≡ true
anew_refutes cs lines r =
    let some : list_any is_empty_line lines ≡ true = ap (list_any is_empty_line) r.ends ∙ any_last r.front r.last r.empty in
    rw (r.accepted, some) refl
