-- What the checker answers.
use Rattle.std.specs.Prelude.{◌≡◌, ℕ, true, false, Option, None, Some, List, ◌++◌, take, slice_get}
use Rattle.std.specs.List.{list_any}
use Rattle.cnf_form.specs.Lines.{follows, accepts, refutes, is_empty_line, clauses_of}
use Rattle.cnf_form.specs.declared.cnf.Cnf.{Cnf}
use Rattle.cnf_form.specs.declared.log.Line.{Line}
use Rattle.cnf_form.specs.declared.log.Log.{Log}
use Rattle.cnf_form.specs.declared.refuted.Refuted.{Refuted}
use Rattle.proof_check.specs.declared.checker.Verdict.{Verdict}
use Rattle.proof_check.specs.declared.checker.Verdict.TheVariants.{Refutes, Derives, BadLine}

-- the lines before the index follow, and that at the index doesn't
abbrev pub IsFirstBad : List (List ℕ) → List Line → ℕ → Type 0
IsFirstBad cs lines i = (accepts cs (take i lines) ≡ true) × ((line : Line) × (slice_get lines i ≡ Some line) × (follows (cs ++ clauses_of (take i lines)) line ≡ false))

abbrev pub IsVerdict : List (List ℕ) → List Line → Verdict → Type 0
IsVerdict cs lines Refutes = refutes cs lines ≡ true
IsVerdict cs lines Derives = (accepts cs lines ≡ true) × (list_any is_empty_line lines ≡ false)
IsVerdict cs lines (BadLine i) = IsFirstBad cs lines i

-- the pair, where the log refutes, and else nothing
abbrev pub IsCertificate : Cnf → Log → Option Refuted → Type 0
IsCertificate cnf log None = refutes cnf.clauses log.lines ≡ false
IsCertificate cnf log (Some r) = (r.cnf ≡ cnf) × (r.log ≡ log)
