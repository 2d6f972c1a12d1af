-- A fault in a turn of a loop is the loop's.
use Rattle.std.proofs.Common.{◌≡◌, ℕ, ◌-◌, ◌<◌, true, List}
use Rattle.bpl_parse.specs.Gives.{fault, Fails}
use Rattle.bpl_parse.specs.declared.error.ReadError.TheVariants as errors
use Rattle.bpl_parse.specs.declared.error.ReadError.{ReadError}
use Rattle.bpl_parse.specs.declared.place.Place.{Place}
use Rattle.bpl_rules.proofs.Turns.{adding, append, push, lists, fails}
use Rattle.bpl_rules.specs.Rules.{Rule, Outcome, heads, run_many}
use Rattle.bpl_tok.specs.declared.token.Token.{Token}

pub ends : {A : Type 0} (p : Rule Place Token A) (e : ReadError) (found : List A) (end i : ℕ) (ts : List Token) (total : Outcome Place Token (List A)) → i < end → heads p.begins ts ≡ true → Fails e (p.run ts)
    → adding append found (run_many p (end - i) ts) ≡ total → Fails e total
ends p errors.Memory found end i ts total lt h e so_far = tt
ends p (errors.Stop kind left) found end i ts total lt h e so_far = fails append push lists p found end i ts (record { kind = fault kind; left = left.now }) total lt h e so_far
