-- What a function of the reader ensures: what reading by the rule gives, unless memory runs out.
use Rattle.std.specs.Prelude.{◌≡◌, if◌then◌else◌, List, Result, Ok, Err}
use Rattle.bpl_parse.specs.declared.error.ReadError.{ReadError}
use Rattle.bpl_parse.specs.declared.error.ReadError.TheVariants as errors
use Rattle.bpl_parse.specs.declared.place.Place.{Place}
use Rattle.bpl_parse.specs.declared.place.StopKind.{StopKind}
use Rattle.bpl_parse.specs.declared.place.StopKind.TheVariants as stops
use Rattle.bpl_rules.specs.Rules.{Fault, Refused, Ahead, TooDeep, Halt, heads, refused, too_deep}
use Rattle.bpl_tok.specs.declared.token.Terminal.{Terminal}
use Rattle.bpl_tok.specs.declared.token.Token.{Token}
use Rattle.bpl_parse.specs.Tests.{is}

abbrev pub fault : StopKind → Fault Place
fault (stops.Refused place) = Refused place
fault (stops.Ahead place) = Ahead place
fault stops.TooDeep = TooDeep

abbrev pub Fails : {Y : Type 0} → ReadError → Result Y (Halt Place Token) → Type 0
Fails errors.Memory read = Unit {0}
Fails (errors.Stop kind left) read = read ≡ Err (record { kind = fault kind; left = left.now })

-- The answer is what reading by a rule gives, seen through the view, or memory ran out.
abbrev pub Gives : {X Y : Type 0} → (X → Y) → Result X ReadError → Result Y (Halt Place Token) → Type 0
Gives view (Ok x) read = read ≡ Ok (view x)
Gives view (Err e) read = Fails e read

abbrev pub IsHalt : ReadError → Halt Place Token → Type 0
IsHalt errors.Memory halt = ⊥
IsHalt (errors.Stop kind left) halt = halt ≡ record { kind = fault kind; left = left.now }

-- a token that opens a level too many, or is another one
abbrev pub at_bottom : Terminal → Place → List Token → Halt Place Token
at_bottom kind place ts = if heads (is kind) ts then too_deep ts else refused place ts
