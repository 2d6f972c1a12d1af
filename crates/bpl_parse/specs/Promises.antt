-- What reading a program promises, in words of the grammar.
use Rattle.std.specs.Prelude.{◌≡◌, ℕ, List, [], length, Result, Ok, Err}
use Rattle.bpl_ast.specs.declared.decl.Ast.{Ast}
use Rattle.bpl_parse.specs.Decls.{whole}
use Rattle.bpl_parse.specs.Told.{told}
use Rattle.bpl_parse.specs.declared.fault.ParseFault.{ParseFault}
use Rattle.bpl_parse.specs.declared.place.Place.{Place}
use Rattle.bpl_rules.specs.Reading.{StopsAt}
use Rattle.bpl_rules.specs.Rules.{Fault}
use Rattle.bpl_tok.specs.declared.token.Token.{Token}
use Rattle.hy_text.specs.declared.refusal.Or.{Or}
use Rattle.hy_text.specs.declared.refusal.Or.TheVariants as ors

-- the tokens of a source are in the grammar at the tree, with nesting at most 200
abbrev pub Reads : List ℕ → List Token → Ast → Type 0
Reads source ts tree = (whole source 200).Spells ts tree

-- The grammar's reader from left to right is exact.
pub record IsExact (source : List ℕ) (ts : List Token) : Type 0 where
  -- what it reads is in the grammar
  pub found : (tree : Ast) → (whole source 200).run ts ≡ Ok (tree, []) → Reads source ts tree
  -- what is in the grammar it reads, as that tree
  pub only : (tree : Ast) → Reads source ts tree → (whole source 200).run ts ≡ Ok (tree, [])
  -- It stops at the first token that continues no program, however deep that nests, or that opens a level too many, or where the tokens end too soon.
  pub first : (kind : Fault Place) (left : List Token) → (whole source 200).run ts ≡ Err (record { kind = kind; left = left }) → StopsAt (whole source) 200 ts kind left

-- The tokens of a source are in the grammar at one tree at most.
abbrev pub HasOneTree : List ℕ → List Token → Type 0
HasOneTree source ts = (tree other : Ast) → Reads source ts tree → Reads source ts other → tree ≡ other

-- The fault is the first of the tokens, and what is told of it by the table.
pub record IsFirst (source : List ℕ) (ts : List Token) (fault : ParseFault) : Type 0 where
  pub kind : Fault Place
  pub left : List Token
  -- no program goes on there, or with a level too many
  pub stops : StopsAt (whole source) 200 ts kind left
  -- what the grammar awaits there
  pub awaits : (whole source 200).run ts ≡ Err (record { kind = kind; left = left })
  -- what is told
  pub tells : fault ≡ told (length source) kind left

-- an error is the first fault, or want of memory
abbrev pub IsTold : List ℕ → List Token → Or ParseFault → Type 0
IsTold source ts ors.NoMemory = Unit {0}
IsTold source ts (ors.Fault fault) = IsFirst source ts fault

-- the answer is this tree, or want of memory
abbrev pub IsTree : Result Ast (Or ParseFault) → Ast → Type 0
IsTree (Ok found) tree = found ≡ tree
IsTree (Err ors.NoMemory) tree = Unit {0}
IsTree (Err (ors.Fault fault)) tree = ⊥
