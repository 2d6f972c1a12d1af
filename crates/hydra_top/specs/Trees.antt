-- What the bytes of a file are read as, by the tokens and the grammar of the language.
use Rattle.std.specs.Prelude.{◌≡◌, ℕ, ◌<◌, ◌≤◌, true, false, List, length, Result, Ok, Err, ⊤}
use Rattle.bpl_ast.specs.declared.decl.Ast.{Ast}
use Rattle.bpl_parse.specs.Promises.{IsFirst, Reads}
use Rattle.bpl_parse.specs.declared.fault.ParseFault.{ParseFault}
use Rattle.bpl_tok.specs.Lexed.{tokens_of}
use Rattle.bpl_tok.specs.declared.token.Token.{Token}
use Rattle.hy_text.specs.declared.refusal.Or.{Or}
use Rattle.hy_text.specs.declared.refusal.Or.TheVariants as ors
use Rattle.hydra_top.specs.declared.outcome.Refusal.{Refusal}
use Rattle.hydra_top.specs.declared.outcome.Refusal.TheVariants.{NotBuilt, Words, TooLong, Lex, Parse, Typing, Flow, NoEntry, TraceText, NotFailed, Differs}
use Rattle.hydra_top.specs.Reading.{limit}

-- the bytes have tokens, which are in the grammar at the tree
pub record HasTree (bytes : List ℕ) (tree : Ast) : Type 0 where
  pub tokens : List Token
  pub cut : tokens_of bytes ≡ Ok tokens
  pub reads : Reads bytes tokens tree

-- the bytes have tokens, of which this is the first fault
pub record HasFault (bytes : List ℕ) (fault : ParseFault) : Type 0 where
  pub tokens : List Token
  pub cut : tokens_of bytes ≡ Ok tokens
  pub first : IsFirst bytes tokens fault

-- The bytes are read as this tree, or refused: there are too many, they have no tokens, or these are no program, each with
-- its first fault.
abbrev pub IsReadAs : List ℕ → Result Ast Refusal → Type 0
IsReadAs bytes (Ok tree) = (length bytes ≤ limit) × HasTree bytes tree
IsReadAs bytes (Err (TooLong false)) = limit < length bytes
IsReadAs bytes (Err (TooLong true)) = ⊥
IsReadAs bytes (Err (Lex fault)) = (length bytes ≤ limit) × (tokens_of bytes ≡ Err fault)
IsReadAs bytes (Err (Parse fault)) = (length bytes ≤ limit) × HasFault bytes fault
IsReadAs bytes (Err (Words fault)) = ⊥
IsReadAs bytes (Err (NotBuilt part)) = ⊥
IsReadAs bytes (Err (Typing fault)) = ⊥
IsReadAs bytes (Err (Flow fault)) = ⊥
IsReadAs bytes (Err (NoEntry name)) = ⊥
IsReadAs bytes (Err (TraceText fault)) = ⊥
IsReadAs bytes (Err (NotFailed status index)) = ⊥
IsReadAs bytes (Err (Differs line)) = ⊥

-- The law of reading: only one of these holds of the bytes.
abbrev pub IsDetermined : List ℕ → Type 0
IsDetermined bytes = (one other : Result Ast Refusal) → IsReadAs bytes one → IsReadAs bytes other → one ≡ other

-- what a call answers is what the bytes are read as, unless memory ran out
abbrev pub IsTreeOf : List ℕ → Result Ast (Or Refusal) → Type 0
IsTreeOf bytes (Ok tree) = IsReadAs bytes (Ok tree)
IsTreeOf bytes (Err (ors.Fault refusal)) = IsReadAs bytes (Err refusal)
IsTreeOf bytes (Err ors.NoMemory) = ⊤
