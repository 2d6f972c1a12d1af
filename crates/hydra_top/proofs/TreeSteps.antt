-- What bytes are read as, step by step.
use Rattle.std.proofs.Common.{◌≡◌, ℕ, ◌≤◌, List, length, refl, sym, subst}
use Rattle.std.specs.Prelude.{Result, Ok, Err}
use Rattle.bpl_ast.specs.declared.decl.Ast.{Ast}
use Rattle.bpl_parse.specs.Promises.{IsFirst, Reads}
use Rattle.bpl_parse.specs.declared.fault.ParseFault.{ParseFault}
use Rattle.bpl_tok.specs.Lexed.{tokens_of}
use Rattle.bpl_tok.specs.declared.token.Token.{Token}
use Rattle.hy_text.specs.declared.refusal.Or.{Or}
use Rattle.hy_text.specs.declared.refusal.Or.TheVariants as ors
use Rattle.hydra_top.specs.declared.entry.Entered.{Entered}
use Rattle.hydra_top.specs.declared.outcome.Refusal.{Refusal}
use Rattle.hydra_top.specs.declared.outcome.Refusal.TheVariants.{Parse}
use Rattle.hydra_top.specs.Entry.{Gives, HasEntry, IsEntryOf, entered}
use Rattle.hydra_top.specs.Reading.{limit}
use Rattle.hydra_top.specs.Trees.{IsReadAs, IsTreeOf}

pub tree_is : (bytes : List ℕ) (tokens : List Token) (tree : Ast) → tokens_of bytes ≡ Ok tokens → Reads bytes tokens tree → length bytes ≤ limit → IsReadAs bytes (Ok tree)
tree_is bytes tokens tree cut reads short = (short, record { tokens = tokens; cut = cut; reads = reads })

pub fault_is : (bytes : List ℕ) (tokens : List Token) (fault : ParseFault) → tokens_of bytes ≡ Ok tokens → IsFirst bytes tokens fault → length bytes ≤ limit → IsReadAs bytes (Err (Parse fault))
fault_is bytes tokens fault cut first short = (short, record { tokens = tokens; cut = cut; first = first })

-- the bytes that were read are the file's
pub of_source : (bytes read : List ℕ) (result : Result Ast (Or Refusal)) → read ≡ bytes → length bytes ≤ limit → (length read ≤ limit → IsTreeOf read result) → IsTreeOf bytes result
of_source bytes read result is short reads = subst (λ b. IsTreeOf b result) is (reads (subst (λ b. length b ≤ limit) (sym is) short))

-- ---- the entry

-- what is found in a tree is found in the file that is read as it
pub entry_of_tree : (name bytes : List ℕ) (tree : Ast) (result : Result Entered (Or Refusal)) → IsReadAs bytes (Ok tree) → Gives result (entered name tree) → IsEntryOf name bytes result
entry_of_tree name bytes tree (Ok e) reads gives = record { read = Ok tree; reads = reads; gives = gives }
entry_of_tree name bytes tree (Err (ors.Fault refusal)) reads gives = record { read = Ok tree; reads = reads; gives = gives }
entry_of_tree name bytes tree (Err ors.NoMemory) reads gives = tt

-- a file that has no tree has no entry
pub entry_of_none : (name bytes : List ℕ) (refusal : Refusal) → IsReadAs bytes (Err refusal) → HasEntry name bytes (Err refusal)
entry_of_none name bytes refusal reads = record { read = Err refusal; reads = reads; gives = refl }
