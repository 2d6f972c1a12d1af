-- What the grammar's reader says of what parse answers.
use Rattle.bpl_ast.specs.declared.decl.Ast.{Ast}
use Rattle.bpl_parse.proofs.WholeLaws.{is_exact}
use Rattle.bpl_parse.specs.Decls.{levels, program, whole}
use Rattle.bpl_parse.specs.Promises.{Reads, IsFirst}
use Rattle.bpl_parse.specs.Told.{told}
use Rattle.bpl_parse.specs.declared.fault.ParseFault.{ParseFault}
use Rattle.bpl_parse.specs.declared.place.Place.{Place}
use Rattle.bpl_rules.proofs.Laws.{no_ok, ok_is}
use Rattle.bpl_rules.specs.Rules.{Fault, Halt}
use Rattle.bpl_tok.specs.declared.token.Token.{Token}
use Rattle.std.proofs.Common.{◌≡◌, ℕ, List, [], Ok, Err, length, sym, ap, ◌∙◌}

pub found_is : (source : List ℕ) (ts : List Token) (found : Ast) → (program source (levels source 200)).run ts ≡ Ok (found, []) → Reads source ts found
unfolding whole
found_is source ts found read = (is_exact source ts).found found read

pub only_is : (source : List ℕ) (ts : List Token) (found : Ast) → (program source (levels source 200)).run ts ≡ Ok (found, []) → (tree : Ast) → Reads source ts tree → found ≡ tree
unfolding whole
only_is source ts found read = λ tree reads.
    ap (λ (x : Ast × List Token). x.0) (ok_is {E = Halt Place Token} (found, []) (tree, []) (sym read ∙ (is_exact source ts).only tree reads))

pub none_is : (source : List ℕ) (ts : List Token) (halt : Halt Place Token) → (program source (levels source 200)).run ts ≡ Err halt → (tree : Ast) → Reads source ts tree → ⊥
unfolding whole
none_is source ts halt read = λ tree reads. no_ok halt (tree, []) (sym read ∙ (is_exact source ts).only tree reads)

pub first_is : (source : List ℕ) (ts : List Token) (kind : Fault Place) (left : List Token) (fault : ParseFault) → (program source (levels source 200)).run ts ≡ Err (record { kind = kind; left = left })
    → fault ≡ told (length source) kind left → IsFirst source ts fault
unfolding whole
first_is source ts kind left fault read tells = record { kind = kind; left = left; stops = (is_exact source ts).first kind left read; awaits = read; tells = tells }
