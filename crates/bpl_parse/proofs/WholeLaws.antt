-- What the laws of the whole grammar say of programs.
use Rattle.bpl_ast.specs.declared.decl.Ast.{Ast}
use Rattle.bpl_parse.proofs.DeclsLaws.{whole_lawful}
use Rattle.bpl_parse.proofs.DeclsRises.{whole_rises, whole_example}
use Rattle.bpl_parse.specs.Decls.{whole}
use Rattle.bpl_parse.specs.Promises.{IsExact, HasOneTree}
use Rattle.bpl_parse.specs.declared.place.Place.{Place}
use Rattle.bpl_rules.proofs.Laws.{ok_is}
use Rattle.bpl_rules.proofs.Whole as read
use Rattle.bpl_rules.specs.Reading.{AreFronts}
use Rattle.bpl_rules.specs.Rules.{Halt}
use Rattle.bpl_tok.specs.declared.token.Token.{Token}
use Rattle.std.proofs.Common.{ℕ, List, [], sym, ap, ◌∙◌}

pub is_exact : (source : List ℕ) (ts : List Token) → IsExact source ts
is_exact source ts = record {
  found = λ tree e. read.found (whole source) (whole_lawful source) (whole_rises source) 200 ts tree e;
  only = λ tree h. read.only (whole source) (whole_lawful source) (whole_rises source) 200 ts tree h;
  first = λ kind left e. read.stops (whole source) (whole_lawful source) (whole_rises source) 200 ts kind left e;
}

pub has_one_tree : (source : List ℕ) (ts : List Token) → HasOneTree source ts
has_one_tree source ts = λ tree other h k.
    let read_as = read.only (whole source) (whole_lawful source) (whole_rises source) 200 ts in
    ap (λ (x : Ast × List Token). x.0) (ok_is {E = Halt Place Token} (tree, []) (other, []) (sym (read_as tree h) ∙ read_as other k))

pub are_fronts : (source : List ℕ) → AreFronts (whole source) 200
are_fronts source = read.are_fronts (whole source) (whole_lawful source) (whole_rises source) 200 (whole_example source 200)
