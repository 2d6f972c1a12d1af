-- Some bytes are read as one tree, or refused for one cause.
use Rattle.std.proofs.Common.{◌≡◌, ℕ, ◌<◌, ◌≤◌, List, [], length, arith, sym, ◌∙◌, ap, refl, subst}
use Rattle.std.specs.Prelude.{true, false, Result, Ok, Err}
use Rattle.bpl_ast.specs.declared.decl.Ast.{Ast}
use Rattle.bpl_parse.specs.Promises.{IsExact, IsFirst, Reads}
use Rattle.bpl_parse.specs.Told.{told}
use Rattle.bpl_parse.specs.declared.fault.ParseFault.{ParseFault}
use Rattle.bpl_tok.specs.Lexed.{tokens_of}
use Rattle.bpl_tok.specs.declared.token.Token.{Token}
use Rattle.hydra_top.specs.declared.outcome.Refusal.{Refusal}
use Rattle.hydra_top.specs.declared.outcome.Refusal.TheVariants.{NotBuilt, Words, TooLong, Lex, Parse, Typing, Flow, NoEntry, TraceText, NotFailed, Differs}
use Rattle.hydra_top.specs.Reading.{limit}
use Rattle.hydra_top.specs.Trees.{HasFault, HasTree, IsReadAs}

not_both : (n : ℕ) → n ≤ limit → limit < n → ⊥
not_both n short long = omega arith

-- one result has one value, or one error
same_answer : {A E : Type 0} → (result : Result A E) (x y : A) → result ≡ Ok x → result ≡ Ok y → x ≡ y
same_answer result x y h k = cc

same_value : {A B E : Type 0} → (result : Result (A × B) E) (x y : A) (rest : B) → result ≡ Ok (x, rest) → result ≡ Ok (y, rest) → x ≡ y
same_value {A = A} {B = B} result x y rest h k = ap (λ (p : A × B). p.0) (same_answer result (x, rest) (y, rest) h k)

same_error : {A E : Type 0} → (result : Result A E) (x y : E) → result ≡ Err x → result ≡ Err y → x ≡ y
same_error result x y h k = cc

same_tokens : (bytes : List ℕ) (tokens others : List Token) → tokens_of bytes ≡ Ok tokens → tokens_of bytes ≡ Ok others → tokens ≡ others
same_tokens bytes tokens others h k = cc

one_tree : (exact : (source : List ℕ) (tokens : List Token) → IsExact source tokens) (bytes : List ℕ) (tree other : Ast) → HasTree bytes tree → HasTree bytes other → tree ≡ other
one_tree exact bytes tree other h k =
    let same = same_tokens bytes k.tokens h.tokens k.cut h.cut in
    let first = (exact bytes h.tokens).only tree h.reads in
    let second = (exact bytes h.tokens).only other (subst (λ ts. Reads bytes ts other) same k.reads) in
    same_value _ tree other [] first second

tree_or_fault : (exact : (source : List ℕ) (tokens : List Token) → IsExact source tokens) (bytes : List ℕ) (tree : Ast) (fault : ParseFault) → HasTree bytes tree → HasFault bytes fault → ⊥
tree_or_fault exact bytes tree fault h k =
    let same = same_tokens bytes k.tokens h.tokens k.cut h.cut in
    let first = (exact bytes h.tokens).only tree h.reads in
    let second = (subst (λ ts. IsFirst bytes ts fault) same k.first).awaits in
    cc

one_fault : (bytes : List ℕ) (fault other : ParseFault) → HasFault bytes fault → HasFault bytes other → fault ≡ other
one_fault bytes fault other h k =
    let same = same_tokens bytes k.tokens h.tokens k.cut h.cut in
    let second = subst (λ ts. IsFirst bytes ts other) same k.first in
    let halts = same_error _ _ _ h.first.awaits second.awaits in
    h.first.tells ∙ (ap (λ s. told (length bytes) s.kind s.left) halts ∙ sym second.tells)

pub determined : (exact : (source : List ℕ) (tokens : List Token) → IsExact source tokens) (bytes : List ℕ) (one other : Result Ast Refusal) → IsReadAs bytes one → IsReadAs bytes other → one ≡ other
determined exact bytes (Ok tree) (Ok other) h k = ap Ok (one_tree exact bytes tree other h.1 k.1)
determined exact bytes (Ok tree) (Err (TooLong false)) h k = absurd (not_both (length bytes) h.0 k)
determined exact bytes (Ok tree) (Err (Lex fault)) h k = let a = h.1.cut in let b = k.1 in cc
determined exact bytes (Ok tree) (Err (Parse fault)) h k = absurd (tree_or_fault exact bytes tree fault h.1 k.1)
determined exact bytes (Ok tree) (Err (Words wrong)) h k = absurd k
determined exact bytes (Ok tree) (Err (TooLong true)) h k = absurd k
determined exact bytes (Ok tree) (Err (NotBuilt part)) h k = absurd k
determined exact bytes (Ok tree) (Err (Typing wrong)) h k = absurd k
determined exact bytes (Ok tree) (Err (Flow wrong)) h k = absurd k
determined exact bytes (Ok tree) (Err (NoEntry name)) h k = absurd k
determined exact bytes (Ok tree) (Err (TraceText wrong)) h k = absurd k
determined exact bytes (Ok tree) (Err (NotFailed status index)) h k = absurd k
determined exact bytes (Ok tree) (Err (Differs line)) h k = absurd k
determined exact bytes (Err (TooLong false)) (Ok tree) h k = absurd (not_both (length bytes) k.0 h)
determined exact bytes (Err (TooLong false)) (Err (TooLong false)) h k = refl
determined exact bytes (Err (TooLong false)) (Err (Lex fault)) h k = absurd (not_both (length bytes) k.0 h)
determined exact bytes (Err (TooLong false)) (Err (Parse fault)) h k = absurd (not_both (length bytes) k.0 h)
determined exact bytes (Err (TooLong false)) (Err (Words wrong)) h k = absurd k
determined exact bytes (Err (TooLong false)) (Err (TooLong true)) h k = absurd k
determined exact bytes (Err (TooLong false)) (Err (NotBuilt part)) h k = absurd k
determined exact bytes (Err (TooLong false)) (Err (Typing wrong)) h k = absurd k
determined exact bytes (Err (TooLong false)) (Err (Flow wrong)) h k = absurd k
determined exact bytes (Err (TooLong false)) (Err (NoEntry name)) h k = absurd k
determined exact bytes (Err (TooLong false)) (Err (TraceText wrong)) h k = absurd k
determined exact bytes (Err (TooLong false)) (Err (NotFailed status index)) h k = absurd k
determined exact bytes (Err (TooLong false)) (Err (Differs line)) h k = absurd k
determined exact bytes (Err (Lex fault)) (Ok tree) h k = let a = h.1 in let b = k.1.cut in cc
determined exact bytes (Err (Lex fault)) (Err (TooLong false)) h k = absurd (not_both (length bytes) h.0 k)
determined exact bytes (Err (Lex fault)) (Err (Lex other)) h k = let a = h.1 in let b = k.1 in cc
determined exact bytes (Err (Lex fault)) (Err (Parse other)) h k = let a = h.1 in let b = k.1.cut in cc
determined exact bytes (Err (Lex fault)) (Err (Words wrong)) h k = absurd k
determined exact bytes (Err (Lex fault)) (Err (TooLong true)) h k = absurd k
determined exact bytes (Err (Lex fault)) (Err (NotBuilt part)) h k = absurd k
determined exact bytes (Err (Lex fault)) (Err (Typing wrong)) h k = absurd k
determined exact bytes (Err (Lex fault)) (Err (Flow wrong)) h k = absurd k
determined exact bytes (Err (Lex fault)) (Err (NoEntry name)) h k = absurd k
determined exact bytes (Err (Lex fault)) (Err (TraceText wrong)) h k = absurd k
determined exact bytes (Err (Lex fault)) (Err (NotFailed status index)) h k = absurd k
determined exact bytes (Err (Lex fault)) (Err (Differs line)) h k = absurd k
determined exact bytes (Err (Parse fault)) (Ok tree) h k = absurd (tree_or_fault exact bytes tree fault k.1 h.1)
determined exact bytes (Err (Parse fault)) (Err (TooLong false)) h k = absurd (not_both (length bytes) h.0 k)
determined exact bytes (Err (Parse fault)) (Err (Lex other)) h k = let a = h.1.cut in let b = k.1 in cc
determined exact bytes (Err (Parse fault)) (Err (Parse other)) h k = ap (λ f. Err (Parse f)) (one_fault bytes fault other h.1 k.1)
determined exact bytes (Err (Parse fault)) (Err (Words wrong)) h k = absurd k
determined exact bytes (Err (Parse fault)) (Err (TooLong true)) h k = absurd k
determined exact bytes (Err (Parse fault)) (Err (NotBuilt part)) h k = absurd k
determined exact bytes (Err (Parse fault)) (Err (Typing wrong)) h k = absurd k
determined exact bytes (Err (Parse fault)) (Err (Flow wrong)) h k = absurd k
determined exact bytes (Err (Parse fault)) (Err (NoEntry name)) h k = absurd k
determined exact bytes (Err (Parse fault)) (Err (TraceText wrong)) h k = absurd k
determined exact bytes (Err (Parse fault)) (Err (NotFailed status index)) h k = absurd k
determined exact bytes (Err (Parse fault)) (Err (Differs line)) h k = absurd k
determined exact bytes (Err (Words wrong)) other h k = absurd h
determined exact bytes (Err (TooLong true)) other h k = absurd h
determined exact bytes (Err (NotBuilt part)) other h k = absurd h
determined exact bytes (Err (Typing wrong)) other h k = absurd h
determined exact bytes (Err (Flow wrong)) other h k = absurd h
determined exact bytes (Err (NoEntry name)) other h k = absurd h
determined exact bytes (Err (TraceText wrong)) other h k = absurd h
determined exact bytes (Err (NotFailed status index)) other h k = absurd h
determined exact bytes (Err (Differs line)) other h k = absurd h
