-- What is told of a fault: a table of places and tokens, which no law of the grammar looks at.
--   int as a sort, a number as an operand                                   integer
--   real as a sort                                                          real
--   + - * / % div mod after an operand, - as an operand                     arithmetic
--   < <= > >= after an operand                                              order
--   < as a sort, or after the declared name of a function or procedure      polymorphism
--   ; or a name where the = of a type is due                                type constructor
--   , after an index in brackets, of a sort or an expression                several indexes
--   forall, exists as an operand or after call                              quantifier
--   lambda as an operand                                                    lambda
--   where after a sort                                                      where
--   extends, complete after the sort of a constant                          extends
--   async, par, yield at a statement                                        concurrency
--   requires, ensures as a spec, also after free                            contract
--   old as an operand                                                       old
--   bvN with N 0 or above 64 as a sort                                      wide type
use Rattle.std.specs.Prelude.{ℕ, Bool, true, false, ◌||◌, ◌&&◌, if◌then◌else◌, List, [], ◌∷◌, Option, Some, None}
use Rattle.bpl_ast.specs.declared.word.Word.TheVariants as words
use Rattle.bpl_ast.specs.declared.word.Word.{Word}
use Rattle.bpl_parse.specs.Tests.{is}
use Rattle.bpl_parse.specs.declared.fault.ParseFault.{ParseFault}
use Rattle.bpl_parse.specs.declared.fault.ParseKind.TheVariants as tells
use Rattle.bpl_parse.specs.declared.fault.ParseKind.{ParseKind}
use Rattle.bpl_parse.specs.declared.place.Place.TheVariants as at
use Rattle.bpl_parse.specs.declared.place.Place.{Place}
use Rattle.bpl_rules.specs.Rules.{Fault, Refused, Ahead, TooDeep}
use Rattle.bpl_tok.specs.declared.token.Terminal.TheVariants as k
use Rattle.bpl_tok.specs.declared.token.Token.{Token}

abbrev pub is_arithmetic : Token → Bool
is_arithmetic t = is k.Plus t || (is k.Minus t || (is k.Star t || (is k.Slash t || (is k.Percent t || (is k.Div t || is k.Mod t)))))

abbrev pub is_order : Token → Bool
is_order t = is k.Less t || (is k.AtMost t || (is k.Greater t || is k.AtLeast t))

abbrev pub is_quantifier : Token → Bool
is_quantifier t = is k.Forall t || is k.Exists t

abbrev pub is_extension : Token → Bool
is_extension t = is k.Extends t || is k.Complete t

abbrev pub is_concurrent : Token → Bool
is_concurrent t = is k.Async t || (is k.Par t || is k.Yield t)

abbrev pub is_contract : Token → Bool
is_contract t = is k.Requires t || is k.Ensures t

abbrev pub is_no_synonym : Token → Bool
is_no_synonym t = is k.Semicolon t || is k.Ident t

-- the word where the test holds, else another one
abbrev pub or_else : Bool → Word → Option Word → Option Word
or_else test word other = if test then Some word else other

abbrev pub operand_word : Token → Option Word
operand_word t = or_else (is k.Number t) words.Integer (or_else (is k.Minus t) words.Arithmetic (or_else (is_quantifier t) words.Quantifier (or_else (is k.Lambda t) words.Lambda (or_else (is k.Old t) words.Old None))))

abbrev pub after_operand_word : Token → Option Word
after_operand_word t = or_else (is_arithmetic t) words.Arithmetic (or_else (is_order t) words.Order None)

abbrev pub sort_word : Token → Option Word
sort_word t = or_else (is k.Int t) words.Integer (or_else (is k.Real t) words.Real (or_else (is k.Less t) words.Polymorphism (or_else (is k.WideWidth t) words.WideType None)))

abbrev pub word_of : Place → Token → Option Word
word_of at.Operand t = operand_word t
word_of at.AfterOperand t = after_operand_word t
word_of at.AfterIndex t = or_else (is k.Comma t) words.SeveralIndexes (after_operand_word t)
word_of at.Sort t = sort_word t
word_of at.AfterSort t = or_else (is k.Where t) words.Where None
word_of at.AfterIndexSort t = or_else (is k.Comma t) words.SeveralIndexes (or_else (is k.Where t) words.Where None)
word_of at.AfterConstantSort t = or_else (is k.Where t) words.Where (or_else (is_extension t) words.Extends None)
word_of at.AfterDeclaredName t = or_else (is k.Less t) words.Polymorphism None
word_of at.SynonymSign t = or_else (is_no_synonym t) words.TypeConstructor None
word_of at.Called t = or_else (is_quantifier t) words.Quantifier None
word_of at.Statement t = or_else (is_concurrent t) words.Concurrency None
word_of at.Spec t = or_else (is_contract t) words.Contract None
word_of at.Other t = None

abbrev pub kind_of : Option Word → ParseKind
kind_of None = tells.Unexpected
kind_of (Some word) = tells.LeftOut word

-- a token that was refused
abbrev pub refused_token : Place → Token → ParseFault
refused_token place t = record { at = t.at; kind = kind_of (word_of place t) }

abbrev pub is_spec : Place → Bool
is_spec at.Spec = true
is_spec at.Operand = false
is_spec at.AfterOperand = false
is_spec at.AfterIndex = false
is_spec at.Sort = false
is_spec at.AfterSort = false
is_spec at.AfterIndexSort = false
is_spec at.AfterConstantSort = false
is_spec at.AfterDeclaredName = false
is_spec at.SynonymSign = false
is_spec at.Called = false
is_spec at.Statement = false
is_spec at.Other = false

-- whether `free` stands where a spec may stand, before a word of a contract, which is then told
abbrev pub is_free_contract : Place → Token → Token → Bool
is_free_contract place t u = is_spec place && (is k.Free t && is_contract u)

-- The tokens from a refused one on; where none is left, the end of the source is told.
abbrev pub refused_at : ℕ → Place → List Token → ParseFault
refused_at end place [] = record { at = end; kind = tells.EndTooSoon }
refused_at end place (t ∷ []) = refused_token place t
refused_at end place (t ∷ u ∷ ts) = if is_free_contract place t u then refused_token place u else refused_token place t

abbrev pub too_deep_at : ℕ → List Token → ParseFault
too_deep_at end [] = record { at = end; kind = tells.TooDeep }
too_deep_at end (t ∷ ts) = record { at = t.at; kind = tells.TooDeep }

-- what is told of a fault, in a source that ends there
abbrev pub told : ℕ → Fault Place → List Token → ParseFault
told end (Refused place) left = refused_at end place left
told end (Ahead place) left = refused_at end place left
told end TooDeep left = too_deep_at end left
