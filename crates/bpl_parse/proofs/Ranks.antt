-- The rank of a terminal symbol is its place in the enum.
use Rattle.std.proofs.Common.{◌≡◌, refl}
use denote.Enum.Declared.{tag_of}
use Rattle.bpl_parse.specs.Tests.{rank}
use Rattle.bpl_tok.specs.contracts.token.Terminal.{the_type}
use Rattle.bpl_tok.specs.declared.token.Terminal.TheVariants as k
use Rattle.bpl_tok.specs.declared.token.Terminal.{Terminal}

pub rank_is : (x : Terminal) → tag_of the_type x ≡ rank x
rank_is k.Ident = refl
rank_is k.Width = refl
rank_is k.WideWidth = refl
rank_is k.Number = refl
rank_is k.Literal = refl
rank_is k.Str = refl
rank_is k.TypeWord = refl
rank_is k.Const = refl
rank_is k.Unique = refl
rank_is k.Function = refl
rank_is k.Axiom = refl
rank_is k.Var = refl
rank_is k.Procedure = refl
rank_is k.Implementation = refl
rank_is k.Returns = refl
rank_is k.Modifies = refl
rank_is k.Requires = refl
rank_is k.Ensures = refl
rank_is k.Free = refl
rank_is k.Where = refl
rank_is k.Assert = refl
rank_is k.Assume = refl
rank_is k.Havoc = refl
rank_is k.Call = refl
rank_is k.Goto = refl
rank_is k.Return = refl
rank_is k.If = refl
rank_is k.Then = refl
rank_is k.Else = refl
rank_is k.While = refl
rank_is k.Break = refl
rank_is k.Invariant = refl
rank_is k.BoolWord = refl
rank_is k.Int = refl
rank_is k.Real = refl
rank_is k.True = refl
rank_is k.False = refl
rank_is k.Old = refl
rank_is k.Forall = refl
rank_is k.Exists = refl
rank_is k.Lambda = refl
rank_is k.Extends = refl
rank_is k.Complete = refl
rank_is k.Async = refl
rank_is k.Par = refl
rank_is k.Yield = refl
rank_is k.Div = refl
rank_is k.Mod = refl
rank_is k.LeftParen = refl
rank_is k.RightParen = refl
rank_is k.LeftBracket = refl
rank_is k.RightBracket = refl
rank_is k.LeftBrace = refl
rank_is k.RightBrace = refl
rank_is k.Comma = refl
rank_is k.Semicolon = refl
rank_is k.Colon = refl
rank_is k.Assign = refl
rank_is k.EqualsSign = refl
rank_is k.Equal = refl
rank_is k.NotEqual = refl
rank_is k.Equivalent = refl
rank_is k.Implies = refl
rank_is k.ImpliedBy = refl
rank_is k.AtMost = refl
rank_is k.AtLeast = refl
rank_is k.Less = refl
rank_is k.Greater = refl
rank_is k.AndAnd = refl
rank_is k.OrOr = refl
rank_is k.Bang = refl
rank_is k.PlusPlus = refl
rank_is k.Plus = refl
rank_is k.Minus = refl
rank_is k.Star = refl
rank_is k.Slash = refl
rank_is k.Percent = refl
