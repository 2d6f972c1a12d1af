-- Tests on a token, which look at its terminal symbol alone: with what each rule of the grammar begins, and with what it may go on.
use Rattle.std.specs.Prelude.{ℕ, Bool, not, ◌||◌, ◌==◌}
use Rattle.bpl_tok.specs.declared.token.Terminal.{Terminal}
use Rattle.bpl_tok.specs.declared.token.Terminal.TheVariants as k
use Rattle.bpl_tok.specs.declared.token.Token.{Token}
use Rattle.bpl_tok.specs.Terminals.{terminal_of}

-- the place of a terminal symbol among all of them
abbrev pub rank : Terminal → ℕ
rank k.Ident = 0
rank k.Width = 1
rank k.WideWidth = 2
rank k.Number = 3
rank k.Literal = 4
rank k.Str = 5
rank k.TypeWord = 6
rank k.Const = 7
rank k.Unique = 8
rank k.Function = 9
rank k.Axiom = 10
rank k.Var = 11
rank k.Procedure = 12
rank k.Implementation = 13
rank k.Returns = 14
rank k.Modifies = 15
rank k.Requires = 16
rank k.Ensures = 17
rank k.Free = 18
rank k.Where = 19
rank k.Assert = 20
rank k.Assume = 21
rank k.Havoc = 22
rank k.Call = 23
rank k.Goto = 24
rank k.Return = 25
rank k.If = 26
rank k.Then = 27
rank k.Else = 28
rank k.While = 29
rank k.Break = 30
rank k.Invariant = 31
rank k.BoolWord = 32
rank k.Int = 33
rank k.Real = 34
rank k.True = 35
rank k.False = 36
rank k.Old = 37
rank k.Forall = 38
rank k.Exists = 39
rank k.Lambda = 40
rank k.Extends = 41
rank k.Complete = 42
rank k.Async = 43
rank k.Par = 44
rank k.Yield = 45
rank k.Div = 46
rank k.Mod = 47
rank k.LeftParen = 48
rank k.RightParen = 49
rank k.LeftBracket = 50
rank k.RightBracket = 51
rank k.LeftBrace = 52
rank k.RightBrace = 53
rank k.Comma = 54
rank k.Semicolon = 55
rank k.Colon = 56
rank k.Assign = 57
rank k.EqualsSign = 58
rank k.Equal = 59
rank k.NotEqual = 60
rank k.Equivalent = 61
rank k.Implies = 62
rank k.ImpliedBy = 63
rank k.AtMost = 64
rank k.AtLeast = 65
rank k.Less = 66
rank k.Greater = 67
rank k.AndAnd = 68
rank k.OrOr = 69
rank k.Bang = 70
rank k.PlusPlus = 71
rank k.Plus = 72
rank k.Minus = 73
rank k.Star = 74
rank k.Slash = 75
rank k.Percent = 76

abbrev pub is : Terminal → Token → Bool
is kind t = rank kind == rank (terminal_of t.kind)

-- a token that may stand inside an attribute
abbrev pub is_no_brace : Token → Bool
is_no_brace t = not (is k.LeftBrace t || is k.RightBrace t)

-- ---- with what a rule begins

abbrev pub begins_unnamed : Token → Bool
begins_unnamed t = is k.BoolWord t || (is k.Width t || (is k.LeftBracket t || is k.LeftParen t))

abbrev pub begins_sort : Token → Bool
begins_sort t = is k.Ident t || begins_unnamed t

abbrev pub begins_atom : Token → Bool
begins_atom t = is k.True t || (is k.False t || (is k.Literal t || (is k.LeftParen t || is k.Ident t)))

abbrev pub begins_unary : Token → Bool
begins_unary t = is k.Bang t || begins_atom t

abbrev pub begins_expr : Token → Bool
begins_expr t = is k.If t || begins_unary t

abbrev pub begins_assignment : Token → Bool
begins_assignment t = is k.LeftBracket t || (is k.Comma t || is k.Assign t)

abbrev pub begins_simple : Token → Bool
begins_simple t = is k.Assert t || (is k.Assume t || (is k.Havoc t || (is k.Goto t || (is k.Return t || (is k.Break t || is k.Call t)))))

abbrev pub begins_stmt : Token → Bool
begins_stmt t = begins_simple t || (is k.If t || (is k.While t || is k.Ident t))

abbrev pub begins_invariant : Token → Bool
begins_invariant t = is k.Free t || is k.Invariant t

abbrev pub begins_if_rest : Token → Bool
begins_if_rest t = is k.LeftBrace t || is k.LeftParen t

abbrev pub begins_parameter : Token → Bool
begins_parameter t = is k.LeftBrace t || is k.Ident t

-- words of contracts, which are left out
abbrev pub begins_contract : Token → Bool
begins_contract t = is k.Requires t || (is k.Ensures t || is k.Free t)

abbrev pub begins_spec : Token → Bool
begins_spec t = is k.Modifies t || begins_contract t

abbrev pub begins_procedure_end : Token → Bool
begins_procedure_end t = is k.Semicolon t || (begins_spec t || is k.LeftBrace t)

abbrev pub begins_function_end : Token → Bool
begins_function_end t = is k.Returns t || is k.Colon t

abbrev pub begins_decl : Token → Bool
begins_decl t = is k.TypeWord t || (is k.Const t || (is k.Function t || (is k.Axiom t || (is k.Var t || (is k.Procedure t || is k.Implementation t)))))

-- ---- with what a rule may go on where it could end

abbrev pub follows_post : Token → Bool
follows_post t = is k.LeftParen t || is k.LeftBracket t

abbrev pub follows_cat : Token → Bool
follows_cat t = follows_post t || is k.PlusPlus t

abbrev pub follows_rel : Token → Bool
follows_rel t = follows_cat t || (is k.Equal t || is k.NotEqual t)

abbrev pub follows_logic : Token → Bool
follows_logic t = follows_rel t || (is k.AndAnd t || is k.OrOr t)

abbrev pub follows_impl : Token → Bool
follows_impl t = follows_logic t || (is k.Implies t || is k.ImpliedBy t)

abbrev pub follows_expr : Token → Bool
follows_expr t = follows_impl t || is k.Equivalent t

abbrev pub follows_stmts : Token → Bool
follows_stmts t = begins_stmt t || is k.Else t
