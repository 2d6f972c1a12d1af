-- A fact on tokens that looks at their terminal symbols alone is decided by trying each symbol.
use Rattle.std.proofs.Common.{◌≡◌, Bool, true, false, not, cond, List, [], ◌∷◌, refl, sym, ◌∙◌}
use Rattle.bpl_rules.proofs.Laws.{Apart, Within}
use Rattle.bpl_tok.specs.Terminals.{terminal_of}
use Rattle.bpl_tok.specs.declared.token.Terminal.TheVariants as k
use Rattle.bpl_tok.specs.declared.token.Terminal.{Terminal}
use Rattle.bpl_tok.specs.declared.token.TokKind.TheVariants.{Sign}
use Rattle.bpl_tok.specs.declared.token.Token.{Token}

-- some token with this terminal symbol
abbrev pub tok : Terminal → Token
tok symbol = record { kind = Sign symbol; at = 0; len = 0 }

abbrev pub on_each : (Terminal → Bool) → List Terminal → Bool
on_each p [] = true
on_each p (x ∷ xs) = cond (p x) (on_each p xs) false

split : (p : Terminal → Bool) (x : Terminal) (xs : List Terminal) → on_each p (x ∷ xs) ≡ true → (p x ≡ true) × (on_each p xs ≡ true)
split p x xs h = elim (p x) as (λ b. cond b (on_each p xs) false ≡ true → (b ≡ true) × (on_each p xs ≡ true)) [ true ↦ λ e. (refl, e) | false ↦ λ e. absurd cc ] h

abbrev from0 : List Terminal
from0 = []

abbrev from1 : List Terminal
from1 = k.Percent ∷ from0

abbrev from2 : List Terminal
from2 = k.Slash ∷ from1

abbrev from3 : List Terminal
from3 = k.Star ∷ from2

abbrev from4 : List Terminal
from4 = k.Minus ∷ from3

abbrev from5 : List Terminal
from5 = k.Plus ∷ from4

abbrev from6 : List Terminal
from6 = k.PlusPlus ∷ from5

abbrev from7 : List Terminal
from7 = k.Bang ∷ from6

abbrev from8 : List Terminal
from8 = k.OrOr ∷ from7

abbrev from9 : List Terminal
from9 = k.AndAnd ∷ from8

abbrev from10 : List Terminal
from10 = k.Greater ∷ from9

abbrev from11 : List Terminal
from11 = k.Less ∷ from10

abbrev from12 : List Terminal
from12 = k.AtLeast ∷ from11

abbrev from13 : List Terminal
from13 = k.AtMost ∷ from12

abbrev from14 : List Terminal
from14 = k.ImpliedBy ∷ from13

abbrev from15 : List Terminal
from15 = k.Implies ∷ from14

abbrev from16 : List Terminal
from16 = k.Equivalent ∷ from15

abbrev from17 : List Terminal
from17 = k.NotEqual ∷ from16

abbrev from18 : List Terminal
from18 = k.Equal ∷ from17

abbrev from19 : List Terminal
from19 = k.EqualsSign ∷ from18

abbrev from20 : List Terminal
from20 = k.Assign ∷ from19

abbrev from21 : List Terminal
from21 = k.Colon ∷ from20

abbrev from22 : List Terminal
from22 = k.Semicolon ∷ from21

abbrev from23 : List Terminal
from23 = k.Comma ∷ from22

abbrev from24 : List Terminal
from24 = k.RightBrace ∷ from23

abbrev from25 : List Terminal
from25 = k.LeftBrace ∷ from24

abbrev from26 : List Terminal
from26 = k.RightBracket ∷ from25

abbrev from27 : List Terminal
from27 = k.LeftBracket ∷ from26

abbrev from28 : List Terminal
from28 = k.RightParen ∷ from27

abbrev from29 : List Terminal
from29 = k.LeftParen ∷ from28

abbrev from30 : List Terminal
from30 = k.Mod ∷ from29

abbrev from31 : List Terminal
from31 = k.Div ∷ from30

abbrev from32 : List Terminal
from32 = k.Yield ∷ from31

abbrev from33 : List Terminal
from33 = k.Par ∷ from32

abbrev from34 : List Terminal
from34 = k.Async ∷ from33

abbrev from35 : List Terminal
from35 = k.Complete ∷ from34

abbrev from36 : List Terminal
from36 = k.Extends ∷ from35

abbrev from37 : List Terminal
from37 = k.Lambda ∷ from36

abbrev from38 : List Terminal
from38 = k.Exists ∷ from37

abbrev from39 : List Terminal
from39 = k.Forall ∷ from38

abbrev from40 : List Terminal
from40 = k.Old ∷ from39

abbrev from41 : List Terminal
from41 = k.False ∷ from40

abbrev from42 : List Terminal
from42 = k.True ∷ from41

abbrev from43 : List Terminal
from43 = k.Real ∷ from42

abbrev from44 : List Terminal
from44 = k.Int ∷ from43

abbrev from45 : List Terminal
from45 = k.BoolWord ∷ from44

abbrev from46 : List Terminal
from46 = k.Invariant ∷ from45

abbrev from47 : List Terminal
from47 = k.Break ∷ from46

abbrev from48 : List Terminal
from48 = k.While ∷ from47

abbrev from49 : List Terminal
from49 = k.Else ∷ from48

abbrev from50 : List Terminal
from50 = k.Then ∷ from49

abbrev from51 : List Terminal
from51 = k.If ∷ from50

abbrev from52 : List Terminal
from52 = k.Return ∷ from51

abbrev from53 : List Terminal
from53 = k.Goto ∷ from52

abbrev from54 : List Terminal
from54 = k.Call ∷ from53

abbrev from55 : List Terminal
from55 = k.Havoc ∷ from54

abbrev from56 : List Terminal
from56 = k.Assume ∷ from55

abbrev from57 : List Terminal
from57 = k.Assert ∷ from56

abbrev from58 : List Terminal
from58 = k.Where ∷ from57

abbrev from59 : List Terminal
from59 = k.Free ∷ from58

abbrev from60 : List Terminal
from60 = k.Ensures ∷ from59

abbrev from61 : List Terminal
from61 = k.Requires ∷ from60

abbrev from62 : List Terminal
from62 = k.Modifies ∷ from61

abbrev from63 : List Terminal
from63 = k.Returns ∷ from62

abbrev from64 : List Terminal
from64 = k.Implementation ∷ from63

abbrev from65 : List Terminal
from65 = k.Procedure ∷ from64

abbrev from66 : List Terminal
from66 = k.Var ∷ from65

abbrev from67 : List Terminal
from67 = k.Axiom ∷ from66

abbrev from68 : List Terminal
from68 = k.Function ∷ from67

abbrev from69 : List Terminal
from69 = k.Unique ∷ from68

abbrev from70 : List Terminal
from70 = k.Const ∷ from69

abbrev from71 : List Terminal
from71 = k.TypeWord ∷ from70

abbrev from72 : List Terminal
from72 = k.Str ∷ from71

abbrev from73 : List Terminal
from73 = k.Literal ∷ from72

abbrev from74 : List Terminal
from74 = k.Number ∷ from73

abbrev from75 : List Terminal
from75 = k.WideWidth ∷ from74

abbrev from76 : List Terminal
from76 = k.Width ∷ from75

abbrev from77 : List Terminal
from77 = k.Ident ∷ from76

abbrev pub terminals : List Terminal
terminals = from77

module _ (p : Terminal → Bool) (h : on_each p terminals ≡ true) where
  rest0 : on_each p from77 ≡ true
  rest0 = h

  rest1 : on_each p from76 ≡ true
  rest1 = (split p k.Ident from76 rest0).1

  rest2 : on_each p from75 ≡ true
  rest2 = (split p k.Width from75 rest1).1

  rest3 : on_each p from74 ≡ true
  rest3 = (split p k.WideWidth from74 rest2).1

  rest4 : on_each p from73 ≡ true
  rest4 = (split p k.Number from73 rest3).1

  rest5 : on_each p from72 ≡ true
  rest5 = (split p k.Literal from72 rest4).1

  rest6 : on_each p from71 ≡ true
  rest6 = (split p k.Str from71 rest5).1

  rest7 : on_each p from70 ≡ true
  rest7 = (split p k.TypeWord from70 rest6).1

  rest8 : on_each p from69 ≡ true
  rest8 = (split p k.Const from69 rest7).1

  rest9 : on_each p from68 ≡ true
  rest9 = (split p k.Unique from68 rest8).1

  rest10 : on_each p from67 ≡ true
  rest10 = (split p k.Function from67 rest9).1

  rest11 : on_each p from66 ≡ true
  rest11 = (split p k.Axiom from66 rest10).1

  rest12 : on_each p from65 ≡ true
  rest12 = (split p k.Var from65 rest11).1

  rest13 : on_each p from64 ≡ true
  rest13 = (split p k.Procedure from64 rest12).1

  rest14 : on_each p from63 ≡ true
  rest14 = (split p k.Implementation from63 rest13).1

  rest15 : on_each p from62 ≡ true
  rest15 = (split p k.Returns from62 rest14).1

  rest16 : on_each p from61 ≡ true
  rest16 = (split p k.Modifies from61 rest15).1

  rest17 : on_each p from60 ≡ true
  rest17 = (split p k.Requires from60 rest16).1

  rest18 : on_each p from59 ≡ true
  rest18 = (split p k.Ensures from59 rest17).1

  rest19 : on_each p from58 ≡ true
  rest19 = (split p k.Free from58 rest18).1

  rest20 : on_each p from57 ≡ true
  rest20 = (split p k.Where from57 rest19).1

  rest21 : on_each p from56 ≡ true
  rest21 = (split p k.Assert from56 rest20).1

  rest22 : on_each p from55 ≡ true
  rest22 = (split p k.Assume from55 rest21).1

  rest23 : on_each p from54 ≡ true
  rest23 = (split p k.Havoc from54 rest22).1

  rest24 : on_each p from53 ≡ true
  rest24 = (split p k.Call from53 rest23).1

  rest25 : on_each p from52 ≡ true
  rest25 = (split p k.Goto from52 rest24).1

  rest26 : on_each p from51 ≡ true
  rest26 = (split p k.Return from51 rest25).1

  rest27 : on_each p from50 ≡ true
  rest27 = (split p k.If from50 rest26).1

  rest28 : on_each p from49 ≡ true
  rest28 = (split p k.Then from49 rest27).1

  rest29 : on_each p from48 ≡ true
  rest29 = (split p k.Else from48 rest28).1

  rest30 : on_each p from47 ≡ true
  rest30 = (split p k.While from47 rest29).1

  rest31 : on_each p from46 ≡ true
  rest31 = (split p k.Break from46 rest30).1

  rest32 : on_each p from45 ≡ true
  rest32 = (split p k.Invariant from45 rest31).1

  rest33 : on_each p from44 ≡ true
  rest33 = (split p k.BoolWord from44 rest32).1

  rest34 : on_each p from43 ≡ true
  rest34 = (split p k.Int from43 rest33).1

  rest35 : on_each p from42 ≡ true
  rest35 = (split p k.Real from42 rest34).1

  rest36 : on_each p from41 ≡ true
  rest36 = (split p k.True from41 rest35).1

  rest37 : on_each p from40 ≡ true
  rest37 = (split p k.False from40 rest36).1

  rest38 : on_each p from39 ≡ true
  rest38 = (split p k.Old from39 rest37).1

  rest39 : on_each p from38 ≡ true
  rest39 = (split p k.Forall from38 rest38).1

  rest40 : on_each p from37 ≡ true
  rest40 = (split p k.Exists from37 rest39).1

  rest41 : on_each p from36 ≡ true
  rest41 = (split p k.Lambda from36 rest40).1

  rest42 : on_each p from35 ≡ true
  rest42 = (split p k.Extends from35 rest41).1

  rest43 : on_each p from34 ≡ true
  rest43 = (split p k.Complete from34 rest42).1

  rest44 : on_each p from33 ≡ true
  rest44 = (split p k.Async from33 rest43).1

  rest45 : on_each p from32 ≡ true
  rest45 = (split p k.Par from32 rest44).1

  rest46 : on_each p from31 ≡ true
  rest46 = (split p k.Yield from31 rest45).1

  rest47 : on_each p from30 ≡ true
  rest47 = (split p k.Div from30 rest46).1

  rest48 : on_each p from29 ≡ true
  rest48 = (split p k.Mod from29 rest47).1

  rest49 : on_each p from28 ≡ true
  rest49 = (split p k.LeftParen from28 rest48).1

  rest50 : on_each p from27 ≡ true
  rest50 = (split p k.RightParen from27 rest49).1

  rest51 : on_each p from26 ≡ true
  rest51 = (split p k.LeftBracket from26 rest50).1

  rest52 : on_each p from25 ≡ true
  rest52 = (split p k.RightBracket from25 rest51).1

  rest53 : on_each p from24 ≡ true
  rest53 = (split p k.LeftBrace from24 rest52).1

  rest54 : on_each p from23 ≡ true
  rest54 = (split p k.RightBrace from23 rest53).1

  rest55 : on_each p from22 ≡ true
  rest55 = (split p k.Comma from22 rest54).1

  rest56 : on_each p from21 ≡ true
  rest56 = (split p k.Semicolon from21 rest55).1

  rest57 : on_each p from20 ≡ true
  rest57 = (split p k.Colon from20 rest56).1

  rest58 : on_each p from19 ≡ true
  rest58 = (split p k.Assign from19 rest57).1

  rest59 : on_each p from18 ≡ true
  rest59 = (split p k.EqualsSign from18 rest58).1

  rest60 : on_each p from17 ≡ true
  rest60 = (split p k.Equal from17 rest59).1

  rest61 : on_each p from16 ≡ true
  rest61 = (split p k.NotEqual from16 rest60).1

  rest62 : on_each p from15 ≡ true
  rest62 = (split p k.Equivalent from15 rest61).1

  rest63 : on_each p from14 ≡ true
  rest63 = (split p k.Implies from14 rest62).1

  rest64 : on_each p from13 ≡ true
  rest64 = (split p k.ImpliedBy from13 rest63).1

  rest65 : on_each p from12 ≡ true
  rest65 = (split p k.AtMost from12 rest64).1

  rest66 : on_each p from11 ≡ true
  rest66 = (split p k.AtLeast from11 rest65).1

  rest67 : on_each p from10 ≡ true
  rest67 = (split p k.Less from10 rest66).1

  rest68 : on_each p from9 ≡ true
  rest68 = (split p k.Greater from9 rest67).1

  rest69 : on_each p from8 ≡ true
  rest69 = (split p k.AndAnd from8 rest68).1

  rest70 : on_each p from7 ≡ true
  rest70 = (split p k.OrOr from7 rest69).1

  rest71 : on_each p from6 ≡ true
  rest71 = (split p k.Bang from6 rest70).1

  rest72 : on_each p from5 ≡ true
  rest72 = (split p k.PlusPlus from5 rest71).1

  rest73 : on_each p from4 ≡ true
  rest73 = (split p k.Plus from4 rest72).1

  rest74 : on_each p from3 ≡ true
  rest74 = (split p k.Minus from3 rest73).1

  rest75 : on_each p from2 ≡ true
  rest75 = (split p k.Star from2 rest74).1

  rest76 : on_each p from1 ≡ true
  rest76 = (split p k.Slash from1 rest75).1

  pub each : (x : Terminal) → p x ≡ true
  each k.Ident = (split p k.Ident from76 rest0).0
  each k.Width = (split p k.Width from75 rest1).0
  each k.WideWidth = (split p k.WideWidth from74 rest2).0
  each k.Number = (split p k.Number from73 rest3).0
  each k.Literal = (split p k.Literal from72 rest4).0
  each k.Str = (split p k.Str from71 rest5).0
  each k.TypeWord = (split p k.TypeWord from70 rest6).0
  each k.Const = (split p k.Const from69 rest7).0
  each k.Unique = (split p k.Unique from68 rest8).0
  each k.Function = (split p k.Function from67 rest9).0
  each k.Axiom = (split p k.Axiom from66 rest10).0
  each k.Var = (split p k.Var from65 rest11).0
  each k.Procedure = (split p k.Procedure from64 rest12).0
  each k.Implementation = (split p k.Implementation from63 rest13).0
  each k.Returns = (split p k.Returns from62 rest14).0
  each k.Modifies = (split p k.Modifies from61 rest15).0
  each k.Requires = (split p k.Requires from60 rest16).0
  each k.Ensures = (split p k.Ensures from59 rest17).0
  each k.Free = (split p k.Free from58 rest18).0
  each k.Where = (split p k.Where from57 rest19).0
  each k.Assert = (split p k.Assert from56 rest20).0
  each k.Assume = (split p k.Assume from55 rest21).0
  each k.Havoc = (split p k.Havoc from54 rest22).0
  each k.Call = (split p k.Call from53 rest23).0
  each k.Goto = (split p k.Goto from52 rest24).0
  each k.Return = (split p k.Return from51 rest25).0
  each k.If = (split p k.If from50 rest26).0
  each k.Then = (split p k.Then from49 rest27).0
  each k.Else = (split p k.Else from48 rest28).0
  each k.While = (split p k.While from47 rest29).0
  each k.Break = (split p k.Break from46 rest30).0
  each k.Invariant = (split p k.Invariant from45 rest31).0
  each k.BoolWord = (split p k.BoolWord from44 rest32).0
  each k.Int = (split p k.Int from43 rest33).0
  each k.Real = (split p k.Real from42 rest34).0
  each k.True = (split p k.True from41 rest35).0
  each k.False = (split p k.False from40 rest36).0
  each k.Old = (split p k.Old from39 rest37).0
  each k.Forall = (split p k.Forall from38 rest38).0
  each k.Exists = (split p k.Exists from37 rest39).0
  each k.Lambda = (split p k.Lambda from36 rest40).0
  each k.Extends = (split p k.Extends from35 rest41).0
  each k.Complete = (split p k.Complete from34 rest42).0
  each k.Async = (split p k.Async from33 rest43).0
  each k.Par = (split p k.Par from32 rest44).0
  each k.Yield = (split p k.Yield from31 rest45).0
  each k.Div = (split p k.Div from30 rest46).0
  each k.Mod = (split p k.Mod from29 rest47).0
  each k.LeftParen = (split p k.LeftParen from28 rest48).0
  each k.RightParen = (split p k.RightParen from27 rest49).0
  each k.LeftBracket = (split p k.LeftBracket from26 rest50).0
  each k.RightBracket = (split p k.RightBracket from25 rest51).0
  each k.LeftBrace = (split p k.LeftBrace from24 rest52).0
  each k.RightBrace = (split p k.RightBrace from23 rest53).0
  each k.Comma = (split p k.Comma from22 rest54).0
  each k.Semicolon = (split p k.Semicolon from21 rest55).0
  each k.Colon = (split p k.Colon from20 rest56).0
  each k.Assign = (split p k.Assign from19 rest57).0
  each k.EqualsSign = (split p k.EqualsSign from18 rest58).0
  each k.Equal = (split p k.Equal from17 rest59).0
  each k.NotEqual = (split p k.NotEqual from16 rest60).0
  each k.Equivalent = (split p k.Equivalent from15 rest61).0
  each k.Implies = (split p k.Implies from14 rest62).0
  each k.ImpliedBy = (split p k.ImpliedBy from13 rest63).0
  each k.AtMost = (split p k.AtMost from12 rest64).0
  each k.AtLeast = (split p k.AtLeast from11 rest65).0
  each k.Less = (split p k.Less from10 rest66).0
  each k.Greater = (split p k.Greater from9 rest67).0
  each k.AndAnd = (split p k.AndAnd from8 rest68).0
  each k.OrOr = (split p k.OrOr from7 rest69).0
  each k.Bang = (split p k.Bang from6 rest70).0
  each k.PlusPlus = (split p k.PlusPlus from5 rest71).0
  each k.Plus = (split p k.Plus from4 rest72).0
  each k.Minus = (split p k.Minus from3 rest73).0
  each k.Star = (split p k.Star from2 rest74).0
  each k.Slash = (split p k.Slash from1 rest75).0
  each k.Percent = (split p k.Percent from0 rest76).0

implies : (a b : Bool) → cond a b true ≡ true → a ≡ true → b ≡ true
implies true b h e = h
implies false b h e = absurd cc

not_true : (b : Bool) → not b ≡ true → b ≡ false
not_true true h = absurd cc
not_true false h = refl

-- the token with the same symbol as this one
abbrev like : Token → Token
like t = tok (terminal_of t.kind)

pub apart : {f g : Token → Bool} → ((t : Token) → f t ≡ f (like t)) → ((t : Token) → g t ≡ g (like t)) → on_each (λ x. cond (g (tok x)) (not (f (tok x))) true) terminals ≡ true → Apart f g
apart {f = f} {g = g} F G h = λ t e. F t ∙ not_true (f (like t)) (implies (g (like t)) (not (f (like t))) (each (λ x. cond (g (tok x)) (not (f (tok x))) true) h (terminal_of t.kind)) (sym (G t) ∙ e))

pub within : {f g : Token → Bool} → ((t : Token) → f t ≡ f (like t)) → ((t : Token) → g t ≡ g (like t)) → on_each (λ x. cond (f (tok x)) (g (tok x)) true) terminals ≡ true → Within f g
within {f = f} {g = g} F G h = λ t e. G t ∙ implies (f (like t)) (g (like t)) (each (λ x. cond (f (tok x)) (g (tok x)) true) h (terminal_of t.kind)) (sym (F t) ∙ e)
