-- One more line.
use Rattle.std.proofs.Common.{◌≡◌, ℕ, ◌+◌, ◌<◌, ◌==◌, Bool, true, false, ◌&&◌, ◌||◌, List, [], ◌∷◌, ◌++◌, map, take, length, get_or, refl, ap, sym, ◌∙◌, arith, append_assoc, append-nil}
use Rattle.std.proofs.lemmas.List.{take_more}
use Rattle.std.proofs.lemmas.List.Folds.{list_any-append}
use Rattle.std.specs.List.{list_any}
use Rattle.cnf_form.specs.Lines.{follows, accepts, is_empty_list}
use Rattle.cnf_form.specs.declared.log.Line.{Line}
use Rattle.cnf_form.specs.Lines.{clause_of, is_empty_line}

and-true : (b : Bool) → (b && true) ≡ b
and-true true = refl
and-true false = refl

and-assoc : (a b c : Bool) → ((a && b) && c) ≡ (a && (b && c))
and-assoc true b c = refl
and-assoc false b c = refl

or-false : (b : Bool) → (b || false) ≡ b
or-false true = refl
or-false false = refl

pub accepts_push : (cs : List (List ℕ)) (xs : List Line) (x : Line) → accepts cs (xs ++ x ∷ []) ≡ (accepts cs xs && follows (cs ++ map clause_of xs) x)
accepts_push cs [] x = and-true (follows cs x) ∙ ap (λ (ds : List (List ℕ)). follows ds x) (sym (append-nil cs))
accepts_push cs (y ∷ xs) x =
    ap (λ b. follows cs y && b) (accepts_push (cs ++ y.clause ∷ []) xs x)
    ∙ sym (and-assoc (follows cs y) (accepts (cs ++ y.clause ∷ []) xs) (follows ((cs ++ y.clause ∷ []) ++ map clause_of xs) x))
    ∙ ap (λ (ds : List (List ℕ)). (follows cs y && accepts (cs ++ y.clause ∷ []) xs) && follows ds x) (append_assoc cs (y.clause ∷ []) (map clause_of xs))

-- a line that follows goes on
pub accepts_more : (cs : List (List ℕ)) (xs : List Line) (i : ℕ) (x : Line) → i < length xs → x ≡ get_or xs i x → accepts cs (take i xs) ≡ true → follows (cs ++ map clause_of (take i xs)) x ≡ true → accepts cs (take (i + 1) xs) ≡ true
accepts_more cs xs i x within at a f =
    rw (take_more xs i x within, ← at, accepts_push, a, f) refl

pub empty_more : (xs : List Line) (i : ℕ) (x : Line) → i < length xs → x ≡ get_or xs i x → list_any is_empty_line (take (i + 1) xs) ≡ (list_any is_empty_line (take i xs) || is_empty_list x.clause)
empty_more xs i x within at =
    rw (take_more xs i x within, ← at, list_any-append)
    (ap (λ b. list_any is_empty_line (take i xs) || b) (or-false (is_empty_list x.clause)))

-- an empty list has length 0
pub is_empty_list-length : (c : List ℕ) → (length c == 0) ≡ is_empty_list c
is_empty_list-length [] = refl
is_empty_list-length (x ∷ c) = grind arith
