-- The procedures on the way along a path, and what may follow them.
use Rattle.std.proofs.Common.{◌≡◌, ℕ, zero, suc, ◌+◌, ◌<◌, ◌≤◌, Bool, true, false, ◌&&◌, nat_eq, if◌then◌else◌, List, [], ◌∷◌, ◌++◌, length, reverse, take, slice_index_or, refl, sym, ap, ◌∙◌, arith, append-nil, append_assoc}
use Rattle.std.proofs.lemmas.List.{length-reverse, reverse-append}
use Rattle.flat_prog.specs.Program.{FlatProgram}
use Rattle.flat_prog.specs.Caps.{times, row_of, are_within, chain_within}
use Rattle.call_tree.specs.declared.caps.Tally.{Tally}
use Rattle.call_tree.specs.Tallies.{tally_of}
use Rattle.call_tree.specs.Walks.{may_stand}
use Rattle.call_tree.specs.Laws.{NodesLaw, SiteLaw}
use Rattle.call_tree.proofs.Capping.{times_most, row_most, take_next}
use Rattle.call_tree.proofs.PartTrees.{tree_caps}
use Rattle.call_tree.proofs.Places.{along_more}

pub nodes : NodesLaw
nodes flat entry bound tree path is at = tree_caps flat entry bound tree path is at

and_assoc : (a b c : Bool) → (a && (b && c)) ≡ ((a && b) && c)
and_assoc true b c = refl
and_assoc false b c = refl

and_one : (b : Bool) → b ≡ (b && true)
and_one true = refl
and_one false = refl

reverse_onto : (p : ℕ) (ps passed : List ℕ) → reverse (p ∷ ps) ++ passed ≡ reverse ps ++ p ∷ passed
reverse_onto p ps passed = ap (λ xs. xs ++ passed) (reverse-append (p ∷ []) ps) ∙ append_assoc (reverse ps) (p ∷ []) passed

-- one procedure more
within_more : (flat : FlatProgram) (bound : ℕ) (passed ps : List ℕ) (r : ℕ) → are_within flat bound passed (ps ++ r ∷ []) ≡ (are_within flat bound passed ps && may_stand flat bound (reverse ps ++ passed) r)
within_more flat bound passed [] r = sym (and_one (may_stand flat bound passed r))
within_more flat bound passed (p ∷ ps) r =
    ap (λ b. may_stand flat bound passed p && b) (within_more flat bound (p ∷ passed) ps r ∙ ap (λ xs. are_within flat bound (p ∷ passed) ps && may_stand flat bound xs r) (sym (reverse_onto p ps passed)))
    ∙ and_assoc (may_stand flat bound passed p) (are_within flat bound (p ∷ passed) ps) (may_stand flat bound (reverse (p ∷ ps) ++ passed) r)

pub sites : SiteLaw
sites flat entry bound path way site callee exists caps at =
    ap (λ o. chain_within flat bound o) (along_more flat entry path way site callee exists at) ∙ within_more flat bound [] way callee
    ∙ ap (λ b. b && may_stand flat bound (reverse way ++ []) callee) (sym (ap (λ o. chain_within flat bound o) exists) ∙ caps)
    ∙ ap (λ xs. may_stand flat bound xs callee) (append-nil (reverse way))

-- ---- counting on a way

take_most : (n : ℕ) (xs : List ℕ) → length (take n xs) ≤ n
take_most zero xs = omega arith
take_most (suc n) [] = omega arith
take_most (suc n) (x ∷ xs) = let r = take_most n xs in omega arith

pub times_on_way : (proc n : ℕ) (way : List ℕ) → times proc (reverse (take n way)) ≤ n
times_on_way proc n way = let a = times_most proc (reverse (take n way)) in let b = length-reverse (take n way) in let c = take_most n way in omega arith

pub row_on_way : (proc n : ℕ) (way : List ℕ) → row_of proc (reverse (take n way)) ≤ n
row_on_way proc n way = let a = row_most proc (reverse (take n way)) in let b = length-reverse (take n way) in let c = take_most n way in omega arith

one_counted : (proc x : ℕ) (passed : List ℕ) →
    ◌≡◌ {A = Tally} (if nat_eq x proc then record { times = times proc passed + 1; row = row_of proc passed + 1 } else record { times = times proc passed; row = 0 }) (tally_of proc (x ∷ passed))
one_counted proc x passed = by_test (nat_eq x proc)
  where
    by_test : (b : Bool) → ◌≡◌ {A = Tally} (if b then record { times = times proc passed + 1; row = row_of proc passed + 1 } else record { times = times proc passed; row = 0 })
        (record { times = if b then suc (times proc passed) else times proc passed; row = if b then suc (row_of proc passed) else 0 })
    by_test true =
        let e : times proc passed + 1 ≡ suc (times proc passed) = omega arith in
        let f : row_of proc passed + 1 ≡ suc (row_of proc passed) = omega arith in
        ap (λ (n : ℕ). record { times = n; row = row_of proc passed + 1 }) e ∙ ap (λ (n : ℕ). record { times = suc (times proc passed); row = n }) f
    by_test false = refl

pub count_next : (proc : ℕ) (way : List ℕ) (i x : ℕ) (tally new : Tally) → i < length way → x ≡ slice_index_or way i x → tally ≡ tally_of proc (reverse (take i way)) →
    new ≡ (if nat_eq x proc then record { times = tally.times + 1; row = tally.row + 1 } else record { times = tally.times; row = 0 }) → new ≡ tally_of proc (reverse (take (i + 1) way))
count_next proc way i x tally new there is before step =
    step ∙ ap (λ (t : Tally). if nat_eq x proc then record { times = t.times + 1; row = t.row + 1 } else record { times = t.times; row = 0 }) before ∙ one_counted proc x (reverse (take i way))
    ∙ ap (tally_of proc) (sym (ap reverse (take_next way i x there is) ∙ reverse-append (take i way) (x ∷ [])))
