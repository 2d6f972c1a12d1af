-- The calls of a run go to the sites on its path, in order.
use Rattle.std.proofs.Common.{◌≡◌, ℕ, zero, suc, ◌+◌, List, [], ◌∷◌, ◌++◌, length, take, slice_get, Option, Some, refl, sym, ap, ◌∙◌, append_assoc, arith, length-append}
use Rattle.flat_prog.specs.declared.block.FlatBlock.{FlatBlock}
use Rattle.flat_prog.specs.Passing.{Sited}
use Rattle.flat_prog.specs.Sites.{calls_of, sites_of, numbers_from, calls_at, sites_passed}

-- the procedures called in the blocks of a path
abbrev pub called_on : List FlatBlock → List ℕ → List ℕ
called_on blocks [] = []
called_on blocks (b ∷ path) = calls_at (slice_get blocks b) ++ called_on blocks path

-- what is called at the sites
abbrev found : List ℕ → List ℕ → List (Option ℕ)
found callees [] = []
found callees (site ∷ sites) = slice_get callees site ∷ found callees sites

abbrev somes : List ℕ → List (Option ℕ)
somes [] = []
somes (p ∷ ps) = Some p ∷ somes ps

found-append : (callees xs ys : List ℕ) → found callees (xs ++ ys) ≡ found callees xs ++ found callees ys
found-append callees [] ys = refl
found-append callees (x ∷ xs) ys = ap (λ r. slice_get callees x ∷ r) (found-append callees xs ys)

somes-append : (xs ys : List ℕ) → somes (xs ++ ys) ≡ somes xs ++ somes ys
somes-append [] ys = refl
somes-append (x ∷ xs) ys = ap (λ r. Some x ∷ r) (somes-append xs ys)

get_at : (front : List ℕ) (c : ℕ) (rest : List ℕ) → slice_get (front ++ c ∷ rest) (length front) ≡ Some c
get_at [] c rest = refl
get_at (x ∷ front) c rest = get_at front c rest

found_numbers : (front cs rest : List ℕ) → found (front ++ (cs ++ rest)) (numbers_from (length front) (length cs)) ≡ somes cs
found_numbers front [] rest = refl
found_numbers front (c ∷ cs) rest =
    let more : found ((front ++ c ∷ []) ++ (cs ++ rest)) (numbers_from (length (front ++ c ∷ [])) (length cs)) ≡ somes cs = found_numbers (front ++ c ∷ []) cs rest in
    let e : length (front ++ c ∷ []) ≡ length front + 1 = omega (arith, length-append front (c ∷ [])) in
    ap (λ x. x ∷ found (front ++ (c ∷ cs ++ rest)) (numbers_from (length front + 1) (length cs))) (get_at front c (cs ++ rest))
    ∙ ap (λ (xs : List ℕ). Some c ∷ found xs (numbers_from (length front + 1) (length cs))) (sym (append_assoc front (c ∷ []) (cs ++ rest)))
    ∙ ap (λ (n : ℕ). Some c ∷ found ((front ++ c ∷ []) ++ (cs ++ rest)) (numbers_from n (length cs))) (sym e)
    ∙ ap (λ x. Some c ∷ x) more

-- the sites of the blocks are those before a block, those in it, and those behind
split_at : (blocks : List FlatBlock) (b : ℕ) → (rest : List ℕ) × (sites_of blocks ≡ sites_of (take b blocks) ++ (calls_at (slice_get blocks b) ++ rest))
split_at [] zero = ([], refl)
split_at [] (suc b) = ([], refl)
split_at (block ∷ blocks) zero = (sites_of blocks, refl)
split_at (block ∷ blocks) (suc b) =
    let r = split_at blocks b in
    (r.0, ap (λ x. calls_of block.cmds ++ x) r.1 ∙ sym (append_assoc (calls_of block.cmds) (sites_of (take b blocks)) (calls_at (slice_get blocks b) ++ r.0)))

found_in : (blocks : List FlatBlock) (b : ℕ) → found (sites_of blocks) (numbers_from (length (sites_of (take b blocks))) (length (calls_at (slice_get blocks b)))) ≡ somes (calls_at (slice_get blocks b))
found_in blocks b =
    let r = split_at blocks b in
    ap (λ (x : List ℕ). found x (numbers_from (length (sites_of (take b blocks))) (length (calls_at (slice_get blocks b))))) r.1 ∙ found_numbers (sites_of (take b blocks)) (calls_at (slice_get blocks b)) r.0

found_on : (blocks : List FlatBlock) (path : List ℕ) → found (sites_of blocks) (sites_passed blocks path) ≡ somes (called_on blocks path)
found_on blocks [] = refl
found_on blocks (b ∷ path) =
    found-append (sites_of blocks) (numbers_from (length (sites_of (take b blocks))) (length (calls_at (slice_get blocks b)))) (sites_passed blocks path)
    ∙ ap (λ x. x ++ found (sites_of blocks) (sites_passed blocks path)) (found_in blocks b)
    ∙ ap (λ x. somes (calls_at (slice_get blocks b)) ++ x) (found_on blocks path)
    ∙ sym (somes-append (calls_at (slice_get blocks b)) (called_on blocks path))

sited_front : (callees sites ps rest : List ℕ) → found callees sites ≡ somes (ps ++ rest) → Sited callees sites ps
sited_front callees sites [] rest h = tt
sited_front callees [] (p ∷ ps) rest h = cc
sited_front callees (site ∷ sites) (p ∷ ps) rest h = (heads (slice_get callees site) (Some p) (found callees sites) (somes (ps ++ rest)) h, sited_front callees sites ps rest (tails (slice_get callees site) (Some p) (found callees sites) (somes (ps ++ rest)) h))
  where
    heads : (a b : Option ℕ) (xs ys : List (Option ℕ)) → a ∷ xs ≡ b ∷ ys → a ≡ b
    heads a b xs ys h = cc

    tails : (a b : Option ℕ) (xs ys : List (Option ℕ)) → a ∷ xs ≡ b ∷ ys → xs ≡ ys
    tails a b xs ys h = cc

-- the first calls on a path go to its first sites
pub calls_sited : (blocks : List FlatBlock) (path ps rest : List ℕ) → called_on blocks path ≡ ps ++ rest → Sited (sites_of blocks) (sites_passed blocks path) ps
calls_sited blocks path ps rest e = sited_front (sites_of blocks) (sites_passed blocks path) ps rest (found_on blocks path ∙ ap somes e)
