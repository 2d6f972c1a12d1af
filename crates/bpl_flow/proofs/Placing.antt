-- Blocks are put in by number, the last that ended first, so that of two with one number the first stays.
use Rattle.std.proofs.Common.{◌≡◌, ℕ, ◌+◌, ◌<◌, ◌≤◌, false, nat_eq, List, [], ◌∷◌, ◌++◌, length, replicate, Some, refl, ap, sym, ◌∙◌, append_assoc, subst, zero, suc, arith}
use Rattle.std.specs.Prelude.{slice_set}
use Rattle.std.proofs.lemmas.Bool.{eq-eqb, ne_eqb}
use Rattle.std.proofs.lemmas.List.{append-nil}
use Rattle.bpl_flow.specs.Flow.{block_of, blocks_from, ended_at, next_of}
use Rattle.bpl_flow.specs.declared.state.Ended.{Ended}
use Rattle.bpl_flow.specs.declared.state.Place.{Place}
use Rattle.src_prog.specs.declared.block.Next.{Next}
use Rattle.src_prog.specs.declared.block.Next.TheVariants.{Return}
use Rattle.src_prog.specs.declared.block.SrcBlock.{SrcBlock}

abbrev pub empty_block : SrcBlock
empty_block = record { cmds = []; next = Return }

pub blocks_from-none : (places : List Place) (exits : List (ℕ × ℕ)) (number left : ℕ) → blocks_from places exits [] number left ≡ replicate left empty_block
blocks_from-none places exits number zero = refl
blocks_from-none places exits number (suc left) = ap (λ bs. empty_block ∷ bs) (blocks_from-none places exits (number + 1) left)

blocks_from-same : (places : List Place) (exits : List (ℕ × ℕ)) (b : Ended) (rest : List Ended) (number left : ℕ)
    → ((k : ℕ) → number ≤ k → k < number + left → nat_eq b.number k ≡ false)
    → blocks_from places exits rest number left ≡ blocks_from places exits (b ∷ rest) number left
blocks_from-same places exits b rest number zero other = refl
blocks_from-same places exits b rest number (suc left) other =
    let here : nat_eq b.number number ≡ false = other number (omega arith) (omega arith) in
    rw here (ap (λ bs. block_of places exits (ended_at number rest) ∷ bs) (blocks_from-same places exits b rest (number + 1) left (λ k from below. other k (omega arith) (omega arith))))

blocks_from-set : (places : List Place) (exits : List (ℕ × ℕ)) (b : Ended) (rest : List Ended) (number left k : ℕ)
    → b.number ≡ number + k → k < left
    → slice_set (blocks_from places exits rest number left) k (block_of places exits (Some b)) ≡ blocks_from places exits (b ∷ rest) number left
blocks_from-set places exits b rest number zero k e below = absurd (omega arith)
blocks_from-set places exits b rest number (suc left) zero e below =
    rw (eq-eqb b.number number (omega arith)) (ap (λ bs. block_of places exits (Some b) ∷ bs) (blocks_from-same places exits b rest (number + 1) left (λ j from under. ne_eqb b.number j (λ same. omega arith))))
blocks_from-set places exits b rest number (suc left) (suc k) e below =
    rw (ne_eqb b.number number (λ same. omega arith)) (ap (λ bs. block_of places exits (ended_at number rest) ∷ bs) (blocks_from-set places exits b rest (number + 1) left k (omega arith) (omega arith)))

-- what has been put in so far, where these blocks are left of all that ended
pub record Placing (places : List Place) (exits : List (ℕ × ℕ)) (all left : List Ended) (count : ℕ) (blocks : List SrcBlock) : Type 0 where
  pub placed : List Ended
  pub split : all ≡ left ++ placed
  pub are : blocks ≡ blocks_from places exits placed 0 count

pub Placing-begin : (places : List Place) (exits : List (ℕ × ℕ)) (all : List Ended) (count : ℕ) (blocks : List SrcBlock)
    → blocks ≡ replicate count empty_block → Placing places exits all all count blocks
Placing-begin places exits all count blocks e = record { placed = []; split = sym (append-nil all); are = e ∙ sym (blocks_from-none places exits 0 count) }

pub Placing-put : (places : List Place) (exits : List (ℕ × ℕ)) (all before left : List Ended) (b : Ended) (count : ℕ) (blocks : List SrcBlock)
    → before ≡ left ++ b ∷ [] → Placing places exits all before count blocks → b.number < count
    → Placing places exits all left count (slice_set blocks b.number (record { cmds = b.cmds; next = next_of places exits b.end }))
Placing-put places exits all before left b count blocks e p below = record {
  placed = b ∷ p.placed;
  split = p.split ∙ ap (λ bs. bs ++ p.placed) e ∙ append_assoc left (b ∷ []) p.placed;
  are = ap (λ bs. slice_set bs b.number (record { cmds = b.cmds; next = next_of places exits b.end })) p.are ∙ blocks_from-set places exits b p.placed 0 count b.number (omega arith) below;
}

pub Placing-skip : (places : List Place) (exits : List (ℕ × ℕ)) (all before left : List Ended) (b : Ended) (count : ℕ) (blocks : List SrcBlock)
    → before ≡ left ++ b ∷ [] → Placing places exits all before count blocks → count ≤ b.number
    → Placing places exits all left count blocks
Placing-skip places exits all before left b count blocks e p above = record {
  placed = b ∷ p.placed;
  split = p.split ∙ ap (λ bs. bs ++ p.placed) e ∙ append_assoc left (b ∷ []) p.placed;
  are = p.are ∙ blocks_from-same places exits b p.placed 0 count (λ k from under. ne_eqb b.number k (λ same. omega arith));
}

pub Placing-end : (places : List Place) (exits : List (ℕ × ℕ)) (all left : List Ended) (count : ℕ) (blocks : List SrcBlock)
    → left ≡ [] → Placing places exits all left count blocks → blocks ≡ blocks_from places exits all 0 count
Placing-end places exits all left count blocks e p =
    let same : all ≡ p.placed = p.split ∙ ap (λ bs. bs ++ p.placed) e in
    p.are ∙ ap (λ bs. blocks_from places exits bs 0 count) (sym same)

pub blocks_from-length : (places : List Place) (exits : List (ℕ × ℕ)) (ended : List Ended) (number left : ℕ) → length (blocks_from places exits ended number left) ≡ left
blocks_from-length places exits ended number zero = refl
blocks_from-length places exits ended number (suc left) = omega (arith, blocks_from-length places exits ended (number + 1) left)

Placing-length : (places : List Place) (exits : List (ℕ × ℕ)) (all left : List Ended) (count : ℕ) (blocks : List SrcBlock) → Placing places exits all left count blocks → length blocks ≡ count
Placing-length places exits all left count blocks p = ap length p.are ∙ blocks_from-length places exits p.placed 0 count

-- a turn of the loop in which the block has a place
pub Placing-turn : (places : List Place) (exits : List (ℕ × ℕ)) (all before left : List Ended) (b : Ended) (count len : ℕ) (blocks more : List SrcBlock) (next : Next)
    → before ≡ left ++ b ∷ [] → Placing places exits all before count blocks → len ≡ length blocks → b.number < len → next ≡ next_of places exits b.end
    → more ≡ slice_set blocks b.number (record { cmds = b.cmds; next = next })
    → Placing places exits all left count more
Placing-turn places exits all before left b count len blocks more next e p l below n m =
    let same : more ≡ slice_set blocks b.number (record { cmds = b.cmds; next = next_of places exits b.end }) = m ∙ ap (λ x. slice_set blocks b.number (record { cmds = b.cmds; next = x })) n in
    subst (λ bs. Placing places exits all left count bs) (sym same) (Placing-put places exits all before left b count blocks e p (omega (arith, Placing-length places exits all before count blocks p)))

-- a turn in which it has none
pub Placing-pass : (places : List Place) (exits : List (ℕ × ℕ)) (all before left : List Ended) (b : Ended) (count len : ℕ) (blocks : List SrcBlock)
    → before ≡ left ++ b ∷ [] → Placing places exits all before count blocks → len ≡ length blocks → len ≤ b.number
    → Placing places exits all left count blocks
Placing-pass places exits all before left b count len blocks e p l above =
    Placing-skip places exits all before left b count blocks e p (omega (arith, Placing-length places exits all before count blocks p))
