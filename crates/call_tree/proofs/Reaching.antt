-- The child at a site, found block by block.
use Rattle.std.proofs.Common.{◌≡◌, ℕ, zero, suc, ◌+◌, ◌-◌, ◌<◌, ◌≤◌, true, false, nat_eq, if◌then◌else◌, List, [], ◌∷◌, ◌++◌, length, take, drop, slice_get, slice_index_or, None, Ok, Err, option_and_then, refl, sym, ap, ◌∙◌, arith, not-suc-le-zero, true≢false, ⊎_elim}
use Rattle.std.proofs.lemmas.Option.{slice_get_read}
use Rattle.std.proofs.lemmas.Bool.{or_parts, or_cases, eq-eqb, eqb-true, ne_eqb, false_from_ne_true}
use Rattle.flat_prog.specs.declared.block.FlatCmd.{FlatCmd}
use Rattle.flat_prog.specs.declared.block.FlatBlock.{FlatBlock}
use Rattle.flat_prog.specs.declared.run.Child.{Child}
use Rattle.flat_prog.specs.Sites.{calls_of, sites_of, numbers_from, calls_at, sites_passed}
use Rattle.flat_prog.specs.Once.{has_number}
use Rattle.call_tree.specs.Walks.{seek, node_of, child_for}
use Rattle.call_tree.specs.Reaching.{sites_in, Finds}
use Rattle.call_tree.specs.declared.reach.InBlock.TheVariants.{Here, Behind}
use Rattle.call_tree.proofs.Seeking.{seek_past, seek_within, next_of}

in_numbers : (first count n : ℕ) → has_number (numbers_from first count) n ≡ true → (first ≤ n) × (n < first + count)
in_numbers first zero n h = absurd (true≢false (sym h))
in_numbers first (suc count) n h =
    ⊎_elim (λ e. let k = eqb-true first n e in (omega arith, omega arith)) (λ e. let r = in_numbers (first + 1) count n e in let l = r.0 in let m = r.1 in (omega arith, omega arith))
    (or_cases (nat_eq first n) (has_number (numbers_from (first + 1) count) n) h)

drop_none : (children : List Child) → drop 0 children ≡ children
drop_none [] = refl
drop_none (c ∷ children) = refl

skip_list : (own more : List ℕ) (children : List Child) (site : ℕ) → has_number own site ≡ false → length own ≤ length children → child_for (own ++ more) children site ≡ child_for more (drop (length own) children) site
skip_list [] more children site h l = ap (λ cs. child_for more cs site) (sym (drop_none children))
skip_list (s ∷ own) more [] site h l = absurd (not-suc-le-zero l)
skip_list (s ∷ own) more (c ∷ children) site h l =
    let parts = or_parts (nat_eq s site) (has_number own site) h in
    ap (λ b. if b then node_of c else child_for (own ++ more) children site) parts.0 ∙ skip_list own more children site parts.1 (omega arith)

short_list : (own more : List ℕ) (children : List Child) (site : ℕ) → has_number own site ≡ false → length children < length own → child_for (own ++ more) children site ≡ None
short_list [] more children site h l = absurd (not-suc-le-zero l)
short_list (s ∷ own) more [] site h l = refl
short_list (s ∷ own) more (c ∷ children) site h l =
    let parts = or_parts (nat_eq s site) (has_number own site) h in
    ap (λ b. if b then node_of c else child_for (own ++ more) children site) parts.0 ∙ short_list own more children site parts.1 (omega arith)

numbers_length : (first count : ℕ) → length (numbers_from first count) ≡ count
numbers_length first zero = refl
numbers_length first (suc count) = ap suc (numbers_length (first + 1) count)

here_list : (first count left : ℕ) (more : List ℕ) (children : List Child) → left < count → child_for (numbers_from first count ++ more) children (first + left) ≡ option_and_then node_of (slice_get children left)
here_list first zero left more children h = absurd (not-suc-le-zero h)
here_list first (suc count) left more [] h = refl
here_list first (suc count) zero more (c ∷ children) h = ap (λ b. if b then node_of c else child_for (numbers_from (first + 1) count ++ more) children (first + 0)) (eq-eqb first (first + 0) (omega arith))
here_list first (suc count) (suc left) more (c ∷ children) h =
    let e : first + 1 + left ≡ first + suc left = omega arith in
    ap (λ b. if b then node_of c else child_for (numbers_from (first + 1) count ++ more) children (first + suc left)) (ne_eqb first (first + suc left) (λ k. apart first left k))
    ∙ ap (λ n. child_for (numbers_from (first + 1) count ++ more) children n) (sym e) ∙ here_list (first + 1) count left more children (omega arith)
  where
    apart : (a b : ℕ) → a ≡ a + suc b → ⊥
    apart a b k = omega arith

-- all children of the block's calls are behind
pub pass_short : (cs : List ℕ) (children : List Child) (p first site : ℕ) → seek cs (length children) ≡ Ok p → has_number (numbers_from first (length cs)) site ≡ false → Finds (numbers_from first (length cs)) children site (Here None)
pass_short cs children p first site found out = λ more.
    let l = seek_within cs (length children) p found in let n = numbers_length first (length cs) in
    short_list (numbers_from first (length cs)) more children site out (omega arith)

pub pass_behind : (cs : List ℕ) (children : List Child) (left first site : ℕ) → seek cs (length children) ≡ Err left → has_number (numbers_from first (length cs)) site ≡ false → Finds (numbers_from first (length cs)) children site (Behind (length children - left))
pass_behind cs children left first site found out =
    let l = seek_past cs (length children) left found in let n = numbers_length first (length cs) in
    let e : length (numbers_from first (length cs)) ≡ length children - left = omega arith in
    (omega arith, λ more. skip_list (numbers_from first (length cs)) more children site out (omega arith) ∙ ap (λ k. child_for more (drop k children) site) e)

pub room : (cs : List ℕ) (n left : ℕ) → seek cs n ≡ Err left → left ≤ n
room cs n left found = let l = seek_past cs n left found in omega arith

-- a site that is not in the block
pub is_before : (front cs : List ℕ) (site p : ℕ) → seek front site ≡ Ok p → has_number (numbers_from (length front) (length cs)) site ≡ false
is_before front cs site p found =
    false_from_ne_true (has_number (numbers_from (length front) (length cs)) site) (λ h. let r = in_numbers (length front) (length cs) site h in let l = seek_within front site p found in no_site (length front) site r.0 l)
  where
    no_site : (a n : ℕ) → a ≤ n → n < a → ⊥
    no_site a n h k = omega arith

pub is_past : (front cs : List ℕ) (site left more : ℕ) → seek front site ≡ Err left → seek cs left ≡ Err more → has_number (numbers_from (length front) (length cs)) site ≡ false
is_past front cs site left more found over =
    false_from_ne_true (has_number (numbers_from (length front) (length cs)) site)
    (λ h. let r = in_numbers (length front) (length cs) site h in let l = seek_past front site left found in let m = seek_past cs left more over in no_site (length front) (length cs) site left more r.1 l m)
  where
    no_site : (a c n l m : ℕ) → n < a + c → n ≡ a + l → l ≡ c + m → ⊥
    no_site a c n l m h k j = omega arith

-- a site that is
pub is_here : (front cs : List ℕ) (children : List Child) (site left p : ℕ) → seek front site ≡ Err left → seek cs left ≡ Ok p → Finds (numbers_from (length front) (length cs)) children site (Here (option_and_then node_of (slice_get children left)))
is_here front cs children site left p found at = λ more.
    ap (λ n. child_for (numbers_from (length front) (length cs) ++ more) children n) (seek_past front site left found) ∙ here_list (length front) (length cs) left more children (seek_within cs left p at)

-- where there is no such block
pub no_block : (first : ℕ) (children : List Child) (site : ℕ) → Finds (numbers_from first 0) children site (Behind 0)
no_block first children site = (omega arith, λ more. ap (λ cs. child_for more cs site) (sym (drop_none children)))

-- ---- along the path

pub block_on : (blocks : List FlatBlock) (path : List ℕ) (i number : ℕ) → i < length path → number ≡ slice_index_or path i number → sites_passed blocks (drop i path) ≡ sites_in blocks number ++ sites_passed blocks (drop (i + 1) path)
block_on blocks path i number h is = ap (λ xs. sites_passed blocks xs) (next_of path i number h is)

-- the sites of a block that is there
pub in_block : (blocks : List FlatBlock) (number : ℕ) (block : FlatBlock) (cmds : List FlatCmd) → number < length blocks → block ≡ slice_index_or blocks number block → cmds ≡ block.cmds →
    numbers_from (length (sites_of (take number blocks))) (length (calls_of cmds)) ≡ sites_in blocks number
in_block blocks number block cmds h is same =
    ap (λ cs. numbers_from (length (sites_of (take number blocks))) (length (calls_of cs))) same
    ∙ ap (λ o. numbers_from (length (sites_of (take number blocks))) (length (calls_at o))) (sym (slice_get_read blocks (length blocks) number block refl h is))
