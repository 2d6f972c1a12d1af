-- The loops, one by one, and the innermost of those that hold a block.
use Rattle.std.proofs.Common.{◌≡◌, ℕ, zero, suc, ◌+◌, ◌<◌, Bool, true, false, not, ◌&&◌, nat_eq, nat_le, nat_lt, List, [], ◌∷◌, ◌++◌, length, get_or, take, replicate, map, if◌then◌else◌, slice_get, Some, refl, sym, ap, ◌∙◌, arith, subst, filter}
use Rattle.std.proofs.lemmas.List.{take_more, map-append, length-replicate, get_or-replicate}
use Rattle.std.proofs.lemmas.List.Elements.{filter-append}
use Rattle.std.proofs.lemmas.Bool.{eqb-true, eq-eqb, ltb-true, leb-true}
use Rattle.std.specs.List.{list_all}
use Rattle.hy_val.proofs.Booleans.{and-first, and-second}
use Rattle.src_prog.specs.Loops.{are_nested, is_apart_or_inside, holds_block, loop_is_within}
use Rattle.src_prog.specs.declared.proc.SrcLoop.{SrcLoop}
use Rattle.extract_def.specs.Scopes.{innermost, scope_around}
use Rattle.extract_def.specs.declared.scope.Scope.{Scope}
use Rattle.extract_def.specs.declared.scope.Scope.TheVariants.{Whole, In}
use Rattle.loop_extract.specs.Heads.{head_of, is_up}
use Rattle.loop_extract.specs.declared.scopes.Head.{Head}

-- ---- the innermost loop

pub innermost-append : (test : SrcLoop → Bool) (s : Scope) (xs ys : List SrcLoop) → innermost test s (xs ++ ys) ≡ innermost test (innermost test s xs) ys
innermost-append test s [] ys = refl
innermost-append test s (x ∷ xs) ys = innermost-append test (if test x then In x.head x.exit else s) xs ys

and-false : (a : Bool) → (a && false) ≡ false
and-false true = refl
and-false false = refl

and-true : (a : Bool) → (a && true) ≡ a
and-true true = refl
and-true false = refl

-- those behind a loop hold none of the blocks up to its head
none_behind : (l : SrcLoop) (s : Scope) (ms : List SrcLoop) → list_all (is_apart_or_inside l) ms ≡ true → innermost (λ m. holds_block m l.head && not (nat_eq m.head l.head)) s ms ≡ s
none_behind l s [] h = refl
none_behind l s (m ∷ ms) h =
    let first = and-first (is_apart_or_inside l m) (list_all (is_apart_or_inside l) ms) h in
    let less : l.head < m.head = ltb-true l.head m.head (and-first (nat_lt l.head m.head) _ first) in
    let out : nat_le m.head l.head ≡ false = not_le m.head l.head less in
    ap (λ (t : Bool). innermost (λ m. holds_block m l.head && not (nat_eq m.head l.head)) (if (t && nat_lt l.head m.exit) && not (nat_eq m.head l.head) then In m.head m.exit else s) ms) out
    ∙ none_behind l s ms (and-second (is_apart_or_inside l m) (list_all (is_apart_or_inside l) ms) h)
  where
    not_le : (a b : ℕ) → b < a → nat_le a b ≡ false
    not_le a b lt = by (nat_le a b) refl
      where
        by : (t : Bool) → nat_le a b ≡ t → nat_le a b ≡ false
        by true e = absurd (omega (arith, lt, leb-true a b e))
        by false e = e

-- the innermost loop that holds the head of a loop, before that loop is looked at, is the scope around it
pub around_at : (loops : List SrcLoop) (k : ℕ) (l : SrcLoop) (s : Scope) → are_nested loops ≡ true → slice_get loops k ≡ Some l
    → innermost (λ m. holds_block m l.head) s (take k loops) ≡ innermost (λ m. holds_block m l.head && not (nat_eq m.head l.head)) s loops
around_at [] k l s h e = absurd cc
around_at (m ∷ ms) zero l s h e =
    let same : m ≡ l = cc in
    let no : nat_eq l.head l.head ≡ true = eq-eqb l.head l.head refl in
    let tail = and-first (list_all (is_apart_or_inside m) ms) (are_nested ms) h in
    let rest = none_behind l s ms (subst (λ x. list_all (is_apart_or_inside x) ms ≡ true) same tail) in
    let here : (holds_block l l.head && not (nat_eq l.head l.head)) ≡ false = ap (λ t. holds_block l l.head && not t) no ∙ and-false (holds_block l l.head) in
    subst (λ (x : SrcLoop). s ≡ innermost (λ m. holds_block m l.head && not (nat_eq m.head l.head)) (if holds_block x l.head && not (nat_eq x.head l.head) then In x.head x.exit else s) ms) (sym same)
    (sym rest ∙ ap (λ (t : Bool). innermost (λ m. holds_block m l.head && not (nat_eq m.head l.head)) (if t then In l.head l.exit else s) ms) (sym here))
around_at (m ∷ ms) (suc k) l s h e =
    let first = apart_at m ms k l (and-first (list_all (is_apart_or_inside m) ms) (are_nested ms) h) e in
    let less : m.head < l.head = ltb-true m.head l.head (and-first (nat_lt m.head l.head) _ first) in
    let other : nat_eq m.head l.head ≡ false = not_eq m.head l.head less in
    let same : (holds_block m l.head && not (nat_eq m.head l.head)) ≡ holds_block m l.head = ap (λ t. holds_block m l.head && not t) other ∙ and-true (holds_block m l.head) in
    around_at ms k l (if holds_block m l.head then In m.head m.exit else s) (and-second (list_all (is_apart_or_inside m) ms) (are_nested ms) h) e
    ∙ ap (λ (t : Bool). innermost (λ m. holds_block m l.head && not (nat_eq m.head l.head)) (if t then In m.head m.exit else s) ms) (sym same)
  where
    not_eq : (a b : ℕ) → a < b → nat_eq a b ≡ false
    not_eq a b lt = by (nat_eq a b) refl
      where
        by : (t : Bool) → nat_eq a b ≡ t → nat_eq a b ≡ false
        by true e = absurd (omega (arith, lt, eqb-true a b e))
        by false e = e

    apart_at : (m : SrcLoop) (ms : List SrcLoop) (k : ℕ) (l : SrcLoop) → list_all (is_apart_or_inside m) ms ≡ true → slice_get ms k ≡ Some l → is_apart_or_inside m l ≡ true
    apart_at m [] k l h e = absurd cc
    apart_at m (x ∷ xs) zero l h e = let same : x ≡ l = cc in subst (λ y. is_apart_or_inside m y ≡ true) same (and-first (is_apart_or_inside m x) (list_all (is_apart_or_inside m) xs) h)
    apart_at m (x ∷ xs) (suc k) l h e = apart_at m xs k l (and-second (is_apart_or_inside m x) (list_all (is_apart_or_inside m) xs) h) e

-- ---- the walk over the loops

-- the scopes by the first loops, and the reached ones of them
pub record Ringed (up : List Bool) (loops : List SrcLoop) (k : ℕ) (scopes : List Scope) (heads : List Head) : Type 0 where
  pub size : length scopes ≡ length up
  pub blocks : (n : ℕ) → n < length up → get_or scopes n Whole ≡ innermost (λ l. holds_block l n) Whole (take k loops)
  pub heads_are : heads ≡ map (head_of loops) (filter (is_up up) (take k loops))

pub ringed_start : (up : List Bool) (loops : List SrcLoop) (scopes : List Scope) → scopes ≡ replicate (length up) Whole → Ringed up loops 0 scopes []
ringed_start up loops scopes e = record {
  size = ap length e ∙ length-replicate (length up) Whole;
  blocks = λ n lt. ap (λ xs. get_or xs n Whole) e ∙ get_or-replicate (length up) n Whole Whole lt;
  heads_are = refl;
}

there_or : {A : Type 0} (xs : List A) (k : ℕ) (d : A) → k < length xs → slice_get xs k ≡ Some (get_or xs k d)
there_or [] k d lt = absurd (omega (arith, lt))
there_or (x ∷ xs) zero d lt = refl
there_or (x ∷ xs) (suc k) d lt = there_or xs k d (omega (arith, lt))

pub ringed_more : (up : List Bool) (loops : List SrcLoop) (k : ℕ) (l : SrcLoop) (scopes new : List Scope) (around : Scope) (heads more : List Head) → are_nested loops ≡ true → Ringed up loops k scopes heads → k < length loops
    → l ≡ get_or loops k l → l.head < length up → around ≡ get_or scopes l.head Whole → more ≡ heads ++ (if is_up up l then record { span = l; around = around } ∷ [] else []) → length new ≡ length scopes
    → ((n : ℕ) → n < length scopes → get_or new n Whole ≡ (if holds_block l n then In l.head l.exit else get_or scopes n Whole)) → Ringed up loops (k + 1) new more
ringed_more up loops k l scopes new around heads more nested r lt is within at_head put size fill =
    let one : take (k + 1) loops ≡ take k loops ++ l ∷ [] = take_more loops k l lt ∙ ap (λ m. take k loops ++ m ∷ []) (sym is) in
    let there : slice_get loops k ≡ Some l = there_or loops k l lt ∙ ap Some (sym is) in
    let place : around ≡ scope_around loops l.head = at_head ∙ r.blocks l.head within ∙ around_at loops k l Whole nested there in
    record {
      size = size ∙ r.size;
      blocks = λ n less.
          fill n (subst (λ m. n < m) (sym r.size) less) ∙ ap (λ (s : Scope). if holds_block l n then In l.head l.exit else s) (r.blocks n less)
          ∙ sym (innermost-append (λ m. holds_block m n) Whole (take k loops) (l ∷ [])) ∙ ap (innermost (λ m. holds_block m n) Whole) (sym one);
      heads_are = put ∙ ap (λ (s : Scope). heads ++ (if is_up up l then record { span = l; around = s } ∷ [] else [])) place ∙ ap (λ hs. hs ++ (if is_up up l then head_of loops l ∷ [] else [])) r.heads_are
          ∙ ends ∙ ap (λ ls. map (head_of loops) (filter (is_up up) ls)) (sym one);
    }
  where
    single : (b : Bool) → (if b then head_of loops l ∷ [] else []) ≡ map (head_of loops) (if b then l ∷ [] else [])
    single true = refl
    single false = refl

    ends : map (head_of loops) (filter (is_up up) (take k loops)) ++ (if is_up up l then head_of loops l ∷ [] else []) ≡ map (head_of loops) (filter (is_up up) (take k loops ++ l ∷ []))
    ends =
        ap (λ hs. map (head_of loops) (filter (is_up up) (take k loops)) ++ hs) (single (is_up up l))
        ∙ sym (map-append (head_of loops) (filter (is_up up) (take k loops)) (filter (is_up up) (l ∷ []))) ∙ ap (map (head_of loops)) (sym (filter-append (is_up up) (take k loops) (l ∷ [])))

-- each loop's head is a block
pub head_within : (n : ℕ) (loops : List SrcLoop) (k : ℕ) (d : SrcLoop) → list_all (loop_is_within n) loops ≡ true → k < length loops → (get_or loops k d).head < n
head_within n [] k d h lt = absurd (omega (arith, lt))
head_within n (l ∷ ls) zero d h lt =
    let a = and-first (loop_is_within n l) (list_all (loop_is_within n) ls) h in
    let b = and-second (nat_lt 0 l.head) (nat_lt l.head l.exit && nat_lt l.exit n) a in
    omega (arith, ltb-true l.head l.exit (and-first (nat_lt l.head l.exit) (nat_lt l.exit n) b), ltb-true l.exit n (and-second (nat_lt l.head l.exit) (nat_lt l.exit n) b))
head_within n (l ∷ ls) (suc k) d h lt = head_within n ls k d (and-second (loop_is_within n l) (list_all (loop_is_within n) ls) h) (omega (arith, lt))
