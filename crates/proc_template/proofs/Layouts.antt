-- Roles in the order of the variables.
use Rattle.std.proofs.Common.{arith, ◌≡◌, ℕ, zero, suc, ◌+◌, ◌-◌, ◌<◌, ◌≤◌, Bool, false, List, [], ◌∷◌, ◌++◌, length, length-append, take, drop, sym, subst, ap, ◌∙◌, refl, append-nil, append_assoc}
use Rattle.std.specs.Prelude.{None, slice_get, slice_index_or, All}
use Rattle.flat_prog.specs.Sites.{numbers_from, sites_of}
use Rattle.flat_prog.specs.declared.block.FlatBlock.{FlatBlock}
use Rattle.passive_form.specs.declared.Passive.{Passive}
use Rattle.passive_form.specs.declared.PassiveBlock.{PassiveBlock}
use Rattle.tree_terms.specs.declared.linked.Role.{Role}
use Rattle.tree_terms.specs.declared.linked.Role.TheVariants.{After}
use Rattle.proc_template.specs.declared.layout.Layout.{Layout}
use Rattle.proc_template.specs.Layout.{after_roles, begin_roles, begin_values, blocks_roles, layout_of, role_if, starts_of}
use Rattle.proc_template.proofs.Beginning.{numbers_append}
use Rattle.proc_template.proofs.Getting.{map_count, numbers_count}

roles_from : (site : ℕ) (marks : List Bool) (g i : ℕ) (before : List ℕ) → i < length before → after_roles site marks g (drop i before) ≡ role_if (slice_index_or marks g false) (After site g) ++ after_roles site marks (g + 1) (drop (suc i) before)
roles_from site marks g i [] l = absurd (omega (arith, l))
roles_from site marks g zero (v ∷ before) l = refl
roles_from site marks g (suc i) (v ∷ before) l = roles_from site marks g i before (omega (arith, l))

roles_end : (site : ℕ) (marks : List Bool) (g i : ℕ) (before : List ℕ) → length before ≤ i → after_roles site marks g (drop i before) ≡ []
roles_end site marks g zero [] l = refl
roles_end site marks g (suc i) [] l = refl
roles_end site marks g zero (v ∷ before) l = absurd (omega (arith, l))
roles_end site marks g (suc i) (v ∷ before) l = roles_end site marks g i before (omega (arith, l))

pub after_next : (site : ℕ) (marks : List Bool) (before : List ℕ) (i : ℕ) (mark : Bool) (all roles more : List Role) → i < length before → mark ≡ slice_index_or marks i false → all ≡ roles ++ after_roles site marks i (drop i before) →
    more ≡ roles ++ role_if mark (After site i) → all ≡ more ++ after_roles site marks (i + 1) (drop (i + 1) before)
after_next site marks before i mark all roles more l is h k =
    let e : suc i ≡ i + 1 = omega arith in
    h ∙ ap (λ r. roles ++ r) (roles_from site marks i i before l ∙ ap (λ b. role_if b (After site i) ++ after_roles site marks (i + 1) (drop (suc i) before)) (sym is) ∙ ap (λ j. role_if mark (After site i) ++ after_roles site marks (i + 1) (drop j before)) e)
    ∙ sym (append_assoc roles (role_if mark (After site i)) (after_roles site marks (i + 1) (drop (i + 1) before))) ∙ ap (λ r. r ++ after_roles site marks (i + 1) (drop (i + 1) before)) (sym k)

pub after_all : (site : ℕ) (marks : List Bool) (before : List ℕ) (i : ℕ) (all roles : List Role) → length before ≤ i → all ≡ roles ++ after_roles site marks i (drop i before) → roles ≡ all
after_all site marks before i all roles l h = sym (h ∙ ap (λ r. roles ++ r) (roles_end site marks i i before l) ∙ append-nil roles)

pub no_mark : (marks : List Bool) (n : ℕ) → slice_get marks n ≡ None → false ≡ slice_index_or marks n false
no_mark [] zero h = refl
no_mark [] (suc n) h = refl
no_mark (m ∷ marks) zero h = cc
no_mark (m ∷ marks) (suc n) h = no_mark marks n h

-- ---- the layout of blocks

pub starts_count : (blocks : List FlatBlock) (starts slice : List ℕ) → slice ≡ starts → starts ≡ starts_of blocks → length slice ≡ length blocks
starts_count blocks starts slice e f = ap length (e ∙ f) ∙ map_count (λ n. length (sites_of (take n blocks))) (numbers_from 0 (length blocks)) ∙ numbers_count 0 (length blocks)

pub numbers_ready : (blocks : List FlatBlock) (p : Passive) (starts slice : List ℕ) (bs : List PassiveBlock) → slice ≡ starts → starts ≡ starts_of blocks → bs ≡ p.blocks → All (λ (b : PassiveBlock). b.number < length blocks) p.blocks →
    All (λ (b : PassiveBlock). b.number < length slice) bs
numbers_ready blocks p starts slice bs e f g h =
    subst (λ (n : ℕ). All (λ (b : PassiveBlock). b.number < n) bs) (sym (starts_count blocks starts slice e f)) (subst (λ (xs : List PassiveBlock). All (λ (b : PassiveBlock). b.number < length blocks) xs) (sym g) h)

-- a number more
pub numbers_next : (first number : ℕ) → first ≤ number → numbers_from first (number + 1 - first) ≡ numbers_from first (number - first) ++ number ∷ []
numbers_next first number l =
    let e : number + 1 - first ≡ number - first + 1 = omega (arith, l) in
    let f : first + (number - first) ≡ number = omega (arith, l) in
    ap (numbers_from first) e ∙ numbers_append first (number - first) 1 ∙ ap (λ n. numbers_from first (number - first) ++ n ∷ []) f

-- the variables of the begin are those that its items add
pub begin_numbers : (before after more : List Role) → after ≡ before ++ more → numbers_from (length before) (length after - length before) ≡ numbers_from (length before) (length more)
begin_numbers before after more e =
    let c = ap length e ∙ length-append before more in
    let f : length after - length before ≡ length more = omega (arith, c) in
    ap (numbers_from (length before)) f

abbrev laid : List Role → List ℕ → Layout
laid roles begin = record { roles = roles; begin = begin }

pub all_laid : (blocks : List FlatBlock) (p : Passive) (starts slice : List ℕ) (l : Layout) (roles : List Role) (bs : List PassiveBlock) → slice ≡ starts → starts ≡ starts_of blocks → bs ≡ p.blocks → l ≡ laid (begin_roles p) (begin_values p) →
    roles ≡ l.roles ++ blocks_roles slice bs → laid roles l.begin ≡ layout_of blocks p
all_laid blocks p starts slice l roles bs e f g h k =
    ap (λ (rs : List Role). laid rs l.begin) (k ∙ ap (λ (xs : List ℕ). l.roles ++ blocks_roles xs bs) (e ∙ f) ∙ ap (λ (xs : List PassiveBlock). l.roles ++ blocks_roles (starts_of blocks) xs) g)
    ∙ ap (λ (x : Layout). laid (x.roles ++ blocks_roles (starts_of blocks) p.blocks) x.begin) h
