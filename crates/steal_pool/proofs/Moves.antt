-- Each step on a deque keeps its rule: a put and a pop by the owner, a steal by a thief, the split of the owner's pass, and
-- the join of another pass to it. At the end the owner's pass has all parts, and so knows the content.
use Rattle.std.proofs.Common.{◌≡◌, ℕ, zero, suc, ◌-◌, ◌^◌, ◌<◌, ◌≤◌, List, [], ◌∷◌, ◌++◌, length, set, sym, refl, ap, ◌∙◌, subst, arith, append_assoc, length-append}
use Rattle.std.specs.List.{sum_by}
use Rattle.std.proofs.lemmas.List.Sums.{sum_by-append}
use mathlib.Core.Option.{some, some-ne-none, some-injective}
use lib.ListN.{get_elem?}
use Rattle.crossbeam_deque.specs.Tasks.{Pushes, Takes, Forks, Merges, Learns}
use Rattle.crossbeam_deque.proofs.Lists.{set_here, set_else, at_longer}
use Rattle.steal_pool.specs.declared.rule.Ticket.{Ticket}
use Rattle.steal_pool.specs.declared.rule.View.{View}
use Rattle.steal_pool.specs.Rule.{view_of, joined, IsWhole, Balanced, AfterPut, AfterPop, AfterSteal, IsAccounted}
use Rattle.steal_pool.proofs.Totals.{sum_by-changed, all_at_set, all_at_snoc, sum_by-alone, sum_by-one}

abbrev steals_by : (Ticket → ℕ) → View → ℕ
steals_by h v = sum_by h v.steals

abbrev olds_by : (Ticket → ℕ) → View → ℕ
olds_by h v = sum_by h v.olds

abbrev IsIdleEmpty : View → Type 0
IsIdleEmpty v = v.parts ≡ 0 → (v.steals ≡ []) × (v.olds ≡ [])

-- no pass is without a part at the beginning
apart : (port : ℕ) (v : View) → get_elem? (view_of 64 [] [] [] [] ∷ []) port ≡ some v → v.parts ≡ 0 → ⊥
apart zero v at none = let e = ap (λ (u : View). u.parts) (some-injective _ v at) in omega (arith, e)
apart (suc port) v at none = some-ne-none v (sym at)

-- where a view stands, the list is not empty
there : (views : List View) (v : View) → get_elem? views 0 ≡ some v → 0 < length views
there [] v at = absurd (some-ne-none v (sym at))
there (x ∷ xs) v at = omega arith

-- the rule holds of a new deque, which is empty and has its owner's pass alone
pub begins : Balanced [] (view_of 64 [] [] [] [] ∷ [])
begins = (
  view_of 64 [] [] [] [],
  [],
  refl,
  refl,
  (λ h. refl),
  omega arith,
  refl,
  λ port v at none. absurd (apart port v at none),
)

pub puts : (v : View) (x : Ticket) → length v.puts < 2 ^ 57 → Pushes Balanced 0 v (x ∷ []) (AfterPut v (x ∷ []))
puts v x room items views b at =
    let owner = b.0 in
    let is : owner ≡ v = some-injective owner v (sym b.2 ∙ at) in
    let w = view_of v.parts (v.puts ++ x ∷ []) v.pops v.steals v.olds in (
      w,
      (
        w,
        b.1,
        set_here views 0 w (there views v at),
        ap (λ l. l ++ x ∷ []) (sym (ap (λ (u : View). u.puts) is) ∙ b.3) ∙ append_assoc b.1 items (x ∷ []),
        (λ h.
            let s = sum_by-changed (steals_by h) views 0 v w at in
            let o = sum_by-changed (olds_by h) views 0 v w at in
            let p = b.4 h in
            let e = ap (λ (u : View). sum_by h u.puts) is in
            let f = ap (λ (u : View). sum_by h u.pops) is in
            omega (arith, sum_by-append h v.puts (x ∷ []), sum_by-append h items (x ∷ []))),
        omega (arith, length-append v.puts (x ∷ [])),
        (let s = sum_by-changed (λ (u : View). u.parts) views 0 v w at in omega (arith, b.6)),
        all_at_set IsIdleEmpty views 0 w (b.7 0 v at) b.7,
      ),
      refl,
    )

pub pops : (v : View) → Takes Balanced 0 v 1 (AfterPop v)
pops v xs items views some_come few b at =
    let owner = b.0 in
    let is : owner ≡ v = some-injective owner v (sym b.2 ∙ at) in
    let w = view_of v.parts v.puts (v.pops ++ xs) v.steals v.olds in
    let whole : IsWhole items (set views 0 w) w =
    λ h.
    let s = sum_by-changed (steals_by h) views 0 v w at in
    let o = sum_by-changed (olds_by h) views 0 v w at in
    let p = b.4 h in
    let e = ap (λ (u : View). sum_by h u.puts) is in
    let f = ap (λ (u : View). sum_by h u.pops) is in
    omega (arith, sum_by-append h v.pops xs, sum_by-append h xs items) in
    let most : length v.puts ≤ 2 ^ 57 = subst (λ (u : View). length u.puts ≤ 2 ^ 57) is b.5 in
    let few_popped : length w.pops ≤ 2 ^ 57 = (let p = whole (λ _. 1) in omega (arith, sum_by-one v.puts, sum_by-one (v.pops ++ xs))) in (
      w,
      (
        w,
        b.1 ++ xs,
        set_here views 0 w (there views v at),
        sym (ap (λ (u : View). u.puts) is) ∙ b.3 ∙ sym (append_assoc b.1 xs items),
        whole,
        most,
        (let s = sum_by-changed (λ (u : View). u.parts) views 0 v w at in omega (arith, b.6)),
        all_at_set IsIdleEmpty views 0 w (b.7 0 v at) b.7,
      ),
      (refl, few_popped),
    )

-- where the owner's pass is, whoever's view has changed but for its puts and pops
owner_after : (views : List View) (port : ℕ) (v w owner : View) → get_elem? views port ≡ some v → get_elem? views 0 ≡ some owner → w.puts ≡ v.puts → w.pops ≡ v.pops
    → (u : View) × (get_elem? (set views port w) 0 ≡ some u) × (u.puts ≡ owner.puts) × (u.pops ≡ owner.pops)
owner_after views zero v w owner at own puts pops =
    let is : owner ≡ v = some-injective owner v (sym own ∙ at) in
    (w, set_here views 0 w (there views v at), puts ∙ sym (ap (λ (u : View). u.puts) is), pops ∙ sym (ap (λ (u : View). u.pops) is))
owner_after views (suc port) v w owner at own puts pops = (owner, set_else views (suc port) 0 w (λ e. omega (arith, e)) ∙ own, refl, refl)

pub steals : (port : ℕ) (v : View) → 0 < v.parts → Takes Balanced port v 1 (AfterSteal v)
steals port v part xs items views some_come few b at =
    let owner = b.0 in
    let w = view_of v.parts v.puts v.pops (v.steals ++ xs) v.olds in
    let own = owner_after views port v w owner at b.2 refl refl in
    let whole : IsWhole items (set views port w) own.0 =
    λ h.
    let s = sum_by-changed (steals_by h) views port v w at in
    let o = sum_by-changed (olds_by h) views port v w at in
    let p = b.4 h in
    let e = ap (λ l. sum_by h l) own.2 in
    let f = ap (λ l. sum_by h l) own.3 in
    omega (arith, sum_by-append h v.steals xs, sum_by-append h xs items) in
    let most : length own.0.puts ≤ 2 ^ 57 = subst (λ (l : List Ticket). length l ≤ 2 ^ 57) (sym own.2) b.5 in (
      w,
      (
        own.0,
        b.1 ++ xs,
        own.1,
        own.2 ∙ b.3 ∙ sym (append_assoc b.1 xs items),
        whole,
        most,
        (let s = sum_by-changed (λ (u : View). u.parts) views port v w at in omega (arith, b.6)),
        all_at_set IsIdleEmpty views port w (λ none. absurd (omega (arith, none))) b.7,
      ),
      refl,
    )

pub forks : (v : View) → 1 < v.parts → Forks Balanced 0 v (view_of (v.parts - 1) v.puts v.pops v.steals v.olds) (view_of 1 [] [] [] [])
forks v two items views b at =
    let owner = b.0 in
    let is : owner ≡ v = some-injective owner v (sym b.2 ∙ at) in
    let l = view_of (v.parts - 1) v.puts v.pops v.steals v.olds in
    let r = view_of 1 [] [] [] [] in
    let vs = set views 0 l in (
      l,
      b.1,
      at_longer vs (r ∷ []) 0 l (set_here views 0 l (there views v at)),
      sym (ap (λ (u : View). u.puts) is) ∙ b.3,
      (λ h.
          let s = sum_by-changed (steals_by h) views 0 v l at in
          let o = sum_by-changed (olds_by h) views 0 v l at in
          let p = b.4 h in
          let e = ap (λ (u : View). sum_by h u.puts) is in
          let f = ap (λ (u : View). sum_by h u.pops) is in
          omega (arith, sum_by-append (steals_by h) vs (r ∷ []), sum_by-append (olds_by h) vs (r ∷ []))),
      subst (λ (u : View). length u.puts ≤ 2 ^ 57) is b.5,
      (let s = sum_by-changed (λ (u : View). u.parts) views 0 v l at in omega (arith, b.6, sum_by-append (λ (u : View). u.parts) vs (r ∷ []))),
      all_at_snoc IsIdleEmpty vs r (λ _. (refl, refl)) (all_at_set IsIdleEmpty views 0 l (λ none. absurd (omega (arith, none))) b.7),
    )

pub merges : (v : View) (other : ℕ) (w : View) → 0 < v.parts → Merges Balanced 0 v other w (joined v w) (view_of 0 [] [] [] [])
merges v other w part items views b at two at' =
    let owner = b.0 in
    let is : owner ≡ v = some-injective owner v (sym b.2 ∙ at) in
    let both = joined v w in
    let spent = view_of 0 [] [] [] [] in
    let vs = set views 0 both in (
      both,
      b.1,
      set_else vs other 0 spent (λ e. two (sym e)) ∙ set_here views 0 both (there views v at),
      sym (ap (λ (u : View). u.puts) is) ∙ b.3,
      (λ h.
          let s = sum_by-changed (steals_by h) views 0 v both at in
          let o = sum_by-changed (olds_by h) views 0 v both at in
          let s' = sum_by-changed (steals_by h) vs other w spent at' in
          let o' = sum_by-changed (olds_by h) vs other w spent at' in
          let p = b.4 h in
          let e = ap (λ (u : View). sum_by h u.puts) is in
          let f = ap (λ (u : View). sum_by h u.pops) is in
          omega (arith, sum_by-append h v.olds (w.steals ++ w.olds), sum_by-append h w.steals w.olds)),
      subst (λ (u : View). length u.puts ≤ 2 ^ 57) is b.5,
      (let s = sum_by-changed (λ (u : View). u.parts) views 0 v both at in
          let t = sum_by-changed (λ (u : View). u.parts) vs other w spent at' in
          omega (arith, b.6)),
      all_at_set IsIdleEmpty vs other spent (λ _. (refl, refl)) (all_at_set IsIdleEmpty views 0 both (λ none. absurd (omega (arith, none))) b.7),
    )

pub learns : (v : View) → v.parts ≡ 64 → Learns Balanced 0 v (IsAccounted v)
learns v all items views b at =
    let owner = b.0 in
    let is : owner ≡ v = some-injective owner v (sym b.2 ∙ at) in
    let alone = b.6 ∙ sym all in (
      (b.1, sym (ap (λ (u : View). u.puts) is) ∙ b.3),
      λ h.
          let s = sum_by-alone (λ (u : View). u.parts) (steals_by h) views 0 v at (λ j u e none. ap (λ l. sum_by h l) (b.7 j u e none).0) alone in
          let o = sum_by-alone (λ (u : View). u.parts) (olds_by h) views 0 v at (λ j u e none. ap (λ l. sum_by h l) (b.7 j u e none).1) alone in
          let p = b.4 h in
          let e = ap (λ (u : View). sum_by h u.puts) is in
          let f = ap (λ (u : View). sum_by h u.pops) is in
          omega arith,
    )

-- the same at a port that is known to be the owner's
pub puts_at : (port : ℕ) (v : View) (x : Ticket) → port ≡ 0 → length v.puts < 2 ^ 57 → Pushes Balanced port v (x ∷ []) (AfterPut v (x ∷ []))
puts_at port v x own room = subst (λ (n : ℕ). Pushes Balanced n v (x ∷ []) (AfterPut v (x ∷ []))) (sym own) (puts v x room)

pub pops_at : (port : ℕ) (v : View) → port ≡ 0 → Takes Balanced port v 1 (AfterPop v)
pops_at port v own = subst (λ (n : ℕ). Takes Balanced n v 1 (AfterPop v)) (sym own) (pops v)

pub forks_at : (port : ℕ) (v : View) → port ≡ 0 → 1 < v.parts → Forks Balanced port v (view_of (v.parts - 1) v.puts v.pops v.steals v.olds) (view_of 1 [] [] [] [])
forks_at port v own two = subst (λ (n : ℕ). Forks Balanced n v (view_of (v.parts - 1) v.puts v.pops v.steals v.olds) (view_of 1 [] [] [] [])) (sym own) (forks v two)

pub merges_at : (port : ℕ) (v : View) (other : ℕ) (w : View) → port ≡ 0 → 0 < v.parts → Merges Balanced port v other w (joined v w) (view_of 0 [] [] [] [])
merges_at port v other w own part = subst (λ (n : ℕ). Merges Balanced n v other w (joined v w) (view_of 0 [] [] [] [])) (sym own) (merges v other w part)

pub learns_at : (port : ℕ) (v : View) → port ≡ 0 → v.parts ≡ 64 → Learns Balanced port v (IsAccounted v)
learns_at port v own all = subst (λ (n : ℕ). Learns Balanced n v (IsAccounted v)) (sym own) (learns v all)
