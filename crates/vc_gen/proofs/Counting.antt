-- Among the items of a block at most one fails, and exactly one where the block does.
use Rattle.std.proofs.Common.{◌≡◌, ℕ, ◌+◌, Bool, true, false, not, ◌&&◌, List, [], ◌∷◌, ◌++◌, map, length, arith, ◌∙◌, ap, refl}
use Rattle.std.specs.Prelude.{if◌then◌else◌, IsTrue}
use Rattle.hy_val.specs.Exprs.{eval_by}
use Rattle.hy_val.specs.Values.{is_on}
use Rattle.hy_val.specs.declared.value.Value.{Value}
use Rattle.hy_term.specs.Meaning.{value, fits}
use Rattle.hy_term.specs.declared.node.TermNode.{TermNode}
use Rattle.passive_form.specs.declared.Item.{Item}
use Rattle.passive_form.specs.declared.Item.TheVariants.{Let, Zero, Free, Need, Check, Site}
use Rattle.passive_form.specs.Versions.{look_at}
use Rattle.vc_gen.specs.Emit.{site_value, fail_value, SitesThere, FailsThere, Step}
use Rattle.vc_gen.specs.Instance.{all_at}
use Rattle.vc_gen.specs.Items.{SiteMeans, FailMeans, sites_in, asserts_in, fails_in}
use Rattle.vc_gen.specs.Singly.{true_asserts, failed_sites, one_if}
use Rattle.vc_gen.specs.Standing.{Later}
use Rattle.vc_gen.specs.declared.parts.Draft.{Draft}
use Rattle.vc_gen.specs.declared.parts.FailTerm.{FailTerm}
use Rattle.vc_gen.specs.declared.parts.SiteTerm.{SiteTerm}
use Rattle.vc_gen.proofs.Failing.{broken, fails_or, off_broken}
use Rattle.vc_gen.proofs.Passes.{bit_later}
use Rattle.vc_gen.proofs.Stepping.{vals_at, meant_at}

-- ---- counts

abbrev failed_asserts : List FailMeans → ℕ
failed_asserts [] = 0
failed_asserts (m ∷ ms) = one_if m.fails + failed_asserts ms

abbrev failed_calls : List SiteMeans → ℕ
failed_calls [] = 0
failed_calls (m ∷ ms) = one_if m.fails + failed_calls ms

longer : (b : Bool) (x : ℕ × ℕ) (xs : List (ℕ × ℕ)) (n : ℕ) → length xs ≡ n → length (if b then x ∷ xs else xs) ≡ one_if b + n
longer true x xs n h = omega (arith, h)
longer false x xs n h = omega (arith, h)

asserts_counted : (a : ℕ → Value) (nodes : List TermNode) (fs : List FailTerm) → length (true_asserts a nodes fs) ≡ failed_asserts (map (fail_value a nodes) fs)
asserts_counted a nodes [] = refl
asserts_counted a nodes (f ∷ fs) = longer (is_on (value a nodes f.node)) (f.block, f.position) (true_asserts a nodes fs) (failed_asserts (map (fail_value a nodes) fs)) (asserts_counted a nodes fs)

sites_counted : (a : ℕ → Value) (nodes : List TermNode) (ss : List SiteTerm) → length (failed_sites a nodes ss) ≡ failed_calls (map (site_value a nodes) ss)
sites_counted a nodes [] = refl
sites_counted a nodes (s ∷ ss) = longer (is_on (value a nodes s.fails)) (s.block, s.call) (failed_sites a nodes ss) (failed_calls (map (site_value a nodes) ss)) (sites_counted a nodes ss)

-- ---- items

-- an item that fails where `f`, and that the run goes on behind where `c`
single : (consts : List Value) (vals : ℕ → Value) (items : List Item) (on f c : Bool) → f ≡ not c → (g : Bool → ℕ) → ((x : Bool) → g x ≡ one_if (broken consts vals x items)) →
    one_if (on && f) + g (on && c) ≡ one_if (fails_in consts vals (on && c) (on && f) items)
single consts vals items false f c e g h = let r = h false in omega (arith, r)
single consts vals items true true true e g h = cc
single consts vals items true false false e g h = cc
single consts vals items true false true e g h = let r = h true in omega (arith, r)
single consts vals items true true false e g h =
    let none : g false ≡ 0 = h false ∙ ap one_if (off_broken consts vals items) in
    let some : one_if (fails_in consts vals false true items) ≡ 1 = ap one_if (fails_or consts vals false true items) in
    omega (arith, none, some)

twice_not : (w : Bool) → w ≡ not (not w)
twice_not true = refl
twice_not false = refl

items_counted : (block : ℕ) (consts : List Value) (vals : ℕ → Value) (on : Bool) (items : List Item) →
    failed_asserts (asserts_in block consts vals on items) + failed_calls (sites_in consts vals on items) ≡ one_if (broken consts vals on items)
items_counted block consts vals on [] = refl
items_counted block consts vals on (Let v e ∷ items) = items_counted block consts vals on items
items_counted block consts vals on (Zero v s ∷ items) = items_counted block consts vals on items
items_counted block consts vals on (Free v s ∷ items) = items_counted block consts vals on items
items_counted block consts vals on (Need e ∷ items) = items_counted block consts vals (on && is_on (eval_by (look_at consts vals) e)) items
items_counted block consts vals on (Check p e ∷ items) =
    let c = is_on (eval_by (look_at consts vals) e) in
    let asserts = λ (x : Bool). failed_asserts (asserts_in block consts vals x items) in
    let calls = λ (x : Bool). failed_calls (sites_in consts vals x items) in
    let r = single consts vals items on (not c) c refl (λ x. asserts x + calls x) (λ x. items_counted block consts vals x items) in
    joined (one_if (on && not c)) (asserts (on && c)) (calls (on && c)) (one_if (fails_in consts vals (on && c) (on && not c) items)) r
  where
    joined : (w x y z : ℕ) → w + (x + y) ≡ z → (w + x) + y ≡ z
    joined w x y z h = omega (arith, h)
items_counted block consts vals on (Site p f args before outs changes after ∷ items) =
    let w = is_on (vals f) in
    let asserts = λ (x : Bool). failed_asserts (asserts_in block consts vals x items) in
    let calls = λ (x : Bool). failed_calls (sites_in consts vals x items) in
    let r = single consts vals items on w (not w) (twice_not w) (λ x. asserts x + calls x) (λ x. items_counted block consts vals x items) in
    joined (one_if (on && w)) (asserts (on && not w)) (calls (on && not w)) (one_if (fails_in consts vals (on && not w) (on && w) items)) r
  where
    joined : (w x y z : ℕ) → w + (x + y) ≡ z → x + (w + y) ≡ z
    joined w x y z h = omega (arith, h)

-- the terms of items
pub step_counted : (cs : List ℕ) (block : ℕ) (old new : List TermNode) (d e : Draft) (items : List Item) (s : Step cs block old d items new e) (a : ℕ → Value) → IsTrue (fits a new) →
    length (true_asserts a new s.asserts) + length (failed_sites a new s.sites) ≡ one_if (broken (all_at a new cs) (vals_at a new e.versions) (is_on (value a old d.cond)) items)
step_counted cs block old new d e items s a f =
    let consts = all_at a new cs in
    let vals = vals_at a new e.versions in
    let on = is_on (value a old d.cond) in
    let says = s.says a consts vals f (meant_at a new cs e.versions) in
    let one : length (true_asserts a new s.asserts) ≡ failed_asserts (asserts_in block consts vals on items) = asserts_counted a new s.asserts ∙ ap failed_asserts says.asserts_are in
    let two : length (failed_sites a new s.sites) ≡ failed_calls (sites_in consts vals on items) = sites_counted a new s.sites ∙ ap failed_calls says.sites_are in
    ap (λ n. n + length (failed_sites a new s.sites)) one ∙ ap (λ n. failed_asserts (asserts_in block consts vals on items) + n) two ∙ items_counted block consts vals on items

-- ---- terms that grow

pub asserts_later : (x y : List TermNode) (a : ℕ → Value) (fs : List FailTerm) → Later x y → FailsThere x fs → true_asserts a y fs ≡ true_asserts a x fs
asserts_later x y a [] h t = refl
asserts_later x y a (f ∷ fs) h (t, ts) =
    ap (λ r. if is_on (value a y f.node) then (f.block, f.position) ∷ r else r) (asserts_later x y a fs h ts)
    ∙ ap (λ b. if b then (f.block, f.position) ∷ true_asserts a x fs else true_asserts a x fs) (bit_later x y a f.node h t)

pub failed_later : (x y : List TermNode) (a : ℕ → Value) (ss : List SiteTerm) → Later x y → SitesThere x ss → failed_sites a y ss ≡ failed_sites a x ss
failed_later x y a [] h t = refl
failed_later x y a (s ∷ ss) h (t, ts) =
    ap (λ r. if is_on (value a y s.fails) then (s.block, s.call) ∷ r else r) (failed_later x y a ss h ts)
    ∙ ap (λ b. if b then (s.block, s.call) ∷ failed_sites a x ss else failed_sites a x ss) (bit_later x y a s.fails h t.fails)

-- the places of both lists, when the terms have grown
pub counted_later : (x y : List TermNode) (a : ℕ → Value) (fs : List FailTerm) (ss : List SiteTerm) → Later x y → FailsThere x fs → SitesThere x ss →
    length (true_asserts a y fs) + length (failed_sites a y ss) ≡ length (true_asserts a x fs) + length (failed_sites a x ss)
counted_later x y a fs ss h t u =
    ap (λ ps. length ps + length (failed_sites a y ss)) (asserts_later x y a fs h t) ∙ ap (λ ps. length (true_asserts a x fs) + length ps) (failed_later x y a ss h u)

count_asserts : (a : ℕ → Value) (nodes : List TermNode) (fs gs : List FailTerm) → length (true_asserts a nodes (fs ++ gs)) ≡ length (true_asserts a nodes fs) + length (true_asserts a nodes gs)
count_asserts a nodes [] gs = let e : length (true_asserts a nodes gs) ≡ 0 + length (true_asserts a nodes gs) = omega arith in e
count_asserts a nodes (f ∷ fs) gs =
    let b = is_on (value a nodes f.node) in
    let x : ℕ × ℕ = (f.block, f.position) in
    let all = longer b x (true_asserts a nodes (fs ++ gs)) (length (true_asserts a nodes fs) + length (true_asserts a nodes gs)) (count_asserts a nodes fs gs) in
    let front = longer b x (true_asserts a nodes fs) (length (true_asserts a nodes fs)) refl in
    omega (arith, all, front)

count_sites : (a : ℕ → Value) (nodes : List TermNode) (ss ts : List SiteTerm) → length (failed_sites a nodes (ss ++ ts)) ≡ length (failed_sites a nodes ss) + length (failed_sites a nodes ts)
count_sites a nodes [] ts = let e : length (failed_sites a nodes ts) ≡ 0 + length (failed_sites a nodes ts) = omega arith in e
count_sites a nodes (s ∷ ss) ts =
    let b = is_on (value a nodes s.fails) in
    let x : ℕ × ℕ = (s.block, s.call) in
    let all = longer b x (failed_sites a nodes (ss ++ ts)) (length (failed_sites a nodes ss) + length (failed_sites a nodes ts)) (count_sites a nodes ss ts) in
    let front = longer b x (failed_sites a nodes ss) (length (failed_sites a nodes ss)) refl in
    omega (arith, all, front)

pub counted_both : (a : ℕ → Value) (nodes : List TermNode) (fs gs : List FailTerm) (ss ts : List SiteTerm) (n m : ℕ) → length (true_asserts a nodes fs) + length (failed_sites a nodes ss) ≡ n → length (true_asserts a nodes gs) + length (failed_sites a nodes ts) ≡ m →
    length (true_asserts a nodes (fs ++ gs)) + length (failed_sites a nodes (ss ++ ts)) ≡ n + m
counted_both a nodes fs gs ss ts n m h k = omega (arith, h, k, count_asserts a nodes fs gs, count_sites a nodes ss ts)
