-- The sites that a run passes, by number.
use Rattle.std.proofs.Common.{arith, ◌≡◌, ℕ, zero, suc, ◌+◌, ◌<◌, ◌≤◌, ◌⊎◌, Bool, true, false, ◌&&◌, ◌||◌, List, [], ◌∷◌, ◌++◌, map, length, length-append, take, replicate, sym, ap, ◌∙◌, refl, subst, inl, inr}
use Rattle.std.specs.Prelude.{Option, None, Some, slice_get, nat_eq, if◌then◌else◌, IsTrue}
use Rattle.std.proofs.lemmas.Bool.Decides.{nat_tests}
use Rattle.std.proofs.lemmas.List.{map-append}
use Rattle.hy_val.specs.Values.{at, is_on}
use Rattle.hy_val.specs.declared.sort.Sort.{Sort}
use Rattle.hy_val.specs.declared.value.Value.{Value}
use Rattle.hy_term.specs.Meaning.{fits, value, values}
use Rattle.hy_term.specs.declared.node.TermNode.{TermNode}
use Rattle.hy_term.specs.declared.node.TermNode.TheVariants.{Variable}
use Rattle.flat_prog.specs.Limits.{row}
use Rattle.flat_prog.specs.Local.{Broken, Ended, Request, Result}
use Rattle.flat_prog.specs.Once.{has_number}
use Rattle.flat_prog.specs.Program.{FlatProgram}
use Rattle.flat_prog.specs.Shape.{IsFlat}
use Rattle.flat_prog.specs.Sites.{calls_at, numbers_from, sites_passed}
use Rattle.flat_prog.specs.declared.block.FlatBlock.{FlatBlock}
use Rattle.flat_prog.specs.declared.proc.FlatProc.{FlatProc}
use Rattle.passive_form.specs.Limited.{Limited, limited}
use Rattle.passive_form.specs.Local.{changed_sorts, picked, replaced}
use Rattle.passive_form.specs.SameRuns.{slim, wide, wides}
use Rattle.passive_form.specs.declared.Item.{Item}
use Rattle.passive_form.specs.declared.Item.TheVariants.{Let, Zero, Free, Need, Check, Site}
use Rattle.passive_form.proofs.Passing.{map_replaced}
use Rattle.vc_gen.specs.BlockPlans.{recast}
use Rattle.vc_gen.specs.Emit.{AllBehind, SiteThere, site_value}
use Rattle.vc_gen.specs.Exact.{asked, given_back, request_of, result_of, true_sites}
use Rattle.vc_gen.specs.Inputs.{choices_at, items_at, sorts_of_block, sorts_of_blocks}
use Rattle.vc_gen.specs.Items.{bool_sort, chosen}
use Rattle.vc_gen.specs.Laid.{Laid, calls_laid, site_laid, sites_laid}
use Rattle.vc_gen.specs.Passages.{block_places, path_places, places_from}
use Rattle.vc_gen.specs.Signed.{SiteAsked, SiteSigned}
use Rattle.vc_gen.specs.Singly.{failed_sites, one_if}
use Rattle.vc_gen.specs.Whole.{PassiveReady}
use Rattle.vc_gen.specs.declared.parts.SiteTerm.{SiteTerm}
use Rattle.tree_terms.specs.declared.linked.SiteTerms.{SiteTerms}
use Rattle.tree_terms.specs.declared.linked.Template.{Template}
use Rattle.proc_template.specs.Numbered.{ArePassed, Ascends, NoneFailsAtEnds, OneSiteFails, PassedAreNumbered, does_fail, fails_node, is_passed, request_by, result_by, slim_by}
use Rattle.proc_template.specs.Runs.{BitsAreNeverBoth}
use Rattle.proc_template.specs.Sites.{site_terms}
use Rattle.proc_template.specs.Template.{IsTemplateOf}
use Rattle.proc_template.proofs.Getting.{equal_numbers, take_map}
use Rattle.proc_template.proofs.Marked.{picked_replaced}
use Rattle.proc_template.proofs.Placing.{IsNumbered, by_number, each_stands, number_of, start_of}
use Rattle.proc_template.proofs.Sited.{SiteLaws, first_of_blocks, laid_are, order_is, sites_are}
use Rattle.proc_template.proofs.Telling.{are_count, asked_at, counted, signed_at, site_variable, there_at}
use Rattle.proc_template.proofs.Unique.{ordered}

-- ---- numbers of a path's sites

-- the number of a call, by block and by its number there
abbrev pub number_at : List FlatBlock → ℕ × ℕ → ℕ
number_at blocks x = start_of blocks x.0 + x.1

places_numbers : (blocks : List FlatBlock) (n c m : ℕ) → map (number_at blocks) (places_from n c m) ≡ numbers_from (start_of blocks n + c) m
places_numbers blocks n c zero = refl
places_numbers blocks n c (suc m) =
    let e : start_of blocks n + (c + 1) ≡ start_of blocks n + c + 1 = omega arith in
    ap (λ r. (start_of blocks n + c) ∷ r) (places_numbers blocks n (c + 1) m ∙ ap (λ i. numbers_from i m) e)

pub path_numbers : (q : FlatProc) (path : List ℕ) → map (number_at q.blocks) (path_places q path) ≡ sites_passed q.blocks path
path_numbers q [] = refl
path_numbers q (n ∷ path) =
    let z : start_of q.blocks n + 0 ≡ start_of q.blocks n = omega arith in
    let m = length (calls_at (slice_get q.blocks n)) in
    map-append (number_at q.blocks) (block_places q n) (path_places q path) ∙ ap (λ r. r ++ map (number_at q.blocks) (path_places q path)) (places_numbers q.blocks n 0 m ∙ ap (λ i. numbers_from i m) z)
    ∙ ap (λ r. numbers_from (start_of q.blocks n) m ++ r) (path_numbers q path)

-- the numbers of the sites whose bits are true
abbrev pub true_numbers : (ℕ → Value) → List TermNode → List FlatBlock → List SiteTerm → List ℕ
true_numbers a nodes blocks ss = map (number_at blocks) (true_sites a nodes ss)

-- ---- what each asks for, and what comes back

-- what holds of each site
pub record Known (flat : FlatProgram) (limits : List (List Bool)) (nodes : List TermNode) (blocks : List FlatBlock) (sites : List SiteTerms) (s : SiteTerm) : Type 0 where
  pub stands : slice_get sites (number_of blocks s) ≡ Some (site_terms s)
  pub there : SiteThere nodes s
  pub signed : SiteSigned (limited flat limits) nodes s
  pub requested : SiteAsked (limited flat limits) nodes s

abbrev pub AllKnown : FlatProgram → List (List Bool) → List TermNode → List FlatBlock → List SiteTerms → List SiteTerm → Type 0
AllKnown flat limits nodes blocks sites ss = (k : ℕ) (s : SiteTerm) → slice_get ss k ≡ Some s → Known flat limits nodes blocks sites s

rest_known : (flat : FlatProgram) (limits : List (List Bool)) (nodes : List TermNode) (blocks : List FlatBlock) (sites : List SiteTerms) (s : SiteTerm) (ss : List SiteTerm) → AllKnown flat limits nodes blocks sites (s ∷ ss) →
    AllKnown flat limits nodes blocks sites ss
rest_known flat limits nodes blocks sites s ss h = λ k x e. h (suc k) x e

by_numbers : {A : Type 0} (b : Bool) (x : A) (xs : List A) (f : ℕ → A) (g : ℕ × ℕ → ℕ) (n : ℕ × ℕ) (ns : List (ℕ × ℕ)) → (b ≡ true → x ≡ f (g n)) → xs ≡ map f (map g ns) →
    (if b then x ∷ xs else xs) ≡ map f (map g (if b then n ∷ ns else ns))
by_numbers true x xs f g n ns h e = ap (λ y. y ∷ xs) (h refl) ∙ ap (λ r. f (g n) ∷ r) e
by_numbers false x xs f g n ns h e = e

pub asked_by : (flat : FlatProgram) (limits : List (List Bool)) (a : ℕ → Value) (nodes : List TermNode) (blocks : List FlatBlock) (sites : List SiteTerms) (ss : List SiteTerm) → AllKnown flat limits nodes blocks sites ss →
    asked (map (site_value a nodes) ss) ≡ map (λ (i : ℕ). request_by (values a nodes) (slice_get sites i)) (true_numbers a nodes blocks ss)
asked_by flat limits a nodes blocks sites [] h = refl
asked_by flat limits a nodes blocks sites (s ∷ ss) h =
    let vs = values a nodes in
    let k = h 0 s refl in
    by_numbers (is_on (value a nodes s.node)) (request_of (site_value a nodes s)) (asked (map (site_value a nodes) ss)) (λ (i : ℕ). request_by vs (slice_get sites i)) (number_at blocks) (s.block, s.call) (true_sites a nodes ss)
    (λ on. ap (request_by vs) (sym k.stands)) (asked_by flat limits a nodes blocks sites ss (rest_known flat limits nodes blocks sites s ss h))

-- a callee that fails, by the bit of its variable
fails_by : (a : ℕ → Value) (nodes : List TermNode) (s : SiteTerm) → SiteThere nodes s → IsTrue (fits a nodes) → is_on (value a nodes s.node) ≡ true → is_on (value a nodes s.fails) ≡ is_on (value a nodes s.failed)
fails_by a nodes s h fit on = h.fails_is a fit ∙ ap (λ b. b && is_on (value a nodes s.failed)) on

-- the globals after a call, by those that it changes
after_values : (flat : FlatProgram) (limits : List (List Bool)) (a : ℕ → Value) (nodes : List TermNode) (s : SiteTerm) → SiteSigned (limited flat limits) nodes s →
    map (at (values a nodes)) s.globals_after ≡ replaced (row limits s.proc) (map (at (values a nodes)) s.globals_before) (map (at (values a nodes)) s.changed)
after_values flat limits a nodes s h = ap (map (at (values a nodes))) h.after_is ∙ map_replaced (at (values a nodes)) (row limits s.proc) s.globals_before s.changed

count_values : (vs : List Value) (ts : List ℕ) → length (map (at vs) ts) ≡ length ts
count_values vs [] = refl
count_values vs (t ∷ ts) = ap suc (count_values vs ts)

changed_values : (flat : FlatProgram) (limits : List (List Bool)) (a : ℕ → Value) (nodes : List TermNode) (s : SiteTerm) → SiteSigned (limited flat limits) nodes s → SiteAsked (limited flat limits) nodes s →
    picked (row limits s.proc) (map (at (values a nodes)) s.globals_after) ≡ map (at (values a nodes)) s.changed
changed_values flat limits a nodes s h k =
    let vs = values a nodes in
    ap (picked (row limits s.proc)) (after_values flat limits a nodes s h)
    ∙ picked_replaced (row limits s.proc) (map (at vs) s.globals_before) (map (at vs) s.changed) flat.globals (count_values vs s.globals_before ∙ are_count nodes s.globals_before flat.globals k.before_are)
    (count_values vs s.changed ∙ are_count nodes s.changed (changed_sorts (limited flat limits) s.proc) h.changed_are)

slim_of : (limits : List (List Bool)) (call : Request) (b : Bool) (outs changed after : List Value) → picked (row limits call.proc) after ≡ changed → (if b then Broken 0 0 else Ended outs changed) ≡ slim limits call (if b then Broken 0 0 else Ended outs after)
slim_of limits call true outs changed after e = refl
slim_of limits call false outs changed after e = ap (Ended outs) (sym e)

wide_of : (limits : List (List Bool)) (call : Request) (x y : ℕ) (b : Bool) (outs changed after : List Value) → after ≡ replaced (row limits call.proc) call.globals changed →
    wide limits call (recast x y (if b then Broken 0 0 else Ended outs changed)) ≡ (if b then Broken x y else Ended outs after)
wide_of limits call x y true outs changed after e = refl
wide_of limits call x y false outs changed after e = ap (Ended outs) (sym e)

given_one : (flat : FlatProgram) (limits : List (List Bool)) (a : ℕ → Value) (nodes : List TermNode) (blocks : List FlatBlock) (sites : List SiteTerms) (s : SiteTerm) → IsTrue (fits a nodes) → Known flat limits nodes blocks sites s → is_on (value a nodes s.node) ≡ true →
    result_of (site_value a nodes s) ≡ slim_by limits (values a nodes) (Some (site_terms s))
given_one flat limits a nodes blocks sites s fit k on =
    let vs = values a nodes in
    ap (λ b. if b then Broken 0 0 else Ended (map (at vs) s.outs) (map (at vs) s.changed)) (fails_by a nodes s k.there fit on)
    ∙ slim_of limits (request_of (site_value a nodes s)) (is_on (value a nodes s.failed)) (map (at vs) s.outs) (map (at vs) s.changed) (map (at vs) s.globals_after) (changed_values flat limits a nodes s k.signed k.requested)

pub given_by : (flat : FlatProgram) (limits : List (List Bool)) (a : ℕ → Value) (nodes : List TermNode) (blocks : List FlatBlock) (sites : List SiteTerms) (ss : List SiteTerm) → IsTrue (fits a nodes) → AllKnown flat limits nodes blocks sites ss →
    given_back (map (site_value a nodes) ss) ≡ map (λ (i : ℕ). slim_by limits (values a nodes) (slice_get sites i)) (true_numbers a nodes blocks ss)
given_by flat limits a nodes blocks sites [] fit h = refl
given_by flat limits a nodes blocks sites (s ∷ ss) fit h =
    let vs = values a nodes in
    let k = h 0 s refl in
    by_numbers (is_on (value a nodes s.node)) (result_of (site_value a nodes s)) (given_back (map (site_value a nodes) ss)) (λ (i : ℕ). slim_by limits vs (slice_get sites i)) (number_at blocks) (s.block, s.call) (true_sites a nodes ss)
    (λ on. given_one flat limits a nodes blocks sites s fit k on ∙ ap (slim_by limits vs) (sym k.stands)) (given_by flat limits a nodes blocks sites ss fit (rest_known flat limits nodes blocks sites s ss h))

-- results with all globals
wides_by : (limits : List (List Bool)) (x y : ℕ) (b : Bool) (c : Request) (cs : List Request) (r : Result) (rs : List Result) (f : ℕ → Result) (g : ℕ × ℕ → ℕ) (n : ℕ × ℕ) (ns : List (ℕ × ℕ)) → (b ≡ true → wide limits c (recast x y r) ≡ f (g n)) →
    wides limits cs (map (recast x y) rs) ≡ map f (map g ns) → wides limits (if b then c ∷ cs else cs) (map (recast x y) (if b then r ∷ rs else rs)) ≡ map f (map g (if b then n ∷ ns else ns))
wides_by limits x y true c cs r rs f g n ns h e = ap (λ z. z ∷ wides limits cs (map (recast x y) rs)) (h refl) ∙ ap (λ z. f (g n) ∷ z) e
wides_by limits x y false c cs r rs f g n ns h e = e

pub results_by : (flat : FlatProgram) (limits : List (List Bool)) (a : ℕ → Value) (nodes : List TermNode) (blocks : List FlatBlock) (sites : List SiteTerms) (x y : ℕ) (ss : List SiteTerm) → IsTrue (fits a nodes) → AllKnown flat limits nodes blocks sites ss →
    wides limits (asked (map (site_value a nodes) ss)) (map (recast x y) (given_back (map (site_value a nodes) ss))) ≡ map (λ (i : ℕ). result_by x y (values a nodes) (slice_get sites i)) (true_numbers a nodes blocks ss)
results_by flat limits a nodes blocks sites x y [] fit h = refl
results_by flat limits a nodes blocks sites x y (s ∷ ss) fit h =
    let vs = values a nodes in
    let k = h 0 s refl in
    wides_by limits x y (is_on (value a nodes s.node)) (request_of (site_value a nodes s)) (asked (map (site_value a nodes) ss)) (result_of (site_value a nodes s)) (given_back (map (site_value a nodes) ss))
    (λ (i : ℕ). result_by x y vs (slice_get sites i)) (number_at blocks) (s.block, s.call) (true_sites a nodes ss)
    (λ on. ap (λ b. wide limits (request_of (site_value a nodes s)) (recast x y (if b then Broken 0 0 else Ended (map (at vs) s.outs) (map (at vs) s.changed)))) (fails_by a nodes s k.there fit on)
    ∙ wide_of limits (request_of (site_value a nodes s)) x y (is_on (value a nodes s.failed)) (map (at vs) s.outs) (map (at vs) s.changed) (map (at vs) s.globals_after) (after_values flat limits a nodes s k.signed)
    ∙ ap (result_by x y vs) (sym k.stands))
    (results_by flat limits a nodes blocks sites x y ss fit (rest_known flat limits nodes blocks sites s ss h))

-- ---- which bits are true

in_front : (b : Bool) (g : ℕ × ℕ → ℕ) (n : ℕ × ℕ) (ns : List (ℕ × ℕ)) (i : ℕ) → has_number (map g ns) i ≡ true → has_number (map g (if b then n ∷ ns else ns)) i ≡ true
in_front true g n ns i h = or_last (nat_eq (g n) i) (has_number (map g ns) i) h
  where
    or_last : (a b : Bool) → b ≡ true → (a || b) ≡ true
    or_last true b h = refl
    or_last false b h = h
in_front false g n ns i h = h

in_true : (a : ℕ → Value) (nodes : List TermNode) (blocks : List FlatBlock) (ss : List SiteTerm) (k : ℕ) (s : SiteTerm) → slice_get ss k ≡ Some s → is_on (value a nodes s.node) ≡ true → has_number (true_numbers a nodes blocks ss) (number_of blocks s) ≡ true
in_true a nodes blocks [] k s e on = absurd cc
in_true a nodes blocks (x ∷ ss) zero s e on =
    let same : x ≡ s = cc in
    ap (λ (z : SiteTerm). has_number (map (number_at blocks) (if is_on (value a nodes z.node) then (z.block, z.call) ∷ true_sites a nodes ss else true_sites a nodes ss)) (number_of blocks s)) same
    ∙ ap (λ b. has_number (map (number_at blocks) (if b then (s.block, s.call) ∷ true_sites a nodes ss else true_sites a nodes ss)) (number_of blocks s)) on
    ∙ ap (λ b. b || has_number (true_numbers a nodes blocks ss) (number_of blocks s)) (same_number (number_of blocks s))
  where
    same_number : (n : ℕ) → nat_eq n n ≡ true
    same_number n = grind (arith, nat_tests)
in_true a nodes blocks (x ∷ ss) (suc k) s e on = in_front (is_on (value a nodes x.node)) (number_at blocks) (x.block, x.call) (true_sites a nodes ss) (number_of blocks s) (in_true a nodes blocks ss k s e on)

-- a site whose bit is true, by its number
pub record TrueAt (a : ℕ → Value) (nodes : List TermNode) (blocks : List FlatBlock) (ss : List SiteTerm) (i : ℕ) : Type 0 where
  pub place : ℕ
  pub site : SiteTerm
  pub site_is : slice_get ss place ≡ Some site
  pub on : is_on (value a nodes site.node) ≡ true
  pub number_is : number_of blocks site ≡ i

or_cases : (a b : Bool) → (a || b) ≡ true → (a ≡ true) ⊎ (b ≡ true)
or_cases true b h = inl refl
or_cases false b h = inr h

later_true : (a : ℕ → Value) (nodes : List TermNode) (blocks : List FlatBlock) (x : SiteTerm) (ss : List SiteTerm) (i : ℕ) → TrueAt a nodes blocks ss i → TrueAt a nodes blocks (x ∷ ss) i
later_true a nodes blocks x ss i h = record { place = suc h.place; site = h.site; site_is = h.site_is; on = h.on; number_is = h.number_is }

from_first : (a : ℕ → Value) (nodes : List TermNode) (blocks : List FlatBlock) (x : SiteTerm) (ss : List SiteTerm) (i : ℕ) (b : Bool) → is_on (value a nodes x.node) ≡ b → (has_number (true_numbers a nodes blocks ss) i ≡ true → TrueAt a nodes blocks ss i) →
    has_number (map (number_at blocks) (if b then (x.block, x.call) ∷ true_sites a nodes ss else true_sites a nodes ss)) i ≡ true → TrueAt a nodes blocks (x ∷ ss) i
from_first a nodes blocks x ss i true on rest h =
    elim (or_cases (nat_eq (number_of blocks x) i) (has_number (true_numbers a nodes blocks ss) i) h) [
      | inl here ↦ record { place = 0; site = x; site_is = refl; on = on; number_is = equal_numbers (number_of blocks x) i here }
      | inr behind ↦ later_true a nodes blocks x ss i (rest behind)
    ]
from_first a nodes blocks x ss i false on rest h = later_true a nodes blocks x ss i (rest h)

from_true : (a : ℕ → Value) (nodes : List TermNode) (blocks : List FlatBlock) (ss : List SiteTerm) (i : ℕ) → has_number (true_numbers a nodes blocks ss) i ≡ true → TrueAt a nodes blocks ss i
from_true a nodes blocks [] i h = absurd cc
from_true a nodes blocks (x ∷ ss) i h = from_first a nodes blocks x ss i (is_on (value a nodes x.node)) refl (from_true a nodes blocks ss i) h

same_bools : (a b : Bool) → (a ≡ true → b ≡ true) → (b ≡ true → a ≡ true) → a ≡ b
same_bools true b h k = sym (h refl)
same_bools false true h k = k refl
same_bools false false h k = refl

-- the site of this number, where it is passed
passed_site : (vs : List Value) (o : Option SiteTerms) → is_passed vs o ≡ true → (x : SiteTerms) × (o ≡ Some x) × (is_on (at vs x.node) ≡ true)
passed_site vs None h = absurd cc
passed_site vs (Some x) h = (x, refl, h)

-- ---- their order

-- the first variables of calls are numbered upwards, from one number up to another
abbrev Up : ℕ → List Laid → ℕ → Type 0
Up low [] high = low ≤ high
Up low (l ∷ ls) high = (low ≤ l.first) × Up (l.first + 1) ls high

up_lower : (low low2 : ℕ) (ls : List Laid) (high : ℕ) → low2 ≤ low → Up low ls high → Up low2 ls high
up_lower low low2 [] high l h = omega (arith, l, h)
up_lower low low2 (x ∷ ls) high l h = (omega (arith, l, h.0), h.1)

up_both : (low : ℕ) (xs ys : List Laid) (mid high : ℕ) → Up low xs mid → Up mid ys high → Up low (xs ++ ys) high
up_both low [] ys mid high h k = up_lower mid low ys high h k
up_both low (x ∷ xs) ys mid high h k = (h.0, up_both (x.first + 1) xs ys mid high h.1 k)

up_ends : (low : ℕ) (ls : List Laid) (high high2 : ℕ) → high ≤ high2 → Up low ls high → Up low ls high2
up_ends low [] high high2 l h = omega (arith, l, h)
up_ends low (x ∷ ls) high high2 l h = (h.0, up_ends (x.first + 1) ls high high2 l h.1)

up_calls : (n c k : ℕ) (items : List Item) → Up k (calls_laid n c k items) (k + length (chosen items))
up_calls n c k [] = omega arith
up_calls n c k (Let v e ∷ items) = up_lower (k + 0) k (calls_laid n c (k + 0) items) (k + length (chosen items)) (omega arith) (up_ends (k + 0) (calls_laid n c (k + 0) items) (k + 0 + length (chosen items)) (k + length (chosen items)) (omega arith) (up_calls n c (k + 0) items))
up_calls n c k (Zero v s ∷ items) = up_lower (k + 0) k (calls_laid n c (k + 0) items) (k + length (chosen items)) (omega arith) (up_ends (k + 0) (calls_laid n c (k + 0) items) (k + 0 + length (chosen items)) (k + length (chosen items)) (omega arith) (up_calls n c (k + 0) items))
up_calls n c k (Need e ∷ items) = up_lower (k + 0) k (calls_laid n c (k + 0) items) (k + length (chosen items)) (omega arith) (up_ends (k + 0) (calls_laid n c (k + 0) items) (k + 0 + length (chosen items)) (k + length (chosen items)) (omega arith) (up_calls n c (k + 0) items))
up_calls n c k (Check p e ∷ items) = up_lower (k + 0) k (calls_laid n c (k + 0) items) (k + length (chosen items)) (omega arith) (up_ends (k + 0) (calls_laid n c (k + 0) items) (k + 0 + length (chosen items)) (k + length (chosen items)) (omega arith) (up_calls n c (k + 0) items))
up_calls n c k (Free v s ∷ items) = up_lower (k + 1) k (calls_laid n c (k + 1) items) (k + suc (length (chosen items))) (omega arith) (up_ends (k + 1) (calls_laid n c (k + 1) items) (k + 1 + length (chosen items)) (k + suc (length (chosen items))) (omega arith) (up_calls n c (k + 1) items))
up_calls n c k (Site p f args before outs changes after ∷ items) =
    let size = length (bool_sort ∷ (outs ++ after)) in
    let rest = calls_laid n (c + 1) (k + size) items in
    let a = length-append (bool_sort ∷ (outs ++ after)) (chosen items) in
    let high : k + size + length (chosen items) ≤ k + length ((bool_sort ∷ (outs ++ after)) ++ chosen items) = omega (arith, a) in
    let low : k + 1 ≤ k + size = omega arith in
    (omega arith, up_ends (k + 1) rest (k + size + length (chosen items)) (k + length ((bool_sort ∷ (outs ++ after)) ++ chosen items)) high (up_lower (k + size) (k + 1) rest (k + size + length (chosen items)) low (up_calls n (c + 1) (k + size) items)))

up_sites : (flat : Limited) (q : FlatProc) (order : List ℕ) (k : ℕ) → Up k (sites_laid flat q order k) (k + length (sorts_of_blocks flat q order))
up_sites flat q [] k = omega arith
up_sites flat q (n ∷ order) k =
    let size = length (sorts_of_block flat q n) in
    let mine = chosen (items_at flat q n) in
    let a = length-append mine (replicate (choices_at q n) bool_sort) in
    let b = length-append (sorts_of_block flat q n) (sorts_of_blocks flat q order) in
    let front : Up k (calls_laid n 0 k (items_at flat q n)) (k + size) = up_ends k (calls_laid n 0 k (items_at flat q n)) (k + length mine) (k + size) (omega (arith, a)) (up_calls n 0 k (items_at flat q n)) in
    let behind : Up (k + size) (sites_laid flat q order (k + size)) (k + length (sorts_of_block flat q n ++ sorts_of_blocks flat q order)) =
    up_ends (k + size) (sites_laid flat q order (k + size)) (k + size + length (sorts_of_blocks flat q order)) (k + length (sorts_of_block flat q n ++ sorts_of_blocks flat q order)) (omega (arith, b)) (up_sites flat q order (k + size)) in
    up_both k (calls_laid n 0 k (items_at flat q n)) (sites_laid flat q order (k + size)) (k + size) (k + length (sorts_of_block flat q n ++ sorts_of_blocks flat q order)) front behind

-- variables with greater numbers stand behind
abbrev Ordered : List TermNode → Type 0
Ordered nodes = (i j n k : ℕ) (s r : Sort) → slice_get nodes i ≡ Some (Variable n s) → slice_get nodes j ≡ Some (Variable k r) → n < k → i < j

failed_var : (nodes : List TermNode) (s : SiteTerm) → SiteThere nodes s → (sort : Sort) × (slice_get nodes s.failed ≡ Some (Variable s.first sort))
failed_var nodes s h =
    let v = site_variable nodes s h 0 s.failed refl in
    let z : s.first + 0 ≡ s.first = omega arith in
    (v.0, v.1 ∙ ap (λ i. Some (Variable i v.0)) z)

abbrev fails_at : List SiteTerms → ℕ → ℕ
fails_at sites i = fails_node (slice_get sites i)

behind_if : (b : Bool) (n : ℕ) (f : ℕ → ℕ) (g : ℕ × ℕ → ℕ) (x : ℕ × ℕ) (xs : List (ℕ × ℕ)) → n < f (g x) → AllBehind n (map f (map g xs)) → AllBehind n (map f (map g (if b then x ∷ xs else xs)))
behind_if true n f g x xs h k = (h, k)
behind_if false n f g x xs h k = k

all_behind : (flat : FlatProgram) (limits : List (List Bool)) (a : ℕ → Value) (nodes : List TermNode) (blocks : List FlatBlock) (sites : List SiteTerms) (ss : List SiteTerm) (low high i n : ℕ) (sort : Sort) → Ordered nodes → AllKnown flat limits nodes blocks sites ss →
    Up low (map site_laid ss) high → slice_get nodes i ≡ Some (Variable n sort) → n < low → AllBehind i (map (fails_at sites) (true_numbers a nodes blocks ss))
all_behind flat limits a nodes blocks sites [] low high i n sort o h u v l = tt
all_behind flat limits a nodes blocks sites (s ∷ ss) low high i n sort o h u v l =
    let k = h 0 s refl in
    let f = failed_var nodes s k.there in
    let here : i < s.failed = o i s.failed n s.first sort f.0 v f.1 (omega (arith, l, u.0)) in
    let at_number : s.failed ≡ fails_at sites (number_of blocks s) = ap fails_node (sym k.stands) in
    behind_if (is_on (value a nodes s.node)) i (fails_at sites) (number_at blocks) (s.block, s.call) (true_sites a nodes ss) (subst (λ j. i < j) at_number here)
    (all_behind flat limits a nodes blocks sites ss (s.first + 1) high i n sort o (rest_known flat limits nodes blocks sites s ss h) u.1 v (omega (arith, l, u.0)))

ascends_if : (b : Bool) (f : ℕ → ℕ) (g : ℕ × ℕ → ℕ) (x : ℕ × ℕ) (xs : List (ℕ × ℕ)) → AllBehind (f (g x)) (map f (map g xs)) → Ascends (map f (map g xs)) → Ascends (map f (map g (if b then x ∷ xs else xs)))
ascends_if true f g x xs h k = (h, k)
ascends_if false f g x xs h k = k

rising_by : (flat : FlatProgram) (limits : List (List Bool)) (a : ℕ → Value) (nodes : List TermNode) (blocks : List FlatBlock) (sites : List SiteTerms) (ss : List SiteTerm) (low high : ℕ) → Ordered nodes → AllKnown flat limits nodes blocks sites ss →
    Up low (map site_laid ss) high → Ascends (map (fails_at sites) (true_numbers a nodes blocks ss))
rising_by flat limits a nodes blocks sites [] low high o h u = tt
rising_by flat limits a nodes blocks sites (s ∷ ss) low high o h u =
    let k = h 0 s refl in
    let f = failed_var nodes s k.there in
    let at_number : s.failed ≡ fails_at sites (number_of blocks s) = ap fails_node (sym k.stands) in
    let rest = rest_known flat limits nodes blocks sites s ss h in
    ascends_if (is_on (value a nodes s.node)) (fails_at sites) (number_at blocks) (s.block, s.call) (true_sites a nodes ss)
    (subst (λ i. AllBehind i (map (fails_at sites) (true_numbers a nodes blocks ss))) at_number (all_behind flat limits a nodes blocks sites ss (s.first + 1) high s.failed s.first f.0 o rest u.1 f.1 (omega arith)))
    (rising_by flat limits a nodes blocks sites ss (s.first + 1) high o rest u.1)

-- ---- of a formula

pub all_known : SiteLaws → (flat : FlatProgram) (limits : List (List Bool)) (proc : ℕ) (t : Template) → IsFlat flat → (h : IsTemplateOf flat limits proc t) → AllKnown flat limits t.nodes h.q.blocks t.sites h.made.instance.sites
all_known laws flat limits proc t is h k s e =
    let fl = limited flat limits in
    let q = h.q in
    let order = h.passive_is.order in
    let ss = h.made.instance.sites in
    let there = (order_is laws.ready flat limits proc t is h).there in
    let sites = h.made.instance_is.sites fl q order h.passive_is.is there in
    let requests = h.made.instance_is.requests fl q order h.passive_is.is there (laws.sorted flat limits proc q is h.proc_is) in
    record {
      stands = ap (λ (x : Template). slice_get x.sites (number_of q.blocks s)) h.made.made ∙ each_stands q.blocks ss (sites_are laws flat limits proc t is h) k s e;
      there = there_at t.nodes ss sites.0 k s e;
      signed = signed_at fl t.nodes ss sites.1 k s e;
      requested = asked_at fl t.nodes ss requests k s e;
    }

numbered_site : SiteLaws → (flat : FlatProgram) (limits : List (List Bool)) (proc : ℕ) (t : Template) → IsFlat flat → (h : IsTemplateOf flat limits proc t) → (i : ℕ) (x : SiteTerms) → slice_get t.sites i ≡ Some x → IsNumbered h.q.blocks h.made.instance.sites i x
numbered_site laws flat limits proc t is h i x e =
    by_number h.q.blocks h.made.instance.sites (sites_are laws flat limits proc t is h) i x (ap (λ (y : Template). slice_get y.sites i) (sym h.made.made) ∙ e)

pub passed_by : SiteLaws → (flat : FlatProgram) (limits : List (List Bool)) (proc : ℕ) (t : Template) (a : ℕ → Value) → IsFlat flat → (h : IsTemplateOf flat limits proc t) → IsTrue (fits a t.nodes) →
    ArePassed flat limits proc t h a (true_numbers a t.nodes h.q.blocks h.made.instance.sites)
passed_by laws flat limits proc t a is h fit =
    let blocks = h.q.blocks in
    let ss = h.made.instance.sites in
    let vs = values a t.nodes in
    let known = all_known laws flat limits proc t is h in
    let c = counted laws flat limits proc t is h in
    let up = up_sites (limited flat limits) h.q h.passive_is.order (first_of_blocks h) in
    let high = first_of_blocks h + length (sorts_of_blocks (limited flat limits) h.q h.passive_is.order) in
    record {
      on = λ i.
          same_bools (is_passed vs (slice_get t.sites i)) (has_number (true_numbers a t.nodes blocks ss) i)
          (λ on.
          let x = passed_site vs (slice_get t.sites i) on in
          let m = numbered_site laws flat limits proc t is h i x.0 x.1 in
          ap (has_number (true_numbers a t.nodes blocks ss)) m.number_is ∙ in_true a t.nodes blocks ss m.place m.site m.site_is (ap (λ (y : SiteTerms). is_on (at vs y.node)) m.terms_are ∙ x.2))
          (λ in_list.
          let m = from_true a t.nodes blocks ss i in_list in
          ap (λ j. is_passed vs (slice_get t.sites j)) (sym m.number_is) ∙ ap (is_passed vs) (known m.place m.site m.site_is).stands ∙ m.on);
      asked_are = asked_by flat limits a t.nodes blocks t.sites ss known;
      given_are = given_by flat limits a t.nodes blocks t.sites ss fit known;
      rising = rising_by flat limits a t.nodes blocks t.sites ss (first_of_blocks h) high (λ i j n k s r one other l. ordered 0 c.total t.nodes c.numbers i j n k s r one other l) known
          (subst (λ (ls : List Laid). Up (first_of_blocks h) ls high) (sym (laid_are laws.ready flat limits proc t is h)) up);
    }

pub true_are : (q : FlatProc) (path : List ℕ) (count : ℕ) (places : List (ℕ × ℕ)) → places ≡ take count (path_places q path) → map (number_at q.blocks) places ≡ take count (sites_passed q.blocks path)
true_are q path count places e = ap (map (number_at q.blocks)) e ∙ take_map (number_at q.blocks) count (path_places q path) ∙ ap (take count) (path_numbers q path)

pub passed_numbered : SiteLaws → PassedAreNumbered
passed_numbered laws = λ flat limits proc t a path count is h fit e.
    subst (ArePassed flat limits proc t h a) (true_are h.q path count (true_sites a t.nodes h.made.instance.sites) e) (passed_by laws flat limits proc t a is h fit)

-- ---- the site that fails

one_behind : (b : Bool) (n : ℕ × ℕ) (ns : List (ℕ × ℕ)) → length ns ≤ length (if b then n ∷ ns else ns)
one_behind true n ns = omega arith
one_behind false n ns = omega arith

some_fail : (a : ℕ → Value) (nodes : List TermNode) (ss : List SiteTerm) (k : ℕ) (s : SiteTerm) → slice_get ss k ≡ Some s → is_on (value a nodes s.fails) ≡ true → 1 ≤ length (failed_sites a nodes ss)
some_fail a nodes [] k s e on = absurd cc
some_fail a nodes (x ∷ ss) zero s e on =
    let same : x ≡ s = cc in
    let bit : is_on (value a nodes x.fails) ≡ true = ap (λ (z : SiteTerm). is_on (value a nodes z.fails)) same ∙ on in
    let count : length (failed_sites a nodes (x ∷ ss)) ≡ suc (length (failed_sites a nodes ss)) = ap (λ b. length (if b then (x.block, x.call) ∷ failed_sites a nodes ss else failed_sites a nodes ss)) bit in
    omega (arith, count)
some_fail a nodes (x ∷ ss) (suc k) s e on =
    let h = some_fail a nodes ss k s e on in
    let l = one_behind (is_on (value a nodes x.fails)) (x.block, x.call) (failed_sites a nodes ss) in
    omega (arith, h, l)

first_fails : (a : ℕ → Value) (nodes : List TermNode) (x s r : SiteTerm) (ss : List SiteTerm) (k : ℕ) → length (failed_sites a nodes (x ∷ ss)) ≤ 1 → x ≡ s → is_on (value a nodes s.fails) ≡ true → slice_get ss k ≡ Some r → is_on (value a nodes r.fails) ≡ true → ⊥
first_fails a nodes x s r ss k few same one e other =
    let bit : is_on (value a nodes x.fails) ≡ true = ap (λ (z : SiteTerm). is_on (value a nodes z.fails)) same ∙ one in
    let count : length (failed_sites a nodes (x ∷ ss)) ≡ suc (length (failed_sites a nodes ss)) = ap (λ b. length (if b then (x.block, x.call) ∷ failed_sites a nodes ss else failed_sites a nodes ss)) bit in
    let h = some_fail a nodes ss k r e other in
    omega (arith, few, count, h)

fail_once : (a : ℕ → Value) (nodes : List TermNode) (ss : List SiteTerm) (i j : ℕ) (s r : SiteTerm) → length (failed_sites a nodes ss) ≤ 1 → slice_get ss i ≡ Some s → is_on (value a nodes s.fails) ≡ true → slice_get ss j ≡ Some r → is_on (value a nodes r.fails) ≡ true → s ≡ r
fail_once a nodes [] i j s r few e one f other = absurd cc
fail_once a nodes (x ∷ ss) zero zero s r few e one f other = cc
fail_once a nodes (x ∷ ss) zero (suc j) s r few e one f other = let same : x ≡ s = cc in absurd (first_fails a nodes x s r ss j few same one f other)
fail_once a nodes (x ∷ ss) (suc i) zero s r few e one f other = let same : x ≡ r = cc in absurd (first_fails a nodes x r s ss i few same other e one)
fail_once a nodes (x ∷ ss) (suc i) (suc j) s r few e one f other =
    let l = one_behind (is_on (value a nodes x.fails)) (x.block, x.call) (failed_sites a nodes ss) in
    fail_once a nodes ss i j s r (omega (arith, few, l)) e one f other

one_at_most : (b : Bool) → one_if b ≤ 1
one_at_most true = omega arith
one_at_most false = omega arith

-- how many sites fail
pub fail_count : PassiveReady → (flat : FlatProgram) (limits : List (List Bool)) (proc : ℕ) (t : Template) (a : ℕ → Value) → IsFlat flat → (h : IsTemplateOf flat limits proc t) → IsTrue (fits a t.nodes) →
    length (failed_sites a t.nodes h.made.instance.sites) ≤ one_if (is_on (value a t.nodes t.fails))
fail_count ready flat limits proc t a is h fit =
    let there = (order_is ready flat limits proc t is h).there in
    let single = h.made.instance_is.single (limited flat limits) h.q h.passive_is.order h.passive_is.is there in
    let same : one_if (is_on (value a t.nodes t.fails)) ≡ one_if (is_on (value a t.nodes h.made.instance.fails)) = ap (λ (x : Template). one_if (is_on (value a t.nodes x.fails))) h.made.made in
    let count = single.0 a fit in
    omega (arith, same, count)

-- a site that is passed and fails
fail_there : SiteLaws → (flat : FlatProgram) (limits : List (List Bool)) (proc : ℕ) (t : Template) (a : ℕ → Value) (i : ℕ) → IsFlat flat → (h : IsTemplateOf flat limits proc t) → IsTrue (fits a t.nodes) →
    is_passed (values a t.nodes) (slice_get t.sites i) ≡ true → does_fail (values a t.nodes) (slice_get t.sites i) ≡ true →
    (k : ℕ) × (s : SiteTerm) × (slice_get h.made.instance.sites k ≡ Some s) × (is_on (value a t.nodes s.fails) ≡ true) × (i ≡ number_of h.q.blocks s)
fail_there laws flat limits proc t a i is h fit on fails =
    let vs = values a t.nodes in
    let x = passed_site vs (slice_get t.sites i) on in
    let m = numbered_site laws flat limits proc t is h i x.0 x.1 in
    let s = m.site in
    let known = all_known laws flat limits proc t is h m.place s m.site_is in
    let bit : is_on (at vs x.0.fails) ≡ true = ap (does_fail vs) (sym x.1) ∙ fails in
    let passed : is_on (value a t.nodes s.node) ≡ true = ap (λ (y : SiteTerms). is_on (at vs y.node)) m.terms_are ∙ x.2 in
    (m.place, s, m.site_is, fails_by a t.nodes s known.there fit passed ∙ ap (λ (y : SiteTerms). is_on (at vs y.fails)) m.terms_are ∙ bit, m.number_is)

pub one_fails : SiteLaws → OneSiteFails
one_fails laws = λ flat limits proc t a i j is h fit on fails on2 fails2.
    let one = fail_there laws flat limits proc t a i is h fit on fails in
    let other = fail_there laws flat limits proc t a j is h fit on2 fails2 in
    let l = fail_count laws.ready flat limits proc t a is h fit in
    let b = one_at_most (is_on (value a t.nodes t.fails)) in
    let same = fail_once a t.nodes h.made.instance.sites one.0 other.0 one.1 other.1 (omega (arith, l, b)) one.2 one.3 other.2 other.3 in
    one.4 ∙ ap (number_of h.q.blocks) same ∙ sym other.4

-- where none may fail none does
not_true : (b : Bool) → (b ≡ true → ⊥) → b ≡ false
not_true true h = absurd (h refl)
not_true false h = refl

pub none_fails : SiteLaws → BitsAreNeverBoth → NoneFailsAtEnds
none_fails laws never = λ flat limits proc t a i is h fit ends on.
    not_true (does_fail (values a t.nodes) (slice_get t.sites i)) (λ fails.
    let f = fail_there laws flat limits proc t a i is h fit on fails in
    let one = some_fail a t.nodes h.made.instance.sites f.0 f.1 f.2 f.3 in
    let l = fail_count laws.ready flat limits proc t a is h fit in
    let none = ap one_if (never flat limits proc t a is h fit ends) in
    omega (arith, one, l, none))
