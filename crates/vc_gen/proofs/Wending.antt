-- The blocks become terms, one after the other.
use Rattle.flat_prog.specs.Sites.{numbers_from}
use Rattle.vc_gen.proofs.Numbers.{numbers_then}
use Rattle.vc_gen.proofs.Traces.{no_places}
use Rattle.std.proofs.Common.{◌≡◌, ℕ, zero, suc, ◌+◌, ◌<◌, ◌≤◌, Bool, true, false, ◌||◌, List, [], ◌∷◌, ◌++◌, map, length, take, arith, sym, ◌∙◌, ap, refl, subst, inr, append-nil, append_assoc, length-append}
use Rattle.std.specs.Prelude.{Option, None, Some, slice_get, slice_index_or, if◌then◌else◌}
use Rattle.std.proofs.lemmas.List.{map-append}
use Rattle.hy_val.specs.Values.{is_on}
use Rattle.hy_val.specs.declared.sort.Sort.{Sort}
use Rattle.hy_val.specs.declared.value.Value.{Value}
use Rattle.hy_val.specs.declared.expr.Env.{Env}
use Rattle.hy_term.specs.Meaning.{value}
use Rattle.hy_term.specs.Variables.{reads}
use Rattle.hy_term.specs.declared.node.TermNode.{TermNode}
use Rattle.flat_prog.specs.declared.block.FlatBlock.{FlatBlock}
use Rattle.flat_prog.specs.declared.proc.FlatProc.{FlatProc}
use Rattle.passive_form.specs.Limited.{Limited}
use Rattle.flat_prog.specs.declared.block.FlatCmd.{FlatCmd}
use Rattle.flat_prog.specs.declared.block.FlatCmd.TheVariants.{Assign, Havoc, Assume, Assert, Call}
use Rattle.passive_form.specs.Local.{State, alone, sorted_as, pass, cmds_of}
use Rattle.vc_gen.specs.Passages.{Passage, passage_at, behind, passages, passages_seen, all_passages, places_at, places_seen, all_places}
use Rattle.vc_gen.specs.Fold.{Edge, Given, seen_at, seen, reached, entered, fold, live_edges}
use Rattle.vc_gen.specs.Breaking.{breaks_seen, any_breaks}
use Rattle.vc_gen.specs.Alike.{Alike}
use Rattle.vc_gen.proofs.Alikes.{alike_same, alike_reached, alike_entered}
use Rattle.vc_gen.proofs.Marks.{live_push, alike_out, passages_push, places_push}
use Rattle.vc_gen.proofs.Breaches.{seen_push, any_push, alike_breaks}
use Rattle.passive_form.specs.declared.PassiveBlock.{PassiveBlock}
use Rattle.flat_prog.specs.Program.{variables_of}
use Rattle.passive_form.specs.Making.{block_or, passive_block, passive_blocks}
use Rattle.passive_form.specs.Laws.{cmds_there, AllThere}
use Rattle.vc_gen.specs.declared.parts.Draft.{Draft}
use Rattle.vc_gen.specs.declared.parts.Wait.{Wait}
use Rattle.vc_gen.specs.declared.parts.EdgeTerm.{EdgeTerm}
use Rattle.vc_gen.specs.Items.{SiteMeans}
use Rattle.vc_gen.specs.Emit.{site_value}
use Rattle.vc_gen.specs.Exact.{true_edges, SameCalls, true_sites}
use Rattle.vc_gen.specs.Standing.{variables_in}
use Rattle.vc_gen.specs.Inputs.{sorts_of_block, sorts_of_blocks, given_at, givens_at}
use Rattle.vc_gen.specs.Instance.{all_at, edges_at}
use Rattle.vc_gen.specs.Fitting.{BlockFits, AllFit, block_sorts, blocks_sorts}
use Rattle.vc_gen.specs.Flowing.{BlockReady, BlockDone, WentSays, FlowReady, Went, WentAll}
use Rattle.vc_gen.proofs.Looking.{take_at, take_all}
use Rattle.vc_gen.proofs.Growth.{later_same, later_then}
use Rattle.vc_gen.proofs.Joining.{sites_later, sites_stay, sites_there_append, fits_before, reads_append, length_reads, sorts_left, sorts_right, fails_stay, fails_there_append}
use Rattle.vc_gen.proofs.Exacting.{marks_later, marks_stay, marks_there, marks_append, same_both, placed_append, placed_later}
use Rattle.vc_gen.proofs.Blockwise.{alike_next, givens_push}
use Rattle.vc_gen.specs.Laid.{blocks_laid}
use Rattle.vc_gen.proofs.Placed.{laid_next}
use Rattle.vc_gen.specs.Singly.{blocks_checked, one_if, count_breaks}
use Rattle.vc_gen.proofs.Checked.{checked_next}
use Rattle.vc_gen.proofs.Counting.{counted_later, counted_both}
use Rattle.vc_gen.proofs.Singling.{count_push}
use Rattle.vc_gen.proofs.Asking.{asked_later, asked_both}
use Rattle.vc_gen.proofs.Signing.{signed_later, signed_both}
use Rattle.vc_gen.specs.Taken.{true_values, values_on, values_seen, all_values}
use Rattle.vc_gen.proofs.Takes.{takes_push}
use Rattle.vc_gen.proofs.Taking.{values_later, values_stay, values_there, values_both}

pub fit_at : (csorts gsorts lsorts : List Sort) (bs : List PassiveBlock) (i : ℕ) (x : PassiveBlock) → AllFit csorts gsorts lsorts bs → i < length bs → x ≡ slice_index_or bs i x → BlockFits csorts gsorts lsorts x
fit_at csorts gsorts lsorts bs i x h l is = subst (λ (y : PassiveBlock). BlockFits csorts gsorts lsorts y) (sym is) (go bs i x h l)
  where
    go : (bs : List PassiveBlock) (i : ℕ) (d : PassiveBlock) → AllFit csorts gsorts lsorts bs → i < length bs → BlockFits csorts gsorts lsorts (slice_index_or bs i d)
    go [] i d h l = absurd (omega (arith, l))
    go (b ∷ bs) zero d (h, hs) l = h
    go (b ∷ bs) (suc i) d (h, hs) l = go bs i d hs (omega (arith, l))

pub block_ready : (cs : List ℕ) (spare : Wait) (old mid : List TermNode) (d m : Draft) (edges edges1 : List EdgeTerm) (first waits : List Wait) (bs : List PassiveBlock) (i : ℕ) (x : PassiveBlock) → FlowReady old cs spare d first bs → Went cs spare old d edges first bs i mid m edges1 waits →
    i < length bs → x ≡ slice_index_or bs i x → BlockReady mid cs spare m waits x
block_ready cs spare old mid d m edges edges1 first waits bs i x r h l is = record {
  csorts = r.csorts;
  gsorts = r.gsorts;
  lsorts = r.lsorts;
  stage = h.stage r.csorts r.gsorts r.lsorts r.stage r.fit;
  fit = fit_at r.csorts r.gsorts r.lsorts bs i x r.fit l is;
}

pub went_start : (cs : List ℕ) (spare : Wait) (old : List TermNode) (d : Draft) (edges : List EdgeTerm) (first : List Wait) (bs : List PassiveBlock) → FlowReady old cs spare d first bs → Went cs spare old d edges first bs 0 old d edges first
went_start cs spare old d edges first bs r = record {
  later = later_same old r.stage.sound;
  marks = [];
  marks_are = sym (append-nil edges);
  marks_there = tt;
  sites = [];
  sites_are = sym (append-nil d.sites);
  sites_there = tt;
  laid = refl;
  asserts = [];
  asserts_are = sym (append-nil d.asserts);
  asserts_there = tt;
  checked = refl;
  vals = [];
  vals_are = sym (append-nil d.values);
  vals_there = tt;
  next = omega arith;
  numbers = sym (append-nil (variables_in old));
  fit = λ a f h. f;
  stage = λ c g l h k. h;
  says = λ flat q order is there h k. record {
    alike = λ a dead f. alike_same (edges_at a old (all_at a old cs) first);
    fails = λ a dead f. or_none (is_on (value a old d.fails));
    edges = λ a dead f. refl;
    calls = λ a dead f. tt;
    places = λ a dead f. refl;
    values = λ a dead f. refl;
    single = λ a dead f. refl;
    signed = tt;
    asked = λ sorted. tt;
  };
}
  where
    or_none : (b : Bool) → b ≡ (b || false)
    or_none true = refl
    or_none false = refl

blocks_push : (xs : List PassiveBlock) (b : PassiveBlock) → blocks_sorts (xs ++ b ∷ []) ≡ blocks_sorts xs ++ block_sorts b
blocks_push [] b = append-nil (block_sorts b)
blocks_push (x ∷ xs) b = ap (λ r. block_sorts x ++ r) (blocks_push xs b) ∙ sym (append_assoc (block_sorts x) (blocks_sorts xs) (block_sorts b))

-- the blocks of an order
taken_sorts : (flat : Limited) (q : FlatProc) (order : List ℕ) (i : ℕ) → blocks_sorts (take i (passive_blocks flat q order)) ≡ sorts_of_blocks flat q (take i order)
taken_sorts flat q [] zero = refl
taken_sorts flat q [] (suc i) = refl
taken_sorts flat q (n ∷ ns) zero = refl
taken_sorts flat q (n ∷ ns) (suc i) = ap (λ r. sorts_of_block flat q n ++ r) (taken_sorts flat q ns i)

record AtPlace (flat : Limited) (q : FlatProc) (order : List ℕ) (i : ℕ) (x : PassiveBlock) : Type 0 where
  pub n : ℕ
  pub b : FlatBlock
  pub at : slice_get q.blocks n ≡ Some b
  pub there : cmds_there flat q b.cmds ≡ true
  pub is : x ≡ passive_block flat q n b
  pub order_is : take (i + 1) order ≡ take i order ++ n ∷ []

at_place : (flat : Limited) (q : FlatProc) (order : List ℕ) (i : ℕ) (d x : PassiveBlock) → AllThere flat q order → i < length (passive_blocks flat q order) → x ≡ slice_index_or (passive_blocks flat q order) i d → AtPlace flat q order i x
at_place flat q [] i d x t l is = absurd (omega (arith, l))
at_place flat q (n ∷ ns) zero d x ((b, at, there), ts) l is =
    record { n = n; b = b; at = at; there = there; is = is ∙ ap (λ (o : Option FlatBlock). passive_block flat q n (block_or o)) at; order_is = refl }
at_place flat q (n ∷ ns) (suc i) d x (t, ts) l is =
    let r = at_place flat q ns i d x ts (omega (arith, l)) is in
    let e : suc i + 1 ≡ suc (i + 1) = omega arith in
    record { n = r.n; b = r.b; at = r.at; there = r.there; is = r.is; order_is = ap (λ j. take j (n ∷ ns)) e ∙ ap (λ r. n ∷ r) r.order_is }

or_assoc : (a b c : Bool) → ((a || b) || c) ≡ (a || (b || c))
or_assoc true b c = refl
or_assoc false b c = refl

-- where the block isn't reached, the variables don't matter
abbrev SameOff : List Passage → List Passage → Type 0
SameOff [] [] = Unit {0}
SameOff [] (r ∷ rs) = ⊥
SameOff (p ∷ ps) [] = ⊥
SameOff (p ∷ ps) (r ∷ rs) = ((p.on ≡ false) × (r.on ≡ false)) × SameOff ps rs

off_append : (ps rs ps' rs' : List Passage) → SameOff ps rs → SameOff ps' rs' → SameOff (ps ++ ps') (rs ++ rs')
off_append [] [] ps' rs' h k = k
off_append [] (r ∷ rs) ps' rs' h k = absurd h
off_append (p ∷ ps) [] ps' rs' h k = absurd h
off_append (p ∷ ps) (r ∷ rs) ps' rs' (h, hs) k = (h, off_append ps rs ps' rs' hs k)

off_here : (c : FlatCmd) (s t : State) → SameOff (passage_at false c s) (passage_at false c t)
off_here (Assign pairs) s t = tt
off_here (Havoc xs) s t = tt
off_here (Assume e) s t = tt
off_here (Assert p n e) s t = tt
off_here (Call p args outs) s t = ((refl, refl), tt)

off_behind : (f : Bool → State → List Passage) → ((s t : State) → SameOff (f false s) (f false t)) → (s t : State) (o u : Option State) → SameOff (behind f false s o) (behind f false t u)
off_behind f h s t None None = h s t
off_behind f h s t None (Some m) = h s m
off_behind f h s t (Some m) None = h m t
off_behind f h s t (Some m) (Some k) = h m k

offs : (flat : Limited) (q : FlatProc) (cmds : List FlatCmd) (s t : State) → SameOff (passages flat q cmds false s) (passages flat q cmds false t)
offs flat q [] s t = tt
offs flat q (c ∷ cs) s t =
    off_append (passage_at false c s) (passage_at false c t) (behind (passages flat q cs) false s (pass flat q c s)) (behind (passages flat q cs) false t (pass flat q c t)) (off_here c s t)
    (off_behind (passages flat q cs) (offs flat q cs) s t (pass flat q c s) (pass flat q c t))

off_same : (ms : List SiteMeans) (ps rs : List Passage) → SameOff ps rs → SameCalls ms ps → SameCalls ms rs
off_same [] [] [] h k = tt
off_same [] [] (r ∷ rs) h k = absurd h
off_same [] (p ∷ ps) rs h k = absurd k
off_same (m ∷ ms) [] rs h k = absurd k
off_same (m ∷ ms) (p ∷ ps) [] h k = absurd h
off_same (m ∷ ms) (p ∷ ps) (r ∷ rs) ((x, y), hs) (k, ks) =
    (record { on_is = k.on_is ∙ x ∙ sym y; call_is = λ z. let w : false ≡ true = sym y ∙ z in cc; result_is = λ z. let w : false ≡ true = sym y ∙ z in cc; off = λ z. k.off x }, off_same ms ps rs hs ks)

off_any : (flat : Limited) (q : FlatProc) (ms : List SiteMeans) (cmds : List FlatCmd) (s t : State) → SameCalls ms (passages flat q cmds false s) → SameCalls ms (passages flat q cmds false t)
off_any flat q ms cmds s t h = off_same ms (passages flat q cmds false s) (passages flat q cmds false t) (offs flat q cmds s t) h

alike_calls : (flat : Limited) (q : FlatProc) (d : Env) (g : Given) (es fs : List Edge) (ms : List SiteMeans) → Alike es fs → SameCalls ms (passages_seen flat q (seen_at d g es)) → SameCalls ms (passages_seen flat q (seen_at d g fs))
alike_calls flat q d g es fs ms h k =
    by (reached g.number fs) (λ e. alike_entered g.number d d es fs h (inr e))
    (subst (λ (r : Bool). SameCalls ms (passages flat q (cmds_of (slice_get q.blocks g.number)) r (alone (entered g.number d es) g.values g.results []))) (alike_reached g.number es fs h) k)
  where
    by : (r : Bool) → (r ≡ true → entered g.number d es ≡ entered g.number d fs) → SameCalls ms (passages flat q (cmds_of (slice_get q.blocks g.number)) r (alone (entered g.number d es) g.values g.results [])) →
        SameCalls ms (passages flat q (cmds_of (slice_get q.blocks g.number)) r (alone (entered g.number d fs) g.values g.results []))
    by true e x = subst (λ (v : Env). SameCalls ms (passages flat q (cmds_of (slice_get q.blocks g.number)) true (alone v g.values g.results []))) (e refl) x
    by false e x = off_any flat q ms (cmds_of (slice_get q.blocks g.number)) (alone (entered g.number d es) g.values g.results []) (alone (entered g.number d fs) g.values g.results []) x

alike_places : (flat : Limited) (q : FlatProc) (d : Env) (g : Given) (es fs : List Edge) → Alike es fs → places_seen flat q (seen_at d g es) ≡ places_seen flat q (seen_at d g fs)
alike_places flat q d g es fs h =
    ap (λ r. places_at g.number 0 (passages flat q (cmds_of (slice_get q.blocks g.number)) r (alone (entered g.number d es) g.values g.results []))) (alike_reached g.number es fs h)
    ∙ by (reached g.number fs) (λ k. alike_entered g.number d d es fs h (inr k))
  where
    by : (r : Bool) → (r ≡ true → entered g.number d es ≡ entered g.number d fs) →
        places_at g.number 0 (passages flat q (cmds_of (slice_get q.blocks g.number)) r (alone (entered g.number d es) g.values g.results []))
        ≡ places_at g.number 0 (passages flat q (cmds_of (slice_get q.blocks g.number)) r (alone (entered g.number d fs) g.values g.results []))
    by true e = ap (λ (v : Env). places_at g.number 0 (passages flat q (cmds_of (slice_get q.blocks g.number)) true (alone v g.values g.results []))) (e refl)
    by false e = no_places flat q g.number 0 (cmds_of (slice_get q.blocks g.number)) (alone (entered g.number d es) g.values g.results []) ∙ sym (no_places flat q g.number 0 (cmds_of (slice_get q.blocks g.number)) (alone (entered g.number d fs) g.values g.results []))

alike_values : (flat : Limited) (q : FlatProc) (d : Env) (g : Given) (es fs : List Edge) → Alike es fs → values_seen flat q (seen_at d g es) ≡ values_seen flat q (seen_at d g fs)
alike_values flat q d g es fs h =
    ap (λ r. if r then values_on flat q (cmds_of (slice_get q.blocks g.number)) (alone (entered g.number d es) g.values g.results []) else []) (alike_reached g.number es fs h)
    ∙ by (reached g.number fs) (λ k. alike_entered g.number d d es fs h (inr k))
  where
    by : (r : Bool) → (r ≡ true → entered g.number d es ≡ entered g.number d fs) →
        (if r then values_on flat q (cmds_of (slice_get q.blocks g.number)) (alone (entered g.number d es) g.values g.results []) else [])
        ≡ (if r then values_on flat q (cmds_of (slice_get q.blocks g.number)) (alone (entered g.number d fs) g.values g.results []) else [])
    by true e = ap (λ (v : Env). values_on flat q (cmds_of (slice_get q.blocks g.number)) (alone v g.values g.results [])) (e refl)
    by false e = refl

pub went_next : (cs : List ℕ) (spare : Wait) (old mid new : List TermNode) (d m e : Draft) (edges edges1 edges2 : List EdgeTerm) (first waits left : List Wait) (bs : List PassiveBlock) (i : ℕ) (x : PassiveBlock) → i < length bs → x ≡ slice_index_or bs i x →
    Went cs spare old d edges first bs i mid m edges1 waits → BlockDone cs spare mid m waits edges1 x new e edges2 left → Went cs spare old d edges first bs (i + 1) new e edges2 left
went_next cs spare old mid new d m e edges edges1 edges2 first waits left bs i x l is h k =
    let taken : take (i + 1) bs ≡ take i bs ++ x ∷ [] = take_at bs x i l ∙ ap (λ y. take i bs ++ y ∷ []) (sym is) in
    let sorts_are : blocks_sorts (take (i + 1) bs) ≡ blocks_sorts (take i bs) ++ block_sorts x = ap blocks_sorts taken ∙ blocks_push (take i bs) x in
    let n1 = length (blocks_sorts (take i bs)) in
    let n2 = length (block_sorts x) in
    let count : length (blocks_sorts (take (i + 1) bs)) ≡ n1 + n2 = ap length sorts_are ∙ length-append (blocks_sorts (take i bs)) (block_sorts x) in
    record {
      later = later_then old mid new h.later k.later;
      marks = h.marks ++ k.marks;
      marks_are = k.marks_are ∙ ap (λ r. r ++ k.marks) h.marks_are ∙ append_assoc edges h.marks k.marks;
      marks_there = marks_there new h.marks k.marks (marks_stay mid new h.marks k.later h.marks_there) k.marks_there;
      sites = h.sites ++ k.sites;
      sites_are = k.sites_are ∙ ap (λ r. r ++ k.sites) h.sites_are ∙ append_assoc d.sites h.sites k.sites;
      sites_there = sites_there_append new h.sites k.sites (sites_stay mid new h.sites k.later h.sites_there) k.sites_there;
      laid = laid_next h.sites k.sites (take i bs) x d.next m.next h.laid h.next k.laid ∙ sym (ap (blocks_laid d.next) taken);
      asserts = h.asserts ++ k.asserts;
      asserts_are = k.asserts_are ∙ ap (λ r. r ++ k.asserts) h.asserts_are ∙ append_assoc d.asserts h.asserts k.asserts;
      asserts_there = fails_there_append new h.asserts k.asserts (fails_stay mid new h.asserts k.later h.asserts_there) k.asserts_there;
      vals = h.vals ++ k.vals;
      vals_are = k.vals_are ∙ ap (λ r. r ++ k.vals) h.vals_are ∙ append_assoc d.values h.vals k.vals;
      vals_there = values_there new h.vals k.vals (values_stay mid new h.vals k.later h.vals_there) k.vals_there;
      checked = checked_next h.asserts k.asserts (take i bs) x h.checked k.checked ∙ sym (ap blocks_checked taken);
      next = omega (arith, h.next, k.next, count);
      numbers = numbers_then (variables_in old) (variables_in mid) (variables_in new) d.next m.next n1 n2 (length (blocks_sorts (take (i + 1) bs))) h.numbers h.next k.numbers count;
      fit = λ a f s.
          let split : reads a d.next (length (blocks_sorts (take (i + 1) bs))) ≡ reads a d.next n1 ++ reads a m.next n2 =
          ap (reads a d.next) count ∙ reads_append a d.next n1 n2 ∙ ap (λ j. reads a d.next n1 ++ reads a j n2) (sym h.next) in
          let s2 : sorted_as (blocks_sorts (take i bs) ++ block_sorts x) (reads a d.next n1 ++ reads a m.next n2) ≡ true =
          sym (ap (λ ss. sorted_as ss (reads a d.next (length (blocks_sorts (take (i + 1) bs))))) sorts_are ∙ ap (sorted_as (blocks_sorts (take i bs) ++ block_sorts x)) split) ∙ s in
          let len = length_reads a d.next n1 in
          k.fit a (h.fit a f (sorts_left (blocks_sorts (take i bs)) (block_sorts x) (reads a d.next n1) (reads a m.next n2) len s2))
          (sorts_right (blocks_sorts (take i bs)) (block_sorts x) (reads a d.next n1) (reads a m.next n2) len s2);
      stage = λ c g s st fit. k.stage c g s (h.stage c g s st fit) (fit_at c g s bs i x fit l is);
      says = λ flat q order are there st fit.
          let p = at_place flat q order i x x there (subst (λ (ys : List PassiveBlock). i < length ys) are l) (is ∙ ap (λ ys. slice_index_or ys i x) are) in
          let w = h.says flat q order are there st fit in
          let b = k.says flat q p.n p.b p.at p.there p.is (h.stage flat.consts flat.globals (variables_of q) st fit) in
          let place : d.next + length (sorts_of_blocks flat q (take i order)) ≡ m.next =
          sym (h.next ∙ ap (λ ss. d.next + length ss) (ap (λ ys. blocks_sorts (take i ys)) are ∙ taken_sorts flat q order i)) in
          let gs = λ (a : ℕ → Value). givens_at flat q a d.next (take i order) in
          let g = λ (a : ℕ → Value). given_at flat q a m.next p.n in
          let start = λ (a : ℕ → Value). edges_at a old (all_at a old cs) first in
          let es = λ (a : ℕ → Value). edges_at a mid (all_at a mid cs) waits in
          let row : (a : ℕ → Value) → givens_at flat q a d.next (take (i + 1) order) ≡ gs a ++ g a ∷ [] = λ a.
          ap (givens_at flat q a d.next) p.order_is ∙ givens_push flat q a d.next (take i order) p.n ∙ ap (λ j. gs a ++ given_at flat q a j p.n ∷ []) place in
          record {
            alike = λ a dead f.
                subst (λ (x : List Given). Alike (edges_at a new (all_at a new cs) left) (fold flat q dead x (start a))) (sym (row a))
                (alike_next flat q dead (gs a) (g a) (start a) (es a) (edges_at a new (all_at a new cs) left) (w.alike a dead (fits_before a mid new k.later f)) (b.alike a dead f));
            fails = λ a dead f.
                let fs = fold flat q dead (gs a) (start a) in
                b.fails a dead f
                ∙ ap (λ y. y || breaks_seen flat q (seen_at dead (g a) (es a))) (w.fails a dead (fits_before a mid new k.later f))
                ∙ or_assoc (is_on (value a old d.fails)) (any_breaks flat q (seen flat q dead (gs a) (start a))) (breaks_seen flat q (seen_at dead (g a) (es a)))
                ∙ ap (λ y. is_on (value a old d.fails) || (any_breaks flat q (seen flat q dead (gs a) (start a)) || y)) (alike_breaks flat q dead (g a) (es a) fs (w.alike a dead (fits_before a mid new k.later f)))
                ∙ ap (λ y. is_on (value a old d.fails) || y)
                (sym (ap (λ (x : List Given). any_breaks flat q (seen flat q dead x (start a))) (row a) ∙ ap (any_breaks flat q) (seen_push flat q dead (gs a) (g a) (start a)) ∙ any_push flat q (seen flat q dead (gs a) (start a)) (seen_at dead (g a) fs)));
            edges = λ a dead f.
                let fs = fold flat q dead (gs a) (start a) in
                let f1 = fits_before a mid new k.later f in
                marks_append a new h.marks k.marks
                ∙ ap (λ r. r ++ true_edges a new k.marks) (marks_later mid new a h.marks k.later h.marks_there ∙ w.edges a dead f1)
                ∙ ap (λ r. live_edges flat q dead (gs a) (start a) ++ r) (b.edges a dead f ∙ alike_out flat q dead (g a) (es a) fs (w.alike a dead f1))
                ∙ sym (ap (λ (x : List Given). live_edges flat q dead x (start a)) (row a) ∙ live_push flat q dead (gs a) (g a) (start a));
            places = λ a dead f.
                let fs = fold flat q dead (gs a) (start a) in
                let f1 = fits_before a mid new k.later f in
                let sn = seen flat q dead (gs a) (start a) in
                placed_append a new h.sites k.sites
                ∙ ap (λ r. r ++ true_sites a new k.sites) (placed_later mid new a h.sites k.later h.sites_there ∙ w.places a dead f1)
                ∙ ap (λ r. all_places flat q sn ++ r) (b.places a dead f ∙ alike_places flat q dead (g a) (es a) fs (w.alike a dead f1))
                ∙ sym (ap (λ (x : List Given). all_places flat q (seen flat q dead x (start a))) (row a) ∙ ap (all_places flat q) (seen_push flat q dead (gs a) (g a) (start a)) ∙ places_push flat q sn (seen_at dead (g a) fs));
            values = λ a dead f.
                let fs = fold flat q dead (gs a) (start a) in
                let f1 = fits_before a mid new k.later f in
                let sn = seen flat q dead (gs a) (start a) in
                values_both a new h.vals k.vals
                ∙ ap (λ r. r ++ true_values a new k.vals) (values_later mid new a h.vals k.later h.vals_there ∙ w.values a dead f1)
                ∙ ap (λ r. all_values flat q sn ++ r) (b.values a dead f ∙ alike_values flat q dead (g a) (es a) fs (w.alike a dead f1))
                ∙ sym (ap (λ (x : List Given). all_values flat q (seen flat q dead x (start a))) (row a) ∙ ap (all_values flat q) (seen_push flat q dead (gs a) (g a) (start a)) ∙ takes_push flat q sn (seen_at dead (g a) fs));
            asked = λ sorted. asked_both flat new h.sites k.sites (asked_later flat mid new h.sites k.later (w.asked sorted)) (b.asked sorted);
            single = λ a dead f.
                let fs = fold flat q dead (gs a) (start a) in
                let f1 = fits_before a mid new k.later f in
                let sn = seen flat q dead (gs a) (start a) in
                let past = counted_later mid new a h.asserts h.sites k.later h.asserts_there h.sites_there ∙ w.single a dead f1 in
                let last = b.single a dead f ∙ ap one_if (alike_breaks flat q dead (g a) (es a) fs (w.alike a dead f1)) in
                counted_both a new h.asserts k.asserts h.sites k.sites (count_breaks flat q sn) (one_if (breaks_seen flat q (seen_at dead (g a) fs))) past last
                ∙ sym (ap (λ (x : List Given). count_breaks flat q (seen flat q dead x (start a))) (row a) ∙ ap (count_breaks flat q) (seen_push flat q dead (gs a) (g a) (start a)) ∙ count_push flat q sn (seen_at dead (g a) fs));
            signed = signed_both flat new h.sites k.sites (signed_later flat mid new h.sites k.later w.signed) b.signed;
            calls = λ a dead f.
                let fs = fold flat q dead (gs a) (start a) in
                let f1 = fits_before a mid new k.later f in
                let sn = seen flat q dead (gs a) (start a) in
                let here : SameCalls (map (site_value a new) k.sites) (passages_seen flat q (seen_at dead (g a) fs)) =
                alike_calls flat q dead (g a) (es a) fs (map (site_value a new) k.sites) (w.alike a dead f1) (b.calls a dead f) in
                let past : SameCalls (map (site_value a new) h.sites) (all_passages flat q sn) =
                subst (λ (ms : List SiteMeans). SameCalls ms (all_passages flat q sn)) (sym (sites_later mid new a h.sites k.later h.sites_there)) (w.calls a dead f1) in
                subst (λ (x : List Given). SameCalls (map (site_value a new) (h.sites ++ k.sites)) (all_passages flat q (seen flat q dead x (start a)))) (sym (row a))
                (subst (λ (ps : List Passage). SameCalls (map (site_value a new) (h.sites ++ k.sites)) ps) (sym (ap (all_passages flat q) (seen_push flat q dead (gs a) (g a) (start a)) ∙ passages_push flat q sn (seen_at dead (g a) fs)))
                (subst (λ (ms : List SiteMeans). SameCalls ms (all_passages flat q sn ++ passages_seen flat q (seen_at dead (g a) fs))) (sym (map-append (site_value a new) h.sites k.sites))
                (same_both (map (site_value a new) h.sites) (map (site_value a new) k.sites) (all_passages flat q sn) (passages_seen flat q (seen_at dead (g a) fs)) past here)));
          };
    }

orders_count : (flat : Limited) (q : FlatProc) (order : List ℕ) → length (passive_blocks flat q order) ≡ length order
orders_count flat q [] = refl
orders_count flat q (n ∷ ns) = ap suc (orders_count flat q ns)

pub went_whole : (cs : List ℕ) (spare : Wait) (old new : List TermNode) (d e : Draft) (edges edges1 : List EdgeTerm) (first waits : List Wait) (bs : List PassiveBlock) (i : ℕ) → length bs ≤ i → Went cs spare old d edges first bs i new e edges1 waits →
    WentAll cs spare old d edges first bs new e edges1 waits
went_whole cs spare old new d e edges edges1 first waits bs i l h =
    let all = take_all bs i l in
    record {
      later = h.later;
      marks = h.marks;
      marks_are = h.marks_are;
      marks_there = h.marks_there;
      sites = h.sites;
      sites_are = h.sites_are;
      sites_there = h.sites_there;
      laid = h.laid ∙ ap (blocks_laid d.next) all;
      asserts = h.asserts;
      asserts_are = h.asserts_are;
      asserts_there = h.asserts_there;
      vals = h.vals;
      vals_are = h.vals_are;
      vals_there = h.vals_there;
      checked = h.checked ∙ ap blocks_checked all;
      next = h.next ∙ ap (λ xs. d.next + length (blocks_sorts xs)) all;
      numbers = h.numbers ∙ ap (λ xs. variables_in old ++ numbers_from d.next (length (blocks_sorts xs))) all;
      fit = λ a f k. h.fit a f (ap (λ xs. sorted_as (blocks_sorts xs) (reads a d.next (length (blocks_sorts xs)))) all ∙ k);
      stage = h.stage;
      says = λ flat q order are there st fit.
          let n : length order ≤ i = omega (arith, l, ap length are, orders_count flat q order) in
          subst (λ (ns : List ℕ). WentSays flat q ns cs old d first new e waits h.marks h.sites h.asserts h.vals) (take_all order i n) (h.says flat q order are there st fit);
    }
