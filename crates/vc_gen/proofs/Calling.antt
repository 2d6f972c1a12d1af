-- A call becomes terms.
use Rattle.flat_prog.specs.Sites.{numbers_from}
use Rattle.std.proofs.Common.{◌≡◌, ℕ, zero, suc, ◌+◌, ◌<◌, ◌≤◌, Bool, true, false, not, ◌&&◌, ◌||◌, List, [], ◌∷◌, ◌++◌, map, length, take, arith, sym, ◌∙◌, ap, refl, subst, append-nil, append_assoc, length-append}
use Rattle.std.specs.Prelude.{Option, None, Some, slice_get, slice_index, slice_index_or, IsTrue, IsSome}
use Rattle.std.proofs.lemmas.List.{map-append}
use Rattle.hy_val.specs.Exprs.{eval_by}
use Rattle.hy_val.specs.Values.{at, is_on, has_sort}
use Rattle.hy_val.specs.declared.sort.Sort.{Sort}
use Rattle.hy_val.specs.declared.value.Value.{Value}
use Rattle.hy_val.specs.declared.expr.ExprNode.{ExprNode}
use Rattle.hy_term.specs.TermSorts.{sorts, sort_at}
use Rattle.hy_term.specs.Meaning.{values, value, fits}
use Rattle.hy_term.specs.Variables.{below, reads}
use Rattle.hy_term.specs.declared.node.TermNode.{TermNode}
use Rattle.hy_term.specs.declared.node.TermNode.TheVariants.{Variable}
use Rattle.passive_form.specs.Local.{sorted_as, replaced}
use Rattle.passive_form.specs.declared.Item.TheVariants.{Site}
use Rattle.passive_form.specs.Making.{sort_or}
use Rattle.passive_form.specs.Versions.{look_at, from, outs_from, after_from, eval_all}
use Rattle.passive_form.proofs.Passing.{map_replaced}
use Rattle.hy_val.specs.Building.{whole_sort}
use Rattle.hy_val.proofs.Lawful.{keep_sorts}
use Rattle.hy_term.proofs.Typing.{value_has_sort}
use Rattle.vc_gen.specs.declared.parts.Draft.{Draft}
use Rattle.vc_gen.specs.declared.parts.SiteTerm.{SiteTerm}
use Rattle.vc_gen.specs.Standing.{Later, Plain, AreOf, variables_in}
use Rattle.vc_gen.specs.Translate.{ReadsFit, Says as ExprSays}
use Rattle.vc_gen.specs.Items.{bool_sort, ReadsIn, AllRead, AllThere, AreSorts, SiteMeans, sorts_of_all, chosen}
use Rattle.vc_gen.specs.Laid.{Laid}
use Rattle.vc_gen.specs.Emit.{AllBefore, AllBehind, AreVariables, row_of, ItemReady, ArgsReady, ArgsSay, Meant, Fresh, IsNot, Passed, terms_of, Step}
use Rattle.vc_gen.proofs.Looking.{take_at, take_all}
use Rattle.vc_gen.proofs.Growth.{later_same, later_then, plain_same, plain_then, value_later, sort_later, sort_within, are_later, are_append, are_count, are_at, map_later}
use Rattle.vc_gen.proofs.Joining.{variables_stay, take_grown, meant_back, and_two, fits_before}
use Rattle.vc_gen.proofs.Passes.{bit_later}
use Rattle.vc_gen.proofs.Steps.{reads_fit, expr_value, sort_is}
use Rattle.vc_gen.proofs.Zeros.{cancel}
use Rattle.vc_gen.proofs.Outward.{are_terms}
use Rattle.vc_gen.proofs.Pushing.{fresh_then, fresh_numbers}

-- ---- arguments

pub args_none : (old : List TermNode) (cs versions ts : List ℕ) → IsSome (sorts old) → ts ≡ [] → ArgsSay old cs versions [] old ts
args_none old cs versions ts h e =
    subst (λ (us : List ℕ). ArgsSay old cs versions [] old us) (sym e) (record { later = later_same old h; plain = plain_same old; sorts = []; are = tt; sorts_are = refl; values_are = λ a consts vals m. refl })

read_of_all : (csorts vsorts : List Sort) (args : List (List ExprNode)) (i : ℕ) (e : List ExprNode) → AllRead csorts vsorts args → i < length args → ReadsIn csorts vsorts (slice_index_or args i e)
read_of_all csorts vsorts [] i e h l = absurd (omega (arith, l))
read_of_all csorts vsorts (x ∷ args) zero e h l = h.0
read_of_all csorts vsorts (x ∷ args) (suc i) e h l = read_of_all csorts vsorts args i e h.1 (omega (arith, l))

pub arg_reads : (old mid : List TermNode) (cs versions ts : List ℕ) (args : List (List ExprNode)) (i : ℕ) (e : List ExprNode) → ArgsReady old cs versions args → Later old mid → i < length args → e ≡ slice_index_or args i e → ReadsFit mid cs versions e
arg_reads old mid cs versions ts args i e r h l is =
    reads_fit mid cs versions r.csorts r.vsorts e (are_later old mid cs r.csorts h r.consts) (are_later old mid versions r.vsorts h r.are)
    (subst (λ (x : List ExprNode). ReadsIn r.csorts r.vsorts x) (sym is) (read_of_all r.csorts r.vsorts args i e r.reads l))

all_append : (look : (n : ℕ) → Value) (consts : List Value) (xs : List (List ExprNode)) (e : List ExprNode) → eval_all (look_at consts look) (xs ++ e ∷ []) ≡ eval_all (look_at consts look) xs ++ eval_by (look_at consts look) e ∷ []
all_append look consts [] e = refl
all_append look consts (x ∷ xs) e = ap (λ r. eval_by (look_at consts look) x ∷ r) (all_append look consts xs e)

sorts_push : (args : List (List ExprNode)) (e : List ExprNode) → sorts_of_all (args ++ e ∷ []) ≡ sorts_of_all args ++ sort_or (whole_sort e) ∷ []
sorts_push [] e = refl
sorts_push (x ∷ args) e = ap (λ (r : List Sort). sort_or (whole_sort x) ∷ r) (sorts_push args e)

pub args_next : (old mid new : List TermNode) (cs versions ts us : List ℕ) (args : List (List ExprNode)) (i t : ℕ) (e : List ExprNode) → ArgsReady old cs versions args → i < length args → e ≡ slice_index_or args i e →
    ArgsSay old cs versions (take i args) mid ts → Later mid new → Plain mid new → ExprSays mid new cs versions e t → us ≡ ts ++ t ∷ [] → ArgsSay old cs versions (take (i + 1) args) new us
args_next old mid new cs versions ts us args i t e r l is h later plain s u =
    let all = later_then old mid new h.later later in
    let fit = arg_reads old mid cs versions ts args i e r h.later l is in
    let taken : take (i + 1) args ≡ take i args ++ e ∷ [] = take_at args e i l ∙ ap (λ x. take i args ++ x ∷ []) (sym is) in
    subst (λ (xs : List (List ExprNode)). ArgsSay old cs versions xs new us) (sym taken) (subst (λ (vs : List ℕ). ArgsSay old cs versions (take i args ++ e ∷ []) new vs) (sym u) (record {
      later = all;
      plain = plain_then old mid new h.plain plain;
      sorts = h.sorts ++ sort_or (whole_sort e) ∷ [];
      are = are_append new ts (t ∷ []) h.sorts (sort_or (whole_sort e) ∷ []) (are_later mid new ts h.sorts later h.are) (s.sort ∙ sort_is (whole_sort e) s.there, tt);
      sorts_are = ap (λ (ss : List Sort). ss ++ sort_or (whole_sort e) ∷ []) h.sorts_are ∙ sym (sorts_push (take i args) e);
      values_are = λ a consts vals m.
          let there : Meant a mid cs versions consts vals = record {
            consts_are = map_later old mid a cs r.csorts h.later r.consts ∙ m.consts_are;
            each = λ v t k. m.each v t k ∙ sym (value_later old mid a t h.later (version_within old versions r.vsorts v t r.are k));
          } in
          map-append (at (values a new)) ts (t ∷ []) ∙ ap (λ x. x ++ value a new t ∷ []) (map_later mid new a ts h.sorts later h.are ∙ h.values_are a consts vals m)
          ∙ ap (λ x. eval_all (look_at consts vals) (take i args) ++ x ∷ []) (expr_value mid new cs versions a consts vals e t s fit there)
          ∙ sym (all_append vals consts (take i args) e);
    }))
  where
    version_within : (x : List TermNode) (ts : List ℕ) (ss : List Sort) (v t : ℕ) → AreOf x ts ss → slice_get ts v ≡ Some t → t < length x
    version_within x [] ss v t h k = cc
    version_within x (u ∷ ts) [] v t h k = absurd h
    version_within x (u ∷ ts) (s ∷ ss) zero t (h, hs) k = let same : u ≡ t = cc in subst (λ (i : ℕ). i < length x) same (sort_within x u s h)
    version_within x (u ∷ ts) (s ∷ ss) (suc v) t (h, hs) k = version_within x ts ss v t hs k

pub args_whole : (old new : List TermNode) (cs versions ts : List ℕ) (args : List (List ExprNode)) (i : ℕ) → length args ≤ i → ArgsSay old cs versions (take i args) new ts → ArgsSay old cs versions args new ts
args_whole old new cs versions ts args i l h = subst (λ (xs : List (List ExprNode)). ArgsSay old cs versions xs new ts) (take_all args i l) h

-- ---- versions in a row

get_seam : (pre : List ℕ) (t : ℕ) (post : List ℕ) (k : ℕ) → length pre ≡ k → slice_get (pre ++ t ∷ post) k ≡ Some t
get_seam [] t post k n = ap (slice_get (t ∷ post)) (sym n)
get_seam (x ∷ pre) t post zero n = absurd (omega (arith, n))
get_seam (x ∷ pre) t post (suc k) n = get_seam pre t post k (omega (arith, n))

pub span_values : (a : ℕ → Value) (nodes : List TermNode) (versions : List ℕ) (vals : ℕ → Value) → ((v t : ℕ) → slice_get versions v ≡ Some t → vals v ≡ value a nodes t) → (pre ts post : List ℕ) (xs : List Sort) (k : ℕ) →
    versions ≡ pre ++ (ts ++ post) → length pre ≡ k → length ts ≡ length xs → map vals (from k xs) ≡ map (at (values a nodes)) ts
span_values a nodes versions vals each pre [] post [] k is n m = refl
span_values a nodes versions vals each pre [] post (x ∷ xs) k is n m = absurd (omega (arith, m))
span_values a nodes versions vals each pre (t ∷ ts) post [] k is n m = absurd (omega (arith, m))
span_values a nodes versions vals each pre (t ∷ ts) post (x ∷ xs) k is n m =
    ap (λ v. v ∷ map vals (from (k + 1) xs)) (each k t (ap (λ vs. slice_get vs k) is ∙ get_seam pre t (ts ++ post) k n))
    ∙ ap (λ vs. value a nodes t ∷ vs) (span_values a nodes versions vals each (pre ++ t ∷ []) ts post xs (k + 1) (is ∙ sym (append_assoc pre (t ∷ []) (ts ++ post))) (omega (arith, length-append pre (t ∷ []), n)) (omega (arith, m)))

before_values : (a : ℕ → Value) (nodes : List TermNode) (versions : List ℕ) (vals : ℕ → Value) (ss : List Sort) (before : List ℕ) → AreOf nodes versions ss → ((v t : ℕ) → slice_get versions v ≡ Some t → vals v ≡ value a nodes t) → AllThere ss before →
    map (at (values a nodes)) (terms_of versions before) ≡ map vals before
before_values a nodes versions vals ss [] h each k = refl
before_values a nodes versions vals ss (v ∷ vs) h each (k, ks) =
    let t = got nodes versions ss v h k in
    ap (λ x. x ∷ map (at (values a nodes)) (terms_of versions vs)) (ap (value a nodes) t.1 ∙ sym (each v t.0 t.2)) ∙ ap (λ x. vals v ∷ x) (before_values a nodes versions vals ss vs h each ks)
  where
    got : (nodes : List TermNode) (ts : List ℕ) (ss : List Sort) (v : ℕ) → AreOf nodes ts ss → IsSome (slice_get ss v) → (t : ℕ) × (slice_index ts v ≡ t) × (slice_get ts v ≡ Some t)
    got nodes [] [] v h k = cc
    got nodes [] (s ∷ ss) v h k = absurd h
    got nodes (t ∷ ts) [] v h k = cc
    got nodes (t ∷ ts) (s ∷ ss) zero h k = (t, refl, refl)
    got nodes (t ∷ ts) (s ∷ ss) (suc v) (h, hs) k = got nodes ts ss v hs k

before_are : (nodes : List TermNode) (versions : List ℕ) (ss : List Sort) (before : List ℕ) → AreOf nodes versions ss → AllThere ss before → (rs : List Sort) × AreOf nodes (terms_of versions before) rs
before_are nodes versions ss [] h k = ([], tt)
before_are nodes versions ss (v ∷ vs) h (k, ks) =
    let r = before_are nodes versions ss vs h ks in
    let s = some_of (slice_get ss v) k in
    (s.0 ∷ r.0, (are_at nodes versions ss v s.0 h s.1, r.1))
  where
    some_of : (o : Option Sort) → IsSome o → (s : Sort) × (o ≡ Some s)
    some_of None h = cc
    some_of (Some s) h = (s, refl)

pub sorts_front : (xs ys : List Sort) → AreSorts (xs ++ ys) → AreSorts xs
sorts_front [] ys h = tt
sorts_front (x ∷ xs) ys (h, hs) = (h, sorts_front xs ys hs)

pub sorts_back : (xs ys : List Sort) → AreSorts (xs ++ ys) → AreSorts ys
sorts_back [] ys h = h
sorts_back (x ∷ xs) ys (h, hs) = sorts_back xs ys hs

have_of : (a : ℕ → Value) (nodes : List TermNode) (ts : List ℕ) (ss : List Sort) → IsTrue (fits a nodes) → AreOf nodes ts ss → sorted_as ss (map (at (values a nodes)) ts) ≡ true
have_of a nodes [] [] f h = refl
have_of a nodes [] (s ∷ ss) f h = absurd h
have_of a nodes (t ∷ ts) [] f h = absurd h
have_of a nodes (t ∷ ts) (s ∷ ss) f (h, hs) = and_two (has_sort (value a nodes t) s) (sorted_as ss (map (at (values a nodes)) ts)) (value_has_sort keep_sorts a nodes t s f h) (have_of a nodes ts ss f hs)

are_front : (nodes : List TermNode) (ts us : List ℕ) (ss rs : List Sort) → length ts ≡ length ss → AreOf nodes (ts ++ us) (ss ++ rs) → AreOf nodes ts ss × AreOf nodes us rs
are_front nodes [] us [] rs n h = (tt, h)
are_front nodes [] us (s ∷ ss) rs n h = absurd (omega (arith, n))
are_front nodes (t ∷ ts) us [] rs n h = absurd (omega (arith, n))
are_front nodes (t ∷ ts) us (s ∷ ss) rs n (h, hs) = let r = are_front nodes ts us ss rs (omega (arith, n)) hs in ((h, r.0), r.1)

replaced_are : (nodes : List TermNode) (ms : List Bool) (ts us : List ℕ) (ss rs : List Sort) → AreOf nodes ts ss → AreOf nodes us rs → (sorts : List Sort) × AreOf nodes (replaced ms ts us) sorts
replaced_are nodes [] ts us ss rs h k = (ss, h)
replaced_are nodes (m ∷ ms) [] us ss rs h k = ([], tt)
replaced_are nodes (m ∷ ms) (t ∷ ts) us [] rs h k = absurd h
replaced_are nodes (true ∷ ms) (t ∷ ts) [] (s ∷ ss) rs h k = (s ∷ ss, h)
replaced_are nodes (true ∷ ms) (t ∷ ts) (u ∷ us) (s ∷ ss) [] h k = absurd k
replaced_are nodes (true ∷ ms) (t ∷ ts) (u ∷ us) (s ∷ ss) (r ∷ rs) (h, hs) (k, ks) = let z = replaced_are nodes ms ts us ss rs hs ks in (r ∷ z.0, (k, z.1))
replaced_are nodes (false ∷ ms) (t ∷ ts) us (s ∷ ss) rs (h, hs) k = let z = replaced_are nodes ms ts us ss rs hs k in (s ∷ z.0, (h, z.1))

row_there : (pre post : List TermNode) (k : ℕ) (ss : List Sort) → AreVariables (pre ++ (row_of k ss ++ post)) (from (length pre) ss) k ss
row_there pre post k [] = tt
row_there pre post k (s ∷ ss) =
    let n : length (pre ++ Variable k s ∷ []) ≡ length pre + 1 = length-append pre (Variable k s ∷ []) in (
      seam pre (Variable k s) (row_of (k + 1) ss ++ post),
      subst (λ (i : ℕ). AreVariables (pre ++ (Variable k s ∷ (row_of (k + 1) ss ++ post))) (from i ss) (k + 1) ss) n
          (subst (λ (ns : List TermNode). AreVariables ns (from (length (pre ++ Variable k s ∷ [])) ss) (k + 1) ss) (append_assoc pre (Variable k s ∷ []) (row_of (k + 1) ss ++ post)) (row_there (pre ++ Variable k s ∷ []) post (k + 1) ss)),
    )
  where
    seam : (pre : List TermNode) (n : TermNode) (post : List TermNode) → slice_get (pre ++ n ∷ post) (length pre) ≡ Some n
    seam [] n post = refl
    seam (x ∷ pre) n post = seam pre n post

are_before : (nodes : List TermNode) (ts : List ℕ) (ss : List Sort) → AreOf nodes ts ss → AllBefore (length nodes) ts
are_before nodes [] ss h = tt
are_before nodes (t ∷ ts) [] h = absurd h
are_before nodes (t ∷ ts) (s ∷ ss) (h, hs) = (sort_within nodes t s h, are_before nodes ts ss hs)

from_behind : (n k : ℕ) (ss : List Sort) → n < k → AllBehind n (from k ss)
from_behind n k [] l = tt
from_behind n k (s ∷ ss) l = (l, from_behind n (k + 1) ss (omega (arith, l)))

head_is : (x : ℕ) (xs : List ℕ) (y : ℕ) (ys : List ℕ) → x ∷ xs ≡ y ∷ ys → x ≡ y
head_is x xs y ys h = cc

tail_is : (x : ℕ) (xs : List ℕ) (y : ℕ) (ys : List ℕ) → x ∷ xs ≡ y ∷ ys → xs ≡ ys
tail_is x xs y ys h = cc

-- the new versions of a call
pub record CallFresh (old : List TermNode) (d : Draft) (outs after : List Sort) (new : List TermNode) (e : Draft) (bit : ℕ) (ots gts : List ℕ) : Type 0 where
  pub fresh : Fresh old d (bool_sort ∷ (outs ++ after)) new e
  pub versions : e.versions ≡ d.versions ++ (bit ∷ (ots ++ gts))
  pub bit_is : sort_at new bit ≡ Some bool_sort
  pub outs_are : AreOf new ots outs
  pub after_are : AreOf new gts after

pub call_fresh : (o m1 m2 new : List TermNode) (d e1 e2 e : Draft) (outs after : List Sort) (bit : ℕ) (ots gts : List ℕ) → Fresh o d (bool_sort ∷ []) m1 e1 → e1.versions ≡ d.versions ++ bit ∷ [] → Fresh m1 e1 outs m2 e2 → e2.versions ≡ e1.versions ++ ots →
    Fresh m2 e2 after new e → e.versions ≡ e2.versions ++ gts → CallFresh o d outs after new e bit ots gts
call_fresh o m1 m2 new d e1 e2 e outs after bit ots gts f1 v1 f2 v2 f3 v3 =
    let vs1 : f1.more ≡ bit ∷ [] = cancel d.versions f1.more (bit ∷ []) (sym (ap (λ (x : Draft). x.versions) f1.draft_is) ∙ v1) in
    let vs2 : f2.more ≡ ots = cancel e1.versions f2.more ots (sym (ap (λ (x : Draft). x.versions) f2.draft_is) ∙ v2) in
    let vs3 : f3.more ≡ gts = cancel e2.versions f3.more gts (sym (ap (λ (x : Draft). x.versions) f3.draft_is) ∙ v3) in
    let l = later_then m1 m2 new f2.later f3.later in
    record {
      fresh = fresh_then o m1 new d e1 e (bool_sort ∷ []) (outs ++ after) f1 (fresh_then m1 m2 new e1 e2 e outs after f2 f3);
      versions = v3 ∙ ap (λ x. x ++ gts) (v2 ∙ ap (λ x. x ++ ots) v1) ∙ append_assoc (d.versions ++ bit ∷ []) ots gts ∙ append_assoc d.versions (bit ∷ []) (ots ++ gts);
      bit_is = sort_later m1 new bit bool_sort l (subst (λ (ts : List ℕ). AreOf m1 ts (bool_sort ∷ [])) vs1 f1.are).0;
      outs_are = are_later m2 new ots outs f3.later (subst (λ (ts : List ℕ). AreOf m2 ts outs) vs2 f2.are);
      after_are = subst (λ (ts : List ℕ). AreOf new ts after) vs3 f3.are;
    }

module _ (cs : List ℕ) (block : ℕ) (old : List TermNode) (d : Draft) (p f : ℕ) (args : List (List ExprNode)) (before : List ℕ) (outs : List Sort) (changes : List Bool) (after : List Sort) where
  pub step_site : (m1 m2 m3 new : List TermNode) (ats : List ℕ) (e : Draft) (bit : ℕ) (ots gts : List ℕ) (h t : ℕ) (g : Draft) (ss : List SiteTerm) (n : ℕ) → ItemReady old cs d (Site p f args before outs changes after) →
      ArgsSay old cs d.versions args m1 ats → CallFresh m1 d outs after m2 e bit ots gts → Later m2 m3 → Plain m2 m3 → IsNot m2 m3 bit h → Later m3 new → Plain m3 new → Passed m3 e h bit new g t →
      ss ≡ g.sites ++ record { block = block; call = g.calls; proc = p; node = e.cond; first = d.next; failed = bit; args = ats; globals_before = terms_of d.versions before; outs = ots; changed = gts; globals_after = replaced changes (terms_of d.versions before) gts; fails = t } ∷ [] → n ≡ g.calls + 1 →
      Step cs block old d (Site p f args before outs changes after ∷ []) new (record g { sites = ss; calls = n })
  step_site m1 m2 m3 new ats e bit ots gts h t g ss n r say call l3 p3 b l4 p4 w is more_calls =
      let st = r.stands in
      let own = bool_sort ∷ (outs ++ after) in
      let fresh = call.fresh in
      let site : SiteTerm = record { block = block; call = g.calls; proc = p; node = e.cond; first = d.next; failed = bit; args = ats; globals_before = terms_of d.versions before; outs = ots; changed = gts; globals_after = replaced changes (terms_of d.versions before) gts; fails = t } in
      let l12 = later_then old m1 m2 say.later fresh.later in
      let l24 = later_then m2 m3 new l3 l4 in
      let later = later_then old m2 new l12 l24 in
      let l13 = later_then old m2 m3 l12 l3 in
      let l14 = later_then m1 m2 new fresh.later l24 in
      let e_cond : e.cond ≡ d.cond = ap (λ (x : Draft). x.cond) fresh.draft_is in
      let e_fails : e.fails ≡ d.fails = ap (λ (x : Draft). x.fails) fresh.draft_is in
      let e_next : e.next ≡ d.next + length own = ap (λ (x : Draft). x.next) fresh.draft_is in
      let e_sites : e.sites ≡ d.sites = ap (λ (x : Draft). x.sites) fresh.draft_is in
      let e_asserts : e.asserts ≡ d.asserts = ap (λ (x : Draft). x.asserts) fresh.draft_is in
      let g_versions : g.versions ≡ e.versions = ap (λ (x : Draft). x.versions) w.draft_is in
      let g_next : g.next ≡ e.next = ap (λ (x : Draft). x.next) w.draft_is in
      let g_sites : g.sites ≡ e.sites = ap (λ (x : Draft). x.sites) w.draft_is in
      let g_asserts : g.asserts ≡ e.asserts = ap (λ (x : Draft). x.asserts) w.draft_is in
      let same_calls : g.calls ≡ d.calls = ap (λ (x : Draft). x.calls) w.draft_is ∙ ap (λ (x : Draft). x.calls) fresh.draft_is in
      let row = bit ∷ (ots ++ gts) in
      let vs : g.versions ≡ d.versions ++ row = g_versions ∙ call.versions in
      let row_is : fresh.more ≡ row = cancel d.versions fresh.more row (sym (ap (λ (x : Draft). x.versions) fresh.draft_is) ∙ call.versions) in
      let row_are : AreOf m2 row own = (call.bit_is, are_append m2 ots gts outs after call.outs_are call.after_are) in
      let row_new : AreOf new row own = are_later m2 new row own l24 row_are in
      let at_row : row ≡ from (length m1) own = sym row_is ∙ fresh.more_are in
      let bit_at : bit ≡ length m1 = head_is bit (ots ++ gts) (length m1) (from (length m1 + 1) (outs ++ after)) at_row in
      let row_vars : AreVariables m2 row d.next own =
      subst (λ (ts : List ℕ). AreVariables m2 ts d.next own) (sym at_row) (subst (λ (ns : List TermNode). AreVariables ns (from (length m1) own) d.next own) (sym fresh.nodes_are)
      (subst (λ (ns : List TermNode). AreVariables (m1 ++ ns) (from (length m1) own) d.next own) (append-nil (row_of d.next own)) (row_there m1 [] d.next own))) in
      let grown : take (length m1) new ≡ take (length m1) m1 = ap (take (length m1)) l14.nodes.1 ∙ take_grown m1 l14.nodes.0 (length m1) (omega arith) in
      let front : take (length m1) new ≡ m1 = grown ∙ take_all m1 (length m1) (omega arith) in
      let whole : own ≡ chosen (Site p f args before outs changes after ∷ []) = sym (append-nil own) in
      let count : length own ≡ length (chosen (Site p f args before outs changes after ∷ [])) = ap length whole in
      let cond_sort : sort_at new d.cond ≡ Some bool_sort = sort_later old new d.cond bool_sort later st.cond in
      let spot : f ≡ length d.versions = r.fit.0 ∙ sym (are_count old d.versions r.vsorts st.versions) in
      let outs_count : length ots ≡ length outs = are_count m2 ots outs call.outs_are in
      let after_count : length gts ≡ length after = are_count m2 gts after call.after_are in
      let b_are = before_are old d.versions r.vsorts before st.versions r.fit.2 in
      record {
        later = later;
        more = row;
        versions = vs;
        are = subst (λ (xs : List Sort). AreOf new row xs) whole row_new;
        cond = w.cond;
        fails = w.fails;
        next = omega (arith, g_next, e_next, count);
        below = subst (λ (k : ℕ). IsTrue (below k new)) (sym g_next) (p4.below e.next (p3.below e.next fresh.below));
        sites = site ∷ [];
        sites_there = (
          record {
            node = ap (sort_at new) e_cond ∙ cond_sort;
            args = (say.sorts, are_later m1 new ats say.sorts l14 say.are);
            before = (b_are.0, are_later old new (terms_of d.versions before) b_are.0 later b_are.1);
            outs = (outs, are_later m2 new ots outs l24 call.outs_are);
            changed = (after, are_later m2 new gts after l24 call.after_are);
            after = replaced_are new changes (terms_of d.versions before) gts b_are.0 after (are_later old new (terms_of d.versions before) b_are.0 later b_are.1) (are_later m2 new gts after l24 call.after_are);
            fails = w.sort;
            failed = sort_later m2 new bit bool_sort l24 call.bit_is;
            fails_is = λ a fit.
                let f3 = fits_before a m3 new l4 fit in
                let c3 : sort_at m3 e.cond ≡ Some bool_sort = ap (sort_at m3) e_cond ∙ sort_later old m3 d.cond bool_sort l13 st.cond in
                w.here a f3 ∙ ap (λ x. x && is_on (value a m3 bit)) (sym (bit_later m3 new a e.cond l4 c3))
                ∙ ap (λ x. is_on (value a new e.cond) && x) (sym (bit_later m3 new a bit l4 (sort_later m2 m3 bit bool_sort l3 call.bit_is)));
            variables = (own, variables_stay m2 new row d.next own l24 row_vars);
            args_before = subst (λ (i : ℕ). AllBefore i ats) (sym bit_at) (are_before m1 ats say.sorts say.are);
            globals_before = subst (λ (i : ℕ). AllBefore i (terms_of d.versions before)) (sym bit_at) (are_before m1 (terms_of d.versions before) b_are.0 (are_later old m1 (terms_of d.versions before) b_are.0 say.later b_are.1));
            others_behind = subst (λ (i : ℕ). AllBehind i (ots ++ gts)) (sym bit_at) (subst (λ (ts : List ℕ). AllBehind (length m1) ts) (sym (tail_is bit (ots ++ gts) (length m1) (from (length m1 + 1) (outs ++ after)) at_row)) (from_behind (length m1) (length m1 + 1) (outs ++ after) (omega arith)));
            numbers = subst (λ (i : ℕ). IsTrue (below d.next (take i new))) (sym bit_at) (subst (λ (ns : List TermNode). IsTrue (below d.next ns)) (sym front) (say.plain.below d.next st.next));
            after_is = (changes, refl);
          },
          tt,
        );
        sites_of = (record { proc_is = refl; outs_are = are_later m2 new ots outs l24 call.outs_are; changed_are = are_later m2 new gts after l24 call.after_are; after_is = refl }, tt);
        sites_behind = is ∙ ap (λ x. x ++ site ∷ []) (g_sites ∙ e_sites);
        asked = λ csorts vsorts st2. (
          record {
            proc_is = refl;
            args_are = subst (λ (ss : List Sort). AreOf new ats ss) say.sorts_are (are_later m1 new ats say.sorts l14 say.are);
            before_are = λ ss k. are_later old new (terms_of d.versions before) ss later (are_terms old d.versions vsorts before ss st2.versions k);
          },
          tt,
        );
        numbered = ap {B = List (ℕ × ℕ)} (λ (i : ℕ). (block, i) ∷ []) same_calls;
        laid = ap {B = List Laid} (λ (i : ℕ). record { block = block; call = i; proc = p; first = d.next } ∷ []) same_calls;
        calls = omega (arith, more_calls, same_calls);
        variables = p4.numbers ∙ p3.numbers ∙ fresh_numbers m1 m2 d e own fresh ∙ ap (λ r. r ++ numbers_from d.next (length own)) say.plain.numbers ∙ ap (λ i. variables_in old ++ numbers_from d.next i) count;
        asserts = [];
        asserts_there = tt;
        asserts_behind = g_asserts ∙ e_asserts ∙ sym (append-nil d.asserts);
        checked = refl;
        values = [];
        values_there = tt;
        values_behind = ap (λ (x : Draft). x.values) w.draft_is ∙ ap (λ (x : Draft). x.values) fresh.draft_is ∙ sym (append-nil d.values);
        taken = λ a consts vals f m. refl;
        says = λ a consts vals fit m.
            let f3 = fits_before a m3 new l4 fit in
            let f2 = fits_before a m2 m3 l3 f3 in
            let back = meant_back a old new cs d.versions row g.versions r.csorts r.vsorts consts vals later st.consts st.versions vs m in
            let on = is_on (value a old d.cond) in
            let bit_new : vals f ≡ value a new bit = m.each f bit (ap (λ xs. slice_get xs f) vs ∙ get_seam d.versions bit (ots ++ gts) f (sym spot)) in
            let bit3 : is_on (value a m3 bit) ≡ is_on (vals f) = sym (bit_later m3 new a bit l4 (sort_later m2 m3 bit bool_sort l3 call.bit_is)) ∙ ap is_on (sym bit_new) in
            let cond3 : is_on (value a m3 e.cond) ≡ on = ap (λ i. is_on (value a m3 i)) e_cond ∙ bit_later old m3 a d.cond l13 st.cond in
            let fails3 : is_on (value a m3 e.fails) ≡ is_on (value a old d.fails) = ap (λ i. is_on (value a m3 i)) e_fails ∙ bit_later old m3 a d.fails l13 st.fails in
            let h3 : is_on (value a m3 h) ≡ not (is_on (vals f)) = b.means a f2 ∙ ap not (sym (bit_later m2 m3 a bit l3 call.bit_is) ∙ bit3) in
            let here : (is_on (value a m3 e.cond) && is_on (value a m3 bit)) ≡ (on && is_on (vals f)) = ap (λ x. x && is_on (value a m3 bit)) cond3 ∙ ap (λ x. on && x) bit3 in
            let split : g.versions ≡ (d.versions ++ bit ∷ []) ++ (ots ++ gts) = vs ∙ sym (append_assoc d.versions (bit ∷ []) (ots ++ gts)) in
            let split2 : g.versions ≡ ((d.versions ++ bit ∷ []) ++ ots) ++ (gts ++ []) = split ∙ sym (append_assoc (d.versions ++ bit ∷ []) ots gts) ∙ ap (λ x. ((d.versions ++ bit ∷ []) ++ ots) ++ x) (sym (append-nil gts)) in
            let n1 : length (d.versions ++ bit ∷ []) ≡ f + 1 = omega (arith, length-append d.versions (bit ∷ []), spot) in
            let n2 : length ((d.versions ++ bit ∷ []) ++ ots) ≡ f + 1 + length outs = omega (arith, length-append (d.versions ++ bit ∷ []) ots, n1, outs_count) in
            let outs_are : map vals (outs_from f outs) ≡ map (at (values a new)) ots = span_values a new g.versions vals m.each (d.versions ++ bit ∷ []) ots gts outs (f + 1) split n1 outs_count in
            let after_are : map vals (after_from f outs after) ≡ map (at (values a new)) gts = span_values a new g.versions vals m.each ((d.versions ++ bit ∷ []) ++ ots) gts [] after (f + 1 + length outs) split2 n2 after_count in
            let read : map (at (values a new)) row ≡ reads a d.next (length own) = map_later m2 new a row own l24 row_are ∙ ap (map (at (values a m2))) (sym row_is) ∙ fresh.read a in
            record {
              defined = (
                and_two (sorted_as outs (map vals (outs_from f outs))) (sorted_as after (map vals (after_from f outs after)))
                    (ap (sorted_as outs) outs_are ∙ have_of a new ots outs fit (are_later m2 new ots outs l24 call.outs_are))
                    (ap (sorted_as after) after_are ∙ have_of a new gts after fit (are_later m2 new gts after l24 call.after_are)),
                tt,
              );
              on = w.goes a f3 ∙ ap (λ x. x && is_on (value a m3 h)) cond3 ∙ ap (λ x. on && x) h3;
              fails = w.failed a f3 ∙ ap (λ x. x || (is_on (value a m3 e.cond) && is_on (value a m3 bit))) fails3 ∙ ap (λ x. is_on (value a old d.fails) || x) here;
              inputs_are = append-nil (vals f ∷ (map vals (outs_from f outs) ++ map vals (after_from f outs after)))
                  ∙ ap (λ x. x ∷ (map vals (outs_from f outs) ++ map vals (after_from f outs after))) bit_new
                  ∙ ap (λ x. value a new bit ∷ (x ++ map vals (after_from f outs after))) outs_are ∙ ap (λ x. value a new bit ∷ (map (at (values a new)) ots ++ x)) after_are
                  ∙ ap (λ x. value a new bit ∷ x) (sym (map-append (at (values a new)) ots gts)) ∙ read ∙ ap (reads a d.next) count;
              sites_are = same (is_on (value a new e.cond)) on (map (at (values a new)) ats) (eval_all (look_at consts vals) args) (map (at (values a new)) (terms_of d.versions before)) (map vals before)
                  (map (at (values a new)) ots) (map vals (outs_from f outs)) (map (at (values a new)) gts) (map vals (after_from f outs after)) (map (at (values a new)) (replaced changes (terms_of d.versions before) gts)) (is_on (value a new t)) (on && is_on (vals f))
                  (ap (λ i. is_on (value a new i)) e_cond ∙ bit_later old new a d.cond later st.cond)
                  (map_later m1 new a ats say.sorts l14 say.are ∙ say.values_are a consts vals back)
                  (map_later old new a (terms_of d.versions before) b_are.0 later b_are.1 ∙ before_values a old d.versions vals r.vsorts before st.versions back.each r.fit.2)
                  (sym outs_are) (sym after_are) (map_replaced (at (values a new)) changes (terms_of d.versions before) gts) (w.here a f3 ∙ here);
              asserts_are = refl;
            };
        fit = λ a fit k. p4.fit a (p3.fit a (fresh.fit a (say.plain.fit a fit)
            (sym (ap (λ xs. sorted_as xs (reads a d.next (length (chosen (Site p f args before outs changes after ∷ []))))) (sym whole) ∙ ap (λ n. sorted_as own (reads a d.next n)) (sym count)) ∙ k)));
      }
    where
      same : (q q' : Bool) (x x' y y' u u' v v' w : List Value) (z z' : Bool) → q ≡ q' → x ≡ x' → y ≡ y' → u ≡ u' → v ≡ v' → w ≡ replaced changes y v → z ≡ z' →
          ◌≡◌ {A = List SiteMeans} (record { proc = p; on = q; args = x; before = y; outs = u; changed = v; after = w; fails = z } ∷ []) (record { proc = p; on = q'; args = x'; before = y'; outs = u'; changed = v'; after = replaced changes y' v'; fails = z' } ∷ [])
      same q q' x x' y y' u u' v v' w z z' a b c d e r f = let k : w ≡ replaced changes y' v' = r ∙ ap (λ s. replaced changes s v) c ∙ ap (replaced changes y') e in cc

pub call_made : (o m1 m2 new : List TermNode) (d e1 e2 e : Draft) (s : Sort) (outs after : List Sort) (bit : ℕ) (ots gts : List ℕ) → s ≡ bool_sort → Fresh o d (s ∷ []) m1 e1 → e1.versions ≡ d.versions ++ bit ∷ [] → Fresh m1 e1 outs m2 e2 → e2.versions ≡ e1.versions ++ ots →
    Fresh m2 e2 after new e → e.versions ≡ e2.versions ++ gts → CallFresh o d outs after new e bit ots gts
call_made o m1 m2 new d e1 e2 e s outs after bit ots gts is f1 v1 f2 v2 f3 v3 =
    call_fresh o m1 m2 new d e1 e2 e outs after bit ots gts (subst (λ (t : Sort). Fresh o d (t ∷ []) m1 e1) is f1) v1 f2 v2 f3 v3

pub call_cond : (old m1 m2 m3 : List TermNode) (d e : Draft) (outs after : List Sort) (bit : ℕ) (ots gts : List ℕ) → Later old m1 → CallFresh m1 d outs after m2 e bit ots gts → Later m2 m3 → sort_at old d.cond ≡ Some bool_sort → sort_at m3 e.cond ≡ Some bool_sort
call_cond old m1 m2 m3 d e outs after bit ots gts l call k h =
    ap (sort_at m3) (ap (λ (x : Draft). x.cond) call.fresh.draft_is) ∙ sort_later old m3 d.cond bool_sort (later_then old m1 m3 l (later_then m1 m2 m3 call.fresh.later k)) h

pub call_fails : (old m1 m2 m3 : List TermNode) (d e : Draft) (outs after : List Sort) (bit : ℕ) (ots gts : List ℕ) → Later old m1 → CallFresh m1 d outs after m2 e bit ots gts → Later m2 m3 → sort_at old d.fails ≡ Some bool_sort → sort_at m3 e.fails ≡ Some bool_sort
call_fails old m1 m2 m3 d e outs after bit ots gts l call k h =
    ap (sort_at m3) (ap (λ (x : Draft). x.fails) call.fresh.draft_is) ∙ sort_later old m3 d.fails bool_sort (later_then old m1 m3 l (later_then m1 m2 m3 call.fresh.later k)) h

pub site_named : (cs : List ℕ) (versions versions' : List ℕ) (before ts : List ℕ) → ts ≡ terms_of versions' before → versions' ≡ versions → ts ≡ terms_of versions before
site_named cs versions versions' before ts h k = h ∙ ap (λ vs. terms_of vs before) k
