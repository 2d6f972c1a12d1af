-- The passive form of a procedure of a flat program is one of which a formula is made.
use Rattle.std.proofs.Common.{arith, ◌+◌, ◌-◌, ◌≤◌, append-nil, append_assoc, length-append, ◌≡◌, ℕ, zero, suc, ◌<◌, Bool, true, false, ◌||◌, List, [], ◌∷◌, ◌++◌, length, eq-eqb, sym, ap, ◌∙◌, refl, subst}
use Rattle.std.specs.Prelude.{slice_get, slice_index_or, Option, Some, All, nat_eq, nat_lt, is_some, IsTrue}
use Rattle.std.specs.Option.{option_and_then}
use Rattle.std.specs.List.{list_all}
use Rattle.std.proofs.lemmas.Bool.{and_parts, and_from}
use Rattle.std.proofs.lemmas.Bool.Decides.{nat_tests}
use Rattle.hy_term.specs.TermSorts.{sorts}
use Rattle.hy_term.specs.Variables.{below}
use Rattle.hy_term.specs.declared.node.TermNode.{TermNode}
use Rattle.flat_prog.specs.Sites.{numbers_from}
use Rattle.std.proofs.lemmas.List.Elements.{All-nil, All-cons}
use Rattle.hy_val.specs.NodeSorts.{is_sort}
use Rattle.hy_val.specs.Scope.{are_numbered}
use Rattle.hy_val.specs.declared.sort.Sort.{Sort}
use Rattle.flat_prog.specs.Ordering.{is_in}
use Rattle.flat_prog.specs.Program.{FlatProgram, variables_of}
use Rattle.flat_prog.specs.Shape.{IsFlat, IsFlatProc, sorts_fit}
use Rattle.flat_prog.specs.declared.proc.FlatProc.{FlatProc}
use Rattle.passive_form.specs.Laws.{IsPassiveOf}
use Rattle.passive_form.specs.Limited.{Limited, limited}
use Rattle.passive_form.specs.Making.{passive_blocks, passive_of}
use Rattle.passive_form.specs.declared.Passive.{Passive}
use Rattle.passive_form.specs.declared.PassiveBlock.{PassiveBlock}
use Rattle.vc_gen.specs.Fitting.{PassiveFits}
use Rattle.vc_gen.specs.Emit.{row_of}
use Rattle.vc_gen.specs.Items.{AreSorts, bool_sort}
use Rattle.vc_gen.specs.Standing.{AreOf}
use Rattle.vc_gen.specs.declared.parts.Actuals.{Actuals}
use Rattle.vc_gen.specs.declared.parts.Instance.{Instance}
use Rattle.vc_gen.specs.Whole.{InstanceReady, PassiveReady}
use Rattle.proc_template.specs.Starting.{first_actuals, first_nodes, first_sorts}
use Rattle.proc_template.specs.Template.{IsFit, IsInstance, IsInstanceOf, IsMadeOf}
use Rattle.proc_template.specs.Layout.{layout_of, roles_of}
use Rattle.proc_template.specs.Sites.{sorted_sites}
use Rattle.proc_template.specs.Track.{track_of}
use Rattle.flat_prog.specs.declared.block.FlatBlock.{FlatBlock}
use Rattle.tree_terms.specs.declared.linked.Role.{Role}
use Rattle.tree_terms.specs.declared.linked.SiteTerms.{SiteTerms}
use Rattle.tree_terms.specs.declared.linked.Template.{Template}
use Rattle.tree_terms.specs.declared.linked.TrackTerms.{TrackTerms}
use Rattle.proc_template.proofs.Beginning.{are_append, are_first, begun_sorts, row_count}

or_right : (a b : Bool) → b ≡ true → (a || b) ≡ true
or_right true b h = refl
or_right false b h = h

or_left : (a b : Bool) → a ≡ true → (a || b) ≡ true
or_left a b h = ap (λ x. x || b) h

pub index_is : {A : Type 0} (xs : List A) (n : ℕ) (x : A) → slice_get xs n ≡ Some x → (n < length xs) × (slice_index_or xs n x ≡ x)
index_is [] n x e = cc
index_is (y ∷ ys) zero x e = (within y ys, cc)
  where
    within : {A : Type 0} (y : A) (ys : List A) → 0 < length (y ∷ ys)
    within y ys = omega arith
index_is (y ∷ ys) (suc n) x e = let h = index_is ys n x e in (more (length ys) h.0, h.1)
  where
    more : (m : ℕ) → n < m → suc n < suc m
    more m l = omega (arith, l)

sorts_are : (ss : List Sort) → list_all is_sort ss ≡ true → AreSorts ss
sorts_are [] h = tt
sorts_are (s ∷ ss) h = let p = and_parts (is_sort s) (list_all is_sort ss) h in (p.0, sorts_are ss p.1)

all_sorts : (ss : List Sort) → IsTrue (sorts_fit ss) → AreSorts ss
all_sorts ss h = sorts_are ss (and_parts (are_numbered (length ss)) (list_all is_sort ss) h).1

numbers_in : (flat : Limited) (q : FlatProc) (order : List ℕ) → ((n : ℕ) → is_in n order ≡ true → n < length q.blocks) → All (λ (b : PassiveBlock). b.number < length q.blocks) (passive_blocks flat q order)
numbers_in flat q [] h = All-nil (λ (b : PassiveBlock). b.number < length q.blocks)
numbers_in flat q (n ∷ ns) h =
    All-cons (λ (b : PassiveBlock). b.number < length q.blocks) _ (passive_blocks flat q ns) (h n (or_left (nat_eq n n) (is_in n ns) (eq-eqb n n refl)))
    (numbers_in flat q ns (λ m k. h m (or_right (nat_eq m n) (is_in m ns) k)))

pub proc_fits : (flat : FlatProgram) (n : ℕ) (q : FlatProc) → IsFlat flat → slice_get flat.procs n ≡ Some q → IsFlatProc flat q
proc_fits flat n q is at = let h = index_is flat.procs n q at in subst (IsFlatProc flat) h.1 (is.procs n q h.0)

pub passive_fits : (flat : FlatProgram) (limits : List (List Bool)) (n : ℕ) (q : FlatProc) (p : Passive) → PassiveReady → IsFlat flat → slice_get flat.procs n ≡ Some q → IsPassiveOf (limited flat limits) q p → IsFit q.blocks p
passive_fits flat limits n q p ready is at made =
    let f = proc_fits flat n q is at in
    let own = passive_of (limited flat limits) q made.order in
    record {
      fit = (ready flat limits n q p is at made).0;
      sorts = subst (λ (x : Passive). AreSorts (first_sorts x)) (sym made.is)
          (are_append flat.consts (flat.globals ++ q.ins) (all_sorts flat.consts is.consts)
          (are_append flat.globals q.ins (all_sorts flat.globals is.globals) (are_first q.ins (q.outs ++ q.locals) (all_sorts (variables_of q) f.variables))));
      numbers = subst (λ (x : Passive). All (λ (b : PassiveBlock). b.number < length q.blocks) x.blocks) (sym made.is) (numbers_in (limited flat limits) q made.order made.ordered.there);
    }

-- ---- what `instance` asks for

seam : {A : Type 0} (pre : List A) (x : A) (post : List A) → slice_get (pre ++ x ∷ post) (length pre) ≡ Some x
seam [] x post = refl
seam (y ∷ pre) x post = seam pre x post

rows_of : (nodes : List TermNode) (ss pre xs post : List Sort) → sorts nodes ≡ Some (bool_sort ∷ ss) → ss ≡ pre ++ (xs ++ post) → AreOf nodes (numbers_from (1 + length pre) (length xs)) xs
rows_of nodes ss pre [] post known e = tt
rows_of nodes ss pre (x ∷ xs) post known e =
    let k : 1 + length pre ≡ suc (length pre) = omega arith in
    let n : 1 + length (pre ++ x ∷ []) ≡ 1 + length pre + 1 = let c = length-append pre (x ∷ []) in omega (arith, c) in
    let rest = rows_of nodes ss (pre ++ x ∷ []) xs post known (e ∙ sym (append_assoc pre (x ∷ []) (xs ++ post))) in (
      ap (λ (o : Option (List Sort)). option_and_then (λ (rs : List Sort). slice_get rs (1 + length pre)) o) known ∙ ap (slice_get (bool_sort ∷ ss)) k ∙ ap (λ (rs : List Sort). slice_get rs (length pre)) e ∙ seam pre x (xs ++ post),
      subst (λ (i : ℕ). AreOf nodes (numbers_from i (length xs)) xs) n rest,
    )

below_row : (n k : ℕ) (ss : List Sort) → k + length ss ≤ n → below n (row_of k ss) ≡ true
below_row n k [] l = refl
below_row n k (s ∷ ss) l =
    let here : nat_lt k n ≡ true = less k n (omega (arith, l)) in
    and_from (nat_lt k n) (below n (row_of (k + 1) ss)) here (below_row n (k + 1) ss (omega (arith, l)))
  where
    less : (i j : ℕ) → i < j → nat_lt i j ≡ true
    less i j h = grind (arith, nat_tests)

pub instance_ready : (p : Passive) → PassiveFits p → AreSorts (first_sorts p) → InstanceReady (first_nodes (first_sorts p)) p (first_actuals p) (length (first_sorts p))
instance_ready p fit h =
    let ss = first_sorts p in
    let known = begun_sorts ss h in
    let count : 1 + length (p.consts ++ p.globals) ≡ 1 + length p.consts + length p.globals = let c = length-append p.consts p.globals in omega (arith, c) in
    record {
      sound = ap (λ (o : Option (List Sort)). is_some o) known;
      consts = rows_of (first_nodes ss) ss [] p.consts (p.globals ++ p.ins) known refl;
      globals = rows_of (first_nodes ss) ss p.consts p.globals p.ins known refl;
      args = subst (λ (i : ℕ). AreOf (first_nodes ss) (numbers_from i (length p.ins)) p.ins) count
          (rows_of (first_nodes ss) ss (p.consts ++ p.globals) p.ins [] known (sym (append_assoc p.consts p.globals p.ins) ∙ ap (λ (x : List Sort). (p.consts ++ p.globals) ++ x) (sym (append-nil p.ins))));
      below = below_row (length ss) 0 ss (omega arith);
      fit = fit;
    }

pub next_is : (p : Passive) (nodes ns : List TermNode) → nodes ≡ first_nodes (first_sorts p) → ns ≡ nodes → length ns - 1 ≡ length (first_sorts p)
next_is p nodes ns e f =
    let n : length ns ≡ suc (length (row_of 0 (first_sorts p))) = ap length (f ∙ e) in
    let c = row_count 0 (first_sorts p) in
    omega (arith, n, c)

pub instance_asked : (p : Passive) (old : List TermNode) (actuals : Actuals) (k : ℕ) → old ≡ first_nodes (first_sorts p) → actuals ≡ first_actuals p → k ≡ length (first_sorts p) → PassiveFits p → AreSorts (first_sorts p) → InstanceReady old p actuals k
instance_asked p old actuals k e f n fit h =
    subst (λ (x : List TermNode). InstanceReady x p actuals k) (sym e) (subst (λ (x : Actuals). InstanceReady (first_nodes (first_sorts p)) p x k) (sym f)
    (subst (λ (x : ℕ). InstanceReady (first_nodes (first_sorts p)) p (first_actuals p) x) (sym n) (instance_ready p fit h)))

pub instance_said : (p : Passive) (old : List TermNode) (actuals : Actuals) (k : ℕ) (nodes : List TermNode) (i : Instance) → old ≡ first_nodes (first_sorts p) → actuals ≡ first_actuals p → k ≡ length (first_sorts p) → IsInstance old p actuals k nodes i →
    IsInstanceOf p nodes i
instance_said p old actuals k nodes i e f n h =
    subst (λ (x : List TermNode). IsInstance x p (first_actuals p) (length (first_sorts p)) nodes i) e (subst (λ (x : Actuals). IsInstance old p x (length (first_sorts p)) nodes i) f
    (subst (λ (x : ℕ). IsInstance old p actuals x nodes i) n h))

abbrev template_with : Instance → List TermNode → List Role → List SiteTerms → TrackTerms → Template
template_with i nodes roles sites track = record { nodes = nodes; roles = roles; sites = sites; track = track; ends = i.ended; fails = i.fails; outs = i.outs; globals = i.globals }

pub made_of : (proc : ℕ) (blocks : List FlatBlock) (p : Passive) (new : List TermNode) (i : Instance) (nodes : List TermNode) (roles : List Role) (sites : List SiteTerms) (track : TrackTerms) → IsInstanceOf p new i → nodes ≡ new →
    roles ≡ roles_of blocks p → sites ≡ sorted_sites (length blocks) i.sites → track ≡ track_of proc blocks new (layout_of blocks p) i →
    IsMadeOf proc blocks p (record { nodes = nodes; roles = roles; sites = sites; track = track; ends = i.ended; fails = i.fails; outs = i.outs; globals = i.globals })
made_of proc blocks p new i nodes roles sites track made n r s t = record {
  instance = i;
  instance_is = subst (λ (ns : List TermNode). IsInstanceOf p ns i) (sym n) made;
  made = ap (λ (x : List Role). template_with i nodes x sites track) r ∙ ap (λ (x : List SiteTerms). template_with i nodes (roles_of blocks p) x track) s
      ∙ ap (λ (x : TrackTerms). template_with i nodes (roles_of blocks p) (sorted_sites (length blocks) i.sites) x) (t ∙ ap (λ (ns : List TermNode). track_of proc blocks ns (layout_of blocks p) i) (sym n));
}
