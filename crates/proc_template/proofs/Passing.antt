-- The path of a run is read off the bits of the edges.
use Rattle.std.proofs.Common.{◌≡◌, ℕ, Bool, true, false, List, [], ◌∷◌, ◌++◌, map, sym, ap, ◌∙◌, refl}
use Rattle.std.specs.Prelude.{Option, None, Some, slice_get, if◌then◌else◌}
use Rattle.std.specs.Option.{option_and_then}
use Rattle.std.proofs.lemmas.Bool.Decides.{nat_tests}
use Rattle.std.proofs.Common.{arith}
use Rattle.hy_val.specs.Values.{at, is_on}
use Rattle.hy_val.specs.declared.value.Value.{Value}
use Rattle.hy_term.specs.Meaning.{values}
use Rattle.hy_term.specs.declared.node.TermNode.{TermNode}
use Rattle.flat_prog.specs.Local.{edges_of}
use Rattle.flat_prog.specs.Shape.{place_at}
use Rattle.flat_prog.specs.declared.block.FlatBlock.{FlatBlock}
use Rattle.flat_prog.specs.declared.proc.FlatProc.{FlatProc}
use Rattle.passive_form.specs.Limited.{Limited}
use Rattle.passive_form.specs.Local.{State, cmds_of, is_target, pass_all, walk}
use Rattle.vc_gen.specs.Exact.{true_edges}
use Rattle.vc_gen.specs.declared.parts.EdgeTerm.{EdgeTerm}
use Rattle.tree_terms.specs.declared.linked.EdgeTerms.{EdgeTerms}
use Rattle.proc_template.specs.Runs.{passed}
use Rattle.proc_template.specs.Track.{edge_to, edges_with}

-- what edges lead to, and their places, where they lead somewhere
abbrev target_if : Option ℕ → List ℕ
target_if None = []
target_if (Some t) = t ∷ []

abbrev place_if : Option ℕ → ℕ → List ℕ
place_if None p = []
place_if (Some t) p = p ∷ []

abbrev targets : List FlatBlock → List (ℕ × ℕ) → List ℕ
targets blocks [] = []
targets blocks (e ∷ es) = target_if (place_at (slice_get blocks e.0) e.1) ++ targets blocks es

abbrev places : List FlatBlock → List (ℕ × ℕ) → List ℕ
places blocks [] = []
places blocks (e ∷ es) = place_if (place_at (slice_get blocks e.0) e.1) e.1 ++ places blocks es

-- ---- edges whose bits are true

read_one : (vs : List Value) (blocks : List FlatBlock) (e : EdgeTerm) (es : List EdgeTerm) (o : Option ℕ) (b : Bool) → is_on (at vs e.node) ≡ b → (pairs : List (ℕ × ℕ)) →
    (map (λ (x : EdgeTerms). x.target) (passed vs (edges_with blocks es)) ≡ targets blocks pairs) × (map (λ (x : EdgeTerms). x.place) (passed vs (edges_with blocks es)) ≡ places blocks pairs) →
    (map (λ (x : EdgeTerms). x.target) (passed vs (edge_to e o ++ edges_with blocks es)) ≡ (if b then target_if o ++ targets blocks pairs else targets blocks pairs))
    × (map (λ (x : EdgeTerms). x.place) (passed vs (edge_to e o ++ edges_with blocks es)) ≡ (if b then place_if o e.place ++ places blocks pairs else places blocks pairs))
read_one vs blocks e es None true h pairs k = k
read_one vs blocks e es None false h pairs k = k
read_one vs blocks e es (Some t) true h pairs k =
    let one : EdgeTerms = record { block = e.block; place = e.place; target = t; node = e.node } in
    let rest = passed vs (edges_with blocks es) in (
      ap (λ (b : Bool). map (λ (x : EdgeTerms). x.target) (if b then one ∷ rest else rest)) h ∙ ap (λ ts. t ∷ ts) k.0,
      ap (λ (b : Bool). map (λ (x : EdgeTerms). x.place) (if b then one ∷ rest else rest)) h ∙ ap (λ ps. e.place ∷ ps) k.1,
    )
read_one vs blocks e es (Some t) false h pairs k =
    let one : EdgeTerms = record { block = e.block; place = e.place; target = t; node = e.node } in
    let rest = passed vs (edges_with blocks es) in (
      ap (λ (b : Bool). map (λ (x : EdgeTerms). x.target) (if b then one ∷ rest else rest)) h ∙ k.0,
      ap (λ (b : Bool). map (λ (x : EdgeTerms). x.place) (if b then one ∷ rest else rest)) h ∙ k.1,
    )

pub true_read : (a : ℕ → Value) (nodes : List TermNode) (blocks : List FlatBlock) (es : List EdgeTerm) →
    (map (λ (x : EdgeTerms). x.target) (passed (values a nodes) (edges_with blocks es)) ≡ targets blocks (true_edges a nodes es))
    × (map (λ (x : EdgeTerms). x.place) (passed (values a nodes) (edges_with blocks es)) ≡ places blocks (true_edges a nodes es))
true_read a nodes blocks [] = (refl, refl)
true_read a nodes blocks (e ∷ es) =
    let vs = values a nodes in
    let o = place_at (slice_get blocks e.block) e.place in
    let b = is_on (at vs e.node) in
    let h = read_one vs blocks e es o b refl (true_edges a nodes es) (true_read a nodes blocks es) in (
      h.0 ∙ spread_targets blocks (e.block, e.place) (true_edges a nodes es) b,
      h.1 ∙ spread_places blocks (e.block, e.place) (true_edges a nodes es) b,
    )
  where
    spread_targets : (blocks : List FlatBlock) (x : ℕ × ℕ) (xs : List (ℕ × ℕ)) (b : Bool) → (if b then target_if (place_at (slice_get blocks x.0) x.1) ++ targets blocks xs else targets blocks xs) ≡ targets blocks (if b then x ∷ xs else xs)
    spread_targets blocks x xs true = refl
    spread_targets blocks x xs false = refl

    spread_places : (blocks : List FlatBlock) (x : ℕ × ℕ) (xs : List (ℕ × ℕ)) (b : Bool) → (if b then place_if (place_at (slice_get blocks x.0) x.1) x.1 ++ places blocks xs else places blocks xs) ≡ places blocks (if b then x ∷ xs else xs)
    spread_places blocks x xs true = refl
    spread_places blocks x xs false = refl

-- ---- a walk

-- where something is there only if a test holds, the test holds
only_if : {A : Type 0} (b : Bool) (o : Option A) (x : A) → (if b then o else None) ≡ Some x → (b ≡ true) × (o ≡ Some x)
only_if true o x h = (refl, h)
only_if false o x h = cc

first_some : {A B : Type 0} (f : A → Option B) (o : Option A) (y : B) → option_and_then f o ≡ Some y → (x : A) × (o ≡ Some x) × (f x ≡ Some y)
first_some f None y h = cc
first_some f (Some x) y h = (x, refl, h)

target_is : (o : Option ℕ) (c : ℕ) → is_target o c ≡ true → o ≡ Some c
target_is None c h = cc
target_is (Some a) c h = let e : a ≡ c = grind (arith, nat_tests, h) in ap Some e

pub walk_reads : (flat : Limited) (q : FlatProc) (b : ℕ) (path ps : List ℕ) (s : State) (r : Option FlatBlock × State) → walk flat q (b ∷ path) ps s ≡ Some r →
    (targets q.blocks (edges_of (b ∷ path) ps) ≡ path) × (places q.blocks (edges_of (b ∷ path) ps) ≡ ps)
walk_reads flat q b [] [] s r h = (refl, refl)
walk_reads flat q b [] (p ∷ ps) s r h = cc
walk_reads flat q b (c ∷ path) [] s r h = cc
walk_reads flat q b (c ∷ path) (p ∷ ps) s r h =
    let o = place_at (slice_get q.blocks b) p in
    let i = only_if (is_target o c) (option_and_then (walk flat q (c ∷ path) ps) (pass_all flat q (cmds_of (slice_get q.blocks b)) s)) r h in
    let t = first_some (walk flat q (c ∷ path) ps) (pass_all flat q (cmds_of (slice_get q.blocks b)) s) r i.1 in
    let rest = walk_reads flat q c path ps t.0 r t.2 in
    let to = target_is o c i.0 in (
      ap (λ x. target_if x ++ targets q.blocks (edges_of (c ∷ path) ps)) to ∙ ap (λ ts. c ∷ ts) rest.0,
      ap (λ x. place_if x p ++ places q.blocks (edges_of (c ∷ path) ps)) to ∙ ap (λ xs. p ∷ xs) rest.1,
    )

-- The edges of a walk are those whose bits are true: what they lead to is the rest of the path, and their places are the walk's.
pub path_reads : (flat : Limited) (q : FlatProc) (a : ℕ → Value) (nodes : List TermNode) (es : List EdgeTerm) (path ps : List ℕ) (s : State) (r : Option FlatBlock × State) → walk flat q (0 ∷ path) ps s ≡ Some r →
    edges_of (0 ∷ path) ps ≡ true_edges a nodes es →
    (map (λ (x : EdgeTerms). x.target) (passed (values a nodes) (edges_with q.blocks es)) ≡ path) × (map (λ (x : EdgeTerms). x.place) (passed (values a nodes) (edges_with q.blocks es)) ≡ ps)
path_reads flat q a nodes es path ps s r h e =
    let one = true_read a nodes q.blocks es in
    let two = walk_reads flat q 0 path ps s r h in
    (one.0 ∙ ap (targets q.blocks) (sym e) ∙ two.0, one.1 ∙ ap (places q.blocks) (sym e) ∙ two.1)
