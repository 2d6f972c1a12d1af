-- What a call is asked for reads no variable from its own on; the globals behind it have their sorts.
use Rattle.std.proofs.Common.{◌≡◌, ℕ, zero, suc, ◌<◌, ◌≤◌, Bool, true, false, List, [], ◌∷◌, ◌++◌, map, length, take, drop, arith, sym, ◌∙◌, ap, refl, subst}
use Rattle.std.specs.Prelude.{Some, slice_get}
use Rattle.std.proofs.lemmas.Bool.Decides.{nat_tests}
use Rattle.std.proofs.lemmas.List.{take-append-drop, length-take-le}
use Rattle.hy_val.specs.Values.{at}
use Rattle.hy_val.specs.declared.sort.Sort.{Sort}
use Rattle.hy_val.specs.declared.value.Value.{Value}
use Rattle.hy_term.specs.Meaning.{node_value, values_onto, value}
use Rattle.hy_term.specs.Variables.{node_below, below}
use Rattle.hy_term.specs.declared.node.TermNode.{TermNode}
use Rattle.hy_term.specs.declared.node.TermNode.TheVariants.{Lit, ZeroMap, Variable, Unary, Binary, If, Select, Store}
use Rattle.hy_term.specs.Laws.{ValuesStay}
use Rattle.passive_form.specs.Local.{picked, replaced}
use Rattle.flat_prog.specs.Limits.{row}
use Rattle.vc_gen.specs.Emit.{AllBefore, AreVariables, SiteThere}
use Rattle.vc_gen.specs.Instance.{all_at}
use Rattle.vc_gen.specs.Requests.{GlobalsBehindCalls, CallsReadBefore}
use Rattle.vc_gen.specs.Standing.{AreOf}
use Rattle.vc_gen.specs.declared.parts.SiteTerm.{SiteTerm}
use Rattle.vc_gen.proofs.Joining.{and_first, and_second}

-- ---- nodes whose variables are below a number

node_same : (a b : ℕ → Value) (k : ℕ) (known : List Value) (node : TermNode) → ((n : ℕ) → n < k → a n ≡ b n) → node_below k node ≡ true → node_value a known node ≡ node_value b known node
node_same a b k known (Lit v) h l = refl
node_same a b k known (ZeroMap index elem) h l = refl
node_same a b k known (Variable number sort) h l = let m : number < k = grind (arith, nat_tests, l) in h number m
node_same a b k known (Unary op child) h l = refl
node_same a b k known (Binary op left right) h l = refl
node_same a b k known (If test one other) h l = refl
node_same a b k known (Select map index) h l = refl
node_same a b k known (Store map index value) h l = refl

pub values_same : (a b : ℕ → Value) (k : ℕ) (known : List Value) (nodes : List TermNode) → ((n : ℕ) → n < k → a n ≡ b n) → below k nodes ≡ true → values_onto a known nodes ≡ values_onto b known nodes
values_same a b k known [] h l = refl
values_same a b k known (node ∷ nodes) h l =
    ap (λ v. values_onto a (known ++ v ∷ []) nodes) (node_same a b k known node h (and_first (node_below k node) (below k nodes) l))
    ∙ values_same a b k (known ++ node_value b known node ∷ []) nodes h (and_second (node_below k node) (below k nodes) l)

within : (nodes : List TermNode) (i : ℕ) (n : TermNode) → slice_get nodes i ≡ Some n → i < length nodes
within [] i n h = cc
within (x ∷ nodes) zero n h = omega arith
within (x ∷ nodes) (suc i) n h = let l = within nodes i n h in omega (arith, l)

first_within : (nodes : List TermNode) (t : ℕ) (ts : List ℕ) (k : ℕ) (ss : List Sort) → AreVariables nodes (t ∷ ts) k ss → t < length nodes
first_within nodes t ts k [] h = absurd h
first_within nodes t ts k (s ∷ ss) (h, hs) = within nodes t (Variable k s) h

-- a node at the front
at_front : ValuesStay → (a : ℕ → Value) (nodes : List TermNode) (i t : ℕ) → i ≤ length nodes → t < i → value a nodes t ≡ value a (take i nodes) t
at_front stay a nodes i t l m =
    let n : length (take i nodes) ≡ i = length-take-le i nodes l in
    ap (λ (ns : List TermNode). value a ns t) (sym (take-append-drop i nodes)) ∙ stay a (take i nodes) (drop i nodes) t (omega (arith, m, n))

each_before : ValuesStay → (nodes : List TermNode) (s : SiteTerm) (a b : ℕ → Value) → SiteThere nodes s → ((n : ℕ) → n < s.first → a n ≡ b n) → (t : ℕ) → t < s.failed → value a nodes t ≡ value b nodes t
each_before stay nodes s a b h same t l =
    let there = first_within nodes s.failed (s.outs ++ s.changed) s.first h.variables.0 h.variables.1 in
    let in_it : s.failed ≤ length nodes = omega (arith, there) in
    at_front stay a nodes s.failed t in_it l ∙ ap (λ (vs : List Value). at vs t) (values_same a b s.first [] (take s.failed nodes) same h.numbers) ∙ sym (at_front stay b nodes s.failed t in_it l)

all_before : (nodes : List TermNode) (a b : ℕ → Value) (i : ℕ) → ((t : ℕ) → t < i → value a nodes t ≡ value b nodes t) → (ts : List ℕ) → AllBefore i ts → all_at a nodes ts ≡ all_at b nodes ts
all_before nodes a b i same [] h = refl
all_before nodes a b i same (t ∷ ts) (h, hs) = ap (λ v. v ∷ all_at a nodes ts) (same t h) ∙ ap (λ vs. value b nodes t ∷ vs) (all_before nodes a b i same ts hs)

pub read_before : ValuesStay → CallsReadBefore
read_before stay nodes s a b h same =
    let each = each_before stay nodes s a b h same in
    record { each = each; args = all_before nodes a b s.failed each s.args h.args_before; globals = all_before nodes a b s.failed each s.globals_before h.globals_before }

-- ---- globals behind a call

replaced_have : (nodes : List TermNode) (ms : List Bool) (ts us : List ℕ) (ss : List Sort) → AreOf nodes ts ss → AreOf nodes us (picked ms ss) → AreOf nodes (replaced ms ts us) ss
replaced_have nodes [] ts us ss h k = h
replaced_have nodes (m ∷ ms) [] us ss h k = h
replaced_have nodes (m ∷ ms) (t ∷ ts) us [] h k = absurd h
replaced_have nodes (true ∷ ms) (t ∷ ts) [] (s ∷ ss) h k = h
replaced_have nodes (true ∷ ms) (t ∷ ts) (u ∷ us) (s ∷ ss) (h, hs) (k, ks) = (k, replaced_have nodes ms ts us ss hs ks)
replaced_have nodes (false ∷ ms) (t ∷ ts) us (s ∷ ss) (h, hs) k = (h, replaced_have nodes ms ts us ss hs k)

pub globals_behind : GlobalsBehindCalls
globals_behind flat nodes s signed asked =
    subst (λ (ts : List ℕ). AreOf nodes ts flat.globals) (sym signed.after_is) (replaced_have nodes (row flat.changes s.proc) s.globals_before s.changed flat.globals asked.before_are signed.changed_are)
