-- What is made of a table is a question.
use Rattle.std.proofs.Common.{◌≡◌, ℕ, Bool, List, [], length, sym, ap, ◌∙◌, subst}
use Rattle.std.specs.Prelude.{IsTrue, if◌then◌else◌}
use Rattle.hy_val.specs.declared.value.Value.{Value}
use Rattle.hy_term.specs.Formula.{Formula as Terms}
use Rattle.hy_term.specs.Meaning.{fits, Grows}
use Rattle.hy_term.specs.Variables.{below}
use Rattle.hy_term.specs.declared.node.TermNode.{TermNode}
use Rattle.flat_prog.specs.Program.{FlatProgram}
use Rattle.flat_prog.specs.Runs.{are_allowed}
use Rattle.call_tree.specs.declared.piece.Decision2.{Decision2}
use Rattle.tree_terms.specs.Copying.{AreCopied}
use Rattle.tree_terms.specs.Reach.{ReachTo}
use Rattle.tree_terms.specs.Rules.{bit}
use Rattle.tree_terms.specs.Standing.{Later, all_at}
use Rattle.tree_terms.specs.declared.linked.Linked.{Linked}
use Rattle.tree_terms.proofs.Growth.{fits_before, grows_on, map_later}
use Rattle.tree_terms.proofs.Ruling.{bit_stays}
use Rattle.tree_words.specs.Asking.{may_by, rules_of}
use Rattle.tree_words.specs.Reading.{track_by}
use Rattle.tree_words.specs.Rooted.{AreReady, IsRoot, ReachesStay, RootsAreMade}
use Rattle.tree_words.specs.Rooting.{CopiesStay, ReachesAreReached}
use Rattle.tree_words.specs.RulesSaid.{numbered}
use Rattle.tree_query.specs.Asked.{IsAsked, IsTable, caps_of}
use Rattle.tree_query.specs.Asking.{MayAsk}
use Rattle.tree_query.specs.Founded.{IsFoundation}
use Rattle.tree_query.proofs.Founds.{allowed_later, always_later, never_later, still_low}
use Rattle.tree_query.proofs.Nodes.{decisions_low, may_is, named_is}

-- a table whose formulas are copied behind a foundation, and the bools of its nodes
pub record IsReached (q : Linked) (base into mid : List TermNode) (places : List (List ℕ)) (reach : List ℕ) : Type 0 where
  pub done : AreCopied q base into places
  pub reaches : ReachTo q places into mid reach (length q.tree)

mid_low : (q : Linked) (base into mid : List TermNode) (places : List (List ℕ)) (reach : List ℕ) → IsReached q base into mid places reach → IsTrue (below (length mid) mid)
mid_low q base into mid places reach r = still_low into mid r.reaches.grows r.reaches.low r.done.copying.low

-- they are still copied there
pub done_mid : CopiesStay → (flat : FlatProgram) (entry : ℕ) (tree : List (List ℕ)) (q : Linked) (base into mid : List TermNode) (places : List (List ℕ)) (reach : List ℕ) → IsTable flat entry tree base q
    → IsReached q base into mid places reach → AreCopied q base mid places
done_mid law flat entry tree q base into mid places reach t r =
    law q base into mid places t.ready.linked r.done r.reaches.grows r.reaches.sorted r.reaches.fit (mid_low q base into mid places reach r)

pub mid_grows : (q : Linked) (base into mid : List TermNode) (places : List (List ℕ)) (reach : List ℕ) → IsReached q base into mid places reach → Grows base mid
mid_grows q base into mid places reach r = grows_on base into mid r.done.copying.grows r.reaches.grows

-- what the root is made of is there
pub ready_mid : CopiesStay → (flat : FlatProgram) (entry bound : ℕ) (tree : List (List ℕ)) (piece : List (List ℕ × Decision2)) (q : Linked) (base into mid : List TermNode) (places : List (List ℕ)) (reach : List ℕ)
    → MayAsk flat entry bound tree piece → IsTable flat entry tree base q → IsReached q base into mid places reach → AreReady q mid places reach (numbered q piece)
ready_mid law flat entry bound tree piece q base into mid places reach may t r = record {
  root = t.ready.walked.root;
  there = t.ready.bits;
  bools = t.ready.bools;
  base = base;
  done = done_mid law flat entry tree q base into mid places reach t r;
  reaches = r.reaches.bools;
  piece_low = decisions_low q piece t.ready.formulas.nodes (named_is q tree piece t.ready.walked.nodes may.named);
}

pub made : CopiesStay → ReachesStay → ReachesAreReached → RootsAreMade
    → (flat : FlatProgram) (entry bound : ℕ) (blocked : Bool) (tree : List (List ℕ)) (piece : List (List ℕ × Decision2)) (q : Linked) (f : Terms) (base into mid : List TermNode)
    (places : List (List ℕ)) (reach : List ℕ) (table : List (List Bool)) (allowed always never : ℕ)
    → MayAsk flat entry bound tree piece → IsFoundation flat entry base q.consts q.globals q.args allowed always never → IsTable flat entry tree base q → IsReached q base into mid places reach
    → table ≡ (if blocked then [] else caps_of flat entry bound tree)
    → IsRoot q places allowed mid (rules_of q places reach (may_by table) always never (numbered q piece)) f.nodes f.root
    → IsAsked flat entry bound blocked tree piece q f places reach
made copies stay reached roots flat entry bound blocked tree piece q f base into mid places reach table allowed always never may found t r is root = record {
  limits = t.limits;
  limits_are = t.limits_are;
  base = base;
  may = may_by table;
  walked = t.ready.walked;
  formulas = t.ready.formulas;
  made = record {
    filled = t.ready.filled;
    bits = t.ready.bits;
    signed = t.ready.signed;
    linked = t.ready.linked;
    done = copies q base mid f.nodes places t.ready.linked copied root.grows root.sorted root.fit (still_low mid f.nodes root.grows root.low (mid_low q base into mid places reach r));
    paths = t.ready.paths;
    at_base = t.ready.at_base;
    may_is = λ p i here out. may_is flat entry bound blocked tree q table p i t.ready.walked t.ready.formulas.nodes is here out;
    reached = λ a fit. reached q track_by places into f.nodes reach a t.ready.filled reaches fit;
    root =
        roots flat q places reach (may_by table) always never allowed piece mid f (ready_mid copies flat entry bound tree piece q base into mid places reach may t r)
        (always_later flat entry base mid q.consts q.globals q.args allowed always never found r.reaches.sorted grows)
        (never_later flat entry base mid q.consts q.globals q.args allowed always never found r.reaches.sorted grows)
        (allowed_later flat entry base mid q.consts q.globals q.args allowed always never found r.reaches.sorted grows) says root;
  };
}
  where
    copied : AreCopied q base mid places
    copied = done_mid copies flat entry tree q base into mid places reach t r

    grows : Grows base mid
    grows = mid_grows q base into mid places reach r

    reaches : ReachTo q places into f.nodes reach (length q.tree)
    reaches = stay q places into mid f.nodes reach r.reaches (t.ready.sites mid places copied) root.grows root.sorted root.fit root.low

    later : Later base f.nodes
    later = record { nodes = grows_on base mid f.nodes grows root.grows; sound = root.sorted }

    says : (a : ℕ → Value) → IsTrue (fits a mid) → bit a mid allowed ≡ are_allowed flat (all_at a f.nodes q.consts)
    says a fit =
        bit_stays a base mid allowed found.sorted grows found.bool
        ∙ (found.says a (fits_before a base mid grows fit) ∙ ap (are_allowed flat) (sym (map_later base f.nodes a q.consts flat.consts later t.ready.signed.consts)))

pub root_same : (q : Linked) (places : List (List ℕ)) (allowed : ℕ) (mid new : List TermNode) (root always never : ℕ) (reach reach2 : List ℕ) (table table2 : List (List Bool)) (ds ds2 : List (ℕ × Decision2)) (f : Terms)
    → reach2 ≡ reach → table2 ≡ table → ds2 ≡ ds → f.nodes ≡ new → f.root ≡ root → IsRoot q places allowed mid (rules_of q places reach2 (may_by table2) always never ds2) new root
    → IsRoot q places allowed mid (rules_of q places reach (may_by table) always never ds) f.nodes f.root
root_same q places allowed mid new root always never reach reach2 table table2 ds ds2 f re te de ne oe h =
    let one = subst (λ (r : List ℕ). IsRoot q places allowed mid (rules_of q places r (may_by table2) always never ds2) new root) re h in
    let two = subst (λ (t : List (List Bool)). IsRoot q places allowed mid (rules_of q places reach (may_by t) always never ds2) new root) te one in
    let three = subst (λ (d : List (ℕ × Decision2)). IsRoot q places allowed mid (rules_of q places reach (may_by table) always never d) new root) de two in
    let four = subst (λ (n : List TermNode). IsRoot q places allowed mid (rules_of q places reach (may_by table) always never ds) n root) (sym ne) three in
    subst (λ (r : ℕ). IsRoot q places allowed mid (rules_of q places reach (may_by table) always never ds) f.nodes r) (sym oe) four
