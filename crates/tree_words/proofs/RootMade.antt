-- The root that is made is what a question asks for.
use Rattle.std.proofs.Common.{◌≡◌, ℕ, suc, Bool, true, false, ◌&&◌, List, [], ◌∷◌, refl, sym, ap, ◌∙◌, subst}
use Rattle.std.specs.Prelude.{Option, IsSome, if◌then◌else◌}
use Rattle.std.proofs.lemmas.Bool.{and_parts, and_from}
use Rattle.hy_val.specs.declared.value.Value.{Value}
use Rattle.hy_val.specs.declared.atom.Atom.{Atom}
use Rattle.hy_val.specs.declared.atom.AtomKind.TheVariants.{Bool as BoolAtom}
use Rattle.hy_val.specs.Values.{is_on}
use Rattle.hy_term.specs.declared.node.TermNode.TheVariants.{Lit}
use Rattle.tree_terms.specs.Copies.{IsPlaced}
use Rattle.std.specs.Option.{option_and_then}
use Rattle.hy_val.specs.declared.sort.Sort.{Sort}
use Rattle.hy_term.specs.TermSorts.{sorts, sort_of_node}
use Rattle.hy_term.specs.Meaning.{Grows}
use Rattle.hy_term.specs.declared.node.TermNode.{TermNode}
use Rattle.call_tree.specs.declared.piece.Decision2.{Decision2}
use Rattle.tree_terms.proofs.Growth.{grows_on, fits_before, sorts_are}
use Rattle.tree_terms.specs.declared.linked.Linked.{Linked}
use Rattle.tree_terms.specs.Linked.{template_of}
use Rattle.tree_terms.specs.declared.rules.Rule.{Rule}
use Rattle.tree_terms.specs.Rules.{IsBool, IsBit, IsFalse, RulesFit, bit, rule_holds, rules_hold}
use Rattle.tree_terms.specs.Reach.{IsAlways}
use Rattle.tree_terms.proofs.Ruling.{bit_stays, rule_stays, fits_later}
use Rattle.tree_words.specs.Linking.{fails_by}
use Rattle.tree_words.specs.Rooting.{term}
use Rattle.tree_words.specs.Asking.{rules_of}
use Rattle.tree_words.specs.RulesSaid.{numbered}
use Rattle.tree_words.specs.Rooted.{AreReady, RootsAreMade}
use Rattle.tree_words.proofs.Fitting.{copy_bool, rules_are_fit}
use Rattle.tree_words.proofs.RuleSaying.{rules_are_said}

pub ready_fit : (q : Linked) (into : List TermNode) (places : List (List ℕ)) (reach : List ℕ) (may : ℕ → ℕ → Bool) (always never : ℕ) (piece : List (ℕ × Decision2)) → AreReady q into places reach piece
    → IsAlways into always → IsFalse into never → RulesFit into (rules_of q places reach may always never piece)
ready_fit q into places reach may always never piece h a n = rules_are_fit q h.base into places reach may always never piece h.there h.bools h.done h.reaches a.bool n.bool h.piece_low

-- the bit that the entry's run fails
fails_bool : (q : Linked) (into : List TermNode) (places : List (List ℕ)) (reach : List ℕ) (piece : List (ℕ × Decision2)) → AreReady q into places reach piece → IsBool into (term places 0 (fails_by (template_of q 0)))
fails_bool q into places reach piece h = copy_bool q h.base into places reach (λ m i. true) h.there h.bools h.done h.reaches 0 (fails_by (template_of q 0)) h.root (h.there.fails 0 h.root) (h.bools.fails 0 h.root)

pub all_later : (old new : List TermNode) (rs : List Rule) → IsSome (sorts old) → IsSome (sorts new) → Grows old new → RulesFit old rs → RulesFit new rs
all_later old new rs ok new_ok g h k r is = fits_later old new r ok new_ok g (h k r is)

all_stay : (a : ℕ → Value) (old new : List TermNode) (rs : List Rule) → IsSome (sorts old) → Grows old new → RulesFit old rs → rules_hold (bit a new) rs ≡ rules_hold (bit a old) rs
all_stay a old new [] ok g h = refl
all_stay a old new (r ∷ rs) ok g h =
    ap (λ (b : Bool). b && rules_hold (bit a new) rs) (rule_stays a old new r ok g (h 0 r refl))
    ∙ ap (λ (b : Bool). rule_holds (bit a old) r && b) (all_stay a old new rs ok g (λ k s is. h (suc k) s is))

if_and : (x y z : Bool) → z ≡ false → (if x then y else z) ≡ (x && y)
if_and true y z e = refl
if_and false y z e = e

pub root_is : (old mid new : List TermNode) (fails axioms never start t : ℕ) (rules : List Rule) → IsSome (sorts old) → IsFalse old never → RulesFit old rules
    → IsBit old mid (λ a. if bit a old fails then bit a old axioms else bit a old never) start → IsBit mid new (λ a. bit a mid start && rules_hold (bit a mid) rules) t
    → IsBit old new (λ a. (bit a old fails && bit a old axioms) && rules_hold (bit a old) rules) t
root_is old mid new fails axioms never start t rules ok off fit one two = record {
  grows = grows_on old mid new one.grows two.grows;
  sorted = two.sorted;
  bool = two.bool;
  fit = λ a f. two.fit a (one.fit a f);
  low = λ j x. two.low j (one.low j x);
  means = λ a f.
      let g = fits_before a mid new two.grows f in
      two.means a f
      ∙ (ap (λ (b : Bool). b && rules_hold (bit a mid) rules) (one.means a g ∙ if_and (bit a old fails) (bit a old axioms) (bit a old never) (off.off a (fits_before a old mid one.grows g)))
      ∙ ap (λ (b : Bool). (bit a old fails && bit a old axioms) && b) (all_stay a old mid rules ok one.grows fit));
}

pub roots_are_made : RootsAreMade
roots_are_made flat q places reach may always never axioms piece old f ready a_is n_is x_is allowed root a fit =
    let rules = rules_of q places reach may always never (numbered q piece) in
    let old_fit = fits_before a old f.nodes root.grows fit in
    let ok = ready.done.copying.sorted in
    let rules_fit = ready_fit q old places reach may always never (numbered q piece) ready a_is n_is in
    let fails = term places 0 (fails_by (template_of q 0)) in
    let same : rules_hold (bit a f.nodes) rules ≡ rules_hold (bit a old) rules = all_stay a old f.nodes rules ok root.grows rules_fit in
    let fails_same : bit a f.nodes fails ≡ bit a old fails = bit_stays a old f.nodes fails ok root.grows (fails_bool q old places reach (numbered q piece) ready) in
    let say = rules_are_said q places reach may always never piece (bit a f.nodes)
    (bit_stays a old f.nodes always ok root.grows a_is.bool ∙ a_is.on a old_fit) (bit_stays a old f.nodes never ok root.grows n_is.bool ∙ n_is.off a old_fit) in (
      λ h.
          let b = and_parts (bit a old fails && bit a old axioms) (rules_hold (bit a old) rules) (sym (root.means a fit) ∙ h) in
          let c = and_parts (bit a old fails) (bit a old axioms) b.0 in
          (fails_same ∙ c.0, sym (allowed a old_fit) ∙ c.1, say.0 (same ∙ b.1)),
      λ h. root.means a fit ∙ and_from (bit a old fails && bit a old axioms) (rules_hold (bit a old) rules) (and_from (bit a old fails) (bit a old axioms) (sym fails_same ∙ h.0) (allowed a old_fit ∙ h.1))
          (sym same ∙ say.1 h.2),
    )

pub made : (old mid new : List TermNode) (fails fails2 axioms never start t : ℕ) (rules rules2 : List Rule) → fails2 ≡ fails → rules2 ≡ rules → IsSome (sorts old) → IsFalse old never → RulesFit old rules
    → IsBit old mid (λ a. if bit a old fails2 then bit a old axioms else bit a old never) start → IsBit mid new (λ a. bit a mid start && rules_hold (bit a mid) rules2) t
    → IsBit old new (λ a. (bit a old fails && bit a old axioms) && rules_hold (bit a old) rules) t
made old mid new fails fails2 axioms never start t rules rules2 e g ok off fit one two =
    root_is old mid new fails axioms never start t rules ok off fit
    (subst (λ (n : ℕ). IsBit old mid (λ a. if bit a old n then bit a old axioms else bit a old never) start) e one)
    (subst (λ (rs : List Rule). IsBit mid new (λ a. bit a mid start && rules_hold (bit a mid) rs) t) g two)

-- a literal
pub literal_is : (old new : List TermNode) (b : Bool) (x : Atom) (t : ℕ) → IsSome (sorts old) → x ≡ BoolAtom b → IsPlaced old new (Lit x) t → IsBit old new (λ a. b) t
literal_is old new b x t ok e p0 =
    let p = subst (λ (y : Atom). IsPlaced old new (Lit y) t) e p0 in
    record { grows = p.grows; sorted = p.sorted; bool = p.sort ∙ ap (λ (o : Option (List Sort)). option_and_then (λ (ss : List Sort). sort_of_node ss (Lit (BoolAtom b))) o) (sorts_are (sorts old) ok).1; fit = λ a h. p.fits a h refl; low = λ k h. p.low k h refl; means = λ a h. ap is_on (p.means a h) }
