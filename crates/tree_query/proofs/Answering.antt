-- The terms of a question can hold exactly where it has a member, which is read off their values.
use Rattle.std.proofs.Common.{◌≡◌, ℕ, zero, suc, ◌<◌, length, arith, Bool, true, false, not, List, [], ◌∷◌, ◌++◌, refl, sym, ap, ◌∙◌, subst, true≢false}
use Rattle.std.specs.Prelude.{◌↔◌, Option, None, Some, is_some}
use Rattle.std.specs.Option.{option_and_then}
use Rattle.std.proofs.Math.Path.{fun_ext}
use Rattle.std.proofs.lemmas.Bool.{and_parts}
use Rattle.hy_val.specs.declared.value.Value.{Value}
use Rattle.hy_term.specs.Formula.{Formula as Terms}
use Rattle.hy_term.specs.Meaning.{CanHold, values}
use Rattle.hy_term.specs.Variables.{numbers, of_list}
use Rattle.cnf_form.specs.declared.refuted.Refuted.{Refuted}
use Rattle.flat_prog.specs.Changes.{MayBe}
use Rattle.flat_prog.specs.Local.{have_sorts}
use Rattle.flat_prog.specs.Nodes.{run_of}
use Rattle.flat_prog.specs.Program.{FlatProgram}
use Rattle.flat_prog.specs.Shape.{IsFlat}
use Rattle.flat_prog.specs.Trees.{Run}
use Rattle.flat_prog.specs.declared.proc.FlatProc.{FlatProc}
use Rattle.flat_prog.specs.declared.run.RunNode.{RunNode}
use Rattle.call_tree.specs.Questions.{IsOver}
use Rattle.call_tree.specs.Trees.{all_sites, has_path, is_open, IsPartTree, open_of}
use Rattle.call_tree.specs.declared.piece.Decision2.{Decision2}
use Rattle.call_tree.proofs.PartTrees.{filter_has}
use Rattle.decide.specs.Decided.{IsDecision, IsModel}
use Rattle.decide.specs.declared.decision.Decision.TheVariants.{Refuted as RefutedDecision}
use Rattle.template_law.specs.Formulas.{AreChanges}
use Rattle.template_law.specs.Plans.{callee_of, PartsAreMet}
use Rattle.template_law.specs.Sounds.{SoundPartsAreMet}
use Rattle.tree_terms.specs.declared.linked.Linked.{Linked}
use Rattle.tree_terms.specs.declared.linked.SiteTerms.{SiteTerms}
use Rattle.tree_terms.specs.Linked.{kid, site_of}
use Rattle.tree_words.specs.Compose.{Parts}
use Rattle.tree_words.specs.Filling.{back_of, call_fits, free_fits, own_fits}
use Rattle.tree_words.specs.Linking.{args_of, globals_of, is_node_of, number, number_or, place_at, proc_by, proc_of, put_at, template_at, walk}
use Rattle.tree_words.specs.Members.{MembersAreOver, QuestionsStand}
use Rattle.tree_words.specs.NodesRead.{NodesAreMembers}
use Rattle.tree_words.specs.Put.{MadeAreQuestions}
use Rattle.tree_words.specs.Question.{IsMember}
use Rattle.tree_words.specs.Reading.{free_by, nodes_read, track_by}
use Rattle.tree_words.specs.Template.{viewer_of}
use Rattle.tree_words.specs.Whole.{SoundParts}
use Rattle.tree_query.specs.Answered.{AnswerIs, AreMembers, HasMember, Stands}
use Rattle.tree_query.specs.Asked.{IsAsked}
use Rattle.tree_query.specs.Asking.{MayAsk}
use Rattle.tree_query.specs.Walked.{IsWalked, path_at}
use Rattle.tree_query.specs.declared.asking.QueryAnswer.TheVariants.{Run as RunAnswer, Refuted as RefutedAnswer}
use Rattle.tree_query.proofs.Nodes.{height_of, is_tree, named_is}

not_true : (b : Bool) → not b ≡ true → b ≡ false
not_true true h = sym h
not_true false h = refl

-- an open site is no node
apart : (flat : FlatProgram) (entry bound : ℕ) (tree : List (List ℕ)) (q : Linked) → IsWalked flat entry tree q → (p : List ℕ) → has_path (open_of flat entry bound tree) p ≡ true → is_node_of q p ≡ false
apart flat entry bound tree q w p h =
    let f = filter_has (is_open flat entry bound tree) (all_sites flat entry tree) p h in
    w.nodes p ∙ not_true (has_path tree p) (and_parts _ (not (has_path tree p)) f.0).1

-- what the formulas owe
record AreMet (flat : FlatProgram) (changes : List (List ℕ)) (entry bound : ℕ) (tree : List (List ℕ)) (q : Linked) : Type 0 where
  sound : (vs : List Value) → have_sorts vs flat.consts ≡ true
      → SoundParts flat (MayBe flat) (is_node_of q) (has_path (open_of flat entry bound tree)) (free_by changes) vs (λ p. viewer_of vs (template_at q track_by p)) (own_fits q) (free_fits flat q) (call_fits flat q entry)
  complete : (vs : List Value) → have_sorts vs flat.consts ≡ true
      → Parts flat (MayBe flat) (is_node_of q) (has_path (open_of flat entry bound tree)) (free_by changes) vs (λ p. viewer_of vs (template_at q track_by p)) (λ p own. own_fits q p own ≡ true)
      (λ p i ret. free_fits flat q p i ret ≡ true) (callee_of q) (λ p. proc_of q entry (number q p)) entry

proc_is : (q : Linked) (entry m c : ℕ) (s : SiteTerms) → m < c → site_of q c ≡ Some s → proc_of q entry c ≡ s.proc
proc_is q entry m zero s low is = absurd (omega (arith, low))
proc_is q entry m (suc c) s low is = ap proc_by is

snoc_by : (q : Linked) (p : List ℕ) (i : ℕ) (o : Option ℕ) → ((c : ℕ) → walk q c (p ++ i ∷ []) ≡ option_and_then (λ d. kid q d i) (walk q c p))
    → option_and_then (λ c. walk q c (p ++ i ∷ [])) o ≡ option_and_then (λ d. kid q d i) (option_and_then (λ c. walk q c p) o)
snoc_by q p i None ih = refl
snoc_by q p i (Some c) ih = ih c

some_same : (o : Option ℕ) → option_and_then (λ c. Some c) o ≡ o
some_same None = refl
some_same (Some c) = refl

walk_snoc : (q : Linked) (m : ℕ) (p : List ℕ) (i : ℕ) → walk q m (p ++ i ∷ []) ≡ option_and_then (λ d. kid q d i) (walk q m p)
walk_snoc q m [] i = some_same (kid q m i)
walk_snoc q m (j ∷ p) i = snoc_by q p i (kid q m j) (λ c. walk_snoc q c p i)

number_is : (o : Option ℕ) → is_some o ≡ true → o ≡ Some (number_or o)
number_is None h = cc
number_is (Some n) h = refl

-- a node is one of the procedure that its site calls
called : (flat : FlatProgram) (entry bound : ℕ) (tree : List (List ℕ)) (q : Linked) → IsWalked flat entry tree q → IsPartTree flat entry bound tree → ((r : List ℕ) → is_node_of q r ≡ true → number q r < length q.tree)
    → (p : List ℕ) (i : ℕ) → is_node_of q (p ++ i ∷ []) ≡ true → proc_of q entry (number q (p ++ i ∷ [])) ≡ callee_of q p i
called flat entry bound tree q w part low p i here =
    let up : is_node_of q p ≡ true = (is_tree flat entry bound tree q part w).closed p (i ∷ []) here in
    let at : walk q 0 p ≡ Some (number q p) = number_is (walk q 0 p) up in
    let kid_is : kid q (number q p) i ≡ Some (number q (p ++ i ∷ [])) =
    sym (walk_snoc q 0 p i ∙ ap (λ (o : Option ℕ). option_and_then (λ d. kid q d i) o) at) ∙ number_is (walk q 0 (p ++ i ∷ [])) here in
    let k = w.kids (number q p) i (number q (p ++ i ∷ [])) (low p up) kid_is in
    proc_is q entry (number q p) (number q (p ++ i ∷ [])) k.site k.behind k.called ∙ sym (ap proc_by k.site_there)

are_met : SoundPartsAreMet → PartsAreMet → (flat : FlatProgram) (changes : List (List ℕ)) (entry bound : ℕ) (blocked : Bool) (tree : List (List ℕ)) (piece : List (List ℕ × Decision2)) (q : Linked) (f : Terms)
    (places : List (List ℕ)) (reach : List ℕ) → IsFlat flat → AreChanges flat changes → IsPartTree flat entry bound tree → IsAsked flat entry bound blocked tree piece q f places reach → AreMet flat changes entry bound tree q
are_met sounds parts flat changes entry bound blocked tree piece q f places reach is_flat are_changes part x = record {
  sound = λ vs h. sounds flat x.limits changes entry q (has_path (open_of flat entry bound tree)) vs is_flat x.limits_are are_changes x.formulas h (apart flat entry bound tree q x.walked);
  complete = λ vs h. parts flat x.limits changes entry q (has_path (open_of flat entry bound tree)) vs is_flat x.limits_are are_changes x.formulas h
      (apart flat entry bound tree q x.walked) (called flat entry bound tree q x.walked part x.formulas.nodes);
}

same_nodes : (flat : FlatProgram) (entry : ℕ) (tree : List (List ℕ)) (q : Linked) → IsWalked flat entry tree q → is_node_of q ≡ has_path tree
same_nodes flat entry tree q w = fun_ext w.nodes

is_over : MembersAreOver → (flat : FlatProgram) (entry bound : ℕ) (tree : List (List ℕ)) (piece : List (List ℕ × Decision2)) (q : Linked) (run : Run) → IsWalked flat entry tree q
    → IsMember flat entry (MayBe flat) (is_node_of q) (has_path (open_of flat entry bound tree)) piece run → IsOver flat entry bound tree piece run
is_over law flat entry bound tree piece q run w m =
    (law flat entry bound tree piece run).1 (subst (λ (n : List ℕ → Bool). IsMember flat entry (MayBe flat) n (has_path (open_of flat entry bound tree)) piece run) (same_nodes flat entry tree q w) m)

is_member : MembersAreOver → (flat : FlatProgram) (entry bound : ℕ) (tree : List (List ℕ)) (piece : List (List ℕ × Decision2)) (q : Linked) (run : Run) → IsWalked flat entry tree q
    → IsOver flat entry bound tree piece run → IsMember flat entry (MayBe flat) (is_node_of q) (has_path (open_of flat entry bound tree)) piece run
is_member law flat entry bound tree piece q run w m =
    subst (λ (n : List ℕ → Bool). IsMember flat entry (MayBe flat) n (has_path (open_of flat entry bound tree)) piece run) (sym (same_nodes flat entry tree q w)) ((law flat entry bound tree piece run).0 m)

pub stands : NodesAreMembers → MadeAreQuestions → QuestionsStand → MembersAreOver → SoundPartsAreMet → PartsAreMet
    → (flat : FlatProgram) (changes : List (List ℕ)) (entry bound : ℕ) (blocked : Bool) (tree : List (List ℕ)) (piece : List (List ℕ × Decision2)) (q : Linked) (f : Terms) (places : List (List ℕ)) (reach : List ℕ)
    → IsFlat flat → AreChanges flat changes → MayAsk flat entry bound tree piece → IsAsked flat entry bound blocked tree piece q f places reach
    → Stands changes blocked flat entry bound tree piece q f places reach
stands read questions hold over sounds parts flat changes entry bound blocked tree piece q f places reach is_flat are_changes may x =
    let met = are_met sounds parts flat changes entry bound blocked tree piece q f places reach is_flat are_changes may.fits x in
    let names = named_is q tree piece x.walked.nodes may.named in
    let is_tree_of = is_tree flat entry bound tree q may.fits x.walked in
    let members =
    read flat entry changes (has_path (open_of flat entry bound tree)) blocked (height_of tree) piece q x.base f places (path_at tree) reach x.may (callee_of q) x.made is_tree_of names met.sound met.complete in
    let question =
    questions flat entry (has_path (open_of flat entry bound tree)) blocked (free_by changes) (height_of tree) piece q track_by x.base f places (path_at tree) reach x.may (callee_of q) x.made is_tree_of names met.sound met.complete in
    let both =
    hold flat entry (is_node_of q) (has_path (open_of flat entry bound tree)) blocked (free_by changes) (height_of tree) piece f (template_at q track_by) (put_at q places) (place_at q places) q.consts
    (λ p. globals_of q places (number q p)) (λ p. args_of q places (number q p)) (λ p. proc_of q entry (number q p)) (callee_of q) (own_fits q) (free_fits flat q) (call_fits flat q entry)
    (λ a. back_of q places f.nodes a) question in
    record {
      holds_where = (
        λ h. let m = both.0 h in (m.0, is_over over flat entry bound tree piece q m.0 x.walked m.1, m.2),
        λ m. both.1 (m.0, is_member over flat entry bound tree piece q m.0 x.walked m.1, m.2),
      );
      reads = λ a fit on.
          let m = members.0 a fit on in
          record {
            fit = m.fit;
            over = is_over over flat entry bound tree piece q (run_of (nodes_read flat.procs changes q places reach (values a f.nodes))) x.walked m.member;
            whole_run = m.whole_run;
            whole = m.whole;
          };
    }

-- ---- answers

-- the nodes that are read off a model answer the question
pub run_answers : (changes : List (List ℕ)) (flat : FlatProgram) (entry bound : ℕ) (blocked : Bool) (tree : List (List ℕ)) (piece : List (List ℕ × Decision2)) (q : Linked) (f : Terms) (places : List (List ℕ)) (reach : List ℕ)
    (vs : List Value) (nodes : List RunNode) → Stands changes blocked flat entry bound tree piece q f places reach → IsModel f vs
    → nodes ≡ nodes_read flat.procs changes q places reach (values (of_list (numbers f.nodes) vs) f.nodes) → AnswerIs blocked flat entry bound tree piece (RunAnswer nodes)
run_answers changes flat entry bound blocked tree piece q f places reach vs nodes s m is =
    by_case blocked (subst (λ (ns : List RunNode). AreMembers blocked flat entry bound tree piece ns) (sym is) (s.reads (of_list (numbers f.nodes) vs) m.fits m.holds))
  where
    by_case : (b : Bool) → AreMembers b flat entry bound tree piece nodes → AnswerIs b flat entry bound tree piece (RunAnswer nodes)
    by_case false a = a.over
    by_case true a = (record { over = a.over; whole = a.whole_run refl }, a.whole refl)

-- the formula that is refuted answers it
pub refuted_answers : (changes : List (List ℕ)) (flat : FlatProgram) (entry bound : ℕ) (blocked : Bool) (tree : List (List ℕ)) (piece : List (List ℕ × Decision2)) (q : Linked) (f : Terms) (places : List (List ℕ)) (reach : List ℕ)
    (r : Refuted) → Stands changes blocked flat entry bound tree piece q f places reach → IsDecision f (RefutedDecision r) → AnswerIs blocked flat entry bound tree piece (RefutedAnswer r)
refuted_answers changes flat entry bound blocked tree piece q f places reach r s d = by_case blocked s.holds_where
  where
    by_case : (b : Bool) → CanHold f ↔ HasMember b flat entry bound tree piece → AnswerIs b flat entry bound tree piece (RefutedAnswer r)
    by_case false h = (
      (λ sat. let m = h.0 (d.0.0 sat) in (m.0, m.1), λ m. d.0.1 (h.1 (m.0, m.1, λ e. absurd (true≢false (sym e))))),
      λ run o. d.1 (h.1 (run, o, λ e. absurd (true≢false (sym e)))),
    )
    by_case true h = (
      (λ sat. let m = h.0 (d.0.0 sat) in (m.0, record { over = m.1; whole = m.2 refl }), λ m. d.0.1 (h.1 (m.0, m.1.over, λ e. m.1.whole))),
      λ run u. d.1 (h.1 (run, u.over, λ e. u.whole)),
    )

pub read_same : (procs procs2 : List FlatProc) (changes : List (List ℕ)) (q : Linked) (places : List (List ℕ)) (reach reach2 : List ℕ) (vs vs2 : List Value) (nodes : List RunNode) → procs2 ≡ procs → reach2 ≡ reach → vs2 ≡ vs
    → nodes ≡ nodes_read procs2 changes q places reach2 vs2 → nodes ≡ nodes_read procs changes q places reach vs
read_same procs procs2 changes q places reach reach2 vs vs2 nodes pe re ve is =
    is ∙ ap (λ (p : List FlatProc). nodes_read p changes q places reach2 vs2) pe ∙ ap (λ (r : List ℕ). nodes_read procs changes q places r vs2) re ∙ ap (λ (v : List Value). nodes_read procs changes q places reach v) ve
