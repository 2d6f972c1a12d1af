use Rattle.std.proofs.Common.{◌≡◌, ℕ, List, ◌+◌, ◌-◌, ◌<◌, ◌||◌, Bool, ◌++◌, length, take, drop, Some, true, false, slice_get, arith, ap, sym, ◌∙◌, subst}
use Rattle.std.proofs.lemmas.Bool.{or_left}
use Rattle.cnf_form.specs.Literal.{is_among}
use Rattle.cnf_form.specs.declared.log.Line.{Line}
use Rattle.proof_check.specs.Trimming.{is_set, ClosedFrom, UsedFrom}
use Rattle.proof_check.proofs.Keeping.{pass_closed, pass_used, mark_closed, mark_used, set_from, line_from, whole}
use Rattle.proof_check.proofs.trimmer.needed_lines.Goals as goal

pub loop-place-preserved-then-index : goal.loop-place-preserved-then-index
loop-place-preserved-then-index c =
    let T = c.args.lines.now in
    let p = c.loop-place.place - 1 in
    let o = c.args.offset in
    let needed = c.loop-place.needed.items in
    let marked = c.mark_hints.new.needed in
    let line = c.index-lines-place.result in
    let back : p + 1 ≡ c.loop-place.place = omega (arith, c.loop-place-test.true) in
    let inside : p < length T = omega (arith, c.loop-place-test.true, c.loop-place.invariant.within) in
    let old : length needed ≡ length T = c.loop-place.invariant.same_length in
    let n : length marked ≡ length needed = omega (arith, c.mark_hints.auto.needed, ap length c.deref_mut.ensures.value) in
    let w : length needed ≡ c.loop-place.needed.len = omega (arith, c.deref_mut.ensures.len, ap length c.deref_mut.ensures.value) in
    let e : take c.loop-place.needed.len (marked ++ drop (length marked) needed) ≡ marked = whole c.loop-place.needed.len marked needed (omega (arith, n, w)) w in
    let at : slice_get T p ≡ Some line = line_from T p line inside c.index-lines-place.is in
    let here : is_set needed p ≡ true = set_from needed p c.index.result.now (omega (arith, inside, old)) c.index.ensures ∙ c.if-index.true in
    let marks : (k : ℕ) → is_set marked k ≡ (is_set needed k || is_among line.hints (o + k)) = λ k.
    c.mark_hints.ensures k
    ∙ ap (λ (fs : List Bool). is_set fs k || is_among c.as_slice.result.now (o + k)) c.deref_mut.ensures.value
    ∙ ap (λ (hs : List ℕ). is_set needed k || is_among hs (o + k)) (c.as_slice.ensures ∙ ap (λ (l : Line). l.hints) (sym c.index-lines-place.is)) in
    rw e (record {
      within = omega (arith, c.loop-place.invariant.within);
      same_length = n ∙ old;
      last = marks (length T - 1) ∙ or_left _ _ c.loop-place.invariant.last;
      closed = mark_closed o T needed p marked line at here marks c.requires.earlier (subst (λ x. ClosedFrom o T needed x) (sym back) c.loop-place.invariant.closed);
      used = mark_used o T needed p marked line at here marks c.requires.earlier (subst (λ x. UsedFrom o T needed x) (sym back) c.loop-place.invariant.used);
    })

pub loop-place-preserved : goal.loop-place-preserved
loop-place-preserved c =
    let T = c.args.lines.now in
    let p = c.loop-place.place - 1 in
    let o = c.args.offset in
    let needed = c.loop-place.needed.items in
    let back : p + 1 ≡ c.loop-place.place = omega (arith, c.loop-place-test.true) in
    let old : length needed ≡ length T = c.loop-place.invariant.same_length in
    let inside : p < length needed = omega (arith, old, c.loop-place-test.true, c.loop-place.invariant.within) in
    let here : is_set needed p ≡ false = set_from needed p c.index.result.now inside c.index.ensures ∙ c.if-index.false in
    record {
      within = omega (arith, c.loop-place.invariant.within);
      same_length = old;
      last = c.loop-place.invariant.last;
      closed = pass_closed o T needed p here (subst (λ x. ClosedFrom o T needed x) (sym back) c.loop-place.invariant.closed);
      used = pass_used o T needed p (subst (λ x. UsedFrom o T needed x) (sym back) c.loop-place.invariant.used);
    }

pub returns : goal.returns
returns c =
    let T = c.args.lines.now in
    let o = c.args.offset in
    let needed = c.loop-place.needed.items in
    let none : c.loop-place.place ≡ 0 = omega (arith, c.loop-place-test.false) in
    record {
      same_length = c.loop-place.invariant.same_length;
      last = c.loop-place.invariant.last;
      closed = subst (λ x. ClosedFrom o T needed x) none c.loop-place.invariant.closed;
      used = subst (λ x. UsedFrom o T needed x) none c.loop-place.invariant.used;
    }
