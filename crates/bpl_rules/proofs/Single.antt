-- Rules of one token or two, and of none.
use Rattle.std.proofs.Common.{◌≡◌, Bool, true, false, List, [], ◌∷◌, ◌++◌, Some, None, Ok, Err, inl, inr, refl, sym, subst, ◌∙◌}
use Rattle.bpl_rules.specs.Rules.{Ahead, Halt, refused, never, heads, first, IsOne, OneBegun, run_one, one, AreTwo, TwoBegun, run_second, run_two, two, run_end, end, IsEmpty, empty, refuse}
use Rattle.bpl_rules.proofs.Laws.{ok_is, err_is, no_ok, no_err, chosen, heads_first, after_first, Stops, Starts, Fronts, Taken, Halted, AtEnd, Lawful}

-- ---- one token

module _ {K T : Type 0} (place : K) (test : T → Bool) where
  one_sound : (ts : List T) (v : T) (rest : List T) → run_one place test ts ≡ Ok (v, rest) → Taken (IsOne test) (run_one place test) ts v rest
  one_sound [] v rest e = absurd cc
  one_sound (t ∷ ts) v rest e =
      elim (chosen (test t) (Ok (t, ts)) (Err (refused place (t ∷ ts))) (Ok (v, rest)) e) [
        | inl h ↦ subst (λ (p : T × List T). Taken (IsOne test) (run_one place test) (t ∷ ts) p.0 p.1) (ok_is {E = Halt K T} (t, ts) (v, rest) h.1)
            (record { phrase = t ∷ []; splits = refl; spells = record { alone = refl; passes = h.0 }; steady = λ other _. rw h.0 refl })
        | inr h ↦ absurd (no_ok (refused place (t ∷ ts)) (v, rest) h.1)
      ]

  one_complete : (x : List T) (v : T) (rest : List T) → IsOne test x v → run_one place test (x ++ rest) ≡ Ok (v, rest)
  one_complete x v rest h = rw (h.alone, h.passes) refl

  pub one_other : (ts : List T) → heads test ts ≡ false → run_one place test ts ≡ Err (refused place ts)
  one_other [] h = refl
  one_other (t ∷ ts) h = rw h refl

  one_halts : (ts : List T) (s : Halt K T) → run_one place test ts ≡ Err s → Halted (OneBegun test) (run_one place test) ts s
  one_halts [] s e =
      subst (Halted (OneBegun test) (run_one place test) []) (err_is {A = T × List T} (refused place []) s e)
      (record { phrase = []; splits = refl; begun = tt; leads = tt; stuck = λ other same. one_other other (heads_first test other [] same) })
  one_halts (t ∷ ts) s e =
      elim (chosen (test t) (Ok (t, ts)) (Err (refused place (t ∷ ts))) (Err s) e) [
        | inl h ↦ absurd (no_err (t, ts) s h.1)
        | inr h ↦ subst (Halted (OneBegun test) (run_one place test) (t ∷ ts)) (err_is {A = T × List T} (refused place (t ∷ ts)) s h.1)
            (record { phrase = []; splits = refl; begun = tt; leads = tt; stuck = λ other same. one_other other (heads_first test other (t ∷ ts) same ∙ h.0) })
      ]

  one_fronts : (x y : List T) → OneBegun test (x ++ y) → OneBegun test x
  one_fronts [] y h = tt
  one_fronts (t ∷ []) [] h = h
  one_fronts (t ∷ []) (u ∷ y) h = absurd h
  one_fronts (t ∷ u ∷ x) y h = absurd h

  one_begun_starts : (x : List T) → OneBegun test x → Fronts test x
  one_begun_starts [] h = tt
  one_begun_starts (t ∷ []) h = h
  one_begun_starts (t ∷ u ∷ x) h = absurd h

  one_reaches : (x : List T) → OneBegun test x → AtEnd (run_one place test x)
  one_reaches [] h = refl
  one_reaches (t ∷ []) h = rw h refl
  one_reaches (t ∷ u ∷ x) h = absurd h

  pub one_lawful : Lawful (one place test)
  one_lawful = record {
    sound = one_sound;
    complete = λ x v rest h _. one_complete x v rest h;
    halts = one_halts;
    starts = λ x v h. subst (Starts test false) (sym h.alone) h.passes;
    nothing = tt;
    whole = λ x v h. subst (OneBegun test) (sym h.alone) h.passes;
    fronts = one_fronts;
    begun_starts = one_begun_starts;
    reaches = one_reaches;
  }

-- ---- two tokens

module _ {K T : Type 0} (place : K) (c d : T → Bool) where
  abbrev fault : List T → Halt K T
  fault ts = record { kind = Ahead place; left = ts }

  second_sound : (t : T) (ts : List T) (v : T × T) (rest : List T) → c t ≡ true → run_second place d t ts ≡ Ok (v, rest) → Taken (AreTwo c d) (run_two place c d) (t ∷ ts) v rest
  second_sound t [] v rest h e = absurd (no_ok (fault (t ∷ [])) (v, rest) e)
  second_sound t (u ∷ ts) v rest h e =
      elim (chosen (d u) (Ok ((t, u), ts)) (Err (fault (t ∷ u ∷ ts))) (Ok (v, rest)) e) [
        | inl k ↦ subst (λ (p : (T × T) × List T). Taken (AreTwo c d) (run_two place c d) (t ∷ u ∷ ts) p.0 p.1) (ok_is {E = Halt K T} ((t, u), ts) (v, rest) k.1)
            (record { phrase = t ∷ u ∷ []; splits = refl; spells = record { alone = refl; first = h; second = k.0 }; steady = λ other _. rw (h, k.0) refl })
        | inr k ↦ absurd (no_ok (fault (t ∷ u ∷ ts)) (v, rest) k.1)
      ]

  two_sound : (ts : List T) (v : T × T) (rest : List T) → run_two place c d ts ≡ Ok (v, rest) → Taken (AreTwo c d) (run_two place c d) ts v rest
  two_sound [] v rest e = absurd (no_ok (refused place []) (v, rest) e)
  two_sound (t ∷ ts) v rest e =
      elim (chosen (c t) (run_second place d t ts) (Err (refused place (t ∷ ts))) (Ok (v, rest)) e) [
        | inl h ↦ second_sound t ts v rest h.0 h.1
        | inr h ↦ absurd (no_ok (refused place (t ∷ ts)) (v, rest) h.1)
      ]

  two_complete : (x : List T) (v : T × T) (rest : List T) → AreTwo c d x v → run_two place c d (x ++ rest) ≡ Ok (v, rest)
  two_complete x v rest h = rw (h.alone, h.first, h.second) refl

  two_other : (ts : List T) → heads c ts ≡ false → run_two place c d ts ≡ Err (refused place ts)
  two_other [] h = refl
  two_other (t ∷ ts) h = rw h refl

  two_ahead : (ts : List T) → heads c ts ≡ true → heads d (after_first ts) ≡ false → run_two place c d ts ≡ Err (fault ts)
  two_ahead [] h k = absurd cc
  two_ahead (t ∷ []) h k = rw h refl
  two_ahead (t ∷ u ∷ ts) h k = rw (h, k) refl

  halted_ahead : (t : T) (ts : List T) → c t ≡ true → heads d ts ≡ false → Halted (TwoBegun c d) (run_two place c d) (t ∷ ts) (fault (t ∷ ts))
  halted_ahead t ts h k = record {
    phrase = [];
    splits = refl;
    begun = tt;
    leads = record { token = t; others = ts; is = refl; with_it = h };
    stuck = λ other same. two_ahead other (heads_first c other (t ∷ ts) same.0 ∙ h) (heads_first d (after_first other) ts same.1 ∙ k);
  }

  second_halts : (t : T) (ts : List T) (s : Halt K T) → c t ≡ true → run_second place d t ts ≡ Err s → Halted (TwoBegun c d) (run_two place c d) (t ∷ ts) s
  second_halts t [] s h e = subst (Halted (TwoBegun c d) (run_two place c d) (t ∷ [])) (err_is {A = (T × T) × List T} (fault (t ∷ [])) s e) (halted_ahead t [] h refl)
  second_halts t (u ∷ ts) s h e =
      elim (chosen (d u) (Ok ((t, u), ts)) (Err (fault (t ∷ u ∷ ts))) (Err s) e) [
        | inl k ↦ absurd (no_err ((t, u), ts) s k.1)
        | inr k ↦ subst (Halted (TwoBegun c d) (run_two place c d) (t ∷ u ∷ ts)) (err_is {A = (T × T) × List T} (fault (t ∷ u ∷ ts)) s k.1) (halted_ahead t (u ∷ ts) h k.0)
      ]

  halted_other : (ts : List T) → heads c ts ≡ false → Halted (TwoBegun c d) (run_two place c d) ts (refused place ts)
  halted_other ts h = record { phrase = []; splits = refl; begun = tt; leads = tt; stuck = λ other same. two_other other (heads_first c other ts same ∙ h) }

  two_halts : (ts : List T) (s : Halt K T) → run_two place c d ts ≡ Err s → Halted (TwoBegun c d) (run_two place c d) ts s
  two_halts [] s e = subst (Halted (TwoBegun c d) (run_two place c d) []) (err_is {A = (T × T) × List T} (refused place []) s e) (halted_other [] refl)
  two_halts (t ∷ ts) s e =
      elim (chosen (c t) (run_second place d t ts) (Err (refused place (t ∷ ts))) (Err s) e) [
        | inl h ↦ second_halts t ts s h.0 h.1
        | inr h ↦ subst (Halted (TwoBegun c d) (run_two place c d) (t ∷ ts)) (err_is {A = (T × T) × List T} (refused place (t ∷ ts)) s h.1) (halted_other (t ∷ ts) h.0)
      ]

  two_fronts : (x y : List T) → TwoBegun c d (x ++ y) → TwoBegun c d x
  two_fronts [] y h = tt
  two_fronts (t ∷ []) [] h = h
  two_fronts (t ∷ []) (u ∷ []) h = h.0
  two_fronts (t ∷ []) (u ∷ w ∷ y) h = absurd h
  two_fronts (t ∷ u ∷ []) [] h = h
  two_fronts (t ∷ u ∷ []) (w ∷ y) h = absurd h
  two_fronts (t ∷ u ∷ w ∷ x) y h = absurd h

  two_begun_starts : (x : List T) → TwoBegun c d x → Fronts c x
  two_begun_starts [] h = tt
  two_begun_starts (t ∷ []) h = h
  two_begun_starts (t ∷ u ∷ []) h = h.0
  two_begun_starts (t ∷ u ∷ w ∷ x) h = absurd h

  two_reaches : (x : List T) → TwoBegun c d x → AtEnd (run_two place c d x)
  two_reaches [] h = refl
  two_reaches (t ∷ []) h = rw h refl
  two_reaches (t ∷ u ∷ []) h = rw (h.0, h.1) refl
  two_reaches (t ∷ u ∷ w ∷ x) h = absurd h

  pub two_lawful : Lawful (two place c d)
  two_lawful = record {
    sound = two_sound;
    complete = λ x v rest h _. two_complete x v rest h;
    halts = two_halts;
    starts = λ x v h. subst (Starts c false) (sym h.alone) h.first;
    nothing = tt;
    whole = λ x v h. subst (TwoBegun c d) (sym h.alone) (h.first, h.second);
    fronts = two_fronts;
    begun_starts = two_begun_starts;
    reaches = two_reaches;
  }

-- ---- the end, nothing, and no phrase

abbrev pub IsNil : {T : Type 0} → List T → Type 0
IsNil ts = ts ≡ []

nil_fronts : {T : Type 0} (x y : List T) → x ++ y ≡ [] → x ≡ []
nil_fronts [] y h = refl
nil_fronts (t ∷ x) y h = absurd cc

nil_begun_starts : {T : Type 0} (b : T → Bool) (x : List T) → x ≡ [] → Fronts b x
nil_begun_starts b x h = subst (Fronts b) (sym h) tt

module _ {K T : Type 0} (place : K) where
  end_first : (other : List T) → first other ≡ None → run_end place other ≡ Ok (tt, other)
  end_first [] h = refl
  end_first (t ∷ other) h = absurd cc

  end_sound : (ts : List T) (v : Unit {0}) (rest : List T) → run_end place ts ≡ Ok (v, rest) → Taken (λ ts _. IsNil ts) (run_end place) ts v rest
  end_sound [] v rest e = subst (λ (p : Unit {0} × List T). Taken (λ ts _. IsNil ts) (run_end place) [] p.0 p.1) (ok_is {E = Halt K T} (tt, []) (v, rest) e)
      (record { phrase = []; splits = refl; spells = refl; steady = λ other h. end_first other h })
  end_sound (t ∷ ts) v rest e = absurd (no_ok (refused place (t ∷ ts)) (v, rest) e)

  end_complete : (x : List T) (v : Unit {0}) (rest : List T) → x ≡ [] → Stops (λ _. true) rest → run_end place (x ++ rest) ≡ Ok (v, rest)
  end_complete [] v [] h s = refl
  end_complete [] v (t ∷ rest) h s = absurd cc
  end_complete (t ∷ x) v rest h s = absurd cc

  end_other : (t : T) (ts other : List T) → first other ≡ Some t → run_end place other ≡ Err (refused place other)
  end_other t ts [] h = absurd cc
  end_other t ts (u ∷ other) h = refl

  end_halts : (ts : List T) (s : Halt K T) → run_end place ts ≡ Err s → Halted IsNil (run_end place) ts s
  end_halts [] s e = absurd (no_err (tt, []) s e)
  end_halts (t ∷ ts) s e = subst (Halted IsNil (run_end place) (t ∷ ts)) (err_is {A = Unit {0} × List T} (refused place (t ∷ ts)) s e)
      (record { phrase = []; splits = refl; begun = refl; leads = tt; stuck = λ other same. end_other t ts other same })

  pub end_lawful : Lawful (end {T = T} place)
  end_lawful = record {
    sound = end_sound;
    complete = end_complete;
    halts = end_halts;
    starts = λ x v h. subst (Starts never true) (sym h) refl;
    nothing = refl;
    whole = λ x v h. h;
    fronts = nil_fronts;
    begun_starts = nil_begun_starts never;
    reaches = λ x h. subst (λ w. AtEnd (run_end place w)) (sym h) refl;
  }

pub empty_lawful : {K T A : Type 0} (a : A) → Lawful (empty {K = K} {T = T} a)
empty_lawful {K = K} {T = T} {A = A} a = record {
  sound = λ ts v rest e. subst (λ (p : A × List T). Taken (IsEmpty a) (empty {K = K} a).run ts p.0 p.1) (ok_is {E = Halt K T} (a, ts) (v, rest) e)
      (record { phrase = []; splits = refl; spells = record { none = refl; value = refl }; steady = λ other h. refl });
  complete = λ x v rest h s. rw (h.none, h.value) refl;
  halts = λ ts s e. absurd (no_err (a, ts) s e);
  starts = λ x v h. subst (Starts never true) (sym h.none) refl;
  nothing = refl;
  whole = λ x v h. h.none;
  fronts = nil_fronts;
  begun_starts = nil_begun_starts never;
  reaches = λ x h. h;
}

pub refuse_lawful : {K T A : Type 0} (place : K) → Lawful (refuse {T = T} {A = A} place)
refuse_lawful {K = K} {T = T} {A = A} place = record {
  sound = λ ts v rest e. absurd (no_ok (refused place ts) (v, rest) e);
  complete = λ x v rest h s. absurd h;
  halts = λ ts s e. subst (Halted IsNil (refuse {A = A} place).run ts) (err_is {A = A × List T} (refused place ts) s e)
      (record { phrase = []; splits = refl; begun = refl; leads = tt; stuck = λ other same. refl });
  starts = λ x v h. absurd h;
  nothing = refl;
  whole = λ x v h. absurd h;
  fronts = nil_fronts;
  begun_starts = nil_begun_starts never;
  reaches = λ x h. h;
}
