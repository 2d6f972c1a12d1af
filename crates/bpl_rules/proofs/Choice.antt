-- Sequences, choices and nesting keep the laws.
use Rattle.std.proofs.Common.{◌≡◌, Bool, true, false, ◌||◌, ◌&&◌, List, [], ◌∷◌, ◌++◌, Option, Result, Ok, Err, inl, inr, refl, sym, ap, subst, ◌∙◌, append_assoc}
use Rattle.bpl_rules.specs.Rules.{Halt, too_deep, Outcome, ◌>>=◌, Rule, heads, first, AreBoth, run_seq, seq, IsMade, run_made, made, IsPlaced, run_placed, placed, alt, unless, sealed}
use Rattle.bpl_rules.proofs.Laws.{done, bind_ok, bind_err, ok_is, err_is, no_ok, no_err, chosen, or_left, or_right, neither, bool_false, first-append, heads_first, first_splits, cuts, Stops, Stops_heads, Stops_less, Starts, Fronts, Fronts_wider, Apart, Within, front_stops, Same_first, Taken, leads_map, Halted, AtEnd, Lawful, nil_at_end}

-- ---- one after the other

pub starts_append : {T : Type 0} (b : T → Bool) (n : Bool) (c : T → Bool) (m : Bool) (x y : List T) → Starts b n x → Starts c m y → Starts (λ t. b t || (n && c t)) (n && m) (x ++ y)
starts_append b n c m [] [] h k = rw (h, k) refl
starts_append b n c m [] (t ∷ y) h k = or_right (b t) (n && c t) (rw (h, k) refl)
starts_append b n c m (t ∷ x) y h k = or_left (b t) (n && c t) h

begun_append : {T : Type 0} (b : T → Bool) (n : Bool) (c : T → Bool) (x y : List T) → Starts b n x → Fronts c y → Fronts (λ t. b t || (n && c t)) (x ++ y)
begun_append b n c [] [] h k = tt
begun_append b n c [] (t ∷ y) h k = or_right (b t) (n && c t) (rw (h, k) refl)
begun_append b n c (t ∷ x) y h k = or_left (b t) (n && c t) h

pub seq_stops : {T : Type 0} (f c g : T → Bool) (m : Bool) (back rest : List T) → Apart f c → Starts c m back → Stops (λ t. g t || (m && f t)) rest → Stops f (back ++ rest)
seq_stops f c g m [] rest apart h s = Stops_less f (λ t. g t || (m && f t)) rest (λ t e. let k = (neither (g t) (m && f t) e).1 in rw h at k) s
seq_stops f c g m (t ∷ back) rest apart h s = apart t h

module _ {K T A B : Type 0} (p : Rule K T A) (q : Rule K T B) (P : Lawful p) (Q : Lawful q) (apart : Apart p.goes_on q.begins) where
  abbrev G : A × List T → B × List T → Result ((A × B) × List T) (Halt K T)
  G a b = Ok ((a.0, b.0), b.1)

  abbrev F : A × List T → Result ((A × B) × List T) (Halt K T)
  F a = q.run a.1 >>= G a

  seq_sound : (ts : List T) (v : A × B) (rest : List T) → run_seq p.run q.run ts ≡ Ok (v, rest) → Taken (AreBoth p q) (run_seq p.run q.run) ts v rest
  seq_sound ts v rest e =
      let a = bind_ok (p.run ts) F (v, rest) e in
      let b = bind_ok (q.run a.0.1) (G a.0) (v, rest) a.2 in
      let tp = P.sound ts a.0.0 a.0.1 a.1 in
      let tq = Q.sound a.0.1 b.0.0 b.0.1 b.1 in
      subst (λ (r : (A × B) × List T). Taken (AreBoth p q) (run_seq p.run q.run) ts r.0 r.1) (ok_is {E = Halt K T} ((a.0.0, b.0.0), b.0.1) (v, rest) b.2)
      (record {
        phrase = tp.phrase ++ tq.phrase;
        splits = tp.splits ∙ ap (λ (w : List T). tp.phrase ++ w) tq.splits ∙ sym (append_assoc tp.phrase tq.phrase b.0.1);
        spells = record { front = tp.phrase; back = tq.phrase; parts = refl; first = tp.spells; second = tq.spells };
        steady = λ other h.
            let same : first (tq.phrase ++ other) ≡ first a.0.1 = first-append tq.phrase other b.0.1 h ∙ ap first (sym tq.splits) in
            rw (append_assoc tp.phrase tq.phrase other, tp.steady (tq.phrase ++ other) same, tq.steady other h) refl;
      })

  seq_complete : (x : List T) (v : A × B) (rest : List T) → AreBoth p q x v → Stops (seq p q).goes_on rest → run_seq p.run q.run (x ++ rest) ≡ Ok (v, rest)
  seq_complete x v rest h s =
      let after : Stops p.goes_on (h.back ++ rest) = seq_stops p.goes_on q.begins q.goes_on q.nullable h.back rest apart (Q.starts h.back v.1 h.second) s in
      let own : Stops q.goes_on rest = Stops_less q.goes_on (seq p q).goes_on rest (λ t e. (neither (q.goes_on t) (q.nullable && p.goes_on t) e).0) s in
      rw (h.parts, append_assoc h.front h.back rest, P.complete h.front v.0 (h.back ++ rest) h.first after, Q.complete h.back v.1 rest h.second own) refl

  seq_halts_second : (ts : List T) (s : Halt K T) (a : A × List T) → p.run ts ≡ Ok a → F a ≡ Err s → Halted (seq p q).Begun (run_seq p.run q.run) ts s
  seq_halts_second ts s a ha e =
      elim (bind_err (q.run a.1) (G a) s e) [
        | inl h ↦
            let tp = P.sound ts a.0 a.1 ha in
            let hq = Q.halts a.1 s h in
            record {
              phrase = tp.phrase ++ hq.phrase;
              splits = tp.splits ∙ ap (λ (w : List T). tp.phrase ++ w) hq.splits ∙ sym (append_assoc tp.phrase hq.phrase s.left);
              begun = inr (record { front = tp.phrase; back = hq.phrase; value = a.0; parts = refl; first = tp.spells; second = hq.begun });
              leads = leads_map s.kind q.Begun (seq p q).Begun hq.phrase (tp.phrase ++ hq.phrase) s.left
                  (λ z k. inr (record { front = tp.phrase; back = hq.phrase ++ z; value = a.0; parts = append_assoc tp.phrase hq.phrase z; first = tp.spells; second = k })) hq.leads;
              stuck = λ other same.
                  let at : first (hq.phrase ++ other) ≡ first a.1 = first_splits a.1 hq.phrase s.left other hq.splits (Same_first s.kind other s.left same) in
                  rw (append_assoc tp.phrase hq.phrase other, tp.steady (hq.phrase ++ other) at, hq.stuck other same) refl;
            }
        | inr b ↦ absurd (no_err ((a.0, b.0.0), b.0.1) s b.2)
      ]

  seq_halts : (ts : List T) (s : Halt K T) → run_seq p.run q.run ts ≡ Err s → Halted (seq p q).Begun (run_seq p.run q.run) ts s
  seq_halts ts s e =
      elim (bind_err (p.run ts) F s e) [
        | inl h ↦
            let hp = P.halts ts s h in
            record {
              phrase = hp.phrase;
              splits = hp.splits;
              begun = inl hp.begun;
              leads = leads_map s.kind p.Begun (seq p q).Begun hp.phrase hp.phrase s.left (λ z k. inl k) hp.leads;
              stuck = λ other same. rw (hp.stuck other same) refl;
            }
        | inr a ↦ seq_halts_second ts s a.0 a.1 a.2
      ]

  seq_starts : (x : List T) (v : A × B) → AreBoth p q x v → Starts (seq p q).begins (seq p q).nullable x
  seq_starts x v h = rw h.parts (starts_append p.begins p.nullable q.begins q.nullable h.front h.back (P.starts h.front v.0 h.first) (Q.starts h.back v.1 h.second))

  seq_fronts : (x y : List T) → (seq p q).Begun (x ++ y) → (seq p q).Begun x
  seq_fronts x y (inl h) = inl (P.fronts x y h)
  seq_fronts x y (inr h) =
      elim (cuts x y h.front h.back h.parts) [
        | inl k ↦ inl (P.fronts x k.0 (subst p.Begun k.1 (P.whole h.front h.value h.first)))
        | inr k ↦ inr (record { front = h.front; back = k.0; value = h.value; parts = k.1; first = h.first; second = Q.fronts k.0 y (subst q.Begun k.2 h.second) })
      ]

  seq_begun_starts : (x : List T) → (seq p q).Begun x → Fronts (seq p q).begins x
  seq_begun_starts x (inl h) = Fronts_wider p.begins (seq p q).begins x (λ t k. or_left (p.begins t) (p.nullable && q.begins t) k) (P.begun_starts x h)
  seq_begun_starts x (inr h) = rw h.parts (begun_append p.begins p.nullable q.begins h.front h.back (P.starts h.front h.value h.first) (Q.begun_starts h.back h.second))

  at_end_second : (a : A × List T) (o : Outcome K T B) → AtEnd o → AtEnd (o >>= G a)
  at_end_second a (Ok b) h = h
  at_end_second a (Err s) h = h

  at_end_first : (o : Outcome K T A) → AtEnd o → AtEnd (o >>= F)
  at_end_first (Ok a) h = rw h (at_end_second a (q.run []) (nil_at_end q Q))
  at_end_first (Err s) h = h

  seq_reaches : (x : List T) → (seq p q).Begun x → AtEnd (run_seq p.run q.run x)
  seq_reaches x (inl h) = at_end_first (p.run x) (P.reaches x h)
  seq_reaches x (inr h) =
      let read : p.run (h.front ++ h.back) ≡ Ok (h.value, h.back) = P.complete h.front h.value h.back h.first (front_stops p.goes_on q.begins h.back apart (Q.begun_starts h.back h.second)) in
      rw (h.parts, read) (at_end_second (h.value, h.back) (q.run h.back) (Q.reaches h.back h.second))

  pub seq_lawful : Lawful (seq p q)
  seq_lawful = record {
    sound = seq_sound;
    complete = seq_complete;
    halts = seq_halts;
    starts = seq_starts;
    nothing = inl P.nothing;
    whole = λ x v h. inr (record { front = h.front; back = h.back; value = v.0; parts = h.parts; first = h.first; second = Q.whole h.back v.1 h.second });
    fronts = seq_fronts;
    begun_starts = seq_begun_starts;
    reaches = seq_reaches;
  }

-- ---- a function of the value

module _ {K T A B : Type 0} (f : A → B) (p : Rule K T A) (P : Lawful p) where
  abbrev M : A × List T → Result (B × List T) (Halt K T)
  M a = Ok (f a.0, a.1)

  made_sound : (ts : List T) (v : B) (rest : List T) → run_made f p.run ts ≡ Ok (v, rest) → Taken (IsMade f p) (run_made f p.run) ts v rest
  made_sound ts v rest e =
      let a = bind_ok (p.run ts) M (v, rest) e in
      let tp = P.sound ts a.0.0 a.0.1 a.1 in
      subst (λ (r : B × List T). Taken (IsMade f p) (run_made f p.run) ts r.0 r.1) (ok_is {E = Halt K T} (f a.0.0, a.0.1) (v, rest) a.2)
      (record { phrase = tp.phrase; splits = tp.splits; spells = record { inner = a.0.0; spells = tp.spells; value = refl }; steady = λ other h. rw (tp.steady other h) refl })

  made_complete : (x : List T) (v : B) (rest : List T) → IsMade f p x v → Stops p.goes_on rest → run_made f p.run (x ++ rest) ≡ Ok (v, rest)
  made_complete x v rest h s = rw (P.complete x h.inner rest h.spells s, h.value) refl

  made_halts : (ts : List T) (s : Halt K T) → run_made f p.run ts ≡ Err s → Halted p.Begun (run_made f p.run) ts s
  made_halts ts s e =
      elim (bind_err (p.run ts) M s e) [
        | inl h ↦
            let hp = P.halts ts s h in
            record { phrase = hp.phrase; splits = hp.splits; begun = hp.begun; leads = hp.leads; stuck = λ other same. rw (hp.stuck other same) refl }
        | inr a ↦ absurd (no_err (f a.0.0, a.0.1) s a.2)
      ]

  made_at_end : (o : Outcome K T A) → AtEnd o → AtEnd (o >>= M)
  made_at_end (Ok a) h = h
  made_at_end (Err s) h = h

  pub made_lawful : Lawful (made f p)
  made_lawful = record {
    sound = made_sound;
    complete = made_complete;
    halts = made_halts;
    starts = λ x v h. P.starts x h.inner h.spells;
    nothing = P.nothing;
    whole = λ x v h. P.whole x h.inner h.spells;
    fronts = P.fronts;
    begun_starts = P.begun_starts;
    reaches = λ x h. made_at_end (p.run x) (P.reaches x h);
  }

-- ---- a function of the value and of the first token

long_first : {T : Type 0} (b : T → Bool) (n : Bool) (x rest : List T) → n ≡ false → Starts b n x → first (x ++ rest) ≡ first x
long_first b n [] rest long h = absurd (let no : true ≡ false = sym h ∙ long in cc)
long_first b n (t ∷ x) rest long h = refl

module _ {K T A B : Type 0} (f : Option T → A → B) (p : Rule K T A) (P : Lawful p) (long : p.nullable ≡ false) where
  abbrev O : Option T → A × List T → Result (B × List T) (Halt K T)
  O t a = Ok (f t a.0, a.1)

  placed_sound : (ts : List T) (v : B) (rest : List T) → run_placed f p.run ts ≡ Ok (v, rest) → Taken (IsPlaced f p) (run_placed f p.run) ts v rest
  placed_sound ts v rest e =
      let a = bind_ok (p.run ts) (O (first ts)) (v, rest) e in
      let tp = P.sound ts a.0.0 a.0.1 a.1 in
      let at : (other : List T) → first (tp.phrase ++ other) ≡ first tp.phrase = λ other. long_first p.begins p.nullable tp.phrase other long (P.starts tp.phrase a.0.0 tp.spells) in
      let here : first ts ≡ first tp.phrase = ap first tp.splits ∙ at a.0.1 in
      subst (λ (r : B × List T). Taken (IsPlaced f p) (run_placed f p.run) ts r.0 r.1) (ok_is {E = Halt K T} (f (first ts) a.0.0, a.0.1) (v, rest) a.2)
      (record {
        phrase = tp.phrase;
        splits = tp.splits;
        spells = record { inner = a.0.0; spells = tp.spells; value = ap (λ t. f t a.0.0) here };
        steady = λ other h. rw (tp.steady other h) (ap (λ (t : Option T). done {E = Halt K T} (f t a.0.0, other)) (at other ∙ sym here));
      })

  placed_complete : (x : List T) (v : B) (rest : List T) → IsPlaced f p x v → Stops p.goes_on rest → run_placed f p.run (x ++ rest) ≡ Ok (v, rest)
  placed_complete x v rest h s = rw (P.complete x h.inner rest h.spells s, long_first p.begins p.nullable x rest long (P.starts x h.inner h.spells), h.value) refl

  placed_halts : (ts : List T) (s : Halt K T) → run_placed f p.run ts ≡ Err s → Halted p.Begun (run_placed f p.run) ts s
  placed_halts ts s e =
      elim (bind_err (p.run ts) (O (first ts)) s e) [
        | inl h ↦
            let hp = P.halts ts s h in
            record { phrase = hp.phrase; splits = hp.splits; begun = hp.begun; leads = hp.leads; stuck = λ other same. rw (hp.stuck other same) refl }
        | inr a ↦ absurd (no_err (f (first ts) a.0.0, a.0.1) s a.2)
      ]

  placed_at_end : (t : Option T) (o : Outcome K T A) → AtEnd o → AtEnd (o >>= O t)
  placed_at_end t (Ok a) h = h
  placed_at_end t (Err s) h = h

  pub placed_lawful : Lawful (placed f p)
  placed_lawful = record {
    sound = placed_sound;
    complete = placed_complete;
    halts = placed_halts;
    starts = λ x v h. P.starts x h.inner h.spells;
    nothing = P.nothing;
    whole = λ x v h. P.whole x h.inner h.spells;
    fronts = P.fronts;
    begun_starts = P.begun_starts;
    reaches = λ x h. placed_at_end (first x) (p.run x) (P.reaches x h);
  }

-- ---- a choice by the first token

module _ {K T A : Type 0} (p q : Rule K T A) (P : Lawful p) (Q : Lawful q) (apart : Apart p.begins q.begins) (long : p.nullable ≡ false) where
  alt_sound : (ts : List T) (v : A) (rest : List T) → (alt p q).run ts ≡ Ok (v, rest) → Taken (alt p q).Spells (alt p q).run ts v rest
  alt_sound ts v rest e =
      elim (chosen (heads p.begins ts) (p.run ts) (q.run ts) (Ok (v, rest)) e) [
        | inl h ↦
            let t = P.sound ts v rest h.1 in
            record {
              phrase = t.phrase;
              splits = t.splits;
              spells = inl t.spells;
              steady = λ other k. let same = heads_first p.begins (t.phrase ++ other) ts (first_splits ts t.phrase rest other t.splits k) ∙ h.0 in rw (same, t.steady other k) refl;
            }
        | inr h ↦
            let t = Q.sound ts v rest h.1 in
            record {
              phrase = t.phrase;
              splits = t.splits;
              spells = inr t.spells;
              steady = λ other k. let same = heads_first p.begins (t.phrase ++ other) ts (first_splits ts t.phrase rest other t.splits k) ∙ h.0 in rw (same, t.steady other k) refl;
            }
      ]

  alt_first : (x : List T) (rest : List T) → Starts p.begins p.nullable x → heads p.begins (x ++ rest) ≡ true
  alt_first [] rest h = absurd (let no : true ≡ false = sym h ∙ long in cc)
  alt_first (t ∷ x) rest h = h

  alt_second : (x : List T) (rest : List T) → Starts q.begins q.nullable x → Stops (alt p q).goes_on rest → heads p.begins (x ++ rest) ≡ false
  alt_second [] rest h s = Stops_heads p.begins rest (Stops_less p.begins (alt p q).goes_on rest (λ t e. let k = (neither (q.goes_on t) (q.nullable && p.begins t) (neither (p.goes_on t) (q.goes_on t || (q.nullable && p.begins t)) e).1).1 in rw h at k) s)
  alt_second (t ∷ x) rest h s = apart t h

  alt_complete : (x : List T) (v : A) (rest : List T) → (alt p q).Spells x v → Stops (alt p q).goes_on rest → (alt p q).run (x ++ rest) ≡ Ok (v, rest)
  alt_complete x v rest (inl h) s =
      let own = Stops_less p.goes_on (alt p q).goes_on rest (λ t e. (neither (p.goes_on t) (q.goes_on t || (q.nullable && p.begins t)) e).0) s in
      rw (alt_first x rest (P.starts x v h), P.complete x v rest h own) refl
  alt_complete x v rest (inr h) s =
      let own = Stops_less q.goes_on (alt p q).goes_on rest (λ t e. (neither (q.goes_on t) (q.nullable && p.begins t) (neither (p.goes_on t) (q.goes_on t || (q.nullable && p.begins t)) e).1).0) s in
      rw (alt_second x rest (Q.starts x v h) s, Q.complete x v rest h own) refl

  alt_halts : (ts : List T) (s : Halt K T) → (alt p q).run ts ≡ Err s → Halted (alt p q).Begun (alt p q).run ts s
  alt_halts ts s e =
      elim (chosen (heads p.begins ts) (p.run ts) (q.run ts) (Err s) e) [
        | inl h ↦
            let hp = P.halts ts s h.1 in
            record {
              phrase = hp.phrase;
              splits = hp.splits;
              begun = inl hp.begun;
              leads = leads_map s.kind p.Begun (alt p q).Begun hp.phrase hp.phrase s.left (λ z k. inl k) hp.leads;
              stuck = λ other same.
                  let at = heads_first p.begins (hp.phrase ++ other) ts (first_splits ts hp.phrase s.left other hp.splits (Same_first s.kind other s.left same)) ∙ h.0 in
                  rw (at, hp.stuck other same) refl;
            }
        | inr h ↦
            let hq = Q.halts ts s h.1 in
            record {
              phrase = hq.phrase;
              splits = hq.splits;
              begun = inr hq.begun;
              leads = leads_map s.kind q.Begun (alt p q).Begun hq.phrase hq.phrase s.left (λ z k. inr k) hq.leads;
              stuck = λ other same.
                  let at = heads_first p.begins (hq.phrase ++ other) ts (first_splits ts hq.phrase s.left other hq.splits (Same_first s.kind other s.left same)) ∙ h.0 in
                  rw (at, hq.stuck other same) refl;
            }
      ]

  alt_starts : (x : List T) (v : A) → (alt p q).Spells x v → Starts (alt p q).begins (alt p q).nullable x
  alt_starts [] v (inl h) = absurd (let no : true ≡ false = sym (P.starts [] v h) ∙ long in cc)
  alt_starts (t ∷ x) v (inl h) = or_left (p.begins t) (q.begins t) (P.starts (t ∷ x) v h)
  alt_starts [] v (inr h) = Q.starts [] v h
  alt_starts (t ∷ x) v (inr h) = or_right (p.begins t) (q.begins t) (Q.starts (t ∷ x) v h)

  alt_whole : (x : List T) (v : A) → (alt p q).Spells x v → (alt p q).Begun x
  alt_whole x v (inl h) = inl (P.whole x v h)
  alt_whole x v (inr h) = inr (Q.whole x v h)

  alt_fronts : (x y : List T) → (alt p q).Begun (x ++ y) → (alt p q).Begun x
  alt_fronts x y (inl h) = inl (P.fronts x y h)
  alt_fronts x y (inr h) = inr (Q.fronts x y h)

  alt_begun_starts : (x : List T) → (alt p q).Begun x → Fronts (alt p q).begins x
  alt_begun_starts x (inl h) = Fronts_wider p.begins (alt p q).begins x (λ t k. or_left (p.begins t) (q.begins t) k) (P.begun_starts x h)
  alt_begun_starts x (inr h) = Fronts_wider q.begins (alt p q).begins x (λ t k. or_right (p.begins t) (q.begins t) k) (Q.begun_starts x h)

  alt_reaches_first : (t : T) (x : List T) → p.begins t ≡ true → AtEnd (p.run (t ∷ x)) → AtEnd ((alt p q).run (t ∷ x))
  alt_reaches_first t x b h = rw b h

  alt_reaches_second : (t : T) (x : List T) → q.begins t ≡ true → AtEnd (q.run (t ∷ x)) → AtEnd ((alt p q).run (t ∷ x))
  alt_reaches_second t x b h = rw (apart t b) h

  alt_reaches : (x : List T) → (alt p q).Begun x → AtEnd ((alt p q).run x)
  alt_reaches [] h = nil_at_end q Q
  alt_reaches (t ∷ x) (inl h) = alt_reaches_first t x (P.begun_starts (t ∷ x) h) (P.reaches (t ∷ x) h)
  alt_reaches (t ∷ x) (inr h) = alt_reaches_second t x (Q.begun_starts (t ∷ x) h) (Q.reaches (t ∷ x) h)

  pub alt_lawful : Lawful (alt p q)
  alt_lawful = record {
    sound = alt_sound;
    complete = alt_complete;
    halts = alt_halts;
    starts = alt_starts;
    nothing = inl P.nothing;
    whole = alt_whole;
    fronts = alt_fronts;
    begun_starts = alt_begun_starts;
    reaches = alt_reaches;
  }

-- ---- a level too many

module _ {K T A : Type 0} (c : T → Bool) (q : Rule K T A) (Q : Lawful q) (apart : Apart c q.begins) where
  unless_sound : (ts : List T) (v : A) (rest : List T) → (unless c q).run ts ≡ Ok (v, rest) → Taken q.Spells (unless c q).run ts v rest
  unless_sound ts v rest e =
      elim (chosen (heads c ts) (Err (too_deep ts)) (q.run ts) (Ok (v, rest)) e) [
        | inl h ↦ absurd (no_ok (too_deep ts) (v, rest) h.1)
        | inr h ↦
            let t = Q.sound ts v rest h.1 in
            record {
              phrase = t.phrase;
              splits = t.splits;
              spells = t.spells;
              steady = λ other k. let same = heads_first c (t.phrase ++ other) ts (first_splits ts t.phrase rest other t.splits k) ∙ h.0 in rw (same, t.steady other k) refl;
            }
      ]

  unless_front : (x : List T) (rest : List T) → Starts q.begins q.nullable x → Stops (unless c q).goes_on rest → heads c (x ++ rest) ≡ false
  unless_front [] rest h s = Stops_heads c rest (Stops_less c (unless c q).goes_on rest (λ t e. let k = (neither (q.goes_on t) (q.nullable && c t) e).1 in rw h at k) s)
  unless_front (t ∷ x) rest h s = apart t h

  unless_complete : (x : List T) (v : A) (rest : List T) → q.Spells x v → Stops (unless c q).goes_on rest → (unless c q).run (x ++ rest) ≡ Ok (v, rest)
  unless_complete x v rest h s =
      let own = Stops_less q.goes_on (unless c q).goes_on rest (λ t e. (neither (q.goes_on t) (q.nullable && c t) e).0) s in
      rw (unless_front x rest (Q.starts x v h) s, Q.complete x v rest h own) refl

  unless_halts : (ts : List T) (s : Halt K T) → (unless c q).run ts ≡ Err s → Halted q.Begun (unless c q).run ts s
  unless_halts ts s e =
      elim (chosen (heads c ts) (Err (too_deep ts)) (q.run ts) (Err s) e) [
        | inl h ↦ subst (Halted q.Begun (unless c q).run ts) (err_is {A = A × List T} (too_deep ts) s h.1)
            (record {
              phrase = [];
              splits = refl;
              begun = Q.nothing;
              leads = tt;
              stuck = λ other same. let at : heads c other ≡ true = heads_first c other ts same ∙ h.0 in rw at refl;
            })
        | inr h ↦
            let hq = Q.halts ts s h.1 in
            record {
              phrase = hq.phrase;
              splits = hq.splits;
              begun = hq.begun;
              leads = hq.leads;
              stuck = λ other same.
                  let at = heads_first c (hq.phrase ++ other) ts (first_splits ts hq.phrase s.left other hq.splits (Same_first s.kind other s.left same)) ∙ h.0 in
                  rw (at, hq.stuck other same) refl;
            }
      ]

  unless_reaches : (x : List T) → q.Begun x → AtEnd ((unless c q).run x)
  unless_reaches x h = rw (Stops_heads c x (front_stops c q.begins x apart (Q.begun_starts x h))) (Q.reaches x h)

  pub unless_lawful : Lawful (unless c q)
  unless_lawful = record {
    sound = unless_sound;
    complete = unless_complete;
    halts = unless_halts;
    starts = Q.starts;
    nothing = Q.nothing;
    whole = Q.whole;
    fronts = Q.fronts;
    begun_starts = Q.begun_starts;
    reaches = unless_reaches;
  }

-- ---- a rule whose first and following tokens are told

wider : {T : Type 0} (f g : T → Bool) (n : Bool) → ((t : T) → f t ≡ true → g t ≡ true) → (x : List T) → Starts f n x → Starts g n x
wider f g n h [] s = s
wider f g n h (t ∷ x) s = h t s

pub sealed_lawful : {K T A : Type 0} (b : T → Bool) (n : Bool) (g : T → Bool) (r : Rule K T A) → Lawful r → r.nullable ≡ n → Within r.begins b → Within r.goes_on g → Lawful (sealed b n g r)
sealed_lawful b n g r R same begins goes_on = record {
  sound = R.sound;
  complete = λ x v rest h s. R.complete x v rest h (Stops_less r.goes_on g rest (λ t e. bool_false (r.goes_on t) (g t) (goes_on t) e) s);
  halts = R.halts;
  starts = λ x v h. wider r.begins b n begins x (subst (λ (m : Bool). Starts r.begins m x) same (R.starts x v h));
  nothing = R.nothing;
  whole = R.whole;
  fronts = R.fronts;
  begun_starts = λ x h. Fronts_wider r.begins b x begins (R.begun_starts x h);
  reaches = R.reaches;
}
