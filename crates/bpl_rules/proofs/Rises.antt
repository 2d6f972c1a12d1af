-- A rule, and the same rule with one level more: what was read is read so, a fault stays one, a token that was too deep is passed,
-- and what has begun ends as a phrase of the rule with one level more.
use Rattle.std.proofs.Common.{◌≡◌, ℕ, zero, suc, ◌<◌, Bool, true, false, cond, List, [], ◌∷◌, ◌++◌, length, Option, Some, Result, Ok, Err, inl, inr, refl, sym, ap, subst, ◌∙◌, append_assoc, arith, length-append}
use Rattle.std.proofs.lemmas.List.{append-nil}
use Rattle.bpl_rules.specs.Rules.{Fault, Refused, Ahead, TooDeep, Halt, refused, too_deep, Outcome, ◌>>=◌, Rule, heads, first, OneBegun, run_one, one, TwoBegun, run_second, run_two, two, run_end, end, empty, refuse, run_seq, seq, run_made, made, run_placed, placed, alt, AreMany, run_many, many, unless, sealed}
use Rattle.bpl_rules.proofs.Laws.{bind_ok, bind_err, no_ok, no_err, err_is, chosen, Lawful}
use Rattle.bpl_rules.proofs.Single.{one_other}

-- less is left than that
abbrev pub Past : {K T A : Type 0} → Outcome K T A → List T → Type 0
Past (Ok x) left = length (x.1) < length left
Past (Err s) left = length (s.left) < length left

-- a fault that more levels don't heal
abbrev pub Stays : {K : Type 0} → Fault K → Type 0
Stays (Refused k) = Unit {0}
Stays (Ahead k) = Unit {0}
Stays TooDeep = ⊥

pub record Ends {K T A : Type 0} (q : Rule K T A) (x : List T) : Type 0 where
  pub more : List T
  pub value : A
  pub spells : q.Spells (x ++ more) value

pub record Rises {K T A : Type 0} (p q : Rule K T A) : Type 0 where
  pub ok : (ts : List T) (x : A × List T) → p.run ts ≡ Ok x → q.run ts ≡ Ok x
  pub stays : (ts : List T) (s : Halt K T) → Stays s.kind → p.run ts ≡ Err s → q.run ts ≡ Err s
  pub passes : (ts left : List T) → p.run ts ≡ Err (too_deep left) → Past (q.run ts) left
  pub wider : (x : List T) (v : A) → p.Spells x v → q.Spells x v
  pub ends : (t : T) (x : List T) → p.Begun (t ∷ x) → Ends q (t ∷ x)

pub record HasExample {K T A : Type 0} (r : Rule K T A) : Type 0 where
  pub tokens : List T
  pub value : A
  pub spells : r.Spells tokens value

-- not too deep
flat : {K T : Type 0} (s : Halt K T) (left : List T) → Stays s.kind → s ≡ too_deep left → ⊥
flat {K = K} {T = T} s left h e = subst (λ (r : Halt K T). Stays r.kind) e h

same_heads : {T : Type 0} (b c : T → Bool) → ((t : T) → b t ≡ c t) → (ts : List T) → heads b ts ≡ heads c ts
same_heads b c h [] = refl
same_heads b c h (t ∷ ts) = h t

-- ---- rules with no nesting

never_deep : {K T A : Type 0} (s : Halt K T) (left : List T) (q : Outcome K T A) → Stays s.kind → q ≡ Err s → q ≡ Err (too_deep left) → ⊥
never_deep {T = T} {A = A} s left q h e k = flat s left h (err_is {A = A × List T} s (too_deep left) (sym e ∙ k))

module _ {K T : Type 0} (place : K) (test : T → Bool) where
  one_flat : (ts left : List T) → run_one place test ts ≡ Err (too_deep left) → ⊥
  one_flat [] left e = flat (refused place []) left tt (err_is {A = T × List T} (refused place []) (too_deep left) e)
  one_flat (t ∷ ts) left e =
      elim (chosen (test t) (Ok (t, ts)) (Err (refused place (t ∷ ts))) (Err (too_deep left)) e) [
        | inl h ↦ no_err (t, ts) (too_deep left) h.1
        | inr h ↦ flat (refused place (t ∷ ts)) left tt (err_is {A = T × List T} (refused place (t ∷ ts)) (too_deep left) h.1)
      ]

  one_ends : (t : T) (x : List T) → OneBegun test (t ∷ x) → Ends (one place test) (t ∷ x)
  one_ends t [] h = record { more = []; value = t; spells = record { alone = refl; passes = h } }
  one_ends t (u ∷ x) h = absurd h

  pub has_one : (good : T) → test good ≡ true → HasExample (one place test)
  has_one good g = record { tokens = good ∷ []; value = good; spells = record { alone = refl; passes = g } }

  pub one_rises : Rises (one place test) (one place test)
  one_rises = record {
    ok = λ ts x e. e;
    stays = λ ts s h e. e;
    passes = λ ts left e. absurd (one_flat ts left e);
    wider = λ x v h. h;
    ends = one_ends;
  }

module _ {K T : Type 0} (place : K) (c d : T → Bool) where
  abbrev fault : List T → Halt K T
  fault ts = record { kind = Ahead place; left = ts }

  second_flat : (t : T) (ts left : List T) → run_second place d t ts ≡ Err (too_deep left) → ⊥
  second_flat t [] left e = flat (fault (t ∷ [])) left tt (err_is {A = (T × T) × List T} (fault (t ∷ [])) (too_deep left) e)
  second_flat t (u ∷ ts) left e =
      elim (chosen (d u) (Ok ((t, u), ts)) (Err (fault (t ∷ u ∷ ts))) (Err (too_deep left)) e) [
        | inl h ↦ no_err ((t, u), ts) (too_deep left) h.1
        | inr h ↦ flat (fault (t ∷ u ∷ ts)) left tt (err_is {A = (T × T) × List T} (fault (t ∷ u ∷ ts)) (too_deep left) h.1)
      ]

  two_flat : (ts left : List T) → run_two place c d ts ≡ Err (too_deep left) → ⊥
  two_flat [] left e = flat (refused place []) left tt (err_is {A = (T × T) × List T} (refused place []) (too_deep left) e)
  two_flat (t ∷ ts) left e =
      elim (chosen (c t) (run_second place d t ts) (Err (refused place (t ∷ ts))) (Err (too_deep left)) e) [
        | inl h ↦ second_flat t ts left h.1
        | inr h ↦ flat (refused place (t ∷ ts)) left tt (err_is {A = (T × T) × List T} (refused place (t ∷ ts)) (too_deep left) h.1)
      ]

  module _ (b : T) (B : d b ≡ true) where
    two_ends : (t : T) (x : List T) → TwoBegun c d (t ∷ x) → Ends (two place c d) (t ∷ x)
    two_ends t [] h = record { more = b ∷ []; value = (t, b); spells = record { alone = refl; first = h; second = B } }
    two_ends t (u ∷ []) h = record { more = []; value = (t, u); spells = record { alone = refl; first = h.0; second = h.1 } }
    two_ends t (u ∷ w ∷ x) h = absurd h

    pub two_rises : Rises (two place c d) (two place c d)
    two_rises = record {
      ok = λ ts x e. e;
      stays = λ ts s h e. e;
      passes = λ ts left e. absurd (two_flat ts left e);
      wider = λ x v h. h;
      ends = two_ends;
    }

not_nil : {T : Type 0} (t : T) (ts : List T) → t ∷ ts ≡ [] → ⊥
not_nil t ts e = cc

module _ {K T : Type 0} (place : K) where
  end_flat : (ts left : List T) → run_end place ts ≡ Err (too_deep left) → ⊥
  end_flat [] left e = no_err (tt, []) (too_deep left) e
  end_flat (t ∷ ts) left e = flat (refused place (t ∷ ts)) left tt (err_is {A = Unit {0} × List T} (refused place (t ∷ ts)) (too_deep left) e)

  pub end_rises : Rises (end {T = T} place) (end place)
  end_rises = record {
    ok = λ ts x e. e;
    stays = λ ts s h e. e;
    passes = λ ts left e. absurd (end_flat ts left e);
    wider = λ x v h. h;
    ends = λ t x h. absurd (not_nil t x h);
  }

pub empty_rises : {K T A : Type 0} (a : A) → Rises (empty {K = K} {T = T} a) (empty a)
empty_rises a = record {
  ok = λ ts x e. e;
  stays = λ ts s h e. e;
  passes = λ ts left e. absurd (no_err (a, ts) (too_deep left) e);
  wider = λ x v h. h;
  ends = λ t x h. absurd (not_nil t x h);
}

refused_deep : {K T : Type 0} (place : K) (ts left : List T) → refused place ts ≡ too_deep left → ⊥
refused_deep {K = K} place ts left e = let k : Refused place ≡ TooDeep = ap (λ h. h.kind) e in cc

pub refuse_rises : {K T A : Type 0} (place : K) → Rises (refuse {T = T} {A = A} place) (refuse place)
refuse_rises {K = K} {T = T} {A = A} place = record {
  ok = λ ts x e. absurd (no_ok (refused place ts) x e);
  stays = λ ts s h e. e;
  passes = λ ts left e. absurd (refused_deep place ts left (err_is {A = A × List T} (refused place ts) (too_deep left) e));
  wider = λ x v h. absurd h;
  ends = λ t x h. absurd (not_nil t x h);
}

-- ---- what is read leaves no more than there was

no_more : {K T A : Type 0} (q : Rule K T A) (Q : Lawful q) (ts left : List T) → length ts < length left → (o : Outcome K T A) → q.run ts ≡ o → Past o left
no_more q Q ts left lt (Ok x) e = let t = Q.sound ts x.0 x.1 e in omega (arith, ap length t.splits, length-append t.phrase x.1)
no_more q Q ts left lt (Err s) e = let t = Q.halts ts s e in omega (arith, ap length t.splits, length-append t.phrase s.left)

-- ---- one after the other

module _ {K T A B : Type 0} (p p' : Rule K T A) (q q' : Rule K T B) (P : Rises p p') (Q : Rises q q') (L : Lawful q') (X : HasExample q') where
  abbrev G : A × List T → B × List T → Result ((A × B) × List T) (Halt K T)
  G a b = Ok ((a.0, b.0), b.1)

  seq_ok : (ts : List T) (x : (A × B) × List T) → run_seq p.run q.run ts ≡ Ok x → run_seq p'.run q'.run ts ≡ Ok x
  seq_ok ts x e =
      let a = bind_ok (p.run ts) (λ a. q.run a.1 >>= G a) x e in
      let b = bind_ok (q.run a.0.1) (G a.0) x a.2 in
      rw (P.ok ts a.0 a.1, Q.ok a.0.1 b.0 b.1) b.2

  seq_stays : (ts : List T) (s : Halt K T) → Stays s.kind → run_seq p.run q.run ts ≡ Err s → run_seq p'.run q'.run ts ≡ Err s
  seq_stays ts s k e =
      elim (bind_err (p.run ts) (λ a. q.run a.1 >>= G a) s e) [
        | inl h ↦ rw (P.stays ts s k h) refl
        | inr a ↦ elim (bind_err (q.run a.0.1) (G a.0) s a.2) [
          | inl h ↦ rw (P.ok ts a.0 a.1, Q.stays a.0.1 s k h) refl
          | inr b ↦ absurd (no_err ((a.0.0, b.0.0), b.0.1) s b.2)
        ]
      ]

  past_map : (a : A × List T) (o : Outcome K T B) (left : List T) → Past o left → Past (o >>= G a) left
  past_map a (Ok b) left h = h
  past_map a (Err s) left h = h

  past_first : (o : Outcome K T A) (left : List T) → Past o left → Past (o >>= λ a. q'.run a.1 >>= G a) left
  past_first (Ok a) left h = past_map a (q'.run a.1) left (no_more q' L a.1 left h (q'.run a.1) refl)
  past_first (Err s) left h = h

  seq_passes : (ts left : List T) → run_seq p.run q.run ts ≡ Err (too_deep left) → Past (run_seq p'.run q'.run ts) left
  seq_passes ts left e =
      elim (bind_err (p.run ts) (λ a. q.run a.1 >>= G a) (too_deep left) e) [
        | inl h ↦ past_first (p'.run ts) left (P.passes ts left h)
        | inr a ↦ elim (bind_err (q.run a.0.1) (G a.0) (too_deep left) a.2) [
          | inl h ↦ rw (P.ok ts a.0 a.1) (past_map a.0 (q'.run a.0.1) left (Q.passes a.0.1 left h))
          | inr b ↦ absurd (no_err ((a.0.0, b.0.0), b.0.1) (too_deep left) b.2)
        ]
      ]

  second_ends : (x front : List T) (value : A) (back : List T) → x ≡ front ++ back → p.Spells front value → q.Begun back → Ends (seq p' q') x
  second_ends x front value [] e h k = record {
    more = X.tokens;
    value = (value, X.value);
    spells = record { front = front; back = X.tokens; parts = ap (λ (w : List T). w ++ X.tokens) (e ∙ append-nil front); first = P.wider front value h; second = X.spells };
  }
  second_ends x front value (u ∷ back) e h k =
      let n = Q.ends u back k in
      record {
        more = n.more;
        value = (value, n.value);
        spells = record { front = front; back = (u ∷ back) ++ n.more; parts = ap (λ (w : List T). w ++ n.more) e ∙ append_assoc front (u ∷ back) n.more; first = P.wider front value h; second = n.spells };
      }

  seq_ends : (t : T) (x : List T) → (seq p q).Begun (t ∷ x) → Ends (seq p' q') (t ∷ x)
  seq_ends t x (inl h) =
      let k = P.ends t x h in
      record { more = k.more ++ X.tokens; value = (k.value, X.value); spells = record { front = (t ∷ x) ++ k.more; back = X.tokens; parts = sym (append_assoc (t ∷ x) k.more X.tokens); first = k.spells; second = X.spells } }
  seq_ends t x (inr h) = second_ends (t ∷ x) h.front h.value h.back h.parts h.first h.second

  pub seq_rises : Rises (seq p q) (seq p' q')
  seq_rises = record {
    ok = seq_ok;
    stays = seq_stays;
    passes = seq_passes;
    wider = λ x v h. record { front = h.front; back = h.back; parts = h.parts; first = P.wider h.front v.0 h.first; second = Q.wider h.back v.1 h.second };
    ends = seq_ends;
  }

module _ {K T A B : Type 0} (f : A → B) (p p' : Rule K T A) (P : Rises p p') where
  abbrev M : A × List T → Result (B × List T) (Halt K T)
  M a = Ok (f a.0, a.1)

  past_made : (o : Outcome K T A) (left : List T) → Past o left → Past (o >>= M) left
  past_made (Ok a) left h = h
  past_made (Err s) left h = h

  made_ok : (ts : List T) (x : B × List T) → run_made f p.run ts ≡ Ok x → run_made f p'.run ts ≡ Ok x
  made_ok ts x e = let a = bind_ok (p.run ts) M x e in rw (P.ok ts a.0 a.1) a.2

  made_fails : (ts : List T) (s : Halt K T) → run_made f p.run ts ≡ Err s → p.run ts ≡ Err s
  made_fails ts s e = elim (bind_err (p.run ts) M s e) [ inl h ↦ h | inr a ↦ absurd (no_err (f a.0.0, a.0.1) s a.2) ]

  pub made_rises : Rises (made f p) (made f p')
  made_rises = record {
    ok = made_ok;
    stays = λ ts s k e. rw (P.stays ts s k (made_fails ts s e)) refl;
    passes = λ ts left e. past_made (p'.run ts) left (P.passes ts left (made_fails ts (too_deep left) e));
    wider = λ x v h. record { inner = h.inner; spells = P.wider x h.inner h.spells; value = h.value };
    ends = λ t x h. let k = P.ends t x h in record { more = k.more; value = f k.value; spells = record { inner = k.value; spells = k.spells; value = refl } };
  }

module _ {K T A B : Type 0} (f : Option T → A → B) (p p' : Rule K T A) (P : Rises p p') where
  abbrev O : Option T → A × List T → Result (B × List T) (Halt K T)
  O t a = Ok (f t a.0, a.1)

  past_placed : (t : Option T) (o : Outcome K T A) (left : List T) → Past o left → Past (o >>= O t) left
  past_placed t (Ok a) left h = h
  past_placed t (Err s) left h = h

  placed_ok : (ts : List T) (x : B × List T) → run_placed f p.run ts ≡ Ok x → run_placed f p'.run ts ≡ Ok x
  placed_ok ts x e = let a = bind_ok (p.run ts) (O (first ts)) x e in rw (P.ok ts a.0 a.1) a.2

  placed_fails : (ts : List T) (s : Halt K T) → run_placed f p.run ts ≡ Err s → p.run ts ≡ Err s
  placed_fails ts s e = elim (bind_err (p.run ts) (O (first ts)) s e) [ inl h ↦ h | inr a ↦ absurd (no_err (f (first ts) a.0.0, a.0.1) s a.2) ]

  pub placed_rises : Rises (placed f p) (placed f p')
  placed_rises = record {
    ok = placed_ok;
    stays = λ ts s k e. rw (P.stays ts s k (placed_fails ts s e)) refl;
    passes = λ ts left e. past_placed (first ts) (p'.run ts) left (P.passes ts left (placed_fails ts (too_deep left) e));
    wider = λ x v h. record { inner = h.inner; spells = P.wider x h.inner h.spells; value = h.value };
    ends = λ t x h. let k = P.ends t x h in record { more = k.more; value = f (Some t) k.value; spells = record { inner = k.value; spells = k.spells; value = refl } };
  }

module _ {K T A : Type 0} (p p' q q' : Rule K T A) (P : Rises p p') (Q : Rises q q') (begins : (t : T) → p.begins t ≡ p'.begins t) where
  first_too : (ts : List T) (b : Bool) → heads p.begins ts ≡ b → heads p'.begins ts ≡ b
  first_too ts b h = sym (same_heads p.begins p'.begins begins ts) ∙ h

  alt_wider : (x : List T) (v : A) → (alt p q).Spells x v → (alt p' q').Spells x v
  alt_wider x v (inl h) = inl (P.wider x v h)
  alt_wider x v (inr h) = inr (Q.wider x v h)

  alt_ends : (t : T) (x : List T) → (alt p q).Begun (t ∷ x) → Ends (alt p' q') (t ∷ x)
  alt_ends t x (inl h) = let k = P.ends t x h in record { more = k.more; value = k.value; spells = inl k.spells }
  alt_ends t x (inr h) = let k = Q.ends t x h in record { more = k.more; value = k.value; spells = inr k.spells }

  pub alt_rises : Rises (alt p q) (alt p' q')
  alt_rises = record {
    ok = λ ts x e. elim (chosen (heads p.begins ts) (p.run ts) (q.run ts) (Ok x) e) [
      | inl h ↦ rw (first_too ts true h.0) (P.ok ts x h.1)
      | inr h ↦ rw (first_too ts false h.0) (Q.ok ts x h.1)
    ];
    stays = λ ts s k e. elim (chosen (heads p.begins ts) (p.run ts) (q.run ts) (Err s) e) [
      | inl h ↦ rw (first_too ts true h.0) (P.stays ts s k h.1)
      | inr h ↦ rw (first_too ts false h.0) (Q.stays ts s k h.1)
    ];
    passes = λ ts left e. elim (chosen (heads p.begins ts) (p.run ts) (q.run ts) (Err (too_deep left)) e) [
      | inl h ↦ rw (first_too ts true h.0) (P.passes ts left h.1)
      | inr h ↦ rw (first_too ts false h.0) (Q.passes ts left h.1)
    ];
    wider = alt_wider;
    ends = alt_ends;
  }

-- A level appears. The form takes at least the token that it begins with.
module _ {K T A : Type 0} (place : K) (c : T → Bool) (f : Rule K T A) (other : (ts : List T) → heads c ts ≡ false → f.run ts ≡ Err (refused place ts)) (takes : (ts : List T) → heads c ts ≡ true → Past (f.run ts) ts) where
  must_passes : (ts left : List T) → (unless c (refuse {A = A} place)).run ts ≡ Err (too_deep left) → Past (f.run ts) left
  must_passes ts left e =
      elim (chosen (heads c ts) (Err (too_deep ts)) (Err (refused place ts)) (Err (too_deep left)) e) [
        | inl h ↦ let is : ts ≡ left = ap (λ (s : Halt K T). s.left) (err_is {A = A × List T} (too_deep ts) (too_deep left) h.1) in
            subst (λ (l : List T). Past (f.run ts) l) is (takes ts h.0)
        | inr h ↦ absurd (flat (refused place ts) left tt (err_is {A = A × List T} (refused place ts) (too_deep left) h.1))
      ]

  pub must_rises : Rises (unless c (refuse place)) f
  must_rises = record {
    ok = λ ts x e. elim (chosen (heads c ts) (Err (too_deep ts)) (Err (refused place ts)) (Ok x) e) [
      | inl h ↦ absurd (no_ok (too_deep ts) x h.1)
      | inr h ↦ absurd (no_ok (refused place ts) x h.1)
    ];
    stays = λ ts s k e. elim (chosen (heads c ts) (Err (too_deep ts)) (Err (refused place ts)) (Err s) e) [
      | inl h ↦ absurd (flat s ts k (sym (err_is {A = A × List T} (too_deep ts) s h.1)))
      | inr h ↦ other ts h.0 ∙ h.1
    ];
    passes = must_passes;
    wider = λ x v h. absurd h;
    ends = λ t x h. absurd (not_nil t x h);
  }

pub sealed_rises : {K T A : Type 0} (b : T → Bool) (n : Bool) (g : T → Bool) (p q : Rule K T A) → Rises p q → Rises (sealed b n g p) (sealed b n g q)
sealed_rises b n g p q P = record {
  ok = P.ok;
  stays = P.stays;
  passes = P.passes;
  wider = P.wider;
  ends = λ t x h. let k = P.ends t x h in record { more = k.more; value = k.value; spells = k.spells };
}

-- ---- any number

module _ {K T A : Type 0} (p p' : Rule K T A) (P : Rises p p') (L : Lawful p') (begins : (t : T) → p.begins t ≡ p'.begins t) where
  abbrev N : A × List T → List A × List T → Result (List A × List T) (Halt K T)
  N a b = Ok (a.0 ∷ b.0, b.1)

  past_front : (a : A × List T) (o : Outcome K T (List A)) (left : List T) → Past o left → Past (o >>= N a) left
  past_front a (Ok b) left h = h
  past_front a (Err s) left h = h

  many_go : (n : ℕ) (left : List T) (o : Outcome K T A) → Past o left → ((ts : List T) → length ts < length left → Past (run_many p' n ts) left) → Past (o >>= λ a. run_many p' n a.1 >>= N a) left
  many_go n left (Ok a) h k = past_front a (run_many p' n a.1) left (k a.1 h)
  many_go n left (Err s) h k = h

  many_no_more : (n : ℕ) (ts left : List T) → length ts < length left → Past (run_many p' n ts) left
  many_no_more zero ts left lt = lt
  many_no_more (suc n) ts left lt =
      let go : (o : Outcome K T A) → Past o left → Past (o >>= λ a. run_many p' n a.1 >>= N a) left = λ o h. many_go n left o h (λ ts k. many_no_more n ts left k) in
      elim (heads p'.begins ts) as (λ b. Past (cond b (p'.run ts >>= λ a. run_many p' n a.1 >>= N a) (Ok ([], ts))) left) [
        | true ↦ go (p'.run ts) (no_more p' L ts left lt (p'.run ts) refl)
        | false ↦ lt
      ]

  here : (ts : List T) (b : Bool) → heads p.begins ts ≡ b → heads p'.begins ts ≡ b
  here ts b h = sym (same_heads p.begins p'.begins begins ts) ∙ h

  many_ok : (n : ℕ) (ts : List T) (x : List A × List T) → run_many p n ts ≡ Ok x → run_many p' n ts ≡ Ok x
  many_ok zero ts x e = e
  many_ok (suc n) ts x e =
      elim (chosen (heads p.begins ts) (p.run ts >>= λ a. run_many p n a.1 >>= N a) (Ok ([], ts)) (Ok x) e) [
        | inl h ↦
            let a = bind_ok (p.run ts) (λ a. run_many p n a.1 >>= N a) x h.1 in
            let b = bind_ok (run_many p n a.0.1) (N a.0) x a.2 in
            rw (here ts true h.0, P.ok ts a.0 a.1, many_ok n a.0.1 b.0 b.1) b.2
        | inr h ↦ rw (here ts false h.0) h.1
      ]

  many_stays : (n : ℕ) (ts : List T) (s : Halt K T) → Stays s.kind → run_many p n ts ≡ Err s → run_many p' n ts ≡ Err s
  many_stays zero ts s d e = e
  many_stays (suc n) ts s d e =
      elim (chosen (heads p.begins ts) (p.run ts >>= λ a. run_many p n a.1 >>= N a) (Ok ([], ts)) (Err s) e) [
        | inr h ↦ absurd (no_err ([], ts) s h.1)
        | inl h ↦ elim (bind_err (p.run ts) (λ a. run_many p n a.1 >>= N a) s h.1) [
          | inl k ↦ rw (here ts true h.0, P.stays ts s d k) refl
          | inr a ↦ elim (bind_err (run_many p n a.0.1) (N a.0) s a.2) [
            | inl k ↦ rw (here ts true h.0, P.ok ts a.0 a.1, many_stays n a.0.1 s d k) refl
            | inr b ↦ absurd (no_err (a.0.0 ∷ b.0.0, b.0.1) s b.2)
          ]
        ]
      ]

  many_passes : (n : ℕ) (ts left : List T) → run_many p n ts ≡ Err (too_deep left) → Past (run_many p' n ts) left
  many_passes zero ts left e = absurd (no_err ([], ts) (too_deep left) e)
  many_passes (suc n) ts left e =
      elim (chosen (heads p.begins ts) (p.run ts >>= λ a. run_many p n a.1 >>= N a) (Ok ([], ts)) (Err (too_deep left)) e) [
        | inr h ↦ absurd (no_err ([], ts) (too_deep left) h.1)
        | inl h ↦ elim (bind_err (p.run ts) (λ a. run_many p n a.1 >>= N a) (too_deep left) h.1) [
          | inl k ↦ rw (here ts true h.0) (many_go n left (p'.run ts) (P.passes ts left k) (λ ts k. many_no_more n ts left k))
          | inr a ↦ elim (bind_err (run_many p n a.0.1) (N a.0) (too_deep left) a.2) [
            | inl k ↦ rw (here ts true h.0, P.ok ts a.0 a.1) (past_front a.0 (run_many p' n a.0.1) left (many_passes n a.0.1 left k))
            | inr b ↦ absurd (no_err (a.0.0 ∷ b.0.0, b.0.1) (too_deep left) b.2)
          ]
        ]
      ]

  many_wider : (x : List T) (vs : List A) → AreMany p x vs → AreMany p' x vs
  many_wider x [] h = h
  many_wider x (v ∷ vs) h = record { front = h.front; back = h.back; parts = h.parts; first = P.wider h.front v h.first; others = many_wider h.back vs h.others }

  ends_at : (x front back : List T) (vs : List A) → x ≡ front ++ back → AreMany p front vs → (k : Ends p' back) → Ends (many p') x
  ends_at x front back [] e h k =
      let here : x ≡ back = e ∙ ap (λ (w : List T). w ++ back) h in
      record { more = k.more; value = k.value ∷ []; spells = record { front = back ++ k.more; back = []; parts = ap (λ (w : List T). w ++ k.more) here ∙ sym (append-nil (back ++ k.more)); first = k.spells; others = refl } }
  ends_at x front back (v ∷ vs) e h k =
      let rec = ends_at (h.back ++ back) h.back back vs refl h.others k in
      let parts : x ++ rec.more ≡ h.front ++ ((h.back ++ back) ++ rec.more) =
      ap (λ (w : List T). w ++ rec.more) (e ∙ ap (λ (w : List T). w ++ back) h.parts ∙ append_assoc h.front h.back back) ∙ append_assoc h.front (h.back ++ back) rec.more in
      record { more = rec.more; value = v ∷ rec.value; spells = record { front = h.front; back = (h.back ++ back) ++ rec.more; parts = parts; first = P.wider h.front v h.first; others = rec.spells } }

  ends_of : (x front back : List T) (vs : List A) → x ≡ front ++ back → AreMany p front vs → p.Begun back → Ends (many p') x
  ends_of x front [] vs e h k = record { more = []; value = vs; spells = subst (λ (w : List T). AreMany p' w vs) (sym (append-nil x ∙ e ∙ append-nil front)) (many_wider front vs h) }
  ends_of x front (u ∷ back) vs e h k = ends_at x front (u ∷ back) vs e h (P.ends u back k)

  pub many_rises : Rises (many p) (many p')
  many_rises = record {
    ok = λ ts x e. many_ok (length ts) ts x e;
    stays = λ ts s k e. many_stays (length ts) ts s k e;
    passes = λ ts left e. many_passes (length ts) ts left e;
    wider = many_wider;
    ends = λ t x h. ends_of (t ∷ x) h.front h.back h.values h.parts h.wholes h.last;
  }

-- ---- a form that begins with one token takes it, and refuses another

past_value : {K T A B : Type 0} (f : A → B) (o : Outcome K T A) (left : List T) → Past o left → Past {K = K} {A = B} (o >>= λ a. Ok (f a.0, a.1)) left
past_value f (Ok a) left h = h
past_value f (Err s) left h = h

past_pair : {K T B : Type 0} (t : T) (o : Outcome K T B) (left : List T) → Past o left → Past {K = K} {A = T × B} (o >>= λ b. Ok ((t, b.0), b.1)) left
past_pair t (Ok a) left h = h
past_pair t (Err s) left h = h

module _ {K T B C : Type 0} (place : K) (test : T → Bool) (f : T × B → C) (q : Rule K T B) where
  pub takes_one : (Q : Lawful q) (ts : List T) → heads test ts ≡ true → Past ((made f (seq (one place test) q)).run ts) ts
  takes_one Q [] h = absurd cc
  takes_one Q (t ∷ ts) h =
      let inner : Past (run_seq (run_one place test) q.run (t ∷ ts)) (t ∷ ts) = rw h (past_pair t (q.run ts) (t ∷ ts) (no_more q Q ts (t ∷ ts) (omega arith) (q.run ts) refl)) in
      past_value f (run_seq (run_one place test) q.run (t ∷ ts)) (t ∷ ts) inner

  pub refuses_other : (ts : List T) → heads test ts ≡ false → (made f (seq (one place test) q)).run ts ≡ Err (refused place ts)
  refuses_other ts h = rw (one_other place test ts h) refl

-- ---- examples

pub has_seq : {K T A B : Type 0} (p : Rule K T A) (q : Rule K T B) → HasExample p → HasExample q → HasExample (seq p q)
has_seq p q P Q = record { tokens = P.tokens ++ Q.tokens; value = (P.value, Q.value); spells = record { front = P.tokens; back = Q.tokens; parts = refl; first = P.spells; second = Q.spells } }

pub has_made : {K T A B : Type 0} (f : A → B) (p : Rule K T A) → HasExample p → HasExample (made f p)
has_made f p P = record { tokens = P.tokens; value = f P.value; spells = record { inner = P.value; spells = P.spells; value = refl } }

pub has_placed : {K T A B : Type 0} (f : Option T → A → B) (p : Rule K T A) → HasExample p → HasExample (placed f p)
has_placed f p P = record { tokens = P.tokens; value = f (first P.tokens) P.value; spells = record { inner = P.value; spells = P.spells; value = refl } }

pub has_first : {K T A : Type 0} (p q : Rule K T A) → HasExample p → HasExample (alt p q)
has_first p q P = record { tokens = P.tokens; value = P.value; spells = inl P.spells }

pub has_second : {K T A : Type 0} (p q : Rule K T A) → HasExample q → HasExample (alt p q)
has_second p q Q = record { tokens = Q.tokens; value = Q.value; spells = inr Q.spells }

pub has_none : {K T A : Type 0} (a : A) → HasExample (empty {K = K} {T = T} a)
has_none a = record { tokens = []; value = a; spells = record { none = refl; value = refl } }

pub has_many : {K T A : Type 0} (p : Rule K T A) → HasExample (many p)
has_many p = record { tokens = []; value = []; spells = refl }

pub has_sealed : {K T A : Type 0} (b : T → Bool) (n : Bool) (g : T → Bool) (p : Rule K T A) → HasExample p → HasExample (sealed b n g p)
has_sealed b n g p P = record { tokens = P.tokens; value = P.value; spells = P.spells }
