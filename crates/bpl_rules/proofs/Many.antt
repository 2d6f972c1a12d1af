-- Any number of phrases keeps the laws.
use Rattle.std.proofs.Common.{◌≡◌, ℕ, zero, suc, ◌<◌, ◌≤◌, Bool, true, false, List, [], ◌∷◌, ◌++◌, length, Result, Ok, Err, inl, inr, refl, sym, ap, subst, ◌∙◌, append_assoc, arith, length-append}
use Rattle.std.proofs.lemmas.List.{append-nil}
use Rattle.bpl_rules.specs.Rules.{Halt, Outcome, ◌>>=◌, Rule, heads, first, AreMany, ManyBegun, run_many, many}
use Rattle.bpl_rules.proofs.Laws.{bind_ok, bind_err, ok_is, no_err, chosen, neither, heads_first, first_splits, cuts, Stops, Stops_heads, Stops_less, Starts, Fronts, Apart, front_stops, Same, Same_first, Leads, leads_map, AtEnd, Lawful}
use Rattle.bpl_rules.proofs.Choice.{seq_stops}

grows : {T : Type 0} (b : T → Bool) (x : List T) → Starts b false x → 0 < length x
grows b [] h = absurd cc
grows b (t ∷ x) h = omega arith

shorter : {T : Type 0} (ts x rest : List T) → ts ≡ x ++ rest → 0 < length x → length rest < length ts
shorter ts x rest e h = omega (arith, ap length e, length-append x rest)

long_starts_at : {T : Type 0} (b : T → Bool) (n : Bool) (front back : List T) → 0 < length front → Starts b n front → Starts b true (front ++ back)
long_starts_at b n [] back lt h = absurd (omega arith)
long_starts_at b n (t ∷ front) back lt h = h

long_heads_at : {T : Type 0} (b : T → Bool) (n : Bool) (front back : List T) → 0 < length front → Starts b n front → heads b (front ++ back) ≡ true
long_heads_at b n [] back lt h = absurd (omega arith)
long_heads_at b n (t ∷ front) back lt h = h

starts_front : {T : Type 0} (b : T → Bool) (n : Bool) (x : List T) → Starts b n x → Fronts b x
starts_front b n [] h = tt
starts_front b n (t ∷ x) h = h

fronts_append : {T : Type 0} (b : T → Bool) (x y : List T) → Fronts b x → Fronts b y → Fronts b (x ++ y)
fronts_append b [] y h k = k
fronts_append b (t ∷ x) y h k = h

module _ {K T A : Type 0} (p : Rule K T A) (P : Lawful p) (long : p.nullable ≡ false) (apart : Apart p.goes_on p.begins) where
  abbrev long_starts : (front back : List T) → 0 < length front → Starts p.begins p.nullable front → Starts p.begins true (front ++ back)
  long_starts = long_starts_at p.begins p.nullable

  abbrev long_heads : (front back : List T) → 0 < length front → Starts p.begins p.nullable front → heads p.begins (front ++ back) ≡ true
  long_heads = long_heads_at p.begins p.nullable

  pub record TakenMany (ts : List T) (vs : List A) (rest : List T) : Type 0 where
    pub phrase : List T
    pub splits : ts ≡ phrase ++ rest
    pub spells : AreMany p phrase vs
    pub steady : (other : List T) → first other ≡ first rest → (m : ℕ) → length (phrase ++ other) ≤ m → run_many p m (phrase ++ other) ≡ Ok (vs, other)

  pub record HaltedMany (ts : List T) (s : Halt K T) : Type 0 where
    pub phrase : List T
    pub splits : ts ≡ phrase ++ s.left
    pub begun : ManyBegun p phrase
    pub leads : Leads s.kind (ManyBegun p) phrase s.left
    -- a fault in a phrase is never of no tokens at all
    pub stuck : (other : List T) → Same s.kind other s.left → (m : ℕ) → length (phrase ++ other) ≤ m → run_many p m (phrase ++ other) ≡ Err (record { kind = s.kind; left = other })

  abbrev N : A × List T → List A × List T → Result (List A × List T) (Halt K T)
  N a b = Ok (a.0 ∷ b.0, b.1)

  many_stop : (m : ℕ) (other : List T) → heads p.begins other ≡ false → run_many p m other ≡ Ok ([], other)
  many_stop zero other h = refl
  many_stop (suc m) other h = rw h refl

  many_step : (m : ℕ) (ts : List T) (a : A × List T) (r : Outcome K T (List A)) → heads p.begins ts ≡ true → p.run ts ≡ Ok a → length (a.1) < length ts → length ts ≤ m
      → ((n : ℕ) → length (a.1) ≤ n → run_many p n a.1 ≡ r) → run_many p m ts ≡ (r >>= N a)
  many_step zero ts a r h ha lt le k = absurd (omega arith)
  many_step (suc n) ts a r h ha lt le k = rw (h, ha, k n (omega arith)) refl

  many_fail : (m : ℕ) (ts : List T) (s : Halt K T) → heads p.begins ts ≡ true → p.run ts ≡ Err s → 0 < m → run_many p m ts ≡ Err s
  many_fail zero ts s h e lt = absurd (omega arith)
  many_fail (suc m) ts s h e lt = rw (h, e) refl

  heads_long : (b : T → Bool) (ts : List T) → heads b ts ≡ true → 0 < length ts
  heads_long b [] h = absurd cc
  heads_long b (t ∷ ts) h = omega arith

  not_empty : (x : List T) (v : A) → p.Spells x v → 0 < length x
  not_empty x v h = grows p.begins x (subst (λ (n : Bool). Starts p.begins n x) long (P.starts x v h))

  many_sound : (n : ℕ) (ts : List T) (vs : List A) (rest : List T) → length ts ≤ n → run_many p n ts ≡ Ok (vs, rest) → TakenMany ts vs rest
  many_sound zero [] vs rest le e = subst (λ (r : List A × List T). TakenMany [] r.0 r.1) (ok_is {E = Halt K T} ([], []) (vs, rest) e)
      (record { phrase = []; splits = refl; spells = refl; steady = λ other h m le. many_stop m other (heads_first p.begins other [] h) })
  many_sound zero (t ∷ ts) vs rest le e = absurd (omega arith)
  many_sound (suc n) ts vs rest le e =
      elim (chosen (heads p.begins ts) (p.run ts >>= λ a. run_many p n a.1 >>= N a) (Ok ([], ts)) (Ok (vs, rest)) e) [
        | inl h ↦
            let a = bind_ok (p.run ts) (λ a. run_many p n a.1 >>= N a) (vs, rest) h.1 in
            let b = bind_ok (run_many p n a.0.1) (N a.0) (vs, rest) a.2 in
            let tp = P.sound ts a.0.0 a.0.1 a.1 in
            let lt : length (a.0.1) < length ts = shorter ts tp.phrase a.0.1 tp.splits (not_empty tp.phrase a.0.0 tp.spells) in
            let rec = many_sound n a.0.1 b.0.0 b.0.1 (omega arith) b.1 in
            subst (λ (r : List A × List T). TakenMany ts r.0 r.1) (ok_is {E = Halt K T} (a.0.0 ∷ b.0.0, b.0.1) (vs, rest) b.2)
            (record {
              phrase = tp.phrase ++ rec.phrase;
              splits = tp.splits ∙ ap (λ (w : List T). tp.phrase ++ w) rec.splits ∙ sym (append_assoc tp.phrase rec.phrase b.0.1);
              spells = record { front = tp.phrase; back = rec.phrase; parts = refl; first = tp.spells; others = rec.spells };
              steady = λ other k m le.
                  let same : first (rec.phrase ++ other) ≡ first a.0.1 = first_splits a.0.1 rec.phrase b.0.1 other rec.splits k in
                  let begun : heads p.begins (tp.phrase ++ (rec.phrase ++ other)) ≡ true = heads_first p.begins (tp.phrase ++ (rec.phrase ++ other)) ts (first_splits ts tp.phrase a.0.1 (rec.phrase ++ other) tp.splits same) ∙ h.0 in
                  let regrouped = append_assoc tp.phrase rec.phrase other in
                  let le2 = rw regrouped at le in
                  rw regrouped (many_step m (tp.phrase ++ (rec.phrase ++ other)) (a.0.0, rec.phrase ++ other) (Ok (b.0.0, other)) begun (tp.steady (rec.phrase ++ other) same)
                  (shorter (tp.phrase ++ (rec.phrase ++ other)) tp.phrase (rec.phrase ++ other) refl (not_empty tp.phrase a.0.0 tp.spells)) le2 (rec.steady other k));
            })
        | inr h ↦ subst (λ (r : List A × List T). TakenMany ts r.0 r.1) (ok_is {E = Halt K T} ([], ts) (vs, rest) h.1)
            (record { phrase = []; splits = refl; spells = refl; steady = λ other k m le. many_stop m other (heads_first p.begins other ts k ∙ h.0) })
      ]

  many_starts : (x : List T) (vs : List A) → AreMany p x vs → Starts p.begins true x
  many_starts x [] h = rw h refl
  many_starts x (v ∷ vs) h = rw h.parts (long_starts h.front h.back (not_empty h.front v h.first) (P.starts h.front v h.first))

  many_complete : (x : List T) (vs : List A) (rest : List T) (m : ℕ) → AreMany p x vs → Stops (many p).goes_on rest → length (x ++ rest) ≤ m → run_many p m (x ++ rest) ≡ Ok (vs, rest)
  many_complete x [] rest m h s le = rw h (many_stop m rest (Stops_heads p.begins rest (Stops_less p.begins (many p).goes_on rest (λ t e. (neither (p.begins t) (p.goes_on t) e).0) s)))
  many_complete x (v ∷ vs) rest m h s le =
      let after : Stops p.goes_on (h.back ++ rest) = seq_stops p.goes_on p.begins p.begins true h.back rest apart (many_starts h.back vs h.others) s in
      let regrouped = ap (λ (w : List T). w ++ rest) h.parts ∙ append_assoc h.front h.back rest in
      let le2 = rw regrouped at le in
      let long_front = not_empty h.front v h.first in
      rw regrouped (many_step m (h.front ++ (h.back ++ rest)) (v, h.back ++ rest) (Ok (vs, rest)) (long_heads h.front (h.back ++ rest) long_front (P.starts h.front v h.first)) (P.complete h.front v (h.back ++ rest) h.first after)
      (shorter (h.front ++ (h.back ++ rest)) h.front (h.back ++ rest) refl long_front) le2 (λ n k. many_complete h.back vs rest n h.others s k))

  one_begun : (x : List T) → p.Begun x → ManyBegun p x
  one_begun x h = record { front = []; back = x; values = []; parts = refl; wholes = refl; last = h }

  more_begun : (front : List T) (v : A) (x : List T) → p.Spells front v → ManyBegun p x → ManyBegun p (front ++ x)
  more_begun front v x h k = record {
    front = front ++ k.front;
    back = k.back;
    values = v ∷ k.values;
    parts = ap (λ (w : List T). front ++ w) k.parts ∙ sym (append_assoc front k.front k.back);
    wholes = record { front = front; back = k.front; parts = refl; first = h; others = k.wholes };
    last = k.last;
  }

  many_halts : (n : ℕ) (ts : List T) (s : Halt K T) → length ts ≤ n → run_many p n ts ≡ Err s → HaltedMany ts s
  many_halts zero ts s le e = absurd (no_err ([], ts) s e)
  many_halts (suc n) ts s le e =
      elim (chosen (heads p.begins ts) (p.run ts >>= λ a. run_many p n a.1 >>= N a) (Ok ([], ts)) (Err s) e) [
        | inr h ↦ absurd (no_err ([], ts) s h.1)
        | inl h ↦ elim (bind_err (p.run ts) (λ a. run_many p n a.1 >>= N a) s h.1) [
          | inl k ↦
              let hp = P.halts ts s k in
              record {
                phrase = hp.phrase;
                splits = hp.splits;
                begun = one_begun hp.phrase hp.begun;
                leads = leads_map s.kind p.Begun (ManyBegun p) hp.phrase hp.phrase s.left (λ z b. one_begun (hp.phrase ++ z) b) hp.leads;
                stuck = λ other same m le.
                    let begun : heads p.begins (hp.phrase ++ other) ≡ true = heads_first p.begins (hp.phrase ++ other) ts (first_splits ts hp.phrase s.left other hp.splits (Same_first s.kind other s.left same)) ∙ h.0 in
                    let some : 0 < length (hp.phrase ++ other) = heads_long p.begins (hp.phrase ++ other) begun in
                    many_fail m (hp.phrase ++ other) _ begun (hp.stuck other same) (omega arith);
              }
          | inr a ↦ elim (bind_err (run_many p n a.0.1) (N a.0) s a.2) [
            | inr b ↦ absurd (no_err (a.0.0 ∷ b.0.0, b.0.1) s b.2)
            | inl k ↦
                let tp = P.sound ts a.0.0 a.0.1 a.1 in
                let lt : length (a.0.1) < length ts = shorter ts tp.phrase a.0.1 tp.splits (not_empty tp.phrase a.0.0 tp.spells) in
                let rec = many_halts n a.0.1 s (omega arith) k in
                record {
                  phrase = tp.phrase ++ rec.phrase;
                  splits = tp.splits ∙ ap (λ (w : List T). tp.phrase ++ w) rec.splits ∙ sym (append_assoc tp.phrase rec.phrase s.left);
                  begun = more_begun tp.phrase a.0.0 rec.phrase tp.spells rec.begun;
                  leads = leads_map s.kind (ManyBegun p) (ManyBegun p) rec.phrase (tp.phrase ++ rec.phrase) s.left
                      (λ z b. subst (ManyBegun p) (sym (append_assoc tp.phrase rec.phrase z)) (more_begun tp.phrase a.0.0 (rec.phrase ++ z) tp.spells b)) rec.leads;
                  stuck = λ other same m le.
                      let at : first (rec.phrase ++ other) ≡ first a.0.1 = first_splits a.0.1 rec.phrase s.left other rec.splits (Same_first s.kind other s.left same) in
                      let begun : heads p.begins (tp.phrase ++ (rec.phrase ++ other)) ≡ true = heads_first p.begins (tp.phrase ++ (rec.phrase ++ other)) ts (first_splits ts tp.phrase a.0.1 (rec.phrase ++ other) tp.splits at) ∙ h.0 in
                      let regrouped = append_assoc tp.phrase rec.phrase other in
                      let le2 = rw regrouped at le in
                      rw regrouped (many_step m (tp.phrase ++ (rec.phrase ++ other)) (a.0.0, rec.phrase ++ other) (Err (record { kind = s.kind; left = other })) begun (tp.steady (rec.phrase ++ other) at)
                      (shorter (tp.phrase ++ (rec.phrase ++ other)) tp.phrase (rec.phrase ++ other) refl (not_empty tp.phrase a.0.0 tp.spells)) le2 (rec.stuck other same));
                }
          ]
        ]
      ]

  many_whole : (x : List T) (vs : List A) → AreMany p x vs → ManyBegun p x
  many_whole x vs h = record { front = x; back = []; values = vs; parts = sym (append-nil x); wholes = h; last = P.nothing }

  fronts_at : (x y front back : List T) (vs : List A) → x ++ y ≡ front ++ back → AreMany p front vs → p.Begun back → ManyBegun p x
  fronts_at x y front back [] e h k = one_begun x (P.fronts x y (subst p.Begun (sym (e ∙ ap (λ (w : List T). w ++ back) h)) k))
  fronts_at x y front back (v ∷ vs) e h k =
      let regrouped : x ++ y ≡ h.front ++ (h.back ++ back) = e ∙ ap (λ (w : List T). w ++ back) h.parts ∙ append_assoc h.front h.back back in
      elim (cuts x y h.front (h.back ++ back) regrouped) [
        | inl c ↦ one_begun x (P.fronts x c.0 (subst p.Begun c.1 (P.whole h.front v h.first)))
        | inr c ↦ subst (ManyBegun p) (sym c.1) (more_begun h.front v c.0 h.first (fronts_at c.0 y h.back back vs (sym c.2) h.others k))
      ]

  wholes_front : (x back : List T) (vs : List A) → AreMany p x vs → p.Begun back → Fronts p.begins (x ++ back)
  wholes_front x back vs h k = fronts_append p.begins x back (starts_front p.begins true x (many_starts x vs h)) (P.begun_starts back k)

  last_outcome : (n : ℕ) (o : Outcome K T A) → AtEnd o → AtEnd (o >>= λ a. run_many p n a.1 >>= N a)
  last_outcome n (Ok a) h = rw (h, many_stop n [] refl) refl
  last_outcome n (Err s) h = h

  last_at_end : (m : ℕ) (back : List T) → length back ≤ m → Fronts p.begins back → AtEnd (p.run back) → AtEnd (run_many p m back)
  last_at_end m [] le b h = rw (many_stop m [] refl) refl
  last_at_end zero (t ∷ back) le b h = absurd (omega arith)
  last_at_end (suc n) (t ∷ back) le b h = rw b (last_outcome n (p.run (t ∷ back)) h)

  at_end_more : (a : A × List T) (o : Outcome K T (List A)) → AtEnd o → AtEnd (o >>= N a)
  at_end_more a (Ok b) h = h
  at_end_more a (Err s) h = h

  reaches_step : (m : ℕ) (ts : List T) (a : A × List T) → heads p.begins ts ≡ true → p.run ts ≡ Ok a → length (a.1) < length ts → length ts ≤ m
      → ((n : ℕ) → length (a.1) ≤ n → AtEnd (run_many p n a.1)) → AtEnd (run_many p m ts)
  reaches_step zero ts a h ha lt le k = absurd (omega arith)
  reaches_step (suc n) ts a h ha lt le k = rw (h, ha) (at_end_more a (run_many p n a.1) (k n (omega arith)))

  reaches_at : (front back : List T) (vs : List A) (m : ℕ) → length (front ++ back) ≤ m → AreMany p front vs → p.Begun back → AtEnd (run_many p m (front ++ back))
  reaches_at front back [] m le h k =
      let same : front ++ back ≡ back = ap (λ (w : List T). w ++ back) h in
      rw same (last_at_end m back (let le2 = rw same at le in le2) (P.begun_starts back k) (P.reaches back k))
  reaches_at front back (v ∷ vs) m le h k =
      let regrouped : front ++ back ≡ h.front ++ (h.back ++ back) = ap (λ (w : List T). w ++ back) h.parts ∙ append_assoc h.front h.back back in
      let le2 = rw regrouped at le in
      let long_front = not_empty h.front v h.first in
      let after = front_stops p.goes_on p.begins (h.back ++ back) apart (wholes_front h.back back vs h.others k) in
      let lt = shorter (h.front ++ (h.back ++ back)) h.front (h.back ++ back) refl long_front in
      rw regrouped (reaches_step m (h.front ++ (h.back ++ back)) (v, h.back ++ back) (long_heads h.front (h.back ++ back) long_front (P.starts h.front v h.first)) (P.complete h.front v (h.back ++ back) h.first after)
      lt le2 (λ n l. reaches_at h.back back vs n l h.others k))

  pub many_lawful : Lawful (many p)
  many_lawful = record {
    sound = λ ts vs rest e.
        let t = many_sound (length ts) ts vs rest (omega arith) e in
        record { phrase = t.phrase; splits = t.splits; spells = t.spells; steady = λ other h. t.steady other h (length (t.phrase ++ other)) (omega arith) };
    complete = λ x vs rest h s. many_complete x vs rest (length (x ++ rest)) h s (omega arith);
    halts = λ ts s e.
        let t = many_halts (length ts) ts s (omega arith) e in
        record { phrase = t.phrase; splits = t.splits; begun = t.begun; leads = t.leads; stuck = λ other same. t.stuck other same (length (t.phrase ++ other)) (omega arith) };
    starts = many_starts;
    nothing = one_begun [] P.nothing;
    whole = many_whole;
    fronts = λ x y h. fronts_at x y h.front h.back h.values h.parts h.wholes h.last;
    begun_starts = λ x h. subst (Fronts p.begins) (sym h.parts) (wholes_front h.front h.back h.values h.wholes h.last);
    reaches = λ x h. subst (λ w. AtEnd (run_many p (length w) w)) (sym h.parts) (reaches_at h.front h.back h.values (length (h.front ++ h.back)) (omega arith) h.wholes h.last);
  }
