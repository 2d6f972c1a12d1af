-- What the laws of a grammar's whole rule say of programs.
use Rattle.std.proofs.Common.{◌≡◌, ℕ, zero, suc, ◌+◌, ◌≤◌, List, [], ◌∷◌, ◌++◌, length, Ok, Err, refl, sym, ap, subst, ◌∙◌, append_assoc, arith, length-append}
use Rattle.std.proofs.lemmas.List.{append-nil}
use Rattle.bpl_rules.specs.Rules.{Fault, Refused, Ahead, TooDeep, Halt, refused, too_deep, Outcome, Rule}
use Rattle.bpl_rules.specs.Reading.{IsRefused, TooDeepAt, StopsAt, AreFronts}
use Rattle.bpl_rules.proofs.Laws.{no_ok, Lawful, Same, Halted, AtEnd}
use Rattle.bpl_rules.proofs.Rises.{Past, Stays, Rises, HasExample}

longer_front : {T : Type 0} (before : List T) (t : T) (tl x rest : List T) → before ++ t ∷ tl ≡ x ++ rest → length rest ≤ length tl → (y : List T) × (x ≡ (before ++ t ∷ []) ++ y)
longer_front [] t tl [] rest e le = absurd (omega (arith, ap length e))
longer_front [] t tl (u ∷ x) rest e le = let same : t ≡ u = cc in (x, ap (λ w. w ∷ x) (sym same))
longer_front (b ∷ before) t tl [] rest e le = absurd (omega (arith, ap length e, length-append before (t ∷ tl)))
longer_front (b ∷ before) t tl (u ∷ x) rest e le =
    let head : b ≡ u = cc in
    let back : before ++ t ∷ tl ≡ x ++ rest = cc in
    let y = longer_front before t tl x rest back le in
    (y.0, ap (λ w. w ∷ x) (sym head) ∙ ap (λ w. b ∷ w) y.1)

not_nil : {T : Type 0} (t : T) (ts : List T) → t ∷ ts ≡ [] → ⊥
not_nil t ts e = cc

module _ {K T A : Type 0} (whole : ℕ → Rule K T A) (L : (d : ℕ) → Lawful (whole d)) (R : (d : ℕ) → Rises (whole d) (whole (suc d))) where
  pub found : (d : ℕ) (ts : List T) (v : A) → (whole d).run ts ≡ Ok (v, []) → (whole d).Spells ts v
  found d ts v e =
      let t = (L d).sound ts v [] e in
      let same : ts ≡ t.phrase = t.splits ∙ append-nil t.phrase in
      subst (λ (x : List T). (whole d).Spells x v) (sym same) t.spells

  pub only : (d : ℕ) (ts : List T) (v : A) → (whole d).Spells ts v → (whole d).run ts ≡ Ok (v, [])
  only d ts v h = ap (whole d).run (sym (append-nil ts)) ∙ (L d).complete ts v [] h tt

  still : (k d : ℕ) (ts : List T) (s : Halt K T) → Stays s.kind → (whole d).run ts ≡ Err s → (whole (k + d)).run ts ≡ Err s
  still zero d ts s h e = let same : 0 + d ≡ d = omega arith in rw same e
  still (suc k) d ts s h e = let same : suc k + d ≡ suc (k + d) = omega arith in rw same ((R (k + d)).stays ts s h (still k d ts s h e))

  -- what reads to a fault before the end has not begun
  not_begun : (d : ℕ) (x : List T) (o : Outcome K T A) → (whole d).run x ≡ o → (AtEnd o → ⊥) → (whole d).Begun x → ⊥
  not_begun d x o e wrong h = wrong (subst AtEnd e ((L d).reaches x h))

  refused_at : (d : ℕ) (place : K) (before left : List T) → ((other : List T) → Same (Refused place) other left → (whole d).run (before ++ other) ≡ Err (refused place other)) → (k : ℕ) → IsRefused (whole (k + d)) before left
  refused_at d place before [] stuck k = λ v reads.
      no_ok (refused place []) (v, []) (sym (still k d (before ++ []) (refused place []) tt (stuck [] refl)) ∙ ap (whole (k + d)).run (append-nil before) ∙ only (k + d) before v reads)
  refused_at d place before (t ∷ left) stuck k = λ b.
      not_begun (k + d) (before ++ t ∷ []) (Err (refused place (t ∷ []))) (still k d (before ++ t ∷ []) (refused place (t ∷ [])) tt (stuck (t ∷ []) refl)) (λ e. not_nil t [] e) b

  abbrev ahead : K → List T → Halt K T
  ahead place ts = record { kind = Ahead place; left = ts }

  ahead_at : (d : ℕ) (place : K) (before : List T) (t : T) (rest : List T) → ((other : List T) → Same (Ahead place) other (t ∷ rest) → (whole d).run (before ++ other) ≡ Err (ahead place other))
      → (k : ℕ) → IsRefused (whole (k + d)) (before ++ t ∷ []) rest
  ahead_at d place before t [] stuck k = λ v reads.
      no_ok (ahead place (t ∷ [])) (v, []) (sym (still k d (before ++ t ∷ []) (ahead place (t ∷ [])) tt (stuck (t ∷ []) (refl, refl))) ∙ only (k + d) (before ++ t ∷ []) v reads)
  ahead_at d place before t (u ∷ rest) stuck k = λ b.
      not_begun (k + d) (before ++ t ∷ u ∷ []) (Err (ahead place (t ∷ u ∷ []))) (still k d (before ++ t ∷ u ∷ []) (ahead place (t ∷ u ∷ [])) tt (stuck (t ∷ u ∷ []) (refl, refl))) (λ e. not_nil u [] e)
      (subst (whole (k + d)).Begun (append_assoc before (t ∷ []) (u ∷ [])) b)

  deeper_at : (d : ℕ) (before : List T) (t : T) (tl : List T) (o : Outcome K T A) → (whole d).run (before ++ t ∷ tl) ≡ o → Past o (t ∷ tl) → (whole d).Begun (before ++ t ∷ [])
  deeper_at d before t tl (Ok x) e lt =
      let k = (L d).sound (before ++ t ∷ tl) x.0 x.1 e in
      let y = longer_front before t tl k.phrase x.1 k.splits (omega arith) in
      (L d).fronts (before ++ t ∷ []) y.0 (subst (whole d).Begun y.1 ((L d).whole k.phrase x.0 k.spells))
  deeper_at d before t tl (Err s) e lt =
      let k = (L d).halts (before ++ t ∷ tl) s e in
      let y = longer_front before t tl k.phrase s.left k.splits (omega arith) in
      (L d).fronts (before ++ t ∷ []) y.0 (subst (whole d).Begun y.1 k.begun)

  nothing_past : (o : Outcome K T A) → Past o [] → ⊥
  nothing_past (Ok x) h = omega arith
  nothing_past (Err s) h = omega arith

  too_deep_at : (d : ℕ) (ts left : List T) → (whole d).run ts ≡ Err (too_deep left) → Halted (whole d).Begun (whole d).run ts (too_deep left) → TooDeepAt whole d ts left
  too_deep_at d ts [] e h = absurd (nothing_past ((whole (suc d)).run ts) ((R d).passes ts [] e))
  too_deep_at d ts (t ∷ tl) e h = record {
    before = h.phrase;
    token = t;
    rest = tl;
    parts = h.splits;
    at = refl;
    begun = h.begun;
    over = not_begun d (h.phrase ++ t ∷ []) (Err (too_deep (t ∷ []))) (h.stuck (t ∷ []) refl) (λ e. not_nil t [] e);
    deeper =
        let e2 : (whole d).run (h.phrase ++ t ∷ tl) ≡ Err (too_deep (t ∷ tl)) = ap (whole d).run (sym h.splits) ∙ e in
        deeper_at (suc d) h.phrase t tl ((whole (suc d)).run (h.phrase ++ t ∷ tl)) refl ((R d).passes (h.phrase ++ t ∷ tl) (t ∷ tl) e2);
  }

  pub stops : (d : ℕ) (ts : List T) (kind : Fault K) (left : List T) → (whole d).run ts ≡ Err (record { kind = kind; left = left }) → StopsAt whole d ts kind left
  stops d ts (Refused place) left e =
      let h = (L d).halts ts (refused place left) e in
      record { before = h.phrase; parts = h.splits; begun = h.begun; refused = refused_at d place h.phrase left h.stuck }
  stops d ts (Ahead place) left e =
      let h = (L d).halts ts (ahead place left) e in
      let l = h.leads in
      record {
        before = h.phrase;
        token = l.token;
        rest = l.others;
        parts = h.splits ∙ ap (λ (w : List T). h.phrase ++ w) l.is;
        at = l.is;
        begun = l.with_it;
        refused = ahead_at d place h.phrase l.token l.others (subst (λ (w : List T). (other : List T) → Same (Ahead place) other w → (whole d).run (h.phrase ++ other) ≡ Err (ahead place other)) l.is h.stuck);
      }
  stops d ts TooDeep left e = too_deep_at d ts left e ((L d).halts ts (too_deep left) e)

  ends_at : (d : ℕ) → HasExample (whole (suc d)) → (x : List T) → (whole d).Begun x → (more : List T) × (value : A) × (whole (suc d)).Spells (x ++ more) value
  ends_at d X [] h = (X.tokens, X.value, X.spells)
  ends_at d X (t ∷ x) h = let e = (R d).ends t x h in (e.more, e.value, e.spells)

  pub are_fronts : (d : ℕ) → HasExample (whole (suc d)) → AreFronts whole d
  are_fronts d X = record {
    ends = ends_at d X;
    begins = λ x more v h. (L d).fronts x more ((L d).whole (x ++ more) v h);
  }
