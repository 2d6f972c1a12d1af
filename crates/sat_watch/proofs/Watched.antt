-- What each step of a store keeps of its watches.
use Rattle.std.proofs.Common.{◌≡◌, ℕ, ◌+◌, ◌-◌, ◌==◌, ◌<◌, ◌≤◌, true, false, List, [], ◌∷◌, ◌++◌, Some, None, length, take, set, get_or, slice_get, refl, ap, sym, ◌∙◌, subst, arith, inl, inr, ◌⊎◌, length-take, length-set, length-append, take_all, append_assoc, get_or-take}
use Rattle.std.proofs.lemmas.Bool.{cases_Bool, cases_eq, cases_lt, or_cases, or_parts, eqb-true, eq-eqb, ne_eqb, false≢true}
use Rattle.std.proofs.lemmas.List.{take-take, take-append-le, length_push, get_or_push, get_or_append_left, get_or_at, get_or_past, get_or-set_same, get_or-set_other, nil_from_length, append-nil}
use Rattle.std.proofs.lemmas.Option.{slice_get_within}
use Rattle.cnf_form.specs.Literal.{negation, is_among}
use Rattle.cnf_form.specs.Store.{NoneSeen}
use Rattle.cnf_form.proofs.Trails.{is_among-push, negation-negation}
use Rattle.sat_watch.specs.Lists.{list_at}
use Rattle.sat_watch.specs.Watches.{watch_at, other_watch}
use Rattle.sat_watch.specs.Watching.{is_false, IsListed, Guards, IsGuarded, IsTrueSince, IsWatch}
use Rattle.sat_watch.specs.declared.watch.Watch.{Watch}
use Rattle.sat_watch.proofs.Entries.{among_at, among_left, among-take, among_whole, among_front, take-append, take_of_take, get_more, trail_push, trail_take}
use Rattle.sat_watch.proofs.Looking.{two_open, one_true}

-- the other watch
pub record IsOther (w : Watch) (l o : ℕ) : Type 0 where
  pub differ : w.first ≡ w.second → ⊥
  pub which : ((w.first ≡ l) × (w.second ≡ o)) ⊎ ((w.second ≡ l) × (w.first ≡ o))

pub other_parts : (w : Watch) (l o : ℕ) → other_watch w l ≡ Some o → IsOther w l o
other_parts w l o h = elim (cases_Bool (w.first == w.second)) [
  | inl e ↦ let z : other_watch w l ≡ None = grind (arith, e) in absurd (cc)
  | inr n ↦ record {
    differ = λ z. false≢true (sym n ∙ eq-eqb w.first w.second z);
    which = elim (cases_Bool (w.first == l)) [
      | inl a ↦
          let z : other_watch w l ≡ Some w.second = grind (arith, n, a) in
          inl (eqb-true w.first l a, cc)
      | inr a ↦ elim (cases_Bool (w.second == l)) [
        | inl b ↦
            let z : other_watch w l ≡ Some w.first = grind (arith, n, a, b) in
            inr (eqb-true w.second l b, cc)
        | inr b ↦ let z : other_watch w l ≡ None = grind (arith, n, a, b) in absurd (cc)
      ]
    ];
  }
]

pub other_first : (w : Watch) (l : ℕ) → (w.first ≡ w.second → ⊥) → w.first ≡ l → other_watch w l ≡ Some w.second
other_first w l n e =
    let a = ne_eqb w.first w.second n in
    let b = eq-eqb w.first l e in
    grind (arith, a, b)

pub other_second : (w : Watch) (l : ℕ) → (w.first ≡ w.second → ⊥) → w.second ≡ l → other_watch w l ≡ Some w.first
other_second w l n e =
    let a = ne_eqb w.first w.second n in
    let b : (w.first == l) ≡ false = ne_eqb w.first l (λ z. n (z ∙ sym e)) in
    let d = eq-eqb w.second l e in
    grind (arith, a, b, d)

-- a literal that isn't false needs no guard
pub guards_open : (t : List ℕ) (a b : ℕ) → is_false t a ≡ false → Guards t a b
guards_open t a b h = λ k z. absurd (false≢true (sym (among-take t k (negation a) h) ∙ z))

pub guarded_open : (t : List ℕ) (w : Watch) → (w.first ≡ w.second → ⊥) → is_false t w.first ≡ false → is_false t w.second ≡ false → IsGuarded t w
guarded_open t w n a b = record {
  differ = n;
  first = guards_open t w.first w.second a;
  second = guards_open t w.second w.first b;
}

guards_take : (t : List ℕ) (n a b : ℕ) → Guards t a b → Guards (take n t) a b
guards_take t n a b g = λ k z.
    let j = take_of_take k n t in
    ap (λ (r : List ℕ). is_among r b) j.1 ∙ g j.0 (ap (λ (r : List ℕ). is_among r (negation a)) (sym j.1) ∙ z)

guarded_take : (t : List ℕ) (n : ℕ) (w : Watch) → IsGuarded t w → IsGuarded (take n t) w
guarded_take t n w g = record {
  differ = g.differ;
  first = guards_take t n w.first w.second g.first;
  second = guards_take t n w.second w.first g.second;
}

-- one more literal at the end
guards_push : (t : List ℕ) (l a b : ℕ) → Guards t a b → (a ≡ negation l → is_among t b ≡ true) → Guards (t ++ l ∷ []) a b
guards_push t l a b g h = λ k z. elim (cases_lt (length t) k) [
  | inr s ↦
      let e = take-append-le k t (l ∷ []) s in
      ap (λ (r : List ℕ). is_among r b) e ∙ g k (ap (λ (r : List ℕ). is_among r (negation a)) (sym e) ∙ z)
  | inl s ↦
      let e : take k (t ++ l ∷ []) ≡ t ++ l ∷ [] = take_all k (t ++ l ∷ []) (omega (arith, s, length_push t l)) in
      let y : is_among (t ++ l ∷ []) (negation a) ≡ true = ap (λ (r : List ℕ). is_among r (negation a)) (sym e) ∙ z in
      let there : is_among t b ≡ true = elim (or_cases (is_among t (negation a)) (l == negation a) (sym (is_among-push t l (negation a)) ∙ y)) [
        | inl x ↦
            let f : take (length t) t ≡ t = take_all (length t) t (omega arith) in
            ap (λ (r : List ℕ). is_among r b) (sym f) ∙ g (length t) (ap (λ (r : List ℕ). is_among r (negation a)) f ∙ x)
        | inr x ↦ h (sym (negation-negation a) ∙ ap negation (sym (eqb-true l (negation a) x)))
      ] in
      ap (λ (r : List ℕ). is_among r b) e ∙ among_front t (l ∷ []) b there
]

true_more : (cs : List (List ℕ)) (t : List ℕ) (l id n : ℕ) → IsTrueSince cs t id n → IsTrueSince cs (t ++ l ∷ []) id n
true_more cs t l id n s = record {
  within = omega (arith, s.within, length_push t l);
  clause = s.clause;
  found = s.found;
  literal = s.literal;
  inside = s.inside;
  holds = ap (λ (r : List ℕ). is_among r s.literal) (take-append-le n t (l ∷ []) s.within) ∙ s.holds;
}

true_cut : (cs : List (List ℕ)) (t : List ℕ) (count id n : ℕ) → n ≤ count → IsTrueSince cs t id n → IsTrueSince cs (take count t) id n
true_cut cs t count id n few s = record {
  within = omega (arith, s.within, few, length-take count t);
  clause = s.clause;
  found = s.found;
  literal = s.literal;
  inside = s.inside;
  holds = ap (λ (r : List ℕ). is_among r s.literal) (take-take n count t few) ∙ s.holds;
}

-- other watches of a clause
pub watch_set : (cs : List (List ℕ)) (t walked : List ℕ) (watches : List Watch) (lists : List (List ℕ)) (queue since : List ℕ) → IsWatch cs t walked watches lists queue since → (id : ℕ) (v : Watch) → id < length watches → IsListed cs lists id v → (is_among queue id ≡ false → IsGuarded walked v) → IsWatch cs t walked (set watches id v) lists queue since
watch_set cs t walked watches lists queue since w id v within list guard = record {
  plain = w.plain;
  rest = w.rest;
  front = w.front;
  room = omega (arith, w.room, length-set watches id v);
  listed = λ i n. elim (cases_eq i id) [
    | inl z ↦
        let e : watch_at (set watches id v) i ≡ v = ap (watch_at (set watches id v)) z ∙ get_or-set_same watches id v (record { first = 0; second = 0 }) within in
        let P : Watch → Type 0 = λ x. IsListed cs lists i x in
        let Q : ℕ → Type 0 = λ x. IsListed cs lists x v in
        subst P (sym e) (subst Q (sym z) list)
    | inr z ↦
        let e : watch_at (set watches id v) i ≡ watch_at watches i = get_or-set_other watches id i v (record { first = 0; second = 0 }) z in
        let P : Watch → Type 0 = λ x. IsListed cs lists i x in
        subst P (sym e) (w.listed i (λ q. n (ap (λ (x : Watch). x.first) e ∙ q ∙ ap (λ (x : Watch). x.second) (sym e))))
  ];
  guarded = λ i h q. elim (cases_eq i id) [
    | inl z ↦
        let e : watch_at (set watches id v) i ≡ v = ap (watch_at (set watches id v)) z ∙ get_or-set_same watches id v (record { first = 0; second = 0 }) within in
        let P : Watch → Type 0 = λ x. IsGuarded walked x in
        subst P (sym e) (guard (ap (is_among queue) (sym z) ∙ q))
    | inr z ↦
        let e : watch_at (set watches id v) i ≡ watch_at watches i = get_or-set_other watches id i v (record { first = 0; second = 0 }) z in
        let P : Watch → Type 0 = λ x. IsGuarded walked x in
        subst P (sym e) (w.guarded i h q)
  ];
  behind = w.behind;
  true_since = w.true_since;
  ascending = w.ascending;
}

-- the literal behind a front
pub next_of : (t walked rest : List ℕ) (l : ℕ) → t ≡ walked ++ rest → length walked < length t → l ≡ get_or t (length walked) l → (after : List ℕ) × (t ≡ walked ++ l ∷ after)
next_of t walked [] l f b e = absurd (omega (arith, b, ap length f, length-append walked []))
next_of t walked (x ∷ xs) l f b e =
    let z : l ≡ x = e ∙ ap (λ (r : List ℕ). get_or r (length walked) l) f ∙ get_or_at walked x xs l (length walked) refl in
    (xs, f ∙ ap (λ y. walked ++ y ∷ xs) (sym z))

-- a clause that watches another literal in the place of one doesn't watch that one
pub stale_set : (watches : List Watch) (id l o a : ℕ) → id < length watches → other_watch (watch_at watches id) l ≡ Some o → (a ≡ l → ⊥) → (x : ℕ) → other_watch (watch_at (set watches id (record { first = o; second = a })) id) l ≡ Some x → ⊥
stale_set watches id l o a within seen n x h =
    let v : Watch = record { first = o; second = a } in
    let e : watch_at (set watches id v) id ≡ v = get_or-set_same watches id v (record { first = 0; second = 0 }) within in
    let p = other_parts (watch_at watches id) l o seen in
    let q = other_parts v l x (ap (λ (y : Watch). other_watch y l) (sym e) ∙ h) in
    let apart : o ≡ l → ⊥ = λ z. elim p.which [
      | inl y ↦ p.differ (y.0 ∙ sym z ∙ sym y.1)
      | inr y ↦ p.differ (y.1 ∙ z ∙ sym y.0)
    ] in
    elim q.which [
      | inl y ↦ apart y.0
      | inr y ↦ n y.0
    ]

module _ (cs : List (List ℕ)) (t walked : List ℕ) (watches : List Watch) (lists : List (List ℕ)) (queue since : List ℕ) (w : IsWatch cs t walked watches lists queue since) where
  pub watch_assigned : (l : ℕ) → is_among t l ≡ false → is_among t (negation l) ≡ false → IsWatch cs (t ++ l ∷ []) walked watches lists queue since
  watch_assigned l a b = record {
    plain = trail_push t l w.plain a b;
    rest = w.rest ++ l ∷ [];
    front = ap (λ (r : List ℕ). r ++ l ∷ []) w.front ∙ append_assoc walked w.rest (l ∷ []);
    room = w.room;
    listed = w.listed;
    guarded = w.guarded;
    behind = w.behind;
    true_since = λ i h. true_more cs t l (get_or queue i 0) (get_or since i 0) (w.true_since i h);
    ascending = w.ascending;
  }

  pub watch_cut : (count m : ℕ) → m ≤ length since → ((i : ℕ) → i < m → get_or since i 0 ≤ count) → IsWatch cs (take count t) (take count walked) watches lists queue (take m since)
  watch_cut count m few low =
      let len : length (take m since) ≡ m = omega (arith, length-take m since, few) in
      record {
        plain = trail_take t count w.plain;
        rest = take (count - length walked) w.rest;
        front = ap (take count) w.front ∙ take-append count walked w.rest;
        room = w.room;
        listed = w.listed;
        guarded = λ id h q. guarded_take walked count (watch_at watches id) (w.guarded id h q);
        behind = omega (arith, len, few, w.behind);
        true_since = λ i h.
            let k : i < m = omega (arith, h, len) in
            let read = get_or-take m since i 0 k in
            rw read (true_cut cs t count (get_or queue i 0) (get_or since i 0) (low i k) (w.true_since i (omega (arith, k, few))));
        ascending = λ i j h b.
            let k : j < m = omega (arith, b, len) in
            let n : i < m = omega (arith, h, k) in
            rw (get_or-take m since i 0 n, get_or-take m since j 0 k) (w.ascending i j h (omega (arith, k, few)));
      }

  pub watch_room : (v : Watch) → v.first ≡ v.second → IsWatch cs t walked (watches ++ v ∷ []) lists queue since
  watch_room v same = record {
    plain = w.plain;
    rest = w.rest;
    front = w.front;
    room = omega (arith, w.room, length_push watches v);
    listed = λ id n. elim (cases_lt id (length watches)) [
      | inl b ↦
          let e : watch_at (watches ++ v ∷ []) id ≡ watch_at watches id = get_or_append_left watches (v ∷ []) (record { first = 0; second = 0 }) id b in
          let P : Watch → Type 0 = λ x. IsListed cs lists id x in
          subst P (sym e) (w.listed id (λ z. n (ap (λ (x : Watch). x.first) e ∙ z ∙ ap (λ (x : Watch). x.second) (sym e))))
      | inr b ↦ elim (cases_eq (length watches) id) [
        | inl z ↦
            let e : watch_at (watches ++ v ∷ []) id ≡ v = get_or_push watches v (record { first = 0; second = 0 }) id z in
            absurd (n (ap (λ (x : Watch). x.first) e ∙ same ∙ ap (λ (x : Watch). x.second) (sym e)))
        | inr z ↦
            let o : Watch = record { first = 0; second = 0 } in
            let e : watch_at (watches ++ v ∷ []) id ≡ o = get_or_past (watches ++ v ∷ []) id o (omega (arith, b, z, length_push watches v)) in
            absurd (n (ap (λ (x : Watch). x.first) e ∙ ap (λ (x : Watch). x.second) (sym e)))
      ]
    ];
    guarded = λ id h q.
        let e : watch_at (watches ++ v ∷ []) id ≡ watch_at watches id = get_or_append_left watches (v ∷ []) (record { first = 0; second = 0 }) id (omega (arith, h, w.room)) in
        let P : Watch → Type 0 = λ x. IsGuarded walked x in
        subst P (sym e) (w.guarded id h q);
    behind = w.behind;
    true_since = w.true_since;
    ascending = w.ascending;
  }

  pub watch_queued : (id : ℕ) → IsWatch cs t walked watches lists (queue ++ id ∷ []) since
  watch_queued id = record {
    plain = w.plain;
    rest = w.rest;
    front = w.front;
    room = w.room;
    listed = w.listed;
    guarded = λ i h q. w.guarded i h (or_parts (is_among queue i) (id == i) (sym (is_among-push queue id i) ∙ q)).0;
    behind = omega (arith, w.behind, length_push queue id);
    true_since = λ i h.
        let read = get_or_append_left queue (id ∷ []) 0 i (omega (arith, h, w.behind)) in
        rw read (w.true_since i h);
    ascending = w.ascending;
  }

  pub watch_added : (c : List ℕ) → is_among queue (length cs) ≡ true → length cs < length watches → IsWatch (cs ++ c ∷ []) t walked watches lists queue since
  watch_added c q r = record {
    plain = w.plain;
    rest = w.rest;
    front = w.front;
    room = omega (arith, r, length_push cs c);
    listed = λ id n.
        let s = w.listed id n in
        record {
          clause = s.clause;
          found = get_more cs (c ∷ []) id s.clause s.found;
          first_in = s.first_in;
          second_in = s.second_in;
          first_listed = s.first_listed;
          second_listed = s.second_listed;
        };
    guarded = λ id h n. elim (cases_lt id (length cs)) [
      | inl b ↦ w.guarded id b n
      | inr b ↦
          let z : length cs ≡ id = omega (arith, h, b, length_push cs c) in
          absurd (false≢true (sym n ∙ ap (is_among queue) (sym z) ∙ q))
    ];
    behind = w.behind;
    true_since = λ i h.
        let s = w.true_since i h in
        record {
          within = s.within;
          clause = s.clause;
          found = get_more cs (c ∷ []) (get_or queue i 0) s.clause s.found;
          literal = s.literal;
          inside = s.inside;
          holds = s.holds;
        };
    ascending = w.ascending;
  }

  pub watch_true : (c : List ℕ) (l : ℕ) → length since < length queue → slice_get cs (get_or queue (length since) 0) ≡ Some c → is_among c l ≡ true → is_among t l ≡ true → IsWatch cs t walked watches lists queue (since ++ length t ∷ [])
  watch_true c l some found inside holds =
      let whole : take (length t) t ≡ t = take_all (length t) t (omega arith) in
      record {
        plain = w.plain;
        rest = w.rest;
        front = w.front;
        room = w.room;
        listed = w.listed;
        guarded = w.guarded;
        behind = omega (arith, some, length_push since (length t));
        true_since = λ i h. elim (cases_lt i (length since)) [
          | inl b ↦ let read = get_or_append_left since (length t ∷ []) 0 i b in rw read (w.true_since i b)
          | inr b ↦
              let z : length since ≡ i = omega (arith, h, b, length_push since (length t)) in
              let read : get_or (since ++ length t ∷ []) i 0 ≡ length t = get_or_push since (length t) 0 i z in
              rw read (record {
                within = omega arith;
                clause = c;
                found = ap (λ k. slice_get cs (get_or queue k 0)) (sym z) ∙ found;
                literal = l;
                inside = inside;
                holds = ap (λ (r : List ℕ). is_among r l) whole ∙ holds;
              })
        ];
        ascending = λ i j h b.
            let k : i < length since = omega (arith, h, b, length_push since (length t)) in
            let read = get_or_append_left since (length t ∷ []) 0 i k in
            elim (cases_lt j (length since)) [
              | inl d ↦ let to = get_or_append_left since (length t ∷ []) 0 j d in rw (read, to) (w.ascending i j h d)
              | inr d ↦
                  let z : length since ≡ j = omega (arith, b, d, length_push since (length t)) in
                  let to : get_or (since ++ length t ∷ []) j 0 ≡ length t = get_or_push since (length t) 0 j z in
                  rw (read, to) ((w.true_since i k).within)
            ];
      }

  pub watch_unqueued : (left : List ℕ) → length since < length queue → length left + 1 ≡ length queue → (length since + 1 < length queue → get_or left (length since) 0 ≡ get_or queue (length queue - 1) 0) → ((k : ℕ) → (k ≡ length since → ⊥) → k + 1 < length queue → get_or left k 0 ≡ get_or queue k 0) → (get_or queue (length since) 0 < length cs → IsGuarded walked (watch_at watches (get_or queue (length since) 0))) → IsWatch cs t walked watches lists left since
  watch_unqueued left some len last same guard = record {
    plain = w.plain;
    rest = w.rest;
    front = w.front;
    room = w.room;
    listed = w.listed;
    guarded = λ id h n. elim (cases_Bool (is_among queue id)) [
      | inr b ↦ w.guarded id h b
      | inl b ↦ elim (among_left queue left (length since) some len last same id b) [
        | inl y ↦ absurd (false≢true (sym n ∙ y))
        | inr y ↦
            let P : ℕ → Type 0 = λ i. IsGuarded walked (watch_at watches i) in
            subst P (sym y) (guard (rw (← y) h))
      ]
    ];
    behind = omega (arith, some, len);
    true_since = λ i h.
        let read : get_or left i 0 ≡ get_or queue i 0 = same i (λ z. omega (arith, z, h)) (omega (arith, h, some)) in
        rw read (w.true_since i h);
    ascending = w.ascending;
  }

  pub watch_entered : (more : List (List ℕ)) → ((k i : ℕ) → is_among (list_at lists k) i ≡ true → is_among (list_at more k) i ≡ true) → IsWatch cs t walked watches more queue since
  watch_entered more kept = record {
    plain = w.plain;
    rest = w.rest;
    front = w.front;
    room = w.room;
    listed = λ id n.
        let s = w.listed id n in
        record {
          clause = s.clause;
          found = s.found;
          first_in = s.first_in;
          second_in = s.second_in;
          first_listed = kept (watch_at watches id).first id s.first_listed;
          second_listed = kept (watch_at watches id).second id s.second_listed;
        };
    guarded = w.guarded;
    behind = w.behind;
    true_since = w.true_since;
    ascending = w.ascending;
  }

  pub watch_dropped : (less : List (List ℕ)) (l id : ℕ) → ((o : ℕ) → other_watch (watch_at watches id) l ≡ Some o → ⊥) → ((i : ℕ) → is_among (list_at lists l) i ≡ true → (is_among (list_at less l) i ≡ true) ⊎ (i ≡ id)) → ((k : ℕ) → (k ≡ l → ⊥) → list_at less k ≡ list_at lists k) → IsWatch cs t walked watches less queue since
  watch_dropped less l id stale kept others = record {
    plain = w.plain;
    rest = w.rest;
    front = w.front;
    room = w.room;
    listed = λ i n.
        let s = w.listed i n in
        let v = watch_at watches i in
        record {
          clause = s.clause;
          found = s.found;
          first_in = s.first_in;
          second_in = s.second_in;
          first_listed = still i v.first s.first_listed v.second (λ z. other_first v l n z);
          second_listed = still i v.second s.second_listed v.first (λ z. other_second v l n z);
        };
    guarded = w.guarded;
    behind = w.behind;
    true_since = w.true_since;
    ascending = w.ascending;
  }
    where
      still : (i k : ℕ) → is_among (list_at lists k) i ≡ true → (o : ℕ) → (k ≡ l → other_watch (watch_at watches i) l ≡ Some o) → is_among (list_at less k) i ≡ true
      still i k h o seen = elim (cases_eq k l) [
        | inr n ↦ ap (λ (r : List ℕ). is_among r i) (others k n) ∙ h
        | inl z ↦ elim (kept i (ap (λ x. is_among (list_at lists x) i) (sym z) ∙ h)) [
          | inl y ↦ ap (λ x. is_among (list_at less x) i) z ∙ y
          | inr y ↦ absurd (stale o (ap (λ x. other_watch (watch_at watches x) l) (sym y) ∙ seen z))
        ]
      ]

  pub watch_walked : (l : ℕ) (after : List ℕ) → t ≡ walked ++ l ∷ after → ((id : ℕ) → (is_among queue id ≡ true) ⊎ ((o : ℕ) → other_watch (watch_at watches id) (negation l) ≡ Some o → is_among walked o ≡ true)) → IsWatch cs t (walked ++ l ∷ []) watches lists queue since
  watch_walked l after front handled = record {
    plain = w.plain;
    rest = after;
    front = front ∙ sym (append_assoc walked (l ∷ []) after);
    room = w.room;
    listed = w.listed;
    guarded = λ id h q.
        let g = w.guarded id h q in
        let v = watch_at watches id in
        let known : (o : ℕ) → other_watch v (negation l) ≡ Some o → is_among walked o ≡ true = elim (handled id) [
          | inl y ↦ absurd (false≢true (sym q ∙ y))
          | inr y ↦ y
        ] in
        record {
          differ = g.differ;
          first = guards_push walked l v.first v.second g.first (λ z. known v.second (other_first v (negation l) g.differ z));
          second = guards_push walked l v.second v.first g.second (λ z. known v.first (other_second v (negation l) g.differ z));
        };
    behind = w.behind;
    true_since = w.true_since;
    ascending = w.ascending;
  }

  -- a clause that watches a literal is entered there
  pub other_listed : (id l o : ℕ) → other_watch (watch_at watches id) l ≡ Some o → is_among (list_at lists l) id ≡ true
  other_listed id l o e =
      let p = other_parts (watch_at watches id) l o e in
      let s = w.listed id p.differ in
      elim p.which [
        | inl z ↦ ap (λ k. is_among (list_at lists k) id) (sym z.0) ∙ s.first_listed
        | inr z ↦ ap (λ k. is_among (list_at lists k) id) (sym z.0) ∙ s.second_listed
      ]

  -- a literal that isn't false is not false among the walked ones
  pub walked_open : (l : ℕ) → is_false t l ≡ false → is_false walked l ≡ false
  walked_open l h = elim (cases_Bool (is_false walked l)) [
    | inr n ↦ n
    | inl y ↦ absurd (false≢true (sym h ∙ ap (λ (r : List ℕ). is_among r (negation l)) w.front ∙ among_front walked w.rest (negation l) y))
  ]

  -- where a watch is false the other one isn't false among the walked literals
  pub other_not_false : (id l o : ℕ) → id < length cs → is_among queue id ≡ false → is_false t l ≡ true → other_watch (watch_at watches id) l ≡ Some o → is_false walked o ≡ false
  other_not_false id l o h q f e =
      let g = w.guarded id h q in
      let v = watch_at watches id in
      let p = other_parts v l o e in
      let whole : take (length walked) walked ≡ walked = take_all (length walked) walked (omega arith) in
      let back : Guards walked o l = elim p.which [
        | inl z ↦ rw (← z.0, ← z.1) g.second
        | inr z ↦ rw (← z.0, ← z.1) g.first
      ] in
      elim (cases_Bool (is_false walked o)) [
        | inr n ↦ n
        | inl y ↦
            let there : is_among walked l ≡ true = ap (λ (r : List ℕ). is_among r l) (sym whole) ∙ back (length walked) (ap (λ (r : List ℕ). is_among r (negation o)) whole ∙ y) in
            let here : is_among t l ≡ true = ap (λ (r : List ℕ). is_among r l) w.front ∙ among_front walked w.rest l there in
            absurd (false≢true (sym (w.plain.consistent l here) ∙ f))
      ]

  -- another literal is watched in the place of a false one
  pub watch_replaced : (more : List (List ℕ)) (id l o a : ℕ) (c : List ℕ) → other_watch (watch_at watches id) l ≡ Some o → slice_get cs id ≡ Some c → is_among c a ≡ true → is_false t a ≡ false → (a ≡ o → ⊥) → is_false t l ≡ true → ((k i : ℕ) → is_among (list_at lists k) i ≡ true → is_among (list_at more k) i ≡ true) → is_among (list_at more a) id ≡ true → IsWatch cs t walked (set watches id (record { first = o; second = a })) more queue since
  watch_replaced more id l o a c seen found inside free n false_now kept there =
      let v = watch_at watches id in
      let p = other_parts v l o seen in
      let s = w.listed id p.differ in
      let next = watch_entered more kept in
      let same : s.clause ≡ c = let k : Some s.clause ≡ Some c = sym s.found ∙ found in cc in
      let within : id < length cs = slice_get_within cs id c found in
      let first_in : is_among s.clause o ≡ true = elim p.which [
        | inl z ↦ ap (is_among s.clause) (sym z.1) ∙ s.second_in
        | inr z ↦ ap (is_among s.clause) (sym z.1) ∙ s.first_in
      ] in
      let first_listed : is_among (list_at lists o) id ≡ true = elim p.which [
        | inl z ↦ ap (λ k. is_among (list_at lists k) id) (sym z.1) ∙ s.second_listed
        | inr z ↦ ap (λ k. is_among (list_at lists k) id) (sym z.1) ∙ s.first_listed
      ] in
      watch_set cs t walked watches more queue since next id (record { first = o; second = a }) (omega (arith, within, w.room)) (record {
        clause = s.clause;
        found = s.found;
        first_in = first_in;
        second_in = ap (λ (r : List ℕ). is_among r a) same ∙ inside;
        first_listed = kept o id first_listed;
        second_listed = there;
      }) (λ q. guarded_open walked (record { first = o; second = a }) (λ z. n (sym z)) (other_not_false id l o within q false_now seen) (walked_open a free))

  -- with all walked and all in the queue true, no clause is unit or false
  pub watch_none : length walked ≡ length t → length since ≡ length queue → NoneSeen cs t
  watch_none all done = λ id c e. elim (cases_Bool (is_among queue id)) [
    | inl y ↦
        let at = among_at queue id y in
        let s = w.true_since at.0 (omega (arith, at.1, done)) in
        let same : s.clause ≡ c = let k : Some s.clause ≡ Some c = sym s.found ∙ ap (slice_get cs) at.2 ∙ e in cc in
        one_true t c s.literal w.plain (ap (λ (r : List ℕ). is_among r s.literal) (sym same) ∙ s.inside) (among_whole t (get_or since at.0 0) s.literal s.holds)
    | inr n ↦
        let g = w.guarded id (slice_get_within cs id c e) n in
        let v = watch_at watches id in
        let s = w.listed id g.differ in
        let same : s.clause ≡ c = let k : Some s.clause ≡ Some c = sym s.found ∙ e in cc in
        let first_in : is_among c v.first ≡ true = ap (λ (r : List ℕ). is_among r v.first) (sym same) ∙ s.first_in in
        let second_in : is_among c v.second ≡ true = ap (λ (r : List ℕ). is_among r v.second) (sym same) ∙ s.second_in in
        elim (cases_Bool (is_false t v.first)) [
          | inl a ↦ one_true t c v.second w.plain second_in (guard v.first v.second g.first a)
          | inr a ↦ elim (cases_Bool (is_false t v.second)) [
            | inl b ↦ one_true t c v.first w.plain first_in (guard v.second v.first g.second b)
            | inr b ↦ two_open t c v.first v.second first_in second_in g.differ a b
          ]
        ]
  ]
    where
      whole : walked ≡ t
      whole =
          let none : w.rest ≡ [] = nil_from_length w.rest (omega (arith, ap length w.front, length-append walked w.rest, all)) in
          sym (w.front ∙ ap (λ (r : List ℕ). walked ++ r) none ∙ append-nil walked)

      guard : (a b : ℕ) → Guards walked a b → is_false t a ≡ true → is_among t b ≡ true
      guard a b g f =
          let front : take (length walked) walked ≡ walked = take_all (length walked) walked (omega arith) in
          ap (λ (r : List ℕ). is_among r b) (sym whole ∙ sym front) ∙ g (length walked) (ap (λ (r : List ℕ). is_among r (negation a)) (front ∙ whole) ∙ f)
