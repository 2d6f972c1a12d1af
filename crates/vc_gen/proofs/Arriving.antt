-- Edges that lead to one goal, one by one.
use Rattle.std.proofs.Common.{◌≡◌, ℕ, zero, suc, ◌+◌, ◌-◌, ◌<◌, ◌≤◌, Bool, true, false, ◌&&◌, ◌||◌, List, [], ◌∷◌, ◌++◌, length, take, arith, sym, ◌∙◌, ap, refl, subst, append_assoc, length-append}
use Rattle.std.specs.Prelude.{Option, None, Some, slice_get, slice_index_or, if◌then◌else◌}
use Rattle.std.specs.List.{remove}
use Rattle.std.proofs.lemmas.List.{map-append}
use Rattle.std.proofs.lemmas.List.Edits.{remove-append_right}
use Rattle.hy_val.specs.Values.{is_on}
use Rattle.hy_val.specs.declared.sort.Sort.{Sort}
use Rattle.hy_val.specs.declared.value.Value.{Value}
use Rattle.hy_val.specs.declared.expr.Env.{Env}
use Rattle.hy_term.specs.Meaning.{value}
use Rattle.hy_term.specs.declared.node.TermNode.{TermNode}
use Rattle.passive_form.specs.Local.{is_target}
use Rattle.vc_gen.specs.Fold.{Edge, comes, reached, entered, others, is_return, is_end, ends, end_env}
use Rattle.vc_gen.specs.declared.parts.Wait.{Wait}
use Rattle.vc_gen.specs.Standing.{Later, Plain, AreOf}
use Rattle.vc_gen.specs.Instance.{all_at, edge_at, edges_at}
use Rattle.vc_gen.specs.Joins.{SameSorts, WaitThere, WaitOf, WaitsOf, Joined}
use Rattle.vc_gen.specs.Edges.{WaitsThere, env_at}
use Rattle.vc_gen.specs.Entering.{wanted, arrives, met, met_env, wanted_at, kept, KeepSoFar, EnterReady, EnterSoFar, Entered}
use Rattle.vc_gen.proofs.Looking.{take_at, take_all}
use Rattle.vc_gen.proofs.Growth.{later_same, later_then, plain_same, plain_then}
use Rattle.vc_gen.proofs.Joining.{fits_before}
use Rattle.vc_gen.proofs.Passes.{bit_later}
use Rattle.vc_gen.proofs.Fanning.{edge_later, of_later}

-- ---- a block and the end as goals

target_wanted : (t : Option ℕ) (n : ℕ) → wanted t (Some n) ≡ is_target t n
target_wanted None n = refl
target_wanted (Some t) n = refl

return_wanted : (t : Option ℕ) (on : Bool) → (wanted t None && on) ≡ is_return t on
return_wanted None on = refl
return_wanted (Some t) on = refl

pub met_reached : (n : ℕ) (es : List Edge) → met (Some n) es ≡ reached n es
met_reached n [] = refl
met_reached n (e ∷ es) = ap (λ b. (b && e.live) || met (Some n) es) (target_wanted e.target n) ∙ ap (λ b. comes n e || b) (met_reached n es)

pub met_entered : (n : ℕ) (d : Env) (es : List Edge) → met_env (Some n) d es ≡ entered n d es
met_entered n d [] = refl
met_entered n d (e ∷ es) = ap (λ b. met_env (Some n) (if b && e.live then e.env else d) es) (target_wanted e.target n) ∙ met_entered n (if comes n e then e.env else d) es

pub met_ends : (es : List Edge) → met None es ≡ ends es
met_ends [] = refl
met_ends (e ∷ es) = ap (λ b. b || met None es) (return_wanted e.target e.live) ∙ ap (λ b. is_end e || b) (met_ends es)

pub met_end_env : (d : Env) (es : List Edge) → met_env None d es ≡ end_env d es
met_end_env d [] = refl
met_end_env d (e ∷ es) = ap (λ b. met_env None (if b then e.env else d) es) (return_wanted e.target e.live) ∙ met_end_env (if is_end e then e.env else d) es

pub kept_others : (a : ℕ → Value) (nodes : List TermNode) (consts : List Value) (n : ℕ) (ws : List Wait) → edges_at a nodes consts (kept (Some n) ws) ≡ others n (edges_at a nodes consts ws)
kept_others a nodes consts n [] = refl
kept_others a nodes consts n (w ∷ ws) =
    kept_by (wanted w.target (Some n)) ∙ ap (λ b. if b then edges_at a nodes consts (kept (Some n) ws) else edge_at a nodes consts w ∷ edges_at a nodes consts (kept (Some n) ws)) (target_wanted w.target n)
    ∙ ap (λ es. if is_target w.target n then es else edge_at a nodes consts w ∷ es) (kept_others a nodes consts n ws)
  where
    kept_by : (b : Bool) → edges_at a nodes consts (if b then kept (Some n) ws else w ∷ kept (Some n) ws) ≡ (if b then edges_at a nodes consts (kept (Some n) ws) else edge_at a nodes consts w ∷ edges_at a nodes consts (kept (Some n) ws))
    kept_by true = refl
    kept_by false = refl

pub kept_of : (nodes : List TermNode) (gs ls : List Sort) (goal : Option ℕ) (ws : List Wait) → WaitsOf nodes gs ls ws → WaitsOf nodes gs ls (kept goal ws)
kept_of nodes gs ls goal [] h = tt
kept_of nodes gs ls goal (w ∷ ws) (h, hs) = by (wanted w.target goal) (kept_of nodes gs ls goal ws hs)
  where
    by : (b : Bool) → WaitsOf nodes gs ls (kept goal ws) → WaitsOf nodes gs ls (if b then kept goal ws else w ∷ kept goal ws)
    by true k = k
    by false k = (h, k)

-- ---- one edge more

met_push : (goal : Option ℕ) (es : List Edge) (e : Edge) → met goal (es ++ e ∷ []) ≡ (met goal es || arrives goal e)
met_push goal [] e = or_false (arrives goal e)
  where
    or_false : (b : Bool) → (b || false) ≡ b
    or_false true = refl
    or_false false = refl
met_push goal (x ∷ es) e = ap (λ b. arrives goal x || b) (met_push goal es e) ∙ or_assoc (arrives goal x) (met goal es) (arrives goal e)
  where
    or_assoc : (a b c : Bool) → (a || (b || c)) ≡ ((a || b) || c)
    or_assoc true b c = refl
    or_assoc false b c = refl

met_env_push : (goal : Option ℕ) (d : Env) (es : List Edge) (e : Edge) → met_env goal d (es ++ e ∷ []) ≡ (if arrives goal e then e.env else met_env goal d es)
met_env_push goal d [] e = refl
met_env_push goal d (x ∷ es) e = met_env_push goal (if arrives goal x then x.env else d) es e

edges_take : (a : ℕ → Value) (nodes : List TermNode) (consts : List Value) (ws : List Wait) (i : ℕ) (w : Wait) → i < length ws → w ≡ slice_index_or ws i w →
    edges_at a nodes consts (take (i + 1) ws) ≡ edges_at a nodes consts (take i ws) ++ edge_at a nodes consts w ∷ []
edges_take a nodes consts ws i w l is =
    ap (edges_at a nodes consts) (take_at ws w i l ∙ ap (λ x. take i ws ++ x ∷ []) (sym is)) ∙ map-append (edge_at a nodes consts) (take i ws) (w ∷ [])

pub wait_at : (nodes : List TermNode) (gs ls : List Sort) (ws : List Wait) (i : ℕ) (w : Wait) → WaitsOf nodes gs ls ws → i < length ws → w ≡ slice_index_or ws i w → WaitOf nodes gs ls w
wait_at nodes gs ls ws i w h l is = subst (λ (x : Wait). WaitOf nodes gs ls x) (sym is) (go ws i w h l)
  where
    go : (ws : List Wait) (i : ℕ) (d : Wait) → WaitsOf nodes gs ls ws → i < length ws → WaitOf nodes gs ls (slice_index_or ws i d)
    go [] i d h l = absurd (omega (arith, l))
    go (x ∷ ws) zero d (h, hs) l = h
    go (x ∷ ws) (suc i) d (h, hs) l = go ws i d hs (omega (arith, l))

pub of_there : (nodes : List TermNode) (gs ls : List Sort) (w : Wait) → WaitOf nodes gs ls w → WaitThere nodes w
of_there nodes gs ls w h = record { live = h.live; globals = (gs, h.globals); locals = (ls, h.locals) }

pub all_there : (nodes : List TermNode) (gs ls : List Sort) (ws : List Wait) → WaitsOf nodes gs ls ws → WaitsThere nodes ws
all_there nodes gs ls [] h = tt
all_there nodes gs ls (w ∷ ws) (h, hs) = (of_there nodes gs ls w h, all_there nodes gs ls ws hs)

pub same_sorts : (nodes : List TermNode) (ys ns : List ℕ) (ss : List Sort) → AreOf nodes ys ss → AreOf nodes ns ss → SameSorts nodes ys ns
same_sorts nodes [] [] [] h k = tt
same_sorts nodes [] [] (s ∷ ss) h k = absurd h
same_sorts nodes [] (n ∷ ns) [] h k = absurd k
same_sorts nodes [] (n ∷ ns) (s ∷ ss) h k = absurd h
same_sorts nodes (y ∷ ys) ns [] h k = absurd h
same_sorts nodes (y ∷ ys) [] (s ∷ ss) h k = absurd k
same_sorts nodes (y ∷ ys) (n ∷ ns) (s ∷ ss) (h, hs) (k, ks) = ((s, h, k), same_sorts nodes ys ns ss hs ks)

pub enter_start : (old : List TermNode) (spare : Wait) (waits : List Wait) (goal : Option ℕ) (w : Wait) → EnterReady old spare waits → w ≡ spare → EnterSoFar old spare waits goal 0 old w false
enter_start old spare waits goal w r is =
    subst (λ (x : Wait). EnterSoFar old spare waits goal 0 old x false) (sym is) (record {
      later = later_same old r.sound;
      plain = plain_same old;
      are = λ gs ls h k. h;
      none = λ e a consts. refl;
      live_is = λ a consts f. r.spare_off a;
      env_is = λ a consts d f h. cc;
    })

off_and : (b c : Bool) → b ≡ false → (b && c) ≡ false
off_and b c h = ap (λ x. x && c) h

on_and : (b c : Bool) → b ≡ true → (b && c) ≡ c
on_and b c h = ap (λ x. x && c) h

or_off : (b c : Bool) → c ≡ false → (b || c) ≡ b
or_off true c h = refl
or_off false c h = h

-- an edge that leads elsewhere
pub enter_skip : (old new : List TermNode) (spare : Wait) (waits : List Wait) (goal : Option ℕ) (i : ℕ) (entry wait : Wait) (found : Bool) → i < length waits → wait ≡ slice_index_or waits i wait → wanted wait.target goal ≡ false →
    EnterSoFar old spare waits goal i new entry found → EnterSoFar old spare waits goal (i + 1) new entry found
enter_skip old new spare waits goal i entry wait found l is off h =
    let met_is : (a : ℕ → Value) (consts : List Value) → met goal (edges_at a old consts (take (i + 1) waits)) ≡ met goal (edges_at a old consts (take i waits)) = λ a consts.
    ap (met goal) (edges_take a old consts waits i wait l is) ∙ met_push goal (edges_at a old consts (take i waits)) (edge_at a old consts wait)
    ∙ or_off (met goal (edges_at a old consts (take i waits))) (arrives goal (edge_at a old consts wait)) (off_and (wanted wait.target goal) (is_on (value a old wait.live)) off) in
    record {
      later = h.later;
      plain = h.plain;
      are = h.are;
      none = λ e a consts. met_is a consts ∙ h.none e a consts;
      live_is = λ a consts f. h.live_is a consts f ∙ sym (met_is a consts);
      env_is = λ a consts d f m.
          h.env_is a consts d f (sym (met_is a consts) ∙ m)
          ∙ sym (ap (met_env goal d) (edges_take a old consts waits i wait l is) ∙ met_env_push goal d (edges_at a old consts (take i waits)) (edge_at a old consts wait)
          ∙ ap (λ b. if b then env_at a old consts wait.globals wait.locals else met_env goal d (edges_at a old consts (take i waits))) (off_and (wanted wait.target goal) (is_on (value a old wait.live)) off));
    }

-- the first edge
pub enter_first : (old new : List TermNode) (spare : Wait) (waits : List Wait) (goal : Option ℕ) (i : ℕ) (entry wait w : Wait) (found : Bool) → EnterReady old spare waits → i < length waits → wait ≡ slice_index_or waits i wait → wanted wait.target goal ≡ true → found ≡ false →
    EnterSoFar old spare waits goal i new entry found → w ≡ wait → EnterSoFar old spare waits goal (i + 1) new w true
enter_first old new spare waits goal i entry wait w found r l is on off h same =
    let of = wait_at old r.gs r.ls waits i wait r.waits_of l is in
    let there = of_there old r.gs r.ls wait of in
    let e = λ (a : ℕ → Value) (consts : List Value). edge_at a old consts wait in
    let met_is : (a : ℕ → Value) (consts : List Value) → met goal (edges_at a old consts (take (i + 1) waits)) ≡ is_on (value a old wait.live) = λ a consts.
    ap (met goal) (edges_take a old consts waits i wait l is) ∙ met_push goal (edges_at a old consts (take i waits)) (e a consts)
    ∙ ap (λ b. b || arrives goal (e a consts)) (h.none off a consts) ∙ on_and (wanted wait.target goal) (is_on (value a old wait.live)) on in
    subst (λ (x : Wait). EnterSoFar old spare waits goal (i + 1) new x true) (sym same) (record {
      later = h.later;
      plain = h.plain;
      are = λ gs ls p k. of_later old new gs ls wait h.later (wait_at old gs ls waits i wait k l is);
      none = λ e. cc;
      live_is = λ a consts f. bit_later old new a wait.live h.later there.live ∙ sym (met_is a consts);
      env_is = λ a consts d f m.
          let live : is_on (value a old wait.live) ≡ true = sym (met_is a consts) ∙ m in
          ap (λ (x : Edge). x.env) (edge_later old new a consts wait h.later there)
          ∙ sym (ap (met_env goal d) (edges_take a old consts waits i wait l is) ∙ met_env_push goal d (edges_at a old consts (take i waits)) (e a consts)
          ∙ ap (λ b. if b then env_at a old consts wait.globals wait.locals else met_env goal d (edges_at a old consts (take i waits))) (on_and (wanted wait.target goal) (is_on (value a old wait.live)) on ∙ live));
    })

if_env : (consts : List Value) (b : Bool) (g g' l l' : List Value) → ◌≡◌ {A = Env} (record { consts = consts; globals = if b then g else g'; locals = if b then l else l' })
    (if b then record { consts = consts; globals = g; locals = l } else record { consts = consts; globals = g'; locals = l' })
if_env consts true g g' l l' = refl
if_env consts false g g' l l' = refl

same_env : (consts g g' l l' : List Value) → g ≡ g' → l ≡ l' → ◌≡◌ {A = Env} (record { consts = consts; globals = g; locals = l }) (record { consts = consts; globals = g'; locals = l' })
same_env consts g g' l l' p q = cc

if_else : (b : Bool) (x y z : Env) → (b ≡ false → y ≡ z) → (if b then x else y) ≡ (if b then x else z)
if_else true x y z h = refl
if_else false x y z h = h refl

or_left : (b c : Bool) → (b || c) ≡ true → c ≡ false → b ≡ true
or_left true c h k = refl
or_left false c h k = cc

-- one more
pub enter_more : (old mid new : List TermNode) (spare : Wait) (waits : List Wait) (goal : Option ℕ) (i : ℕ) (entry wait w : Wait) (found : Bool) → EnterReady old spare waits → i < length waits → wait ≡ slice_index_or waits i wait → wanted wait.target goal ≡ true →
    EnterSoFar old spare waits goal i mid entry found → Later mid new → Plain mid new → Joined mid entry wait new w → EnterSoFar old spare waits goal (i + 1) new w true
enter_more old mid new spare waits goal i entry wait w found r l is on h later plain j =
    let of = wait_at old r.gs r.ls waits i wait r.waits_of l is in
    let there = of_there old r.gs r.ls wait of in
    let e = λ (a : ℕ → Value) (consts : List Value). edge_at a old consts wait in
    let before = λ (a : ℕ → Value) (consts : List Value). edges_at a old consts (take i waits) in
    let met_is : (a : ℕ → Value) (consts : List Value) → met goal (edges_at a old consts (take (i + 1) waits)) ≡ (met goal (before a consts) || is_on (value a old wait.live)) = λ a consts.
    ap (met goal) (edges_take a old consts waits i wait l is) ∙ met_push goal (before a consts) (e a consts)
    ∙ ap (λ b. met goal (before a consts) || b) (on_and (wanted wait.target goal) (is_on (value a old wait.live)) on) in
    record {
      later = later_then old mid new h.later later;
      plain = plain_then old mid new h.plain plain;
      are = λ gs ls p k.
          let x = of_later old mid gs ls wait h.later (wait_at old gs ls waits i wait k l is) in
          record { live = j.there.live; globals = j.globals gs x.globals; locals = j.locals ls x.locals };
      none = λ e. cc;
      live_is = λ a consts f.
          j.live_is a f ∙ ap (λ b. b || is_on (value a mid wait.live)) (h.live_is a consts (fits_before a mid new later f)) ∙ ap (λ b. met goal (before a consts) || b) (bit_later old mid a wait.live h.later there.live)
          ∙ sym (met_is a consts);
      env_is = λ a consts d f m.
          let f1 = fits_before a mid new later f in
          let live = is_on (value a old wait.live) in
          let live_is : is_on (value a mid wait.live) ≡ live = bit_later old mid a wait.live h.later there.live in
          let any : (met goal (before a consts) || live) ≡ true = sym (met_is a consts) ∙ m in
          let y = env_at a mid consts entry.globals entry.locals in
          same_env consts (all_at a new w.globals) (if is_on (value a mid wait.live) then all_at a mid wait.globals else all_at a mid entry.globals)
          (all_at a new w.locals) (if is_on (value a mid wait.live) then all_at a mid wait.locals else all_at a mid entry.locals) (j.globals_are a f) (j.locals_are a f)
          ∙ if_env consts (is_on (value a mid wait.live)) (all_at a mid wait.globals) (all_at a mid entry.globals) (all_at a mid wait.locals) (all_at a mid entry.locals)
          ∙ ap (λ b. if b then env_at a mid consts wait.globals wait.locals else y) live_is
          ∙ ap (λ x. if live then x else y) (ap (λ (x : Edge). x.env) (edge_later old mid a consts wait h.later there))
          ∙ if_else live (env_at a old consts wait.globals wait.locals) y (met_env goal d (before a consts)) (λ k. h.env_is a consts d f1 (or_left (met goal (before a consts)) live any k))
          ∙ sym (ap (met_env goal d) (edges_take a old consts waits i wait l is) ∙ met_env_push goal d (before a consts) (e a consts)
          ∙ ap (λ b. if b then env_at a old consts wait.globals wait.locals else met_env goal d (before a consts)) (on_and (wanted wait.target goal) live on));
    }

pub enter_end : (old new : List TermNode) (spare : Wait) (waits : List Wait) (goal : Option ℕ) (i : ℕ) (w : Wait) (found : Bool) → length waits ≤ i → EnterSoFar old spare waits goal i new w found → Entered old spare waits goal new w
enter_end old new spare waits goal i w found l h =
    let all = take_all waits i l in
    record {
      are = h.are;
      live_is = λ a consts f. h.live_is a consts f ∙ ap (λ ws. met goal (edges_at a old consts ws)) all;
      env_is = λ a consts d f m. h.env_is a consts d f (ap (λ ws. met goal (edges_at a old consts ws)) all ∙ m) ∙ ap (λ ws. met_env goal d (edges_at a old consts ws)) all;
    }

-- ---- what is kept

-- ---- edges that stay

get_seam : (xs : List Wait) (x : Wait) (ys : List Wait) → slice_get (xs ++ x ∷ ys) (length xs) ≡ Some x
get_seam [] x ys = refl
get_seam (z ∷ xs) x ys = get_seam xs x ys

remove_seam : (xs : List Wait) (x : Wait) (ys : List Wait) → remove (xs ++ x ∷ ys) (length xs) ≡ xs ++ ys
remove_seam xs x ys =
    let e : length xs - length xs ≡ 0 = omega arith in
    remove-append_right xs (x ∷ ys) (length xs) (length xs) refl (omega arith) ∙ ap (λ i. xs ++ remove (x ∷ ys) i) e

pub keep_start : (goal : Option ℕ) (ws : List Wait) → KeepSoFar goal ws ws 0 0
keep_start goal ws = record { front = []; rest = ws; new_is = refl; place_is = refl; same = refl; size = omega arith; within = omega arith }

pub keep_within : (goal : Option ℕ) (old new : List Wait) (place count : ℕ) → KeepSoFar goal old new place count → count < length old → place < length new
keep_within goal old new place count h l = omega (arith, h.place_is, h.size, l, ap length h.new_is, length-append h.front h.rest)

-- the next edge
record Next (goal : Option ℕ) (old new : List Wait) (place count : ℕ) : Type 0 where
  pub front : List Wait
  pub wait : Wait
  pub rest : List Wait
  pub new_is : new ≡ front ++ wait ∷ rest
  pub place_is : place ≡ length front
  pub same : kept goal old ≡ front ++ kept goal (wait ∷ rest)
  pub size : count + 1 + length rest ≡ length old
  pub within : place ≤ count
  pub at : slice_get new place ≡ Some wait

next_of : (goal : Option ℕ) (old new : List Wait) (place count : ℕ) → KeepSoFar goal old new place count → count < length old → Next goal old new place count
next_of goal old new place count h l = by h.rest h.new_is h.same h.size
  where
    by : (rest : List Wait) → new ≡ h.front ++ rest → kept goal old ≡ h.front ++ kept goal rest → count + length rest ≡ length old → Next goal old new place count
    by [] a b c = absurd (omega (arith, c, l))
    by (w ∷ ws) a b c = record {
      front = h.front;
      wait = w;
      rest = ws;
      new_is = a;
      place_is = h.place_is;
      same = b;
      size = omega (arith, c);
      within = h.within;
      at = ap (slice_get new) h.place_is ∙ ap (λ xs. slice_get xs (length h.front)) a ∙ get_seam h.front w ws;
    }

pub keep_gone : (goal : Option ℕ) (old new left : List Wait) (place count : ℕ) → KeepSoFar goal old new place count → count < length old → wanted_at goal (slice_get new place) ≡ true → left ≡ remove new place → KeepSoFar goal old left place (count + 1)
keep_gone goal old new left place count h l on is =
    let n = next_of goal old new place count h l in
    let leads : wanted (n.wait).target goal ≡ true = sym (ap (wanted_at goal) n.at) ∙ on in
    record {
      front = n.front;
      rest = n.rest;
      new_is = is ∙ ap (remove new) n.place_is ∙ ap (λ xs. remove xs (length n.front)) n.new_is ∙ remove_seam n.front n.wait n.rest;
      place_is = n.place_is;
      same = n.same ∙ ap (λ b. n.front ++ (if b then kept goal n.rest else n.wait ∷ kept goal n.rest)) leads;
      size = n.size;
      within = omega (arith, n.within);
    }

pub keep_stays : (goal : Option ℕ) (old new : List Wait) (place count : ℕ) → KeepSoFar goal old new place count → count < length old → wanted_at goal (slice_get new place) ≡ false → KeepSoFar goal old new (place + 1) (count + 1)
keep_stays goal old new place count h l off =
    let n = next_of goal old new place count h l in
    let leads : wanted (n.wait).target goal ≡ false = sym (ap (wanted_at goal) n.at) ∙ off in
    record {
      front = n.front ++ n.wait ∷ [];
      rest = n.rest;
      new_is = n.new_is ∙ sym (append_assoc n.front (n.wait ∷ []) n.rest);
      place_is = omega (arith, n.place_is, length-append n.front (n.wait ∷ []));
      same = n.same ∙ ap (λ b. n.front ++ (if b then kept goal n.rest else n.wait ∷ kept goal n.rest)) leads ∙ sym (append_assoc n.front (n.wait ∷ []) (kept goal n.rest));
      size = n.size;
      within = omega (arith, n.within);
    }

pub keep_whole : (goal : Option ℕ) (old new : List Wait) (place count : ℕ) → KeepSoFar goal old new place count → length old ≤ count → new ≡ kept goal old
keep_whole goal old new place count h l = by h.rest h.new_is h.same h.size
  where
    by : (rest : List Wait) → new ≡ h.front ++ rest → kept goal old ≡ h.front ++ kept goal rest → count + length rest ≡ length old → new ≡ kept goal old
    by [] a b c = a ∙ sym b
    by (w ∷ ws) a b c = absurd (omega (arith, c, l))
