-- A failing run within the caps that meets a piece gives a failing partial run that meets it: below the calls that leave the tree, the runs are cut off.
use Rattle.std.proofs.Common.{◌≡◌, ℕ, Bool, true, false, not, ◌&&◌, ◌||◌, List, [], ◌∷◌, ◌++◌, map, slice_get, Option, Some, bytes_eq, refl, sym, ap, ◌∙◌, subst}
use Rattle.std.proofs.lemmas.Bool.{and_parts, and_from}
use Rattle.hy_val.specs.declared.value.Value.{Value}
use Rattle.flat_prog.specs.Program.{FlatProgram, blocks_of}
use Rattle.flat_prog.specs.declared.proc.FlatProc.{FlatProc}
use Rattle.flat_prog.specs.Local.{Result, Ended, Broken, Request, State, Track, Begins, can_come_back}
use Rattle.flat_prog.specs.Trees.{Run, Below, node, none, inner, free, track_of, May, Never, Means, Answer}
use Rattle.flat_prog.specs.Changes.{MayChange, MayBe, Unchanged, Keeps}
use Rattle.flat_prog.specs.Sites.{sites_of, sites_passed, paths_of, paths_below}
use Rattle.flat_prog.specs.Caps.{within}
use Rattle.flat_prog.specs.Runs.{FailsIn, IsFull}
use Rattle.flat_prog.specs.Passing.{Sited, Fits, AllFit}
use Rattle.flat_prog.specs.Laws.{CallsOfRuns, RunsKeep}
use Rattle.call_tree.specs.declared.piece.Decision2.{Decision2}
use Rattle.call_tree.specs.declared.piece.Decision2.TheVariants.{Must, Avoid}
use Rattle.call_tree.specs.Trees.{has_path, are_in, IsPartTree, callees, open_of}
use Rattle.call_tree.specs.Pieces.{reaches, meets, names_of}
use Rattle.call_tree.specs.Questions.{stands, stand_below, IsOver}
use Rattle.call_tree.proofs.PartTrees.{has_left, has_right, has_head}
use Rattle.call_tree.proofs.Places.{LeadsTo, leads_on, site_opens, none_below, has-append, run_head, all_paths_have}
use Rattle.call_tree.specs.Tracks.{tracks_of, tracks_below, tracks_in}
use Rattle.call_tree.proofs.Tracks.{no_tracks, track_kept}
use Rattle.std.proofs.lemmas.List.Elements.{filter-append}

-- a free child may stand for each result that a run of the callee may have
pub record Admits (flat : FlatProgram) (may : May) : Type 0 where
  pub ended : (call : Request) (outs globals : List Value) → can_come_back flat call.proc outs globals ≡ true → Unchanged (λ g. MayChange flat g call.proc) call.globals globals →
      (values : List Value) × may call true values (Ended outs globals)
  pub broken : (call : Request) (proc number : ℕ) → (values : List Value) × may call false values (Broken proc number)

-- what is left of a run when it is cut
pub record CutRun (flat : FlatProgram) (entry bound : ℕ) (may : May) (tree : List (List ℕ)) (consts : List Value) (run : Run) (path : List ℕ) (q : FlatProc) (begin : State) (result : Result) : Type 0 where
  pub part : Run
  pub same_track : track_of part ≡ track_of run
  pub means : Means part flat may consts q begin result
  pub fits : stands part flat (has_path tree) (has_path (open_of flat entry bound tree)) path ≡ true
  pub same : (p : List ℕ) → has_path tree p ≡ true → has_path (paths_of part flat path) p ≡ has_path (paths_of run flat path) p
  pub tracks : tracks_of part flat path ≡ tracks_in tree (tracks_of run flat path)

pub record CutBelow (flat : FlatProgram) (entry bound : ℕ) (may : May) (tree : List (List ℕ)) (consts : List Value) (below : Below) (path sites : List ℕ) (calls : List Request) (results : List Result) : Type 0 where
  pub part : Below
  pub answers : Answer part flat may consts calls results
  pub fits : stand_below part flat (has_path tree) (has_path (open_of flat entry bound tree)) path sites ≡ true
  pub same : (p : List ℕ) → has_path tree p ≡ true → has_path (paths_below part flat path sites) p ≡ has_path (paths_below below flat path sites) p
  pub tracks : tracks_below part flat path sites ≡ tracks_in tree (tracks_below below flat path sites)

-- a free child for the result of a call
pub record FreeChild (may : May) (call : Request) (result : Result) : Type 0 where
  pub ends : Bool
  pub values : List Value
  pub may_be : may call ends values result

free_child : (flat : FlatProgram) (may : May) (call : Request) (result : Result) → Admits flat may → Fits flat call result → Keeps flat call result → FreeChild may call result
free_child flat may call (Ended outs globals) admits fit keep = let r = admits.ended call outs globals fit keep in record { ends = true; values = r.0; may_be = r.1 }
free_child flat may call (Broken proc number) admits fit keep = let r = admits.broken call proc number in record { ends = false; values = r.0; may_be = r.1 }

or_same : (a b c d : Bool) → a ≡ c → b ≡ d → (a || b) ≡ (c || d)
or_same a b c d h k = ap (λ x. x || b) h ∙ ap (λ x. c || x) k

or_none : (a b c : Bool) → a ≡ false → c ≡ b → c ≡ (a || b)
or_none a b c h k = k ∙ ap (λ x. x || b) (sym h)

-- a node of the tree below: the child is cut itself
keep_child : (flat : FlatProgram) (entry bound : ℕ) (may : May) (tree : List (List ℕ)) (consts : List Value) (run : Run) (below : Below) (path : List ℕ) (site : ℕ) (sites : List ℕ) (call : Request) (result : Result) (calls : List Request) (results : List Result) (q : FlatProc) (begin : State) →
    Begins flat (track_of run) call q begin → CutRun flat entry bound may tree consts run (path ++ site ∷ []) q begin result → CutBelow flat entry bound may tree consts below path sites calls results →
    CutBelow flat entry bound may tree consts (inner run below) path (site ∷ sites) (call ∷ calls) (result ∷ results)
keep_child flat entry bound may tree consts run below path site sites call result calls results q begin begins c d = record {
  part = inner c.part d.part;
  answers = ((q, begin, subst (λ (t : Track). Begins flat t call q begin) (sym c.same_track) begins, c.means), d.answers);
  fits = and_from (stands c.part flat (has_path tree) (has_path (open_of flat entry bound tree)) (path ++ site ∷ [])) (stand_below d.part flat (has_path tree) (has_path (open_of flat entry bound tree)) path sites) c.fits d.fits;
  same = λ p at.
      has-append (paths_of c.part flat (path ++ site ∷ [])) (paths_below d.part flat path sites) p
      ∙ or_same (has_path (paths_of c.part flat (path ++ site ∷ [])) p) (has_path (paths_below d.part flat path sites) p) (has_path (paths_of run flat (path ++ site ∷ [])) p) (has_path (paths_below below flat path sites) p) (c.same p at) (d.same p at)
      ∙ sym (has-append (paths_of run flat (path ++ site ∷ [])) (paths_below below flat path sites) p);
  tracks =
      ap (λ ns. ns ++ tracks_below d.part flat path sites) c.tracks ∙ ap (λ ns. tracks_in tree (tracks_of run flat (path ++ site ∷ [])) ++ ns) d.tracks
      ∙ sym (filter-append (λ n. has_path tree n.0) (tracks_of run flat (path ++ site ∷ [])) (tracks_below below flat path sites));
}

-- an open site: the child is cut off
free_site : (flat : FlatProgram) (entry bound : ℕ) (may : May) (tree : List (List ℕ)) (consts : List Value) (run : Run) (below : Below) (path : List ℕ) (site : ℕ) (sites : List ℕ) (call : Request) (result : Result) (calls : List Request) (results : List Result) →
    IsPartTree flat entry bound tree → has_path tree (path ++ site ∷ []) ≡ false → has_path (open_of flat entry bound tree) (path ++ site ∷ []) ≡ true → FreeChild may call result → CutBelow flat entry bound may tree consts below path sites calls results →
    CutBelow flat entry bound may tree consts (inner run below) path (site ∷ sites) (call ∷ calls) (result ∷ results)
free_site flat entry bound may tree consts run below path site sites call result calls results is out opens f d = record {
  part = free f.ends f.values d.part;
  answers = (f.may_be, d.answers);
  fits = and_from (has_path (open_of flat entry bound tree) (path ++ site ∷ [])) (stand_below d.part flat (has_path tree) (has_path (open_of flat entry bound tree)) path sites) opens d.fits;
  same = λ p at.
      or_none (has_path (paths_of run flat (path ++ site ∷ [])) p) (has_path (paths_below below flat path sites) p) (has_path (paths_below d.part flat path sites) p) (none_below flat entry bound tree run (path ++ site ∷ []) p is out at) (d.same p at)
      ∙ sym (has-append (paths_of run flat (path ++ site ∷ [])) (paths_below below flat path sites) p);
  tracks =
      d.tracks ∙ ap (λ ns. ns ++ tracks_in tree (tracks_below below flat path sites)) (sym (no_tracks tree run flat (path ++ site ∷ []) (λ p at. none_below flat entry bound tree run (path ++ site ∷ []) p is out at)))
      ∙ sym (filter-append (λ n. has_path tree n.0) (tracks_of run flat (path ++ site ∷ [])) (tracks_below below flat path sites));
}

by_tree : (flat : FlatProgram) (entry bound : ℕ) (may : May) (tree : List (List ℕ)) (consts : List Value) (run : Run) (below : Below) (path : List ℕ) (site : ℕ) (sites : List ℕ) (call : Request) (result : Result) (calls : List Request) (results : List Result) (q : FlatProc) (begin : State) →
    IsPartTree flat entry bound tree → Begins flat (track_of run) call q begin → (b : Bool) → has_path tree (path ++ site ∷ []) ≡ b → CutBelow flat entry bound may tree consts below path sites calls results →
    (has_path tree (path ++ site ∷ []) ≡ true → CutRun flat entry bound may tree consts run (path ++ site ∷ []) q begin result) →
    (has_path tree (path ++ site ∷ []) ≡ false → has_path (open_of flat entry bound tree) (path ++ site ∷ []) ≡ true) → FreeChild may call result →
    CutBelow flat entry bound may tree consts (inner run below) path (site ∷ sites) (call ∷ calls) (result ∷ results)
by_tree flat entry bound may tree consts run below path site sites call result calls results q begin is begins true on d go opens f =
    keep_child flat entry bound may tree consts run below path site sites call result calls results q begin begins (go on) d
by_tree flat entry bound may tree consts run below path site sites call result calls results q begin is begins false out d go opens f =
    free_site flat entry bound may tree consts run below path site sites call result calls results is out (opens out) f d

mutual
  pub cut_run : (run : Run) (flat : FlatProgram) (entry bound : ℕ) (may : May) (tree : List (List ℕ)) (consts : List Value) (path : List ℕ) (q : FlatProc) (begin : State) (result : Result) →
      CallsOfRuns → RunsKeep flat → Admits flat may → IsPartTree flat entry bound tree → slice_get flat.procs (track_of run).proc ≡ Some q → LeadsTo flat entry path (track_of run).proc → has_path tree path ≡ true →
      ((p : List ℕ) → has_path (paths_of run flat path) p ≡ true → within flat entry bound p ≡ true) → Means run flat Never consts q begin result →
      CutRun flat entry bound may tree consts run path q begin result
  cut_run (node track below) flat entry bound may tree consts path q begin result asks keep admits is proc leads at caps (results, calls, local, answer) =
      let sites = sites_passed (blocks_of (slice_get flat.procs track.proc)) track.path in
      let l = asks flat track.proc q consts track begin results calls result proc local in
      let sited : Sited (callees flat track.proc) sites (map (λ (r : Request). r.proc) calls) =
      subst (λ (o : Option FlatProc). Sited (sites_of (blocks_of o)) (sites_passed (blocks_of o) track.path) (map (λ (r : Request). r.proc) calls)) (sym proc) l.sited in
      let d = cut_below below flat entry bound may tree consts path track.proc sites calls results asks keep admits is leads at sited l.fit (λ p on. caps p (has_right (path ∷ []) (paths_below below flat path sites) p on)) answer in
      record {
        part = node track d.part;
        same_track = refl;
        means = (results, calls, local, d.answers);
        fits = and_from (has_path tree path) (stand_below d.part flat (has_path tree) (has_path (open_of flat entry bound tree)) path sites) at d.fits;
        same = λ p on. ap (λ x. bytes_eq path p || x) (d.same p on);
        tracks = ap (λ ns. (path, track) ∷ ns) d.tracks ∙ sym (track_kept tree path track (tracks_below below flat path sites) at);
      }

  pub cut_below : (below : Below) (flat : FlatProgram) (entry bound : ℕ) (may : May) (tree : List (List ℕ)) (consts : List Value) (path : List ℕ) (proc : ℕ) (sites : List ℕ) (calls : List Request) (results : List Result) →
      CallsOfRuns → RunsKeep flat → Admits flat may → IsPartTree flat entry bound tree → LeadsTo flat entry path proc → has_path tree path ≡ true →
      Sited (callees flat proc) sites (map (λ (r : Request). r.proc) calls) → AllFit flat calls results →
      ((p : List ℕ) → has_path (paths_below below flat path sites) p ≡ true → within flat entry bound p ≡ true) → Answer below flat Never consts calls results →
      CutBelow flat entry bound may tree consts below path sites calls results
  cut_below none flat entry bound may tree consts path proc sites [] [] asks keep admits is leads at sited fit caps h = record { part = none; answers = tt; fits = refl; same = λ p on. refl; tracks = refl }
  cut_below none flat entry bound may tree consts path proc sites [] (result ∷ results) asks keep admits is leads at sited fit caps h = absurd h
  cut_below none flat entry bound may tree consts path proc sites (call ∷ calls) results asks keep admits is leads at sited fit caps h = absurd h
  cut_below (inner run below) flat entry bound may tree consts path proc sites [] results asks keep admits is leads at sited fit caps h = absurd h
  cut_below (inner run below) flat entry bound may tree consts path proc sites (call ∷ calls) [] asks keep admits is leads at sited fit caps h = absurd h
  cut_below (inner run below) flat entry bound may tree consts path proc [] (call ∷ calls) (result ∷ results) asks keep admits is leads at sited fit caps h = absurd sited
  cut_below (inner run below) flat entry bound may tree consts path proc (site ∷ sites) (call ∷ calls) (result ∷ results) asks keep admits is leads at sited fit caps ((q, begin, begins, means), rest) =
      let d = cut_below below flat entry bound may tree consts path proc sites calls results asks keep admits is leads at sited.1 fit.1 (λ p on. caps p (has_right (paths_of run flat (path ++ site ∷ [])) (paths_below below flat path sites) p on)) rest in
      let called : slice_get (callees flat proc) site ≡ Some (track_of run).proc = sited.0 ∙ ap (λ p. Some p) (sym begins.same) in
      let here = caps (path ++ site ∷ []) (has_left (paths_of run flat (path ++ site ∷ [])) (paths_below below flat path sites) (path ++ site ∷ []) (run_head run flat (path ++ site ∷ []))) in
      let kept = keep.whole_calls consts run call result (q, begin, begins, means) in
      by_tree flat entry bound may tree consts run below path site sites call result calls results q begin is begins (has_path tree (path ++ site ∷ [])) refl d
      (λ on. cut_run run flat entry bound may tree consts (path ++ site ∷ []) q begin result asks keep admits is begins.proc (leads_on flat entry path proc site (track_of run).proc leads called) on
      (λ p in_run. caps p (has_left (paths_of run flat (path ++ site ∷ [])) (paths_below below flat path sites) p in_run)) means)
      (λ out. site_opens flat entry bound tree path proc site (track_of run).proc leads called at here out)
      (free_child flat may call result admits fit.0 kept)
  cut_below (free ends values below) flat entry bound may tree consts path proc sites [] results asks keep admits is leads at sited fit caps h = absurd h
  cut_below (free ends values below) flat entry bound may tree consts path proc sites (call ∷ calls) [] asks keep admits is leads at sited fit caps h = absurd h
  cut_below (free ends values below) flat entry bound may tree consts path proc sites (call ∷ calls) (result ∷ results) asks keep admits is leads at sited fit caps h = absurd h.0

-- where two runs reach the same of a tree, they meet the same pieces that name its nodes
pub meets_alike : (one other : List ℕ → Bool) (tree : List (List ℕ)) (piece : List (List ℕ × Decision2)) → ((p : List ℕ) → has_path tree p ≡ true → one p ≡ other p) → are_in (names_of piece) tree ≡ true → meets one piece ≡ meets other piece
meets_alike one other tree [] same names = refl
meets_alike one other tree ((path, Must) ∷ ds) same names =
    let parts = and_parts (has_path tree path) (are_in (names_of ds) tree) names in
    ap (λ x. x && meets one ds) (same path parts.0) ∙ ap (λ x. other path && x) (meets_alike one other tree ds same parts.1)
meets_alike one other tree ((path, Avoid) ∷ ds) same names =
    let parts = and_parts (has_path tree path) (are_in (names_of ds) tree) names in
    ap (λ x. not x && meets one ds) (same path parts.0) ∙ ap (λ x. not (other path) && x) (meets_alike one other tree ds same parts.1)

root_in : (flat : FlatProgram) (entry bound : ℕ) (tree : List (List ℕ)) → IsPartTree flat entry bound tree → has_path tree [] ≡ true
root_in flat entry bound tree is = subst (λ (t : List (List ℕ)). has_path t [] ≡ true) (sym is.root_first) (has_head [] is.rest)

-- the over law
pub over_law : (flat : FlatProgram) (entry bound : ℕ) (tree : List (List ℕ)) (piece : List (List ℕ × Decision2)) (run : Run) (proc number : ℕ) →
    CallsOfRuns → RunsKeep flat → Admits flat (MayBe flat) → IsPartTree flat entry bound tree → are_in (names_of piece) tree ≡ true → IsFull flat entry bound run → FailsIn flat entry run proc number → meets (reaches flat run) piece ≡ true →
    (part : Run) × (over : IsOver flat entry bound tree piece part) × (over.proc ≡ proc) × (over.number ≡ number) × (tracks_of part flat [] ≡ tracks_in tree (tracks_of run flat []))
over_law flat entry bound tree piece run proc number asks keep admits is names full m meet =
    let leads : LeadsTo flat entry [] (track_of run).proc = record { procs = entry ∷ []; exists = refl; last = sym m.same } in
    let c = cut_run run flat entry bound (MayBe flat) tree m.consts [] m.proc m.begin (Broken proc number) asks keep admits is
    (ap (λ p. slice_get flat.procs p) m.same ∙ m.proc_is) leads (root_in flat entry bound tree is)
    (λ p on. all_paths_have (within flat entry bound) (paths_of run flat []) p full.within_caps on) m.means in (
      c.part,
      record {
        proc = proc;
        number = number;
        fails = record {
          proc = m.proc;
          consts = m.consts;
          globals = m.globals;
          args = m.args;
          rest = m.rest;
          begin = m.begin;
          same = ap (λ (t : Track). t.proc) c.same_track ∙ m.same;
          proc_is = m.proc_is;
          values = ap (λ (t : Track). t.values) c.same_track ∙ m.values;
          consts_fit = m.consts_fit;
          globals_fit = m.globals_fit;
          args_fit = m.args_fit;
          allowed = m.allowed;
          begin_is = m.begin_is;
          means = c.means;
        };
        stands = c.fits;
        meets = meets_alike (reaches flat c.part) (reaches flat run) tree piece c.same names ∙ meet;
      },
      refl,
      refl,
      c.tracks,
    )
