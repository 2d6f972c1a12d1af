-- The calls of a block, passed or not: what each is asked for and what comes back.
use Rattle.hy_val.specs.declared.value.Value.{Value}
use Rattle.std.specs.Prelude.{ℕ, zero, suc, length, ◌+◌, Bool, false, List, [], ◌∷◌, ◌++◌, slice_get, Option, None, Some, if◌then◌else◌, nat_eq}
use Rattle.flat_prog.specs.declared.block.FlatCmd.{FlatCmd}
use Rattle.flat_prog.specs.declared.block.FlatCmd.TheVariants.{Assign, Havoc, Assume, Assert, Call}
use Rattle.flat_prog.specs.declared.proc.FlatProc.{FlatProc}
use Rattle.flat_prog.specs.Sites.{calls_at}
use Rattle.passive_form.specs.Limited.{Limited}
use Rattle.passive_form.specs.Local.{State, alone, request, pass, cmds_of}
use Rattle.flat_prog.specs.Local.{Result, Ended, Broken, Request}
use Rattle.vc_gen.specs.Fold.{Edge, Given, Seen}

-- a call, which the run comes to where `on`
pub record Passage : Type 0 where
  pub on : Bool
  pub call : Request
  pub result : Option Result

abbrev pub next_result : List Result → Option Result
next_result [] = None
next_result (r ∷ rs) = Some r

abbrev pub passage_at : Bool → FlatCmd → State → List Passage
passage_at on (Assign pairs) s = []
passage_at on (Havoc xs) s = []
passage_at on (Assume e) s = []
passage_at on (Assert p n e) s = []
passage_at on (Call p args outs) s = record { on = on; call = request s p args; result = next_result s.results } ∷ []

-- behind a command that holds the run goes on, and else it doesn't
abbrev pub behind : (Bool → State → List Passage) → Bool → State → Option State → List Passage
behind f on s None = f false s
behind f on s (Some m) = f on m

abbrev pub passages : Limited → FlatProc → List FlatCmd → Bool → State → List Passage
passages flat q [] on s = []
passages flat q (c ∷ cs) on s = passage_at on c s ++ behind (passages flat q cs) on s (pass flat q c s)

abbrev pub passages_seen : Limited → FlatProc → Seen → List Passage
passages_seen flat q x = passages flat q (cmds_of (slice_get q.blocks x.given.number)) x.on (alone x.env x.given.values x.given.results [])

abbrev pub all_passages : Limited → FlatProc → List Seen → List Passage
all_passages flat q [] = []
all_passages flat q (x ∷ xs) = passages_seen flat q x ++ all_passages flat q xs

-- so many numbers of a block, from one on
abbrev pub places_from : ℕ → ℕ → ℕ → List (ℕ × ℕ)
places_from n i zero = []
places_from n i (suc k) = (n, i) ∷ places_from n (i + 1) k

-- the calls of a block that the run comes to, by block and number
abbrev pub places_at : ℕ → ℕ → List Passage → List (ℕ × ℕ)
places_at n i [] = []
places_at n i (p ∷ ps) = if p.on then (n, i) ∷ places_at n (i + 1) ps else places_at n (i + 1) ps

abbrev pub places_seen : Limited → FlatProc → Seen → List (ℕ × ℕ)
places_seen flat q x = places_at x.given.number 0 (passages_seen flat q x)

abbrev pub all_places : Limited → FlatProc → List Seen → List (ℕ × ℕ)
all_places flat q [] = []
all_places flat q (x ∷ xs) = places_seen flat q x ++ all_places flat q xs

-- the calls of the blocks of a path
abbrev pub block_places : FlatProc → ℕ → List (ℕ × ℕ)
block_places q n = places_from n 0 (length (calls_at (slice_get q.blocks n)))

abbrev pub path_places : FlatProc → List ℕ → List (ℕ × ℕ)
path_places q [] = []
path_places q (n ∷ path) = block_places q n ++ path_places q path

-- the values of the blocks that are reached
abbrev pub seen_values : List Seen → List Value
seen_values [] = []
seen_values (x ∷ xs) = if x.on then x.given.values ++ seen_values xs else seen_values xs

-- the values of the blocks of a path, in the order in which the blocks are gone through
abbrev pub along : List Given → List ℕ → List Value
along [] path = []
along (g ∷ gs) [] = []
along (g ∷ gs) (n ∷ path) = if nat_eq n g.number then g.values ++ along gs path else along gs (n ∷ path)

-- the live edges with a target, by block and place
abbrev pub marked : ℕ → ℕ → Option ℕ → Bool → List (ℕ × ℕ)
marked n p None on = []
marked n p (Some t) on = if on then (n, p) ∷ [] else []

abbrev pub targets_on : ℕ → ℕ → List Edge → List (ℕ × ℕ)
targets_on n p [] = []
targets_on n p (e ∷ es) = marked n p e.target e.live ++ targets_on n (p + 1) es

-- the calls that the run comes to: what they ask for, and what comes back
abbrev pub on_requests : List Passage → List Request
on_requests [] = []
on_requests (p ∷ ps) = if p.on then p.call ∷ on_requests ps else on_requests ps

abbrev pub on_results : List Passage → List (Option Result)
on_results [] = []
on_results (p ∷ ps) = if p.on then p.result ∷ on_results ps else on_results ps

-- a result, but for the assert that a callee fails in
abbrev pub blame : Result → Result
blame (Ended os gs) = Ended os gs
blame (Broken p n) = Broken 0 0

abbrev pub blamed : Option Result → Option Result
blamed None = None
blamed (Some r) = Some (blame r)
