-- The text of a journal.
use Rattle.std.specs.Prelude.{ℕ, List, [], ◌∷◌, ◌++◌, length, codes, decimal, flat_map}
use Rattle.piece_core.specs.declared.events.Entry.{Entry}
use Rattle.piece_core.specs.declared.events.Event.{Event}
use Rattle.piece_core.specs.declared.events.Event.TheVariants.{Take, Inline, Split, Close, Found, Back}

-- ---- paths

-- a site behind the first of a path: a slash and its number
abbrev pub site_text : ℕ → List ℕ
site_text site = 47 ∷ decimal site

-- the numbers of the sites, with slashes between them
abbrev pub path_text : List ℕ → List ℕ
path_text [] = []
path_text (site ∷ sites) = decimal site ++ flat_map site_text sites

-- each path behind a space
abbrev pub paths_text : List (List ℕ) → List ℕ
paths_text paths = flat_map (λ path. 32 ∷ path_text path) paths

-- ---- events

abbrev pub event_word : Event → List ℕ
event_word Take = codes "take"
event_word (Inline sites) = codes "inline"
event_word (Split site) = codes "split"
event_word Close = codes "close"
event_word Found = codes "found"
event_word Back = codes "back"

abbrev pub event_paths : Event → List (List ℕ)
event_paths Take = []
event_paths (Inline sites) = sites
event_paths (Split site) = site ∷ []
event_paths Close = []
event_paths Found = []
event_paths Back = []

-- the word, the worker, the leaf, and the paths
abbrev pub entry_line : Entry → List ℕ
entry_line e = event_word e.event ++ (32 ∷ decimal e.worker) ++ (32 ∷ decimal e.node) ++ paths_text (event_paths e.event) ++ 10 ∷ []

-- the number of events, and a line for each
abbrev pub journal_text : List Entry → List ℕ
journal_text entries = codes "journal " ++ decimal (length entries) ++ 10 ∷ [] ++ flat_map entry_line entries
