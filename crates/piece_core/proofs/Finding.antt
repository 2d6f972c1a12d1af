-- The first Found of a journal with one entry more.
use Rattle.std.proofs.Common.{◌≡◌, ℕ, List, [], ◌∷◌, ◌++◌, refl, sym, ap, ◌∙◌, Some}
use Rattle.std.specs.Prelude.{Option, None}
use Rattle.piece_core.specs.declared.events.Event.{Event}
use Rattle.piece_core.specs.declared.events.Event.TheVariants.{Take, Inline, Split, Close, Found, Back}
use Rattle.piece_core.specs.declared.events.Entry.{Entry}
use Rattle.piece_core.specs.Book.{first_found, found_or, found_first}

-- the first that was found, where this event comes behind
abbrev pub found_with : Event → ℕ → Option ℕ → Option ℕ
found_with Take node found = found
found_with (Inline sites) node found = found
found_with (Split site) node found = found
found_with Close node found = found
found_with Found node found = found_first found node
found_with Back node found = found

found_alone : (event : Event) (node : ℕ) → found_or event node None ≡ found_with event node None
found_alone Take node = refl
found_alone (Inline sites) node = refl
found_alone (Split site) node = refl
found_alone Close node = refl
found_alone Found node = refl
found_alone Back node = refl

found_stays : (event : Event) (node earlier : ℕ) → Some earlier ≡ found_with event node (Some earlier)
found_stays Take node earlier = refl
found_stays (Inline sites) node earlier = refl
found_stays (Split site) node earlier = refl
found_stays Close node earlier = refl
found_stays Found node earlier = refl
found_stays Back node earlier = refl

found_behind : (first : Event) (at : ℕ) (event : Event) (node : ℕ) (found : Option ℕ) → found_or first at (found_with event node found) ≡ found_with event node (found_or first at found)
found_behind Take at event node found = refl
found_behind (Inline sites) at event node found = refl
found_behind (Split site) at event node found = refl
found_behind Close at event node found = refl
found_behind Found at event node found = found_stays event node at
found_behind Back at event node found = refl

pub found_more : (entries : List Entry) (e : Entry) → first_found (entries ++ e ∷ []) ≡ found_with e.event e.node (first_found entries)
found_more [] e = found_alone e.event e.node
found_more (x ∷ xs) e = ap (found_or x.event x.node) (found_more xs e) ∙ found_behind x.event x.node e.event e.node (first_found xs)
