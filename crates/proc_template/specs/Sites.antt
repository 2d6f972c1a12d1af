-- The calls of a procedure by number: by block, and in each block in order.
use Rattle.std.specs.Prelude.{◌≡◌, ℕ, zero, suc, ◌+◌, ◌<◌, nat_eq, List, [], ◌∷◌, ◌++◌, length, drop, slice_get, Option, None, Some, if◌then◌else◌}
use Rattle.vc_gen.specs.declared.parts.SiteTerm.{SiteTerm}
use Rattle.tree_terms.specs.Tables.{row}
use Rattle.tree_terms.specs.declared.linked.SiteTerms.{SiteTerms}

-- the terms of a site, as copies of formulas read them
abbrev pub site_terms : SiteTerm → SiteTerms
site_terms s = record { proc = s.proc; node = s.node; fails = s.failed; args = s.args; before = s.globals_before; outs = s.outs; after = s.globals_after }

-- those of a block
abbrev pub sites_of_block : ℕ → List SiteTerm → List SiteTerms
sites_of_block n [] = []
sites_of_block n (s ∷ sites) = if nat_eq s.block n then site_terms s ∷ sites_of_block n sites else sites_of_block n sites

-- those of so many blocks, one block after another
abbrev pub sorted_sites : ℕ → List SiteTerm → List SiteTerms
sorted_sites zero sites = []
sorted_sites (suc n) sites = sorted_sites n sites ++ sites_of_block n sites

-- the place of a site, where it is one of this block
abbrev pub place_if : ℕ → ℕ → ℕ → List ℕ
place_if block n place = if nat_eq block n then place ∷ [] else []

-- the places of a block's sites, where the first has this one
abbrev pub places_in : ℕ → ℕ → List SiteTerm → List ℕ
places_in n place [] = []
places_in n place (s ∷ sites) = place_if s.block n place ++ places_in n (place + 1) sites

-- the place of a site stands behind the others of its block
pub record IsNoted (old new : List (List ℕ)) (block place : ℕ) : Type 0 where
  pub count : length new ≡ length old
  pub rows : (n : ℕ) → n < length old → row new n ≡ row old n ++ place_if block n place

abbrev pub site_if : Option SiteTerm → List SiteTerms
site_if None = []
site_if (Some s) = site_terms s ∷ []

-- the sites at these places
abbrev pub sites_at : List SiteTerm → List ℕ → List SiteTerms
sites_at sites [] = []
sites_at sites (place ∷ places) = site_if (slice_get sites place) ++ sites_at sites places

-- the places of the first i sites stand in the rows of their blocks
abbrev pub IsBucketed : List SiteTerm → ℕ → List (List ℕ) → ℕ → Type 0
IsBucketed sites count table i = (length table ≡ count) × ((n : ℕ) → n < count → places_in n 0 sites ≡ row table n ++ places_in n i (drop i sites))
