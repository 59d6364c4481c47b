-- What the style sheet of every picture doesn't ask a viewer to fetch.
use Rattle.std.specs.Prelude.{◌≡◌, ◌==◌, ◌&&◌, ◌||◌, not, Bool, true, false, ℕ, List, [], ◌∷◌, codes}
use Rattle.hw_chart.specs.declared.hatch.TheConstants.{HATCH}
use Rattle.hw_chart.specs.declared.style.TheConstants.{STYLE}

-- the first bytes are these
abbrev pub begins_with : List ℕ → List ℕ → Bool
begins_with [] bytes = true
begins_with (c ∷ part) [] = false
begins_with (c ∷ part) (b ∷ bytes) = c == b && begins_with part bytes

-- these bytes stand somewhere in the others
abbrev pub stands_in : List ℕ → List ℕ → Bool
stands_in part [] = false
stands_in part (b ∷ bytes) = begins_with part (b ∷ bytes) || stands_in part bytes

-- no other sheet is imported, and nothing is named by its address
pub record FetchesNothing : Type 0 where
  pub no_import : stands_in (codes "@import") STYLE.now ≡ false
  pub no_address : stands_in (codes "url(") STYLE.now ≡ false

-- something is named by an address that doesn't begin with #, so that it isn't a part of the same picture
abbrev pub names_outside : List ℕ → Bool
names_outside [] = false
names_outside (b ∷ bytes) = (begins_with (codes "url(") (b ∷ bytes) && not (begins_with (codes "url(#") (b ∷ bytes))) || names_outside bytes

-- the same of the sheet of the hatch, which names a pattern beside it
pub record HatchFetchesNothing : Type 0 where
  pub no_import : stands_in (codes "@import") HATCH.now ≡ false
  pub no_outside : names_outside HATCH.now ≡ false
