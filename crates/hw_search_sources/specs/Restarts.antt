-- When a restart comes, and the level to go back to.
use Rattle.std.specs.Prelude.{◌≡◌, ℕ, ◌+◌, ◌*◌, Bool, ◌==◌, if◌then◌else◌}
use Rattle.hw_search_laws.specs.Luby.{luby}

-- a restart comes after one more lemma
abbrev pub due : ℕ → ℕ → Bool
due restarts since = since + 1 == 32 * luby (restarts + 1)

-- the level to go back to, and the counts after it
pub record NextLevel (restarts since back : ℕ) (restarts' since' level : ℕ) : Type 0 where
  pub to : level ≡ (if due restarts since then 0 else back)
  pub restarted : restarts' ≡ (if due restarts since then restarts + 1 else restarts)
  pub counted : since' ≡ (if due restarts since then 0 else since + 1)
