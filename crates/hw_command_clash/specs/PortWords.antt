-- What a search for a clash says of its subject, and a clash in a port's own words: what its lines name, the wishes of a plan, and no rule of the flat problem.
use Rattle.std.specs.Prelude.{◌≡◌, ◌<◌, ◌≤◌, ◌+◌, ◌-◌, ◌⊎◌, ℕ, zero, suc, List, Some, IsSomeAnd, All, ⊤, length, slice_get, slice_index}
use Rattle.hw_port.specs.Whole.{Parts}
use Rattle.hw_tide.specs.Levels.{TideParts}
use Rattle.hw_port_model.specs.Timetables.{IsPortTimetable}
use Rattle.hw_clash.specs.Clashing.{without_number}
use Rattle.hw_port_named.specs.Meaning.{NamedHolds}
use Rattle.hw_port_named.specs.Restrictions.{named_restrictions}
use Rattle.hw_repair.specs.Wishes.{Grants}
use Rattle.hw_repair.specs.declared.plan.Wish.{Wish}
use Rattle.hw_report.specs.Reports.{Naming, by_number, by_name}
use Rattle.hw_subject.specs.Meanings.{NoneOf}
use Rattle.hw_subject.specs.Subjects.{Subject}
use Rattle.hw_command_clash.specs.Asked.{names_left, wishes_in}
use Rattle.hw_command_clash.specs.Found.{Found, a_clash, a_table, a_step}

-- the wish of this ship grants the slot that it has
abbrev pub WishHolds : List Wish → List ℕ → ℕ → Type 0
WishHolds wishes table ship = IsSomeAnd (slice_get wishes ship) (λ wish. Grants wish (slice_index table ship))

-- there is a line of this number, and what it names holds of the timetable; or the number is past the lines, and the wish of the ship of that place holds
abbrev pub LineHolds : Parts → TideParts → List Wish → List ℕ → ℕ → Type 0
LineHolds p h wishes table number =
    IsSomeAnd (slice_get (named_restrictions p) number) (NamedHolds p h table)
    ⊎ ((length (named_restrictions p) ≤ number) × WishHolds wishes table (number - length (named_restrictions p)))

-- a timetable of the port of which the lines and wishes of these numbers hold
pub record MeetsLines (p : Parts) (h : TideParts) (wishes : List Wish) (numbers table : List ℕ) : Type 0 where
  pub listed : IsPortTimetable p table
  pub holds : All (LineHolds p h wishes table) numbers

-- restrictions of the port and wishes, each with a timetable that meets the others
pub record IsPortDrops (p : Parts) (h : TideParts) (wishes : List Wish) (kept : List ℕ) (drops : List (List ℕ)) : Type 0 where
  pub some : 1 ≤ length kept
  pub numbered : All (λ n. n < length (named_restrictions p) + length wishes) kept
  pub each_id : length drops ≡ length kept
  pub met : (place n : ℕ) (table : List ℕ) → slice_get kept place ≡ Some n → slice_get drops place ≡ Some table → MeetsLines p h wishes (without_number n kept) table

-- no timetable of the port meets these restrictions and wishes together
abbrev pub NoneMeetsLines : Parts → TideParts → List Wish → List ℕ → Type 0
NoneMeetsLines p h wishes kept = (table : List ℕ) → MeetsLines p h wishes kept table → ⊥

-- no timetable meets the kept ones together, and each has one that meets the others
pub record IsPortClash (p : Parts) (h : TideParts) (wishes : List Wish) (kept : List ℕ) (drops : List (List ℕ)) : Type 0 where
  pub clash : NoneMeetsLines p h wishes kept
  pub met : IsPortDrops p h wishes kept drops

-- ---- besides what is said of the problem: of a port, by whose names that is reported

abbrev pub DropsIn : Naming → List Wish → List ℕ → List (List ℕ) → Type 0
DropsIn by_number wishes kept drops = ⊤
DropsIn (by_name p h) wishes kept drops = IsPortDrops p h wishes kept drops

abbrev pub ClashIn : Naming → List Wish → List ℕ → List (List ℕ) → Type 0
ClashIn by_number wishes kept drops = ⊤
ClashIn (by_name p h) wishes kept drops = IsPortClash p h wishes kept drops

-- ---- a search

-- what was found says of the subject, a port by its own rules: it permits nothing, and there is a clash of it; it permits the timetable; or, where a later step than the first was spent, it permits nothing
abbrev pub FoundOf : (s : Subject) → s.Value → Found → Type 0
FoundOf s v (a_clash kept drops) = NoneOf s v × ClashIn (names_left s v) (wishes_in (s.plan v)) kept drops
FoundOf s v (a_table table) = s.Permits v table
FoundOf s v (a_step zero) = ⊤
FoundOf s v (a_step (suc n)) = NoneOf s v
