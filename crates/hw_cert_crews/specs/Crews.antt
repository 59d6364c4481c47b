-- The pages of several searchers and the log that they share.
use Rattle.std.specs.Prelude.{◌≡◌, ℕ, ◌+◌, ◌^◌, ◌<◌, true, false, List, [], ◌∷◌, ◌++◌, Some, All, AllPairs, Contains, IsSomeAnd, length, slice_get, slice_set, sum_by}
use Rattle.std.specs.List.{slice_index_or}
use Rattle.std.specs.List.Sorted.{IsStrictlyIncreasing}
use Rattle.hw_model.specs.declared.lit.Lit.{Lit}
use Rattle.hw_model.specs.Problem.{Problem}
use Rattle.hw_model.specs.Rooms.{RoomWithin}
use Rattle.hw_cert_lines.specs.declared.line.Line.{Line}
use Rattle.hw_cert_lines.specs.Tolled.{is_plain}
use Rattle.hw_cert_lines.specs.Lines.{clause_count, is_closed, best_of}
use Rattle.hw_cert_lines.specs.Valid.{LineFits, ValidAfter, Valid, denied_room}
use Rattle.hw_cert_lines.specs.Lemmas.{lemmas_of, IsNew, IsLean, LeanAfter}
use Rattle.hw_cert_crews.specs.Pages.{Page, blank_page, handed, with_next_line, page_after, Tied, NumbersApart}

-- ---- new lemmas

-- the later lemma's denied room doesn't lie inside the earlier one's
abbrev pub IsFreshLemma : Problem → List Lit → List Lit → Type 0
IsFreshLemma f earlier later = RoomWithin (denied_room f later) (denied_room f earlier) → ⊥

-- of the lemmas at these places two are such
pub record SomeFresh (f : Problem) (lemmas : List (List Lit)) (places : List ℕ) : Type 0 where
  pub earlier : ℕ
  pub later : ℕ
  pub order : earlier < later
  pub first : Contains places earlier
  pub second : Contains places later
  pub fresh : IsSomeAnd (slice_get lemmas earlier) (λ a. IsSomeAnd (slice_get lemmas later) (λ b. IsFreshLemma f a b))

-- among any more than `most` Lemma lines there are two such
abbrev pub NewAmong : Problem → ℕ → List Line → Type 0
NewAmong f most all = (places : List ℕ) → IsStrictlyIncreasing places → All (λ place. place < length (lemmas_of all)) places → most < length places → SomeFresh f (lemmas_of all) places

-- ---- who wrote which lemma

-- each Lemma line has an author, one of the pages, that has its lemma; of two with the same author the later one is fresh
pub record Authored (f : Problem) (pages : List Page) (lemmas : List (List Lit)) : Type 0 where
  pub authors : List ℕ
  pub each : length authors ≡ length lemmas
  pub among : All (λ author. author < length pages) authors
  pub own : (place : ℕ) → place < length authors → Contains (lemmas_of (slice_index_or pages (slice_index_or authors place 0) blank_page).lines) (slice_index_or lemmas place [])
  pub fresh : (i j : ℕ) → i < j → j < length authors → slice_index_or authors i 0 ≡ slice_index_or authors j 0 → IsFreshLemma f (slice_index_or lemmas i []) (slice_index_or lemmas j [])

-- ---- all pages at once

-- the shared lines are plain, of the shape, valid and lean; each page is tied to them, and any two are apart; each clause line and each lemma is one of a page
pub record Shared (f : Problem) (pages : List Page) (shared : List Line) : Type 0 where
  pub plain : All (λ line. is_plain line ≡ true) shared
  pub fit : All (LineFits f) shared
  pub valid : Valid f shared
  pub lean : IsLean f shared
  pub tied : All (λ page. Tied f page shared) pages
  pub apart : AllPairs NumbersApart pages
  pub count : clause_count shared ≡ sum_by (λ page. clause_count page.lines) pages
  pub lemmas : length (lemmas_of shared) ≡ sum_by (λ page. length (lemmas_of page.lines)) pages
  pub authored : Authored f pages (lemmas_of shared)

-- before any line
abbrev pub CrewBegins : Type 0
CrewBegins = (f : Problem) (pages : List Page) → All (λ page. page ≡ blank_page) pages → Shared f pages []

-- after one more plain line of a page
abbrev pub CrewRelays : Type 0
CrewRelays = (f : Problem) (pages : List Page) (shared : List Line) (place : ℕ) (page : Page) (line : Line) → slice_get pages place ≡ Some page → Shared f pages shared → is_closed shared ≡ false → clause_count shared + 1 < 2 ^ 32 → is_plain line ≡ true → LineFits f line → ValidAfter f page.lines line → LeanAfter f page.lines line → IsNew f (page.lines ++ line ∷ [])
    → Shared f (slice_set pages place (page_after page (clause_count shared) line)) (with_next_line shared (handed f (best_of f shared) page.numbers line))

-- so among any more Lemma lines than pages there are two of which the later one is fresh
abbrev pub CrewNew : Type 0
CrewNew = (f : Problem) (pages : List Page) (shared : List Line) → Shared f pages shared → NewAmong f (length pages) shared
