-- A source that was asked.
use Rattle.std.proofs.Common.{◌≡◌, ℕ, ◌<◌, Bool, true, false, List, ◌++◌, Option, Some, length, get_or, take, drop, map, option_map, slice_get, sym, ap, ◌∙◌, subst, inl, inr, arith}
use Rattle.std.specs.Prelude.{All, slice_set}
use Rattle.std.proofs.lemmas.Bool.{cases_eq}
use Rattle.std.proofs.lemmas.List.{length-map, length-set, get_or-set_other}
use Rattle.std.proofs.lemmas.Option.{slice_get-get_or, slice_get-map}
use Rattle.hw_model.specs.declared.lit.Lit.{Lit}
use Rattle.hw_model.specs.declared.source.Source.{Source}
use Rattle.hw_model.specs.Problem.{Problem}
use Rattle.hw_model.specs.Quiet.{QuietSource}
use Rattle.hw_model.specs.Refuting.{IsSourceOf}
use Rattle.hw_model.specs.Rooms.{RoomModel}
use Rattle.hw_lits.specs.declared.found.Found.{Found}
use Rattle.hw_lits.specs.declared.found.Found.TheVariants as founds
use Rattle.hw_prop.specs.Finds.{Finds, Explanation}
use Rattle.hw_trail_laws.specs.declared.event.Why.TheVariants as whys
use Rattle.hw_search_laws.specs.Searches.{SearchModel, IsSearch, IsReason, best_cargo, room_in}
use Rattle.hw_search.specs.Engines.{EngineModel, KeepsEngine, QuietUnmarked}
use Rattle.hw_search_sources.specs.Speaking.{SpeakersModel}
use Rattle.hw_search.proofs.Markings.{written_whole, of_all}

-- ---- propagators that were written through their vector

pub asked_sources : {A : Type 0} (source : A → Source) (n : ℕ) (old lent new : List A) → n ≡ length new → lent ≡ old → map source new ≡ map source lent → map source (take n (new ++ drop (length new) old)) ≡ map source old
asked_sources source n old lent new e l same = ap (map source) (written_whole n new old e) ∙ same ∙ ap (map source) l

pub asked_serve : {A : Type 0} (serves : A → Type 0) (n : ℕ) (old new : List A) → n ≡ length new → All serves new → All serves (take n (new ++ drop (length new) old))
asked_serve serves n old new e all = subst (All serves) (sym (written_whole n new old e)) all

-- the source that was read is the one at the place
pub source_there : {A : Type 0} (source : A → Source) (xs : List A) (place : ℕ) (x : A) (s : Source) → place < length xs → x ≡ get_or xs place x → s ≡ source x → slice_get (map source xs) place ≡ Some s
source_there source xs place x s lt at e = slice_get-map source xs place ∙ ap (option_map source) (slice_get-get_or xs place x lt) ∙ ap (λ y. Some (source y)) (sym at) ∙ ap (λ y. Some y) (sym e)

pub place_in : {A : Type 0} (source : A → Source) (xs : List A) (given : List Source) (place : ℕ) → map source xs ≡ given → place < length given → place < length xs
place_in source xs given place e lt = omega (arith, lt, ap length e, length-map xs source)

-- what was found under the best and in the room
pub found_here : (f : Problem) (source : Source) (worth best : Option ℕ) (room here : RoomModel) (found asked : Found) → worth ≡ best → room ≡ here → found ≡ asked → Finds f source worth room found → Finds f source best here asked
found_here f source worth best room here found asked w r e h = subst (λ x. Finds f source best here x) e (subst (λ x. Finds f source best x found) r (subst (λ x. Finds f source x room found) w h))

-- ---- what an engine keeps

pub kept_asked : (e : EngineModel) (table : SpeakersModel) (goal : ℕ) (worth : Option ℕ) (capacity : ℕ) (sources : List Source) → KeepsEngine e table goal worth capacity → sources ≡ e.sources → KeepsEngine (record e { sources = sources }) table goal worth capacity
kept_asked e table goal worth capacity sources k same = subst (λ xs. KeepsEngine (record e { sources = xs }) table goal worth capacity) (sym same) k

one_of : (s u : Source) → Some s ≡ Some u → s ≡ u
one_of s u e = cc

quiet_cleared : (f : Problem) (best : Option ℕ) (room : RoomModel) (sources : List Source) (marks : List Bool) (place : ℕ) (asked : Source) → slice_get sources place ≡ Some asked → QuietSource f asked best room → QuietUnmarked f best room sources marks → QuietUnmarked f best room sources (slice_set marks place false)
quiet_cleared f best room sources marks place asked at calm quiet other source there clear = elim (cases_eq other place) [
  | inl e ↦ subst (λ s. QuietSource f s best room) (one_of asked source (sym at ∙ ap (slice_get sources) (sym e) ∙ there)) calm
  | inr ne ↦ quiet other source there (sym (get_or-set_other marks place other false true ne) ∙ clear)
]

pub kept_cleared : (e : EngineModel) (table : SpeakersModel) (goal : ℕ) (worth : Option ℕ) (capacity : ℕ) (place : ℕ) (asked : Source) (marks : List Bool) → KeepsEngine e table goal worth capacity → slice_get e.sources place ≡ Some asked → QuietSource e.search.problem asked (best_cargo e.search) (room_in e.search) → marks ≡ slice_set e.marks place false → KeepsEngine (record e { marks = marks }) table goal worth capacity
kept_cleared e table goal worth capacity place asked marks k at calm m = subst (λ xs. KeepsEngine (record e { marks = xs }) table goal worth capacity) (sym m) (record {
  search = k.search;
  once = k.once;
  of_problem = k.of_problem;
  each_mark = length-set e.marks place false ∙ k.each_mark;
  quiet = quiet_cleared e.search.problem (best_cargo e.search) (room_in e.search) e.sources e.marks place asked at calm k.quiet;
  quiet_below = k.quiet_below;
  speakers = k.speakers;
  goal_at = k.goal_at;
  worth_is = k.worth_is;
  room = k.room;
})

-- a clause that a source gave may be a reason
pub source_reason : (s : SearchModel) (sources : List Source) (place : ℕ) (asked : Source) (clause : List Lit) → IsSearch s → All (IsSourceOf s.problem) sources → slice_get sources place ≡ Some asked → Explanation s.problem asked (best_cargo s) (room_in s) clause → IsReason s (whys.Source asked clause)
source_reason s sources place asked clause is all at x = (of_all (IsSourceOf s.problem) sources place asked all at, x.refuted, x.speaks)

-- the clause that was found, with what it is worth
pub clause_here : (f : Problem) (source : Source) (worth best : Option ℕ) (room here : RoomModel) (found : Found) (clause : List Lit) → worth ≡ best → room ≡ here → found ≡ founds.Clause clause → Finds f source worth room found → Explanation f source best here clause
clause_here f source worth best room here found clause w r e h = found_here f source worth best room here found (founds.Clause clause) w r e h
