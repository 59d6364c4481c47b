-- Marks after a cut, and a slice written through its vector.
use Rattle.std.proofs.Common.{◌≡◌, ℕ, Bool, true, false, List, ◌++◌, Option, Some, length, take, drop, slice_get, sym, ap, ◌∙◌, subst, inl, inr}
use Rattle.std.specs.Prelude.{All}
use Rattle.std.proofs.Math.Seq.{take-append_seam}
use Rattle.std.proofs.lemmas.Bool.{cases_Bool}
use Rattle.std.proofs.lemmas.List.Elements.{All-get_or}
use Rattle.std.proofs.lemmas.Option.{slice_get_within, get_or_from_slice_get}
use Rattle.hw_model.specs.declared.lit.Lit.{Lit}
use Rattle.hw_model.specs.declared.lit.LitTruth.TheVariants.{Free}
use Rattle.hw_model.specs.declared.source.Source.{Source}
use Rattle.hw_model.specs.Lits.{IsLitOf}
use Rattle.hw_model.specs.Limits.{IsFlat}
use Rattle.hw_model.specs.Narrowing.{truth, cut}
use Rattle.hw_model.specs.Problem.{Problem}
use Rattle.hw_model.specs.Quiet.{names_lit}
use Rattle.hw_model.specs.Refuting.{IsSourceOf}
use Rattle.hw_model.specs.Rooms.{RoomModel, RoomFits}
use Rattle.hw_model_laws.proofs.Quiets.{unspoken}
use Rattle.hw_search_laws.proofs.Keeps.{never}
use Rattle.hw_search.specs.Engines.{QuietUnmarked}
use Rattle.hw_search_sources.specs.Marks.{is_place_marked, MarksPlaces}
use Rattle.hw_search_sources.specs.Speaking.{SpeakersModel, speakers_of, TellsSpeakers}

-- a whole slice written through its vector is what the vector holds
pub written_whole : {A : Type 0} (n : ℕ) (new old : List A) → n ≡ length new → take n (new ++ drop (length new) old) ≡ new
written_whole n new old e = ap (λ k. take k (new ++ drop (length new) old)) e ∙ take-append_seam new (drop (length new) old)

-- what holds of all holds of the one at a place
pub of_all : {A : Type 0} (P : A → Type 0) (xs : List A) (place : ℕ) (x : A) → All P xs → slice_get xs place ≡ Some x → P x
of_all P xs place x all e = subst P (get_or_from_slice_get xs place x x e) (All-get_or P xs place x (slice_get_within xs place x e) all)

-- a source that is still without a mark didn't speak of the literal
pub quiet_cut : (f : Problem) (best : Option ℕ) (room : RoomModel) (sources : List Source) (table : SpeakersModel) (old new : List Bool) (lit : Lit) → IsFlat f → All (IsSourceOf f) sources → RoomFits f room → IsLitOf f.ships lit → truth room lit ≡ Free → TellsSpeakers f sources table → MarksPlaces (speakers_of table lit) old new
    → QuietUnmarked f best room sources old → QuietUnmarked f best (cut lit room) sources new
quiet_cut f best room sources table old new lit flat of fits is free tells marks quiet place source at clear =
    let was : is_place_marked old place ≡ false = elim (cases_Bool (is_place_marked old place)) [
      | inl e ↦ absurd (never (sym (marks.stays place e) ∙ clear))
      | inr e ↦ e
    ] in
    let silent : names_lit f source lit ≡ false = elim (cases_Bool (names_lit f source lit)) [
      | inl e ↦ absurd (never (sym (marks.marked place (tells.each lit place source is at e)) ∙ clear))
      | inr e ↦ e
    ] in
    unspoken f source best room lit flat (of_all (IsSourceOf f) sources place source of at) fits (subst (λ n. IsLitOf n lit) (sym fits.same_ships) is) free silent (quiet place source at was)

-- where all are marked nothing is to be shown
pub quiet_all : (f : Problem) (best : Option ℕ) (room : RoomModel) (sources : List Source) (marks : List Bool) → ((place : ℕ) → is_place_marked marks place ≡ true) → QuietUnmarked f best room sources marks
quiet_all f best room sources marks all place source at clear = absurd (never (sym (all place) ∙ clear))
