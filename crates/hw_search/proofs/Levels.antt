-- Sources that were quiet at the end of the levels below.
use Rattle.std.proofs.Common.{◌≡◌, ℕ, zero, suc, ◌+◌, ◌<◌, ◌≤◌, Bool, true, List, [], ◌∷◌, Option, Some, None, length, get_or, slice_get, sym, ap, ◌∙◌, subst, inl, inr, arith}
use Rattle.std.specs.Prelude.{All, AllPairs}
use Rattle.std.proofs.lemmas.Bool.{cases_lt}
use Rattle.hw_model.specs.declared.lit.Lit.{Lit}
use Rattle.hw_model.specs.declared.source.Source.{Source}
use Rattle.hw_model.specs.declared.source.Source.TheVariants.{Goal}
use Rattle.hw_model.specs.Problem.{Problem}
use Rattle.hw_model.specs.Quiet.{QuietSource}
use Rattle.hw_model.specs.Refuting.{IsSourceOf}
use Rattle.hw_model_laws.proofs.Quiets.{best_quiet}
use Rattle.hw_trail_laws.specs.declared.event.Why.{Why}
use Rattle.hw_trail_laws.specs.Trails.{TrailModel, IsTrail, room_of, back_to, implied, decided}
use Rattle.hw_trail_laws.proofs.Kept.{back_back, back_more, back_same}
use Rattle.hw_search_laws.proofs.Keeps.{never}
use Rattle.hw_search.specs.Engines.{QuietLevels, QuietUnmarked}
use Rattle.hw_search_sources.specs.Marks.{is_place_marked}
use Rattle.hw_search.proofs.Markings.{of_all}

pub levels_implied : (f : Problem) (best : Option ℕ) (t : TrailModel) (lit : Lit) (why : Why) → QuietLevels f best t → QuietLevels f best (implied t lit why)
levels_implied f best t lit why h = λ level lt source of ne.
    subst (λ u. QuietSource f source best (room_of u)) (sym (back_more t (record { lit = lit; level = t.level; why = Some why }) level lt)) (h level lt source of ne)

pub levels_decided : (f : Problem) (best : Option ℕ) (t : TrailModel) (lit : Lit) → IsTrail t → ((source : Source) → IsSourceOf f source → QuietSource f source best (room_of t)) → QuietLevels f best t → QuietLevels f best (decided t lit)
levels_decided f best t lit is here h = λ level lt source of ne.
    subst (λ u. QuietSource f source best (room_of u)) (sym (back_more t (record { lit = lit; level = t.level + 1; why = None }) level lt)) (
    elim (cases_lt level t.level) [
      | inl below ↦ h level below source of ne
      | inr at ↦
          let e : t.level ≡ level = omega (arith, at, lt) in
          subst (λ n. QuietSource f source best (room_of (back_to t n))) e (subst (λ u. QuietSource f source best (room_of u)) (sym (back_same t is)) (here source of))
    ])

pub levels_back : (f : Problem) (best : Option ℕ) (t : TrailModel) (level : ℕ) → level ≤ t.level → QuietLevels f best t → QuietLevels f best (back_to t level)
levels_back f best t level le h = λ i lt source of ne.
    subst (λ u. QuietSource f source best (room_of u)) (sym (back_back t i level (omega (arith, lt)))) (h i (omega (arith, lt, le)) source of ne)

pub levels_best : (f : Problem) (best other : Option ℕ) (t : TrailModel) → QuietLevels f best t → QuietLevels f other t
levels_best f best other t h = λ level lt source of ne. best_quiet f source best other (room_of (back_to t level)) ne (h level lt source of ne)

-- ---- a source stands at one place

pub at_get : {A : Type 0} (xs : List A) (k : ℕ) (x : A) → slice_get xs k ≡ Some x → (k < length xs) × ((d : A) → get_or xs k d ≡ x)
at_get [] k x e = absurd cc
at_get (y ∷ xs) zero x e = (omega arith, λ d. let same : y ≡ x = cc in same)
at_get (y ∷ xs) (suc k) x e = let r = at_get xs k x e in (omega (arith, r.0), r.1)

pub one_place : (xs : List Source) (j k : ℕ) (x : Source) → AllPairs (λ earlier later. earlier ≡ later → ⊥) xs → slice_get xs j ≡ Some x → slice_get xs k ≡ Some x → j ≡ k
one_place xs j k x once e f =
    let a = at_get xs j x e in
    let b = at_get xs k x f in
    elim (cases_lt j k) [
      | inl lt ↦ absurd (once j k x lt b.0 (a.1 x ∙ sym (b.1 x)))
      | inr ge ↦ elim (cases_lt k j) [
        | inl lt ↦ absurd (once k j x lt a.0 (b.1 x ∙ sym (a.1 x)))
        | inr le ↦ omega (arith, ge, le)
      ]
    ]

-- at the end of a level below all are quiet but the goal, which is marked
pub quiet_gone : (f : Problem) (best : Option ℕ) (t : TrailModel) (level : ℕ) (sources : List Source) (marks : List Bool) (goal : ℕ) → AllPairs (λ earlier later. earlier ≡ later → ⊥) sources → All (IsSourceOf f) sources → slice_get sources goal ≡ Some Goal → is_place_marked marks goal ≡ true → level < t.level → QuietLevels f best t
    → QuietUnmarked f best (room_of (back_to t level)) sources marks
quiet_gone f best t level sources marks goal once of there marked lt h = λ place source at clear.
    h level lt source (of_all (IsSourceOf f) sources place source of at) (λ e.
    let same : place ≡ goal = one_place sources place goal Goal once (subst (λ x. slice_get sources place ≡ Some x) e at) there in
    never (sym marked ∙ ap (is_place_marked marks) (sym same) ∙ clear))
