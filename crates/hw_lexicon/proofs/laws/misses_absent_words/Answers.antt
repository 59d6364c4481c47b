use Rattle.std.proofs.Common.{◌≡◌, ℕ, List, Some, None, refl}
use Rattle.std.specs.List.{slice_get}
use Rattle.hw_lexicon.specs.Words.{find_from}
use Rattle.hw_lexicon.proofs.Inverse.{absent, at_place}
use Rattle.hw_lexicon.proofs.laws.misses_absent_words.Goals as goal

none_found : (ws : List (List ℕ)) (w : List ℕ) → ((i : ℕ) → slice_get ws i ≡ Some w → ⊥) → find_from 0 w ws ≡ None
none_found ws w h =
    elim (find_from 0 w ws) as (λ o. find_from 0 w ws ≡ o → o ≡ None) [
      | None ↦ λ e. refl
      | Some j ↦ λ e. let r = at_place 0 ws j w e in absurd (h r.0 r.2)
    ] refl

pub returns : goal.returns
returns c = λ ws w. (λ e. absent 0 ws w e, none_found ws w)
