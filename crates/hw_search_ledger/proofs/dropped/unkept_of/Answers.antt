use Rattle.std.proofs.Common.{ℕ, Bool, true, false, List, length, get_or, ◌<◌}
use Rattle.std.specs.Prelude.{MatchBool, Contains, ⊤}
use Rattle.std.proofs.lemmas.List.Elements.{Contains-get_or}
use Rattle.hw_search_ledger.proofs.dropped.unkept_of.Goals as goal

at_one : (met : Bool) (numbers earlier : List ℕ) (i : ℕ) → i < length numbers → MatchBool met ⊤ ((n : ℕ) → Contains numbers n → Contains earlier n → ⊥) → MatchBool met ⊤ (Contains earlier (get_or numbers i 0) → ⊥)
at_one true numbers earlier i lt h = h
at_one false numbers earlier i lt h = h (get_or numbers i 0) (Contains-get_or numbers i 0 lt)

pub is_kept-requires : goal.is_kept-requires
is_kept-requires g c = record { apart = at_one c.meet-met.result c.args.numbers.now c.args.earlier.now c.loop-number.number-index c.loop-number-test.true c.meet-met.ensures.apart }
