-- The line that closes a search by its own bound.
use Rattle.std.proofs.Common.{◌≡◌, ℕ, ◌<◌, ◌≤◌, ◌||◌, Bool, true, false, List, [], ◌∷◌, ◌++◌, Option, Some, None, IfSome, IsSomeAnd, IsTrue, refl, sym, ◌∙◌, subst, arith, inl, inr}
use Rattle.std.proofs.lemmas.Bool.{lt-ltb, cases_lt}
use Rattle.std.proofs.lemmas.List.Elements.{All-nil}
use Rattle.hw_model.specs.declared.lit.Lit.{Lit}
use Rattle.hw_model.specs.declared.source.Source.TheVariants as sources
use Rattle.hw_model.specs.Problem.{Problem, shape_of}
use Rattle.hw_model.specs.Quiet.{names_lit}
use Rattle.hw_model.specs.Rooms.{whole_room}
use Rattle.hw_price_laws.specs.declared.tariff.Tariff.{Tariff}
use Rattle.hw_price_laws.specs.declared.toll.Toll.{Toll}
use Rattle.hw_price_laws.specs.Prices.{PricesRefute}
use Rattle.hw_price_laws.proofs.Sound.{rising}
use Rattle.hw_cert_lines.specs.declared.line.Line.{Line}
use Rattle.hw_cert_lines.specs.Lines.{is_closed, last_priced}
use Rattle.hw_cert_lines.proofs.Pushed.{one_more}
use Rattle.hw_search_laws.specs.Closing.{IsReached}
use Rattle.hw_search_laws.specs.Laws.{PriceLine, NothingBetter}
use Rattle.hw_search_laws.specs.Living.{FewLiveFrom}
use Rattle.hw_search_laws.specs.Prices.{HoldsBound, bound_tariff}
use Rattle.hw_search_laws.specs.Searches.{SearchModel, IsSearch, FitsOpen, LiveKept, PricesShow, best_cargo}
use Rattle.hw_trail_laws.specs.declared.event.Why.TheVariants as whys
use Rattle.hw_search_laws.proofs.Bounds.{few_last}
use Rattle.hw_search_laws.proofs.Living.{conflict_only}
use Rattle.hw_search_laws.proofs.Priced.{priced_good, true_reason}
use Rattle.hw_search_laws.proofs.Trues.{never}

-- what prices refute under a bound they refute under a best that reaches it
up_to : (f : Problem) (tolls : List Toll) (tariff : Tariff) (bound best : ℕ) → bound ≤ best → PricesRefute f tolls tariff (Some bound) (whole_room (shape_of f)) → PricesRefute f tolls tariff (Some best) (whole_room (shape_of f))
up_to f tolls tariff bound best le h = elim (cases_lt bound best) [
  | inl lt ↦ rising f tolls tariff (Some bound) best (whole_room (shape_of f)) (lt-ltb _ _ lt) h
  | inr ge ↦ let same : bound ≡ best = omega (arith, le, ge) in subst (λ n. PricesRefute f tolls tariff (Some n) (whole_room (shape_of f))) same h
]

by_bound : (f : Problem) (tolls : List Toll) (bound best : Option ℕ) (o : Option Tariff) → IfSome bound (λ b. IsSomeAnd o (HoldsBound f tolls b)) → IsSomeAnd bound (λ b. IsSomeAnd best (λ c. b ≤ c)) → IsSomeAnd o (λ tariff. PricesRefute f tolls tariff best (whole_room (shape_of f)))
by_bound f tolls None best o shown reached = absurd reached
by_bound f tolls (Some b) None o shown reached = absurd reached
by_bound f tolls (Some b) (Some c) None shown reached = absurd shown
by_bound f tolls (Some b) (Some c) (Some tariff) shown reached = up_to f tolls tariff b c reached shown.bounds

-- with the tariff in force that shows the last bound, nothing is left where the best reaches it
pub reached_shown : (s : SearchModel) → IsSearch s → IsReached s → s.prices.tariff ≡ bound_tariff s.prices → PricesShow s []
reached_shown s is reached now = record {
  refuted = subst (λ o. IsSomeAnd o (λ tariff. PricesRefute s.problem s.prices.tolls tariff (best_cargo s) (whole_room (shape_of s.problem)))) (sym now) (by_bound s.problem s.prices.tolls s.prices.bound (best_cargo s) (bound_tariff s.prices) is.prices.shown reached);
  speaks = All-nil (λ (lit : Lit). IsTrue (names_lit s.problem sources.Goal lit));
}

pub last_good : (s : SearchModel) → IsSearch s → s.over ≡ false → s.lemmas ≤ 100000 → PricesShow s [] → (before : List Line) → FitsOpen before s → PriceLine s.problem before last_priced × (LiveKept before s → FewLiveFrom s.problem before (last_priced ∷ []))
last_good s is going few shown before fit = (priced_good s before [] fit refl shown (few_last s is going few), λ kept. conflict_only s before (whys.Priced []) is fit kept)

-- the line closes the certificate
pub last_closes : (f : Problem) (before : List Line) → is_closed (before ++ last_priced ∷ []) ≡ true
last_closes f before = (one_more f before last_priced).closed ∙ last (is_closed before)
  where
    last : (b : Bool) → (b || true) ≡ true
    last true = refl
    last false = refl

-- and nothing beats the best
pub last_means : (s : SearchModel) → IsSearch s → PricesShow s [] → NothingBetter s
last_means s is shown table c permits worth above = never table (true_reason s [] is refl shown table c permits worth above)

-- a bound that the best does not reach is above it
pub not_reached : (bound best : Option ℕ) → (IsSomeAnd bound (λ b. IsSomeAnd best (λ c. b ≤ c)) → ⊥) → IfSome bound (λ b. IfSome best (λ c. c < b))
not_reached None best h = tt
not_reached (Some b) None h = tt
not_reached (Some b) (Some c) h = elim (cases_lt c b) [
  | inl lt ↦ lt
  | inr le ↦ absurd (h le)
]
