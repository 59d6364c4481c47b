-- How settling ends.
use Rattle.std.proofs.Common.{◌≡◌, Option, Some, None, Ok, sym, subst}
use Rattle.hw_trail_laws.specs.declared.event.Why.{Why}
use Rattle.hw_search_laws.specs.declared.outcome.Settled.TheVariants.{Quiet, Conflict}
use Rattle.hw_search_laws.specs.Searches.{SearchModel, IsSearch}
use Rattle.hw_search_laws.specs.Settling.{Implies, Settles}
use Rattle.hw_search.specs.Askings.{Goes, AskingFails, LemmasQuiet, SourcesQuiet, StoreMeets}
use Rattle.hw_search.proofs.Steps.{implies_more}

-- what the store's round tells
pub store_fails : (s after : SearchModel) (o : Option Why) (why : Why) → o ≡ Some why → StoreMeets s after (Ok o) → AskingFails s after why
store_fails s after o why e m = subst (λ x. StoreMeets s after (Ok x)) e m

pub store_quiet : (s after : SearchModel) (o : Option Why) → o ≡ None → StoreMeets s after (Ok o) → Goes s after × LemmasQuiet after
store_quiet s after o e m = subst (λ x. StoreMeets s after (Ok x)) e m

-- a conflict
pub settles_conflict : (s mid after : SearchModel) (why : Why) → Implies s mid → AskingFails mid after why → Settles s after (Conflict why)
settles_conflict s mid after why a f = record { implies = implies_more s mid after a f.goes.implies; kept = f.goes.kept; ends = f.conflict }

-- quiet
pub settles_quiet : (s mid after : SearchModel) → Implies s mid → LemmasQuiet mid → (after ≡ mid) × IsSearch after × SourcesQuiet after → Settles s after Quiet
settles_quiet s mid after a lemmas q = record {
  implies = subst (Implies s) (sym q.0) a;
  kept = q.1;
  ends = record { sources = q.2; lemmas = subst LemmasQuiet (sym q.0) lemmas };
}
