-- What the searches promise of the lines that they write.
use Rattle.std.specs.Prelude.{◌≡◌, ◌*◌, ℕ, List, true, ⊤}
use Rattle.hw_model.specs.Problem.{Problem}
use Rattle.hw_model.specs.Rooms.{room_count}
use Rattle.hw_cert_lines.specs.declared.line.Line.{Line}
use Rattle.hw_cert_lines.specs.Lemmas.{IsNew}
use Rattle.hw_cert_lines.specs.Tolled.{is_plain}
use Rattle.hw_cert.specs.declared.version.Version.{Version}
use Rattle.hw_cert.specs.declared.version.Version.TheVariants.{Two, Three}
use Rattle.hw_search_laws.specs.Living.{FewLiveThroughout}
use Rattle.hw_search_laws.specs.declared.outcome.Branching.{Branching}
use Rattle.hw_cert_crews.specs.Crews.{NewAmong}
use Rattle.hw_turns.specs.Orders.{searcher_count}
use Rattle.hw_command_search.specs.declared.searcher.Search.{Search}
use Rattle.hw_command_search.specs.declared.searcher.Search.TheVariants.{Solve, Prove, Crew}

-- what a search promises of its lines, besides that each is valid and lean after those before it
pub record Searcher : Type 1 where
  -- the version of its certificates
  pub version : Version
  -- what it may write
  pub MayWrite : Line → Type 0
  -- what it promises of all its lines
  pub Promises : Problem → List Line → Type 0
  -- the most lemmas that it can find
  pub most : Problem → ℕ

-- no useless lemma, and few live clauses after each line
pub record SolveLines (f : Problem) (all : List Line) : Type 0 where
  pub new : IsNew f all
  pub few_live : FewLiveThroughout f all

-- among any lemmas, one more than there are searchers, there are two of which the later one's denied room doesn't lie inside the earlier one's
abbrev pub CrewLines : List Branching → Problem → List Line → Type 0
CrewLines order f all = NewAmong f (searcher_count order) all

-- `solve`: no line says anything of tolls or prices, and there are no more lemmas than rooms
abbrev pub solving : Searcher
solving = record {
  version = Two;
  MayWrite = λ line. is_plain line ≡ true;
  Promises = λ f all. SolveLines f all;
  most = λ f. room_count f;
}

-- `prove`: lines may speak of tolls and prices
abbrev pub proving : Searcher
proving = record {
  version = Three;
  MayWrite = λ line. ⊤;
  Promises = λ f all. SolveLines f all;
  most = λ f. room_count f;
}

-- `crew`: as many lemmas as there are rooms, for each of its searchers
abbrev pub crewing : List Branching → Searcher
crewing order = record {
  version = Two;
  MayWrite = λ line. is_plain line ≡ true;
  Promises = λ f all. CrewLines order f all;
  most = λ f. searcher_count order * room_count f;
}

abbrev pub searcher_of : Search → Searcher
searcher_of Solve = solving
searcher_of (Prove seed) = proving
searcher_of (Crew order) = crewing order
