-- Records that are taken one by one, and those that are still to come.
use Rattle.std.proofs.Common.{◌≡◌, ℕ, ◌++◌, Bor, List, [], ◌∷◌, Option, Some, None, Result, Ok, Err, refl, sym, ◌∙◌, subst, inl, append_assoc}
use Rattle.std.proofs.lemmas.List.{append-nil}
use Rattle.std.proofs.lemmas.Option.{same_Some}
use Rattle.csv.specs.Reading.{AreRecords, FlexibleStep, Reached, RowStep, default_config, owned_rows_left, owned_rows_reader, reader_state}
use Rattle.csv.specs.Records.{Row, fields_of}
use Rattle.csv.specs.declared.parser.Config.{Config}
use Rattle.csv.specs.declared.parser.State.{State}
use Rattle.csv.proofs.ReadFacts.{rows-end, rows-more}
use Rattle.hw_tide.specs.declared.fault.TideFault.{TideFault}
use Rattle.hw_tide.specs.declared.fault.TideFault.TheVariants.{Header, Length, Field, Few, NoMemory}
use Rattle.hw_tide.specs.Coming.{Records, IsAt, IsReading, AreComing, Takes, ReadsComing}
use Rattle.hw_tide.specs.Table.{TideGives}
use Rattle.hw_tide.proofs.Listed.{one_before, listed}

abbrev bytes_of : Bor (List ℕ) → Option (List ℕ)
bytes_of b = Some b.now

-- some records are still to come, or none
pub some_coming : (records : Records) → IsReading records → (coming : List (List (List ℕ))) × AreComing records coming
some_coming records at = let rows = listed default_config at.0 at.1 in (rows.0, (at.0, at.1, at.2, rows.1))

-- ---- one record

taken_from : (cfg : Config) (s t : State) (text rest : List ℕ) (fields : List (List ℕ)) (rows : List (List (List ℕ))) → Reached cfg s text (fields ∷ []) t rest → AreRecords cfg t rest rows → AreRecords cfg s text (fields ∷ rows)
unfolding Reached
taken_from cfg s t text rest fields rows one more =
    let state : one.0.1 ≡ t = one.3.0 in
    let left : one.0.2 ≡ rest = one.3.1 in
    let there = subst (λ x. AreRecords cfg one.0.1 x rows) (sym left) (subst (λ q. AreRecords cfg q rest rows) (sym state) more) in
    subst (λ f. AreRecords cfg s text (f ∷ rows)) (sym one.2) (one_before cfg s text one.0 rows one.1 there)

pub one_taken : (old new : Records) (row : Row) (place : State) (text : List ℕ) → IsAt old place text → RowStep bytes_of (owned_rows_reader old) (owned_rows_reader new) (owned_rows_left new) (Some (Ok row)) → FlexibleStep (owned_rows_reader old) (owned_rows_reader new) (Some (Ok row)) → Takes old (Ok (Some row)) new
unfolding Reached
one_taken old new row place text at step flexible =
    let more = rows-more bytes_of (owned_rows_reader old) (owned_rows_reader new) (fields_of row) default_config (reader_state (owned_rows_reader old)) text text [] at.config at.bytes (refl, refl) step.0 in
    let there : IsAt new (reader_state (owned_rows_reader new)) more.0 = record {
      state = refl;
      bytes = more.1;
      config = step.0.2 ∙ at.config;
      flexible = flexible ∙ at.flexible;
      plain = step.0.3 ∙ at.plain;
      ready = inl step.1;
      some = step.2;
    } in (
      (reader_state (owned_rows_reader new), more.0, there),
      λ coming next.
          let state : reader_state (owned_rows_reader new) ≡ next.0 = next.2.state in
          let left : next.1 ≡ more.0 = same_Some next.1 more.0 (sym next.2.bytes ∙ more.1) in
          let rest = subst (λ x. AreRecords default_config (reader_state (owned_rows_reader new)) x coming) left (subst (λ q. AreRecords default_config q next.1 coming) (sym state) next.3) in
          let all = taken_from default_config (reader_state (owned_rows_reader old)) (reader_state (owned_rows_reader new)) text more.0 (fields_of row) coming more.2 rest in
          (place, text, at, subst (λ q. AreRecords default_config q text (fields_of row ∷ coming)) at.state all),
    )

pub none_taken : (old new : Records) (place : State) (text : List ℕ) → IsAt old place text → RowStep bytes_of (owned_rows_reader old) (owned_rows_reader new) (owned_rows_left new) None → Takes old (Ok None) new
unfolding Reached
none_taken old new place text at step =
    let end = rows-end bytes_of (owned_rows_reader old) (owned_rows_reader new) [] default_config text at.config at.bytes step in
    (place, text, at, (reader_state (owned_rows_reader old), text, (sym at.state, refl), end))

-- ---- one after another

-- from one reader to another these were taken
abbrev pub Through : Records → List (List (List ℕ)) → Records → Type 0
Through from done now = IsReading now × ((coming : List (List (List ℕ))) → AreComing now coming → AreComing from (done ++ coming))

pub one_further : (from now new : Records) (done : List (List (List ℕ))) (row : Row) → Through from done now → Takes now (Ok (Some row)) new → Through from (done ++ fields_of row ∷ []) new
one_further from now new done row so_far takes = (takes.0, λ coming all. subst (AreComing from) (sym (append_assoc done (fields_of row ∷ []) coming)) (so_far.1 (fields_of row ∷ coming) (takes.1 coming all)))

pub at_last : (from now new : Records) (done : List (List (List ℕ))) → Through from done now → Takes now (Ok None) new → AreComing from done
at_last from now new done so_far takes = subst (AreComing from) (append-nil done) (so_far.1 [] takes)

-- some records come after one that was taken
pub some_after : (from now new : Records) (done : List (List (List ℕ))) (row : Row) → Through from done now → Takes now (Ok (Some row)) new → (coming : List (List (List ℕ))) × AreComing from (done ++ fields_of row ∷ coming)
some_after from now new done row so_far takes = let rest = some_coming new takes.0 in (rest.0, so_far.1 (fields_of row ∷ rest.0) (takes.1 rest.0 rest.1))

-- an answer that is given of the records to come
pub read_of : {X Y : Type 0} (view : X → Y) (records : Records) (read : List (List (List ℕ)) → Result Y TideFault) (result : Result X TideFault) (coming : List (List (List ℕ))) → AreComing records coming → TideGives view result (read coming) → ReadsComing view records read result
read_of view records read (Ok x) coming all gives = (coming, all, gives)
read_of view records read (Err (Header column)) coming all gives = (coming, all, gives)
read_of view records read (Err (Length row)) coming all gives = (coming, all, gives)
read_of view records read (Err (Field row column)) coming all gives = (coming, all, gives)
read_of view records read (Err Few) coming all gives = (coming, all, gives)
read_of view records read (Err NoMemory) coming all gives = tt
