-- From records that are taken one by one to the tide of the whole text.
use Rattle.std.proofs.Common.{◌≡◌, ℕ, ◌+◌, ◌++◌, List, [], ◌∷◌, length, Option, Some, None, Result, Ok, Err, unwrap_or, refl, sym, ap, ◌∙◌, subst, append_assoc}
use Rattle.std.proofs.lemmas.List.{append-nil}
use Rattle.std.proofs.lemmas.Option.{same_Some}
use Rattle.hw_lemmas.specs.Operators.{◌>>=◌}
use Rattle.csv.specs.Reading.{AreRecords, default_config, strip_bom}
use Rattle.csv.specs.Records.{Row, fields_of}
use Rattle.csv.specs.declared.parser.State.TheVariants as st
use Rattle.hw_tide.specs.declared.fault.TideFault.{TideFault}
use Rattle.hw_tide.specs.declared.fault.TideFault.TheVariants.{Header, Length, Field, Few, NoMemory}
use Rattle.hw_tide.specs.declared.kind.TableKind.{TableKind}
use Rattle.hw_tide.specs.Coming.{Records, IsAt, IsReading, AreComing, Takes, ReadsComing}
use Rattle.hw_tide.specs.Levels.{LevelsParts, TideParts}
use Rattle.hw_tide.specs.Table.{TideFails, TideGives, header_of, kind_word, levels_form, levels_from, not_empty, table_of, wrong_column}
use Rattle.hw_tide.specs.Tides.{tide_from, tide_of}
use Rattle.hw_tide.specs.Whole.{HasRecords, TideReads, kind_said}
use Rattle.hw_tide.proofs.ComingRecords.{Through, read_of, some_after, some_coming}
use Rattle.hw_tide.proofs.Fields.{with_front, one_more}

-- ---- the records after the header

-- one more record was good
pub good_record : (kind : TableKind) (columns row : ℕ) (last : Option ℕ) (front : List LevelsParts) (fields : List (List ℕ)) (one : LevelsParts) (coming : List (List (List ℕ))) (whole : Result (List LevelsParts) TideFault)
    → levels_form kind columns row last fields ≡ Ok one → with_front front (levels_from kind columns row last (fields ∷ coming)) ≡ whole → with_front (front ++ one ∷ []) (levels_from kind columns (row + 1) (Some one.slot) coming) ≡ whole
good_record kind columns row last front fields one coming whole is so_far =
    let read : levels_from kind columns row last (fields ∷ coming) ≡ (levels_from kind columns (row + 1) (Some one.slot) coming >>= λ more. Ok (one ∷ more)) = ap (λ (r : Result LevelsParts TideFault). r >>= λ one. levels_from kind columns (row + 1) (Some one.slot) coming >>= λ more. Ok (one ∷ more)) is in
    one_more front one (levels_from kind columns (row + 1) (Some one.slot) coming) ∙ ap (with_front front) (sym read) ∙ so_far

-- a record was bad
pub bad_record : (kind : TableKind) (columns row : ℕ) (last : Option ℕ) (front : List LevelsParts) (fields : List (List ℕ)) (coming : List (List (List ℕ))) (whole : Result (List LevelsParts) TideFault) (fault : TideFault)
    → levels_form kind columns row last fields ≡ Err fault → with_front front (levels_from kind columns row last (fields ∷ coming)) ≡ whole → whole ≡ Err fault
bad_record kind columns row last front fields coming whole fault is so_far =
    sym so_far ∙ ap (λ (r : Result LevelsParts TideFault). with_front front (r >>= λ one. levels_from kind columns (row + 1) (Some one.slot) coming >>= λ more. Ok (one ∷ more))) is

-- what is told of a fault other than out of memory
pub failed_so : {Y : Type 0} (fault : TideFault) (here : Result Y TideFault) {Z : Type 0} (there : Result Z TideFault) → (here ≡ Err fault → there ≡ Err fault) → TideFails fault here → TideFails fault there
failed_so (Header column) here there more fails = more fails
failed_so (Length row) here there more fails = more fails
failed_so (Field row column) here there more fails = more fails
failed_so Few here there more fails = more fails
failed_so NoMemory here there more fails = tt

-- a bad record ends the reading of those that are still to come
pub bad_read : {X : Type 0} (view : X → List LevelsParts) (from now new : Records) (kind : TableKind) (columns row : ℕ) (last : Option ℕ) (front : List LevelsParts) (taken : Row) (done : List (List (List ℕ))) (fault : TideFault) (result : Result X TideFault)
    → Through from done now → Takes now (Ok (Some taken)) new
    → ((coming : List (List (List ℕ))) → with_front front (levels_from kind columns row last coming) ≡ levels_from kind columns 1 None (done ++ coming))
    → TideFails fault (levels_form kind columns row last (fields_of taken)) → result ≡ Err fault → ReadsComing view from (levels_from kind columns 1 None) result
bad_read view from now new kind columns row last front taken done fault result so_far takes invariant fails is =
    let rest = some_after from now new done taken so_far takes in
    let all = done ++ fields_of taken ∷ rest.0 in
    let told : TideFails fault (levels_from kind columns 1 None all) = failed_so fault (levels_form kind columns row last (fields_of taken)) (levels_from kind columns 1 None all) (λ h. bad_record kind columns row last front (fields_of taken) rest.0 (levels_from kind columns 1 None all) fault h (invariant (fields_of taken ∷ rest.0))) fails in
    subst (ReadsComing view from (levels_from kind columns 1 None)) (sym is) (read_of view from (levels_from kind columns 1 None) (Err fault) all rest.1 told)

-- a good record goes to those in front
pub good_read : (kind : TableKind) (columns row later slot : ℕ) (last : Option ℕ) (front next : List LevelsParts) (fields : List (List ℕ)) (one : LevelsParts) (done coming : List (List (List ℕ)))
    → later ≡ row + 1 → next ≡ front ++ one ∷ [] → slot ≡ one.slot → levels_form kind columns row last fields ≡ Ok one
    → ((all : List (List (List ℕ))) → with_front front (levels_from kind columns row last all) ≡ levels_from kind columns 1 None (done ++ all))
    → with_front next (levels_from kind columns later (Some slot) coming) ≡ levels_from kind columns 1 None ((done ++ fields ∷ []) ++ coming)
good_read kind columns row later slot last front next fields one done coming up is at form so_far =
    let good = good_record kind columns row last front fields one coming (levels_from kind columns 1 None (done ++ fields ∷ coming)) form (so_far (fields ∷ coming)) in
    rw (up, is, at, append_assoc done (fields ∷ []) coming) good

-- none is left
pub all_good : (kind : TableKind) (columns row : ℕ) (last : Option ℕ) (levels : List LevelsParts) (done : List (List (List ℕ)))
    → ((all : List (List (List ℕ))) → with_front levels (levels_from kind columns row last all) ≡ levels_from kind columns 1 None (done ++ all)) → levels_from kind columns 1 None done ≡ Ok levels
all_good kind columns row last levels done so_far = ap (levels_from kind columns 1 None) (sym (append-nil done)) ∙ sym (so_far []) ∙ ap (λ ls. Ok ls) (append-nil levels)

-- ---- the whole table

-- a wrong header ends the reading of those that are still to come
pub bad_header : {X : Type 0} (view : X → List LevelsParts) (records : Records) (kind : TableKind) (names fields : List (List ℕ)) (fault : TideFault) (result : Result X TideFault)
    → IsReading records → TideFails fault (header_of (wrong_column 0 (kind_word kind ∷ names) fields)) → result ≡ Err fault → ReadsComing view records (λ rows. table_of kind names (fields ∷ rows)) result
unfolding table_of
bad_header view records kind names fields fault result at fails is =
    let rest = some_coming records at in
    let read : List (List (List ℕ)) → Result (List LevelsParts) TideFault = λ rows. table_of kind names (fields ∷ rows) in
    let told : TideFails fault (read rest.0) = failed_so fault (header_of (wrong_column 0 (kind_word kind ∷ names) fields)) (read rest.0) (λ h. ap (λ r. r >>= λ header. levels_from kind (1 + length names) 1 None rest.0 >>= λ levels. not_empty levels) h) fails in
    subst (ReadsComing view records read) (sym is) (read_of view records read (Err fault) rest.0 rest.1 told)

-- the records to come from a text's start are all of it
pub all_records : (records : Records) (bytes : List ℕ) (coming : List (List (List ℕ))) → IsAt records st.StartRecord (strip_bom bytes) → AreComing records coming → HasRecords bytes coming
all_records records bytes coming at all =
    let state : all.0 ≡ st.StartRecord = sym all.2.state ∙ at.state in
    let text : all.1 ≡ strip_bom bytes = same_Some all.1 (strip_bom bytes) (sym all.2.bytes ∙ at.bytes) in
    subst (λ x. AreRecords default_config st.StartRecord x coming) text (subst (λ s. AreRecords default_config s all.1 coming) state all.3)

same_kind : (fields : List (List ℕ)) (rows : List (List (List ℕ))) → kind_said (fields ∷ []) ≡ kind_said (fields ∷ rows)
same_kind [] rows = refl
same_kind (f ∷ fs) rows = refl

-- a text without records has no header
pub no_header : (kind : TableKind) (names : List (List ℕ)) → tide_of kind names [] ≡ Err (Header 0)
unfolding table_of tide_of
no_header kind names = refl

with_records : (bytes : List ℕ) (all : List (List (List ℕ))) (read : List (List (List ℕ)) → Result TideParts TideFault) (result : Result TideParts TideFault) → HasRecords bytes all → TideGives (λ (t : TideParts). t) result (read all) → TideReads bytes read result
with_records bytes all read (Ok t) has gives = (all, has, gives)
with_records bytes all read (Err (Header column)) has gives = (all, has, gives)
with_records bytes all read (Err (Length row)) has gives = (all, has, gives)
with_records bytes all read (Err (Field row column)) has gives = (all, has, gives)
with_records bytes all read (Err Few) has gives = (all, has, gives)
with_records bytes all read (Err NoMemory) has gives = tt

-- the tide by the header's kind, where that is the kind
by_kind : (bytes : List ℕ) (wanted : Option TableKind) (kind : TableKind) (names : List (List ℕ)) (first now : Records) (header : Row) (result : Result TideParts TideFault) (coming : List (List (List ℕ)))
    → IsAt first st.StartRecord (strip_bom bytes) → Takes first (Ok (Some header)) now → kind ≡ unwrap_or wanted (kind_said (fields_of header ∷ []))
    → AreComing now coming → TideGives (λ (t : TideParts). t) result (tide_of kind names (fields_of header ∷ coming)) → TideReads bytes (λ records. tide_of (unwrap_or wanted (kind_said records)) names records) result
by_kind bytes wanted kind names first now header result coming at takes is all gives =
    let rows = fields_of header ∷ coming in
    let same : kind ≡ unwrap_or wanted (kind_said rows) = is ∙ ap (unwrap_or wanted) (same_kind (fields_of header) coming) in
    let there : TideGives (λ (t : TideParts). t) result (tide_of (unwrap_or wanted (kind_said rows)) names rows) = subst (λ k. TideGives (λ (t : TideParts). t) result (tide_of k names rows)) same gives in
    with_records bytes rows (λ records. tide_of (unwrap_or wanted (kind_said records)) names records) result (all_records first bytes rows at (takes.1 coming all)) there

-- the levels were read, and the tide was made of them
pub tide_read : (bytes : List ℕ) (wanted : Option TableKind) (kind : TableKind) (columns : ℕ) (names : List (List ℕ)) (first now : Records) (header : Row) (levels : List LevelsParts) (result : Result TideParts TideFault)
    → IsAt first st.StartRecord (strip_bom bytes) → Takes first (Ok (Some header)) now → kind ≡ unwrap_or wanted (kind_said (fields_of header ∷ [])) → columns ≡ length names
    → (coming : List (List (List ℕ))) × AreComing now coming × (table_of kind names (fields_of header ∷ coming) ≡ Ok levels)
    → TideGives (λ (t : TideParts). t) result (Ok (tide_from kind columns levels)) → TideReads bytes (λ records. tide_of (unwrap_or wanted (kind_said records)) names records) result
unfolding tide_of
tide_read bytes wanted kind columns names first now header levels result at takes is many read gives =
    let tide : tide_of kind names (fields_of header ∷ read.0) ≡ Ok (tide_from kind columns levels) = ap (λ (r : Result (List LevelsParts) TideFault). r >>= λ ls. Ok (tide_from kind (length names) ls)) read.2 ∙ ap (λ n. Ok (tide_from kind n levels)) (sym many) in
    by_kind bytes wanted kind names first now header result read.0 at takes is read.1 (subst (TideGives (λ (t : TideParts). t) result) (sym tide) gives)

-- the levels were refused
pub tide_refused : {X : Type 0} (view : X → List LevelsParts) (bytes : List ℕ) (wanted : Option TableKind) (kind : TableKind) (names : List (List ℕ)) (first now : Records) (header : Row) (fault : TideFault) (result : Result TideParts TideFault)
    → IsAt first st.StartRecord (strip_bom bytes) → Takes first (Ok (Some header)) now → kind ≡ unwrap_or wanted (kind_said (fields_of header ∷ []))
    → ReadsComing view now (λ rows. table_of kind names (fields_of header ∷ rows)) (Err fault) → result ≡ Err fault → TideReads bytes (λ records. tide_of (unwrap_or wanted (kind_said records)) names records) result
unfolding tide_of
tide_refused {X} view bytes wanted kind names first now header fault result at takes is read was = subst (TideReads bytes (λ records. tide_of (unwrap_or wanted (kind_said records)) names records)) (sym was) (by fault read)
  where
    so : (e : TideFault) → (coming : List (List (List ℕ))) × AreComing now coming × TideFails e (table_of kind names (fields_of header ∷ coming)) → TideReads bytes (λ records. tide_of (unwrap_or wanted (kind_said records)) names records) (Err e)
    so e some = by_kind bytes wanted kind names first now header (Err e) some.0 at takes is some.1 (failed_so e (table_of kind names (fields_of header ∷ some.0)) (tide_of kind names (fields_of header ∷ some.0)) (λ h. ap (λ (r : Result (List LevelsParts) TideFault). r >>= λ ls. Ok (tide_from kind (length names) ls)) h) some.2)

    by : (e : TideFault) → ReadsComing view now (λ rows. table_of kind names (fields_of header ∷ rows)) (Err e) → TideReads bytes (λ records. tide_of (unwrap_or wanted (kind_said records)) names records) (Err e)
    by (Header column) some = so (Header column) some
    by (Length row) some = so (Length row) some
    by (Field row column) some = so (Field row column) some
    by Few some = so Few some
    by NoMemory some = tt
