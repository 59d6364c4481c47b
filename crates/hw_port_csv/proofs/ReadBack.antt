-- A reader of CSV reads the records.
use Rattle.std.proofs.Common.{◌≡◌, ◌∙◌, ◌+◌, ◌++◌, ℕ, suc, Bool, true, false, cond, nat_lt, List, [], ◌∷◌, length, map, Some, None, decimal, refl, ap, sym, subst}
use Rattle.std.proofs.lemmas.List.{length-map}
use Rattle.csv.specs.Machine.{next_record}
use Rattle.csv.specs.Reading.{Reached, default_config, strip_bom}
use Rattle.csv.specs.Writing.{default_writer, row_text}
use Rattle.csv.specs.declared.parser.State.TheVariants as st
use Rattle.csv.proofs.RoundTrip.{read-write-many}
use Rattle.hw_port.specs.declared.parts.Waypoint.{Waypoint}
use Rattle.hw_port.specs.Whole.{Parts}
use Rattle.hw_tide.specs.Levels.{TideParts}
use Rattle.hw_port_model.specs.Numbers.{horizon_of}
use Rattle.hw_port_csv.specs.Entries.{ShipEntry, entries}
use Rattle.hw_port_csv.specs.Laws.{SameColumns, TableReadsBack}
use Rattle.hw_port_csv.specs.Sailings.{SailingParts, pass_fields, sailing_fields}
use Rattle.hw_port_csv.specs.Tables.{empty_fields, header, records_text, sailing_of_entry, ship_record}

module _ (p : Parts) (h : TideParts) where
  reached : (all : List ShipEntry) → Reached default_config st.StartRecord (records_text p h all) (map (ship_record p h) all) st.StartRecord []
  unfolding Reached
  reached [] = (refl, refl)
  reached (e ∷ more) = ((ship_record p h e, st.StartRecord, records_text p h more), read-write-many (decimal e.number) e.ship.name _ (records_text p h more), refl, reached more)

  -- after the header
  headed : (all : List ShipEntry) → Reached default_config st.StartRecord (row_text default_writer (header p) ++ records_text p h all) (header p ∷ map (ship_record p h) all) st.StartRecord []
  unfolding Reached
  headed all = ((header p, st.StartRecord, records_text p h all), read-write-many _ _ _ (records_text p h all), refl, reached all)

  -- no byte order mark stands before it
  unmarked : (text : List ℕ) → strip_bom (row_text default_writer (header p) ++ text) ≡ row_text default_writer (header p) ++ text
  unfolding strip_bom
  unmarked text = refl

  ends : next_record default_config st.StartRecord [] [] [] ≡ None
  unfolding next_record
  ends = refl

pub read_back_law : TableReadsBack
read_back_law p h None = (st.StartRecord, [], subst (λ text. Reached default_config st.StartRecord text (header p ∷ []) st.StartRecord []) (sym (unmarked p h [])) (headed p h []), ends p h)
read_back_law p h (Some table) =
    let all = entries p table in
    (st.StartRecord, [], subst (λ text. Reached default_config st.StartRecord text (header p ∷ map (ship_record p h) all) st.StartRecord []) (sym (unmarked p h (records_text p h all))) (headed p h all), ends p h)

-- ---- as many fields

-- one for each waypoint
passes_long : (a : SailingParts) (place : ℕ) (waypoints : List Waypoint) → length (pass_fields a place waypoints) ≡ length waypoints
passes_long a place [] = refl
passes_long a place (w ∷ more) = ap suc (passes_long a (place + 1) more)

course_long : (b : Bool) (sails stays : List (List ℕ)) (n : ℕ) → length sails ≡ n → length stays ≡ n → length (cond b sails stays) ≡ n
course_long true sails stays n e f = e
course_long false sails stays n e f = f

abbrev eight : ℕ → ℕ
eight n = suc (suc (suc (suc (suc (suc (suc (suc n)))))))

pub columns_law : SameColumns
columns_law p h e =
    let names : length (map (λ (w : Waypoint). w.name) p.waypoints) ≡ length p.waypoints = length-map p.waypoints (λ (w : Waypoint). w.name) in
    let none : length (map (λ (w : Waypoint). the_empty) p.waypoints) ≡ length p.waypoints = length-map p.waypoints (λ (w : Waypoint). the_empty) in
    let course = course_long (nat_lt e.slot (horizon_of p)) (sailing_fields (sailing_of_entry p h e)) (empty_fields p.waypoints) (eight (length p.waypoints)) (ap eight (passes_long (sailing_of_entry p h e) 0 p.waypoints)) (ap eight none) in
    ap (λ (n : ℕ). suc (suc (suc n))) course ∙ sym (ap (λ (n : ℕ). suc (suc (suc (eight n)))) names)
  where
    the_empty : List ℕ
    the_empty = []
