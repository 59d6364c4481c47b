-- What the bytes of a tide table are read as.
use Rattle.std.specs.Prelude.{ℕ, List, [], ◌∷◌, Result, Err, map, bytes_eq, codes, if◌then◌else◌}
use Rattle.csv.specs.Reading.{AreRecords, default_config, strip_bom}
use Rattle.csv.specs.declared.parser.State.TheVariants as st
use Rattle.hw_port.specs.Whole.{Parts}
use Rattle.hw_tide.specs.declared.fault.TideFault.{TideFault}
use Rattle.hw_tide.specs.declared.fault.TideFault.TheVariants.{NoMemory}
use Rattle.hw_tide.specs.declared.kind.TableKind.{TableKind}
use Rattle.hw_tide.specs.declared.kind.TableKind.TheVariants.{Heights, Waters}
use Rattle.hw_tide.specs.Levels.{TideParts}
use Rattle.hw_tide.specs.Table.{TideGives}
use Rattle.hw_tide.specs.Tides.{tide_of}

-- the CSV reader gives these records for the text, a byte order mark skipped
abbrev pub HasRecords : List ℕ → List (List (List ℕ)) → Type 0
HasRecords bytes records = AreRecords default_config st.StartRecord (strip_bom bytes) records

-- what a call answers for the text's records; memory may run out at any time
abbrev pub TideReads : List ℕ → (List (List (List ℕ)) → Result TideParts TideFault) → Result TideParts TideFault → Type 0
TideReads bytes read (Err NoMemory) = Unit {0}
TideReads bytes read result = (records : List (List (List ℕ))) × HasRecords bytes records × TideGives (λ t. t) result (read records)

-- the names of a port's waypoints, in order
abbrev pub waypoint_names : Parts → List (List ℕ)
waypoint_names p = map (λ w. w.name) p.waypoints

-- waters where the first field of the first record is `water`, else heights
abbrev pub kind_said : List (List (List ℕ)) → TableKind
kind_said [] = Heights
kind_said ([] ∷ records) = Heights
kind_said ((f ∷ fs) ∷ records) = if bytes_eq f (codes "water") then Waters else Heights

-- the tide of the kind that the header says
abbrev pub tide_by_header : List (List ℕ) → List (List (List ℕ)) → Result TideParts TideFault
tide_by_header names records = tide_of (kind_said records) names records
