-- Plans of the two ships of a small port, worked out by hand: one goes out over a bar, and one comes in over it.
use Rattle.std.specs.Prelude.{◌≡◌, ℕ, pos, List, [], ◌∷◌, ◌++◌, Some, None, codes}
use Rattle.csv.specs.Writing.{default_writer, field_text}
use Rattle.hw_port.specs.Whole.{Parts}
use Rattle.hw_port_csv.specs.Fields.{tonnes_text}
use Rattle.hw_port_csv.specs.Passes.{offset_at}
use Rattle.hw_port_csv.specs.Tables.{whole_table_text}
use Rattle.hw_port_windows.specs.Rows.{gull, example_port, tide}

-- the first line of each
abbrev pub head_line : List ℕ
head_line = codes "ship,name,direction,slot,time,draft cm,allowed draft cm,limiting waypoint,under keel cm,least clearance cm,cargo t,Berth,Bar\n"

-- the rest of the table of two slots
abbrev pub TableTellsSlots : ℕ → ℕ → List ℕ → Type 0
TableTellsSlots first second text = whole_table_text (example_port (pos 1_150)) tide (Some (first ∷ second ∷ [])) ≡ head_line ++ text

-- the same where the port says when slot 0 begins
abbrev pub dated : Parts
dated = record (example_port (pos 1_150)) { version = pos 3; start = Some (codes "2027-12-31 23:00") }

-- what these definitions say of them
pub record TableRows : Type 0 where
  -- fields
  pub plain : field_text default_writer (codes "Ada") ≡ codes "Ada"
  pub comma : field_text default_writer (codes "Ada, of two") ≡ codes "\"Ada, of two\""
  pub quote : field_text default_writer (codes "Ada \"B\"") ≡ codes "\"Ada \"\"B\"\"\""
  pub formula : field_text default_writer (codes "=1+2") ≡ codes "=1+2"
  pub tenth : tonnes_text 10_007 ≡ codes "1000.7"
  pub nothing : tonnes_text 0 ≡ codes "0.0"
  -- the place of a waypoint that a route doesn't name, and of one that it names second
  pub not_passed : offset_at gull.route 2 ≡ None
  pub passed_second : offset_at gull.route 0 ≡ Some 2
  -- a ship goes out and one comes in: the bar limits both
  pub in_order : TableTellsSlots 2 4 (codes "0,Ada,outgoing,2,60,1150,1160,Bar,110,100,1000.0,60,90\n1,Gull,incoming,4,120,1100,1120,Bar,120,100,0.0,180,120\n")
  -- a ship of a higher number sails first
  pub by_slot : TableTellsSlots 3 2 (codes "1,Gull,incoming,2,60,1100,1140,Bar,140,100,0.0,120,60\n0,Ada,outgoing,3,90,1120,1120,Bar,100,100,700.0,90,120\n")
  -- of two ships of one slot the lower number comes first
  pub by_number : TableTellsSlots 2 2 (codes "0,Ada,outgoing,2,60,1150,1160,Bar,110,100,1000.0,60,90\n1,Gull,incoming,2,60,1100,1140,Bar,140,100,0.0,120,60\n")
  -- a ship that stays comes last
  pub stays : TableTellsSlots 6 4 (codes "1,Gull,incoming,4,120,1100,1120,Bar,120,100,0.0,180,120\n0,Ada,outgoing,,,,,,,,,,\n")
  -- the water is too shallow for her in this slot
  pub too_shallow : TableTellsSlots 4 2 (codes "1,Gull,incoming,2,60,1100,1140,Bar,140,100,0.0,120,60\n0,Ada,outgoing,4,120,,1040,Bar,,100,,120,150\n")
  -- over the end of a year
  pub new_year : whole_table_text dated tide (Some (2 ∷ 4 ∷ [])) ≡ head_line ++ codes "0,Ada,outgoing,2,2028-01-01 00:00,1150,1160,Bar,110,100,1000.0,2028-01-01 00:00,2028-01-01 00:30\n1,Gull,incoming,4,2028-01-01 01:00,1100,1120,Bar,120,100,0.0,2028-01-01 02:00,2028-01-01 01:00\n"
  pub no_plan : whole_table_text (example_port (pos 1_150)) tide None ≡ head_line
