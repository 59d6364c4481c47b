-- The text of a record, part by part.
use Rattle.std.proofs.Common.{◌≡◌, ◌==◌, ◌<◌, ◌≤◌, ◌+◌, ◌-◌, ◌∙◌, ◌++◌, ℕ, zero, suc, Bool, true, false, cond, List, [], ◌∷◌, map, length, drop, get_or, codes, decimal, add-one, append_assoc, append-nil, refl, sym, ap, arith}
use Rattle.std.proofs.Math.ListN.{drop_of_length-le}
use Rattle.std.proofs.Math.Seq.{drop-cons}
use Rattle.csv.specs.Writing.{default_writer, escaped, field_text, fields_text, is_blank, row_text}
use Rattle.hw_port.specs.declared.parts.Waypoint.{Waypoint}
use Rattle.hw_port.specs.Whole.{Parts}
use Rattle.hw_tide.specs.Levels.{TideParts}
use Rattle.hw_port.specs.Parts.{ShipParts}
use Rattle.hw_port_model.specs.Numbers.{horizon_of}
use Rattle.hw_port_csv.specs.Entries.{ShipEntry, entries, entries_from, entries_in, table_entry, entry_in, has_slot}
use Rattle.hw_port_csv.specs.Sailings.{SailingParts, figure_fields, time_text, water_fields}
use Rattle.hw_port_csv.specs.Tables.{TimetableParts, columns_text, empty_fields, header, records_text, ship_record, slot_entries_text, slots_text}

-- some fields and then others
pub fields_on : (xs ys : List (List ℕ)) → fields_text default_writer (xs ++ ys) ≡ fields_text default_writer xs ++ fields_text default_writer ys
unfolding fields_text
fields_on [] ys = refl
fields_on (x ∷ more) ys =
    ap (λ t. 44 ∷ (field_text default_writer x ++ t)) (fields_on more ys)
    ∙ ap (λ t. 44 ∷ t) (sym (append_assoc (field_text default_writer x) (fields_text default_writer more) (fields_text default_writer ys)))

-- a record's beginning, its end, and the line feed
pub record_is : (x n d : List ℕ) (course : List (List ℕ)) → row_text default_writer (x ∷ n ∷ d ∷ course) ≡ (field_text default_writer x ++ fields_text default_writer (n ∷ d ∷ [])) ++ (fields_text default_writer course ++ codes "\n")
unfolding is_blank
record_is x n d course =
    ap (λ t. (field_text default_writer x ++ t) ++ codes "\n") (fields_on (n ∷ d ∷ []) course)
    ∙ ap (λ t. t ++ codes "\n") (sym (append_assoc (field_text default_writer x) (fields_text default_writer (n ∷ d ∷ [])) (fields_text default_writer course)))
    ∙ append_assoc (field_text default_writer x ++ fields_text default_writer (n ∷ d ∷ [])) (fields_text default_writer course) (codes "\n")

pub header_is : (p : Parts) → row_text default_writer (header p) ≡ columns_text ++ (fields_text default_writer (map (λ w. w.name) p.waypoints) ++ codes "\n")
unfolding fields_text is_blank
header_is p = refl

pub figures_is : (a : SailingParts) → fields_text default_writer (figure_fields a) ≡ (codes "," ++ field_text default_writer (decimal a.slot)) ++ ((codes "," ++ field_text default_writer (time_text a.port a.slot)) ++ fields_text default_writer (water_fields a))
unfolding fields_text
figures_is a = refl

pub stays_is : (waypoints : List Waypoint) → fields_text default_writer (empty_fields waypoints) ≡ codes ",,,,,,,," ++ fields_text default_writer (map (λ w. []) waypoints)
unfolding fields_text
stays_is waypoints = refl

-- ---- between quotes

pub escaped_on : (xs ys : List ℕ) → escaped default_writer (xs ++ ys) ≡ escaped default_writer xs ++ escaped default_writer ys
unfolding escaped
escaped_on [] ys = refl
escaped_on (x ∷ more) ys = by_quote (x == 34) x more ys (escaped_on more ys)
  where
    by_quote : (b : Bool) (x : ℕ) (more ys : List ℕ) → escaped default_writer (more ++ ys) ≡ escaped default_writer more ++ escaped default_writer ys → cond b (34 ∷ x ∷ escaped default_writer (more ++ ys)) (x ∷ escaped default_writer (more ++ ys)) ≡ cond b (34 ∷ x ∷ escaped default_writer more) (x ∷ escaped default_writer more) ++ escaped default_writer ys
    by_quote true x more ys e = ap (λ t. 34 ∷ x ∷ t) e
    by_quote false x more ys e = ap (λ t. x ∷ t) e

pub escaped_next : (text : List ℕ) (i d : ℕ) → i < length text → escaped default_writer (drop i text) ≡ escaped default_writer (get_or text i d ∷ []) ++ escaped default_writer (drop (i + 1) text)
escaped_next text i d lt = rw (add-one, drop-cons text i d lt) (escaped_on (get_or text i d ∷ []) (drop (suc i) text))

pub escaped_end : (text : List ℕ) (i : ℕ) → length text ≤ i → escaped default_writer (drop i text) ≡ []
unfolding escaped
escaped_end text i le = ap (escaped default_writer) (drop_of_length-le text le)

-- ---- records

module _ (p : Parts) (h : TideParts) where
  pub records_on : (xs ys : List ShipEntry) → records_text p h (xs ++ ys) ≡ records_text p h xs ++ records_text p h ys
  records_on [] ys = refl
  records_on (e ∷ more) ys =
      ap (λ t. row_text default_writer (ship_record p h e) ++ t) (records_on more ys)
      ∙ sym (append_assoc (row_text default_writer (ship_record p h e)) (records_text p h more) (records_text p h ys))

-- ---- ship by ship, and slot by slot

module _ (a : TimetableParts) where
  one_same : (b : Bool) (e : ShipEntry) → cond b (row_text default_writer (ship_record a.port a.tide e)) [] ≡ records_text a.port a.tide (cond b (e ∷ []) [])
  one_same true e = sym (append-nil (row_text default_writer (ship_record a.port a.tide e)))
  one_same false e = refl

  slot_same : (slot v : ℕ) (ships : List ShipParts) → slot_entries_text a slot v ships ≡ records_text a.port a.tide (entries_in a.table slot v ships)
  slot_same slot v [] = refl
  slot_same slot v (s ∷ more) =
      ap (λ t. t ++ slot_entries_text a slot (v + 1) more) (one_same (has_slot a.table slot v) (table_entry v s slot))
      ∙ ap (λ t. records_text a.port a.tide (entry_in a.table slot v s) ++ t) (slot_same slot (v + 1) more)
      ∙ sym (records_on a.port a.tide (entry_in a.table slot v s) (entries_in a.table slot (v + 1) more))

  slots_same : (slot count : ℕ) → slots_text a slot count ≡ records_text a.port a.tide (entries_from a.table a.port.ships slot count)
  slots_same slot zero = refl
  slots_same slot (suc count) =
      ap (λ t. t ++ slots_text a (slot + 1) count) (slot_same slot 0 a.port.ships)
      ∙ ap (λ t. records_text a.port a.tide (entries_in a.table slot 0 a.port.ships) ++ t) (slots_same (slot + 1) count)
      ∙ sym (records_on a.port a.tide (entries_in a.table slot 0 a.port.ships) (entries_from a.table a.port.ships (slot + 1) count))

  pub plan_same : records_text a.port a.tide (entries a.port a.table) ≡ slots_text a 0 (horizon_of a.port + 1)
  plan_same = sym (slots_same 0 (horizon_of a.port + 1))

  pub slots_next : (slot count : ℕ) → 0 < count → slots_text a slot count ≡ slot_entries_text a slot 0 a.port.ships ++ slots_text a (slot + 1) (count - 1)
  slots_next slot count lt = let e : count ≡ suc (count - 1) = omega (arith, lt) in ap (slots_text a slot) e
