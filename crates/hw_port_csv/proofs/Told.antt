-- What is told of a ship is true of it by the port's rules.
use Rattle.std.proofs.Common.{◌≡◌, ◌⊎◌, ◌∙◌, ◌<◌, ◌*◌, ℕ, ℤ, ◌≤ℤ◌, ◌+ℤ◌, ◌-ℤ◌, int_lt, nat_lt, Bool, true, false, cond, List, [], ◌∷◌, map, decimal, Option, Some, None, IsSome, option_map, option_and_then, slice_get, refl, sym, subst, ap, inl, inr, arith}
use Rattle.std.proofs.lemmas.Bool.{le-ltb}
use Rattle.std.proofs.lemmas.Int.{ints}
use Rattle.std.specs.Int.{int_min}
use Rattle.hw_port.specs.declared.parts.Pass.{Pass}
use Rattle.hw_port.specs.declared.parts.Waypoint.{Waypoint}
use Rattle.hw_port.specs.Parts.{ShipParts}
use Rattle.hw_port.specs.Whole.{Parts}
use Rattle.hw_tide.specs.Levels.{TideParts}
use Rattle.hw_port_laws.proofs.Drafts.{least_draft_law}
use Rattle.hw_port_laws.proofs.Eachs.{Each, all_of_each}
use Rattle.hw_port_model.specs.Numbers.{horizon_of, is_outgoing, whole}
use Rattle.hw_port_model.specs.Drafts.{allowed, allowed_draft, carried, depth_of, draft_at, floating, height_for_pass, may_sail, loaded, sailing, sailing_draft, ship_value, value}
use Rattle.hw_port_model.specs.Permitted.{Stays}
use Rattle.hw_draft.specs.declared.passage.Passage.{Passage}
use Rattle.hw_draft.specs.Laws.{IsLimited}
use Rattle.hw_draft.specs.Passages.{limit_name, limiting_passage, passage_of, under_keel}
use Rattle.hw_draft.proofs.Limits.{limits_law}
use Rattle.hw_port_dates.specs.Moments.{moment_after, start_of}
use Rattle.hw_port_dates.proofs.Moments.{counts_law}
use Rattle.hw_port_dates.proofs.Texts.{start_kept}
use Rattle.hw_port_csv.specs.Fields.{centimetres, tonnes}
use Rattle.hw_port_csv.specs.Laws.{IsToldOf, RecordsAreTrue, TimesAreTrue}
use Rattle.hw_port_csv.specs.Passes.{clearance_of, keel_at}
use Rattle.hw_port_csv.specs.Sailings.{figure_fields, limit_of, minutes_text, sailing_fields, time_text}
use Rattle.hw_port_csv.specs.Tables.{course_fields, empty_fields, sailing_of_entry}

-- ---- when

pub times_law : TimesAreTrue
times_law = record {
  dated = λ p slot start is kept. let c = counts_law (start_of start) (slot * whole p.slot_minutes) (start_kept start kept) in record { moment = moment_after start (slot * whole p.slot_minutes); exists = c.moment; later = c.count; written = ap (λ o. minutes_text o (slot * whole p.slot_minutes)) is };
  counted = λ p slot is. ap (λ o. minutes_text o (slot * whole p.slot_minutes)) is;
}

-- ---- the drafts

-- the water keeps the ship at this draft, at which it floats
record Floats (s : ShipParts) (o usable : Option ℤ) : Type 0 where
  most : ℤ
  allowed : o ≡ Some most
  used : usable ≡ Some most
  light : s.light ≤ℤ most

floats_by : (b : Bool) (s : ShipParts) (a : ℤ) → int_lt a s.light ≡ b → IsSome (option_map (carried s) (cond b None (Some a))) → Floats s (Some a) (cond b None (Some a))
floats_by true s a e some = absurd cc
floats_by false s a e some = record { most = a; allowed = refl; used = refl; light = grind (arith, ints, e) }

usable_by : (w : Bool) (s : ShipParts) (o : Option ℤ) → IsSome (option_map (carried s) (cond w (option_and_then (floating s) o) None)) → Floats s o (cond w (option_and_then (floating s) o) None)
usable_by false s o some = absurd cc
usable_by true s None some = absurd cc
usable_by true s (Some a) some = floats_by (int_lt a s.light) s a refl some

loaded_by : (b : Bool) (light deep a : ℤ) → light ≤ℤ a → cond b (int_min deep a) light ≤ℤ a
loaded_by true light deep a le = grind (arith, ints)
loaded_by false light deep a le = le

enough_by : (depth height clearance draft a : ℤ) → depth +ℤ height -ℤ clearance ≡ a → draft ≤ℤ a → clearance ≤ℤ (depth +ℤ height -ℤ draft)
enough_by depth height clearance draft a e le = omega (arith, ints, e, le)

-- the water that is left keeps the clearance of a pass
keeps_clearance : (p : Parts) (h : TideParts) (slot : ℕ) (draft a : ℤ) (pass : Pass) → draft_at p h slot pass ≡ a → draft ≤ℤ a → (passage_of p h slot pass).clearance ≤ℤ under_keel (passage_of p h slot pass) draft
unfolding passage_of
keeps_clearance p h slot draft a pass e le = enough_by (depth_of p.waypoints pass) (height_for_pass p h slot pass) pass.clearance draft a e le

limit_keeps : (p : Parts) (h : TideParts) (s : ShipParts) (slot : ℕ) (draft a : ℤ) (l : IsLimited p h s slot a) → draft ≤ℤ a → l.limit.clearance ≤ℤ under_keel l.limit draft
limit_keeps p h s slot draft a l le = subst (λ (m : Passage). m.clearance ≤ℤ under_keel m draft) (sym l.leaves.is) (keeps_clearance p h slot draft a l.leaves.pass l.leaves.leaves le)

-- ---- the fields

module _ (p : Parts) (h : TideParts) (v slot : ℕ) (s : ShipParts) where
  -- by what they show
  abbrev fields_by : Option ℤ → Option ℤ → Option Passage → Option ℕ → List (List ℕ)
  fields_by draft most limit cargo =
      decimal slot ∷ time_text p slot ∷ centimetres draft ∷ centimetres most ∷ limit_name p limit ∷ centimetres (keel_at draft limit)
      ∷ centimetres (clearance_of limit) ∷ tonnes cargo ∷ []

  fields_same : {a b c d : Option ℤ} {l m : Option Passage} {x y : Option ℕ} → a ≡ b → c ≡ d → l ≡ m → x ≡ y → fields_by a c l x ≡ fields_by b d m y
  fields_same {b = b} {c = c} {d = d} {l = l} {m = m} {x = x} e f g k =
      ap (λ o. fields_by o c l x) e ∙ ap (λ o. fields_by b o l x) f ∙ ap (λ o. fields_by b d o x) g ∙ ap (λ o. fields_by b d m o) k

  told_by : slice_get p.ships v ≡ Some s → Floats s (allowed_draft p h s slot) (cond (may_sail p s slot) (option_and_then (floating s) (allowed_draft p h s slot)) None) → IsToldOf p h s slot (figure_fields (record { port = p; tide = h; number = v; ship = s; slot = slot }))
  told_by there f =
      let a = (least_draft_law p h s slot f.most).0 f.allowed in
      let l = limits_law p h s slot f.most a in
      let sails : sailing_draft p h s slot ≡ Some (loaded s f.most) = ap (option_map (loaded s)) f.used in
      let carries : ship_value p h s slot ≡ Some (carried s f.most) = ap (option_map (carried s)) f.used in
      let most : allowed p h v slot ≡ Some f.most = ap (option_and_then (λ (r : ShipParts). allowed_draft p h r slot)) there ∙ f.allowed in
      let draft : sailing p h v slot ≡ Some (loaded s f.most) = ap (option_and_then (λ (r : ShipParts). sailing_draft p h r slot)) there ∙ sails in
      let cargo : value p h v slot ≡ Some (carried s f.most) = ap (option_and_then (λ (r : ShipParts). ship_value p h r slot)) there ∙ carries in
      let limit : limit_of (record { port = p; tide = h; number = v; ship = s; slot = slot }) ≡ Some l.limit = ap (option_and_then (λ (r : ShipParts). limiting_passage p h r slot)) there ∙ l.is in
      record {
        draft = loaded s f.most;
        sails = sails;
        most = f.most;
        allowed = a;
        limited = l;
        enough = limit_keeps p h s slot (loaded s f.most) f.most l (loaded_by (is_outgoing s) s.light s.deep f.most f.light);
        cargo = carried s f.most;
        carries = carries;
        told = fields_same draft most limit cargo;
      }

sails_by : (p : Parts) (h : TideParts) (v slot : ℕ) (s : ShipParts) {A : Type 0} → slice_get p.ships v ≡ Some s → slot < horizon_of p → IsSome (ship_value p h s slot) ⊎ (Stays p slot × A) → IsToldOf p h s slot (figure_fields (record { port = p; tide = h; number = v; ship = s; slot = slot }))
sails_by p h v slot s there lt (inl some) = told_by p h v slot s there (usable_by (may_sail p s slot) s (allowed_draft p h s slot) some)
sails_by p h v slot s there lt (inr stays) = let e = stays.0 in absurd (omega (arith, lt, e))

-- ---- a ship that stays

each_empty : (waypoints : List Waypoint) → Each (λ (field : List ℕ). field ≡ []) (map (λ w. []) waypoints)
each_empty [] = tt
each_empty (w ∷ more) = (refl, each_empty more)

empty_by : (b : Bool) (fields : List (List ℕ)) (waypoints : List Waypoint) → b ≡ false → Each (λ (field : List ℕ). field ≡ []) (cond b fields (empty_fields waypoints))
empty_by true fields waypoints e = absurd cc
empty_by false fields waypoints e = (refl, (refl, (refl, (refl, (refl, (refl, (refl, (refl, each_empty waypoints))))))))

pub told_law : RecordsAreTrue
told_law = record {
  sails = λ p h table v slot s permits is. sails_by p h v slot s is.ship is.sails (permits.sails v s slot (record { ship = is.ship; given = is.given }));
  stays = λ p h e is. all_of_each (λ (field : List ℕ). field ≡ []) (course_fields p h e) (empty_by (nat_lt e.slot (horizon_of p)) (sailing_fields (sailing_of_entry p h e)) p.waypoints (le-ltb e.slot (horizon_of p) (omega (arith, is))));
}
