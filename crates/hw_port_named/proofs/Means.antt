-- What each restriction of a port says of timetables, by the rule that stands for it.
use Rattle.std.proofs.Common.{◌≡◌, ◌⊎◌, ◌↔◌, ℕ, ◌+◌, ◌<◌, ◌≤◌, pos, ◌-ℤ◌, true, List, [], ◌∷◌, sum_by, zip, IsTrue, sym, ap, ◌∙◌, subst, arith}
use Rattle.hw_model.specs.declared.rule.Job.{Job}
use Rattle.hw_model.specs.declared.rule.Rule.{Rule}
use Rattle.hw_model.specs.declared.rule.Rule.TheVariants as rules
use Rattle.hw_model.specs.Problem.{Problem, horizon}
use Rattle.hw_model.specs.Rules.{rule_holds, held_by}
use Rattle.hw_port.specs.declared.parts.BerthPair.{BerthPair}
use Rattle.hw_port.specs.declared.parts.AfterPair.{AfterPair}
use Rattle.hw_port.specs.Kept.{ShipKept, PortKept}
use Rattle.hw_port.specs.Parts.{ShipParts}
use Rattle.hw_port.specs.Whole.{Parts}
use Rattle.hw_tide.specs.Levels.{TideParts}
use Rattle.hw_port_model.specs.Numbers.{whole, horizon_of, separation_of}
use Rattle.hw_port_model.specs.Timetables.{IsPortTimetable, slot_of}
use Rattle.hw_port_model.specs.Permitted.{tugs_held}
use Rattle.hw_port_model.specs.Flattened.{separation_hole, shared_holes, berth_rule, after_rule, jobs_from, tug_rule, flattened}
use Rattle.hw_port_laws.proofs.Eachs.{Each}
use Rattle.hw_port_laws.proofs.Rows.{horizon_is}
use Rattle.hw_port_laws.proofs.Holes.{gap_kept}
use Rattle.hw_port_laws.proofs.Tugs.{tugs_from, from_tugs}
use Rattle.hw_port_laws.proofs.Ships.{ship_kept, slot_most}
use Rattle.hw_port_laws.proofs.Wholes.{within}
use Rattle.hw_port_laws.proofs.Permits.{after_by, by_after as after_gives, tugs_same}
use Rattle.hw_port_named.specs.declared.named.Named.{Named}
use Rattle.hw_port_named.specs.declared.named.Named.TheVariants.{Sections, Tugs}
use Rattle.hw_port_named.specs.Restrictions.{separation, berth_named, after_named, shared_sections}
use Rattle.hw_port_named.specs.Meaning.{IsCleared, SailsLater, FleetSuffices, NamedHolds, IsRule, hole_apart, IsNamed}
use Rattle.hw_port_named.proofs.Parallel.{Stands, by_separation, by_sections, by_berth, by_after, by_tugs, as_many}
use Rattle.hw_port_named.proofs.Windows.{sail_apart, apart_holds, never_meet, meeting_holds}

-- ---- berths

abbrev ClearedBy : ℕ → ℕ → ℕ → ℕ → Type 0
ClearedBy x y gap n = (y ≡ n) ⊎ ((x < n) × (y < n) × (x + gap ≤ y))

cleared_holds : (p : Parts) (h : TideParts) (table : List ℕ) (b : BerthPair) → IsCleared p (slot_of table b.outgoing) (slot_of table b.incoming) (whole b.clear) → rule_holds (flattened p h) table (berth_rule b) ≡ true
cleared_holds p h table b cleared = after_by (horizon (flattened p h)) (slot_of table b.outgoing) (slot_of table b.incoming) (whole b.clear) (subst (ClearedBy (slot_of table b.outgoing) (slot_of table b.incoming) (whole b.clear)) (sym (horizon_is p h)) cleared)

is_cleared : (p : Parts) (h : TideParts) (table : List ℕ) (b : BerthPair) → IsPortTimetable p table → rule_holds (flattened p h) table (berth_rule b) ≡ true → IsCleared p (slot_of table b.outgoing) (slot_of table b.incoming) (whole b.clear)
is_cleared p h table b listed holds =
    let most : slot_of table b.incoming ≤ horizon_of p = slot_most p table (whole b.incoming) listed in
    subst (ClearedBy (slot_of table b.outgoing) (slot_of table b.incoming) (whole b.clear)) (horizon_is p h) (after_gives (horizon (flattened p h)) (slot_of table b.outgoing) (slot_of table b.incoming) (whole b.clear) (omega (arith, most, horizon_is p h)) holds)

-- ---- ships after others

later_holds : (p : Parts) (h : TideParts) (table : List ℕ) (a : AfterPair) → SailsLater p (slot_of table a.first) (slot_of table a.second) (whole a.gap) → rule_holds (flattened p h) table (after_rule a) ≡ true
later_holds p h table a later = after_by (horizon (flattened p h)) (slot_of table a.first) (slot_of table a.second) (whole a.gap) (subst (ClearedBy (slot_of table a.first) (slot_of table a.second) (whole a.gap)) (sym (horizon_is p h)) later)

sails_later : (p : Parts) (h : TideParts) (table : List ℕ) (a : AfterPair) → IsPortTimetable p table → rule_holds (flattened p h) table (after_rule a) ≡ true → SailsLater p (slot_of table a.first) (slot_of table a.second) (whole a.gap)
sails_later p h table a listed holds =
    let most : slot_of table a.second ≤ horizon_of p = slot_most p table (whole a.second) listed in
    subst (ClearedBy (slot_of table a.first) (slot_of table a.second) (whole a.gap)) (horizon_is p h) (after_gives (horizon (flattened p h)) (slot_of table a.first) (slot_of table a.second) (whole a.gap) (omega (arith, most, horizon_is p h)) holds)

-- ---- tugs

-- a rule by its jobs, of which there may be none
each_of : (f : Problem) (table : List ℕ) (fleet : ℕ) (jobs : List Job) → rule_holds f table (rules.Tugs fleet [] jobs) ≡ true → Each (λ rule. rule_holds f table rule ≡ true) (tug_rule fleet jobs)
each_of f table fleet [] h = tt
each_of f table fleet (job ∷ jobs) h = (h, tt)

fleet_suffices : (p : Parts) (h : TideParts) (table : List ℕ) → IsPortTimetable p table → rule_holds (flattened p h) table (rules.Tugs (whole p.fleet) [] (jobs_from p 0 p.ships)) ≡ true → FleetSuffices p table (whole p.fleet)
fleet_suffices p h table listed holds slot lt =
    let le = tugs_from (flattened p h) table (whole p.fleet) (jobs_from p 0 p.ships) (each_of (flattened p h) table (whole p.fleet) (jobs_from p 0 p.ships) holds) slot (omega (arith, lt, horizon_is p h)) in
    let same = tugs_same p table slot listed.each_ship lt in
    omega (arith, le, same)

of_each : (f : Problem) (table : List ℕ) (fleet : ℕ) (job : Job) (jobs : List Job) → Each (λ rule. rule_holds f table rule ≡ true) (tug_rule fleet (job ∷ jobs)) → rule_holds f table (rules.Tugs fleet [] (job ∷ jobs)) ≡ true
of_each f table fleet job jobs h = h.0

fleet_holds : (p : Parts) (h : TideParts) (table : List ℕ) (job : Job) (jobs : List Job) → IsPortTimetable p table → jobs_from p 0 p.ships ≡ job ∷ jobs → FleetSuffices p table (whole p.fleet) → rule_holds (flattened p h) table (rules.Tugs (whole p.fleet) [] (job ∷ jobs)) ≡ true
fleet_holds p h table job jobs listed are suffices = of_each (flattened p h) table (whole p.fleet) job jobs (from_tugs (flattened p h) table (whole p.fleet) (job ∷ jobs) (λ slot lt.
    let in' : slot < horizon_of p = omega (arith, lt, horizon_is p h) in
    let same = subst (λ js. sum_by (held_by table slot) js ≡ sum_by (tugs_held p slot) (zip p.ships table)) are (tugs_same p table slot listed.each_ship in') in
    let le = suffices slot in' in
    omega (arith, same, le)))

-- ---- each kind

abbrev Says : Parts → TideParts → List ℕ → Named → Rule → Type 0
Says p h table named rule = IsTrue (rule_holds (flattened p h) table rule) ↔ NamedHolds p h table named

pub stands_means : (p : Parts) (h : TideParts) (table : List ℕ) (named : Named) (rule : Rule) → PortKept p → IsPortTimetable p table → Stands p named rule → Says p h table named rule
stands_means p h table named rule kept listed (by_separation v w s r e d same is rule_is) =
    let says : Says p h table (separation p v s w r) (rules.Pair v w (separation_hole p s r ∷ [])) = (sail_apart p h table v w s r kept e d, apart_holds p h table v w s r kept listed e d) in
    subst (λ n. Says p h table n rule) (sym is) (subst (Says p h table (separation p v s w r)) (sym rule_is) says)
stands_means p h table named rule kept listed (by_sections v w s r e d opposite is rule_is) =
    let says : Says p h table (Sections v w (shared_sections s.channel r.channel)) (rules.Pair v w (shared_holes s.channel r.channel)) = (never_meet p h table v w s r kept e d, meeting_holds p h table v w s r kept listed e d) in
    subst (λ n. Says p h table n rule) (sym is) (subst (Says p h table (Sections v w (shared_sections s.channel r.channel))) (sym rule_is) says)
stands_means p h table named rule kept listed (by_berth b is rule_is) =
    let says : Says p h table (berth_named b) (berth_rule b) = (is_cleared p h table b listed, cleared_holds p h table b) in
    subst (λ n. Says p h table n rule) (sym is) (subst (Says p h table (berth_named b)) (sym rule_is) says)
stands_means p h table named rule kept listed (by_after a is rule_is) =
    let says : Says p h table (after_named a) (after_rule a) = (sails_later p h table a listed, later_holds p h table a) in
    subst (λ n. Says p h table n rule) (sym is) (subst (Says p h table (after_named a)) (sym rule_is) says)
stands_means p h table named rule kept listed (by_tugs job jobs are is rule_is) =
    let says : Says p h table (Tugs (whole p.fleet)) (rules.Tugs (whole p.fleet) [] (job ∷ jobs)) = (λ holds. fleet_suffices p h table listed (subst (λ js. rule_holds (flattened p h) table (rules.Tugs (whole p.fleet) [] js) ≡ true) (sym are) holds), fleet_holds p h table job jobs listed are) in
    subst (λ n. Says p h table n rule) (sym is) (subst (Says p h table (Tugs (whole p.fleet))) (sym rule_is) says)

-- ---- the very rule

hole_is : (p : Parts) (s r : ShipParts) → PortKept p → ShipKept p s → ShipKept p r → separation_hole p s r ≡ hole_apart (whole (separation_of p s r)) (whole (separation_of p r s))
hole_is p s r kept ks kr =
    let after = (within 1 512 (separation_of p s r) (gap_kept p s r kept ks kr)).0 in
    let before = (within 1 512 (separation_of p r s) (gap_kept p r s kept kr ks)).0 in
    ap (λ a. record { lo = pos 1 -ℤ separation_of p r s; hi = a -ℤ pos 1 }) after ∙ ap (λ b. record { lo = pos 1 -ℤ b; hi = pos (whole (separation_of p s r)) -ℤ pos 1 }) before

pub stands_is : (p : Parts) (f : Problem) (number : ℕ) (named : Named) (rule : Rule) → PortKept p → IsRule f number rule → Stands p named rule → IsNamed f number named
stands_is p f number named rule kept there (by_separation v w s r e d same is rule_is) =
    let hole = hole_is p s r kept (ship_kept p v s kept e) (ship_kept p w r kept d) in
    let pair : rule ≡ rules.Pair v w (hole_apart (whole (separation_of p s r)) (whole (separation_of p r s)) ∷ []) = rule_is ∙ ap (λ h. rules.Pair v w (h ∷ [])) hole in
    subst (IsNamed f number) (sym is) (subst (IsRule f number) pair there)
stands_is p f number named rule kept there (by_sections v w s r e d opposite is rule_is) =
    let k = ship_kept p w r kept d in
    subst (IsNamed f number) (sym is) (shared_holes s.channel r.channel, as_many s.channel r.channel k.ascends, subst (IsRule f number) rule_is there)
stands_is p f number named rule kept there (by_berth b is rule_is) = subst (IsNamed f number) (sym is) (subst (IsRule f number) rule_is there)
stands_is p f number named rule kept there (by_after a is rule_is) = subst (IsNamed f number) (sym is) (subst (IsRule f number) rule_is there)
stands_is p f number named rule kept there (by_tugs job jobs are is rule_is) = subst (IsNamed f number) (sym is) (job ∷ jobs, subst (IsRule f number) rule_is there)
