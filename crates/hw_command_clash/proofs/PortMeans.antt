-- A clash of a port's flat problem and of wishes, in the port's own words.
use Rattle.std.proofs.Common.{◌≡◌, ℕ, ◌+◌, ◌-◌, ◌<◌, ◌≤◌, List, Option, Some, None, All, IsTrue, slice_get, get_or, length, not, ◌==◌, inl, inr, refl, sym, subst, arith}
use Rattle.std.specs.Prelude.{IsSomeAnd}
use Rattle.std.proofs.lemmas.Bool.{cases_lt}
use Rattle.std.proofs.lemmas.List.Elements.{All-weaker, All-get_or, All-from_get_or, All-filter}
use Rattle.hw_lemmas.proofs.Lists.{get_within, has_get}
use Rattle.hw_model.specs.Timetables.{NonePermitted, restriction_count}
use Rattle.hw_port.specs.Kept.{PortKept}
use Rattle.hw_port.specs.Whole.{Parts}
use Rattle.hw_tide.specs.Levels.{TideParts}
use Rattle.hw_port_model.specs.Flattened.{flattened}
use Rattle.hw_port_model.specs.Timetables.{IsPortTimetable}
use Rattle.hw_audit.proofs.Begun.{of_port, to_port}
use Rattle.hw_clash.specs.Clashes.{Clash}
use Rattle.hw_clash.specs.Clashing.{without_number}
use Rattle.hw_clash.specs.Parts.{part, Meets}
use Rattle.hw_clash.specs.Read.{SaysClash}
use Rattle.hw_clash.specs.Wished.{is_granted, with_wishes, wished_count, wished_holds, wish_holds}
use Rattle.hw_clash.proofs.Parts.{part_permits, below, wish_is}
use Rattle.hw_clash.proofs.Wishes.{wish_granted, granted_wish}
use Rattle.hw_port_named.specs.declared.named.Named.{Named}
use Rattle.hw_port_named.specs.Meaning.{NamedHolds}
use Rattle.hw_port_named.specs.Restrictions.{named_restrictions}
use Rattle.hw_port_named.proofs.Numbers.{each_is_named, named_means}
use Rattle.hw_repair.specs.Wishes.{Grants}
use Rattle.hw_repair.specs.declared.plan.Wish.{Wish}
use Rattle.hw_command_clash.specs.PortWords.{WishHolds, LineHolds, MeetsLines, IsPortClash, IsPortDrops}

-- ---- one restriction

line_holds : (p : Parts) (h : TideParts) (wishes : List Wish) (table : List ℕ) (n : ℕ) → PortKept p → length wishes ≤ (flattened p h).ships → IsPortTimetable p table → n < wished_count (with_wishes (flattened p h) wishes) → IsTrue (wished_holds (with_wishes (flattened p h) wishes) table n) → LineHolds p h wishes table n
line_holds p h wishes table n kept few listed lt holds =
    let f = with_wishes (flattened p h) wishes in
    let many : length (named_restrictions p) ≡ restriction_count (flattened p h) = each_is_named p h kept in
    elim (cases_lt n (restriction_count (flattened p h))) [
      | inl within ↦
          let line = has_get (named_restrictions p) n (omega (arith, within, many)) in
          inl (subst (λ (o : Option Named). IsSomeAnd o (NamedHolds p h table)) (sym line.1) ((named_means p h table n line.0 kept listed line.1).0 (subst (λ b. IsTrue b) (below f table n within) holds)))
      | inr past ↦
          let ship : ℕ = n - restriction_count (flattened p h) in
          let there : ship < length wishes = omega (arith, past, lt) in
          let wish = has_get wishes ship there in
          let is : IsTrue (wish_holds f table ship) = subst (λ b. IsTrue b) (wish_is f table n past) holds in
          let in' : ship < length table = omega (arith, there, few, (of_port p h table listed).each_ship) in
          let granted : Grants wish.0 (get_or table ship 0) = granted_wish wish.0 table ship in' (subst (λ o. IsTrue (is_granted o (slice_get table ship))) wish.1 is) in
          let this : WishHolds wishes table ship = subst (λ (o : Option Wish). IsSomeAnd o (λ wish. Grants wish (get_or table ship 0))) (sym wish.1) granted in
          inr (omega (arith, past, many), subst (λ (m : ℕ). WishHolds wishes table (n - m)) (sym many) this)
    ]

holds_line : (p : Parts) (h : TideParts) (wishes : List Wish) (table : List ℕ) (n : ℕ) → PortKept p → IsPortTimetable p table → LineHolds p h wishes table n → IsTrue (wished_holds (with_wishes (flattened p h) wishes) table n)
holds_line p h wishes table n kept listed holds = elim holds [
  | inl named ↦ by_line (slice_get (named_restrictions p) n) refl named
  | inr wish ↦
      let many : length (named_restrictions p) ≡ restriction_count (flattened p h) = each_is_named p h kept in
      let past : restriction_count (flattened p h) ≤ n = omega (arith, wish.0, many) in
      subst (λ b. IsTrue b) (sym (wish_is (with_wishes (flattened p h) wishes) table n past)) (by_wish (n - restriction_count (flattened p h)) (slice_get wishes (n - restriction_count (flattened p h))) refl (subst (λ (m : ℕ). WishHolds wishes table (n - m)) many wish.1))
]
  where
    by_line : (o : Option Named) → slice_get (named_restrictions p) n ≡ o → IsSomeAnd o (NamedHolds p h table) → IsTrue (wished_holds (with_wishes (flattened p h) wishes) table n)
    by_line None e is = absurd is
    by_line (Some line) e is =
        let within : n < restriction_count (flattened p h) = omega (arith, get_within (named_restrictions p) n line e, each_is_named p h kept) in
        subst (λ b. IsTrue b) (sym (below (with_wishes (flattened p h) wishes) table n within)) ((named_means p h table n line kept listed e).1 is)

    by_wish : (ship : ℕ) (o : Option Wish) → slice_get wishes ship ≡ o → IsSomeAnd o (λ wish. Grants wish (get_or table ship 0)) → IsTrue (is_granted o (slice_get table ship))
    by_wish ship None e is = absurd is
    by_wish ship (Some wish) e is = wish_granted wish table ship is

-- ---- several

meets_lines : (p : Parts) (h : TideParts) (wishes : List Wish) (numbers table : List ℕ) → PortKept p → length wishes ≤ (flattened p h).ships → All (λ n. n < wished_count (with_wishes (flattened p h) wishes)) numbers → Meets (with_wishes (flattened p h) wishes) numbers table → MeetsLines p h wishes numbers table
meets_lines p h wishes numbers table kept few numbered meets =
    let f = with_wishes (flattened p h) wishes in
    let listed = to_port p h table meets.listed in
    record {
      listed = listed;
      holds = All-from_get_or (LineHolds p h wishes table) numbers 0 (λ i lt. line_holds p h wishes table (get_or numbers i 0) kept few listed (All-get_or (λ n. n < wished_count f) numbers i 0 lt numbered) (All-get_or (λ n. IsTrue (wished_holds f table n)) numbers i 0 lt meets.holds));
    }

lines_meet : (p : Parts) (h : TideParts) (wishes : List Wish) (numbers table : List ℕ) → PortKept p → MeetsLines p h wishes numbers table → Meets (with_wishes (flattened p h) wishes) numbers table
lines_meet p h wishes numbers table kept meets = record {
  listed = of_port p h table meets.listed;
  holds = All-weaker (LineHolds p h wishes table) (λ n. IsTrue (wished_holds (with_wishes (flattened p h) wishes) table n)) (λ n is. holds_line p h wishes table n kept meets.listed is) numbers meets.holds;
}

-- ---- the clash

-- each kept restriction has a timetable that meets the others
pub port_drops : (p : Parts) (h : TideParts) (wishes : List Wish) (clash : Clash) → PortKept p → length wishes ≤ (flattened p h).ships → SaysClash (with_wishes (flattened p h) wishes) clash → IsPortDrops p h wishes clash.kept clash.drops
port_drops p h wishes clash kept few says =
    let f = with_wishes (flattened p h) wishes in
    let many : length (named_restrictions p) ≡ restriction_count (flattened p h) = each_is_named p h kept in
    record {
      some = says.some;
      numbered = All-weaker (λ n. n < wished_count f) (λ n. n < length (named_restrictions p) + length wishes) (λ n lt. omega (arith, lt, many)) clash.kept says.numbered;
      each_id = says.drops.each_id;
      met = λ place n table e d. meets_lines p h wishes (without_number n clash.kept) table kept few (All-filter (λ m. not (m == n)) (λ n. n < wished_count f) clash.kept says.numbered) ((part_permits f (without_number n clash.kept) table).0 (says.drops.met place n table e d));
    }

-- and nothing meets all of them
pub port_clash : (p : Parts) (h : TideParts) (wishes : List Wish) (clash : Clash) → PortKept p → length wishes ≤ (flattened p h).ships → SaysClash (with_wishes (flattened p h) wishes) clash → NonePermitted (part (with_wishes (flattened p h) wishes) clash.kept) → IsPortClash p h wishes clash.kept clash.drops
port_clash p h wishes clash kept few says none = record {
  clash = λ table meets. none table ((part_permits (with_wishes (flattened p h) wishes) clash.kept table).1 (lines_meet p h wishes clash.kept table kept meets));
  met = port_drops p h wishes clash kept few says;
}
