-- Valid lines of a problem have a text that reads back as them.
use Rattle.std.proofs.Common.{◌≡◌, ◌==◌, ◌+◌, ◌^◌, ◌≤◌, ◌<◌, ◌&&◌, nat_lt, nat_le, ℕ, Bool, true, false, List, [], ◌∷◌, ◌++◌, length, map, Option, Some, None, All, IfSome, IsSome, refl, ap, ◌∙◌, arith}
use Rattle.std.proofs.lemmas.Bool.{and_parts, eq-eqb, lt-ltb, le-leb}
use Rattle.std.proofs.lemmas.List.Elements.{All-head, All-tail, All-weaker}
use Rattle.std.proofs.lemmas.List.Folds.{list_all-append}
use Rattle.std.specs.List.{list_all, flat_map, AllByRecursion}
use Rattle.hw_lemmas.specs.Operators.{◌or_else◌}
use Rattle.hw_model.specs.declared.lit.Lit.{Lit}
use Rattle.hw_model.specs.Limits.{IsFlat}
use Rattle.hw_model.specs.Problem.{Problem, shape_of}
use Rattle.hw_model_laws.proofs.Horizon.{few_slots}
use Rattle.hw_cert_lines.specs.declared.line.Line.{Line}
use Rattle.hw_cert_lines.specs.declared.line.Line.TheVariants as lines
use Rattle.hw_cert_lines.specs.Lines.{clause_of, clause_count, live}
use Rattle.hw_cert_lines.specs.Valid.{LineFits, ValidAfter, ValidFrom}
use Rattle.hw_cert_lines.proofs.Pushed.{one_more}
use Rattle.hw_cert_lines.proofs.Deleted.{live_in}
use Rattle.hw_cert_lines.proofs.Priced.{AreTolls, tolls_more, no_tolls}
use Rattle.hw_price_laws.specs.declared.tariff.Due.{Due}
use Rattle.hw_cert_lines.specs.Tolled.{tolls_of}
use Rattle.hw_price_laws.specs.declared.toll.Block.{Block}
use Rattle.hw_price_laws.specs.Tolls.{BlockFits}
use Rattle.hw_price_laws.specs.declared.toll.Toll.TheVariants as tolls
use Rattle.hw_cert_lines.proofs.Live.{live_above}
use Rattle.hw_cert.specs.declared.stop.FormWord.{FormWord}
use Rattle.hw_cert.specs.declared.stop.FormWord.TheVariants.{Form, Range}
use Rattle.hw_cert.specs.declared.version.Version.{Version}
use Rattle.hw_cert.specs.Fits.{word_unless, lit_fault, ascends, block_fits_shape}
use Rattle.hw_cert.specs.Laws.{lit_numbers, has_form, is_small, is_wide, IsLine}
use Rattle.hw_cert.proofs.WordBytes.{both_on}
use Rattle.hw_cert.proofs.SmallNumbers.{small, all_small, weaker, clause_small, ascending}
use Rattle.hw_cert.proofs.TollLimits.{wide_number, all_pass, block_on, risen, blocks_small, first_toll, tolls_small, prices_wide}

-- ---- numbers of lines

count_after : (before : List Line) (line : Line) (o : Option (List Lit)) → clause_of line ≡ o → IfSome o (λ clause. clause_count before + 1 < 2 ^ 32) → IfSome o (λ clause. clause_count (before ++ line ∷ []) ≡ clause_count before + 1) → (o ≡ None → clause_count (before ++ line ∷ []) ≡ clause_count before) → clause_count before < 2 ^ 32 → clause_count (before ++ line ∷ []) < 2 ^ 32
count_after before line None of numbered counted same lt = omega (arith, same refl, lt)
count_after before line (Some clause) of numbered counted same lt = omega (arith, counted, numbered)

count_more : (f : Problem) (before : List Line) (line : Line) → ValidAfter f before line → clause_count before < 2 ^ 32 → clause_count (before ++ line ∷ []) < 2 ^ 32
count_more f before line valid lt =
    let more = one_more f before line in
    count_after before line (clause_of line) refl valid.numbered more.counted more.uncounted lt

numbers_small : (before : List Line) (ids : List ℕ) → clause_count before < 2 ^ 32 → All (λ id. IsSome (live before id)) ids → list_all is_small ids ≡ true
numbers_small before ids lt all = all_small ids (weaker (λ id. IsSome (live before id)) (λ id. id < 2 ^ 32) ids (λ id some. omega (arith, live_in before id some, lt)) all)

-- ---- no bad word

holds : (word : FormWord) (b : Bool) → b ≡ true → word_unless word b ≡ None
holds word true e = refl
holds word false e = absurd cc

both_none : (a b : Option FormWord) → a ≡ None → b ≡ None → (a or_else b) ≡ None
both_none None b p q = q
both_none (Some word) b p q = absurd cc

all_on : (p : ℕ → Bool) (ns : List ℕ) → All (λ n. p n ≡ true) ns → list_all p ns ≡ true
all_on p [] all = refl
all_on p (n ∷ ns) all = both_on (p n) (list_all p ns) (All-head (λ n. p n ≡ true) n ns all) (all_on p ns (All-tail (λ n. p n ≡ true) n ns all))

-- ---- tolls and prices

-- lines have few enough clauses and tolls for another line
pub record IsFew (f : Problem) (before : List Line) : Type 0 where
  pub clauses : clause_count before < 2 ^ 32
  pub tolls : AreTolls f (tolls_of before)

-- a valid line of a problem, after valid ones, is a line of each version that has its form
pub is_line : (f : Problem) (version : Version) (before : List Line) (line : Line) → has_form version line ≡ true → IsFlat f → IsFew f before → LineFits f line → ValidAfter f before line → IsLine (shape_of f) version line
is_line f version before (lines.Table table) formed flat few fits valid = record {
  fits = holds Range _ (both_on (list_all (λ slot. nat_lt slot f.slots) table) (length table == f.ships) (all_on (λ slot. nat_lt slot f.slots) table (weaker (λ slot. slot < f.slots) (λ slot. nat_lt slot f.slots ≡ true) table (λ slot lt. lt-ltb slot f.slots lt) fits.each_slot)) (eq-eqb (length table) f.ships fits.each_ship));
  small = all_small table (weaker (λ slot. slot < f.slots) (λ slot. slot < 2 ^ 32) table (λ slot lt. omega (arith, lt, few_slots f flat)) fits.each_slot);
  wide = refl;
  formed = formed;
}
is_line f version before (lines.Explain n clause) formed flat few fits valid = record {
  fits = both_none _ _ (holds Range (nat_lt n (f.ships + length f.rules)) (lt-ltb n (f.ships + length f.rules) fits.0)) (ap lit_fault fits.1);
  small = both_on (is_small n) _ (small n (omega (arith, fits.0, flat.few_ships, flat.few_rules))) (clause_small f clause flat fits.1);
  wide = refl;
  formed = formed;
}
is_line f version before (lines.Order v w x clause) formed flat few fits valid = record {
  fits = both_none _ _ (holds Range (nat_lt v w && (nat_lt w x && nat_lt x f.ships)) (both_on (nat_lt v w) _ (lt-ltb v w fits.0) (both_on (nat_lt w x) (nat_lt x f.ships) (lt-ltb w x fits.1) (lt-ltb x f.ships fits.2)))) (ap lit_fault fits.3);
  small = both_on (is_small v) _ (small v (omega (arith, fits.0, fits.1, fits.2, flat.few_ships))) (both_on (is_small w) _ (small w (omega (arith, fits.1, fits.2, flat.few_ships))) (both_on (is_small x) _ (small x (omega (arith, fits.2, flat.few_ships))) (clause_small f clause flat fits.3)));
  wide = refl;
  formed = formed;
}
is_line f version before (lines.Goal clause) formed flat few fits valid = record { fits = ap lit_fault fits; small = clause_small f clause flat fits; wide = refl; formed = formed }
is_line f version before (lines.Lemma clause hints) formed flat few fits valid = record {
  fits = both_none _ _ (ap lit_fault fits) (holds Range _ (all_on (λ id. nat_lt 0 id) hints (weaker (λ id. IsSome (live before id)) (λ id. nat_lt 0 id ≡ true) hints (λ id some. lt-ltb 0 id (live_above before id some)) valid.claim.0)));
  small = list_all-append is_small (flat_map lit_numbers clause) hints ∙ both_on (list_all is_small (flat_map lit_numbers clause)) (list_all is_small hints) (clause_small f clause flat fits) (numbers_small before hints few.clauses valid.claim.0);
  wide = refl;
  formed = formed;
}
is_line f version before (lines.Delete ids) formed flat few fits valid = record {
  fits = holds Range _ (both_on (nat_lt 0 (length ids)) (ascends 0 ids) (lt-ltb 0 (length ids) fits.0) (ascending 0 ids (λ some. fits.1) fits.2));
  small = numbers_small before ids few.clauses valid.claim;
  wide = refl;
  formed = formed;
}
is_line f version before (lines.Toll (tolls.Narrows blocks)) formed flat few fits valid = record {
  fits = holds Range _ (both_on (nat_lt 0 (length blocks)) _ (lt-ltb 0 (length blocks) (omega (arith, fits.some_block))) (both_on (nat_le (length blocks) 40) _ (le-leb (length blocks) 40 fits.few_blocks)
      (both_on (list_all (block_fits_shape (shape_of f)) blocks) _ (all_pass (block_fits_shape (shape_of f)) blocks (All-weaker (BlockFits f) (λ (block : Block). block_fits_shape (shape_of f) block ≡ true) (λ block fit. block_on f block fit) blocks fits.each_block))
      (risen (map (λ (block : Block). block.ship) blocks) fits.ascend))));
  small = blocks_small f flat blocks fits.each_block;
  wide = refl;
  formed = formed;
}
is_line f version before (lines.Toll (tolls.Tugs n slot weights most)) formed flat few fits valid = record {
  fits = both_none _ _
      (holds Form _ (both_on (nat_le most 2_560) _ (le-leb most 2_560 fits.small_most) (all_on (λ weight. nat_le weight 64) weights (weaker (λ weight. weight ≤ 64) (λ weight. nat_le weight 64 ≡ true) weights (λ weight le. le-leb weight 64 le) fits.small_weights))))
      (holds Range _ (both_on (nat_le f.ships n) _ (le-leb f.ships n fits.past_ships) (both_on (nat_lt n (f.ships + length f.rules)) _ (lt-ltb n (f.ships + length f.rules) fits.restriction_in)
      (both_on (nat_lt slot f.slots) _ (lt-ltb slot f.slots fits.slot_in) (le-leb (length weights) 40 fits.few_weights)))));
  small = both_on (is_small n) _ (small n (omega (arith, fits.restriction_in, flat.few_ships, flat.few_rules))) (both_on (is_small slot) _ (small slot (omega (arith, fits.slot_in, few_slots f flat)))
      (both_on (is_small most) _ (small most (omega (arith, fits.small_most))) (all_small weights (weaker (λ weight. weight ≤ 64) (λ weight. weight < 2 ^ 32) weights (λ weight le. omega (arith, le)) fits.small_weights))));
  wide = refl;
  formed = formed;
}
is_line f version before (lines.Tariff tariff) formed flat few fits valid = record {
  fits = both_none _ _
      (holds Form _ (both_on (nat_le tariff.scale 1_000_000) _ (le-leb tariff.scale 1_000_000 fits.small_scale)
      (all_pass (λ (due : Due). nat_le due.price 1_000_000_000_000_000_000) tariff.dues (All-weaker (λ (due : Due). due.price ≤ 1_000_000_000_000_000_000) (λ (due : Due). nat_le due.price 1_000_000_000_000_000_000 ≡ true) (λ due le. le-leb due.price 1_000_000_000_000_000_000 le) tariff.dues fits.small_prices))))
      (holds Range _ (ascending 0 (map (λ (due : Due). due.toll) tariff.dues) (λ some. first_toll tariff.dues fits.from_one some) fits.ascend));
  small = both_on (is_small tariff.scale) _ (small tariff.scale (omega (arith, fits.small_scale))) (tolls_small (length (tolls_of before)) tariff.dues few.tolls.few valid.claim);
  wide = prices_wide tariff.dues fits.small_prices;
  formed = formed;
}
is_line f version before (lines.Priced clause) formed flat few fits valid = record { fits = ap lit_fault fits; small = clause_small f clause flat fits; wide = refl; formed = formed }
is_line f version before (lines.Bound bound) formed flat few fits valid = record {
  fits = holds Form _ (le-leb bound 40_000_000_000_000 fits);
  small = refl;
  wide = both_on (is_wide bound) true (wide_number bound (omega (arith, fits))) refl;
  formed = formed;
}

few_more : (f : Problem) (before : List Line) (line : Line) → ValidAfter f before line → IsFew f before → IsFew f (before ++ line ∷ [])
few_more f before line valid few = record { clauses = count_more f before line valid few.clauses; tolls = tolls_more f before line valid few.tolls }

pub none_few : (f : Problem) → IsFew f []
none_few f = record { clauses = omega arith; tolls = no_tolls f }

pub are_lines : (f : Problem) (version : Version) (more before : List Line) → list_all (has_form version) more ≡ true → IsFlat f → IsFew f before → All (LineFits f) more → ValidFrom f before more → AllByRecursion (IsLine (shape_of f) version) more
are_lines f version [] before formed flat few fits valid = tt
are_lines f version (line ∷ more) before formed flat few fits valid =
    let p = and_parts (has_form version line) (list_all (has_form version) more) formed in (
      is_line f version before line p.0 flat few (All-head (LineFits f) line more fits) valid.0,
      are_lines f version more (before ++ line ∷ []) p.1 flat (few_more f before line valid.0 few) (All-tail (LineFits f) line more fits) valid.1,
    )
