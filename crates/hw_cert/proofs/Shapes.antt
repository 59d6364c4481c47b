-- A line without a bad word is one of the problem's shape.
use Rattle.std.proofs.Common.{◌≡◌, ◌==◌, ◌<◌, ◌≤◌, ◌+◌, ◌&&◌, nat_lt, ℕ, zero, suc, Bool, true, false, List, [], ◌∷◌, length, map, Option, Some, None, Ok, refl, sym, ap, subst, arith}
use Rattle.std.proofs.lemmas.Bool.{ltb-true, leb-true, eqb-true, and_parts, lt-ltb}
use Rattle.std.proofs.lemmas.List.Elements.{All-nil, All-cons}
use Rattle.std.specs.Prelude.{All, slice_index, nat_le}
use Rattle.std.specs.List.{list_all}
use Rattle.hw_model.specs.Problem.{Problem, shape_of}
use Rattle.hw_model.specs.Lits.{BadLit, out_of_range, not_normal, first_bad}
use Rattle.hw_model.specs.declared.shape.Shape.{Shape}
use Rattle.hw_cert.specs.Fits.{word_unless, lit_fault, clause_fault, ascends, rises, block_fits_shape, weights_small, prices_small, first_fault, unless_bad, fitted, line_read}
use Rattle.hw_cert.specs.Spelled.{spelled}
use Rattle.std.specs.List.Sorted.{IsStrictlyIncreasing}
use Rattle.hw_lemmas.specs.Operators.{◌or_else◌}
use Rattle.hw_price_laws.specs.declared.toll.Block.{Block}
use Rattle.hw_price_laws.specs.Tolls.{BlockFits}
use Rattle.hw_cert_lines.specs.Valid.{LineFits}
use Rattle.hw_price_laws.specs.declared.tariff.Due.{Due}
use Rattle.hw_price_laws.specs.declared.toll.Toll.TheVariants as tolls
use Rattle.hw_cert_lines.specs.declared.line.Line.{Line}
use Rattle.hw_cert_lines.specs.declared.line.Line.TheVariants as lines
use Rattle.hw_cert.specs.declared.stop.FormWord.{FormWord}
use Rattle.hw_cert.specs.declared.stop.FormWord.TheVariants.{Form, Range}
use Rattle.hw_cert.specs.declared.version.Version.{Version}
use Rattle.hw_cert.proofs.WordBytes.{both_on}

all_below : (k : ℕ) (xs : List ℕ) → list_all (λ slot. nat_lt slot k) xs ≡ true → All (λ slot. slot < k) xs
all_below k [] h = All-nil (λ slot. slot < k)
all_below k (x ∷ xs) h = let p = and_parts (nat_lt x k) (list_all (λ slot. nat_lt slot k) xs) h in All-cons (λ slot. slot < k) x xs (ltb-true x k p.0) (all_below k xs p.1)

increasing : (before : ℕ) (ids : List ℕ) → ascends before ids ≡ true → (k : ℕ) → k + 1 < length ids → slice_index ids k < slice_index ids (k + 1)
increasing before [] h k lt = absurd (omega arith)
increasing before (n ∷ []) h k lt = absurd (omega arith)
increasing before (n ∷ m ∷ ms) h zero lt =
    let p = and_parts (nat_lt before n) (ascends n (m ∷ ms)) h in
    let q = and_parts (nat_lt n m) (ascends m ms) p.1 in
    ltb-true n m q.0
increasing before (n ∷ m ∷ ms) h (suc j) lt =
    let p = and_parts (nat_lt before n) (ascends n (m ∷ ms)) h in
    let e : suc j + 1 ≡ suc (j + 1) = omega arith in
    rw e (increasing n (m ∷ ms) p.1 j (omega arith))

first_above : (ids : List ℕ) → 0 < length ids → ascends 0 ids ≡ true → 0 < slice_index ids 0
first_above [] lt h = absurd (omega arith)
first_above (n ∷ ns) lt h = ltb-true 0 n (and_parts (nat_lt 0 n) (ascends n ns) h).0

kept : (b : Bool) (word : FormWord) → word_unless word b ≡ None → b ≡ true
kept true word h = refl
kept false word h = absurd cc

neither : (a b : Option FormWord) → (a or_else b) ≡ None → (a ≡ None) × (b ≡ None)
neither None b h = (refl, h)
neither (Some word) b h = absurd cc

no_bad : (o : Option BadLit) → lit_fault o ≡ None → o ≡ None
no_bad None h = refl
no_bad (Some (out_of_range place)) h = absurd cc
no_bad (Some (not_normal place)) h = absurd cc

-- numbers of which each but the first is above the one before it
rising : (ns : List ℕ) → rises ns ≡ true → IsStrictlyIncreasing ns
rising [] h = λ k lt. absurd (omega (arith, lt))
rising (n ∷ []) h = λ k lt. absurd (omega (arith, lt))
rising (zero ∷ m ∷ ms) h = λ k lt. first k lt
  where
    first : (k : ℕ) → k + 1 < length (zero ∷ m ∷ ms) → slice_index (zero ∷ m ∷ ms) k < slice_index (zero ∷ m ∷ ms) (k + 1)
    first zero lt = ltb-true zero m (and_parts (nat_lt zero m) (ascends m ms) h).0
    first (suc j) lt =
        let e : suc j + 1 ≡ suc (j + 1) = omega arith in
        rw e (increasing zero (m ∷ ms) h j (omega (arith, lt)))
rising (suc n ∷ m ∷ ms) h = λ k lt. increasing n (suc n ∷ m ∷ ms) (both_on (nat_lt n (suc n)) (ascends (suc n) (m ∷ ms)) (lt-ltb n (suc n) (omega arith)) h) k lt

-- a test of each element says so of each
each_passes : {A : Type 0} (p : A → Bool) (P : A → Type 0) → ((x : A) → p x ≡ true → P x) → (xs : List A) → list_all p xs ≡ true → All P xs
each_passes p P f [] h = All-nil P
each_passes p P f (x ∷ xs) h = let q = and_parts (p x) (list_all p xs) h in All-cons P x xs (f x q.0) (each_passes p P f xs q.1)

block_in : (f : Problem) (block : Block) → block_fits_shape (shape_of f) block ≡ true → BlockFits f block
block_in f block h =
    let p = and_parts (nat_lt block.ship f.ships) (nat_le block.low block.high && nat_lt block.high f.slots) h in
    let q = and_parts (nat_le block.low block.high) (nat_lt block.high f.slots) p.1 in
    record { ship_in = ltb-true block.ship f.ships p.0; ordered = leb-true block.low block.high q.0; slot_in = ltb-true block.high f.slots q.1 }

-- numbers from 1 on that ascend
from_one : (before : ℕ) (prices : List Due) → ascends before (map (λ (due : Due). due.toll) prices) ≡ true → All (λ (due : Due). 0 < due.toll) prices
from_one before [] h = All-nil (λ (due : Due). 0 < due.toll)
from_one before (due ∷ prices) h =
    let p = and_parts (nat_lt before due.toll) (ascends due.toll (map (λ (one : Due). one.toll) prices)) h in
    let above : before < due.toll = ltb-true before due.toll p.0 in
    All-cons (λ (one : Due). 0 < one.toll) due prices (omega (arith, above)) (from_one due.toll prices p.1)

pub fits_problem : (f : Problem) (line : Line) → first_fault (shape_of f) line ≡ None → LineFits f line
fits_problem f (lines.Table table) h =
    let p = and_parts (list_all (λ slot. nat_lt slot f.slots) table) (length table == f.ships) (kept _ Range h) in
    record { each_ship = eqb-true (length table) f.ships p.1; each_slot = all_below f.slots table p.0 }
fits_problem f (lines.Explain n clause) h =
    let p = neither (word_unless Range (nat_lt n (f.ships + length f.rules))) (clause_fault (shape_of f) clause) h in
    (ltb-true n (f.ships + length f.rules) (kept _ Range p.0), no_bad (first_bad (shape_of f) clause) p.1)
fits_problem f (lines.Order v w x clause) h =
    let p = neither (word_unless Range (nat_lt v w && (nat_lt w x && nat_lt x f.ships))) (clause_fault (shape_of f) clause) h in
    let q = and_parts (nat_lt v w) (nat_lt w x && nat_lt x f.ships) (kept _ Range p.0) in
    let r = and_parts (nat_lt w x) (nat_lt x f.ships) q.1 in
    (ltb-true v w q.0, ltb-true w x r.0, ltb-true x f.ships r.1, no_bad (first_bad (shape_of f) clause) p.1)
fits_problem f (lines.Goal clause) h = no_bad (first_bad (shape_of f) clause) h
fits_problem f (lines.Lemma clause hints) h =
    let p = neither (clause_fault (shape_of f) clause) (word_unless Range (list_all (λ id. nat_lt 0 id) hints)) h in
    no_bad (first_bad (shape_of f) clause) p.0
fits_problem f (lines.Delete ids) h =
    let p = and_parts (nat_lt 0 (length ids)) (ascends 0 ids) (kept _ Range h) in
    let some : 0 < length ids = ltb-true 0 (length ids) p.0 in
    (some, first_above ids some p.1, increasing 0 ids p.1)
fits_problem f (lines.Toll (tolls.Narrows blocks)) h =
    let ships : List ℕ = map (λ (block : Block). block.ship) blocks in
    let p = and_parts (nat_lt 0 (length blocks)) (nat_le (length blocks) 40 && (list_all (block_fits_shape (shape_of f)) blocks && rises ships)) (kept _ Range h) in
    let q = and_parts (nat_le (length blocks) 40) (list_all (block_fits_shape (shape_of f)) blocks && rises ships) p.1 in
    let r = and_parts (list_all (block_fits_shape (shape_of f)) blocks) (rises ships) q.1 in
    record {
      some_block = ltb-true 0 (length blocks) p.0;
      few_blocks = leb-true (length blocks) 40 q.0;
      each_block = each_passes (block_fits_shape (shape_of f)) (BlockFits f) (block_in f) blocks r.0;
      ascend = rising ships r.1;
    }
fits_problem f (lines.Toll (tolls.Tugs n slot weights most)) h =
    let p = neither (word_unless Form (weights_small most weights)) (word_unless Range (nat_le f.ships n && (nat_lt n (f.ships + length f.rules) && (nat_lt slot f.slots && nat_le (length weights) 40)))) h in
    let s = and_parts (nat_le most 2_560) (list_all (λ weight. nat_le weight 64) weights) (kept _ Form p.0) in
    let a = and_parts (nat_le f.ships n) (nat_lt n (f.ships + length f.rules) && (nat_lt slot f.slots && nat_le (length weights) 40)) (kept _ Range p.1) in
    let b = and_parts (nat_lt n (f.ships + length f.rules)) (nat_lt slot f.slots && nat_le (length weights) 40) a.1 in
    let c = and_parts (nat_lt slot f.slots) (nat_le (length weights) 40) b.1 in
    record {
      past_ships = leb-true f.ships n a.0;
      restriction_in = ltb-true n (f.ships + length f.rules) b.0;
      slot_in = ltb-true slot f.slots c.0;
      small_most = leb-true most 2_560 s.0;
      few_weights = leb-true (length weights) 40 c.1;
      small_weights = each_passes (λ weight. nat_le weight 64) (λ weight. weight ≤ 64) (λ weight e. leb-true weight 64 e) weights s.1;
    }
fits_problem f (lines.Tariff tariff) h =
    let numbers : List ℕ = map (λ (due : Due). due.toll) tariff.dues in
    let p = neither (word_unless Form (prices_small tariff.scale tariff.dues)) (word_unless Range (ascends 0 numbers)) h in
    let s = and_parts (nat_le tariff.scale 1_000_000) (list_all (λ (due : Due). nat_le due.price 1_000_000_000_000_000_000) tariff.dues) (kept _ Form p.0) in
    let up = kept _ Range p.1 in
    record {
      small_scale = leb-true tariff.scale 1_000_000 s.0;
      from_one = from_one 0 tariff.dues up;
      ascend = increasing 0 numbers up;
      small_prices = each_passes (λ (due : Due). nat_le due.price 1_000_000_000_000_000_000) (λ (due : Due). due.price ≤ 1_000_000_000_000_000_000) (λ due e. leb-true due.price 1_000_000_000_000_000_000 e) tariff.dues s.1;
    }
fits_problem f (lines.Priced clause) h = no_bad (first_bad (shape_of f) clause) h
fits_problem f (lines.Bound bound) h = leb-true bound 40_000_000_000_000 (kept _ Form h)

pub refused_ok : (line : Line) (o : Option FormWord) (l : Line) → unless_bad line o ≡ Ok l → (o ≡ None) × (line ≡ l)
refused_ok line None l h = (refl, cc)
refused_ok line (Some word) l h = absurd cc

-- a line that is read has its form and no bad word
pub fitted_ok : (shape : Shape) (o : Option Line) (l : Line) → fitted shape o ≡ Ok l → (o ≡ Some l) × (first_fault shape l ≡ None)
fitted_ok shape None l h = absurd cc
fitted_ok shape (Some line) l h =
    let p = refused_ok line (first_fault shape line) l h in
    (ap Some p.1, subst (λ (x : Line). first_fault shape x ≡ None) p.1 p.0)

-- a line that is read fits each problem of the shape
pub read_fits : (shape : Shape) (version : Version) (bytes : List ℕ) (l : Line) → line_read shape version bytes ≡ Ok l → (f : Problem) → shape_of f ≡ shape → LineFits f l
read_fits shape version bytes l h f e = fits_problem f l (subst (λ (s : Shape). first_fault s l ≡ None) (sym e) (fitted_ok shape (spelled version bytes) l h).1)
