use Rattle.std.proofs.Common.{◌≡◌, ◌+◌, ◌-◌, ◌^◌, length, true, false, nat_lt, refl, sym, ap, ◌∙◌, inl, rules, ℕ, List, cond}
use Rattle.std.proofs.lemmas.Result.{err_from_is_err_and}
use Rattle.hw_desk.proofs.Chain.{rose_on}
use Rattle.hw_cert.specs.Stream.{line_passes_limit}
use Rattle.hw_cert.proofs.Takes.{takes, whole_line, filled, tail_of}
use Rattle.hw_cert.specs.declared.taking.TakenLine.TheVariants.{Unended, Nothing}
use Rattle.hw_cert.proofs.taking.take_line.Goals as goal

pub returns-in_err-found : goal.returns-in_err-found
returns-in_err-found g c =
    let p = err_from_is_err_and c.from_residual.result c.from_residual.ensures.1 in
    rw (p.1, p.2) (takes c.reading.invariant.so_far c.scan.new.line.items c.scan.new.self _ tt (λ e. absurd (cc)) (λ _. c.reading.invariant.kept))

pub returns-then-passes_limit : goal.returns-then-passes_limit
returns-then-passes_limit g c =
    let s = rw c.if-found.true at (c.in_ok-found.ensures) in
    let size : c.len-size.result ≡ length c.scan.new.line.items = search rules in
    takes c.reading.invariant.so_far c.scan.new.line.items c.scan.new.self _ (inl (whole_line c.reading.invariant.so_far _ _ true s (ap (λ (n : ℕ). line_passes_limit c.args.taken n 1) (sym size) ∙ sym c.if-passes_limit.ensures))) (λ e. absurd (cc)) (λ _. c.reading.invariant.kept)

pub returns-else-passes_limit : goal.returns-else-passes_limit
returns-else-passes_limit g c =
    let s = rw c.if-found.true at (c.in_ok-found.ensures) in
    let size : c.len-size.result ≡ length c.scan.new.line.items = search rules in
    takes c.reading.invariant.so_far c.scan.new.line.items c.scan.new.self _ (whole_line c.reading.invariant.so_far _ _ false s (ap (λ (n : ℕ). line_passes_limit c.args.taken n 1) (sym size) ∙ sym c.if-passes_limit.ensures)) (λ e. absurd (cc)) (λ _. c.reading.invariant.kept)

pub returns-in-Err : goal.returns-in-Err
returns-in-Err g c =
    let s = rw c.if-found.false at (c.in_ok-found.ensures) in
    let size : c.len-size.result ≡ length c.scan.new.line.items = search rules in
    let small : line_passes_limit c.args.taken (length c.scan.new.line.items) 0 ≡ false = ap (λ (n : ℕ). line_passes_limit c.args.taken n 0) (sym size) ∙ sym c.if-passes_limit-2.ensures in
    let more = filled c.reading.invariant.so_far c.scan.new.line.items c.scan.new.self c.fill.new.self _ _ s small (ap (λ (n : ℕ). 2 ^ 40 + 1 - c.args.taken - n) size) c.fill.ensures in
    takes more c.scan.new.line.items c.fill.new.self _ tt (λ e. rose_on c.reading.invariant.so_far.moved.1.only.later c.in-Err.ensures.cause) (λ none. absurd (none refl))

pub returns-then-count-eq0 : goal.returns-then-count-eq0
returns-then-count-eq0 g c =
    let s = rw c.if-found.false at (c.in_ok-found.ensures) in
    let size : c.len-size.result ≡ length c.scan.new.line.items = search rules in
    let small : line_passes_limit c.args.taken (length c.scan.new.line.items) 0 ≡ false = ap (λ (n : ℕ). line_passes_limit c.args.taken n 0) (sym size) ∙ sym c.if-passes_limit-2.ensures in
    let more = filled c.reading.invariant.so_far c.scan.new.line.items c.scan.new.self c.fill.new.self _ _ s small (ap (λ (n : ℕ). 2 ^ 40 + 1 - c.args.taken - n) size) c.fill.ensures in
    takes more c.scan.new.line.items c.fill.new.self _ (tail_of more c.tail_line.result (sym c.if-count-eq0.true ∙ c.in-Ok.ensures.count) (c.in-Ok.ensures.ended c.if-count-eq0.true) small (c.tail_line.ensures ∙ ap (λ (bs : List ℕ). cond (nat_lt 0 (length bs)) Unended Nothing) c.deref.ensures.value)) (λ e. absurd (cc)) (λ _. c.in-Ok.ensures.kept ∙ c.reading.invariant.kept)

pub reading-preserved : goal.reading-preserved
reading-preserved g c =
    let s = rw c.if-found.false at (c.in_ok-found.ensures) in
    let size : c.len-size.result ≡ length c.scan.new.line.items = search rules in
    let small : line_passes_limit c.args.taken (length c.scan.new.line.items) 0 ≡ false = ap (λ (n : ℕ). line_passes_limit c.args.taken n 0) (sym size) ∙ sym c.if-passes_limit-2.ensures in
    record { so_far = filled c.reading.invariant.so_far c.scan.new.line.items c.scan.new.self c.fill.new.self _ _ s small (ap (λ (n : ℕ). 2 ^ 40 + 1 - c.args.taken - n) size) c.fill.ensures; kept = c.in-Ok.ensures.kept ∙ c.reading.invariant.kept }
