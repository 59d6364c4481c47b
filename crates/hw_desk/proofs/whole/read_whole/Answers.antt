use Rattle.std.proofs.Common.{◌∙◌, rules, refl, arith}
use Rattle.hw_desk.proofs.Chain.{all_moved, moves_on, nothing_read, read_past}
use Rattle.hw_desk.proofs.whole.read_whole.Goals as goal

pub returns-in-Err : goal.returns-in-Err
returns-in-Err g c =
    let all = moves_on c.chunks.invariant.moved c.read.ensures.reads.moved _ refl in
    record { moved = (_, all); whole = tt; all = tt; short = tt; long = λ e. absurd (cc); fault = search rules; kept = λ none. absurd (none refl) }

pub returns-then-count-eq0 : goal.returns-then-count-eq0
returns-then-count-eq0 g c =
    let all = nothing_read c.chunks.invariant.moved (rw c.in-Ok.is at c.read.ensures.reads) c.if-count-eq0.true in
    record { moved = (_, all.0); whole = all; all = all_moved all.0 all.1; short = c.chunks.invariant.room; long = λ e. absurd (cc); fault = λ e. absurd (cc); kept = λ _. (rw c.in-Ok.is at c.read.ensures.reads).kept ∙ c.chunks.invariant.kept }

pub returns-then-count-limit : goal.returns-then-count-limit
returns-then-count-limit g c =
    let all = moves_on c.chunks.invariant.moved c.read.ensures.reads.moved _ refl in
    let past = read_past c.args.limit c.chunks.invariant.moved (rw c.in-Ok.is at c.read.ensures.reads) c.chunks.invariant.room (omega arith) in
    record { moved = (_, all); whole = tt; all = tt; short = tt; long = λ e. past; fault = λ e. absurd (cc); kept = λ _. (rw c.in-Ok.is at c.read.ensures.reads).kept ∙ c.chunks.invariant.kept }

pub returns-then-is_err : goal.returns-then-is_err
returns-then-is_err g c =
    let all = moves_on c.chunks.invariant.moved c.read.ensures.reads.moved _ refl in
    record { moved = (_, all); whole = tt; all = tt; short = tt; long = λ e. absurd (cc); fault = λ e. absurd (cc); kept = λ _. (rw c.in-Ok.is at c.read.ensures.reads).kept ∙ c.chunks.invariant.kept }
