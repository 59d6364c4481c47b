use Rattle.std.proofs.Common.{◌≡◌, ◌+◌, ◌-◌, ◌*◌, ◌++◌, suc, map, length, ap, arith}
use Rattle.hw_text.specs.Parts.{ended_lines}
use Rattle.hw_flat.specs.TextWritten.{row_text, rows_in}
use Rattle.hw_flat.proofs.WrittenWords.{rows_more}
use Rattle.hw_flat.proofs.writing.put_rows.Goals as goal

pub loop-preserved : goal.loop-preserved
loop-preserved c =
    let k : c.args.ships - c.loop.counter ≡ suc (c.args.ships - (c.loop.counter + 1)) = omega arith in
    let size : length c.loop.left.now ≡ (c.args.ships - (c.loop.counter + 1)) * c.args.slots + c.args.slots = omega (arith, c.loop.invariant.size, ap (λ n. n * c.args.slots) k) in
    let rest : length c.split_at.result.1.now ≡ (c.args.ships - (c.loop.counter + 1)) * c.args.slots = omega (arith, size, c.split_at.ensures.back_len) in
    record {
      size = rest;
      told = rows_more c.loop.out.items c.put_row.new.out.items c.args.sailing c.args.slots (c.args.ships - c.loop.counter) (c.args.ships - (c.loop.counter + 1)) c.loop.left.now c.split_at.result.0.now c.split_at.result.1.now
          (c.args.out.now.items ++ ended_lines (map (row_text c.args.sailing) (rows_in c.args.ships c.args.slots c.args.values.now))) k c.split_at.ensures.front c.split_at.ensures.back c.in_ok-put_row.ensures c.loop.invariant.told;
    }
