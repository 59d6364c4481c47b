use Rattle.std.proofs.Common.{◌≡◌, ◌≤◌, ◌+◌, ◌++◌, ◌∷◌, [], length, rules, arith}
use Rattle.hw_command_split.proofs.CertBytes.{certs_end, certs_on, from_begin, lines_on, stops_among}
use Rattle.hw_command_split.proofs.certificates.check_each.Goals as goal

pub returns-in-Err : goal.returns-in-Err
returns-in-Err c =
    let end = c.each.begin + c.first_length.result in
    let inside : end ≤ length c.args.bytes.now = omega arith in
    let first = from_begin c.args.bytes.now c.each.begin c.first_length.result c.first_length.ensures.first in
    rw c.moved_on.ensures (stops_among c.args.flat.now c.each.certs.items c.args.bytes.now c.each.before c.each.begin c.first_length.result c.in-Err.stopped c.each.invariant.certs c.each.invariant.counted inside first c.in-Err.ensures)

pub returns-then-end-bytes : goal.returns-then-end-bytes
returns-then-end-bytes c =
    let first = from_begin c.args.bytes.now c.each.begin c.first_length.result c.first_length.ensures.first in
    let pushed : c.push.new.self.items ≡ c.each.certs.items ++ c.in-Ok.lines ∷ [] = search rules in
    rw pushed (certs_end c.each.certs.items c.in-Ok.lines c.args.bytes.now c.each.begin c.first_length.result c.if-end-bytes.true c.each.invariant.certs first c.in-Ok.ensures)

pub each-preserved : goal.each-preserved
each-preserved c =
    let end = c.each.begin + c.first_length.result in
    let le : c.each.begin ≤ end = omega arith in
    let inside : end ≤ length c.args.bytes.now = omega arith in
    let more = lines_on c.args.bytes.now c.each.begin end le inside in
    let first = from_begin c.args.bytes.now c.each.begin c.first_length.result c.first_length.ensures.first in
    let pushed : c.push.new.self.items ≡ c.each.certs.items ++ c.in-Ok.lines ∷ [] = search rules in
    record {
      certs = rw pushed (certs_on c.each.certs.items c.in-Ok.lines c.args.bytes.now c.each.begin c.first_length.result inside c.each.invariant.certs first c.in-Ok.ensures);
      counted = omega (arith, more);
      inside = inside;
    }
