use Rattle.std.proofs.Common.{None, [], ◌∷◌, ap, refl}
use Rattle.hw_cert_lines.specs.Lines.{clause_of}
use Rattle.hw_cert_course.proofs.Extended.{extends_self}
use Rattle.hw_cert_join.proofs.Covered.{by_adds, none_taken}
use Rattle.hw_cert_join.proofs.JoinLines.{closed_now}
use Rattle.hw_cert_join.proofs.junction.Junction.take.Goals as goal

pub returns-then-not-is_open : goal.returns-then-not-is_open
returns-then-not-is_open c = none_taken c.args.self (c.args.line.now ∷ []) (extends_self c.requires.stands) (closed_now c.is_open.ensures c.if-not-is_open.true)

pub returns-in-Toll : goal.returns-in-Toll
returns-in-Toll c = by_adds c.args.self c.args.line.now None c.take_toll.result (ap clause_of c.in-Toll.is) c.take_toll.ensures

pub returns-in-Tariff : goal.returns-in-Tariff
returns-in-Tariff c = by_adds c.args.self c.args.line.now None c.take_tariff.result (ap clause_of c.in-Tariff.is) c.take_tariff.ensures

pub returns-in_default : goal.returns-in_default
returns-in_default c = by_adds c.args.self c.args.line.now (clause_of c.args.line.now) c.take_raised.result refl c.take_raised.ensures
