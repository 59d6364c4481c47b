use Rattle.std.proofs.Common.{◌≡◌, ◌-◌, ◌^◌, ℕ, List, []}
use Rattle.hw_desk.specs.Calls.{Moves}
use Rattle.hw_desk.specs.declared.desk.Feed.TheVariants.{Certificate}
use Rattle.hw_cert.specs.Nexts.{rest_of}
use Rattle.hw_cert_lines.specs.declared.line.Line.{Line}
use Rattle.hw_command.specs.Checking.{IsReady, rest_outcome}
use Rattle.hw_command.specs.Keeping.{rest_read}
use Rattle.hw_command.proofs.Taken.{Taken}
use Rattle.hw_command.proofs.cert.read_lines.Given as goal

abbrev pub invariant-lines : goal.invariant-lines
invariant-lines g l =
    let state = g.D.Desk.state in
    let f = l.fn.checker.problem in
    let told = rest_of l.fn.reader (state l.fn.desk) in
    record {
      moved : (bytes : List ℕ) × Moves Certificate bytes (state l.fn.desk) (state l.desk);
      same : (state l.desk).read_faults ≡ (state l.fn.desk).read_faults;
      ready : IsReady l.reader l.checker (state l.desk);
      taken : (all : List Line) × Taken f told (rest_outcome f [] l.fn.reader.at) (rest_read f [] l.fn.reader.at) l.fn.reader.at.most all l.reader l.checker (state l.desk) × g.K.LineTaker.keeps l.kept all;
    }

abbrev pub decreases-lines : goal.decreases-lines
decreases-lines g l = 2 ^ 40 - l.reader.at.taken
