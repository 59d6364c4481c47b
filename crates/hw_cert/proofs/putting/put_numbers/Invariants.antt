use Rattle.std.proofs.Common.{◌≡◌, true, take}
use Rattle.std.specs.List.{list_all}
use Rattle.hw_desk.specs.Writers.{Puts}
use Rattle.hw_cert.specs.Worded.{spaced_numbers}
use Rattle.hw_cert.specs.Laws.{is_small}
use Rattle.hw_cert.proofs.putting.put_numbers.Given as goal

abbrev pub invariant-loop-number : goal.invariant-loop-number
invariant-loop-number g l =
    let state = g.W.Writer.state in
    record {
      puts : Puts (spaced_numbers (take l.number-index l.numbers)) (state l.fn.out) (state l.out);
      small : list_all is_small (take l.number-index l.numbers) ≡ true;
    }
