use Rattle.std.proofs.Common.{◌≡◌, true, take}
use Rattle.std.specs.List.{list_all, flat_map}
use Rattle.hw_desk.specs.Writers.{Puts}
use Rattle.hw_cert.specs.Worded.{lits_text}
use Rattle.hw_cert.specs.Laws.{is_small, lit_numbers}
use Rattle.hw_cert.proofs.putting.put_lits.Given as goal

abbrev pub invariant-loop-lit : goal.invariant-loop-lit
invariant-loop-lit g l =
    let state = g.W.Writer.state in
    record {
      puts : Puts (lits_text (take l.lit-index l.lits)) (state l.fn.out) (state l.out);
      small : list_all is_small (flat_map lit_numbers (take l.lit-index l.lits)) ≡ true;
    }
