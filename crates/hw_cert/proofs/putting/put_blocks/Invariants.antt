use Rattle.std.proofs.Common.{◌≡◌, true, take}
use Rattle.std.specs.List.{list_all, flat_map}
use Rattle.hw_desk.specs.Writers.{Puts}
use Rattle.hw_cert.specs.Worded.{blocks_text}
use Rattle.hw_cert.specs.Laws.{is_small, block_numbers}
use Rattle.hw_cert.proofs.putting.put_blocks.Given as goal

abbrev pub invariant-loop-block : goal.invariant-loop-block
invariant-loop-block g l =
    let state = g.W.Writer.state in
    record {
      puts : Puts (blocks_text (take l.block-index l.blocks)) (state l.fn.out) (state l.out);
      small : list_all is_small (flat_map block_numbers (take l.block-index l.blocks)) ≡ true;
    }
