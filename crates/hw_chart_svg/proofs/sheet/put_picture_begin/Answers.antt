use Rattle.hw_desk.proofs.Written.{puts_on, puts_nothing}
use Rattle.hw_chart_svg.specs.Sheets.{size_begin}
use Rattle.hw_chart_svg.proofs.sheet.put_picture_begin.Goals as goal

pub returns : goal.returns
unfolding size_begin
returns g c = puts_on c.put_pieces.ensures (puts_on c.put_pieces-2.ensures (puts_on c.put.ensures.puts (puts_on c.put_pieces-3.ensures (puts_on c.put-2.ensures.puts (puts_nothing _)))))
