use Rattle.hw_report.proofs.refusals.put_bad_tides.Goals as goal

pub returns-in-Header : goal.returns-in-Header
returns-in-Header g c = rw c.in-Header.is (rw c.from.ensures at c.put_numbered.ensures)

pub returns-in-Length : goal.returns-in-Length
returns-in-Length g c = rw c.in-Length.is c.put_numbered-in-Length.ensures

pub returns-in-Field : goal.returns-in-Field
returns-in-Field g c = rw c.in-Field.is (rw c.from-in-Field.ensures at c.put_pieces.ensures)

pub returns-in-Few : goal.returns-in-Few
returns-in-Few g c = rw c.in-Few.is c.put.ensures.puts
