use Rattle.hw_report.proofs.reporting.put_report.Goals as goal

pub returns-in-BadJson : goal.returns-in-BadJson
returns-in-BadJson g c = rw c.in-BadJson.is c.put.ensures.puts
