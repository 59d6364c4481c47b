use Rattle.tidewise.proofs.words.tell.Goals as goal

pub returns : goal.returns
returns g c = (c.send_info.result, c.send_info.ensures, c.exit_after.ensures)
