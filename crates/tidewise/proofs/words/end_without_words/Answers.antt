use Rattle.tidewise.proofs.words.end_without_words.Goals as goal

pub returns : goal.returns
returns g c = (c.write_all-sent.result, c.write_all-sent.ensures, c.exit_after.ensures)
