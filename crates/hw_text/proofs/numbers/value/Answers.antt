use Rattle.hw_text.proofs.Digits.{is_value, is_ascii}
use Rattle.hw_text.proofs.numbers.value.Goals as goal

pub returns-in-Ok : goal.returns-in-Ok
returns-in-Ok c = is_value c.args.word.now c.in-Ok.text.now c.parse.result c.ok.result c.in-Ok.ensures.cases.0 c.parse.ensures.value.0 c.ok.ensures.value c.requires.digits c.requires.some

pub returns-in-Err : goal.returns-in-Err
returns-in-Err c = absurd (c.in-Err.ensures.cases.0 (is_ascii c.args.word.now c.requires.digits))
