use Rattle.hw_desk.proofs.Written.{puts_on}
use Rattle.tidewise.proofs.help.put_help.Goals as goal

pub returns-clause-text : goal.returns-clause-text
returns-clause-text g c =
    let head = rw c.as_bytes.ensures.value at c.put.ensures.puts in
    let tail = rw c.as_bytes-2.ensures.value at c.put-2.ensures.puts in
    puts_on (puts_on head c.put_forms.ensures) tail
