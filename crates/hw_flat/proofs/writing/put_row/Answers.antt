use Rattle.hw_flat.proofs.WrittenWords.{row_put}
use Rattle.hw_flat.proofs.writing.put_row.Goals as goal

pub returns : goal.returns
returns c =
    rw (c.in_ok-push-2.ensures.items, c.in_ok-put_stays.ensures, c.in_ok-put_values.ensures, c.in_ok-push.ensures.items, c.split_at.ensures.front, c.split_at.ensures.back)
    (row_put c.args.out.now.items c.args.sailing c.args.row.now)
