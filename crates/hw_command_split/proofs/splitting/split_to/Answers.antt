use Rattle.std.proofs.Common.{◌≡◌, ◌∙◌, false, inr, refl, sym}
use Rattle.hw_model.specs.Problem.{shape_of}
use Rattle.hw_command.specs.Starting.{shows_nothing}
use Rattle.hw_command.proofs.Started.{starts_on}
use Rattle.hw_command_split.proofs.Splittings.{made_split, sends_split, sizes_broke, text_some}
use Rattle.hw_command_split.proofs.splitting.split_to.Goals as goal

pub returns-in-Err-chosen_by : goal.returns-in-Err-chosen_by
returns-in-Err-chosen_by g c =
    let shows : shows_nothing c.in-Ok.read.outcome ≡ false = sym c.shows_nothing.ensures ∙ c.if-shows_nothing.false in
    inr (record { starts = starts_on c.in-Ok.read c.in-Ok.ensures shows; told = refl })

pub send_split-requires-clause-some : goal.send_split-requires-clause-some
send_split-requires-clause-some g c = rw c.deref.ensures.value (text_some (shape_of c.args.flat.now) c.in-Ok-chosen_by.chosen.text.items c.in-Ok-chosen_by.chosen.split c.in-Ok-chosen_by.ensures.chosen.text)

pub returns-in-Ok-send_split : goal.returns-in-Ok-send_split
returns-in-Ok-send_split g c =
    let shows : shows_nothing c.in-Ok.read.outcome ≡ false = sym c.shows_nothing.ensures ∙ c.if-shows_nothing.false in
    (c.in-Ok-chosen_by.chosen.split, c.count_parts.ensures, sends_split c.in-Ok.read c.in-Ok.ensures shows (made_split c.in-Ok-chosen_by.ensures.chosen) c.in-Ok-chosen_by.ensures.undivided (rw c.deref.ensures.value at c.in-Ok-send_split.ensures))

pub returns : goal.returns
returns g c =
    let shows : shows_nothing c.in-Ok.read.outcome ≡ false = sym c.shows_nothing.ensures ∙ c.if-shows_nothing.false in
    sizes_broke (sends_split c.in-Ok.read c.in-Ok.ensures shows (made_split c.in-Ok-chosen_by.ensures.chosen) c.in-Ok-chosen_by.ensures.undivided (rw c.deref.ensures.value at c.in-Err-send_split.ensures))
