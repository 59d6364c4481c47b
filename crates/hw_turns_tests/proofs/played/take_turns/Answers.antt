use Rattle.std.proofs.Common.{◌≡◌, ◌∙◌, false, sym}
use Rattle.hw_search_laws.specs.Turns.{is_last}
use Rattle.hw_turns_tests.proofs.played.take_turns.Goals as goal

pub loop-place-init : goal.loop-place-init
loop-place-init c = record { greatest = c.requires.greatest; earliest = c.requires.earliest; latest = c.requires.latest }

pub loop-place-preserved : goal.loop-place-preserved
loop-place-preserved c =
    let goes : is_last c.in_ok-did.did ≡ false = sym c.is_over.ensures ∙ c.if-is_over.false in
    record { greatest = c.in_ok-did.ensures.greatest goes; earliest = c.in_ok-did.ensures.earliest goes; latest = c.in_ok-did.ensures.latest goes }
