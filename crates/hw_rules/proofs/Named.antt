-- The answer for a source, from the answer for what it names.
use Rattle.std.proofs.Common.{◌≡◌, ℕ, ◌<◌, Bool, Option, List, length, get_or, IsTrue, ◌↔◌, refl, sym, ap, ◌∙◌}
use Rattle.std.proofs.lemmas.Option.{slice_get_read}
use Rattle.hw_model.specs.declared.rule.Rule.{Rule}
use Rattle.hw_model.specs.declared.source.Source.{Source}
use Rattle.hw_model.specs.declared.source.Source.TheVariants as sources
use Rattle.hw_model.specs.Problem.{Problem}
use Rattle.hw_model.specs.Rooms.{RoomModel}
use Rattle.hw_model.specs.Refuting.{Refutes}
use Rattle.hw_model.specs.RefutingComputed.{refutes, refutes_at, rule_refutes}
use Rattle.hw_model_laws.proofs.Tested.{tested, tests}

pub means_of : (f : Problem) (source at : Source) (best : Option ℕ) (room : RoomModel) (b : Bool) → source ≡ at → b ≡ refutes f at best room → (IsTrue b ↔ Refutes f source best room)
means_of f source at best room b same is =
    let e : b ≡ refutes f source best room = is ∙ ap (λ s. refutes f s best room) (sym same) in
    (λ t. tested f source best room (sym e ∙ t), λ h. e ∙ tests f source best room h)

pub rule_at : (f : Problem) (place : ℕ) (best : Option ℕ) (room : RoomModel) (rules : List Rule) (rule : Rule) (b : Bool) → rules ≡ f.rules → place < length f.rules → rule ≡ get_or rules place rule → b ≡ rule_refutes f room rule → b ≡ refutes f (sources.Rule place) best room
rule_at f place best room rules rule b same lt read is =
    let at : rule ≡ get_or f.rules place rule = read ∙ ap (λ xs. get_or xs place rule) same in
    is ∙ sym (ap (refutes_at f room) (slice_get_read f.rules (length f.rules) place rule refl lt at))
