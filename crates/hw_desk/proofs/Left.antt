-- What is left of a file after some of its bytes.
use Rattle.std.proofs.Common.{◌≡◌, ◌+◌, ℕ, List, [], drop, Option, Some, None, arith}
use Rattle.std.proofs.lemmas.Grind.{common_steps}
use Rattle.std.specs.Prelude.{slice_get}
use Rattle.hw_desk.specs.Files.{left_at}
use Rattle.hw_desk.specs.declared.slots.NamedBytes.{NamedBytes}
use Rattle.std.specs.Option.{option_map_or}

past : (file : Option NamedBytes) (at n : ℕ) → drop n (option_map_or (λ f. drop at f.bytes.items) file []) ≡ option_map_or (λ f. drop (at + n) f.bytes.items) file []
past None at n = grind (arith, common_steps)
past (Some f) at n = grind (arith, common_steps)

-- what is left after n bytes
pub left_past : (files : List NamedBytes) (file : Option ℕ) (at n : ℕ) → drop n (left_at files file at) ≡ left_at files file (at + n)
left_past files None at n = grind (arith, common_steps)
left_past files (Some i) at n = past (slice_get files i) at n
