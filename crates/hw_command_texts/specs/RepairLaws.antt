-- The laws of repairs that are explained.
use Rattle.std.specs.Prelude.{◌≡◌, ◌⊎◌, ℕ, List, Option, IsSome}
use Rattle.hw_cert.specs.declared.version.Version.TheVariants.{Three}
use Rattle.hw_report.specs.Reports.{Report, checked, whole_text}
use Rattle.hw_subject.specs.Subjects.{Origin, origin_subject, repair_of}
use Rattle.hw_subject.specs.Checks.{Checks}
use Rattle.hw_subject.specs.Decided.{AllTold}
use Rattle.hw_command_texts.specs.Explains.{ExplainsRepair}

-- where all inputs and the certificate are told, their bytes decide the report, unless a call fails or memory runs out
abbrev pub OneExplanation : Type 0
OneExplanation = (origin : Origin) (plan cert : List ℕ) (held : List ℕ → Option (List ℕ)) (r t : Report) → let s = repair_of (origin_subject origin) plan in AllTold held s.inputs → IsSome (held cert) → ExplainsRepair s cert held r → ExplainsRepair s cert held t → r ≡ t

-- the report of `explain repair`, by that of `verify repair`: the same, or a text where something is shown
abbrev pub IsTextFor : Report → Report → Type 0
IsTextFor (checked shows bound ships names) r = (r ≡ checked shows bound ships names) ⊎ ((told : List ℕ) × (r ≡ whole_text told))
IsTextFor c r = r ≡ c

-- of the same told bytes `explain repair` explains what `verify repair` shows, and refuses what it refuses, unless a call fails or memory runs out
abbrev pub ExplainedAsVerified : Type 0
ExplainedAsVerified = (origin : Origin) (plan cert : List ℕ) (held : List ℕ → Option (List ℕ)) (c r : Report) → let s = repair_of (origin_subject origin) plan in AllTold held s.inputs → IsSome (held cert) → Checks s Three cert held c → ExplainsRepair s cert held r → IsTextFor c r
