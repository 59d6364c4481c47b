-- The laws of listings and of tables.
use Rattle.std.specs.Prelude.{◌≡◌, ◌↔◌, ℕ, List, Option, IsSome}
use Rattle.hw_cert.specs.declared.version.Version.TheVariants.{Three}
use Rattle.hw_report.specs.Reports.{Report, checked, picture}
use Rattle.hw_subject.specs.Subjects.{Origin, Topic, origin_subject, port_subject, topic_subject}
use Rattle.hw_subject.specs.Checks.{Checks}
use Rattle.hw_subject.specs.Decided.{AllTold}
use Rattle.hw_command_texts.specs.ExplainPort.{ExplainsTexts}
use Rattle.hw_command_texts.specs.Flattening.{FlattensTexts}
use Rattle.hw_command_texts.specs.Listings.{Lists, flat_text_of, restriction_words}
use Rattle.hw_command_texts.specs.Tables.{Tables, listing_table}

-- where all inputs are told, their bytes decide the report, whatever text is listed, unless a call fails or memory runs out
abbrev pub OneListing : Type 0
OneListing = (origin : Origin) (text : (origin_subject origin).Value → List ℕ) (held : List ℕ → Option (List ℕ)) (r t : Report) → AllTold held (origin_subject origin).inputs → Lists (origin_subject origin) text held r → Lists (origin_subject origin) text held t → r ≡ t

-- the same of a table, where the certificate is told too
abbrev pub OneTable : Type 0
OneTable = (topic : Topic) (cert : List ℕ) (held : List ℕ → Option (List ℕ)) (r t : Report) → AllTold held (topic_subject topic).inputs → IsSome (held cert) → Tables (topic_subject topic) cert held r → Tables (topic_subject topic) cert held t → r ≡ t

-- the report of `table`, by that of `verify`: a table with the verdict that is shown, and the same report where nothing is
abbrev pub IsTableAs : Report → Report → Type 0
IsTableAs (checked shows bound ships names) r = (table : Option (List ℕ)) × (r ≡ picture shows (listing_table names table))
IsTableAs c r = r ≡ c

-- of the same told bytes `table` shows what `verify` shows, and refuses what `verify` refuses, unless a call fails or memory runs out
abbrev pub TablesAsVerified : Type 0
TablesAsVerified = (topic : Topic) (cert : List ℕ) (held : List ℕ → Option (List ℕ)) (c r : Report) → AllTold held (topic_subject topic).inputs → IsSome (held cert) → Checks (topic_subject topic) Three cert held c → Tables (topic_subject topic) cert held r → IsTableAs c r

-- what `flatten` lists, both ways in the words of a port's flat text
abbrev pub FlattensAsListed : Type 0
FlattensAsListed = (instance table : List ℕ) (held : List ℕ → Option (List ℕ)) (r : Report) → Lists (port_subject instance table) flat_text_of held r ↔ FlattensTexts (held instance) (held table) r

-- what `explain port` lists, both ways in the words of a port's restrictions
abbrev pub ExplainsAsListed : Type 0
ExplainsAsListed = (instance table : List ℕ) (held : List ℕ → Option (List ℕ)) (r : Report) → Lists (port_subject instance table) restriction_words held r ↔ ExplainsTexts (held instance) (held table) r
