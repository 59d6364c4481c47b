-- The words for refused tables and events, as they are printed.
use Rattle.std.specs.Prelude.{ℕ, List, codes}
use Rattle.hw_audit.specs.declared.fault.AuditWord.{AuditWord}
use Rattle.hw_audit.specs.declared.fault.AuditWord.TheVariants.{Header, Table, Form, Range, Sailed, Stays, Fleet, Tail}

abbrev pub audit_word_text : AuditWord → List ℕ
audit_word_text Header = codes "header"
audit_word_text Table = codes "table"
audit_word_text Form = codes "form"
audit_word_text Range = codes "range"
audit_word_text Sailed = codes "sailed"
audit_word_text Stays = codes "stays"
audit_word_text Fleet = codes "fleet"
audit_word_text Tail = codes "tail"
