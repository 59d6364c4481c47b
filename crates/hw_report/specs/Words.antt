-- The words of reports.
use Rattle.std.specs.Prelude.{ℕ, List, codes}
use Rattle.hw_desk.specs.declared.desk.Feed.{Feed}
use Rattle.hw_desk.specs.declared.desk.Feed.TheVariants.{Flat, Instance, Tides, Certificate, Plan, Events, Clash, Split}
use Rattle.hw_flat.specs.declared.fault.FlatWord.{FlatWord}
use Rattle.hw_flat.specs.declared.fault.FlatWord.TheVariants as words
use Rattle.hw_cert_lines.specs.declared.check.CheckWord.{CheckWord}
use Rattle.hw_cert_lines.specs.declared.check.CheckWord.TheVariants as checks
use Rattle.hw_cert.specs.declared.stop.FormWord.{FormWord}
use Rattle.hw_cert.specs.declared.stop.FormWord.TheVariants as forms
use Rattle.hw_report.specs.declared.report.RefusedWord.{RefusedWord}
use Rattle.hw_report.specs.declared.report.RefusedWord.TheVariants.{Form, Check}

-- the word of a feed
abbrev pub feed_text : Feed → List ℕ
feed_text Flat = codes "flat"
feed_text Instance = codes "instance"
feed_text Tides = codes "tides"
feed_text Certificate = codes "certificate"
feed_text Plan = codes "plan"
feed_text Events = codes "events"
feed_text Clash = codes "clash"
feed_text Split = codes "split"

-- the word of a bad line of a flat text
abbrev pub flat_word_text : FlatWord → List ℕ
flat_word_text words.Header = codes "header"
flat_word_text words.Size = codes "size"
flat_word_text words.Values = codes "values"
flat_word_text words.Rule = codes "rule"
flat_word_text words.Many = codes "many"
flat_word_text words.Tail = codes "tail"

-- the word of a line of a certificate that is wrong as text
abbrev pub form_word_text : FormWord → List ℕ
form_word_text forms.Header = codes "header"
form_word_text forms.Form = codes "form"
form_word_text forms.Range = codes "range"
form_word_text forms.Normal = codes "normal"

-- the word of a line that is wrong as a step
abbrev pub check_word_text : CheckWord → List ℕ
check_word_text checks.Ended = codes "ended"
check_word_text checks.Table = codes "table"
check_word_text checks.Worse = codes "worse"
check_word_text checks.Refute = codes "refute"
check_word_text checks.Hint = codes "hint"
check_word_text checks.Loose = codes "loose"
check_word_text checks.Conflict = codes "conflict"
check_word_text checks.Many = codes "many"
check_word_text checks.Dead = codes "dead"
check_word_text checks.Toll = codes "toll"
check_word_text checks.Due = codes "due"
check_word_text checks.Looser = codes "looser"

abbrev pub refused_word_text : RefusedWord → List ℕ
refused_word_text (Form word) = form_word_text word
refused_word_text (Check word) = check_word_text word
