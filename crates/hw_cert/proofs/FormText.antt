-- Bytes have a form exactly where they are the text of a line of that form.
use Rattle.std.proofs.Common.{◌≡◌, ℕ, List, [], ◌∷◌, Option, Some, None, refl, sym, ap, ◌∙◌, arith}
use Rattle.hw_price_laws.specs.declared.toll.Toll.TheVariants as tolls
use Rattle.hw_cert_lines.specs.declared.line.Line.{Line}
use Rattle.hw_cert_lines.specs.declared.line.Line.TheVariants as lines
use Rattle.hw_text.specs.Parts.{words_of}
use Rattle.hw_cert.specs.declared.version.Version.{Version}
use Rattle.hw_cert.specs.declared.version.Version.TheVariants.{One, Two, Three}
use Rattle.hw_cert.specs.Texts.{line_text}
use Rattle.hw_cert.specs.Spelled.{spelled}
use Rattle.hw_cert.specs.Forms.{HasWords, IsOfForm}
use Rattle.hw_cert.proofs.FormBack.{text_back}
use Rattle.hw_cert.proofs.Written.{text_spelled}

no_line : (o : Option Line) (line : Line) → o ≡ None → o ≡ Some line → ⊥
no_line o line e h = absurd cc

-- no bytes have the form of a table without slots, a deletion without numbers or a narrows without blocks
has_words : (version : Version) (line : Line) → spelled version (line_text line) ≡ Some line → HasWords line
has_words version (lines.Table []) h = absurd (no_line (spelled version (line_text (lines.Table []))) (lines.Table []) refl h)
has_words version (lines.Table (slot ∷ table)) h = omega arith
has_words version (lines.Explain n clause) h = tt
has_words version (lines.Order v w x clause) h = tt
has_words version (lines.Goal clause) h = tt
has_words version (lines.Lemma clause hints) h = tt
has_words One (lines.Delete []) h = absurd (no_line (spelled One (line_text (lines.Delete []))) (lines.Delete []) refl h)
has_words Two (lines.Delete []) h = absurd (no_line (spelled Two (line_text (lines.Delete []))) (lines.Delete []) refl h)
has_words Three (lines.Delete []) h = absurd (no_line (spelled Three (line_text (lines.Delete []))) (lines.Delete []) refl h)
has_words version (lines.Delete (id ∷ ids)) h = omega arith
has_words One (lines.Toll (tolls.Narrows [])) h = absurd (no_line (spelled One (line_text (lines.Toll (tolls.Narrows [])))) (lines.Toll (tolls.Narrows [])) refl h)
has_words Two (lines.Toll (tolls.Narrows [])) h = absurd (no_line (spelled Two (line_text (lines.Toll (tolls.Narrows [])))) (lines.Toll (tolls.Narrows [])) refl h)
has_words Three (lines.Toll (tolls.Narrows [])) h = absurd (no_line (spelled Three (line_text (lines.Toll (tolls.Narrows [])))) (lines.Toll (tolls.Narrows [])) refl h)
has_words version (lines.Toll (tolls.Narrows (block ∷ blocks))) h = omega arith
has_words version (lines.Toll (tolls.Tugs n slot weights most)) h = tt
has_words version (lines.Tariff tariff) h = tt
has_words version (lines.Priced clause) h = tt
has_words version (lines.Bound bound) h = tt

pub form_read : (version : Version) (bytes : List ℕ) (line : Line) → spelled version bytes ≡ Some line → (bytes ≡ line_text line) × IsOfForm version line
form_read version bytes line h =
    let r = text_back version bytes line (words_of bytes) refl h in
    (r.text, record { formed = r.formed; small = r.small; wide = r.wide; some_word = has_words version line (sym (ap (spelled version) r.text) ∙ h) })

pub form_written : (version : Version) (bytes : List ℕ) (line : Line) → bytes ≡ line_text line → IsOfForm version line → spelled version bytes ≡ Some line
form_written version bytes line e is = ap (spelled version) e ∙ text_spelled version line is.small is.wide is.formed is.some_word
