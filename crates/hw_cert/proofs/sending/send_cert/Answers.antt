use Rattle.std.proofs.Common.{◌≡◌, ◌++◌, ◌∷◌, ◌∙◌, ℕ, List, [], map, ap, sym, append_assoc, rules}
use Rattle.hw_text.specs.Parts.{ended_lines}
use Rattle.hw_desk.proofs.Written.{puts_on, puts_same, text_sent}
use Rattle.hw_cert_lines.specs.declared.line.Line.{Line}
use Rattle.hw_cert.specs.declared.version.Version.{Version}
use Rattle.hw_cert.specs.Texts.{cert_text, certificate_header, line_text}
use Rattle.hw_cert.specs.Told.{header_line}
use Rattle.hw_cert.proofs.sending.send_cert.Goals as goal

-- the lines after the header
after_header : (version : Version) (head : List ℕ) (lines : List Line) → head ≡ header_line version → cert_text version lines ≡ head ++ ended_lines (map line_text lines)
after_header version head lines e =
    let rest = ended_lines (map line_text lines) in
    sym (ap (λ (bytes : List ℕ). bytes ++ rest) e ∙ append_assoc (certificate_header version) (10 ∷ []) rest)

pub returns : goal.returns
returns g c =
    let text = after_header c.args.version c.header_line.result.now c.args.lines.now c.header_line.ensures in
    let puts = puts_same (cert_text c.args.version c.args.lines.now) text (puts_on c.put.ensures.puts c.put_lines.ensures.puts) in
    let whole = text_sent c.new-out.ensures.opens puts c.flush.ensures.flushes in
    search rules
