-- The text of valid lines as a certificate.
use Rattle.std.proofs.Common.{◌≡◌, ◌⊎◌, List, [], Result, Ok, inl, inr, refl, sym, ap}
use Rattle.hw_model.specs.Problem.{shape_of}
use Rattle.hw_cert_lines.specs.declared.line.Line.{Line}
use Rattle.hw_cert.specs.declared.version.Version.{Version}
use Rattle.hw_cert.specs.declared.version.Version.TheVariants.{Three}
use Rattle.hw_cert.specs.Texts.{cert_text}
use Rattle.hw_cert.specs.Certs.{Cert, BadLine, cert_read_to}
use Rattle.hw_cert.specs.Stream.{CertEnd, complete, broken, overlong, CertLines, cert_stream_to}
use Rattle.hw_cert.specs.Laws.{StreamAgrees}
use Rattle.hw_cert.specs.Forms.{ValidReads, ValidStreams, ThirdReads, ThirdStreams}
use Rattle.hw_cert.proofs.Formed.{third_formed}
use Rattle.hw_cert.proofs.ValidText.{are_lines, none_few}
use Rattle.hw_cert.proofs.WholeCerts.{cert_again, stream_agrees}

pub valid_reads : ValidReads
valid_reads most version f all within flat fits valid formed = cert_again most (shape_of f) (cert_text version all) version all flat.some_ship (record { text = refl; within = within; each = are_lines f version all [] formed flat (none_few f) fits valid })

pub one_cert : {a b : Cert} {read : Result Cert BadLine} → read ≡ Ok a → read ≡ Ok b → a ≡ b
one_cert e h = cc

-- lines that agree with what the bytes read as are these, unless they end at a limit
by_end : (version : Version) (all lines : List Line) (stop : CertEnd) (read : Result Cert BadLine) → read ≡ Ok (record { version = version; lines = all }) → StreamAgrees stop lines read
    → (stop ≡ overlong) ⊎ (◌≡◌ {A = CertLines} (record { lines = lines; stop = stop }) (record { lines = all; stop = complete }))
by_end version all lines complete read e a =
    let ended : Cert → CertLines = λ c. record { lines = c.lines; stop = complete } in
    inr (ap ended (sym (one_cert e a.1)))
by_end version all lines (broken number word) read e a = absurd (cc)
by_end version all lines overlong read e a = inl refl

pub valid_streams : ValidStreams
valid_streams most version f all within flat fits valid formed =
    let bytes = cert_text version all in
    let stream = cert_stream_to most (shape_of f) bytes in
    by_end version all stream.lines stream.stop (cert_read_to most (shape_of f) bytes) (valid_reads most version f all within flat fits valid formed) (stream_agrees most (shape_of f) bytes)

pub third_reads : ThirdReads
third_reads f all flat fits valid = valid_reads Three Three f all refl flat fits valid (third_formed all)

pub third_streams : ThirdStreams
third_streams f all flat fits valid = valid_streams Three Three f all refl flat fits valid (third_formed all)
