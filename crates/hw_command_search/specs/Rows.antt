-- What is on Proof after a failed write, worked out by hand.
use Rattle.std.specs.Prelude.{◌≡◌, [], ◌∷◌, Some, None, codes}
use Rattle.hw_cert_lines.specs.declared.line.Line.TheVariants as lines
use Rattle.hw_cert.specs.declared.version.Version.TheVariants.{Two}
use Rattle.hw_cert.specs.Logs.{LogTold}
use Rattle.hw_cert.specs.Told.{bytes_told, IsTextOf}

-- a table of two ships, and a part of the lemma after it
abbrev pub cut_log : LogTold
cut_log = record { lines = lines.Table (2 ∷ 0 ∷ []) ∷ []; remainder = codes "l a0" }

-- what bytes tell that end in the third line, after the header, or inside it
pub record CutRows : Type 0 where
  pub in_line : bytes_told Two (codes "cert 2\nt 2 0\nl a0") ≡ Some cut_log
  pub text : IsTextOf Two cut_log (codes "cert 2\nt 2 0\nl a0")
  pub after_header : bytes_told Two (codes "cert 2\n") ≡ Some (record { lines = []; remainder = [] })
  pub in_header : bytes_told Two (codes "cert 2") ≡ None
  pub of_the_third : bytes_told Two (codes "cert 3\nt 2 0\n") ≡ None
