-- Lines whose numbers of clauses and tolls are raised.
use Rattle.std.specs.Prelude.{◌≡◌, ℕ, ◌+◌, List, Option, Some, None, map}
use Rattle.hw_model.specs.Problem.{Problem}
use Rattle.hw_cert_lines.specs.declared.line.Line.{Line}
use Rattle.hw_price_laws.specs.declared.tariff.Due.{Due}
use Rattle.hw_cert_lines.specs.Lemmas.{lemma_of}
use Rattle.hw_cert_lines.specs.Lines.{clause_of}
use Rattle.hw_cert_lines.specs.Valid.{LineFits}

-- numbers raised by this much
abbrev pub raised_numbers : ℕ → List ℕ → List ℕ
raised_numbers by ids = map (λ id. id + by) ids

-- prices on tolls whose numbers are raised by this much
abbrev pub raised_prices : ℕ → List Due → List Due
raised_prices by prices = map (λ one. record { toll = one.toll + by; price = one.price }) prices

-- the line that takes the place of one of a problem's shape is one too
abbrev pub KeepsFit : Line → Line → Type 0
KeepsFit line raised = (f : Problem) → LineFits f line → LineFits f raised

-- a lemma stays one, and is never left out; no other line becomes one
abbrev pub KeepsLemma : Line → Option Line → Type 0
KeepsLemma line None = lemma_of line ≡ None
KeepsLemma line (Some raised) = lemma_of raised ≡ lemma_of line

-- so does any clause
abbrev pub KeepsClause : Line → Option Line → Type 0
KeepsClause line None = clause_of line ≡ None
KeepsClause line (Some raised) = clause_of raised ≡ clause_of line
