-- What is told after what fitted, and turns that say nothing of tolls or prices.
use Rattle.std.proofs.Common.{◌≡◌, true, List, ◌++◌, Option, Some, None, IfSome, IsSomeAnd, All, ◌∙◌}
use Rattle.hw_cert_lines.specs.declared.line.Line.{Line}
use Rattle.hw_cert_lines.specs.Tolled.{is_plain}
use Rattle.hw_cert.specs.Logs.{LogTold, LogModel, WhereTold, Grows}
use Rattle.hw_search_laws.specs.declared.outcome.Turn.{Turn}
use Rattle.hw_search_laws.specs.Searches.{SearchModel, LogFits}
use Rattle.hw_search_laws.specs.Turns.{TurnMeets, TurnWrites}

-- from what held of the lines before
pub grown_from : (old new : LogModel) (P : LogTold → Type 0) (R Q : LogTold → LogTold → Type 0) → WhereTold old P → Grows old new R → ((was now : LogTold) → P was → R was now → Q was now) → Grows old new Q
grown_from old new P R Q p g h = by old.told new.told p g
  where
    by : (a b : Option LogTold) → IfSome a P → IfSome b (λ now. IsSomeAnd a (λ was. R was now)) → IfSome b (λ now. IsSomeAnd a (λ was. Q was now))
    by a None p g = tt
    by None (Some now) p g = absurd g
    by (Some was) (Some now) p g = h was now p g

pub plain_turn : (s : SearchModel) (old : LogModel) (turn : Turn) (after : SearchModel) (new : LogModel) → s.prices.tariff ≡ None → WhereTold old (λ told. LogFits told s) → TurnMeets s old turn after new
    → Grows old new (λ was now. (more : List Line) × (now.lines ≡ was.lines ++ more) × All (λ line. is_plain line ≡ true) more)
plain_turn s old turn after new none fits t =
    grown_from old new (λ told. LogFits told s) (TurnWrites s.problem turn) (λ was now. (more : List Line) × (now.lines ≡ was.lines ++ more) × All (λ line. is_plain line ≡ true) more) fits t.writes
    (λ was now f w. (w.more, w.lines, w.well.plain (f.fits.prices.tariff ∙ none)))
