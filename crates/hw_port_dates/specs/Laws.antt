-- What moments and their texts are.
use Rattle.std.specs.Prelude.{◌≡◌, ◌<◌, ℕ, ◌+◌, ◌^◌, List}
use Rattle.hw_port.specs.Kept.{IsStart}
use Rattle.hw_port_dates.specs.declared.moment.Moment.{Moment}
use Rattle.hw_port_dates.specs.Moments.{IsMoment, later, minutes_of, moment_after}
use Rattle.hw_port_dates.specs.Texts.{moment_text}

-- what stands some minutes after a moment is a moment, and its minutes are more by that number
pub record CountsLater (minutes : ℕ) (m : Moment) : Type 0 where
  pub moment : IsMoment (later minutes m)
  pub count : minutes_of (later minutes m) ≡ minutes_of m + minutes

abbrev pub CountsAreExact : Type 0
CountsAreExact = (m : Moment) (minutes : ℕ) → IsMoment m → CountsLater minutes m

-- two moments with the same minutes are one
abbrev pub CountTells : Type 0
CountTells = (m n : Moment) → IsMoment m → IsMoment n → minutes_of m ≡ minutes_of n → m ≡ n

-- some minutes later, and then some more, is as much later as both
abbrev pub MomentsCompose : Type 0
MomentsCompose = (m : Moment) (first more : ℕ) → later more (later first m) ≡ later (first + more) m

-- 0 minutes after a start is written as the start
abbrev pub StartReadsBack : Type 0
StartReadsBack = (start : List ℕ) → IsStart start → moment_text (moment_after start 0) ≡ start

-- two moments that are written alike are one
abbrev pub TextTells : Type 0
TextTells = (m n : Moment) → m.date.year < 2 ^ 64 → n.date.year < 2 ^ 64 → moment_text m ≡ moment_text n → m ≡ n
