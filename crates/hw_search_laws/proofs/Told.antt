-- What is told of a log after it took a line, or failed to.
use Rattle.std.proofs.Common.{Option, Some, None, IfSome, IsSomeAnd}
use Rattle.hw_cert.specs.Logs.{LogTold, LogModel, WhereTold, Grows}

-- from what was told to what is told
pub grown : (old new : LogModel) (R : LogTold → LogTold → Type 0) (P Q : LogTold → Type 0) → Grows old new R → ((was now : LogTold) → P was → R was now → Q now) → WhereTold old P → WhereTold new Q
grown old new R P Q g h p = by old.told new.told g p
  where
    by : (a b : Option LogTold) → IfSome b (λ now. IsSomeAnd a (λ was. R was now)) → IfSome a P → IfSome b Q
    by a None g p = tt
    by None (Some now) g p = absurd g
    by (Some was) (Some now) g p = h was now p g

-- where nothing was written
pub told_same : (log : LogModel) (F : LogTold → Type 0) (Q : LogTold → LogTold → Type 0) → WhereTold log F → ((now : LogTold) → F now → Q now now) → Grows log log Q
told_same log F Q h k = by log.told h
  where
    by : (c : Option LogTold) → IfSome c F → IfSome c (λ now. IsSomeAnd c (λ was. Q was now))
    by None h = tt
    by (Some now) h = k now h

-- from what was told at first to what is told in the end
pub told_on : (old here new : LogModel) (P R Q : LogTold → LogTold → Type 0) → Grows old here P → Grows here new R → ((was mid now : LogTold) → P was mid → R mid now → Q was now) → Grows old new Q
told_on old here new P R Q g h k = by old.told here.told new.told g h
  where
    by : (a b c : Option LogTold) → IfSome b (λ mid. IsSomeAnd a (λ was. P was mid)) → IfSome c (λ now. IsSomeAnd b (λ mid. R mid now)) → IfSome c (λ now. IsSomeAnd a (λ was. Q was now))
    by a b None g h = tt
    by a None (Some now) g h = absurd h
    by None (Some mid) (Some now) g h = absurd g
    by (Some was) (Some mid) (Some now) g h = k was mid now g h

-- and what is told of the end
pub told_and : (old new : LogModel) (P Q : LogTold → LogTold → Type 0) (F : LogTold → Type 0) → Grows old new P → WhereTold new F → ((was now : LogTold) → P was now → F now → Q was now) → Grows old new Q
told_and old new P Q F g h k = by old.told new.told g h
  where
    by : (a c : Option LogTold) → IfSome c (λ now. IsSomeAnd a (λ was. P was now)) → IfSome c F → IfSome c (λ now. IsSomeAnd a (λ was. Q was now))
    by a None g h = tt
    by None (Some now) g h = absurd g
    by (Some was) (Some now) g h = k was now g h

-- two facts of the same two logs
pub told_both : (old new : LogModel) (P R Q : LogTold → LogTold → Type 0) → Grows old new P → Grows old new R → ((was now : LogTold) → P was now → R was now → Q was now) → Grows old new Q
told_both old new P R Q g h k = by old.told new.told g h
  where
    by : (a c : Option LogTold) → IfSome c (λ now. IsSomeAnd a (λ was. P was now)) → IfSome c (λ now. IsSomeAnd a (λ was. R was now)) → IfSome c (λ now. IsSomeAnd a (λ was. Q was now))
    by a None g h = tt
    by None (Some now) g h = absurd g
    by (Some was) (Some now) g h = k was now g h

pub told_so : (old new : LogModel) (P Q : LogTold → LogTold → Type 0) → Grows old new P → ((was now : LogTold) → P was now → Q was now) → Grows old new Q
told_so old new P Q g k = told_both old new P P Q g g (λ was now a b. k was now a)

-- of the end alone
pub where_and : (log : LogModel) (F G H : LogTold → Type 0) → WhereTold log F → WhereTold log G → ((now : LogTold) → F now → G now → H now) → WhereTold log H
where_and log F G H f g k = by log.told f g
  where
    by : (c : Option LogTold) → IfSome c F → IfSome c G → IfSome c H
    by None f g = tt
    by (Some now) f g = k now f g

pub where_so : (log : LogModel) (F G : LogTold → Type 0) → WhereTold log F → ((now : LogTold) → F now → G now) → WhereTold log G
where_so log F G f k = where_and log F F G f f (λ now a b. k now a)

pub where_grown : (old new : LogModel) (P : LogTold → LogTold → Type 0) (F : LogTold → Type 0) → Grows old new P → ((was now : LogTold) → P was now → F now) → WhereTold new F
where_grown old new P F g k = by old.told new.told g
  where
    by : (a c : Option LogTold) → IfSome c (λ now. IsSomeAnd a (λ was. P was now)) → IfSome c F
    by a None g = tt
    by None (Some now) g = absurd g
    by (Some was) (Some now) g = k was now g
