-- What is told of a log that took lines one after another.
use Rattle.std.proofs.Common.{◌≡◌, ℕ, zero, suc, ◌+◌, ◌≤◌, List, [], ◌∷◌, ◌++◌, Option, Some, None, IfSome, IsSomeAnd, length, take, slice_get, refl, sym, ap, ◌∙◌, subst, arith, append-nil, append_assoc}
use Rattle.std.specs.Prelude.{Ok, Err}
use Rattle.hw_desk.specs.State.{Rose}
use Rattle.hw_cert_lines.specs.declared.line.Line.{Line}
use Rattle.hw_cert.specs.declared.log.LogStop.{LogStop}
use Rattle.hw_cert.specs.declared.log.LogStop.TheVariants as stops
use Rattle.hw_cert.specs.Logs.{LogTold, LogModel, WhereTold, Grows, IsWhole, TellsLine, TakesLine, IsBegunLine}
use Rattle.hw_search_ledger.specs.Handing.{TakesAll, StopCause, StopRemainder, StopsAfter, StopsWithin}

-- ---- what is told

pub grows_by : (old new : LogModel) (R Q : LogTold → LogTold → Type 0) → ((was now : LogTold) → R was now → Q was now) → Grows old new R → Grows old new Q
grows_by old new R Q h g = by old.told new.told g
  where
    by : (a b : Option LogTold) → IfSome b (λ now. IsSomeAnd a (λ was. R was now)) → IfSome b (λ now. IsSomeAnd a (λ was. Q was now))
    by a None g = tt
    by None (Some now) g = absurd g
    by (Some was) (Some now) g = h was now g

pub grows_on : (old mid new : LogModel) (R S Q : LogTold → LogTold → Type 0) → ((was now then : LogTold) → R was now → S now then → Q was then) → Grows old mid R → Grows mid new S → Grows old new Q
grows_on old mid new R S Q h g k = by old.told mid.told new.told g k
  where
    by : (a b c : Option LogTold) → IfSome b (λ now. IsSomeAnd a (λ was. R was now)) → IfSome c (λ then. IsSomeAnd b (λ now. S now then)) → IfSome c (λ then. IsSomeAnd a (λ was. Q was then))
    by a b None g k = tt
    by a None (Some then) g k = absurd k
    by None (Some now) (Some then) g k = absurd g
    by (Some was) (Some now) (Some then) g k = h was now then g k

-- a condition on what was told, and how that grew
pub grown_with : (old new : LogModel) (R Q : LogTold → LogTold → Type 0) (P : LogTold → Type 0) → ((was now : LogTold) → P was → R was now → Q was now) → WhereTold old P → Grows old new R → Grows old new Q
grown_with old new R Q P h p g = by old.told new.told p g
  where
    by : (a b : Option LogTold) → IfSome a P → IfSome b (λ now. IsSomeAnd a (λ was. R was now)) → IfSome b (λ now. IsSomeAnd a (λ was. Q was now))
    by a None p g = tt
    by None (Some now) p g = absurd g
    by (Some was) (Some now) p g = h was now p g

pub grown_to : (old new : LogModel) (R : LogTold → LogTold → Type 0) (Q : LogTold → Type 0) → ((was now : LogTold) → R was now → Q now) → Grows old new R → WhereTold new Q
grown_to old new R Q h g = by old.told new.told g
  where
    by : (a b : Option LogTold) → IfSome b (λ now. IsSomeAnd a (λ was. R was now)) → IfSome b Q
    by a None g = tt
    by None (Some now) g = absurd g
    by (Some was) (Some now) g = h was now g

pub told_by : (log : LogModel) (P Q : LogTold → Type 0) → ((now : LogTold) → P now → Q now) → WhereTold log P → WhereTold log Q
told_by log P Q h p = by log.told p
  where
    by : (a : Option LogTold) → IfSome a P → IfSome a Q
    by None p = tt
    by (Some now) p = h now p

-- nothing was handed
pub grows_none : (log : LogModel) (Q : LogTold → LogTold → Type 0) (P : LogTold → Type 0) → ((now : LogTold) → P now → Q now now) → WhereTold log P → Grows log log Q
grows_none log Q P h p = by log.told p
  where
    by : (a : Option LogTold) → IfSome a P → IfSome a (λ now. IsSomeAnd a (λ was. Q was now))
    by None p = tt
    by (Some now) p = h now p

-- ---- parts of plans

pub take_front : {A : Type 0} (xs ys : List A) (n : ℕ) → n ≤ length xs → take n (xs ++ ys) ≡ take n xs
take_front [] ys zero le = take_zero ys
  where
    take_zero : {A : Type 0} (ys : List A) → take 0 ys ≡ []
    take_zero [] = refl
    take_zero (y ∷ ys) = refl
take_front [] ys (suc n) le = absurd (omega (arith, le))
take_front (x ∷ xs) ys zero le = refl
take_front (x ∷ xs) ys (suc n) le = ap (λ zs. x ∷ zs) (take_front xs ys n (omega (arith, le)))

pub take_past : {A : Type 0} (xs ys : List A) (n : ℕ) → take (length xs + n) (xs ++ ys) ≡ xs ++ take n ys
take_past [] ys n = ap (λ k. take k ys) (let e : 0 + n ≡ n = omega arith in e)
take_past (x ∷ xs) ys n = ap (λ k. take k (x ∷ (xs ++ ys))) (let e : suc (length xs) + n ≡ suc (length xs + n) = omega arith in e) ∙ ap (λ zs. x ∷ zs) (take_past xs ys n)

pub get_past : {A : Type 0} (xs ys : List A) (n : ℕ) → slice_get (xs ++ ys) (length xs + n) ≡ slice_get ys n
get_past [] ys n = ap (slice_get ys) (let e : 0 + n ≡ n = omega arith in e)
get_past (x ∷ xs) ys n = ap (slice_get (x ∷ (xs ++ ys))) (let e : suc (length xs) + n ≡ suc (length xs + n) = omega arith in e) ∙ get_past xs ys n

pub get_front : {A : Type 0} (xs ys : List A) (n : ℕ) (P : A → Type 0) → IsSomeAnd (slice_get xs n) P → IsSomeAnd (slice_get (xs ++ ys) n) P
get_front [] ys n P h = absurd h
get_front (x ∷ xs) ys zero P h = h
get_front (x ∷ xs) ys (suc n) P h = get_front xs ys n P h

after_front : (stop : LogStop) (xs ys : List Line) (n : ℕ) (remainder : List ℕ) → StopRemainder stop (slice_get xs n) remainder → StopRemainder stop (slice_get (xs ++ ys) n) remainder
after_front stops.Failed xs ys n remainder h = get_front xs ys n (λ line. IsBegunLine line remainder) h
after_front stops.NoMemory xs ys n remainder h = h

-- ---- one line after another

pub all_none : (log : LogModel) → IsWhole log → TakesAll [] log log
all_none log whole = record {
  faults = refl;
  told = grows_none log (λ was now. (now.lines ≡ was.lines ++ []) × (now.remainder ≡ [])) (λ told. told.remainder ≡ []) (λ now h. (sym (append-nil now.lines), h)) whole;
}

pub all_whole : (plan : List Line) (old new : LogModel) → TakesAll plan old new → IsWhole new
all_whole plan old new t = grown_to old new (λ was now. (now.lines ≡ was.lines ++ plan) × (now.remainder ≡ [])) (λ now. now.remainder ≡ []) (λ was now h. h.1) t.told

pub all_on : (p q : List Line) (old mid new : LogModel) → TakesAll p old mid → TakesAll q mid new → TakesAll (p ++ q) old new
all_on p q old mid new a b = record {
  faults = b.faults ∙ a.faults;
  told = grows_on old mid new (λ was now. (now.lines ≡ was.lines ++ p) × (now.remainder ≡ [])) (λ was now. (now.lines ≡ was.lines ++ q) × (now.remainder ≡ [])) (λ was now. (now.lines ≡ was.lines ++ (p ++ q)) × (now.remainder ≡ []))
      (λ was now then h k. (k.0 ∙ ap (λ xs. xs ++ q) h.0 ∙ append_assoc was.lines p q, k.1)) a.told b.told;
}

pub cause_on : (stop : LogStop) (old mid new : LogModel) → mid.faults ≡ old.faults → StopCause stop mid new → StopCause stop old new
cause_on stops.Failed old mid new e h = subst (λ n. Rose n new.faults) e h
cause_on stops.NoMemory old mid new e h = h ∙ e

pub stop_on : (stop : LogStop) (p q : List Line) (most : ℕ) (old mid new : LogModel) → TakesAll p old mid → StopsWithin stop q most mid new → StopsWithin stop (p ++ q) (length p + most) old new
stop_on stop p q most old mid new a b = record {
  later = omega (arith, a.faults, b.later);
  cause = cause_on stop old mid new a.faults b.cause;
  told = grows_on old mid new (λ was now. (now.lines ≡ was.lines ++ p) × (now.remainder ≡ [])) (λ was now. (count : ℕ) × (count ≤ most) × StopsAfter stop q count was now) (λ was now. (count : ℕ) × (count ≤ length p + most) × StopsAfter stop (p ++ q) count was now)
      (λ was now then h k. (
        length p + k.0,
        omega (arith, k.1),
        record {
          lines = k.2.lines ∙ ap (λ xs. xs ++ take k.0 q) h.0 ∙ append_assoc was.lines p (take k.0 q) ∙ ap (λ xs. was.lines ++ xs) (sym (take_past p q k.0));
          remainder = subst (λ o. StopRemainder stop o then.remainder) (sym (get_past p q k.0)) k.2.remainder;
        },
      )) a.told b.told;
}

-- the plan was longer
pub stop_in : (stop : LogStop) (p q : List Line) (most : ℕ) (old new : LogModel) → most ≤ length p → StopsWithin stop p most old new → StopsWithin stop (p ++ q) most old new
stop_in stop p q most old new le a = record {
  later = a.later;
  cause = a.cause;
  told = grows_by old new (λ was now. (count : ℕ) × (count ≤ most) × StopsAfter stop p count was now) (λ was now. (count : ℕ) × (count ≤ most) × StopsAfter stop (p ++ q) count was now)
      (λ was now k. (
        k.0,
        k.1,
        record {
          lines = k.2.lines ∙ ap (λ xs. was.lines ++ xs) (sym (take_front p q k.0 (omega (arith, k.1, le))));
          remainder = after_front stop p q k.0 now.remainder k.2.remainder;
        },
      )) a.told;
}

pub stop_more : (stop : LogStop) (p : List Line) (least most : ℕ) (old new : LogModel) → least ≤ most → StopsWithin stop p least old new → StopsWithin stop p most old new
stop_more stop p least most old new le a = record {
  later = a.later;
  cause = a.cause;
  told = grows_by old new (λ was now. (count : ℕ) × (count ≤ least) × StopsAfter stop p count was now) (λ was now. (count : ℕ) × (count ≤ most) × StopsAfter stop p count was now) (λ was now k. (k.0, omega (arith, k.1, le), k.2)) a.told;
}

-- memory ran out after all of a plan
pub memory_after : (p : List Line) (old new : LogModel) → TakesAll p old new → StopsWithin stops.NoMemory p (length p) old new
memory_after p old new a = record {
  later = omega (arith, a.faults);
  cause = a.faults;
  told = grows_by old new (λ was now. (now.lines ≡ was.lines ++ p) × (now.remainder ≡ [])) (λ was now. (count : ℕ) × (count ≤ length p) × StopsAfter stops.NoMemory p count was now)
      (λ was now h. (length p, omega arith, record { lines = h.0 ∙ ap (λ xs. was.lines ++ xs) (sym (take_all p)); remainder = h.1 })) a.told;
}
  where
    take_all : (p : List Line) → take (length p) p ≡ p
    take_all [] = refl
    take_all (x ∷ xs) = ap (λ zs. x ∷ zs) (take_all xs)

-- ---- a line

pub one_taken : (line : Line) (old new : LogModel) (done : Unit {0}) → TakesLine line old new (Ok done) → TakesAll (line ∷ []) old new
one_taken line old new done t = record { faults = t.cause; told = t.lines }

one_cause : (line : Line) (stop : LogStop) (old new : LogModel) → TakesLine line old new (Err stop) → StopCause stop old new
one_cause line stops.Failed old new t = t.cause
one_cause line stops.NoMemory old new t = t.cause

one_tells : (line : Line) (stop : LogStop) (was now : LogTold) → was.remainder ≡ [] → TellsLine line (Err stop) was now → StopsAfter stop (line ∷ []) 0 was now
one_tells line stops.Failed was now w h = record { lines = h.0 ∙ sym (append-nil was.lines); remainder = h.1 }
one_tells line stops.NoMemory was now w h = record { lines = ap (λ (t : LogTold). t.lines) h ∙ sym (append-nil was.lines); remainder = ap (λ (t : LogTold). t.remainder) h ∙ w }

pub one_stopped : (line : Line) (stop : LogStop) (old new : LogModel) → IsWhole old → TakesLine line old new (Err stop) → StopsWithin stop (line ∷ []) 0 old new
one_stopped line stop old new whole t = record {
  later = t.later;
  cause = one_cause line stop old new t;
  told = grown_with old new (TellsLine line (Err stop)) (λ was now. (count : ℕ) × (count ≤ 0) × StopsAfter stop (line ∷ []) count was now) (λ told. told.remainder ≡ []) (λ was now w h. (0, omega arith, one_tells line stop was now w h)) whole t.lines;
}

-- nothing was handed, since memory ran out
pub no_memory : (plan : List Line) (log : LogModel) → IsWhole log → StopsWithin stops.NoMemory plan 0 log log
no_memory plan log whole = record {
  later = omega arith;
  cause = refl;
  told = grows_none log (λ was now. (count : ℕ) × (count ≤ 0) × StopsAfter stops.NoMemory plan count was now) (λ told. told.remainder ≡ []) (λ now h. (0, omega arith, record { lines = sym (ap (λ xs. now.lines ++ xs) (take_none plan) ∙ append-nil now.lines); remainder = h })) whole;
}
  where
    take_none : (p : List Line) → take 0 p ≡ []
    take_none [] = refl
    take_none (x ∷ xs) = refl
