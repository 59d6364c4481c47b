-- What a writer was given: one text after another.
use Rattle.std.proofs.Common.{◌≡◌, ◌++◌, ◌≤◌, ◌<◌, ◌+◌, ◌∙◌, ℕ, List, [], Option, Some, None, Result, Ok, Err, is_err, Bool, true, false, refl, ap, sym, subst, arith, append_assoc, append-nil, length, take, length-append}
use Rattle.std.specs.Io.KnownBytes.{append_known}
use Rattle.std.proofs.Math.Path.{fun_ext}
use Rattle.std.proofs.lemmas.List.{take-append-le}
use Rattle.hw_desk.specs.State.{DeskState, TrayState, put_tray, Rose}
use Rattle.hw_desk.specs.Calls.{Sends, Tells}
use Rattle.hw_desk.specs.Whole.{SendsText}
use Rattle.hw_desk.specs.Writers.{WriterState, WasGiven, Puts, Opens, Flushes, answer_of}
use Rattle.hw_desk.specs.declared.desk.Tray.{Tray}
use Rattle.hw_desk.specs.declared.desk.Tray.TheVariants.{Report, Proof}
use Rattle.hw_desk.proofs.Chain.{sends_on, text_on}

-- nothing more was given
pub puts_nothing : (x : WriterState) → Puts [] x x
puts_nothing x = record {
  borrow = refl;
  tray = refl;
  given = λ before start h. subst (λ (t : List ℕ). WasGiven t start x) (sym (append-nil before)) h;
  fits = λ going fits. (going, sym (append-nil x.waiting), refl);
  ended = λ spent. (spent, refl);
}

-- one text and then another
pub puts_on : {a b : List ℕ} {x y z : WriterState} → Puts a x y → Puts b y z → Puts (a ++ b) x z
puts_on {a = a} {b = b} {x = x} {y = y} {z = z} h k = record {
  borrow = k.borrow ∙ h.borrow;
  tray = k.tray ∙ h.tray;
  given = λ before start w. subst (λ (t : List ℕ). WasGiven t start z) (append_assoc before a b) (k.given (before ++ a) start (h.given before start w));
  fits = λ going fits. both going (subst (λ (n : ℕ). length x.waiting + n ≤ 8192) (length-append a b) fits);
  ended = λ spent. let one = h.ended spent in let two = k.ended one.0 in (two.0, two.1 ∙ one.1);
}
  where
    both : x.spent ≡ false → length x.waiting + (length a + length b) ≤ 8192 → (z.spent ≡ false) × (z.waiting ≡ x.waiting ++ (a ++ b)) × (z.desk ≡ x.desk)
    both going fits =
        let one = h.fits going (omega (arith, fits)) in
        let long : length y.waiting ≡ length x.waiting + length a = ap length one.1 ∙ length-append x.waiting a in
        let two = k.fits one.0 (omega (arith, fits, long)) in
        (two.0, two.1 ∙ ap (λ (t : List ℕ). t ++ b) one.1 ∙ append_assoc x.waiting a b, two.2 ∙ one.2)

-- the same text, spelled otherwise
pub puts_same : {a : List ℕ} {x y : WriterState} → (b : List ℕ) → b ≡ a → Puts a x y → Puts b x y
puts_same {x = x} {y = y} b e h = subst (λ (t : List ℕ). Puts t x y) (sym e) h

pub tells_nothing : (known : Option (List ℕ)) → Tells known (append_known known [])
tells_nothing None = tt
tells_nothing (Some bytes) = ap Some (append-nil bytes)

same_trays : (trays : Tray → TrayState) (tray t : Tray) → trays t ≡ put_tray trays tray (trays tray) t
same_trays trays Report Report = refl
same_trays trays Report Proof = refl
same_trays trays Proof Report = refl
same_trays trays Proof Proof = refl

sends_nothing : (t : Tray) (s : DeskState) → Sends t [] s s
sends_nothing t s = record {
  only = record { held = refl; feeds = refl; trays = fun_ext (same_trays s.trays t); read_faults = refl; later = omega arith };
  made = refl;
  named = refl;
  sent = tells_nothing (s.trays t).sent;
}

-- what waits was sent, and then bytes after it, or a write failed
pub after_send : {E : Type 0} {t : Tray} {sent bytes : List ℕ} {start mid : DeskState} {now : WriterState} {r : Result Unit E} → Sends t sent start mid → mid.write_faults ≡ start.write_faults → SendsText t bytes mid now.desk r → now.tray ≡ t → now.waiting ≡ [] → now.spent ≡ is_err r → WasGiven (sent ++ bytes) start now
after_send {t = t} {sent = sent} {bytes = bytes} {start = start} {mid = mid} {now = now} {r = Ok u} h faults k tray waiting spent = record {
  going = λ e. record {
    sent = sent ++ bytes;
    whole = sym (append-nil (sent ++ bytes)) ∙ ap (λ (w : List ℕ). (sent ++ bytes) ++ w) (sym waiting);
    sends = subst (λ (tr : Tray). Sends tr (sent ++ bytes) start now.desk) (sym tray) (sends_on h k.ok (sent ++ bytes) refl);
    kept = k.kept ∙ faults;
  };
  stopped = λ e. absurd (cc);
}
after_send {t = t} {sent = sent} {bytes = bytes} {start = start} {mid = mid} {now = now} {r = Err f} h faults k tray waiting spent =
    let all = text_on h faults k in
    record {
      going = λ e. absurd (cc);
      stopped = λ e. record {
        count = all.err.0;
        proper = all.err.1;
        sends = subst (λ (tr : Tray). Sends tr (take all.err.0 (sent ++ bytes)) start now.desk) (sym tray) all.err.2;
        cause = all.cause;
      };
    }

opened : {t : Tray} {s : DeskState} {x : WriterState} → Opens t s x → WasGiven [] s x
opened {t = t} {s = s} {x = x} h = record {
  going = λ e. record {
    sent = [];
    whole = sym h.waiting;
    sends = subst (λ (d : DeskState). Sends x.tray [] s d) (sym h.desk) (sends_nothing x.tray s);
    kept = ap (λ (d : DeskState). d.write_faults) h.desk;
  };
  stopped = λ e. absurd (cc);
}

-- what is given between opening and flushing is sent, or a proper prefix of it
pub text_sent : {E : Type 0} {t : Tray} {text : List ℕ} {s : DeskState} {x y z : WriterState} {r : Result Unit E} → Opens t s x → Puts text x y → Flushes y z r → SendsText t text s z.desk r
text_sent {t = t} {text = text} {s = s} {x = x} {y = y} {z = z} {r = r} o p f = by_answer r f.spent
  where
    tray : z.tray ≡ t
    tray = f.tray ∙ p.tray ∙ o.tray

    all : WasGiven text s z
    all = f.given text s (p.given [] s (opened o))

    by_answer : {E : Type 0} (r : Result Unit E) → z.spent ≡ is_err r → SendsText t text s z.desk r
    by_answer (Ok u) e =
        let w = all.going e in
        let sent : text ≡ w.sent = w.whole ∙ ap (λ (b : List ℕ). w.sent ++ b) f.waiting ∙ append-nil w.sent in
        let sends : Sends t text s z.desk = subst (λ (b : List ℕ). Sends t b s z.desk) (sym sent) (subst (λ (tr : Tray). Sends tr w.sent s z.desk) tray w.sends) in
        record { only = sends.only; ok = sends; err = tt; cause = tt; kept = w.kept }
    by_answer (Err g) e =
        let w = all.stopped e in
        let sends : Sends t (take w.count text) s z.desk = subst (λ (tr : Tray). Sends tr (take w.count text) s z.desk) tray w.sends in
        record { only = sends.only; ok = tt; err = (w.count, w.proper, sends); cause = w.cause; kept = tt }

-- bytes more wait
pub puts_kept : (x : WriterState) (bytes : List ℕ) → Puts bytes x (record x { waiting = x.waiting ++ bytes })
puts_kept x bytes = record {
  borrow = refl;
  tray = refl;
  given = λ before start w. record {
    going = λ e. let was = w.going e in record { sent = was.sent; whole = ap (λ (t : List ℕ). t ++ bytes) was.whole ∙ append_assoc was.sent x.waiting bytes; sends = was.sends; kept = was.kept };
    stopped = λ e. let was = w.stopped e in record {
      count = was.count;
      proper = subst (λ (n : ℕ). was.count < n) (sym (length-append before bytes)) (omega (arith, was.proper));
      sends = subst (λ (t : List ℕ). Sends x.tray t start x.desk) (sym (take-append-le was.count before bytes (omega (arith, was.proper)))) was.sends;
      cause = was.cause;
    };
  };
  fits = λ going fits. (going, refl, refl);
  ended = λ spent. (spent, refl);
}

-- bytes are sent where nothing waits
pub puts_sent : {E : Type 0} (x y : WriterState) (bytes : List ℕ) (r : Result Unit E) → y.borrow ≡ x.borrow → y.tray ≡ x.tray → x.waiting ≡ [] → y.waiting ≡ [] → 8192 < length bytes → (x.spent ≡ true → (y.spent ≡ true) × (y.desk ≡ x.desk)) → (x.spent ≡ false → SendsText x.tray bytes x.desk y.desk r × (y.spent ≡ is_err r)) → Puts bytes x y
puts_sent x y bytes r borrow tray none still long stays sends = record {
  borrow = borrow;
  tray = tray;
  given = λ before start w. by_case before start w x.spent refl;
  fits = λ going fits. absurd (omega (arith, fits, long));
  ended = stays;
}
  where
    by_case : (before : List ℕ) (start : DeskState) → WasGiven before start x → (b : Bool) → x.spent ≡ b → WasGiven (before ++ bytes) start y
    by_case before start w false e =
        let was = w.going e in
        let now = sends e in
        let all : before ≡ was.sent = was.whole ∙ ap (λ (t : List ℕ). was.sent ++ t) none ∙ append-nil was.sent in
        subst (λ (t : List ℕ). WasGiven (t ++ bytes) start y) (sym all) (after_send was.sends was.kept now.0 tray still now.1)
    by_case before start w true e =
        let more = (puts_kept x bytes).given before start w in
        let now = stays e in
        record {
          going = λ g. absurd (cc);
          stopped = λ g. let was = more.stopped e in record {
            count = was.count;
            proper = was.proper;
            sends = subst (λ (d : DeskState). Sends y.tray (take was.count (before ++ bytes)) start d) (sym now.1) (subst (λ (t : Tray). Sends t (take was.count (before ++ bytes)) start x.desk) (sym tray) was.sends);
            cause = subst (λ (d : DeskState). Rose start.write_faults d.write_faults) (sym now.1) was.cause;
          };
        }

-- the bytes that wait are sent, if no write failed before
pub flushed : {E F : Type 0} (x y : WriterState) (r : Result Unit E) (answer : Result Unit F) → y.borrow ≡ x.borrow → y.tray ≡ x.tray → y.waiting ≡ [] → y.spent ≡ is_err answer → (x.spent ≡ true → (y.spent ≡ true) × (y.desk ≡ x.desk)) → (x.spent ≡ false → SendsText x.tray x.waiting x.desk y.desk r × (y.spent ≡ is_err r)) → Flushes x y answer
flushed x y r answer borrow tray none spent stays sends = record {
  borrow = borrow;
  tray = tray;
  waiting = none;
  spent = spent;
  given = λ text start w. by_case text start w x.spent refl;
  ended = stays;
}
  where
    by_case : (text : List ℕ) (start : DeskState) → WasGiven text start x → (b : Bool) → x.spent ≡ b → WasGiven text start y
    by_case text start w false e =
        let was = w.going e in
        let now = sends e in
        subst (λ (t : List ℕ). WasGiven t start y) (sym was.whole) (after_send was.sends was.kept now.0 tray none now.1)
    by_case text start w true e =
        let was = w.stopped e in
        let now = stays e in
        record {
          going = λ g. absurd (cc);
          stopped = λ g. record {
            count = was.count;
            proper = was.proper;
            sends = subst (λ (d : DeskState). Sends y.tray (take was.count text) start d) (sym now.1) (subst (λ (t : Tray). Sends t (take was.count text) start x.desk) (sym tray) was.sends);
            cause = subst (λ (d : DeskState). Rose start.write_faults d.write_faults) (sym now.1) was.cause;
          };
        }

-- a text that didn't fit beside the waiting bytes goes after them
pub flush_then_put : {E : Type 0} {text : List ℕ} {x y z : WriterState} {r : Result Unit E} → 8192 < length x.waiting + length text → Flushes x y r → Puts text y z → Puts text x z
flush_then_put long f p = record {
  borrow = p.borrow ∙ f.borrow;
  tray = p.tray ∙ f.tray;
  given = λ before start w. p.given before start (f.given before start w);
  fits = λ going fits. absurd (omega (arith, fits, long));
  ended = λ spent. let one = f.ended spent in let two = p.ended one.0 in (two.0, two.1 ∙ one.1);
}

pub answered : (b : Bool) → b ≡ is_err (answer_of b)
answered true = refl
answered false = refl
