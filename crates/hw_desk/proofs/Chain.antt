-- One call after another.
use Rattle.std.proofs.Common.{◌≡◌, ◌++◌, ℕ, List, Option, Some, None, refl, rules, ap, sym, ◌∙◌, arith, append_assoc, append-nil, length-drop, length-append, Result, Err, ◌-◌, Ok, subst, IfSome, take, drop, length, ◌≤◌, ◌<◌, ◌+◌}
use Rattle.std.proofs.lemmas.Grind.{common_steps}
use Rattle.std.specs.Io.KnownBytes.{prepend_known, append_known, IsAtEnd}
use Rattle.hw_desk.specs.State.{DeskState, CanSend, Rose}
use Rattle.hw_desk.specs.Calls.{OnlyFeed, OnlyTray, Moves, Sends, Reads, Writes, Tells}
use Rattle.hw_desk.specs.declared.desk.Feed.{Feed}
use Rattle.hw_desk.specs.declared.desk.Tray.{Tray}
use Rattle.hw_desk.specs.declared.desk.Tray.TheVariants.{Report, Proof}
use Rattle.std.proofs.Math.Seq.{take-add, take-append_seam, drop-append_seam}
use Rattle.hw_desk.specs.Whole.{SendsText}

prepended : (a b : List ℕ) (known : Option (List ℕ)) → prepend_known a (prepend_known b known) ≡ prepend_known (a ++ b) known
prepended a b None = refl
prepended a b (Some xs) = ap Some (sym (append_assoc a b xs))

appended : (known : Option (List ℕ)) (a b : List ℕ) → append_known (append_known known a) b ≡ append_known known (a ++ b)
appended None a b = refl
appended (Some xs) a b = ap Some (append_assoc xs a b)

pub only_feed_on : {f : Feed} {x y z : DeskState} → OnlyFeed f x y → OnlyFeed f y z → OnlyFeed f x z
only_feed_on h k = search (rules, common_steps)

pub only_tray_on : {t : Tray} {x y z : DeskState} → OnlyTray t x y → OnlyTray t y z → OnlyTray t x z
only_tray_on h k = search (rules, common_steps)

-- what two calls move
pub moves_on : {f : Feed} {a b : List ℕ} {x y z : DeskState} → Moves f a x y → Moves f b y z → (whole : List ℕ) → whole ≡ a ++ b → Moves f whole x z
moves_on {f = f} {a = a} {b = b} {z = z} h k whole e = record {
  only = only_feed_on h.only k.only;
  begun = cc;
  named = cc;
  left = h.left ∙ ap (prepend_known a) k.left ∙ prepended a b (z.feeds f).left ∙ ap (λ bytes. prepend_known bytes (z.feeds f).left) (sym e);
}

told_by : (a : List ℕ) (x y : Option (List ℕ)) (ys : List ℕ) → Tells y (append_known x a) → y ≡ Some ys → append_known x a ≡ Some ys
told_by a x None ys h e = absurd (cc)
told_by a x (Some zs) ys h e = h ∙ e

parts_told : (b : List ℕ) (y : Option (List ℕ)) (zs : List ℕ) → append_known y b ≡ Some zs → (ys : List ℕ) × (y ≡ Some ys)
parts_told b None zs e = absurd (cc)
parts_told b (Some ys) zs e = (ys, refl)

-- what two calls tell
tells_on : (a b : List ℕ) (x y z : Option (List ℕ)) → Tells y (append_known x a) → Tells z (append_known y b) → Tells z (append_known x (a ++ b))
tells_on a b x y None h k = tt
tells_on a b x y (Some zs) h k =
    let p = parts_told b y zs k in
    sym (appended x a b) ∙ ap (λ known. append_known known b) (told_by a x y p.0 h p.1 ∙ sym p.1) ∙ k

-- what two calls send
pub sends_on : {t : Tray} {a b : List ℕ} {x y z : DeskState} → Sends t a x y → Sends t b y z → (whole : List ℕ) → whole ≡ a ++ b → Sends t whole x z
sends_on {t = t} {a = a} {b = b} {x = x} {y = y} {z = z} h k whole e = record {
  only = only_tray_on h.only k.only;
  made = cc;
  named = cc;
  sent = subst (λ (bytes : List ℕ). Tells (z.trays t).sent (append_known (x.trays t).sent bytes)) (sym e) (tells_on a b (x.trays t).sent (y.trays t).sent (z.trays t).sent h.sent k.sent);
}

-- what is moved was left
pub moved_was_left : {f : Feed} {bytes : List ℕ} {x y : DeskState} → Moves f bytes x y → IfSome (x.feeds f).left (λ left. length bytes ≤ length left)
moved_was_left {f = f} {bytes = bytes} {x = x} {y = y} h = subst (λ (known : Option (List ℕ)). IfSome known (λ left. length bytes ≤ length left)) (sym h.left) (long bytes (y.feeds f).left)
  where
    long : (bs : List ℕ) (known : Option (List ℕ)) → IfSome (prepend_known bs known) (λ left. length bs ≤ length left)
    long bs None = tt
    long bs (Some xs) = grind (arith, common_steps)

-- a read of nothing ends the feed
pub nothing_read : {E : Type 0} {f : Feed} {a into : List ℕ} {x y z : DeskState} {n : ℕ} → Moves f a x y → Reads {E = E} f into y z (Ok n) → n ≡ 0 → Moves f a x z × IsAtEnd (z.feeds f).left
nothing_read {a = a} {into = into} h r e = (moves_on h r.moved a (rw e (sym (append-nil a))), r.ended e)

-- all that was left was moved
pub all_moved : {f : Feed} {a : List ℕ} {x z : DeskState} → Moves f a x z → IsAtEnd (z.feeds f).left → IfSome (x.feeds f).left (λ left. left ≡ a)
all_moved {f = f} {a = a} {x = x} {z = z} h end = whole (x.feeds f).left (z.feeds f).left h.left end
  where
    whole : (before after : Option (List ℕ)) → before ≡ prepend_known a after → IsAtEnd after → IfSome before (λ left. left ≡ a)
    whole None after e at_end = tt
    whole (Some left) None e at_end = absurd (cc)
    whole (Some left) (Some more) e at_end = grind (arith, common_steps)

-- a read past a limit shows that more was left
pub read_past : {E : Type 0} {f : Feed} {a into : List ℕ} {x y z : DeskState} {n : ℕ} (limit : ℕ) → Moves f a x y → Reads {E = E} f into y z (Ok n) → length a ≤ limit → limit - length a < n → IfSome (x.feeds f).left (λ left. limit < length left)
read_past {f = f} {a = a} {into = into} {x = x} {n = n} limit h r le lt = past (x.feeds f).left (moved_was_left (moves_on h r.moved (a ++ take n into) refl))
  where
    past : (known : Option (List ℕ)) → IfSome known (λ left. length (a ++ take n into) ≤ length left) → IfSome known (λ left. limit < length left)
    past None p = tt
    past (Some left) p = let bound = r.bound in grind (arith, common_steps)

-- a tray that could be written to can be
pub can_still : {t : Tray} {bytes : List ℕ} {x y : DeskState} → CanSend t x → Sends t bytes x y → CanSend t y
can_still {t = Report} can h = refl
can_still {t = Proof} can h = h.made ∙ can

-- one more write of a text, offered what is left of it
pub one_write : {E : Type 0} {t : Tray} {x y z : DeskState} {n : ℕ} {rest : List ℕ} (text : List ℕ) (at : ℕ) → rest ≡ drop at text → at ≤ length text → Sends t (take at text) x y → Writes {E = E} t rest y z (Ok n) → Sends t (take (at + n) text) x z × (at + n ≤ length text)
one_write {t = t} {x = x} {y = y} {z = z} {n = n} {rest = rest} text at e le h w =
    let part : Sends t (take n (drop at text)) y z = subst (λ (bytes : List ℕ). Sends t (take n bytes) y z) e w.sent in
    let fits : n ≤ length (drop at text) = subst (λ (bytes : List ℕ). n ≤ length bytes) e w.bound.1 in
    (sends_on h part (take (at + n) text) (take-add at n text), omega (arith, fits, length-drop at text))

-- a rise after a step is a rise
pub rose_past : (a b c : ℕ) → b ≡ a → Rose b c → Rose a c
rose_past a b c e h = omega (arith, e, h)

pub rose_on : {a b c : ℕ} → a ≤ b → Rose b c → Rose a c
rose_on h k = omega arith

-- one text after another
pub text_on : {E : Type 0} {t : Tray} {a b : List ℕ} {x y z : DeskState} {r : Result Unit E} → Sends t a x y → y.write_faults ≡ x.write_faults → SendsText t b y z r → SendsText t (a ++ b) x z r
text_on {t = t} {a = a} {b = b} {x = x} {z = z} {r = Ok u} h kept k = record { only = only_tray_on h.only k.only; ok = sends_on h k.ok (a ++ b) refl; err = tt; cause = tt; kept = k.kept ∙ kept }
text_on {t = t} {a = a} {b = b} {x = x} {z = z} {r = Err e} h kept k = record {
  only = only_tray_on h.only k.only;
  ok = tt;
  err = (length a + k.err.0, simp length-append (omega (arith, k.err.1)), sends_on h k.err.2 (take (length a + k.err.0) (a ++ b)) (front a b k.err.0));
  cause = rose_on h.only.later k.cause;
  kept = tt;
}
  where
    front : (a b : List ℕ) (n : ℕ) → take (length a + n) (a ++ b) ≡ a ++ take n b
    front a b n = rw (take-add (length a) n (a ++ b), take-append_seam a b, drop-append_seam a b) refl
