-- Proof made, and a text sent there.
use Rattle.std.proofs.Common.{◌≡◌, ◌<◌, ◌∙◌, ℕ, List, [], Option, Some, None, Result, Ok, Err, length, take, sym, subst, arith}
use Rattle.std.specs.Io.KnownBytes.{append_known}
use Rattle.std.specs.Prelude.{IfSome}
use Rattle.hw_desk.specs.Calls.{Tells, Makes}
use Rattle.hw_desk.specs.State.{DeskState, Rose}
use Rattle.hw_desk.specs.Whole.{SendsText}
use Rattle.hw_desk.specs.declared.desk.Tray.TheVariants.{Proof}
use Rattle.hw_desk.proofs.Chain.{only_tray_on}
use Rattle.hw_cert.proofs.Answered.{told_map}
use Rattle.hw_command.specs.Sending.{SendsTo}

-- what was sent after nothing
first_sent : (before now : Option (List ℕ)) (text : List ℕ) → IfSome before (λ bytes. bytes ≡ []) → Tells now (append_known before text) → IfSome now (λ bytes. bytes ≡ text)
first_sent before None text h e = tt
first_sent None (Some bytes) text h e = absurd (cc)
first_sent (Some was) (Some bytes) text h e = grind arith

-- the make failed
pub not_made : {E : Type 0} {name text : List ℕ} {x y : DeskState} (e : E) → 0 < length text → IfSome (x.trays Proof).sent (λ bytes. bytes ≡ []) → Makes Proof name x y (Err e) → SendsTo name text x y (Err e)
not_made {text = text} {x = x} {y = y} e some none h = record {
  only = h.only;
  made = h.made;
  named = h.named;
  answer = (h.cause, told_map (y.trays Proof).sent (λ bytes is. record { count = 0; proper = some; part = is }) (subst (λ (sent : Option (List ℕ)). IfSome sent (λ bytes. bytes ≡ [])) (sym h.failed) none));
}

-- the text was sent, or a part of it
pub sends_to : {E F : Type 0} {name text : List ℕ} {x y z : DeskState} (u : Unit) (r : Result Unit F) → Makes {E = E} Proof name x y (Ok u) → SendsText Proof text y z r → SendsTo name text x z r
sends_to {name = name} {text = text} {y = y} {z = z} u (Ok v) h k = record {
  only = only_tray_on h.only k.only;
  made = k.ok.made ∙ h.made;
  named = subst (λ (n : Option (List ℕ)). IfSome n (λ t. t ≡ name)) (sym k.ok.named) h.named;
  answer = (k.kept ∙ h.kept, first_sent (y.trays Proof).sent (z.trays Proof).sent text h.opened k.ok.sent);
}
sends_to {name = name} {text = text} {x = x} {y = y} {z = z} u (Err e) h k = record {
  only = only_tray_on h.only k.only;
  made = k.err.2.made ∙ h.made;
  named = subst (λ (n : Option (List ℕ)). IfSome n (λ t. t ≡ name)) (sym k.err.2.named) h.named;
  answer = (
    rose h.kept k.cause,
    told_map (z.trays Proof).sent (λ bytes is. record { count = k.err.0; proper = k.err.1; part = is }) (first_sent (y.trays Proof).sent (z.trays Proof).sent (take k.err.0 text) h.opened k.err.2.sent),
  );
}
  where
    rose : y.write_faults ≡ x.write_faults → Rose y.write_faults z.write_faults → Rose x.write_faults z.write_faults
    rose same r = omega arith
