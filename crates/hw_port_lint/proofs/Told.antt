-- What is said of bytes that are a text, or the text of a value.
use Rattle.std.proofs.Common.{◌≡◌, ◌∙◌, ℕ, Bool, true, false, List, Option, Some, None, Result, Ok, Err, is_ok, ap, refl, sym}
use Rattle.std.specs.Prelude.{IfOk, MatchResult, Vec}
use Rattle.std.specs.Str.{IsUtf8, is_utf8}
use Rattle.std.proofs.lemmas.Str.{IsUtf8-from_is_utf8, is_utf8-from_IsUtf8}
use Rattle.std.specs.declared.alloc.Global.{Global}
use Rattle.hw_model.specs.declared.memory.NoMemory.{NoMemory}
use Rattle.serde_json.specs.Data.{Data}
use Rattle.serde_json.specs.Errors.{IsMemory}
use Rattle.serde_json.specs.declared.error.Error.{Error}
use Rattle.serde_json.specs.Read.{read}
use Rattle.hw_port.specs.declared.fault.PortFault.{PortFault}
use Rattle.hw_port_lint.specs.Instances.{IsBreak, IsFieldTold, break_hints, field_hint}

no_text : (b : Bool) → (b ≡ true → ⊥) → false ≡ b
no_text true h = absurd (h refl)
no_text false h = refl

pub text_told : {A B : Type 0} (P : A → Type 0) (Q : B → Type 0) (r : Result A B) (bytes : List ℕ) → MatchResult r (λ s. P s × IsUtf8 bytes) (λ e. ¬ (IsUtf8 bytes) × Q e) → is_ok r ≡ is_utf8 bytes
text_told P Q (Ok s) bytes h = sym (is_utf8-from_IsUtf8 bytes h.1)
text_told P Q (Err e) bytes h = no_text (is_utf8 bytes) (λ is. h.0 (IsUtf8-from_is_utf8 bytes is))

one_value : {d e : Data} (o : Option Data) → o ≡ Some e → o ≡ Some d → e ≡ d
one_value o a b = cc

-- the bytes are the text of one value
pub value_told : {e : Data} (made : Result (Vec ℕ Global) NoMemory) (bytes : List ℕ) (fault : PortFault) → IsUtf8 bytes × (read bytes ≡ Some e) → IfOk made (λ hints. hints.items ≡ field_hint e fault) → IfOk made (λ hints. IsFieldTold bytes fault hints.items)
value_told (Ok hints) bytes fault is told = λ d json. told ∙ ap (λ (v : Data). field_hint v fault) (one_value (read bytes) is.1 json.1)
value_told (Err stop) bytes fault is told = tt

no_value : {d : Data} (o : Option Data) → o ≡ None → o ≡ Some d → ⊥
no_value o a b = cc

-- or of none
pub nothing_told : (made : Result (Vec ℕ Global) NoMemory) (bytes : List ℕ) (fault : PortFault) (error : Error) → (¬ IsMemory error → IsUtf8 bytes → read bytes ≡ None) → IfOk made (λ hints. ¬ IsMemory error) → IfOk made (λ hints. IsFieldTold bytes fault hints.items)
nothing_told (Ok hints) bytes fault error none other = λ d json. absurd (no_value (read bytes) (none other json.0) json.1)
nothing_told (Err stop) bytes fault error none other = tt

pub break_told : (made : Result (Vec ℕ Global) NoMemory) (bytes : List ℕ) (line column : ℕ) → IfOk made (λ hints. hints.items ≡ break_hints bytes line column) → IfOk made (λ hints. IsBreak bytes hints.items)
break_told (Ok hints) bytes line column is = record { line = line; column = column; is_text = is }
break_told (Err stop) bytes line column is = tt
