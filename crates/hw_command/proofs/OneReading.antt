-- Bytes are read as one thing, whoever reads them.
use Rattle.std.proofs.Common.{◌≡◌, ◌≤◌, ◌<◌, ◌⊎◌, ◌∙◌, ℕ, List, length, Option, Some, Result, Ok, Err, inl, inr, refl, sym, ap, arith}
use Rattle.std.specs.Prelude.{◌≢◌}
use Rattle.hw_port.specs.declared.fault.PortFault.{PortFault}
use Rattle.hw_port.specs.Whole.{Parts}
use Rattle.hw_read.specs.Instance.{instance_of, PortReads as ReadsPort}
use Rattle.hw_read.specs.declared.fault.ReadFault.{ReadFault}
use Rattle.hw_read.specs.declared.fault.ReadFault.TheVariants as read
use Rattle.hw_tide.specs.Levels.{TideParts}
use Rattle.hw_tide.specs.Whole.{HasRecords, TideReads as ReadsHeights}
use Rattle.hw_tide.specs.declared.fault.TideFault.{TideFault}
use Rattle.hw_tide.specs.declared.fault.TideFault.TheVariants as tide
use Rattle.hw_tide.proofs.OneList.{one_list_law}
use Rattle.hw_command.specs.Values.{most_bytes, IsLong}

-- what a value is read as
abbrev as_read : Result Parts PortFault → Result Parts ReadFault
as_read (Ok p) = Ok p
as_read (Err fault) = Err (read.Field fault)

-- one value gives one thing
one_value : {A : Type 0} {given : Option A} {a b : A} {x y : Result Parts PortFault} (f : A → Result Parts PortFault) → given ≡ Some a → given ≡ Some b → f a ≡ x → f b ≡ y → as_read x ≡ as_read y
one_value {a = a} {b = b} f is also h g =
    let same : a ≡ b = cc in
    ap as_read (sym h ∙ ap f same ∙ g)

-- an instance's bytes are read as one thing
pub one_instance : (bytes : List ℕ) (what other : Result Parts ReadFault) → what ≢ Err read.NoMemory → other ≢ Err read.NoMemory → ReadsPort bytes what → ReadsPort bytes other → what ≡ other
one_instance bytes (Ok p) (Ok q) told too h g = one_value instance_of h.1.1 g.1.1 h.2 g.2
one_instance bytes (Ok p) (Err (read.Field fault)) told too h g = one_value instance_of h.1.1 g.1.1 h.2 g.2
one_instance bytes (Ok p) (Err read.NotJson) told too h g = absurd (g h.0 h.1)
one_instance bytes (Err (read.Field fault)) (Ok p) told too h g = one_value instance_of h.1.1 g.1.1 h.2 g.2
one_instance bytes (Err (read.Field fault)) (Err (read.Field other)) told too h g = one_value instance_of h.1.1 g.1.1 h.2 g.2
one_instance bytes (Err (read.Field fault)) (Err read.NotJson) told too h g = absurd (g h.0 h.1)
one_instance bytes (Err read.NotJson) (Ok p) told too h g = absurd (h g.0 g.1)
one_instance bytes (Err read.NotJson) (Err (read.Field fault)) told too h g = absurd (h g.0 g.1)
one_instance bytes (Err read.NotJson) (Err read.NotJson) told too h g = refl
one_instance bytes (Err read.NoMemory) other told too h g = absurd (told refl)
one_instance bytes what (Err read.NoMemory) told too h g = absurd (too refl)

-- the records that a table is read from
record FromRecords (bytes : List ℕ) (by : List (List (List ℕ)) → Result TideParts TideFault) (what : Result TideParts TideFault) : Type 0 where
  records : List (List (List ℕ))
  has : HasRecords bytes records
  gives : by records ≡ what

from_records : (bytes : List ℕ) (by : List (List (List ℕ)) → Result TideParts TideFault) (what : Result TideParts TideFault) → what ≢ Err tide.NoMemory → ReadsHeights bytes by what → FromRecords bytes by what
from_records bytes by (Ok h) told g = record { records = g.0; has = g.1; gives = g.2 }
from_records bytes by (Err (tide.Header column)) told g = record { records = g.0; has = g.1; gives = g.2 }
from_records bytes by (Err (tide.Length row)) told g = record { records = g.0; has = g.1; gives = g.2 }
from_records bytes by (Err (tide.Field row column)) told g = record { records = g.0; has = g.1; gives = g.2 }
from_records bytes by (Err tide.Few) told g = record { records = g.0; has = g.1; gives = g.2 }
from_records bytes by (Err tide.NoMemory) told g = absurd (told refl)

-- a table's bytes are read as one thing
pub one_table : (bytes : List ℕ) (by : List (List (List ℕ)) → Result TideParts TideFault) (what other : Result TideParts TideFault) → what ≢ Err tide.NoMemory → other ≢ Err tide.NoMemory → ReadsHeights bytes by what → ReadsHeights bytes by other → what ≡ other
one_table bytes by what other told too h g =
    let a = from_records bytes by what told h in
    let b = from_records bytes by other too g in
    sym a.gives ∙ ap by (one_list_law bytes a.records b.records a.has b.has) ∙ b.gives

-- one answer for bytes that pass the limit, and these for others
abbrev pub Limited : {A : Type 0} → List ℕ → A → (A → Type 0) → A → Type 0
Limited bytes long Within r = (IsLong bytes × (r ≡ long)) ⊎ ((length bytes ≤ most_bytes) × Within r)

not_both : {m n : ℕ} → m < n → n ≤ m → ⊥
not_both less least = omega arith

pub one_limited : {A : Type 0} (bytes : List ℕ) (long : A) (Within : A → Type 0) → ((r s : A) → Within r → Within s → r ≡ s) → (r s : A) → Limited bytes long Within r → Limited bytes long Within s → r ≡ s
one_limited bytes long Within one r s (inl h) (inl g) = h.1 ∙ sym g.1
one_limited bytes long Within one r s (inl h) (inr g) = absurd (not_both h.0 g.0)
one_limited bytes long Within one r s (inr h) (inl g) = absurd (not_both g.0 h.0)
one_limited bytes long Within one r s (inr h) (inr g) = one r s h.1 g.1
