-- Statuses of one kind.
use Rattle.std.proofs.Common.{◌≡◌, true, refl}
use Rattle.hw_port_windows.specs.declared.status.Status.{Status}
use Rattle.hw_port_windows.specs.declared.status.Status.TheVariants.{Sails, Closed, Shallow, TidesEnd}
use Rattle.hw_port_windows.specs.Statuses.{statuses_alike}

pub alike_self : (a : Status) → statuses_alike a a ≡ true
alike_self (Sails x) = refl
alike_self Closed = refl
alike_self (Shallow x) = refl
alike_self TidesEnd = refl

-- what is of the kind of one of two of a kind is of the kind of the other
pub alike_on : (a b c : Status) → statuses_alike a b ≡ true → statuses_alike b c ≡ true → statuses_alike a c ≡ true
alike_on (Sails x) (Sails y) c e f = f
alike_on (Sails x) Closed c e f = absurd cc
alike_on (Sails x) (Shallow y) c e f = absurd cc
alike_on (Sails x) TidesEnd c e f = absurd cc
alike_on Closed (Sails y) c e f = absurd cc
alike_on Closed Closed c e f = f
alike_on Closed (Shallow y) c e f = absurd cc
alike_on Closed TidesEnd c e f = absurd cc
alike_on (Shallow x) (Sails y) c e f = absurd cc
alike_on (Shallow x) Closed c e f = absurd cc
alike_on (Shallow x) (Shallow y) c e f = f
alike_on (Shallow x) TidesEnd c e f = absurd cc
alike_on TidesEnd (Sails y) c e f = absurd cc
alike_on TidesEnd Closed c e f = absurd cc
alike_on TidesEnd (Shallow y) c e f = absurd cc
alike_on TidesEnd TidesEnd c e f = f

pub alike_back : (a b c : Status) → statuses_alike a b ≡ true → statuses_alike a c ≡ true → statuses_alike b c ≡ true
alike_back (Sails x) (Sails y) c e f = f
alike_back (Sails x) Closed c e f = absurd cc
alike_back (Sails x) (Shallow y) c e f = absurd cc
alike_back (Sails x) TidesEnd c e f = absurd cc
alike_back Closed (Sails y) c e f = absurd cc
alike_back Closed Closed c e f = f
alike_back Closed (Shallow y) c e f = absurd cc
alike_back Closed TidesEnd c e f = absurd cc
alike_back (Shallow x) (Sails y) c e f = absurd cc
alike_back (Shallow x) Closed c e f = absurd cc
alike_back (Shallow x) (Shallow y) c e f = f
alike_back (Shallow x) TidesEnd c e f = absurd cc
alike_back TidesEnd (Sails y) c e f = absurd cc
alike_back TidesEnd Closed c e f = absurd cc
alike_back TidesEnd (Shallow y) c e f = absurd cc
alike_back TidesEnd TidesEnd c e f = f
