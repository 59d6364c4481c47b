-- The rows, computed.
use Rattle.std.proofs.Common.{refl}
use Rattle.std.specs.Fmt.{digits}
use Rattle.hw_flat_laws.specs.Numbers.{NumberRows}

pub rows : NumberRows
unfolding digits
rows = record {
  zero_alone = refl;
  the_most = refl;
  one_more = refl;
  past_64_bits = refl;
  leading_zero = refl;
  two_zeros = refl;
  no_digit = refl;
  plus = refl;
  minus = refl;
  space_after = refl;
  letter_after = refl;
  last_of_32_bits = refl;
  below_the_least = refl;
  least_signed = refl;
  past_least = refl;
  greatest_signed = refl;
  signed_zero = refl;
  negative_zero = refl;
  two_signs = refl;
  signed_leading_zero = refl;
  sign_alone = refl;
  written = refl;
  greatest_written = refl;
  signed_written = refl;
  zero_written = refl;
}
