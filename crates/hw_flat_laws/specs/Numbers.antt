-- Words that are numbers and words that are none, worked out by hand.
use Rattle.std.specs.Prelude.{◌≡◌, pos, neg_ℤ, Some, None, codes, decimal}
use Rattle.std.specs.Fmt.{signed_decimal}
use Rattle.hw_text.specs.Numbers.{number_up_to, number_from_to, signed_up_to}

-- numbers, signed numbers, and how both are written
pub record NumberRows : Type 0 where
  -- 0 alone
  pub zero_alone : number_up_to 1000000000000 (codes "0") ≡ Some 0
  -- the most
  pub the_most : number_up_to 1000000000000 (codes "1000000000000") ≡ Some 1000000000000
  -- one more
  pub one_more : number_up_to 1000000000000 (codes "1000000000001") ≡ None
  -- the first number of more than 64 bits
  pub past_64_bits : number_up_to 1000000000000 (codes "18446744073709551616") ≡ None
  -- a leading zero
  pub leading_zero : number_up_to 1000000000000 (codes "05") ≡ None
  -- two zeros
  pub two_zeros : number_up_to 1000000000000 (codes "00") ≡ None
  -- no digit
  pub no_digit : number_up_to 1000000000000 (codes "") ≡ None
  -- a plus sign
  pub plus : number_up_to 1000000000000 (codes "+5") ≡ None
  -- a minus sign
  pub minus : number_up_to 1000000000000 (codes "-5") ≡ None
  -- a space after it
  pub space_after : number_up_to 1000000000000 (codes "5 ") ≡ None
  -- a letter after it
  pub letter_after : number_up_to 1000000000000 (codes "5a") ≡ None
  -- from 1 on, up to the last of 32 bits
  pub last_of_32_bits : number_from_to 1 4_294_967_295 (codes "4294967295") ≡ Some 4_294_967_295
  -- from 1 on, 0
  pub below_the_least : number_from_to 1 4_294_967_295 (codes "0") ≡ None
  -- the least signed number
  pub least_signed : signed_up_to 1_023 (codes "-1023") ≡ Some (neg_ℤ (pos 1_023))
  -- one less
  pub past_least : signed_up_to 1_023 (codes "-1024") ≡ None
  -- the greatest
  pub greatest_signed : signed_up_to 1_023 (codes "1023") ≡ Some (pos 1_023)
  -- 0
  pub signed_zero : signed_up_to 1_023 (codes "0") ≡ Some (pos 0)
  -- 0 with a sign
  pub negative_zero : signed_up_to 1_023 (codes "-0") ≡ None
  -- two signs
  pub two_signs : signed_up_to 1_023 (codes "--1") ≡ None
  -- a sign and a leading zero
  pub signed_leading_zero : signed_up_to 1_023 (codes "-01") ≡ None
  -- a sign alone
  pub sign_alone : signed_up_to 1_023 (codes "-") ≡ None
  -- a number as it is written
  pub written : decimal 1_000_000_000_000 ≡ codes "1000000000000"
  -- the greatest of 64 bits
  pub greatest_written : decimal 18_446_744_073_709_551_615 ≡ codes "18446744073709551615"
  -- a signed number
  pub signed_written : signed_decimal (neg_ℤ (pos 1_023)) ≡ codes "-1023"
  -- 0 has no sign
  pub zero_written : signed_decimal (pos 0) ≡ codes "0"
