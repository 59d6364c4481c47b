-- The rows, computed.
use Rattle.std.proofs.Common.{refl}
use Rattle.hw_flat_laws.specs.Setting.{SettingRows}

pub rows : SettingRows
rows = record {
  opened_first_low = refl;
  opened_first_high = refl;
  opened_second_low = refl;
  opened_second_high = refl;
  opened_order = refl;
  ranged_first_low = refl;
  ranged_first_high = refl;
  ranged_second_low = refl;
  ranged_second_high = refl;
  ranged_order = refl;
  point_first_low = refl;
  point_first_high = refl;
  point_second_low = refl;
  point_second_high = refl;
  point_order = refl;
  ordered_first_low = refl;
  ordered_first_high = refl;
  ordered_second_low = refl;
  ordered_second_high = refl;
  ordered_order = refl;
  reset_first_low = refl;
  reset_first_high = refl;
  reset_second_low = refl;
  reset_second_high = refl;
  reset_order = refl;
  slot_inside = refl;
  slot_before = refl;
  slot_after = refl;
  any = refl;
  before = refl;
  not_before = refl;
  together = refl;
  not_together = refl;
}
