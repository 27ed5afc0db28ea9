-- Two ships of the same length and limits.
use Rattle.std.specs.Prelude.{◌≡◌}
use Rattle.ship_profile.specs.Ship.{ShipRecord}

pub record HaveSameLimits (a b : ShipRecord) : Type 0 where
  pub lbp : a.lbp ≡ b.lbp
  pub downflooding : a.downflooding ≡ b.downflooding
  pub draught_max : a.draught_max ≡ b.draught_max
  pub trim_max : a.trim_max ≡ b.trim_max
  pub list_max : a.list_max ≡ b.list_max
  pub closing_max : a.closing_max ≡ b.closing_max
