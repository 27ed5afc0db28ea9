-- A floor of a number that isn't negative is no more than it.
use Rattle.std.proofs.Common.{ℤ, pos, ◌*ℤ◌, ◌≤ℤ◌, arith}
use Rattle.std.proofs.lemmas.Int.{by_lt_z}
use Rattle.units_core.proofs.Decisions.{floor_is}
use Rattle.units_core.proofs.Order.{times_order}
use Rattle.units_core.proofs.Signed.{commutes, signed_arith}
use Rattle.units_core.specs.Ratio.{◌over◌, floor_of}

pub floor_no_more : (n d : ℤ) → pos 1 ≤ℤ d → pos 0 ≤ℤ n → floor_of (n over d) ≤ℤ n
floor_no_more n d h some =
    let q = floor_of (n over d) in
    let f = floor_is (n over d) h in
    by_lt_z q (pos 0) (λ less. omega (arith, signed_arith, less, some)) (λ le. omega (arith, signed_arith, f.0, times_order (pos 1) d q le h, commutes q d))
