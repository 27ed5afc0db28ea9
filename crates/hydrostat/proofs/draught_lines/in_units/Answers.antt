use Rattle.std.proofs.Common.{rules, ◌≡◌, ◌^◌, ℤ, ℕ, pos, FitsSigned, to_z-of_z, arith}
use Rattle.std.specs.Int.{w64, w128, int_shr}
use Rattle.std.specs.Int.Signed.{mag_shr}
use Rattle.hydrostat.specs.Leading.{IsInUnits}
use Rattle.hydrostat.proofs.Sure.{shift_is_floor}
use Rattle.hydrostat.proofs.draught_lines.in_units.Goals as goal

shifted : (z : ℤ) (k : ℕ) → FitsSigned w128 z → FitsSigned w128 (int_shr z k)
shifted z k h = record { sfits = omega (arith, h.sfits, mag_shr z (2 ^ k)) }

is_high : (h z : ℤ) (k : ℕ) → h ≡ int_shr z k → IsInUnits h (pos (2 ^ k)) z
is_high h z k e = rw e (shift_is_floor z k)

pub returns : goal.returns
returns c =
    let h : FitsSigned w64 c.in-Ok.high = search rules in
    let s = shifted c.args.whole c.args.shift c.ranges.whole in
    let e = simp (to_z-of_z c.ranges.whole, to_z-of_z s) at c.in-Ok.ensures in
    simp (to_z-of_z h) (is_high c.in-Ok.high c.args.whole c.args.shift e.1)
