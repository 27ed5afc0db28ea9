use Rattle.std.proofs.Common.{◌≡◌, ◌∙◌, ◌+ℤ◌, ◌-ℤ◌, ◌≤◌, ℤ, unsigned_abs, FitsSigned, w64, arith, refl, to_z, of_z, rules}
use Rattle.std.specs.Int.{w128}
use Rattle.std.proofs.lemmas.Int.{ints, to_z-of_z}
use Rattle.ship_tables.proofs.extents.encloses.Goals as goal

-- none of the casts loses anything
wide : (z : ℤ) → FitsSigned w64 z → to_z w128 (of_z w128 z) ≡ z
wide z h = let fits : FitsSigned w128 z = omega (arith, ints) in to_z-of_z w128 z fits

wide-length : (z : ℤ) → unsigned_abs z ≤ 1000000 → to_z w128 (of_z w128 z) ≡ z
wide-length z h = let fits : FitsSigned w128 z = omega (arith, ints) in to_z-of_z w128 z fits

wide-sum : (x y : ℤ) → FitsSigned w64 x → FitsSigned w64 y → to_z w128 (of_z w128 (x +ℤ y)) ≡ x +ℤ y
wide-sum x y h k = let fits : FitsSigned w128 (x +ℤ y) = omega (arith, ints) in to_z-of_z w128 (x +ℤ y) fits

wide-difference : (x y : ℤ) → FitsSigned w64 x → FitsSigned w64 y → to_z w128 (of_z w128 (x -ℤ y)) ≡ x -ℤ y
wide-difference x y h k = let fits : FitsSigned w128 (x -ℤ y) = omega (arith, ints) in to_z-of_z w128 (x -ℤ y) fits

pub returns : goal.returns
returns c =
    let aft : c.from-aft.result ≡ c.args.extent.aft = search rules in
    let fore : c.from-fore.result ≡ c.args.extent.fore = search rules in
    let aft_size : unsigned_abs c.args.extent.aft ≤ 1000000 = rw c.get.ensures.value at c.get.ensures.within in
    let fore_size : unsigned_abs c.args.extent.fore ≤ 1000000 = rw c.get-2.ensures.value at c.get-2.ensures.within in
    let x : c.from.result ≡ c.args.x = c.from.ensures ∙ to_z-of_z w64 c.args.x c.ranges.x in
    let half : c.from-2.result ≡ c.args.half = c.from-2.ensures ∙ to_z-of_z w64 c.args.half c.ranges.half in
    let x2 : c.from-3.result ≡ c.args.x = c.from-3.ensures ∙ to_z-of_z w64 c.args.x c.ranges.x in
    let half2 : c.from-4.result ≡ c.args.half = c.from-4.ensures ∙ to_z-of_z w64 c.args.half c.ranges.half in
    c.is_between.ensures
    ∙ (rw (
      aft,
      fore,
      x,
      half,
      x2,
      half2,
      wide c.args.x c.ranges.x,
      wide c.args.half c.ranges.half,
      wide-length c.args.extent.aft aft_size,
      wide-length c.args.extent.fore fore_size,
      wide-difference c.args.x c.args.half c.ranges.x c.ranges.half,
      wide-sum c.args.x c.args.half c.ranges.x c.ranges.half,
    ) refl)
