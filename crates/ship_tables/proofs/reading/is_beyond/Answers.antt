use Rattle.std.proofs.Common.{◌≡◌, ◌∙◌, ◌-ℤ◌, FitsSigned, w64, arith, refl}
use Rattle.std.specs.Int.{w128}
use Rattle.std.proofs.lemmas.Int.{ints, to_z-of_z}
use Rattle.ship_tables.proofs.reading.is_beyond.Goals as goal

-- none of the casts loses anything
pub returns : goal.returns
returns c =
    let gap : c.from.result ≡ c.args.gap = c.from.ensures ∙ to_z-of_z w64 c.args.gap c.ranges.gap in
    let to : c.from-2.result ≡ c.args.to = c.from-2.ensures ∙ to_z-of_z w64 c.args.to c.ranges.to in
    let from : c.from-3.result ≡ c.args.from = c.from-3.ensures ∙ to_z-of_z w64 c.args.from c.ranges.from in
    let gap_fits : FitsSigned w128 c.args.gap = omega (arith, ints) in
    let to_fits : FitsSigned w128 c.args.to = omega (arith, ints) in
    let from_fits : FitsSigned w128 c.args.from = omega (arith, ints) in
    let rise_fits : FitsSigned w128 (c.args.to -ℤ c.args.from) = omega (arith, ints) in
    rw (gap, to, from, to_z-of_z w128 c.args.gap gap_fits, to_z-of_z w128 c.args.to to_fits, to_z-of_z w128 c.args.from from_fits, to_z-of_z w128 (c.args.to -ℤ c.args.from) rise_fits) refl
