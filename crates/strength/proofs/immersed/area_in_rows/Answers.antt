use Rattle.std.proofs.Common.{rules, ◌≡◌, ◌∙◌, ◌+◌, ◌^◌, ◌≤◌, ◌<◌, ◌-ℤ◌, ℕ, ℤ, pos, length, Option, Some, ap, arith, sym, subst, unsigned_abs, FitsSigned, to_z, of_z, to_z-of_z}
use Rattle.std.specs.Prelude.{option_map}
use Rattle.std.specs.Int.{w64}
use Rattle.std.proofs.lemmas.Int.{fits_signed_from_abs}
use Rattle.units_core.specs.Interpolation.{interval, Encloses}
use Rattle.units_core.specs.Ratio.{floor_of}
use Rattle.units_core.proofs.Signed.{difference_within}
use Rattle.ship_tables.specs.Curves.{curve_at}
use Rattle.ship_tables.specs.Record.{IsBonjeanTable}
use Rattle.strength.proofs.Lines.{has_line, reads_in}
use Rattle.strength.proofs.Placed.{inside_both}
use Rattle.strength.proofs.immersed.area_in_rows.Goals as goal

pub bounds-found-number : goal.bounds-found-number
bounds-found-number c =
    let t = c.args.profile.now.tables.bonjean in
    let k = c.args.number in
    let x = c.args.draught in
    let f = c.in_ok-found.found in
    let sound : IsBonjeanTable t = c.row_of.ensures.sound.tables.tables.bonjean in
    let there : k < length t.columns = rw c.row_of.ensures.sound.tables.curves c.requires.there in
    let row = c.in_ok-found.ensures.row in
    let here : Encloses t.arguments f.number x = simp (to_z-of_z c.ranges.draught) at c.in_ok-found.ensures.here in
    has_line t k f.number f.lower f.upper f.lines.now there row

pub overflow_sub-draught : goal.overflow_sub-draught
overflow_sub-draught c =
    let t = c.args.profile.now.tables.bonjean in
    let k = c.args.number in
    let x = c.args.draught in
    let f = c.in_ok-found.found in
    let sound : IsBonjeanTable t = c.row_of.ensures.sound.tables.tables.bonjean in
    let there : k < length t.columns = rw c.row_of.ensures.sound.tables.curves c.requires.there in
    let row = c.in_ok-found.ensures.row in
    let here : Encloses t.arguments f.number x = simp (to_z-of_z c.ranges.draught) at c.in_ok-found.ensures.here in
    let low = sound.within f.number in
    let lower_within : unsigned_abs f.lower ≤ 10 ^ 5 = rw row.is_lower low in
    let within = inside_both _ x _ (10 ^ 5) here.from here.to low (sound.within (f.number + 1)) in
    let near : FitsSigned w64 f.lower = search rules in
    let size = difference_within x f.lower _ _ within lower_within in
    let gap : FitsSigned w64 (x -ℤ f.lower) = fits_signed_from_abs w64 _ (omega (arith, size)) in
    simp (to_z-of_z c.ranges.draught, to_z-of_z near) gap

pub read-requires-clause-rise : goal.read-requires-clause-rise
read-requires-clause-rise c =
    let t = c.args.profile.now.tables.bonjean in
    let k = c.args.number in
    let x = c.args.draught in
    let f = c.in_ok-found.found in
    let sound : IsBonjeanTable t = c.row_of.ensures.sound.tables.tables.bonjean in
    let there : k < length t.columns = rw c.row_of.ensures.sound.tables.curves c.requires.there in
    let row = c.in_ok-found.ensures.row in
    let here : Encloses t.arguments f.number x = simp (to_z-of_z c.ranges.draught) at c.in_ok-found.ensures.here in
    let low = sound.within f.number in
    let lower_within : unsigned_abs f.lower ≤ 10 ^ 5 = rw row.is_lower low in
    let within = inside_both _ x _ (10 ^ 5) here.from here.to low (sound.within (f.number + 1)) in
    let near : FitsSigned w64 f.lower = search rules in
    let size = difference_within x f.lower _ _ within lower_within in
    let gap : FitsSigned w64 (x -ℤ f.lower) = fits_signed_from_abs w64 _ (omega (arith, size)) in
    let read = reads_in t k f.number f.lower f.upper x f.lines.now (record { start = pos 0; slope = pos 0 }) sound there row here in
    simp (to_z-of_z c.ranges.draught, to_z-of_z near, to_z-of_z gap) read.rise

pub read-requires-clause-sum : goal.read-requires-clause-sum
read-requires-clause-sum c =
    let t = c.args.profile.now.tables.bonjean in
    let k = c.args.number in
    let x = c.args.draught in
    let f = c.in_ok-found.found in
    let sound : IsBonjeanTable t = c.row_of.ensures.sound.tables.tables.bonjean in
    let there : k < length t.columns = rw c.row_of.ensures.sound.tables.curves c.requires.there in
    let row = c.in_ok-found.ensures.row in
    let here : Encloses t.arguments f.number x = simp (to_z-of_z c.ranges.draught) at c.in_ok-found.ensures.here in
    let low = sound.within f.number in
    let lower_within : unsigned_abs f.lower ≤ 10 ^ 5 = rw row.is_lower low in
    let within = inside_both _ x _ (10 ^ 5) here.from here.to low (sound.within (f.number + 1)) in
    let near : FitsSigned w64 f.lower = search rules in
    let size = difference_within x f.lower _ _ within lower_within in
    let gap : FitsSigned w64 (x -ℤ f.lower) = fits_signed_from_abs w64 _ (omega (arith, size)) in
    let read = reads_in t k f.number f.lower f.upper x f.lines.now (record { start = pos 0; slope = pos 0 }) sound there row here in
    simp (to_z-of_z c.ranges.draught, to_z-of_z near, to_z-of_z gap) read.sum

pub returns-clause-value : goal.returns-clause-value
returns-clause-value c =
    let t = c.args.profile.now.tables.bonjean in
    let k = c.args.number in
    let x = c.args.draught in
    let f = c.in_ok-found.found in
    let sound : IsBonjeanTable t = c.row_of.ensures.sound.tables.tables.bonjean in
    let there : k < length t.columns = rw c.row_of.ensures.sound.tables.curves c.requires.there in
    let row = c.in_ok-found.ensures.row in
    let here : Encloses t.arguments f.number x = simp (to_z-of_z c.ranges.draught) at c.in_ok-found.ensures.here in
    let low = sound.within f.number in
    let lower_within : unsigned_abs f.lower ≤ 10 ^ 5 = rw row.is_lower low in
    let within = inside_both _ x _ (10 ^ 5) here.from here.to low (sound.within (f.number + 1)) in
    let near : FitsSigned w64 f.lower = search rules in
    let size = difference_within x f.lower _ _ within lower_within in
    let gap : FitsSigned w64 (x -ℤ f.lower) = fits_signed_from_abs w64 _ (omega (arith, size)) in
    let read = reads_in t k f.number f.lower f.upper x f.lines.now (record { start = pos 0; slope = pos 0 }) sound there row here in
    let r : FitsSigned w64 c.read.result = search rules in
    let down = simp (to_z-of_z c.ranges.draught, to_z-of_z near, to_z-of_z gap) at c.read.ensures in
    let value : to_z w64 (of_z w64 c.read.result) ≡ floor_of (curve_at t x k f.number) = to_z-of_z r ∙ (down ∙ read.value) in
    let which : Some f.number ≡ interval t.arguments x = simp (to_z-of_z c.ranges.draught) at c.in_ok-found.ensures.which in
    (λ j. Some (value j)) ∙ ap (λ (o : Option ℕ). option_map (λ i. floor_of (curve_at t x k i)) o) which

pub returns-clause-within : goal.returns-clause-within
returns-clause-within c =
    let t = c.args.profile.now.tables.bonjean in
    let k = c.args.number in
    let x = c.args.draught in
    let f = c.in_ok-found.found in
    let sound : IsBonjeanTable t = c.row_of.ensures.sound.tables.tables.bonjean in
    let there : k < length t.columns = rw c.row_of.ensures.sound.tables.curves c.requires.there in
    let row = c.in_ok-found.ensures.row in
    let here : Encloses t.arguments f.number x = simp (to_z-of_z c.ranges.draught) at c.in_ok-found.ensures.here in
    let low = sound.within f.number in
    let lower_within : unsigned_abs f.lower ≤ 10 ^ 5 = rw row.is_lower low in
    let within = inside_both _ x _ (10 ^ 5) here.from here.to low (sound.within (f.number + 1)) in
    let near : FitsSigned w64 f.lower = search rules in
    let size = difference_within x f.lower _ _ within lower_within in
    let gap : FitsSigned w64 (x -ℤ f.lower) = fits_signed_from_abs w64 _ (omega (arith, size)) in
    let read = reads_in t k f.number f.lower f.upper x f.lines.now (record { start = pos 0; slope = pos 0 }) sound there row here in
    let r : FitsSigned w64 c.read.result = search rules in
    let down = simp (to_z-of_z c.ranges.draught, to_z-of_z near, to_z-of_z gap) at c.read.ensures in
    subst (λ (z : ℤ). unsigned_abs z ≤ 10 ^ 8) (sym (to_z-of_z r ∙ down)) read.within
