use Rattle.std.proofs.Common.{rules, arith, ◌≡◌, ◌∙◌, ◌≢◌, ◌+◌, ◌^◌, ◌<◌, ◌≤◌, ◌<ℤ◌, ◌≤ℤ◌, ◌-ℤ◌, ℕ, ℤ, pos, List, length, length-set, get_or-set_other, Option, Some, option_map, refl, ap, sym, subst, unsigned_abs, FitsSigned, to_z, of_z, to_z-of_z}
use Rattle.std.specs.Int.{w64}
use Rattle.std.proofs.lemmas.Int.{fits_signed_from_abs}
use Rattle.std.proofs.lemmas.Option.{slice_get-get_or}
use Rattle.units_core.specs.Ratio.{Ratio, floor_of}
use Rattle.units_core.proofs.Signed.{difference_within}
use Rattle.ship_tables.specs.Curves.{curve_at}
use Rattle.ship_tables.specs.Record.{IsBonjeanTable}
use Rattle.hydrostat.specs.Floating.{draught_at, load, water}
use Rattle.strength.specs.Immersed.{area_at, area_in, area_there, IsAreaAt}
use Rattle.strength.proofs.Lines.{has_line, in_row, reads_in}
use Rattle.strength.proofs.Placed.{inside_both, set_one}
use Rattle.strength.proofs.immersed.set_areas_in_row.Goals as goal

pub bounds-row-k : goal.bounds-row-k
bounds-row-k c =
    let t = c.args.profile.now.tables.bonjean in
    let k = c.loop-k.k in
    let r = c.args.row in
    let x = c.in-Some.draught in
    let zs = c.stations-stations.result.now in
    let st = c.stations-stations.ensures.value in
    let sound : IsBonjeanTable t = c.stations-stations.ensures.sound.tables.tables.bonjean in
    let less : k < length zs = c.loop-k-test.true in
    let there : k < length t.columns = rw (c.stations-stations.ensures.sound.tables.curves, ← st) less in
    let row = c.requires.row in
    has_line t k r.number r.lower r.upper r.lines.now there row

pub overflow_sub-draught : goal.overflow_sub-draught
overflow_sub-draught c =
    let t = c.args.profile.now.tables.bonjean in
    let k = c.loop-k.k in
    let r = c.args.row in
    let x = c.in-Some.draught in
    let zs = c.stations-stations.result.now in
    let st = c.stations-stations.ensures.value in
    let sound : IsBonjeanTable t = c.stations-stations.ensures.sound.tables.tables.bonjean in
    let less : k < length zs = c.loop-k-test.true in
    let there : k < length t.columns = rw (c.stations-stations.ensures.sound.tables.curves, ← st) less in
    let row = c.requires.row in
    let d : FitsSigned w64 x = search rules in
    let l : FitsSigned w64 r.lower = search rules in
    let above : r.lower <ℤ x = simp (to_z-of_z d) at c.if-not-holds.ensures.above refl in
    let upper : x ≤ℤ r.upper = simp (to_z-of_z d) at c.if-not-holds.ensures.upper refl in
    let lies = in_row t r.number r.lower r.upper x r.lines.now sound row above upper in
    let low = sound.within r.number in
    let lower_within : unsigned_abs r.lower ≤ 10 ^ 5 = rw row.is_lower low in
    let within = inside_both _ x _ (10 ^ 5) lies.0.from lies.0.to low (sound.within (r.number + 1)) in
    let size = difference_within x r.lower _ _ within lower_within in
    let gap : FitsSigned w64 (x -ℤ r.lower) = fits_signed_from_abs w64 _ (omega (arith, size)) in
    simp (to_z-of_z d, to_z-of_z l) gap

pub read-requires-clause-rise : goal.read-requires-clause-rise
read-requires-clause-rise c =
    let t = c.args.profile.now.tables.bonjean in
    let k = c.loop-k.k in
    let r = c.args.row in
    let x = c.in-Some.draught in
    let zs = c.stations-stations.result.now in
    let st = c.stations-stations.ensures.value in
    let sound : IsBonjeanTable t = c.stations-stations.ensures.sound.tables.tables.bonjean in
    let less : k < length zs = c.loop-k-test.true in
    let there : k < length t.columns = rw (c.stations-stations.ensures.sound.tables.curves, ← st) less in
    let row = c.requires.row in
    let d : FitsSigned w64 x = search rules in
    let l : FitsSigned w64 r.lower = search rules in
    let above : r.lower <ℤ x = simp (to_z-of_z d) at c.if-not-holds.ensures.above refl in
    let upper : x ≤ℤ r.upper = simp (to_z-of_z d) at c.if-not-holds.ensures.upper refl in
    let lies = in_row t r.number r.lower r.upper x r.lines.now sound row above upper in
    let low = sound.within r.number in
    let lower_within : unsigned_abs r.lower ≤ 10 ^ 5 = rw row.is_lower low in
    let within = inside_both _ x _ (10 ^ 5) lies.0.from lies.0.to low (sound.within (r.number + 1)) in
    let size = difference_within x r.lower _ _ within lower_within in
    let gap : FitsSigned w64 (x -ℤ r.lower) = fits_signed_from_abs w64 _ (omega (arith, size)) in
    let read = reads_in t k r.number r.lower r.upper x r.lines.now (record { start = pos 0; slope = pos 0 }) sound there row lies.0 in
    simp (to_z-of_z d, to_z-of_z l, to_z-of_z gap) read.rise

pub read-requires-clause-sum : goal.read-requires-clause-sum
read-requires-clause-sum c =
    let t = c.args.profile.now.tables.bonjean in
    let k = c.loop-k.k in
    let r = c.args.row in
    let x = c.in-Some.draught in
    let zs = c.stations-stations.result.now in
    let st = c.stations-stations.ensures.value in
    let sound : IsBonjeanTable t = c.stations-stations.ensures.sound.tables.tables.bonjean in
    let less : k < length zs = c.loop-k-test.true in
    let there : k < length t.columns = rw (c.stations-stations.ensures.sound.tables.curves, ← st) less in
    let row = c.requires.row in
    let d : FitsSigned w64 x = search rules in
    let l : FitsSigned w64 r.lower = search rules in
    let above : r.lower <ℤ x = simp (to_z-of_z d) at c.if-not-holds.ensures.above refl in
    let upper : x ≤ℤ r.upper = simp (to_z-of_z d) at c.if-not-holds.ensures.upper refl in
    let lies = in_row t r.number r.lower r.upper x r.lines.now sound row above upper in
    let low = sound.within r.number in
    let lower_within : unsigned_abs r.lower ≤ 10 ^ 5 = rw row.is_lower low in
    let within = inside_both _ x _ (10 ^ 5) lies.0.from lies.0.to low (sound.within (r.number + 1)) in
    let size = difference_within x r.lower _ _ within lower_within in
    let gap : FitsSigned w64 (x -ℤ r.lower) = fits_signed_from_abs w64 _ (omega (arith, size)) in
    let read = reads_in t k r.number r.lower r.upper x r.lines.now (record { start = pos 0; slope = pos 0 }) sound there row lies.0 in
    simp (to_z-of_z d, to_z-of_z l, to_z-of_z gap) read.sum

pub loop-k-preserved : goal.loop-k-preserved
loop-k-preserved c =
    let t = c.args.profile.now.tables.bonjean in
    let k = c.loop-k.k in
    let r = c.args.row in
    let x = c.in-Some.draught in
    let zs = c.stations-stations.result.now in
    let st = c.stations-stations.ensures.value in
    let sound : IsBonjeanTable t = c.stations-stations.ensures.sound.tables.tables.bonjean in
    let less : k < length zs = c.loop-k-test.true in
    let there : k < length t.columns = rw (c.stations-stations.ensures.sound.tables.curves, ← st) less in
    let row = c.requires.row in
    let d : FitsSigned w64 x = search rules in
    let l : FitsSigned w64 r.lower = search rules in
    let above : r.lower <ℤ x = simp (to_z-of_z d) at c.if-not-holds.ensures.above refl in
    let upper : x ≤ℤ r.upper = simp (to_z-of_z d) at c.if-not-holds.ensures.upper refl in
    let lies = in_row t r.number r.lower r.upper x r.lines.now sound row above upper in
    let low = sound.within r.number in
    let lower_within : unsigned_abs r.lower ≤ 10 ^ 5 = rw row.is_lower low in
    let within = inside_both _ x _ (10 ^ 5) lies.0.from lies.0.to low (sound.within (r.number + 1)) in
    let size = difference_within x r.lower _ _ within lower_within in
    let gap : FitsSigned w64 (x -ℤ r.lower) = fits_signed_from_abs w64 _ (omega (arith, size)) in
    let read = reads_in t k r.number r.lower r.upper x r.lines.now (record { start = pos 0; slope = pos 0 }) sound there row lies.0 in
    let inv = c.loop-k.invariant in
    let a = c.args.line.now.of in
    let dr : ℤ → Ratio = draught_at (water a) (load a) a.lbp in
    let ship = c.args.profile.now.ship.stations in
    let few = c.stations-stations.ensures.sound.ship.stations.few in
    let few2 : length zs ≤ 64 = rw st few in
    let places = inv.size in
    let from = inv.from in
    let v : FitsSigned w64 c.read.result = search rules in
    let down = simp (to_z-of_z d, to_z-of_z l, to_z-of_z gap) at c.read.ensures in
    let area : ℤ = to_z w64 (of_z w64 c.read.result) in
    let value : area ≡ floor_of (curve_at t x k r.number) = to_z-of_z v ∙ (down ∙ read.value) in
    let small : unsigned_abs area ≤ 10 ^ 8 = subst (λ (z : ℤ). unsigned_abs z ≤ 10 ^ 8) (sym (to_z-of_z v ∙ down)) read.within in
    let found : area_in t k x ≡ Some area = ap (λ (o : Option ℕ). option_map (λ i. floor_of (curve_at t x k i)) o) lies.1 ∙ (λ j. Some (sym value j)) in
    let place = c.index-stations-k.result in
    let draught : x ≡ floor_of (dr place) = c.in-Some.ensures in
    let station = slice_get-get_or zs k place less ∙ ap (λ (z : ℤ). Some z) (sym c.index-stations-k.is) in
    let there_is : area_at t dr zs k ≡ Some area = ap (λ (o : Option ℤ). area_there t dr k o) station ∙ (ap (λ (z : ℤ). area_in t k z) (sym draught) ∙ found) in
    let is : area_at t dr ship k ≡ Some area = sym (ap (λ (ys : List ℤ). area_at t dr ys k) st) ∙ there_is in
    let inside : k < length c.loop-k.areas = omega (arith, few2, less, places) in
    record {
      size = simp length-set places;
      from = omega (arith, from);
      before = λ j low. let ne : j ≢ k = omega (arith, low, from) in rw get_or-set_other (inv.before j low);
      set = set_one c.loop-k.areas (λ j z. IsAreaAt z t dr ship j) c.args.from k area inside inv.set (record { is = is; within = small });
    }

pub returns-clause-set : goal.returns-clause-set
returns-clause-set c =
    let st = c.stations-stations.ensures.value in
    let past = c.loop-k-test.false in
    λ k low high. c.loop-k.invariant.set k low (omega (arith, past, high))
