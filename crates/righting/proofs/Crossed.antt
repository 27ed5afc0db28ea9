-- The ordinates that the readings of the cross curves are.
use Rattle.std.proofs.Common.{◌≡◌, ◌≢◌, ℕ, ◌+◌, ◌<◌, ◌≤◌, ℤ, pos, ◌+ℤ◌, List, length, set, get_or-set_same, get_or-set_other, below_more, inl, inr, subst, arith, unsigned_abs}
use Rattle.std.proofs.lemmas.Bool.{cases_eq}
use Rattle.units_core.specs.Interpolation.{at, IsWithin}
use Rattle.units_core.specs.Ratio.{Ratio, ◌over◌, Is}
use Rattle.ship_tables.specs.Record.{CurveTable}
use Rattle.moment_sums.specs.Sum.{Sum, Weight, MomentY, MomentZ, Surface}
use Rattle.righting.specs.declared.ordinates.Crossing.{Crossing}
use Rattle.righting.specs.Levers.{AreOrdinates, gz}
use Rattle.righting.specs.Aboard.{IsCrossing, lever_in}

-- one more number is written
pub set_done : (ns : List ℤ) (f : ℕ → ℤ) (k : ℕ) (v : ℤ) → k < length ns → ((j : ℕ) → j < k → at ns j ≡ f j) → v ≡ f k → (j : ℕ) → j < k + 1 → at (set ns k v) j ≡ f j
set_done ns f k v h done e = below_more _ _ (λ j less. let ne : j ≢ k = omega arith in rw get_or-set_other (done j less)) (rw get_or-set_same e)

pub set_within : (ns : List ℤ) (k : ℕ) (v : ℤ) (m : ℕ) → k < length ns → IsWithin m ns → unsigned_abs v ≤ m → IsWithin m (set ns k v)
set_within ns k v m h w s = λ j.
    elim (cases_eq j k) [
      | inl same ↦ rw (same, get_or-set_same) s
      | inr ne ↦ rw get_or-set_other (w j)
    ]

-- the numbers of the levers are the textbook's ordinates
pub ordinates : (t : CurveTable) (s : Sum) (i : ℕ) (r : Crossing) (num : List ℤ) (den u v : ℤ) → IsCrossing r t (s Weight) i → u ≡ s MomentZ +ℤ s Surface → v ≡ s MomentY
    → AreOrdinates num den (λ k. gz (at r.lever k over r.gap) (u over r.kg) (pos (unsigned_abs v) over r.kg) k) → AreOrdinates num den (lever_in t s i)
ordinates t s i r num den u v is up side are k less =
    subst (λ (y : Ratio). Is (at num k) den y) (λ j. gz (is.levers k less j) (up j over is.kg j) (pos (unsigned_abs (side j)) over is.kg j) k) (are k less)
