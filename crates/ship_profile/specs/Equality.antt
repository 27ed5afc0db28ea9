-- Fills that a test tells apart where they differ in one of their numbers.
use Rattle.std.specs.Prelude.{◌≡◌, Decides, Bool, ◌&&◌, nat_eq}
use Rattle.std.specs.Cmp.{unsigned_Decides}
use Rattle.std.proofs.Common.{ap}
use Rattle.std.proofs.lemmas.Bool.Decides.{Decides-and, Decides-like}
use Rattle.ship_profile.specs.declared.fills.TankFill.{TankFill}

abbrev fill_eq : TankFill → TankFill → Bool
fill_eq a b = nat_eq a.tank b.tank && nat_eq a.kg b.kg

pub fills_exact : (a b : TankFill) → Decides (fill_eq a b) (a ≡ b)
fills_exact a b =
    Decides-like _ (λ p i. record { tank = p.0 i; kg = p.1 i })
    (λ e. (ap (λ f. f.tank) e, ap (λ f. f.kg) e))
    (Decides-and _ _ (unsigned_Decides a.tank b.tank) (unsigned_Decides a.kg b.kg))
