-- Cells, places, bodies and frames that a test tells apart where they differ in one of their
-- numbers.
use Rattle.std.specs.Prelude.{◌≡◌, Decides, Bool, ◌&&◌, nat_eq}
use Rattle.std.specs.Ordering.{int_eq}
use Rattle.std.specs.Cmp.{signed_Decides, unsigned_Decides}
use Rattle.std.proofs.Common.{ap}
use Rattle.std.proofs.lemmas.Bool.Decides.{Decides-and, Decides-like}
use Rattle.units_core.specs.declared.bodies.Place.{Place}
use Rattle.units_core.specs.declared.cells.Cell.{Cell}
use Rattle.units_core.specs.declared.frames.Frame.{Frame}
use Rattle.units_core.specs.Bodies.{Mass}
use Rattle.units_core.specs.Cells.{cell_eq}

pub cells_exact : (a b : Cell) → Decides (cell_eq a b) (a ≡ b)
cells_exact a b =
    Decides-like _ (λ p i. record { bay = p.0 i; row = p.1.0 i; tier = p.1.1 i })
    (λ e. (ap (λ c. c.bay) e, (ap (λ c. c.row) e, ap (λ c. c.tier) e)))
    (Decides-and _ _ (unsigned_Decides a.bay b.bay)
    (Decides-and _ _ (unsigned_Decides a.row b.row) (unsigned_Decides a.tier b.tier)))

abbrev place_eq : Place → Place → Bool
place_eq a b = int_eq a.x b.x && (int_eq a.y b.y && (int_eq a.z b.z && int_eq a.half b.half))

pub places_exact : (a b : Place) → Decides (place_eq a b) (a ≡ b)
places_exact a b =
    Decides-like _ (λ p i. record { x = p.0 i; y = p.1.0 i; z = p.1.1.0 i; half = p.1.1.1 i })
    (λ e. (ap (λ c. c.x) e, (ap (λ c. c.y) e, (ap (λ c. c.z) e, ap (λ c. c.half) e))))
    (Decides-and _ _ (signed_Decides a.x b.x) (Decides-and _ _ (signed_Decides a.y b.y)
    (Decides-and _ _ (signed_Decides a.z b.z) (signed_Decides a.half b.half))))

abbrev mass_eq : Mass → Mass → Bool
mass_eq a b = nat_eq a.kg b.kg && (place_eq a.place b.place && int_eq a.fsm b.fsm)

pub bodies_exact : (a b : Mass) → Decides (mass_eq a b) (a ≡ b)
bodies_exact a b =
    Decides-like _ (λ p i. record { kg = p.0 i; place = p.1.0 i; fsm = p.1.1 i })
    (λ e. (ap (λ c. c.kg) e, (ap (λ c. c.place) e, ap (λ c. c.fsm) e)))
    (Decides-and _ _ (unsigned_Decides a.kg b.kg)
    (Decides-and _ _ (places_exact a.place b.place) (signed_Decides a.fsm b.fsm)))

abbrev frame_eq : Frame → Frame → Bool
frame_eq a b =
    int_eq a.x b.x
    && (int_eq a.shear_max b.shear_max
    && (int_eq a.hog_max b.hog_max && int_eq a.sag_max b.sag_max))

pub frames_exact : (a b : Frame) → Decides (frame_eq a b) (a ≡ b)
frames_exact a b =
    Decides-like _
    (λ p i. record { x = p.0 i; shear_max = p.1.0 i; hog_max = p.1.1.0 i; sag_max = p.1.1.1 i })
    (λ e. (
      ap (λ f. f.x) e,
      (
        ap (λ f. f.shear_max) e,
        (ap (λ f. f.hog_max) e, ap (λ f. f.sag_max) e),
      ),
    ))
    (Decides-and _ _ (signed_Decides a.x b.x)
    (Decides-and _ _ (signed_Decides a.shear_max b.shear_max)
    (Decides-and _ _ (signed_Decides a.hog_max b.hog_max) (signed_Decides a.sag_max b.sag_max))))
