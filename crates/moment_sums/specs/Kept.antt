-- Bookkeeping: a sum as the code keeps it: plain numbers, with 16 places for frames, and how many
-- bodies were added or taken.
use Rattle.std.specs.Prelude.{◌≡◌, ℕ, ◌+◌, ◌*◌, ◌^◌, ◌≤◌, ℤ, pos, ◌+ℤ◌, ◌*ℤ◌, neg_ℤ, int_le, List}
use Rattle.std.specs.Prelude.{[], ◌∷◌, length, map, replicate, unsigned_abs, Bool, ◌&&◌, nat_eq}
use Rattle.std.specs.Prelude.{if◌then◌else◌}
use Rattle.std.specs.List.{list_all, range_with_len}
use Rattle.std.specs.Option.{option_to_list}
use Rattle.units_core.specs.Interpolation.{at, IsWithin}
use Rattle.units_core.specs.declared.steps.Step.{Step}
use Rattle.prefix_scan.specs.Laws.{most_parts}
use Rattle.moment_sums.specs.Sum.{Weight, MomentX, MomentY, MomentZ, Surface, WeightAft, MomentAft}
use Rattle.moment_sums.specs.Sum.{Sum}

pub record Kept : Type 0 where
  pub kg : ℤ
  pub x : ℤ
  pub y : ℤ
  pub z : ℤ
  pub fsm : ℤ
  pub weights_aft : List ℤ
  pub moments_aft : List ℤ
  pub parts : ℕ

-- the values that it keeps
abbrev pub values : Kept → Sum
values t Weight = t.kg
values t MomentX = t.x
values t MomentY = t.y
values t MomentZ = t.z
values t Surface = t.fsm
values t (WeightAft i) = at t.weights_aft i
values t (MomentAft i) = at t.moments_aft i

-- a sum of this number of parts, as it is kept
abbrev pub kept_of : Sum → ℕ → Kept
kept_of s parts = record {
  kg = s Weight;
  x = s MomentX;
  y = s MomentY;
  z = s MomentZ;
  fsm = s Surface;
  weights_aft = map (λ i. s (WeightAft i)) (range_with_len 0 16);
  moments_aft = map (λ i. s (MomentAft i)) (range_with_len 0 16);
  parts = parts;
}

-- how many bodies a step takes out and puts in
abbrev pub bodies_of : Step → ℕ
bodies_of step = length (option_to_list step.out) + length (option_to_list step.put)

-- At most 2^19 parts, each of 10^9 kg, of 10^15 kg mm about each axis, of a free surface moment of
-- 10^12 kg mm, and aft of each frame of 10^9 kg and 2 * 10^15 kg mm at most.
pub record IsKept (kg x y z fsm : ℤ) (weights moments : List ℤ) (parts : ℕ) : Type 0 where
  pub few : parts ≤ most_parts
  pub kg_within : unsigned_abs kg ≤ parts * 10 ^ 9
  pub x_within : unsigned_abs x ≤ parts * 10 ^ 15
  pub y_within : unsigned_abs y ≤ parts * 10 ^ 15
  pub z_within : unsigned_abs z ≤ parts * 10 ^ 15
  pub fsm_within : unsigned_abs fsm ≤ parts * 10 ^ 12
  pub weights_within : IsWithin (parts * 10 ^ 9) weights
  pub moments_within : IsWithin (parts * (2 * 10 ^ 15)) moments
  pub weights_places : length weights ≡ 16
  pub moments_places : length moments ≡ 16

-- numbers added place by place; where one list ends, the other goes on
abbrev pub added : List ℤ → List ℤ → List ℤ
added [] ys = ys
added (x ∷ xs) [] = x ∷ xs
added (x ∷ xs) (y ∷ ys) = (x +ℤ y) ∷ added xs ys

-- nothing, and two sums as one
abbrev pub none_kept : Kept
none_kept = record {
  kg = pos 0;
  x = pos 0;
  y = pos 0;
  z = pos 0;
  fsm = pos 0;
  weights_aft = replicate 16 (pos 0);
  moments_aft = replicate 16 (pos 0);
  parts = 0;
}

abbrev pub both_kept : Kept → Kept → Kept
both_kept a b = record {
  kg = a.kg +ℤ b.kg;
  x = a.x +ℤ b.x;
  y = a.y +ℤ b.y;
  z = a.z +ℤ b.z;
  fsm = a.fsm +ℤ b.fsm;
  weights_aft = added a.weights_aft b.weights_aft;
  moments_aft = added a.moments_aft b.moments_aft;
  parts = a.parts + b.parts;
}

-- Of how many parts a sum is. What hasn't 16 places for frames is no sum: it is of more parts than
-- any can be.
abbrev pub has_places : Kept → Bool
has_places t = nat_eq (length t.weights_aft) 16 && nat_eq (length t.moments_aft) 16

abbrev pub size_of : Kept → ℕ
size_of t = if has_places t then t.parts else most_parts + 1

-- The sums that the bodies of a ship can have: no mass is negative, no centre is more than a
-- kilometre away, no more mass is aft of a frame than there is nor further than two kilometres, and
-- at most 200 tanks have a free surface.
abbrev pub is_either_way : ℤ → ℤ → Bool
is_either_way most n = int_le (neg_ℤ most) n && int_le n most

abbrev pub is_share : ℤ → ℤ → Bool
is_share most n = int_le (pos 0) n && int_le n most

abbrev pub are_centres : ℤ → ℤ → ℤ → ℤ → Bool
are_centres most x y z = is_either_way most x && (is_either_way most y && is_either_way most z)

abbrev pub is_bounded : Kept → Bool
is_bounded t =
    (int_le (pos 0) t.kg
    && (are_centres (pos (10 ^ 6) *ℤ t.kg) t.x t.y t.z && is_share (pos (2 * 10 ^ 14)) t.fsm))
    && (list_all (is_share t.kg) t.weights_aft
    && list_all (is_share (pos (2 * 10 ^ 6) *ℤ t.kg)) t.moments_aft)
