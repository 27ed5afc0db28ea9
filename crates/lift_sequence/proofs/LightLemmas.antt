-- Lists of steps that load no container which is too heavy for a sum stay such lists.
use Rattle.std.proofs.Common.{◌≡◌, ℕ, zero, suc, ◌<◌, ◌≤◌, ◌^◌, List, [], ◌∷◌, length, set, get_or, Option, None, Some, ap, refl, subst, arith}
use Rattle.std.specs.Prelude.{slice_get, option_map}
use Rattle.std.specs.List.{AllByRecursion, insert, remove, swap}
use Rattle.std.proofs.lemmas.List.Edits.{swap_is}
use Rattle.std.proofs.lemmas.Option.{none-some}
use Rattle.stow_messages.specs.declared.lifts.Lift.TheVariants.{Load}
use Rattle.lift_sequence.specs.declared.operations.Op.{Op}
use Rattle.lift_sequence.specs.declared.operations.Op.TheVariants as operation
use Rattle.lift_sequence.specs.Follow.{reweighed, weighed_at, with_step}
use Rattle.lift_sequence.specs.Independent.{moved, put_in}
use Rattle.lift_sequence.specs.Sequence.{IsLight}

-- it is light enough, too
weighed_one : (kg : ℕ) (op : Op) → kg ≤ 10 ^ 9 → IsLight (reweighed kg op)
weighed_one kg (operation.Lift (Load item)) h = h
weighed_one kg op h = tt

pub weighed_light : (kg : ℕ) (ops : List Op) (i : ℕ) → kg ≤ 10 ^ 9 → AllByRecursion IsLight ops → AllByRecursion IsLight (weighed_at kg i ops)
weighed_light kg [] i h all = tt
weighed_light kg (op ∷ ops) zero h all = (weighed_one kg op h, all.1)
weighed_light kg (op ∷ ops) (suc i) h all = by (option_map (reweighed kg) (slice_get ops i)) (weighed_light kg ops i h all.1) where
  by : (o : Option Op) → AllByRecursion IsLight (with_step ops i o) → AllByRecursion IsLight (with_step (op ∷ ops) (suc i) o)
  by None rest = all
  by (Some x) rest = (all.0, rest)

-- two of its steps are exchanged
light_set : (ops : List Op) (i : ℕ) (op : Op) → AllByRecursion IsLight ops → IsLight op → AllByRecursion IsLight (set ops i op)
light_set [] i op all light = tt
light_set (x ∷ xs) zero op all light = (light, all.1)
light_set (x ∷ xs) (suc i) op all light = (all.0, light_set xs i op all.1 light)

light_get : (ops : List Op) (i : ℕ) (d : Op) → i < length ops → AllByRecursion IsLight ops → IsLight (get_or ops i d)
light_get [] i d within all = absurd (omega (arith, within))
light_get (x ∷ xs) zero d within all = all.0
light_get (x ∷ xs) (suc i) d within all = light_get xs i d (omega (arith, within)) all.1

pub light_swapped : (ops : List Op) (i j : ℕ) → i < length ops → j < length ops → AllByRecursion IsLight ops → AllByRecursion IsLight (swap ops i j)
light_swapped [] i j low high all = absurd (omega (arith, low))
light_swapped (op ∷ more) i j low high all =
    let ops : List Op = op ∷ more in
    subst (AllByRecursion IsLight) (swap_is ops i j op low high)
    (light_set (set ops i (get_or ops j op)) j (get_or ops i op) (light_set ops i (get_or ops j op) all (light_get ops j op high all)) (light_get ops i op low all))

-- one of them is moved
light_insert : (ops : List Op) (j : ℕ) (op : Op) → AllByRecursion IsLight ops → IsLight op → AllByRecursion IsLight (insert ops j op)
light_insert ops zero op all light = (light, all)
light_insert [] (suc j) op all light = (light, tt)
light_insert (x ∷ xs) (suc j) op all light = (all.0, light_insert xs j op all.1 light)

light_remove : (ops : List Op) (i : ℕ) → AllByRecursion IsLight ops → AllByRecursion IsLight (remove ops i)
light_remove [] zero all = tt
light_remove [] (suc i) all = tt
light_remove (x ∷ xs) zero all = all.1
light_remove (x ∷ xs) (suc i) all = (all.0, light_remove xs i all.1)

light_at : (ops : List Op) (i : ℕ) (op : Op) → slice_get ops i ≡ Some op → AllByRecursion IsLight ops → IsLight op
light_at [] i op e all = absurd (none-some op e)
light_at (x ∷ xs) zero op e all = subst IsLight (ap held e) all.0 where
  held : Option Op → Op
  held None = x
  held (Some y) = y
light_at (x ∷ xs) (suc i) op e all = light_at xs i op e all.1

pub light_moved : (ops : List Op) (i j : ℕ) → AllByRecursion IsLight ops → AllByRecursion IsLight (moved ops i j)
light_moved ops i j all = by_step_there (slice_get ops i) refl where
  by_step_there : (o : Option Op) → slice_get ops i ≡ o → AllByRecursion IsLight (put_in (remove ops i) j o)
  by_step_there None e = light_remove ops i all
  by_step_there (Some op) e = light_insert (remove ops i) j op (light_remove ops i all) (light_at ops i op e all)
