-- What steps change that are the same but at some places.
use Rattle.std.proofs.Common.{◌≡◌, ◌∙◌, ℕ, zero, suc, List, [], ◌∷◌, Option, None, Some, length, map, get_or, refl, sym, ap}
use Rattle.std.specs.Prelude.{slice_get}
use Rattle.std.proofs.lemmas.List.{length-map}
use Rattle.units_core.specs.declared.frames.Frame.{Frame}
use Rattle.units_core.specs.declared.steps.Step.{Step}
use Rattle.moment_sums.specs.Kept.{Kept, none_kept}
use Rattle.running_sums.specs.Fours.{LackPlaces, change_of, fours}
use Rattle.running_sums.proofs.PlaceLemmas.{IsOther, lack_places}

module _ {X Y : Type 0} (f : X → Y) (d : Y) where
  abbrev at_one : Option X → Y
  at_one None = d
  at_one (Some x) = f x

  map_there : (xs : List X) (k : ℕ) → get_or (map f xs) k d ≡ at_one (slice_get xs k)
  map_there [] k = refl
  map_there (x ∷ xs) zero = refl
  map_there (x ∷ xs) (suc k) = map_there xs k

-- what a step changes that is as it was
pub same_change : (frames : List Frame) (old new : List Step) (k : ℕ) → slice_get new k ≡ slice_get old k
    → get_or (map (change_of frames) old) k none_kept ≡ get_or (map (change_of frames) new) k none_kept
same_change frames old new k same =
    map_there (change_of frames) none_kept old k ∙ ap (at_one (change_of frames) none_kept) (sym same) ∙ sym (map_there (change_of frames) none_kept new k)

pub lack_but : (frames : List Frame) (old new : List Step) (sums : List Kept) (places : List ℕ) → length new ≡ length old → sums ≡ fours (map (change_of frames) old)
    → ((k : ℕ) → IsOther k places → slice_get new k ≡ slice_get old k) → LackPlaces places (fours (map (change_of frames) new)) sums
lack_but frames old new sums places long are same =
    lack_places places (map (change_of frames) old) (map (change_of frames) new) sums
    (length-map old (change_of frames) ∙ sym long ∙ sym (length-map new (change_of frames))) are (λ k other. same_change frames old new k (same k other))
