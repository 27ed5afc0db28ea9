-- Sines and cosines of 0, 5, .., 60 degrees, in millionths, rounded to the nearest.
use Rattle.std.specs.Prelude.{ℤ, pos, List, [], ◌∷◌}

abbrev pub sines : List ℤ
sines =
    pos 0 ∷ pos 87156 ∷ pos 173648 ∷ pos 258819 ∷ pos 342020 ∷ pos 422618 ∷ pos 500000 ∷ pos 573576
    ∷ pos 642788 ∷ pos 707107 ∷ pos 766044
    ∷ pos 819152 ∷ pos 866025 ∷ []

abbrev pub cosines : List ℤ
cosines =
    pos 1000000 ∷ pos 996195 ∷ pos 984808 ∷ pos 965926 ∷ pos 939693 ∷ pos 906308 ∷ pos 866025
    ∷ pos 819152 ∷ pos 766044 ∷ pos 707107 ∷ pos 642788
    ∷ pos 573576 ∷ pos 500000 ∷ []
