-- Lists that a test of their items tells apart.
use Rattle.std.proofs.Common.{◌≡◌, Bool, ◌&&◌, List, [], ◌∷◌, map, refl, ap}
use Rattle.std.specs.Prelude.{Decides}
use Rattle.std.specs.Cmp.Lexicographic.{pointwise, pointwise_decides}

-- a test of what a function makes of the items
pointwise_map : {A B : Type 0} (f : A → B) (E : B → B → Bool) (xs ys : List A)
    → pointwise (λ a b. E (f a) (f b)) xs ys ≡ pointwise E (map f xs) (map f ys)
pointwise_map f E [] [] = refl
pointwise_map f E [] (y ∷ ys) = refl
pointwise_map f E (x ∷ xs) [] = refl
pointwise_map f E (x ∷ xs) (y ∷ ys) = ap (λ t. E (f x) (f y) && t) (pointwise_map f E xs ys)

-- lists of lists
pub rows_decide : {A K : Type 0} (f : A → List K) (E : K → K → Bool) → ((x y : K) → Decides (E x y) (x ≡ y)) → (xs ys : List A)
    → Decides (pointwise (λ a b. pointwise E (f a) (f b)) xs ys) (map f xs ≡ map f ys)
rows_decide f E decides xs ys = rw (pointwise_map f (pointwise E) xs ys) (pointwise_decides (pointwise_decides decides) (map f xs) (map f ys))
