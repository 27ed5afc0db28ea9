-- What each of some items gives, one item at a time.
use Rattle.std.proofs.Common.{◌≡◌, ◌∙◌, ℕ, ◌+◌, ◌<◌, List, [], ◌∷◌, ◌++◌, zero, suc, length, drop, get_or, zip, option_map, IsSome, Bor, add-one, Option, Some, None, Result, Ok, Err, refl, ap, sym, append_assoc, arith}
use Rattle.std.specs.Result.{result_err}
use Rattle.std.proofs.lemmas.List.{append-nil}
use Rattle.csv.specs.Records.{field_at}
use Rattle.ship_tables.specs.declared.faults.TableFault.{TableFault}
use Rattle.units_core.specs.Outcome.{◌>>=◌}
use Rattle.ship_tables.specs.Outcome.{each, in_turn}

module _ {B : Type 0} where
  -- what comes after those that are done
  abbrev pub prepend : List B → Result (List B) TableFault → Result (List B) TableFault
  prepend done r = r >>= (λ more. Ok (done ++ more))

  prepend-push : (done : List B) (y : B) (r : Result (List B) TableFault) → prepend done (r >>= (λ ys. Ok (y ∷ ys))) ≡ prepend (done ++ y ∷ []) r
  prepend-push done y (Ok ys) = ap Ok (sym (append_assoc done (y ∷ []) ys))
  prepend-push done y (Err e) = refl

  -- none is done
  pub prepend-nil : (r : Result (List B) TableFault) → r ≡ prepend [] r
  prepend-nil (Ok ys) = refl
  prepend-nil (Err e) = refl

module _ {A B : Type 0} where
  -- one more is done
  pub each-more : (f : A → Result B TableFault) (x : A) (xs : List A) (done : List B) (y : B) → f x ≡ Ok y
      → prepend done (each f (x ∷ xs)) ≡ prepend (done ++ y ∷ []) (each f xs)
  each-more f x xs done y e = rw e (prepend-push done y (each f xs))

  -- the first fault
  pub each-stop : (f : A → Result B TableFault) (x : A) (xs : List A) (done : List B) (e : TableFault) → f x ≡ Err e → prepend done (each f (x ∷ xs)) ≡ Err e
  each-stop f x xs done e h = rw h refl

  -- all are done
  pub each-end : (f : A → Result B TableFault) (done : List B) → prepend done (each f []) ≡ Ok done
  each-end f done = ap Ok (append-nil done)

  -- one more in turn, the first fault in turn
  pub in_turn-more : (add : B → A → Result B TableFault) (done more : B) (x : A) (xs rest : List A) → rest ≡ x ∷ xs → add done x ≡ Ok more
      → in_turn add done rest ≡ in_turn add more xs
  in_turn-more add done more x xs rest e h = rw (e, h) refl

  pub in_turn-stop : (add : B → A → Result B TableFault) (done : B) (x : A) (xs rest : List A) (e : TableFault) → rest ≡ x ∷ xs → add done x ≡ Err e
      → in_turn add done rest ≡ Err e
  in_turn-stop add done x xs rest e is h = rw (is, h) refl

-- the result of a chain whose first result is Ok, and of one whose first result is Err
pub by_ok : {A B E : Type 0} (w : Result A E) (a : A) (k : A → Result B E) (all : Result B E) → w ≡ Ok a → k a ≡ all → w >>= k ≡ all
by_ok w a k all is e = ap (λ v. v >>= k) is ∙ e

pub by_err : {A B E : Type 0} (w : Result A E) (f : E) (k : A → Result B E) → w ≡ Err f → w >>= k ≡ Err f
by_err w f k is = ap (λ v. v >>= k) is

pub is_fault : {A E : Type 0} (w : Result A E) (f : E) → result_err w ≡ Some f → w ≡ Err f
is_fault (Ok a) f e = cc
is_fault (Err x) f e = cc

-- the pairs of two lists from a place on
zip-drop_suc : {X : Type 0} (xs : List X) (ys : List (List ℕ)) (i : ℕ) (d : X) (y : List ℕ) → i < length xs → field_at ys i ≡ Some y
    → zip (drop i xs) (drop i ys) ≡ (get_or xs i d, y) ∷ zip (drop (suc i) xs) (drop (suc i) ys)
unfolding field_at
zip-drop_suc [] ys i d y h e = absurd (omega arith)
zip-drop_suc (x ∷ xs) [] i d y h e = cc
zip-drop_suc (x ∷ xs) (z ∷ ys) zero d y h e = cc
zip-drop_suc (x ∷ xs) (z ∷ ys) (suc i) d y h e = zip-drop_suc xs ys i d y (omega arith) e

pub zip-drop : {X : Type 0} (xs : List X) (ys : List (List ℕ)) (i : ℕ) (d : X) (y : List ℕ) → i < length xs → field_at ys i ≡ Some y
    → zip (drop i xs) (drop i ys) ≡ (get_or xs i d, y) ∷ zip (drop (i + 1) xs) (drop (i + 1) ys)
zip-drop xs ys i d y h e = rw add-one (zip-drop_suc xs ys i d y h e)

-- what is found of a field that a record has
pub field_there : (ys : List (List ℕ)) (i : ℕ) (o : Option (Bor (List ℕ))) → i < length ys → option_map (λ s. s.now) o ≡ field_at ys i → IsSome o
unfolding field_at
field_there [] i o h e = absurd (omega arith)
field_there (y ∷ ys) zero (Some b) h e = refl
field_there (y ∷ ys) zero None h e = cc
field_there (y ∷ ys) (suc i) o h e = field_there ys i o (omega arith) e

pub field_is : (f : Option (List ℕ)) (o : Option (Bor (List ℕ))) (b : Bor (List ℕ)) → option_map (λ s. s.now) o ≡ f → o ≡ Some b → f ≡ Some b.now
field_is f o b e is = sym e ∙ ap (option_map (λ (s : Bor (List ℕ)). s.now)) is
