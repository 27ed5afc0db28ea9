-- What workers did with the numbers that they drew, and how that is counted. A hand is the list of
-- a worker's entries, the newest first.
use Rattle.std.specs.Prelude.{◌≡◌, ℕ, zero, suc, ◌+◌, ◌≤◌, List, [], ◌∷◌, cond, nat_eq, Bool, true}
use Rattle.std.specs.Prelude.{false, Option, Some, None, min}
use Rattle.claim_board.specs.declared.entries.Stage.{Stage}
use Rattle.claim_board.specs.declared.entries.Stage.TheVariants.{Drawn, Looked, Skipped, Worked}
use Rattle.claim_board.specs.declared.entries.Stage.TheVariants.{Posted}
use Rattle.claim_board.specs.declared.entries.Entry.{Entry}

-- f of each, added up
abbrev pub total : {A : Type 0} → (A → ℕ) → List A → ℕ
total f [] = 0
total f (x ∷ xs) = f x + total f xs

-- f of each number below n, added up
abbrev pub below : (ℕ → ℕ) → ℕ → ℕ
below f zero = 0
below f (suc n) = below f n + f n

-- P of each
abbrev pub Each : {A : Type 0} → (A → Type 0) → List A → Type 0
Each P [] = Unit {0}
Each P (x ∷ xs) = P x × Each P xs

-- an entry that is new, one that has looked at the least step, and one at a later stage
abbrev pub fresh : ℕ → Entry
fresh k = record { number = k; looked = None; stage = Drawn }

abbrev pub with_look : Option ℕ → Entry → Entry
with_look least e = record { number = e.number; looked = least; stage = Looked }

abbrev pub ended : Stage → Entry → Entry
ended stage e = record { number = e.number; looked = e.looked; stage = stage }

-- a worker goes on to the next number only from such a stage
abbrev pub is_ended : Stage → Bool
is_ended Drawn = false
is_ended Looked = false
is_ended Skipped = true
is_ended (Worked None) = true
is_ended (Worked (Some f)) = false
is_ended (Posted f) = true

-- f of the numbers of a hand, added up
abbrev pub numbers : (ℕ → ℕ) → List Entry → ℕ
numbers f es = total (λ (e : Entry). f e.number) es

-- 1 for k, and 0 for every other number
abbrev pub is : ℕ → ℕ → ℕ
is k x = cond (nat_eq x k) 1 0

abbrev pub is_post : ℕ → Stage → ℕ
is_post step Drawn = 0
is_post step Looked = 0
is_post step Skipped = 0
is_post step (Worked o) = 0
is_post step (Posted f) = is step f

-- how often a hand posted the step
abbrev pub posts : ℕ → List Entry → ℕ
posts step es = total (λ (e : Entry). is_post step e.stage) es

-- the look gave no step before this one
abbrev pub NotBefore : ℕ → Option ℕ → Type 0
NotBefore begin looked = (l : ℕ) → looked ≡ Some l → begin ≤ l

-- there is a least step, and it is at most l
abbrev pub AtMost : Option ℕ → ℕ → Type 0
AtMost None l = ⊥
AtMost (Some m) l = m ≤ l

-- the lesser of a step and the least step so far
abbrev pub lesser : Option ℕ → ℕ → Option ℕ
lesser None f = Some f
lesser (Some l) f = Some (min l f)
