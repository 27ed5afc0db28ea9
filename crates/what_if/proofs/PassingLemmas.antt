-- Conditions that pass in one list pass in another that begins alike.
use Rattle.std.proofs.Common.{◌≡◌, ◌∙◌, ℕ, ◌+◌, ◌<◌, ◌≤◌, List, [], ◌∷◌, ◌++◌, length, take, take-take, get_or, Option, sym, ap, arith}
use Rattle.std.proofs.lemmas.List.{take_more}
use Rattle.criteria.specs.declared.criterion.Criterion.{Criterion}
use Rattle.lift_sequence.specs.declared.operations.Op.{Op}
use Rattle.lift_sequence.specs.Aboard.{after_all}
use Rattle.lift_sequence.specs.Bodies.{bodies}
use Rattle.moment_sums.specs.Sum.{sum_of}
use Rattle.seq_report.specs.Report.{failure_of, step_line}
use Rattle.port_call.specs.Grounds.{GroundRecord, aboard_first}
use Rattle.what_if.specs.Bases.{Pass}

-- what is told of the condition after these steps
told : GroundRecord → ℕ → List Op → Option (ℕ × Criterion)
told base k ops = failure_of (step_line base.ship k (sum_of base.ship.ship.frames (bodies base.ship (after_all base.ship (aboard_first base) ops))))

-- in a list that begins with as many equal steps
pub pass_alike : (base : GroundRecord) (ops others : List Op) (count same n : ℕ) → take same ops ≡ take same others → n ≤ count → n ≤ same + 1 → Pass base ops count → Pass base others n
unfolding told
pass_alike base ops others count same n alike few near pass k low =
    let inside : k ≤ same = omega (arith, low, near) in
    let eq : take k ops ≡ take k others = sym (take-take k same ops inside) ∙ ap (λ (l : List Op). take k l) alike ∙ take-take k same others inside in
    ap (told base k) (sym eq) ∙ pass k (omega (arith, low, few))

-- one equal step more
pub one_more_alike : (xs ys : List Op) (k : ℕ) (d : Op) → k < length xs → k < length ys → take k xs ≡ take k ys → get_or xs k d ≡ get_or ys k d → take (k + 1) xs ≡ take (k + 1) ys
one_more_alike xs ys k d inside there before here =
    take_more xs k d inside ∙ (λ j. before j ++ (here j ∷ [])) ∙ sym (take_more ys k d there)
