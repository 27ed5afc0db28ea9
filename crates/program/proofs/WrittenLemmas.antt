-- What is written: the front of two texts, one behind the other.
use Rattle.std.proofs.Common.{◌≡◌, ℕ, ◌+◌, ◌<◌, List, ◌++◌, length, take, sym, ap, ◌∙◌, arith}
use Rattle.std.proofs.Math.Seq.{take-append-add}
use Rattle.std.proofs.lemmas.List.{length-append, take-append-le}
use Rattle.program.specs.Written.{IsFrontOf}

module _ (first rest whole : List ℕ) (is : first ++ rest ≡ whole) where
  size : length whole ≡ length first + length rest
  size = ap (λ (text : List ℕ). length text) (sym is) ∙ length-append first rest

  -- the first m bytes of the first text
  pub in_first : (m : ℕ) → m < length first → IsFrontOf whole (take m first)
  in_first m short =
      let within : m < length whole = omega (arith, short, size) in
      (m, within, sym (take-append-le m first rest (omega (arith, short))) ∙ ap (λ (text : List ℕ). take m text) is)

  -- the first text, and m bytes of the rest
  pub in_rest : (m : ℕ) → m < length rest → IsFrontOf whole (first ++ take m rest)
  in_rest m short =
      let within : length first + m < length whole = omega (arith, short, size) in
      (length first + m, within, sym (take-append-add first rest m) ∙ ap (λ (text : List ℕ). take (length first + m) text) is)
