use Rattle.std.proofs.Common.{◌≡◌, ℕ, ◌+◌, ◌*◌, ◌/◌, ◌%◌, arith}
use Rattle.fractions.proofs.products.product.Goals as goal

pub returns : goal.returns
returns c =
    let a = c.args.a in
    let b = c.args.b in
    let h : ℕ = 18446744073709551616 in
    let a_halves : a / h * h + a % h ≡ a = omega arith in
    let b_halves : b / h * h + b % h ≡ b = omega arith in
    let whole : (a / h * h + a % h) * (b / h * h + b % h) ≡ a * b = λ j. a_halves j * b_halves j in
    omega (arith, whole)
