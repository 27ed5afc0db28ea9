-- Numbers in print: a minus where they are below 0, the whole, a point, and so many decimals.
use Rattle.std.specs.Prelude.{ℕ, ℤ, pos, int_lt, List, [], ◌++◌, ◌/◌, ◌%◌, codes, unsigned_abs}
use Rattle.std.specs.Prelude.{if◌then◌else◌}
use Rattle.std.specs.Fmt.{decimal}

abbrev pub sign_of : ℤ → List ℕ
sign_of n = if int_lt n (pos 0) then codes "-" else []

abbrev pub tenths : ℤ → List ℕ
tenths n = sign_of n
    ++ (decimal (unsigned_abs n / 10) ++ (codes "." ++ decimal (unsigned_abs n % 10)))

abbrev pub hundredths : ℤ → List ℕ
hundredths n = sign_of n
    ++ (decimal (unsigned_abs n / 100) ++ (codes "."
    ++ (decimal (unsigned_abs n / 10 % 10) ++ decimal (unsigned_abs n % 10))))

abbrev pub thousandths : ℤ → List ℕ
thousandths n = sign_of n
    ++ (decimal (unsigned_abs n / 1000) ++ (codes "."
    ++ (decimal (unsigned_abs n / 100 % 10)
    ++ (decimal (unsigned_abs n / 10 % 10) ++ decimal (unsigned_abs n % 10)))))

abbrev pub ten_thousandths : ℤ → List ℕ
ten_thousandths n = sign_of n
    ++ (decimal (unsigned_abs n / 10_000) ++ (codes "."
    ++ (decimal (unsigned_abs n / 1000 % 10)
    ++ (decimal (unsigned_abs n / 100 % 10)
    ++ (decimal (unsigned_abs n / 10 % 10) ++ decimal (unsigned_abs n % 10))))))
