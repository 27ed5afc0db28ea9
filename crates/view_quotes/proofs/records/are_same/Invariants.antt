use Rattle.std.proofs.Common.{◌≡◌, ◌<◌, ℕ}
use Rattle.csv.specs.Records.{field_at, fields_of}
use Rattle.view_quotes.proofs.records.are_same.Given as goal

abbrev pub invariant-loop-place : goal.invariant-loop-place
invariant-loop-place l =
    (j : ℕ) → j < l.place → field_at (fields_of l.one) j ≡ field_at (fields_of l.other) j
