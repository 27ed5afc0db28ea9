use Rattle.std.proofs.Common.{rules, ℕ, ◌≡◌, ◌∙◌, ◌+◌, ◌-◌, ◌≤◌, List, [], ◌∷◌, ◌++◌, length, map, ℤ, pos, slice_index_or, FitsSigned, to_z-of_z, ap, arith}
use Rattle.std.specs.Fmt.{signed_decimal}
use Rattle.std.specs.Int.{w128}
use Rattle.std.specs.List.{range_with_len}
use Rattle.decimal_text.specs.Numbers.{behind_each}
use Rattle.units_core.specs.Interpolation.{at}
use Rattle.view_table.proofs.TextLemmas.{entries, four}
use Rattle.view_table.proofs.figures.put_array.Goals as goal

pub returns-clause-text : goal.returns-clause-text
returns-clause-text c =
    let xs = c.args.loads.now in
    let n = c.args.frames - 1 in
    let key = c.args.key.now in
    let end = c.args.end.now in
    let first : FitsSigned w128 (slice_index_or xs 0 (pos 0)) = search rules in
    let front = 91 ∷ signed_decimal (slice_index_or xs 0 (pos 0)) in
    let rest = map (at xs) (range_with_len 1 n) in
    let inside : 1 + n ≤ length xs = search rules in
    let put-first = c.put_parted.ensures.text ∙ (λ j. (91 ∷ signed_decimal (to_z-of_z first j)) ++ c.put_each.new.self) in
    c.put_words.ensures
    ∙ ap (λ (t : List ℕ). key ++ t) (put-first
    ∙ ap (λ (t : List ℕ). front ++ t) (c.put_each.ensures.text
    ∙ ap (λ (l : List ℤ). behind_each 44 l ++ c.put_byte.new.self) (entries xs 1 n inside)
    ∙ ap (λ (t : List ℕ). behind_each 44 rest ++ t) c.put_byte.ensures))
    ∙ four key front (behind_each 44 rest) (93 ∷ []) end
