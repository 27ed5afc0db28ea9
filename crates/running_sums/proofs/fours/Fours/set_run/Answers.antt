use Rattle.std.proofs.Common.{◌≡◌, ◌∙◌, ◌-◌, ◌/◌, List, length, map, drop, sym, ap, subst, arith}
use Rattle.std.proofs.lemmas.List.{length-map, length-take-le}
use Rattle.prefix_scan.specs.Rows.{IsWritten}
use Rattle.moment_sums.specs.Kept.{Kept, none_kept}
use Rattle.running_sums.specs.Fours.{change_of, fours}
use Rattle.running_sums.proofs.FourLemmas.{length-fours, not_written}
use Rattle.running_sums.proofs.RunLemmas.{lacks_none}
use Rattle.running_sums.proofs.fours.Fours.set_run.Goals as goal

pub returns-then-four-whole-clause-values : goal.returns-then-four-whole-clause-values
returns-then-four-whole-clause-values c =
    let ys : List Kept = map (change_of c.args.frames.now) c.args.sequence.now.steps in
    let four = c.args.four in
    let whole = c.min-whole.result in
    let old : List Kept = c.args.self.now.values in
    let same = length-map c.args.sequence.now.steps (change_of c.args.frames.now) ∙ c.facts.ensures.long in
    let used = length-take-le (whole - four) c.args.room.now (omega (arith, c.requires.fits, c.min-whole.ensures)) in
    let is = ap (λ v. length v.values) c.self.view_is in
    lacks_none (fours ys) old c.set_piece.new.self.values four c.args.end whole (c.requires.long ∙ ap (λ n. n / 4) (sym same) ∙ sym (length-fours ys)) (omega (arith, c.min-whole.ensures))
    (λ k low high. omega (arith, c.min-whole.ensures, c.len.ensures, low, high, is))
    (subst (λ n. IsWritten none_kept four n (drop four (fours ys)) old c.set_piece.new.self.values) used c.set_piece.ensures.values)

pub returns-then-four-whole-clause-counted : goal.returns-then-four-whole-clause-counted
returns-then-four-whole-clause-counted c within low =
    let whole = c.min-whole.result in
    let is = ap (λ v. length v.values) c.self.view_is in
    let used = length-take-le (whole - c.args.four) c.args.room.now (omega (arith, c.requires.fits, c.min-whole.ensures)) in
    let all : whole ≡ c.args.end = omega (arith, c.min-whole.ensures, c.len.ensures, within, is) in
    let more = c.set_piece.ensures.counted (omega (arith, used, all, low)) in
    omega (arith, more, used, all)

pub returns-else-four-whole-clause-values : goal.returns-else-four-whole-clause-values
returns-else-four-whole-clause-values c =
    let ys : List Kept = map (change_of c.args.frames.now) c.args.sequence.now.steps in
    let four = c.args.four in
    let whole = c.min-whole.result in
    let old : List Kept = c.args.self.now.values in
    let same = length-map c.args.sequence.now.steps (change_of c.args.frames.now) ∙ c.facts.ensures.long in
    let is = ap (λ v. length v.values) c.self.view_is in
    lacks_none (fours ys) old old four c.args.end whole (c.requires.long ∙ ap (λ n. n / 4) (sym same) ∙ sym (length-fours ys)) (omega (arith, c.min-whole.ensures))
    (λ k low high. omega (arith, c.min-whole.ensures, c.len.ensures, low, high, is))
    (not_written four (whole - four) (omega (arith, c.if-four-whole.false)) (drop four (fours ys)) old)
