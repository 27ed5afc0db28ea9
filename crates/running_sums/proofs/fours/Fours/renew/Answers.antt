use Rattle.std.proofs.Common.{◌≡◌, ◌∙◌, ◌+◌, ◌-◌, ◌<◌, List, length, map, take, drop, subst, arith, rules}
use Rattle.std.proofs.lemmas.List.{length-append, length-take-le}
use Rattle.prefix_scan.specs.Rows.{IsWritten}
use Rattle.moment_sums.specs.Kept.{Kept, none_kept}
use Rattle.running_sums.specs.Fours.{change_of, fours}
use Rattle.running_sums.proofs.FourLemmas.{not_written, written_more}
use Rattle.running_sums.proofs.fours.Fours.renew.Goals as goal

pub piece-init : goal.piece-init
piece-init c = record {
  small = c.requires.small;
  some = c.requires.some;
  ahead = omega arith;
  within = omega arith;
  written = not_written c.args.four (c.args.four - c.args.four) (omega arith) _ _;
  joins = search rules;
}

pub piece-preserved : goal.piece-preserved
piece-preserved c =
    let inv = c.piece.invariant in
    let from = c.piece.from in
    let number = c.min-number.result in
    let four = c.args.four in
    let some : 0 < length c.piece.room = inv.some (omega (arith, inv.ahead, c.piece-test.true)) in
    let all : List Kept = fours (map (change_of c.args.frames.now) c.args.sequence.now.steps) in
    let old : List Kept = c.args.self.now.values in
    let mid : List Kept = c.piece.self.values in
    let now : List Kept = c.renew_piece.new.self.values in
    let used : length (take number c.piece.room) ≡ number = length-take-le number c.piece.room (omega (arith, c.min-number.ensures)) in
    let there : from ≡ four + (from - four) = omega (arith, inv.ahead) in
    let sum : from - four + number ≡ from + number - four = omega (arith, inv.ahead) in
    let piece : IsWritten none_kept (four + (from - four)) number (drop (four + (from - four)) all) mid now
    = subst (λ n. IsWritten none_kept n number (drop n all) mid now) there (subst (λ n. IsWritten none_kept from n (drop from all) mid now) used c.renew_piece.ensures.values) in
    record {
      small = c.renew_piece.ensures.small;
      some = λ _. omega (arith, length-append c.renew_piece.new.room (drop number c.piece.room), c.renew_piece.auto.room, used, c.min-number.ensures, some, c.piece-test.true);
      ahead = omega (arith, inv.ahead);
      within = omega (arith, inv.ahead, c.min-number.ensures, c.piece-test.true);
      written = subst (λ n. IsWritten none_kept four n (drop four all) old now) sum (written_more four (from - four) number all old mid now inv.written piece);
      joins = c.renew_piece.ensures.joins ∙ inv.joins;
    }

pub returns-clause-values : goal.returns-clause-values
returns-clause-values c =
    let inv = c.piece.invariant in
    let all : List Kept = fours (map (change_of c.args.frames.now) c.args.sequence.now.steps) in
    let done : c.piece.from - c.args.four ≡ c.args.end - c.args.four = omega (arith, inv.ahead, inv.within, c.piece-test.false) in
    subst (λ n. IsWritten none_kept c.args.four n (drop c.args.four all) c.args.self.now.values c.piece.self.values) done inv.written
