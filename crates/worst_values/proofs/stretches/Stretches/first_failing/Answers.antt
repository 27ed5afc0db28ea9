use Rattle.std.proofs.Common.{◌≡◌, ◌∙◌, ℕ, ◌+◌, ◌<◌, ◌≤◌, ◌++◌, List, length, take, drop, sym, ap, arith}
use Rattle.std.proofs.lemmas.List.{length-replicate, take_all}
use Rattle.worst_values.specs.declared.stretches.Stretch.{Stretch}
use Rattle.worst_values.specs.Stretches.{lines_of, lines_of_all}
use Rattle.worst_values.proofs.FirstLemmas.{behind_none, found_there, length_both, one_more, split_at}
use Rattle.worst_values.proofs.stretches.Stretches.first_failing.Goals as goal

pub loop-k-preserved : goal.loop-k-preserved
loop-k-preserved c =
    let items = c.self.inside.closed.items in
    let k = c.loop-k.k in
    let s = c.index.result.now in
    let inside : k < length items = omega (arith, c.loop-k-test.true, c.len-k-end.ensures) in
    let more = one_more items k s inside c.index.ensures in
    record {
      none = behind_none (lines_of_all (take k items)) (lines_of s) (lines_of_all (take (k + 1) items)) c.loop-k.line _ more c.loop-k.invariant.none c.loop-k.invariant.line (sym c.in-None.ensures);
      line = omega (arith, c.loop-k.invariant.line, ap length more, length_both (lines_of_all (take k items)) (lines_of s), length-replicate s.lines s.unmet);
    }

pub overflow_add-line : goal.overflow_add-line
overflow_add-line c =
    let items = c.self.inside.closed.items in
    let k = c.loop-k.k in
    let s = c.index.result.now in
    let last = lines_of c.self.inside.last in
    let inside : k < length items = omega (arith, c.loop-k-test.true, c.len-k-end.ensures) in
    let more = one_more items k s inside c.index.ensures in
    let all = split_at items (k + 1) last c.args.self.now c.self.view_is in
    omega (arith, c.requires, c.loop-k.invariant.line, ap length more, length_both (lines_of_all (take k items)) (lines_of s), length-replicate s.lines s.unmet, ap length all, length_both (lines_of_all (take (k + 1) items)) (lines_of_all (drop (k + 1) items) ++ last))

pub returns-in-Some : goal.returns-in-Some
returns-in-Some c =
    let items = c.self.inside.closed.items in
    let k = c.loop-k.k in
    let s = c.index.result.now in
    let last = lines_of c.self.inside.last in
    let inside : k < length items = omega (arith, c.loop-k-test.true, c.len-k-end.ensures) in
    sym (found_there (lines_of_all (take k items)) (lines_of s) (lines_of_all (drop (k + 1) items) ++ last) (lines_of_all (take (k + 1) items)) c.args.self.now c.loop-k.line c.in-Some.first
    (one_more items k s inside c.index.ensures) (split_at items (k + 1) last c.args.self.now c.self.view_is)
    c.loop-k.invariant.none c.loop-k.invariant.line (sym c.in-Some.ensures))

pub returns : goal.returns
returns c =
    let items = c.self.inside.closed.items in
    let k = c.loop-k.k in
    let last = lines_of c.self.inside.last in
    let past : length items ≤ k = omega (arith, c.loop-k-test.false, c.len-k-end.ensures) in
    let whole : c.args.self.now ≡ lines_of_all (take k items) ++ last = sym c.self.view_is ∙ ap (λ (xs : List Stretch). lines_of_all xs ++ last) (sym (take_all k items past)) in
    sym (behind_none (lines_of_all (take k items)) last c.args.self.now c.loop-k.line c.first_in-2.result whole c.loop-k.invariant.none c.loop-k.invariant.line (sym c.first_in-2.ensures))
