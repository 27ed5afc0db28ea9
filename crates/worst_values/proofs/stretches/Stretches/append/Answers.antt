use Rattle.std.proofs.Common.{◌≡◌, ◌∙◌, ◌++◌, ◌<◌, ◌≤◌, List, Bool, length, take, ap, subst, arith}
use Rattle.std.specs.Prelude.{OnOk}
use Rattle.std.proofs.lemmas.List.{append_assoc, take_all}
use Rattle.worst_values.specs.Stretches.{lines_of, lines_of_all}
use Rattle.worst_values.specs.declared.stretches.Stretch.{Stretch}
use Rattle.worst_values.proofs.RowLemmas.{stretches_more}
use Rattle.worst_values.proofs.stretches.Stretches.append.Goals as goal

pub loop-k-preserved : goal.loop-k-preserved
loop-k-preserved c =
    let items = c.behind.inside.closed.items in
    let inside : c.loop-k.k < length items = omega (arith, c.loop-k-test.true, c.len-k-end.ensures) in
    stretches_more items c.loop-k.k c.index.result.now c.args.self.now c.loop-k.self c.add.new.self inside c.index.ensures c.loop-k.invariant c.in_ok-add.ensures

pub returns : goal.returns
returns c =
    let first = c.args.self.now in
    let items = c.behind.inside.closed.items in
    let last = lines_of c.behind.inside.last in
    let k = c.loop-k.k in
    let past : length items ≤ k = omega (arith, c.loop-k-test.false, c.len-k-end.ensures) in
    subst (λ (l : List (List Bool)). OnOk c.add-2.result (c.add-2.new.self ≡ l))
    (ap (λ (l : List (List Bool)). l ++ last) c.loop-k.invariant
    ∙ append_assoc first (lines_of_all (take k items)) last
    ∙ ap (λ (xs : List Stretch). first ++ (lines_of_all xs ++ last)) (take_all k items past)
    ∙ ap (λ (l : List (List Bool)). first ++ l) c.behind.view_is)
    c.add-2.ensures
