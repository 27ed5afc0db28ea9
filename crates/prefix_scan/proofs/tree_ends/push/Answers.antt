use Rattle.std.proofs.Common.{arith, ◌≡◌, ◌∙◌, ◌++◌, [], ◌∷◌, List, Vec, Global, length, ap, sym, subst}
use Rattle.prefix_scan.specs.Rows.{lifted, first_row, AreRows}
use Rattle.prefix_scan.proofs.EndLemmas.{topped}
use Rattle.prefix_scan.proofs.StretchLemmas.{refilled}
use Rattle.prefix_scan.proofs.tree_ends.push.Goals as goal

pub returns-in-Some-clause-rows : goal.returns-in-Some-clause-rows
returns-in-Some-clause-rows g c =
    let m = g.M.Monoid in
    let w = c.push_up.new.rows in
    let top = c.in-Some.top in
    let xs = first_row c.args.rows.now.items ++ c.args.value ∷ [] in
    let above = c.push_reserved.new.self in
    let first : first_row c.deref_mut.result.now ≡ first_row c.args.rows.now.items = ap first_row c.deref_mut.ensures.value ∙ c.with_room.ensures.list in
    let long : length w ≡ c.with_room.new.rows.len = omega (arith, c.in-Some.ensures.number, c.deref_mut.ensures.len) in
    let is : c.push_reserved-in-Some.new.self.items ≡ w ++ above ∷ [] = c.push_reserved-in-Some.ensures.items ∙ ap (λ (r : List (Vec g.row.M.Denot Global)). r ++ above ∷ []) (refilled c.with_room.new.rows.len w c.with_room.new.rows.items long) in
    let all = topped m.op w xs top above
    (λ k low. c.in-Some.ensures.rows.0 k low ∙ ap (λ (l : List g.row.M.Denot). lifted m.op k (l ++ c.args.value ∷ [])) first)
    (ap (λ (l : List g.row.M.Denot). lifted m.op (length w) (l ++ c.args.value ∷ [])) (sym first) ∙ c.in-Some.ensures.rows.1)
    (c.push_reserved.ensures.items ∙ ap (λ (l : List g.row.M.Denot). l ++ top ∷ []) c.in_ok-above.ensures.empty) in
    subst (λ (r : List (Vec g.row.M.Denot Global)). AreRows m.op r) (sym is) all.0

pub returns-in-Some-clause-list : goal.returns-in-Some-clause-list
returns-in-Some-clause-list g c =
    let m = g.M.Monoid in
    let w = c.push_up.new.rows in
    let top = c.in-Some.top in
    let xs = first_row c.args.rows.now.items ++ c.args.value ∷ [] in
    let above = c.push_reserved.new.self in
    let first : first_row c.deref_mut.result.now ≡ first_row c.args.rows.now.items = ap first_row c.deref_mut.ensures.value ∙ c.with_room.ensures.list in
    let long : length w ≡ c.with_room.new.rows.len = omega (arith, c.in-Some.ensures.number, c.deref_mut.ensures.len) in
    let is : c.push_reserved-in-Some.new.self.items ≡ w ++ above ∷ [] = c.push_reserved-in-Some.ensures.items ∙ ap (λ (r : List (Vec g.row.M.Denot Global)). r ++ above ∷ []) (refilled c.with_room.new.rows.len w c.with_room.new.rows.items long) in
    let all = topped m.op w xs top above
    (λ k low. c.in-Some.ensures.rows.0 k low ∙ ap (λ (l : List g.row.M.Denot). lifted m.op k (l ++ c.args.value ∷ [])) first)
    (ap (λ (l : List g.row.M.Denot). lifted m.op (length w) (l ++ c.args.value ∷ [])) (sym first) ∙ c.in-Some.ensures.rows.1)
    (c.push_reserved.ensures.items ∙ ap (λ (l : List g.row.M.Denot). l ++ top ∷ []) c.in_ok-above.ensures.empty) in
    ap (λ (r : List (Vec g.row.M.Denot Global)). first_row r) is ∙ all.1
