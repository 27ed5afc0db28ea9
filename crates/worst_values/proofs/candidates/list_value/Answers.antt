use Rattle.std.proofs.Common.{◌≡◌, ◌∙◌, pos, Bool, true, false, cond, ap, sym, arith}
use Rattle.std.specs.Prelude.{int_lt}
use borrow.Author.Differences.{true_is_lt, false_is_lt}
use Rattle.units_core.proofs.Signed.{signed_arith}
use Rattle.hydrostat.specs.Floating.{gm, list, load, water}
use Rattle.worst_values.specs.Limits.{alone, beyond_by, by, size_below}
use Rattle.worst_values.specs.Worst.{worst_of}
use Rattle.worst_values.proofs.WorstLemmas.{worst_one}
use Rattle.worst_values.proofs.candidates.list_value.Goals as goal

pub returns-in-Some : goal.returns-in-Some
returns-in-Some c =
    let w = water c.args.a.now in
    let l = load c.args.a.now in
    let is = c.in-Some.ensures in
    let there : true ≡ int_lt (pos 0) (gm w l).top = true_is_lt (pos 0) (gm w l).top (omega (arith, signed_arith, is.0)) in
    c.alone.ensures (size_below (list w l)) (c.below_zero.ensures (list w l) is.1)
    ∙ ap (λ (b : Bool). worst_of (alone c.args.step (cond b (by (size_below (list w l))) (beyond_by (pos 0))))) there

pub returns-in-None : goal.returns-in-None
returns-in-None c =
    let w = water c.args.a.now in
    let l = load c.args.a.now in
    let none : false ≡ int_lt (pos 0) (gm w l).top = false_is_lt (pos 0) (gm w l).top (omega (arith, signed_arith, c.in-None.ensures)) in
    sym (worst_one (record { step = c.args.step; place = 0; safety = beyond_by (pos 0) }))
    ∙ ap (λ (b : Bool). worst_of (alone c.args.step (cond b (by (size_below (list w l))) (beyond_by (pos 0))))) none
