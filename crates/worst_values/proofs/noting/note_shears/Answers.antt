use Rattle.std.proofs.Common.{rules, ◌∙◌, ℕ, ℤ, pos, List, get_or, Some, refl, sym, subst, ap, FitsSigned, to_z-of_z}
use Rattle.std.specs.Int.{w64}
use Rattle.std.proofs.lemmas.List.{drop_all}
use Rattle.units_core.specs.Interpolation.{at}
use Rattle.units_core.specs.declared.frames.Frame.{Frame}
use Rattle.worst_values.specs.Limits.{part_of, shears}
use Rattle.worst_values.specs.Rows.{row_of}
use Rattle.worst_values.specs.Worst.{Candidate, joined, worst_of}
use Rattle.worst_values.proofs.LoadLemmas.{frame_more}
use Rattle.worst_values.proofs.WorstLemmas.{joined_none, worst_none}
use Rattle.worst_values.proofs.noting.note_shears.Goals as goal

pub loop-i-preserved : goal.loop-i-preserved
loop-i-preserved c =
    let i = c.loop-i.i in
    let inv = c.loop-i.invariant in
    let row = c.args.row in
    let before = row_of c.loop-i.rows row in
    let frame = c.index-frames-i.result in
    let load = get_or c.args.shear.now i (pos 0) in
    let f : FitsSigned w64 load = search rules in
    let own : FitsSigned w64 frame.shear_max = search rules in
    let g = subst (λ (fr : Frame). FitsSigned w64 fr.shear_max) c.index-frames-i.is own in
    let step = simp (to_z-of_z f, to_z-of_z g) at c.note_load.ensures.here in
    let at_frame : Frame → ℕ → Candidate = λ fr k. record { step = c.args.step; place = k; safety = part_of (at c.args.shear.now k) fr.shear_max } in
    let all : List Frame → ℕ → List Candidate = λ fs k. shears (λ j. at c.args.shear.now j) c.args.step fs k in
    record {
      length = c.note_load.ensures.length ∙ inv.length;
      here =
          frame_more at_frame all (λ fr more k. refl) c.args.frames.now i frame before (row_of c.note_load.new.rows row)
          (joined (row_of c.args.rows.now row) (worst_of (all c.args.frames.now 0))) c.loop-i-test.true c.index-frames-i.is
          inv.here
          (step ∙ (λ j. joined before (Some (record { step = c.args.step; place = i; safety = part_of load (sym c.index-frames-i.is j).shear_max }))));
      others = λ j apart. c.note_load.ensures.others j apart ∙ inv.others j apart;
    }

pub returns-clause-here : goal.returns-clause-here
returns-clause-here c =
    let frames = c.args.frames.now in
    let i = c.loop-i.i in
    let now = row_of c.loop-i.rows c.args.row in
    let of : List Frame → ℕ → List Candidate = λ fs k. shears (λ j. at c.args.shear.now j) c.args.step fs k in
    sym (c.loop-i.invariant.here ∙ ap (λ (fs : List Frame). joined now (worst_of (of fs i))) (drop_all i frames c.loop-i-test.false)
    ∙ ap (joined now) worst_none ∙ joined_none now)
