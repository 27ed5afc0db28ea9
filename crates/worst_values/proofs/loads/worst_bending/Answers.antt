use Rattle.std.proofs.Common.{rules, ◌≡◌, ◌∙◌, ℕ, ◌+◌, ◌<◌, ℤ, pos, List, [], ◌∷◌, drop, length, get_or, Option, Some, option_map, refl, sym, ap, arith, FitsSigned, to_z-of_z}
use Rattle.std.specs.Int.{w64}
use Rattle.std.proofs.lemmas.List.{drop_all}
use Rattle.units_core.specs.Interpolation.{at}
use Rattle.units_core.specs.declared.frames.Frame.{Frame}
use Rattle.worst_values.specs.Worst.{Candidate, joined, candidate_of, worst_of}
use Rattle.worst_values.proofs.WorstLemmas.{joined_none, worst_none}
use Rattle.worst_values.specs.Limits.{bending_limit, bendings, part_of, shears}
use Rattle.worst_values.proofs.LoadLemmas.{frame_more}
use Rattle.worst_values.proofs.loads.worst_bending.Goals as goal

pub loop-i-preserved : goal.loop-i-preserved
loop-i-preserved c =
    let i = c.loop-i.i in
    let frame = c.index-frames-i.result in
    let load = get_or c.args.bending.now i (pos 0) in
    let f : FitsSigned w64 load = search rules in
    let g : FitsSigned w64 c.bending_limit.result = search rules in
    let part = simp (to_z-of_z f, to_z-of_z g) at c.part_of.ensures in
    let limit = simp (to_z-of_z f) at c.bending_limit.ensures in
    let at_frame : Frame → ℕ → Candidate = λ fr k. record { step = c.args.step; place = k; safety = part_of (at c.args.bending.now k) (bending_limit fr (at c.args.bending.now k)) } in
    let all : List Frame → ℕ → List Candidate = λ fs k. bendings (λ j. at c.args.bending.now j) c.args.step fs k in
    let now = option_map candidate_of c.loop-i.worst in
    frame_more at_frame all (λ fr more k. refl) c.args.frames.now i frame now (option_map candidate_of c.worst_in-worst.result) (worst_of (all c.args.frames.now 0)) c.loop-i-test.true c.index-frames-i.is
    c.loop-i.invariant
    (c.worst_in-worst.ensures ∙ ap (λ (x : Candidate). joined now (Some x)) (part ∙ ap (λ (m : ℤ). record { step = c.args.step; place = i; safety = part_of load m }) limit))

pub returns : goal.returns
returns c =
    let frames = c.args.frames.now in
    let i = c.loop-i.i in
    let of = λ (fs : List Frame) (k : ℕ). bendings (λ j. at c.args.bending.now j) c.args.step fs k in
    sym (c.loop-i.invariant ∙ ap (λ (fs : List Frame). joined (option_map candidate_of c.loop-i.worst) (worst_of (of fs i))) (drop_all i frames c.loop-i-test.false)
    ∙ ap (joined (option_map candidate_of c.loop-i.worst)) worst_none ∙ joined_none (option_map candidate_of c.loop-i.worst))
