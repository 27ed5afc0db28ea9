use Rattle.std.proofs.Common.{◌≡◌, ◌∙◌, ◌<◌, [], length, None, Some, Ok, refl, ap, sym, arith}
use Rattle.std.proofs.lemmas.Bool.Decides.{nat_tests}
use Rattle.edits_file.specs.Forms.{line_in}
use Rattle.edits_file.proofs.LineLemmas.{line_behind, line_cut}
use Rattle.edits_file.proofs.ReadingLemmas.{first_left, has_form}
use Rattle.edits_file.proofs.files.EditsIterator.next.Goals as goal

pub returns-in_err-edit : goal.returns-in_err-edit
returns-in_err-edit c =
    let rest = c.self.inside.rest.now in
    let line = c.cut.result.0.now in
    let some : 0 < length rest = grind (arith, nat_tests) in
    let lines = line_cut rest line c.cut.result.1 (record { ref_ptr = (0, 0); now = [] }) refl some c.cut.ensures.before c.cut.ensures.parts in
    let none : line_in line ≡ None = sym c.line.ensures ∙ c.in_err-edit.was in
    absurd (has_form rest line _ c.args.self.now (c.self.invariant ∙ ap (λ l. Ok l) c.self.view_is) lines none)

pub invariant_of-self : goal.invariant_of-self
invariant_of-self c =
    let rest = c.self.inside.rest.now in
    let line = c.cut.result.0.now in
    let after = c.unwrap_or-self-inside.result in
    let some : 0 < length rest = grind (arith, nat_tests) in
    let lines = line_behind rest line c.cut.result.1 _ after c.unwrap_or-self-inside.ensures refl some c.cut.ensures.before c.cut.ensures.parts in
    let edit : line_in line ≡ Some c.in_ok-edit.edit = sym c.line.ensures ∙ c.in_ok-edit.was in
    (first_left rest line after.now c.in_ok-edit.edit c.args.self.now (c.self.invariant ∙ ap (λ l. Ok l) c.self.view_is) lines edit).1

pub returns-clause-steps : goal.returns-clause-steps
returns-clause-steps c =
    let rest = c.self.inside.rest.now in
    let line = c.cut.result.0.now in
    let after = c.unwrap_or-self-inside.result in
    let some : 0 < length rest = grind (arith, nat_tests) in
    let lines = line_behind rest line c.cut.result.1 _ after c.unwrap_or-self-inside.ensures refl some c.cut.ensures.before c.cut.ensures.parts in
    let edit : line_in line ≡ Some c.in_ok-edit.edit = sym c.line.ensures ∙ c.in_ok-edit.was in
    (first_left rest line after.now c.in_ok-edit.edit c.args.self.now (c.self.invariant ∙ ap (λ l. Ok l) c.self.view_is) lines edit).0

pub returns-clause-goes : goal.returns-clause-goes
returns-clause-goes c =
    let rest = c.self.inside.rest.now in
    let line = c.cut.result.0.now in
    let after = c.unwrap_or-self-inside.result in
    let some : 0 < length rest = grind (arith, nat_tests) in
    let lines = line_behind rest line c.cut.result.1 _ after c.unwrap_or-self-inside.ensures refl some c.cut.ensures.before c.cut.ensures.parts in
    let edit : line_in line ≡ Some c.in_ok-edit.edit = sym c.line.ensures ∙ c.in_ok-edit.was in
    let is = (first_left rest line after.now c.in_ok-edit.edit c.args.self.now (c.self.invariant ∙ ap (λ l. Ok l) c.self.view_is) lines edit).0 in
    record { on = λ finite. (tt, tt, omega (arith, ap length is)); keeps = tt; rests = λ finite. tt }
