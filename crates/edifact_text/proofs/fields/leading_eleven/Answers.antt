use Rattle.std.proofs.Common.{◌≡◌, refl, arith, sym, ◌∙◌}
use Rattle.edifact_text.proofs.FieldLemmas.{other_of, eleven_bytes}
use Rattle.edifact_text.proofs.fields.leading_eleven.Goals as goal
use Rattle.edifact_text.proofs.fields.leading_eleven.Goals.{in-Some, in-None}

pub returns-then-is_empty : goal.returns-then-is_empty
returns-then-is_empty c =
    let other : c.match-service.other ≡ other_of c.args.service.release c.args.service.component = elim c.match-service.branch [
      | in-Some w ↦ rw (w.in-Some.is, w.other-is) refl
      | in-None w ↦ rw (w.in-None.is, w.other-is) refl
    ] in
    eleven_bytes c.args.service c.match-service.other c.args.bytes.now other (omega arith)
    (omega (arith, c.min.ensures, c.min-ends.ensures, c.place_of.ensures, c.if-min-lt11.false))
    (omega (arith, c.min.ensures, c.min-ends.ensures, c.place_of-2.ensures, c.if-min-lt11.false))
    (omega (arith, c.min.ensures, c.place_of-3.ensures, c.if-min-lt11.false))
    (sym c.leading.ensures ∙ c.is_empty.ensures.0 c.if-is_empty.true)
