use Rattle.std.proofs.Common.{◌∙◌, ◌++◌, ◌≤◌, length, drop, ap, arith}
use Rattle.seq_report.specs.Chunks.{text_in}
use Rattle.seq_report.proofs.PartLemmas.{behind_part, last_part, next_section, part_begun, part_put, whole_length}
use Rattle.seq_report.proofs.complete.put_parts.Goals as goal

pub put_part-requires-in-loop-section-clause-room : goal.put_part-requires-in-loop-section-clause-room
put_part-requires-in-loop-section-clause-room g c =
    let sections = c.args.sections.now in
    let last = c.args.last.now in
    let whole = c.args.heading.now ++ (text_in sections ++ last) in
    let part = c.as_bytes-in-loop-section.result.now in
    let put = c.loop-section.put in
    let i = c.loop-section.section-index in
    let left = next_section whole put sections i last part c.loop-section.invariant.1 c.section-item.result c.loop-section-test.true c.section-item.is
    (c.as_bytes-in-loop-section.ensures.value ∙ c.text.ensures) in
    let long = whole_length whole part _ put c.loop-section.invariant.0 left in
    omega (arith, long, c.requires.countable)

pub returns-in-Err-clause-err : goal.returns-in-Err-clause-err
returns-in-Err-clause-err g c =
    let sections = c.args.sections.now in
    let last = c.args.last.now in
    let whole = c.args.heading.now ++ (text_in sections ++ last) in
    let part = c.as_bytes-in-loop-section.result.now in
    let put = c.loop-section.put in
    let i = c.loop-section.section-index in
    let left = next_section whole put sections i last part c.loop-section.invariant.1 c.section-item.result c.loop-section-test.true c.section-item.is
    (c.as_bytes-in-loop-section.ensures.value ∙ c.text.ensures) in
    let e = c.in-Err.ensures.err in
    part_begun _ _ _ whole part _ put c.loop-section.invariant.0 left c.loop-section.invariant.3 c.in-Err.taken e.0 e.1 (omega (arith, e.2)) e.3

pub returns-in-Err-clause-err_short : goal.returns-in-Err-clause-err_short
returns-in-Err-clause-err_short g c =
    let sections = c.args.sections.now in
    let last = c.args.last.now in
    let whole = c.args.heading.now ++ (text_in sections ++ last) in
    let part = c.as_bytes-in-loop-section.result.now in
    let put = c.loop-section.put in
    let i = c.loop-section.section-index in
    let left = next_section whole put sections i last part c.loop-section.invariant.1 c.section-item.result c.loop-section-test.true c.section-item.is
    (c.as_bytes-in-loop-section.ensures.value ∙ c.text.ensures) in
    let long = whole_length whole part _ put c.loop-section.invariant.0 left in
    let e = c.in-Err.ensures.err in
    omega (arith, long, e.1, e.2)

pub loop-section-preserved : goal.loop-section-preserved
loop-section-preserved g c =
    let sections = c.args.sections.now in
    let last = c.args.last.now in
    let whole = c.args.heading.now ++ (text_in sections ++ last) in
    let part = c.as_bytes-in-loop-section.result.now in
    let put = c.loop-section.put in
    let i = c.loop-section.section-index in
    let left = next_section whole put sections i last part c.loop-section.invariant.1 c.section-item.result c.loop-section-test.true c.section-item.is
    (c.as_bytes-in-loop-section.ensures.value ∙ c.text.ensures) in
    let long = whole_length whole part _ put c.loop-section.invariant.0 left in (
      omega (arith, long, c.in-Ok.ensures.ok),
      ap (λ n. drop n whole) c.in-Ok.ensures.ok ∙ behind_part whole part _ put left,
      c.in-Ok.ensures.failed,
      part_put _ _ _ whole part _ put c.loop-section.invariant.0 left c.loop-section.invariant.3 c.in-Ok.more c.in-Ok.ensures.ok c.in-Ok.ensures.all,
    )

pub returns-in-Err-put_part-clause-err : goal.returns-in-Err-put_part-clause-err
returns-in-Err-put_part-clause-err g c =
    let sections = c.args.sections.now in
    let last = c.args.last.now in
    let whole = c.args.heading.now ++ (text_in sections ++ last) in
    let part = c.as_bytes-2.result.now in
    let put = c.loop-section.put in
    let i = c.loop-section.section-index in
    let past : length sections ≤ i = omega (arith, c.loop-section-test.false) in
    let left = last_part whole put sections i last part c.loop-section.invariant.1 past c.as_bytes-2.ensures.value in
    let e = c.in-Err-put_part.ensures.err in
    part_begun _ _ _ whole part _ put c.loop-section.invariant.0 left c.loop-section.invariant.3 c.in-Err-put_part.taken e.0 e.1 (omega (arith, e.2)) e.3
