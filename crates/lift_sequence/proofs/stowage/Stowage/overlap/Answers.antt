use Rattle.std.proofs.Common.{sym, ◌∙◌, ap, Some, rules}
use Rattle.lift_sequence.specs.Aboard.{cargo_in}
use Rattle.lift_sequence.proofs.Overlaps.{found, none_found}
use Rattle.lift_sequence.proofs.stowage.Stowage.overlap.Goals as goal

pub returns-then-is_rival : goal.returns-then-is_rival
returns-then-is_rival c free =
    let cells = (cargo_in c.args.self.now).cells in
    ap (λ x. Some x) c.in_bay.ensures ∙ sym (found cells c.args.cell c.loop-bay.bay (search rules) (c.loop-bay.invariant free) (search rules))

pub returns : goal.returns
returns c free =
    let cells = (cargo_in c.args.self.now).cells in
    sym (none_found cells c.args.cell c.loop-bay.bay (search rules) (c.loop-bay.invariant free))
