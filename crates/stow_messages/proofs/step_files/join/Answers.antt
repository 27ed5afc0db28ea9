use Rattle.std.proofs.Common.{◌≡◌, ◌++◌, ◌∷◌, [], ap, rules}
use Rattle.stow_messages.proofs.StepLemmas.{flags-joined, flags-kept}
use Rattle.stow_messages.proofs.step_files.join.Goals as goal
use Rattle.stow_messages.proofs.step_files.join.Goals.{in-Lift+else-index, in_default}

pub returns-clause-flags : goal.returns-clause-flags
returns-clause-flags c =
    let push : c.push.new.self.items ≡ c.match-row.gathered.rows.items ++ c.args.row ∷ [] = search rules in
    elim c.match-row.branch [
      | in-Lift+else-index w ↦
          flags-joined _ _ _ _ _ _ _ c.requires.flags c.requires.within w.in-Lift.is (rw w.gathered-is at push) (ap (λ g. g.seen.items) w.gathered-is)
      | in_default w ↦
          flags-kept _ _ _ _ _ _ c.requires.flags w.in_default.not-Lift (rw w.gathered-is at push) (ap (λ g. g.seen.items) w.gathered-is)
    ]
