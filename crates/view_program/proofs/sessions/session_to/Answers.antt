use Rattle.std.proofs.Common.{ℕ, subst, sym}
use Rattle.view_sittings.specs.Sessions.{IsLeftBy}
use Rattle.view_program.proofs.sessions.session_to.Goals as goal

pub returns-in-Ok-hold-clause-shown : goal.returns-in-Ok-hold-clause-shown
returns-in-Ok-hold-clause-shown g c =
    let s = c.in-Ok.session in
    let h = c.in-Ok-hold.ensures in
    let left = subst (λ (n : ℕ). IsLeftBy s.base s.ops n h.0) (sym c.status_on.ensures.value) h.1 in
    (h.0, (c.inputs-inputs.result, c.inputs-inputs.ensures, (s.base, s.ops, c.in-Ok.ensures.read, left)), h.2)
