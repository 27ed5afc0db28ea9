use Rattle.std.proofs.Common.{◌++◌, ap, sym}
use Rattle.hydrostat.specs.declared.outside.Outside.{Outside}
use Rattle.worst_values.specs.Findings.{by_cause, outside_alone}
use Rattle.worst_values.proofs.unmet.unmet_outside.Goals as goal

pub returns-in-Hydro : goal.returns-in-Hydro
returns-in-Hydro c = ap (λ (o : Outside). outside_alone ++ by_cause o) (sym c.in-Hydro.is)

pub returns-in-Levers : goal.returns-in-Levers
returns-in-Levers c = ap (λ (o : Outside). outside_alone ++ by_cause o) (sym c.in-Levers.is)

pub returns-in-Bonjean : goal.returns-in-Bonjean
returns-in-Bonjean c = ap (λ (o : Outside). outside_alone ++ by_cause o) (sym c.in-Bonjean.is)

pub returns-in-Closing : goal.returns-in-Closing
returns-in-Closing c = ap (λ (o : Outside). outside_alone ++ by_cause o) (sym c.in-Closing.is)

pub returns-in-GmLimit : goal.returns-in-GmLimit
returns-in-GmLimit c = ap (λ (o : Outside). outside_alone ++ by_cause o) (sym c.in-GmLimit.is)
