-- What is found of the conditions of a case, and the figures that are drawn of them.
use Rattle.std.specs.Prelude.{ℕ, List, map}
use Rattle.port_call.specs.Cases.{CaseRecord}
use Rattle.worst_values.specs.Findings.{all_lines, found_over}
use Rattle.view_curves.specs.Series.{plotted_in}
use Rattle.view_curves.specs.declared.charted.Charted.{Charted}

-- over some lines
abbrev pub charted_over : CaseRecord → List ℕ → Charted
charted_over case ks = record { findings = found_over case ks; series = map (plotted_in case) ks }

-- over all lines of a case
abbrev pub charted_in : CaseRecord → Charted
charted_in case = charted_over case (all_lines case)
