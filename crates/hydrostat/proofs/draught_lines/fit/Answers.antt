use Rattle.std.proofs.Common.{rules}
use Rattle.hydrostat.proofs.draught_lines.fit.Goals as goal

pub invariant_of-result-clause-scaled : goal.invariant_of-result-clause-scaled
invariant_of-result-clause-scaled c = λ _. record {
  start_within = search rules;
  slope_within = search rules;
  divisor_low = search rules;
  is_start = c.is_near.ensures c.if-not-is_near.false;
  is_slope = c.is_near-2.ensures c.if-not-is_near-2.false;
}

pub invariant_of-result-clause-idle : goal.invariant_of-result-clause-idle
invariant_of-result-clause-idle c = λ e. (cc)
