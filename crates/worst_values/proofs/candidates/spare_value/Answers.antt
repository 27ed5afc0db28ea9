use Rattle.std.proofs.Common.{◌≡◌, ◌∙◌, Option, option_map, ap, sym, refl}
use Rattle.units_core.specs.Ratio.{Ratio, ◌over◌, ◌⊖◌}
use Rattle.units_core.specs.declared.fractions.Frac.{Frac}
use Rattle.units_core.proofs.Ratios.{is_over}
use Rattle.hydrostat.specs.Floating.{gm, load, water}
use Rattle.worst_values.specs.Limits.{spare_alone}
use Rattle.worst_values.specs.Worst.{worst_of}
use Rattle.worst_values.proofs.WorstLemmas.{worst_none}
use Rattle.worst_values.proofs.candidates.spare_value.Goals as goal

pub returns-in-Some : goal.returns-in-Some
returns-in-Some c =
    let g = gm (water c.args.a.now) (load c.args.a.now) in
    let f = c.in-Some.least in
    let own : Ratio = f.num over f.den in
    c.alone.ensures (g ⊖ own) (c.difference.ensures g own c.gm_of.ensures.value (is_over f.num f.den f.positive))
    ∙ ap (λ (o : Option Frac). worst_of (spare_alone c.args.step g (option_map (λ (h : Frac). h.num over h.den) o))) (sym c.in-Some.is)

pub returns-in-None : goal.returns-in-None
returns-in-None c =
    let g = gm (water c.args.a.now) (load c.args.a.now) in
    sym worst_none
    ∙ ap (λ (o : Option Frac). worst_of (spare_alone c.args.step g (option_map (λ (h : Frac). h.num over h.den) o))) (sym c.in-None.is)
