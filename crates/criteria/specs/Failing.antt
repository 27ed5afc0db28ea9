-- The first criterion that a condition fails, without its figures; C0 outside of the tables.
use Rattle.std.specs.Prelude.{Option, None, Some}
use Rattle.criteria.specs.Assessment.{Assessment, IsOutside, Fails, Passes}
use Rattle.criteria.specs.declared.criterion.Criterion.{Criterion}
use Rattle.criteria.specs.declared.criterion.Criterion.TheVariants.{C0}

abbrev pub failed_in : Assessment → Option Criterion
failed_in (IsOutside outside) = Some C0
failed_in (Fails criterion c) = Some criterion
failed_in (Passes c) = None
