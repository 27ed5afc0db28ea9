use Rattle.edifact_text.specs.Views.{meaning_of}
use Rattle.edifact_text.proofs.Texts.{told}
use Rattle.edifact_text.proofs.raw.Raw.reads.Goals as goal

pub returns : goal.returns
returns c = told c.is.result (meaning_of c.args.self) c.args.text.now c.is.ensures
