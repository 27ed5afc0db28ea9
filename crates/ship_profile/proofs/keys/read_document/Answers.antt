use Rattle.std.proofs.Common.{rules, arith}
use Rattle.ship_profile.proofs.KeyLemmas.{document_in-some, document_in-none}
use Rattle.ship_profile.proofs.keys.read_document.Goals as goal

pub returns-in-Ok-clause-ok : goal.returns-in-Ok-clause-ok
returns-in-Ok-clause-ok c = document_in-some _ _ (omega arith) c.in-Ok.ensures.ok

pub returns-in-Err-2-clause-refused : goal.returns-in-Err-2-clause-refused
returns-in-Err-2-clause-refused c _ = document_in-none _ (omega arith) (c.in-Err-2.ensures.refused (search rules))
