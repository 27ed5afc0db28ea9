use Rattle.std.proofs.Common.{◌≡◌, arith, rules}
use Rattle.std.proofs.lemmas.Result.{err_from_is_err_and}
use Rattle.ship_profile.proofs.ArrayLemmas.{elements-many, elements-stop, elements-few, elements-enough}
use Rattle.ship_profile.proofs.arrays.read_elements.Goals as goal

pub returns-then-len-most-clause-refused : goal.returns-then-len-most-clause-refused
returns-then-len-most-clause-refused g c _ = elements-many _ _ _ _ _ _ c.in-Some.ensures (omega arith)

pub returns-in_err-items-clause-refused : goal.returns-in_err-items-clause-refused
returns-in_err-items-clause-refused g c =
    let p = err_from_is_err_and c.from_residual.result c.from_residual.ensures.1 in
    rw (p.1, p.2) (λ m.
    let slice : c.as_slice.result.now ≡ c.in-Some.array.now.items = search rules in
    let read = rw slice at c.in_err-items.ensures.refused m in
    elements-stop _ _ _ _ _ _ c.in-Some.ensures _ (omega arith) read)

pub returns-then-len-least-clause-refused : goal.returns-then-len-least-clause-refused
returns-then-len-least-clause-refused g c _ =
    let slice : c.as_slice.result.now ≡ c.in-Some.array.now.items = search rules in
    let read = rw slice at c.in_ok-items.ensures.ok in
    elements-few _ _ _ _ _ _ c.in-Some.ensures c.in_ok-items.items.items (omega arith) read (search rules)

pub returns-clause-ok : goal.returns-clause-ok
returns-clause-ok g c =
    let slice : c.as_slice.result.now ≡ c.in-Some.array.now.items = search rules in
    let read = rw slice at c.in_ok-items.ensures.ok in
    elements-enough _ _ _ _ _ _ c.in-Some.ensures c.in_ok-items.items.items (omega arith) read (search rules)
