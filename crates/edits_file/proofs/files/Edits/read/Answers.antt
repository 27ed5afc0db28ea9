use Rattle.std.proofs.Common.{◌≡◌, ◌∙◌, ◌<◌, ◌+◌, ◌++◌, ◌∷◌, [], length, length-append, None, Some, Ok, Err, refl, ap, sym, subst, arith}
use Rattle.std.proofs.lemmas.Bool.Decides.{nat_tests}
use Rattle.edits_file.specs.declared.files.EditsFault.TheVariants.{Line}
use Rattle.edits_file.specs.Faults.{AreEdits}
use Rattle.edits_file.specs.Forms.{line_in}
use Rattle.edits_file.specs.Reading.{edits_left, edits_of}
use Rattle.edits_file.proofs.LineLemmas.{cut_shorter, line_cut}
use Rattle.edits_file.proofs.ReadingLemmas.{are_edits, goes_on, none_left, stops}
use Rattle.edits_file.proofs.files.Edits.read.Goals as goal

pub overflow_add-number : goal.overflow_add-number
overflow_add-number c =
    let some : 0 < length c.loop-rest.rest.now = grind (arith, nat_tests) in
    omega (arith, some, c.loop-rest.invariant.few)

pub loop-rest-init : goal.loop-rest-init
loop-rest-init c = record { before = []; number = refl; are = refl; few = omega arith }

pub returns-in_default-clause-refused : goal.returns-in_default-clause-refused
returns-in_default-clause-refused c =
    let inv = c.loop-rest.invariant in
    let some : 0 < length c.loop-rest.rest.now = grind (arith, nat_tests) in
    let lines = line_cut c.loop-rest.rest.now c.cut.result.0.now c.cut.result.1 (record { ref_ptr = (0, 0); now = [] }) refl some c.cut.ensures.before c.cut.ensures.parts in
    let none : line_in c.cut.result.0.now ≡ None = sym c.line.ensures ∙ c.in_default.is in
    sym inv.are ∙ stops inv.before c.loop-rest.rest.now c.cut.result.0.now _ lines none ∙ ap (λ n. Err (Line (n + 1))) inv.number

pub loop-rest-preserved : goal.loop-rest-preserved
loop-rest-preserved c =
    let inv = c.loop-rest.invariant in
    let order = c.in-Some._edit in
    let some : 0 < length c.loop-rest.rest.now = grind (arith, nat_tests) in
    let lines = line_cut c.loop-rest.rest.now c.cut.result.0.now c.cut.result.1 _ refl some c.cut.ensures.before c.cut.ensures.parts in
    let edit : line_in c.cut.result.0.now ≡ Some order = sym c.line.ensures ∙ c.in-Some.is in
    let less = cut_shorter c.loop-rest.rest.now c.cut.result.0.now c.cut.result.1 _ c.unwrap_or-rest.result c.unwrap_or-rest.ensures refl some c.cut.ensures.parts in
    record {
      before = inv.before ++ order ∷ [];
      number = length-append inv.before (order ∷ []) ∙ ap (λ n. n + 1) inv.number;
      are = rw c.unwrap_or-rest.ensures (sym (goes_on inv.before c.loop-rest.rest.now c.cut.result.0.now _ order lines edit) ∙ inv.are);
      few = omega (arith, less, inv.few);
    }

pub returns-clause-meaning : goal.returns-clause-meaning
returns-clause-meaning c =
    let inv = c.loop-rest.invariant in
    let read : edits_of c.args.bytes.now ≡ Ok inv.before = none_left inv.before c.loop-rest.rest.now (edits_of c.args.bytes.now) (sym c.loop-rest-test.ensures) inv.are in
    subst (AreEdits c.args.bytes.now) (sym (ap edits_left read)) (are_edits c.args.bytes.now inv.before read)

pub returns-clause-few : goal.returns-clause-few
returns-clause-few c =
    let inv = c.loop-rest.invariant in
    let read : edits_of c.args.bytes.now ≡ Ok inv.before = none_left inv.before c.loop-rest.rest.now (edits_of c.args.bytes.now) (sym c.loop-rest-test.ensures) inv.are in
    omega (arith, inv.few, inv.number, ap (λ r. length (edits_left r)) read)
