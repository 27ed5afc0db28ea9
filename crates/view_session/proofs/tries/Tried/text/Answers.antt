use Rattle.std.proofs.Common.{◌≡◌, ◌∙◌, ◌++◌, ◌+◌, ◌∷◌, [], ap, sym, append_assoc, take}
use Rattle.view_session.specs.Trails.{TriedRecord, file_of, texts_of}
use Rattle.view_session.proofs.TrailLemmas.{file_more}
use Rattle.view_session.proofs.tries.Tried.text.Goals as goal

pub loop-line-preserved : goal.loop-line-preserved
loop-line-preserved c =
    let lines = c.deref-line-items.result.now in
    let i = c.loop-line.line-index in
    let line = c.line-item.result in
    let view : texts_of lines ≡ c.args.self.now.lines = ap texts_of c.deref-line-items.ensures.value ∙ ap (λ (t : TriedRecord). t.lines) c.self.view_is in
    c.in_ok-push.ensures.items
    ∙ ap (λ xs. xs ++ 10 ∷ []) (c.in_ok-extend_from_slice.ensures.items ∙ (λ j. c.loop-line.invariant j ++ c.as_slice.ensures.value j))
    ∙ append_assoc (file_of (take i c.args.self.now.lines)) line.items (10 ∷ [])
    ∙ ap (λ xs. file_of (take i xs) ++ (line.items ++ 10 ∷ [])) (sym view)
    ∙ sym (file_more lines i line c.loop-line-test.true c.line-item.is)
    ∙ ap (λ xs. file_of (take (i + 1) xs)) view
