use Rattle.std.proofs.Common.{◌≡◌, ◌∙◌, ◌+◌, ◌++◌, ◌<◌, List, ap, drop, get_or, length, rules, take}
use Rattle.std.specs.Prelude.{slice_get}
use Rattle.std.proofs.lemmas.List.{get_or_default}
use Rattle.units_core.specs.declared.steps.Step.{Step}
use Rattle.lift_sequence.specs.Independent.{moved}
use Rattle.lift_sequence.specs.Singles.{filled_at, handed, held_at}
use Rattle.lift_sequence.proofs.PastLemmas.{is_no_end, outside, passed_over}
use Rattle.lift_sequence.proofs.WalkLemmas.{all_written}
use Rattle.lift_sequence.proofs.passing.carry_filling.Goals as goal

pub returns-clause-steps : goal.returns-clause-steps
returns-clause-steps c = λ d.
    let i = c.args.from in
    let j = c.args.to in
    let name = c.args.name.now in
    let ops = c.args.ops.now.items in
    let steps = c.args.steps.now.items in
    let step = c.index.result.now in
    let handed_on : List Step = c.hand_on-behind_old.new.steps in
    let after : List Step = c.fill_at-behind_new.new.steps in
    let within : i < length steps = search rules in
    let there : step ≡ get_or steps i step = search rules in
    let out = ap (λ (s : Step). s.out) (there ∙ get_or_default steps i step d within) in
    let held : c.held_at-held.result ≡ held_at name step.out i j ops steps = search rules in
    let first : handed_on ≡ take (i + 1) steps ++ handed name step.out (drop (i + 1) ops) (drop (i + 1) steps) = search rules in
    let as_long : length handed_on ≡ length ops = search rules in
    let long : length after ≡ c.carry-2.new.items.len = search rules in
    let long_first : length handed_on ≡ c.args.steps.now.len = search rules in
    let written = all_written handed_on (drop (length handed_on) steps) c.args.steps.now.len long_first in
    let carried = c.carry-2.ensures.list ∙ ap (λ l. moved l i j) written in
    let orders_in = c.deref-4.ensures.value in
    let steps_in = c.deref_mut-2.ensures.value in
    all_written after (drop (length after) c.carry-2.new.items.items) c.carry-2.new.items.len long
    ∙ passed_over name ops c.carry.new.items.items steps handed_on c.carry-2.new.items.items after i j d step.out c.held_at-held.result c.requires.first c.requires.second c.requires.as_many as_long
    out held first c.carry.ensures.list carried (c.fill_at-behind_new.ensures.steps d ∙ (λ k. filled_at name c.held_at-held.result j (orders_in k) d (steps_in k)))

pub returns-clause-others : goal.returns-clause-others
returns-clause-others c = λ k beside not_old not_new.
    let i = c.args.from in
    let j = c.args.to in
    let steps = c.args.steps.now.items in
    let handed_on : List Step = c.hand_on-behind_old.new.steps in
    let after : List Step = c.fill_at-behind_new.new.steps in
    let long : length after ≡ c.carry-2.new.items.len = search rules in
    let long_first : length handed_on ≡ c.args.steps.now.len = search rules in
    let low : i < length handed_on = search rules in
    let high : j < length handed_on = search rules in
    let written = all_written handed_on (drop (length handed_on) steps) c.args.steps.now.len long_first in
    let carried = c.carry-2.ensures.list ∙ ap (λ l. moved l i j) written in
    ap (λ l. slice_get l k) (all_written after (drop (length after) c.carry-2.new.items.items) c.carry-2.new.items.len long)
    ∙ c.fill_at-behind_new.ensures.others k (is_no_end i j k beside) not_new ∙ ap (λ l. slice_get l k) (c.deref_mut-2.ensures.value ∙ carried)
    ∙ outside handed_on i j k low high beside ∙ c.hand_on-behind_old.ensures.others k not_old ∙ ap (λ l. slice_get l k) c.deref_mut.ensures.value
