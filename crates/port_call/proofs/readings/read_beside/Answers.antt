use Rattle.std.proofs.Common.{◌≡◌, ◌∙◌, ℕ, List, Option, None, Some, refl, subst}
use Rattle.std.specs.Option.{is_some, option_map, unwrap_or}
use Rattle.std.proofs.lemmas.Result.{IfOk-weaker}
use Rattle.port_call.specs.Readings.{AreAllRead, text_if}
use Rattle.port_call.proofs.readings.read_beside.Goals as goal

-- the text of a file that there may be
text_same : {R : Type 0} (now : R → List ℕ) (o : Option R) (other : R) → text_if (is_some o) (now (unwrap_or o other)) ≡ option_map now o
text_same now None other = refl
text_same now (Some r) other = refl

pub returns : goal.returns
returns g c =
    let inputs = c.args.inputs.now in
    let b = inputs.profile in
    let gm = (λ j. text_if (c.is_some.ensures j) (c.unwrap_or.ensures j).now) ∙ text_same (λ t. t.now) b.gm _ in
    let steps = (λ j. text_if (c.is_some-2.ensures j) (c.unwrap_or-2.ensures j).now) ∙ text_same (λ t. t.now) inputs.steps _ in
    IfOk-weaker c.read_texts.result _ _
    (λ read h. subst (λ (t : Option (List ℕ) × Option (List ℕ)). AreAllRead read
    (record { ship = b.ship.now; tables = record { cells = b.cells.now; hydro = b.hydro.now; levers = b.kn.now; bonjean = b.bonjean.now; tanks = b.tanks.now; least_gm = t.0 } })
    inputs.baplie.now inputs.movins.now t.1) (λ j. (gm j, steps j)) h)
    c.read_texts.ensures
