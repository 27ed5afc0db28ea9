use Rattle.std.proofs.Common.{◌≡◌, ◌∙◌, ◌<◌, ◌≤◌, length, get_or, Some, ap, sym, rules, arith}
use Rattle.ship_tables.specs.Lookup.{index_in}
use Rattle.ship_tables.proofs.CellLemmas.{get_or-any, told_found, told_none, unlike}
use Rattle.ship_tables.proofs.cell_lists.CellList.find.Goals.{else-at-len-via-then-at-len+else-eq, else-at-len-via-else-at-len}
use Rattle.ship_tables.proofs.cell_lists.CellList.find.Goals as goal

pub returns-then-eq : goal.returns-then-eq
returns-then-eq c =
    let blocks = c.self.inside.blocks.items in
    let entries = c.self.inside.entries.items in
    let cells = c.self.inside.cells.items in
    let at : c.index_at-at.result ≡ index_in blocks entries c.args.cell = search rules in
    let inside : index_in blocks entries c.args.cell < length cells = search rules in
    let is : get_or cells (index_in blocks entries c.args.cell) c.args.cell ≡ c.args.cell = search rules in
    rw (← c.self.view_is)
    (ap (λ k. Some k) at ∙ sym (told_found (index_in blocks entries) cells (c.self.invariant (search rules)) c.args.cell inside
    (λ d. get_or-any cells (index_in blocks entries c.args.cell) d c.args.cell inside ∙ is)))

pub returns-else-at-len : goal.returns-else-at-len
returns-else-at-len c =
    let blocks = c.self.inside.blocks.items in
    let entries = c.self.inside.entries.items in
    let cells = c.self.inside.cells.items in
    let at : c.index_at-at.result ≡ index_in blocks entries c.args.cell = search rules in
    rw (← c.self.view_is)
    (sym (told_none (index_in blocks entries) cells (c.self.invariant (search rules)) c.args.cell (λ d inside is.
    elim c.else-at-len.branch [
      | else-at-len-via-then-at-len+else-eq w ↦
          let there = get_or-any cells (index_in blocks entries c.args.cell) w.index.result.now d inside in
          unlike w.eq.result w.index.result.now c.args.cell w.if-eq.false w.eq.ensures (w.index.ensures ∙ ap (λ k. get_or cells k w.index.result.now) at ∙ there ∙ is)
      | else-at-len-via-else-at-len w ↦
          let past : length cells ≤ index_in blocks entries c.args.cell = search rules in
          absurd (omega arith)
    ])))
