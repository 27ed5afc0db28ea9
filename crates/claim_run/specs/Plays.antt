-- What each step on a word shows its thread: the events of the board that the step represents.
use Rattle.std.specs.Prelude.{◌≡◌, ℕ, List, [], ◌∷◌, Option, Some, None}
use Rattle.atomic_table.specs.Table.{Step, Me}
use Rattle.claim_board.specs.declared.entries.Stage.TheVariants.{Skipped, Worked, Posted}
use Rattle.claim_board.specs.declared.entries.Entry.{Entry}
use Rattle.claim_board.specs.Entries.{Each, fresh, with_look, ended, AtMost}
use Rattle.claim_run.specs.declared.views.View.{View}
use Rattle.claim_run.specs.Views.{view, least_of}

-- f of the newest entry
abbrev pub on_newest : (Entry → Entry) → List Entry → List Entry
on_newest f [] = []
on_newest f (e ∷ es) = f e ∷ es

-- the least step is at most each step that the entries looked at or posted
abbrev pub AtMostAll : Option ℕ → List Entry → Type 0
AtMostAll least es =
    Each (λ (e : Entry). ((l : ℕ) → e.looked ≡ Some l → AtMost least l)
    × ((f : ℕ) → e.stage ≡ Posted f → AtMost least f)) es

-- the draw, 1 added to word 0: the number that was found is that of a new entry
abbrev pub drawn : Step Unit → Me Unit View → ℕ → Me Unit View → Type 0
drawn step me found now = now ≡ (view me.0.workers (fresh found ∷ me.0.entries), me.1)

-- the draw after the newest entry was skipped
abbrev pub drawn_after_skip : Step Unit → Me Unit View → ℕ → Me Unit View → Type 0
drawn_after_skip step me found now =
    now ≡ (view me.0.workers (fresh found ∷ on_newest (ended Skipped) me.0.entries), me.1)

-- and after it was worked without a find
abbrev pub drawn_after_work : Step Unit → Me Unit View → ℕ → Me Unit View → Type 0
drawn_after_work step me found now =
    now ≡ (view me.0.workers (fresh found ∷ on_newest (ended (Worked None)) me.0.entries), me.1)

-- the look, a load of word 1: the newest entry has looked at the least posted step
abbrev pub looked : Step Unit → Me Unit View → ℕ → Me Unit View → Type 0
looked step me found now =
    (now ≡ (view me.0.workers (on_newest (with_look (least_of found)) me.0.entries), me.1))
    × AtMostAll (least_of found) me.0.entries

-- the post, the minimum of word 1 and a step: that step is posted by the newest entry
abbrev pub posted : Step Unit → Me Unit View → ℕ → Me Unit View → Type 0
posted step me found now =
    now ≡ (view me.0.workers (on_newest (ended (Posted step.first)) me.0.entries), me.1)
