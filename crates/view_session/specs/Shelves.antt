-- What was published in a session: lists, each with the lines whose edits led to it.
use Rattle.std.specs.Prelude.{◌≡◌, ℕ, zero, suc, List, [], All, slice_get, Option, None, Some}
use Rattle.lift_sequence.specs.declared.operations.Op.{Op}
use Rattle.port_call.specs.Grounds.{GroundRecord}
use Rattle.view_session.specs.Trails.{Leads, TriedRecord}

pub record KeptRecord : Type 0 where
  pub ops : List Op
  pub lines : List (List ℕ)

-- all on one ship and her arrival, oldest first
pub record ShelfRecord : Type 0 where
  pub base : GroundRecord
  pub kept : List KeptRecord

-- the lines of each lead from this list to its own
abbrev pub AreTrails : List Op → ShelfRecord → Type 0
AreTrails from shelf = All (λ k. Leads shelf.base from k.lines k.ops) shelf.kept

-- what was published with a number, the first being 1
abbrev pub published : List KeptRecord → ℕ → Option KeptRecord
published kept zero = None
published kept (suc n) = slice_get kept n

-- what is opened: a session with that list, its lines, and nothing to take back
abbrev pub IsOpened : ShelfRecord → Option KeptRecord → Option TriedRecord → Type 0
IsOpened shelf None None = Unit {0}
IsOpened shelf None (Some tried) = ⊥
IsOpened shelf (Some kept) None = ⊥
IsOpened shelf (Some kept) (Some tried) =
    (tried.session.base ≡ shelf.base) × (tried.session.ops ≡ kept.ops)
    × (tried.session.past ≡ []) × (tried.lines ≡ kept.lines)
