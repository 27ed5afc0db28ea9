-- What a session's list is by its report, on which base a list is that is opened, and what answers
-- write one behind another.
use Rattle.std.proofs.Common.{◌≡◌, ℕ, List, [], ◌++◌, Option, Some, None, refl, sym, ap}
use Rattle.std.proofs.KnownBytes.{Appends-trans}
use Rattle.std.proofs.lemmas.List.{append-nil}
use Rattle.lift_sequence.specs.declared.operations.Op.{Op}
use Rattle.port_call.specs.Grounds.{GroundRecord}
use Rattle.seq_report.specs.Cases.{outcome_in}
use Rattle.run_files.specs.Statuses.{status_on}
use Rattle.seq_report.specs.Report.{last_line}
use Rattle.seq_report.specs.Written.{HasWritten}
use Rattle.what_if.specs.Bases.{case_of, report_on}
use Rattle.view_session.specs.Shelves.{IsOpened, KeptRecord, ShelfRecord}
use Rattle.view_session.specs.Trails.{IsTrail, TriedRecord}
use Rattle.view_sittings.specs.Sessions.{IsLeftBy}

pub opened_base : (shelf : ShelfRecord) (kept : Option KeptRecord) (tried : TriedRecord) → IsOpened shelf kept (Some tried) → tried.session.base ≡ shelf.base
opened_base shelf None tried h = absurd h
opened_base shelf (Some kept) tried h = h.0

pub reported : (base : GroundRecord) (ops : List Op) → outcome_in (case_of base ops) ≡ report_on base ops
unfolding report_on
reported base ops = refl

pub written_none : (old : Option (List ℕ)) → HasWritten old old (λ _. Unit {0})
written_none None = ([], tt, tt)
written_none (Some text) = ([], tt, sym (append-nil text))

pub written_any : (P : List ℕ → Type 0) (old new : Option (List ℕ)) → HasWritten old new P → HasWritten old new (λ _. Unit {0})
written_any P old new h = (h.0, tt, h.2)

pub written_on : (old mid new : Option (List ℕ)) → HasWritten old mid (λ _. Unit {0}) → HasWritten mid new (λ _. Unit {0}) → HasWritten old new (λ _. Unit {0})
written_on old mid new one two = (one.0 ++ two.0, tt, Appends-trans old mid new one.0 two.0 one.2 two.2)

-- a session has written its opening, its answers and the last line of the report
pub left_by : (base : GroundRecord) (from : List Op) (status : ℕ) (old opened answered new : Option (List ℕ)) (tried : TriedRecord) →
    HasWritten old opened (λ _. Unit {0}) → HasWritten opened answered (λ _. Unit {0}) →
    HasWritten answered new (λ text. text ≡ last_line (report_on base tried.session.ops).summary.first) →
    tried.session.base ≡ base → IsTrail from tried → status ≡ status_on (report_on base tried.session.ops).summary.first →
    HasWritten old new (IsLeftBy base from status)
left_by base from status old opened answered new tried one two three on trail is =
    let front = written_on old opened answered one two in (
      front.0 ++ three.0,
      (tried, on, trail, is, front.0, ap (λ (text : List ℕ). front.0 ++ text) three.1),
      Appends-trans old answered new front.0 three.0 front.2 three.2,
    )
