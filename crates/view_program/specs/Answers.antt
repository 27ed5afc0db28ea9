-- How a run of a view ends: with its text, or with a refusal and what is told of it.
use Rattle.std.specs.Prelude.{◌≡◌, ◌⊎◌, ℕ, List, ◌++◌, Option, Ok, Err, codes}
use Rattle.ship_profile.specs.Record as profile
use Rattle.ship_profile.specs.Record.{ProfileRecord}
use Rattle.ship_profile.specs.declared.faults.ProfileFault.{ProfileFault}
use Rattle.port_call.specs.declared.faults.RunFault.{RunFault}
use Rattle.seq_report.specs.Refusal.{outcome_of}
use Rattle.seq_report.specs.Written.{HasWritten}
use Rattle.run_files.specs.declared.stops.Stop.{Stop}
use Rattle.run_files.specs.declared.stops.Stop.TheVariants.{Refused, Edits, Usage, NoMemory, Read}
use Rattle.run_files.specs.declared.stops.Stop.TheVariants.{Write}
use Rattle.run_files.specs.Files.{AreShipTexts, Known, RunTexts}
use Rattle.run_files.specs.Statuses.{stop_text}
use Rattle.view_program.specs.declared.words.View.TheVariants.{Summary, Explain, Page, Table}
use Rattle.view_program.specs.declared.words.View.{View}
use Rattle.view_program.specs.declared.words.SessionLine.{SessionLine}
use Rattle.view_program.specs.declared.words.ViewLine.{ViewLine}
use Rattle.view_program.specs.Sessions.{IsLeftOn}
use Rattle.view_program.specs.Shown.{IsShown, IsTextOf, OfTexts, OnFiles}

-- what a stream has taken, where that is known
abbrev pub Taken : Type 0
Taken = Option (List ℕ)

-- a stop that refuses no input
abbrev pub IsUnrefused : Stop → Type 0
IsUnrefused (Refused fault) = ⊥
IsUnrefused (Edits number) = ⊥
IsUnrefused stop = Unit {0}

-- where an input is refused, nothing was written
abbrev pub IsUntouched : Stop → Taken → Taken → Type 0
IsUntouched (Refused fault) old new = new ≡ old
IsUntouched stop old new = Unit {0}

-- the line of a refusal, and behind it an explanation
abbrev pub IsToldOf : RunFault → List ℕ → Type 0
IsToldOf fault text =
    (behind : List ℕ) × (text ≡ stop_text (Refused fault) ++ (codes "\n" ++ behind))

-- where an explanation was asked for, a refusal is told on the stream that it was asked for on, and
-- else nothing is written there
abbrev pub IsRefusalTold : View → RunFault → Taken → Taken → Type 0
IsRefusalTold Explain fault old new = HasWritten old new (IsToldOf fault)
IsRefusalTold Summary fault old new = new ≡ old
IsRefusalTold Page fault old new = new ≡ old
IsRefusalTold Table fault old new = new ≡ old

-- how a run on some texts ends that isn't stopped otherwise: the report is refused, and that is
-- told, or the text that was asked for was written
abbrev pub IsAnswerOn : RunTexts → ViewLine → ℕ → Taken → Taken → Type 0
IsAnswerOn texts line status old new =
    HasWritten old new (λ text. OfTexts texts
    (λ inputs. IsShown (IsTextOf line) inputs status text))
    ⊎ ((status ≡ 2) × (fault : RunFault) × OfTexts texts (λ inputs. outcome_of inputs ≡ Err fault)
    × IsRefusalTold line.view fault old new)

-- the same on the files that a line names, one of which may be unread
abbrev pub IsAnswerOf : (List ℕ → Known) → ViewLine → ℕ → Taken → Taken → Type 0
IsAnswerOf known line status old new =
    HasWritten old new (λ text. OnFiles known line
    (λ inputs. IsShown (IsTextOf line) inputs status text))
    ⊎ (((status ≡ 2) × (fault : RunFault)
    × OnFiles known line (λ inputs. outcome_of inputs ≡ Err fault)
    × IsRefusalTold line.view fault old new)
    ⊎ (status ≡ 5))

-- how the profile of some texts is answered: it is read and told of, or refused
abbrev pub IsProfileAnswerOn : profile.Texts → ℕ → Taken → Taken → Type 0
IsProfileAnswerOn texts status old new =
    ((status ≡ 0) × (ship : ProfileRecord) × (profile.record_of texts ≡ Ok ship))
    ⊎ ((status ≡ 2) × (fault : ProfileFault) × (profile.record_of texts ≡ Err fault) × (new ≡ old))

-- the same of the files of a folder, one of which may be unread
abbrev pub IsProfileAnswer : (List ℕ → Known) → List ℕ → ℕ → Taken → Taken → Type 0
IsProfileAnswer known folder status old new =
    ((texts : profile.Texts) × AreShipTexts known folder texts
    × IsProfileAnswerOn texts status old new)
    ⊎ (status ≡ 5)

-- how a session on some texts ends: what is left of it was written, or the report is refused, and
-- nothing is written
abbrev pub IsSessionOn : RunTexts → ℕ → Taken → Taken → Type 0
IsSessionOn texts status old new =
    HasWritten old new (λ text. OfTexts texts (λ inputs. IsLeftOn inputs status text))
    ⊎ ((status ≡ 2) × (fault : RunFault) × OfTexts texts (λ inputs. outcome_of inputs ≡ Err fault)
    × (new ≡ old))

-- the same on the files that a line names, one of which may be unread
abbrev pub IsSessionOf : (List ℕ → Known) → SessionLine → ℕ → Taken → Taken → Type 0
IsSessionOf known line status old new =
    HasWritten old new (λ text. OnFiles known line.call (λ inputs. IsLeftOn inputs status text))
    ⊎ (((status ≡ 2) × (fault : RunFault)
    × OnFiles known line.call (λ inputs. outcome_of inputs ≡ Err fault) × (new ≡ old))
    ⊎ (status ≡ 5))

-- how a run on some words ends: on a port call, on a profile, or as a session
abbrev pub IsAnswerBy : (List ℕ → Known) → ℕ → Taken → Taken → Type 0
IsAnswerBy known status old new =
    ((line : ViewLine) × IsAnswerOf known line status old new)
    ⊎ (((folder : List ℕ) × IsProfileAnswer known folder status old new)
    ⊎ ((line : SessionLine) × IsSessionOf known line status old new))

-- the profile of a folder is read
abbrev pub IsProfileRead : (List ℕ → Known) → List ℕ → Type 0
IsProfileRead known folder =
    (texts : profile.Texts) × AreShipTexts known folder texts
    × (ship : ProfileRecord) × (profile.record_of texts ≡ Ok ship)

-- what a run shows: a text on a port call, the profile of a folder, or what is left of a session
abbrev pub IsShownBy : (List ℕ → Known) → ℕ → Taken → Taken → Type 0
IsShownBy known status old new =
    ((line : ViewLine) × HasWritten old new (λ text. OnFiles known line
    (λ inputs. IsShown (IsTextOf line) inputs status text)))
    ⊎ (((folder : List ℕ) × (status ≡ 0) × IsProfileRead known folder)
    ⊎ ((line : SessionLine) × HasWritten old new (λ text. OnFiles known line.call
    (λ inputs. IsLeftOn inputs status text))))

-- a profile is refused, and nothing is written
abbrev pub IsProfileRefused : (List ℕ → Known) → List ℕ → Taken → Taken → Type 0
IsProfileRefused known folder old new =
    (texts : profile.Texts) × AreShipTexts known folder texts
    × (fault : ProfileFault) × (profile.record_of texts ≡ Err fault) × (new ≡ old)

-- the report on the files of some line is refused, and that is told; or a profile is, or what a
-- session begins with
abbrev pub IsRefusedBy : (List ℕ → Known) → Taken → Taken → Type 0
IsRefusedBy known old new =
    ((line : ViewLine) × (fault : RunFault)
    × OnFiles known line (λ inputs. outcome_of inputs ≡ Err fault)
    × IsRefusalTold line.view fault old new)
    ⊎ (((folder : List ℕ) × IsProfileRefused known folder old new)
    ⊎ ((line : SessionLine) × (fault : RunFault)
    × OnFiles known line.call (λ inputs. outcome_of inputs ≡ Err fault) × (new ≡ old)))
