-- One step along what is ahead.
use Rattle.std.proofs.Common.{◌≡◌, ℕ, ◌+◌, ◌-◌, ◌<◌, List, [], ◌∷◌, length, Ok, Err, false, sym, refl, arith, ◌∙◌, ap}
use Rattle.edifact_text.specs.declared.faults.EdiFault.{EdiFault}
use Rattle.edifact_text.specs.declared.faults.EdiCode.TheVariants.{Trailing}
use Rattle.edifact_text.specs.declared.service.Service.{Service}
use Rattle.edifact_text.specs.Pieces.{pieces}
use Rattle.edifact_text.specs.Reading.{trimmed, stretches, Stretch, fault}
use Rattle.edifact_text.specs.Stages.{next_of, whole, end_rows, ended_ones}
use Rattle.edifact_text.proofs.PiecesLemmas.{some_piece}

-- The next stretch, and others behind it.
abbrev pub Goes : List Stretch → Stretch → List Stretch → Type 0
Goes ps s qs = (ps ≡ s ∷ qs) × (0 < length qs)

some_stretch : (at : ℕ) (ps : List (List ℕ)) → 0 < length ps → 0 < length (stretches at ps)
some_stretch at [] h = absurd (omega arith)
some_stretch at (p ∷ ps) h = omega arith

at_first : (at place next : ℕ) (ps qs : List (List ℕ)) (front bytes : List ℕ) → ps ≡ front ∷ qs → bytes ≡ trimmed front →
    place ≡ at + (length front - length bytes) → next ≡ at + length front + 1 →
    stretches at ps ≡ record { place = place; bytes = bytes } ∷ stretches next qs
at_first at place next ps qs front bytes h b p a = rw (h, p, b, a) refl

pub taken : (sv : Service) (at place next : ℕ) (text front rest bytes : List ℕ) →
    pieces sv.release sv.terminator text ≡ front ∷ pieces sv.release sv.terminator rest →
    bytes ≡ trimmed front → place ≡ at + (length front - length bytes) → next ≡ at + length front + 1 →
    Goes (stretches at (pieces sv.release sv.terminator text)) (record { place = place; bytes = bytes }) (stretches next
    (pieces sv.release sv.terminator rest))
taken sv at place next text front rest bytes h b p a = (
  at_first at place next (pieces sv.release sv.terminator text) (pieces sv.release sv.terminator rest) front bytes h b p a,
  some_stretch next (pieces sv.release sv.terminator rest) (some_piece sv.release sv.terminator false rest),
)

next_there : (sv : Service) (len : ℕ) (s : Stretch) (qs : List Stretch) → 0 < length qs → (whole sv s ≡ Ok tt →
    next_of sv len (s ∷ qs) ≡ Ok (s, qs)) × ((e : EdiFault) → whole sv s ≡ Err e → next_of sv len (s ∷ qs) ≡ Err e)
next_there sv len s [] h = absurd (omega arith)
next_there sv len s (q ∷ qs) h = ((λ w. rw w refl), (λ e w. rw w refl))

pub next_ok : (sv : Service) (len : ℕ) (ps : List Stretch) (s : Stretch) (qs : List Stretch) → Goes ps s qs → Ok tt ≡ whole sv s →
    next_of sv len ps ≡ Ok (s, qs)
next_ok sv len ps s qs g w = ap (next_of sv len) g.0 ∙ (next_there sv len s qs g.1).0 (sym w)

pub next_err : (sv : Service) (len : ℕ) (ps : List Stretch) (s : Stretch) (qs : List Stretch) (e : EdiFault) → Goes ps s qs → Err e ≡ whole sv s →
    next_of sv len ps ≡ Err e
next_err sv len ps s qs e g w = ap (next_of sv len) g.0 ∙ (next_there sv len s qs g.1).1 e (sym w)

end_there : (s : Stretch) (qs : List Stretch) → 0 < length qs → end_rows (s ∷ qs) ≡ fault Trailing s.place
end_there s [] h = absurd (omega arith)
end_there s (q ∷ qs) h = refl

pub end_more : (ps : List Stretch) (s : Stretch) (qs : List Stretch) → Goes ps s qs → end_rows ps ≡ fault Trailing s.place
end_more ps s qs g = ap end_rows g.0 ∙ end_there s qs g.1

ended_there : (s : Stretch) (qs : List Stretch) → 0 < length qs → ended_ones (s ∷ qs) ≡ s ∷ ended_ones qs
ended_there s [] h = absurd (omega arith)
ended_there s (q ∷ qs) h = refl

pub ended_more : (ps : List Stretch) (s : Stretch) (qs : List Stretch) → Goes ps s qs → ended_ones ps ≡ s ∷ ended_ones qs
ended_more ps s qs g = ap ended_ones g.0 ∙ ended_there s qs g.1
