-- The reading of a text is what the definitions say of it, and nothing else.
use Rattle.std.proofs.Common.{◌≡◌, ℕ, ◌-◌, ◌⊎◌, inl, inr, List, [], ◌∷◌, ◌++◌, length, Result, Ok, Err, true, false, take, refl, arith, sym, ap, ◌∙◌, subst, length-append, codes, append_assoc}
use Rattle.std.proofs.lemmas.List.{map-append}
use Rattle.std.proofs.Math.Seq.{take-append_seam}
use Rattle.edifact_text.specs.declared.faults.EdiFault.{EdiFault}
use Rattle.edifact_text.specs.declared.faults.Kind.{Kind}
use Rattle.edifact_text.specs.declared.service.Service.{Service}
use Rattle.edifact_text.specs.Interchange.{Parts, Placed, Opened, Numbered, numbered}
use Rattle.edifact_text.specs.Rows.{is_closed}
use Rattle.edifact_text.specs.Spelling.{Segments}
use Rattle.edifact_text.specs.Faults.{Begins, IsMessage, IsFault, parts_of, AreClean}
use Rattle.edifact_text.specs.Pieces.{pieces}
use Rattle.edifact_text.specs.Reading.{◌>>=◌, trimmed, Start, start_of, Stretch, stretches, opened, judged, inner}
use Rattle.edifact_text.specs.Stages.{message_of, message_parts, staged}
use Rattle.edifact_text.proofs.JudgedLemmas.{bind_assoc, bind_same}
use Rattle.edifact_text.proofs.StageLemmas.{message_judged}
use Rattle.edifact_text.proofs.CleanLemmas.{clean_none, enveloped, Enveloped, ends_last}
use Rattle.edifact_text.proofs.FoundLemmas.{Closed, Outcome, found}
use Rattle.edifact_text.proofs.RunLemmas.{closed_judged, faulty_judged}
use Rattle.edifact_text.proofs.StartLemmas.{StartOutcome, started, begins_served, begins_read, StartRead, cut_advice_read, bad_advice_read}

-- The segments of a text whose advice is read, judged.
abbrev pub judged_at : Kind → List ℕ → Service → ℕ → List ℕ → Result (List Parts) EdiFault
judged_at kind text sv at bytes = judged kind sv (length text) [] (stretches at (pieces sv.release sv.terminator bytes))

abbrev pub message_at : Service → List Parts → Opened
message_at sv all = record { mark = sv.mark; segments = numbered 2 (inner all) }

abbrev pub opened_at : Kind → List ℕ → Start → Result Opened EdiFault
opened_at kind text start =
    judged_at kind text start.service (length text - length start.bytes) start.bytes >>= λ all. Ok (message_at start.service all)

stage_at : (kind : Kind) (sv : Service) (len : ℕ) (ps : List Stretch) →
    (message_of kind sv len ps >>= λ ss. Ok (record { mark = sv.mark; segments = numbered 2 (message_parts sv ss) })) ≡
    (judged kind sv len [] ps >>= λ all. Ok (message_at sv all))
stage_at kind sv len ps =
    let view : List Parts → Result Opened EdiFault = λ parts. Ok (record { mark = sv.mark; segments = numbered 2 parts }) in
    sym (bind_assoc (message_of kind sv len ps) (λ ss. Ok (message_parts sv ss)) view)
    ∙ (ap (λ m. m >>= view) (message_judged kind sv len ps)
    ∙ bind_assoc (judged kind sv len [] ps) (λ all. Ok (inner all)) view)

pub staged_opened : (kind : Kind) (text : List ℕ) → staged kind text ≡ opened kind text
unfolding staged opened
staged_opened kind text =
    bind_same (start_of (length text) (length text - length (trimmed text)) (trimmed text)) _ (λ start. opened_at kind text start)
    (λ start _. stage_at kind start.service (length text) (stretches (length text - length start.bytes)
    (pieces start.service.release start.service.terminator start.bytes)))

opened_judged : (kind : Kind) (text : List ℕ) →
    opened kind text ≡ (start_of (length text) (length text - length (trimmed text)) (trimmed text) >>= λ start. opened_at kind text start)
unfolding opened
opened_judged kind text = refl

-- What a reading may answer.
abbrev pub Answer : Kind → List ℕ → Result Opened EdiFault → Type 0
Answer kind text (Ok o) = IsMessage kind text o.mark o.segments
Answer kind text (Err f) = IsFault kind text f

taken : (xs : List Parts) (u z : Parts) → take (length (xs ++ u ∷ z ∷ []) - 2) (xs ++ u ∷ z ∷ []) ≡ xs
taken xs u z =
    let e : length (xs ++ u ∷ z ∷ []) - 2 ≡ length xs = simp length-append (omega arith) in
    ap (λ n. take n (xs ++ u ∷ z ∷ [])) e ∙ take-append_seam xs (u ∷ z ∷ [])

inner_is : (unb unh : Placed) (body : List Placed) (unt unz : Placed) → inner (parts_of (unb ∷ unh ∷ body ++ unt ∷ unz ∷ [])) ≡ parts_of body
inner_is unb unh body unt unz =
    let e : parts_of (body ++ unt ∷ unz ∷ []) ≡ parts_of body ++ unt.parts ∷ unz.parts ∷ [] = map-append (λ (s : Placed). s.parts) body
    (unt ∷ unz ∷ []) in
    ap (λ ys. inner (unb.parts ∷ unh.parts ∷ ys)) e ∙ taken (parts_of body) unt.parts unz.parts

closed_message : (kind : Kind) (text : List ℕ) (sv : Service) (at : ℕ) (bytes : List ℕ) (all : List Parts) → Begins text sv at bytes →
    (c : Closed kind sv at bytes all) → Enveloped c.segments →
    IsMessage kind text sv.mark (numbered 2 (inner all))
closed_message kind text sv at bytes all b c e = record {
  service = sv;
  at = at;
  bytes = bytes;
  begins = b;
  unb = e.unb;
  unh = e.unh;
  body = e.body;
  unt = e.unt;
  unz = e.unz;
  end = c.end;
  rest = c.rest;
  spelt = subst (λ xs. Segments sv at xs bytes c.end c.rest) e.are c.spelt;
  blanks_behind = c.blanks_behind;
  clean = subst (AreClean kind) e.are c.clean;
  message_ends = e.message_ends;
  interchange_ends = e.interchange_ends;
  mark_is = refl;
  segments_are = ap (λ ys. numbered 2 (inner ys)) (c.all_are ∙ ap (λ (xs : List Placed). parts_of xs) e.are) ∙ ap (numbered 2)
      (inner_is e.unb e.unh e.body e.unt e.unz);
}

judged_answer : (kind : Kind) (text : List ℕ) (sv : Service) (at : ℕ) (bytes : List ℕ) → Begins text sv at bytes →
    (r : Result (List Parts) EdiFault) → Outcome kind sv (length text) at bytes r →
    Answer kind text (r >>= λ all. Ok (message_at sv all))
judged_answer kind text sv at bytes b (Ok all) c = closed_message kind text sv at bytes all b c (enveloped kind c.segments c.clean c.closed)
judged_answer kind text sv at bytes b (Err f) h = inr (inr (sv, at, bytes, b, h))

start_answer : (kind : Kind) (text : List ℕ) (r : Result Start EdiFault) → StartOutcome text r →
    Answer kind text (r >>= λ start. opened_at kind text start)
start_answer kind text (Ok start) b =
    let sv = start.service in
    let at = length text - length start.bytes in
    judged_answer kind text sv at start.bytes b (judged_at kind text sv at start.bytes)
    (found kind sv (begins_served text sv at start.bytes b) (length text) at start.bytes [] at start.bytes
    (pieces sv.release sv.terminator start.bytes)
    (record { spelt = (refl, refl); clean = clean_none kind }) refl false refl)
start_answer kind text (Err f) (inl h) = inl h
start_answer kind text (Err f) (inr h) = inr (inl h)

-- Whatever is read of a text is so.
pub answer_is : (kind : Kind) (text : List ℕ) → Answer kind text (opened kind text)
answer_is kind text =
    subst (Answer kind text) (sym (opened_judged kind text)) (start_answer kind text (start_of (length text) (length text - length (trimmed text))
    (trimmed text)) (started text))

pub message_is : (kind : Kind) (text : List ℕ) (o : Opened) → opened kind text ≡ Ok o → IsMessage kind text o.mark o.segments
message_is kind text o h = subst (Answer kind text) h (answer_is kind text)

pub fault_is : (kind : Kind) (text : List ℕ) (f : EdiFault) → opened kind text ≡ Err f → IsFault kind text f
fault_is kind text f h = subst (Answer kind text) h (answer_is kind text)

-- Whatever is so of a text is read.
opened_from : (kind : Kind) (text : List ℕ) (sv : Service) (at : ℕ) (bytes : List ℕ) → StartRead text sv at bytes →
    opened kind text ≡ (judged_at kind text sv at bytes >>= λ all. Ok (message_at sv all))
opened_from kind text sv at bytes s =
    opened_judged kind text
    ∙ (ap (λ r. r >>= λ start. opened_at kind text start) s.read
    ∙ ap (λ n. judged_at kind text sv n bytes >>= λ all. Ok (message_at sv all)) (sym s.at_is))

pub message_opens : (kind : Kind) (text : List ℕ) (mark : ℕ) (segments : List Numbered) → IsMessage kind text mark segments →
    opened kind text ≡ Ok (record { mark = mark; segments = segments })
message_opens kind text mark segments m =
    let sv = m.service in
    let segs = m.unb ∷ m.unh ∷ m.body ++ m.unt ∷ m.unz ∷ [] in
    let closed : is_closed (parts_of segs) ≡ true =
    ap (λ (xs : List Placed). is_closed (parts_of xs)) (sym (append_assoc (m.unb ∷ m.unh ∷ m.body) (m.unt ∷ []) (m.unz ∷ [])))
    ∙ (ends_last (codes "UNZ") ((m.unb ∷ m.unh ∷ m.body) ++ m.unt ∷ []) m.unz ∙ m.interchange_ends) in
    let c : Closed kind sv m.at m.bytes (parts_of segs) = record {
      segments = segs;
      end = m.end;
      rest = m.rest;
      spelt = m.spelt;
      blanks_behind = m.blanks_behind;
      clean = m.clean;
      closed = closed;
      all_are = refl;
    } in
    opened_from kind text sv m.at m.bytes (begins_read text sv m.at m.bytes m.begins)
    ∙ (ap (λ r. r >>= λ all. Ok (message_at sv all)) (closed_judged kind sv (begins_served text sv m.at m.bytes m.begins) (length text) m.at m.bytes
    (parts_of segs) c)
    ∙ (ap (λ ys. Ok (record { mark = sv.mark; segments = numbered 2 ys })) (inner_is m.unb m.unh m.body m.unt m.unz)
    ∙ (ap (λ ns. Ok (record { mark = sv.mark; segments = ns })) (sym m.segments_are)
    ∙ ap (λ n. Ok (record { mark = n; segments = segments })) (sym m.mark_is))))

pub fault_opens : (kind : Kind) (text : List ℕ) (f : EdiFault) → IsFault kind text f → opened kind text ≡ Err f
fault_opens kind text f (inl h) = opened_judged kind text ∙ ap (λ r. r >>= λ start. opened_at kind text start) (cut_advice_read text f h)
fault_opens kind text f (inr (inl h)) = opened_judged kind text ∙ ap (λ r. r >>= λ start. opened_at kind text start) (bad_advice_read text f h)
fault_opens kind text f (inr (inr h)) =
    let sv = h.0 in
    opened_from kind text sv h.1 h.2 (begins_read text sv h.1 h.2 h.3)
    ∙ ap (λ r. r >>= λ all. Ok (message_at sv all)) (faulty_judged kind sv (begins_served text sv h.1 h.2 h.3) (length text) h.1 h.2 f h.4)

-- A text is a message or has a fault, and not both.
either_by : (kind : Kind) (text : List ℕ) (r : Result Opened EdiFault) → Answer kind text r →
    ((mark : ℕ) × (segments : List Numbered) × IsMessage kind text mark segments) ⊎ ((f : EdiFault) × IsFault kind text f)
either_by kind text (Ok o) h = inl (o.mark, o.segments, h)
either_by kind text (Err f) h = inr (f, h)

pub either_is : (kind : Kind) (text : List ℕ) →
    ((mark : ℕ) × (segments : List Numbered) × IsMessage kind text mark segments) ⊎ ((f : EdiFault) × IsFault kind text f)
either_is kind text = either_by kind text (opened kind text) (answer_is kind text)

pub not_both : (kind : Kind) (text : List ℕ) (mark : ℕ) (segments : List Numbered) (f : EdiFault) → IsMessage kind text mark segments →
    IsFault kind text f → ⊥
not_both kind text mark segments f m h =
    let a = message_opens kind text mark segments m in
    let b = fault_opens kind text f h in
    cc
