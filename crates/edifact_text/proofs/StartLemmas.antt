-- Where the segments of a text begin.
use Rattle.std.proofs.Common.{◌≡◌, ◌≢◌, ℕ, ◌<◌, ◌+◌, ◌-◌, ◌⊎◌, inl, inr, List, [], ◌∷◌, ◌++◌, length, Option, Result, Ok, Err, Bool, true, false, cond, ◌&&◌, ◌==◌, refl, arith, sym, ap, ◌∙◌, subst, length-append, codes}
use Rattle.edifact_text.specs.declared.faults.EdiFault.{EdiFault}
use Rattle.edifact_text.specs.declared.faults.EdiCode.TheVariants.{Truncated, BadUna}
use Rattle.edifact_text.specs.declared.service.Service.{Service}
use Rattle.edifact_text.specs.Characters.{is_bad_service, release_of}
use Rattle.edifact_text.specs.Spelling.{AreBlanks, begins_blank}
use Rattle.edifact_text.specs.Faults.{advice, Begins, IsCutAdvice, IsBadAdvice}
use Rattle.edifact_text.specs.Reading.{fault, trimmed, Start, start_of, advised, unadvised}
use Rattle.edifact_text.proofs.ReadingLemmas.{and_true}
use Rattle.edifact_text.proofs.ServedLemmas.{Served, served, served_default, same_number}
use Rattle.edifact_text.proofs.SegmentLemmas.{trimming, trimmed_blanks}

abbrev pub StartOutcome : List ℕ → Result Start EdiFault → Type 0
StartOutcome text (Ok start) = Begins text start.service (length text - length start.bytes) start.bytes
StartOutcome text (Err f) = IsCutAdvice text f ⊎ IsBadAdvice text f

-- The bytes behind the blanks.
pub record Body (text blanks body : List ℕ) : Type 0 where
  pub are_blanks : AreBlanks blanks
  pub text_is : text ≡ blanks ++ body
  pub no_blank : begins_blank body ≡ false

behind_blanks : (text blanks body : List ℕ) (n k : ℕ) → text ≡ blanks ++ body → length body ≡ n + k → length text - n ≡ length blanks + k
behind_blanks text blanks body n k h e =
    let long : length text ≡ length blanks + length body = ap length h ∙ length-append blanks body in
    omega (arith, long, e)

is_unadvised : (text blanks body : List ℕ) → Body text blanks body → ((more : List ℕ) → body ≢ codes "UNA" ++ more) →
    StartOutcome text (unadvised body)
is_unadvised text blanks body b never =
    let place : length text - length body ≡ length blanks + 0 = behind_blanks text blanks body (length body) 0 b.text_is (omega arith) in
    inr (record {
      blanks = blanks;
      are_blanks = b.are_blanks;
      text_is = b.text_is;
      no_blank = b.no_blank;
      no_advice = never;
      default = refl;
      at_is = omega (arith, place);
    })

is_cut : (text blanks rest : List ℕ) → Body text blanks (codes "UNA" ++ rest) → length rest < 6 → StartOutcome text (fault Truncated (length text))
is_cut text blanks rest b short = inl (record {
  blanks = blanks;
  rest = rest;
  are_blanks = b.are_blanks;
  text_is = b.text_is;
  short = short;
  fault_is = refl;
})

served_or_not : (text blanks : List ℕ) (sv : Service) (release reserved : ℕ) (rest : List ℕ) → Body text blanks (advice sv release reserved rest) →
    sv.release ≡ release_of release → (x : Bool) → is_bad_service sv ≡ x →
    StartOutcome text (cond x (fault BadUna (length text - length (advice sv release reserved rest))) (Ok (record { service = sv; bytes = rest })))
served_or_not text blanks sv release reserved rest b r true e =
    let place : length text - length (advice sv release reserved rest) ≡ length blanks + 0 = behind_blanks text blanks
    (advice sv release reserved rest) (length (advice sv release reserved rest)) 0 b.text_is (omega arith) in
    inr (record {
      service = sv;
      at = length blanks + 9;
      bytes = rest;
      advised = record {
        blanks = blanks;
        release = release;
        reserved = reserved;
        are_blanks = b.are_blanks;
        text_is = b.text_is;
        release_is = r;
        at_is = refl;
      };
      bad = e;
      code_is = refl;
      place_is = omega (arith, place);
    })
served_or_not text blanks sv release reserved rest b r false e =
    let place : length text - length rest ≡ length blanks + 9 = behind_blanks text blanks (advice sv release reserved rest)
    (length rest) 9 b.text_is (omega arith) in
    inl (
      record {
        blanks = blanks;
        release = release;
        reserved = reserved;
        are_blanks = b.are_blanks;
        text_is = b.text_is;
        release_is = r;
        at_is = place;
      },
      e,
    )

is_advised : (text blanks rest : List ℕ) → Body text blanks (codes "UNA" ++ rest) →
    StartOutcome text (advised (length text) (length text - length (codes "UNA" ++ rest)) rest)
is_advised text blanks [] b = is_cut text blanks [] b (omega arith)
is_advised text blanks (a ∷ []) b = is_cut text blanks (a ∷ []) b (omega arith)
is_advised text blanks (a ∷ c ∷ []) b = is_cut text blanks (a ∷ c ∷ []) b (omega arith)
is_advised text blanks (a ∷ c ∷ d ∷ []) b = is_cut text blanks (a ∷ c ∷ d ∷ []) b (omega arith)
is_advised text blanks (a ∷ c ∷ d ∷ e ∷ []) b = is_cut text blanks (a ∷ c ∷ d ∷ e ∷ []) b (omega arith)
is_advised text blanks (a ∷ c ∷ d ∷ e ∷ f ∷ []) b = is_cut text blanks (a ∷ c ∷ d ∷ e ∷ f ∷ []) b (omega arith)
is_advised text blanks (component ∷ element ∷ mark ∷ release ∷ reserved ∷ terminator ∷ rest) b =
    let sv : Service = record { component = component; element = element; mark = mark; release = release_of release; terminator = terminator } in
    served_or_not text blanks sv release reserved rest b refl (is_bad_service sv) refl

una_or_not : (text blanks : List ℕ) (a b c : ℕ) (rest : List ℕ) → Body text blanks (a ∷ b ∷ c ∷ rest) → (x : Bool) →
    (a == 85 && (b == 78 && c == 65)) ≡ x →
    StartOutcome text (cond x (advised (length text) (length text - length (a ∷ b ∷ c ∷ rest)) rest) (unadvised (a ∷ b ∷ c ∷ rest)))
una_or_not text blanks a b c rest w true e =
    let f = and_true (a == 85) (b == 78 && c == 65) e in
    let g = and_true (b == 78) (c == 65) f.1 in
    let same : a ∷ b ∷ c ∷ rest ≡ codes "UNA" ++ rest = rw (same_number a 85 f.0, same_number b 78 g.0, same_number c 65 g.1) refl in
    subst (λ zs. StartOutcome text (advised (length text) (length text - length zs) rest)) (sym same) (is_advised text blanks rest (subst
    (Body text blanks) same w))
una_or_not text blanks a b c rest w false e =
    is_unadvised text blanks (a ∷ b ∷ c ∷ rest) w (λ more h.
    let ea : a ≡ 85 = cc in
    let eb : b ≡ 78 = cc in
    let ec : c ≡ 65 = cc in
    let f : (a == 85 && (b == 78 && c == 65)) ≡ true = rw (ea, eb, ec) refl in
    cc)

started_at : (text blanks body : List ℕ) → Body text blanks body → StartOutcome text (start_of (length text) (length text - length body) body)
started_at text blanks [] b = is_unadvised text blanks [] b (λ more h. cc)
started_at text blanks (x ∷ []) b = is_unadvised text blanks (x ∷ []) b (λ more h. cc)
started_at text blanks (x ∷ y ∷ []) b = is_unadvised text blanks (x ∷ y ∷ []) b (λ more h. cc)
started_at text blanks (x ∷ y ∷ z ∷ rest) b = una_or_not text blanks x y z rest b (x == 85 && (y == 78 && z == 65)) refl

pub started : (text : List ℕ) → StartOutcome text (start_of (length text) (length text - length (trimmed text)) (trimmed text))
started text =
    let t = trimming text in
    started_at text t.blanks (trimmed text) (record { are_blanks = t.are_blanks; text_is = t.bytes_are; no_blank = t.no_blank })

-- The characters serve where segments begin.
pub begins_served : (text : List ℕ) (sv : Service) (at : ℕ) (bytes : List ℕ) → Begins text sv at bytes → Served sv
begins_served text sv at bytes (inl h) = served sv h.0.release h.0.release_is h.1
begins_served text sv at bytes (inr h) = subst Served (sym h.default) served_default

-- Back again: what begins a text is what is read there.
pub record StartRead (text : List ℕ) (sv : Service) (at : ℕ) (bytes : List ℕ) : Type 0 where
  pub at_is : at ≡ length text - length bytes
  pub read : start_of (length text) (length text - length (trimmed text)) (trimmed text) ≡ Ok (record { service = sv; bytes = bytes })

trimmed_is : (text blanks body : List ℕ) → AreBlanks blanks → text ≡ blanks ++ body → begins_blank body ≡ false → trimmed text ≡ body
trimmed_is text blanks body b h n = ap trimmed h ∙ trimmed_blanks blanks body b n

advised_good : (len place : ℕ) (sv : Service) (release reserved : ℕ) (bytes : List ℕ) (r : Option ℕ) → r ≡ release_of release →
    is_bad_service (record { component = sv.component; element = sv.element; mark = sv.mark; release = r; terminator = sv.terminator }) ≡ false →
    advised len place (sv.component ∷ sv.element ∷ sv.mark ∷ release ∷ reserved ∷ sv.terminator ∷ bytes) ≡ Ok (record {
      service =
          record { component = sv.component; element = sv.element; mark = sv.mark; release = r; terminator = sv.terminator };
      bytes = bytes;
    })
advised_good len place sv release reserved bytes r e good = rw (← e, good) refl

advised_bad : (len place : ℕ) (sv : Service) (release reserved : ℕ) (bytes : List ℕ) (r : Option ℕ) → r ≡ release_of release →
    is_bad_service (record { component = sv.component; element = sv.element; mark = sv.mark; release = r; terminator = sv.terminator }) ≡ true →
    advised len place (sv.component ∷ sv.element ∷ sv.mark ∷ release ∷ reserved ∷ sv.terminator ∷ bytes) ≡ fault BadUna place
advised_bad len place sv release reserved bytes r e bad = rw (← e, bad) refl

cut_short : (len place : ℕ) (rest : List ℕ) → length rest < 6 → advised len place rest ≡ fault Truncated len
cut_short len place [] h = refl
cut_short len place (a ∷ []) h = refl
cut_short len place (a ∷ b ∷ []) h = refl
cut_short len place (a ∷ b ∷ c ∷ []) h = refl
cut_short len place (a ∷ b ∷ c ∷ d ∷ []) h = refl
cut_short len place (a ∷ b ∷ c ∷ d ∷ e ∷ []) h = refl
cut_short len place (a ∷ b ∷ c ∷ d ∷ e ∷ f ∷ rest) h = absurd (omega arith)

no_una : (len place a b c : ℕ) (rest : List ℕ) (x : Bool) → (a == 85 && (b == 78 && c == 65)) ≡ x → ((more : List ℕ) →
    a ∷ b ∷ c ∷ rest ≢ codes "UNA" ++ more) →
    cond x (advised len place rest) (unadvised (a ∷ b ∷ c ∷ rest)) ≡ unadvised (a ∷ b ∷ c ∷ rest)
no_una len place a b c rest true e never =
    let f = and_true (a == 85) (b == 78 && c == 65) e in
    let g = and_true (b == 78) (c == 65) f.1 in
    absurd (never rest (rw (same_number a 85 f.0, same_number b 78 g.0, same_number c 65 g.1) refl))
no_una len place a b c rest false e never = refl

unadvised_read : (len place : ℕ) (bytes : List ℕ) → ((more : List ℕ) → bytes ≢ codes "UNA" ++ more) → start_of len place bytes ≡ unadvised bytes
unadvised_read len place [] never = refl
unadvised_read len place (a ∷ []) never = refl
unadvised_read len place (a ∷ b ∷ []) never = refl
unadvised_read len place (a ∷ b ∷ c ∷ rest) never = no_una len place a b c rest (a == 85 && (b == 78 && c == 65)) refl never

pub begins_read : (text : List ℕ) (sv : Service) (at : ℕ) (bytes : List ℕ) → Begins text sv at bytes → StartRead text sv at bytes
begins_read text sv at bytes (inl h) =
    let a = h.0 in
    let body = advice sv a.release a.reserved bytes in
    let place : length text - length bytes ≡ length a.blanks + 9 = behind_blanks text a.blanks body (length bytes) 9 a.text_is (omega arith) in
    record {
      at_is = a.at_is ∙ sym place;
      read =
          ap (λ zs. start_of (length text) (length text - length zs) zs) (trimmed_is text a.blanks body a.are_blanks a.text_is refl)
          ∙ advised_good (length text) (length text - length body) sv a.release a.reserved bytes sv.release a.release_is h.1;
    }
begins_read text sv at bytes (inr h) =
    let place : length text - length bytes ≡ length h.blanks + 0 = behind_blanks text h.blanks bytes (length bytes) 0 h.text_is (omega arith) in
    record {
      at_is = omega (arith, h.at_is, place);
      read =
          ap (λ zs. start_of (length text) (length text - length zs) zs) (trimmed_is text h.blanks bytes h.are_blanks h.text_is h.no_blank)
          ∙ (unadvised_read (length text) (length text - length bytes) bytes h.no_advice
          ∙ ap (λ (s : Service). Ok (record { service = s; bytes = bytes })) (sym h.default));
    }

-- and so are the faults of the advice.
pub cut_advice_read : (text : List ℕ) (f : EdiFault) → IsCutAdvice text f →
    start_of (length text) (length text - length (trimmed text)) (trimmed text) ≡ Err f
cut_advice_read text f h =
    ap (λ zs. start_of (length text) (length text - length zs) zs) (trimmed_is text h.blanks (codes "UNA" ++ h.rest) h.are_blanks h.text_is refl)
    ∙ (cut_short (length text) (length text - length (codes "UNA" ++ h.rest)) h.rest h.short
    ∙ ap (λ (g : EdiFault). Err g) (sym h.fault_is))

bad_fault : (f : EdiFault) (place : ℕ) → f.code ≡ BadUna → f.place ≡ place → fault {A = Start} BadUna place ≡ Err f
bad_fault f place c p = rw (← c, ← p) refl

pub bad_advice_read : (text : List ℕ) (f : EdiFault) → IsBadAdvice text f →
    start_of (length text) (length text - length (trimmed text)) (trimmed text) ≡ Err f
bad_advice_read text f h =
    let a = h.advised in
    let sv = h.service in
    let body = advice sv a.release a.reserved h.bytes in
    let place : length text - length body ≡ length a.blanks + 0 = behind_blanks text a.blanks body (length body) 0 a.text_is (omega arith) in
    let at : f.place ≡ length text - length body = omega (arith, place, h.place_is, a.at_is) in
    ap (λ zs. start_of (length text) (length text - length zs) zs) (trimmed_is text a.blanks body a.are_blanks a.text_is refl)
    ∙ (advised_bad (length text) (length text - length body) sv a.release a.reserved h.bytes sv.release a.release_is h.bad
    ∙ bad_fault f (length text - length body) h.code_is at)
