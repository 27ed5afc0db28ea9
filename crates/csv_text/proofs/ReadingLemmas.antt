-- The records that a reader has left, one after another: csv's own definition gives them all at once, a read takes the first.
use Rattle.std.proofs.Common.{◌≡◌, ◌∙◌, ℕ, zero, suc, ◌+◌, ◌<◌, ◌≤◌, Bool, true, false, cond, List, [], ◌∷◌, length, Option, Some, None, option_map, IsSome, refl, ap, sym, arith, inl, Bor}
use Rattle.csv.specs.declared.parser.Config.{Config}
use Rattle.csv.specs.declared.parser.State.{State}
use Rattle.csv.specs.declared.parser.State.TheVariants as st
use Rattle.csv.specs.declared.parser.Terminator.{Terminator}
use Rattle.csv.specs.declared.parser.Terminator.TheVariants as term
use Rattle.csv.specs.declared.reader.Reader.{Reader}
use Rattle.csv.specs.Machine.{Read, next_record, step, in_field, is_end, ends_at_end, after_end, fields_after, field_after}
use Rattle.csv.specs.Reading.{Reached, AreRecords, records, records_from, records_next, ReadsNext, ReadRecord, took_first, reader_state, default_config}
use Rattle.csv.specs.Records.{field_at}
use Rattle.csv_text.specs.Reading.{Fields, HasLeft, Gave}

-- a byte that ends a record leaves no record begun
fresh_after : (t : Terminator) (c : ℕ) → ends_at_end (after_end t c) ≡ false
fresh_after term.CRLF c = grind arith
fresh_after (term.Any t) c = refl

fresh-in_field : (cfg : Config) (c : ℕ) → is_end (in_field cfg c).1 ≡ true → ends_at_end (in_field cfg c).0 ≡ false
fresh-in_field cfg c = grind (arith, fresh_after cfg.terminator c)

pub fresh : (cfg : Config) (s : State) (c : ℕ) → is_end (step cfg s c).1 ≡ true → ends_at_end (step cfg s c).0 ≡ false
fresh cfg st.StartRecord c = grind (arith, fresh-in_field cfg c)
fresh cfg st.StartField c = grind (arith, fresh-in_field cfg c)
fresh cfg st.InField c = fresh-in_field cfg c
fresh cfg st.InQuoted c = grind arith
fresh cfg st.InEscape c = grind arith
fresh cfg st.AfterQuote c = grind (arith, fresh-in_field cfg c)
fresh cfg st.InComment c = grind arith
fresh cfg st.AfterCr c = grind (arith, fresh-in_field cfg c)

-- how many records can follow, at most
abbrev pub most_records : State → List ℕ → ℕ
most_records s xs = length xs + (cond (ends_at_end s) 1 0)

same_some : (q p : Read) → ◌≡◌ {A = Option Read} (Some q) (Some p) → (p.1 ≡ q.1) × (p.2 ≡ q.2)
same_some q p e = (cc, cc)

ended : (s : State) (b : Bool) (x : Fields) (p : Read) → ends_at_end s ≡ b → ◌≡◌ {A = Option Read} (cond b (Some (x, st.StartRecord, [])) None) (Some p) → most_records p.1 p.2 < most_records s []
ended s true x p b e = rw (b, (same_some _ _ e).0, (same_some _ _ e).1) (omega arith)
ended s false x p b e = cc

stepped : (cfg : Config) (s : State) (c : ℕ) (b : Bool) (x : Fields) (xs : List ℕ) (o : Option Read) (p : Read) → is_end (step cfg s c).1 ≡ b
    → ◌≡◌ {A = Option Read} (cond b (Some (x, (step cfg s c).0, xs)) o) (Some p)
    → (o ≡ Some p → most_records p.1 p.2 < most_records (step cfg s c).0 xs)
    → most_records p.1 p.2 < most_records s (c ∷ xs)
stepped cfg s c true x xs o p b e more = rw ((same_some _ _ e).0, (same_some _ _ e).1, fresh cfg s c b) (grind arith)
stepped cfg s c false x xs o p b e more = let h = more e in grind (arith, h)

-- a read leaves room for fewer records
pub fewer : (cfg : Config) (s : State) (fields : Fields) (field xs : List ℕ) (p : Read) → next_record cfg s fields field xs ≡ Some p → most_records p.1 p.2 < most_records s xs
unfolding next_record
fewer cfg s fields field [] p e = ended s (ends_at_end s) _ p refl e
fewer cfg s fields field (c ∷ xs) p e = stepped cfg s c (is_end (step cfg s c).1) _ xs _ p refl e (fewer cfg (step cfg s c).0 (fields_after (step cfg s c).1 fields field) (field_after (step cfg s c).1 c field) xs p)

-- what a list of all records says of the next one
pub all-end : (cfg : Config) (s : State) (xs : List ℕ) (rest : List Fields) → AreRecords cfg s xs rest → next_record cfg s [] [] xs ≡ None → rest ≡ []
unfolding Reached
all-end cfg s xs [] a e = refl
all-end cfg s xs (r ∷ rs) a e = cc (a.2.1, e)

pub all-next : (cfg : Config) (s : State) (xs : List ℕ) (rest : List Fields) (p : Read) → AreRecords cfg s xs rest → next_record cfg s [] [] xs ≡ Some p
    → (more : List Fields) × (rest ≡ p.0 ∷ more) × AreRecords cfg p.1 p.2 more
unfolding Reached
all-next cfg s xs [] p a e =
    let state = a.2.0 in
    let bytes = a.2.1 in
    let none : next_record cfg s [] [] xs ≡ None = rw (state, bytes) a.3 in cc (none, e)
all-next cfg s xs (r ∷ rs) p a e =
    let h = a.2 in
    let same : ◌≡◌ {A = Option Read} (Some h.0) (Some p) = sym h.1 ∙ e in
    (rs, rw h.2 (ap (λ (q : Fields). q ∷ rs) (cc same)), rw ((same_some h.0 p same).0, (same_some h.0 p same).1) (a.0, a.1, h.3, a.3))

nothing : (cfg : Config) (s : State) (xs : List ℕ) (o : Option Read) → next_record cfg s [] [] xs ≡ o → most_records s xs ≤ 0 → next_record cfg s [] [] xs ≡ None
nothing cfg s xs None e h = e
nothing cfg s xs (Some p) e h = let l = fewer cfg s [] [] xs p e in absurd (omega (arith, l))

-- the records of a text, with room for as many as there can be, are all of them
pub records_are : (cfg : Config) (n : ℕ) (s : State) (xs : List ℕ) → most_records s xs ≤ n → AreRecords cfg s xs (records_from cfg n s xs)
unfolding records_from Reached
records_are cfg zero s xs h = (s, xs, (refl, refl), nothing cfg s xs (next_record cfg s [] [] xs) refl h)
records_are cfg (suc n) s xs h = go (λ p m. records_are cfg n p.1 p.2 m) (next_record cfg s [] [] xs) refl
  where
    go : ((p : Read) → most_records p.1 p.2 ≤ n → AreRecords cfg p.1 p.2 (records_from cfg n p.1 p.2)) → (o : Option Read) → next_record cfg s [] [] xs ≡ o
        → AreRecords cfg s xs (records_next (records_from cfg n) o)
    go more None e = (s, xs, (refl, refl), e)
    go more (Some p) e =
        let l = fewer cfg s [] [] xs p e in
        let r = more p (omega (arith, l)) in
        (r.0, r.1, (p, e, refl, r.2), r.3)

pub all_records : (cfg : Config) (xs : List ℕ) → AreRecords cfg st.StartRecord xs (records cfg xs)
all_records cfg xs = records_are cfg (length xs + 1) st.StartRecord xs (omega arith)

-- what one read says of the records that were left, over the bytes after it
abbrev Step : Config → Bool → Fields → List Fields → State → Option (List ℕ) → Type 0
Step cfg false fields rest s2 k = rest ≡ []
Step cfg true fields rest s2 k = (more : List Fields) × (rest ≡ fields ∷ more) × (ys : List ℕ) × (k ≡ Some ys) × AreRecords cfg s2 ys more

after_next : (cfg : Config) (s s2 : State) (xs : List ℕ) (k : Option (List ℕ)) (found : Bool) (fields : Fields) (rest : List Fields)
    → AreRecords cfg s xs rest → ReadsNext cfg s (Some xs) k found fields s2 → (o : Option Read) → next_record cfg s [] [] xs ≡ o
    → Step cfg found fields rest s2 k
after_next cfg s s2 xs None found fields rest a r o e = absurd r
after_next cfg s s2 xs (Some ys) found fields rest a r None e = let n = rw e at r in rw n (all-end cfg s xs rest a e)
after_next cfg s s2 xs (Some ys) found fields rest a r (Some p) e =
    let n = rw e at r in
    let m = all-next cfg s xs rest p a e in
    rw (n.0, n.1, n.2) (m.0, m.1, ys, refl, rw n.3 m.2)

-- what a read of a record says of those that were left
pub after_read : (old new : Reader (Bor (List ℕ))) (found : Bool) (fields : Fields) (rest : List Fields) → HasLeft old rest
    → ReadRecord (λ (s : Bor (List ℕ)). Some s.now) old new found fields → took_first new ≡ true → Gave found fields rest new
after_read old new false fields rest left r first =
    after_next default_config (reader_state old) (reader_state new) left.bytes _ false fields rest left.records_are (rw (left.config, left.source) at r.0) _ refl
after_read old new true fields rest left r first =
    let s = after_next default_config (reader_state old) (reader_state new) left.bytes _ true fields rest left.records_are (rw (left.config, left.source) at r.0) _ refl in (
      s.0,
      s.1,
      record {
        config = r.2 ∙ left.config;
        plain = r.3 ∙ left.plain;
        ready = inl first;
        bytes = s.2;
        source = rw r.1 s.3;
        records_are = s.4;
      },
    )

-- what `Gave` says of a read that found a record, and of one that found none
pub gave_one : (found : Bool) (fields : Fields) (rest : List Fields) (new : Reader (Bor (List ℕ))) → found ≡ true → Gave found fields rest new
    → (more : List Fields) × (rest ≡ fields ∷ more) × HasLeft new more
gave_one true fields rest new e g = g
gave_one false fields rest new e g = cc e

pub gave_none : (found : Bool) (fields : Fields) (rest : List Fields) (new : Reader (Bor (List ℕ))) → found ≡ false → Gave found fields rest new → rest ≡ []
gave_none true fields rest new e g = cc e
gave_none false fields rest new e g = g

-- what is found of a field that a record has
pub field_there : (fields : Fields) (i : ℕ) (o : Option (Bor (List ℕ))) → i < length fields → option_map (λ s. s.now) o ≡ field_at fields i → IsSome o
unfolding field_at
field_there [] i o h e = absurd (omega arith)
field_there (y ∷ ys) zero (Some b) h e = refl
field_there (y ∷ ys) zero None h e = cc
field_there (y ∷ ys) (suc i) o h e = field_there ys i o (omega arith) e

pub field_is : (f : Option (List ℕ)) (o : Option (Bor (List ℕ))) (b : Bor (List ℕ)) → option_map (λ s. s.now) o ≡ f → o ≡ Some b → f ≡ Some b.now
field_is f o b e is = sym e ∙ ap (option_map (λ (s : Bor (List ℕ)). s.now)) is
