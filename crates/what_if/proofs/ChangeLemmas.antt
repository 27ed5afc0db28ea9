-- What the steps of a list change, one by one and together.
use Rattle.std.proofs.Common.{◌≡◌, ◌∙◌, ℕ, suc, ◌+◌, ◌*◌, ◌/◌, ◌^◌, ◌<◌, ◌≤◌, List, [], length, map, get_or, refl, sym, ap, subst, arith}
use Rattle.std.specs.List.{range_with_len}
use Rattle.std.proofs.lemmas.List.{get_or-map, length-map}
use Rattle.lift_sequence.specs.declared.operations.Op.{Op}
use Rattle.lift_sequence.specs.Sequence.{AreKept, SequenceRecord}
use Rattle.lift_sequence.proofs.States.{as_many}
use Rattle.prefix_scan.specs.Counted.{Counted}
use Rattle.prefix_scan.specs.Cut.{Divides, start_of}
use Rattle.prefix_scan.proofs.CutLemmas.{start_within}
use Rattle.prefix_scan.specs.Folds.{prefix}
use Rattle.moment_sums.specs.Bounded.{IsBounded}
use Rattle.moment_sums.specs.Kept.{Kept, both_kept, none_kept, size_of, values}
use Rattle.moment_sums.specs.KeptLaws.{kept_laws}
use Rattle.moment_sums.specs.Sum.{joined}
use Rattle.moment_sums.proofs.Bounds.{values_both}
use Rattle.port_call.specs.Cases.{case_on, IsMade, IsReady}
use Rattle.seq_report.specs.Cases.{outcome_in}
use Rattle.running_sums.specs.Lines.{AreFirstSums, changes_behind, parts_behind, sum_to}
use Rattle.port_call.specs.Sums.{sum_at}
use Rattle.port_call.proofs.CaseLemmas.{ready}
use Rattle.seq_report.proofs.ChunkLemmas.{many_lines}
use Rattle.running_sums.proofs.SumLemmas.{changes_size, changes_sum, room_behind}
use Rattle.seq_report.proofs.SumLemmas.{sum_here}
use Rattle.port_call.specs.Grounds.{GroundRecord, IsGround, aboard_first, steps_on}
use Rattle.running_sums.specs.Fours.{AreOfFour, change_of, fours}
use Rattle.what_if.specs.Bases.{report_on}
use Rattle.what_if.specs.Sessions.{IsSummed, changes_on}
use Rattle.running_sums.proofs.ChangeLemmas.{changes_to, small}
use Rattle.running_sums.proofs.FourLemmas.{length-fours, of_four}

-- with what is aboard on arrival the first k changes are what is aboard after k steps
module _ (base : GroundRecord) (sequence : SequenceRecord) (tree : Counted Kept) (total : Kept) (is_base : IsGround base.ship base.arrival total)
    (summed : IsSummed base sequence tree) (kept : AreKept sequence.ops sequence.steps) (k : ℕ) (within : k ≤ length sequence.ops) (change : Kept) (is : change ≡ prefix none_kept both_kept (map (change_of base.ship.ship.frames) sequence.steps) k) where
  made : IsMade base.ship base.arrival sequence
  made = record { legal = summed.legal; steps = summed.steps }

  pub is_ready : IsReady (case_on base.ship base.arrival sequence)
  is_ready = ready base.ship base.arrival sequence is_base.arrived made is_base.stowed kept

  together : change ≡ changes_behind base.ship.ship.frames sequence.steps (range_with_len 0 k)
  together =
      let frames = base.ship.ship.frames in
      is ∙ changes_to frames sequence.steps k (omega (arith, kept.long, within))

  pub change_fits : size_of change ≤ 2 * k
  change_fits = omega (arith, ap size_of together, changes_size base.ship.ship.frames sequence.steps 0 k (omega (arith, within, is_ready.few)))

  pub joined_fits : size_of total + size_of change ≤ 2 ^ 19
  joined_fits = omega (arith, change_fits, is_base.adds_up.size, within, is_ready.few)

  pub sum_to_line : (r : Kept) → r ≡ both_kept total change → values r ≡ sum_to base.ship.ship.frames base.arrival.bodies sequence.steps k
  sum_to_line r joins =
      ap values joins ∙ values_both total change
      ∙ (λ j. joined (is_base.adds_up.sum j) (values (together j)))
      ∙ changes_sum base.ship.ship.frames sequence.steps is_ready.frames base.arrival.bodies 0 k k (omega arith)

  pub room_after : (r : Kept) → r ≡ both_kept total change → size_of r + parts_behind sequence.steps k ≤ 2 ^ 19
  room_after r joins =
      let both = kept_laws.op_weight total change joined_fits in
      room_behind sequence.steps k (size_of r) (omega (arith, is_ready.few, is_ready.long)) (omega (arith, is_ready.long, within))
      (omega (arith, ap size_of joins, both, is_base.adds_up.size, change_fits))

  pub sum_after : (r : Kept) → r ≡ both_kept total change → values r ≡ sum_at base.ship (aboard_first base) sequence.ops k
  sum_after r joins = sum_to_line r joins ∙ sum_here (case_on base.ship base.arrival sequence) is_ready k

  pub bounded_after : (r : Kept) → r ≡ both_kept total change → IsBounded (values r)
  bounded_after r joins = subst IsBounded (sym (sum_after r joins)) (is_ready.bounded k)

-- where chunks begin
pub starts_within : (n : ℕ) (ends : List ℕ) → Divides ends (n + 1) → (c : ℕ) → c < length ends → start_of ends c ≤ n
starts_within n ends d c low =
    let rises = d.rising c low in
    let end = start_within ends (n + 1) (suc c) d low in
    omega (arith, rises, end)

-- there are as many sums as the list has whole fours of steps
module _ (base : GroundRecord) (sequence : SequenceRecord) (tree : Counted Kept) (summed : IsSummed base sequence tree) where
  pub as_many_fours : length tree.values ≡ length sequence.ops / 4
  as_many_fours =
      ap (λ l. length l) summed.changes ∙ length-fours (changes_on base sequence.ops)
      ∙ ap (λ n. n / 4) (length-map (steps_on base sequence.ops) (change_of base.ship.ship.frames) ∙ as_many base.ship (aboard_first base) sequence.ops)

  -- of the changes that the kept steps make
  pub are_kept : tree.values ≡ fours (map (change_of base.ship.ship.frames) sequence.steps)
  are_kept = summed.changes ∙ ap (λ steps. fours (map (change_of base.ship.ship.frames) steps)) (sym summed.steps)

  pub as_many_steps : length sequence.steps ≡ length sequence.ops
  as_many_steps = ap (λ l. length l) summed.steps ∙ as_many base.ship (aboard_first base) sequence.ops

  pub are_of_four : AreOfFour tree.values
  are_of_four = subst AreOfFour (sym summed.changes) (of_four (changes_on base sequence.ops) (small base.ship.ship.frames (steps_on base sequence.ops)))

  -- the sums at the first lines of chunks
  module _ (total : Kept) (is_base : IsGround base.ship base.arrival total) (kept : AreKept sequence.ops sequence.steps) (ends : List ℕ) (d : Divides ends (length sequence.ops + 1))
      (changes : List Kept) (count : length changes ≡ length ends)
      (each : (c : ℕ) (e : Kept) → c < length ends → get_or changes c e ≡ prefix none_kept both_kept (map (change_of base.ship.ship.frames) sequence.steps) (start_of ends c)) where
    within : (c : ℕ) → c < length ends → start_of ends c ≤ length sequence.ops
    within = starts_within (length sequence.ops) ends d

    pub changes_fit : (c : ℕ) (e : Kept) → c < length changes → size_of (get_or changes c e) ≤ 2 ^ 18
    changes_fit c e low =
        let inside : c < length ends = omega (arith, low, count) in
        let fits = change_fits base sequence tree total is_base summed kept (start_of ends c) (within c inside) (get_or changes c e) (each c e inside) in
        omega (arith, fits, within c inside, kept.few)

    pub first_sums : (sums : List Kept) → sums ≡ map (both_kept total) changes → AreFirstSums base.ship.ship.frames base.arrival.bodies sequence.steps ends sums
    first_sums sums is =
        let at : (c : ℕ) (e : Kept) → c < length ends → get_or sums c e ≡ both_kept total (get_or changes c none_kept) = λ c e low.
        ap (λ l. get_or l c e) is ∙ get_or-map (both_kept total) changes c none_kept e (omega (arith, count, low)) in
        record {
          count = ap (λ l. length l) is ∙ length-map changes (both_kept total) ∙ count;
          sum = λ c e low. sum_to_line base sequence tree total is_base summed kept (start_of ends c) (within c low) (get_or changes c none_kept) (each c none_kept low) (get_or sums c e) (at c e low);
          size = λ c e low. room_after base sequence tree total is_base summed kept (start_of ends c) (within c low) (get_or changes c none_kept) (each c none_kept low) (get_or sums c e) (at c e low);
        }

-- what a session reports is what a run reports
pub reports : (base : GroundRecord) (sequence : SequenceRecord) → report_on base sequence.ops ≡ outcome_in (case_on base.ship base.arrival sequence)
unfolding report_on
reports base sequence = refl

-- how many lines it has
pub lines_on : (base : GroundRecord) (ops : List Op) → length ops + 1 ≡ (report_on base ops).summary.lines
unfolding report_on
lines_on base ops = many_lines (case_on base.ship base.arrival (record { ops = ops; steps = [] }))
