-- The last value that is there: a monoid in which the order of two values counts.
use Rattle.std.specs.Prelude.{◌≡◌, ℕ, ◌+◌, Option, Some, None, refl}
use Rattle.std.proofs.Common.{arith}
use Rattle.prefix_scan.specs.Laws.{MonoidLaws, most_parts}
use Rattle.prefix_scan.specs.declared.last_values.Last.{Last}

abbrev pub later : Option ℕ → Option ℕ → Option ℕ
later a None = a
later a (Some x) = Some x

abbrev pub joined : Last → Last → Last
joined a b = record { value = later a.value b.value; parts = a.parts + b.parts }

abbrev pub none_yet : Last
none_yet = record { value = None; parts = 0 }

later_none : (a : Option ℕ) → later None a ≡ a
later_none None = refl
later_none (Some x) = refl

later_assoc : (a b c : Option ℕ) → later (later a b) c ≡ later a (later b c)
later_assoc a b None = refl
later_assoc a b (Some x) = refl

same : (a b : Last) → a.value ≡ b.value → a.parts ≡ b.parts → a ≡ b
same a b p q = λ i. record { value = p i; parts = q i }

pub last_laws : MonoidLaws most_parts none_yet joined (λ x. x.parts)
last_laws = record {
  left_identity = λ x h. same (joined none_yet x) x (later_none x.value) (omega arith);
  right_identity = λ x h. same (joined x none_yet) x refl (omega arith);
  assoc = λ x y z h. same (joined (joined x y) z) (joined x (joined y z))
      (later_assoc x.value y.value z.value) (omega arith);
  empty_weight = refl;
  op_weight = λ x y h. refl;
}
