-- Lowest terms: the same of every fraction of one number, and that number itself.
use Rattle.std.proofs.Common.{◌≡◌, ◌∙◌, ℕ, zero, suc, ◌+◌, ◌-◌, ◌*◌, ◌/◌, ◌%◌, ◌<◌, ◌≤◌, ℤ, pos, negsuc, neg_ℤ, ◌*ℤ◌, ◌≤ℤ◌, ◌<ℤ◌, unsigned_abs, Bool, true, false, nat_eq, find, cond, Option, None, Some, unwrap_or, refl, sym, ap, subst, arith}
use Rattle.std.specs.Prelude.{int_lt, int_le}
use Rattle.std.specs.List.{range_with_len}
use Rattle.std.specs.Int.{int_div_euclid}
use Rattle.std.proofs.lemmas.Int.{by_lt_z, unsigned_abs-mul}
use Rattle.std.proofs.Math.Nat.{add-mul-div_right, div-eq_of_lt, mul-mod_left}
use borrow.Author.Differences.{true_is_lt, false_is_lt}
use Rattle.std.proofs.lemmas.Bool.Decides.{nat_tests}
use Rattle.units_core.proofs.Signed.{signed_arith, commutes, product_positive}
use Rattle.units_core.proofs.Ratios.{cancel, interchange}
use Rattle.units_core.proofs.Order.{cancel_order, times_order}
use Rattle.units_core.proofs.Decisions.{floor_same, same_test}
use Rattle.units_core.proofs.Ring.{diff_of, diff_same, differences}
use Rattle.units_core.specs.Ratio.{Ratio, ◌over◌, Is, floor_of}
use Rattle.worst_values.specs.Lowest.{least_divisor, lowest, over_divisor}

-- the least number from a on of which a test holds
pub record Least (p : ℕ → Bool) (o : Option ℕ) (a : ℕ) : Type 0 where
  pub at : ℕ
  pub is : o ≡ Some at
  pub from : a ≤ at
  pub holds : p at ≡ true
  pub first : (i : ℕ) → a ≤ i → i < at → p i ≡ false

-- of a and of what is behind it
earlier : (p : ℕ → Bool) (a m : ℕ) → p a ≡ false → ((i : ℕ) → a + 1 ≤ i → i < m → p i ≡ false) → (i : ℕ) → a ≤ i → i < m → p i ≡ false
earlier p a m here more i low high = by_eq (nat_eq i a) refl where
  by_eq : (b : Bool) → nat_eq i a ≡ b → p i ≡ false
  by_eq true e = let same : i ≡ a = grind (arith, nat_tests) in ap p same ∙ here
  by_eq false e = let apart : i ≡ a → ⊥ = grind (arith, nat_tests) in more i (omega arith) high

pub found : (p : ℕ → Bool) (n a k : ℕ) → a ≤ k → k < a + n → p k ≡ true → Least p (find p (range_with_len a n)) a
found p zero a k from below is = absurd (omega arith)
found p (suc n) a k from below is = by (found p n (a + 1) k) (p a) refl where
  by : (a + 1 ≤ k → k < a + 1 + n → p k ≡ true → Least p (find p (range_with_len (a + 1) n)) (a + 1)) → (b : Bool) → p a ≡ b → Least p (cond (p a) (Some a) (find p (range_with_len (a + 1) n))) a
  by more true e = record {
    at = a;
    is = ap (λ (b : Bool). cond b (Some a) (find p (range_with_len (a + 1) n))) e;
    from = omega arith;
    holds = e;
    first = λ i low high. absurd (omega arith);
  }
  by more false e =
      let apart : a ≡ k → ⊥ = λ s. (cc (ap p s, e, is)) in
      let rest = more (omega arith) (omega arith) is in
      record {
        at = rest.at;
        is = ap (λ (b : Bool). cond b (Some a) (find p (range_with_len (a + 1) n))) e ∙ rest.is;
        from = let low = rest.from in omega arith;
        holds = rest.holds;
        first = earlier p a rest.at e rest.first;
      }

-- n m / d is whole
abbrev fits : ℕ → ℕ → ℕ → Bool
fits n d m = nat_eq ((n * m) % d) 0

fits_zero : (n d m : ℕ) → fits n d m ≡ true → (n * m) % d ≡ 0
fits_zero n d m h = grind (arith, nat_tests)

zero_fits : (n d m : ℕ) → (n * m) % d ≡ 0 → fits n d m ≡ true
zero_fits n d m h = grind (arith, nat_tests)

times_rest : (q d : ℕ) → 0 < d → (q * d) % d ≡ 0
times_rest q d h = mul-mod_left q d

fits_itself : (n d : ℕ) → 0 < d → fits n d d ≡ true
fits_itself n d h = zero_fits n d d (times_rest n d h)

-- and then so of another fraction of the same number
fits_same : (n d t b m : ℕ) → 0 < d → 0 < b → n * b ≡ t * d → fits n d m ≡ true → fits t b m ≡ true
fits_same n d t b m h k same is =
    let rest = fits_zero n d m is in
    let q = (n * m) / d in
    let whole : n * m ≡ q * d = omega (arith, rest) in
    let one : (t * m) * d ≡ (t * d) * m = omega arith in
    let two : (t * d) * m ≡ (n * b) * m = ap (λ x. x * m) (sym same) in
    let three : (n * b) * m ≡ (n * m) * b = omega arith in
    let four : (n * m) * b ≡ (q * d) * b = ap (λ x. x * b) whole in
    let five : (q * d) * b ≡ (q * b) * d = omega arith in
    let equal : t * m ≡ q * b = ap unsigned_abs (cancel (pos (t * m)) (pos (q * b)) (pos d) (omega (arith, signed_arith)) (ap pos (one ∙ two ∙ three ∙ four ∙ five))) in
    zero_fits t b m (ap (λ x. x % b) equal ∙ times_rest q b k)

least_found : (n d : ℕ) → 0 < d → Least (fits n d) (find (fits n d) (range_with_len 1 d)) 1
least_found n d h = found (fits n d) d 1 d (omega arith) (omega arith) (fits_itself n d h)

-- what is known of the least divisor
pub record IsLeast (n d m : ℕ) : Type 0 where
  pub positive : 1 ≤ m
  pub holds : (n * m) % d ≡ 0
  pub first : (i : ℕ) → 1 ≤ i → i < m → fits n d i ≡ false

pub least_is : (n d : ℕ) → 0 < d → IsLeast n d (least_divisor n d)
unfolding least_divisor
least_is n d h =
    let l = least_found n d h in
    subst (IsLeast n d) (sym (ap (λ (o : Option ℕ). unwrap_or o 1) l.is)) (record { positive = l.from; holds = fits_zero n d l.at l.holds; first = l.first })

no_later : (n d t b x y : ℕ) → 0 < d → 0 < b → n * b ≡ t * d → IsLeast n d x → IsLeast t b y → x ≤ y
no_later n d t b x y h k same p q =
    let other : t * d ≡ n * b = sym same in
    let holds = fits_same t b n d y k h other (zero_fits t b y q.holds) in
    let early : y < x → ⊥ = λ less. (cc (p.first y q.positive less, holds)) in
    omega arith

pub same_divisor : (n d t b : ℕ) → 0 < d → 0 < b → n * b ≡ t * d → least_divisor n d ≡ least_divisor t b
same_divisor n d t b h k same =
    let p = least_is n d h in
    let q = least_is t b k in
    let one = no_later n d t b (least_divisor n d) (least_divisor t b) h k same p q in
    let two = no_later t b n d (least_divisor t b) (least_divisor n d) k h (sym same) q p in
    omega arith

-- every fraction of a number has the same lowest terms
pub same_lowest : (n d : ℤ) (r : Ratio) → Is n d r → lowest (n over d) ≡ lowest r
unfolding lowest
same_lowest n d r p =
    let h : 0 < unsigned_abs d = omega (arith, signed_arith, p.0) in
    let k : 0 < unsigned_abs r.bottom = omega (arith, signed_arith, p.1) in
    let size : unsigned_abs n * unsigned_abs r.bottom ≡ unsigned_abs r.top * unsigned_abs d = sym (unsigned_abs-mul n r.bottom) ∙ ap unsigned_abs p.2 ∙ unsigned_abs-mul r.top d in
    let divisor = same_divisor (unsigned_abs n) (unsigned_abs d) (unsigned_abs r.top) (unsigned_abs r.bottom) h k size in
    ap (λ m. over_divisor m (n over d)) divisor ∙ floors (least_divisor (unsigned_abs r.top) (unsigned_abs r.bottom)) where
      floors : (m : ℕ) → over_divisor m (n over d) ≡ over_divisor m r
      floors m =
          let moved : (n *ℤ pos m) *ℤ r.bottom ≡ (r.top *ℤ pos m) *ℤ d = move n (pos m) r.bottom ∙ ap (λ x. x *ℤ pos m) p.2 ∙ move r.top d (pos m) in
          ap (λ (q : ℤ). q over pos m) (floor_same (n *ℤ pos m) d ((r.top *ℤ pos m) over r.bottom) (p.0, p.1, moved)) where
            move : (a b c : ℤ) → (a *ℤ b) *ℤ c ≡ (a *ℤ c) *ℤ b
            move a b c = rw (diff_of a, diff_of b, diff_of c) (simp differences (diff_same _ _ _ _ (omega arith)))

-- a quotient without a rest
exact : (n : ℤ) (d : ℕ) → 0 < d → unsigned_abs n % d ≡ 0 → int_div_euclid n (pos d) *ℤ pos d ≡ n
exact (pos n) d h e = let q : n / d * d ≡ n = omega (arith, e) in ap pos q
exact (negsuc n) d h e = by (suc n / d) (omega (arith, e)) where
  by : (k : ℕ) → suc n ≡ k * d → int_div_euclid (negsuc n) (pos d) *ℤ pos d ≡ negsuc n
  by zero is = absurd (omega (arith, is))
  by (suc k) is =
      let less : d - 1 < d = omega arith in
      let behind : n ≡ d - 1 + k * d = omega (arith, is) in
      let part : n / d ≡ k = omega (arith, ap (λ x. x / d) behind, add-mul-div_right (d - 1) k h, div-eq_of_lt less) in
      let all : suc (n / d) * d ≡ suc n = ap (λ x. suc x * d) part ∙ sym is in
      ap (λ x. neg_ℤ (pos x)) all

-- and they are that number
pub lowest_is : (r : Ratio) → pos 1 ≤ℤ r.bottom → Is (lowest r).top (lowest r).bottom r
unfolding lowest
lowest_is r h = by r.top r.bottom h where
  by : (n d : ℤ) → pos 1 ≤ℤ d → Is (lowest (n over d)).top (lowest (n over d)).bottom (n over d)
  by n (pos d) h =
      let positive : 0 < d = omega (arith, signed_arith, h) in
      let m = least_divisor (unsigned_abs n) d in
      let l = least_is (unsigned_abs n) d positive in
      let size : unsigned_abs (n *ℤ pos m) % d ≡ 0 = ap (λ x. x % d) (unsigned_abs-mul n (pos m)) ∙ l.holds in
      let low = l.positive in
      (omega (arith, signed_arith, low), h, exact (n *ℤ pos m) d positive size)
  by n (negsuc d) h = absurd (omega (arith, signed_arith, h))

lt_same : (a b c d : ℤ) → (b ≤ℤ a → d ≤ℤ c) → (d ≤ℤ c → b ≤ℤ a) → int_lt a b ≡ int_lt c d
lt_same a b c d f g =
    by_lt_z a b
    (λ less. sym (true_is_lt a b (omega (arith, signed_arith, less))) ∙ true_is_lt c d (by_lt_z c d (λ l. omega (arith, signed_arith, l)) (λ le. absurd (omega (arith, signed_arith, less, g le)))))
    (λ le. sym (false_is_lt a b (omega (arith, signed_arith, le))) ∙ false_is_lt c d (omega (arith, signed_arith, f le)))

-- the order of two ratios is that of any fractions of them
pub below_same : (n d m e : ℤ) (r s : Ratio) → Is n d r → Is m e s → int_lt (n *ℤ e) (m *ℤ d) ≡ int_lt (r.top *ℤ s.bottom) (s.top *ℤ r.bottom)
below_same n d m e r s p q =
    let left : (n *ℤ e) *ℤ (r.bottom *ℤ s.bottom) ≡ (r.top *ℤ s.bottom) *ℤ (d *ℤ e) =
    interchange n e r.bottom s.bottom ∙ (λ j. p.2 j *ℤ commutes e s.bottom j) ∙ interchange r.top d s.bottom e in
    let right : (m *ℤ d) *ℤ (r.bottom *ℤ s.bottom) ≡ (s.top *ℤ r.bottom) *ℤ (d *ℤ e) =
    ap (λ x. (m *ℤ d) *ℤ x) (commutes r.bottom s.bottom) ∙ interchange m d s.bottom r.bottom ∙ (λ j. q.2 j *ℤ commutes d r.bottom j)
    ∙ interchange s.top e r.bottom d ∙ ap (λ x. (s.top *ℤ r.bottom) *ℤ x) (commutes e d) in
    let below = product_positive r.bottom s.bottom p.1 q.1 in
    let by = product_positive d e p.0 q.0 in
    let below_zero : pos 0 ≤ℤ (r.bottom *ℤ s.bottom) = omega (arith, signed_arith, below) in
    let by_zero : pos 0 ≤ℤ (d *ℤ e) = omega (arith, signed_arith, by) in
    lt_same (n *ℤ e) (m *ℤ d) (r.top *ℤ s.bottom) (s.top *ℤ r.bottom)
    (λ h. cancel_order (s.top *ℤ r.bottom) (r.top *ℤ s.bottom) (d *ℤ e) by (rw (left, right) at (times_order (m *ℤ d) (n *ℤ e) (r.bottom *ℤ s.bottom) below_zero h)))
    (λ h. cancel_order (m *ℤ d) (n *ℤ e) (r.bottom *ℤ s.bottom) below (rw (left, right) (times_order (s.top *ℤ r.bottom) (r.top *ℤ s.bottom) (d *ℤ e) by_zero h)))

divisor_positive : (n d : ℕ) → pos 1 ≤ℤ pos (least_divisor n d)
unfolding least_divisor
divisor_positive n zero = omega (arith, signed_arith)
divisor_positive n (suc d) = let l = least_is n (suc d) (omega arith) in let low = l.positive in omega (arith, signed_arith, low)

pub lowest_positive : (r : Ratio) → pos 1 ≤ℤ (lowest r).bottom
unfolding lowest
lowest_positive r = divisor_positive (unsigned_abs r.top) (unsigned_abs r.bottom)

-- the order of two ratios is that of their lowest terms, and of the lowest terms of these
pub below_twice : (a b : Ratio) → pos 1 ≤ℤ a.bottom → pos 1 ≤ℤ b.bottom
    → int_lt (a.top *ℤ b.bottom) (b.top *ℤ a.bottom) ≡ int_lt ((lowest (lowest a)).top *ℤ (lowest (lowest b)).bottom) ((lowest (lowest b)).top *ℤ (lowest (lowest a)).bottom)
below_twice a b h k =
    sym (once a b h k) ∙ sym (once (lowest a) (lowest b) (lowest_positive a) (lowest_positive b)) where
      once : (a b : Ratio) → pos 1 ≤ℤ a.bottom → pos 1 ≤ℤ b.bottom → int_lt ((lowest a).top *ℤ (lowest b).bottom) ((lowest b).top *ℤ (lowest a).bottom) ≡ int_lt (a.top *ℤ b.bottom) (b.top *ℤ a.bottom)
      once a b h k = below_same (lowest a).top (lowest a).bottom (lowest b).top (lowest b).bottom a b (lowest_is a h) (lowest_is b k)
