-- Lines of a table, one behind another.
use Rattle.std.proofs.Common.{◌≡◌, ◌∙◌, ℕ, ◌+◌, List, [], ◌∷◌, ◌++◌, map, flat_map, Option, refl, sym, ap, subst, append_assoc, append-nil}
use Rattle.std.specs.List.{range_with_len}
use Rattle.std.specs.Option.{option_or}
use Rattle.criteria.specs.declared.criterion.Criterion.{Criterion}
use Rattle.seq_report.specs.Report.{Line, Statement, failure_of, first_of}
use Rattle.std.proofs.lemmas.Grind.{flat_map-append}
use Rattle.std.proofs.lemmas.List.{map-append}
use Rattle.seq_report.proofs.ChunkLemmas.{first-append, or_none, range_join}
use Rattle.view_table.specs.declared.forms.Form.{Form}
use Rattle.view_table.specs.Tables.{AreLines, HasLine, IsLine, IsPart}

module _ (form : Form) where
  lines_append : (xs ys : List Line) (t u : List ℕ) → AreLines form xs t → AreLines form ys u → AreLines form (xs ++ ys) (t ++ u)
  lines_append [] ys t u none more = subst (AreLines form ys) (ap (λ (l : List ℕ). l ++ u) (sym none)) more
  lines_append (x ∷ xs) ys t u are more =
      (are.0, are.1 ++ u, are.2, lines_append xs ys are.1 u are.3 more, ap (λ (l : List ℕ). l ++ u) are.4 ∙ append_assoc are.0 are.1 u)

  -- some lines behind others
  part_append : (xs ys : List Line) (t u : List ℕ) (f g : Option (ℕ × Criterion)) → IsPart form xs t f → IsPart form ys u g → IsPart form (xs ++ ys) (t ++ u) (option_or f g)
  part_append xs ys t u f g p q = record {
    lines_are = lines_append xs ys t u p.lines_are q.lines_are;
    first_is = (λ j. option_or (p.first_is j) (q.first_is j)) ∙ sym (first-append xs ys);
  }

  -- of all of them, and with the first that fails as the code finds it
  pub part_join : (xs ys all : List Line) (t u : List ℕ) (f g o : Option (ℕ × Criterion)) → xs ++ ys ≡ all → o ≡ option_or f g → IsPart form xs t f → IsPart form ys u g → IsPart form all (t ++ u) o
  part_join xs ys all t u f g o whole is p q =
      subst (λ (ls : List Line). IsPart form ls (t ++ u) o) whole
      (subst (λ (r : Option (ℕ × Criterion)). IsPart form (xs ++ ys) (t ++ u) r) (sym is) (part_append xs ys t u f g p q))

  -- a line behind others, by what the code says of it
  pub line_more : (xs all : List Line) (x : Line) (s : Statement) (t new : List ℕ) (f g o : Option (ℕ × Criterion)) → xs ++ x ∷ [] ≡ all → o ≡ option_or f g → s ≡ x.step → IsPart form xs t f
      → HasLine form s t new → g ≡ failure_of s → IsPart form all new o
  line_more xs all x s t new f g o whole first same p h told =
      let is : IsLine form x.step h.0 = subst (λ (r : Statement). IsLine form r h.0) same h.1 in
      let one : IsPart form (x ∷ []) h.0 g = record {
        lines_are = (h.0, [], is, refl, sym (append-nil h.0));
        first_is = told ∙ ap failure_of same ∙ sym (or_none (failure_of x.step));
      } in
      subst (λ (l : List ℕ). IsPart form all l o) (sym h.2) (part_join xs (x ∷ []) all t h.0 f g o whole first p one)

-- the lines of some chunks, and of those behind them
module _ (line : ℕ → Line) (chunk : ℕ → List ℕ) where
  pub chunks_join : (a n b m c : ℕ) → a + n ≡ b → n + m ≡ c
      → map line (flat_map chunk (range_with_len a n)) ++ map line (flat_map chunk (range_with_len b m)) ≡ map line (flat_map chunk (range_with_len a c))
  chunks_join a n b m c from sum =
      sym (map-append line (flat_map chunk (range_with_len a n)) (flat_map chunk (range_with_len b m)))
      ∙ ap (map line) (sym (flat_map-append chunk (range_with_len a n) (range_with_len b m)) ∙ ap (flat_map chunk) (range_join a n b m c from sum))

  -- of the next chunk
  pub chunk_more : (a n : ℕ) → map line (flat_map chunk (range_with_len a n)) ++ map line (chunk (a + n)) ≡ map line (flat_map chunk (range_with_len a (n + 1)))
  chunk_more a n =
      ap (λ (l : List ℕ). map line (flat_map chunk (range_with_len a n)) ++ map line l) (sym (append-nil (chunk (a + n))))
      ∙ chunks_join a n (a + n) 1 (n + 1) refl refl
