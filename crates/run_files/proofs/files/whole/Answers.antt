use Rattle.std.proofs.Common.{◌≡◌, ◌<◌, ℕ, List, [], ◌++◌, take, IfSome, length, Option, None, Some, option_map, arith, ap, ◌∙◌}
use Rattle.std.proofs.lemmas.Grind.{common_steps}
use Rattle.run_files.proofs.files.whole.Goals as goal

all_taken : (xs : List ℕ) (n : ℕ) → length (take n xs) < n → take n xs ≡ xs
all_taken xs n h = grind (arith, common_steps)

-- what is read of the first n bytes is all, where fewer than n were there
under_limit : (known : Option (List ℕ)) (items start : List ℕ) (n : ℕ) → start ≡ [] → length items < n → IfSome (option_map (take n) known) (λ xs. items ≡ start ++ xs) → IfSome known (λ bytes. items ≡ bytes)
under_limit None items start n e h p = tt
under_limit (Some xs) items start n e h p =
    let q : items ≡ take n xs = p ∙ ap (λ l. l ++ take n xs) e in
    q ∙ all_taken xs n (rw q at h)

pub returns-in-Ok-clause-all : goal.returns-in-Ok-clause-all
returns-in-Ok-clause-all g c =
    let known = rw (c.take.ensures.inner, c.take.ensures.limit) at c.in-Ok.ensures.bytes in
    let few : length c.read_to_end.new.buf.items < 67_108_865 = omega (arith, c.read_to_end.new.buf.ok.0) in
    under_limit (g.F.Read.remaining c.args.file) c.read_to_end.new.buf.items c.new-bytes.result.items 67_108_865 c.new-bytes.ensures.items few known
