use Rattle.std.proofs.Common.{◌≡◌, ◌∙◌, ◌++◌, ◌∷◌, [], false, map, sym, ap, rules}
use Rattle.std.proofs.lemmas.List.{map-append}
use Rattle.std.specs.List.{list_any}
use Rattle.std.specs.Str.{bytes_eq}
use Rattle.indexmap.specs.IndexSet.{insert_key}
use Rattle.ship_tables.proofs.NameLemmas.{list_any-map}
use Rattle.ship_tables.proofs.reading.remember_name.Goals as goal

-- the name is none of those that are held, so it goes last
pub returns-clause-kept : goal.returns-clause-kept
returns-clause-kept c =
    let name : c.in_ok-name.name.items ≡ c.args.name.now = search rules in
    let absent : list_any (λ k. bytes_eq c.in_ok-name.name.items k.items) c.args.names.now.keys ≡ false =
    rw name (sym (list_any-map (λ v. v.items) (bytes_eq c.args.name.now) c.args.names.now.keys) ∙ c.requires) in
    let inserted : c.insert.new.self.keys ≡ insert_key (λ a b. bytes_eq a.items b.items) c.args.names.now.keys c.in_ok-name.name = search rules in
    let keys : c.insert.new.self.keys ≡ c.args.names.now.keys ++ c.in_ok-name.name ∷ [] = rw absent at inserted in
    rw keys (map-append (λ v. v.items) c.args.names.now.keys (c.in_ok-name.name ∷ []) ∙ ap (λ n. map (λ v. v.items) c.args.names.now.keys ++ n ∷ []) name)
