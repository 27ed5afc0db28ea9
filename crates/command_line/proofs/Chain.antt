-- What a command promises that is built up by a chain of arguments of distinct names.
use Rattle.std.proofs.Common.{◌≡◌, ◌∙◌, ◌++◌, ◌<◌, ◌&&◌, ◌||◌, codes, ℕ, zero, suc, Bool, true, false, not, List, [], ◌∷◌, map, length, Some, refl, sym, ap, subst, inl, inr, arith}
use Rattle.std.specs.Prelude.{◌⊎◌}
use Rattle.std.specs.List.{All, slice_index_or}
use Rattle.std.specs.Str.{bytes_eq}
use Rattle.std.proofs.lemmas.Bool.{true≢false}
use Rattle.std.proofs.lemmas.List.{append-nil, append_assoc}
use Rattle.std.proofs.lemmas.List.Elements.{All-cons, All-nil}
use Rattle.std.proofs.lemmas.Slice.Eq.{bytes_eq-Decides}
use Rattle.clap.specs.Facts.{args_of, groups_of}
use Rattle.clap.specs.Built.{AddsArg, AddsInTurn, FitsChain, HasDistinctIds, IsParsedFrom, IsPlain, IsPlainArg, KeepsList, SameRules, TakesValue}
use Rattle.clap.specs.Words.{Accepts, App, Rule, app_of, found_of, one_text, read_as, reading_of, rule_of, with_rule}
use Rattle.clap.specs.declared.builder.arg.Arg.{Arg}
use Rattle.clap.specs.declared.builder.command.Command.{Command}
use Rattle.clap.specs.declared.builder.command.Command.TheViews.{out-Command}
use Rattle.clap.specs.declared.builder.value_parser.ValueParser.{ValueParser}
use Rattle.clap.specs.declared.parser.matches.ArgMatches.{ArgMatches}
use Rattle.clap.proofs.CallerLemmas.{added_plain, required_in_chain}
use Rattle.command_line.proofs.OptionReads.{given_is_read}
use Rattle.command_line.specs.Chains.{AreArgumentsOf, IsArgumentOf, TakesRules}
use Rattle.command_line.specs.Promised.{HasWord, IsAccepted}
use Rattle.command_line.specs.Words.{with_rules}

-- whether a name is none of these, and whether no two names are one
abbrev pub is_new : List ℕ → List (List ℕ) → Bool
is_new name [] = true
is_new name (other ∷ others) = not (bytes_eq name other) && is_new name others

abbrev pub are_distinct : List (List ℕ) → Bool
are_distinct [] = true
are_distinct (name ∷ names) = is_new name names && are_distinct names

both : (a b : Bool) → (a && b) ≡ true → (a ≡ true) × (b ≡ true)
both true b h = (refl, h)
both false b h = cc

abbrev pub names_of : List Arg → List (List ℕ)
names_of xs = map (λ x. x.id.now) xs

new_at : (name : List ℕ) (xs : List Arg) → is_new name (names_of xs) ≡ true → (k : ℕ) (d : Arg) → k < length xs
    → bytes_eq name (slice_index_or xs k d).id.now ≡ true → ⊥
new_at name [] h k d lt same = absurd (omega arith)
new_at name (x ∷ xs) h zero d lt same =
    let bad : false ≡ true = rw same at (both (not (bytes_eq name x.id.now)) (is_new name (names_of xs)) h).0 in
    cc
new_at name (x ∷ xs) h (suc k) d lt same = new_at name xs (both (not (bytes_eq name x.id.now)) (is_new name (names_of xs)) h).1 k d (omega arith) same

turned : (a b : List ℕ) → bytes_eq a b ≡ true → bytes_eq b a ≡ true
turned a b h = (bytes_eq-Decides b a).1 (sym ((bytes_eq-Decides a b).0 h))

distinct_args : (xs : List Arg) → are_distinct (names_of xs) ≡ true → HasDistinctIds xs
distinct_args [] h j k d e low lt same = absurd (omega arith)
distinct_args (x ∷ xs) h zero zero d e low lt same = refl
distinct_args (x ∷ xs) h zero (suc k) d e low lt same = absurd (new_at x.id.now xs (both (is_new x.id.now (names_of xs)) (are_distinct (names_of xs)) h).0 k d (omega arith) same)
distinct_args (x ∷ xs) h (suc j) zero d e low lt same = absurd (new_at x.id.now xs (both (is_new x.id.now (names_of xs)) (are_distinct (names_of xs)) h).0 j e (omega arith) (turned (slice_index_or xs j e).id.now x.id.now same))
distinct_args (x ∷ xs) h (suc j) (suc k) d e low lt same = ap suc (distinct_args xs (both (is_new x.id.now (names_of xs)) (are_distinct (names_of xs)) h).1 j k d e (omega arith) (omega arith) same)

-- arguments of these names, no two of which are one
distinct : (xs : List Arg) (names : List (List ℕ)) → map (λ x. x.id.now) xs ≡ names → are_distinct names ≡ true → HasDistinctIds xs
distinct xs names same h = distinct_args xs (rw same h)

-- a name that is neither empty nor one of clap's own
fits : (a : Arg) (id : List ℕ) → a.id.now ≡ id → IsPlainArg a → a.global ≡ false → bytes_eq id [] ≡ false → bytes_eq id (codes "help") ≡ false
    → bytes_eq id (codes "version") ≡ false → FitsChain a
fits a id e plain one n1 n2 n3 = (
  plain,
  one,
  (λ h. let bad : true ≡ false = rw (sym e ∙ h) at n1 in absurd (true≢false bad)),
  (λ auto. elim auto [
    | inl h ↦ let bad : true ≡ false = rw (sym e ∙ h) at n2 in absurd (true≢false bad)
    | inr h ↦ let bad : true ≡ false = rw (sym e ∙ h) at n3 in absurd (true≢false bad)
  ]),
)

rest_fit : (x : Arg) (xs : List Arg) → All FitsChain (x ∷ xs) → All FitsChain xs
rest_fit x xs all = λ k d lt. all (suc k) d (omega arith)

kept_places : (x y : Arg) (xs ys : List Arg) → SameRules x y
    → ((k : ℕ) (e g : Arg) → k < length xs → SameRules (slice_index_or xs k e) (slice_index_or ys k g))
    → (k : ℕ) (e g : Arg) → k < length (x ∷ xs) → SameRules (slice_index_or (x ∷ xs) k e) (slice_index_or (y ∷ ys) k g)
kept_places x y xs ys first rest zero e g lt = first
kept_places x y xs ys first rest (suc k) e g lt = rest k e g (omega arith)

-- the arguments that a chain adds, place by place, and what stays of the command
chain_kept : (start command : Command) (xs : List Arg) → AddsInTurn AddsArg start xs command → All FitsChain xs → IsPlain start
    → (out-Command start).has_globals ≡ false
    → (ys : List Arg) × (args_of command ≡ args_of start ++ ys) × KeepsList xs ys × IsPlain command × ((out-Command command).has_globals ≡ false)
chain_kept start command [] chain all plain globals =
    ([], rw chain (sym (append-nil _)), (refl, (λ k e f lt. absurd (omega arith))), rw (← chain) plain, rw (← chain) globals)
chain_kept start command (x ∷ xs) chain all plain globals =
    let added = chain.1 in
    let fit = all 0 x (omega arith) in
    let more = chain_kept chain.0 command xs chain.2 (rest_fit x xs all) (added_plain start chain.0 x added plain fit.0)
    (added.globals ∙ (ap (λ b. b || x.global) globals ∙ ap (λ b. false || b) fit.1)) in (
      added.arg ∷ more.0,
      more.1 ∙ (ap (λ l. l ++ more.0) added.args ∙ append_assoc (args_of start) (added.arg ∷ []) more.0),
      (ap suc more.2.0, kept_places x added.arg xs more.0 added.rules more.2.1),
      more.3,
      more.4,
    )

-- an argument of a chain that has a parser and heeds the case of letters
accepted_in_chain : (start command : Command) (xs : List Arg) (k : ℕ) (d : Arg) (m : ArgMatches) → AddsInTurn AddsArg start xs command
    → args_of start ≡ [] → groups_of start ≡ [] → (out-Command start).has_globals ≡ false
    → All FitsChain xs → HasDistinctIds xs → k < length xs
    → (parser : ValueParser) → (slice_index_or xs k d).value_parser ≡ Some parser → (slice_index_or xs k d).ignore_case ≡ false
    → IsParsedFrom command m → IsAccepted m (slice_index_or xs k d).id.now parser
accepted_in_chain start command xs k d m chain args groups globals all apart lt parser is_parser exact p has =
    let f = chain_kept start command xs chain all (subst (All IsPlainArg) (sym args) (All-nil IsPlainArg), groups) globals in
    let list : args_of command ≡ f.0 = f.1 ∙ ap (λ l. l ++ f.0) args in
    let a = slice_index_or xs k d in
    let b = slice_index_or (args_of command) k d in
    let elem : b ≡ slice_index_or f.0 k d = ap (λ l. slice_index_or l k d) list in
    let rules = f.2.1 k d d lt in
    let fit = all k d lt in
    let long : length (args_of command) ≡ length xs = ap length list ∙ f.2.0 in
    let name : b.id.now ≡ a.id.now = ap (λ x. x.id.now) elem ∙ ap (λ x. x.now) rules.id in
    let unique : (j : ℕ) (e : Arg) → j < length (args_of command) → bytes_eq (slice_index_or (args_of command) j e).id.now b.id.now ≡ true → j ≡ k =
    λ j e low same.
    let there : (slice_index_or (args_of command) j e).id.now ≡ (slice_index_or xs j e).id.now =
    ap (λ l. (slice_index_or l j e).id.now) list ∙ ap (λ x. x.now) (f.2.1 j e e (omega arith)).id in
    apart j k d e (omega arith) lt (rw (← there, ← name) same) in
    let read = given_is_read command m p k d (omega arith) unique
    (λ empty. fit.2 (sym name ∙ empty))
    (λ auto. fit.3 (elim auto [ inl h ↦ inl (sym name ∙ h) | inr h ↦ inr (sym name ∙ h) ]))
    parser (ap (λ x. x.value_parser) elem ∙ rules.parser parser is_parser) f.3 f.4 (rw name has) in
    (read.0, subst (λ (w : List ℕ). one_text (found_of m) w ≡ Some (read_as (reading_of parser) read.0)) name read.1, subst (λ (c : Bool). Accepts c parser read.0) (ap (λ x. x.ignore_case) elem ∙ (rules.ignore_case ∙ exact)) read.2)

-- rules of names that are neither empty nor one of clap's own
abbrev pub is_own : List ℕ → Bool
is_own name = not (bytes_eq name []) && (not (bytes_eq name (codes "help")) && not (bytes_eq name (codes "version")))

abbrev pub are_own : List Rule → Bool
are_own [] = true
are_own (rule ∷ rules) = is_own rule.id && are_own rules

untrue : (b : Bool) → not b ≡ true → b ≡ false
untrue true h = cc
untrue false h = refl

names_are : (rules : List Rule) (xs : List Arg) → AreArgumentsOf rules xs → names_of xs ≡ map (λ (r : Rule). r.id) rules
names_are [] [] h = refl
names_are [] (x ∷ xs) h = absurd h
names_are (rule ∷ rules) [] h = absurd h
names_are (rule ∷ rules) (x ∷ xs) h = rw (ap (λ (r : Rule). r.id) h.0.same, names_are rules xs h.1) refl

all_fit : (rules : List Rule) (xs : List Arg) → are_own rules ≡ true → AreArgumentsOf rules xs → All FitsChain xs
all_fit [] [] own h = All-nil FitsChain
all_fit [] (x ∷ xs) own h = absurd h
all_fit (rule ∷ rules) [] own h = absurd h
all_fit (rule ∷ rules) (x ∷ xs) own h =
    let split = both (is_own rule.id) (are_own rules) own in
    let first = both (not (bytes_eq rule.id [])) (not (bytes_eq rule.id (codes "help")) && not (bytes_eq rule.id (codes "version"))) split.0 in
    let more = both (not (bytes_eq rule.id (codes "help"))) (not (bytes_eq rule.id (codes "version"))) first.1 in
    let fit = fits x rule.id (ap (λ (r : Rule). r.id) h.0.same) h.0.plain h.0.one (untrue _ first.0) (untrue _ more.0) (untrue _ more.1) in
    All-cons FitsChain x xs fit (all_fit rules xs split.1 h.1)

pub as_word : (rule : Rule) (x : Arg) → rule_of x ≡ rule → IsPlainArg x → x.global ≡ false → TakesValue x → IsArgumentOf rule x
as_word rule x same plain one value = record { same = same; plain = plain; one = one; value = λ required. value }

pub as_option : (rule : Rule) (x : Arg) → rule_of x ≡ rule → IsPlainArg x → x.global ≡ false → rule.required ≡ false → IsArgumentOf rule x
as_option rule x same plain one optional = record { same = same; plain = plain; one = one; value = λ required. absurd (true≢false (sym required ∙ optional)) }

-- a command that takes nothing yet
pub none_yet : (app : App) (command : Command) → app_of command ≡ app → args_of command ≡ [] → groups_of command ≡ [] → (out-Command command).has_globals ≡ false
    → (out-Command command).subcommand_negates_reqs ≡ false → TakesRules app [] command
none_yet app command is args groups local negates = record {
  start = command;
  arguments = [];
  is_bare = record { app_is = is; args = args; groups = groups; local = local; negates = negates };
  of_rules = tt;
  added = refl;
}

-- one argument more, the last
added_last : (old mid new : Command) (xs : List Arg) (x : Arg) → AddsInTurn AddsArg old xs mid → AddsArg mid x new → AddsInTurn AddsArg old (xs ++ x ∷ []) new
added_last old mid new [] x chain last = (new, subst (λ (c : Command). AddsArg c x new) (sym chain) last, refl)
added_last old mid new (y ∷ xs) x chain last = (chain.0, chain.1, added_last chain.0 mid new xs x chain.2 last)

arguments_more : (rules : List Rule) (xs : List Arg) (rule : Rule) (x : Arg) → AreArgumentsOf rules xs → IsArgumentOf rule x → AreArgumentsOf (rules ++ rule ∷ []) (xs ++ x ∷ [])
arguments_more [] [] rule x h one = (one, tt)
arguments_more [] (y ∷ xs) rule x h one = absurd h
arguments_more (r ∷ rules) [] rule x h one = absurd h
arguments_more (r ∷ rules) (y ∷ xs) rule x h one = (h.0, arguments_more rules xs rule x h.1 one)

pub one_more : (app : App) (rules : List Rule) (rule : Rule) (old new : Command) (x : Arg) → IsArgumentOf rule x → TakesRules app rules old → AddsArg old x new
    → TakesRules app (rules ++ rule ∷ []) new
one_more app rules rule old new x one t last = record {
  start = t.start;
  arguments = t.arguments ++ x ∷ [];
  is_bare = t.is_bare;
  of_rules = arguments_more rules t.arguments rule x t.of_rules one;
  added = added_last t.start old new t.arguments x t.added last;
}

-- what clap reads of a command that takes arguments of rules
rules_added : (start command : Command) (rules : List Rule) (xs : List Arg) → AddsInTurn AddsArg start xs command → AreArgumentsOf rules xs
    → app_of command ≡ with_rules (app_of start) rules
rules_added start command [] [] chain h = sym (ap app_of chain)
rules_added start command [] (x ∷ xs) chain h = absurd h
rules_added start command (rule ∷ rules) [] chain h = absurd h
rules_added start command (rule ∷ rules) (x ∷ xs) chain h =
    let first : app_of chain.0 ≡ with_rule (app_of start) rule = chain.1.shape h.0.one ∙ ap (λ (r : Rule). with_rule (app_of start) r) h.0.same in
    rules_added chain.0 command rules xs chain.2 h.1 ∙ ap (λ (a : App). with_rules a rules) first

pub app_of_rules : (app : App) (rules : List Rule) (command : Command) → TakesRules app rules command → app_of command ≡ with_rules app rules
app_of_rules app rules command t = rules_added t.start command rules t.arguments t.added t.of_rules ∙ ap (λ (a : App). with_rules a rules) t.is_bare.app_is

-- a rule that stands among rules has its argument
abbrev pub IsAmong : Rule → List Rule → Type 0
IsAmong rule [] = ⊥
IsAmong rule (first ∷ rules) = (first ≡ rule) ⊎ IsAmong rule rules

pub among_behind : (rule : Rule) (rules more : List Rule) → IsAmong rule more → IsAmong rule (rules ++ more)
among_behind rule [] more h = h
among_behind rule (first ∷ rules) more h = inr (among_behind rule rules more h)

place : (rule : Rule) (rules : List Rule) (xs : List Arg) → AreArgumentsOf rules xs → IsAmong rule rules
    → (k : ℕ) × (d : Arg) × (k < length xs) × IsArgumentOf rule (slice_index_or xs k d)
place rule [] xs h among = absurd among
place rule (first ∷ rules) [] h among = absurd h
place rule (first ∷ rules) (x ∷ xs) h among = elim among [
  | inl is ↦ (0, x, omega arith, subst (λ (r : Rule). IsArgumentOf r x) is h.0)
  | inr behind ↦
      let at = place rule rules xs h.1 behind in
      (suc at.0, at.1, omega (arith, at.2), at.3)
]

-- what a parse promises of the words of a command that takes arguments of rules
module _ (app : App) (rules : List Rule) (command : Command) (m : ArgMatches) (t : TakesRules app rules command) (own : are_own rules ≡ true)
    (apart : are_distinct (map (λ (r : Rule). r.id) rules) ≡ true) (p : IsParsedFrom command m) where
  fit : All FitsChain t.arguments
  fit = all_fit rules t.arguments own t.of_rules

  alone : HasDistinctIds t.arguments
  alone = distinct t.arguments (map (λ (r : Rule). r.id) rules) (names_are rules t.arguments t.of_rules) apart

  pub has_word : (rule : Rule) → IsAmong rule rules → rule.required ≡ true → HasWord m rule.id
  has_word rule among required =
      let at = place rule rules t.arguments t.of_rules among in
      let bare = t.is_bare in
      let has = required_in_chain t.start command t.arguments at.0 at.1 m t.added bare.args bare.groups bare.local bare.negates fit alone at.2 (at.3.value required) p in
      subst (λ (id : List ℕ). HasWord m id) (ap (λ (r : Rule). r.id) at.3.same) has

  pub has_number : (rule : Rule) (parser : ValueParser) → IsAmong rule rules → rule.parser ≡ Some parser → rule.ignore_case ≡ false → IsAccepted m rule.id parser
  has_number rule parser among is exact =
      let at = place rule rules t.arguments t.of_rules among in
      let bare = t.is_bare in
      let parser_is = ap (λ (r : Rule). r.parser) at.3.same ∙ is in
      let case_is = ap (λ (r : Rule). r.ignore_case) at.3.same ∙ exact in
      let read = accepted_in_chain t.start command t.arguments at.0 at.1 m t.added bare.args bare.groups bare.local fit alone at.2 parser parser_is case_is p in
      subst (λ (id : List ℕ). IsAccepted m id parser) (ap (λ (r : Rule). r.id) at.3.same) read
