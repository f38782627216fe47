-- The command as the parser builds it, and what it keeps of the words that are given.
use Rattle.clap.proofs.OnLiterals.{clap_on_literals}
use Rattle.clap.specs.Faults.{defaults_fault, given_default_fault}
use Rattle.clap.specs.Kinds.{Kinds, or_else}
use Rattle.clap.specs.Simple.{App, Shape, built, new_rule, new_shape}
use Rattle.clap.specs.Values.{reading_of}
use Rattle.clap.specs.Walk.{Row, Rule, Text, at_row, default_rows, first_of, has_row, is_empty, more_values, reading_by, used, with_default, with_values, without}
use Rattle.clap.specs.declared.builder.action.ArgAction.TheVariants.{Set, SetTrue}
use Rattle.clap.specs.declared.builder.value_parser.Reading.{Reading}
use Rattle.clap.specs.declared.builder.value_parser.ValueParser.TheVariants as vp
use Rattle.clap.specs.declared.parser.matches.ValueSource.TheVariants.{CommandLine}
use Rattle.sl_cli.specs.ParserShape.{command_line}
use Rattle.sl_cli.specs.CommandWords.{Use, is_given, use_of, value_of}
use Rattle.std.proofs.Common.{Bool, List, None, Option, Some, [], ap, cond, false, length, map, refl, sym, true, ℕ, ◌++◌, ◌||◌, ◌≡◌, ◌∙◌, ◌∷◌, append-nil, arith, suc}
use Rattle.std.proofs.lemmas.Bool.{eqb-true, or_parts, or_right}
use Rattle.std.proofs.lemmas.List.{map-append}
use Rattle.sl_words.proofs.WordLaws.{and_true}
use Rattle.std.specs.List.{find, fold, list_all}
use Rattle.std.specs.Prelude.{bytes_eq, codes, option_and_then, option_map, slice_get}

-- ---- the arguments

-- What may be given.
pub data Key : Type 0 where
  action : Key
  lockspace : Key
  resource : Key
  hosts : Key
  stretch : Key
  geometry : Key
  format : Key

-- Its name.
abbrev pub name_of : Key → Text
name_of action = codes "action"
name_of lockspace = codes "lockspace"
name_of resource = codes "resource"
name_of hosts = codes "hosts"
name_of stretch = codes "stretch"
name_of geometry = codes "geometry"
name_of format = codes "format"

-- An argument with one value, filled in.
abbrev pub rule_with : Text → Option ℕ → Option ℕ → Rule
rule_with id short index = record (new_rule id) {
  short = short;
  index = index;
  action = Some Set;
  range = Some (record { start_inclusive = 1; end_inclusive = 1 });
  parser = Some vp.String;
}

-- Its letter, if it is an option.
abbrev pub letter_of : Key → Option ℕ
letter_of action = None
letter_of lockspace = Some 115
letter_of resource = Some 114
letter_of hosts = Some 110
letter_of stretch = Some 100
letter_of geometry = Some 103
letter_of format = Some 118

-- Its place, if it is none.
abbrev pub place_of : Key → Option ℕ
place_of action = Some 1
place_of lockspace = None
place_of resource = None
place_of hosts = None
place_of stretch = None
place_of geometry = None
place_of format = None

-- Its argument.
abbrev pub rule_for : Key → Rule
rule_for k = rule_with (name_of k) (letter_of k) (place_of k)

-- All arguments of `direct`.
abbrev pub rules : List Rule
rules = rule_for action ∷ rule_for lockspace ∷ rule_for resource ∷ rule_for hosts ∷ rule_for stretch ∷ rule_for geometry ∷ rule_for format ∷ []

-- A command of the program, built.
abbrev pub built_shape : Text → List Rule → Shape
built_shape name rules = record (new_shape name) {
  rules = rules;
  no_binary_name = true;
  disable_help_flag = true;
  disable_help_subcommand = true;
  is_built = true;
}

abbrev pub direct : Shape
direct = built_shape (codes "direct") rules

-- A command without arguments.
abbrev pub bare_command : Text → Shape
bare_command name = built_shape name []

-- The words of a seed: each by its place.
abbrev pub seed_rules : List Rule
seed_rules =
    rule_with (codes "seed") None (Some 1) ∷ rule_with (codes "hosts") None (Some 2) ∷ rule_with (codes "events") None (Some 3)
    ∷ rule_with (codes "format") None (Some 4) ∷ []

-- A command with these words.
abbrev pub seed_command : Text → Shape
seed_command name = built_shape name seed_rules

-- A flag, filled in: where it isn't given it is false.
abbrev pub flag_with : Text → Rule
flag_with id = record (new_rule id) {
  long = Some id;
  action = Some SetTrue;
  range = Some (record { start_inclusive = 0; end_inclusive = 0 });
  defaults = codes "false" ∷ [];
  missing = codes "true" ∷ [];
  parser = Some vp.Bool;
}

-- The word of `live`, and its flags.
abbrev pub live_rules : List Rule
live_rules = rule_with (codes "folder") None (Some 1) ∷ flag_with (codes "anew") ∷ flag_with (codes "keep-going") ∷ flag_with (codes "events") ∷ []

abbrev pub live : Shape
live = built_shape (codes "live") live_rules

-- The program, built.
abbrev pub program : App
program = record {
  top = record (built_shape (codes "sanlock") []) { is_leaf = false; subcommand_required = true };
  subs = bare_command (codes "replay") ∷ seed_command (codes "draw") ∷ seed_command (codes "gen") ∷ seed_command (codes "schedule") ∷ direct ∷ live ∷ [];
}

pub program_is : built command_line ≡ program
unfolding clap_on_literals
program_is = refl

-- ---- rows

-- What the parser keeps of a word that was given.
abbrev pub row_for : Use → Row
row_for u = record { id = u.name; values = u.value ∷ []; count = None; source = Some CommandLine; reading = reading_of vp.String }

abbrev pub rows_for : List Use → List Row
rows_for us = map row_for us

pub has_row_for : (name : Text) (us : List Use) → has_row name (rows_for us) ≡ is_given name us
has_row_for name [] = refl
has_row_for name (u ∷ us) = ap (λ b. bytes_eq u.name name || b) (has_row_for name us)

-- Where no row has the name, a new one joins at the end.
pub new_row : (id : Text) (change : Row → List Row) (missing rows : List Row) → has_row id rows ≡ false → at_row id change missing rows ≡ rows ++ missing
new_row id change missing [] none = refl
new_row id change missing (r ∷ rs) none =
    let apart = or_parts (bytes_eq r.id id) (has_row id rs) none in
    ap (λ b. cond b (change r ++ rs) (r ∷ at_row id change missing rs)) apart.0 ∙ ap (λ (l : List Row). r ∷ l) (new_row id change missing rs apart.1)

-- The row of one use.
abbrev pub row_with : Text → Reading → List Text → Row
row_with id how vs = record { id = id; values = vs; count = None; source = Some CommandLine; reading = how }

-- The rows with a use of an argument that has none.
pub used_new : (id : Text) (how : Reading) (vs : List Text) (rows : List Row) → has_row id rows ≡ false
    → with_values id how CommandLine vs (without id rows) ≡ rows ++ row_with id how vs ∷ []
used_new id how vs rows none =
    let same : without id rows ≡ rows = new_row id (λ _. []) [] rows none ∙ append-nil rows in
    ap (with_values id how CommandLine vs) same ∙ new_row id (more_values CommandLine vs) (row_with id how vs ∷ []) rows none

-- The first use of an argument.
pub used_first : (k : Key) (v : Text) (us : List Use) → is_given (name_of k) us ≡ false
    → used (rule_for k) (v ∷ []) (rows_for us) ≡ rows_for (us ++ use_of (name_of k) v ∷ [])
used_first k v us none =
    used_new (name_of k) (reading_of vp.String) (v ∷ []) (rows_for us) (has_row_for (name_of k) us ∙ none) ∙ sym (map-append row_for us (use_of (name_of k) v ∷ []))

-- What was given by its name.
pub first_of-rows : (name : Text) (us : List Use) → first_of name (rows_for us) ≡ value_of name us
first_of-rows name [] = refl
first_of-rows name (u ∷ us) = go (bytes_eq u.name name) (first_of-rows name us)
  where
    go : (b : Bool) → first_of name (rows_for us) ≡ value_of name us
        → option_and_then (λ (r : Row). slice_get r.values 0) (cond b (Some (row_for u)) (find (λ r. bytes_eq r.id name) (rows_for us)))
        ≡ option_map (λ (x : Use). x.value) (cond b (Some u) (find (λ x. bytes_eq x.name name) us))
    go true e = refl
    go false e = e

-- ---- defaults: there are none

-- None fails.
pub no_faults : (rows : List Row) (rs : List Rule) → list_all (λ a. is_empty a.defaults) rs ≡ true → defaults_fault rows rs ≡ []
unfolding clap_on_literals
no_faults rows [] none = refl
no_faults rows (a ∷ rs) none =
    let parts = and_true _ _ none in
    ap (λ (ks : Kinds). or_else ks (defaults_fault (with_default rows a) rs)) (ap (λ b. cond b [] (given_default_fault a a.defaults)) (or_right (has_row a.id rows) _ parts.0))
    ∙ no_faults (with_default rows a) rs parts.1

-- A list that is empty.
nothing_in : {A : Type 0} (xs : List A) → is_empty xs ≡ true → xs ≡ []
nothing_in [] h = refl
nothing_in (x ∷ xs) h = let bad : suc (length xs) ≡ 0 = eqb-true _ _ h in absurd (omega arith)

same_by : (b : Bool) (rows : List Row) → cond b rows rows ≡ rows
same_by true rows = refl
same_by false rows = refl

-- An argument without defaults adds no row.
no_default : (a : Rule) (rows : List Row) → is_empty a.defaults ≡ true → with_default rows a ≡ rows
no_default a rows none =
    ap (λ vs. cond (has_row a.id rows) rows (default_rows a.id (reading_by a) vs rows)) (nothing_in a.defaults none) ∙ same_by (has_row a.id rows) rows

pub no_defaults : (rows : List Row) (rs : List Rule) → list_all (λ a. is_empty a.defaults) rs ≡ true → fold with_default rows rs ≡ rows
no_defaults rows [] none = refl
no_defaults rows (a ∷ rs) none =
    let parts = and_true _ _ none in
    ap (λ r. fold with_default r rs) (no_default a rows parts.0) ∙ no_defaults rows rs parts.1
