-- The words of one machine in a process of its own: `live FOLDER --machine M`, and then options in any order.
use Rattle.sl_cli.specs.declared.command_words.Words.TheVariants.{Own}
use Rattle.sl_cli.specs.declared.command_words.Words.{Words}
use Rattle.sl_text.specs.Numbers.{is_number_that, number_of}
use Rattle.sl_words.specs.Words.{choose}
use Rattle.std.specs.Int.{is_in_range}
use Rattle.std.specs.Prelude.{Bool, List, None, Option, Some, bytes_eq, codes, false, if◌then◌else◌, is_some, not, option_and_then, option_map, true, [], ℕ, ◌&&◌, ◌==◌, ◌∷◌}

-- The words are of this form: the third behind `live` names the machine.
abbrev pub is_own : List (List ℕ) → Bool
is_own [] = false
is_own (c ∷ []) = false
is_own (c ∷ f ∷ []) = false
is_own (c ∷ f ∷ m ∷ ws) = bytes_eq c (codes "live") && bytes_eq m (codes "--machine")

-- What the options say so far, and whether the next word is the path of the watchdog device.
pub record Options : Type 0 where
  pub watchdog : Option (List ℕ)
  pub syncs : Bool
  pub keeps : Bool
  pub events : Bool
  pub waits : Bool

-- Before all of them.
abbrev pub no_options : Options
no_options = record { watchdog = None; syncs = true; keeps = false; events = false; waits = false }

-- A path of the system begins with a slash (47).
abbrev pub is_rooted : List ℕ → Bool
is_rooted [] = false
is_rooted (c ∷ cs) = c == 47

-- With the path of the watchdog device.
abbrev pub with_path : Options → List ℕ → Option Options
with_path o w = choose (is_rooted w) (record o { watchdog = Some w; waits = false })

-- With the option whose value it is; each option stands once.
abbrev pub with_watchdog : Options → Option Options
with_watchdog o = choose (not (is_some o.watchdog)) (record o { waits = true })

-- With a flag.
abbrev pub with_flag : Options → List ℕ → Option Options
with_flag o w =
    if bytes_eq w (codes "--no-sync") then choose o.syncs (record o { syncs = false })
    else if bytes_eq w (codes "--keep-going") then choose (not o.keeps) (record o { keeps = true })
    else if bytes_eq w (codes "--events") then choose (not o.events) (record o { events = true })
    else None

-- One more word.
abbrev pub with_word : Options → List ℕ → Option Options
with_word o w =
    if o.waits then with_path o w
    else if bytes_eq w (codes "--watchdog") then with_watchdog o
    else with_flag o w

-- What all of them say.
abbrev pub options_from : Options → List (List ℕ) → Option Options
options_from o [] = choose (not o.waits) o
options_from o (w ∷ ws) = option_and_then (λ next. options_from next ws) (with_word o w)

-- A folder's word is no option.
abbrev pub is_folder : List ℕ → Bool
is_folder [] = true
is_folder (c ∷ cs) = not (c == 45)

-- The word of a machine.
abbrev pub is_machine : List ℕ → Bool
is_machine w = is_number_that (is_in_range 1 16) w

-- What the words behind `--machine` say.
abbrev pub own_of : List ℕ → List ℕ → List (List ℕ) → Option Words
own_of folder m ws =
    option_map (λ o. Own folder (number_of m) o.watchdog o.syncs o.keeps o.events)
    (if is_folder folder && is_machine m then options_from no_options ws else None)

-- What words of this form say.
abbrev pub own_in : List (List ℕ) → Option Words
own_in (c ∷ f ∷ d ∷ m ∷ ws) = own_of f m ws
own_in ws = None
