-- How the words of the command line are read, from the left.
use Rattle.sl_cli.specs.Actions.{Given, action_in}
use Rattle.sl_cli.specs.OwnWords.{is_own, own_in}
use Rattle.sl_cli.specs.TimesWords.{grace_of, is_times, timing_of}
use Rattle.sl_cli.specs.declared.command_words.Words.TheVariants.{Direct, Draw, Generate, Help, Label, Live, Replay, Schedule, Version}
use Rattle.sl_cli.specs.declared.command_words.Words.{Words}
use Rattle.sl_direct.specs.declared.action.Action.TheVariants.{InitLockspace}
use Rattle.sl_text.specs.Numbers.{is_number_that, number_of}
use Rattle.sl_words.specs.Words.{choose, is_empty}
use Rattle.std.specs.Int.{is_in_range}
use Rattle.std.specs.List.{list_any}
use Rattle.std.specs.Prelude.{Bool, List, None, Option, Some, bytes_eq, codes, drop, false, find, if◌then◌else◌, is_some, not, option_and_then, option_map, true, [], ℕ, ◌&&◌, ◌++◌, ◌-◌, ◌==◌, ◌^◌, ◌||◌, ◌∷◌}

-- ---- what is given to `direct`

-- The options, `-s`, `-r`, `-n`, `-d`, `-g` and `-v`: the letter of each, and what it gives.
abbrev pub options : List (ℕ × List ℕ)
options = (115, codes "lockspace") ∷ (114, codes "resource") ∷ (110, codes "hosts") ∷ (100, codes "stretch") ∷ (103, codes "geometry") ∷ (118, codes "format") ∷ []

-- What the option of this letter gives.
abbrev pub option_named : ℕ → Option (List ℕ)
option_named letter = option_map (λ o. o.1) (find (λ o. o.0 == letter) options)

-- A word that was given: what it is, and the word.
pub record Use : Type 0 where
  pub name : List ℕ
  pub value : List ℕ

-- How far the words are read.
pub record Taken : Type 0 where
  -- what was given
  pub uses : List Use
  -- the option whose value is the next word
  pub waiting : Option (List ℕ)
  -- whether `--` was met: behind it no word is an option
  pub only_action : Bool

-- Before all words.
abbrev pub nothing_taken : Taken
nothing_taken = record { uses = []; waiting = None; only_action = false }

-- Whether it was given.
abbrev pub is_given : List ℕ → List Use → Bool
is_given name uses = list_any (λ u. bytes_eq u.name name) uses

-- The use of a name with this value.
abbrev pub use_of : List ℕ → List ℕ → Use
use_of name value = record { name = name; value = value }

-- One more word is given; nothing is given twice.
abbrev pub with_use : Taken → List ℕ → List ℕ → Option Taken
with_use t name value =
    choose (not (is_given name t.uses)) (record { uses = t.uses ++ use_of name value ∷ []; waiting = None; only_action = t.only_action })

-- The word is no option: it doesn't begin with a hyphen (45), or is nothing else.
abbrev pub is_plain : List ℕ → Bool
is_plain [] = true
is_plain (c ∷ []) = true
is_plain (c ∷ d ∷ cs) = not (c == 45)

-- An option, with what stands behind its letter: nothing, or its value, which may stand behind a `=` (61).
abbrev pub with_option : Taken → List ℕ → List ℕ → Option Taken
with_option t name [] = Some (record t { waiting = Some name })
with_option t name (c ∷ cs) = with_use t name (if c == 61 then cs else c ∷ cs)

-- What stands behind a hyphen: one more, or an option's letter with what stands behind it.
abbrev pub behind_hyphen : Taken → List ℕ → Option Taken
behind_hyphen t [] = None
behind_hyphen t (c ∷ cs) =
    if c == 45 then choose (is_empty cs) (record t { only_action = true })
    else option_and_then (λ name. with_option t name cs) (option_named c)

-- A word where no option waits for its value.
abbrev pub with_word : Taken → List ℕ → Option Taken
with_word t w = if is_plain w then with_use t (codes "action") w else behind_hyphen t (drop 1 w)

-- A word where an option waits for its value.
abbrev pub with_value : Taken → List ℕ → List ℕ → Option Taken
with_value t name w = if is_plain w then with_use t name w else None

-- One more word.
abbrev pub next_taken : Taken → List ℕ → Option Taken
next_taken t w =
    if t.only_action then with_use t (codes "action") w
    else elim t.waiting [ Some name ↦ with_value t name w | None ↦ with_word t w ]

-- All that the words give.
abbrev pub uses_from : Taken → List (List ℕ) → Option (List Use)
uses_from t [] = choose (not (is_some t.waiting)) t.uses
uses_from t (w ∷ ws) = option_and_then (λ next. uses_from next ws) (next_taken t w)

-- The word that was given as this.
abbrev pub value_of : List ℕ → List Use → Option (List ℕ)
value_of name uses = option_map (λ u. u.value) (find (λ u. bytes_eq u.name name) uses)

-- What was given, each by its name.
abbrev pub given_by : List Use → Given
given_by uses = record {
  action = value_of (codes "action") uses;
  lockspace = value_of (codes "lockspace") uses;
  resource = value_of (codes "resource") uses;
  hosts = value_of (codes "hosts") uses;
  stretch = value_of (codes "stretch") uses;
  geometry = value_of (codes "geometry") uses;
  format = value_of (codes "format") uses;
}

-- ---- what is given to `gen` and to `schedule`

-- The word of a seed: below 2^64.
abbrev pub is_seed : List ℕ → Bool
is_seed w = is_number_that (is_in_range 0 (2 ^ 64 - 1)) w

-- .. of how many hosts there are.
abbrev pub is_machine_count : List ℕ → Bool
is_machine_count w = is_number_that (is_in_range 1 16) w

-- .. of how many events.
abbrev pub is_event_count : List ℕ → Bool
is_event_count w = is_number_that (is_in_range 0 1000000) w

-- .. of a format, where there is one: 2, where areas have pairs.
abbrev pub is_format : Option (List ℕ) → Bool
is_format None = true
is_format (Some w) = bytes_eq w (codes "2")

-- The words of all four, each where it was given.
pub record Seeding : Type 0 where
  pub seed : Option (List ℕ)
  pub hosts : Option (List ℕ)
  pub events : Option (List ℕ)
  pub format : Option (List ℕ)

-- A seed, how many hosts and events there are, and whether areas have pairs.
pub record Seed : Type 0 where
  pub number : ℕ
  pub hosts : ℕ
  pub events : ℕ
  pub paired : Bool

-- What they ask for.
abbrev pub seeding_in : Option (List ℕ) → Option (List ℕ) → Option (List ℕ) → Option (List ℕ) → Option Seed
seeding_in (Some s) (Some h) (Some e) f =
    choose (is_seed s && (is_machine_count h && (is_event_count e && is_format f)))
    (record { number = number_of s; hosts = number_of h; events = number_of e; paired = is_some f })
seeding_in s h e f = None

-- Three words, or a fourth for the format, and no more.
abbrev pub seeded_in : List (List ℕ) → Option Seed
seeded_in (s ∷ h ∷ e ∷ []) = seeding_in (Some s) (Some h) (Some e) None
seeded_in (s ∷ h ∷ e ∷ f ∷ []) = seeding_in (Some s) (Some h) (Some e) (Some f)
seeded_in ws = None

-- The words without the first `--`.
abbrev pub without_dashes : List (List ℕ) → List (List ℕ)
without_dashes [] = []
without_dashes (w ∷ ws) = if bytes_eq w (codes "--") then ws else w ∷ without_dashes ws

-- A seed whose report is made.
abbrev pub generated : Seed → Words
generated s = Generate s.number s.hosts s.events s.paired

-- A seed whose schedule is told.
abbrev pub scheduled : Seed → Words
scheduled s = Schedule s.number s.hosts s.events s.paired

-- What the words behind `gen` say.
abbrev pub gen_in : List (List ℕ) → Option Words
gen_in ws = option_map generated (seeded_in (without_dashes ws))

-- What those behind `schedule` say.
abbrev pub schedule_in : List (List ℕ) → Option Words
schedule_in ws = option_map scheduled (seeded_in (without_dashes ws))

-- ---- what is given to `draw`

-- The word of a line's number, not below this one.
abbrev pub is_line : ℕ → List ℕ → Bool
is_line least w = is_number_that (is_in_range least (2 ^ 64 - 1)) w

-- From one line to another that is not before it.
abbrev pub part_in : List ℕ → List ℕ → Option Words
part_in first last = choose (is_line 1 first && is_line (number_of first) last) (Draw (number_of first) (number_of last))

-- No words, for all lines, or two; the parser finds up to four.
abbrev pub span_in : Option (List ℕ) → Option (List ℕ) → Option (List ℕ) → Option (List ℕ) → Option Words
span_in None None None None = Some (Draw 1 (2 ^ 64 - 1))
span_in (Some first) (Some last) None None = part_in first last
span_in a b c d = None

abbrev pub spanned_in : List (List ℕ) → Option Words
spanned_in [] = span_in None None None None
spanned_in (a ∷ []) = span_in (Some a) None None None
spanned_in (a ∷ b ∷ []) = span_in (Some a) (Some b) None None
spanned_in (a ∷ b ∷ c ∷ []) = span_in (Some a) (Some b) (Some c) None
spanned_in (a ∷ b ∷ c ∷ d ∷ []) = span_in (Some a) (Some b) (Some c) (Some d)
spanned_in ws = None

-- What the words behind `draw` say.
abbrev pub draw_in : List (List ℕ) → Option Words
draw_in ws = spanned_in (without_dashes ws)

-- ---- what is given to `live`

-- The word of a folder, and the flags: whether its disks are made anew, whether the script goes on behind a refused line, and whether events are told.
pub record Placing : Type 0 where
  pub folder : Option (List ℕ)
  pub anew : Bool
  pub keeps : Bool
  pub events : Bool

-- Before all words.
abbrev pub nothing_placed : Placing
nothing_placed = record { folder = None; anew = false; keeps = false; events = false }

-- A word that is a folder; one is given.
abbrev pub with_folder : Placing → List ℕ → Option Placing
with_folder p w = choose (not (is_some p.folder)) (record p { folder = Some w })

-- A word that is a flag; each is given once.
abbrev pub with_flag : Placing → List ℕ → Option Placing
with_flag p w =
    if bytes_eq w (codes "--anew") then choose (not p.anew) (record p { anew = true })
    else if bytes_eq w (codes "--keep-going") then choose (not p.keeps) (record p { keeps = true })
    else if bytes_eq w (codes "--events") then choose (not p.events) (record p { events = true })
    else None

-- One more word, before any `--`.
abbrev pub next_placed : Placing → List ℕ → Option Placing
next_placed p w = if is_plain w then with_folder p w else with_flag p w

-- All that the words give, behind `--` or before it: behind it no word is a flag.
abbrev pub placed_from : Bool → Placing → List (List ℕ) → Option Placing
placed_from behind p [] = Some p
placed_from true p (w ∷ ws) = option_and_then (λ next. placed_from true next ws) (with_folder p w)
placed_from false p (w ∷ ws) =
    if bytes_eq w (codes "--") then placed_from true p ws
    else option_and_then (λ next. placed_from false next ws) (next_placed p w)

-- What they ask for, if a folder was given.
abbrev pub placed_in : Placing → Option Words
placed_in p = option_map (λ folder. Live folder p.anew p.keeps p.events) p.folder

-- What the words behind `live` say.
abbrev pub live_in : List (List ℕ) → Option Words
live_in ws = option_and_then placed_in (placed_from false nothing_placed ws)

-- ---- the whole line

-- The words are one of these two, alone.
abbrev pub is_only : List ℕ → List ℕ → List (List ℕ) → Bool
is_only long short [] = false
is_only long short (w ∷ []) = bytes_eq w long || bytes_eq w short
is_only long short (w ∷ v ∷ ws) = false

-- They ask what the program says of itself.
abbrev pub asks_of_program : List (List ℕ) → Bool
asks_of_program ws = is_only (codes "--help") (codes "-h") ws || is_only (codes "--version") (codes "-V") ws

-- Behind `replay` stands nothing, or `--`.
abbrev pub ends_here : List (List ℕ) → Bool
ends_here [] = true
ends_here (w ∷ []) = bytes_eq w (codes "--")
ends_here (w ∷ v ∷ ws) = false

-- What the words behind `direct` say.
abbrev pub direct_in : List (List ℕ) → Option Words
direct_in ws = option_and_then (λ uses. option_map (λ a. Direct a) (action_in (given_by uses))) (uses_from nothing_taken ws)

-- What the words of a command say.
abbrev pub command_in : List (List ℕ) → Option Words
command_in [] = None
command_in (w ∷ ws) =
    if bytes_eq (codes "replay") w then choose (ends_here ws) Replay
    else if bytes_eq (codes "draw") w then draw_in ws
    else if bytes_eq (codes "gen") w then gen_in ws
    else if bytes_eq (codes "schedule") w then schedule_in ws
    else if bytes_eq (codes "direct") w then direct_in ws
    else if bytes_eq (codes "live") w then live_in ws
    else None

-- The words are of this form: `direct init -t`, and then the times.
abbrev pub is_timed : List (List ℕ) → Bool
is_timed [] = false
is_timed (c ∷ []) = false
is_timed (c ∷ i ∷ []) = false
is_timed (c ∷ i ∷ d ∷ ws) = bytes_eq c (codes "direct") && (bytes_eq i (codes "init") && bytes_eq d (codes "-t"))

-- With a label of these times, if a lockspace is asked for.
abbrev pub labelled : List ℕ → Option Words → Option Words
labelled t (Some (Direct (InitLockspace l g))) = choose (is_times t) (Label l g (timing_of t) (grace_of t))
labelled t w = None

-- What words of this form say: what is left says that a lockspace is made.
abbrev pub timed_in : List (List ℕ) → Option Words
timed_in (c ∷ i ∷ d ∷ t ∷ ws) = labelled t (command_in (c ∷ i ∷ ws))
timed_in ws = None

-- What the words of the command line say.
abbrev pub said_in : List (List ℕ) → Option Words
said_in ws =
    if is_only (codes "--help") (codes "-h") ws then Some Help
    else if is_only (codes "--version") (codes "-V") ws then Some Version
    else if is_own ws then own_in ws
    else if is_timed ws then timed_in ws
    else command_in ws
