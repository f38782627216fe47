-- The words of an action: each has one spelling, and options may come in any order.
use Rattle.sl_area.specs.AreaSizes.{IsGeometry, Sizes, geometries, layout_of}
use Rattle.sl_cli.specs.Actions.{Given, action_in}
use Rattle.sl_cli.specs.OptionValues.{is_stretch_size, is_stretch_start}
use Rattle.sl_cli.specs.CommandWords.{Use, given_by, is_given, is_plain, nothing_taken, options, said_in, uses_from}
use Rattle.sl_cli.specs.declared.command_words.Words.TheVariants.{Direct, Generate, Label, Live, Own, Schedule}
use Rattle.sl_cli.specs.declared.command_words.Words.{Words}
use Rattle.sl_direct.specs.Actions.{IsAction}
use Rattle.sl_direct.specs.declared.action.Action.TheVariants.{Dump, InitLabelled, InitLockspace, InitResource, ReadLeader, Upgrade}
use Rattle.sl_direct.specs.declared.action.Action.{Action}
use Rattle.sl_area.specs.AreaLayout.{is_base}
use Rattle.sl_text.specs.Forms.{coloned}
use Rattle.sl_text.specs.Names.{is_name, is_path}
use Rattle.sl_trace.specs.CommandForms.{IsResourceArg, lockspace_word, moded_word}
use Rattle.sl_trace.specs.declared.command.LockspaceArg.{LockspaceArg}
use Rattle.sl_words.specs.Words.{choose}
use Rattle.std.specs.List.{list_all, list_any}
use Rattle.std.specs.Prelude.{Bool, IsTrue, List, None, Option, Some, bytes_eq, codes, decimal, false, find, flat_map, if◌then◌else◌, is_some, not, option_map, true, [], ℕ, ◌&&◌, ◌++◌, ◌/◌, ◌==◌, ◌||◌, ◌≡◌, ◌≤◌, ◌∷◌, ◌↔◌}

-- ---- what may be asked for

-- A lockspace that may be made.
pub record IsNewLockspace (g : Sizes) (l : LockspaceArg) : Type 0 where
  pub named : IsTrue (is_name l.name)
  -- no host of it is meant
  pub no_host : l.id ≡ 0
  pub disk : IsTrue (is_path l.path)
  pub base : IsTrue (is_base (layout_of g) l.offset)

-- A stretch of sectors of so many bytes that may be told.
pub record IsStretchArg (sector : ℕ) (path : List ℕ) (offset size : ℕ) : Type 0 where
  pub disk : IsTrue (is_path path)
  pub start : IsTrue (is_stretch_start sector offset)
  pub long : IsTrue (is_stretch_size sector size)

-- A row of the table of sizes: areas for the most hosts, without pairs.
abbrev pub IsRow : Sizes → Type 0
IsRow g = IsTrue (list_any (λ row. row.0 == g.sector && row.1 == g.area && row.2 == g.hosts) geometries) × (g.paired ≡ false)

-- An action that may be asked for by options in any order. A look has no hosts of its own; only a new resource may have pairs, and an upgraded one has some. A
-- lockspace with a label is asked for by words of their own.
abbrev pub IsAsked : Action → Type 0
IsAsked (InitLockspace l g) = IsNewLockspace g l × IsGeometry g × (g.paired ≡ false)
IsAsked (InitLabelled l g t grace) = ⊥
IsAsked (InitResource r g) = IsResourceArg (layout_of g) r × IsGeometry g
IsAsked (Upgrade r g) = IsResourceArg (layout_of g) r × IsGeometry g × (g.paired ≡ true)
IsAsked (ReadLeader r g) = IsResourceArg (layout_of g) r × IsRow g
IsAsked (Dump path offset size g) = IsStretchArg g.sector path offset size × IsRow g

-- Words that say what can be done.
abbrev pub CanBeDone : Words → Type 0
CanBeDone (Direct a) = IsAction a
CanBeDone (Generate seed hosts events paired) = (1 ≤ hosts) × (hosts ≤ 16) × (events ≤ 1000000)
CanBeDone (Schedule seed hosts events paired) = (1 ≤ hosts) × (hosts ≤ 16) × (events ≤ 1000000)
CanBeDone (Label l g t grace) = IsAction (InitLabelled l g t grace)
CanBeDone (Own folder machine watchdog syncs keeps events) = 1 ≤ machine
CanBeDone w = Unit {0}

-- ---- its words

-- The word of a stretch.
abbrev pub stretch_word : List ℕ → ℕ → ℕ → List ℕ
stretch_word path offset size = coloned (path ∷ decimal offset ∷ decimal size ∷ [])

-- The word of sizes: the bytes of a sector, and the mebibytes of an area.
abbrev pub sizes_word : Sizes → List ℕ
sizes_word g = coloned (decimal g.sector ∷ decimal (g.area / 1048576) ∷ [])

-- It says these sizes: no word does so of sectors of 512 bytes in areas of one mebibyte.
abbrev pub SaysSizes : Option (List ℕ) → Sizes → Type 0
SaysSizes None g = (g.sector ≡ 512) × (g.area ≡ 1048576)
SaysSizes (Some w) g = w ≡ sizes_word g

-- The sizes of an action's area.
abbrev pub sizes_in : Action → Sizes
sizes_in (InitLockspace l g) = g
sizes_in (InitLabelled l g t grace) = g
sizes_in (InitResource r g) = g
sizes_in (ReadLeader r g) = g
sizes_in (Upgrade r g) = g
sizes_in (Dump path offset size g) = g

-- The word of the format of a new resource: 2 with pairs, none without.
abbrev pub format_word : Bool → Option (List ℕ)
format_word paired = choose paired (codes "2")

-- All that is given for an action, where this says its sizes.
abbrev pub given_for : Option (List ℕ) → Action → Given
given_for says (InitLockspace l g) = record {
  action = Some (codes "init");
  lockspace = Some (lockspace_word l);
  resource = None;
  hosts = Some (decimal g.hosts);
  stretch = None;
  geometry = says;
  format = None;
}
given_for says (InitLabelled l g t grace) = record {
  action = None;
  lockspace = None;
  resource = None;
  hosts = None;
  stretch = None;
  geometry = says;
  format = None;
}
given_for says (InitResource r g) = record {
  action = Some (codes "init");
  lockspace = None;
  resource = Some (moded_word r false);
  hosts = Some (decimal g.hosts);
  stretch = None;
  geometry = says;
  format = format_word g.paired;
}
given_for says (ReadLeader r g) = record {
  action = Some (codes "read_leader");
  lockspace = None;
  resource = Some (moded_word r false);
  hosts = None;
  stretch = None;
  geometry = says;
  format = None;
}
given_for says (Upgrade r g) = record {
  action = Some (codes "upgrade");
  lockspace = None;
  resource = Some (moded_word r false);
  hosts = Some (decimal g.hosts);
  stretch = None;
  geometry = says;
  format = None;
}
given_for says (Dump path offset size g) = record {
  action = Some (codes "dump");
  lockspace = None;
  resource = None;
  hosts = None;
  stretch = Some (stretch_word path offset size);
  geometry = says;
  format = None;
}

-- The words of the action were given, and no others.
abbrev pub IsGivenFor : Action → Given → Type 0
IsGivenFor a g = SaysSizes g.geometry (sizes_in a) × (g ≡ given_for g.geometry a)

-- What was given asks for an action exactly where the action may be asked for and its words were given.
abbrev pub ActionsHaveOneText : Type 0
ActionsHaveOneText = (g : Given) (a : Action) → (action_in g ≡ Some a) ↔ (IsAsked a × IsGivenFor a g)

-- ---- in any order

-- The letter of the option that gives this.
abbrev pub letter_named : List ℕ → Option ℕ
letter_named name = option_map (λ o. o.0) (find (λ o. bytes_eq o.1 name) options)

-- The words of an option with its value: two, or one where the value itself looks like an option.
abbrev pub option_words : ℕ → List ℕ → List (List ℕ)
option_words letter value = if is_plain value then (45 ∷ letter ∷ []) ∷ value ∷ [] else (45 ∷ letter ∷ 61 ∷ value) ∷ []

-- The words of what was given: the action, or an option with its value.
abbrev pub use_words : Use → List (List ℕ)
use_words u = elim (letter_named u.name) [ Some letter ↦ option_words letter u.value | None ↦ u.value ∷ [] ]

-- All words, in this order.
abbrev pub spelled : List Use → List (List ℕ)
spelled us = flat_map use_words us

-- It is the action, and looks like one, or an option.
abbrev pub is_use : Use → Bool
is_use u = is_some (letter_named u.name) || (bytes_eq u.name (codes "action") && is_plain u.value)

-- None is given twice, nor is one of those before.
abbrev pub are_apart : List Use → List Use → Bool
are_apart before [] = true
are_apart before (u ∷ us) = not (is_given u.name before) && are_apart (before ++ u ∷ []) us

-- They may be given together.
abbrev pub AreUses : List Use → Type 0
AreUses us = IsTrue (list_all is_use us) × IsTrue (are_apart [] us)

-- Words that give what an action needs, in whatever order, ask for the action.
abbrev pub OptionsComeInAnyOrder : Type 0
OptionsComeInAnyOrder = (us : List Use) (a : Action) → AreUses us → IsGivenFor a (given_by us) → IsAsked a
    → said_in (codes "direct" ∷ spelled us) ≡ Some (Direct a)

-- The words behind `direct` give what the action needs, and no more.
pub record AsksFor (a : Action) (ws : List (List ℕ)) : Type 0 where
  pub uses : List Use
  pub read : uses_from nothing_taken ws ≡ Some uses
  pub given : IsGivenFor a (given_by uses)

-- Words that ask for an action begin with `direct`, and give what it needs.
abbrev pub OnlyItsWordsAskForAnAction : Type 0
OnlyItsWordsAskForAnAction = (ws : List (List ℕ)) (a : Action) → said_in ws ≡ Some (Direct a)
    → IsAsked a × (rest : List (List ℕ)) × (ws ≡ codes "direct" ∷ rest) × AsksFor a rest

-- ---- the flags of `live`

-- Their words.
abbrev pub flags : List (List ℕ)
flags = codes "--anew" ∷ codes "--keep-going" ∷ codes "--events" ∷ []

-- It is one of the words.
abbrev pub is_among : List ℕ → List (List ℕ) → Bool
is_among w ws = list_any (λ v. bytes_eq v w) ws

-- No word is among those before, nor stands twice.
abbrev pub are_single : List (List ℕ) → List (List ℕ) → Bool
are_single before [] = true
are_single before (w ∷ ws) = not (is_among w before) && are_single (before ++ w ∷ []) ws

-- Flags, each once.
abbrev pub AreFlags : List (List ℕ) → Type 0
AreFlags ws = IsTrue (list_all (λ w. is_among w flags) ws) × IsTrue (are_single [] ws)

-- What a folder and these flags ask for.
abbrev pub live_with : List ℕ → List (List ℕ) → Words
live_with folder ws = Live folder (is_among (codes "--anew") ws) (is_among (codes "--keep-going") ws) (is_among (codes "--events") ws)

-- Flags may stand before and behind the folder, any of them and in any order.
abbrev pub FlagsStandAnywhere : Type 0
FlagsStandAnywhere =
    (folder : List ℕ) (before behind : List (List ℕ)) → is_plain folder ≡ true → AreFlags (before ++ behind)
    → said_in (codes "live" ∷ before ++ folder ∷ behind) ≡ Some (live_with folder (before ++ behind))

-- A flag that stands twice before any `--` says nothing, whatever stands beside it.
abbrev pub FlagsStandOnce : Type 0
FlagsStandOnce =
    (flag : List ℕ) (before between behind : List (List ℕ)) → IsTrue (is_among flag flags) → is_among (codes "--") before ≡ false → is_among (codes "--") between ≡ false
    → said_in (codes "live" ∷ before ++ flag ∷ between ++ flag ∷ behind) ≡ None
