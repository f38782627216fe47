-- The parser takes the words of the command line that the reader takes, and finds in them what the reader finds.
use Rattle.clap.proofs.FaultLemmas.{stopped_fault}
use Rattle.clap.proofs.OnLiterals.{clap_on_literals}
use Rattle.clap.proofs.WalkLemmas.{walk_stopped}
use Rattle.clap.specs.Faults.{built_fault, fault_of, walk_fault}
use Rattle.clap.specs.Kinds.{Kinds}
use Rattle.clap.specs.Simple.{App, Shape, entered, label_of, names_of, rows_at, subcommand_of}
use Rattle.clap.specs.Walk.{Names, Row, Text, Walk, after_step, answers_to, idle, nothing_held, rows_after, stop_after, subcommand_met, subcommand_or_other, walk, walk_from, walked}
use Rattle.sl_cli.proofs.BareCommands.{bare_walk, dashes_walk, level, or_nothing}
use Rattle.sl_cli.proofs.BuiltCommand.{bare_command, direct, live, live_rules, no_faults, program, program_is, rules, seed_command, seed_rules}
use Rattle.sl_cli.proofs.DirectLaws.{Read, direct_level, direct_read, direct_rows, given_rows}
use Rattle.sl_cli.proofs.GenLaws.{for_seeds, for_spans, says, seed_read}
use Rattle.sl_cli.proofs.LiveLaws.{live_read}
use Rattle.sl_cli.proofs.ReaderSteps.{AreTexts}
use Rattle.sl_cli.proofs.ParserTurns.{Fails, fails_with, first_fails}
use Rattle.sl_cli.specs.Actions.{action_in}
use Rattle.sl_cli.specs.ParserShape.{command_line}
use Rattle.sl_cli.specs.CommandWords.{Use, command_in, ends_here, generated, given_by, nothing_taken, scheduled, uses_from}
use Rattle.sl_cli.specs.ParserMeets.{IsRefused, TakenAs, given_in, met_in, said_by}
use Rattle.sl_cli.specs.declared.parsed_command.Met.{Met}
use Rattle.sl_cli.specs.declared.command_words.Words.TheVariants.{Direct, Replay}
use Rattle.sl_cli.specs.declared.command_words.Words.{Words}
use Rattle.sl_words.specs.Words.{choose}
use Rattle.std.proofs.Common.{Bool, List, None, Option, Some, [], ap, false, inl, inr, map, refl, subst, sym, true, ◌≡◌, ◌∙◌, ◌∷◌, ◌⊎◌}
use Rattle.std.proofs.lemmas.Bool.{cases_Bool}
use Rattle.std.proofs.lemmas.Slice.Eq.{bytes_eq-Decides}
use Rattle.std.proofs.lemmas.Str.{IsUtf8-string_bytes}
use Rattle.std.specs.Global.{Global}
use Rattle.std.specs.List.{find, fold}
use Rattle.std.specs.Prelude.{String, bytes_eq, codes, option_and_then, option_map, string_bytes}

-- The names of the program's commands.
abbrev names : Names
names = names_of program

-- What fails in the words, and the command that they name.
abbrev fault : List Text → Kinds
fault ws = built_fault program nothing_held ws

abbrev named : List Text → Option (Text × List Row)
named ws = entered program (stop_after [] names ws)

-- The parser and the reader agree on the words.
abbrev Agrees : List Text → Type 0
Agrees ws = ((fault ws ≡ []) × (option_and_then said_by (met_in (named ws)) ≡ command_in ws)) ⊎ (Fails (fault ws) × (command_in ws ≡ None))

-- ---- a command that is named

-- Behind a command's name the parser stops, and its words are left to it.
stops : (name : Text) (ws : List Text) → subcommand_met names idle name ≡ Some name
    → walk [] names nothing_held (name ∷ ws) ≡ record (walk_from nothing_held) { stopped = Some (name, ws) }
unfolding clap_on_literals
stops name ws met =
    ap (λ o. fold (walked [] names) (named_step name o) ws) met ∙ sym (walk_stopped [] names (walk_from nothing_held) name [] ws)
  where
    named_step : Text → Option Text → Walk
    named_step name o =
        let met = subcommand_or_other [] o idle 1 name nothing_held in
        after_step [] name (walk_from nothing_held) met.0 met.1

fault_at : (name : Text) (s : Shape) (ws : List Text) → subcommand_met names idle name ≡ Some name → walk_fault program.top names (walk_from nothing_held) (name ∷ ws) ≡ []
    → find (λ s. answers_to name (label_of s)) program.subs ≡ Some s → fault (name ∷ ws) ≡ level s ws
fault_at name s ws met passes found = rw (passes, stops name ws met, found) (rw (no_faults [] [] refl) (or_nothing (level s ws)))

named_at : (name : Text) (s : Shape) (ws : List Text) → subcommand_met names idle name ≡ Some name
    → find (λ s. answers_to name (label_of s)) program.subs ≡ Some s → named (name ∷ ws) ≡ Some (s.name, rows_after s.rules [] ws)
named_at name s ws met found =
    ap (λ (w : Walk). entered program w.stopped) (stops name ws met) ∙ ap (λ o. option_map (λ s. rows_at s ws) o) found

-- ---- a command without arguments

-- A name of one, and what it says.
data Bare : Type 0 where
  replay : Bare

abbrev bare_name : Bare → Text
bare_name replay = codes "replay"

abbrev bare_words : Bare → Words
bare_words replay = Replay

abbrev bare : Bare → Shape
bare b = bare_command (bare_name b)

bare_fault : (b : Bare) (ws : List Text) → fault (bare_name b ∷ ws) ≡ level (bare b) ws
unfolding clap_on_literals
bare_fault replay ws = fault_at (codes "replay") (bare replay) ws refl (stopped_fault program.top names (walk_from nothing_held) (codes "replay", []) ws) refl

bare_says : (b : Bare) (ws : List Text) → option_and_then said_by (met_in (named (bare_name b ∷ ws))) ≡ Some (bare_words b)
bare_says replay ws = ap (λ o. option_and_then said_by (met_in o)) (named_at (codes "replay") (bare replay) ws refl refl)

bare_read : (b : Bare) (ws : List Text) → command_in (bare_name b ∷ ws) ≡ choose (ends_here ws) (bare_words b)
bare_read replay ws = refl

-- Its words end at once, or behind `--`.
bare_ends : (b : Bare) → level (bare b) [] ≡ []
unfolding clap_on_literals
bare_ends replay = refl

bare_ends_behind : (b : Bare) → level (bare b) (codes "--" ∷ []) ≡ []
unfolding clap_on_literals
bare_ends_behind replay = refl

bare_agrees_by : (b : Bare) (ws : List Text) → level (bare b) ws ≡ [] → ends_here ws ≡ true → Agrees (bare_name b ∷ ws)
bare_agrees_by b ws none ends = inl (bare_fault b ws ∙ none, bare_says b ws ∙ sym (bare_read b ws ∙ ap (λ t. choose t (bare_words b)) ends))

-- Any other word fails.
bare_refuses : (b : Bare) (ws : List Text) → Fails (walk_fault (bare b) [] (walk_from nothing_held) ws) → ends_here ws ≡ false → Agrees (bare_name b ∷ ws)
bare_refuses b ws h ends = inr (
  λ none. first_fails (walk_fault (bare b) [] (walk_from nothing_held) ws) _ h (sym (bare_fault b ws) ∙ none),
  bare_read b ws ∙ ap (λ t. choose t (bare_words b)) ends,
)

bare_word : (b : Bare) (w : Text) (t : Bool) → bytes_eq w (codes "--") ≡ t → Agrees (bare_name b ∷ w ∷ [])
bare_word b w true e =
    subst (λ w. Agrees (bare_name b ∷ w ∷ [])) (sym ((bytes_eq-Decides w (codes "--")).0 e)) (bare_agrees_by b (codes "--" ∷ []) (bare_ends_behind b) refl)
bare_word b w false e = bare_refuses b (w ∷ []) (bare_walk (bare b) [] w [] refl e) e

bare_more : (b : Bare) (w v : Text) (ws : List Text) (t : Bool) → bytes_eq w (codes "--") ≡ t → Agrees (bare_name b ∷ w ∷ v ∷ ws)
bare_more b w v ws true e = bare_refuses b (w ∷ v ∷ ws)
    (subst (λ w. Fails (walk_fault (bare b) [] (walk_from nothing_held) (w ∷ v ∷ ws))) (sym ((bytes_eq-Decides w (codes "--")).0 e)) (dashes_walk (bare b) [] v ws refl)) refl
bare_more b w v ws false e = bare_refuses b (w ∷ v ∷ ws) (bare_walk (bare b) [] w (v ∷ ws) refl e) refl

bare_agrees : (b : Bare) (ws : List Text) → Agrees (bare_name b ∷ ws)
bare_agrees b [] = bare_agrees_by b [] (bare_ends b) refl
bare_agrees b (w ∷ []) = bare_word b w (bytes_eq w (codes "--")) refl
bare_agrees b (w ∷ v ∷ ws) = bare_more b w v ws (bytes_eq w (codes "--")) refl

-- ---- `direct`

direct_fault : (ws : List Text) → fault (codes "direct" ∷ ws) ≡ level direct ws
unfolding clap_on_literals
direct_fault ws = fault_at (codes "direct") direct ws refl (stopped_fault program.top names (walk_from nothing_held) (codes "direct", []) ws) refl

direct_named : (ws : List Text) → named (codes "direct" ∷ ws) ≡ Some (codes "direct", rows_after rules [] ws)
direct_named ws = named_at (codes "direct") direct ws refl refl

direct_by : (ws : List Text) (o : Option (List Use)) → uses_from nothing_taken ws ≡ o → Read o (walk_from nothing_held) ws → Agrees (codes "direct" ∷ ws)
direct_by ws None e h = inr (
  λ none. h (sym (direct_fault ws ∙ direct_level ws) ∙ none),
  ap (λ o. option_and_then (λ uses. option_map (λ a. Direct a) (action_in (given_by uses))) o) e,
)
direct_by ws (Some us) e h = inl (
  direct_fault ws ∙ direct_level ws ∙ h.0,
  ap (λ o. option_and_then said_by (met_in o)) (direct_named ws)
      ∙ ap (λ rows. option_map (λ a. Direct a) (action_in (given_in rows))) (direct_rows ws us h.1)
      ∙ ap (λ g. option_map (λ a. Direct a) (action_in g)) (given_rows us)
      ∙ sym (ap (λ o. option_and_then (λ uses. option_map (λ a. Direct a) (action_in (given_by uses))) o) e),
)

direct_agrees : (ws : List Text) → AreTexts ws → Agrees (codes "direct" ∷ ws)
direct_agrees ws texts = direct_by ws (uses_from nothing_taken ws) refl (direct_read ws texts)

-- ---- `gen`

gen_fault : (ws : List Text) → fault (codes "gen" ∷ ws) ≡ level (seed_command (codes "gen")) ws
unfolding clap_on_literals
gen_fault ws = fault_at (codes "gen") (seed_command (codes "gen")) ws refl (stopped_fault program.top names (walk_from nothing_held) (codes "gen", []) ws) refl

gen_says : (ws : List Text) → option_and_then said_by (met_in (named (codes "gen" ∷ ws))) ≡ says (for_seeds generated) (rows_after seed_rules [] ws)
gen_says ws = ap (λ o. option_and_then said_by (met_in o)) (named_at (codes "gen") (seed_command (codes "gen")) ws refl refl)

gen_agrees : (ws : List Text) → AreTexts ws → Agrees (codes "gen" ∷ ws)
gen_agrees ws texts = elim (seed_read (for_seeds generated) (codes "gen") ws texts) [
  | inl both ↦ inl (gen_fault ws ∙ both.0, gen_says ws ∙ both.1)
  | inr neither ↦ inr (λ none. neither.0 (sym (gen_fault ws) ∙ none), neither.1)
]

-- ---- `schedule`

schedule_fault : (ws : List Text) → fault (codes "schedule" ∷ ws) ≡ level (seed_command (codes "schedule")) ws
unfolding clap_on_literals
schedule_fault ws =
    fault_at (codes "schedule") (seed_command (codes "schedule")) ws refl (stopped_fault program.top names (walk_from nothing_held) (codes "schedule", []) ws) refl

schedule_says : (ws : List Text) → option_and_then said_by (met_in (named (codes "schedule" ∷ ws))) ≡ says (for_seeds scheduled) (rows_after seed_rules [] ws)
schedule_says ws = ap (λ o. option_and_then said_by (met_in o)) (named_at (codes "schedule") (seed_command (codes "schedule")) ws refl refl)

schedule_agrees : (ws : List Text) → AreTexts ws → Agrees (codes "schedule" ∷ ws)
schedule_agrees ws texts = elim (seed_read (for_seeds scheduled) (codes "schedule") ws texts) [
  | inl both ↦ inl (schedule_fault ws ∙ both.0, schedule_says ws ∙ both.1)
  | inr neither ↦ inr (λ none. neither.0 (sym (schedule_fault ws) ∙ none), neither.1)
]

-- ---- `draw`

draw_fault : (ws : List Text) → fault (codes "draw" ∷ ws) ≡ level (seed_command (codes "draw")) ws
unfolding clap_on_literals
draw_fault ws = fault_at (codes "draw") (seed_command (codes "draw")) ws refl (stopped_fault program.top names (walk_from nothing_held) (codes "draw", []) ws) refl

draw_says : (ws : List Text) → option_and_then said_by (met_in (named (codes "draw" ∷ ws))) ≡ says for_spans (rows_after seed_rules [] ws)
draw_says ws = ap (λ o. option_and_then said_by (met_in o)) (named_at (codes "draw") (seed_command (codes "draw")) ws refl refl)

draw_agrees : (ws : List Text) → AreTexts ws → Agrees (codes "draw" ∷ ws)
draw_agrees ws texts = elim (seed_read for_spans (codes "draw") ws texts) [
  | inl both ↦ inl (draw_fault ws ∙ both.0, draw_says ws ∙ both.1)
  | inr neither ↦ inr (λ none. neither.0 (sym (draw_fault ws) ∙ none), neither.1)
]

-- ---- `live`

live_fault : (ws : List Text) → fault (codes "live" ∷ ws) ≡ level live ws
unfolding clap_on_literals
live_fault ws = fault_at (codes "live") live ws refl (stopped_fault program.top names (walk_from nothing_held) (codes "live", []) ws) refl

live_named : (ws : List Text) → named (codes "live" ∷ ws) ≡ Some (codes "live", rows_after live_rules [] ws)
live_named ws = named_at (codes "live") live ws refl refl

live_agrees : (ws : List Text) → AreTexts ws → Agrees (codes "live" ∷ ws)
live_agrees ws texts = elim (live_read ws texts) [
  | inl both ↦ inl (live_fault ws ∙ both.0, ap (λ o. option_and_then said_by (met_in o)) (live_named ws) ∙ both.1)
  | inr neither ↦ inr (λ none. neither.0 (sym (live_fault ws) ∙ none), neither.1)
]

-- ---- any other word

-- No word fails, for a command is wanted.
none_fails : Fails (fault [])
unfolding clap_on_literals
none_fails = fails_with _ _

dashes_fail : Fails (fault (codes "--" ∷ []))
unfolding clap_on_literals
dashes_fail = fails_with _ _

other_fails : (w : Text) (ws : List Text) (t : Bool) → subcommand_met names idle w ≡ None → bytes_eq w (codes "--") ≡ t → Fails (fault (w ∷ ws))
other_fails w ws false none e = first_fails (walk_fault program.top names (walk_from nothing_held) (w ∷ ws)) _ (bare_walk program.top names w ws none e)
other_fails w [] true none e = subst (λ w. Fails (fault (w ∷ []))) (sym ((bytes_eq-Decides w (codes "--")).0 e)) dashes_fail
other_fails w (v ∷ ws) true none e =
    subst (λ w. Fails (fault (w ∷ v ∷ ws))) (sym ((bytes_eq-Decides w (codes "--")).0 e))
    (first_fails (walk_fault program.top names (walk_from nothing_held) (codes "--" ∷ v ∷ ws)) _ (dashes_walk program.top names v ws refl))

-- It is none of the commands' names.
abbrev IsOther : Text → Type 0
IsOther w =
    (bytes_eq (codes "replay") w ≡ false) × (bytes_eq (codes "draw") w ≡ false) × (bytes_eq (codes "gen") w ≡ false)
    × (bytes_eq (codes "schedule") w ≡ false) × (bytes_eq (codes "direct") w ≡ false) × (bytes_eq (codes "live") w ≡ false)

other_agrees : (w : Text) (ws : List Text) → IsOther w → Agrees (w ∷ ws)
other_agrees w ws (no_replay, no_draw, no_gen, no_schedule, no_direct, no_live) =
    inr (
      other_fails w ws (bytes_eq w (codes "--")) (rw (no_replay, no_draw, no_gen, no_schedule, no_direct, no_live) refl) refl,
      rw (no_replay, no_draw, no_gen, no_schedule, no_direct, no_live) refl,
    )

-- ---- all words

-- They agree where the word is this name, else as is shown for other words.
named_or : (name w : Text) (ws : List Text) → Agrees (name ∷ ws) → (bytes_eq name w ≡ false → Agrees (w ∷ ws)) → Agrees (w ∷ ws)
named_or name w ws is other = elim (cases_Bool (bytes_eq name w)) [
  | inl e ↦ subst (λ w. Agrees (w ∷ ws)) ((bytes_eq-Decides name w).0 e) is
  | inr apart ↦ other apart
]

agrees : (ws : List Text) → AreTexts ws → Agrees ws
agrees [] texts = inr (none_fails, refl)
agrees (w ∷ ws) texts =
    named_or (codes "replay") w ws (bare_agrees replay ws) (λ no_replay.
    named_or (codes "draw") w ws (draw_agrees ws texts.1) (λ no_draw.
    named_or (codes "gen") w ws (gen_agrees ws texts.1) (λ no_gen.
    named_or (codes "schedule") w ws (schedule_agrees ws texts.1) (λ no_schedule.
    named_or (codes "direct") w ws (direct_agrees ws texts.1) (λ no_direct.
    named_or (codes "live") w ws (live_agrees ws texts.1) (λ no_live. other_agrees w ws (no_replay, no_draw, no_gen, no_schedule, no_direct, no_live)))))))

-- The same of the command as the parser is told it.
fault_is : (ws : List Text) → fault_of command_line ws ≡ fault ws
fault_is ws = ap (λ a. built_fault a nothing_held ws) program_is

named_is : (ws : List Text) → subcommand_of command_line ws ≡ named ws
named_is ws = ap (λ (a : App). entered a (stop_after a.top.rules (names_of a) ws)) program_is

-- What the parser takes says what the reader reads.
pub taken_says : (ws : List Text) (met : Option Met) → AreTexts ws → TakenAs ws met → option_and_then said_by met ≡ command_in ws
taken_says ws met texts is = elim (agrees ws texts) [
  | inl both ↦ ap (option_and_then said_by) (is.1 ∙ ap met_in (named_is ws)) ∙ both.1
  | inr neither ↦ absurd (neither.0 (sym (fault_is ws) ∙ is.0))
]

-- What the parser refuses says nothing.
pub refused_says : (ws : List Text) → AreTexts ws → IsRefused ws → command_in ws ≡ None
refused_says ws texts refused = elim (agrees ws texts) [
  | inl both ↦ absurd (refused (fault_is ws ∙ both.0))
  | inr neither ↦ neither.1
]

-- The words of a program are texts.
pub are_texts : (ws : List (String Global)) → AreTexts (map string_bytes ws)
are_texts [] = tt
are_texts (w ∷ ws) = (IsUtf8-string_bytes w, are_texts ws)
