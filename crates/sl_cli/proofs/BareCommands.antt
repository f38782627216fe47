-- Commands without arguments: each word fails but a first `--`.
use Rattle.clap.proofs.OnLiterals.{clap_on_literals}
use Rattle.clap.specs.Faults.{flag_word_fault, flags_fault, level_fault, step_fault, stray_fault, turn_fault, walk_fault}
use Rattle.clap.specs.Kinds.{Kinds, or_else}
use Rattle.clap.specs.Lexer.{long_of, short_of}
use Rattle.clap.specs.Simple.{Shape}
use Rattle.clap.specs.Walk.{Held, Names, Outcome, Step, Text, after_flag, bundle_met, idle, long_or_other, nothing_held, plain, short_or_plain, subcommand_met, walk_from}
use Rattle.clap.specs.declared.error.kind.ErrorKind.TheVariants as kind
use Rattle.sl_cli.proofs.ParserTurns.{Fails, fails_with, first_fails}
use Rattle.std.proofs.Common.{Bool, List, None, Option, Some, [], cond, false, length, refl, suc, true, zero, ℕ, ◌≡◌, ◌∷◌}
use Rattle.std.specs.Prelude.{bytes_eq, slice_get}
use Rattle.std.specs.Str.{chars}

-- ---- one command

-- All that fails in a command's own words.
abbrev pub level : Shape → List Text → Kinds
level s ws = level_fault s [] nothing_held ws false []

pub or_nothing : (ks : Kinds) → or_else ks [] ≡ ks
or_nothing [] = refl
or_nothing (k ∷ ks) = refl

-- The word is read as no subcommand and not as `--`, so it fails.
stray_fails : (s : Shape) → Fails (stray_fault s)
stray_fails s = go s.is_leaf
  where
    go : (b : Bool) → Fails (cond b (kind.UnknownArgument ∷ []) (kind.UnknownArgument ∷ kind.InvalidSubcommand ∷ []))
    go true = fails_with _ _
    go false = fails_with _ _

-- A command without arguments.
abbrev bare : Shape → Shape
bare s = record s { rules = [] }

-- What fails at a word that begins with a hyphen or not.
abbrev bundle_turn : Shape → Text → ℕ → Text → Kinds
bundle_turn s word k flags =
    let met : Held × Outcome = bundle_met [] k flags 0 plain nothing_held in
    let step : Held × Step = after_flag [] idle word met.0 met.1 in
    or_else (flags_fault [] s.args_override_self k flags 0 nothing_held) (step_fault (bare s) 1 step.0 step.1)

bundle_char : (s : Shape) (word : Text) (k : ℕ) (flags : Text) (first : Option ℕ) → slice_get (chars flags) 0 ≡ first → Fails (bundle_turn s word (suc k) flags)
unfolding clap_on_literals
bundle_char s word k flags None e = rw e (stray_fails s)
bundle_char s word k flags (Some x) e = rw e (fails_with _ _)

bundle_fails : (s : Shape) (word : Text) (k : ℕ) (flags : Text) → Fails (bundle_turn s word k flags)
unfolding clap_on_literals
bundle_fails s word zero flags = stray_fails s
bundle_fails s word (suc k) flags = bundle_char s word k flags (slice_get (chars flags) 0) refl

short_fails : (s : Shape) (word : Text) (short : Option Text) → short_of word ≡ short
    → let step : Held × Step = short_or_plain [] idle word short nothing_held in
    Fails (or_else (flag_word_fault [] s.args_override_self None word nothing_held) (step_fault (bare s) 1 step.0 step.1))
short_fails s word None e = rw e (stray_fails s)
short_fails s word (Some flags) e = rw e (bundle_fails s word (length flags) flags)

long_fails : (s : Shape) (word : Text) (long : Option (Text × Option Text))
    → let step : Held × Step = long_or_other [] idle word long nothing_held in
    Fails (or_else (flag_word_fault [] s.args_override_self long word nothing_held) (step_fault (bare s) 1 step.0 step.1))
long_fails s word None = short_fails s word (short_of word) refl
long_fails s word (Some p) = fails_with _ _

bare_turn : (s : Shape) (names : Names) (word : Text) → subcommand_met names idle word ≡ None → bytes_eq word (45 ∷ 45 ∷ []) ≡ false
    → Fails (turn_fault (bare s) names (walk_from nothing_held) word)
bare_turn s names word none no_dashes = rw (none, no_dashes) (long_fails s word (long_of word))

-- A second word fails behind `--`, too.
bare_second : (s : Shape) (names : Names) (word : Text) → Fails (turn_fault (bare s) names (record (walk_from nothing_held) { is_trailing = true }) word)
bare_second s names word = stray_fails s

-- So a command's walk fails, unless its words end at once or behind `--`.
pub bare_walk : (s : Shape) (names : Names) (word : Text) (ws : List Text) → subcommand_met names idle word ≡ None → bytes_eq word (45 ∷ 45 ∷ []) ≡ false
    → Fails (walk_fault (bare s) names (walk_from nothing_held) (word ∷ ws))
unfolding clap_on_literals
bare_walk s names word ws none no_dashes = first_fails (turn_fault (bare s) names (walk_from nothing_held) word) _ (bare_turn s names word none no_dashes)

pub dashes_walk : (s : Shape) (names : Names) (word : Text) (ws : List Text) → subcommand_met names idle (45 ∷ 45 ∷ []) ≡ None
    → Fails (walk_fault (bare s) names (walk_from nothing_held) ((45 ∷ 45 ∷ []) ∷ word ∷ ws))
unfolding clap_on_literals
dashes_walk s names word ws none = rw none (first_fails (turn_fault (bare s) names (record (walk_from nothing_held) { is_trailing = true }) word) _ (bare_second s names word))
