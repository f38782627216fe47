-- Words of a lockspace that is given a label.
use Rattle.sl_area.specs.AreaSizes.{Sizes}
use Rattle.sl_cli.specs.CommandWords.{command_in, labelled, timed_in}
use Rattle.sl_cli.specs.TimesWords.{grace_of, is_times, times_said, timing_of}
use Rattle.sl_cli.specs.declared.command_words.Words.TheVariants.{Direct, Label}
use Rattle.sl_cli.specs.declared.command_words.Words.{Words}
use Rattle.sl_cli.specs.declared.times.Times.{Times}
use Rattle.sl_direct.specs.declared.action.Action.TheVariants.{InitLockspace}
use Rattle.sl_direct.specs.declared.action.Action.{Action}
use Rattle.sl_trace.specs.declared.command.LockspaceArg.{LockspaceArg}
use Rattle.sl_words.specs.Words.{choose}
use Rattle.std.proofs.Common.{Bool, List, None, Option, Some, [], ap, arith, drop, false, get_or, length, map, refl, sym, take, true, ℕ, ◌-◌, ◌<◌, ◌≡◌, ◌≤◌, ◌∙◌, ◌∷◌}
use Rattle.std.proofs.lemmas.List.{take_all}
use Rattle.std.specs.Global.{Global}
use Rattle.std.specs.Prelude.{String, option_map, string_bytes}

-- ---- a label

module _ (t : List ℕ) (l : LockspaceArg) (g : Sizes) (a : Action) where
  abbrev label_with : Times → Words
  label_with x = Label l g x.timing x.grace

  label_chosen : (b : Bool) → option_map label_with (choose b (times_said t)) ≡ choose b (Label l g (timing_of t) (grace_of t))
  label_chosen true = refl
  label_chosen false = refl

  -- A lockspace that is asked for gets one where the word says times, and says nothing else.
  pub label_is : (o : Option Times) → a ≡ InitLockspace l g → o ≡ choose (is_times t) (times_said t) → option_map label_with o ≡ labelled t (Some (Direct a))
  label_is o is said = ap (option_map label_with) said ∙ label_chosen (is_times t) ∙ ap (λ b. labelled t (Some (Direct b))) (sym is)

-- ---- the words

-- Those behind the fourth.
abbrev pub behind : List (String Global) → List (List ℕ)
behind xs = map string_bytes (take (length xs - 4) (drop 4 xs))

-- At least four: the third is the option, the fourth the times.
pub timed_at : (xs : List (String Global)) (c i t : String Global) → 4 ≤ length xs → c ≡ get_or xs 0 c → i ≡ get_or xs 1 i → t ≡ get_or xs 3 t
    → timed_in (map string_bytes xs) ≡ labelled (string_bytes t) (command_in (string_bytes c ∷ string_bytes i ∷ behind xs))
timed_at [] c i t some first second fourth = absurd (omega (arith, some))
timed_at (a ∷ []) c i t some first second fourth = absurd (omega (arith, some))
timed_at (a ∷ b ∷ []) c i t some first second fourth = absurd (omega (arith, some))
timed_at (a ∷ b ∷ d ∷ []) c i t some first second fourth = absurd (omega (arith, some))
timed_at (a ∷ b ∷ d ∷ e ∷ rest) c i t some first second fourth =
    ap (λ x. labelled (string_bytes e) (command_in (string_bytes x ∷ string_bytes b ∷ map string_bytes rest))) (sym first)
    ∙ ap (λ x. labelled (string_bytes e) (command_in (string_bytes c ∷ string_bytes x ∷ map string_bytes rest))) (sym second)
    ∙ ap (λ x. labelled (string_bytes x) (command_in (string_bytes c ∷ string_bytes i ∷ map string_bytes rest))) (sym fourth)
    ∙ ap (λ ws. labelled (string_bytes t) (command_in (string_bytes c ∷ string_bytes i ∷ map string_bytes ws))) (sym (take_all (length (a ∷ b ∷ d ∷ e ∷ rest) - 4) rest (omega arith)))

-- Fewer say nothing.
pub timed_short : (xs : List (String Global)) → length xs < 4 → timed_in (map string_bytes xs) ≡ None
timed_short [] few = refl
timed_short (a ∷ []) few = refl
timed_short (a ∷ b ∷ []) few = refl
timed_short (a ∷ b ∷ d ∷ []) few = refl
timed_short (a ∷ b ∷ d ∷ e ∷ rest) few = absurd (omega (arith, few))
