-- The parser takes the words behind `direct` that the reader takes, and finds in them what the reader finds.
use Rattle.clap.proofs.OnLiterals.{clap_on_literals}
use Rattle.clap.specs.Faults.{check_fault, settle_fault, walk_fault}
use Rattle.clap.specs.Kinds.{Kinds, or_else}
use Rattle.clap.specs.Walk.{Held, Row, Text, Walk, finished, idle, nothing_held, option, rows_after, settled, settled_rows, walk_from, walked}
use Rattle.sl_cli.proofs.BareCommands.{level, or_nothing}
use Rattle.sl_cli.proofs.BuiltCommand.{Key, direct, first_of-rows, name_of, no_defaults, no_faults, rows_for, rules}
use Rattle.sl_cli.proofs.OptionSteps.{step_at}
use Rattle.sl_cli.proofs.ReaderSteps.{AreTexts, At, Step, end_fails, place_in, rest, taken, turn_passes}
use Rattle.sl_cli.proofs.ParserTurns as turns
use Rattle.sl_cli.proofs.ParserTurns.{Fails, Pending, after, turn, unsettled, values_of, walk_at}
use Rattle.sl_cli.specs.CommandWords.{Taken, Use, given_by, next_taken, nothing_taken, uses_from}
use Rattle.sl_cli.specs.ParserMeets.{given_in}
use Rattle.std.proofs.Common.{Bool, List, None, Option, Some, [], ap, false, inl, inr, refl, subst, sym, ℕ, ◌≡◌, ◌∙◌, ◌∷◌}
use Rattle.std.specs.List.{fold}
use Rattle.std.specs.Prelude.{codes, option_and_then}

-- ---- all words behind `direct`

-- What the parser holds behind the words.
abbrev pub held_after : Walk → List Text → Held
held_after w ws = (fold (walked rules []) w ws).held

-- Both refuse the words, or both take them and have the same.
abbrev pub Read : Option (List Use) → Walk → List Text → Type 0
Read None w ws = Fails (rest w ws)
Read (Some us) w ws = (rest w ws ≡ []) × (settled_rows rules (held_after w ws).pending (held_after w ws).rows ≡ rows_for us)

-- Behind a word that both take, the rest decides.
carried : (o : Option (List Use)) (w : Walk) (word : Text) (ws : List Text) → turn w word ≡ [] → Read o (after w word) ws → Read o w (word ∷ ws)
carried None w word ws passes h = λ none. h (sym (turn_passes w word ws passes) ∙ none)
carried (Some us) w word ws passes h = (turn_passes w word ws passes ∙ h.0, h.1)

read_on : (o : Option Taken) (w : Walk) (word : Text) (ws : List Text) → AreTexts ws → Step o w word
    → ((t : Taken) → At (after w word) t → Read (uses_from t ws) (after w word) ws) → Read (option_and_then (λ next. uses_from next ws) o) w (word ∷ ws)
read_on None w word ws texts step later = step ws texts
read_on (Some t) w word ws texts step later = carried (uses_from t ws) w word ws step.0 (later t step.1)

-- At the end no option may wait.
idle_end : (us : List Use) (trailing : Bool) (rows : List Row) (pending : Pending) (position : ℕ) → unsettled rows pending ≡ [] → settled_rows rules pending rows ≡ rows_for us
    → Read (uses_from (taken us None trailing) []) (walk_at rows pending idle position trailing) []
unfolding clap_on_literals
idle_end us trailing rows pending position fails_not has = (fails_not, has)

waits_end : (us : List Use) (k : Key) (position : ℕ) → Read (uses_from (taken us (Some (name_of k)) false) []) (walk_at (rows_for us) (values_of k []) (option (name_of k)) position false) []
waits_end us k position =
    end_fails (walk_at (rows_for us) (values_of k []) (option (name_of k)) position false)
    (λ none. turns.used_empty k (rows_for us) (sym (turns.unsettled_is k [] (rows_for us)) ∙ none))

read_end : (w : Walk) (t : Taken) → At w t → Read (uses_from t []) w []
read_end w t at = elim at [
  | inl here ↦
      let at_idle = here.3 in
      subst (λ t. Read (uses_from t []) w []) (sym here.2)
      (subst (λ w. Read (uses_from (taken here.0 None here.1) []) w []) (sym at_idle.stands)
      (idle_end here.0 here.1 at_idle.rows at_idle.pending (place_in here.0) at_idle.fails_not at_idle.has))
  | inr here ↦
      let waits = here.3 in
      subst (λ t. Read (uses_from t []) w []) (sym here.2)
      (subst (λ w. Read (uses_from (taken here.0 (Some (name_of here.1)) false) []) w []) (sym waits.stands) (waits_end here.0 here.1 (place_in here.0)))
]

read_all : (ws : List Text) (w : Walk) (t : Taken) → AreTexts ws → At w t → Read (uses_from t ws) w ws
read_all [] w t texts at = read_end w t at
read_all (word ∷ ws) w t texts at =
    read_on (next_taken t word) w word ws texts.1 (step_at w t word texts.0 at) (λ next at_next. read_all ws (after w word) next texts.1 at_next)

-- The words behind `direct`, from the first on.
pub direct_read : (ws : List Text) → AreTexts ws → Read (uses_from nothing_taken ws) (walk_from nothing_held) ws
direct_read ws texts =
    read_all ws (walk_from nothing_held) nothing_taken texts (inl ([], false, refl, record { rows = []; pending = None; stands = refl; fails_not = refl; has = refl }))

-- ---- the command `direct`

-- Nothing is wanted at the end, and nothing is added.
pub direct_level : (ws : List Text) → level direct ws ≡ rest (walk_from nothing_held) ws
direct_level ws =
    let end : Held = held_after (walk_from nothing_held) ws in
    let open_values : Kinds = settle_fault rules false end in
    ap (λ ks. or_else (walk_fault direct [] (walk_from nothing_held) ws) (or_else open_values (or_else ks (check_fault direct (finished rules end) false)))) (no_faults (settled rules end).rows rules refl)
    ∙ ap (or_else (walk_fault direct [] (walk_from nothing_held) ws)) (or_nothing open_values)

pub direct_rows : (ws : List Text) (us : List Use) → settled_rows rules (held_after (walk_from nothing_held) ws).pending (held_after (walk_from nothing_held) ws).rows ≡ rows_for us
    → rows_after rules [] ws ≡ rows_for us
direct_rows ws us has = no_defaults _ rules refl ∙ has

pub given_rows : (us : List Use) → given_in (rows_for us) ≡ given_by us
given_rows us = λ i. record {
  action = first_of-rows (codes "action") us i;
  lockspace = first_of-rows (codes "lockspace") us i;
  resource = first_of-rows (codes "resource") us i;
  hosts = first_of-rows (codes "hosts") us i;
  stretch = first_of-rows (codes "stretch") us i;
  geometry = first_of-rows (codes "geometry") us i;
  format = first_of-rows (codes "format") us i;
}
