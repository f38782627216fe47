-- One word behind `direct`, as the reader takes it and as the parser does.
use Rattle.clap.proofs.OnLiterals.{clap_on_literals}
use Rattle.clap.specs.Faults.{settle_fault, step_fault, walk_fault}
use Rattle.clap.specs.Kinds.{Kinds, or_else}
use Rattle.clap.specs.Walk.{Row, Text, Waiting, Walk, attached_value, idle, option, settled_rows, value, walked}
use Rattle.sl_cli.proofs.BuiltCommand.{Key, action, direct, has_row_for, name_of, rows_for, rules, used_first}
use Rattle.sl_cli.proofs.Letters.{behind, first_char, letter_cases}
use Rattle.sl_cli.proofs.ParserTurns as turns
use Rattle.sl_cli.proofs.ParserTurns.{Fails, Pending, Plain, after, first_fails, later_fails, turn, unsettled, values_of, walk_at}
use Rattle.sl_cli.specs.CommandWords.{Taken, Use, is_given, is_plain, use_of, with_use}
use Rattle.sl_words.specs.Words.{choose}
use Rattle.std.proofs.Common.{Bool, List, None, Option, Some, [], ap, ap₂, eqb, false, inl, inr, refl, subst, sym, true, ℕ, ◌++◌, ◌||◌, ◌≡◌, ◌∙◌, ◌∷◌, ◌⊎◌}
use Rattle.std.proofs.lemmas.Bool.{cases_Bool, eqb-true, or_right}
use Rattle.std.proofs.lemmas.List.Folds.{list_any-append}
use Rattle.std.specs.List.{fold}
use Rattle.std.specs.Prelude.{bytes_eq, codes, if◌then◌else◌, not}
use Rattle.std.specs.Str.{IsUtf8}

-- ---- where both stand

-- The place of the next word that is no option: behind the action it is one past the last.
abbrev pub place_in : List Use → ℕ
place_in us = if is_given (codes "action") us then 2 else 1

-- How far the words are read.
abbrev pub taken : List Use → Option Text → Bool → Taken
taken us waiting trailing = record { uses = us; waiting = waiting; only_action = trailing }

-- No option waits: with the values that are being read, the parser has what the reader has.
pub record Idle (w : Walk) (us : List Use) (trailing : Bool) : Type 0 where
  pub rows : List Row
  pub pending : Pending
  pub stands : w ≡ walk_at rows pending idle (place_in us) trailing
  pub fails_not : unsettled rows pending ≡ []
  pub has : settled_rows rules pending rows ≡ rows_for us

-- An option waits for its value.
pub record Waits (w : Walk) (us : List Use) (k : Key) : Type 0 where
  pub stands : w ≡ walk_at (rows_for us) (values_of k []) (option (name_of k)) (place_in us) false
  pub option : bytes_eq (name_of k) (codes "action") ≡ false

-- Both stand at the same place.
abbrev pub At : Walk → Taken → Type 0
At w t =
    ((us : List Use) × (trailing : Bool) × (t ≡ taken us None trailing) × Idle w us trailing)
    ⊎ ((us : List Use) × (k : Key) × (t ≡ taken us (Some (name_of k)) false) × Waits w us k)

-- What fails from here on.
abbrev pub rest : Walk → List Text → Kinds
rest w ws = or_else (walk_fault direct [] w ws) (settle_fault rules false (fold (walked rules []) w ws).held)

-- Words are texts.
abbrev pub AreTexts : List Text → Type 0
AreTexts [] = Unit {0}
AreTexts (w ∷ ws) = IsUtf8 w × AreTexts ws

-- The word is refused by both, or takes both to the same place.
abbrev pub Step : Option Taken → Walk → Text → Type 0
Step None w word = (ws : List Text) → AreTexts ws → Fails (rest w (word ∷ ws))
Step (Some t) w word = (turn w word ≡ []) × At (after w word) t

-- ---- what fails

pub turn_fails : (w : Walk) (word : Text) → Fails (turn w word) → (ws : List Text) → Fails (rest w (word ∷ ws))
unfolding clap_on_literals
turn_fails w word h ws = first_fails _ _ (first_fails (turn w word) _ h)

pub turn_passes : (w : Walk) (word : Text) (ws : List Text) → turn w word ≡ [] → rest w (word ∷ ws) ≡ rest (after w word) ws
unfolding clap_on_literals
turn_passes w word ws h = rw h refl

-- Values that fail are never taken: by no later word, nor at the end.
pub end_fails : (w : Walk) → Fails (settle_fault rules false w.held) → Fails (rest w [])
unfolding clap_on_literals
end_fails w h = later_fails [] _ h

pub doomed_behind_dashes : (rows : List Row) (pending : Pending) (waiting : Waiting) (position : ℕ) (ws : List Text) → Fails (unsettled rows pending)
    → Fails (rest (walk_at rows pending waiting position true) ws)
doomed_behind_dashes rows pending waiting position [] h = end_fails (walk_at rows pending waiting position true) h
doomed_behind_dashes rows pending waiting position (word ∷ ws) h =
    turn_fails (walk_at rows pending waiting position true) word (turns.value_fails rows pending position h) ws

-- A word that looks like an option.
doomed_at_option : (rows : List Row) (pending : Pending) (waiting : Waiting) (position : ℕ) (c : ℕ) (cs : Text) (ws : List Text) → IsUtf8 (45 ∷ c ∷ cs) → Fails (unsettled rows pending)
    → (eqb c 45 ≡ false) → Fails (rest (walk_at rows pending waiting position false) ((45 ∷ c ∷ cs) ∷ ws))
doomed_at_option rows pending waiting position c cs ws u h no_hyphen =
    let x = first_char c cs (behind (c ∷ cs) u) in
    let w = walk_at rows pending waiting position false in
    elim (letter_cases c x.0 x.1.small_char x.1.small_byte) [
      | inl known ↦ turn_fails w (45 ∷ c ∷ cs)
          (λ none. turns.option_fails known.0 (attached_value cs) rows pending h (sym (turns.option_turn known.0 c rows pending waiting position cs known.1.letter) ∙ none)) ws
      | inr unknown ↦ turn_fails w (45 ∷ c ∷ cs) (turns.unknown_fails c x.0 rows pending waiting position cs no_hyphen x.1.char unknown.missing) ws
    ]

pub doomed_at_hyphen : (rows : List Row) (pending : Pending) (waiting : Waiting) (position : ℕ) (c : ℕ) (cs : Text) (ws : List Text) → IsUtf8 (45 ∷ c ∷ cs) → Fails (unsettled rows pending)
    → Fails (rest (walk_at rows pending waiting position false) ((45 ∷ c ∷ cs) ∷ ws))
doomed_at_hyphen rows pending waiting position c cs ws u h = elim (cases_Bool (eqb c 45)) [
  | inl hyphen ↦ subst (λ c. Fails (rest (walk_at rows pending waiting position false) ((45 ∷ c ∷ cs) ∷ ws))) (sym (eqb-true c 45 hyphen)) (behind_two cs)
  | inr no_hyphen ↦ doomed_at_option rows pending waiting position c cs ws u h no_hyphen
]
  where
    behind_two : (cs : Text) → Fails (rest (walk_at rows pending waiting position false) ((45 ∷ 45 ∷ cs) ∷ ws))
    behind_two [] = λ none. doomed_behind_dashes rows pending waiting position ws h
        (sym (turn_passes (walk_at rows pending waiting position false) (45 ∷ 45 ∷ []) ws (turns.dashes_turn rows pending waiting position)
        ∙ ap (λ w. rest w ws) (turns.dashes_after rows pending waiting position)) ∙ none)
    behind_two (d ∷ ds) = turn_fails (walk_at rows pending waiting position false) (45 ∷ 45 ∷ d ∷ ds) (turns.long_fails rows pending waiting position d ds) ws

-- ---- words that are no options, and words that look like some

-- A word is plain, or begins with a hyphen and goes on.
abbrev pub Hyphened : Text → Type 0
Hyphened word = (c : ℕ) × (cs : Text) × (word ≡ 45 ∷ c ∷ cs)

one_byte : (c : ℕ) (t : Bool) → eqb c 45 ≡ t → Plain (c ∷ [])
one_byte c true e = record { no_dashes = rw e refl; no_long = rw e refl; no_short = rw e refl }
one_byte c false e = record { no_dashes = rw e refl; no_long = rw e refl; no_short = rw e refl }

pub word_cases : (word : Text) → ((is_plain word ≡ true) × Plain word) ⊎ Hyphened word
word_cases [] = inl (refl, record { no_dashes = refl; no_long = refl; no_short = refl })
word_cases (c ∷ []) = inl (refl, one_byte c (eqb c 45) refl)
word_cases (c ∷ d ∷ ds) = elim (cases_Bool (eqb c 45)) [
  | inl hyphen ↦ inr (d, ds, ap (λ x. x ∷ d ∷ ds) (eqb-true c 45 hyphen))
  | inr none ↦ inl (rw none refl, record { no_dashes = rw none refl; no_long = rw none refl; no_short = rw none refl })
]

-- Values that fail are never taken, where no option waits.
pub doomed : (rows : List Row) (pending : Pending) (position : ℕ) (ws : List Text) → AreTexts ws → Fails (unsettled rows pending)
    → Fails (rest (walk_at rows pending idle position false) ws)
doomed rows pending position [] u h = end_fails (walk_at rows pending idle position false) h
doomed rows pending position (word ∷ ws) u h = elim (word_cases word) [
  | inl plain ↦ turn_fails (walk_at rows pending idle position false) word
      (λ none. turns.value_fails rows pending position h (sym (turns.plain_turn rows pending position word plain.1) ∙ none)) ws
  | inr hyphened ↦ subst (λ w. Fails (rest (walk_at rows pending idle position false) (w ∷ ws))) (sym hyphened.2)
      (doomed_at_hyphen rows pending idle position hyphened.0 hyphened.1 ws (subst IsUtf8 hyphened.2 u.0) h)
]

-- ---- a word is given

-- What is given behind a list.
given_behind : (name : Text) (us : List Use) (u : Use) → is_given name (us ++ u ∷ []) ≡ (is_given name us || (bytes_eq u.name name || false))
given_behind name us u = list_any-append (λ x. bytes_eq x.name name) us (u ∷ [])

place_behind_action : (us : List Use) (v : Text) → place_in (us ++ use_of (codes "action") v ∷ []) ≡ 2
place_behind_action us v = ap (λ b. if b then 2 else 1) (given_behind (codes "action") us (use_of (codes "action") v) ∙ or_right (is_given (codes "action") us) true refl)

same_or : (b : Bool) → (b || false) ≡ b
same_or true = refl
same_or false = refl

pub place_behind_option : (k : Key) (us : List Use) (v : Text) → bytes_eq (name_of k) (codes "action") ≡ false → place_in (us ++ use_of (name_of k) v ∷ []) ≡ place_in us
place_behind_option k us v is =
    ap (λ b. if b then 2 else 1) (given_behind (codes "action") us (use_of (name_of k) v) ∙ ap (λ b. is_given (codes "action") us || (b || false)) is ∙ same_or (is_given (codes "action") us))

-- A word that is given twice fails; one that is given once is taken.
pub by_given : (name : Text) (us : List Use) (t : Taken) (w : Walk) (word : Text) → (is_given name us ≡ true → (ws : List Text) → AreTexts ws → Fails (rest w (word ∷ ws)))
    → (is_given name us ≡ false → (turn w word ≡ []) × At (after w word) t) → Step (choose (not (is_given name us)) t) w word
by_given name us t w word twice once = go (is_given name us) refl
  where
    go : (b : Bool) → is_given name us ≡ b → Step (choose (not b) t) w word
    go true e = twice e
    go false e = once e

-- What the parser has once the values that are being read are taken.
pub value_settled : (k : Key) (v : Text) (us : List Use) → is_given (name_of k) us ≡ false → unsettled (rows_for us) (values_of k (v ∷ [])) ≡ []
value_settled k v us none = turns.unsettled_is k (v ∷ []) (rows_for us) ∙ turns.used_once k v (rows_for us) (has_row_for (name_of k) us ∙ none)

pub value_has : (k : Key) (v : Text) (us : List Use) → is_given (name_of k) us ≡ false
    → settled_rows rules (values_of k (v ∷ [])) (rows_for us) ≡ rows_for (us ++ use_of (name_of k) v ∷ [])
value_has k v us none = turns.settled_is k (v ∷ []) (rows_for us) ∙ used_first k v us none

pub value_twice : (k : Key) (v : Text) (us : List Use) → is_given (name_of k) us ≡ true → Fails (unsettled (rows_for us) (values_of k (v ∷ [])))
value_twice k v us one none = turns.used_twice k v (rows_for us) (has_row_for (name_of k) us ∙ one) (sym (turns.unsettled_is k (v ∷ []) (rows_for us)) ∙ none)

-- The action.
pub action_step : (us : List Use) (trailing : Bool) (rows : List Row) (pending : Pending) (word : Text)
    → unsettled rows pending ≡ [] → settled_rows rules pending rows ≡ rows_for us
    → ((position : ℕ) → turn (walk_at rows pending idle position trailing) word ≡ step_fault direct position (turns.held_at rows pending) value)
    → after (walk_at rows pending idle 1 trailing) word ≡ turns.behind_action rows pending word trailing
    → Step (with_use (taken us None trailing) (codes "action") word) (walk_at rows pending idle (place_in us) trailing) word
action_step us trailing rows pending word fails_not has turns_to goes_to =
    by_given (codes "action") us (taken (us ++ use_of (codes "action") word ∷ []) None trailing) (walk_at rows pending idle (place_in us) trailing) word
    (λ twice ws u.
    let place : place_in us ≡ 2 = ap (λ b. if b then 2 else 1) twice in
    subst (λ p. Fails (rest (walk_at rows pending idle p trailing) (word ∷ ws))) (sym place)
    (turn_fails (walk_at rows pending idle 2 trailing) word (λ none. turns.value_twice rows pending (sym (turns_to 2) ∙ none)) ws))
    (λ once.
    let place : place_in us ≡ 1 = ap (λ b. if b then 2 else 1) once in (
      ap (λ p. turn (walk_at rows pending idle p trailing) word) place ∙ turns_to 1 ∙ turns.value_ok rows pending fails_not,
      inl (
        us ++ use_of (codes "action") word ∷ [],
        trailing,
        refl,
        record {
          rows = rows_for us;
          pending = values_of action (word ∷ []);
          stands = ap (λ p. after (walk_at rows pending idle p trailing) word) place ∙ goes_to
              ∙ ap₂ (λ rs p. walk_at rs (values_of action (word ∷ [])) idle p trailing) has (sym (place_behind_action us word));
          fails_not = value_settled action word us once;
          has = value_has action word us once;
        },
      ),
    ))
