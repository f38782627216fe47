-- One word behind `direct`, in each place where the reader and the parser may stand.
use Rattle.clap.specs.Faults.{option_fault, use_fault}
use Rattle.clap.specs.Kinds.{or_else}
use Rattle.clap.specs.Walk.{Row, Text, Walk, attached_value, idle, option, settled_rows, used}
use Rattle.sl_cli.proofs.BuiltCommand.{Key, has_row_for, name_of, rows_for, rule_for, rules, used_first}
use Rattle.sl_cli.proofs.Letters.{Known, behind, first_char, letter_cases}
use Rattle.sl_cli.proofs.ReaderSteps.{At, Step, action_step, by_given, doomed, doomed_at_hyphen, place_behind_option, place_in, rest, taken, turn_fails, turn_passes, value_has, value_settled, value_twice, word_cases}
use Rattle.sl_cli.proofs.ParserTurns as turns
use Rattle.sl_cli.proofs.ParserTurns.{Pending, Plain, first_fails, turn, unsettled, values_of, walk_at}
use Rattle.sl_cli.specs.CommandWords.{Taken, Use, behind_hyphen, next_taken, option_named, use_of, with_option, with_use, with_value, with_word}
use Rattle.sl_words.specs.Words.{choose, is_empty}
use Rattle.std.proofs.Common.{Bool, List, None, Option, Some, [], ap, ap₂, drop, eqb, false, inl, inr, refl, subst, sym, true, ℕ, ◌++◌, ◌==◌, ◌≡◌, ◌∙◌, ◌∷◌}
use Rattle.std.proofs.lemmas.Bool.{cases_Bool, eqb-true}
use Rattle.std.specs.Prelude.{bytes_eq, codes, if◌then◌else◌, option_and_then}
use Rattle.std.specs.Str.{IsUtf8}

-- ---- no option waits

-- An option without its value waits for it.
option_alone : (k : Key) (us : List Use) (rows : List Row) (pending : Pending) (letter : ℕ) → Known letter k
    → unsettled rows pending ≡ [] → settled_rows rules pending rows ≡ rows_for us
    → Step (with_option (taken us None false) (name_of k) []) (walk_at rows pending idle (place_in us) false) (45 ∷ letter ∷ [])
option_alone k us rows pending letter known fails_not has = (
  turns.option_turn k letter rows pending idle (place_in us) [] known.letter ∙ ap (λ ks. or_else ks []) fails_not,
  inr (
    us,
    k,
    refl,
    record {
      stands = turns.option_after k letter rows pending (place_in us) [] known.letter ∙ ap (λ rs. walk_at rs (values_of k []) (option (name_of k)) (place_in us) false) has;
      option = known.option;
    },
  ),
)

-- The value behind an option's letter, which one `=` may precede.
abbrev attached : ℕ → Text → Text
attached c cs = if c == 61 then cs else c ∷ cs

attached_is : (c : ℕ) (cs : Text) → attached_value (c ∷ cs) ≡ Some (attached c cs)
attached_is c cs = go (eqb c 61) refl
  where
    go : (b : Bool) → eqb c 61 ≡ b → attached_value (c ∷ cs) ≡ Some (attached c cs)
    go true e = rw e refl
    go false e = rw e refl

-- What fails at an option with its value.
value_turn : (k : Key) (us : List Use) (rows : List Row) (pending : Pending) (v : Text) → unsettled rows pending ≡ [] → settled_rows rules pending rows ≡ rows_for us
    → or_else (option_fault rules false (rule_for k) (Some v) (turns.held_at rows pending)) [] ≡ or_else (use_fault false (rule_for k) (v ∷ []) (rows_for us)) []
value_turn k us rows pending v fails_not has =
    ap (λ ks. or_else (or_else ks (use_fault false (rule_for k) (v ∷ []) (settled_rows rules pending rows))) []) fails_not
    ∙ ap (λ rs. or_else (use_fault false (rule_for k) (v ∷ []) rs) []) has

option_attached : (k : Key) (us : List Use) (rows : List Row) (pending : Pending) (letter c : ℕ) (cs : Text) → Known letter k
    → unsettled rows pending ≡ [] → settled_rows rules pending rows ≡ rows_for us
    → Step (with_option (taken us None false) (name_of k) (c ∷ cs)) (walk_at rows pending idle (place_in us) false) (45 ∷ letter ∷ c ∷ cs)
option_attached k us rows pending letter c cs known fails_not has =
    let v : Text = attached c cs in
    let w : Walk = walk_at rows pending idle (place_in us) false in
    let word : Text = 45 ∷ letter ∷ c ∷ cs in
    let turns_to : turn w word ≡ or_else (use_fault false (rule_for k) (v ∷ []) (rows_for us)) [] =
    turns.option_turn k letter rows pending idle (place_in us) (c ∷ cs) known.letter
    ∙ ap (λ o. or_else (option_fault rules false (rule_for k) o (turns.held_at rows pending)) []) (attached_is c cs) ∙ value_turn k us rows pending v fails_not has in
    by_given (name_of k) us (taken (us ++ use_of (name_of k) v ∷ []) None false) w word
    (λ twice ws u. turn_fails w word (λ none.
    first_fails (use_fault false (rule_for k) (v ∷ []) (rows_for us)) [] (turns.used_twice k v (rows_for us) (has_row_for (name_of k) us ∙ twice)) (sym turns_to ∙ none)) ws)
    (λ once. (
      turns_to ∙ ap (λ ks. or_else ks []) (turns.used_once k v (rows_for us) (has_row_for (name_of k) us ∙ once)),
      inl (
        us ++ use_of (name_of k) v ∷ [],
        false,
        refl,
        record {
          rows = rows_for (us ++ use_of (name_of k) v ∷ []);
          pending = None;
          stands = turns.option_after k letter rows pending (place_in us) (c ∷ cs) known.letter
              ∙ ap (turns.option_walk k rows pending (place_in us)) (attached_is c cs)
              ∙ ap₂ (λ rs p. walk_at rs None idle p false) (ap (used (rule_for k) (v ∷ [])) has ∙ used_first k v us once) (sym (place_behind_option k us v known.option));
          fails_not = refl;
          has = refl;
        },
      ),
    ))

option_step : (k : Key) (us : List Use) (rows : List Row) (pending : Pending) (letter : ℕ) (cs : Text) → Known letter k
    → unsettled rows pending ≡ [] → settled_rows rules pending rows ≡ rows_for us
    → Step (with_option (taken us None false) (name_of k) cs) (walk_at rows pending idle (place_in us) false) (45 ∷ letter ∷ cs)
option_step k us rows pending letter [] known fails_not has = option_alone k us rows pending letter known fails_not has
option_step k us rows pending letter (c ∷ cs) known fails_not has = option_attached k us rows pending letter c cs known fails_not has

-- A letter behind a hyphen.
letter_step : (us : List Use) (rows : List Row) (pending : Pending) (c : ℕ) (cs : Text) → IsUtf8 (45 ∷ c ∷ cs) → eqb c 45 ≡ false
    → unsettled rows pending ≡ [] → settled_rows rules pending rows ≡ rows_for us
    → Step (option_and_then (λ name. with_option (taken us None false) name cs) (option_named c)) (walk_at rows pending idle (place_in us) false) (45 ∷ c ∷ cs)
letter_step us rows pending c cs u no_hyphen fails_not has =
    let x = first_char c cs (behind (c ∷ cs) u) in
    let w : Walk = walk_at rows pending idle (place_in us) false in
    let P : Option Text → Type 0 = λ o. Step (option_and_then (λ name. with_option (taken us None false) name cs) o) w (45 ∷ c ∷ cs) in
    elim (letter_cases c x.0 x.1.small_char x.1.small_byte) [
      | inl known ↦ subst P (sym known.1.named) (option_step known.0 us rows pending c cs known.1 fails_not has)
      | inr unknown ↦ subst P (sym unknown.unnamed)
          (λ ws texts. turn_fails w (45 ∷ c ∷ cs) (turns.unknown_fails c x.0 rows pending idle (place_in us) cs no_hyphen x.1.char unknown.missing) ws)
    ]

-- A second hyphen.
dashes_step : (us : List Use) (rows : List Row) (pending : Pending) (cs : Text) → unsettled rows pending ≡ [] → settled_rows rules pending rows ≡ rows_for us
    → Step (choose (is_empty cs) (taken us None true)) (walk_at rows pending idle (place_in us) false) (45 ∷ 45 ∷ cs)
dashes_step us rows pending [] fails_not has = (
  turns.dashes_turn rows pending idle (place_in us),
  inl (us, true, refl, record { rows = rows; pending = pending; stands = turns.dashes_after rows pending idle (place_in us); fails_not = fails_not; has = has }),
)
dashes_step us rows pending (c ∷ cs) fails_not has =
    λ ws texts. turn_fails (walk_at rows pending idle (place_in us) false) (45 ∷ 45 ∷ c ∷ cs) (turns.long_fails rows pending idle (place_in us) c cs) ws

hyphen_step : (us : List Use) (rows : List Row) (pending : Pending) (c : ℕ) (cs : Text) → IsUtf8 (45 ∷ c ∷ cs)
    → unsettled rows pending ≡ [] → settled_rows rules pending rows ≡ rows_for us
    → Step (behind_hyphen (taken us None false) (c ∷ cs)) (walk_at rows pending idle (place_in us) false) (45 ∷ c ∷ cs)
hyphen_step us rows pending c cs u fails_not has = elim (cases_Bool (eqb c 45)) [
  | inl hyphen ↦ subst (λ c. Step (behind_hyphen (taken us None false) (c ∷ cs)) (walk_at rows pending idle (place_in us) false) (45 ∷ c ∷ cs))
      (sym (eqb-true c 45 hyphen)) (dashes_step us rows pending cs fails_not has)
  | inr none ↦ rw none (letter_step us rows pending c cs u none fails_not has)
]

-- Any word.
word_step : (us : List Use) (rows : List Row) (pending : Pending) (word : Text) → IsUtf8 word
    → unsettled rows pending ≡ [] → settled_rows rules pending rows ≡ rows_for us
    → Step (with_word (taken us None false) word) (walk_at rows pending idle (place_in us) false) word
word_step us rows pending word u fails_not has =
    let w : Walk = walk_at rows pending idle (place_in us) false in
    elim (word_cases word) [
      | inl plain ↦ subst (λ b. Step (if b then with_use (taken us None false) (codes "action") word else behind_hyphen (taken us None false) (drop 1 word)) w word) (sym plain.0)
          (action_step us false rows pending word fails_not has (λ position. turns.plain_turn rows pending position word plain.1) (turns.plain_after rows pending word plain.1))
      | inr hyphened ↦ subst (λ word. Step (with_word (taken us None false) word) w word) (sym hyphened.2)
          (hyphen_step us rows pending hyphened.0 hyphened.1 (subst IsUtf8 hyphened.2 u) fails_not has)
    ]

idle_step : (us : List Use) (trailing : Bool) (rows : List Row) (pending : Pending) (word : Text) → IsUtf8 word
    → unsettled rows pending ≡ [] → settled_rows rules pending rows ≡ rows_for us
    → Step (next_taken (taken us None trailing) word) (walk_at rows pending idle (place_in us) trailing) word
idle_step us true rows pending word u fails_not has =
    action_step us true rows pending word fails_not has (λ position. turns.trailing_turn rows pending idle position word) (turns.trailing_after rows pending idle word)
idle_step us false rows pending word u fails_not has = word_step us rows pending word u fails_not has

-- ---- an option waits

-- The value comes.
value_step : (k : Key) (us : List Use) (word : Text) → bytes_eq (name_of k) (codes "action") ≡ false → Plain word
    → Step (with_use (taken us (Some (name_of k)) false) (name_of k) word) (walk_at (rows_for us) (values_of k []) (option (name_of k)) (place_in us) false) word
value_step k us word is_option plain =
    let w : Walk = walk_at (rows_for us) (values_of k []) (option (name_of k)) (place_in us) false in
    let turns_to = turns.waiting_turn k (rows_for us) (place_in us) word plain in
    let goes_to = turns.waiting_after k (rows_for us) (place_in us) word plain in
    by_given (name_of k) us (taken (us ++ use_of (name_of k) word ∷ []) None false) w word
    (λ twice ws texts none. doomed (rows_for us) (values_of k (word ∷ [])) (place_in us) ws texts (value_twice k word us twice)
    (sym (turn_passes w word ws turns_to ∙ ap (λ x. rest x ws) goes_to) ∙ none))
    (λ once. (
      turns_to,
      inl (
        us ++ use_of (name_of k) word ∷ [],
        false,
        refl,
        record {
          rows = rows_for us;
          pending = values_of k (word ∷ []);
          stands = goes_to ∙ ap (λ p. walk_at (rows_for us) (values_of k (word ∷ [])) idle p false) (sym (place_behind_option k us word is_option));
          fails_not = value_settled k word us once;
          has = value_has k word us once;
        },
      ),
    ))

waits_step : (k : Key) (us : List Use) (word : Text) → IsUtf8 word → bytes_eq (name_of k) (codes "action") ≡ false
    → Step (with_value (taken us (Some (name_of k)) false) (name_of k) word) (walk_at (rows_for us) (values_of k []) (option (name_of k)) (place_in us) false) word
waits_step k us word u is_option =
    let w : Walk = walk_at (rows_for us) (values_of k []) (option (name_of k)) (place_in us) false in
    elim (word_cases word) [
      | inl plain ↦ subst (λ b. Step (if b then with_use (taken us (Some (name_of k)) false) (name_of k) word else None) w word) (sym plain.0) (value_step k us word is_option plain.1)
      | inr hyphened ↦ subst (λ word. Step (with_value (taken us (Some (name_of k)) false) (name_of k) word) w word) (sym hyphened.2)
          (λ ws texts. doomed_at_hyphen (rows_for us) (values_of k []) (option (name_of k)) (place_in us) hyphened.0 hyphened.1 ws (subst IsUtf8 hyphened.2 u)
          (λ none. turns.used_empty k (rows_for us) (sym (turns.unsettled_is k [] (rows_for us)) ∙ none)))
    ]

-- ---- both

pub step_at : (w : Walk) (t : Taken) (word : Text) → IsUtf8 word → At w t → Step (next_taken t word) w word
step_at w t word u at = elim at [
  | inl here ↦
      let at_idle = here.3 in
      subst (λ t. Step (next_taken t word) w word) (sym here.2)
      (subst (λ w. Step (next_taken (taken here.0 None here.1) word) w word) (sym at_idle.stands) (idle_step here.0 here.1 at_idle.rows at_idle.pending word u at_idle.fails_not at_idle.has))
  | inr here ↦
      let waits = here.3 in
      subst (λ t. Step (next_taken t word) w word) (sym here.2)
      (subst (λ w. Step (next_taken (taken here.0 (Some (name_of here.1)) false) word) w word) (sym waits.stands) (waits_step here.1 here.0 word u waits.option))
]
