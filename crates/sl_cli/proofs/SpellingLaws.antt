-- Words in any order are read, and no others are.
use Rattle.sl_cli.proofs.ActionTexts.{actions_have_one_text}
use Rattle.sl_cli.specs.Actions.{action_in}
use Rattle.sl_cli.specs.CommandWords.{Placing, Seed, Taken, Use, command_in, direct_in, draw_in, ends_here, generated, given_by, is_given, is_line, is_only, is_plain, live_in, nothing_placed, nothing_taken, option_named, placed_from, placed_in, gen_in, is_timed, labelled, said_in, schedule_in, scheduled, seeded_in, spanned_in, timed_in, use_of, uses_from, with_use, without_dashes}
use Rattle.sl_area.specs.AreaSizes.{Sizes}
use Rattle.sl_cli.specs.OwnWords.{Options, is_folder, is_machine, is_own, no_options, options_from, own_in}
use Rattle.sl_cli.specs.TimesWords.{grace_of, is_times, timing_of}
use Rattle.sl_direct.specs.declared.action.Action.TheVariants.{InitLockspace}
use Rattle.sl_text.specs.Numbers.{number_of}
use Rattle.sl_time.specs.Times.{TimingNumbers}
use Rattle.sl_trace.specs.declared.command.LockspaceArg.{LockspaceArg}
use Rattle.sl_cli.specs.Spellings.{AsksFor, IsAsked, OnlyItsWordsAskForAnAction, OptionsComeInAnyOrder, are_apart, is_use, letter_named, option_words, spelled, use_words}
use Rattle.sl_cli.specs.declared.command_words.Words.TheVariants.{Direct, Draw, Help, Label, Live, Own, Replay, Version}
use Rattle.sl_cli.specs.declared.command_words.Words.{Words}
use Rattle.sl_direct.specs.declared.action.Action.{Action}
use Rattle.sl_words.proofs.CaseLaws.{none_some, true_is_false}
use Rattle.sl_words.proofs.WordLaws.{and_true}
use Rattle.sl_words.specs.Words.{choose}
use Rattle.std.proofs.Common.{Bool, List, None, Option, Some, [], ap, append_assoc, append-nil, eqb, false, inl, inr, refl, subst, sym, true, ℕ, ◌&&◌, ◌++◌, ◌||◌, ◌≡◌, ◌∙◌, ◌∷◌, ◌⊎◌}
use Rattle.std.proofs.lemmas.Bool.{cases_Bool, eqb-true, not-true}
use Rattle.std.proofs.lemmas.Slice.Eq.{bytes_eq-Decides}
use Rattle.std.specs.List.{list_all}
use Rattle.std.specs.Prelude.{bytes_eq, codes, if◌then◌else◌, not, option_and_then, option_map}

-- ---- one that is given

-- How far the words are read, where no option waits and options are taken.
abbrev given : List Use → Taken
given us = record { uses = us; waiting = None; only_action = false }

-- An option that the reader knows by its letter.
pub record IsOption (name : List ℕ) (letter : ℕ) : Type 0 where
  pub known : letter_named name ≡ Some letter
  pub named : option_named letter ≡ Some name
  pub no_hyphen : eqb letter 45 ≡ false

-- One more is given.
use_taken : (before : List Use) (name value : List ℕ) (waiting : Option (List ℕ)) → is_given name before ≡ false
    → with_use (record { uses = before; waiting = waiting; only_action = false }) name value ≡ Some (given (before ++ use_of name value ∷ []))
use_taken before name value waiting new = rw new refl

-- Its two words, or its one.
option_read : (before : List Use) (name value : List ℕ) (letter : ℕ) (rest : List (List ℕ)) → IsOption name letter → is_given name before ≡ false
    → uses_from (given before) (option_words letter value ++ rest) ≡ uses_from (given (before ++ use_of name value ∷ [])) rest
option_read before name value letter rest is new = go (is_plain value) refl
  where
    go : (b : Bool) → is_plain value ≡ b
        → uses_from (given before) ((if b then (45 ∷ letter ∷ []) ∷ value ∷ [] else (45 ∷ letter ∷ 61 ∷ value) ∷ []) ++ rest)
        ≡ uses_from (given (before ++ use_of name value ∷ [])) rest
    go true plain = rw (is.no_hyphen, is.named, plain) (ap (option_and_then (λ next. uses_from next rest)) (use_taken before name value (Some name) new))
    go false plain = rw (is.no_hyphen, is.named) (ap (option_and_then (λ next. uses_from next rest)) (use_taken before name value None new))

-- The action's word.
action_read : (before : List Use) (value : List ℕ) (rest : List (List ℕ)) → is_plain value ≡ true → is_given (codes "action") before ≡ false
    → uses_from (given before) (value ∷ rest) ≡ uses_from (given (before ++ use_of (codes "action") value ∷ [])) rest
action_read before value rest plain new = rw plain (ap (option_and_then (λ next. uses_from next rest)) (use_taken before (codes "action") value None new))

-- A name is an option's, or no letter stands for it.
option_at : (name known : List ℕ) (letter : ℕ) → bytes_eq known name ≡ true → IsOption known letter → IsOption name letter
option_at name known letter e is = subst (λ n. IsOption n letter) ((bytes_eq-Decides known name).0 e) is

name_cases : (name : List ℕ) → ((letter : ℕ) × IsOption name letter) ⊎ (letter_named name ≡ None)
name_cases name = elim (cases_Bool (bytes_eq (codes "lockspace") name)) [
  | inl e ↦ inl (115, option_at name (codes "lockspace") 115 e (record { known = refl; named = refl; no_hyphen = refl }))
  | inr s ↦ elim (cases_Bool (bytes_eq (codes "resource") name)) [
    | inl e ↦ inl (114, option_at name (codes "resource") 114 e (record { known = refl; named = refl; no_hyphen = refl }))
    | inr r ↦ elim (cases_Bool (bytes_eq (codes "hosts") name)) [
      | inl e ↦ inl (110, option_at name (codes "hosts") 110 e (record { known = refl; named = refl; no_hyphen = refl }))
      | inr n ↦ elim (cases_Bool (bytes_eq (codes "stretch") name)) [
        | inl e ↦ inl (100, option_at name (codes "stretch") 100 e (record { known = refl; named = refl; no_hyphen = refl }))
        | inr d ↦ elim (cases_Bool (bytes_eq (codes "geometry") name)) [
          | inl e ↦ inl (103, option_at name (codes "geometry") 103 e (record { known = refl; named = refl; no_hyphen = refl }))
          | inr g ↦ elim (cases_Bool (bytes_eq (codes "format") name)) [
            | inl e ↦ inl (118, option_at name (codes "format") 118 e (record { known = refl; named = refl; no_hyphen = refl }))
            | inr v ↦ inr (rw (s, r, n, d, g, v) refl)
          ]
        ]
      ]
    ]
  ]
]

-- Any use.
use_read : (before : List Use) (u : Use) (rest : List (List ℕ)) → is_use u ≡ true → is_given u.name before ≡ false
    → uses_from (given before) (use_words u ++ rest) ≡ uses_from (given (before ++ u ∷ [])) rest
use_read before u rest is new = elim (name_cases u.name) [
  | inl option ↦ rw option.1.known (option_read before u.name u.value option.0 rest option.1 new)
  | inr none ↦
      let action : (bytes_eq u.name (codes "action") && is_plain u.value) ≡ true = rw none at is in
      let both = and_true _ _ action in
      let name_is : u.name ≡ codes "action" = (bytes_eq-Decides u.name (codes "action")).0 both.0 in
      rw none (action_read before u.value rest both.1 (ap (λ n. is_given n before) (sym name_is) ∙ new)
      ∙ ap (λ n. uses_from (given (before ++ use_of n u.value ∷ [])) rest) (sym name_is))
]

-- All of them.
uses_read : (us before : List Use) → list_all is_use us ≡ true → are_apart before us ≡ true → uses_from (given before) (spelled us) ≡ Some (before ++ us)
uses_read [] before are apart = ap Some (sym (append-nil before))
uses_read (u ∷ us) before are apart =
    let is = and_true (is_use u) _ are in
    let new = and_true (not (is_given u.name before)) _ apart in
    use_read before u (spelled us) is.0 (not-true (is_given u.name before) new.0) ∙ uses_read us (before ++ u ∷ []) is.1 new.1 ∙ ap Some (append_assoc before (u ∷ []) us)

-- ---- nor words of a label

-- What begins with a hyphen is no action.
timed_hyphen : (cs : List ℕ) (rest : List (List ℕ)) → is_timed (codes "direct" ∷ (45 ∷ cs) ∷ rest) ≡ false
timed_hyphen cs [] = refl
timed_hyphen cs (d ∷ ds) = refl

-- No option has the letter of times.
other_letter : (name : List ℕ) (letter : ℕ) → IsOption name letter → eqb letter 116 ≡ false
other_letter name letter is = elim (cases_Bool (eqb letter 116)) [
  | inl same ↦ absurd (none_some name (subst (λ l. option_named l ≡ Some name) (eqb-true letter 116 same) is.named))
  | inr apart ↦ apart
]

and_left_false : (a b : Bool) → a ≡ false → (a && b) ≡ false
and_left_false true b is = absurd cc
and_left_false false b is = refl

and_right_false : (a b : Bool) → b ≡ false → (a && b) ≡ false
and_right_false true b is = is
and_right_false false b is = refl

option_not_timed : (value : List ℕ) (name : List ℕ) (letter : ℕ) (action : List ℕ) (rest : List (List ℕ)) → IsOption name letter
    → is_timed (codes "direct" ∷ action ∷ (option_words letter value ++ rest)) ≡ false
option_not_timed value name letter action rest is = by (is_plain value)
  where
    by : (b : Bool) → is_timed (codes "direct" ∷ action ∷ ((if b then (45 ∷ letter ∷ []) ∷ value ∷ [] else (45 ∷ letter ∷ 61 ∷ value) ∷ []) ++ rest)) ≡ false
    by true = and_right_false (bytes_eq action (codes "init")) _ (and_left_false (eqb letter 116) _ (other_letter name letter is))
    by false = and_right_false (bytes_eq action (codes "init")) _ (and_left_false (eqb letter 116) _ (other_letter name letter is))

option_first : (value : List ℕ) (letter : ℕ) (rest : List (List ℕ)) → is_timed (codes "direct" ∷ (option_words letter value ++ rest)) ≡ false
option_first value letter rest = by (is_plain value)
  where
    by : (b : Bool) → is_timed (codes "direct" ∷ ((if b then (45 ∷ letter ∷ []) ∷ value ∷ [] else (45 ∷ letter ∷ 61 ∷ value) ∷ []) ++ rest)) ≡ false
    by true = timed_hyphen (letter ∷ []) (value ∷ rest)
    by false = timed_hyphen (letter ∷ 61 ∷ value) rest

is_action : (u : Use) → is_use u ≡ true → letter_named u.name ≡ None → u.name ≡ codes "action"
is_action u is none =
    let action : (bytes_eq u.name (codes "action") && is_plain u.value) ≡ true = rw none at is in
    (bytes_eq-Decides u.name (codes "action")).0 (and_true _ _ action).0

-- Two actions are not apart.
no_second_action : (u v : Use) (us : List Use) → u.name ≡ codes "action" → v.name ≡ codes "action" → are_apart [] (u ∷ v ∷ us) ≡ true → ⊥
no_second_action u v us first second apart =
    let rest : are_apart (u ∷ []) (v ∷ us) ≡ true = (and_true (not (is_given u.name [])) (are_apart (u ∷ []) (v ∷ us)) apart).1 in
    let new : is_given v.name (u ∷ []) ≡ false = not-true (is_given v.name (u ∷ [])) (and_true (not (is_given v.name (u ∷ []))) (are_apart (u ∷ v ∷ []) us) rest).0 in
    true_is_false (sym (ap (λ n. is_given n (u ∷ [])) second ∙ ap (λ n. bytes_eq n (codes "action") || false) first) ∙ new)

not_timed : (us : List Use) → list_all is_use us ≡ true → are_apart [] us ≡ true → is_timed (codes "direct" ∷ spelled us) ≡ false
not_timed [] are apart = refl
not_timed (u ∷ us) are apart = elim (name_cases u.name) [
  | inl option ↦ rw option.1.known (option_first u.value option.0 (spelled us))
  | inr none ↦ rw none (behind us (and_true (is_use u) _ are).1 apart (is_action u (and_true (is_use u) _ are).0 none))
]
  where
    behind : (us : List Use) → list_all is_use us ≡ true → are_apart [] (u ∷ us) ≡ true → u.name ≡ codes "action" → is_timed (codes "direct" ∷ u.value ∷ spelled us) ≡ false
    behind [] are apart named = refl
    behind (v ∷ vs) are apart named = elim (name_cases v.name) [
      | inl option ↦ rw option.1.known (option_not_timed v.value v.name option.0 u.value (spelled vs) option.1)
      | inr none ↦ absurd (no_second_action u v vs named (is_action v (and_true (is_use v) _ are).0 none) apart)
    ]

said_direct : (ws : List (List ℕ)) → is_timed (codes "direct" ∷ ws) ≡ false → said_in (codes "direct" ∷ ws) ≡ command_in (codes "direct" ∷ ws)
said_direct [] other = refl
said_direct (w ∷ []) other = refl
said_direct (w ∷ v ∷ ws) other = rw other refl

pub options_come_in_any_order : OptionsComeInAnyOrder
options_come_in_any_order us a are gives is =
    said_direct (spelled us) (not_timed us are.0 are.1)
    ∙ (ap (option_and_then (λ uses. option_map (λ x. Direct x) (action_in (given_by uses)))) (uses_read us [] are.0 are.1)
    ∙ ap (option_map (λ x. Direct x)) ((actions_have_one_text (given_by us) a).1 (is, gives)))

-- ---- no other words

direct_by : (rest : List (List ℕ)) (a : Action) (uses : Option (List Use)) → uses_from nothing_taken rest ≡ uses
    → option_and_then (λ us. option_map (λ x. Direct x) (action_in (given_by us))) uses ≡ Some (Direct a) → IsAsked a × AsksFor a rest
direct_by rest a None read h = absurd cc
direct_by rest a (Some us) read h = asked (action_in (given_by us)) refl h
  where
    asked : (o : Option Action) → action_in (given_by us) ≡ o → option_map (λ x. Direct x) o ≡ Some (Direct a) → IsAsked a × AsksFor a rest
    asked None e h = absurd cc
    asked (Some b) e h =
        let same : b ≡ a = cc in
        let is = (actions_have_one_text (given_by us) a).0 (e ∙ ap Some same) in
        (is.0, record { uses = us; read = read; given = is.1 })

-- What the words of a command ask for.
abbrev Asks : Action → List (List ℕ) → Type 0
Asks a ws = IsAsked a × (rest : List (List ℕ)) × (ws ≡ codes "direct" ∷ rest) × AsksFor a rest

-- No other command asks for one.
some_same : (v w : Words) → Some v ≡ Some w → v ≡ w
some_same v w is = cc

no_bare : (b : Bool) (w : Words) (a : Action) → (w ≡ Direct a → ⊥) → choose b w ≡ Some (Direct a) → ⊥
no_bare true w a other h = other (some_same w (Direct a) h)
no_bare false w a other h = absurd cc

no_replay : (a : Action) → Replay ≡ Direct a → ⊥
no_replay a h = absurd cc

-- The words ask for it.
abbrev AsksDirect : Option Words → Action → Type 0
AsksDirect o a = o ≡ Some (Direct a)

no_gen : (o : Option Seed) (a : Action) → AsksDirect (option_map generated o) a → ⊥
no_gen None a h = absurd cc
no_gen (Some s) a h = absurd cc

no_schedule : (o : Option Seed) (a : Action) → AsksDirect (option_map scheduled o) a → ⊥
no_schedule None a h = absurd cc
no_schedule (Some s) a h = absurd cc

no_lines : (b : Bool) (first last : ℕ) (a : Action) → AsksDirect (choose b (Draw first last)) a → ⊥
no_lines true first last a h = absurd cc
no_lines false first last a h = absurd cc

no_draw : (ws : List (List ℕ)) (a : Action) → AsksDirect (spanned_in ws) a → ⊥
no_draw [] a h = absurd cc
no_draw (v ∷ []) a h = absurd cc
no_draw (v ∷ w ∷ []) a h = no_lines (is_line 1 v && is_line (number_of v) w) (number_of v) (number_of w) a h
no_draw (v ∷ w ∷ x ∷ []) a h = absurd cc
no_draw (v ∷ w ∷ x ∷ y ∷ []) a h = absurd cc
no_draw (v ∷ w ∷ x ∷ y ∷ z ∷ ws) a h = absurd cc

no_folder : (o : Option (List ℕ)) (anew keeps events : Bool) (a : Action) → AsksDirect (option_map (λ w. Live w anew keeps events) o) a → ⊥
no_folder None anew keeps events a h = absurd cc
no_folder (Some w) anew keeps events a h = absurd cc

no_placing : (o : Option Placing) (a : Action) → AsksDirect (option_and_then placed_in o) a → ⊥
no_placing None a h = absurd cc
no_placing (Some p) a h = no_folder p.folder p.anew p.keeps p.events a h

command_asks : (ws : List (List ℕ)) (a : Action) → command_in ws ≡ Some (Direct a) → Asks a ws
command_asks [] a h = absurd cc
command_asks (w ∷ ws) a h = elim (cases_Bool (bytes_eq (codes "replay") w)) [
  | inl replay ↦ absurd (no_bare (ends_here ws) Replay a (no_replay a) (rw replay at h))
  | inr other ↦ span_asks w ws a (rw other at h)
]
  where
    direct_asks : (w : List ℕ) (ws : List (List ℕ)) (a : Action)
        → (if bytes_eq (codes "direct") w then direct_in ws else if bytes_eq (codes "live") w then live_in ws else None) ≡ Some (Direct a) → Asks a (w ∷ ws)
    direct_asks w ws a h = elim (cases_Bool (bytes_eq (codes "direct") w)) [
      | inl direct ↦
          let is = direct_by ws a (uses_from nothing_taken ws) refl (rw direct at h) in
          (is.0, ws, ap (λ v. v ∷ ws) (sym ((bytes_eq-Decides (codes "direct") w).0 direct)), is.1)
      | inr no_direct ↦ elim (cases_Bool (bytes_eq (codes "live") w)) [
        | inl live ↦ absurd (no_placing (placed_from false nothing_placed ws) a (rw (no_direct, live) at h))
        | inr other ↦ absurd (none_some (Direct a) (rw (no_direct, other) at h))
      ]
    ]

    told_asks : (w : List ℕ) (ws : List (List ℕ)) (a : Action)
        → (if bytes_eq (codes "schedule") w then schedule_in ws
        else if bytes_eq (codes "direct") w then direct_in ws
        else if bytes_eq (codes "live") w then live_in ws
        else None)
        ≡ Some (Direct a) → Asks a (w ∷ ws)
    told_asks w ws a h = elim (cases_Bool (bytes_eq (codes "schedule") w)) [
      | inl told ↦ absurd (no_schedule (seeded_in (without_dashes ws)) a (rw told at h))
      | inr other ↦ direct_asks w ws a (rw other at h)
    ]

    seed_asks : (w : List ℕ) (ws : List (List ℕ)) (a : Action)
        → (if bytes_eq (codes "gen") w then gen_in ws
        else if bytes_eq (codes "schedule") w then schedule_in ws
        else if bytes_eq (codes "direct") w then direct_in ws
        else if bytes_eq (codes "live") w then live_in ws
        else None)
        ≡ Some (Direct a) → Asks a (w ∷ ws)
    seed_asks w ws a h = elim (cases_Bool (bytes_eq (codes "gen") w)) [
      | inl gen ↦ absurd (no_gen (seeded_in (without_dashes ws)) a (rw gen at h))
      | inr other ↦ told_asks w ws a (rw other at h)
    ]

    span_asks : (w : List ℕ) (ws : List (List ℕ)) (a : Action)
        → (if bytes_eq (codes "draw") w then draw_in ws
        else if bytes_eq (codes "gen") w then gen_in ws
        else if bytes_eq (codes "schedule") w then schedule_in ws
        else if bytes_eq (codes "direct") w then direct_in ws
        else if bytes_eq (codes "live") w then live_in ws
        else None)
        ≡ Some (Direct a) → Asks a (w ∷ ws)
    span_asks w ws a h = elim (cases_Bool (bytes_eq (codes "draw") w)) [
      | inl draw ↦ absurd (no_draw (without_dashes ws) a (rw draw at h))
      | inr other ↦ seed_asks w ws a (rw other at h)
    ]

no_help : (a : Action) → Some Help ≡ Some (Direct a) → ⊥
no_help a h = absurd cc

no_version : (a : Action) → Some Version ≡ Some (Direct a) → ⊥
no_version a h = absurd cc

-- Nor do words of one machine, or of a label.
no_options_ask : (o : Option Options) (folder m : List ℕ) (a : Action) → AsksDirect (option_map (λ x. Own folder (number_of m) x.watchdog x.syncs x.keeps x.events) o) a → ⊥
no_options_ask None folder m a h = absurd cc
no_options_ask (Some x) folder m a h = absurd cc

no_own : (ws : List (List ℕ)) (a : Action) → own_in ws ≡ Some (Direct a) → ⊥
no_own [] a h = absurd cc
no_own (c ∷ []) a h = absurd cc
no_own (c ∷ f ∷ []) a h = absurd cc
no_own (c ∷ f ∷ d ∷ []) a h = absurd cc
no_own (c ∷ f ∷ d ∷ m ∷ ws) a h = no_options_ask (if is_folder f && is_machine m then options_from no_options ws else None) f m a h

no_label_word : (l : LockspaceArg) (g : Sizes) (t : TimingNumbers) (grace : ℕ) (a : Action) → Label l g t grace ≡ Direct a → ⊥
no_label_word l g t grace a h = absurd cc

no_label : (t : List ℕ) (o : Option Words) (a : Action) → labelled t o ≡ Some (Direct a) → ⊥
no_label t (Some (Direct (InitLockspace l g))) a h = no_bare (is_times t) (Label l g (timing_of t) (grace_of t)) a (no_label_word l g (timing_of t) (grace_of t) a) h
no_label t o a h = absurd cc

no_timed : (ws : List (List ℕ)) (a : Action) → timed_in ws ≡ Some (Direct a) → ⊥
no_timed [] a h = absurd cc
no_timed (c ∷ []) a h = absurd cc
no_timed (c ∷ i ∷ []) a h = absurd cc
no_timed (c ∷ i ∷ d ∷ []) a h = absurd cc
no_timed (c ∷ i ∷ d ∷ t ∷ ws) a h = no_label t (command_in (c ∷ i ∷ ws)) a h

pub only_its_words_ask : OnlyItsWordsAskForAnAction
only_its_words_ask ws a h = elim (cases_Bool (is_only (codes "--help") (codes "-h") ws)) [
  | inl help ↦ absurd (no_help a (rw help at h))
  | inr not_help ↦ elim (cases_Bool (is_only (codes "--version") (codes "-V") ws)) [
    | inl version ↦ absurd (no_version a (rw (not_help, version) at h))
    | inr not_version ↦ elim (cases_Bool (is_own ws)) [
      | inl own ↦ absurd (no_own ws a (rw (not_help, not_version, own) at h))
      | inr not_own ↦ elim (cases_Bool (is_timed ws)) [
        | inl timed ↦ absurd (no_timed ws a (rw (not_help, not_version, not_own, timed) at h))
        | inr other ↦ command_asks ws a (rw (not_help, not_version, not_own, other) at h)
      ]
    ]
  ]
]
