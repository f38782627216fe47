-- The parser takes the words of a seed, behind `gen` and `schedule`, and of lines, behind `draw`, that the reader takes, and finds in them what the reader finds: up to four words that are no options,
-- one behind the other, and a first `--` anywhere.
use Rattle.clap.proofs.OnLiterals.{clap_on_literals}
use Rattle.clap.specs.Faults.{check_fault, defaults_fault, settle_fault, turn_fault, walk_fault}
use Rattle.clap.specs.Kinds.{Kinds, or_else}
use Rattle.clap.specs.Simple.{Shape}
use Rattle.clap.specs.Walk.{Held, Row, Text, Walk, finished, idle, nothing_held, rows_after, settled, settled_rows, walk_from, walked}
use Rattle.sl_cli.proofs.BareCommands.{level, or_nothing}
use Rattle.sl_cli.proofs.BuiltCommand.{no_defaults, no_faults, row_for, seed_command, seed_rules}
use Rattle.sl_cli.proofs.Letters.{behind, first_char}
use Rattle.sl_cli.proofs.ReaderSteps.{AreTexts, word_cases}
use Rattle.sl_cli.proofs.ParserTurns.{Fails, Pending, Plain, fails_with, first_fails, is_short, no_dashes, no_long, walk_at}
use Rattle.sl_cli.specs.CommandWords.{Seed, is_event_count, is_line, is_machine_count, is_seed, seeded_in, seeding_in, span_in, spanned_in, use_of, without_dashes}
use Rattle.sl_cli.specs.ParserMeets.{seeding_of}
use Rattle.sl_cli.specs.declared.command_words.Words.{Words}
use Rattle.std.proofs.Common.{Bool, List, None, Option, Some, [], ap, eqb, false, inl, inr, refl, subst, sym, true, ℕ, ◌&&◌, ◌≡◌, ◌∙◌, ◌∷◌, ◌⊎◌}
use Rattle.std.proofs.lemmas.Bool.{cases_Bool, eqb-true}
use Rattle.std.specs.List.{fold}
use Rattle.std.specs.Prelude.{bytes_eq, codes, option_map, slice_get}
use Rattle.std.specs.Str.{IsUtf8, chars}

-- ---- where the parser stands

-- The words that were taken.
data Got : Type 0 where
  none_got : Got
  one_got : Text → Got
  two_got : Text → Text → Got
  three_got : Text → Text → Text → Got
  all_got : Text → Text → Text → Text → Got

-- They stand before what is left.
abbrev before : Got → List Text → List Text
before none_got ws = ws
before (one_got s) ws = s ∷ ws
before (two_got s h) ws = s ∷ h ∷ ws
before (three_got s h e) ws = s ∷ h ∷ e ∷ ws
before (all_got s h e f) ws = s ∷ h ∷ e ∷ f ∷ ws

abbrev row : Text → Text → Row
row name v = row_for (use_of name v)

-- The rows so far, the value that is being read, and the place of the next word.
abbrev rows_at : Got → List Row
rows_at none_got = []
rows_at (one_got s) = []
rows_at (two_got s h) = row (codes "seed") s ∷ []
rows_at (three_got s h e) = row (codes "seed") s ∷ row (codes "hosts") h ∷ []
rows_at (all_got s h e f) = row (codes "seed") s ∷ row (codes "hosts") h ∷ row (codes "events") e ∷ []

abbrev pending_at : Got → Pending
pending_at none_got = None
pending_at (one_got s) = Some (codes "seed", s ∷ [])
pending_at (two_got s h) = Some (codes "hosts", h ∷ [])
pending_at (three_got s h e) = Some (codes "events", e ∷ [])
pending_at (all_got s h e f) = Some (codes "format", f ∷ [])

abbrev place_at : Got → ℕ
place_at none_got = 1
place_at (one_got s) = 2
place_at (two_got s h) = 3
place_at (three_got s h e) = 4
place_at (all_got s h e f) = 5

abbrev stand : Got → Bool → Walk
stand g trailing = walk_at (rows_at g) (pending_at g) idle (place_at g) trailing

-- What a command is called changes nothing of what is made of its words.
abbrev generate : Shape
generate = seed_command (codes "gen")

abbrev turn : Walk → Text → Kinds
turn w word = turn_fault generate [] w word

abbrev after : Walk → Text → Walk
after w word = walked seed_rules [] w word

abbrev held_after : Walk → List Text → Held
held_after w ws = (fold (walked seed_rules []) w ws).held

abbrev rest : Walk → List Text → Kinds
rest w ws = or_else (walk_fault generate [] w ws) (settle_fault seed_rules false (held_after w ws))

abbrev end_rows : Walk → List Text → List Row
end_rows w ws = settled_rows seed_rules (held_after w ws).pending (held_after w ws).rows

-- Who reads the words: `gen` or `schedule`, each of which says something of a seed, or `draw`.
pub data Asking : Type 0 where
  for_seeds : (Seed → Words) → Asking
  for_spans : Asking

-- What the rows ask for.
abbrev pub says : Asking → List Row → Option Words
says (for_seeds make) rows = option_map make (seeding_in (seeding_of rows).seed (seeding_of rows).hosts (seeding_of rows).events (seeding_of rows).format)
says for_spans rows = span_in (seeding_of rows).seed (seeding_of rows).hosts (seeding_of rows).events (seeding_of rows).format

-- What the words ask for, as the reader has it.
abbrev pub asked_in : Asking → List Text → Option Words
asked_in (for_seeds make) ws = option_map make (seeded_in ws)
asked_in for_spans ws = spanned_in ws

five_ask : (k : Asking) (a b c d e : Text) (ws : List Text) → asked_in k (a ∷ b ∷ c ∷ d ∷ e ∷ ws) ≡ None
five_ask (for_seeds make) a b c d e ws = refl
five_ask for_spans a b c d e ws = refl

-- ---- one word

-- It is one more value, behind `--` in any case.
abbrev IsValue : Bool → Text → Type 0
IsValue true word = Unit {0}
IsValue false word = Plain word

one_more : (word : Text) (trailing : Bool) → IsValue trailing word
    → (turn (stand none_got trailing) word ≡ []) × (after (stand none_got trailing) word ≡ stand (one_got word) trailing)
unfolding clap_on_literals
one_more word true v = (refl, refl)
one_more word false p = (rw (p.no_dashes, p.no_long, p.no_short) refl, rw (p.no_dashes, p.no_long, p.no_short) refl)

two_more : (s word : Text) (trailing : Bool) → IsValue trailing word
    → (turn (stand (one_got s) trailing) word ≡ []) × (after (stand (one_got s) trailing) word ≡ stand (two_got s word) trailing)
unfolding clap_on_literals
two_more s word true v = (refl, refl)
two_more s word false p = (rw (p.no_dashes, p.no_long, p.no_short) refl, rw (p.no_dashes, p.no_long, p.no_short) refl)

three_more : (s h word : Text) (trailing : Bool) → IsValue trailing word
    → (turn (stand (two_got s h) trailing) word ≡ []) × (after (stand (two_got s h) trailing) word ≡ stand (three_got s h word) trailing)
unfolding clap_on_literals
three_more s h word true v = (refl, refl)
three_more s h word false p = (rw (p.no_dashes, p.no_long, p.no_short) refl, rw (p.no_dashes, p.no_long, p.no_short) refl)

four_more : (s h e word : Text) (trailing : Bool) → IsValue trailing word
    → (turn (stand (three_got s h e) trailing) word ≡ []) × (after (stand (three_got s h e) trailing) word ≡ stand (all_got s h e word) trailing)
unfolding clap_on_literals
four_more s h e word true v = (refl, refl)
four_more s h e word false p = (rw (p.no_dashes, p.no_long, p.no_short) refl, rw (p.no_dashes, p.no_long, p.no_short) refl)

-- A fifth is too many.
too_many : (s h e f word : Text) (trailing : Bool) → IsValue trailing word → Fails (turn (stand (all_got s h e f) trailing) word)
unfolding clap_on_literals
too_many s h e f word true v = fails_with _ _
too_many s h e f word false p = rw (p.no_dashes, p.no_long, p.no_short) (fails_with _ _)

dashes_turn : (rows : List Row) (pending : Pending) (position : ℕ) → turn (walk_at rows pending idle position false) (45 ∷ 45 ∷ []) ≡ []
dashes_turn rows pending position = refl

dashes_after : (rows : List Row) (pending : Pending) (position : ℕ) → after (walk_at rows pending idle position false) (45 ∷ 45 ∷ []) ≡ walk_at rows pending idle position true
unfolding clap_on_literals
dashes_after rows pending position = refl

-- No option is known.
long_fails : (rows : List Row) (pending : Pending) (position c : ℕ) (cs : Text) → Fails (turn (walk_at rows pending idle position false) (45 ∷ 45 ∷ c ∷ cs))
long_fails rows pending position c cs = fails_with _ _

short_fails : (rows : List Row) (pending : Pending) (position c x : ℕ) (cs : Text) → eqb c 45 ≡ false → slice_get (chars (c ∷ cs)) 0 ≡ Some x
    → Fails (turn (walk_at rows pending idle position false) (45 ∷ c ∷ cs))
unfolding clap_on_literals
short_fails rows pending position c x cs no_hyphen first =
    rw (no_dashes c cs no_hyphen, no_long c cs no_hyphen, is_short c cs no_hyphen) (rw first (fails_with _ _))

-- ---- from word to word

turn_fails : (w : Walk) (word : Text) (ws : List Text) → Fails (turn w word) → Fails (rest w (word ∷ ws))
unfolding clap_on_literals
turn_fails w word ws h = first_fails _ _ (first_fails (turn w word) _ h)

turn_passes : (w v : Walk) (word : Text) (ws : List Text) → turn w word ≡ [] → after w word ≡ v → rest w (word ∷ ws) ≡ rest v ws
unfolding clap_on_literals
turn_passes w v word ws h is = rw h (ap (λ u. rest u ws) is)

rows_pass : (w v : Walk) (word : Text) (ws : List Text) → after w word ≡ v → end_rows w (word ∷ ws) ≡ end_rows v ws
rows_pass w v word ws is = ap (λ u. end_rows u ws) is

-- What is left of the words, as the reader takes them.
abbrev left_of : Bool → List Text → List Text
left_of true ws = ws
left_of false ws = without_dashes ws

-- Both take the words and say the same, or neither does.
abbrev Agree : Asking → Got → Bool → List Text → Type 0
Agree k g trailing ws =
    ((rest (stand g trailing) ws ≡ []) × (says k (end_rows (stand g trailing) ws) ≡ asked_in k (before g (left_of trailing ws))))
    ⊎ (Fails (rest (stand g trailing) ws) × (asked_in k (before g (left_of trailing ws)) ≡ None))

value_left : (word : Text) (ws : List Text) (trailing : Bool) → IsValue trailing word → left_of trailing (word ∷ ws) ≡ word ∷ left_of trailing ws
value_left word ws true v = refl
value_left word ws false p = rw p.no_dashes refl

-- Behind a word that is taken the rest decides.
carried : (k : Asking) (g n : Got) (trailing behind : Bool) (word : Text) (ws : List Text) → turn (stand g trailing) word ≡ [] → after (stand g trailing) word ≡ stand n behind
    → before g (left_of trailing (word ∷ ws)) ≡ before n (left_of behind ws) → Agree k n behind ws → Agree k g trailing (word ∷ ws)
carried k g n trailing behind word ws passes goes same (inl both) = inl (
  turn_passes (stand g trailing) (stand n behind) word ws passes goes ∙ both.0,
  ap (says k) (rows_pass (stand g trailing) (stand n behind) word ws goes) ∙ both.1 ∙ ap (asked_in k) (sym same),
)
carried k g n trailing behind word ws passes goes same (inr neither) = inr (
  λ none. neither.0 (sym (turn_passes (stand g trailing) (stand n behind) word ws passes goes) ∙ none),
  ap (asked_in k) same ∙ neither.1,
)

refused : (k : Asking) (g : Got) (trailing : Bool) (word : Text) (ws : List Text) → Fails (turn (stand g trailing) word) → asked_in k (before g (left_of trailing (word ∷ ws))) ≡ None
    → Agree k g trailing (word ∷ ws)
refused k g trailing word ws fails says_none = inr (turn_fails (stand g trailing) word ws fails, says_none)

-- ---- the end

at_end : (k : Asking) (g : Got) (trailing : Bool) → Agree k g trailing []
unfolding clap_on_literals
at_end (for_seeds make) none_got true = inl (refl, refl)
at_end (for_seeds make) none_got false = inl (refl, refl)
at_end (for_seeds make) (one_got s) true = inl (refl, refl)
at_end (for_seeds make) (one_got s) false = inl (refl, refl)
at_end (for_seeds make) (two_got s h) true = inl (refl, refl)
at_end (for_seeds make) (two_got s h) false = inl (refl, refl)
at_end (for_seeds make) (three_got s h e) true = inl (refl, refl)
at_end (for_seeds make) (three_got s h e) false = inl (refl, refl)
at_end (for_seeds make) (all_got s h e f) true = inl (refl, refl)
at_end (for_seeds make) (all_got s h e f) false = inl (refl, refl)
at_end for_spans none_got true = inl (refl, refl)
at_end for_spans none_got false = inl (refl, refl)
at_end for_spans (one_got s) true = inl (refl, refl)
at_end for_spans (one_got s) false = inl (refl, refl)
at_end for_spans (two_got s h) true = inl (refl, refl)
at_end for_spans (two_got s h) false = inl (refl, refl)
at_end for_spans (three_got s h e) true = inl (refl, refl)
at_end for_spans (three_got s h e) false = inl (refl, refl)
at_end for_spans (all_got s h e f) true = inl (refl, refl)
at_end for_spans (all_got s h e f) false = inl (refl, refl)

-- ---- a value

value_agrees : (k : Asking) (g : Got) (trailing : Bool) (word : Text) (ws : List Text) → IsValue trailing word → ((n : Got) → Agree k n trailing ws) → Agree k g trailing (word ∷ ws)
value_agrees k none_got trailing word ws v later =
    let more = one_more word trailing v in
    carried k none_got (one_got word) trailing trailing word ws more.0 more.1 (value_left word ws trailing v) (later (one_got word))
value_agrees k (one_got s) trailing word ws v later =
    let more = two_more s word trailing v in
    carried k (one_got s) (two_got s word) trailing trailing word ws more.0 more.1 (ap (λ us. s ∷ us) (value_left word ws trailing v)) (later (two_got s word))
value_agrees k (two_got s h) trailing word ws v later =
    let more = three_more s h word trailing v in
    carried k (two_got s h) (three_got s h word) trailing trailing word ws more.0 more.1 (ap (λ us. s ∷ h ∷ us) (value_left word ws trailing v)) (later (three_got s h word))
value_agrees k (three_got s h e) trailing word ws v later =
    let more = four_more s h e word trailing v in
    carried k (three_got s h e) (all_got s h e word) trailing trailing word ws more.0 more.1 (ap (λ us. s ∷ h ∷ e ∷ us) (value_left word ws trailing v)) (later (all_got s h e word))
value_agrees k (all_got s h e f) trailing word ws v later =
    refused k (all_got s h e f) trailing word ws (too_many s h e f word trailing v) (ap (λ us. asked_in k (s ∷ h ∷ e ∷ f ∷ us)) (value_left word ws trailing v) ∙ five_ask k s h e f word (left_of trailing ws))

-- ---- a word that looks like an option

and_false : (b : Bool) → (b && false) ≡ false
and_false true = refl
and_false false = refl

-- It is no number, and no format.
no_number : (k : Asking) (g : Got) (c : ℕ) (cs : Text) (ws : List Text) → asked_in k (before g ((45 ∷ c ∷ cs) ∷ ws)) ≡ None
no_number (for_seeds make) none_got c cs [] = refl
no_number (for_seeds make) none_got c cs (x ∷ []) = refl
no_number (for_seeds make) none_got c cs (x ∷ y ∷ []) = refl
no_number (for_seeds make) none_got c cs (x ∷ y ∷ z ∷ []) = refl
no_number (for_seeds make) none_got c cs (x ∷ y ∷ z ∷ u ∷ ws) = refl
no_number (for_seeds make) (one_got s) c cs [] = refl
no_number (for_seeds make) (one_got s) c cs (x ∷ []) = rw (and_false (is_seed s)) refl
no_number (for_seeds make) (one_got s) c cs (x ∷ y ∷ []) = rw (and_false (is_seed s)) refl
no_number (for_seeds make) (one_got s) c cs (x ∷ y ∷ z ∷ ws) = refl
no_number (for_seeds make) (two_got s h) c cs [] = rw (and_false (is_machine_count h)) (rw (and_false (is_seed s)) refl)
no_number (for_seeds make) (two_got s h) c cs (x ∷ []) = rw (and_false (is_machine_count h)) (rw (and_false (is_seed s)) refl)
no_number (for_seeds make) (two_got s h) c cs (x ∷ y ∷ ws) = refl
no_number (for_seeds make) (three_got s h e) c cs [] = rw (and_false (is_event_count e)) (rw (and_false (is_machine_count h)) (rw (and_false (is_seed s)) refl))
no_number (for_seeds make) (three_got s h e) c cs (x ∷ ws) = refl
no_number (for_seeds make) (all_got s h e f) c cs ws = refl
no_number for_spans none_got c cs [] = refl
no_number for_spans none_got c cs (x ∷ []) = refl
no_number for_spans none_got c cs (x ∷ y ∷ []) = refl
no_number for_spans none_got c cs (x ∷ y ∷ z ∷ []) = refl
no_number for_spans none_got c cs (x ∷ y ∷ z ∷ u ∷ ws) = refl
no_number for_spans (one_got s) c cs [] = rw (and_false (is_line 1 s)) refl
no_number for_spans (one_got s) c cs (x ∷ []) = refl
no_number for_spans (one_got s) c cs (x ∷ y ∷ []) = refl
no_number for_spans (one_got s) c cs (x ∷ y ∷ z ∷ ws) = refl
no_number for_spans (two_got s h) c cs [] = refl
no_number for_spans (two_got s h) c cs (x ∷ []) = refl
no_number for_spans (two_got s h) c cs (x ∷ y ∷ ws) = refl
no_number for_spans (three_got s h e) c cs [] = refl
no_number for_spans (three_got s h e) c cs (x ∷ ws) = refl
no_number for_spans (all_got s h e f) c cs ws = refl

-- It stays where it is.
hyphen_left : (c : ℕ) (cs : Text) (ws : List Text) → bytes_eq (45 ∷ c ∷ cs) (45 ∷ 45 ∷ []) ≡ false → without_dashes ((45 ∷ c ∷ cs) ∷ ws) ≡ (45 ∷ c ∷ cs) ∷ without_dashes ws
hyphen_left c cs ws apart = rw apart refl

-- `--` is taken once.
dashes_agree : (k : Asking) (g : Got) (ws : List Text) → Agree k g true ws → Agree k g false ((45 ∷ 45 ∷ []) ∷ ws)
dashes_agree k g ws later =
    carried k g g false true (45 ∷ 45 ∷ []) ws (dashes_turn (rows_at g) (pending_at g) (place_at g)) (dashes_after (rows_at g) (pending_at g) (place_at g)) refl later

long_agrees : (k : Asking) (g : Got) (c : ℕ) (cs : Text) (ws : List Text) → Agree k g false ((45 ∷ 45 ∷ c ∷ cs) ∷ ws)
long_agrees k g c cs ws =
    refused k g false (45 ∷ 45 ∷ c ∷ cs) ws (long_fails (rows_at g) (pending_at g) (place_at g) c cs) (no_number k g 45 (c ∷ cs) (without_dashes ws))

short_agrees : (k : Asking) (g : Got) (c x : ℕ) (cs : Text) (ws : List Text) → eqb c 45 ≡ false → slice_get (chars (c ∷ cs)) 0 ≡ Some x → Agree k g false ((45 ∷ c ∷ cs) ∷ ws)
short_agrees k g c x cs ws no_hyphen first =
    let none : asked_in k (before g (without_dashes ((45 ∷ c ∷ cs) ∷ ws))) ≡ None =
    ap (λ us. asked_in k (before g us)) (hyphen_left c cs ws (no_dashes c cs no_hyphen)) ∙ no_number k g c cs (without_dashes ws) in
    refused k g false (45 ∷ c ∷ cs) ws (short_fails (rows_at g) (pending_at g) (place_at g) c x cs no_hyphen first) none

two_hyphens : (k : Asking) (g : Got) (cs : Text) (ws : List Text) → Agree k g true ws → Agree k g false ((45 ∷ 45 ∷ cs) ∷ ws)
two_hyphens k g [] ws later = dashes_agree k g ws later
two_hyphens k g (c ∷ cs) ws later = long_agrees k g c cs ws

hyphen_agrees : (k : Asking) (g : Got) (c : ℕ) (cs : Text) (ws : List Text) → IsUtf8 (45 ∷ c ∷ cs) → Agree k g true ws → Agree k g false ((45 ∷ c ∷ cs) ∷ ws)
hyphen_agrees k g c cs ws u later = elim (cases_Bool (eqb c 45)) [
  | inl hyphen ↦ subst (λ d. Agree k g false ((45 ∷ d ∷ cs) ∷ ws)) (sym (eqb-true c 45 hyphen)) (two_hyphens k g cs ws later)
  | inr no_hyphen ↦ let first = first_char c cs (behind (c ∷ cs) u) in short_agrees k g c first.0 cs ws no_hyphen first.1.char
]

-- ---- all words

trailing_agree : (k : Asking) (ws : List Text) (g : Got) → Agree k g true ws
trailing_agree k [] g = at_end k g true
trailing_agree k (word ∷ ws) g = value_agrees k g true word ws tt (trailing_agree k ws)

all_agree : (k : Asking) (ws : List Text) (g : Got) → AreTexts ws → Agree k g false ws
all_agree k [] g texts = at_end k g false
all_agree k (word ∷ ws) g texts = elim (word_cases word) [
  | inl plain ↦ value_agrees k g false word ws plain.1 (λ n. all_agree k ws n texts.1)
  | inr hyphened ↦ subst (λ w. Agree k g false (w ∷ ws)) (sym hyphened.2)
      (hyphen_agrees k g hyphened.0 hyphened.1 ws (subst IsUtf8 hyphened.2 texts.0) (trailing_agree k ws g))
]

-- ---- the commands of a seed

seed_walk : (name : Text) (w : Walk) (ws : List Text) → walk_fault (seed_command name) [] w ws ≡ walk_fault generate [] w ws
unfolding clap_on_literals
seed_walk name w [] = refl
seed_walk name w (word ∷ ws) = ap (or_else (turn w word)) (seed_walk name (after w word) ws)

seed_level : (name : Text) (ws : List Text) → level (seed_command name) ws ≡ rest (walk_from nothing_held) ws
seed_level name ws =
    let end : Held = held_after (walk_from nothing_held) ws in
    let open_values : Kinds = settle_fault seed_rules false end in
    ap (λ ks. or_else ks (or_else open_values (or_else (defaults_fault (settled seed_rules end).rows seed_rules) (check_fault generate (finished seed_rules end) false))))
    (seed_walk name (walk_from nothing_held) ws)
    ∙ ap (λ ks. or_else (walk_fault generate [] (walk_from nothing_held) ws) (or_else open_values (or_else ks (check_fault generate (finished seed_rules end) false))))
    (no_faults (settled seed_rules end).rows seed_rules refl)
    ∙ ap (or_else (walk_fault generate [] (walk_from nothing_held) ws)) (or_nothing open_values)

-- The level's faults and rows against what the reader says.
pub seed_read : (k : Asking) (name : Text) (ws : List Text) → AreTexts ws
    → ((level (seed_command name) ws ≡ []) × (says k (rows_after seed_rules [] ws) ≡ asked_in k (without_dashes ws)))
    ⊎ (Fails (level (seed_command name) ws) × (asked_in k (without_dashes ws) ≡ None))
seed_read k name ws texts = elim (all_agree k ws none_got texts) [
  | inl both ↦ inl (seed_level name ws ∙ both.0, ap (says k) (no_defaults (end_rows (stand none_got false) ws) seed_rules refl) ∙ both.1)
  | inr neither ↦ inr (λ none. neither.0 (sym (seed_level name ws) ∙ none), neither.1)
]
