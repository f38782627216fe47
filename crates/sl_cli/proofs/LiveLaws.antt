-- The parser takes the words behind `live` that the reader takes, and finds in them what the reader finds: one word that is no option, flags before
-- and behind it, each once, and a first `--` anywhere, behind which no word is a flag.
use Rattle.clap.proofs.OnLiterals.{clap_on_literals}
use Rattle.clap.specs.Faults.{check_fault, default_fault, defaults_fault, given_default_fault, long_fault, settle_fault, turn_fault, walk_fault}
use Rattle.clap.specs.Kinds.{Kinds, or_else}
use Rattle.clap.specs.Lexer.{has_byte}
use Rattle.clap.specs.Values.{reading_of}
use Rattle.clap.specs.Walk.{Held, Row, Rule, Text, Walk, default_rows, finished, first_of, has_row, idle, is_empty, more_values, nothing_held, rows_after, settled, settled_rows, used, walk_from, walked, with_default}
use Rattle.clap.specs.declared.builder.value_parser.ValueParser.TheVariants as vp
use Rattle.clap.specs.declared.error.kind.ErrorKind.TheVariants as kind
use Rattle.clap.specs.declared.parser.matches.ValueSource.TheVariants.{DefaultValue}
use Rattle.sl_cli.proofs.BareCommands.{level, or_nothing}
use Rattle.sl_cli.proofs.BuiltCommand.{flag_with, live, live_rules, new_row, row_for, row_with, rule_with, used_new}
use Rattle.sl_cli.proofs.Letters.{behind, first_char}
use Rattle.sl_cli.proofs.LiveFlags.{Flag, anew, events, keeps, name_of, word_of}
use Rattle.sl_cli.proofs.ReaderSteps.{AreTexts, word_cases}
use Rattle.sl_cli.proofs.ParserTurns.{Fails, Pending, Plain, fails_with, first_fails, is_short, no_dashes, no_long, walk_at}
use Rattle.sl_cli.specs.CommandWords.{Placing, is_plain, live_in, placed_from, placed_in, use_of}
use Rattle.sl_cli.specs.ParserMeets.{is_set, placing_of}
use Rattle.sl_cli.specs.declared.command_words.Words.TheVariants.{Live}
use Rattle.sl_cli.specs.declared.command_words.Words.{Words}
use Rattle.sl_words.specs.Words.{choose}
use Rattle.std.proofs.Common.{Bool, List, None, Option, Some, [], ap, arith, cond, eqb, false, inl, inr, not, refl, subst, suc, sym, take, true, ℕ, ◌&&◌, ◌+◌, ◌++◌, ◌||◌, ◌==◌, ◌≡◌, ◌∙◌, ◌∷◌, ◌⊎◌}
use Rattle.std.proofs.lemmas.Bool.{cases_Bool, eqb-true, or_parts}
use Rattle.std.proofs.lemmas.List.Folds.{list_any-append}
use Rattle.std.proofs.lemmas.Slice.Eq.{bytes_eq-Decides}
use Rattle.std.specs.List.{before_first, fold, prefix_len}
use Rattle.std.specs.Prelude.{bytes_eq, codes, find, if◌then◌else◌, is_some, option_and_then, option_map, slice_get}
use Rattle.std.specs.Str.{IsUtf8, chars}

-- ---- the flags

-- Which were met.
record Flags : Type 0 where
  has_anew : Bool
  has_keeps : Bool
  has_events : Bool

abbrev on : Flag → Flags → Bool
on anew o = o.has_anew
on keeps o = o.has_keeps
on events o = o.has_events

abbrev with_one : Flag → Flags → Flags
with_one anew o = record o { has_anew = true }
with_one keeps o = record o { has_keeps = true }
with_one events o = record o { has_events = true }

abbrev is_same : Flag → Flag → Bool
is_same f g = bytes_eq (name_of g) (name_of f)

or_yes : (b : Bool) → true ≡ (b || true)
or_yes true = refl
or_yes false = refl

or_not : (b : Bool) → b ≡ (b || false)
or_not true = refl
or_not false = refl

on_with : (f g : Flag) (o : Flags) → on f (with_one g o) ≡ (on f o || is_same f g)
on_with anew anew o = or_yes o.has_anew
on_with anew keeps o = or_not o.has_anew
on_with anew events o = or_not o.has_anew
on_with keeps anew o = or_not o.has_keeps
on_with keeps keeps o = or_yes o.has_keeps
on_with keeps events o = or_not o.has_keeps
on_with events anew o = or_not o.has_events
on_with events keeps o = or_not o.has_events
on_with events events o = or_yes o.has_events

no_folder_flag : (g : Flag) → bytes_eq (name_of g) (codes "folder") ≡ false
no_folder_flag anew = refl
no_folder_flag keeps = refl
no_folder_flag events = refl

no_flag_folder : (f : Flag) → bytes_eq (codes "folder") (name_of f) ≡ false
no_flag_folder anew = refl
no_flag_folder keeps = refl
no_flag_folder events = refl

-- ---- where the reader stands

abbrev place : Option Text → Flags → Placing
place folder o = record { folder = folder; anew = o.has_anew; keeps = o.has_keeps; events = o.has_events }

abbrev taken : Bool → Option Text → Flags → List Text → Option Words
taken trailing folder o ws = option_and_then placed_in (placed_from trailing (place folder o) ws)

-- ---- rows

-- What the first row shows, or those behind it.
abbrev shown : Bool → Row → Text → List Row → Option Text
shown b x name rows = option_and_then (λ (r : Row). slice_get r.values 0) (cond b (Some x) (find (λ r. bytes_eq r.id name) rows))

-- A row that joins at the end shows nothing of other names.
first_other : (name : Text) (rows : List Row) (r : Row) → bytes_eq r.id name ≡ false → first_of name (rows ++ r ∷ []) ≡ first_of name rows
first_other name [] r apart = ap (λ b. shown b r name []) apart
first_other name (x ∷ rows) r apart = go (bytes_eq x.id name) (first_other name rows r apart)
  where
    go : (b : Bool) → first_of name (rows ++ r ∷ []) ≡ first_of name rows → shown b x name (rows ++ r ∷ []) ≡ shown b x name rows
    go true e = refl
    go false e = e

-- .. but its own, where none had its name.
first_own : (name : Text) (rows : List Row) (r : Row) → has_row name rows ≡ false → bytes_eq r.id name ≡ true → first_of name (rows ++ r ∷ []) ≡ slice_get r.values 0
first_own name [] r none is = ap (λ b. shown b r name []) is
first_own name (x ∷ rows) r none is =
    let apart = or_parts (bytes_eq x.id name) (has_row name rows) none in
    ap (λ b. shown b x name (rows ++ r ∷ [])) apart.0 ∙ first_own name rows r apart.1 is

-- Where none has a name, nothing is shown of it.
first_none : (name : Text) (rows : List Row) → has_row name rows ≡ false → first_of name rows ≡ None
first_none name [] none = refl
first_none name (x ∷ rows) none =
    let apart = or_parts (bytes_eq x.id name) (has_row name rows) none in
    ap (λ b. shown b x name rows) apart.0 ∙ first_none name rows apart.1

has_more : (name : Text) (rows : List Row) (r : Row) → has_row name (rows ++ r ∷ []) ≡ (has_row name rows || bytes_eq r.id name)
has_more name rows r = list_any-append (λ (x : Row). bytes_eq x.id name) rows (r ∷ []) ∙ ap (λ b. has_row name rows || b) (sym (or_not (bytes_eq r.id name)))

abbrev flag_row : Flag → Row
flag_row f = row_with (name_of f) (reading_of vp.Bool) (codes "true" ∷ [])

abbrev folder_row : Text → Row
folder_row w = row_for (use_of (codes "folder") w)

-- The word whose value is being read, if there is one.
data Kept : Type 0 where
  free : Kept
  held : Text → Kept

abbrev pending_of : Kept → Pending
pending_of free = None
pending_of (held w) = Some (codes "folder", w ∷ [])

-- The rows once it is taken.
abbrev rows_with : Kept → List Row → List Row
rows_with free rows = rows
rows_with (held w) rows = rows ++ folder_row w ∷ []

-- The rows and the word that is being read show this folder.
abbrev HasFolder : Kept → List Row → Option Text → Type 0
HasFolder free rows folder = first_of (codes "folder") rows ≡ folder
HasFolder (held w) rows folder = (folder ≡ Some w) × (has_row (codes "folder") rows ≡ false)

-- .. and these flags.
record At (k : Kept) (rows : List Row) (folder : Option Text) (o : Flags) : Type 0 where
  has : (f : Flag) → has_row (name_of f) rows ≡ on f o
  set : (f : Flag) → is_set (first_of (name_of f) rows) ≡ on f o
  alone : folder ≡ None → has_row (codes "folder") rows ≡ false
  shows : HasFolder k rows folder

abbrev position_of : Option Text → ℕ
position_of folder = if is_some folder then 2 else 1

abbrev stand : Kept → List Row → Option Text → Bool → Walk
stand k rows folder trailing = walk_at rows (pending_of k) idle (position_of folder) trailing

abbrev turn : Walk → Text → Kinds
turn w word = turn_fault live [] w word

abbrev after : Walk → Text → Walk
after w word = walked live_rules [] w word

abbrev held_after : Walk → List Text → Held
held_after w ws = (fold (walked live_rules []) w ws).held

abbrev rest : Walk → List Text → Kinds
rest w ws = or_else (walk_fault live [] w ws) (settle_fault live_rules false (held_after w ws))

-- The rows at the end, with those of what was not given.
abbrev end_rows : Walk → List Text → List Row
end_rows w ws = finished live_rules (held_after w ws)

-- What the rows say.
abbrev says : List Row → Option Words
says rows = placed_in (placing_of rows)

abbrev folder_rule : Rule
folder_rule = rule_with (codes "folder") None (Some 1)

-- ---- the word is taken

settled_is : (k : Kept) (rows : List Row) (folder : Option Text) (o : Flags) → At k rows folder o → settled_rows live_rules (pending_of k) rows ≡ rows_with k rows
settled_is free rows folder o at = refl
settled_is (held w) rows folder o at = used_new (codes "folder") (reading_of vp.String) (w ∷ []) rows at.shows.1

settles : (k : Kept) (rows : List Row) (folder : Option Text) (o : Flags) → At k rows folder o → settle_fault live_rules false (record { rows = rows; pending = pending_of k; skip = 0 }) ≡ []
settles free rows folder o at = refl
settles (held w) rows folder o at = rw at.shows.1 refl

taken_at : (k : Kept) (rows : List Row) (folder : Option Text) (o : Flags) → At k rows folder o → At free (rows_with k rows) folder o
taken_at free rows folder o at = at
taken_at (held w) rows folder o at =
    record {
      has = λ f. has_more (name_of f) rows (folder_row w) ∙ ap (λ b. has_row (name_of f) rows || b) (no_flag_folder f) ∙ sym (or_not (has_row (name_of f) rows)) ∙ at.has f;
      set = λ f. ap is_set (first_other (name_of f) rows (folder_row w) (no_flag_folder f)) ∙ at.set f;
      alone = λ none. absurd (some_none (sym at.shows.0 ∙ none));
      shows = first_own (codes "folder") rows (folder_row w) at.shows.1 refl ∙ sym at.shows.0;
    }
  where
    some_none : Some w ≡ None → ⊥
    some_none is = absurd cc

-- ---- one word

-- It is one more value, behind `--` in any case.
abbrev IsValue : Bool → Text → Type 0
IsValue true word = Unit {0}
IsValue false word = (is_plain word ≡ true) × Plain word

first_word : (rows : List Row) (word : Text) (trailing : Bool) → IsValue trailing word
    → (turn (walk_at rows None idle 1 trailing) word ≡ []) × (after (walk_at rows None idle 1 trailing) word ≡ walk_at rows (pending_of (held word)) idle 2 trailing)
unfolding clap_on_literals
first_word rows word true v = (refl, refl)
first_word rows word false v = let p = v.1 in (rw (p.no_dashes, p.no_long, p.no_short) refl, rw (p.no_dashes, p.no_long, p.no_short) refl)

-- A second is too many.
too_many : (rows : List Row) (pending : Pending) (word : Text) (trailing : Bool) → IsValue trailing word → Fails (turn (walk_at rows pending idle 2 trailing) word)
unfolding clap_on_literals
too_many rows pending word true v = fails_with _ _
too_many rows pending word false v = let p = v.1 in rw (p.no_dashes, p.no_long, p.no_short) (fails_with _ _)

dashes_turn : (rows : List Row) (pending : Pending) (position : ℕ) → turn (walk_at rows pending idle position false) (45 ∷ 45 ∷ []) ≡ []
dashes_turn rows pending position = refl

dashes_after : (rows : List Row) (pending : Pending) (position : ℕ) → after (walk_at rows pending idle position false) (45 ∷ 45 ∷ []) ≡ walk_at rows pending idle position true
unfolding clap_on_literals
dashes_after rows pending position = refl

-- What fails at a flag, by what fails as the word that is being read is taken, and by whether the flag was met.
abbrev flag_kinds : Kinds → Bool → Kinds
flag_kinds ks met = or_else (or_else ks (or_else (if met && true then kind.ArgumentConflict ∷ [] else []) [])) []

flag_turn : (g : Flag) (k : Kept) (rows : List Row) (position : ℕ)
    → turn (walk_at rows (pending_of k) idle position false) (word_of g)
    ≡ flag_kinds (settle_fault live_rules false (record { rows = rows; pending = pending_of k; skip = 0 })) (has_row (name_of g) (settled_rows live_rules (pending_of k) rows))
unfolding clap_on_literals
flag_turn anew free rows position = refl
flag_turn anew (held w) rows position = refl
flag_turn keeps free rows position = refl
flag_turn keeps (held w) rows position = refl
flag_turn events free rows position = refl
flag_turn events (held w) rows position = refl

flag_after : (g : Flag) (k : Kept) (rows : List Row) (position : ℕ)
    → after (walk_at rows (pending_of k) idle position false) (word_of g)
    ≡ walk_at (used (flag_with (name_of g)) [] (settled_rows live_rules (pending_of k) rows)) None idle position false
unfolding clap_on_literals
flag_after anew free rows position = refl
flag_after anew (held w) rows position = refl
flag_after keeps free rows position = refl
flag_after keeps (held w) rows position = refl
flag_after events free rows position = refl
flag_after events (held w) rows position = refl

-- So nothing, if it is new; else it is met twice.
flag_fault : (g : Flag) (k : Kept) (rows : List Row) (folder : Option Text) (o : Flags) → At k rows folder o
    → turn (stand k rows folder false) (word_of g) ≡ flag_kinds [] (on g o)
flag_fault g k rows folder o at =
    flag_turn g k rows (position_of folder)
    ∙ ap (λ ks. flag_kinds ks (has_row (name_of g) (settled_rows live_rules (pending_of k) rows))) (settles k rows folder o at)
    ∙ ap (λ rs. flag_kinds [] (has_row (name_of g) rs)) (settled_is k rows folder o at)
    ∙ ap (flag_kinds []) ((taken_at k rows folder o at).has g)

flag_used : (g : Flag) (rows : List Row) → has_row (name_of g) rows ≡ false → used (flag_with (name_of g)) [] rows ≡ rows ++ flag_row g ∷ []
flag_used g rows none = used_new (name_of g) (reading_of vp.Bool) (codes "true" ∷ []) rows none

flag_stands : (g : Flag) (k : Kept) (rows : List Row) (folder : Option Text) (o : Flags) → At k rows folder o → on g o ≡ false
    → after (stand k rows folder false) (word_of g) ≡ stand free (rows_with k rows ++ flag_row g ∷ []) folder false
flag_stands g k rows folder o at new =
    flag_after g k rows (position_of folder)
    ∙ ap (λ rs. walk_at (used (flag_with (name_of g)) [] rs) None idle (position_of folder) false) (settled_is k rows folder o at)
    ∙ ap (λ rs. walk_at rs None idle (position_of folder) false) (flag_used g (rows_with k rows) ((taken_at k rows folder o at).has g ∙ new))

is_its : (g : Flag) → bytes_eq (name_of g) (name_of g) ≡ true
is_its anew = refl
is_its keeps = refl
is_its events = refl

-- What is shown of a flag once this one is met.
set_more : (f g : Flag) (rows : List Row) (o : Flags) (same : Bool) → is_same f g ≡ same → has_row (name_of g) rows ≡ false → is_set (first_of (name_of f) rows) ≡ on f o
    → (same ≡ true → f ≡ g) → is_set (first_of (name_of f) (rows ++ flag_row g ∷ [])) ≡ (on f o || same)
set_more f g rows o true is none set one =
    ap is_set (first_own (name_of f) rows (flag_row g) (subst (λ h. has_row (name_of h) rows ≡ false) (sym (one refl)) none) is) ∙ or_yes (on f o)
set_more f g rows o false is none set one = ap is_set (first_other (name_of f) rows (flag_row g) is) ∙ set ∙ or_not (on f o)

same_is : (f g : Flag) → is_same f g ≡ true → f ≡ g
same_is anew anew is = refl
same_is anew keeps is = absurd cc
same_is anew events is = absurd cc
same_is keeps anew is = absurd cc
same_is keeps keeps is = refl
same_is keeps events is = absurd cc
same_is events anew is = absurd cc
same_is events keeps is = absurd cc
same_is events events is = refl

flag_met : (g : Flag) (rows : List Row) (folder : Option Text) (o : Flags) → At free rows folder o → on g o ≡ false → At free (rows ++ flag_row g ∷ []) folder (with_one g o)
flag_met g rows folder o at new =
    record {
      has = λ f. has_more (name_of f) rows (flag_row g) ∙ ap (λ b. b || is_same f g) (at.has f) ∙ sym (on_with f g o);
      set = λ f. set_more f g rows o (is_same f g) refl (at.has g ∙ new) (at.set f) (same_is f g) ∙ sym (on_with f g o);
      alone = λ none. has_more (codes "folder") rows (flag_row g) ∙ ap (λ b. has_row (codes "folder") rows || b) (no_folder_flag g) ∙ sym (or_not (has_row (codes "folder") rows)) ∙ at.alone none;
      shows = first_other (codes "folder") rows (flag_row g) (no_folder_flag g) ∙ at.shows;
    }

one_more : (n : ℕ) → 1 + n ≡ suc n
one_more n = omega arith

-- A text without `=` stands whole before the first one.
all_before : (cs : Text) → has_byte 61 cs ≡ false → before_first (λ x. x == 61) cs ≡ cs
all_before [] none = refl
all_before (c ∷ cs) none =
    let parts = or_parts (c == 61) (has_byte 61 cs) none in
    rw parts.0 (ap (λ k. take k (c ∷ cs)) (one_more (prefix_len (λ x. not (x == 61)) cs)) ∙ ap (λ ds. c ∷ ds) (all_before cs parts.1))

clash : true ≡ false → ⊥
clash is = absurd cc

-- What the parser makes of a long word, by whether its name is a flag's and whether a value is attached.
long_by : (is_anew is_keeps is_events : Bool) (value : Option Text) (h : Held) (later : Kinds)
    → (value ≡ None → (is_anew ≡ false) × (is_keeps ≡ false) × (is_events ≡ false))
    → Fails (or_else (long_fault live_rules false (cond (is_anew || false) (Some (flag_with (codes "anew"))) (cond (is_keeps || false) (Some (flag_with (codes "keep-going"))) (cond (is_events || false) (Some (flag_with (codes "events"))) None))) value h) later)
long_by true is_keeps is_events None h later other = absurd (clash (other refl).0)
long_by false true is_events None h later other = absurd (clash (other refl).1)
long_by false false true None h later other = absurd (clash (other refl).2)
long_by false false false None h later other = fails_with _ _
long_by true is_keeps is_events (Some v) h later other = fails_with _ _
long_by false true is_events (Some v) h later other = fails_with _ _
long_by false false true (Some v) h later other = fails_with _ _
long_by false false false (Some v) h later other = fails_with _ _

no_value : (has : Bool) (v : Text) → (if has then Some v else None) ≡ None → has ≡ false
no_value true v is = absurd cc
no_value false v is = refl

-- It is none of the flags.
abbrev IsOther : Text → Type 0
IsOther w = (bytes_eq w (codes "--anew") ≡ false) × (bytes_eq w (codes "--keep-going") ≡ false) × (bytes_eq w (codes "--events") ≡ false)

-- So its name is none of theirs.
other_name : (g : Flag) (c : ℕ) (cs name : Text) → bytes_eq (45 ∷ 45 ∷ c ∷ cs) (word_of g) ≡ false → name ≡ c ∷ cs → bytes_eq (name_of g) name ≡ false
other_name g c cs name other whole = elim (cases_Bool (bytes_eq (name_of g) name)) [
  | inl is ↦
      let same : name_of g ≡ c ∷ cs = (bytes_eq-Decides (name_of g) name).0 is ∙ whole in
      absurd (clash (sym (its_word g) ∙ ap (λ ds. bytes_eq (45 ∷ 45 ∷ ds) (word_of g)) same ∙ other))
  | inr apart ↦ apart
]
  where
    its_word : (g : Flag) → bytes_eq (word_of g) (word_of g) ≡ true
    its_word anew = refl
    its_word keeps = refl
    its_word events = refl

-- No other long word is known.
long_fails : (rows : List Row) (pending : Pending) (position c : ℕ) (cs : Text) → IsOther (45 ∷ 45 ∷ c ∷ cs)
    → Fails (turn (walk_at rows pending idle position false) (45 ∷ 45 ∷ c ∷ cs))
long_fails rows pending position c cs other =
    let name : Text = before_first (λ x. x == 61) (c ∷ cs) in
    long_by (bytes_eq (codes "anew") name) (bytes_eq (codes "keep-going") name) (bytes_eq (codes "events") name) _ _ _ (λ none.
    let whole = all_before (c ∷ cs) (no_value (has_byte 61 (c ∷ cs)) _ none) in
    (other_name anew c cs name other.0 whole, other_name keeps c cs name other.1 whole, other_name events c cs name other.2 whole))

short_fails : (rows : List Row) (pending : Pending) (position c x : ℕ) (cs : Text) → eqb c 45 ≡ false → slice_get (chars (c ∷ cs)) 0 ≡ Some x
    → Fails (turn (walk_at rows pending idle position false) (45 ∷ c ∷ cs))
unfolding clap_on_literals
short_fails rows pending position c x cs no_hyphen first =
    rw (no_dashes c cs no_hyphen, no_long c cs no_hyphen, is_short c cs no_hyphen) (rw first (fails_with _ _))

-- ---- from word to word

turn_fails : (w : Walk) (word : Text) (ws : List Text) → Fails (turn w word) → Fails (rest w (word ∷ ws))
unfolding clap_on_literals
turn_fails w word ws h = first_fails _ _ (first_fails (turn w word) _ h)

turn_passes : (w v : Walk) (word : Text) (ws : List Text) → turn w word ≡ [] → after w word ≡ v → rest w (word ∷ ws) ≡ rest v ws
unfolding clap_on_literals
turn_passes w v word ws h is = rw h (ap (λ u. rest u ws) is)

rows_pass : (w v : Walk) (word : Text) (ws : List Text) → after w word ≡ v → end_rows w (word ∷ ws) ≡ end_rows v ws
rows_pass w v word ws is = ap (λ u. end_rows u ws) is

-- Both take the words and say the same, or neither does.
abbrev Agree : Kept → List Row → Option Text → Flags → Bool → List Text → Type 0
Agree k rows folder o trailing ws =
    ((rest (stand k rows folder trailing) ws ≡ []) × (says (end_rows (stand k rows folder trailing) ws) ≡ taken trailing folder o ws))
    ⊎ (Fails (rest (stand k rows folder trailing) ws) × (taken trailing folder o ws ≡ None))

-- .. from wherever they stand.
abbrev AllAgree : Bool → List Text → Type 0
AllAgree trailing ws = (k : Kept) (rows : List Row) (folder : Option Text) (o : Flags) → At k rows folder o → Agree k rows folder o trailing ws

-- Behind a word that is taken the rest decides.
carried : (w v : Walk) (before now : Option Words) (word : Text) (ws : List Text) → turn w word ≡ [] → after w word ≡ v → before ≡ now
    → ((rest v ws ≡ []) × (says (end_rows v ws) ≡ now)) ⊎ (Fails (rest v ws) × (now ≡ None))
    → ((rest w (word ∷ ws) ≡ []) × (says (end_rows w (word ∷ ws)) ≡ before)) ⊎ (Fails (rest w (word ∷ ws)) × (before ≡ None))
carried w v before now word ws passes goes same (inl both) =
    inl (turn_passes w v word ws passes goes ∙ both.0, ap says (rows_pass w v word ws goes) ∙ both.1 ∙ sym same)
carried w v before now word ws passes goes same (inr neither) =
    inr (λ none. neither.0 (sym (turn_passes w v word ws passes goes) ∙ none), same ∙ neither.1)

refused : (w : Walk) (said : Option Words) (word : Text) (ws : List Text) → Fails (turn w word) → said ≡ None
    → ((rest w (word ∷ ws) ≡ []) × (says (end_rows w (word ∷ ws)) ≡ said)) ⊎ (Fails (rest w (word ∷ ws)) × (said ≡ None))
refused w said word ws fails none = inr (turn_fails w word ws fails, none)

-- ---- the end

-- What rows show of a flag and of the folder.
abbrev Shows : List Row → Option Text → Flags → Type 0
Shows rows folder o = (first_of (codes "folder") rows ≡ folder) × ((f : Flag) → is_set (first_of (name_of f) rows) ≡ on f o)

abbrev unset_row : Flag → Row
unset_row g = record (flag_row g) { values = codes "false" ∷ []; source = Some DefaultValue }

unset : (f g : Flag) (rows : List Row) (same : Bool) → is_same f g ≡ same → (same ≡ true → f ≡ g) → has_row (name_of g) rows ≡ false
    → is_set (first_of (name_of f) (rows ++ unset_row g ∷ [])) ≡ is_set (first_of (name_of f) rows)
unset f g rows true is one none =
    let mine : has_row (name_of f) rows ≡ false = subst (λ h. has_row (name_of h) rows ≡ false) (sym (one refl)) none in
    ap is_set (first_own (name_of f) rows (unset_row g) mine is) ∙ sym (ap is_set (first_none (name_of f) rows mine))
unset f g rows false is one none = ap is_set (first_other (name_of f) rows (unset_row g) is)

-- What is not given is filled in as false.
default_shows : (g : Flag) (rows : List Row) (folder : Option Text) (o : Flags) → Shows rows folder o → Shows (with_default rows (flag_with (name_of g))) folder o
default_shows g rows folder o s = go (has_row (name_of g) rows) refl
  where
    go : (b : Bool) → has_row (name_of g) rows ≡ b → Shows (cond b rows (default_rows (name_of g) (reading_of vp.Bool) (codes "false" ∷ []) rows)) folder o
    go true is = s
    go false is =
        let joined : default_rows (name_of g) (reading_of vp.Bool) (codes "false" ∷ []) rows ≡ rows ++ unset_row g ∷ [] =
        new_row (name_of g) (more_values DefaultValue (codes "false" ∷ [])) (unset_row g ∷ []) rows is in
        subst (λ rs. Shows rs folder o) (sym joined) (
          first_other (codes "folder") rows (unset_row g) (no_folder_flag g) ∙ s.0,
          λ f. unset f g rows (is_same f g) refl (same_is f g) is ∙ s.1 f,
        )

same_by : (b : Bool) (rows : List Row) → cond b rows rows ≡ rows
same_by true rows = refl
same_by false rows = refl

folder_default : (rows : List Row) → with_default rows folder_rule ≡ rows
folder_default rows = same_by (has_row (codes "folder") rows) rows

all_shown : (rows : List Row) (folder : Option Text) (o : Flags) → Shows rows folder o → Shows (fold with_default rows live_rules) folder o
all_shown rows folder o s =
    subst (λ rs. Shows (fold with_default rs (flag_with (codes "anew") ∷ flag_with (codes "keep-going") ∷ flag_with (codes "events") ∷ [])) folder o) (sym (folder_default rows))
    (default_shows events _ folder o (default_shows keeps _ folder o (default_shows anew rows folder o s)))

abbrev lives : Option Text → Bool → Bool → Bool → Option Words
lives folder a k e = option_map (λ f. Live f a k e) folder

shown_says : (rows : List Row) (folder : Option Text) (o : Flags) → Shows rows folder o → says rows ≡ placed_in (place folder o)
shown_says rows folder o s =
    ap (λ f. lives f (is_set (first_of (codes "anew") rows)) (is_set (first_of (codes "keep-going") rows)) (is_set (first_of (codes "events") rows))) s.0
    ∙ ap (λ a. lives folder a (is_set (first_of (codes "keep-going") rows)) (is_set (first_of (codes "events") rows))) (s.1 anew)
    ∙ ap (λ k. lives folder o.has_anew k (is_set (first_of (codes "events") rows))) (s.1 keeps)
    ∙ ap (λ e. lives folder o.has_anew o.has_keeps e) (s.1 events)

at_end : (trailing : Bool) → AllAgree trailing []
unfolding clap_on_literals
at_end trailing k rows folder o at =
    let free_at = taken_at k rows folder o at in
    inl (
      settles k rows folder o at,
      ap (λ rs. says (fold with_default rs live_rules)) (settled_is k rows folder o at)
          ∙ shown_says _ folder o (all_shown (rows_with k rows) folder o (free_at.shows, free_at.set)) ∙ taken_none trailing,
    )
  where
    taken_none : (trailing : Bool) → placed_in (place folder o) ≡ taken trailing folder o []
    taken_none true = refl
    taken_none false = refl

-- ---- a value

no_flag : (word other : Text) → is_plain word ≡ true → is_plain other ≡ false → bytes_eq word other ≡ false
no_flag word other plain hyphened = elim (cases_Bool (bytes_eq word other)) [
  | inl is ↦ absurd (clash (sym plain ∙ ap is_plain ((bytes_eq-Decides word other).0 is) ∙ hyphened))
  | inr apart ↦ apart
]

first_taken : (word : Text) (ws : List Text) (o : Flags) (trailing : Bool) → IsValue trailing word → taken trailing None o (word ∷ ws) ≡ taken trailing (Some word) o ws
first_taken word ws o true v = refl
first_taken word ws o false v = let p = v.1 in rw (p.no_dashes, v.0) refl

second_taken : (f word : Text) (ws : List Text) (o : Flags) (trailing : Bool) → IsValue trailing word → taken trailing (Some f) o (word ∷ ws) ≡ None
second_taken f word ws o true v = refl
second_taken f word ws o false v = let p = v.1 in rw (p.no_dashes, v.0) refl

held_at : (k : Kept) (rows : List Row) (word : Text) (o : Flags) → At k rows None o → (k ≡ free) × At (held word) rows (Some word) o
held_at free rows word o at = (refl, record { has = at.has; set = at.set; alone = λ none. absurd (some_none none); shows = (refl, at.alone refl) })
  where
    some_none : Some word ≡ None → ⊥
    some_none is = absurd cc
held_at (held w) rows word o at = absurd (none_some at.shows.0)
  where
    none_some : None ≡ Some w → ⊥
    none_some is = absurd cc

value_agrees : (trailing : Bool) (word : Text) (ws : List Text) → IsValue trailing word → AllAgree trailing ws → AllAgree trailing (word ∷ ws)
value_agrees trailing word ws v later k rows None o at =
    let next = held_at k rows word o at in
    let more = first_word rows word trailing v in
    subst (λ j. Agree j rows None o trailing (word ∷ ws)) (sym next.0)
    (carried (stand free rows None trailing) (stand (held word) rows (Some word) trailing) _ _ word ws more.0 more.1 (first_taken word ws o trailing v)
    (later (held word) rows (Some word) o next.1))
value_agrees trailing word ws v later k rows (Some f) o at =
    refused (stand k rows (Some f) trailing) _ word ws (too_many rows (pending_of k) word trailing v) (second_taken f word ws o trailing v)

-- ---- a flag

flag_read : (g : Flag) (folder : Option Text) (o : Flags) (ws : List Text)
    → taken false folder o (word_of g ∷ ws) ≡ option_and_then placed_in (option_and_then (λ next. placed_from false next ws) (choose (not (on g o)) (place folder (with_one g o))))
flag_read anew folder o ws = refl
flag_read keeps folder o ws = refl
flag_read events folder o ws = refl

flag_by : (met : Bool) (g : Flag) (ws : List Text) → AllAgree false ws → (k : Kept) (rows : List Row) (folder : Option Text) (o : Flags) → At k rows folder o → on g o ≡ met
    → Agree k rows folder o false (word_of g ∷ ws)
flag_by true g ws later k rows folder o at met =
    refused (stand k rows folder false) _ (word_of g) ws (λ none. fails_with _ _ (sym (flag_fault g k rows folder o at ∙ ap (flag_kinds []) met) ∙ none))
    (flag_read g folder o ws ∙ ap (λ b. option_and_then placed_in (option_and_then (λ next. placed_from false next ws) (choose (not b) (place folder (with_one g o))))) met)
flag_by false g ws later k rows folder o at new =
    carried (stand k rows folder false) (stand free (rows_with k rows ++ flag_row g ∷ []) folder false) _ _ (word_of g) ws
    (flag_fault g k rows folder o at ∙ ap (flag_kinds []) new) (flag_stands g k rows folder o at new)
    (flag_read g folder o ws ∙ ap (λ b. option_and_then placed_in (option_and_then (λ next. placed_from false next ws) (choose (not b) (place folder (with_one g o))))) new)
    (later free (rows_with k rows ++ flag_row g ∷ []) folder (with_one g o) (flag_met g (rows_with k rows) folder o (taken_at k rows folder o at) new))

flag_agrees : (g : Flag) (ws : List Text) → AllAgree false ws → AllAgree false (word_of g ∷ ws)
flag_agrees g ws later k rows folder o at = flag_by (on g o) g ws later k rows folder o at refl

-- ---- a word that looks like an option, and is no flag

other_taken : (c : ℕ) (cs : Text) (folder : Option Text) (o : Flags) (ws : List Text) → bytes_eq (45 ∷ c ∷ cs) (45 ∷ 45 ∷ []) ≡ false → IsOther (45 ∷ c ∷ cs)
    → taken false folder o ((45 ∷ c ∷ cs) ∷ ws) ≡ None
other_taken c cs folder o ws apart other = rw (apart, other.0, other.1, other.2) refl

-- `--` is taken once.
dashes_agree : (ws : List Text) → AllAgree true ws → AllAgree false ((45 ∷ 45 ∷ []) ∷ ws)
dashes_agree ws later k rows folder o at =
    carried (stand k rows folder false) (stand k rows folder true) _ _ (45 ∷ 45 ∷ []) ws (dashes_turn rows (pending_of k) (position_of folder))
    (dashes_after rows (pending_of k) (position_of folder)) refl (later k rows folder o at)

-- A word is a flag, or none.
word_is : (w : Text) → ((g : Flag) × (w ≡ word_of g)) ⊎ IsOther w
word_is w = elim (cases_Bool (bytes_eq w (codes "--anew"))) [
  | inl is ↦ inl (anew, (bytes_eq-Decides w (codes "--anew")).0 is)
  | inr no_anew ↦ elim (cases_Bool (bytes_eq w (codes "--keep-going"))) [
    | inl is ↦ inl (keeps, (bytes_eq-Decides w (codes "--keep-going")).0 is)
    | inr no_keeps ↦ elim (cases_Bool (bytes_eq w (codes "--events"))) [
      | inl is ↦ inl (events, (bytes_eq-Decides w (codes "--events")).0 is)
      | inr no_events ↦ inr (no_anew, no_keeps, no_events)
    ]
  ]
]

long_agrees : (c : ℕ) (cs : Text) (ws : List Text) → AllAgree false ws → AllAgree false ((45 ∷ 45 ∷ c ∷ cs) ∷ ws)
long_agrees c cs ws later k rows folder o at = elim (word_is (45 ∷ 45 ∷ c ∷ cs)) [
  | inl flag ↦ subst (λ w. Agree k rows folder o false (w ∷ ws)) (sym flag.1) (flag_agrees flag.0 ws later k rows folder o at)
  | inr other ↦ refused (stand k rows folder false) _ (45 ∷ 45 ∷ c ∷ cs) ws (long_fails rows (pending_of k) (position_of folder) c cs other)
      (other_taken 45 (c ∷ cs) folder o ws refl other)
]

two_hyphens : (cs : Text) (ws : List Text) → AllAgree true ws → AllAgree false ws → AllAgree false ((45 ∷ 45 ∷ cs) ∷ ws)
two_hyphens [] ws trailing later = dashes_agree ws trailing
two_hyphens (c ∷ cs) ws trailing later = long_agrees c cs ws later

one_flag : (c : ℕ) (cs : Text) → eqb c 45 ≡ false → IsOther (45 ∷ c ∷ cs)
one_flag c cs no_hyphen = (rw no_hyphen refl, rw no_hyphen refl, rw no_hyphen refl)

hyphen_agrees : (c : ℕ) (cs : Text) (ws : List Text) → IsUtf8 (45 ∷ c ∷ cs) → AllAgree true ws → AllAgree false ws → AllAgree false ((45 ∷ c ∷ cs) ∷ ws)
hyphen_agrees c cs ws u trailing later k rows folder o at = elim (cases_Bool (eqb c 45)) [
  | inl hyphen ↦ subst (λ d. Agree k rows folder o false ((45 ∷ d ∷ cs) ∷ ws)) (sym (eqb-true c 45 hyphen)) (two_hyphens cs ws trailing later k rows folder o at)
  | inr no_hyphen ↦
      let first = first_char c cs (behind (c ∷ cs) u) in
      refused (stand k rows folder false) _ (45 ∷ c ∷ cs) ws (short_fails rows (pending_of k) (position_of folder) c first.0 cs no_hyphen first.1.char)
      (other_taken c cs folder o ws (no_dashes c cs no_hyphen) (one_flag c cs no_hyphen))
]

-- ---- all words

trailing_agree : (ws : List Text) → AllAgree true ws
trailing_agree [] = at_end true
trailing_agree (word ∷ ws) = value_agrees true word ws tt (trailing_agree ws)

all_agree : (ws : List Text) → AreTexts ws → AllAgree false ws
all_agree [] texts = at_end false
all_agree (word ∷ ws) texts = elim (word_cases word) [
  | inl plain ↦ value_agrees false word ws plain (all_agree ws texts.1)
  | inr hyphened ↦ subst (λ w. AllAgree false (w ∷ ws)) (sym hyphened.2)
      (hyphen_agrees hyphened.0 hyphened.1 ws (subst IsUtf8 hyphened.2 texts.0) (trailing_agree ws) (all_agree ws texts.1))
]

-- ---- the command `live`

abbrev no_flags : Flags
no_flags = record { has_anew = false; has_keeps = false; has_events = false }

none_on : (f : Flag) → false ≡ on f no_flags
none_on anew = refl
none_on keeps = refl
none_on events = refl

nothing_at : At free [] None no_flags
nothing_at = record { has = none_on; set = none_on; alone = λ none. refl; shows = refl }

-- What is not given is filled in without a fault.
or_none : (b : Bool) (ks : Kinds) → ks ≡ [] → cond b [] ks ≡ []
or_none true ks none = refl
or_none false ks none = none

no_fault : (a : Rule) (rows : List Row) → given_default_fault a a.defaults ≡ [] → default_fault rows a ≡ []
no_fault a rows none = or_none (has_row a.id rows || is_empty a.defaults) (given_default_fault a a.defaults) none

one_fault : (a : Rule) (rules : List Rule) → given_default_fault a a.defaults ≡ [] → ((rows : List Row) → defaults_fault rows rules ≡ []) → (rows : List Row) → defaults_fault rows (a ∷ rules) ≡ []
unfolding clap_on_literals
one_fault a rules none later rows = ap (λ ks. or_else ks (defaults_fault (with_default rows a) rules)) (no_fault a rows none) ∙ later (with_default rows a)

last_fault : (rows : List Row) → defaults_fault rows [] ≡ []
unfolding clap_on_literals
last_fault rows = refl

no_faults : (rows : List Row) → defaults_fault rows live_rules ≡ []
no_faults = one_fault folder_rule _ refl (one_fault (flag_with (codes "anew")) _ refl (one_fault (flag_with (codes "keep-going")) _ refl (one_fault (flag_with (codes "events")) _ refl last_fault)))

live_level : (ws : List Text) → level live ws ≡ rest (walk_from nothing_held) ws
live_level ws =
    let end : Held = held_after (walk_from nothing_held) ws in
    let open_values : Kinds = settle_fault live_rules false end in
    ap (λ ks. or_else (walk_fault live [] (walk_from nothing_held) ws) (or_else open_values (or_else ks (check_fault live (finished live_rules end) false))))
    (no_faults (settled live_rules end).rows)
    ∙ ap (or_else (walk_fault live [] (walk_from nothing_held) ws)) (or_nothing open_values)

-- The level's faults and rows against what the reader says.
pub live_read : (ws : List Text) → AreTexts ws
    → ((level live ws ≡ []) × (says (rows_after live_rules [] ws) ≡ live_in ws)) ⊎ (Fails (level live ws) × (live_in ws ≡ None))
live_read ws texts = elim (all_agree ws texts free [] None no_flags nothing_at) [
  | inl both ↦ inl (live_level ws ∙ both.0, both.1)
  | inr neither ↦ inr (λ none. neither.0 (sym (live_level ws) ∙ none), neither.1)
]
