-- What the parser makes of one word behind `direct`: whether it fails, and where it stands then.
use Rattle.clap.proofs.OnLiterals.{clap_on_literals}
use Rattle.clap.specs.Faults.{option_fault, positional_fault, settle_fault, step_fault, stray_fault, turn_fault, use_fault}
use Rattle.clap.specs.Kinds.{Kinds, or_else}
use Rattle.clap.specs.Lexer.{long_of, short_of}
use Rattle.clap.specs.Walk.{Held, Outcome, Row, Step, Text, Waiting, Walk, after_flag, after_step, arg_by_id, arg_by_index, arg_by_short, attached_value, has_row, idle, is_pending, option, option_met, positional, pushed, settled, settled_rows, to_positional, used, value, walked}
use Rattle.clap.specs.declared.error.kind.ErrorKind.{ErrorKind}
use Rattle.sl_cli.proofs.BuiltCommand.{Key, action, direct, format, geometry, hosts, lockspace, name_of, resource, rule_for, rules, stretch}
use Rattle.std.proofs.Common.{Bool, List, None, Option, Some, [], ap, cond, false, refl, true, ℕ, ◌&&◌, ◌==◌, ◌≡◌, ◌∙◌, ◌∷◌, length, drop, lt-ltb, ◌<◌}
use Rattle.std.proofs.lemmas.Str.{encode_ascii}
use Rattle.std.specs.Option.{option_map_or}
use Rattle.std.specs.Prelude.{bytes_eq, codes, encode_utf8, slice_get}
use Rattle.std.specs.Str.{chars}

-- ---- lists of kinds that are not empty

-- Something fails.
abbrev pub Fails : Kinds → Type 0
Fails ks = ks ≡ [] → ⊥

pub fails_with : (k : ErrorKind) (ks : Kinds) → Fails (k ∷ ks)
fails_with k ks e = absurd cc

pub first_fails : (a b : Kinds) → Fails a → Fails (or_else a b)
first_fails [] b h = absurd (h refl)
first_fails (k ∷ ks) b h = h

pub later_fails : (a b : Kinds) → Fails b → Fails (or_else a b)
later_fails [] b h = h
later_fails (k ∷ ks) b h = fails_with k ks

-- A test that never holds.
never : {A : Type 0} (b : Bool) (x y : A) → cond (b && false) x y ≡ y
never true x y = refl
never false x y = refl

fails_never : (b : Bool) (x y : Kinds) → Fails y → Fails (cond (b && false) x y)
fails_never true x y h = h
fails_never false x y h = h

-- ---- where the parser stands

abbrev pub Pending : Type 0
Pending = Option (Text × List Text)

-- The rows so far, and the argument whose values are being read.
abbrev pub held_at : List Row → Pending → Held
held_at rows pending = record { rows = rows; pending = pending; skip = 0 }

abbrev pub walk_at : List Row → Pending → Waiting → ℕ → Bool → Walk
walk_at rows pending waiting position trailing =
    record { held = held_at rows pending; waiting = waiting; position = position; is_trailing = trailing; stopped = None }

-- What fails at a word.
abbrev pub turn : Walk → Text → Kinds
turn w word = turn_fault direct [] w word

-- Where the parser stands behind it.
abbrev pub after : Walk → Text → Walk
after w word = walked rules [] w word

-- What fails when the values that are being read are taken.
abbrev pub unsettled : List Row → Pending → Kinds
unsettled rows pending = settle_fault rules false (held_at rows pending)

-- The values that are being read.
abbrev pub values_of : Key → List Text → Pending
values_of k vs = Some (name_of k, vs)

named_rule : (k : Key) → arg_by_id rules (name_of k) ≡ Some (rule_for k)
named_rule action = refl
named_rule lockspace = refl
named_rule resource = refl
named_rule hosts = refl
named_rule stretch = refl
named_rule geometry = refl
named_rule format = refl

pub unsettled_is : (k : Key) (vs : List Text) (rows : List Row) → unsettled rows (values_of k vs) ≡ use_fault false (rule_for k) vs rows
unsettled_is k vs rows = ap (λ o. option_map_or (λ a. use_fault false a vs rows) o []) (named_rule k)

pub settled_is : (k : Key) (vs : List Text) (rows : List Row) → settled_rows rules (values_of k vs) rows ≡ used (rule_for k) vs rows
settled_is action vs rows = refl
settled_is lockspace vs rows = refl
settled_is resource vs rows = refl
settled_is hosts vs rows = refl
settled_is stretch vs rows = refl
settled_is geometry vs rows = refl
settled_is format vs rows = refl

-- ---- one use

pub used_once : (k : Key) (v : Text) (rows : List Row) → has_row (name_of k) rows ≡ false → use_fault false (rule_for k) (v ∷ []) rows ≡ []
used_once k v rows none = rw none refl

pub used_twice : (k : Key) (v : Text) (rows : List Row) → has_row (name_of k) rows ≡ true → Fails (use_fault false (rule_for k) (v ∷ []) rows)
used_twice k v rows one = rw one (fails_with _ _)

pub used_empty : (k : Key) (rows : List Row) → Fails (use_fault false (rule_for k) [] rows)
used_empty k rows = fails_with _ _

-- ---- a word that is no option

-- It doesn't look like one.
pub record Plain (word : Text) : Type 0 where
  pub no_dashes : bytes_eq word (45 ∷ 45 ∷ []) ≡ false
  pub no_long : long_of word ≡ None
  pub no_short : short_of word ≡ None

-- It goes to the action, if that is not given, once the values that are being read are taken.
pub value_fails : (rows : List Row) (pending : Pending) (position : ℕ) → Fails (unsettled rows pending) → Fails (step_fault direct position (held_at rows pending) value)
value_fails rows pending position h = go (1 == position)
  where
    go : (b : Bool) → Fails (option_map_or (λ a. positional_fault rules false a (held_at rows pending)) (cond b (Some (rule_for action)) None) (stray_fault direct))
    go true = fails_never (is_pending (rule_for action) pending) [] (unsettled rows pending) h
    go false = fails_with _ _

pub value_ok : (rows : List Row) (pending : Pending) → unsettled rows pending ≡ [] → step_fault direct 1 (held_at rows pending) value ≡ []
value_ok rows pending h = never (is_pending (rule_for action) pending) [] (unsettled rows pending) ∙ h

pub value_twice : (rows : List Row) (pending : Pending) → Fails (step_fault direct 2 (held_at rows pending) value)
value_twice rows pending = fails_with _ _

-- Where the parser stands behind the action.
abbrev pub behind_action : List Row → Pending → Text → Bool → Walk
behind_action rows pending word trailing = walk_at (settled_rows rules pending rows) (values_of action (word ∷ [])) idle 2 trailing

abbrev action_pushed : Held → Text → Bool → Walk
action_pushed h word trailing = record { held = pushed (codes "action") word h; waiting = idle; position = 2; is_trailing = trailing; stopped = None }

value_taken : (rows : List Row) (pending : Pending) (waiting : Waiting) (word : Text) (trailing : Bool)
    → to_positional rules (arg_by_index rules 1) word (walk_at rows pending waiting 1 trailing) (held_at rows pending) ≡ behind_action rows pending word trailing
value_taken rows pending waiting word true =
    ap (λ (h : Held). action_pushed h word true) (never (is_pending (rule_for action) pending) (held_at rows pending) (settled rules (held_at rows pending)))
value_taken rows pending waiting word false =
    ap (λ (h : Held). action_pushed h word false) (never (is_pending (rule_for action) pending) (held_at rows pending) (settled rules (held_at rows pending)))

-- Behind `--` each word is such a one.
pub trailing_turn : (rows : List Row) (pending : Pending) (waiting : Waiting) (position : ℕ) (word : Text)
    → turn (walk_at rows pending waiting position true) word ≡ step_fault direct position (held_at rows pending) value
trailing_turn rows pending waiting position word = refl

pub trailing_after : (rows : List Row) (pending : Pending) (waiting : Waiting) (word : Text)
    → after (walk_at rows pending waiting 1 true) word ≡ behind_action rows pending word true
unfolding clap_on_literals
trailing_after rows pending waiting word = value_taken rows pending waiting word true

pub plain_turn : (rows : List Row) (pending : Pending) (position : ℕ) (word : Text) → Plain word
    → turn (walk_at rows pending idle position false) word ≡ step_fault direct position (held_at rows pending) value
plain_turn rows pending position word p = rw (p.no_dashes, p.no_long, p.no_short) refl

pub plain_after : (rows : List Row) (pending : Pending) (word : Text) → Plain word
    → after (walk_at rows pending idle 1 false) word ≡ behind_action rows pending word false
unfolding clap_on_literals
plain_after rows pending word p = rw (p.no_dashes, p.no_long, p.no_short) (value_taken rows pending idle word false)

-- .. or the value of the option that waits.
pub waiting_turn : (k : Key) (rows : List Row) (position : ℕ) (word : Text) → Plain word → turn (walk_at rows (values_of k []) (option (name_of k)) position false) word ≡ []
waiting_turn k rows position word p = rw (p.no_dashes, p.no_long, p.no_short) refl

pub waiting_after : (k : Key) (rows : List Row) (position : ℕ) (word : Text) → Plain word
    → after (walk_at rows (values_of k []) (option (name_of k)) position false) word ≡ walk_at rows (values_of k (word ∷ [])) idle position false
unfolding clap_on_literals
waiting_after action rows position word p = rw (p.no_dashes, p.no_long, p.no_short) refl
waiting_after lockspace rows position word p = rw (p.no_dashes, p.no_long, p.no_short) refl
waiting_after resource rows position word p = rw (p.no_dashes, p.no_long, p.no_short) refl
waiting_after hosts rows position word p = rw (p.no_dashes, p.no_long, p.no_short) refl
waiting_after stretch rows position word p = rw (p.no_dashes, p.no_long, p.no_short) refl
waiting_after geometry rows position word p = rw (p.no_dashes, p.no_long, p.no_short) refl
waiting_after format rows position word p = rw (p.no_dashes, p.no_long, p.no_short) refl

-- ---- `--`, and what begins with it

pub dashes_turn : (rows : List Row) (pending : Pending) (waiting : Waiting) (position : ℕ) → turn (walk_at rows pending waiting position false) (45 ∷ 45 ∷ []) ≡ []
dashes_turn rows pending idle position = refl
dashes_turn rows pending (option id) position = refl
dashes_turn rows pending waiting position = refl

pub dashes_after : (rows : List Row) (pending : Pending) (waiting : Waiting) (position : ℕ)
    → after (walk_at rows pending waiting position false) (45 ∷ 45 ∷ []) ≡ walk_at rows pending waiting position true
unfolding clap_on_literals
dashes_after rows pending idle position = refl
dashes_after rows pending (option id) position = refl
dashes_after rows pending waiting position = refl

pub long_fails : (rows : List Row) (pending : Pending) (waiting : Waiting) (position : ℕ) (c : ℕ) (cs : Text)
    → Fails (turn (walk_at rows pending waiting position false) (45 ∷ 45 ∷ c ∷ cs))
long_fails rows pending idle position c cs = fails_with _ _
long_fails rows pending (option id) position c cs = fails_with _ _
long_fails rows pending waiting position c cs = fails_with _ _

-- ---- an option

-- A letter that names an option.
pub record Names (letter : ℕ) (k : Key) : Type 0 where
  pub named : arg_by_short rules letter ≡ Some (rule_for k)
  pub ascii : letter < 128
  pub no_hyphen : (letter == 45) ≡ false

-- The first character behind the hyphen, and what stands behind it.
char_first : (c : ℕ) (cs : Text) → c < 128 → slice_get (chars (c ∷ cs)) 0 ≡ Some c
unfolding clap_on_literals
char_first c [] small = rw (lt-ltb c 128 small) refl
char_first c (d ∷ ds) small = rw (lt-ltb c 128 small) refl

char_cut : (c : ℕ) (cs : Text) → c < 128 → drop (length (encode_utf8 c)) (c ∷ cs) ≡ cs
char_cut c cs small = ap (λ (bs : Text). drop (length bs) (c ∷ cs)) (encode_ascii c small)

-- The word of an option looks like one.
pub no_dashes : (c : ℕ) (cs : Text) → (c == 45) ≡ false → bytes_eq (45 ∷ c ∷ cs) (45 ∷ 45 ∷ []) ≡ false
no_dashes c cs h = rw h refl

pub no_long : (c : ℕ) (cs : Text) → (c == 45) ≡ false → long_of (45 ∷ c ∷ cs) ≡ None
no_long c cs h = rw h refl

pub is_short : (c : ℕ) (cs : Text) → (c == 45) ≡ false → short_of (45 ∷ c ∷ cs) ≡ Some (c ∷ cs)
is_short c cs h = rw h refl

-- Where the parser stands behind an option, with its value or without.
abbrev pub option_walk : Key → List Row → Pending → ℕ → Option Text → Walk
option_walk k rows pending position (Some v) = walk_at (used (rule_for k) (v ∷ []) (settled_rows rules pending rows)) None idle position false
option_walk k rows pending position None = walk_at (settled_rows rules pending rows) (values_of k []) (option (name_of k)) position false

-- Nothing fails behind the option itself.
option_step : (k : Key) (rows : List Row) (pending : Pending) (waiting : Waiting) (position : ℕ) (word : Text) (v : Option Text)
    → let met : Held × Outcome = option_met rules (rule_for k) v (held_at rows pending) in
    let step : Held × Step = after_flag rules waiting word met.0 met.1 in
    or_else (option_fault rules false (rule_for k) v (held_at rows pending)) (step_fault direct position step.0 step.1)
    ≡ or_else (option_fault rules false (rule_for k) v (held_at rows pending)) []
option_step k rows pending waiting position word None = refl
option_step k rows pending waiting position word (Some v) = refl

option_after_step : (k : Key) (rows : List Row) (pending : Pending) (waiting : Waiting) (position : ℕ) (word : Text) (v : Option Text)
    → let met : Held × Outcome = option_met rules (rule_for k) v (held_at rows pending) in
    let step : Held × Step = after_flag rules waiting word met.0 met.1 in
    after_step rules word (walk_at rows pending waiting position false) step.0 step.1 ≡ option_walk k rows pending position v
option_after_step k rows pending waiting position word None = refl
option_after_step k rows pending waiting position word (Some v) = refl

-- What fails at an option.
pub option_turn : (k : Key) (letter : ℕ) (rows : List Row) (pending : Pending) (waiting : Waiting) (position : ℕ) (cs : Text) → Names letter k
    → turn (walk_at rows pending waiting position false) (45 ∷ letter ∷ cs) ≡ or_else (option_fault rules false (rule_for k) (attached_value cs) (held_at rows pending)) []
unfolding clap_on_literals
option_turn k letter rows pending idle position cs n =
    rw (no_dashes letter cs n.no_hyphen, no_long letter cs n.no_hyphen, is_short letter cs n.no_hyphen)
    (rw (char_first letter cs n.ascii, char_cut letter cs n.ascii, n.named) (option_step k rows pending idle position (45 ∷ letter ∷ cs) (attached_value cs)))
option_turn k letter rows pending (option id) position cs n =
    rw (no_dashes letter cs n.no_hyphen, no_long letter cs n.no_hyphen, is_short letter cs n.no_hyphen)
    (rw (char_first letter cs n.ascii, char_cut letter cs n.ascii, n.named) (option_step k rows pending (option id) position (45 ∷ letter ∷ cs) (attached_value cs)))
option_turn k letter rows pending positional position cs n =
    rw (no_dashes letter cs n.no_hyphen, no_long letter cs n.no_hyphen, is_short letter cs n.no_hyphen)
    (rw (char_first letter cs n.ascii, char_cut letter cs n.ascii, n.named) (option_step k rows pending positional position (45 ∷ letter ∷ cs) (attached_value cs)))

pub option_after : (k : Key) (letter : ℕ) (rows : List Row) (pending : Pending) (position : ℕ) (cs : Text) → Names letter k
    → after (walk_at rows pending idle position false) (45 ∷ letter ∷ cs) ≡ option_walk k rows pending position (attached_value cs)
unfolding clap_on_literals
option_after k letter rows pending position cs n =
    rw (no_dashes letter cs n.no_hyphen, no_long letter cs n.no_hyphen, is_short letter cs n.no_hyphen)
    (rw (char_first letter cs n.ascii, char_cut letter cs n.ascii, n.named) (option_after_step k rows pending idle position (45 ∷ letter ∷ cs) (attached_value cs)))

-- A letter that names none.
pub unknown_fails : (c x : ℕ) (rows : List Row) (pending : Pending) (waiting : Waiting) (position : ℕ) (cs : Text) → (c == 45) ≡ false
    → slice_get (chars (c ∷ cs)) 0 ≡ Some x → arg_by_short rules x ≡ None → Fails (turn (walk_at rows pending waiting position false) (45 ∷ c ∷ cs))
unfolding clap_on_literals
unknown_fails c x rows pending idle position cs no_hyphen first none =
    rw (no_dashes c cs no_hyphen, no_long c cs no_hyphen, is_short c cs no_hyphen) (rw (first, none) (fails_with _ _))
unknown_fails c x rows pending (option id) position cs no_hyphen first none =
    rw (no_dashes c cs no_hyphen, no_long c cs no_hyphen, is_short c cs no_hyphen) (rw (first, none) (fails_with _ _))
unknown_fails c x rows pending positional position cs no_hyphen first none =
    rw (no_dashes c cs no_hyphen, no_long c cs no_hyphen, is_short c cs no_hyphen) (rw (first, none) (fails_with _ _))

-- An option fails where the values that are being read do.
pub option_fails : (k : Key) (v : Option Text) (rows : List Row) (pending : Pending) → Fails (unsettled rows pending)
    → Fails (or_else (option_fault rules false (rule_for k) v (held_at rows pending)) [])
option_fails k None rows pending h = first_fails (unsettled rows pending) [] h
option_fails k (Some v) rows pending h =
    first_fails (or_else (unsettled rows pending) (use_fault false (rule_for k) (v ∷ []) (settled_rows rules pending rows))) []
    (first_fails (unsettled rows pending) (use_fault false (rule_for k) (v ∷ []) (settled_rows rules pending rows)) h)
