-- A step keeps whatever each of its acts keeps; and so what it is made of stays: its setting, the entries before it, its reading.
use Rattle.sl_due_facts.proofs.Acts.EffectsKeep.{stopped}
use Rattle.sl_due_facts.proofs.Acts.HeadsKeep.{AtHead, IsUnused, kills_keep, time_outs_keep}
use Rattle.sl_due_facts.proofs.Acts.InputsKeep.{Arrives, answer_keeps, other_acts, others_keep}
use Rattle.sl_due_facts.proofs.Acts.LoopsKeep.{for_each_keeps, when_keeps}
use Rattle.sl_due_facts.proofs.Acts.PlainActs.{anything_is_kept, plain_acts}
use Rattle.sl_due_facts.proofs.Acts.WakesKeep.{last_keeps, wake_keeps}
use Rattle.sl_due_facts.specs.Acts.Acts.{Expects, IsKept, OtherActs}
use Rattle.sl_due_facts.specs.Acts.KeptByEffects.{ByEffects, Plainly}
use Rattle.sl_due.specs.Due.{after_input, before_input, due_step}
use Rattle.sl_due.specs.DueCommands.{carry_decision}
use Rattle.sl_due.specs.DueRecovery.{begin_recoveries, begin_recovery, begins_now, kills, send, signal_and_refuse, signal_holders}
use Rattle.sl_due.specs.DueTimeOuts.{time_outs}
use Rattle.sl_due.specs.DueInputs.{take_input}
use Rattle.sl_due.specs.DueWake.{on_wake}
use Rattle.sl_due.specs.Steps.{Step, add_reply, add_signal, add_start, begin_step, seen}
use Rattle.sl_trace.specs.KillPrograms.{stopper_of}
use Rattle.sl_trace.specs.Jobs.{jobs_of_session}
use Rattle.sl_trace.specs.Sessions.{holders_of, last_renewal, present_sessions, recovery_of}
use Rattle.sl_trace.specs.declared.session.Session.{Session}
use Rattle.sl_trace.specs.Traces.{Job, Setting, Trace, is_expected, next_child}
use Rattle.sl_trace.specs.declared.effects.Signal.TheVariants.{Term}
use Rattle.sl_trace.specs.declared.input.Answer.{Answer}
use Rattle.sl_trace.specs.declared.input.Input.TheVariants.{Answer as Told, Exit, Line, Number, Spawned, Wake}
use Rattle.sl_trace.specs.declared.input.Input.{Input}
use Rattle.sl_trace.specs.declared.reply.Reply.TheVariants.{Recovering}
use Rattle.sl_words.specs.Words.{some_is}
use Rattle.std.proofs.Common.{refl, subst, sym, ◌∙◌}
use Rattle.std.specs.Prelude.{Bool, IsTrue, List, None, Option, Some, filter, not, [], ℕ, ◌==◌, ◌≡◌}

-- ---- before the input

abbrev IsBare : Step → Type 0
IsBare z = (z.input ≡ Wake) × IsUnused z

abbrev not_kept : Option ℕ → Job → Bool
not_kept kept j = not (some_is (λ n. n == j.number) kept)

told_bare : (y : Step) (p : ℕ) (o : Option (List ℕ)) → IsBare y
    → IsBare (elim o as (λ z. Step) [ None ↦ add_signal p Term y | Some program ↦ add_start (record { process = next_child (seen y); program = program; job = None; stands_for = Some p }) y ])
told_bare y p None h = h
told_bare y p (Some program) h = h

recovery_bare : (s : Session) (y : Step) → IsBare y → IsBare (begin_recovery s y)
unfolding begin_recovery signal_and_refuse
recovery_bare s y h =
    when_keeps IsBare (begins_now (seen y) (recovery_of y.setting (seen y) s)) (signal_and_refuse s None) y
    (λ begins f.
    let z : Step = signal_holders Term s y in
    for_each_keeps IsBare (filter (not_kept None) (jobs_of_session z.setting (seen z) s))
    (λ j. add_reply j.number (Recovering (last_renewal z.setting (seen z) s))) z (λ j there w g. g)
    (for_each_keeps IsBare (holders_of (seen y) s) (λ p. send p Term) y (λ p there w g. told_bare w p (stopper_of w.setting (seen w) p) g) f)) h

-- Once the recoveries have begun there is still no input, and nothing is called, granted or ended.
pub begun_bare : (st : Setting) (past : Trace) (now : ℕ) → IsBare (begin_recoveries (begin_step st past now))
unfolding begin_recoveries
begun_bare st past now =
    for_each_keeps IsBare (present_sessions st (seen (begin_step st past now))) begin_recovery (begin_step st past now) (λ s there y h. recovery_bare s y h) (refl, (refl, refl, refl))

-- The step as the input finds it.
abbrev pub at_input : Setting → Trace → ℕ → Step
at_input st past now = time_outs (kills (begin_recoveries (begin_step st past now)))

pub head_keeps : (I : Step → Type 0) → OtherActs I → (st : Setting) (past : Trace) (now : ℕ) → I (begin_recoveries (begin_step st past now))
    → AtHead I (begin_recoveries (begin_step st past now)) (at_input st past now)
head_keeps I k st past now h =
    let x : Step = begin_recoveries (begin_step st past now) in
    let begun = begun_bare st past now in
    time_outs_keep I k x (kills x) begun.0 (kills_keep I k x begun.1 h)

pub bare_at_input : (st : Setting) (past : Trace) (now : ℕ) → IsBare (at_input st past now)
bare_at_input st past now =
    let head = head_keeps (λ z. Unit {0}) (other_acts (λ z. Unit {0}) anything_is_kept) st past now tt in
    (head.stays.input ∙ (begun_bare st past now).0, head.bare)

-- ---- the whole

after_keeps : (I : Step → Type 0) → OtherActs I → (y : Step) (i : Input) → y.input ≡ Wake → y.effects.calls ≡ []
    → ((number : ℕ) (answer : Answer) → i ≡ Told number answer → I (take_input i y)) → Arrives I y i → I y → I (after_input i (take_input i y))
unfolding after_input take_input
after_keeps I k y Wake wake bare answers arrives h = last_keeps I k (on_wake y) (wake_keeps I k y wake h)
after_keeps I k y (Line text) wake bare answers arrives h = last_keeps I k (take_input (Line text) y) (others_keep I k y (Line text) wake bare answers arrives h)
after_keeps I k y (Number text) wake bare answers arrives h = last_keeps I k (take_input (Number text) y) (others_keep I k y (Number text) wake bare answers arrives h)
after_keeps I k y (Told n a) wake bare answers arrives h = last_keeps I k (take_input (Told n a) y) (others_keep I k y (Told n a) wake bare answers arrives h)
after_keeps I k y (Exit p) wake bare answers arrives h = last_keeps I k (take_input (Exit p) y) (others_keep I k y (Exit p) wake bare answers arrives h)
after_keeps I k y (Spawned p ok) wake bare answers arrives h = last_keeps I k (take_input (Spawned p ok) y) (others_keep I k y (Spawned p ok) wake bare answers arrives h)

-- A step by what its input does where that is an answer.
pub step_by : (I : Step → Type 0) → OtherActs I → (st : Setting) (past : Trace) (now : ℕ) (i : Input)
    → ((number : ℕ) (answer : Answer) → i ≡ Told number answer → I (at_input st past now) → I (take_input i (at_input st past now)))
    → (I (at_input st past now) → Arrives I (at_input st past now) i) → I (begin_recoveries (begin_step st past now)) → I (due_step st past now i)
unfolding due_step before_input
step_by I k st past now i answers arrives h =
    let kept : I (at_input st past now) = (head_keeps I k st past now h).kept in
    let bare = bare_at_input st past now in
    after_keeps I k (at_input st past now) i bare.0 bare.1.0 (λ number answer is. answers number answer is kept) (arrives kept) kept

-- ---- what each effect keeps

plainly_arrives : (K : Step → Type 0) → Plainly K → (y : Step) (i : Input) → y.input ≡ Wake → y.effects.calls ≡ [] → K y → Arrives K y i
plainly_arrives K p y (Spawned n ok) wake bare h = p.inputs y (Spawned n ok) wake bare h
plainly_arrives K p y (Told n a) wake bare h = tt
plainly_arrives K p y (Line text) wake bare h = tt
plainly_arrives K p y (Number text) wake bare h = tt
plainly_arrives K p y (Exit n) wake bare h = tt
plainly_arrives K p y Wake wake bare h = tt

plainly_answers : (K : Step → Type 0) → Plainly K → (y : Step) (i : Input) → y.input ≡ Wake → IsUnused y → (number : ℕ) (answer : Answer) → i ≡ Told number answer → K y
    → K (take_input i y)
plainly_answers K p y i wake bare number answer is h =
    subst (λ z. K (take_input z y)) (sym is) (answer_keeps K (plain_acts K p) y number answer wake bare (p.inputs y (Told number answer) wake bare.0 h))

-- What each single effect keeps is kept by a step, expected or not.
pub plain_step_keeps : (K : Step → Type 0) → Plainly K → (st : Setting) (past : Trace) (now : ℕ) (i : Input) → K (begin_recoveries (begin_step st past now)) → K (due_step st past now i)
plain_step_keeps K p st past now i h =
    let bare = bare_at_input st past now in
    step_by K (other_acts K (plain_acts K p)) st past now i (plainly_answers K p (at_input st past now) i bare.0 bare.1)
    (plainly_arrives K p (at_input st past now) i bare.0 bare.1.0) h

-- ---- what a step is made of stays

pub record Fixed (st : Setting) (past : Trace) (now : ℕ) (x : Step) : Type 0 where
  pub setting : x.setting ≡ st
  pub before : x.past ≡ past
  pub reading : x.reading ≡ now

fixed_effects : (st : Setting) (past : Trace) (now : ℕ) → ByEffects (Fixed st past now)
fixed_effects st past now =
    record {
      ends = λ x e h. record { setting = h.setting; before = h.before; reading = h.reading };
      signals = λ x p s h. record { setting = h.setting; before = h.before; reading = h.reading };
      moves = λ x m h. record { setting = h.setting; before = h.before; reading = h.reading };
      grants = λ x g h. record { setting = h.setting; before = h.before; reading = h.reading };
      starts = λ x s h. record { setting = h.setting; before = h.before; reading = h.reading };
      replies = λ x j r h. record { setting = h.setting; before = h.before; reading = h.reading };
      calls = λ x s path p o op has h. record { setting = h.setting; before = h.before; reading = h.reading };
    }

fixed_plainly : (st : Setting) (past : Trace) (now : ℕ) → Plainly (Fixed st past now)
unfolding carry_decision
fixed_plainly st past now =
    record {
      effects = fixed_effects st past now;
      inputs = λ x i wake bare h. record { setting = h.setting; before = h.before; reading = h.reading };
      begins = λ x text c n a wake bare says is h. record { setting = h.setting; before = h.before; reading = h.reading };
    }

pub fixed_first : (st : Setting) (past : Trace) (now : ℕ) → Fixed st past now (begin_recoveries (begin_step st past now))
unfolding begin_recoveries begin_recovery
fixed_first st past now =
    for_each_keeps (Fixed st past now) (present_sessions st (seen (begin_step st past now))) begin_recovery (begin_step st past now)
    (λ s there y h. when_keeps (Fixed st past now) (begins_now (seen y) (recovery_of y.setting (seen y) s)) (signal_and_refuse s None) y
    (λ begins k. stopped (Fixed st past now) (fixed_effects st past now) y s None k) h)
    (record { setting = refl; before = refl; reading = refl })

-- `due_step` is a step of this setting, after these entries, at this reading.
pub due_is_of : (st : Setting) (past : Trace) (now : ℕ) (i : Input) → Fixed st past now (due_step st past now i)
due_is_of st past now i = plain_step_keeps (Fixed st past now) (fixed_plainly st past now) st past now i (fixed_first st past now)

-- ---- what each act keeps

pub expected_there : (st : Setting) (past : Trace) (now : ℕ) (i : Input) → IsTrue (is_expected st past i) → Expects (at_input st past now) i
expected_there st past now i expected =
    let f : Fixed st past now (at_input st past now) =
    (head_keeps (Fixed st past now) (other_acts (Fixed st past now) (plain_acts (Fixed st past now) (fixed_plainly st past now))) st past now (fixed_first st past now)).kept
    in
    subst (λ z. IsTrue (is_expected z (at_input st past now).past i)) (sym f.setting) (subst (λ t. IsTrue (is_expected st t i)) (sym f.before) expected)

pub arrives_as_expected : (I : Step → Type 0) → OtherActs I → (y : Step) (i : Input) → y.input ≡ Wake → y.effects.calls ≡ [] → Expects y i → I y → Arrives I y i
arrives_as_expected I k y (Spawned p ok) wake bare expected h = k.starts y p ok wake bare expected h
arrives_as_expected I k y (Told n a) wake bare expected h = tt
arrives_as_expected I k y (Line text) wake bare expected h = tt
arrives_as_expected I k y (Number text) wake bare expected h = tt
arrives_as_expected I k y (Exit p) wake bare expected h = tt
arrives_as_expected I k y Wake wake bare expected h = tt

heard_as_expected : (I : Step → Type 0) → IsKept I → (y : Step) (i : Input) → y.input ≡ Wake → IsUnused y → Expects y i → (number : ℕ) (answer : Answer) → i ≡ Told number answer → I y
    → I (take_input i y)
heard_as_expected I k y i wake bare expected number answer is h =
    subst (λ z. I (take_input z y)) (sym is) (answer_keeps I k y number answer wake bare (k.hears y number answer wake bare.0 (subst (λ z. Expects y z) is expected) h))

-- A step at an input that is expected keeps whatever each of its acts keeps.
pub step_keeps : (I : Step → Type 0) → IsKept I → (st : Setting) (past : Trace) (now : ℕ) (i : Input) → IsTrue (is_expected st past i) → I (begin_recoveries (begin_step st past now))
    → I (due_step st past now i)
step_keeps I k st past now i expected h =
    let bare = bare_at_input st past now in
    let there : Expects (at_input st past now) i = expected_there st past now i expected in
    step_by I (other_acts I k) st past now i (heard_as_expected I k (at_input st past now) i bare.0 bare.1 there)
    (arrives_as_expected I (other_acts I k) (at_input st past now) i bare.0 bare.1.0 there) h
