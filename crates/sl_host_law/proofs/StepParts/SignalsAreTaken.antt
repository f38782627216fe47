-- Signals, and kill programs in their place.
use Rattle.sl_host_law.proofs.Calls.StartsAreTaken.{starts_are_taken}
use Rattle.sl_due.specs.DueRecovery.{send, signal_holders, tell_to_stop}
use Rattle.sl_due.specs.Steps.{Step, add_signal, add_start, for_each, seen}
use Rattle.sl_host_state.proofs.StepQuestions.{questions_are_answered}
use Rattle.sl_host_state.proofs.EffectsAreTaken.{effects_are_taken}
use Rattle.sl_host_state.specs.StepQuestions.{stopper_in}
use Rattle.sl_host_state.specs.KeptState.{HostState, MemberState}
use Rattle.sl_host_state.specs.MadeEffects.{with_signal, with_start}
use Rattle.sl_host_state.specs.HostStands.{Stands, Takes}
use Rattle.sl_trace.specs.KillPrograms.{stopper_of}
use Rattle.sl_host_law.specs.StepParts.Signals.{SignalsAreTaken, over, sending, signalling, telling}
use Rattle.sl_host_law.proofs.Questions.MembersAnswer.{members_answer}
use Rattle.sl_host_law.specs.Questions.Members.{IsMemberAt, holders_in}
use Rattle.sl_trace.specs.Traces.{first_child, next_child}
use Rattle.sl_trace.specs.declared.effects.Signal.TheVariants.{Kill, Term}
use Rattle.sl_trace.specs.declared.effects.Signal.{Signal}
use Rattle.sl_trace.specs.declared.effects.Start.{Start}
use Rattle.sl_trace.specs.declared.input.Input.{Input}
use Rattle.std.proofs.Common.{ap, refl, subst, sym, ◌∙◌}
use Rattle.std.proofs.lemmas.List.{map-id}
use Rattle.std.specs.Prelude.{List, None, Option, Some, [], ℕ, ◌+◌, ◌∷◌, ◌≡◌}

-- ---- one after another

-- What is taken whatever the state is taken of each of a list.
pub each_taken : {A : Type 0} (xs : List A) (f : A → Step → Step) (g : A → HostState → HostState) → ((a : A) (h : HostState) → Takes h (g a h) (f a)) → (h : HostState)
    → Takes h (over xs g h) (for_each xs f)
each_taken [] f g one h i x s = s
each_taken (a ∷ xs) f g one h i x s = each_taken xs f g one (g a h) i (f a x) (one a h i x s)

-- ---- one process

-- The start in place of a term.
abbrev stopping : ℕ → List ℕ → ℕ → Start
stopping p program process = record { process = process; program = program; job = None; stands_for = Some p }

tell : (p : ℕ) (h : HostState) → Takes h (telling p h) (tell_to_stop p)
tell p h i x s =
    subst (λ o. Stands i (telling p h) (elim o as (λ z. Step) [ None ↦ add_signal p Term x | Some program ↦ add_start (stopping p program (next_child (seen x))) x ])) (sym (questions_are_answered.stopper i h x p s))
    (subst (λ n. Stands i (telling p h) (elim (stopper_in h p) as (λ z. Step) [ None ↦ add_signal p Term x | Some program ↦ add_start (stopping p program n) x ]))
    (ap (λ n. first_child + n) (sym s.keeps.started)) (by (stopper_in h p))) where
      by : (o : Option (List ℕ))
          → Stands i (elim o as (λ z. HostState) [ None ↦ with_signal p Term h | Some program ↦ with_start (stopping p program (first_child + h.started)) h ])
          (elim o as (λ z. Step) [ None ↦ add_signal p Term x | Some program ↦ add_start (stopping p program (first_child + h.started)) x ])
      by None = effects_are_taken.signal p Term h i x s
      by (Some program) = starts_are_taken h (stopping p program (first_child + h.started)) (record { number = refl; job = refl }) i x s

sent : (p : ℕ) (signal : Signal) (h : HostState) → Takes h (sending p signal h) (send p signal)
sent p Term h i x s = tell p h i x s
sent p Kill h i x s = effects_are_taken.signal p Kill h i x s

-- ---- what stays

-- Members, jobs, lines and the configuration are the same.
pub record IsSame (a b : HostState) : Type 0 where
  pub members : a.members ≡ b.members
  pub jobs : a.jobs ≡ b.jobs
  pub lines : a.next_job ≡ b.next_job
  pub config : a.config ≡ b.config

same_then : (a b c : HostState) → IsSame a b → IsSame b c → IsSame a c
same_then a b c one two = record { members = one.members ∙ two.members; jobs = one.jobs ∙ two.jobs; lines = one.lines ∙ two.lines; config = one.config ∙ two.config }

telling_same : (p : ℕ) (h : HostState) → IsSame (telling p h) h
telling_same p h = by (stopper_in h p) where
  by : (o : Option (List ℕ)) → IsSame (elim o as (λ z. HostState) [ None ↦ with_signal p Term h | Some program ↦ with_start (stopping p program (first_child + h.started)) h ]) h
  by None = record { members = refl; jobs = refl; lines = refl; config = refl }
  by (Some program) = record { members = refl; jobs = map-id h.jobs; lines = refl; config = refl }

sending_same : (p : ℕ) (signal : Signal) (h : HostState) → IsSame (sending p signal h) h
sending_same p Term h = telling_same p h
sending_same p Kill h = record { members = refl; jobs = refl; lines = refl; config = refl }

over_same : (ps : List ℕ) (signal : Signal) (h : HostState) → IsSame (over ps (λ p. sending p signal) h) h
over_same [] signal h = record { members = refl; jobs = refl; lines = refl; config = refl }
over_same (p ∷ ps) signal h =
    same_then (over ps (λ q. sending q signal) (sending p signal h)) (sending p signal h) h (over_same ps signal (sending p signal h)) (sending_same p signal h)

pub signalling_same : (m : MemberState) (signal : Signal) (h : HostState) → IsSame (signalling signal m h) h
signalling_same m signal h = over_same (holders_in h m) signal h

-- ---- the holders of a member

pub holders : (i : Input) (h : HostState) (x : Step) (k : ℕ) (m : MemberState) (signal : Signal) → IsMemberAt i h x k m → Stands i (signalling signal m h) (signal_holders signal m.who x)
holders i h x k m signal at =
    subst (λ ps. Stands i (signalling signal m h) (for_each ps (λ p. send p signal) x)) (sym (members_answer i h x k m at).holders)
    (each_taken (holders_in h m) (λ p. send p signal) (λ p. sending p signal) (λ p g. sent p signal g) h i x at.stands)

-- The steps before stay, too.
tell_past : (p : ℕ) (x : Step) → (tell_to_stop p x).past ≡ x.past
tell_past p x = by (stopper_of x.setting (seen x) p) where
  by : (o : Option (List ℕ)) → (elim o as (λ z. Step) [ None ↦ add_signal p Term x | Some program ↦ add_start (stopping p program (next_child (seen x))) x ]).past ≡ x.past
  by None = refl
  by (Some program) = refl

send_past : (p : ℕ) (signal : Signal) (x : Step) → (send p signal x).past ≡ x.past
send_past p Term x = tell_past p x
send_past p Kill x = refl

each_past : (ps : List ℕ) (signal : Signal) (x : Step) → (for_each ps (λ p. send p signal) x).past ≡ x.past
each_past [] signal x = refl
each_past (p ∷ ps) signal x = each_past ps signal (send p signal x) ∙ send_past p signal x

pub holders_past : (i : Input) (h : HostState) (x : Step) (k : ℕ) (m : MemberState) (signal : Signal) → IsMemberAt i h x k m → (signal_holders signal m.who x).past ≡ x.past
holders_past i h x k m signal at =
    ap (λ ps. (for_each ps (λ p. send p signal) x).past) (members_answer i h x k m at).holders ∙ each_past (holders_in h m) signal x

pub signals_are_taken : SignalsAreTaken
signals_are_taken = record { tell = tell; sent = sent; holders = holders; members = λ m s h. (signalling_same m s h).members }
