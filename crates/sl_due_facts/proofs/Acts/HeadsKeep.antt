-- What comes before the input keeps what the acts keep.
use Rattle.sl_due_facts.proofs.Acts.AddedAtEnd.{found_more}
use Rattle.sl_due_facts.proofs.Acts.LoopsKeep.{each_in_turn, for_each_keeps, when_keeps, with_some_keeps}
use Rattle.sl_due_facts.proofs.Acts.SessionsStay.{Stays, itself, refused_stays}
use Rattle.sl_due_facts.proofs.Acts.WakesKeep.{present_has}
use Rattle.sl_due_facts.specs.Acts.Acts.{Has, OtherActs}
use Rattle.sl_due.specs.DueTimeOuts.{is_overdue, refuse, remove_connection, remove_of_refused, time_out, time_outs}
use Rattle.sl_due.specs.DueRecovery.{kill_holders, kills, kills_holders, send, signal_holders}
use Rattle.sl_due.specs.Steps.{Step, add_move, add_reply, seen, when}
use Rattle.sl_words.proofs.Lists.{contains_cases, contains_first, contains_more, contains_none, kept_inside}
use Rattle.sl_words.proofs.Numbers.{less_is_other}
use Rattle.sl_trace.specs.Sessions.{has_open_write, holders_of, present_sessions, refused_after, session_of_job}
use Rattle.sl_trace.specs.declared.session.Session.{Session}
use Rattle.sl_trace.specs.WatchdogConnections.{is_registered}
use Rattle.sl_trace.specs.Traces.{Job, Replied, Setting, Submitted, Trace, is_running, jobs, line_in, next_job, numbers_taken, reply_to, running_jobs, takes_number, waiting_call}
use Rattle.sl_trace.specs.declared.effects.JobReply.{JobReply}
use Rattle.sl_trace.specs.declared.effects.Move.TheVariants.{Unregister}
use Rattle.sl_trace.specs.declared.effects.Signal.TheVariants.{Kill}
use Rattle.sl_trace.specs.declared.input.Input.TheVariants.{Answer as Told, Exit, Line, Number, Spawned, Wake}
use Rattle.sl_trace.specs.declared.input.Input.{Input}
use Rattle.sl_trace.specs.declared.reply.Reply.TheVariants.{IoTimeout}
use Rattle.sl_trace.specs.declared.reply.Reply.{Reply}
use Rattle.std.proofs.Common.{ap, append-nil, arith, inl, inr, refl, subst, sym, ◌∙◌}
use Rattle.std.proofs.lemmas.List.{append-nil}
use Rattle.std.specs.Prelude.{Bool, Contains, List, None, Option, Some, cond, false, filter, is_none, is_some, length, not, option_map, true, [], ℕ, ◌&&◌, ◌++◌, ◌+◌, ◌==◌, ◌∷◌, ◌≡◌, ◌≤◌}

-- Nothing has been called, granted or ended.
abbrev pub IsUnused : Step → Type 0
IsUnused z = (z.effects.calls ≡ []) × (z.effects.grants ≡ []) × (z.effects.ends ≡ [])

-- Before the input: a wake, and nothing of what only comes after it.
pub record AtHead (I : Step → Type 0) (x y : Step) : Type 0 where
  pub kept : I y
  pub stays : Stays x y
  pub bare : IsUnused y

-- ---- kills

record Quiet (x y : Step) : Type 0 where
  stays : Stays x y
  bare : IsUnused y

kill_one : (I : Step → Type 0) → OtherActs I → (x : Step) (s : Session) → Has x s → (y : Step) → AtHead I x y → AtHead I x (kill_holders s y)
unfolding kill_holders
kill_one I k x s has y h =
    when_keeps (AtHead I x) (kills_holders y.setting (seen y) s) (signal_holders Kill s) y
    (λ is f. (
    let more = for_each_keeps (Quiet x) (holders_of (seen y) s) (λ p. send p Kill) y (λ p there z g. record { stays = record { sessions = g.stays.sessions; input = g.stays.input }; bare = g.bare })
    (record { stays = f.stays; bare = f.bare }) in
    record { kept = k.kills y s (f.stays.sessions s has) is f.kept; stays = more.stays; bare = more.bare })) h

pub kills_keep : (I : Step → Type 0) → OtherActs I → (x : Step) → IsUnused x → I x → AtHead I x (kills x)
unfolding kills
kills_keep I k x bare h =
    for_each_keeps (AtHead I x) (present_sessions x.setting (seen x)) kill_holders x (λ s there. kill_one I k x s (present_has x s there)) (record { kept = h; stays = itself x; bare = bare })

-- ---- calls that took too long: each job is looked at once

abbrev Apart : List Job → Type 0
Apart [] = Unit {0}
Apart (j ∷ js) = ((i : Job) → Contains js i → (j.number == i.number) ≡ false) × Apart js

-- Jobs that still run, and have different numbers.
pub record Left (I : Step → Type 0) (x : Step) (js : List Job) (y : Step) : Type 0 where
  pub head : AtHead I x y
  pub running : (j : Job) → Contains js j → is_running (seen y) j.number ≡ true
  pub apart : Apart js

fewer : (I : Step → Type 0) (x : Step) (j : Job) (rest : List Job) (y : Step) → Left I x (j ∷ rest) y → Left I x rest y
fewer I x j rest y h = record { head = h.head; running = λ k there. h.running k (contains_more j rest k there); apart = h.apart.1 }

-- The other jobs still run.
others_run : (y : Step) (j n : ℕ) (r : Reply) → (j == n) ≡ false → is_running (seen (refuse j r y)) n ≡ is_running (seen y) n
unfolding refuse
others_run y j n r other =
    with_some_keeps (λ z. is_running (seen z) n ≡ is_running (seen y) n) (session_of_job y.setting (seen y) j) remove_of_refused (add_reply j r y)
    (λ s is h. when_keeps (λ z. is_running (seen z) n ≡ is_running (seen y) n) (is_some (refused_after (seen (add_reply j r y)) s) && not (has_open_write (seen (add_reply j r y)) s))
    (remove_connection s.lockspace) (add_reply j r y)
    (λ gone g. when_keeps (λ z. is_running (seen z) n ≡ is_running (seen y) n) (is_registered y.setting (seen (add_reply j r y)) s.lockspace) (add_move (Unregister s.lockspace)) (add_reply j r y) (λ up f. f) g) h)
    (ap (λ o. is_none (elim (reply_to y.past n) as (λ z. Option Replied) [ Some q ↦ Some q | None ↦ option_map (λ (a : JobReply). record { at = length y.past; reply = a.reply }) o ]))
    (found_more y.effects.replies (record { job = j; reply = r }) n other))

refuse_bare : (y : Step) (j : ℕ) (r : Reply) → IsUnused y → IsUnused (refuse j r y)
unfolding refuse
refuse_bare y j r bare =
    with_some_keeps IsUnused (session_of_job y.setting (seen y) j) remove_of_refused (add_reply j r y)
    (λ s is h. when_keeps IsUnused (is_some (refused_after (seen (add_reply j r y)) s) && not (has_open_write (seen (add_reply j r y)) s))
    (remove_connection s.lockspace) (add_reply j r y)
    (λ gone g. when_keeps IsUnused (is_registered y.setting (seen (add_reply j r y)) s.lockspace) (add_move (Unregister s.lockspace)) (add_reply j r y) (λ up f. f) g) h) bare

refused_left : (I : Step → Type 0) → OtherActs I → (x : Step) → x.input ≡ Wake → (j : Job) (rest : List Job) (y : Step) → Left I x (j ∷ rest) y → (m : Submitted) → waiting_call (seen y) j.number ≡ Some m
    → is_overdue y.setting y.reading m ≡ true → Left I x rest (refuse j.number (IoTimeout m.call.number m.reading y.reading) y)
refused_left I k x wake j rest y h m waits late =
    let r : Reply = IoTimeout m.call.number m.reading y.reading in
    record {
      head = record {
        kept = k.times_out y j.number m (h.head.stays.input ∙ wake) h.head.bare.0 (h.running j (contains_first j rest)) waits late h.head.kept;
        stays = refused_stays x y j.number r h.head.stays;
        bare = refuse_bare y j.number r h.head.bare;
      };
      running = λ i there. others_run y j.number i.number r (h.apart.0 i there) ∙ h.running i (contains_more j rest i there);
      apart = h.apart.1;
    }

-- The numbers of jobs rise, from this one on and up to that one.
abbrev Rising : ℕ → List Job → ℕ → Type 0
Rising n [] end = n ≤ end
Rising n (j ∷ js) end = (n ≤ j.number) × Rising (j.number + 1) js end

rising_more : (n : ℕ) (js : List Job) (k : Job) (end : ℕ) → Rising n js end → k.number ≡ end → Rising n (js ++ k ∷ []) (end + 1)
rising_more n [] k end h is = (omega (arith, h, is), omega (arith, is))
rising_more n (j ∷ js) k end h is = (h.0, rising_more (j.number + 1) js k end h.1 is)

rising_on : (n : ℕ) (js : List Job) (end more : ℕ) → Rising n js end → end ≤ more → Rising n js more
rising_on n [] end more h is = omega (arith, h, is)
rising_on n (j ∷ js) end more h is = (h.0, rising_on (j.number + 1) js end more h.1 is)

with_line : (st : Setting) (es : Trace) (i : Input) (now : ℕ) (js : List Job) → Rising st.first.job js (next_job st es)
    → Rising st.first.job
    (js ++ elim (line_in i) as (λ z. List Job) [ None ↦ [] | Some text ↦ record { number = next_job st es; at = length es; reading = now; command = st.read text } ∷ [] ])
    (st.first.job + elim (takes_number i) as (λ z. ℕ) [ true ↦ numbers_taken es + 1 | false ↦ numbers_taken es ])
with_line st es (Line text) now js h =
    subst (λ n. Rising st.first.job (js ++ record { number = next_job st es; at = length es; reading = now; command = st.read text } ∷ []) n) (omega arith)
    (rising_more st.first.job js (record { number = next_job st es; at = length es; reading = now; command = st.read text }) (next_job st es) h refl)
with_line st es (Number text) now js h = subst (λ zs. Rising st.first.job zs (st.first.job + (numbers_taken es + 1))) (sym (append-nil js)) (rising_on st.first.job js (next_job st es) (st.first.job + (numbers_taken es + 1)) h (omega arith))
with_line st es (Told n a) now js h = subst (λ zs. Rising st.first.job zs (next_job st es)) (sym (append-nil js)) h
with_line st es (Exit p) now js h = subst (λ zs. Rising st.first.job zs (next_job st es)) (sym (append-nil js)) h
with_line st es (Spawned p ok) now js h = subst (λ zs. Rising st.first.job zs (next_job st es)) (sym (append-nil js)) h
with_line st es Wake now js h = subst (λ zs. Rising st.first.job zs (next_job st es)) (sym (append-nil js)) h

jobs_rise : (st : Setting) (es : Trace) → Rising st.first.job (jobs st es) (next_job st es)
jobs_rise st [] = omega arith
jobs_rise st (e ∷ es) = with_line st es e.input e.reading (jobs st es) (jobs_rise st es)

from_on : (n : ℕ) (js : List Job) (end : ℕ) (i : Job) → Rising n js end → Contains js i → n ≤ i.number
from_on n [] end i h there = absurd (contains_none i there)
from_on n (j ∷ js) end i h there =
    elim (contains_cases j js i there) [
      | inl is ↦ let same : j.number ≡ i.number = ap (λ (z : Job). z.number) is in omega (arith, same, h.0)
      | inr rest ↦ let more : j.number + 1 ≤ i.number = from_on (j.number + 1) js end i h.1 rest in omega (arith, more, h.0)
    ]

rising_apart : (n : ℕ) (js : List Job) (end : ℕ) → Rising n js end → Apart js
rising_apart n [] end h = tt
rising_apart n (j ∷ js) end h = ((λ i there. apart i (from_on (j.number + 1) js end i h.1 there)), rising_apart (j.number + 1) js end h.1) where
  apart : (i : Job) → j.number + 1 ≤ i.number → (j.number == i.number) ≡ false
  apart i more = less_is_other j.number i.number (omega (arith, more))

kept_one : (j : Job) (js : List Job) (b : Bool) → ((i : Job) → Contains js i → (j.number == i.number) ≡ false) → Apart js → Apart (cond b (j ∷ js) js)
kept_one j js true first rest = (first, rest)
kept_one j js false first rest = rest

kept_apart : (p : Job → Bool) (js : List Job) → Apart js → Apart (filter p js)
kept_apart p [] h = tt
kept_apart p (j ∷ js) h = kept_one j (filter p js) (p j) (λ i there. h.0 i (kept_inside p js i there).0) (kept_apart p js h.1)

jobs_apart : (st : Setting) (es : Trace) → Apart (running_jobs st es)
jobs_apart st es = kept_apart (λ j. is_running es j.number) (jobs st es) (rising_apart st.first.job (jobs st es) (next_job st es) (jobs_rise st es))

all_left : (I : Step → Type 0) (x y : Step) → AtHead I x y → Left I x (running_jobs y.setting (seen y)) y
all_left I x y h =
    record { head = h; running = λ j there. (kept_inside (λ (i : Job). is_running (seen y) i.number) (jobs y.setting (seen y)) j there).1; apart = jobs_apart y.setting (seen y) }

time_out_one : (I : Step → Type 0) → OtherActs I → (x : Step) → x.input ≡ Wake → (j : Job) (rest : List Job) (y : Step) → Left I x (j ∷ rest) y → Left I x rest (time_out j y)
unfolding time_out
time_out_one I k x wake j rest y h =
    with_some_keeps (Left I x rest) (waiting_call (seen y) j.number) (λ m. when (is_overdue y.setting y.reading m) (refuse j.number (IoTimeout m.call.number m.reading y.reading))) y
    (λ m waits g. when_keeps (Left I x rest) (is_overdue y.setting y.reading m) (refuse j.number (IoTimeout m.call.number m.reading y.reading)) y
    (λ late f. refused_left I k x wake j rest y h m waits late) g)
    (fewer I x j rest y h)

pub time_outs_keep : (I : Step → Type 0) → OtherActs I → (x y : Step) → x.input ≡ Wake → AtHead I x y → AtHead I x (time_outs y)
unfolding time_outs
time_outs_keep I k x y wake h = (each_in_turn (Left I x) (running_jobs y.setting (seen y)) time_out y (λ j rest z g. time_out_one I k x wake j rest z g) (all_left I x y h)).head
