-- The entry of a step is the newest of the trace by that step. So what a session counted as over by that entry it has evidence of by that
-- step, in the history's words.
use Rattle.sl_ballot_law.specs.History.{Owner as Holder}
use Rattle.sl_run_law.proofs.Course.PairwiseLists.{pairs_length}
use Rattle.sl_run_law.proofs.Course.EntriesAreStamped.{entries_are_stamped}
use Rattle.sl_run_law.specs.Course.CallStamps.{IsStampOf, stamp_in}
use Rattle.sl_run_law.proofs.Moment.MachinesInOrder.{entries_ordered, fall_front, fall_step}
use Rattle.sl_run_law.specs.Moment.Orders.{Fall}
use Rattle.sl_words.proofs.Numbers.{le_itself}
use Rattle.sl_safety.proofs.Resources.Calls.{in_world}
use Rattle.sl_safety.proofs.Resources.StepsNameCalls.{holder_named}
use Rattle.sl_safety.proofs.Resources.CallParts.{Standing}
use Rattle.sl_safety.specs.Resources.Histories.{has_counted_over, trace_by}
use Rattle.sl_safety.specs.Resources.HistoryLaws.{NamesDiffer, history_of_line}
use Rattle.sl_safety.specs.Resources.SentCalls.{Sent, holder_of, is_joined_there, sender_of, step_of}
use Rattle.sl_run.specs.Runs.{Happening}
use Rattle.sl_run.specs.Safety.{Found, LawfulRun, SessionId, session_of_world, world_at}
use Rattle.sl_run.specs.Worlds.{Program, Stamp, World}
use Rattle.sl_run.specs.declared.header.Header.{Header}
use Rattle.sl_run.specs.declared.header.ResourceLine.{ResourceLine}
use Rattle.sl_trace.specs.Sessions.{session_numbered}
use Rattle.sl_trace.specs.Sightings.{counted_over}
use Rattle.sl_trace.specs.Traces.{Trace}
use Rattle.sl_trace.specs.declared.effects.Entry.{Entry}
use Rattle.sl_run_law.proofs.Watchdog.Stamps.{stamp_there}
use Rattle.sl_words.proofs.CaseLaws.{none_some, some_value}
use Rattle.sl_words.specs.Words.{some_is}
use Rattle.std.proofs.Common.{ap, arith, sym, tests, ◌∙◌}
use Rattle.std.proofs.lemmas.Bool.{lt-leb}
use Rattle.std.proofs.lemmas.List.{length-append}
use Rattle.std.specs.Prelude.{Bool, List, Option, Some, [], false, length, nat_le, suc, true, ℕ, ◌++◌, ◌+◌, ◌==◌, ◌∷◌, ◌≡◌}

-- ---- the trace by a step

pub at_head : (n m : ℕ) → suc n ≡ suc m → (m == n) ≡ true
at_head n m h = grind (arith, tests)

pub behind : (n m k : ℕ) → suc n ≡ suc (m + suc k) → (k == n) ≡ false
behind n m k h = grind (arith, tests)

pub less_one : (n m : ℕ) → suc n ≡ suc m → n ≡ m
less_one n m h = omega (arith, h)

abbrev stamp_or : Bool → Stamp → List Stamp → ℕ → Option Stamp
stamp_or b s ss i = elim b [ true ↦ Some s | false ↦ stamp_in ss i ]

pub by_step : (n : ℕ) (ss : List Stamp) (later past : Trace) (e : Entry) (t : Stamp) → Fall n ss → length ss ≡ length (later ++ e ∷ past) → stamp_in ss (length past) ≡ Some t
    → trace_by ss (later ++ e ∷ past) t.step ≡ e ∷ past
by_step n [] later past e t fall even at = absurd (none_some t at)
by_step n (s ∷ ss) [] past e t fall even at =
    let head : (length past == length ss) ≡ true = at_head (length ss) (length past) even in
    let same : s ≡ t = some_value s t (ap (λ b. stamp_or b s ss (length past)) (sym head) ∙ at) in
    ap (λ b. elim b as (λ z. Trace) [ true ↦ e ∷ past | false ↦ trace_by ss past t.step ])
    (ap (λ (y : Stamp). nat_le y.step t.step) same ∙ le_itself t.step)
by_step n (s ∷ ss) (y ∷ later) past e t fall even at =
    let long : length (later ++ e ∷ past) ≡ length later + suc (length past) = length-append later (e ∷ past) in
    let off : (length past == length ss) ≡ false = behind (length ss) (length later) (length past) (even ∙ ap (λ k. suc k) long) in
    let there : stamp_in ss (length past) ≡ Some t = ap (λ b. stamp_or b s ss (length past)) (sym off) ∙ at in
    ap (λ b. elim b as (λ z. Trace) [ true ↦ y ∷ (later ++ e ∷ past) | false ↦ trace_by ss (later ++ e ∷ past) t.step ])
    (lt-leb s.step t.step (fall_step s.step ss t fall.1 (stamp_there ss (length past) t there)))
    ∙ by_step s.step ss later past e t fall.1 (less_one (length ss) (length (later ++ e ∷ past)) even) there

-- ---- evidence

abbrev pub found_of_standing : {w : World} {x : Sent} → Standing w x → Found
found_of_standing {w} {x} s = record { machine = s.machine; daemon = s.daemon; session = s.session; now = w.moment }

-- The session of a call is found.
pub sender_found : (w : World) (x : Sent) (s : Standing w x) → session_of_world w (sender_of x) ≡ Some (found_of_standing s)
sender_found w x s =
    in_world w (sender_of x) s.machine s.daemon s.session s.at s.numbered
    (ap (λ c. session_numbered s.daemon.setting s.daemon.trace c.session) (sym s.told.pair.call) ∙ s.known)

-- The trace by the step of a call ends with the call's entry.
pub trace_at_call : (p : Program) (h : Header) (xs : List Happening) → LawfulRun p h xs → (x : Sent) (s : Standing (world_at p h xs) x) (later past : Trace) (e : Entry)
    → s.daemon.trace ≡ later ++ e ∷ past → s.told.one.at ≡ length past → trace_by s.daemon.stamps s.daemon.trace (step_of x) ≡ e ∷ past
trace_at_call p h xs run x s later past e whole place =
    let w : World = world_at p h xs in
    let fall : Fall w.step s.daemon.stamps =
    fall_front w.step s.daemon.stamps (s.daemon.begun ∷ []) (entries_ordered p h xs run x.machine s.machine s.daemon s.at s.has) in
    let even : length s.daemon.stamps ≡ length (later ++ e ∷ past) =
    pairs_length IsStampOf s.daemon.stamps s.daemon.trace (entries_are_stamped p h xs run x.machine s.machine s.daemon s.at s.has) ∙ ap (λ (t : Trace). length t) whole in
    ap (λ (t : Trace). trace_by s.daemon.stamps t (step_of x)) whole
    ∙ by_step w.step s.daemon.stamps later past e x.course.made fall even (ap (λ n. stamp_in s.daemon.stamps n) (sym place) ∙ s.told.pair.made)

-- What a session counted as over by the entry of its call it has evidence of by the call's step.
pub evidence_at : (p : Program) (h : Header) (xs : List Happening) → LawfulRun p h xs → (r : ResourceLine) → NamesDiffer (world_at p h xs) r.lockspace → (x : Sent)
    → (s : Standing (world_at p h xs) x) → is_joined_there (world_at p h xs) r.lockspace (sender_of x) ≡ true → (later past : Trace) (e : Entry)
    → s.daemon.trace ≡ later ++ e ∷ past → s.told.one.at ≡ length past → (o : Holder)
    → counted_over s.daemon.setting (e ∷ past) s.session o.id o.generation ≡ true
    → (history_of_line p h xs r).evidence (holder_of (world_at p h xs) (sender_of x)) o (step_of x) ≡ true
evidence_at p h xs run r differ x s joined later past e whole place o counted =
    let w : World = world_at p h xs in
    ap (λ (q : Option SessionId). some_is (λ i. some_is (λ f. has_counted_over f o (step_of x)) (session_of_world w i)) q)
    (holder_named w r.lockspace differ (sender_of x) joined)
    ∙ ap (λ (q : Option Found). some_is (λ f. has_counted_over f o (step_of x)) q) (sender_found w x s)
    ∙ ap (λ (t : Trace). counted_over s.daemon.setting t s.session o.id o.generation) (trace_at_call p h xs run x s later past e whole place)
    ∙ counted
