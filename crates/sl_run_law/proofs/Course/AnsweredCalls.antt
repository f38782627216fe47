-- Where an event's input answers a call, all calls with its number are of the running daemon, are not answered yet, and have sampled what a
-- read's answer gives.
use Rattle.sl_run_law.proofs.Course.OneMachineChanges.{answer_changes_none, read_completed}
use Rattle.sl_run_law.proofs.Course.CountedDaemons.{turned_each}
use Rattle.sl_run_law.proofs.Course.DaemonRuns.{input_there}
use Rattle.sl_run_law.proofs.Course.MachineTurns.{KeepsAsking, Turned, flies}
use Rattle.sl_words.proofs.Options.{then_value}
use Rattle.sl_run.specs.EventChanges.{change_call, first_change, sampled_more}
use Rattle.sl_run.specs.Inputs.{done_input, if_running, input_at, input_of, machine_of, ok_input, rest_sampled}
use Rattle.sl_run.specs.Refusals.{event_tests, may_happen, sectors_left}
use Rattle.sl_run.specs.Worlds.{Course, Daemon, Machine, World, flight_of, is_of_running, is_open, is_write_course, machine_at}
use Rattle.sl_run.specs.declared.event.Event.TheVariants.{AnswerCall, Crash, Do, DropWrite, ExitOf, GiveAsk, GiveCommand, GiveLvm, Land, Pass, Reset, Restart, Sample, SpawnedOf, StartDaemon, Tear, Test, WakeUp}
use Rattle.sl_run.specs.declared.event.Event.{Event}
use Rattle.sl_run_law.proofs.AnswersStay.{flight_waits}
use Rattle.sl_run_law.proofs.CourseLists.{changed_if}
use Rattle.sl_run_law.proofs.FatesStay.{every_map, numbered}
use Rattle.sl_run_law.proofs.Guards.{on_this, passes}
use Rattle.sl_run_law.specs.FatesStay.{AreDistinct, Every}
use Rattle.sl_trace.specs.declared.effects.Call.{Call}
use Rattle.sl_trace.specs.declared.effects.Op.TheVariants.{ReadSectors, WriteRecord}
use Rattle.sl_trace.specs.declared.effects.Op.{Op}
use Rattle.sl_trace.specs.declared.input.Answer.TheVariants.{Failed, Read, Written}
use Rattle.sl_trace.specs.declared.input.Answer.{Answer}
use Rattle.sl_trace.specs.declared.input.Input.TheVariants.{Answer as Told, Exit, Line, Number, Spawned, Wake}
use Rattle.sl_trace.specs.declared.input.Input.{Input}
use Rattle.sl_trace.specs.Traces.{is_write}
use Rattle.sl_words.proofs.CaseLaws.{false_is_true, none_some, one_value, some_value}
use Rattle.sl_words.proofs.WordLaws.{choose_some, some_is_true}
use Rattle.std.proofs.Common.{ap, refl, subst, sym, ◌∙◌}
use Rattle.std.proofs.lemmas.Bool.Decides.{Decides-eqb}
use Rattle.std.specs.Prelude.{Bool, List, None, Some, false, is_some, map, option_map, true, [], ℕ, ◌==◌, ◌∷◌, ◌≡◌}

-- The call waits for this answer to this daemon.
pub record Awaits (d : Daemon) (answer : Answer) (c : Course) : Type 0 where
  pub daemon : c.daemon ≡ d.number
  pub answered : c.answered ≡ None
  pub gives : (bytes : List ℕ) → answer ≡ Read bytes → bytes ≡ c.sampled

-- Each call that the input answers waits for it.
abbrev pub AllAwait : Daemon → Input → List Course → Type 0
AllAwait d i cs = elim i [ Told n answer ↦ Every (λ c. (c.call.number == n) ≡ true → Awaits d answer c) cs | _ ↦ Unit {0} ]

-- ---- the call in flight

-- It is the only one with its number.
pub only_flight : (a : Machine) (c : ℕ) (f : Course) → flight_of a c ≡ Some f → AreDistinct a.calls → Every (λ x. (x.call.number == c) ≡ true → x ≡ f) a.calls
only_flight a c f h d = numbered (is_open a) c (λ x. x ≡ f) a.calls f h d refl

-- A call of the running daemon.
of_running : (a : Machine) (d : Daemon) (f : Course) → a.daemon ≡ Some d → is_of_running a f ≡ true → f.daemon ≡ d.number
of_running a d f runs h =
    let x = some_is_true (λ (y : Daemon). y.number == f.daemon) a.daemon h in
    let same : x.0 ≡ d = one_value x.0 d a.daemon x.1 runs in
    sym ((Decides-eqb x.0.number f.daemon).0 x.2) ∙ ap (λ (y : Daemon). y.number) same

-- ---- an answer

answer_flight : (w : World) (m c : ℕ) (ok : Bool) (a : Machine) → may_happen w (AnswerCall m c ok) ≡ true → machine_at w m ≡ Some a
    → (f : Course) × (flight_of a c ≡ Some f) × (is_of_running a f ≡ true)
unfolding event_tests
answer_flight w m c ok a may h =
    let x = flies a c (is_of_running a) _ (on_this w m _ a h (passes w (AnswerCall m c ok) may)).1 in
    (x.course, x.flight, x.kind)

do_flight : (w : World) (m c : ℕ) (a : Machine) → may_happen w (Do m c) ≡ true → machine_at w m ≡ Some a
    → (f : Course) × (flight_of a c ≡ Some f) × (is_of_running a f ≡ true)
unfolding event_tests
do_flight w m c a may h =
    let x = flies a c (is_of_running a) _ (on_this w m _ a h (passes w (Do m c) may)).1 in
    (x.course, x.flight, x.kind)

read_bytes : (xs ys : List ℕ) → Read xs ≡ Read ys → xs ≡ ys
read_bytes xs ys e = cc

not_failed : (xs : List ℕ) → Failed ≡ Read xs → ⊥
not_failed xs e = absurd cc

not_written : (xs : List ℕ) → Written ≡ Read xs → ⊥
not_written xs e = absurd cc

-- All that are the one call wait, if it does.
all_await : (d : Daemon) (answer : Answer) (c : ℕ) (f : Course) (cs : List Course) → Awaits d answer f → Every (λ x. (x.call.number == c) ≡ true → x ≡ f) cs
    → Every (λ x. (x.call.number == c) ≡ true → Awaits d answer x) cs
all_await d answer c f cs h only =
    every_map (λ x. (x.call.number == c) ≡ true → x ≡ f) (λ x. (x.call.number == c) ≡ true → Awaits d answer x) cs (λ x same t. subst (Awaits d answer) (sym (same t)) h) only

ok_by : (d : Daemon) (f : Course) (cs : List Course) (o : Op) → f.daemon ≡ d.number → f.answered ≡ None
    → Every (λ x. (x.call.number == f.call.number) ≡ true → x ≡ f) cs
    → AllAwait d (elim o as (λ x. Input) [ ReadSectors n ↦ Told f.call.number (Read f.sampled) | WriteRecord r ↦ Told f.call.number Written ]) cs
ok_by d f cs (ReadSectors n) daemon answered only =
    all_await d (Read f.sampled) f.call.number f cs
    (record { daemon = daemon; answered = answered; gives = λ bytes is. sym (read_bytes f.sampled bytes is) }) only
ok_by d f cs (WriteRecord r) daemon answered only =
    all_await d Written f.call.number f cs (record { daemon = daemon; answered = answered; gives = λ bytes is. absurd (not_written bytes is) }) only

answer_by : (d : Daemon) (c : ℕ) (f : Course) (cs : List Course) (ok : Bool) → f.daemon ≡ d.number → f.answered ≡ None → f.call.number ≡ c
    → Every (λ x. (x.call.number == c) ≡ true → x ≡ f) cs → AllAwait d (elim ok as (λ x. Input) [ true ↦ ok_input f | false ↦ Told c Failed ]) cs
answer_by d c f cs true daemon answered number only =
    ok_by d f cs f.call.op daemon answered (subst (λ n. Every (λ x. (x.call.number == n) ≡ true → x ≡ f) cs) (sym number) only)
answer_by d c f cs false daemon answered number only =
    all_await d Failed c f cs (record { daemon = daemon; answered = answered; gives = λ bytes is. absurd (not_failed bytes is) }) only

-- The input of the call in flight.
flight_input : (a : Machine) (c : ℕ) (f : Course) (g : Course → Input) (i : Input) → flight_of a c ≡ Some f → option_map g (flight_of a c) ≡ Some i → g f ≡ i
flight_input a c f g i flight has = some_value (g f) i (ap (option_map g) (sym flight) ∙ has)

answer_awaits : (w : World) (m c : ℕ) (ok : Bool) (a b : Machine) (d : Daemon) (i : Input) → may_happen w (AnswerCall m c ok) ≡ true → machine_at w m ≡ Some a
    → machine_at (first_change (AnswerCall m c ok) w) m ≡ Some b → a.daemon ≡ Some d → AreDistinct a.calls → input_at w (AnswerCall m c ok) a ≡ Some i → AllAwait d i b.calls
answer_awaits w m c ok a b d i may at later runs distinct has =
    let x = answer_flight w m c ok a may at in
    let q = flight_waits a c x.0 x.1 in
    let same : a ≡ b = one_value a b (machine_at w m) at (ap (λ v. machine_at v m) (sym (answer_changes_none w m c ok)) ∙ later) in
    subst (λ (y : Machine). AllAwait d i y.calls) same
    (subst (λ j. AllAwait d j a.calls) (flight_input a c x.0 (λ f. elim ok as (λ y. Input) [ true ↦ ok_input f | false ↦ Told c Failed ]) i x.1 has)
    (answer_by d c x.0 a.calls ok (of_running a d x.0 runs x.2) q.1 q.0 (only_flight a c x.0 x.1 distinct)))

-- ---- a call that is done

-- The read that is completed has sampled what it gives.
sampled_by : (w : World) (d : Daemon) (f x : Course) (n : ℕ) (t : Bool) → f.daemon ≡ d.number → f.answered ≡ None → (x.call.number == n) ≡ t
    → ((x.call.number == n) ≡ true → x ≡ f) → ((changed_if t (sampled_more w (sectors_left f)) x).call.number == n) ≡ true
    → Awaits d (Read (rest_sampled w f (sectors_left f))) (changed_if t (sampled_more w (sectors_left f)) x)
sampled_by w d f x n false daemon answered is same t = absurd (false_is_true (sym is ∙ t))
sampled_by w d f x n true daemon answered is same t =
    let all : Awaits d (Read (rest_sampled w f (sectors_left f))) (sampled_more w (sectors_left f) f) =
    record { daemon = daemon; answered = answered; gives = λ bytes e. sym (read_bytes (rest_sampled w f (sectors_left f)) bytes e) } in
    subst (λ y. Awaits d (Read (rest_sampled w f (sectors_left f))) (sampled_more w (sectors_left f) y)) (sym (same is)) all

sampled_await : (w : World) (d : Daemon) (f : Course) (n : ℕ) (cs : List Course) → f.daemon ≡ d.number → f.answered ≡ None
    → Every (λ x. (x.call.number == n) ≡ true → x ≡ f) cs
    → Every (λ x. (x.call.number == n) ≡ true → Awaits d (Read (rest_sampled w f (sectors_left f))) x)
    (map (λ x. changed_if (x.call.number == n) (sampled_more w (sectors_left f)) x) cs)
sampled_await w d f n [] daemon answered only = tt
sampled_await w d f n (x ∷ cs) daemon answered only =
    (sampled_by w d f x n (x.call.number == n) daemon answered refl only.0, sampled_await w d f n cs daemon answered only.1)

-- Of this daemon, and not answered.
record IsWaiting (d : Daemon) (c : Course) : Type 0 where
  daemon : c.daemon ≡ d.number
  answered : c.answered ≡ None

waiting_stays : (d : Daemon) (n : ℕ) (f : Course → Course) → KeepsAsking f → (c : Course) → ((c.call.number == n) ≡ true → IsWaiting d c)
    → ((f c).call.number == n) ≡ true → IsWaiting d (f c)
waiting_stays d n f k c h t =
    let s = h (ap (λ (x : Call). x.number == n) (sym (k.call c)) ∙ t) in
    record { daemon = k.daemon c ∙ s.daemon; answered = k.answered c ∙ s.answered }

written_await : (w : World) (e : Event) (m : ℕ) (d : Daemon) (f : Course) (n : ℕ) (a b : Machine) → f.daemon ≡ d.number → f.answered ≡ None
    → Every (λ x. (x.call.number == n) ≡ true → x ≡ f) a.calls → Turned w e m a b → Every (λ x. (x.call.number == n) ≡ true → Awaits d Written x) b.calls
written_await w e m d f n a b daemon answered only turned =
    let one : IsWaiting d f = record { daemon = daemon; answered = answered } in
    every_map (λ x. (x.call.number == n) ≡ true → IsWaiting d x) (λ x. (x.call.number == n) ≡ true → Awaits d Written x) b.calls
    (λ x h t. record { daemon = (h t).daemon; answered = (h t).answered; gives = λ bytes is. absurd (not_written bytes is) })
    (turned_each w e m a b (λ x. (x.call.number == n) ≡ true → IsWaiting d x) (waiting_stays d n) turned
    (every_map (λ x. (x.call.number == n) ≡ true → x ≡ f) (λ x. (x.call.number == n) ≡ true → IsWaiting d x) a.calls (λ x same t. subst (IsWaiting d) (sym (same t)) one) only))

reads_by : (w : World) (m c : ℕ) (a b : Machine) (f : Course) (o : Op) (n : ℕ) → f.call.op ≡ o → o ≡ ReadSectors n → machine_at w m ≡ Some a → flight_of a c ≡ Some f
    → machine_at (first_change (Do m c) w) m ≡ Some b → change_call c (sampled_more w (sectors_left f)) a ≡ b
reads_by w m c a b f o n is reads at flight later =
    let it_reads : is_write_course f ≡ false = ap is_write (is ∙ reads) in
    one_value (change_call c (sampled_more w (sectors_left f)) a) b (machine_at (first_change (Do m c) w) m) (read_completed w m c a f at flight it_reads) later

done_by : (w : World) (m c : ℕ) (a b : Machine) (d : Daemon) (f : Course) (o : Op) → f.call.op ≡ o → f.call.number ≡ c → f.daemon ≡ d.number → f.answered ≡ None
    → machine_at w m ≡ Some a → flight_of a c ≡ Some f → machine_at (first_change (Do m c) w) m ≡ Some b → Turned w (Do m c) m a b
    → Every (λ x. (x.call.number == c) ≡ true → x ≡ f) a.calls
    → AllAwait d (elim o as (λ x. Input) [
      | ReadSectors n ↦ Told f.call.number (Read (rest_sampled w f (sectors_left f)))
      | WriteRecord r ↦ Told f.call.number Written
    ]) b.calls
done_by w m c a b d f (ReadSectors n) is number daemon answered at flight later turned only =
    let same : change_call c (sampled_more w (sectors_left f)) a ≡ b = reads_by w m c a b f (ReadSectors n) n is refl at flight later in
    subst (λ k. Every (λ x. (x.call.number == k) ≡ true → Awaits d (Read (rest_sampled w f (sectors_left f))) x) b.calls) (sym number)
    (subst (λ (y : Machine). Every (λ x. (x.call.number == c) ≡ true → Awaits d (Read (rest_sampled w f (sectors_left f))) x) y.calls) same
    (sampled_await w d f c a.calls daemon answered only))
done_by w m c a b d f (WriteRecord r) is number daemon answered at flight later turned only =
    subst (λ k. Every (λ x. (x.call.number == k) ≡ true → Awaits d Written x) b.calls) (sym number)
    (written_await w (Do m c) m d f c a b daemon answered only turned)

do_awaits : (w : World) (m c : ℕ) (a b : Machine) (d : Daemon) (i : Input) → may_happen w (Do m c) ≡ true → machine_at w m ≡ Some a
    → machine_at (first_change (Do m c) w) m ≡ Some b → Turned w (Do m c) m a b → a.daemon ≡ Some d → AreDistinct a.calls → input_at w (Do m c) a ≡ Some i
    → AllAwait d i b.calls
do_awaits w m c a b d i may at later turned runs distinct has =
    let x = do_flight w m c a may at in
    let q = flight_waits a c x.0 x.1 in
    subst (λ j. AllAwait d j b.calls) (flight_input a c x.0 (done_input w) i x.1 has)
    (done_by w m c a b d x.0 x.0.call.op refl q.0 (of_running a d x.0 runs x.2) q.1 at x.1 later turned (only_flight a c x.0 x.1 distinct))

-- ---- all events

if_awaits : (a : Machine) (d : Daemon) (j i : Input) (cs : List Course) → AllAwait d j cs → if_running a j ≡ Some i → AllAwait d i cs
if_awaits a d j i cs h has = subst (λ k. AllAwait d k cs) (choose_some (is_some a.daemon) j i has).1 h

awaits_at : (e : Event) (w : World) (a b : Machine) (d : Daemon) (i : Input) → may_happen w e ≡ true → machine_at w (machine_of e) ≡ Some a
    → machine_at (first_change e w) (machine_of e) ≡ Some b → Turned w e (machine_of e) a b → a.daemon ≡ Some d → AreDistinct a.calls → input_at w e a ≡ Some i
    → AllAwait d i b.calls
awaits_at (AnswerCall m c ok) w a b d i may at later turned runs distinct h = answer_awaits w m c ok a b d i may at later runs distinct h
awaits_at (Do m c) w a b d i may at later turned runs distinct h = do_awaits w m c a b d i may at later turned runs distinct h
awaits_at (WakeUp m) w a b d i may at later turned runs distinct h = if_awaits a d Wake i b.calls tt h
awaits_at (GiveCommand m text) w a b d i may at later turned runs distinct h = if_awaits a d (Line text) i b.calls tt h
awaits_at (GiveLvm m line) w a b d i may at later turned runs distinct h = if_awaits a d (Number line) i b.calls tt h
awaits_at (GiveAsk m) w a b d i may at later turned runs distinct h =
    let x = then_value (λ text. if_running a (Line text)) a.locks.due i h in if_awaits a d (Line x.0) i b.calls tt x.2
awaits_at (ExitOf m p) w a b d i may at later turned runs distinct h = if_awaits a d (Exit p) i b.calls tt h
awaits_at (SpawnedOf m p ok) w a b d i may at later turned runs distinct h = if_awaits a d (Spawned p ok) i b.calls tt h
awaits_at (Pass x g) w a b d i may at later turned runs distinct h = absurd (none_some i h)
awaits_at (Sample m c k) w a b d i may at later turned runs distinct h = absurd (none_some i h)
awaits_at (Land m c) w a b d i may at later turned runs distinct h = absurd (none_some i h)
awaits_at (Tear m c k bytes) w a b d i may at later turned runs distinct h = absurd (none_some i h)
awaits_at (DropWrite m c) w a b d i may at later turned runs distinct h = absurd (none_some i h)
awaits_at (Test m) w a b d i may at later turned runs distinct h = absurd (none_some i h)
awaits_at (StartDaemon m name) w a b d i may at later turned runs distinct h = absurd (none_some i h)
awaits_at (Crash m) w a b d i may at later turned runs distinct h = absurd (none_some i h)
awaits_at (Reset m) w a b d i may at later turned runs distinct h = absurd (none_some i h)
awaits_at (Restart m) w a b d i may at later turned runs distinct h = absurd (none_some i h)

pub awaits : (w : World) (e : Event) (m : ℕ) (a b : Machine) (d : Daemon) (i : Input) → may_happen w e ≡ true → machine_at w m ≡ Some a
    → machine_at (first_change e w) m ≡ Some b → m ≡ machine_of e → Turned w e m a b → a.daemon ≡ Some d → AreDistinct a.calls → input_of w e ≡ Some i
    → AllAwait d i b.calls
awaits w e m a b d i may at later same turned runs distinct has =
    awaits_at e w a b d i may (subst (λ k. machine_at w k ≡ Some a) same at) (subst (λ k. machine_at (first_change e w) k ≡ Some b) same later)
    (subst (λ k. Turned w e k a b) same turned) runs distinct (input_there w e m a i at same has)
