-- A read that is answered ok has sampled all its sectors by then.
use Rattle.sl_run_law.proofs.Course.OneMachineChanges.{changed_here}
use Rattle.sl_run_law.proofs.Course.Daemons.{every_each}
use Rattle.sl_run_law.proofs.Landing.OneArrival.{flight_there}
use Rattle.sl_words.proofs.Options.{then_value}
use Rattle.sl_run.specs.EventChanges.{add_landing, change_call, complete, fated, first_change, land_whole, sample_at, sampled_more, write_bytes}
use Rattle.sl_run.specs.Inputs.{done_input, if_running, input_at, input_of, machine_of, ok_input, rest_sampled}
use Rattle.sl_run.specs.Refusals.{is_read_course, may_happen, sectors_left, sectors_of}
use Rattle.sl_run.specs.Worlds.{Course, Landed, Machine, Sampling, World, change_machine, flight_of, is_in_flight, is_open, is_write_course, machine_at}
use Rattle.sl_run.specs.declared.event.Event.TheVariants.{AnswerCall, Crash, Do, DropWrite, ExitOf, GiveAsk, GiveCommand, GiveLvm, Land, Pass, Reset, Restart, Sample, SpawnedOf, StartDaemon, Tear, Test, WakeUp}
use Rattle.sl_run.specs.declared.event.Event.{Event}
use Rattle.sl_run_law.proofs.AnswersStay.{flight_waits}
use Rattle.sl_run_law.proofs.FatesStay.{found}
use Rattle.sl_run_law.specs.FatesStay.{AreDistinct, Every}
use Rattle.sl_run_law.proofs.Sample.OnlyCall.{IsOne, all_one, answers_so, every_changed}
use Rattle.sl_run_law.proofs.Sample.SamplesBeforeStep.{Ground, changed_world, complete_is, completed}
use Rattle.sl_run_law.proofs.Sample.SamplesSee.{Sees}
use Rattle.sl_trace.specs.Traces.{is_ok_answer}
use Rattle.sl_trace.specs.declared.effects.Op.TheVariants.{ReadSectors, WriteRecord}
use Rattle.sl_trace.specs.declared.effects.Op.{Op}
use Rattle.sl_trace.specs.declared.input.Answer.TheVariants.{Failed, Read, Written}
use Rattle.sl_trace.specs.declared.input.Input.TheVariants.{Answer as Told, Exit, Line, Number, Spawned, Wake}
use Rattle.sl_trace.specs.declared.input.Input.{Input}
use Rattle.sl_words.proofs.CaseLaws.{false_is_true, none_some, not_both, one_value, some_value}
use Rattle.sl_words.proofs.WordLaws.{choose_some}
use Rattle.sl_words.specs.Words.{choose}
use Rattle.std.proofs.Common.{ap, arith, refl, subst, sym, ◌∙◌}
use Rattle.std.proofs.lemmas.List.{length-append}
use Rattle.std.proofs.lemmas.List.FromFn.{length-map-range_with_len}
use Rattle.std.specs.List.{range_with_len}
use Rattle.std.specs.Option.{option_map_or}
use Rattle.std.specs.Prelude.{Bool, List, None, Option, Some, false, is_some, length, map, not, option_and_then, option_map, true, ℕ, ◌&&◌, ◌+◌, ◌-◌, ◌==◌, ◌≡◌, ◌≤◌}

-- ---- what is ready

-- The read has sampled all.
abbrev pub HasAll : Course → Type 0
HasAll c = is_read_course c ≡ true → length c.samples ≡ sectors_of c.call.op

-- .. if it has this number.
abbrev pub HasAllIf : ℕ → Course → Type 0
HasAllIf n c = (c.call.number == n) ≡ true → HasAll c

-- The calls that the input answers ok have sampled all.
abbrev pub IsReady : Input → List Course → Type 0
IsReady (Told n answer) cs = is_ok_answer answer ≡ true → Every (HasAllIf n) cs
IsReady (Line text) cs = Unit {0}
IsReady (Number text) cs = Unit {0}
IsReady Wake cs = Unit {0}
IsReady (Exit p) cs = Unit {0}
IsReady (Spawned p ok) cs = Unit {0}

ready_op : (o : Op) (n : ℕ) (bytes : List ℕ) (cs : List Course) → Every (HasAllIf n) cs
    → IsReady (elim o as (λ y. Input) [ ReadSectors k ↦ Told n (Read bytes) | WriteRecord r ↦ Told n Written ]) cs
ready_op (ReadSectors k) n bytes cs h = λ ok. h
ready_op (WriteRecord r) n bytes cs h = λ ok. h

-- ---- an answer of a call as it stands

flight_sees : (w : World) (a : Machine) (c : ℕ) (f : Course) → flight_of a c ≡ Some f → Every (Sees w) a.calls → Sees w f
flight_sees w a c f flight sees = (found (λ x. x.call.number == c && is_open a x) (Sees w) a.calls f flight sees).holds

one_all : (c : ℕ) (f x : Course) → HasAll f → IsOne c f x → HasAllIf c x
one_all c f x h one t = subst HasAll (sym (one t)) h

stands_all : (a : Machine) (c : ℕ) (f : Course) → flight_of a c ≡ Some f → AreDistinct a.calls → HasAll f → Every (HasAllIf c) a.calls
stands_all a c f flight distinct h = every_each (IsOne c f) (HasAllIf c) a.calls (λ x one. one_all c f x h one) (all_one a c f flight distinct)

answer_ready : (w : World) (m c : ℕ) (ok : Bool) (a : Machine) (f : Course) → Ground w → Every (Sees w) a.calls → may_happen w (AnswerCall m c ok) ≡ true → machine_at w m ≡ Some a
    → flight_of a c ≡ Some f → IsReady (elim ok as (λ y. Input) [ true ↦ ok_input f | false ↦ Told c Failed ]) a.calls
answer_ready w m c false a f g sees may at flight = λ ok. absurd (false_is_true ok)
answer_ready w m c true a f g sees may at flight =
    let few : length f.samples ≤ sectors_of f.call.op = (flight_sees w a c f flight sees).few in
    ready_op f.call.op f.call.number f.sampled a.calls
    (subst (λ n. Every (HasAllIf n) a.calls) (sym (flight_waits a c f flight).0)
    (stands_all a c f flight (g.distinct m a at) (λ reads. answers_so w m c a f may at flight few reads)))

-- ---- a call that is completed

-- The calls of a machine that was changed.
changed_calls : (w : World) (m : ℕ) (f : Machine → Machine) (P : List Course → Type 0) (a b : Machine) → machine_at w m ≡ Some a → machine_at (change_machine m f w) m ≡ Some b → P (f a).calls
    → P b.calls
changed_calls w m f P a b at is h = subst (λ (x : Machine). P x.calls) (one_value (f a) b (machine_at (change_machine m f w) m) (changed_here w m f a at) is) h

full : (a n k : ℕ) → a ≤ n → k ≡ n - a → a + k ≡ n
full a n k h e = omega (arith, h, e)

-- A read with the rest of its sectors has all.
rest_all : (w : World) (f : Course) → length f.samples ≤ sectors_of f.call.op → length (sampled_more w (sectors_left f) f).samples ≡ sectors_of f.call.op
rest_all w f few =
    let more : List Sampling = map (sample_at w f.call) (range_with_len (length f.samples) (sectors_left f)) in
    length-append f.samples more
    ∙ full (length f.samples) (sectors_of f.call.op) (length more) few (length-map-range_with_len (sample_at w f.call) (length f.samples) (sectors_left f))

sampled_all : (w : World) (a : Machine) (c : ℕ) (f : Course) → flight_of a c ≡ Some f → AreDistinct a.calls → length f.samples ≤ sectors_of f.call.op
    → Every (HasAllIf c) (change_call c (sampled_more w (sectors_left f)) a).calls
sampled_all w a c f flight distinct few =
    every_changed (IsOne c f) (HasAllIf c) (λ x. x.call.number == c) (sampled_more w (sectors_left f)) a.calls
    (λ x t one t' reads. subst (λ (y : Course). length (sampled_more w (sectors_left f) y).samples ≡ sectors_of y.call.op) (sym (one t)) (rest_all w f few))
    (λ x t one t'. absurd (not_both (x.call.number == c) t' t)) (all_one a c f flight distinct)

-- No write reads.
no_read : (f : Course) → is_write_course f ≡ true → HasAll f
no_read f h reads = absurd (false_is_true (sym (ap not h) ∙ reads))

written_all : (a : Machine) (c : ℕ) (f : Course) → flight_of a c ≡ Some f → AreDistinct a.calls → is_write_course f ≡ true → Every (HasAllIf c) (change_call c (fated Landed) a).calls
written_all a c f flight distinct write =
    every_changed (HasAllIf c) (HasAllIf c) (λ x. x.call.number == c) (fated Landed) a.calls (λ x t h t' reads. h t reads) (λ x t h. h)
    (stands_all a c f flight distinct (no_read f write))

landed_all : (w : World) (m c : ℕ) (a b : Machine) (f : Course) → machine_at w m ≡ Some a → flight_of a c ≡ Some f → AreDistinct a.calls → is_write_course f ≡ true
    → machine_at (land_whole m c w) m ≡ Some b → Every (HasAllIf c) b.calls
landed_all w m c a b f at flight distinct write is =
    let v : World = add_landing m f.call true (write_bytes w f.call) w in
    let whole : land_whole m c w ≡ change_machine m (change_call c (fated Landed)) v =
    ap (λ o. option_map_or (λ (x : Course). change_machine m (change_call c (fated Landed)) (add_landing m x.call true (write_bytes w x.call) w)) o w) (flight_there w m c a f at flight) in
    changed_calls v m (change_call c (fated Landed)) (Every (HasAllIf c)) a b at (ap (λ u. machine_at u m) (sym whole) ∙ is) (written_all a c f flight distinct write)

may_land_all : (w : World) (m c : ℕ) (a b : Machine) (f : Course) (t : Bool) → machine_at w m ≡ Some a → flight_of a c ≡ Some f → AreDistinct a.calls → is_write_course f ≡ true
    → machine_at (elim t as (λ x. World) [ true ↦ land_whole m c w | false ↦ w ]) m ≡ Some b → Every (HasAllIf c) b.calls
may_land_all w m c a b f true at flight distinct write is = landed_all w m c a b f at flight distinct write is
may_land_all w m c a b f false at flight distinct write is =
    subst (λ (x : Machine). Every (HasAllIf c) x.calls) (one_value a b (machine_at w m) at is) (stands_all a c f flight distinct (no_read f write))

completed_all : (w : World) (m c : ℕ) (a b : Machine) (f : Course) (t : Bool) → is_write_course f ≡ t → machine_at w m ≡ Some a → flight_of a c ≡ Some f → AreDistinct a.calls
    → length f.samples ≤ sectors_of f.call.op → machine_at (completed w m c f t) m ≡ Some b → Every (HasAllIf c) b.calls
completed_all w m c a b f false write at flight distinct few is =
    changed_calls w m (change_call c (sampled_more w (sectors_left f))) (Every (HasAllIf c)) a b at is (sampled_all w a c f flight distinct few)
completed_all w m c a b f true write at flight distinct few is = may_land_all w m c a b f (is_in_flight f.fate) at flight distinct write is

done_ready : (w : World) (m c : ℕ) (a b : Machine) (f : Course) → Ground w → Every (Sees w) a.calls → machine_at w m ≡ Some a → flight_of a c ≡ Some f
    → machine_at (complete m c w) m ≡ Some b → IsReady (done_input w f) b.calls
done_ready w m c a b f g sees at flight is =
    let few : length f.samples ≤ sectors_of f.call.op = (flight_sees w a c f flight sees).few in
    ready_op f.call.op f.call.number (rest_sampled w f (sectors_left f)) b.calls
    (subst (λ n. Every (HasAllIf n) b.calls) (sym (flight_waits a c f flight).0)
    (completed_all w m c a b f (is_write_course f) refl at flight (g.distinct m a at) few
    (ap (λ v. machine_at v m) (sym (complete_is w m c f (flight_there w m c a f at flight))) ∙ is)))

-- ---- all events

by_flight : (a : Machine) (c : ℕ) (h : Course → Input) (i : Input) (cs : List Course) (o : Option Course) → flight_of a c ≡ o → option_map h o ≡ Some i
    → ((f : Course) → flight_of a c ≡ Some f → IsReady (h f) cs) → IsReady i cs
by_flight a c h i cs None is k ready = absurd (none_some i k)
by_flight a c h i cs (Some f) is k ready = subst (λ x. IsReady x cs) (some_value (h f) i k) (ready f is)

no_answer : (b : Bool) (j i : Input) (cs : List Course) → choose b j ≡ Some i → IsReady j cs → IsReady i cs
no_answer b j i cs h k = subst (λ x. IsReady x cs) (choose_some b j i h).1 k

-- The machine of the event, before it and before the daemon's step.
ready_at : (w : World) (e : Event) (a b : Machine) (i : Input) → Ground w → Every (Sees w) a.calls → may_happen w e ≡ true → machine_at w (machine_of e) ≡ Some a
    → machine_at (changed_world e w) (machine_of e) ≡ Some b → input_at w e a ≡ Some i → IsReady i b.calls
unfolding first_change
ready_at w (AnswerCall m c ok) a b i g sees may at is h =
    by_flight a c (λ f. elim ok as (λ y. Input) [ true ↦ ok_input f | false ↦ Told c Failed ]) i b.calls (flight_of a c) refl h
    (λ f flight. subst (λ (x : Machine). IsReady (elim ok as (λ y. Input) [ true ↦ ok_input f | false ↦ Told c Failed ]) x.calls) (one_value a b (machine_at w m) at is)
    (answer_ready w m c ok a f g sees may at flight))
ready_at w (Do m c) a b i g sees may at is h =
    by_flight a c (done_input w) i b.calls (flight_of a c) refl h (λ f flight. done_ready w m c a b f g sees at flight is)
ready_at w (WakeUp m) a b i g sees may at is h = no_answer (is_some a.daemon) Wake i b.calls h tt
ready_at w (GiveCommand m text) a b i g sees may at is h = no_answer (is_some a.daemon) (Line text) i b.calls h tt
ready_at w (GiveLvm m line) a b i g sees may at is h = no_answer (is_some a.daemon) (Number line) i b.calls h tt
ready_at w (GiveAsk m) a b i g sees may at is h =
    let x = then_value (λ text. if_running a (Line text)) a.locks.due i h in no_answer (is_some a.daemon) (Line x.0) i b.calls x.2 tt
ready_at w (ExitOf m p) a b i g sees may at is h = no_answer (is_some a.daemon) (Exit p) i b.calls h tt
ready_at w (SpawnedOf m p ok) a b i g sees may at is h = no_answer (is_some a.daemon) (Spawned p ok) i b.calls h tt
ready_at w (Pass x growths) a b i g sees may at is h = absurd (none_some i h)
ready_at w (Sample m c k) a b i g sees may at is h = absurd (none_some i h)
ready_at w (Land m c) a b i g sees may at is h = absurd (none_some i h)
ready_at w (Tear m c k bytes) a b i g sees may at is h = absurd (none_some i h)
ready_at w (DropWrite m c) a b i g sees may at is h = absurd (none_some i h)
ready_at w (Test m) a b i g sees may at is h = absurd (none_some i h)
ready_at w (StartDaemon m name) a b i g sees may at is h = absurd (none_some i h)
ready_at w (Crash m) a b i g sees may at is h = absurd (none_some i h)
ready_at w (Reset m) a b i g sees may at is h = absurd (none_some i h)
ready_at w (Restart m) a b i g sees may at is h = absurd (none_some i h)

input_by : (w : World) (e : Event) (o : Option Machine) (i : Input) → machine_at w (machine_of e) ≡ o → option_and_then (input_at w e) o ≡ Some i
    → (a : Machine) × (machine_at w (machine_of e) ≡ Some a) × (input_at w e a ≡ Some i)
input_by w e None i is h = absurd (none_some i h)
input_by w e (Some a) i is h = (a, is, h)

-- What the event's input answers ok has sampled all.
pub ready : (w : World) (e : Event) (b : Machine) (i : Input) → Ground w → ((m : ℕ) (a : Machine) → machine_at w m ≡ Some a → Every (Sees w) a.calls) → may_happen w e ≡ true
    → machine_at (changed_world e w) (machine_of e) ≡ Some b → input_of w e ≡ Some i → IsReady i b.calls
ready w e b i g sees may is h =
    let p = input_by w e (machine_at w (machine_of e)) i refl h in
    ready_at w e p.0 b i g (sees (machine_of e) p.0 p.1) may p.1 is p.2
