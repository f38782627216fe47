-- An answer once given stays.
use Rattle.sl_words.proofs.Options.{none_is}
use Rattle.sl_run.specs.EventChanges.{change_call, fated, first_change, happens, next_step, sampled_more, take_step, take_steps}
use Rattle.sl_run.specs.Inputs.{if_running, input_at, input_of, machine_of, ok_input, done_input, rest_sampled}
use Rattle.sl_run.specs.Refusals.{sectors_left}
use Rattle.sl_run.specs.Runs.{Happening, world_after}
use Rattle.sl_run.specs.Worlds.{Course, Dropped, Landed, Machine, Stamp, Torn, World, flight_of, is_open, is_of_running, machine_at, may_land, stamp_now}
use Rattle.sl_run.specs.declared.event.Event.TheVariants.{AnswerCall, Crash, Do, DropWrite, ExitOf, GiveAsk, GiveCommand, GiveLvm, Land, Pass, Reset, Restart, Sample, SpawnedOf, StartDaemon, Tear, Test, WakeUp}
use Rattle.sl_run.specs.declared.event.Event.{Event}
use Rattle.sl_run_law.proofs.CourseLists.{calls_still, changed_if, every_of, follow_still}
use Rattle.sl_run_law.proofs.FatesStay.{every_map, found, numbered}
use Rattle.sl_run_law.proofs.CoursesGoOn.{IsTold, ended_by, told, tracks_changed, tracks_crash, tracks_effects, tracks_further, tracks_step, tracks_still}
use Rattle.sl_run_law.proofs.MachineWalk.{Asked, each_first, each_further, each_step, each_still, each_then}
use Rattle.sl_run_law.specs.AnswersStay.{KeepsAnswer}
use Rattle.sl_run_law.specs.CoursesGoOn.{Tracks}
use Rattle.sl_run_law.specs.FatesStay.{AreDistinct, DistinctAlong, EachDistinct, Every}
use Rattle.sl_run_law.specs.Machines.{EachMachine}
use Rattle.sl_trace.specs.declared.effects.Call.{Call}
use Rattle.sl_trace.specs.declared.effects.Effects.{Effects}
use Rattle.sl_trace.specs.declared.effects.Op.TheVariants.{ReadSectors, WriteRecord}
use Rattle.sl_trace.specs.declared.effects.Op.{Op}
use Rattle.sl_trace.specs.declared.input.Answer.TheVariants.{Failed, Read, Written}
use Rattle.sl_trace.specs.declared.input.Input.TheVariants.{Answer as Told, Exit, Line, Number, Spawned, Wake}
use Rattle.sl_trace.specs.declared.input.Input.{Input}
use Rattle.sl_words.proofs.CaseLaws.{none_some, some_value}
use Rattle.sl_words.proofs.WordLaws.{and_true, choose_some}
use Rattle.sl_words.specs.Words.{choose}
use Rattle.std.proofs.Common.{ap, refl, subst, sym, ◌∙◌}
use Rattle.std.proofs.lemmas.Bool.Decides.{Decides-eqb}
use Rattle.std.specs.Prelude.{Bool, List, None, Option, Some, false, is_none, is_some, map, option_and_then, option_map, true, [], ℕ, ◌&&◌, ◌++◌, ◌==◌, ◌||◌, ◌∷◌, ◌≡◌}

answer_still : (c : Course) → KeepsAnswer c c
answer_still c = record { answered = λ s h. h; done = λ s h. refl }

answer_further : (c d e : Course) → KeepsAnswer c d → KeepsAnswer d e → KeepsAnswer c e
answer_further c d e g h = record { answered = λ s x. h.answered s (g.answered s x); done = λ s x. h.done s (g.answered s x) ∙ g.done s x }

-- No call with this number is answered.
abbrev NoneAnswered : ℕ → List Course → Type 0
NoneAnswered n cs = Every (λ c. (c.call.number == n) ≡ true → c.answered ≡ None) cs

-- The call in flight isn't answered, and has its number.
pub flight_waits : (a : Machine) (c : ℕ) (f : Course) → flight_of a c ≡ Some f → (f.call.number ≡ c) × (f.answered ≡ None)
flight_waits a c f h =
    let p : Course → Bool = λ x. x.call.number == c && is_open a x in
    let y = found p (λ x. Unit {0}) a.calls f h (every_of (λ x. Unit {0}) a.calls (λ x. tt)) in
    let q = and_true (f.call.number == c) (is_open a f) y.test in
    ((Decides-eqb f.call.number c).0 q.0, none_is f.answered (and_true (is_none f.answered) (is_of_running a f || may_land f) q.1).0)

none_answered : (a : Machine) (c : ℕ) (f : Course) → flight_of a c ≡ Some f → AreDistinct a.calls → NoneAnswered c a.calls
none_answered a c f h d = numbered (is_open a) c (λ x. x.answered ≡ None) a.calls f h d (flight_waits a c f h).1

told_op : (o : Op) (x n : ℕ) (bytes : List ℕ) → IsTold (elim o as (λ y. Input) [ ReadSectors k ↦ Told x (Read bytes) | WriteRecord r ↦ Told x Written ]) n → x ≡ n
told_op (ReadSectors k) x n bytes h = h
told_op (WriteRecord r) x n bytes h = h

told_answer : (ok : Bool) (f : Course) (c n : ℕ) → f.call.number ≡ c → IsTold (elim ok as (λ y. Input) [ true ↦ ok_input f | false ↦ Told c Failed ]) n → c ≡ n
told_answer true f c n is h = sym is ∙ told_op f.call.op f.call.number n f.sampled h
told_answer false f c n is h = h

by_flight : (a : Machine) (c n : ℕ) (g : Course → Input) (i : Input) (o : Option Course) → flight_of a c ≡ o → option_map g o ≡ Some i → IsTold i n
    → ((f : Course) → flight_of a c ≡ Some f → IsTold (g f) n → c ≡ n) → AreDistinct a.calls → NoneAnswered n a.calls
by_flight a c n g i None is h t same d = absurd (none_some i h)
by_flight a c n g i (Some f) is h t same d =
    subst (λ j. NoneAnswered j a.calls) (same f is (subst (λ x. IsTold x n) (sym (some_value (g f) i h)) t)) (none_answered a c f is d)

not_told : (b : Bool) (j i : Input) (n : ℕ) → choose b j ≡ Some i → IsTold i n → IsTold j n
not_told b j i n h t = subst (λ x. IsTold x n) (sym (choose_some b j i h).1) t

-- An ask is a line, so it answers no call.
asks_untold : (a : Machine) (due : Option (List ℕ)) (i : Input) (n : ℕ) → option_and_then (λ text. if_running a (Line text)) due ≡ Some i → IsTold i n → ⊥
asks_untold a None i n h t = none_some i h
asks_untold a (Some text) i n h t = not_told (is_some a.daemon) (Line text) i n h t

ready_at : (e : Event) (w : World) (a : Machine) (i : Input) (n : ℕ) → input_at w e a ≡ Some i → IsTold i n → AreDistinct a.calls → NoneAnswered n a.calls
ready_at (AnswerCall m c ok) w a i n h t d =
    by_flight a c n (λ f. elim ok as (λ y. Input) [ true ↦ ok_input f | false ↦ Told c Failed ]) i (flight_of a c) refl h t
    (λ f is told. told_answer ok f c n (flight_waits a c f is).0 told) d
ready_at (Do m c) w a i n h t d =
    by_flight a c n (done_input w) i (flight_of a c) refl h t
    (λ f is told. sym (flight_waits a c f is).0 ∙ told_op f.call.op f.call.number n (rest_sampled w f (sectors_left f)) told) d
ready_at (WakeUp m) w a i n h t d = absurd (not_told (is_some a.daemon) Wake i n h t)
ready_at (GiveAsk m) w a i n h t d = absurd (asks_untold a a.locks.due i n h t)
ready_at (GiveCommand m text) w a i n h t d = absurd (not_told (is_some a.daemon) (Line text) i n h t)
ready_at (GiveLvm m text) w a i n h t d = absurd (not_told (is_some a.daemon) (Number text) i n h t)
ready_at (ExitOf m p) w a i n h t d = absurd (not_told (is_some a.daemon) (Exit p) i n h t)
ready_at (SpawnedOf m p ok) w a i n h t d = absurd (not_told (is_some a.daemon) (Spawned p ok) i n h t)
ready_at (Pass x g) w a i n h t d = absurd (none_some i h)
ready_at (Sample m c k) w a i n h t d = absurd (none_some i h)
ready_at (Land m c) w a i n h t d = absurd (none_some i h)
ready_at (Tear m c k bytes) w a i n h t d = absurd (none_some i h)
ready_at (DropWrite m c) w a i n h t d = absurd (none_some i h)
ready_at (Test m) w a i n h t d = absurd (none_some i h)
ready_at (StartDaemon m name) w a i n h t d = absurd (none_some i h)
ready_at (Crash m) w a i n h t d = absurd (none_some i h)
ready_at (Reset m) w a i n h t d = absurd (none_some i h)
ready_at (Restart m) w a i n h t d = absurd (none_some i h)

-- Where the event's input answers a call, no call with its number is answered.
abbrev Ready : World → Event → ℕ → List Course → Type 0
Ready w e m cs = (i : Input) → input_of w e ≡ Some i → m ≡ machine_of e → (n : ℕ) → IsTold i n → NoneAnswered n cs

ready : (w : World) (e : Event) (m : ℕ) (a : Machine) → machine_at w m ≡ Some a → AreDistinct a.calls → Ready w e m a.calls
ready w e m a h d i is same n t =
    ready_at e w a i n (ap (λ o. option_and_then (input_at w e) o) (sym (subst (λ k. machine_at w k ≡ Some a) same h)) ∙ is) t d

one_kept : (b : Bool) (f : Course → Course) (c : Course) (n : ℕ) → ((x : Course) → (f x).call ≡ x.call) → ((x : Course) → (f x).answered ≡ x.answered)
    → ((c.call.number == n) ≡ true → c.answered ≡ None) → ((changed_if b f c).call.number == n) ≡ true → (changed_if b f c).answered ≡ None
one_kept true f c n call answered h t = answered c ∙ h (ap (λ (x : Call). x.number == n) (sym (call c)) ∙ t)
one_kept false f c n call answered h t = h t

all_kept : (p : Course → Bool) (f : Course → Course) (n : ℕ) (cs : List Course) → ((x : Course) → (f x).call ≡ x.call) → ((x : Course) → (f x).answered ≡ x.answered)
    → NoneAnswered n cs → NoneAnswered n (map (λ c. changed_if (p c) f c) cs)
all_kept p f n [] call answered h = tt
all_kept p f n (c ∷ cs) call answered h = (one_kept (p c) f c n call answered h.0, all_kept p f n cs call answered h.1)

-- ---- before the daemon's step

abbrev Before : World → Event → ℕ → Machine → Machine → Type 0
Before w e m a b = machine_at w m ≡ Some a → AreDistinct a.calls → Tracks KeepsAnswer a b × Ready w e m b.calls

changes : (w : World) (e : Event) (m c : ℕ) (f : Course → Course) (a : Machine) → ((x : Course) → (f x).call ≡ x.call) → ((x : Course) → (f x).answered ≡ x.answered)
    → ((x : Course) → (f x).done ≡ x.done) → Before w e m a (change_call c f a)
changes w e m c f a call answered done h d = (
  tracks_changed KeepsAnswer c f a answer_still (every_of (λ x. (x.call.number == c) ≡ true → KeepsAnswer x (f x)) a.calls
      (λ x t. record { answered = λ s k. answered x ∙ k; done = λ s k. done x })),
  λ i is same n t. all_kept (λ x. x.call.number == c) f n a.calls call answered (ready w e m a h d i is same n t),
)

no_calls : (w : World) (e : Event) (m : ℕ) (a b : Machine) → b.calls ≡ a.calls → b.resets ≡ a.resets → b.ended ≡ a.ended → Before w e m a b
no_calls w e m a b calls resets ended h d = (
  record {
    calls = record { newer = []; older = a.calls; same = calls; follow = follow_still KeepsAnswer a.calls answer_still };
    resets = record { newer = []; same = resets };
    ended = record { newer = []; same = ended };
  },
  subst (λ cs. Ready w e m cs) (sym calls) (ready w e m a h d),
)

asked : (w : World) (e : Event) → Asked (Before w e) w e
asked w e =
    record {
      pass = λ d growths is m a h. no_calls w e m a _ refl refl refl;
      sample = λ m c k is a h. changes w e m c (sampled_more w k) a (λ x. refl) (λ x. refl) (λ x. refl);
      land = λ m c is a f h g t. changes w e m c (fated Landed) a (λ x. refl) (λ x. refl) (λ x. refl);
      tear = λ m c k bytes is a f h g t. changes w e m c (fated Torn) a (λ x. refl) (λ x. refl) (λ x. refl);
      done_read = λ m c is a f h g t. changes w e m c (sampled_more w (sectors_left f)) a (λ x. refl) (λ x. refl) (λ x. refl);
      done_write = λ m c is a f h g t. changes w e m c (fated Landed) a (λ x. refl) (λ x. refl) (λ x. refl);
      drop_write = λ m c is a h. changes w e m c (fated Dropped) a (λ x. refl) (λ x. refl) (λ x. refl);
      tested = λ m is a h. no_calls w e m a _ refl refl refl;
      start = λ m name is a h. no_calls w e m a _ refl refl refl;
      crash = λ m is a h k d. (tracks_crash KeepsAnswer a answer_still, ready w e m a k d);
      reset = λ m is a h k d. (
        record {
          calls = calls_still KeepsAnswer a.calls answer_still;
          resets = record { newer = stamp_now w a ∷ []; same = refl };
          ended = ended_by a.daemon a.ended;
        },
        ready w e m a k d,
      );
      restart = λ m is a h. no_calls w e m a _ refl refl refl;
    }

-- ---- the daemon's steps

still : (m : ℕ) (a : Machine) → Tracks KeepsAnswer a a
still m a = tracks_still KeepsAnswer a answer_still

further : (m : ℕ) (a b c : Machine) → Tracks KeepsAnswer a b → Tracks KeepsAnswer b c → Tracks KeepsAnswer a c
further m a b c g h = tracks_further KeepsAnswer a b c answer_further g h

told_new : (now : Stamp) (ok : Bool) (c : Course) → c.answered ≡ None → KeepsAnswer c (told now ok c)
told_new now ok c h = record { answered = λ s k. absurd (none_some s (sym h ∙ k)); done = λ s k. absurd (none_some s (sym h ∙ k)) }

later_steps : (w : World) (e : Event) (b : Effects) (before fxs : List Effects) (v : World) → EachMachine (λ m. Tracks KeepsAnswer) v (take_steps w e (b ∷ before) fxs v)
later_steps w e b before [] v = each_still (λ m. Tracks KeepsAnswer) v still
later_steps w e b before (fx ∷ fxs) v =
    let u : World = take_step (machine_of e) None fx v in
    each_further (λ m. Tracks KeepsAnswer) v u (take_steps w e (b ∷ before) (fx ∷ fxs) v) further
    (each_step (λ m. Tracks KeepsAnswer) (machine_of e) None fx v still (λ none a h. tracks_effects KeepsAnswer (stamp_now v a) fx a answer_still)
    (λ i is a h. absurd (none_some i is)))
    (later_steps w e b (before ++ fx ∷ []) fxs u)

abbrev Stepping : World → Event → ℕ → Machine → Machine → Type 0
Stepping w e m b c = Ready w e m b.calls → Tracks KeepsAnswer b c

all_steps : (w : World) (e : Event) (fxs : List Effects) (v : World) → EachMachine (Stepping w e) v (take_steps w e [] fxs v)
all_steps w e [] v = each_still (Stepping w e) v (λ m a r. still m a)
all_steps w e (fx ∷ fxs) v =
    let u : World = take_step (machine_of e) (input_of w e) fx v in
    each_then (Stepping w e) (λ m. Tracks KeepsAnswer) (Stepping w e) v u (take_steps w e [] (fx ∷ fxs) v) (λ m a b c g h r. further m a b c (g r) h)
    (each_step (Stepping w e) (machine_of e) (input_of w e) fx v (λ m a r. still m a)
    (λ none a h r. tracks_effects KeepsAnswer (stamp_now v a) fx a answer_still)
    (λ i is a h r. tracks_step KeepsAnswer (stamp_now v a) i fx a answer_still answer_further
    (λ n ok t. every_map (λ c. (c.call.number == n) ≡ true → c.answered ≡ None) (λ c. (c.call.number == n) ≡ true → KeepsAnswer c (told (stamp_now v a) ok c)) a.calls
    (λ c g q. told_new (stamp_now v a) ok c (g q)) (r i is refl n t))))
    (later_steps w e fx [] fxs u)

abbrev Whole : World → ℕ → Machine → Machine → Type 0
Whole w m a c = machine_at w m ≡ Some a → AreDistinct a.calls → Tracks KeepsAnswer a c

whole : (w : World) (e : Event) (fxs : List Effects) → EachMachine (Whole w) w (happens w e fxs)
whole w e fxs =
    let u : World = first_change e w in
    each_then (Before w e) (Stepping w e) (Whole w) w (next_step u) (happens w e fxs)
    (λ m a b c g h at d. let p = g at d in further m a b c p.0 (h p.1))
    (each_first (Before w e) e w (λ none m a h d. (still m a, ready w e m a h d)) (asked w e))
    (all_steps w e fxs (next_step u))

pub event_answers : (w : World) (e : Event) (fxs : List Effects) → EachDistinct w → EachMachine (λ m. Tracks KeepsAnswer) w (happens w e fxs)
event_answers w e fxs each m a h = let p = whole w e fxs m a h in (p.0, p.1, p.2 h (each m a h))

pub run_answers : (w : World) (xs : List Happening) → DistinctAlong w xs → EachMachine (λ m. Tracks KeepsAnswer) w (world_after w xs)
run_answers w [] along = each_still (λ m. Tracks KeepsAnswer) w still
run_answers w (x ∷ xs) along =
    each_further (λ m. Tracks KeepsAnswer) w (happens w x.0 x.1) (world_after w (x ∷ xs)) further (event_answers w x.0 x.1 along.0)
    (run_answers (happens w x.0 x.1) xs along.1)
