-- A grant lasts: the reply is given once, and a job that has its reply makes no other call.
use Rattle.sl_due.specs.Due.{IsHostTrace}
use Rattle.sl_due_law.proofs.Causes.CauseFactsHold.{entry_stays}
use Rattle.sl_due_facts.proofs.Jobs.JobsAreNumbered.{command_stays}
use Rattle.sl_due_law.proofs.LawfulTraces.AcquiresKeep.{acquires_keep_to_theirs}
use Rattle.sl_due_facts.specs.Jobs.Acquires.{AcquireFacts}
use Rattle.sl_run.specs.Lawful.{IsSetting}
use Rattle.sl_trace.specs.Jobs.{command_numbered}
use Rattle.sl_headline.proofs.Quiet.Events.CallsRun.{new_calls_run}
use Rattle.sl_headline.proofs.Quiet.Events.CourseGoesOn.{made_well}
use Rattle.sl_headline.proofs.Quiet.Events.OtherEntries.{job_calls_are, new_inside}
use Rattle.sl_headline.proofs.Quiet.Events.DaemonsRunOn.{daemons_run_on}
use Rattle.sl_headline.proofs.Quiet.Start.FewerCounts.{all_pass}
use Rattle.sl_headline.proofs.Quiet.Leases.CallsStay.{left_alone, none_new, same_call}
use Rattle.sl_headline.specs.Quiet.Events.AnswersShow.{GrantsStay, IsGrantedThere}
use Rattle.sl_headline.specs.Quiet.Events.DaemonsRunOn.{Rests, RunsAfter, RunsOn, Takes}
use Rattle.sl_run.specs.EventChanges.{with_entry}
use Rattle.sl_run.specs.Quiet.{job_calls}
use Rattle.sl_run.specs.Safety.{world_at}
use Rattle.sl_run.specs.Worlds.{Daemon, Stamp, World, reading_now}
use Rattle.sl_run_law.proofs.Course.CallsAreDistinct.{map_length}
use Rattle.sl_run_law.proofs.Course.PairwiseLists.{filter_changed}
use Rattle.sl_trace.specs.declared.session.Session.{Session}
use Rattle.sl_trace.specs.Traces.{Answered, Replied, Setting, Submitted, Trace, answered_in, is_of_job, job_of, mark, new_call, reply_in, reply_to, submitted}
use Rattle.sl_trace.specs.declared.command.Command.TheVariants.{Acquire}
use Rattle.sl_trace.specs.declared.effects.Call.{Call}
use Rattle.sl_trace.specs.declared.effects.Effects.{Effects}
use Rattle.sl_trace.specs.declared.effects.Entry.{Entry}
use Rattle.sl_trace.specs.declared.input.Input.TheVariants.{Answer as Told, Exit, Line, Number, Spawned, Wake}
use Rattle.sl_trace.specs.declared.input.Input.{Input}
use Rattle.sl_trace.specs.declared.reply.Reply.TheVariants.{Granted}
use Rattle.sl_words.proofs.CaseLaws.{none_some, true_is_false}
use Rattle.sl_words.specs.Words.{first_of_list, some_is}
use Rattle.std.proofs.Common.{ap, inr, refl, subst, sym, ◌∙◌}
use Rattle.std.specs.Prelude.{Contains, IsSomeAnd, List, None, Option, Some, [], filter, is_none, length, map, option_map, true, ℕ, ◌++◌, ◌+◌, ◌==◌, ◌∷◌, ◌≡◌}

-- ---- answers change no count, and no call that has its answer

marked_count : (past : Trace) (e : Entry) (j : ℕ) (i : Input) (ms : List Submitted) → length (filter (is_of_job j) (mark past e i ms)) ≡ length (filter (is_of_job j) ms)
marked_count past e j (Told n a) ms =
    ap (λ xs. length xs) (filter_changed (is_of_job j) (answered_in past e n a) ms (λ m. ap (λ (k : Call). some_is (λ o. o == j) (job_of k.purpose)) (same_call past e n a m)))
    ∙ map_length (answered_in past e n a) (filter (is_of_job j) ms)
marked_count past e j (Line text) ms = refl
marked_count past e j (Number text) ms = refl
marked_count past e j (Exit p) ms = refl
marked_count past e j (Spawned p ok) ms = refl
marked_count past e j Wake ms = refl

first_kept : (f : Submitted → Submitted) (ms : List Submitted) (m : Submitted) → f m ≡ m → first_of_list ms ≡ Some m → first_of_list (map f ms) ≡ Some m
first_kept f [] m same is = absurd (none_some m is)
first_kept f (x ∷ ms) m same is = ap (λ o. option_map f o) is ∙ ap (λ y. Some y) same

marked_first : (past : Trace) (e : Entry) (j : ℕ) (i : Input) (ms : List Submitted) (m : Submitted) → (m.answer ≡ None → ⊥) → first_of_list (filter (is_of_job j) ms) ≡ Some m
    → first_of_list (filter (is_of_job j) (mark past e i ms)) ≡ Some m
marked_first past e j (Told n a) ms m answered is =
    ap (λ xs. first_of_list xs) (filter_changed (is_of_job j) (answered_in past e n a) ms (λ k. ap (λ (c : Call). some_is (λ o. o == j) (job_of c.purpose)) (same_call past e n a k)))
    ∙ first_kept (answered_in past e n a) (filter (is_of_job j) ms) m (left_alone past e n a m (λ number none. answered none)) is
marked_first past e j (Line text) ms m answered is = is
marked_first past e j (Number text) ms m answered is = is
marked_first past e j (Exit p) ms m answered is = is
marked_first past e j (Spawned p ok) ms m answered is = is
marked_first past e j Wake ms m answered is = is

has_one : (o : Option Answered) (P : Answered → Type 0) → IsSomeAnd o P → o ≡ None → ⊥
has_one None P is none = is
has_one (Some a) P is none = none_some a (sym none)

stays_told : (past : Trace) (e : Entry) (j : ℕ) (r : Replied) → reply_to past j ≡ Some r → reply_to (e ∷ past) j ≡ Some r
stays_told past e j r is = ap (λ o. elim o as (λ z. Option Replied) [ Some k ↦ Some k | None ↦ reply_in j past e ]) is

-- ---- all of it

pub grants_stay : GrantsStay
grants_stay p h now x run well q g crash reset = by after.how where
  w : World
  w = world_at p h now

  v : World
  v = world_at p h (now ++ x ∷ [])

  st : Setting
  st = (g.daemon).setting

  past : Trace
  past = (g.daemon).trace

  j : ℕ
  j = q.job

  after : RunsAfter w v x q.machine g.daemon
  after = daemons_run_on p h now x run q.machine g.machine g.daemon (g.at).0 (g.at).1 crash reset

  takes : (i : Input) (fx : Effects) (stamp : Stamp) → after.daemon ≡ with_entry (record { reading = reading_now after.machine; input = i; effects = fx }) stamp g.daemon → IsGrantedThere v q
  takes i fx stamp is =
      record {
        machine = after.machine;
        daemon = with_entry e stamp g.daemon;
        at = (after.at, after.runs ∙ ap (λ d. Some d) is);
        place = g.place;
        command = command;
        reply = stays_told past e j (record { at = g.place; reply = Granted (q.leader.lver + 1) }) g.reply;
        grants = record {
          last = (g.grants).last;
          calls = (
            ap (λ ms. length ms) same ∙ (marked_count past e j i (submitted past) ∙ (g.grants).calls.0),
            ap (λ ms. first_of_list ms) same ∙ marked_first past e j i (submitted past) (g.grants).last (has_one ((g.grants).last).answer (λ a. a.at ≡ g.place) (g.grants).answered) (g.grants).calls.1,
          );
          answered = (g.grants).answered;
          entry = (g.grants).entry;
          grant = (g.grants).grant;
          granted = (entry_stays past e (g.grants).entry g.place (g.grants).granted.0, (g.grants).granted.1);
          right = (g.grants).right;
        };
      } where
        e : Entry
        e = record { reading = reading_now after.machine; input = i; effects = fx }

        its : IsSetting st × IsHostTrace st (e ∷ past)
        its = subst (λ (d : Daemon). IsSetting d.setting × IsHostTrace d.setting d.trace) is (made_well v q.machine after.machine after.daemon well after.at after.runs)

        command : command_numbered st (e ∷ past) j ≡ Some (Acquire q.resource q.shared q.process q.persistent)
        command = command_stays st e past j (Acquire q.resource q.shared q.process q.persistent) g.command

        none : (c : Call) → Contains fx.calls c → true ≡ true → is_of_job j (new_call (length past) e.reading c) ≡ true → ⊥
        none c there tt_is mine =
            let m : Submitted = new_call (length past) e.reading c in
            let s : Session = record { number = c.session; job = None; lockspace = []; id = 0; path = []; offset = 0; renewed = 0 } in
            let inside : Contains (submitted (e ∷ past)) m = new_inside (length past) e.reading fx.calls (mark past e i (submitted past)) c there in
            let acquires : AcquireFacts st (e ∷ past) s q.resource j =
            acquires_keep_to_theirs st (e ∷ past) s q.resource j its.0 its.1 (inr (q.shared, q.process, q.persistent, command)) (inr (m, inside, mine, refl)) in
            let fits = acquires.fits m inside mine in
            true_is_false (sym (new_calls_run st past e its.0 its.1 c there j fits.0 fits.1) ∙ ap (λ o. is_none o) g.reply)

        same : job_calls (e ∷ past) j ≡ filter (is_of_job j) (mark past e i (submitted past))
        same =
            job_calls_are (e ∷ past) j
            ∙ (none_new (λ m. true) (is_of_job j) (length past) e.reading fx.calls (mark past e i (submitted past)) none
            ∙ ap (λ ms. filter (is_of_job j) ms) (all_pass (λ m. true) (mark past e i (submitted past)) (λ m. refl)))

  by : RunsOn w x q.machine after.machine g.daemon after.daemon → IsGrantedThere v q
  by (Rests is why) =
      record {
        machine = after.machine;
        daemon = g.daemon;
        at = (after.at, after.runs ∙ ap (λ d. Some d) is);
        place = g.place;
        command = g.command;
        reply = g.reply;
        grants = g.grants;
      }
  by (Takes i fx stamp same given step is) = takes i fx stamp is
