-- The first read of a joining and its deciding read are lawful where they are made.
use Rattle.sl_due_facts.proofs.Acts.AddedAtEnd.{any_last}
use Rattle.sl_due_facts.specs.Acts.Acts.{Hears}
use Rattle.sl_area.specs.AreaSizes.{record_in}
use Rattle.sl_due.specs.CarriedDelta.{register}
use Rattle.sl_due.specs.Steps.{Step, seen, with_input}
use Rattle.sl_due.specs.declared.decision.Decision.TheVariants.{Joins}
use Rattle.sl_due_facts.proofs.Jobs.CallsHaveFacts.{input_kept, sessions_told}
use Rattle.sl_due_facts.proofs.Jobs.CallsOfJobsFit.{list_all_inside}
use Rattle.sl_due_facts.proofs.Jobs.DecisionsFit.{DecisionFits}
use Rattle.sl_due_facts.proofs.Jobs.JobsAreNumbered.{finds_none, next_is_new}
use Rattle.sl_due_facts.proofs.Jobs.SessionsArePresent.{present_is}
use Rattle.sl_due_facts.proofs.Jobs.SessionsHaveJobs.{contains_only}
use Rattle.sl_due_facts.proofs.Jobs.SessionsStand.{no_members}
use Rattle.sl_run.specs.LawfulCalls.{may_submit}
use Rattle.sl_run.specs.LawfulDelta.{Gave, WatchOver}
use Rattle.sl_words.proofs.Lists.{contains_cases, contains_none, find_inside, kept_inside}
use Rattle.sl_words.proofs.Numbers.{number_itself}
use Rattle.sl_words.proofs.Options.{some_of}
use Rattle.sl_sector.specs.SectorLayouts.{delta_in}
use Rattle.sl_sector.specs.declared.sector.DeltaRec.{DeltaRec}
use Rattle.sl_sector.specs.declared.sector.DeltaState.TheVariants.{Claimed, Free, Live}
use Rattle.sl_sector.specs.declared.sector.DeltaState.{DeltaState}
use Rattle.sl_due_facts.proofs.Connections.DeltaCallsAreLawful.{all_answered, heard_gave, on_own}
use Rattle.sl_due_facts.proofs.Connections.HeardCalls.{newest_heard}
use Rattle.sl_due_facts.proofs.Connections.JoiningConnections.{Working, working_inside, working_turn, working_unjoined, working_unrefused}
use Rattle.sl_due_facts.proofs.Connections.JoiningDecisions.{heard_working, stage_newest}
use Rattle.sl_due_facts.proofs.Connections.WatchFactsConclude.{both_steps}
use Rattle.sl_due_facts.proofs.Sessions.JoiningsGoOn.{first_is_last}
use Rattle.sl_due_facts.proofs.Sessions.NameActs.{running_unrefused}
use Rattle.sl_due_facts.proofs.Sessions.NamesAreAllowed.{heard_mine}
use Rattle.sl_due_facts.proofs.Sessions.NamesAtEnd.{running_unjoined}
use Rattle.sl_due_facts.proofs.Sessions.NamesGrow.{input_present}
use Rattle.sl_trace.specs.Sessions.{calls_of, free_write, is_call_of, is_delta_purpose, is_join_call, join_call, joined_after, joining_session, present_sessions, refused_after, removed_after, session_named, session_numbered, sessions, stage_after, stage_in, stage_of}
use Rattle.sl_trace.specs.Sightings.{is_free_state}
use Rattle.sl_trace.specs.declared.delta.DeltaNext.TheVariants.{Nothing, RefuseJoin, RegisterAndRead}
use Rattle.sl_trace.specs.declared.delta.DeltaNext.{DeltaNext}
use Rattle.sl_trace.specs.declared.session.Session.{Session}
use Rattle.sl_trace.specs.declared.stage.Stage.TheVariants.{Looking}
use Rattle.sl_due_facts.specs.Facts.HeardCall.{heard_by}
use Rattle.sl_due_facts.specs.Facts.AllFacts.{Whole}
use Rattle.sl_time.specs.Times.{fail, take_over}
use Rattle.sl_trace.specs.CommandForms.{IsLockspaceArg}
use Rattle.sl_trace.specs.WatchdogConnections.{registers_with}
use Rattle.sl_trace.specs.Traces.{Answered, Submitted, bytes_given, call_numbered, gave, is_answer_for, is_answered_ok, is_ok_answer, is_running, is_write, job_numbered, next_job, submitted, unanswered}
use Rattle.sl_trace.specs.declared.command.Command.TheVariants.{AddLockspace}
use Rattle.sl_trace.specs.declared.command.Command.{Command}
use Rattle.sl_trace.specs.declared.command.LockspaceArg.{LockspaceArg}
use Rattle.sl_trace.specs.declared.effects.JoinStep.TheVariants.{ClaimWrite, DecidingRead, FirstRead, FirstRenewal, VerifyRead, WatchRead}
use Rattle.sl_trace.specs.declared.effects.JoinStep.{JoinStep}
use Rattle.sl_trace.specs.declared.effects.Move.TheVariants.{Register}
use Rattle.sl_trace.specs.declared.effects.Op.TheVariants.{ReadSectors, WriteRecord}
use Rattle.sl_trace.specs.declared.effects.Op.{Op}
use Rattle.sl_trace.specs.declared.effects.Purpose.TheVariants.{Joining, Lease, Leaving, Renewal, RequestRead, RequestWrite, SeeRequest, Survey, ValueRead, ValueWrite}
use Rattle.sl_trace.specs.declared.effects.Purpose.{Purpose}
use Rattle.sl_trace.specs.declared.input.Answer.TheVariants.{Failed, Read, Written}
use Rattle.sl_trace.specs.declared.input.Answer.{Answer}
use Rattle.sl_trace.specs.declared.input.Input.TheVariants.{Line, Wake}
use Rattle.sl_trace.specs.declared.reply.Reply.TheVariants.{TornDelta, WrongDelta}
use Rattle.sl_run_law.proofs.Sessions.SessionNames.{absent, same_name}
use Rattle.sl_run_law.proofs.Sessions.JoiningsAreOrdered.{joinings_are_ordered, open_stage}
use Rattle.sl_run_law.specs.Sessions.SessionLaws.{all_done, fits, fits_as, has_reply, is_in_turn, is_ordered, may_come}
use Rattle.sl_words.proofs.CaseLaws.{false_is_true, is_false, none_some, not_both, one_value, some_value}
use Rattle.sl_words.proofs.WordLaws.{and_true}
use Rattle.sl_words.specs.Words.{some_is}
use Rattle.std.proofs.Common.{ap, ap₂, arith, inl, inr, refl, subst, sym, ◌∙◌}
use Rattle.std.proofs.lemmas.Option.{slice_get_within}
use Rattle.std.proofs.lemmas.Slice.Eq.{bytes_eq-Decides}
use Rattle.std.specs.List.{list_any}
use Rattle.std.specs.Prelude.{Bool, Contains, List, None, Ok, Option, Some, [], bytes_eq, false, length, nat_le, option_and_then, option_map, true, unwrap_or, ℕ, ◌&&◌, ◌+◌, ◌<◌, ◌==◌, ◌∷◌, ◌≡◌}
use Rattle.sl_due_facts.specs.Connections.DeltaCalls.{DeltaLawful, own_read}
use Rattle.sl_due_facts.specs.Connections.WatchFacts.{HasRead, HasWatchFacts}
use Rattle.sl_trace.specs.DeltaDecisions.{delta_of_session, is_watched_out, next_after_first, next_after_watch, id_held, watched}
use Rattle.std.proofs.lemmas.Bool.{eqb-true, leb-true}

-- ---- a first read

pub looks_are_lawful : (x : Step) (text : List ℕ) (c : Command) (n : ℕ) (a : LockspaceArg) → Whole x → x.input ≡ Wake → x.effects.calls ≡ [] → x.setting.read text ≡ Ok c → DecisionFits x.setting (seen x) c (Joins n a)
    → DeltaLawful x.setting (seen (with_input (Line text) x)) (joining_session n (next_job x.setting (seen x)) a) (own_read (with_input (Line text) x) (joining_session n (next_job x.setting (seen x)) a) (Joining (next_job x.setting (seen x)) FirstRead))
looks_are_lawful x text c n a h wake bare says f =
    record {
      alive = ap (λ q. may_submit q) stage;
      delta = record { reads = refl; placed = arg.base; apart = unnamed };
      placed = λ p. on_own x.setting new;
      alone = λ p. ap (λ ms. list_any (λ (m : Submitted). is_delta_purpose m.call.purpose) (unanswered ms)) none;
    } where
      w : Step
      w = with_input (Line text) x

      new : Session
      new = joining_session n (next_job x.setting (seen x)) a

      arg : IsLockspaceArg x.setting.layout a
      arg = h.setting.reads text (AddLockspace a) (says ∙ ap (λ z. Ok z) f.0)

      last : n ≡ length (sessions x.setting (seen w))
      last = f.1 ∙ ap (λ ss. length ss) (sym (sessions_told x (Line text) bare))

      none : calls_of (seen (with_input (Line text) x)) (joining_session n (next_job x.setting (seen x)) a) ≡ []
      none =
          no_members (calls_of (seen w) new) (λ m there.
          let its = kept_inside (is_call_of new) (submitted (seen w)) m there in
          let owner = some_of (session_numbered x.setting (seen w) m.call.session) ((input_kept x (Line text) wake bare refl h.facts.calls).owned m its.0) in
          let low : m.call.session < length (sessions x.setting (seen w)) = slice_get_within (sessions x.setting (seen w)) m.call.session owner.0 owner.1 in
          let is : m.call.session ≡ n = eqb-true m.call.session n its.1 in omega (arith, low, is, last))

      runs : is_running (seen w) (next_job x.setting (seen x)) ≡ true
      runs = by (is_running (seen x) (next_job x.setting (seen x))) refl where
        by : (b : Bool) → is_running (seen x) (next_job x.setting (seen x)) ≡ b → b ≡ true
        by true is = refl
        by false is =
            let j = some_of (job_numbered x.setting (seen x) (next_job x.setting (seen x))) (h.facts.jobs.replied (next_job x.setting (seen x)) is) in absurd (none_some j.0 (sym (next_is_new x.setting (seen x)) ∙ j.1))

      stage : stage_of (seen (with_input (Line text) x)) (joining_session n (next_job x.setting (seen x)) a) ≡ Looking
      stage =
          open_stage (joined_after (seen w) new) (removed_after (seen w) new) (refused_after (seen w) new) (free_write (calls_of (seen w) new)) (stage_in (calls_of (seen w) new))
          (running_unjoined (seen w) new (next_job x.setting (seen x)) refl runs) (running_unrefused (seen w) new (next_job x.setting (seen x)) refl runs)
          ∙ ap (λ ms. stage_in ms) none

      unnamed : session_named x.setting (seen (with_input (Line text) x)) a.name ≡ None
      unnamed =
          finds_none (λ (s : Session). bytes_eq s.lockspace a.name) (present_sessions x.setting (seen w)) (λ s there.
          let is = present_is x.setting (seen w) s there in
          is_false (bytes_eq s.lockspace a.name) (λ same.
          absent x.setting (seen x) a.name s (subst (λ ss. Contains ss s) (sessions_told x (Line text) bare) is.0) ((bytes_eq-Decides s.lockspace a.name).0 same) f.2 (input_present x (Line text) s wake bare is.1)))

-- ---- a deciding read

abbrev is_registering_now : DeltaNext → Bool
is_registering_now (RegisterAndRead step) = true
is_registering_now n = false

-- What both have in common: the name is registered with it, and nothing of the joining is open.
decides_with : (x : Step) (s : Session) (j : ℕ) (step : JoinStep) (m : Submitted) (bytes : List ℕ) → Whole x → Hears x s m (Read bytes) → m.call.purpose ≡ Joining j step → is_running (seen x) j ≡ true → (stage_after step (is_answered_ok m) ≡ Looking)
    → (first : Submitted) (watched_bytes : List ℕ) (found : DeltaRec) → Gave (seen x) s FirstRead watched_bytes first → (delta_in (record_in x.setting.layout watched_bytes) ≡ Some found) × (found.lockspace ≡ s.lockspace) × (found.id ≡ s.id)
    → ((r : Submitted) (b : List ℕ) → Gave (seen x) s WatchRead b r → b ≡ watched_bytes) → WatchOver x.setting (seen x) s watched_bytes first found
    → DeltaLawful x.setting (seen (register s x)) s (own_read (register s x) s (Joining j DecidingRead))
decides_with x s j step m bytes h hears is runs looks first watched_bytes found given spelled same over =
    record {
      alive = ap (λ q. may_submit q) stage;
      delta = record {
        reads = refl;
        looking = stage;
        bytes = watched_bytes;
        first = first;
        found = found;
        given = given;
        spelled = spelled;
        same = same;
        watched = over;
        registered = any_last (registers_with s.lockspace (x.reading + fail x.setting.timing)) x.effects.moves (Register s.lockspace (x.reading + fail x.setting.timing))
            (ap₂ (λ p q. p && q) (same_name s.lockspace) (number_itself (x.reading + fail x.setting.timing)));
      };
      placed = λ p. on_own x.setting s;
      alone = λ p. ap (λ ks. list_any (λ (k : Submitted). is_delta_purpose k.call.purpose) ks) (all_answered x s m (Read bytes) h hears (working_unjoined x s j w));
    } where
      w : Working x s j
      w = heard_working x s j step m (Read bytes) h hears is runs

      newest : (ms : List Submitted) × (calls_of (seen x) s ≡ m ∷ ms)
      newest = newest_heard x s m (Read bytes) h hears (working_unjoined x s j w)

      stage : stage_of (seen (register s x)) s ≡ Looking
      stage =
          open_stage (joined_after (seen x) s) (removed_after (seen (register s x)) s) (refused_after (seen x) s) (free_write (calls_of (seen x) s)) (stage_in (calls_of (seen x) s)) (working_unjoined x s j w) (working_unrefused x s j w)
          ∙ (stage_newest x s j step m newest.0 newest.1 is ∙ looks)

free_state : (q : DeltaState) → is_free_state q ≡ true → q ≡ Free
free_state Free is = refl
free_state Claimed is = absurd (false_is_true is)
free_state Live is = absurd (false_is_true is)

-- After the first read of a free record.
pub free_is_decided : (x : Step) (s : Session) (j : ℕ) (m : Submitted) (bytes : List ℕ) → Whole x → Hears x s m (Read bytes) → m.call.purpose ≡ Joining j FirstRead → is_running (seen x) j ≡ true
    → next_after_first (delta_of_session x.setting s) bytes ≡ RegisterAndRead DecidingRead → DeltaLawful x.setting (seen (register s x)) s (own_read (register s x) s (Joining j DecidingRead))
unfolding next_after_first
free_is_decided x s j m bytes h hears is runs decides = by (delta_in (record_in x.setting.layout bytes)) refl decides where
  w : Working x s j
  w = heard_working x s j FirstRead m (Read bytes) h hears is runs

  newest : (ms : List Submitted) × (calls_of (seen x) s ≡ m ∷ ms)
  newest = newest_heard x s m (Read bytes) h hears (working_unjoined x s j w)

  ordered : is_ordered (calls_of (seen x) s) ≡ true
  ordered = joinings_are_ordered x.setting (seen x) s h.orderly w.has (working_unjoined x s j w)

  look : is_join_call FirstRead m.call.purpose ≡ true
  look = ap (λ p. is_join_call FirstRead p) is

  -- nothing was watched before
  alone : (ms : List Submitted) → calls_of (seen x) s ≡ m ∷ ms → (r : Submitted) → Contains (calls_of (seen x) s) r → is_join_call WatchRead r.call.purpose ≡ true → ⊥
  alone [] are r there watches =
      let one : m ≡ r = contains_only m r (subst (λ ks. Contains ks r) are there) in both_steps r.call.purpose (subst (λ (q : Submitted). is_join_call FirstRead q.call.purpose ≡ true) one look) watches
  alone (c ∷ cs) are r there watches =
      let both = and_true (may_come (c ∷ cs) m.call.purpose) (is_ordered (c ∷ cs)) (subst (λ ks. is_ordered ks ≡ true) are ordered) in
      not_both (is_join_call FirstRead m.call.purpose) look (first_is_last c.call.purpose m.call.purpose both.0)

  by_state : (d : DeltaRec) → delta_in (record_in x.setting.layout bytes) ≡ Some d → (bytes_eq d.lockspace s.lockspace && d.id == s.id) ≡ true → (b : Bool) → is_free_state d.state ≡ b
      → (elim b as (λ z. DeltaNext) [ true ↦ RegisterAndRead DecidingRead | false ↦ Nothing ]) ≡ RegisterAndRead DecidingRead → DeltaLawful x.setting (seen (register s x)) s (own_read (register s x) s (Joining j DecidingRead))
  by_state d spells names false free k = absurd (false_is_true (ap (λ n. is_registering_now n) k))
  by_state d spells names true free k =
      let both = and_true (bytes_eq d.lockspace s.lockspace) (d.id == s.id) names in
      decides_with x s j FirstRead m bytes h hears is runs refl m bytes d (heard_mine x s m (Read bytes) hears, look, heard_gave x s m bytes h hears)
      (spells, (bytes_eq-Decides d.lockspace s.lockspace).0 both.0, eqb-true d.id s.id both.1) (λ r b g. absurd (alone newest.0 newest.1 r g.0 g.1)) (inl (free_state d.state free))

  by_names : (d : DeltaRec) → delta_in (record_in x.setting.layout bytes) ≡ Some d → (b : Bool) → (bytes_eq d.lockspace s.lockspace && d.id == s.id) ≡ b
      → (elim b as (λ z. DeltaNext) [ false ↦ RefuseJoin (WrongDelta d.lockspace d.id) | true ↦ elim (is_free_state d.state) as (λ z. DeltaNext) [ true ↦ RegisterAndRead DecidingRead | false ↦ Nothing ] ]) ≡ RegisterAndRead DecidingRead
      → DeltaLawful x.setting (seen (register s x)) s (own_read (register s x) s (Joining j DecidingRead))
  by_names d spells false names k = absurd (false_is_true (ap (λ n. is_registering_now n) k))
  by_names d spells true names k = by_state d spells names (is_free_state d.state) refl k

  by : (o : Option DeltaRec) → delta_in (record_in x.setting.layout bytes) ≡ o
      → (elim o as (λ z. DeltaNext) [
        | None ↦ RefuseJoin TornDelta
        | Some d ↦ elim (bytes_eq d.lockspace s.lockspace && d.id == s.id) as (λ z. DeltaNext) [ false ↦ RefuseJoin (WrongDelta d.lockspace d.id) | true ↦ elim (is_free_state d.state) as (λ z. DeltaNext) [ true ↦ RegisterAndRead DecidingRead | false ↦ Nothing ] ]
      ]) ≡ RegisterAndRead DecidingRead → DeltaLawful x.setting (seen (register s x)) s (own_read (register s x) s (Joining j DecidingRead))
  by None spells k = absurd (false_is_true (ap (λ n. is_registering_now n) k))
  by (Some d) spells k = by_names d spells (bytes_eq d.lockspace s.lockspace && d.id == s.id) refl k

-- After a further read of the same bytes, made long enough after the first one's answer.
pub watched_is_decided : (x : Step) (s : Session) (j : ℕ) (m : Submitted) (bytes : List ℕ) → Whole x → HasWatchFacts x → Hears x s m (Read bytes) → m.call.purpose ≡ Joining j WatchRead → is_running (seen x) j ≡ true
    → next_after_watch (delta_of_session x.setting s) (calls_of (seen x) s) m.reading bytes ≡ RegisterAndRead DecidingRead → DeltaLawful x.setting (seen (register s x)) s (own_read (register s x) s (Joining j DecidingRead))
unfolding next_after_watch
watched_is_decided x s j m bytes h watches hears is runs decides = by (bytes_eq (watched (calls_of (seen x) s)) bytes) refl decides where
  w : Working x s j
  w = heard_working x s j WatchRead m (Read bytes) h hears is runs

  mine : Contains (sessions x.setting (seen x)) s
  mine = working_inside x s j w

  number : m.call.number ≡ hears.number
  number = eqb-true m.call.number hears.number (find_inside (λ (z : Submitted). z.call.number == hears.number) (submitted (seen x)) m hears.call).1

  heard_is_m : (k : Submitted) → Contains (calls_of (seen x) s) k → heard_by x.input ≡ Some k.call.number → k ≡ m
  heard_is_m k there heard =
      let same : hears.number ≡ k.call.number = some_value hears.number k.call.number (ap (λ i. heard_by i) (sym hears.heard) ∙ heard) in
      one_value k m (call_numbered (seen x) hears.number) (subst (λ q. call_numbered (seen x) q ≡ Some k) (sym same) (h.facts.calls.found k (kept_inside (is_call_of s) (submitted (seen x)) k there).0)) hears.call

  lawful : bytes_eq (watched (calls_of (seen x) s)) bytes ≡ true → (f : Submitted) (a : Answered) → join_call (calls_of (seen x) s) FirstRead ≡ Some f → f.answer ≡ Some a → nat_le (a.reading + take_over x.setting.timing) m.reading ≡ true
      → DeltaLawful x.setting (seen (register s x)) s (own_read (register s x) s (Joining j DecidingRead))
  lawful same f a found answered out = read_one (gave f) refl where
    there : Contains (calls_of (seen x) s) f × (is_join_call FirstRead f.call.purpose ≡ true)
    there = find_inside (λ (k : Submitted). is_join_call FirstRead k.call.purpose) (calls_of (seen x) s) f found

    not_m : heard_by x.input ≡ Some f.call.number → ⊥
    not_m heard =
        both_steps m.call.purpose (subst (λ (q : Submitted). is_join_call FirstRead q.call.purpose ≡ true) (heard_is_m f there.0 heard) there.1) (ap (λ p. is_join_call WatchRead p) is)

    fits_first : fits_as f.call.purpose (is_write f.call.op) ≡ true
    fits_first = in_list (calls_of (seen x) s) (working_turn x s j w) there.0 where
      in_list : (ms : List Submitted) → is_in_turn ms ≡ true → Contains ms f → fits f ≡ true
      in_list [] turn inside = absurd (contains_none f inside)
      in_list (k ∷ ks) turn inside =
          let both = and_true (fits k) (all_done ks) turn in
          elim (contains_cases k ks f inside) [ inl one ↦ ap (λ q. fits q) (sym one) ∙ both.0 | inr old ↦ (and_true (fits f) (has_reply f) (list_all_inside (λ z. fits z && has_reply z) ks f both.1 old)).0 ]

    -- it gave bytes, for it was answered ok and reads
    reads_one : (p : Purpose) (o : Op) → is_join_call FirstRead p ≡ true → fits_as p (is_write o) ≡ true → (b : Answer) → is_ok_answer b ≡ true → is_answer_for x.setting b o ≡ true → bytes_given b ≡ None → ⊥
    reads_one p (WriteRecord r) first fit b ok answers none = never p first fit where
      never : (q : Purpose) → is_join_call FirstRead q ≡ true → fits_as q true ≡ true → ⊥
      never (Joining i FirstRead) k g = false_is_true g
      never (Joining i WatchRead) k g = false_is_true k
      never (Joining i DecidingRead) k g = false_is_true k
      never (Joining i ClaimWrite) k g = false_is_true k
      never (Joining i VerifyRead) k g = false_is_true k
      never (Joining i FirstRenewal) k g = false_is_true k
      never Renewal k g = false_is_true k
      never Survey k g = false_is_true k
      never (Leaving i) k g = false_is_true k
      never (Lease work step) k g = false_is_true k
      never (RequestRead i) k g = false_is_true k
      never (RequestWrite i owner) k g = false_is_true k
      never SeeRequest k g = false_is_true k
      never (ValueWrite i) k g = false_is_true k
      never (ValueRead i) k g = false_is_true k
    reads_one p (ReadSectors n) first fit (Read b) ok answers none = none_some b (sym none)
    reads_one p (ReadSectors n) first fit Written ok answers none = false_is_true answers
    reads_one p (ReadSectors n) first fit Failed ok answers none = false_is_true ok

    read_one : (o : Option (List ℕ)) → gave f ≡ o → DeltaLawful x.setting (seen (register s x)) s (own_read (register s x) s (Joining j DecidingRead))
    read_one None none =
        absurd (reads_one f.call.purpose f.call.op there.1 fits_first a.answer (h.facts.names.done s j f a mine w.its w.runs there.0 answered not_m)
        (h.facts.calls.fits f a (kept_inside (is_call_of s) (submitted (seen x)) f there.0).0 answered)
        (sym (ap (λ o. option_and_then (λ (b : Answered). bytes_given b.answer) o) answered) ∙ none))
    read_one (Some first) given =
        decides_with x s j WatchRead m bytes h hears is runs refl f first spelled.0 (there.0, there.1, given) (spelled.1, spelled.2, spelled.3) all_same
        (inr (m, a, answered, (heard_mine x s m (Read bytes) hears, ap (λ p. is_join_call WatchRead p) is, heard_gave x s m bytes h hears ∙ ap (λ b. Some b) (sym eq)), leb-true (a.reading + take_over x.setting.timing) m.reading out))
      where
        read : HasRead x.setting (seen x) (heard_by x.input) s FirstRead f first
        read = record { job = j; session = mine; its = w.its; runs = w.runs; inside = there.0; for = there.1; given = given; done = not_m }

        spelled : (d : DeltaRec) × (delta_in (record_in x.setting.layout first) ≡ Some d) × (d.lockspace ≡ s.lockspace) × (d.id ≡ s.id)
        spelled = watches.first s f first read

        eq : first ≡ bytes
        eq =
            sym (ap (λ o. unwrap_or (option_and_then gave o) []) found ∙ ap (λ o. unwrap_or o []) given)
            ∙ (bytes_eq-Decides (watched (calls_of (seen x) s)) bytes).0 same

        all_same : (r : Submitted) (b : List ℕ) → Gave (seen x) s WatchRead b r → b ≡ first
        all_same r b g = to (r.call.number == hears.number) refl where
          to : (t : Bool) → (r.call.number == hears.number) ≡ t → b ≡ first
          to true its =
              let one : r ≡ m = heard_is_m r g.0 (ap (λ i. heard_by i) hears.heard ∙ ap (λ k. Some k) (sym (eqb-true r.call.number hears.number its))) in
              some_value b bytes (sym g.2 ∙ (ap (λ k. gave k) one ∙ heard_gave x s m bytes h hears)) ∙ sym eq
          to false other =
              sym (watches.same s f r first b read
              (record {
                job = j;
                session = mine;
                its = w.its;
                runs = w.runs;
                inside = g.0;
                for = g.1;
                given = g.2;
                done = λ heard.
                    not_both (r.call.number == hears.number) (ap (λ k. r.call.number == k) (some_value hears.number r.call.number (ap (λ i. heard_by i) (sym hears.heard) ∙ heard)) ∙ number_itself r.call.number) other;
              }))

  by_answer : bytes_eq (watched (calls_of (seen x) s)) bytes ≡ true → (f : Submitted) → join_call (calls_of (seen x) s) FirstRead ≡ Some f → (o : Option Answered) → f.answer ≡ o
      → some_is (λ a. nat_le (a + take_over x.setting.timing) m.reading) (option_map (λ (a : Answered). a.reading) o) ≡ true → DeltaLawful x.setting (seen (register s x)) s (own_read (register s x) s (Joining j DecidingRead))
  by_answer same f found None answered out = absurd (false_is_true out)
  by_answer same f found (Some a) answered out = lawful same f a found answered out

  by_first : bytes_eq (watched (calls_of (seen x) s)) bytes ≡ true → (o : Option Submitted) → join_call (calls_of (seen x) s) FirstRead ≡ o
      → some_is (λ a. nat_le (a + take_over x.setting.timing) m.reading) (option_and_then (λ (k : Submitted). option_map (λ (a : Answered). a.reading) k.answer) o) ≡ true
      → DeltaLawful x.setting (seen (register s x)) s (own_read (register s x) s (Joining j DecidingRead))
  by_first same None found out = absurd (false_is_true out)
  by_first same (Some f) found out = by_answer same f found f.answer refl out

  by_out : bytes_eq (watched (calls_of (seen x) s)) bytes ≡ true → (b : Bool) → is_watched_out x.setting.timing (calls_of (seen x) s) m.reading ≡ b
      → (elim b as (λ z. DeltaNext) [ true ↦ RegisterAndRead DecidingRead | false ↦ Nothing ]) ≡ RegisterAndRead DecidingRead → DeltaLawful x.setting (seen (register s x)) s (own_read (register s x) s (Joining j DecidingRead))
  by_out same false out k = absurd (false_is_true (ap (λ n. is_registering_now n) k))
  by_out same true out k = by_first same (join_call (calls_of (seen x) s) FirstRead) refl out

  by : (b : Bool) → bytes_eq (watched (calls_of (seen x) s)) bytes ≡ b
      → (elim b as (λ z. DeltaNext) [
        | false ↦ RefuseJoin (id_held x.setting.layout (watched (calls_of (seen x) s)) bytes)
        | true ↦ elim (is_watched_out x.setting.timing (calls_of (seen x) s) m.reading) as (λ z. DeltaNext) [ true ↦ RegisterAndRead DecidingRead | false ↦ Nothing ]
      ]) ≡ RegisterAndRead DecidingRead → DeltaLawful x.setting (seen (register s x)) s (own_read (register s x) s (Joining j DecidingRead))
  by false other k = absurd (false_is_true (ap (λ n. is_registering_now n) k))
  by true same k = by_out same (is_watched_out x.setting.timing (calls_of (seen x) s) m.reading) refl k
