-- What a session in recovery or leaving writes, and how a joined session ends: the law of parting follows from the laws of areas, of delta
-- sectors and of the watchdog, and from whose connections were removed.
use Rattle.sl_due_facts.proofs.Acts.AddedAtEnd.{contains_at}
use Rattle.sl_due_facts.specs.Acts.TraceSoFar.{entry_of}
use Rattle.sl_due.specs.Steps.{Step, seen}
use Rattle.sl_due_facts.proofs.Jobs.CallsHaveFacts.{find_mapped}
use Rattle.sl_due_facts.proofs.Jobs.QuietEffects.{is_recovering_parts}
use Rattle.sl_due_facts.proofs.Jobs.QuietLines.{active_parts}
use Rattle.sl_due_facts.proofs.Jobs.SessionsArePresent.{joined_present, session_has}
use Rattle.sl_due_facts.proofs.Jobs.SessionsStand.{joined_then}
use Rattle.sl_run.specs.LawfulArea.{LawfulArea, is_area_work, is_delta_record}
use Rattle.sl_run.specs.LawfulDelta.{LawfulDelta, LawfulDeltaCall, LawfulJoinStep}
use Rattle.sl_run.specs.LawfulParting.{LawfulParting, MayPart, is_leaving_write}
use Rattle.sl_run.specs.LawfulConnections.{LawfulWatchdog}
use Rattle.sl_run.specs.LawForms.{IsAnsweredAt, cut_at}
use Rattle.sl_words.proofs.Lists.{any_found, contains_first, contains_map, contains_more, find_inside, kept_inside}
use Rattle.sl_words.proofs.Options.{none_is, some_there}
use Rattle.sl_due_law.proofs.Recovery.PartingsAreKept.{PartsWell, find_kept}
use Rattle.sl_due_law.proofs.Recovery.RecoveriesStart.{removed_if, removed_is_not}
use Rattle.sl_due_law.proofs.Recovery.StopsConclude.{old_session}
use Rattle.sl_due_law.specs.Recovery.Stops.{FreeTold, Partings}
use Rattle.sl_sector.specs.declared.sector.Rec.{Rec}
use Rattle.sl_trace.specs.Sessions.{calls_of, delta_of_record, free_write, is_active, is_call_of, is_free_purpose, is_joined, joined_after, leaving_job, recovery_of, refused_after, removed_after, session_numbered, sessions, stage_in, stage_of}
use Rattle.sl_trace.specs.declared.session.Session.{Session}
use Rattle.sl_trace.specs.declared.stage.Stage.{Stage}
use Rattle.sl_trace.specs.declared.stage.Stage.TheVariants.{Ended, Freeing, Refused, Standing}
use Rattle.sl_due_facts.specs.Facts.CallFacts.{CallFacts}
use Rattle.sl_trace.specs.WatchdogConnections.{unregisters}
use Rattle.sl_trace.specs.Traces.{FollowsTrace, Setting, Submitted, Trace, answer_of, answered_in, call_numbered, is_answer_for, is_expected, is_write, mark, new_call, outstanding, record_of, submitted}
use Rattle.sl_trace.specs.declared.effects.Call.{Call}
use Rattle.sl_trace.specs.declared.effects.JoinStep.{JoinStep}
use Rattle.sl_trace.specs.declared.effects.JoinStep.TheVariants.{ClaimWrite, DecidingRead, FirstRead, FirstRenewal, VerifyRead, WatchRead}
use Rattle.sl_trace.specs.declared.effects.Op.{Op}
use Rattle.sl_trace.specs.declared.effects.Op.TheVariants.{ReadSectors, WriteRecord}
use Rattle.sl_trace.specs.declared.effects.Purpose.{Purpose}
use Rattle.sl_trace.specs.declared.effects.Purpose.TheVariants.{Joining, Lease, Leaving, Renewal, RequestRead, RequestWrite, SeeRequest, Survey, ValueRead, ValueWrite}
use Rattle.sl_trace.specs.declared.input.Answer.{Answer}
use Rattle.sl_trace.specs.declared.input.Input.TheVariants.{Answer as Told}
use Rattle.sl_run_law.proofs.Sessions.CallsAreMade.{old_stays, same_answered}
use Rattle.sl_run_law.proofs.Sessions.MarksStay.{marks_stay}
use Rattle.sl_words.proofs.CaseLaws.{false_is_true, is_false, not_both, one_value, true_is_false}
use Rattle.sl_words.proofs.WordLaws.{and_true}
use Rattle.std.proofs.Common.{ap, inl, inr, refl, subst, sym, ◌∙◌}
use Rattle.std.proofs.lemmas.Bool.{eqb-true}
use Rattle.std.specs.List.{list_any}
use Rattle.std.specs.Option.{option_or}
use Rattle.std.specs.Prelude.{Bool, Contains, IsFalse, IsTrue, List, None, Option, Some, [], cond, false, find, fold, is_none, is_some, length, map, option_and_then, option_map, slice_get, true, ℕ, ◌&&◌, ◌==◌, ◌∷◌, ◌≡◌}

-- ---- what it writes

abbrev stands : Stage → Bool
stands Standing = true
stands Freeing = true
stands stage = false

joined_stands : (t : Trace) (s : Session) → is_joined t s ≡ true → stands (stage_of t s) ≡ true
joined_stands t s is = by (joined_after t s) (removed_after t s) is (free_write (calls_of t s)) where
  by : (o r : Option ℕ) → (is_some o && is_none r) ≡ true → (f : Option Submitted)
      → stands (elim o as (λ z. Stage) [
        | Some k ↦ elim r as (λ z. Stage) [ Some i ↦ Ended | None ↦ elim f as (λ z. Stage) [ Some m ↦ Freeing | None ↦ Standing ] ]
        | None ↦ elim (refused_after t s) as (λ z. Stage) [ Some k ↦ Refused | None ↦ stage_in (calls_of t s) ]
      ]) ≡ true
  by (Some k) None h (Some m) = refl
  by (Some k) None h None = refl
  by (Some k) (Some i) h f = absurd (false_is_true h)
  by None r h f = absurd (false_is_true h)

-- A joined session's call reads, or is a renewal or a free outside recovery, or the session is active.
data CallKind (st : Setting) (t : Trace) (s : Session) (c : Submitted) : Type 0 where
  Reads : is_write c.call.op ≡ false → CallKind st t s c
  Renews_or_frees : recovery_of st t s ≡ None → is_leaving_write c.call.purpose ≡ true → CallKind st t s c
  Is_active : is_active st t s ≡ true → CallKind st t s c

joining_kind : (st : Setting) (t : Trace) (s : Session) (c : Submitted) (step : JoinStep) → is_joined t s ≡ true → LawfulJoinStep st t s c step → CallKind st t s c
joining_kind st t s c FirstRead joined h = Reads (ap (λ o. is_write o) h.reads)
joining_kind st t s c WatchRead joined h = Reads (ap (λ o. is_write o) h.reads)
joining_kind st t s c DecidingRead joined h = Reads (ap (λ o. is_write o) h.reads)
joining_kind st t s c VerifyRead joined h = Reads (ap (λ o. is_write o) h.reads)
joining_kind st t s c ClaimWrite joined h = absurd (true_is_false (sym (joined_stands t s joined) ∙ ap (λ g. stands g) h.deciding))
joining_kind st t s c FirstRenewal joined h = absurd (true_is_false (sym (joined_stands t s joined) ∙ ap (λ g. stands g) h.verifying))

seeing_kind : (st : Setting) (t : Trace) (s : Session) (c : Submitted) (o : Op) → c.call.op ≡ o → c.call.purpose ≡ SeeRequest → option_and_then delta_of_record (record_of o) ≡ None
    → ((r : Rec) → record_of c.call.op ≡ Some r → IsFalse (is_delta_record r) → IsTrue (is_area_work c.call.purpose)) → CallKind st t s c
seeing_kind st t s c (ReadSectors n) op is none writes = Reads (ap (λ o. is_write o) op)
seeing_kind st t s c (WriteRecord r) op is none writes =
    absurd (false_is_true (ap (λ p. is_area_work p) (sym is) ∙ writes r (ap (λ o. record_of o) op) (ap (λ o. is_some o) none)))

call_kind : (st : Setting) (t : Trace) (s : Session) (c : Submitted) (p : Purpose) → c.call.purpose ≡ p → is_joined t s ≡ true → LawfulDeltaCall st t s c p → (IsTrue (is_area_work c.call.purpose) → IsTrue (is_active st t s))
    → ((r : Rec) → record_of c.call.op ≡ Some r → IsFalse (is_delta_record r) → IsTrue (is_area_work c.call.purpose)) → CallKind st t s c
call_kind st t s c (Joining j step) is joined h active writes = joining_kind st t s c step joined h
call_kind st t s c Renewal is joined h active writes = Renews_or_frees h.well (ap (λ p. is_leaving_write p) is)
call_kind st t s c (Leaving j) is joined h active writes = Renews_or_frees h.well (ap (λ p. is_leaving_write p) is)
call_kind st t s c Survey is joined h active writes = Reads (ap (λ o. is_write o) h.whole.2)
call_kind st t s c SeeRequest is joined h active writes = seeing_kind st t s c c.call.op refl is h writes
call_kind st t s c (Lease work step) is joined h active writes = Is_active (active (ap (λ p. is_area_work p) is))
call_kind st t s c (RequestRead j) is joined h active writes = Is_active (active (ap (λ p. is_area_work p) is))
call_kind st t s c (RequestWrite j owner) is joined h active writes = Is_active (active (ap (λ p. is_area_work p) is))
call_kind st t s c (ValueWrite j) is joined h active writes = Is_active (active (ap (λ p. is_area_work p) is))
call_kind st t s c (ValueRead j) is joined h active writes = Is_active (active (ap (λ p. is_area_work p) is))

quiet_by : (st : Setting) (t : Trace) (s : Session) (c : Submitted) → is_some (recovery_of st t s) ≡ true → CallKind st t s c → is_write c.call.op ≡ false
quiet_by st t s c some_one (Reads is) = is
quiet_by st t s c some_one (Renews_or_frees well is) = absurd (true_is_false (sym some_one ∙ ap (λ o. is_some o) well))
quiet_by st t s c some_one (Is_active is) = absurd (true_is_false (sym some_one ∙ ap (λ o. is_some o) (active_parts st t s is).0))

few_by : (st : Setting) (t : Trace) (s : Session) (c : Submitted) → is_some (leaving_job st t s) ≡ true → is_write c.call.op ≡ true → CallKind st t s c → is_leaving_write c.call.purpose ≡ true
few_by st t s c some_one writes (Reads is) = absurd (not_both (is_write c.call.op) writes is)
few_by st t s c some_one writes (Renews_or_frees well is) = is
few_by st t s c some_one writes (Is_active is) = absurd (true_is_false (sym some_one ∙ ap (λ o. is_some o) (active_parts st t s is).1))

-- ---- how it ends

-- A session whose connection was removed has written no free since.
no_new_free : (x : Step) (s : Session) → LawfulDelta x.setting x.past (entry_of x) → Contains (sessions x.setting x.past) s → is_joined x.past s ≡ true → list_any (unregisters s.lockspace) x.effects.moves ≡ true → (c : Call) → Contains x.effects.calls c
    → (is_call_of s (new_call (length x.past) x.reading c) && is_free_purpose c.purpose) ≡ false
no_new_free x s law there joined gone c inside = is_false ((c.session == s.number) && is_free_purpose c.purpose) (λ is. never (and_true (c.session == s.number) (is_free_purpose c.purpose) is)) where
  at : (k : ℕ) × (slice_get x.effects.calls k ≡ Some c)
  at = contains_at x.effects.calls c inside

  -- at the cut its connection is removed too
  over : is_joined (cut_at at.0 (entry_of x) ∷ x.past) s ≡ false
  over = removed_is_not (cut_at at.0 (entry_of x)) x.past s joined gone

  freeing : (p : Purpose) → c.purpose ≡ p → is_free_purpose p ≡ true → LawfulDeltaCall x.setting (cut_at at.0 (entry_of x) ∷ x.past) s (new_call (length x.past) x.reading c) p → stands (stage_of (cut_at at.0 (entry_of x) ∷ x.past) s) ≡ true
  freeing (Leaving j) is free h = ap (λ g. stands g) h.standing
  freeing (Joining j step) is free h = absurd (false_is_true free)
  freeing Renewal is free h = absurd (false_is_true free)
  freeing Survey is free h = absurd (false_is_true free)
  freeing (Lease work step) is free h = absurd (false_is_true free)
  freeing (RequestRead j) is free h = absurd (false_is_true free)
  freeing (RequestWrite j owner) is free h = absurd (false_is_true free)
  freeing SeeRequest is free h = absurd (false_is_true free)
  freeing (ValueWrite j) is free h = absurd (false_is_true free)
  freeing (ValueRead j) is free h = absurd (false_is_true free)

  ended_stage : (o r : Option ℕ) → is_some o ≡ true → (is_some o && is_none r) ≡ false → (f : Option Submitted)
      → stands (elim o as (λ z. Stage) [
        | Some k ↦ elim r as (λ z. Stage) [ Some i ↦ Ended | None ↦ elim f as (λ z. Stage) [ Some m ↦ Freeing | None ↦ Standing ] ]
        | None ↦ elim (refused_after (cut_at at.0 (entry_of x) ∷ x.past) s) as (λ z. Stage) [ Some k ↦ Refused | None ↦ stage_in (calls_of (cut_at at.0 (entry_of x) ∷ x.past) s) ]
      ]) ≡ false
  ended_stage (Some k) (Some i) some_one h f = refl
  ended_stage (Some k) None some_one h f = absurd (true_is_false h)
  ended_stage None r some_one h f = absurd (false_is_true some_one)

  was : is_some (joined_after (cut_at at.0 (entry_of x) ∷ x.past) s) ≡ true
  was =
      let before = some_there (joined_after x.past s) (joined_then x.past s joined) in
      ap (λ o. is_some o) (marks_stay.joined (cut_at at.0 (entry_of x) ∷ []) x.past s before.0 before.1)

  never : (((c.session == s.number) ≡ true) × (is_free_purpose c.purpose ≡ true)) → ⊥
  never both =
      let its : session_numbered x.setting (seen x) c.session ≡ Some s =
      ap (λ n. session_numbered x.setting (seen x) n) (eqb-true c.session s.number both.0) ∙ session_has x.setting (seen x) s (old_session x s there)
      in
      let lawful : LawfulDeltaCall x.setting (cut_at at.0 (entry_of x) ∷ x.past) s (new_call (length x.past) x.reading c) c.purpose = law.calls at.0 c s at.1 its in
      not_both (stands (stage_of (cut_at at.0 (entry_of x) ∷ x.past) s)) (freeing c.purpose refl both.1 lawful)
      (ended_stage (joined_after (cut_at at.0 (entry_of x) ∷ x.past) s) (removed_after (cut_at at.0 (entry_of x) ∷ x.past) s) was over (free_write (calls_of (cut_at at.0 (entry_of x) ∷ x.past) s)))

find_skips : (q : Submitted → Bool) (now at : ℕ) (cs : List Call) (ms : List Submitted) → ((c : Call) → Contains cs c → q (new_call at now c) ≡ false) → find q (fold (λ ds c. new_call at now c ∷ ds) ms cs) ≡ find q ms
find_skips q now at [] ms none = refl
find_skips q now at (c ∷ cs) ms none =
    find_skips q now at cs (new_call at now c ∷ ms) (λ d inside. none d (contains_more c cs d inside)) ∙ ap (λ b. cond b (Some (new_call at now c)) (find q ms)) (none c (contains_first c cs))

free_parts : (x : Step) (s : Session) → CallFacts x.setting (seen x) → FollowsTrace x.setting x.past (entry_of x) → LawfulDelta x.setting x.past (entry_of x) → Contains (sessions x.setting x.past) s → is_joined x.past s ≡ true
    → list_any (unregisters s.lockspace) x.effects.moves ≡ true → FreeTold x s → (c : Submitted) × (answer : Answer) × (free_write (calls_of (seen x) s) ≡ Some c) × IsAnsweredAt (length x.past) c answer
free_parts x s calls follows law there joined gone f = (k, f.answer, free, answered) where
  mine : Submitted → Bool
  mine d = is_call_of s d && is_free_purpose d.call.purpose

  k : Submitted
  k = answered_in x.past (entry_of x) f.number f.answer f.call

  marked : mark x.past (entry_of x) x.input (submitted x.past) ≡ map (answered_in x.past (entry_of x) f.number f.answer) (submitted x.past)
  marked = ap (λ i. mark x.past (entry_of x) i (submitted x.past)) f.told

  found : find (λ (d : Submitted). is_call_of s d && is_free_purpose d.call.purpose) (submitted (seen x)) ≡ Some (answered_in x.past (entry_of x) f.number f.answer f.call)
  found =
      find_skips (λ (d : Submitted). is_call_of s d && is_free_purpose d.call.purpose) x.reading (length x.past) x.effects.calls (mark x.past (entry_of x) x.input (submitted x.past)) (λ c inside. no_new_free x s law there joined gone c inside)
      ∙ (ap (λ ms. find (λ (d : Submitted). is_call_of s d && is_free_purpose d.call.purpose) ms) marked
      ∙ (find_mapped (λ (d : Submitted). is_call_of s d && is_free_purpose d.call.purpose) (answered_in x.past (entry_of x) f.number f.answer) (submitted x.past)
      (λ d. ap (λ (c : Call). (c.session == s.number) && is_free_purpose c.purpose) (same_answered x.past (entry_of x) f.number f.answer d).call)
      ∙ ap (λ o. option_map (answered_in x.past (entry_of x) f.number f.answer) o) f.free))

  free : free_write (calls_of (seen x) s) ≡ Some (answered_in x.past (entry_of x) f.number f.answer f.call)
  free = find_kept (is_call_of s) (λ (d : Submitted). is_free_purpose d.call.purpose) (submitted (seen x)) ∙ found

  now : (d : Submitted) → Contains (submitted x.past) d → Contains (submitted (seen x)) (answered_in x.past (entry_of x) f.number f.answer d)
  now d inside =
      old_stays (length x.past) x.reading x.effects.calls (mark x.past (entry_of x) x.input (submitted x.past)) (answered_in x.past (entry_of x) f.number f.answer d)
      (subst (λ ms. Contains ms (answered_in x.past (entry_of x) f.number f.answer d)) (sym marked) (contains_map (answered_in x.past (entry_of x) f.number f.answer) (submitted x.past) d inside))

  numbered : (d : Submitted) → d.call.number ≡ f.number → Contains (submitted x.past) d → call_numbered (seen x) f.number ≡ Some (answered_in x.past (entry_of x) f.number f.answer d)
  numbered d number inside =
      subst (λ n. call_numbered (seen x) n ≡ Some (answered_in x.past (entry_of x) f.number f.answer d)) (ap (λ (c : Call). c.number) (same_answered x.past (entry_of x) f.number f.answer d).call ∙ number)
      (calls.found (answered_in x.past (entry_of x) f.number f.answer d) (now d inside))

  opened : (d : Submitted) → (b : Bool) → (d.call.number == f.number) ≡ b → b ≡ true → d.answer ≡ None → IsAnsweredAt (length x.past) (answered_in x.past (entry_of x) f.number f.answer d) f.answer
  opened d true same yes_it none = (
    answer_of x.past (entry_of x) f.answer d.call,
    ap (λ b. (elim b as (λ z. Submitted) [ false ↦ d | true ↦ record d { answer = option_or d.answer (Some (answer_of x.past (entry_of x) f.answer d.call)) } ]).answer) same ∙ ap (λ o. option_or o (Some (answer_of x.past (entry_of x) f.answer d.call))) none,
    refl,
    refl,
  )
  opened d false same yes_it none = absurd (false_is_true yes_it)

  answered : IsAnsweredAt (length x.past) (answered_in x.past (entry_of x) f.number f.answer f.call) f.answer
  answered =
      let expected : IsTrue (is_expected x.setting x.past (Told f.number f.answer)) = subst (λ i. IsTrue (is_expected x.setting x.past i)) f.told follows.expected in
      let open_one = any_found (λ (d : Submitted). d.call.number == f.number && is_answer_for x.setting f.answer d.call.op) (outstanding x.past) expected in
      let d : Submitted = open_one.0 in
      let its = and_true (d.call.number == f.number) (is_answer_for x.setting f.answer d.call.op) open_one.2 in
      let inside = kept_inside (λ (z : Submitted). is_none z.answer) (submitted x.past) d open_one.1 in
      let first : IsAnsweredAt (length x.past) (answered_in x.past (entry_of x) f.number f.answer d) f.answer = opened d (d.call.number == f.number) refl its.0 (none_is d.answer inside.1) in
      let here = find_inside (λ (z : Submitted). is_call_of s z && is_free_purpose z.call.purpose) (submitted x.past) f.call f.free in
      let one : answered_in x.past (entry_of x) f.number f.answer d ≡ answered_in x.past (entry_of x) f.number f.answer f.call =
      one_value (answered_in x.past (entry_of x) f.number f.answer d) (answered_in x.past (entry_of x) f.number f.answer f.call) (call_numbered (seen x) f.number)
      (numbered d (eqb-true d.call.number f.number its.0) inside.0) (numbered f.call f.its here.0)
      in
      subst (λ z. IsAnsweredAt (length x.past) z f.answer) one first

-- ---- the law

pub parting_is_lawful : (x : Step) → CallFacts x.setting (seen x) → FollowsTrace x.setting x.past (entry_of x) → LawfulArea x.setting x.past (entry_of x) → LawfulDelta x.setting x.past (entry_of x)
    → LawfulWatchdog x.setting x.past (entry_of x) → Partings x → LawfulParting x.setting x.past (entry_of x)
parting_is_lawful x calls follows area deltas watchdog partings =
    record {
      quiet = λ k c s at its recovering.
          let both = is_recovering_parts x.setting (cut_at k (entry_of x) ∷ x.past) s recovering in quiet_by x.setting (cut_at k (entry_of x) ∷ x.past) s (new_call (length x.past) x.reading c) both.1 (kind k c s at its both.0);
      few = λ k c s at its leaving writes.
          let both = and_true (is_joined (cut_at k (entry_of x) ∷ x.past) s) (is_some (leaving_job x.setting (cut_at k (entry_of x) ∷ x.past) s)) leaving in
          few_by x.setting (cut_at k (entry_of x) ∷ x.past) s (new_call (length x.past) x.reading c) both.1 writes (kind k c s at its both.0);
      parts_well = λ s there joined gone. parts s there joined (removed_if (entry_of x) x.past s joined gone);
    } where
      kind : (k : ℕ) (c : Call) (s : Session) → slice_get x.effects.calls k ≡ Some c → session_numbered x.setting (seen x) c.session ≡ Some s → is_joined (cut_at k (entry_of x) ∷ x.past) s ≡ true
          → CallKind x.setting (cut_at k (entry_of x) ∷ x.past) s (new_call (length x.past) x.reading c)
      kind k c s at its joined =
          call_kind x.setting (cut_at k (entry_of x) ∷ x.past) s (new_call (length x.past) x.reading c) c.purpose refl joined (deltas.calls k c s at its) (area.active k c s at its) (λ r is other. (area.writes k c s at its r is other).0)

      parts : (s : Session) → Contains (sessions x.setting x.past) s → is_joined x.past s ≡ true → list_any (unregisters s.lockspace) x.effects.moves ≡ true → MayPart x.setting x.past (entry_of x) s
      parts s there joined moved = by (partings s there joined moved) where
        by : PartsWell x s → MayPart x.setting x.past (entry_of x) s
        by (inl some_one) = let clear = watchdog.removals s there (joined_present x.past s joined) moved in inl (some_one, clear.0, clear.1)
        by (inr f) = inr (free_parts x s calls follows deltas there joined moved f)
