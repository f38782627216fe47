-- What a call of the entry keeps of the law of delta sectors stays, where its session stays as it was: over an end, a reply, a move, a
-- signal and a removal. A recovering session has made no such call.
use Rattle.sl_due_facts.proofs.Connections.DecidedDeltasAreKept.{plain_kept}
use Rattle.sl_due_facts.proofs.Acts.AddedAtEnd.{any_stays}
use Rattle.sl_due_facts.proofs.Acts.LoopsKeep.{when_keeps}
use Rattle.sl_due_facts.specs.Acts.Acts.{Has}
use Rattle.sl_due_facts.specs.Acts.TraceSoFar.{entry_of}
use Rattle.sl_area.specs.AreaSizes.{sector_with}
use Rattle.sl_due.specs.DueCommands.{decided}
use Rattle.sl_due.specs.DueTimeOuts.{remove_connection}
use Rattle.sl_due.specs.Steps.{Step, add_end, add_move, add_reply, add_signal, seen}
use Rattle.sl_due_facts.proofs.Jobs.CallsStay.{IsLate, calls_stay}
use Rattle.sl_due_facts.proofs.Jobs.JobsAreNumbered.{finds_none}
use Rattle.sl_due_facts.proofs.Jobs.SessionsArePresent.{joined_present, present_is}
use Rattle.sl_due_facts.proofs.Jobs.SessionsStand.{no_members}
use Rattle.sl_run.specs.LawfulDelta.{Gave, IsRegistering, LawfulDeltaCall, LawfulJoinStep, WatchOver}
use Rattle.sl_run.specs.LawForms.{cut_at, older}
use Rattle.sl_words.proofs.Lists.{contains_none, got_inside, kept, kept_inside}
use Rattle.sl_sector.specs.Bitmaps.{no_bits}
use Rattle.sl_sector.specs.declared.sector.DeltaRec.{DeltaRec}
use Rattle.sl_sector.specs.declared.sector.DeltaState.TheVariants.{Free, Live}
use Rattle.sl_sector.specs.declared.sector.Rec.TheVariants.{DeltaIs}
use Rattle.sl_due_facts.proofs.Connections.ConnectionEffects.{move_same, removes_own, reply_same}
use Rattle.sl_due_facts.proofs.Connections.ConnectionFactsAreKept.{alone_joined}
use Rattle.sl_due_facts.proofs.Connections.SessionParts.{SameSession}
use Rattle.sl_due_facts.specs.Connections.DeltasSoFar.{CallsKept, DeltaKept}
use Rattle.sl_due_facts.proofs.Sessions.HoldingsOfSessions.{end_held, held_itself}
use Rattle.sl_due_facts.proofs.Sessions.NameEffects.{move_present, reply_present}
use Rattle.sl_trace.specs.DeltaDecisions.{claim_of, delta_of_session, delta_record, watched}
use Rattle.sl_trace.specs.Sessions.{calls_of, delta_written, free_write, generation_in, holdings_of, is_delta_purpose, is_join_call, is_joined, is_present, is_survey_purpose, join_call, joined_after, leaves, leaving_in, leaving_job, present_sessions, recovery_of, refused_after, removed_after, seq_in, session_named, session_numbered, sessions, stage_in, stage_of}
use Rattle.sl_trace.specs.declared.session.Session.{Session}
use Rattle.sl_trace.specs.declared.stage.Stage.TheVariants.{Deciding, Ended, Freeing, Looking, Refused, Standing, Verifying, Waiting}
use Rattle.sl_trace.specs.declared.stage.Stage.{Stage}
use Rattle.sl_due_facts.specs.Facts.AllFacts.{Whole}
use Rattle.sl_time.specs.Times.{fail}
use Rattle.sl_trace.specs.WatchdogConnections.{is_registered, registers_with, unregisters}
use Rattle.sl_trace.specs.Traces.{Job, Setting, Submitted, Trace, holdings, line_in, new_call, next_job, unanswered}
use Rattle.sl_trace.specs.declared.effects.Call.{Call}
use Rattle.sl_trace.specs.declared.effects.Effects.{Effects}
use Rattle.sl_trace.specs.declared.effects.End.{End}
use Rattle.sl_trace.specs.declared.effects.Entry.{Entry}
use Rattle.sl_trace.specs.declared.effects.Grant.{Grant}
use Rattle.sl_trace.specs.declared.effects.JobReply.{JobReply}
use Rattle.sl_trace.specs.declared.effects.JoinStep.TheVariants.{ClaimWrite, DecidingRead, FirstRead, FirstRenewal, VerifyRead, WatchRead}
use Rattle.sl_trace.specs.declared.effects.JoinStep.{JoinStep}
use Rattle.sl_trace.specs.declared.effects.Move.TheVariants.{Unregister}
use Rattle.sl_trace.specs.declared.effects.Move.{Move}
use Rattle.sl_trace.specs.declared.effects.Purpose.TheVariants.{Joining, Lease, Leaving, Renewal, RequestRead, RequestWrite, SeeRequest, Survey, ValueRead, ValueWrite}
use Rattle.sl_trace.specs.declared.effects.Purpose.{Purpose}
use Rattle.sl_trace.specs.declared.effects.Signal.{Signal}
use Rattle.sl_trace.specs.declared.reply.Reply.{Reply}
use Rattle.sl_run_law.proofs.Sessions.SessionNames.{absent}
use Rattle.sl_run_law.proofs.Sessions.MarksStay.{joined_more}
use Rattle.sl_words.proofs.CaseLaws.{false_is_true, is_false, not_both, true_is_false}
use Rattle.sl_words.specs.Words.{choose}
use Rattle.std.proofs.Common.{ap, ap₂, arith, inl, inr, refl, subst, sym, ◌∙◌}
use Rattle.std.proofs.lemmas.Bool.{eqb-true}
use Rattle.std.proofs.lemmas.Slice.Eq.{bytes_eq-Decides}
use Rattle.std.specs.List.{list_any}
use Rattle.std.specs.Prelude.{Bool, Contains, List, None, Option, Some, [], bytes_eq, false, is_none, is_some, length, not, slice_get, suc, take, true, ℕ, ◌&&◌, ◌++◌, ◌+◌, ◌==◌, ◌∷◌, ◌≡◌, ◌⊎◌}
use Rattle.sl_due_facts.proofs.Jobs.EffectsAreAllowed.{delta}

-- ---- what a call keeps to stays, where its session stays as it was

record AsBefore (st : Setting) (t u : Trace) (z : Session) : Type 0 where
  pub same : SameSession t u z
  pub unnamed : session_named st t z.lockspace ≡ None → session_named st u z.lockspace ≡ None
  pub recovery : recovery_of st u z ≡ recovery_of st t z
  pub leaving : leaving_job st u z ≡ leaving_job st t z
  pub empty : holdings_of t z ≡ [] → holdings_of u z ≡ []
  pub registering : (c : Submitted) → IsRegistering st t z c → IsRegistering st u z c
  pub unregistered : is_registered st (older u) z.lockspace ≡ is_registered st (older t) z.lockspace

stage_from : Option ℕ → Option ℕ → Option ℕ → List Submitted → Stage
stage_from joined removed refused ms =
    elim joined [
      | Some k ↦ elim removed [ Some i ↦ Ended | None ↦ elim (free_write ms) [ Some m ↦ Freeing | None ↦ Standing ] ]
      | None ↦ elim refused [ Some k ↦ Refused | None ↦ stage_in ms ]
    ]

stage_same : (t u : Trace) (z : Session) → SameSession t u z → stage_of u z ≡ stage_of t z
unfolding stage_from
stage_same t u z h =
    ap (λ o. stage_from o (removed_after u z) (refused_after u z) (calls_of u z)) h.joined
    ∙ (ap (λ o. stage_from (joined_after t z) o (refused_after u z) (calls_of u z)) h.removed
    ∙ (ap (λ o. stage_from (joined_after t z) (removed_after t z) o (calls_of u z)) h.refused ∙ ap (λ ms. stage_from (joined_after t z) (removed_after t z) (refused_after t z) ms) h.calls))

gave_then : (t u : Trace) (z : Session) (step : JoinStep) (b : List ℕ) (r : Submitted) → calls_of u z ≡ calls_of t z → Gave t z step b r → Gave u z step b r
gave_then t u z step b r same g = (subst (λ ms. Contains ms r) (sym same) g.0, g.1, g.2)

over_then : (st : Setting) (t u : Trace) (z : Session) (b : List ℕ) (first : Submitted) (found : DeltaRec) → calls_of u z ≡ calls_of t z → WatchOver st t z b first found → WatchOver st u z b first found
over_then st t u z b first found same (inl free) = inl free
over_then st t u z b first found same (inr w) = inr (w.0, w.1, w.2, gave_then t u z WatchRead b w.0 same w.3, w.4)

step_then : (st : Setting) (t u : Trace) (z : Session) (c : Submitted) (step : JoinStep) → AsBefore st t u z → LawfulJoinStep st t z c step → LawfulJoinStep st u z c step
step_then st t u z c FirstRead b l = record { reads = l.reads; placed = l.placed; apart = b.unnamed l.apart }
step_then st t u z c WatchRead b l = record { reads = l.reads; looking = stage_same t u z b.same ∙ l.looking }
step_then st t u z c DecidingRead b l =
    record {
      reads = l.reads;
      looking = stage_same t u z b.same ∙ l.looking;
      bytes = l.bytes;
      first = l.first;
      found = l.found;
      given = gave_then t u z FirstRead l.bytes l.first b.same.calls l.given;
      spelled = l.spelled;
      same = λ r d g. l.same r d (gave_then u t z WatchRead d r (sym b.same.calls) g);
      watched = over_then st t u z l.bytes l.first l.found b.same.calls l.watched;
      registered = b.registering c l.registered;
    }
step_then st t u z c ClaimWrite b l =
    record {
      deciding = stage_same t u z b.same ∙ l.deciding;
      bytes = l.bytes;
      first = l.first;
      read = l.read;
      found = l.found;
      watched = gave_then t u z FirstRead l.bytes l.first b.same.calls l.watched;
      decided = gave_then t u z DecidingRead l.bytes l.read b.same.calls l.decided;
      spelled = l.spelled;
      written = l.written;
    }
step_then st t u z c VerifyRead b l =
    record {
      reads = l.reads;
      waiting = stage_same t u z b.same ∙ l.waiting;
      claim = l.claim;
      answer = l.answer;
      claimed = ap (λ ms. join_call ms ClaimWrite) b.same.calls ∙ l.claimed;
      answered = l.answered;
      unregistered = b.unregistered ∙ l.unregistered;
      waited = l.waited;
      in_time = l.in_time;
      registered = b.registering c l.registered;
    }
step_then st t u z c FirstRenewal b l =
    record {
      verifying = stage_same t u z b.same ∙ l.verifying;
      claim = l.claim;
      read = l.read;
      claimed = ap (λ ms. claim_of ms) b.same.calls ∙ l.claimed;
      verified = gave_then t u z VerifyRead (sector_with st.layout (DeltaIs l.claim)) l.read b.same.calls l.verified;
      written = l.written;
    }

delta_then : (st : Setting) (t u : Trace) (z : Session) (c : Submitted) (p : Purpose) → AsBefore st t u z → LawfulDeltaCall st t z c p → LawfulDeltaCall st u z c p
delta_then st t u z c (Joining j step) b l = step_then st t u z c step b l
delta_then st t u z c Renewal b l =
    record {
      standing = stage_same t u z b.same ∙ l.standing;
      well = b.recovery ∙ l.well;
      bitmap = l.bitmap;
      written = l.written ∙ ap (λ ms. Some (delta_record (delta_of_session st z) Live (generation_in z ms) (seq_in z ms + 1) c.reading l.bitmap)) (sym b.same.calls);
    }
delta_then st t u z c Survey b l = record { standing = stage_same t u z b.same ∙ l.standing; whole = l.whole }
delta_then st t u z c (Leaving j) b l =
    record {
      standing = stage_same t u z b.same ∙ l.standing;
      leaving = ap (λ o. is_some o && is_none (removed_after u z) && is_some (leaving_job st u z)) b.same.joined
          ∙ (ap (λ o. is_some (joined_after t z) && is_none o && is_some (leaving_job st u z)) b.same.removed ∙ (ap (λ o. is_some (joined_after t z) && is_none (removed_after t z) && is_some o) b.leaving ∙ l.leaving));
      well = b.recovery ∙ l.well;
      no_holding = b.empty l.no_holding;
      no_call = ap (λ ms. unanswered ms) b.same.calls ∙ l.no_call;
      written = l.written ∙ ap (λ ms. Some (delta_record (delta_of_session st z) Free (generation_in z ms) (seq_in z ms + 1) c.reading no_bits)) (sym b.same.calls);
    }
delta_then st t u z c (Lease work step) b l = l
delta_then st t u z c (RequestRead j) b l = l
delta_then st t u z c (RequestWrite j owner) b l = l
delta_then st t u z c SeeRequest b l = l
delta_then st t u z c (ValueWrite j) b l = l
delta_then st t u z c (ValueRead j) b l = l

kept_then : (st : Setting) (t u : Trace) (z : Session) (c : Submitted) → AsBefore st t u z → DeltaKept st t z c → DeltaKept st u z c
kept_then st t u z c b k =
    record {
      delta = delta_then st t u z c c.call.purpose b k.delta;
      placed = k.placed;
      alone = λ is. ap (λ ms. list_any (λ (m : Submitted). is_delta_purpose m.call.purpose) (unanswered ms)) b.same.calls ∙ k.alone is;
      well = λ is. b.recovery ∙ k.well is;
      early = λ is. b.same.joined ∙ k.early is;
    }

-- A call on no delta sector keeps to it whatever happens.
plain_written : (st : Setting) (t : Trace) (s : Session) (c : Submitted) (p : Purpose) → is_delta_purpose p ≡ false → LawfulDeltaCall st t s c p → delta_written c ≡ None
plain_written st t s c (Joining j step) other l = absurd (true_is_false other)
plain_written st t s c Renewal other l = absurd (true_is_false other)
plain_written st t s c Survey other l = absurd (true_is_false other)
plain_written st t s c (Leaving j) other l = absurd (true_is_false other)
plain_written st t s c (Lease work step) other l = l
plain_written st t s c (RequestRead j) other l = l
plain_written st t s c (RequestWrite j owner) other l = l
plain_written st t s c SeeRequest other l = l
plain_written st t s c (ValueWrite j) other l = l
plain_written st t s c (ValueRead j) other l = l

kept_or_plain : (st : Setting) (t u : Trace) (z : Session) (c : Submitted) → DeltaKept st t z c → (is_delta_purpose c.call.purpose ≡ true → AsBefore st t u z) → DeltaKept st u z c
kept_or_plain st t u z c k f = by (is_delta_purpose c.call.purpose) refl where
  by : (b : Bool) → is_delta_purpose c.call.purpose ≡ b → DeltaKept st u z c
  by true is = kept_then st t u z c (f is) k
  by false is = plain_kept st u z c (is, plain_written st t z c c.call.purpose is k.delta)

-- ---- by what

front : ℕ → Step → Step
front k x = let fx : Effects = x.effects in record x { effects = record fx { calls = take k fx.calls } }

unnamed_less : (st : Setting) (t u : Trace) (name : List ℕ) → sessions st u ≡ sessions st t → ((q : Session) → is_present u q ≡ true → is_present t q ≡ true) → session_named st t name ≡ None → session_named st u name ≡ None
unnamed_less st t u name all less none =
    finds_none (λ (s : Session). bytes_eq s.lockspace name) (present_sessions st u) (λ s there.
    let is = present_is st u s there in
    is_false (bytes_eq s.lockspace name) (λ same. absent st t name s (subst (λ ss. Contains ss s) all is.0) ((bytes_eq-Decides s.lockspace name).0 same) none (less s is.1)))

moved_before : (y : Step) (m : Move) (z : Session) → removed_after (seen (add_move m y)) z ≡ removed_after (seen y) z → AsBefore y.setting (seen y) (seen (add_move m y)) z
moved_before y m z removed =
    record {
      same = record { joined = refl; removed = removed; refused = refl; calls = refl };
      unnamed = unnamed_less y.setting (seen y) (seen (add_move m y)) z.lockspace refl (λ q is. move_present y m q is);
      recovery = refl;
      leaving = refl;
      empty = λ none. none;
      registering = λ c is. any_stays (registers_with z.lockspace (c.reading + fail y.setting.timing)) y.effects.moves m is;
      unregistered = refl;
    }

ended_before : (y : Step) (e : End) (z : Session) → AsBefore y.setting (seen y) (seen (add_end e y)) z
ended_before y e z =
    record {
      same = record { joined = refl; removed = refl; refused = refl; calls = refl };
      unnamed = λ none. none;
      recovery = refl;
      leaving = refl;
      empty = λ none. no_members (holdings_of (seen (add_end e y)) z) (λ g there. held none g (kept_inside (λ (h : Grant). h.session == z.number) (holdings (seen (add_end e y))) g there));
      registering = λ c is. is;
      unregistered = refl;
    } where
      held : holdings_of (seen y) z ≡ [] → (g : Grant) → Contains (holdings (seen (add_end e y))) g × ((g.session == z.number) ≡ true) → ⊥
      held none g its = by (end_held y (suc z.number) y e (held_itself y (suc z.number)) g its.0) where
        by : ((h : Grant) × Contains (holdings (seen y)) h × (h.session ≡ g.session)) ⊎ (g.session ≡ suc z.number) → ⊥
        by (inl h) = contains_none h.0 (subst (λ gs. Contains gs h.0) none (kept (λ (k : Grant). k.session == z.number) (holdings (seen y)) h.0 (ap (λ n. n == z.number) h.2 ∙ its.1) h.1))
        by (inr new) = let is : g.session ≡ z.number = eqb-true g.session z.number its.1 in omega (arith, is, new)

quiet_leaving : (st : Setting) (es : Trace) (s : Session) (e : Entry) → line_in e.input ≡ None → leaving_in st es s e ≡ None
quiet_leaving st es s e none =
    ap (λ o. elim o as (λ z. Option Job) [
      | None ↦ None
      | Some text ↦ elim (leaves s (st.read text)) as (λ z. Option Job) [
        | false ↦ None
        | true ↦ choose (is_joined es s && not (list_any (λ (a : JobReply). a.job == next_job st es) e.effects.replies)) (record { number = next_job st es; at = length es; reading = e.reading; command = st.read text })
      ]
    ]) none

leaving_then : (y : Step) (j : ℕ) (r : Reply) (z : Session) → line_in y.input ≡ None → leaving_job y.setting (seen (add_reply j r y)) z ≡ leaving_job y.setting (seen y) z
leaving_then y j r z none =
    ap (λ o. elim (leaving_job y.setting y.past z) as (λ q. Option Job) [ Some k ↦ Some k | None ↦ o ])
    (quiet_leaving y.setting y.past z (entry_of (add_reply j r y)) none ∙ sym (quiet_leaving y.setting y.past z (entry_of y) none))

replied_before : (y : Step) (j : ℕ) (r : Reply) (z : Session) → IsLate y r → line_in y.input ≡ None → (z.job ≡ Some j → ⊥) → AsBefore y.setting (seen y) (seen (add_reply j r y)) z
replied_before y j r z after none other =
    record {
      same = reply_same y j r z after other;
      unnamed = unnamed_less y.setting (seen y) (seen (add_reply j r y)) z.lockspace refl (λ q is. reply_present y j r q (calls_stay y j r after) is);
      recovery = refl;
      leaving = leaving_then y j r z none;
      empty = λ is. is;
      registering = λ c is. is;
      unregistered = refl;
    }

-- ---- and so of all calls

pub carry_end : (x : Step) (e : End) → CallsKept x → CallsKept (add_end e x)
unfolding front
carry_end x e h k c z at its = kept_then x.setting (seen (front k x)) (seen (add_end e (front k x))) z (new_call (length x.past) x.reading c) (ended_before (front k x) e z) (h k c z at its)

pub carry_reply : (x : Step) (j : ℕ) (r : Reply) → IsLate x r → line_in x.input ≡ None
    → ((k : ℕ) (c : Call) (z : Session) → slice_get x.effects.calls k ≡ Some c → session_numbered x.setting (seen x) c.session ≡ Some z → is_delta_purpose c.purpose ≡ true → z.job ≡ Some j → ⊥) → CallsKept x → CallsKept (add_reply j r x)
unfolding front
carry_reply x j r after none other h k c z at its =
    kept_or_plain x.setting (seen (front k x)) (seen (add_reply j r (front k x))) z (new_call (length x.past) x.reading c) (h k c z at its) (λ is. replied_before (front k x) j r z after none (λ also. other k c z at its is also))

pub carry_move : (x : Step) (m : Move)
    → ((k : ℕ) (c : Call) (z : Session) → slice_get x.effects.calls k ≡ Some c → session_numbered x.setting (seen x) c.session ≡ Some z → is_delta_purpose c.purpose ≡ true → removed_after (seen (add_move m x)) z ≡ removed_after (seen x) z)
    → CallsKept x → CallsKept (add_move m x)
unfolding front
carry_move x m same h k c z at its =
    kept_or_plain x.setting (seen (front k x)) (seen (add_move m (front k x))) z (new_call (length x.past) x.reading c) (h k c z at its) (λ is. moved_before (front k x) m z (same k c z at its is))

pub carry_signal : (x : Step) (q : ℕ) (signal : Signal) → CallsKept x → CallsKept (add_signal q signal x)
unfolding front
carry_signal x q signal h k c z at its =
    kept_then x.setting (seen (front k x)) (seen (add_signal q signal (front k x))) z (new_call (length x.past) x.reading c)
    (record { same = record { joined = refl; removed = refl; refused = refl; calls = refl }; unnamed = λ none. none; recovery = refl; leaving = refl; empty = λ none. none; registering = λ d is. is; unregistered = refl }) (h k c z at its)

-- A connection is removed of a name of which nobody that is joined has called.
removed_stays : (y : Step) (m : Move) (z : Session) → is_joined (seen y) z ≡ false → removed_after (seen (add_move m y)) z ≡ removed_after (seen y) z
removed_stays y m z unjoined = by (removed_after y.past z) refl (joined_after y.past z) refl where
  now : List Move → Bool → Option ℕ → Option ℕ
  now moves joined before = elim before [ Some k ↦ Some k | None ↦ choose (joined && list_any (unregisters z.lockspace) moves) (length y.past + 1) ]

  by : (o : Option ℕ) → removed_after y.past z ≡ o → (q : Option ℕ) → joined_after y.past z ≡ q → removed_after (seen (add_move m y)) z ≡ removed_after (seen y) z
  by o before q was = ends o before q was (list_any (unregisters z.lockspace) y.effects.moves) refl where
    ends : (o : Option ℕ) → removed_after y.past z ≡ o → (q : Option ℕ) → joined_after y.past z ≡ q → (b : Bool) → list_any (unregisters z.lockspace) y.effects.moves ≡ b → removed_after (seen (add_move m y)) z ≡ removed_after (seen y) z
    ends (Some k) before q was b any =
        ap (λ p. elim p as (λ x. Option ℕ) [ Some i ↦ Some i | None ↦ choose (is_some (joined_after y.past z) && list_any (unregisters z.lockspace) (y.effects.moves ++ m ∷ [])) (length y.past + 1) ]) before
        ∙ sym (ap (λ p. elim p as (λ x. Option ℕ) [ Some i ↦ Some i | None ↦ choose (is_some (joined_after y.past z) && list_any (unregisters z.lockspace) y.effects.moves) (length y.past + 1) ]) before)
    ends None before None was b any =
        ap (λ (p : Option ℕ). elim (removed_after y.past z) as (λ x. Option ℕ) [ Some i ↦ Some i | None ↦ choose (is_some p && list_any (unregisters z.lockspace) (y.effects.moves ++ m ∷ [])) (length y.past + 1) ]) was
        ∙ sym (ap (λ (p : Option ℕ). elim (removed_after y.past z) as (λ x. Option ℕ) [ Some i ↦ Some i | None ↦ choose (is_some p && list_any (unregisters z.lockspace) y.effects.moves) (length y.past + 1) ]) was)
    ends None before (Some i) was true any =
        ap (λ (p : Bool). elim (removed_after y.past z) as (λ x. Option ℕ) [ Some k ↦ Some k | None ↦ choose (is_some (joined_after y.past z) && p) (length y.past + 1) ])
        (any_stays (unregisters z.lockspace) y.effects.moves m any ∙ sym any)
    ends None before (Some i) was false any =
        let joined : joined_after (seen y) z ≡ Some i = joined_more (entry_of y) y.past z i was in
        let stays : removed_after (seen y) z ≡ None =
        ap (λ p. elim p as (λ x. Option ℕ) [ Some k ↦ Some k | None ↦ choose (is_some (joined_after y.past z) && list_any (unregisters z.lockspace) y.effects.moves) (length y.past + 1) ]) before
        ∙ (ap (λ (p : Option ℕ). choose (is_some p && list_any (unregisters z.lockspace) y.effects.moves) (length y.past + 1)) was ∙ ap (λ (p : Bool). choose p (length y.past + 1)) any)
        in
        absurd (not_both (is_joined (seen y) z) (ap₂ (λ (p q : Option ℕ). is_some p && is_none q) joined stays) unjoined)

pub carry_removal : (y : Step) (name : List ℕ)
    → ((k : ℕ) (c : Call) (z : Session) → slice_get y.effects.calls k ≡ Some c → session_numbered y.setting (seen y) c.session ≡ Some z → is_delta_purpose c.purpose ≡ true → z.lockspace ≡ name → is_joined (seen y) z ≡ true → ⊥)
    → CallsKept y → CallsKept (remove_connection name y)
carry_removal y name none h = when_keeps CallsKept (is_registered y.setting (seen y) name) (add_move (Unregister name)) y (λ is k. carry_move y (Unregister name) (λ i c z at its delta. by i c z at its delta (bytes_eq z.lockspace name) refl) k) h where
  by : (k : ℕ) (c : Call) (z : Session) → slice_get y.effects.calls k ≡ Some c → session_numbered y.setting (seen y) c.session ≡ Some z → is_delta_purpose c.purpose ≡ true → (b : Bool) → bytes_eq z.lockspace name ≡ b
      → removed_after (seen (add_move (Unregister name) y)) z ≡ removed_after (seen y) z
  by k c z at its delta false away = (move_same y (Unregister name) z ((removes_own name).removes z.lockspace away)).removed
  by k c z at its delta true same = removed_stays y (Unregister name) z (is_false (is_joined (seen y) z) (λ joined. none k c z at its delta ((bytes_eq-Decides z.lockspace name).0 same) joined))

-- ---- a recovering session has made no such call

is_stood : Stage → Bool
is_stood Standing = true
is_stood Freeing = true
is_stood stage = false

stood : (t : Trace) (s : Session) → is_joined t s ≡ true → is_stood (stage_of t s) ≡ true
unfolding is_stood
stood t s is = by (joined_after t s) (removed_after t s) (free_write (calls_of t s)) is where
  by : (j r : Option ℕ) (f : Option Submitted) → (is_some j && is_none r) ≡ true
      → is_stood (elim j as (λ z. Stage) [
        | Some k ↦ elim r as (λ z. Stage) [ Some i ↦ Ended | None ↦ elim f as (λ z. Stage) [ Some m ↦ Freeing | None ↦ Standing ] ]
        | None ↦ elim (refused_after t s) as (λ z. Stage) [ Some k ↦ Refused | None ↦ stage_in (calls_of t s) ]
      ]) ≡ true
  by (Some k) None (Some m) h = refl
  by (Some k) None None h = refl
  by (Some k) (Some i) f h = absurd (false_is_true h)
  by None r f h = absurd (false_is_true h)

not_at : (t : Trace) (s : Session) (g : Stage) → is_joined t s ≡ true → stage_of t s ≡ g → is_stood g ≡ false → ⊥
not_at t s g joined is other = not_both (is_stood g) (sym (ap (λ q. is_stood q) is) ∙ stood t s joined) other

recovering_calls : (st : Setting) (t : Trace) (s : Session) (c : Submitted) (p : Purpose) → c.call.purpose ≡ p → is_joined t s ≡ true → is_some (recovery_of st t s) ≡ true → DeltaKept st t s c → LawfulDeltaCall st t s c p → is_delta_purpose p ≡ true → ⊥
unfolding is_stood
recovering_calls st t s c (Joining j FirstRead) is joined ill k l delta =
    false_is_true (ap (λ o. is_some o && is_none (removed_after t s)) (sym (k.early (ap (λ p. is_join_call FirstRead p) is))) ∙ joined)
recovering_calls st t s c (Joining j WatchRead) is joined ill k l delta = not_at t s Looking joined l.looking refl
recovering_calls st t s c (Joining j DecidingRead) is joined ill k l delta = not_at t s Looking joined l.looking refl
recovering_calls st t s c (Joining j ClaimWrite) is joined ill k l delta = not_at t s Deciding joined l.deciding refl
recovering_calls st t s c (Joining j VerifyRead) is joined ill k l delta = not_at t s Waiting joined l.waiting refl
recovering_calls st t s c (Joining j FirstRenewal) is joined ill k l delta = not_at t s Verifying joined l.verifying refl
recovering_calls st t s c Renewal is joined ill k l delta = false_is_true (ap (λ o. is_some o) (sym l.well) ∙ ill)
recovering_calls st t s c (Leaving j) is joined ill k l delta = false_is_true (ap (λ o. is_some o) (sym l.well) ∙ ill)
recovering_calls st t s c Survey is joined ill k l delta = false_is_true (ap (λ o. is_some o) (sym (k.well (ap (λ p. is_survey_purpose p) is))) ∙ ill)
recovering_calls st t s c (Lease work step) is joined ill k l delta = false_is_true delta
recovering_calls st t s c (RequestRead j) is joined ill k l delta = false_is_true delta
recovering_calls st t s c (RequestWrite j owner) is joined ill k l delta = false_is_true delta
recovering_calls st t s c SeeRequest is joined ill k l delta = false_is_true delta
recovering_calls st t s c (ValueWrite j) is joined ill k l delta = false_is_true delta
recovering_calls st t s c (ValueRead j) is joined ill k l delta = false_is_true delta

pub parts_calls : (x : Step) (s : Session) → Has x s → is_joined (seen x) s ≡ true → is_some (recovery_of x.setting (seen x) s) ≡ true → Whole x → CallsKept x → CallsKept (remove_connection s.lockspace x)
parts_calls x s has joined ill w h =
    carry_removal x s.lockspace (λ k c z at its delta same now.
    let one : z ≡ s = alone_joined x s w.facts.names has joined z (got_inside (sessions x.setting (seen x)) c.session z its) (joined_present (seen x) z now) same in
    let kept_one : DeltaKept x.setting (cut_at k (entry_of x) ∷ x.past) s (new_call (length x.past) x.reading c) =
    subst (λ q. DeltaKept x.setting (cut_at k (entry_of x) ∷ x.past) q (new_call (length x.past) x.reading c)) one (h k c z at its)
    in
    recovering_calls x.setting (cut_at k (entry_of x) ∷ x.past) s (new_call (length x.past) x.reading c) c.purpose refl joined ill kept_one kept_one.delta delta) h
