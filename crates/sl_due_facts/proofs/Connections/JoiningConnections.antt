-- What is known of connections is kept where a joining is refused, and where its refusal's last write was answered.
use Rattle.sl_due_facts.proofs.Acts.InputsKeep.{has_heard}
use Rattle.sl_due_facts.specs.Acts.Acts.{Has, Hears}
use Rattle.sl_due_facts.specs.Acts.TraceSoFar.{SoFar, entry_of}
use Rattle.sl_due.specs.DueTimeOuts.{refuse, remove_connection, remove_of_refused}
use Rattle.sl_due.specs.Steps.{Step, add_move, add_reply, seen, when, with_input, with_some}
use Rattle.sl_due_facts.proofs.Jobs.CallsHaveFacts.{calls_before}
use Rattle.sl_due_facts.proofs.Jobs.CallsStay.{IsLate, calls_stay}
use Rattle.sl_due_facts.proofs.Jobs.JobsAreAllowed.{calls_heard}
use Rattle.sl_due_facts.proofs.Jobs.SessionsArePresent.{session_has}
use Rattle.sl_due_facts.proofs.Jobs.SessionsHaveJobs.{one_session}
use Rattle.sl_run.specs.LawfulConnections.{is_covered}
use Rattle.sl_due_facts.proofs.AddedEffects.EffectsAreTold.{effects_are_told}
use Rattle.sl_words.proofs.Lists.{any_found, contains_map, find_fails, find_inside, got_inside, kept, kept_inside}
use Rattle.sl_words.proofs.Numbers.{number_itself}
use Rattle.sl_words.proofs.Options.{none_is, some_there}
use Rattle.sl_due_facts.proofs.Connections.ConnectionEffects.{alters_move, alters_nothing, alters_reply, removal_connections, removed_away, removes_own, reply_connections}
use Rattle.sl_due_facts.proofs.Connections.ConnectionWalk.{alone_of}
use Rattle.sl_due_facts.proofs.Connections.ConnectionsChange.{Alters, IsAlone, altered_away, altered_still}
use Rattle.sl_due_facts.proofs.Connections.SessionParts.{at_work_is_present, covered_at_work, covered_refused, unjoined_not}
use Rattle.sl_due_facts.specs.Connections.ConnectionLaws.{HasConnectionFacts}
use Rattle.sl_due_facts.proofs.Sessions.NameActs.{running_unrefused}
use Rattle.sl_due_facts.proofs.Sessions.NameEffects.{refused_of}
use Rattle.sl_due_facts.proofs.Sessions.NamesAtEnd.{running_unjoined}
use Rattle.sl_trace.specs.Sessions.{calls_of, has_open_write, is_call_of, is_join_done, is_present, joined_after, open_calls_of, refused_after, removed_after, session_of_job, sessions}
use Rattle.sl_trace.specs.declared.session.Session.{Session}
use Rattle.sl_due_facts.specs.Facts.HeardCall.{IsOpen, heard_by}
use Rattle.sl_due_facts.specs.Facts.SessionFacts.{NameFacts}
use Rattle.sl_trace.specs.WatchdogConnections.{is_registered}
use Rattle.sl_trace.specs.Traces.{Replied, Submitted, answer_of, answered_in, is_running, is_write, reply_to, submitted, unanswered}
use Rattle.sl_trace.specs.declared.effects.Call.{Call}
use Rattle.sl_trace.specs.declared.effects.Move.TheVariants.{Unregister}
use Rattle.sl_trace.specs.declared.input.Answer.{Answer}
use Rattle.sl_trace.specs.declared.input.Input.TheVariants.{Wake}
use Rattle.sl_trace.specs.declared.reply.Reply.{Reply}
use Rattle.sl_run_law.proofs.Sessions.WritesAreCovered.{covered_in, joinings_are_in_turn}
use Rattle.sl_run_law.proofs.Sessions.CallsAreMade.{same_answered}
use Rattle.sl_run_law.proofs.Sessions.SessionNames.{same_name}
use Rattle.sl_run_law.proofs.Sessions.MarksStay.{refused_apart}
use Rattle.sl_run_law.specs.Sessions.SessionLaws.{is_in_turn}
use Rattle.sl_words.proofs.CaseLaws.{false_is_true, none_some, not_both}
use Rattle.sl_words.specs.Words.{choose, some_is}
use Rattle.std.proofs.Common.{ap, inl, inr, refl, subst, sym, ◌∙◌}
use Rattle.std.proofs.lemmas.Bool.{eqb-true}
use Rattle.std.specs.List.{list_any}
use Rattle.std.specs.Option.{option_or}
use Rattle.std.specs.Prelude.{Bool, Contains, None, Option, Some, bytes_eq, false, filter, is_none, is_some, length, map, not, option_and_then, true, ℕ, ◌&&◌, ◌+◌, ◌==◌, ◌||◌, ◌≡◌}

-- ---- a joining at work

pub record Working (x : Step) (s : Session) (j : ℕ) : Type 0 where
  pub has : Has x s
  pub its : s.job ≡ Some j
  pub runs : is_running (seen x) j ≡ true
  pub names : NameFacts x.setting (seen x) (heard_by x.input)
  pub orderly : SoFar x

pub working_inside : (x : Step) (s : Session) (j : ℕ) → Working x s j → Contains (sessions x.setting (seen x)) s
working_inside x s j w = got_inside (sessions x.setting (seen x)) s.number s w.has

pub working_unjoined : (x : Step) (s : Session) (j : ℕ) → Working x s j → joined_after (seen x) s ≡ None
working_unjoined x s j w = running_unjoined (seen x) s j w.its w.runs

pub working_unrefused : (x : Step) (s : Session) (j : ℕ) → Working x s j → refused_after (seen x) s ≡ None
working_unrefused x s j w = running_unrefused (seen x) s j w.its w.runs

pub working_present : (x : Step) (s : Session) (j : ℕ) → Working x s j → is_present (seen x) s ≡ true
working_present x s j w = at_work_is_present (seen x) s (working_unjoined x s j w) (working_unrefused x s j w)

pub working_alone : (x : Step) (s : Session) (j : ℕ) → Working x s j → IsAlone x.setting (seen x) s
working_alone x s j w = alone_of x s w.names (working_inside x s j w) (working_present x s j w)

pub working_turn : (x : Step) (s : Session) (j : ℕ) → Working x s j → is_in_turn (calls_of (seen x) s) ≡ true
working_turn x s j w = joinings_are_in_turn x.setting (seen x) s w.orderly w.has (working_unjoined x s j w)

-- It is covered while a write of it is unanswered.
pub writing_covered : (x : Step) (s : Session) (j : ℕ) → Working x s j → has_open_write (seen x) s ≡ true → is_covered (seen x) s ≡ true
writing_covered x s j w writes =
    covered_at_work (seen x) s (working_unjoined x s j w) (working_unrefused x s j w) ∙ covered_in (calls_of (seen x) s) (working_turn x s j w) writes

-- ---- it is refused

pub refused_by_reply : (y : Step) (s : Session) (j : ℕ) (r : Reply) → s.job ≡ Some j → is_running (seen y) j ≡ true → is_join_done r ≡ false → is_some (refused_after (seen (add_reply j r y)) s) ≡ true
refused_by_reply y s j r its runs other =
    let told : reply_to (seen (add_reply j r y)) j ≡ Some (record { at = length y.past; reply = r }) = effects_are_told.replies (record { job = j; reply = r }) (entry_of y) y.past runs in
    ap (λ o. is_some o) (refused_of (seen (add_reply j r y)) s j its ∙ (ap (λ o. option_and_then (λ (a : Replied). choose (not (is_join_done a.reply)) (a.at + 1)) o) told
    ∙ ap (λ b. choose (not b) (length y.past + 1)) other))

-- By a reply that ends it.
pub refused_connections : (x : Step) (s : Session) (j : ℕ) (r : Reply) → Working x s j → IsLate x r → is_join_done r ≡ false → HasConnectionFacts x
    → HasConnectionFacts (remove_of_refused s (add_reply j r x))
refused_connections x s j r w after other h =
    by (is_some (refused_after (seen y) s)) (has_open_write (seen y) s) refl refl where
      y : Step
      y = add_reply j r x

      mine : Contains (sessions x.setting (seen x)) s
      mine = working_inside x s j w

      a : Alters x.setting (seen x) (seen (add_reply j r x)) (heard_by x.input) s
      a = alters_reply (seen x) (heard_by x.input) s x j r after
          (λ z there away its. not_both (bytes_eq z.lockspace s.lockspace) (ap (λ (q : Session). bytes_eq q.lockspace s.lockspace) (one_session x.setting (seen x) z s j there mine its w.its) ∙ same_name s.lockspace) away)
          (alters_nothing x.setting (seen x) (heard_by x.input) s)

      refused : is_some (refused_after (seen (add_reply j r x)) s) ≡ true
      refused = refused_by_reply x s j r w.its w.runs other

      unjoined : joined_after (seen (add_reply j r x)) s ≡ None
      unjoined = let k = some_there (refused_after (seen (add_reply j r x)) s) refused in refused_apart (seen (add_reply j r x)) s k.0 k.1

      same_writes : has_open_write (seen (add_reply j r x)) s ≡ has_open_write (seen x) s
      same_writes = ap (λ ms. list_any (λ (m : Submitted). is_write m.call.op) (unanswered (filter (is_call_of s) ms))) (calls_stay x j r after)

      by : (b c : Bool) → is_some (refused_after (seen (add_reply j r x)) s) ≡ b → has_open_write (seen (add_reply j r x)) s ≡ c
          → HasConnectionFacts (when (b && not c) (remove_connection s.lockspace) (add_reply j r x))
      by false c is writes = absurd (not_both (is_some (refused_after (seen (add_reply j r x)) s)) refused is)
      by true true is writes =
          let covered : is_covered (seen (add_reply j r x)) s ≡ true = covered_refused (seen (add_reply j r x)) s unjoined refused ∙ writes in
          let before : is_covered (seen x) s ≡ true = writing_covered x s j w (sym same_writes ∙ writes) in
          altered_still x.setting (seen x) (seen (add_reply j r x)) (heard_by x.input) s mine a (working_alone x s j w) refl refl (covered ∙ sym before) (inl covered) (λ joined. absurd (unjoined_not (seen (add_reply j r x)) s unjoined joined)) h
      by true false is writes =
          removal_connections (seen x) s (add_reply j r x) mine a (working_alone x s j w) (covered_refused (seen (add_move (Unregister s.lockspace) (add_reply j r x))) s unjoined refused ∙ writes)
          (inl (covered_refused (seen (add_reply j r x)) s unjoined refused ∙ writes)) h

-- By a refusal of its job, or of a job that is no joining's.
pub refusal_connections : (x : Step) (j : ℕ) (r : Reply) → is_running (seen x) j ≡ true → IsLate x r → is_join_done r ≡ false → NameFacts x.setting (seen x) (heard_by x.input) → SoFar x → HasConnectionFacts x
    → HasConnectionFacts (refuse j r x)
unfolding refuse
refusal_connections x j r runs after other names orderly h = by (session_of_job x.setting (seen x) j) refl where
  its : (o : Option ℕ) → some_is (λ i. i == j) o ≡ true → o ≡ Some j
  its None is = absurd (false_is_true is)
  its (Some i) is = ap (λ n. Some n) (eqb-true i j is)

  by : (o : Option Session) → session_of_job x.setting (seen x) j ≡ o → HasConnectionFacts (with_some o remove_of_refused (add_reply j r x))
  by None none =
      reply_connections (heard_by x.input) x j r after
      (λ z there is. not_both (some_is (λ i. i == j) z.job) (ap (λ o. some_is (λ i. i == j) o) is ∙ number_itself j) (find_fails (λ (q : Session). some_is (λ i. i == j) q.job) (sessions x.setting (seen x)) z none there)) h
  by (Some z) is =
      let found = find_inside (λ (q : Session). some_is (λ i. i == j) q.job) (sessions x.setting (seen x)) z is in
      refused_connections x z j r (record { has = session_has x.setting (seen x) z found.0; its = its z.job found.1; runs = runs; names = names; orderly = orderly }) after other h

-- ---- the write of a refused joining was answered

pub record HeardWrite (x : Step) (s : Session) (w : Submitted) : Type 0 where
  pub inside : Contains (calls_of (seen x) s) w
  pub writes : is_write w.call.op ≡ true
  pub opens : IsOpen (seen x) (heard_by x.input) w

-- A refused session that was present had a write open; if none is open any more, that was heard.
pub writer_of : (x : Step) (s : Session) (m : Submitted) (answer : Answer) → Hears x s m answer → joined_after (seen x) s ≡ None → is_some (refused_after (seen x) s) ≡ true → (w : Submitted) × HeardWrite x s w
writer_of x s m answer hears unjoined refused = by (any_found (λ (d : Submitted). is_write d.call.op) (open_calls_of (seen before) s) waits) where
  before : Step
  before = with_input Wake x

  present : (o r : Option ℕ) (b : Bool) → o ≡ None → is_some r ≡ true → (is_none (elim o as (λ z. Option ℕ) [ Some i ↦ removed_after (seen x) s | None ↦ r ]) || (is_none o && b)) ≡ true → b ≡ true
  present None (Some i) b none some h = h
  present None None b none some h = absurd (false_is_true some)
  present (Some i) r b none some h = absurd (none_some i (sym none))

  waits : has_open_write (seen (with_input Wake x)) s ≡ true
  waits = present (joined_after (seen x) s) (refused_after (seen x) s) (has_open_write (seen (with_input Wake x)) s) unjoined refused hears.present

  past_calls : submitted (seen (with_input Wake x)) ≡ submitted x.past
  past_calls = calls_before (with_input Wake x) refl hears.bare

  marked : submitted (seen x) ≡ map (answered_in x.past (entry_of x) hears.number answer) (submitted x.past)
  marked = calls_heard x hears.number answer hears.heard hears.bare

  opens : (d : Submitted) → d.answer ≡ None → (b : Bool) → (d.call.number == hears.number) ≡ b → IsOpen (seen x) (heard_by x.input) (answered_in x.past (entry_of x) hears.number answer d)
  opens d none true same =
      inr (
        ap (λ i. heard_by i) hears.heard ∙ ap (λ n. Some n) (sym (ap (λ (c : Call). c.number) (same_answered x.past (entry_of x) hears.number answer d).call ∙ eqb-true d.call.number hears.number same)),
        hears.bare,
      )
  opens d none false other =
      inl (ap (λ b. (elim b as (λ z. Submitted) [ false ↦ d | true ↦ record d { answer = option_or d.answer (Some (answer_of x.past (entry_of x) answer d.call)) } ]).answer) other ∙ none)

  by : (d : Submitted) × Contains (open_calls_of (seen (with_input Wake x)) s) d × (is_write d.call.op ≡ true) → (w : Submitted) × HeardWrite x s w
  by f =
      let d : Submitted = f.0 in
      let left = kept_inside (λ (k : Submitted). is_none k.answer) (calls_of (seen (with_input Wake x)) s) d f.1 in
      let mine = kept_inside (is_call_of s) (submitted (seen (with_input Wake x))) d left.0 in
      let w : Submitted = answered_in x.past (entry_of x) hears.number answer d in
      let same = (same_answered x.past (entry_of x) hears.number answer d).call in (
        w,
        record {
          inside = kept (is_call_of s) (submitted (seen x)) w (ap (λ (c : Call). c.session == s.number) same ∙ mine.1)
              (subst (λ ms. Contains ms w) (sym marked) (contains_map (answered_in x.past (entry_of x) hears.number answer) (submitted x.past) d (subst (λ ms. Contains ms d) past_calls mine.0)));
          writes = ap (λ (c : Call). is_write c.op) same ∙ f.2;
          opens = opens d (none_is d.answer left.1) (d.call.number == hears.number) refl;
        },
      )

-- The connection of a session that is covered no more is removed.
pub removal_here : (x : Step) (s : Session) → Contains (sessions x.setting (seen x)) s → IsAlone x.setting (seen x) s → is_covered (seen (add_move (Unregister s.lockspace) x)) s ≡ false → HasConnectionFacts x
    → HasConnectionFacts (remove_connection s.lockspace x)
removal_here x s mine alone gone h = by (is_registered x.setting (seen x) s.lockspace) refl where
  by : (b : Bool) → is_registered x.setting (seen x) s.lockspace ≡ b → HasConnectionFacts (when b (add_move (Unregister s.lockspace)) x)
  by true is =
      altered_away x.setting (seen x) (seen (add_move (Unregister s.lockspace) x)) (heard_by x.input) s mine
      (alters_move (seen x) (heard_by x.input) s x (Unregister s.lockspace) (removes_own s.lockspace) (alters_nothing x.setting (seen x) (heard_by x.input) s)) alone (removed_away x s.lockspace) gone h
  by false is = h

pub ended_connections : (x : Step) (s : Session) (m : Submitted) (answer : Answer) → Hears x s m answer → HasConnectionFacts x → HasConnectionFacts (remove_of_refused s x)
ended_connections x s m answer hears h = by (is_some (refused_after (seen x) s)) (has_open_write (seen x) s) refl refl where
  mine : Contains (sessions x.setting (seen x)) s
  mine = got_inside (sessions x.setting (seen x)) s.number s (has_heard x s m answer hears)

  by : (b c : Bool) → is_some (refused_after (seen x) s) ≡ b → has_open_write (seen x) s ≡ c → HasConnectionFacts (when (b && not c) (remove_connection s.lockspace) x)
  by false c is writes = h
  by true true is writes = h
  by true false is writes =
      let k = some_there (refused_after (seen x) s) is in
      let unjoined : joined_after (seen x) s ≡ None = refused_apart (seen x) s k.0 k.1 in
      let w = writer_of x s m answer hears unjoined is in
      let alone : IsAlone x.setting (seen x) s = λ z there present same. h.writers s z w.0 mine unjoined w.1.inside w.1.writes w.1.opens there present same in
      removal_here x s mine alone (covered_refused (seen (add_move (Unregister s.lockspace) x)) s unjoined is ∙ writes) h
