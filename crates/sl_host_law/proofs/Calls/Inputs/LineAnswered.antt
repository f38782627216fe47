-- A line that is answered at once: its job has come and gone in one.
use Rattle.sl_due_facts.proofs.Acts.AddedAtEnd.{any_last, found_more}
use Rattle.sl_host_law.proofs.Calls.Inputs.InputHeard.{entry_with, heard}
use Rattle.sl_host_law.proofs.Calls.Inputs.LineBegins.{line_job}
use Rattle.sl_host_law.proofs.Calls.Inputs.LineHeard.{known_line, sessions_line}
use Rattle.sl_host_law.proofs.SharedFacts.MembersAreSessions.{member_inside}
use Rattle.sl_host_law.proofs.SharedFacts.NewNumbers.{no_reply_found}
use Rattle.sl_host_law.proofs.SharedFacts.PlainLists.{all_as, each_of, filter_where}
use Rattle.sl_host_law.proofs.SharedFacts.SessionNumbers.{HasJobBelow, jobs_below, session_jobs_below}
use Rattle.sl_host_state.specs.HeardInputs.{answered_line, program_answered}
use Rattle.sl_host_state.specs.KeptState.{Config, HostState, MemberState}
use Rattle.sl_host_state.specs.HostStands.{Keeps, MemberStands, kept_job}
use Rattle.sl_words.proofs.Numbers.{equal_is_most, less_is_other, number_itself}
use Rattle.sl_trace.specs.DeltaDecisions.{delta_known}
use Rattle.sl_trace.specs.Sessions.{has_open_write, is_join_done, is_joined, is_present, joined_after, leaves, leaving_job, present_sessions, refused_after, removed_after, sessions}
use Rattle.sl_trace.specs.declared.delta.DeltaKnown.{DeltaKnown}
use Rattle.sl_trace.specs.declared.session.Session.{Session}
use Rattle.sl_trace.specs.Traces.{Child, Job, Replied, Setting, Submitted, Trace, children, is_running, job_of, jobs, next_job, numbers_taken, reply_in, reply_to, running_jobs, submitted}
use Rattle.sl_trace.specs.KillPrograms.{is_done, kill_program_in, kill_programs, with_program, without_program}
use Rattle.sl_trace.specs.declared.effects.Effects.{Effects}
use Rattle.sl_trace.specs.declared.effects.JobReply.{JobReply}
use Rattle.sl_trace.specs.declared.input.Input.TheVariants.{Line, Wake}
use Rattle.sl_trace.specs.declared.reply.Reply.{Reply}
use Rattle.sl_words.proofs.CaseLaws.{none_some}
use Rattle.sl_words.specs.Orders.{in_order, is_text_before}
use Rattle.sl_words.specs.Words.{choose, some_is}
use Rattle.std.proofs.Common.{ap, arith, refl, sym, ◌∙◌}
use Rattle.std.proofs.lemmas.List.{append-nil}
use Rattle.std.proofs.lemmas.List.Elements.{filter-append}
use Rattle.std.proofs.lemmas.List.Folds.{find-append}
use Rattle.std.specs.Option.{option_or}
use Rattle.std.specs.Prelude.{Bool, Contains, IsTrue, List, None, Option, Some, cond, false, filter, filter_map, find, is_none, is_some, length, map, not, option_and_then, option_map, true, [], ℕ, ◌&&◌, ◌++◌, ◌+◌, ◌<◌, ◌==◌, ◌||◌, ◌∷◌, ◌≡◌, ◌≤◌}

module _ (st : Setting) (past : Trace) (reading : ℕ) (fx : Effects) (text : List ℕ) (r : Reply) where
  -- The reply.
  abbrev told : JobReply
  told = record { job = next_job st past; reply = r }

  -- The effects with it, and the trace.
  abbrev pub replying : Effects
  replying = record fx { replies = fx.replies ++ told ∷ [] }

  abbrev pub answered : Trace
  answered = heard st past reading replying (Line text)

  abbrev before : Trace
  before = heard st past reading fx Wake

  -- ---- replies to others

  other_reply : (job : ℕ) → (next_job st past == job) ≡ false → reply_to answered job ≡ reply_to before job
  other_reply job other =
      ap (λ o. elim (reply_to past job) as (λ z. Option Replied) [ Some a ↦ Some a | None ↦ option_map (λ (a : JobReply). record { at = length past; reply = a.reply }) o ])
      (found_more fx.replies told job other)

  below_other : (job : ℕ) → job < next_job st past → (next_job st past == job) ≡ false
  below_other job less = grind (arith, less)

  -- The one to the line.
  own_reply : reply_to before (next_job st past) ≡ None → reply_in (next_job st past) past (entry_with reading replying (Line text)) ≡ Some (record { at = length past; reply = r })
  own_reply free =
      ap (option_map (λ (a : JobReply). record { at = length past; reply = a.reply }))
      (find-append (λ (a : JobReply). a.job == next_job st past) fx.replies (told ∷ [])
      ∙ ap (λ o. option_or o (cond (next_job st past == next_job st past) (Some told) None)) (no_reply_found (entry_with reading fx Wake) past (next_job st past) free)
      ∙ ap (λ b. cond b (Some told) None) (number_itself (next_job st past)))

  -- ---- sessions: their jobs are others

  abbrev by_reply : (Replied → Option ℕ) → Option ℕ → Option ℕ → Trace → Option ℕ
  by_reply f given job es = elim job as (λ z. Option ℕ) [ None ↦ given | Some j ↦ option_and_then f (reply_to es j) ]

  same_mark : (f : Replied → Option ℕ) (given : Option ℕ) (s : Session) → HasJobBelow (next_job st past) s → by_reply f given s.job answered ≡ by_reply f given s.job before
  same_mark f given s below = by s.job below where
    by : (o : Option ℕ) → ((j : ℕ) → o ≡ Some j → j < next_job st past) → by_reply f given o answered ≡ by_reply f given o before
    by None less = refl
    by (Some j) less = ap (option_and_then f) (other_reply j (below_other j (less j refl)))

  same_joined : (s : Session) → HasJobBelow (next_job st past) s → joined_after answered s ≡ joined_after before s
  same_joined s below = same_mark (λ a. choose (is_join_done a.reply) (a.at + 1)) (Some 0) s below

  same_refused : (s : Session) → HasJobBelow (next_job st past) s → refused_after answered s ≡ refused_after before s
  same_refused s below = same_mark (λ a. choose (not (is_join_done a.reply)) (a.at + 1)) None s below

  abbrev ended_by : Option ℕ → Option ℕ → Option ℕ → Option ℕ
  ended_by joined removed refused = elim joined as (λ z. Option ℕ) [ Some k ↦ removed | None ↦ refused ]

  same_present : (s : Session) → HasJobBelow (next_job st past) s → is_present answered s ≡ is_present before s
  same_present s below =
      ap (λ o. is_none (ended_by o (removed_after before s) (refused_after answered s)) || is_none o && has_open_write before s) (same_joined s below)
      ∙ ap (λ o. is_none (ended_by (joined_after before s) (removed_after before s) o) || is_none (joined_after before s) && has_open_write before s) (same_refused s below)

  has_job_below : (s : Session) → Contains (sessions st before) s → HasJobBelow (next_job st past) s
  has_job_below s there = each_of (HasJobBelow (next_job st past)) (sessions st before) s (session_jobs_below st before) there

  same_presents : fx.calls ≡ [] → present_sessions st answered ≡ present_sessions st before
  same_presents bare =
      ap (λ ss. in_order (λ a b. is_text_before a.lockspace b.lockspace) (filter (is_present answered) ss)) (sessions_line st past reading fx text bare)
      ∙ ap (in_order (λ a b. is_text_before a.lockspace b.lockspace))
      (filter_where (is_present answered) (is_present before) (sessions st before) (λ s there. same_present s (has_job_below s there)))

  -- The line begins no leaving.
  same_leaving : (s : Session) → leaving_job st answered s ≡ leaving_job st before s
  same_leaving s =
      ap (λ b. elim (leaving_job st past s) as (λ z. Option Job) [
        | Some j ↦ Some j
        | None ↦ elim (leaves s (st.read text)) as (λ z. Option Job) [ false ↦ None | true ↦ choose (is_joined past s && not b) (line_job st past reading text) ]
      ]) (any_last (λ (a : JobReply). a.job == next_job st past) fx.replies told (number_itself (next_job st past)))
      ∙ by (leaving_job st past s) (leaves s (st.read text)) (is_joined past s) where
        by : (o : Option Job) (l j : Bool)
            → elim o as (λ z. Option Job) [ Some k ↦ Some k | None ↦ elim l as (λ z. Option Job) [ false ↦ None | true ↦ choose (j && false) (line_job st past reading text) ] ]
            ≡ elim o as (λ z. Option Job) [ Some k ↦ Some k | None ↦ None ]
        by (Some k) l j = refl
        by None false j = refl
        by None true true = refl
        by None true false = refl

  member_answered : (m : MemberState) → HasJobBelow (next_job st past) m.who → MemberStands st before m → MemberStands st answered m
  member_answered m below s =
      record {
        joined = ap (λ o. is_some o && is_none (removed_after before m.who)) (same_joined m.who below) ∙ s.joined;
        refused = ap (λ o. is_some o) (same_refused m.who below) ∙ s.refused;
        known = ap (λ o. let d : DeltaKnown = delta_known st before m.who in record d { leaving = option_map (λ (j : Job). j.number) o }) (same_leaving m.who) ∙ s.known;
        joining = s.joining;
        renewing = s.renewing;
        leaving = ap (λ o. option_map (λ (j : Job). record { at = j.at; reading = j.reading; kills_from = j.at + 1 }) o) (same_leaving m.who) ∙ s.leaving;
        asked = s.asked;
        turn = s.turn;
        seen = s.seen;
        spots = s.spots;
        leases = s.leases;
        valued = s.valued;
        values = s.values;
      }

  -- ---- jobs and kill programs

  same_running : reply_to before (next_job st past) ≡ None → running_jobs st answered ≡ running_jobs st before
  same_running free =
      filter-append (λ (j : Job). is_running answered j.number) (jobs st past) (line_job st past reading text ∷ [])
      ∙ ap (λ b. filter (λ (j : Job). is_running answered j.number) (jobs st past) ++ cond b (line_job st past reading text ∷ []) []) ends
      ∙ append-nil (filter (λ (j : Job). is_running answered j.number) (jobs st past))
      ∙ filter_where (λ (j : Job). is_running answered j.number) (λ (j : Job). is_running before j.number) (jobs st past)
      (λ j there. ap (λ o. is_none o) (other_reply j.number (below_other j.number (each_of (λ (z : Job). z.number < next_job st past) (jobs st past) j (jobs_below st past) there))))
      ∙ ap (filter (λ (j : Job). is_running before j.number)) (sym (append-nil (jobs st past))) where
        unreplied : (o : Option Replied) → elim o as (λ z. Option Replied) [ Some a ↦ Some a | None ↦ reply_in (next_job st past) past (entry_with reading fx Wake) ] ≡ None
            → elim o as (λ z. Option Replied) [ Some a ↦ Some a | None ↦ reply_in (next_job st past) past (entry_with reading replying (Line text)) ] ≡ Some (record { at = length past; reply = r })
        unreplied None is = own_reply free
        unreplied (Some a) is = absurd (none_some a (sym is))

        ends : is_running answered (next_job st past) ≡ false
        ends = ap (λ o. is_none o) (unreplied (reply_to past (next_job st past)) free)

  programs_set : reply_to before (next_job st past) ≡ None
      → kill_programs st answered ≡ with_program (program_answered (st.read text) r) (kill_programs st before)
  programs_set free =
      ap (λ o. with_program (option_and_then (λ k. choose (some_is (λ a. is_done a.reply) o) k) (kill_program_in (st.read text))) (without_program None (kill_programs st past))) (own_reply free)

  -- ---- the whole

  pub answered_keeps : (h : HostState) → fx ≡ h.made → fx.calls ≡ [] → Keeps h st before → Keeps (answered_line (h.config.read text) r h) st answered
  answered_keeps h made bare k =
      let n : ℕ = next_job st past in
      let free : reply_to before n ≡ None = k.replied n (equal_is_most h.next_job n (sym k.lines)) in
      let was : st.first.job + numbers_taken past ≡ h.next_job = k.lines in
      record {
        config = k.config;
        entries = k.entries;
        calls = k.calls;
        lines = (let is : st.first.job + (numbers_taken past + 1) ≡ h.next_job + 1 = omega (arith, was) in is);
        replied = λ m above.
            (let less : n < m = (let e : n ≡ h.next_job = k.lines in omega (arith, e, above)) in
            let old : h.next_job ≤ m = omega (arith, above) in
            other_reply m (less_is_other n m less) ∙ k.replied m old);
        started = k.started;
        born = ap (λ ss. length ss) (sessions_line st past reading fx text bare) ∙ k.born;
        numbered = k.numbered;
        counted = k.counted;
        present = same_presents bare ∙ k.present;
        members = λ i m there. member_answered m (has_job_below m.who (member_inside h st before i m k there).0) (k.members i m there);
        connected = k.connected;
        unanswered = k.unanswered;
        single = k.single;
        owned = all_as (λ j. IsTrue (is_some (find (λ (z : Job). z.number == j) (jobs st past ++ [])))) (λ j. IsTrue (is_some (find (λ (z : Job). z.number == j) (jobs st past ++ line_job st past reading text ∷ []))))
            (filter_map (λ (m : Submitted). job_of m.call.purpose) (submitted before) ++ filter_map (λ (z : Child). z.job) (children before)) (λ j is. known_line st past text reading j is) k.owned;
        jobs = ap (map (kept_job before)) (same_running free) ∙ k.jobs;
        holdings = k.holdings;
        children = k.children;
        programs =
            programs_set free
            ∙ ap (λ (d : Config). with_program (program_answered (d.read text) r) (kill_programs st before)) k.config
            ∙ ap (with_program (program_answered (h.config.read text) r)) k.programs;
      }
