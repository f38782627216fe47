-- A line whose command is carried out, heard by the whole.
use Rattle.sl_host_law.proofs.Calls.Inputs.InputHeard.{Changes, entry_with, heard, keeps_heard}
use Rattle.sl_host_law.proofs.Calls.Inputs.LineBegins.{joined_before, leaving_line, line_job, member_line}
use Rattle.sl_host_law.proofs.SharedFacts.MembersAreSessions.{member_inside}
use Rattle.sl_host_law.proofs.SharedFacts.NewNumbers.{no_call, no_child, no_reply_any, no_reply_in}
use Rattle.sl_host_law.proofs.SharedFacts.PlainLists.{at_mapped, in_either}
use Rattle.sl_host_law.proofs.SharedFacts.QuietMoments.{job_quiet, lowered_most, lowered_reaches, member_quiet, quiet_by}
use Rattle.sl_host_state.specs.HeardInputs.{heard_line, leaves_member, member_leaving, new_job}
use Rattle.sl_host_state.specs.KeptState.{Config, HostState, MemberState}
use Rattle.sl_host_state.specs.MadeEffects.{lowered}
use Rattle.sl_host_state.specs.HostStands.{IsQuiet, Keeps, MemberStands, job_moments, kept_job, kept_waiting, kill_moment, member_moments, recovery_moment}
use Rattle.sl_host_state.specs.declared.kept_parts.JobState.{JobState}
use Rattle.sl_trace.specs.Jobs.{child_of_job, command_of}
use Rattle.sl_host_law.proofs.Calls.Beginnings.QuietBegun.{moments_cases, moments_have}
use Rattle.sl_words.proofs.Lists.{any_of, contains_cases, contains_none, in_map}
use Rattle.sl_words.proofs.Numbers.{equal_is_most, trans_le}
use Rattle.sl_trace.specs.Sessions.{added_by, is_join_call, joining_session, sessions}
use Rattle.sl_trace.specs.declared.delta.DeltaKnown.{DeltaKnown}
use Rattle.sl_trace.specs.declared.session.Begun.{Begun}
use Rattle.sl_trace.specs.declared.session.Session.{Session}
use Rattle.sl_trace.specs.Traces.{Job, Setting, Trace, is_before_input, is_running, jobs, next_job, numbers_taken, reply_in, reply_to, running_jobs, waiting_call}
use Rattle.sl_trace.specs.KillPrograms.{KillProgram, is_done, kill_program_in, kill_programs, with_program, without_program}
use Rattle.sl_trace.specs.declared.command.Command.{Command}
use Rattle.sl_trace.specs.declared.effects.Call.{Call}
use Rattle.sl_trace.specs.declared.effects.Effects.{Effects}
use Rattle.sl_trace.specs.declared.effects.JoinStep.TheVariants.{FirstRead}
use Rattle.sl_trace.specs.declared.input.Input.TheVariants.{Line, Wake}
use Rattle.sl_words.proofs.CaseLaws.{false_is_true}
use Rattle.sl_words.specs.Words.{choose, some_is}
use Rattle.std.proofs.Common.{ap, arith, inl, inr, refl, subst, sym, ◌∙◌}
use Rattle.std.proofs.lemmas.List.{append-nil, map-append}
use Rattle.std.proofs.lemmas.List.Elements.{filter-append}
use Rattle.std.proofs.lemmas.List.Folds.{find-append}
use Rattle.std.specs.List.{AllByRecursion, list_any}
use Rattle.std.specs.Option.{option_or}
use Rattle.std.specs.Prelude.{Bool, Contains, IsTrue, List, None, Ok, Option, Result, Some, cond, false, filter, find, is_none, is_some, length, map, nat_le, nat_lt, option_and_then, option_map, slice_get, true, [], ℕ, ◌&&◌, ◌++◌, ◌+◌, ◌-◌, ◌==◌, ◌∷◌, ◌≡◌, ◌≤◌, ◌⊎◌}

-- ---- the job

-- The running jobs, with that of the line.
pub running_line : (st : Setting) (past : Trace) (reading : ℕ) (fx : Effects) (text : List ℕ) → reply_to (heard st past reading fx Wake) (next_job st past) ≡ None
    → running_jobs st (heard st past reading fx (Line text)) ≡ running_jobs st (heard st past reading fx Wake) ++ line_job st past reading text ∷ []
running_line st past reading fx text free =
    filter-append (λ (j : Job). is_running (heard st past reading fx Wake) j.number) (jobs st past) (line_job st past reading text ∷ [])
    ∙ ap (λ o. filter (λ (j : Job). is_running (heard st past reading fx Wake) j.number) (jobs st past) ++ cond (is_none o) (line_job st past reading text ∷ []) []) free
    ∙ ap (λ js. filter (λ (j : Job). is_running (heard st past reading fx Wake) j.number) js ++ line_job st past reading text ∷ []) (sym (append-nil (jobs st past)))

-- As it is kept.
kept_line : (h : HostState) (st : Setting) (past : Trace) (reading : ℕ) (fx : Effects) (text : List ℕ) (c : Command) → Keeps h st (heard st past reading fx Wake) → st.read text ≡ Ok c
    → kept_job (heard st past reading fx (Line text)) (line_job st past reading text) ≡ new_job h.next_job (Some c)
kept_line h st past reading fx text c k reads =
    let es : Trace = heard st past reading fx Wake in
    let n : ℕ = next_job st past in
    let above : h.next_job ≤ n = equal_is_most h.next_job n (sym k.lines) in
    let as_kept : ℕ → Option Command → Option ℕ → JobState = λ m d o. record { number = m; command = d; child = o; waits = option_map kept_waiting (waiting_call es n) } in
    ap (λ (o : Result Command ℕ). as_kept n (command_of (record { number = n; at = length past; reading = reading; command = o })) (child_of_job es n)) reads
    ∙ ap (as_kept n (Some c)) (no_child h st es n k above)
    ∙ ap (λ o. let j : JobState = new_job n (Some c) in record j { waits = option_map kept_waiting o }) (no_call h st es n k above)
    ∙ ap (λ m. new_job m (Some c)) k.lines

jobs_line : (h : HostState) (st : Setting) (past : Trace) (reading : ℕ) (fx : Effects) (text : List ℕ) (c : Command) → Keeps h st (heard st past reading fx Wake) → st.read text ≡ Ok c
    → map (kept_job (heard st past reading fx (Line text))) (running_jobs st (heard st past reading fx (Line text))) ≡ h.jobs ++ new_job h.next_job (Some c) ∷ []
jobs_line h st past reading fx text c k reads =
    let above : h.next_job ≤ next_job st past = equal_is_most h.next_job (next_job st past) (sym k.lines) in
    ap (map (kept_job (heard st past reading fx (Line text)))) (running_line st past reading fx text (k.replied (next_job st past) above))
    ∙ map-append (kept_job (heard st past reading fx (Line text))) (running_jobs st (heard st past reading fx Wake)) (line_job st past reading text ∷ [])
    ∙ ap (λ js. js ++ kept_job (heard st past reading fx (Line text)) (line_job st past reading text) ∷ []) k.jobs
    ∙ ap (λ j. h.jobs ++ j ∷ []) (kept_line h st past reading fx text c k reads)

-- A job of before is a job still.
pub known_line : (st : Setting) (past : Trace) (text : List ℕ) (reading n : ℕ) → is_some (find (λ j. j.number == n) (jobs st past ++ [])) ≡ true
    → is_some (find (λ j. j.number == n) (jobs st past ++ line_job st past reading text ∷ [])) ≡ true
known_line st past text reading n is =
    ap (λ o. is_some o) (find-append (λ (j : Job). j.number == n) (jobs st past) (line_job st past reading text ∷ []))
    ∙ by (find (λ (j : Job). j.number == n) (jobs st past)) (sym (ap (λ js. is_some (find (λ (j : Job). j.number == n) js)) (append-nil (jobs st past))) ∙ is) where
      by : (o : Option Job) → is_some o ≡ true → is_some (option_or o (find (λ j. j.number == n) (line_job st past reading text ∷ []))) ≡ true
      by None none = absurd (false_is_true none)
      by (Some j) some = refl

-- ---- sessions and kill programs

-- No session begins by a line that has made no call.
pub sessions_line : (st : Setting) (past : Trace) (reading : ℕ) (fx : Effects) (text : List ℕ) → fx.calls ≡ []
    → sessions st (heard st past reading fx (Line text)) ≡ sessions st (heard st past reading fx Wake)
sessions_line st past reading fx text bare =
    ap (λ cs. sessions st past ++ elim (list_any (λ (c : Call). is_join_call FirstRead c.purpose) cs) as (λ z. List Session) [
      | false ↦ []
      | true ↦ elim (added_by st (Line text)) as (λ z. List Session) [ None ↦ [] | Some a ↦ joining_session (length (sessions st past)) (next_job st past) a ∷ [] ]
    ]) bare
    ∙ sym (ap (λ cs. sessions st past ++ elim (list_any (λ (c : Call). is_join_call FirstRead c.purpose) cs) as (λ z. List Session) [ false ↦ [] | true ↦ [] ]) bare)

-- No kill program is set before the reply.
programs_line : (st : Setting) (past : Trace) (reading : ℕ) (fx : Effects) (text : List ℕ) → reply_in (next_job st past) past (entry_with reading fx (Line text)) ≡ None
    → kill_programs st (heard st past reading fx (Line text)) ≡ kill_programs st (heard st past reading fx Wake)
programs_line st past reading fx text free =
    ap (λ o. with_program o (without_program None (kill_programs st past)))
    (ap (λ o. option_and_then (λ k. choose (some_is (λ r. is_done r.reply) o) k) (kill_program_in (st.read text))) free ∙ by (kill_program_in (st.read text))) where
      by : (o : Option KillProgram) → option_and_then (λ (k : KillProgram). choose false k) o ≡ None
      by None = refl
      by (Some k) = refl

-- ---- nothing is due sooner

pub leaving_moments : (h : HostState) (m : MemberState) (t : ℕ) → Contains (member_moments h (member_leaving h m)) t → Contains (member_moments h m) t ⊎ (t ≡ h.reading + h.config.grace)
leaving_moments h m t there = by m.leaving refl there where
  only : (t : ℕ) (b : Bool) → Contains (cond b [] ((h.reading + h.config.grace) ∷ [])) t → t ≡ h.reading + h.config.grace
  only u true at = absurd (contains_none u at)
  only u false at = elim (contains_cases (h.reading + h.config.grace) [] u at) [ inl is ↦ sym is | inr none ↦ absurd (contains_none u none) ]

  new : (m.joined ≡ true) × (Contains (recovery_moment h m) t ⊎ (Contains (kill_moment h m.renewing.recovery) t ⊎ Contains (kill_moment h (Some (record { at = h.entries - 1; reading = h.reading; kills_from = h.entries }))) t))
      → Contains (member_moments h m) t ⊎ (t ≡ h.reading + h.config.grace)
  new f = elim f.1 [
    | inl first ↦ inl (moments_have m.joined (recovery_moment h m) (kill_moment h m.renewing.recovery) (kill_moment h m.leaving) t f.0 (inl first))
    | inr rest ↦ elim rest [
      | inl second ↦ inl (moments_have m.joined (recovery_moment h m) (kill_moment h m.renewing.recovery) (kill_moment h m.leaving) t f.0 (inr (inl second)))
      | inr third ↦ inr (only t (nat_lt h.entries h.entries && nat_le (h.reading + h.config.grace) h.reading) third)
    ]
  ]

  by : (o : Option Begun) → m.leaving ≡ o
      → Contains (member_moments h (let d : DeltaKnown = m.known in
      elim o as (λ z. MemberState) [ Some b ↦ m | None ↦ record m { leaving = Some (record { at = h.entries - 1; reading = h.reading; kills_from = h.entries }); known = record d { leaving = Some h.next_job } } ])) t
      → Contains (member_moments h m) t ⊎ (t ≡ h.reading + h.config.grace)
  by (Some b) is at = inl at
  by None is at =
      new (moments_cases m.joined (recovery_moment h m) (kill_moment h m.renewing.recovery) (kill_moment h (Some (record { at = h.entries - 1; reading = h.reading; kills_from = h.entries }))) t at)

pub quiet_line : (h : HostState) (c : Command) → IsQuiet h → IsQuiet (heard_line c h)
quiet_line h c quiet =
    quiet_by (heard_line c h)
    (λ m t there at. member (in_map (λ z. cond (leaves_member c z) (member_leaving h z) z) h.members m there) t at)
    (λ j t there at. job j t (in_either h.jobs (new_job h.next_job (Some c) ∷ []) j there) at) where
      least : (heard_line c h).quiet_until ≤ h.quiet_until
      least = lowered_most (list_any (leaves_member c) h.members) (h.reading + h.config.grace) h

      old : (z : MemberState) → Contains h.members z → (t : ℕ) → Contains (member_moments h z) t → (heard_line c h).quiet_until ≤ t
      old z in_it t at = trans_le (heard_line c h).quiet_until h.quiet_until t least (member_quiet h z t quiet in_it at)

      within : (z : MemberState) → Contains h.members z → (t : ℕ) → (b : Bool) → leaves_member c z ≡ b → Contains (member_moments h (cond b (member_leaving h z) z)) t → (heard_line c h).quiet_until ≤ t
      within z in_it t false is at = old z in_it t at
      within z in_it t true is at =
          elim (leaving_moments h z t at) [
            | inl was ↦ old z in_it t was
            | inr new ↦
                trans_le (heard_line c h).quiet_until (h.reading + h.config.grace) t
                (lowered_reaches (list_any (leaves_member c) h.members) (h.reading + h.config.grace) h (any_of (leaves_member c) h.members z is in_it))
                (equal_is_most (h.reading + h.config.grace) t (sym new))
          ]

      member : {m : MemberState} → (z : MemberState) × Contains h.members z × (cond (leaves_member c z) (member_leaving h z) z ≡ m) → (t : ℕ) → Contains (member_moments (heard_line c h) m) t
          → (heard_line c h).quiet_until ≤ t
      member z t at = within z.0 z.1 t (leaves_member c z.0) refl (subst (λ y. Contains (member_moments h y) t) (sym z.2) at)

      job : (j : JobState) (t : ℕ) → Contains h.jobs j ⊎ Contains (new_job h.next_job (Some c) ∷ []) j → Contains (job_moments h j) t → (heard_line c h).quiet_until ≤ t
      job j t (inl was) at = trans_le (heard_line c h).quiet_until h.quiet_until t least (job_quiet h j t quiet was at)
      job j t (inr new) at =
          elim (contains_cases (new_job h.next_job (Some c)) [] j new) [
            | inl is ↦ absurd (contains_none t (subst (λ y. Contains (job_moments h y) t) (sym is) at))
            | inr none ↦ absurd (contains_none j none)
          ]

-- ---- the whole

whos_line : (h : HostState) (c : Command) (ms : List MemberState) → map (λ m. m.who) ms ≡ map (λ m. m.who) (map (λ m. cond (leaves_member c m) (member_leaving h m) m) ms)
whos_line h c [] = refl
whos_line h c (m ∷ ms) = ap (λ s. s ∷ map (λ (n : MemberState). n.who) ms) (by (leaves_member c m)) ∙ ap (λ ss. (cond (leaves_member c m) (member_leaving h m) m).who ∷ ss) (whos_line h c ms) where
  leaving : (o : Option Begun)
      → m.who ≡ (let d : DeltaKnown = m.known in
      elim o as (λ z. MemberState) [ Some b ↦ m | None ↦ record m { leaving = Some (record { at = h.entries - 1; reading = h.reading; kills_from = h.entries }); known = record d { leaving = Some h.next_job } } ]).who
  leaving None = refl
  leaving (Some b) = refl

  by : (b : Bool) → m.who ≡ (cond b (member_leaving h m) m).who
  by true = leaving m.leaving
  by false = refl

pub line_keeps : (h : HostState) (st : Setting) (past : Trace) (reading : ℕ) (fx : Effects) (text : List ℕ) (c : Command) → h.config.read text ≡ Ok c → fx.calls ≡ []
    → AllByRecursion (λ a. IsTrue (is_before_input a.reply)) fx.replies → reading ≡ h.reading → Keeps h st (heard st past reading fx Wake) → Keeps (heard_line c h) st (heard st past reading fx (Line text))
line_keeps h st past reading fx text c says bare early now k =
    keeps_heard st past reading fx h (Line text) (h.next_job + 1) (lowered (list_any (leaves_member c) h.members) (h.reading + h.config.grace) h) (h.jobs ++ new_job h.next_job (Some c) ∷ [])
    (map (λ m. cond (leaves_member c m) (member_leaving h m) m) h.members) h.children h.programs changes k where
      reads : st.read text ≡ Ok c
      reads = ap (λ (d : Config). d.read text) k.config ∙ says

      above : h.next_job ≤ next_job st past
      above = equal_is_most h.next_job (next_job st past) (sym k.lines)

      free : reply_to (heard st past reading fx Wake) (next_job st past) ≡ None
      free = k.replied (next_job st past) above

      leaving : (i : ℕ) (m : MemberState) → slice_get h.members i ≡ Some m → MemberStands st (heard st past reading fx (Line text)) (cond (leaves_member c m) (member_leaving h m) m)
      leaving i m there =
          let s = k.members i m there in
          let present = (member_inside h st (heard st past reading fx Wake) i m k there).1 in
          member_line h st past reading fx text c m k now
          (leaving_line st past reading fx text c m reads (joined_before st past reading fx m.who early present ∙ s.joined) (no_reply_any (entry_with reading fx Wake) past (next_job st past) free)) s

      changes : Changes st past reading fx h (Line text) (h.next_job + 1) (h.jobs ++ new_job h.next_job (Some c) ∷ []) (map (λ m. cond (leaves_member c m) (member_leaving h m) m) h.members) h.children h.programs
      changes =
          record {
            plain = tt;
            begun = sessions_line st past reading fx text bare;
            lines = (let was : st.first.job + numbers_taken past ≡ h.next_job = k.lines in let is : st.first.job + (numbers_taken past + 1) ≡ h.next_job + 1 = omega (arith, was) in is);
            risen = omega arith;
            processes = refl;
            told = refl;
            known = λ n is. known_line st past text reading n is;
            whos = whos_line h c h.members;
            members = λ i m there.
                (let z = at_mapped (λ (y : MemberState). cond (leaves_member c y) (member_leaving h y) y) h.members i m there in
                subst (λ y. MemberStands st (heard st past reading fx (Line text)) y) z.2 (leaving i z.0 z.1));
            jobs = jobs_line h st past reading fx text c k reads;
            children = k.children;
            programs = programs_line st past reading fx text (no_reply_in (entry_with reading fx Wake) past (next_job st past) free) ∙ k.programs;
          }
