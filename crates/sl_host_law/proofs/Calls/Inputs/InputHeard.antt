-- An input that answers no call, in place of the wake that the step counted as: what is asked of calls and renewals has the answer that it
-- had, and a host keeps what it kept but for lines, jobs, members, children and kill programs.
use Rattle.sl_host_law.proofs.Calls.MemberCalls.KnownMore.{known_by}
use Rattle.sl_host_law.proofs.Calls.MemberCalls.LeasesMore.{calls_on}
use Rattle.sl_host_law.proofs.Calls.MemberCalls.MemberMore.{self_by}
use Rattle.sl_host_law.proofs.Calls.MemberCalls.ValuesMore.{on_lease}
use Rattle.sl_host_law.proofs.SharedFacts.PlainLists.{all_as}
use Rattle.sl_host_state.specs.KeptState.{HostState, MemberState}
use Rattle.sl_host_state.specs.HostStands.{AreInTurn, AskedStands, JoinStands, Keeps, LeaseStands, MemberStands, WatchKeeps, is_there, kept_call, kept_job, newest_value}
use Rattle.sl_host_state.specs.declared.kept_parts.JobState.{JobState}
use Rattle.sl_trace.specs.Counts.{values_on}
use Rattle.sl_trace.specs.Leases.{spots_in}
use Rattle.sl_words.proofs.Numbers.{trans_le}
use Rattle.sl_trace.specs.DeltaDecisions.{delta_known}
use Rattle.sl_trace.specs.Sessions.{calls_of, ended_after, is_call_of, is_delta_purpose, joined_after, leaving_job, leaving_of, recovery_of, renewing, sessions}
use Rattle.sl_trace.specs.declared.delta.DeltaKnown.{DeltaKnown}
use Rattle.sl_trace.specs.declared.session.Begun.{Begun}
use Rattle.sl_trace.specs.declared.session.Renewing.{Renewing}
use Rattle.sl_trace.specs.declared.session.Session.{Session}
use Rattle.sl_trace.specs.Traces.{Child, Job, Setting, Submitted, Trace, children, first_child, is_write, job_numbered, job_of, next_job, running_jobs, submitted, unanswered}
use Rattle.sl_trace.specs.KillPrograms.{KillProgram, kill_programs}
use Rattle.sl_trace.specs.declared.effects.Effects.{Effects}
use Rattle.sl_trace.specs.declared.effects.Entry.{Entry}
use Rattle.sl_trace.specs.declared.input.Input.TheVariants.{Answer as Told, Exit, Line, Number, Spawned, Wake}
use Rattle.sl_trace.specs.declared.input.Input.{Input}
use Rattle.sl_words.specs.Orders.{in_order, is_text_before}
use Rattle.std.proofs.Common.{ap, refl, subst, sym, ◌∙◌}
use Rattle.std.proofs.lemmas.List.{length-map}
use Rattle.std.specs.List.{AllByRecursion, list_any, range_with_len}
use Rattle.std.specs.Prelude.{IsTrue, List, Option, Some, filter, filter_map, is_none, is_some, length, map, option_map, reverse, slice_get, true, ℕ, ◌&&◌, ◌++◌, ◌+◌, ◌||◌, ◌∷◌, ◌≡◌, ◌≤◌}

-- An input that answers no call.
abbrev pub NotAnswer : Input → Type 0
NotAnswer (Told n a) = ⊥
NotAnswer (Line text) = Unit {0}
NotAnswer (Number text) = Unit {0}
NotAnswer (Exit p) = Unit {0}
NotAnswer (Spawned p ok) = Unit {0}
NotAnswer Wake = Unit {0}

-- The entry with this input.
abbrev pub entry_with : ℕ → Effects → Input → Entry
entry_with reading fx i = record { reading = reading; input = i; effects = fx }

module _ (st : Setting) (past : Trace) (reading : ℕ) (fx : Effects) where
  -- The trace so far, with this input.
  abbrev pub heard : Input → Trace
  heard i = entry_with reading fx i ∷ past

  -- ---- calls and renewals

  pub same_calls : (i : Input) → NotAnswer i → submitted (heard i) ≡ submitted (heard Wake)
  same_calls (Told n a) plain = absurd plain
  same_calls (Line text) plain = refl
  same_calls (Number text) plain = refl
  same_calls (Exit p) plain = refl
  same_calls (Spawned p ok) plain = refl
  same_calls Wake plain = refl

  same_renewing : (i : Input) (s : Session) → NotAnswer i → renewing st (heard i) s ≡ renewing st (heard Wake) s
  same_renewing (Told n a) s plain = absurd plain
  same_renewing (Line text) s plain = refl
  same_renewing (Number text) s plain = refl
  same_renewing (Exit p) s plain = refl
  same_renewing (Spawned p ok) s plain = refl
  same_renewing Wake s plain = refl

  -- ---- a member

  pub known_heard : (i : Input) (m : MemberState) (leaving : Option ℕ) → NotAnswer i → option_map (λ j. j.number) (leaving_job st (heard i) m.who) ≡ leaving → MemberStands st (heard Wake) m
      → delta_known st (heard i) m.who ≡ (let k : DeltaKnown = m.known in record k { leaving = leaving })
  known_heard i m leaving plain is s =
      ap (λ ms. known_by m.who (is_some (recovery_of st (heard i) m.who)) (option_map (λ (j : Job). j.number) (leaving_job st (heard i) m.who)) (filter (is_call_of m.who) ms)) (same_calls i plain)
      ∙ ap (λ (r : Renewing). known_by m.who (is_some r.recovery) (option_map (λ (j : Job). j.number) (leaving_job st (heard i) m.who)) (calls_of (heard Wake) m.who)) (same_renewing i m.who plain)
      ∙ ap (λ o. known_by m.who (is_some (recovery_of st (heard Wake) m.who)) o (calls_of (heard Wake) m.who)) is
      ∙ ap (λ (k : DeltaKnown). record k { leaving = leaving }) s.known

  -- A member, with how it is leaving.
  pub member_with : (i : Input) (m : MemberState) (leaving : Option Begun) (known : DeltaKnown) → NotAnswer i → leaving_of st (heard i) m.who ≡ leaving → delta_known st (heard i) m.who ≡ known
      → MemberStands st (heard Wake) m → MemberStands st (heard i) (record m { leaving = leaving; known = known })
  member_with i m leaving known plain leaves knows k =
      let same : calls_of (heard i) m.who ≡ calls_of (heard Wake) m.who = ap (filter (is_call_of m.who)) (same_calls i plain) in
      record {
        joined = k.joined;
        refused = k.refused;
        known = knows;
        joining = λ still. subst (λ ms. JoinStands m.joining ms) (sym same) (k.joining still);
        renewing = same_renewing i m.who plain ∙ k.renewing;
        leaving = leaves;
        asked = subst (AskedStands st m.asked) (sym same) k.asked;
        turn = subst (λ ms. AreInTurn (filter (λ c. is_delta_purpose c.call.purpose) ms)) (sym same) k.turn;
        seen = subst (WatchKeeps st m.watch) (sym same) k.seen;
        spots = ap (spots_in st.layout) same ∙ k.spots;
        leases = λ n l there. subst (λ ms. LeaseStands st.layout m.who.lockspace (self_by m.who ms) l (calls_on st.layout l.spot ms)) (sym same) (k.leases n l there);
        valued = subst (λ ms. AllByRecursion (λ d. IsTrue (on_lease st.layout m.leases d)) ms) (sym same) k.valued;
        values = λ n l there. ap (λ ms. newest_value (values_on st.layout l.spot ms)) same ∙ k.values n l there;
      }

  -- A member whose leaving doesn't begin.
  pub member_heard : (i : Input) (m : MemberState) → NotAnswer i → leaving_job st (heard i) m.who ≡ leaving_job st (heard Wake) m.who → MemberStands st (heard Wake) m → MemberStands st (heard i) m
  member_heard i m plain same k =
      member_with i m m.leaving m.known plain
      (ap (λ o. option_map (λ (j : Job). record { at = j.at; reading = j.reading; kills_from = j.at + 1 }) o) same ∙ k.leaving)
      (known_heard i m m.known.leaving plain (ap (λ o. option_map (λ (j : Job). j.number) o) same ∙ ap (λ (d : DeltaKnown). d.leaving) k.known) k) k

  -- ---- the whole

  -- What an input makes of lines, jobs, members, children and kill programs.
  pub record Changes (h : HostState) (i : Input) (next : ℕ) (js : List JobState) (ms : List MemberState) (ks : List Child) (ps : List KillProgram) : Type 0 where
    pub plain : NotAnswer i
    pub begun : sessions st (heard i) ≡ sessions st (heard Wake)
    pub lines : next_job st (heard i) ≡ next
    pub risen : h.next_job ≤ next
    pub processes : map (λ k. k.process) (children (heard i)) ≡ map (λ k. k.process) (children (heard Wake))
    pub told : filter_map (λ k. k.job) (children (heard i)) ≡ filter_map (λ k. k.job) (children (heard Wake))
    pub known : (n : ℕ) → is_some (job_numbered st (heard Wake) n) ≡ true → is_some (job_numbered st (heard i) n) ≡ true
    pub whos : map (λ m. m.who) h.members ≡ map (λ m. m.who) ms
    pub members : (k : ℕ) (m : MemberState) → slice_get ms k ≡ Some m → MemberStands st (heard i) m
    pub jobs : map (kept_job (heard i)) (running_jobs st (heard i)) ≡ js
    pub children : filter is_there (children (heard i)) ≡ ks
    pub programs : kill_programs st (heard i) ≡ ps

  how_many : (xs ys : List Child) → map (λ k. k.process) xs ≡ map (λ k. k.process) ys → length xs ≡ length ys
  how_many xs ys same = sym (length-map xs (λ (k : Child). k.process)) ∙ (ap (λ ns. length ns) same ∙ length-map ys (λ (k : Child). k.process))

  pub keeps_heard : (h : HostState) (i : Input) (next quiet : ℕ) (js : List JobState) (ms : List MemberState) (ks : List Child) (ps : List KillProgram) → Changes h i next js ms ks ps → Keeps h st (heard Wake)
      → Keeps (record h { next_job = next; quiet_until = quiet; jobs = js; members = ms; children = ks; programs = ps }) st (heard i)
  keeps_heard h i next quiet js ms ks ps c k =
      let same : submitted (heard i) ≡ submitted (heard Wake) = same_calls i c.plain in
      let many : length (children (heard i)) ≡ length (children (heard Wake)) = how_many (children (heard i)) (children (heard Wake)) c.processes in
      record {
        config = k.config;
        entries = k.entries;
        calls = ap (λ cs. st.first.call + length cs) same ∙ k.calls;
        lines = c.lines;
        replied = λ n above. k.replied n (trans_le h.next_job next n c.risen above);
        started = many ∙ k.started;
        born = ap (λ ss. length ss) c.begun ∙ k.born;
        numbered = ap (λ (cs : List Submitted). map (λ m. m.call.number) cs) same ∙ k.numbered
            ∙ sym (ap (λ cs. reverse (range_with_len st.first.call (length cs))) same);
        counted = c.processes ∙ k.counted ∙ ap (range_with_len first_child) (sym many);
        present =
            ap (λ cs. in_order (λ a b. is_text_before a.lockspace b.lockspace)
            (filter (λ t. is_none (ended_after (heard Wake) t) || is_none (joined_after (heard Wake) t) && list_any (λ m. is_write m.call.op) (unanswered (filter (is_call_of t) cs)))
            (sessions st (heard i)))) same
            ∙ ap (λ ss. in_order (λ a b. is_text_before a.lockspace b.lockspace)
            (filter (λ t. is_none (ended_after (heard Wake) t) || is_none (joined_after (heard Wake) t) && list_any (λ m. is_write m.call.op) (unanswered (filter (is_call_of t) (submitted (heard Wake)))))
            ss)) c.begun
            ∙ (k.present ∙ c.whos);
        members = c.members;
        connected = k.connected;
        unanswered = ap (λ cs. map kept_call (unanswered cs)) same ∙ k.unanswered;
        single = k.single;
        owned =
            subst (λ cs. AllByRecursion (λ n. IsTrue (is_some (job_numbered st (heard i) n))) (filter_map (λ m. job_of m.call.purpose) cs ++ filter_map (λ z. z.job) (children (heard i)))) (sym same)
            (subst (λ ns. AllByRecursion (λ n. IsTrue (is_some (job_numbered st (heard i) n))) (filter_map (λ m. job_of m.call.purpose) (submitted (heard Wake)) ++ ns)) (sym c.told)
            (all_as (λ n. IsTrue (is_some (job_numbered st (heard Wake) n))) (λ n. IsTrue (is_some (job_numbered st (heard i) n)))
            (filter_map (λ (m : Submitted). job_of m.call.purpose) (submitted (heard Wake)) ++ filter_map (λ (z : Child). z.job) (children (heard Wake))) c.known k.owned));
        jobs = c.jobs;
        holdings = k.holdings;
        children = c.children;
        programs = c.programs;
      }
