-- The host after a reply stands for the step with it.
use Rattle.sl_due.specs.Steps.{Step, seen}
use Rattle.sl_host_law.proofs.SharedFacts.PlainLists.{at_some, filter_as, in_flat}
use Rattle.sl_host_law.proofs.SharedFacts.KeptJobs.{kept_numbered, running_there}
use Rattle.sl_host_law.proofs.SharedFacts.SessionNumbers.{numbered_below}
use Rattle.sl_host_state.specs.KeptState.{Config, HostState, MemberState}
use Rattle.sl_host_state.specs.MadeEffects.{has_write_open, member_answered, member_replying, with_reply}
use Rattle.sl_host_state.specs.HostStands.{Keeps, MemberStands, Stands, is_joining, kept_call, kept_job, kept_waiting}
use Rattle.sl_host_state.specs.declared.kept_parts.JobState.{JobState}
use Rattle.sl_trace.specs.Jobs.{child_of_job, command_of}
use Rattle.sl_words.proofs.Lists.{contains_cases, contains_first, contains_more, contains_none, filter_both, got_inside}
use Rattle.sl_host_law.proofs.Replies.Answers.JobsHearAnswer.{job_with}
use Rattle.sl_host_law.proofs.Replies.MembersKeepCalls.{AreSame, member_stays}
use Rattle.sl_host_law.proofs.Replies.NotJoinedNotBegun.{not_leaving, not_recovering, not_removed}
use Rattle.sl_host_law.proofs.Replies.OpenCallsAreKept.{open_write_is}
use Rattle.sl_host_law.proofs.Replies.PlainFilters.{filter_mapped, map_where}
use Rattle.sl_host_law.proofs.Replies.PresentInOrder.{present_kept}
use Rattle.sl_host_law.proofs.Replies.RepliesAreTaken.QuietAfterReply.{quiet_replied}
use Rattle.sl_host_law.proofs.Replies.RepliesAreTaken.ReplyEndsJob.{IsOwnJoining, LeavesText, calls_stay, is_its, joined_stays, leaving_stays, own_joining, programs_stay, refused_stays, replied, reply_stays, runs_still, unsaid}
use Rattle.sl_host_law.specs.Replies.RepliesAreTaken.{LeavesHeed, LeavesLine, RepliesAreTaken, is_plain_line}
use Rattle.sl_trace.specs.Sessions.{has_open_write, is_call_of, is_join_done, is_present, joined_after, refused_after, removed_after}
use Rattle.sl_trace.specs.declared.session.Renewing.{Renewing}
use Rattle.sl_trace.specs.declared.session.Session.{Session}
use Rattle.sl_trace.specs.Traces.{Job, Setting, Submitted, Trace, children, is_of_job, is_running, is_write, job_numbered, job_of, jobs, next_job, numbers_taken, running_jobs, submitted, takes_number, unanswered}
use Rattle.sl_trace.specs.declared.effects.Effects.{Effects}
use Rattle.sl_trace.specs.declared.input.Input.{Input}
use Rattle.sl_trace.specs.declared.reply.Reply.{Reply}
use Rattle.sl_words.proofs.CaseLaws.{false_is_true, true_is_false}
use Rattle.sl_words.specs.Words.{choose, some_is}
use Rattle.std.proofs.Common.{ap, arith, inl, inr, refl, subst, sym, ◌∙◌}
use Rattle.std.proofs.lemmas.List.{map-append}
use Rattle.std.specs.List.{AllByRecursion, list_any, range_with_len}
use Rattle.std.specs.Prelude.{Bool, Contains, IsTrue, List, None, Option, Some, cond, false, filter, filter_map, find, flat_map, is_none, is_some, length, map, not, option_map, reverse, true, [], ℕ, ◌&&◌, ◌++◌, ◌+◌, ◌<◌, ◌==◌, ◌∷◌, ◌≡◌, ◌≤◌, ◌||◌, ◌⊎◌}

module _ (st : Setting) (past : Trace) (now : ℕ) (i : Input) (fx : Effects) (job : ℕ) (r : Reply) (h : HostState) where
  abbrev before : Trace
  before = unsaid past now i fx job r ∷ past

  abbrev after : Trace
  after = replied past now i fx job r ∷ past

  abbrev its : Session → Bool
  its s = is_its past now i fx job r s

  -- The host keeps the trace before the reply, whose job runs; the reply changes nothing of what the input has done.
  record IsReplied : Type 0 where
    keeps : Keeps h st before
    runs : is_running before job ≡ true
    calls : submitted after ≡ submitted before
    text : LeavesText past now i fx job r st

  own : (s : Session) → is_running before job ≡ true → its s ≡ true → IsOwnJoining past now i fx job r s
  own s runs is = own_joining past now i fx job r s is runs

  -- ---- who is present

  -- It stays, unless its joining is refused and no write of it is open.
  abbrev stays : Session → Bool
  stays s = not (its s && not (is_join_done r) && not (has_open_write before s))

  writes_same : submitted after ≡ submitted before → (s : Session) → has_open_write after s ≡ has_open_write before s
  writes_same same s = ap (λ ms. list_any (λ m. is_write m.call.op) (unanswered (filter (is_call_of s) ms))) same

  abbrev present_by : Option ℕ → Option ℕ → Option ℕ → Bool → Bool
  present_by joined removed refused open_write = is_none (elim joined as (λ z. Option ℕ) [ Some k ↦ removed | None ↦ refused ]) || is_none joined && open_write

  presence : is_running before job ≡ true → submitted after ≡ submitted before → (s : Session) → is_present after s ≡ (is_present before s && stays s)
  presence runs same s = by (its s) refl where
    and_true : (b : Bool) → b ≡ (b && true)
    and_true true = refl
    and_true false = refl

    by_done : (done writes : Bool) → present_by (choose done (length past + 1)) None (choose (not done) (length past + 1)) writes ≡ not (not done && not writes)
    by_done true writes = refl
    by_done false true = refl
    by_done false false = refl

    by : (b : Bool) → its s ≡ b → is_present after s ≡ (is_present before s && stays s)
    by false other =
        ap (λ o. present_by o (removed_after before s) (refused_after after s) (has_open_write after s)) (joined_stays past now i fx job r s other)
        ∙ ap (λ o. present_by (joined_after before s) (removed_after before s) o (has_open_write after s)) (refused_stays past now i fx job r s other)
        ∙ ap (present_by (joined_after before s) (removed_after before s) (refused_after before s)) (writes_same same s)
        ∙ and_true (is_present before s) ∙ sym (ap (λ b. is_present before s && not (b && not (is_join_done r) && not (has_open_write before s))) other)
    by true is =
        let k = own s runs is in
        ap (λ o. present_by o (removed_after before s) (refused_after after s) (has_open_write after s)) k.joins
        ∙ ap (λ o. present_by (choose (is_join_done r) (length past + 1)) o (refused_after after s) (has_open_write after s)) (not_removed before s k.not_joined)
        ∙ ap (λ o. present_by (choose (is_join_done r) (length past + 1)) None o (has_open_write after s)) k.refuses
        ∙ ap (present_by (choose (is_join_done r) (length past + 1)) None (choose (not (is_join_done r)) (length past + 1))) (writes_same same s)
        ∙ by_done (is_join_done r) (has_open_write before s)
        ∙ sym (ap (λ o. present_by o (removed_after before s) (refused_after before s) (has_open_write before s) && stays s) k.not_joined
        ∙ ap (λ o. present_by None (removed_after before s) o (has_open_write before s) && stays s) k.not_refused
        ∙ ap (λ b. true && not (b && not (is_join_done r) && not (has_open_write before s))) is)

  -- ---- the members

  -- The session's joining goes on until the reply.
  joining_still : (m : MemberState) → MemberStands st before m → IsOwnJoining past now i fx job r m.who → (m.joined ≡ false) × (m.refused ≡ false)
  joining_still m s k = (sym s.joined ∙ ap (λ o. is_some o && is_none (removed_after before m.who)) k.not_joined, sym s.refused ∙ ap is_some k.not_refused)

  writes_kept : Keeps h st before → (m : MemberState) → has_open_write before m.who ≡ has_write_open h m.who.number
  writes_kept k m = open_write_is before m.who h.unanswered k.unanswered

  who_of : IsReplied → (m : MemberState) → MemberStands st before m → map (λ (x : MemberState). x.who) (member_replying h job r m) ≡ cond (stays m.who) (m.who ∷ []) []
  who_of k m s = by (its m.who) refl where
    by_done : (done writes : Bool) → map (λ (x : MemberState). x.who) (cond done (record m { joined = true } ∷ []) (cond writes (record m { refused = true } ∷ []) [])) ≡ cond (not (not done && not writes)) (m.who ∷ []) []
    by_done true writes = refl
    by_done false true = refl
    by_done false false = refl

    never : (b : Bool) → (b && false) ≡ false
    never true = refl
    never false = refl

    by : (b : Bool) → its m.who ≡ b → map (λ (x : MemberState). x.who) (member_replying h job r m) ≡ cond (stays m.who) (m.who ∷ []) []
    by false other =
        ap (λ b. map (λ (x : MemberState). x.who) (cond b (member_answered h r m) (m ∷ []))) (ap (λ b. is_joining m && b) other ∙ never (is_joining m))
        ∙ sym (ap (λ b. cond (not (b && not (is_join_done r) && not (has_open_write before m.who))) (m.who ∷ []) []) other)
    by true is =
        let still = joining_still m s (own m.who k.runs is) in
        ap (λ b. map (λ (x : MemberState). x.who) (cond (is_joining m && b) (member_answered h r m) (m ∷ []))) is
        ∙ ap (λ b. map (λ (x : MemberState). x.who) (cond (not b && not m.refused && true) (member_answered h r m) (m ∷ []))) still.0
        ∙ ap (λ b. map (λ (x : MemberState). x.who) (cond (true && not b && true) (member_answered h r m) (m ∷ []))) still.1
        ∙ by_done (is_join_done r) (has_write_open h m.who.number)
        ∙ ap (λ w. cond (not (not (is_join_done r) && not w)) (m.who ∷ []) []) (sym (writes_kept k.keeps m))
        ∙ sym (ap (λ b. cond (not (b && not (is_join_done r) && not (has_open_write before m.who))) (m.who ∷ []) []) is)

  whos : IsReplied → (ms : List MemberState) → ((m : MemberState) → Contains ms m → MemberStands st before m) → map (λ (x : MemberState). x.who) (flat_map (member_replying h job r) ms) ≡ filter stays (map (λ m. m.who) ms)
  whos k [] all = refl
  whos k (m ∷ ms) all =
      map-append (λ (x : MemberState). x.who) (member_replying h job r m) (flat_map (member_replying h job r) ms)
      ∙ ap (λ zs. zs ++ map (λ (x : MemberState). x.who) (flat_map (member_replying h job r) ms)) (who_of k m (all m (contains_first m ms)))
      ∙ ap (λ zs. cond (stays m.who) (m.who ∷ []) [] ++ zs) (whos k ms (λ x there. all x (contains_more m ms x there))) ∙ by (stays m.who) where
        by : (b : Bool) → cond b (m.who ∷ []) [] ++ filter stays (map (λ (x : MemberState). x.who) ms) ≡ cond b (m.who ∷ filter stays (map (λ x. x.who) ms)) (filter stays (map (λ x. x.who) ms))
        by true = refl
        by false = refl

  stands_at : Keeps h st before → (m : MemberState) → Contains h.members m → MemberStands st before m
  stands_at k m there = let at = at_some h.members m there in k.members at.0 m at.1

  same_at : IsReplied → (s : Session) → AreSame st before after s
  same_at k s = record { calls = k.calls; renewals = refl; leaving = leaving_stays past now i fx job r st s k.text }

  answered_stands : IsReplied → (m : MemberState) → MemberStands st before m → its m.who ≡ true → (x : MemberState) → Contains (member_answered h r m) x → MemberStands st after x
  answered_stands k m s is x at = by (is_join_done r) (has_write_open h m.who.number) at (own m.who k.runs is).joins (own m.who k.runs is).refuses where
    k_own : IsOwnJoining past now i fx job r m.who
    k_own = own m.who k.runs is

    never : (b : Bool) → (b && false) ≡ true → is_joining m ≡ true
    never true impossible = absurd (false_is_true impossible)
    never false impossible = absurd (false_is_true impossible)

    by : (done writes : Bool) → Contains (cond done (record m { joined = true } ∷ []) (cond writes (record m { refused = true } ∷ []) [])) x
        → joined_after after m.who ≡ choose done (length past + 1) → refused_after after m.who ≡ choose (not done) (length past + 1) → MemberStands st after x
    by true writes at joins refuses = one (contains_cases (record m { joined = true }) [] x at) where
      one : (record m { joined = true } ≡ x) ⊎ Contains [] x → MemberStands st after x
      one (inr none) = absurd (contains_none x none)
      one (inl same) =
          subst (MemberStands st after) same
          (member_stays st before after m true m.refused (same_at k m.who)
          (ap (λ o. is_some o && is_none (removed_after before m.who)) joins ∙ ap is_none (not_removed before m.who (own m.who k.runs is).not_joined))
          (ap is_some refuses ∙ sym (joining_still m s (own m.who k.runs is)).1) (λ impossible. absurd (false_is_true impossible)) s)
    by false true at joins refuses = one (contains_cases (record m { refused = true }) [] x at) where
      one : (record m { refused = true } ≡ x) ⊎ Contains [] x → MemberStands st after x
      one (inr none) = absurd (contains_none x none)
      one (inl same) =
          subst (MemberStands st after) same
          (member_stays st before after m m.joined true (same_at k m.who)
          (ap (λ o. is_some o && is_none (removed_after before m.who)) joins ∙ sym (joining_still m s (own m.who k.runs is)).0)
          (ap is_some refuses) (never (not m.joined)) s)
    by false false at joins refuses = absurd (contains_none x at)

  member_replied : IsReplied → (m : MemberState) → MemberStands st before m → (x : MemberState) → Contains (member_replying h job r m) x → MemberStands st after x
  member_replied k m s x at = by (is_joining m) (its m.who) refl refl at where
    unchanged : its m.who ≡ false → (m ≡ x) ⊎ Contains [] x → MemberStands st after x
    unchanged other (inr none) = absurd (contains_none x none)
    unchanged other (inl same) =
        subst (MemberStands st after) same
        (member_stays st before after m m.joined m.refused (same_at k m.who)
        (ap (λ o. is_some o && is_none (removed_after before m.who)) (joined_stays past now i fx job r m.who other) ∙ s.joined)
        (ap is_some (refused_stays past now i fx job r m.who other) ∙ s.refused) (λ still. still) s)

    by : (joining b : Bool) → is_joining m ≡ joining → its m.who ≡ b → Contains (cond (joining && b) (member_answered h r m) (m ∷ [])) x → MemberStands st after x
    by true true joins is at = answered_stands k m s is x at
    by true false joins is at = unchanged is (contains_cases m [] x at)
    by false false joins is at = unchanged is (contains_cases m [] x at)
    by false true joins is at =
        let still = joining_still m s (own m.who k.runs is) in
        absurd (true_is_false (sym (ap (λ b. not b && not m.refused) still.0 ∙ ap (λ b. true && not b) still.1) ∙ joins))

  -- ---- the whole

  job_same : IsReplied → (j : Job) → kept_job after j ≡ kept_job before j
  job_same k j = ap (λ ms. job_with j.number (command_of j) (child_of_job before j.number) (option_map kept_waiting (find (is_of_job j.number) (unanswered ms)))) k.calls

  jobs_replied : IsReplied → map (kept_job after) (running_jobs st after) ≡ filter (λ (j : JobState). not (j.number == job)) h.jobs
  jobs_replied k =
      ap (map (kept_job after))
      (filter_as (λ j. is_running after j.number) (λ j. is_running before j.number && not (j.number == job)) (jobs st before)
      (λ j. runs_still past now i fx job r j.number k.runs ∙ ap (λ b. is_running before j.number && not b) (turned job j.number))
      ∙ filter_both (λ (j : Job). is_running before j.number) (λ j. not (j.number == job)) (jobs st before))
      ∙ map_where (kept_job after) (kept_job before) (filter (λ j. not (j.number == job)) (running_jobs st before)) (λ j there. job_same k j)
      ∙ sym (filter_mapped (λ (j : JobState). not (j.number == job)) (kept_job before) (running_jobs st before)) ∙ ap (filter (λ (j : JobState). not (j.number == job))) k.keeps.jobs where
        turned : (a b : ℕ) → (a == b) ≡ (b == a)
        turned a b = grind arith

  keeps_replied : IsReplied → job < h.next_job → Keeps (with_reply job r h) st after
  keeps_replied k below =
      let old = k.keeps in
      record {
        config = old.config;
        entries = old.entries;
        calls = ap (λ ms. st.first.call + length ms) k.calls ∙ old.calls;
        lines = old.lines;
        replied = λ n above. reply_stays past now i fx job r n (apart job n h.next_job below above) ∙ old.replied n above;
        started = old.started;
        born = old.born;
        numbered = ap (λ (ms : List Submitted). map (λ m. m.call.number) ms) k.calls ∙ old.numbered ∙ sym (ap (λ ms. reverse (range_with_len st.first.call (length ms))) k.calls);
        counted = old.counted;
        present = present_kept st before after stays refl (λ s there. presence k.runs k.calls s) ∙ ap (filter stays) old.present ∙ sym (whos k h.members (stands_at old));
        members = λ n x at.
            let inside = in_flat (member_replying h job r) h.members x (got_inside (flat_map (member_replying h job r) h.members) n x at) in
            member_replied k inside.0 (stands_at old inside.0 inside.1) x inside.2;
        connected = old.connected;
        unanswered = ap (λ ms. map kept_call (unanswered ms)) k.calls ∙ old.unanswered;
        single = old.single;
        owned = subst
            (λ ms. AllByRecursion (λ j. IsTrue (is_some (job_numbered st before j))) (filter_map (λ m. job_of m.call.purpose) ms ++ filter_map (λ c. c.job) (children before)))
            (sym k.calls) old.owned;
        jobs = jobs_replied k;
        holdings = old.holdings;
        children = old.children;
        programs = programs_stay past now i fx job r st k.text ∙ old.programs;
      } where
        apart : (a b c : ℕ) → a < c → c ≤ b → (a == b) ≡ false
        apart a b c lt le = grind arith

  -- A joining that the reply ends has begun neither recovery nor leaving.
  not_begun : IsReplied → (m : MemberState) → Contains h.members m → some_is (λ j. j == job) m.who.job ≡ true → (m.renewing.recovery ≡ None) × (m.leaving ≡ None)
  not_begun k m there is =
      let s = stands_at k.keeps m there in
      let none = (own m.who k.runs is).not_joined in (
        sym (ap (λ (z : Renewing). z.recovery) s.renewing) ∙ not_recovering st before m.who none,
        sym s.leaving ∙ ap (option_map (λ (j : Job). record { at = j.at; reading = j.reading; kills_from = j.at + 1 })) (not_leaving st before m.who none),
      )

-- ---- of a step

-- The job of a reply is one of the trace's, and runs.
record IsOfTrace (st : Setting) (es : Trace) (job : ℕ) : Type 0 where
  runs : is_running es job ≡ true
  below : job < next_job st es

of_trace : (h : HostState) (st : Setting) (es : Trace) (job : ℕ) → Keeps h st es → list_any (λ j. j.number == job) h.jobs ≡ true → IsOfTrace st es job
of_trace h st es job k runs = record { runs = (running_there h st es job k runs).3; below = numbered_below st es job (kept_numbered h st es job k runs) }

-- The line's own number is the last that was taken.
text_left : (job : ℕ) (r : Reply) (i : Input) (h : HostState) (x : Step) → Stands i h x → LeavesLine i job h → LeavesText x.past x.reading x.input x.effects job r x.setting
text_left job r i h x s leaves text is = by (subst (λ j. LeavesLine j job h) (sym s.input ∙ is) leaves) where
  taken : next_job x.setting (seen x) ≡ x.setting.first.job + (numbers_taken x.past + 1)
  taken = ap (λ j. x.setting.first.job + elim (takes_number j) as (λ z. ℕ) [ true ↦ numbers_taken x.past + 1 | false ↦ numbers_taken x.past ]) is

  one_less : (a f n m : ℕ) → m ≡ f + (n + 1) → (a + 1 == m) ≡ false → (a == f + n) ≡ false
  one_less a f n m same other = grind arith

  by : ((job + 1 == h.next_job) ≡ false) ⊎ (is_plain_line (h.config.read text) ≡ true) → ((job == next_job x.setting x.past) ≡ false) ⊎ (is_plain_line (x.setting.read text) ≡ true)
  by (inl other) = inl (one_less job x.setting.first.job (numbers_taken x.past) h.next_job (sym s.keeps.lines ∙ taken) other)
  by (inr plain) = inr (ap (λ (c : Config). is_plain_line (c.read text)) s.keeps.config ∙ plain)

pub replies_are_taken : RepliesAreTaken
replies_are_taken job r i h x s may =
    let its = of_trace h x.setting (seen x) job s.keeps may.runs in
    let heed = subst (λ j. LeavesHeed j job r x.past) (sym s.input) may.heed in
    let k : IsReplied x.setting x.past x.reading x.input x.effects job r h =
    record { keeps = s.keeps; runs = its.runs; calls = calls_stay x.past x.reading x.input x.effects job r heed; text = text_left job r i h x s may.line } in
    record {
      input = s.input;
      past = s.past;
      reading = s.reading;
      before = s.before;
      made = ap (λ (fx : Effects). record fx { replies = fx.replies ++ record { job = job; reply = r } ∷ [] }) s.made;
      keeps = keeps_replied x.setting x.past x.reading x.input x.effects job r h k (subst (λ n. job < n) s.keeps.lines its.below);
      quiet = quiet_replied h job r s.quiet (not_begun x.setting x.past x.reading x.input x.effects job r h k);
    }
