-- Of the replies of a step that is due one has a list at most: what the step's line is answered at once. It has no more elements than an area has
-- hosts, or than there are sessions.
use Rattle.sl_cell.specs.Copies.{AreShort, IsShort, lists_in, sessions_in, states_in}
use Rattle.sl_due_law.proofs.Causes.AnswersAreWell.{traces_are_caused}
use Rattle.sl_due_law.proofs.Causes.NamesBefore.{present_before}
use Rattle.sl_host_state.specs.KeptState.{Config, HostKept, MemberState, config_with}
use Rattle.sl_host_state.specs.HostStands.{config_of}
use Rattle.sl_host_step.specs.HostServes.{Keeping}
use Rattle.sl_live_play.proofs.ListLengths.{mapped_few, one_counts, ordered_less, sifted_less, told_few}
use Rattle.sl_words.proofs.Lists.{contains_none, find_inside}
use Rattle.sl_due_facts.proofs.Acts.AddedAtEnd.{contains_last}
use Rattle.sl_run.specs.Caused.{AnswersWell, Answering, CausedBy, IsAtCommand, before_entry, the_session}
use Rattle.sl_trace.specs.Sessions.{is_active, is_joined, is_present, is_session_arg, present_sessions, sessions}
use Rattle.sl_trace.specs.Traces.{Job, Setting, Trace, is_before_input, job_numbered, jobs, next_job}
use Rattle.sl_trace.specs.Sightings.{sessions_seen, states_seen}
use Rattle.sl_trace.specs.declared.effects.Effects.{Effects}
use Rattle.sl_trace.specs.declared.effects.Entry.{Entry}
use Rattle.sl_trace.specs.declared.effects.JobReply.{JobReply}
use Rattle.sl_trace.specs.declared.effects.Start.{Start}
use Rattle.sl_trace.specs.declared.input.Input.TheVariants.{Line}
use Rattle.sl_trace.specs.declared.input.Input.{Input}
use Rattle.sl_trace.specs.declared.reply.Reply.TheVariants.{Ahead, BadCommand as Misread, Busy, Done, Generation, Granted, Held as HeldBy, Hosts, IdHeld, IdLate, IdLost, IoFault, IoTimeout, Joined, Joining as StillJoining, Limit as LimitReached, NoOrphan, NoProcess, NoSession, NotHeld, Pending, Recovering, RequestOld, Rival, Sessions, Shared as SharedBy, SpawnFault, Started, TornBlock, TornDelta, TornLeader, Value, ValueSet, ValueTorn, WrongArea, WrongDelta}
use Rattle.sl_trace.specs.declared.reply.Reply.{Reply}
use Rattle.sl_trace.specs.declared.reply.StateOf.{StateOf}
use Rattle.sl_trace.specs.declared.session.Session.{Session}
use Rattle.std.proofs.Common.{List, None, Option, Some, [], ap, ap₂, append-nil, arith, filter, inl, inr, length, min, refl, subst, suc, sym, zero, ℕ, ◌+◌, ◌<◌, ◌==◌, ◌≡◌, ◌≤◌, ◌∙◌, ◌∷◌, ◌⊎◌}
use Rattle.std.proofs.lemmas.Bool.{eqb-true}
use Rattle.std.proofs.lemmas.List.Elements.{Contains-get_or}
use Rattle.std.proofs.lemmas.List.{length-map}
use Rattle.std.specs.Prelude.{Contains, IsSomeAnd, IsTrue, is_some, slice_index_or}

-- ---- what a list has

-- So long is each list of what a step tells where its input is looked at.
record Bounds (x : Answering) (longest : ℕ) : Type 0 where
  hosts : x.setting.layout.hosts ≤ longest
  present : length (present_sessions x.setting (before_entry x)) ≤ longest

-- A reply has few lists, and what has one answers the entry's own line.
record Listed (x : Answering) (longest : ℕ) (r : Reply) : Type 0 where
  states : length (states_in r) ≤ longest
  sessions : length (sessions_in r) ≤ longest
  few : lists_in r ≤ 1
  at : 1 ≤ lists_in r → IsAtCommand x

at_most_one : (n : ℕ) → min 1 n ≤ 1
at_most_one zero = omega arith
at_most_one (suc n) = omega arith

none : (x : Answering) (longest : ℕ) (r : Reply) → states_in r ≡ [] → sessions_in r ≡ [] → Listed x longest r
none x longest r no_states no_sessions =
    record {
      states = omega (arith, ap length no_states);
      sessions = omega (arith, ap length no_sessions);
      few = at_most_one (length (states_in r) + length (sessions_in r));
      at = λ some. absurd (nothing some);
    }
  where
    nothing : 1 ≤ lists_in r → ⊥
    nothing some = let zero_lists : lists_in r ≡ 0 = ap₂ (λ (a b : ℕ). min 1 (a + b)) (ap length no_states) (ap length no_sessions) in omega (arith, some, zero_lists)

-- What is told of a session was seen of it.
hosts_told : (x : Answering) (states : List StateOf) → CausedBy x (Hosts states) → IsAtCommand x × ((s : Session) × (states_seen x.setting (before_entry x) s x.entry.reading ≡ states))
hosts_told x states (at, (a, command, told)) = (at, by (the_session x) told)
  where
    by : (o : Option Session)
        → IsSomeAnd o (λ s. IsTrue (is_session_arg s a) × IsTrue (is_active x.setting (before_entry x) s) × (states_seen x.setting (before_entry x) s x.entry.reading ≡ states))
        → (s : Session) × (states_seen x.setting (before_entry x) s x.entry.reading ≡ states)
    by None h = absurd h
    by (Some s) (names, active, is) = (s, is)

-- The states are as many as an area has hosts.
states_few : (x : Answering) (s : Session) (longest : ℕ) → x.setting.layout.hosts ≤ longest → length (states_seen x.setting (before_entry x) s x.entry.reading) ≤ longest
states_few x s longest h = mapped_few _ x.setting.layout.hosts longest h

-- The sessions are some of those present.
sessions_few : (x : Answering) (longest : ℕ) → length (present_sessions x.setting (before_entry x)) ≤ longest → length (sessions_seen x.setting (before_entry x)) ≤ longest
sessions_few x longest h = told_few _ (is_joined (before_entry x)) (present_sessions x.setting (before_entry x)) longest h

listed : (x : Answering) (longest : ℕ) → Bounds x longest → (r : Reply) → CausedBy x r → Listed x longest r
listed x longest b NoSession cause = none x longest NoSession refl refl
listed x longest b StillJoining cause = none x longest StillJoining refl refl
listed x longest b (Recovering t) cause = none x longest (Recovering t) refl refl
listed x longest b (IdHeld version later) cause = none x longest (IdHeld version later) refl refl
listed x longest b (IdLost own found) cause = none x longest (IdLost own found) refl refl
listed x longest b (IdLate claimed now) cause = none x longest (IdLate claimed now) refl refl
listed x longest b TornDelta cause = none x longest TornDelta refl refl
listed x longest b TornLeader cause = none x longest TornLeader refl refl
listed x longest b (TornBlock host) cause = none x longest (TornBlock host) refl refl
listed x longest b (HeldBy lver owner) cause = none x longest (HeldBy lver owner) refl refl
listed x longest b (SharedBy owner) cause = none x longest (SharedBy owner) refl refl
listed x longest b (Rival host mbal) cause = none x longest (Rival host mbal) refl refl
listed x longest b (Ahead host lver) cause = none x longest (Ahead host lver) refl refl
listed x longest b (IoTimeout call from to) cause = none x longest (IoTimeout call from to) refl refl
listed x longest b (IoFault call) cause = none x longest (IoFault call) refl refl
listed x longest b (Pending call) cause = none x longest (Pending call) refl refl
listed x longest b (Busy process) cause = none x longest (Busy process) refl refl
listed x longest b NoOrphan cause = none x longest NoOrphan refl refl
listed x longest b NotHeld cause = none x longest NotHeld refl refl
listed x longest b SpawnFault cause = none x longest SpawnFault refl refl
listed x longest b ValueTorn cause = none x longest ValueTorn refl refl
listed x longest b (Misread column) cause = none x longest (Misread column) refl refl
listed x longest b (LimitReached which) cause = none x longest (LimitReached which) refl refl
listed x longest b (RequestOld held stored) cause = none x longest (RequestOld held stored) refl refl
listed x longest b (WrongArea lockspace resource hosts) cause = none x longest (WrongArea lockspace resource hosts) refl refl
listed x longest b (WrongDelta lockspace id) cause = none x longest (WrongDelta lockspace id) refl refl
listed x longest b (NoProcess p) cause = none x longest (NoProcess p) refl refl
listed x longest b (Joined generation) cause = none x longest (Joined generation) refl refl
listed x longest b Done cause = none x longest Done refl refl
listed x longest b (Generation generation) cause = none x longest (Generation generation) refl refl
listed x longest b (Granted lver) cause = none x longest (Granted lver) refl refl
listed x longest b (Started lver process) cause = none x longest (Started lver process) refl refl
listed x longest b (Value lver seq bytes) cause = none x longest (Value lver seq bytes) refl refl
listed x longest b (ValueSet lver seq) cause = none x longest (ValueSet lver seq) refl refl
listed x longest b (Hosts states) cause =
    let told = hosts_told x states cause in
    record {
      states = subst (λ l. length l ≤ longest) told.1.1 (states_few x told.1.0 longest b.hosts);
      sessions = omega arith;
      few = at_most_one (length states + 0);
      at = λ some. told.0;
    }
listed x longest b (Sessions told) cause =
    record {
      states = omega arith;
      sessions = subst (λ l. length l ≤ longest) cause.2 (sessions_few x longest b.present);
      few = at_most_one (0 + length told);
      at = λ some. cause.0;
    }

-- ---- what is there at the input

present_few : (x : Answering) → length (present_sessions x.setting (before_entry x)) ≤ length (present_sessions x.setting x.past)
present_few x =
    let ks : List Start = filter (λ (k : Start). is_some k.stands_for) x.entry.effects.starts in
    let rs : List JobReply = filter (λ (a : JobReply). is_before_input a.reply) x.entry.effects.replies in
    let t : Trace = before_entry x in
    let same : sessions x.setting t ≡ sessions x.setting x.past = append-nil (sessions x.setting x.past) in
    let fewer : length (filter (is_present t) (sessions x.setting t)) ≤ length (filter (is_present x.past) (sessions x.setting x.past)) =
    subst (λ ss. length (filter (is_present t) ss) ≤ length (filter (is_present x.past) (sessions x.setting x.past))) (sym same)
    (sifted_less (is_present t) (is_present x.past) (sessions x.setting x.past) (λ s is. present_before x.past x.entry.reading ks rs s is)) in
    ordered_less _ (filter (is_present t) (sessions x.setting t)) (filter (is_present x.past) (sessions x.setting x.past)) fewer

-- ---- the job of a line

at_by : (st : Setting) (es : Trace) (now : ℕ) (i : Input) (fx : Effects) → ((k : Job) → Contains (jobs st es) k → k.at < length es)
    → (j : Job) → Contains (jobs st (record { reading = now; input = i; effects = fx } ∷ es)) j → (j.at < length es) ⊎ ((j.number ≡ next_job st es) × (j.at ≡ length es))
at_by st es now (Line text) fx h j there = by (contains_last (jobs st es) made j there) where
  made : Job
  made = record { number = next_job st es; at = length es; reading = now; command = st.read text }

  by : Contains (jobs st es) j ⊎ (made ≡ j) → (j.at < length es) ⊎ ((j.number ≡ next_job st es) × (j.at ≡ length es))
  by (inl old) = inl (h j old)
  by (inr new) = inr (sym (ap (λ (k : Job). k.number) new), sym (ap (λ (k : Job). k.at) new))
at_by st es now i fx h j there = inl (h j (subst (λ js. Contains js j) (append-nil (jobs st es)) there))

-- A job's line is one of the trace.
at_below : (st : Setting) (es : Trace) (j : Job) → Contains (jobs st es) j → j.at < length es
at_below st [] j there = absurd (contains_none j there)
at_below st (e ∷ es) j there = elim (at_by st es e.reading e.input e.effects (λ k inside. at_below st es k inside) j there) [
  | inl old ↦ omega (arith, old)
  | inr new ↦ omega (arith, new.1)
]

-- So one whose line is the newest entry's has the next number.
newest_number : (st : Setting) (past : Trace) (e : Entry) (n : ℕ) (j : Job) → job_numbered st (e ∷ past) n ≡ Some j → j.at ≡ length past → n ≡ next_job st past
newest_number st past e n j is at =
    let found = find_inside (λ (k : Job). k.number == n) (jobs st (e ∷ past)) j is in
    sym (eqb-true j.number n found.1) ∙ by (at_by st past e.reading e.input e.effects (λ k inside. at_below st past k inside) j found.0)
  where
    by : (j.at < length past) ⊎ ((j.number ≡ next_job st past) × (j.at ≡ length past)) → j.number ≡ next_job st past
    by (inl old) = absurd (never old)
      where
        never : j.at < length past → ⊥
        never less = omega (arith, less, at)
    by (inr new) = new.0

-- ---- all replies of an entry

answers_short : (st : Setting) (past : Trace) (e : Entry) (longest : ℕ) → AnswersWell st past e → st.layout.hosts ≤ longest → length (present_sessions st past) ≤ longest
    → AreShort longest e.effects.replies
answers_short st past e longest well hosts present =
    record {
      one = one_counts (λ (a : JobReply). lists_in a.reply) (λ (a : JobReply). a.job) (next_job st past) e.effects.replies well.once
          (λ a there. ((its a there).few, λ some. newest_number st past e a.job (asked a there).0 (asked a there).1 ((its a there).at some)));
      each = λ k d inside. let a : JobReply = slice_index_or e.effects.replies k d in short a (its a (Contains-get_or e.effects.replies k d inside));
    }
  where
    asked : (a : JobReply) → Contains e.effects.replies a → (j : Job) × (job_numbered st (e ∷ past) a.job ≡ Some j)
    asked a there = let w = well.running a there in (w.0, w.1)

    place : (a : JobReply) → Contains e.effects.replies a → Answering
    place a there = record { setting = st; past = past; entry = e; job = (well.running a there).0 }

    its : (a : JobReply) → (there : Contains e.effects.replies a) → Listed (place a there) longest a.reply
    its a there =
        let w = well.running a there in
        listed (place a there) longest (record { hosts = hosts; present = omega (arith, present, present_few (place a there)) }) a.reply w.3

    short : (a : JobReply) → {x : Answering} → Listed x longest a.reply → IsShort longest a
    short a l = record { states = l.states; sessions = l.sessions }

-- Of a host's step.
pub replies_are_short : (k later : HostKept) (st : Setting) (es : Trace) (e : Entry) (longest : ℕ) → Keeping k st es → Keeping later st (e ∷ es) → k.config.sizes.hosts ≤ longest → length k.members ≤ longest
    → AreShort longest e.effects.replies
replies_are_short k later st es e longest before after hosts members =
    let config : config_of st ≡ config_with st.read k.config = before.stands.keeps.config in
    let many : st.layout.hosts ≡ k.config.sizes.hosts = ap (λ (c : Config). c.layout.hosts) config in
    let present : length (present_sessions st es) ≡ length k.members = ap length before.stands.keeps.present ∙ length-map k.members (λ (m : MemberState). m.who) in
    answers_short st es e longest (traces_are_caused st (e ∷ es) before.setting after.stands.past).0 (omega (arith, hosts, many)) (omega (arith, members, present))
