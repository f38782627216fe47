-- The laws once more, as tests that compute, for trying them on runs and on literal traces. Each test mirrors one field of a law.
use Rattle.sl_examples.specs.CallTests.{area_test, before_call, block_test, both_after, calls_test, delta_test, each_call, has_won, implies, leader_test}
use Rattle.sl_area.specs.AreaLayout.{is_base, value_offset}
use Rattle.sl_run.specs.LawfulEnd.{gives_up, takes_over}
use Rattle.sl_run.specs.LawfulLeader.{open_writes_on}
use Rattle.sl_run.specs.LawfulModes.{shared_since}
use Rattle.sl_run.specs.LawfulParting.{is_leaving_write}
use Rattle.sl_run.specs.LawfulRecovery.{was_killed}
use Rattle.sl_run.specs.LawfulValue.{held_since, writes_since}
use Rattle.sl_run.specs.LawfulConnections.{acts_until, is_covered}
use Rattle.sl_trace.specs.Ballots.{same_owner}
use Rattle.sl_trace.specs.Counts.{next_value_seq}
use Rattle.sl_trace.specs.Jobs.{jobs_of_session}
use Rattle.sl_trace.specs.Leases.{block_of_host, block_written, blocks_given, ended_ballot, exclusive_on, freed, has_shared_on, holdings_on, is_at, is_block_read, is_free_write, Leader_freed, leader_written, lease_calls, Mode_set, Phase1_write, Phase2_read, spot_of_call, value_written}
use Rattle.sl_run.specs.Runs.{daemons_of}
use Rattle.sl_run.specs.Worlds.{World}
use Rattle.sl_sector.specs.declared.sector.Block.{Block}
use Rattle.sl_sector.specs.declared.sector.ValueRec.{ValueRec}
use Rattle.sl_trace.specs.Sessions.{calls_of, free_write, generation_of, has_open_write, holders_of, holdings_of, is_active, is_joined, is_leaving, is_present, is_recovering, leaving_job, leaving_of, me, recovery_of, session_numbered, sessions}
use Rattle.sl_trace.specs.Sightings.{counted_over}
use Rattle.sl_trace.specs.declared.session.Begun.{Begun}
use Rattle.sl_trace.specs.declared.session.Session.{Session}
use Rattle.sl_trace.specs.WatchdogConnections.{connection_named, connections, registers, unregisters}
use Rattle.sl_trace.specs.EffectTexts.{is_ok_reply}
use Rattle.sl_trace.specs.Traces.{exited_by, has_orphan_of, held_by, holdings, is_answered_ok, is_ended_by, is_ok_answer, is_orphan, is_shared, is_write, last_reading, line_in, same_place, Setting, spot_of_grant, Submitted, submitted, Trace}
use Rattle.sl_trace.specs.declared.effects.Entry.{Entry}
use Rattle.sl_trace.specs.declared.effects.Grant.{Grant}
use Rattle.sl_trace.specs.declared.effects.Purpose.TheVariants.{ValueRead}
use Rattle.sl_trace.specs.declared.effects.Purpose.{Purpose}
use Rattle.sl_trace.specs.declared.effects.Signal.TheVariants.{Kill, Term}
use Rattle.sl_trace.specs.declared.effects.Spot.{Spot}
use Rattle.sl_trace.specs.declared.input.Input.TheVariants.{Spawned}
use Rattle.sl_trace.specs.declared.reply.Reply.TheVariants.{Value}
use Rattle.sl_trace.specs.declared.reply.Reply.{Reply}
use Rattle.sl_words.specs.Words.{choose, present, same_truth, some_is}
use Rattle.std.specs.List.{list_all, list_any, range_with_len}
use Rattle.std.specs.Option.{option_map_or}
use Rattle.std.specs.Prelude.{Bool, List, None, Option, Some, bytes_eq, false, filter, flat_map, is_none, is_some, length, nat_le, nat_lt, not, true, [], ℕ, ◌&&◌, ◌++◌, ◌+◌, ◌==◌, ◌||◌, ◌∷◌}

-- ---- grants and modes

-- Of each grant and its session; a grant of no session fails.
abbrev pub each_grant : Setting → (Session → Grant → Bool) → Trace → Entry → Bool
each_grant st p past e = list_all (λ g. some_is (λ s. p s g) (session_numbered st (e ∷ past) g.session)) e.effects.grants

-- That the blocks from this call on have the mode.
abbrev pub all_shared_test : Setting → Trace → Session → Spot → Submitted → Bool
all_shared_test st es s at mode =
    list_all (λ d. implies (nat_le mode.call.number d.call.number) (option_map_or (λ b. b.shared && b.mode_gen == generation_of es s) (block_written d) true)) (lease_calls st es s at)

-- Whether this free and this mode justify a shared grant.
abbrev pub shared_by_test : Setting → Trace → Session → Spot → ℕ → Submitted → Submitted → Submitted → Bool
shared_by_test st es s at n read mode free =
    some_is (λ p. p.0 == n && same_owner p.1 (me es s)) (ended_ballot st.layout read (before_call read (lease_calls st es s at)))
    && some_is (λ a. nat_le a.at mode.at) read.answer
    && some_is (λ b. b.shared && b.mode_gen == generation_of es s && b.lver == n) (block_written mode)
    && some_is (λ a. is_ok_answer a.answer && nat_le a.at free.at) mode.answer
    && is_free_write n free && is_answered_ok free
    && list_all (λ d. implies (is_free_write n d) (nat_le free.call.number d.call.number)) (lease_calls st es s at)
    && all_shared_test st es s at mode && not (shared_since read.at es s at)

-- Whether this write of the mode justifies a shared grant by conversion.
abbrev pub conversion_test : Setting → Trace → Trace → Session → Spot → ℕ → Submitted → Bool
conversion_test st past es s at n mode =
    some_is (λ h. h.lver == n) (exclusive_on past s at) && is_none (exclusive_on es s at)
    && some_is (λ b. b.shared && b.mode_gen == generation_of es s && b.lver == n) (block_written mode)
    && some_is (λ a. a.at == length past && is_ok_answer a.answer) mode.answer && all_shared_test st es s at mode

-- A shared grant.
abbrev pub shared_grant_test : Setting → Trace → Trace → Session → Spot → ℕ → Bool
shared_grant_test st past es s at n =
    let cs : List Submitted = lease_calls st es s at in
    list_any (λ h. is_shared h.mode && h.lver == n) (holdings_on past s at)
    || list_any (conversion_test st past es s at n) (filter (is_at Mode_set) cs)
    || list_any (λ read. list_any (λ mode. list_any (shared_by_test st es s at n read mode) (filter (is_at Leader_freed) cs)) (filter (is_at Mode_set) cs)) (filter (is_at Phase2_read) cs)

-- Whether no shared mode of another stood in these blocks.
abbrev pub none_shared_test : Setting → Trace → Session → List (Option Block) → Bool
none_shared_test st es s blocks =
    list_all (λ b. b.host == s.id || not b.shared || counted_over st es s b.host b.mode_gen) (present blocks)
    && list_all (λ host. host == s.id || is_some (block_of_host blocks host)) (range_with_len 1 st.layout.hosts)

-- Whether this write and this read justify an exclusive grant.
abbrev pub exclusive_by_test : Setting → Trace → Session → Spot → ℕ → Submitted → Submitted → Bool
exclusive_by_test st es s at n write read =
    some_is (λ own. own.lver == n && list_all (λ d. implies (nat_le write.call.number d.call.number) (option_map_or (λ b. b.mbal == own.mbal) (block_written d) true)) (lease_calls st es s at)) (block_written write)
    && both_after write read (lease_calls st es s at)
    && some_is (none_shared_test st es s) (blocks_given st.layout read (before_call read (lease_calls st es s at)))

-- An exclusive grant.
abbrev pub exclusive_grant_test : Setting → Trace → Session → Spot → ℕ → Bool
exclusive_grant_test st es s at n =
    let cs : List Submitted = lease_calls st es s at in
    has_won st es s at n && list_any (λ w. list_any (exclusive_by_test st es s at n w) (filter is_block_read cs)) (filter (is_at Phase1_write) cs)

-- By the mode of the grant.
abbrev pub mode_grant_test : Setting → Trace → Trace → Session → Grant → Bool
mode_grant_test st past es s g =
    elim (is_shared g.mode) [
      | true ↦ shared_grant_test st past es s (spot_of_grant g) g.lver
      | false ↦ exclusive_grant_test st es s (spot_of_grant g) g.lver
    ]

-- The mode of a block.
abbrev pub mode_test : Setting → Trace → Session → Submitted → Block → Bool
mode_test st es s c b =
    same_truth b.shared (has_shared_on es s (spot_of_call st.layout c) || is_at Mode_set c) && implies b.shared (b.mode_gen == generation_of es s)

-- The law of modes.
abbrev pub modes_test : Setting → Trace → Entry → Bool
modes_test st past e =
    each_grant st (mode_grant_test st past (e ∷ past)) past e
    && each_call st (λ es s c. option_map_or (mode_test st es s c) (block_written c) true) past e

-- Whether the session took the leader.
abbrev pub taken_test : Setting → Trace → Session → Spot → ℕ → Bool
taken_test st es s at n = list_any (λ c. some_is (λ l. l.held && l.lver == n) (leader_written c) && is_answered_ok c) (lease_calls st es s at)

-- A grant.
abbrev pub grant_to_test : Setting → Trace → Session → Grant → Bool
grant_to_test st es s g =
    (is_orphan g || is_active st es s) && bytes_eq g.lockspace s.lockspace && is_base st.layout g.offset
    && list_all (λ h. not (same_place h.path h.offset g.path g.offset) || h.process == g.process || is_shared h.mode && is_shared g.mode) (holdings es)
    && length (held_by (holdings es) g.process g.path g.offset) == 1
    && (is_shared g.mode || taken_test st es s (spot_of_grant g) g.lver && nat_lt (freed (lease_calls st es s (spot_of_grant g))) g.lver)

-- An orphan.
abbrev pub orphan_test : Trace → Entry → Grant → Bool
orphan_test past e g =
    not (has_orphan_of (holdings past) g)
    && list_any (λ h. some_is (λ p. p == h.process) (exited_by e.input) && h.persistent && same_place h.path h.offset g.path g.offset
    && h.session == g.session && h.lver == g.lver && same_truth (is_shared h.mode) (is_shared g.mode)) (holdings past)

-- The law of grants.
abbrev pub grant_test : Setting → Trace → Entry → Bool
grant_test st past e =
    each_grant st (grant_to_test st (e ∷ past)) past e
    && list_all (λ g. implies (is_orphan g) (orphan_test past e g)) e.effects.grants
    && list_all (λ h. implies (not (is_orphan h) && some_is (λ p. p == h.process) (exited_by e.input) && h.persistent) (has_orphan_of (holdings (e ∷ past)) h)) (holdings past)

-- Why a holding ends.
abbrev pub end_reason_test : Setting → Entry → Grant → Bool
end_reason_test st e g =
    not (is_orphan g) && some_is (λ p. p == g.process) (exited_by e.input)
    || elim e.input [ Spawned p ok ↦ p == g.process && not ok | _ ↦ false ]
    || some_is (λ text. gives_up g (st.read text)) (line_in e.input)
    || list_any (λ h. same_place h.path h.offset g.path g.offset
    && (h.process == g.process && same_truth h.persistent g.persistent || some_is (λ text. takes_over g h (st.read text)) (line_in e.input))) e.effects.grants

-- The law of ends.
abbrev pub end_test : Setting → Trace → Entry → Bool
end_test st past e =
    list_all (λ x. list_any (λ g. g.process == x.process && same_place g.path g.offset x.path x.offset && end_reason_test st e g) (holdings past)) e.effects.ends
    && list_all (λ g. implies (not (is_orphan g) && some_is (λ p. p == g.process) (exited_by e.input)) (is_ended_by e.effects.ends g)) (holdings past)

-- ---- watchdog, recovery, values

-- The law of the watchdog.
abbrev pub watchdog_test : Setting → Trace → Entry → Bool
watchdog_test st past e =
    list_all (λ s. implies (is_covered (e ∷ past) s)
    (some_is (λ k. nat_le k.expiry (acts_until st (e ∷ past) s)) (connection_named (connections st (e ∷ past)) s.lockspace))) (sessions st (e ∷ past))
    && list_all (λ s. implies (is_covered past s && is_covered (e ∷ past) s)
    (not (list_any (λ m. registers s.lockspace m || unregisters s.lockspace m) e.effects.moves))) (sessions st past)
    && list_all (λ s. implies (is_present past s && list_any (unregisters s.lockspace) e.effects.moves)
    (length (holdings_of (e ∷ past) s) == 0 && not (has_open_write (e ∷ past) s))) (sessions st past)

-- Whether the entry signals the process.
abbrev pub sends_term : Entry → ℕ → Bool
sends_term e p = list_any (λ s. s.process == p && elim s.signal [ Term ↦ true | Kill ↦ false ]) e.effects.signals

-- What a start of recovery or leaving does.
abbrev pub stops_test : Setting → Trace → Entry → Session → Option ℕ → Bool
stops_test st past e s kept =
    list_all (λ p. sends_term e p || list_any (λ x. some_is (λ q. q == p) x.stands_for) e.effects.starts) (holders_of past s)
    && list_all (λ j. some_is (λ k. k == j.number) kept || list_any (λ a. a.job == j.number && not (is_ok_reply a.reply)) e.effects.replies) (jobs_of_session st past s)

-- The kills after a start.
abbrev pub kills_test : Setting → Trace → Session → Begun → Bool
kills_test st es s b =
    implies (nat_lt (b.at + 1) (length es) && nat_le (b.reading + st.grace) (last_reading st es))
    (list_all (λ p. was_killed b.at p es) (holders_of es s))

-- How a session may end.
abbrev pub may_part_test : Setting → Trace → Entry → Session → Bool
may_part_test st past e s =
    is_some (recovery_of st (e ∷ past) s) && length (holdings_of (e ∷ past) s) == 0 && not (has_open_write (e ∷ past) s)
    || some_is (λ c. some_is (λ a. a.at == length past) c.answer) (free_write (calls_of (e ∷ past) s))

-- The law of recovery and leaving, of one session.
abbrev pub recovery_of_test : Setting → Trace → Entry → Session → Bool
recovery_of_test st past e s =
    option_map_or (λ b. implies (b.at == length past) (stops_test st past e s None) && kills_test st (e ∷ past) s b) (recovery_of st (e ∷ past) s) true
    && option_map_or (λ j. implies (j.at == length past) (stops_test st past e s (Some j.number))) (leaving_job st (e ∷ past) s) true
    && option_map_or (kills_test st (e ∷ past) s) (leaving_of st (e ∷ past) s) true
    && implies (is_joined past s) (same_truth (not (is_joined (e ∷ past) s)) (may_part_test st past e s))

-- The law of recovery and leaving.
abbrev pub recovery_test : Setting → Trace → Entry → Bool
recovery_test st past e =
    list_all (recovery_of_test st past e) (sessions st past)
    && each_call st (λ es s c. implies (is_recovering st es s) (not (is_write c.call.op))
    && implies (is_leaving st es s && is_write c.call.op) (is_leaving_write c.call.purpose)) past e

-- A value that is written.
abbrev pub value_write_test : Setting → Trace → Session → Spot → ValueRec → Bool
value_write_test st es s at v =
    some_is (λ g. g.lver == v.lver) (exclusive_on es s at) && v.host == s.id && v.seq == next_value_seq st es s at v.lver && length (open_writes_on st es s at) == 0

-- A value that is read.
abbrev pub value_read_test : Setting → Trace → Session → Spot → Submitted → Bool
value_read_test st es s at c =
    nat_lt 0 (length (holdings_on es s at)) && length (open_writes_on st es s at) == 0 && c.call.offset == value_offset st.layout at.base

-- Whether the call reads a value.
abbrev pub is_value_read : Purpose → Bool
is_value_read (ValueRead j) = true
is_value_read p = false

-- A reply that tells a value.
abbrev pub is_value_reply : Reply → Bool
is_value_reply (Value lver seq bytes) = true
is_value_reply r = false

-- What a reader is told.
abbrev pub value_reply_test : Setting → Trace → Entry → ℕ → Bool
value_reply_test st past e job =
    list_any (λ c. elim c.call.purpose [ ValueRead j ↦ j == job | _ ↦ false ]
    && some_is (λ a. a.at == length past) c.answer
    && some_is (λ s. is_active st (e ∷ past) s && held_since c.at (e ∷ past) s (spot_of_call st.layout c) && not (writes_since st c.at (e ∷ past) s (spot_of_call st.layout c)))
    (session_numbered st past c.call.session)) (submitted (e ∷ past))

-- The law of values.
abbrev pub value_test : Setting → Trace → Entry → Bool
value_test st past e =
    each_call st (λ es s c. option_map_or (value_write_test st es s (spot_of_call st.layout c)) (value_written c) true
    && implies (is_value_read c.call.purpose) (value_read_test st es s (spot_of_call st.layout c) c)) past e
    && list_all (λ a. implies (is_value_reply a.reply) (value_reply_test st past e a.job)) e.effects.replies

-- ---- all together

-- Which laws an entry breaks, by number from 1.
abbrev pub broken_laws : Setting → Trace → Entry → List ℕ
broken_laws st past e =
    present (choose (not (calls_test st past e)) 1 ∷ choose (not (delta_test st past e)) 2 ∷ choose (not (area_test st past e)) 3
    ∷ choose (not (block_test st past e)) 4 ∷ choose (not (leader_test st past e)) 5 ∷ choose (not (modes_test st past e)) 6
    ∷ choose (not (watchdog_test st past e)) 7 ∷ choose (not (grant_test st past e)) 8 ∷ choose (not (recovery_test st past e)) 9
    ∷ choose (not (value_test st past e)) 10 ∷ choose (not (end_test st past e)) 11 ∷ [])

-- The entries of a trace that break laws, with these laws.
abbrev pub broken_in : Setting → Trace → List (ℕ × List ℕ)
broken_in st [] = []
broken_in st (e ∷ es) = broken_in st es ++ elim (broken_laws st es e) [ [] ↦ [] | n ∷ ns ↦ (length es, n ∷ ns) ∷ [] ]

-- All that is broken in a source's run, each daemon doing what is due.
abbrev pub broken_in_world : World → List (ℕ × List ℕ)
broken_in_world w = flat_map (λ d. broken_in d.setting d.trace) (daemons_of w)
