-- What an input makes of the kept state, and what a step's beginning and end do. An input is heard before anything is decided on it:
-- an answer by the one thing that waits for it, a line as a job, an exit by the children.
use Rattle.sl_area.specs.AreaSizes.{Layout}
use Rattle.sl_area.specs.Pairs.{BlocksRead, blocks_of, needs_again, pair_read, pairs_kept}
use Rattle.sl_area.specs.TornLeader.{leader_read}
use Rattle.sl_host_state.specs.KeptState.{HostState, JobState, JoinCall, JoinState, LeaseCall, LeaseState, MemberState, OpenCall, PairState, TopNumber}
use Rattle.sl_host_state.specs.MadeEffects.{has_write_open, lowered}
use Rattle.sl_host_state.specs.HostStands.{is_there, top_mbal}
use Rattle.sl_trace.specs.Ballots.{is_ahead, same_owner, stop_of, value_of}
use Rattle.sl_trace.specs.Leases.{given_with, is_leader_of, is_second, name_sought, shows_settled}
use Rattle.sl_trace.specs.LeaseDecisions.{first_step, part_read}
use Rattle.sl_trace.specs.declared.lease.Stop.{Stop}
use Rattle.sl_sector.specs.declared.sector.Block.{Block}
use Rattle.sl_sector.specs.declared.sector.Leader.{Leader}
use Rattle.sl_sector.specs.declared.sector.Owner.{Owner}
use Rattle.sl_sector.specs.declared.sector.PairBlock.{PairBlock}
use Rattle.sl_trace.specs.DeltaDecisions.{join_step_of}
use Rattle.sl_trace.specs.Sessions.{is_delta_purpose, is_join_call, is_renewal, is_session_arg, is_survey_purpose, shows_other_in}
use Rattle.sl_trace.specs.declared.delta.DeltaKnown.{DeltaKnown}
use Rattle.sl_trace.specs.declared.session.Renewing.{Renewing}
use Rattle.sl_due.specs.DueRequests.{owner_asked}
use Rattle.sl_time.specs.Times.{fail}
use Rattle.sl_trace.specs.Traces.{Child, Setting, bytes_given, child_after, is_ok_answer, job_of, no_effects}
use Rattle.sl_trace.specs.KillPrograms.{KillProgram, is_done, kill_program_in, with_program, without_program}
use Rattle.sl_trace.specs.declared.command.Command.TheVariants.{RemLockspace}
use Rattle.sl_trace.specs.declared.command.Command.{Command}
use Rattle.sl_trace.specs.declared.effects.Effects.{Effects}
use Rattle.sl_trace.specs.declared.effects.JoinStep.TheVariants.{FirstRead}
use Rattle.sl_trace.specs.declared.effects.LeaseRead.TheVariants.{OfArea, OfFree, OfPhase1, OfPhase2}
use Rattle.sl_trace.specs.declared.effects.LeaseStep.TheVariants.{Phase1Read, Phase2Read, ReadAgain, ReadArea, ReadBeforeBlock, ReadBeforeFree}
use Rattle.sl_trace.specs.declared.effects.LeaseStep.{LeaseStep}
use Rattle.sl_trace.specs.declared.effects.Purpose.{Purpose}
use Rattle.sl_trace.specs.declared.input.Answer.TheVariants.{Failed, Read, Written}
use Rattle.sl_trace.specs.declared.input.Answer.{Answer}
use Rattle.sl_trace.specs.declared.input.Input.TheVariants.{Exit, Spawned}
use Rattle.sl_trace.specs.declared.input.Input.{Input}
use Rattle.sl_trace.specs.declared.reply.Reply.{Reply}
use Rattle.sl_watch.specs.ToldLooks.{told_all}
use Rattle.sl_watch.specs.Watches.{Watched}
use Rattle.sl_words.specs.Words.{choose, some_is}
use Rattle.std.specs.List.{list_any}
use Rattle.std.specs.Option.{option_map_or, option_or}
use Rattle.std.specs.Prelude.{Bool, List, None, Option, Result, Some, cond, false, filter, find, is_some, length, map, max, min, nat_le, not, option_and_then, option_map, slice_index_or, slice_set, true, unwrap_or, [], ℕ, ◌&&◌, ◌++◌, ◌+◌, ◌-◌, ◌==◌, ◌∷◌}

-- ---- a step begins and ends

-- Recovery as it begins in this step: by time its kills may come in the step itself, by a read in the next.
abbrev pub beginning : HostState → ℕ → Renewing → Renewing
beginning h kills_from r = record r { recovery = Some (record { at = h.entries - 1; reading = h.reading; kills_from = kills_from }) }

-- A member with how it stands with its renewals.
abbrev pub with_renewing : Renewing → MemberState → MemberState
with_renewing r m = let k : DeltaKnown = m.known in record m { renewing = r; known = record k { recovering = is_some r.recovery } }

-- Whether recovery begins by time.
abbrev pub is_late : HostState → MemberState → Bool
is_late h m = elim m.renewing.recovery [ Some b ↦ false | None ↦ m.joined && nat_le (m.renewing.last + fail h.config.timing) h.reading ]

-- A member as the step begins.
abbrev pub member_begun : HostState → MemberState → MemberState
member_begun h m = cond (is_late h m) (with_renewing (beginning h (h.entries - 1) m.renewing) m) m

-- The host with one more step, at this reading.
abbrev pub counted : ℕ → HostState → HostState
counted now h = record h { before = h.reading; reading = now; entries = h.entries + 1 }

-- A step begins at this reading.
abbrev pub begun : ℕ → HostState → HostState
begun now h =
    let g : HostState = counted now h in
    record g {
      members = map (member_begun g) h.members;
      quiet_until = lowered (list_any (is_late g) h.members) (now + h.config.grace) h;
    }

-- A step is over: its effects are taken out, and the next call is the first of the next step.
abbrev pub rested : HostState → HostState
rested h = let fx : Effects = h.made in record h { first_call = h.first_call + length fx.calls; made = no_effects }

-- The host knows that nothing is due by time below this reading.
abbrev pub quiet_to : ℕ → HostState → HostState
quiet_to now h = record h { quiet_until = now }

-- ---- lines

-- The job of this step's line.
abbrev pub new_job : ℕ → Option Command → JobState
new_job number c = record { number = number; command = c; child = None; waits = None }

-- Whether the command leaves the session.
abbrev pub leaves_member : Command → MemberState → Bool
leaves_member (RemLockspace a) m = m.joined && is_session_arg m.who a
leaves_member c m = false

-- A member that is not leaving yet, after a line that leaves it.
abbrev pub member_leaving : HostState → MemberState → MemberState
member_leaving h m =
    let k : DeltaKnown = m.known in
    elim m.leaving [
      | Some b ↦ m
      | None ↦ record m { leaving = Some (record { at = h.entries - 1; reading = h.reading; kills_from = h.entries }); known = record k { leaving = Some h.next_job } }
    ]

-- A line whose command is carried out: it is a job from here on, and a `rem_lockspace` begins its leaving.
abbrev pub heard_line : Command → HostState → HostState
heard_line c h =
    record h {
      next_job = h.next_job + 1;
      jobs = h.jobs ++ new_job h.next_job (Some c) ∷ [];
      members = map (λ m. cond (leaves_member c m) (member_leaving h m) m) h.members;
      quiet_until = lowered (list_any (leaves_member c) h.members) (h.reading + h.config.grace) h;
    }

-- The kill program that a line sets which is answered so.
abbrev pub program_answered : Result Command ℕ → Reply → Option KillProgram
program_answered c r = option_and_then (λ k. choose (is_done r) k) (kill_program_in c)

-- A line that is answered at once: line and reply are heard together.
abbrev pub answered_line : Result Command ℕ → Reply → HostState → HostState
answered_line c r h =
    let fx : Effects = h.made in
    record h {
      next_job = h.next_job + 1;
      made = record fx { replies = fx.replies ++ record { job = h.next_job; reply = r } ∷ [] };
      programs = with_program (program_answered c r) h.programs;
    }

-- A line that is no command takes a number.
abbrev pub heard_number : HostState → HostState
heard_number h = record h { next_job = h.next_job + 1 }

-- ---- exits and starts

-- The children after an input; of those that have exited, or were not started, nothing is kept.
abbrev pub children_after : Input → List Child → List Child
children_after i ks = filter is_there (map (child_after i) ks)

-- Whether a child of this number was to be started in this step: then no input of the step is about it.
abbrev pub is_started_now : HostState → ℕ → Bool
is_started_now h p = let fx : Effects = h.made in list_any (λ s. s.process == p) fx.starts

-- A process has exited: a child of this number has, and its kill program goes.
abbrev pub heard_exit : ℕ → HostState → HostState
heard_exit p h =
    record h {
      children = cond (is_started_now h p) h.children (children_after (Exit p) h.children);
      programs = without_program (Some p) h.programs;
    }

-- A start is answered.
abbrev pub heard_start : ℕ → Bool → HostState → HostState
heard_start p ok h = record h { children = cond (is_started_now h p) h.children (children_after (Spawned p ok) h.children) }

-- ---- an answer, heard by its session

-- The watch after an answer: a read of all ids tells it of each.
abbrev pub watch_hearing : HostState → OpenCall → Answer → Watched → Watched
watch_hearing h c a w =
    elim (is_survey_purpose c.purpose) [
      | false ↦ w
      | true ↦ elim (bytes_given a) [ None ↦ w | Some bytes ↦ told_all c.reading h.reading h.config.layout bytes w ]
    ]

-- The definitions' questions to a setting ask of a host no more than its configuration.
abbrev pub setting_of : HostState → Setting
setting_of h =
    record {
      timing = h.config.timing;
      grace = h.config.grace;
      layout = h.config.layout;
      machine = h.config.machine;
      name = h.config.name;
      first = record { call = h.first_call; job = h.next_job };
      given = [];
      read = h.config.read;
    }

-- Whether the answer is that of a read of all ids and shows another in the session's place.
abbrev pub shows_other_by : HostState → OpenCall → Answer → MemberState → Bool
shows_other_by h c a m =
    is_survey_purpose c.purpose && some_is (shows_other_in (setting_of h) m.who.id m.known.generation) (bytes_given a)

-- The submission reading of a renewal that is answered ok.
abbrev pub renewed_of : OpenCall → Answer → Option ℕ
renewed_of c Written = choose (is_renewal c.purpose) c.reading
renewed_of c (Read bytes) = None
renewed_of c Failed = None

-- How the session stands with its renewals: a read that shows another begins recovery, else a renewal that is answered ok counts.
abbrev pub renewing_hearing : HostState → OpenCall → Answer → MemberState → Renewing
renewing_hearing h c a m =
    let r : Renewing = m.renewing in
    elim r.recovery [
      | Some b ↦ r
      | None ↦ cond (m.joined && shows_other_by h c a m) (beginning h h.entries r) (record r { last = unwrap_or (renewed_of c a) r.last })
    ]

-- The owners asked, with this one at this reading.
abbrev pub asked_at : ℕ → ℕ → List (Option ℕ) → List (Option ℕ)
asked_at now owner asked = slice_set asked (owner - 1) (Some (option_map_or (max now) (slice_index_or asked (owner - 1) None) now))

-- The owners asked, with him whom a write of a request asked that is done.
abbrev pub asked_hearing : HostState → OpenCall → Answer → List (Option ℕ) → List (Option ℕ)
asked_hearing h c a asked =
    elim (owner_asked c.purpose) [ None ↦ asked | Some o ↦ cond (is_ok_answer a && nat_le 1 o) (asked_at h.reading o asked) asked ]

-- A joining's call with an answer at this reading, if it had none.
abbrev pub answered_at : ℕ → JoinCall → JoinCall
answered_at now n = record n { answered = option_or n.answered (Some now) }

-- What a joining keeps, with its newest call's answer.
abbrev pub joining_hearing : HostState → OpenCall → Answer → JoinState → JoinState
joining_hearing h c a j =
    record j {
      watched = cond (is_join_call FirstRead c.purpose) (bytes_given a) j.watched;
      since = cond (is_join_call FirstRead c.purpose) (Some h.reading) j.since;
      newest = cond (is_some (join_step_of c.purpose)) (option_map (answered_at h.reading) j.newest) j.newest;
    }

-- ---- an answer, heard by its lease

-- Whether a step reads blocks, and whether leader and request with them.
abbrev pub is_block_step : LeaseStep → Bool
is_block_step (ReadArea name) = true
is_block_step ReadBeforeFree = true
is_block_step ReadBeforeBlock = true
is_block_step (ReadAgain read) = true
is_block_step Phase1Read = true
is_block_step Phase2Read = true
is_block_step step = false

abbrev pub is_area_step : LeaseStep → Bool
is_area_step (ReadArea name) = true
is_area_step ReadBeforeFree = true
is_area_step (ReadAgain (OfArea name)) = true
is_area_step (ReadAgain OfFree) = true
is_area_step step = false

-- The bytes of all blocks in what a read at this step gave, if it is a read of blocks.
abbrev pub blocks_heard : Layout → LeaseStep → List ℕ → Option (List ℕ)
blocks_heard g step bytes = elim (is_block_step step) [ false ↦ None | true ↦ Some (part_read g bytes (first_step step)) ]

-- What a read at this step gave of all blocks, by what is kept of the pairs: nothing by itself where it is to be made once more, and a
-- second one with what the first gave.
abbrev pub read_heard : Layout → PairState → LeaseStep → List ℕ → Option BlocksRead
read_heard g p step bytes = given_with g (is_second step) p.first (blocks_heard g step bytes)

-- Whether it is a read of a ballot's phase, and of its second.
abbrev pub is_phase_step : LeaseStep → Bool
is_phase_step Phase1Read = true
is_phase_step Phase2Read = true
is_phase_step (ReadAgain OfPhase1) = true
is_phase_step (ReadAgain OfPhase2) = true
is_phase_step step = false

abbrev pub is_last_phase : LeaseStep → Bool
is_last_phase Phase2Read = true
is_last_phase (ReadAgain OfPhase2) = true
is_last_phase step = false

-- Whether it is a settling's read before a free.
abbrev pub is_free_step : LeaseStep → Bool
is_free_step ReadBeforeFree = true
is_free_step (ReadAgain OfFree) = true
is_free_step step = false

-- The blocks that the answer shows at its step, if it is a read that gives some.
abbrev pub blocks_shown : Layout → PairState → LeaseStep → Answer → Option (List (Option Block))
blocks_shown g p step a = option_map (blocks_of g) (option_and_then (read_heard g p step) (bytes_given a))

-- The leader that it shows, if it is such a read of the area: with pairs a torn one may be made from the blocks.
abbrev pub leader_shown : Layout → PairState → LeaseStep → Answer → Option Leader
leader_shown g p step a =
    elim (is_area_step step) [
      | false ↦ None
      | true ↦ option_and_then (λ bytes. option_and_then (leader_read g bytes) (read_heard g p step bytes)) (bytes_given a)
    ]

-- The turn of the own pair that it shows: each answer by itself.
abbrev pub turn_heard : Layout → ℕ → LeaseStep → Option ℕ → Answer → Option ℕ
turn_heard g id step turn (Read bytes) =
    elim g.paired [ false ↦ None | true ↦ option_and_then (λ bs. option_map (λ p. p.turn) (pair_read g bs id)) (blocks_heard g step bytes) ]
turn_heard g id step turn Written = turn
turn_heard g id step turn Failed = None

-- What is kept of it, where it is a first read that is to be made once more.
abbrev pub kept_heard : Layout → LeaseStep → Answer → Option (List (Option PairBlock))
kept_heard g step a =
    elim (is_second step) [
      | true ↦ None
      | false ↦ option_and_then (λ bs. choose (needs_again g bs) (pairs_kept g bs)) (option_and_then (blocks_heard g step) (bytes_given a))
    ]

-- What is kept of pairs after the answer: what the first of two reads gave stays until the next call.
abbrev pub pair_hearing : Layout → ℕ → LeaseStep → Option ℕ → Answer → PairState → PairState
pair_hearing g id step turn a p = record p { turn = option_or (turn_heard g id step turn a) p.turn; first = option_or (kept_heard g step a) p.first }

-- What stops the own block's ballot in them, by own block and blocks.
abbrev pub stop_shown : LeaseState → Option (List (Option Block)) → Option (Option Stop)
stop_shown l blocks = option_and_then (λ own. option_map (stop_of own) blocks) l.own

-- Whether that concludes the open ballot.
abbrev pub concludes_at : LeaseStep → Option (Option Stop) → Bool
concludes_at step None = false
concludes_at step (Some stop) = is_phase_step step && elim stop [ None ↦ is_last_phase step | Some why ↦ is_ahead why ]

-- The instance that the session wins by it: the ballot ended, with the session itself.
abbrev pub won_at : Owner → LeaseStep → Option Block → Option (Option Stop) → Option ℕ
won_at self step own stop =
    cond (is_last_phase step && some_is (λ s. not (is_some s)) stop) (option_and_then (λ b. choose (same_owner (value_of b) self) b.lver) own) None

-- Whether the answer shows that the free of n is done: it is that free, done, or the area shows that it isn't needed.
abbrev pub settles_at : Owner → LeaseStep → Option ℕ → Option Leader → Option (List (Option Block)) → ℕ → Answer → Bool
settles_at self step frees leader blocks n Written = some_is (λ f. f == n) frees
settles_at self step frees leader blocks n (Read bytes) = is_free_step step && some_is (shows_settled self n leader) blocks
settles_at self step frees leader blocks n Failed = false

-- The name that an acquire's read verifies.
abbrev pub verified_at : Layout → List ℕ → Purpose → Option Leader → Option (List ℕ)
verified_at g lockspace purpose leader =
    option_and_then (λ name. option_and_then (λ l. choose (is_leader_of g lockspace name l) name) leader) (name_sought purpose)

-- The greatest number of the own block's instance, where blocks were read.
abbrev pub top_hearing : LeaseState → Option (List (Option Block)) → Option TopNumber
top_hearing l None = l.top
top_hearing l (Some blocks) = option_map (λ b. record { instance = b.lver; mbal = top_mbal b.lver blocks }) l.own

-- What is owed after it.
abbrev pub won_hearing : Option ℕ → (ℕ → Bool) → Option ℕ → Option ℕ
won_hearing (Some n) settles before = Some n
won_hearing None settles before = option_and_then (λ n. choose (not (settles n)) n) before

-- A lease that hears the answer to its newest call, at this step; heeded while its work goes on.
abbrev pub lease_hearing : Layout → List ℕ → Owner → Bool → OpenCall → Answer → LeaseCall → LeaseState → LeaseState
lease_hearing g lockspace self heeded c a w l =
    let blocks : Option (List (Option Block)) = blocks_shown g l.pair w.step a in
    let leader : Option Leader = leader_shown g l.pair w.step a in
    let stop : Option (Option Stop) = stop_shown l blocks in
    record l {
      top = top_hearing l blocks;
      name = unwrap_or (verified_at g lockspace c.purpose leader) l.name;
      ballot = cond (heeded && concludes_at w.step stop) None l.ballot;
      shown = l.shown && not (w.clears && is_ok_answer a);
      won = won_hearing (cond heeded (won_at self w.step l.own stop) None) (λ n. settles_at self w.step w.frees leader blocks n a) l.won;
      waiting = None;
      pair = pair_hearing g self.id w.step w.turn a l.pair;
    }

-- The lease, where the answer is to its newest call.
abbrev pub lease_told : HostState → MemberState → Bool → OpenCall → Answer → LeaseState → LeaseState
lease_told h m heeded c a l =
    elim l.waiting [
      | None ↦ l
      | Some w ↦ cond (w.number == c.number)
          (lease_hearing h.config.layout m.who.lockspace (record { id = m.who.id; generation = m.known.generation }) heeded c a w l) l
    ]

-- ---- the whole of an answer

-- Whether the call's work goes on: its job, if it has one, runs.
abbrev pub is_heeded_by : HostState → OpenCall → Bool
is_heeded_by h c = option_map_or (λ n. list_any (λ j. j.number == n) h.jobs) (job_of c.purpose) true

-- The calls without an answer, but this one.
abbrev pub others : ℕ → HostState → List OpenCall
others number h = filter (λ c. not (c.number == number)) h.unanswered

-- Whether another call of the session on a delta sector has no answer.
abbrev pub still_busy : ℕ → HostState → MemberState → Bool
still_busy number h m = list_any (λ c. c.session == m.who.number && is_delta_purpose c.purpose) (others number h)

-- What a member hears of an answer to a call of its own.
abbrev pub member_hearing : HostState → OpenCall → Answer → MemberState → MemberState
member_hearing h c a m =
    let k : DeltaKnown = m.known in
    record m {
      known = record k { busy = still_busy c.number h m; recovering = is_some (renewing_hearing h c a m).recovery };
      joining = joining_hearing h c a m.joining;
      renewing = renewing_hearing h c a m;
      asked = asked_hearing h c a m.asked;
      watch = watch_hearing h c a m.watch;
      leases = map (lease_told h m (is_heeded_by h c) c a) m.leases;
    }

-- A job that waited for it waits no more.
abbrev pub job_hearing : ℕ → JobState → JobState
job_hearing number j = elim j.waits [ None ↦ j | Some w ↦ cond (w.number == number) (record j { waits = None }) j ]

-- Whether a refused joining is over: no write of it but this is unanswered.
abbrev pub is_over_with : ℕ → HostState → MemberState → Bool
is_over_with number h m = m.refused && not (has_write_open (record h { unanswered = others number h }) m.who.number)

-- The members after an answer.
abbrev pub members_hearing : OpenCall → Answer → HostState → List MemberState
members_hearing c a h =
    filter (λ m. not (is_over_with c.number h m)) (map (λ m. cond (c.session == m.who.number) (member_hearing h c a m) m) h.members)

-- Below which reading nothing is due after it: a recovery that begins has its kills, a renewal that counts a moment of its own.
abbrev pub quiet_hearing : OpenCall → Answer → HostState → ℕ
quiet_hearing c a h =
    min (lowered (list_any (shows_other_by h c a) h.members) (h.reading + h.config.grace) h)
    (lowered (is_renewal c.purpose) (c.reading + fail h.config.timing) h)

-- The host that hears the answer to this call.
abbrev pub hearing : OpenCall → Answer → HostState → HostState
hearing c a h =
    record h {
      unanswered = others c.number h;
      jobs = map (job_hearing c.number) h.jobs;
      members = members_hearing c a h;
      quiet_until = quiet_hearing c a h;
    }

-- The answer to the call of this number.
abbrev pub heard_answer : ℕ → Answer → HostState → HostState
heard_answer number a h = elim (find (λ c. c.number == number) h.unanswered) [ None ↦ h | Some c ↦ hearing c a h ]
