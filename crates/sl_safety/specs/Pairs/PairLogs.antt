-- What a run tells of a host's pair on a resource: a log of `sl_ballot_law`, read off the world at the run's end.
--
-- A write has the step at which it was submitted, and a session the step at which it joined.
use Rattle.sl_area.specs.Pairs.{pair_read}
use Rattle.sl_safety.specs.Resources.Histories.{joined_of}
use Rattle.sl_safety.specs.Resources.HistoryLaws.{spot_of_line}
use Rattle.sl_safety.specs.Resources.SampledReads.{blocks_sampled, pair_number}
use Rattle.sl_safety.specs.Resources.SentCalls.{Sent, all_names, all_sent, holder_of, is_joined_there, reads_blocks, sender_of, sent_at, step_of, writes_block}
use Rattle.sl_ballot_law.specs.PairLogs.Logs.{Log, Look}
use Rattle.sl_run.specs.Safety.{SessionId}
use Rattle.sl_run.specs.Worlds.{Course, Landing, World}
use Rattle.sl_run.specs.declared.header.ResourceLine.{ResourceLine}
use Rattle.sl_sector.specs.declared.sector.PairBlock.{PairBlock}
use Rattle.sl_trace.specs.Leases.{is_on, turn_of_record}
use Rattle.sl_trace.specs.Traces.{record_of}
use Rattle.sl_words.specs.Words.{choose, first_of_list, some_is}
use Rattle.std.specs.List.{list_any}
use Rattle.std.specs.Option.{option_map_or}
use Rattle.std.specs.Prelude.{Bool, None, Option, false, filter_map, find, is_some, option_and_then, option_map, slice_get, true, unwrap_or, ℕ, ◌&&◌, ◌==◌}

-- ---- sessions of a host

-- A joined session of the resource's lockspace with the host's id.
abbrev pub is_of_host : World → ResourceLine → ℕ → SessionId → Bool
is_of_host w r k i = is_joined_there w r.lockspace i && (holder_of w i).id == k

-- When it joined.
abbrev pub join_of : World → ResourceLine → SessionId → ℕ
join_of w r i = unwrap_or (joined_of w r.lockspace (holder_of w i)) 0

-- Whether one joined at this step.
abbrev pub joins_at : World → ResourceLine → ℕ → ℕ → Bool
joins_at w r k step = list_any (λ i. is_of_host w r k i && join_of w r i == step) (all_names w)

-- ---- writes

-- The block of the host that was submitted at this step.
abbrev pub pair_sent : World → ResourceLine → ℕ → ℕ → Option Sent
pair_sent w r k step = option_and_then (λ x. choose ((holder_of w (sender_of x)).id == k) x) (sent_at w (spot_of_line r) writes_block step)

-- Its turn.
abbrev pub turn_of_sent : Sent → ℕ
turn_of_sent x = unwrap_or (option_and_then turn_of_record (record_of x.course.call.op)) 0

-- Whether a call left a landing.
abbrev pub is_left_by : Sent → Landing → Bool
is_left_by x l = some_is (λ p. p.0 == x.machine && p.1 == x.course.call.number) l.writer

-- What it left.
abbrev pub landing_of : World → Sent → Option Landing
landing_of w x = find (is_left_by x) w.landings

-- ---- reads of the own pair

-- When it was sampled.
abbrev pub sample_step : Course → ℕ → ℕ
sample_step c i = option_map_or (λ s. s.step) (slice_get c.samples i) 0

-- What a read shows of the host's pair, by itself.
abbrev pub look_of : ℕ → Sent → PairBlock → Look
look_of k z q =
    record {
      begun = step_of z;
      first = sample_step z.course (pair_number z.course k true);
      second = sample_step z.course (pair_number z.course k false);
      turn = q.turn;
    }

-- Whether it is a read of the session of the host that joined at this step, and was answered ok at that.
abbrev pub is_look_at : World → ResourceLine → ℕ → ℕ → ℕ → Sent → Bool
is_look_at w r k session step z =
    reads_blocks z.course && z.course.done && is_on w.layout (spot_of_line r) z.course.call && some_is (λ s. s.step == step) z.course.answered
    && is_of_host w r k (sender_of z) && join_of w r (sender_of z) == session

abbrev pub look_at : World → ResourceLine → ℕ → ℕ → ℕ → Sent → Option Look
look_at w r k session step z =
    elim (is_look_at w r k session step z) [ false ↦ None | true ↦ option_map (look_of k z) (pair_read w.layout (blocks_sampled w.layout z.course) k) ]

-- ---- all of it

abbrev pub pair_log : World → ResourceLine → ℕ → Log
pair_log w r k =
    record {
      writes = λ e. is_some (pair_sent w r k e);
      turn = λ e. option_map_or turn_of_sent (pair_sent w r k e) 0;
      session = λ e. option_map_or (λ x. join_of w r (sender_of x)) (pair_sent w r k e) 0;
      landed = λ e. option_and_then (λ x. option_map (λ l. l.step) (landing_of w x)) (pair_sent w r k e);
      whole = λ e. some_is (λ x. some_is (λ l. l.whole) (landing_of w x)) (pair_sent w r k e);
      answered = λ e. option_and_then (λ x. option_map (λ s. s.step) x.course.answered) (pair_sent w r k e);
      done = λ e. some_is (λ x. x.course.done) (pair_sent w r k e);
      joins = λ step. joins_at w r k step;
      looks = λ session step. first_of_list (filter_map (look_at w r k session step) (all_sent w));
    }
