-- A ballot that has ended in a trace has ended in the history: the read that ended it stands in the whole trace as it stood then.
use Rattle.sl_safety.proofs.Ballot.BallotsEnd.{AnsweredBy, EndingRead, ballot_ended}
use Rattle.sl_safety.specs.Ballot.Endings.{EndedBallotsEnd, holder_as}
use Rattle.sl_ballot_law.specs.Ballots.{BallotEnded}
use Rattle.sl_run_law.proofs.Leases.AnswerLaws.{answers_within}
use Rattle.sl_run_law.proofs.Leases.EndLaws.{ended}
use Rattle.sl_run_law.specs.Leases.Ways.{Ended, lease_among}
use Rattle.sl_trace.specs.Ballots.{value_of}
use Rattle.sl_trace.specs.Leases.{Phase2_read, is_at, lease_calls}
use Rattle.sl_run_law.proofs.Place.Daemons.{daemons_are_fine, stamp_order}
use Rattle.sl_run_law.proofs.Place.TracesOnMachines.{session_inside}
use Rattle.sl_words.proofs.Numbers.{below_suc}
use Rattle.sl_safety.proofs.Resources.AnsweredReads.{given_told}
use Rattle.sl_safety.specs.Resources.HistoryLaws.{history_of_line, spot_of_line}
use Rattle.sl_safety.specs.Resources.SentCalls.{holder_of}
use Rattle.sl_run.specs.Safety.{Found, setting_in, trace_of, world_at}
use Rattle.sl_run.specs.Worlds.{World}
use Rattle.sl_sector.specs.declared.sector.Block.{Block}
use Rattle.sl_sector.specs.declared.sector.Owner.{Owner}
use Rattle.sl_trace.specs.declared.session.Session.{Session}
use Rattle.sl_trace.specs.Traces.{Answered, Setting, Trace, new_call, submitted}
use Rattle.sl_trace.specs.declared.effects.Call.{Call}
use Rattle.sl_trace.specs.declared.effects.Spot.{Spot}
use Rattle.sl_words.proofs.CaseLaws.{one_value}
use Rattle.std.proofs.Common.{ap, subst, sym, ◌∙◌}
use Rattle.std.specs.Prelude.{List, Option, Some, length, ℕ, ◌++◌, ◌<◌, ◌∷◌, ◌≡◌, ◌≤◌}
use Rattle.sl_safety.proofs.Ballot.ReadsIn.{call_in, read_in}
use Rattle.sl_run_law.proofs.Leases.AgeLaws.{aged_block}

-- ---- in the whole trace

-- The ending read at a front, in the whole.
pub record EndsIn (f : Found) (front : Trace) (at : Spot) (p : ℕ × Owner) : Type 0 where
  pub own : Block
  pub blocks : List (Option Block)
  pub ending : EndingRead f at own blocks
  pub early : (a : Answered) → ending.read.answer ≡ Some a → a.at < length front
  pub what : (own.lver, value_of own) ≡ p

pub ends_in : (f : Found) (later front : Trace) → trace_of f ≡ later ++ front → (at : Spot) (p : ℕ × Owner) → Ended (setting_in f).layout (lease_calls (setting_in f) front f.session at) p
    → EndsIn f front at p
ends_in f later front whole at p e =
    let st : Setting = setting_in f in
    let ses : Session = f.session in
    let r = read_in st later front ses at e.newer e.before e.read e.is e.blocks e.given in
    let c = call_in st ses at (submitted front) e.newer e.before e.read e.is in
    let a = given_told st.layout e.read e.before e.blocks e.given in
    record {
      own = e.own;
      blocks = e.blocks;
      ending = record {
        newer = r.newer;
        read = r.read;
        older = r.older;
        is = ap (λ t. submitted t) whole ∙ r.is;
        mine = r.mine;
        lease = r.lease;
        on = r.on;
        reads = ap (λ (y : Call). is_at Phase2_read (new_call 0 0 y)) r.alike.call ∙ e.reads;
        block = sym (aged_block 0 e.before (lease_among st ses at r.older) r.rest) ∙ e.block;
        given = r.given;
        clear = e.clear;
      };
      early = λ b told.
          let same : a.answered ≡ b = one_value a.answered b r.read.answer (r.alike.told a.answered a.is) told in
          subst (λ (x : Answered). x.at < length front) same (answers_within front e.read (record { newer = c.newer; older = c.older; is = c.is }) a.answered a.is);
      what = e.what;
    }

pub ended_ballots_end : EndedBallotsEnd
ended_ballots_end p h xs r run there differ hosts i f its joined entry past step e n o has =
    let w : World = world_at p h xs in
    let st : Setting = setting_in f in
    let inside = session_inside w i f its in
    let k = ends_in f e.later (entry ∷ past) e.whole (spot_of_line r) (n, o) (ended st.layout (lease_calls st (entry ∷ past) f.session (spot_of_line r)) (n, o) has) in
    let by : AnsweredBy f k.ending.read step =
    λ a told t entry_of. subst (λ j. t.step ≤ j) e.step_is
    (stamp_order w.step f.daemon.stamps a.at (length past) t e.stamp (daemons_are_fine p h xs run i.machine f.machine f.daemon inside.at inside.has).stamps entry_of e.stamped
    (below_suc a.at (length past) (k.early a told))) in
    let done = ballot_ended p h xs r run there differ hosts i f its joined k.own k.blocks k.ending step by in
    subst (λ (q : ℕ × Owner). BallotEnded (history_of_line p h xs r) (holder_of w i) q.0 (holder_as q.1) step) k.what done
