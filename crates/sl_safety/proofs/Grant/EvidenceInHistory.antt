-- What a session counted as over by an entry of its trace it has evidence of by the entry's step, in the history.
use Rattle.sl_safety.proofs.Ballot.ReasonEvidence.{by_step}
use Rattle.sl_safety.specs.Ballot.Endings.{IsEntryAt}
use Rattle.sl_ballot_law.specs.History.{Owner as Holder}
use Rattle.sl_run_law.proofs.Course.PairwiseLists.{pairs_length}
use Rattle.sl_run_law.proofs.Course.EntriesAreStamped.{entries_are_stamped}
use Rattle.sl_run_law.specs.Course.CallStamps.{IsStampOf}
use Rattle.sl_safety.proofs.Grant.CallsOfWorlds.{whole_of}
use Rattle.sl_run_law.proofs.Moment.MachinesInOrder.{entries_ordered, fall_front}
use Rattle.sl_run_law.specs.Moment.Orders.{Fall}
use Rattle.sl_safety.proofs.Resources.StepsNameCalls.{holder_named}
use Rattle.sl_safety.specs.Resources.Histories.{has_counted_over, trace_by}
use Rattle.sl_safety.specs.Resources.HistoryLaws.{NamesDiffer, history_of_line}
use Rattle.sl_safety.specs.Resources.SentCalls.{holder_of, is_joined_there}
use Rattle.sl_run.specs.Runs.{Happening}
use Rattle.sl_run.specs.Safety.{Found, IsSession, LawfulRun, SessionId, session_of_world, setting_in, trace_of, world_at}
use Rattle.sl_run.specs.Worlds.{Program, World}
use Rattle.sl_run.specs.declared.header.Header.{Header}
use Rattle.sl_run.specs.declared.header.ResourceLine.{ResourceLine}
use Rattle.sl_trace.specs.Sightings.{counted_over}
use Rattle.sl_trace.specs.Traces.{Trace}
use Rattle.sl_trace.specs.declared.effects.Entry.{Entry}
use Rattle.sl_words.specs.Words.{some_is}
use Rattle.std.proofs.Common.{ap, sym, ◌∙◌}
use Rattle.std.specs.Prelude.{List, Option, length, true, [], ℕ, ◌++◌, ◌∷◌, ◌≡◌}

pub trace_by_step : (p : Program) (h : Header) (xs : List Happening) → LawfulRun p h xs → (i : SessionId) (f : Found) → IsSession (world_at p h xs) i f
    → (entry : Entry) (past : Trace) (step : ℕ) → IsEntryAt f entry past step → trace_by f.daemon.stamps (trace_of f) step ≡ entry ∷ past
trace_by_step p h xs run i f its entry past step e =
    let w : World = world_at p h xs in
    let all = whole_of p h xs run i f its in
    let fall : Fall w.step f.daemon.stamps =
    fall_front w.step f.daemon.stamps (f.daemon.begun ∷ []) (entries_ordered p h xs run i.machine f.machine f.daemon all.at all.has) in
    let even : length f.daemon.stamps ≡ length (e.later ++ entry ∷ past) =
    pairs_length IsStampOf f.daemon.stamps (trace_of f) (entries_are_stamped p h xs run i.machine f.machine f.daemon all.at all.has) ∙ ap (λ (t : Trace). length t) e.whole in
    ap (λ n. trace_by f.daemon.stamps (trace_of f) n) (sym e.step_is) ∙ ap (λ (t : Trace). trace_by f.daemon.stamps t e.stamp.step) e.whole
    ∙ by_step w.step f.daemon.stamps e.later past entry e.stamp fall even e.stamped

pub evidence_by : (p : Program) (h : Header) (xs : List Happening) → LawfulRun p h xs → (r : ResourceLine) → NamesDiffer (world_at p h xs) r.lockspace
    → (i : SessionId) (f : Found) → IsSession (world_at p h xs) i f → is_joined_there (world_at p h xs) r.lockspace i ≡ true
    → (entry : Entry) (past : Trace) (step : ℕ) → IsEntryAt f entry past step → (o : Holder)
    → counted_over (setting_in f) (entry ∷ past) f.session o.id o.generation ≡ true
    → (history_of_line p h xs r).evidence (holder_of (world_at p h xs) i) o step ≡ true
evidence_by p h xs run r differ i f its joined entry past step e o counted =
    let w : World = world_at p h xs in
    ap (λ (q : Option SessionId). some_is (λ k. some_is (λ g. has_counted_over g o step) (session_of_world w k)) q) (holder_named w r.lockspace differ i joined)
    ∙ ap (λ (q : Option Found). some_is (λ g. has_counted_over g o step) q) its
    ∙ ap (λ (t : Trace). counted_over (setting_in f) t f.session o.id o.generation) (trace_by_step p h xs run i f its entry past step e)
    ∙ counted
