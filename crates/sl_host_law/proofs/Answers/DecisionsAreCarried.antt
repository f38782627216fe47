-- The state after what a delta lease decided stands for the step with it.
use Rattle.sl_host_law.proofs.Answers.RefusalsFollow.{refusals_follow}
use Rattle.sl_host_law.specs.Answers.CarriedDecisions.{DecisionsAreCarried, MayCall, MayRead, MaySurvey, MayWrite, connecting, for_job_of, own_sector, reading_own, registering, surveying, writing_own}
use Rattle.sl_host_law.specs.Answers.RefusalsFollow.{refusing}
use Rattle.sl_host_law.proofs.StepParts.EndsAreTaken.{ends_are_taken}
use Rattle.sl_host_law.specs.StepParts.Ends.{removing}
use Rattle.sl_area.specs.AreaSizes.{Layout}
use Rattle.sl_area.specs.AreaLayout.{delta_offset}
use Rattle.sl_host_law.proofs.Calls.CallsAreTaken.{calls_are_taken}
use Rattle.sl_host_law.specs.Calls.MemberCalls.{CallFits}
use Rattle.sl_due.specs.CarriedDelta.{carry_delta, end_leaving, move_connection, read_own_sector, register, survey, write_own_sector}
use Rattle.sl_due.specs.DueTimeOuts.{refuse, remove_connection}
use Rattle.sl_due.specs.Steps.{Step, add_call_of, add_move, add_reply, seen, when, with_some}
use Rattle.sl_host_state.specs.KeptState.{Config, HostState}
use Rattle.sl_host_state.specs.MadeEffects.{next_submitted, with_call, with_move, with_reply}
use Rattle.sl_host_state.specs.HostStands.{Stands}
use Rattle.sl_host_law.specs.Questions.Jobs.{running_in}
use Rattle.sl_host_law.proofs.Replies.MovesAreTaken.{moves_are_taken}
use Rattle.sl_host_law.proofs.Replies.RepliesAreTaken.RepliesKeepHosts.{replies_are_taken}
use Rattle.sl_host_law.specs.Replies.Moves.{EndsBegun}
use Rattle.sl_host_law.specs.Replies.RepliesAreTaken.{LeavesHeed, LeavesLine, MayReply}
use Rattle.sl_sector.specs.declared.sector.DeltaRec.{DeltaRec}
use Rattle.sl_sector.specs.declared.sector.Rec.TheVariants.{DeltaIs}
use Rattle.sl_trace.specs.declared.delta.DeltaNext.TheVariants.{Disconnect, Join, EndLeaving, MoveConnection, ReadOwn, RegisterAndRead, RefuseJoin, Nothing, WriteClaim, WriteFirst, WriteFree, WriteRenewal}
use Rattle.sl_trace.specs.declared.session.Session.{Session}
use Rattle.sl_time.specs.Times.{fail}
use Rattle.sl_trace.specs.WatchdogConnections.{is_registered}
use Rattle.sl_trace.specs.Traces.{is_running}
use Rattle.sl_trace.specs.declared.effects.JoinStep.TheVariants.{ClaimWrite, FirstRenewal}
use Rattle.sl_trace.specs.declared.effects.Move.TheVariants.{Register, Renew, Unregister}
use Rattle.sl_trace.specs.declared.effects.Op.TheVariants.{ReadSectors, WriteRecord}
use Rattle.sl_trace.specs.declared.effects.Op.{Op}
use Rattle.sl_trace.specs.declared.effects.Purpose.TheVariants.{Joining, Leaving, Renewal, Survey}
use Rattle.sl_trace.specs.declared.effects.Purpose.{Purpose}
use Rattle.sl_trace.specs.declared.effects.Move.{Move}
use Rattle.sl_trace.specs.declared.input.Input.TheVariants.{Answer as Told, Exit, Line, Number, Spawned, Wake}
use Rattle.sl_trace.specs.declared.input.Input.{Input}
use Rattle.sl_trace.specs.declared.reply.Reply.TheVariants.{Generation}
use Rattle.sl_trace.specs.declared.reply.Reply.{Reply}
use Rattle.sl_words.proofs.CaseLaws.{false_is_true}
use Rattle.std.proofs.Common.{ap, refl, subst, sym}
use Rattle.std.specs.List.{list_any}
use Rattle.std.specs.Prelude.{Bool, List, None, Option, Some, bytes_eq, cond, false, true, ℕ, ◌+◌, ◌≡◌}

-- ---- calls and moves

pub called : (i : Input) (h : HostState) (x : Step) (s : Session) (path : List ℕ) (purpose : Purpose) (offset : ℕ) (op : Op) → Stands i h x → MayCall h s path purpose offset op
    → Stands i (with_call s.number path purpose offset op h) (add_call_of s.number path purpose offset op x)
called i h x s path purpose offset op stands may =
    subst (λ (z : Session). Stands i (with_call z.number path purpose offset op h) (add_call_of z.number path purpose offset op x)) may.its
    (calls_are_taken h may.place may.member path purpose offset op may.there (subst (λ (z : Session). CallFits h may.member (next_submitted h z.number path purpose offset op)) (sym may.its) may.fits) i x stands)

pub layout_is : (i : Input) (h : HostState) (x : Step) → Stands i h x → h.config.layout ≡ x.setting.layout
layout_is i h x s = sym (ap (λ (c : Config). c.layout) s.keeps.config)

read_own : (i : Input) (h : HostState) (x : Step) (s : Session) (purpose : Purpose) → Stands i h x → MayRead h s purpose → Stands i (reading_own s purpose h) (read_own_sector s purpose x)
read_own i h x s purpose stands may =
    subst (λ (g : Layout). Stands i (reading_own s purpose h) (add_call_of s.number s.path purpose (delta_offset g s.offset s.id) (ReadSectors 1) x)) (layout_is i h x stands)
    (called i h x s s.path purpose (own_sector h s) (ReadSectors 1) stands may)

write_own : (i : Input) (h : HostState) (x : Step) (s : Session) (purpose : Purpose) (d : DeltaRec) → Stands i h x → MayWrite h s purpose d → Stands i (writing_own s purpose d h) (write_own_sector s purpose d x)
write_own i h x s purpose d stands may =
    subst (λ (g : Layout). Stands i (writing_own s purpose d h) (add_call_of s.number s.path purpose (delta_offset g s.offset s.id) (WriteRecord (DeltaIs d)) x)) (layout_is i h x stands)
    (called i h x s s.path purpose (own_sector h s) (WriteRecord (DeltaIs d)) stands may)

surveyed : (i : Input) (h : HostState) (x : Step) (s : Session) → Stands i h x → MaySurvey h s → Stands i (surveying s h) (survey s x)
surveyed i h x s stands may =
    subst (λ (g : Layout). Stands i (surveying s h) (add_call_of s.number s.path Survey s.offset (ReadSectors g.hosts) x)) (layout_is i h x stands)
    (called i h x s s.path Survey s.offset (ReadSectors h.config.layout.hosts) stands may)

registered : (i : Input) (h : HostState) (x : Step) (s : Session) → Stands i h x → Stands i (registering s h) (register s x)
registered i h x s stands =
    subst (λ n. Stands i (registering s h) (add_move (Register s.lockspace (n + fail x.setting.timing)) x)) (sym stands.reading)
    (subst (λ (c : Config). Stands i (registering s h) (add_move (Register s.lockspace (h.reading + fail c.timing)) x)) (sym stands.keeps.config)
    (moves_are_taken (Register s.lockspace (h.reading + fail h.config.timing)) i h x stands (λ k m there ends. absurd (false_is_true ends))))

connected : (i : Input) (h : HostState) (x : Step) (s : Session) (renewed : ℕ) → Stands i h x → Stands i (connecting s renewed h) (move_connection s renewed x)
connected i h x s renewed stands =
    subst (λ (c : Config). Stands i (connecting s renewed h) (add_move (Renew s.lockspace (renewed + fail c.timing)) x)) (sym stands.keeps.config)
    (moves_are_taken (Renew s.lockspace (renewed + fail h.config.timing)) i h x stands (λ k m there ends. absurd (false_is_true ends)))

-- A move changes nothing of what a line does.
line_moved : (i : Input) (move : Move) (h : HostState) (j : ℕ) → LeavesLine i j h → LeavesLine i j (with_move move h)
line_moved (Line text) move h j line = line
line_moved (Number text) move h j line = tt
line_moved (Told number a) move h j line = tt
line_moved (Exit p) move h j line = tt
line_moved (Spawned p ok) move h j line = tt
line_moved Wake move h j line = tt

-- For the job that joins the session, where there is one.
for_job : (i : Input) (h : HostState) (x : Step) (s : Session) (f : ℕ → HostState → HostState) (g : ℕ → Step → Step) → Stands i h x
    → ((j : ℕ) → s.job ≡ Some j → Stands i (f j h) (g j x)) → Stands i (for_job_of s f h) (with_some s.job g x)
for_job i h x s f g stands each = by s.job refl where
  by : (o : Option ℕ) → s.job ≡ o → Stands i (elim o as (λ z. HostState) [ None ↦ h | Some j ↦ f j h ]) (with_some o g x)
  by None is = stands
  by (Some j) is = each j is

-- A leaving ends: its connection goes, and its job, if it still runs, is answered.
ended : (i : Input) (h : HostState) (x : Step) (s : Session) (j : ℕ) (r : Reply) → Stands i h x
    → EndsBegun (Unregister s.lockspace) h × (is_running (seen x) j ≡ running_in h j) × (running_in h j ≡ true → MayReply i h x j r)
    → Stands i (cond (running_in h j) (with_reply j r (removing s.lockspace h)) (removing s.lockspace h)) (end_leaving s j r x)
ended i h x s j r stands may =
    subst (λ b. Stands i (cond (running_in h j) (with_reply j r (removing s.lockspace h)) (removing s.lockspace h)) (when b (add_reply j r) (remove_connection s.lockspace x))) (sym may.1)
    (by (running_in h j) refl) where
      gone : Stands i (removing s.lockspace h) (remove_connection s.lockspace x)
      gone = ends_are_taken.connection i h x s.lockspace stands may.0

      still_may : MayReply i h x j r → (name : List ℕ) (b : Bool) (y : Step) → y.past ≡ x.past → MayReply i (cond b (with_move (Unregister name) h) h) y j r
      still_may k name true y same = record { runs = k.runs; heed = subst (λ past. LeavesHeed i j r past) (sym same) k.heed; line = line_moved i (Unregister name) h j k.line }
      still_may k name false y same = record { runs = k.runs; heed = subst (λ past. LeavesHeed i j r past) (sym same) k.heed; line = k.line }

      past_same : (b : Bool) (name : List ℕ) → (when b (add_move (Unregister name)) x).past ≡ x.past
      past_same true name = refl
      past_same false name = refl

      by : (b : Bool) → running_in h j ≡ b → Stands i (cond b (with_reply j r (removing s.lockspace h)) (removing s.lockspace h)) (when b (add_reply j r) (remove_connection s.lockspace x))
      by true runs =
          replies_are_taken j r i (removing s.lockspace h) (remove_connection s.lockspace x) (ends_are_taken.connection i h x s.lockspace stands may.0)
          (still_may (may.2 runs) s.lockspace (list_any (λ n. bytes_eq n s.lockspace) h.connected) (remove_connection s.lockspace x) (past_same (is_registered x.setting (seen x) s.lockspace) s.lockspace))
      by false runs = ends_are_taken.connection i h x s.lockspace stands may.0

pub decisions_are_carried : DecisionsAreCarried
unfolding carry_delta
decisions_are_carried i h x s Nothing stands may = stands
decisions_are_carried i h x s (RefuseJoin r) stands may =
    for_job i h x s (λ j. refusing j r) (λ j. refuse j r) stands (λ j is. let k = may j is in refusals_follow.refused j r i h x stands k.0 k.1 k.2)
decisions_are_carried i h x s (ReadOwn step) stands may =
    for_job i h x s (λ j. reading_own s (Joining j step)) (λ j. read_own_sector s (Joining j step)) stands (λ j is. read_own i h x s (Joining j step) stands (may j is))
decisions_are_carried i h x s (RegisterAndRead step) stands may =
    for_job i h x s (λ j g. reading_own s (Joining j step) (registering s g)) (λ j y. read_own_sector s (Joining j step) (register s y)) stands
    (λ j is. read_own i (registering s h) (register s x) s (Joining j step) (registered i h x s stands) (may j is))
decisions_are_carried i h x s (WriteClaim d) stands may =
    for_job i h x s (λ j. writing_own s (Joining j ClaimWrite) d) (λ j. write_own_sector s (Joining j ClaimWrite) d) stands (λ j is. write_own i h x s (Joining j ClaimWrite) d stands (may j is))
decisions_are_carried i h x s Disconnect stands may = ends_are_taken.connection i h x s.lockspace stands may
decisions_are_carried i h x s (WriteFirst d) stands may =
    for_job i h x s (λ j. writing_own s (Joining j FirstRenewal) d) (λ j. write_own_sector s (Joining j FirstRenewal) d) stands (λ j is. write_own i h x s (Joining j FirstRenewal) d stands (may j is))
decisions_are_carried i h x s (Join generation renewed) stands may =
    for_job i h x s (λ j g. surveying s (with_reply j (Generation generation) (connecting s renewed g))) (λ j y. survey s (add_reply j (Generation generation) (move_connection s renewed y))) stands
    (λ j is. let k = may j is in
    surveyed i (with_reply j (Generation generation) (connecting s renewed h)) (add_reply j (Generation generation) (move_connection s renewed x)) s
    (replies_are_taken j (Generation generation) i (connecting s renewed h) (move_connection s renewed x) (connected i h x s renewed stands)
    (record { runs = k.0.runs; heed = k.0.heed; line = line_moved i (Renew s.lockspace (renewed + fail h.config.timing)) h j k.0.line })) k.1)
decisions_are_carried i h x s (MoveConnection renewed) stands may = surveyed i (connecting s renewed h) (move_connection s renewed x) s (connected i h x s renewed stands) may
decisions_are_carried i h x s (WriteRenewal d) stands may = write_own i h x s Renewal d stands may
decisions_are_carried i h x s (WriteFree j d) stands may = write_own i h x s (Leaving j) d stands may
decisions_are_carried i h x s (EndLeaving j r) stands may = ended i h x s j r stands may
