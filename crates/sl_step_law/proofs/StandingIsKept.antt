-- Each act keeps where calls stand: of a session on its own sectors, of a command on the area that it names, of a lease on that of its calls before.
use Rattle.sl_due_facts.proofs.Acts.DecisionsAreTheirs.{decisions_are_theirs}
use Rattle.sl_due_facts.specs.Acts.Acts.{Acts, Has}
use Rattle.sl_due_facts.specs.Acts.DueDaemons.{IsDecidedFor, IsPresent}
use Rattle.sl_area.specs.AreaLayout.{delta_offset, is_base, request_offset, value_offset}
use Rattle.sl_due.specs.DueAnswers.{set_reply}
use Rattle.sl_due.specs.DueCommands.{carry_decision}
use Rattle.sl_due.specs.DueInputs.{end_holdings, leave_holdings, started_reply}
use Rattle.sl_due.specs.DueRequests.{after_value_read, owner_read, value_reply}
use Rattle.sl_due.specs.Steps.{Step, add_end, add_reply, seen, with_input}
use Rattle.sl_due.specs.declared.decision.Decision.{Decision}
use Rattle.sl_due.specs.declared.decision.Decision.TheVariants.{ConvertsTo, GetsValue, GivesUp, Joins, Leaves, ReadsArea, Replies, Requests, SetsValue, Shares, TakesOver}
use Rattle.sl_due_facts.proofs.Jobs.DecisionsFit.{DecisionFits, decisions_fit}
use Rattle.sl_due_facts.proofs.Jobs.EffectsAreAllowed.{DecisionAllowed, RequestAllowed, decision, delta, ended, exited, left, refusal, removal_of_refused, requested, said, sent, signalled, stopped, removal}
use Rattle.sl_due_facts.proofs.Jobs.JobsAreNumbered.{command_is_read}
use Rattle.sl_due_facts.proofs.Jobs.NearlyPlainActs.{AnyMove, AnyStart, Anything, grant_plain}
use Rattle.sl_due_leases.proofs.Ways.WayFactsHeld.LinesReady.{named_base}
use Rattle.sl_due_law.specs.LawfulTraces.CarriedFacts.{Kept}
use Rattle.sl_run.specs.Lawful.{IsSetting}
use Rattle.sl_trace.specs.Jobs.{job_of_start, resource_named}
use Rattle.sl_trace.specs.Leases.{exclusive_on, holdings_on, spot_of}
use Rattle.sl_words.proofs.Lists.{find_inside, got_inside, kept_inside}
use Rattle.sl_trace.specs.Sessions.{holdings_of, is_present, sessions}
use Rattle.sl_trace.specs.declared.delta.DeltaNext.{DeltaNext}
use Rattle.sl_trace.specs.declared.session.Session.{Session}
use Rattle.sl_step_law.proofs.OffsetsAreWhole.{base_at_sector, delta_whole, request_whole, value_whole}
use Rattle.sl_step_law.specs.CallsStand.{CallsStand}
use Rattle.sl_trace.specs.CommandForms.{IsCommand, IsLockspaceArg}
use Rattle.sl_trace.specs.Traces.{Setting, Trace, end_of, holdings, next_job, same_place, spot_of_grant, is_shared}
use Rattle.sl_trace.specs.declared.command.Command.{Command}
use Rattle.sl_trace.specs.declared.command.Command.TheVariants.{Acquire, AddLockspace, Convert, GetLvb, HostStatus, InqLockspace, Release, ReleaseOrphan, RemLockspace, Request, RunProgram, SetKillpath, SetLvb, Status, TakeOver}
use Rattle.sl_trace.specs.declared.command.LockspaceArg.{LockspaceArg}
use Rattle.sl_trace.specs.declared.command.ResourceArg.{ResourceArg}
use Rattle.sl_trace.specs.declared.effects.Grant.{Grant}
use Rattle.sl_trace.specs.declared.effects.JoinStep.TheVariants.{FirstRead}
use Rattle.sl_trace.specs.declared.effects.LeaseStep.TheVariants.{ReadArea}
use Rattle.sl_trace.specs.declared.effects.Op.{Op}
use Rattle.sl_trace.specs.declared.effects.Op.TheVariants.{ReadSectors}
use Rattle.sl_trace.specs.declared.effects.Purpose.{Purpose}
use Rattle.sl_trace.specs.declared.effects.Purpose.TheVariants.{Joining, RequestRead, SeeRequest, RequestWrite, ValueRead, ValueWrite}
use Rattle.sl_trace.specs.declared.effects.Signal.TheVariants.{Kill, Term}
use Rattle.sl_trace.specs.declared.effects.Spot.{Spot}
use Rattle.sl_trace.specs.declared.effects.Work.TheVariants.{ForJob}
use Rattle.sl_trace.specs.declared.input.Input.{Input}
use Rattle.sl_trace.specs.declared.input.Input.TheVariants.{Exit, Line}
use Rattle.sl_trace.specs.declared.reply.Reply.TheVariants.{Done, IoFault, IoTimeout, SpawnFault}
use Rattle.std.proofs.Common.{refl, subst, sym}
use Rattle.std.specs.Prelude.{Contains, IsTrue, List, None, Some, not, ℕ, ◌==◌, ◌≡◌, filter}
use Rattle.sl_step_law.proofs.CallsOnPast.{Calls, OnPast, StandsAs, allows, one_more, plain, delta_stands}
use Rattle.sl_step_law.proofs.LeasesOnPast.{head, released, turned}
use Rattle.sl_step_law.proofs.LeasesStandOn.{Known, ends_so, heard_there, leads, settled, starts_so}
use Rattle.sl_due.specs.CarriedDelta.{carry_delta}
use Rattle.sl_host_law.proofs.SharedFacts.PlainOrders.{ordered_inside}
use Rattle.sl_words.specs.Orders.{is_text_before}
use Rattle.sl_trace.specs.declared.reply.Reply.{Reply}

-- The input is seen, and no call is made.
inputs_so : (x : Step) (i : Input) → Known x → OnPast x.setting x.past (with_input i x)
inputs_so x i h = record { setting = refl; before = refl; each = h.1.0 }

-- ---- what a command names

listed : (st : Setting) (es : Trace) (s : Session) → IsPresent st es s → Contains (sessions st es) s
listed st es s there = (kept_inside (is_present es) (sessions st es) s (ordered_inside (λ (a b : Session). is_text_before a.lockspace b.lockspace) (filter (is_present es) (sessions st es)) s there)).0

-- A holding stands at a base.
held_base : (x : Step) (g : Grant) → Kept x → Contains (holdings (seen x)) g → IsTrue (is_base x.setting.layout g.offset)
held_base x g k held = (k.known.0.facts.holdings.owned g held).4

on_spot : (x : Step) (s : Session) (at : Spot) (g : Grant) → Contains (holdings_on (seen x) s at) g → Contains (holdings (seen x)) g
on_spot x s at g held =
    (kept_inside (λ (z : Grant). z.session == s.number) (holdings (seen x)) g
    (kept_inside (λ (z : Grant). same_place z.path z.offset at.path at.base) (holdings_of (seen x) s) g held).0).0

exclusive_there : (x : Step) (s : Session) (at : Spot) (g : Grant) → exclusive_on (seen x) s at ≡ Some g → Contains (holdings (seen x)) g
exclusive_there x s at g is = on_spot x s at g (find_inside (λ (z : Grant). not (is_shared z.mode)) (holdings_on (seen x) s at) g is).0

module _ (x : Step) (h : Known x) (text : List ℕ) (j : ℕ) (c : Command) (reads : IsCommand x.setting.layout c) where
  setting : IsSetting x.setting
  setting = h.0.known.0.setting

  base_of : (r : ResourceArg) → resource_named c ≡ Some r → IsTrue (is_base x.setting.layout r.offset)
  base_of r named = named_base x.setting.layout c r reads named

  abbrev heard : Step
  heard = with_input (Line text) x

  abbrev CallsOf : Session → List ℕ → Purpose → ℕ → Op → Type 0
  CallsOf = Calls x.setting x.past

  joins : (n : ℕ) (a : LockspaceArg) → c ≡ AddLockspace a → StandsAs x.setting x.past n a.path (Joining j FirstRead) (delta_offset x.setting.layout a.offset a.id) (ReadSectors 1)
  joins n a is =
      let arg : IsLockspaceArg x.setting.layout a = subst (IsCommand x.setting.layout) is reads in
      plain x.setting x.past n a.path (Joining j FirstRead) (delta_offset x.setting.layout a.offset a.id) (ReadSectors 1) refl refl (delta_whole x.setting setting a.offset arg.base a.id)

  decision_stands : (d : Decision) → DecisionFits x.setting (seen x) c d → IsDecidedFor x.setting (seen x) c d → DecisionAllowed (OnPast x.setting x.past) Anything CallsOf AnyStart heard j c d
  decision_stands (Replies r) fit of = tt
  decision_stands (Joins n a) fit of = λ z is. joins z.number a fit.0
  decision_stands (Leaves s) fit of = (tt, λ z k i there. tt)
  decision_stands (ReadsArea s r) fit of = head x h.0 s (listed x.setting (seen x) s of) (spot_of r) (base_of r fit.1.0) (ForJob j) (ReadArea r.name) _ refl
  decision_stands (Shares s lver) fit of = grant_plain j lver c
  decision_stands (GivesUp s g) fit of =
      let at : Spot = spot_of_grant g in
      let base = held_base x g h.0 (on_spot x s (spot_of fit.1.0) g fit.1.3) in
      (tt, released x h.0 s (listed x.setting (seen x) s of) at base (add_end (end_of g) heard) (ForJob j) at g refl)
  decision_stands (TakesOver s g) fit of = grant_plain j g.lver c
  decision_stands (ConvertsTo s r mode) fit of =
      turned x h.0 s (listed x.setting (seen x) s of) (spot_of r) (base_of r fit.1.0) heard (ForJob j) (spot_of r) mode r.name refl
  decision_stands (Requests s r) fit of = plain x.setting x.past s.number r.path (RequestRead j) r.offset _ refl refl (base_at_sector x.setting setting r.offset (base_of r fit.1.0))
  decision_stands (SetsValue s at v) fit of =
      let base = subst (λ (z : Spot). IsTrue (is_base x.setting.layout z.base)) (sym fit.1.2) (base_of fit.1.0 fit.1.1.0) in
      plain x.setting x.past s.number at.path (ValueWrite j) (value_offset x.setting.layout at.base) _ refl refl (value_whole x.setting setting at.base base)
  decision_stands (GetsValue s at) fit of =
      let base = subst (λ (z : Spot). IsTrue (is_base x.setting.layout z.base)) (sym fit.1.2) (base_of fit.1.0 fit.1.1.0) in
      plain x.setting x.past s.number at.path (ValueRead j) (value_offset x.setting.layout at.base) _ refl refl (value_whole x.setting setting at.base base)

  carried_out : (d : Decision) → DecisionFits x.setting (seen x) c d → IsDecidedFor x.setting (seen x) c d → OnPast x.setting x.past (carry_decision j c d heard)
  unfolding carry_decision
  carried_out d fit of =
      decision (OnPast x.setting x.past) (OnPast x.setting x.past) Anything CallsOf AnyStart AnyMove (allows x.setting x.past) heard j c d (decision_stands d fit of)
      (λ n a is. one_more x.setting x.past heard n a.path (Joining j FirstRead) (delta_offset x.setting.layout a.offset a.id) (ReadSectors 1)
      (joins n a (subst (DecisionFits x.setting (seen x) c) is fit).0) (inputs_so x (Line text) h)) (inputs_so x (Line text) h)

-- ---- requests

request_stands : (x : Step) (s : Session) (j : ℕ) (bytes : List ℕ) (c : Command) → IsSetting x.setting → IsCommand x.setting.layout c → RequestAllowed Anything (Calls x.setting x.past) x s j bytes c
request_stands x s j bytes (Request r asked force) laid reads =
    ((λ why is. tt), plain x.setting x.past s.number r.path (RequestWrite j (owner_read x.setting.layout bytes)) (request_offset x.setting.layout r.offset) _ refl refl (request_whole x.setting laid r.offset reads.0.base))
request_stands x s j bytes (AddLockspace a) laid reads = tt
request_stands x s j bytes (RemLockspace a) laid reads = tt
request_stands x s j bytes (InqLockspace a) laid reads = tt
request_stands x s j bytes (HostStatus a) laid reads = tt
request_stands x s j bytes (Acquire r shared p persistent) laid reads = tt
request_stands x s j bytes (TakeOver r shared p persistent) laid reads = tt
request_stands x s j bytes (Release r p) laid reads = tt
request_stands x s j bytes (ReleaseOrphan r) laid reads = tt
request_stands x s j bytes (Convert r shared p) laid reads = tt
request_stands x s j bytes (RunProgram r shared path) laid reads = tt
request_stands x s j bytes (GetLvb r p) laid reads = tt
request_stands x s j bytes (SetLvb r p other) laid reads = tt
request_stands x s j bytes (SetKillpath p path) laid reads = tt
request_stands x s j bytes Status laid reads = tt

-- ---- all acts

module _ (x : Step) (h : Known x) where
  abbrev On : Step → Type 0
  On = OnPast x.setting x.past

  abbrev C : Session → List ℕ → Purpose → ℕ → Op → Type 0
  C = Calls x.setting x.past

  start : On x
  start = starts_so x h

  -- What a session does on its own sectors.
  own_sectors : (s : Session) (n : DeltaNext) → Contains (sessions x.setting (seen x)) s → CallsStand (carry_delta s n x)
  own_sectors s n there = ends_so x (carry_delta s n x) h (delta On On Anything C AnyStart AnyMove (allows x.setting x.past) x s n (delta_stands x h.0 s there n) start)

  listed_by : (s : Session) → Has x s → Contains (sessions x.setting (seen x)) s
  listed_by s has = got_inside (sessions x.setting (seen x)) s.number s has

  replied : (j : ℕ) (r : Reply) → CallsStand (add_reply j r x)
  replied j r = ends_so x (add_reply j r x) h (record { setting = start.setting; before = start.before; each = start.each })

pub standing_is_kept : Acts Known CallsStand
unfolding after_value_read
standing_is_kept =
    record {
      kills = λ x s has due h. ends_so x _ h (signalled (On x h) (On x h) Anything (C x h) AnyStart AnyMove (allows x.setting x.past) tt x Kill s (start x h));
      times_out = λ x j m wake bare runs waits late_one h.
          ends_so x _ h (refusal (On x h) (On x h) Anything (C x h) AnyStart AnyMove (allows x.setting x.past) x j (IoTimeout m.call.number m.reading x.reading) tt (λ z is. tt) (start x h));
      hears = λ x number answer wake bare expected h. h.1;
      counts = λ x text wake bare h. h.1;
      exits = λ x n wake bare one h.
          (let w : Step = with_input (Exit n) x in
          ends_so x _ h
          (exited (On x h) (On x h) Anything (C x h) AnyStart AnyMove (allows x.setting x.past) (leave_holdings n w) n (λ j there. tt)
          (left (On x h) (On x h) Anything (C x h) AnyStart AnyMove (allows x.setting x.past) w n (inputs_so x (Exit n) h))));
      exits_as_none = λ x n wake bare none h. h.1;
      starts = λ x n ok wake bare expected h. h.1;
      fails_to_start = λ x n input h.
          ends_so x _ h
          (said (On x h) (On x h) Anything (C x h) AnyStart AnyMove (allows x.setting x.past) (end_holdings n x) (job_of_start (seen x) n) SpawnFault (λ j is. tt)
          (ended (On x h) (On x h) Anything (C x h) AnyStart AnyMove (allows x.setting x.past) x n (start x h)));
      signals_instead = λ x n o input stood h. ends_so x _ h ((allows x.setting x.past).signals x o Term (start x h));
      says_started = λ x n j input is runs h. replied x h j (started_reply (seen x) n);
      misreads = λ x text column wake bare says h. h.1;
      answers = λ x text c r wake bare says is h. h.1;
      carries = λ x text c d wake bare says is more h.
          ends_so x _ h
          (carried_out x h text (next_job x.setting (seen x)) c (h.0.known.0.setting.reads text c says) d (subst (DecisionFits x.setting (seen x) c) is (decisions_fit x.setting (seen x) x.reading c))
          (subst (IsDecidedFor x.setting (seen x) c) is (decisions_are_theirs x.setting (seen x) x.reading c)));
      joins_on = λ x s j step m answer hears is runs h. own_sectors x h s _ (heard_there x s m answer hears);
      ends_joining = λ x s j step m answer hears is stops h.
          ends_so x _ h (removal_of_refused (On x h) (On x h) Anything (C x h) AnyStart AnyMove (allows x.setting x.past) x s tt (start x h));
      renewed = λ x s m answer hears is h. own_sectors x h s _ (heard_there x s m answer hears);
      freed = λ x s j m answer hears is h. own_sectors x h s _ (heard_there x s m answer hears);
      shown = λ x s m bytes hears is joined begins h.
          ends_so x _ h (stopped (On x h) (On x h) Anything (C x h) AnyStart AnyMove (allows x.setting x.past) tt x s None (λ z k j there. tt) (start x h));
      sees = λ x s number bytes at g has input held h.
          ends_so x _ h
          (one_more x.setting x.past x s.number g.path SeeRequest (request_offset x.setting.layout g.offset) (ReadSectors 1)
          (plain x.setting x.past s.number g.path SeeRequest (request_offset x.setting.layout g.offset) (ReadSectors 1) refl refl
          (request_whole x.setting h.0.known.0.setting g.offset (held_base x g h.0 (exclusive_there x s at g held)))) (start x h));
      leads_on = λ x s work step m answer aim hears is on aims h. ends_so x _ h (leads x s work step m answer aim hears is h);
      fails = λ x s m j hears lone runs h. replied x h j (IoFault m.call.number);
      has_asked = λ x s m j owner hears is runs h. replied x h j Done;
      has_set = λ x s m j hears is runs h. replied x h j (set_reply m);
      asks = λ x s m j bytes c hears is runs reads_one h.
          (let text = command_is_read x.setting (seen x) j c reads_one in
          ends_so x _ h
          (requested (On x h) (On x h) Anything (C x h) AnyStart AnyMove (allows x.setting x.past) x s j bytes c
          (request_stands x s j bytes c h.0.known.0.setting (h.0.known.0.setting.reads text.0 c text.1)) (start x h)));
      tells = λ x s m j bytes hears is runs h. replied x h j (value_reply x.setting.layout bytes);
      warns = λ x s m bytes g signal hears is held own says h.
          ends_so x _ h (sent (On x h) (On x h) Anything (C x h) AnyStart AnyMove (allows x.setting x.past) tt x g.process signal (start x h));
      joins_in_time = λ x s j has wake is runs h. own_sectors x h s _ (listed_by x h s has);
      renews = λ x s has wake joined h. own_sectors x h s _ (listed_by x h s has);
      settles = λ x s at has wake active whole none h. ends_so x _ h (settled x s at has whole none h);
      parts = λ x s has joined recovers_one free quiet h.
          ends_so x _ h (removal (On x h) (On x h) Anything (C x h) AnyStart AnyMove (allows x.setting x.past) x s.lockspace tt (start x h));
      frees = λ x s has joined well free quiet h. own_sectors x h s _ (listed_by x h s has);
    }
