-- What a line makes for its job, and what an answer makes for the job of its call: calls of the lease, grants, the start of a program.
use Rattle.sl_due_facts.proofs.Acts.AddedAtEnd.{contains_last}
use Rattle.sl_due.specs.DueCommands.{after_end, carry_decision, decided, holding_of, pending_refusal, process_refusal, reply_at_once, session_refusal, setting_value, unless_refused, with_session}
use Rattle.sl_due.specs.DueRecovery.{signal_and_refuse}
use Rattle.sl_due.specs.CarriedLease.{carry_lease, grant_for, grant_of, read_for}
use Rattle.sl_due.specs.Steps.{Step, add_call_of, add_end, add_reply, seen, with_input}
use Rattle.sl_due.specs.declared.decision.Decision.{Decision}
use Rattle.sl_due.specs.declared.decision.Decision.TheVariants.{ConvertsTo, GetsValue, GivesUp, Joins, Leaves, ReadsArea, Replies, Requests, SetsValue, Shares, TakesOver}
use Rattle.sl_due_law.proofs.Causes.PlainMakings.{Adds, NoStart, PlainCall, adds, adds_nothing, still_made}
use Rattle.sl_due_leases.proofs.Grants.NothingGranted.{stopped_grants}
use Rattle.sl_due_leases.proofs.Holdings.DecisionsHaveGrounds.{decisions_have_grounds}
use Rattle.sl_due_facts.proofs.Jobs.EffectsAreAllowed.{stopped}
use Rattle.sl_due_facts.proofs.Jobs.JobsAreNumbered.{next_before}
use Rattle.sl_due_facts.proofs.Jobs.NearlyPlainActs.{AnyMove, Anything}
use Rattle.sl_due_facts.proofs.Jobs.RepliesComeAfter.{mapped_or}
use Rattle.sl_due_law.specs.Causes.CauseFacts.{IsTold}
use Rattle.sl_due_law.specs.Causes.Makings.{By_line, FromJob, GivenTo, MadeFor, MadeSoFar, Says, StartedFor}
use Rattle.sl_due_leases.specs.Holdings.DecisionGrounds.{HasGrounds}
use Rattle.sl_trace.specs.Counts.{next_value_seq}
use Rattle.sl_trace.specs.Jobs.{process_named, wants_shared}
use Rattle.sl_trace.specs.LeaseDecisions.{LeasePlace, lease_place, refuses, within_turn}
use Rattle.sl_trace.specs.Conversions.{convert_next}
use Rattle.sl_trace.specs.Releases.{release_next}
use Rattle.sl_trace.specs.Leases.{LeaseKnown, holdings_on, known, spot_of}
use Rattle.sl_trace.specs.declared.lease.LeaseNext.{LeaseNext}
use Rattle.sl_trace.specs.declared.lease.LeaseNext.TheVariants.{AnswerJob, BecomeExclusive, BecomeShared, GrantJob, Nothing as No_lease, ReadFor, WriteBlock, WriteLeader}
use Rattle.sl_words.proofs.Lists.{contains_none}
use Rattle.sl_sector.specs.declared.sector.Rec.TheVariants.{ValueIs}
use Rattle.sl_trace.specs.Sessions.{session_named}
use Rattle.sl_trace.specs.declared.session.Session.{Session}
use Rattle.sl_trace.specs.Traces.{Setting, Trace, child_after, children, end_of, is_shared, new_child, next_call, next_child, next_job, spot_of_grant}
use Rattle.sl_trace.specs.declared.command.Command.{Command}
use Rattle.sl_trace.specs.declared.command.Command.TheVariants.{Acquire, AddLockspace, Convert, GetLvb, HostStatus, InqLockspace, Release, ReleaseOrphan, RemLockspace, Request, RunProgram, SetKillpath, SetLvb, Status, TakeOver}
use Rattle.sl_trace.specs.declared.command.ResourceArg.{ResourceArg}
use Rattle.sl_trace.specs.declared.effects.Call.{Call}
use Rattle.sl_trace.specs.declared.effects.Grant.{Grant}
use Rattle.sl_trace.specs.declared.effects.JoinStep.TheVariants.{FirstRead}
use Rattle.sl_trace.specs.declared.effects.LeaseStep.{LeaseStep}
use Rattle.sl_trace.specs.declared.effects.LeaseStep.TheVariants.{ClearMode, FreeLeader, Phase1Read, Phase1Write, Phase2Read, Phase2Write, ReadAgain, ReadArea, ReadBeforeBlock, ReadBeforeFree, SetMode, TakeLeader}
use Rattle.sl_trace.specs.declared.effects.Mode.{Mode}
use Rattle.sl_trace.specs.declared.effects.Mode.TheVariants.{Exclusive, Shared}
use Rattle.sl_trace.specs.declared.effects.Op.{Op}
use Rattle.sl_trace.specs.declared.effects.Op.TheVariants.{ReadSectors, WriteRecord}
use Rattle.sl_trace.specs.declared.effects.Purpose.{Purpose}
use Rattle.sl_trace.specs.declared.effects.Purpose.TheVariants.{Joining, Lease, RequestRead, ValueRead, ValueWrite}
use Rattle.sl_trace.specs.declared.effects.Spot.{Spot}
use Rattle.sl_trace.specs.declared.effects.Start.{Start}
use Rattle.sl_trace.specs.declared.effects.Work.TheVariants.{ForJob}
use Rattle.sl_trace.specs.declared.input.Input.TheVariants.{Line, Wake}
use Rattle.sl_trace.specs.declared.reply.Limited.TheVariants.{Seq as SeqLimit, Turn as TurnLimit}
use Rattle.sl_trace.specs.declared.reply.Reply.{Reply}
use Rattle.sl_trace.specs.declared.reply.Reply.TheVariants.{Done, Limit as LimitReached, NotHeld}
use Rattle.sl_words.proofs.CaseLaws.{none_some, some_value}
use Rattle.sl_words.specs.Bounds.{is_number}
use Rattle.sl_words.specs.Words.{choose}
use Rattle.sl_due_facts.specs.Acts.Acts.{next_of_conversion, next_of_release}
use Rattle.sl_due_facts.proofs.Acts.Pairs.Decisions.{within_cases}
use Rattle.sl_trace.specs.declared.lease.Aim.TheVariants.{Acquires, Converts, Releases, Settles}
use Rattle.sl_trace.specs.declared.lease.Aim.{Aim}
use Rattle.sl_trace.specs.declared.effects.LeaseRead.TheVariants.{OfArea, OfBlock, OfFree, OfPhase1, OfPhase2}
use Rattle.std.proofs.Common.{ap, arith, inl, inr, refl, subst, sym, ◌∙◌}
use Rattle.std.proofs.lemmas.List.{length-append, length-map}
use Rattle.std.specs.Option.{option_map_or}
use Rattle.std.specs.Prelude.{Bool, Contains, List, None, Ok, Option, Some, [], false, is_none, length, map, not, true, ℕ, ◌++◌, ◌+◌, ◌∷◌, ◌≡◌, ◌≤◌, ◌⊎◌}

-- ---- one call, or one grant

-- Nothing was called, granted, or started for a job.
pub record Fresh (w : Step) : Type 0 where
  pub bare : w.effects.calls ≡ []
  pub ungranted : w.effects.grants ≡ []
  pub jobless : (k : Start) (j : ℕ) → Contains w.effects.starts k → k.job ≡ Some j → ⊥

pub fresh_made : (w : Step) → Fresh w → MadeSoFar w
fresh_made w f =
    record {
      calls = λ c there. absurd (contains_none c (subst (λ cs. Contains cs c) f.bare there));
      starts = λ k j there its. absurd (f.jobless k j there its);
      grants = λ g there. absurd (contains_none g (subst (λ gs. Contains gs g) f.ungranted there));
    }

pub one_call : (w : Step) (n : ℕ) (path : List ℕ) (p : Purpose) (o : ℕ) (op : Op) → Fresh w → MadeFor w.setting w.past w.input w.effects.grants op p → MadeSoFar (add_call_of n path p o op w)
one_call w n path p o op f made =
    record {
      calls = λ c there. by c (contains_last w.effects.calls new c there);
      starts = λ k j there its. absurd (f.jobless k j there its);
      grants = λ g there. absurd (contains_none g (subst (λ gs. Contains gs g) f.ungranted there));
    } where
      new : Call
      new = record { number = next_call w.setting (seen w); session = n; purpose = p; path = path; offset = o; op = op }

      by : (c : Call) → Contains w.effects.calls c ⊎ (new ≡ c) → MadeFor w.setting w.past w.input w.effects.grants c.op c.purpose
      by c (inl old) = absurd (contains_none c (subst (λ cs. Contains cs c) f.bare old))
      by c (inr is) = subst (λ (d : Call). MadeFor w.setting w.past w.input w.effects.grants d.op d.purpose) is made

-- What a lease decides that grants nothing.
abbrev pub GivesNothing : LeaseNext → Type 0
GivesNothing (GrantJob mode lver) = ⊥
GivesNothing (BecomeShared lver l) = ⊥
GivesNothing (BecomeExclusive lver b) = ⊥
GivesNothing n = Unit {0}

reads_made : (w : Step) (s : Session) (at : Spot) (j : ℕ) (step : LeaseStep) → Fresh w → FromJob w.setting w.past w.input j → MadeSoFar (read_for s at (ForJob j) step w)
reads_made w s at j (ReadArea name) f from = one_call w s.number at.path (Lease (ForJob j) (ReadArea name)) _ _ f (from, f.ungranted)
reads_made w s at j ReadBeforeFree f from = one_call w s.number at.path (Lease (ForJob j) ReadBeforeFree) _ _ f (from, f.ungranted)
reads_made w s at j ReadBeforeBlock f from = one_call w s.number at.path (Lease (ForJob j) ReadBeforeBlock) _ _ f (from, f.ungranted)
reads_made w s at j (ReadAgain (OfArea name)) f from = one_call w s.number at.path (Lease (ForJob j) (ReadAgain (OfArea name))) _ _ f (from, f.ungranted)
reads_made w s at j (ReadAgain OfFree) f from = one_call w s.number at.path (Lease (ForJob j) (ReadAgain OfFree)) _ _ f (from, f.ungranted)
reads_made w s at j (ReadAgain OfBlock) f from = one_call w s.number at.path (Lease (ForJob j) (ReadAgain OfBlock)) _ _ f (from, f.ungranted)
reads_made w s at j (ReadAgain OfPhase1) f from = one_call w s.number at.path (Lease (ForJob j) (ReadAgain OfPhase1)) _ _ f (from, f.ungranted)
reads_made w s at j (ReadAgain OfPhase2) f from = one_call w s.number at.path (Lease (ForJob j) (ReadAgain OfPhase2)) _ _ f (from, f.ungranted)
reads_made w s at j Phase1Write f from = one_call w s.number at.path (Lease (ForJob j) Phase1Write) _ _ f (from, f.ungranted)
reads_made w s at j Phase1Read f from = one_call w s.number at.path (Lease (ForJob j) Phase1Read) _ _ f (from, f.ungranted)
reads_made w s at j Phase2Write f from = one_call w s.number at.path (Lease (ForJob j) Phase2Write) _ _ f (from, f.ungranted)
reads_made w s at j Phase2Read f from = one_call w s.number at.path (Lease (ForJob j) Phase2Read) _ _ f (from, f.ungranted)
reads_made w s at j TakeLeader f from = one_call w s.number at.path (Lease (ForJob j) TakeLeader) _ _ f (from, f.ungranted)
reads_made w s at j SetMode f from = one_call w s.number at.path (Lease (ForJob j) SetMode) _ _ f (from, f.ungranted)
reads_made w s at j FreeLeader f from = one_call w s.number at.path (Lease (ForJob j) FreeLeader) _ _ f (from, f.ungranted)
reads_made w s at j ClearMode f from = one_call w s.number at.path (Lease (ForJob j) ClearMode) _ _ f (from, f.ungranted)

pub lease_made : (w : Step) (s : Session) (at : Spot) (j : ℕ) (n : LeaseNext) → Fresh w → FromJob w.setting w.past w.input j → GivesNothing n → MadeSoFar (carry_lease s at (ForJob j) n w)
unfolding carry_lease
lease_made w s at j No_lease f from none = fresh_made w f
lease_made w s at j (ReadFor step) f from none = reads_made w s at j step f from
lease_made w s at j (WriteBlock step b) f from none = one_call w s.number at.path (Lease (ForJob j) step) _ _ f (from, f.ungranted)
lease_made w s at j (WriteLeader step l) f from none = one_call w s.number at.path (Lease (ForJob j) step) _ _ f (from, f.ungranted)
lease_made w s at j (AnswerJob r) f from none = fresh_made (add_reply j r w) (record { bare = f.bare; ungranted = f.ungranted; jobless = f.jobless })
lease_made w s at j (GrantJob mode lver) f from none = absurd none
lease_made w s at j (BecomeShared lver l) f from none = absurd none
lease_made w s at j (BecomeExclusive lver b) f from none = absurd none

pub more_children : (w : Step) → next_child w.past ≤ next_child (seen w)
more_children w =
    let e : length (children (seen w)) ≡ length (children w.past) + length (map new_child w.effects.starts) =
    length-append (map (child_after w.input) (children w.past)) (map new_child w.effects.starts) ∙ ap (λ n. n + length (map new_child w.effects.starts)) (length-map (children w.past) (child_after w.input)) in
    omega arith

-- A grant alone, to a process that is told.
pub one_grant : (w z : Step) (g : Grant) → Fresh w → z.setting ≡ w.setting → z.past ≡ w.past → z.effects.calls ≡ w.effects.calls → z.effects.starts ≡ w.effects.starts → z.effects.grants ≡ w.effects.grants ++ g ∷ []
    → GivenTo w.past g.process → MadeSoFar z
one_grant w z g f setting before calls starts grants given =
    record {
      calls = λ c there. absurd (contains_none c (subst (λ cs. Contains cs c) (calls ∙ f.bare) there));
      starts = λ k j there its. absurd (f.jobless k j (subst (λ ks. Contains ks k) starts there) its);
      grants = λ h there. by h (contains_last w.effects.grants g h (subst (λ gs. Contains gs h) grants there));
    } where
      by : (h : Grant) → Contains w.effects.grants h ⊎ (g ≡ h) → GivenTo z.past h.process
      by h (inl old) = absurd (contains_none h (subst (λ gs. Contains gs h) f.ungranted old))
      by h (inr is) = subst (λ t. GivenTo t h.process) (sym before) (subst (λ (k : Grant). GivenTo w.past k.process) is given)

-- What is to be known of the command for which something is granted.
pub record MayGrant (w : Step) (j : ℕ) (c : Command) (mode : Mode) : Type 0 where
  pub from : FromJob w.setting w.past w.input j
  pub told : (p : ℕ) → process_named c ≡ Some p → IsTold w.past p
  pub starts : (r : ResourceArg) (shared : Bool) (path : List ℕ) → c ≡ RunProgram r shared path → Says w.setting w.past w.input j c × (is_shared mode ≡ shared)

pub grant_made : (w : Step) (s : Session) (j : ℕ) (c : Command) (mode : Mode) (lver : ℕ) → Fresh w → MayGrant w j c mode → MadeSoFar (grant_for s j c mode lver w)
grant_made w s j (Acquire r shared p persistent) mode lver f may = one_grant w (grant_for s j (Acquire r shared p persistent) mode lver w) (grant_of s r p mode lver persistent) f refl refl refl refl refl (inr (inr (may.told p refl)))
grant_made w s j (TakeOver r shared p persistent) mode lver f may = one_grant w (grant_for s j (TakeOver r shared p persistent) mode lver w) (grant_of s r p mode lver persistent) f refl refl refl refl refl (inr (inr (may.told p refl)))
grant_made w s j (RunProgram r shared path) mode lver f may =
    record {
      calls = λ c there. absurd (contains_none c (subst (λ cs. Contains cs c) f.bare there));
      starts = λ q i there its. by_start q i its (contains_last w.effects.starts k q there);
      grants = λ h there. by_grant h (contains_last w.effects.grants g h there);
    } where
      n : ℕ
      n = next_child (seen w)

      k : Start
      k = record { process = next_child (seen w); program = path; job = Some j; stands_for = None }

      g : Grant
      g = grant_of s r (next_child (seen w)) mode lver false

      about : Says w.setting w.past w.input j (RunProgram r shared path) × (is_shared mode ≡ shared)
      about = may.starts r shared path refl

      started : StartedFor w.setting w.past w.input (w.effects.grants ++ grant_of s r (next_child (seen w)) mode lver false ∷ []) (next_child (seen w)) j
      started =
          record {
            from = may.from;
            new = more_children w;
            resource = r;
            shared = shared;
            path = path;
            command = about.0;
            session = s;
            mode = mode;
            lver = lver;
            grants = ap (λ gs. gs ++ grant_of s r (next_child (seen w)) mode lver false ∷ []) f.ungranted;
            wants = about.1;
          }

      by_start : (q : Start) (i : ℕ) → q.job ≡ Some i → Contains w.effects.starts q ⊎ (k ≡ q) → StartedFor w.setting w.past w.input (w.effects.grants ++ grant_of s r (next_child (seen w)) mode lver false ∷ []) q.process i
      by_start q i its (inl old) = absurd (f.jobless q i old its)
      by_start q i its (inr is) =
          let same : j ≡ i = some_value j i (ap (λ (z : Start). z.job) is ∙ its) in
          subst (λ (z : Start). StartedFor w.setting w.past w.input (w.effects.grants ++ grant_of s r (next_child (seen w)) mode lver false ∷ []) z.process i) is
          (subst (λ m. StartedFor w.setting w.past w.input (w.effects.grants ++ grant_of s r (next_child (seen w)) mode lver false ∷ []) (next_child (seen w)) m) same started)

      by_grant : (h : Grant) → Contains w.effects.grants h ⊎ (g ≡ h) → GivenTo w.past h.process
      by_grant h (inl old) = absurd (contains_none h (subst (λ gs. Contains gs h) f.ungranted old))
      by_grant h (inr is) = inr (inl (subst (λ (z : Grant). next_child w.past ≤ z.process) is (more_children w)))
grant_made w s j (AddLockspace a) mode lver f may = fresh_made w f
grant_made w s j (RemLockspace a) mode lver f may = fresh_made w f
grant_made w s j (InqLockspace a) mode lver f may = fresh_made w f
grant_made w s j (HostStatus a) mode lver f may = fresh_made w f
grant_made w s j (Release r p) mode lver f may = fresh_made w f
grant_made w s j (ReleaseOrphan r) mode lver f may = fresh_made w f
grant_made w s j (Convert r shared p) mode lver f may = fresh_made w f
grant_made w s j (Request r v how) mode lver f may = fresh_made w f
grant_made w s j (GetLvb r p) mode lver f may = fresh_made w f
grant_made w s j (SetLvb r p bytes) mode lver f may = fresh_made w f
grant_made w s j (SetKillpath p path) mode lver f may = fresh_made w f
grant_made w s j Status mode lver f may = fresh_made w f

-- ---- a line

release_gives : (p : LeasePlace) (k : LeaseKnown) (mode : Mode) (n : ℕ) → GivesNothing (release_next p k mode n)
release_gives p k Exclusive n = tt
release_gives p k Shared n = mapped_or GivesNothing _ k.own No_lease (λ b. tt) tt

convert_gives : (k : LeaseKnown) (mode : Mode) (name : List ℕ) → GivesNothing (convert_next k mode name)
convert_gives k Exclusive name = tt
convert_gives k Shared name = mapped_or GivesNothing _ k.own No_lease (λ b. tt) tt

-- Nor does a refusal by the limit of turns.
refused_gives : (aim : Aim) (r : Reply) → GivesNothing (refuses aim r)
refused_gives (Acquires mode) r = tt
refused_gives (Converts mode) r = tt
refused_gives Releases r = tt
refused_gives Settles r = tt

within_gives : (p : LeasePlace) (k : LeaseKnown) (aim : Aim) (n : LeaseNext) → GivesNothing n → GivesNothing (within_turn p k aim n)
within_gives p k aim n h = within_cases GivesNothing p k aim n (λ fits. h) (λ paired over writes. refused_gives aim (LimitReached TurnLimit))

-- The value is what the command brought.
abbrev SetsBytes : List ℕ → Decision → Type 0
SetsBytes bytes (SetsValue s at v) = v.bytes ≡ bytes
SetsBytes bytes d = Unit {0}

or_sets : (bytes : List ℕ) (o : Option Reply) (d : Decision) → SetsBytes bytes d → SetsBytes bytes (elim o as (λ z. Decision) [ Some why ↦ Replies why | None ↦ d ])
or_sets bytes (Some why) d h = tt
or_sets bytes None d h = h

unless_sets : (bytes : List ℕ) (os : List (Option Reply)) (d : Decision) → SetsBytes bytes d → SetsBytes bytes (unless_refused os d)
unless_sets bytes [] d h = h
unless_sets bytes (o ∷ os) d h = or_sets bytes o (unless_refused os d) (unless_sets bytes os d h)

value_set : (s : Session) (at : Spot) (g : Grant) (seq : ℕ) (bytes : List ℕ) → SetsBytes bytes (setting_value s at g seq bytes)
value_set s at g seq bytes = by (is_number seq) where
  by : (b : Bool) → SetsBytes bytes (elim b as (λ z. Decision) [ false ↦ Replies (LimitReached SeqLimit) | true ↦ SetsValue s at (record { host = s.id; lver = g.lver; seq = seq; bytes = bytes }) ])
  by false = tt
  by true = refl

sets_bytes : (st : Setting) (es : Trace) (now : ℕ) (r : ResourceArg) (p : ℕ) (bytes : List ℕ) → SetsBytes bytes (decided st es now (SetLvb r p bytes))
unfolding decided
sets_bytes st es now r p bytes = by (session_named st es r.lockspace) where
  f : Session → Grant → Decision
  f s g = setting_value s (spot_of r) g (next_value_seq st es s (spot_of r) g.lver) bytes

  held : (s : Session) (o : Option Grant) → SetsBytes bytes (option_map_or (f s) o (Replies NotHeld))
  held s None = tt
  held s (Some g) = value_set s (spot_of r) g (next_value_seq st es s (spot_of r) g.lver) bytes

  by : (o : Option Session) → SetsBytes bytes (with_session o (λ s. unless_refused (session_refusal st es s ∷ process_refusal es p ∷ choose (is_none (holding_of es s (spot_of r) p (λ g. not (is_shared g.mode)))) NotHeld ∷ pending_refusal st es (spot_of r) ∷ [])
      (option_map_or (f s) (holding_of es s (spot_of r) p (λ g. not (is_shared g.mode))) (Replies NotHeld))))
  by None = tt
  by (Some s) =
      unless_sets bytes (session_refusal st es s ∷ process_refusal es p ∷ choose (is_none (holding_of es s (spot_of r) p (λ g. not (is_shared g.mode)))) NotHeld ∷ pending_refusal st es (spot_of r) ∷ [])
      (option_map_or (f s) (holding_of es s (spot_of r) p (λ g. not (is_shared g.mode))) (Replies NotHeld)) (held s (holding_of es s (spot_of r) p (λ g. not (is_shared g.mode))))

-- What is known where a line is looked at.
pub record AtItsLine (x : Step) (text : List ℕ) (c : Command) (d : Decision) : Type 0 where
  pub wake : x.input ≡ Wake
  pub fresh : Fresh x
  pub says : x.setting.read text ≡ Ok c
  pub is : decided x.setting (seen x) x.reading c ≡ d
  pub more : reply_at_once d ≡ None
  pub told : (p : ℕ) → process_named c ≡ Some p → IsTold x.past p

pub line_made : (x : Step) (text : List ℕ) (c : Command) (d : Decision) → AtItsLine x text c d → MadeSoFar (carry_decision (next_job x.setting (seen x)) c d (with_input (Line text) x))
unfolding carry_decision after_end
line_made x text c d h = by d h.is h.more (subst (λ e. HasGrounds x.setting (seen x) c e) h.is (decisions_have_grounds x.setting (seen x) x.reading c)) where
  w : Step
  w = with_input (Line text) x

  j : ℕ
  j = next_job x.setting (seen x)

  own : j ≡ next_job x.setting x.past
  own = next_before x h.wake

  fresh : Fresh w
  fresh = record { bare = h.fresh.bare; ungranted = h.fresh.ungranted; jobless = h.fresh.jobless }

  from : FromJob x.setting x.past (Line text) j
  from = By_line text c refl own h.says h.told

  ended : (g : Grant) → Fresh (add_end (end_of g) w)
  ended g = record { bare = h.fresh.bare; ungranted = h.fresh.ungranted; jobless = h.fresh.jobless }

  released : (z : Step) (s : Session) (g : Grant) (hs : List Grant) → Fresh z → FromJob z.setting z.past z.input j
      → MadeSoFar (elim hs as (λ v. Step) [ e ∷ es ↦ add_reply j Done z | [] ↦ carry_lease s (spot_of_grant g) (ForJob j) (next_of_release z.setting (seen z) s (spot_of_grant g) g) z ])
  released z s g (e ∷ es) f begun = fresh_made (add_reply j Done z) (record { bare = f.bare; ungranted = f.ungranted; jobless = f.jobless })
  released z s g [] f begun =
      lease_made z s (spot_of_grant g) j (next_of_release z.setting (seen z) s (spot_of_grant g) g) f begun
      (within_gives (lease_place z.setting s) (known z.setting (seen z) s (spot_of_grant g)) Releases _
      (release_gives (lease_place z.setting s) (known z.setting (seen z) s (spot_of_grant g)) g.mode g.lver))

  no_program : {r q : ResourceArg} {shared kind persistent : Bool} {p : ℕ} {path : List ℕ} → TakeOver r shared p persistent ≡ RunProgram q kind path → ⊥
  no_program is = cc

  by : (e : Decision) → decided x.setting (seen x) x.reading c ≡ e → reply_at_once e ≡ None → HasGrounds x.setting (seen x) c e → MadeSoFar (carry_decision j c e w)
  by (Replies r) is more u = absurd (none_some r (sym more))
  by (Joins n a) is more u = one_call w n a.path (Joining j FirstRead) _ (ReadSectors 1) fresh tt
  by (Leaves s) is more u =
      still_made w (signal_and_refuse s (Some j) w) (stopped (Adds w) (Adds w) Anything PlainCall NoStart AnyMove (adds w) refl w s (Some j) (λ z k i there. tt) (adds_nothing w)) (stopped_grants w s (Some j)) (fresh_made w fresh)
  by (ReadsArea s r) is more u = one_call w s.number r.path (Lease (ForJob j) (ReadArea r.name)) _ _ fresh (from, fresh.ungranted)
  by (Shares s lver) is more u =
      grant_made w s j c Shared lver fresh
      (record { from = from; told = h.told; starts = λ r shared path its. (inl (text, refl, own, h.says), sym u.shared ∙ ap (λ k. wants_shared k) its) })
  by (GivesUp s g) is more u = released (add_end (end_of g) w) s g (holdings_on (seen (add_end (end_of g) w)) s (spot_of_grant g)) (ended g) from
  by (TakesOver s g) is more u =
      grant_made (add_end (end_of g) w) s j c g.mode g.lver (ended g) (record { from = from; told = h.told; starts = λ r shared path its. absurd (no_program (sym u.command ∙ its)) })
  by (ConvertsTo s r mode) is more u =
      lease_made w s (spot_of r) j (next_of_conversion w.setting (seen w) s (spot_of r) mode r.name) fresh from
      (within_gives (lease_place w.setting s) (known w.setting (seen w) s (spot_of r)) (Converts mode) _ (convert_gives (known w.setting (seen w) s (spot_of r)) mode r.name))
  by (Requests s r) is more u = one_call w s.number r.path (RequestRead j) r.offset (ReadSectors 2) fresh tt
  by (SetsValue s at v) is more u =
      one_call w s.number at.path (ValueWrite j) _ (WriteRecord (ValueIs v)) fresh (record {
        text = text;
        line = refl;
        own = own;
        resource = u.resource;
        process = u.process;
        value = v;
        says = h.says ∙ ap (λ k. Ok k) (u.command ∙ ap (λ bs. SetLvb u.resource u.process bs) (sym bytes));
        writes = refl;
      }) where
        bytes : v.bytes ≡ u.bytes
        bytes = subst (λ e. SetsBytes u.bytes e) (sym (ap (λ k. decided x.setting (seen x) x.reading k) u.command) ∙ is) (sets_bytes x.setting (seen x) x.reading u.resource u.process u.bytes)
  by (GetsValue s at) is more u = one_call w s.number at.path (ValueRead j) _ (ReadSectors 1) fresh tt
