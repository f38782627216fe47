-- What is allowed of replies and calls is allowed where each of them is.
use Rattle.sl_due_facts.specs.Acts.Acts.{next_of_conversion, next_of_release}
use Rattle.sl_due_facts.proofs.Acts.DecisionsAreTheirs.{Of}
use Rattle.sl_due.specs.Steps.{Step, add_end, seen}
use Rattle.sl_due.specs.declared.decision.Decision.TheVariants.{ConvertsTo, GetsValue, GivesUp, Joins, Leaves, ReadsArea, Replies, Requests, SetsValue, Shares, TakesOver}
use Rattle.sl_due.specs.declared.decision.Decision.{Decision}
use Rattle.sl_due_facts.proofs.Jobs.EffectsAreAllowed.{DecisionAllowed, GrantAllowed, LeaseAllowed, ReadAllowed, RequestAllowed}
use Rattle.sl_due_facts.proofs.Jobs.LinesAreAllowed.{IsBegun}
use Rattle.sl_due_facts.proofs.Jobs.NearlyPlainActs.{AnyStart}
use Rattle.sl_trace.specs.Jobs.{jobs_of_session}
use Rattle.sl_trace.specs.Leases.{spot_of}
use Rattle.sl_trace.specs.declared.lease.LeaseNext.TheVariants.{AnswerJob, BecomeExclusive, BecomeShared, GrantJob, Nothing as No_lease, ReadFor, WriteBlock, WriteLeader}
use Rattle.sl_trace.specs.declared.lease.LeaseNext.{LeaseNext}
use Rattle.sl_due_facts.proofs.Sessions.NamesAreAllowed.{is_joining}
use Rattle.sl_trace.specs.Sessions.{last_renewal}
use Rattle.sl_trace.specs.declared.session.Session.{Session}
use Rattle.sl_trace.specs.Traces.{Job, end_of, spot_of_grant, work_job}
use Rattle.sl_trace.specs.declared.command.Command.TheVariants.{Acquire, AddLockspace, Convert, GetLvb, HostStatus, InqLockspace, Release, ReleaseOrphan, RemLockspace, Request, RunProgram, SetKillpath, SetLvb, Status, TakeOver}
use Rattle.sl_trace.specs.declared.command.Command.{Command}
use Rattle.sl_trace.specs.declared.effects.LeaseRead.TheVariants.{OfArea, OfBlock, OfFree, OfPhase1, OfPhase2}
use Rattle.sl_trace.specs.declared.effects.LeaseStep.TheVariants.{ClearMode, FreeLeader, Phase1Read, Phase1Write, Phase2Read, Phase2Write, ReadAgain, ReadArea, ReadBeforeBlock, ReadBeforeFree, SetMode, TakeLeader}
use Rattle.sl_trace.specs.declared.effects.LeaseStep.{LeaseStep}
use Rattle.sl_trace.specs.declared.effects.Op.{Op}
use Rattle.sl_trace.specs.declared.effects.Purpose.{Purpose}
use Rattle.sl_trace.specs.declared.effects.Spot.{Spot}
use Rattle.sl_trace.specs.declared.effects.Work.TheVariants.{ForJob}
use Rattle.sl_trace.specs.declared.effects.Work.{Work}
use Rattle.sl_trace.specs.declared.reply.Reply.TheVariants.{Done, Granted, Recovering}
use Rattle.sl_trace.specs.declared.reply.Reply.{Reply}
use Rattle.sl_words.proofs.CaseLaws.{some_value}
use Rattle.std.proofs.Common.{refl, subst, sym}
use Rattle.std.specs.Prelude.{Contains, List, Some, false, ℕ, ◌≡◌}

more_reads : (C D : Session → List ℕ → Purpose → ℕ → Op → Type 0) (y : Step) (s : Session) (at : Spot) (work : Work) (step : LeaseStep) → ((path : List ℕ) (p : Purpose) (o : ℕ) (op : Op) → is_joining p ≡ false → C s path p o op → D s path p o op)
    → ReadAllowed C y s at work step → ReadAllowed D y s at work step
more_reads C D y s at work (ReadArea name) f h = f _ _ _ _ refl h
more_reads C D y s at work ReadBeforeFree f h = f _ _ _ _ refl h
more_reads C D y s at work ReadBeforeBlock f h = f _ _ _ _ refl h
more_reads C D y s at work (ReadAgain (OfArea name)) f h = f _ _ _ _ refl h
more_reads C D y s at work (ReadAgain OfFree) f h = f _ _ _ _ refl h
more_reads C D y s at work (ReadAgain OfBlock) f h = f _ _ _ _ refl h
more_reads C D y s at work (ReadAgain OfPhase1) f h = f _ _ _ _ refl h
more_reads C D y s at work (ReadAgain OfPhase2) f h = f _ _ _ _ refl h
more_reads C D y s at work Phase1Write f h = f _ _ _ _ refl h
more_reads C D y s at work Phase1Read f h = f _ _ _ _ refl h
more_reads C D y s at work Phase2Write f h = f _ _ _ _ refl h
more_reads C D y s at work Phase2Read f h = f _ _ _ _ refl h
more_reads C D y s at work TakeLeader f h = f _ _ _ _ refl h
more_reads C D y s at work SetMode f h = f _ _ _ _ refl h
more_reads C D y s at work FreeLeader f h = f _ _ _ _ refl h
more_reads C D y s at work ClearMode f h = f _ _ _ _ refl h

more_grants : (A B : ℕ → Reply → Type 0) (j lver : ℕ) (c : Command) → ((r : Reply) → A j r → B j r) → GrantAllowed A AnyStart j lver c → GrantAllowed B AnyStart j lver c
more_grants A B j lver (Acquire r shared q persistent) f h = f _ h
more_grants A B j lver (TakeOver r shared q persistent) f h = f _ h
more_grants A B j lver (RunProgram r shared path) f h = tt
more_grants A B j lver (Release r q) f h = tt
more_grants A B j lver (ReleaseOrphan r) f h = tt
more_grants A B j lver (Convert r shared q) f h = tt
more_grants A B j lver (Request r n force) f h = tt
more_grants A B j lver (GetLvb r q) f h = tt
more_grants A B j lver (SetLvb r q bytes) f h = tt
more_grants A B j lver (AddLockspace a) f h = tt
more_grants A B j lver (RemLockspace a) f h = tt
more_grants A B j lver (InqLockspace a) f h = tt
more_grants A B j lver (HostStatus a) f h = tt
more_grants A B j lver (SetKillpath q path) f h = tt
more_grants A B j lver Status f h = tt

pub more_lease : (A B : ℕ → Reply → Type 0) (C D : Session → List ℕ → Purpose → ℕ → Op → Type 0) (y : Step) (s : Session) (at : Spot) (work : Work) (n : LeaseNext) → ((j : ℕ) (r : Reply) → work_job work ≡ Some j → A j r → B j r)
    → ((path : List ℕ) (p : Purpose) (o : ℕ) (op : Op) → is_joining p ≡ false → C s path p o op → D s path p o op) → LeaseAllowed A C AnyStart y s at work n → LeaseAllowed B D AnyStart y s at work n
more_lease A B C D y s at work No_lease f g h = tt
more_lease A B C D y s at work (ReadFor step) f g h = more_reads C D y s at work step g h
more_lease A B C D y s at work (WriteBlock step b) f g h = g _ _ _ _ refl h
more_lease A B C D y s at work (WriteLeader step l) f g h = g _ _ _ _ refl h
more_lease A B C D y s at work (AnswerJob r) f g h = λ j is. f j r is (h j is)
more_lease A B C D y s at work (GrantJob mode lver) f g h = λ j c is reads_one. more_grants A B j lver c (λ r k. f j r is k) (h j c is reads_one)
more_lease A B C D y s at work (BecomeShared lver l) f g h = ((λ j is. f j (Granted lver) is (h.0 j is)), g _ _ _ _ refl h.1)
more_lease A B C D y s at work (BecomeExclusive lver b) f g h = ((λ j is. f j (Granted lver) is (h.0 j is)), λ q same. g _ _ _ _ refl (h.1 q same))

pub more_request : (A B : ℕ → Reply → Type 0) (C D : Session → List ℕ → Purpose → ℕ → Op → Type 0) (x : Step) (s : Session) (j : ℕ) (bytes : List ℕ) (c : Command) → ((r : Reply) → A j r → B j r)
    → ((path : List ℕ) (p : Purpose) (o : ℕ) (op : Op) → is_joining p ≡ false → C s path p o op → D s path p o op) → RequestAllowed A C x s j bytes c → RequestAllowed B D x s j bytes c
more_request A B C D x s j bytes (Request r asked force) f g h = ((λ why is. f why (h.0 why is)), g _ _ _ _ refl h.1)
more_request A B C D x s j bytes (AddLockspace a) f g h = tt
more_request A B C D x s j bytes (RemLockspace a) f g h = tt
more_request A B C D x s j bytes (InqLockspace a) f g h = tt
more_request A B C D x s j bytes (HostStatus a) f g h = tt
more_request A B C D x s j bytes (Acquire r shared p persistent) f g h = tt
more_request A B C D x s j bytes (TakeOver r shared p persistent) f g h = tt
more_request A B C D x s j bytes (Release r p) f g h = tt
more_request A B C D x s j bytes (ReleaseOrphan r) f g h = tt
more_request A B C D x s j bytes (Convert r shared p) f g h = tt
more_request A B C D x s j bytes (RunProgram r shared path) f g h = tt
more_request A B C D x s j bytes (GetLvb r p) f g h = tt
more_request A B C D x s j bytes (SetLvb r p other) f g h = tt
more_request A B C D x s j bytes (SetKillpath p path) f g h = tt
more_request A B C D x s j bytes Status f g h = tt

-- What refuses the jobs of a session that is left.
abbrev pub StopsAllowed : (Step → Type 0) → (ℕ → Reply → Type 0) → Session → Type 0
StopsAllowed K A s = (z : Step) → K z → (k : Job) → Contains (jobs_of_session z.setting (seen z) s) k → A k.number (Recovering (last_renewal z.setting (seen z) s))

pub more_decision : (K L : Step → Type 0) (A B : ℕ → Reply → Type 0) (C D : Session → List ℕ → Purpose → ℕ → Op → Type 0) (y : Step) (j : ℕ) (c : Command) (d : Decision) → ((r : Reply) → A j r → B j r)
    → Of (λ s. (path : List ℕ) (p : Purpose) (o : ℕ) (op : Op) → is_joining p ≡ false → C s path p o op → D s path p o op) d → ((s : Session) → d ≡ Leaves s → StopsAllowed L B s) → (IsBegun d → ⊥)
    → DecisionAllowed K A C AnyStart y j c d → DecisionAllowed L B D AnyStart y j c d
more_decision K L A B C D y j c (Replies r) f g stops old h = tt
more_decision K L A B C D y j c (Joins n a) f g stops old h = absurd (old tt)
more_decision K L A B C D y j c (Leaves s) f g stops old h = (tt, stops s refl)
more_decision K L A B C D y j c (ReadsArea s r) f g stops old h = g _ _ _ _ refl h
more_decision K L A B C D y j c (Shares s lver) f g stops old h = more_grants A B j lver c f h
more_decision K L A B C D y j c (GivesUp s gr) f g stops old h = (
  f Done h.0,
  more_lease A B C D (add_end (end_of gr) y) s (spot_of_grant gr) (ForJob j) (next_of_release y.setting (seen (add_end (end_of gr) y)) s (spot_of_grant gr) gr)
      (λ i r is k. subst (λ n. B n r) (some_value j i is) (f r (subst (λ n. A n r) (sym (some_value j i is)) k))) g h.1,
)
more_decision K L A B C D y j c (TakesOver s gr) f g stops old h = more_grants A B j gr.lver c f h
more_decision K L A B C D y j c (ConvertsTo s r mode) f g stops old h =
    more_lease A B C D y s (spot_of r) (ForJob j) (next_of_conversion y.setting (seen y) s (spot_of r) mode r.name)
    (λ i q is k. subst (λ n. B n q) (some_value j i is) (f q (subst (λ n. A n q) (sym (some_value j i is)) k))) g h
more_decision K L A B C D y j c (Requests s r) f g stops old h = g _ _ _ _ refl h
more_decision K L A B C D y j c (SetsValue s at v) f g stops old h = g _ _ _ _ refl h
more_decision K L A B C D y j c (GetsValue s at) f g stops old h = g _ _ _ _ refl h
