-- What each single effect keeps is kept by all acts.
use Rattle.sl_due_facts.proofs.Acts.AddedAtEnd.{begun_by}
use Rattle.sl_due_facts.proofs.Acts.DecisionsAreTheirs.{Of, decided_there}
use Rattle.sl_due_facts.proofs.Acts.EffectsKeep.{delta, granting, lease, reading, refusal, removal, removal_of_refused, sent, signalled, stopped}
use Rattle.sl_due_facts.proofs.Acts.InputsKeep.{has_heard}
use Rattle.sl_due_facts.proofs.Acts.LoopsKeep.{for_each_keeps, when_keeps}
use Rattle.sl_due_facts.proofs.Acts.WakesKeep.{present_has}
use Rattle.sl_due_facts.specs.Acts.Acts.{Acts, Has, next_of_conversion, next_of_release}
use Rattle.sl_due_facts.specs.Acts.KeptByEffects.{ByEffects, Plainly}
use Rattle.sl_due_facts.specs.Acts.TraceSoFar.{entry_of}
use Rattle.sl_area.specs.AreaLayout.{request_offset, value_offset}
use Rattle.sl_due.specs.DueCommands.{after_end, carry_decision, decided}
use Rattle.sl_due.specs.DueInputs.{end_holdings, leave_holdings, refuse_jobs_of, when_running}
use Rattle.sl_due.specs.CarriedLease.{carry_lease}
use Rattle.sl_due.specs.DueRequests.{after_request_read, after_value_read, owner_read, request_refusal, write_request}
use Rattle.sl_due.specs.Steps.{Step, add_end, add_grant, add_reply, seen, with_input}
use Rattle.sl_due.specs.declared.decision.Decision.TheVariants.{ConvertsTo, GetsValue, GivesUp, Joins, Leaves, ReadsArea, Replies, Requests, SetsValue, Shares, TakesOver}
use Rattle.sl_due.specs.declared.decision.Decision.{Decision}
use Rattle.sl_trace.specs.Jobs.{is_job_of_process, job_of_start}
use Rattle.sl_trace.specs.Leases.{holdings_on, spot_of}
use Rattle.sl_sector.specs.declared.sector.Rec.TheVariants.{RequestIs, ValueIs}
use Rattle.sl_trace.specs.Sessions.{is_join_call, sessions}
use Rattle.sl_trace.specs.declared.session.Session.{Session}
use Rattle.sl_trace.specs.Traces.{end_of, holdings, is_running, next_job, orphans_left, running_jobs, spot_of_grant}
use Rattle.sl_trace.specs.declared.command.Command.TheVariants.{Request}
use Rattle.sl_trace.specs.declared.command.Command.{Command}
use Rattle.sl_trace.specs.declared.command.LockspaceArg.{LockspaceArg}
use Rattle.sl_trace.specs.declared.effects.Call.{Call}
use Rattle.sl_trace.specs.declared.effects.Grant.{Grant}
use Rattle.sl_trace.specs.declared.effects.JoinStep.TheVariants.{FirstRead}
use Rattle.sl_trace.specs.declared.effects.LeaseStep.TheVariants.{ReadArea}
use Rattle.sl_trace.specs.declared.effects.Mode.TheVariants.{Shared}
use Rattle.sl_trace.specs.declared.effects.Op.TheVariants.{ReadSectors, WriteRecord}
use Rattle.sl_trace.specs.declared.effects.Purpose.TheVariants.{RequestRead, RequestWrite, SeeRequest, ValueRead, ValueWrite}
use Rattle.sl_trace.specs.declared.effects.Signal.TheVariants.{Kill, Term}
use Rattle.sl_trace.specs.declared.effects.Spot.{Spot}
use Rattle.sl_trace.specs.declared.effects.Work.TheVariants.{ForJob}
use Rattle.sl_trace.specs.declared.input.Answer.TheVariants.{Read}
use Rattle.sl_trace.specs.declared.input.Input.TheVariants.{Answer as Told, Exit, Line, Number, Spawned}
use Rattle.sl_trace.specs.declared.reply.Reply.TheVariants.{Done, NoProcess, SpawnFault}
use Rattle.sl_trace.specs.declared.reply.Reply.{Reply}
use Rattle.std.proofs.Common.{ap, refl, subst, sym, ◌∙◌}
use Rattle.std.specs.List.{list_any}
use Rattle.std.specs.Prelude.{List, None, Option, Some, false, filter, if◌then◌else◌, length, slice_get, [], ℕ, ◌++◌, ◌==◌, ◌∷◌, ◌≡◌}

-- ---- each act

-- Before any call the line changes no session.
seen_line : (x : Step) (text : List ℕ) (s : Session) → x.effects.calls ≡ [] → Has x s → Has (with_input (Line text) x) s
seen_line x text s bare has =
    let ss : List Session = sessions x.setting x.past in
    let none : list_any (λ (c : Call). is_join_call FirstRead c.purpose) x.effects.calls ≡ false = ap (λ cs. list_any (λ (c : Call). is_join_call FirstRead c.purpose) cs) bare in
    ap (λ b. slice_get (ss ++ begun_by x.setting x.past (length ss) (entry_of (with_input (Line text) x)) b) s.number) none
    ∙ (ap (λ b. slice_get (ss ++ begun_by x.setting x.past (length ss) (entry_of x) b) s.number) (sym none) ∙ has)

pub ended : (K : Step → Type 0) → ByEffects K → (x : Step) (p : ℕ) → K x → K (end_holdings p x)
ended K p x q h = for_each_keeps K (filter (λ g. g.process == q) (holdings (seen x))) (λ g. add_end (end_of g)) x (λ g there y k. p.ends y (end_of g) k) h

pub left : (K : Step → Type 0) → ByEffects K → (x : Step) (q : ℕ) → K x → K (leave_holdings q x)
unfolding leave_holdings
left K p x q h = for_each_keeps K (orphans_left q (holdings (seen x))) add_grant (end_holdings q x) (λ g there y k. p.grants y g k) (ended K p x q h)

pub exited : (K : Step → Type 0) → ByEffects K → (x : Step) (p : ℕ) → K x → K (refuse_jobs_of p x)
exited K p x q h =
    for_each_keeps K (filter (is_job_of_process (seen x) q) (running_jobs x.setting (seen x))) (λ j. add_reply j.number (NoProcess q)) x (λ j there y k. p.replies y j.number (NoProcess q) k) h

said : (K : Step → Type 0) → ByEffects K → (x : Step) (o : Option ℕ) (r : Reply) → K x → K (when_running o r x)
said K p x None r h = h
said K p x (Some j) r h = when_keeps K (is_running (seen x) j) (add_reply j r) x (λ runs k. p.replies x j r k) h

given_up : (K : Step → Type 0) → ByEffects K → (y : Step) (s : Session) → Has y s → (at : Spot) (j : ℕ) (g : Grant) → (hs : List Grant) → holdings_on (seen y) s at ≡ hs → K y
    → K (elim hs as (λ z. Step) [ h ∷ rest ↦ add_reply j Done y | [] ↦ carry_lease s at (ForJob j) (next_of_release y.setting (seen y) s at g) y ])
given_up K p y s has at j g (h ∷ rest) is k = p.replies y j Done k
given_up K p y s has at j g [] is k = lease K p y s has at (ForJob j) (next_of_release y.setting (seen y) s at g) k

-- What a decision does after its line was seen.
pub decision_kept : (K : Step → Type 0) → ByEffects K → (y : Step) (j : ℕ) (c : Command) (d : Decision) → Of (Has y) d → ((n : ℕ) (a : LockspaceArg) → d ≡ Joins n a → K (carry_decision j c (Joins n a) y)) → K y
    → K (carry_decision j c d y)
unfolding carry_decision after_end
decision_kept K p y j c (Replies r) has begins h = h
decision_kept K p y j c (Joins n a) has begins h = begins n a refl
decision_kept K p y j c (Leaves s) has begins h = stopped K p y s (Some j) h
decision_kept K p y j c (ReadsArea s r) has begins h = reading K p y s has (spot_of r) (ForJob j) (ReadArea r.name) h
decision_kept K p y j c (Shares s lver) has begins h = granting K p y s j c Shared lver h
decision_kept K p y j c (GivesUp s g) has begins h =
    let z : Step = add_end (end_of g) y in
    given_up K p z s has (spot_of_grant g) j g (holdings_on (seen z) s (spot_of_grant g)) refl (p.ends y (end_of g) h)
decision_kept K p y j c (TakesOver s g) has begins h = granting K p (add_end (end_of g) y) s j c g.mode g.lver (p.ends y (end_of g) h)
decision_kept K p y j c (ConvertsTo s r mode) has begins h = lease K p y s has (spot_of r) (ForJob j) (next_of_conversion y.setting (seen y) s (spot_of r) mode r.name) h
decision_kept K p y j c (Requests s r) has begins h = p.calls y s r.path (RequestRead j) r.offset (ReadSectors 2) has h
decision_kept K p y j c (SetsValue s at v) has begins h = p.calls y s at.path (ValueWrite j) (value_offset y.setting.layout at.base) (WriteRecord (ValueIs v)) has h
decision_kept K p y j c (GetsValue s at) has begins h = p.calls y s at.path (ValueRead j) (value_offset y.setting.layout at.base) (ReadSectors 1) has h

-- Its session is one of the trace with the line.
pub line_has : (x : Step) (text : List ℕ) (c : Command) → x.effects.calls ≡ [] → Of (Has (with_input (Line text) x)) (decided x.setting (seen x) x.reading c)
line_has x text c bare = decided_there x.setting (seen x) x.reading c (Has (with_input (Line text) x)) (λ s there. seen_line x text s bare (present_has x s there))

requested : (K : Step → Type 0) → ByEffects K → (x : Step) (s : Session) → Has x s → (j : ℕ) (bytes : List ℕ) (c : Command) → K x → K (after_request_read s j bytes c x)
unfolding after_request_read
requested K p x s has j bytes (Request r asked force) h = by (request_refusal x.setting.layout s.lockspace r asked force bytes) where
  by : (o : Option Reply) → K (elim o as (λ z. Step) [ Some why ↦ add_reply j why x | None ↦ write_request s j (owner_read x.setting.layout bytes) r asked force x ])
  by (Some why) = p.replies x j why h
  by None =
      p.calls x s r.path (RequestWrite j (owner_read x.setting.layout bytes)) (request_offset x.setting.layout r.offset)
      (WriteRecord (RequestIs (record { force = force; host = (if asked == 0 then 0 else s.id); lver = asked }))) has h
requested K p x s has j bytes c h = h

pub plain_acts : (K : Step → Type 0) → Plainly K → Acts K K
unfolding after_value_read
plain_acts K q =
    let p : ByEffects K = q.effects in
    record {
      kills = λ x s has due h. signalled K p x Kill s h;
      times_out = λ x j m wake bare runs waits late h. refusal K p x j _ h;
      hears = λ x number answer wake bare expected h. q.inputs x (Told number answer) wake bare h;
      counts = λ x text wake bare h. q.inputs x (Number text) wake bare h;
      exits = λ x n wake bare one h. exited K p (leave_holdings n (with_input (Exit n) x)) n (left K p (with_input (Exit n) x) n (q.inputs x (Exit n) wake bare h));
      exits_as_none = λ x n wake bare none h. q.inputs x (Exit n) wake bare h;
      starts = λ x n ok wake bare expected h. q.inputs x (Spawned n ok) wake bare h;
      fails_to_start = λ x n input h. said K p (end_holdings n x) (job_of_start (seen x) n) SpawnFault (ended K p x n h);
      signals_instead = λ x n o input stood h. p.signals x o Term h;
      says_started = λ x n j input is runs h. p.replies x j _ h;
      misreads = λ x text column wake bare says h. p.replies (with_input (Line text) x) _ _ (q.inputs x (Line text) wake bare h);
      answers = λ x text c r wake bare says is h. p.replies (with_input (Line text) x) _ r (q.inputs x (Line text) wake bare h);
      carries = λ x text c d wake bare says is more h.
          decision_kept K p (with_input (Line text) x) (next_job x.setting (seen x)) c d
          (subst (λ z. Of (Has (with_input (Line text) x)) z) is (line_has x text c bare))
          (λ n a joins. q.begins x text c n a wake bare says (is ∙ joins) h) (q.inputs x (Line text) wake bare h);
      joins_on = λ x s j step m answer hears is runs h. delta K p x s (has_heard x s m answer hears) _ h;
      ends_joining = λ x s j step m answer hears is stops h. removal_of_refused K p x s h;
      renewed = λ x s m answer hears is h. delta K p x s (has_heard x s m answer hears) _ h;
      freed = λ x s j m answer hears is h. delta K p x s (has_heard x s m answer hears) _ h;
      shown = λ x s m bytes hears is joined begins h. stopped K p x s None h;
      sees = λ x s number bytes at g has input held h. p.calls x s g.path SeeRequest _ _ has h;
      leads_on = λ x s work step m answer aim hears is on at h. lease K p x s (has_heard x s m answer hears) _ work _ h;
      fails = λ x s m j hears lone runs h. p.replies x j _ h;
      has_asked = λ x s m j owner hears is runs h. p.replies x j Done h;
      has_set = λ x s m j hears is runs h. p.replies x j _ h;
      asks = λ x s m j bytes c hears is runs at h. requested K p x s (has_heard x s m (Read bytes) hears) j bytes c h;
      tells = λ x s m j bytes hears is runs h. p.replies x j _ h;
      warns = λ x s m bytes g signal hears is held own says h. sent K p x g.process signal h;
      joins_in_time = λ x s j has wake is runs h. delta K p x s has _ h;
      renews = λ x s has wake joined h. delta K p x s has _ h;
      settles = λ x s at has wake active begins none h. lease K p x s has at _ _ h;
      parts = λ x s has joined recovers free quiet h. removal K p x s.lockspace h;
      frees = λ x s has joined well free quiet h. delta K p x s has _ h;
    }

-- ---- nothing at all

anything : Plainly (λ x. Unit {0})
anything =
    record {
      effects = record {
        ends = λ x e h. tt;
        signals = λ x p s h. tt;
        moves = λ x m h. tt;
        grants = λ x g h. tt;
        starts = λ x s h. tt;
        replies = λ x j r h. tt;
        calls = λ x s path p o op has h. tt;
      };
      inputs = λ x k wake bare h. tt;
      begins = λ x text c n a wake bare says is h. tt;
    }

pub anything_is_kept : Acts (λ x. Unit {0}) (λ x. Unit {0})
anything_is_kept = plain_acts (λ x. Unit {0}) anything
