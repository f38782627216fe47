-- Lines that give or take a holding at once: a shared grant beside another, a take-over, a release, a conversion. What a lease does next
-- is told by its own state.
use Rattle.sl_host_law.specs.Answers.LeaseDecisions.{MayCarryLease, carrying_lease, granting_for}
use Rattle.sl_host_law.specs.Decisions.CommandDecisions.{held_on}
use Rattle.sl_due.specs.DueCommands.{on_line}
use Rattle.sl_due.specs.Steps.{Step, add_end, with_input}
use Rattle.sl_due.specs.declared.decision.Decision.TheVariants.{ConvertsTo, GivesUp, Shares, TakesOver}
use Rattle.sl_host_state.specs.HeardInputs.{heard_line}
use Rattle.sl_host_state.specs.KeptState.{HostState, MemberState}
use Rattle.sl_host_state.specs.MadeEffects.{with_end, with_reply}
use Rattle.sl_host_state.specs.HostStands.{Stands}
use Rattle.sl_trace.specs.Leases.{spot_of}
use Rattle.sl_trace.specs.declared.lease.LeaseNext.{LeaseNext}
use Rattle.sl_host_law.specs.StepParts.Lines.{HeardBy, LineComes}
use Rattle.sl_host_law.specs.Questions.Answers.{converting_in, releasing_in}
use Rattle.sl_host_law.specs.Replies.RepliesAreTaken.{is_plain_line}
use Rattle.sl_trace.specs.declared.session.Session.{Session}
use Rattle.sl_trace.specs.Traces.{end_of, spot_of_grant}
use Rattle.sl_trace.specs.declared.command.Command.{Command}
use Rattle.sl_trace.specs.declared.command.ResourceArg.{ResourceArg}
use Rattle.sl_trace.specs.declared.effects.Grant.{Grant}
use Rattle.sl_trace.specs.declared.effects.Mode.TheVariants.{Shared}
use Rattle.sl_trace.specs.declared.effects.Mode.{Mode}
use Rattle.sl_trace.specs.declared.effects.Work.TheVariants.{ForJob}
use Rattle.sl_trace.specs.declared.input.Input.TheVariants.{Line}
use Rattle.sl_trace.specs.declared.reply.Reply.TheVariants.{Done}
use Rattle.std.specs.Prelude.{IsTrue, List, Ok, [], ℕ, ◌∷◌, ◌≡◌}

-- The host that has heard the line, without this holding.
abbrev pub given_up : HostState → Command → Grant → HostState
given_up h c g = with_end (end_of g) (heard_line c h)

-- The same step.
abbrev pub ended : List ℕ → Grant → Step → Step
ended text g x = add_end (end_of g) (with_input (Line text) x)

-- After a holding has ended: the reply where others are left under its lease, else what the lease does.
abbrev pub after_giving : HostState → Command → MemberState → Grant → LeaseNext → HostState
after_giving h c m g next =
    elim (held_on (given_up h c g) m (spot_of_grant g)) [
      | e ∷ es ↦ with_reply h.next_job Done (given_up h c g)
      | [] ↦ carrying_lease m (spot_of_grant g) (ForJob h.next_job) next (given_up h c g)
    ]

pub record GrantsAreTaken : Type 0 where
  pub shares : (h : HostState) (x : Step) (text : List ℕ) (c : Command) (s : Session) (lver : ℕ) (k : ℕ) (m : MemberState) → LineComes h x text c (Shares s lver) → HeardBy h c k m s
      → IsTrue (is_plain_line (Ok c)) → Stands (Line text) (granting_for m.who h.next_job c Shared lver (heard_line c h)) (on_line text x)
  pub takes_over : (h : HostState) (x : Step) (text : List ℕ) (c : Command) (s : Session) (g : Grant) (k : ℕ) (m : MemberState) → LineComes h x text c (TakesOver s g) → HeardBy h c k m s
      → IsTrue (is_plain_line (Ok c)) → h.made.grants ≡ [] → Stands (Line text) (granting_for m.who h.next_job c g.mode g.lver (given_up h c g)) (on_line text x)
  pub gives_up : (h : HostState) (x : Step) (text : List ℕ) (c : Command) (s : Session) (g : Grant) (k : ℕ) (m : MemberState) (next : LeaseNext) → LineComes h x text c (GivesUp s g)
      → HeardBy h c k m s → IsTrue (is_plain_line (Ok c)) → h.made.grants ≡ []
      → releasing_in (given_up h c g) m (ended text g x) (spot_of_grant g) g.mode g.lver ≡ next
      → MayCarryLease (Line text) (given_up h c g) (ended text g x) m (spot_of_grant g) (ForJob h.next_job) next → Stands (Line text) (after_giving h c m g next) (on_line text x)
  pub converts : (h : HostState) (x : Step) (text : List ℕ) (c : Command) (s : Session) (r : ResourceArg) (mode : Mode) (k : ℕ) (m : MemberState) (next : LeaseNext)
      → LineComes h x text c (ConvertsTo s r mode) → HeardBy h c k m s
      → converting_in (heard_line c h) m (with_input (Line text) x) (spot_of r) mode r.name ≡ next
      → MayCarryLease (Line text) (heard_line c h) (with_input (Line text) x) m (spot_of r) (ForJob h.next_job) next
      → Stands (Line text) (carrying_lease m (spot_of r) (ForJob h.next_job) next (heard_line c h)) (on_line text x)
