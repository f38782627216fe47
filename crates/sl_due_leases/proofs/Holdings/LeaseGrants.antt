-- Where the answer of a lease's call grants a job, or converts its holding, the facts of holdings are kept.
use Rattle.sl_due_facts.specs.Acts.Acts.{Has}
use Rattle.sl_due_facts.specs.Acts.TraceSoFar.{entry_of}
use Rattle.sl_area.specs.AreaLayout.{is_base}
use Rattle.sl_due.specs.CarriedLease.{grant_for, grant_of}
use Rattle.sl_due.specs.Steps.{Step, add_grant, add_reply, add_start, seen}
use Rattle.sl_due_leases.proofs.Holdings.HoldingsByEffects.{HoldsAt, later_same, next_less, reply_held, start_held}
use Rattle.sl_due_leases.proofs.Holdings.HoldingsByGrants.{MayGrant, grant_held}
use Rattle.sl_due_leases.proofs.Holdings.StandsGrow.{stands_same}
use Rattle.sl_trace.specs.Jobs.{process_named, resource_named}
use Rattle.sl_trace.specs.Leases.{spot_of}
use Rattle.sl_trace.specs.Sessions.{is_joined}
use Rattle.sl_trace.specs.declared.session.Session.{Session}
use Rattle.sl_due_facts.specs.Facts.HeardCall.{heard_by}
use Rattle.sl_due_facts.specs.Facts.HoldingFacts.{StandsExclusive}
use Rattle.sl_trace.specs.Traces.{holdings, is_shared, next_child, same_place}
use Rattle.sl_trace.specs.declared.command.Command.TheVariants.{Acquire, AddLockspace, Convert, GetLvb, HostStatus, InqLockspace, Release, ReleaseOrphan, RemLockspace, Request, RunProgram, SetKillpath, SetLvb, Status, TakeOver}
use Rattle.sl_trace.specs.declared.command.Command.{Command}
use Rattle.sl_trace.specs.declared.command.ResourceArg.{ResourceArg}
use Rattle.sl_trace.specs.declared.effects.Grant.{Grant}
use Rattle.sl_trace.specs.declared.effects.Mode.{Mode}
use Rattle.sl_trace.specs.declared.effects.Start.{Start}
use Rattle.sl_trace.specs.declared.reply.Reply.TheVariants.{Granted}
use Rattle.std.proofs.Common.{arith, refl}
use Rattle.std.specs.Prelude.{Bool, Contains, IsTrue, List, None, Some, false, true, ℕ, ◌<◌, ◌≡◌}

-- ---- a grant of a command

-- What a grant of this mode and instance, on a resource of the session, asks of its place whoever is granted it.
pub record PlaceFor (x : Step) (s : Session) (r : ResourceArg) (mode : Mode) (lver : ℕ) : Type 0 where
  pub has : Has x s
  pub joined : is_joined (seen x) s ≡ true
  pub lockspace : r.lockspace ≡ s.lockspace
  pub placed : IsTrue (is_base x.setting.layout r.offset)
  pub shared : (h : Grant) → Contains (holdings (seen x)) h → same_place h.path h.offset r.path r.offset ≡ true → (is_shared h.mode ≡ true) × (is_shared mode ≡ true)
  pub stands : is_shared mode ≡ false → StandsExclusive x.setting (seen x) (heard_by x.input) s (spot_of r) lver

-- To a process that holds nothing there.
pub record IsNewThere (x : Step) (r : ResourceArg) (p : ℕ) : Type 0 where
  pub apart : (h : Grant) → Contains (holdings (seen x)) h → same_place h.path h.offset r.path r.offset ≡ true → h.process ≡ p → ⊥
  pub born : p < next_child (seen x)

pub may_grant : (x : Step) (s : Session) (r : ResourceArg) (p : ℕ) (mode : Mode) (lver : ℕ) (persistent : Bool) → PlaceFor x s r mode lver → IsNewThere x r p → MayGrant x (grant_of s r p mode lver persistent)
may_grant x s r p mode lver persistent k n =
    record {
      session = s;
      its = k.has;
      joined = k.joined;
      lockspace = k.lockspace;
      placed = k.placed;
      alone = λ h there same. (let sh = k.shared h there same in (sh.0, sh.1, n.apart h there same));
      born = n.born;
      stands = k.stands;
    }

-- A child that is still to be started holds nothing.
start_granted : (x : Step) (s : Session) (j : ℕ) (r : ResourceArg) (path : List ℕ) (mode : Mode) (lver : ℕ) → PlaceFor x s r mode lver → HoldsAt x
    → HoldsAt (add_start (record { process = next_child (seen x); program = path; job = Some j; stands_for = None }) (add_grant (grant_of s r (next_child (seen x)) mode lver false) x))
start_granted x s j r path mode lver k h =
    grant_held y (grant_of s r (next_child (seen x)) mode lver false) (record {
      session = s;
      its = k.has;
      joined = k.joined;
      lockspace = k.lockspace;
      placed = k.placed;
      alone = λ g there same. (let sh = k.shared g there same in (sh.0, sh.1, λ is. never g.process (next_child (seen x)) (h.born g there) is));
      born = further;
      stands = λ exclusive.
          stands_same x.setting (seen x) (seen y) (heard_by x.input) (heard_by x.input) s (spot_of r) lver refl refl (λ j n is. is) (λ m inside opens. opens) (k.stands exclusive);
    }) there where
      start : Start
      start = record { process = next_child (seen x); program = path; job = Some j; stands_for = None }

      y : Step
      y = add_start start x

      there : HoldsAt y
      there = start_held x start refl h

      further : next_child (seen x) < next_child (seen y)
      further = next_less x.past (entry_of x) start

      never : (m n : ℕ) → m < n → m ≡ n → ⊥
      never m n less is = (let lt : m < n = less in omega (arith, lt, is))

process_granted : (x : Step) (s : Session) (j : ℕ) (r : ResourceArg) (p : ℕ) (mode : Mode) (lver : ℕ) (persistent : Bool) → PlaceFor x s r mode lver → IsNewThere x r p → HoldsAt x
    → HoldsAt (add_reply j (Granted lver) (add_grant (grant_of s r p mode lver persistent) x))
process_granted x s j r p mode lver persistent k n h =
    let y : Step = add_grant (grant_of s r p mode lver persistent) x in
    reply_held y j (Granted lver) (later_same y.past (entry_of y) (record { job = j; reply = Granted lver }) refl)
    (grant_held x (grant_of s r p mode lver persistent) (may_grant x s r p mode lver persistent k n) h)

-- An acquire, a take-over, or a program that is to hold.
pub granted_held : (x : Step) (s : Session) (j : ℕ) (c : Command) (mode : Mode) (lver : ℕ) → ((r : ResourceArg) → resource_named c ≡ Some r → PlaceFor x s r mode lver)
    → ((r : ResourceArg) (p : ℕ) → resource_named c ≡ Some r → process_named c ≡ Some p → IsNewThere x r p) → HoldsAt x → HoldsAt (grant_for s j c mode lver x)
granted_held x s j (Acquire r shared p persistent) mode lver place new h = process_granted x s j r p mode lver persistent (place r refl) (new r p refl refl) h
granted_held x s j (TakeOver r shared p persistent) mode lver place new h = process_granted x s j r p mode lver persistent (place r refl) (new r p refl refl) h
granted_held x s j (RunProgram r shared path) mode lver place new h = start_granted x s j r path mode lver (place r refl) h
granted_held x s j (AddLockspace a) mode lver place new h = h
granted_held x s j (RemLockspace a) mode lver place new h = h
granted_held x s j (InqLockspace a) mode lver place new h = h
granted_held x s j (HostStatus a) mode lver place new h = h
granted_held x s j (Release r p) mode lver place new h = h
granted_held x s j (ReleaseOrphan r) mode lver place new h = h
granted_held x s j (Convert r shared p) mode lver place new h = h
granted_held x s j (Request r v how) mode lver place new h = h
granted_held x s j (GetLvb r p) mode lver place new h = h
granted_held x s j (SetLvb r p bytes) mode lver place new h = h
granted_held x s j (SetKillpath p path) mode lver place new h = h
granted_held x s j Status mode lver place new h = h
