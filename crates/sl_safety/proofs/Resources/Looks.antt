-- Looks: a session's reads of all blocks that were answered ok by a step; and when a read began.
use Rattle.sl_trace.specs.Traces.{Submitted}
use Rattle.sl_trace.specs.declared.effects.Spot.{Spot}
use Rattle.std.proofs.Common.{ap, arith, refl, subst, sym, ◌∙◌}
use Rattle.std.specs.Prelude.{Bool, Contains, List, None, Option, Some, false, is_some, nat_le, true, ℕ, ◌&&◌, ◌<◌, ◌||◌, ◌≡◌, ◌≤◌}
use Rattle.sl_safety.specs.Resources.SentCalls.{Sent, all_sent, began_at, begun_by, is_look_before, last_look_before, reads_blocks, same_session, sender_of, step_of}
use Rattle.sl_run.specs.Runs.{Happening}
use Rattle.sl_run.specs.Safety.{LawfulRun, world_at}
use Rattle.sl_run.specs.Worlds.{Program, Stamp, World}
use Rattle.sl_run.specs.declared.header.Header.{Header}
use Rattle.sl_trace.specs.Leases.{Area_read, Phase1_read, Phase2_read, Read_before_block, Read_before_free, is_block_read, is_lease_call, is_on, kind_of_step, lease_step, same_kind}
use Rattle.std.proofs.lemmas.Bool.{and_from, le-leb, leb-true}
use Rattle.sl_words.specs.Words.{some_is}
use Rattle.std.specs.Option.{option_map_or}
use Rattle.sl_safety.proofs.Resources.Calls.{sent_there}
use Rattle.sl_words.proofs.Lists.{find_inside}
use Rattle.sl_words.proofs.WordLaws.{and_true}
use Rattle.sl_words.proofs.CaseLaws.{false_is_true}
use Rattle.sl_words.proofs.Numbers.{lt_then_le, refl_le}
use Rattle.sl_safety.proofs.Resources.StepsNameEntries.{call_timed}
use Rattle.sl_trace.specs.declared.effects.LeaseStep.{LeaseStep}
use Rattle.sl_trace.specs.declared.effects.Work.{Work}
use Rattle.sl_safety.proofs.Resources.OwnBlocks.{same_is, same_itself}
use Rattle.sl_safety.specs.Resources.SampledReads.{reads_again}

-- ---- reads of blocks

abbrev reads_of : Option (Work × LeaseStep) → Bool
reads_of o =
    some_is (λ p. same_kind (kind_of_step p.1) Area_read) o || some_is (λ p. same_kind (kind_of_step p.1) Read_before_free) o
    || (some_is (λ p. same_kind (kind_of_step p.1) Phase1_read) o || some_is (λ p. same_kind (kind_of_step p.1) Phase2_read) o)
    || some_is (λ p. same_kind (kind_of_step p.1) Read_before_block) o

lease_by : (o : Option (Work × LeaseStep)) → reads_of o ≡ true → is_some o ≡ true
lease_by None h = absurd (false_is_true h)
lease_by (Some p) h = refl

-- A read of blocks is of a lease.
pub read_is_lease : (m : Submitted) → is_block_read m ≡ true → is_lease_call m ≡ true
read_is_lease m h = lease_by (lease_step m.call.purpose) h

-- ---- looks

pub record IsLookBefore (w : World) (at : Spot) (x y : Sent) : Type 0 where
  pub stamp : Stamp
  pub closed : y.course.answered ≡ Some stamp
  pub early : stamp.step ≤ step_of x
  pub done : y.course.done ≡ true
  pub reads : reads_blocks y.course ≡ true
  pub on : is_on w.layout at y.course.call ≡ true
  pub sender : sender_of y ≡ sender_of x

some_early : (n : ℕ) (o : Option Stamp) → some_is (λ (s : Stamp). nat_le s.step n) o ≡ true → (s : Stamp) × (o ≡ Some s) × (s.step ≤ n)
some_early n None h = absurd (false_is_true h)
some_early n (Some s) h = (s, refl, leb-true s.step n h)

pub look_before : (w : World) (at : Spot) (x y : Sent) → is_look_before w at (sender_of x) (step_of x) y ≡ true → IsLookBefore w at x y
look_before w at x y h =
    let A : Bool = some_is (λ (s : Stamp). nat_le s.step (step_of x)) y.course.answered in
    let four = and_true (A && y.course.done && reads_blocks y.course && is_on w.layout at y.course.call) (same_session (sender_of x) (sender_of y)) h in
    let three = and_true (A && y.course.done && reads_blocks y.course) (is_on w.layout at y.course.call) four.0 in
    let two = and_true (A && y.course.done) (reads_blocks y.course) three.0 in
    let one = and_true A y.course.done two.0 in
    let s = some_early (step_of x) y.course.answered one.0 in
    record { stamp = s.0; closed = s.1; early = s.2; done = one.1; reads = two.1; on = three.1; sender = sym (same_is (sender_of x) (sender_of y) four.1) }

pub look_is : (w : World) (at : Spot) (x y : Sent) → IsLookBefore w at x y → is_look_before w at (sender_of x) (step_of x) y ≡ true
look_is w at x y l =
    and_from _ _ (and_from _ _ (and_from _ _ (and_from _ _ (ap (λ o. some_is (λ (s : Stamp). nat_le s.step (step_of x)) o) l.closed ∙ le-leb l.stamp.step (step_of x) l.early) l.done) l.reads) l.on)
    (subst (λ i. same_session (sender_of x) i ≡ true) (sym l.sender) (same_itself (sender_of x)))

-- A look was made before.
pub look_early : (p : Program) (h : Header) (xs : List Happening) → LawfulRun p h xs → (at : Spot) (x y : Sent) → Contains (all_sent (world_at p h xs)) y
    → IsLookBefore (world_at p h xs) at x y → step_of y < step_of x
look_early p h xs run at x y has l =
    let k = sent_there (world_at p h xs) y has in
    lt_then_le (step_of y) l.stamp.step (step_of x) ((call_timed p h xs run y.machine k.machine y.course k.at k.has).answered l.stamp l.closed) l.early

-- ---- when a read began

-- One that is made once begins with itself.
pub begun_once : (w : World) (at : Spot) (z : Sent) → reads_again z.course ≡ false → begun_by w at z ≡ Some z
begun_once w at z once = ap (λ b. elim b as (λ x. Option Sent) [ false ↦ Some z | true ↦ last_look_before w at (sender_of z) (step_of z) ]) once

pub began_once : (w : World) (at : Spot) (z : Sent) → reads_again z.course ≡ false → began_at w at z ≡ step_of z
began_once w at z once = ap (λ o. option_map_or step_of o 0) (begun_once w at z once)

-- One that is made once more begins with the look before.
pub begun_twice : (w : World) (at : Spot) (z y : Sent) → reads_again z.course ≡ true → last_look_before w at (sender_of z) (step_of z) ≡ Some y → begun_by w at z ≡ Some y
begun_twice w at z y again last =
    ap (λ b. elim b as (λ x. Option Sent) [ false ↦ Some z | true ↦ last_look_before w at (sender_of z) (step_of z) ]) again ∙ last

pub began_with : (w : World) (at : Spot) (z y : Sent) → begun_by w at z ≡ Some y → began_at w at z ≡ step_of y
began_with w at z y begun = ap (λ o. option_map_or step_of o 0) begun

less_is_least : (a b : ℕ) → a < b → a ≤ b
less_is_least a b h = omega (arith, h)

nothing_is_least : (b : ℕ) → 0 ≤ b
nothing_is_least b = omega arith

look_by : (p : Program) (h : Header) (xs : List Happening) → LawfulRun p h xs → (at : Spot) (z : Sent) (o : Option Sent)
    → last_look_before (world_at p h xs) at (sender_of z) (step_of z) ≡ o → option_map_or step_of o 0 ≤ step_of z
look_by p h xs run at z None last = nothing_is_least (step_of z)
look_by p h xs run at z (Some y) last =
    let w : World = world_at p h xs in
    let f = find_inside (is_look_before w at (sender_of z) (step_of z)) (all_sent w) y last in
    less_is_least (step_of y) (step_of z) (look_early p h xs run at z y f.0 (look_before w at z y f.1))

began_by : (p : Program) (h : Header) (xs : List Happening) → LawfulRun p h xs → (at : Spot) (z : Sent) (b : Bool)
    → option_map_or step_of (elim b as (λ x. Option Sent) [ false ↦ Some z | true ↦ last_look_before (world_at p h xs) at (sender_of z) (step_of z) ]) 0 ≤ step_of z
began_by p h xs run at z false = refl_le (step_of z)
began_by p h xs run at z true = look_by p h xs run at z (last_look_before (world_at p h xs) at (sender_of z) (step_of z)) refl

-- A read doesn't end before it begins.
pub began_before : (p : Program) (h : Header) (xs : List Happening) → LawfulRun p h xs → (at : Spot) (z : Sent) → began_at (world_at p h xs) at z ≤ step_of z
began_before p h xs run at z = began_by p h xs run at z (reads_again z.course)
