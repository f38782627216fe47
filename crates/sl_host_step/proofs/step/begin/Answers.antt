use Rattle.sl_host_passes.specs.PassesLessen.{IsNoMore, leases_in}
use Rattle.sl_host_state.specs.KeptState.{HostKept}
use Rattle.sl_host_step.proofs.MomentsFollow.{begins}
use Rattle.sl_host_step.proofs.KnownPasses.{begin_known}
use Rattle.sl_host_step.proofs.step.begin.Goals as goal
use Rattle.sl_host_step.proofs.RoomsStand.{few_is_not_all, le_on}
use Rattle.sl_host_step.specs.StepMemory.{HasLeft, HasRoom, IsFarEnough, calls_for, calls_near, effects_near, left_for, reached}
use Rattle.sl_host_step.specs.declared.step_memory.Reach.TheVariants.{All, Few}
use Rattle.sl_host_step.specs.declared.step_memory.Reach.{Reach}
use Rattle.sl_host.specs.Host.{HostView, SameMost, Spends}
use Rattle.std.proofs.Common.{ap, arith, subst, sym, ◌∙◌}
use Rattle.std.proofs.Math.Nat.{lt_of_not-le}
use Rattle.std.specs.Prelude.{length, ℕ, ◌*◌, ◌+◌, ◌<◌, ◌^◌, ◌≡◌, ◌≤◌}

few_entries : (r : Reach) (first v : HostView) → HasRoom r first v → v.kept.entries < 2 ^ 63
few_entries r first v room = subst (λ (k : HostKept). k.entries < 2 ^ 63) (sym room.kept) room.entries

pub begin_step-requires-clause-known : goal.begin_step-requires-clause-known
begin_step-requires-clause-known c =
    let room = c.requires.room in
    begin_known c.args.now c.requires.comes.0 c.args.host.now.kept c.requires.comes.1 (few_entries room.0 room.1 c.args.host.now room.2)

-- What there is room for, by what is kept.
seen_as : (r : Reach) (first v : HostView) → HasRoom r first v → (f : HostView → ℕ) → f (record first { kept = first.kept; seats = first.seats }) ≡ f (record first { kept = v.kept; seats = v.seats })
seen_as r first v room f = ap (λ (k : HostKept). f (record first { kept = k; seats = first.seats })) (sym room.kept) ∙ ap (λ n. f (record first { kept = v.kept; seats = n })) (sym room.seats)

room_left : (r : Reach) (first v : HostView) → HasRoom r first v → effects_near r v ≤ v.left
room_left r first v room = subst (λ n. n ≤ v.left) (seen_as r first v room (λ w. effects_near r w)) room.left

room_calls : (r : Reach) (first v : HostView) → HasRoom r first v → calls_near r v ≤ v.calls
room_calls r first v room = subst (λ n. n ≤ v.calls) (seen_as r first v room (λ w. calls_near r w)) room.calls

-- Where something may be due by time there is room for all.
left_for_all : (now : ℕ) (r : Reach) (first v : HostView) → HasRoom r first v → IsFarEnough now v.kept r → v.kept.quiet_until ≤ now → 3 * length v.kept.jobs + 2 * length v.kept.holdings ≤ v.left
left_for_all now r first v room far due = by (room_left All first v (subst (λ (q : Reach). HasRoom q first v) (far due) room))
  where
    by : effects_near All v ≤ v.left → 3 * length v.kept.jobs + 2 * length v.kept.holdings ≤ v.left
    by le = omega (arith, le)

pub begin_step-requires-clause-left : goal.begin_step-requires-clause-left
begin_step-requires-clause-left c due =
    let room = c.requires.room in left_for_all c.args.now room.0 room.1 c.args.host.now room.2 room.3 due

pub returns-clause-at : goal.returns-clause-at
returns-clause-at c i comes = begins c.args.now i c.args.host.now c.begin_step.new.host comes c.begin_step.ensures.state c.begin_step.ensures.run.0 c.begin_step.ensures.run.1

-- ---- what is left at the input

all_left : (jobs jobs_new holds holds_new leases leases_new seats seats_new left left_new : ℕ) → 4 * jobs + 4 * holds + 3 * leases + 4 * seats + 16 ≤ left → left ≤ left_new + (3 * jobs + 2 * holds)
    → jobs_new ≤ jobs → holds_new ≡ holds → leases_new ≤ leases → seats_new ≡ seats → jobs_new + 2 * holds_new + 3 * leases_new + 4 * seats_new + 16 ≤ left_new
all_left jobs jobs_new holds holds_new leases leases_new seats seats_new left left_new is spent a b d e = omega (arith, is, spent, a, b, d, e)

all_calls : (leases leases_new seats seats_new calls calls_new : ℕ) → leases + 4 * seats + 8 ≤ calls → calls ≤ calls_new + 0 → leases_new ≤ leases → seats_new ≡ seats
    → leases_new + 4 * seats_new + 8 ≤ calls_new
all_calls leases leases_new seats seats_new calls calls_new is spent a b = omega (arith, is, spent, a, b)

few_left : (seats seats_new left left_new : ℕ) → 4 * 0 + 4 * 0 + 3 * 0 + 4 * seats + 16 ≤ left → left ≤ left_new + 0 → seats_new ≡ seats → 0 + 4 * seats_new + 16 ≤ left_new
few_left seats seats_new left left_new is spent e = omega (arith, is, spent, e)

few_calls : (seats seats_new calls calls_new : ℕ) → 0 + 4 * seats + 8 ≤ calls → calls ≤ calls_new + 0 → seats_new ≡ seats → 0 + 4 * seats_new + 8 ≤ calls_new
few_calls seats seats_new calls calls_new is spent e = omega (arith, is, spent, e)

module _ (now : ℕ) (first old new : HostView) (few : new.calls ≤ new.most_calls) (no_more : IsNoMore old.kept new.kept) (config : new.kept.config ≡ old.kept.config) (same : SameMost old new) where
  has_left : (r : Reach) → HasRoom r first old → reached r (length new.kept.jobs + 2 * length new.kept.holdings + 3 * leases_in new.kept.members) + 4 * new.seats + 16 ≤ new.left
      → reached r (leases_in new.kept.members) + 4 * new.seats + 8 ≤ new.calls → HasLeft r first new
  has_left r room left calls =
      record {
        left = left;
        calls = calls;
        seats = same.2 ∙ room.seats;
        most = subst (λ n. n ≤ left_for first) (sym same.0) room.most;
        most_calls = subst (λ n. n ≤ calls_for first) (sym same.1) room.most_calls;
        few = le_on new.calls new.most_calls (calls_for first) few (subst (λ n. n ≤ calls_for first) (sym same.1) room.most_calls);
        config = config ∙ ap (λ (k : HostKept). k.config) room.kept;
        born = no_more.born ∙ ap (λ (k : HostKept). k.born) room.kept;
        lines = no_more.lines ∙ ap (λ (k : HostKept). k.next_job) room.kept;
      }

  left_at : (r : Reach) → HasRoom r first old → IsFarEnough now old.kept r → Spends old new (3 * length old.kept.jobs + 2 * length old.kept.holdings) 0
      → (now < old.kept.quiet_until → Spends old new 0 0) → HasLeft r first new
  left_at All room far spent quiet =
      has_left All room
      (all_left
      (length old.kept.jobs) (length new.kept.jobs) (length old.kept.holdings) (length new.kept.holdings) (leases_in old.kept.members) (leases_in new.kept.members)
      old.seats new.seats old.left new.left (room_left All first old room) spent.0 no_more.jobs (ap (λ gs. length gs) no_more.holdings) no_more.leases same.2)
      (all_calls (leases_in old.kept.members) (leases_in new.kept.members) old.seats new.seats old.calls new.calls (room_calls All first old room) spent.1 no_more.leases same.2)
  left_at Few room far spent quiet =
      let spends = quiet (lt_of_not-le (λ due. few_is_not_all (far due))) in
      has_left Few room
      (few_left old.seats new.seats old.left new.left (room_left Few first old room) spends.0 same.2)
      (few_calls old.seats new.seats old.calls new.calls (room_calls Few first old room) spends.1 same.2)

pub returns-clause-left : goal.returns-clause-left
returns-clause-left c r first room far =
    left_at c.args.now first c.args.host.now c.begin_step.new.host
    (subst (λ n. n ≤ c.begin_step.new.host.most_calls) c.calls_left.ensures.exact c.calls_left.ensures.few)
    c.begin_step.ensures.fewer c.begin_step.ensures.run.0 c.begin_step.ensures.most r room far c.begin_step.ensures.left c.begin_step.ensures.quiet
