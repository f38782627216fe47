-- How much a step may make is the same by a count of leases that stops at the greatest one; and the room that is taken for a reach.
use Rattle.sl_host_passes.specs.PassesLessen.{leases_in}
use Rattle.sl_host_step.specs.StepMemory.{HasLeft, HasRoom, IsFarEnough, calls_for, calls_near, calls_within, counts_of, counts_within, effects_near, effects_within, left_for, reach_when, reached, room_end}
use Rattle.sl_host_step.specs.declared.step_memory.Counts.{Counts}
use Rattle.sl_host_step.specs.declared.step_memory.Reach.TheVariants.{All, Few}
use Rattle.sl_host_step.specs.declared.step_memory.Reach.{Reach}
use Rattle.sl_host_state.specs.KeptState.{HostKept}
use Rattle.sl_host.specs.BookQuestions.{most_counted}
use Rattle.sl_host.specs.Books.{AreFew}
use Rattle.sl_host.specs.Host.{HostView}
use Rattle.sl_trace.specs.declared.effects.Effects.{Effects}
use Rattle.std.proofs.Common.{ap, arith, refl, subst, sym, true≢false, ◌∙◌}
use Rattle.std.specs.Prelude.{Bool, false, length, min, nat_le, true, ℕ, ◌<◌, ◌^◌, ◌≡◌, ◌≤◌, ◌||◌}

pub effects_counted : (jobs holdings leases seats : ℕ) → min room_end (effects_within jobs holdings (min leases most_counted) seats) ≡ min room_end (effects_within jobs holdings leases seats)
effects_counted jobs holdings leases seats = grind arith

pub calls_counted : (leases seats : ℕ) → min room_end (calls_within (min leases most_counted) seats) ≡ min room_end (calls_within leases seats)
calls_counted leases seats = grind arith

-- Where there are not many of anything, all leases were counted.
pub few_counted : (jobs holdings leases seats : ℕ) → (nat_le room_end jobs || nat_le room_end holdings || nat_le room_end leases || nat_le room_end seats) ≡ false → (jobs < room_end) × (leases < room_end)
few_counted jobs holdings leases seats is = (grind (arith, is), grind (arith, is))

pub counted_all : (leases counted : ℕ) → counted ≡ min leases most_counted → counted < room_end → leases ≤ counted
counted_all leases counted is few = grind (arith, is, few)

-- ---- what is taken

-- All of it, where it is below the end.
whole : (n x : ℕ) → n ≡ min room_end x → n < 2 ^ 31 → x ≤ n
whole n x is few = grind (arith, is, few)

part : (n x y : ℕ) → n ≡ min room_end x → x ≤ y → n ≤ min room_end y
part n x y is le = grind (arith, is, le)

same_le : (a b : ℕ) → a ≡ b → a ≤ b
same_le a b is = omega (arith, is)

few_less : (jobs holdings leases seats : ℕ) → effects_within 0 0 0 seats ≤ effects_within jobs holdings leases seats
few_less jobs holdings leases seats = omega arith

few_calls_less : (leases seats : ℕ) → calls_within 0 seats ≤ calls_within leases seats
few_calls_less leases seats = omega arith

pub effects_taken : (r : Reach) (v : HostView) (n : ℕ)
    → n ≡ min room_end (effects_within (reached r (length v.kept.jobs)) (reached r (length v.kept.holdings)) (reached r (min (leases_in v.kept.members) most_counted)) v.seats) → n < 2 ^ 31
    → (effects_near r v ≤ n) × (n ≤ left_for v)
effects_taken All v n is few =
    let all : n ≡ left_for v = is ∙ effects_counted (length v.kept.jobs) (length v.kept.holdings) (leases_in v.kept.members) v.seats in
    (whole n (effects_near All v) all few, same_le n (left_for v) all)
effects_taken Few v n is few =
    (whole n (effects_near Few v) is few, part n (effects_near Few v) (effects_near All v) is (few_less (length v.kept.jobs) (length v.kept.holdings) (leases_in v.kept.members) v.seats))

pub calls_taken : (r : Reach) (v : HostView) (n : ℕ) → n ≡ min room_end (calls_within (reached r (min (leases_in v.kept.members) most_counted)) v.seats) → n < 2 ^ 31
    → (calls_near r v ≤ n) × (n ≤ calls_for v)
calls_taken All v n is few =
    let all : n ≡ calls_for v = is ∙ calls_counted (leases_in v.kept.members) v.seats in
    (whole n (calls_near All v) all few, same_le n (calls_for v) all)
calls_taken Few v n is few = (whole n (calls_near Few v) is few, part n (calls_near Few v) (calls_near All v) is (few_calls_less (leases_in v.kept.members) v.seats))

-- The room is there, where so much was counted.
pub room_taken : (r : Reach) (old new : HostView) (near : Counts) (left calls : ℕ) → near ≡ counts_within r (counts_of old)
    → left ≡ min room_end (effects_within near.jobs near.holdings near.leases near.seats) → left < 2 ^ 31 → calls ≡ min room_end (calls_within near.leases near.seats) → calls < 2 ^ 31
    → new ≡ record old { left = left; calls = calls; most = left; most_calls = calls } → old.kept.entries < 2 ^ 63 → HasRoom r old new
room_taken r old new near left calls counted is few calls_is few_calls made entries = subst (λ (v : HostView). HasRoom r old v) (sym made) there
  where
    effects : (effects_near r old ≤ left) × (left ≤ left_for old)
    effects = effects_taken r old left (is ∙ ap (λ (n : Counts). min room_end (effects_within n.jobs n.holdings n.leases n.seats)) counted) few

    more : (calls_near r old ≤ calls) × (calls ≤ calls_for old)
    more = calls_taken r old calls (calls_is ∙ ap (λ (n : Counts). min room_end (calls_within n.leases n.seats)) counted) few_calls

    there : HasRoom r old (record old { left = left; calls = calls; most = left; most_calls = calls })
    there =
        record { kept = refl; entries = entries; seats = refl; left = effects.0; calls = more.0; most = effects.1; most_calls = more.1 }

-- ---- room for all is room for a few

pub le_on : (a b c : ℕ) → a ≤ b → b ≤ c → a ≤ c
le_on a b c one other = omega (arith, one, other)

pub room_of_all : (r : Reach) (old new : HostView) → HasRoom All old new → HasRoom r old new
room_of_all All old new room = room
room_of_all Few old new room =
    record {
      kept = room.kept;
      entries = room.entries;
      seats = room.seats;
      left = le_on (effects_near Few old) (effects_near All old) new.left (few_less (length old.kept.jobs) (length old.kept.holdings) (leases_in old.kept.members) old.seats) room.left;
      calls = le_on (calls_near Few old) (calls_near All old) new.calls (few_calls_less (leases_in old.kept.members) old.seats) room.calls;
      most = room.most;
      most_calls = room.most_calls;
    }

left_of_all : (r : Reach) (old new : HostView) → HasLeft All old new → HasLeft r old new
left_of_all All old new left = left
left_of_all Few old new left =
    record {
      left = (let n = left.left in omega (arith, n));
      calls = (let n = left.calls in omega (arith, n));
      seats = left.seats;
      most = left.most;
      most_calls = left.most_calls;
      few = left.few;
      config = left.config;
      born = left.born;
      lines = left.lines;
    }

-- What is left where something may have been due by time is left for the input.
pub left_for_input : (loud : Bool) (r : Reach) (old new : HostView) → HasLeft (reach_when loud r) old new → HasLeft r old new
left_for_input true r old new left = left_of_all r old new left
left_for_input false r old new left = left

-- ---- how far a step reaches

pub far_enough : (now : ℕ) (k : HostKept) (loud : Bool) (r : Reach) → loud ≡ nat_le k.quiet_until now → IsFarEnough now k (reach_when loud r)
far_enough now k true r is due = refl
far_enough now k false r is due = absurd (not_due now k.quiet_until is due)
  where
    not_due : (now q : ℕ) → false ≡ nat_le q now → q ≤ now → ⊥
    not_due now q is due = grind (arith, is, due)

abbrev is_all : Reach → Bool
is_all All = true
is_all Few = false

pub few_is_not_all : Few ≡ All → ⊥
few_is_not_all is = true≢false (sym (ap is_all is))

pub far_still : (now : ℕ) (first v : HostView) (loud : Bool) (r q : Reach) → v.kept ≡ first.kept → loud ≡ nat_le first.kept.quiet_until now → q ≡ reach_when loud r → IsFarEnough now v.kept q
far_still now first v loud r q same is whole =
    subst (λ (k : HostKept). IsFarEnough now k q) (sym same) (subst (λ (p : Reach). IsFarEnough now first.kept p) (sym whole) (far_enough now first.kept loud r is))

-- ---- effects are few

pub fewer_still : (n k most most_calls : ℕ) (fx : Effects) → AreFew n k fx → n ≤ most → k ≤ most_calls → AreFew most most_calls fx
fewer_still n k most most_calls fx few le le_calls =
    record {
      of_ends = le_on (length fx.ends) n most few.of_ends le;
      of_signals = le_on (length fx.signals) n most few.of_signals le;
      of_moves = le_on (length fx.moves) n most few.of_moves le;
      of_grants = le_on (length fx.grants) n most few.of_grants le;
      of_starts = le_on (length fx.starts) n most few.of_starts le;
      of_replies = le_on (length fx.replies) n most few.of_replies le;
      of_calls = le_on (length fx.calls) k most_calls few.of_calls le_calls;
    }
