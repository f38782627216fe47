-- Between two steps: what stands by is used by the next step, and is taken ahead for it.
use Rattle.sl_host_passes.specs.PassesLessen.{leases_in}
use Rattle.sl_host_state.specs.KeptState.{HostKept}
use Rattle.sl_host_step.specs.Moments.{HasStepped}
use Rattle.sl_host_step.specs.SpareRoom.{Rests, spare_of}
use Rattle.sl_host_step.specs.StepMemory.{HasRoom, ScratchState, Suffices, calls_for, calls_near, effects_near, effects_within, left_for}
use Rattle.sl_host_step.specs.declared.step_memory.Reach.TheVariants.{All}
use Rattle.sl_host_step.specs.HostServes.{IsIdle, Keeping, Serves}
use Rattle.sl_host.specs.Host.{HostView}
use Rattle.sl_trace.specs.Traces.{Setting, Trace, no_effects}
use Rattle.sl_trace.specs.declared.effects.Effects.{Effects}
use Rattle.sl_trace.specs.declared.input.Input.{Input}
use Rattle.sl_words.proofs.CaseLaws.{not_both}
use Rattle.std.proofs.Common.{ap, arith, refl, subst, sym, ◌∙◌}
use Rattle.std.specs.Prelude.{Bool, Err, IfOk, Ok, OnErr, OnOk, Result, false, length, min, true, ℕ, ◌+◌, ◌<◌, ◌^◌, ◌≡◌, ◌≤◌}

-- ---- what stands by

-- Where nothing does, the host is idle.
pub rests_without : (s : ScratchState) (v : HostView) → s.spare ≡ false → IsIdle v → Rests s v
rests_without s v none idle = record { none = λ h. idle; some = λ h. absurd (not_both s.spare h none) }

-- Room for a step of what was kept is room for a step of what is kept now, which is the same.
room_there : (old new : HostView) → HasRoom All old new → HasRoom All new new
room_there old new r =
    record {
      kept = refl;
      entries = subst (λ (k : HostKept). k.entries < 2 ^ 63) (sym r.kept) r.entries;
      seats = refl;
      left = subst (λ n. n ≤ new.left) (same (λ v. effects_near All v)) r.left;
      calls = subst (λ n. n ≤ new.calls) (same (λ v. calls_near All v)) r.calls;
      most = subst (λ n. new.most ≤ n) (same left_for) r.most;
      most_calls = subst (λ n. new.most_calls ≤ n) (same calls_for) r.most_calls;
    }
  where
    of_kept : (k : HostKept) (n : ℕ) → HostView
    of_kept k n = record old { kept = k; seats = n }

    -- What is counted of what is kept.
    same : (f : HostView → ℕ) → f (of_kept old.kept old.seats) ≡ f (of_kept new.kept new.seats)
    same f = ap (λ (k : HostKept). f (of_kept k old.seats)) (sym r.kept) ∙ ap (λ n. f (of_kept new.kept n)) (sym r.seats)

lists_there : (s : ScratchState) (old new : HostView) → HasRoom All old new → Suffices s old → Suffices s new
lists_there s old new r fits =
    let kept : old.kept ≡ new.kept = sym r.kept in
    record {
      members = subst (λ n. n ≤ s.members) (sym r.seats) fits.members;
      jobs = subst (λ (k : HostKept). length k.jobs + 1 ≤ s.jobs) kept fits.jobs;
      spots = subst (λ (k : HostKept). leases_in k.members ≤ s.spots) kept fits.spots;
      orphans = subst (λ (k : HostKept). length k.holdings ≤ s.orphans) kept fits.orphans;
      kept = fits.kept;
    }

pub rests_with : (s : ScratchState) (old new : HostView) → s.spare ≡ true → HasRoom All old new → Suffices s old → Rests s new
rests_with s old new some room fits =
    record { none = λ h. absurd (not_both s.spare some h); some = λ h. (room_there old new room, lists_there s old new room fits) }

-- ---- what is seen of it

one_of : (n jobs holds leases seats : ℕ) → effects_within jobs holds leases seats ≤ n → min 1 n ≡ 1
one_of n jobs holds leases seats le = grind (arith, le)

pub stands_by : (s : ScratchState) (v : HostView) → Rests s v → s.spare ≡ true → spare_of v ≡ 1
stands_by s v rests some =
    one_of v.left (length v.kept.jobs) (length v.kept.holdings) (leases_in v.kept.members) v.seats (rests.some some).0.left

none_of : (n : ℕ) → n ≡ 0 → min 1 n ≡ 0
none_of n is = grind (arith, is)

pub is_standing : (s : ScratchState) (v : HostView) → Rests s v → spare_of v ≡ 1 → s.spare ≡ true
is_standing s v rests one = by s.spare refl
  where
    apart : (n : ℕ) → n ≡ 0 → n ≡ 1 → true ≡ false
    apart n a b = absurd (omega (arith, a, b))

    by : (b : Bool) → s.spare ≡ b → s.spare ≡ true
    by true is = is
    by false is = is ∙ sym (apart (spare_of v) (none_of v.left (rests.none is).0) one)

-- ---- over a step

-- Behind a step nothing stands by; where it wanted memory, what stood by still does.
pub rests_on : {E : Type 0} (now : ℕ) (i : Input) (old new : HostView) (r : Result Effects E) (s : ScratchState) → IfOk r (λ fx. HasStepped now i old new fx)
    → OnOk r (s.spare ≡ false) → OnErr r (Rests s new) → Rests s new
rests_on now i old new (Ok fx) s stepped used same = rests_without s new used stepped.idle
rests_on now i old new (Err e) s stepped used same = same

pub spent : {E : Type 0} (now : ℕ) (i : Input) (old new : HostView) (r : Result Effects E) → IfOk r (λ fx. HasStepped now i old new fx) → OnErr r (new ≡ old)
    → spare_of new ≤ spare_of old
spent now i old new (Ok fx) stepped same = subst (λ n. n ≤ spare_of old) (sym (none_of new.left stepped.idle.0)) (omega arith)
spent now i old new (Err e) stepped same = subst (λ (v : HostView). spare_of v ≤ spare_of old) (sym same) (omega arith)

-- ---- of the trace

pub serves_still : (old new : HostView) → new.kept ≡ old.kept → (st : Setting) (es : Trace) → Serves old st es → Serves new st es
serves_still old new same st es serves = subst (λ (k : HostKept). Keeping k st es) (sym same) serves

pub nothing_made : (v : HostView) (st : Setting) (es : Trace) → Serves v st es → v.kept.made ≡ no_effects
nothing_made v st es serves = sym serves.stands.made
