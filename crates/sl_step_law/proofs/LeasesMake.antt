-- A lease that waits for nothing may make a call on its area, for work whose job may make one: a read, or a write of the own block or of the leader.
use Rattle.sl_area.specs.AreaLayout.{block_place, leader_offset}
use Rattle.sl_area.specs.AreaRecords.{leader_record}
use Rattle.sl_host_law.proofs.SharedFacts.RecordsOfKinds.{block_cases, leader_cases}
use Rattle.sl_host_law.specs.Answers.LeaseDecisions.{MayWork, block_at, record_at, turn_next}
use Rattle.sl_host_law.specs.Calls.MemberCalls.{fits_lease, is_idle_job, is_leaving_alone}
use Rattle.sl_host_law.specs.Steps.Leases.{lease_at}
use Rattle.sl_host_state.specs.KeptState.{Config, HostState, LeaseState, MemberState}
use Rattle.sl_host_state.specs.MadeEffects.{is_lease_on, next_submitted}
use Rattle.sl_sector.specs.declared.sector.Block.{Block}
use Rattle.sl_sector.specs.declared.sector.Leader.{Leader}
use Rattle.sl_trace.specs.Leases.{Phase2_write, is_second, kind_of_step, same_kind, value_of_record}
use Rattle.sl_trace.specs.Sessions.{delta_of_record}
use Rattle.sl_trace.specs.Traces.{record_of, work_job}
use Rattle.sl_trace.specs.declared.effects.LeaseStep.{LeaseStep}
use Rattle.sl_trace.specs.declared.effects.Op.TheVariants.{ReadSectors, WriteRecord}
use Rattle.sl_trace.specs.declared.effects.Op.{Op}
use Rattle.sl_trace.specs.declared.effects.Purpose.TheVariants.{Lease}
use Rattle.sl_trace.specs.declared.effects.Spot.{Spot}
use Rattle.sl_trace.specs.declared.effects.Work.{Work}
use Rattle.sl_words.proofs.CaseLaws.{none_some, true_is_false}
use Rattle.std.proofs.Common.{ap, arith, refl, subst, sym, ◌∙◌}
use Rattle.std.specs.Option.{option_map_or}
use Rattle.std.specs.Prelude.{Bool, IsTrue, None, Option, Some, false, find, is_none, nat_lt, not, option_and_then, slice_get, true, ℕ, ◌%◌, ◌&&◌, ◌-◌, ◌<◌, ◌≡◌, ◌||◌}

none_fits : {A : Type 0} (f : A → Bool) (o : Option A) → o ≡ None → option_map_or f o true ≡ true
none_fits f None is = refl
none_fits f (Some a) is = absurd (none_some a (sym is))

unasked : (b other : Bool) → b ≡ false → (not b || other) ≡ true
unasked false other is = refl
unasked true other is = absurd (true_is_false is)

pub some_room : (n : ℕ) → 0 < n → nat_lt 0 n ≡ true
some_room n less = grind (arith, less)

-- The lease on the area waits for nothing, and the call isn't of the second phase.
free_fits : (room : Bool) (o : Option LeaseState) (l : LeaseState) (late : Bool) (follows : LeaseState → Bool) (other : Bool) → room ≡ true → o ≡ Some l → l.waiting ≡ None → late ≡ false
    → (room && option_map_or (λ z. is_none z.waiting && (not late || follows z)) o other) ≡ true
free_fits room o l late follows other has is idle early =
    ap (λ b. b && option_map_or (λ z. is_none z.waiting && (not late || follows z)) o other) has
    ∙ ap (λ p. option_map_or (λ z. is_none z.waiting && (not late || follows z)) p other) is
    ∙ ap (λ w. is_none w && (not late || follows l)) idle ∙ unasked late (follows l) early

module _ (g : HostState) (made : Config) (same : g.config ≡ made) (k : ℕ) (m : MemberState) (there : slice_get g.members k ≡ Some m) (at : Spot) (l : LeaseState) (found : find (is_lease_on at) m.leases ≡ Some l)
    (idle : l.waiting ≡ None) (room : 0 < made.layout.area) (work : Work) (jobs : IsTrue (option_map_or (λ j. is_idle_job g j || is_leaving_alone g m j) (work_job work) true)) where
  -- A call at this place that is no second read.
  may_make : (step : LeaseStep) (offset : ℕ) (op : Op) → offset - offset % made.layout.area ≡ at.base → same_kind (kind_of_step step) Phase2_write ≡ false → is_second step ≡ false
      → option_and_then delta_of_record (record_of op) ≡ None → option_and_then value_of_record (record_of op) ≡ None → MayWork g m.who at work step offset op
  may_make step offset op near early once no_delta no_value =
      record {
        place = k;
        member = m;
        there = there;
        its = refl;
        fits = record {
          later = refl;
          job = jobs;
          turn = refl;
          generation = none_fits _ _ no_delta;
          value = none_fits _ _ no_value;
          lease = subst (λ (z : Config). IsTrue (fits_lease z.layout m (next_submitted g m.who.number at.path (Lease work step) offset op))) (sym same)
              (free_fits (nat_lt 0 made.layout.area) (find (is_lease_on (record { path = at.path; base = offset - offset % made.layout.area })) m.leases) l (same_kind (kind_of_step step) Phase2_write) _ _
              (some_room made.layout.area room) (ap (λ n. find (is_lease_on (record { path = at.path; base = n })) m.leases) near ∙ found) idle early);
          again = unasked (is_second step) _ once;
        };
      }

  pub may_read : (step : LeaseStep) (offset n : ℕ) → offset - offset % made.layout.area ≡ at.base → same_kind (kind_of_step step) Phase2_write ≡ false → is_second step ≡ false
      → MayWork g m.who at work step offset (ReadSectors n)
  may_read step offset n near early once = may_make step offset (ReadSectors n) near early once refl refl

  pub may_write_block : (step : LeaseStep) (b : Block) → ((turn : ℕ) → block_place made.layout at.base m.who.id turn - block_place made.layout at.base m.who.id turn % made.layout.area ≡ at.base)
      → same_kind (kind_of_step step) Phase2_write ≡ false → is_second step ≡ false → MayWork g m.who at work step (block_at g m at) (WriteRecord (record_at g m at b))
  may_write_block step b near early once =
      block_cases (λ r. MayWork g m.who at work step (block_at g m at) (WriteRecord r)) g.config.layout (turn_next m at) m.who.lockspace (lease_at m at).name b
      (may_make step (block_at g m at) _ placed early once refl refl) (may_make step (block_at g m at) _ placed early once refl refl) where
        placed : block_at g m at - block_at g m at % made.layout.area ≡ at.base
        placed =
            subst (λ (z : Config). block_place z.layout at.base m.who.id (turn_next m at) - block_place z.layout at.base m.who.id (turn_next m at) % made.layout.area ≡ at.base) (sym same)
            (near (turn_next m at))

  pub may_write_leader : (step : LeaseStep) (leader : Leader) → at.base - at.base % made.layout.area ≡ at.base → same_kind (kind_of_step step) Phase2_write ≡ false → is_second step ≡ false
      → MayWork g m.who at work step (leader_offset at.base) (WriteRecord (leader_record g.config.layout leader))
  may_write_leader step leader near early once =
      leader_cases (λ r. MayWork g m.who at work step (leader_offset at.base) (WriteRecord r)) g.config.layout leader
      (may_make step (leader_offset at.base) _ near early once refl refl) (may_make step (leader_offset at.base) _ near early once refl refl)
