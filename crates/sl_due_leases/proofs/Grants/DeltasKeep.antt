-- What a delta lease decides by time keeps, by its cases.
use Rattle.sl_due.specs.CarriedDelta.{carry_delta, write_own_sector}
use Rattle.sl_due.specs.Steps.{Step, seen}
use Rattle.sl_sector.specs.Bitmaps.{no_bits}
use Rattle.sl_sector.specs.declared.sector.DeltaRec.{DeltaRec}
use Rattle.sl_sector.specs.declared.sector.DeltaState.TheVariants.{Free, Live}
use Rattle.sl_trace.specs.DeltaDecisions.{DeltaLease, delta_known, delta_of_session, delta_record, is_renewal_due, next_free, next_renewal}
use Rattle.sl_trace.specs.Sessions.{calls_of, free_write, generation_of, last_seq, leaving_job}
use Rattle.sl_trace.specs.declared.delta.DeltaKnown.{DeltaKnown}
use Rattle.sl_trace.specs.declared.delta.DeltaNext.{DeltaNext}
use Rattle.sl_trace.specs.declared.delta.DeltaNext.TheVariants.{Nothing, WriteFree, WriteRenewal}
use Rattle.sl_trace.specs.declared.session.Session.{Session}
use Rattle.sl_trace.specs.Traces.{Job}
use Rattle.sl_trace.specs.declared.effects.Purpose.TheVariants.{Leaving, Renewal}
use Rattle.std.specs.Prelude.{Bool, List, None, Option, Some, false, is_some, option_map, true, ℕ, ◌+◌}

-- The free of a leaving.
pub free_keeps : (K : Step → Type 0) (x : Step) (s : Session) → ((j : ℕ) (d : DeltaRec) → K (write_own_sector s (Leaving j) d x)) → K x
    → K (carry_delta s (next_free (delta_of_session x.setting s) x.reading (delta_known x.setting (seen x) s)) x)
unfolding carry_delta
free_keeps K x s writes h = by (option_map (λ (j : Job). j.number) (leaving_job x.setting (seen x) s)) (is_some (free_write (calls_of (seen x) s))) where
  d : DeltaRec
  d = delta_record (delta_of_session x.setting s) Free (generation_of (seen x) s) (last_seq (seen x) s + 1) x.reading no_bits

  by : (o : Option ℕ) (b : Bool) → K (carry_delta s (elim o as (λ z. DeltaNext) [ None ↦ Nothing | Some j ↦ elim b as (λ z. DeltaNext) [ true ↦ Nothing | false ↦ WriteFree j d ] ]) x)
  by None b = h
  by (Some j) true = h
  by (Some j) false = writes j d

-- A renewal on a wake.
pub renewal_keeps : (K : Step → Type 0) (x : Step) (s : Session) (l : DeltaLease) (now : ℕ) (k : DeltaKnown) (bits : List ℕ) → ((d : DeltaRec) → K (write_own_sector s Renewal d x)) → K x → K (carry_delta s (next_renewal l now k bits) x)
unfolding carry_delta next_renewal
renewal_keeps K x s l now k bits writes h = by (is_renewal_due l now k) where
  by : (b : Bool) → K (carry_delta s (elim b as (λ z. DeltaNext) [ false ↦ Nothing | true ↦ WriteRenewal (delta_record l Live k.generation (k.seq + 1) now bits) ]) x)
  by false = h
  by true = writes (delta_record l Live k.generation (k.seq + 1) now bits)
