-- A search for a run of events, each daemon doing what is due; and the digest of examples is one.
use Rattle.sl_examples.specs.CheapDigest.{cheap_digest}
use Rattle.sl_sound.proofs.Reports.ReportsAreRuns.{has_steps}
use Rattle.sl_report.specs.DueRuns.{due_run, effects_of}
use Rattle.sl_run.specs.EventChanges.{happens}
use Rattle.sl_run.specs.Refusals.{may_happen}
use Rattle.sl_run.specs.Runs.{IsRun, world_after}
use Rattle.sl_run.specs.Worlds.{World}
use Rattle.sl_run.specs.declared.event.Event.{Event}
use Rattle.sl_sector.specs.FieldBytes.{u32_bytes}
use Rattle.sl_sector.specs.SectorLayouts.{IsDigest}
use Rattle.sl_examples.proofs.Witness.ProofSearch.{seek_true, ◌>>=◌}
use Rattle.std.proofs.Common.{ap, arith, lt-ltb, mod-lt, refl}
use Rattle.std.specs.List.{list_all}
use Rattle.std.specs.Prelude.{IsTrue, List, Option, Some, length, nat_lt, replicate, sum, true, [], ℕ, ◌%◌, ◌++◌, ◌/◌, ◌∷◌, ◌≡◌}

abbrev pub seek_run : (w : World) (es : List Event) → Option (IsRun w (due_run w es))
seek_run w [] = Some tt
seek_run w (e ∷ es) = do
  may ← seek_true (may_happen w e)
  rest ← seek_run (happens w e (effects_of w e)) es
  Some (may, has_steps w e, rest)

-- The run of more events goes on from where that of the first ends.
pub due_run-append : (w : World) (es fs : List Event) → due_run w (es ++ fs) ≡ due_run w es ++ due_run (world_after w (due_run w es)) fs
due_run-append w [] fs = refl
due_run-append w (e ∷ es) fs = ap (λ xs. (e, effects_of w e) ∷ xs) (due_run-append (happens w e (effects_of w e)) es fs)

-- ---- the digest

four_long : (n : ℕ) → length (u32_bytes n ++ replicate 28 0) ≡ 32
unfolding u32_bytes
four_long n = refl

is_byte : (n : ℕ) → nat_lt (n % 256) 256 ≡ true
is_byte n = lt-ltb (n % 256) 256 (mod-lt n (omega arith))

all_bytes : (n : ℕ) → IsTrue (list_all (λ b. nat_lt b 256) (u32_bytes n ++ replicate 28 0))
unfolding u32_bytes
all_bytes n = rw (is_byte (n / 16777216), is_byte (n / 65536), is_byte (n / 256), is_byte n) refl

pub cheap_is_digest : IsDigest cheap_digest
cheap_is_digest = record { long = λ bs. four_long (sum bs); bytes = λ bs. all_bytes (sum bs) }
