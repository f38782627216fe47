-- What is owed of a source whose lines were followed from the header's world on.
use Rattle.sl_play.specs.PlayIsOwed.{PlayIsOwed}
use Rattle.sl_report.specs.OwedReports.{In_events, Of_events}
use Rattle.sl_trace.specs.Traces.{Setting, Trace}
use Rattle.std.proofs.Common.{refl}

pub play_is_owed : {D : Type 0} → (stands : D → Setting → Trace → Type 0) → PlayIsOwed stands
play_is_owed stands =
    record {
      whole = (λ lang source h rest written end read f. In_events h rest f.xs end read f.follows (record { is_run = f.is_run; stood = f.fronts }) f.text refl);
      front = (λ lang source h rest written read f. Of_events h rest f.xs read f.follows (record { is_run = f.is_run; stood = f.fronts }) f.text);
    }
