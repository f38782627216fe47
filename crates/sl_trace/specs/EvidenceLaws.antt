-- What was shown once stays shown.
use Rattle.sl_trace.specs.Sightings.{counted_over, counts_over}
use Rattle.sl_trace.specs.declared.session.Session.{Session}
use Rattle.sl_trace.specs.Traces.{Setting, Trace}
use Rattle.sl_trace.specs.declared.effects.Entry.{Entry}
use Rattle.std.specs.Prelude.{true, ℕ, ◌∷◌, ◌≡◌}

-- A session that was once counted as over stays so counted.
abbrev pub EvidenceStays : Type 0
EvidenceStays =
    (st : Setting) (e : Entry) (es : Trace) (s : Session) (j h : ℕ) → counted_over st es s j h ≡ true → counted_over st (e ∷ es) s j h ≡ true

-- .. and is so counted where it counts as over now.
abbrev pub EvidenceCounts : Type 0
EvidenceCounts = (st : Setting) (es : Trace) (s : Session) (j h : ℕ) → counts_over st es s j h ≡ true → counted_over st es s j h ≡ true
