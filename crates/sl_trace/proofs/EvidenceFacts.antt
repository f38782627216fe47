-- Evidence, once it is there, is remembered.
use Rattle.sl_trace.specs.Sightings.{counted_over, counts_over}
use Rattle.sl_trace.specs.declared.session.Session.{Session}
use Rattle.sl_trace.specs.Traces.{Setting, Trace}
use Rattle.sl_trace.specs.declared.effects.Entry.{Entry}
use Rattle.std.proofs.Common.{ap, ◌∙◌}
use Rattle.std.specs.Prelude.{Bool, false, refl, true, [], ℕ, ◌∷◌, ◌≡◌}

-- The chain of a test and what was before.
abbrev either : Bool → Bool → Bool
either now before = elim now [ true ↦ true | false ↦ before ]

-- It holds where the earlier did.
either-before : (now : Bool) → either now true ≡ true
either-before true = refl
either-before false = refl

pub counted_over-more : (st : Setting) (e : Entry) (es : Trace) (s : Session) (j h : ℕ) → counted_over st es s j h ≡ true → counted_over st (e ∷ es) s j h ≡ true
counted_over-more st e es s j h was = ap (either (counts_over st (e ∷ es) s j h)) was ∙ either-before (counts_over st (e ∷ es) s j h)

pub counted_over-now : (st : Setting) (es : Trace) (s : Session) (j h : ℕ) → counts_over st es s j h ≡ true → counted_over st es s j h ≡ true
counted_over-now st [] s j h is = is
counted_over-now st (e ∷ es) s j h is = ap (λ b. either b (counted_over st es s j h)) is
