-- A drawn run in which each daemon does what is due is the one that the plain program computes.
use Rattle.sl_generate.specs.GeneratedIsPlain.{GeneratedIsPlain}
use Rattle.sl_report.specs.GeneratedSchedules.{IsGenerated, draw_of, gen_event, gen_header, gen_line, gen_run, next_state}
use Rattle.sl_report.specs.DueRuns.{effects_of}
use Rattle.sl_report.specs.Reports.{end_line, no_counts, run_counts}
use Rattle.sl_run.specs.EventChanges.{happens}
use Rattle.sl_run.specs.Runs.{Happening}
use Rattle.sl_run.specs.Worlds.{World, world_with}
use Rattle.sl_run.specs.declared.event.Event.{Event}
use Rattle.sl_sound.proofs.Reports.EffectsWereDue.{does_from}
use Rattle.sl_sound.specs.Reports.FollowedSchedules.{DoesWhatIsDue}
use Rattle.sl_text.specs.Forms.{as_bytes}
use Rattle.sl_trace.specs.declared.effects.Effects.{Effects}
use Rattle.std.proofs.Common.{ap, arith, refl, sym, ◌∙◌}
use Rattle.std.specs.Prelude.{List, [], length, suc, zero, ℕ, ◌+◌, ◌∷◌, ◌≡◌}

one_less : (m n : ℕ) → suc m ≡ suc n → m ≡ n
one_less m n h = omega (arith, h)

one_more : (n : ℕ) → zero ≡ suc n → ⊥
one_more n h = absurd (omega (arith, h))

-- The run with its first happening exchanged for the same one.
front_by : (rest : World → List Happening) (w : World) (e f : Event) (fxs gxs : List Effects) (es : List Happening) → e ≡ f → fxs ≡ gxs → rest (happens w e fxs) ≡ es
    → (f, gxs) ∷ rest (happens w f gxs) ≡ (e, fxs) ∷ es
front_by rest w e f fxs gxs es one two more =
    sym (ap (λ x. (x, gxs) ∷ rest (happens w x gxs)) one) ∙ sym (ap (λ x. (e, x) ∷ rest (happens w e x)) two) ∙ ap (λ xs. (e, fxs) ∷ xs) more

is_plain : (n number hosts : ℕ) (w : World) (x : ℕ) (run : List Happening) → length run ≡ n → IsGenerated number hosts w x run → DoesWhatIsDue w run
    → gen_run n number hosts w x ≡ run
is_plain zero number hosts w x [] counted g d = refl
is_plain zero number hosts w x (e ∷ es) counted g d = absurd (one_more (length es) (sym counted))
is_plain (suc n) number hosts w x [] counted g d = absurd (one_more n counted)
is_plain (suc n) number hosts w x (e ∷ es) counted g d =
    let y : ℕ = next_state x in
    let z : ℕ = next_state y in
    let u : ℕ = next_state z in
    let f : Event = gen_event w hosts (draw_of y) (draw_of z) (draw_of u) number in
    front_by (λ v. gen_run n (number + 1) hosts v u) w e.0 f e.1 (effects_of w f) es g.0 (d.0 ∙ ap (effects_of w) g.0)
    (is_plain n (number + 1) hosts (happens w e.0 e.1) u es (one_less (length es) n counted) g.1 d.1)

pub generated_is_plain : GeneratedIsPlain
generated_is_plain p seed hosts events paired written g =
    let w : World = world_with p (gen_header hosts paired) in
    g.printed
    ∙ ap (λ xs. as_bytes (gen_line seed hosts events paired ∷ end_line (run_counts w no_counts xs) ∷ []))
    (sym (is_plain events 1 hosts w seed g.run g.counted g.generated (does_from p (gen_header hosts paired) [] g.run g.promised_is.is_run g.promised_is.is_due)))
