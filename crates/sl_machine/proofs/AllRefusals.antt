-- The tests of an event are those of what is kept.
use Rattle.sl_world_state.specs.KeptWorld.{KeptState}
use Rattle.sl_world_state.specs.Refusals.{is_shaped_in, on_kept, tests_in}
use Rattle.sl_machine.specs.EventTests.{RefusalsAreThose, bars_locks, machine_tests, refusal_with, tests_with}
use Rattle.sl_run.specs.Inputs.{machine_of}
use Rattle.sl_run.specs.Worlds.{first_that}
use Rattle.sl_run.specs.declared.event.Event.TheVariants.{AnswerCall, Crash, Do, DropWrite, ExitOf, GiveAsk, GiveCommand, GiveLvm, Land, Pass, Reset, Restart, Sample, SpawnedOf, StartDaemon, Tear, Test, WakeUp}
use Rattle.sl_run.specs.declared.event.Event.{Event}
use Rattle.sl_run.specs.declared.event.Refusal.TheVariants.{Syntax}
use Rattle.sl_run.specs.declared.event.Refusal.{Refusal}
use Rattle.sl_run.specs.declared.header.Header.{Header}
use Rattle.sl_text.specs.Forms.{Form}
use Rattle.sl_trace.specs.declared.command.Command.{Command}
use Rattle.std.proofs.Common.{ap, refl, sym, ◌∙◌}
use Rattle.std.specs.Prelude.{Bool, List, Option, not, ℕ, ◌∷◌, ◌≡◌}

those : (commands : Header → List (Form Command)) (k : KeptState) (e : Event) → tests_with (bars_locks commands k e) k e ≡ tests_in commands k e
unfolding tests_in
those commands k (Pass d growths) = refl
those commands k (WakeUp m) = refl
those commands k (GiveCommand m text) = refl
those commands k (GiveLvm m line) = refl
those commands k (GiveAsk m) = refl
those commands k (Sample m c n) = refl
those commands k (Land m c) = refl
those commands k (Tear m c n bytes) = refl
those commands k (AnswerCall m c ok) = refl
those commands k (Do m c) = refl
those commands k (DropWrite m c) = refl
those commands k (Test m) = refl
those commands k (ExitOf m p) = refl
those commands k (SpawnedOf m p ok) = refl
those commands k (StartDaemon m name) = refl
those commands k (Crash m) = refl
those commands k (Reset m) = refl
those commands k (Restart m) = refl

pub refusals_are_those : RefusalsAreThose
refusals_are_those commands k e locks is =
    ap (λ b. refusal_with b k e) (sym is) ∙ ap (λ (ts : List (Bool × Refusal)). first_that ((not (is_shaped_in k.header e), Syntax) ∷ ts)) (those commands k e)

-- An event of which the machine tells all.
pub plain_tests : (locks : Bool) (k : KeptState) (e : Event) → ((d : ℕ) (gs : Option (List ℕ)) → e ≡ Pass d gs → ⊥) → ((m c n : ℕ) (b : List ℕ) → e ≡ Tear m c n b → ⊥)
    → ((m : ℕ) (name : List ℕ) → e ≡ StartDaemon m name → ⊥) → on_kept k (machine_of e) (machine_tests locks e) ≡ tests_with locks k e
plain_tests locks k (Pass d growths) p t s = absurd (p d growths refl)
plain_tests locks k (WakeUp m) p t s = refl
plain_tests locks k (GiveCommand m text) p t s = refl
plain_tests locks k (GiveLvm m line) p t s = refl
plain_tests locks k (GiveAsk m) p t s = refl
plain_tests locks k (Sample m c n) p t s = refl
plain_tests locks k (Land m c) p t s = refl
plain_tests locks k (Tear m c n bytes) p t s = absurd (t m c n bytes refl)
plain_tests locks k (AnswerCall m c ok) p t s = refl
plain_tests locks k (Do m c) p t s = refl
plain_tests locks k (DropWrite m c) p t s = refl
plain_tests locks k (Test m) p t s = refl
plain_tests locks k (ExitOf m q) p t s = refl
plain_tests locks k (SpawnedOf m q ok) p t s = refl
plain_tests locks k (StartDaemon m name) p t s = absurd (s m name refl)
plain_tests locks k (Crash m) p t s = refl
plain_tests locks k (Reset m) p t s = refl
plain_tests locks k (Restart m) p t s = refl
