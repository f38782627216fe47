-- An event of which nothing is told: it is counted, and only the line of a test is written.
use Rattle.sl_machine.specs.KeptParts.{kept_state}
use Rattle.sl_play.proofs.EventsHappen.{calm_still, calm_then, calm_told, passes_so, told_so}
use Rattle.sl_play.specs.Plays.{HasHappened, PassesCounts, PlayState, test_told}
use Rattle.sl_play.specs.ToldSteps.{AreCounted, counts_with, one_more, tests_told}
use Rattle.sl_report.specs.Reports.{Counts, conflicts_after}
use Rattle.sl_run.specs.Inputs.{is_ask, machine_of}
use Rattle.sl_run.specs.Locks.{Locks}
use Rattle.sl_run.specs.declared.event.Event.TheVariants.{GiveAsk, Test}
use Rattle.sl_run.specs.declared.event.Event.{Event}
use Rattle.sl_run.specs.declared.header.Header.{Header}
use Rattle.sl_text.specs.Forms.{Form, as_bytes}
use Rattle.sl_trace.specs.Traces.{Setting, Trace}
use Rattle.sl_trace.specs.declared.command.Command.{Command}
use Rattle.sl_trace.specs.declared.effects.Grant.{Grant}
use Rattle.sl_words.proofs.CaseLaws.{false_is_true, true_is_false}
use Rattle.sl_world.specs.AllowedEvents.{StandsForSome}
use Rattle.sl_world.specs.ConflictCounts.{IsCalm, conflicts_left}
use Rattle.sl_world.specs.GivenSteps.{IsSame}
use Rattle.sl_world.specs.ToldEvents.{ComesTold, is_untold, nothing_told}
use Rattle.sl_world.specs.declared.apply.ApplyError.{ApplyError}
use Rattle.sl_world.specs.declared.world.World.{World as KeptWorld}
use Rattle.sl_world_law.specs.ToldEvents.{held_in, others_in}
use Rattle.sl_world_state.specs.KeptWorld.{KeptState}
use native.Mathlib.Numerals.{unary_clauses}
use Rattle.std.proofs.Common.{Bool, List, None, Option, ap, arith, false, length, refl, subst, sym, take, true, ℕ, ◌++◌, ◌-◌, ◌∙◌, ◌≡◌}
use Rattle.std.proofs.lemmas.List.{drop_all}
use Rattle.std.specs.Prelude.{Err, Ok, OnErr, OnOk, Result}

-- ---- which events those are

-- No ask is among them.
unasked : (e : Event) → is_untold e ≡ true → false ≡ is_ask e
unasked (GiveAsk m) is = absurd (false_is_true is)
unasked e is = refl

-- Each test is.
pub untested : (k : KeptState) (e : Event) → is_untold e ≡ false → None ≡ test_told k e
untested k (Test m) is = absurd (true_is_false is)
untested k e is = refl

-- ---- what is counted

-- Where nothing is granted, nothing granted leaves a conflict.
none_left : (k : KeptState) (m : ℕ) → conflicts_left k m 0 ≡ 0
none_left k m =
    let held : List Grant = held_in k m in
    ap (conflicts_after (others_in k m) m (take (length held - 0) held)) (drop_all (length held - 0) held (omega arith))

-- Where nothing is told and no conflict is left, one event is counted and nothing else.
no_more : (c : Counts) → counts_with false nothing_told 0 c ≡ one_more c
no_more c = simp unary_clauses refl

one_is_more : (k : KeptState) (m : ℕ) (c : Counts) → counts_with false nothing_told (conflicts_left k m 0) c ≡ one_more c
one_is_more k m c = ap (λ n. counts_with false nothing_told n c) (none_left k m) ∙ no_more c

-- ---- the event

module _ {D L : Type 0} (locks : L → Locks) (commands : Header → List (Form Command)) (stands : D → Setting → Trace → Type 0) (p : PlayState D) (x : KeptWorld D L) (e : Event)
    (untold : is_untold e ≡ true) (comes : ComesTold commands stands p.kept p.hosts e (kept_state locks x.kept) x.hosts nothing_told) where
  pub untold_so : (y : KeptWorld D L) (counts : Counts) (m : ℕ) (test : Option Bool) (out now : List ℕ) → y ≡ x → m ≡ machine_of e → test ≡ test_told p.kept e → counts ≡ one_more p.counts
      → now ≡ out ++ as_bytes (tests_told m test) → HasHappened commands stands p e out (record { kept = kept_state locks y.kept; hosts = y.hosts; counts = counts }) now
  untold_so y counts m test out now same machine tests counted text =
      told_so locks commands stands p x y counts e m false test nothing_told out now same comes machine (unasked e untold) tests
      (counted ∙ sym (one_is_more (kept_state locks x.kept) m p.counts)) text

  -- Where there would be too many events.
  pub untold_passes : (AreCounted (one_more p.counts) → ⊥) → PassesCounts commands stands p e
  untold_passes passes =
      passes_so locks commands stands p x e (machine_of e) false nothing_told comes refl (unasked e untold)
      (λ fits. passes (subst AreCounted (one_is_more (kept_state locks x.kept) (machine_of e) p.counts) fits))

-- Where no two uses conflict before it, none do behind it.
untold_calm : {D L : Type 0} (locks : L → Locks) (commands : Header → List (Form Command)) (stands : D → Setting → Trace → Type 0) (y x : KeptWorld D L) (e : Event) (calm : Bool)
    → IsCalm calm y.kept → StandsForSome commands stands (kept_state locks y.kept) y.hosts
    → ComesTold commands stands (kept_state locks y.kept) y.hosts e (kept_state locks x.kept) x.hosts nothing_told → IsCalm calm x.kept
untold_calm locks commands stands y x e calm known s comes =
    calm_then locks x (machine_of e) 0 calm calm (calm_told locks commands stands y x e (machine_of e) nothing_told 0 calm known s comes refl refl) refl

-- So too where it is refused.
pub untold_stays : {A D L : Type 0} (locks : L → Locks) (commands : Header → List (Form Command)) (stands : D → Setting → Trace → Type 0) (y x : KeptWorld D L) (e : Event) (calm : Bool)
    (r : Result A ApplyError) → IsCalm calm y.kept → StandsForSome commands stands (kept_state locks y.kept) y.hosts
    → OnOk r (ComesTold commands stands (kept_state locks y.kept) y.hosts e (kept_state locks x.kept) x.hosts nothing_told)
    → OnErr r (IsSame (kept_state locks y.kept) y.hosts (kept_state locks x.kept) x.hosts) → IsCalm calm x.kept
untold_stays locks commands stands y x e calm (Ok a) known s comes same = untold_calm locks commands stands y x e calm known s comes
untold_stays locks commands stands y x e calm (Err error) known s comes same = calm_still locks y x calm same.kept known
