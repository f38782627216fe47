-- An event that comes to pass: its lines and its counts, in each world that the play stood for.
use Rattle.sl_world_state.specs.Inputs.{input_in}
use Rattle.sl_world_state.specs.KeptWorld.{KeptState, MachineState, machine_in}
use Rattle.sl_world_state.specs.SaneWorlds.{WorldStands}
use Rattle.sl_locks.specs.declared.line_steps.StepTold.{StepTold}
use Rattle.sl_machine.specs.KeptParts.{kept_state}
use Rattle.sl_play.specs.Plays.{Answers, HasHappened, PassesCounts, PlayState, StandsFor, after_error, test_told}
use Rattle.sl_play.specs.ToldSteps.{AreCounted, counts_with, told_view, tests_told}
use Rattle.sl_play.specs.declared.step_counts.PlayError.TheVariants.{NoMemory, TooMany}
use Rattle.sl_play.specs.declared.step_counts.PlayError.{PlayError}
use Rattle.sl_report.specs.Reports.{Counts, StepTold as ToldStep, conflicts_of, count_event, event_lines, event_told, held_by_others, refusals_told, step_lines, test_lines}
use Rattle.sl_run.specs.Conflicts.{has_conflict}
use Rattle.sl_run.specs.EventChanges.{happens}
use Rattle.sl_run.specs.Inputs.{is_ask, machine_of}
use Rattle.sl_run.specs.Refusals.{may_happen, refusal_of}
use Rattle.sl_run.specs.Locks.{Locks, told_effects}
use Rattle.sl_run.specs.Worlds.{World, machine_at}
use Rattle.sl_run.specs.declared.event.Event.TheVariants.{Test}
use Rattle.sl_run.specs.declared.event.Event.{Event}
use Rattle.sl_run.specs.declared.event.Refusal.{Refusal}
use Rattle.sl_run.specs.declared.header.Header.{Header}
use Rattle.sl_text.specs.Forms.{Form, as_bytes}
use Rattle.sl_trace.specs.Traces.{Setting, Trace}
use Rattle.sl_trace.specs.declared.command.Command.{Command}
use Rattle.sl_trace.specs.declared.effects.Effects.{Effects}
use Rattle.sl_trace.specs.declared.input.Input.{Input}
use Rattle.sl_trace.specs.declared.effects.Grant.{Grant}
use Rattle.sl_world.proofs.CalmLeft.{all_used_is, calm_after, calm_before}
use Rattle.sl_world.proofs.LeftGrants.{conflicts_are_left}
use Rattle.sl_world.specs.AllowedEvents.{StandsForSome}
use Rattle.sl_world.specs.ConflictCounts.{IsCalm, conflicts_left, uses_before, uses_with}
use Rattle.sl_world.specs.GivenSteps.{IsSame}
use Rattle.sl_world.specs.ToldEvents.{ComesTold}
use Rattle.sl_world.specs.declared.apply.ApplyError.TheVariants.{OutOfMemory, Refused}
use Rattle.sl_world.specs.declared.apply.ApplyError.{ApplyError}
use Rattle.sl_world.specs.declared.world.World.{World as KeptWorld}
use Rattle.sl_world_law.proofs.TellingIsKept.{telling_is_kept}
use Rattle.sl_world_law.specs.WorldsStand.{Comes}
use Rattle.sl_world_law.specs.ToldEvents.{conflicts_in, uses_in, tested_in, tested_lines, told_in, told_of}
use Rattle.std.proofs.Common.{Bool, List, false, not, ◌==◌, None, Option, Some, [], ap, arith, inl, inr, length, refl, subst, sym, true, ℕ, ◌++◌, ◌+◌, ◌∙◌, ◌∷◌, ◌≡◌}
use Rattle.std.proofs.lemmas.List.{append-nil}
use Rattle.std.specs.List.{flat_map}
use Rattle.std.specs.Option.{option_map_or}
use Rattle.std.specs.Prelude.{Err, IfOk, Ok, Result, if◌then◌else◌, sum_by, ◌⊎◌}
use Rattle.std.specs.Result.{IsErrAnd}

-- ---- what is told

-- A step is told with all its calls and grants.
told_parts : (i : Option Input) (fx : Effects) (o : Option MachineState)
    → ((option_map_or (told_of i fx) o (record { effects = fx; line = None })).effects.calls ≡ fx.calls) × ((option_map_or (told_of i fx) o (record { effects = fx; line = None })).effects.grants ≡ fx.grants)
unfolding told_effects
told_parts i fx None = (refl, refl)
told_parts None fx (Some s) = (refl, refl)
told_parts (Some i) fx (Some s) = (refl, refl)

-- The line of a test.
tests_so : (k : KeptState) (e : Event) → tests_told (machine_of e) (test_told k e) ≡ tested_lines e (tested_in k e)
tests_so k (Test m) = refl
tests_so k e = refl

-- ---- lines

lines_so : (w : World) (e : Event) (fx : Effects) (told : ToldStep) (tests : List (List ℕ)) → event_told w e (fx ∷ []) ≡ told ∷ [] → test_lines w e ≡ tests
    → step_lines (machine_of e) told ++ tests ≡ event_lines w e (fx ∷ [])
lines_so w e fx told tests step test =
    ap (λ ls. ls ++ tests) (sym (append-nil (step_lines (machine_of e) told))) ∙ ap (λ ts. flat_map (step_lines (machine_of e)) ts ++ tests) (sym step)
    ∙ ap (λ ls. flat_map (step_lines (machine_of e)) (event_told w e (fx ∷ [])) ++ ls) (sym test)

-- ---- counts

-- So much more of each.
abbrev more : Bool → Counts → ℕ → ℕ → ℕ → ℕ → Counts
more ask k calls grants refusals conflicts =
    record {
      events = if ask then k.events else k.events + 1;
      calls = k.calls + calls;
      grants = k.grants + grants;
      refusals = k.refusals + refusals;
      conflicts = k.conflicts + conflicts;
    }

same_more : (ask : Bool) (k : Counts) (a b c d e f g h : ℕ) → a ≡ b → c ≡ d → e ≡ f → g ≡ h → more ask k a c e g ≡ more ask k b d f h
same_more ask k a b c d e f g h p q r s =
    ap (λ n. more ask k n c e g) p ∙ ap (λ n. more ask k b n e g) q ∙ ap (λ n. more ask k b d n g) r ∙ ap (λ n. more ask k b d f n) s

none_plus : (n : ℕ) → n ≡ 0 + n
none_plus n = omega arith

counts_so : (w : World) (e : Event) (fx : Effects) (told : ToldStep) (conflicts : ℕ) (k : Counts) → event_told w e (fx ∷ []) ≡ told ∷ []
    → conflicts_of (held_by_others w (machine_of e)) (machine_of e) (option_map_or (λ a. a.holdings) (machine_at w (machine_of e)) []) (fx ∷ []) ≡ conflicts
    → more (is_ask e) k (length fx.calls) (length fx.grants) (refusals_told told) conflicts ≡ count_event w e (fx ∷ []) k
unfolding count_event
counts_so w e fx told conflicts k step left =
    same_more (is_ask e) k (length fx.calls) (0 + length fx.calls) (length fx.grants) (0 + length fx.grants) (refusals_told told) (sum_by refusals_told (event_told w e (fx ∷ []))) conflicts
    (conflicts_of (held_by_others w (machine_of e)) (machine_of e) (option_map_or (λ a. a.holdings) (machine_at w (machine_of e)) []) (fx ∷ []))
    (none_plus (length fx.calls)) (none_plus (length fx.grants)) (none_plus (refusals_told told) ∙ ap (sum_by refusals_told) (sym step)) (sym left)

-- ---- the event

-- What is counted of what was told, where the step's grants stand last among what its machine holds.
counts_told : {D : Type 0} (commands : Header → List (Form Command)) (stands : D → Setting → Trace → Type 0) (k after : KeptState) (hosts running : List (Option D)) (w : World) (e : Event)
    (fx : Effects) (told : StepTold) (counts : Counts) → WorldStands commands stands k hosts w → (c : Comes commands stands w e fx after running) → told_view told ≡ told_in k e fx
    → counts_with (is_ask e) told (conflicts_left after (machine_of e) (length told.effects.grants)) counts ≡ count_event w e (fx ∷ []) counts
counts_told commands stands k after hosts running w e fx told counts s c is =
    let t = telling_is_kept commands k w s.tells s.sane e c.may fx in
    let parts = told_parts (input_in k e) fx (machine_in k (machine_of e)) in
    let calls : told.effects.calls ≡ fx.calls = ap (λ (x : ToldStep). x.effects.calls) is ∙ parts.0 in
    let grants : told.effects.grants ≡ fx.grants = ap (λ (x : ToldStep). x.effects.grants) is ∙ parts.1 in
    let left : conflicts_left after (machine_of e) (length told.effects.grants) ≡ conflicts_in k e fx =
    ap (λ gs. conflicts_left after (machine_of e) (length gs)) grants
    ∙ sym (conflicts_are_left commands k w s.tells s.sane e c.may fx c.steps after c.stays.tells) in
    same_more (is_ask e) counts (length told.effects.calls) (length fx.calls) (length told.effects.grants) (length fx.grants) (refusals_told (told_view told)) (refusals_told (told_in k e fx))
    (conflicts_left after (machine_of e) (length told.effects.grants)) (conflicts_in k e fx) (ap length calls) (ap length grants) (ap refusals_told is) left
    ∙ counts_so w e fx (told_in k e fx) (conflicts_in k e fx) counts t.step t.conflicts

text_told : {D : Type 0} (commands : Header → List (Form Command)) (stands : D → Setting → Trace → Type 0) (k : KeptState) (hosts : List (Option D)) (w : World) (e : Event) (fx : Effects)
    (told : StepTold) (test : Option Bool) → WorldStands commands stands k hosts w → may_happen w e ≡ true → told_view told ≡ told_in k e fx → test ≡ test_told k e
    → step_lines (machine_of e) (told_view told) ++ tests_told (machine_of e) test ≡ event_lines w e (fx ∷ [])
text_told commands stands k hosts w e fx told test s may is tests =
    let t = telling_is_kept commands k w s.tells s.sane e may fx in
    ap (λ x. step_lines (machine_of e) x ++ tests_told (machine_of e) test) is
    ∙ ap (λ x. step_lines (machine_of e) (told_in k e fx) ++ tests_told (machine_of e) x) tests
    ∙ ap (λ ls. step_lines (machine_of e) (told_in k e fx) ++ ls) (tests_so k e)
    ∙ lines_so w e fx (told_in k e fx) (tested_lines e (tested_in k e)) t.step t.tests

pub has_happened : {D : Type 0} (commands : Header → List (Form Command)) (stands : D → Setting → Trace → Type 0) (p n : PlayState D) (e : Event) (m : ℕ) (ask : Bool) (test : Option Bool)
    (told : StepTold) (out now : List ℕ) → ComesTold commands stands p.kept p.hosts e n.kept n.hosts told → m ≡ machine_of e → ask ≡ is_ask e → test ≡ test_told p.kept e
    → n.counts ≡ counts_with ask told (conflicts_left n.kept m (length told.effects.grants)) p.counts
    → now ≡ out ++ as_bytes (step_lines m (told_view told) ++ tests_told m test) → HasHappened commands stands p e out n now
has_happened commands stands p n e m ask test told out now comes machine asks tests counts text =
    record {
      effects = comes.effects;
      in_each = λ w s.
          let c = comes.comes w s in
          record {
            comes = c;
            counts = counts ∙ ap (λ a. counts_with a told (conflicts_left n.kept m (length told.effects.grants)) p.counts) asks
                ∙ ap (λ k. counts_with (is_ask e) told (conflicts_left n.kept k (length told.effects.grants)) p.counts) machine
                ∙ counts_told commands stands p.kept n.kept p.hosts n.hosts w e comes.effects told p.counts s c comes.told_is;
            text = text ∙ ap (λ k. out ++ as_bytes (step_lines k (told_view told) ++ tests_told k test)) machine
                ∙ ap (λ ls. out ++ as_bytes ls) (text_told commands stands p.kept p.hosts w e comes.effects told test s c.may comes.told_is tests);
          };
    }

-- Where a count would be too great.
pub passes_counts : {D : Type 0} (commands : Header → List (Form Command)) (stands : D → Setting → Trace → Type 0) (p n : PlayState D) (e : Event) (m : ℕ) (ask : Bool)
    (told : StepTold) → ComesTold commands stands p.kept p.hosts e n.kept n.hosts told → m ≡ machine_of e → ask ≡ is_ask e
    → (AreCounted (counts_with ask told (conflicts_left n.kept m (length told.effects.grants)) p.counts) → ⊥) → PassesCounts commands stands p e
passes_counts commands stands p n e m ask told comes machine asks passes =
    record {
      effects = comes.effects;
      may = λ w s. ((comes.comes w s).may, (comes.comes w s).steps);
      passes = λ w s fits. passes (subst AreCounted (sym (same w s)) fits);
    }
  where
    same : (w : World) (s : WorldStands commands stands p.kept p.hosts w)
        → counts_with ask told (conflicts_left n.kept m (length told.effects.grants)) p.counts ≡ count_event w e (comes.effects ∷ []) p.counts
    same w s =
        ap (λ a. counts_with a told (conflicts_left n.kept m (length told.effects.grants)) p.counts) asks
        ∙ ap (λ k. counts_with (is_ask e) told (conflicts_left n.kept k (length told.effects.grants)) p.counts) machine
        ∙ counts_told commands stands p.kept n.kept p.hosts n.hosts w e comes.effects told p.counts s (comes.comes w s) comes.told_is

-- A world is stood for afterwards.
pub stands_then : {D : Type 0} (commands : Header → List (Form Command)) (stands : D → Setting → Trace → Type 0) (k after : KeptState) (hosts running : List (Option D)) (e : Event) (told : StepTold)
    → StandsForSome commands stands k hosts → ComesTold commands stands k hosts e after running told → StandsForSome commands stands after running
stands_then commands stands k after hosts running e told s comes =
    record { world = happens s.world e (comes.effects ∷ []); stands_for = (comes.comes s.world s.stands_for).stays }

-- ---- the same of a world that is kept

pub told_so : {D L : Type 0} (locks : L → Locks) (commands : Header → List (Form Command)) (stands : D → Setting → Trace → Type 0) (p : PlayState D) (x y : KeptWorld D L) (counts : Counts)
    (e : Event) (m : ℕ) (ask : Bool) (test : Option Bool) (told : StepTold) (out now : List ℕ) → y ≡ x
    → ComesTold commands stands p.kept p.hosts e (kept_state locks x.kept) x.hosts told → m ≡ machine_of e → ask ≡ is_ask e → test ≡ test_told p.kept e
    → counts ≡ counts_with ask told (conflicts_left (kept_state locks x.kept) m (length told.effects.grants)) p.counts
    → now ≡ out ++ as_bytes (step_lines m (told_view told) ++ tests_told m test)
    → HasHappened commands stands p e out (record { kept = kept_state locks y.kept; hosts = y.hosts; counts = counts }) now
told_so {D} {L} locks commands stands p x y counts e m ask test told out now same comes machine asks tests counted text =
    subst (λ (z : KeptWorld D L). HasHappened commands stands p e out (record { kept = kept_state locks z.kept; hosts = z.hosts; counts = counts }) now) (sym same)
    (has_happened commands stands p (record { kept = kept_state locks x.kept; hosts = x.hosts; counts = counts }) e m ask test told out now comes machine asks tests counted text)

pub stands_so : {D L : Type 0} (locks : L → Locks) (commands : Header → List (Form Command)) (stands : D → Setting → Trace → Type 0) (p : PlayState D) (x y : KeptWorld D L) (e : Event)
    (told : StepTold) → y ≡ x → StandsFor commands stands p → ComesTold commands stands p.kept p.hosts e (kept_state locks x.kept) x.hosts told
    → StandsForSome commands stands (kept_state locks y.kept) y.hosts
stands_so {D} {L} locks commands stands p x y e told same s comes =
    subst (λ (z : KeptWorld D L). StandsForSome commands stands (kept_state locks z.kept) z.hosts) (sym same)
    (stands_then commands stands p.kept (kept_state locks x.kept) p.hosts x.hosts e told s comes)

pub passes_so : {D L : Type 0} (locks : L → Locks) (commands : Header → List (Form Command)) (stands : D → Setting → Trace → Type 0) (p : PlayState D) (x : KeptWorld D L) (e : Event) (m : ℕ)
    (ask : Bool) (told : StepTold) → ComesTold commands stands p.kept p.hosts e (kept_state locks x.kept) x.hosts told → m ≡ machine_of e → ask ≡ is_ask e
    → (AreCounted (counts_with ask told (conflicts_left (kept_state locks x.kept) m (length told.effects.grants)) p.counts) → ⊥) → PassesCounts commands stands p e
passes_so locks commands stands p x e m ask told comes machine asks passes =
    passes_counts commands stands p (record { kept = kept_state locks x.kept; hosts = x.hosts; counts = p.counts }) e m ask told comes machine asks passes

-- ---- whether uses conflict

-- Where it is known that none do before the event, none do of those that stand before its grants.
pub calm_told : {D L : Type 0} (locks : L → Locks) (commands : Header → List (Form Command)) (stands : D → Setting → Trace → Type 0) (y x : KeptWorld D L) (e : Event) (m : ℕ) (told : StepTold)
    (n : ℕ) (calm : Bool) → IsCalm calm y.kept → StandsForSome commands stands (kept_state locks y.kept) y.hosts
    → ComesTold commands stands (kept_state locks y.kept) y.hosts e (kept_state locks x.kept) x.hosts told → m ≡ machine_of e → n ≡ length told.effects.grants → calm ≡ true
    → has_conflict (uses_before (kept_state locks x.kept) m n) ≡ false
calm_told locks commands stands y x e m told n calm known s comes machine many is =
    let c = comes.comes s.world s.stands_for in
    let grants : told.effects.grants ≡ comes.effects.grants
    = ap (λ (t : ToldStep). t.effects.grants) comes.told_is ∙ (told_parts (input_in (kept_state locks y.kept) e) comes.effects (machine_in (kept_state locks y.kept) (machine_of e))).1 in
    ap (λ j. has_conflict (uses_before (kept_state locks x.kept) m j)) many
    ∙ ap (λ (gs : List Grant). has_conflict (uses_before (kept_state locks x.kept) m (length gs))) grants
    ∙ ap (λ j. has_conflict (uses_before (kept_state locks x.kept) j (length comes.effects.grants))) machine
    ∙ calm_before commands (kept_state locks y.kept) s.world s.stands_for.tells s.stands_for.sane e c.may comes.effects c.steps (kept_state locks x.kept) c.stays.tells
    (sym (ap has_conflict (all_used_is locks y.kept)) ∙ known is)

-- What is known behind them is so of all.
pub calm_then : {D L : Type 0} (locks : L → Locks) (x : KeptWorld D L) (m n : ℕ) (calm left : Bool) → (calm ≡ true → has_conflict (uses_before (kept_state locks x.kept) m n) ≡ false)
    → left ≡ (if n == 0 then calm else not (has_conflict (uses_with (kept_state locks x.kept) m))) → IsCalm left x.kept
calm_then locks x m n calm left before is = λ known. ap has_conflict (all_used_is locks x.kept) ∙ calm_after (kept_state locks x.kept) m n calm left before is known

-- Where nothing that is seen has changed.
pub calm_still : {D L : Type 0} (locks : L → Locks) (y x : KeptWorld D L) (calm : Bool) → kept_state locks x.kept ≡ kept_state locks y.kept → IsCalm calm y.kept
    → IsCalm calm x.kept
calm_still locks y x calm same known = λ is.
    ap has_conflict (all_used_is locks x.kept) ∙ ap (λ k. has_conflict (uses_in k)) same ∙ sym (ap has_conflict (all_used_is locks y.kept)) ∙ known is

-- ---- an event that isn't applied

-- An error of an event.
abbrev err_of : (A : Type 0) → ApplyError → Result A ApplyError
err_of A e = Err e

pub refused_ok : {A D : Type 0} (commands : Header → List (Form Command)) (stands : D → Setting → Trace → Type 0) (p : PlayState D) (e : Event) (out : List ℕ) (after : KeptState) (running : List (Option D))
    (error : ApplyError) (r : Result (Option Refusal) PlayError) → r ≡ after_error error → IsSame p.kept p.hosts after running
    → ((w : World) → WorldStands commands stands p.kept p.hosts w → (why : Refusal) → err_of A error ≡ Err (Refused why) → refusal_of w e ≡ Some why)
    → IfOk r (Answers commands stands p e out (record { kept = after; hosts = running; counts = p.counts }) out)
refused_ok commands stands p e out after running (Refused why) r is same only =
    subst (λ x. IfOk x (Answers commands stands p e out (record { kept = after; hosts = running; counts = p.counts }) out)) (sym is)
    (record { same = record { kept = same.kept; hosts = same.hosts_are; counts = refl }; text = refl; barred = λ w s. only w s why refl })
refused_ok commands stands p e out after running OutOfMemory r is same only =
    subst (λ x. IfOk x (Answers commands stands p e out (record { kept = after; hosts = running; counts = p.counts }) out)) (sym is) tt

pub refused_so : {A : Type 0} (error : ApplyError) (r : Result (Option Refusal) PlayError) (why : Refusal) (tear : Type 0) → r ≡ after_error error
    → (err_of A error ≡ Err (Refused why)) ⊎ (tear × (err_of A error ≡ Err OutOfMemory)) → (r ≡ Ok (Some why)) ⊎ (tear × (r ≡ Err NoMemory))
refused_so {A} (Refused other) r why tear is (inl same) = inl (is ∙ ap (λ x. Ok (Some x)) (same_why other why same))
  where
    same_why : (a b : Refusal) → err_of A (Refused a) ≡ Err (Refused b) → a ≡ b
    same_why a b e = cc
refused_so {A} (Refused other) r why tear is (inr memory) = absurd (never other memory.1)
  where
    never : (a : Refusal) → err_of A (Refused a) ≡ Err OutOfMemory → ⊥
    never a e = absurd cc
refused_so {A} OutOfMemory r why tear is (inl same) = absurd (never why same)
  where
    never : (a : Refusal) → err_of A OutOfMemory ≡ Err (Refused a) → ⊥
    never a e = absurd cc
refused_so {A} OutOfMemory r why tear is (inr memory) = inr (memory.0, is)

pub never_many : {A : Type 0} (error : ApplyError) (r : Result (Option Refusal) PlayError) → r ≡ after_error error → r ≡ Err TooMany → A
never_many (Refused why) r is many = absurd (never r why is many)
  where
    never : (r : Result (Option Refusal) PlayError) (a : Refusal) → r ≡ Ok (Some a) → r ≡ Err TooMany → ⊥
    never r a p q = absurd cc
never_many OutOfMemory r is many = absurd (never r is many)
  where
    never : (r : Result (Option Refusal) PlayError) → r ≡ Err NoMemory → r ≡ Err TooMany → ⊥
    never r p q = absurd cc

-- What is handed on is what was answered.
pub handed_on : {A E : Type 0} (r : Result A E) (e f : E) → IsErrAnd r (λ x. x ≡ e) → r ≡ Err f → e ≡ f
handed_on (Ok x) e f h is = absurd cc
handed_on (Err x) e f h is = cc
