-- A daemon runs on, with one more entry where an event gives it an input.
use Rattle.sl_words.proofs.Lists.{contains_first}
use Rattle.sl_headline.specs.Quiet.Events.DaemonsRunOn.{DaemonsRunOn, Rests, RunsAfter, Takes}
use Rattle.sl_run.specs.EventChanges.{after_step, first_change, happens, next_step, take_step, with_entry}
use Rattle.sl_run.specs.Inputs.{input_of, machine_of}
use Rattle.sl_run.specs.Runs.{Happening, IsRun}
use Rattle.sl_run.specs.Safety.{world_at}
use Rattle.sl_run.specs.Worlds.{Daemon, Machine, Stamp, World, machine_at, reading_now, stamp_now, world_with}
use Rattle.sl_run.specs.declared.event.Event.TheVariants.{Crash, Reset}
use Rattle.sl_run.specs.declared.event.Event.{Event}
use Rattle.sl_words.proofs.Numbers.{number_itself}
use Rattle.sl_run_law.proofs.Course.OneMachineChanges.{changed_here}
use Rattle.sl_run_law.proofs.Course.Daemons.{entry_of, step_daemon}
use Rattle.sl_run_law.proofs.Course.MachineTurns.{Alone, Becomes, Began, Called, Came_up, Clocked, Crashed, Elsewhere, Stays, Stepped, Tested, Took, Turned, Went_down, becomes}
use Rattle.sl_run_law.proofs.Front.RunsFromFronts.{fronts_are_lawful, one_step, run_after, run_rest, settled_later}
use Rattle.sl_run_law.specs.DaemonsGoOn.{IsSettled}
use Rattle.sl_run_law.specs.Front.LawfulFronts.{HasOneStep}
use Rattle.sl_trace.specs.declared.effects.Effects.{Effects}
use Rattle.sl_trace.specs.declared.input.Input.TheVariants.{Answer as Told, Exit, Line, Number, Spawned, Wake}
use Rattle.sl_trace.specs.declared.input.Input.{Input}
use Rattle.sl_words.proofs.CaseLaws.{none_some, true_is_false}
use Rattle.std.proofs.lemmas.Bool.{eqb-true}
use Rattle.std.proofs.Common.{ap, inl, inr, refl, subst, sym, ◌∙◌}
use Rattle.std.specs.Prelude.{Bool, Contains, None, Option, Some, [], false, option_map, true, ℕ, ◌++◌, ◌==◌, ◌∷◌, ◌≡◌, ◌⊎◌}

turned_runs : (w : World) (e : Event) (m : ℕ) (a b : Machine) (d : Daemon) → IsSettled a → a.daemon ≡ Some d → (e ≡ Crash m → ⊥) → (e ≡ Reset m → ⊥) → Turned w e m a b → b.daemon ≡ Some d
turned_runs w e m a b d settled runs crash reset (Stays is) = ap (λ (x : Machine). x.daemon) is ∙ runs
turned_runs w e m a b d settled runs crash reset (Clocked k is) = ap (λ (x : Machine). x.daemon) is ∙ runs
turned_runs w e m a b d settled runs crash reset (Tested t is) = ap (λ (x : Machine). x.daemon) is ∙ runs
turned_runs w e m a b d settled runs crash reset (Called n f g flight keeps is) = ap (λ (x : Machine). x.daemon) is ∙ runs
turned_runs w e m a b d settled runs crash reset (Crashed event is) = absurd (crash event)
turned_runs w e m a b d settled runs crash reset (Went_down event up is) = absurd (reset event)
turned_runs w e m a b d settled runs crash reset (Began name event up used fresh is) = absurd (none_some d (sym (settled.unused used) ∙ runs))
turned_runs w e m a b d settled runs crash reset (Came_up event down is) = absurd (none_some d (sym (settled.down down) ∙ runs))

reading_then : (now : Stamp) (i : Input) (fx : Effects) (b : Machine) → reading_now (after_step now i fx b) ≡ reading_now b
reading_then now (Line text) fx b = refl
reading_then now (Number text) fx b = refl
reading_then now (Told n answer) fx b = refl
reading_then now Wake fx b = refl
reading_then now (Exit p) fx b = refl
reading_then now (Spawned p ok) fx b = refl

-- A step that no daemon takes, or one of another machine.
unstepped : (w v : World) (x : Happening) (fx : Effects) (m : ℕ) (b c : Machine) (d : Daemon) → b.daemon ≡ Some d → machine_at v m ≡ Some c → (input_of w x.0 ≡ None) ⊎ (machine_of x.0 ≡ m → ⊥) → Stepped w x.0 fx m b c
    → RunsAfter w v x m d
unstepped w v x fx m b c d runs at why (Elsewhere is) = record { machine = c; daemon = d; at = at; runs = ap (λ (y : Machine). y.daemon) is ∙ runs; how = Rests refl why }
unstepped w v x fx m b c d runs at why (Alone none same is) = record { machine = c; daemon = d; at = at; runs = ap (λ (y : Machine). y.daemon) is ∙ runs; how = Rests refl why }
unstepped w v x fx m b c d runs at (inl none) (Took i given same is) = absurd (none_some i (sym none ∙ given))
unstepped w v x fx m b c d runs at (inr other) (Took i given same is) = absurd (other (sym same))

-- Its own step.
taken : (w v : World) (x : Happening) (fx : Effects) (m : ℕ) (b : Machine) (d : Daemon) (i : Input) (now : Stamp) → b.daemon ≡ Some d → Contains x.1 fx → machine_of x.0 ≡ m → input_of w x.0 ≡ Some i
    → machine_at v m ≡ Some (after_step now i fx b) → RunsAfter w v x m d
taken w v x fx m b d i now runs has same given at =
    record {
      machine = after_step now i fx b;
      daemon = with_entry (entry_of i fx b) now d;
      at = at;
      runs = step_daemon now i fx b ∙ ap (λ o. option_map (with_entry (entry_of i fx b) now) o) runs;
      how = Takes i fx now same given has (ap (λ n. with_entry (record { reading = n; input = i; effects = fx }) now d) (sym (reading_then now i fx b)));
    }

pub daemons_run_on : DaemonsRunOn
daemons_run_on p h now x run m a d at runs crash reset = by (input_of w x.0) refl (machine_of x.0 == m) refl where
  w : World
  w = world_at p h now

  v : World
  v = world_at p h (now ++ x ∷ [])

  last : IsRun w (x ∷ [])
  last = run_rest (world_with p h) now (x ∷ []) run.is_run

  one : HasOneStep w x.0 x.1
  one = one_step w x.0 x.1 last.1

  after : v ≡ take_step (machine_of x.0) (input_of w x.0) one.effects (next_step (first_change x.0 w))
  after = run_after (world_with p h) now (x ∷ []) ∙ ap (λ fxs. happens w x.0 fxs) one.one

  settled : IsSettled a
  settled = settled_later p h now (fronts_are_lawful p h now (x ∷ []) run).is_run m a at

  q : (c : Machine) × (machine_at (take_step (machine_of x.0) (input_of w x.0) one.effects (next_step (first_change x.0 w))) m ≡ Some c) × Becomes w x.0 one.effects m a c
  q = becomes w x.0 one.effects last.0 m a at

  middle : Machine
  middle = (q.2).middle

  there : middle.daemon ≡ Some d
  there = turned_runs w x.0 m a middle d settled runs crash reset (q.2).turned

  still : (input_of w x.0 ≡ None) ⊎ (machine_of x.0 ≡ m → ⊥) → RunsAfter w v x m d
  still why = unstepped w v x one.effects m middle q.0 d there (ap (λ u. machine_at u m) after ∙ q.1) why (q.2).stepped

  steps : (i : Input) → input_of w x.0 ≡ Some i → machine_of x.0 ≡ m → RunsAfter w v x m d
  steps i given same =
      let u : World = next_step (first_change x.0 w) in
      let now_then : Stamp = stamp_now u middle in
      taken w v x one.effects m middle d i now_then there (subst (λ fxs. Contains fxs one.effects) (sym one.one) (contains_first one.effects [])) same given
      (ap (λ y. machine_at y m) (after ∙ (ap (λ o. take_step (machine_of x.0) o one.effects u) given ∙ ap (λ n. take_step n (Some i) one.effects u) same))
      ∙ changed_here u m (λ b. after_step (stamp_now u b) i one.effects b) middle (q.2).between)

  by : (o : Option Input) → input_of w x.0 ≡ o → (t : Bool) → (machine_of x.0 == m) ≡ t → RunsAfter w v x m d
  by None none t is = still (inl none)
  by (Some i) given false is = still (inr (λ same. true_is_false (sym (ap (λ n. n == m) same ∙ number_itself m) ∙ is)))
  by (Some i) given true is = steps i given (eqb-true (machine_of x.0) m is)
