-- Where no two uses conflict after an event, no grant of its step is counted.
use Rattle.sl_words.proofs.Lists.{in_map, kept_inside, next_before}
use Rattle.sl_report.specs.Reports.{Counts, conflicts_after, conflicts_of, count_event, held_by_others, no_counts, run_counts}
use Rattle.sl_run.specs.Conflicts.{Holding, IsExclusive, has_conflict, holding, world_holdings, world_lingering, world_uses}
use Rattle.sl_run.specs.EventChanges.{first_change, happens, next_step, own_effects}
use Rattle.sl_run.specs.Inputs.{input_at, input_of, machine_of}
use Rattle.sl_run.specs.Refusals.{may_happen}
use Rattle.sl_run.specs.Runs.{Happening, IsRun, own_effects_of, world_after}
use Rattle.sl_run.specs.Worlds.{Lingering, Machine, World, lingering_now, lingers, machine_at, world_with}
use Rattle.sl_run.specs.declared.event.Event.TheVariants.{AnswerCall, Crash, Do, DropWrite, ExitOf, GiveAsk, GiveCommand, GiveLvm, Land, Pass, Reset, Restart, Sample, SpawnedOf, StartDaemon, Tear, Test, WakeUp}
use Rattle.sl_run.specs.declared.event.Event.{Event}
use Rattle.sl_run.specs.declared.header.Header.{Header}
use Rattle.sl_run_law.proofs.Course.MachineTurns.{becomes}
use Rattle.sl_run_law.proofs.Front.RunsFromFronts.{one_step}
use Rattle.sl_run_law.proofs.Front.JoinedLists.{contains_append, contains_left}
use Rattle.sl_run_law.proofs.WorldsGoOn.{event_goes}
use Rattle.sl_run_law.specs.WorldsGoOn.{time_of}
use Rattle.sl_safety.proofs.Holding.Holders.{IsThere, LingersThere, held_there, lingers_there}
use Rattle.sl_sound.proofs.HeldAfterEvent.{AreAmong, elsewhere, in_world, lingers_in_world, none_among, taken, turned_holdings}
use Rattle.sl_sound.specs.SoundLaws.{SafeRunsCountNone}
use Rattle.sl_trace.specs.Traces.{held_after, is_ended_by, no_effects}
use Rattle.sl_trace.specs.declared.effects.Effects.{Effects}
use Rattle.sl_trace.specs.declared.effects.Grant.{Grant}
use Rattle.sl_words.proofs.CaseLaws.{false_is_true, none_some}
use Rattle.std.proofs.Common.{ap, arith, inl, inr, refl, subst, sym, tests, ◌∙◌}
use Rattle.std.specs.Option.{option_map_or}
use Rattle.std.specs.Prelude.{Bool, Contains, List, None, Option, Some, false, filter, if◌then◌else◌, map, not, option_and_then, true, [], ℕ, ◌++◌, ◌+◌, ◌==◌, ◌∷◌, ◌≡◌, ◌⊎◌}

-- ---- one step's grants

uncounted : (b : Bool) (rest : ℕ) → b ≡ false → rest ≡ 0 → (if b then 1 else 0) + rest ≡ 0
uncounted true rest h k = absurd (false_is_true (sym h))
uncounted false rest h k = omega (arith, k)

-- What stands after each grant is among what stands after the last.
none_counted : (all others : List Holding) (m : ℕ) → has_conflict all ≡ false → (held gs : List Grant) → AreAmong others all
    → ((g : Grant) → Contains (held ++ gs) g → Contains all (holding m g)) → conflicts_after others m held gs ≡ 0
none_counted all others m none held [] away here = refl
none_counted all others m none held (g ∷ gs) away here =
    let later : (k : Grant) → Contains ((held ++ g ∷ []) ++ gs) k → Contains all (holding m k) = subst (λ ks. (k : Grant) → Contains ks k → Contains all (holding m k)) (sym (next_before held g gs)) here in
    uncounted (has_conflict (others ++ map (holding m) (held ++ g ∷ []))) (conflicts_after others m (held ++ g ∷ []) gs)
    (none_among (others ++ map (holding m) (held ++ g ∷ [])) all (λ h there. either later h (contains_append others (map (holding m) (held ++ g ∷ [])) h there)) none)
    (none_counted all others m none (held ++ g ∷ []) gs away later)
  where
    either : ((k : Grant) → Contains ((held ++ g ∷ []) ++ gs) k → Contains all (holding m k)) → (h : Holding)
        → Contains others h ⊎ Contains (map (holding m) (held ++ g ∷ [])) h → Contains all h
    either later h (inl other) = away h other
    either later h (inr own) =
        let x = in_map (holding m) (held ++ g ∷ []) h own in
        subst (Contains all) x.2 (later x.0 (contains_left (held ++ g ∷ []) gs x.0 x.1))

plus_none : (n : ℕ) → n ≡ 0 → n + 0 ≡ 0
plus_none n h = omega (arith, h)

-- A step without grants counts none.
no_grants : (others : List Holding) (m : ℕ) (held : List Grant) (fx : Effects) → fx.grants ≡ [] → conflicts_of others m held (fx ∷ []) ≡ 0
no_grants others m held fx none =
    plus_none (conflicts_after others m (filter (λ g. not (is_ended_by fx.ends g)) held) fx.grants)
    (ap (conflicts_after others m (filter (λ g. not (is_ended_by fx.ends g)) held)) none)

-- ---- an event

takes_none : (w : World) (e : Event) (a : Machine) → machine_at w (machine_of e) ≡ Some a → time_of e ≡ 0
takes_none w (Pass d growths) a at = absurd (none_some a at)
takes_none w (WakeUp m) a at = refl
takes_none w (GiveCommand m text) a at = refl
takes_none w (GiveLvm m line) a at = refl
takes_none w (GiveAsk m) a at = refl
takes_none w (Sample m c k) a at = refl
takes_none w (Land m c) a at = refl
takes_none w (Tear m c k bytes) a at = refl
takes_none w (AnswerCall m c ok) a at = refl
takes_none w (Do m c) a at = refl
takes_none w (DropWrite m c) a at = refl
takes_none w (Test m) a at = refl
takes_none w (ExitOf m p) a at = refl
takes_none w (SpawnedOf m p ok) a at = refl
takes_none w (StartDaemon m name) a at = refl
takes_none w (Crash m) a at = refl
takes_none w (Reset m) a at = refl
takes_none w (Restart m) a at = refl

plus_nothing : (n d : ℕ) → d ≡ 0 → n + d ≡ n
plus_nothing n d h = omega (arith, h)

-- What lingers somewhere lingers after an event that takes no time, where the machine keeps it.
lingers_then : (w : World) (e : Event) (fx : Effects) (a c : Machine) (l : Lingering) → time_of e ≡ 0 → c.lingering ≡ a.lingering → Contains (lingering_now w a) l
    → Contains (lingering_now (happens w e (fx ∷ [])) c) l
lingers_then w e fx a c l now same there =
    let goes = event_goes w e (fx ∷ []) in
    let moment : (happens w e (fx ∷ [])).moment ≡ w.moment = goes.moment ∙ plus_nothing w.moment (time_of e) now in
    let land : (happens w e (fx ∷ [])).header.timing.land ≡ w.header.timing.land = ap (λ (h : Header). h.timing.land) goes.header in
    subst (λ (ls : List Lingering). Contains ls l)
    (ap (λ n. filter (lingers n w.moment) a.lingering) (sym land)
    ∙ ap (λ n. filter (lingers (happens w e (fx ∷ [])).header.timing.land n) a.lingering) (sym moment)
    ∙ ap (filter (lingers (happens w e (fx ∷ [])).header.timing.land (happens w e (fx ∷ [])).moment)) (sym same)) there

-- What others use stays, where no time passes.
others_stay : (w : World) (e : Event) (fx : Effects) → may_happen w e ≡ true → time_of e ≡ 0
    → AreAmong (held_by_others w (machine_of e)) (world_uses (happens w e (fx ∷ [])))
others_stay w e fx may now h there = by (contains_append (world_holdings w) (world_lingering w) h x.0) where
  x : Contains (world_uses w) h × (not (h.machine == machine_of e) ≡ true)
  x = kept_inside (λ (k : Holding). not (k.machine == machine_of e)) (world_uses w) h there

  other : (n m : ℕ) → not (n == m) ≡ true → n ≡ m → ⊥
  other n m h k = grind (arith, tests, h, k)

  apart : h.machine ≡ machine_of e → ⊥
  apart = other h.machine (machine_of e) x.1

  by : Contains (world_holdings w) h ⊎ Contains (world_lingering w) h → Contains (world_uses (happens w e (fx ∷ []))) h
  by (inl stands) =
      let k : IsThere w h = held_there w h stands in
      let later = elsewhere w e fx may h.machine k.machine k.at apart in
      subst (Contains (world_uses (happens w e (fx ∷ [])))) (sym k.stands)
      (in_world (happens w e (fx ∷ [])) h.machine later.0 h.held later.1 (subst (λ gs. Contains gs h.held) (sym later.2.holdings) k.has))
  by (inr lingers) =
      let k : LingersThere w h = lingers_there w h lingers in
      let later = elsewhere w e fx may k.number k.machine k.at (λ same. apart (ap (λ (y : Holding). y.machine) k.is ∙ same)) in
      subst (Contains (world_uses (happens w e (fx ∷ [])))) (sym k.is)
      (lingers_in_world (happens w e (fx ∷ [])) k.number later.0 k.lingering later.1 (lingers_then w e fx k.machine later.0 k.lingering now later.2.lingering k.there))

gives_none : (w : World) (m : ℕ) (o : Option Machine) → option_and_then (input_at w (Reset m)) o ≡ None
gives_none w m None = refl
gives_none w m (Some a) = refl

-- A reset grants nothing, nor does an event on no machine.
reset_grants : (w : World) (e : Event) (m : ℕ) (fx : Effects) → e ≡ Reset m → (input_of w e ≡ None → fx ≡ own_effects_of w e) → fx.grants ≡ []
reset_grants w e m fx is own =
    ap (λ (x : Effects). x.grants) (own (ap (input_of w) is ∙ gives_none w m (machine_at w m))) ∙ ap (λ e. (own_effects_of w e).grants) is ∙ granted (machine_at w m)
  where
    granted : (o : Option Machine) → (option_map_or (own_effects w (Reset m)) o no_effects).grants ≡ []
    granted None = refl
    granted (Some a) = refl

-- Of an event on a machine whose holdings stay till its step.
held_counts : (w : World) (e : Event) (fx : Effects) → may_happen w e ≡ true → IsExclusive (happens w e (fx ∷ [])) → (a b : Machine)
    → machine_at w (machine_of e) ≡ Some a → machine_at (next_step (first_change e w)) (machine_of e) ≡ Some b → b.holdings ≡ a.holdings
    → conflicts_of (held_by_others w (machine_of e)) (machine_of e) a.holdings (fx ∷ []) ≡ 0
held_counts w e fx may safe a b at between same =
    let m : ℕ = machine_of e in
    let v : World = happens w e (fx ∷ []) in
    let held : List Grant = filter (λ g. not (is_ended_by fx.ends g)) a.holdings in
    let later = taken m (input_of w e) fx (next_step (first_change e w)) b between in
    plus_none (conflicts_after (held_by_others w m) m held fx.grants)
    (none_counted (world_uses v) (held_by_others w m) m safe held fx.grants (others_stay w e fx may (takes_none w e a at))
    (λ g has. in_world v m later.0 g later.1 (subst (λ gs. Contains gs g) (sym (later.2 ∙ ap (held_after fx) same)) has)))

-- Of an event, with one step.
event_counts : (w : World) (e : Event) (fx : Effects) → may_happen w e ≡ true → (input_of w e ≡ None → fx ≡ own_effects_of w e)
    → IsExclusive (happens w e (fx ∷ [])) → (o : Option Machine) → machine_at w (machine_of e) ≡ o
    → conflicts_of (held_by_others w (machine_of e)) (machine_of e) (option_map_or (λ (a : Machine). a.holdings) o []) (fx ∷ []) ≡ 0
event_counts w e fx may own safe None at =
    no_grants (held_by_others w (machine_of e)) (machine_of e) [] fx
    (ap (λ (x : Effects). x.grants) (own (ap (option_and_then (input_at w e)) at)) ∙ ap (λ o. (option_map_or (own_effects w e) o no_effects).grants) at)
event_counts w e fx may own safe (Some a) at =
    let q = becomes w e fx may (machine_of e) a at in
    let b : Machine = q.2.middle in
    elim (turned_holdings w e (machine_of e) a b q.2.turned) as (λ z. conflicts_of (held_by_others w (machine_of e)) (machine_of e) a.holdings (fx ∷ []) ≡ 0) [
      | inl same ↦ held_counts w e fx may safe a b at q.2.between same.holdings
      | inr is ↦ no_grants (held_by_others w (machine_of e)) (machine_of e) a.holdings fx (reset_grants w e (machine_of e) fx is own)
    ]

-- ---- a run

-- What is said of each world after a front.
abbrev AfterEach : (World → Type 0) → World → List Happening → Type 0
AfterEach Q w xs = (now rest : List Happening) → xs ≡ now ++ rest → Q (world_after w now)

sum_none : (k n : ℕ) → n ≡ 0 → k + n ≡ k
sum_none k n h = omega (arith, h)

counted : (w : World) (xs : List Happening) (k : Counts) → IsRun w xs → AfterEach IsExclusive w xs → (run_counts w k xs).conflicts ≡ k.conflicts
unfolding count_event
counted w [] k run safe = refl
counted w (x ∷ xs) k run safe =
    let one = one_step w x.0 x.1 run.1 in
    let v : World = happens w x.0 x.1 in
    let first : IsExclusive (happens w x.0 (one.effects ∷ [])) = subst (λ fxs. IsExclusive (happens w x.0 fxs)) one.one (safe (x ∷ []) xs refl) in
    counted v xs (count_event w x.0 x.1 k) run.2 (λ now rest is. safe (x ∷ now) rest (ap (λ ys. x ∷ ys) is))
    ∙ sum_none k.conflicts _
    (ap (conflicts_of (held_by_others w (machine_of x.0)) (machine_of x.0) (option_map_or (λ a. a.holdings) (machine_at w (machine_of x.0)) [])) one.one
    ∙ event_counts w x.0 one.effects run.0 one.own first (machine_at w (machine_of x.0)) refl)

pub safe_runs_count_none : SafeRunsCountNone
safe_runs_count_none p h xs run safe = counted (world_with p h) xs no_counts run safe
