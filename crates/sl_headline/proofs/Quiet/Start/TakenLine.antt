-- The event that brings a line: the daemon takes it at the reading that its machine had, nothing lands, and what stood anywhere stands.
use Rattle.sl_area.specs.AreaSizes.{Layout}
use Rattle.sl_run.specs.EventChanges.{after_step, first_change, happens, next_step, take_step, with_entry}
use Rattle.sl_run.specs.Inputs.{input_at, input_of, machine_of, done_input, rest_sampled}
use Rattle.sl_run.specs.Runs.{Happening, IsRun}
use Rattle.sl_run.specs.Safety.{LawfulRun, world_at}
use Rattle.sl_run.specs.Worlds.{Course, Daemon, Landing, Machine, Program, Stamp, World, content, flight_of, initial_bytes, machine_at, reading_now, stamp_now, world_with}
use Rattle.sl_run.specs.declared.event.Event.TheVariants.{AnswerCall, Crash, Do, DropWrite, ExitOf, GiveAsk, GiveCommand, GiveLvm, Land, Pass, Reset, Restart, Sample, SpawnedOf, StartDaemon, Tear, Test, WakeUp}
use Rattle.sl_run.specs.declared.event.Event.{Event}
use Rattle.sl_run.specs.declared.header.Header.{Header}
use Rattle.sl_run_law.proofs.Course.OneMachineChanges.{changed_here}
use Rattle.sl_run_law.proofs.Course.Daemons.{step_daemon}
use Rattle.sl_run_law.proofs.Course.DaemonsOfWorld.{last_goes}
use Rattle.sl_run_law.proofs.Landing.OneEvent.{step_landings}
use Rattle.sl_run_law.proofs.Front.RunsFromFronts.{one_step, run_after, run_rest}
use Rattle.sl_run_law.specs.Front.LawfulFronts.{HasOneStep}
use Rattle.sl_words.proofs.Options.{mapped_value, then_value}
use Rattle.sl_trace.specs.Traces.{same_place}
use Rattle.sl_trace.specs.declared.effects.Effects.{Effects}
use Rattle.sl_trace.specs.declared.effects.Op.TheVariants.{ReadSectors, WriteRecord}
use Rattle.sl_trace.specs.declared.effects.Op.{Op}
use Rattle.sl_trace.specs.declared.input.Answer.TheVariants.{Read, Written}
use Rattle.sl_trace.specs.declared.input.Input.TheVariants.{Answer as Told, Line}
use Rattle.sl_trace.specs.declared.input.Input.{Input}
use Rattle.sl_run.specs.Refusals.{sectors_left}
use Rattle.sl_words.proofs.CaseLaws.{none_some, true_is_false}
use Rattle.std.proofs.Common.{ap, refl, sym, ◌∙◌}
use Rattle.std.specs.Prelude.{Bool, List, None, Some, [], false, find, option_map, true, ℕ, ◌++◌, ◌+◌, ◌∷◌, ◌≡◌}

-- ---- a line changes nothing before its step

abbrev is_line : Input → Bool
is_line (Line text) = true
is_line i = false

no_line : {P : Type 0} (i : Input) (text : List ℕ) → is_line i ≡ false → i ≡ Line text → P
no_line i text none is = absurd (true_is_false (sym (ap (λ j. is_line j) is) ∙ none))

done_no_line : (w : World) (f : Course) (o : Op) → f.call.op ≡ o → is_line (done_input w f) ≡ false
done_no_line w f (ReadSectors n) is =
    ap (λ z. is_line (elim z as (λ y. Input) [ ReadSectors n ↦ Told f.call.number (Read (rest_sampled w f (sectors_left f))) | WriteRecord r ↦ Told f.call.number Written ])) is
done_no_line w f (WriteRecord r) is =
    ap (λ z. is_line (elim z as (λ y. Input) [ ReadSectors n ↦ Told f.call.number (Read (rest_sampled w f (sectors_left f))) | WriteRecord r ↦ Told f.call.number Written ])) is

changes_none : (w : World) (e : Event) (a : Machine) (text : List ℕ) → input_at w e a ≡ Some (Line text) → first_change e w ≡ w
unfolding first_change
changes_none w (GiveCommand m line) a text is = refl
changes_none w (GiveAsk m) a text is = refl
changes_none w (ExitOf m q) a text is = refl
changes_none w (WakeUp m) a text is = refl
changes_none w (GiveLvm m line) a text is = refl
changes_none w (AnswerCall m c ok) a text is = refl
changes_none w (SpawnedOf m q ok) a text is = refl
changes_none w (Do m c) a text is = let f = mapped_value (done_input w) (flight_of a c) (Line text) is in no_line (done_input w f.0) text (done_no_line w f.0 (f.0).call.op refl) f.2
changes_none w (Pass d growths) a text is = absurd (none_some (Line text) is)
changes_none w (Sample m c k) a text is = absurd (none_some (Line text) is)
changes_none w (Land m c) a text is = absurd (none_some (Line text) is)
changes_none w (Tear m c k bytes) a text is = absurd (none_some (Line text) is)
changes_none w (DropWrite m c) a text is = absurd (none_some (Line text) is)
changes_none w (Test m) a text is = absurd (none_some (Line text) is)
changes_none w (StartDaemon m name) a text is = absurd (none_some (Line text) is)
changes_none w (Crash m) a text is = absurd (none_some (Line text) is)
changes_none w (Reset m) a text is = absurd (none_some (Line text) is)
changes_none w (Restart m) a text is = absurd (none_some (Line text) is)

-- ---- the step

pub record LineTaken (w v : World) (m : ℕ) (a : Machine) (d : Daemon) (text : List ℕ) : Type 0 where
  pub machine : Machine
  pub effects : Effects
  pub stamp : Stamp
  pub at : machine_at v m ≡ Some machine
  pub reading : reading_now machine ≡ reading_now a
  pub runs : machine.daemon ≡ Some (with_entry (record { reading = reading_now a; input = Line text; effects = effects }) stamp d)
  pub late : stamp.step ≡ w.step + 1
  pub landings : v.landings ≡ w.landings
  pub layout : v.layout ≡ w.layout
  pub contents : (path : List ℕ) (offset : ℕ) → content v path offset ≡ content w path offset

pub line_taken : (p : Program) (h : Header) (now : List Happening) (x : Happening) → LawfulRun p h (now ++ x ∷ []) → (m : ℕ) (a : Machine) (d : Daemon) (text : List ℕ) → machine_at (world_at p h now) m ≡ Some a → a.daemon ≡ Some d
    → machine_of x.0 ≡ m → input_of (world_at p h now) x.0 ≡ Some (Line text) → LineTaken (world_at p h now) (world_at p h (now ++ x ∷ [])) m a d text
line_taken p h now x run m a d text at runs same given =
    record {
      machine = after_step stamp (Line text) fx a;
      effects = fx;
      stamp = stamp;
      at = ap (λ y. machine_at y m) after ∙ changed_here (next_step w) m (λ b. after_step (stamp_now (next_step w) b) (Line text) fx b) a at;
      reading = refl;
      runs = step_daemon stamp (Line text) fx a ∙ ap (λ o. option_map (with_entry (record { reading = reading_now a; input = Line text; effects = fx }) stamp) o) runs;
      late = refl;
      landings = landed;
      layout = (last_goes p h now x).layout;
      contents = stood v.landings w.landings v.layout w.layout v.header w.header landed (last_goes p h now x).layout (last_goes p h now x).header;
    } where
      w : World
      w = world_at p h now

      v : World
      v = world_at p h (now ++ x ∷ [])

      last : IsRun w (x ∷ [])
      last = run_rest (world_with p h) now (x ∷ []) run.is_run

      one : HasOneStep w x.0 x.1
      one = one_step w x.0 x.1 last.1

      fx : Effects
      fx = one.effects

      stamp : Stamp
      stamp = stamp_now (next_step w) a

      unchanged : first_change x.0 w ≡ w
      unchanged = let b = then_value (input_at w x.0) (machine_at w (machine_of x.0)) (Line text) given in changes_none w x.0 b.0 text b.2

      after : v ≡ take_step m (Some (Line text)) fx (next_step w)
      after =
          run_after (world_with p h) now (x ∷ []) ∙ (ap (λ fxs. happens w x.0 fxs) one.one
          ∙ (ap (λ o. take_step (machine_of x.0) o fx (next_step (first_change x.0 w))) given ∙ (ap (λ n. take_step n (Some (Line text)) fx (next_step (first_change x.0 w))) same
          ∙ ap (λ y. take_step m (Some (Line text)) fx (next_step y)) unchanged)))

      landed : v.landings ≡ w.landings
      landed = ap (λ (y : World). y.landings) after ∙ step_landings m (Some (Line text)) fx (next_step w)

      stood : (ls ks : List Landing) (g k : Layout) (y z : Header) → ls ≡ ks → g ≡ k → y ≡ z → (path : List ℕ) (offset : ℕ)
          → elim (find (λ (l : Landing). same_place l.path l.offset path offset) ls) as (λ o. List ℕ) [ Some l ↦ l.bytes | None ↦ initial_bytes g y path offset ]
          ≡ elim (find (λ (l : Landing). same_place l.path l.offset path offset) ks) as (λ o. List ℕ) [ Some l ↦ l.bytes | None ↦ initial_bytes k z path offset ]
      stood ls ks g k y z lands layouts headers path offset =
          ap (λ n. elim (find (λ (l : Landing). same_place l.path l.offset path offset) n) as (λ o. List ℕ) [ Some l ↦ l.bytes | None ↦ initial_bytes g y path offset ]) lands
          ∙ (ap (λ n. elim (find (λ (l : Landing). same_place l.path l.offset path offset) ks) as (λ o. List ℕ) [ Some l ↦ l.bytes | None ↦ initial_bytes n y path offset ]) layouts
          ∙ ap (λ n. elim (find (λ (l : Landing). same_place l.path l.offset path offset) ks) as (λ o. List ℕ) [ Some l ↦ l.bytes | None ↦ initial_bytes k n path offset ]) headers)
