-- A write that was answered ok has landed.
use Rattle.sl_run_law.specs.Course.CourseLaws.{CallsAreDistinct}
use Rattle.sl_run_law.proofs.Landing.OneArrival.{changed_here, flight_there}
use Rattle.sl_run_law.proofs.Landing.LandingGuards.{answer_lands, done_runs}
use Rattle.sl_run_law.proofs.Landing.CallLists.{one_call}
use Rattle.sl_run_law.proofs.Landing.CallsMadeBefore.{distinct_at, fate_kept}
use Rattle.sl_run_law.proofs.Landing.CallOwners.{EachOwns, Owns, running, run_owns}
use Rattle.sl_run_law.proofs.Landing.OneEvent.{world_first, world_keeps, world_then}
use Rattle.sl_run_law.proofs.Landing.InputNeedsDaemon.{input_here}
use Rattle.sl_run_law.proofs.Landing.CallsOfStep.{IsAnswered, IsMade, Step, came}
use Rattle.sl_run_law.proofs.Landing.CallsBeforeStep.{Turn, do_is, flight_number}
use Rattle.sl_run_law.specs.Landing.Landings.{DoneWritesHaveLanded}
use Rattle.sl_words.proofs.Lists.{contains_none, find_inside, in_map}
use Rattle.sl_words.proofs.Options.{then_value}
use Rattle.sl_run.specs.EventChanges.{add_landing, change_call, fated, first_change, land_whole, write_bytes}
use Rattle.sl_run.specs.Inputs.{done_input, if_running, input_at, input_of, machine_of, ok_input, rest_sampled}
use Rattle.sl_run.specs.Refusals.{may_happen, sectors_left}
use Rattle.sl_run.specs.Safety.{world_at}
use Rattle.sl_run.specs.Worlds.{Course, Daemon, Dropped, Fate, In_flight, Landed, Machine, Torn, World, change_machine, flight_of, is_in_flight, is_landed, is_of_running, is_open, is_torn_fate, is_write_course, machine_at, world_with}
use Rattle.sl_run.specs.declared.event.Event.TheVariants.{AnswerCall, Crash, Do, DropWrite, ExitOf, GiveAsk, GiveCommand, GiveLvm, Land, Pass, Reset, Restart, Sample, SpawnedOf, StartDaemon, Tear, Test, WakeUp}
use Rattle.sl_run.specs.declared.event.Event.{Event}
use Rattle.sl_run_law.proofs.Beginnings.{begins_new}
use Rattle.sl_run_law.proofs.CourseLists.{changed_if}
use Rattle.sl_run_law.specs.FatesStay.{AreDistinct, EachDistinct}
use Rattle.sl_trace.specs.Traces.{is_ok_answer, is_write}
use Rattle.sl_trace.specs.declared.effects.Call.{Call}
use Rattle.sl_trace.specs.declared.effects.Effects.{Effects}
use Rattle.sl_trace.specs.declared.effects.Op.TheVariants.{ReadSectors, WriteRecord}
use Rattle.sl_trace.specs.declared.effects.Op.{Op}
use Rattle.sl_trace.specs.declared.input.Answer.TheVariants.{Failed, Read, Written}
use Rattle.sl_trace.specs.declared.input.Input.TheVariants.{Answer as Told, Exit, Line, Number, Spawned, Wake}
use Rattle.sl_trace.specs.declared.input.Input.{Input}
use Rattle.sl_words.proofs.CaseLaws.{false_is_true, none_some, one_value, some_value, true_is_false}
use Rattle.sl_words.proofs.WordLaws.{choose_some, some_is_true}
use Rattle.sl_words.specs.Words.{choose}
use Rattle.std.proofs.Common.{ap, inl, inr, refl, subst, sym, ◌∙◌}
use Rattle.std.proofs.lemmas.Bool.{eq-eqb}
use Rattle.std.proofs.lemmas.Bool.Decides.{Decides-eqb}
use Rattle.std.specs.Option.{option_map_or}
use Rattle.std.specs.Prelude.{Bool, Contains, List, None, Option, Some, false, is_some, not, option_map, true, [], ℕ, ◌&&◌, ◌++◌, ◌==◌, ◌∷◌, ◌≡◌, ◌⊎◌}

-- ---- which event answers ok

-- The event answers the call in flight with this number: as it stands, or after what it needs is done.
pub record AnswersFlight (e : Event) (a : Machine) (n : ℕ) : Type 0 where
  pub number : ℕ
  pub flight : Course
  pub flies : flight_of a number ≡ Some flight
  pub told : flight.call.number ≡ n
  pub event : (e ≡ AnswerCall (machine_of e) number true) ⊎ (e ≡ Do (machine_of e) number)

-- The input answers the call with this number ok.
abbrev IsOk : Input → ℕ → Type 0
IsOk i n = elim i [ Told k answer ↦ (k ≡ n) × (is_ok_answer answer ≡ true) | _ ↦ ⊥ ]

ok_op : (o : Op) (x n : ℕ) (bytes : List ℕ) → IsOk (elim o as (λ y. Input) [ ReadSectors k ↦ Told x (Read bytes) | WriteRecord r ↦ Told x Written ]) n → x ≡ n
ok_op (ReadSectors k) x n bytes h = h.0
ok_op (WriteRecord r) x n bytes h = h.0

chosen : (b : Bool) (j i : Input) (n : ℕ) → choose b j ≡ Some i → IsOk i n → IsOk j n
chosen b j i n h t = subst (λ x. IsOk x n) (sym (choose_some b j i h).1) t

-- A flight that gives the input.
found_by : (g : Course → Input) (i : Input) (o : Option Course) → option_map g o ≡ Some i → (f : Course) × (o ≡ Some f) × (g f ≡ i)
found_by g i None h = absurd (none_some i h)
found_by g i (Some f) h = (f, refl, some_value (g f) i h)

answered_so : (m c : ℕ) (ok : Bool) (a : Machine) (f : Course) (n : ℕ) → flight_of a c ≡ Some f
    → IsOk (elim ok as (λ y. Input) [ true ↦ ok_input f | false ↦ Told c Failed ]) n → AnswersFlight (AnswerCall m c ok) a n
answered_so m c true a f n flies h = record { number = c; flight = f; flies = flies; told = ok_op f.call.op f.call.number n f.sampled h; event = inl refl }
answered_so m c false a f n flies h = absurd (false_is_true h.1)

answers_at : (e : Event) (w : World) (a : Machine) (i : Input) (n : ℕ) → input_at w e a ≡ Some i → IsOk i n → AnswersFlight e a n
answers_at (AnswerCall m c ok) w a i n h t =
    let p = found_by (λ f. elim ok as (λ y. Input) [ true ↦ ok_input f | false ↦ Told c Failed ]) i (flight_of a c) h in
    answered_so m c ok a p.0 n p.1 (subst (λ x. IsOk x n) (sym p.2) t)
answers_at (Do m c) w a i n h t =
    let p = found_by (done_input w) i (flight_of a c) h in
    record {
      number = c;
      flight = p.0;
      flies = p.1;
      told = ok_op p.0.call.op p.0.call.number n (rest_sampled w p.0 (sectors_left p.0)) (subst (λ x. IsOk x n) (sym p.2) t);
      event = inr refl;
    }
answers_at (WakeUp m) w a i n h t = absurd (chosen (is_some a.daemon) Wake i n h t)
answers_at (GiveCommand m text) w a i n h t = absurd (chosen (is_some a.daemon) (Line text) i n h t)
answers_at (GiveLvm m line) w a i n h t = absurd (chosen (is_some a.daemon) (Number line) i n h t)
answers_at (GiveAsk m) w a i n h t =
    let x = then_value (λ text. if_running a (Line text)) a.locks.due i h in absurd (chosen (is_some a.daemon) (Line x.0) i n x.2 t)
answers_at (ExitOf m p) w a i n h t = absurd (chosen (is_some a.daemon) (Exit p) i n h t)
answers_at (SpawnedOf m p ok) w a i n h t = absurd (chosen (is_some a.daemon) (Spawned p ok) i n h t)
answers_at (Pass x g) w a i n h t = absurd (none_some i h)
answers_at (Sample m c k) w a i n h t = absurd (none_some i h)
answers_at (Land m c) w a i n h t = absurd (none_some i h)
answers_at (Tear m c k bytes) w a i n h t = absurd (none_some i h)
answers_at (DropWrite m c) w a i n h t = absurd (none_some i h)
answers_at (Test m) w a i n h t = absurd (none_some i h)
answers_at (StartDaemon m name) w a i n h t = absurd (none_some i h)
answers_at (Crash m) w a i n h t = absurd (none_some i h)
answers_at (Reset m) w a i n h t = absurd (none_some i h)
answers_at (Restart m) w a i n h t = absurd (none_some i h)

-- ---- the answered write has landed

landed_fate : (c d : Course) → is_landed c.fate ≡ true → d.fate ≡ c.fate → is_landed d.fate ≡ true
landed_fate c d h same = ap is_landed same ∙ h

settled_if_landed : (x : Fate) → is_landed x ≡ true → is_in_flight x ≡ false
settled_if_landed In_flight h = absurd (false_is_true h)
settled_if_landed Landed h = refl
settled_if_landed Torn h = absurd (false_is_true h)
settled_if_landed Dropped h = absurd (false_is_true h)

-- What has landed stays so.
landed_kept : (w : World) (e : Event) (m : ℕ) (a : Machine) (c d : Course) → AreDistinct a.calls → Contains a.calls c → Turn w e m a c d → is_landed c.fate ≡ true
    → is_landed d.fate ≡ true
landed_kept w e m a c d distinct has t h = landed_fate c d h (fate_kept w e m a c d distinct has (settled_if_landed c.fate h) t)

guarded : (writes landed : Bool) → writes ≡ true → (true && writes && not landed) ≡ false → landed ≡ true
guarded true true w h = refl
guarded true false w h = absurd (true_is_false h)
guarded false landed w h = absurd (false_is_true w)

by_answer : (w : World) (e : Event) (m k : ℕ) (a : Machine) (f : Course) → may_happen w e ≡ true → e ≡ AnswerCall m k true → machine_at w m ≡ Some a
    → flight_of a k ≡ Some f → is_write_course f ≡ true → is_landed f.fate ≡ true
by_answer w e m k a f may is at flies writes =
    guarded (is_write_course f) (is_landed f.fate) writes (answer_lands w m k true a f (subst (λ x. may_happen w x ≡ true) is may) at flies)

-- Where the fate isn't in flight, nor torn, nor dropped, it has landed.
three_fates : (x : Fate) → is_in_flight x ≡ false → is_torn_fate x ≡ false → (x ≡ Dropped → ⊥) → is_landed x ≡ true
three_fates In_flight h t d = absurd (true_is_false h)
three_fates Landed h t d = refl
three_fates Torn h t d = absurd (true_is_false t)
three_fates Dropped h t d = absurd (d refl)

running_is : (a : Machine) (c : Course) → is_of_running a c ≡ true → (k : ℕ) × (running a ≡ Some k) × (k ≡ c.daemon)
running_is a c h =
    let p = some_is_true (λ (d : Daemon). d.number == c.daemon) a.daemon h in
    (p.0.number, ap (λ (o : Option Daemon). option_map (λ (d : Daemon). d.number) o) p.1, (Decides-eqb p.0.number c.daemon).0 p.2)

not_dropped : (a : Machine) (f : Course) → Owns a → Contains a.calls f → is_of_running a f ≡ true → f.fate ≡ Dropped → ⊥
not_dropped a f o has runs drop = let p = running_is a f runs in o.dropped f has drop p.0 p.1 p.2

changed_fate : (c : Course) (t : Bool) → t ≡ true → (changed_if t (fated Landed) c).fate ≡ Landed
changed_fate c true h = refl
changed_fate c false h = absurd (false_is_true h)

same_call_changed : (t : Bool) (c : Course) → (changed_if t (fated Landed) c).call ≡ c.call
same_call_changed true c = refl
same_call_changed false c = refl

-- Each call with the number has landed then.
all_landed : (n : ℕ) (a : Machine) (d : Course) → Contains (change_call n (fated Landed) a).calls d → d.call.number ≡ n → is_landed d.fate ≡ true
all_landed n a d has number =
    let p = in_map (λ c. changed_if (c.call.number == n) (fated Landed) c) a.calls d has in
    let same : p.0.call ≡ d.call = sym (same_call_changed (p.0.call.number == n) p.0) ∙ ap (λ (c : Course). c.call) p.2 in
    let test = eq-eqb p.0.call.number n (ap (λ (c : Call). c.number) same ∙ number) in
    ap is_landed (sym (ap (λ (c : Course). c.fate) p.2) ∙ changed_fate p.0 (p.0.call.number == n) test)

lands_here : (w : World) (m n : ℕ) (a : Machine) (f : Course) → machine_at w m ≡ Some a → flight_of a n ≡ Some f
    → machine_at (land_whole m n w) m ≡ Some (change_call n (fated Landed) a)
lands_here w m n a f at flies =
    ap (λ o. machine_at (option_map_or (λ (x : Course). change_machine m (change_call n (fated Landed)) (add_landing m x.call true (write_bytes w x.call) w)) o w) m)
    (flight_there w m n a f at flies)
    ∙ changed_here m (change_call n (fated Landed)) (add_landing m f.call true (write_bytes w f.call) w) a at

-- The event does what the flight needs.
by_doing : (w : World) (e : Event) (m k : ℕ) (a x : Machine) (f c d : Course) (t : Bool) → may_happen w e ≡ true → e ≡ Do m k → Owns a → AreDistinct a.calls
    → machine_at w m ≡ Some a → machine_at (first_change e w) m ≡ Some x → flight_of a k ≡ Some f → is_write_course f ≡ true → c ≡ f → Contains a.calls c
    → Contains x.calls d → Turn w e m a c d → is_in_flight f.fate ≡ t → is_landed d.fate ≡ true
by_doing w e m k a x f c d true may is owns distinct at there flies writes same has inside t flying =
    let first : machine_at (first_change e w) m ≡ Some (change_call k (fated Landed) a) =
    ap (λ v. machine_at v m) (do_is w m k a f e is at flies writes flying) ∙ lands_here w m k a f at flies in
    let turned : x ≡ change_call k (fated Landed) a = one_value x (change_call k (fated Landed) a) (machine_at (first_change e w) m) there first in
    all_landed k a d (subst (λ (y : Machine). Contains y.calls d) turned inside)
    (ap (λ (y : Call). y.number) t.call ∙ (ap (λ (y : Course). y.call.number) same ∙ flight_number a k f flies))
by_doing w e m k a x f c d false may is owns distinct at there flies writes same has inside t flying =
    let guard = done_runs w m k a f (subst (λ y. may_happen w y ≡ true) is may) at flies in
    let mine = subst (Contains a.calls) same has in
    let landed = three_fates f.fate flying guard.1 (not_dropped a f owns mine guard.0) in
    landed_kept w e m a c d distinct has t (ap (λ (y : Course). is_landed y.fate) same ∙ landed)

answered_landed : (w : World) (e : Event) (m : ℕ) (a x : Machine) (c d : Course) → may_happen w e ≡ true → Owns a → AreDistinct a.calls → m ≡ machine_of e
    → machine_at w m ≡ Some a → machine_at (first_change e w) m ≡ Some x → Contains a.calls c → Contains x.calls d → Turn w e m a c d → is_write_course c ≡ true
    → AnswersFlight e a c.call.number → is_landed d.fate ≡ true
answered_landed w e m a x c d may owns distinct here at there has inside t writes k =
    let found = find_inside (λ y. y.call.number == k.number && is_open a y) a.calls k.flight k.flies in
    let same : c ≡ k.flight = one_call a.calls c k.flight distinct has found.0 (eq-eqb c.call.number k.flight.call.number (sym k.told)) in
    let wrote = subst (λ y. is_write_course y ≡ true) same writes in
    elim k.event as (λ z. is_landed d.fate ≡ true) [
      | inl is ↦ landed_kept w e m a c d distinct has t
          (ap (λ (y : Course). is_landed y.fate) same
          ∙ by_answer w e m k.number a k.flight may (is ∙ ap (λ j. AnswerCall j k.number true) (sym here)) at k.flies wrote)
      | inr is ↦ by_doing w e m k.number a x k.flight c d (is_in_flight k.flight.fate) may (is ∙ ap (λ j. Do j k.number) (sym here)) owns distinct at there k.flies wrote
          same has inside t refl
    ]

-- ---- all calls

abbrev DoneLanded : World → Type 0
DoneLanded w = (m : ℕ) (a : Machine) (c : Course) → machine_at w m ≡ Some a → Contains a.calls c → c.done ≡ true → is_write_course c ≡ true → is_landed c.fate ≡ true

not_done : (v : World) (m : ℕ) (fx : Effects) (n : ℕ) (a : Machine) (d : Course) → IsMade v m fx n a d → d.done ≡ true → ⊥
not_done v m fx n a d made h = false_is_true (ap (λ (c : Course). c.done) made.is ∙ h)

write_too : (c d : Course) → d.call ≡ c.call → is_write_course d ≡ true → is_write_course c ≡ true
write_too c d same h = ap (λ (x : Call). is_write x.op) (sym same) ∙ h

-- A call that the step answers.
told_landed : (w : World) (e : Event) (m : ℕ) (a x : Machine) (c y d : Course) → may_happen w e ≡ true → Owns a → AreDistinct a.calls
    → machine_at w m ≡ Some a → machine_at (first_change e w) m ≡ Some x → Contains a.calls c → Contains x.calls y → Turn w e m a c y → is_write_course c ≡ true
    → d.done ≡ true → IsAnswered (world_first w e) (machine_of e) (input_of w e) m x y d → is_landed y.fate ≡ true
told_landed w e m a x c y d may owns distinct at there has inside t writes done k =
    let i : Input = Told y.call.number k.answer in
    let given : input_at w e a ≡ Some i = input_here w e a i (ap (machine_at w) (sym k.here) ∙ at) k.input in
    answered_landed w e m a x c y may owns distinct k.here at there has inside t writes
    (answers_at e w a i c.call.number given (ap (λ (z : Call). z.number) t.call, sym k.done ∙ done))

old_landed : (w : World) (e : Event) (m : ℕ) (a x : Machine) (c y d : Course) → may_happen w e ≡ true → Owns a → AreDistinct a.calls → DoneLanded w
    → machine_at w m ≡ Some a → machine_at (first_change e w) m ≡ Some x → Contains a.calls c → Contains x.calls y → Turn w e m a c y
    → Step (world_first w e) (machine_of e) (input_of w e) m x y d → d.done ≡ true → is_write_course d ≡ true → is_landed d.fate ≡ true
old_landed w e m a x c y d may owns distinct so at there has inside t s done writes =
    let wrote = write_too c d (s.call ∙ t.call) writes in
    landed_fate y d (elim s.answer as (λ z. is_landed y.fate ≡ true) [
      | inl same ↦ landed_kept w e m a c y distinct has t (so m a c at has (sym t.done ∙ (sym same.1 ∙ done)) wrote)
      | inr told ↦ told_landed w e m a x c y d may owns distinct at there has inside t wrote done told
    ]) s.fate

done_on : (w : World) (e : Event) (fx : Effects) → may_happen w e ≡ true → EachDistinct w → EachOwns w → DoneLanded w → DoneLanded (world_then w e fx)
done_on w e fx may distinct owns so m b d at has done writes =
    let from = came w e fx m b may at in
    let p = from.passage in
    elim (p.stepped.back d has) as (λ z. is_landed d.fate ≡ true) [
      | inl s ↦
          let t = p.turned.back s.0 s.1 in
          old_landed w e m from.before p.middle t.0 s.0 d may (owns m from.before from.at) (distinct m from.before from.at) so from.at p.between t.1 s.1 t.2 s.2 done writes
      | inr made ↦ absurd (not_done (world_first w e) (machine_of e) fx m p.middle d made done)
    ]

pub done_have_landed_given : CallsAreDistinct → DoneWritesHaveLanded
done_have_landed_given distinct p h xs run =
    world_keeps DoneLanded p h
    (λ m a c at has done. absurd (contains_none c (subst (λ cs. Contains cs c) (begins_new p h m a at).calls has)))
    (λ now x law l so.
    done_on (world_at p h now) x.0 l.effects l.may (distinct_at (world_with p h) now x (distinct p h (now ++ x ∷ []) law))
    (run_owns distinct p h now l.before) so) xs run
