-- The area stays calm, and one write at most is in flight there.
use Rattle.sl_area.specs.AreaSizes.{Layout}
use Rattle.sl_area.specs.AreaLayout.{in_area}
use Rattle.sl_words.proofs.Lists.{kept}
use Rattle.sl_words.proofs.Numbers.{number_itself, number_turned}
use Rattle.sl_words.proofs.Options.{none_is}
use Rattle.sl_headline.proofs.Quiet.Events.DaemonsRunOn.{daemons_run_on}
use Rattle.sl_headline.specs.Quiet.Events.DaemonsRunOn.{Rests, RunsAfter, RunsOn, Takes}
use Rattle.sl_run.specs.Headers.{IsHeader}
use Rattle.sl_run_law.proofs.Course.CallsAreDistinct.{running_has}
use Rattle.sl_run_law.proofs.Course.DaemonsOfWorld.{daemons_are_of_world, last_goes}
use Rattle.sl_run_law.proofs.Course.CoursesAreCalls.{courses_are_calls}
use Rattle.sl_run_law.proofs.Place.Areas.{base_aligned, base_around, resource_aligned, same_base}
use Rattle.sl_run_law.proofs.Place.FoundInLists.{partner, same_text}
use Rattle.sl_run_law.proofs.Place.Seats.{sized_in}
use Rattle.sl_run_law.proofs.Place.Sizes.{IsSized}
use Rattle.sl_run_law.specs.Course.CallStamps.{AnswersAgree, IsCourseOf, courses_of}
use Rattle.sl_trace.specs.Traces.{Answered, Submitted, is_write, submitted}
use Rattle.sl_trace.specs.declared.effects.Call.{Call}
use Rattle.sl_words.proofs.CaseLaws.{none_some, one_value, true_is_false}
use Rattle.sl_words.specs.Words.{some_is}
use Rattle.std.proofs.lemmas.Bool.{eqb-true}
use Rattle.sl_due_law.proofs.LawfulTraces.TracesHold.{traces_hold}
use Rattle.sl_safety.specs.Resources.HistoryLaws.{spot_of_line}
use Rattle.sl_run.specs.LawfulArea.{is_area_work}
use Rattle.sl_trace.specs.Leases.{is_on, spot_of_call}
use Rattle.sl_headline.proofs.Quiet.Area.OpenCalls.{open_calls_go_on}
use Rattle.sl_headline.proofs.Quiet.Area.WritesAreWork.{writes_are_work}
use Rattle.sl_headline.specs.Quiet.Area.CalmAreas.{CalmGoesOn, IsMadeNow, IsWriteFor, OneWriteInFlight, WasOpen}
use Rattle.sl_run.specs.Safety.{world_at}
use Rattle.sl_run.specs.Worlds.{Course, Daemon, Machine, World, is_of_running, is_open, is_write_course, machine_at, may_land}
use Rattle.sl_run.specs.declared.header.Header.{Header}
use Rattle.sl_run.specs.declared.header.ResourceLine.{ResourceLine}
use Rattle.sl_words.proofs.WordLaws.{and_true, some_is_true}
use Rattle.std.proofs.Common.{ap, ap₂, inl, inr, refl, subst, sym, ◌∙◌}
use Rattle.std.specs.Prelude.{Bool, Contains, IsTrue, None, Option, Some, [], bytes_eq, false, is_none, true, ◌%◌, ◌&&◌, ◌++◌, ◌-◌, ◌==◌, ◌||◌, ◌∷◌, ◌≡◌, ◌⊎◌}

both_true : (b c : Bool) → b ≡ true → c ≡ true → (b && c) ≡ true
both_true b c is its = ap (λ t. t && c) is ∙ its

-- ---- the call in the daemon's trace

of_running : (a : Machine) (d : Daemon) (c : Course) → a.daemon ≡ Some d → is_of_running a c ≡ true → (c.daemon == d.number) ≡ true
of_running a d c runs is =
    let x = some_is_true (λ (y : Daemon). y.number == c.daemon) a.daemon is in
    let same : x.0 ≡ d = one_value x.0 d a.daemon x.1 runs in
    number_turned d.number c.daemon (ap (λ (y : Daemon). y.number == c.daemon) (sym same) ∙ x.2)

unanswered : (d : Daemon) (c : Course) (o : Option Answered) → AnswersAgree d c o → c.answered ≡ None → o ≡ None
unanswered d c None agree none = refl
unanswered d c (Some a) agree none = absurd (none_some agree.stamp (sym none ∙ agree.answered))

on_spot : (h : Header) (g : Layout) (r : ResourceLine) (m : Submitted) → IsHeader h → IsSized h.geometry g → Contains h.resources r → is_on g (spot_of_line r) m.call ≡ true → spot_of_call g m ≡ spot_of_line r
on_spot h g r m header z listed on =
    let both = and_true (bytes_eq m.call.path r.path) (in_area g r.offset m.call.offset) on in
    let base : m.call.offset - m.call.offset % g.area ≡ r.offset =
    same_base g (m.call.offset - m.call.offset % g.area) r.offset m.call.offset z (base_aligned g m.call.offset z) (resource_aligned h r header listed) (base_around g m.call.offset z) both.1 in
    ap₂ (λ y n. record { path = y; base = n }) (same_text m.call.path r.path both.0) base

pub one_write_in_flight : OneWriteInFlight
one_write_in_flight p h xs r run listed machine a d at runs setting host calm m there waits works on k b c here has is = (its.0, sym q.2.call ∙ ap (λ (y : Submitted). y.call) one) where
  w : World
  w = world_at p h xs

  its : (k ≡ machine) × (is_of_running b c ≡ true)
  its = calm k b c here has is

  parts : ((is_write_course c && is_open b c) ≡ true) × (is_on w.layout (spot_of_line r) c.call ≡ true)
  parts = and_true (is_write_course c && is_open b c) (is_on w.layout (spot_of_line r) c.call) is

  flies : (is_write_course c ≡ true) × (is_open b c ≡ true)
  flies = and_true (is_write_course c) (is_open b c) parts.0

  same : b ≡ a
  same = one_value b a (machine_at w machine) (subst (λ n. machine_at w n ≡ Some b) its.0 here) at

  inside : Contains a.calls c
  inside = subst (λ (y : Machine). Contains y.calls c) same has

  mine : (c.daemon == d.number) ≡ true
  mine = of_running a d c runs (subst (λ y. is_of_running y c ≡ true) same its.1)

  q : (q : Submitted) × Contains (submitted d.trace) q × IsCourseOf d c q
  q = partner (IsCourseOf d) (courses_of a d.number) (submitted d.trace) c (courses_are_calls p h xs run machine a d at (running_has a d runs)) (kept (λ (y : Course). y.daemon == d.number) a.calls c mine inside)

  layout : d.setting.layout ≡ w.layout
  layout = (daemons_are_of_world p h xs run machine a d at (running_has a d runs)).layout

  z : IsSized h.geometry w.layout
  z = sized_in p h xs run

  spots : spot_of_call d.setting.layout q.0 ≡ spot_of_call d.setting.layout m
  spots =
      subst (λ g. spot_of_call g q.0 ≡ spot_of_call g m) (sym layout)
      (on_spot h w.layout r q.0 run.header z listed (ap (λ y. is_on w.layout (spot_of_line r) y) q.2.call ∙ parts.1) ∙ sym (on_spot h w.layout r m run.header z listed on))

  working : IsWriteFor r b c
  working = writes_are_work p h xs r run listed k b c here has flies.0 parts.1

  open_there : q.0.answer ≡ None
  open_there = unanswered d c q.0.answer q.2.answers (none_is c.answered (and_true (is_none c.answered) (is_of_running b c || may_land c) flies.1).0)

  one : q.0 ≡ m
  one = (traces_hold d.setting d.trace setting host).whole.facts.turns.one q.0 m q.1 there (inl open_there) (inl waits) (subst (λ (y : Call). IsTrue (is_area_work y.purpose)) (sym q.2.call) working.works) works spots

-- ---- an event

pub calm_goes_on : CalmGoesOn
calm_goes_on p h now x run at machine a d here runs leaves calm k b c later has is = by (open_calls_go_on p h now x run k b c later has flies.1) where
  w : World
  w = world_at p h now

  v : World
  v = world_at p h (now ++ x ∷ [])

  layout : v.layout ≡ w.layout
  layout = (last_goes p h now x).layout

  parts : ((is_write_course c && is_open b c) ≡ true) × (is_on v.layout at c.call ≡ true)
  parts = and_true (is_write_course c && is_open b c) (is_on v.layout at c.call) is

  flies : (is_write_course c ≡ true) × (is_open b c ≡ true)
  flies = and_true (is_write_course c) (is_open b c) parts.0

  on : is_on w.layout at c.call ≡ true
  on = subst (λ g. is_on g at c.call ≡ true) layout parts.1

  after : RunsAfter w v x machine d
  after = daemons_run_on p h now x run machine a d here runs leaves.runs_on.0 leaves.runs_on.1

  still : RunsOn w x machine after.machine d after.daemon → after.daemon.number ≡ d.number
  still (Rests is why) = ap (λ (y : Daemon). y.number) is
  still (Takes i fx stamp same given step is) = ap (λ (y : Daemon). y.number) is

  old : (a' : Machine) → machine_at w k ≡ Some a' → WasOpen a' c → (k ≡ machine) × (is_of_running b c ≡ true)
  old a' at' was =
      let writes : is_write_course was.course ≡ true = ap (λ (y : Call). is_write y.op) was.call ∙ flies.0 in
      let its = calm k a' was.course at' was.has (both_true (is_write_course was.course && is_open a' was.course) (is_on w.layout at was.course.call)
      (both_true (is_write_course was.course) (is_open a' was.course) writes was.opens) (ap (λ y. is_on w.layout at y) was.call ∙ on)) in
      let same : a' ≡ a = one_value a' a (machine_at w machine) (subst (λ n. machine_at w n ≡ Some a') its.0 at') here in
      let mine : (was.course.daemon == d.number) ≡ true = of_running a d was.course runs (subst (λ y. is_of_running y was.course ≡ true) same its.1) in
      let there : b ≡ after.machine = one_value b after.machine (machine_at v machine) (subst (λ n. machine_at v n ≡ Some b) its.0 later) after.at in (
        its.0,
        subst (λ y. is_of_running y c ≡ true) (sym there)
            (ap (λ o. some_is (λ (y : Daemon). y.number == c.daemon) o) after.runs
            ∙ (ap (λ n. n == c.daemon) (still after.how) ∙ number_turned c.daemon d.number (ap (λ n. n == d.number) (sym was.daemon) ∙ mine))),
      )

  new : (t : Bool) → (k == machine) ≡ t → IsMadeNow w x k b c → (k ≡ machine) × (is_of_running b c ≡ true)
  new true same made = (eqb-true k machine same, made.runs)
  new false other made =
      absurd (leaves.others made.effects c.call made.step made.call (λ same. true_is_false (sym (ap (λ n. n == machine) (sym made.machine ∙ same) ∙ number_itself machine) ∙ other)) flies.0 on)

  by : ((a' : Machine) × (machine_at w k ≡ Some a') × WasOpen a' c) ⊎ IsMadeNow w x k b c → (k ≡ machine) × (is_of_running b c ≡ true)
  by (inl (a', at', was)) = old a' at' was
  by (inr made) = new (k == machine) refl made
