-- Calls of one session that work on a resource take turns: of two of them one was answered by the step at which the other was made.
use Rattle.sl_run.specs.Lawful.{Orderly}
use Rattle.sl_trace.specs.Traces.{Submitted, submitted}
use Rattle.sl_trace.specs.declared.effects.Call.{Call}
use Rattle.sl_trace.specs.declared.effects.Spot.{Spot}
use Rattle.sl_trace.specs.declared.session.Session.{Session}
use Rattle.sl_words.proofs.CaseLaws.{one_value}
use Rattle.std.proofs.Common.{ap, subst, sym, ◌∙◌}
use Rattle.std.specs.Prelude.{Contains, IsTrue, List, Some, ℕ, ◌++◌, ◌∷◌, ◌≡◌, ◌≤◌}
use Rattle.sl_safety.proofs.Resources.Calls.{IsWork, Newer, Older, Order, Same, one_sent, order}
use Rattle.sl_safety.proofs.Resources.StepsNameCalls.{IsTurn, turn_of}
use Rattle.sl_safety.specs.Resources.HistoryLaws.{spot_of_line}
use Rattle.sl_safety.specs.Resources.SentCalls.{Sent, all_sent, sender_of, step_of}
use Rattle.sl_run.specs.Runs.{Happening}
use Rattle.sl_run.specs.Safety.{LawfulRun, SessionId, world_at}
use Rattle.sl_run.specs.Worlds.{Course, Daemon, Machine, Program, Stamp, World, daemon_numbered, daemons_on, machine_at}
use Rattle.sl_run.specs.declared.header.Header.{Header}
use Rattle.sl_run.specs.declared.header.ResourceLine.{ResourceLine}
use Rattle.sl_run_law.specs.Course.CallStamps.{AnswersAgree, IsAnsweredAs, IsCourseOf}
use Rattle.sl_trace.specs.Leases.{is_on}
use Rattle.sl_run_law.specs.Leases.LeaseLaws.{WasAnsweredBy}
use Rattle.sl_run_law.proofs.Leases.TurnLaws.{one_at_a_time}
use Rattle.sl_run_law.proofs.Place.Daemons.{daemons_are_fine, stamp_order}

-- One that was made by the answer of another was made after it landed.
answered_first : (p : Program) (h : Header) (xs : List Happening) → LawfulRun p h xs → (m : ℕ) (a : Machine) (d : Daemon) → machine_at (world_at p h xs) m ≡ Some a
    → Contains (daemons_on a) d → (c e : Course) (q k : Submitted) → IsCourseOf d c q → IsCourseOf d e k → WasAnsweredBy k q → (s : Stamp) × (e.answered ≡ Some s) × (s.step ≤ c.made.step)
answered_first p h xs run m a d here has c e q k one two by =
    let told : IsAnsweredAs d e by.answer = subst (λ o. AnswersAgree d e o) by.answered two.answers in (
      told.stamp,
      told.answered,
      stamp_order (world_at p h xs).step d.stamps by.answer.at q.at told.stamp c.made (daemons_are_fine p h xs run m a d here has).stamps told.entry one.made by.by,
    )

turns : (d : Daemon) (a : Machine) (at : Spot) (c e : Course) (q k : Submitted) (s t : Session) → Orderly d.setting d.trace → IsTurn a d at c q s → IsTurn a d at e k t
    → q.call.session ≡ k.call.session → (newer between older : List Submitted) → submitted d.trace ≡ newer ++ q ∷ (between ++ k ∷ older) → WasAnsweredBy k q
turns d a at c e q k s t law one two same newer between older is =
    one_at_a_time d.setting d.trace law newer between older q k is same one.work one.area two.work two.area
    (subst (λ y. IsTrue (is_on d.setting.layout y k.call)) (sym one.spot) two.on)

-- The second of two calls of a session was made after the first was answered.
pub data Turns (x y : Sent) : Type 0 where
  One : x ≡ y → Turns x y
  First : (s : Stamp) → x.course.answered ≡ Some s → s.step ≤ step_of y → Turns x y
  Second : (s : Stamp) → y.course.answered ≡ Some s → s.step ≤ step_of x → Turns x y

turns_by : (p : Program) (h : Header) (xs : List Happening) → LawfulRun p h xs → (x y : Sent) → Contains (all_sent (world_at p h xs)) x → Contains (all_sent (world_at p h xs)) y
    → x.machine ≡ y.machine → (a : Machine) (d : Daemon) → machine_at (world_at p h xs) x.machine ≡ Some a → Contains (daemons_on a) d → Orderly d.setting d.trace → (at : Spot)
    → (q k : Submitted) (s t : Session) → IsTurn a d at x.course q s → IsTurn a d at y.course k t → q.call.session ≡ k.call.session → Order (submitted d.trace) q k → Turns x y
turns_by p h xs run x y this that machine a d here has law at q k s t one two same (Same is) =
    One (one_sent p h xs run x y this that machine (ap (λ (c : Call). c.number) (sym one.is.call) ∙ ap (λ (m : Submitted). m.call.number) is ∙ ap (λ (c : Call). c.number) two.is.call))
turns_by p h xs run x y this that machine a d here has law at q k s t one two same (Newer newer between older is) =
    let r = answered_first p h xs run x.machine a d here has x.course y.course q k one.is two.is
    (turns d a at x.course y.course q k s t law one two same newer between older is) in
    Second r.0 r.1 r.2
turns_by p h xs run x y this that machine a d here has law at q k s t one two same (Older newer between older is) =
    let r = answered_first p h xs run x.machine a d here has y.course x.course k q two.is one.is
    (turns d a at y.course x.course k q t s law two one (sym same) newer between older is) in
    First r.0 r.1 r.2

-- Calls that work for one session on a resource take turns.
pub turns_of : (p : Program) (h : Header) (xs : List Happening) → LawfulRun p h xs → (r : ResourceLine) → Contains h.resources r → (x y : Sent)
    → Contains (all_sent (world_at p h xs)) x → Contains (all_sent (world_at p h xs)) y → IsWork (world_at p h xs) r x → IsWork (world_at p h xs) r y → sender_of x ≡ sender_of y → Turns x y
turns_of p h xs run r there x y this that one two same =
    let w : World = world_at p h xs in
    let a : Machine = one.owned.there.machine in
    let d : Daemon = one.owned.trace.daemon in
    let b : Machine = two.owned.there.machine in
    let e : Daemon = two.owned.trace.daemon in
    let number : x.machine ≡ y.machine = ap (λ (i : SessionId). i.machine) same in
    let machine : b ≡ a = one_value b a (machine_at w x.machine) (ap (machine_at w) number ∙ two.owned.there.at) one.owned.there.at in
    let numbered : daemon_numbered a y.course.daemon ≡ Some e = ap (λ z. daemon_numbered z y.course.daemon) (sym machine) ∙ two.owned.trace.numbered in
    let daemon : e ≡ d =
    one_value e d (daemon_numbered a y.course.daemon) numbered (ap (daemon_numbered a) (ap (λ (i : SessionId). i.daemon) (sym same)) ∙ one.owned.trace.numbered) in
    let turn : IsTurn a d (spot_of_line r) y.course two.owned.trace.submitted_as two.owned.session =
    subst (λ z. IsTurn a z (spot_of_line r) y.course two.owned.trace.submitted_as two.owned.session) daemon
    (subst (λ z. IsTurn z e (spot_of_line r) y.course two.owned.trace.submitted_as two.owned.session) machine (turn_of p h xs run r there y two)) in
    let first = turn_of p h xs run r there x one in
    let session : one.owned.trace.submitted_as.call.session ≡ two.owned.trace.submitted_as.call.session =
    ap (λ (c : Call). c.session) one.owned.trace.is.call ∙ ap (λ (i : SessionId). i.number) same ∙ ap (λ (c : Call). c.session) (sym two.owned.trace.is.call) in
    turns_by p h xs run x y this that number a d one.owned.there.at one.owned.trace.has one.owned.trace.lawful (spot_of_line r) one.owned.trace.submitted_as two.owned.trace.submitted_as
    one.owned.session two.owned.session first turn session (order (submitted d.trace) one.owned.trace.submitted_as two.owned.trace.submitted_as first.inside turn.inside)
