-- A write lands once: what lands now was in flight, and the writers of what landed before have their fates.
use Rattle.sl_run_law.specs.Course.CourseLaws.{CallsAreDistinct}
use Rattle.sl_run_law.proofs.Landing.OneArrival.{Arrival, Lands, first_lands}
use Rattle.sl_run_law.proofs.Landing.CallLists.{one_call, pairs_more, pairs_none}
use Rattle.sl_run_law.proofs.Landing.CallsMadeBefore.{distinct_at}
use Rattle.sl_run_law.proofs.Landing.OneEvent.{step_landings, world_first, world_keeps}
use Rattle.sl_run_law.proofs.Landing.Writers.{are_written_given, writer_settled}
use Rattle.sl_run_law.specs.Landing.Landings.{HasWriter, IsWrittenBy, WritesLandOnce}
use Rattle.sl_words.proofs.Lists.{find_inside}
use Rattle.sl_run.specs.EventChanges.{first_change}
use Rattle.sl_run.specs.Inputs.{input_of, machine_of}
use Rattle.sl_run.specs.Safety.{world_at}
use Rattle.sl_run.specs.Worlds.{Course, Landing, Machine, World, is_in_flight, is_open, machine_at, world_with}
use Rattle.sl_run.specs.declared.event.Event.{Event}
use Rattle.sl_run_law.specs.FatesStay.{EachDistinct}
use Rattle.sl_words.proofs.CaseLaws.{not_both, one_value, some_value}
use Rattle.std.proofs.Common.{ap, inl, inr, subst, sym, ◌∙◌}
use Rattle.std.proofs.lemmas.Bool.{eq-eqb}
use Rattle.std.specs.Prelude.{AllPairs, Contains, List, [], ℕ, ◌&&◌, ◌++◌, ◌==◌, ◌∷◌, ◌≡◌}

abbrev OtherWriters : List Landing → Type 0
OtherWriters ls = AllPairs (λ l k. l.writer ≡ k.writer → ⊥) ls

abbrev named : ℕ → ℕ → ℕ × ℕ
named m n = (m, n)

same_machine : (m n x y : ℕ) → named m n ≡ named x y → m ≡ x
same_machine m n x y h = ap (λ (p : ℕ × ℕ). p.0) h

same_call : (m n x y : ℕ) → named m n ≡ named x y → n ≡ y
same_call m n x y h = ap (λ (p : ℕ × ℕ). p.1) h

-- The writer of an older landing isn't in flight.
not_again : (w v : World) (a : Arrival w v) (k : Landing) (m n : ℕ) → EachDistinct w → IsWrittenBy w k m n → a.machine ≡ m → a.flight.call.number ≡ n → ⊥
not_again w v a k m n distinct by machine number =
    let host : by.machine ≡ a.host = one_value by.machine a.host (machine_at w m) by.at (ap (machine_at w) (sym machine) ∙ a.at) in
    let has = subst (λ (x : Machine). Contains x.calls by.course) host by.has in
    let inside = (find_inside (λ c. c.call.number == a.number && is_open a.host c) a.host.calls a.flight a.flies).0 in
    let same : by.course ≡ a.flight = one_call a.host.calls by.course a.flight (distinct a.machine a.host a.at) has inside
    (eq-eqb by.course.call.number a.flight.call.number (by.number ∙ sym number)) in
    not_both (is_in_flight by.course.fate) (ap (λ (c : Course). is_in_flight c.fate) same ∙ a.waits) (writer_settled w k by.course by.record_written by.left)

other_writer : (w v : World) (a : Arrival w v) (k : Landing) → EachDistinct w → HasWriter w k → a.landing.writer ≡ k.writer → ⊥
other_writer w v a k distinct h same =
    let one = some_value (named a.machine a.flight.call.number) (named h.machine h.call) (sym a.writer ∙ (same ∙ h.named)) in
    not_again w v a k h.machine h.call distinct h.wrote (same_machine a.machine a.flight.call.number h.machine h.call one)
    (same_call a.machine a.flight.call.number h.machine h.call one)

once_by : (w : World) (e : Event) → EachDistinct w → ((l : Landing) → Contains w.landings l → HasWriter w l) → OtherWriters w.landings
    → Lands w (first_change e w) → OtherWriters (first_change e w).landings
once_by w e distinct written so (inl same) = subst OtherWriters (sym same) so
once_by w e distinct written so (inr a) =
    subst OtherWriters (sym a.same)
    (pairs_more (λ (l k : Landing). l.writer ≡ k.writer → ⊥) a.landing w.landings (λ k h. other_writer w (first_change e w) a k distinct (written k h)) so)

abbrev EachOnce : World → Type 0
EachOnce w = OtherWriters w.landings

pub land_once_given : CallsAreDistinct → WritesLandOnce
land_once_given distinct p h xs run =
    world_keeps EachOnce p h (pairs_none (λ (l k : Landing). l.writer ≡ k.writer → ⊥))
    (λ now x law k so.
    let w : World = world_at p h now in
    subst OtherWriters (sym (step_landings (machine_of x.0) (input_of w x.0) k.effects (world_first w x.0)))
    (once_by w x.0 (distinct_at (world_with p h) now x (distinct p h (now ++ x ∷ []) law)) (are_written_given distinct p h now k.before) so (first_lands x.0 w k.may)))
    xs run
