-- Values land in the order in which they were made: where a later one landed first the earlier one was in flight beside it.
use Rattle.sl_run_law.proofs.Course.CallsAreDistinct.{each_distinct}
use Rattle.sl_run_law.proofs.Front.RunsFromFronts.{fronts_are_lawful, run_after}
use Rattle.sl_run_law.proofs.Front.JoinedLists.{contains_right, placed_at}
use Rattle.sl_id_safety.proofs.FrontsOfSteps.{landed_before}
use Rattle.sl_run_law.proofs.Landing.CallLists.{one_call}
use Rattle.sl_run_law.proofs.Landing.LandingLaws.{writes_land_once}
use Rattle.sl_run_law.proofs.Landing.LandedRemain.{landed_are_there}
use Rattle.sl_words.proofs.Lists.{contains_cases, contains_none, find_inside}
use Rattle.sl_safety.proofs.Resources.OneSessionStands.{head_pairs, tail_pairs}
use Rattle.sl_safety.proofs.Resources.Calls.{IsThere, sent_there, Name, name_of}
use Rattle.sl_safety.proofs.Resources.StepsNameCalls.{write_is}
use Rattle.sl_safety.specs.Resources.SentCalls.{Sent, step_of}
use Rattle.sl_run.specs.Runs.{Happening}
use Rattle.sl_run.specs.Safety.{LawfulRun, world_at}
use Rattle.sl_run.specs.Worlds.{Course, Landed, Landing, Machine, Program, Stamp, World, is_in_flight, is_landed, is_of_running, is_open, is_write_course, machine_at, may_land, world_with}
use Rattle.sl_run.specs.declared.header.Header.{Header}
use Rattle.sl_run_law.proofs.WorldsGoOn.{run_goes}
use Rattle.sl_sector.specs.declared.sector.Rec.TheVariants.{ValueIs}
use Rattle.sl_sector.specs.declared.sector.ValueRec.{ValueRec}
use Rattle.sl_safety.proofs.Sessions.OrderedFronts.{front_order}
use Rattle.sl_safety.proofs.Sessions.OverLandsNothing.{WasInFlight, was_in_flight}
use Rattle.sl_trace.specs.Traces.{record_of}
use Rattle.sl_trace.specs.declared.effects.Call.{Call}
use Rattle.sl_trace.specs.declared.effects.Spot.{Spot}
use Rattle.sl_safety.proofs.Value.WritesAreBarred.{write_there}
use Rattle.sl_safety.proofs.Value.CallsCome.{Comes, WasThere, calls_come}
use Rattle.sl_safety.proofs.Value.ValuesLand.{SetLanded, SetSent}
use Rattle.sl_safety.proofs.Value.WritersNotOver.{none_by}
use Rattle.sl_safety.specs.Value.ValueWrites.{OneWritesValue}
use Rattle.sl_words.proofs.CaseLaws.{one_value, some_value, true_or_false}
use Rattle.sl_words.proofs.WordLaws.{and_true}
use Rattle.std.proofs.Common.{ap, arith, inl, inr, refl, subst, sym, ◌∙◌}
use Rattle.std.proofs.lemmas.Bool.{and_from, eq-eqb}
use Rattle.std.specs.Prelude.{AllPairs, Bool, Contains, List, None, Some, [], false, is_none, true, ℕ, ◌&&◌, ◌++◌, ◌+◌, ◌<◌, ◌==◌, ◌||◌, ◌∷◌, ◌≡◌, ◌≤◌, ◌⊎◌}

-- ---- the front before a landing

-- A set right before it landed.
pub record InFlight (p : Program) (h : Header) (xs : List Happening) (y : Sent) (l : Landing) : Type 0 where
  pub before : List Happening
  pub rest : List Happening
  pub whole : xs ≡ before ++ rest
  pub run : LawfulRun p h before
  pub step : (world_at p h before).step ≡ l.step
  pub was : WasThere (world_at p h before) y.machine y.course
  pub opens : is_open was.machine was.course ≡ true

open_by : (p : Program) (h : Header) (xs : List Happening) (y : Sent) (l : Landing) → l.writer ≡ Some (name_of y) → (q : WasInFlight p h xs l) → LawfulRun p h q.before
    → (b : WasThere (world_at p h q.before) y.machine y.course) → is_open b.machine b.course ≡ true
open_by p h xs y l writer q run b =
    let w : World = world_at p h q.before in
    let its : Name = (q.machine, q.flight.call.number) in
    let names : its ≡ name_of y = some_value its (name_of y) (sym q.writer ∙ writer) in
    let host : q.host ≡ b.machine = one_value q.host b.machine (machine_at w y.machine) (ap (λ (n : Name). machine_at w n.0) (sym names) ∙ q.at) b.at in
    let found = find_inside (λ (c : Course). c.call.number == q.number && is_open q.host c) q.host.calls q.flight q.flies in
    let opens = (and_true (q.flight.call.number == q.number) (is_open q.host q.flight) found.1).1 in
    let same : q.flight ≡ b.course =
    one_call b.machine.calls q.flight b.course (each_distinct p h q.before run y.machine b.machine b.at) (subst (λ (a : Machine). Contains a.calls q.flight) host found.0) b.has
    (eq-eqb q.flight.call.number b.course.call.number (ap (λ (n : Name). n.1) names ∙ ap (λ (c : Call). c.number) b.call)) in
    subst (λ (c : Course). is_open b.machine c ≡ true) same (subst (λ (a : Machine). is_open a q.flight ≡ true) host opens)

not_both : (a b : ℕ) → a < b → b < a → ⊥
not_both a b h k = omega (arith, h, k)

earlier : (a l s : ℕ) → a < l → l ≡ s → a < s
earlier a l s h e = omega (arith, h, e)

pub in_flight : (p : Program) (h : Header) (xs : List Happening) → LawfulRun p h xs → (at : Spot) (y : Sent) (u : ValueRec) → SetSent (world_at p h xs) at y u → (l : Landing)
    → SetLanded (world_at p h xs) at y l → InFlight p h xs y l
in_flight p h xs run at y u sent l landed =
    let q = was_in_flight p h xs run l landed.there in
    let front : LawfulRun p h (q.before ++ q.rest) = subst (λ ys. LawfulRun p h ys) q.whole run in
    let before : LawfulRun p h q.before = fronts_are_lawful p h q.before q.rest front in
    let comes : Comes (world_at p h q.before) (world_at p h xs) = subst (λ ys. Comes (world_at p h q.before) (world_at p h ys)) (sym q.whole) (calls_come p h q.before q.rest front) in
    let there : IsThere (world_at p h xs) y = sent_there (world_at p h xs) y sent.sent in
    elim (comes y.machine there.machine y.course there.at there.has) as (λ z. InFlight p h xs y l) [
      | inl b ↦ record { before = q.before; rest = q.rest; whole = q.whole; run = before; step = sym q.now; was = b; opens = open_by p h xs y l landed.writer q before b }
      | inr late ↦ absurd (not_both (step_of y) (world_at p h q.before).step (earlier (step_of y) l.step (world_at p h q.before).step landed.after q.now) late)
    ]

-- ---- a write lands once

abbrev Apart : Landing → Landing → Type 0
Apart l k = l.writer ≡ k.writer → ⊥

left_by : (x : Landing) (ls : List Landing) (l m : Landing) → AllPairs Apart (x ∷ ls) → l.writer ≡ m.writer → (Contains ls l → Contains ls m → l ≡ m) → (x ≡ l) ⊎ Contains ls l
    → (x ≡ m) ⊎ Contains ls m → l ≡ m
left_by x ls l m all same rest (inl a) (inl b) = sym a ∙ b
left_by x ls l m all same rest (inl a) (inr b) =
    let i = placed_at ls m b in absurd (head_pairs Apart x ls i.0 m all i.1 (ap (λ (y : Landing). y.writer) a ∙ same))
left_by x ls l m all same rest (inr a) (inl b) =
    let i = placed_at ls l a in absurd (head_pairs Apart x ls i.0 l all i.1 (ap (λ (y : Landing). y.writer) b ∙ sym same))
left_by x ls l m all same rest (inr a) (inr b) = rest a b

-- Landings of one writer are one.
pub one_left : (ls : List Landing) (l m : Landing) → AllPairs Apart ls → Contains ls l → Contains ls m → l.writer ≡ m.writer → l ≡ m
one_left [] l m all has too same = absurd (contains_none l has)
one_left (x ∷ ls) l m all has too same =
    left_by x ls l m all same (λ a b. one_left ls l m (tail_pairs Apart x ls all) a b same) (contains_cases x ls l has) (contains_cases x ls m too)

landed_later : (p : Program) (h : Header) (now rest : List Happening) (l : Landing) → Contains (world_at p h now).landings l → Contains (world_at p h (now ++ rest)).landings l
landed_later p h now rest l there =
    let grown = (run_goes (world_at p h now) rest).landings in
    subst (λ (w : World). Contains w.landings l) (sym (run_after (world_with p h) now rest))
    (subst (λ (ls : List Landing). Contains ls l) (sym grown.same) (contains_right grown.newer (world_at p h now).landings l there))

too_soon : (l m s k : ℕ) → l + 2 ≤ s → s ≡ k → k < m → l ≡ m → ⊥
too_soon l m s k h e f g = omega (arith, h, e, f, g)

-- ---- in flight at an earlier front

or_right : (a b : Bool) → b ≡ true → (a || b) ≡ true
or_right true b h = refl
or_right false b h = h

-- What lands whole later, and has no answer, is in flight.
flew : (p : Program) (h : Header) (xs now rest : List Happening) → LawfulRun p h xs → xs ≡ now ++ rest → LawfulRun p h now → (at : Spot) (x : Sent) (m : Landing) → SetLanded (world_at p h xs) at x m
    → (world_at p h now).step < m.step → (c : Course) → x.course.call ≡ c.call → (is_in_flight c.fate ≡ false → x.course.fate ≡ c.fate) → x.course.fate ≡ Landed
    → (e : WasThere (world_at p h now) x.machine c) → c.answered ≡ None → is_write_course e.course ≡ true → is_open e.machine e.course ≡ true
flew p h xs now rest run whole front at x m landed late c call settled fate e none writes =
    let waits : e.course.answered ≡ None = e.opened none in
    let unmet : is_none e.course.answered ≡ true = ap (λ o. is_none o) waits in
    elim (true_or_false (is_in_flight e.course.fate)) as (λ z. is_open e.machine e.course ≡ true) [
      | inl flies ↦
          and_from (is_none e.course.answered) (is_of_running e.machine e.course || may_land e.course) unmet
          (or_right (is_of_running e.machine e.course) (may_land e.course)
          (and_from (is_write_course e.course && is_none e.course.answered) (is_in_flight e.course.fate) (and_from (is_write_course e.course) (is_none e.course.answered) writes unmet) flies))
      | inr done ↦
          let mid : c.fate ≡ e.course.fate = e.settled done in
          let is : x.course.fate ≡ e.course.fate = settled (ap (λ f. is_in_flight f) mid ∙ done) ∙ mid in
          let k = landed_are_there p h now front x.machine e.machine e.course e.at e.has (ap (λ f. is_landed f) (sym is ∙ fate)) in
          let there : Contains (world_at p h xs).landings k.0 = subst (λ ys. Contains (world_at p h ys).landings k.0) (sym whole) (landed_later p h now rest k.0 k.1) in
          let number : e.course.call.number ≡ x.course.call.number = ap (λ (y : Call). y.number) (sym (call ∙ e.call)) in
          let same : k.0 ≡ m =
          one_left (world_at p h xs).landings k.0 m (writes_land_once p h xs run) there landed.there (k.2 ∙ ap (λ n. Some (x.machine, n)) number ∙ sym landed.writer) in
          absurd (too_soon k.0.step m.step (world_at p h now).step (world_at p h now).step (landed_before p h now front k.0 k.1) refl late (ap (λ (y : Landing). y.step) same))
    ]

at_most : (a b l m : ℕ) → a ≡ l → b ≡ m → l < m → a ≤ b
at_most a b l m e f h = omega (arith, e, f, h)

before_it : (a l m : ℕ) → a ≡ l → l < m → a < m
before_it a l m e h = omega (arith, e, h)

never_late : (s c x y l : ℕ) → s < c → c ≡ x → x < y → y < l → s ≡ l → ⊥
never_late s c x y l h e f g k = omega (arith, h, e, f, g, k)

not_same : (x y : ℕ) → x < y → y ≡ x → ⊥
not_same x y h e = omega (arith, h, e)

-- One that landed before another was not made after it.
pub lands_in_order : OneWritesValue → (p : Program) (h : Header) (xs : List Happening) → LawfulRun p h xs → (at : Spot) (y x : Sent) (u v : ValueRec) → SetSent (world_at p h xs) at y u
    → SetSent (world_at p h xs) at x v → (l m : Landing) → SetLanded (world_at p h xs) at y l → SetLanded (world_at p h xs) at x m → x.course.fate ≡ Landed → l.step < m.step
    → step_of x < step_of y → ⊥
lands_in_order law p h xs run at y x u v first second l m here there fate lt turned =
    let a = in_flight p h xs run at y u first l here in
    let b = in_flight p h xs run at x v second m there in
    let w : World = world_at p h a.before in
    let mid = front_order (world_with p h) a.before a.rest b.before b.rest (sym a.whole ∙ b.whole)
    (at_most w.step (world_at p h b.before).step l.step m.step a.step b.step lt) in
    let comes : Comes w (world_at p h b.before) =
    subst (λ ys. Comes w (world_at p h ys)) (sym mid.1) (calls_come p h a.before mid.0 (subst (λ ys. LawfulRun p h ys) mid.1 b.run)) in
    elim (comes x.machine b.was.machine b.was.course b.was.at b.was.has) as (λ z. ⊥) [
      | inr late ↦
          never_late w.step b.was.course.made.step (step_of x) (step_of y) l.step late (ap (λ (s : Stamp). s.step) (sym b.was.made)) turned here.after a.step
      | inl e ↦
          let c : Course = b.was.course in
          let z : Sent = record { machine = x.machine; course = c } in
          let none : c.answered ≡ None = none_by c.answered (and_true (is_none c.answered) (is_of_running b.was.machine c || may_land c) b.opens).0 in
          let says : record_of c.call.op ≡ Some (ValueIs v) = ap (λ (k : Call). record_of k.op) (sym b.was.call) ∙ second.says in
          let writes : is_write_course e.course ≡ true = write_is e.course.call.op (ValueIs v) (ap (λ (k : Call). record_of k.op) (sym e.call) ∙ says) in
          let opens = flew p h xs a.before a.rest run a.whole a.run at x m there (before_it w.step l.step m.step a.step lt) c b.was.call b.was.settled fate e none writes in
          let one = write_there p h xs a.before a.run at y u first.says first.path first.offset a.was a.opens in
          let two = write_there p h xs a.before a.run at z v says (ap (λ (k : Call). k.path) (sym b.was.call) ∙ second.path) (ap (λ (k : Call). k.offset) (sym b.was.call) ∙ second.offset) e opens in
          let same = law p h a.before a.run one.session two.session one.found two.found at a.was.course e.course one.writes two.writes in
          not_same (step_of x) (step_of y) turned (ap (λ (s : Stamp). s.step) (a.was.made ∙ ap (λ (k : Course). k.made) same.1 ∙ sym e.made ∙ sym b.was.made))
    ]
