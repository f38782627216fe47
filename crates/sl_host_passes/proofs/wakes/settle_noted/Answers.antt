use Rattle.sl_host_law.specs.StepParts.Signals.{over}
use Rattle.sl_host_law.specs.Steps.Passes.{at_member}
use Rattle.sl_host_law.specs.Steps.WakePasses.{settling_here}
use Rattle.sl_host_passes.proofs.RunsStay.{run_on, same_config, same_run}
use Rattle.sl_host_passes.proofs.SettlingCalls.{apart_settled, has_one, has_settled, known_settled, leases_settled, may_settle, settled_once}
use Rattle.sl_host_passes.proofs.WakingLessens.{wake_known}
use Rattle.sl_host_passes.proofs.wakes.settle_noted.Goals as goal
use Rattle.sl_host_passes.specs.PassPremises.{AreAreas}
use Rattle.sl_host_state.specs.KeptState.{state_of}
use Rattle.sl_host_work.proofs.ListPasses.{fewer_left, over_end, over_next}
use Rattle.sl_host_work.specs.SectorPlaces.{IsArea}
use Rattle.sl_words.proofs.Lists.{got_inside}
use Rattle.sl_trace.specs.declared.effects.Spot.{Spot}
use Rattle.sl_host.specs.BookQuestions.{state_in}
use Rattle.sl_host.specs.Host.{HostView, SameRun}
use Rattle.std.proofs.Common.{ap, arith, refl, subst, sym, ◌≡◌, ◌∙◌}
use Rattle.std.specs.Prelude.{Contains, List, drop, length}

-- the area stands at a base as the step has it
area_now : (first now : HostView) (ats : List Spot) (at : Spot) → SameRun first now → AreAreas first.kept.config.sizes ats → Contains ats at → IsArea now.kept.config.sizes at.base
area_now first now ats at run areas there = subst (λ c. IsArea c.sizes at.base) (sym (same_config first now run)) (areas at there)

pub loop-place-init : goal.loop-place-init
loop-place-init c = record {
  comes = λ read. refl;
  run = same_run c.args.host.now;
  known = c.requires.known;
  apart = c.apart.ensures;
  has = c.requires.has;
  same = λ n. refl;
  room = c.requires.left;
  spent = omega arith;
  calls = c.requires.calls;
  called = omega arith;
}

pub settle-requires-clause-left : goal.settle-requires-clause-left
settle-requires-clause-left c = let less = fewer_left c.args.spots.now.items c.loop-place.place c.nth.result.now c.nth.ensures in omega (arith, less, c.loop-place.invariant.room)

pub settle-requires-clause-calls : goal.settle-requires-clause-calls
settle-requires-clause-calls c = let less = fewer_left c.args.spots.now.items c.loop-place.place c.nth.result.now c.nth.ensures in omega (arith, less, c.loop-place.invariant.calls)

pub settle-requires-clause-moment : goal.settle-requires-clause-moment
settle-requires-clause-moment c = c.loop-place.invariant.known.now

pub settle-requires-clause-area : goal.settle-requires-clause-area
settle-requires-clause-area c =
    area_now c.args.host.now c.loop-place.host c.args.spots.now.items c.nth.result.now c.loop-place.invariant.run c.requires.areas (got_inside c.args.spots.now.items c.loop-place.place c.nth.result.now c.nth.ensures)

pub settle-requires-clause-may : goal.settle-requires-clause-may
settle-requires-clause-may c m found =
    let was = c.loop-place.invariant in
    let at = c.nth.result.now in
    let there = got_inside c.args.spots.now.items c.loop-place.place at c.nth.ensures in
    may_settle c.loop-place.host.kept c.args.number at m was.known (has_one c.args.number c.args.spots.now.items c.loop-place.host.kept.members at there was.has) found

pub loop-place-preserved : goal.loop-place-preserved
loop-place-preserved c =
    let was = c.loop-place.invariant in
    let done = c.settle.ensures in
    let n = c.args.number in
    let items = c.args.spots.now.items in
    let at = c.nth.result.now in
    let old = c.loop-place.host in
    let new = c.settle.new.host in
    let there = got_inside items c.loop-place.place at c.nth.ensures in
    let area = area_now c.args.host.now old items at was.run c.requires.areas there in
    let st = settled_once old new n at was.known (has_one n items old.kept.members at there was.has) area was.apart done.state in
    let less = fewer_left items c.loop-place.place at c.nth.ensures in
    record {
      comes = λ read. was.comes read ∙ over_next (λ s. at_member n (settling_here s)) items c.loop-place.place at (state_of read old.kept) (state_of read new.kept) c.nth.ensures (done.state read);
      run = run_on c.args.host.now old new was.run done.run;
      known = wake_known old new done.run (known_settled old.kept.config.sizes at n (state_in old.kept) (state_in new.kept) st area was.known.each) was.known;
      apart = apart_settled at n (state_in old.kept) (state_in new.kept) st was.apart;
      has = has_settled at n (state_in old.kept) (state_in new.kept) items st was.has;
      same = λ k. leases_settled at n (state_in old.kept) (state_in new.kept) st k ∙ was.same k;
      room = omega (arith, less, was.room, done.left.0);
      spent = omega (arith, less, was.room, was.spent, done.left.0);
      calls = omega (arith, less, was.calls, done.left.1);
      called = omega (arith, less, was.calls, was.called, done.left.1);
    }

pub returns-clause-state : goal.returns-clause-state
returns-clause-state c read =
    let n = c.args.number in
    let end : c.loop-place.place ≡ length c.args.spots.now.items = omega (arith, c.len-place-end.ensures, c.loop-place-test.false, c.loop-place.auto.place-end) in
    sym (c.loop-place.invariant.comes read
    ∙ (ap (λ k. over (drop k c.args.spots.now.items) (λ s. at_member n (settling_here s)) (state_of read c.loop-place.host.kept)) end
    ∙ over_end (λ s. at_member n (settling_here s)) c.args.spots.now.items (state_of read c.loop-place.host.kept)))
