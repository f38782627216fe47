-- Each act keeps that the step so far follows those before it, so what is due does.
use Rattle.sl_due_facts.proofs.Acts.StepsKeep.{Fixed, due_is_of, step_keeps}
use Rattle.sl_due_facts.proofs.Acts.TracesKeep.{due_is_seen}
use Rattle.sl_due_facts.specs.Acts.TraceSoFar.{entry_of}
use Rattle.sl_due.specs.Due.{due, due_step}
use Rattle.sl_due.specs.Steps.{Step}
use Rattle.sl_due_law.proofs.LawfulTraces.AllIsKept.{all_begins, all_is_kept}
use Rattle.sl_due_law.proofs.LawfulTraces.TracesHold.{traces_hold}
use Rattle.sl_due_law.specs.LawfulTraces.CarriedFacts.{Kept}
use Rattle.sl_host_law.specs.Steps.StepsFollow.{entry_at}
use Rattle.sl_words.proofs.Lists.{head_is, tail_is}
use Rattle.sl_step_law.specs.DueFollows.{DueFollows, InputsCome}
use Rattle.sl_trace.specs.Traces.{FollowsTrace, no_effects}
use Rattle.sl_trace.specs.declared.effects.Entry.{Entry}
use Rattle.sl_trace.specs.declared.input.Input.TheVariants.{Wake}
use Rattle.std.proofs.Common.{refl, subst}
use Rattle.std.specs.Prelude.{ℕ, ◌∷◌, ◌≡◌}

-- An entry that does nothing yet.
abbrev begun_entry : ℕ → Entry
begun_entry now = record { reading = now; input = Wake; effects = no_effects }

pub due_follows : DueFollows
unfolding due
due_follows st es now i setting trace later below expected =
    let x : Step = due_step st es now i in
    let f : Fixed st es now x = due_is_of st es now i in
    let e : Entry = entry_at st es now i in
    let is : entry_of x ∷ x.past ≡ e ∷ es = due_is_seen st es e refl in
    let same : entry_of x ≡ e = head_is (entry_of x) e x.past es is in
    let past : x.past ≡ es = tail_is (entry_of x) e x.past es is in
    let kept : Kept x = step_keeps Kept all_is_kept st es now i expected (all_begins st es (begun_entry now) (record { time = later; below = below; expected = refl; numbered = refl }) (traces_hold st es setting trace)) in
    let follows : FollowsTrace x.setting x.past (entry_of x) = kept.known.0.orderly.is_trace.0 in
    subst (λ z. FollowsTrace z es e) f.setting (subst (λ z. FollowsTrace x.setting z e) past (subst (FollowsTrace x.setting x.past) same follows))

pub inputs_come : InputsCome
inputs_come now i h st es setting stands sound later below expected =
    record { setting = setting; stands = stands; sound = sound; follows = due_follows st es now i setting stands.past later below expected }
