-- What is known of a session's own sector, told of its member.
use Rattle.sl_due_facts.proofs.Acts.InputsKeep.{answer_keeps, other_acts, others_keep}
use Rattle.sl_due_facts.proofs.Acts.StepsKeep.{arrives_as_expected, at_input, bare_at_input, expected_there, head_keeps, step_keeps}
use Rattle.sl_due_facts.proofs.Acts.WakesKeep.{wake_keeps}
use Rattle.sl_due_facts.specs.Acts.Acts.{Expects}
use Rattle.sl_due.specs.Due.{before_input, due_step}
use Rattle.sl_due.specs.DueRecovery.{begin_recoveries}
use Rattle.sl_due.specs.DueInputs.{take_input}
use Rattle.sl_due.specs.DueWake.{is_wake, on_wake}
use Rattle.sl_due.specs.Steps.{Step, begin_step, seen, when}
use Rattle.sl_due_law.proofs.LawfulTraces.AllIsKept.{all_begins, all_is_kept}
use Rattle.sl_due_law.proofs.LawfulTraces.TracesHold.{traces_hold}
use Rattle.sl_due_law.specs.LawfulTraces.CarriedFacts.{Kept}
use Rattle.sl_host_law.proofs.SharedFacts.MembersAreSessions.{member_inside}
use Rattle.sl_host_law.proofs.SharedFacts.PlainLists.{at_some}
use Rattle.sl_host_law.proofs.SharedFacts.SessionNumbers.{below_count}
use Rattle.sl_host_law.specs.Steps.StepsFollow.{entry_at}
use Rattle.sl_host_state.specs.KeptState.{HostState, MemberState}
use Rattle.sl_host_state.specs.HostStands.{MemberStands, Stands}
use Rattle.sl_words.proofs.Lists.{find_inside}
use Rattle.sl_trace.specs.Sessions.{calls_of, free_write, is_joined, leaving_job, sessions}
use Rattle.sl_trace.specs.declared.delta.DeltaKnown.{DeltaKnown}
use Rattle.sl_trace.specs.declared.session.Begun.{Begun}
use Rattle.sl_trace.specs.declared.session.Renewing.{Renewing}
use Rattle.sl_step_law.specs.Members.{MemberIsKnown, MembersAreKnown, StepsAreKept}
use Rattle.sl_step_law.specs.ReadyHosts.{InputComes}
use Rattle.sl_trace.specs.Traces.{Job, Setting, Submitted, Trace}
use Rattle.sl_trace.specs.declared.input.Answer.{Answer}
use Rattle.sl_trace.specs.declared.input.Input.TheVariants.{Answer as Told, Exit, Line, Number, Spawned, Wake}
use Rattle.sl_trace.specs.declared.input.Input.{Input}
use Rattle.sl_words.proofs.CaseLaws.{true_is_false}
use Rattle.sl_sector.specs.Records.{Fits}
use Rattle.sl_words.specs.Bounds.{is_number}
use Rattle.std.proofs.Common.{ap, arith, refl, subst, sym, ◌∙◌}
use Rattle.std.proofs.lemmas.Bool.Decides.{nat_tests}
use Rattle.std.proofs.lemmas.Bool.{eqb-true}
use Rattle.std.specs.Prelude.{Contains, IsTrue, None, Option, Some, false, find, is_some, option_map, slice_get, true, ℕ, ◌+◌, ◌<◌, ◌==◌, ◌≡◌, ◌≤◌}

-- ---- members

fits : (n : ℕ) → IsTrue (is_number n) → Fits n
fits n is = grind (arith, nat_tests, is)

module _ (i : Input) (h : HostState) (x : Step) (m : MemberState) (s : Stands i h x) (k : Kept x) (there : Contains h.members m) where
  place : (n : ℕ) × (slice_get h.members n ≡ Some m)
  place = at_some h.members m there

  stands : MemberStands x.setting (seen x) m
  stands = s.keeps.members place.0 m place.1

  listed : Contains (sessions x.setting (seen x)) m.who
  listed = (member_inside h x.setting (seen x) place.0 m s.keeps place.1).0

  joins : m.joined ≡ true → is_joined (seen x) m.who ≡ true
  joins joined = stands.joined ∙ joined

  one : MemberIsKnown h m
  one =
      record {
        number = subst (λ n. m.who.number < n) s.keeps.born (below_count x.setting (seen x) m.who listed);
        generation = λ joined. subst (λ (d : DeltaKnown). 1 ≤ d.generation) stands.known (k.known.0.facts.delta.numbers m.who listed (joins joined)).0;
        numbers = λ joined. (let z = k.known.0.facts.delta.numbers m.who listed (joins joined) in
            (subst (λ (d : DeltaKnown). Fits d.generation) stands.known (fits _ z.1), subst (λ (d : DeltaKnown). Fits d.seq) stands.known (fits _ z.2)));
        left = λ joined leaves unfreed. (let j = begun leaves in
            subst (λ (d : DeltaKnown). Fits (d.seq + 1)) stands.known
            (fits _ (k.known.0.facts.delta.left m.who j.0 listed (joins joined) j.1 (unwritten (free_write (calls_of (seen x) m.who)) (ap (λ (d : DeltaKnown). d.freed) stands.known ∙ unfreed)))));
        known = ap (λ (d : DeltaKnown). d.recovering) (sym stands.known) ∙ ap (λ (r : Renewing). is_some r.recovery) stands.renewing;
      } where
        told : (o : Option Job) → is_some (option_map (λ (z : Job). (let b : Begun = record { at = z.at; reading = z.reading; kills_from = z.at + 1 } in b)) o) ≡ true → (j : Job) × (o ≡ Some j)
        told None is = absurd (true_is_false (sym is))
        told (Some j) is = (j, refl)

        begun : is_some m.leaving ≡ true → (j : Job) × (leaving_job x.setting (seen x) m.who ≡ Some j)
        begun leaves = told (leaving_job x.setting (seen x) m.who) (ap (λ o. is_some o) stands.leaving ∙ leaves)

        unwritten : (o : Option Submitted) → is_some o ≡ false → o ≡ None
        unwritten None is = refl
        unwritten (Some c) is = absurd (true_is_false is)

none_new : (i : Input) (h : HostState) (x : Step) → Stands i h x → Kept x → find (λ m. m.who.number == h.born) h.members ≡ None
none_new i h x s k = by (find (λ (m : MemberState). m.who.number == h.born) h.members) refl where
  by : (o : Option MemberState) → find (λ (m : MemberState). m.who.number == h.born) h.members ≡ o → o ≡ None
  by None is = refl
  by (Some m) is =
      let f = find_inside (λ (z : MemberState). z.who.number == h.born) h.members m is in
      let below = (one i h x m s k f.0).number in
      let same : m.who.number ≡ h.born = eqb-true m.who.number h.born f.1 in
      absurd (omega (arith, below, same))

pub members_are_known : MembersAreKnown
members_are_known = record { each = one; new = none_new }

-- ---- the parts of a step

module _ (now : ℕ) (h : HostState) (st : Setting) (es : Trace) where
  begun : (i : Input) → InputComes now i h st es → Kept (begin_recoveries (begin_step st es now))
  begun i c = all_begins st es (entry_at st es now i) c.follows (traces_hold st es c.setting c.stands.past)

  ready : (i : Input) → InputComes now i h st es → Kept (at_input st es now)
  ready i c = (head_keeps Kept (other_acts Kept all_is_kept) st es now (begun i c)).kept

  there : (i : Input) → InputComes now i h st es → Expects (at_input st es now) i
  there i c = expected_there st es now i c.follows.expected

  answered : (i : Input) → InputComes now i h st es → (number : ℕ) (answer : Answer) → i ≡ Told number answer → Kept (take_input i (at_input st es now))
  answered i c number answer is =
      let bare = bare_at_input st es now in
      subst (λ z. Kept (take_input z (at_input st es now))) (sym is)
      (answer_keeps Kept all_is_kept (at_input st es now) number answer bare.0 bare.1
      (all_is_kept.hears (at_input st es now) number answer bare.0 bare.1.0 (subst (λ z. Expects (at_input st es now) z) is (there i c)) (ready i c)))

  taken_one : (i : Input) → InputComes now i h st es → Kept (take_input i (at_input st es now))
  taken_one i c =
      let bare = bare_at_input st es now in
      others_keep Kept (other_acts Kept all_is_kept) (at_input st es now) i bare.0 bare.1.0 (answered i c)
      (arrives_as_expected Kept (other_acts Kept all_is_kept) (at_input st es now) i bare.0 bare.1.0 (there i c) (ready i c)) (ready i c)

  taken : (i : Input) → InputComes now i h st es → Kept (take_input i (before_input (begin_step st es now)))
  unfolding before_input
  taken i c = taken_one i c

  woken : (i : Input) → InputComes now i h st es → Kept (when (is_wake i) on_wake (take_input i (before_input (begin_step st es now))))
  unfolding before_input take_input
  woken Wake c = wake_keeps Kept (other_acts Kept all_is_kept) (at_input st es now) (bare_at_input st es now).0 (ready Wake c)
  woken (Line text) c = taken (Line text) c
  woken (Number text) c = taken (Number text) c
  woken (Told n a) c = taken (Told n a) c
  woken (Exit p) c = taken (Exit p) c
  woken (Spawned p ok) c = taken (Spawned p ok) c

  whole : (i : Input) → InputComes now i h st es → Kept (due_step st es now i)
  whole i c = step_keeps Kept all_is_kept st es now i c.follows.expected (begun i c)

pub steps_are_kept : StepsAreKept
steps_are_kept =
    record {
      taken = λ now i h st es c. taken now h st es i c;
      woken = λ now i h st es c. woken now h st es i c;
      whole = λ now i h st es c. whole now h st es i c;
    }
