-- The input of a step follows what is due, by what it is.
use Rattle.sl_host_law.proofs.Answers.AnswersFollow.{answers_follow}
use Rattle.sl_host_law.proofs.Answers.JoiningsFollow.{joinings_follow}
use Rattle.sl_host_law.proofs.Answers.LeaseAnswersFollow.{lease_answers_follow}
use Rattle.sl_host_law.proofs.Answers.LeasesGoOn.{leases_go_on}
use Rattle.sl_host_law.proofs.Answers.RequestsFollow.{requests_follow}
use Rattle.sl_host_law.proofs.Answers.SurveysFollow.{surveys_follow}
use Rattle.sl_host_law.specs.Answers.AnswersFollow.{IsAnswerTo}
use Rattle.sl_host_law.specs.Answers.CarriedDecisions.{carrying}
use Rattle.sl_host_law.specs.Answers.LeaseAnswers.{area_of}
use Rattle.sl_host_law.specs.Answers.LeaseDecisions.{carrying_lease}
use Rattle.sl_host_law.specs.Answers.Requests.{Follows}
use Rattle.sl_host_law.proofs.Calls.InputsAreHeard.{inputs_are_heard}
use Rattle.sl_due.specs.DueAnswers.{after_answer}
use Rattle.sl_due.specs.DueInputs.{on_spawned, take_input}
use Rattle.sl_due.specs.Steps.{Step, seen, with_input}
use Rattle.sl_host_law.proofs.SharedFacts.KeptJobs.{running_there}
use Rattle.sl_host_law.proofs.SharedFacts.MembersAreSessions.{numbers_are_apart}
use Rattle.sl_host_law.proofs.SharedFacts.PlainLists.{at_some, one_there}
use Rattle.sl_host_state.specs.HeardInputs.{heard_answer, heard_exit, heard_number, heard_start, hearing, is_over_with, job_hearing, member_hearing}
use Rattle.sl_host_state.specs.KeptState.{HostState, MemberState}
use Rattle.sl_host_state.specs.MadeEffects.{has_write_open, with_end, with_grant, with_reply, with_signal}
use Rattle.sl_host_state.specs.Passes.{whos}
use Rattle.sl_host_state.specs.HostStands.{MemberStands, Stands, is_joining}
use Rattle.sl_host_state.specs.declared.kept_parts.OpenCall.{OpenCall}
use Rattle.sl_host_law.proofs.Steps.AnswersAreKnown.{answers_as_known}
use Rattle.sl_host_law.proofs.Steps.JoiningNamesApart.{alone, not_joined}
use Rattle.sl_host_law.proofs.Steps.AreasLie.{begins_at, placed}
use Rattle.sl_host_law.proofs.Steps.EarlyParts.{over_keeps}
use Rattle.sl_host_law.proofs.Steps.JoiningsWake.{not_refused}
use Rattle.sl_host_law.proofs.Steps.SoundParts.{sound_cut, sound_reply}
use Rattle.sl_host_law.specs.Steps.Answers.{answering, answering_by, answering_for, joining_next, joining_on}
use Rattle.sl_host_law.specs.Steps.Inputs.{starting, taking}
use Rattle.sl_host_law.specs.Steps.Leases.{answered_next}
use Rattle.sl_host_law.specs.Steps.Passes.{member_numbered}
use Rattle.sl_host_law.specs.Steps.SoundHosts.{IsEarly, IsLaidOut, IsSound, NamesApart}
use Rattle.sl_host_law.specs.Steps.InputsFollow.{AnswerComes, InputsAreSound, InputsFollow, IsCallOf, LeaseMay}
use Rattle.sl_host_law.proofs.StepParts.ExitsAreTaken.{exits_are_taken}
use Rattle.sl_host_law.proofs.StepParts.SpawnsAreTaken.{spawns_are_taken}
use Rattle.sl_host_law.specs.StepParts.Exits.{ending, exiting, leaving, refusing_of}
use Rattle.sl_host_law.specs.StepParts.Refusals.{numbers_of}
use Rattle.sl_host_law.specs.StepParts.Spawns.{child_in, replying_if, spawning, started_in, terming}
use Rattle.sl_words.proofs.Lists.{any_found, any_of, contains_map, find_fails, find_inside, got_inside, in_map, kept_inside}
use Rattle.sl_host_law.proofs.Questions.AnswersAreTheirs.{answers_are_theirs}
use Rattle.sl_host_law.specs.Questions.Jobs.{aim_in, goes_on_in, is_of_process_in, running_in}
use Rattle.sl_host_law.specs.Replies.Moves.{EndsBegun}
use Rattle.sl_trace.specs.Sessions.{calls_of, is_join_done, is_present, removed_after}
use Rattle.sl_trace.specs.declared.session.Session.{Session}
use Rattle.sl_trace.specs.Traces.{Child, Replied, end_of, is_expected, no_process, orphans_left, reply_to}
use Rattle.sl_trace.specs.declared.effects.Signal.TheVariants.{Term}
use Rattle.sl_trace.specs.declared.input.Answer.{Answer}
use Rattle.sl_trace.specs.declared.input.Input.TheVariants.{Answer as Told, Exit, Number, Spawned, Wake}
use Rattle.sl_trace.specs.declared.reply.Reply.TheVariants.{NoProcess, SpawnFault}
use Rattle.sl_trace.specs.declared.reply.Reply.{Reply}
use Rattle.sl_host_law.proofs.Answers.AnswersSetFree.{answers_set_free}
use Rattle.sl_host_law.specs.Answers.Joinings.{IsDecided}
use Rattle.sl_host_law.specs.Answers.LeasesGoOn.{IsPlaced}
use Rattle.sl_host_law.proofs.Replies.Answers.AnswersAreHeard.{answers_are_heard}
use Rattle.sl_host_state.specs.declared.kept_parts.JobState.{JobState}
use Rattle.sl_host_state.specs.declared.kept_parts.WaitingCall.{WaitingCall}
use Rattle.sl_host_law.proofs.Steps.JoiningDecides.{joining_decides}
use Rattle.sl_trace.specs.declared.lease.Aim.{Aim}
use Rattle.sl_host_law.specs.StepParts.Ends.{removing}
use Rattle.sl_trace.specs.declared.effects.JoinStep.{JoinStep}
use Rattle.sl_trace.specs.declared.effects.LeaseStep.{LeaseStep}
use Rattle.sl_trace.specs.declared.effects.Move.TheVariants.{Unregister}
use Rattle.sl_trace.specs.declared.effects.Purpose.TheVariants.{Joining, Lease, Leaving, Renewal, RequestRead, RequestWrite, SeeRequest, Survey, ValueRead, ValueWrite}
use Rattle.sl_trace.specs.declared.effects.Purpose.{Purpose}
use Rattle.sl_trace.specs.declared.effects.Work.{Work}
use Rattle.sl_words.proofs.WordLaws.{and_true}
use Rattle.sl_words.specs.Words.{choose}
use Rattle.std.proofs.lemmas.Slice.Eq.{bytes_eq-Decides}
use Rattle.sl_words.proofs.CaseLaws.{is_false, true_is_false}
use Rattle.std.proofs.Common.{ap, refl, subst, sym, ◌∙◌}
use Rattle.std.proofs.lemmas.Bool.Decides.{Decides-eqb}
use Rattle.std.specs.List.{list_any}
use Rattle.std.specs.Prelude.{Bool, Contains, List, None, Option, Some, bytes_eq, cond, false, filter, is_none, is_some, map, not, option_and_then, slice_get, true, ℕ, ◌&&◌, ◌+◌, ◌<◌, ◌==◌, ◌||◌, ◌≡◌}

-- ---- a number, an exit, a start

number : (h : HostState) (x : Step) (text : List ℕ) → Stands Wake h x → Stands (Number text) (taking (Number text) h) (take_input (Number text) x)
unfolding take_input
number h x text s = inputs_are_heard.number h x text s

exit : (h : HostState) (x : Step) (p : ℕ) → IsEarly h → Stands Wake h x → Stands (Exit p) (taking (Exit p) h) (take_input (Exit p) x)
unfolding take_input
exit h x p e s = exits_are_taken.whole p (heard_exit p h) (with_input (Exit p) x) e.grants (inputs_are_heard.exit h x p s)

start : (h : HostState) (x : Step) (p : ℕ) (ok : Bool) → is_expected x.setting x.past (Spawned p ok) ≡ true → IsEarly h → Stands Wake h x
    → Stands (Spawned p ok) (taking (Spawned p ok) h) (take_input (Spawned p ok) x)
unfolding take_input
start h x p ok expected e s = by (child_in h p) refl where
  by : (o : Option Child) → child_in h p ≡ o
      → Stands (Spawned p ok) (elim o as (λ z. HostState) [ None ↦ heard_start p ok h | Some k ↦ spawning p ok k (heard_start p ok h) ]) (on_spawned p ok (with_input (Spawned p ok) x))
  by None is = absurd (true_is_false (sym (spawns_are_taken.kept p ok h x expected s) ∙ ap (λ o. is_some o) is))
  by (Some k) is = spawns_are_taken.whole p ok k h x is e.grants s

-- ---- they leave the host sound

pub same_members : (h g : HostState) → g.members ≡ h.members → g.unanswered ≡ h.unanswered → g.config ≡ h.config → IsSound h → IsSound g
same_members h g members calls config k =
    sound_cut h g (record {
      from = λ m there. record { old = m; there = subst (λ ms. Contains ms m) members there; who = refl; leaving = refl };
      calls = λ c there. subst (λ cs. Contains cs c) calls there;
      config = config;
    }) k

ending_sound : (p : ℕ) (h : HostState) → IsSound h → IsSound (ending p h)
ending_sound p h k = over_keeps IsSound (filter (λ g. g.process == p) h.holdings) (λ g. with_end (end_of g)) h (λ g f z. same_members f (with_end (end_of g) f) refl refl refl z) k

leaving_sound : (p : ℕ) (h : HostState) → IsSound h → IsSound (leaving p h)
leaving_sound p h k = over_keeps IsSound (orphans_left p h.holdings) with_grant (ending p h) (λ g f z. same_members f (with_grant g f) refl refl refl z) (ending_sound p h k)

exiting_sound : (p : ℕ) (h : HostState) → IsSound h → IsSound (exiting p h)
exiting_sound p h k = by (p == no_process) where
  by : (b : Bool) → IsSound (cond b h (refusing_of p (leaving p h)))
  by true = k
  by false = over_keeps IsSound (numbers_of (filter (is_of_process_in p) (leaving p h).jobs)) (λ n. with_reply n (NoProcess p)) (leaving p h) (λ n f z. sound_reply f n (NoProcess p) z) (leaving_sound p h k)

replying_sound : (o : Option ℕ) (r : Reply) (h : HostState) → IsSound h → IsSound (replying_if o r h)
replying_sound None r h k = k
replying_sound (Some j) r h k = by (running_in h j) where
  by : (b : Bool) → IsSound (cond b (with_reply j r h) h)
  by true = sound_reply h j r k
  by false = k

spawning_sound : (p : ℕ) (ok : Bool) (c : Child) (h : HostState) → IsSound h → IsSound (spawning p ok c h)
spawning_sound p true c h k = replying_sound c.job (started_in h p) h k
spawning_sound p false c h k = termed c.stands_for (replying_sound c.job SpawnFault (ending p h) (ending_sound p h k)) where
  termed : (o : Option ℕ) → IsSound (replying_if c.job SpawnFault (ending p h)) → IsSound (terming o (replying_if c.job SpawnFault (ending p h)))
  termed None z = z
  termed (Some q) z = same_members (replying_if c.job SpawnFault (ending p h)) (with_signal q Term (replying_if c.job SpawnFault (ending p h))) refl refl refl z

starting_sound : (p : ℕ) (ok : Bool) (h : HostState) → IsSound h → IsSound (starting p ok h)
starting_sound p ok h k = by (child_in h p) where
  heard : IsSound (heard_start p ok h)
  heard = same_members h (heard_start p ok h) refl refl refl k

  by : (o : Option Child) → IsSound (elim o as (λ z. HostState) [ None ↦ heard_start p ok h | Some c ↦ spawning p ok c (heard_start p ok h) ])
  by None = same_members h (heard_start p ok h) refl refl refl k
  by (Some c) = spawning_sound p ok c (heard_start p ok h) (same_members h (heard_start p ok h) refl refl refl k)

pub inputs_are_sound : InputsAreSound
inputs_are_sound =
    record {
      number = λ h text k. same_members h (heard_number h) refl refl refl k;
      exit = λ h p k. exiting_sound p (heard_exit p h) (same_members h (heard_exit p h) refl refl refl k);
      start = λ h p ok k. starting_sound p ok h k;
    }

-- ---- an answer

-- Who is joined isn't refused.
pub joined_stays : (h : HostState) (x : Step) (k : ℕ) (m : MemberState) → Stands Wake h x → slice_get h.members k ≡ Some m → m.joined ≡ true → m.refused ≡ false
joined_stays h x k m s there joined = by (m.who.job) refl where
  stands : MemberStands x.setting (seen x) m
  stands = s.keeps.members k m there

  both : (o : Option Replied)
      → (is_some (option_and_then (λ (a : Replied). choose (is_join_done a.reply) (a.at + 1)) o) && is_none (removed_after (seen x) m.who)) ≡ true
      → is_some (option_and_then (λ (a : Replied). choose (not (is_join_done a.reply)) (a.at + 1)) o) ≡ false
  both None is = refl
  both (Some a) is = one (is_join_done a.reply) is where
    one : (b : Bool) → (is_some (choose b (a.at + 1)) && is_none (removed_after (seen x) m.who)) ≡ true → is_some (choose (not b) (a.at + 1)) ≡ false
    one true e = refl
    one false e = absurd (true_is_false (sym e))

  by : (o : Option ℕ) → m.who.job ≡ o → m.refused ≡ false
  by None is = sym stands.refused ∙ ap (λ o. is_some (elim o as (λ z. Option ℕ) [ None ↦ None | Some j ↦ option_and_then (λ a. choose (not (is_join_done a.reply)) (a.at + 1)) (reply_to (seen x) j) ])) is
  by (Some j) is =
      sym stands.refused ∙ ap (λ o. is_some (elim o as (λ z. Option ℕ) [ None ↦ None | Some j ↦ option_and_then (λ a. choose (not (is_join_done a.reply)) (a.at + 1)) (reply_to (seen x) j) ])) is
      ∙ both (reply_to (seen x) j)
      (sym (ap (λ o. is_some (elim o as (λ z. Option ℕ) [ None ↦ Some 0 | Some j ↦ option_and_then (λ a. choose (is_join_done a.reply) (a.at + 1)) (reply_to (seen x) j) ]) && is_none (removed_after (seen x) m.who)) is)
      ∙ stands.joined ∙ joined)

module _ (n : ℕ) (c : OpenCall) (a : Answer) (h : HostState) (x : Step) (comes : AnswerComes n c a h x) where
  -- Members that have heard it are members.
  heard_who : (m : MemberState) (b : Bool) → (cond b (member_hearing h c a m) m).who ≡ m.who
  heard_who m true = refl
  heard_who m false = refl

  heard_leaving : (m : MemberState) (b : Bool) → (cond b (member_hearing h c a m) m).leaving ≡ m.leaving
  heard_leaving m true = refl
  heard_leaving m false = refl

  heard_joined : (m : MemberState) (b : Bool) → (cond b (member_hearing h c a m) m).joined ≡ m.joined
  heard_joined m true = refl
  heard_joined m false = refl

  heard_as : hearing c a h ≡ heard_answer n a h
  heard_as = sym (ap (λ o. elim o as (λ z. HostState) [ None ↦ h | Some d ↦ hearing d a h ]) comes.is_open)

  record WasHeard (z : MemberState) : Type 0 where
    old : MemberState
    there : Contains h.members old
    who : old.who ≡ z.who
    leaving : old.leaving ≡ z.leaving
    joined : old.joined ≡ z.joined

  from : (z : MemberState) → Contains (heard_answer n a h).members z → WasHeard z
  from z there =
      let inside = kept_inside (λ (m : MemberState). not (is_over_with c.number h m)) (map (λ (m : MemberState). cond (c.session == m.who.number) (member_hearing h c a m) m) h.members) z
      (subst (λ (g : HostState). Contains g.members z) (sym heard_as) there)
      in
      let m = in_map (λ (m : MemberState). cond (c.session == m.who.number) (member_hearing h c a m) m) h.members z inside.0 in
      record {
        old = m.0;
        there = m.1;
        who = sym (heard_who m.0 (c.session == m.0.who.number)) ∙ ap (λ (y : MemberState). y.who) m.2;
        leaving = sym (heard_leaving m.0 (c.session == m.0.who.number)) ∙ ap (λ (y : MemberState). y.leaving) m.2;
        joined = sym (heard_joined m.0 (c.session == m.0.who.number)) ∙ ap (λ (y : MemberState). y.joined) m.2;
      }

  back : (s : Session) → Contains (whos (heard_answer n a h)) s → Contains (whos h) s
  back s there =
      let z = in_map (λ (m : MemberState). m.who) (heard_answer n a h).members s there in
      let m = from z.0 z.1 in
      subst (Contains (whos h)) (m.who ∙ z.2) (contains_map (λ (m : MemberState). m.who) h.members m.old m.there)

  names : NamesApart (heard_answer n a h)
  names s t at_s at_t same = comes.sound.names s t (back s at_s) (back t at_t) same

  -- Who would end with the member's name is it.
  ends : (k : ℕ) (m : MemberState) → slice_get h.members k ≡ Some m → (m.joined ≡ true → is_some m.leaving ≡ true) → EndsBegun (Unregister m.who.lockspace) (heard_answer n a h)
  ends k m there leaves j z at_z over =
      let both = and_true z.joined (bytes_eq z.who.lockspace m.who.lockspace) over in
      let was = from z (got_inside (heard_answer n a h).members j z at_z) in
      let same : was.old.who ≡ m.who =
      comes.sound.names was.old.who m.who (contains_map (λ (y : MemberState). y.who) h.members was.old was.there) (contains_map (λ (y : MemberState). y.who) h.members m (got_inside h.members k m there))
      (ap (λ (t : Session). t.lockspace) was.who ∙ (bytes_eq-Decides z.who.lockspace m.who.lockspace).0 both.1)
      in
      let place = at_some h.members was.old was.there in
      let one : was.old ≡ m =
      one_there h.members k was.old m
      (subst (λ p. slice_get h.members p ≡ Some was.old) (numbers_are_apart h x.setting (seen x) place.0 k was.old m comes.stands.keeps place.1 there (ap (λ (t : Session). t.number) same)) place.1) there
      in
      or_right (is_some z.renewing.recovery) (is_some z.leaving)
      (ap (λ o. is_some o) (sym was.leaving) ∙ ap (λ (y : MemberState). is_some y.leaving) one ∙ leaves (sym (ap (λ (y : MemberState). y.joined) one) ∙ was.joined ∙ both.0)) where
        or_right : (p q : Bool) → q ≡ true → (p || q) ≡ true
        or_right true q is = refl
        or_right false q is = is

  module _ (k : ℕ) (m : MemberState) (there : slice_get h.members k ≡ Some m) (its : (c.session == m.who.number) ≡ true) where
    to : IsAnswerTo n c a h x k m
    to = record { stands = comes.stands; is_open = comes.is_open; fits = comes.fits; at = comes.early.at; there = there; its = its }

    inside : Contains h.members m
    inside = got_inside h.members k m there

    own : IsCallOf m c.purpose
    own = comes.theirs.own m c inside (find_inside (λ (d : OpenCall). d.number == n) h.unanswered c comes.is_open).0 its

    free : m.joined ≡ true → m.refused ≡ false
    free joined = joined_stays h x k m comes.stands there joined

    -- A joining.
    joins : (j : ℕ) (step : JoinStep) → c.purpose ≡ Joining j step → m.who.job ≡ Some j → Follows n a h x (joining_on h m c j step a (heard_answer n a h))
    joins j step is job = by (running_in (heard_answer n a h) j) refl where
      refused_ends : m.refused ≡ true → EndsBegun (Unregister m.who.lockspace) (heard_answer n a h)
      refused_ends refused = ends k m there (λ joined. absurd (true_is_false (sym refused ∙ free joined)))

      after : Stands (Told n a) (heard_answer n a h) (with_input (Told n a) x)
      after = answers_are_heard.heard n c a h x comes.stands comes.is_open comes.fits comes.early.at

      by : (b : Bool) → running_in (heard_answer n a h) j ≡ b
          → Follows n a h x
          (cond b (carrying m.who (joining_next h m c step a) (heard_answer n a h))
          (cond (m.refused && not (has_write_open (heard_answer n a h) m.who.number)) (removing m.who.lockspace (heard_answer n a h)) (heard_answer n a h)))
      by false stopped = joinings_follow.refused n c a h x k m j step to is stopped refused_ends
      by true runs =
          let of_trace = running_there (heard_answer n a h) x.setting (seen (with_input (Told n a) x)) j after.keeps runs in
          let ran : running_in h j ≡ true = was_running j runs in
          let before = running_there h x.setting (seen x) j comes.stands.keeps ran in
          let stands : MemberStands x.setting (seen x) m = comes.stands.keeps.members k m there in
          let unjoined : m.joined ≡ false = not_joined x.setting (seen x) m j stands job before.3 in
          let unrefused : m.refused ≡ false = not_refused x.setting (seen x) m j stands job before.3 in
          let still : is_joining m ≡ true = ap (λ b. not b && not m.refused) unjoined ∙ ap not unrefused in
          joinings_follow.going n c a h x k m j step (joining_next h m c step a) to is job still (comes.theirs.bare m inside unjoined) runs (decided unrefused still)
          (alone (Told n a) (heard_answer n a h) (with_input (Told n a) x) j after names runs) (ends k m there (λ joined. absurd (true_is_false (sym joined ∙ unjoined)))) where
            was_running : (j : ℕ) → running_in (heard_answer n a h) j ≡ true → running_in h j ≡ true
            was_running j is =
                let f = any_found (λ (z : JobState). z.number == j) (heard_answer n a h).jobs is in
                let z = in_map (job_hearing c.number) h.jobs f.0 (subst (λ (g : HostState). Contains g.jobs f.0) (sym heard_as) f.1) in
                any_of (λ (y : JobState). y.number == j) h.jobs z.0 (ap (λ q. q == j) (sym (same_number_heard z.0) ∙ ap (λ (y : JobState). y.number) z.2) ∙ f.2) z.1 where
                  same_number_heard : (y : JobState) → (job_hearing c.number y).number ≡ y.number
                  same_number_heard y = of y.waits where
                    cut : (b : Bool) → (cond b (record y { waits = None }) y).number ≡ y.number
                    cut true = refl
                    cut false = refl

                    of : (o : Option WaitingCall) → (elim o as (λ z. JobState) [ None ↦ y | Some w ↦ cond (w.number == c.number) (record y { waits = None }) y ]).number ≡ y.number
                    of None = refl
                    of (Some w) = cut (w.number == c.number)

            reading_stays : (heard_answer n a h).reading ≡ h.reading
            reading_stays = ap (λ (g : HostState). g.reading) (sym heard_as)

            decided : m.refused ≡ false → is_joining m ≡ true → IsDecided n c a h x m step (joining_next h m c step a)
            decided unrefused still d kept_d =
                let place = answers_set_free.member n c a h x k m to unrefused in
                let hears : MemberState = member_hearing h c a m in
                let new : MemberStands x.setting (seen (with_input (Told n a) x)) hears = after.keeps.members place.0 hears place.1 in
                joining_decides h x m c a step d kept_d comes.stands (calls_of (seen (with_input (Told n a) x)) m.who) (new.joining still) j is comes.sound.laid.program (heard_answer n a h).reading reading_stays

    -- Its area lies where areas do.
    lies : m.joined ≡ true → IsPlaced (heard_answer n a h) (member_hearing h c a m) c
    lies joined =
        subst (λ (g : HostState). IsPlaced g (member_hearing h c a m) c) heard_as
        (placed (hearing c a h) (member_hearing h c a m) (area_of (hearing c a h) c) laid who_there (begins_at c.offset h.config.layout.area)) where
          laid : IsLaidOut (hearing c a h)
          laid =
              record {
                program = comes.sound.laid.program;
                geometry = comes.sound.laid.geometry;
                ids = λ s at. comes.sound.laid.ids s (back s (subst (λ (g : HostState). Contains (whos g) s) heard_as at));
                joins = comes.sound.laid.joins;
              }

          who_there : Contains (whos (hearing c a h)) m.who
          who_there =
              let at = answers_set_free.member n c a h x k m to (free joined) in
              subst (λ (g : HostState). Contains (whos g) m.who) (sym heard_as)
              (contains_map (λ (y : MemberState). y.who) (heard_answer n a h).members (member_hearing h c a m) (got_inside (heard_answer n a h).members at.0 (member_hearing h c a m) at.1))

    room : IsPlaced (heard_answer n a h) (member_hearing h c a m) c → 0 < h.config.layout.area
    room at = subst (λ (g : HostState). 0 < g.config.layout.area) (sym heard_as) at.room

    -- By its purpose.
    done : (p : Purpose) → c.purpose ≡ p → IsCallOf m p → ((work : Work) (step : LeaseStep) (aim : Aim) → c.purpose ≡ Lease work step → LeaseMay n c a h x m work step aim)
        → Follows n a h x (answering_for p h m c a (heard_answer n a h))
    done (Joining j step) is is_own may = joins j step is is_own
    done Renewal is is_own may = answers_follow.renewal n c a h x k m to is (free is_own)
    done Survey is is_own may = surveys_follow n c a h x k m to (free is_own) is
    done (Leaving j) is is_own may = answers_follow.free n c a h x k m j to is (free is_own.0) (ends k m there (λ joined. is_own.1))
    done (Lease work step) is is_own may = works (goes_on_in (heard_answer n a h) (member_hearing h c a m) work) refl where
      aimed : (goes_on_in (heard_answer n a h) (member_hearing h c a m) work) ≡ true → (o : Option Aim) → aim_in (heard_answer n a h) work ≡ o
          → Follows n a h x
          (elim o as (λ z. HostState) [
            | None ↦ heard_answer n a h
            | Some aim ↦ carrying_lease (member_hearing h c a m) (area_of (heard_answer n a h) c) work
                (answered_next (heard_answer n a h) (member_hearing h c a m) (area_of (heard_answer n a h) c) c aim step a) (heard_answer n a h)
          ])
      aimed goes None aims = lease_answers_follow.aimless n c a h x k m work step to (free is_own) is goes aims
      aimed goes (Some aim) aims =
          leases_go_on n c a h x k m work step aim (answered_next (heard_answer n a h) (member_hearing h c a m) (area_of (heard_answer n a h) c) c aim step a) to (free is_own) is goes aims
          (answers_as_known n c a h x k m to (free is_own) work step is (room (lies is_own)) comes.sound.laid.program aim) (lies is_own) ((may work step aim is).converts goes aims)

      works : (b : Bool) → goes_on_in (heard_answer n a h) (member_hearing h c a m) work ≡ b
          → Follows n a h x
          (cond b
          (elim (aim_in (heard_answer n a h) work) as (λ z. HostState) [
            | None ↦ heard_answer n a h
            | Some aim ↦ carrying_lease (member_hearing h c a m) (area_of (heard_answer n a h) c) work
                (answered_next (heard_answer n a h) (member_hearing h c a m) (area_of (heard_answer n a h) c) c aim step a) (heard_answer n a h)
          ]) (heard_answer n a h))
      works false stops = lease_answers_follow.stopped n c a h x k m work step to (free is_own) is stops
      works true goes = aimed goes (aim_in (heard_answer n a h) work) refl
    done (RequestRead j) is is_own may = requests_follow.read n c a h x k m j to (free is_own) is
    done (RequestWrite j owner) is is_own may = requests_follow.written n c a h x k m j owner to (free is_own) is
    done SeeRequest is is_own may = requests_follow.seen_one n c a h x k m to (free is_own) is
    done (ValueWrite j) is is_own may = requests_follow.value_set n c a h x k m j to (free is_own) is
    done (ValueRead j) is is_own may = requests_follow.value_read n c a h x k m j to (free is_own) is

  -- The call is of a member, or of nobody.
  answered : ((m : MemberState) (work : Work) (step : LeaseStep) (aim : Aim) → Contains h.members m → (c.session == m.who.number) ≡ true → c.purpose ≡ Lease work step → LeaseMay n c a h x m work step aim)
      → Stands (Told n a) (answering n a h) (after_answer (is_present (seen x)) n a (with_input (Told n a) x))
  answered may =
      subst (λ o. Stands (Told n a) (elim o as (λ z. HostState) [ None ↦ h | Some d ↦ answering_by (member_numbered h d.session) n d a h ]) (after_answer (is_present (seen x)) n a (with_input (Told n a) x)))
      (sym comes.is_open) (by (member_numbered h c.session) refl) where
        by : (o : Option MemberState) → member_numbered h c.session ≡ o → Follows n a h x (answering_by o n c a h)
        by None none =
            let absent : list_any (λ m. c.session == m.who.number) h.members ≡ false =
            is_false (list_any (λ (m : MemberState). c.session == m.who.number) h.members) (λ some.
            (let d = any_found (λ (m : MemberState). c.session == m.who.number) h.members some in
            true_is_false (sym ((Decides-eqb d.0.who.number c.session).1 (sym ((Decides-eqb c.session d.0.who.number).0 d.2))) ∙ find_fails (λ (m : MemberState). m.who.number == c.session) h.members d.0 none d.1)))
            in
            subst (λ y. Stands (Told n a) (heard_answer n a h) y) (sym (answers_are_theirs.nobody n c a h x comes.stands comes.is_open comes.early.at absent))
            (answers_are_heard.heard n c a h x comes.stands comes.is_open comes.fits comes.early.at)
        by (Some m) some =
            let found = find_inside (λ (z : MemberState). z.who.number == c.session) h.members m some in
            let at = at_some h.members m found.0 in
            let its : (c.session == m.who.number) ≡ true = (Decides-eqb c.session m.who.number).1 (sym ((Decides-eqb m.who.number c.session).0 found.1)) in
            done at.0 m at.1 its c.purpose refl (own at.0 m at.1 its) (λ work step aim is. may m work step aim found.0 its is)

told_answer : (n : ℕ) (c : OpenCall) (a : Answer) (h : HostState) (x : Step) → AnswerComes n c a h x
    → ((m : MemberState) (work : Work) (step : LeaseStep) (aim : Aim) → Contains h.members m → (c.session == m.who.number) ≡ true → c.purpose ≡ Lease work step → LeaseMay n c a h x m work step aim)
    → Stands (Told n a) (taking (Told n a) h) (take_input (Told n a) x)
unfolding take_input
told_answer n c a h x comes may = answered n c a h x comes may

pub inputs_follow : InputsFollow
inputs_follow = record { number = number; exit = exit; start = start; answer = told_answer }
