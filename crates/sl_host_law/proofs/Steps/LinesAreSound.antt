-- A line leaves a host sound: its job is new, so it is no member's yet, and no call is its.
use Rattle.sl_due_facts.proofs.Acts.DecisionsAreTheirs.{decisions_are_theirs}
use Rattle.sl_due_facts.specs.Acts.DueDaemons.{IsDecidedFor}
use Rattle.sl_host_law.proofs.Answers.AnswersSetFree.{of_trace}
use Rattle.sl_host_law.specs.Answers.Grants.{after_giving, given_up}
use Rattle.sl_host_law.specs.Answers.LeaseDecisions.{carrying_lease}
use Rattle.sl_area.specs.AreaLayout.{delta_offset}
use Rattle.sl_host_law.proofs.Decisions.CommandsAreDecided.{commands_are_decided}
use Rattle.sl_host_law.specs.Decisions.CommandDecisions.{decision_of, held_on, joined_refused, member_named, member_refusal}
use Rattle.sl_host_law.specs.Decisions.DecisionLaws.{LastIsEnough}
use Rattle.sl_due.specs.DueCommands.{unless_refused}
use Rattle.sl_due.specs.Steps.{Step, seen}
use Rattle.sl_due.specs.declared.decision.Decision.TheVariants.{ConvertsTo, GetsValue, GivesUp, Joins, Leaves, ReadsArea, Replies, Requests, SetsValue, Shares, TakesOver}
use Rattle.sl_due.specs.declared.decision.Decision.{Decision}
use Rattle.sl_host_law.proofs.SharedFacts.KeptJobs.{leaving_numbered}
use Rattle.sl_host_law.proofs.SharedFacts.MembersAreSessions.{member_inside}
use Rattle.sl_host_law.proofs.SharedFacts.NewNumbers.{mapped_inside}
use Rattle.sl_host_law.proofs.SharedFacts.PlainLists.{all_front, at_some, each_of}
use Rattle.sl_host_law.proofs.SharedFacts.PlainOrders.{put_inside}
use Rattle.sl_host_law.proofs.SharedFacts.SessionNumbers.{HasJobBelow, numbered_below, session_jobs_below}
use Rattle.sl_host_state.specs.HeardInputs.{answered_line, heard_line, leaves_member, member_leaving}
use Rattle.sl_host_state.specs.KeptState.{HostState, MemberState}
use Rattle.sl_host_state.specs.MadeEffects.{next_submitted, with_call, with_member, with_reply}
use Rattle.sl_host_state.specs.NewHost.{new_member}
use Rattle.sl_host_state.specs.Passes.{whos}
use Rattle.sl_host_state.specs.HostStands.{Stands, is_kept_of}
use Rattle.sl_host_state.specs.declared.kept_parts.OpenCall.{OpenCall}
use Rattle.sl_host_law.proofs.Steps.AnswersAreSound.{granted, leased}
use Rattle.sl_host_law.proofs.Steps.InputsFollow.{same_members}
use Rattle.sl_host_law.proofs.Steps.LinesArePlain.{is_of_line, plain_by}
use Rattle.sl_host_law.proofs.Steps.SoundBefore.{stopping_sound}
use Rattle.sl_host_law.proofs.Steps.SoundParts.{IsCut, Was, laid_as, sound_call, sound_cut, sound_reply}
use Rattle.sl_host_law.specs.Steps.Leases.{converting_next, releasing_next}
use Rattle.sl_host_law.specs.Steps.LineSteps.{deciding, lining}
use Rattle.sl_host_law.specs.Steps.Passes.{at_member, member_numbered}
use Rattle.sl_host_law.specs.Steps.SoundHosts.{IsSound}
use Rattle.sl_trace.specs.Leases.{spot_of}
use Rattle.sl_trace.specs.declared.lease.LeaseNext.{LeaseNext}
use Rattle.sl_host_law.specs.StepParts.Refusals.{signalling_and_refusing}
use Rattle.sl_words.proofs.Lists.{contains_map, find_fails, in_map, kept_inside}
use Rattle.sl_words.proofs.Numbers.{number_itself}
use Rattle.sl_host_law.specs.Replies.RepliesAreTaken.{is_plain_line}
use Rattle.sl_trace.specs.Sessions.{is_delta_purpose, is_session_arg, joining_session, sessions}
use Rattle.sl_trace.specs.declared.delta.DeltaKnown.{DeltaKnown}
use Rattle.sl_trace.specs.declared.session.Begun.{Begun}
use Rattle.sl_trace.specs.declared.session.Session.{Session}
use Rattle.sl_trace.specs.CountLimits.{most_lockspaces}
use Rattle.sl_trace.specs.Traces.{Child, Submitted, children, job_numbered, job_of, next_job, same_place, spot_of_grant, submitted}
use Rattle.sl_trace.specs.declared.command.Command.TheVariants.{AddLockspace, RemLockspace}
use Rattle.sl_trace.specs.declared.command.Command.{Command}
use Rattle.sl_trace.specs.declared.command.LockspaceArg.{LockspaceArg}
use Rattle.sl_trace.specs.declared.effects.Grant.{Grant}
use Rattle.sl_trace.specs.declared.effects.JoinStep.TheVariants.{FirstRead}
use Rattle.sl_trace.specs.declared.effects.Mode.TheVariants.{Shared}
use Rattle.sl_trace.specs.declared.effects.Op.TheVariants.{ReadSectors}
use Rattle.sl_trace.specs.declared.effects.Op.{Op}
use Rattle.sl_trace.specs.declared.effects.Purpose.TheVariants.{Joining, Lease}
use Rattle.sl_trace.specs.declared.effects.Purpose.{Purpose}
use Rattle.sl_trace.specs.declared.effects.Work.TheVariants.{ForJob}
use Rattle.sl_trace.specs.declared.input.Input.TheVariants.{Wake}
use Rattle.sl_trace.specs.declared.reply.Limited.TheVariants.{Lockspaces}
use Rattle.sl_trace.specs.declared.reply.Reply.TheVariants.{BadCommand as Misread, Done, Joined, Limit as LimitReached}
use Rattle.sl_trace.specs.declared.reply.Reply.{Reply}
use Rattle.sl_words.proofs.CaseLaws.{false_is_true, none_some, some_value, true_is_false}
use Rattle.sl_words.proofs.WordLaws.{and_true, some_is_true}
use Rattle.sl_words.specs.Orders.{is_text_before}
use Rattle.sl_words.specs.Words.{choose, some_is}
use Rattle.std.proofs.Common.{ap, arith, inl, inr, refl, subst, sym, ◌∙◌}
use Rattle.std.proofs.lemmas.Bool.Decides.{Decides-eqb}
use Rattle.std.proofs.lemmas.Slice.Eq.{bytes_eq-Decides}
use Rattle.std.specs.Option.{option_or}
use Rattle.std.specs.Prelude.{Bool, bytes_eq, Contains, Err, IsTrue, List, None, Ok, Option, Result, Some, cond, false, filter_map, is_none, is_some, length, nat_le, true, [], ℕ, ◌&&◌, ◌+◌, ◌-◌, ◌<◌, ◌==◌, ◌∷◌, ◌≡◌, ◌≤◌, ◌⊎◌}

-- ---- the number of a line's job

-- A job that no member joins or leaves by, and that has no call.
pub record IsNew (h : HostState) (n : ℕ) : Type 0 where
  pub leaving : (m : MemberState) → Contains h.members m → m.known.leaving ≡ Some n → ⊥
  pub joining : (m : MemberState) → Contains h.members m → m.who.job ≡ Some n → ⊥
  pub calls : (c : OpenCall) → Contains h.unanswered c → is_kept_of n c ≡ true → ⊥

module _ (h : HostState) (x : Step) (s : Stands Wake h x) where
  not_below : h.next_job < next_job x.setting (seen x) → ⊥
  not_below less = let lines = s.keeps.lines in absurd (omega (arith, less, lines))

  pub is_new : IsNew h h.next_job
  is_new = record { leaving = leaving; joining = joining; calls = calls } where
    leaving : (m : MemberState) → Contains h.members m → m.known.leaving ≡ Some h.next_job → ⊥
    leaving m there is =
        let place = at_some h.members m there in
        not_below (numbered_below x.setting (seen x) h.next_job
        (leaving_numbered x.setting (seen x) m h.next_job (s.keeps.members place.0 m place.1) (ap (some_is (λ j. j == h.next_job)) is ∙ number_itself h.next_job)))

    joining : (m : MemberState) → Contains h.members m → m.who.job ≡ Some h.next_job → ⊥
    joining m there is =
        let place = at_some h.members m there in
        not_below (each_of (HasJobBelow (next_job x.setting (seen x))) (sessions x.setting (seen x)) m.who (session_jobs_below x.setting (seen x)) (member_inside h x.setting (seen x) place.0 m s.keeps place.1).0 h.next_job is)

    calls : (c : OpenCall) → Contains h.unanswered c → is_kept_of h.next_job c ≡ true → ⊥
    calls c there of =
        let d = of_trace h x.setting (seen x) c s.keeps there in
        let inside = kept_inside (λ (z : Submitted). is_none z.answer) (submitted (seen x)) d.0 d.1 in
        let j = some_is_true (λ (z : ℕ). z == h.next_job) (job_of d.0.call.purpose) (ap (is_kept_of h.next_job) d.2 ∙ of) in
        let numbered : is_some (job_numbered x.setting (seen x) j.0) ≡ true =
        each_of (λ z. IsTrue (is_some (job_numbered x.setting (seen x) z))) (filter_map (λ (c : Submitted). job_of c.call.purpose) (submitted (seen x))) j.0
        (all_front (λ z. IsTrue (is_some (job_numbered x.setting (seen x) z))) (filter_map (λ (c : Submitted). job_of c.call.purpose) (submitted (seen x))) (filter_map (λ (z : Child). z.job) (children (seen x))) s.keeps.owned)
        (mapped_inside (λ (c : Submitted). job_of c.call.purpose) (submitted (seen x)) d.0 j.0 inside.0 j.1)
        in
        not_below (numbered_below x.setting (seen x) h.next_job (subst (λ z. is_some (job_numbered x.setting (seen x) z) ≡ true) ((Decides-eqb j.0 h.next_job).0 j.2) numbered))

-- ---- a line is heard

-- Whose sessions a line leaves have one name.
one_name : (c : Command) (m n : MemberState) → leaves_member c m ≡ true → leaves_member c n ≡ true → m.who.lockspace ≡ n.who.lockspace
one_name (RemLockspace a) m n is it = sym (named m is) ∙ named n it where
  named : (z : MemberState) → (z.joined && is_session_arg z.who a) ≡ true → a.name ≡ z.who.lockspace
  named z leaves =
      (bytes_eq-Decides a.name z.who.lockspace).0 (left (bytes_eq a.name z.who.lockspace) (a.id == z.who.id) (same_place a.path a.offset z.who.path z.who.offset) (and_true z.joined (is_session_arg z.who a) leaves).1)
    where
      left : (p q r : Bool) → (p && q && r) ≡ true → p ≡ true
      left true q r is = refl
      left false q r is = absurd (false_is_true is)
one_name c m n is it = absurd (false_is_true is)

module _ (h : HostState) (c : Command) (k : IsSound h) (new : IsNew h h.next_job) where
  record Turned (z : MemberState) : Type 0 where
    old : MemberState
    there : Contains h.members old
    who : old.who ≡ z.who
    leaving : (old.known.leaving ≡ z.known.leaving) ⊎ ((z.known.leaving ≡ Some h.next_job) × (leaves_member c old ≡ true))

  turned : (z : MemberState) → Contains (heard_line c h).members z → Turned z
  turned z there =
      let m = in_map (λ (m : MemberState). cond (leaves_member c m) (member_leaving h m) m) h.members z there in
      let one = by m.0 (leaves_member c m.0) refl in
      record {
        old = m.0;
        there = m.1;
        who = one.0 ∙ ap (λ (y : MemberState). y.who) m.2;
        leaving = subst (λ (y : MemberState). (m.0.known.leaving ≡ y.known.leaving) ⊎ ((y.known.leaving ≡ Some h.next_job) × (leaves_member c m.0 ≡ true))) m.2 one.1;
      } where
        left : (m : MemberState) → leaves_member c m ≡ true → (o : Option Begun)
            → (m.who ≡ (elim o as (λ z. MemberState) [
              | Some b ↦ m
              | None ↦ (let q : DeltaKnown = m.known in record m {
                leaving = Some (record { at = h.entries - 1; reading = h.reading; kills_from = h.entries });
                known = record q { leaving = Some h.next_job };
              })
            ]).who)
            × ((m.known.leaving ≡ (elim o as (λ z. MemberState) [
              | Some b ↦ m
              | None ↦ (let q : DeltaKnown = m.known in record m {
                leaving = Some (record { at = h.entries - 1; reading = h.reading; kills_from = h.entries });
                known = record q { leaving = Some h.next_job };
              })
            ]).known.leaving)
            ⊎ (((elim o as (λ z. MemberState) [
              | Some b ↦ m
              | None ↦ (let q : DeltaKnown = m.known in record m {
                leaving = Some (record { at = h.entries - 1; reading = h.reading; kills_from = h.entries });
                known = record q { leaving = Some h.next_job };
              })
            ]).known.leaving ≡ Some h.next_job) × (leaves_member c m ≡ true)))
        left m is (Some b) = (refl, inl refl)
        left m is None = (refl, inr (refl, is))

        by : (m : MemberState) (b : Bool) → leaves_member c m ≡ b
            → (m.who ≡ (cond b (member_leaving h m) m).who)
            × ((m.known.leaving ≡ (cond b (member_leaving h m) m).known.leaving) ⊎ (((cond b (member_leaving h m) m).known.leaving ≡ Some h.next_job) × (leaves_member c m ≡ true)))
        by m true is = left m is m.leaving
        by m false is = (refl, inl refl)

  before : (s : Session) → Contains (whos (heard_line c h)) s → Contains (whos h) s
  before s there =
      let m = in_map (λ (m : MemberState). m.who) (heard_line c h).members s there in
      let z = turned m.0 m.1 in
      subst (Contains (whos h)) (z.who ∙ m.2) (contains_map (λ (m : MemberState). m.who) h.members z.old z.there)

  heard_sound : IsSound (heard_line c h)
  heard_sound =
      record {
        names = λ s t a b. k.names s t (before s a) (before t b);
        leavings = record { calls = calls; apart = apart; others = others };
        joinings = record {
          calls = λ m d j there inside is of. (let z = turned m there in
              let r = k.joinings.calls z.old d j z.there inside (ap (λ (t : Session). t.job) z.who ∙ is) of in
              (subst (λ (t : Session). (d.session == t.number) ≡ true) z.who r.0, r.1));
          apart = λ m n j a b is it. (let y = turned m a in let z = turned n b in
              sym y.who ∙ k.joinings.apart y.old z.old j y.there z.there (ap (λ (t : Session). t.job) y.who ∙ is) (ap (λ (t : Session). t.job) z.who ∙ it) ∙ z.who);
        };
        laid = laid_as h (heard_line c h) refl before k.laid;
      } where
        same : (m : MemberState) (j : ℕ) → m.known.leaving ≡ Some h.next_job → m.known.leaving ≡ Some j → Some j ≡ Some h.next_job
        same m j is leaves = sym leaves ∙ is

        calls : (m : MemberState) (d : OpenCall) (j : ℕ) → Contains (heard_line c h).members m → Contains h.unanswered d → m.known.leaving ≡ Some j → is_kept_of j d ≡ true → (d.session == m.who.number) ≡ true
        calls m d j there inside leaves of = by (turned m there) where
          by : Turned m → (d.session == m.who.number) ≡ true
          by z = elim z.leaving [
            | inl old ↦ subst (λ (t : Session). (d.session == t.number) ≡ true) z.who (k.leavings.calls z.old d j z.there inside (old ∙ leaves) of)
            | inr now ↦ absurd (new.calls d inside (subst (λ n. is_kept_of n d ≡ true) (some_value j h.next_job (same m j now.0 leaves)) of))
          ]

        apart : (m n : MemberState) (j : ℕ) → Contains (heard_line c h).members m → Contains (heard_line c h).members n → m.known.leaving ≡ Some j → n.known.leaving ≡ Some j → m.who ≡ n.who
        apart m n j a b is it = by (turned m a) (turned n b) where
          both : (y : Turned m) (z : Turned n) → (y.old.known.leaving ≡ m.known.leaving) ⊎ ((m.known.leaving ≡ Some h.next_job) × (leaves_member c y.old ≡ true))
              → (z.old.known.leaving ≡ n.known.leaving) ⊎ ((n.known.leaving ≡ Some h.next_job) × (leaves_member c z.old ≡ true)) → y.old.who ≡ z.old.who
          both y z (inl p) (inl q) = k.leavings.apart y.old z.old j y.there z.there (p ∙ is) (q ∙ it)
          both y z (inl p) (inr q) = absurd (new.leaving y.old y.there (p ∙ is ∙ same n j q.0 it))
          both y z (inr p) (inl q) = absurd (new.leaving z.old z.there (q ∙ it ∙ same m j p.0 is))
          both y z (inr p) (inr q) =
              k.names y.old.who z.old.who (contains_map (λ (m : MemberState). m.who) h.members y.old y.there) (contains_map (λ (m : MemberState). m.who) h.members z.old z.there) (one_name c y.old z.old p.1 q.1)

          by : Turned m → Turned n → m.who ≡ n.who
          by y z = sym y.who ∙ both y z y.leaving z.leaving ∙ z.who

        others : (m n : MemberState) (j : ℕ) → Contains (heard_line c h).members m → Contains (heard_line c h).members n → m.who.job ≡ Some j → n.known.leaving ≡ Some j → ⊥
        others m n j a b is it = by (turned m a) (turned n b) where
          one : (y : Turned m) (z : Turned n) → (z.old.known.leaving ≡ n.known.leaving) ⊎ ((n.known.leaving ≡ Some h.next_job) × (leaves_member c z.old ≡ true)) → ⊥
          one y z (inl q) = k.leavings.others y.old z.old j y.there z.there (ap (λ (t : Session). t.job) y.who ∙ is) (q ∙ it)
          one y z (inr q) = new.joining y.old y.there (ap (λ (t : Session). t.job) y.who ∙ is ∙ same n j q.0 it)

          by : Turned m → Turned n → ⊥
          by y z = one y z z.leaving

-- A plain line leaves no session.
plain_stays : (c : Command) → is_plain_line (Ok c) ≡ true → (m : MemberState) → leaves_member c m ≡ false
plain_stays (RemLockspace a) is m = absurd (false_is_true is)
plain_stays c is m = refl

module _ (h : HostState) (c : Command) (plain : is_plain_line (Ok c) ≡ true) where
  heard_cut : IsCut h (heard_line c h)
  heard_cut =
      record {
        from = λ z there.
            (let m = in_map (λ (m : MemberState). cond (leaves_member c m) (member_leaving h m) m) h.members z there in
            let same : m.0 ≡ z = sym (ap (λ b. cond b (member_leaving h m.0) m.0) (plain_stays c plain m.0)) ∙ m.2 in
            record { old = m.0; there = m.1; who = ap (λ (y : MemberState). y.who) same; leaving = ap (λ (y : MemberState). y.known.leaving) same });
        calls = λ d there. there;
        config = refl;
      }

  given_cut : (g : Grant) → IsCut h (given_up h c g)
  given_cut g = record { from = heard_cut.from; calls = λ d there. there; config = refl }

-- A call for a new job.
job_call : (h g : HostState) (n : ℕ) → IsNew h n → IsCut h g → IsSound h → (session : ℕ) (path : List ℕ) (p : Purpose) (offset : ℕ) (op : Op) → job_of p ≡ Some n → IsSound (with_call session path p offset op g)
job_call h g n new cut k session path p offset op job =
    sound_call g (next_submitted g session path p offset op)
    (record {
      leaving = λ m j there leaves of. (let w = cut.from m there in absurd (new.leaving w.old w.there (w.leaving ∙ leaves ∙ its j of)));
      joining = λ m j there is of. (let w = cut.from m there in absurd (new.joining w.old w.there (ap (λ (t : Session). t.job) w.who ∙ is ∙ its j of)));
    }) (sound_cut h g cut k) where
      its : (j : ℕ) → some_is (λ i. i == j) (job_of p) ≡ true → Some j ≡ Some n
      its j of = ap (λ i. Some i) (sym ((Decides-eqb n j).0 (sym (ap (λ o. some_is (λ i. i == j) o) job) ∙ of)))

-- ---- what it comes to is done

module _ (h : HostState) (c : Command) (k : IsSound h) (new : IsNew h h.next_job) where
  -- What is done of the member that is found.
  found_sound : (n : ℕ) (f : MemberState → HostState → HostState) → ((m : MemberState) → IsSound (f m (heard_line c h))) → IsSound (at_member n f (heard_line c h))
  found_sound n f done = by (member_numbered (heard_line c h) n) where
    by : (o : Option MemberState) → IsSound (elim o as (λ z. HostState) [ None ↦ heard_line c h | Some m ↦ f m (heard_line c h) ])
    by None = heard_sound h c k new
    by (Some m) = done m

  module _ (plain : is_plain_line (Ok c) ≡ true) where
    called : (g : HostState) → IsCut h g → (session : ℕ) (path : List ℕ) (p : Purpose) (offset : ℕ) (op : Op) → job_of p ≡ Some h.next_job → IsSound (with_call session path p offset op g)
    called g cut session path p offset op job = job_call h g h.next_job new cut k session path p offset op job

    given_sound : (m : MemberState) (g : Grant) (next : LeaseNext) → IsSound (after_giving h c m g next)
    given_sound m g next = by (held_on (given_up h c g) m (spot_of_grant g)) where
      z : IsSound (given_up h c g)
      z = sound_cut h (given_up h c g) (given_cut h c plain g) k

      by : (es : List Grant) → IsSound (elim es as (λ z. HostState) [
        | e ∷ rest ↦ with_reply h.next_job Done (given_up h c g)
        | [] ↦ carrying_lease m (spot_of_grant g) (ForJob h.next_job) next (given_up h c g)
      ])
      by (e ∷ rest) = sound_reply (given_up h c g) h.next_job Done z
      by [] = leased m (spot_of_grant g) (ForJob h.next_job) next (given_up h c g) z (λ path s offset op. called (given_up h c g) (given_cut h c plain g) m.who.number path (Lease (ForJob h.next_job) s) offset op refl)

  -- Of a joining it is given.
  pub decided_sound : (d : Decision) → decision_of h c ≡ d → ((n : ℕ) (a : LockspaceArg) → d ≡ Joins n a → IsSound (deciding c (Joins n a) h)) → IsSound (deciding c d h)
  decided_sound (Replies r) is join = same_members h (answered_line (Ok c) r h) refl refl refl k
  decided_sound (Joins n a) is join = join n a refl
  decided_sound (Leaves s) is join = found_sound s.number (λ m. signalling_and_refusing m (Some h.next_job)) (λ m. stopping_sound m (Some h.next_job) (heard_line c h) (heard_sound h c k new))
  decided_sound (ReadsArea s r) is join = called (plain_by h c (ReadsArea s r) is refl) (heard_line c h) (heard_cut h c (plain_by h c (ReadsArea s r) is refl)) s.number r.path _ r.offset _ refl
  decided_sound (Shares s lver) is join = granted s h.next_job c Shared lver (heard_line c h) (heard_sound h c k new)
  decided_sound (GivesUp s g) is join =
      found_sound s.number (λ m h'. after_giving h c m g (releasing_next (given_up h c g) m (spot_of_grant g) g))
      (λ m. given_sound (plain_by h c (GivesUp s g) is refl) m g (releasing_next (given_up h c g) m (spot_of_grant g) g))
  decided_sound (TakesOver s g) is join =
      granted s h.next_job c g.mode g.lver (given_up h c g) (sound_cut h (given_up h c g) (given_cut h c (plain_by h c (TakesOver s g) is refl) g) k)
  decided_sound (ConvertsTo s r mode) is join =
      found_sound s.number (λ m g. carrying_lease m (spot_of r) (ForJob h.next_job) (converting_next g m (spot_of r) mode r.name) g)
      (λ m. leased m (spot_of r) (ForJob h.next_job) (converting_next (heard_line c h) m (spot_of r) mode r.name) (heard_line c h) (heard_sound h c k new)
      (λ path t offset op. called (plain_by h c (ConvertsTo s r mode) is refl) (heard_line c h) (heard_cut h c (plain_by h c (ConvertsTo s r mode) is refl)) m.who.number path (Lease (ForJob h.next_job) t) offset op refl))
  decided_sound (Requests s r) is join = called (plain_by h c (Requests s r) is refl) (heard_line c h) (heard_cut h c (plain_by h c (Requests s r) is refl)) s.number r.path _ r.offset _ refl
  decided_sound (SetsValue s at v) is join = called (plain_by h c (SetsValue s at v) is refl) (heard_line c h) (heard_cut h c (plain_by h c (SetsValue s at v) is refl)) s.number at.path _ _ _ refl
  decided_sound (GetsValue s at) is join = called (plain_by h c (GetsValue s at) is refl) (heard_line c h) (heard_cut h c (plain_by h c (GetsValue s at) is refl)) s.number at.path _ _ _ refl

-- ---- a joining begins

-- Where it is decided, no member has its name.
none_named : (h : HostState) (a b : LockspaceArg) (n : ℕ) → decision_of h (AddLockspace a) ≡ Joins n b → member_named h a.name ≡ None
unfolding decision_of
none_named h a b n is = by (member_named h a.name) is where
  refused : (m : MemberState) (o : Option Reply) → unless_refused (option_or o (Some (Joined m.known.generation)) ∷ choose (nat_le most_lockspaces (length h.members)) (LimitReached Lockspaces) ∷ []) (Joins h.born a) ≡ Joins n b → ⊥
  refused m None e = true_is_false (ap is_of_line e)
  refused m (Some r) e = true_is_false (ap is_of_line e)

  by : (o : Option MemberState) → unless_refused (joined_refused o ∷ choose (nat_le most_lockspaces (length h.members)) (LimitReached Lockspaces) ∷ []) (Joins h.born a) ≡ Joins n b → o ≡ None
  by None e = refl
  by (Some m) e = absurd (refused m (member_refusal m) e)

module _ (h : HostState) (c : Command) (k : IsSound h) (new : IsNew h h.next_job) (plain : is_plain_line (Ok c) ≡ true) (a : LockspaceArg) (none : member_named h a.name ≡ None)
    (range : (1 ≤ a.id) × (a.id ≤ h.config.layout.hosts)) where
  abbrev its_session : Session
  its_session = joining_session h.born h.next_job a

  abbrev joined_by : HostState
  joined_by = let g : HostState = heard_line c h in record g { born = g.born + 1; members = with_member (new_member g.config (joining_session g.born h.next_job a)) g.members }

  came : (z : MemberState) → Contains joined_by.members z → (new_member h.config its_session ≡ z) ⊎ Was h z
  came z there = elim (put_inside (λ (a b : MemberState). is_text_before a.who.lockspace b.who.lockspace) (new_member h.config its_session) (heard_line c h).members z there) [
    | inl is ↦ inl is
    | inr old ↦ inr ((heard_cut h c plain).from z old)
  ]

  of_whos : (s : Session) → Contains (whos joined_by) s → (its_session ≡ s) ⊎ Contains (whos h) s
  of_whos s there =
      let m = in_map (λ (m : MemberState). m.who) joined_by.members s there in
      elim (came m.0 m.1) [
        | inl is ↦ inl (ap (λ (y : MemberState). y.who) is ∙ m.2)
        | inr w ↦ inr (subst (Contains (whos h)) (w.who ∙ m.2) (contains_map (λ (m : MemberState). m.who) h.members w.old w.there))
      ]

  absent : (t : Session) → Contains (whos h) t → t.lockspace ≡ a.name → ⊥
  absent t there name =
      let m = in_map (λ (m : MemberState). m.who) h.members t there in
      true_is_false
      (sym ((bytes_eq-Decides m.0.who.lockspace a.name).1 (ap (λ (y : Session). y.lockspace) m.2 ∙ name)) ∙ find_fails (λ (z : MemberState). bytes_eq z.who.lockspace a.name) h.members m.0 none m.1)

  unleaving : (z : MemberState) (j : ℕ) → new_member h.config its_session ≡ z → z.known.leaving ≡ Some j → ⊥
  unleaving z j is leaves = none_some j (ap (λ (y : MemberState). y.known.leaving) is ∙ leaves)

  its_job : (z : MemberState) (j : ℕ) → new_member h.config its_session ≡ z → z.who.job ≡ Some j → Some j ≡ Some h.next_job
  its_job z j is job = sym (ap (λ (y : MemberState). y.who.job) is ∙ job)

  joined_sound : IsSound joined_by
  joined_sound =
      record {
        names = λ s t at_s at_t same. names s t same (of_whos s at_s) (of_whos t at_t);
        leavings = record {
          calls = λ m d j there inside leaves of. leaving_calls m d j (came m there) inside leaves of;
          apart = λ m n j at_m at_n is it. leaving_apart m n j (came m at_m) (came n at_n) is it;
          others = λ m n j at_m at_n is it. leaving_others m n j (came m at_m) (came n at_n) is it;
        };
        joinings = record {
          calls = λ m d j there inside is of. joining_calls m d j (came m there) inside is of;
          apart = λ m n j at_m at_n is it. joining_apart m n j (came m at_m) (came n at_n) is it;
        };
        laid = record { program = k.laid.program; geometry = k.laid.geometry; ids = λ s there. ids s (of_whos s there); joins = k.laid.joins };
      } where
        names : (s t : Session) → s.lockspace ≡ t.lockspace → (its_session ≡ s) ⊎ Contains (whos h) s → (its_session ≡ t) ⊎ Contains (whos h) t → s ≡ t
        names s t same (inl p) (inl q) = sym p ∙ q
        names s t same (inl p) (inr q) = absurd (absent t q (sym same ∙ sym (ap (λ (y : Session). y.lockspace) p)))
        names s t same (inr p) (inl q) = absurd (absent s p (same ∙ sym (ap (λ (y : Session). y.lockspace) q)))
        names s t same (inr p) (inr q) = k.names s t p q same

        leaving_calls : (m : MemberState) (d : OpenCall) (j : ℕ) → (new_member h.config its_session ≡ m) ⊎ Was h m → Contains h.unanswered d → m.known.leaving ≡ Some j → is_kept_of j d ≡ true → (d.session == m.who.number) ≡ true
        leaving_calls m d j (inl is) inside leaves of = absurd (unleaving m j is leaves)
        leaving_calls m d j (inr z) inside leaves of = subst (λ (t : Session). (d.session == t.number) ≡ true) z.who (k.leavings.calls z.old d j z.there inside (z.leaving ∙ leaves) of)

        leaving_apart : (m n : MemberState) (j : ℕ) → (new_member h.config its_session ≡ m) ⊎ Was h m → (new_member h.config its_session ≡ n) ⊎ Was h n → m.known.leaving ≡ Some j → n.known.leaving ≡ Some j → m.who ≡ n.who
        leaving_apart m n j (inl p) other is it = absurd (unleaving m j p is)
        leaving_apart m n j (inr y) (inl q) is it = absurd (unleaving n j q it)
        leaving_apart m n j (inr y) (inr z) is it = sym y.who ∙ k.leavings.apart y.old z.old j y.there z.there (y.leaving ∙ is) (z.leaving ∙ it) ∙ z.who

        leaving_others : (m n : MemberState) (j : ℕ) → (new_member h.config its_session ≡ m) ⊎ Was h m → (new_member h.config its_session ≡ n) ⊎ Was h n → m.who.job ≡ Some j → n.known.leaving ≡ Some j → ⊥
        leaving_others m n j one (inl q) is it = unleaving n j q it
        leaving_others m n j (inl p) (inr z) is it = new.leaving z.old z.there (z.leaving ∙ it ∙ its_job m j p is)
        leaving_others m n j (inr y) (inr z) is it = k.leavings.others y.old z.old j y.there z.there (ap (λ (t : Session). t.job) y.who ∙ is) (z.leaving ∙ it)

        joining_calls : (m : MemberState) (d : OpenCall) (j : ℕ) → (new_member h.config its_session ≡ m) ⊎ Was h m → Contains h.unanswered d → m.who.job ≡ Some j → is_kept_of j d ≡ true
            → ((d.session == m.who.number) ≡ true) × (is_delta_purpose d.purpose ≡ true)
        joining_calls m d j (inl p) inside is of = absurd (new.calls d inside (subst (λ i. is_kept_of i d ≡ true) (some_value j h.next_job (its_job m j p is)) of))
        joining_calls m d j (inr z) inside is of =
            let r = k.joinings.calls z.old d j z.there inside (ap (λ (t : Session). t.job) z.who ∙ is) of in
            (subst (λ (t : Session). (d.session == t.number) ≡ true) z.who r.0, r.1)

        joining_apart : (m n : MemberState) (j : ℕ) → (new_member h.config its_session ≡ m) ⊎ Was h m → (new_member h.config its_session ≡ n) ⊎ Was h n → m.who.job ≡ Some j → n.who.job ≡ Some j → m.who ≡ n.who
        joining_apart m n j (inl p) (inl q) is it = ap (λ (y : MemberState). y.who) (sym p ∙ q)
        joining_apart m n j (inl p) (inr z) is it = absurd (new.joining z.old z.there (ap (λ (t : Session). t.job) z.who ∙ it ∙ its_job m j p is))
        joining_apart m n j (inr y) (inl q) is it = absurd (new.joining y.old y.there (ap (λ (t : Session). t.job) y.who ∙ is ∙ its_job n j q it))
        joining_apart m n j (inr y) (inr z) is it =
            sym y.who ∙ k.joinings.apart y.old z.old j y.there z.there (ap (λ (t : Session). t.job) y.who ∙ is) (ap (λ (t : Session). t.job) z.who ∙ it) ∙ z.who

        ids : (s : Session) → (its_session ≡ s) ⊎ Contains (whos h) s → (1 ≤ s.id) × (s.id ≤ h.config.layout.hosts)
        ids s (inl p) = subst (λ (t : Session). (1 ≤ t.id) × (t.id ≤ h.config.layout.hosts)) p range
        ids s (inr q) = k.laid.ids s q

  joins_sound : (n : ℕ) → IsSound (deciding c (Joins n a) h)
  joins_sound n =
      sound_call joined_by (next_submitted joined_by h.born a.path (Joining h.next_job FirstRead) (delta_offset h.config.layout a.offset a.id) (ReadSectors 1))
      (record {
        leaving = λ m j there leaves of. leaving m j (came m there) leaves (its j of);
        joining = λ m j there is of. joining m j (came m there) is (its j of);
      }) joined_sound where
        its : (j : ℕ) → (h.next_job == j) ≡ true → Some j ≡ Some h.next_job
        its j of = ap (λ i. Some i) (sym ((Decides-eqb h.next_job j).0 of))

        leaving : (m : MemberState) (j : ℕ) → (new_member h.config its_session ≡ m) ⊎ Was h m → m.known.leaving ≡ Some j → Some j ≡ Some h.next_job → (h.born == m.who.number) ≡ true
        leaving m j (inl p) leaves same = absurd (unleaving m j p leaves)
        leaving m j (inr z) leaves same = absurd (new.leaving z.old z.there (z.leaving ∙ leaves ∙ same))

        joining : (m : MemberState) (j : ℕ) → (new_member h.config its_session ≡ m) ⊎ Was h m → m.who.job ≡ Some j → Some j ≡ Some h.next_job → ((h.born == m.who.number) ≡ true) × (true ≡ true)
        joining m j (inl p) is same = (subst (λ (y : MemberState). (h.born == y.who.number) ≡ true) p (number_itself h.born), refl)
        joining m j (inr z) is same = absurd (new.joining z.old z.there (ap (λ (t : Session). t.job) z.who ∙ is ∙ same))

-- ---- the whole

-- A line leaves a host sound.
pub lines_are_sound : (h : HostState) (x : Step) (text : List ℕ) → Stands Wake h x → IsSound h → ((c : Command) → h.config.read text ≡ Ok c → LastIsEnough h x c)
    → IsSound (lining (h.config.read text) h)
lines_are_sound h x text s k last = said (h.config.read text) refl where
  joins : (c : Command) → h.config.read text ≡ Ok c → (n : ℕ) (a : LockspaceArg) → decision_of h c ≡ Joins n a → IsSound (deciding c (Joins n a) h)
  joins c says n a is =
      let theirs = subst (λ e. IsDecidedFor x.setting (seen x) c e) (commands_are_decided Wake h x c s (last c says) ∙ is) (decisions_are_theirs x.setting (seen x) x.reading c) in
      joins_sound h c k (is_new h x s) (plain_by h c (Joins n a) is refl) a (none_named h a a n (sym (ap (decision_of h) theirs.0) ∙ is)) (k.laid.joins text a (says ∙ ap (λ d. Ok d) theirs.0)) n

  said : (o : Result Command ℕ) → h.config.read text ≡ o → IsSound (lining o h)
  said (Err column) says = same_members h (answered_line (Err column) (Misread column) h) refl refl refl k
  said (Ok c) says = decided_sound h c k (is_new h x s) (decision_of h c) refl (λ n a is. joins c says n a is)
