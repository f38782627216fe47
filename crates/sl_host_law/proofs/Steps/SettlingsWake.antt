-- Leases are settled by place: each is found again with its member, and none goes while the others are settled.
use Rattle.sl_due_facts.proofs.Acts.LoopsKeep.{for_each_keeps, when_keeps}
use Rattle.sl_due_facts.proofs.Acts.SessionsStay.{Stays, delta_stays, lease_stays}
use Rattle.sl_due_facts.specs.Acts.Acts.{Has, next_of_settling}
use Rattle.sl_host_law.proofs.Answers.SettlingsMay.{settlings_may}
use Rattle.sl_host_law.proofs.Answers.WakingsFollow.{wakings_follow}
use Rattle.sl_host_law.specs.Answers.LeaseDecisions.{carrying_lease}
use Rattle.sl_area.specs.AreaSizes.{Layout}
use Rattle.sl_host_law.proofs.Calls.MemberCalls.SpotsMore.{spot_itself}
use Rattle.sl_host_law.specs.Decisions.CommandDecisions.{is_active_member}
use Rattle.sl_due.specs.DueWake.{for_sessions, join_on_wake, on_wake, renew_on_wake, settle_on_wake, settlings}
use Rattle.sl_due.specs.Steps.{Step, for_each, seen, when}
use Rattle.sl_host_law.proofs.SharedFacts.MembersAreSessions.{numbers_are_apart}
use Rattle.sl_host_law.proofs.SharedFacts.PlainLists.{at_some, found_some, mapped_at, one_there}
use Rattle.sl_host_law.proofs.SharedFacts.PlainOrders.{put_old}
use Rattle.sl_host_state.specs.KeptState.{HostState, LeaseState, MemberState}
use Rattle.sl_host_state.specs.MadeEffects.{is_lease_on, joining_calling, known_calling, lease_calling, leases_calling, leases_working, member_calling, new_lease, next_submitted, value_calling, with_call}
use Rattle.sl_host_state.specs.HostStands.{Stands, pair_of}
use Rattle.sl_host_law.proofs.Steps.AreasLie.{placed, spots_begin}
use Rattle.sl_host_law.proofs.Steps.JoiningsWake.{joins}
use Rattle.sl_host_law.proofs.Steps.LeasesAreKnown.{settles_as_known}
use Rattle.sl_host_law.proofs.Steps.PassesFollow.{IsPass, Passed, all}
use Rattle.sl_host_law.proofs.Steps.SoundParts.{sound_call}
use Rattle.sl_host_law.specs.Steps.Leases.{settling_next}
use Rattle.sl_host_law.specs.Steps.Passes.{at_member, for_members, member_numbered}
use Rattle.sl_host_law.specs.Steps.SoundHosts.{IsSound}
use Rattle.sl_host_law.specs.Steps.WakePasses.{settling_all, settling_here, waking}
use Rattle.sl_host_law.specs.Steps.WakesFollow.{WakesFollow}
use Rattle.sl_trace.specs.Leases.{is_lease_call, is_on, is_spot_before, lease_spots, open_on, spot_of_call, value_written}
use Rattle.sl_trace.specs.declared.lease.LeaseNext.TheVariants.{AnswerJob, BecomeExclusive, BecomeShared, GrantJob, Nothing, ReadFor, WriteBlock, WriteLeader}
use Rattle.sl_trace.specs.declared.lease.LeaseNext.{LeaseNext}
use Rattle.sl_host_law.proofs.StepParts.EndsAreTaken.{ends_are_taken}
use Rattle.sl_host_law.proofs.StepParts.GoneDoNothing.{gone_do_nothing}
use Rattle.sl_host_law.proofs.StepParts.MembersWake.{members_wake}
use Rattle.sl_host_law.specs.StepParts.Ends.{renewing_in, writing_own}
use Rattle.sl_host_law.specs.StepParts.Signals.{over}
use Rattle.sl_host_law.specs.StepParts.Wakes.{bits_in, delta_in, is_free_at}
use Rattle.sl_area.specs.AreaLayout.{delta_offset}
use Rattle.sl_words.proofs.Lists.{contains_first, contains_map, contains_more, find_fails, find_inside, got_inside, in_map}
use Rattle.sl_host_law.specs.Questions.Members.{IsMemberAt}
use Rattle.sl_sector.specs.declared.sector.DeltaRec.{DeltaRec}
use Rattle.sl_sector.specs.declared.sector.DeltaState.TheVariants.{Live}
use Rattle.sl_sector.specs.declared.sector.Rec.TheVariants.{DeltaIs}
use Rattle.sl_trace.specs.DeltaDecisions.{delta_known, delta_of_session, delta_record, is_renewal_due, next_renewal}
use Rattle.sl_trace.specs.Sessions.{calls_of, is_active, is_joined}
use Rattle.sl_due.specs.CarriedDelta.{carry_delta}
use Rattle.sl_due.specs.DueRequests.{bits_due}
use Rattle.sl_trace.specs.declared.session.Session.{Session}
use Rattle.sl_trace.specs.Traces.{Submitted, job_of, same_spot}
use Rattle.sl_trace.specs.declared.effects.LeaseStep.{LeaseStep}
use Rattle.sl_trace.specs.declared.effects.Op.TheVariants.{WriteRecord}
use Rattle.sl_trace.specs.declared.effects.Op.{Op}
use Rattle.sl_trace.specs.declared.effects.Purpose.TheVariants.{Lease, Renewal}
use Rattle.sl_trace.specs.declared.effects.Purpose.{Purpose}
use Rattle.sl_trace.specs.declared.effects.Spot.{Spot}
use Rattle.sl_trace.specs.declared.effects.Work.TheVariants.{Settling}
use Rattle.sl_trace.specs.declared.input.Input.TheVariants.{Wake}
use Rattle.sl_words.proofs.CaseLaws.{false_is_true, true_is_false}
use Rattle.sl_words.specs.Words.{is_empty, some_is}
use Rattle.std.proofs.Common.{ap, refl, subst, sym, ◌∙◌}
use Rattle.std.proofs.lemmas.Bool.Decides.{Decides-eqb}
use Rattle.std.specs.List.{list_any}
use Rattle.std.specs.Option.{option_or}
use Rattle.sl_due.specs.CarriedLease.{settle}
use Rattle.sl_host_law.specs.Answers.WakingsFollow.{joining_by_time}
use Rattle.sl_words.specs.Orders.{put_in}
use Rattle.std.specs.Prelude.{Bool, Contains, List, None, Option, Some, cond, false, find, is_some, map, option_map, slice_get, true, [], ℕ, ◌+◌, ◌&&◌, ◌==◌, ◌∷◌, ◌≡◌}

-- ---- a call without a job

-- A call of no job is nobody's.
pub unowned : (h : HostState) (session : ℕ) (path : List ℕ) (p : Purpose) (offset : ℕ) (op : Op) → job_of p ≡ None → IsSound h → IsSound (with_call session path p offset op h)
unowned h session path p offset op none k =
    sound_call h (next_submitted h session path p offset op)
    (record {
      leaving = λ m j there leaves of. absurd (true_is_false (sym of ∙ ap (λ o. some_is (λ n. n == j) o) none));
      joining = λ m j there job of. absurd (true_is_false (sym of ∙ ap (λ o. some_is (λ n. n == j) o) none));
    }) k

-- What a settling does is one call, or nothing.
by_calls : (P : HostState → Type 0) (m : MemberState) (at : Spot) (next : LeaseNext) (h : HostState) → P h
    → ((path : List ℕ) (step : LeaseStep) (offset : ℕ) (op : Op) → P (with_call m.who.number path (Lease Settling step) offset op h)) → P (carrying_lease m at Settling next h)
by_calls P m at Nothing h p calls = p
by_calls P m at (ReadFor step) h p calls = calls _ _ _ _
by_calls P m at (WriteBlock step b) h p calls = calls _ _ _ _
by_calls P m at (WriteLeader step l) h p calls = calls _ _ _ _
by_calls P m at (AnswerJob r) h p calls = p
by_calls P m at (GrantJob mode lver) h p calls = p
by_calls P m at (BecomeShared lver l) h p calls = calls _ _ _ _
by_calls P m at (BecomeExclusive lver b) h p calls = calls _ _ _ _

-- ---- leases stay

spot_of_called : (c : Submitted) (at : Spot) (l : LeaseState) → (cond (is_lease_on at l) (lease_calling c l) l).spot ≡ l.spot
spot_of_called c at l = by (is_lease_on at l) where
  by : (b : Bool) → (cond b (lease_calling c l) l).spot ≡ l.spot
  by true = refl
  by false = refl

spot_of_valued : (g : Layout) (c : Submitted) (l : LeaseState) → (value_calling g c l).spot ≡ l.spot
spot_of_valued g c l = by (is_on g l.spot c.call) where
  by : (b : Bool) → (cond b (record l { value = option_or (option_map pair_of (value_written c)) l.value }) l).spot ≡ l.spot
  by true = refl
  by false = refl

mapped_spots : (f : LeaseState → LeaseState) (ls : List LeaseState) (at : Spot) → ((l : LeaseState) → (f l).spot ≡ l.spot) → Contains (map (λ (l : LeaseState). l.spot) ls) at → Contains (map (λ (l : LeaseState). l.spot) (map f ls)) at
mapped_spots f ls at same there =
    let l = in_map (λ (l : LeaseState). l.spot) ls at there in
    subst (Contains (map (λ (l : LeaseState). l.spot) (map f ls))) (same l.0 ∙ l.2) (contains_map (λ (l : LeaseState). l.spot) (map f ls) (f l.0) (contains_map f ls l.0 l.1))

spots_stay : (g : Layout) (c : Submitted) (ls : List LeaseState) (at : Spot) → Contains (map (λ (l : LeaseState). l.spot) ls) at → Contains (map (λ (l : LeaseState). l.spot) (leases_calling g c ls)) at
spots_stay g c ls at there = by (is_lease_call c) where
  works : (b : Bool)
      → Contains
      (map (λ (l : LeaseState). l.spot)
      (cond b (map (λ l. cond (is_lease_on (spot_of_call g c) l) (lease_calling c l) l) ls) (put_in (λ a b. is_spot_before a.spot b.spot) (lease_calling c (new_lease (spot_of_call g c))) ls))) at
  works true = mapped_spots (λ l. cond (is_lease_on (spot_of_call g c) l) (lease_calling c l) l) ls at (λ l. spot_of_called c (spot_of_call g c) l) there
  works false =
      let l = in_map (λ (l : LeaseState). l.spot) ls at there in
      let new : LeaseState = lease_calling c (new_lease (spot_of_call g c)) in
      subst (Contains (map (λ (l : LeaseState). l.spot) (put_in (λ a b. is_spot_before a.spot b.spot) new ls))) l.2
      (contains_map (λ (l : LeaseState). l.spot) (put_in (λ a b. is_spot_before a.spot b.spot) new ls) l.0 (put_old (λ (a b : LeaseState). is_spot_before a.spot b.spot) new ls l.0 l.1))

  by : (b : Bool) → Contains (map (λ (l : LeaseState). l.spot) (cond b (leases_working (spot_of_call g c) c ls) (map (value_calling g c) ls))) at
  by true = works (list_any (is_lease_on (spot_of_call g c)) ls)
  by false = mapped_spots (value_calling g c) ls at (λ l. spot_of_valued g c l) there

-- The session's member, with leases on these areas.
record HasLeases (h : HostState) (s : Session) (spots : List Spot) : Type 0 where
  member : MemberState
  place : ℕ
  there : slice_get h.members place ≡ Some member
  whose : member.who ≡ s
  leased : (at : Spot) → Contains spots at → Contains (map (λ (l : LeaseState). l.spot) member.leases) at

still_leased : (h : HostState) (s : Session) (spots : List Spot) (session : ℕ) (path : List ℕ) (p : Purpose) (offset : ℕ) (op : Op) → HasLeases h s spots → HasLeases (with_call session path p offset op h) s spots
still_leased h s spots session path p offset op k =
    let c : Submitted = next_submitted h session path p offset op in
    record {
      member = member_calling h.config.layout c k.member;
      place = k.place;
      there = mapped_at (member_calling h.config.layout c) h.members k.place k.member k.there;
      whose = by_whose (c.call.session == k.member.who.number);
      leased = λ at inside. by_leases at inside (c.call.session == k.member.who.number);
    } where
      g : Layout
      g = h.config.layout

      called : Bool → MemberState
      called b =
          let c : Submitted = next_submitted h session path p offset op in
          let m : MemberState = k.member in
          cond b (record m { known = known_calling c m.known; joining = joining_calling c m.joining; leases = leases_calling h.config.layout c m.leases }) m

      by_whose : (b : Bool) → (called b).who ≡ s
      by_whose true = k.whose
      by_whose false = k.whose

      by_leases : (at : Spot) → Contains spots at → (b : Bool) → Contains (map (λ (l : LeaseState). l.spot) (called b).leases) at
      by_leases at inside true = spots_stay h.config.layout (next_submitted h session path p offset op) k.member.leases at (k.leased at inside)
      by_leases at inside false = k.leased at inside

-- ---- one area

one_settled : (h : HostState) (x : Step) (s : Session) (at : Spot) (rest : List Spot) → Passed Wake IsSound h x → HasLeases h s (at ∷ rest)
    → Passed Wake IsSound (at_member s.number (settling_here at) h) (settle_on_wake s at x) × HasLeases (at_member s.number (settling_here at) h) s rest
one_settled h x s at rest p k = by (member_numbered h s.number) refl where
  here : IsMemberAt Wake h x k.place k.member
  here = record { stands = p.stands; there = k.there }

  lease : (o : Option LeaseState) → find (is_lease_on at) k.member.leases ≡ o → (l : LeaseState) × (find (is_lease_on at) k.member.leases ≡ Some l)
  lease (Some l) is = (l, is)
  lease None is =
      let l = in_map (λ (l : LeaseState). l.spot) k.member.leases at (k.leased at (contains_first at rest)) in
      absurd (false_is_true (sym (ap is_some is) ∙ found_some (is_lease_on at) k.member.leases l.0 l.1 (ap (λ z. same_spot at z) l.2 ∙ spot_itself at)))

  next : LeaseNext
  next = settling_next h k.member at

  done : Stands Wake (settling_here at k.member h) (settle_on_wake k.member.who at x)
  done =
      let l = lease (find (is_lease_on at) k.member.leases) refl in
      let is = settles_as_known Wake h x k.place k.member here at l.0 l.1 p.kept.laid.program in
      wakings_follow.settles Wake h x k.place k.member at (settling_next h k.member at) here is
      (λ free. settlings_may Wake h x k.place k.member at (settling_next h k.member at) here is
      (placed h k.member at p.kept.laid (contains_map (λ (m : MemberState). m.who) h.members k.member (got_inside h.members k.place k.member k.there))
      (spots_begin Wake h x k.place k.member at here (k.leased at (contains_first at rest)))) free)

  sound : (b : Bool) → IsSound (cond b (carrying_lease k.member at Settling (settling_next h k.member at) h) h)
  sound true = by_calls IsSound k.member at (settling_next h k.member at) h p.kept (λ path step offset op. unowned h k.member.who.number path (Lease Settling step) offset op refl p.kept)
  sound false = p.kept

  fewer : HasLeases h s rest
  fewer = record { member = k.member; place = k.place; there = k.there; whose = k.whose; leased = λ z inside. k.leased z (contains_more at rest z inside) }

  leased : (b : Bool) → HasLeases (cond b (carrying_lease k.member at Settling (settling_next h k.member at) h) h) s rest
  leased true =
      by_calls (λ g. HasLeases g s rest) k.member at (settling_next h k.member at) h fewer
      (λ path step offset op. still_leased h s rest k.member.who.number path (Lease Settling step) offset op fewer)
  leased false = fewer

  same : (m : MemberState) → find (λ (z : MemberState). z.who.number == s.number) h.members ≡ Some m → k.member ≡ m
  same m is =
      let f = find_inside (λ (z : MemberState). z.who.number == s.number) h.members m is in
      let j = at_some h.members m f.0 in
      let number : k.member.who.number ≡ m.who.number = ap (λ (t : Session). t.number) k.whose ∙ sym ((Decides-eqb m.who.number s.number).0 f.1) in
      let place : k.place ≡ j.0 = numbers_are_apart h x.setting (seen x) k.place j.0 k.member m p.stands.keeps k.there j.1 number in
      one_there h.members j.0 k.member m (subst (λ n. slice_get h.members n ≡ Some k.member) place k.there) j.1

  by : (o : Option MemberState) → member_numbered h s.number ≡ o
      → Passed Wake IsSound (elim o as (λ z. HostState) [ None ↦ h | Some m ↦ settling_here at m h ]) (settle_on_wake s at x)
      × HasLeases (elim o as (λ z. HostState) [ None ↦ h | Some m ↦ settling_here at m h ]) s rest
  by None is =
      absurd (true_is_false
      (sym ((Decides-eqb k.member.who.number s.number).1 (ap (λ (t : Session). t.number) k.whose))
      ∙ find_fails (λ (z : MemberState). z.who.number == s.number) h.members k.member is (got_inside h.members k.place k.member k.there)))
  by (Some m) is =
      subst (λ z. Passed Wake IsSound (settling_here at z h) (settle_on_wake s at x) × HasLeases (settling_here at z h) s rest) (same m is)
      (record { stands = subst (λ t. Stands Wake (settling_here at k.member h) (settle_on_wake t at x)) k.whose done; kept = sound (is_free_at h at) }, leased (is_free_at h at))

each_settled : (spots : List Spot) (h : HostState) (x : Step) (s : Session) → Passed Wake IsSound h x → HasLeases h s spots
    → Passed Wake IsSound (over spots (λ at. at_member s.number (settling_here at)) h) (for_each spots (settle_on_wake s) x)
each_settled [] h x s p k = p
each_settled (at ∷ rest) h x s p k =
    let first = one_settled h x s at rest p k in
    each_settled rest (at_member s.number (settling_here at) h) (settle_on_wake s at x) s first.0 first.1

-- ---- one member

all_settled : (h : HostState) (x : Step) (k : ℕ) (m : MemberState) → IsSound h → IsMemberAt Wake h x k m → Passed Wake IsSound (settling_all m h) (settlings m.who x)
all_settled h x k m p at = subst (λ y. Passed Wake IsSound (settling_all m h) y) (sym (members_wake Wake h x k m at).settlings) (by (is_active_member m)) where
  by : (b : Bool) → Passed Wake IsSound (cond b (over (map (λ l. l.spot) m.leases) (λ z. at_member m.who.number (settling_here z)) h) h) (when b (for_each (map (λ l. l.spot) m.leases) (settle_on_wake m.who)) x)
  by true =
      each_settled (map (λ l. l.spot) m.leases) h x m.who (record { stands = at.stands; kept = p })
      (record { member = m; place = k; there = at.there; whose = refl; leased = λ z inside. inside })
  by false = record { stands = at.stands; kept = p }

settling_stays : (x y : Step) (s : Session) → Has x s → Stays x y → Stays x (settlings s y)
unfolding settlings settle_on_wake settle
settling_stays x y s has is =
    when_keeps (Stays x) (is_active y.setting (seen y) s) (for_each (lease_spots y.setting (seen y) s) (settle_on_wake s)) y
    (λ b k. for_each_keeps (Stays x) (lease_spots y.setting (seen y) s) (settle_on_wake s) y
    (λ at there z f. when_keeps (Stays x) (is_empty (open_on z.setting (seen z) at)) (settle s at) z
    (λ free g. lease_stays x z s at Settling (next_of_settling z.setting (seen z) s at) g) f) k) is

settles : IsPass Wake IsSound settling_all settlings
settles =
    record {
      takes = λ h x k m p at. (all_settled h x k m p at).stands;
      keeps = λ h x k m p at. (all_settled h x k m p at).kept;
      gone = λ h x s p gone. gone_do_nothing.settles Wake h x s gone;
      stays = settling_stays;
    }

-- ---- the wake

renewing_sound : (m : MemberState) (h : HostState) → IsSound h → IsSound (renewing_in m h)
renewing_sound m h p = by (m.joined && is_renewal_due (delta_in h m) h.reading m.known) where
  d : DeltaRec
  d = delta_record (delta_in h m) Live m.known.generation (m.known.seq + 1) h.reading (bits_in h m)

  by : (b : Bool)
      → IsSound (cond b (writing_own m Renewal (delta_record (delta_in h m) Live m.known.generation (m.known.seq + 1) h.reading (bits_in h m)) h) h)
  by true = unowned h m.who.number m.who.path Renewal (delta_offset h.config.layout m.who.offset m.who.id) (WriteRecord (DeltaIs (delta_record (delta_in h m) Live m.known.generation (m.known.seq + 1) h.reading (bits_in h m)))) refl p
  by false = p

renewal_stays : (x y : Step) (s : Session) → Has x s → Stays x y → Stays x (renew_on_wake s y)
unfolding renew_on_wake
renewal_stays x y s has is =
    when_keeps (Stays x) (is_joined (seen y) s)
    (λ z. carry_delta s (next_renewal (delta_of_session z.setting s) z.reading (delta_known z.setting (seen z) s) (bits_due z.setting (calls_of (seen z) s) z.reading)) z) y
    (λ b k. delta_stays x y s (next_renewal (delta_of_session y.setting s) y.reading (delta_known y.setting (seen y) s) (bits_due y.setting (calls_of (seen y) s) y.reading)) k) is

renews : IsPass Wake IsSound renewing_in renew_on_wake
renews =
    record {
      takes = λ h x k m p at. ends_are_taken.renewal Wake h x k m at;
      keeps = λ h x k m p at. renewing_sound m h p;
      gone = λ h x s p gone. gone_do_nothing.renews Wake h x s gone;
      stays = renewal_stays;
    }

pub woken : (h : HostState) (x : Step) → Passed Wake IsSound h x → Passed Wake IsSound (waking h) (on_wake x)
unfolding on_wake
woken h x p =
    let one = all Wake IsSound joining_by_time join_on_wake joins h x p in
    let two = all Wake IsSound renewing_in renew_on_wake renews (for_members joining_by_time h) (for_sessions join_on_wake x) one in
    all Wake IsSound settling_all settlings settles (for_members renewing_in (for_members joining_by_time h)) (for_sessions renew_on_wake (for_sessions join_on_wake x)) two

pub wakes_follow : WakesFollow
wakes_follow =
    record {
      stands = λ h x p s. (woken h x (record { stands = s; kept = p })).stands;
      sound = λ h x p s. (woken h x (record { stands = s; kept = p })).kept;
    }
