-- Renewals, removals and frees follow what is due, member by member.
use Rattle.sl_due_facts.proofs.Acts.LoopsKeep.{when_keeps}
use Rattle.sl_due_facts.proofs.Acts.SessionsStay.{Stays, delta_stays, removal_stays}
use Rattle.sl_due_facts.specs.Acts.Acts.{Has}
use Rattle.sl_area.specs.AreaLayout.{delta_offset}
use Rattle.sl_host_law.specs.Calls.MemberCalls.{is_idle_job, is_leaving_alone}
use Rattle.sl_host_law.specs.Decisions.CommandDecisions.{held_of}
use Rattle.sl_due.specs.CarriedDelta.{carry_delta}
use Rattle.sl_due.specs.DueTimeOuts.{remove_connection}
use Rattle.sl_due.specs.DueRequests.{bits_due}
use Rattle.sl_due.specs.DueWake.{end_if_done, finish, finish_session, free_if_done, renew_on_wake}
use Rattle.sl_due.specs.Steps.{Step, seen, when}
use Rattle.sl_host_law.proofs.SharedFacts.MembersAreSessions.{numbers_are_apart}
use Rattle.sl_host_law.proofs.SharedFacts.PlainLists.{one_there}
use Rattle.sl_host_state.specs.KeptState.{HostState, MemberState}
use Rattle.sl_host_state.specs.MadeEffects.{has_write_open, next_submitted}
use Rattle.sl_host_state.specs.HostStands.{Stands, is_kept_of}
use Rattle.sl_host_state.specs.declared.kept_parts.OpenCall.{OpenCall}
use Rattle.sl_host_law.proofs.Steps.JoiningNamesApart.{same_name}
use Rattle.sl_host_law.proofs.Steps.SoundParts.{sound_call, sound_removing}
use Rattle.sl_host_law.proofs.Steps.PassesFollow.{IsPass, Passed, all}
use Rattle.sl_host_law.specs.Steps.Endings.{EndingsFollow}
use Rattle.sl_host_law.specs.Steps.Passes.{for_members}
use Rattle.sl_host_law.specs.Steps.SoundHosts.{IsSound, LeavingsOwn, NamesApart}
use Rattle.sl_host_law.proofs.StepParts.EndsAreTaken.{ends_are_taken}
use Rattle.sl_host_law.proofs.StepParts.GoneDoNothing.{gone_do_nothing}
use Rattle.sl_host_law.proofs.StepParts.MembersWake.{members_wake}
use Rattle.sl_host_law.specs.StepParts.Ends.{FreesAlone, ending_in, finishing, freeing_for, freeing_in, removing, renewing_in, writing_own}
use Rattle.sl_host_law.specs.StepParts.Wakes.{delta_in}
use Rattle.sl_words.proofs.Lists.{any_found, any_of, got_inside}
use Rattle.sl_host_law.specs.Questions.Members.{IsMemberAt, has_call_open}
use Rattle.sl_host_law.specs.Replies.Moves.{EndsBegun}
use Rattle.sl_sector.specs.Bitmaps.{no_bits}
use Rattle.sl_sector.specs.declared.sector.DeltaRec.{DeltaRec}
use Rattle.sl_sector.specs.declared.sector.DeltaState.TheVariants.{Free}
use Rattle.sl_sector.specs.declared.sector.Rec.TheVariants.{DeltaIs}
use Rattle.sl_trace.specs.DeltaDecisions.{delta_known, delta_of_session, delta_record, next_free, next_renewal}
use Rattle.sl_trace.specs.Sessions.{calls_of, has_open_write, holdings_of, is_joined, open_calls_of, recovery_of}
use Rattle.sl_trace.specs.declared.session.Begun.{Begun}
use Rattle.sl_trace.specs.declared.session.Session.{Session}
use Rattle.sl_trace.specs.declared.effects.Move.TheVariants.{Unregister}
use Rattle.sl_trace.specs.declared.effects.Op.TheVariants.{WriteRecord}
use Rattle.sl_trace.specs.declared.effects.Purpose.TheVariants.{Leaving}
use Rattle.sl_trace.specs.declared.input.Input.{Input}
use Rattle.sl_words.proofs.CaseLaws.{is_false, true_is_false}
use Rattle.sl_words.proofs.WordLaws.{and_true}
use Rattle.sl_words.specs.Words.{is_empty, some_is}
use Rattle.std.proofs.Common.{ap, refl, subst, sym, ◌∙◌}
use Rattle.std.proofs.lemmas.Bool.Decides.{Decides-eqb}
use Rattle.std.specs.List.{list_any}
use Rattle.std.specs.Prelude.{Bool, Contains, IsTrue, List, None, Option, Some, bytes_eq, cond, false, is_some, not, slice_get, true, ℕ, ◌+◌, ◌&&◌, ◌==◌, ◌≡◌, ◌||◌}

-- ---- renewals

renewal_stays : (x y : Step) (s : Session) → Has x s → Stays x y → Stays x (renew_on_wake s y)
unfolding renew_on_wake
renewal_stays x y s has is =
    when_keeps (Stays x) (is_joined (seen y) s)
    (λ z. carry_delta s (next_renewal (delta_of_session z.setting s) z.reading (delta_known z.setting (seen z) s) (bits_due z.setting (calls_of (seen z) s) z.reading)) z) y
    (λ b k. delta_stays x y s (next_renewal (delta_of_session y.setting s) y.reading (delta_known y.setting (seen y) s) (bits_due y.setting (calls_of (seen y) s) y.reading)) k) is

abbrev Anything : HostState → Type 0
Anything h = Unit {0}

renews : (i : Input) → IsPass i Anything renewing_in renew_on_wake
renews i =
    record {
      takes = λ h x k m p at. ends_are_taken.renewal i h x k m at;
      keeps = λ h x k m p at. tt;
      gone = λ h x s p gone. gone_do_nothing.renews i h x s gone;
      stays = renewal_stays;
    }

-- ---- removals and frees

-- Who stands at two places is one.
one_member : (i : Input) (h : HostState) (x : Step) (j k : ℕ) (a b : MemberState) → Stands i h x → slice_get h.members j ≡ Some a → slice_get h.members k ≡ Some b → a.who ≡ b.who → a ≡ b
one_member i h x j k a b s at_j at_k same =
    let place : j ≡ k = numbers_are_apart h x.setting (seen x) j k a b s.keeps at_j at_k (ap (λ (t : Session). t.number) same) in
    one_there h.members k a b (subst (λ n. slice_get h.members n ≡ Some a) place at_j) at_k

ends_itself : (i : Input) (h : HostState) (x : Step) (k : ℕ) (m : MemberState) → IsMemberAt i h x k m → NamesApart h → IsTrue (is_some m.renewing.recovery || is_some m.leaving)
    → EndsBegun (Unregister m.who.lockspace) h
ends_itself i h x k m at names begun j z there ends =
    let both = and_true z.joined (bytes_eq z.who.lockspace m.who.lockspace) ends in
    subst (λ (y : MemberState). IsTrue (is_some y.renewing.recovery || is_some y.leaving)) (one_member i h x k j m z at.stands at.there there (sym (same_name h j k z m names there at.there both.1))) begun

-- A leaving with no call open has none of its job's.
frees_alone : (i : Input) (h : HostState) (x : Step) (k : ℕ) (m : MemberState) → IsMemberAt i h x k m → LeavingsOwn h → has_call_open h m.who.number ≡ false → FreesAlone h m
frees_alone i h x k m at own none j leaves freed =
    or_right (is_idle_job h j) (is_leaving_alone h m j)
    (ap (λ o. some_is (λ n. n == j) o && not (list_any (is_kept_of j) h.unanswered)) leaves
    ∙ ap (λ b. b && not (list_any (is_kept_of j) h.unanswered)) ((Decides-eqb j j).1 refl)
    ∙ ap not (is_false (list_any (is_kept_of j) h.unanswered) (λ some.
    (let c = any_found (is_kept_of j) h.unanswered some in
    true_is_false (sym (any_is (λ (d : OpenCall). d.session == m.who.number) h.unanswered c.0 (own.calls m c.0 j (got_inside h.members k m at.there) c.1 leaves c.2) c.1) ∙ none))))) where
      any_is : (p : OpenCall → Bool) (cs : List OpenCall) (c : OpenCall) → p c ≡ true → Contains cs c → list_any p cs ≡ true
      any_is p cs c is there = any_of p cs c is there

      or_right : (a b : Bool) → b ≡ true → (a || b) ≡ true
      or_right true b is = refl
      or_right false b is = is

ended : (i : Input) (h : HostState) (x : Step) (k : ℕ) (m : MemberState) → IsSound h → IsMemberAt i h x k m → Stands i (finishing m h) (finish_session m.who x)
ended i h x k m p at = subst (λ y. Stands i (finishing m h) y) (sym (members_wake i h x k m at).finish) (by m.joined) where
  frees : (b : Bool) → (is_empty (held_of h m) && not (has_call_open h m.who.number)) ≡ b → Stands i (freeing_in m h) (free_if_done m.who x)
  frees true is =
      ends_are_taken.freeing i h x k m at
      (frees_alone i h x k m at p.leavings (is_false (has_call_open h m.who.number) (λ some. true_is_false (sym (and_true (is_empty (held_of h m)) (not (has_call_open h m.who.number)) is).1 ∙ ap not some))))
  frees false is =
      subst (λ g. Stands i g (free_if_done m.who x)) (sym (ap (λ b. cond b (freeing_for m m.known.leaving h) h) is))
      (subst (λ y. Stands i h y) (sym ((members_wake i h x k m at).freeing ∙ ap (λ b. when b (carry_delta m.who (next_free (delta_in h m) h.reading m.known)) x) is)) at.stands)

  recovering : (o : Option Begun) → m.renewing.recovery ≡ o
      → Stands i (cond (is_some o) (ending_in m h) (freeing_in m h)) (elim (is_some o) as (λ z. Step) [ true ↦ end_if_done m.who x | false ↦ free_if_done m.who x ])
  recovering None is = frees (is_empty (held_of h m) && not (has_call_open h m.who.number)) refl
  recovering (Some b) is = ends_are_taken.ending i h x k m at (ends_itself i h x k m at p.names (ap (λ o. is_some o || is_some m.leaving) is))

  by : (b : Bool) → Stands i (cond b (cond (is_some m.renewing.recovery) (ending_in m h) (freeing_in m h)) h)
      (when b (λ y. elim (is_some m.renewing.recovery) as (λ z. Step) [ true ↦ end_if_done m.who y | false ↦ free_if_done m.who y ]) x)
  by true = recovering m.renewing.recovery refl
  by false = at.stands

-- ---- what lasts

finishing_lasts : (i : Input) (h : HostState) (x : Step) (k : ℕ) (m : MemberState) → IsSound h → IsMemberAt i h x k m → IsSound (finishing m h)
finishing_lasts i h x k m p at = by m.joined (is_some m.renewing.recovery) where
  written : (j : ℕ) (d : DeltaRec) → m.known.leaving ≡ Some j → IsSound (writing_own m (Leaving j) d h)
  written j d leaves =
      sound_call h (next_submitted h m.who.number m.who.path (Leaving j) (delta_offset h.config.layout m.who.offset m.who.id) (WriteRecord (DeltaIs d)))
      (record {
        leaving = λ z n there is of.
            (let same : j ≡ n = (Decides-eqb j n).0 of in
            (Decides-eqb m.who.number z.who.number).1 (ap (λ (t : Session). t.number) (p.leavings.apart m z n (got_inside h.members k m at.there) there (leaves ∙ ap (λ y. Some y) same) is)));
        joining = λ z n there is of. absurd (p.leavings.others z m n there (got_inside h.members k m at.there) is (leaves ∙ ap (λ y. Some y) ((Decides-eqb j n).0 of)));
      }) p

  freed : (o : Option ℕ) → m.known.leaving ≡ o → (b : Bool) → IsSound (freeing_for m o h)
  freed None is b = p
  freed (Some j) is b = unless m.known.freed where
    unless : (b : Bool) → IsSound (cond b h (writing_own m (Leaving j) (delta_record (delta_in h m) Free m.known.generation (m.known.seq + 1) h.reading no_bits) h))
    unless true = p
    unless false = written j (delta_record (delta_in h m) Free m.known.generation (m.known.seq + 1) h.reading no_bits) is

  frees : (b : Bool) → IsSound (cond b (freeing_for m m.known.leaving h) h)
  frees true = freed m.known.leaving refl true
  frees false = p

  ends : (b : Bool) → IsSound (cond b (removing m.who.lockspace h) h)
  ends true = sound_removing m.who.lockspace h p
  ends false = p

  by : (a b : Bool) → IsSound (cond a (cond b (ending_in m h) (freeing_in m h)) h)
  by true true = ends (is_empty (held_of h m) && not (has_write_open h m.who.number))
  by true false = frees (is_empty (held_of h m) && not (has_call_open h m.who.number))
  by false b = p

-- ---- the pass

end_stays : (x y : Step) (s : Session) → Stays x y → Stays x (end_if_done s y)
end_stays x y s is =
    when_keeps (Stays x) (is_empty (holdings_of (seen y) s) && not (has_open_write (seen y) s)) (remove_connection s.lockspace) y (λ b k. removal_stays x y s.lockspace k) is

free_stays : (x y : Step) (s : Session) → Stays x y → Stays x (free_if_done s y)
free_stays x y s is =
    when_keeps (Stays x) (is_empty (holdings_of (seen y) s) && is_empty (open_calls_of (seen y) s))
    (λ z. carry_delta s (next_free (delta_of_session z.setting s) z.reading (delta_known z.setting (seen z) s)) z) y
    (λ b k. delta_stays x y s (next_free (delta_of_session y.setting s) y.reading (delta_known y.setting (seen y) s)) k) is

finish_stays : (x y : Step) (s : Session) → Has x s → Stays x y → Stays x (finish_session s y)
unfolding finish_session
finish_stays x y s has is = when_keeps (Stays x) (is_joined (seen y) s) (λ z. elim (is_some (recovery_of z.setting (seen z) s)) [ true ↦ end_if_done s z | false ↦ free_if_done s z ]) y (λ b k. by (is_some (recovery_of y.setting (seen y) s)) k) is where
  by : (b : Bool) → Stays x y → Stays x (elim b as (λ z. Step) [ true ↦ end_if_done s y | false ↦ free_if_done s y ])
  by true k = end_stays x y s k
  by false k = free_stays x y s k

finishes : (i : Input) → IsPass i IsSound finishing finish_session
finishes i =
    record {
      takes = λ h x k m p at. ended i h x k m p at;
      keeps = λ h x k m p at. finishing_lasts i h x k m p at;
      gone = λ h x s p gone. gone_do_nothing.ends i h x s gone;
      stays = finish_stays;
    }

pub finished : (i : Input) (h : HostState) (x : Step) → IsSound h → Stands i h x → Passed i IsSound (for_members finishing h) (finish x)
unfolding finish
finished i h x p s = all i IsSound finishing finish_session (finishes i) h x (record { stands = s; kept = p })

pub endings_follow : EndingsFollow
endings_follow =
    record {
      renewals = λ i h x s. (all i Anything renewing_in renew_on_wake (renews i) h x (record { stands = s; kept = tt })).stands;
      finish = λ i h x p s. (finished i h x p s).stands;
      sound = λ i h x p s. (finished i h x p s).kept;
    }
