-- A member whose session's calls, renewals and leaving are as they were stands as it did, but for whether it is joined and refused.
use Rattle.sl_host_state.specs.KeptState.{MemberState}
use Rattle.sl_host_state.specs.HostStands.{AreInTurn, AskedStands, JoinStands, LeaseStands, MemberStands, WatchKeeps, is_joining, newest_value}
use Rattle.sl_trace.specs.Counts.{values_on}
use Rattle.sl_trace.specs.Leases.{is_lease_call, is_on, spots_in, value_written}
use Rattle.sl_trace.specs.Sessions.{calls_of, free_write, generation_in, is_call_of, is_delta_purpose, is_joined, leaving_job, refused_after, renewal_in, renewing, seq_in}
use Rattle.sl_trace.specs.declared.delta.DeltaKnown.{DeltaKnown}
use Rattle.sl_trace.specs.declared.session.Renewing.{Renewing}
use Rattle.sl_trace.specs.declared.session.Session.{Session}
use Rattle.sl_trace.specs.Traces.{Job, Setting, Submitted, Trace, submitted, unanswered}
use Rattle.std.proofs.Common.{ap, subst, sym, ◌∙◌}
use Rattle.std.specs.List.{AllByRecursion, list_any}
use Rattle.std.specs.Prelude.{Bool, IsTrue, List, Option, filter, is_none, is_some, option_map, true, ◌&&◌, ◌+◌, ◌≡◌, ◌||◌}

-- What is asked of a session's calls, renewals and leaving is the same after these entries as after those.
pub record AreSame (st : Setting) (before after : Trace) (s : Session) : Type 0 where
  pub calls : submitted after ≡ submitted before
  pub renewals : renewing st after s ≡ renewing st before s
  pub leaving : leaving_job st after s ≡ leaving_job st before s

module _ (st : Setting) (before after : Trace) where
  -- What is known on the id's sector, by the session's calls, its renewals and its leaving.
  abbrev known_by : Session → List Submitted → Renewing → Option Job → DeltaKnown
  known_by s ms r j =
      record {
        generation = generation_in s ms;
        seq = seq_in s ms;
        renewed = renewal_in s ms;
        busy = list_any (λ m. is_delta_purpose m.call.purpose) (unanswered ms);
        recovering = is_some r.recovery;
        leaving = option_map (λ k. k.number) j;
        freed = is_some (free_write ms);
      }

  pub member_stays : (m : MemberState) (joined refused : Bool) → AreSame st before after m.who → is_joined after m.who ≡ joined → is_some (refused_after after m.who) ≡ refused
      → (is_joining (record m { joined = joined; refused = refused }) ≡ true → is_joining m ≡ true) → MemberStands st before m → MemberStands st after (record m { joined = joined; refused = refused })
  member_stays m joined refused same joins refuses still s =
      let own : calls_of after m.who ≡ calls_of before m.who = ap (filter (is_call_of m.who)) same.calls in
      record {
        joined = joins;
        refused = refuses;
        known = ap (λ ms. known_by m.who ms (renewing st after m.who) (leaving_job st after m.who)) own
            ∙ ap (λ r. known_by m.who (calls_of before m.who) r (leaving_job st after m.who)) same.renewals
            ∙ ap (known_by m.who (calls_of before m.who) (renewing st before m.who)) same.leaving ∙ s.known;
        joining = λ is. subst (JoinStands m.joining) (sym own) (s.joining (still is));
        renewing = same.renewals ∙ s.renewing;
        leaving = ap (option_map (λ j. record { at = j.at; reading = j.reading; kills_from = j.at + 1 })) same.leaving ∙ s.leaving;
        asked = subst (AskedStands st _) (sym own) s.asked;
        turn = subst (λ ms. AreInTurn (filter (λ c. is_delta_purpose c.call.purpose) ms)) (sym own) s.turn;
        seen = subst (WatchKeeps st _) (sym own) s.seen;
        spots = ap (spots_in st.layout) own ∙ s.spots;
        leases = λ k l there.
            subst
            (λ ms. LeaseStands st.layout m.who.lockspace (record { id = m.who.id; generation = generation_in m.who ms }) l
            (filter (λ c. is_lease_call c && is_on st.layout l.spot c.call) ms)) (sym own) (s.leases k l there);
        values = λ k l there. ap (λ ms. newest_value (values_on st.layout l.spot ms)) own ∙ s.values k l there;
        valued = subst (λ ms. AllByRecursion (λ d. IsTrue (is_none (value_written d) || list_any (λ l. is_on st.layout l.spot d.call) m.leases)) ms) (sym own) s.valued;
      }
