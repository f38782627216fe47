-- Who holds a resource has a lease on its area: each grant rests on calls of the lease, or on a holding that does.
use Rattle.sl_due.specs.Steps.{Step, seen}
use Rattle.sl_due_leases.proofs.Grants.WorksByAnswers.{new_spot}
use Rattle.sl_due_leases.proofs.Holdings.LeaseConversions.{spot_is}
use Rattle.sl_due_leases.proofs.Ways.WayFactsHeld.LinesReady.{base_aligned}
use Rattle.sl_host_law.proofs.Calls.MemberCalls.SpotsMore.{found_once, spot_there, spots_once, AreOnce}
use Rattle.sl_host_law.proofs.SharedFacts.PlainLists.{any_mapped, at_some, in_either}
use Rattle.sl_host_law.proofs.SharedFacts.SessionNumbers.{placed_by_number}
use Rattle.sl_host_law.proofs.Replies.PlainNumbers.{same_number}
use Rattle.sl_host_law.specs.Decisions.CommandDecisions.{held_of}
use Rattle.sl_host_law.specs.Steps.LinesFollow.{IsLeased}
use Rattle.sl_host_state.specs.KeptState.{HostState, LeaseState, MemberState}
use Rattle.sl_host_state.specs.MadeEffects.{is_lease_on}
use Rattle.sl_host_state.specs.HostStands.{MemberStands}
use Rattle.sl_run.specs.LawfulGrant.{LawfulGrant}
use Rattle.sl_run.specs.LawfulModes.{LawfulExclusiveGrant, LawfulModes, LawfulSharedGrant}
use Rattle.sl_trace.specs.Leases.{is_lease_call, is_on, lease_calls, lease_step, spot_of_call}
use Rattle.sl_words.proofs.Lists.{any_found, contains_map, contains_more, contains_none, kept as kept_in, kept_inside}
use Rattle.sl_words.proofs.Options.{some_of}
use Rattle.sl_trace.specs.Sessions.{calls_of, holdings_of, is_call_of, session_numbered}
use Rattle.sl_trace.specs.declared.session.Session.{Session}
use Rattle.sl_step_law.proofs.HeldOnce.{held_once}
use Rattle.sl_step_law.specs.Holdings.{HoldingsAreKnown, HoldsOnce}
use Rattle.sl_step_law.specs.ReadyHosts.{IsReady}
use Rattle.sl_trace.specs.Traces.{EachEntry, Setting, Submitted, Trace, answer_of, answered_in, held_by, holdings, is_ended_by, is_shared, mark, new_call, same_place, same_spot, spot_of_grant, submitted}
use Rattle.sl_trace.specs.declared.effects.Call.{Call}
use Rattle.sl_trace.specs.declared.effects.Entry.{Entry}
use Rattle.sl_trace.specs.declared.effects.Grant.{Grant}
use Rattle.sl_trace.specs.declared.effects.Spot.{Spot}
use Rattle.sl_trace.specs.declared.input.Answer.{Answer}
use Rattle.sl_trace.specs.declared.input.Input.TheVariants.{Answer as Told, Exit, Line, Number, Spawned, Wake}
use Rattle.sl_trace.specs.declared.input.Input.{Input}
use Rattle.sl_words.proofs.WordLaws.{and_true}
use Rattle.std.proofs.Common.{ap, inl, inr, refl, subst, sym, ◌∙◌}
use Rattle.std.proofs.lemmas.Bool.Decides.{Decides-eqb}
use Rattle.std.specs.Bool.{MatchBool}
use Rattle.std.specs.List.{list_any}
use Rattle.std.specs.Option.{option_or}
use Rattle.std.specs.Prelude.{Bool, Contains, List, Some, false, filter, find, fold, is_some, length, not, slice_get, true, [], ℕ, ◌&&◌, ◌==◌, ◌∷◌, ◌≡◌, ◌⊎◌}

-- ---- calls stay

-- A call of the session's lease on the area is among these.
record IsWorked (st : Setting) (es : Trace) (n : ℕ) (at : Spot) : Type 0 where
  call : Submitted
  there : Contains (submitted es) call
  mine : call.call.session ≡ n
  works : (is_lease_call call && is_on st.layout at call.call) ≡ true

same_call : (es : Trace) (e : Entry) (number : ℕ) (a : Answer) (d : Submitted) → (answered_in es e number a d).call ≡ d.call
same_call es e number a d = by (d.call.number == number) where
  by : (b : Bool) → (elim b as (λ z. Submitted) [ false ↦ d | true ↦ record d { answer = option_or d.answer (Some (answer_of es e a d.call)) } ]).call ≡ d.call
  by true = refl
  by false = refl

pub marked : (es : Trace) (e : Entry) (i : Input) (ms : List Submitted) (d : Submitted) → Contains ms d → (z : Submitted) × Contains (mark es e i ms) z × (z.call ≡ d.call)
marked es e (Told number a) ms d there = (answered_in es e number a d, contains_map (answered_in es e number a) ms d there, same_call es e number a d)
marked es e (Line text) ms d there = (d, there, refl)
marked es e (Number text) ms d there = (d, there, refl)
marked es e (Exit p) ms d there = (d, there, refl)
marked es e (Spawned p ok) ms d there = (d, there, refl)
marked es e Wake ms d there = (d, there, refl)

pub folded : (at reading : ℕ) (cs : List Call) (ms : List Submitted) (d : Submitted) → Contains ms d → Contains (fold (λ zs c. new_call at reading c ∷ zs) ms cs) d
folded at reading [] ms d there = there
folded at reading (c ∷ cs) ms d there = folded at reading cs (new_call at reading c ∷ ms) d (contains_more (new_call at reading c) ms d there)

later : (st : Setting) (e : Entry) (es : Trace) (n : ℕ) (at : Spot) → IsWorked st es n at → IsWorked st (e ∷ es) n at
later st e es n at w =
    let z = marked es e e.input (submitted es) w.call w.there in
    record {
      call = z.0;
      there = folded (length es) e.reading e.effects.calls (mark es e e.input (submitted es)) z.0 z.1;
      mine = ap (λ (c : Call). c.session) z.2 ∙ w.mine;
      works = ap (λ (c : Call). is_some (lease_step c.purpose) && is_on st.layout at c) z.2 ∙ w.works;
    }

of_lease : (st : Setting) (es : Trace) (s : Session) (at : Spot) (d : Submitted) → Contains (lease_calls st es s at) d → IsWorked st es s.number at
of_lease st es s at d there =
    let on = kept_inside (λ (z : Submitted). is_lease_call z && is_on st.layout at z.call) (calls_of es s) d there in
    let mine = kept_inside (is_call_of s) (submitted es) d on.0 in
    record { call = d; there = mine.0; mine = same_number d.call.session s.number mine.1; works = on.1 }

-- ---- each holding rests on the lease

holders_work : (st : Setting) (es : Trace) → EachEntry (LawfulModes st) es → EachEntry (LawfulGrant st) es → (g : Grant) → Contains (holdings es) g → IsWorked st es g.session (spot_of_grant g)
holders_work st [] modes grants g there = absurd (contains_none g there)
holders_work st (e ∷ es) modes grants g there =
    by (in_either (filter (λ z. not (is_ended_by e.effects.ends z)) (holdings es)) e.effects.grants g there) (λ z at. later st e es z.session (spot_of_grant z) (holders_work st es modes.1 grants.1 z at)) where
      by : Contains (filter (λ z. not (is_ended_by e.effects.ends z)) (holdings es)) g ⊎ Contains e.effects.grants g → ((z : Grant) → Contains (holdings es) z → IsWorked st (e ∷ es) z.session (spot_of_grant z))
          → IsWorked st (e ∷ es) g.session (spot_of_grant g)
      by (inl old) rests = rests g (kept_inside (λ (z : Grant). not (is_ended_by e.effects.ends z)) (holdings es) g old).0
      by (inr new) rests = subst (λ n. IsWorked st (e ∷ es) n (spot_of_grant g)) number (moded (is_shared g.mode) (modes.0.grants g s.0 new s.1)) where
        s : (z : Session) × (session_numbered st (e ∷ es) g.session ≡ Some z)
        s = some_of (session_numbered st (e ∷ es) g.session) (grants.0.owned g new)

        number : s.0.number ≡ g.session
        number = placed_by_number st (e ∷ es) g.session s.0 s.1

        shared : LawfulSharedGrant st es (e ∷ es) s.0 (spot_of_grant g) g.lver → IsWorked st (e ∷ es) s.0.number (spot_of_grant g)
        shared (inl beside) =
            let on = kept_inside (λ (z : Grant). same_place z.path z.offset g.path g.offset) (holdings_of es s.0) beside.0 beside.1 in
            let mine = kept_inside (λ (z : Grant). z.session == s.0.number) (holdings es) beside.0 on.0 in
            subst (λ n. IsWorked st (e ∷ es) n (spot_of_grant g)) (same_number beside.0.session s.0.number mine.1)
            (subst (IsWorked st (e ∷ es) beside.0.session) (spot_is beside.0 (spot_of_grant g) on.1) (rests beside.0 mine.0))
        shared (inr (inl ballot)) = of_lease st (e ∷ es) s.0 (spot_of_grant g) ballot.mode ballot.of_lease.0
        shared (inr (inr conversion)) = of_lease st (e ∷ es) s.0 (spot_of_grant g) conversion.mode conversion.of_lease

        moded : (b : Bool) → MatchBool b (LawfulSharedGrant st es (e ∷ es) s.0 (spot_of_grant g) g.lver) (LawfulExclusiveGrant st (e ∷ es) s.0 (spot_of_grant g) g.lver) → IsWorked st (e ∷ es) s.0.number (spot_of_grant g)
        moded true k = shared k
        moded false k = of_lease st (e ∷ es) s.0 (spot_of_grant g) k.write k.wrote.0

-- ---- of a host

module _ (h : HostState) (x : Step) (m : MemberState) (g : Grant) (r : IsReady h x) (there : Contains h.members m) (held : Contains (held_of h m) g) where
  place : (k : ℕ) × (slice_get h.members k ≡ Some m)
  place = at_some h.members m there

  stands : MemberStands x.setting (seen x) m
  stands = r.stands.keeps.members place.0 m place.1

  its : Contains h.holdings g × ((g.session == m.who.number) ≡ true)
  its = kept_inside (λ (z : Grant). z.session == m.who.number) h.holdings g held

  of_trace : Contains (holdings (seen x)) g
  of_trace = subst (λ gs. Contains gs g) (sym r.stands.keeps.holdings) its.0

  work : IsWorked x.setting (seen x) m.who.number (spot_of_grant g)
  work =
      let order = r.kept.known.0.orderly in
      subst (λ n. IsWorked x.setting (seen x) n (spot_of_grant g)) (same_number g.session m.who.number its.1) (holders_work x.setting (seen x) order.modes order.granting g of_trace)

  spot : spot_of_call x.setting.layout work.call ≡ spot_of_grant g
  spot =
      let setting = r.kept.known.0.setting in
      let owned = r.kept.known.0.facts.holdings.owned g of_trace in
      new_spot x.setting (spot_of_grant g) work.call.call setting (base_aligned x.setting g.offset owned.4) (and_true (is_lease_call work.call) (is_on x.setting.layout (spot_of_grant g) work.call.call) work.works).1

  leased : IsLeased m (spot_of_grant g)
  leased =
      let mine : Contains (calls_of (seen x) m.who) work.call =
      kept_in (is_call_of m.who) (submitted (seen x)) work.call ((Decides-eqb work.call.call.session m.who.number).1 work.mine) work.there
      in
      let some =
      any_found (is_lease_on (spot_of_call x.setting.layout work.call)) m.leases
      (sym (any_mapped (same_spot (spot_of_call x.setting.layout work.call)) (λ (l : LeaseState). l.spot) m.leases)
      ∙ ap (list_any (same_spot (spot_of_call x.setting.layout work.call))) (sym stands.spots)
      ∙ spot_there x.setting.layout (calls_of (seen x) m.who) work.call mine (and_true (is_lease_call work.call) (is_on x.setting.layout (spot_of_grant g) work.call.call) work.works).0)
      in (
        some.0,
        subst (λ s. find (is_lease_on s) m.leases ≡ Some some.0) spot
            (found_once (spot_of_call x.setting.layout work.call) m.leases some.0 (subst AreOnce stands.spots (spots_once x.setting.layout (calls_of (seen x) m.who))) some.1 some.2),
      )

pub holdings_are_known : HoldingsAreKnown
holdings_are_known =
    record {
      leased = λ h x m g r there held. leased h x m g r there held;
      once = λ h x g r there.
          subst (λ gs. length (held_by gs g.process g.path g.offset) ≡ 1) r.stands.keeps.holdings
          (r.kept.known.0.facts.holdings.single g (subst (λ gs. Contains gs g) (sym r.stands.keeps.holdings) there));
      apart = λ i h x p s k. subst (HoldsOnce p) s.keeps.holdings (held_once p [] (holdings (seen x)) k.known.0.facts.holdings.single);
    }
