-- The member waits for the call that is answered, and so does its lease.
use Rattle.sl_due.specs.Steps.{Step, seen}
use Rattle.sl_due_leases.proofs.Holdings.LeasePlaces.{area_is}
use Rattle.sl_host_law.proofs.Answers.AnswersSetFree.{answers_set_free, of_trace}
use Rattle.sl_host_law.proofs.Calls.MemberCalls.SpotsMore.{AreOnce, found_once, on_its_area, on_own, one_spot, spot_itself, spot_there, spots_once}
use Rattle.sl_host_law.proofs.SharedFacts.PlainLists.{all_from, any_mapped, at_some, each_of}
use Rattle.sl_host_law.proofs.Replies.OpenCallsAreKept.{open_delta_is}
use Rattle.sl_host_law.proofs.Replies.PlainNumbers.{same_number}
use Rattle.sl_host_law.specs.Replies.Answers.{IsOpen}
use Rattle.sl_host_state.specs.HeardInputs.{still_busy}
use Rattle.sl_host_state.specs.KeptState.{Config, HostState, LeaseState, MemberState}
use Rattle.sl_host_state.specs.MadeEffects.{is_lease_on}
use Rattle.sl_host_state.proofs.Pairs.{again_is}
use Rattle.sl_host_state.specs.HostStands.{IsWaiting, LeaseStands, free_written, is_again_newest, kept_call, sectors_of}
use Rattle.sl_lease.specs.Laws.{IsReadCall}
use Rattle.sl_host_state.specs.declared.kept_parts.LeaseCall.{LeaseCall}
use Rattle.sl_host_state.specs.declared.kept_parts.OpenCall.{OpenCall}
use Rattle.sl_trace.specs.Leases.{block_written, is_lease_call, is_on, is_second, lease_calls, lease_step, spot_of_call, turn_written}
use Rattle.sl_member.specs.Laws.{IsAwaited, area_of_call, waits_for}
use Rattle.sl_words.proofs.Lists.{any_found, contains_cases, contains_first, contains_map, contains_more, find_inside, kept as kept_in, kept_inside}
use Rattle.sl_sector.specs.declared.sector.Block.{Block}
use Rattle.sl_trace.specs.Sessions.{calls_of, is_call_of, is_delta_purpose, me}
use Rattle.sl_trace.specs.declared.delta.DeltaKnown.{DeltaKnown}
use Rattle.sl_step_law.proofs.CallsOfMembers.{IsMembers, members_call}
use Rattle.sl_step_law.specs.AnswersAwaited.{AnswersAreAwaited, IsLeasesCall, IsMembersCall}
use Rattle.sl_step_law.specs.ReadyHosts.{IsReady}
use Rattle.sl_trace.specs.Traces.{Submitted, call_numbered, same_spot, submitted}
use Rattle.sl_trace.specs.declared.effects.Call.{Call}
use Rattle.sl_trace.specs.declared.effects.LeaseStep.{LeaseStep}
use Rattle.sl_trace.specs.declared.effects.Op.TheVariants.{ReadSectors, WriteRecord}
use Rattle.sl_trace.specs.declared.effects.Op.{Op}
use Rattle.sl_trace.specs.declared.effects.Purpose.TheVariants.{Joining, Lease, Leaving, Renewal, RequestRead, RequestWrite, SeeRequest, Survey, ValueRead, ValueWrite}
use Rattle.sl_trace.specs.declared.effects.Purpose.{Purpose}
use Rattle.sl_trace.specs.declared.effects.Work.{Work}
use Rattle.sl_trace.specs.declared.input.Answer.TheVariants.{Failed}
use Rattle.sl_words.proofs.CaseLaws.{false_is_true, is_false, none_some, some_value, true_is_false}
use Rattle.sl_words.proofs.WordLaws.{and_true}
use Rattle.sl_words.specs.Words.{some_is}
use Rattle.std.proofs.Common.{ap, inl, inr, refl, subst, sym, ◌∙◌}
use Rattle.std.specs.List.{AllByRecursion, list_any}
use Rattle.std.specs.Prelude.{Bool, Contains, IsTrue, List, None, Option, Some, cond, false, filter, find, is_none, is_some, map, not, slice_get, true, [], ℕ, ◌&&◌, ◌<◌, ◌==◌, ◌∷◌, ◌≡◌, ◌||◌, ◌⊎◌}

none_any_where : {A : Type 0} (p q : A → Bool) (xs : List A) → ((a : A) → Contains xs a → q a ≡ false → p a ≡ false) → list_any p (filter q xs) ≡ list_any p xs
none_any_where p q [] out = refl
none_any_where p q (a ∷ xs) out = by (q a) refl (none_any_where p q xs (λ b there. out b (contains_more a xs b there))) where
  by : (b : Bool) → q a ≡ b → list_any p (filter q xs) ≡ list_any p xs → list_any p (cond b (a ∷ filter q xs) (filter q xs)) ≡ (p a || list_any p xs)
  by true is rest = ap (λ z. p a || z) rest
  by false is rest = rest ∙ ap (λ z. z || list_any p xs) (sym (out a (contains_first a xs) is))

-- What is kept of a lease's call is of this open call.
abbrev WaitsFor : OpenCall → LeaseCall → Type 0
WaitsFor c w = (w.number ≡ c.number) × (c.purpose ≡ Lease w.work w.step) × (is_some c.sectors ≡ true → IsReadCall w)

-- Whether it is a read that is made once more shows by its step.
again_by_step : (w : LeaseCall) (ms : List Submitted) → IsWaiting (Some w) ms → is_second w.step ≡ is_again_newest ms
again_by_step w [] waits = absurd waits
again_by_step w (f ∷ ms) waits = sym (again_is f w.work w.step waits.0.2)

-- The call with this for what it does.
abbrev with_op : Submitted → Op → Submitted
with_op e o = let q : Call = e.call in record e { call = record q { op = o } }

module _ (h : HostState) (x : Step) (number : ℕ) (c : OpenCall) (m : MemberState) (r : IsReady h x) (k : IsMembersCall h number c m) where
  found : Contains h.unanswered c × ((c.number == number) ≡ true)
  found = find_inside (λ (d : OpenCall). d.number == number) h.unanswered c k.is_open

  the : (d : Submitted) × IsMembers h x m c d
  the = members_call h x m c r k.there found.0 k.its

  -- Another open call has another number.
  one_of : (e : OpenCall) → Contains h.unanswered e → (e.number == c.number) ≡ true → c ≡ e
  one_of e there same =
      let f = of_trace h x.setting (seen x) e r.stands.keeps there in
      let inside = kept_inside (λ (z : Submitted). is_none z.answer) (submitted (seen x)) f.0 f.1 in
      let numbers : f.0.call.number ≡ the.0.call.number = ap (λ (z : OpenCall). z.number) f.2 ∙ same_number e.number c.number same ∙ ap (λ (z : OpenCall). z.number) (sym the.1.kept) in
      let facts = r.kept.known.0.facts.calls in
      let one : the.0 ≡ f.0 = some_value the.0 f.0 (sym (facts.found the.0 the.1.inside) ∙ ap (call_numbered (seen x)) (sym numbers) ∙ facts.found f.0 inside.0) in
      sym the.1.kept ∙ ap kept_call one ∙ f.2

  -- ---- its calls on delta sectors

  busy : still_busy c.number h m ≡ (not (is_delta_purpose c.purpose) && m.known.busy)
  busy = by (is_delta_purpose c.purpose) refl where
    known : m.known.busy ≡ list_any (λ e. e.session == m.who.number && is_delta_purpose e.purpose) h.unanswered
    known = sym (ap (λ (d : DeltaKnown). d.busy) the.1.stands.known) ∙ open_delta_is (seen x) m.who h.unanswered r.stands.keeps.unanswered

    number_is : c.number ≡ number
    number_is = same_number c.number number found.1

    here : (n : ℕ) × (slice_get h.members n ≡ Some m)
    here = at_some h.members m k.there

    opens : IsOpen h c.number c
    opens = subst (λ n. IsOpen h n c) (sym number_is) k.is_open

    by : (b : Bool) → is_delta_purpose c.purpose ≡ b → still_busy c.number h m ≡ (not b && m.known.busy)
    by true delta =
        answers_set_free.idle c.number c Failed h x here.0 m (record { stands = r.stands; is_open = opens; fits = tt; at = r.early.at; there = here.1; its = k.its }) delta
    by false other =
        none_any_where (λ e. e.session == m.who.number && is_delta_purpose e.purpose) (λ e. not (e.number == c.number)) h.unanswered
        (λ e there out. its e (one_of e there (is_true (e.number == c.number) out)))
        ∙ sym known where
          is_true : (b : Bool) → not b ≡ false → b ≡ true
          is_true true is = refl
          is_true false is = absurd (true_is_false is)

          and_false : (p q : Bool) → q ≡ false → (p && q) ≡ false
          and_false true q is = is
          and_false false q is = refl

          its : (e : OpenCall) → c ≡ e → (e.session == m.who.number && is_delta_purpose e.purpose) ≡ false
          its e same = and_false (e.session == m.who.number) (is_delta_purpose e.purpose) (ap (λ (z : OpenCall). is_delta_purpose z.purpose) (sym same) ∙ other)

  -- ---- its leases

  layouts : x.setting.layout ≡ h.config.layout
  layouts = ap (λ (z : Config). z.layout) r.stands.keeps.config

  -- Where a lease waits for it, the call is work on that lease.
  waited : (l : LeaseState) → Contains m.leases l → waits_for c.number l ≡ true → (w : LeaseCall) × (l.waiting ≡ Some w) × (lease_step c.purpose ≡ Some (w.work, w.step)) × (is_lease_on (area_of_call h.config.layout c) l ≡ true)
  waited l there waits = by l.waiting refl waits where
    place : (n : ℕ) × (slice_get m.leases n ≡ Some l)
    place = at_some m.leases l there

    stands_l : LeaseStands x.setting.layout m.who.lockspace (me (seen x) m.who) l (lease_calls x.setting (seen x) m.who l.spot)
    stands_l = the.1.stands.leases place.0 l place.1

    newest : (w : LeaseCall) (ms : List Submitted) → lease_calls x.setting (seen x) m.who l.spot ≡ ms → IsWaiting (Some w) ms → (w.number == c.number) ≡ true
        → (lease_step c.purpose ≡ Some (w.work, w.step)) × (is_lease_on (area_of_call h.config.layout c) l ≡ true)
    newest w [] is waiting same = absurd waiting
    newest w (f ∷ ms) is waiting same =
        let mine = kept_inside (λ (z : Submitted). is_lease_call z && is_on x.setting.layout l.spot z.call) (calls_of (seen x) m.who) f (subst (λ z. Contains z f) (sym is) (contains_first f ms)) in
        let inside = kept_inside (is_call_of m.who) (submitted (seen x)) f mine.0 in
        let facts = r.kept.known.0.facts.calls in
        let numbers : f.call.number ≡ the.0.call.number = waiting.0.1 ∙ same_number w.number c.number same ∙ ap (λ (z : OpenCall). z.number) (sym the.1.kept) in
        let one : the.0 ≡ f = some_value the.0 f (sym (facts.found the.0 the.1.inside) ∙ ap (call_numbered (seen x)) (sym numbers) ∙ facts.found f inside.0) in
        let kept_f : kept_call f ≡ c = ap kept_call (sym one) ∙ the.1.kept in
        let spot : spot_of_call x.setting.layout f ≡ l.spot =
        on_its_area x.setting.layout (calls_of (seen x) m.who) f l.spot
        (subst (λ ss. Contains ss l.spot) (sym the.1.stands.spots) (contains_map (λ (z : LeaseState). z.spot) m.leases l there))
        (and_true (is_lease_call f) (is_on x.setting.layout l.spot f.call) mine.1).1
        in
        let area : area_of_call h.config.layout c ≡ l.spot =
        ap (λ g. area_of_call g c) (sym layouts) ∙ ap (area_of_call x.setting.layout) (sym kept_f) ∙ spot
        in
        (ap (λ (z : OpenCall). lease_step z.purpose) (sym kept_f) ∙ waiting.0.2, ap (λ s. same_spot s l.spot) area ∙ spot_itself l.spot)

    by : (o : Option LeaseCall) → l.waiting ≡ o → some_is (λ w. w.number == c.number) o ≡ true
        → (w : LeaseCall) × (o ≡ Some w) × (lease_step c.purpose ≡ Some (w.work, w.step)) × (is_lease_on (area_of_call h.config.layout c) l ≡ true)
    by None is waits = absurd (false_is_true waits)
    by (Some w) is waits =
        let z = newest w (lease_calls x.setting (seen x) m.who l.spot) refl (subst (λ o. IsWaiting o (lease_calls x.setting (seen x) m.who l.spot)) is stands_l.waiting) waits in
        (w, refl, z.0, z.1)

  leases_by : (o : Option (Work × LeaseStep)) → lease_step c.purpose ≡ o
      → (elim o as (λ z. Type 0) [
        | None ↦ AllByRecursion (λ l. waits_for c.number l ≡ false) m.leases
        | Some p ↦ AllByRecursion (λ l. (is_lease_on (area_of_call h.config.layout c) l ≡ true) ⊎ (waits_for c.number l ≡ false)) m.leases
      ])
  leases_by None none =
      all_from (λ l. waits_for c.number l ≡ false) m.leases (λ l there. is_false (waits_for c.number l) (λ waits.
      (let w = waited l there waits in none_some (w.0.work, w.0.step) (sym none ∙ w.2))))
  leases_by (Some p) some =
      all_from (λ l. (is_lease_on (area_of_call h.config.layout c) l ≡ true) ⊎ (waits_for c.number l ≡ false)) m.leases (λ l there. by l there (waits_for c.number l) refl) where
        by : (l : LeaseState) → Contains m.leases l → (b : Bool) → waits_for c.number l ≡ b → (is_lease_on (area_of_call h.config.layout c) l ≡ true) ⊎ (waits_for c.number l ≡ false)
        by l there true waits = inl (waited l there waits).3
        by l there false waits = inr waits

  awaited : IsAwaited h c m
  awaited = record { busy = busy; leases = leases_by (lease_step c.purpose) refl }

  -- ---- the lease that it works on

  leased : is_some (lease_step c.purpose) ≡ true → IsLeasesCall h c m
  leased works =
      record {
        lease = some_lease.0;
        call = waiting.0;
        found = subst (λ s. find (is_lease_on s) m.leases ≡ Some some_lease.0) area (found_once (spot_of_call x.setting.layout the.0) m.leases some_lease.0 once some_lease.1 some_lease.2);
        waits = record { waiting = waiting.1; number = waiting.2.0; purpose = waiting.2.1 };
        reads = waiting.2.2;
        again = again_by_step waiting.0 (lease_calls x.setting (seen x) m.who some_lease.0.spot) (subst (λ o. IsWaiting o (lease_calls x.setting (seen x) m.who some_lease.0.spot)) waiting.1 stands_l.waiting) ∙ stands_l.again;
        second = stands_l.second;
      } where
        works_d : is_lease_call the.0 ≡ true
        works_d = ap (λ (z : OpenCall). is_some (lease_step z.purpose)) the.1.kept ∙ works

        area : spot_of_call x.setting.layout the.0 ≡ area_of_call h.config.layout c
        area = ap (area_of_call x.setting.layout) the.1.kept ∙ ap (λ g. area_of_call g c) layouts

        some_lease : (l : LeaseState) × Contains m.leases l × (is_lease_on (spot_of_call x.setting.layout the.0) l ≡ true)
        some_lease =
            any_found (is_lease_on (spot_of_call x.setting.layout the.0)) m.leases
            (sym (any_mapped (same_spot (spot_of_call x.setting.layout the.0)) (λ (l : LeaseState). l.spot) m.leases)
            ∙ ap (list_any (same_spot (spot_of_call x.setting.layout the.0))) (sym the.1.stands.spots)
            ∙ spot_there x.setting.layout (calls_of (seen x) m.who) the.0 the.1.mine works_d)

        once : AreOnce (map (λ (l : LeaseState). l.spot) m.leases)
        once = subst AreOnce the.1.stands.spots (spots_once x.setting.layout (calls_of (seen x) m.who))

        place : (n : ℕ) × (slice_get m.leases n ≡ Some some_lease.0)
        place = at_some m.leases some_lease.0 some_lease.1

        stands_l : LeaseStands x.setting.layout m.who.lockspace (me (seen x) m.who) some_lease.0 (lease_calls x.setting (seen x) m.who some_lease.0.spot)
        stands_l = the.1.stands.leases place.0 some_lease.0 place.1

        in_it : Contains (lease_calls x.setting (seen x) m.who some_lease.0.spot) the.0
        in_it =
            kept_in (λ (z : Submitted). is_lease_call z && is_on x.setting.layout some_lease.0.spot z.call) (calls_of (seen x) m.who) the.0
            (both (is_lease_call the.0) (is_on x.setting.layout some_lease.0.spot the.0.call) works_d
            (subst (λ p. is_on x.setting.layout p the.0.call ≡ true) (one_spot (spot_of_call x.setting.layout the.0) some_lease.0.spot some_lease.2) (on_own x.setting.layout the.0 room))) the.1.mine
          where
            both : (p q : Bool) → p ≡ true → q ≡ true → (p && q) ≡ true
            both true q is also = also
            both false q is also = absurd (false_is_true is)

            room : 0 < x.setting.layout.area
            room = area_is x.setting r.kept.known.0.setting

        for_lease : (p : Purpose) (work : Work) (step : LeaseStep) → lease_step p ≡ Some (work, step) → p ≡ Lease work step
        for_lease (Lease work step) w s is = ap (λ q. Lease q.0 q.1) (some_value (work, step) (w, s) is)
        for_lease (Joining j step) w s is = absurd (none_some (w, s) is)
        for_lease Renewal w s is = absurd (none_some (w, s) is)
        for_lease Survey w s is = absurd (none_some (w, s) is)
        for_lease (Leaving j) w s is = absurd (none_some (w, s) is)
        for_lease (RequestRead j) w s is = absurd (none_some (w, s) is)
        for_lease (RequestWrite j owner) w s is = absurd (none_some (w, s) is)
        for_lease SeeRequest w s is = absurd (none_some (w, s) is)
        for_lease (ValueWrite j) w s is = absurd (none_some (w, s) is)
        for_lease (ValueRead j) w s is = absurd (none_some (w, s) is)

        reads_free : (d : Submitted) (op : Op) → d.call.op ≡ op → is_some (sectors_of op) ≡ true → (free_written d ≡ None) × (some_is (λ b. not b.shared) (block_written d) ≡ false) × (turn_written d ≡ None)
        reads_free d (ReadSectors n) is reads =
            (ap (λ o. free_written (with_op d o)) is, ap (λ o. some_is (λ (b : Block). not b.shared) (block_written (with_op d o))) is, ap (λ o. turn_written (with_op d o)) is)
        reads_free d (WriteRecord rec) is reads = absurd (false_is_true reads)

        newest : (w : LeaseCall) (ms : List Submitted) → IsWaiting (Some w) ms → Contains ms the.0 → WaitsFor c w
        newest w [] waits there = absurd waits
        newest w (f ∷ ms) waits there = by (contains_cases f ms the.0 there) where
          by : (f ≡ the.0) ⊎ Contains ms the.0 → WaitsFor c w
          by (inl is) =
              let kept_f : kept_call f ≡ c = ap kept_call is ∙ the.1.kept in (
                sym waits.0.1 ∙ ap (λ (z : OpenCall). z.number) kept_f,
                for_lease c.purpose w.work w.step (ap (λ (z : OpenCall). lease_step z.purpose) (sym kept_f) ∙ waits.0.2),
                λ reads. (let z = reads_free f f.call.op refl (ap (λ (q : OpenCall). is_some q.sectors) kept_f ∙ reads) in (sym waits.0.3 ∙ z.0, sym waits.0.4 ∙ z.1, sym waits.0.5 ∙ z.2)),
              )
          by (inr later) = absurd (true_is_false (sym (each_of (λ (y : Submitted). IsTrue (is_some y.answer)) ms the.0 waits.1 later) ∙ ap is_some the.1.open_one))

        waiting_by : (o : Option LeaseCall) → some_lease.0.waiting ≡ o → (w : LeaseCall) × (o ≡ Some w) × WaitsFor c w
        waiting_by None none =
            let all = subst (λ o. IsWaiting o (lease_calls x.setting (seen x) m.who some_lease.0.spot)) none stands_l.waiting in
            absurd (true_is_false (sym (each_of (λ (y : Submitted). IsTrue (is_some y.answer)) (lease_calls x.setting (seen x) m.who some_lease.0.spot) the.0 all in_it) ∙ ap is_some the.1.open_one))
        waiting_by (Some w) is = (w, refl, newest w (lease_calls x.setting (seen x) m.who some_lease.0.spot) (subst (λ o. IsWaiting o (lease_calls x.setting (seen x) m.who some_lease.0.spot)) is stands_l.waiting) in_it)

        waiting : (w : LeaseCall) × (some_lease.0.waiting ≡ Some w) × WaitsFor c w
        waiting = waiting_by some_lease.0.waiting refl

pub answers_are_awaited : AnswersAreAwaited
answers_are_awaited = record { awaited = awaited; leased = leased }
