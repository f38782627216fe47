-- A member that hears the answer to a call of its own stands for its session; any other member stands as it is.
use Rattle.sl_area.specs.AreaSizes.{Layout}
use Rattle.sl_host_law.proofs.SharedFacts.PlainLists.{all_as, all_from, any_as, any_mapped, at_mapped, each_of}
use Rattle.sl_host_state.specs.HeardInputs.{asked_hearing, watch_hearing, is_heeded_by, lease_hearing, member_hearing, others, renewing_hearing, still_busy}
use Rattle.sl_host_state.specs.KeptState.{Config, HostState, LeaseState, MemberState}
use Rattle.sl_host_state.specs.HostStands.{AreInTurn, AskedStands, IsKeptCall, IsWaiting, JoinStands, Keeps, LeaseStands, MemberStands, WatchKeeps, kept_call, newest_value, sectors_of}
use Rattle.sl_host_state.specs.declared.kept_parts.LeaseCall.{LeaseCall}
use Rattle.sl_host_state.specs.declared.kept_parts.OpenCall.{OpenCall}
use Rattle.sl_trace.specs.Counts.{values_on}
use Rattle.sl_trace.specs.Leases.{is_lease_call, is_on, lease_calls, lease_step, spots_in, value_written}
use Rattle.sl_words.proofs.Lists.{find_inside, kept, kept_inside}
use Rattle.sl_words.proofs.Numbers.{number_itself}
use Rattle.sl_host_law.proofs.Replies.Answers.AnswerFindsItsCall.{IsOr, IsTheCall}
use Rattle.sl_host_law.proofs.Replies.Answers.AnswerIsHeeded.{heeded_is, waking}
use Rattle.sl_host_law.proofs.Replies.Answers.AnswerMarksOneCall.{all_answered, all_heard, free_stays, generation_stays, given_heard, hear, not_its, picked, renewal_stays, seq_stays, spots_stay, told, unheard}
use Rattle.sl_host_law.proofs.Replies.Answers.DeltaCallsHearAnswer.{asked_are, deltas, heard, heard_is, joining_is, watch_is, turn_is}
use Rattle.sl_host_law.proofs.Replies.Answers.LeaseHearsAnswer.{lease_hears}
use Rattle.sl_host_law.proofs.Replies.OpenCallsAreKept.{open_delta_is}
use Rattle.sl_host_law.proofs.Replies.PlainFilters.{all_kept}
use Rattle.sl_host_law.proofs.Replies.Answers.RenewingHearsAnswer.{renewing_other, renewing_own}
use Rattle.sl_host_law.specs.Replies.Answers.{FitsCall}
use Rattle.sl_trace.specs.DeltaDecisions.{delta_known}
use Rattle.sl_trace.specs.Sessions.{calls_of, free_write, generation_in, generation_of, has_open_delta, is_call_of, is_delta_purpose, is_present, leaving_job, me, renewal_in, renewing, seq_in}
use Rattle.sl_trace.specs.declared.delta.DeltaKnown.{DeltaKnown}
use Rattle.sl_trace.specs.declared.session.Renewing.{Renewing}
use Rattle.sl_trace.specs.declared.session.Session.{Session}
use Rattle.sl_trace.specs.Traces.{Setting, Submitted, Trace, bytes_given, is_before_input, is_going_on, job_of, new_call, outstanding, record_of, submitted, unanswered}
use Rattle.sl_trace.specs.declared.effects.Effects.{Effects}
use Rattle.sl_trace.specs.declared.effects.Op.TheVariants.{ReadSectors, WriteRecord}
use Rattle.sl_trace.specs.declared.effects.Op.{Op}
use Rattle.sl_trace.specs.declared.effects.Spot.{Spot}
use Rattle.sl_trace.specs.declared.input.Answer.TheVariants.{Failed, Read, Written}
use Rattle.sl_trace.specs.declared.input.Answer.{Answer}
use Rattle.sl_words.proofs.CaseLaws.{false_is_true, not_both}
use Rattle.std.proofs.Common.{ap, inl, inr, refl, subst, sym, ◌∙◌}
use Rattle.std.specs.List.{AllByRecursion, list_any}
use Rattle.std.specs.Prelude.{Bool, Contains, IsTrue, List, None, Option, Some, cond, false, filter, filter_map, is_none, is_some, length, map, option_map, reverse, true, [], ℕ, ◌&&◌, ◌==◌, ◌∷◌, ◌≡◌, ◌||◌}

-- The host stands for the step before its input; this call of its trace is answered.
pub record IsAnswered (st : Setting) (past : Trace) (now : ℕ) (fx : Effects) (a : Answer) (h : HostState) (m : Submitted) : Type 0 where
  pub keeps : Keeps h st (waking now fx ∷ past)
  pub its : IsTheCall (submitted past) (kept_call m) m
  pub fits : FitsCall h.config.layout a (kept_call m)
  pub reading : h.reading ≡ now
  pub replies : AllByRecursion (λ r. IsTrue (is_before_input r.reply)) fx.replies

only_read : (g : Layout) (a : Answer) (m : Submitted) → FitsCall g a (kept_call m) → is_some (bytes_given a) ≡ true → record_of m.call.op ≡ None
only_read g a m = by a m.call.op where
  by : (x : Answer) (op : Op) → FitsCall g x (record (kept_call m) { sectors = sectors_of op }) → is_some (bytes_given x) ≡ true → record_of op ≡ None
  by (Read bytes) (ReadSectors n) fits is = refl
  by (Read bytes) (WriteRecord r) fits is = absurd (false_is_true fits.0)
  by Written op fits is = absurd (false_is_true is)
  by Failed op fits is = absurd (false_is_true is)

module _ (st : Setting) (past : Trace) (now : ℕ) (fx : Effects) (a : Answer) (h : HostState) (m : Submitted) where
  -- The steps so far, before the answer and with it.
  abbrev before : Trace
  before = waking now fx ∷ past

  abbrev after : Trace
  after = told now fx m.call.number a ∷ past

  abbrev hears : Submitted → Submitted
  hears d = hear past now fx m.call.number a d

  own_calls : (s : Session) → calls_of after s ≡ map hears (calls_of before s)
  own_calls s = picked past now fx m.call.number a (λ c. c.session == s.number) (submitted past)

  -- ---- its leases

  lease_calls_are : (s : Session) (at : Spot) → lease_calls st after s at ≡ map hears (lease_calls st before s at)
  lease_calls_are s at =
      ap (filter (λ d. is_lease_call d && is_on st.layout at d.call)) (own_calls s)
      ∙ picked past now fx m.call.number a (λ c. is_some (lease_step c.purpose) && is_on st.layout at c) (calls_of before s)

  me_stays : (s : Session) → me after s ≡ me before s
  me_stays s = ap (λ g. record { id = s.id; generation = g }) (ap (generation_in s) (own_calls s) ∙ generation_stays past now fx m.call.number a s (calls_of before s))

  lease_stands : (k : IsAnswered st past now fx a h m) (s : Session) (generation : ℕ) → generation_of before s ≡ generation → (heeded : Bool)
      → heeded ≡ is_going_on past (told now fx m.call.number a) (job_of m.call.purpose) → (l : LeaseState) (ms : List Submitted) → AllByRecursion (IsOr m.call.number m) ms
      → LeaseStands st.layout s.lockspace (me before s) l ms
      → LeaseStands st.layout s.lockspace (me before s)
      (elim l.waiting as (λ z. LeaseState) [
        | None ↦ l
        | Some w ↦ cond (w.number == m.call.number)
            (lease_hearing st.layout s.lockspace (record { id = s.id; generation = generation }) heeded (kept_call m) a w l) l
      ]) (map hears ms)
  lease_stands k s generation gen heeded heed l ms alone stands = by l.waiting stands.waiting where
    unheard_all : (ds : List Submitted) → map hears ds ≡ ds → LeaseStands st.layout s.lockspace (me before s) l ds → LeaseStands st.layout s.lockspace (me before s) l (map hears ds)
    unheard_all ds same z = subst (LeaseStands st.layout s.lockspace (me before s) l) (sym same) z

    its_own : (w : LeaseCall) (ds : List Submitted) → IsWaiting (Some w) ds → AllByRecursion (IsOr m.call.number m) ds → LeaseStands st.layout s.lockspace (me before s) l ds → (b : Bool) → (w.number == m.call.number) ≡ b
        → LeaseStands st.layout s.lockspace (me before s)
        (cond b (lease_hearing st.layout s.lockspace (record { id = s.id; generation = generation }) heeded (kept_call m) a w l) l) (map hears ds)
    its_own w [] waits all z b is = absurd waits
    its_own w (d ∷ ds) waits all z false is =
        unheard_all (d ∷ ds)
        (ap (λ e. e ∷ map hears ds) (not_its past now fx m.call.number a d (ap (λ n. n == m.call.number) waits.0.1 ∙ is)) ∙ ap (λ zs. d ∷ zs) (all_answered past now fx m.call.number a ds waits.1)) z
    its_own w (d ∷ ds) waits all z true is = at_head all.0 where
      at_head : IsOr m.call.number m d → LeaseStands st.layout s.lockspace (me before s)
          (lease_hearing st.layout s.lockspace (record { id = s.id; generation = generation }) heeded (kept_call m) a w l) (map hears (d ∷ ds))
      at_head (inl other) = absurd (not_both (d.call.number == m.call.number) (ap (λ n. n == m.call.number) waits.0.1 ∙ is) other)
      at_head (inr same) =
          let open_m : m.answer ≡ None = k.its.unanswered in
          let as_heard : map hears (d ∷ ds) ≡ heard past now fx a m ∷ ds =
          ap (λ e. hears e ∷ map hears ds) same ∙ ap (λ e. e ∷ map hears ds) (heard_is past now fx a m (number_itself m.call.number) open_m) ∙ ap (λ zs. heard past now fx a m ∷ zs) (all_answered past now fx m.call.number a ds waits.1) in
          let stood : LeaseStands st.layout s.lockspace (me before s) l (record m { answer = None } ∷ ds) =
          subst (λ (e : Submitted). LeaseStands st.layout s.lockspace (me before s) l (e ∷ ds)) (same ∙ ap (λ o. record m { answer = o }) open_m) z in
          subst (LeaseStands st.layout s.lockspace (me before s) (lease_hearing st.layout s.lockspace (record { id = s.id; generation = generation }) heeded (kept_call m) a w l)) (sym as_heard)
          (subst (λ g. LeaseStands st.layout s.lockspace (me before s) (lease_hearing st.layout s.lockspace (record { id = s.id; generation = g }) heeded (kept_call m) a w l) (heard past now fx a m ∷ ds)) gen
          (subst (λ b. LeaseStands st.layout s.lockspace (me before s) (lease_hearing st.layout s.lockspace (me before s) b (kept_call m) a w l) (heard past now fx a m ∷ ds)) (sym heed)
          (lease_hears st.layout s.lockspace (me before s) l m ds w (length past) now a (is_going_on past (told now fx m.call.number a) (job_of m.call.purpose)) (kept_call m) refl
          (only_read h.config.layout a m k.fits) (subst (λ (e : Submitted). IsKeptCall e w) (same ∙ ap (λ o. record m { answer = o }) open_m) waits.0) waits.1 stood)))

    by : (o : Option LeaseCall) → IsWaiting o ms
        → LeaseStands st.layout s.lockspace (me before s)
        (elim o as (λ z. LeaseState) [
          | None ↦ l
          | Some w ↦ cond (w.number == m.call.number)
              (lease_hearing st.layout s.lockspace (record { id = s.id; generation = generation }) heeded (kept_call m) a w l) l
        ]) (map hears ms)
    by None waits = unheard_all ms (all_answered past now fx m.call.number a ms waits) stands
    by (Some w) waits = its_own w ms waits alone stands (w.number == m.call.number) refl

  -- ---- what is known of a session on its id's sector

  abbrev known_parts : ℕ → ℕ → ℕ → Bool → Bool → Option ℕ → Bool → DeltaKnown
  known_parts generation seq renewed busy recovering leaving freed =
      record { generation = generation; seq = seq; renewed = renewed; busy = busy; recovering = recovering; leaving = leaving; freed = freed }

  -- By the session's calls, whether one is open, and how it stands with its renewals.
  abbrev known_by : Session → List Submitted → Bool → Renewing → DeltaKnown
  known_by s ms busy r =
      known_parts (generation_in s ms) (seq_in s ms) (renewal_in s ms) busy (is_some r.recovery) (option_map (λ j. j.number) (leaving_job st before s)) (is_some (free_write ms))

  known_heard : (s : Session) (ms : List Submitted) (busy : Bool) (r : Renewing) → known_by s (map hears ms) busy r ≡ known_by s ms busy r
  known_heard s ms busy r =
      let leaving : Option ℕ = option_map (λ j. j.number) (leaving_job st before s) in
      ap (λ n. known_parts n (seq_in s (map hears ms)) (renewal_in s (map hears ms)) busy (is_some r.recovery) leaving (is_some (free_write (map hears ms)))) (generation_stays past now fx m.call.number a s ms)
      ∙ ap (λ n. known_parts (generation_in s ms) n (renewal_in s (map hears ms)) busy (is_some r.recovery) leaving (is_some (free_write (map hears ms)))) (seq_stays past now fx m.call.number a s ms)
      ∙ ap (λ n. known_parts (generation_in s ms) (seq_in s ms) n busy (is_some r.recovery) leaving (is_some (free_write (map hears ms)))) (renewal_stays past now fx m.call.number a s ms)
      ∙ ap (λ b. known_parts (generation_in s ms) (seq_in s ms) (renewal_in s ms) busy (is_some r.recovery) leaving b) (free_stays past now fx m.call.number a ms)

  known_own : (s : Session) (busy : Bool) (r : Renewing) (known : DeltaKnown) → has_open_delta after s ≡ busy → renewing st after s ≡ r → delta_known st before s ≡ known
      → delta_known st after s ≡ record known { busy = busy; recovering = is_some r.recovery }
  known_own s busy r known open_is renews was =
      ap (λ ms. known_by s ms (has_open_delta after s) (renewing st after s)) (own_calls s) ∙ known_heard s (calls_of before s) (has_open_delta after s) (renewing st after s)
      ∙ ap (λ b. known_by s (calls_of before s) b (renewing st after s)) open_is ∙ ap (known_by s (calls_of before s) busy) renews
      ∙ ap (λ (k : DeltaKnown). record k { busy = busy; recovering = is_some r.recovery }) was

  -- ---- another's call

  other_calls : (s : Session) → IsTheCall (submitted past) (kept_call m) m → (m.call.session == s.number) ≡ false → calls_of after s ≡ calls_of before s
  other_calls s the other = own_calls s ∙ unheard past now fx m.call.number a (calls_of before s) (all_from (λ d. hears d ≡ d) (calls_of before s) each) where
    one : (d : Submitted) → is_call_of s d ≡ true → IsOr m.call.number m d → hears d ≡ d
    one d own (inl not_it) = not_its past now fx m.call.number a d not_it
    one d own (inr same) = absurd (not_both (m.call.session == s.number) (subst (λ (e : Submitted). (e.call.session == s.number) ≡ true) same own) other)

    each : (d : Submitted) → Contains (calls_of before s) d → hears d ≡ d
    each d there =
        let inside = kept_inside (is_call_of s) (submitted past) d there in
        one d inside.1 (each_of (IsOr m.call.number m) (submitted past) d the.alone inside.0)

  pub member_other : (k : IsAnswered st past now fx a h m) (member : MemberState) → (m.call.session == member.who.number) ≡ false → MemberStands st before member → MemberStands st after member
  member_other k member other s =
      let own : calls_of after member.who ≡ calls_of before member.who = other_calls member.who k.its other in
      let renews : renewing st after member.who ≡ renewing st before member.who = renewing_other past now fx st member.who a m m.call.number k.its.found other in
      record {
        joined = s.joined;
        refused = s.refused;
        known = ap (λ ms. known_by member.who ms (list_any (λ d. is_delta_purpose d.call.purpose) (unanswered ms)) (renewing st after member.who)) own
            ∙ ap (known_by member.who (calls_of before member.who) (has_open_delta before member.who)) renews ∙ s.known;
        joining = λ still. subst (JoinStands member.joining) (sym own) (s.joining still);
        renewing = renews ∙ s.renewing;
        leaving = s.leaving;
        asked = subst (AskedStands st member.asked) (sym own) s.asked;
        turn = subst (λ ms. AreInTurn (filter (λ c. is_delta_purpose c.call.purpose) ms)) (sym own) s.turn;
        seen = subst (WatchKeeps st member.watch) (sym own) s.seen;
        spots = ap (spots_in st.layout) own ∙ s.spots;
        leases = λ n l there.
            subst
            (λ ms. LeaseStands st.layout member.who.lockspace (record { id = member.who.id; generation = generation_in member.who ms }) l
            (filter (λ c. is_lease_call c && is_on st.layout l.spot c.call) ms)) (sym own) (s.leases n l there);
        values = λ n l there. ap (λ ms. newest_value (values_on st.layout l.spot ms)) own ∙ s.values n l there;
        valued = subst (λ ms. AllByRecursion (λ d. IsTrue (is_none (value_written d) || list_any (λ l. is_on st.layout l.spot d.call) member.leases)) ms) (sym own) s.valued;
      }

  -- ---- the member's own call

  -- A lease of the member with the answer, under the layout that is kept.
  abbrev told_lease : Layout → Session → ℕ → Bool → LeaseState → LeaseState
  told_lease g s generation heeded l =
      elim l.waiting as (λ z. LeaseState) [
        | None ↦ l
        | Some w ↦ cond (w.number == m.call.number) (lease_hearing g s.lockspace (record { id = s.id; generation = generation }) heeded (kept_call m) a w l) l
      ]

  told_spot : (g : Layout) (s : Session) (generation : ℕ) (heeded : Bool) (l : LeaseState) → (told_lease g s generation heeded l).spot ≡ l.spot
  told_spot g s generation heeded l = by l.waiting where
    by_number : (w : LeaseCall) (b : Bool) → (cond b (lease_hearing g s.lockspace (record { id = s.id; generation = generation }) heeded (kept_call m) a w l) l).spot ≡ l.spot
    by_number w true = refl
    by_number w false = refl

    by : (o : Option LeaseCall) → (elim o as (λ z. LeaseState) [
      | None ↦ l
      | Some w ↦ cond (w.number == m.call.number) (lease_hearing g s.lockspace (record { id = s.id; generation = generation }) heeded (kept_call m) a w l) l
    ]).spot ≡ l.spot
    by None = refl
    by (Some w) = by_number w (w.number == m.call.number)

  told_value : (g : Layout) (s : Session) (generation : ℕ) (heeded : Bool) (l : LeaseState) → (told_lease g s generation heeded l).value ≡ l.value
  told_value g s generation heeded l = by l.waiting where
    by_number : (w : LeaseCall) (b : Bool) → (cond b (lease_hearing g s.lockspace (record { id = s.id; generation = generation }) heeded (kept_call m) a w l) l).value ≡ l.value
    by_number w true = refl
    by_number w false = refl

    by : (o : Option LeaseCall) → (elim o as (λ z. LeaseState) [
      | None ↦ l
      | Some w ↦ cond (w.number == m.call.number) (lease_hearing g s.lockspace (record { id = s.id; generation = generation }) heeded (kept_call m) a w l) l
    ]).value ≡ l.value
    by None = refl
    by (Some w) = by_number w (w.number == m.call.number)

  spots_told : (g : Layout) (s : Session) (generation : ℕ) (heeded : Bool) (ls : List LeaseState) → map (λ (l : LeaseState). l.spot) (map (told_lease g s generation heeded) ls) ≡ map (λ l. l.spot) ls
  spots_told g s generation heeded [] = refl
  spots_told g s generation heeded (l ∷ ls) =
      ap (λ z. z ∷ map (λ (l : LeaseState). l.spot) (map (told_lease g s generation heeded) ls)) (told_spot g s generation heeded l) ∙ ap (λ zs. l.spot ∷ zs) (spots_told g s generation heeded ls)

  values_stay : (at : Spot) (s : Session) → values_on st.layout at (calls_of after s) ≡ values_on st.layout at (calls_of before s)
  values_stay at s =
      ap (values_on st.layout at) (own_calls s)
      ∙ ap (filter_map value_written) (picked past now fx m.call.number a (is_on st.layout at) (calls_of before s))
      ∙ given_heard past now fx m.call.number a (λ c. value_written (new_call 0 0 c)) (filter (λ d. is_on st.layout at d.call) (calls_of before s))

  pub member_own : (k : IsAnswered st past now fx a h m) (member : MemberState) → (m.call.session == member.who.number) ≡ true → is_present before member.who ≡ true
      → map kept_call (outstanding after) ≡ reverse (others m.call.number h) → MemberStands st before member → MemberStands st after (member_hearing h (kept_call m) a member)
  member_own k member own there still_open s =
      let who : Session = member.who in
      let ms : List Submitted = calls_of before who in
      let n : ℕ = m.call.number in
      let c : OpenCall = kept_call m in
      let numbered = number_itself m.call.number in
      let open_m = k.its.unanswered in
      let inside : Contains ms m = kept (is_call_of who) (submitted past) m own (find_inside (λ (d : Submitted). d.call.number == n) (submitted past) m k.its.found).0 in
      let alone : AllByRecursion (IsOr n m) ms = all_kept (IsOr n m) (is_call_of who) (submitted past) k.its.alone in
      let generation : generation_of before who ≡ member.known.generation = ap (λ (z : DeltaKnown). z.generation) s.known in
      let layout : st.layout ≡ h.config.layout = ap (λ (z : Config). z.layout) k.keeps.config in
      let heeded = heeded_is past now fx st h c m a k.keeps k.its k.replies in
      let renews : renewing st after who ≡ renewing_hearing h c a member =
      renewing_own past now fx st h member a m n k.replies there k.its.found own k.keeps.config k.keeps.entries k.reading s.joined generation s.renewing in
      let told_of : LeaseState → LeaseState = told_lease h.config.layout who member.known.generation (is_heeded_by h c) in
      record {
        joined = s.joined;
        refused = s.refused;
        known = known_own who (still_busy n h member) (renewing_hearing h c a member) member.known (open_delta_is after who (others n h) still_open) renews s.known;
        joining = λ still. subst (JoinStands _) (sym (own_calls who)) (joining_is past now fx a m ms h member.joining numbered open_m inside alone s.turn k.reading (s.joining still));
        renewing = renews;
        leaving = s.leaving;
        asked = subst (AskedStands st (asked_hearing h c a member.asked)) (sym (own_calls who)) (asked_are past now fx a m st h member.asked ms numbered open_m inside alone k.reading s.asked);
        turn = subst (λ z. AreInTurn (deltas z)) (sym (own_calls who)) (turn_is past now fx a m ms s.turn);
        seen = subst (WatchKeeps st (watch_hearing h c a member.watch)) (sym (own_calls who))
            (watch_is past now fx a m st h member.watch ms numbered open_m inside alone s.turn (sym layout) k.reading k.fits s.seen);
        spots = ap (spots_in st.layout) (own_calls who) ∙ spots_stay past now fx n a st.layout ms ∙ s.spots ∙ sym (spots_told h.config.layout who member.known.generation (is_heeded_by h c) member.leases);
        leases = λ i l at.
            let old = at_mapped told_of member.leases i l at in
            let x : LeaseState = old.0 in
            let spot : x.spot ≡ l.spot = sym (told_spot h.config.layout who member.known.generation (is_heeded_by h c) x) ∙ ap (λ (z : LeaseState). z.spot) old.2 in
            let stands = lease_stands k who member.known.generation generation (is_heeded_by h c) heeded x (lease_calls st before who x.spot)
            (all_kept (IsOr n m) (λ d. is_lease_call d && is_on st.layout x.spot d.call) ms alone) (s.leases i x old.1) in
            subst (λ z. LeaseStands st.layout who.lockspace (me after who) l (lease_calls st after who z)) spot
            (subst (λ z. LeaseStands st.layout who.lockspace (me after who) z (lease_calls st after who x.spot)) old.2
            (subst (λ z. LeaseStands st.layout who.lockspace (me after who) (told_lease z who member.known.generation (is_heeded_by h c) x) (lease_calls st after who x.spot)) layout
            (subst (λ z. LeaseStands st.layout who.lockspace z (told_lease st.layout who member.known.generation (is_heeded_by h c) x) (lease_calls st after who x.spot)) (sym (me_stays who))
            (subst (LeaseStands st.layout who.lockspace (me before who) (told_lease st.layout who member.known.generation (is_heeded_by h c) x)) (sym (lease_calls_are who x.spot)) stands))));
        values = λ i l at.
            let old = at_mapped told_of member.leases i l at in
            let x : LeaseState = old.0 in
            let spot : x.spot ≡ l.spot = sym (told_spot h.config.layout who member.known.generation (is_heeded_by h c) x) ∙ ap (λ (z : LeaseState). z.spot) old.2 in
            ap (λ z. newest_value (values_on st.layout z (calls_of after who))) (sym spot) ∙ ap newest_value (values_stay x.spot who) ∙ s.values i x old.1
            ∙ sym (told_value h.config.layout who member.known.generation (is_heeded_by h c) x) ∙ ap (λ (z : LeaseState). z.value) old.2;
        valued = subst (AllByRecursion (λ d. IsTrue (is_none (value_written d) || list_any (λ l. is_on st.layout l.spot d.call) (map told_of member.leases)))) (sym (own_calls who))
            (all_heard past now fx n a (λ e. IsTrue (is_none (value_written (new_call 0 0 e)) || list_any (λ l. is_on st.layout l.spot e) (map told_of member.leases))) ms
            (all_as (λ d. IsTrue (is_none (value_written d) || list_any (λ l. is_on st.layout l.spot d.call) member.leases))
            (λ d. IsTrue (is_none (value_written d) || list_any (λ l. is_on st.layout l.spot d.call) (map told_of member.leases))) ms
            (λ d is.
            ap (λ b. is_none (value_written d) || b)
            (any_mapped (λ (l : LeaseState). is_on st.layout l.spot d.call) told_of member.leases
            ∙ any_as (λ x. is_on st.layout (told_of x).spot d.call) (λ x. is_on st.layout x.spot d.call) member.leases
            (λ x. ap (λ z. is_on st.layout z d.call) (told_spot h.config.layout who member.known.generation (is_heeded_by h c) x)))
            ∙ is) s.valued));
      }
