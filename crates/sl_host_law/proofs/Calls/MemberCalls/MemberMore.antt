-- A member after one more call: its own, or another's.
use Rattle.sl_area.specs.AreaSizes.{Layout}
use Rattle.sl_host_law.proofs.Calls.MemberCalls.KnownMore.{asked_more, joining_more, known_by, known_more, seen_more, turn_more}
use Rattle.sl_host_law.proofs.Calls.MemberCalls.LeasesMore.{calls_on, leases_may, leases_stand}
use Rattle.sl_host_law.proofs.Calls.MemberCalls.SpotsMore.{spots_more}
use Rattle.sl_host_law.proofs.Calls.MemberCalls.ValuesMore.{on_lease, valued_more, values_more}
use Rattle.sl_host_law.specs.Calls.MemberCalls.{fits_again, fits_generation, fits_lease, fits_turn, fits_value}
use Rattle.sl_due.specs.Steps.{Step, seen, with_effects}
use Rattle.sl_host_law.proofs.SharedFacts.PlainLists.{at_some}
use Rattle.sl_host_state.specs.KeptState.{LeaseState, MemberState}
use Rattle.sl_host_state.specs.MadeEffects.{joining_calling, known_calling, leases_calling}
use Rattle.sl_host_state.proofs.LooksStay.{askings_stay, looks_stay}
use Rattle.sl_host_state.specs.HostStands.{AreInTurn, AskedStands, JoinStands, LeaseStands, MemberStands, WatchKeeps, newest_value}
use Rattle.sl_trace.specs.Counts.{values_on}
use Rattle.sl_trace.specs.Leases.{spots_in}
use Rattle.sl_words.proofs.Lists.{contains_none, got_inside}
use Rattle.sl_sector.specs.declared.sector.DeltaRec.{DeltaRec}
use Rattle.sl_sector.specs.declared.sector.Owner.{Owner}
use Rattle.sl_trace.specs.Sessions.{calls_of, delta_written, generation_in, given_number, is_call_of, is_delta_purpose, last_delta, leaving_job, recovery_of}
use Rattle.sl_trace.specs.declared.delta.DeltaKnown.{DeltaKnown}
use Rattle.sl_trace.specs.declared.session.Session.{Session}
use Rattle.sl_trace.proofs.TraceFacts.{submitted-push}
use Rattle.sl_trace.specs.Traces.{Submitted, new_call, submitted, unanswered}
use Rattle.sl_trace.specs.declared.effects.Call.{Call}
use Rattle.sl_trace.specs.declared.effects.Effects.{Effects}
use Rattle.sl_words.proofs.CaseLaws.{false_is_true}
use Rattle.sl_words.proofs.WordLaws.{or_true}
use Rattle.sl_words.specs.Words.{is_empty}
use Rattle.std.proofs.Common.{ap, inl, inr, refl, subst, sym, ◌∙◌}
use Rattle.std.proofs.lemmas.Bool.Decides.{Decides-eqb}
use Rattle.std.specs.List.{AllByRecursion, list_any}
use Rattle.std.specs.Option.{option_map_or}
use Rattle.std.specs.Prelude.{Bool, Contains, IsTrue, List, None, Option, Some, cond, false, filter, is_some, length, not, option_map, true, [], ℕ, ◌&&◌, ◌++◌, ◌==◌, ◌||◌, ◌∷◌, ◌≡◌}

-- The step with one more call at its end.
abbrev pub more : Call → Step → Step
more call x = let fx : Effects = x.effects in with_effects x (record fx { calls = fx.calls ++ call ∷ [] })

-- The call as it is submitted.
abbrev pub newest : Step → Call → Submitted
newest x call = new_call (length x.past) x.reading call

-- One more call is the newest of all.
pub all_more : (x : Step) (call : Call) → submitted (seen (more call x)) ≡ newest x call ∷ submitted (seen x)
all_more x call = submitted-push x.past (record { reading = x.reading; input = x.input; effects = x.effects }) call

-- And the newest of its session's.
pub own_more : (x : Step) (call : Call) (s : Session) → (call.session == s.number) ≡ true → calls_of (seen (more call x)) s ≡ newest x call ∷ calls_of (seen x) s
own_more x call s own = ap (filter (is_call_of s)) (all_more x call) ∙ ap (λ b. cond b (newest x call ∷ calls_of (seen x) s) (calls_of (seen x) s)) own

-- Those of others stay.
pub others_stay : (x : Step) (call : Call) (s : Session) → (call.session == s.number) ≡ false → calls_of (seen (more call x)) s ≡ calls_of (seen x) s
others_stay x call s other = ap (filter (is_call_of s)) (all_more x call) ∙ ap (λ b. cond b (newest x call ∷ calls_of (seen x) s) (calls_of (seen x) s)) other

-- ---- of another

abbrev with_calls : Step → Session → List Submitted → DeltaKnown
with_calls x s ms = known_by s (is_some (recovery_of x.setting (seen x) s)) (option_map (λ j. j.number) (leaving_job x.setting (seen x) s)) ms

-- A session's name in ballots, by its calls.
abbrev pub self_by : Session → List Submitted → Owner
self_by s ms = record { id = s.id; generation = generation_in s ms }

-- The same calls: the same member.
pub stays_by_calls : (x : Step) (call : Call) (s : MemberState) → calls_of (seen (more call x)) s.who ≡ calls_of (seen x) s.who → MemberStands x.setting (seen x) s
    → MemberStands x.setting (seen (more call x)) s
stays_by_calls x call s same k =
    record {
      joined = k.joined;
      refused = k.refused;
      known = ap (with_calls x s.who) same ∙ k.known;
      joining = λ still. subst (λ ms. JoinStands s.joining ms) (sym same) (k.joining still);
      renewing = k.renewing;
      leaving = k.leaving;
      asked = subst (AskedStands x.setting s.asked) (sym same) k.asked;
      turn = subst (λ ms. AreInTurn (filter (λ m. is_delta_purpose m.call.purpose) ms)) (sym same) k.turn;
      seen = subst (WatchKeeps x.setting s.watch) (sym same) k.seen;
      spots = ap (spots_in x.setting.layout) same ∙ k.spots;
      leases = λ i l there. subst (λ ms. LeaseStands x.setting.layout s.who.lockspace (self_by s.who ms) l (calls_on x.setting.layout l.spot ms)) (sym same) (k.leases i l there);
      valued = subst (λ ms. AllByRecursion (λ d. IsTrue (on_lease x.setting.layout s.leases d)) ms) (sym same) k.valued;
      values = λ i l there. ap (λ ms. newest_value (values_on x.setting.layout l.spot ms)) same ∙ k.values i l there;
    }

-- ---- of its own

-- A member after its call.
abbrev pub called : Layout → Submitted → MemberState → MemberState
called g c s = record s { known = known_calling c s.known; joining = joining_calling c s.joining; leases = leases_calling g c s.leases }

-- What the tests say.
pub record MemberFits (g : Layout) (s : MemberState) (c : Submitted) : Type 0 where
  pub turn : IsTrue (fits_turn s c)
  pub generation : IsTrue (fits_generation s c)
  pub value : IsTrue (fits_value g s c)
  pub lease : IsTrue (fits_lease g s c)
  pub again : IsTrue (fits_again g s c)

not_both : (a b c : Bool) → not (a && b) ≡ true → c ≡ b → (a && c) ≡ false
not_both true true c fits is = absurd (false_is_true fits)
not_both true false c fits is = is
not_both false b c fits is = refl

-- Who has leases keeps its name in ballots.
keeps_name : (x : Step) (call : Call) (s : MemberState) (l : LeaseState) → IsTrue (fits_generation s (newest x call)) → MemberStands x.setting (seen x) s → Contains s.leases l
    → self_by s.who (newest x call ∷ calls_of (seen x) s.who) ≡ self_by s.who (calls_of (seen x) s.who)
keeps_name x call s l fits k there = ap (λ (n : ℕ). record { id = s.who.id; generation = n }) (by (delta_written (newest x call)) fits) where
  empty : (ls : List LeaseState) → Contains ls l → is_empty ls ≡ true → ⊥
  empty [] in_it is = contains_none l in_it
  empty (z ∷ zs) in_it is = false_is_true is

  by : (o : Option DeltaRec) → option_map_or (λ d. d.generation == s.known.generation || is_empty s.leases) o true ≡ true
      → option_map_or (λ d. d.generation) (elim o as (λ z. Option DeltaRec) [ Some d ↦ Some d | None ↦ last_delta (calls_of (seen x) s.who) ]) (given_number s.who) ≡ generation_in s.who (calls_of (seen x) s.who)
  by None is = refl
  by (Some d) is =
      elim (or_true (d.generation == s.known.generation) (is_empty s.leases) is) [
        | inl same ↦ (Decides-eqb d.generation s.known.generation).0 same ∙ sym (ap (λ (n : DeltaKnown). n.generation) k.known)
        | inr none ↦ absurd (empty s.leases there none)
      ]

pub own_stands : (x : Step) (call : Call) (s : MemberState) → (call.session == s.who.number) ≡ true → MemberFits x.setting.layout s (newest x call) → MemberStands x.setting (seen x) s
    → MemberStands x.setting (seen (more call x)) (called x.setting.layout (newest x call) s)
own_stands x call s own fits k =
    let g : Layout = x.setting.layout in
    let c : Submitted = newest x call in
    let ms : List Submitted = calls_of (seen x) s.who in
    let is : calls_of (seen (more call x)) s.who ≡ c ∷ ms = own_more x call s.who own in
    let each : (l : LeaseState) → Contains s.leases l → LeaseStands g s.who.lockspace (self_by s.who (c ∷ ms)) l (calls_on g l.spot ms) =
    λ l there. (let at = at_some s.leases l there in
    subst (λ o. LeaseStands g s.who.lockspace o l (calls_on g l.spot ms)) (sym (keeps_name x call s l fits.generation k there)) (k.leases at.0 l at.1))
    in
    record {
      joined = k.joined;
      refused = k.refused;
      known = ap (with_calls x s.who) is
          ∙ known_more (length x.past) x.reading call s.who (is_some (recovery_of x.setting (seen x) s.who)) (option_map (λ j. j.number) (leaving_job x.setting (seen x) s.who)) ms s.known k.known;
      joining = λ still. subst (λ cs. JoinStands (joining_calling c s.joining) cs) (sym is) (joining_more (length x.past) x.reading call s.joining ms (k.joining still));
      renewing = k.renewing;
      leaving = k.leaving;
      asked = subst (AskedStands x.setting s.asked) (sym is) (askings_stay x.setting s.asked ms (c ∷ ms) (asked_more (length x.past) x.reading call x.setting ms) k.asked);
      turn = subst (λ cs. AreInTurn (filter (λ m. is_delta_purpose m.call.purpose) cs)) (sym is)
          (turn_more (length x.past) x.reading call ms
          (not_both (is_delta_purpose call.purpose) s.known.busy (list_any (λ m. is_delta_purpose m.call.purpose) (unanswered ms)) fits.turn (ap (λ (n : DeltaKnown). n.busy) k.known)) k.turn);
      seen = subst (WatchKeeps x.setting s.watch) (sym is) (looks_stay x.setting s.watch ms (c ∷ ms) (λ id. seen_more (length x.past) x.reading call g id ms) k.seen);
      spots = ap (spots_in g) is ∙ spots_more g c ms s.leases k.spots;
      leases = λ i l there.
          subst (λ cs. LeaseStands g s.who.lockspace (self_by s.who cs) l (calls_on g l.spot cs)) (sym is)
          (leases_stand g s.who.lockspace (self_by s.who (c ∷ ms)) (length x.past) x.reading call ms s.leases k.spots (leases_may g s c ms k.spots fits.lease fits.again) each l
          (got_inside (leases_calling g c s.leases) i l there));
      valued = subst (λ cs. AllByRecursion (λ d. IsTrue (on_lease g (leases_calling g c s.leases) d)) cs) (sym is)
          (valued_more g (length x.past) x.reading call ms s k.spots fits.value k.valued);
      values = λ i l there.
          ap (λ cs. newest_value (values_on g l.spot cs)) is
          ∙ values_more g (length x.past) x.reading call ms s k.spots fits.value k.valued (λ z in_it. (let at = at_some s.leases z in_it in k.values at.0 z at.1)) l
          (got_inside (leases_calling g c s.leases) i l there);
    }
