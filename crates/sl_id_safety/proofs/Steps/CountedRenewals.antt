-- A renewal that counts is one of an id.
use Rattle.sl_run_law.proofs.Course.CallsAreDistinct.{each_distinct}
use Rattle.sl_run_law.proofs.Course.MachinesMirror.{machines_mirror}
use Rattle.sl_run_law.specs.Course.CallStamps.{stamp_in}
use Rattle.sl_id_safety.proofs.State.Frames.{free_landed_by, free_of}
use Rattle.sl_id_safety.proofs.State.LandingFrames.{landing_at}
use Rattle.sl_id_safety.specs.State.IdStates.{id_state, join_course, own_courses, renewed_by_now}
use Rattle.sl_id_safety.proofs.Steps.RenewedNotOver.{unended, unfreed, unremoved}
use Rattle.sl_id_safety.proofs.Steps.RenewalsAboveClaims.{above_claim, has_verified, verified_by}
use Rattle.sl_id_safety.proofs.Steps.EventFrames.{after_event, step_sector}
use Rattle.sl_id_safety.proofs.Steps.Flags.{over_is}
use Rattle.sl_id_safety.proofs.Steps.Frees.{free_stays}
use Rattle.sl_id_safety.proofs.Steps.OwnCalls.{Through, join_goes}
use Rattle.sl_id_safety.proofs.Steps.OwnSessions.{One_counts}
use Rattle.sl_id_safety.proofs.Steps.RenewalCalls.{HasLeft, numbered, renewal_call, renewal_left}
use Rattle.sl_id_safety.proofs.Steps.Renewals.{CountedRenew, lawful_on, since_in, since_joined}
use Rattle.sl_id_safety.proofs.Steps.EntryKeepsStanding.{index_stays}
use Rattle.sl_id_safety.specs.Steps.EventParts.{between}
use Rattle.sl_run_law.proofs.Landing.LandingLaws.{landings_are_written}
use Rattle.sl_run.proofs.LawFacts.{orderly-front}
use Rattle.sl_run.specs.Lawful.{Orderly}
use Rattle.sl_run.specs.LawfulParting.{MayPart}
use Rattle.sl_words.proofs.Lists.{find_fails, find_inside, got_inside}
use Rattle.sl_run.specs.Runs.{Happening}
use Rattle.sl_run.specs.Safety.{Found, SessionId, free_landed, has_write_in_flight, is_over, trace_of, world_at}
use Rattle.sl_run.specs.Worlds.{Program, Stamp, World, first_landing, history_of, landed_at}
use Rattle.sl_run.specs.declared.header.Header.{Header}
use Rattle.sl_run_law.specs.Sample.Samples.{numbered_landing}
use Rattle.sl_run_law.proofs.Sessions.CallsAreMade.{WasOpen, old_or_new, was_marked}
use Rattle.sl_run_law.specs.Sessions.SessionLaws.{IsSession}
use Rattle.sl_trace.specs.Sessions.{calls_of, ended_after, free_write, is_free_purpose, is_joined, joined_after, recovery_of, refused_after, removed_after, removed_in, renewed_by, renewing, sessions, shows_other}
use Rattle.sl_trace.specs.declared.session.Begun.{Begun}
use Rattle.sl_trace.specs.declared.session.Renewing.{Renewing}
use Rattle.sl_trace.specs.declared.session.Session.{Session}
use Rattle.sl_time.specs.Times.{fail}
use Rattle.sl_trace.specs.Traces.{Setting, Submitted, Trace, mark, submitted}
use Rattle.sl_trace.specs.WatchdogConnections.{unregisters}
use Rattle.sl_trace.specs.declared.effects.Entry.{Entry}
use Rattle.sl_trace.specs.declared.effects.JoinStep.TheVariants.{ClaimWrite}
use Rattle.sl_run_law.proofs.Watchdog.FoundCalls.{call_inside, call_owner}
use Rattle.sl_run_law.proofs.Watchdog.Readings.{after_by, in_by}
use Rattle.sl_run_law.proofs.Watchdog.OneOpenRenewal.{IsOpenRenewal}
use Rattle.sl_run_law.specs.Watchdog.ActingTimes.{renewal_entry, renewal_in, renewal_told}
use Rattle.sl_words.proofs.CaseLaws.{none_some, not_both, true_is_false}
use Rattle.sl_words.proofs.WordLaws.{and_true, choose_some}
use Rattle.std.proofs.Common.{ap, arith, inl, inr, refl, subst, sym, ◌∙◌}
use Rattle.std.proofs.lemmas.Bool.{and_from}
use Rattle.std.specs.List.{list_any}
use Rattle.std.specs.Option.{option_map_or}
use Rattle.std.specs.Prelude.{Bool, List, None, Option, Some, false, is_none, is_some, length, nat_le, not, true, [], ℕ, ◌&&◌, ◌+◌, ◌<◌, ◌||◌, ◌∷◌, ◌≡◌, ◌≤◌}

-- ---- it does not end with the entry

recovery_by : (es : Trace) (e : Entry) (r : Renewing) (begun : Option Begun) (late other : Bool) (now : Option Submitted) (m : Submitted) (counted : Option ℕ) → r.recovery ≡ begun
    → in_by begun late other now ≡ Some m → (after_by es e r begun late other counted).recovery ≡ None
recovery_by es e r (Some b) late other now m counted same h = absurd (none_some m h)
recovery_by es e r None true other now m counted same h = absurd (none_some m h)
recovery_by es e r None false true now m counted same h = absurd (none_some m h)
recovery_by es e r None false false now m counted same h = same

-- Where a renewal counts no recovery begins.
no_recovery : (st : Setting) (es : Trace) (s : Session) (e : Entry) (m : Submitted) → renewal_in st es s e ≡ Some m → recovery_of st (e ∷ es) s ≡ None
no_recovery st es s e m h =
    recovery_by es e (renewing st es s) (recovery_of st es s) (is_joined es s && nat_le ((renewing st es s).last + fail st.timing) e.reading)
    (is_joined es s && shows_other st es s e.input) (renewal_told es s e.input) m (renewed_by es s e.input) refl h

-- A free that the entry makes has no answer.
new_unmet : (e : Entry) (es : Trace) (s : Session) (c : Submitted) → free_write (calls_of es s) ≡ None → free_write (calls_of (e ∷ es) s) ≡ Some c → c.answer ≡ None
new_unmet e es s c none free =
    let r = find_inside (λ (x : Submitted). is_free_purpose x.call.purpose) (calls_of (e ∷ es) s) c free in
    let own = call_owner (e ∷ es) s c r.0 in
    elim (old_or_new (length es) e.reading e.effects.calls (mark es e e.input (submitted es)) c own.0) as (λ z. c.answer ≡ None) [
      | inr new ↦ new.unmet
      | inl old ↦ let o : WasOpen (submitted es) c = was_marked es e e.input (submitted es) c old in
          absurd (not_both (is_free_purpose o.before.call.purpose) (ap (λ k. is_free_purpose k.purpose) (sym o.same.call) ∙ r.1)
          (find_fails (λ (x : Submitted). is_free_purpose x.call.purpose) (calls_of es s) o.before none
          (call_inside es s o.before o.inside (ap (λ k. k.session) (sym o.same.call) ∙ own.1))))
    ]

part_not : (st : Setting) (e : Entry) (es : Trace) (s : Session) (m : Submitted) → renewal_in st es s e ≡ Some m → free_write (calls_of es s) ≡ None → MayPart st es e s → ⊥
part_not st e es s m counts none (inl r) = true_is_false (sym r.0 ∙ ap (λ o. is_some o) (no_recovery st es s e m counts))
part_not st e es s m counts none (inr r) = none_some r.3.0 (sym (new_unmet e es s r.0 none r.2) ∙ r.3.1)

removed_by : (st : Setting) (e : Entry) (es : Trace) (s : Session) (m : Submitted) → Orderly st (e ∷ es) → IsSession st es s → renewal_in st es s e ≡ Some m
    → free_write (calls_of es s) ≡ None → removed_after es s ≡ None → (k : ℕ) → joined_after (e ∷ es) s ≡ Some k
    → (o : Option ℕ) → removed_in es s e ≡ o → removed_after (e ∷ es) s ≡ None
removed_by st e es s m h its counts none stays k joined None is =
    ap (λ q. elim q as (λ z. Option ℕ) [ Some n ↦ Some n | None ↦ removed_in es s e ]) stays ∙ is
removed_by st e es s m h its counts none stays k joined (Some r) is =
    let c = choose_some (is_some (joined_after es s) && list_any (unregisters s.lockspace) e.effects.moves) (length es + 1) r is in
    let was : is_joined es s ≡ true =
    and_from (is_some (joined_after es s)) (is_none (removed_after es s)) (and_true (is_some (joined_after es s)) (list_any (unregisters s.lockspace) e.effects.moves) c.0).0
    (ap (λ o. is_none o) stays) in
    let gone : removed_after (e ∷ es) s ≡ Some r = ap (λ q. elim q as (λ z. Option ℕ) [ Some n ↦ Some n | None ↦ removed_in es s e ]) stays ∙ is in
    let out : is_joined (e ∷ es) s ≡ false =
    ap (λ o. is_some o && is_none (removed_after (e ∷ es) s)) joined ∙ ap (λ o. is_none o) gone in
    absurd (part_not st e es s m counts none (h.parting.0.parts_well s (got_inside (sessions st es) s.number s its) was out))

-- ---- it is not over

over_not : (a b c : Bool) → a ≡ false → b ≡ false → (a || b && not c) ≡ false
over_not true b c h k = absurd (true_is_false h)
over_not false true c h k = absurd (true_is_false k)
over_not false false c h k = refl

no_free : {p : Program} {h : Header} {xs : List Happening} {w : World} {i : SessionId} {f g : Found} (t : Through p h xs w i f g)
    → free_write (calls_of f.daemon.trace f.session) ≡ None → free_landed i f ≡ false
no_free {i = i} {f = f} t none = free_of i f ∙ ap (λ o. free_landed_by (own_courses i f.machine) o) none

front_on : {p : Program} {h : Header} {xs : List Happening} {w : World} {i : SessionId} {f g : Found} (t : Through p h xs w i f g) → Orderly f.daemon.setting f.daemon.trace
front_on {f = f} t = orderly-front f.daemon.setting (t.entry ∷ []) f.daemon.trace (lawful_on t)

joined_in : {p : Program} {h : Header} {xs : List Happening} {w : World} {i : SessionId} {f g : Found} (t : Through p h xs w i f g) (k : ℕ)
    → joined_after (trace_of g) g.session ≡ Some k → joined_after (t.entry ∷ f.daemon.trace) f.session ≡ Some k
joined_in {f = f} {g = g} t k is =
    sym (ap (λ es. joined_after es g.session) t.trace ∙ ap (λ s. joined_after (t.entry ∷ f.daemon.trace) s) t.session) ∙ is

alive_before : {p : Program} {h : Header} {xs : List Happening} {w : World} {i : SessionId} {f g : Found} (t : Through p h xs w i f g) (k : ℕ)
    → joined_after (trace_of g) g.session ≡ Some k → (m : Submitted) → IsOpenRenewal f.daemon.trace f.session m → is_over i f ≡ false
alive_before {i = i} {f = f} t k joined m unmet =
    let st : Setting = f.daemon.setting in
    let es : Trace = f.daemon.trace in
    over_is i f t.was_up
    ∙ over_not (free_landed i f) (is_some (ended_after es f.session)) (has_write_in_flight i f.machine)
    (no_free t (unfreed st es f.session m (front_on t) t.had unmet))
    (ap (λ o. is_some o) (unended st t.entry es f.session m k (front_on t) t.had unmet (joined_in t k joined)))

alive_after : {p : Program} {h : Header} {xs : List Happening} {w : World} {i : SessionId} {f g : Found} (t : Through p h xs w i f g) (k : ℕ)
    → joined_after (trace_of g) g.session ≡ Some k → (m : Submitted) → renewal_in f.daemon.setting f.daemon.trace f.session t.entry ≡ Some m
    → IsOpenRenewal f.daemon.trace f.session m → is_over i g ≡ false
alive_after {i = i} {f = f} {g = g} t k joined m counts unmet =
    let st : Setting = f.daemon.setting in
    let es : Trace = f.daemon.trace in
    let s : Session = f.session in
    let none = unfreed st es s m (front_on t) t.had unmet in
    let on = joined_in t k joined in
    let removed : removed_after (t.entry ∷ es) s ≡ None =
    removed_by st t.entry es s m (lawful_on t) t.had counts none (unremoved st es s m (front_on t) t.had unmet) k on (removed_in es s t.entry) refl in
    let ended : ended_after (trace_of g) g.session ≡ None =
    ap (λ x. ended_after x g.session) t.trace ∙ ap (λ x. ended_after (t.entry ∷ es) x) t.session
    ∙ ap (λ o. elim o as (λ z. Option ℕ) [ Some n ↦ removed_after (t.entry ∷ es) s | None ↦ refused_after (t.entry ∷ es) s ]) on ∙ removed in
    over_is i g t.is_up
    ∙ over_not (free_landed i g) (is_some (ended_after (trace_of g) g.session)) (has_write_in_flight i g.machine) (free_stays t ∙ no_free t none) (ap (λ o. is_some o) ended)

-- ---- since when it acts

abbrev entry_by : Option Submitted → Option ℕ → Option ℕ
entry_by now before = elim now [ Some m ↦ Some m.at | None ↦ before ]

since_made : {p : Program} {h : Header} {xs : List Happening} {w : World} {i : SessionId} {f g : Found} (t : Through p h xs w i f g) (m : Submitted)
    → renewal_in f.daemon.setting f.daemon.trace f.session t.entry ≡ Some m → (x : Stamp) → stamp_in g.daemon.stamps m.at ≡ Some x
    → since_in g.daemon.setting g.daemon.stamps g.daemon.trace g.session g.daemon.begun ≡ x.moment
since_made {f = f} {g = g} t m counts x made =
    ap (λ st. since_in st g.daemon.stamps g.daemon.trace g.session g.daemon.begun) t.setting
    ∙ ap (λ es. since_in f.daemon.setting g.daemon.stamps es g.session g.daemon.begun) t.trace
    ∙ ap (λ s. since_in f.daemon.setting g.daemon.stamps (t.entry ∷ f.daemon.trace) s g.daemon.begun) t.session
    ∙ ap (λ o. option_map_or (λ (y : Stamp). y.moment)
    (elim (entry_by o (renewal_entry f.daemon.setting f.daemon.trace f.session)) as (λ z. Option Stamp) [ Some a ↦ stamp_in g.daemon.stamps a | None ↦ Some g.daemon.begun ]) 0) counts
    ∙ ap (λ (o : Option Stamp). option_map_or (λ (y : Stamp). y.moment) o 0) made

not_after : (a b c d : ℕ) → a ≡ b → b ≤ c → d ≡ c → a ≤ d
not_after a b c d e le f = omega (arith, e, le, f)

-- So a renewal that counts is one of the id.
pub counted_renew : CountedRenew
counted_renew p h now x path offset run place reached e i is f g at t own begun k joined m counts unmet =
    let u : World = between (world_at p h now) x.0 in
    let v : World = after_event p h now x in
    let r = renewal_call t m counts unmet in
    let l : HasLeft v path offset r.0 = renewal_left t path offset own m.at m.call.purpose unmet.renews r.0 r.1 in
    let n = numbered (landed_at v path offset) (first_landing v path offset) l.landing l.there in
    let d = has_verified t m.at m.call.purpose unmet.renews r.0 r.1 in
    let s = step_sector each_distinct machines_mirror landings_are_written p h now x run path offset in
    let there : numbered_landing (history_of u path offset) n.index ≡ Some l.landing = ap (λ ls. numbered_landing ls n.index) (sym s.history) ∙ n.at in
    One_counts (alive_before t k joined m unmet) (alive_after t k joined m counts unmet) (ap is_some joined)
    (record {
      verified = verified_by t r.0 d.0 d.1;
      index = n.index;
      above = subst (λ a. a < n.index) (index_stays t path offset (join_course i ClaimWrite f.machine) (join_course i ClaimWrite g.machine) refl
          (join_goes t ClaimWrite (λ z. absurd (omega (arith, z)))) s.history) (above_claim t path offset r.0 d.0 d.1 l n);
      within = subst (λ ls. n.index < length ls) s.history n.within;
      submitted = renewed_by_now v i g;
      before = not_after (renewed_by_now v i g) r.0.made.moment l.landing.moment ((id_state u path offset).landing n.index).moment
          (since_joined v i g k joined ∙ since_made t m counts r.0.made r.1.made) l.after.1 (ap (λ y. y.moment) (landing_at u path offset n.index l.landing there));
      is = refl;
    })
