-- Through an entry a session acts since when it did, unless a renewal of it counts.
use Rattle.sl_run_law.specs.Course.CallStamps.{stamp_in}
use Rattle.sl_id_safety.specs.State.IdStates.{claim_bytes, has_begun, is_sector_of, join_course, renewed_by_now, verifying_sample}
use Rattle.sl_id_safety.specs.State.StateLaws.{IsIdPlace}
use Rattle.sl_id_safety.proofs.Steps.EventFrames.{after_event}
use Rattle.sl_id_safety.proofs.Steps.OtherSessions.{IsOfEntry}
use Rattle.sl_id_safety.proofs.Steps.OwnCalls.{Through, join_goes, knows}
use Rattle.sl_id_safety.proofs.Steps.OwnSessions.{None_counts, RenewalGoes, RenewalsGo}
use Rattle.sl_id_safety.proofs.Steps.ShownStays.{verifying_stays}
use Rattle.sl_id_safety.proofs.Steps.EntryKeepsStanding.{has_read, registered_by}
use Rattle.sl_id_safety.proofs.Steps.StepFrames.{IsEntry}
use Rattle.sl_id_safety.specs.Steps.EventParts.{between, state_between}
use Rattle.sl_ids.specs.Guards.{terms_of}
use Rattle.sl_ids.specs.Runs.{Reached}
use Rattle.sl_run.proofs.LawFacts.{orderly-front}
use Rattle.sl_run.specs.Lawful.{Orderly}
use Rattle.sl_run_law.proofs.Place.Looks.{made_below}
use Rattle.sl_run.specs.Runs.{Happening}
use Rattle.sl_run.specs.Safety.{Found, LawfulRun, SessionId, session_of_world, setting_in, trace_of, world_at}
use Rattle.sl_run.specs.Worlds.{Course, Program, Sampling, Stamp, World}
use Rattle.sl_run.specs.declared.header.Header.{Header}
use Rattle.sl_run_law.proofs.Sessions.CallOwners.{session_more}
use Rattle.sl_run_law.proofs.Sessions.MarksStay.{joined_more}
use Rattle.sl_run_law.specs.Sessions.SessionLaws.{IsSession}
use Rattle.sl_trace.specs.Sessions.{joined_after}
use Rattle.sl_trace.specs.declared.session.Session.{Session}
use Rattle.sl_trace.specs.Traces.{Setting, Submitted, Trace}
use Rattle.sl_trace.specs.declared.effects.Entry.{Entry}
use Rattle.sl_trace.specs.declared.effects.JoinStep.TheVariants.{VerifyRead}
use Rattle.sl_run_law.proofs.Watchdog.Joins.{joins_now}
use Rattle.sl_run_law.proofs.Watchdog.Readings.{Counts, NextRenewal, Stays, next_renewal}
use Rattle.sl_run_law.proofs.Watchdog.OneOpenRenewal.{IsOpenRenewal, told_is_open}
use Rattle.sl_run_law.specs.Watchdog.ActingTimes.{acting_stamp, registering_entry, renewal_entry, renewal_in}
use Rattle.sl_words.proofs.CaseLaws.{none_some, some_value}
use Rattle.std.proofs.Common.{ap, arith, refl, subst, sym, tests, ◌∙◌}
use Rattle.std.specs.Option.{option_map_or}
use Rattle.std.specs.Prelude.{Bool, List, None, Option, Some, false, is_some, length, option_and_then, suc, true, [], ℕ, ◌++◌, ◌<◌, ◌==◌, ◌∷◌, ◌≡◌}

-- ---- the renewal that counts last

abbrev entry_by : Option Submitted → Option ℕ → Option ℕ
entry_by now before = elim now [ Some m ↦ Some m.at | None ↦ before ]

within_by : (st : Setting) (e : Entry) (past : Trace) (s : Session) (i : ℕ) → Orderly st (e ∷ past) → renewal_entry st (e ∷ past) s ≡ Some i
    → (renewal_entry st past s ≡ Some i → i < length past) → NextRenewal st past s e → i < suc (length past)
within_by st e past s i h is rest (Stays none same) = omega (arith, rest (sym (ap (λ o. entry_by o (renewal_entry st past s)) none) ∙ is))
within_by st e past s i h is rest (Counts m in_it told_is now) =
    let at : m.at ≡ i = some_value m.at i (sym (ap (λ o. entry_by o (renewal_entry st past s)) in_it) ∙ is) in
    omega (arith, at, made_below past m (told_is_open st e past s m h told_is).inside)

-- It was submitted before.
renewal_within : (st : Setting) (es : Trace) (s : Session) (i : ℕ) → Orderly st es → renewal_entry st es s ≡ Some i → i < length es
renewal_within st [] s i h is = absurd (none_some i is)
renewal_within st (e ∷ past) s i h is =
    within_by st e past s i h is (λ was. renewal_within st past s i (orderly-front st (e ∷ []) past h) was) (next_renewal st past s e)

-- ---- of a session that is joined

stamp_by : (now : Stamp) (ss : List Stamp) (i : ℕ) (b : Bool) → (i == length ss) ≡ b → i < length ss
    → elim b as (λ z. Option Stamp) [ true ↦ Some now | false ↦ stamp_in ss i ] ≡ stamp_in ss i
stamp_by now ss i true is lt = absurd (apart i (length ss) is lt) where
  apart : (m n : ℕ) → (m == n) ≡ true → m < n → ⊥
  apart m n h lt = grind (arith, tests)
stamp_by now ss i false is lt = refl

-- Since when it acts, by its renewals.
abbrev pub since_in : Setting → List Stamp → Trace → Session → Stamp → ℕ
since_in st ss es s begun =
    option_map_or (λ (x : Stamp). x.moment) (elim (renewal_entry st es s) as (λ z. Option Stamp) [ Some i ↦ stamp_in ss i | None ↦ Some begun ]) 0

since_by : (now : Stamp) (ss : List Stamp) (begun : Stamp) (o : Option ℕ) → ((i : ℕ) → o ≡ Some i → i < length ss)
    → option_map_or (λ (x : Stamp). x.moment) (elim o as (λ z. Option Stamp) [ Some i ↦ stamp_in (now ∷ ss) i | None ↦ Some begun ]) 0
    ≡ option_map_or (λ (x : Stamp). x.moment) (elim o as (λ z. Option Stamp) [ Some i ↦ stamp_in ss i | None ↦ Some begun ]) 0
since_by now ss begun None within = refl
since_by now ss begun (Some i) within =
    ap (λ (q : Option Stamp). option_map_or (λ (x : Stamp). x.moment) q 0) (stamp_by now ss i (i == length ss) refl (within i refl))

since_same : (st : Setting) (now : Stamp) (ss : List Stamp) (e : Entry) (es : Trace) (s : Session) (begun : Stamp) → Orderly st es → length ss ≡ length es
    → renewal_in st es s e ≡ None → since_in st (now ∷ ss) (e ∷ es) s begun ≡ since_in st ss es s begun
since_same st now ss e es s begun h even none =
    ap (λ o. option_map_or (λ (x : Stamp). x.moment)
    (elim (entry_by o (renewal_entry st es s)) as (λ z. Option Stamp) [ Some i ↦ stamp_in (now ∷ ss) i | None ↦ Some begun ]) 0) none
    ∙ since_by now ss begun (renewal_entry st es s) (λ i is. omega (arith, renewal_within st es s i h is, even))

-- Where it is joined it acts by its renewals.
pub since_joined : (w : World) (i : SessionId) (f : Found) (k : ℕ) → joined_after (trace_of f) f.session ≡ Some k
    → renewed_by_now w i f ≡ since_in f.daemon.setting f.daemon.stamps f.daemon.trace f.session f.daemon.begun
since_joined w i f k is =
    ap (λ o. elim o as (λ z. ℕ) [
      | Some n ↦ option_map_or (λ (x : Stamp). x.moment) (elim o as (λ z. Option Stamp) [
        | Some j ↦ elim (renewal_entry f.daemon.setting f.daemon.trace f.session) as (λ z. Option Stamp) [ Some a ↦ stamp_in f.daemon.stamps a | None ↦ Some f.daemon.begun ]
        | None ↦ option_and_then (stamp_in f.daemon.stamps) (registering_entry f.daemon.trace f.session.lockspace)
      ]) 0
      | None ↦ elim (verifying_sample w i f) as (λ z. ℕ) [
        | None ↦ 0
        | Some y ↦ option_map_or (λ (c : Course). c.made.moment) (join_course i VerifyRead f.machine) 0
      ]
    ]) is

joined_on : {p : Program} {h : Header} {xs : List Happening} {w : World} {i : SessionId} {f g : Found} (t : Through p h xs w i f g)
    → joined_after (trace_of g) g.session ≡ joined_after (t.entry ∷ f.daemon.trace) f.session
joined_on {f = f} {g = g} t = ap (λ es. joined_after es g.session) t.trace ∙ ap (λ s. joined_after (t.entry ∷ f.daemon.trace) s) t.session

-- The lawful trace.
pub lawful_on : {p : Program} {h : Header} {xs : List Happening} {w : World} {i : SessionId} {f g : Found} (t : Through p h xs w i f g)
    → Orderly f.daemon.setting (t.entry ∷ f.daemon.trace)
lawful_on {f = f} {g = g} t =
    subst (λ st. Orderly st (t.entry ∷ f.daemon.trace)) t.setting (subst (λ es. Orderly (setting_in g) es) t.trace (knows t).lawful)

still_joined : {p : Program} {h : Header} {xs : List Happening} {w : World} {i : SessionId} {f g : Found} (t : Through p h xs w i f g) (path : List ℕ) (offset : ℕ) (k : ℕ)
    → joined_after (trace_of f) f.session ≡ Some k → renewal_in f.daemon.setting f.daemon.trace f.session t.entry ≡ None
    → RenewalGoes w (world_at p h xs) path offset i f g
still_joined {p = p} {h = h} {xs = xs} {w = w} {i = i} {f = f} {g = g} t path offset k joined none =
    let later : joined_after (trace_of g) g.session ≡ Some k = joined_on t ∙ joined_more t.entry f.daemon.trace f.session k joined in
    let st : Setting = f.daemon.setting in
    let es : Trace = t.entry ∷ f.daemon.trace in
    let ss : List Stamp = t.stamp ∷ f.daemon.stamps in
    None_counts (ap is_some later ∙ sym (ap is_some joined))
    (since_joined (world_at p h xs) i g k later
    ∙ ap (λ x. since_in x g.daemon.stamps g.daemon.trace g.session g.daemon.begun) t.setting
    ∙ ap (λ x. since_in st x g.daemon.trace g.session g.daemon.begun) t.stamps
    ∙ ap (λ x. since_in st ss x g.session g.daemon.begun) t.trace
    ∙ ap (λ x. since_in st ss es x g.daemon.begun) t.session
    ∙ ap (λ x. since_in st ss es f.session x) t.began
    ∙ since_same st t.stamp f.daemon.stamps t.entry f.daemon.trace f.session f.daemon.begun
    (orderly-front st (t.entry ∷ []) f.daemon.trace (lawful_on t)) t.even none
    ∙ sym (since_joined w i f k joined))

-- ---- of a session that isn't

unjoined : (w : World) (i : SessionId) (f : Found) → joined_after (trace_of f) f.session ≡ None
    → renewed_by_now w i f ≡ elim (verifying_sample w i f) as (λ z. ℕ) [
      | None ↦ 0
      | Some y ↦ option_map_or (λ (c : Course). c.made.moment) (join_course i VerifyRead f.machine) 0
    ]
unjoined w i f is =
    ap (λ o. elim o as (λ z. ℕ) [
      | Some n ↦ option_map_or (λ (x : Stamp). x.moment) (acting_stamp f.daemon f.session) 0
      | None ↦ elim (verifying_sample w i f) as (λ z. ℕ) [
        | None ↦ 0
        | Some y ↦ option_map_or (λ (c : Course). c.made.moment) (join_course i VerifyRead f.machine) 0
      ]
    ]) is

verify_by : (a b : ℕ) (o : Option Sampling) → (is_some o ≡ true → a ≡ b)
    → elim o as (λ z. ℕ) [ None ↦ 0 | Some y ↦ a ] ≡ elim o as (λ z. ℕ) [ None ↦ 0 | Some y ↦ b ]
verify_by a b None same = refl
verify_by a b (Some y) same = same refl

still_unjoined : {p : Program} {h : Header} {xs : List Happening} {w : World} {i : SessionId} {f g : Found} (t : Through p h xs w i f g) (path : List ℕ) (offset : ℕ)
    → joined_after (trace_of f) f.session ≡ None → joined_after (trace_of g) g.session ≡ None → RenewalGoes w (world_at p h xs) path offset i f g
still_unjoined {p = p} {h = h} {xs = xs} {w = w} {i = i} {f = f} {g = g} t path offset none later =
    let v : World = world_at p h xs in
    let a : ℕ = option_map_or (λ (c : Course). c.made.moment) (join_course i VerifyRead g.machine) 0 in
    let b : ℕ = option_map_or (λ (c : Course). c.made.moment) (join_course i VerifyRead f.machine) 0 in
    None_counts (ap is_some later ∙ sym (ap is_some none))
    (unjoined v i g later
    ∙ ap (λ o. elim o as (λ z. ℕ) [ None ↦ 0 | Some y ↦ a ]) (verifying_stays t)
    ∙ verify_by a b (verifying_sample w i f) (λ shown.
    registered_by t (join_course i VerifyRead f.machine) (join_course i VerifyRead g.machine) (join_goes t VerifyRead (λ e. absurd (omega (arith, e))))
    (λ c before at. has_read f (claim_bytes w i f) (join_course i VerifyRead f.machine) shown before))
    ∙ sym (unjoined w i f none))

-- ---- so it goes, but for a renewal that counts

-- What is left to say: what a renewal that counts, of a session that is joined then, is to it.
abbrev pub CountedRenew : Type 0
CountedRenew = (p : Program) (h : Header) (now : List Happening) (x : Happening) (path : List ℕ) (offset : ℕ) → LawfulRun p h (now ++ x ∷ [])
    → IsIdPlace p h path offset → Reached (terms_of h.timing) (state_between p h now x.0 path offset) → (e : IsEntry p h now x) → (i : SessionId)
    → IsOfEntry e i → (f g : Found) → session_of_world (between (world_at p h now) x.0) i ≡ Some f
    → (t : Through p h (now ++ x ∷ []) (between (world_at p h now) x.0) i f g)
    → is_sector_of (between (world_at p h now) x.0).layout path offset f.session ≡ true → has_begun i f ≡ true
    → (k : ℕ) → joined_after (trace_of g) g.session ≡ Some k → (m : Submitted) → renewal_in f.daemon.setting f.daemon.trace f.session t.entry ≡ Some m
    → IsOpenRenewal f.daemon.trace f.session m
    → RenewalGoes (between (world_at p h now) x.0) (after_event p h now x) path offset i f g

goes_joined : {p : Program} {h : Header} {xs : List Happening} {w : World} {i : SessionId} {f g : Found} (t : Through p h xs w i f g) (path : List ℕ) (offset : ℕ) (k : ℕ)
    → joined_after (trace_of f) f.session ≡ Some k
    → ((m : Submitted) → renewal_in f.daemon.setting f.daemon.trace f.session t.entry ≡ Some m → IsOpenRenewal f.daemon.trace f.session m
    → RenewalGoes w (world_at p h xs) path offset i f g)
    → NextRenewal f.daemon.setting f.daemon.trace f.session t.entry → RenewalGoes w (world_at p h xs) path offset i f g
goes_joined t path offset k joined counted (Stays none same) = still_joined t path offset k joined none
goes_joined {f = f} t path offset k joined counted (Counts m in_it told_is now) =
    counted m in_it (told_is_open f.daemon.setting t.entry f.daemon.trace f.session m (lawful_on t) told_is)

goes_by : {p : Program} {h : Header} {xs : List Happening} {w : World} {i : SessionId} {f g : Found} (t : Through p h xs w i f g) (path : List ℕ) (offset : ℕ)
    → ((k : ℕ) → joined_after (trace_of g) g.session ≡ Some k → (m : Submitted) → renewal_in f.daemon.setting f.daemon.trace f.session t.entry ≡ Some m
    → IsOpenRenewal f.daemon.trace f.session m → RenewalGoes w (world_at p h xs) path offset i f g)
    → (o q : Option ℕ) → joined_after (trace_of f) f.session ≡ o → joined_after (trace_of g) g.session ≡ q → RenewalGoes w (world_at p h xs) path offset i f g
goes_by {f = f} t path offset counted (Some k) q was is =
    goes_joined t path offset k was (counted k (joined_on t ∙ joined_more t.entry f.daemon.trace f.session k was))
    (next_renewal f.daemon.setting f.daemon.trace f.session t.entry)
goes_by t path offset counted None None was is = still_unjoined t path offset was is
goes_by {f = f} t path offset counted None (Some k) was is =
    let its : IsSession f.daemon.setting (t.entry ∷ f.daemon.trace) f.session = session_more f.daemon.setting t.entry f.daemon.trace f.session.number f.session t.had in
    let j = joins_now f.daemon.setting t.entry f.daemon.trace f.session k (lawful_on t) its was (sym (joined_on t) ∙ is) in
    counted k is j.renewal j.entry j.unmet

pub renewals_go_by : CountedRenew → RenewalsGo
renewals_go_by counted p h now x path offset run place reached e i is f g at t own begun =
    goes_by t path offset (counted p h now x path offset run place reached e i is f g at t own begun) (joined_after (trace_of f) f.session)
    (joined_after (trace_of g) g.session) refl refl
