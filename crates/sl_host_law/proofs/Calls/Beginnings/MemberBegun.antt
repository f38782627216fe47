-- A member as a step begins: its recovery may begin, by time.
use Rattle.sl_host_law.proofs.Calls.Beginnings.IdleEntry.{idle, same_joined, same_leaving, same_refused_after}
use Rattle.sl_host_law.proofs.Calls.MemberCalls.KnownMore.{known_by}
use Rattle.sl_host_state.specs.HeardInputs.{beginning, counted, is_late, member_begun, with_renewing}
use Rattle.sl_host_state.specs.KeptState.{Config, HostState, MemberState}
use Rattle.sl_host_state.specs.HostStands.{Keeps, MemberStands}
use Rattle.sl_trace.specs.DeltaDecisions.{delta_known}
use Rattle.sl_trace.specs.Sessions.{calls_of, leaving_job, recovers, renewing, renewing_after}
use Rattle.sl_trace.specs.declared.delta.DeltaKnown.{DeltaKnown}
use Rattle.sl_trace.specs.declared.session.Begun.{Begun}
use Rattle.sl_trace.specs.declared.session.Renewing.{Renewing}
use Rattle.sl_time.specs.Times.{TimingNumbers, fail}
use Rattle.sl_trace.specs.Traces.{Job, Setting, Trace}
use Rattle.std.proofs.Common.{ap, arith, refl, sym, ◌∙◌}
use Rattle.std.specs.Prelude.{Bool, None, Option, Some, cond, false, is_some, length, nat_le, option_map, true, ℕ, ◌&&◌, ◌+◌, ◌-◌, ◌∷◌, ◌≡◌}

-- How a member stands with its renewals then.
abbrev pub renewing_begun : HostState → MemberState → Renewing
renewing_begun g m = cond (is_late g m) (beginning g (g.entries - 1) m.renewing) m.renewing

-- By the test.
abbrev late_by : HostState → MemberState → Option Begun → Bool
late_by g m o = elim o as (λ z. Bool) [ Some b ↦ false | None ↦ m.joined && nat_le (m.renewing.last + fail g.config.timing) g.reading ]

timing_is : (h : HostState) (st : Setting) (es : Trace) → Keeps h st es → st.timing ≡ h.config.timing
timing_is h st es k = ap (λ (c : Config). c.timing) k.config

entries_are : (h : HostState) (st : Setting) (es : Trace) → Keeps h st es → length es ≡ h.entries + 1 - 1
entries_are h st es k = let e : length es ≡ h.entries = k.entries in omega (arith, e)

-- What the definition makes of it.
by_time : (h : HostState) (st : Setting) (es : Trace) (now : ℕ) (m : MemberState) → Keeps h st es → MemberStands st es m
    → renewing st (idle now ∷ es) m.who ≡ renewing_begun (counted now h) m
by_time h st es now m k s =
    ap (λ r. renewing_after st es m.who r (idle now)) s.renewing
    ∙ ap (λ b. elim m.renewing.recovery as (λ z. Renewing) [
      | Some z ↦ m.renewing
      | None ↦ elim (b && nat_le (m.renewing.last + fail st.timing) now) as (λ z. Renewing) [
        | true ↦ recovers es (idle now) (length es) m.renewing
        | false ↦ elim (b && false) as (λ z. Renewing) [ true ↦ recovers es (idle now) (length es + 1) m.renewing | false ↦ m.renewing ]
      ]
    ]) s.joined
    ∙ ap (λ (tm : TimingNumbers). elim m.renewing.recovery as (λ z. Renewing) [
      | Some z ↦ m.renewing
      | None ↦ elim (m.joined && nat_le (m.renewing.last + fail tm) now) as (λ z. Renewing) [
        | true ↦ recovers es (idle now) (length es) m.renewing
        | false ↦ elim (m.joined && false) as (λ z. Renewing) [ true ↦ recovers es (idle now) (length es + 1) m.renewing | false ↦ m.renewing ]
      ]
    ]) (timing_is h st es k)
    ∙ by m.renewing.recovery where
      begins : (b c : Bool) → elim b as (λ z. Renewing) [
        | true ↦ recovers es (idle now) (length es) m.renewing
        | false ↦ elim (c && false) as (λ z. Renewing) [ true ↦ recovers es (idle now) (length es + 1) m.renewing | false ↦ m.renewing ]
      ] ≡ cond b (beginning (counted now h) (h.entries + 1 - 1) m.renewing) m.renewing
      begins true c =
          ap (λ (n : ℕ). record { last = m.renewing.last; recovery = Some (record { at = n; reading = now; kills_from = n }) }) (entries_are h st es k)
      begins false true = refl
      begins false false = refl

      by : (o : Option Begun) → elim o as (λ z. Renewing) [
        | Some z ↦ m.renewing
        | None ↦ elim (m.joined && nat_le (m.renewing.last + fail h.config.timing) now) as (λ z. Renewing) [
          | true ↦ recovers es (idle now) (length es) m.renewing
          | false ↦ elim (m.joined && false) as (λ z. Renewing) [ true ↦ recovers es (idle now) (length es + 1) m.renewing | false ↦ m.renewing ]
        ]
      ] ≡ cond (late_by (counted now h) m o) (beginning (counted now h) (h.entries + 1 - 1) m.renewing) m.renewing
      by (Some b) = refl
      by None = begins (m.joined && nat_le (m.renewing.last + fail h.config.timing) now) m.joined

known_begun : (h : HostState) (st : Setting) (es : Trace) (now : ℕ) (m : MemberState) → Keeps h st es → MemberStands st es m
    → delta_known st (idle now ∷ es) m.who ≡ (member_begun (counted now h) m).known
known_begun h st es now m k s =
    ap (λ (r : Renewing). known_by m.who (is_some r.recovery) (option_map (λ j. j.number) (leaving_job st (idle now ∷ es) m.who)) (calls_of es m.who)) (by_time h st es now m k s)
    ∙ ap (λ o. known_by m.who (is_some (renewing_begun (counted now h) m).recovery) (option_map (λ (j : Job). j.number) o) (calls_of es m.who)) (same_leaving st es now m.who)
    ∙ by (is_late (counted now h) m) where
      by : (b : Bool)
          → known_by m.who (is_some (cond b (beginning (counted now h) (h.entries + 1 - 1) m.renewing) m.renewing).recovery) (option_map (λ j. j.number) (leaving_job st es m.who)) (calls_of es m.who)
          ≡ (cond b (with_renewing (beginning (counted now h) (h.entries + 1 - 1) m.renewing) m) m).known
      by true = ap (λ (n : DeltaKnown). record n { recovering = true }) s.known
      by false = ap (λ (r : Renewing). known_by m.who (is_some r.recovery) (option_map (λ (j : Job). j.number) (leaving_job st es m.who)) (calls_of es m.who)) (sym s.renewing) ∙ s.known

-- Of the rest nothing changes.
pub member_stands : (h : HostState) (st : Setting) (es : Trace) (now : ℕ) (m : MemberState) → Keeps h st es → MemberStands st es m → MemberStands st (idle now ∷ es) (member_begun (counted now h) m)
member_stands h st es now m k s =
    by (is_late (counted now h) m) (by_time h st es now m k s) (known_begun h st es now m k s) where
      by : (b : Bool) → renewing st (idle now ∷ es) m.who ≡ cond b (beginning (counted now h) (h.entries + 1 - 1) m.renewing) m.renewing
          → delta_known st (idle now ∷ es) m.who ≡ (cond b (with_renewing (beginning (counted now h) (h.entries + 1 - 1) m.renewing) m) m).known
          → MemberStands st (idle now ∷ es) (cond b (with_renewing (beginning (counted now h) (h.entries + 1 - 1) m.renewing) m) m)
      by true time known =
          record {
            joined = same_joined st es now m.who ∙ s.joined;
            refused = ap (λ o. is_some o) (same_refused_after st es now m.who) ∙ s.refused;
            known = known;
            joining = s.joining;
            renewing = time;
            leaving = ap (λ o. option_map (λ (j : Job). record { at = j.at; reading = j.reading; kills_from = j.at + 1 }) o) (same_leaving st es now m.who) ∙ s.leaving;
            asked = s.asked;
            turn = s.turn;
            seen = s.seen;
            spots = s.spots;
            leases = s.leases;
            valued = s.valued;
            values = s.values;
          }
      by false time known =
          record {
            joined = same_joined st es now m.who ∙ s.joined;
            refused = ap (λ o. is_some o) (same_refused_after st es now m.who) ∙ s.refused;
            known = known;
            joining = s.joining;
            renewing = time;
            leaving = ap (λ o. option_map (λ (j : Job). record { at = j.at; reading = j.reading; kills_from = j.at + 1 }) o) (same_leaving st es now m.who) ∙ s.leaving;
            asked = s.asked;
            turn = s.turn;
            seen = s.seen;
            spots = s.spots;
            leases = s.leases;
            valued = s.valued;
            values = s.values;
          }
