-- Nothing is due sooner than the reading kept, as a step begins; and below it nobody's recovery begins.
use Rattle.sl_host_law.specs.Calls.Beginnings.{begun_quietly}
use Rattle.sl_host_law.proofs.SharedFacts.PlainLists.{in_back, in_either, in_front}
use Rattle.sl_host_law.proofs.SharedFacts.QuietMoments.{job_quiet, lowered_most, lowered_reaches, member_quiet, quiet_by}
use Rattle.sl_host_state.specs.HeardInputs.{beginning, begun, counted, is_late, member_begun, with_renewing}
use Rattle.sl_host_state.specs.KeptState.{HostState, MemberState}
use Rattle.sl_host_state.specs.MadeEffects.{lowered}
use Rattle.sl_host_state.specs.HostStands.{IsQuiet, kill_moment, member_moments, recovery_moment}
use Rattle.sl_words.proofs.Lists.{any_found, any_of, contains_cases, contains_first, contains_more, contains_none, in_map}
use Rattle.sl_words.proofs.Numbers.{equal_is_most, trans_le}
use Rattle.sl_trace.specs.declared.session.Begun.{Begun}
use Rattle.sl_time.specs.Times.{fail}
use Rattle.sl_words.proofs.CaseLaws.{false_is_true, is_false, true_is_false}
use Rattle.sl_words.proofs.WordLaws.{and_true}
use Rattle.std.proofs.Common.{ap, arith, inl, inr, refl, subst, sym, ◌∙◌}
use Rattle.std.proofs.lemmas.Bool.{leb-true}
use Rattle.std.specs.List.{list_any}
use Rattle.std.specs.Prelude.{Bool, Contains, List, None, Option, Some, cond, false, map, nat_le, nat_lt, true, [], ℕ, ◌&&◌, ◌++◌, ◌+◌, ◌-◌, ◌<◌, ◌∷◌, ◌≡◌, ◌≤◌, ◌⊎◌}

only_one : (a b : ℕ) → Contains (a ∷ []) b → a ≡ b
only_one a b there = elim (contains_cases a [] b there) [ inl is ↦ is | inr none ↦ absurd (contains_none b none) ]

-- ---- kills that have come stay so

past_stays : (from entries t old now : ℕ) → old ≤ now → (nat_lt from entries && nat_le t old) ≡ true → (nat_lt from (entries + 1) && nat_le t now) ≡ true
past_stays from entries t old now later is = grind (arith, later, is)

kept_kill : (h : HostState) (now : ℕ) (o : Option Begun) (t : ℕ) → h.reading ≤ now → Contains (kill_moment (counted now h) o) t → Contains (kill_moment h o) t
kept_kill h now None t later there = there
kept_kill h now (Some b) t later there =
    by (nat_lt b.kills_from h.entries && nat_le (b.reading + h.config.grace) h.reading) refl (nat_lt b.kills_from (h.entries + 1) && nat_le (b.reading + h.config.grace) now) refl there where
      by : (p : Bool) → (nat_lt b.kills_from h.entries && nat_le (b.reading + h.config.grace) h.reading) ≡ p
          → (q : Bool) → (nat_lt b.kills_from (h.entries + 1) && nat_le (b.reading + h.config.grace) now) ≡ q
          → Contains (cond q [] ((b.reading + h.config.grace) ∷ [])) t → Contains (cond p [] ((b.reading + h.config.grace) ∷ [])) t
      by p was true is at = absurd (contains_none t at)
      by false was false is at = at
      by true was false is at = absurd (true_is_false (sym (past_stays b.kills_from h.entries (b.reading + h.config.grace) h.reading now later was) ∙ is))

-- ---- a member's moments, one by one

pub moments_cases : (joined : Bool) (a b c : List ℕ) (t : ℕ) → Contains (cond joined (a ++ b ++ c) []) t → (joined ≡ true) × (Contains a t ⊎ (Contains b t ⊎ Contains c t))
moments_cases false a b c t there = absurd (contains_none t there)
moments_cases true a b c t there = (
  refl,
  elim (in_either (a ++ b) c t there) [
    | inl front ↦ elim (in_either a b t front) [ inl first ↦ inl first | inr second ↦ inr (inl second) ]
    | inr third ↦ inr (inr third)
  ],
)

pub moments_have : (joined : Bool) (a b c : List ℕ) (t : ℕ) → joined ≡ true → Contains a t ⊎ (Contains b t ⊎ Contains c t) → Contains (cond joined (a ++ b ++ c) []) t
moments_have false a b c t is at = absurd (false_is_true is)
moments_have true a b c t is (inl first) = in_front (a ++ b) c t (in_front a b t first)
moments_have true a b c t is (inr (inl second)) = in_front (a ++ b) c t (in_back a b t second)
moments_have true a b c t is (inr (inr third)) = in_back (a ++ b) c t third

-- A member whose recovery doesn't begin.
still : (h : HostState) (now : ℕ) (m : MemberState) (t : ℕ) → h.reading ≤ now → Contains (member_moments (counted now h) m) t → Contains (member_moments h m) t
still h now m t later there =
    let f = moments_cases m.joined (recovery_moment h m) (kill_moment (counted now h) m.renewing.recovery) (kill_moment (counted now h) m.leaving) t there in
    moments_have m.joined (recovery_moment h m) (kill_moment h m.renewing.recovery) (kill_moment h m.leaving) t f.0
    (elim f.1 [
      | inl first ↦ inl first
      | inr rest ↦ elim rest [
        | inl second ↦ inr (inl (kept_kill h now m.renewing.recovery t later second))
        | inr third ↦ inr (inr (kept_kill h now m.leaving t later third))
      ]
    ])

-- One whose recovery begins: its kills come after the grace.
pub newly : (h : HostState) (now from : ℕ) (m : MemberState) (t : ℕ) → h.reading ≤ now
    → Contains (member_moments (counted now h) (with_renewing (beginning (counted now h) from m.renewing) m)) t → Contains (member_moments h m) t ⊎ (t ≡ now + h.config.grace)
newly h now from m t later there =
    let b : Begun = record { at = h.entries + 1 - 1; reading = now; kills_from = from } in
    let f = moments_cases m.joined [] (kill_moment (counted now h) (Some b)) (kill_moment (counted now h) m.leaving) t there in
    by f.0 f.1 where
      kills : (p : Bool) → Contains (cond p [] ((now + h.config.grace) ∷ [])) t → t ≡ now + h.config.grace
      kills true at = absurd (contains_none t at)
      kills false at = sym (only_one (now + h.config.grace) t at)

      by : m.joined ≡ true
          → Contains [] t ⊎ (Contains (kill_moment (counted now h) (Some (record { at = h.entries + 1 - 1; reading = now; kills_from = from }))) t ⊎ Contains (kill_moment (counted now h) m.leaving) t)
          → Contains (member_moments h m) t ⊎ (t ≡ now + h.config.grace)
      by joined (inl none) = absurd (contains_none t none)
      by joined (inr (inl new)) = inr (kills (nat_lt from (h.entries + 1) && nat_le (now + h.config.grace) now) new)
      by joined (inr (inr old)) =
          inl (moments_have m.joined (recovery_moment h m) (kill_moment h m.renewing.recovery) (kill_moment h m.leaving) t joined (inr (inr (kept_kill h now m.leaving t later old))))

-- ---- the host

pub quiet_begun : (h : HostState) (now : ℕ) → h.reading ≤ now → IsQuiet h → IsQuiet (begun now h)
quiet_begun h now later quiet =
    quiet_by (begun now h)
    (λ m t there at. member (in_map (member_begun (counted now h)) h.members m there) t at)
    (λ j t there at. trans_le (begun now h).quiet_until h.quiet_until t least (job_quiet h j t quiet there at)) where
      least : (begun now h).quiet_until ≤ h.quiet_until
      least = lowered_most (list_any (is_late (counted now h)) h.members) (now + h.config.grace) h

      old : (z : MemberState) → Contains h.members z → (t : ℕ) → Contains (member_moments h z) t → (begun now h).quiet_until ≤ t
      old z in_it t at = trans_le (begun now h).quiet_until h.quiet_until t least (member_quiet h z t quiet in_it at)

      new : (z : MemberState) → Contains h.members z → is_late (counted now h) z ≡ true → (t : ℕ) → t ≡ now + h.config.grace → (begun now h).quiet_until ≤ t
      new z in_it late t is =
          trans_le (begun now h).quiet_until (now + h.config.grace) t
          (lowered_reaches (list_any (is_late (counted now h)) h.members) (now + h.config.grace) h (any_of (is_late (counted now h)) h.members z late in_it))
          (equal_is_most (now + h.config.grace) t (sym is))

      within : (z : MemberState) → Contains h.members z → (t : ℕ) → (b : Bool) → is_late (counted now h) z ≡ b
          → Contains (member_moments (counted now h) (cond b (with_renewing (beginning (counted now h) (h.entries + 1 - 1) z.renewing) z) z)) t → (begun now h).quiet_until ≤ t
      within z in_it t true late at =
          elim (newly h now (h.entries + 1 - 1) z t later at) [ inl was ↦ old z in_it t was | inr is ↦ new z in_it late t is ]
      within z in_it t false late at = old z in_it t (still h now z t later at)

      member : {m : MemberState} → (z : MemberState) × Contains h.members z × (member_begun (counted now h) z ≡ m) → (t : ℕ) → Contains (member_moments (begun now h) m) t
          → (begun now h).quiet_until ≤ t
      member z t at = within z.0 z.1 t (is_late (counted now h) z.0) refl (subst (λ y. Contains (member_moments (counted now h) y) t) (sym z.2) at)

-- ---- below the reading kept

pub not_late : (h : HostState) (now : ℕ) (m : MemberState) → now < h.quiet_until → IsQuiet h → Contains h.members m → is_late (counted now h) m ≡ false
not_late h now m below quiet there = by m.renewing.recovery refl where
  due : m.renewing.recovery ≡ None → (m.joined && nat_le (m.renewing.last + fail h.config.timing) now) ≡ true → ⊥
  due none is =
      let both = and_true m.joined (nat_le (m.renewing.last + fail h.config.timing) now) is in
      let reached : m.renewing.last + fail h.config.timing ≤ now = leb-true (m.renewing.last + fail h.config.timing) now both.1 in
      let moment : Contains (recovery_moment h m) (m.renewing.last + fail h.config.timing) =
      subst (λ o. Contains (elim o as (λ z. List ℕ) [ Some b ↦ [] | None ↦ (m.renewing.last + fail h.config.timing) ∷ [] ]) (m.renewing.last + fail h.config.timing)) (sym none)
      (contains_first (m.renewing.last + fail h.config.timing) [])
      in
      let least : h.quiet_until ≤ m.renewing.last + fail h.config.timing =
      member_quiet h m (m.renewing.last + fail h.config.timing) quiet there
      (moments_have m.joined (recovery_moment h m) (kill_moment h m.renewing.recovery) (kill_moment h m.leaving) (m.renewing.last + fail h.config.timing) both.0 (inl moment))
      in
      absurd (omega (arith, below, reached, least))

  by : (o : Option Begun) → m.renewing.recovery ≡ o
      → elim o as (λ z. Bool) [ Some b ↦ false | None ↦ m.joined && nat_le (m.renewing.last + fail h.config.timing) now ] ≡ false
  by (Some b) is = refl
  by None is = is_false (m.joined && nat_le (m.renewing.last + fail h.config.timing) now) (due is)

pub none_late : (h : HostState) (now : ℕ) → now < h.quiet_until → IsQuiet h → list_any (is_late (counted now h)) h.members ≡ false
none_late h now below quiet =
    is_false (list_any (is_late (counted now h)) h.members) (λ some.
    (let f = any_found (is_late (counted now h)) h.members some in true_is_false (sym f.2 ∙ not_late h now f.0 below quiet f.1)))

members_as_they_are : (g : HostState) (ms : List MemberState) → ((m : MemberState) → Contains ms m → is_late g m ≡ false) → map (member_begun g) ms ≡ ms
members_as_they_are g [] none = refl
members_as_they_are g (m ∷ ms) none =
    ap (λ b. cond b (with_renewing (beginning g (g.entries - 1) m.renewing) m) m ∷ map (member_begun g) ms) (none m (contains_first m ms))
    ∙ ap (λ zs. m ∷ zs) (members_as_they_are g ms (λ z there. none z (contains_more m ms z there)))

pub quietly : (h : HostState) (now : ℕ) → now < h.quiet_until → IsQuiet h → begun now h ≡ begun_quietly now h
quietly h now below quiet =
    ap (λ b. (let g : HostState = counted now h in
    record g { members = map (member_begun g) h.members; quiet_until = lowered b (now + h.config.grace) h })) (none_late h now below quiet)
    ∙ ap (λ ms. (let g : HostState = counted now h in record g { members = ms; quiet_until = h.quiet_until }))
    (members_as_they_are (counted now h) h.members (λ m there. not_late h now m below quiet there))
