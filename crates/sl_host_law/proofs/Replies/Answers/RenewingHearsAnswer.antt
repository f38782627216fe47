-- How a session stands with its renewals after an answer: by the call that is answered, and only where it is the session's own.
use Rattle.sl_area.specs.AreaLayout.{delta_of}
use Rattle.sl_host_state.specs.HeardInputs.{renewed_of, renewing_hearing, setting_of, shows_other_by}
use Rattle.sl_host_state.specs.KeptState.{Config, HostState, MemberState}
use Rattle.sl_host_state.specs.HostStands.{config_of, kept_call}
use Rattle.sl_host_law.proofs.Replies.Answers.AnswerIsHeeded.{waking}
use Rattle.sl_host_law.proofs.Replies.Answers.AnswerMarksOneCall.{told}
use Rattle.sl_trace.specs.Sessions.{generation_of, has_open_write, is_call_of, is_join_done, is_joined, is_present, is_renewal, is_survey_purpose, joined_after, refused_after, removed_after, removed_in, renewed_by, renewing, shows_other, shows_other_in}
use Rattle.sl_trace.specs.declared.session.Begun.{Begun}
use Rattle.sl_trace.specs.declared.session.Renewing.{Renewing}
use Rattle.sl_trace.specs.declared.session.Session.{Session}
use Rattle.sl_sector.specs.declared.sector.DeltaRec.{DeltaRec}
use Rattle.sl_time.specs.Times.{fail}
use Rattle.sl_trace.specs.Traces.{Replied, Setting, Submitted, Trace, call_numbered, is_before_input, reply_in, reply_to}
use Rattle.sl_trace.specs.declared.effects.Effects.{Effects}
use Rattle.sl_trace.specs.declared.effects.JobReply.{JobReply}
use Rattle.sl_trace.specs.declared.input.Answer.TheVariants.{Failed, Read, Written}
use Rattle.sl_trace.specs.declared.input.Answer.{Answer}
use Rattle.sl_trace.specs.declared.input.Input.TheVariants.{Answer as Told}
use Rattle.sl_trace.specs.declared.reply.Reply.TheVariants.{Generation}
use Rattle.sl_trace.specs.declared.reply.Reply.{Reply}
use Rattle.sl_words.proofs.CaseLaws.{false_is_true}
use Rattle.sl_words.specs.Words.{choose, some_is}
use Rattle.std.proofs.Common.{ap, arith, refl, suc, sym, ◌∙◌}
use Rattle.std.specs.List.{AllByRecursion}
use Rattle.std.specs.Prelude.{Bool, IsTrue, List, None, Option, Some, bytes_eq, cond, false, find, is_none, is_some, length, nat_le, not, option_and_then, option_map, true, unwrap_or, [], ℕ, ◌&&◌, ◌+◌, ◌-◌, ◌==◌, ◌∷◌, ◌≡◌, ◌||◌}

-- ---- before its input a step joins no session

not_done : (r : Reply) → is_before_input r ≡ true → is_join_done r ≡ false
not_done (Generation g) is = absurd (false_is_true is)
not_done r is = refl

none_done : (rs : List JobReply) (n at : ℕ) → AllByRecursion (λ r. IsTrue (is_before_input r.reply)) rs
    → option_and_then (λ (r : Replied). choose (is_join_done r.reply) (r.at + 1)) (option_map (λ a. record { at = at; reply = a.reply }) (find (λ a. a.job == n) rs)) ≡ None
none_done [] n at all = refl
none_done (r ∷ rs) n at all = by (r.job == n) (none_done rs n at all.1) where
  by : (b : Bool) → option_and_then (λ (r : Replied). choose (is_join_done r.reply) (r.at + 1)) (option_map (λ a. record { at = at; reply = a.reply }) (find (λ a. a.job == n) rs)) ≡ None
      → option_and_then (λ (r : Replied). choose (is_join_done r.reply) (r.at + 1)) (option_map (λ a. record { at = at; reply = a.reply }) (cond b (Some r) (find (λ a. a.job == n) rs))) ≡ None
  by true rest = ap (λ b. choose b (at + 1)) (not_done r.reply all.0)
  by false rest = rest

module _ (past : Trace) (now : ℕ) (fx : Effects) where
  pub joined_same : (s : Session) → AllByRecursion (λ r. IsTrue (is_before_input r.reply)) fx.replies → joined_after (waking now fx ∷ past) s ≡ joined_after past s
  joined_same s all = by s.job where
    by_reply : (j : ℕ) (o : Option Replied) → option_and_then (λ r. choose (is_join_done r.reply) (r.at + 1)) (elim o as (λ z. Option Replied) [ Some r ↦ Some r | None ↦ reply_in j past (waking now fx) ])
        ≡ option_and_then (λ r. choose (is_join_done r.reply) (r.at + 1)) o
    by_reply j (Some r) = refl
    by_reply j None = none_done fx.replies j (length past) all

    by : (o : Option ℕ) → elim o as (λ z. Option ℕ) [ None ↦ Some 0 | Some j ↦ option_and_then (λ r. choose (is_join_done r.reply) (r.at + 1)) (reply_to (waking now fx ∷ past) j) ]
        ≡ elim o as (λ z. Option ℕ) [ None ↦ Some 0 | Some j ↦ option_and_then (λ r. choose (is_join_done r.reply) (r.at + 1)) (reply_to past j) ]
    by None = refl
    by (Some j) = by_reply j (reply_to past j)

  -- A session that is present is joined now if it was before this step.
  pub joined_before : (s : Session) → AllByRecursion (λ r. IsTrue (is_before_input r.reply)) fx.replies → is_present (waking now fx ∷ past) s ≡ true → is_joined past s ≡ is_joined (waking now fx ∷ past) s
  joined_before s all there = by (joined_after (waking now fx ∷ past) s) (joined_same s all) there (removed_after past s) refl where
    by : (o : Option ℕ) → o ≡ joined_after past s
        → (is_none (elim o as (λ z. Option ℕ) [ Some k ↦ removed_after (waking now fx ∷ past) s | None ↦ refused_after (waking now fx ∷ past) s ]) || is_none o && has_open_write (waking now fx ∷ past) s) ≡ true
        → (p : Option ℕ) → removed_after past s ≡ p → (is_some (joined_after past s) && is_none (removed_after past s)) ≡ (is_some o && is_none (removed_after (waking now fx ∷ past) s))
    by None same is p removed = ap (λ o. is_some o && is_none (removed_after past s)) (sym same)
    by (Some k) same is None removed =
        ap (λ o. is_some o && is_none (removed_after past s)) (sym same) ∙ ap (λ o. true && is_none o) removed ∙ sym (or_none (is_none (removed_after (waking now fx ∷ past) s)) is) where
          or_none : (b : Bool) → (b || false) ≡ true → b ≡ true
          or_none true h = refl
          or_none false h = absurd (false_is_true h)
    by (Some k) same is (Some i) removed =
        absurd (false_is_true (sym (ap (λ o. is_none (elim o as (λ z. Option ℕ) [ Some k ↦ Some k | None ↦ removed_in past s (waking now fx) ]) || false) removed) ∙ is))

  -- ---- with the answer

  module _ (st : Setting) (s : Session) (a : Answer) (m : Submitted) (n : ℕ) where
    -- After this step, by whether it is joined and late, whether the answer shows another, and what renewal it answers.
    abbrev after_by : Bool → Bool → Bool → Option ℕ → ℕ → Option Begun → Renewing
    after_by joined late shows renewed last begun =
        elim begun as (λ z. Renewing) [
          | Some b ↦ record { last = last; recovery = begun }
          | None ↦ elim (joined && late) as (λ z. Renewing) [
            | true ↦ record { last = last; recovery = Some (record { at = length past; reading = now; kills_from = length past }) }
            | false ↦ elim (joined && shows) as (λ z. Renewing) [
              | true ↦ record { last = last; recovery = Some (record { at = length past; reading = now; kills_from = length past + 1 }) }
              | false ↦ record { last = unwrap_or renewed last; recovery = begun }
            ]
          ]
        ]

    -- The same from how it stood before the input.
    abbrev hearing_by : Bool → Option ℕ → Renewing → Renewing
    hearing_by shows renewed r =
        elim r.recovery as (λ z. Renewing) [
          | Some b ↦ r
          | None ↦ cond shows (record r { recovery = Some (record { at = length past; reading = now; kills_from = length past + 1 }) }) (record r { last = unwrap_or renewed r.last })
        ]

    then_hears : (joined late shows : Bool) (renewed : Option ℕ) (last : ℕ) (begun : Option Begun)
        → after_by joined late shows renewed last begun ≡ hearing_by (joined && shows) renewed (after_by joined late false None last begun)
    then_hears joined late shows renewed last (Some b) = refl
    then_hears true true shows renewed last None = refl
    then_hears true false true renewed last None = refl
    then_hears true false false renewed last None = refl
    then_hears false late shows renewed last None = refl

    told_as : renewing st (told now fx n a ∷ past) s
        ≡ after_by (is_joined past s) (nat_le ((renewing st past s).last + fail st.timing) now) (shows_other st past s (Told n a)) (renewed_by past s (Told n a)) (renewing st past s).last (renewing st past s).recovery
    told_as = refl

    waking_as : renewing st (waking now fx ∷ past) s
        ≡ after_by (is_joined past s) (nat_le ((renewing st past s).last + fail st.timing) now) false None (renewing st past s).last (renewing st past s).recovery
    waking_as = refl

    -- ---- the session's own call

    -- Whether the bytes show another in its place, by what a host keeps of the setting.
    abbrev shows_by : Config → ℕ → ℕ → List ℕ → Bool
    shows_by k id generation bytes = some_is (λ (d : DeltaRec). d.id == id && not (d.generation == generation && some_is (λ n. bytes_eq n k.name) d.host)) (delta_of k.layout bytes id)

    chosen_shows : (survey : Bool) (f : List ℕ → Bool) (bytes : List ℕ)
        → elim (choose (true && survey) bytes) as (λ z. Bool) [ None ↦ false | Some bytes ↦ f bytes ] ≡ (survey && some_is f (Some bytes))
    chosen_shows true f bytes = refl
    chosen_shows false f bytes = refl

    none_shows : (survey : Bool) (f : List ℕ → Bool) → false ≡ (survey && some_is f None)
    none_shows true f = refl
    none_shows false f = refl

    shows_is : (h : HostState) (member : MemberState) → call_numbered past n ≡ Some m → is_call_of member.who m ≡ true → config_of st ≡ h.config → generation_of past member.who ≡ member.known.generation
        → shows_other st past member.who (Told n a) ≡ shows_other_by h (kept_call m) a member
    shows_is h member found own config generation = by a where
      by : (x : Answer) → shows_other st past member.who (Told n x) ≡ shows_other_by h (kept_call m) x member
      by (Read bytes) =
          ap (λ o. elim (choose (some_is (λ (d : Submitted). is_call_of member.who d && is_survey_purpose d.call.purpose) o) bytes) as (λ z. Bool) [ None ↦ false | Some bytes ↦ shows_other_in st member.who.id (generation_of past member.who) bytes ]) found
          ∙ ap (λ b. elim (choose (b && is_survey_purpose m.call.purpose) bytes) as (λ z. Bool) [ None ↦ false | Some bytes ↦ shows_other_in st member.who.id (generation_of past member.who) bytes ]) own
          ∙ ap (λ g. elim (choose (true && is_survey_purpose m.call.purpose) bytes) as (λ z. Bool) [ None ↦ false | Some bytes ↦ shows_other_in st member.who.id g bytes ]) generation
          ∙ ap (λ k. elim (choose (true && is_survey_purpose m.call.purpose) bytes) as (λ z. Bool) [ None ↦ false | Some bytes ↦ shows_by k member.who.id member.known.generation bytes ]) config
          ∙ chosen_shows (is_survey_purpose m.call.purpose) (shows_other_in (setting_of h) member.who.id member.known.generation) bytes
      by Written = none_shows (is_survey_purpose m.call.purpose) (shows_other_in (setting_of h) member.who.id member.known.generation)
      by Failed = none_shows (is_survey_purpose m.call.purpose) (shows_other_in (setting_of h) member.who.id member.known.generation)

    renewed_is : (t : Session) → call_numbered past n ≡ Some m → is_call_of t m ≡ true → renewed_by past t (Told n a) ≡ renewed_of (kept_call m) a
    renewed_is t found own = by a where
      by : (x : Answer) → renewed_by past t (Told n x) ≡ renewed_of (kept_call m) x
      by (Read bytes) = refl
      by Failed = refl
      by Written =
          ap (λ o. option_and_then (λ (d : Submitted). choose (is_call_of t d && is_renewal d.call.purpose) d.reading) o) found
          ∙ ap (λ b. choose (b && is_renewal m.call.purpose) m.reading) own

    -- By the numbers that a host keeps.
    abbrev kept_by_numbers : Bool → Option ℕ → ℕ → ℕ → ℕ → Renewing → Renewing
    kept_by_numbers shows renewed place reading from r =
        elim r.recovery as (λ z. Renewing) [
          | Some b ↦ r
          | None ↦ cond shows (record r { recovery = Some (record { at = place; reading = reading; kills_from = from }) }) (record r { last = unwrap_or renewed r.last })
        ]

    place_is : (k entries : ℕ) → suc k ≡ entries → k ≡ entries - 1
    place_is k entries is = omega (arith, is)

    next_is : (k entries : ℕ) → suc k ≡ entries → k + 1 ≡ entries
    next_is k entries is = omega (arith, is)

  pub renewing_own : (st : Setting) (h : HostState) (member : MemberState) (a : Answer) (m : Submitted) (n : ℕ) → AllByRecursion (λ r. IsTrue (is_before_input r.reply)) fx.replies
      → is_present (waking now fx ∷ past) member.who ≡ true → call_numbered past n ≡ Some m → is_call_of member.who m ≡ true → config_of st ≡ h.config → length (waking now fx ∷ past) ≡ h.entries
      → h.reading ≡ now → is_joined (waking now fx ∷ past) member.who ≡ member.joined → generation_of past member.who ≡ member.known.generation → renewing st (waking now fx ∷ past) member.who ≡ member.renewing
      → renewing st (told now fx n a ∷ past) member.who ≡ renewing_hearing h (kept_call m) a member
  renewing_own st h member a m n all there found own config entries reading joined generation was =
      let s : Session = member.who in
      let w : Option ℕ = renewed_by past s (Told n a) in
      let shows : Bool = member.joined && shows_other_by h (kept_call m) a member in
      then_hears st s a m n (is_joined past s) (nat_le ((renewing st past s).last + fail st.timing) now) (shows_other st past s (Told n a)) w (renewing st past s).last (renewing st past s).recovery
      ∙ ap (hearing_by st s a m n (is_joined past s && shows_other st past s (Told n a)) w) was
      ∙ ap (λ b. hearing_by st s a m n (b && shows_other st past s (Told n a)) w member.renewing) (joined_before s all there ∙ joined)
      ∙ ap (λ b. hearing_by st s a m n (member.joined && b) w member.renewing) (shows_is st s a m n h member found own config generation)
      ∙ ap (λ o. hearing_by st s a m n shows o member.renewing) (renewed_is st s a m n s found own)
      ∙ ap (λ k. kept_by_numbers st s a m n shows (renewed_of (kept_call m) a) k now (length past + 1) member.renewing) (place_is st s a m n (length past) h.entries entries)
      ∙ ap (λ r. kept_by_numbers st s a m n shows (renewed_of (kept_call m) a) (h.entries - 1) r (length past + 1) member.renewing) (sym reading)
      ∙ ap (λ k. kept_by_numbers st s a m n shows (renewed_of (kept_call m) a) (h.entries - 1) h.reading k member.renewing) (next_is st s a m n (length past) h.entries entries)

  -- ---- another's call

  pub renewing_other : (st : Setting) (s : Session) (a : Answer) (m : Submitted) (n : ℕ) → call_numbered past n ≡ Some m → is_call_of s m ≡ false
      → renewing st (told now fx n a ∷ past) s ≡ renewing st (waking now fx ∷ past) s
  renewing_other st s a m n found other =
      ap (λ b. after_by st s a m n (is_joined past s) (nat_le ((renewing st past s).last + fail st.timing) now) b (renewed_by past s (Told n a)) (renewing st past s).last (renewing st past s).recovery) (no_show a)
      ∙ ap (λ o. after_by st s a m n (is_joined past s) (nat_le ((renewing st past s).last + fail st.timing) now) false o (renewing st past s).last (renewing st past s).recovery) (no_renewal a) where
        no_show : (x : Answer) → shows_other st past s (Told n x) ≡ false
        no_show (Read bytes) =
            ap (λ o. elim (choose (some_is (λ (d : Submitted). is_call_of s d && is_survey_purpose d.call.purpose) o) bytes) as (λ z. Bool) [ None ↦ false | Some bytes ↦ shows_other_in st s.id (generation_of past s) bytes ]) found
            ∙ ap (λ b. elim (choose (b && is_survey_purpose m.call.purpose) bytes) as (λ z. Bool) [ None ↦ false | Some bytes ↦ shows_other_in st s.id (generation_of past s) bytes ]) other
        no_show Written = refl
        no_show Failed = refl

        no_renewal : (x : Answer) → renewed_by past s (Told n x) ≡ None
        no_renewal (Read bytes) = refl
        no_renewal Failed = refl
        no_renewal Written =
            ap (λ o. option_and_then (λ (d : Submitted). choose (is_call_of s d && is_renewal d.call.purpose) d.reading) o) found
            ∙ ap (λ b. choose (b && is_renewal m.call.purpose) m.reading) other
