-- What a call leaves of the facts of holdings: all, where it keeps the generation of a holder, and does nothing beside an exclusive
-- holding that could take away what stands behind it.
use Rattle.sl_area.specs.AreaSizes.{Layout}
use Rattle.sl_area.specs.AreaLayout.{sector_of}
use Rattle.sl_due_facts.proofs.Acts.SessionsStay.{numbered_more}
use Rattle.sl_due_facts.specs.Acts.TraceSoFar.{entry_of}
use Rattle.sl_due.specs.Steps.{Step, add_call_of, seen}
use Rattle.sl_due_leases.proofs.Holdings.HoldingsByEffects.{HoldsAt, counted_now, counted_on, upheld}
use Rattle.sl_due_leases.proofs.Holdings.StandsGrow.{IsBeside, stands_more, stands_same}
use Rattle.sl_trace.specs.Leases.{is_lease_call, is_on, lease_calls}
use Rattle.sl_due_facts.proofs.AddedEffects.CallsGrow.{mine_more, others_stay}
use Rattle.sl_words.proofs.Numbers.{refl_le}
use Rattle.sl_trace.specs.Sessions.{calls_of, generation_in, generation_of, is_survey_purpose, joined_after, session_numbered}
use Rattle.sl_trace.specs.Sightings.{counted_over, counts_over, evidence, evidence_in, look_of, sightings}
use Rattle.sl_trace.specs.declared.session.Session.{Session}
use Rattle.sl_trace.specs.declared.sighting.Sighting.{Sighting}
use Rattle.sl_due_facts.specs.Facts.HeardCall.{IsOpen, heard_by}
use Rattle.sl_due_facts.specs.Facts.HoldingFacts.{StandsExclusive}
use Rattle.sl_trace.specs.TraceLaws.{with_call}
use Rattle.sl_trace.specs.declared.reply.Evidence.{Evidence}
use Rattle.sl_trace.specs.Traces.{Answered, Setting, Submitted, Trace, bytes_given, held_by, holdings, is_shared, new_call, next_call, next_child, spot_of_grant}
use Rattle.sl_trace.specs.declared.effects.Call.{Call}
use Rattle.sl_trace.specs.declared.effects.Entry.{Entry}
use Rattle.sl_trace.specs.declared.effects.Grant.{Grant}
use Rattle.sl_trace.specs.declared.effects.Op.{Op}
use Rattle.sl_trace.specs.declared.effects.Purpose.{Purpose}
use Rattle.sl_words.proofs.CaseLaws.{true_is_false, true_or_false}
use Rattle.std.proofs.Common.{ap, inl, inr, refl, sym, ◌∙◌}
use Rattle.std.specs.List.{cons_option}
use Rattle.std.specs.Prelude.{Bool, Contains, List, None, Option, Some, cond, false, filter, is_some, length, nat_lt, option_and_then, option_map, true, [], ℕ, ◌&&◌, ◌++◌, ◌-◌, ◌==◌, ◌∷◌, ◌≡◌, ◌⊎◌}

-- ---- the call, and what it leaves

-- The call that a step adds.
abbrev pub call_added : ℕ → List ℕ → Purpose → ℕ → Op → Step → Call
call_added n path p o op x = record { number = next_call x.setting (seen x); session = n; purpose = p; path = path; offset = o; op = op }

-- It spares the holdings of its session.
pub record CallSpares (x : Step) (c : Call) : Type 0 where
  pub generation : (g : Grant) (s : Session) → Contains (holdings (seen x)) g → session_numbered x.setting (seen x) g.session ≡ Some s → (c.session == s.number) ≡ true
      → generation_in s (new_call (length x.past) x.reading c ∷ calls_of (seen x) s) ≡ generation_of (seen x) s
  pub beside : (g : Grant) (s : Session) → Contains (holdings (seen x)) g → session_numbered x.setting (seen x) g.session ≡ Some s → (c.session == s.number) ≡ true → is_shared g.mode ≡ false
      → (is_lease_call (new_call (length x.past) x.reading c) && is_on x.setting.layout (spot_of_grant g) c) ≡ true
      → (h : StandsExclusive x.setting (seen x) (heard_by x.input) s (spot_of_grant g) g.lver) → IsBeside h.own g.lver (new_call (length x.past) x.reading c)

pub not_last : {A : Type 0} (xs : List A) (y : A) → xs ++ y ∷ [] ≡ [] → ⊥
not_last {A} xs y is = true_is_false (sym (nonempty xs y) ∙ ap (λ zs. has_some zs) is) where
  has_some : {A : Type 0} → List A → Bool
  has_some [] = false
  has_some (z ∷ zs) = true

  nonempty : {A : Type 0} (xs : List A) (y : A) → has_some (xs ++ y ∷ []) ≡ true
  nonempty [] y = refl
  nonempty (x ∷ xs) y = refl

-- What is open beside the new call was open before.
pub opens_before : (past : Trace) (e : Entry) (c : Call) (heard : Option ℕ) (m : Submitted) → IsOpen (with_call c e ∷ past) heard m → IsOpen (e ∷ past) heard m
opens_before past e c heard m (inl none) = inl none
opens_before past e c heard m (inr h) = absurd (not_last e.effects.calls c h.1)

look_none : (g : Layout) (id : ℕ) (m : Submitted) → m.answer ≡ None → look_of g id m ≡ None
look_none g id m none = by (is_survey_purpose m.call.purpose) where
  by : (b : Bool) → (elim b as (λ z. Option Sighting) [
    | false ↦ None
    | true ↦ option_and_then (λ (a : Answered).
        option_map (λ bytes. record { before = m.reading; after = a.reading; bytes = sector_of g bytes (id - 1) }) (bytes_given a.answer)) m.answer
  ]) ≡ None
  by false = refl
  by true =
      ap (λ o. option_and_then (λ (a : Answered). option_map (λ bytes. record { before = m.reading; after = a.reading; bytes = sector_of g bytes (id - 1) }) (bytes_given a.answer)) o) none

same_evidence : (st : Setting) (m : Submitted) (ms : List Submitted) (j n : ℕ) → m.answer ≡ None → evidence_in st (m ∷ ms) j n ≡ evidence_in st ms j n
same_evidence st m ms j n none =
    ap (λ (o : Option Sighting). evidence st.timing st.layout j n (cons_option o (sightings st.layout j ms))) (look_none st.layout j m none)

-- What counts as over still does.
counted_called : (st : Setting) (past : Trace) (e : Entry) (c : Call) (s : Session) (j n : ℕ) → ((c.session == s.number) ≡ true → generation_in s (new_call (length past) e.reading c ∷ calls_of (e ∷ past) s) ≡ generation_of (e ∷ past) s)
    → counted_over st (e ∷ past) s j n ≡ true → counted_over st (with_call c e ∷ past) s j n ≡ true
counted_called st past e c s j n same is =
    counted_on st past e (with_call c e) s j n (λ now. counted_now st (with_call c e ∷ past) s j n (by (true_or_false (c.session == s.number)) now)) is where
      ms : List Submitted
      ms = calls_of (e ∷ past) s

      m : Submitted
      m = new_call (length past) e.reading c

      over_with : Option Evidence → ℕ → Bool
      over_with shown generation = elim (is_some shown) as (λ z. Bool) [ true ↦ true | false ↦ (j == s.id && nat_lt n generation) && is_some (joined_after (e ∷ past) s) ]

      over_in : List Submitted → Bool
      over_in ds = over_with (evidence_in st ds j n) (generation_in s ds)

      by : ((c.session == s.number) ≡ true) ⊎ ((c.session == s.number) ≡ false) → counts_over st (e ∷ past) s j n ≡ true → counts_over st (with_call c e ∷ past) s j n ≡ true
      by (inl mine) now =
          ap (λ ds. over_in ds) (mine_more e past c s mine)
          ∙ (ap (λ o. over_with o (generation_in s (m ∷ ms))) (same_evidence st m ms j n refl) ∙ (ap (λ k. over_with (evidence_in st ms j n) k) (same mine) ∙ now))
      by (inr other) now = ap (λ ds. over_in ds) (others_stay e past c s other) ∙ now

pub call_held : (x : Step) (n : ℕ) (path : List ℕ) (p : Purpose) (o : ℕ) (op : Op) → CallSpares x (call_added n path p o op x) → HoldsAt x → HoldsAt (add_call_of n path p o op x)
call_held x n path p o op spares h =
    let c : Call = call_added n path p o op x in
    upheld x.setting (seen x) (seen (add_call_of n path p o op x)) (heard_by x.input) (heard_by x.input) (record {
      inside = λ g there. there;
      fewer = λ q path offset. refl_le (length (held_by (holdings (seen x)) q path offset));
      sessions = λ k s its. numbered_more x.setting x.past (entry_of x) c k s its;
      joined = λ g s there its name joined. joined;
      further = refl_le (next_child (seen x));
      given = λ kept. kept;
      stands = λ g s there its exclusive stands. by g s there its exclusive stands (true_or_false (c.session == s.number));
    }) h where
      c : Call
      c = call_added n path p o op x

      e : Entry
      e = entry_of x

      m : Submitted
      m = new_call (length x.past) x.reading c

      y : Trace
      y = with_call c e ∷ x.past

      over : (g : Grant) (s : Session) → Contains (holdings (seen x)) g → session_numbered x.setting (seen x) g.session ≡ Some s → (j k : ℕ) → counted_over x.setting (seen x) s j k ≡ true
          → counted_over x.setting y s j k ≡ true
      over g s there its j k is = counted_called x.setting x.past e c s j k (λ mine. spares.generation g s there its mine) is

      own : (g : Grant) (s : Session) → Contains (holdings (seen x)) g → session_numbered x.setting (seen x) g.session ≡ Some s → is_shared g.mode ≡ false
          → StandsExclusive x.setting (seen x) (heard_by x.input) s (spot_of_grant g) g.lver → (c.session == s.number) ≡ true
          → ((is_lease_call m && is_on x.setting.layout (spot_of_grant g) c) ≡ true) ⊎ ((is_lease_call m && is_on x.setting.layout (spot_of_grant g) c) ≡ false)
          → StandsExclusive x.setting y (heard_by x.input) s (spot_of_grant g) g.lver
      own g s there its exclusive stands mine (inl here) =
          stands_more x.setting (seen x) y (heard_by x.input) (heard_by x.input) s (spot_of_grant g) g.lver m stands
          (ap (λ ms. filter (λ d. is_lease_call d && is_on x.setting.layout (spot_of_grant g) d.call) ms) (mine_more e x.past c s mine)
          ∙ ap (λ b. cond b (m ∷ lease_calls x.setting (seen x) s (spot_of_grant g)) (lease_calls x.setting (seen x) s (spot_of_grant g))) here)
          (ap (λ ms. generation_in s ms) (mine_more e x.past c s mine) ∙ spares.generation g s there its mine) (over g s there its)
          (λ d inside opens. opens_before x.past e c (heard_by x.input) d opens) (spares.beside g s there its mine exclusive here stands)
      own g s there its exclusive stands mine (inr away) =
          stands_same x.setting (seen x) y (heard_by x.input) (heard_by x.input) s (spot_of_grant g) g.lver
          (ap (λ ms. filter (λ d. is_lease_call d && is_on x.setting.layout (spot_of_grant g) d.call) ms) (mine_more e x.past c s mine)
          ∙ ap (λ b. cond b (m ∷ lease_calls x.setting (seen x) s (spot_of_grant g)) (lease_calls x.setting (seen x) s (spot_of_grant g))) away)
          (ap (λ ms. generation_in s ms) (mine_more e x.past c s mine) ∙ spares.generation g s there its mine) (over g s there its)
          (λ d inside opens. opens_before x.past e c (heard_by x.input) d opens) stands

      by : (g : Grant) (s : Session) → Contains (holdings (seen x)) g → session_numbered x.setting (seen x) g.session ≡ Some s → is_shared g.mode ≡ false
          → StandsExclusive x.setting (seen x) (heard_by x.input) s (spot_of_grant g) g.lver → ((c.session == s.number) ≡ true) ⊎ ((c.session == s.number) ≡ false)
          → StandsExclusive x.setting y (heard_by x.input) s (spot_of_grant g) g.lver
      by g s there its exclusive stands (inl mine) = own g s there its exclusive stands mine (true_or_false (is_lease_call m && is_on x.setting.layout (spot_of_grant g) c))
      by g s there its exclusive stands (inr other) =
          stands_same x.setting (seen x) y (heard_by x.input) (heard_by x.input) s (spot_of_grant g) g.lver
          (ap (λ ms. filter (λ d. is_lease_call d && is_on x.setting.layout (spot_of_grant g) d.call) ms) (others_stay e x.past c s other))
          (ap (λ ms. generation_in s ms) (others_stay e x.past c s other)) (over g s there its) (λ d inside opens. opens_before x.past e c (heard_by x.input) d opens) stands
