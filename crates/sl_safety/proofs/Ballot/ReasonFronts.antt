-- Calls of an entry have no answer in it. So what a session has evidence of, and which of its ballots have ended, is the same before any
-- call of an entry as after the whole entry.
use Rattle.sl_area.specs.AreaSizes.{Layout}
use Rattle.sl_safety.proofs.Ballot.ReasonNames.{cut_keeps}
use Rattle.sl_run.specs.Lawful.{Orderly}
use Rattle.sl_run.specs.LawForms.{cut_at}
use Rattle.sl_trace.specs.Leases.{Phase2_read, block_submitted, blocks_given, ended_ballot, ended_ballots, is_at, is_lease_call, is_on, lease_calls, value_in_end}
use Rattle.sl_trace.specs.Ballots.{stop_of}
use Rattle.sl_sector.specs.declared.sector.Block.{Block}
use Rattle.sl_sector.specs.declared.sector.Owner.{Owner}
use Rattle.sl_run_law.proofs.Sessions.TraceGrowth.{mine_next, other_next, to_all, to_cut}
use Rattle.sl_run_law.specs.Sessions.SessionLaws.{IsSession}
use Rattle.sl_trace.specs.Sessions.{calls_of, generation_of, is_survey_purpose, joined_after}
use Rattle.sl_trace.specs.Sightings.{counted_over, counts_over, evidence, evidence_in, look_of, sightings}
use Rattle.sl_trace.specs.declared.session.Session.{Session}
use Rattle.sl_trace.specs.declared.sighting.Sighting.{Sighting}
use Rattle.sl_trace.specs.Traces.{Setting, Submitted, Trace, new_call}
use Rattle.sl_trace.specs.declared.effects.Call.{Call}
use Rattle.sl_trace.specs.declared.effects.Entry.{Entry}
use Rattle.sl_trace.specs.declared.effects.Spot.{Spot}
use Rattle.std.proofs.Common.{ap, refl, sym, ◌∙◌}
use Rattle.std.specs.List.{cons_option}
use Rattle.std.specs.Prelude.{Bool, List, None, Option, Some, cond, false, filter, is_some, length, nat_lt, option_and_then, slice_get, suc, true, ℕ, ◌&&◌, ◌==◌, ◌∷◌, ◌≡◌}

-- ---- what a new call changes nothing of

-- A value of the session's calls that no new call changes is the same in all of an entry.
same_next : {A : Type 0} (F : List Submitted → A) → ((at reading : ℕ) (c : Call) (ms : List Submitted) → F (new_call at reading c ∷ ms) ≡ F ms) → (e : Entry) (past : Trace) (s : Session)
    → (k : ℕ) (c : Call) → slice_get e.effects.calls k ≡ Some c → (a : A) → F (calls_of (cut_at k e ∷ past) s) ≡ a → (b : Bool) → (c.session == s.number) ≡ b
    → F (calls_of (cut_at (suc k) e ∷ past) s) ≡ a
same_next F same e past s k c at a was true mine =
    ap F (mine_next past e s k c at mine) ∙ same (length past) e.reading c (calls_of (cut_at k e ∷ past) s) ∙ was
same_next F same e past s k c at a was false other = ap F (other_next past e s k c at other) ∙ was

same_in : {A : Type 0} (F : List Submitted → A) → ((at reading : ℕ) (c : Call) (ms : List Submitted) → F (new_call at reading c ∷ ms) ≡ F ms) → (e : Entry) (past : Trace) (s : Session)
    → (k : ℕ) → F (calls_of (e ∷ past) s) ≡ F (calls_of (cut_at k e ∷ past) s)
same_in {A} F same e past s k =
    let a : A = F (calls_of (cut_at 0 e ∷ past) s) in
    let P : Trace → Type 0 = λ t. F (calls_of t s) ≡ a in
    let next : (i : ℕ) (c : Call) → slice_get e.effects.calls i ≡ Some c → P (cut_at i e ∷ past) → P (cut_at (suc i) e ∷ past) =
    λ i c at was. same_next F same e past s i c at a was (c.session == s.number) refl in
    to_all P e past refl next ∙ sym (to_cut P e past refl next k)

-- ---- evidence

look_none : (g : Layout) (id at reading : ℕ) (c : Call) (b : Bool) → is_survey_purpose c.purpose ≡ b → look_of g id (new_call at reading c) ≡ None
look_none g id at reading c true is = ap (λ b. elim b as (λ z. Option Sighting) [ false ↦ None | true ↦ None ]) is
look_none g id at reading c false is = ap (λ b. elim b as (λ z. Option Sighting) [ false ↦ None | true ↦ None ]) is

sighting_next : (g : Layout) (id at reading : ℕ) (c : Call) (ms : List Submitted) → sightings g id (new_call at reading c ∷ ms) ≡ sightings g id ms
sighting_next g id at reading c ms = ap (λ o. cons_option o (sightings g id ms)) (look_none g id at reading c (is_survey_purpose c.purpose) refl)

-- What a joined session counts as over before a call of an entry it counts as over after it.
pub counts_alike : (st : Setting) (e : Entry) (past : Trace) (s : Session) (i : ℕ) → Orderly st (e ∷ past) → IsSession st (e ∷ past) s → joined_after (e ∷ past) s ≡ Some i → (k j h : ℕ)
    → counts_over st (e ∷ past) s j h ≡ counts_over st (cut_at k e ∷ past) s j h
counts_alike st e past s i law its joined k j h =
    ap (λ ss. elim (is_some (evidence st.timing st.layout j h ss)) as (λ z. Bool) [
      | true ↦ true
      | false ↦ j == s.id && nat_lt h (generation_of (e ∷ past) s) && is_some (joined_after (e ∷ past) s)
    ]) (same_in (sightings st.layout j) (λ at reading c ms. sighting_next st.layout j at reading c ms) e past s k)
    ∙ ap (λ n. elim (is_some (evidence_in st (calls_of (cut_at k e ∷ past) s) j h)) as (λ z. Bool) [
      | true ↦ true
      | false ↦ j == s.id && nat_lt h n && is_some (joined_after (e ∷ past) s)
    ]) (cut_keeps st e past s i law its joined k)

pub counted_alike : (st : Setting) (e : Entry) (past : Trace) (s : Session) (i : ℕ) → Orderly st (e ∷ past) → IsSession st (e ∷ past) s → joined_after (e ∷ past) s ≡ Some i → (k j h : ℕ)
    → counted_over st (e ∷ past) s j h ≡ counted_over st (cut_at k e ∷ past) s j h
counted_alike st e past s i law its joined k j h =
    ap (λ b. elim b as (λ z. Bool) [ true ↦ true | false ↦ counted_over st past s j h ]) (counts_alike st e past s i law its joined k j h)

-- ---- ballots that ended

end_of : (o : Option Block) → option_and_then (λ own. option_and_then (λ (blocks : List (Option Block)). value_in_end own (stop_of own blocks)) None) o ≡ None
end_of None = refl
end_of (Some own) = refl

no_end : (g : Layout) (m : Submitted) (ms : List Submitted) → blocks_given g m ms ≡ None → (b : Bool) → is_at Phase2_read m ≡ b → ended_ballot g m ms ≡ None
no_end g m ms none true is =
    ap (λ b. elim b as (λ z. Option (ℕ × Owner)) [
      | false ↦ None
      | true ↦ option_and_then (λ own. option_and_then (λ blocks. value_in_end own (stop_of own blocks)) (blocks_given g m ms)) (block_submitted ms)
    ]) is
    ∙ ap (λ (o : Option (List (Option Block))). option_and_then (λ own. option_and_then (λ blocks. value_in_end own (stop_of own blocks)) o) (block_submitted ms)) none
    ∙ end_of (block_submitted ms)
no_end g m ms none false is =
    ap (λ b. elim b as (λ z. Option (ℕ × Owner)) [
      | false ↦ None
      | true ↦ option_and_then (λ own. option_and_then (λ blocks. value_in_end own (stop_of own blocks)) (blocks_given g m ms)) (block_submitted ms)
    ]) is

ends_with : (g : Layout) (m : Submitted) (ms : List Submitted) → ended_ballot g m ms ≡ None → ended_ballots g (m ∷ ms) ≡ ended_ballots g ms
ends_with g m ms none = ap (λ o. elim o as (λ z. List (ℕ × Owner)) [ None ↦ ended_ballots g ms | Some p ↦ p ∷ ended_ballots g ms ]) none

abbrev leased : Setting → Spot → List Submitted → List Submitted
leased st at ms = filter (λ m. is_lease_call m && is_on st.layout at m.call) ms

ends_by : (st : Setting) (m : Submitted) (ms : List Submitted) → blocks_given st.layout m ms ≡ None → (b : Bool) → ended_ballots st.layout (cond b (m ∷ ms) ms) ≡ ended_ballots st.layout ms
ends_by st m ms none true = ends_with st.layout m ms (no_end st.layout m ms none (is_at Phase2_read m) refl)
ends_by st m ms none false = refl

-- A ballot that has ended before a call of an entry has ended after it.
pub ends_alike : (st : Setting) (e : Entry) (past : Trace) (s : Session) (at : Spot) (k : ℕ)
    → ended_ballots st.layout (lease_calls st (e ∷ past) s at) ≡ ended_ballots st.layout (lease_calls st (cut_at k e ∷ past) s at)
ends_alike st e past s at k =
    same_in (λ ms. ended_ballots st.layout (leased st at ms))
    (λ n reading c ms. ends_by st (new_call n reading c) (leased st at ms) refl (is_lease_call (new_call n reading c) && is_on st.layout at c)) e past s k
