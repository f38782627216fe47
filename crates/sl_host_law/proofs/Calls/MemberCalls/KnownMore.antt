-- What is asked of a session's calls on its id's sector, and of its requests and looks, after one more call without an answer.
use Rattle.sl_area.specs.AreaSizes.{Layout}
use Rattle.sl_due.specs.DueRequests.{is_asked, owner_asked}
use Rattle.sl_host_law.proofs.SharedFacts.PlainLists.{all_from, none_any}
use Rattle.sl_host_state.specs.KeptState.{JoinState}
use Rattle.sl_host_state.specs.MadeEffects.{joining_calling, known_calling}
use Rattle.sl_host_state.specs.HostStands.{AreInTurn, JoinStands}
use Rattle.sl_words.proofs.Lists.{kept, kept_inside}
use Rattle.sl_sector.specs.declared.sector.DeltaRec.{DeltaRec}
use Rattle.sl_trace.specs.Sessions.{delta_written, free_write, generation_in, given_number, is_delta_purpose, is_free_purpose, is_join_call, is_renewal, is_survey_purpose, join_call, last_delta, renewal_in, seq_in}
use Rattle.sl_trace.specs.Sightings.{sightings}
use Rattle.sl_trace.specs.declared.delta.DeltaKnown.{DeltaKnown}
use Rattle.sl_trace.specs.declared.session.Session.{Session}
use Rattle.sl_trace.specs.declared.sighting.Sighting.{Sighting}
use Rattle.sl_trace.specs.Traces.{Answered, Setting, Submitted, gave, new_call, unanswered}
use Rattle.sl_trace.specs.declared.effects.Call.{Call}
use Rattle.sl_trace.specs.declared.effects.JoinStep.TheVariants.{ClaimWrite, FirstRead}
use Rattle.sl_words.proofs.CaseLaws.{false_is_true}
use Rattle.sl_words.specs.Words.{some_is}
use Rattle.std.proofs.Common.{ap, refl, sym, ◌∙◌}
use Rattle.std.specs.List.{AllByRecursion, cons_option, list_any}
use Rattle.std.specs.Option.{option_map_or}
use Rattle.std.specs.Prelude.{Bool, Contains, IsTrue, List, None, Option, Some, cond, false, filter, find, is_none, is_some, option_and_then, option_map, true, ℕ, ◌&&◌, ◌==◌, ◌||◌, ◌∷◌, ◌≡◌}

-- By the session's calls, and by recovery and leaving, which they don't change.
abbrev pub known_by : Session → Bool → Option ℕ → List Submitted → DeltaKnown
known_by s recovering leaving ms =
    record {
      generation = generation_in s ms;
      seq = seq_in s ms;
      renewed = renewal_in s ms;
      busy = list_any (λ m. is_delta_purpose m.call.purpose) (unanswered ms);
      recovering = recovering;
      leaving = leaving;
      freed = is_some (free_write ms);
    }

module _ (at reading : ℕ) (call : Call) where
  -- The call.
  abbrev c : Submitted
  c = new_call at reading call

  -- ---- what is known on the id's sector

  last_more : (f : DeltaRec → ℕ) (ms : List Submitted) (z : ℕ) → option_map_or f (last_delta (c ∷ ms)) z ≡ option_map_or f (delta_written c) (option_map_or f (last_delta ms) z)
  last_more f ms z = by (delta_written c) where
    by : (o : Option DeltaRec)
        → option_map_or f (elim o as (λ x. Option DeltaRec) [ Some d ↦ Some d | None ↦ last_delta ms ]) z ≡ option_map_or f o (option_map_or f (last_delta ms) z)
    by None = refl
    by (Some d) = refl

  renewed_more : (s : Session) (ms : List Submitted) → renewal_in s (c ∷ ms) ≡ cond (is_renewal call.purpose) reading (renewal_in s ms)
  renewed_more s ms = by (is_renewal call.purpose) where
    by : (b : Bool) → option_map_or (λ m. m.reading) (cond b (Some c) (find (λ m. is_renewal m.call.purpose) ms)) s.renewed ≡ cond b reading (renewal_in s ms)
    by true = refl
    by false = refl

  freed_more : (ms : List Submitted) → is_some (free_write (c ∷ ms)) ≡ (is_free_purpose call.purpose || is_some (free_write ms))
  freed_more ms = by (is_free_purpose call.purpose) where
    by : (b : Bool) → is_some (cond b (Some c) (free_write ms)) ≡ (b || is_some (free_write ms))
    by true = refl
    by false = refl

  abbrev made_of : Bool → Bool → Option ℕ → ℕ → ℕ → ℕ → Bool → DeltaKnown
  made_of busy recovering leaving generation seq renewed freed =
      record { generation = generation; seq = seq; renewed = renewed; busy = busy; recovering = recovering; leaving = leaving; freed = freed }

  pub known_more : (s : Session) (recovering : Bool) (leaving : Option ℕ) (ms : List Submitted) (k : DeltaKnown) → known_by s recovering leaving ms ≡ k
      → known_by s recovering leaving (c ∷ ms) ≡ known_calling c k
  known_more s r l ms k is =
      let busy : Bool = is_delta_purpose call.purpose || list_any (λ m. is_delta_purpose m.call.purpose) (unanswered ms) in
      ap (λ n. made_of busy r l n (seq_in s (c ∷ ms)) (renewal_in s (c ∷ ms)) (is_some (free_write (c ∷ ms)))) (last_more (λ d. d.generation) ms (given_number s))
      ∙ ap (λ n. made_of busy r l (option_map_or (λ d. d.generation) (delta_written c) (generation_in s ms)) n (renewal_in s (c ∷ ms)) (is_some (free_write (c ∷ ms))))
      (last_more (λ d. d.seq) ms (given_number s))
      ∙ ap (λ n. made_of busy r l (option_map_or (λ d. d.generation) (delta_written c) (generation_in s ms)) (option_map_or (λ d. d.seq) (delta_written c) (seq_in s ms)) n (is_some (free_write (c ∷ ms))))
      (renewed_more s ms)
      ∙ ap (λ b. made_of busy r l (option_map_or (λ d. d.generation) (delta_written c) (generation_in s ms)) (option_map_or (λ d. d.seq) (delta_written c) (seq_in s ms))
      (cond (is_renewal call.purpose) reading (renewal_in s ms)) b) (freed_more ms)
      ∙ ap (known_calling c) is

  -- ---- what a joining keeps

  first_more : {A : Type 0} (f : Submitted → Option A) (b : Bool) (o : Option Submitted) (old new : Option A) → option_and_then f o ≡ old → f c ≡ new
      → option_and_then f (cond b (Some c) o) ≡ cond b new old
  first_more f true o old new is own = own
  first_more f false o old new is own = is

  pub joining_more : (j : JoinState) (ms : List Submitted) → JoinStands j ms → JoinStands (joining_calling c j) (c ∷ ms)
  joining_more j ms stands =
      record {
        watched = first_more gave (is_join_call FirstRead call.purpose) (join_call ms FirstRead) j.watched None stands.watched refl;
        since = first_more (λ m. option_map (λ a. a.reading) m.answer) (is_join_call FirstRead call.purpose) (join_call ms FirstRead) j.since None stands.since refl;
        claim = first_more delta_written (is_join_call ClaimWrite call.purpose) (join_call ms ClaimWrite) j.claim (delta_written c) stands.claim refl;
        newest = refl;
      }

  -- ---- owners asked, and ids seen: by answers alone

  pub asked_more : (st : Setting) (ms : List Submitted) (now owner : ℕ) → is_asked st (c ∷ ms) now owner ≡ is_asked st ms now owner
  asked_more st ms now owner = by (some_is (λ o. o == owner) (owner_asked call.purpose)) where
    by : (b : Bool) → (b && false || is_asked st ms now owner) ≡ is_asked st ms now owner
    by true = refl
    by false = refl

  pub seen_more : (g : Layout) (id : ℕ) (ms : List Submitted) → sightings g id (c ∷ ms) ≡ sightings g id ms
  seen_more g id ms = by (is_survey_purpose call.purpose) where
    by : (b : Bool) → cons_option (elim b as (λ x. Option Sighting) [ false ↦ None | true ↦ None ]) (sightings g id ms) ≡ sightings g id ms
    by true = refl
    by false = refl

  -- ---- calls on delta sectors come one after another

  answered_all : (ms : List Submitted) → list_any (λ m. is_delta_purpose m.call.purpose) (unanswered ms) ≡ false
      → AllByRecursion (λ m. IsTrue (is_some m.answer)) (filter (λ m. is_delta_purpose m.call.purpose) ms)
  answered_all ms none =
      all_from (λ m. IsTrue (is_some m.answer)) (filter (λ m. is_delta_purpose m.call.purpose) ms) (λ d there. by d (kept_inside (λ m. is_delta_purpose m.call.purpose) ms d there)) where
        by : (d : Submitted) → Contains ms d × (is_delta_purpose d.call.purpose ≡ true) → IsTrue (is_some d.answer)
        by d in_it = answer d.answer refl where
          answer : (o : Option Answered) → d.answer ≡ o → is_some o ≡ true
          answer None is =
              absurd (false_is_true (sym (none_any (λ m. is_delta_purpose m.call.purpose) (unanswered ms) d none (kept (λ m. is_none m.answer) ms d (ap (λ o. is_none o) is) in_it.0)) ∙ in_it.1))
          answer (Some a) is = refl

  pub turn_more : (ms : List Submitted) → (is_delta_purpose call.purpose && list_any (λ m. is_delta_purpose m.call.purpose) (unanswered ms)) ≡ false
      → AreInTurn (filter (λ m. is_delta_purpose m.call.purpose) ms) → AreInTurn (filter (λ m. is_delta_purpose m.call.purpose) (c ∷ ms))
  turn_more ms free turn = by (is_delta_purpose call.purpose) free where
    by : (b : Bool) → (b && list_any (λ m. is_delta_purpose m.call.purpose) (unanswered ms)) ≡ false
        → AreInTurn (cond b (c ∷ filter (λ m. is_delta_purpose m.call.purpose) ms) (filter (λ m. is_delta_purpose m.call.purpose) ms))
    by true none = answered_all ms none
    by false none = turn
