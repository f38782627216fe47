-- What an answer makes of a list of calls: the call that it answers has it, every other is as it was. What is asked of calls and not of
-- their answers stays.
use Rattle.sl_host_law.proofs.SharedFacts.PlainLists.{kept_if}
use Rattle.sl_trace.specs.Leases.{is_lease_call, spot_of_call, spots_in, with_spot}
use Rattle.sl_area.specs.AreaSizes.{Layout}
use Rattle.sl_sector.specs.declared.sector.DeltaRec.{DeltaRec}
use Rattle.sl_trace.specs.Sessions.{delta_written, free_write, generation_in, given_number, is_free_purpose, is_renewal, last_delta, renewal_in, seq_in}
use Rattle.sl_trace.specs.declared.session.Session.{Session}
use Rattle.sl_trace.specs.Traces.{Answered, Submitted, Trace, answer_of, answered_in, unanswered}
use Rattle.sl_trace.specs.declared.effects.Call.{Call}
use Rattle.sl_trace.specs.declared.effects.Effects.{Effects}
use Rattle.sl_trace.specs.declared.effects.Entry.{Entry}
use Rattle.sl_trace.specs.declared.effects.Spot.{Spot}
use Rattle.sl_trace.specs.declared.input.Answer.{Answer}
use Rattle.sl_trace.specs.declared.input.Input.TheVariants.{Answer as Told}
use Rattle.std.proofs.Common.{ap, refl, subst, sym, ◌∙◌}
use Rattle.std.specs.List.{AllByRecursion, cons_option}
use Rattle.std.specs.Option.{option_map_or, option_or}
use Rattle.std.specs.Prelude.{Bool, IsTrue, List, None, Option, Some, cond, false, filter, filter_map, find, is_none, is_some, map, not, option_map, true, [], ℕ, ◌==◌, ◌∷◌, ◌≡◌}

-- The entry that brings the answer: it has made no call yet.
abbrev pub told : ℕ → Effects → ℕ → Answer → Entry
told now fx n a = record { reading = now; input = Told n a; effects = record fx { calls = [] } }

module _ (past : Trace) (now : ℕ) (fx : Effects) (n : ℕ) (a : Answer) where
  -- A call after the answer.
  abbrev pub hear : Submitted → Submitted
  hear d = answered_in past (told now fx n a) n a d

  -- By whether it is the call.
  abbrev pub hear_by : Submitted → Bool → Submitted
  hear_by d b = elim b [ false ↦ d | true ↦ record d { answer = option_or d.answer (Some (answer_of past (told now fx n a) a d.call)) } ]

  pub same_call : (d : Submitted) → (hear d).call ≡ d.call
  same_call d = by (d.call.number == n) where
    by : (b : Bool) → (hear_by d b).call ≡ d.call
    by true = refl
    by false = refl

  pub same_reading : (d : Submitted) → (hear d).reading ≡ d.reading
  same_reading d = by (d.call.number == n) where
    by : (b : Bool) → (hear_by d b).reading ≡ d.reading
    by true = refl
    by false = refl

  -- ---- a call that is not answered by it

  pub not_its : (d : Submitted) → (d.call.number == n) ≡ false → hear d ≡ d
  not_its d other = ap (hear_by d) other

  pub answered_before : (d : Submitted) → IsTrue (is_some d.answer) → hear d ≡ d
  answered_before d has = by (d.call.number == n) (kept_answer d.answer refl has) where
    kept_answer : (o : Option Answered) → d.answer ≡ o → is_some o ≡ true → option_or d.answer (Some (answer_of past (told now fx n a) a d.call)) ≡ d.answer
    kept_answer (Some x) is h = ap (λ o. option_or o (Some (answer_of past (told now fx n a) a d.call))) is ∙ sym is
    kept_answer None is h = absurd cc

    by : (b : Bool) → option_or d.answer (Some (answer_of past (told now fx n a) a d.call)) ≡ d.answer → hear_by d b ≡ d
    by true same = ap (λ o. record d { answer = o }) same
    by false same = refl

  -- Calls that it leaves as they were.
  pub unheard : (ms : List Submitted) → AllByRecursion (λ d. hear d ≡ d) ms → map hear ms ≡ ms
  unheard [] all = refl
  unheard (d ∷ ms) all = ap (λ e. e ∷ map hear ms) all.0 ∙ ap (λ zs. d ∷ zs) (unheard ms all.1)

  -- What has an answer has one still.
  pub answered_still : (ms : List Submitted) → AllByRecursion (λ d. IsTrue (is_some d.answer)) ms → AllByRecursion (λ d. IsTrue (is_some d.answer)) (map hear ms)
  answered_still [] all = tt
  answered_still (d ∷ ms) all = (ap (λ (e : Submitted). is_some e.answer) (answered_before d all.0) ∙ all.0, answered_still ms all.1)

  pub all_answered : (ms : List Submitted) → AllByRecursion (λ d. IsTrue (is_some d.answer)) ms → map hear ms ≡ ms
  all_answered [] all = refl
  all_answered (d ∷ ms) all = ap (λ e. e ∷ map hear ms) (answered_before d all.0) ∙ ap (λ zs. d ∷ zs) (all_answered ms all.1)

  -- ---- calls picked by what an answer doesn't change

  pub picked : (p : Call → Bool) (ms : List Submitted) → filter (λ d. p d.call) (map hear ms) ≡ map hear (filter (λ d. p d.call) ms)
  picked p [] = refl
  picked p (d ∷ ms) = by (p d.call) refl (picked p ms) where
    by : (b : Bool) → p d.call ≡ b → filter (λ d. p d.call) (map hear ms) ≡ map hear (filter (λ d. p d.call) ms)
        → filter (λ d. p d.call) (hear d ∷ map hear ms) ≡ map hear (cond b (d ∷ filter (λ d. p d.call) ms) (filter (λ d. p d.call) ms))
    by true is rest = kept_if (λ (d : Submitted). p d.call) (hear d) (map hear ms) true (ap p (same_call d) ∙ is) ∙ ap (λ zs. hear d ∷ zs) rest
    by false is rest = kept_if (λ (d : Submitted). p d.call) (hear d) (map hear ms) false (ap p (same_call d) ∙ is) ∙ rest

  pub found_heard : (p : Call → Bool) (ms : List Submitted) → find (λ d. p d.call) (map hear ms) ≡ option_map hear (find (λ d. p d.call) ms)
  found_heard p [] = refl
  found_heard p (d ∷ ms) = ap (λ c. cond (p c) (Some (hear d)) (find (λ d. p d.call) (map hear ms))) (same_call d) ∙ by (p d.call) (found_heard p ms) where
    by : (b : Bool) → find (λ d. p d.call) (map hear ms) ≡ option_map hear (find (λ d. p d.call) ms)
        → cond b (Some (hear d)) (find (λ d. p d.call) (map hear ms)) ≡ option_map hear (cond b (Some d) (find (λ d. p d.call) ms))
    by true rest = refl
    by false rest = rest

  pub given_heard : {B : Type 0} (f : Call → Option B) (ms : List Submitted) → filter_map (λ d. f d.call) (map hear ms) ≡ filter_map (λ d. f d.call) ms
  given_heard f [] = refl
  given_heard f (d ∷ ms) = ap (λ c. cons_option (f c) (filter_map (λ d. f d.call) (map hear ms))) (same_call d) ∙ ap (λ zs. cons_option (f d.call) zs) (given_heard f ms)

  pub all_heard : (P : Call → Type 0) (ms : List Submitted) → AllByRecursion (λ d. P d.call) ms → AllByRecursion (λ d. P d.call) (map hear ms)
  all_heard P [] all = tt
  all_heard P (d ∷ ms) all = (subst P (sym (same_call d)) all.0, all_heard P ms all.1)

  pub numbers_stay : (ms : List Submitted) → map (λ d. d.call.number) (map hear ms) ≡ map (λ d. d.call.number) ms
  numbers_stay [] = refl
  numbers_stay (d ∷ ms) = ap (λ (c : Call). c.number ∷ map (λ d. d.call.number) (map hear ms)) (same_call d) ∙ ap (λ zs. d.call.number ∷ zs) (numbers_stay ms)

  -- ---- what is known of a session on its id's sector

  last_stays : (ms : List Submitted) → last_delta (map hear ms) ≡ last_delta ms
  last_stays [] = refl
  last_stays (d ∷ ms) =
      ap (λ (c : Call). elim (delta_written (record (hear d) { call = c })) as (λ z. Option DeltaRec) [ Some r ↦ Some r | None ↦ last_delta (map hear ms) ]) (same_call d)
      ∙ ap (λ o. elim (delta_written d) as (λ z. Option DeltaRec) [ Some r ↦ Some r | None ↦ o ]) (last_stays ms)

  pub generation_stays : (s : Session) (ms : List Submitted) → generation_in s (map hear ms) ≡ generation_in s ms
  generation_stays s ms = ap (λ o. option_map_or (λ (d : DeltaRec). d.generation) o (given_number s)) (last_stays ms)

  pub seq_stays : (s : Session) (ms : List Submitted) → seq_in s (map hear ms) ≡ seq_in s ms
  seq_stays s ms = ap (λ o. option_map_or (λ (d : DeltaRec). d.seq) o (given_number s)) (last_stays ms)

  pub renewal_stays : (s : Session) (ms : List Submitted) → renewal_in s (map hear ms) ≡ renewal_in s ms
  renewal_stays s ms = ap (λ o. option_map_or (λ (d : Submitted). d.reading) o s.renewed) (found_heard (λ c. is_renewal c.purpose) ms) ∙ by (find (λ d. is_renewal d.call.purpose) ms) where
    by : (o : Option Submitted) → option_map_or (λ (d : Submitted). d.reading) (option_map hear o) s.renewed ≡ option_map_or (λ (d : Submitted). d.reading) o s.renewed
    by None = refl
    by (Some d) = same_reading d

  pub free_stays : (ms : List Submitted) → is_some (free_write (map hear ms)) ≡ is_some (free_write ms)
  free_stays ms = ap is_some (found_heard (λ c. is_free_purpose c.purpose) ms) ∙ by (free_write ms) where
    by : (o : Option Submitted) → is_some (option_map hear o) ≡ is_some o
    by None = refl
    by (Some d) = refl

  -- ---- the areas of its leases

  pub spots_stay : (g : Layout) (ms : List Submitted) → spots_in g (map hear ms) ≡ spots_in g ms
  spots_stay g [] = refl
  spots_stay g (d ∷ ms) =
      ap (λ (c : Call). let e : Submitted = record (hear d) { call = c } in elim (is_lease_call e) as (λ z. List Spot) [ false ↦ spots_in g (map hear ms) | true ↦ with_spot (spot_of_call g e) (spots_in g (map hear ms)) ]) (same_call d)
      ∙ ap (λ zs. elim (is_lease_call d) as (λ z. List Spot) [ false ↦ zs | true ↦ with_spot (spot_of_call g d) zs ]) (spots_stay g ms)

  -- ---- the calls without an answer

  pub open_heard : (ms : List Submitted) → unanswered (map hear ms) ≡ filter (λ d. not (d.call.number == n)) (unanswered ms)
  open_heard [] = refl
  open_heard (d ∷ ms) = by (d.call.number == n) refl (is_none d.answer) refl (open_heard ms) where
    goal : Type 0
    goal = unanswered (map hear (d ∷ ms)) ≡ filter (λ d. not (d.call.number == n)) (unanswered (d ∷ ms))

    by : (b : Bool) → (d.call.number == n) ≡ b → (o : Bool) → is_none d.answer ≡ o → unanswered (map hear ms) ≡ filter (λ d. not (d.call.number == n)) (unanswered ms)
        → unanswered (map hear (d ∷ ms)) ≡ filter (λ d. not (d.call.number == n)) (unanswered (d ∷ ms))
    by false its true open_yet rest =
        kept_if (λ (e : Submitted). is_none e.answer) (hear d) (map hear ms) true (ap (λ (e : Submitted). is_none e.answer) (not_its d its) ∙ open_yet)
        ∙ ap (λ e. e ∷ unanswered (map hear ms)) (not_its d its) ∙ ap (λ zs. d ∷ zs) rest
        ∙ sym (ap (filter (λ d. not (d.call.number == n))) (kept_if (λ (e : Submitted). is_none e.answer) d ms true open_yet) ∙ kept_if (λ (d : Submitted). not (d.call.number == n)) d (unanswered ms) true (ap not its))
    by true its true open_yet rest =
        kept_if (λ (e : Submitted). is_none e.answer) (hear d) (map hear ms) false (ap (λ b. is_none (hear_by d b).answer) its ∙ now_answered d.answer open_yet) ∙ rest
        ∙ sym (ap (filter (λ d. not (d.call.number == n))) (kept_if (λ (e : Submitted). is_none e.answer) d ms true open_yet) ∙ kept_if (λ (d : Submitted). not (d.call.number == n)) d (unanswered ms) false (ap not its)) where
          now_answered : (o : Option Answered) → is_none o ≡ true → is_none (option_or o (Some (answer_of past (told now fx n a) a d.call))) ≡ false
          now_answered None h = refl
          now_answered (Some x) h = refl
    by b its false open_yet rest =
        kept_if (λ (e : Submitted). is_none e.answer) (hear d) (map hear ms) false (ap (λ (e : Submitted). is_none e.answer) (answered_before d (answered_is d.answer open_yet)) ∙ open_yet) ∙ rest
        ∙ sym (ap (filter (λ d. not (d.call.number == n))) (kept_if (λ (e : Submitted). is_none e.answer) d ms false open_yet)) where
          answered_is : (o : Option Answered) → is_none o ≡ false → is_some o ≡ true
          answered_is (Some x) h = refl
          answered_is None h = absurd cc
