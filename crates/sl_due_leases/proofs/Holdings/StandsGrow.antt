-- How a lease's calls change: not at all, by an answer, by one more call. What stands behind an exclusive holding goes on by each of them.
use Rattle.sl_area.specs.AreaSizes.{Layout}
use Rattle.sl_due_leases.proofs.Holdings.StandsCarried.{WasWritten, stands_on}
use Rattle.sl_trace.specs.Ballots.{is_ahead, stop_of}
use Rattle.sl_trace.specs.declared.lease.Stop.{Stop}
use Rattle.sl_trace.specs.Leases.{StepKind, Area_read, Phase1_read, Phase1_write, Phase2_read, Phase2_write, ballot_after, block_submitted, block_written, blocks_given, concludes, ended_ballot, ended_ballots, freed, freed_by, is_at, is_phase_read, lease_calls, open_ballot, stop_in, value_in_end}
use Rattle.sl_words.proofs.Lists.{contains_cases, contains_first, contains_map, contains_more, in_map}
use Rattle.sl_words.proofs.Options.{some_there}
use Rattle.sl_sector.specs.declared.sector.Block.{Block}
use Rattle.sl_sector.specs.declared.sector.Owner.{Owner}
use Rattle.sl_trace.specs.Sessions.{generation_of}
use Rattle.sl_trace.specs.Sightings.{counted_over}
use Rattle.sl_trace.specs.declared.session.Session.{Session}
use Rattle.sl_due_facts.specs.Facts.HeardCall.{IsOpen}
use Rattle.sl_due_facts.specs.Facts.HoldingFacts.{StandsExclusive, is_ballot_call}
use Rattle.sl_due_facts.specs.Facts.WayFacts.{WayContext, Ways}
use Rattle.sl_trace.specs.Traces.{Answered, Setting, Submitted, Trace, answer_of, answered_in, is_heeded}
use Rattle.sl_trace.specs.declared.effects.Entry.{Entry}
use Rattle.sl_trace.specs.declared.effects.Spot.{Spot}
use Rattle.sl_trace.specs.declared.input.Answer.{Answer}
use Rattle.sl_run_law.proofs.Leases.AgeLaws.{became_among}
use Rattle.sl_run_law.proofs.Leases.FrontLaws.{aged_itself, all_aged_itself}
use Rattle.sl_run_law.proofs.Sessions.CallsAreMade.{kept_by, same_answered}
use Rattle.sl_run_law.specs.Leases.CallFronts.{Aged, AllAged}
use Rattle.sl_words.proofs.CaseLaws.{not_both, true_or_false}
use Rattle.sl_words.specs.Words.{choose}
use Rattle.std.proofs.Common.{ap, arith, inl, inr, refl, subst, sym, ◌∙◌}
use Rattle.std.specs.Option.{option_or}
use Rattle.std.specs.Prelude.{Bool, Contains, List, None, Option, Some, false, is_some, map, max, option_and_then, true, [], ℕ, ◌&&◌, ◌<◌, ◌==◌, ◌||◌, ◌∷◌, ◌≡◌, ◌≤◌, ◌⊎◌}

-- ---- not at all

pub stands_same : (st : Setting) (t u : Trace) (heard now : Option ℕ) (s : Session) (at : Spot) (n : ℕ) → lease_calls st u s at ≡ lease_calls st t s at → generation_of u s ≡ generation_of t s
    → ((j h : ℕ) → counted_over st t s j h ≡ true → counted_over st u s j h ≡ true) → ((m : Submitted) → Contains (lease_calls st t s at) m → IsOpen u now m → IsOpen t heard m)
    → StandsExclusive st t heard s at n → StandsExclusive st u now s at n
stands_same st t u heard now s at n same generation counted opens h =
    stands_on st t u heard now s at n (record {
      generation = generation;
      counted = counted;
      answered = λ d a there is. subst (λ ms. Contains ms d) (sym same) there;
      aged = λ newer older was split. record { now = was; newer = newer; before = older; split = same ∙ split; aged = aged_itself 0 was; rest = all_aged_itself 0 older };
      written = λ d b there writes. inl (d, subst (λ ms. Contains ms d) same there, refl);
      not_freed = subst (λ ms. freed ms < n) (sym same) h.not_freed;
      last = λ b known under. (b, ap (λ ms. block_submitted ms) same ∙ known, under, refl);
      concluded = ap (λ ms. open_ballot st.layout ms) same ∙ h.concluded;
      won = λ p there. subst (λ ms. Contains (ended_ballots st.layout ms) p) (sym same) there;
      no_more = λ p there. subst (λ ms. Contains (ended_ballots st.layout ms) p) same there;
      idle = λ m there open_now. (let old = subst (λ ms. Contains ms m) same there in h.idle m old (opens m old open_now));
    }) h

-- ---- one more call

-- A call beside an exclusive holding of n is no step of a ballot, and what it writes lies within it.
pub record IsBeside (last : Block) (n : ℕ) (c : Submitted) : Type 0 where
  pub fresh : c.answer ≡ None
  pub no_ballot : is_ballot_call c ≡ false
  pub block : (b : Block) → block_written c ≡ Some b → (b.lver ≡ n) × (b.mbal ≡ last.mbal)
  pub frees : freed_by c < n

or_parts : (a b : Bool) → (a || b) ≡ false → (a ≡ false) × (b ≡ false)
or_parts false b is = (refl, is)
or_parts true b is = absurd (not_both true refl is)

no_phase2 : (c : Submitted) → is_ballot_call c ≡ false → (is_at Phase2_write c ≡ false) × (is_at Phase2_read c ≡ false)
no_phase2 c is =
    let a = or_parts (is_at Area_read c) (is_at Phase1_write c || (is_at Phase1_read c || (is_at Phase2_write c || is_at Phase2_read c))) is in
    let b = or_parts (is_at Phase1_write c) (is_at Phase1_read c || (is_at Phase2_write c || is_at Phase2_read c)) a.1 in
    let d = or_parts (is_at Phase1_read c) (is_at Phase2_write c || is_at Phase2_read c) b.1 in
    or_parts (is_at Phase2_write c) (is_at Phase2_read c) d.1

none_opened : (g : Layout) (c : Submitted) (ms : List Submitted) (o : Option Block) (w t : Bool) → w ≡ false
    → (elim o as (λ z. Option ℕ) [
      | Some b ↦ elim w as (λ z. Option ℕ) [ true ↦ Some b.lver | false ↦ option_and_then (λ n. choose (b.lver == n) n) None ]
      | None ↦ elim t as (λ z. Option ℕ) [ true ↦ None | false ↦ None ]
    ]) ≡ None
none_opened g c ms (Some b) w t is = ap (λ x. elim x as (λ z. Option ℕ) [ true ↦ Some b.lver | false ↦ None ]) is
none_opened g c ms None w true is = refl
none_opened g c ms None w false is = refl

still_none : (g : Layout) (c : Submitted) (ms : List Submitted) → is_at Phase2_write c ≡ false → open_ballot g ms ≡ None → open_ballot g (c ∷ ms) ≡ None
still_none g c ms other none = ap (λ o. ballot_after g c ms o) none ∙ none_opened g c ms (block_written c) (is_at Phase2_write c) (concludes g c ms) other

same_ended : (g : Layout) (c : Submitted) (ms : List Submitted) → is_at Phase2_read c ≡ false → ended_ballots g (c ∷ ms) ≡ ended_ballots g ms
same_ended g c ms other = ap (λ (o : Option (ℕ × Owner)). elim o as (λ z. List (ℕ × Owner)) [ None ↦ ended_ballots g ms | Some p ↦ p ∷ ended_ballots g ms ]) (none g c ms other) where
  none : (g : Layout) (c : Submitted) (ms : List Submitted) → is_at Phase2_read c ≡ false → ended_ballot g c ms ≡ None
  none g c ms h = rw (h, ended_ballot) refl

below_most : (a b n : ℕ) → a < n → b < n → max a b < n
below_most a b n h k = omega (arith, h, k)

pub stands_more : (st : Setting) (t u : Trace) (heard now : Option ℕ) (s : Session) (at : Spot) (n : ℕ) (c : Submitted) → (h : StandsExclusive st t heard s at n) → lease_calls st u s at ≡ c ∷ lease_calls st t s at
    → generation_of u s ≡ generation_of t s → ((j h : ℕ) → counted_over st t s j h ≡ true → counted_over st u s j h ≡ true)
    → ((m : Submitted) → Contains (lease_calls st t s at) m → IsOpen u now m → IsOpen t heard m) → IsBeside h.own n c → StandsExclusive st u now s at n
stands_more st t u heard now s at n c h more generation counted opens beside =
    stands_on st t u heard now s at n (record {
      generation = generation;
      counted = counted;
      answered = λ d a there is. subst (λ ms. Contains ms d) (sym more) (contains_more c (lease_calls st t s at) d there);
      aged = λ newer older was split. record {
        now = was;
        newer = c ∷ newer;
        before = older;
        split = more ∙ ap (λ ms. c ∷ ms) split;
        aged = aged_itself 0 was;
        rest = all_aged_itself 0 older;
      };
      written = λ d b there writes. written_by d b writes (contains_cases c (lease_calls st t s at) d (subst (λ ms. Contains ms d) more there));
      not_freed = subst (λ ms. freed ms < n) (sym more) (below_most (freed_by c) (freed (lease_calls st t s at)) n beside.frees h.not_freed);
      last = λ b known under. subst (λ ms. (k : Block) × (block_submitted ms ≡ Some k) × (k.lver ≡ n) × (k.mbal ≡ b.mbal)) (sym more) (last_by b known under (block_written c) refl);
      concluded = ap (λ ms. open_ballot st.layout ms) more ∙ still_none st.layout c (lease_calls st t s at) apart.0 h.concluded;
      won = λ p there. subst (λ ps. Contains ps p) (sym ended) there;
      no_more = λ p there. subst (λ ps. Contains ps p) ended there;
      idle = λ m there open_now. idle_by m open_now (contains_cases c (lease_calls st t s at) m (subst (λ ms. Contains ms m) more there));
    }) h where
      apart : (is_at Phase2_write c ≡ false) × (is_at Phase2_read c ≡ false)
      apart = no_phase2 c beside.no_ballot

      ended : ended_ballots st.layout (lease_calls st u s at) ≡ ended_ballots st.layout (lease_calls st t s at)
      ended = ap (λ ms. ended_ballots st.layout ms) more ∙ same_ended st.layout c (lease_calls st t s at) apart.1

      written_by : (d : Submitted) (b : Block) → block_written d ≡ Some b → (c ≡ d) ⊎ Contains (lease_calls st t s at) d → WasWritten st t s at d b
      written_by d b writes (inr old) = inl (d, old, refl)
      written_by d b writes (inl new) = inr (h.own, h.known, (beside.block b (ap (λ k. block_written k) new ∙ writes)).1)

      last_by : (b : Block) → block_submitted (lease_calls st t s at) ≡ Some b → b.lver ≡ n → (o : Option Block) → block_written c ≡ o
          → (k : Block) × (block_submitted (c ∷ lease_calls st t s at) ≡ Some k) × (k.lver ≡ n) × (k.mbal ≡ b.mbal)
      last_by b known under None is = (b, ap (λ o. elim o as (λ z. Option Block) [ Some k ↦ Some k | None ↦ block_submitted (lease_calls st t s at) ]) is ∙ known, under, refl)
      last_by b known under (Some k) is =
          let w = beside.block k is in (
            k,
            ap (λ o. elim o as (λ z. Option Block) [ Some k ↦ Some k | None ↦ block_submitted (lease_calls st t s at) ]) is,
            w.0,
            w.1 ∙ ap (λ o. elim o as (λ z. ℕ) [ Some k ↦ k.mbal | None ↦ 0 ]) (sym h.known ∙ known),
          )

      idle_by : (m : Submitted) → IsOpen u now m → (c ≡ m) ⊎ Contains (lease_calls st t s at) m → is_ballot_call m ≡ false
      idle_by m open_now (inl new) = ap (λ k. is_ballot_call k) (sym new) ∙ beside.no_ballot
      idle_by m open_now (inr old) = h.idle m old (opens m old open_now)

-- ---- an answer

and_false : (b c : Bool) → c ≡ false → (b && c) ≡ false
and_false true c is = is
and_false false c is = refl

-- Of calls whose reads of a ballot are all answered.
abbrev AllRead : List Submitted → Type 0
AllRead ms = (d : Submitted) → Contains ms d → is_phase_read d ≡ true → (a : Answered) × (d.answer ≡ Some a)

rest_read : (m : Submitted) (ms : List Submitted) → AllRead (m ∷ ms) → AllRead ms
rest_read m ms h d there reads = h d (contains_more m ms d there) reads

-- A lease makes its calls one after another: those before any are answered.
abbrev pub AllTold : List Submitted → Type 0
AllTold ms = (d : Submitted) → Contains ms d → is_some d.answer ≡ true

abbrev pub InTurn : List Submitted → Type 0
InTurn [] = Unit {0}
InTurn (m ∷ ms) = AllTold ms × InTurn ms

pub in_turn : (w : WayContext) (ms : List Submitted) → Ways w ms → InTurn ms
in_turn w [] h = tt
in_turn w (m ∷ ms) h = (h.0.answered, in_turn w ms h.1)

is_same : (es : Trace) (e : Entry) (n : ℕ) (w : Answer) (m : Submitted) (a : Answered) → m.answer ≡ Some a → answered_in es e n w m ≡ m
is_same es e n w m a is = kept_by m a (answer_of es e w m.call) (m.call.number == n) is

-- So an answer leaves them.
told_same : (es : Trace) (e : Entry) (n : ℕ) (w : Answer) (ms : List Submitted) → AllTold ms → map (answered_in es e n w) ms ≡ ms
told_same es e n w [] told = refl
told_same es e n w (m ∷ ms) told =
    let a = some_there m.answer (told m (contains_first m ms)) in
    ap (λ k. k ∷ map (answered_in es e n w) ms) (is_same es e n w m a.0 a.1) ∙ ap (λ ks. m ∷ ks) (told_same es e n w ms (λ d there. told d (contains_more m ms d there)))

-- Each of all calls becomes what it was, or that with the answer.
one_aged : (es : Trace) (e : Entry) (n : ℕ) (w : Answer) (m : Submitted) → Aged 0 m (answered_in es e n w m)
one_aged es e n w m = by (m.call.number == n) where
  a : Answered
  a = answer_of es e w m.call

  told : (o : Option Answered) → m.answer ≡ o → (option_or m.answer (Some a) ≡ m.answer) ⊎ ((m.answer ≡ None) × (b : Answered) × (option_or m.answer (Some a) ≡ Some b) × (0 ≤ b.at))
  told None is = inr (is, a, ap (λ o. option_or o (Some a)) is, omega arith)
  told (Some b) is = inl (ap (λ o. option_or o (Some a)) is ∙ sym is)

  by : (b : Bool) → Aged 0 m (elim b as (λ z. Submitted) [ false ↦ m | true ↦ record m { answer = option_or m.answer (Some a) } ])
  by false = aged_itself 0 m
  by true = record { at = refl; reading = refl; call = refl; answer = told m.answer refl }

aged_marked : (es : Trace) (e : Entry) (n : ℕ) (w : Answer) (ms : List Submitted) → AllAged 0 ms (map (answered_in es e n w) ms)
aged_marked es e n w [] = tt
aged_marked es e n w (m ∷ ms) = (one_aged es e n w m, aged_marked es e n w ms)

block_marked : (es : Trace) (e : Entry) (n : ℕ) (w : Answer) (m : Submitted) → block_written (answered_in es e n w m) ≡ block_written m
block_marked es e n w m = ap (λ k. block_written (record { at = 0; reading = 0; call = k; answer = None })) (same_answered es e n w m).call

pub submitted_marked : (es : Trace) (e : Entry) (n : ℕ) (w : Answer) (ms : List Submitted) → block_submitted (map (answered_in es e n w) ms) ≡ block_submitted ms
submitted_marked es e n w [] = refl
submitted_marked es e n w (m ∷ ms) =
    ap (λ o. elim o as (λ z. Option Block) [ Some b ↦ Some b | None ↦ block_submitted (map (answered_in es e n w) ms) ]) (block_marked es e n w m)
    ∙ ap (λ r. elim (block_written m) as (λ z. Option Block) [ Some b ↦ Some b | None ↦ r ]) (submitted_marked es e n w ms)

freed_marked : (es : Trace) (e : Entry) (n : ℕ) (w : Answer) (ms : List Submitted) → freed (map (answered_in es e n w) ms) ≡ freed ms
freed_marked es e n w [] = refl
freed_marked es e n w (m ∷ ms) =
    ap (λ k. max (freed_by (record { at = 0; reading = 0; call = k; answer = None })) (freed (map (answered_in es e n w) ms))) (same_answered es e n w m).call
    ∙ ap (λ k. max (freed_by m) k) (freed_marked es e n w ms)

-- A question to a call and those before it that asks what phase reads gave alone.
told_or_not : (es : Trace) (e : Entry) (n : ℕ) (w : Answer) (m : Submitted) (ms : List Submitted) → AllRead (m ∷ ms) → (answered_in es e n w m ≡ m) ⊎ (is_phase_read m ≡ false)
told_or_not es e n w m ms read = by (true_or_false (is_phase_read m)) where
  by : (is_phase_read m ≡ true) ⊎ (is_phase_read m ≡ false) → (answered_in es e n w m ≡ m) ⊎ (is_phase_read m ≡ false)
  by (inl reads) = let a = read m (contains_first m ms) reads in inl (is_same es e n w m a.0 a.1)
  by (inr other) = inr other

kind_marked : (es : Trace) (e : Entry) (n : ℕ) (w : Answer) (m : Submitted) → is_phase_read (answered_in es e n w m) ≡ is_phase_read m
kind_marked es e n w m = ap (λ k. is_phase_read (record { at = 0; reading = 0; call = k; answer = None })) (same_answered es e n w m).call

kind_same : (k : StepKind) (es : Trace) (e : Entry) (n : ℕ) (w : Answer) (m : Submitted) → is_at k (answered_in es e n w m) ≡ is_at k m
kind_same k es e n w m = ap (λ c. is_at k (record { at = 0; reading = 0; call = c; answer = None })) (same_answered es e n w m).call

concluded_none : (m : Submitted) (o : Option (Option Stop)) (b : Bool) → b ≡ false
    → (elim b as (λ z. Bool) [
      | false ↦ false
      | true ↦ elim o as (λ z. Bool) [
        | None ↦ false
        | Some stop ↦ elim stop as (λ z. Bool) [ None ↦ is_at Phase2_read m | Some why ↦ is_ahead why ]
      ]
    ]) ≡ false
concluded_none m o false is = refl
concluded_none m o true is = absurd (not_both true refl is)

concludes_none : (g : Layout) (m : Submitted) (ms : List Submitted) → is_phase_read m ≡ false → concludes g m ms ≡ false
concludes_none g m ms other = concluded_none m (stop_in g m ms) (is_heeded m && is_phase_read m) (and_false (is_heeded m) (is_phase_read m) other)

concludes_marked : (g : Layout) (es : Trace) (e : Entry) (n : ℕ) (w : Answer) (m : Submitted) (ms : List Submitted) → AllRead (m ∷ ms) → AllTold ms
    → concludes g (answered_in es e n w m) (map (answered_in es e n w) ms) ≡ concludes g m ms
concludes_marked g es e n w m ms read told = by (told_or_not es e n w m ms read) where
  by : (answered_in es e n w m ≡ m) ⊎ (is_phase_read m ≡ false) → concludes g (answered_in es e n w m) (map (answered_in es e n w) ms) ≡ concludes g m ms
  by (inl is) = ap (λ k. concludes g k (map (answered_in es e n w) ms)) is ∙ ap (λ ds. concludes g m ds) (told_same es e n w ms told)
  by (inr other) =
      concludes_none g (answered_in es e n w m) (map (answered_in es e n w) ms) (kind_marked es e n w m ∙ other) ∙ sym (concludes_none g m ms other)

abbrev after_by : Option Block → Bool → Bool → Option ℕ → Option ℕ
after_by o writes ends before =
    elim o as (λ z. Option ℕ) [
      | Some b ↦ elim writes as (λ z. Option ℕ) [ true ↦ Some b.lver | false ↦ option_and_then (λ n. choose (b.lver == n) n) before ]
      | None ↦ elim ends as (λ z. Option ℕ) [ true ↦ None | false ↦ before ]
    ]

pub open_marked : (g : Layout) (es : Trace) (e : Entry) (n : ℕ) (w : Answer) (ms : List Submitted) → AllRead ms → InTurn ms → open_ballot g (map (answered_in es e n w) ms) ≡ open_ballot g ms
open_marked g es e n w [] read turn = refl
open_marked g es e n w (m ∷ ms) read turn =
    let d : Submitted = answered_in es e n w m in
    let ds : List Submitted = map (answered_in es e n w) ms in
    ap (λ o. after_by o (is_at Phase2_write d) (concludes g d ds) (open_ballot g ds)) (block_marked es e n w m)
    ∙ (ap (λ b. after_by (block_written m) b (concludes g d ds) (open_ballot g ds)) (kind_same Phase2_write es e n w m)
    ∙ (ap (λ b. after_by (block_written m) (is_at Phase2_write m) b (open_ballot g ds)) (concludes_marked g es e n w m ms read turn.0)
    ∙ ap (λ o. after_by (block_written m) (is_at Phase2_write m) (concludes g m ms) o) (open_marked g es e n w ms (rest_read m ms read) turn.1)))

abbrev ended_by : Layout → Submitted → List Submitted → Bool → Option (ℕ × Owner)
ended_by g m ms reads =
    elim reads as (λ z. Option (ℕ × Owner)) [
      | false ↦ None
      | true ↦ option_and_then (λ own. option_and_then (λ blocks. value_in_end own (stop_of own blocks)) (blocks_given g m ms)) (block_submitted ms)
    ]

ended_same : (g : Layout) (es : Trace) (e : Entry) (n : ℕ) (w : Answer) (m : Submitted) (ms : List Submitted) → AllRead (m ∷ ms) → AllTold ms
    → ended_ballot g (answered_in es e n w m) (map (answered_in es e n w) ms) ≡ ended_ballot g m ms
ended_same g es e n w m ms read told = by (told_or_not es e n w m ms read) where
  by : (answered_in es e n w m ≡ m) ⊎ (is_phase_read m ≡ false) → ended_ballot g (answered_in es e n w m) (map (answered_in es e n w) ms) ≡ ended_ballot g m ms
  by (inl is) = ap (λ k. ended_ballot g k (map (answered_in es e n w) ms)) is ∙ ap (λ ds. ended_ballot g m ds) (told_same es e n w ms told)
  by (inr other) =
      let none : is_at Phase2_read m ≡ false = (or_parts (is_at Phase1_read m) (is_at Phase2_read m) other).1 in
      ap (λ b. ended_by g (answered_in es e n w m) (map (answered_in es e n w) ms) b) (kind_same Phase2_read es e n w m ∙ none)
      ∙ sym (ap (λ b. ended_by g m ms b) none)

pub ended_marked : (g : Layout) (es : Trace) (e : Entry) (n : ℕ) (w : Answer) (ms : List Submitted) → AllRead ms → InTurn ms → ended_ballots g (map (answered_in es e n w) ms) ≡ ended_ballots g ms
ended_marked g es e n w [] read turn = refl
ended_marked g es e n w (m ∷ ms) read turn =
    let ds : List Submitted = map (answered_in es e n w) ms in
    ap (λ (o : Option (ℕ × Owner)). elim o as (λ z. List (ℕ × Owner)) [ None ↦ ended_ballots g ds | Some p ↦ p ∷ ended_ballots g ds ]) (ended_same g es e n w m ms read turn.0)
    ∙ ap (λ ps. elim (ended_ballot g m ms) as (λ z. List (ℕ × Owner)) [ None ↦ ps | Some p ↦ p ∷ ps ]) (ended_marked g es e n w ms (rest_read m ms read) turn.1)

ballot_read : (m : Submitted) → is_phase_read m ≡ true → is_ballot_call m ≡ true
ballot_read m is = by (is_at Area_read m) (is_at Phase1_write m) (is_at Phase1_read m) (is_at Phase2_write m) (is_at Phase2_read m) is where
  by : (a b c d e : Bool) → (c || e) ≡ true → (a || (b || (c || (d || e)))) ≡ true
  by true b c d e h = refl
  by false true c d e h = refl
  by false false true d e h = refl
  by false false false true e h = refl
  by false false false false e h = h

-- Each call is told, and none of them is a step of a ballot.
pub stands_marked : (st : Setting) (t u : Trace) (now : Option ℕ) (s : Session) (at : Spot) (n : ℕ) (es : Trace) (e : Entry) (k : ℕ) (w : Answer) → (h : StandsExclusive st t None s at n)
    → InTurn (lease_calls st t s at) → lease_calls st u s at ≡ map (answered_in es e k w) (lease_calls st t s at) → generation_of u s ≡ generation_of t s
    → ((j h : ℕ) → counted_over st t s j h ≡ true → counted_over st u s j h ≡ true)
    → ((m : Submitted) → Contains (lease_calls st t s at) m → IsOpen u now (answered_in es e k w m) → m.answer ≡ None) → StandsExclusive st u now s at n
stands_marked st t u now s at n es e k w h turn more generation counted opens =
    stands_on st t u None now s at n (record {
      generation = generation;
      counted = counted;
      answered = λ d a there is.
          subst (λ ms. Contains ms d) (sym more)
          (subst (λ c. Contains (map (answered_in es e k w) (lease_calls st t s at)) c) (is_same es e k w d a is) (contains_map (answered_in es e k w) (lease_calls st t s at) d there));
      aged = λ newer older was split.
          became_among 0 newer older was (lease_calls st u s at)
          (subst (λ ms. AllAged 0 ms (lease_calls st u s at)) split (subst (λ ms. AllAged 0 (lease_calls st t s at) ms) (sym more) (aged_marked es e k w (lease_calls st t s at))));
      written = λ d b there writes. written_by d b (in_map (answered_in es e k w) (lease_calls st t s at) d (subst (λ ms. Contains ms d) more there));
      not_freed = subst (λ ms. freed ms < n) (sym more) (subst (λ f. f < n) (sym (freed_marked es e k w (lease_calls st t s at))) h.not_freed);
      last = λ b known under. (b, ap (λ ms. block_submitted ms) more ∙ (submitted_marked es e k w (lease_calls st t s at) ∙ known), under, refl);
      concluded = ap (λ ms. open_ballot st.layout ms) more ∙ (open_marked st.layout es e k w (lease_calls st t s at) read turn ∙ h.concluded);
      won = λ p there. subst (λ ps. Contains ps p) (sym ended) there;
      no_more = λ p there. subst (λ ps. Contains ps p) ended there;
      idle = λ m there open_now. idle_by m open_now (in_map (answered_in es e k w) (lease_calls st t s at) m (subst (λ ms. Contains ms m) more there));
    }) h where
      answered_by : (d : Submitted) → Contains (lease_calls st t s at) d → is_phase_read d ≡ true → (o : Option Answered) → d.answer ≡ o → (a : Answered) × (d.answer ≡ Some a)
      answered_by d there reads (Some a) is = (a, is)
      answered_by d there reads None is = absurd (not_both (is_ballot_call d) (ballot_read d reads) (h.idle d there (inl is)))

      read : AllRead (lease_calls st t s at)
      read d there reads = answered_by d there reads d.answer refl

      ended : ended_ballots st.layout (lease_calls st u s at) ≡ ended_ballots st.layout (lease_calls st t s at)
      ended = ap (λ ms. ended_ballots st.layout ms) more ∙ ended_marked st.layout es e k w (lease_calls st t s at) read turn

      written_by : (d : Submitted) (b : Block) → (x : Submitted) × Contains (lease_calls st t s at) x × (answered_in es e k w x ≡ d) → WasWritten st t s at d b
      written_by d b x = inl (x.0, x.1, sym (same_answered es e k w x.0).call ∙ ap (λ (y : Submitted). y.call) x.2)

      idle_by : (m : Submitted) → IsOpen u now m → (x : Submitted) × Contains (lease_calls st t s at) x × (answered_in es e k w x ≡ m) → is_ballot_call m ≡ false
      idle_by m open_now x =
          let none : x.0.answer ≡ None = opens x.0 x.1 (subst (λ y. IsOpen u now y) (sym x.2) open_now) in
          ap (λ y. is_ballot_call y) (sym x.2)
          ∙ (ap (λ c. is_ballot_call (record { at = 0; reading = 0; call = c; answer = None })) (same_answered es e k w x.0).call ∙ h.idle x.0 x.1 (inl none))
