-- What a read of all ids shows is acted on.
use Rattle.sl_host_answers.specs.Facts.{SurveyKnown}
use Rattle.sl_host_answers.specs.Surveys.{acting, member_shown, reading_asked, shown_of, spots_of, stopping_by}
use Rattle.sl_host_answers.specs.declared.surveys.Shown.{Shown}
use Rattle.sl_host_law.specs.Answers.Surveys.{is_asked_by, reading_requests, recovering_by_read, surveyed_in}
use Rattle.sl_host_law.specs.StepParts.Refusals.{signalling_and_refusing}
use Rattle.sl_host_law.specs.StepParts.Signals.{over, sending}
use Rattle.sl_host_law.specs.Questions.Members.{begins_by_read_in}
use Rattle.sl_host_law.specs.Steps.Passes.{at_member, member_numbered}
use Rattle.sl_host_state.specs.StepQuestions.{stopper_in}
use Rattle.sl_host_state.specs.KeptState.{HostKept, HostState, LeaseState, Made, MemberState}
use Rattle.sl_host_state.specs.MadeEffects.{with_reply, with_signal, with_start}
use Rattle.sl_host_state.specs.declared.kept_parts.JobState.{JobState}
use Rattle.sl_host_work.proofs.HoldersFew.{holders_are_few}
use Rattle.sl_host_work.proofs.RefusalsStand.{stopping_is}
use Rattle.sl_host_work.specs.Holders.{holders_under, signalling_all}
use Rattle.sl_host_work.specs.SectorPlaces.{IsArea}
use Rattle.sl_host_work.specs.Stops.{stopped_of, stopping, stopping_cost}
use Rattle.sl_host_work.specs.declared.recoveries.Stopped.{Stopped}
use Rattle.sl_trace.specs.Traces.{first_child}
use Rattle.sl_trace.specs.declared.effects.Grant.{Grant}
use Rattle.sl_trace.specs.declared.effects.Signal.TheVariants.{Kill, Term}
use Rattle.sl_trace.specs.declared.effects.Signal.{Signal}
use Rattle.sl_trace.specs.declared.reply.Reply.TheVariants.{Recovering}
use Rattle.sl_host.proofs.PassNotes.{chosen_few, front_all, front_more}
use Rattle.sl_host.specs.ChosenJobs.{chosen_among}
use Rattle.sl_host.specs.declared.passes.Chosen.TheVariants.{OfLockspace}
use Rattle.sl_words.proofs.CaseLaws.{some_value}
use Rattle.sl_words.specs.Bounds.{moments}
use Rattle.sl_words.specs.Words.{choose}
use Rattle.std.proofs.Common.{ap, arith, refl, subst, sym, ◌∙◌}
use Rattle.std.specs.Prelude.{Bool, Contains, List, None, Option, Some, [], cond, false, length, map, slice_get, take, true, ℕ, ◌+◌, ◌++◌, ◌<◌, ◌∷◌, ◌≡◌, ◌≤◌}

-- ---- areas that are noted

map_end : {A B : Type 0} (f : A → B) (xs : List A) (x : A) → map f (xs ++ x ∷ []) ≡ map f xs ++ f x ∷ []
map_end f [] x = refl
map_end f (y ∷ xs) x = ap (λ zs. f y ∷ zs) (map_end f xs x)

pub spots_more : (ls : List LeaseState) (k : ℕ) (l : LeaseState) → slice_get ls k ≡ Some l → map (λ l. l.spot) (take k ls) ++ l.spot ∷ [] ≡ map (λ l. l.spot) (take (k + 1) ls)
spots_more ls k l at = sym (ap (λ xs. map (λ l. l.spot) xs) (front_more ls k l at) ∙ map_end (λ (l : LeaseState). l.spot) (take k ls) l)

pub spots_all : (ls : List LeaseState) → map (λ l. l.spot) (take (length ls) ls) ≡ map (λ l. l.spot) ls
spots_all ls = ap (λ xs. map (λ l. l.spot) xs) (front_all ls)

-- ---- who holds stays

over_held : {A : Type 0} (f : A → HostState → HostState) → ((x : A) (h : HostState) → (f x h).holdings ≡ h.holdings) → (xs : List A) (h : HostState) → (over xs f h).holdings ≡ h.holdings
over_held f stays [] h = refl
over_held f stays (x ∷ xs) h = over_held f stays xs (f x h) ∙ stays x h

told_held : (p : ℕ) (h : HostState) (o : Option (List ℕ))
    → (elim o as (λ z. HostState) [ None ↦ with_signal p Term h | Some program ↦ with_start (record { process = first_child + h.started; program = program; job = None; stands_for = Some p }) h ]).holdings ≡ h.holdings
told_held p h None = refl
told_held p h (Some program) = refl

sent_held : (s : Signal) (p : ℕ) (h : HostState) → (sending p s h).holdings ≡ h.holdings
sent_held Term p h = told_held p h (stopper_in h p)
sent_held Kill p h = refl

pub stopped_held : (s : Stopped) (but : Option ℕ) (h : HostState) → (stopping s but h).holdings ≡ h.holdings
stopped_held s but h =
    let told : HostState = signalling_all Term s.session h in
    over_held (λ n. with_reply n (Recovering s.renewed)) (λ n g. refl) (chosen_among (OfLockspace s.lockspace but) told.jobs) told
    ∙ over_held (λ p. sending p Term) (λ p g. sent_held Term p g) (holders_under s.session h.holdings) h

pub known_still : (a b : HostKept) → b.config ≡ a.config → b.reading ≡ a.reading → b.holdings ≡ a.holdings → SurveyKnown a → SurveyKnown b
known_still a b config reading holdings known =
    record {
      timely = subst (λ n. n < moments) (sym reading) known.timely;
      based = λ g inside.
          let at : IsArea a.config.sizes g.offset = known.based g (subst (λ (gs : List Grant). Contains gs g) holdings inside) in
          subst (λ (c : Made). IsArea c.sizes g.offset) (sym config) at;
    }

-- ---- how many effects

chosen_all_few : (s : Stopped) (js : List JobState) → length (chosen_among (OfLockspace s.lockspace None) js) ≤ length js
chosen_all_few s js = subst (λ (zs : List JobState). length (chosen_among (OfLockspace s.lockspace None) zs) ≤ length js) (front_all js) (chosen_few (OfLockspace s.lockspace None) js (length js))

cost_few : (k : HostKept) (m : MemberState) (b : Bool) → stopping_cost k (choose b (stopped_of m)) ≤ length k.holdings + length k.jobs
cost_few k m true =
    let held = holders_are_few (m ∷ []) k.holdings (tt, tt) in
    let jobs = chosen_all_few (stopped_of m) k.jobs in
    omega (arith, held, jobs)
cost_few k m false = omega arith

cost_of : (k : HostKept) (h : HostState) (bytes : List ℕ) (s : Shown) (o : Option MemberState) → Some s ≡ member_shown h bytes o → stopping_cost k s.stopped ≤ length k.holdings + length k.jobs
cost_of k h bytes s None is = absurd cc
cost_of k h bytes s (Some m) is = by m.joined is
  where
    by : (b : Bool) → Some s ≡ choose b (shown_of h bytes m) → stopping_cost k s.stopped ≤ length k.holdings + length k.jobs
    by true found = subst (λ (z : Shown). stopping_cost k z.stopped ≤ length k.holdings + length k.jobs) (sym (some_value s (shown_of h bytes m) found)) (cost_few k m (begins_by_read_in h m.renewing.recovery))
    by false found = absurd cc

pub shown_few : (k : HostKept) (h : HostState) (bytes : List ℕ) (s : Shown) (o : Option MemberState) → Some s ≡ member_shown h bytes o → stopping_cost k s.stopped ≤ length k.holdings + length k.jobs
shown_few k h bytes s o is = cost_of k h bytes s o is

-- ---- all of it

stops : (m : MemberState) (b : Bool) (h : HostState) → stopping_by (choose b (stopped_of m)) h ≡ cond b (signalling_and_refusing m None h) h
stops m true h = stopping_is m None h
stops m false h = refl

asks : (m : MemberState) (b : Bool) (h : HostState) → reading_asked (choose b m.who) (spots_of (Some m)) h ≡ cond b (reading_requests m h) h
asks m true h = refl
asks m false h = refl

acts : (m : MemberState) (bytes : List ℕ) (h : HostState) (b : Bool)
    → acting (choose b (shown_of h bytes m)) (spots_of (Some m)) h
    ≡ cond b (cond (is_asked_by h.config.layout m.who bytes) (reading_requests m (recovering_by_read m h)) (recovering_by_read m h)) h
acts m bytes h true =
    ap (reading_asked (choose (is_asked_by h.config.layout m.who bytes) m.who) (spots_of (Some m))) (stops m (begins_by_read_in h m.renewing.recovery) h)
    ∙ asks m (is_asked_by h.config.layout m.who bytes) (recovering_by_read m h)
acts m bytes h false = refl

abbrev at_found : Option MemberState → List ℕ → HostState → HostState
at_found o bytes h = elim o as (λ z. HostState) [ None ↦ h | Some m ↦ surveyed_in m bytes h ]

acted : (o : Option MemberState) (bytes : List ℕ) (h : HostState) → acting (member_shown h bytes o) (spots_of o) h ≡ at_found o bytes h
acted None bytes h = refl
acted (Some m) bytes h = acts m bytes h m.joined

-- Of the member of a number.
pub surveyed : (n : ℕ) (bytes : List ℕ) (h : HostState) → acting (member_shown h bytes (member_numbered h n)) (spots_of (member_numbered h n)) h ≡ at_member n (λ m. surveyed_in m bytes) h
surveyed n bytes h = acted (member_numbered h n) bytes h
