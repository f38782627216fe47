-- Ways stay: as more works have their aims and more hosts count as over, by the answer of the newest call, and by one more call.
use Rattle.sl_area.specs.AreaSizes.{Layout}
use Rattle.sl_trace.specs.declared.lease.Aim.{Aim}
use Rattle.sl_sector.specs.declared.sector.Owner.{Owner}
use Rattle.sl_due_facts.specs.Facts.WayFacts.{After_mode, After_take, CallWay, FreeReason, In_conversion, In_release, In_settling, ModeReason, PurposeWay, StepWay, WayContext, Ways}
use Rattle.sl_trace.specs.Traces.{Submitted, Trace, answer_of, answered_in}
use Rattle.sl_trace.specs.declared.effects.Call.{Call}
use Rattle.sl_trace.specs.declared.effects.Entry.{Entry}
use Rattle.sl_trace.specs.declared.effects.LeaseStep.TheVariants.{ClearMode, FreeLeader, Phase1Read, Phase1Write, Phase2Read, Phase2Write, ReadAgain, ReadArea, ReadBeforeBlock, ReadBeforeFree, SetMode, TakeLeader}
use Rattle.sl_trace.specs.declared.effects.LeaseStep.{LeaseStep}
use Rattle.sl_trace.specs.declared.effects.Purpose.TheVariants.{Joining, Lease, Leaving, Renewal, RequestRead, RequestWrite, SeeRequest, Survey, ValueRead, ValueWrite}
use Rattle.sl_trace.specs.declared.effects.Purpose.{Purpose}
use Rattle.sl_trace.specs.declared.effects.Work.{Work}
use Rattle.sl_trace.specs.declared.input.Answer.{Answer}
use Rattle.sl_words.proofs.Lists.{contains_first, contains_more}
use Rattle.sl_words.proofs.Options.{some_there}
use Rattle.std.proofs.Common.{ap, refl, subst, sym, ◌∙◌}
use Rattle.std.specs.Option.{option_or}
use Rattle.std.specs.Prelude.{Bool, Contains, List, Option, Some, [], false, is_some, map, true, ℕ, ◌==◌, ◌∷◌, ◌≡◌}

-- ---- more is known beside the calls

abbrev context_with : Layout → List ℕ → Owner → (Work → Option Aim) → (ℕ → ℕ → Bool) → WayContext
context_with g l o aims over = record { layout = g; lockspace = l; self = o; aims = aims; over = over }

-- What a session's context may become.
pub record Grows (v w : WayContext) : Type 0 where
  pub layout : v.layout ≡ w.layout
  pub lockspace : v.lockspace ≡ w.lockspace
  pub self : v.self ≡ w.self
  pub aims : (work : Work) (aim : Aim) → v.aims work ≡ Some aim → w.aims work ≡ Some aim
  pub over : (a b : ℕ) → v.over a b ≡ true → w.over a b ≡ true

record More (aims more : Work → Option Aim) (over further : ℕ → ℕ → Bool) : Type 0 where
  aimed : (work : Work) (aim : Aim) → aims work ≡ Some aim → more work ≡ Some aim
  counted : (a b : ℕ) → over a b ≡ true → further a b ≡ true

mode_reason : (g : Layout) (l : List ℕ) (o : Owner) (aims more : Work → Option Aim) (over further : ℕ → ℕ → Bool) → More aims more over further → (work : Work) (at : ℕ) (own : _) (ms : List Submitted)
    → ModeReason (context_with g l o aims over) work at own ms → ModeReason (context_with g l o more further) work at own ms
mode_reason g l o aims more over further h work at own ms (After_take after is done lver) = After_take after (h.aimed work _ is) done lver
mode_reason g l o aims more over further h work at own ms (In_conversion is) = In_conversion (h.aimed work _ is)

free_reason : (g : Layout) (l : List ℕ) (o : Owner) (aims more : Work → Option Aim) (over further : ℕ → ℕ → Bool) → More aims more over further → (work : Work) (at n : ℕ) (ms : List Submitted)
    → FreeReason (context_with g l o aims over) work at n ms → FreeReason (context_with g l o more further) work at n ms
free_reason g l o aims more over further h work at n ms (After_mode after is done lver) = After_mode after (h.aimed work _ is) done lver
free_reason g l o aims more over further h work at n ms (In_release is) = In_release (h.aimed work _ is)
free_reason g l o aims more over further h work at n ms (In_settling is) = In_settling (h.aimed work _ is)

step_grows : (g : Layout) (l : List ℕ) (o : Owner) (aims more : Work → Option Aim) (over further : ℕ → ℕ → Bool) → More aims more over further → (work : Work) (at : ℕ) (c : Call) (ms : List Submitted) (step : LeaseStep)
    → StepWay (context_with g l o aims over) work at c ms step → StepWay (context_with g l o more further) work at c ms step
step_grows g l o aims more over further h work at c ms (ReadArea name) k = k
step_grows g l o aims more over further h work at c ms ReadBeforeBlock k = record { paired = k.paired; reads = k.reads; settles = h.aimed work _ k.settles }
step_grows g l o aims more over further h work at c ms (ReadAgain read) k =
    record { paired = k.paired; after = k.after; bytes = k.bytes; torn = k.torn; heeded = k.heeded; reads = k.reads }
step_grows g l o aims more over further h work at c ms Phase1Write k =
    record {
      own = k.own;
      wrote = k.wrote;
      host = k.host;
      fresh = k.fresh;
      known = k.known;
      rises = k.rises;
      named = record { read = k.named.read; name = k.named.name; of_lease = k.named.of_lease; newer = k.named.newer; before = k.named.before; split = k.named.split; verified = k.named.verified };
    }
step_grows g l o aims more over further h work at c ms Phase1Read k = record { after = k.after; done = k.done; reads = k.reads }
step_grows g l o aims more over further h work at c ms Phase2Write k =
    record {
      after = k.after;
      own = k.own;
      known = k.known;
      blocks = k.blocks;
      given = k.given;
      clear = k.clear;
      shared = k.shared;
      mode_gen = k.mode_gen;
      wrote = k.wrote;
      aim = k.aim;
      aimed = h.aimed work k.aim k.aimed;
      alone = λ looks b there other shared. h.counted b.host b.mode_gen (k.alone looks b there other shared);
    }
step_grows g l o aims more over further h work at c ms Phase2Read k = record { after = k.after; done = k.done; reads = k.reads }
step_grows g l o aims more over further h work at c ms TakeLeader k =
    record { after = k.after; heeded = k.heeded; leader = k.leader; wrote = k.wrote; held = k.held; won = k.won }
step_grows g l o aims more over further h work at c ms SetMode k =
    record { own = k.own; known = k.known; wrote = k.wrote; why = mode_reason g l o aims more over further h work at k.own ms k.why }
step_grows g l o aims more over further h work at c ms FreeLeader k =
    record {
      leader = k.leader;
      wrote = k.wrote;
      free = k.free;
      won = k.won;
      concluded = k.concluded;
      why = free_reason g l o aims more over further h work at k.leader.lver ms k.why;
    }
step_grows g l o aims more over further h work at c ms ClearMode k = record { own = k.own; known = k.known; wrote = k.wrote }
step_grows g l o aims more over further h work at c ms ReadBeforeFree k = record { reads = k.reads; settles = h.aimed work _ k.settles; concluded = k.concluded }

purpose_grows : (g : Layout) (l : List ℕ) (o : Owner) (aims more : Work → Option Aim) (over further : ℕ → ℕ → Bool) → More aims more over further → (at : ℕ) (c : Call) (ms : List Submitted) (p : Purpose)
    → PurposeWay (context_with g l o aims over) at c ms p → PurposeWay (context_with g l o more further) at c ms p
purpose_grows g l o aims more over further h at c ms (Lease work step) k = step_grows g l o aims more over further h work at c ms step k
purpose_grows g l o aims more over further h at c ms (Joining j step) k = k
purpose_grows g l o aims more over further h at c ms Renewal k = k
purpose_grows g l o aims more over further h at c ms Survey k = k
purpose_grows g l o aims more over further h at c ms (Leaving j) k = k
purpose_grows g l o aims more over further h at c ms (RequestRead j) k = k
purpose_grows g l o aims more over further h at c ms (RequestWrite j owner) k = k
purpose_grows g l o aims more over further h at c ms SeeRequest k = k
purpose_grows g l o aims more over further h at c ms (ValueWrite j) k = k
purpose_grows g l o aims more over further h at c ms (ValueRead j) k = k

more_grows : (g : Layout) (l : List ℕ) (o : Owner) (aims more : Work → Option Aim) (over further : ℕ → ℕ → Bool) → More aims more over further → (ms : List Submitted)
    → Ways (context_with g l o aims over) ms → Ways (context_with g l o more further) ms
more_grows g l o aims more over further h [] k = tt
more_grows g l o aims more over further h (m ∷ ms) k = (
  record { way = purpose_grows g l o aims more over further h m.at m.call ms m.call.purpose k.0.way; answered = k.0.answered; above = k.0.above },
  more_grows g l o aims more over further h ms k.1,
)

pub ways_grow : (v w : WayContext) → Grows v w → (ms : List Submitted) → Ways v ms → Ways w ms
ways_grow v w h ms k =
    more_grows w.layout w.lockspace w.self v.aims w.aims v.over w.over (record { aimed = h.aims; counted = h.over }) ms
    (subst (λ o. Ways (context_with w.layout w.lockspace o v.aims v.over) ms) h.self
    (subst (λ l. Ways (context_with w.layout l v.self v.aims v.over) ms) h.lockspace (subst (λ g. Ways (context_with g v.lockspace v.self v.aims v.over) ms) h.layout k)))

pub way_grows : (v w : WayContext) → Grows v w → (at : ℕ) (c : Call) (ms : List Submitted) (p : Purpose) → PurposeWay v at c ms p → PurposeWay w at c ms p
way_grows v w h at c ms p k =
    purpose_grows w.layout w.lockspace w.self v.aims w.aims v.over w.over (record { aimed = h.aims; counted = h.over }) at c ms p
    (subst (λ o. PurposeWay (context_with w.layout w.lockspace o v.aims v.over) at c ms p) h.self
    (subst (λ l. PurposeWay (context_with w.layout l v.self v.aims v.over) at c ms p) h.lockspace (subst (λ g. PurposeWay (context_with g v.lockspace v.self v.aims v.over) at c ms p) h.layout k)))

-- ---- an answer

-- A call that has an answer keeps it.
answered_stays : (es : Trace) (e : Entry) (n : ℕ) (a : Answer) (m : Submitted) → is_some m.answer ≡ true → answered_in es e n a m ≡ m
answered_stays es e n a m is = by (m.call.number == n) where
  same : option_or m.answer (Some (answer_of es e a m.call)) ≡ m.answer
  same = let s = some_there m.answer is in ap (λ o. option_or o (Some (answer_of es e a m.call))) s.1 ∙ sym s.1

  by : (b : Bool) → elim b as (λ z. Submitted) [ false ↦ m | true ↦ record m { answer = option_or m.answer (Some (answer_of es e a m.call)) } ] ≡ m
  by false = refl
  by true = ap (λ o. let x : Submitted = m in record x { answer = o }) same

pub all_stay : (es : Trace) (e : Entry) (n : ℕ) (a : Answer) (ms : List Submitted) → ((d : Submitted) → Contains ms d → is_some d.answer ≡ true) → map (answered_in es e n a) ms ≡ ms
all_stay es e n a [] h = refl
all_stay es e n a (m ∷ ms) h =
    ap (λ z. z ∷ map (answered_in es e n a) ms) (answered_stays es e n a m (h m (contains_first m ms))) ∙ ap (λ zs. m ∷ zs) (all_stay es e n a ms (λ d there. h d (contains_more m ms d there)))

head_way : (w : WayContext) (es : Trace) (e : Entry) (n : ℕ) (a : Answer) (m : Submitted) (ms : List Submitted) → CallWay w m ms → CallWay w (answered_in es e n a m) ms
head_way w es e n a m ms h = by (m.call.number == n) where
  by : (b : Bool) → CallWay w (elim b as (λ z. Submitted) [ false ↦ m | true ↦ record m { answer = option_or m.answer (Some (answer_of es e a m.call)) } ]) ms
  by false = h
  by true = record { way = h.way; answered = h.answered; above = h.above }

-- An answer changes at most the newest call's.
pub ways_answered : (w : WayContext) (es : Trace) (e : Entry) (n : ℕ) (a : Answer) (ms : List Submitted) → Ways w ms → Ways w (map (answered_in es e n a) ms)
ways_answered w es e n a [] h = tt
ways_answered w es e n a (m ∷ ms) h =
    subst (λ zs. Ways w (answered_in es e n a m ∷ zs)) (sym (all_stay es e n a ms h.0.answered)) (head_way w es e n a m ms h.0, h.1)
