-- A step's effects as a world asks them: by the laws of the trace that the step leaves.
use Rattle.sl_world_state.specs.Daemons.{IsSoundCall, IsSoundOp}
use Rattle.sl_due.specs.Due.{IsHostTrace, due}
use Rattle.sl_run.specs.Refusals.{sectors_of as sectors_had}
use Rattle.sl_step_law.proofs.CallsAreStanding.{traces_stand}
use Rattle.sl_due_law.proofs.LawfulTraces.CallsAreLawful.{new_inside}
use Rattle.sl_due_law.proofs.LawfulTraces.TracesHold.{traces_hold, traces_are_lawful}
use Rattle.sl_host_law.specs.Steps.StepFunction.{effects_of}
use Rattle.sl_host_law.specs.Steps.StepsFollow.{entry_at}
use Rattle.sl_host_state.specs.KeptState.{HostState}
use Rattle.sl_host_state.specs.HostStands.{sectors_of}
use Rattle.sl_run.specs.Lawful.{Lawful}
use Rattle.sl_words.proofs.Lists.{tail_is}
use Rattle.sl_sector.specs.Records.{IsRecord}
use Rattle.sl_sector.specs.declared.sector.Rec.{Rec}
use Rattle.sl_step_law.proofs.CallsAsk.{trace_asks, traces_ask}
use Rattle.sl_step_law.proofs.AnswersAreKnown.{sector_size}
use Rattle.sl_step_law.proofs.StepsAreTaken.{steps_are_taken}
use Rattle.sl_step_law.specs.SectorsAsked.{sectors_asked}
use Rattle.sl_step_law.specs.SoundEffects.{EffectsAreSound}
use Rattle.sl_step_law.specs.StepsAreTaken.{MayCome}
use Rattle.sl_area.specs.AreaSizes.{Layout}
use Rattle.sl_area.specs.AreaLayout.{block_sectors}
use Rattle.sl_due_facts.specs.Facts.WayFacts.{sectors_of_read}
use Rattle.sl_trace.specs.LeaseDecisions.{first_step, read_of_step}
use Rattle.sl_trace.specs.Traces.{Child, Setting, Trace, child_after, children, first_child, mark, new_call, new_child, next_call, next_child, record_of, submitted}
use Rattle.sl_trace.specs.declared.effects.Call.{Call}
use Rattle.sl_trace.specs.declared.effects.Effects.{Effects}
use Rattle.sl_trace.specs.declared.effects.JoinStep.TheVariants.{ClaimWrite, DecidingRead, FirstRead, FirstRenewal, VerifyRead, WatchRead}
use Rattle.sl_trace.specs.declared.effects.LeaseRead.TheVariants.{OfArea, OfBlock, OfFree, OfPhase1, OfPhase2}
use Rattle.sl_trace.specs.declared.effects.LeaseRead.{LeaseRead}
use Rattle.sl_trace.specs.declared.effects.Op.TheVariants.{ReadSectors, WriteRecord}
use Rattle.sl_trace.specs.declared.effects.Op.{Op}
use Rattle.sl_trace.specs.declared.effects.Purpose.TheVariants.{Joining, Lease, Leaving, Renewal, RequestRead, RequestWrite, SeeRequest, Survey, ValueRead, ValueWrite}
use Rattle.sl_trace.specs.declared.effects.Purpose.{Purpose}
use Rattle.sl_trace.specs.declared.effects.Start.{Start}
use Rattle.sl_trace.specs.declared.input.Input.{Input}
use Rattle.sl_words.proofs.CaseLaws.{none_some, some_value}
use Rattle.std.proofs.Common.{ap, ap₂, arith, refl, suc, subst, sym, ◌∙◌}
use Rattle.std.proofs.lemmas.List.{length-append, length-map, map-append}
use Rattle.std.specs.List.{range_with_len}
use Rattle.std.specs.Prelude.{Bool, Contains, List, None, Option, Some, false, length, map, option_map, true, [], ℕ, ◌++◌, ◌%◌, ◌*◌, ◌+◌, ◌∷◌, ◌≡◌, ◌≤◌}

-- ---- plain facts

-- The last of numbers in order are in order.
last_range : (xs ys : List ℕ) (a : ℕ) → xs ++ ys ≡ range_with_len a (length xs + length ys) → ys ≡ range_with_len (a + length xs) (length ys)
last_range [] ys a is = is ∙ ap₂ (λ m n. range_with_len m n) (none a) (front (length ys)) where
  none : (a : ℕ) → a ≡ a + 0
  none a = omega arith

  front : (n : ℕ) → 0 + n ≡ n
  front n = omega arith
last_range (x ∷ xs) ys a is =
    last_range xs ys (a + 1) (tail_is x a (xs ++ ys) (range_with_len (a + 1) (length xs + length ys)) (is ∙ ap (range_with_len a) (more (length xs) (length ys))))
    ∙ ap (λ n. range_with_len n (length ys)) (along a (length xs)) where
      more : (m n : ℕ) → suc m + n ≡ suc (m + n)
      more m n = omega arith

      along : (a n : ℕ) → a + 1 + n ≡ a + suc n
      along a n = omega arith

new_numbers : (ss : List Start) → map (λ (k : Child). k.process) (map new_child ss) ≡ map (λ s. s.process) ss
new_numbers [] = refl
new_numbers (s ∷ ss) = ap (λ ns. s.process ∷ ns) (new_numbers ss)

some_one : (n : ℕ) → Some 1 ≡ Some n → 1 ≤ n
some_one n is = subst (λ k. 1 ≤ k) (some_value 1 n is) (omega arith)

-- All blocks have some sectors, and a read of the area has two more.
blocks_some : (g : Layout) → 1 ≤ g.hosts → 1 ≤ block_sectors g
blocks_some g some = by g.paired where
  by : (paired : Bool) → 1 ≤ elim paired as (λ z. ℕ) [ false ↦ g.hosts | true ↦ 2 * g.hosts ]
  by false = some
  by true = twice g.hosts some where
    twice : (n : ℕ) → 1 ≤ n → 1 ≤ 2 * n
    twice n few = omega (arith, few)

read_some : (g : Layout) (read : LeaseRead) → 1 ≤ g.hosts → 1 ≤ sectors_of_read g read
read_some g (OfArea name) some = omega arith
read_some g OfFree some = omega arith
read_some g OfBlock some = blocks_some g some
read_some g OfPhase1 some = blocks_some g some
read_some g OfPhase2 some = blocks_some g some

lease_some : (g : Layout) (o : Option LeaseRead) (n : ℕ) → 1 ≤ g.hosts → option_map (sectors_of_read g) o ≡ Some n → 1 ≤ n
lease_some g None n some is = absurd (none_some n is)
lease_some g (Some read) n some is = subst (λ k. 1 ≤ k) (some_value (sectors_of_read g read) n is) (read_some g read some)

reads_some : (g : Layout) (p : Purpose) (n : ℕ) → 1 ≤ g.hosts → sectors_asked g p ≡ Some n → 1 ≤ n
reads_some g (Joining j FirstRead) n some is = some_one n is
reads_some g (Joining j WatchRead) n some is = some_one n is
reads_some g (Joining j DecidingRead) n some is = some_one n is
reads_some g (Joining j ClaimWrite) n some is = absurd (none_some n is)
reads_some g (Joining j VerifyRead) n some is = some_one n is
reads_some g (Joining j FirstRenewal) n some is = absurd (none_some n is)
reads_some g Renewal n some is = absurd (none_some n is)
reads_some g Survey n some is = subst (λ k. 1 ≤ k) (some_value g.hosts n is) some
reads_some g (Leaving j) n some is = absurd (none_some n is)
reads_some g (Lease work step) n some is = lease_some g (read_of_step (first_step step)) n some is
reads_some g (RequestRead j) n some is = subst (λ k. 1 ≤ k) (some_value 2 n is) (omega arith)
reads_some g (RequestWrite j owner) n some is = absurd (none_some n is)
reads_some g SeeRequest n some is = some_one n is
reads_some g (ValueWrite j) n some is = absurd (none_some n is)
reads_some g (ValueRead j) n some is = some_one n is

-- ---- a step

module _ (now : ℕ) (i : Input) (h : HostState) (st : Setting) (es : Trace) (comes : MayCome now i h st es) where
  same : due st es now i ≡ effects_of now i h
  same = sym (steps_are_taken.effects now i h st es comes)

  trace : IsHostTrace st (entry_at st es now i ∷ es)
  trace = (steps_are_taken.stands now i h st es comes).past

  lawful : Lawful st (entry_at st es now i ∷ es)
  lawful = traces_are_lawful st (entry_at st es now i ∷ es) comes.0.setting trace

  calls : map (λ c. c.number) (effects_of now i h).calls ≡ range_with_len (next_call st es) (length (effects_of now i h).calls)
  calls = subst (λ (fx : Effects). map (λ c. c.number) fx.calls ≡ range_with_len (next_call st es) (length fx.calls)) same comes.0.follows.numbered

  started : (fx : Effects) → map (λ k. k.process) (children (record { reading = now; input = i; effects = fx } ∷ es)) ≡ range_with_len first_child (length (children (record { reading = now; input = i; effects = fx } ∷ es)))
      → map (λ s. s.process) fx.starts ≡ range_with_len (next_child es) (length fx.starts)
  started fx counted =
      let old : List Child = map (child_after i) (children es) in
      let new : List Child = map new_child fx.starts in
      let xs : List ℕ = map (λ (k : Child). k.process) old in
      let ys : List ℕ = map (λ (k : Child). k.process) new in
      let both : xs ++ ys ≡ range_with_len first_child (length xs + length ys) =
      sym (map-append (λ (k : Child). k.process) old new) ∙ counted
      ∙ ap (range_with_len first_child) (length-append old new ∙ ap₂ (λ m n. m + n) (sym (length-map old (λ (k : Child). k.process))) (sym (length-map new (λ (k : Child). k.process))))
      in
      let olds : length xs ≡ length (children es) = length-map old (λ (k : Child). k.process) ∙ length-map (children es) (child_after i) in
      let news : length ys ≡ length fx.starts = length-map new (λ (k : Child). k.process) ∙ length-map fx.starts new_child in
      sym (new_numbers fx.starts) ∙ last_range xs ys first_child both ∙ ap₂ (λ m n. range_with_len (first_child + m) n) olds news

  starts : map (λ s. s.process) (effects_of now i h).starts ≡ range_with_len (next_child es) (length (effects_of now i h).starts)
  starts =
      subst (λ (fx : Effects). map (λ s. s.process) fx.starts ≡ range_with_len (next_child es) (length fx.starts)) same
      (started (due st es now i) (steps_are_taken.stands now i h st es comes).keeps.counted)

  module _ (c : Call) (there : Contains (effects_of now i h).calls c) where
    made : Contains (due st es now i).calls c
    made = subst (λ (fx : Effects). Contains fx.calls c) (sym same) there

    inside : Contains (submitted (entry_at st es now i ∷ es)) (new_call (length es) now c)
    inside = new_inside (length es) now (due st es now i).calls (mark es (entry_at st es now i) i (submitted es)) c made

    asks : sectors_of c.op ≡ sectors_asked st.layout c.purpose
    asks =
        trace_asks st (entry_at st es now i ∷ es) (new_call (length es) now c) lawful.orderly (traces_ask st (entry_at st es now i ∷ es) trace) inside
        ((traces_hold st (entry_at st es now i ∷ es) comes.0.setting trace).whole.facts.calls.owned (new_call (length es) now c) inside)

    reads : (n : ℕ) → c.op ≡ ReadSectors n → 1 ≤ n
    reads n is =
        let g = comes.0.setting.layout in
        let hosts : 1 ≤ st.layout.hosts = subst (λ (l : Layout). 1 ≤ l.hosts) (sym g.2) (sector_size g.0 g.1).1 in
        reads_some st.layout c.purpose n hosts (sym asks ∙ ap sectors_of is)

    writes : (r : Rec) → c.op ≡ WriteRecord r → IsRecord r
    writes r is = lawful.orderly.calls.0.spelled c r made (ap record_of is)

    whole : c.offset % st.layout.sector ≡ 0
    whole = ((traces_stand st (entry_at st es now i ∷ es) comes.0.setting trace).0 c made).whole

    sound : IsSoundCall st.layout.sector c
    sound = record { some = some_by c.op refl; whole = whole; op = op_by c.op refl } where
      some_by : (o : Op) → c.op ≡ o → 1 ≤ sectors_had o
      some_by (ReadSectors n) is = reads n is
      some_by (WriteRecord r) is = omega arith

      op_by : (o : Op) → c.op ≡ o → IsSoundOp o
      op_by (ReadSectors n) is = tt
      op_by (WriteRecord r) is = writes r is

pub effects_are_sound : EffectsAreSound
effects_are_sound =
    record {
      calls = calls;
      starts = starts;
      asks = λ now i h st es c comes there. asks now i h st es comes c there;
      reads = λ now i h st es c n comes there is. reads now i h st es comes c there n is;
      writes = λ now i h st es c r comes there is. writes now i h st es comes c there r is;
      whole = λ now i h st es c comes there. whole now i h st es comes c there;
      sound = λ now i h st es c comes there. sound now i h st es comes c there;
    }
