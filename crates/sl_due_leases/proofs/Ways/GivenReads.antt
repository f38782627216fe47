-- What a read of a lease gives: what its bytes spell, with pairs beside what is kept of the first answer where it is the second.
use Rattle.sl_due_facts.proofs.Acts.Pairs.GivenByReads.{bytes_at}
use Rattle.sl_area.specs.AreaSizes.{Layout}
use Rattle.sl_area.specs.Pairs.{BlocksRead, blocks_of, needs_again, pairs_kept, read_once}
use Rattle.sl_area.specs.TornLeader.{leader_read}
use Rattle.sl_area.specs.AreaLayout.{blocks_part, leader_of}
use Rattle.sl_due_facts.specs.Facts.WayFacts.{AgainWay, CallWay, PurposeWay, StepWay, WayContext, Ways}
use Rattle.sl_due_leases.proofs.Ways.WayStages.{is_at_in, is_first, step_way}
use Rattle.sl_words.proofs.Lists.{contains_cases, contains_none}
use Rattle.sl_sector.specs.declared.sector.Leader.{Leader}
use Rattle.sl_sector.specs.declared.sector.PairBlock.{PairBlock}
use Rattle.sl_trace.proofs.PlainReads.{leader_plain}
use Rattle.sl_trace.specs.LeaseDecisions.{asked_again, first_step, part_read, read_of_step}
use Rattle.sl_trace.specs.Leases.{Area_read, Read_before_free, blocks_bytes, blocks_given, first_kept, given_with, is_again, is_area_read, is_second, kept_before, leader_given, lease_step, read_given}
use Rattle.sl_trace.specs.Traces.{Submitted, gave}
use Rattle.sl_trace.specs.declared.effects.LeaseRead.TheVariants.{OfArea, OfBlock, OfFree, OfPhase1, OfPhase2}
use Rattle.sl_trace.specs.declared.effects.LeaseRead.{LeaseRead}
use Rattle.sl_trace.specs.declared.effects.LeaseStep.TheVariants.{ClearMode, FreeLeader, Phase1Read, Phase1Write, Phase2Read, Phase2Write, ReadAgain, ReadArea, ReadBeforeBlock, ReadBeforeFree, SetMode, TakeLeader}
use Rattle.sl_trace.specs.declared.effects.LeaseStep.{LeaseStep}
use Rattle.sl_trace.specs.declared.effects.Purpose.TheVariants.{Joining, Lease, Leaving, Renewal, RequestRead, RequestWrite, SeeRequest, Survey, ValueRead, ValueWrite}
use Rattle.sl_trace.specs.declared.effects.Purpose.{Purpose}
use Rattle.sl_trace.specs.declared.effects.Work.{Work}
use Rattle.sl_words.proofs.CaseLaws.{false_is_true, none_some, true_is_false}
use Rattle.sl_words.specs.Words.{choose, first_of_list, some_is}
use Rattle.std.proofs.Common.{ap, inl, inr, refl, subst, sym, ◌∙◌}
use Rattle.std.specs.Prelude.{Bool, Contains, List, None, Option, Some, [], false, is_some, not, option_and_then, option_map, true, unwrap_or, ℕ, ◌||◌, ◌∷◌, ◌≡◌}

-- ---- what is kept of a first read

-- Beside the second the first is kept.
pub kept_behind : (w : WayContext) (work : Work) (at : ℕ) (m : Submitted) (ms : List Submitted) (read : LeaseRead) → (h : AgainWay w work at m.call ms read) → kept_before w.layout ms ≡ Some (pairs_kept w.layout h.bytes)
kept_behind w work at m ms read h =
    ap (λ xs. option_map (pairs_kept w.layout) (option_and_then (blocks_bytes w.layout) (first_of_list xs))) h.after.before
    ∙ ap (λ o. option_map (pairs_kept w.layout) o) h.torn.0

pub kept_once : (l : Layout) (m : Submitted) (ms : List Submitted) → is_again m ≡ false → first_kept l (m ∷ ms) ≡ []
kept_once l m ms first = ap (λ b. elim b as (λ z. List (Option PairBlock)) [ false ↦ [] | true ↦ unwrap_or (kept_before l ms) [] ]) first

pub kept_twice : (l : Layout) (m : Submitted) (ms : List Submitted) (pairs : List (Option PairBlock)) → is_again m ≡ true → kept_before l ms ≡ Some pairs → first_kept l (m ∷ ms) ≡ pairs
kept_twice l m ms pairs again kept =
    ap (λ b. elim b as (λ z. List (Option PairBlock)) [ false ↦ [] | true ↦ unwrap_or (kept_before l ms) [] ]) again ∙ ap (λ o. unwrap_or o []) kept

-- ---- what a read gives

-- All blocks that a read which isn't made once more has heard.
abbrev pub heard_by_lease : Layout → Submitted → List Submitted → List ℕ → LeaseStep → BlocksRead
heard_by_lease l m ms bytes made = record { kept = first_kept l (m ∷ ms); last = part_read l bytes (first_step made) }

abbrev read_with : List (Option PairBlock) → List ℕ → Option BlocksRead
read_with kept last = Some (record { kept = kept; last = last })

once_given : (l : Layout) (m : Submitted) (ms : List Submitted) (part : List ℕ) → is_again m ≡ false → blocks_bytes l m ≡ Some part → needs_again l part ≡ false
    → read_given l m ms ≡ read_with (first_kept l (m ∷ ms)) part
once_given l m ms part first bytes enough =
    ap (λ b. given_with l b (kept_before l ms) (blocks_bytes l m)) first
    ∙ (ap (λ o. given_with l false (kept_before l ms) o) bytes
    ∙ (ap (λ b. choose (not b) (read_once part)) enough ∙ ap (λ ps. read_with ps part) (sym (kept_once l m ms first))))

twice_given : (l : Layout) (m : Submitted) (ms : List Submitted) (part : List ℕ) (pairs : List (Option PairBlock)) → is_again m ≡ true → blocks_bytes l m ≡ Some part → kept_before l ms ≡ Some pairs
    → read_given l m ms ≡ read_with (first_kept l (m ∷ ms)) part
twice_given l m ms part pairs again bytes kept =
    ap (λ b. given_with l b (kept_before l ms) (blocks_bytes l m)) again
    ∙ (ap (λ o. given_with l true o (blocks_bytes l m)) kept
    ∙ (ap (λ o. given_with l true (Some pairs) o) bytes ∙ ap (λ ps. read_with ps part) (sym (kept_twice l m ms pairs again kept))))

enough_by : (b : Bool) (read : LeaseRead) → elim b as (λ z. Option LeaseRead) [ false ↦ None | true ↦ Some read ] ≡ None → b ≡ false
enough_by false read is = refl
enough_by true read is = absurd (none_some read (sym is))

-- What a lease decides by is what its read gave.
pub given_heard : (w : WayContext) (m : Submitted) (ms : List Submitted) (work : Work) (made : LeaseStep) (bytes : List ℕ) → CallWay w m ms → m.call.purpose ≡ Lease work made → gave m ≡ Some bytes
    → is_some (read_of_step (first_step made)) ≡ true → asked_again w.layout bytes made ≡ None → read_given w.layout m ms ≡ Some (heard_by_lease w.layout m ms bytes made)
given_heard w m ms work made bytes h its is reads once = by made its reads once (bytes_at w.layout m work made bytes its reads is) where
  first : (step : LeaseStep) → m.call.purpose ≡ Lease work step → is_second step ≡ false → is_again m ≡ false
  first step at none = is_first m work step at none

  by : (step : LeaseStep) → m.call.purpose ≡ Lease work step → is_some (read_of_step (first_step step)) ≡ true → asked_again w.layout bytes step ≡ None
      → blocks_bytes w.layout m ≡ Some (part_read w.layout bytes (first_step step)) → read_given w.layout m ms ≡ Some (heard_by_lease w.layout m ms bytes step)
  by (ReadArea name) at reading enough given = once_given w.layout m ms (blocks_part w.layout bytes) (first (ReadArea name) at refl) given (enough_by (needs_again w.layout (blocks_part w.layout bytes)) (OfArea name) enough)
  by ReadBeforeFree at reading enough given = once_given w.layout m ms (blocks_part w.layout bytes) (first ReadBeforeFree at refl) given (enough_by (needs_again w.layout (blocks_part w.layout bytes)) OfFree enough)
  by ReadBeforeBlock at reading enough given = once_given w.layout m ms bytes (first ReadBeforeBlock at refl) given (enough_by (needs_again w.layout bytes) OfBlock enough)
  by Phase1Read at reading enough given = once_given w.layout m ms bytes (first Phase1Read at refl) given (enough_by (needs_again w.layout bytes) OfPhase1 enough)
  by Phase2Read at reading enough given = once_given w.layout m ms bytes (first Phase2Read at refl) given (enough_by (needs_again w.layout bytes) OfPhase2 enough)
  by (ReadAgain read) at reading enough given =
      let way : AgainWay w work m.at m.call ms read = step_way w m ms work (ReadAgain read) h at in
      twice_given w.layout m ms (part_read w.layout bytes (first_step (ReadAgain read))) (pairs_kept w.layout way.bytes) (ap (λ p. some_is (λ q. is_second q.1) (lease_step p)) at) given
      (kept_behind w work m.at m ms read way)
  by Phase1Write at reading enough given = absurd (false_is_true reading)
  by Phase2Write at reading enough given = absurd (false_is_true reading)
  by TakeLeader at reading enough given = absurd (false_is_true reading)
  by SetMode at reading enough given = absurd (false_is_true reading)
  by FreeLeader at reading enough given = absurd (false_is_true reading)
  by ClearMode at reading enough given = absurd (false_is_true reading)

-- Its blocks, and of a read of the area the leader.
pub blocks_heard : (l : Layout) (m : Submitted) (ms : List Submitted) (r : BlocksRead) → read_given l m ms ≡ Some r → blocks_given l m ms ≡ Some (blocks_of l r)
blocks_heard l m ms r is = ap (λ o. option_map (blocks_of l) o) is

pub leader_heard : (l : Layout) (m : Submitted) (ms : List Submitted) (r : BlocksRead) (bytes : List ℕ) → read_given l m ms ≡ Some r → gave m ≡ Some bytes → is_area_read m ≡ true
    → leader_given l m ms ≡ leader_read l bytes r
leader_heard l m ms r bytes given is area =
    ap (λ b. elim b as (λ z. Option Leader) [
      | false ↦ None
      | true ↦ option_and_then (λ x. option_and_then (λ bs. leader_read l bs x) (gave m)) (read_given l m ms)
    ]) area
    ∙ (ap (λ o. option_and_then (λ x. option_and_then (λ bs. leader_read l bs x) (gave m)) o) given
    ∙ ap (λ o. option_and_then (λ bs. leader_read l bs r) o) is)

pub area_by : (m : Submitted) (work : Work) (made : LeaseStep) → m.call.purpose ≡ Lease work made → (is_at_in Area_read (Lease work made) || is_at_in Read_before_free (Lease work made)) ≡ true → is_area_read m ≡ true
area_by m work made its is = ap (λ p. is_at_in Area_read p || is_at_in Read_before_free p) its ∙ is

-- ---- where each host's block has one sector no read is made once more

-- A call by its way.
pub step_first : (w : WayContext) → w.layout.paired ≡ false → (m : Submitted) (ms : List Submitted) (work : Work) (step : LeaseStep) → m.call.purpose ≡ Lease work step → StepWay w work m.at m.call ms step → is_again m ≡ false
step_first w plain m ms work (ReadAgain read) is h = absurd (true_is_false (sym h.paired ∙ plain))
step_first w plain m ms work step is h = is_first m work step is refl

purpose_first : (w : WayContext) → w.layout.paired ≡ false → (m : Submitted) (ms : List Submitted) (p : Purpose) → m.call.purpose ≡ p → PurposeWay w m.at m.call ms p → is_again m ≡ false
purpose_first w plain m ms (Lease work step) is h = step_first w plain m ms work step is h
purpose_first w plain m ms (Joining j step) is h = absurd h
purpose_first w plain m ms Renewal is h = absurd h
purpose_first w plain m ms Survey is h = absurd h
purpose_first w plain m ms (Leaving j) is h = absurd h
purpose_first w plain m ms (RequestRead j) is h = absurd h
purpose_first w plain m ms (RequestWrite j owner) is h = absurd h
purpose_first w plain m ms SeeRequest is h = absurd h
purpose_first w plain m ms (ValueWrite j) is h = absurd h
purpose_first w plain m ms (ValueRead j) is h = absurd h

pub none_again : (w : WayContext) → w.layout.paired ≡ false → (ms : List Submitted) → Ways w ms → (m : Submitted) → Contains ms m → is_again m ≡ false
none_again w plain [] h m there = absurd (contains_none m there)
none_again w plain (x ∷ xs) h m there =
    elim (contains_cases x xs m there) [
      | inl same ↦ subst (λ z. is_again z ≡ false) same (purpose_first w plain x xs x.call.purpose refl h.0.way)
      | inr inside ↦ none_again w plain xs h.1 m inside
    ]

-- A leader that was given is the one that the bytes spell.
pub leader_spells : (l : Layout) → l.paired ≡ false → (m : Submitted) (ms : List Submitted) (k : Leader) → leader_given l m ms ≡ Some k → option_and_then (leader_of l) (gave m) ≡ Some k
leader_spells l plain m ms k is = by (is_area_read m) (read_given l m ms) (gave m) is where
  by : (b : Bool) (r : Option BlocksRead) (o : Option (List ℕ)) → elim b as (λ z. Option Leader) [
    | false ↦ None
    | true ↦ option_and_then (λ x. option_and_then (λ bs. leader_read l bs x) o) r
  ] ≡ Some k → option_and_then (leader_of l) o ≡ Some k
  by false r o at = absurd (none_some k at)
  by true None o at = absurd (none_some k at)
  by true (Some x) None at = absurd (none_some k at)
  by true (Some x) (Some bytes) at = sym (leader_plain l plain bytes x) ∙ at
