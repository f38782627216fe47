-- What is kept of pairs stands for a lease's calls: what a read is heard to give is what its call says that it gave, what is known of a
-- first read is what is kept of it, and the answer to the newest call, or one more call, keeps this so.
use Rattle.sl_area.specs.AreaSizes.{Layout}
use Rattle.sl_area.specs.Pairs.{blocks_of, needs_again, pair_read, pairs_kept}
use Rattle.sl_area.specs.TornLeader.{leader_read}
use Rattle.sl_area.specs.AreaLayout.{blocks_part}
use Rattle.sl_host_state.specs.HeardInputs.{blocks_heard, blocks_shown, is_area_step, is_last_phase, is_phase_step, kept_heard, leader_shown, pair_hearing, read_heard, turn_heard}
use Rattle.sl_host_state.specs.KeptState.{PairState}
use Rattle.sl_host_state.specs.MadeEffects.{pair_calling}
use Rattle.sl_host_state.specs.HostStands.{IsFirstKept, IsSecondKept, first_read, is_again_newest, turn_kept}
use Rattle.sl_sector.specs.declared.sector.Leader.{Leader}
use Rattle.sl_sector.specs.declared.sector.PairBlock.{PairBlock}
use Rattle.sl_sector.specs.declared.sector.Rec.{Rec}
use Rattle.sl_trace.specs.Leases.{Area_read, Phase1_read, Phase2_read, Read_before_block, Read_before_free, StepKind, base_turn, blocks_bytes, blocks_given, first_kept, given_with, is_again, is_area_read, is_at, is_phase_read, is_second, kept_before, kind_of_step, leader_given, lease_step, read_given, same_kind, turn_of_record, turn_shown, turn_written}
use Rattle.sl_trace.specs.Traces.{Answered, Submitted, bytes_given, gave, is_ok_answer, record_of}
use Rattle.sl_trace.specs.declared.effects.LeaseRead.TheVariants.{OfArea, OfBlock, OfFree, OfPhase1, OfPhase2}
use Rattle.sl_trace.specs.declared.effects.LeaseStep.TheVariants.{Phase1Read, Phase2Read, ReadAgain, ReadArea, ReadBeforeBlock, ReadBeforeFree}
use Rattle.sl_trace.specs.declared.effects.LeaseStep.{LeaseStep}
use Rattle.sl_trace.specs.declared.effects.Work.{Work}
use Rattle.sl_trace.specs.declared.input.Answer.TheVariants.{Failed, Read, Written}
use Rattle.sl_trace.specs.declared.input.Answer.{Answer}
use Rattle.sl_words.proofs.CaseLaws.{false_is_true, none_some}
use Rattle.sl_words.specs.Words.{choose, some_is}
use Rattle.std.proofs.Common.{ap, refl, sym, ◌∙◌}
use Rattle.std.specs.Option.{option_or}
use Rattle.std.specs.Prelude.{Bool, IsTrue, List, None, Option, Some, cond, false, is_some, option_and_then, option_map, true, unwrap_or, [], ℕ, ◌||◌, ◌∷◌, ◌≡◌}

-- ---- the step of a call

pub at_step : (kind : StepKind) (m : Submitted) (work : Work) (step : LeaseStep) → lease_step m.call.purpose ≡ Some (work, step) → is_at kind m ≡ same_kind (kind_of_step step) kind
at_step kind m work step is = ap (λ (o : Option (Work × LeaseStep)). some_is (λ p. same_kind (kind_of_step p.1) kind) o) is

pub again_is : (m : Submitted) (work : Work) (step : LeaseStep) → lease_step m.call.purpose ≡ Some (work, step) → is_again m ≡ is_second step
again_is m work step is = ap (λ (o : Option (Work × LeaseStep)). some_is (λ p. is_second p.1) o) is

phase_kind : (step : LeaseStep) → (same_kind (kind_of_step step) Phase1_read || same_kind (kind_of_step step) Phase2_read) ≡ is_phase_step step
phase_kind Phase1Read = refl
phase_kind Phase2Read = refl
phase_kind (ReadAgain (OfArea name)) = refl
phase_kind (ReadAgain OfFree) = refl
phase_kind (ReadAgain OfBlock) = refl
phase_kind (ReadAgain OfPhase1) = refl
phase_kind (ReadAgain OfPhase2) = refl
phase_kind step = refl

pub last_kind : (step : LeaseStep) → same_kind (kind_of_step step) Phase2_read ≡ is_last_phase step
last_kind Phase2Read = refl
last_kind (ReadAgain (OfArea name)) = refl
last_kind (ReadAgain OfFree) = refl
last_kind (ReadAgain OfBlock) = refl
last_kind (ReadAgain OfPhase1) = refl
last_kind (ReadAgain OfPhase2) = refl
last_kind step = refl

area_kind : (step : LeaseStep) → (same_kind (kind_of_step step) Area_read || same_kind (kind_of_step step) Read_before_free) ≡ is_area_step step
area_kind (ReadArea name) = refl
area_kind ReadBeforeFree = refl
area_kind (ReadAgain (OfArea name)) = refl
area_kind (ReadAgain OfFree) = refl
area_kind (ReadAgain OfBlock) = refl
area_kind (ReadAgain OfPhase1) = refl
area_kind (ReadAgain OfPhase2) = refl
area_kind step = refl

pub at_phase : (m : Submitted) (work : Work) (step : LeaseStep) → lease_step m.call.purpose ≡ Some (work, step) → is_phase_read m ≡ is_phase_step step
at_phase m work step is = ap (λ b. b || is_at Phase2_read m) (at_step Phase1_read m work step is) ∙ ap (λ b. same_kind (kind_of_step step) Phase1_read || b) (at_step Phase2_read m work step is) ∙ phase_kind step

pub at_area : (m : Submitted) (work : Work) (step : LeaseStep) → lease_step m.call.purpose ≡ Some (work, step) → is_area_read m ≡ is_area_step step
at_area m work step is = ap (λ b. b || is_at Read_before_free m) (at_step Area_read m work step is) ∙ ap (λ b. same_kind (kind_of_step step) Area_read || b) (at_step Read_before_free m work step is) ∙ area_kind step

-- ---- the bytes of all blocks in an answer

-- By what kind of read it is.
abbrev part_by : Layout → Bool → Bool → Bool → List ℕ → Option (List ℕ)
part_by g area phase block bytes = elim area as (λ z. Option (List ℕ)) [ true ↦ Some (blocks_part g bytes) | false ↦ choose (area || phase || block) bytes ]

abbrev bytes_by : Layout → Bool → Bool → Bool → Option (List ℕ) → Option (List ℕ)
bytes_by g area phase block o = elim o as (λ z. Option (List ℕ)) [ None ↦ None | Some bytes ↦ part_by g area phase block bytes ]

by_step : (g : Layout) (step : LeaseStep) (bytes : List ℕ) → part_by g (is_area_step step) (is_phase_step step) (same_kind (kind_of_step step) Read_before_block) bytes ≡ blocks_heard g step bytes
by_step g (ReadArea name) bytes = refl
by_step g ReadBeforeFree bytes = refl
by_step g ReadBeforeBlock bytes = refl
by_step g (ReadAgain (OfArea name)) bytes = refl
by_step g (ReadAgain OfFree) bytes = refl
by_step g (ReadAgain OfBlock) bytes = refl
by_step g (ReadAgain OfPhase1) bytes = refl
by_step g (ReadAgain OfPhase2) bytes = refl
by_step g Phase1Read bytes = refl
by_step g Phase2Read bytes = refl
by_step g step bytes = refl

given_at : (g : Layout) (step : LeaseStep) (o : Option (List ℕ))
    → bytes_by g (is_area_step step) (is_phase_step step) (same_kind (kind_of_step step) Read_before_block) o ≡ option_and_then (blocks_heard g step) o
given_at g step None = refl
given_at g step (Some bytes) = by_step g step bytes

-- What a call at this step gave of all blocks, by what it gave.
pub bytes_are : (g : Layout) (m : Submitted) (work : Work) (step : LeaseStep) (o : Option (List ℕ)) → lease_step m.call.purpose ≡ Some (work, step) → gave m ≡ o
    → blocks_bytes g m ≡ option_and_then (blocks_heard g step) o
bytes_are g m work step o is gives =
    ap (bytes_by g (is_area_read m) (is_phase_read m) (is_at Read_before_block m)) gives
    ∙ ap (λ b. bytes_by g b (is_phase_read m) (is_at Read_before_block m) o) (at_area m work step is)
    ∙ ap (λ b. bytes_by g (is_area_step step) b (is_at Read_before_block m) o) (at_phase m work step is)
    ∙ ap (λ b. bytes_by g (is_area_step step) (is_phase_step step) b o) (at_step Read_before_block m work step is)
    ∙ given_at g step o

-- ---- what a read is heard to give

-- What is kept for a second read, which is the newest call, is what is kept of the answer before it.
pub second_finds : (g : Layout) (p : PairState) (m : Submitted) (ms : List Submitted) → is_again m ≡ p.again → IsFirstKept g p (m ∷ ms) → IsSecondKept p → is_again m ≡ true → kept_before g ms ≡ p.first
second_finds g p m ms newest kept second again = by p.first refl (second (sym newest ∙ again)) where
  by : (o : Option (List (Option PairBlock))) → p.first ≡ o → IsTrue (is_some o) → kept_before g ms ≡ p.first
  by None is there = absurd (false_is_true there)
  by (Some pairs) is there = ap (λ b. kept_before g (cond b ms (m ∷ ms))) (sym again) ∙ kept pairs is ∙ sym is

given_by : (g : Layout) (again : Bool) (kept first : Option (List (Option PairBlock))) (bytes : Option (List ℕ)) → (again ≡ true → kept ≡ first) → given_with g again kept bytes ≡ given_with g again first bytes
given_by g true kept first bytes same = ap (λ k. given_with g true k bytes) (same refl)
given_by g false kept first None same = refl
given_by g false kept first (Some bytes) same = refl

heard_by : (g : Layout) (p : PairState) (step : LeaseStep) (o : Option (List ℕ)) → given_with g (is_second step) p.first (option_and_then (blocks_heard g step) o) ≡ option_and_then (read_heard g p step) o
heard_by g p step None = refl
heard_by g p step (Some bytes) = refl

-- It is what its call says that it gave.
pub heard_is_given : (g : Layout) (p : PairState) (m : Submitted) (ms : List Submitted) (work : Work) (step : LeaseStep) (o : Option (List ℕ)) → lease_step m.call.purpose ≡ Some (work, step)
    → gave m ≡ o → (is_again m ≡ true → kept_before g ms ≡ p.first) → read_given g m ms ≡ option_and_then (read_heard g p step) o
heard_is_given g p m ms work step o is gives finds =
    ap (given_with g (is_again m) (kept_before g ms)) (bytes_are g m work step o is gives)
    ∙ given_by g (is_again m) (kept_before g ms) p.first (option_and_then (blocks_heard g step) o) finds
    ∙ ap (λ b. given_with g b p.first (option_and_then (blocks_heard g step) o)) (again_is m work step is) ∙ heard_by g p step o

-- So are its blocks and its leader.
pub blocks_are_shown : (g : Layout) (p : PairState) (m : Submitted) (ms : List Submitted) (work : Work) (step : LeaseStep) (a : Answer) → lease_step m.call.purpose ≡ Some (work, step)
    → gave m ≡ bytes_given a → (is_again m ≡ true → kept_before g ms ≡ p.first) → blocks_given g m ms ≡ blocks_shown g p step a
blocks_are_shown g p m ms work step a is gives finds = ap (option_map (blocks_of g)) (heard_is_given g p m ms work step (bytes_given a) is gives finds)

pub leader_is_shown : (g : Layout) (p : PairState) (m : Submitted) (ms : List Submitted) (work : Work) (step : LeaseStep) (a : Answer) → lease_step m.call.purpose ≡ Some (work, step)
    → gave m ≡ bytes_given a → (is_again m ≡ true → kept_before g ms ≡ p.first) → leader_given g m ms ≡ leader_shown g p step a
leader_is_shown g p m ms work step a is gives finds =
    ap leader_by (at_area m work step is)
    ∙ ap (λ r. elim (is_area_step step) as (λ z. Option Leader) [ false ↦ None | true ↦ option_and_then (λ q. option_and_then (λ bytes. leader_read g bytes q) (gave m)) r ])
    (heard_is_given g p m ms work step (bytes_given a) is gives finds)
    ∙ by_area (is_area_step step) (bytes_given a) gives where
      leader_by : Bool → Option Leader
      leader_by b =
          elim b as (λ z. Option Leader) [
            | false ↦ None
            | true ↦ option_and_then (λ q. option_and_then (λ bytes. leader_read g bytes q) (gave m)) (read_given g m ms)
          ]

      by_area : (b : Bool) (o : Option (List ℕ)) → gave m ≡ o
          → elim b as (λ z. Option Leader) [ false ↦ None | true ↦ option_and_then (λ q. option_and_then (λ bytes. leader_read g bytes q) (gave m)) (option_and_then (read_heard g p step) o) ]
          ≡ elim b as (λ z. Option Leader) [ false ↦ None | true ↦ option_and_then (λ bytes. option_and_then (leader_read g bytes) (read_heard g p step bytes)) o ]
      by_area false o is_o = refl
      by_area true None is_o = refl
      by_area true (Some bytes) is_o = ap (λ w. option_and_then (λ q. option_and_then (λ bs. leader_read g bs q) w) (read_heard g p step bytes)) is_o

-- ---- a first read

-- What is known of it is what is kept.
pub first_is_kept : (g : Layout) (p : PairState) (ms : List Submitted) → is_again_newest ms ≡ p.again → IsFirstKept g p ms → IsSecondKept p → first_kept g ms ≡ first_read p
first_is_kept g p [] newest kept second = ap (λ b. cond b (unwrap_or p.first []) []) newest
first_is_kept g p (m ∷ ms) newest kept second = by (is_again m) refl ∙ ap (λ b. cond b (unwrap_or p.first []) []) newest where
  by : (b : Bool) → is_again m ≡ b
      → elim b as (λ z. List (Option PairBlock)) [ false ↦ [] | true ↦ unwrap_or (kept_before g ms) [] ] ≡ cond b (unwrap_or p.first []) []
  by false is = refl
  by true is = ap (λ o. unwrap_or o []) (second_finds g p m ms newest kept second is)

-- ---- the answer to the newest call

-- What is kept of pairs stands for these calls.
pub record PairStands (g : Layout) (id : ℕ) (p : PairState) (ms : List Submitted) : Type 0 where
  pub turn : base_turn g id ms ≡ turn_kept p
  pub again : is_again_newest ms ≡ p.again
  pub kept : IsFirstKept g p ms
  pub second : IsSecondKept p

-- A call without an answer shows no turn.
no_turn : (g : Layout) (id : ℕ) (m : Submitted) → turn_shown g id (record m { answer = None }) ≡ None
no_turn g id m = by (turn_written m) g.paired where
  by : (w : Option ℕ) (b : Bool) → elim w as (λ z. Option ℕ) [ Some t ↦ None | None ↦ elim b as (λ z. Option ℕ) [ false ↦ None | true ↦ None ] ] ≡ None
  by (Some t) b = refl
  by None true = refl
  by None false = refl

base_stays : (g : Layout) (id : ℕ) (m : Submitted) (ms : List Submitted) → base_turn g id (record m { answer = None } ∷ ms) ≡ base_turn g id ms
base_stays g id m ms = ap (λ o. elim o as (λ z. ℕ) [ Some t ↦ t | None ↦ base_turn g id ms ]) (no_turn g id m)

-- The newest call, and its answer.
module _ (g : Layout) (id : ℕ) (p : PairState) (m : Submitted) (ms : List Submitted) (work : Work) (step : LeaseStep) (turn : Option ℕ) (x : Answered) (is : lease_step m.call.purpose ≡ Some (work, step)) where
  abbrev none : Submitted
  none = record m { answer = None }

  abbrev heard : Submitted
  heard = record m { answer = Some x }

  abbrev all_heard : Option (List ℕ)
  all_heard = option_and_then (blocks_heard g step) (bytes_given x.answer)

  abbrev read_turn : Option (List ℕ) → Option ℕ
  read_turn bytes = elim g.paired as (λ z. Option ℕ) [ false ↦ None | true ↦ option_and_then (λ bs. option_map (λ q. q.turn) (pair_read g bs id)) bytes ]

  -- The turn, by what the call writes, whether it was done, and what it read.
  abbrev turn_by : Option ℕ → Bool → Option (List ℕ) → Option ℕ
  turn_by w ok bytes = elim w as (λ z. Option ℕ) [ Some t ↦ choose ok t | None ↦ read_turn bytes ]

  turn_is : turn_written m ≡ turn → (is_some (bytes_given x.answer) ≡ true → record_of m.call.op ≡ None) → turn_shown g id heard ≡ turn_heard g id step turn x.answer
  turn_is writes asked = ap (turn_by (turn_written m) (is_ok_answer x.answer)) (bytes_are g heard work step (bytes_given x.answer) is refl) ∙ by x.answer asked where
    nothing : (b : Bool) → elim b as (λ z. Option ℕ) [ false ↦ None | true ↦ None ] ≡ None
    nothing true = refl
    nothing false = refl

    done : (w : Option ℕ) → turn_by w true None ≡ w
    done (Some t) = refl
    done None = nothing g.paired

    failed : (w : Option ℕ) → turn_by w false None ≡ None
    failed (Some t) = refl
    failed None = nothing g.paired

    by : (a : Answer) → (is_some (bytes_given a) ≡ true → record_of m.call.op ≡ None)
        → turn_by (turn_written m) (is_ok_answer a) (option_and_then (blocks_heard g step) (bytes_given a)) ≡ turn_heard g id step turn a
    by (Read bytes) reads = ap (λ (r : Option Rec). turn_by (option_and_then turn_of_record r) true (blocks_heard g step bytes)) (reads refl)
    by Written reads = done (turn_written m) ∙ writes
    by Failed reads = failed (turn_written m)

  base_is : turn_shown g id heard ≡ turn_heard g id step turn x.answer → base_turn g id (none ∷ ms) ≡ turn_kept p → base_turn g id (heard ∷ ms) ≡ turn_kept (pair_hearing g id step turn x.answer p)
  base_is shows before = ap newest shows ∙ by (turn_heard g id step turn x.answer) where
    newest : Option ℕ → ℕ
    newest o = elim o as (λ z. ℕ) [ Some t ↦ t | None ↦ base_turn g id ms ]

    by : (o : Option ℕ) → newest o ≡ unwrap_or (option_or o p.turn) 0
    by (Some t) = refl
    by None = sym (base_stays g id m ms) ∙ before

  -- Before the answer of a first read nothing is kept.
  none_before : IsFirstKept g p (none ∷ ms) → is_again m ≡ false → (pairs : List (Option PairBlock)) → p.first ≡ Some pairs → ⊥
  none_before kept first pairs there = none_some pairs (ap (λ b. kept_before g (cond b ms (none ∷ ms))) (sym first) ∙ kept pairs there)

  abbrev kept_by : Option (List ℕ) → Option (List (Option PairBlock))
  kept_by o = option_and_then (λ bs. choose (needs_again g bs) (pairs_kept g bs)) o

  abbrev heard_by_second : Bool → Option (List (Option PairBlock))
  heard_by_second b = elim b as (λ z. Option (List (Option PairBlock))) [ true ↦ None | false ↦ kept_by all_heard ]

  kept_is : IsFirstKept g p (none ∷ ms) → IsFirstKept g (pair_hearing g id step turn x.answer p) (heard ∷ ms)
  kept_is kept pairs now = by (is_second step) refl where
    first : is_again m ≡ false → (o : Option (List ℕ)) → option_or (kept_by o) p.first ≡ Some pairs → option_map (pairs_kept g) o ≡ Some pairs
    first one None there = absurd (none_before kept one pairs there)
    first one (Some bs) there = whether (needs_again g bs) there where
      whether : (b : Bool) → option_or (choose b (pairs_kept g bs)) p.first ≡ Some pairs → Some (pairs_kept g bs) ≡ Some pairs
      whether true it = it
      whether false it = absurd (none_before kept one pairs it)

    by : (b : Bool) → is_second step ≡ b → kept_before g (cond (is_again m) ms (heard ∷ ms)) ≡ Some pairs
    by true second =
        let again : is_again m ≡ true = again_is m work step is ∙ second in
        ap (λ c. kept_before g (cond c ms (heard ∷ ms))) again ∙ ap (λ c. kept_before g (cond c ms (none ∷ ms))) (sym again)
        ∙ kept pairs (ap (λ c. option_or (heard_by_second c) p.first) (sym second) ∙ now)
    by false second =
        let one : is_again m ≡ false = again_is m work step is ∙ second in
        ap (λ c. kept_before g (cond c ms (heard ∷ ms))) one ∙ ap (option_map (pairs_kept g)) (bytes_are g heard work step (bytes_given x.answer) is refl)
        ∙ first one all_heard (ap (λ c. option_or (heard_by_second c) p.first) (sym second) ∙ now)

  second_is : IsSecondKept p → IsSecondKept (pair_hearing g id step turn x.answer p)
  second_is second again = by (kept_heard g step x.answer) p.first (second again) where
    by : (o q : Option (List (Option PairBlock))) → IsTrue (is_some q) → IsTrue (is_some (option_or o q))
    by (Some k) q there = refl
    by None q there = there

  pub pair_hears : turn_written m ≡ turn → (is_some (bytes_given x.answer) ≡ true → record_of m.call.op ≡ None) → PairStands g id p (none ∷ ms) → PairStands g id (pair_hearing g id step turn x.answer p) (heard ∷ ms)
  pair_hears writes asked s =
      record { turn = base_is (turn_is writes asked) s.turn; again = s.again; kept = kept_is s.kept; second = second_is s.second }

-- ---- a call

-- A new one has no answer, and a second read finds something kept of the answer before it.
pub pair_calls : (g : Layout) (id : ℕ) (p : PairState) (c : Submitted) (ms : List Submitted) → c.answer ≡ None → (is_again c ≡ true → IsTrue (is_some p.first) × (p.again ≡ false)) → PairStands g id p ms
    → PairStands g id (pair_calling (is_again c) p) (c ∷ ms)
pair_calls g id p c ms none_yet finds s =
    record {
      turn = ap (λ o. elim o as (λ z. ℕ) [ Some t ↦ t | None ↦ base_turn g id ms ]) (ap (λ o. turn_shown g id (record c { answer = o })) none_yet ∙ no_turn g id c) ∙ s.turn;
      again = refl;
      kept = λ pairs is. by pairs (is_again c) refl is;
      second = λ again. ap (λ b. is_some (cond b p.first None)) again ∙ (finds again).0;
    } where
      older : (pairs : List (Option PairBlock)) → p.first ≡ Some pairs → p.again ≡ false → (ns : List Submitted) → is_again_newest ns ≡ p.again → IsFirstKept g p ns → kept_before g ns ≡ Some pairs
      older pairs is once [] newest kept = absurd (none_some pairs (sym kept ∙ is))
      older pairs is once (n ∷ ns) newest kept = ap (λ b. kept_before g (cond b ns (n ∷ ns))) (sym (newest ∙ once)) ∙ kept pairs is

      by : (pairs : List (Option PairBlock)) (b : Bool) → is_again c ≡ b → cond b p.first None ≡ Some pairs → kept_before g (cond b ms (c ∷ ms)) ≡ Some pairs
      by pairs true again is = older pairs is (finds again).1 ms s.again s.kept
      by pairs false again is = absurd (none_some pairs is)
