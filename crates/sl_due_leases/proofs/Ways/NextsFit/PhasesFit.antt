-- What is decided after the reads of a ballot fits.
use Rattle.sl_due_leases.proofs.Ways.WaysAreLawful.BallotsBegin.{begins_after_loss, counted_now}
use Rattle.sl_due_leases.proofs.Ways.NewestCall.{ended_here, read_writes_no_block, submitted_passed}
use Rattle.sl_due_leases.proofs.Ways.NextsFit.SettlingsFit.{begin_is, settling_is}
use Rattle.sl_due_leases.proofs.Ways.WayNumbers.{ended_concludes, is_verified}
use Rattle.sl_due_leases.proofs.Ways.WayStages.{ReadBehind, by_at, read_behind, step_way}
use Rattle.sl_due_leases.specs.Ways.Nexts.{IsHeard, Moment, NextIs, calls_at, context_at, known_at, place_at}
use Rattle.sl_trace.specs.Ballots.{is_ahead, phase2_block, same_owner, stop_of, value_of}
use Rattle.sl_trace.specs.LeaseDecisions.{after_phase1, after_phase2, begin_next, first_step, leader_for, looks_for_shared, lost_next, phase2_next, settle_next, step_of_read, stop_reply, stopped_next, won_next}
use Rattle.sl_trace.specs.Leases.{Phase2_read, block_submitted, block_written, blocks_given, ended_ballot, ended_ballots, is_shared_by_other, known, mode_gen_of, open_ballot, shared_elsewhere, value_in_end}
use Rattle.sl_trace.specs.declared.lease.Aim.TheVariants.{Acquires, Converts, Releases, Settles}
use Rattle.sl_trace.specs.declared.lease.Aim.{Aim}
use Rattle.sl_trace.specs.declared.lease.LeaseNext.TheVariants.{AnswerJob, Nothing}
use Rattle.sl_trace.specs.declared.lease.LeaseNext.{LeaseNext}
use Rattle.sl_trace.specs.declared.lease.Stop.TheVariants.{BlockAhead, BlockRival, BlockTorn}
use Rattle.sl_trace.specs.declared.lease.Stop.{Stop}
use Rattle.sl_sector.specs.declared.sector.Block.{Block}
use Rattle.sl_sector.specs.declared.sector.Owner.{Owner}
use Rattle.sl_trace.specs.Sessions.{me}
use Rattle.sl_trace.specs.Sightings.{counts_over}
use Rattle.sl_due_facts.specs.Facts.WayFacts.{Comes, ComesBy, In_settling, IsHeededBy, IsWrittenBy, NoOtherShared, StepWay, Ways}
use Rattle.sl_trace.specs.Traces.{Answered, Submitted, is_heeded}
use Rattle.sl_trace.specs.declared.effects.LeaseRead.TheVariants.{OfPhase1, OfPhase2}
use Rattle.sl_trace.specs.declared.effects.LeaseRead.{LeaseRead}
use Rattle.sl_trace.specs.declared.effects.LeaseStep.TheVariants.{Phase1Read, Phase2Read}
use Rattle.sl_trace.specs.declared.effects.LeaseStep.{LeaseStep}
use Rattle.sl_trace.specs.declared.effects.Mode.TheVariants.{Exclusive}
use Rattle.sl_trace.specs.declared.input.Answer.TheVariants.{Read, Written}
use Rattle.sl_trace.specs.declared.input.Answer.{Answer}
use Rattle.sl_trace.specs.declared.reply.Reply.TheVariants.{Held as HeldBy, Shared as SharedBy}
use Rattle.sl_words.proofs.Lists.{find_fails}
use Rattle.sl_words.proofs.CaseLaws.{true_is_false}
use Rattle.sl_words.proofs.WordLaws.{and_true}
use Rattle.sl_words.specs.Words.{present, some_is}
use Rattle.std.proofs.Common.{ap, ap₂, arith, eqb-true, refl, subst, sym, tests, ◌∙◌}
use Rattle.std.specs.Option.{option_map_or}
use Rattle.std.specs.Prelude.{Bool, Contains, List, None, Option, Some, false, not, option_and_then, true, ℕ, ◌+◌, ◌==◌, ◌≡◌, ◌≤◌}

-- ---- the call that was heard

abbrev pub heard_comes : (x : Moment) (step : LeaseStep) (aim : Aim) (answer : Answer) → IsHeard x step aim answer → Comes x.work step (calls_at x)
heard_comes x step aim answer h = record { prior = h.call; rest = h.rest; before = h.newest; its = h.its }

le_by : (a b c : ℕ) → a ≤ b → c ≡ b → a ≤ c
le_by a b c le is = omega (arith, le, is)

same_le : (a b : ℕ) → a ≡ b → a ≤ b
same_le a b is = omega (arith, is)

pub heard_done : (x : Moment) (step : LeaseStep) (aim : Aim) → (h : IsHeard x step aim Written) → IsWrittenBy h.call x.now
heard_done x step aim h =
    record {
      answer = h.told;
      answered = (h.answered.0, h.answered.1);
      made = le_by h.call.at x.now h.told.at h.later h.answered.3;
      by = same_le h.told.at x.now h.answered.3;
    }

pub heard_heeded : (x : Moment) (step : LeaseStep) (aim : Aim) (answer : Answer) → (h : IsHeard x step aim answer) → IsHeededBy h.call x.now
heard_heeded x step aim answer h =
    record {
      answer = h.told;
      answered = (h.answered.0, h.answered.2);
      made = le_by h.call.at x.now h.told.at h.later h.answered.3;
      by = same_le h.told.at x.now h.answered.3;
    }

pub heard_is_heeded : (x : Moment) (step : LeaseStep) (aim : Aim) (answer : Answer) → (h : IsHeard x step aim answer) → is_heeded h.call ≡ true
heard_is_heeded x step aim answer h = ap (λ o. some_is (λ (a : Answered). a.heeded) o) h.answered.0 ∙ h.answered.2

-- The ways of the calls before it, and its own.
pub heard_before : (x : Moment) (step : LeaseStep) (aim : Aim) (answer : Answer) → (h : IsHeard x step aim answer) → Ways (context_at x) h.rest
heard_before x step aim answer h = (subst (λ xs. Ways (context_at x) xs) h.newest h.ways).1

pub heard_way : (x : Moment) (step : LeaseStep) (aim : Aim) (answer : Answer) → (h : IsHeard x step aim answer) → StepWay (context_at x) x.work h.call.at h.call.call h.rest step
heard_way x step aim answer h = step_way (context_at x) h.call h.rest x.work step (subst (λ xs. Ways (context_at x) xs) h.newest h.ways).0 h.its

-- The same of a read, which was made once or once more.
abbrev pub heard_by : (x : Moment) (made step : LeaseStep) (aim : Aim) (answer : Answer) → first_step made ≡ step → IsHeard x made aim answer → ComesBy x.work step (calls_at x)
heard_by x made step aim answer is h = record { prior = h.call; rest = h.rest; before = h.newest; made = made; its = h.its; is = is }

-- What stands behind it.
pub heard_read : (x : Moment) (made : LeaseStep) (aim : Aim) (answer : Answer) (read : LeaseRead) → first_step made ≡ step_of_read read → (h : IsHeard x made aim answer)
    → ReadBehind (context_at x) x.work (step_of_read read) h.call h.rest
heard_read x made aim answer read is h = read_behind (context_at x) (calls_at x) x.work read (heard_by x made (step_of_read read) aim answer is h) h.ways

-- It writes no block.
pub read_no_block : (x : Moment) (made : LeaseStep) (aim : Aim) (answer : Answer) (read : LeaseRead) → first_step made ≡ step_of_read read → (h : IsHeard x made aim answer) → block_written h.call ≡ None
read_no_block x made aim answer read is h = let r = heard_read x made aim answer read is h in read_writes_no_block h.call r.sectors r.reads.1

-- The own block is the one before it.
own_before : (x : Moment) (step : LeaseStep) (aim : Aim) (answer : Answer) → (h : IsHeard x step aim answer) → block_written h.call ≡ None → (own : Block) → block_submitted (calls_at x) ≡ Some own → block_submitted h.rest ≡ Some own
own_before x step aim answer h none own is = sym (submitted_passed h.call h.rest none) ∙ (sym (ap (λ xs. block_submitted xs) h.newest) ∙ is)

-- ---- a stop

stop_is : (x : Moment) (stop : Stop) → NextIs x (AnswerJob (stop_reply stop))
stop_is x (BlockTorn host) = refl
stop_is x (BlockAhead host lver) = refl
stop_is x (BlockRival host mbal) = refl

ahead_is : (x : Moment) → NextIs x (settle_next (place_at x) (known_at x)) → (b : Bool) → NextIs x (elim b as (λ z. LeaseNext) [ true ↦ settle_next (place_at x) (known_at x) | false ↦ Nothing ])
ahead_is x h true = h
ahead_is x h false = tt

stopped_is : (x : Moment) (aim : Aim) (stop : Stop) → Ways (context_at x) (calls_at x) → (context_at x).aims x.work ≡ Some aim → NextIs x (stopped_next (place_at x) (known_at x) aim stop)
stopped_is x (Acquires mode) stop ways aimed = stop_is x stop
stopped_is x (Converts mode) stop ways aimed = stop_is x stop
stopped_is x Releases stop ways aimed = stop_is x stop
stopped_is x Settles stop ways aimed = ahead_is x (settling_is x ways aimed) (is_ahead stop)

-- ---- after the read of phase 1

differs : (a b : ℕ) → (a ≡ b → ⊥) → (a == b) ≡ false
differs a b apart = grind (arith, tests)

over_by : (host_is shared over : Bool) → host_is ≡ false → shared ≡ true
    → elim host_is as (λ z. Bool) [ true ↦ false | false ↦ elim shared as (λ z. Bool) [ false ↦ false | true ↦ not over ] ] ≡ false → over ≡ true
over_by false true true host shared none = refl
over_by false true false host shared none = absurd (true_is_false none)
over_by false false over host shared none = absurd (true_is_false (sym shared))
over_by true shared over host is none = absurd (true_is_false host)

-- Where none bars, each other's shared mode is of one that counts as over.
none_bars : (x : Moment) (blocks : List (Option Block)) → shared_elsewhere (known_at x) blocks ≡ None → NoOtherShared (context_at x) blocks
unfolding known
none_bars x blocks none b there other shared =
    counted_now x.setting x.trace x.session b.host b.mode_gen
    (over_by (b.host == x.session.id) b.shared (counts_over x.setting x.trace x.session b.host b.mode_gen) (differs b.host x.session.id other) shared
    (find_fails (is_shared_by_other (known_at x)) (present blocks) b none there))

-- A read of a phase, with the blocks that it gave.
pub record PhaseHeard (x : Moment) (step : LeaseStep) (aim : Aim) (blocks : List (Option Block)) : Type 0 where
  pub made : LeaseStep
  pub bytes : List ℕ
  pub heard : IsHeard x made aim (Read bytes)
  pub is : first_step made ≡ step
  pub given : blocks_given x.setting.layout heard.call heard.rest ≡ Some blocks

phase2_is : (x : Moment) (aim : Aim) (blocks : List (Option Block)) → PhaseHeard x Phase1Read aim blocks → (own : Block) → block_submitted (calls_at x) ≡ Some own
    → stop_of own blocks ≡ None → (looks_for_shared aim ≡ true → NoOtherShared (context_at x) blocks) → NextIs x (phase2_next (known_at x) own blocks)
unfolding known phase2_block
phase2_is x aim blocks h own is clear alone = (
  (λ c op. record {
    after = heard_by x h.made Phase1Read aim (Read h.bytes) h.is h.heard;
    own = own;
    known = own_before x h.made aim (Read h.bytes) h.heard (read_no_block x h.made aim (Read h.bytes) OfPhase1 h.is h.heard) own is;
    blocks = blocks;
    given = h.given;
    clear = clear;
    shared = (known_at x).shared;
    mode_gen = mode_gen_of (known_at x);
    wrote = op;
    aim = aim;
    aimed = h.heard.aimed;
    alone = alone;
  }),
  (refl, refl),
)

elsewhere_is : (x : Moment) (aim : Aim) (blocks : List (Option Block)) → PhaseHeard x Phase1Read aim blocks → (own : Block) → block_submitted (calls_at x) ≡ Some own
    → stop_of own blocks ≡ None → (o : Option Block) → shared_elsewhere (known_at x) blocks ≡ o
    → NextIs x (elim o as (λ z. LeaseNext) [ Some b ↦ AnswerJob (SharedBy (record { id = b.host; generation = b.mode_gen })) | None ↦ phase2_next (known_at x) own blocks ])
elsewhere_is x aim blocks h own is clear (Some b) found = refl
elsewhere_is x aim blocks h own is clear None found = phase2_is x aim blocks h own is clear (λ looks. none_bars x blocks found)

looks_is : (x : Moment) (aim : Aim) (blocks : List (Option Block)) → PhaseHeard x Phase1Read aim blocks → (own : Block) → block_submitted (calls_at x) ≡ Some own
    → stop_of own blocks ≡ None → (b : Bool) → looks_for_shared aim ≡ b
    → NextIs x (elim b as (λ z. LeaseNext) [
      | false ↦ phase2_next (known_at x) own blocks
      | true ↦ elim (shared_elsewhere (known_at x) blocks) as (λ z. LeaseNext) [
        | Some b ↦ AnswerJob (SharedBy (record { id = b.host; generation = b.mode_gen }))
        | None ↦ phase2_next (known_at x) own blocks
      ]
    ])
looks_is x aim blocks h own is clear false looks = phase2_is x aim blocks h own is clear (λ must. absurd (true_is_false (sym must ∙ looks)))
looks_is x aim blocks h own is clear true looks = elsewhere_is x aim blocks h own is clear (shared_elsewhere (known_at x) blocks) refl

by_stop1 : (x : Moment) (aim : Aim) (blocks : List (Option Block)) → PhaseHeard x Phase1Read aim blocks → (own : Block) → block_submitted (calls_at x) ≡ Some own → (stop : Option Stop)
    → stop_of own blocks ≡ stop → NextIs x (after_phase1 (place_at x) (known_at x) aim own blocks stop)
by_stop1 x aim blocks h own is (Some stop) found = stopped_is x aim stop h.heard.ways h.heard.aimed
by_stop1 x aim blocks h own is None found = looks_is x aim blocks h own is found (looks_for_shared aim) refl

by_own1 : (x : Moment) (aim : Aim) (blocks : List (Option Block)) → PhaseHeard x Phase1Read aim blocks → (o : Option Block) → block_submitted (calls_at x) ≡ o
    → NextIs x (option_map_or (λ own. after_phase1 (place_at x) (known_at x) aim own blocks (stop_of own blocks)) o Nothing)
by_own1 x aim blocks h None is = tt
by_own1 x aim blocks h (Some own) is = by_stop1 x aim blocks h own is (stop_of own blocks) refl

pub phase1_read_is : (x : Moment) (aim : Aim) (blocks : List (Option Block)) → PhaseHeard x Phase1Read aim blocks
    → NextIs x (option_map_or (λ own. after_phase1 (place_at x) (known_at x) aim own blocks (stop_of own blocks)) (known_at x).own Nothing)
unfolding known
phase1_read_is x aim blocks h = by_own1 x aim blocks h (block_submitted (calls_at x)) refl

-- ---- after the read of phase 2

same_is : (a b : Owner) → same_owner a b ≡ true → a ≡ b
same_is a b h =
    let both = and_true (a.id == b.id) (a.generation == b.generation) h in
    let make : ℕ → ℕ → Owner = λ id generation. record { id = id; generation = generation } in
    ap₂ make (eqb-true a.id b.id both.0) (eqb-true a.generation b.generation both.1)

heard_ends : (x : Moment) (aim : Aim) (blocks : List (Option Block)) → (h : PhaseHeard x Phase2Read aim blocks) → (own : Block) → block_submitted (calls_at x) ≡ Some own
    → stop_of own blocks ≡ None → ended_ballot x.setting.layout h.heard.call h.heard.rest ≡ Some (own.lver, value_of own)
heard_ends x aim blocks h own is clear =
    let m : Submitted = h.heard.call in
    let rest : List Submitted = h.heard.rest in
    let none : block_written m ≡ None = read_no_block x h.made aim (Read h.bytes) OfPhase2 h.is h.heard in
    ap (λ b. elim b as (λ z. Option (ℕ × Owner)) [
      | false ↦ None
      | true ↦ option_and_then (λ o. option_and_then (λ bs. value_in_end o (stop_of o bs)) (blocks_given x.setting.layout m rest)) (block_submitted rest)
    ]) (by_at Phase2_read (calls_at x) x.work Phase2Read (heard_by x h.made Phase2Read aim (Read h.bytes) h.is h.heard) refl)
    ∙ (ap (λ o. option_and_then (λ b. option_and_then (λ bs. value_in_end b (stop_of b bs)) (blocks_given x.setting.layout m rest)) o) (own_before x h.made aim (Read h.bytes) h.heard none own is)
    ∙ (ap (λ o. option_and_then (λ bs. value_in_end own (stop_of own bs)) o) h.given ∙ ap (λ o. value_in_end own o) clear))

abbrev end_as : ℕ → Owner → Option (ℕ × Owner)
end_as n o = Some (n, o)

ended_inside : (x : Moment) (aim : Aim) (blocks : List (Option Block)) → (h : PhaseHeard x Phase2Read aim blocks) → (n : ℕ) (o : Owner) → ended_ballot x.setting.layout h.heard.call h.heard.rest ≡ Some (n, o)
    → Contains (ended_ballots x.setting.layout (calls_at x)) (n, o)
ended_inside x aim blocks h n o is = subst (λ xs. Contains (ended_ballots x.setting.layout xs) (n, o)) (sym h.heard.newest) (ended_here x.setting.layout h.heard.call h.heard.rest (n, o) is)

taken_is : (x : Moment) (aim : Aim) (blocks : List (Option Block)) → (h : PhaseHeard x Phase2Read aim blocks) → (n : ℕ) → ended_ballot x.setting.layout h.heard.call h.heard.rest ≡ Some (n, me x.trace x.session)
    → NextIs x (won_next (place_at x) (known_at x) (Acquires Exclusive) n)
taken_is x aim blocks h n won = (
  (λ c op. record {
    after = heard_by x h.made Phase2Read aim (Read h.bytes) h.is h.heard;
    heeded = heard_heeded x h.made aim (Read h.bytes) h.heard;
    leader = leader_for (place_at x) (known_at x) true n;
    wrote = op;
    held = refl;
    won = won;
  }),
  refl,
)

won_is : (x : Moment) (aim : Aim) (blocks : List (Option Block)) → (h : PhaseHeard x Phase2Read aim blocks) → (n : ℕ) → ended_ballot x.setting.layout h.heard.call h.heard.rest ≡ Some (n, me x.trace x.session)
    → NextIs x (won_next (place_at x) (known_at x) aim n)
won_is x (Acquires mode) blocks h n won = taken_is x (Acquires mode) blocks h n won
won_is x (Converts mode) blocks h n won = taken_is x (Converts mode) blocks h n won
won_is x Releases blocks h n won = tt
won_is x Settles blocks h n won = (
  (λ c op. record {
    leader = leader_for (place_at x) (known_at x) false n;
    wrote = op;
    free = refl;
    won = ended_inside x Settles blocks h n (me x.trace x.session) won;
    concluded = ap (λ xs. open_ballot x.setting.layout xs) h.heard.newest
        ∙ ended_concludes x.setting.layout h.heard.call h.heard.rest n (me x.trace x.session) (read_no_block x h.made Settles (Read h.bytes) OfPhase2 h.is h.heard)
        (heard_is_heeded x h.made Settles (Read h.bytes) h.heard) won;
    why = In_settling h.heard.aimed;
  }),
  refl,
)

over_is : (x : Moment) (aim : Aim) → Ways (context_at x) (calls_at x) → (own : Block) → block_submitted (calls_at x) ≡ Some own
    → Contains (ended_ballots x.setting.layout (calls_at x)) (own.lver, value_of own) → (b : Bool) → counts_over x.setting x.trace x.session own.inp own.inp_gen ≡ b
    → NextIs x (elim b as (λ z. LeaseNext) [ true ↦ begin_next (place_at x) (known_at x) aim (own.lver + 1) | false ↦ AnswerJob (HeldBy own.lver (value_of own)) ])
over_is x aim ways own is ended false over = refl
over_is x aim ways own is ended true over =
    begin_is x aim (own.lver + 1) own (begins_after_loss x.setting x.trace x.session x.at ways own is ended over) (is_verified (context_at x) (calls_at x) ways own is)

lost_is : (x : Moment) (aim : Aim) → Ways (context_at x) (calls_at x) → (context_at x).aims x.work ≡ Some aim → (own : Block) → block_submitted (calls_at x) ≡ Some own
    → Contains (ended_ballots x.setting.layout (calls_at x)) (own.lver, value_of own) → NextIs x (lost_next (place_at x) (known_at x) aim own.lver (value_of own))
unfolding known
lost_is x (Acquires mode) ways aimed own is ended = over_is x (Acquires mode) ways own is ended (counts_over x.setting x.trace x.session own.inp own.inp_gen) refl
lost_is x (Converts mode) ways aimed own is ended = over_is x (Converts mode) ways own is ended (counts_over x.setting x.trace x.session own.inp own.inp_gen) refl
lost_is x Releases ways aimed own is ended = tt
lost_is x Settles ways aimed own is ended = settling_is x ways aimed

ended_is : (x : Moment) (aim : Aim) (blocks : List (Option Block)) → (h : PhaseHeard x Phase2Read aim blocks) → (own : Block) → block_submitted (calls_at x) ≡ Some own
    → ended_ballot x.setting.layout h.heard.call h.heard.rest ≡ Some (own.lver, value_of own) → (b : Bool) → same_owner (value_of own) (me x.trace x.session) ≡ b
    → NextIs x (elim b as (λ z. LeaseNext) [ true ↦ won_next (place_at x) (known_at x) aim own.lver | false ↦ lost_next (place_at x) (known_at x) aim own.lver (value_of own) ])
ended_is x aim blocks h own is ended true same =
    won_is x aim blocks h own.lver (ended ∙ ap (λ o. end_as own.lver o) (same_is (value_of own) (me x.trace x.session) same))
ended_is x aim blocks h own is ended false same = lost_is x aim h.heard.ways h.heard.aimed own is (ended_inside x aim blocks h own.lver (value_of own) ended)

by_stop2 : (x : Moment) (aim : Aim) (blocks : List (Option Block)) → PhaseHeard x Phase2Read aim blocks → (own : Block) → block_submitted (calls_at x) ≡ Some own → (stop : Option Stop)
    → stop_of own blocks ≡ stop → NextIs x (after_phase2 (place_at x) (known_at x) aim own stop)
unfolding known
by_stop2 x aim blocks h own is (Some stop) found = stopped_is x aim stop h.heard.ways h.heard.aimed
by_stop2 x aim blocks h own is None found = ended_is x aim blocks h own is (heard_ends x aim blocks h own is found) (same_owner (value_of own) (me x.trace x.session)) refl

by_own2 : (x : Moment) (aim : Aim) (blocks : List (Option Block)) → PhaseHeard x Phase2Read aim blocks → (o : Option Block) → block_submitted (calls_at x) ≡ o
    → NextIs x (option_map_or (λ own. after_phase2 (place_at x) (known_at x) aim own (stop_of own blocks)) o Nothing)
by_own2 x aim blocks h None is = tt
by_own2 x aim blocks h (Some own) is = by_stop2 x aim blocks h own is (stop_of own blocks) refl

pub phase2_read_is : (x : Moment) (aim : Aim) (blocks : List (Option Block)) → PhaseHeard x Phase2Read aim blocks
    → NextIs x (option_map_or (λ own. after_phase2 (place_at x) (known_at x) aim own (stop_of own blocks)) (known_at x).own Nothing)
unfolding known
phase2_read_is x aim blocks h = by_own2 x aim blocks h (block_submitted (calls_at x)) refl
