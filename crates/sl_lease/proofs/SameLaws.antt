-- What is kept of a lease is what a host keeps of it.
use Rattle.sl_area.specs.AreaSizes.{Layout}
use Rattle.sl_area.specs.Pairs.{BlocksRead, blocks_of, needs_again, pairs_kept, read_once}
use Rattle.sl_area.specs.TornLeader.{leader_read}
use Rattle.sl_host_state.specs.HeardInputs.{blocks_heard, blocks_shown, concludes_at, is_area_step, is_block_step, is_free_step, is_last_phase, kept_heard, leader_shown, lease_hearing, pair_hearing, read_heard, settles_at, stop_shown, top_hearing, turn_heard, verified_at, won_at, won_hearing}
use Rattle.sl_host_state.specs.KeptState.{LeaseState, PairState}
use Rattle.sl_host_state.specs.MadeEffects.{lease_calling}
use Rattle.sl_host_state.specs.declared.kept_parts.LeaseCall.{LeaseCall}
use Rattle.sl_host_state.specs.declared.kept_parts.OpenCall.{OpenCall}
use Rattle.sl_host_state.specs.declared.kept_parts.TopNumber.{TopNumber}
use Rattle.sl_lease.specs.LeaseQuestions.{heard_with, leader_given, read_given}
use Rattle.sl_lease.specs.Changes.{after_block, after_failure, after_kept, after_leader, after_reading, name_found, read_told, turn_in, turn_told, write_told}
use Rattle.sl_lease.specs.Laws.{HostsKeepTheSame, IsGiven, IsReadCall, at_step, first_by, open_at_step}
use Rattle.sl_lease.specs.Side.{layout_in}
use Rattle.sl_lease.specs.declared.side.Side.{Side}
use Rattle.sl_sector.specs.declared.sector.Block.{Block}
use Rattle.sl_sector.specs.declared.sector.Leader.{Leader}
use Rattle.sl_sector.specs.declared.sector.Owner.{Owner}
use Rattle.sl_sector.specs.declared.sector.PairBlock.{PairBlock}
use Rattle.sl_sector.specs.declared.sector.Rec.TheVariants.{BlockIs, LeaderIs, PairIs, PairLeaderIs}
use Rattle.sl_sector.specs.declared.sector.Rec.{Rec}
use Rattle.sl_trace.specs.Ballots.{same_owner, stop_of, value_of}
use Rattle.sl_trace.specs.LeaseDecisions.{asked_again, first_step, part_read, read_of_step}
use Rattle.sl_trace.specs.Leases.{given_with, is_leader_of, is_second, name_sought}
use Rattle.sl_trace.specs.Traces.{Submitted, is_ok_answer}
use Rattle.sl_trace.specs.declared.effects.LeaseRead.TheVariants.{OfArea, OfBlock, OfFree, OfPhase1, OfPhase2}
use Rattle.sl_trace.specs.declared.effects.LeaseRead.{LeaseRead}
use Rattle.sl_trace.specs.declared.effects.LeaseStep.TheVariants.{ClearMode, FreeLeader, Phase1Read, Phase1Write, Phase2Read, Phase2Write, ReadAgain, ReadArea, ReadBeforeBlock, ReadBeforeFree, SetMode, TakeLeader}
use Rattle.sl_trace.specs.declared.effects.LeaseStep.{LeaseStep}
use Rattle.sl_trace.specs.declared.effects.Op.TheVariants.{ReadSectors, WriteRecord}
use Rattle.sl_trace.specs.declared.effects.Purpose.TheVariants.{Lease}
use Rattle.sl_trace.specs.declared.effects.Work.{Work}
use Rattle.sl_trace.specs.declared.input.Answer.TheVariants.{Failed, Read, Written}
use Rattle.sl_trace.specs.declared.input.Answer.{Answer}
use Rattle.sl_trace.specs.declared.lease.Stop.{Stop}
use Rattle.sl_words.proofs.CaseLaws.{false_is_true, none_some, true_is_false}
use Rattle.sl_words.specs.Words.{choose}
use Rattle.std.proofs.Common.{Bool, List, None, Option, Some, [], ap, ap₂, arith, cond, false, is_some, max, not, option_and_then, option_map, refl, sym, true, unwrap_or, ℕ, ◌&&◌, ◌∙◌, ◌≡◌}
use Rattle.std.specs.Option.{option_or}
use Rattle.std.specs.Prelude.{IsTrue}

-- ---- calls

none_freed : (n : ℕ) → max 0 n ≡ n
none_freed n = omega arith

reads : (m : Submitted) (work : Work) (step : LeaseStep) (n : ℕ) (l : LeaseState) → lease_calling (at_step m work step (ReadSectors n)) l ≡ after_reading m.call.number work step l
reads m work step n l = ap (λ f. let x : LeaseState = after_reading m.call.number work step l in record x { freed = f }) (none_freed l.freed)

-- A write of a block, by the record that it is in.
abbrev block_calling : Submitted → Work → LeaseStep → Rec → ℕ → LeaseState → LeaseState
block_calling m work step r freed l = let x : LeaseState = lease_calling (at_step m work step (WriteRecord r)) l in record x { freed = freed }

block_by : (m : Submitted) (work : Work) (step : LeaseStep) (b : Block) (l : LeaseState) → block_calling m work step (BlockIs b) l.freed l ≡ after_block m.call.number work step None b l
block_by m work (ReadArea name) b l = refl
block_by m work ReadBeforeFree b l = refl
block_by m work ReadBeforeBlock b l = refl
block_by m work (ReadAgain (OfArea name)) b l = refl
block_by m work (ReadAgain OfFree) b l = refl
block_by m work (ReadAgain OfBlock) b l = refl
block_by m work (ReadAgain OfPhase1) b l = refl
block_by m work (ReadAgain OfPhase2) b l = refl
block_by m work Phase1Write b l = refl
block_by m work Phase1Read b l = refl
block_by m work Phase2Write b l = refl
block_by m work Phase2Read b l = refl
block_by m work TakeLeader b l = refl
block_by m work SetMode b l = refl
block_by m work FreeLeader b l = refl
block_by m work ClearMode b l = refl

pair_by : (m : Submitted) (work : Work) (step : LeaseStep) (p : PairBlock) (l : LeaseState) → block_calling m work step (PairIs p) l.freed l ≡ after_block m.call.number work step (Some p.turn) p.block l
pair_by m work (ReadArea name) p l = refl
pair_by m work ReadBeforeFree p l = refl
pair_by m work ReadBeforeBlock p l = refl
pair_by m work (ReadAgain (OfArea name)) p l = refl
pair_by m work (ReadAgain OfFree) p l = refl
pair_by m work (ReadAgain OfBlock) p l = refl
pair_by m work (ReadAgain OfPhase1) p l = refl
pair_by m work (ReadAgain OfPhase2) p l = refl
pair_by m work Phase1Write p l = refl
pair_by m work Phase1Read p l = refl
pair_by m work Phase2Write p l = refl
pair_by m work Phase2Read p l = refl
pair_by m work TakeLeader p l = refl
pair_by m work SetMode p l = refl
pair_by m work FreeLeader p l = refl
pair_by m work ClearMode p l = refl

writes_block : (m : Submitted) (work : Work) (step : LeaseStep) (b : Block) (l : LeaseState)
    → lease_calling (at_step m work step (WriteRecord (BlockIs b))) l ≡ after_block m.call.number work step None b l
writes_block m work step b l = ap (λ f. block_calling m work step (BlockIs b) f l) (none_freed l.freed) ∙ block_by m work step b l

writes_pair : (m : Submitted) (work : Work) (step : LeaseStep) (p : PairBlock) (l : LeaseState)
    → lease_calling (at_step m work step (WriteRecord (PairIs p))) l ≡ after_block m.call.number work step (Some p.turn) p.block l
writes_pair m work step p l = ap (λ f. block_calling m work step (PairIs p) f l) (none_freed l.freed) ∙ pair_by m work step p l

writes_leader : (m : Submitted) (work : Work) (step : LeaseStep) (d : Leader) (l : LeaseState)
    → lease_calling (at_step m work step (WriteRecord (LeaderIs d))) l ≡ after_leader m.call.number work step d l
writes_leader m work step d l = refl

writes_pair_leader : (m : Submitted) (work : Work) (step : LeaseStep) (d : Leader) (l : LeaseState)
    → lease_calling (at_step m work step (WriteRecord (PairLeaderIs d))) l ≡ after_leader m.call.number work step d l
writes_pair_leader m work step d l = refl

-- ---- answers

and_true : (b : Bool) → (b && true) ≡ b
and_true true = refl
and_true false = refl

and_false : (b : Bool) → (b && false) ≡ false
and_false true = refl
and_false false = refl

abbrev nothing_verified : Option (List ℕ)
nothing_verified = None

-- The name that is verified, by the leader.
name_is : (z : Side) (name : List ℕ) (d : Option Leader) (before : List ℕ)
    → unwrap_or (option_and_then (λ l. choose (is_leader_of (layout_in z) z.lockspace name l) name) d) before ≡ name_found z name d before
name_is z name None before = refl
name_is z name (Some l) before = by (is_leader_of (layout_in z) z.lockspace name l)
  where
    by : (b : Bool) → unwrap_or (choose b name) before ≡ elim b [ true ↦ name | false ↦ before ]
    by true = refl
    by false = refl

-- ---- answers that show no blocks

-- What stops the own block's ballot where no blocks are shown.
abbrev stop_without : Option Block → Option (Option Stop)
stop_without own = option_and_then (λ b. option_map (stop_of b) None) own

no_stop : (own : Option Block) → stop_without own ≡ None
no_stop None = refl
no_stop (Some b) = refl

ballot_quiet : (heeded : Bool) (step : LeaseStep) (stop : Option (Option Stop)) (before : Option ℕ) → stop ≡ None → cond (heeded && concludes_at step stop) None before ≡ before
ballot_quiet heeded step stop before none = ap (λ s. cond (heeded && concludes_at step s) None before) none ∙ at heeded
  where
    at : (h : Bool) → cond (h && false) None before ≡ before
    at true = refl
    at false = refl

won_quiet : (heeded : Bool) (self : Owner) (step : LeaseStep) (own : Option Block) (stop : Option (Option Stop)) (settles : ℕ → Bool) (before : Option ℕ) → stop ≡ None
    → won_hearing (cond heeded (won_at self step own stop) None) settles before ≡ option_and_then (λ n. choose (not (settles n)) n) before
won_quiet heeded self step own stop settles before none =
    ap (λ s. won_hearing (cond heeded (won_at self step own s) None) settles before) none ∙ at heeded (is_last_phase step)
  where
    at : (h last : Bool) → won_hearing (cond h (cond (last && false) (option_and_then (λ b. choose (same_owner (value_of b) self) b.lver) own) None) None) settles before
        ≡ option_and_then (λ n. choose (not (settles n)) n) before
    at true true = refl
    at true false = refl
    at false last = refl

name_quiet : (sought : Option (List ℕ)) (before : List ℕ) → unwrap_or (option_and_then (λ name. nothing_verified) sought) before ≡ before
name_quiet None before = refl
name_quiet (Some name) before = refl

-- An instance that nothing settles stays.
stays : (won : Option ℕ) → option_and_then (λ n. choose true n) won ≡ won
stays None = refl
stays (Some n) = refl

-- A read without blocks settles none.
unsettled : (free : Bool) (won : Option ℕ) → option_and_then (λ n. choose (not (free && false)) n) won ≡ won
unsettled true won = stays won
unsettled false won = stays won

-- ---- a lease that hears an answer, by its parts

told_with : LeaseState → Option TopNumber → List ℕ → Option ℕ → Bool → Option ℕ → PairState → LeaseState
told_with l top name ballot shown won pair = record l { top = top; name = name; ballot = ballot; shown = shown; won = won; waiting = None; pair = pair }

-- The answer to a call of these numbers, with these blocks and this leader.
abbrev hearing_by : Side → Bool → LeaseCall → Answer → Option (List (Option Block)) → Option Leader → PairState → LeaseState → LeaseState
hearing_by z heeded w a blocks leader pair l =
    let stop : Option (Option Stop) = stop_shown l blocks in
    told_with l (top_hearing l blocks) (unwrap_or (verified_at (layout_in z) z.lockspace (Lease w.work w.step) leader) l.name)
    (cond (heeded && concludes_at w.step stop) None l.ballot)
    (l.shown && not (w.clears && is_ok_answer a))
    (won_hearing (cond heeded (won_at z.me w.step l.own stop) None) (λ n. settles_at z.me w.step w.frees leader blocks n a) l.won)
    pair

hears_by : (z : Side) (heeded : Bool) (c : OpenCall) (w : LeaseCall) (a : Answer) (l : LeaseState)
    → lease_hearing (layout_in z) z.lockspace z.me heeded (open_at_step c w.work w.step) a w l
    ≡ hearing_by z heeded w a (blocks_shown (layout_in z) l.pair w.step a) (leader_shown (layout_in z) l.pair w.step a) (pair_hearing (layout_in z) z.me.id w.step w.turn a l.pair) l
unfolding told_with
hears_by z heeded c w a l = refl

-- Where it shows no blocks.
quiet_by : (z : Side) (heeded : Bool) (w : LeaseCall) (a : Answer) (pair : PairState) (l : LeaseState) (shown : Bool) (won : Option ℕ) → (l.shown && not (w.clears && is_ok_answer a)) ≡ shown
    → option_and_then (λ n. choose (not (settles_at z.me w.step w.frees None None n a)) n) l.won ≡ won
    → hearing_by z heeded w a None None pair l ≡ told_with l l.top l.name l.ballot shown won pair
quiet_by z heeded w a pair l shown won clears settles =
    let stop : Option (Option Stop) = stop_without l.own in
    let ballot : Option ℕ = cond (heeded && concludes_at w.step stop) None l.ballot in
    let before : Option ℕ = won_hearing (cond heeded (won_at z.me w.step l.own stop) None) (λ n. settles_at z.me w.step w.frees None None n a) l.won in
    ap (λ x. told_with l l.top x ballot (l.shown && not (w.clears && is_ok_answer a)) before pair) (name_quiet (name_sought (Lease w.work w.step)) l.name)
    ∙ ap (λ x. told_with l l.top l.name x (l.shown && not (w.clears && is_ok_answer a)) before pair) (ballot_quiet heeded w.step stop l.ballot (no_stop l.own))
    ∙ ap (λ x. told_with l l.top l.name l.ballot x before pair) clears
    ∙ ap (λ x. told_with l l.top l.name l.ballot shown x pair)
    (won_quiet heeded z.me w.step l.own stop (λ n. settles_at z.me w.step w.frees None None n a) l.won (no_stop l.own) ∙ settles)

-- An answer that gave no bytes shows no leader, and nothing is kept of it.
no_leader : (step : LeaseStep) → elim (is_area_step step) as (λ z. Option Leader) [ false ↦ None | true ↦ None ] ≡ None
no_leader step = by (is_area_step step) where
  by : (b : Bool) → elim b as (λ z. Option Leader) [ false ↦ None | true ↦ None ] ≡ None
  by true = refl
  by false = refl

none_kept : (step : LeaseStep) → elim (is_second step) as (λ z. Option (List (Option PairBlock))) [ true ↦ None | false ↦ None ] ≡ None
none_kept step = by (is_second step) where
  by : (b : Bool) → elim b as (λ z. Option (List (Option PairBlock))) [ true ↦ None | false ↦ None ] ≡ None
  by true = refl
  by false = refl

write_answered : (z : Side) (heeded : Bool) (c : OpenCall) (w : LeaseCall) (l : LeaseState)
    → lease_hearing (layout_in z) z.lockspace z.me heeded (open_at_step c w.work w.step) Written w l ≡ write_told w l
unfolding told_with
write_answered z heeded c w l =
    let p : PairState = l.pair in
    hears_by z heeded c w Written l
    ∙ ap (λ d. hearing_by z heeded w Written None d (pair_hearing (layout_in z) z.me.id w.step w.turn Written p) l) (no_leader w.step)
    ∙ ap (λ o. hearing_by z heeded w Written None None (record p { turn = option_or w.turn p.turn; first = option_or o p.first }) l) (none_kept w.step)
    ∙ quiet_by z heeded w Written (turn_in w.turn p) l (l.shown && not w.clears) _ (ap (λ x. l.shown && not x) (and_true w.clears)) refl

failed : (z : Side) (heeded : Bool) (c : OpenCall) (w : LeaseCall) (l : LeaseState)
    → lease_hearing (layout_in z) z.lockspace z.me heeded (open_at_step c w.work w.step) Failed w l ≡ after_failure l
unfolding told_with
failed z heeded c w l =
    let p : PairState = l.pair in
    hears_by z heeded c w Failed l
    ∙ ap (λ d. hearing_by z heeded w Failed None d (pair_hearing (layout_in z) z.me.id w.step w.turn Failed p) l) (no_leader w.step)
    ∙ ap (λ o. hearing_by z heeded w Failed None None (record p { first = option_or o p.first }) l) (none_kept w.step)
    ∙ quiet_by z heeded w Failed p l l.shown l.won (ap (λ x. l.shown && not x) (and_false w.clears) ∙ and_true l.shown) (stays l.won)

-- ---- reads

-- A read of blocks that is not made once more.
once_is : (g : Layout) (bytes : List ℕ) (step : LeaseStep) (read : LeaseRead) → read_of_step step ≡ Some read → asked_again g bytes step ≡ None → needs_again g (part_read g bytes step) ≡ false
once_is g bytes step read is once = by (needs_again g (part_read g bytes step)) once where
  by : (b : Bool) → elim b as (λ x. Option LeaseRead) [ false ↦ None | true ↦ read_of_step step ] ≡ None → b ≡ false
  by false e = refl
  by true e = absurd (none_some read (sym e ∙ is))

-- What it gives, and that nothing is kept of it.
abbrev GivesAlone : Layout → PairState → LeaseStep → List ℕ → Type 0
GivesAlone g p step bytes = (read_heard g p step bytes ≡ Some (read_once (part_read g bytes step))) × (kept_heard g step (Read bytes) ≡ None)

alone_by : (g : Layout) (bs : List ℕ) → needs_again g bs ≡ false
    → (choose (not (needs_again g bs)) (read_once bs) ≡ Some (read_once bs)) × (choose (needs_again g bs) (pairs_kept g bs) ≡ None)
alone_by g bs once = (ap (λ b. choose (not b) (read_once bs)) once, ap (λ b. choose b (pairs_kept g bs)) once)

abbrev GivesBoth : PairState → Layout → List ℕ → Type 0
GivesBoth p g bs = given_with g true p.first (Some bs) ≡ Some (record { kept = unwrap_or p.first []; last = bs })

both_by : (g : Layout) (p : PairState) (bs : List ℕ) → IsTrue (is_some p.first) → GivesBoth p g bs
both_by g p bs = by p.first where
  by : (o : Option (List (Option PairBlock))) → IsTrue (is_some o) → given_with g true o (Some bs) ≡ Some (record { kept = unwrap_or o []; last = bs })
  by None there = absurd (false_is_true there)
  by (Some pairs) there = refl

-- A read at a step that reads blocks gave these.
read_by : (z : Side) (heeded : Bool) (work : Work) (step : LeaseStep) (number : ℕ) (bytes : List ℕ) (d : Option Leader) (read : List (Option Block)) (pair : PairState) (l : LeaseState) → is_block_step step ≡ true
    → hearing_by z heeded (record { number = number; work = work; step = step; frees = None; clears = false; turn = None }) (Read bytes) (Some read) d pair l
    ≡ (let x : LeaseState = read_told z heeded step d read l in record x { pair = pair })
unfolding told_with
read_by z heeded work (ReadArea name) number bytes d read pair l is =
    let told : LeaseState = read_told z heeded (ReadArea name) d read l in
    ap₂ (λ name shown. record told { name = name; shown = shown; pair = pair }) (name_is z name d l.name) (and_true l.shown)
read_by z heeded work ReadBeforeFree number bytes d read pair l is =
    let told : LeaseState = read_told z heeded ReadBeforeFree d read l in
    ap (λ shown. record told { shown = shown; pair = pair }) (and_true l.shown)
read_by z heeded work ReadBeforeBlock number bytes d read pair l is =
    let told : LeaseState = read_told z heeded ReadBeforeBlock d read l in
    ap (λ shown. record told { shown = shown; pair = pair }) (and_true l.shown)
read_by z heeded work (ReadAgain (OfArea name)) number bytes d read pair l is =
    let told : LeaseState = read_told z heeded (ReadAgain (OfArea name)) d read l in
    ap₂ (λ name shown. record told { name = name; shown = shown; pair = pair }) (name_is z name d l.name) (and_true l.shown)
read_by z heeded work (ReadAgain OfFree) number bytes d read pair l is =
    let told : LeaseState = read_told z heeded (ReadAgain OfFree) d read l in
    ap (λ shown. record told { shown = shown; pair = pair }) (and_true l.shown)
read_by z heeded work (ReadAgain OfBlock) number bytes d read pair l is =
    let told : LeaseState = read_told z heeded (ReadAgain OfBlock) d read l in
    ap (λ shown. record told { shown = shown; pair = pair }) (and_true l.shown)
read_by z heeded work (ReadAgain OfPhase1) number bytes d read pair l is =
    let told : LeaseState = read_told z heeded (ReadAgain OfPhase1) d read l in
    ap (λ shown. record told { shown = shown; pair = pair }) (and_true l.shown)
read_by z heeded work (ReadAgain OfPhase2) number bytes d read pair l is =
    let told : LeaseState = read_told z heeded (ReadAgain OfPhase2) d read l in
    ap (λ shown. record told { shown = shown; pair = pair }) (and_true l.shown)
read_by z heeded work Phase1Write number bytes d read pair l is = absurd (false_is_true is)
read_by z heeded work Phase1Read number bytes d read pair l is =
    let told : LeaseState = read_told z heeded Phase1Read d read l in
    ap (λ shown. record told { shown = shown; pair = pair }) (and_true l.shown)
read_by z heeded work Phase2Write number bytes d read pair l is = absurd (false_is_true is)
read_by z heeded work Phase2Read number bytes d read pair l is =
    let told : LeaseState = read_told z heeded Phase2Read d read l in
    ap (λ shown. record told { shown = shown; pair = pair }) (and_true l.shown)
read_by z heeded work TakeLeader number bytes d read pair l is = absurd (false_is_true is)
read_by z heeded work SetMode number bytes d read pair l is = absurd (false_is_true is)
read_by z heeded work FreeLeader number bytes d read pair l is = absurd (false_is_true is)
read_by z heeded work ClearMode number bytes d read pair l is = absurd (false_is_true is)

-- One at any other step tells nothing.
told_nothing : (z : Side) (heeded : Bool) (step : LeaseStep) (pair : PairState) (l : LeaseState)
    → told_with l l.top l.name (cond (heeded && concludes_at step None) None l.ballot) l.shown (won_hearing (cond heeded (won_at z.me step l.own None) None) (λ n. false) l.won) pair
    ≡ told_with l l.top l.name l.ballot l.shown l.won pair
told_nothing z heeded step pair l =
    ap (λ x. told_with l l.top l.name x l.shown (won_hearing (cond heeded (won_at z.me step l.own None) None) (λ n. false) l.won) pair) (ballot_quiet heeded step None l.ballot refl)
    ∙ ap (λ x. told_with l l.top l.name l.ballot l.shown x pair) (won_quiet heeded z.me step l.own None (λ n. false) l.won refl ∙ stays l.won)

aside : (z : Side) (heeded : Bool) (step : LeaseStep) (d : Option Leader) (read : List (Option Block)) (pair : PairState) (l : LeaseState) → is_block_step step ≡ false
    → told_with l l.top l.name l.ballot l.shown l.won pair ≡ (let x : LeaseState = read_told z heeded step d read l in record x { pair = pair })
unfolding told_with
aside z heeded (ReadArea name) d read pair l is = absurd (true_is_false is)
aside z heeded ReadBeforeFree d read pair l is = absurd (true_is_false is)
aside z heeded ReadBeforeBlock d read pair l is = absurd (true_is_false is)
aside z heeded (ReadAgain (OfArea name)) d read pair l is = absurd (true_is_false is)
aside z heeded (ReadAgain OfFree) d read pair l is = absurd (true_is_false is)
aside z heeded (ReadAgain OfBlock) d read pair l is = absurd (true_is_false is)
aside z heeded (ReadAgain OfPhase1) d read pair l is = absurd (true_is_false is)
aside z heeded (ReadAgain OfPhase2) d read pair l is = absurd (true_is_false is)
aside z heeded Phase1Write d read pair l is = sym (told_nothing z heeded Phase1Write pair l)
aside z heeded Phase1Read d read pair l is = absurd (true_is_false is)
aside z heeded Phase2Write d read pair l is = sym (told_nothing z heeded Phase2Write pair l)
aside z heeded Phase2Read d read pair l is = absurd (true_is_false is)
aside z heeded TakeLeader d read pair l is = sym (told_nothing z heeded TakeLeader pair l)
aside z heeded SetMode d read pair l is = sym (told_nothing z heeded SetMode pair l)
aside z heeded FreeLeader d read pair l is = sym (told_nothing z heeded FreeLeader pair l)
aside z heeded ClearMode d read pair l is = sym (told_nothing z heeded ClearMode pair l)

-- A call that reads, of these numbers.
abbrev read_call : LeaseCall → LeaseCall
read_call w = record w { frees = None; clears = false; turn = None }

as_read : (w : LeaseCall) → IsReadCall w → w ≡ read_call w
as_read w is =
    ap (λ o. record w { frees = o }) is.0 ∙ ap (λ b. record w { frees = None; clears = b }) is.1 ∙ ap (λ o. record w { frees = None; clears = false; turn = o }) is.2

-- What a read tells, by what it is heard to give.
module _ (z : Side) (heeded : Bool) (c : OpenCall) (w : LeaseCall) (bytes : List ℕ) (l : LeaseState) where
  abbrev g : Layout
  g = layout_in z

  abbrev p : PairState
  p = l.pair

  abbrev shown_turn : Option ℕ
  shown_turn = turn_heard g z.me.id w.step None (Read bytes)

  -- The pairs' part, by what is kept of the answer.
  abbrev kept_pair : Option (List (Option PairBlock)) → PairState
  kept_pair o = record p { turn = option_or shown_turn p.turn; first = option_or o p.first }

  abbrev leader_by : Option BlocksRead → Option Leader
  leader_by o = elim (is_area_step w.step) as (λ x. Option Leader) [ false ↦ None | true ↦ option_and_then (leader_read g bytes) o ]

  hears_read : (o : Option BlocksRead) (k : Option (List (Option PairBlock))) → read_heard g p w.step bytes ≡ o → kept_heard g w.step (Read bytes) ≡ k
      → lease_hearing g z.lockspace z.me heeded (open_at_step c w.work w.step) (Read bytes) (read_call w) l
      ≡ hearing_by z heeded (read_call w) (Read bytes) (option_map (blocks_of g) o) (leader_by o) (kept_pair k) l
  hears_read o k gives keeps =
      hears_by z heeded c (read_call w) (Read bytes) l
      ∙ ap (λ x. hearing_by z heeded (read_call w) (Read bytes) (option_map (blocks_of g) x) (leader_by x) (kept_pair (kept_heard g w.step (Read bytes))) l) gives
      ∙ ap (λ x. hearing_by z heeded (read_call w) (Read bytes) (option_map (blocks_of g) o) (leader_by o) (kept_pair x) l) keeps

  -- Where it gives nothing.
  hears_nothing : (k : Option (List (Option PairBlock))) → read_heard g p w.step bytes ≡ None → kept_heard g w.step (Read bytes) ≡ k
      → lease_hearing g z.lockspace z.me heeded (open_at_step c w.work w.step) (Read bytes) (read_call w) l ≡ told_with l l.top l.name l.ballot l.shown l.won (kept_pair k)
  hears_nothing k gives keeps =
      hears_read None k gives keeps ∙ ap (λ d. hearing_by z heeded (read_call w) (Read bytes) None d (kept_pair k) l) (no_leader w.step)
      ∙ quiet_by z heeded (read_call w) (Read bytes) (kept_pair k) l l.shown l.won (and_true l.shown) (unsettled (is_free_step w.step) l.won)

  abbrev q : BlocksRead
  q = heard_with g (first_by p w.step) w.step bytes

  -- What it gives at a step that reads blocks, and what at any other.
  gives_blocks : (step : LeaseStep) → is_block_step step ≡ true → IsGiven g p step bytes
      → (read_heard g p step bytes ≡ Some (heard_with g (first_by p step) step bytes)) × (kept_heard g step (Read bytes) ≡ None)
  gives_blocks (ReadArea name) is given = alone_by g (part_read g bytes (ReadArea name)) (once_is g bytes (ReadArea name) (OfArea name) refl given.0)
  gives_blocks ReadBeforeFree is given = alone_by g (part_read g bytes ReadBeforeFree) (once_is g bytes ReadBeforeFree OfFree refl given.0)
  gives_blocks ReadBeforeBlock is given = alone_by g (part_read g bytes ReadBeforeBlock) (once_is g bytes ReadBeforeBlock OfBlock refl given.0)
  gives_blocks (ReadAgain (OfArea name)) is given = (both_by g p (part_read g bytes (first_step (ReadAgain (OfArea name)))) (given.1 refl), refl)
  gives_blocks (ReadAgain OfFree) is given = (both_by g p (part_read g bytes (first_step (ReadAgain OfFree))) (given.1 refl), refl)
  gives_blocks (ReadAgain OfBlock) is given = (both_by g p (part_read g bytes (first_step (ReadAgain OfBlock))) (given.1 refl), refl)
  gives_blocks (ReadAgain OfPhase1) is given = (both_by g p (part_read g bytes (first_step (ReadAgain OfPhase1))) (given.1 refl), refl)
  gives_blocks (ReadAgain OfPhase2) is given = (both_by g p (part_read g bytes (first_step (ReadAgain OfPhase2))) (given.1 refl), refl)
  gives_blocks Phase1Write is given = absurd (false_is_true is)
  gives_blocks Phase1Read is given = alone_by g (part_read g bytes Phase1Read) (once_is g bytes Phase1Read OfPhase1 refl given.0)
  gives_blocks Phase2Write is given = absurd (false_is_true is)
  gives_blocks Phase2Read is given = alone_by g (part_read g bytes Phase2Read) (once_is g bytes Phase2Read OfPhase2 refl given.0)
  gives_blocks TakeLeader is given = absurd (false_is_true is)
  gives_blocks SetMode is given = absurd (false_is_true is)
  gives_blocks FreeLeader is given = absurd (false_is_true is)
  gives_blocks ClearMode is given = absurd (false_is_true is)

  gives_nothing : (step : LeaseStep) → is_block_step step ≡ false → (read_heard g p step bytes ≡ None) × (kept_heard g step (Read bytes) ≡ None)
  gives_nothing (ReadArea name) is = absurd (true_is_false is)
  gives_nothing ReadBeforeFree is = absurd (true_is_false is)
  gives_nothing ReadBeforeBlock is = absurd (true_is_false is)
  gives_nothing (ReadAgain (OfArea name)) is = absurd (true_is_false is)
  gives_nothing (ReadAgain OfFree) is = absurd (true_is_false is)
  gives_nothing (ReadAgain OfBlock) is = absurd (true_is_false is)
  gives_nothing (ReadAgain OfPhase1) is = absurd (true_is_false is)
  gives_nothing (ReadAgain OfPhase2) is = absurd (true_is_false is)
  gives_nothing Phase1Write is = (refl, refl)
  gives_nothing Phase1Read is = absurd (true_is_false is)
  gives_nothing Phase2Write is = (refl, refl)
  gives_nothing Phase2Read is = absurd (true_is_false is)
  gives_nothing TakeLeader is = (refl, refl)
  gives_nothing SetMode is = (refl, refl)
  gives_nothing FreeLeader is = (refl, refl)
  gives_nothing ClearMode is = (refl, refl)

  hears_given : IsGiven g p w.step bytes
      → lease_hearing g z.lockspace z.me heeded (open_at_step c w.work w.step) (Read bytes) (read_call w) l
      ≡ read_told z heeded w.step (leader_given g (first_by p w.step) w.step bytes) (read_given g (first_by p w.step) w.step bytes) (turn_told shown_turn l)
  hears_given given = by (is_block_step w.step) refl where
    by : (b : Bool) → is_block_step w.step ≡ b
        → lease_hearing g z.lockspace z.me heeded (open_at_step c w.work w.step) (Read bytes) (read_call w) l
        ≡ read_told z heeded w.step (leader_given g (first_by p w.step) w.step bytes) (read_given g (first_by p w.step) w.step bytes) (turn_told shown_turn l)
    by true is =
        hears_read (Some q) None (gives_blocks w.step is given).0 (gives_blocks w.step is given).1
        ∙ read_by z heeded w.work w.step w.number bytes (leader_given g (first_by p w.step) w.step bytes) (read_given g (first_by p w.step) w.step bytes) (kept_pair None) l is
    by false is =
        hears_nothing None (gives_nothing w.step is).0 (gives_nothing w.step is).1
        ∙ aside z heeded w.step (leader_given g (first_by p w.step) w.step bytes) (read_given g (first_by p w.step) w.step bytes) (kept_pair None) l is

  -- A first read of which something is kept gives nothing.
  kept_gives_nothing : (pairs : List (Option PairBlock)) → kept_heard g w.step (Read bytes) ≡ Some pairs → read_heard g p w.step bytes ≡ None
  kept_gives_nothing pairs = by (is_second w.step) (blocks_heard g w.step bytes) where
    first : (bs : List ℕ) (b : Bool) → choose b (pairs_kept g bs) ≡ Some pairs → choose (not b) (read_once bs) ≡ None
    first bs true keeps = refl
    first bs false keeps = absurd (none_some pairs keeps)

    by : (b : Bool) (o : Option (List ℕ))
        → elim b as (λ x. Option (List (Option PairBlock))) [ true ↦ None | false ↦ option_and_then (λ bs. choose (needs_again g bs) (pairs_kept g bs)) o ] ≡ Some pairs
        → given_with g b p.first o ≡ None
    by true o keeps = absurd (none_some pairs keeps)
    by false None keeps = refl
    by false (Some bs) keeps = first bs (needs_again g bs) keeps

  hears_kept : (pairs : List (Option PairBlock)) → kept_heard g w.step (Read bytes) ≡ Some pairs → l.waiting ≡ Some w
      → lease_hearing g z.lockspace z.me heeded (open_at_step c w.work w.step) (Read bytes) (read_call w) l ≡ after_kept pairs (turn_told shown_turn l)
  unfolding told_with
  hears_kept pairs keeps waits =
      hears_nothing (Some pairs) (kept_gives_nothing pairs keeps) keeps
      ∙ ap (λ o. elim o as (λ x. LeaseState) [ None ↦ turn_told shown_turn l | Some v ↦ record l { waiting = None; pair = kept_pair (Some pairs) } ]) (sym waits)

read_answered : (z : Side) (heeded : Bool) (c : OpenCall) (w : LeaseCall) (bytes : List ℕ) (l : LeaseState) → IsReadCall w → IsGiven (layout_in z) l.pair w.step bytes
    → lease_hearing (layout_in z) z.lockspace z.me heeded (open_at_step c w.work w.step) (Read bytes) w l
    ≡ read_told z heeded w.step (leader_given (layout_in z) (first_by l.pair w.step) w.step bytes) (read_given (layout_in z) (first_by l.pair w.step) w.step bytes)
    (turn_told (turn_heard (layout_in z) z.me.id w.step None (Read bytes)) l)
read_answered z heeded c w bytes l reads given =
    ap (λ x. lease_hearing (layout_in z) z.lockspace z.me heeded (open_at_step c w.work w.step) (Read bytes) x l) (as_read w reads) ∙ hears_given z heeded c w bytes l given

read_kept : (z : Side) (heeded : Bool) (c : OpenCall) (w : LeaseCall) (bytes : List ℕ) (pairs : List (Option PairBlock)) (l : LeaseState) → IsReadCall w
    → kept_heard (layout_in z) w.step (Read bytes) ≡ Some pairs → l.waiting ≡ Some w
    → lease_hearing (layout_in z) z.lockspace z.me heeded (open_at_step c w.work w.step) (Read bytes) w l
    ≡ after_kept pairs (turn_told (turn_heard (layout_in z) z.me.id w.step None (Read bytes)) l)
read_kept z heeded c w bytes pairs l reads keeps waits =
    ap (λ x. lease_hearing (layout_in z) z.lockspace z.me heeded (open_at_step c w.work w.step) (Read bytes) x l) (as_read w reads) ∙ hears_kept z heeded c w bytes l pairs keeps waits

pub hosts_keep_the_same : HostsKeepTheSame
hosts_keep_the_same = record {
  reads = reads;
  writes_block = writes_block;
  writes_pair = writes_pair;
  writes_leader = writes_leader;
  writes_pair_leader = writes_pair_leader;
  read_answered = read_answered;
  read_kept = read_kept;
  write_answered = write_answered;
  failed = failed;
}
