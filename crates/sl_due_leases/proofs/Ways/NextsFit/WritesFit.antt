-- What is decided after the writes of a lease, and after the read before a free, fits.
use Rattle.sl_area.specs.AreaSizes.{Layout}
use Rattle.sl_due_leases.proofs.Ways.WaysAreLawful.BallotLaws.{read2, take_concludes, take_won, taken_own, won_own}
use Rattle.sl_due_leases.proofs.Ways.NewestCall.{block_is, block_is_no_leader, ended_before, ended_here, leader_is_no_block, lver_is, read_writes_no_block, submitted_passed}
use Rattle.sl_due_leases.proofs.Ways.NextsFit.PhasesFit.{heard_comes, heard_done, heard_read, heard_way}
use Rattle.sl_due_leases.proofs.Ways.NextsFit.SettlingsFit.{settling_is}
use Rattle.sl_due_leases.proofs.Ways.WayStages.{ReadBehind, is_at_in, rest_behind, way_behind, whole_kept}
use Rattle.sl_due_leases.specs.Ways.Nexts.{IsHeard, Moment, NextIs, calls_at, context_at, known_at, place_at}
use Rattle.sl_trace.specs.Ballots.{moded_block, same_owner}
use Rattle.sl_trace.specs.LeaseDecisions.{after_clearing, after_freeing, after_moding, after_take, first_step, leader_for, settle_next}
use Rattle.sl_trace.specs.Leases.{Phase2_write, block_submitted, block_written, concludes, ended_ballot, ended_ballots, exclusive_on, free_left, is_at, known, leader_written, lver_written, open_ballot, owed_free, settles_free, won_by}
use Rattle.sl_trace.specs.declared.lease.Aim.TheVariants.{Acquires, Converts, Releases, Settles}
use Rattle.sl_trace.specs.declared.lease.Aim.{Aim}
use Rattle.sl_trace.specs.declared.lease.LeaseNext.TheVariants.{BecomeExclusive, BecomeShared, Nothing, WriteBlock, WriteLeader}
use Rattle.sl_sector.specs.declared.sector.Block.{Block}
use Rattle.sl_sector.specs.declared.sector.Owner.{Owner}
use Rattle.sl_due_facts.specs.Facts.WayFacts.{After_mode, After_take, BeforeBlockWay, In_conversion, In_settling, ModeReason, ModeWay, ReadBeforeWay, TakeWay, WayContext, Ways}
use Rattle.sl_trace.specs.Traces.{Submitted, is_heeded}
use Rattle.sl_trace.specs.declared.effects.LeaseRead.TheVariants.{OfBlock, OfFree}
use Rattle.sl_trace.specs.declared.effects.LeaseStep.TheVariants.{ClearMode, FreeLeader, Phase2Read, ReadBeforeBlock, ReadBeforeFree, SetMode, TakeLeader}
use Rattle.sl_trace.specs.declared.effects.LeaseStep.{LeaseStep}
use Rattle.sl_trace.specs.declared.effects.Mode.TheVariants.{Exclusive, Shared}
use Rattle.sl_trace.specs.declared.effects.Mode.{Mode}
use Rattle.sl_trace.specs.declared.effects.Op.TheVariants.{ReadSectors}
use Rattle.sl_trace.specs.declared.effects.Purpose.TheVariants.{Lease}
use Rattle.sl_trace.specs.declared.effects.Purpose.{Purpose}
use Rattle.sl_trace.specs.declared.effects.Work.{Work}
use Rattle.sl_trace.specs.declared.input.Answer.TheVariants.{Read, Written}
use Rattle.sl_words.proofs.CaseLaws.{none_some, one_value, true_is_false}
use Rattle.sl_words.proofs.WordLaws.{and_true, choose_some}
use Rattle.sl_words.specs.Words.{choose, some_is}
use Rattle.std.proofs.Common.{ap, ap₂, eqb-true, refl, subst, sym, ◌∙◌}
use Rattle.std.specs.Option.{option_map_or}
use Rattle.std.specs.Prelude.{Bool, Contains, List, None, Option, Some, [], false, not, option_and_then, option_map, true, ℕ, ◌==◌, ◌∷◌, ◌≡◌}

-- ---- a ballot that isn't open stays so

no_lver : (b : Block) (o : Option ℕ) → o ≡ None → option_and_then (λ n. choose (b.lver == n) n) o ≡ None
no_lver b o none = ap (λ z. option_and_then (λ n. choose (b.lver == n) n) z) none

-- Only phase 2 opens one.
pub stays_closed : (g : Layout) (m : Submitted) (ms : List Submitted) → is_at Phase2_write m ≡ false → open_ballot g ms ≡ None → open_ballot g (m ∷ ms) ≡ None
stays_closed g m ms other none = by (block_written m) (is_at Phase2_write m) other where
  done : (c : Bool) → elim c as (λ z. Option ℕ) [ true ↦ None | false ↦ open_ballot g ms ] ≡ None
  done true = refl
  done false = none

  by : (o : Option Block) (t : Bool) → t ≡ false
      → elim o as (λ z. Option ℕ) [
        | Some b ↦ elim t as (λ z. Option ℕ) [ true ↦ Some b.lver | false ↦ option_and_then (λ n. choose (b.lver == n) n) (open_ballot g ms) ]
        | None ↦ elim (concludes g m ms) as (λ z. Option ℕ) [ true ↦ None | false ↦ open_ballot g ms ]
      ] ≡ None
  by (Some b) true is = absurd (true_is_false is)
  by (Some b) false is = no_lver b (open_ballot g ms) none
  by None t is = done (concludes g m ms)

pub no_phase2 : (m : Submitted) (p : Purpose) → m.call.purpose ≡ p → is_at_in Phase2_write p ≡ false → is_at Phase2_write m ≡ false
no_phase2 m p is other = ap (λ q. is_at_in Phase2_write q) is ∙ other

-- ---- the leader was taken

-- The own block is of the instance that was taken.
pub take_own : (w : WayContext) (work : Work) (m : Submitted) (ms : List Submitted) → Ways w ms → (h : TakeWay w work m.at m.call ms) → (b : Block) → block_submitted (m ∷ ms) ≡ Some b → b.lver ≡ h.leader.lver
take_own w work m ms ws h b is =
    let r : ReadBehind w work Phase2Read h.after.prior h.after.rest = read2 w work m.at m.call ms ws h in
    let own : block_submitted ms ≡ Some b = sym (submitted_passed m ms (leader_is_no_block w m h.leader h.wrote)) ∙ is in
    let before : block_submitted h.after.rest ≡ Some b =
    sym (submitted_passed h.after.prior h.after.rest (read_writes_no_block h.after.prior r.sectors r.reads.1)) ∙ (sym (ap (λ xs. block_submitted xs) h.after.before) ∙ own)
    in
    ap (λ (z : Block). z.lver) (one_value b _ (block_submitted h.after.rest) before (taken_own w work m.at m.call ms ws h)) ∙ won_own w work m.at m.call ms ws h

set_by : (x : Moment) → (h : IsHeard x TakeLeader (Acquires Shared) Written) → (o : Option Block) → block_submitted (calls_at x) ≡ o
    → NextIs x (option_map_or (λ own. WriteBlock SetMode (moded_block own true (known_at x).self.generation)) o Nothing)
unfolding known
set_by x h None is = tt
set_by x h (Some own) is =
    let w : TakeWay (context_at x) x.work h.call.at h.call.call h.rest = heard_way x TakeLeader (Acquires Shared) Written h in
    let before : Ways (context_at x) h.rest = (subst (λ xs. Ways (context_at x) xs) h.newest h.ways).1 in
    let lver : lver_written h.call ≡ own.lver =
    lver_is (context_at x) h.call w.leader w.wrote ∙ sym (take_own (context_at x) x.work h.call h.rest before w own (sym (ap (λ xs. block_submitted xs) h.newest) ∙ is))
    in (
      (λ c op. record {
        own = own;
        known = is;
        wrote = op;
        why = After_take (heard_comes x TakeLeader (Acquires Shared) Written h) h.aimed (heard_done x TakeLeader (Acquires Shared) h) lver;
      }),
      (refl, refl),
    )

exclusive_by : (x : Moment) (n : ℕ) (o : Option Block) → block_submitted (calls_at x) ≡ o → NextIs x (option_map_or (λ own. BecomeExclusive n (moded_block own false 0)) o Nothing)
exclusive_by x n None is = tt
exclusive_by x n (Some own) is = (own, is, refl)

pub take_is : (x : Moment) (aim : Aim) → IsHeard x TakeLeader aim Written → (n : ℕ) → NextIs x (after_take (known_at x) aim n)
unfolding known
take_is x (Acquires Exclusive) h n = tt
take_is x (Acquires Shared) h n = set_by x h (block_submitted (calls_at x)) refl
take_is x (Converts Exclusive) h n = exclusive_by x n (block_submitted (calls_at x)) refl
take_is x (Converts Shared) h n = tt
take_is x Releases h n = tt
take_is x Settles h n = tt

-- ---- the mode stands

abbrev is_acquire : Option Aim → Bool
is_acquire None = false
is_acquire (Some (Acquires mode)) = true
is_acquire (Some (Converts mode)) = false
is_acquire (Some Releases) = false
is_acquire (Some Settles) = false

-- What stands behind the mode of an acquire.
record AfterTake (x : Moment) (h_rest : List Submitted) (n : ℕ) : Type 0 where
  won : Contains (ended_ballots x.setting.layout h_rest) (n, (context_at x).self)
  closed : open_ballot x.setting.layout h_rest ≡ None

after_taking : (x : Moment) (at : ℕ) (own : Block) (rest : List Submitted) → Ways (context_at x) rest → (mode : Mode) → (context_at x).aims x.work ≡ Some (Acquires mode)
    → ModeReason (context_at x) x.work at own rest → AfterTake x rest own.lver × ((context_at x).aims x.work ≡ Some (Acquires Shared))
after_taking x at own rest ws mode aimed (After_take after its done under) =
    let w : WayContext = context_at x in
    let t : TakeWay w x.work after.prior.at after.prior.call after.rest = way_behind w rest x.work TakeLeader after ws in
    let behind : Ways w after.rest = rest_behind w rest x.work TakeLeader after ws in
    let lver : t.leader.lver ≡ own.lver = sym (lver_is w after.prior t.leader t.wrote) ∙ under in (
      record {
        won = subst (λ xs. Contains (ended_ballots x.setting.layout xs) (own.lver, w.self)) (sym after.before)
            (ended_before x.setting.layout after.prior after.rest (own.lver, w.self) (subst (λ n. Contains (ended_ballots x.setting.layout after.rest) (n, w.self)) lver (take_won w x.work after.prior.at after.prior.call after.rest t)));
        closed = ap (λ xs. open_ballot x.setting.layout xs) after.before
            ∙ stays_closed x.setting.layout after.prior after.rest (no_phase2 after.prior (Lease x.work TakeLeader) after.its refl) (take_concludes w x.work after.prior.at after.prior.call after.rest behind t);
      },
      its,
    )
after_taking x at own rest ws mode aimed (In_conversion its) = absurd (true_is_false (ap (λ o. is_acquire o) (sym aimed ∙ its)))

free_after : (x : Moment) (mode : Mode) → (h : IsHeard x SetMode (Acquires mode) Written) → NextIs x (WriteLeader FreeLeader (leader_for (place_at x) (known_at x) false (lver_written h.call)))
free_after x mode h =
    let m : ModeWay (context_at x) x.work h.call.at h.call.call h.rest = heard_way x SetMode (Acquires mode) Written h in
    let before : Ways (context_at x) h.rest = (subst (λ xs. Ways (context_at x) xs) h.newest h.ways).1 in
    let t = after_taking x h.call.at m.own h.rest before mode h.aimed m.why in
    let b : Block = moded_block m.own true (context_at x).self.generation in
    let no_leader : leader_written h.call ≡ None = block_is_no_leader (context_at x) h.rest h.call b m.wrote in
    let lver : lver_written h.call ≡ m.own.lver =
    ap (λ o. elim o as (λ z. ℕ) [ Some l ↦ l.lver | None ↦ option_map_or (λ (k : Block). k.lver) (block_written h.call) 0 ]) no_leader
    ∙ ap (λ o. option_map_or (λ (k : Block). k.lver) o 0) (block_is (context_at x) h.rest h.call b m.wrote)
    in (
      (λ c op. record {
        leader = leader_for (place_at x) (known_at x) false (lver_written h.call);
        wrote = op;
        free = refl;
        won = subst (λ xs. Contains (ended_ballots x.setting.layout xs) (lver_written h.call, (context_at x).self)) (sym h.newest)
            (ended_before x.setting.layout h.call h.rest (lver_written h.call, (context_at x).self)
            (subst (λ n. Contains (ended_ballots x.setting.layout h.rest) (n, (context_at x).self)) (sym lver) t.0.won));
        concluded = ap (λ xs. open_ballot x.setting.layout xs) h.newest
            ∙ stays_closed x.setting.layout h.call h.rest (no_phase2 h.call (Lease x.work SetMode) h.its refl) t.0.closed;
        why = After_mode (heard_comes x SetMode (Acquires mode) Written h) t.1 (heard_done x SetMode (Acquires mode) h) refl;
      }),
      refl,
    )

shared_by : (x : Moment) (o : Option ℕ) → option_map (λ g. g.lver) (exclusive_on x.trace x.session x.at) ≡ o
    → NextIs x (option_map_or (λ e. BecomeShared e (leader_for (place_at x) (known_at x) false e)) o Nothing)
shared_by x None is = tt
shared_by x (Some e) is = (is, refl, refl, refl)

pub moding_is : (x : Moment) (aim : Aim) → (h : IsHeard x SetMode aim Written) → NextIs x (after_moding (place_at x) (known_at x) aim (lver_written h.call))
unfolding known
moding_is x (Acquires mode) h = free_after x mode h
moding_is x (Converts mode) h = shared_by x (option_map (λ g. g.lver) (exclusive_on x.trace x.session x.at)) refl
moding_is x Releases h = tt
moding_is x Settles h = tt

-- ---- the leader is free, the mode is cleared

pub freeing_is : (x : Moment) (aim : Aim) → IsHeard x FreeLeader aim Written → (n : ℕ) → NextIs x (after_freeing (place_at x) (known_at x) aim n)
freeing_is x (Acquires mode) h n = tt
freeing_is x (Converts mode) h n = tt
freeing_is x Releases h n = refl
freeing_is x Settles h n = settling_is x h.ways h.aimed

pub clearing_is : (x : Moment) (aim : Aim) → IsHeard x ClearMode aim Written → NextIs x (after_clearing (place_at x) (known_at x) aim)
clearing_is x (Acquires mode) h = tt
clearing_is x (Converts mode) h = tt
clearing_is x Releases h = refl
clearing_is x Settles h = settling_is x h.ways h.aimed

-- ---- the read before a free

same_is : (a b : Owner) → same_owner a b ≡ true → a ≡ b
same_is a b h =
    let both = and_true (a.id == b.id) (a.generation == b.generation) h in
    let make : ℕ → ℕ → Owner = λ id generation. record { id = id; generation = generation } in
    ap₂ make (eqb-true a.id b.id both.0) (eqb-true a.generation b.generation both.1)

abbrev end_as : ℕ → Owner → Option (ℕ × Owner)
end_as n o = Some (n, o)

won_ended : (g : Layout) (self : Owner) (m : Submitted) (ms : List Submitted) (n : ℕ) → won_by g self m ms ≡ Some n → ended_ballot g m ms ≡ Some (n, self)
won_ended g self m ms n is = by (is_heeded m) (ended_ballot g m ms) is where
  by : (b : Bool) (o : Option (ℕ × Owner)) → elim b as (λ z. Option ℕ) [ false ↦ None | true ↦ option_and_then (λ p. choose (same_owner p.1 self) p.0) o ] ≡ Some n → o ≡ Some (n, self)
  by false o at = absurd (none_some n at)
  by true None at = absurd (none_some n at)
  by true (Some p) at = let both = choose_some (same_owner p.1 self) p.0 n at in ap₂ end_as both.1 (same_is p.1 self both.0)

left_by : (g : Layout) (self : Owner) (m : Submitted) (ms : List Submitted) (n : ℕ) (o : Option ℕ) → option_and_then (λ k. choose (not (settles_free g self k m ms)) k) o ≡ Some n → o ≡ Some n
left_by g self m ms n None is = absurd (none_some n is)
left_by g self m ms n (Some k) is = ap (λ z. Some z) (choose_some (not (settles_free g self k m ms)) k n is).1

-- A free that is left is of an instance that was won.
pub left_is_won : (g : Layout) (self : Owner) (ms : List Submitted) (n : ℕ) → free_left g self ms ≡ Some n → Contains (ended_ballots g ms) (n, self)
left_is_won g self [] n is = absurd (none_some n is)
left_is_won g self (m ∷ ms) n is = by (won_by g self m ms) refl is (left_is_won g self ms n) where
  by : (o : Option ℕ) → won_by g self m ms ≡ o
      → elim o as (λ z. Option ℕ) [ Some k ↦ Some k | None ↦ option_and_then (λ k. choose (not (settles_free g self k m ms)) k) (free_left g self ms) ] ≡ Some n
      → (free_left g self ms ≡ Some n → Contains (ended_ballots g ms) (n, self)) → Contains (ended_ballots g (m ∷ ms)) (n, self)
  by (Some k) won at before = ended_here g m ms (n, self) (won_ended g self m ms n (won ∙ at))
  by None won at before = ended_before g m ms (n, self) (before (left_by g self m ms n (free_left g self ms) at))

owed_won : (won : Option ℕ) (held : ℕ → Bool) (n : ℕ) → option_and_then (λ k. choose (not (held k)) k) won ≡ Some n → won ≡ Some n
owed_won None held n is = absurd (none_some n is)
owed_won (Some k) held n is = ap (λ z. Some z) (choose_some (not (held k)) k n is).1

-- A read opens none.
pub read_stays_closed : (g : Layout) (m : Submitted) (ms : List Submitted) (n : ℕ) → m.call.op ≡ ReadSectors n → open_ballot g ms ≡ None → open_ballot g (m ∷ ms) ≡ None
read_stays_closed g m ms n reads none =
    ap (λ o. elim o as (λ z. Option ℕ) [
      | Some b ↦ elim (is_at Phase2_write m) as (λ z. Option ℕ) [ true ↦ Some b.lver | false ↦ option_and_then (λ k. choose (b.lver == k) k) (open_ballot g ms) ]
      | None ↦ elim (concludes g m ms) as (λ z. Option ℕ) [ true ↦ None | false ↦ open_ballot g ms ]
    ]) (read_writes_no_block m n reads)
    ∙ by (concludes g m ms)
  where
    by : (b : Bool) → elim b as (λ z. Option ℕ) [ true ↦ None | false ↦ open_ballot g ms ] ≡ None
    by true = refl
    by false = none

owed_by : (x : Moment) (made : LeaseStep) (aim : Aim) (bytes : List ℕ) → first_step made ≡ ReadBeforeFree → IsHeard x made aim (Read bytes) → (o : Option ℕ) → owed_free (known_at x) ≡ o
    → NextIs x (option_map_or (λ n. WriteLeader FreeLeader (leader_for (place_at x) (known_at x) false n)) o Nothing)
unfolding known
owed_by x made aim bytes free h None is = tt
owed_by x made aim bytes free h (Some n) is =
    let b : ReadBehind (context_at x) x.work ReadBeforeFree h.call h.rest = heard_read x made aim (Read bytes) OfFree free h in
    let r : ReadBeforeWay (context_at x) x.work b.first.call b.older = b.way in (
      (λ c op. record {
        leader = leader_for (place_at x) (known_at x) false n;
        wrote = op;
        free = refl;
        won = left_is_won x.setting.layout (context_at x).self (calls_at x) n
            (owed_won (free_left x.setting.layout (context_at x).self (calls_at x)) (λ k. some_is (λ e. e == k) (known_at x).exclusive) n is);
        concluded = ap (λ xs. open_ballot x.setting.layout xs) h.newest
            ∙ whole_kept (context_at x) x.work ReadBeforeFree h.call h.rest b (λ xs. open_ballot x.setting.layout xs ≡ None) (λ m ms k reads none. read_stays_closed x.setting.layout m ms k reads none) r.concluded;
        why = In_settling r.settles;
      }),
      refl,
    )

pub before_free_is : (x : Moment) (made : LeaseStep) (aim : Aim) (bytes : List ℕ) → first_step made ≡ ReadBeforeFree → IsHeard x made aim (Read bytes)
    → NextIs x (option_map_or (λ n. WriteLeader FreeLeader (leader_for (place_at x) (known_at x) false n)) (owed_free (known_at x)) Nothing)
before_free_is x made aim bytes free h = owed_by x made aim bytes free h (owed_free (known_at x)) refl

-- The read before a block is a settling's, which goes on.
pub before_block_is : (x : Moment) (made : LeaseStep) (aim : Aim) (bytes : List ℕ) → first_step made ≡ ReadBeforeBlock → IsHeard x made aim (Read bytes) → NextIs x (settle_next (place_at x) (known_at x))
before_block_is x made aim bytes block h =
    let b : ReadBehind (context_at x) x.work ReadBeforeBlock h.call h.rest = heard_read x made aim (Read bytes) OfBlock block h in
    let r : BeforeBlockWay (context_at x) x.work b.first.call b.older = b.way in settling_is x h.ways r.settles
