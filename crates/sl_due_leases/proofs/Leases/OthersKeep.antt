-- Calls that are no work on an area keep the laws of areas, blocks and leaders wherever they are made; a step that makes no other keeps them.
use Rattle.sl_due_facts.specs.Acts.TraceSoFar.{entry_of}
use Rattle.sl_due.specs.Steps.{Step, add_call_of}
use Rattle.sl_run.specs.LawfulArea.{IsRightRead, is_area_work, is_block_work, is_delta_record}
use Rattle.sl_run.specs.LawForms.{EachCall}
use Rattle.sl_due_leases.specs.Leases.LeaseLawful.{LeaseLaws, LeaseLawful}
use Rattle.sl_due_leases.proofs.Ways.WayFactsHeld.EffectsLeave.{made_call}
use Rattle.sl_due_leases.proofs.Ways.WayFactsHeld.PlacesStand.{either_list}
use Rattle.sl_due_leases.proofs.Ways.WayFactsHeld.PlainWalks.{ByPlain}
use Rattle.sl_due_leases.proofs.Ways.WayStages.{is_at_in}
use Rattle.sl_trace.specs.Leases.{Phase2_read, block_of_record, block_written, is_second, leader_of_record, leader_written, lease_step, spot_of_call, turn_of_record, turn_written}
use Rattle.sl_sector.specs.declared.sector.Rec.TheVariants.{BlockIs, DeltaIs, LeaderIs, PairIs, PairLeaderIs, RequestIs, ValueIs}
use Rattle.sl_sector.specs.declared.sector.Rec.{Rec}
use Rattle.sl_trace.specs.declared.session.Session.{Session}
use Rattle.sl_trace.specs.Traces.{Setting, Submitted, Trace, record_of}
use Rattle.sl_trace.specs.declared.effects.Call.{Call}
use Rattle.sl_trace.specs.declared.effects.Op.{Op}
use Rattle.sl_trace.specs.declared.effects.Purpose.TheVariants.{Joining, Lease, Leaving, Renewal, RequestRead, RequestWrite, SeeRequest, Survey, ValueRead, ValueWrite}
use Rattle.sl_trace.specs.declared.effects.Purpose.{Purpose}
use Rattle.sl_trace.specs.declared.effects.Spot.{Spot}
use Rattle.sl_trace.specs.declared.reply.Reply.{Reply}
use Rattle.sl_words.proofs.Lists.{contains_cases, contains_none, got_inside}
use Rattle.sl_words.proofs.CaseLaws.{false_is_true, no_value, true_is_false}
use Rattle.sl_words.proofs.WordLaws.{and_true}
use Rattle.sl_words.specs.Words.{some_is}
use Rattle.std.proofs.Common.{inl, inr, refl, subst, sym, ◌∙◌}
use Rattle.std.specs.Prelude.{Contains, List, None, Option, Some, [], false, option_and_then, true, ℕ, ◌∷◌, ◌≡◌, ◌⊎◌}

-- A call that is no work on an area, nor a look at a request, and writes no record but a delta record.
pub record IsOther (p : Purpose) (op : Op) : Type 0 where
  pub plain : is_area_work p ≡ false
  pub unseen : p ≡ SeeRequest → ⊥
  pub delta : (r : Rec) → record_of op ≡ Some r → is_delta_record r ≡ true

plain_block : (o : Option Rec) → ((r : Rec) → o ≡ Some r → is_delta_record r ≡ true) → option_and_then block_of_record o ≡ None
plain_block None h = refl
plain_block (Some (BlockIs b)) h = absurd (false_is_true (h (BlockIs b) refl))
plain_block (Some (DeltaIs d)) h = refl
plain_block (Some (LeaderIs l)) h = refl
plain_block (Some (RequestIs r)) h = refl
plain_block (Some (ValueIs v)) h = refl
plain_block (Some (PairIs b)) h = absurd (false_is_true (h (PairIs b) refl))
plain_block (Some (PairLeaderIs l)) h = refl

plain_leader : (o : Option Rec) → ((r : Rec) → o ≡ Some r → is_delta_record r ≡ true) → option_and_then leader_of_record o ≡ None
plain_leader None h = refl
plain_leader (Some (LeaderIs l)) h = absurd (false_is_true (h (LeaderIs l) refl))
plain_leader (Some (DeltaIs d)) h = refl
plain_leader (Some (BlockIs b)) h = refl
plain_leader (Some (RequestIs r)) h = refl
plain_leader (Some (ValueIs v)) h = refl
plain_leader (Some (PairIs b)) h = refl
plain_leader (Some (PairLeaderIs l)) h = absurd (false_is_true (h (PairLeaderIs l) refl))

plain_turn : (o : Option Rec) → ((r : Rec) → o ≡ Some r → is_delta_record r ≡ true) → option_and_then turn_of_record o ≡ None
plain_turn None h = refl
plain_turn (Some (LeaderIs l)) h = refl
plain_turn (Some (DeltaIs d)) h = refl
plain_turn (Some (BlockIs b)) h = refl
plain_turn (Some (RequestIs r)) h = refl
plain_turn (Some (ValueIs v)) h = refl
plain_turn (Some (PairIs b)) h = absurd (false_is_true (h (PairIs b) refl))
plain_turn (Some (PairLeaderIs l)) h = refl

pub plain_read : (st : Setting) (at : Spot) (c : Submitted) (p : Purpose) → is_area_work p ≡ false → IsRightRead st at c p
plain_read st at c (Lease work step) none = absurd (true_is_false none)
plain_read st at c (RequestRead j) none = absurd (true_is_false none)
plain_read st at c (RequestWrite j o) none = tt
plain_read st at c (ValueWrite j) none = tt
plain_read st at c (ValueRead j) none = tt
plain_read st at c (Joining j step) none = tt
plain_read st at c Renewal none = tt
plain_read st at c Survey none = tt
plain_read st at c (Leaving j) none = tt
plain_read st at c SeeRequest none = tt

pub plain_at : (p : Purpose) → is_area_work p ≡ false → is_at_in Phase2_read p ≡ true → ⊥
plain_at (Lease work step) none at = true_is_false none
plain_at (RequestRead j) none at = false_is_true at
plain_at (RequestWrite j o) none at = false_is_true at
plain_at (ValueWrite j) none at = false_is_true at
plain_at (ValueRead j) none at = false_is_true at
plain_at (Joining j step) none at = false_is_true at
plain_at Renewal none at = false_is_true at
plain_at Survey none at = false_is_true at
plain_at (Leaving j) none at = false_is_true at
plain_at SeeRequest none at = false_is_true at

-- Nor is it a lease's read that is made once more.
pub plain_again : (p : Purpose) → is_area_work p ≡ false → some_is (λ q. is_second q.1) (lease_step p) ≡ true → ⊥
plain_again (Lease work step) none again = true_is_false none
plain_again (RequestRead j) none again = false_is_true again
plain_again (RequestWrite j o) none again = false_is_true again
plain_again (ValueWrite j) none again = false_is_true again
plain_again (ValueRead j) none again = false_is_true again
plain_again (Joining j step) none again = false_is_true again
plain_again Renewal none again = false_is_true again
plain_again Survey none again = false_is_true again
plain_again (Leaving j) none again = false_is_true again
plain_again SeeRequest none again = false_is_true again

pub other_is_lawful : (st : Setting) (t : Trace) (s : Session) (c : Submitted) → IsOther c.call.purpose c.call.op → LeaseLawful st t s c
other_is_lawful st t s c o =
    record {
      active = λ area. absurd (true_is_false (sym area ∙ o.plain));
      writes = λ r is none. absurd (true_is_false (sym (o.delta r is) ∙ none));
      alone = λ works. absurd (true_is_false (sym (and_true (is_block_work c) (is_area_work c.call.purpose) works).1 ∙ o.plain));
      reads = plain_read st (spot_of_call st.layout c) c c.call.purpose o.plain;
      sees = λ is. absurd (o.unseen is);
      again = λ is. absurd (plain_again c.call.purpose o.plain is);
      turn = λ turn is. absurd (no_value turn (turn_written c) is (plain_turn (record_of c.call.op) o.delta));
      block = λ b is. absurd (no_value b (block_written c) is (plain_block (record_of c.call.op) o.delta));
      phase2 = λ at. absurd (plain_at c.call.purpose o.plain at);
      leader = λ l is. absurd (no_value l (leader_written c) is (plain_leader (record_of c.call.op) o.delta));
    }

-- ---- of a step

-- What the laws ask of each call of the newest entry.
abbrev pub LawfulSoFar : Step → Type 0
LawfulSoFar x = EachCall x.setting (LeaseLawful x.setting) x.past (entry_of x)

-- Each call of the newest entry is such another.
abbrev pub Others : Step → Type 0
Others x = (c : Call) → Contains x.effects.calls c → IsOther c.purpose c.op

pub others_are_lawful : (x : Step) → Others x → LawfulSoFar x
others_are_lawful x h k c s at its = other_is_lawful x.setting _ s _ (h c (got_inside x.effects.calls k c at))

pub laws_of : (x : Step) → LawfulSoFar x → LeaseLaws x
laws_of x h =
    record {
      area = record {
        active = λ k c s at its. (h k c s at its).active;
        writes = λ k c s at its. (h k c s at its).writes;
        alone = λ k c s at its. (h k c s at its).alone;
        reads = λ k c s at its. (h k c s at its).reads;
        sees = λ k c s at its. (h k c s at its).sees;
        agains = λ k c s at its. (h k c s at its).again;
      };
      block = record { turns = λ k c s at its. (h k c s at its).turn; writes = λ k c s at its. (h k c s at its).block; reads = λ k c s at its. (h k c s at its).phase2 };
      leader = record { writes = λ k c s at its. (h k c s at its).leader };
    }

pub lawful_by : (x : Step) → LeaseLaws x → LawfulSoFar x
lawful_by x h k c s at its =
    record {
      active = h.area.active k c s at its;
      writes = h.area.writes k c s at its;
      alone = h.area.alone k c s at its;
      reads = h.area.reads k c s at its;
      sees = h.area.sees k c s at its;
      again = h.area.agains k c s at its;
      turn = h.block.turns k c s at its;
      block = h.block.writes k c s at its;
      phase2 = h.block.reads k c s at its;
      leader = h.leader.writes k c s at its;
    }

-- A step without calls.
pub no_others : (x : Step) → x.effects.calls ≡ [] → Others x
no_others x bare c there = absurd (contains_none c (subst (λ cs. Contains cs c) bare there))

abbrev pub Any : Reply → Type 0
Any r = Unit {0}

-- Other effects leave the calls.
pub by_others : ByPlain Any Others
by_others =
    record {
      ends = λ x e h. h;
      signals = λ x p s h. h;
      moves = λ x m h. h;
      grants = λ x g h. h;
      starts = λ x s h. h;
      replies = λ x j r may h. h;
      late = λ r late. tt;
    }

-- One more other call.
pub other_more : (x : Step) (n : ℕ) (path : List ℕ) (p : Purpose) (o : ℕ) (op : Op) → IsOther p op → Others x → Others (add_call_of n path p o op x)
other_more x n path p o op is h c there = by (either_list x.effects.calls (made_call x n path p o op ∷ []) c there) where
  by : Contains x.effects.calls c ⊎ Contains (made_call x n path p o op ∷ []) c → IsOther c.purpose c.op
  by (inl old) = h c old
  by (inr new) = elim (contains_cases (made_call x n path p o op) [] c new) [ inl same ↦ subst (λ (d : Call). IsOther d.purpose d.op) same is | inr none ↦ absurd (contains_none c none) ]
