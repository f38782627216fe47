-- A search for the law of work on areas, in a run without pairs, requests and values.
use Rattle.sl_area.specs.AreaLayout.{area_sectors, block_offset, block_sectors}
use Rattle.sl_run.specs.LawfulArea.{HasVerified, IsAreaRead, IsBlockRead, IsLeaseRead, IsRightRead, LawfulAgain, LawfulArea, LawfulAreaWrite, LawfulLeaseRead, is_area_work, is_block_work, is_delta_record, is_of_format, leaders_read, open_block_work, record_offset}
use Rattle.sl_trace.specs.Leases.{is_again, is_leader_of, spot_of_call, turn_of_record}
use Rattle.sl_sector.specs.declared.sector.Leader.{Leader}
use Rattle.sl_sector.specs.declared.sector.PairBlock.{PairBlock}
use Rattle.sl_sector.specs.declared.sector.Rec.TheVariants.{PairIs}
use Rattle.sl_sector.specs.declared.sector.Rec.{Rec}
use Rattle.sl_trace.specs.Sessions.{is_active, joined_after}
use Rattle.sl_trace.specs.declared.session.Session.{Session}
use Rattle.sl_trace.specs.Traces.{Setting, Submitted, Trace, is_write, record_of}
use Rattle.sl_trace.specs.declared.effects.Entry.{Entry}
use Rattle.sl_trace.specs.declared.effects.LeaseStep.TheVariants.{ClearMode, FreeLeader, Phase1Read, Phase1Write, Phase2Read, Phase2Write, ReadAgain, ReadArea, ReadBeforeBlock, ReadBeforeFree, SetMode, TakeLeader}
use Rattle.sl_trace.specs.declared.effects.LeaseStep.{LeaseStep}
use Rattle.sl_trace.specs.declared.effects.Purpose.TheVariants.{Lease, Renewal, SeeRequest, Survey}
use Rattle.sl_trace.specs.declared.effects.Purpose.{Purpose}
use Rattle.sl_trace.specs.declared.effects.Spot.{Spot}
use Rattle.sl_examples.proofs.Witness.EachSearch.{seek_each_call}
use Rattle.sl_examples.proofs.Witness.LeaderSearch.{verified_by}
use Rattle.sl_examples.proofs.Witness.EqualitySearch.{not_seen, seek_read_op, sees, some_same}
use Rattle.sl_examples.proofs.Witness.ProofSearch.{seek_any, seek_empty, seek_false, seek_for, seek_if, seek_none, seek_same, seek_true, ◌>>=◌}
use Rattle.sl_words.proofs.CaseLaws.{none_some, not_both}
use Rattle.std.proofs.Common.{ap, sym, ◌∙◌}
use Rattle.std.specs.Prelude.{IsFalse, IsTrue, None, Option, Some, is_some, ℕ, ◌&&◌, ◌≡◌, []}

-- A leader that the session has read there, and that names its lockspace.
abbrev pub seek_verified : (st : Setting) (es : Trace) (s : Session) (at : Spot) → Option ((l : Leader) × HasVerified st es s at l.resource)
seek_verified st es s at = do
  l ← seek_any (λ l. IsTrue (is_leader_of st.layout s.lockspace l.resource l)) (λ l. seek_true (is_leader_of st.layout s.lockspace l.resource l)) (leaders_read st es s at)
  Some (l.0, verified_by st es s at l.0.resource (l.0, l.1, l.2))

-- A record that is no pair's.
pub no_pair : (r : Rec) → turn_of_record r ≡ None → (p : PairBlock) → r ≡ PairIs p → ⊥
no_pair r none p is = none_some p.turn (sym none ∙ ap (λ x. turn_of_record x) is)

abbrev pub seek_place : (o : Option ℕ) (n : ℕ) → Option (o ≡ Some n)
seek_place None n = None
seek_place (Some m) n = do
  h ← seek_same m n
  Some (some_same m n h)

abbrev pub seek_area_write : (st : Setting) (es : Trace) (s : Session) (c : Submitted) (r : Rec) → Option (LawfulAreaWrite st es s c r)
seek_area_write st es s c r = do
  verified ← seek_verified st es s (spot_of_call st.layout c)
  placed ← seek_place (record_offset st s (spot_of_call st.layout c) r) c.call.offset
  format ← seek_true (is_of_format st.layout r)
  single ← seek_none (turn_of_record r)
  Some (record { resource = verified.0.resource; verified = verified.1; placed = placed; format = format; named = λ p is. absurd (no_pair r single p is) })

-- What is asked of a record that a call writes.
abbrev pub WritesWell : Setting → Trace → Session → Submitted → Rec → Type 0
WritesWell st es s c r = IsFalse (is_delta_record r) → IsTrue (is_area_work c.call.purpose) × LawfulAreaWrite st es s c r

abbrev pub seek_writes_well : (st : Setting) (es : Trace) (s : Session) (c : Submitted) (r : Rec) → Option (WritesWell st es s c r)
seek_writes_well st es s c r = elim (seek_true (is_delta_record r)) [
  | Some h ↦ Some (λ other. absurd (not_both (is_delta_record r) h other))
  | None ↦ do
    work ← seek_true (is_area_work c.call.purpose)
    write ← seek_area_write st es s c r
    Some (λ h. (work, write))
]

abbrev pub seek_area_read : (st : Setting) (at : Spot) (c : Submitted) → Option (IsAreaRead st at c)
seek_area_read st at c = do
  offset ← seek_same c.call.offset at.base
  op ← seek_read_op c.call.op (area_sectors st.layout)
  Some (offset, op)

abbrev pub seek_block_read : (st : Setting) (at : Spot) (c : Submitted) → Option (IsBlockRead st at c)
seek_block_read st at c = do
  offset ← seek_same c.call.offset (block_offset st.layout at.base 1)
  op ← seek_read_op c.call.op (block_sectors st.layout)
  Some (offset, op)

abbrev pub seek_lease_read : (st : Setting) (at : Spot) (c : Submitted) (step : LeaseStep) → Option (IsLeaseRead st at c step)
seek_lease_read st at c (ReadArea name) = seek_area_read st at c
seek_lease_read st at c ReadBeforeFree = seek_area_read st at c
seek_lease_read st at c ReadBeforeBlock = None
seek_lease_read st at c (ReadAgain read) = None
seek_lease_read st at c Phase1Read = seek_block_read st at c
seek_lease_read st at c Phase2Read = seek_block_read st at c
seek_lease_read st at c Phase1Write = seek_true (is_write c.call.op)
seek_lease_read st at c Phase2Write = seek_true (is_write c.call.op)
seek_lease_read st at c TakeLeader = seek_true (is_write c.call.op)
seek_lease_read st at c SetMode = seek_true (is_write c.call.op)
seek_lease_read st at c FreeLeader = seek_true (is_write c.call.op)
seek_lease_read st at c ClearMode = None

abbrev pub seek_right_read : (st : Setting) (at : Spot) (c : Submitted) (p : Purpose) → Option (IsRightRead st at c p)
seek_right_read st at c (Lease work step) = seek_lease_read st at c step
seek_right_read st at c Renewal = Some tt
seek_right_read st at c Survey = Some tt
seek_right_read st at c p = None

abbrev pub seek_sees : (es : Trace) (s : Session) (p : Purpose) → Option (p ≡ SeeRequest → IsTrue (is_some (joined_after es s)))
seek_sees es s p = do
  h ← seek_false (sees p)
  Some (λ is. absurd (not_seen p h is))

pub none_again : (st : Setting) (es : Trace) (s : Session) (c : Submitted) → IsFalse (is_again c) → IsTrue (is_again c) → LawfulAgain st es s (spot_of_call st.layout c) c
none_again st es s c once again = absurd (not_both (is_again c) again once)

abbrev pub seek_none_again : (st : Setting) (es : Trace) (s : Session) (c : Submitted) → Option (IsTrue (is_again c) → LawfulAgain st es s (spot_of_call st.layout c) c)
seek_none_again st es s c = do
  once ← seek_false (is_again c)
  Some (none_again st es s c once)

abbrev pub seek_areas : (st : Setting) (past : Trace) (e : Entry) → Option (LawfulArea st past e)
seek_areas st past e = do
  active ← seek_each_call st (λ es s c. IsTrue (is_area_work c.call.purpose) → IsTrue (is_active st es s))
      (λ es s c. seek_if (is_area_work c.call.purpose) (seek_true (is_active st es s))) past e
  writes ← seek_each_call st (λ es s c. (r : Rec) → record_of c.call.op ≡ Some r → WritesWell st es s c r)
      (λ es s c. seek_for (WritesWell st es s c) (record_of c.call.op) (seek_writes_well st es s c)) past e
  alone ← seek_each_call st (λ es s c. IsTrue (is_block_work c && is_area_work c.call.purpose) → open_block_work st es s (spot_of_call st.layout c) ≡ [])
      (λ es s c. seek_if (is_block_work c && is_area_work c.call.purpose) (seek_empty (open_block_work st es s (spot_of_call st.layout c)))) past e
  reads ← seek_each_call st (λ es s c. LawfulLeaseRead st c) (λ es s c. seek_right_read st (spot_of_call st.layout c) c c.call.purpose) past e
  seen ← seek_each_call st (λ es s c. c.call.purpose ≡ SeeRequest → IsTrue (is_some (joined_after es s))) (λ es s c. seek_sees es s c.call.purpose) past e
  agains ← seek_each_call st (λ es s c. IsTrue (is_again c) → LawfulAgain st es s (spot_of_call st.layout c) c) (λ es s c. seek_none_again st es s c) past e
  Some (record { active = active; writes = writes; alone = alone; reads = reads; sees = seen; agains = agains })
