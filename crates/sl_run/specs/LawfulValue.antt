-- When a session may write and read a resource's value, and what it may answer.
use Rattle.sl_area.specs.AreaSizes.{record_in}
use Rattle.sl_area.specs.AreaLayout.{value_offset}
use Rattle.sl_run.specs.LawfulArea.{is_area_work}
use Rattle.sl_run.specs.LawfulLeader.{open_writes_on}
use Rattle.sl_run.specs.LawForms.{EachCall, IsAnsweredAt}
use Rattle.sl_trace.specs.Counts.{next_value_seq}
use Rattle.sl_trace.specs.Leases.{exclusive_on, holdings_on, is_on, spot_of_call, value_written}
use Rattle.sl_sector.specs.SectorLayouts.{value_in}
use Rattle.sl_sector.specs.declared.sector.ValueRec.{ValueRec}
use Rattle.sl_trace.specs.Sessions.{calls_of, is_active, session_numbered}
use Rattle.sl_trace.specs.declared.session.Session.{Session}
use Rattle.sl_trace.specs.Traces.{Setting, Submitted, Trace, is_write}
use Rattle.sl_trace.specs.declared.effects.Entry.{Entry}
use Rattle.sl_trace.specs.declared.effects.Grant.{Grant}
use Rattle.sl_trace.specs.declared.effects.JobReply.{JobReply}
use Rattle.sl_trace.specs.declared.effects.Op.TheVariants.{ReadSectors}
use Rattle.sl_trace.specs.declared.effects.Purpose.TheVariants.{ValueRead, ValueWrite}
use Rattle.sl_trace.specs.declared.effects.Spot.{Spot}
use Rattle.sl_trace.specs.declared.input.Answer.TheVariants.{Read, Written}
use Rattle.sl_trace.specs.declared.reply.Reply.TheVariants.{Value, ValueSet}
use Rattle.std.specs.List.{list_any}
use Rattle.std.specs.Prelude.{Bool, Contains, IsTrue, List, Some, false, length, nat_le, nat_lt, not, true, [], ℕ, ◌&&◌, ◌||◌, ◌∷◌, ◌≡◌, ◌≤◌}

-- A write of a value.
pub record LawfulValueWrite (st : Setting) (es : Trace) (s : Session) (at : Spot) (v : ValueRec) : Type 0 where
  pub holding : Grant
  -- a writer without an exclusive holding could write beside a reader
  pub held : exclusive_on es s at ≡ Some holding
  -- the version tells writes apart
  pub version : (v.host ≡ s.id) × (v.lver ≡ holding.lver) × (v.seq ≡ next_value_seq st es s at v.lver)
  -- two writes could land in the other order
  pub alone : open_writes_on st es s at ≡ []

-- A read of a value.
pub record LawfulValueRead (st : Setting) (es : Trace) (s : Session) (at : Spot) (c : Submitted) : Type 0 where
  -- without a holding another may write meanwhile
  pub held : 1 ≤ length (holdings_on es s at)
  -- an own write in flight could land after the read
  pub alone : open_writes_on st es s at ≡ []
  pub whole : (c.call.offset ≡ value_offset st.layout at.base) × (c.call.op ≡ ReadSectors 1)

-- Whether the session held the resource after each of the entries from number `since` on.
abbrev pub held_since : ℕ → Trace → Session → Spot → Bool
held_since since [] s at = true
held_since since (e ∷ es) s at = (not (nat_le since (length es)) || nat_lt 0 (length (holdings_on (e ∷ es) s at))) && held_since since es s at

-- Whether the session submitted a write on the area, but of a delta record, from entry number `since` on.
abbrev pub writes_since : Setting → ℕ → Trace → Session → Spot → Bool
writes_since st since es s at =
    list_any (λ c. is_area_work c.call.purpose && (nat_le since c.at && (is_write c.call.op && is_on st.layout at c.call))) (calls_of es s)

-- The answer ok to a reader.
pub record LawfulValueReply (st : Setting) (past : Trace) (e : Entry) (job lver seq : ℕ) (bytes : List ℕ) : Type 0 where
  pub session : Session
  pub call : Submitted
  pub sector : List ℕ
  pub value : ValueRec
  pub of_session : Contains (calls_of (e ∷ past) session) call × (call.call.purpose ≡ ValueRead job)
  -- any other record with its number would be joined, active or not, at will
  pub known : session_numbered st (e ∷ past) call.call.session ≡ Some session
  -- what is told is what was read
  pub told : IsAnsweredAt (length past) call (Read sector) × (value_in (record_in st.layout sector) ≡ Some value)
      × (value.lver ≡ lver) × (value.seq ≡ seq) × (value.bytes ≡ bytes)
  -- a session in recovery or leaving may be over, and another may have written
  pub active : IsTrue (is_active st (e ∷ past) session)
  -- in a gap between two holdings another may have written
  pub held : held_since call.at (e ∷ past) session (spot_of_call st.layout call) ≡ true
  -- else the own newer value could be missed
  pub calm : writes_since st call.at (e ∷ past) session (spot_of_call st.layout call) ≡ false

-- The answer ok to a writer: it tells what was written.
pub record LawfulSetReply (past : Trace) (e : Entry) (job lver seq : ℕ) : Type 0 where
  pub session : Session
  pub call : Submitted
  pub value : ValueRec
  pub of_session : Contains (calls_of (e ∷ past) session) call × (call.call.purpose ≡ ValueWrite job)
  -- another version would be taken for the newest
  pub told : IsAnsweredAt (length past) call Written × (value_written call ≡ Some value) × (value.lver ≡ lver) × (value.seq ≡ seq)

-- Lawful values.
pub record LawfulValue (st : Setting) (past : Trace) (e : Entry) : Type 0 where
  pub writes : EachCall st (λ es s c. (v : ValueRec) → value_written c ≡ Some v → LawfulValueWrite st es s (spot_of_call st.layout c) v) past e
  pub reads : EachCall st (λ es s c. (j : ℕ) → c.call.purpose ≡ ValueRead j → LawfulValueRead st es s (spot_of_call st.layout c) c) past e
  pub replies : (a : JobReply) (lver seq : ℕ) (bytes : List ℕ) → Contains e.effects.replies a → a.reply ≡ Value lver seq bytes →
      LawfulValueReply st past e a.job lver seq bytes
  pub sets : (a : JobReply) (lver seq : ℕ) → Contains e.effects.replies a → a.reply ≡ ValueSet lver seq → LawfulSetReply past e a.job lver seq
