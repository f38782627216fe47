-- Traces that a law refuses, said of the law itself.
use Rattle.sl_area.specs.AreaSizes.{layout_with, sector_with}
use Rattle.sl_area.specs.AreaRecords.{no_request}
use Rattle.sl_examples.specs.CheapDigest.{cheap_digest}
use Rattle.sl_examples.specs.HandmadeTraces.{block, leader, quiet_entry, reads, with_calls, with_moves, writes}
use Rattle.sl_run.specs.LawfulArea.{LawfulArea}
use Rattle.sl_run.specs.LawfulDelta.{LawfulDelta}
use Rattle.sl_run.specs.LawfulParting.{LawfulParting}
use Rattle.sl_sector.specs.Bitmaps.{no_bits}
use Rattle.sl_sector.specs.declared.sector.DeltaRec.{DeltaRec}
use Rattle.sl_sector.specs.declared.sector.DeltaState.TheVariants.{Live}
use Rattle.sl_sector.specs.declared.sector.Rec.TheVariants.{DeltaIs, RequestIs}
use Rattle.sl_trace.specs.declared.session.Session.{Session}
use Rattle.sl_trace.specs.CommandForms.{command_in, forms}
use Rattle.sl_trace.specs.Traces.{Setting}
use Rattle.sl_trace.specs.declared.effects.Call.{Call}
use Rattle.sl_trace.specs.declared.effects.Entry.{Entry}
use Rattle.sl_trace.specs.declared.effects.LeaseStep.TheVariants.{Phase1Write, ReadArea}
use Rattle.sl_trace.specs.declared.effects.Move.TheVariants.{Unregister}
use Rattle.sl_trace.specs.declared.effects.Purpose.TheVariants.{Lease, Renewal}
use Rattle.sl_trace.specs.declared.effects.Work.TheVariants.{ForJob, Settling}
use Rattle.sl_trace.specs.declared.input.Answer.TheVariants.{Read}
use Rattle.sl_trace.specs.declared.input.Input.TheVariants.{Answer as Told, Line, Wake}
use Rattle.std.specs.Prelude.{List, None, Some, codes, false, [], ℕ, ◌++◌, ◌∷◌}

abbrev pub st : Setting
st =
    record {
      timing = record { io = 100; fire = 600; land = 100; rho = 0 };
      grace = 300;
      layout = layout_with cheap_digest (record { sector = 512; area = 1048576; hosts = 2; paired = false });
      machine = 1;
      name = codes "a";
      first = record { call = 1; job = 1 };
      given = record { lockspace = codes "ls"; id = 1; path = codes "/d"; offset = 0; renewed = 0 } ∷ [];
      read = command_in (forms (layout_with cheap_digest (record { sector = 512; area = 1048576; hosts = 2; paired = false })));
    }

abbrev pub session_a : Session
session_a =
    record { number = 0; job = None; lockspace = codes "ls"; id = 1; path = codes "/d"; offset = 0; renewed = 0 }

-- the area as it was at first
abbrev pub fresh_area : List ℕ
fresh_area =
    sector_with st.layout (leader false 0 0 0 (codes "ls")) ++ sector_with st.layout (RequestIs no_request)
    ++ sector_with st.layout (block 1 false 0 0 0 0 0) ++ sector_with st.layout (block 2 false 0 0 0 0 0)

abbrev pub asked : Entry
asked = with_calls (reads 1 (Lease (ForJob 1) (ReadArea (codes "r"))) 1048576 4 ∷ []) (quiet_entry 0 (Line (codes "acquire -r ls:r:/d:1048576 -p 7")))

abbrev pub begun : Entry
begun = with_calls (writes 2 (Lease (ForJob 1) Phase1Write) 1049600 (block 1 false 1 1 0 0 0) ∷ []) (quiet_entry 0 (Told 1 (Read fresh_area)))

-- ---- a second block write while the first is unanswered

abbrev pub second_call : Call
second_call = writes 3 (Lease Settling Phase1Write) 1049600 (block 1 false 1 3 0 0 0)

abbrev pub second : Entry
second = with_calls (second_call ∷ []) (quiet_entry 100 Wake)

-- ---- a removal of an idle session's connection

abbrev pub removing : Entry
removing = with_moves (Unregister (codes "ls") ∷ []) (quiet_entry 0 Wake)

-- ---- a renewal with an old seq

abbrev pub stale : DeltaRec
stale = record { state = Live; id = 1; generation = 1; seq = 1; stamp = 200; lockspace = codes "ls"; host = Some (codes "a"); bitmap = no_bits }

abbrev pub stale_call : Call
stale_call = writes 1 Renewal 0 (DeltaIs stale)

abbrev pub renewing_entry : Entry
renewing_entry = with_calls (stale_call ∷ []) (quiet_entry 200 Wake)

-- Each is refused.
pub record LawsRefuse : Type 0 where
  pub not_alone : LawfulArea st (begun ∷ asked ∷ []) second → ⊥
  pub not_parted : LawfulParting st [] removing → ⊥
  pub not_rising : LawfulDelta st [] renewing_entry → ⊥
