-- Traces by literal answers, of which a world would not give each: what is due on them keeps every law, and each ok reply has its cause.
use Rattle.sl_area.specs.AreaSizes.{layout_with, sector_with}
use Rattle.sl_area.specs.AreaRecords.{no_request}
use Rattle.sl_due.specs.Due.{due}
use Rattle.sl_examples.specs.CauseTests.{uncaused_in}
use Rattle.sl_examples.specs.CheapDigest.{cheap_digest}
use Rattle.sl_examples.specs.LawTests.{broken_in}
use Rattle.sl_examples.specs.HandmadeTraces.{block, leader}
use Rattle.sl_sector.specs.declared.sector.Rec.TheVariants.{RequestIs}
use Rattle.sl_trace.specs.CommandForms.{command_in, forms}
use Rattle.sl_trace.specs.Traces.{Setting, Trace}
use Rattle.sl_trace.specs.declared.input.Answer.TheVariants.{Failed, Read, Written}
use Rattle.sl_trace.specs.declared.input.Input.TheVariants.{Answer as Told, Exit, Line, Wake}
use Rattle.sl_trace.specs.declared.input.Input.{Input}
use Rattle.sl_words.specs.Words.{is_empty}
use Rattle.std.specs.Prelude.{Bool, List, codes, false, fold, true, [], ℕ, ◌&&◌, ◌++◌, ◌∷◌}

-- One given session of two hosts, on the first area of the disk.
abbrev pub own_setting : Setting
own_setting =
    record {
      timing = record { io = 100; fire = 600; land = 100; rho = 0 };
      grace = 300;
      layout = layout_with cheap_digest (record { sector = 512; area = 1048576; hosts = 2; paired = false });
      machine = 1;
      name = codes "a";
      first = record { call = 1; job = 1 };
      given = record { lockspace = codes "ls"; id = 1; path = codes "/d"; offset = 0; renewed = 0 } ∷ [];
      read = command_in (forms (layout_with cheap_digest (record { sector = 512; area = 1048576; hosts = 2; paired = false })));
    }

-- One more entry that does what is due.
abbrev pub then_due : Trace → ℕ × Input → Trace
then_due es p = record { reading = p.0; input = p.1; effects = due own_setting es p.0 p.1 } ∷ es

-- All that is due, input by input.
abbrev pub due_trace : List (ℕ × Input) → Trace
due_trace is = fold then_due [] is

-- The blocks of the two hosts, the first as given.
abbrev pub blocks_with : ℕ → ℕ → ℕ → ℕ → ℕ → List ℕ
blocks_with lver mbal bal inp generation =
    sector_with own_setting.layout (block 1 false lver mbal bal inp generation) ++ sector_with own_setting.layout (block 2 false 0 0 0 0 0)

-- An area as a resource's is at first.
abbrev pub fresh_area : List ℕ
fresh_area =
    sector_with own_setting.layout (leader false 0 0 0 (codes "ls")) ++ sector_with own_setting.layout (RequestIs no_request) ++ blocks_with 0 0 0 0 0

-- .. and where the session has won the first instance.
abbrev pub held_area : List ℕ
held_area =
    sector_with own_setting.layout (leader true 1 1 1 (codes "ls")) ++ sector_with own_setting.layout (RequestIs no_request) ++ blocks_with 1 1 1 1 1

-- A resource at the place of the session's own lockspace, its leader read there: a renewal stands open on that area beside each call of the
-- lease, from phase 1 to a settling's free.
abbrev pub on_own_area : Trace
on_own_area =
    due_trace (
    (199, Line (codes "acquire -r ls:r:/d:0 -p 7")) ∷ (200, Wake) ∷ (201, Told 1 (Read fresh_area)) ∷ (202, Told 3 Written)
    ∷ (203, Told 4 (Read (blocks_with 1 1 0 0 0))) ∷ (204, Told 5 Written) ∷ (205, Told 6 (Read (blocks_with 1 1 1 1 1))) ∷ (206, Told 7 Written)
    ∷ (210, Told 2 Written) ∷ (220, Told 8 Failed) ∷ (230, Exit 7) ∷ (240, Wake) ∷ (400, Wake) ∷ (401, Told 9 (Read held_area)) ∷ (402, Told 11 Written) ∷ [])

-- An orphan stands, and an exit comes of the number of no process.
abbrev pub exit_of_none : Trace
exit_of_none =
    due_trace (
    (0, Line (codes "acquire -r ls:r:/d:1048576 -p 7 -P 1")) ∷ (1, Told 1 (Read fresh_area)) ∷ (2, Told 2 Written)
    ∷ (3, Told 3 (Read (blocks_with 1 1 0 0 0))) ∷ (4, Told 4 Written) ∷ (5, Told 5 (Read (blocks_with 1 1 1 1 1))) ∷ (6, Told 6 Written)
    ∷ (7, Exit 7) ∷ (8, Exit 0) ∷ [])

-- Whether a trace keeps the laws, and its ok replies have their causes.
abbrev pub keeps_all : Trace → Bool
keeps_all es = is_empty (broken_in own_setting es) && is_empty (uncaused_in own_setting es)
