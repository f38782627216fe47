-- What the bars of a picture show of the world.
use Rattle.sl_draw.specs.Drawings.{AreTold, Step, drawn, lines_of_steps}
use Rattle.sl_headline.specs.PromisedRuns.{PromisedRun}
use Rattle.sl_held.specs.HeldLaws.{NamesTell}
use Rattle.sl_held.specs.HeldRows.{held_on}
use Rattle.sl_picture.specs.Fates.{is_holding}
use Rattle.sl_picture.specs.HeldBars.{bars_on}
use Rattle.sl_picture.specs.Kept.{Kept, text_at}
use Rattle.sl_picture.specs.declared.kept.Part.{Part}
use Rattle.sl_picture.specs.declared.shapes.Bar.{Bar}
use Rattle.sl_picture.specs.declared.shapes.Shape.TheVariants as shape
use Rattle.sl_report.specs.Languages.{whole_language}
use Rattle.sl_report.specs.Reports.{run_lines}
use Rattle.sl_report.specs.Schedules.{At_end, Follows, event_lines_of}
use Rattle.sl_run.specs.Runs.{AfterEachFront, Happening}
use Rattle.sl_run.specs.Safety.{world_at}
use Rattle.sl_run.specs.Worlds.{World, whole_program, world_with}
use Rattle.sl_run.specs.declared.header.Header.{Header}
use Rattle.sl_text.specs.Forms.{is_free_of}
use Rattle.std.specs.List.{list_all}
use Rattle.std.specs.Prelude.{Contains, IsTrue, List, ℕ, ◌≡◌, ◌≤◌}

-- The open bars of holdings are what the machines of the world hold.
abbrev pub ShowsHoldings : Kept → World → Type 0
ShowsHoldings k w = (m : ℕ) → bars_on k m ≡ held_on w m

-- Steps of a picture of this part, behind this header, and the promised run of their lines, which is told line by line, no line having a line
-- feed in it, and in which names tell places.
pub record IsShown (part : Part) (source : List ℕ) (h : Header) (steps : List Step) (xs : List Happening) : Type 0 where
  pub told : AreTold PromisedRun whole_language source h steps
  -- no line lies behind the part that is drawn
  pub drawn_all : (s : Step) → Contains steps s → s.line.number ≤ part.last
  pub follows : Follows (world_with whole_program h) (event_lines_of whole_language h (lines_of_steps steps)) xs At_end
  pub promised : PromisedRun whole_program h xs
  pub lines : IsTrue (list_all (is_free_of 10) (run_lines (world_with whole_program h) xs))
  pub names : AfterEachFront xs (λ now. NamesTell (world_at whole_program h now))

-- Behind each line the open bars of holdings are the world's holdings.
abbrev pub BarsAreHoldings : Type 0
BarsAreHoldings =
    (part : Part) (source : List ℕ) (h : Header) (steps : List Step) (xs : List Happening) → IsShown part source h steps xs →
    ShowsHoldings (drawn part h steps) (world_at whole_program h xs)

-- Two open bars of holdings of one resource, on two machines.
pub record AreOfOne (k : Kept) (a b : Bar) : Type 0 where
  pub opened : Contains k.opened a × Contains k.opened b
  pub held : IsTrue (is_holding a.shape) × IsTrue (is_holding b.shape)
  pub apart : a.machine ≡ b.machine → ⊥
  pub resource : text_at k.texts a.name ≡ text_at k.texts b.name

-- Both are of shared holdings.
abbrev pub BarsAreShared : Type 0
BarsAreShared =
    (part : Part) (source : List ℕ) (h : Header) (steps : List Step) (xs : List Happening) → IsShown part source h steps xs →
    (a b : Bar) → AreOfOne (drawn part h steps) a b → (a.shape ≡ shape.Shared) × (b.shape ≡ shape.Shared)
