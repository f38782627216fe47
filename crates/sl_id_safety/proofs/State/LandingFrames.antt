-- The landings of an id go on: old ones stay, and one more is a landing of the id.
use Rattle.sl_id_safety.proofs.State.SectorFrames.{SameSector, every_numbered, landing_same}
use Rattle.sl_id_safety.specs.State.IdStates.{id_state, landing_of, said_by, writer_of}
use Rattle.sl_ids.specs.Listed.{no_landing}
use Rattle.sl_ids.specs.State.{Content, Landing as IdLanding, SessionId as IdName}
use Rattle.sl_ids.specs.Steps.{Lands, SameLandings}
use Rattle.sl_run.specs.Worlds.{Landing, World, history_of}
use Rattle.sl_run_law.specs.FatesStay.{Every}
use Rattle.sl_run_law.proofs.Sample.LandingNumbers.{newest_number, number_stays}
use Rattle.sl_run_law.specs.Sample.Samples.{numbered_landing}
use Rattle.std.proofs.Common.{ap, arith, refl, sym, tests, ◌∙◌}
use Rattle.std.specs.Option.{option_map_or}
use Rattle.std.specs.Prelude.{Bool, List, Option, Some, false, length, true, [], ℕ, ◌++◌, ◌+◌, ◌<◌, ◌==◌, ◌∷◌, ◌≡◌}

pub not_newest : (k n : ℕ) → (k == n) ≡ false → k < n + 1 → k < n
not_newest k n h lt = grind (arith, tests)

there_by : (b : Bool) (l : Landing) (ls : List Landing) (k : ℕ) → (k == length ls) ≡ b → k < length ls + 1
    → (k < length ls → (x : Landing) × (numbered_landing ls k ≡ Some x))
    → (x : Landing) × (elim b as (λ z. Option Landing) [ true ↦ Some l | false ↦ numbered_landing ls k ] ≡ Some x)
there_by true l ls k is lt rest = (l, refl)
there_by false l ls k is lt rest = rest (not_newest k (length ls) is lt)

one_longer : (l : Landing) (ls : List Landing) (k : ℕ) → k < length (l ∷ ls) → k < length ls + 1
one_longer l ls k h = omega (arith, h)

-- A number below the length has a landing.
pub number_there : (ls : List Landing) (k : ℕ) → k < length ls → (x : Landing) × (numbered_landing ls k ≡ Some x)
number_there [] k h = absurd (omega (arith, h))
number_there (l ∷ ls) k h = there_by (k == length ls) l ls k refl (one_longer l ls k h) (number_there ls k)

-- The landing of an id, by its number.
abbrev pub numbered_as : World → Option Landing → IdLanding
numbered_as w o = option_map_or (landing_of w) o no_landing

-- A landing in the history of a place.
pub landing_at : (w : World) (path : List ℕ) (offset k : ℕ) (l : Landing) → numbered_landing (history_of w path offset) k ≡ Some l
    → (id_state w path offset).landing k ≡ landing_of w l
landing_at w path offset k l h = ap (numbered_as w) h

-- What stays of the landings where others come in front.
pub record Grows (w v : World) (path : List ℕ) (offset : ℕ) (newer : List Landing) : Type 0 where
  pub layout : v.layout ≡ w.layout
  pub history : history_of v path offset ≡ newer ++ history_of w path offset
  pub writers : Every (λ l. writer_of v l ≡ writer_of w l) (history_of w path offset)

-- Old landings stay.
pub landing_stays : (w v : World) (path : List ℕ) (offset : ℕ) (newer : List Landing) → Grows w v path offset newer → (k : ℕ)
    → k < (id_state w path offset).count → (id_state v path offset).landing k ≡ (id_state w path offset).landing k
landing_stays w v path offset newer g k lt =
    let x = number_there (history_of w path offset) k lt in
    ap (λ ls. numbered_as v (numbered_landing ls k)) g.history ∙ ap (numbered_as v) (number_stays newer (history_of w path offset) k x.0 x.1)
    ∙ landing_same w v x.0 g.layout (every_numbered (λ l. writer_of v l ≡ writer_of w l) (history_of w path offset) k x.0 g.writers x.1)
    ∙ sym (landing_at w path offset k x.0 x.1)

-- The same sector grows by nothing.
pub grows_none : (w v : World) (path : List ℕ) (offset : ℕ) → SameSector w v path offset → Grows w v path offset []
grows_none w v path offset s = record { layout = s.layout; history = s.history; writers = s.writers }

-- The same sector, the same landings.
pub same_landings : (w v : World) (path : List ℕ) (offset : ℕ) → SameSector w v path offset → SameLandings (id_state w path offset) (id_state v path offset)
same_landings w v path offset s =
    record { count = ap length s.history; old = landing_stays w v path offset [] (grows_none w v path offset s) }

one_more : (n m : ℕ) → n ≡ 1 + m → n ≡ m + 1
one_more n m h = omega (arith, h)

landed_as : (v : World) (l : Landing) (moment : ℕ) (s : IdName) (spelled : Option Content) → l.moment ≡ moment → writer_of v l ≡ Some s
    → said_by v.layout l.bytes ≡ spelled → landing_of v l ≡ record { moment = moment; writer = Some s; shown = spelled }
landed_as v l moment s spelled a b c =
    ap (λ n. let x : IdLanding = record { moment = n; writer = writer_of v l; shown = said_by v.layout l.bytes } in x) a
    ∙ ap (λ o. let x : IdLanding = record { moment = moment; writer = o; shown = said_by v.layout l.bytes } in x) b
    ∙ ap (λ o. let x : IdLanding = record { moment = moment; writer = Some s; shown = o } in x) c

-- One more landing in front is a landing of the id.
pub lands_one : (w v : World) (path : List ℕ) (offset : ℕ) (l : Landing) (s : IdName) (spelled : Option Content) → Grows w v path offset (l ∷ [])
    → l.moment ≡ w.moment → writer_of v l ≡ Some s → said_by v.layout l.bytes ≡ spelled
    → Lands (id_state w path offset) (id_state v path offset) s spelled
lands_one w v path offset l s spelled g moment writer says =
    let count : length (history_of v path offset) ≡ 1 + length (history_of w path offset) = ap length g.history ∙ omega arith in
    record {
      count = one_more (length (history_of v path offset)) (length (history_of w path offset)) count;
      old = landing_stays w v path offset (l ∷ []) g;
      new = ap (λ ls. numbered_as v (numbered_landing ls (length (history_of w path offset)))) g.history
          ∙ ap (numbered_as v) (newest_number l (history_of w path offset) (length (history_of w path offset)) refl)
          ∙ landed_as v l w.moment s spelled moment writer says;
    }
