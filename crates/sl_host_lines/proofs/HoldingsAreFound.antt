-- What is found of a member's holdings is what the definitions ask for.
use Rattle.sl_host_lines.specs.CommandRefusals.{shared_beside}
use Rattle.sl_due.specs.declared.decision.Decision.TheVariants.{ReadsArea, Shares}
use Rattle.sl_due.specs.declared.decision.Decision.{Decision}
use Rattle.sl_trace.specs.declared.session.Session.{Session}
use Rattle.sl_tables.specs.Holdings.{fits, is_holder, is_in_mode}
use Rattle.sl_tables.specs.declared.holdings.Holder.TheVariants.{Anyone, Is}
use Rattle.sl_tables.specs.declared.holdings.Holder.{Holder}
use Rattle.sl_trace.specs.Traces.{is_orphan, is_shared, same_place}
use Rattle.sl_trace.specs.declared.command.ResourceArg.{ResourceArg}
use Rattle.sl_trace.specs.declared.effects.Grant.{Grant}
use Rattle.sl_trace.specs.declared.effects.Mode.TheVariants.{Exclusive, Shared}
use Rattle.sl_trace.specs.declared.effects.Mode.{Mode}
use Rattle.sl_trace.specs.declared.effects.Spot.{Spot}
use Rattle.sl_host.proofs.QuestionsStand.{find_found}
use Rattle.sl_host.specs.BookQuestions.{held_under, sought_on}
use Rattle.std.proofs.Common.{ap, refl, ◌∙◌}
use Rattle.std.specs.Option.{option_map_or}
use Rattle.std.specs.Prelude.{Bool, List, None, Option, Some, cond, false, filter, find, not, option_map, true, ℕ, ◌&&◌, ◌==◌, ◌≡◌}

abbrev here : Spot → Grant → Bool
here at g = same_place g.path g.offset at.path at.base

abbrev on_area : ℕ → Spot → List Grant → List Grant
on_area session at held = filter (here at) (held_under session held)

turned : (h s m d : Bool) → (((h && s) && m) && d) ≡ (s && (d && (h && m)))
turned true true true true = refl
turned true true true false = refl
turned true true false true = refl
turned true true false false = refl
turned true false m d = refl
turned false true m true = refl
turned false true m false = refl
turned false false m d = refl

-- Of a session's holdings on an area, the first of these processes in this mode.
found_on : (session : ℕ) (at : Spot) (who : Holder) (mode : Option Mode) (p : Grant → Bool) → ((g : Grant) → (is_holder who g.process && option_map_or (λ m. is_in_mode m g) mode true) ≡ p g) → (held : List Grant)
    → find (fits (sought_on who session at mode)) held ≡ find p (on_area session at held)
found_on session at who mode p is held =
    find_found (fits (sought_on who session at mode)) (λ g. g.session == session) (λ g. here at g && p g)
    (λ g. turned (is_holder who g.process) (g.session == session) (option_map_or (λ m. is_in_mode m g) mode true) (here at g) ∙ ap (λ b. (g.session == session) && (here at g && b)) (is g)) held
    ∙ find_found (λ g. here at g && p g) (here at) p (λ g. refl) (held_under session held)

ends_true : (b : Bool) → (b && true) ≡ b
ends_true true = refl
ends_true false = refl

pub shared_on : (session : ℕ) (at : Spot) (held : List Grant) → find (fits (sought_on Anyone session at (Some Shared))) held ≡ find (λ g. is_shared g.mode) (on_area session at held)
shared_on session at held = found_on session at Anyone (Some Shared) (λ g. is_shared g.mode) (λ g. refl) held

pub any_of_process : (session p : ℕ) (at : Spot) (held : List Grant) → find (fits (sought_on (Is p) session at None)) held ≡ find (λ g. g.process == p && true) (on_area session at held)
any_of_process session p at held = found_on session at (Is p) None (λ g. g.process == p && true) (λ g. refl) held

pub exclusive_of_process : (session p : ℕ) (at : Spot) (held : List Grant)
    → find (fits (sought_on (Is p) session at (Some Exclusive))) held ≡ find (λ g. g.process == p && not (is_shared g.mode)) (on_area session at held)
exclusive_of_process session p at held = found_on session at (Is p) (Some Exclusive) (λ g. g.process == p && not (is_shared g.mode)) (λ g. refl) held

pub any_orphan : (session : ℕ) (at : Spot) (held : List Grant) → find (fits (sought_on (Is 0) session at None)) held ≡ find is_orphan (on_area session at held)
any_orphan session at held = found_on session at (Is 0) None is_orphan (λ g. ends_true (g.process == 0)) held

abbrev pub by_instance : Session → ResourceArg → Option ℕ → Decision
by_instance s r None = ReadsArea s r
by_instance s r (Some lver) = Shares s lver

abbrev pub by_holding : Session → ResourceArg → Option Grant → Decision
by_holding s r None = ReadsArea s r
by_holding s r (Some g) = Shares s g.lver

-- What an acquire comes to, by the instance beside which it is granted.
pub shares : (s : Session) (r : ResourceArg) (held : List Grant) (shared : Bool)
    → by_instance s r (shared_beside held shared) ≡ cond shared (by_holding s r (find (λ g. is_shared g.mode) held)) (ReadsArea s r)
shares s r held false = refl
shares s r held true = by (find (λ g. is_shared g.mode) held)
  where
    by : (o : Option Grant) → by_instance s r (option_map (λ (g : Grant). g.lver) o) ≡ by_holding s r o
    by None = refl
    by (Some g) = refl
