-- What is found of a session's holdings on an area.
use Rattle.sl_host_work.specs.LeaseWork.{held_with, otherwise_under}
use Rattle.sl_lease.specs.declared.outer_facts.Held.{Held}
use Rattle.sl_trace.specs.declared.session.Session.{Session}
use Rattle.sl_tables.specs.Holdings.{fits, is_holder, is_in_mode}
use Rattle.sl_tables.specs.declared.holdings.Holder.TheVariants.{Anyone, Is}
use Rattle.sl_tables.specs.declared.holdings.Holder.{Holder}
use Rattle.sl_trace.specs.Traces.{is_shared, same_place}
use Rattle.sl_trace.specs.declared.effects.Grant.{Grant}
use Rattle.sl_trace.specs.declared.effects.Mode.TheVariants.{Exclusive, Shared}
use Rattle.sl_trace.specs.declared.effects.Mode.{Mode}
use Rattle.sl_trace.specs.declared.effects.Spot.{Spot}
use Rattle.sl_host.proofs.QuestionsStand.{find_found}
use Rattle.sl_host.specs.BookQuestions.{held_under, sought_on}
use Rattle.sl_words.specs.Words.{same_truth}
use Rattle.std.proofs.Common.{ap, refl, ◌∙◌}
use Rattle.std.specs.Option.{option_map_or}
use Rattle.std.specs.Prelude.{Bool, List, Option, Some, false, filter, find, is_some, not, option_map, true, ℕ, ◌&&◌, ◌==◌, ◌≡◌}

abbrev here : Spot → Grant → Bool
here at g = same_place g.path g.offset at.path at.base

turned : (h s m d : Bool) → (((h && s) && m) && d) ≡ (s && (d && (h && m)))
turned true true true true = refl
turned true true true false = refl
turned true true false true = refl
turned true true false false = refl
turned true false m d = refl
turned false true m true = refl
turned false true m false = refl
turned false false m d = refl

-- The first of these processes in this mode.
found_on : (session : ℕ) (at : Spot) (who : Holder) (mode : Option Mode) (p : Grant → Bool) → ((g : Grant) → (is_holder who g.process && option_map_or (λ m. is_in_mode m g) mode true) ≡ p g) → (held : List Grant)
    → find (fits (sought_on who session at mode)) held ≡ find p (filter (here at) (held_under session held))
found_on session at who mode p is held =
    find_found (fits (sought_on who session at mode)) (λ g. g.session == session) (λ g. here at g && p g)
    (λ g. turned (is_holder who g.process) (g.session == session) (option_map_or (λ m. is_in_mode m g) mode true) (here at g) ∙ ap (λ b. (g.session == session) && (here at g && b)) (is g)) held
    ∙ find_found (λ g. here at g && p g) (here at) p (λ g. refl) (held_under session held)

exclusive_is : (b : Bool) → same_truth false b ≡ not b
exclusive_is true = refl
exclusive_is false = refl

shared_is : (b : Bool) → same_truth true b ≡ b
shared_is true = refl
shared_is false = refl

-- What is held, as it is found.
pub held_found : (session : ℕ) (at : Spot) (held : List Grant) (shared exclusive : Option Grant)
    → shared ≡ find (fits (sought_on Anyone session at (Some Shared))) held → exclusive ≡ find (fits (sought_on Anyone session at (Some Exclusive))) held
    → (let h : Held = record { shared = is_some shared; exclusive = option_map (λ g. g.lver) exclusive } in h) ≡ held_with session at held
held_found session at held shared exclusive s e =
    let one : shared ≡ find (λ g. is_shared g.mode) (filter (here at) (held_under session held)) = s ∙ found_on session at Anyone (Some Shared) (λ g. is_shared g.mode) (λ g. shared_is (is_shared g.mode)) held in
    let other : exclusive ≡ find (λ g. not (is_shared g.mode)) (filter (here at) (held_under session held)) = e ∙ found_on session at Anyone (Some Exclusive) (λ g. not (is_shared g.mode)) (λ g. exclusive_is (is_shared g.mode)) held in
    λ i. record { shared = is_some (one i); exclusive = option_map (λ g. g.lver) (other i) }

turned_mode : (a b c : Bool) → c ≡ not a → same_truth c b ≡ not (same_truth b a)
turned_mode true true c is = ap (λ d. same_truth d true) is
turned_mode true false c is = ap (λ d. same_truth d false) is
turned_mode false true c is = ap (λ d. same_truth d true) is
turned_mode false false c is = ap (λ d. same_truth d false) is

-- The holding of a process in the other mode.
pub otherwise_found : (s : Session) (at : Spot) (p : ℕ) (mode other : Mode) (held : List Grant) → is_shared other ≡ not (is_shared mode)
    → find (fits (sought_on (Is p) s.number at (Some other))) held ≡ otherwise_under s at p mode held
otherwise_found s at p mode other held is =
    found_on s.number at (Is p) (Some other) (λ g. g.process == p && not (same_truth (is_shared g.mode) (is_shared mode)))
    (λ g. ap (λ b. (g.process == p) && b) (turned_mode (is_shared mode) (is_shared g.mode) (is_shared other) is)) held

-- The first exclusive holding under a session's lease on an area.
pub exclusive_found : (session : ℕ) (at : Spot) (held : List Grant)
    → find (fits (sought_on Anyone session at (Some Exclusive))) held ≡ find (λ g. not (is_shared g.mode)) (filter (λ g. same_place g.path g.offset at.path at.base) (held_under session held))
exclusive_found session at held = found_on session at Anyone (Some Exclusive) (λ g. not (is_shared g.mode)) (λ g. exclusive_is (is_shared g.mode)) held
