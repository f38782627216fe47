-- At first no bar of a holding is open.
use Rattle.sl_picture.proofs.BarsStay.{Stays, begun, new_is_in, nothing_in, text_kept}
use Rattle.sl_picture.specs.HeldBars.{BarsBegin, Shows}
use Rattle.sl_picture.specs.Kept.{Kept, bar, clock_set, clocks_set, empty, first_kept, free_row, idle_to, is_taken, keeping, place_of, reading_at, resource_text, with_idle, with_resource, with_session}
use Rattle.sl_picture.specs.declared.shapes.Shape.TheVariants as shape
use Rattle.sl_drawing.specs.Sums.{plus}
use Rattle.sl_run.specs.declared.header.FirstReading.{FirstReading}
use Rattle.sl_run.specs.declared.header.ResourceLine.{ResourceLine}
use Rattle.sl_run.specs.declared.header.SessionLine.{SessionLine}
use Rattle.sl_time.specs.Times.{fail}
use Rattle.sl_words.proofs.Lists.{contains_none}
use Rattle.std.proofs.Common.{refl}
use Rattle.std.specs.Prelude.{Bool, List, false, fold, if◌then◌else◌, length, suc, true, zero, [], ℕ, ◌++◌, ◌+◌, ◌∷◌}

clocks_stay : (cs : List FirstReading) (k : Kept) → Stays k (clocks_set cs k)
clocks_stay [] k part rows s = s
clocks_stay (c ∷ cs) k part rows s = clocks_stay cs (clock_set c k) part rows s

resources_stay : (rs : List ResourceLine) (k : Kept) → Stays k (fold with_resource k rs)
resources_stay [] k part rows s = s
resources_stay (r ∷ rs) k part rows s = resources_stay rs (with_resource k r) part rows (text_kept (resource_text r) k part rows s)

session_stays : (until : ℕ) (k : Kept) (s : SessionLine) → Stays k (with_session until k s)
session_stays until k s part rows before =
    begun (record (bar s.machine shape.Joined k) { name = place_of s.lockspace k; row = free_row k.opened s.machine false; until = plus (reading_at k.lanes s.machine) until })
    (keeping s.lockspace k) refl (new_is_in k.texts s.lockspace) part rows (text_kept s.lockspace k part rows before)

sessions_stay : (until : ℕ) (ss : List SessionLine) (k : Kept) → Stays k (fold (with_session until) k ss)
sessions_stay until [] k part rows s = s
sessions_stay until (x ∷ ss) k part rows s = sessions_stay until ss (with_session until k x) part rows (session_stays until k x part rows s)

idle_stays : (m : ℕ) (k : Kept) → Stays k (with_idle m k)
idle_stays m k part rows s = by (is_taken k.opened m false 0) where
  by : (t : Bool) → Shows part (if t then k else record k { opened = k.opened ++ bar m shape.Idle k ∷ [] }) rows
  by true = s
  by false = begun (bar m shape.Idle k) k refl (nothing_in k.texts) part rows s

idles_stay : (n : ℕ) (k : Kept) → Stays k (idle_to n k)
idles_stay zero k part rows s = s
idles_stay (suc n) k part rows s = idle_stays (n + 1) (idle_to n k) part rows (idles_stay n k part rows s)

pub bars_begin : BarsBegin
unfolding first_kept
bars_begin part h =
    let clocks : Kept = clocks_set h.clocks (empty part h) in
    let resources : Kept = fold with_resource clocks h.resources in
    let sessions : Kept = fold (with_session (fail h.timing)) resources h.sessions in
    idles_stay (length sessions.lanes) sessions part (λ m. [])
    (sessions_stay (fail h.timing) h.sessions resources part (λ m. [])
    (resources_stay h.resources clocks part (λ m. []) (clocks_stay h.clocks (empty part h) part (λ m. []) (refl, λ b has. absurd (contains_none b has), λ m. refl))))
