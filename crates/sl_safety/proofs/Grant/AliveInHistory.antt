-- A session that is not over in a world is not over in the history, at the world's step.
use Rattle.sl_run_law.proofs.Front.RunsFromFronts.{run_after}
use Rattle.sl_safety.proofs.Resources.StepsNameCalls.{holder_named}
use Rattle.sl_safety.specs.Resources.Histories.{is_over_in, world_by}
use Rattle.sl_safety.specs.Resources.HistoryLaws.{NamesDiffer, history_of_line}
use Rattle.sl_safety.specs.Resources.SentCalls.{holder_of, is_joined_there}
use Rattle.sl_run.specs.Runs.{Happening, world_after}
use Rattle.sl_run.specs.Safety.{Found, IsSession, LawfulRun, SessionId, is_over, world_at}
use Rattle.sl_run.specs.Worlds.{Program, World, world_with}
use Rattle.sl_run.specs.declared.header.Header.{Header}
use Rattle.sl_run.specs.declared.header.ResourceLine.{ResourceLine}
use Rattle.sl_safety.proofs.Sessions.OrderedFronts.{front_at, some_steps}
use Rattle.sl_words.proofs.CaseLaws.{true_is_false}
use Rattle.sl_words.specs.Words.{some_is}
use Rattle.std.proofs.Common.{ap, arith, inl, inr, subst, sym, ◌∙◌}
use Rattle.std.proofs.lemmas.List.{append-nil}
use Rattle.std.specs.Prelude.{List, Option, [], false, true, ℕ, ◌++◌, ◌<◌, ◌∷◌, ◌≡◌, ◌≤◌, ◌⊎◌}

not_so : (a b : ℕ) → a < b → b ≤ a → ⊥
not_so a b less most = omega (arith, less, most)

ends_there : (w : World) (now rest : List Happening) → (rest ≡ []) ⊎ ((world_after w (now ++ rest)).step ≤ (world_after w now).step) → now ++ rest ≡ now
ends_there w now rest (inl none) = ap (λ ys. now ++ ys) none ∙ append-nil now
ends_there w now [] (inr le) = append-nil now
ends_there w now (x ∷ rest) (inr le) =
    absurd (not_so (world_after w now).step (world_after w (now ++ x ∷ rest)).step
    (subst (λ (v : World). (world_after w now).step < v.step) (sym (run_after w now (x ∷ rest))) (some_steps (world_after w now) x rest)) le)

-- The world by a run's last step is the run's.
pub whole_by : (p : Program) (h : Header) (xs : List Happening) → LawfulRun p h xs → world_by (world_with p h) xs (world_at p h xs).step ≡ world_at p h xs
whole_by p h xs run =
    let w : World = world_with p h in
    let f = front_at p h xs run (world_at p h xs).step in
    f.is ∙ ap (world_after w)
    (sym (ends_there w f.now f.rest (subst (λ ys. (f.rest ≡ []) ⊎ ((world_after w ys).step ≤ (world_after w f.now).step)) f.whole f.ends)) ∙ sym f.whole)

pub alive_by : (p : Program) (h : Header) (xs : List Happening) → LawfulRun p h xs → (r : ResourceLine) → NamesDiffer (world_at p h xs) r.lockspace → (i : SessionId) (f : Found)
    → IsSession (world_at p h xs) i f → is_joined_there (world_at p h xs) r.lockspace i ≡ true → is_over i f ≡ false
    → (history_of_line p h xs r).over (holder_of (world_at p h xs) i) (world_at p h xs).step ≡ true → ⊥
alive_by p h xs run r differ i f its joined alive over =
    let w : World = world_at p h xs in
    true_is_false
    (sym over
    ∙ ap (λ (o : Option SessionId). some_is (is_over_in (world_by (world_with p h) xs w.step)) o) (holder_named w r.lockspace differ i joined)
    ∙ ap (λ (v : World). is_over_in v i) (whole_by p h xs run)
    ∙ ap (λ (o : Option Found). some_is (is_over i) o) its
    ∙ alive)
