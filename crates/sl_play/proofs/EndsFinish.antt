-- A run is reported from its end.
use mathlib.Core.List.{append_assoc}
use Rattle.sl_play.specs.RunEndings.{AsksLeadBack, EndsFinish, EventsLeadBack, LeadingIsChained, LeadsBack, MayCome}
use Rattle.sl_words.proofs.Lists.{head_is, tail_is}
use Rattle.sl_report.specs.OwedReports.{IsFrontOf}
use Rattle.sl_report.specs.Languages.{Language}
use Rattle.sl_report.specs.Reports.{Counts, count_event, event_lines, run_counts, run_lines}
use Rattle.sl_report.specs.Schedules.{Ending, EventLine, Follows, FollowsSoFar, IsAskOf, NoAsk, last_lines}
use Rattle.sl_run.specs.Inputs.{asking}
use Rattle.sl_run.specs.EventChanges.{happens}
use Rattle.sl_run.specs.Refusals.{may_happen}
use Rattle.sl_run.specs.Runs.{AfterEachFront, Happening, world_after}
use Rattle.sl_run.specs.Worlds.{World}
use Rattle.sl_run.specs.declared.event.Event.TheVariants.{GiveAsk}
use Rattle.sl_run.specs.declared.event.Event.{Event}
use Rattle.sl_text.specs.Forms.{as_bytes}
use Rattle.sl_trace.specs.declared.effects.Effects.{Effects}
use Rattle.std.proofs.Common.{ap, refl, subst, sym, ◌∙◌}
use Rattle.std.specs.Prelude.{Err, IsSomeAnd, IsTrue, List, None, Ok, Option, Some, true, [], ℕ, ◌++◌, ◌∷◌, ◌≡◌}

pub bytes_joined : (xs ys : List (List ℕ)) → as_bytes (xs ++ ys) ≡ as_bytes xs ++ as_bytes ys
bytes_joined [] ys = refl
bytes_joined (x ∷ xs) ys = ap (λ zs. (x ++ 10 ∷ []) ++ zs) (bytes_joined xs ys) ∙ sym (append_assoc (x ++ 10 ∷ []) (as_bytes xs) (as_bytes ys))

-- ---- fronts

front_cases : (P : World → Type 0) (w : World) (x : Happening) (xs : List Happening) → P w → AfterEachFront xs (λ now. P (world_after (happens w x.0 x.1) now))
    → (now rest : List Happening) → x ∷ xs ≡ now ++ rest → P (world_after w now)
front_cases P w x xs first after [] rest is = first
front_cases P w x xs first after (y ∷ now) rest is =
    subst (λ (z : Happening). P (world_after (happens w z.0 z.1) now)) (head_is x y xs (now ++ rest) is) (after now rest (tail_is x y xs (now ++ rest) is))

alone : (P : World → Type 0) (w : World) → P w → (now rest : List Happening) → [] ≡ now ++ rest → P (world_after w now)
alone P w first [] rest is = first
alone P w first (y ∷ now) rest is = absurd cc

-- ---- texts

-- The event's lines, and what comes behind them.
text_back : (out : List ℕ) (first more : List (List ℕ)) → (out ++ as_bytes first) ++ as_bytes more ≡ out ++ as_bytes (first ++ more)
text_back out first more = append_assoc out (as_bytes first) (as_bytes more) ∙ ap (λ b. out ++ b) (sym (bytes_joined first more))

whole_text : (lang : Language) (w : World) (k : Counts) (x : Happening) (xs : List Happening) (out total : List ℕ) (end : Ending)
    → total ≡ (out ++ as_bytes (event_lines w x.0 x.1)) ++ as_bytes (run_lines (happens w x.0 x.1) xs ++ last_lines lang (run_counts (happens w x.0 x.1) (count_event w x.0 x.1 k) xs) end)
    → total ≡ out ++ as_bytes (run_lines w (x ∷ xs) ++ last_lines lang (run_counts w k (x ∷ xs)) end)
whole_text lang w k x xs out total end is =
    let more : List (List ℕ) = run_lines (happens w x.0 x.1) xs in
    let last : List (List ℕ) = last_lines lang (run_counts (happens w x.0 x.1) (count_event w x.0 x.1 k) xs) end in
    is ∙ text_back out (event_lines w x.0 x.1) (more ++ last) ∙ ap (λ ls. out ++ as_bytes ls) (sym (append_assoc (event_lines w x.0 x.1) more last))

front_text : (w : World) (x : Happening) (xs : List Happening) (out total : List ℕ)
    → IsFrontOf total ((out ++ as_bytes (event_lines w x.0 x.1)) ++ as_bytes (run_lines (happens w x.0 x.1) xs)) → IsFrontOf total (out ++ as_bytes (run_lines w (x ∷ xs)))
front_text w x xs out total f = (f.0, sym (text_back out (event_lines w x.0 x.1) (run_lines (happens w x.0 x.1) xs)) ∙ f.1)

-- ---- one happening in front

-- It follows its lines where what is left follows those behind.
record Before (w : World) (ls left : List EventLine) (x : Happening) : Type 0 where
  ends : (xs : List Happening) (end : Ending) → Follows (happens w x.0 x.1) left xs end → Follows w ls (x ∷ xs) end
  far : (xs : List Happening) → FollowsSoFar (happens w x.0 x.1) left xs → FollowsSoFar w ls (x ∷ xs)

leads : (P : World → Type 0) (lang : Language) (w : World) (k : Counts) (ls left : List EventLine) (x : Happening) (out : List ℕ) → MayCome P w x.0 x.1 → Before w ls left x
    → LeadsBack P lang w k ls out (happens w x.0 x.1) (count_event w x.0 x.1 k) left (out ++ as_bytes (event_lines w x.0 x.1))
leads P lang w k ls left x out may b =
    record {
      finishes = (λ total end f. record {
        xs = x ∷ f.xs;
        follows = b.ends f.xs end f.follows;
        is_run = (may.may, may.steps, f.is_run);
        fronts = front_cases P w x f.xs may.holds f.fronts;
        text = whole_text lang w k x f.xs out total end f.text;
      });
      breaks = (λ total f. record {
        xs = x ∷ f.xs;
        follows = b.far f.xs f.follows;
        is_run = (may.may, may.steps, f.is_run);
        fronts = front_cases P w x f.xs may.holds f.fronts;
        text = front_text w x f.xs out total f.text;
      });
    }

event_before : (w : World) (n : ℕ) (e : Event) (fxs : List Effects) (ls : List EventLine) → NoAsk w → may_happen w e ≡ true → Before w ((n, Ok e) ∷ ls) ls (e, fxs)
event_before w n e fxs ls none may =
    record {
      ends = (λ xs end f. subst (λ o. elim o as (λ z. Type 0) [
        | Some j ↦ IsAskOf w (e, fxs) × Follows (happens w e fxs) ((n, Ok e) ∷ ls) xs end
        | None ↦ (e ≡ e) × IsTrue (may_happen w e) × Follows (happens w e fxs) ls xs end
      ]) (sym none) (refl, may, f));
      far = (λ xs f. subst (λ o. elim o as (λ z. Type 0) [
        | Some j ↦ IsAskOf w (e, fxs) × FollowsSoFar (happens w e fxs) ((n, Ok e) ∷ ls) xs
        | None ↦ (e ≡ e) × IsTrue (may_happen w e) × FollowsSoFar (happens w e fxs) ls xs
      ]) (sym none) (refl, may, f));
    }

pub events_lead_back : (P : World → Type 0) → EventsLeadBack P
events_lead_back P lang w k n e fxs ls out none may = leads P lang w k ((n, Ok e) ∷ ls) ls (e, fxs) out may (event_before w n e fxs ls none may.may)

is_ask_of : (w : World) (m : ℕ) (fxs : List Effects) → asking w ≡ Some m → may_happen w (GiveAsk m) ≡ true → IsAskOf w (GiveAsk m, fxs)
is_ask_of w m fxs asks may = (subst (λ (o : Option ℕ). IsSomeAnd o (λ k. GiveAsk m ≡ GiveAsk k)) (sym asks) refl, may)

ask_before : (w : World) (m : ℕ) (fxs : List Effects) (ls : List EventLine) → asking w ≡ Some m → may_happen w (GiveAsk m) ≡ true → Before w ls ls (GiveAsk m, fxs)
ask_before w m fxs [] asks may = record { ends = (λ xs end f. (is_ask_of w m fxs asks may, f)); far = (λ xs f. (is_ask_of w m fxs asks may, f)) }
ask_before w m fxs ((n, Err r) ∷ ls) asks may = record { ends = (λ xs end f. (is_ask_of w m fxs asks may, f)); far = (λ xs f. (is_ask_of w m fxs asks may, f)) }
ask_before w m fxs ((n, Ok e) ∷ ls) asks may =
    let ask = is_ask_of w m fxs asks may in
    record {
      ends = (λ xs end f. subst (λ o. elim o as (λ z. Type 0) [
        | Some j ↦ IsAskOf w (GiveAsk m, fxs) × Follows (happens w (GiveAsk m) fxs) ((n, Ok e) ∷ ls) xs end
        | None ↦ (e ≡ GiveAsk m) × IsTrue (may_happen w e) × Follows (happens w (GiveAsk m) fxs) ls xs end
      ]) (sym asks) (ask, f));
      far = (λ xs f. subst (λ o. elim o as (λ z. Type 0) [
        | Some j ↦ IsAskOf w (GiveAsk m, fxs) × FollowsSoFar (happens w (GiveAsk m) fxs) ((n, Ok e) ∷ ls) xs
        | None ↦ (e ≡ GiveAsk m) × IsTrue (may_happen w e) × FollowsSoFar (happens w (GiveAsk m) fxs) ls xs
      ]) (sym asks) (ask, f));
    }

pub asks_lead_back : (P : World → Type 0) → AsksLeadBack P
asks_lead_back P lang w k m fxs ls out asks may = leads P lang w k ls ls (GiveAsk m, fxs) out may (ask_before w m fxs ls asks may.may)

pub leading_is_chained : (P : World → Type 0) → LeadingIsChained P
leading_is_chained P lang w v u k n i ls left rest out now more a b =
    record { finishes = (λ total end f. a.finishes total end (b.finishes total end f)); breaks = (λ total f. a.breaks total (b.breaks total f)) }

-- ---- the end

nothing_more : (out : List ℕ) → out ≡ out ++ []
nothing_more [] = refl
nothing_more (x ∷ xs) = ap (λ r. x ∷ r) (nothing_more xs)

pub ends_finish : (P : World → Type 0) → EndsFinish P
ends_finish P =
    record {
      ends = (λ lang w k out first none. record { xs = []; follows = none; is_run = tt; fronts = alone P w first; text = refl });
      misread = (λ lang w k n why ls out first none. record { xs = []; follows = (refl, refl, none); is_run = tt; fronts = alone P w first; text = refl });
      refused = (λ lang w k n e why ls out first none is. record { xs = []; follows = (refl, is, none); is_run = tt; fronts = alone P w first; text = refl });
      breaks = (λ w ls out total first front. record { xs = []; follows = far w ls; is_run = tt; fronts = alone P w first; text = subst (IsFrontOf total) (nothing_more out) front });
    }
  where
    far : (w : World) (ls : List EventLine) → FollowsSoFar w ls []
    far w [] = tt
    far w (l ∷ ls) = tt
