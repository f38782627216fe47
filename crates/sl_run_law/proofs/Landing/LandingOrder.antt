-- Landings come in order.
use Rattle.sl_run_law.proofs.Landing.OneArrival.{Lands, first_lands}
use Rattle.sl_run_law.proofs.Landing.CallLists.{pairs_more, pairs_none}
use Rattle.sl_run_law.proofs.Landing.OneEvent.{IsLater, event_later, step_landings, world_first, world_keeps, world_then}
use Rattle.sl_run_law.specs.Landing.Landings.{LandingsComeInOrder}
use Rattle.sl_words.proofs.Lists.{contains_cases, contains_none}
use Rattle.sl_run.specs.EventChanges.{first_change}
use Rattle.sl_run.specs.Inputs.{input_of, machine_of}
use Rattle.sl_run.specs.Runs.{Happening}
use Rattle.sl_run.specs.Safety.{LawfulRun, world_at}
use Rattle.sl_run.specs.Worlds.{Landing, Program, World}
use Rattle.sl_run.specs.declared.event.Event.{Event}
use Rattle.sl_run.specs.declared.header.Header.{Header}
use Rattle.sl_trace.specs.declared.effects.Effects.{Effects}
use Rattle.std.proofs.Common.{arith, inl, inr, subst, sym, ◌∙◌}
use Rattle.std.specs.Prelude.{AllPairs, Contains, List, ◌<◌, ◌∷◌, ◌≡◌, ◌≤◌}

abbrev NewerFirst : List Landing → Type 0
NewerFirst ls = AllPairs (λ newer older. (older.step < newer.step) × (older.moment ≤ newer.moment)) ls

-- Each landing came before now.
abbrev pub IsPast : World → Landing → Type 0
IsPast w l = (l.step < w.step) × (l.moment ≤ w.moment)

pub record InOrder (w : World) : Type 0 where
  pub past : (l : Landing) → Contains w.landings l → IsPast w l
  pub order : NewerFirst w.landings

still_past : (w u : World) (l : Landing) → IsLater w u → IsPast w l → IsPast u l
still_past w u l later p = (omega (arith, p.0, later.step), omega (arith, p.1, later.moment))

now_past : (w u : World) (l : Landing) → IsLater w u → (l.step ≡ w.step) × (l.moment ≡ w.moment) → IsPast u l
now_past w u l later p = (omega (arith, p.0, later.step), omega (arith, p.1, later.moment))

after_past : (w : World) (l older : Landing) → (l.step ≡ w.step) × (l.moment ≡ w.moment) → IsPast w older → (older.step < l.step) × (older.moment ≤ l.moment)
after_past w l older p q = (omega (arith, p.0, q.0), omega (arith, p.1, q.1))

nothing_lands : (w u : World) → u.landings ≡ w.landings → IsLater w u → InOrder w → InOrder u
nothing_lands w u same later o =
    record {
      past = λ l h. still_past w u l later (o.past l (subst (λ ls. Contains ls l) same h));
      order = subst NewerFirst (sym same) o.order;
    }

one_lands : (w u : World) (n : Landing) → u.landings ≡ n ∷ w.landings → (n.step ≡ w.step) × (n.moment ≡ w.moment) → IsLater w u → InOrder w → InOrder u
one_lands w u n same now later o =
    record {
      past = λ l h. elim (contains_cases n w.landings l (subst (λ ls. Contains ls l) same h)) as (λ z. IsPast u l) [
        | inl e ↦ subst (IsPast u) e (now_past w u n later now)
        | inr older ↦ still_past w u l later (o.past l older)
      ];
      order = subst NewerFirst (sym same)
          (pairs_more (λ (newer older : Landing). (older.step < newer.step) × (older.moment ≤ newer.moment)) n w.landings
          (λ l h. after_past w n l now (o.past l h)) o.order);
    }

order_by : (w : World) (e : Event) (fx : Effects) → Lands w (first_change e w) → InOrder w → InOrder (world_then w e fx)
order_by w e fx (inl same) o =
    nothing_lands w (world_then w e fx) (step_landings (machine_of e) (input_of w e) fx (world_first w e) ∙ same) (event_later w e fx) o
order_by w e fx (inr a) o =
    one_lands w (world_then w e fx) a.landing (step_landings (machine_of e) (input_of w e) fx (world_first w e) ∙ a.same) a.now (event_later w e fx) o

pub run_orders : (p : Program) (h : Header) (xs : List Happening) → LawfulRun p h xs → InOrder (world_at p h xs)
run_orders p h xs run =
    world_keeps InOrder p h
    (record { past = λ l there. absurd (contains_none l there); order = pairs_none (λ (newer older : Landing). (older.step < newer.step) × (older.moment ≤ newer.moment)) })
    (λ now x law l o. order_by (world_at p h now) x.0 l.effects (first_lands x.0 (world_at p h now) l.may) o) xs run

pub come_in_order : LandingsComeInOrder
come_in_order p h xs run = (run_orders p h xs run).order
