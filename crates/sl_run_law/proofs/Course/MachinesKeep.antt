-- What holds of each machine at first and is kept by each event of lawful runs holds of each after all of them.
use Rattle.sl_area.specs.AreaSizes.{layout_with}
use Rattle.sl_run_law.proofs.Course.MachineTurns.{Becomes, becomes}
use Rattle.sl_run_law.proofs.Front.RunsFromFronts.{last_event, run_after, run_keeps, settled_later, was_there}
use Rattle.sl_run_law.proofs.Front.JoinedLists.{in_flat}
use Rattle.sl_run.specs.Lawful.{Orderly}
use Rattle.sl_words.proofs.Lists.{got_inside}
use Rattle.sl_run.specs.Inputs.{input_of}
use Rattle.sl_run.specs.Refusals.{may_happen}
use Rattle.sl_run.specs.Runs.{EachDaemon, Happening, own_effects_of}
use Rattle.sl_run.specs.Safety.{LawfulRun, world_at}
use Rattle.sl_run.specs.Worlds.{Daemon, Machine, Program, World, daemons_on, machine_at, machine_of_header, world_with}
use Rattle.sl_run.specs.declared.header.Header.{Header}
use Rattle.sl_run_law.proofs.MachineWalk.{index, number_within}
use Rattle.sl_run_law.specs.DaemonsGoOn.{IsSettled}
use Rattle.sl_trace.specs.declared.effects.Effects.{Effects}
use Rattle.sl_words.proofs.CaseLaws.{none_some, one_value, some_value}
use Rattle.std.proofs.Common.{ap, arith, subst, sym, ◌∙◌}
use Rattle.std.specs.List.{range_with_len}
use Rattle.std.specs.Prelude.{Contains, List, None, Some, map, slice_get, suc, true, zero, [], ℕ, ◌++◌, ◌+◌, ◌-◌, ◌∷◌, ◌≡◌}

-- A machine before the last event of a lawful run and after it.
pub record Goes_on (p : Program) (h : Header) (now : List Happening) (x : Happening) (m : ℕ) (a c : Machine) : Type 0 where
  pub run : LawfulRun p h (now ++ x ∷ [])
  pub before : LawfulRun p h now
  pub may : may_happen (world_at p h now) x.0 ≡ true
  pub effects : Effects
  pub own : input_of (world_at p h now) x.0 ≡ None → effects ≡ own_effects_of (world_at p h now) x.0
  pub at : machine_at (world_at p h now) m ≡ Some a
  pub later : machine_at (world_at p h (now ++ x ∷ [])) m ≡ Some c
  pub becomes : Becomes (world_at p h now) x.0 effects m a c
  pub settled : IsSettled a

-- ---- at first

ranged : (f : ℕ → Machine) (k n i : ℕ) (a : Machine) → slice_get (map f (range_with_len k n)) i ≡ Some a → a ≡ f (k + i)
ranged f k zero i a h = absurd (none_some a h)
ranged f k (suc n) zero a h = let same : k ≡ k + 0 = omega arith in sym (some_value (f k) a h) ∙ ap f same
ranged f k (suc n) (suc i) a h = let same : (k + 1) + i ≡ k + suc i = omega arith in ranged f (k + 1) n i a h ∙ ap f same

-- Each machine of the header's world is that of the header.
pub header_machine : (p : Program) (h : Header) (m : ℕ) (a : Machine) → machine_at (world_with p h) m ≡ Some a
    → a ≡ machine_of_header p (layout_with p.digest h.geometry) h m
header_machine p h m a at =
    let f : ℕ → Machine = machine_of_header p (layout_with p.digest h.geometry) h in
    ranged f 1 h.machines (m - 1) a (index (world_with p h) m a at).1 ∙ ap f (number_within (world_with p h) m a at).1

-- ---- each event

went_on : (p : Program) (h : Header) (now : List Happening) (x : Happening) → LawfulRun p h (now ++ x ∷ []) → (m : ℕ) (a c : Machine)
    → machine_at (world_at p h now) m ≡ Some a → machine_at (world_at p h (now ++ x ∷ [])) m ≡ Some c → Goes_on p h now x m a c
went_on p h now x run m a c at later =
    let last = last_event p h now x run in
    let w : World = world_at p h now in
    let q = becomes w x.0 last.effects last.may m a at in
    let same : q.0 ≡ c = one_value q.0 c (machine_at (world_at p h (now ++ x ∷ [])) m) (ap (λ v. machine_at v m) last.after ∙ q.1) later in
    record {
      run = run;
      before = last.before;
      may = last.may;
      effects = last.effects;
      own = last.own;
      at = at;
      later = later;
      becomes = subst (Becomes w x.0 last.effects m a) same q.2;
      settled = settled_later p h now last.before.is_run m a at;
    }

-- Each machine of the later world was there before the last event.
pub was_before : (p : Program) (h : Header) (now : List Happening) (x : Happening) → LawfulRun p h (now ++ x ∷ []) → (m : ℕ) (c : Machine)
    → machine_at (world_at p h (now ++ x ∷ [])) m ≡ Some c → (a : Machine) × Goes_on p h now x m a c
was_before p h now x run m c later =
    let same = run_after (world_with p h) now (x ∷ []) in
    let a = was_there (world_at p h now) (x ∷ []) m c (ap (λ v. machine_at v m) (sym same) ∙ later) in
    (a.0, went_on p h now x run m a.0 c a.1 later)

-- ---- machines keep

-- What is said of each machine of the world.
abbrev pub OfMachines : (World → ℕ → Machine → Type 0) → World → Type 0
OfMachines P w = (m : ℕ) (a : Machine) → machine_at w m ≡ Some a → P w m a

pub machines_keep : (p : Program) (h : Header) (P : World → ℕ → Machine → Type 0)
    → ((m : ℕ) → P (world_with p h) m (machine_of_header p (layout_with p.digest h.geometry) h m))
    → ((now : List Happening) (x : Happening) (m : ℕ) (a c : Machine) → Goes_on p h now x m a c → P (world_at p h now) m a → P (world_at p h (now ++ x ∷ [])) m c)
    → (xs : List Happening) → LawfulRun p h xs → OfMachines P (world_at p h xs)
machines_keep p h P first next xs run =
    run_keeps p h (λ ys. OfMachines P (world_at p h ys))
    (record {
      first = λ m a at. subst (P (world_with p h) m) (sym (header_machine p h m a at)) (first m);
      next = λ now x run' kept m c later. let g = was_before p h now x run' m c later in next now x m g.0 c g.1 (kept m g.0 g.1.at);
    }) xs run

-- The traces of a machine's daemons are lawful.
pub lawful_on : (w : World) (m : ℕ) (a : Machine) (d : Daemon) → EachDaemon Orderly w → machine_at w m ≡ Some a → Contains (daemons_on a) d → Orderly d.setting d.trace
lawful_on w m a d each at has = each d (in_flat daemons_on w.machines a d (got_inside w.machines (m - 1) a (index w m a at).1) has)
