-- At first all that is kept is of step 0, moment 0, and the clock as it stands.
use Rattle.sl_area.specs.AreaSizes.{Layout, layout_with}
use Rattle.sl_run_law.proofs.Front.JoinedLists.{contains_append}
use Rattle.sl_run_law.proofs.Moment.AddedNow.{daemon_stamps}
use Rattle.sl_run_law.specs.Moment.MomentsFollowSteps.{At_first, IsKept, Of_landing, Of_sample, Of_stamp, stamps_on}
use Rattle.sl_words.proofs.Lists.{contains_cases, contains_none}
use Rattle.sl_run.specs.Worlds.{Course, Daemon, Machine, Program, Stamp, first_numbers, first_stamp, given_of, machine_at, machine_of_header, new_daemon, setting_of, world_with}
use Rattle.sl_run.specs.declared.header.Header.{Header}
use Rattle.sl_run.specs.declared.header.SessionLine.{SessionLine}
use Rattle.sl_run_law.proofs.Beginnings.{begins_new}
use Rattle.sl_run_law.proofs.MachineWalk.{index}
use Rattle.sl_trace.specs.Traces.{Setting}
use Rattle.sl_trace.specs.declared.input.Given.{Given}
use Rattle.sl_words.proofs.CaseLaws.{none_some, some_value}
use Rattle.std.proofs.Common.{ap, inl, inr, refl, subst, sym, ◌∙◌}
use Rattle.std.specs.List.{range_with_len}
use Rattle.std.specs.Prelude.{Contains, List, None, Option, Some, filter_map, find, map, option_map, slice_get, suc, zero, [], ℕ, ◌++◌, ◌+◌, ◌-◌, ◌==◌, ◌∷◌, ◌≡◌}

-- All stamps of the machine are this one.
abbrev OneStamp : (ℕ → Stamp) → ℕ → Machine → Type 0
OneStamp t m a = ((s : Stamp) → Contains (stamps_on a) s → t m ≡ s) × (a.clock ≡ (t m).clock)

begun_first : (t : Stamp) (st : SessionLine → Setting) (o : Option SessionLine) (s : Stamp)
    → Contains (daemon_stamps (elim (option_map (λ l. new_daemon 0 (st l) t) o) as (λ x. List Daemon) [ None ↦ [] | Some d ↦ d ∷ [] ])) s → t ≡ s
begun_first t st None s h = absurd (contains_none s h)
begun_first t st (Some l) s h =
    elim (contains_cases t [] s h) as (λ z. t ≡ s) [ inl e ↦ e | inr more ↦ absurd (contains_none s more) ]

no_more : (t : Stamp) (ss : List Stamp) (s : Stamp) → (Contains ss s → t ≡ s) → Contains (ss ++ [] ++ []) s → t ≡ s
no_more t ss s f h =
    elim (contains_append (ss ++ []) [] s h) as (λ z. t ≡ s) [
      | inl p ↦ elim (contains_append ss [] s p) as (λ z. t ≡ s) [ inl q ↦ f q | inr q ↦ absurd (contains_none s q) ]
      | inr q ↦ absurd (contains_none s q)
    ]

one_stamp : (p : Program) (g : Layout) (h : Header) (m : ℕ) → OneStamp (first_stamp h) m (machine_of_header p g h m)
unfolding machine_of_header
one_stamp p g h m = (
  λ s k.
      let given : List Given = filter_map (given_of h m) h.sessions in
      elim (contains_cases (first_stamp h m) _ s k) as (λ z. first_stamp h m ≡ s) [
        | inl e ↦ e
        | inr more ↦ no_more (first_stamp h m) _ s
            (begun_first (first_stamp h m) (λ l. setting_of p g h m l.name first_numbers given) (find (λ l. l.machine == m) h.sessions) s) more
      ],
  refl,
)

-- What each machine of the header is, each machine of the first world is.
pub all_are : (P : Machine → Type 0) (f : ℕ → Machine) (k n i : ℕ) (a : Machine) → ((m : ℕ) → P (f m)) → slice_get (map f (range_with_len k n)) i ≡ Some a → P a
all_are P f k zero i a each h = absurd (none_some a h)
all_are P f k (suc n) zero a each h = subst P (some_value (f k) a h) (each k)
all_are P f k (suc n) (suc i) a each h = all_are P f (k + 1) n i a each h

pub first_machines : (P : Machine → Type 0) (p : Program) (h : Header) → ((m : ℕ) → P (machine_of_header p (layout_with p.digest h.geometry) h m)) → (m : ℕ) (a : Machine)
    → machine_at (world_with p h) m ≡ Some a → P a
first_machines P p h each m a at =
    all_are P (machine_of_header p (layout_with p.digest h.geometry) h) 1 h.machines (m - 1) a each (index (world_with p h) m a at).1

-- What a stamp of the first world is.
pub record IsFirst (a : Machine) (s : Stamp) : Type 0 where
  pub step : s.step ≡ 0
  pub moment : s.moment ≡ 0
  pub clock : s.clock ≡ a.clock

pub stamps_first : (p : Program) (h : Header) (m : ℕ) (a : Machine) (s : Stamp) → machine_at (world_with p h) m ≡ Some a → Contains (stamps_on a) s → IsFirst a s
stamps_first p h m a s at has =
    let g : Layout = layout_with p.digest h.geometry in
    let one = first_machines (λ b. (n : ℕ) × OneStamp (first_stamp h) n b) p h (λ n. (n, one_stamp p g h n)) m a at in
    let e : first_stamp h one.0 ≡ s = one.1.0 s has in
    record { step = sym (ap (λ (x : Stamp). x.step) e); moment = sym (ap (λ (x : Stamp). x.moment) e); clock = sym (ap (λ (x : Stamp). x.clock) e) ∙ sym one.1.1 }

no_calls : (p : Program) (h : Header) (m : ℕ) (a : Machine) (c : Course) → machine_at (world_with p h) m ≡ Some a → Contains a.calls c → ⊥
no_calls p h m a c at has = contains_none c (subst (λ cs. Contains cs c) (begins_new p h m a at).calls has)

pub kept_first : (p : Program) (h : Header) (s m : ℕ) → IsKept (world_with p h) s m → (s ≡ 0) × (m ≡ 0)
kept_first p h s m (Of_landing l has is at) = absurd (contains_none l has)
kept_first p h s m (Of_stamp n a t there has is at) = let f = stamps_first p h n a t there has in (sym is ∙ f.step, sym at ∙ f.moment)
kept_first p h s m (Of_sample n a c t there has in_it is at) = absurd (no_calls p h n a c there has)
kept_first p h s m (At_first is at) = (is, at)
