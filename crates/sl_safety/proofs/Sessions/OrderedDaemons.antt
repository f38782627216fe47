-- Where the daemons of a machine come from, over an event and over a run: each is one of before with newer entries, or began with no
-- sessions; and what is said of the stamps of new entries holds of all newer ones.
use Rattle.sl_run_law.proofs.Course.Daemons.{all_ended, daemons_are, entry_of, step_daemon, step_ended}
use Rattle.sl_run_law.proofs.Course.MachinesKeep.{Goes_on, was_before}
use Rattle.sl_run_law.proofs.Course.MachineTurns.{Alone, Began, Called, Came_up, Clocked, Crashed, Elsewhere, Stays, Stepped, Tested, Took, Turned, Went_down}
use Rattle.sl_run_law.proofs.Front.JoinedLists.{contains_append}
use Rattle.sl_run_law.proofs.Front.RunsFromFronts.{fronts_are_lawful, run_after}
use Rattle.sl_run_law.proofs.Landing.OneEvent.{first_later, world_first}
use Rattle.sl_words.proofs.Lists.{contains_cases, contains_first, contains_more, contains_none}
use Rattle.sl_run.specs.EventChanges.{first_change, next_step, with_entry}
use Rattle.sl_run.specs.Inputs.{machine_of}
use Rattle.sl_run.specs.Runs.{Happening}
use Rattle.sl_run.specs.Safety.{LawfulRun, world_at}
use Rattle.sl_run.specs.Worlds.{Daemon, Machine, Program, Stamp, World, daemons_on, machine_at, new_daemon, next_numbers, setting_of, stamp_now, world_with}
use Rattle.sl_run.specs.declared.event.Event.{Event}
use Rattle.sl_run.specs.declared.header.Header.{Header}
use Rattle.sl_run_law.specs.DaemonsGoOn.{IsSettled}
use Rattle.sl_safety.proofs.Sessions.OrderedFronts.{nothing_more, steps_grow}
use Rattle.sl_trace.specs.Traces.{Setting, Trace}
use Rattle.sl_trace.specs.declared.effects.Entry.{Entry}
use Rattle.std.proofs.Common.{ap, arith, inl, inr, refl, subst, sym, ◌∙◌}
use Rattle.std.specs.Prelude.{Contains, List, None, Option, Some, [], length, option_map, ℕ, ◌++◌, ◌<◌, ◌∷◌, ◌≡◌, ◌≤◌, ◌⊎◌}

-- ---- where a daemon comes from

-- One of these, with newer entries.
pub record CameFrom (P : Stamp → Type 0) (ds : List Daemon) (d : Daemon) : Type 0 where
  pub daemon : Daemon
  pub has : Contains ds daemon
  pub number : daemon.number ≡ d.number
  pub setting : daemon.setting ≡ d.setting
  pub newer : Trace
  pub trace : d.trace ≡ newer ++ daemon.trace
  pub stamps : List Stamp
  pub stamped : d.stamps ≡ stamps ++ daemon.stamps
  pub later : (s : Stamp) → Contains stamps s → P s

-- One that began without sessions.
pub record BeganSince (P : Stamp → Type 0) (d : Daemon) : Type 0 where
  pub given : d.setting.given ≡ []
  pub later : (s : Stamp) → Contains d.stamps s → P s

abbrev pub Came : (Stamp → Type 0) → List Daemon → Daemon → Type 0
Came P ds d = CameFrom P ds d ⊎ BeganSince P d

abbrev pub Come : (Stamp → Type 0) → List Daemon → List Daemon → Type 0
Come P ds es = (d : Daemon) → Contains es d → Came P ds d

pub came_itself : (P : Stamp → Type 0) (ds : List Daemon) (d : Daemon) → Contains ds d → CameFrom P ds d
came_itself P ds d has =
    record { daemon = d; has = has; number = refl; setting = refl; newer = []; trace = refl; stamps = []; stamped = refl; later = λ s there. absurd (contains_none s there) }

pub come_same : (P : Stamp → Type 0) (ds es : List Daemon) → es ≡ ds → Come P ds es
come_same P ds es same d has = inl (came_itself P ds d (subst (λ ys. Contains ys d) same has))

pub come_as : (P Q : Stamp → Type 0) (ds es : List Daemon) → ((s : Stamp) → P s → Q s) → Come P ds es → Come Q ds es
come_as P Q ds es each come d has =
    elim (come d has) as (λ z. Came Q ds d) [
      | inl c ↦ inl (record {
        daemon = c.daemon;
        has = c.has;
        number = c.number;
        setting = c.setting;
        newer = c.newer;
        trace = c.trace;
        stamps = c.stamps;
        stamped = c.stamped;
        later = λ s there. each s (c.later s there);
      })
      | inr b ↦ inr (record { given = b.given; later = λ s there. each s (b.later s there) })
    ]

append_again : {A : Type 0} (xs ys zs : List A) → xs ++ (ys ++ zs) ≡ (xs ++ ys) ++ zs
append_again [] ys zs = refl
append_again (x ∷ xs) ys zs = ap (λ us. x ∷ us) (append_again xs ys zs)

each_of_both : (P : Stamp → Type 0) (xs ys : List Stamp) → ((s : Stamp) → Contains xs s → P s) → ((s : Stamp) → Contains ys s → P s) → (s : Stamp) → Contains (xs ++ ys) s → P s
each_of_both P xs ys one two s there = elim (contains_append xs ys s there) as (λ z. P s) [ inl a ↦ one s a | inr b ↦ two s b ]

came_then : (P : Stamp → Type 0) (ds es : List Daemon) (d : Daemon) (c : CameFrom P es d) → Came P ds c.daemon → Came P ds d
came_then P ds es d c (inl b) =
    inl (record {
      daemon = b.daemon;
      has = b.has;
      number = b.number ∙ c.number;
      setting = b.setting ∙ c.setting;
      newer = c.newer ++ b.newer;
      trace = c.trace ∙ ap (λ t. c.newer ++ t) b.trace ∙ append_again c.newer b.newer b.daemon.trace;
      stamps = c.stamps ++ b.stamps;
      stamped = c.stamped ∙ ap (λ t. c.stamps ++ t) b.stamped ∙ append_again c.stamps b.stamps b.daemon.stamps;
      later = each_of_both P c.stamps b.stamps c.later b.later;
    })
came_then P ds es d c (inr b) =
    inr (record {
      given = ap (λ (st : Setting). st.given) (sym c.setting) ∙ b.given;
      later = λ s there. each_of_both P c.stamps c.daemon.stamps c.later b.later s (subst (λ ss. Contains ss s) c.stamped there);
    })

pub come_then : (P : Stamp → Type 0) (ds es fs : List Daemon) → Come P ds es → Come P es fs → Come P ds fs
come_then P ds es fs one two d has =
    elim (two d has) as (λ z. Came P ds d) [ inl c ↦ came_then P ds es d c (one c.daemon c.has) | inr b ↦ inr b ]

-- ---- over an event

begins_come : (P : Stamp → Type 0) (new : Daemon) (ds es : List Daemon) → new.setting.given ≡ [] → new.stamps ≡ [] → es ≡ new ∷ ds → Come P ds es
begins_come P new ds es given none is d has =
    elim (contains_cases new ds d (subst (λ ys. Contains ys d) is has)) as (λ z. Came P ds d) [
      | inl here ↦ inr (subst (BeganSince P) here (record { given = given; later = λ t there. absurd (contains_none t (subst (λ ss. Contains ss t) none there)) }))
      | inr old ↦ inl (came_itself P ds d old)
    ]

pub turned_come : (P : Stamp → Type 0) (w : World) (e : Event) (m : ℕ) (a b : Machine) → IsSettled a → Turned w e m a b → Come P (daemons_on a) (daemons_on b)
turned_come P w e m a b s (Stays is) = come_same P (daemons_on a) (daemons_on b) (ap daemons_on is)
turned_come P w e m a b s (Clocked n is) = come_same P (daemons_on a) (daemons_on b) (ap daemons_on is)
turned_come P w e m a b s (Called n f g h k is) = come_same P (daemons_on a) (daemons_on b) (ap daemons_on is)
turned_come P w e m a b s (Tested t is) = come_same P (daemons_on a) (daemons_on b) (ap daemons_on is)
turned_come P w e m a b s (Crashed event is) = come_same P (daemons_on a) (daemons_on b) (ap daemons_on is)
turned_come P w e m a b s (Went_down event up is) = come_same P (daemons_on a) (daemons_on b) (ap daemons_on is)
turned_come P w e m a b s (Came_up event down is) = come_same P (daemons_on a) (daemons_on b) (ap daemons_on is)
turned_come P w e m a b s (Began name event up used fresh is) =
    let new : Daemon = new_daemon (length (daemons_on a)) (setting_of w.program w.layout w.header m name (next_numbers a) []) (stamp_now w a) in
    begins_come P new (daemons_on a) (daemons_on b) refl refl (ap daemons_on is ∙ ap (λ ds. new ∷ ds) (all_ended a (s.unused used)))

come_entry : (P : Stamp → Type 0) (d : Daemon) (ds : List Daemon) (e : Entry) (s : Stamp) → P s → Come P (d ∷ ds) (with_entry e s d ∷ ds)
come_entry P d ds e s so x has =
    elim (contains_cases (with_entry e s d) ds x has) as (λ z. Came P (d ∷ ds) x) [
      | inl here ↦ inl (subst (CameFrom P (d ∷ ds)) here (record {
        daemon = d;
        has = contains_first d ds;
        number = refl;
        setting = refl;
        newer = e ∷ [];
        trace = refl;
        stamps = s ∷ [];
        stamped = refl;
        later = λ t there. elim (contains_cases s [] t there) as (λ z. P t) [ inl is ↦ subst P is so | inr none ↦ absurd (contains_none t none) ];
      }))
      | inr old ↦ inl (came_itself P (d ∷ ds) x (contains_more d ds x old))
    ]

entered : (P : Stamp → Type 0) (b c : Machine) (e : Entry) (s : Stamp) (o : Option Daemon) → b.daemon ≡ o → c.daemon ≡ option_map (with_entry e s) o → c.ended ≡ b.ended → P s
    → Come P (daemons_on b) (daemons_on c)
entered P b c e s None was is ended so = come_same P (daemons_on b) (daemons_on c) (sym (all_ended c is) ∙ ended ∙ all_ended b was)
entered P b c e s (Some d) was is ended so =
    subst (λ ds. Come P ds (daemons_on c)) (sym (daemons_are b d was))
    (subst (λ es. Come P (d ∷ b.ended) es) (sym (daemons_are c (with_entry e s d) is ∙ ap (λ ds. with_entry e s d ∷ ds) ended)) (come_entry P d b.ended e s so))

-- A stamp of an event's step, on the event's machine.
abbrev pub IsOfEvent : World → Event → ℕ → Stamp → Type 0
IsOfEvent w e m s = (m ≡ machine_of e) × (s.step ≡ (world_first w e).step)

stepped_come : (w : World) (e : Event) (m : ℕ) (b c : Machine) → (fx : _) → Stepped w e fx m b c → Come (IsOfEvent w e m) (daemons_on b) (daemons_on c)
stepped_come w e m b c fx (Elsewhere is) = come_same (IsOfEvent w e m) (daemons_on b) (daemons_on c) (ap daemons_on is)
stepped_come w e m b c fx (Alone none same is) = come_same (IsOfEvent w e m) (daemons_on b) (daemons_on c) (ap daemons_on is)
stepped_come w e m b c fx (Took i has same is) =
    let now : Stamp = stamp_now (next_step (first_change e w)) b in
    entered (IsOfEvent w e m) b c (entry_of i fx b) now b.daemon refl (ap (λ (x : Machine). x.daemon) is ∙ step_daemon now i fx b) (ap (λ (x : Machine). x.ended) is ∙ step_ended now i fx b)
    (same, refl)

pub event_comes : (p : Program) (h : Header) (now : List Happening) (x : Happening) (m : ℕ) (a c : Machine) → Goes_on p h now x m a c
    → Come (IsOfEvent (world_at p h now) x.0 m) (daemons_on a) (daemons_on c)
event_comes p h now x m a c g =
    let w : World = world_at p h now in
    let P : Stamp → Type 0 = IsOfEvent w x.0 m in
    come_then P (daemons_on a) (daemons_on g.becomes.middle) (daemons_on c) (turned_come P w x.0 m a g.becomes.middle g.settled g.becomes.turned)
    (stepped_come w x.0 m g.becomes.middle c g.effects g.becomes.stepped)

-- ---- over a run

-- A stamp of after a world.
abbrev pub IsAfter : World → Stamp → Type 0
IsAfter w s = w.step < s.step

-- Each machine was at this front, and its daemons come from there.
pub record WasAt (w : World) (m : ℕ) (c : Machine) : Type 0 where
  pub machine : Machine
  pub at : machine_at w m ≡ Some machine
  pub come : Come (IsAfter w) (daemons_on machine) (daemons_on c)

abbrev EachWas : Program → Header → List Happening → List Happening → Type 0
EachWas p h now xs = (m : ℕ) (c : Machine) → machine_at (world_at p h xs) m ≡ Some c → WasAt (world_at p h now) m c

after_event : (n w f s : ℕ) → n ≤ w → w < f → s ≡ f → n < s
after_event n w f s le lt is = omega (arith, le, lt, is)

was_next : (p : Program) (h : Header) (now xs : List Happening) (x : Happening) → LawfulRun p h (xs ++ x ∷ []) → (world_at p h now).step ≤ (world_at p h xs).step → EachWas p h now xs
    → EachWas p h now (xs ++ x ∷ [])
was_next p h now xs x run le was m c at =
    let b = was_before p h xs x run m c at in
    let a = was m b.0 b.1.at in
    let w : World = world_at p h now in
    let v : World = world_at p h xs in
    record {
      machine = a.machine;
      at = a.at;
      come = come_then (IsAfter w) (daemons_on a.machine) (daemons_on b.0) (daemons_on c) a.come
          (come_as (IsOfEvent v x.0 m) (IsAfter w) (daemons_on b.0) (daemons_on c)
          (λ s of. after_event w.step v.step (world_first v x.0).step s.step le (first_later v x.0).step of.1) (event_comes p h xs x m b.0 c b.1));
    }

one_more : (now : List Happening) (x : Happening) (rest : List Happening) → (now ++ x ∷ []) ++ rest ≡ now ++ x ∷ rest
one_more [] x rest = refl
one_more (y ∷ now) x rest = ap (λ xs. y ∷ xs) (one_more now x rest)

were_on : (p : Program) (h : Header) (now xs rest : List Happening) → LawfulRun p h (xs ++ rest) → (world_at p h now).step ≤ (world_at p h xs).step → EachWas p h now xs
    → EachWas p h now (xs ++ rest)
were_on p h now xs [] run le was = subst (EachWas p h now) (sym (nothing_more xs)) was
were_on p h now xs (x ∷ rest) run le was =
    let run' : LawfulRun p h ((xs ++ x ∷ []) ++ rest) = subst (λ ys. LawfulRun p h ys) (sym (one_more xs x rest)) run in
    let more : (world_at p h xs).step ≤ (world_at p h (xs ++ x ∷ [])).step =
    subst (λ (v : World). (world_at p h xs).step ≤ v.step) (sym (run_after (world_with p h) xs (x ∷ []))) (steps_grow (world_at p h xs) (x ∷ [])) in
    subst (EachWas p h now) (one_more xs x rest)
    (were_on p h now (xs ++ x ∷ []) rest run' (omega (arith, le, more)) (was_next p h now xs x (fronts_are_lawful p h (xs ++ x ∷ []) rest run') le was))

pub each_was : (p : Program) (h : Header) (now rest : List Happening) → LawfulRun p h (now ++ rest) → (m : ℕ) (c : Machine) → machine_at (world_at p h (now ++ rest)) m ≡ Some c
    → WasAt (world_at p h now) m c
each_was p h now rest run =
    were_on p h now now rest run (omega arith)
    (λ m c at. record { machine = c; at = at; come = come_same (IsAfter (world_at p h now)) (daemons_on c) (daemons_on c) refl })
