-- A call of a daemon's trace, as a call of the world with all that it stands in.
use Rattle.sl_run_law.proofs.Course.CoursesAreCalls.{courses_are_calls}
use Rattle.sl_run_law.specs.Course.CallStamps.{IsCourseOf, Pairwise, courses_of}
use Rattle.sl_run_law.proofs.Front.JoinedLists.{contains_right}
use Rattle.sl_run.specs.Lawful.{Orderly}
use Rattle.sl_run_law.specs.Moment.Orders.{CallsFall}
use Rattle.sl_words.proofs.Lists.{contains_first, kept_inside}
use Rattle.sl_safety.proofs.Resources.NewestCalls.{sent_as}
use Rattle.sl_safety.proofs.Resources.CallParts.{PairParts, Standing, fall_behind, sent_there, standing}
use Rattle.sl_safety.proofs.Resources.StepsNameEntries.{one_daemon}
use Rattle.sl_safety.specs.Resources.SentCalls.{Sent, all_sent}
use Rattle.sl_run.specs.Runs.{Happening}
use Rattle.sl_run.specs.Safety.{LawfulRun, world_at}
use Rattle.sl_run.specs.Worlds.{Course, Daemon, Machine, Program, World, daemon_numbered, daemons_on, machine_at}
use Rattle.sl_run.specs.declared.header.Header.{Header}
use Rattle.sl_trace.specs.Sessions.{session_numbered}
use Rattle.sl_trace.specs.declared.session.Session.{Session}
use Rattle.sl_trace.specs.Traces.{Submitted, submitted}
use Rattle.sl_words.proofs.CaseLaws.{one_value}
use Rattle.std.proofs.Common.{ap, refl, subst, sym, ◌∙◌}
use Rattle.std.proofs.lemmas.Bool.{eqb-true}
use Rattle.std.specs.Prelude.{Contains, List, Some, [], ℕ, ◌++◌, ◌==◌, ◌∷◌, ◌≡◌}

-- ---- the other list in parts

pub record OtherParts {A B : Type 0} (R : A → B → Type 0) (xs : List A) (y : B) (ys : List B) : Type 0 where
  pub newer : List A
  pub one : A
  pub older : List A
  pub is : xs ≡ newer ++ one ∷ older
  pub pair : R one y
  pub pairs : Pairwise R older ys

pub other_parts : {A B : Type 0} (R : A → B → Type 0) (xs : List A) (newer : List B) (y : B) (older : List B) → Pairwise R xs (newer ++ y ∷ older) → OtherParts R xs y older
other_parts R [] [] y older h = absurd h
other_parts R (x ∷ xs) [] y older h = record { newer = []; one = x; older = xs; is = refl; pair = h.0; pairs = h.1 }
other_parts R [] (z ∷ newer) y older h = absurd h
other_parts R (x ∷ xs) (z ∷ newer) y older h =
    let r = other_parts R xs newer y older h.1 in
    record { newer = x ∷ r.newer; one = r.one; older = r.older; is = ap (λ l. x ∷ l) r.is; pair = r.pair; pairs = r.pairs }

-- ---- a call of the trace

pub record StandsAt (w : World) (m : ℕ) (a : Machine) (d : Daemon) (q : Submitted) (older : List Submitted) (s : Session) : Type 0 where
  pub sent : Sent
  pub has : Contains (all_sent w) sent
  pub machine_is : sent.machine ≡ m
  pub daemon_is : sent.course.daemon ≡ d.number
  pub inside : Contains a.calls sent.course
  pub pair : IsCourseOf d sent.course q
  pub stands : Standing w sent
  pub machine : stands.machine ≡ a
  pub daemon : stands.daemon ≡ d
  pub one : stands.told.one ≡ q
  pub older_is : stands.told.older ≡ older
  pub session : stands.session ≡ s

pub stands_at : (p : Program) (h : Header) (xs : List Happening) → LawfulRun p h xs → (m : ℕ) (a : Machine) (d : Daemon) → machine_at (world_at p h xs) m ≡ Some a
    → Contains (daemons_on a) d → Orderly d.setting d.trace → (newer older : List Submitted) (q : Submitted) → submitted d.trace ≡ newer ++ q ∷ older → (s : Session)
    → session_numbered d.setting d.trace q.call.session ≡ Some s → StandsAt (world_at p h xs) m a d q older s
stands_at p h xs run m a d at has law newer older q is s known =
    let w : World = world_at p h xs in
    let o = other_parts (IsCourseOf d) (courses_of a d.number) newer q older
    (subst (λ ms. Pairwise (IsCourseOf d) (courses_of a d.number) ms) is (courses_are_calls p h xs run m a d at has)) in
    let c : Course = o.one in
    let f = kept_inside (λ (x : Course). x.daemon == d.number) a.calls c (subst (λ cs. Contains cs c) (sym o.is) (contains_right o.newer (c ∷ o.older) c (contains_first c o.older))) in
    let number : c.daemon ≡ d.number = eqb-true c.daemon d.number f.1 in
    let z : Sent = sent_as m c in
    let there : Contains (all_sent w) z = sent_there w m a c at f.0 in
    let k = standing p h xs run z there in
    let machine : k.machine ≡ a = one_value k.machine a (machine_at w m) k.at at in
    let daemon_there : Contains (daemons_on a) k.daemon = subst (λ (b : Machine). Contains (daemons_on b) k.daemon) machine k.has in
    let daemon : k.daemon ≡ d =
    one_daemon p h xs run m a k.daemon d at daemon_there has k.told.one.at q.at c.made c.made k.told.pair.made o.pair.made refl in
    let fallen : CallsFall w.step (courses_of a d.number) =
    subst (λ (b : Machine). CallsFall w.step (courses_of b d.number)) machine (subst (λ (e : Daemon). CallsFall w.step (courses_of k.machine e.number)) daemon k.fallen) in
    let behind = fall_behind w.step o.newer c o.older (subst (λ cs. CallsFall w.step cs) o.is fallen) in
    let told : PairParts (IsCourseOf d) c o.older (submitted d.trace) = record { newer = newer; one = q; older = older; is = is; pair = o.pair; pairs = o.pairs } in
    record {
      sent = z;
      has = there;
      machine_is = refl;
      daemon_is = number;
      inside = f.0;
      pair = o.pair;
      stands = record {
        machine = a;
        at = at;
        inside = f.0;
        falls = subst (λ (b : Machine). CallsFall w.step b.calls) machine k.falls;
        daemon = d;
        has = has;
        numbered = subst (λ (b : Machine). daemon_numbered b c.daemon ≡ Some d) machine (k.numbered ∙ ap (λ e. Some e) daemon);
        number = sym number;
        lawful = law;
        after = o.newer;
        before = o.older;
        courses = o.is;
        told = told;
        fallen = fallen;
        timed = behind.0;
        fall = behind.1;
        session = s;
        known = known;
      };
      machine = refl;
      daemon = refl;
      one = refl;
      older_is = refl;
      session = refl;
    }
