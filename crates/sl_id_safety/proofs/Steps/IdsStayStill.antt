-- Where the machines of a world keep their calls, daemons and resets, and nothing lands, its ids stay.
use Rattle.sl_run_law.specs.Course.Mirrors.{AreNumbered}
use Rattle.sl_id_safety.proofs.State.FindingFrames.{find_passes, found_moves, found_on, found_then, is_found, moved, moves_by, not_found, same_moved, session_on, session_with}
use Rattle.sl_id_safety.proofs.State.Frames.{is_running}
use Rattle.sl_id_safety.proofs.State.SectorFrames.{SameFound, SameSector, history_same, sector_same, session_same}
use Rattle.sl_id_safety.proofs.State.WriterFrames.{KeepsGiven, given_on, holder_same}
use Rattle.sl_id_safety.specs.State.IdStates.{holder_at, session_at, session_named_so, submitter_of, submitter_on, writer_of}
use Rattle.sl_ids.specs.State.{SessionId as IdName}
use Rattle.sl_run.specs.Safety.{Found, SessionId, is_course_of, session_of_world}
use Rattle.sl_run.specs.Worlds.{Daemon, Landing, Machine, World, daemon_numbered, daemons_on, history_of, machine_at}
use Rattle.sl_run_law.specs.FatesStay.{Every}
use Rattle.sl_run_law.specs.Machines.{EachMachine}
use Rattle.sl_trace.specs.Sessions.{given_session, session_numbered, sessions}
use Rattle.sl_trace.specs.declared.session.Session.{Session}
use Rattle.sl_run_law.proofs.Watchdog.StepsKeepWatch.{number_below}
use Rattle.sl_words.proofs.CaseLaws.{none_some, true_is_false}
use Rattle.sl_trace.specs.declared.input.Given.{Given}
use Rattle.sl_words.specs.Words.{some_is}
use Rattle.std.proofs.Common.{ap, arith, inl, inr, refl, subst, sym, ◌∙◌}
use Rattle.std.proofs.lemmas.Bool.{eqb-true}
use Rattle.std.specs.List.{enumerate_from}
use Rattle.std.specs.Prelude.{Bool, List, None, Option, Some, cond, false, filter, find, if◌then◌else◌, length, map, option_and_then, option_map, slice_get, suc, true, zero, [], ℕ, ◌-◌, ◌==◌, ◌∷◌, ◌≡◌, ◌⊎◌}

-- ---- machines

-- A daemon begins where none runs, and is given no session.
pub record Starts (a b : Machine) : Type 0 where
  pub none : a.daemon ≡ None
  pub daemon : Daemon
  pub begins : b.daemon ≡ Some daemon
  pub number : daemon.number ≡ length a.ended
  pub given : daemon.setting.given ≡ []
  pub trace : daemon.trace ≡ []
  pub numbered : AreNumbered (daemons_on a)

-- A machine keeps all that its sessions depend on; or a daemon begins.
pub record IsStill (a b : Machine) : Type 0 where
  pub calls : b.calls ≡ a.calls
  pub resets : b.resets ≡ a.resets
  pub ended : b.ended ≡ a.ended
  pub daemon : (b.daemon ≡ a.daemon) ⊎ Starts a b

-- Those that run and those that ended.
abbrev pub with_running : Option Daemon → List Daemon → List Daemon
with_running o ds = elim o [ None ↦ ds | Some d ↦ d ∷ ds ]

same_daemons : (a b : Machine) → b.daemon ≡ a.daemon → b.ended ≡ a.ended → daemons_on b ≡ daemons_on a
same_daemons a b daemon ended = ap (λ o. with_running o b.ended) daemon ∙ ap (λ ds. with_running a.daemon ds) ended

old_daemons : (a b : Machine) → Starts a b → daemons_on a ≡ a.ended
old_daemons a b s = ap (λ o. with_running o a.ended) s.none

new_daemons : (a b : Machine) (s : Starts a b) → b.ended ≡ a.ended → daemons_on b ≡ s.daemon ∷ a.ended
new_daemons a b s ended = ap (λ o. with_running o b.ended) s.begins ∙ ap (λ ds. s.daemon ∷ ds) ended

-- ---- numbers of daemons

not_there : (ds : List Daemon) (n : ℕ) (o : Option Daemon) → AreNumbered ds → n ≡ length ds → find (λ d. d.number == n) ds ≡ o → o ≡ None
not_there ds n None numbered is h = refl
not_there ds n (Some d) numbered is h =
    let p = find_passes (λ x. x.number == n) ds d h in
    absurd (omega (arith, number_below ds d numbered p.there, eqb-true d.number n p.test, is))

-- ---- sessions stay

-- What stays of a session on its machine.
record Stays (n : ℕ) (i : SessionId) (a b : Machine) : Type 0 where
  found : session_on n i b ≡ option_map (moved b) (session_on n i a)
  runs : (f : Found) → session_on n i a ≡ Some f → is_running i.daemon b ≡ is_running i.daemon a

not_given : (given : List Given) (n : ℕ) → given ≡ [] → slice_get (map given_session (enumerate_from 0 given)) n ≡ None
not_given given n h = ap (λ gs. slice_get (map given_session (enumerate_from 0 gs)) n) h

none_begun : (d : Daemon) (n : ℕ) → d.setting.given ≡ [] → d.trace ≡ [] → session_numbered d.setting d.trace n ≡ None
none_begun d n given trace = ap (λ es. session_numbered d.setting es n) trace ∙ not_given d.setting.given n given

new_by : (n : ℕ) (i : SessionId) (b : Machine) (d : Daemon) (ds : List Daemon) (t : Bool) → d.setting.given ≡ [] → d.trace ≡ [] → (d.number == i.daemon) ≡ t → t ≡ true
    → session_with n i b (cond t (Some d) (find (λ x. x.number == i.daemon) ds)) ≡ None
new_by n i b d ds true given trace is this =
    ap (λ o. option_map (λ s. let y : Found = record { machine = b; daemon = d; session = s; now = n } in y) o) (none_begun d i.number given trace)
new_by n i b d ds false given trace is this = absurd (true_is_false (sym this))

started_new : (n : ℕ) (i : SessionId) (a b : Machine) (s : Starts a b) → b.ended ≡ a.ended → (s.daemon.number == i.daemon) ≡ true
    → Stays n i a b
started_new n i a b s ended is =
    let same : i.daemon ≡ length (daemons_on a) = sym (eqb-true s.daemon.number i.daemon is) ∙ s.number ∙ ap (λ ds. length ds) (sym (old_daemons a b s)) in
    let none : daemon_numbered a i.daemon ≡ None =
    not_there (daemons_on a) i.daemon (daemon_numbered a i.daemon) s.numbered same refl in
    let before : session_on n i a ≡ None = ap (session_with n i a) none in
    let after : session_on n i b ≡ None =
    ap (λ ds. session_with n i b (find (λ x. x.number == i.daemon) ds)) (new_daemons a b s ended)
    ∙ new_by n i b s.daemon a.ended (s.daemon.number == i.daemon) s.given s.trace refl is in
    record { found = after ∙ sym (ap (option_map (moved b)) before); runs = λ f h. absurd (none_some f (sym before ∙ h)) }

other_by : (n : ℕ) (i : SessionId) (b : Machine) (d : Daemon) (ds : List Daemon) (t : Bool) → t ≡ false
    → session_with n i b (cond t (Some d) (find (λ x. x.number == i.daemon) ds)) ≡ session_with n i b (find (λ x. x.number == i.daemon) ds)
other_by n i b d ds true h = absurd (true_is_false h)
other_by n i b d ds false h = refl

started_other : (n : ℕ) (i : SessionId) (a b : Machine) (s : Starts a b) → b.ended ≡ a.ended → (s.daemon.number == i.daemon) ≡ false → Stays n i a b
started_other n i a b s ended is =
    record {
      found = ap (λ ds. session_with n i b (find (λ x. x.number == i.daemon) ds)) (new_daemons a b s ended)
          ∙ other_by n i b s.daemon a.ended (s.daemon.number == i.daemon) is
          ∙ ap (λ ds. session_with n i b (find (λ x. x.number == i.daemon) ds)) (sym (old_daemons a b s)) ∙ moves_by n i a b (daemon_numbered a i.daemon);
      runs = λ f h. ap (λ o. some_is (λ d. d.number == i.daemon) o) s.begins ∙ is ∙ sym (ap (λ o. some_is (λ d. d.number == i.daemon) o) s.none);
    }

started_by : (n : ℕ) (i : SessionId) (a b : Machine) (s : Starts a b) (t : Bool) → b.ended ≡ a.ended → (s.daemon.number == i.daemon) ≡ t
    → Stays n i a b
started_by n i a b s true ended is = started_new n i a b s ended is
started_by n i a b s false ended is = started_other n i a b s ended is

stays_by : (n : ℕ) (i : SessionId) (a b : Machine) → b.ended ≡ a.ended → (b.daemon ≡ a.daemon) ⊎ Starts a b → Stays n i a b
stays_by n i a b ended (inl daemon) =
    record { found = found_moves n i a b (same_daemons a b daemon ended); runs = λ f h. ap (λ o. some_is (λ d. d.number == i.daemon) o) daemon }
stays_by n i a b ended (inr s) = started_by n i a b s (s.daemon.number == i.daemon) ended refl

-- ---- what machines were given stays

-- What a first daemon was given.
abbrev pub given_first : Option Daemon → List Session
given_first None = []
given_first (Some d) = sessions d.setting []

given_by : (d : Daemon) (ds : List Daemon) (t : Bool) → d.setting.given ≡ [] → (d.number == 0) ≡ t → (t ≡ true → ds ≡ [])
    → given_first (cond t (Some d) (find (λ x. x.number == 0) ds))
    ≡ given_first (find (λ x. x.number == 0) ds)
given_by d ds true given is empty =
    ap (λ gs. map given_session (enumerate_from 0 gs)) given
    ∙ sym (ap (λ xs. given_first (find (λ x. x.number == 0) xs)) (empty refl))
given_by d ds false given is empty = refl

no_length : (ds : List Daemon) (n : ℕ) → n ≡ length ds → (n == 0) ≡ true → ds ≡ []
no_length [] n h k = refl
no_length (d ∷ ds) n h k = absurd (omega (arith, h, eqb-true n 0 k))

pub given_stays : (a b : Machine) → b.ended ≡ a.ended → (b.daemon ≡ a.daemon) ⊎ Starts a b → given_on b ≡ given_on a
given_stays a b ended (inl daemon) =
    ap (λ ds. given_first (find (λ x. x.number == 0) ds)) (same_daemons a b daemon ended)
given_stays a b ended (inr s) =
    ap (λ ds. given_first (find (λ x. x.number == 0) ds)) (new_daemons a b s ended)
    ∙ given_by s.daemon a.ended (s.daemon.number == 0) s.given refl (no_length a.ended s.daemon.number s.number)
    ∙ sym (ap (λ ds. given_first (find (λ x. x.number == 0) ds)) (old_daemons a b s))

-- ---- worlds

-- A world whose machines keep all that, where nothing lands and no time passes.
pub record StaysStill (w v : World) : Type 0 where
  pub layout : v.layout ≡ w.layout
  pub header : v.header ≡ w.header
  pub landings : v.landings ≡ w.landings
  pub machines : length v.machines ≡ length w.machines
  pub moment : v.moment ≡ w.moment
  pub each : EachMachine (λ m. IsStill) w v

none_there : (ms ns : List Machine) (k : ℕ) → length ns ≡ length ms → slice_get ms k ≡ None → slice_get ns k ≡ None
none_there [] [] k same h = refl
none_there [] (b ∷ ns) k same h = absurd (omega (arith, same))
none_there (a ∷ ms) [] k same h = absurd (omega (arith, same))
none_there (a ∷ ms) (b ∷ ns) zero same h = absurd (none_some a (sym h))
none_there (a ∷ ms) (b ∷ ns) (suc k) same h = none_there ms ns k (omega (arith, same)) h

gone_by : (b : Bool) (o p : Option Machine) → (o ≡ None → p ≡ None) → (if b then None else o) ≡ None → (if b then None else p) ≡ None
gone_by true o p f h = refl
gone_by false o p f h = f h

-- A machine that is not there is not there later.
pub machine_gone : (w v : World) (m : ℕ) → length v.machines ≡ length w.machines → machine_at w m ≡ None → machine_at v m ≡ None
machine_gone w v m same h =
    gone_by (m == 0) (slice_get w.machines (m - 1)) (slice_get v.machines (m - 1)) (none_there w.machines v.machines (m - 1) same) h

submits_by : (w v : World) (p : ℕ × ℕ) (o : Option Machine) → machine_at w p.0 ≡ o → StaysStill w v → submitter_of v p ≡ submitter_of w p
submits_by w v p None at s =
    ap (λ o. option_and_then (submitter_on p.0 p.1) o) (machine_gone w v p.0 s.machines at) ∙ sym (ap (λ o. option_and_then (submitter_on p.0 p.1) o) at)
submits_by w v p (Some a) at s =
    let b = s.each p.0 a at in
    ap (λ o. option_and_then (submitter_on p.0 p.1) o) b.1
    ∙ ap (λ cs. option_map (λ c. let n : IdName = record { machine = p.0; daemon = c.daemon; number = c.call.session } in n) (find (λ c. c.call.number == p.1) cs)) b.2.calls
    ∙ sym (ap (λ o. option_and_then (submitter_on p.0 p.1) o) at)

given_each : (w v : World) → StaysStill w v → EachMachine KeepsGiven w v
given_each w v s m a at = let b = s.each m a at in (b.0, b.1, given_stays a b.0 b.2.ended b.2.daemon)

wrote_by : (w v : World) (path : List ℕ) (offset : ℕ) (o : Option (ℕ × ℕ)) → StaysStill w v
    → elim o as (λ z. Option IdName) [ None ↦ holder_at v path offset | Some p ↦ submitter_of v p ]
    ≡ elim o as (λ z. Option IdName) [ None ↦ holder_at w path offset | Some p ↦ submitter_of w p ]
wrote_by w v path offset None s = holder_same w v path offset s.layout s.machines (given_each w v s)
wrote_by w v path offset (Some p) s = submits_by w v p (machine_at w p.0) refl s

-- Who wrote a landing stays.
pub still_writer : (w v : World) → StaysStill w v → (l : Landing) → writer_of v l ≡ writer_of w l
still_writer w v s l = wrote_by w v l.path l.offset l.writer s

every_one : {A : Type 0} (P : A → Type 0) (xs : List A) → ((x : A) → P x) → Every P xs
every_one P [] h = tt
every_one P (x ∷ xs) h = (h x, every_one P xs h)

pub still_sector : (w v : World) (path : List ℕ) (offset : ℕ) → StaysStill w v → SameSector w v path offset
still_sector w v path offset s =
    record {
      layout = s.layout;
      history = history_same w v path offset s.layout s.header s.landings;
      writers = every_one (λ l. writer_of v l ≡ writer_of w l) (history_of w path offset) (still_writer w v s);
    }

found_as : (w v : World) (path : List ℕ) (offset n : ℕ) (i : SessionId) (a b : Machine) (o p : Option Found) → session_on n i a ≡ o
    → p ≡ option_map (moved b) o → IsStill a b → Stays n i a b → SameSector w v path offset → SameFound w v path offset i o p
found_as w v path offset n i a b None p at is still stays s = subst (λ q. SameFound w v path offset i None q) (sym is) tt
found_as w v path offset n i a b (Some f) p at is still stays s =
    subst (λ q. SameFound w v path offset i (Some f) q) (sym is)
    (same_moved n i a b f (is_found n i a f at) (ap (λ cs. filter (is_course_of i) cs) still.calls) (stays.runs f at) still.resets, sector_same w v path offset s i f)

world_by : (w v : World) (path : List ℕ) (offset : ℕ) (i : SessionId) (o : Option Machine) → machine_at w i.machine ≡ o → StaysStill w v
    → SameFound w v path offset i (session_of_world w i) (session_of_world v i)
world_by w v path offset i None at s =
    subst (λ o. SameFound w v path offset i o (session_of_world v i)) (sym (not_found w i at))
    (subst (λ p. SameFound w v path offset i None p) (sym (not_found v i (machine_gone w v i.machine s.machines at))) tt)
world_by w v path offset i (Some a) at s =
    let b = s.each i.machine a at in
    let stays : Stays w.moment i a b.0 = stays_by w.moment i a b.0 b.2.ended b.2.daemon in
    subst (λ o. SameFound w v path offset i o (session_of_world v i)) (sym (found_on w i a at))
    (subst (λ p. SameFound w v path offset i (session_on w.moment i a) p) (sym (found_then w v i b.0 s.moment b.1))
    (found_as w v path offset w.moment i a b.0 (session_on w.moment i a) (session_on w.moment i b.0) refl stays.found b.2 stays (still_sector w v path offset s)))

-- Each session stands as before.
pub still_session : (w v : World) (path : List ℕ) (offset : ℕ) → StaysStill w v → (n : IdName) → session_at v path offset n ≡ session_at w path offset n
still_session w v path offset s n =
    session_same w v path offset n (world_by w v path offset (session_named_so n) (machine_at w (session_named_so n).machine) refl s)
