-- A session that is found is found later, with the same daemon gone on and the same machine gone on.
use Rattle.sl_run_law.specs.Course.Mirrors.{AreNumbered}
use Rattle.sl_run_law.specs.Course.CourseLaws.{MachinesMirror}
use Rattle.sl_run_law.proofs.Front.RunsFromFronts.{daemon_later, run_after}
use Rattle.sl_id_safety.proofs.State.FindingFrames.{found_on, on_machine, session_with}
use Rattle.sl_words.proofs.Lists.{contains_cases, contains_none}
use Rattle.sl_run.specs.Runs.{Happening}
use Rattle.sl_run.specs.Safety.{Found, LawfulRun, SessionId, session_of_world, world_at}
use Rattle.sl_run.specs.Worlds.{Daemon, Program, World, daemon_numbered, daemons_on, machine_at, world_with}
use Rattle.sl_run.specs.declared.header.Header.{Header}
use Rattle.sl_run_law.proofs.CoursesGoOn.{run_tracks}
use Rattle.sl_run_law.specs.CoursesGoOn.{Continues, Tracks}
use Rattle.sl_run_law.specs.DaemonsGoOn.{DaemonGoes}
use Rattle.sl_run_law.proofs.Sessions.CallOwners.{sessions_stay}
use Rattle.sl_trace.specs.Sessions.{session_numbered}
use Rattle.sl_trace.specs.declared.session.Session.{Session}
use Rattle.sl_run_law.proofs.Watchdog.StepsKeepWatch.{number_below}
use Rattle.sl_words.proofs.CaseLaws.{one_value}
use Rattle.std.proofs.Common.{ap, arith, inl, inr, refl, subst, sym, tests, ◌∙◌}
use Rattle.std.proofs.lemmas.Bool.{eq-eqb}
use Rattle.std.specs.Prelude.{Contains, List, Some, cond, false, find, length, option_map, [], ℕ, ◌++◌, ◌<◌, ◌==◌, ◌∷◌, ◌≡◌}

first_other : (n m k : ℕ) → n ≡ k → m < k → (n == m) ≡ false
first_other n m k h lt = grind (arith, tests)

-- A daemon is found by its number.
pub numbered_found : (ds : List Daemon) (d : Daemon) (n : ℕ) → AreNumbered ds → Contains ds d → d.number ≡ n → find (λ x. x.number == n) ds ≡ Some d
numbered_found [] d n numbered has is = absurd (contains_none d has)
numbered_found (x ∷ ds) d n numbered has is =
    elim (contains_cases x ds d has) as (λ z. find (λ y. y.number == n) (x ∷ ds) ≡ Some d) [
      | inl e ↦ ap (λ b. cond b (Some x) (find (λ y. y.number == n) ds)) (eq-eqb x.number n (ap (λ y. y.number) e ∙ is)) ∙ ap (λ y. Some y) e
      | inr more ↦ ap (λ b. cond b (Some x) (find (λ y. y.number == n) ds))
          (ap (λ k. x.number == k) (sym is) ∙ first_other x.number d.number (length ds) numbered.0 (number_below ds d numbered.1 more))
          ∙ numbered_found ds d n numbered.1 more is
    ]

-- A session later.
pub record FoundLater (w : World) (i : SessionId) (f : Found) : Type 0 where
  pub found : Found
  pub at : session_of_world w i ≡ Some found
  pub session : found.session ≡ f.session
  pub goes : DaemonGoes f.daemon found.daemon
  pub tracks : Tracks Continues f.machine found.machine

session_later : (i : SessionId) (d e : Daemon) (s : Session) → DaemonGoes d e → session_numbered d.setting d.trace i.number ≡ Some s
    → session_numbered e.setting e.trace i.number ≡ Some s
session_later i d e s g h =
    ap (λ st. session_numbered st e.trace i.number) g.setting ∙ ap (λ es. session_numbered d.setting es i.number) g.trace.same
    ∙ sessions_stay d.setting g.trace.newer d.trace i.number s h

-- A session that is found is found later.
pub found_later : MachinesMirror → (p : Program) (h : Header) (now rest : List Happening) → LawfulRun p h (now ++ rest) → (i : SessionId) (f : Found)
    → session_of_world (world_at p h now) i ≡ Some f → FoundLater (world_at p h (now ++ rest)) i f
found_later mirror p h now rest run i f at =
    let w : World = world_at p h now in
    let v : World = world_at p h (now ++ rest) in
    let on = on_machine w i f at in
    let l = daemon_later p h now rest run.is_run i.machine on.0 f.daemon on.1 on.2.has in
    let number : l.daemon.number ≡ i.daemon = l.goes.number ∙ on.2.number in
    let there : daemon_numbered l.machine i.daemon ≡ Some l.daemon =
    numbered_found (daemons_on l.machine) l.daemon i.daemon (mirror p h (now ++ rest) run i.machine l.machine l.at).numbered l.has number in
    let session : session_numbered l.daemon.setting l.daemon.trace i.number ≡ Some f.session = session_later i f.daemon l.daemon f.session l.goes on.2.session in
    let t = run_tracks w rest i.machine on.0 on.1 in
    let after : machine_at v i.machine ≡ Some t.0 = ap (λ x. machine_at x i.machine) (run_after (world_with p h) now rest) ∙ t.1 in
    let same : t.0 ≡ l.machine = one_value t.0 l.machine (machine_at v i.machine) after l.at in
    let tracks : Tracks Continues f.machine l.machine =
    subst (λ b. Tracks Continues f.machine b) same (subst (λ a. Tracks Continues a t.0) (sym on.2.machine) t.2) in
    record {
      found = record { machine = l.machine; daemon = l.daemon; session = f.session; now = v.moment };
      at = found_on v i l.machine l.at ∙ ap (session_with v.moment i l.machine) there
          ∙ ap (λ o. option_map (λ s. let y : Found = record { machine = l.machine; daemon = l.daemon; session = s; now = v.moment } in y) o) session;
      session = refl;
      goes = l.goes;
      tracks = tracks;
    }
