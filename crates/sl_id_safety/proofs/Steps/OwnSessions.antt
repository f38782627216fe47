-- What an entry is to each session of the daemon that takes it, by what it is to the session's renewals.
use Rattle.sl_run_law.specs.Course.CourseLaws.{MachinesMirror}
use Rattle.sl_id_safety.proofs.State.Frames.{ended}
use Rattle.sl_id_safety.proofs.State.SectorFrames.{SameSector}
use Rattle.sl_id_safety.specs.State.IdStates.{blank, claim_may_land, deciding_sample, has_begun, id_state, is_sector_of, renewed_by_now, session_at, session_named_so, standing_by, standing_of}
use Rattle.sl_id_safety.specs.State.StateLaws.{IsIdPlace}
use Rattle.sl_ids.proofs.DerivedLaws.{watchdogs}
use Rattle.sl_ids.proofs.WholeRuns.{reached_kept}
use Rattle.sl_ids.specs.Guards.{terms_of}
use Rattle.sl_ids.specs.Invariant.{Invariant}
use Rattle.sl_ids.specs.Runs.{Reached}
use Rattle.sl_ids.specs.State.{Session as IdSession, SessionId as IdName, State}
use Rattle.sl_ids.specs.Steps.{after_renewal}
use Rattle.sl_ids.specs.Terms.{Terms}
use Rattle.sl_id_safety.proofs.Steps.EntryCarries.{Carried, carried}
use Rattle.sl_id_safety.proofs.Steps.EntriesGoOn.{EntryActs, OwnSessionsAct}
use Rattle.sl_id_safety.proofs.Steps.EventFrames.{StayDistinct, after_event, step_sector}
use Rattle.sl_id_safety.proofs.Steps.Flags.{last_one, over_stays, pending_before}
use Rattle.sl_id_safety.proofs.Steps.OtherSessions.{IsOfEntry}
use Rattle.sl_id_safety.proofs.Steps.OwnCalls.{Through}
use Rattle.sl_id_safety.proofs.Steps.EntryKeepsStanding.{acted, begun_stays, stands_on}
use Rattle.sl_id_safety.proofs.Steps.StepFrames.{IsEntry}
use Rattle.sl_id_safety.proofs.Steps.OneSessionTurns.{Renewed, Renews_so, Turned, Turns, flags_stay, flags_turn}
use Rattle.sl_id_safety.specs.Steps.EventParts.{between, state_between}
use Rattle.sl_run_law.specs.Landing.Landings.{LandingsAreWritten}
use Rattle.sl_run.specs.Runs.{Happening}
use Rattle.sl_run.specs.Safety.{Found, LawfulRun, SessionId, is_over, session_of_world, trace_of, world_at}
use Rattle.sl_run.specs.Worlds.{Program, World}
use Rattle.sl_run.specs.declared.header.Header.{Header}
use Rattle.sl_trace.specs.Sessions.{joined_after}
use Rattle.sl_words.proofs.CaseLaws.{is_false, not_both, true_is_false}
use Rattle.sl_words.proofs.WordLaws.{and_true}
use Rattle.std.proofs.Common.{ap, refl, subst, sym, ◌∙◌}
use Rattle.std.specs.Prelude.{Bool, List, None, Option, Some, false, is_some, true, [], ℕ, ◌&&◌, ◌++◌, ◌∷◌, ◌≡◌}

-- ---- renewals

-- What an entry is to the renewals of a session: none counts; or one does, of a session that isn't over and stays so.
pub data RenewalGoes (w v : World) (path : List ℕ) (offset : ℕ) (i : SessionId) (f g : Found) : Type 0 where
  None_counts : is_some (joined_after (trace_of g) g.session) ≡ is_some (joined_after (trace_of f) f.session)
      → renewed_by_now v i g ≡ renewed_by_now w i f → RenewalGoes w v path offset i f g
  One_counts : is_over i f ≡ false → is_over i g ≡ false → is_some (joined_after (trace_of g) g.session) ≡ true
      → Renewed (id_state w path offset) (standing_of w path offset i f) (after_renewal (renewed_by_now v i g) (standing_of w path offset i f))
      → RenewalGoes w v path offset i f g

-- What is said of each session of the daemon that has begun there.
abbrev pub RenewalsGo : Type 0
RenewalsGo = (p : Program) (h : Header) (now : List Happening) (x : Happening) (path : List ℕ) (offset : ℕ) → LawfulRun p h (now ++ x ∷ [])
    → IsIdPlace p h path offset → Reached (terms_of h.timing) (state_between p h now x.0 path offset) → (e : IsEntry p h now x) → (i : SessionId)
    → IsOfEntry e i → (f g : Found) → session_of_world (between (world_at p h now) x.0) i ≡ Some f
    → Through p h (now ++ x ∷ []) (between (world_at p h now) x.0) i f g
    → is_sector_of (between (world_at p h now) x.0).layout path offset f.session ≡ true → has_begun i f ≡ true
    → RenewalGoes (between (world_at p h now) x.0) (after_event p h now x) path offset i f g

-- A session that begins with the entry has done nothing.
abbrev pub NewAreBlank : Type 0
NewAreBlank = (p : Program) (h : Header) (now : List Happening) (x : Happening) (path : List ℕ) (offset : ℕ) → LawfulRun p h (now ++ x ∷ [])
    → (e : IsEntry p h now x) → (n : IdName) → IsOfEntry e (session_named_so n)
    → session_of_world (between (world_at p h now) x.0) (session_named_so n) ≡ None → session_at (after_event p h now x) path offset n ≡ blank

-- ---- one that has begun

-- What the invariant says of the session.
pub record IsOrderly (s : IdSession) : Type 0 where
  pub waits : s.pending ≡ true → (s.verified ≡ false) × (s.over ≡ false)
  pub joined : s.joined ≡ true → s.verified ≡ true

orderly : (r : Terms) (w : State) → Invariant r w → (n : IdName) → IsOrderly (w.session n)
orderly r w inv n =
    record { waits = λ h. let k = (inv.one n).waits h in (k.2, k.3); joined = (inv.one n).joined }

same_acted : (s : IdSession) (pending over joined : Bool) (renewed : ℕ) → joined ≡ s.joined → renewed ≡ s.renewed → acted s pending over joined renewed ≡ ended s pending over
same_acted s pending over joined renewed a b =
    ap (λ j. acted s pending over j renewed) a ∙ ap (λ n. acted s pending over s.joined n) b

renewed_acted : (s : IdSession) (pending over joined : Bool) (renewed : ℕ) → pending ≡ s.pending → over ≡ s.over → joined ≡ true
    → acted s pending over joined renewed ≡ after_renewal renewed s
renewed_acted s pending over joined renewed a b c =
    ap (λ z. acted s z over joined renewed) a ∙ ap (λ z. acted s s.pending z joined renewed) b ∙ ap (λ z. acted s s.pending s.over z renewed) c

one_session : {p : Program} {h : Header} {xs : List Happening} {w : World} {i : SessionId} {f g : Found} (t : Through p h xs w i f g) (path : List ℕ) (offset : ℕ)
    → IsOrderly (standing_of w path offset i f) → RenewalGoes w (world_at p h xs) path offset i f g
    → (u : IdSession)
    → u ≡ acted (standing_of w path offset i f) (is_some (deciding_sample i g) && claim_may_land i g) (is_over i g) (is_some (joined_after (trace_of g) g.session))
    (renewed_by_now (world_at p h xs) i g)
    → EntryActs (id_state w path offset) (standing_of w path offset i f) u
one_session {p = p} {h = h} {xs = xs} {w = w} {i = i} {f = f} {g = g} t path offset o (None_counts joins since) u is =
    let s : IdSession = standing_of w path offset i f in
    let pending : Bool = is_some (deciding_sample i g) && claim_may_land i g in
    let same : u ≡ ended s pending (is_over i g) =
    is ∙ same_acted s pending (is_over i g) (is_some (joined_after (trace_of g) g.session)) (renewed_by_now (world_at p h xs) i g) joins since in
    record {
      blank = λ n. absurd (true_is_false n);
      over = λ b closed. same ∙ flags_stay s pending (is_over i g) closed (is_false s.pending (λ k. not_both s.over closed (o.waits k).1)) (over_stays t closed) (pending_before t);
      acts = λ b alive. Turned (subst (Turns s) (sym same) (flags_turn s pending (is_over i g) alive
          (λ closed. is_false pending (λ k. last_one t alive closed
          (λ j. not_both s.verified (o.joined (sym joins ∙ j)) (o.waits (pending_before t k)).0) k)) (pending_before t)));
    }
one_session {p = p} {h = h} {xs = xs} {w = w} {i = i} {f = f} {g = g} t path offset o (One_counts alive stays joins k) u is =
    let s : IdSession = standing_of w path offset i f in
    let pending : Bool = is_some (deciding_sample i g) && claim_may_land i g in
    let idle : s.pending ≡ false = is_false s.pending (λ z. not_both s.verified k.verified (o.waits z).0) in
    let still : pending ≡ false = is_false pending (λ z. not_both s.pending (pending_before t z) idle) in
    let same : u ≡ after_renewal (renewed_by_now (world_at p h xs) i g) s =
    is ∙ renewed_acted s pending (is_over i g) (is_some (joined_after (trace_of g) g.session)) (renewed_by_now (world_at p h xs) i g)
    (still ∙ sym idle) (stays ∙ sym alive) joins in
    record {
      blank = λ n. absurd (true_is_false n);
      over = λ b closed. absurd (not_both s.over closed alive);
      acts = λ b a. Renews_so alive (subst (Renewed (id_state w path offset) s) (sym same) k);
    }

-- ---- each of them

abbrev stood : World → List ℕ → ℕ → SessionId → Found → Bool → IdSession
stood w path offset i f b = elim b [ false ↦ blank | true ↦ standing_of w path offset i f ]

abbrev counts : World → List ℕ → ℕ → SessionId → Found → Bool
counts w path offset i f = is_sector_of w.layout path offset f.session && has_begun i f

counts_same : {p : Program} {h : Header} {xs : List Happening} {w : World} {i : SessionId} {f g : Found} (t : Through p h xs w i f g) (path : List ℕ) (offset : ℕ)
    → counts (world_at p h xs) path offset i g ≡ counts w path offset i f
counts_same {p = p} {h = h} {xs = xs} {w = w} {i = i} {f = f} {g = g} t path offset =
    ap (λ y. is_sector_of (world_at p h xs).layout path offset y && has_begun i g) t.session
    ∙ ap (λ l. is_sector_of l path offset f.session && has_begun i g) t.layout
    ∙ ap (λ b. is_sector_of w.layout path offset f.session && b) (begun_stays t)

still_blank : (w : State) → EntryActs w blank blank
still_blank w = record { blank = λ h. refl; over = λ b h. refl; acts = λ b h. absurd (true_is_false (sym b)) }

found_acts : {p : Program} {h : Header} {xs : List Happening} {w : World} {i : SessionId} {f g : Found} (t : Through p h xs w i f g) (path : List ℕ) (offset : ℕ)
    → SameSector w (world_at p h xs) path offset → (b : Bool) → counts w path offset i f ≡ b → IsOrderly (stood w path offset i f b)
    → (is_sector_of w.layout path offset f.session ≡ true → has_begun i f ≡ true → RenewalGoes w (world_at p h xs) path offset i f g)
    → EntryActs (id_state w path offset) (stood w path offset i f b) (stood (world_at p h xs) path offset i g b)
found_acts {w = w} t path offset s false is o renew = still_blank (id_state w path offset)
found_acts {p = p} {h = h} {xs = xs} {w = w} {i = i} {f = f} {g = g} t path offset s true is o renew =
    let q = and_true (is_sector_of w.layout path offset f.session) (has_begun i f) is in
    one_session t path offset o (renew q.0 q.1) (standing_of (world_at p h xs) path offset i g) (stands_on t path offset s q.1)

own_by : StayDistinct → MachinesMirror → LandingsAreWritten → NewAreBlank → RenewalsGo → (p : Program) (h : Header) (now : List Happening) (x : Happening) (path : List ℕ) (offset : ℕ)
    → LawfulRun p h (now ++ x ∷ []) → IsIdPlace p h path offset → Reached (terms_of h.timing) (state_between p h now x.0 path offset) → (e : IsEntry p h now x) → (n : IdName)
    → IsOfEntry e (session_named_so n) → (o : Option Found) → session_of_world (between (world_at p h now) x.0) (session_named_so n) ≡ o
    → IsOrderly (standing_by (between (world_at p h now) x.0) path offset (session_named_so n) o)
    → EntryActs (state_between p h now x.0 path offset) (standing_by (between (world_at p h now) x.0) path offset (session_named_so n) o)
    (session_at (after_event p h now x) path offset n)
own_by distinct mirror written new renew p h now x path offset run place reached e n is None at o =
    subst (EntryActs (state_between p h now x.0 path offset) blank) (sym (new p h now x path offset run e n is at)) (still_blank (state_between p h now x.0 path offset))
own_by distinct mirror written new renew p h now x path offset run place reached e n is (Some f) at o =
    let i : SessionId = session_named_so n in
    let u : World = between (world_at p h now) x.0 in
    let v : World = after_event p h now x in
    let c : Carried p h now x i f = carried distinct mirror written p h now x run e i is f at in
    let s = step_sector distinct mirror written p h now x run path offset in
    subst (EntryActs (state_between p h now x.0 path offset) (stood u path offset i f (counts u path offset i f)))
    (sym (ap (standing_by v path offset i) c.at ∙ ap (stood v path offset i c.found) (counts_same c.through path offset)))
    (found_acts c.through path offset s (counts u path offset i f) refl o
    (renew p h now x path offset run place reached e i is f c.found at c.through))

pub own_sessions_act_by : StayDistinct → MachinesMirror → LandingsAreWritten → NewAreBlank → RenewalsGo → OwnSessionsAct
own_sessions_act_by distinct mirror written new renew p h now x path offset run place reached e n is =
    let u : World = between (world_at p h now) x.0 in
    let inv : Invariant (terms_of h.timing) (state_between p h now x.0 path offset) =
    (reached_kept (terms_of h.timing) (state_between p h now x.0 path offset) (watchdogs.long h.timing run.header.timing) reached).0 in
    own_by distinct mirror written new renew p h now x path offset run place reached e n is (session_of_world u (session_named_so n)) refl
    (orderly (terms_of h.timing) (state_between p h now x.0 path offset) inv n)
