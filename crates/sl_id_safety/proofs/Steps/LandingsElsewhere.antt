-- Landings as steps of an id, where nothing lands at its sector: its session may lose its claim, or become over.
use Rattle.sl_run_law.specs.Course.CourseLaws.{MachinesMirror}
use Rattle.sl_id_safety.proofs.State.TraceBridge.{Grounds}
use Rattle.sl_id_safety.proofs.State.FindingFrames.{moved}
use Rattle.sl_id_safety.proofs.State.LandingFrames.{same_landings}
use Rattle.sl_id_safety.proofs.State.SampleFrames.{IsJoinCourse, join_is, one_sector}
use Rattle.sl_id_safety.proofs.State.SectorFrames.{SameSector, sector_same}
use Rattle.sl_id_safety.proofs.State.StateFrames.{agree_on, name_cases}
use Rattle.sl_id_safety.specs.State.Facts.{ClaimsHaveDecided, HasDecided, JoinReadsAreOwn, RenewalsHaveVerified}
use Rattle.sl_id_safety.specs.State.IdStates.{deciding_sample, generation_by, id_state, is_sector_of, join_course, name_of, session_at, standing_of}
use Rattle.sl_id_safety.proofs.Steps.Callers.{Caller, Write, after, counts, now_stands, others_stay, still_blank, then_stands, writer}
use Rattle.sl_id_safety.proofs.Steps.StepThenEnd.{Falls, changed, goes_over}
use Rattle.sl_id_safety.proofs.Steps.EventFrames.{StayDistinct}
use Rattle.sl_id_safety.proofs.Steps.Fates.{IsClaim, claim_same, landed_same, not_landed, over_stays, waits_no_more}
use Rattle.sl_id_safety.proofs.Steps.FateChanges.{claim_at, has_landed, pends, seq_at, stands_turned, turned_to}
use Rattle.sl_id_safety.proofs.Steps.OwnWrites.{claims_alone, has_verified}
use Rattle.sl_ids.specs.Invariant.{Invariant}
use Rattle.sl_ids.specs.Runs.{IsBounded, Later}
use Rattle.sl_ids.specs.State.{Content, Session as IdSession, SessionId as IdName, State}
use Rattle.sl_ids.specs.Steps.{Lands, Loses, SameLandings, after_losing}
use Rattle.sl_ids.specs.Terms.{Terms}
use Rattle.sl_run_law.proofs.Landing.CallLists.{one_call}
use Rattle.sl_run_law.specs.Landing.Landings.{LandingsAreWritten}
use Rattle.sl_run_law.proofs.Place.TracesOnMachines.{IsPromised}
use Rattle.sl_run_law.specs.Place.Homes.{LockspacesHoldDeltas}
use Rattle.sl_words.proofs.Options.{not_some}
use Rattle.sl_run.specs.Runs.{Happening}
use Rattle.sl_run.specs.Safety.{Found, LawfulRun, SessionId, is_over, trace_of, world_at}
use Rattle.sl_run.specs.Worlds.{Course, Fate, Program, World, is_in_flight, is_landed}
use Rattle.sl_run.specs.declared.header.Header.{Header}
use Rattle.sl_run_law.specs.Sample.Samples.{SamplesAreLandings}
use Rattle.sl_trace.specs.Sessions.{joined_after}
use Rattle.sl_trace.specs.Traces.{same_place}
use Rattle.sl_trace.specs.declared.effects.JoinStep.TheVariants.{ClaimWrite}
use Rattle.sl_id_safety.proofs.State.CallLaws.{is_place}
use Rattle.sl_words.proofs.WordLaws.{and_true}
use Rattle.sl_words.proofs.CaseLaws.{is_false, not_both}
use Rattle.std.proofs.Common.{ap, arith, inl, inr, refl, subst, sym, ◌∙◌}
use Rattle.std.proofs.lemmas.Bool.{eq-eqb}
use Rattle.std.specs.Prelude.{Bool, Contains, List, None, Option, Some, false, true, ℕ, ◌+◌, ◌<◌, ◌==◌, ◌≡◌}

-- What the laws of runs promise, and of a session at its own sector.
pub record RestsOn : Type 0 where
  pub grounds : Grounds
  pub promised : IsPromised
  pub distinct : StayDistinct
  pub mirror : MachinesMirror
  pub written : LandingsAreWritten
  pub samples : SamplesAreLandings
  pub reads : JoinReadsAreOwn
  pub claims : ClaimsHaveDecided
  pub renewals : RenewalsHaveVerified
  pub deltas : LockspacesHoldDeltas

-- ---- landings of states

pub same_both : (u v x : State) → SameLandings u v → SameLandings v x → SameLandings u x
same_both u v x a b =
    record { count = b.count ∙ a.count; old = λ k lt. b.old k (subst (λ n. k < n) (sym a.count) lt) ∙ a.old k lt }

below_more : (k n m : ℕ) → m ≡ n + 1 → k < n → k < m
below_more k n m e h = omega (arith, e, h)

last_more : (n m : ℕ) → m ≡ n + 1 → n < m
last_more n m e = omega (arith, e)

pub lands_on : (u v x : State) (s : IdName) (spelled : Option Content) → Lands u v s spelled → SameLandings v x → Lands u x s spelled
lands_on u v x s spelled a b =
    record {
      count = b.count ∙ a.count;
      old = λ k lt. b.old k (below_more k u.count v.count a.count lt) ∙ a.old k lt;
      new = b.old u.count (last_more u.count v.count a.count) ∙ a.new;
    }

-- ---- where it stands

pub turned_same : (s : IdSession) (p p' l l' o : Bool) (c c' q q' : ℕ) → p ≡ p' → l ≡ l' → c ≡ c' → q ≡ q' → turned_to s p l o c q ≡ turned_to s p' l' o c' q'
turned_same s p p' l l' o c c' q q' a b d e =
    ap (λ z. turned_to s z l o c q) a ∙ ap (λ z. turned_to s p' z o c q) b ∙ ap (λ z. turned_to s p' l' o z q) d ∙ ap (λ z. turned_to s p' l' o c' z) e

-- Where it stands then, by what a fate may change.
pub stands_then : (w v : World) (m n : ℕ) (fate : Fate) (y : Write w v m n fate) (path : List ℕ) (offset : ℕ) (k : Caller w v m n fate y)
    → counts w path offset (writer y) k.found ≡ true
    → generation_by v path offset (deciding_sample (writer y) k.found) ≡ generation_by w path offset (deciding_sample (writer y) k.found)
    → (pending landed : Bool) (claim seq : ℕ) → pends (writer y) (moved (after y) k.found) ≡ pending → has_landed (writer y) (after y) ≡ landed
    → claim_at v path offset (writer y) (join_course (writer y) ClaimWrite k.found.machine) ≡ claim → seq_at v path offset (writer y) k.found ≡ seq
    → session_at v path offset (name_of (writer y))
    ≡ turned_to (session_at w path offset (name_of (writer y))) pending landed (is_over (writer y) (moved (after y) k.found)) claim seq
stands_then w v m n fate y path offset k is generation pending landed claim seq a b c d =
    then_stands w v m n fate y path offset k is
    ∙ stands_turned w v path offset (writer y) k.found (after y) n fate y.layout k.turns generation
    ∙ turned_same (standing_of w path offset (writer y) k.found) (pends (writer y) (moved (after y) k.found)) pending (has_landed (writer y) (after y)) landed
    (is_over (writer y) (moved (after y) k.found)) (claim_at v path offset (writer y) (join_course (writer y) ClaimWrite (after y))) claim (seq_at v path offset (writer y) k.found) seq
    a b (claim_same v path offset (writer y) k.found (after y) n fate k.turns ∙ c) d
    ∙ ap (λ s. turned_to s pending landed (is_over (writer y) (moved (after y) k.found)) claim seq) (sym (now_stands w v m n fate y path offset k is))

-- ---- a pending session writes its claim alone

-- It has neither verified nor joined.
pub pending_is : (r : Terms) (w v : World) (m n : ℕ) (fate : Fate) (y : Write w v m n fate) (path : List ℕ) (offset : ℕ) (k : Caller w v m n fate y)
    → Invariant r (id_state w path offset) → counts w path offset (writer y) k.found ≡ true → pends (writer y) k.found ≡ true
    → (has_verified w (writer y) k.found ≡ false) × (joined_after (trace_of k.found) k.found.session ≡ None)
pending_is r w v m n fate y path offset k inv is h =
    let name : IdName = name_of (writer y) in
    let s : IdSession = session_at w path offset name in
    let at : s ≡ standing_of w path offset (writer y) k.found = now_stands w v m n fate y path offset k is in
    let one = inv.one name in
    let p = one.waits (ap (λ z. z.pending) at ∙ h) in
    let joined : s.joined ≡ false = is_false s.joined (λ t. not_both s.verified (one.joined t) p.2) in
    (ap (λ z. z.verified) (sym at) ∙ p.2, not_some (joined_after (trace_of k.found) k.found.session) (ap (λ z. z.joined) (sym at) ∙ joined))

pub claim_only : RestsOn → (r : Terms) (p : Program) (h : Header) (now : List Happening) → LawfulRun p h now → (v : World) (m n : ℕ) (fate : Fate)
    → (y : Write (world_at p h now) v m n fate) (path : List ℕ) (offset : ℕ) (k : Caller (world_at p h now) v m n fate y)
    → Invariant r (id_state (world_at p h now) path offset) → counts (world_at p h now) path offset (writer y) k.found ≡ true → pends (writer y) k.found ≡ true
    → IsClaim (writer y) k.found n
claim_only g r p h now run v m n fate y path offset k inv is pending =
    let w : World = world_at p h now in
    let q = pending_is r w v m n fate y path offset k inv is pending in
    let claim = claims_alone g.grounds g.renewals p h now run (writer y) k.found y.changes.course k.at k.own y.writes q.1 q.0 in
    (y.changes.course, (g.claims p h now run (writer y) k.found y.changes.course k.at k.own claim).only, eq-eqb y.changes.course.call.number n k.number)

-- ---- nothing lands there

-- The claim hasn't landed, before or now.
landed_elsewhere : RestsOn → (p : Program) (h : Header) (now : List Happening) → LawfulRun p h now → (v : World) (m n : ℕ) (fate : Fate)
    → (y : Write (world_at p h now) v m n fate) (path : List ℕ) (offset : ℕ) (k : Caller (world_at p h now) v m n fate y)
    → is_sector_of (world_at p h now).layout path offset k.found.session ≡ true
    → (is_landed fate ≡ true → same_place y.changes.course.call.path y.changes.course.call.offset path offset ≡ false)
    → (x : Course) → join_course (writer y) ClaimWrite k.found.machine ≡ Some x → (x.call.number == n) ≡ true → is_landed fate ≡ is_landed x.fate
landed_elsewhere g p h now run v m n fate y path offset k sector apart x at is = is_false (is_landed fate) lands ∙ sym (not_landed x.fate flies) where
  j : IsJoinCourse (writer y) ClaimWrite k.found.machine x
  j = join_is (writer y) ClaimWrite k.found.machine x at

  same : x ≡ y.changes.course
  same =
      one_call y.changes.machine.calls x y.changes.course y.changes.distinct (subst (λ a. Contains a.calls x) k.machine j.has) k.inside
      (ap (λ z. x.call.number == z) k.number ∙ is)

  flies : is_in_flight x.fate ≡ true
  flies = ap (λ z. is_in_flight z.fate) same ∙ y.flies

  lands : is_landed fate ≡ true → ⊥
  lands l =
      let w : World = world_at p h now in
      let hd : HasDecided w (writer y) k.found x = g.claims p h now run (writer y) k.found x k.at j.own j.joins in
      let e = one_sector w k.found.session path x.call.path offset x.call.offset sector hd.own.place in
      not_both (same_place y.changes.course.call.path y.changes.course.call.offset path offset)
      (ap (λ z. same_place z.call.path z.call.offset path offset) (sym same) ∙ ap (λ z. same_place z x.call.offset path offset) e.0
      ∙ ap (λ z. same_place path z path offset) e.1 ∙ is_place path offset path offset refl refl) (apart l)

-- Where nothing lands at the sector its session may lose its claim or become over.
pub elsewhere : RestsOn → (r : Terms) (p : Program) (h : Header) (now : List Happening) → LawfulRun p h now → (v : World) (m n : ℕ) (fate : Fate)
    → (y : Write (world_at p h now) v m n fate) → Caller (world_at p h now) v m n fate y → (path : List ℕ) (offset : ℕ)
    → SameSector (world_at p h now) v path offset
    → (is_landed fate ≡ true → same_place y.changes.course.call.path y.changes.course.call.offset path offset ≡ false)
    → Invariant r (id_state (world_at p h now) path offset) → IsBounded r (id_state (world_at p h now) path offset) → IsBounded r (id_state v path offset)
    → Later r (id_state (world_at p h now) path offset) (id_state v path offset)
elsewhere g r p h now run v m n fate y k path offset sector apart inv low high = by (counts (world_at p h now) path offset (writer y) k.found) refl where
  others : (j : IdName) → (j ≡ name_of (writer y) → ⊥) → (id_state v path offset).session j ≡ (id_state (world_at p h now) path offset).session j
  others j ne = others_stay (world_at p h now) v m n fate y path offset sector j ne

  stays : counts (world_at p h now) path offset (writer y) k.found ≡ false → (j : IdName)
      → (id_state v path offset).session j ≡ (id_state (world_at p h now) path offset).session j
  stays is j =
      elim (name_cases j (name_of (writer y))) as (λ z. (id_state v path offset).session j ≡ (id_state (world_at p h now) path offset).session j) [
        | inl e ↦ ap (session_at v path offset) e ∙ still_blank (world_at p h now) v m n fate y path offset k is ∙ ap (session_at (world_at p h now) path offset) (sym e)
        | inr ne ↦ others j ne
      ]

  falls : Falls (id_state (world_at p h now) path offset) (id_state v path offset) (name_of (writer y))
      (after_losing (session_at (world_at p h now) path offset (name_of (writer y))))
  falls = record { now = y.moment; others = others; idle = refl; acting = λ a b. (a, b, refl) }

  by : (b : Bool) → counts (world_at p h now) path offset (writer y) k.found ≡ b → Later r (id_state (world_at p h now) path offset) (id_state v path offset)
  by false is =
      agree_on r (id_state (world_at p h now) path offset) (id_state v path offset) y.moment (same_landings (world_at p h now) v path offset sector) (stays is) high
  by true is =
      let w : World = world_at p h now in
      let i : SessionId = writer y in
      let f : Found = k.found in
      let there = sector_same w v path offset sector i f in
      let own = (and_true (is_sector_of w.layout path offset f.session) _ is).0 in
      let at : session_at w path offset (name_of i) ≡ standing_of w path offset i f = now_stands w v m n fate y path offset k is in
      let last =
      stands_then w v m n fate y path offset k is there.generation false (session_at w path offset (name_of i)).landed (session_at w path offset (name_of i)).claim
      (session_at w path offset (name_of i)).seq
      (waits_no_more i f (after y) n fate k.turns y.ends (claim_only g r p h now run v m n fate y path offset k inv is))
      (landed_same i f (after y) n fate k.turns (landed_elsewhere g p h now run v m n fate y path offset k own apart) ∙ ap (λ z. z.landed) (sym at))
      (there.claim ∙ ap (λ z. z.claim) (sym at)) (there.seq ∙ ap (λ z. z.seq) (sym at)) in
      goes_over r (id_state w path offset) (id_state v path offset) (name_of i) (after_losing (session_at w path offset (name_of i)))
      (is_over i (moved (after y) f)) low high falls last
      (λ o. over_stays i f (after y) n fate k.turns k.flying y.ends (ap (λ z. z.over) (sym at) ∙ o))
      (λ x mid. Loses (name_of i) (record {
        same = same_both (id_state w path offset) (id_state v path offset) x (same_landings w v path offset sector) mid.same;
        changes = changed (id_state w path offset) (id_state v path offset) x (name_of i) (after_losing (session_at w path offset (name_of i))) mid;
      }))
