-- The interface of an id, said of the sessions of a world.
use Rattle.sl_area.specs.AreaSizes.{Layout}
use Rattle.sl_area.specs.AreaLayout.{delta_offset}
use Rattle.sl_run_law.proofs.Course.MachinesMirror.{machines_mirror}
use Rattle.sl_run_law.proofs.Front.RunsFromFronts.{fronts_are_lawful}
use Rattle.sl_id_safety.proofs.JoinedStand.{joined_stand, same_ids_stand_together}
use Rattle.sl_id_safety.specs.Interface.{GenerationsNameOne, JoinedStays, JoinersFindOver, JoinersRise, LockspacesAreAreas, OneActsForEachId, OverStays}
use Rattle.sl_id_safety.specs.JoinedStand.{StandsJoined, sector_offset}
use Rattle.sl_id_safety.proofs.State.CallLaws.{is_place}
use Rattle.sl_id_safety.proofs.State.LaterFrames.{found_later}
use Rattle.sl_id_safety.proofs.State.Sectors.{one_name}
use Rattle.sl_id_safety.proofs.State.StateFrames.{name_cases}
use Rattle.sl_id_safety.specs.State.IdStates.{blank, has_begun, id_state, is_sector_of, name_of, session_at, session_named_so, standing_by, standing_of}
use Rattle.sl_id_safety.specs.Reached.IdsAreReached.{IdsAreReached, IdsGoOn}
use Rattle.sl_ids.proofs.DerivedLaws.{watchdogs}
use Rattle.sl_ids.proofs.InterfaceLaws.{evident, names_one, one_over, over_stays, rises, run_grows}
use Rattle.sl_ids.proofs.WholeRuns.{reached_kept}
use Rattle.sl_ids.specs.Guards.{terms_of}
use Rattle.sl_ids.specs.Interface.{Own}
use Rattle.sl_ids.specs.State.{Session as IdSession, State}
use Rattle.sl_ids.specs.Terms.{Terms}
use Rattle.sl_run_law.proofs.Place.TracesOnMachines.{layout_is}
use Rattle.sl_run.specs.Runs.{Happening}
use Rattle.sl_run.specs.Safety.{Found, HasJoined, IsSession, LawfulRun, SameId, SessionId, found_generation, is_over, session_of_world, trace_of, world_at}
use Rattle.sl_run.specs.Worlds.{Program, World}
use Rattle.sl_run.specs.declared.header.Header.{Header}
use Rattle.sl_run.specs.declared.header.LockspaceLine.{LockspaceLine}
use Rattle.sl_run_law.proofs.Sessions.MarksStay.{marks_stay}
use Rattle.sl_trace.specs.Sessions.{joined_after}
use Rattle.sl_trace.specs.declared.session.Session.{Session}
use Rattle.sl_trace.specs.Traces.{Trace}
use Rattle.sl_words.proofs.CaseLaws.{is_false, one_value, true_is_false}
use Rattle.std.proofs.Common.{ap, inl, inr, refl, subst, sym, ◌∙◌}
use Rattle.std.specs.Prelude.{Bool, List, None, Option, Some, [], false, is_some, true, ℕ, ◌&&◌, ◌++◌, ◌<◌, ◌≡◌, ◌⊎◌}

-- ---- a joined session in the state of an id

-- It stands in the state of the id at this place.
pub record StandsIn (w : World) (path : List ℕ) (offset : ℕ) (i : SessionId) (f : Found) : Type 0 where
  pub joined : (session_at w path offset (name_of i)).joined ≡ true
  pub verified : (session_at w path offset (name_of i)).verified ≡ true
  pub over : (session_at w path offset (name_of i)).over ≡ is_over i f
  pub generation : (session_at w path offset (name_of i)).generation ≡ found_generation f

pub stands_in : (p : Program) (h : Header) (w : World) (i : SessionId) (f : Found) → StandsJoined p h w i f → (path : List ℕ) (offset : ℕ) → f.session.path ≡ path
    → sector_offset w f ≡ offset → StandsIn w path offset i f
stands_in p h w i f s path offset a b =
    subst (λ q. StandsIn w q offset i f) a
    (subst (λ n. StandsIn w f.session.path n i f) b (record { joined = s.joined; verified = s.verified; over = s.over; generation = s.generation }))

-- The place of a sector is the same at each front.
pub same_offset : (p : Program) (h : Header) (xs ys : List Happening) (f : Found) → sector_offset (world_at p h xs) f ≡ sector_offset (world_at p h ys) f
same_offset p h xs ys f = ap (λ (g : Layout). delta_offset g f.session.offset f.session.id) (layout_is p h xs ∙ sym (layout_is p h ys))

-- One of the same id, at another front.
pub stands_with : (p : Program) (h : Header) (now xs : List Happening) (f g : Found) (k : SessionId) → SameId f g → StandsJoined p h (world_at p h xs) k g
    → StandsIn (world_at p h xs) f.session.path (sector_offset (world_at p h now) f) k g
stands_with p h now xs f g k same t =
    let w : World = world_at p h xs in
    let at = same_ids_stand_together w f g same in
    stands_in p h w k g t f.session.path (sector_offset (world_at p h now) f) (sym at.0) (sym at.1 ∙ same_offset p h xs now f)

same_name_of : (i k : SessionId) → name_of i ≡ name_of k → i ≡ k
same_name_of i k same = ap session_named_so same

-- ---- one acts

not_over_by : (b c : Bool) → b ≡ c → b ≡ true → c ≡ false → ⊥
not_over_by b c same is not = true_is_false (sym is ∙ same ∙ not)

pub one_acts_given : IdsAreReached → OneActsForEachId
one_acts_given reached p h xs run i k f g its also joined joins same stands acts = by (name_cases (name_of i) (name_of k)) where
  by : (name_of i ≡ name_of k) ⊎ (name_of i ≡ name_of k → ⊥) → i ≡ k
  by (inl one) = same_name_of i k one
  by (inr two) =
      let w : World = world_at p h xs in
      let s = joined_stand p h xs run i f its joined in
      let t = stands_with p h xs xs f g k same (joined_stand p h xs run k g also joins) in
      let path : List ℕ = f.session.path in
      let offset : ℕ = sector_offset w f in
      elim (one_over (terms_of h.timing) (id_state w path offset) (watchdogs.long h.timing run.header.timing) (reached p h xs path offset run s.place) (name_of i) (name_of k) two s.joined t.joined)
      as (λ z. i ≡ k) [
        | inl over ↦ absurd (not_over_by (session_at w path offset (name_of i)).over (is_over i f) s.over over stands)
        | inr over ↦ absurd (not_over_by (session_at w path offset (name_of k)).over (is_over k g) t.over over acts)
      ]

-- ---- generations rise

joined_where : (w : World) (path : List ℕ) (offset : ℕ) (k : SessionId) (f : Found) (b : Bool)
    → (elim b as (λ z. IdSession) [ false ↦ blank | true ↦ standing_of w path offset k f ]).joined ≡ true → HasJoined f
joined_where w path offset k f true is = is
joined_where w path offset k f false is = absurd (true_is_false (sym is))

joined_by : (w : World) (path : List ℕ) (offset : ℕ) (k : SessionId) (o : Option Found) → session_of_world w k ≡ o → (standing_by w path offset k o).joined ≡ true
    → (f : Found) × IsSession w k f × HasJoined f
joined_by w path offset k None at is = absurd (true_is_false (sym is))
joined_by w path offset k (Some f) at is = (f, at, joined_where w path offset k f (is_sector_of w.layout path offset f.session && has_begun k f) is)

-- A session that hasn't joined hasn't in the id.
pub not_joined : (w : World) (path : List ℕ) (offset : ℕ) (k : SessionId) → ((f : Found) → IsSession w k f → HasJoined f → ⊥) → (session_at w path offset (name_of k)).joined ≡ false
not_joined w path offset k never =
    is_false (session_at w path offset (name_of k)).joined
    (λ yes. let x = joined_by w path offset k (session_of_world w k) refl yes in never x.0 x.1 x.2)

below_by : (a b c d : ℕ) → a ≡ c → b ≡ d → a < b → c < d
below_by a b c d p q lt = subst (λ n. n < d) p (subst (λ n. a < n) q lt)

rises_given : IdsAreReached → IdsGoOn → (p : Program) (h : Header) (now rest : List Happening) → LawfulRun p h (now ++ rest) → (i k : SessionId) (f g : Found)
    → IsSession (world_at p h now) i f → HasJoined f → IsSession (world_at p h (now ++ rest)) k g → HasJoined g → SameId f g
    → ((before : Found) → IsSession (world_at p h now) k before → HasJoined before → ⊥) → found_generation f < found_generation g
rises_given reached on p h now rest run i k f g its joined also joins same never =
    let u : World = world_at p h now in
    let w : World = world_at p h (now ++ rest) in
    let front = fronts_are_lawful p h now rest run in
    let s = joined_stand p h now front i f its joined in
    let t = stands_with p h now (now ++ rest) f g k same (joined_stand p h (now ++ rest) run k g also joins) in
    let path : List ℕ = f.session.path in
    let offset : ℕ = sector_offset u f in
    below_by (session_at u path offset (name_of i)).generation (session_at w path offset (name_of k)).generation (found_generation f) (found_generation g) s.generation t.generation
    (rises (terms_of h.timing) (id_state u path offset) (id_state w path offset) (watchdogs.long h.timing run.header.timing) (reached p h now path offset front s.place)
    (on p h now rest path offset run s.place) (name_of i) (name_of k) s.joined (not_joined u path offset k never) t.joined)

pub joiners_rise_given : IdsAreReached → IdsGoOn → JoinersRise
joiners_rise_given reached on p h xs run now rest is i k f g its joined also joins same never =
    rises_given reached on p h now rest (subst (λ ys. LawfulRun p h ys) is run) i k f g its joined (subst (λ ys. IsSession (world_at p h ys) k g) is also) joins same never

-- ---- names

pub lockspaces_are_areas : LockspacesAreAreas
lockspaces_are_areas p h xs run i k f g its also joined joins lockspace id =
    let s = joined_stand p h xs run i f its joined in
    let t = joined_stand p h xs run k g also joins in
    let line = one_name h s.place.lockspace t.place.lockspace run.header s.place.has t.place.has (sym s.names.0 ∙ lockspace ∙ t.names.0) in (
      is_place f.session.path f.session.offset g.session.path g.session.offset
          (s.place.is_path ∙ ap (λ (l : LockspaceLine). l.path) line ∙ sym t.place.is_path) (s.names.1 ∙ ap (λ (l : LockspaceLine). l.offset) line ∙ sym t.names.1),
      id,
    )

pub generations_name_one_given : IdsAreReached → GenerationsNameOne
generations_name_one_given reached p h xs run i k f g its also joined joins lockspace id generation =
    let w : World = world_at p h xs in
    let s = joined_stand p h xs run i f its joined in
    let t = stands_with p h xs xs f g k (lockspaces_are_areas p h xs run i k f g its also joined joins lockspace id) (joined_stand p h xs run k g also joins) in
    let path : List ℕ = f.session.path in
    let offset : ℕ = sector_offset w f in
    same_name_of i k
    (names_one (terms_of h.timing) (id_state w path offset) (watchdogs.long h.timing run.header.timing) (reached p h xs path offset run s.place) (name_of i) (name_of k) s.joined t.joined
    (s.generation ∙ generation ∙ sym t.generation))

-- ---- over is final

pub joined_stays : JoinedStays
joined_stays p h now rest run i f g its also joined =
    let l = found_later machines_mirror p h now rest run i f its in
    let same : l.found ≡ g = one_value l.found g (session_of_world (world_at p h (now ++ rest)) i) l.at also in
    subst (λ (x : Found). HasJoined x) same (by (joined_after (trace_of f) f.session) refl joined l.found l.session l.goes.trace.newer l.goes.trace.same)
  where
    by : (o : Option ℕ) → joined_after (trace_of f) f.session ≡ o → is_some o ≡ true → (x : Found) → x.session ≡ f.session → (newer : Trace) → trace_of x ≡ newer ++ trace_of f → HasJoined x
    by None is some x session newer trace = absurd (true_is_false (sym some))
    by (Some k) is some x session newer trace =
        ap is_some (ap (λ (s : Session). joined_after (trace_of x) s) session ∙ ap (λ (es : Trace). joined_after es f.session) trace
        ∙ marks_stay.joined newer (trace_of f) f.session k is)

same_session_id : (p : Program) (h : Header) (now rest : List Happening) → LawfulRun p h (now ++ rest) → (i : SessionId) (f g : Found) → IsSession (world_at p h now) i f
    → IsSession (world_at p h (now ++ rest)) i g → SameId f g
same_session_id p h now rest run i f g its also =
    let l = found_later machines_mirror p h now rest run i f its in
    let same : l.found ≡ g = one_value l.found g (session_of_world (world_at p h (now ++ rest)) i) l.at also in
    let session : f.session ≡ g.session = sym l.session ∙ ap (λ (x : Found). x.session) same in
    (is_place f.session.path f.session.offset g.session.path g.session.offset (ap (λ (s : Session). s.path) session) (ap (λ (s : Session). s.offset) session), ap (λ (s : Session). s.id) session)

pub over_stays_given : IdsAreReached → IdsGoOn → OverStays
over_stays_given reached on p h now rest run i f g its also joined over =
    let u : World = world_at p h now in
    let w : World = world_at p h (now ++ rest) in
    let front = fronts_are_lawful p h now rest run in
    let s = joined_stand p h now front i f its joined in
    let t = stands_with p h now (now ++ rest) f g i (same_session_id p h now rest run i f g its also)
    (joined_stand p h (now ++ rest) run i g also (joined_stays p h now rest run i f g its also joined)) in
    let path : List ℕ = f.session.path in
    let offset : ℕ = sector_offset u f in
    sym t.over
    ∙ (over_stays (terms_of h.timing) (id_state u path offset) (id_state w path offset) (watchdogs.long h.timing run.header.timing) (reached p h now path offset front s.place)
    (on p h now rest path offset run s.place) (name_of i) (s.over ∙ over)).0

-- ---- at a join all that joined before are over

pub joiners_find_over_given : IdsAreReached → IdsGoOn → JoinersFindOver
joiners_find_over_given reached on p h now rest run i k f later g its joined still also joins never same =
    let u : World = world_at p h now in
    let w : World = world_at p h (now ++ rest) in
    let r : Terms = terms_of h.timing in
    let front = fronts_are_lawful p h now rest run in
    let s = joined_stand p h now front i f its joined in
    let path : List ℕ = f.session.path in
    let offset : ℕ = sector_offset u f in
    let v : State = id_state w path offset in
    let stays = stands_with p h now (now ++ rest) f later i (same_session_id p h now rest run i f later its still)
    (joined_stand p h (now ++ rest) run i later still (joined_stays p h now rest run i f later its still joined)) in
    let t = stands_with p h now (now ++ rest) f g k same (joined_stand p h (now ++ rest) run k g also joins) in
    let long = watchdogs.long h.timing run.header.timing in
    let before = reached p h now path offset front s.place in
    let more = on p h now rest path offset run s.place in
    let lower = rises r (id_state u path offset) v long before more (name_of i) (name_of k) s.joined (not_joined u path offset k never) t.joined in
    let kept = reached_kept r (id_state u path offset) long before in
    let grown = run_grows r more.0 (id_state u path offset) v kept.0 kept.1 more.1 in
    let generation = ((grown.goes (name_of i)).verified s.verified).1 in
    sym stays.over
    ∙ (evident r v v (session_at u path offset (name_of i)).generation long (reached p h (now ++ rest) path offset run s.place) (Own (name_of k) t.verified lower) ([], refl) (name_of i)
    stays.joined generation).0
