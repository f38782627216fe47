-- What a session's state depends on: where that stays, the state stays.
use Rattle.sl_area.specs.AreaSizes.{Layout, sector_with}
use Rattle.sl_run_law.specs.Course.CallStamps.{stamp_in}
use Rattle.sl_id_safety.specs.State.IdStates.{claim_may_land, deciding_sample, comes_before, generation_by, has_begun, index_of, join_course, name_of, own_courses, runs_still, seq_left, standing_of}
use Rattle.sl_ids.specs.State.{Session as IdSession}
use Rattle.sl_run.specs.Safety.{Found, SessionId, free_landed, has_write_in_flight, is_course_of, is_over, trace_of, was_reset}
use Rattle.sl_run.specs.Worlds.{Course, Daemon, Machine, Sampling, Stamp, World, history_of, is_landed, is_open, is_write_course, may_land}
use Rattle.sl_trace.specs.Sessions.{calls_of, ended_after, free_write, given_number, is_join_call, joined_after, refused_after}
use Rattle.sl_trace.specs.declared.session.Session.{Session}
use Rattle.sl_trace.specs.Traces.{Setting, Submitted, Trace, record_of}
use Rattle.sl_trace.specs.declared.effects.JoinStep.{JoinStep}
use Rattle.sl_trace.specs.declared.effects.JoinStep.TheVariants.{ClaimWrite, DecidingRead, FirstRead, VerifyRead}
use Rattle.sl_run_law.specs.Watchdog.ActingTimes.{acting_stamp}
use Rattle.sl_words.proofs.WordLaws.{and_true}
use Rattle.sl_words.specs.Words.{choose, first_of_list, greatest, some_is}
use Rattle.std.proofs.Common.{ap, refl, sym, ◌∙◌}
use Rattle.std.proofs.lemmas.Bool.{eqb-true}
use Rattle.std.specs.List.{list_any}
use Rattle.std.specs.Option.{option_map_or}
use Rattle.std.specs.Prelude.{Bool, List, None, Option, Some, bytes_eq, cond, false, filter, find, is_none, is_some, map, not, option_and_then, option_map, true, [], ℕ, ◌&&◌, ◌-◌, ◌==◌, ◌||◌, ◌∷◌, ◌≡◌}

-- ---- tests over the session's own calls

-- Whether the daemon with this number runs on the machine.
abbrev pub is_running : ℕ → Machine → Bool
is_running n a = some_is (λ d. d.number == n) a.daemon

-- Whether a call is open, where its daemon runs or not.
abbrev pub open_while : Bool → Course → Bool
open_while runs c = is_none c.answered && (runs || may_land c)

-- An own call is of the session's daemon.
pub of_daemon : (i : SessionId) (c : Course) → is_course_of i c ≡ true → c.daemon ≡ i.daemon
of_daemon i c h = eqb-true c.daemon i.daemon (and_true (c.daemon == i.daemon) (c.call.session == i.number) h).0

open_same : (i : SessionId) (a : Machine) (c : Course) → is_course_of i c ≡ true → is_open a c ≡ open_while (is_running i.daemon a) c
open_same i a c h = ap (λ n. is_none c.answered && (some_is (λ d. d.number == n) a.daemon || may_land c)) (of_daemon i c h)

flying_by : (i : SessionId) (a : Machine) (c : Course) (cs : List Course) (t : Bool) → is_course_of i c ≡ t
    → list_any (λ x. is_course_of i x && is_write_course x && is_open a x) cs
    ≡ list_any (λ x. is_write_course x && open_while (is_running i.daemon a) x) (filter (is_course_of i) cs)
    → (t && is_write_course c && is_open a c || list_any (λ x. is_course_of i x && is_write_course x && is_open a x) cs)
    ≡ list_any (λ x. is_write_course x && open_while (is_running i.daemon a) x) (cond t (c ∷ filter (is_course_of i) cs) (filter (is_course_of i) cs))
flying_by i a c cs true is rest =
    ap (λ b. is_write_course c && b || list_any (λ x. is_course_of i x && is_write_course x && is_open a x) cs) (open_same i a c is)
    ∙ ap (λ b. is_write_course c && open_while (is_running i.daemon a) c || b) rest
flying_by i a c cs false is rest = rest

flying_in : (i : SessionId) (a : Machine) (cs : List Course) → list_any (λ x. is_course_of i x && is_write_course x && is_open a x) cs
    ≡ list_any (λ x. is_write_course x && open_while (is_running i.daemon a) x) (filter (is_course_of i) cs)
flying_in i a [] = refl
flying_in i a (c ∷ cs) = flying_by i a c cs (is_course_of i c) refl (flying_in i a cs)

-- Whether a write is in flight is said of the session's own calls.
pub flying_of : (i : SessionId) (a : Machine)
    → has_write_in_flight i a ≡ list_any (λ x. is_write_course x && open_while (is_running i.daemon a) x) (own_courses i a)
flying_of i a = flying_in i a a.calls

pub flying_same : (i : SessionId) (a b : Machine) → own_courses i b ≡ own_courses i a → is_running i.daemon b ≡ is_running i.daemon a
    → has_write_in_flight i b ≡ has_write_in_flight i a
flying_same i a b calls runs =
    flying_of i b ∙ ap (λ r. list_any (λ x. is_write_course x && open_while r x) (own_courses i b)) runs
    ∙ ap (λ cs. list_any (λ x. is_write_course x && open_while (is_running i.daemon a) x) cs) calls ∙ sym (flying_of i a)

-- Whether a call of this number has landed.
abbrev pub landed_as : ℕ → Course → Bool
landed_as n c = c.call.number == n && is_landed c.fate

landed_by : (i : SessionId) (n : ℕ) (c : Course) (cs : List Course) (t : Bool)
    → list_any (λ x. is_course_of i x && x.call.number == n && is_landed x.fate) cs ≡ list_any (landed_as n) (filter (is_course_of i) cs)
    → (t && c.call.number == n && is_landed c.fate || list_any (λ x. is_course_of i x && x.call.number == n && is_landed x.fate) cs)
    ≡ list_any (landed_as n) (cond t (c ∷ filter (is_course_of i) cs) (filter (is_course_of i) cs))
landed_by i n c cs true rest = ap (λ b. landed_as n c || b) rest
landed_by i n c cs false rest = rest

landed_in : (i : SessionId) (n : ℕ) (cs : List Course)
    → list_any (λ x. is_course_of i x && x.call.number == n && is_landed x.fate) cs ≡ list_any (landed_as n) (filter (is_course_of i) cs)
landed_in i n [] = refl
landed_in i n (c ∷ cs) = landed_by i n c cs (is_course_of i c) (landed_in i n cs)

-- Whether the free has landed, by the session's own calls.
abbrev pub free_landed_by : List Course → Option Submitted → Bool
free_landed_by cs o = some_is (λ m. list_any (landed_as m.call.number) cs) o

free_by : (i : SessionId) (a : Machine) (o : Option Submitted)
    → some_is (λ c. list_any (λ d. is_course_of i d && d.call.number == c.call.number && is_landed d.fate) a.calls) o ≡ free_landed_by (own_courses i a) o
free_by i a None = refl
free_by i a (Some m) = landed_in i m.call.number a.calls

-- Whether the free has landed is said of the session's own calls.
pub free_of : (i : SessionId) (f : Found) → free_landed i f ≡ free_landed_by (own_courses i f.machine) (free_write (calls_of (trace_of f) f.session))
free_of i f = free_by i f.machine (free_write (calls_of (trace_of f) f.session))

-- ---- what a state depends on

-- The same of all that a session's state depends on, but for what landed at its sector.
pub record Same (i : SessionId) (f g : Found) : Type 0 where
  pub calls : own_courses i g.machine ≡ own_courses i f.machine
  pub session : g.session ≡ f.session
  pub setting : g.daemon.setting ≡ f.daemon.setting
  pub begun : g.daemon.begun ≡ f.daemon.begun
  pub trace : g.daemon.trace ≡ f.daemon.trace
  pub stamps : g.daemon.stamps ≡ f.daemon.stamps
  pub runs : runs_still g ≡ runs_still f
  pub reset : was_reset g ≡ was_reset f
  pub flying : has_write_in_flight i g.machine ≡ has_write_in_flight i f.machine

-- The same of all that it has done, but for whether its daemon runs, was reset or has a write in flight.
pub record SamePast (i : SessionId) (f g : Found) : Type 0 where
  pub calls : own_courses i g.machine ≡ own_courses i f.machine
  pub session : g.session ≡ f.session
  pub setting : g.daemon.setting ≡ f.daemon.setting
  pub begun : g.daemon.begun ≡ f.daemon.begun
  pub trace : g.daemon.trace ≡ f.daemon.trace
  pub stamps : g.daemon.stamps ≡ f.daemon.stamps

pub past_of : (i : SessionId) (f g : Found) → Same i f g → SamePast i f g
past_of i f g s =
    record { calls = s.calls; session = s.session; setting = s.setting; begun = s.begun; trace = s.trace; stamps = s.stamps }

-- The landing that its claim left, if it left one.
abbrev pub claim_index : World → List ℕ → ℕ → SessionId → Option Course → ℕ
claim_index w path offset i o = option_map_or (λ c. index_of (i.machine, c.call.number) (history_of w path offset)) o 0

-- The greatest seq that has landed for it.
abbrev pub landed_seq : World → List ℕ → ℕ → SessionId → Session → ℕ
landed_seq w path offset i s = greatest (given_number s ∷ map (seq_left w (name_of i)) (history_of w path offset))

-- The same of what its state takes from the landings at its sector.
pub record SameThere (w v : World) (path : List ℕ) (offset : ℕ) (i : SessionId) (f : Found) : Type 0 where
  pub layout : v.layout ≡ w.layout
  pub claim : claim_index v path offset i (join_course i ClaimWrite f.machine) ≡ claim_index w path offset i (join_course i ClaimWrite f.machine)
  pub generation : generation_by v path offset (deciding_sample i f) ≡ generation_by w path offset (deciding_sample i f)
  pub seq : landed_seq v path offset i f.session ≡ landed_seq w path offset i f.session

-- A call at this step of a joining.
abbrev newest_at : JoinStep → List Course → Option Course
newest_at step calls = find (λ c. is_join_call step c.call.purpose) calls

abbrev refused_in : List Stamp → Trace → Session → Option Stamp
refused_in stamps es s = option_and_then (λ k. stamp_in stamps (k - 1)) (refused_after es s)

abbrev shows_in : Option Stamp → Option (List ℕ) → Course → Option Sampling
shows_in refused bytes c =
    option_and_then (λ x. choose (some_is (λ b. bytes_eq b c.sampled) bytes && comes_before refused x) x) (first_of_list c.samples)

decides_in : List Course → List Stamp → Trace → Session → Option Sampling
decides_in calls stamps es s =
    option_and_then (shows_in (refused_in stamps es s) (option_map (λ c. c.sampled) (newest_at FirstRead calls))) (newest_at DecidingRead calls)

decides_as : (i : SessionId) (f : Found) → deciding_sample i f ≡ decides_in (own_courses i f.machine) f.daemon.stamps f.daemon.trace f.session
unfolding decides_in
decides_as i f = refl

pub decides_past : (i : SessionId) (f g : Found) → SamePast i f g → deciding_sample i g ≡ deciding_sample i f
decides_past i f g s =
    decides_as i g ∙ ap (λ cs. decides_in cs g.daemon.stamps g.daemon.trace g.session) s.calls
    ∙ ap (λ ss. decides_in (own_courses i f.machine) ss g.daemon.trace g.session) s.stamps
    ∙ ap (λ es. decides_in (own_courses i f.machine) f.daemon.stamps es g.session) s.trace
    ∙ ap (λ x. decides_in (own_courses i f.machine) f.daemon.stamps f.daemon.trace x) s.session ∙ sym (decides_as i f)

pub decides_same : (i : SessionId) (f g : Found) → Same i f g → deciding_sample i g ≡ deciding_sample i f
decides_same i f g s = decides_past i f g (past_of i f g s)

pub join_past : (i : SessionId) (step : JoinStep) (f g : Found) → SamePast i f g → join_course i step g.machine ≡ join_course i step f.machine
join_past i step f g s = ap (newest_at step) s.calls

pub join_same : (i : SessionId) (step : JoinStep) (f g : Found) → Same i f g → join_course i step g.machine ≡ join_course i step f.machine
join_same i step f g s = ap (newest_at step) s.calls

pub begun_past : (i : SessionId) (f g : Found) → SamePast i f g → has_begun i g ≡ has_begun i f
begun_past i f g s = ap (λ x. is_none x.job || is_some (deciding_sample i g)) s.session ∙ ap (λ o. is_none f.session.job || is_some o) (decides_past i f g s)

pub begun_same : (i : SessionId) (f g : Found) → Same i f g → has_begun i g ≡ has_begun i f
begun_same i f g s = begun_past i f g (past_of i f g s)

-- ---- where a session stands, by its parts

abbrev writes_in : Layout → Course → List ℕ
writes_in g c = option_map_or (sector_with g) (record_of c.call.op) []

abbrev verifies_in : Layout → List Course → List Stamp → Trace → Session → Option Sampling
verifies_in g calls stamps es s =
    option_and_then (shows_in (refused_in stamps es s) (option_map (writes_in g) (newest_at ClaimWrite calls))) (newest_at VerifyRead calls)

abbrev daemon_in : Setting → Stamp → Trace → List Stamp → Daemon
daemon_in st begun es stamps = record { number = 0; setting = st; begun = begun; trace = es; stamps = stamps }

abbrev renewed_in : Layout → List Course → Setting → Stamp → Trace → List Stamp → Session → ℕ
renewed_in g calls st begun es stamps s =
    elim (joined_after es s) [
      | Some k ↦ option_map_or (λ x. x.moment) (acting_stamp (daemon_in st begun es stamps) s) 0
      | None ↦ elim (verifies_in g calls stamps es s) [ None ↦ 0 | Some x ↦ option_map_or (λ c. c.made.moment) (newest_at VerifyRead calls) 0 ]
    ]

abbrev claim_in : List Course → Bool → Trace → Session → Bool
claim_in calls runs es s = elim (newest_at ClaimWrite calls) [ None ↦ runs && is_none (refused_after es s) | Some c ↦ may_land c ]

abbrev over_in : List Course → Bool → Bool → Trace → Session → Bool
over_in calls reset flying es s =
    free_landed_by calls (free_write (calls_of es s)) || (is_some (ended_after es s) || reset) && not flying

-- What a session's state is made of.
record Parts : Type 0 where
  layout : Layout
  calls : List Course
  session : Session
  setting : Setting
  begun : Stamp
  trace : Trace
  stamps : List Stamp
  runs : Bool
  reset : Bool
  flying : Bool
  index : ℕ
  generation : ℕ
  seq : ℕ

stands_in : Parts → IdSession
stands_in p =
    record {
      begun = true;
      decided = is_some (decides_in p.calls p.stamps p.trace p.session);
      pending = is_some (decides_in p.calls p.stamps p.trace p.session) && claim_in p.calls p.runs p.trace p.session;
      landed = some_is (λ c. is_landed c.fate) (newest_at ClaimWrite p.calls);
      verified = is_none p.session.job || is_some (verifies_in p.layout p.calls p.stamps p.trace p.session);
      joined = is_some (joined_after p.trace p.session);
      over = over_in p.calls p.reset p.flying p.trace p.session;
      base = option_map_or (λ x. x.index) (decides_in p.calls p.stamps p.trace p.session) 0;
      claim = p.index;
      name = p.setting.name;
      generation = p.generation;
      seq = p.seq;
      registered = option_map_or (λ c. c.made.moment) (newest_at DecidingRead p.calls) 0;
      renewed = renewed_in p.layout p.calls p.setting p.begun p.trace p.stamps p.session;
    }

parts_of : World → List ℕ → ℕ → SessionId → Found → Parts
parts_of w path offset i f =
    record {
      layout = w.layout;
      calls = own_courses i f.machine;
      session = f.session;
      setting = f.daemon.setting;
      begun = f.daemon.begun;
      trace = f.daemon.trace;
      stamps = f.daemon.stamps;
      runs = runs_still f;
      reset = was_reset f;
      flying = has_write_in_flight i f.machine;
      index = claim_index w path offset i (join_course i ClaimWrite f.machine);
      generation = generation_by w path offset (deciding_sample i f);
      seq = landed_seq w path offset i f.session;
    }

-- A state but for whether it is over.
with_over : Bool → IdSession → IdSession
with_over over s = record s { over = over }

over_as : (i : SessionId) (f : Found) → is_over i f
    ≡ over_in (own_courses i f.machine) (was_reset f) (has_write_in_flight i f.machine) f.daemon.trace f.session
over_as i f = ap (λ b. b || (is_some (ended_after (trace_of f) f.session) || was_reset f) && not (has_write_in_flight i f.machine)) (free_of i f)

stands_but : (w : World) (path : List ℕ) (offset : ℕ) (i : SessionId) (f : Found)
    → standing_of w path offset i f ≡ with_over (is_over i f) (stands_in (parts_of w path offset i f))
unfolding with_over stands_in parts_of decides_in
stands_but w path offset i f = refl

over_back : (w : World) (path : List ℕ) (offset : ℕ) (i : SessionId) (f : Found)
    → with_over (over_in (own_courses i f.machine) (was_reset f) (has_write_in_flight i f.machine) f.daemon.trace f.session) (stands_in (parts_of w path offset i f))
    ≡ stands_in (parts_of w path offset i f)
unfolding with_over stands_in parts_of decides_in
over_back w path offset i f = refl

stands_as : (w : World) (path : List ℕ) (offset : ℕ) (i : SessionId) (f : Found) → standing_of w path offset i f ≡ stands_in (parts_of w path offset i f)
stands_as w path offset i f =
    stands_but w path offset i f ∙ ap (λ b. with_over b (stands_in (parts_of w path offset i f))) (over_as i f) ∙ over_back w path offset i f

seq_same : (w v : World) (path : List ℕ) (offset : ℕ) (i : SessionId) (f g : Found) → SamePast i f g → SameThere w v path offset i f
    → landed_seq v path offset i g.session ≡ landed_seq w path offset i f.session
seq_same w v path offset i f g s t = ap (landed_seq v path offset i) s.session ∙ t.seq

index_same : (w v : World) (path : List ℕ) (offset : ℕ) (i : SessionId) (f g : Found) → SamePast i f g → SameThere w v path offset i f
    → claim_index v path offset i (join_course i ClaimWrite g.machine) ≡ claim_index w path offset i (join_course i ClaimWrite f.machine)
index_same w v path offset i f g s t = ap (claim_index v path offset i) (join_past i ClaimWrite f g s) ∙ t.claim

generation_same : (w v : World) (path : List ℕ) (offset : ℕ) (i : SessionId) (f g : Found) → SamePast i f g → SameThere w v path offset i f
    → generation_by v path offset (deciding_sample i g) ≡ generation_by w path offset (deciding_sample i f)
generation_same w v path offset i f g s t = ap (generation_by v path offset) (decides_past i f g s) ∙ t.generation

make : Layout → List Course → Session → Setting → Stamp → Trace → List Stamp → Bool → Bool → Bool → ℕ → ℕ → ℕ → Parts
make a b c d e f g h i j k l m =
    record {
      layout = a;
      calls = b;
      session = c;
      setting = d;
      begun = e;
      trace = f;
      stamps = g;
      runs = h;
      reset = i;
      flying = j;
      index = k;
      generation = l;
      seq = m;
    }

made : (p : Parts) → p ≡ make p.layout p.calls p.session p.setting p.begun p.trace p.stamps p.runs p.reset p.flying p.index p.generation p.seq
unfolding make
made p = refl

parts_same : (p q : Parts) → q.layout ≡ p.layout → q.calls ≡ p.calls → q.session ≡ p.session → q.setting ≡ p.setting → q.begun ≡ p.begun
    → q.trace ≡ p.trace → q.stamps ≡ p.stamps → q.runs ≡ p.runs → q.reset ≡ p.reset → q.flying ≡ p.flying → q.index ≡ p.index
    → q.generation ≡ p.generation → q.seq ≡ p.seq → q ≡ p
parts_same p q a b c d e f g h i j k l m =
    let each : make q.layout q.calls q.session q.setting q.begun q.trace q.stamps q.runs q.reset q.flying q.index q.generation q.seq
    ≡ make p.layout p.calls p.session p.setting p.begun p.trace p.stamps p.runs p.reset p.flying p.index p.generation p.seq = cc in
    made q ∙ each ∙ sym (made p)

-- Where all of these stay, the session stands as before.
pub standing_same : (w v : World) (path : List ℕ) (offset : ℕ) (i : SessionId) (f g : Found) → Same i f g → SameThere w v path offset i f
    → standing_of v path offset i g ≡ standing_of w path offset i f
unfolding parts_of
standing_same w v path offset i f g s t =
    stands_as v path offset i g
    ∙ ap stands_in (parts_same (parts_of w path offset i f) (parts_of v path offset i g) t.layout s.calls s.session s.setting s.begun s.trace s.stamps s.runs s.reset
    s.flying (index_same w v path offset i f g (past_of i f g s) t) (generation_same w v path offset i f g (past_of i f g s) t)
    (seq_same w v path offset i f g (past_of i f g s) t))
    ∙ sym (stands_as w path offset i f)

-- ---- where its past stays, but not whether its daemon runs, was reset or has a write in flight

-- A session with these flags.
abbrev pub ended : IdSession → Bool → Bool → IdSession
ended s pending over = record s { pending = pending; over = over }

with_end : Parts → Bool → Bool → Bool → Parts
with_end p runs reset flying = record p { runs = runs; reset = reset; flying = flying }

parts_past : (w v : World) (path : List ℕ) (offset : ℕ) (i : SessionId) (f g : Found) → SamePast i f g → SameThere w v path offset i f
    → parts_of v path offset i g ≡ with_end (parts_of w path offset i f) (runs_still g) (was_reset g) (has_write_in_flight i g.machine)
unfolding parts_of with_end
parts_past w v path offset i f g s t =
    parts_same (record (parts_of w path offset i f) { runs = runs_still g; reset = was_reset g; flying = has_write_in_flight i g.machine })
    (parts_of v path offset i g) t.layout s.calls s.session s.setting s.begun s.trace s.stamps refl refl refl (index_same w v path offset i f g s t)
    (generation_same w v path offset i f g s t) (seq_same w v path offset i f g s t)

pending_in : Parts → Bool → Bool
pending_in p runs = is_some (decides_in p.calls p.stamps p.trace p.session) && claim_in p.calls runs p.trace p.session

ends_as : (p : Parts) (runs reset flying : Bool)
    → stands_in (with_end p runs reset flying) ≡ ended (stands_in p) (pending_in p runs) (over_in p.calls reset flying p.trace p.session)
unfolding stands_in with_end pending_in
ends_as p runs reset flying = refl

with_flags : (x s : IdSession) (a b : Bool) → x ≡ ended s a b → x ≡ ended s x.pending x.over
with_flags x s a b e = e ∙ ap (λ c. ended s c b) (sym (ap (λ y. y.pending) e)) ∙ ap (λ c. ended s x.pending c) (sym (ap (λ y. y.over) e))

-- Then all else of its state stays.
pub standing_past : (w v : World) (path : List ℕ) (offset : ℕ) (i : SessionId) (f g : Found) → SamePast i f g → SameThere w v path offset i f
    → standing_of v path offset i g
    ≡ ended (standing_of w path offset i f) (is_some (deciding_sample i g) && claim_may_land i g) (is_over i g)
standing_past w v path offset i f g s t =
    let p : Parts = parts_of w path offset i f in
    let e = stands_as v path offset i g ∙ ap stands_in (parts_past w v path offset i f g s t)
    ∙ ends_as p (runs_still g) (was_reset g) (has_write_in_flight i g.machine) in
    with_flags (standing_of v path offset i g) (stands_in p) (pending_in p (runs_still g))
    (over_in p.calls (was_reset g) (has_write_in_flight i g.machine) p.trace p.session) e
    ∙ ap (λ x. ended x (is_some (deciding_sample i g) && claim_may_land i g) (is_over i g)) (sym (stands_as w path offset i f))
