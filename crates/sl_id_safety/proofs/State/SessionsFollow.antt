-- Of a daemon's sessions of one lockspace each is over before the next begins.
use Rattle.sl_run_law.proofs.Course.Daemons.{every_each, every_has}
use Rattle.sl_words.proofs.Lists.{any_found, got_inside, kept, there_is}
use Rattle.sl_words.proofs.Options.{mapped_value}
use Rattle.sl_run_law.specs.FatesStay.{Every}
use Rattle.sl_run_law.proofs.Watchdog.TraceNumbers.{given_later}
use Rattle.std.proofs.lemmas.Bool.{eqb-true}
use Rattle.std.proofs.lemmas.Option.{slice_get_within}
use Rattle.sl_run_law.specs.Course.CallStamps.{AnswersAgree, IsAnsweredAs}
use Rattle.sl_id_safety.proofs.State.BeginsWhereEnded.{HadEnded, BeganAt, answered_then, began_alone, begun_where, early_call, had_ended, late_call}
use Rattle.sl_id_safety.proofs.State.TraceBridge.{Grounds, IsKnown, known}
use Rattle.sl_id_safety.proofs.State.CallLaws.{IsOwnCall, own_call}
use Rattle.sl_id_safety.proofs.State.PairedLists.{every_from, stands_there}
use Rattle.sl_id_safety.proofs.State.TracesInTime.{stamps_rise}
use Rattle.sl_id_safety.specs.State.Facts.{SessionsFollow}
use Rattle.sl_id_safety.specs.State.IdStates.{own_courses}
use Rattle.sl_run.specs.Headers.{GoTogether}
use Rattle.sl_run.specs.Runs.{Happening}
use Rattle.sl_run.specs.Safety.{Found, LawfulRun, SessionId, free_landed, has_write_in_flight, is_course_of, is_over, setting_in, trace_of, was_reset, world_at}
use Rattle.sl_run.specs.Worlds.{Course, Daemon, Machine, Program, Stamp, World, clock_reading, daemon_numbered, daemons_on, given_of, is_of_running, is_open, is_write_course, machine_at, may_land}
use Rattle.sl_run.specs.declared.header.Header.{Header}
use Rattle.sl_run.specs.declared.header.LockspaceLine.{LockspaceLine}
use Rattle.sl_run.specs.declared.header.SessionLine.{SessionLine}
use Rattle.sl_run_law.proofs.Sessions.CallOwners.{session_more, sessions_stay}
use Rattle.sl_run_law.proofs.Sessions.MarksStay.{marks_stay}
use Rattle.sl_trace.specs.Sessions.{ended_after, given_session, session_numbered, sessions}
use Rattle.sl_trace.specs.declared.session.Session.{Session}
use Rattle.sl_trace.specs.Traces.{Answered, Setting, Trace, is_write}
use Rattle.sl_trace.specs.declared.effects.Call.{Call}
use Rattle.sl_trace.specs.declared.effects.Entry.{Entry}
use Rattle.sl_trace.specs.declared.input.Given.{Given}
use Rattle.sl_words.proofs.CaseLaws.{false_is_true, is_false, none_some, one_value, some_value, true_is_false}
use Rattle.sl_words.proofs.WordLaws.{and_true}
use Rattle.std.proofs.Common.{ap, arith, inl, inr, refl, subst, sym, ◌∙◌}
use Rattle.std.specs.List.{cons_option, enumerate_from}
use Rattle.std.specs.Prelude.{AllPairs, Bool, Contains, List, None, Option, Some, [], bytes_eq, false, filter_map, find, is_none, is_some, length, map, not, option_map, slice_get, suc, true, zero, ℕ, ◌&&◌, ◌++◌, ◌+◌, ◌<◌, ◌==◌, ◌||◌, ◌∷◌, ◌≡◌, ◌⊎◌}

-- ---- what a daemon is given

-- A daemon is given the header's sessions of its machine, or none.
abbrev pub DaemonsAreGiven : Type 0
DaemonsAreGiven = (p : Program) (h : Header) (xs : List Happening) → LawfulRun p h xs → (m : ℕ) (a : Machine) (d : Daemon) → machine_at (world_at p h xs) m ≡ Some a
    → Contains (daemons_on a) d → (d.setting.given ≡ []) ⊎ (d.setting.given ≡ filter_map (given_of h m) h.sessions)

-- Every two of a list, in their order.
abbrev Pairs : {A : Type 0} → (A → A → Type 0) → List A → Type 0
Pairs R [] = Unit {0}
Pairs R (x ∷ xs) = Every (R x) xs × Pairs R xs

pairs_of : {A : Type 0} (R : A → A → Type 0) (xs : List A) → AllPairs R xs → Pairs R xs
pairs_of R [] h = tt
pairs_of {A} R (x ∷ xs) h = (
  every_from (R x) xs (λ y there. subst (λ (z : A). R x z) there.2 (h zero (suc there.0) y (omega arith) (omega (arith, there.1)))),
  pairs_of R xs (λ i j d lt inside. h (suc i) (suc j) d (omega (arith, lt)) (omega (arith, inside))),
)

every_mapped_by : {A B : Type 0} (f : A → Option B) (P : B → Type 0) (x : A) (o : Option B) (rest : List B) → f x ≡ o → ((b : B) → f x ≡ Some b → P b) → Every P rest → Every P (cons_option o rest)
every_mapped_by f P x None rest is h each = each
every_mapped_by f P x (Some b) rest is h each = (h b is, each)

every_mapped : {A B : Type 0} (f : A → Option B) (P : B → Type 0) (xs : List A) → Every (λ x. (b : B) → f x ≡ Some b → P b) xs → Every P (filter_map f xs)
every_mapped f P [] h = tt
every_mapped f P (x ∷ xs) h = every_mapped_by f P x (f x) (filter_map f xs) refl h.0 (every_mapped f P xs h.1)

pairs_by : {A B : Type 0} (f : A → Option B) (S : B → B → Type 0) (x : A) (xs : List A) (o : Option B) → f x ≡ o → ((b : B) → f x ≡ Some b → Every (S b) (filter_map f xs))
    → Pairs S (filter_map f xs) → Pairs S (cons_option o (filter_map f xs))
pairs_by f S x xs None is one rest = rest
pairs_by f S x xs (Some b) is one rest = (one b is, rest)

pairs_mapped : {A B : Type 0} (f : A → Option B) (R : A → A → Type 0) (S : B → B → Type 0) → ((x y : A) (b c : B) → R x y → f x ≡ Some b → f y ≡ Some c → S b c) → (xs : List A)
    → Pairs R xs → Pairs S (filter_map f xs)
pairs_mapped f R S go [] h = tt
pairs_mapped {A} {B} f R S go (x ∷ xs) h =
    pairs_by f S x xs (f x) refl
    (λ b is. every_mapped f (S b) xs (every_each (R x) (λ (y : A). (c : B) → f y ≡ Some c → S b c) xs (λ y r c its. go x y b c r is its) h.0))
    (pairs_mapped f R S go xs h.1)

pair_at : {A : Type 0} (S : A → A → Type 0) (xs : List A) (i k : ℕ) (b c : A) → Pairs S xs → slice_get xs i ≡ Some b → slice_get xs k ≡ Some c → i < k → S b c
pair_at S [] i k b c h at to lt = absurd (none_some b at)
pair_at S (x ∷ xs) i zero b c h at to lt = absurd (omega (arith, lt))
pair_at {A} S (x ∷ xs) zero (suc k) b c h at to lt = subst (λ (y : A). S y c) (some_value x b at) (every_has (S x) xs c h.0 (got_inside xs k c to))
pair_at S (x ∷ xs) (suc i) (suc k) b c h at to lt = pair_at S xs i k b c h.1 at to (omega (arith, lt))

abbrev given_as : SessionLine → Header → LockspaceLine → ℕ → Given
given_as s h l now = record { lockspace = s.lockspace; id = s.id; path = l.path; offset = l.offset; renewed = now }

given_line : (h : Header) (m : ℕ) (s : SessionLine) (g : Given) → given_of h m s ≡ Some g → (s.machine ≡ m) × (g.lockspace ≡ s.lockspace)
given_line h m s g is = by (s.machine == m) refl is where
  by : (b : Bool) → (s.machine == m) ≡ b
      → elim b as (λ z. Option Given) [
        | false ↦ None
        | true ↦ option_map (λ l. given_as s h l (clock_reading h m)) (find (λ (l : LockspaceLine). bytes_eq l.name s.lockspace) h.lockspaces)
      ] ≡ Some g
      → (s.machine ≡ m) × (g.lockspace ≡ s.lockspace)
  by false same at = absurd (none_some g at)
  by true same at =
      let r = mapped_value (λ l. given_as s h l (clock_reading h m)) (find (λ (l : LockspaceLine). bytes_eq l.name s.lockspace) h.lockspaces) g at in
      (eqb-true s.machine m same, ap (λ (x : Given). x.lockspace) (sym r.2))

abbrev Apart : Given → Given → Type 0
Apart a b = a.lockspace ≡ b.lockspace → ⊥

given_apart : (h : Header) (m : ℕ) → AllPairs GoTogether h.sessions → Pairs Apart (filter_map (given_of h m) h.sessions)
given_apart h m together =
    pairs_mapped (given_of h m) GoTogether Apart (λ x y b c r is its same.
    let one = given_line h m x b is in
    let two = given_line h m y c its in
    r.once (sym one.1 ∙ same ∙ two.1) (one.0 ∙ sym two.0)) h.sessions (pairs_of GoTogether h.sessions together)

given_at : (j : ℕ) (gs : List Given) (n : ℕ) (s : Session) → slice_get (map given_session (enumerate_from j gs)) n ≡ Some s → (g : Given) × (slice_get gs n ≡ Some g) × (s.lockspace ≡ g.lockspace)
given_at j [] n s at = absurd (none_some s at)
given_at j (g ∷ gs) zero s at = (g, refl, ap (λ (x : Session). x.lockspace) (sym (some_value (given_session (j, g)) s at)))
given_at j (g ∷ gs) (suc n) s at = given_at (j + 1) gs n s at

given_differ : (gs : List Given) → Pairs Apart gs → (i k : ℕ) (s x : Session) → slice_get (map given_session (enumerate_from 0 gs)) i ≡ Some s
    → slice_get (map given_session (enumerate_from 0 gs)) k ≡ Some x → i < k → s.lockspace ≡ x.lockspace → ⊥
given_differ gs apart i k s x at to lt same =
    let one = given_at 0 gs i s at in
    let two = given_at 0 gs k x to in
    pair_at Apart gs i k one.0 two.0 apart one.1 two.1 lt (sym one.2 ∙ same ∙ two.2)

pairs_given : (h : Header) (m : ℕ) (gs : List Given) → AllPairs GoTogether h.sessions → (gs ≡ []) ⊎ (gs ≡ filter_map (given_of h m) h.sessions) → Pairs Apart gs
pairs_given h m gs together (inl none) = subst (λ zs. Pairs Apart zs) (sym none) tt
pairs_given h m gs together (inr some) = subst (λ zs. Pairs Apart zs) (sym some) (given_apart h m together)

-- ---- a session that was there already

was_first : (st : Setting) (es : Trace) (n : ℕ) (s : Session) → session_numbered st es n ≡ Some s → n < length (sessions st []) → session_numbered st [] n ≡ Some s
was_first st es n s at lt =
    let x = there_is (sessions st []) n lt in
    x.1 ∙ ap (λ y. Some y) (one_value x.0 s (session_numbered st es n) (given_later st es n x.0 x.1) at)

was_past : (st : Setting) (later : Trace) (e : Entry) (past : Trace) (n : ℕ) (s : Session) → session_numbered st (later ++ e ∷ past) n ≡ Some s → n < length (sessions st past)
    → session_numbered st past n ≡ Some s
was_past st later e past n s at lt =
    let x = there_is (sessions st past) n lt in
    x.1
    ∙ ap (λ y. Some y)
    (one_value x.0 s (session_numbered st (later ++ e ∷ past) n) (sessions_stay st later (e ∷ past) n x.0 (session_more st e past n x.0 x.1)) at)

-- ---- over

over_by : (a b c d : Bool) → b ≡ true → d ≡ false → (a || (b || c) && not d) ≡ true
over_by true b c d h k = refl
over_by false true c false h k = refl
over_by false true c true h k = absurd (true_is_false k)
over_by false false c d h k = absurd (false_is_true h)

not_open : (a : Machine) (c : Course) (s : Stamp) → c.answered ≡ Some s → is_open a c ≡ true → ⊥
not_open a c s is flies =
    true_is_false (sym (and_true (is_none c.answered) (is_of_running a c || may_land c) flies).0 ∙ ap (λ (y : Option Stamp). is_none y) is)

told_by : (f : Found) (c : Course) (o : Option Answered) (a : Answered) → o ≡ Some a → AnswersAgree f.daemon c o → IsAnsweredAs f.daemon c a
told_by f c o a is agree = subst (λ y. AnswersAgree f.daemon c y) is agree

-- The session has ended where another of its daemon began.
abbrev EndedAt : (f : Found) (n : ℕ) (s : Session) → BeganAt (setting_in f) (trace_of f) n s → Type 0
EndedAt f n s b = HadEnded (setting_in f) (trace_of f) n s b f.session

-- So its writes are answered.
none_flies : (w : World) (i : SessionId) (f : Found) (c : Course) (o : IsOwnCall w i f c) (n : ℕ) (s : Session) (b : BeganAt (setting_in f) (trace_of f) n s) → EndedAt f n s b
    → is_write_course c ≡ true → is_open f.machine c ≡ true → ⊥
none_flies w i f c o n s b e writes flies =
    let x = o.placed.pairs in
    let early = early_call (setting_in f) (trace_of f) n s b f.session e x.here x.rest o.placed.made o.lawful in
    let answer = answered_then (setting_in f) (trace_of f) n s b f.session e x.here
    (subst (λ ms. Contains ms x.here) (sym x.whole) (stands_there x.front x.here x.rest)) early (ap (λ (y : Call). is_write y.op) x.this.call ∙ writes) in
    let told = told_by f c x.here.answer answer.0 answer.1 x.this.answers in
    not_open f.machine c told.stamp told.answered flies

flies_not : (w : World) (i : SessionId) (f : Found) (k : IsKnown w i f) (n : ℕ) (s : Session) (b : BeganAt (setting_in f) (trace_of f) n s) → EndedAt f n s b → (c : Course)
    → Contains f.machine.calls c → (is_course_of i c && is_write_course c && is_open f.machine c) ≡ true → ⊥
flies_not w i f k n s b e c has test =
    let both = and_true (is_course_of i c && is_write_course c) (is_open f.machine c) test in
    let one = and_true (is_course_of i c) (is_write_course c) both.0 in
    none_flies w i f c (own_call w i f c k (kept (is_course_of i) f.machine.calls c one.0 has)) n s b e one.1 both.1

not_in_flight : (w : World) (i : SessionId) (f : Found) (k : IsKnown w i f) (n : ℕ) (s : Session) (b : BeganAt (setting_in f) (trace_of f) n s) → EndedAt f n s b
    → has_write_in_flight i f.machine ≡ false
not_in_flight w i f k n s b e =
    is_false (has_write_in_flight i f.machine) (λ flies.
    let q = any_found (λ (c : Course). is_course_of i c && is_write_course c && is_open f.machine c) f.machine.calls flies in
    flies_not w i f k n s b e q.0 q.1 q.2)

over_then : (w : World) (i : SessionId) (f : Found) (k : IsKnown w i f) (n : ℕ) (s : Session) (b : BeganAt (setting_in f) (trace_of f) n s) → EndedAt f n s b → is_over i f ≡ true
over_then w i f k n s b e =
    let ended : ended_after (trace_of f) f.session ≡ Some e.mark_of_end =
    ap (λ t. ended_after t f.session) b.whole ∙ marks_stay.ended b.later (b.entry ∷ b.past) f.session e.mark_of_end e.ended in
    over_by (free_landed i f) (is_some (ended_after (trace_of f) f.session)) (was_reset f) (has_write_in_flight i f.machine) (ap (λ o. is_some o) ended)
    (not_in_flight w i f k n s b e)

-- ---- two sessions of a daemon

abbrev Follows : SessionId → SessionId → Found → Found → Type 0
Follows i k f g = (is_over i f ≡ true) × ((c d : Course) → Contains (own_courses i f.machine) c → Contains (own_courses k g.machine) d → c.made.step < d.made.step)

abbrev found_of : ℕ → Machine → Daemon → Session → Found
found_of n a d s = record { machine = a; daemon = d; session = s; now = n }

-- The other session of the same daemon.
abbrev beside : Found → Session → Found
beside f s = record { machine = f.machine; daemon = f.daemon; session = s; now = f.now }

follows_begun : (w : World) (i k : SessionId) (f : Found) (s : Session) → IsKnown w i f → IsKnown w k (beside f s) → i.number < k.number → f.session.lockspace ≡ s.lockspace
    → BeganAt (setting_in f) (trace_of f) k.number s → Follows i k f (beside f s)
follows_begun w i k f s one two lt same b =
    let st : Setting = setting_in f in
    let es : Trace = trace_of f in
    let a = began_alone st es k.number s b one.lawful in
    let inside : i.number < length (sessions st b.past) = omega (arith, lt, b.number) in
    let was = was_past st b.later b.entry b.past i.number f.session (ap (λ t. session_numbered st t i.number) (sym b.whole) ∙ one.there.session) inside in
    let own : session_numbered st b.past f.session.number ≡ Some f.session = ap (λ n. session_numbered st b.past n) one.there.number ∙ was in
    let e = had_ended st es k.number s b a f.session own same in (
      over_then w i f one k.number s b e,
      λ c d has its.
          let x = own_call w i f c one has in
          let y = own_call w k (beside f s) d two its in
          let early = early_call st es k.number s b f.session e x.placed.pairs.here x.placed.pairs.rest x.placed.made x.lawful in
          let late = late_call st es k.number s y.placed.pairs.here y.placed.pairs.rest y.placed.made y.lawful two.there.number b in
          stamps_rise w.step f.daemon.stamps x.placed.pairs.here.at y.placed.pairs.here.at c.made d.made one.stamps x.placed.pairs.this.made y.placed.pairs.this.made
          (omega (arith, early, late)),
    )

follows_given : (w : World) (h : Header) (i k : SessionId) (f : Found) (s : Session) → IsKnown w i f → AllPairs GoTogether h.sessions
    → ((setting_in f).given ≡ []) ⊎ ((setting_in f).given ≡ filter_map (given_of h i.machine) h.sessions) → i.number < k.number → f.session.lockspace ≡ s.lockspace
    → session_numbered (setting_in f) [] k.number ≡ Some s → ⊥
follows_given w h i k f s one together given lt same at =
    let st : Setting = setting_in f in
    let first = was_first st (trace_of f) i.number f.session one.there.session (omega (arith, lt, slice_get_within (sessions st []) k.number s at)) in
    given_differ st.given (pairs_given h i.machine st.given together given) i.number k.number f.session s first at lt same

follows_beside : (w : World) (h : Header) (i k : SessionId) (f : Found) (s : Session) → IsKnown w i f → IsKnown w k (beside f s) → AllPairs GoTogether h.sessions
    → ((setting_in f).given ≡ []) ⊎ ((setting_in f).given ≡ filter_map (given_of h i.machine) h.sessions) → i.number < k.number → f.session.lockspace ≡ s.lockspace
    → Follows i k f (beside f s)
follows_beside w h i k f s one two together given lt same =
    elim (begun_where (setting_in f) (trace_of f) k.number s two.there.session) as (λ z. Follows i k f (beside f s)) [
      | inl first ↦ absurd (follows_given w h i k f s one together given lt same first)
      | inr b ↦ follows_begun w i k f s one two lt same b
    ]

same_daemon : (w : World) (i k : SessionId) (f g : Found) → IsKnown w i f → IsKnown w k g → i.machine ≡ k.machine → i.daemon ≡ k.daemon → beside f g.session ≡ g
same_daemon w i k f g one two machine daemon =
    let a = one_value f.machine g.machine (machine_at w k.machine) (ap (λ m. machine_at w m) (sym machine) ∙ one.there.at) two.there.at in
    let d = one_value f.daemon g.daemon (daemon_numbered g.machine k.daemon)
    (ap (λ x. daemon_numbered x k.daemon) (sym a) ∙ ap (λ n. daemon_numbered f.machine n) (sym daemon) ∙ one.there.found) two.there.found in
    ap (λ x. found_of f.now x f.daemon g.session) a ∙ ap (λ x. found_of f.now g.machine x g.session) d
    ∙ ap (λ n. found_of n g.machine g.daemon g.session) (one.there.now ∙ sym two.there.now)

-- A daemon's sessions of one lockspace follow one another.
pub sessions_follow_given : Grounds → DaemonsAreGiven → SessionsFollow
sessions_follow_given g given p h xs run i k f x its theirs machine daemon lt same =
    let w : World = world_at p h xs in
    let one = known g p h xs run i f its in
    let two = known g p h xs run k x theirs in
    let is = same_daemon w i k f x one two machine daemon in
    subst (λ y. Follows i k f y) is
    (follows_beside w h i k f x.session one (subst (λ y. IsKnown w k y) (sym is) two) run.header.together
    (given p h xs run i.machine f.machine f.daemon one.there.at one.there.has) lt same)
