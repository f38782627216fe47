-- What is known of a session whose deciding read or verify read is sampled: where it stands before and after, that of its daemon's
-- sessions it alone is not over, and that before its claim it has written nothing.
use Rattle.sl_run_law.proofs.Course.DaemonNamesApart.{daemon_names_are_apart}
use Rattle.sl_id_safety.proofs.State.TraceBridge.{known}
use Rattle.sl_id_safety.proofs.State.Frames.{landed_seq}
use Rattle.sl_id_safety.proofs.State.LandingFrames.{landing_at}
use Rattle.sl_id_safety.proofs.State.SessionFacts.{grounds, sessions_follow}
use Rattle.sl_id_safety.proofs.State.SectorFrames.{SameSector}
use Rattle.sl_id_safety.proofs.State.StateFrames.{name_is}
use Rattle.sl_id_safety.specs.State.IdStates.{blank, deciding_sample, has_begun, id_state, is_sector_of, name_of, same_name, seq_left, session_at, session_named_so, standing_by, standing_of, verifying_sample, writer_of}
use Rattle.sl_id_safety.specs.State.StateLaws.{IsIdPlace}
use Rattle.sl_id_safety.proofs.Steps.Outcomes.{one_longer}
use Rattle.sl_id_safety.proofs.Steps.SampleKeepsRest.{sampled_found, stands_sampled, stands_with}
use Rattle.sl_id_safety.proofs.Steps.RecordsOfLockspace.{begun_name}
use Rattle.sl_ids.specs.State.{Session as IdSession, SessionId as IdName}
use Rattle.sl_words.proofs.Numbers.{no_times_more}
use Rattle.sl_run.specs.EventChanges.{sample_at}
use Rattle.sl_run.specs.Runs.{Happening}
use Rattle.sl_run.specs.Safety.{Found, LawfulRun, SessionId, is_over, session_of_world, world_at}
use Rattle.sl_run.specs.Worlds.{Course, Landing, Program, Sampling, World, content, first_landing, history_of, landed_at, sector_size}
use Rattle.sl_run.specs.declared.header.Header.{Header}
use Rattle.sl_run_law.specs.FatesStay.{Every}
use Rattle.sl_run_law.proofs.Sample.LandingNumbers.{newest_number, number_below, number_stays}
use Rattle.sl_run_law.specs.Sample.Samples.{numbered_landing}
use Rattle.sl_trace.specs.Sessions.{given_number}
use Rattle.sl_trace.specs.declared.session.Session.{Session}
use Rattle.sl_words.proofs.CaseLaws.{is_false, not_both, true_is_false}
use Rattle.sl_words.proofs.WordLaws.{and_true}
use Rattle.sl_words.specs.Words.{greatest, some_is}
use Rattle.std.proofs.Common.{ap, arith, inl, inr, refl, sym, tests, ◌∙◌}
use Rattle.std.proofs.lemmas.Bool.{and_from, and_right}
use Rattle.std.proofs.lemmas.Slice.Eq.{bytes_eq-Decides}
use Rattle.std.specs.Prelude.{Bool, List, None, Option, Some, bytes_eq, false, is_some, length, map, nat_lt, suc, true, [], ℕ, ◌&&◌, ◌*◌, ◌+◌, ◌<◌, ◌||◌, ◌∷◌, ◌≡◌, ◌⊎◌}

-- ---- a session whose call is sampled, before and after

-- The world later, where a call of this session was sampled further.
pub record SamplesOne (w v : World) (path : List ℕ) (offset n j : ℕ) (i : SessionId) (f : Found) : Type 0 where
  pub same : SameSector w v path offset
  pub moment : v.moment ≡ w.moment
  pub found : session_of_world v i ≡ Some (sampled_found w n j f)
  pub others : (x : IdName) → (x ≡ name_of i → ⊥) → session_at v path offset x ≡ session_at w path offset x

pub stood_if : (b : Bool) (x : IdSession) → b ≡ true → elim b as (λ z. IdSession) [ false ↦ blank | true ↦ x ] ≡ x
stood_if true x h = refl
stood_if false x h = absurd (true_is_false (sym h))

pub blank_if : (b : Bool) (x : IdSession) → b ≡ false → elim b as (λ z. IdSession) [ false ↦ blank | true ↦ x ] ≡ blank
blank_if false x h = refl
blank_if true x h = absurd (true_is_false h)

pub blank_before : (w : World) (path : List ℕ) (offset : ℕ) (i : SessionId) (f : Found) → session_of_world w i ≡ Some f → has_begun i f ≡ false
    → session_at w path offset (name_of i) ≡ blank
blank_before w path offset i f at none =
    ap (standing_by w path offset i) at
    ∙ blank_if (is_sector_of w.layout path offset f.session && has_begun i f) (standing_of w path offset i f)
    (and_right (is_sector_of w.layout path offset f.session) (has_begun i f) none)

pub stood_before : (w : World) (path : List ℕ) (offset : ℕ) (i : SessionId) (f : Found) → session_of_world w i ≡ Some f
    → is_sector_of w.layout path offset f.session ≡ true → has_begun i f ≡ true → session_at w path offset (name_of i) ≡ standing_of w path offset i f
stood_before w path offset i f at sector begun =
    ap (standing_by w path offset i) at
    ∙ stood_if (is_sector_of w.layout path offset f.session && has_begun i f) (standing_of w path offset i f)
    (and_from (is_sector_of w.layout path offset f.session) (has_begun i f) sector begun)

pub stood_after : (w v : World) (path : List ℕ) (offset n j : ℕ) (i : SessionId) (f : Found) → SamplesOne w v path offset n j i f
    → is_sector_of w.layout path offset f.session ≡ true → has_begun i (sampled_found w n j f) ≡ true
    → session_at v path offset (name_of i)
    ≡ stands_with w path offset i f (deciding_sample i (sampled_found w n j f)) (verifying_sample v i (sampled_found w n j f))
stood_after w v path offset n j i f s sector begun =
    let sector_later : is_sector_of v.layout path offset f.session ≡ true = ap (λ g. is_sector_of g path offset f.session) s.same.layout ∙ sector in
    stood_before v path offset i (sampled_found w n j f) s.found sector_later begun ∙ stands_sampled w v path offset s.same n j i f

-- One whose deciding read has shown what it watched has begun.
pub now_begun : (a : Bool) (o : Option Sampling) (x : Sampling) → o ≡ Some x → (a || is_some o) ≡ true
now_begun true o x h = refl
now_begun false o x h = ap (λ q. is_some q) h

-- ---- one that has begun

-- A session that has begun at the place.
pub record BegunAt (w : World) (path : List ℕ) (offset : ℕ) (n : IdName) : Type 0 where
  pub found : Found
  pub at : session_of_world w (session_named_so n) ≡ Some found
  pub sector : is_sector_of w.layout path offset found.session ≡ true
  pub begun : has_begun (session_named_so n) found ≡ true

begun_if : (b : Bool) (x : IdSession) → (elim b as (λ z. IdSession) [ false ↦ blank | true ↦ x ]).begun ≡ true → b ≡ true
begun_if true x h = refl
begun_if false x h = h

begun_by : (w : World) (path : List ℕ) (offset : ℕ) (n : IdName) (o : Option Found) → session_of_world w (session_named_so n) ≡ o
    → (standing_by w path offset (session_named_so n) o).begun ≡ true → BegunAt w path offset n
begun_by w path offset n None at h = absurd (true_is_false (sym h))
begun_by w path offset n (Some g) at h =
    let i : SessionId = session_named_so n in
    let p = and_true (is_sector_of w.layout path offset g.session) (has_begun i g)
    (begun_if (is_sector_of w.layout path offset g.session && has_begun i g) (standing_of w path offset i g) h) in
    record { found = g; at = at; sector = p.0; begun = p.1 }

pub begun_at : (w : World) (path : List ℕ) (offset : ℕ) (n : IdName) → (session_at w path offset n).begun ≡ true → BegunAt w path offset n
begun_at w path offset n h = begun_by w path offset n (session_of_world w (session_named_so n)) refl h

-- ---- of its daemon's sessions it alone is not over

name_by : (a : IdName) (i : SessionId) → a.machine ≡ i.machine → a.daemon ≡ i.daemon → a.number ≡ i.number → a ≡ name_of i
name_by a i m d n =
    ap (λ x. let y : IdName = record { machine = x; daemon = a.daemon; number = a.number } in y) m
    ∙ ap (λ x. let y : IdName = record { machine = i.machine; daemon = x; number = a.number } in y) d
    ∙ ap (λ x. let y : IdName = record { machine = i.machine; daemon = i.daemon; number = x } in y) n

less_by : (a b : ℕ) (t : Bool) → nat_lt a b ≡ t → (a ≡ b → ⊥) → (a < b) ⊎ (b < a)
less_by a b true h apart = inl (grind (arith, tests))
less_by a b false h apart = inr (grind (arith, tests))

alone_by : (p : Program) (h : Header) (xs : List Happening) → LawfulRun p h xs → (i k : SessionId) (f g : Found) → session_of_world (world_at p h xs) i ≡ Some f
    → session_of_world (world_at p h xs) k ≡ Some g → k.machine ≡ i.machine → k.daemon ≡ i.daemon → g.session.lockspace ≡ f.session.lockspace
    → is_over i f ≡ false → (k.number < i.number) ⊎ (i.number < k.number) → is_over k g ≡ true
alone_by p h xs run i k f g at there m d same alive (inl lt) = (sessions_follow p h xs run k i g f there at m d lt same).0
alone_by p h xs run i k f g at there m d same alive (inr lt) =
    absurd (not_both (is_over i f) (sessions_follow p h xs run i k f g at there (sym m) (sym d) lt (sym same)).0 alive)

pub alone : (p : Program) (h : Header) (xs : List Happening) → LawfulRun p h xs → (path : List ℕ) (offset : ℕ) → (i : SessionId) (f : Found)
    → session_of_world (world_at p h xs) i ≡ Some f → is_over i f ≡ false → (q : IsIdPlace p h path offset) → f.session.lockspace ≡ q.lockspace.name
    → (x : IdName) → (x ≡ name_of i → ⊥) → (session_at (world_at p h xs) path offset x).name ≡ f.daemon.setting.name
    → (session_at (world_at p h xs) path offset x).begun ≡ true → (session_at (world_at p h xs) path offset x).over ≡ true
alone p h xs run path offset i f at alive q name x apart named begun =
    let w : World = world_at p h xs in
    let k : SessionId = session_named_so x in
    let b = begun_at w path offset x begun in
    let g : Found = b.found in
    let stands : session_at w path offset x ≡ standing_of w path offset k g = stood_before w path offset k g b.at b.sector b.begun in
    let mine = known grounds p h xs run i f at in
    let its = known grounds p h xs run k g b.at in
    let one = daemon_names_are_apart p h xs run k.machine i.machine g.machine f.machine g.daemon f.daemon its.there.at mine.there.at its.there.has mine.there.has
    (sym (ap (λ s. s.name) stands) ∙ named) in
    let daemon : k.daemon ≡ i.daemon = sym its.there.daemon ∙ one.1 ∙ mine.there.daemon in
    let other : k.number ≡ i.number → ⊥ = λ e. apart (name_by x i one.0 daemon e) in
    ap (λ s. s.over) stands
    ∙ alone_by p h xs run i k f g at b.at one.0 daemon (begun_name p h xs run path offset q k g b.at b.sector b.begun ∙ sym name) alive
    (less_by k.number i.number (nat_lt k.number i.number) refl other)

-- ---- what it shows

pub equal_bytes : (bytes : Option (List ℕ)) (xs ys : List ℕ) → bytes ≡ Some xs → some_is (λ b. bytes_eq b ys) bytes ≡ true → xs ≡ ys
equal_bytes bytes xs ys is h = (bytes_eq-Decides xs ys).0 (sym (ap (λ o. some_is (λ b. bytes_eq b ys) o) is) ∙ h)

-- The sector of the call is that of the place.
pub record IsHere (w : World) (path : List ℕ) (offset : ℕ) (c : Course) : Type 0 where
  pub bytes : content w c.call.path (c.call.offset + 0 * sector_size w) ≡ content w path offset
  pub index : (sample_at w c.call 0).index ≡ length (landed_at w path offset)

pub is_here : (w : World) (path : List ℕ) (offset : ℕ) (c : Course) → c.call.path ≡ path → c.call.offset ≡ offset → IsHere w path offset c
is_here w path offset c a b =
    let at : c.call.offset + 0 * sector_size w ≡ offset = no_times_more c.call.offset (sector_size w) ∙ b in
    record {
      bytes = ap (λ x. content w x (c.call.offset + 0 * sector_size w)) a ∙ ap (λ o. content w path o) at;
      index = ap (λ x. length (landed_at w x (c.call.offset + 0 * sector_size w))) a ∙ ap (λ o. length (landed_at w path o)) at;
    }

suc_is : (n m : ℕ) → suc n ≡ m → n + 1 ≡ m
suc_is n m h = omega (arith, h)

-- The newest landing, by its number.
pub newest_last : (w : World) (path : List ℕ) (offset : ℕ) → length (landed_at w path offset) + 1 ≡ (id_state w path offset).count
newest_last w path offset =
    suc_is (length (landed_at w path offset)) (length (history_of w path offset)) (one_longer (landed_at w path offset) (first_landing w path offset))

-- ---- it has written nothing

every_numbered : (P : Landing → Type 0) (ls : List Landing) → ((k : ℕ) (l : Landing) → numbered_landing ls k ≡ Some l → P l) → Every P ls
every_numbered P [] go = tt
every_numbered P (l ∷ ls) go =
    (go (length ls) l (newest_number l ls (length ls) refl), every_numbered P ls (λ k x at. go k x (number_stays (l ∷ []) ls k x at)))

not_its : (n : IdName) (o : Option IdName) → (o ≡ Some n → ⊥) → some_is (same_name n) o ≡ false
not_its n None h = refl
not_its n (Some m) h = is_false (same_name n m) (λ t. h (ap (λ x. Some x) (sym (name_is n m t))))

none_left : (w : World) (n : IdName) (l : Landing) (b : Bool) (k : ℕ) → b ≡ false → elim b as (λ z. ℕ) [ false ↦ 0 | true ↦ k ] ≡ 0
none_left w n l true k h = absurd (true_is_false h)
none_left w n l false k h = refl

zeros : (f : Landing → ℕ) (ls : List Landing) → Every (λ l. f l ≡ 0) ls → greatest (0 ∷ map f ls) ≡ 0
zeros f [] h = refl
zeros f (l ∷ ls) h = let rest = zeros f ls h.1 in let this = h.0 in omega (arith, rest, this)

pub nothing_written : (w : World) (path : List ℕ) (offset : ℕ) (i : SessionId) (s : Session) → given_number s ≡ 0
    → ((k : ℕ) → k < (id_state w path offset).count → ((id_state w path offset).landing k).writer ≡ Some (name_of i) → ⊥) → landed_seq w path offset i s ≡ 0
nothing_written w path offset i s none free =
    ap (λ g. greatest (g ∷ map (seq_left w (name_of i)) (history_of w path offset))) none
    ∙ zeros (seq_left w (name_of i)) (history_of w path offset)
    (every_numbered (λ l. seq_left w (name_of i) l ≡ 0) (history_of w path offset)
    (λ k l at. none_left w (name_of i) l (some_is (same_name (name_of i)) (writer_of w l)) _
    (not_its (name_of i) (writer_of w l)
    (λ e. free k (number_below (history_of w path offset) k l at) (ap (λ x. x.writer) (landing_at w path offset k l at) ∙ e)))))
