-- Where what landed at a sector stays, and who wrote it, so does what a session's state takes from there.
use Rattle.sl_run_law.proofs.Course.Daemons.{every_each}
use Rattle.sl_ids.specs.State.{Landing as IdLanding, Session as IdSession, SessionId as IdName}
use Rattle.sl_id_safety.proofs.State.Frames.{Same, SameThere, begun_same, standing_same}
use Rattle.sl_id_safety.specs.State.IdStates.{blank, deciding_sample, generation_above, generation_by, has_begun, index_of, is_sector_of, join_course, landing_of, name_of, said_by, same_name, seq_left, session_at, session_named_so, standing_by, standing_of, writer_of}
use Rattle.sl_run.specs.Safety.{Found, SessionId, session_of_world}
use Rattle.sl_run.specs.Worlds.{Landing, Sampling, World, first_landing, history_of, landed_at}
use Rattle.sl_run_law.specs.FatesStay.{Every}
use Rattle.sl_run_law.specs.Sample.Samples.{numbered_landing}
use Rattle.sl_trace.specs.Sessions.{given_number}
use Rattle.sl_trace.specs.Traces.{same_place}
use Rattle.sl_trace.specs.declared.effects.JoinStep.TheVariants.{ClaimWrite}
use Rattle.sl_words.proofs.CaseLaws.{none_some, some_value}
use Rattle.sl_words.proofs.WordLaws.{and_true}
use Rattle.sl_words.specs.Words.{greatest, some_is}
use Rattle.std.proofs.Common.{ap, refl, subst, sym, ◌∙◌}
use Rattle.std.proofs.lemmas.List.Elements.{filter-append}
use Rattle.std.proofs.lemmas.List.{append_assoc}
use Rattle.std.specs.Option.{option_map_or}
use Rattle.std.specs.Prelude.{Bool, List, None, Option, Some, false, filter, length, map, true, [], ℕ, ◌&&◌, ◌++◌, ◌==◌, ◌∷◌, ◌≡◌}

-- ---- the same sector

-- The same landings there, by the same writers.
pub record SameSector (w v : World) (path : List ℕ) (offset : ℕ) : Type 0 where
  pub layout : v.layout ≡ w.layout
  pub history : history_of v path offset ≡ history_of w path offset
  pub writers : Every (λ l. writer_of v l ≡ writer_of w l) (history_of w path offset)

mapped_same : {A B : Type 0} (f g : A → B) (xs : List A) → Every (λ x. f x ≡ g x) xs → map f xs ≡ map g xs
mapped_same f g [] h = refl
mapped_same f g (x ∷ xs) h = ap (λ y. y ∷ map f xs) h.0 ∙ ap (λ ys. g x ∷ ys) (mapped_same f g xs h.1)

-- The seq of a landing, by its writer.
abbrev seq_by : World → IdName → Landing → Option IdName → ℕ
seq_by w n l o = elim (some_is (same_name n) o) [ false ↦ 0 | true ↦ option_map_or (λ x. x.seq) (said_by w.layout l.bytes) 0 ]

-- The same writer, the same seq.
pub seq_left_same : (w v : World) (n : IdName) (l : Landing) → v.layout ≡ w.layout → writer_of v l ≡ writer_of w l → seq_left v n l ≡ seq_left w n l
seq_left_same w v n l layout writer =
    ap (λ o. seq_by v n l o) writer
    ∙ ap (λ g. elim (some_is (same_name n) (writer_of w l)) as (λ x. ℕ) [ false ↦ 0 | true ↦ option_map_or (λ x. x.seq) (said_by g l.bytes) 0 ]) layout

-- The same writer, the same landing.
pub landing_same : (w v : World) (l : Landing) → v.layout ≡ w.layout → writer_of v l ≡ writer_of w l → landing_of v l ≡ landing_of w l
landing_same w v l layout writer =
    ap (λ (o : Option IdName). let x : IdLanding = record { moment = l.moment; writer = o; shown = said_by v.layout l.bytes } in x) writer
    ∙ ap (λ g. let x : IdLanding = record { moment = l.moment; writer = writer_of w l; shown = said_by g l.bytes } in x) layout

pub seqs_same : (w v : World) (n : IdName) (ls : List Landing) → v.layout ≡ w.layout → Every (λ l. writer_of v l ≡ writer_of w l) ls
    → map (seq_left v n) ls ≡ map (seq_left w n) ls
seqs_same w v n ls layout h =
    mapped_same (seq_left v n) (seq_left w n) ls
    (every_each (λ l. writer_of v l ≡ writer_of w l) (λ l. seq_left v n l ≡ seq_left w n l) ls (λ l k. seq_left_same w v n l layout k) h)

generation_on : (w v : World) (path : List ℕ) (offset : ℕ) (o : Option Sampling) → v.layout ≡ w.layout → history_of v path offset ≡ history_of w path offset
    → generation_by v path offset o ≡ generation_by w path offset o
generation_on w v path offset None layout history = refl
generation_on w v path offset (Some x) layout history =
    ap (λ ls. generation_above v.layout (numbered_landing ls x.index)) history
    ∙ ap (λ g. generation_above g (numbered_landing (history_of w path offset) x.index)) layout

-- The same sector, the same for each session.
pub sector_same : (w v : World) (path : List ℕ) (offset : ℕ) → SameSector w v path offset → (i : SessionId) (f : Found) → SameThere w v path offset i f
sector_same w v path offset s i f =
    record {
      layout = s.layout;
      claim = ap (λ ls. option_map_or (λ c. index_of (i.machine, c.call.number) ls) (join_course i ClaimWrite f.machine) 0) s.history;
      generation = generation_on w v path offset (deciding_sample i f) s.layout s.history;
      seq = ap (λ ls. greatest (given_number f.session ∷ map (seq_left v (name_of i)) ls)) s.history
          ∙ ap (λ ns. greatest (given_number f.session ∷ ns)) (seqs_same w v (name_of i) (history_of w path offset) s.layout s.writers);
    }

-- ---- a session at the sector

-- What is found before and later is the same, or nothing is found.
abbrev pub SameFound : World → World → List ℕ → ℕ → SessionId → Option Found → Option Found → Type 0
SameFound w v path offset i None None = Unit {0}
SameFound w v path offset i (Some f) (Some g) = Same i f g × SameThere w v path offset i f
SameFound w v path offset i None (Some g) = ⊥
SameFound w v path offset i (Some f) None = ⊥

found_by : (w v : World) (path : List ℕ) (offset : ℕ) (i : SessionId) (f g : Found) → Same i f g → SameThere w v path offset i f
    → standing_by v path offset i (Some g) ≡ standing_by w path offset i (Some f)
found_by w v path offset i f g s t =
    ap (λ x. elim (is_sector_of v.layout path offset x && has_begun i g) as (λ z. IdSession) [ false ↦ blank | true ↦ standing_of v path offset i g ]) s.session
    ∙ ap (λ x. elim (is_sector_of x path offset f.session && has_begun i g) as (λ z. IdSession) [ false ↦ blank | true ↦ standing_of v path offset i g ]) t.layout
    ∙ ap (λ x. elim (is_sector_of w.layout path offset f.session && x) as (λ z. IdSession) [ false ↦ blank | true ↦ standing_of v path offset i g ]) (begun_same i f g s)
    ∙ ap (λ x. elim (is_sector_of w.layout path offset f.session && has_begun i f) as (λ z. IdSession) [ false ↦ blank | true ↦ x ])
    (standing_same w v path offset i f g s t)

stands_by : (w v : World) (path : List ℕ) (offset : ℕ) (i : SessionId) (o p : Option Found) → SameFound w v path offset i o p
    → standing_by v path offset i p ≡ standing_by w path offset i o
stands_by w v path offset i None None h = refl
stands_by w v path offset i (Some f) (Some g) h = found_by w v path offset i f g h.0 h.1
stands_by w v path offset i None (Some g) h = absurd h
stands_by w v path offset i (Some f) None h = absurd h

-- The same found, the same state.
pub session_same : (w v : World) (path : List ℕ) (offset : ℕ) (n : IdName)
    → SameFound w v path offset (session_named_so n) (session_of_world w (session_named_so n)) (session_of_world v (session_named_so n))
    → session_at v path offset n ≡ session_at w path offset n
session_same w v path offset n h =
    stands_by w v path offset (session_named_so n) (session_of_world w (session_named_so n)) (session_of_world v (session_named_so n)) h

-- .. where both are known.
pub session_same_at : (w v : World) (path : List ℕ) (offset : ℕ) (n : IdName) (f g : Found) → session_of_world w (session_named_so n) ≡ Some f
    → session_of_world v (session_named_so n) ≡ Some g → Same (session_named_so n) f g → SameThere w v path offset (session_named_so n) f
    → session_at v path offset n ≡ session_at w path offset n
session_same_at w v path offset n f g at then s t =
    ap (standing_by v path offset (session_named_so n)) then ∙ found_by w v path offset (session_named_so n) f g s t
    ∙ sym (ap (standing_by w path offset (session_named_so n)) at)

-- ---- .. where only a session that has begun there takes something from the sector

-- The same of what its state takes from there, if it has begun and the sector is its own.
pub record ThereIf (w v : World) (path : List ℕ) (offset : ℕ) (i : SessionId) (f : Found) : Type 0 where
  pub layout : v.layout ≡ w.layout
  pub own : is_sector_of w.layout path offset f.session ≡ true → has_begun i f ≡ true → SameThere w v path offset i f

abbrev stood : World → List ℕ → ℕ → SessionId → Found → Bool → IdSession
stood w path offset i f b = elim b [ false ↦ blank | true ↦ standing_of w path offset i f ]

test_same : (w v : World) (path : List ℕ) (offset : ℕ) (i : SessionId) (f g : Found) → v.layout ≡ w.layout → Same i f g
    → (is_sector_of v.layout path offset g.session && has_begun i g) ≡ (is_sector_of w.layout path offset f.session && has_begun i f)
test_same w v path offset i f g layout s =
    ap (λ x. is_sector_of v.layout path offset x && has_begun i g) s.session ∙ ap (λ x. is_sector_of x path offset f.session && has_begun i g) layout
    ∙ ap (λ x. is_sector_of w.layout path offset f.session && x) (begun_same i f g s)

if_by : (w v : World) (path : List ℕ) (offset : ℕ) (i : SessionId) (f g : Found) (b : Bool)
    → (is_sector_of w.layout path offset f.session && has_begun i f) ≡ b → Same i f g → ThereIf w v path offset i f
    → stood v path offset i g b ≡ stood w path offset i f b
if_by w v path offset i f g false is s t = refl
if_by w v path offset i f g true is s t =
    let p = and_true (is_sector_of w.layout path offset f.session) (has_begun i f) is in
    standing_same w v path offset i f g s (t.own p.0 p.1)

-- The same found, and the same there if it matters: the same state.
pub found_if : (w v : World) (path : List ℕ) (offset : ℕ) (i : SessionId) (f g : Found) → Same i f g → ThereIf w v path offset i f
    → standing_by v path offset i (Some g) ≡ standing_by w path offset i (Some f)
found_if w v path offset i f g s t =
    ap (stood v path offset i g) (test_same w v path offset i f g t.layout s)
    ∙ if_by w v path offset i f g (is_sector_of w.layout path offset f.session && has_begun i f) refl s t

abbrev pub SameIf : World → World → List ℕ → ℕ → SessionId → Option Found → Option Found → Type 0
SameIf w v path offset i None None = Unit {0}
SameIf w v path offset i (Some f) (Some g) = Same i f g × ThereIf w v path offset i f
SameIf w v path offset i None (Some g) = ⊥
SameIf w v path offset i (Some f) None = ⊥

same_if_by : (w v : World) (path : List ℕ) (offset : ℕ) (i : SessionId) (o p : Option Found) → SameIf w v path offset i o p
    → standing_by v path offset i p ≡ standing_by w path offset i o
same_if_by w v path offset i None None h = refl
same_if_by w v path offset i (Some f) (Some g) h = found_if w v path offset i f g h.0 h.1
same_if_by w v path offset i None (Some g) h = absurd h
same_if_by w v path offset i (Some f) None h = absurd h

pub session_same_if : (w v : World) (path : List ℕ) (offset : ℕ) (n : IdName)
    → SameIf w v path offset (session_named_so n) (session_of_world w (session_named_so n)) (session_of_world v (session_named_so n))
    → session_at v path offset n ≡ session_at w path offset n
session_same_if w v path offset n h =
    same_if_by w v path offset (session_named_so n) (session_of_world w (session_named_so n)) (session_of_world v (session_named_so n)) h

-- A session that stays as it is found.
pub same_still : (i : SessionId) (f : Found) → Same i f f
same_still i f =
    record { calls = refl; session = refl; setting = refl; begun = refl; trace = refl; stamps = refl; runs = refl; reset = refl; flying = refl }

-- ---- landings that stay where others come in front

pub first_same : (w v : World) (path : List ℕ) (offset : ℕ) → v.layout ≡ w.layout → v.header ≡ w.header → first_landing v path offset ≡ first_landing w path offset
first_same w v path offset layout header =
    ap (λ g. first_landing (record v { layout = g }) path offset) layout
    ∙ ap (λ h. first_landing (record v { layout = w.layout; header = h }) path offset) header

-- What landed at a place, in a list of landings.
abbrev pub at_place : List ℕ → ℕ → List Landing → List Landing
at_place path offset ls = filter (λ l. same_place l.path l.offset path offset) ls

-- The history of a place grows by what lands there.
pub history_grows : (w v : World) (path : List ℕ) (offset : ℕ) (newer : List Landing) → v.layout ≡ w.layout → v.header ≡ w.header
    → v.landings ≡ newer ++ w.landings → history_of v path offset ≡ at_place path offset newer ++ history_of w path offset
history_grows w v path offset newer layout header landings =
    ap (λ ls. at_place path offset ls ++ first_landing v path offset ∷ []) landings
    ∙ ap (λ l. at_place path offset (newer ++ w.landings) ++ l ∷ []) (first_same w v path offset layout header)
    ∙ ap (λ ls. ls ++ first_landing w path offset ∷ []) (filter-append (λ l. same_place l.path l.offset path offset) newer w.landings)
    ∙ append_assoc (at_place path offset newer) (landed_at w path offset) (first_landing w path offset ∷ [])

-- Where nothing lands, the history of a place stays.
pub history_same : (w v : World) (path : List ℕ) (offset : ℕ) → v.layout ≡ w.layout → v.header ≡ w.header → v.landings ≡ w.landings
    → history_of v path offset ≡ history_of w path offset
history_same w v path offset layout header landings = history_grows w v path offset [] layout header landings

numbered_by : (b : Bool) (l : Landing) (ls : List Landing) (k : ℕ) (P : Landing → Type 0) (x : Landing) → P l → Every P ls
    → (numbered_landing ls k ≡ Some x → P x) → elim b as (λ z. Option Landing) [ true ↦ Some l | false ↦ numbered_landing ls k ] ≡ Some x → P x
numbered_by true l ls k P x this each rest h = subst P (some_value l x h) this
numbered_by false l ls k P x this each rest h = rest h

-- What holds of each holds of the one with a number.
pub every_numbered : (P : Landing → Type 0) (ls : List Landing) (k : ℕ) (x : Landing) → Every P ls → numbered_landing ls k ≡ Some x → P x
every_numbered P [] k x each h = absurd (none_some x h)
every_numbered P (l ∷ ls) k x each h = numbered_by (k == length ls) l ls k P x each.0 each.1 (every_numbered P ls k x each.1) h
