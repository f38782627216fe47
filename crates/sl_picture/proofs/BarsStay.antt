-- What touches no bar of a holding; and what a grant and an end make of them.
use Rattle.sl_picture.specs.HeldBars.{NamesAreKept, Row, Shows, bars_on, is_bar_on, row_of_bar}
use Rattle.sl_picture.specs.Fates.{act, changed, concerns, concerns_there, dropped, ends, is_call, is_down, is_gap, is_holding, is_idle, is_link, is_live_link, is_of_daemon, is_orphan, is_waiting, orphaned, stays, turns}
use Rattle.sl_picture.specs.Kept.{Kept, begun_with, fate_of, happened, is_text, keeping, stays_of, text_at}
use Rattle.sl_picture.specs.declared.fates.Act.{Act}
use Rattle.sl_picture.specs.declared.fates.Deed.TheVariants.{Answered, CallOver, CameUp, Crashed, Denied, Granted, Hidden, Landed, Removed, Renewed, Started, Ticked, WentDown}
use Rattle.sl_picture.specs.declared.fates.Fate.{Fate}
use Rattle.sl_picture.specs.declared.kept.Part.{Part}
use Rattle.sl_picture.specs.declared.shapes.Bar.{Bar}
use Rattle.sl_picture.specs.declared.shapes.Instant.{Instant}
use Rattle.sl_picture.specs.declared.shapes.Shape.TheVariants as shape
use Rattle.sl_picture.specs.declared.shapes.Shape.{Shape}
use Rattle.sl_picture.specs.declared.shapes.Text.{Text}
use Rattle.sl_words.proofs.CaseLaws.{false_is_true, is_false, some_value, true_is_false}
use Rattle.sl_words.proofs.Lists.{contains_cases, contains_first, contains_more, contains_none}
use Rattle.sl_words.proofs.WordLaws.{and_true}
use Rattle.std.proofs.Common.{ap, arith, inl, inr, refl, subst, sym, ◌∙◌}
use Rattle.std.proofs.lemmas.List.Elements.{Contains-append_cases, Contains-push_cases, filter-append}
use Rattle.std.proofs.lemmas.List.{append-nil, drop-append-le, drop_at, length-append, length-drop, map-append, take-append-le, take_all}
use Rattle.std.specs.List.{flat_map}
use Rattle.std.specs.Option.{option_to_list}
use Rattle.std.specs.Prelude.{Bool, Contains, List, None, Option, Some, cond, drop, false, filter, if◌then◌else◌, length, map, take, true, [], ℕ, ◌&&◌, ◌++◌, ◌+◌, ◌==◌, ◌∷◌, ◌≡◌, ◌≤◌, ◌⊎◌, ◌||◌}

-- ---- texts

abbrev pub IsIn : List ℕ → Text → Type 0
IsIn texts t = t.start + t.len ≤ length texts

-- A text that is kept stays where further ones are kept.
kept_text : (texts more : List ℕ) (t : Text) → IsIn texts t → text_at (texts ++ more) t ≡ text_at texts t
kept_text texts more t inside =
    ap (take t.len) (drop-append-le t.start texts more (omega (arith, inside)))
    ∙ take-append-le t.len (drop t.start texts) more (omega (arith, inside, length-drop t.start texts))

abbrev pub new_text : List ℕ → List ℕ → Text
new_text texts text = record { start = length texts; len = length text }

none_more : (n : ℕ) → n ≤ n
none_more n = omega arith

-- What is kept last is found.
pub found_text : (texts text : List ℕ) → text_at (texts ++ text) (new_text texts text) ≡ text
found_text texts text = ap (take (length text)) (drop_at texts text (length texts) refl) ∙ take_all (length text) text (none_more (length text))

pub new_is_in : (texts text : List ℕ) → IsIn (texts ++ text) (new_text texts text)
new_is_in texts text = omega (arith, length-append texts text)

pub stays_in : (texts more : List ℕ) (t : Text) → IsIn texts t → IsIn (texts ++ more) t
stays_in texts more t inside = omega (arith, inside, length-append texts more)

pub nothing_in : (texts : List ℕ) → 0 + 0 ≤ length texts
nothing_in texts = omega arith

-- ---- rows of bars

abbrev pub shown : List ℕ → ℕ → List Bar → List Row
shown texts m bs = map (row_of_bar texts) (filter (is_bar_on m) bs)

abbrev pub made_row : ℕ → List ℕ → Shape → ℕ → Row
made_row process resource s instance = record { process = process; resource = resource; shape = s; instance = instance }

pushed : {A B : Type 0} (f : A → B) (t : Bool) (x : A) (xs : List A) → map f (cond t (x ∷ xs) xs) ≡ cond t (f x ∷ map f xs) (map f xs)
pushed f true x xs = refl
pushed f false x xs = refl

pub shown_first : (texts : List ℕ) (m : ℕ) (b : Bar) (bs : List Bar) → shown texts m (b ∷ bs) ≡ cond (is_bar_on m b) (row_of_bar texts b ∷ shown texts m bs) (shown texts m bs)
shown_first texts m b bs = pushed (row_of_bar texts) (is_bar_on m b) b (filter (is_bar_on m) bs)

pub no_row : (m : ℕ) (b : Bar) → is_holding b.shape ≡ false → is_bar_on m b ≡ false
no_row m b other = ap (λ t. t && (b.machine == m)) other

pub unshown : (texts : List ℕ) (m : ℕ) (b : Bar) (bs : List Bar) → is_bar_on m b ≡ false → shown texts m (b ∷ bs) ≡ shown texts m bs
unshown texts m b bs other = ap (λ t. map (row_of_bar texts) (cond t (b ∷ filter (is_bar_on m) bs) (filter (is_bar_on m) bs))) other

rows_grow : (texts more : List ℕ) (m : ℕ) (bs : List Bar) → ((b : Bar) → Contains bs b → IsIn texts b.name) → shown (texts ++ more) m bs ≡ shown texts m bs
rows_grow texts more m [] inside = refl
rows_grow texts more m (b ∷ bs) inside =
    shown_first (texts ++ more) m b bs
    ∙ ap (λ (name : List ℕ). cond (is_bar_on m b) (made_row b.number name b.shape b.until ∷ shown (texts ++ more) m bs) (shown (texts ++ more) m bs)) (kept_text texts more b.name (inside b (contains_first b bs)))
    ∙ ap (λ (rs : List Row). cond (is_bar_on m b) (row_of_bar texts b ∷ rs) rs) (rows_grow texts more m bs (λ c has. inside c (contains_more b bs c has)))
    ∙ sym (shown_first texts m b bs)

rows_more : (texts : List ℕ) (m : ℕ) (bs : List Bar) (b : Bar) → shown texts m (bs ++ b ∷ []) ≡ shown texts m bs ++ shown texts m (b ∷ [])
rows_more texts m bs b =
    ap (map (row_of_bar texts)) (filter-append (is_bar_on m) bs (b ∷ [])) ∙ map-append (row_of_bar texts) (filter (is_bar_on m) bs) (filter (is_bar_on m) (b ∷ []))

-- ---- pictures whose bars of holdings stay

abbrev pub Stays : Kept → Kept → Type 0
Stays k n = (part : Part) (rows : ℕ → List Row) → Shows part k rows → Shows part n rows

pub same_rows : (part : Part) (k : Kept) (rows others : ℕ → List Row) → ((m : ℕ) → rows m ≡ others m) → Shows part k rows → Shows part k others
same_rows part k rows others same s = (s.0, s.1, λ m. s.2 m ∙ same m)

pub text_kept : (more : List ℕ) (k : Kept) → Stays k (keeping more k)
text_kept more k part rows s = (s.0, λ b has. stays_in k.texts more b.name (s.1 b has), λ m. rows_grow k.texts more m k.opened s.1 ∙ s.2 m)

-- ---- bars that begin

one_more_in : (b : Bar) (k : Kept) → IsIn k.texts b.name → NamesAreKept k → NamesAreKept (begun_with b k)
one_more_in b k inside names c has =
    elim (Contains-push_cases k.opened b c has) as (λ z. IsIn k.texts c.name) [
      | inl old ↦ names c old
      | inr is ↦ subst (λ (x : Bar). IsIn k.texts x.name) is inside
    ]

pub begun : (b : Bar) (k : Kept) → is_holding b.shape ≡ false → IsIn k.texts b.name → Stays k (begun_with b k)
begun b k other inside part rows s = (
  s.0,
  one_more_in b k inside s.1,
  λ m. rows_more k.texts m k.opened b ∙ ap (λ (rs : List Row). bars_on k m ++ rs) (unshown k.texts m b [] (no_row m b other)) ∙ append-nil (bars_on k m) ∙ s.2 m,
)

-- The rows of a machine with one more.
abbrev pub with_row : ℕ → Row → (ℕ → List Row) → ℕ → List Row
with_row m r rows n = if m == n then rows n ++ r ∷ [] else rows n

pub holding_begun : (b : Bar) (k : Kept) (part : Part) (rows : ℕ → List Row) → is_holding b.shape ≡ true → IsIn k.texts b.name → Shows part k rows
    → Shows part (begun_with b k) (with_row b.machine (row_of_bar k.texts b) rows)
holding_begun b k part rows held inside s = (
  s.0,
  one_more_in b k inside s.1,
  λ m. rows_more k.texts m k.opened b
      ∙ ap (λ (t : Bool). bars_on k m ++ map (row_of_bar k.texts) (cond (t && (b.machine == m)) (b ∷ []) [])) held ∙ by m (b.machine == m),
)
  where
    by : (m : ℕ) (t : Bool) → bars_on k m ++ map (row_of_bar k.texts) (cond t (b ∷ []) []) ≡ (if t then rows m ++ row_of_bar k.texts b ∷ [] else rows m)
    by m true = ap (λ (rs : List Row). rs ++ row_of_bar k.texts b ∷ []) (s.2 m)
    by m false = append-nil (bars_on k m) ∙ s.2 m

-- ---- what becomes of bars

abbrev Alike : Bar → Bar → Type 0
Alike b c = (c.machine ≡ b.machine) × (c.shape ≡ b.shape) × (c.number ≡ b.number) × (c.until ≡ b.until)

-- A bar of a holding goes on as it is, and no other becomes one.
abbrev pub Leaves : Bar → Option Bar → Type 0
Leaves b None = is_holding b.shape ≡ false
Leaves b (Some c) = (c.name ≡ b.name) × (((is_holding b.shape ≡ false) × (is_holding c.shape ≡ false)) ⊎ Alike b c)

alike_row : (texts : List ℕ) (b c : Bar) → c.name ≡ b.name → Alike b c → row_of_bar texts c ≡ row_of_bar texts b
alike_row texts b c name a =
    ap (λ n. made_row n (text_at texts c.name) c.shape c.until) a.2 ∙ ap (λ (t : Text). made_row b.number (text_at texts t) c.shape c.until) name
    ∙ ap (λ (s : Shape). made_row b.number (text_at texts b.name) s c.until) a.1 ∙ ap (λ n. made_row b.number (text_at texts b.name) b.shape n) a.3

alike_on : (m : ℕ) (b c : Bar) → Alike b c → is_bar_on m c ≡ is_bar_on m b
alike_on m b c a = ap (λ (s : Shape). is_holding s && (c.machine == m)) a.1 ∙ ap (λ n. is_holding b.shape && (n == m)) a.0

module _ (texts : List ℕ) (m : ℕ) where
  left_one : (b : Bar) (o : Option Bar) (others bs : List Bar) → Leaves b o → shown texts m others ≡ shown texts m bs
      → shown texts m (option_to_list o ++ others) ≡ shown texts m (b ∷ bs)
  left_one b None others bs gone same = same ∙ sym (unshown texts m b bs (no_row m b gone))
  left_one b (Some c) others bs (name, inl none) same = unshown texts m c others (no_row m c none.1) ∙ same ∙ sym (unshown texts m b bs (no_row m b none.0))
  left_one b (Some c) others bs (name, inr alike) same =
      shown_first texts m c others ∙ ap (λ (r : Row). cond (is_bar_on m c) (r ∷ shown texts m others) (shown texts m others)) (alike_row texts b c name alike)
      ∙ ap (λ (t : Bool). cond t (row_of_bar texts b ∷ shown texts m others) (shown texts m others)) (alike_on m b c alike)
      ∙ ap (λ (rs : List Row). cond (is_bar_on m b) (row_of_bar texts b ∷ rs) rs) same ∙ sym (shown_first texts m b bs)

  left_rows : (f : Bar → Option Bar) (bs : List Bar) → ((b : Bar) → Leaves b (f b)) → shown texts m (flat_map (λ b. option_to_list (f b)) bs) ≡ shown texts m bs
  left_rows f [] leaves = refl
  left_rows f (b ∷ bs) leaves = left_one b (f b) (flat_map (λ b. option_to_list (f b)) bs) bs (leaves b) (left_rows f bs leaves)

-- Where an element of a flattened list comes from.
from_flat : {X A : Type 0} (f : X → List A) (xs : List X) (d : A) → Contains (flat_map f xs) d → (x : X) × Contains xs x × Contains (f x) d
from_flat f [] d h = absurd (contains_none d h)
from_flat f (x ∷ xs) d h =
    elim (Contains-append_cases (f x) (flat_map f xs) d h) as (λ z. (y : _) × Contains (x ∷ xs) y × Contains (f y) d) [
      | inl p ↦ (x, contains_first x xs, p)
      | inr q ↦ let r = from_flat f xs d q in (r.0, contains_more x xs r.0 r.1, r.2)
    ]

-- A bar that is there then has the name of one that was there.
left_name : (b : Bar) (o : Option Bar) (c : Bar) → ((d : Bar) → o ≡ Some d → d.name ≡ b.name) → Contains (option_to_list o) c → c.name ≡ b.name
left_name b None c names has = absurd (contains_none c has)
left_name b (Some d) c names has =
    elim (contains_cases d [] c has) as (λ z. c.name ≡ b.name) [
      | inl is ↦ subst (λ (x : Bar). x.name ≡ b.name) is (names d refl)
      | inr none ↦ absurd (contains_none c none)
    ]

pub left_names : (texts : List ℕ) (f : Bar → Option Bar) (bs : List Bar) → ((b d : Bar) → f b ≡ Some d → d.name ≡ b.name)
    → ((b : Bar) → Contains bs b → IsIn texts b.name) → (c : Bar) → Contains (flat_map (λ b. option_to_list (f b)) bs) c → IsIn texts c.name
left_names texts f bs names inside c has =
    let x = from_flat (λ b. option_to_list (f b)) bs c has in
    subst (IsIn texts) (sym (left_name x.0 (f x.0) c (names x.0) x.2)) (inside x.0 x.1)

named : (b : Bar) (o : Option Bar) → Leaves b o → (d : Bar) → o ≡ Some d → d.name ≡ b.name
named b None gone d is = absurd (none d is) where
  none : (d : Bar) → None ≡ Some d → ⊥
  none d h = absurd cc
named b (Some c) left d is = subst (λ (x : Bar). x.name ≡ b.name) (some_value c d is) left.0

pub happens_quietly : (a : Act) (name : List ℕ) (k : Kept) → ((b : Bar) → Leaves b (fate_of a name k b).stays) → Stays k (happened a name k)
unfolding happened stays_of
happens_quietly a name k leaves part rows s = (
  s.0,
  left_names k.texts (λ b. (fate_of a name k b).stays) k.opened (λ b d is. named b (fate_of a name k b).stays (leaves b) d is) s.1,
  λ m. left_rows k.texts m (λ b. (fate_of a name k b).stays) k.opened leaves ∙ s.2 m,
)

-- ---- by what happens

itself : (b : Bar) → Leaves b (Some b)
itself b = (refl, inr (refl, refl, refl, refl))

by_test : (t : Bool) (b : Bar) (f : Fate) → (t ≡ true → Leaves b f.stays) → Leaves b (if t then f else stays b).stays
by_test true b f h = h refl
by_test false b f h = itself b

-- What is true of both shapes of holdings is true of the shape of one.
of_holdings : (P : Shape → Type 0) → P shape.Exclusive → P shape.Shared → (s : Shape) → is_holding s ≡ true → P s
of_holdings P x y shape.Exclusive h = x
of_holdings P x y shape.Shared h = y
of_holdings P x y shape.Passing h = absurd (false_is_true h)
of_holdings P x y shape.Down h = absurd (false_is_true h)
of_holdings P x y shape.Idle h = absurd (false_is_true h)
of_holdings P x y shape.Waiting h = absurd (false_is_true h)
of_holdings P x y shape.Accepted h = absurd (false_is_true h)
of_holdings P x y shape.Refused h = absurd (false_is_true h)
of_holdings P x y shape.Unclear h = absurd (false_is_true h)
of_holdings P x y shape.Read h = absurd (false_is_true h)
of_holdings P x y shape.Write h = absurd (false_is_true h)
of_holdings P x y shape.Orphan h = absurd (false_is_true h)
of_holdings P x y shape.Joining h = absurd (false_is_true h)
of_holdings P x y shape.Joined h = absurd (false_is_true h)
of_holdings P x y shape.Left h = absurd (false_is_true h)
of_holdings P x y shape.Expired h = absurd (false_is_true h)
of_holdings P x y shape.Gap h = absurd (false_is_true h)
of_holdings P x y shape.Wanted h = absurd (false_is_true h)

other_kind : (kind : Shape → Bool) → kind shape.Exclusive ≡ false → kind shape.Shared ≡ false → (s : Shape) → kind s ≡ true → is_holding s ≡ false
other_kind kind x y s h = is_false (is_holding s) (λ held. true_is_false (sym h ∙ of_holdings (λ s. kind s ≡ false) x y s held))

orphaned_leaves : (now : Instant) (b : Bar) → is_holding b.shape ≡ false → Leaves b (orphaned now b).stays
orphaned_leaves now b none = by b.shape where
  by : (s : Shape)
      → Leaves b (elim s as (λ z. Fate) [
        | shape.Write ↦ stays (record b { shape = shape.Orphan })
        | shape.Orphan ↦ stays (record b { shape = shape.Orphan })
        | shape.Joining ↦ turns now b shape.Left b.until
        | shape.Joined ↦ turns now b shape.Left b.until
        | shape.Left ↦ turns now b shape.Left b.until
        | shape.Expired ↦ stays b
        | _ ↦ ends now b
      ]).stays
  by shape.Write = (refl, inl (none, refl))
  by shape.Orphan = (refl, inl (none, refl))
  by shape.Joining = (refl, inl (none, refl))
  by shape.Joined = (refl, inl (none, refl))
  by shape.Left = (refl, inl (none, refl))
  by shape.Expired = itself b
  by shape.Exclusive = none
  by shape.Shared = none
  by shape.Passing = none
  by shape.Down = none
  by shape.Idle = none
  by shape.Waiting = none
  by shape.Accepted = none
  by shape.Refused = none
  by shape.Unclear = none
  by shape.Read = none
  by shape.Gap = none
  by shape.Wanted = none

dropped_leaves : (now : Instant) (b : Bar) → is_holding b.shape ≡ false → Leaves b (dropped now b).stays
dropped_leaves now b none = by (is_link b.shape) where
  by : (t : Bool) → Leaves b (if t then ends now b else orphaned now b).stays
  by true = none
  by false = orphaned_leaves now b none

module _ (name : List ℕ) (k : Kept) where
  pub answered_stays : (m n : ℕ) (s : Shape) (reply : Text) → Stays k (happened (record (act Answered m n) { shape = s; reply = reply }) name k)
  unfolding concerns concerns_there changed
  answered_stays m n s reply =
      happens_quietly (record (act Answered m n) { shape = s; reply = reply }) name k (λ b.
      by_test ((b.machine == m) && (is_waiting b.shape && ((n == 0) || (n == b.number)))) b (ends k.here (record b { shape = s; reply = reply })) (λ t.
      other_kind is_waiting refl refl b.shape (and_true (is_waiting b.shape) ((n == 0) || (n == b.number)) (and_true (b.machine == m) _ t).1).0))

  pub over_stays : (m n : ℕ) → Stays k (happened (act CallOver m n) name k)
  unfolding concerns concerns_there changed
  over_stays m n =
      happens_quietly (act CallOver m n) name k (λ b.
      by_test ((b.machine == m) && (is_call b.shape && (n == b.number))) b (ends k.here b) (λ t.
      other_kind is_call refl refl b.shape (and_true (is_call b.shape) (n == b.number) (and_true (b.machine == m) _ t).1).0))

  pub landed_stays : (m n : ℕ) → Stays k (happened (act Landed m n) name k)
  unfolding concerns concerns_there changed
  landed_stays m n =
      happens_quietly (act Landed m n) name k (λ b.
      by_test ((b.machine == m) && (is_orphan b.shape && (n == b.number))) b (ends k.here b) (λ t.
      other_kind is_orphan refl refl b.shape (and_true (is_orphan b.shape) (n == b.number) (and_true (b.machine == m) _ t).1).0))

  pub renewed_stays : (m until : ℕ) → Stays k (happened (record (act Renewed m 0) { until = until }) name k)
  unfolding concerns concerns_there changed
  renewed_stays m until =
      happens_quietly (record (act Renewed m 0) { until = until }) name k (λ b.
      by_test ((b.machine == m) && (is_link b.shape && is_text k.texts b.name name)) b (turns k.here b shape.Joined until) (λ t.
      (refl, inl (other_kind is_link refl refl b.shape (and_true (is_link b.shape) (is_text k.texts b.name name) (and_true (b.machine == m) _ t).1).0, refl))))

  pub removed_stays : (m : ℕ) → Stays k (happened (act Removed m 0) name k)
  unfolding concerns concerns_there changed
  removed_stays m =
      happens_quietly (act Removed m 0) name k (λ b.
      by_test ((b.machine == m) && (is_link b.shape && is_text k.texts b.name name)) b (ends k.here b) (λ t.
      other_kind is_link refl refl b.shape (and_true (is_link b.shape) (is_text k.texts b.name name) (and_true (b.machine == m) _ t).1).0))

  pub crashed_stays : (m : ℕ) → Stays k (happened (act Crashed m 0) name k)
  unfolding concerns concerns_there changed
  crashed_stays m =
      happens_quietly (act Crashed m 0) name k (λ b.
      by_test ((b.machine == m) && is_of_daemon b.shape) b (orphaned k.here b) (λ t.
      orphaned_leaves k.here b (other_kind (λ s. is_of_daemon s) refl refl b.shape (and_true (b.machine == m) _ t).1)))

  pub down_stays : (m : ℕ) → Stays k (happened (act WentDown m 0) name k)
  unfolding concerns concerns_there changed
  down_stays m =
      happens_quietly (act WentDown m 0) name k (λ b.
      by_test ((b.machine == m) && (is_of_daemon b.shape || is_idle b.shape)) b (dropped k.here b) (λ t.
      dropped_leaves k.here b (other_kind (λ s. is_of_daemon s || is_idle s) refl refl b.shape (and_true (b.machine == m) _ t).1)))

  pub started_stays : (m : ℕ) → Stays k (happened (act Started m 0) name k)
  unfolding concerns concerns_there changed
  started_stays m =
      happens_quietly (act Started m 0) name k (λ b.
      by_test ((b.machine == m) && is_idle b.shape) b (ends k.here b) (λ t. other_kind is_idle refl refl b.shape (and_true (b.machine == m) _ t).1))

  pub up_stays : (m : ℕ) → Stays k (happened (act CameUp m 0) name k)
  unfolding concerns concerns_there changed
  up_stays m =
      happens_quietly (act CameUp m 0) name k (λ b.
      by_test ((b.machine == m) && is_down b.shape) b (ends k.here b) (λ t. other_kind is_down refl refl b.shape (and_true (b.machine == m) _ t).1))

  pub denied_stays : Stays k (happened (act Denied 0 0) name k)
  unfolding concerns concerns_there changed
  denied_stays =
      happens_quietly (act Denied 0 0) name k (λ b.
      by_test (is_gap b.shape && is_text k.texts b.name name) b (stays (record b { shape = shape.Wanted })) (λ t.
      (refl, inl (other_kind is_gap refl refl b.shape (and_true (is_gap b.shape) (is_text k.texts b.name name) t).0, refl))))

  pub ticked_stays : Stays k (happened (act Ticked 0 0) name k)
  unfolding concerns concerns_there changed
  ticked_stays =
      happens_quietly (act Ticked 0 0) name k (λ b.
      by_test (is_live_link b.shape && _) b (turns k.here b shape.Expired b.until) (λ t.
      (refl, inl (other_kind is_live_link refl refl b.shape (and_true (is_live_link b.shape) _ t).0, refl))))

  pub hidden_stays : Stays k (happened (act Hidden 0 0) name k)
  unfolding concerns concerns_there changed
  hidden_stays = happens_quietly (act Hidden 0 0) name k (λ b. (refl, inr (refl, refl, refl, refl)))

  pub granted_stays : (m row : ℕ) → Stays k (happened (record (act Granted m 0) { row = row }) name k)
  unfolding concerns concerns_there changed
  granted_stays m row =
      happens_quietly (record (act Granted m 0) { row = row }) name k (λ b.
      by_test (is_gap b.shape && is_text k.texts b.name name) b _ (λ t.
      gone b ((b.machine == m) || (b.from.moment == k.here.moment)) (other_kind is_gap refl refl b.shape (and_true (is_gap b.shape) (is_text k.texts b.name name) t).0)))
    where
      gone : (b : Bar) (t : Bool) → is_holding b.shape ≡ false
          → Leaves b (if t then record { stays = None; ends = None } else ends k.here (record b { machine = m; row = row })).stays
      gone b true none = none
      gone b false none = none
