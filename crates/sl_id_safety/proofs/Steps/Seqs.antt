-- What a session takes from the landings at its sector where one more of its own comes.
use Rattle.sl_id_safety.proofs.State.CallFrames.{index_other}
use Rattle.sl_id_safety.proofs.State.LandingFrames.{Grows, landing_at}
use Rattle.sl_id_safety.proofs.State.SectorFrames.{seqs_same}
use Rattle.sl_id_safety.proofs.State.StateFrames.{name_is, name_itself}
use Rattle.sl_id_safety.specs.State.IdStates.{id_state, index_of, is_left_by, name_of, said_by, same_name, seq_left, standing_of, writer_of}
use Rattle.sl_id_safety.proofs.Steps.Callers.{Caller, Write, counts, now_stands, writer}
use Rattle.sl_id_safety.proofs.Steps.FateChanges.{seq_at}
use Rattle.sl_id_safety.proofs.Steps.OwnSeqs.{FirstIsOther}
use Rattle.sl_ids.specs.Invariant.{HasBase, Invariant}
use Rattle.sl_ids.specs.State.{Content, SessionId as IdName, State}
use Rattle.sl_ids.specs.Terms.{Terms}
use Rattle.sl_words.proofs.Lists.{contains_cases, contains_first, contains_more, contains_none}
use Rattle.sl_run.specs.Safety.{Found, SessionId}
use Rattle.sl_run.specs.Worlds.{Fate, Landing, World, first_landing, history_of, landed_at}
use Rattle.sl_run_law.proofs.Sample.LandingNumbers.{newest_number, number_below, number_stays}
use Rattle.sl_run_law.specs.Sample.Samples.{numbered_landing}
use Rattle.sl_trace.specs.Sessions.{given_number}
use Rattle.sl_words.proofs.CaseLaws.{none_some, one_value, true_is_false}
use Rattle.sl_words.proofs.WordLaws.{and_true, some_is_true}
use Rattle.sl_words.specs.Words.{greatest, some_is}
use Rattle.std.proofs.Common.{ap, arith, inl, inr, refl, sym, ◌∙◌}
use Rattle.std.specs.Option.{option_map_or}
use Rattle.std.specs.Prelude.{Bool, Contains, List, None, Option, Some, false, is_none, length, map, suc, true, zero, [], ℕ, ◌<◌, ◌||◌, ◌∷◌, ◌≡◌, ◌⊎◌}

-- ---- numbers

pub has_number : (ls : List Landing) (l : Landing) → Contains ls l → (k : ℕ) × (numbered_landing ls k ≡ Some l)
has_number [] l there = absurd (contains_none l there)
has_number (x ∷ ls) l there =
    elim (contains_cases x ls l there) as (λ z. (k : ℕ) × (numbered_landing (x ∷ ls) k ≡ Some l)) [
      | inl e ↦ (length ls, newest_number x ls (length ls) refl ∙ ap (λ z. Some z) e)
      | inr more ↦ let r = has_number ls l more in (r.0, number_stays (x ∷ []) ls r.0 l r.1)
    ]

first_number : (w : World) (path : List ℕ) (offset : ℕ) → numbered_landing (history_of w path offset) 0 ≡ Some (first_landing w path offset)
first_number w path offset = number_stays (landed_at w path offset) (first_landing w path offset ∷ []) 0 (first_landing w path offset) refl

-- ---- what it wrote

-- A session of this name wrote none of the landings.
abbrev pub WroteNothing : State → IdName → Type 0
WroteNothing u n = (k : ℕ) → k < u.count → (u.landing k).writer ≡ Some n → ⊥

none_left : (w : World) (n : IdName) (l : Landing) (b : Bool) → some_is (same_name n) (writer_of w l) ≡ b → (writer_of w l ≡ Some n → ⊥)
    → elim b as (λ z. ℕ) [ false ↦ 0 | true ↦ option_map_or (λ x. x.seq) (said_by w.layout l.bytes) 0 ] ≡ 0
none_left w n l false is not = refl
none_left w n l true is not =
    let m = some_is_true (same_name n) (writer_of w l) is in
    absurd (not (m.1 ∙ ap (λ z. Some z) (sym (name_is n m.0 m.2))))

wrote_none : (w : World) (path : List ℕ) (offset : ℕ) (n : IdName) → WroteNothing (id_state w path offset) n → (l : Landing) → Contains (history_of w path offset) l
    → seq_left w n l ≡ 0
wrote_none w path offset n none l there =
    let k = has_number (history_of w path offset) l there in
    none_left w n l (some_is (same_name n) (writer_of w l)) refl (λ is. none k.0 (number_below (history_of w path offset) k.0 l k.1)
    (ap (λ z. z.writer) (landing_at w path offset k.0 l k.1) ∙ is))

all_none : (g : Landing → ℕ) (ls : List Landing) → ((l : Landing) → Contains ls l → g l ≡ 0) → greatest (map g ls) ≡ 0
all_none g [] h = refl
all_none g (l ∷ ls) h =
    let a = h l (contains_first l ls) in
    let b = all_none g ls (λ k has. h k (contains_more l ls k has)) in
    omega (arith, a, b)

-- What wrote nothing has no seq but that it was given.
pub seq_none : (w : World) (path : List ℕ) (offset : ℕ) (i : SessionId) (f : Found) → WroteNothing (id_state w path offset) (name_of i) → given_number f.session ≡ 0
    → seq_at w path offset i f ≡ 0
seq_none w path offset i f none given =
    let rest = all_none (seq_left w (name_of i)) (history_of w path offset) (wrote_none w path offset (name_of i) none) in
    omega (arith, given, rest)

-- ---- the first landing

not_zero : (n : ℕ) → (n ≡ 0) ⊎ (0 < n)
not_zero n = go n where
  go : (k : ℕ) → (k ≡ 0) ⊎ (0 < k)
  go zero = inl refl
  go (suc k) = inr (omega arith)

-- A session that has decided did not write the first record.
pub first_other : (r : Terms) (u : State) (n : IdName) (x : Content) → Invariant r u → (u.session n).decided ≡ true → (u.landing 0).writer ≡ Some n
    → (u.landing 0).shown ≡ Some x → ⊥
first_other r u n x inv decided wrote shows = by (not_zero (u.session n).base) where
  base : HasBase r u.now u.count u.landing (u.session n).base (u.session n).generation (u.session n).registered
  base = ((inv.one n).decided decided).1

  own : x.generation ≡ (u.session n).generation
  own = ((inv.one n).wrote 0 inv.landings.some wrote x shows).generation

  by : ((u.session n).base ≡ 0) ⊎ (0 < (u.session n).base) → ⊥
  by (inl e) =
      let same : x ≡ base.content = one_value x base.content (u.landing 0).shown shows (ap (λ k. (u.landing k).shown) (sym e) ∙ base.spelled) in
      let g : x.generation ≡ base.content.generation = ap (λ z. z.generation) same in
      omega (arith, g, own, base.next)
  by (inr lt) =
      let le = inv.landings.generations 0 (u.session n).base lt base.within x base.content shows base.spelled in
      omega (arith, le, own, base.next)

decided_by : (job : Option ℕ) (d : Bool) (j : ℕ) → job ≡ Some j → (is_none job || d) ≡ true → d ≡ true
decided_by None d j is h = absurd (none_some j is)
decided_by (Some k) d j is h = h

pub first_is_other : (r : Terms) (w v : World) (m n : ℕ) (fate : Fate) (y : Write w v m n fate) (path : List ℕ) (offset : ℕ) (k : Caller w v m n fate y)
    → Invariant r (id_state w path offset) → counts w path offset (writer y) k.found ≡ true → FirstIsOther w path offset (writer y) k.found
first_is_other r w v m n fate y path offset k inv is j job x wrote says =
    let f : Found = k.found in
    let i : SessionId = writer y in
    let at = now_stands w v m n fate y path offset k is in
    let decided : (standing_of w path offset i f).decided ≡ true = decided_by f.session.job (standing_of w path offset i f).decided j job (and_true _ _ is).1 in
    let land = landing_at w path offset 0 (first_landing w path offset) (first_number w path offset) in
    first_other r (id_state w path offset) (name_of i) x inv (ap (λ z. z.decided) at ∙ decided) (ap (λ z. z.writer) land ∙ wrote) (ap (λ z. z.shown) land ∙ says)

-- ---- one more landing

-- What the landing says of its seq.
abbrev seq_of : Option Content → ℕ
seq_of o = option_map_or (λ x. x.seq) o 0

left_now : (v : World) (n : IdName) (l : Landing) → writer_of v l ≡ Some n → seq_left v n l ≡ seq_of (said_by v.layout l.bytes)
left_now v n l wrote =
    ap (λ o. elim (some_is (same_name n) o) as (λ z. ℕ) [ false ↦ 0 | true ↦ seq_of (said_by v.layout l.bytes) ]) wrote
    ∙ ap (λ b. elim b as (λ z. ℕ) [ false ↦ 0 | true ↦ seq_of (said_by v.layout l.bytes) ]) (name_itself n)

grown : (w v : World) (path : List ℕ) (offset : ℕ) (l : Landing) (i : SessionId) (f : Found) (o : Option Content) → Grows w v path offset (l ∷ [])
    → writer_of v l ≡ Some (name_of i) → said_by v.layout l.bytes ≡ o
    → seq_at v path offset i f ≡ greatest (given_number f.session ∷ seq_of o ∷ map (seq_left w (name_of i)) (history_of w path offset))
grown w v path offset l i f o g wrote says =
    ap (λ ls. greatest (given_number f.session ∷ map (seq_left v (name_of i)) ls)) g.history
    ∙ ap (λ n. greatest (given_number f.session ∷ n ∷ map (seq_left v (name_of i)) (history_of w path offset))) (left_now v (name_of i) l wrote ∙ ap seq_of says)
    ∙ ap (λ ns. greatest (given_number f.session ∷ seq_of o ∷ ns)) (seqs_same w v (name_of i) (history_of w path offset) g.layout g.writers)

above_by : (g q : ℕ) (ns : List ℕ) → greatest (g ∷ ns) < q → greatest (g ∷ q ∷ ns) ≡ q
above_by g q ns h = omega (arith, h)

none_by : (g : ℕ) (ns : List ℕ) → greatest (g ∷ 0 ∷ ns) ≡ greatest (g ∷ ns)
none_by g ns = omega arith

only_by : (g q : ℕ) (ns : List ℕ) → greatest (g ∷ ns) ≡ 0 → greatest (g ∷ q ∷ ns) ≡ q
only_by g q ns h = omega (arith, h)

-- A greater seq is its seq from then on.
pub seq_above : (w v : World) (path : List ℕ) (offset : ℕ) (l : Landing) (i : SessionId) (f : Found) (x : Content) → Grows w v path offset (l ∷ [])
    → writer_of v l ≡ Some (name_of i) → said_by v.layout l.bytes ≡ Some x → seq_at w path offset i f < x.seq → seq_at v path offset i f ≡ x.seq
seq_above w v path offset l i f x g wrote says above =
    grown w v path offset l i f (Some x) g wrote says
    ∙ above_by (given_number f.session) x.seq (map (seq_left w (name_of i)) (history_of w path offset)) above

-- .. and the first one is.
pub seq_first : (w v : World) (path : List ℕ) (offset : ℕ) (l : Landing) (i : SessionId) (f : Found) (x : Content) → Grows w v path offset (l ∷ [])
    → writer_of v l ≡ Some (name_of i) → said_by v.layout l.bytes ≡ Some x → seq_at w path offset i f ≡ 0 → seq_at v path offset i f ≡ x.seq
seq_first w v path offset l i f x g wrote says none =
    grown w v path offset l i f (Some x) g wrote says
    ∙ only_by (given_number f.session) x.seq (map (seq_left w (name_of i)) (history_of w path offset)) none

-- A torn landing has none.
pub seq_torn : (w v : World) (path : List ℕ) (offset : ℕ) (l : Landing) (i : SessionId) (f : Found) → Grows w v path offset (l ∷ [])
    → writer_of v l ≡ Some (name_of i) → said_by v.layout l.bytes ≡ None → seq_at v path offset i f ≡ seq_at w path offset i f
seq_torn w v path offset l i f g wrote says =
    grown w v path offset l i f None g wrote says ∙ none_by (given_number f.session) (map (seq_left w (name_of i)) (history_of w path offset))

-- ---- which landing a call left

index_left : (p : ℕ × ℕ) (l : Landing) (ls : List Landing) (b : Bool) → b ≡ true → elim b as (λ z. ℕ) [ true ↦ length ls | false ↦ index_of p ls ] ≡ length ls
index_left p l ls true h = refl
index_left p l ls false h = absurd (true_is_false (sym h))

pub index_new : (w v : World) (path : List ℕ) (offset : ℕ) (p : ℕ × ℕ) (l : Landing) → Grows w v path offset (l ∷ []) → is_left_by p l ≡ true
    → index_of p (history_of v path offset) ≡ length (history_of w path offset)
index_new w v path offset p l g left =
    ap (index_of p) g.history ∙ index_left p l (history_of w path offset) (is_left_by p l) left

pub index_old : (w v : World) (path : List ℕ) (offset : ℕ) (p : ℕ × ℕ) (l : Landing) → Grows w v path offset (l ∷ []) → is_left_by p l ≡ false
    → index_of p (history_of v path offset) ≡ index_of p (history_of w path offset)
index_old w v path offset p l g left =
    ap (index_of p) g.history ∙ index_other p l (history_of w path offset) (is_left_by p l) left
