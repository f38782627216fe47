-- What is asked of a made history, row by row. Where the rows are written out, a test of them computes: so a fact of all steps is one `refl`.
use Rattle.sl_ballot_law.specs.Ballots.{BallotEnded, IsClean, IsFoundBlock, IsLastWrite, IsPhase1, IsPhase2, ProposesItself, ProposesSeen}
use Rattle.sl_ballot_law.specs.Disk.{IsRegister, ShowsNewest, Wrote}
use Rattle.sl_ballot_law.specs.History.{History, Leader, Owner}
use Rattle.sl_ballot_law.specs.Sessions.{EarlierAreOver, SessionsInOrder}
use Rattle.sl_examples.specs.Ballots.MadeHistories.{Lives, Read, Write, joins, lasting, made, no_read, of_host, one, two}
use Rattle.sl_words.proofs.CaseLaws.{false_is_true, some_value}
use Rattle.sl_words.proofs.TableLaws.{EachRow, each_row, each_tested}
use Rattle.sl_words.proofs.WordLaws.{and_true, or_true, some_is_true}
use Rattle.sl_words.specs.Tables.{Row, entry_of, has_row}
use Rattle.sl_words.specs.Words.{some_is}
use Rattle.std.specs.List.{list_all}
use Rattle.std.specs.Prelude.{nat_le, nat_lt, not}
use Rattle.std.proofs.Common.{Bool, List, None, Option, Some, ap, arith, cond, false, inl, inr, refl, subst, sym, true, ℕ, ◌&&◌, ◌<◌, ◌==◌, ◌∙◌, ◌||◌, ◌≡◌, ◌≤◌, ◌⊎◌}
use Rattle.std.proofs.lemmas.Bool.{eqb-true, le-leb, leb-true, ltb-true}

-- ---- sessions

pub one_is_not_two : one ≡ two → ⊥
one_is_not_two e = let id = ap (λ (s : Owner). s.id) e in omega arith

pub owner_same : (s u : Owner) → s.id ≡ u.id → s.generation ≡ u.generation → s ≡ u
owner_same s u p q = λ i. record { id = p i; generation = q i }

pub joins_is : (s : Owner) (j : ℕ) → joins s ≡ Some j → (s.generation ≡ 1) × (s.id ≡ j)
joins_is s j = elim (s.generation == 1) as (λ t. (s.generation == 1) ≡ t → cond (t && (s.id == 1 || s.id == 2)) (Some s.id) None ≡ Some j → (s.generation ≡ 1) × (s.id ≡ j)) [
  | true ↦ λ t. elim (s.id == 1 || s.id == 2) as (λ u. cond u (Some s.id) None ≡ Some j → (s.generation ≡ 1) × (s.id ≡ j)) [
    | true ↦ λ h. (eqb-true s.generation 1 t, some_value s.id j h)
    | false ↦ λ h. absurd cc
  ]
  | false ↦ λ t h. absurd cc
] refl

-- ---- hosts

-- What is said of what a read shows of a host.
pub each_host : (P : ℕ → Type 0) (k x y : ℕ) → (k ≡ 1 → P x) → (k ≡ 2 → P y) → P 0 → P (of_host k x y)
each_host P k x y p q z = elim (k == 1) as (λ t. (k == 1) ≡ t → P (cond t x (cond (k == 2) y 0))) [
  | true ↦ λ t. p (eqb-true k 1 t)
  | false ↦ λ t. elim (k == 2) as (λ u. (k == 2) ≡ u → P (cond u y 0)) [ true ↦ λ u. q (eqb-true k 2 u) | false ↦ λ u. z ] refl
] refl

-- An option whose value, if it has one, passes.
abbrev all_pass : (ℕ → Bool) → Option ℕ → Bool
all_pass p None = true
all_pass p (Some a) = p a

passes : (p : ℕ → Bool) (o : Option ℕ) (a : ℕ) → all_pass p o ≡ true → o ≡ Some a → p a ≡ true
passes p None a h e = absurd cc
passes p (Some b) a h e = subst (λ (x : ℕ). p x ≡ true) (some_value b a e) h

implied : (a b : Bool) → (not a || b) ≡ true → a ≡ true → b ≡ true
implied true b h e = h
implied false b h e = absurd (false_is_true e)

-- ---- a made history

module _ (lives : Lives) (ws : List (Row Write)) (rs : List (Row Read)) (ls : List (Row Leader)) where
  abbrev pub h : History
  h = made lives ws rs ls

  abbrev pub first : ℕ → ℕ
  first r = (entry_of no_read rs r).first

  abbrev pub second : ℕ → ℕ
  second r = (entry_of no_read rs r).second

  -- ---- the disk and the sessions, by tests

  abbrev is_answered : ℕ → Bool
  is_answered e = nat_lt 0 e && all_pass (λ a. nat_lt e a) (h.ok e)

  abbrev is_newest : ℕ → Bool
  is_newest e = all_pass (λ a. list_all (λ q. not (nat_le a q.step) || nat_le e (of_host (h.writer e).id (first q.step) (second q.step))) rs) (h.ok e)

  abbrev is_timed : ℕ → Bool
  is_timed r = nat_lt r (h.answer r) && nat_lt (first r) (h.answer r) && nat_lt (second r) (h.answer r)

  abbrev is_of : ℕ → ℕ → Bool
  is_of k x = x == 0 || has_row ws x && (h.writer x).id == k

  abbrev is_shown : ℕ → Bool
  is_shown r = is_of 1 (first r) && is_of 2 (second r)

  abbrev is_joined : Owner → ℕ → Bool
  is_joined s e = some_is (λ j. nat_le j e) (lives.joined s)

  abbrev pub WritesPass : Type 0
  WritesPass = list_all (λ q. is_answered q.step && is_joined (h.writer q.step) q.step) ws ≡ true

  abbrev pub NewestPass : Type 0
  NewestPass = list_all (λ q. is_newest q.step) ws ≡ true

  abbrev pub ReadsPass : Type 0
  ReadsPass = list_all (λ q. is_timed q.step && is_shown q.step && is_joined (h.reader q.step) q.step) rs ≡ true

  write_passes : WritesPass → (e : ℕ) → h.writes e ≡ true → (is_answered e ≡ true) × (is_joined (h.writer e) e ≡ true)
  write_passes all e w = and_true (is_answered e) (is_joined (h.writer e) e) (each_tested (λ e. is_answered e && is_joined (h.writer e) e) ws all e w)

  read_passes : ReadsPass → (r : ℕ) → h.reads r ≡ true → (is_timed r ≡ true) × (is_shown r ≡ true) × (is_joined (h.reader r) r ≡ true)
  read_passes all r is =
      let p = and_true (is_timed r && is_shown r) (is_joined (h.reader r) r) (each_tested (λ r. is_timed r && is_shown r && is_joined (h.reader r) r) rs all r is) in
      let q = and_true (is_timed r) (is_shown r) p.0 in
      (q.0, q.1, p.1)

  timed : (r : ℕ) → is_timed r ≡ true → (r < h.answer r) × (first r < h.answer r) × (second r < h.answer r)
  timed r t =
      let p = and_true (nat_lt r (h.answer r) && nat_lt (first r) (h.answer r)) (nat_lt (second r) (h.answer r)) t in
      let q = and_true (nat_lt r (h.answer r)) (nat_lt (first r) (h.answer r)) p.0 in
      (ltb-true r (h.answer r) q.0, ltb-true (first r) (h.answer r) q.1, ltb-true (second r) (h.answer r) p.1)

  of_its_host : (k x : ℕ) → is_of k x ≡ true → (x ≡ 0) ⊎ Wrote h k x
  of_its_host k x t = elim (or_true (x == 0) (has_row ws x && (h.writer x).id == k) t) [
    | inl z ↦ inl (eqb-true x 0 z)
    | inr w ↦
        let p = and_true (has_row ws x) ((h.writer x).id == k) w in
        inr (record { is = p.0; host = eqb-true (h.writer x).id k p.1 })
  ]

  pub register : ((h.block 0).lver ≡ 0) × ((h.block 0).mbal ≡ 0) × ((h.block 0).bal ≡ 0) → WritesPass → ReadsPass → IsRegister h
  register zeros w r = record {
    zeros = zeros;
    since = λ e is. ltb-true 0 e (answered e is).0;
    answered = λ e a is ok. ltb-true e a (passes (λ a. nat_lt e a) (h.ok e) a (answered e is).1 ok);
    forward = λ q is. (timed q (read_passes r q is).0).0;
    submitted = λ q k is shows.
        let p = and_true (is_of 1 (first q)) (is_of 2 (second q)) (read_passes r q is).1 in
        each_host (λ x. (x ≡ 0) ⊎ Wrote h k x) k (first q) (second q)
        (λ e. subst (λ (j : ℕ). (first q ≡ 0) ⊎ Wrote h j (first q)) (sym e) (of_its_host 1 (first q) p.0))
        (λ e. subst (λ (j : ℕ). (second q ≡ 0) ⊎ Wrote h j (second q)) (sym e) (of_its_host 2 (second q) p.1)) (inl refl);
    earlier = λ q k is shows.
        let t = timed q (read_passes r q is).0 in
        let a = t.0 in
        each_host (λ x. x < h.answer q) k (first q) (second q) (λ e. t.1) (λ e. t.2) (omega arith);
  }
    where
      answered : (e : ℕ) → h.writes e ≡ true → (nat_lt 0 e ≡ true) × (all_pass (λ a. nat_lt e a) (h.ok e) ≡ true)
      answered e is = and_true (nat_lt 0 e) (all_pass (λ a. nat_lt e a) (h.ok e)) (write_passes w e is).0

  pub newest : NewestPass → ShowsNewest h
  newest w r k e a is shows wrote ok l =
      let shown : ℕ → ℕ = λ q. of_host (h.writer e).id (first q) (second q) in
      let all = passes (λ a. list_all (λ q. not (nat_le a q.step) || nat_le e (shown q.step)) rs) (h.ok e) a (each_tested is_newest ws w e wrote.is) ok in
      let one = implied (nat_le a r) (nat_le e (shown r)) (each_tested (λ q. not (nat_le a q) || nat_le e (shown q)) rs all r is) (le-leb a r l) in
      subst (λ (j : ℕ). e ≤ of_host j (first r) (second r)) wrote.host (leb-true e (shown r) one)

  pub writers : WritesPass → (e : ℕ) → h.writes e ≡ true → (j : ℕ) × (h.joined (h.writer e) ≡ Some j) × (j ≤ e)
  writers w e is = let j = some_is_true (λ j. nat_le j e) (lives.joined (h.writer e)) (write_passes w e is).1 in (j.0, j.1, leb-true j.0 e j.2)

  pub readers : ReadsPass → (r : ℕ) → h.reads r ≡ true → (j : ℕ) × (h.joined (h.reader r) ≡ Some j) × (j ≤ r)
  readers all r is = let j = some_is_true (λ j. nat_le j r) (lives.joined (h.reader r)) (read_passes all r is).2 in (j.0, j.1, leb-true j.0 r j.2)

  -- ---- own blocks

  pub last : (e : ℕ) → h.writes (h.base e) ≡ true → h.writer (h.base e) ≡ h.writer e → h.base e < e
      → EachRow (λ d. d < e → (h.writer d).id ≡ (h.writer e).id → d ≤ h.base e) ws → IsLastWrite h e
  last e w s l f = record {
    writes = w;
    writer = s;
    before = l;
    last = λ d wd sd ld. each_row (λ d. d < e → (h.writer d).id ≡ (h.writer e).id → d ≤ h.base e) ws f d wd ld (ap (λ (s : Owner). s.id) sd);
  }

  pub found : (e r : ℕ) → h.reads r ≡ true → h.reader r ≡ h.writer e → h.answer r ≤ e → h.shows r (h.writer e).id ≡ true
      → h.shown r (h.writer e).id ≡ h.base e → EachRow (λ d. d < e → (h.writer d).id ≡ (h.writer e).id → (h.writer d).generation ≡ (h.writer e).generation → ⊥) ws
      → IsFoundBlock h e
  found e r is s l whole at f = record {
    read = r;
    reads = is;
    reader = s;
    before = l;
    whole = whole;
    shown = at;
    first = λ d wd sd ld. each_row (λ d. d < e → (h.writer d).id ≡ (h.writer e).id → (h.writer d).generation ≡ (h.writer e).generation → ⊥) ws f d wd ld
        (ap (λ (s : Owner). s.id) sd) (ap (λ (s : Owner). s.generation) sd);
  }

  -- ---- ballots

  -- a block that stops no ballot of number m in instance n
  abbrev pub Lets : ℕ → ℕ → ℕ → Type 0
  Lets n m x = ((h.block x).lver ≤ n) × ((h.block x).lver ≡ n → (h.block x).mbal ≤ m)

  pub clean : (r n m : ℕ) → ((k : ℕ) → h.shows r k ≡ true) → Lets n m (first r) × Lets n m (second r) × Lets n m 0 → IsClean h r n m
  clean r n m whole p = record {
    whole = whole;
    lver = λ k. (each_host (Lets n m) k (first r) (second r) (λ e. p.0) (λ e. p.1) p.2).0;
    mbal = λ k. (each_host (Lets n m) k (first r) (second r) (λ e. p.0) (λ e. p.1) p.2).1;
  }

  -- a block that accepted nothing in instance n
  abbrev pub IsOpen : ℕ → ℕ → Type 0
  IsOpen n x = (h.block x).lver ≡ n → (h.block x).bal ≡ 0

  pub itself : (e r n : ℕ) → (h.block e).inp ≡ h.writer e → IsOpen n (first r) × IsOpen n (second r) × IsOpen n 0 → ProposesItself h e r n
  itself e r n own p = record { none = λ k. each_host (IsOpen n) k (first r) (second r) (λ e. p.0) (λ e. p.1) p.2; own = own }

  -- phase 1 of an instance above that of the own block
  pub begins : (e : ℕ) → h.host_of (h.block e).mbal ≡ (h.writer e).id
      → (0 < (h.block e).lver) × ((h.block (h.base e)).lver < (h.block e).lver) × ((h.block e).bal ≡ 0) → IsPhase1 h e
  begins e host p = record {
    instance = p.0;
    host = host;
    mbal = λ q. absurd (let above = p.1 in omega arith);
    bal = λ q. absurd (let above = p.1 in omega arith);
    inp = λ q. absurd (let above = p.1 in omega arith);
    anew = λ l. p.2;
  }

  -- phase 2 of step e, with number m in instance n: its phase 1 was answered at step `ack`, and read at step r
  pub accepts : (e ack r n m : ℕ) → IsPhase1 h (h.base e) → IsLastWrite h e → (h.ok (h.base e) ≡ Some ack) × (h.reads r ≡ true)
      → ((k : ℕ) → h.shows r k ≡ true) → ProposesItself h e r n ⊎ ProposesSeen h e r n
      → ((h.block e).lver ≡ n) × ((h.block (h.base e)).lver ≡ n) × ((h.block e).mbal ≡ m) × ((h.block (h.base e)).mbal ≡ m) × ((h.block e).bal ≡ m)
      × (ack ≤ r) × (h.answer r ≤ e)
      → Lets n m (first r) × Lets n m (second r) × Lets n m 0 → IsPhase2 h e
  accepts e ack r n m one last is whole value p lets = record {
    last = last;
    one = one;
    lver = p.0 ∙ sym p.1;
    mbal = p.2 ∙ sym p.3;
    bal = p.4 ∙ sym p.2;
    ack = ack;
    acked = is.0;
    read = r;
    reads = is.1;
    after = p.5;
    before = p.6;
    clean = subst (λ (x : ℕ). IsClean h r x (h.block e).mbal) (sym p.0) (subst (λ (x : ℕ). IsClean h r n x) (sym p.2) (clean r n m whole lets));
    value = subst (λ (x : ℕ). ProposesItself h e r x ⊎ ProposesSeen h e r x) (sym p.0) value;
  }

  -- the ballot of phase 2 of step e ended with v: phase 2 was answered at step `ack`, and read at step r
  pub ended : (e ack r n m t : ℕ) (s v : Owner) → IsPhase2 h e
      → (h.writes e ≡ true) × (h.writer e ≡ s) × ((h.block e).inp ≡ v) × (h.ok e ≡ Some ack) × (h.reads r ≡ true) → ((k : ℕ) → h.shows r k ≡ true)
      → ((h.block e).lver ≡ n) × ((h.block e).mbal ≡ m) × (ack ≤ r) × (h.answer r ≤ t)
      → Lets n m (first r) × Lets n m (second r) × Lets n m 0 → BallotEnded h s n v t
  ended e ack r n m t s v two is whole p lets = record {
    write = e;
    writes = is.0;
    writer = is.1;
    two = two;
    lver = p.0;
    value = is.2;
    ack = ack;
    acked = is.3;
    read = r;
    reads = is.4;
    after = p.2;
    answer = p.3;
    clean = subst (λ (x : ℕ). IsClean h r n x) (sym p.1) (clean r n m whole lets);
  }

  -- ---- marks

  -- a read shows no mark
  pub unmarked : (r : ℕ) → ((h.block (first r)).shared ≡ false) × ((h.block (second r)).shared ≡ false) × ((h.block 0).shared ≡ false) → (k : ℕ)
      → (h.block (h.shown r k)).shared ≡ true → ⊥
  unmarked r p k =
      each_host (λ x. (h.block x).shared ≡ true → ⊥) k (first r) (second r)
      (λ e is. false_is_true (sym p.0 ∙ is)) (λ e is. false_is_true (sym p.1 ∙ is)) (λ is. false_is_true (sym p.2 ∙ is))

-- ---- sessions that last

pub in_order : (ws : List (Row Write)) (rs : List (Row Read)) (ls : List (Row Leader)) → WritesPass lasting ws rs ls → ReadsPass lasting ws rs ls → SessionsInOrder (made lasting ws rs ls)
in_order ws rs ls w r = record {
  writers = writers lasting ws rs ls w;
  readers = readers lasting ws rs ls r;
  once = λ s u j p q id. owner_same s u id ((joins_is s j p).0 ∙ sym (joins_is u j q).0);
  final = λ s t u over l. absurd (false_is_true over);
  silent = λ s t e over. absurd (false_is_true over);
  settled = λ s t e a over. absurd (false_is_true over);
}

pub earlier_over : (ws : List (Row Write)) (rs : List (Row Read)) (ls : List (Row Leader)) → EarlierAreOver (made lasting ws rs ls)
earlier_over ws rs ls s u i j p q id l = let a = joins_is s i p in let b = joins_is u j q in absurd (omega arith)
