-- What lands, or is answered ok, is the newest write, and a read of the current session finds nothing of it in flight.
use Rattle.sl_ballot_law.proofs.PairLogs.Sessions.{current_joins, writers_low}
use Rattle.sl_ballot_law.specs.PairLogs.Logs.{At_first, IsLog, Left, Log, Look, LookShows, NoLanding, SectorAt, current_session, left_by}
use Rattle.sl_ballot_law.specs.PairLogs.Stands.{HasComeBy, IsLeft, Stands}
use Rattle.sl_ballot_law.specs.Pairs.State.{State, Stored, current, later}
use Rattle.sl_words.proofs.CaseLaws.{one_value, true_or_false}
use Rattle.sl_words.proofs.OrderLaws.{less_or_same}
use Rattle.std.proofs.Common.{ap, arith, inl, inr, subst, sym, ◌∙◌}
use Rattle.std.proofs.lemmas.Bool.{cases_lt}
use Rattle.std.specs.Prelude.{Bool, Option, Some, false, suc, true, ℕ, ◌<◌, ◌≡◌, ◌≤◌, ◌⊎◌}

-- ---- a write behind which another came

-- It was answered, or a later session has joined.
abbrev pub IsBehind : Log → ℕ → ℕ → Type 0
IsBehind g t e = HasComeBy (g.answered e) t ⊎ IsLeft g t e

low_by : (a b c : ℕ) → a ≤ b → b ≤ c → a ≤ c
low_by a b c h k = omega (arith, h, k)

nothing_below : (a b : ℕ) → a < b → b ≡ 0 → ⊥
nothing_below a b h e = omega (arith, h, e)

behind_by : (g : Log) → IsLog g → (t e n : ℕ) → g.writes e ≡ true → g.writes n ≡ true → n ≤ t
    → ((g.session e ≡ g.session n) × ((a : ℕ) × (g.answered e ≡ Some a) × (a ≤ n))) ⊎ (g.session e < g.session n) → IsBehind g t e
behind_by g i t e n is other low (inl same) = inl (same.1.0, same.1.1, low_by same.1.0 n t same.1.2 low)
behind_by g i t e n is other low (inr less) = by (i.joined n other)
  where
    by : (g.session n ≡ 0) ⊎ (g.joins (g.session n) ≡ true) → IsBehind g t e
    by (inl none) = absurd (nothing_below (g.session e) (g.session n) less none)
    by (inr joins) = inr (record { join = g.session n; joins = joins; later = less; by = low_by (g.session n) n t (i.after_join n other) low })

pub behind : (g : Log) → IsLog g → (t e n : ℕ) → g.writes e ≡ true → g.writes n ≡ true → e < n → n ≤ t → IsBehind g t e
behind g i t e n is other less low = behind_by g i t e n is other low (i.follows e n is other less)

no_order : (a b c : ℕ) → a < b → b ≤ c → c < a → ⊥
no_order a b c h k l = omega (arith, h, k, l)

no_order_up : (a b c : ℕ) → a ≤ b → b ≤ c → c < a → ⊥
no_order_up a b c h k l = omega (arith, h, k, l)

-- It lands no more, and is no more answered ok.
pub behind_lands : (g : Log) → IsLog g → (t e s : ℕ) → g.writes e ≡ true → IsBehind g t e → g.landed e ≡ Some s → t < s → ⊥
behind_lands g i t e s is (inl answered) landed late = no_order s answered.0 t (i.lands_before e s answered.0 is landed answered.1) answered.2 late
behind_lands g i t e s is (inr left) landed late = no_order s left.join t (i.gone e left.join s is left.joins left.later landed) left.by late

pub behind_oks : (g : Log) → IsLog g → (t e a : ℕ) → g.writes e ≡ true → IsBehind g t e → g.done e ≡ true → g.answered e ≡ Some a → t < a → ⊥
behind_oks g i t e a is (inl answered) done at late = no_order_up a a t (omega arith) (subst (λ (k : ℕ). k ≤ t) (one_value answered.0 a (g.answered e) answered.1 at) answered.2) late
behind_oks g i t e a is (inr left) done at late = no_order_up a left.join t (i.settled e left.join a is left.joins left.later done at) left.by late

-- ---- the newest write

pub newest_or_behind : (g : Log) → IsLog g → (a t : ℕ) (w : State) → Stands g a t w → (e : ℕ) → g.writes e ≡ true → e ≤ t → (e ≡ w.last) ⊎ IsBehind g t e
newest_or_behind g i a t w j e is low = by (less_or_same e w.last (j.newest e is low)) j.is_write
  where
    by : (e < w.last) ⊎ (e ≡ w.last) → (w.last ≡ 0) ⊎ (g.writes w.last ≡ true) → (e ≡ w.last) ⊎ IsBehind g t e
    by (inr same) write = inl same
    by (inl less) (inl none) = absurd (nothing_below e w.last less none)
    by (inl less) (inr other) = inr (behind g i t e w.last is other less j.low)

before_next : (e t : ℕ) → e < suc t → e ≤ t
before_next e t h = omega (arith, h)

next_later : (t : ℕ) → t < suc t
next_later t = omega arith

up_next : (a t n : ℕ) → a ≤ t → n ≡ suc t → a < n
up_next a t n h e = omega (arith, h, e)

-- What lands next is the newest, and in flight.
pub lands_newest : (g : Log) → IsLog g → (t : ℕ) (w : State) → Stands g t t w → (e : ℕ) → g.writes e ≡ true → g.landed e ≡ Some (suc t) → (e ≡ w.last) × (w.flying ≡ true)
lands_newest g i t w j e is landed = by (newest_or_behind g i t t w j e is (before_next e t (i.lands_later e (suc t) is landed))) (true_or_false w.flying)
  where
    out : HasComeBy (g.landed w.last) t ⊎ IsBehind g t w.last → e ≡ w.last → ⊥
    out (inl come) same =
        no_order_up (suc t) come.0 t
        (subst (λ (k : ℕ). k ≤ come.0) (one_value come.0 (suc t) (g.landed w.last) come.1 (subst (λ (k : ℕ). g.landed k ≡ Some (suc t)) same landed)) (omega arith))
        come.2 (next_later t)
    out (inr before) same = behind_lands g i t e (suc t) is (subst (λ (k : ℕ). IsBehind g t k) (sym same) before) landed (next_later t)

    by : (e ≡ w.last) ⊎ IsBehind g t e → (w.flying ≡ true) ⊎ (w.flying ≡ false) → (e ≡ w.last) × (w.flying ≡ true)
    by (inr before) flying = absurd (behind_lands g i t e (suc t) is before landed (next_later t))
    by (inl same) (inl flying) = (same, flying)
    by (inl same) (inr still) = absurd (out (j.unflying still (subst (λ (k : ℕ). g.writes k ≡ true) same is)) same)

-- What is answered ok next is the newest; it is waited for, and has landed.
pub record IsOked (g : Log) (w : State) (e : ℕ) : Type 0 where
  pub same : e ≡ w.last
  pub waits : w.waits ≡ true
  pub landed : w.landed ≡ true
  pub still : w.flying ≡ false

landed_by : (s t : ℕ) → s < suc t → s ≤ t
landed_by s t h = omega (arith, h)

pub oks_newest : (g : Log) → IsLog g → (t : ℕ) (w : State) → Stands g t t w → (e : ℕ) → g.writes e ≡ true → g.done e ≡ true → g.answered e ≡ Some (suc t) → IsOked g w e
oks_newest g i t w j e is done at = by (newest_or_behind g i t t w j e is (before_next e t (i.answers_later e (suc t) is at)))
  where
    it : e ≡ w.last → (w.waits ≡ true) ⊎ (w.waits ≡ false) → (w.flying ≡ true) ⊎ (w.flying ≡ false) → IsOked g w e
    it same (inr none) flying =
        absurd (behind_oks g i t e (suc t) is (subst (λ (k : ℕ). IsBehind g t k) (sym same) (j.unwaiting none (subst (λ (k : ℕ). g.writes k ≡ true) same is))) done at (next_later t))
    it same (inl waits) flying =
        let ended = i.done_landed e (suc t) is done at in
        let come : HasComeBy (g.landed e) t = (ended.0.0, ended.0.1, landed_by ended.0.0 t (i.lands_before e ended.0.0 (suc t) is ended.0.1 at)) in
        let here : HasComeBy (g.landed w.last) t = subst (λ (k : ℕ). HasComeBy (g.landed k) t) same come in
        let write : g.writes w.last ≡ true = subst (λ (k : ℕ). g.writes k ≡ true) same is in
        elim flying [
          | inl flies ↦ absurd ((j.flying flies).unlanded here.0 here.1 here.2)
          | inr still ↦ record {
            same = same;
            waits = waits;
            landed = j.landed write here (subst (λ (k : ℕ). g.whole k ≡ true) same ended.1);
            still = still;
          }
        ]

    by : (e ≡ w.last) ⊎ IsBehind g t e → IsOked g w e
    by (inr before) = absurd (behind_oks g i t e (suc t) is before done at (next_later t))
    by (inl same) = it same (true_or_false w.waits) (true_or_false w.flying)

-- ---- sectors

-- One write lands at a step.
pub one_landing : (g : Log) → IsLog g → (e n s : ℕ) → g.writes e ≡ true → g.writes n ≡ true → g.landed e ≡ Some s → g.landed n ≡ Some s → e < n → ⊥
one_landing g i e n s is other landed there less =
    behind_lands g i n e s is (behind g i n e n is other less (omega arith)) landed (i.lands_later n s other there)

one_write : (g : Log) → IsLog g → (e n s : ℕ) → g.writes e ≡ true → g.writes n ≡ true → g.landed e ≡ Some s → g.landed n ≡ Some s → e ≡ n
one_write g i e n s is other landed there = by (cases_lt e n)
  where
    by : (e < n) ⊎ (n ≤ e) → e ≡ n
    by (inl less) = absurd (one_landing g i e n s is other landed there less)
    by (inr more) = elim (less_or_same n e more) [
      | inl less ↦ absurd (one_landing g i n e s other is there landed less)
      | inr same ↦ sym same
    ]

some_step : (e s : ℕ) → e < s → 0 < s
some_step e s h = omega (arith, h)

-- What a sector spells after a step is one thing.
pub one_sector : (g : Log) → IsLog g → (first : Bool) (t : ℕ) (o p : Option Stored) → SectorAt g first t o → SectorAt g first t p → o ≡ p
one_sector g i first t o p (At_first none is) (At_first other same) = is ∙ sym same
one_sector g i first t o p (At_first none is) (Left e s write landed low newest same) = absurd (none e s write landed (some_step e s (i.lands_later e s write.is landed)) low)
one_sector g i first t o p (Left e s write landed low newest same) (At_first none is) = absurd (none e s write landed (some_step e s (i.lands_later e s write.is landed)) low)
one_sector g i first t o p (Left e s write landed low newest same) (Left f u writes there below last is) = by (cases_lt s u)
  where
    by : (s < u) ⊎ (u ≤ s) → o ≡ p
    by (inl less) = absurd (newest f u writes there less below)
    by (inr more) = elim (less_or_same u s more) [
      | inl less ↦ absurd (last e s write landed less low)
      | inr equal ↦ same ∙ ap (left_by g) (one_write g i e f s write.is writes.is landed (subst (λ (k : ℕ). g.landed f ≡ Some k) equal there)) ∙ sym is
    ]

-- It stays while nothing lands there.
pub stays_there : (g : Log) (first : Bool) (a t : ℕ) (o : Option Stored) → a ≤ t → NoLanding g first a t → SectorAt g first a o → SectorAt g first t o
stays_there g first a t o up none (At_first before is) = At_first (λ e u write landed late low. elim (cases_lt a u) [ inl less ↦ none e u write landed less low | inr more ↦ before e u write landed late more ]) is
stays_there g first a t o up none (Left e s write landed low newest is) =
    Left e s write landed (low_by s a t low up)
    (λ f u writes there late below. elim (cases_lt a u) [ inl less ↦ none f u writes there less below | inr more ↦ newest f u writes there late more ]) is

-- ---- a read of the current session

-- While it reads, nothing of the pair lands.
still_by : (g : Log) → IsLog g → (t : ℕ) (k : Look) → g.looks (current_session g t) (suc t) ≡ Some k → (e u : ℕ) → g.writes e ≡ true → g.landed e ≡ Some u
    → k.begun < u → u ≤ t → (g.session e < current_session g t) ⊎ (current_session g t ≤ g.session e) → ⊥
still_by g i t k look e u is landed late low (inl less) = by (current_joins g t)
  where
    by : (current_session g t ≡ 0) ⊎ (g.joins (current_session g t) ≡ true) → ⊥
    by (inl none) = nothing_below (g.session e) (current_session g t) less none
    by (inr joins) =
        no_order u (current_session g t) k.begun (i.gone e (current_session g t) u is joins less landed) (i.looks_after (current_session g t) (suc t) k look) late
still_by g i t k look e u is landed late low (inr more) = by (less_or_same (current_session g t) (g.session e) more)
  where
    own : ((a : ℕ) × (g.answered e ≡ Some a) × (a ≤ k.begun)) ⊎ (suc t ≤ e) → ⊥
    own (inl old) = no_order u old.0 k.begun (i.lands_before e u old.0 is landed old.1) old.2 late
    own (inr new) = let after : e < u = i.lands_later e u is landed in omega (arith, after, new, low)

    by : (current_session g t < g.session e) ⊎ (current_session g t ≡ g.session e) → ⊥
    by (inr same) = own (i.quiet (current_session g t) (suc t) k look e is (sym same))
    by (inl less) =
        let most : g.session e ≤ current_session g t = writers_low g i t e is (let after : e < u = i.lands_later e u is landed in omega (arith, after, low)) in
        omega (arith, less, most)

pub look_still : (g : Log) → IsLog g → (t : ℕ) (k : Look) → g.looks (current_session g t) (suc t) ≡ Some k → (first : Bool) (s : ℕ) → k.begun ≤ s → NoLanding g first s t
look_still g i t k look first s since e u write landed late low =
    still_by g i t k look e u write.is landed (let l : k.begun < u = omega (arith, since, late) in l) low (cases_lt (g.session e) (current_session g t))

-- Nothing of it is waited for, or in flight, when it is answered, and it is shown what stands.
pub record IsLookedAt (g : Log) (t : ℕ) (w : State) (k : Look) : Type 0 where
  pub unwaiting : w.waits ≡ false
  pub still : w.flying ≡ false
  pub block : Stored
  pub stands : current w ≡ Some block
  pub turn : block.turn ≡ k.turn

unanswered_look : (g : Log) → IsLog g → (t last : ℕ) (k : Look) → g.looks (current_session g t) (suc t) ≡ Some k → g.writes last ≡ true
    → g.session last ≡ current_session g t → last ≤ t
    → ((u : ℕ) → g.answered last ≡ Some u → u ≤ t → ⊥) → ⊥
unanswered_look g i t last k look is mine low never = by (i.quiet (current_session g t) (suc t) k look last is mine)
  where
    by : ((a : ℕ) × (g.answered last ≡ Some a) × (a ≤ k.begun)) ⊎ (suc t ≤ last) → ⊥
    by (inl old) = let s = i.sampled (current_session g t) (suc t) k look in never old.0 old.1 (omega (arith, old.2, s.0, s.1))
    by (inr new) = omega (arith, new, low)

pub looked_at : (g : Log) → IsLog g → (t : ℕ) (w : State) → Stands g t t w → (k : Look) → g.looks (current_session g t) (suc t) ≡ Some k → IsLookedAt g t w k
looked_at g i t w j k look =
    let s = i.sampled (current_session g t) (suc t) k look in
    let x : LookShows g k = i.shows (current_session g t) (suc t) k look in
    let front : x.front ≡ w.front =
    one_sector g i true t x.front w.front
    (stays_there g true k.first t x.front (omega (arith, s.1)) (look_still g i t k look true k.first (omega (arith, s.0))) x.first) j.front in
    let back : x.back ≡ w.back =
    one_sector g i false t x.back w.back
    (stays_there g false k.second t x.back (omega (arith, s.3)) (look_still g i t k look false k.second (omega (arith, s.2))) x.second) j.back in
    record {
      unwaiting = elim (true_or_false w.waits) [
        | inr none ↦ none
        | inl waits ↦ let f = j.waiting waits in absurd (unanswered_look g i t w.last k look f.is f.mine j.low f.unanswered)
      ];
      still = elim (true_or_false w.flying) [
        | inr none ↦ none
        | inl flying ↦ let f = j.flying flying in absurd (unanswered_look g i t w.last k look f.is f.mine j.low f.unanswered)
      ];
      block = x.block;
      stands = ap (λ (o : Option Stored). later o w.back) (sym front) ∙ ap (λ (o : Option Stored). later x.front o) (sym back) ∙ x.is;
      turn = x.turn;
    }
