-- What is proved of each lawful history. Steps are quantified: so each sentence holds at every moment of a run.
use Rattle.sl_ballot_law.specs.Ballots.{BallotEnded, IsLawful, IsPhase1, IsPhase2}
use Rattle.sl_ballot_law.specs.Disk.{Wrote}
use Rattle.sl_ballot_law.specs.Grants.{Grants, IsActive, IsGranted}
use Rattle.sl_ballot_law.specs.History.{Block, History, Owner}
use Rattle.sl_ballot_law.specs.Instances.{IsClosed, KeepsInstances}
use Rattle.std.specs.Prelude.{Some, true, ℕ, ◌<◌, ◌≡◌, ◌≤◌, ◌⊎◌}

-- ---- blocks and numbers

-- The order of a host's blocks: a later instance, or the same with no number less.
pub record IsBelow (a b : Block) : Type 0 where
  pub lver : a.lver ≤ b.lver
  pub mbal : a.lver ≡ b.lver → a.mbal ≤ b.mbal
  pub bal : a.lver ≡ b.lver → a.bal ≤ b.bal

-- Of two blocks of a host, of which the first is of the same session or was answered ok, the later one is not below. (A block of an
-- earlier session that was not answered may be lost, and its number used again.)
abbrev pub BlocksGrow : Type 0
BlocksGrow = (h : History) → IsLawful h → (k d e : ℕ) → Wrote h k d → Wrote h k e → d < e
    → (h.writer d ≡ h.writer e) ⊎ ((a : ℕ) × (h.ok d ≡ Some a)) → IsBelow (h.block d) (h.block e)

-- A number of an instance names one ballot: after a phase 1 that was answered ok none has its number, and at most one phase 2 has it.
abbrev pub NumbersNameBallots : Type 0
NumbersNameBallots = (h : History) → IsLawful h → (d e : ℕ) → h.writes d ≡ true → h.writes e ≡ true → (h.block d).lver ≡ (h.block e).lver
    → (h.block d).mbal ≡ (h.block e).mbal
    → (IsPhase1 h d → IsPhase1 h e → (a : ℕ) → h.ok d ≡ Some a → d < e → ⊥) × (IsPhase2 h d → IsPhase2 h e → d ≡ e)

-- The block of step e accepted what the phase 2 of a ballot proposed, which was submitted by then.
pub record IsFromBallot (h : History) (e : ℕ) : Type 0 where
  pub write : ℕ
  pub writes : h.writes write ≡ true
  pub two : IsPhase2 h write
  pub by_then : write ≤ e
  pub lver : (h.block write).lver ≡ (h.block e).lver
  pub mbal : (h.block write).mbal ≡ (h.block e).bal
  pub inp : (h.block write).inp ≡ (h.block e).inp

-- An accepted value is that of its ballot.
abbrev pub ValuesAreOfBallots : Type 0
ValuesAreOfBallots = (h : History) → IsLawful h → (e : ℕ) → h.writes e ≡ true → 0 < (h.block e).bal → IsFromBallot h e

-- ---- agreement

-- Once a ballot has ended, each ballot of the instance with a greater number proposes its value, whether it comes earlier or later.
abbrev pub BallotsFollow : Type 0
BallotsFollow = (h : History) → IsLawful h → (n : ℕ) (s v : Owner) (t : ℕ) (b : BallotEnded h s n v t) (e : ℕ) → h.writes e ≡ true
    → IsPhase2 h e
    → (h.block e).lver ≡ n → (h.block b.write).mbal < (h.block e).mbal → (h.block e).inp ≡ v

-- All ballots of an instance that end, end with one session.
abbrev pub Agreement : Type 0
Agreement = (h : History) → IsLawful h → (n : ℕ) (s u v w : Owner) (t x : ℕ) → BallotEnded h s n v t → BallotEnded h u n w x → v ≡ w

-- So at most one session ends a ballot of an instance with itself.
abbrev pub OneWinner : Type 0
OneWinner = (h : History) → IsLawful h → (n : ℕ) (s u : Owner) (t x : ℕ) → BallotEnded h s n s t → BallotEnded h u n u x → s ≡ u

-- ---- instances

-- A leader names the session with which the ballots of its instance end.
abbrev pub LeadersAreWinners : Type 0
LeadersAreWinners = (h : History) → IsLawful h → KeepsInstances h → (l : ℕ) → h.leads l ≡ true → (s v : Owner) (t : ℕ)
    → BallotEnded h s (h.leader l).lver v t → v ≡ (h.leader l).owner

-- Instances close in order: where a block of an instance was submitted, each instance below it is closed.
abbrev pub InstancesClose : Type 0
InstancesClose = (h : History) → IsLawful h → KeepsInstances h → (e : ℕ) → h.writes e ≡ true → (k : ℕ) → k < (h.block e).lver
    → IsClosed h k e

-- ---- exclusive holdings

-- An exclusive holding is an exclusive grant that stands.
abbrev pub HoldingsAreActive : Type 0
HoldingsAreActive = (h : History) (x : Grants) → IsGranted h x → (g t : ℕ) → x.holds g t ≡ true → IsActive h x g t

-- While an exclusive grant stands its instance is open, and no block of a greater one is submitted.
abbrev pub ActiveIsOpen : Type 0
ActiveIsOpen = (h : History) → IsLawful h → KeepsInstances h → (x : Grants) → IsGranted h x → (g t : ℕ) → IsActive h x g t
    → (IsClosed h (x.instance g) t → ⊥) × ((e : ℕ) → h.writes e ≡ true → e ≤ t → (h.block e).lver ≤ x.instance g)

-- Exclusive grants that stand at one step are of one session and one instance.
abbrev pub OneExclusive : Type 0
OneExclusive = (h : History) → IsLawful h → KeepsInstances h → (x : Grants) → IsGranted h x → (f g t : ℕ) → IsActive h x f t
    → IsActive h x g t
    → (x.holder f ≡ x.holder g) × (x.instance f ≡ x.instance g)

-- ---- shared holdings

-- The block of step e is a mark of session s: it is the session's, and tells that it holds shared.
pub record IsMark (h : History) (s : Owner) (e : ℕ) : Type 0 where
  pub writes : h.writes e ≡ true
  pub writer : h.writer e ≡ s
  pub shared : (h.block e).shared ≡ true
  pub generation : (h.block e).mode_gen ≡ s.generation

-- Where a session holds shared, no block of an instance above the one that it won was submitted before its mark was answered.
abbrev pub MarksComeFirst : Type 0
MarksComeFirst = (h : History) → IsLawful h → KeepsInstances h → (x : Grants) → IsGranted h x → (g t a e : ℕ) → x.shares g t ≡ true
    → h.ok (x.mark g) ≡ Some a → h.writes e ≡ true → e ≤ t → x.won g < (h.block e).lver → a < e

-- From the mark on each block of its host is a mark of it.
abbrev pub MarksStay : Type 0
MarksStay = (h : History) → IsLawful h → (x : Grants) → IsGranted h x → (g t e : ℕ) → x.shares g t ≡ true
    → Wrote h (x.sharer g).id e → x.mark g ≤ e → e ≤ t → IsMark h (x.sharer g) e

-- So each read that is submitted after the mark was answered shows of its host a mark of it, or a torn block.
abbrev pub MarksAreShown : Type 0
MarksAreShown = (h : History) → IsLawful h → (x : Grants) → IsGranted h x → (g t a r : ℕ) → x.shares g t ≡ true
    → h.ok (x.mark g) ≡ Some a → h.reads r ≡ true → a ≤ r → h.answer r ≤ t → h.shows r (x.sharer g).id ≡ true
    → IsMark h (x.sharer g) (h.shown r (x.sharer g).id)

-- ---- no conflict

-- Where an exclusive grant stands, no other session holds shared.
abbrev pub NoneShares : Type 0
NoneShares = (h : History) → IsLawful h → KeepsInstances h → (x : Grants) → IsGranted h x → (f g t : ℕ) → IsActive h x f t
    → x.shares g t ≡ true
    → x.holder f ≡ x.sharer g

-- Of two holdings that stand at one step, one of them exclusive, both are of one session.
abbrev pub NoConflict : Type 0
NoConflict = (h : History) → IsLawful h → KeepsInstances h → (x : Grants) → IsGranted h x → (f g t : ℕ) → x.holds f t ≡ true
    → (x.holds g t ≡ true → x.holder f ≡ x.holder g) × (x.shares g t ≡ true → x.holder f ≡ x.sharer g)
