-- What two grants of one resource say of each other.
use Rattle.sl_ballot_law.specs.Ballots.{IsLawful}
use Rattle.sl_ballot_law.specs.Disk.{Wrote}
use Rattle.sl_ballot_law.specs.History.{History}
use Rattle.sl_ballot_law.specs.Instances.{IsClosed, KeepsInstances}
use Rattle.sl_ballot_law.specs.Theorems.{IsMark}
use Rattle.sl_ballot_law.specs.Grantings.Holdings.{ExclusiveGrant, IsGrantedExclusive, IsKept, IsSharedTo, SharedGrant}
use Rattle.std.specs.Prelude.{Some, true, ℕ, ◌<◌, ◌≡◌, ◌≤◌}

-- Exclusive grants that stand at one step are of one session and one instance.
abbrev pub OneIsKept : Type 0
OneIsKept = (h : History) → IsLawful h → KeepsInstances h → (a b : ExclusiveGrant) → IsGrantedExclusive h a → IsGrantedExclusive h b → (t : ℕ)
    → IsKept h a t → IsKept h b t → (a.holder ≡ b.holder) × (a.instance ≡ b.instance)

-- Beside an exclusive grant that stands no other session holds shared.
abbrev pub NoneSharesBeside : Type 0
NoneSharesBeside = (h : History) → IsLawful h → KeepsInstances h → (a : ExclusiveGrant) → IsGrantedExclusive h a → (s : SharedGrant) → (t : ℕ)
    → IsKept h a t → IsSharedTo h s t → a.holder ≡ s.holder

-- While an exclusive grant stands its instance is open, and no block of a greater one is submitted.
abbrev pub KeptIsOpen : Type 0
KeptIsOpen = (h : History) → IsLawful h → KeepsInstances h → (a : ExclusiveGrant) → IsGrantedExclusive h a → (t : ℕ) → IsKept h a t
    → (IsClosed h a.instance t → ⊥) × ((e : ℕ) → h.writes e ≡ true → e ≤ t → (h.block e).lver ≤ a.instance)

-- From the mark of a shared holder on each block of its host is a mark of it.
abbrev pub MarksLast : Type 0
MarksLast = (h : History) → IsLawful h → (s : SharedGrant) (t : ℕ) → IsSharedTo h s t → (e : ℕ) → Wrote h s.holder.id e → s.mark ≤ e → e ≤ t
    → IsMark h s.holder e

-- No block of an instance above the one that it won was submitted before its mark was answered.
abbrev pub MarksCome : Type 0
MarksCome = (h : History) → IsLawful h → KeepsInstances h → (s : SharedGrant) (t : ℕ) → IsSharedTo h s t → (a e : ℕ) → h.ok s.mark ≡ Some a
    → h.writes e ≡ true → e ≤ t → s.won < (h.block e).lver → a < e
