-- What two grants of one history say of each other.
--
-- Of two exclusive grants that stand each bounds the instance of the other, since no block of a greater instance than its own is
-- submitted: so the instances are one, and the one winner of it holds both. The rest is the argument over ballots for grants of which
-- there is one of each mode.
use Rattle.sl_ballot_law.proofs.AgreementLaws.{one_winner}
use Rattle.sl_ballot_law.proofs.HoldingLaws.{active_is_open, marks_first, marks_stay, none_shares}
use Rattle.sl_ballot_law.proofs.InstanceLaws.{ended_before}
use Rattle.sl_ballot_law.specs.Ballots.{BallotEnded, IsLawful}
use Rattle.sl_ballot_law.specs.History.{History, Owner}
use Rattle.sl_ballot_law.specs.Instances.{KeepsInstances}
use Rattle.sl_ballot_law.proofs.Grantings.TwoGrants.{alone_granted, are_granted, grants_of, kept_active, no_exclusive, no_shared, shared_alone, shared_stands}
use Rattle.sl_ballot_law.specs.Grantings.Holdings.{ExclusiveGrant, IsGrantedExclusive, IsKept}
use Rattle.sl_ballot_law.specs.Grantings.GrantPromises.{KeptIsOpen, MarksCome, MarksLast, NoneSharesBeside, OneIsKept}
use Rattle.std.proofs.Common.{arith, subst}
use Rattle.std.specs.Prelude.{false, true, ℕ, ◌≡◌, ◌≤◌}

pub kept_is_open : KeptIsOpen
kept_is_open h i q a is t kept =
    active_is_open h i q (grants_of true a false no_shared t) (alone_granted h i.sessions a t is) a.step t (kept_active h a false no_shared t kept)

-- A ballot that ended by a step bounds its instance by that of each grant that stands.
bounded : (h : History) → IsLawful h → KeepsInstances h → (a : ExclusiveGrant) → IsGrantedExclusive h a → (t : ℕ) → IsKept h a t
    → (n : ℕ) (s v : Owner) (u : ℕ) → BallotEnded h s n v u → u ≤ t → n ≤ a.instance
bounded h i q a is t kept n s v u b until =
    let early = ended_before h i.register n s v u b in
    let bound = (kept_is_open h i q a is t kept).1 b.write b.writes (omega (arith, early, until)) in
    subst (λ (m : ℕ). m ≤ a.instance) b.lver bound

pub one_is_kept : OneIsKept
one_is_kept h i q a b first second t kept other =
    let up = bounded h i q b second t other a.instance a.holder a.holder a.step first.ballot kept.since in
    let down = bounded h i q a first t kept b.instance b.holder b.holder b.step second.ballot other.since in
    let same : a.instance ≡ b.instance = omega (arith, up, down) in
    (one_winner h i b.instance a.holder b.holder a.step b.step (subst (λ (n : ℕ). BallotEnded h a.holder n a.holder a.step) same first.ballot) second.ballot, same)

pub none_shares_beside : NoneSharesBeside
none_shares_beside h i q a is s t kept shared =
    none_shares h i q (grants_of true a true s t) (are_granted h i.sessions true a true s t (λ p. is) (λ p. shared)) a.step s.step t
    (kept_active h a true s t kept) (shared_stands h true a s t shared)

pub marks_last : MarksLast
marks_last h i s t is e wrote since until =
    marks_stay h i (grants_of false no_exclusive true s t) (shared_alone h i.sessions s t is) s.step t e (shared_stands h false no_exclusive s t is) wrote since until

pub marks_come : MarksCome
marks_come h i q s t is a e acked writes until above =
    marks_first h i q (grants_of false no_exclusive true s t) (shared_alone h i.sessions s t is) s.step t a e (shared_stands h false no_exclusive s t is) acked writes until above
