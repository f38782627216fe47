-- Two grants as the grants of their resource: one exclusive, one shared, and none else.
--
-- The argument over ballots speaks of all grants by their steps. Of a grant alone it needs that the grant is among them, so a record
-- that has just these two will do. Whether a holding stands is not asked there, so none does; a shared grant stands up to the step
-- of which something is to be said, since who is over stays so.
use Rattle.sl_ballot_law.specs.Grants.{ExclusiveGranted, Grants, IsActive, IsGranted, SharedGranted}
use Rattle.sl_ballot_law.specs.History.{History, Owner}
use Rattle.sl_ballot_law.specs.Sessions.{SessionsInOrder}
use Rattle.sl_ballot_law.specs.Grantings.Holdings.{ExclusiveGrant, IsGrantedExclusive, IsKept, IsSharedTo, SharedGrant}
use Rattle.sl_words.proofs.CaseLaws.{false_is_true, one_value}
use Rattle.sl_words.proofs.WordLaws.{and_true}
use Rattle.std.proofs.Common.{arith, refl, subst, sym}
use Rattle.std.proofs.lemmas.Bool.{and_from, eq-eqb, eqb-true, le-leb, leb-true}
use Rattle.std.specs.Prelude.{Bool, false, nat_le, true, ℕ, ◌&&◌, ◌==◌, ◌≡◌, ◌≤◌}

-- The exclusive grant where p says so, and the shared one, up to step t, where q does.
abbrev pub grants_of : Bool → ExclusiveGrant → Bool → SharedGrant → ℕ → Grants
grants_of p a q s t =
    record {
      exclusive = λ g. p && g == a.step;
      holder = λ g. a.holder;
      instance = λ g. a.instance;
      look = λ g. a.look;
      holds = λ g u. false;
      shared = λ g. q && g == s.step;
      sharer = λ g. s.holder;
      won = λ g. s.won;
      mark = λ g. s.mark;
      shares = λ g u. (q && g == s.step) && (nat_le s.step u && nat_le u t);
    }

exclusive_granted : (h : History) (p : Bool) (a : ExclusiveGrant) (q : Bool) (s : SharedGrant) (t : ℕ) → IsGrantedExclusive h a
    → ExclusiveGranted h (grants_of p a q s t) a.step
exclusive_granted h p a q s t is =
    record { ballot = is.ballot; reads = is.reads; answer = is.answer; whole = is.whole; alone = is.alone; unfreed = is.unfreed }

shared_granted : (h : History) (p : Bool) (a : ExclusiveGrant) (q : Bool) (s : SharedGrant) (t : ℕ) → IsSharedTo h s t
    → SharedGranted h (grants_of p a q s t) s.step
shared_granted h p a q s t is =
    record {
      ballot = is.ballot;
      writes = is.writes;
      writer = is.writer;
      ack = is.ack;
      acked = is.acked;
      mode = λ u e stands since until.
          let both = and_true (nat_le s.step u) (nat_le u t) (and_true (q && s.step == s.step) (nat_le s.step u && nat_le u t) stands).1 in
          let end = leb-true u t both.1 in
          is.mode e since (omega (arith, end, until));
    }

-- The step of a grant that is one of these.
step_is : (p : Bool) (g n : ℕ) → (p && g == n) ≡ true → (p ≡ true) × (g ≡ n)
step_is p g n is = let both = and_true p (g == n) is in (both.0, eqb-true g n both.1)

-- They are granted as the argument asks.
pub are_granted : (h : History) → SessionsInOrder h → (p : Bool) (a : ExclusiveGrant) (q : Bool) (s : SharedGrant) (t : ℕ)
    → (p ≡ true → IsGrantedExclusive h a) → (q ≡ true → IsSharedTo h s t) → IsGranted h (grants_of p a q s t)
are_granted h order p a q s t first second =
    record {
      rules = record {
        exclusive = λ g is. let at = step_is p g a.step is in
            subst (λ (n : ℕ). ExclusiveGranted h (grants_of p a q s t) n) (sym at.1) (exclusive_granted h p a q s t (first at.0));
        shared = λ g is. let at = step_is q g s.step is in
            subst (λ (n : ℕ). SharedGranted h (grants_of p a q s t) n) (sym at.1) (shared_granted h p a q s t (second at.0));
        holds = λ g u is. absurd (false_is_true is);
        whole = λ g u v is since until. is;
        shares = λ g u is.
            let parts = and_true (q && g == s.step) (nat_le s.step u && nat_le u t) is in
            let both = and_true (nat_le s.step u) (nat_le u t) parts.1 in
            let at = step_is q g s.step parts.0 in
            let from = leb-true s.step u both.0 in
            (parts.0, subst (λ (n : ℕ). n ≤ u) (sym at.1) from, λ over. (second at.0).alive (order.final s.holder u t over (leb-true u t both.1)));
        unheld = λ l g leads free owner lver is. false_is_true is;
      };
      looks = λ g is. (first (step_is p g a.step is).0).begun;
      marks = λ g l n is leads owner lver free acked.
          let on = second (step_is q g s.step is).0 in
          subst (λ (m : ℕ). m ≤ l) (one_value on.ack n (h.ok s.mark) on.acked acked) (on.freed l leads owner lver free);
    }

-- Where the exclusive one is kept it is active.
pub kept_active : (h : History) (a : ExclusiveGrant) (q : Bool) (s : SharedGrant) (t : ℕ) → IsKept h a t → IsActive h (grants_of true a q s t) a.step t
kept_active h a q s t is = record { granted = eq-eqb a.step a.step refl; since = is.since; alive = is.alive; kept = is.unfreed }

-- The shared one stands at the step that is spoken of.
pub shared_stands : (h : History) (p : Bool) (a : ExclusiveGrant) (s : SharedGrant) (t : ℕ) → IsSharedTo h s t
    → (grants_of p a true s t).shares s.step t ≡ true
shared_stands h p a s t is =
    and_from (s.step == s.step) (nat_le s.step t && nat_le t t) (eq-eqb s.step s.step refl)
    (and_from (nat_le s.step t) (nat_le t t) (le-leb s.step t is.since) (le-leb t t (omega arith)))

-- Stand-ins, where there is but one grant.
abbrev nobody : Owner
nobody = record { id = 0; generation = 0 }

abbrev pub no_exclusive : ExclusiveGrant
no_exclusive = record { step = 0; holder = nobody; instance = 0; look = 0 }

abbrev pub no_shared : SharedGrant
no_shared = record { step = 0; holder = nobody; won = 0; mark = 0 }

-- An exclusive grant alone.
pub alone_granted : (h : History) → SessionsInOrder h → (a : ExclusiveGrant) (t : ℕ) → IsGrantedExclusive h a
    → IsGranted h (grants_of true a false no_shared t)
alone_granted h order a t is = are_granted h order true a false no_shared t (λ p. is) (λ q. absurd (false_is_true q))

-- A shared grant alone.
pub shared_alone : (h : History) → SessionsInOrder h → (s : SharedGrant) (t : ℕ) → IsSharedTo h s t
    → IsGranted h (grants_of false no_exclusive true s t)
shared_alone h order s t is = are_granted h order false no_exclusive true s t (λ p. absurd (false_is_true p)) (λ q. is)
