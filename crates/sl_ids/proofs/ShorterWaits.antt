-- Runs in which two sessions are joined at once: where a watch, or the wait before a verify read, is one too short.
use Rattle.sl_ids.proofs.ExampleRuns.{Acts, at, bound, claim_of, each_of, first, first_changes, first_claims, first_renewal, idle, is_new, more, names_differ, new, one_name, pair, pass, renewal_of, second, second_changes, second_claims, second_renewal, terms, then, two_name, unbegun}
use Rattle.sl_ids.proofs.DerivedLaws.{go_on, listed}
use Rattle.sl_ids.specs.Examples.{ShorterWaitFails, ShorterWatchFails}
use Rattle.sl_ids.specs.Interface.{Newer}
use Rattle.sl_ids.specs.Runs.{IsStart, Later, Reached, Starts_free}
use Rattle.sl_ids.specs.State.{Claimed, Content, Free, IsNew, Landing, Session, SessionId}
use Rattle.sl_ids.specs.Steps.{Decides, Renews, Verifies, Was_free, Was_unchanged, after_claim, after_deciding, after_renewal, after_verifying}
use Rattle.sl_ids.specs.Terms.{Terms}
use Rattle.sl_words.proofs.CaseLaws.{false_is_true}
use Rattle.std.proofs.Common.{List, None, Some, ap, arith, false, refl, sym, true, [], ℕ, ◌+◌, ◌<◌, ◌∙◌, ◌∷◌, ◌≡◌}

-- ---- two waits that are one too short: both sessions find the id free at moment 0, and the first one claims it

abbrev vacant : Landing
vacant = record { moment = 0; writer = None; shown = Some (record { host = None; generation = 0; seq = 0; kind = Free }) }

abbrev decided_1 : Session
decided_1 = after_deciding 0 one_name 1 0 new

abbrev landed_1 : Session
landed_1 = after_claim 1 1 decided_1

new_pair : (j : SessionId) → IsNew (pair new new j)
new_pair = each_of IsNew new new is_new is_new is_new

starts_free : IsStart (at 0 (vacant ∷ []) new new)
starts_free = record {
  one = refl;
  before = omega arith;
  content = record { host = None; generation = 0; seq = 0; kind = Free };
  spelled = refl;
  starts = Starts_free refl refl refl new_pair;
}

nobody_begun : (a b : Session) → a.begun ≡ false → b.begun ≡ false → (j : SessionId) → (pair a b j).begun ≡ true → ⊥
nobody_begun a b p q = each_of (λ s. s.begun ≡ true → ⊥) a b (λ e. false_is_true e) (λ e. false_is_true (sym p ∙ e)) (λ e. false_is_true (sym q ∙ e))

first_decided : (watch wait silence : ℕ) → Reached (terms watch wait silence) (at 0 (vacant ∷ []) decided_1 new)
first_decided watch wait silence =
    let r : Terms = terms watch wait silence in
    more r (at 0 (vacant ∷ []) new new) (at 0 (vacant ∷ []) decided_1 new)
    (at 0 (vacant ∷ []) new new, [], starts_free, bound watch wait silence 0 (vacant ∷ []) new new (unbegun 0) (unbegun 0), refl)
    (Decides first (record {
      first = refl;
      not_over = refl;
      last = 0;
      is_last = refl;
      content = record { host = None; generation = 0; seq = 0; kind = Free };
      spelled = refl;
      watched = Was_free refl;
      registered = 0;
      before = omega arith;
      name = one_name;
      alone = λ j apart e p. absurd (nobody_begun new new refl refl j p);
      same = listed.same 0 0 (vacant ∷ []) (pair new new) (pair decided_1 new);
      changes = first_changes 0 (vacant ∷ []) (vacant ∷ []) new new decided_1;
    }))
    (bound watch wait silence 0 (vacant ∷ []) decided_1 new (λ p. omega arith, λ p. absurd (false_is_true p)) (unbegun 0))

-- Its claim; and the session once its verify read has shown it, and once it has renewed and joined.
abbrev claim_1 : Landing
claim_1 = claim_of 0 first decided_1 1

abbrev content_1 : Content
content_1 = record { host = Some one_name; generation = 1; seq = 1; kind = Claimed }

abbrev verified_1 : ℕ → Session
verified_1 now = after_verifying now landed_1

abbrev joined_1 : ℕ → ℕ → Session
joined_1 registered now = after_renewal now (record (verified_1 registered) { seq = 2 })

abbrev renewal_1 : ℕ → ℕ → Landing
renewal_1 registered now = renewal_of now first (verified_1 registered) 2

-- A session that may act.
active : (now : ℕ) (s : Session) → s.pending ≡ false → now < s.renewed + 10 → Acts now s
active now s p l = (λ q. absurd (false_is_true (sym p ∙ q)), λ q o. l)

-- A session that has a claim, and hasn't verified it.
claiming : (now : ℕ) (s : Session) → s.pending ≡ false → s.verified ≡ false → Acts now s
claiming now s p q = idle now s (λ e. false_is_true (sym p ∙ e)) (λ e o. false_is_true (sym q ∙ e))

-- ---- a watch that is one too short: the first session verifies its claim at the last moment, 19, and may act until 28; then the second,
-- which has watched the claim since moment 0, claims

abbrev decided_2 : Session
decided_2 = after_deciding 1 two_name 2 28 new

abbrev landed_2 : Session
landed_2 = after_claim 2 1 decided_2

abbrev claims : List Landing
claims = vacant ∷ claim_1 ∷ claim_of 28 second decided_2 1 ∷ []

abbrev claims_renewed : List Landing
claims_renewed = vacant ∷ claim_1 ∷ claim_of 28 second decided_2 1 ∷ renewal_1 19 28 ∷ []

second_claimed : Reached (terms 27 9 9) (at 28 claims (verified_1 19) landed_2)
second_claimed =
    let r : Terms = terms 27 9 9 in
    let one : List Landing = vacant ∷ claim_1 ∷ [] in
    let r1 = more r (at 0 (vacant ∷ []) decided_1 new) (at 0 one landed_1 new) (first_decided 27 9 9)
    (first_claims r 0 1 (vacant ∷ []) decided_1 new refl) (bound 27 9 9 0 one landed_1 new (claiming 0 landed_1 refl refl) (unbegun 0)) in
    let r2 = more r (at 0 one landed_1 new) (at 19 one landed_1 new) r1
    (pass r 0 19 one landed_1 new (omega arith)) (bound 27 9 9 19 one landed_1 new (claiming 19 landed_1 refl refl) (unbegun 19)) in
    let r3 = more r (at 19 one landed_1 new) (at 19 one (verified_1 19) new) r2
    (Verifies first (record {
      landed = refl;
      not_over = refl;
      last = 1;
      is_last = refl;
      content = content_1;
      spelled = refl;
      own = refl;
      waited = omega arith;
      registered = 19;
      before = omega arith;
      soon = omega arith;
      same = listed.same 19 19 one (pair landed_1 new) (pair (verified_1 19) new);
      changes = first_changes 19 one one landed_1 new (verified_1 19);
    })) (bound 27 9 9 19 one (verified_1 19) new (active 19 (verified_1 19) refl (omega arith)) (unbegun 19)) in
    let r4 = more r (at 19 one (verified_1 19) new) (at 28 one (verified_1 19) new) r3
    (pass r 19 28 one (verified_1 19) new (omega arith)) (bound 27 9 9 28 one (verified_1 19) new (active 28 (verified_1 19) refl (omega arith)) (unbegun 28)) in
    let r5 = more r (at 28 one (verified_1 19) new) (at 28 one (verified_1 19) decided_2) r4
    (Decides second (record {
      first = refl;
      not_over = refl;
      last = 1;
      is_last = refl;
      content = content_1;
      spelled = refl;
      watched = Was_unchanged 1 0 (omega arith) refl (omega arith) (omega arith);
      registered = 28;
      before = omega arith;
      name = two_name;
      alone = λ j apart e p. absurd (alone j e p);
      same = listed.same 28 28 one (pair (verified_1 19) new) (pair (verified_1 19) decided_2);
      changes = second_changes 28 one one (verified_1 19) new decided_2;
    })) (bound 27 9 9 28 one (verified_1 19) decided_2 (active 28 (verified_1 19) refl (omega arith)) (λ p. omega arith, λ p. absurd (false_is_true p))) in
    more r (at 28 one (verified_1 19) decided_2) (at 28 claims (verified_1 19) landed_2) r5
    (second_claims r 28 1 one (verified_1 19) decided_2 refl)
    (bound 27 9 9 28 claims (verified_1 19) landed_2 (active 28 (verified_1 19) refl (omega arith)) (claiming 28 landed_2 refl refl))
  where
    alone : (j : SessionId) → (pair (verified_1 19) new j).name ≡ two_name → (pair (verified_1 19) new j).begun ≡ true → ⊥
    alone = each_of (λ s. s.name ≡ two_name → s.begun ≡ true → ⊥) (verified_1 19) new (λ e p. false_is_true p) (λ e p. names_differ e) (λ e p. false_is_true p)

first_joins : Later (terms 27 9 9) (at 28 claims (verified_1 19) landed_2) (at 28 claims_renewed (joined_1 19 28) landed_2)
first_joins =
    let r : Terms = terms 27 9 9 in
    let renewing_1 : Session = record (verified_1 19) { seq = 2 } in
    let l1 = go_on.step r (at 28 claims (verified_1 19) landed_2) (at 28 claims_renewed renewing_1 landed_2)
    (first_renewal r 28 2 claims (verified_1 19) landed_2 refl refl (omega arith))
    (bound 27 9 9 28 claims_renewed renewing_1 landed_2 (active 28 renewing_1 refl (omega arith)) (claiming 28 landed_2 refl refl)) in
    then r (at 28 claims (verified_1 19) landed_2) (at 28 claims_renewed renewing_1 landed_2) (at 28 claims_renewed (joined_1 19 28) landed_2) l1
    (Renews first (record {
      verified = refl;
      not_over = refl;
      index = 3;
      above = omega arith;
      within = omega arith;
      submitted = 28;
      before = omega arith;
      same = listed.same 28 28 claims_renewed (pair renewing_1 landed_2) (pair (joined_1 19 28) landed_2);
      changes = first_changes 28 claims_renewed claims_renewed renewing_1 landed_2 (joined_1 19 28);
    })) (bound 27 9 9 28 claims_renewed (joined_1 19 28) landed_2 (active 28 (joined_1 19 28) refl (omega arith)) (claiming 28 landed_2 refl refl))

pub shorter_watch : ShorterWatchFails
shorter_watch = record {
  terms = terms 27 9 9;
  some = omega arith;
  watch = refl;
  wait = omega arith;
  silence = omega arith;
  fails = record {
    state = at 28 claims (verified_1 19) landed_2;
    later = at 28 claims_renewed (joined_1 19 28) landed_2;
    reached = second_claimed;
    generation = 1;
    evidence = Newer 2 (record { host = Some two_name; generation = 2; seq = 1; kind = Claimed }) refl refl (omega arith);
    goes_on = first_joins;
    alive = first;
    joined = refl;
    its = refl;
    not_over = refl;
  };
}

-- ---- a wait before the verify read that is one too short: the second session decides beside the first one. Its claim lands at moment 9,
-- over the record of the first, which has joined and may act until 18; then the second verifies and joins

abbrev pending_2 : Session
pending_2 = after_deciding 0 two_name 1 0 new

abbrev waiting_2 : Session
waiting_2 = after_claim 3 1 pending_2

abbrev verified_2 : Session
verified_2 = after_verifying 18 waiting_2

abbrev renewing_2 : Session
renewing_2 = record verified_2 { seq = 2 }

abbrev joined_2 : Session
joined_2 = after_renewal 18 renewing_2

abbrev first_claim : List Landing
first_claim = vacant ∷ claim_1 ∷ []

abbrev first_renewed : List Landing
first_renewed = vacant ∷ claim_1 ∷ renewal_1 9 9 ∷ []

abbrev both_claims : List Landing
both_claims = vacant ∷ claim_1 ∷ renewal_1 9 9 ∷ claim_of 9 second pending_2 1 ∷ []

abbrev both_renewed : List Landing
both_renewed = vacant ∷ claim_1 ∷ renewal_1 9 9 ∷ claim_of 9 second pending_2 1 ∷ renewal_of 18 second verified_2 2 ∷ []

abbrev hasty : Terms
hasty = terms 28 8 9

-- Both have decided, and the claim of the first has landed.
both_decided : Reached hasty (at 0 first_claim landed_1 pending_2)
both_decided =
    let one : List Landing = vacant ∷ [] in
    let r1 = more hasty (at 0 one decided_1 new) (at 0 one decided_1 pending_2) (first_decided 28 8 9)
    (Decides second (record {
      first = refl;
      not_over = refl;
      last = 0;
      is_last = refl;
      content = record { host = None; generation = 0; seq = 0; kind = Free };
      spelled = refl;
      watched = Was_free refl;
      registered = 0;
      before = omega arith;
      name = two_name;
      alone = λ j apart e p. absurd (alone j e p);
      same = listed.same 0 0 one (pair decided_1 new) (pair decided_1 pending_2);
      changes = second_changes 0 one one decided_1 new pending_2;
    })) (bound 28 8 9 0 one decided_1 pending_2 (λ p. omega arith, λ p. absurd (false_is_true p)) (λ p. omega arith, λ p. absurd (false_is_true p))) in
    more hasty (at 0 one decided_1 pending_2) (at 0 first_claim landed_1 pending_2) r1
    (first_claims hasty 0 1 one decided_1 pending_2 refl)
    (bound 28 8 9 0 first_claim landed_1 pending_2 (claiming 0 landed_1 refl refl) (λ p. omega arith, λ p. absurd (false_is_true p)))
  where
    alone : (j : SessionId) → (pair decided_1 new j).name ≡ two_name → (pair decided_1 new j).begun ≡ true → ⊥
    alone = each_of (λ s. s.name ≡ two_name → s.begun ≡ true → ⊥) decided_1 new (λ e p. false_is_true p) (λ e p. names_differ e) (λ e p. false_is_true p)

-- The first verifies at moment 9, renews and joins; the claim of the second is still pending.
first_joined : Reached hasty (at 9 first_renewed (joined_1 9 9) pending_2)
first_joined =
    let renewing_1 : Session = record (verified_1 9) { seq = 2 } in
    let waits : Acts 9 pending_2 = (λ p. omega arith, λ p. absurd (false_is_true p)) in
    let r1 = more hasty (at 0 first_claim landed_1 pending_2) (at 9 first_claim landed_1 pending_2) both_decided
    (pass hasty 0 9 first_claim landed_1 pending_2 (omega arith)) (bound 28 8 9 9 first_claim landed_1 pending_2 (claiming 9 landed_1 refl refl) waits) in
    let r2 = more hasty (at 9 first_claim landed_1 pending_2) (at 9 first_claim (verified_1 9) pending_2) r1
    (Verifies first (record {
      landed = refl;
      not_over = refl;
      last = 1;
      is_last = refl;
      content = content_1;
      spelled = refl;
      own = refl;
      waited = omega arith;
      registered = 9;
      before = omega arith;
      soon = omega arith;
      same = listed.same 9 9 first_claim (pair landed_1 pending_2) (pair (verified_1 9) pending_2);
      changes = first_changes 9 first_claim first_claim landed_1 pending_2 (verified_1 9);
    })) (bound 28 8 9 9 first_claim (verified_1 9) pending_2 (active 9 (verified_1 9) refl (omega arith)) waits) in
    let r3 = more hasty (at 9 first_claim (verified_1 9) pending_2) (at 9 first_renewed renewing_1 pending_2) r2
    (first_renewal hasty 9 2 first_claim (verified_1 9) pending_2 refl refl (omega arith))
    (bound 28 8 9 9 first_renewed renewing_1 pending_2 (active 9 renewing_1 refl (omega arith)) waits) in
    more hasty (at 9 first_renewed renewing_1 pending_2) (at 9 first_renewed (joined_1 9 9) pending_2) r3
    (Renews first (record {
      verified = refl;
      not_over = refl;
      index = 2;
      above = omega arith;
      within = omega arith;
      submitted = 9;
      before = omega arith;
      same = listed.same 9 9 first_renewed (pair renewing_1 pending_2) (pair (joined_1 9 9) pending_2);
      changes = first_changes 9 first_renewed first_renewed renewing_1 pending_2 (joined_1 9 9);
    })) (bound 28 8 9 9 first_renewed (joined_1 9 9) pending_2 (active 9 (joined_1 9 9) refl (omega arith)) waits)

-- .. and lands, and is verified at moment 18.
both_joined : Reached hasty (at 18 both_renewed (joined_1 9 9) joined_2)
both_joined =
    let one : Session = joined_1 9 9 in
    let acts : (now : ℕ) → now < 19 → Acts now one = λ now l. active now one refl l in
    let r1 = more hasty (at 9 first_renewed one pending_2) (at 9 both_claims one waiting_2) first_joined
    (second_claims hasty 9 1 first_renewed one pending_2 refl)
    (bound 28 8 9 9 both_claims one waiting_2 (acts 9 (omega arith)) (claiming 9 waiting_2 refl refl)) in
    let r2 = more hasty (at 9 both_claims one waiting_2) (at 18 both_claims one waiting_2) r1
    (pass hasty 9 18 both_claims one waiting_2 (omega arith)) (bound 28 8 9 18 both_claims one waiting_2 (acts 18 (omega arith)) (claiming 18 waiting_2 refl refl)) in
    let r3 = more hasty (at 18 both_claims one waiting_2) (at 18 both_claims one verified_2) r2
    (Verifies second (record {
      landed = refl;
      not_over = refl;
      last = 3;
      is_last = refl;
      content = record { host = Some two_name; generation = 1; seq = 1; kind = Claimed };
      spelled = refl;
      own = refl;
      waited = omega arith;
      registered = 18;
      before = omega arith;
      soon = omega arith;
      same = listed.same 18 18 both_claims (pair one waiting_2) (pair one verified_2);
      changes = second_changes 18 both_claims both_claims one waiting_2 verified_2;
    })) (bound 28 8 9 18 both_claims one verified_2 (acts 18 (omega arith)) (active 18 verified_2 refl (omega arith))) in
    let r4 = more hasty (at 18 both_claims one verified_2) (at 18 both_renewed one renewing_2) r3
    (second_renewal hasty 18 2 both_claims one verified_2 refl refl (omega arith))
    (bound 28 8 9 18 both_renewed one renewing_2 (acts 18 (omega arith)) (active 18 renewing_2 refl (omega arith))) in
    more hasty (at 18 both_renewed one renewing_2) (at 18 both_renewed one joined_2) r4
    (Renews second (record {
      verified = refl;
      not_over = refl;
      index = 4;
      above = omega arith;
      within = omega arith;
      submitted = 18;
      before = omega arith;
      same = listed.same 18 18 both_renewed (pair one renewing_2) (pair one joined_2);
      changes = second_changes 18 both_renewed both_renewed one renewing_2 joined_2;
    })) (bound 28 8 9 18 both_renewed one joined_2 (acts 18 (omega arith)) (active 18 joined_2 refl (omega arith)))

pub shorter_wait : ShorterWaitFails
shorter_wait = record {
  terms = hasty;
  some = omega arith;
  watch = omega arith;
  wait = refl;
  silence = omega arith;
  state = at 18 both_renewed (joined_1 9 9) joined_2;
  reached = both_joined;
  one = first;
  other = second;
  apart = λ e. (let m = machines first second e in absurd (omega arith));
  one_joined = refl;
  other_joined = refl;
  one_alive = refl;
  other_alive = refl;
}
  where
    machines : (i j : SessionId) → i ≡ j → i.machine ≡ j.machine
    machines i j e = ap (λ (x : SessionId). x.machine) e
