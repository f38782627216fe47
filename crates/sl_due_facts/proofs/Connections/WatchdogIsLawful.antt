-- The law of the watchdog, of the entry so far: from what is known of connections, of holdings and of the entry's moves.
use Rattle.sl_words.proofs.Numbers.{equal_is_most}
use Rattle.sl_due_facts.specs.Acts.TraceSoFar.{entry_of}
use Rattle.sl_due.specs.Steps.{Step, seen}
use Rattle.sl_due_facts.proofs.Jobs.SessionsArePresent.{session_has}
use Rattle.sl_due_facts.proofs.Jobs.SessionsStand.{no_members}
use Rattle.sl_run.specs.LawfulConnections.{CoveredBy, LawfulWatchdog, acts_until, is_covered}
use Rattle.sl_words.proofs.Lists.{kept_inside}
use Rattle.sl_words.proofs.Options.{some_there}
use Rattle.sl_due_facts.proofs.Connections.SessionParts.{covered_present, joined_and_covered}
use Rattle.sl_due_facts.specs.Connections.ConnectionLaws.{HasConnectionFacts}
use Rattle.sl_trace.specs.Sessions.{holdings_of, is_joined, joined_after, last_renewal, session_numbered, sessions}
use Rattle.sl_trace.specs.declared.session.Session.{Session}
use Rattle.sl_due_facts.specs.Facts.HeardCall.{heard_by}
use Rattle.sl_due_facts.specs.Facts.HoldingFacts.{HoldingFacts}
use Rattle.sl_time.specs.Times.{fail}
use Rattle.sl_trace.specs.WatchdogConnections.{Connection, connection_named, connections, last_registering, registers, unregisters}
use Rattle.sl_trace.specs.Traces.{holdings}
use Rattle.sl_trace.specs.declared.effects.Grant.{Grant}
use Rattle.sl_words.proofs.CaseLaws.{is_false, not_both, one_value, true_is_false}
use Rattle.std.proofs.Common.{ap, refl, subst, sym}
use Rattle.std.proofs.lemmas.Bool.{eqb-true}
use Rattle.std.specs.List.{list_any}
use Rattle.std.specs.Prelude.{Bool, Contains, List, None, Option, Some, [], false, is_some, true, ℕ, ◌+◌, ◌==◌, ◌||◌, ◌∷◌, ◌≡◌, ◌≤◌}
use Rattle.sl_due_facts.specs.Connections.MovedSoFar.{IsClosed, MovedSoFar}
use Rattle.sl_due_facts.proofs.Connections.MovesAltered.{closed_uncovered, closed_unjoined, there_now}

-- A covered session's connection stands, and ends in time.
stands : (x : Step) (s : Session) → HasConnectionFacts x → Contains (sessions x.setting (seen x)) s → is_covered (seen x) s ≡ true → CoveredBy x.setting (seen x) s
stands x s h there covered =
    record {
      connection = found.0;
      registered = found.1;
      in_time = by (joined_after (seen x) s) refl;
    } where
      found : (c : Connection) × (connection_named (connections x.setting (seen x)) s.lockspace ≡ Some c)
      found = some_there (connection_named (connections x.setting (seen x)) s.lockspace) (h.covers s there covered)

      until : (o : Option ℕ) → ℕ
      until o = elim o as (λ z. ℕ) [ Some k ↦ last_renewal x.setting (seen x) s + fail x.setting.timing | None ↦ last_registering (seen x) s.lockspace + fail x.setting.timing ]

      by : (o : Option ℕ) → joined_after (seen x) s ≡ o → found.0.expiry ≤ acts_until x.setting (seen x) s
      by (Some k) joined =
          subst (λ n. found.0.expiry ≤ n) (sym (ap (λ o. until o) joined)) (h.joined s found.0 there (joined_and_covered (seen x) s (ap (λ o. is_some o) joined) covered) found.1)
      by None none =
          subst (λ n. found.0.expiry ≤ n) (sym (ap (λ o. until o) none))
          (equal_is_most found.0.expiry (last_registering (seen x) s.lockspace + fail x.setting.timing) (h.joining s found.0 there (covered_present (seen x) s covered) none found.1))

any_both : {A : Type 0} (p q : A → Bool) (xs : List A) → list_any p xs ≡ false → list_any q xs ≡ false → list_any (λ a. p a || q a) xs ≡ false
any_both p q [] first second = refl
any_both p q (x ∷ xs) first second = by (p x) (q x) (list_any p xs) (list_any q xs) first second (λ a b. any_both p q xs a b) where
  by : (a b c d : Bool) → (a || c) ≡ false → (b || d) ≡ false → (c ≡ false → d ≡ false → list_any (λ z. p z || q z) xs ≡ false) → ((a || b) || list_any (λ z. p z || q z) xs) ≡ false
  by false false c d first second more = more first second
  by true b c d first second more = absurd (true_is_false first)
  by false true c d first second more = absurd (true_is_false second)

pub watchdog_is_lawful : (x : Step) → HasConnectionFacts x → HoldingFacts x.setting (seen x) (heard_by x.input) → MovedSoFar x → LawfulWatchdog x.setting x.past (entry_of x)
watchdog_is_lawful x h holds m =
    record {
      stands = λ s there covered. stands x s h there covered;
      lasting = λ s there before now.
          any_both (registers s.lockspace) (unregisters s.lockspace) x.effects.moves
          (is_false (list_any (registers s.lockspace) x.effects.moves) (λ is. not_both (is_covered x.past s) before (m.opened s there is)))
          (is_false (list_any (unregisters s.lockspace) x.effects.moves) (λ is. closed_uncovered x s (m.closed s there (covered_present x.past s before) is) now));
      removals = λ s there present is.
          let c : IsClosed x s = m.closed s there present is in (nothing_held s (there_now x s there) (closed_unjoined x s c), c.unwritten);
    } where
      nothing_held : (s : Session) → Contains (sessions x.setting (seen x)) s → is_joined (seen x) s ≡ false → holdings_of (seen x) s ≡ []
      nothing_held s there away =
          no_members (holdings_of (seen x) s) (λ g inside.
          let held = kept_inside (λ (k : Grant). k.session == s.number) (holdings (seen x)) g inside in
          let its = holds.owned g held.0 in
          let one : its.0 ≡ s =
          one_value its.0 s (session_numbered x.setting (seen x) s.number) (subst (λ n. session_numbered x.setting (seen x) n ≡ Some its.0) (eqb-true g.session s.number held.1) its.1) (session_has x.setting (seen x) s there)
          in
          not_both (is_joined (seen x) s) (subst (λ (z : Session). is_joined (seen x) z ≡ true) one its.2) away)
