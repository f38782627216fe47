-- What an act that is of one session, its calls, its job and its name, leaves of what is known of connections.
use Rattle.sl_due_facts.proofs.Jobs.SessionsArePresent.{joined_present}
use Rattle.sl_run.specs.LawfulConnections.{is_covered}
use Rattle.sl_due_facts.proofs.Connections.ConnectionsNamed.{connected}
use Rattle.sl_due_facts.proofs.Connections.SessionParts.{SameSession, covered_present, same_covered, same_is_joined, same_present}
use Rattle.sl_trace.specs.Sessions.{calls_of, is_joined, is_present, joined_after, last_renewal, sessions}
use Rattle.sl_trace.specs.declared.session.Session.{Session}
use Rattle.sl_due_facts.specs.Facts.HeardCall.{IsOpen}
use Rattle.sl_due_facts.specs.Facts.SessionFacts.{ConnectionFacts, IsHeardWriter}
use Rattle.sl_time.specs.Times.{fail}
use Rattle.sl_trace.specs.WatchdogConnections.{Connection, is_registered, last_registering}
use Rattle.sl_trace.specs.Traces.{Setting, Submitted, Trace, is_write}
use Rattle.sl_words.proofs.CaseLaws.{none_some, not_both}
use Rattle.std.proofs.Common.{ap, inl, inr, refl, subst, sym, ◌∙◌}
use Rattle.std.proofs.lemmas.Slice.Eq.{bytes_eq-Decides}
use Rattle.std.specs.Prelude.{Bool, Contains, List, None, Option, Some, bytes_eq, false, is_some, true, ℕ, ◌+◌, ◌≡◌, ◌≤◌, ◌⊎◌}

-- ---- nothing changes but what nobody asks

-- The newer trace is as the older one in all that connections are asked for.
pub record SameConnections (st : Setting) (t u : Trace) (heard : Option ℕ) : Type 0 where
  pub all : sessions st u ≡ sessions st t
  pub each : (z : Session) → Contains (sessions st t) z → SameSession t u z
  pub named : (n : List ℕ) → connected st u n ≡ connected st t n
  pub renewed : (z : Session) → last_renewal st u z ≡ last_renewal st t z
  pub registered : (n : List ℕ) → last_registering u n ≡ last_registering t n
  pub opens : (m : Submitted) → IsOpen u heard m → IsOpen t heard m

pub same_connections : (st : Setting) (t u : Trace) (heard : Option ℕ) → SameConnections st t u heard → ConnectionFacts st t heard → ConnectionFacts st u heard
same_connections st t u heard a h =
    record {
      covers = λ s there is. ap (λ o. is_some o) (a.named s.lockspace) ∙ h.covers s (old s there) (sym (same_covered t u s (at s there)) ∙ is);
      needed = λ name is. needed name (h.needed name (sym (ap (λ o. is_some o) (a.named name)) ∙ is));
      joined = λ s c there is its. subst (λ n. c.expiry ≤ n + fail st.timing) (sym (a.renewed s)) (h.joined s c (old s there) (sym (same_is_joined t u s (at s there)) ∙ is) (sym (a.named s.lockspace) ∙ its));
      joining = λ s c there is none its.
          subst (λ n. c.expiry ≡ n + fail st.timing) (sym (a.registered s.lockspace))
          (h.joining s c (old s there) (sym (same_present t u s (at s there)) ∙ is) (sym (at s there).joined ∙ none) (sym (a.named s.lockspace) ∙ its));
      writers = λ s z m there none inside writes opens also is same.
          h.writers s z m (old s there) (sym (at s there).joined ∙ none) (subst (λ ms. Contains ms m) (at s there).calls inside) writes (a.opens m opens) (old z also) (sym (same_present t u z (at z also)) ∙ is) same;
    } where
      old : (s : Session) → Contains (sessions st u) s → Contains (sessions st t) s
      old s there = subst (λ ss. Contains ss s) a.all there

      at : (s : Session) → Contains (sessions st u) s → SameSession t u s
      at s there = a.each s (old s there)

      still : (s : Session) → Contains (sessions st t) s → (is_covered t s ≡ true) ⊎ IsHeardWriter t heard s → (is_covered u s ≡ true) ⊎ IsHeardWriter u heard s
      still s there (inl is) = inl (same_covered t u s (a.each s there) ∙ is)
      still s there (inr w) = inr ((a.each s there).joined ∙ w.0, (w.1.0, subst (λ ms. Contains ms w.1.0) (sym (a.each s there).calls) w.1.1, w.1.2, w.1.3))

      needed : (name : List ℕ) → (s : Session) × Contains (sessions st t) s × (s.lockspace ≡ name) × ((is_covered t s ≡ true) ⊎ IsHeardWriter t heard s)
          → (s : Session) × Contains (sessions st u) s × (s.lockspace ≡ name) × ((is_covered u s ≡ true) ⊎ IsHeardWriter u heard s)
      needed name n = (n.0, subst (λ ss. Contains ss n.0) (sym a.all) n.1, n.2, still n.0 n.1 n.3)

-- ---- one session changes, and the connection of its name

pub record Alters (st : Setting) (t u : Trace) (heard : Option ℕ) (s : Session) : Type 0 where
  pub all : sessions st u ≡ sessions st t
  -- sessions of other names are as they were
  pub other : (z : Session) → Contains (sessions st t) z → bytes_eq z.lockspace s.lockspace ≡ false → SameSession t u z
  pub less : (z : Session) → Contains (sessions st t) z → is_present u z ≡ true → is_present t z ≡ true
  pub unjoined : (z : Session) → joined_after u z ≡ None → joined_after t z ≡ None
  pub named : (n : List ℕ) → bytes_eq n s.lockspace ≡ false → connected st u n ≡ connected st t n
  pub renewed : (z : Session) → last_renewal st u z ≡ last_renewal st t z
  pub registered : (n : List ℕ) → bytes_eq n s.lockspace ≡ false → last_registering u n ≡ last_registering t n
  pub writes : (z : Session) (m : Submitted) → Contains (sessions st t) z → Contains (calls_of u z) m → is_write m.call.op ≡ true → IsOpen u heard m → (Contains (calls_of t z) m × IsOpen t heard m) ⊎ (z ≡ s)

-- No other session of its name is present.
abbrev pub IsAlone : Setting → Trace → Session → Type 0
IsAlone st t s = (z : Session) → Contains (sessions st t) z → is_present t z ≡ true → z.lockspace ≡ s.lockspace → z ≡ s

-- What is to be shown of the session itself.
pub record OwnConnection (st : Setting) (u : Trace) (heard : Option ℕ) (s : Session) : Type 0 where
  pub covers : is_covered u s ≡ true → is_some (connected st u s.lockspace) ≡ true
  pub needed : is_some (connected st u s.lockspace) ≡ true → (is_covered u s ≡ true) ⊎ IsHeardWriter u heard s
  pub joined : (c : Connection) → is_joined u s ≡ true → connected st u s.lockspace ≡ Some c → c.expiry ≤ last_renewal st u s + fail st.timing
  pub joining : (c : Connection) → is_present u s ≡ true → joined_after u s ≡ None → connected st u s.lockspace ≡ Some c → c.expiry ≡ last_registering u s.lockspace + fail st.timing

pub altered : (st : Setting) (t u : Trace) (heard : Option ℕ) (s : Session) → Contains (sessions st t) s → Alters st t u heard s → IsAlone st t s → OwnConnection st u heard s → ConnectionFacts st t heard → ConnectionFacts st u heard
altered st t u heard s mine a alone own h =
    record {
      covers = λ z there is. covers z (old z there) is (bytes_eq z.lockspace s.lockspace) refl;
      needed = λ name is. needed name is (bytes_eq name s.lockspace) refl;
      joined = λ z c there is its. joined z c (old z there) is its (bytes_eq z.lockspace s.lockspace) refl;
      joining = λ z c there is none its. joining z c (old z there) is none its (bytes_eq z.lockspace s.lockspace) refl;
      writers = λ z w m there none inside writes opens also is same. writers z w m (old z there) none inside writes (old w also) is same (a.writes z m (old z there) inside writes opens);
    } where
      old : (z : Session) → Contains (sessions st u) z → Contains (sessions st t) z
      old z there = subst (λ ss. Contains ss z) a.all there

      own_name : (z : Session) → Contains (sessions st t) z → is_present u z ≡ true → bytes_eq z.lockspace s.lockspace ≡ true → z ≡ s
      own_name z there is same = alone z there (a.less z there is) ((bytes_eq-Decides z.lockspace s.lockspace).0 same)

      covers : (z : Session) → Contains (sessions st t) z → is_covered u z ≡ true → (b : Bool) → bytes_eq z.lockspace s.lockspace ≡ b → is_registered st u z.lockspace ≡ true
      covers z there is false other = ap (λ o. is_some o) (a.named z.lockspace other) ∙ h.covers z there (sym (same_covered t u z (a.other z there other)) ∙ is)
      covers z there is true same =
          let one : z ≡ s = own_name z there (covered_present u z is) same in
          subst (λ (y : Session). is_some (connected st u y.lockspace) ≡ true) (sym one) (own.covers (subst (λ y. is_covered u y ≡ true) one is))

      still : (z : Session) → SameSession t u z → (is_covered t z ≡ true) ⊎ IsHeardWriter t heard z → (is_covered u z ≡ true) ⊎ IsHeardWriter u heard z
      still z k (inl is) = inl (same_covered t u z k ∙ is)
      still z k (inr w) = inr (k.joined ∙ w.0, (w.1.0, subst (λ ms. Contains ms w.1.0) (sym k.calls) w.1.1, w.1.2, w.1.3))

      needed : (name : List ℕ) → is_registered st u name ≡ true → (b : Bool) → bytes_eq name s.lockspace ≡ b
          → (z : Session) × Contains (sessions st u) z × (z.lockspace ≡ name) × ((is_covered u z ≡ true) ⊎ IsHeardWriter u heard z)
      needed name is false other =
          let n = h.needed name (sym (ap (λ o. is_some o) (a.named name other)) ∙ is) in
          (n.0, subst (λ ss. Contains ss n.0) (sym a.all) n.1, n.2, still n.0 (a.other n.0 n.1 (ap (λ m. bytes_eq m s.lockspace) n.2 ∙ other)) n.3)
      needed name is true same =
          let eq : name ≡ s.lockspace = (bytes_eq-Decides name s.lockspace).0 same in
          (s, subst (λ ss. Contains ss s) (sym a.all) mine, sym eq, own.needed (subst (λ n. is_some (connected st u n) ≡ true) eq is))

      joined : (z : Session) (c : Connection) → Contains (sessions st t) z → is_joined u z ≡ true → connected st u z.lockspace ≡ Some c → (b : Bool) → bytes_eq z.lockspace s.lockspace ≡ b → c.expiry ≤ last_renewal st u z + fail st.timing
      joined z c there is its false other =
          subst (λ n. c.expiry ≤ n + fail st.timing) (sym (a.renewed z)) (h.joined z c there (sym (same_is_joined t u z (a.other z there other)) ∙ is) (sym (a.named z.lockspace other) ∙ its))
      joined z c there is its true same =
          let one : z ≡ s = own_name z there (joined_present u z is) same in
          subst (λ (y : Session). c.expiry ≤ last_renewal st u y + fail st.timing) (sym one) (own.joined c (subst (λ y. is_joined u y ≡ true) one is) (subst (λ (y : Session). connected st u y.lockspace ≡ Some c) one its))

      joining : (z : Session) (c : Connection) → Contains (sessions st t) z → is_present u z ≡ true → joined_after u z ≡ None → connected st u z.lockspace ≡ Some c → (b : Bool) → bytes_eq z.lockspace s.lockspace ≡ b
          → c.expiry ≡ last_registering u z.lockspace + fail st.timing
      joining z c there is none its false other =
          let k = a.other z there other in
          subst (λ n. c.expiry ≡ n + fail st.timing) (sym (a.registered z.lockspace other)) (h.joining z c there (sym (same_present t u z k) ∙ is) (sym k.joined ∙ none) (sym (a.named z.lockspace other) ∙ its))
      joining z c there is none its true same =
          let one : z ≡ s = own_name z there is same in
          subst (λ (y : Session). c.expiry ≡ last_registering u y.lockspace + fail st.timing) (sym one)
          (own.joining c (subst (λ y. is_present u y ≡ true) one is) (subst (λ y. joined_after u y ≡ None) one none) (subst (λ (y : Session). connected st u y.lockspace ≡ Some c) one its))

      writers : (z w : Session) (m : Submitted) → Contains (sessions st t) z → joined_after u z ≡ None → Contains (calls_of u z) m → is_write m.call.op ≡ true → Contains (sessions st t) w → is_present u w ≡ true → w.lockspace ≡ z.lockspace
          → (Contains (calls_of t z) m × IsOpen t heard m) ⊎ (z ≡ s) → w ≡ z
      writers z w m there none inside writes also is same (inl before) = h.writers z w m there (a.unjoined z none) before.0 writes before.1 also (a.less w also is) same
      writers z w m there none inside writes also is same (inr one) = alone w also (a.less w also is) (same ∙ ap (λ (y : Session). y.lockspace) one) ∙ sym one

-- The connection is gone, and the session covered no more.
pub altered_away : (st : Setting) (t u : Trace) (heard : Option ℕ) (s : Session) → Contains (sessions st t) s → Alters st t u heard s → IsAlone st t s → connected st u s.lockspace ≡ None → is_covered u s ≡ false → ConnectionFacts st t heard
    → ConnectionFacts st u heard
altered_away st t u heard s mine a alone none uncovered h =
    altered st t u heard s mine a alone
    (record {
      covers = λ is. absurd (not_both (is_covered u s) is uncovered);
      needed = λ is. absurd (not_both (is_some (connected st u s.lockspace)) is (ap (λ o. is_some o) none));
      joined = λ c is its. absurd (none_some c (sym none ∙ its));
      joining = λ c is unjoined its. absurd (none_some c (sym none ∙ its));
    }) h

-- The connection is as it was, and so is whether the session is covered; it joins nothing.
pub altered_still : (st : Setting) (t u : Trace) (heard : Option ℕ) (s : Session) → Contains (sessions st t) s → Alters st t u heard s → IsAlone st t s → connected st u s.lockspace ≡ connected st t s.lockspace
    → last_registering u s.lockspace ≡ last_registering t s.lockspace → is_covered u s ≡ is_covered t s → (is_covered u s ≡ true) ⊎ (heard ≡ None) → (is_joined u s ≡ true → is_joined t s ≡ true) → ConnectionFacts st t heard
    → ConnectionFacts st u heard
altered_still st t u heard s mine a alone same registered cover needs joins h =
    altered st t u heard s mine a alone
    (record {
      covers = λ is. ap (λ o. is_some o) same ∙ h.covers s mine (sym cover ∙ is);
      needed = λ is. by needs (h.needed s.lockspace (sym (ap (λ o. is_some o) same) ∙ is));
      joined = λ c is its. subst (λ n. c.expiry ≤ n + fail st.timing) (sym (a.renewed s)) (h.joined s c mine (joins is) (sym same ∙ its));
      joining = λ c is none its. subst (λ n. c.expiry ≡ n + fail st.timing) (sym registered) (h.joining s c mine (a.less s mine is) (a.unjoined s none) (sym same ∙ its));
    }) h
  where
    either : (z : Session) → Contains (sessions st t) z → z.lockspace ≡ s.lockspace → heard ≡ None → (is_covered t z ≡ true) ⊎ IsHeardWriter t heard z → (is_covered u s ≡ true) ⊎ IsHeardWriter u heard s
    either z there name quiet (inl is) =
        let one : z ≡ s = alone z there (covered_present t z is) name in inl (cover ∙ subst (λ y. is_covered t y ≡ true) one is)
    either z there name quiet (inr w) = absurd (none_some w.1.0.call.number (sym quiet ∙ w.1.3))

    by : (is_covered u s ≡ true) ⊎ (heard ≡ None) → (z : Session) × Contains (sessions st t) z × (z.lockspace ≡ s.lockspace) × ((is_covered t z ≡ true) ⊎ IsHeardWriter t heard z) → (is_covered u s ≡ true) ⊎ IsHeardWriter u heard s
    by (inl is) n = inl is
    by (inr quiet) n = either n.0 n.1 n.2 quiet n.3
