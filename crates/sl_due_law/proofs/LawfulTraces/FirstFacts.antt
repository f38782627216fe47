-- Before the first entry all facts hold: there are the given sessions, with their connections, and nothing else.
use Rattle.sl_due_law.specs.LawfulTraces.TraceLaws.{FactsAtFirst}
use Rattle.sl_due_facts.proofs.Jobs.SessionsArePresent.{present_is}
use Rattle.sl_run.specs.Lawful.{IsSetting}
use Rattle.sl_run.specs.LawfulConnections.{is_covered}
use Rattle.sl_due_leases.proofs.Ways.NumbersFollow.{numbers_follow}
use Rattle.sl_words.proofs.Lists.{contains_cases, contains_first, contains_map, contains_more, contains_none, find_fails, find_inside, in_map}
use Rattle.sl_words.proofs.Options.{some_there}
use Rattle.sl_trace.specs.Sessions.{generation_of, given_session, is_joined, joined_after, last_renewal, last_seq, recovery_of, sessions}
use Rattle.sl_trace.specs.declared.session.Session.{Session}
use Rattle.sl_due_facts.specs.Facts.GrantGrounds.{GrantGrounds, IsDoneWork}
use Rattle.sl_due_facts.specs.Facts.SessionFacts.{ConnectionFacts, DeltaFacts, IsHeardWriter, NameFacts}
use Rattle.sl_due_facts.specs.Facts.WayFacts.{WayFacts}
use Rattle.sl_time.specs.Times.{fail}
use Rattle.sl_trace.specs.WatchdogConnections.{Connection, connection_named, connections, given_connection, is_registered}
use Rattle.sl_trace.specs.Traces.{Setting, Submitted, Trace}
use Rattle.sl_trace.specs.declared.command.Command.{Command}
use Rattle.sl_trace.specs.declared.effects.LeaseStep.{LeaseStep}
use Rattle.sl_trace.specs.declared.effects.LeaseStep.TheVariants.{FreeLeader, SetMode, TakeLeader}
use Rattle.sl_trace.specs.declared.input.Given.{Given}
use Rattle.sl_words.proofs.CaseLaws.{false_is_true, none_some, not_both, true_is_false}
use Rattle.sl_words.proofs.WordLaws.{and_true}
use Rattle.sl_words.specs.Bounds.{is_number}
use Rattle.std.proofs.Common.{ap, arith, inl, inr, refl, subst, sym, ◌∙◌}
use Rattle.std.proofs.lemmas.Slice.Eq.{bytes_eq-Decides}
use Rattle.std.specs.List.{enumerate_from}
use Rattle.std.specs.Prelude.{AllPairs, Contains, IsFalse, IsTrue, List, None, Option, Some, [], bytes_eq, false, is_some, length, map, suc, true, ℕ, ◌+◌, ◌<◌, ◌∷◌, ◌≡◌, ◌≤◌, ◌⊎◌}

-- ---- given sessions have different names

abbrev Different : List Given → Type 0
Different gs = AllPairs (λ a b. IsFalse (bytes_eq a.lockspace b.lockspace)) gs

head_different : (g : Given) (gs : List Given) → Different (g ∷ gs) → (h : Given) → Contains gs h → g.lockspace ≡ h.lockspace → ⊥
head_different g gs d h there same =
    let other : bytes_eq g.lockspace h.lockspace ≡ false = subst (λ z. bytes_eq g.lockspace z.lockspace ≡ false) there.2 (d 0 (suc there.0) h (omega arith) (below there.0 there.1)) in
    not_both (bytes_eq g.lockspace h.lockspace) ((bytes_eq-Decides g.lockspace h.lockspace).1 same) other
  where
    below : (k : ℕ) → k < length gs → suc k < suc (length gs)
    below k less = omega (arith, less)

tail_different : (g : Given) (gs : List Given) → Different (g ∷ gs) → Different gs
tail_different g gs h i j d less within = h (suc i) (suc j) d (omega (arith, less)) (omega (arith, within))

numbered_given : (k : ℕ) (gs : List Given) (p : ℕ × Given) → Contains (enumerate_from k gs) p → Contains gs p.1
numbered_given k [] p there = absurd (contains_none p there)
numbered_given k (g ∷ gs) p there = by (contains_cases (k, g) (enumerate_from (k + 1) gs) p there) (λ old. numbered_given (k + 1) gs p old) where
  by : ((k, g) ≡ p) ⊎ Contains (enumerate_from (k + 1) gs) p → (Contains (enumerate_from (k + 1) gs) p → Contains gs p.1) → Contains (g ∷ gs) p.1
  by (inl is) more = subst (λ (q : ℕ × Given). Contains (g ∷ gs) q.1) is (contains_first g gs)
  by (inr old) more = contains_more g gs p.1 (more old)

given_numbered : (k : ℕ) (gs : List Given) (g : Given) → Contains gs g → (n : ℕ) × Contains (enumerate_from k gs) (n, g)
given_numbered k [] g there = absurd (contains_none g there)
given_numbered k (f ∷ fs) g there = by (contains_cases f fs g there) (λ old. given_numbered (k + 1) fs g old) where
  by : (f ≡ g) ⊎ Contains fs g → (Contains fs g → (n : ℕ) × Contains (enumerate_from (k + 1) fs) (n, g)) → (n : ℕ) × Contains ((k, f) ∷ enumerate_from (k + 1) fs) (n, g)
  by (inl is) more = (k, subst (λ (h : Given). Contains ((k, f) ∷ enumerate_from (k + 1) fs) (k, h)) is (contains_first (k, f) (enumerate_from (k + 1) fs)))
  by (inr old) more = let m = more old in (m.0, contains_more (k, f) (enumerate_from (k + 1) fs) (m.0, g) m.1)

one_name : (k : ℕ) (gs : List Given) → Different gs → (p q : ℕ × Given) → Contains (enumerate_from k gs) p → Contains (enumerate_from k gs) q → p.1.lockspace ≡ q.1.lockspace → p ≡ q
one_name k [] d p q here there same = absurd (contains_none p here)
one_name k (g ∷ gs) d p q here there same =
    by (contains_cases (k, g) (enumerate_from (k + 1) gs) p here) (contains_cases (k, g) (enumerate_from (k + 1) gs) q there) (λ a b. one_name (k + 1) gs (tail_different g gs d) p q a b same) where
      by : ((k, g) ≡ p) ⊎ Contains (enumerate_from (k + 1) gs) p → ((k, g) ≡ q) ⊎ Contains (enumerate_from (k + 1) gs) q → (Contains (enumerate_from (k + 1) gs) p → Contains (enumerate_from (k + 1) gs) q → p ≡ q) → p ≡ q
      by (inl a) (inl b) more = sym a ∙ b
      by (inr a) (inr b) more = more a b
      by (inl a) (inr b) more = absurd (head_different g gs d q.1 (numbered_given (k + 1) gs q b) (ap (λ (z : ℕ × Given). z.1.lockspace) a ∙ same))
      by (inr a) (inl b) more = absurd (head_different g gs d p.1 (numbered_given (k + 1) gs p a) (ap (λ (z : ℕ × Given). z.1.lockspace) b ∙ sym same))

one_given : (gs : List Given) → Different gs → (a b : Given) → Contains gs a → Contains gs b → a.lockspace ≡ b.lockspace → a ≡ b
one_given gs d a b here there same =
    let p = given_numbered 0 gs a here in
    let q = given_numbered 0 gs b there in ap (λ (z : ℕ × Given). z.1) (one_name 0 gs d (p.0, a) (q.0, b) p.1 q.1 same)

-- ---- a session before the first entry

record FirstSession (st : Setting) (s : Session) : Type 0 where
  place : ℕ × Given
  there : Contains (enumerate_from 0 st.given) place
  is : given_session place ≡ s

first_session : (st : Setting) (s : Session) → Contains (sessions st []) s → FirstSession st s
first_session st s there = let was = in_map given_session (enumerate_from 0 st.given) s there in record { place = was.0; there = was.1; is = was.2 }

no_joiner : {P : Type 0} (st : Setting) (s : Session) (j : ℕ) → Contains (sessions st []) s → s.job ≡ Some j → P
no_joiner st s j there its = let f : FirstSession st s = first_session st s there in absurd (none_some j (ap (λ (z : Session). z.job) f.is ∙ its))

all_joined : (st : Setting) (s : Session) → Contains (sessions st []) s → joined_after [] s ≡ Some 0
all_joined st s there = let f : FirstSession st s = first_session st s there in subst (λ z. joined_after [] z ≡ Some 0) f.is refl

names_first : (st : Setting) → IsSetting st → NameFacts st [] None
names_first st h =
    record {
      apart = λ a b here there same. one a b (present_is st [] a here).0 (present_is st [] b there).0 same;
      begun = λ s j there its. no_joiner st s j there its;
      done = λ s j m a there its runs inside is other. no_joiner st s j there its;
      waits = λ s j m ms there its runs calls is other. no_joiner st s j there its;
    } where
      one : (a b : Session) → Contains (sessions st []) a → Contains (sessions st []) b → a.lockspace ≡ b.lockspace → a ≡ b
      one a b here there same =
          let f : FirstSession st a = first_session st a here in
          let g : FirstSession st b = first_session st b there in
          let p : f.place ≡ g.place = one_name 0 st.given h.different f.place g.place f.there g.there (ap (λ (z : Session). z.lockspace) f.is ∙ (same ∙ sym (ap (λ (z : Session). z.lockspace) g.is))) in
          sym f.is ∙ (ap given_session p ∙ g.is)

-- The connection of a given session.
finds_first : (st : Setting) (g : Given) → Contains st.given g → is_registered st [] g.lockspace ≡ true
finds_first st g there = by (connection_named (map (given_connection st.timing) st.given) g.lockspace) refl where
  by : (o : Option Connection) → connection_named (map (given_connection st.timing) st.given) g.lockspace ≡ o → is_some (connection_named (map (given_connection st.timing) st.given) g.lockspace) ≡ true
  by (Some c) found = ap (λ o. is_some o) found
  by None found =
      absurd (not_both (bytes_eq g.lockspace g.lockspace) ((bytes_eq-Decides g.lockspace g.lockspace).1 refl)
      (find_fails (λ (c : Connection). bytes_eq c.name g.lockspace) (map (given_connection st.timing) st.given) (given_connection st.timing g) found (contains_map (given_connection st.timing) st.given g there)))

connections_first : (st : Setting) → IsSetting st → ConnectionFacts st [] None
connections_first st h =
    record {
      covers = λ s there covered.
          let f : FirstSession st s = first_session st s there in
          subst (λ z. is_registered st [] z.lockspace ≡ true) f.is (finds_first st f.place.1 (numbered_given 0 st.given f.place f.there));
      needed = λ name is. needed_one name (some_there (connection_named (connections st []) name) is);
      joined = λ s c there is found. joined_one s c there found;
      joining = λ s c there present unjoined found. absurd (none_some 0 (sym unjoined ∙ all_joined st s there));
      writers = λ s z m there unjoined inside writes opens other present same. absurd (contains_none m inside);
    } where
      given_of : (name : List ℕ) (c : Connection) → connection_named (connections st []) name ≡ Some c → (g : Given) × Contains st.given g × (given_connection st.timing g ≡ c) × (g.lockspace ≡ name)
      given_of name c found =
          let inside = find_inside (λ (d : Connection). bytes_eq d.name name) (map (given_connection st.timing) st.given) c found in
          let was = in_map (given_connection st.timing) st.given c inside.0 in
          (was.0, was.1, was.2, ap (λ (d : Connection). d.name) was.2 ∙ (bytes_eq-Decides c.name name).0 inside.1)

      needed_one : (name : List ℕ) → (c : Connection) × (connection_named (connections st []) name ≡ Some c)
          → (s : Session) × Contains (sessions st []) s × (s.lockspace ≡ name) × ((is_covered [] s ≡ true) ⊎ IsHeardWriter [] None s)
      needed_one name c =
          let g = given_of name c.0 c.1 in
          let n = given_numbered 0 st.given g.0 g.1 in (given_session (n.0, g.0), contains_map given_session (enumerate_from 0 st.given) (n.0, g.0) n.1, g.3, inl refl)

      joined_one : (s : Session) (c : Connection) → Contains (sessions st []) s → connection_named (connections st []) s.lockspace ≡ Some c → c.expiry ≤ last_renewal st [] s + fail st.timing
      joined_one s c there found =
          let f : FirstSession st s = first_session st s there in
          let g = given_of s.lockspace c found in
          let one : g.0 ≡ f.place.1 =
          one_given st.given h.different g.0 f.place.1 g.1 (numbered_given 0 st.given f.place f.there) (g.3 ∙ sym (ap (λ (z : Session). z.lockspace) f.is))
          in
          let same : c.expiry ≡ s.renewed + fail st.timing =
          ap (λ (d : Connection). d.expiry) (sym g.2) ∙ ap (λ n. n + fail st.timing) (ap (λ (z : Given). z.renewed) one ∙ ap (λ (z : Session). z.renewed) f.is)
          in
          omega (arith, same)

delta_first : (st : Setting) → DeltaFacts st []
delta_first st =
    record {
      frees = λ s m there is. absurd (none_some m is);
      before = λ s m n there is inside. absurd (none_some m is);
      numbers = λ s there joined. let f : FirstSession st s = first_session st s there in subst (λ z. (1 ≤ generation_of [] z) × IsTrue (is_number (generation_of [] z)) × IsTrue (is_number (last_seq [] z))) f.is (omega arith, refl, refl);
      left = λ s k there joined is unfreed. absurd (none_some k is);
    }

no_done_work : {P : Type 0} (st : Setting) (t : Trace) (s : Session) (m : Submitted) (j : ℕ) (step : LeaseStep) (c : Command) → IsDoneWork st t None s m j step c → P
no_done_work st t s m j step c h = absurd (none_some m.call.number h.heard_it)

pub grounds_rest : (st : Setting) (t : Trace) → GrantGrounds st t None
grounds_rest st t =
    record {
      acquired = λ s m j c w is. no_done_work st t s m j TakeLeader c w;
      converted = λ s m j c w is. no_done_work st t s m j TakeLeader c w;
      shared = λ s m j c mode w is. no_done_work st t s m j FreeLeader c w;
      moded = λ s m j c w is. no_done_work st t s m j SetMode c w;
    }

ways_first : (st : Setting) → WayFacts st []
ways_first st = record { each = λ s at there aligned. tt }

pub facts_at_first : FactsAtFirst
facts_at_first st h =
    record {
      calls = record {
        owned = λ m there. absurd (contains_none m there);
        found = λ m there. absurd (contains_none m there);
        below = λ m there. absurd (contains_none m there);
        made = λ m there. absurd (contains_none m there);
        later = λ m a there is. absurd (contains_none m there);
        fits = λ m a there is. absurd (contains_none m there);
      };
      jobs = record {
        replied = λ j stops. absurd (true_is_false stops);
        called = λ m j there is. absurd (contains_none m there);
        joins = λ s j there its. no_joiner st s j there its;
        starts = λ k j there is. absurd (contains_none k there);
        fits = λ m j s c there is its reads. absurd (contains_none m there);
        one = λ m n j there here opens also is its. absurd (contains_none m there);
      };
      quiet = record {
        recovering = λ s there is other. absurd (false_is_true (and_true (is_joined [] s) (is_some (recovery_of st [] s)) is).1);
        leaving = λ s k j there joined is inside. absurd (none_some k is);
      };
      names = names_first st h;
      connections = connections_first st h;
      delta = delta_first st;
      turns = record { one = λ m n there here opens also work too same. absurd (contains_none m there); newest = λ s m its there opens is. absurd (contains_none m there) };
      ways = ways_first st;
      holdings = record {
        owned = λ g there. absurd (contains_none g there);
        alone = λ g k there here same exclusive. absurd (contains_none g there);
        single = λ g there. absurd (contains_none g there);
        born = λ g there. absurd (contains_none g there);
        given = λ k there. absurd (contains_none k there);
        stands = λ g s there its exclusive. absurd (contains_none g there);
      };
      works = record {
        beside = λ m j step c aim g w is there at. absurd (contains_none m w.there);
        modes = λ m j step c w is. absurd (contains_none m w.there);
        acts = λ m j step c p w is. absurd (contains_none m w.there);
        unshared = λ m d j step before c mode s w is its there at. absurd (contains_none m w.there);
      };
      grounds = grounds_rest st [];
      numbers = numbers_follow st [] (ways_first st);
      values = record {
        held = λ m j s w. absurd (contains_none m w.there);
        calm = λ m j s w. absurd (contains_none m w.there);
        holds = λ m j s r p w is. absurd (contains_none m w.there);
        started = λ m j s r p k w is child. absurd (contains_none m w.there);
        above = λ k there. absurd (contains_none k there);
      };
    }
