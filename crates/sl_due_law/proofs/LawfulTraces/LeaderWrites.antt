-- A leader that a lease writes is a record: its name was read, and its numbers are the session's.
use Rattle.sl_due_facts.proofs.Acts.Pairs.DecodedRecords.{spelled_leader}
use Rattle.sl_due_facts.proofs.Acts.Pairs.GivenByReads.{given_is_leader}
use Rattle.sl_area.specs.AreaSizes.{Layout}
use Rattle.sl_area.specs.AreaLayout.{leader_of}
use Rattle.sl_due_law.proofs.LawfulTraces.OwnRecords.{few_hosts, fits_it, session_named_well}
use Rattle.sl_run.specs.Lawful.{IsSetting}
use Rattle.sl_run.specs.LawfulArea.{HasVerified, IsLeaderGiven, is_leader_read, leaders_read}
use Rattle.sl_due_leases.proofs.Leases.NamesVerified.{has_verified}
use Rattle.sl_due_leases.proofs.Ways.WayFactsHeld.PlacesStand.{id_in_range}
use Rattle.sl_trace.specs.LeaseDecisions.{leader_for, lease_place}
use Rattle.sl_trace.specs.Leases.{is_on, known, leader_given, leaders_given, lease_calls}
use Rattle.sl_words.proofs.Lists.{contains_cases, contains_none}
use Rattle.sl_words.proofs.Options.{then_value}
use Rattle.sl_sector.specs.Records.{Fits, IsLeader}
use Rattle.sl_due_facts.proofs.Sessions.JoinedNumbers.{HasNumbers}
use Rattle.sl_trace.specs.Sessions.{calls_of, generation_of, sessions}
use Rattle.sl_trace.specs.declared.session.Session.{Session}
use Rattle.sl_due_facts.specs.Facts.WayFacts.{IsVerified, Ways, way_context}
use Rattle.sl_text.specs.Names.{is_name}
use Rattle.sl_trace.specs.Traces.{Setting, Submitted, Trace, gave}
use Rattle.sl_trace.specs.declared.effects.Spot.{Spot}
use Rattle.sl_words.proofs.WordLaws.{and_true}
use Rattle.sl_sector.specs.declared.sector.Leader.{Leader}
use Rattle.sl_words.specs.Bounds.{most_hosts}
use Rattle.std.proofs.Common.{ap, arith, inl, inr, refl, subst, ◌∙◌}
use Rattle.std.proofs.lemmas.Slice.Eq.{bytes_eq-Decides}
use Rattle.std.specs.List.{cons_option}
use Rattle.std.specs.Prelude.{Bool, Contains, IsTrue, List, None, Option, Some, [], bytes_eq, filter, filter_map, option_and_then, ℕ, ◌&&◌, ◌==◌, ◌↔◌, ◌∷◌, ◌≡◌, ◌≤◌, ◌⊎◌}

-- ---- the name

-- What a list was mapped to came from one of its things.
mapped_from : {A B : Type 0} (f : A → Option B) (xs : List A) (y : B) → Contains (filter_map f xs) y → (x : A) × (f x ≡ Some y)
mapped_from f [] y there = absurd (contains_none y there)
mapped_from {A} {B} f (a ∷ xs) y there = by (f a) refl there (λ rest. mapped_from f xs y rest) where
  by : (o : Option B) → f a ≡ o → Contains (cons_option o (filter_map f xs)) y → (Contains (filter_map f xs) y → (x : A) × (f x ≡ Some y)) → (x : A) × (f x ≡ Some y)
  by None is inside rest = rest inside
  by (Some b) is inside rest = elim (contains_cases b (filter_map f xs) y inside) [ inl same ↦ (a, is ∙ ap (λ z. Some z) same) | inr further ↦ rest further ]

-- The leaders that a lease's reads gave keep their rules, made ones too.
leaders_are : (g : Layout) → (1 ≤ g.hosts) × (g.hosts ≤ most_hosts) → (ms : List Submitted) (l : Leader) → Contains (leaders_given g ms) l → IsLeader l
leaders_are g most [] l there = absurd (contains_none l there)
leaders_are g most (m ∷ ms) l there = by (leader_given g m ms) refl there (λ rest. leaders_are g most ms l rest) where
  by : (o : Option Leader) → leader_given g m ms ≡ o → Contains (elim o as (λ z. List Leader) [ None ↦ leaders_given g ms | Some k ↦ k ∷ leaders_given g ms ]) l → (Contains (leaders_given g ms) l → IsLeader l) → IsLeader l
  by None is inside rest = rest inside
  by (Some k) is inside rest =
      elim (contains_cases k (leaders_given g ms) l inside) [ inl same ↦ subst (λ z. IsLeader z) same (given_is_leader g most m ms k is) | inr further ↦ rest further ]

above : (a b c : ℕ) → a ≤ b → b ≤ c → a ≤ c
above a b c low high = omega (arith, low, high)

-- As many hosts as there may be.
pub hosts_fit : (st : Setting) (t : Trace) (s : Session) → IsSetting st → Contains (sessions st t) s → (1 ≤ st.layout.hosts) × (st.layout.hosts ≤ most_hosts)
hosts_fit st t s setting there = let id = id_in_range st setting t s there in (above 1 s.id st.layout.hosts id.0 id.1, few_hosts st setting)

-- A name that was verified is one, for the leader in which it was read keeps its rules.
pub named_well : (st : Setting) (t : Trace) (s : Session) (at : Spot) (name : List ℕ) → IsSetting st → Contains (sessions st t) s → HasVerified st t s at name → IsTrue (is_name name)
named_well st t s at name setting there h = subst (λ n. IsTrue (is_name n)) ((bytes_eq-Decides h.0.resource name).0 same.1) (by h.1).resource where
  named : IsTrue (bytes_eq h.0.lockspace s.lockspace && bytes_eq h.0.resource name) × IsTrue (h.0.num_hosts == st.layout.hosts)
  named = and_true (bytes_eq h.0.lockspace s.lockspace && bytes_eq h.0.resource name) (h.0.num_hosts == st.layout.hosts) h.2

  same : IsTrue (bytes_eq h.0.lockspace s.lockspace) × IsTrue (bytes_eq h.0.resource name)
  same = and_true (bytes_eq h.0.lockspace s.lockspace) (bytes_eq h.0.resource name) named.0

  by : Contains (leaders_read st t s at) h.0 ⊎ IsLeaderGiven st t s at h.0 → IsLeader h.0
  by (inl there) =
      let m = mapped_from (λ (d : Submitted). option_and_then (leader_of st.layout) (gave d)) (filter (λ (d : Submitted). is_leader_read d.call.purpose && is_on st.layout at d.call) (calls_of t s)) h.0 there in
      let bytes = then_value (leader_of st.layout) (gave m.0) h.0 m.1 in
      spelled_leader st.layout bytes.0 h.0 bytes.2
  by (inr given) = leaders_are st.layout (hosts_fit st t s setting there) (lease_calls st t s at) h.0 given.1

-- ---- the leader

not_none : (n : ℕ) → 1 ≤ n → n ≡ 0 → ⊥
not_none n one is = omega (arith, one, is)

none_both : (a b : ℕ) → 1 ≤ a → 1 ≤ b → a ≡ 0 ↔ b ≡ 0
none_both a b some one = ((λ is. absurd (not_none a some is)), (λ is. absurd (not_none b one is)))

-- Of an instance above 0 that fits.
pub leader_well : (st : Setting) (t : Trace) (s : Session) (at : Spot) (held : Bool) (n : ℕ) → IsSetting st → Contains (sessions st t) s → HasNumbers t s → Ways (way_context st t s) (lease_calls st t s at) → IsVerified (way_context st t s) (lease_calls st t s at) → 1 ≤ n → Fits n
    → IsLeader (leader_for (lease_place st s) (known st t s at) held n)
unfolding known
leader_well st t s at held n setting there numbers ways verified one fits =
    let id = id_in_range st setting t s there in
    record {
      hosts = hosts_fit st t s setting there;
      lver = fits;
      generation = fits_it (generation_of t s) numbers.1;
      owner = id.1;
      lockspace = session_named_well st t s setting there;
      resource = named_well st t s at _ setting there (has_verified st t s at ways verified);
      same = (none_both n (generation_of t s) one numbers.0, none_both n s.id one id.0);
      unused = λ none. absurd (not_none n one none);
    }
