-- The name that a lease writes is one that the session has read on the area.
use Rattle.sl_area.specs.AreaSizes.{Layout}
use Rattle.sl_area.specs.AreaLayout.{leader_of}
use Rattle.sl_run.specs.LawfulArea.{HasVerified, is_leader_read}
use Rattle.sl_due_leases.proofs.Ways.GivenReads.{leader_spells, none_again}
use Rattle.sl_due_leases.proofs.Ways.NewestCall.{submitted_here, submitted_passed}
use Rattle.sl_due_leases.proofs.Ways.WayNumbers.{EndsBy, ends_by}
use Rattle.sl_trace.specs.Leases.{block_submitted, block_written, ended_ballot, ended_ballots, is_again, is_lease_call, is_leader_of, is_on, is_second, leader_given, leaders_given, lease_calls, lease_step, name_sought, verified_by, verified_name}
use Rattle.sl_sector.specs.declared.sector.Block.{Block}
use Rattle.sl_sector.specs.declared.sector.Leader.{Leader}
use Rattle.sl_sector.specs.declared.sector.Owner.{Owner}
use Rattle.sl_trace.specs.Sessions.{calls_of}
use Rattle.sl_trace.specs.declared.session.Session.{Session}
use Rattle.sl_due_facts.specs.Facts.WayFacts.{IsVerified, Ways, way_context}
use Rattle.sl_trace.specs.Traces.{Setting, Submitted, Trace, gave}
use Rattle.sl_trace.specs.declared.effects.LeaseStep.TheVariants.{ClearMode, FreeLeader, Phase1Read, Phase1Write, Phase2Read, Phase2Write, ReadAgain, ReadArea, ReadBeforeBlock, ReadBeforeFree, SetMode, TakeLeader}
use Rattle.sl_trace.specs.declared.effects.Purpose.TheVariants.{Joining, Lease, Leaving, Renewal, RequestRead, RequestWrite, SeeRequest, Survey, ValueRead, ValueWrite}
use Rattle.sl_trace.specs.declared.effects.Purpose.{Purpose}
use Rattle.sl_trace.specs.declared.effects.Spot.{Spot}
use Rattle.sl_words.proofs.Lists.{contains_cases, contains_first, contains_more, contains_none, kept, kept_inside}
use Rattle.sl_words.proofs.CaseLaws.{none_some, some_value, true_is_false}
use Rattle.sl_words.proofs.WordLaws.{and_true, choose_some}
use Rattle.sl_words.specs.Words.{choose, some_is}
use Rattle.std.proofs.Common.{ap, inl, inr, refl, subst, sym, ◌∙◌}
use Rattle.std.proofs.lemmas.Bool.{and_from}
use Rattle.std.specs.List.{cons_option}
use Rattle.std.specs.Prelude.{Bool, Contains, List, None, Option, Some, [], false, filter, filter_map, option_and_then, true, ℕ, ◌&&◌, ◌++◌, ◌∷◌, ◌≡◌, ◌⊎◌}

-- What a read that verifies a name has shown.
record ShownBy (g : Layout) (lockspace : List ℕ) (m : Submitted) (name : List ℕ) : Type 0 where
  read : is_leader_read m.call.purpose ≡ true
  leader : Leader
  gave_it : option_and_then (leader_of g) (gave m) ≡ Some leader
  named : is_leader_of g lockspace name leader ≡ true

by_leader : (g : Layout) → g.paired ≡ false → (lockspace : List ℕ) (m : Submitted) (ms : List Submitted) (sought name : List ℕ) → is_leader_read m.call.purpose ≡ true → (o : Option Leader) → leader_given g m ms ≡ o
    → elim o as (λ z. Option (List ℕ)) [ None ↦ None | Some l ↦ choose (is_leader_of g lockspace sought l) sought ] ≡ Some name → ShownBy g lockspace m name
by_leader g plain lockspace m ms sought name reads None given is = absurd (none_some name is)
by_leader g plain lockspace m ms sought name reads (Some l) given is =
    let both = choose_some (is_leader_of g lockspace sought l) sought name is in
    record { read = reads; leader = l; gave_it = leader_spells g plain m ms l given; named = subst (λ n. is_leader_of g lockspace n l ≡ true) both.1 both.0 }

by_sought : (g : Layout) → g.paired ≡ false → (lockspace : List ℕ) (m : Submitted) (ms : List Submitted) (name : List ℕ) → is_again m ≡ false → (p : Purpose) → m.call.purpose ≡ p
    → elim (name_sought p) as (λ z. Option (List ℕ)) [
      | None ↦ None
      | Some n ↦ elim (leader_given g m ms) as (λ z. Option (List ℕ)) [ None ↦ None | Some l ↦ choose (is_leader_of g lockspace n l) n ]
    ] ≡ Some name → ShownBy g lockspace m name
by_sought g plain lockspace m ms name first (Lease work (ReadArea sought)) is h = by_leader g plain lockspace m ms sought name (ap (λ p. is_leader_read p) is) (leader_given g m ms) refl h
by_sought g plain lockspace m ms name first (Lease work ReadBeforeFree) is h = absurd (none_some name h)
by_sought g plain lockspace m ms name first (Lease work ReadBeforeBlock) is h = absurd (none_some name h)
by_sought g plain lockspace m ms name first (Lease work (ReadAgain read)) is h = absurd (true_is_false (sym (ap (λ p. some_is (λ q. is_second q.1) (lease_step p)) is) ∙ first))
by_sought g plain lockspace m ms name first (Lease work Phase1Write) is h = absurd (none_some name h)
by_sought g plain lockspace m ms name first (Lease work Phase1Read) is h = absurd (none_some name h)
by_sought g plain lockspace m ms name first (Lease work Phase2Write) is h = absurd (none_some name h)
by_sought g plain lockspace m ms name first (Lease work Phase2Read) is h = absurd (none_some name h)
by_sought g plain lockspace m ms name first (Lease work TakeLeader) is h = absurd (none_some name h)
by_sought g plain lockspace m ms name first (Lease work SetMode) is h = absurd (none_some name h)
by_sought g plain lockspace m ms name first (Lease work FreeLeader) is h = absurd (none_some name h)
by_sought g plain lockspace m ms name first (Lease work ClearMode) is h = absurd (none_some name h)
by_sought g plain lockspace m ms name first (Joining j step) is h = absurd (none_some name h)
by_sought g plain lockspace m ms name first Renewal is h = absurd (none_some name h)
by_sought g plain lockspace m ms name first Survey is h = absurd (none_some name h)
by_sought g plain lockspace m ms name first (Leaving j) is h = absurd (none_some name h)
by_sought g plain lockspace m ms name first (RequestRead j) is h = absurd (none_some name h)
by_sought g plain lockspace m ms name first (RequestWrite j owner) is h = absurd (none_some name h)
by_sought g plain lockspace m ms name first SeeRequest is h = absurd (none_some name h)
by_sought g plain lockspace m ms name first (ValueWrite j) is h = absurd (none_some name h)
by_sought g plain lockspace m ms name first (ValueRead j) is h = absurd (none_some name h)

shown_by : (g : Layout) → g.paired ≡ false → (lockspace : List ℕ) (m : Submitted) (ms : List Submitted) (name : List ℕ) → is_again m ≡ false → verified_by g lockspace m ms ≡ Some name → ShownBy g lockspace m name
shown_by g plain lockspace m ms name first is = by_sought g plain lockspace m ms name first m.call.purpose refl is

-- A read that verifies the name that is written, with the calls before it.
record Naming (g : Layout) (lockspace : List ℕ) (ms : List Submitted) : Type 0 where
  read : Submitted
  before : List Submitted
  newer : List Submitted
  split : ms ≡ newer ++ read ∷ before
  there : Contains ms read
  verified : verified_by g lockspace read before ≡ Some (verified_name g lockspace ms)

-- Some read does.
named_by : (g : Layout) (lockspace : List ℕ) (newer : List Submitted) (read : Submitted) (before : List Submitted) (name : List ℕ) → verified_by g lockspace read before ≡ Some name → Naming g lockspace (newer ++ read ∷ before)
named_by g lockspace [] read before name is = record { read = read; before = before; newer = []; split = refl; there = contains_first read before; verified = by (verified_by g lockspace read before) refl } where
  by : (o : Option (List ℕ)) → verified_by g lockspace read before ≡ o → verified_by g lockspace read before ≡ Some (elim o as (λ z. List ℕ) [ Some n ↦ n | None ↦ verified_name g lockspace before ])
  by (Some n) found = found
  by None found = absurd (none_some name (sym found ∙ is))
named_by g lockspace (m ∷ newer) read before name is = by (verified_by g lockspace m ms) refl (named_by g lockspace newer read before name is) where
  ms : List Submitted
  ms = newer ++ read ∷ before

  here : (n : List ℕ) → verified_by g lockspace m ms ≡ Some n → Naming g lockspace (m ∷ ms)
  here n found =
      record {
        read = m;
        before = ms;
        newer = [];
        split = refl;
        there = contains_first m ms;
        verified = found ∙ ap (λ z. Some z) (sym (ap (λ o. elim o as (λ z. List ℕ) [ Some n ↦ n | None ↦ verified_name g lockspace ms ]) found));
      }

  by : (o : Option (List ℕ)) → verified_by g lockspace m ms ≡ o → Naming g lockspace ms → Naming g lockspace (m ∷ ms)
  by (Some n) found rest = here n found
  by None found rest =
      record {
        read = rest.read;
        before = rest.before;
        newer = m ∷ rest.newer;
        split = ap (λ xs. m ∷ xs) rest.split;
        there = contains_more m ms rest.read rest.there;
        verified = rest.verified ∙ ap (λ z. Some z) (sym (ap (λ o. elim o as (λ z. List ℕ) [ Some n ↦ n | None ↦ verified_name g lockspace ms ]) found));
      }

pub mapped_inside : {A B : Type 0} (f : A → Option B) (xs : List A) (x : A) (y : B) → Contains xs x → f x ≡ Some y → Contains (filter_map f xs) y
mapped_inside f [] x y there is = absurd (contains_none x there)
mapped_inside {A} {B} f (a ∷ xs) x y there is = by (f a) refl (contains_cases a xs x there) (λ rest. mapped_inside f xs x y rest is) where
  by : (o : Option B) → f a ≡ o → (a ≡ x) ⊎ Contains xs x → (Contains xs x → Contains (filter_map f xs) y) → Contains (cons_option o (filter_map f xs)) y
  by (Some b) found (inl same) rest = subst (λ z. Contains (b ∷ filter_map f xs) z) (some_value b y (sym found ∙ (ap (λ z. f z) same ∙ is))) (contains_first b (filter_map f xs))
  by (Some b) found (inr inside) rest = contains_more b (filter_map f xs) y (rest inside)
  by None found (inl same) rest = absurd (none_some y (sym found ∙ (ap (λ z. f z) same ∙ is)))
  by None found (inr inside) rest = rest inside

-- ---- with pairs a leader may have been made for a torn one

by_given : (g : Layout) (lockspace : List ℕ) (m : Submitted) (ms : List Submitted) (name : List ℕ) (sought : Option (List ℕ))
    → elim sought as (λ z. Option (List ℕ)) [
      | None ↦ None
      | Some n ↦ elim (leader_given g m ms) as (λ z. Option (List ℕ)) [ None ↦ None | Some l ↦ choose (is_leader_of g lockspace n l) n ]
    ] ≡ Some name → (l : Leader) × (leader_given g m ms ≡ Some l) × (is_leader_of g lockspace name l ≡ true)
by_given g lockspace m ms name None is = absurd (none_some name is)
by_given g lockspace m ms name (Some n) is = by (leader_given g m ms) refl is where
  by : (o : Option Leader) → leader_given g m ms ≡ o → elim o as (λ z. Option (List ℕ)) [ None ↦ None | Some l ↦ choose (is_leader_of g lockspace n l) n ] ≡ Some name
      → (l : Leader) × (leader_given g m ms ≡ Some l) × (is_leader_of g lockspace name l ≡ true)
  by None found at = absurd (none_some name at)
  by (Some l) found at = let both = choose_some (is_leader_of g lockspace n l) n name at in (l, found, subst (λ z. is_leader_of g lockspace z l ≡ true) both.1 both.0)

-- A leader that a read gave is among those of the lease.
leader_among : (g : Layout) (newer : List Submitted) (read : Submitted) (before : List Submitted) (l : Leader) → leader_given g read before ≡ Some l → Contains (leaders_given g (newer ++ read ∷ before)) l
leader_among g [] read before l is =
    subst (λ o. Contains (elim o as (λ z. List Leader) [ None ↦ leaders_given g before | Some k ↦ k ∷ leaders_given g before ]) l) (sym is) (contains_first l (leaders_given g before))
leader_among g (m ∷ newer) read before l is = by (leader_given g m (newer ++ read ∷ before)) (leader_among g newer read before l is) where
  by : (o : Option Leader) → Contains (leaders_given g (newer ++ read ∷ before)) l
      → Contains (elim o as (λ z. List Leader) [ None ↦ leaders_given g (newer ++ read ∷ before) | Some k ↦ k ∷ leaders_given g (newer ++ read ∷ before) ]) l
  by None there = there
  by (Some k) there = contains_more k (leaders_given g (newer ++ read ∷ before)) l there

-- A lease that has verified a name has verified the one that it writes.
pub has_verified : (st : Setting) (t : Trace) (s : Session) (at : Spot) → Ways (way_context st t s) (lease_calls st t s at) → IsVerified (way_context st t s) (lease_calls st t s at)
    → HasVerified st t s at (verified_name st.layout s.lockspace (lease_calls st t s at))
has_verified st t s at ways h = by st.layout.paired refl where
  ms : List Submitted
  ms = lease_calls st t s at

  name : List ℕ
  name = verified_name st.layout s.lockspace (lease_calls st t s at)

  naming : Naming st.layout s.lockspace (lease_calls st t s at)
  naming = subst (λ z. Naming st.layout s.lockspace z) (sym h.split) (named_by st.layout s.lockspace h.newer h.read h.before h.name h.verified)

  plainly : st.layout.paired ≡ false → HasVerified st t s at (verified_name st.layout s.lockspace (lease_calls st t s at))
  plainly plain =
      let k : Naming st.layout s.lockspace (lease_calls st t s at) = naming in
      let first : is_again k.read ≡ false = none_again (way_context st t s) plain ms ways k.read k.there in
      let shown : ShownBy st.layout s.lockspace k.read name = shown_by st.layout plain s.lockspace k.read k.before name first k.verified in
      let inside = kept_inside (λ (d : Submitted). is_lease_call d && is_on st.layout at d.call) (calls_of t s) k.read k.there in
      let on = and_true (is_lease_call k.read) (is_on st.layout at k.read.call) inside.1 in (
        shown.leader,
        inl (mapped_inside (λ (d : Submitted). option_and_then (leader_of st.layout) (gave d)) (filter (λ (d : Submitted). is_leader_read d.call.purpose && is_on st.layout at d.call) (calls_of t s)) k.read shown.leader
            (kept (λ (d : Submitted). is_leader_read d.call.purpose && is_on st.layout at d.call) (calls_of t s) k.read (and_from (is_leader_read k.read.call.purpose) (is_on st.layout at k.read.call) shown.read on.1) inside.0) shown.gave_it),
        shown.named,
      )

  paired_by : st.layout.paired ≡ true → HasVerified st t s at (verified_name st.layout s.lockspace (lease_calls st t s at))
  paired_by paired =
      let k : Naming st.layout s.lockspace (lease_calls st t s at) = naming in
      let given = by_given st.layout s.lockspace k.read k.before name (name_sought k.read.call.purpose) k.verified in
      (given.0, inr (paired, subst (λ xs. Contains (leaders_given st.layout xs) given.0) (sym k.split) (leader_among st.layout k.newer k.read k.before given.0 given.1)), given.2)

  by : (q : Bool) → st.layout.paired ≡ q → HasVerified st t s at (verified_name st.layout s.lockspace (lease_calls st t s at))
  by false is = plainly is
  by true is = paired_by is

-- Who has ended a ballot has written a block.
pub ended_wrote : (g : Layout) (ms : List Submitted) (n : ℕ) (o : Owner) → Contains (ended_ballots g ms) (n, o) → (b : Block) × (block_submitted ms ≡ Some b)
ended_wrote g [] n o there = absurd (contains_none (n, o) there)
ended_wrote g (m ∷ ms) n o there = by (block_written m) refl (ended_ballot g m ms) refl there (λ rest. ended_wrote g ms n o rest) where
  old : block_written m ≡ None → (b : Block) × (block_submitted ms ≡ Some b) → (b : Block) × (block_submitted (m ∷ ms) ≡ Some b)
  old none b = (b.0, submitted_passed m ms none ∙ b.1)

  ended : block_written m ≡ None → ended_ballot g m ms ≡ Some (n, o) → (b : Block) × (block_submitted (m ∷ ms) ≡ Some b)
  ended none is = let e : EndsBy g m ms n o = ends_by g m ms n o is in old none (e.own, e.known)

  by : (w : Option Block) → block_written m ≡ w → (e : Option (ℕ × Owner)) → ended_ballot g m ms ≡ e → Contains (elim e as (λ z. List (ℕ × Owner)) [ None ↦ ended_ballots g ms | Some p ↦ p ∷ ended_ballots g ms ]) (n, o)
      → (Contains (ended_ballots g ms) (n, o) → (b : Block) × (block_submitted ms ≡ Some b)) → (b : Block) × (block_submitted (m ∷ ms) ≡ Some b)
  by (Some b) writes e is inside rest = (b, submitted_here m ms b writes)
  by None writes None is inside rest = old writes (rest inside)
  by None writes (Some p) is inside rest =
      elim (contains_cases p (ended_ballots g ms) (n, o) inside) [ inl same ↦ ended writes (is ∙ ap (λ z. Some z) same) | inr further ↦ old writes (rest further) ]
