-- What is found of a member after the end of a holding, or as a conversion begins, is what the state functions do.
use Rattle.sl_host_law.specs.Answers.LeaseDecisions.{carrying_lease}
use Rattle.sl_host_law.specs.Decisions.CommandDecisions.{held_on}
use Rattle.sl_host_law.specs.Steps.Leases.{converting_next, kept_blocks, lease_at, releasing_next}
use Rattle.sl_host_law.specs.Steps.Passes.{at_member, member_numbered}
use Rattle.sl_host_lines.specs.HoldingEnds.{freed_next, freed_of, giving, gone_on, turning, turning_of}
use Rattle.sl_host_lines.specs.LineFacts.{LeaseReady}
use Rattle.sl_host_state.specs.KeptState.{HostKept, HostState, MemberState}
use Rattle.sl_host_state.specs.MadeEffects.{with_end, with_reply}
use Rattle.sl_host_work.proofs.TurnsStand.{by_number, is_turned}
use Rattle.sl_host_work.specs.LeaseQuestions.{IsTurned, MayAsk, MayTurn}
use Rattle.sl_host_work.specs.NextDecisions.{writes_own_block}
use Rattle.sl_lease.specs.Bounds.{IsInstance}
use Rattle.sl_member.specs.HostMembers.{member_with}
use Rattle.sl_trace.specs.declared.lease.LeaseNext.{LeaseNext}
use Rattle.sl_trace.specs.declared.session.Session.{Session}
use Rattle.sl_tables.specs.Holdings.{fits}
use Rattle.sl_tables.specs.declared.holdings.Holder.TheVariants.{Anyone}
use Rattle.sl_trace.specs.Traces.{end_of, is_shared, same_place, spot_of_grant}
use Rattle.sl_trace.specs.declared.effects.Grant.{Grant}
use Rattle.sl_trace.specs.declared.effects.Mode.{Mode}
use Rattle.sl_trace.specs.declared.effects.Spot.{Spot}
use Rattle.sl_trace.specs.declared.effects.Work.TheVariants.{ForJob}
use Rattle.sl_trace.specs.declared.reply.Reply.TheVariants.{Done}
use Rattle.sl_host.proofs.QuestionsStand.{find_found}
use Rattle.sl_host.specs.BookQuestions.{held_under, sought_on, state_in}
use Rattle.sl_words.proofs.CaseLaws.{none_some, some_value}
use Rattle.sl_words.specs.Words.{is_empty}
use Rattle.std.proofs.Common.{ap, refl, sym, ◌∙◌}
use Rattle.std.specs.Prelude.{Bool, IfSome, List, None, Option, Some, [], cond, false, filter, find, is_some, not, option_map, true, unwrap_or, ℕ, ◌&&◌, ◌==◌, ◌∷◌, ◌≡◌}

-- ---- what is held

some_found : {A : Type 0} (p : A → Bool) (xs : List A) → not (is_some (find p xs)) ≡ is_empty (filter p xs)
some_found p [] = refl
some_found p (x ∷ xs) = by (p x) (some_found p xs) where
  by : (b : Bool) → not (is_some (find p xs)) ≡ is_empty (filter p xs) → not (is_some (cond b (Some x) (find p xs))) ≡ is_empty (cond b (x ∷ filter p xs) (filter p xs))
  by true rest = refl
  by false rest = rest

some_mapped : {A B : Type 0} (f : A → B) (o : Option A) → is_some (option_map f o) ≡ is_some o
some_mapped f None = refl
some_mapped f (Some x) = refl

one_test : (s d : Bool) → (((true && s) && true) && d) ≡ (s && d)
one_test true d = refl
one_test false d = refl

turned_test : (b s : Bool) → s ≡ not b → b ≡ not s
turned_test true s is = sym (ap not is)
turned_test false s is = sym (ap not is)

-- Nothing is held on the area where nothing is found.
pub bare_found : {A : Type 0} (f : A → Grant) (r : Option A) (b : Bool) (n m : ℕ) (at : Spot) (held : List Grant) → is_some r ≡ not b → option_map f r ≡ find (fits (sought_on Anyone n at None)) held → n ≡ m
    → b ≡ is_empty (filter (λ g. same_place g.path g.offset at.path at.base) (held_under m held))
bare_found f r b n m at held none found same =
    turned_test b (is_some r) none
    ∙ (ap not (sym (some_mapped f r))
    ∙ (ap (λ o. not (is_some o))
    (found
    ∙ find_found (fits (sought_on Anyone n at None)) (λ g. g.session == n) (λ g. same_place g.path g.offset at.path at.base)
    (λ g. one_test (g.session == n) (same_place g.path g.offset at.path at.base)) held)
    ∙ (some_found (λ g. same_place g.path g.offset at.path at.base) (held_under n held) ∙ ap (λ k. is_empty (filter (λ g. same_place g.path g.offset at.path at.base) (held_under k held))) same)))

-- Of nothing that is held none is exclusive.
none_there : (gs : List Grant) (p : Grant → Bool) → is_empty gs ≡ true → IfSome (find p gs) (λ g. IsInstance g.lver)
none_there [] p is = tt
none_there (g ∷ gs) p is = absurd cc

-- So the lease may be asked.
pub may_ask : (k : HostKept) (m : MemberState) (at : Spot) → LeaseReady k at m → is_empty (held_on (state_in k) m at) ≡ true → MayAsk (state_in k) m at (kept_blocks (lease_at m at))
may_ask k m at ready bare = record { joined = ready.joined; tops = ready.tops; owned = ready.owned; held = none_there (held_on (state_in k) m at) (λ g. not (is_shared g.mode)) bare }

-- ---- the end of a holding

-- What was decided behind it can be written by the member that is found.
pub freed_turned : (k : HostKept) (g : Grant) (n : ℕ) (m : MemberState) (s : Session) (result : Option LeaseNext) → member_with n k.members ≡ Some m → s ≡ m.who
    → IfSome result (λ v. writes_own_block v ≡ true → MayTurn k.config.sizes m (spot_of_grant g)) → IfSome result (λ v. writes_own_block v ≡ true → IsTurned k s (spot_of_grant g))
freed_turned k g n m s None found is turned = tt
freed_turned k g n m s (Some v) found is turned = λ writes. is_turned k (spot_of_grant g) n m s found is (turned writes)

module _ (h : HostState) (g : Grant) (n : ℕ) (job : ℕ) where
  abbrev Found : Type 0
  Found = Option (Session × Option LeaseNext)

  next_in : (m : MemberState) (gs : List Grant) (next : LeaseNext) → (let o : Option LeaseNext = Some next in o) ≡ cond (is_empty gs) (Some (releasing_next h m (spot_of_grant g) g)) None
      → carrying_lease m (spot_of_grant g) (ForJob job) next h
      ≡ elim gs as (λ z. HostState) [ e ∷ es ↦ with_reply job Done h | [] ↦ carrying_lease m (spot_of_grant g) (ForJob job) (releasing_next h m (spot_of_grant g) g) h ]
  next_in m [] next is = ap (λ v. carrying_lease m (spot_of_grant g) (ForJob job) v h) (some_value next (releasing_next h m (spot_of_grant g) g) is)
  next_in m (e ∷ es) next is = absurd (none_some next (sym is))

  none_in : (m : MemberState) (gs : List Grant) → (let o : Option LeaseNext = None in o) ≡ cond (is_empty gs) (Some (releasing_next h m (spot_of_grant g) g)) None
      → with_reply job Done h
      ≡ elim gs as (λ z. HostState) [ e ∷ es ↦ with_reply job Done h | [] ↦ carrying_lease m (spot_of_grant g) (ForJob job) (releasing_next h m (spot_of_grant g) g) h ]
  none_in m [] is = absurd (none_some (releasing_next h m (spot_of_grant g) g) is)
  none_in m (e ∷ es) is = refl

  pub freed_on : (s : Session) (next : LeaseNext) → (let o : Option (Session × Option LeaseNext) = Some (s, Some next) in o) ≡ freed_of h g (member_numbered h n)
      → (m : MemberState) × (member_numbered h s.number ≡ Some m) × (m.who ≡ s) × (carrying_lease m (spot_of_grant g) (ForJob job) next h ≡ at_member n (gone_on job g) h)
  freed_on s next is = by (member_numbered h n) refl is where
    by : (o : Option MemberState) → member_numbered h n ≡ o → (let f : Option (Session × Option LeaseNext) = Some (s, Some next) in f) ≡ freed_of h g o
        → (m : MemberState) × (member_numbered h s.number ≡ Some m) × (m.who ≡ s)
        × (carrying_lease m (spot_of_grant g) (ForJob job) next h ≡ elim o as (λ z. HostState) [ None ↦ h | Some k ↦ gone_on job g k h ])
    by None there is = absurd cc
    by (Some m) there is =
        let found : Option (Session × Option LeaseNext) → Session × Option LeaseNext = λ o. unwrap_or o (m.who, freed_next h g m) in
        let same : m.who ≡ s = sym (ap (λ o. (found o).0) is) in
        (m, by_number h.members n m s there same, same, next_in m (held_on h m (spot_of_grant g)) next (ap (λ o. (found o).1) is))

  pub left_on : (s : Session) → (let o : Option (Session × Option LeaseNext) = Some (s, None) in o) ≡ freed_of h g (member_numbered h n) → with_reply job Done h ≡ at_member n (gone_on job g) h
  left_on s is = by (member_numbered h n) is where
    by : (o : Option MemberState) → (let f : Option (Session × Option LeaseNext) = Some (s, None) in f) ≡ freed_of h g o
        → with_reply job Done h ≡ elim o as (λ z. HostState) [ None ↦ h | Some k ↦ gone_on job g k h ]
    by None is = absurd cc
    by (Some m) is =
        let found : Option (Session × Option LeaseNext) → Session × Option LeaseNext = λ o. unwrap_or o (m.who, freed_next h g m) in
        none_in m (held_on h m (spot_of_grant g)) (ap (λ o. (found o).1) is)

  pub none_on : (let o : Option (Session × Option LeaseNext) = None in o) ≡ freed_of h g (member_numbered h n) → h ≡ at_member n (gone_on job g) h
  none_on is = by (member_numbered h n) is where
    by : (o : Option MemberState) → (let f : Option (Session × Option LeaseNext) = None in f) ≡ freed_of h g o → h ≡ elim o as (λ z. HostState) [ None ↦ h | Some k ↦ gone_on job g k h ]
    by None is = refl
    by (Some m) is = absurd cc

  -- The end itself leaves the members as they are.
  pub given_on : is_some (member_numbered h n) ≡ true → at_member n (gone_on job g) (with_end (end_of g) h) ≡ at_member n (giving job g) h
  given_on there = by (member_numbered h n) there where
    by : (o : Option MemberState) → is_some o ≡ true
        → elim o as (λ z. HostState) [ None ↦ with_end (end_of g) h | Some k ↦ gone_on job g k (with_end (end_of g) h) ]
        ≡ elim o as (λ z. HostState) [ None ↦ h | Some k ↦ gone_on job g k (with_end (end_of g) h) ]
    by None there = absurd cc
    by (Some m) there = refl

  pub given_none : is_some (member_numbered h n) ≡ false → h ≡ at_member n (giving job g) h
  given_none there = by (member_numbered h n) there where
    by : (o : Option MemberState) → is_some o ≡ false → h ≡ elim o as (λ z. HostState) [ None ↦ h | Some k ↦ giving job g k h ]
    by None there = refl
    by (Some m) there = absurd cc

-- ---- conversions

module _ (h : HostState) (at : Spot) (mode : Mode) (name : List ℕ) (n : ℕ) (job : ℕ) where
  pub turned_on : (s : Session) (next : LeaseNext) → (let o : Option (Session × LeaseNext) = Some (s, next) in o) ≡ turning_of h at mode name (member_numbered h n)
      → (m : MemberState) × (member_numbered h s.number ≡ Some m) × (m.who ≡ s) × (carrying_lease m at (ForJob job) next h ≡ at_member n (turning job at mode name) h)
  turned_on s next is = by (member_numbered h n) refl is where
    by : (o : Option MemberState) → member_numbered h n ≡ o → (let f : Option (Session × LeaseNext) = Some (s, next) in f) ≡ turning_of h at mode name o
        → (m : MemberState) × (member_numbered h s.number ≡ Some m) × (m.who ≡ s)
        × (carrying_lease m at (ForJob job) next h ≡ elim o as (λ z. HostState) [ None ↦ h | Some k ↦ turning job at mode name k h ])
    by None there is = absurd cc
    by (Some m) there is =
        let found : Option (Session × LeaseNext) → Session × LeaseNext = λ o. unwrap_or o (m.who, converting_next h m at mode name) in
        let other : next ≡ converting_next h m at mode name = ap (λ o. (found o).1) is in
        let same : m.who ≡ s = sym (ap (λ o. (found o).0) is) in
        (m, by_number h.members n m s there same, same, ap (λ v. carrying_lease m at (ForJob job) v h) other)

  pub turned_none : (let o : Option (Session × LeaseNext) = None in o) ≡ turning_of h at mode name (member_numbered h n) → h ≡ at_member n (turning job at mode name) h
  turned_none is = by (member_numbered h n) is where
    by : (o : Option MemberState) → (let f : Option (Session × LeaseNext) = None in f) ≡ turning_of h at mode name o → h ≡ elim o as (λ z. HostState) [ None ↦ h | Some k ↦ turning job at mode name k h ]
    by None is = refl
    by (Some m) is = absurd cc
