-- Parts of a step that take jobs and members away and add none, and leave holdings, and spots and numbers of leases, as they are.
use Rattle.sl_area.specs.AreaSizes.{Layout}
use Rattle.sl_host_law.specs.StepParts.Signals.{over}
use Rattle.sl_host_passes.specs.PassesLessen.{IsNoMore, leases_in}
use Rattle.sl_host_state.specs.KeptState.{HostKept, HostState, LeaseState, MemberState}
use Rattle.sl_host_state.specs.MadeEffects.{has_write_open, is_ended_by_move, is_lease_on, job_calling, job_starting, joining_calling, known_calling, leases_calling, leases_working, member_calling, member_replying, new_lease, value_calling, with_call, with_move, with_reply, with_signal, with_start, next_submitted}
use Rattle.sl_host_state.specs.HostStands.{is_joining, pair_of}
use Rattle.sl_trace.specs.Leases.{is_lease_call, is_on, spot_of_call, value_written}
use Rattle.sl_words.proofs.Lists.{contains_cases, contains_first, contains_more, contains_none}
use Rattle.sl_words.proofs.Numbers.{refl_le, trans_le}
use Rattle.sl_trace.specs.Sessions.{is_join_done}
use Rattle.sl_trace.specs.Traces.{Submitted, same_spot}
use Rattle.sl_trace.specs.declared.effects.Move.{Move}
use Rattle.sl_trace.specs.declared.effects.Op.{Op}
use Rattle.sl_trace.specs.declared.effects.Purpose.{Purpose}
use Rattle.sl_trace.specs.declared.effects.Signal.{Signal}
use Rattle.sl_trace.specs.declared.effects.Spot.{Spot}
use Rattle.sl_trace.specs.declared.effects.Start.{Start}
use Rattle.sl_trace.specs.declared.reply.Reply.{Reply}
use Rattle.sl_host.specs.BookQuestions.{state_in}
use Rattle.sl_host.specs.Host.{Becomes, HostView}
use Rattle.sl_words.specs.Words.{some_is}
use Rattle.std.proofs.Common.{ap, arith, inl, inr, refl, subst, sym, ◌∙◌}
use Rattle.std.proofs.lemmas.List.{length-map}
use Rattle.std.proofs.lemmas.List.Sums.{sum_by-cons}
use Rattle.std.specs.Option.{option_or}
use Rattle.std.specs.Prelude.{Bool, Contains, Err, List, None, Option, Some, cond, false, filter, find, flat_map, length, map, not, option_map, true, unwrap_or, [], ℕ, ◌&&◌, ◌++◌, ◌+◌, ◌==◌, ◌∷◌, ◌≡◌, ◌≤◌, ◌⊎◌}

-- ---- leases, and members

-- Spot, own block, greatest number, name and open ballot of a lease are as they were.
pub record IsLeaseOf (o n : LeaseState) : Type 0 where
  pub spot : n.spot ≡ o.spot
  pub own : n.own ≡ o.own
  pub top : n.top ≡ o.top
  pub name : n.name ≡ o.name
  pub ballot : n.ballot ≡ o.ballot

abbrev pub AreLeasesOf : List LeaseState → List LeaseState → Type 0
AreLeasesOf [] [] = Unit {0}
AreLeasesOf [] (n ∷ ns) = ⊥
AreLeasesOf (o ∷ os) [] = ⊥
AreLeasesOf (o ∷ os) (n ∷ ns) = IsLeaseOf o n × AreLeasesOf os ns

pub record IsMemberOf (o n : MemberState) : Type 0 where
  pub who : n.who ≡ o.who
  pub leases : AreLeasesOf o.leases n.leases

-- The members are those of before, but for some that have gone.
abbrev pub AreLess : List MemberState → List MemberState → Type 0
AreLess [] [] = Unit {0}
AreLess [] (n ∷ ns) = ⊥
AreLess (o ∷ os) [] = Unit {0}
AreLess (o ∷ os) (n ∷ ns) = AreLess os (n ∷ ns) ⊎ (IsMemberOf o n × AreLess os ns)

pub leases_same : (ls : List LeaseState) → AreLeasesOf ls ls
leases_same [] = tt
leases_same (l ∷ ls) = (record { spot = refl; own = refl; top = refl; name = refl; ballot = refl }, leases_same ls)

pub leases_by : (f : LeaseState → LeaseState) → ((l : LeaseState) → IsLeaseOf l (f l)) → (ls : List LeaseState) → AreLeasesOf ls (map f ls)
leases_by f each [] = tt
leases_by f each (l ∷ ls) = (each l, leases_by f each ls)

leases_on : (os ns ps : List LeaseState) → AreLeasesOf os ns → AreLeasesOf ns ps → AreLeasesOf os ps
leases_on [] [] ps a b = b
leases_on [] (n ∷ ns) ps a b = absurd a
leases_on (o ∷ os) [] ps a b = absurd a
leases_on (o ∷ os) (n ∷ ns) [] a b = absurd b
leases_on (o ∷ os) (n ∷ ns) (p ∷ ps) a b = (
  record { spot = b.0.spot ∙ a.0.spot; own = b.0.own ∙ a.0.own; top = b.0.top ∙ a.0.top; name = b.0.name ∙ a.0.name; ballot = b.0.ballot ∙ a.0.ballot },
  leases_on os ns ps a.1 b.1,
)

leases_many : (os ns : List LeaseState) → AreLeasesOf os ns → length ns ≡ length os
leases_many [] [] a = refl
leases_many [] (n ∷ ns) a = absurd a
leases_many (o ∷ os) [] a = absurd a
leases_many (o ∷ os) (n ∷ ns) a = let rest : length ns ≡ length os = leases_many os ns a.1 in grind (arith, rest)

pub lease_comes : (os ns : List LeaseState) → AreLeasesOf os ns → (n : LeaseState) → Contains ns n → (o : LeaseState) × Contains os o × IsLeaseOf o n
lease_comes [] [] a n there = absurd (contains_none n there)
lease_comes [] (x ∷ ns) a n there = absurd a
lease_comes (o ∷ os) [] a n there = absurd a
lease_comes (o ∷ os) (x ∷ ns) a n there =
    elim (contains_cases x ns n there) [
      | inl is ↦ (o, contains_first o os, subst (λ z. IsLeaseOf o z) is a.0)
      | inr rest ↦ (let found = lease_comes os ns a.1 n rest in (found.0, contains_more o os found.0 found.1, found.2))
    ]

-- So is the lease on an area.
abbrev pub lease_in : Spot → List LeaseState → LeaseState
lease_in at ls = unwrap_or (find (is_lease_on at) ls) (new_lease at)

pub lease_stays : (at : Spot) (os ns : List LeaseState) → AreLeasesOf os ns → IsLeaseOf (lease_in at os) (lease_in at ns)
lease_stays at [] [] a = record { spot = refl; own = refl; top = refl; name = refl; ballot = refl }
lease_stays at [] (n ∷ ns) a = absurd a
lease_stays at (o ∷ os) [] a = absurd a
lease_stays at (o ∷ os) (n ∷ ns) a = by (is_lease_on at o) (is_lease_on at n) (ap (same_spot at) (a.0).spot) (lease_stays at os ns a.1) where
  by : (b c : Bool) → c ≡ b → IsLeaseOf (lease_in at os) (lease_in at ns)
      → IsLeaseOf (unwrap_or (cond b (Some o) (find (is_lease_on at) os)) (new_lease at)) (unwrap_or (cond c (Some n) (find (is_lease_on at) ns)) (new_lease at))
  by true true same rest = a.0
  by false false same rest = rest
  by true false same rest = absurd cc
  by false true same rest = absurd cc

pub member_same : (m : MemberState) → IsMemberOf m m
member_same m = record { who = refl; leases = leases_same m.leases }

-- ---- fewer members

pub less_none : (os : List MemberState) → AreLess os []
less_none [] = tt
less_none (o ∷ os) = tt

less_skip : (o : MemberState) (os ns : List MemberState) → AreLess os ns → AreLess (o ∷ os) ns
less_skip o os [] a = tt
less_skip o os (n ∷ ns) a = inl a

pub less_by : (f : MemberState → MemberState) → ((m : MemberState) → IsMemberOf m (f m)) → (ms : List MemberState) → AreLess ms (map f ms)
less_by f each [] = tt
less_by f each (m ∷ ms) = inr (each m, less_by f each ms)

pub less_same : (ms : List MemberState) → AreLess ms ms
less_same [] = tt
less_same (m ∷ ms) = inr (member_same m, less_same ms)

less_kept : (p : MemberState → Bool) (ms : List MemberState) → AreLess ms (filter p ms)
less_kept p [] = tt
less_kept p (m ∷ ms) = by (p m) (less_kept p ms) where
  by : (b : Bool) → AreLess ms (filter p ms) → AreLess (m ∷ ms) (cond b (m ∷ filter p ms) (filter p ms))
  by true rest = inr (member_same m, rest)
  by false rest = less_skip m ms (filter p ms) rest

-- One member, or none, in place of each.
less_joined : (o : MemberState) (os xs ns : List MemberState) → AreLess (o ∷ []) xs → AreLess os ns → AreLess (o ∷ os) (xs ++ ns)
less_joined o os [] ns a b = less_skip o os ns b
less_joined o os (x ∷ []) ns (inl none) b = absurd none
less_joined o os (x ∷ []) ns (inr one) b = inr (one.0, b)
less_joined o os (x ∷ y ∷ ys) ns (inl none) b = absurd none
less_joined o os (x ∷ y ∷ ys) ns (inr two) b = absurd two.1

less_each : (f : MemberState → List MemberState) → ((m : MemberState) → AreLess (m ∷ []) (f m)) → (ms : List MemberState) → AreLess ms (flat_map f ms)
less_each f each [] = tt
less_each f each (m ∷ ms) = less_joined m ms (f m) (flat_map f ms) (each m) (less_each f each ms)

pub less_on : (os ns ps : List MemberState) → AreLess os ns → AreLess ns ps → AreLess os ps
less_on [] [] ps a b = b
less_on [] (n ∷ ns) ps a b = absurd a
less_on (o ∷ os) [] [] a b = tt
less_on (o ∷ os) [] (p ∷ ps) a b = absurd b
less_on (o ∷ os) (n ∷ ns) [] a b = tt
less_on (o ∷ os) (n ∷ ns) (p ∷ ps) (inl gone) b = inl (less_on os (n ∷ ns) (p ∷ ps) gone b)
less_on (o ∷ os) (n ∷ ns) (p ∷ ps) (inr stays) (inl gone) = inl (less_on os ns (p ∷ ps) stays.1 gone)
less_on (o ∷ os) (n ∷ ns) (p ∷ ps) (inr stays) (inr here) =
    inr (record { who = here.0.who ∙ stays.0.who; leases = leases_on o.leases n.leases p.leases stays.0.leases here.0.leases }, less_on os ns ps stays.1 here.1)

less_many : (os ns : List MemberState) → AreLess os ns → length ns ≤ length os
less_many [] [] a = grind arith
less_many [] (n ∷ ns) a = absurd a
less_many (o ∷ os) [] a = grind arith
less_many (o ∷ os) (n ∷ ns) (inl gone) = let rest : length (n ∷ ns) ≤ length os = less_many os (n ∷ ns) gone in grind (arith, rest)
less_many (o ∷ os) (n ∷ ns) (inr stays) = let rest : length ns ≤ length os = less_many os ns stays.1 in grind (arith, rest)

leases_cons : (m : MemberState) (ms : List MemberState) → leases_in (m ∷ ms) ≡ length m.leases + leases_in ms
leases_cons m ms = sum_by-cons (λ (s : MemberState). length s.leases) m ms

less_leases : (os ns : List MemberState) → AreLess os ns → leases_in ns ≤ leases_in os
less_leases [] [] a = grind arith
less_leases [] (n ∷ ns) a = absurd a
less_leases (o ∷ os) [] a = let none : leases_in [] ≡ 0 = refl in omega (arith, none)
less_leases (o ∷ os) (n ∷ ns) (inl gone) =
    let rest : leases_in (n ∷ ns) ≤ leases_in os = less_leases os (n ∷ ns) gone in let one = leases_cons o os in omega (arith, rest, one)
less_leases (o ∷ os) (n ∷ ns) (inr stays) =
    let rest : leases_in ns ≤ leases_in os = less_leases os ns stays.1 in
    let many : length n.leases ≡ length o.leases = leases_many o.leases n.leases stays.0.leases in
    let old = leases_cons o os in
    let new = leases_cons n ns in
    omega (arith, rest, many, old, new)

pub member_comes : (os ns : List MemberState) → AreLess os ns → (n : MemberState) → Contains ns n → (o : MemberState) × Contains os o × IsMemberOf o n
member_comes [] [] a n there = absurd (contains_none n there)
member_comes [] (x ∷ ns) a n there = absurd a
member_comes (o ∷ os) [] a n there = absurd (contains_none n there)
member_comes (o ∷ os) (x ∷ ns) (inl gone) n there = let found = member_comes os (x ∷ ns) gone n there in (found.0, contains_more o os found.0 found.1, found.2)
member_comes (o ∷ os) (x ∷ ns) (inr stays) n there =
    elim (contains_cases x ns n there) [
      | inl is ↦ (o, contains_first o os, subst (λ z. IsMemberOf o z) is stays.0)
      | inr rest ↦ (let found = member_comes os ns stays.1 n rest in (found.0, contains_more o os found.0 found.1, found.2))
    ]

-- ---- states

pub record Lessens (a b : HostState) : Type 0 where
  pub holdings : b.holdings ≡ a.holdings
  pub jobs : length b.jobs ≤ length a.jobs
  pub members : AreLess a.members b.members
  pub born : b.born ≡ a.born
  pub lines : b.next_job ≡ a.next_job

pub lessens_not : (h : HostState) → Lessens h h
lessens_not h = record { holdings = refl; jobs = refl_le (length h.jobs); members = less_same h.members; born = refl; lines = refl }

pub lessens_on : (a b c : HostState) → Lessens a b → Lessens b c → Lessens a c
lessens_on a b c x y =
    record {
      holdings = y.holdings ∙ x.holdings;
      jobs = trans_le (length c.jobs) (length b.jobs) (length a.jobs) y.jobs x.jobs;
      members = less_on a.members b.members c.members x.members y.members;
      born = y.born ∙ x.born;
      lines = y.lines ∙ x.lines;
    }

pub lessens_where : (b : Bool) (h f g : HostState) → Lessens h f → Lessens h g → Lessens h (cond b f g)
lessens_where true h f g x y = x
lessens_where false h f g x y = y

pub lessens_some : {A : Type 0} (o : Option A) (f : A → HostState) (h : HostState) → ((x : A) → o ≡ Some x → Lessens h (f x)) → Lessens h (elim o as (λ z. HostState) [ None ↦ h | Some x ↦ f x ])
lessens_some None f h each = lessens_not h
lessens_some (Some x) f h each = each x refl

pub lessens_over : {A : Type 0} (f : A → HostState → HostState) → ((x : A) (h : HostState) → Lessens h (f x h)) → (xs : List A) (h : HostState) → Lessens h (over xs f h)
lessens_over f each [] h = lessens_not h
lessens_over f each (x ∷ xs) h = lessens_on h (f x h) (over xs f (f x h)) (each x h) (lessens_over f each xs (f x h))

-- ---- effects

pub by_signal : (p : ℕ) (s : Signal) (h : HostState) → Lessens h (with_signal p s h)
by_signal p s h = record { holdings = refl; jobs = refl_le (length h.jobs); members = less_same h.members; born = refl; lines = refl }

same_many : {A B : Type 0} (f : A → B) (xs : List A) → length (map f xs) ≤ length xs
same_many f xs = let e : length (map f xs) ≡ length xs = length-map xs f in omega (arith, e)

pub by_start : (s : Start) (h : HostState) → Lessens h (with_start s h)
by_start s h = record { holdings = refl; jobs = same_many (job_starting s) h.jobs; members = less_same h.members; born = refl; lines = refl }

pub kept_few : {A : Type 0} (p : A → Bool) (xs : List A) → length (filter p xs) ≤ length xs
kept_few p [] = grind arith
kept_few p (x ∷ xs) = by (p x) (kept_few p xs) where
  by : (b : Bool) → length (filter p xs) ≤ length xs → length (cond b (x ∷ filter p xs) (filter p xs)) ≤ length (x ∷ xs)
  by true le = grind arith
  by false le = grind arith

replied : (h : HostState) (job : ℕ) (r : Reply) (m : MemberState) → AreLess (m ∷ []) (member_replying h job r m)
replied h job r m = by (is_joining m && some_is (λ j. j == job) m.who.job) (is_join_done r) (has_write_open h m.who.number) where
  by : (a b c : Bool) → AreLess (m ∷ []) (cond a (cond b (record m { joined = true } ∷ []) (cond c (record m { refused = true } ∷ []) [])) (m ∷ []))
  by true true c = inr (record { who = refl; leases = leases_same m.leases }, tt)
  by true false true = inr (record { who = refl; leases = leases_same m.leases }, tt)
  by true false false = tt
  by false b c = inr (member_same m, tt)

pub by_reply : (job : ℕ) (r : Reply) (h : HostState) → Lessens h (with_reply job r h)
by_reply job r h =
    record {
      holdings = refl;
      jobs = kept_few (λ j. not (j.number == job)) h.jobs;
      members = less_each (member_replying h job r) (replied h job r) h.members;
      born = refl;
      lines = refl;
    }

pub by_move : (step : Move) (h : HostState) → Lessens h (with_move step h)
by_move step h = record { holdings = refl; jobs = refl_le (length h.jobs); members = less_kept (λ m. not (is_ended_by_move step m)) h.members; born = refl; lines = refl }

valued : (g : Layout) (c : Submitted) (l : LeaseState) → IsLeaseOf l (value_calling g c l)
valued g c l = by (is_on g l.spot c.call) where
  by : (b : Bool) → IsLeaseOf l (cond b (record l { value = option_or (option_map pair_of (value_written c)) l.value }) l)
  by true = record { spot = refl; own = refl; top = refl; name = refl; ballot = refl }
  by false = record { spot = refl; own = refl; top = refl; name = refl; ballot = refl }

called_leases : (g : Layout) (c : Submitted) (ls : List LeaseState) → is_lease_call c ≡ false → AreLeasesOf ls (leases_calling g c ls)
called_leases g c ls other =
    subst (λ b. AreLeasesOf ls (cond b (leases_working (spot_of_call g c) c ls) (map (value_calling g c) ls))) (sym other) (leases_by (value_calling g c) (valued g c) ls)

called : (g : Layout) (c : Submitted) (m : MemberState) → is_lease_call c ≡ false → IsMemberOf m (member_calling g c m)
called g c m other = by (c.call.session == m.who.number) where
  by : (b : Bool) → IsMemberOf m (cond b (record m { known = known_calling c m.known; joining = joining_calling c m.joining; leases = leases_calling g c m.leases }) m)
  by true = record { who = refl; leases = called_leases g c m.leases other }
  by false = member_same m

-- A call that is no work on a lease.
pub by_call : (session : ℕ) (path : List ℕ) (purpose : Purpose) (offset : ℕ) (op : Op) (h : HostState)
    → is_lease_call (next_submitted h session path purpose offset op) ≡ false → Lessens h (with_call session path purpose offset op h)
by_call session path purpose offset op h other =
    let c = next_submitted h session path purpose offset op in
    record { holdings = refl; jobs = same_many (job_calling c) h.jobs; members = less_by (member_calling h.config.layout c) (λ m. called h.config.layout c m other) h.members; born = refl; lines = refl }

-- ---- of what is kept

pub lessened : (old new : HostView) (f : HostState → HostState) → ((h : HostState) → Lessens h (f h)) → Becomes old new f → Lessens (state_in old.kept) (state_in new.kept)
lessened old new f each comes = subst (Lessens (state_in old.kept)) (sym (comes (λ text. Err 0))) (each (state_in old.kept))

pub no_more : (a b : HostKept) → Lessens (state_in a) (state_in b) → IsNoMore a b
no_more a b x = record { holdings = x.holdings; jobs = x.jobs; members = less_many a.members b.members x.members; leases = less_leases a.members b.members x.members; born = x.born; lines = x.lines }

pub no_more_on : (a b c : HostKept) → IsNoMore a b → IsNoMore b c → IsNoMore a c
no_more_on a b c x y =
    record {
      holdings = y.holdings ∙ x.holdings;
      jobs = trans_le (length c.jobs) (length b.jobs) (length a.jobs) y.jobs x.jobs;
      members = trans_le (length c.members) (length b.members) (length a.members) y.members x.members;
      leases = trans_le (leases_in c.members) (leases_in b.members) (leases_in a.members) y.leases x.leases;
      born = y.born ∙ x.born;
      lines = y.lines ∙ x.lines;
    }
