-- What follows from the ways of the numbers of a lease: the own block never falls, no free and no ended ballot is above it, and an open
-- ballot is in its instance, above each free.
use Rattle.sl_area.specs.AreaSizes.{Layout}
use Rattle.sl_area.specs.AreaLayout.{area_sectors, block_sectors}
use Rattle.sl_due_leases.proofs.Ways.NewestCall.{block_is, block_is_no_leader, freed_held, freed_passed, leader_is, leader_is_no_block, read_writes_no_block, read_writes_no_leader, submitted_here, submitted_passed}
use Rattle.sl_due_leases.proofs.Ways.WayStages.{again_behind, clear_freed, clear_own, is_at_in, proposed, proposed_lver}
use Rattle.sl_trace.specs.Leases.{Phase1_read, Phase2_read, Phase2_write, block_submitted, block_written, blocks_given, concludes, ended_ballot, ended_ballots, freed, is_at, is_phase_read, leader_written, open_ballot, own_block, stop_in, value_in_end}
use Rattle.sl_trace.specs.Ballots.{is_ahead, stop_of, value_of}
use Rattle.sl_trace.specs.declared.lease.Stop.{Stop}
use Rattle.sl_sector.specs.declared.sector.Block.{Block}
use Rattle.sl_sector.specs.declared.sector.Leader.{Leader}
use Rattle.sl_sector.specs.declared.sector.Owner.{Owner}
use Rattle.sl_due_facts.specs.Facts.WayFacts.{CallWay, IsVerified, PurposeWay, StepWay, WayContext, Ways, WritesBlock, WritesLeader}
use Rattle.sl_trace.specs.Traces.{Submitted, is_heeded}
use Rattle.sl_trace.specs.declared.effects.LeaseStep.TheVariants.{ClearMode, FreeLeader, Phase1Read, Phase1Write, Phase2Read, Phase2Write, ReadAgain, ReadArea, ReadBeforeBlock, ReadBeforeFree, SetMode, TakeLeader}
use Rattle.sl_trace.specs.declared.effects.LeaseStep.{LeaseStep}
use Rattle.sl_trace.specs.declared.effects.Op.TheVariants.{ReadSectors}
use Rattle.sl_trace.specs.declared.effects.Purpose.TheVariants.{Joining, Lease, Leaving, Renewal, RequestRead, RequestWrite, SeeRequest, Survey, ValueRead, ValueWrite}
use Rattle.sl_trace.specs.declared.effects.Purpose.{Purpose}
use Rattle.sl_trace.specs.declared.effects.Work.{Work}
use Rattle.sl_words.proofs.Lists.{contains_cases, contains_more, contains_none}
use Rattle.sl_words.proofs.CaseLaws.{none_some, some_value, true_is_false}
use Rattle.sl_words.proofs.WordLaws.{choose_some}
use Rattle.sl_words.specs.Words.{choose}
use Rattle.std.proofs.Common.{ap, arith, eqb-true, inl, inr, refl, subst, sym, ◌∙◌}
use Rattle.std.specs.Option.{option_map_or}
use Rattle.std.specs.Prelude.{Bool, Contains, IsSome, List, None, Option, Some, [], false, if◌then◌else◌, max, option_and_then, option_map, true, ℕ, ◌&&◌, ◌<◌, ◌==◌, ◌∷◌, ◌≡◌, ◌≤◌, ◌||◌, ◌⊎◌}

-- The instance of the own block; 0 where none was submitted.
abbrev pub own_lver : List Submitted → ℕ
own_lver ms = option_map_or (λ b. b.lver) (block_submitted ms) 0

pub lver_of : (ms : List Submitted) (b : Block) → block_submitted ms ≡ Some b → own_lver ms ≡ b.lver
lver_of ms b is = ap (λ o. option_map_or (λ (x : Block). x.lver) o 0) is

-- ---- what a call of a lease does, by its way

-- A ballot may begin: the name was verified, and the own block is known.
abbrev IsBegun : WayContext → List Submitted → Type 0
IsBegun w ms = IsVerified w ms × IsSome (own_block w.layout w.self.id ms)

pub data Doing (w : WayContext) (m : Submitted) (ms : List Submitted) : Type 0 where
  -- it reads; an open ballot stays open or is concluded
  Reads : (n : ℕ) → m.call.op ≡ ReadSectors n → Doing w m ms
  -- a ballot's block is no fall, and above each free; the name was verified, or a block was written before
  Writes_ballot : (b : Block) → WritesBlock w ms m.call b → own_lver ms ≤ b.lver → freed ms < b.lver → IsBegun w ms ⊎ ((own : Block) × (block_submitted ms ≡ Some own))
      → Doing w m ms
  -- a mode's block is in the own block's instance
  Writes_mode : (b own : Block) → WritesBlock w ms m.call b → block_submitted ms ≡ Some own → own.lver ≡ b.lver → is_at Phase2_write m ≡ false → Doing w m ms
  Takes : (l : Leader) → WritesLeader w m.call l → l.held ≡ true → Doing w m ms
  Frees : (l : Leader) → WritesLeader w m.call l → l.held ≡ false → Contains (ended_ballots w.layout ms) (l.lver, w.self) → open_ballot w.layout ms ≡ None → Doing w m ms

at_most : (a b c : ℕ) → a ≡ b → b ≤ c → a ≤ c
at_most a b c is le = omega (arith, is, le)

same_most : (a b c : ℕ) → a ≡ b → c ≡ b → a ≤ c
same_most a b c is it = omega (arith, is, it)

rises : (ms : List Submitted) (n : ℕ) → ((b : Block) → block_submitted ms ≡ Some b → b.lver ≤ n) → own_lver ms ≤ n
rises ms n up = by (block_submitted ms) refl where
  by : (o : Option Block) → block_submitted ms ≡ o → own_lver ms ≤ n
  by None is = at_most (own_lver ms) 0 n (ap (λ o. option_map_or (λ (x : Block). x.lver) o 0) is) (omega arith)
  by (Some b) is = at_most (own_lver ms) b.lver n (lver_of ms b is) (up b is)

step_doing : (w : WayContext) (m : Submitted) (ms : List Submitted) → Ways w ms → (work : Work) (step : LeaseStep) → m.call.purpose ≡ Lease work step → StepWay w work m.at m.call ms step → Doing w m ms
step_doing w m ms ws work (ReadArea name) is h = Reads (area_sectors w.layout) h
step_doing w m ms ws work ReadBeforeFree is h = Reads (area_sectors w.layout) h.reads
step_doing w m ms ws work ReadBeforeBlock is h = Reads (block_sectors w.layout) h.reads
step_doing w m ms ws work (ReadAgain read) is h = let b = again_behind w work read m ms h ws in Reads b.sectors b.reads.1
step_doing w m ms ws work Phase1Write is h = Writes_ballot h.own h.wrote (rises ms h.own.lver h.rises) h.fresh (inl (h.named, h.known))
step_doing w m ms ws work Phase1Read is h = Reads (block_sectors w.layout) h.reads
step_doing w m ms ws work Phase2Write is h =
    let under : (proposed w work m.call ms h).lver ≡ h.own.lver = proposed_lver w work m.call ms h in
    let fresh : freed ms < h.own.lver = clear_freed w work m.call ms ws h in
    Writes_ballot (proposed w work m.call ms h) h.wrote (same_most (own_lver ms) h.own.lver (proposed w work m.call ms h).lver (lver_of ms h.own (clear_own w work m.call ms ws h)) under)
    (omega (arith, fresh, under)) (inr (h.own, clear_own w work m.call ms ws h))
step_doing w m ms ws work Phase2Read is h = Reads (block_sectors w.layout) h.reads
step_doing w m ms ws work TakeLeader is h = Takes h.leader h.wrote h.held
step_doing w m ms ws work SetMode is h = Writes_mode _ h.own h.wrote h.known refl (ap (λ p. is_at_in Phase2_write p) is)
step_doing w m ms ws work FreeLeader is h = Frees h.leader h.wrote h.free h.won h.concluded
step_doing w m ms ws work ClearMode is h = Writes_mode _ h.own h.wrote h.known refl (ap (λ p. is_at_in Phase2_write p) is)

by_purpose : (w : WayContext) (m : Submitted) (ms : List Submitted) → Ways w ms → (p : Purpose) → m.call.purpose ≡ p → PurposeWay w m.at m.call ms p → Doing w m ms
by_purpose w m ms ws (Lease work step) is h = step_doing w m ms ws work step is h
by_purpose w m ms ws (Joining j step) is h = absurd h
by_purpose w m ms ws Renewal is h = absurd h
by_purpose w m ms ws Survey is h = absurd h
by_purpose w m ms ws (Leaving j) is h = absurd h
by_purpose w m ms ws (RequestRead j) is h = absurd h
by_purpose w m ms ws (RequestWrite j owner) is h = absurd h
by_purpose w m ms ws SeeRequest is h = absurd h
by_purpose w m ms ws (ValueWrite j) is h = absurd h
by_purpose w m ms ws (ValueRead j) is h = absurd h

pub doing : (w : WayContext) (m : Submitted) (ms : List Submitted) → Ways w ms → CallWay w m ms → Doing w m ms
doing w m ms ws h = by_purpose w m ms ws m.call.purpose refl h.way

-- ---- the own block never falls

lver_passed : (m : Submitted) (ms : List Submitted) → block_written m ≡ None → own_lver (m ∷ ms) ≡ own_lver ms
lver_passed m ms none = ap (λ o. option_map_or (λ (x : Block). x.lver) o 0) (submitted_passed m ms none)

itself : (a b : ℕ) → b ≡ a → a ≤ b
itself a b is = omega (arith, is)

up_by : (w : WayContext) (m : Submitted) (ms : List Submitted) → Doing w m ms → own_lver ms ≤ own_lver (m ∷ ms)
up_by w m ms (Reads n op) = itself (own_lver ms) (own_lver (m ∷ ms)) (lver_passed m ms (read_writes_no_block m n op))
up_by w m ms (Writes_ballot b op up fresh named) =
    let is : own_lver (m ∷ ms) ≡ b.lver = lver_of (m ∷ ms) b (submitted_here m ms b (block_is w ms m b op)) in omega (arith, is, up)
up_by w m ms (Writes_mode b own op known same other) =
    let is : own_lver (m ∷ ms) ≡ b.lver = lver_of (m ∷ ms) b (submitted_here m ms b (block_is w ms m b op)) in
    let was : own_lver ms ≡ own.lver = lver_of ms own known in omega (arith, is, was, same)
up_by w m ms (Takes l op held) = itself (own_lver ms) (own_lver (m ∷ ms)) (lver_passed m ms (leader_is_no_block w m l op))
up_by w m ms (Frees l op free won concluded) = itself (own_lver ms) (own_lver (m ∷ ms)) (lver_passed m ms (leader_is_no_block w m l op))

pub goes_up : (w : WayContext) (m : Submitted) (ms : List Submitted) → Ways w (m ∷ ms) → own_lver ms ≤ own_lver (m ∷ ms)
goes_up w m ms h = up_by w m ms (doing w m ms h.1 h.0)

-- ---- names

verified_more : (w : WayContext) (m : Submitted) (ms : List Submitted) → IsVerified w ms → IsVerified w (m ∷ ms)
verified_more w m ms h =
    record {
      read = h.read;
      name = h.name;
      of_lease = contains_more m ms h.read h.of_lease;
      newer = m ∷ h.newer;
      before = h.before;
      split = ap (λ xs. m ∷ xs) h.split;
      verified = h.verified;
    }

-- Who has written a block has verified the name.
pub is_verified : (w : WayContext) (ms : List Submitted) → Ways w ms → (b : Block) → block_submitted ms ≡ Some b → IsVerified w ms
is_verified w [] h b is = absurd (none_some b is)
is_verified w (m ∷ ms) h b is = verified_more w m ms (by (doing w m ms h.1 h.0) (λ x old. is_verified w ms h.1 x old)) where
  by : Doing w m ms → ((x : Block) → block_submitted ms ≡ Some x → IsVerified w ms) → IsVerified w ms
  by (Reads n op) before = before b (sym (submitted_passed m ms (read_writes_no_block m n op)) ∙ is)
  by (Writes_ballot x op up fresh (inl begun)) before = begun.0
  by (Writes_ballot x op up fresh (inr old)) before = before old.0 old.1
  by (Writes_mode x own op known same other) before = before own known
  by (Takes l op held) before = before b (sym (submitted_passed m ms (leader_is_no_block w m l op)) ∙ is)
  by (Frees l op free won concluded) before = before b (sym (submitted_passed m ms (leader_is_no_block w m l op)) ∙ is)

-- ---- ballots that ended

-- What an ended ballot rests on.
pub record EndsBy (g : Layout) (m : Submitted) (ms : List Submitted) (n : ℕ) (o : Owner) : Type 0 where
  pub at2 : is_at Phase2_read m ≡ true
  pub own : Block
  pub known : block_submitted ms ≡ Some own
  pub blocks : List (Option Block)
  pub given : blocks_given g m ms ≡ Some blocks
  pub clear : stop_of own blocks ≡ None
  pub lver : own.lver ≡ n
  pub value : value_of own ≡ o

abbrev first_of : Option (ℕ × Owner) → ℕ
first_of None = 0
first_of (Some p) = p.0

abbrev second_of : Owner → Option (ℕ × Owner) → Owner
second_of o None = o
second_of o (Some p) = p.1

abbrev is_pair : Option (ℕ × Owner) → Bool
is_pair None = false
is_pair (Some p) = true

by_stop : (g : Layout) (m : Submitted) (ms : List Submitted) (n : ℕ) (o : Owner) → is_at Phase2_read m ≡ true → (own : Block) → block_submitted ms ≡ Some own → (blocks : List (Option Block))
    → blocks_given g m ms ≡ Some blocks → (stop : Option Stop) → stop_of own blocks ≡ stop → value_in_end own stop ≡ Some (n, o) → EndsBy g m ms n o
by_stop g m ms n o at2 own known blocks given None clear is =
    record { at2 = at2; own = own; known = known; blocks = blocks; given = given; clear = clear; lver = ap (λ z. first_of z) is; value = ap (λ z. second_of o z) is }
by_stop g m ms n o at2 own known blocks given (Some stop) clear is = absurd (true_is_false (sym (ap (λ z. is_pair z) is)))

by_blocks : (g : Layout) (m : Submitted) (ms : List Submitted) (n : ℕ) (o : Owner) → is_at Phase2_read m ≡ true → (own : Block) → block_submitted ms ≡ Some own → (given : Option (List (Option Block)))
    → blocks_given g m ms ≡ given → option_and_then (λ blocks. value_in_end own (stop_of own blocks)) given ≡ Some (n, o) → EndsBy g m ms n o
by_blocks g m ms n o at2 own known None given is = absurd (true_is_false (sym (ap (λ z. is_pair z) is)))
by_blocks g m ms n o at2 own known (Some blocks) given is = by_stop g m ms n o at2 own known blocks given (stop_of own blocks) refl is

by_own : (g : Layout) (m : Submitted) (ms : List Submitted) (n : ℕ) (o : Owner) → is_at Phase2_read m ≡ true → (own : Option Block) → block_submitted ms ≡ own
    → option_and_then (λ own. option_and_then (λ blocks. value_in_end own (stop_of own blocks)) (blocks_given g m ms)) own ≡ Some (n, o) → EndsBy g m ms n o
by_own g m ms n o at2 None known is = absurd (true_is_false (sym (ap (λ z. is_pair z) is)))
by_own g m ms n o at2 (Some own) known is = by_blocks g m ms n o at2 own known (blocks_given g m ms) refl is

by_read : (g : Layout) (m : Submitted) (ms : List Submitted) (n : ℕ) (o : Owner) (t : Bool) → is_at Phase2_read m ≡ t
    → elim t as (λ x. Option (ℕ × Owner)) [
      | false ↦ None
      | true ↦ option_and_then (λ own. option_and_then (λ blocks. value_in_end own (stop_of own blocks)) (blocks_given g m ms)) (block_submitted ms)
    ] ≡ Some (n, o) → EndsBy g m ms n o
by_read g m ms n o false at2 is = absurd (true_is_false (sym (ap (λ z. is_pair z) is)))
by_read g m ms n o true at2 is = by_own g m ms n o at2 (block_submitted ms) refl is

pub ends_by : (g : Layout) (m : Submitted) (ms : List Submitted) (n : ℕ) (o : Owner) → ended_ballot g m ms ≡ Some (n, o) → EndsBy g m ms n o
ends_by g m ms n o is = by_read g m ms n o (is_at Phase2_read m) refl is

-- It was the newest call's, or one's before.
ended_cases : (g : Layout) (m : Submitted) (ms : List Submitted) (n : ℕ) (o : Owner) → Contains (ended_ballots g (m ∷ ms)) (n, o) → (ended_ballot g m ms ≡ Some (n, o)) ⊎ Contains (ended_ballots g ms) (n, o)
ended_cases g m ms n o there = by (ended_ballot g m ms) there where
  by : (e : Option (ℕ × Owner)) → Contains (elim e as (λ x. List (ℕ × Owner)) [ None ↦ ended_ballots g ms | Some p ↦ p ∷ ended_ballots g ms ]) (n, o) → (e ≡ Some (n, o)) ⊎ Contains (ended_ballots g ms) (n, o)
  by None inside = inr inside
  by (Some p) inside = elim (contains_cases p (ended_ballots g ms) (n, o) inside) [ inl is ↦ inl (ap (λ z. Some z) is) | inr rest ↦ inr rest ]

-- No ended ballot is above the own block.
pub ended_below : (w : WayContext) (ms : List Submitted) → Ways w ms → (n : ℕ) (o : Owner) → Contains (ended_ballots w.layout ms) (n, o) → n ≤ own_lver ms
ended_below w [] h n o there = absurd (contains_none (n, o) there)
ended_below w (m ∷ ms) h n o there = by (ended_cases w.layout m ms n o there) (goes_up w m ms h) (ended_below w ms h.1 n o) where
  by : (ended_ballot w.layout m ms ≡ Some (n, o)) ⊎ Contains (ended_ballots w.layout ms) (n, o) → own_lver ms ≤ own_lver (m ∷ ms) → (Contains (ended_ballots w.layout ms) (n, o) → n ≤ own_lver ms) → n ≤ own_lver (m ∷ ms)
  by (inl now) up before =
      let e : EndsBy w.layout m ms n o = ends_by w.layout m ms n o now in
      let lver : e.own.lver ≡ n = e.lver in
      let is : own_lver ms ≡ e.own.lver = lver_of ms e.own e.known in omega (arith, is, lver, up)
  by (inr old) up before = let le : n ≤ own_lver ms = before old in omega (arith, le, up)

-- ---- frees

freed_here : (m : Submitted) (ms : List Submitted) (l : Leader) → leader_written m ≡ Some l → l.held ≡ false → freed (m ∷ ms) ≡ max l.lver (freed ms)
freed_here m ms l is free =
    ap (λ (o : Option Leader). max (option_map_or (λ x. if x.held then 0 else x.lver) o 0) (freed ms)) is
    ∙ ap (λ b. max (if b then 0 else l.lver) (freed ms)) free

held_is_none : (l : Leader) → l.held ≡ true → (if l.held then 0 else l.lver) ≡ 0
held_is_none l is = ap (λ b. if b then 0 else l.lver) is

-- No free is above the own block.
pub freed_below : (w : WayContext) (ms : List Submitted) → Ways w ms → freed ms ≤ own_lver ms
freed_below w [] h = omega arith
freed_below w (m ∷ ms) h = by (doing w m ms h.1 h.0) (goes_up w m ms h) (freed_below w ms h.1) where
  by : Doing w m ms → own_lver ms ≤ own_lver (m ∷ ms) → freed ms ≤ own_lver ms → freed (m ∷ ms) ≤ own_lver (m ∷ ms)
  by (Reads n op) up before = let is : freed (m ∷ ms) ≡ freed ms = freed_passed m ms (read_writes_no_leader m n op) in omega (arith, is, up, before)
  by (Writes_mode b own op known same other) up before = let is : freed (m ∷ ms) ≡ freed ms = freed_passed m ms (block_is_no_leader w ms m b op) in omega (arith, is, up, before)
  by (Writes_ballot b op rise fresh named) up before = let is : freed (m ∷ ms) ≡ freed ms = freed_passed m ms (block_is_no_leader w ms m b op) in omega (arith, is, up, before)
  by (Takes l op held) up before = let is : freed (m ∷ ms) ≡ freed ms = freed_held m ms l (leader_is w m l op) (held_is_none l held) in omega (arith, is, up, before)
  by (Frees l op free won concluded) up before =
      let is : freed (m ∷ ms) ≡ max l.lver (freed ms) = freed_here m ms l (leader_is w m l op) free in
      let le : l.lver ≤ own_lver ms = ended_below w ms h.1 l.lver w.self won in omega (arith, is, le, up, before)

-- ---- the open ballot

not_open : (n : ℕ) → None ≡ Some n → ⊥
not_open n is = none_some n is

passed_by : (w : WayContext) (m : Submitted) (ms : List Submitted) (n : ℕ) (o : Option Block) → block_written m ≡ o → o ≡ None → open_ballot w.layout (m ∷ ms) ≡ Some n → open_ballot w.layout ms ≡ Some n
passed_by w m ms n (Some b) is none stands = absurd (none_some b (sym none))
passed_by w m ms n None is none stands = kept (concludes w.layout m ms) (sym (ap (λ z. elim z as (λ x. Option ℕ) [ Some b ↦ elim (is_at Phase2_write m) as (λ x. Option ℕ) [ true ↦ Some b.lver | false ↦ option_and_then (λ k. choose (b.lver == k) k) (open_ballot w.layout ms) ] | None ↦ elim (concludes w.layout m ms) as (λ x. Option ℕ) [ true ↦ None | false ↦ open_ballot w.layout ms ] ]) is) ∙ stands) where
  kept : (t : Bool) → elim t as (λ x. Option ℕ) [ true ↦ None | false ↦ open_ballot w.layout ms ] ≡ Some n → open_ballot w.layout ms ≡ Some n
  kept true at = absurd (none_some n at)
  kept false at = at

-- A call that writes no block opens none.
pub open_passed : (w : WayContext) (m : Submitted) (ms : List Submitted) (n : ℕ) → block_written m ≡ None → open_ballot w.layout (m ∷ ms) ≡ Some n → open_ballot w.layout ms ≡ Some n
open_passed w m ms n none stands = passed_by w m ms n (block_written m) refl none stands

-- What an open ballot is after a block.
pub record OpenHere (w : WayContext) (m : Submitted) (ms : List Submitted) (b : Block) (n : ℕ) : Type 0 where
  pub under : b.lver ≡ n
  pub old : is_at Phase2_write m ≡ false → open_ballot w.layout ms ≡ Some n

chosen : (b : Block) (n : ℕ) (o : Option ℕ) → option_and_then (λ k. choose (b.lver == k) k) o ≡ Some n → (b.lver ≡ n) × (o ≡ Some n)
chosen b n None is = absurd (none_some n is)
chosen b n (Some k) is =
    let both : ((b.lver == k) ≡ true) × (k ≡ n) = choose_some (b.lver == k) k n is in
    (eqb-true b.lver k both.0 ∙ both.1, ap (λ z. Some z) both.1)

opened_at : (w : WayContext) (m : Submitted) (ms : List Submitted) (b : Block) (n : ℕ) (t : Bool) → is_at Phase2_write m ≡ t
    → elim t as (λ x. Option ℕ) [ true ↦ Some b.lver | false ↦ option_and_then (λ k. choose (b.lver == k) k) (open_ballot w.layout ms) ] ≡ Some n → OpenHere w m ms b n
opened_at w m ms b n true at is = record { under = some_value b.lver n is; old = λ no_phase2. absurd (true_is_false (sym at ∙ no_phase2)) }
opened_at w m ms b n false at is = let both = chosen b n (open_ballot w.layout ms) is in record { under = both.0; old = λ no_phase2. both.1 }

pub open_here : (w : WayContext) (m : Submitted) (ms : List Submitted) (b : Block) (n : ℕ) → block_written m ≡ Some b → open_ballot w.layout (m ∷ ms) ≡ Some n → OpenHere w m ms b n
open_here w m ms b n is stands =
    opened_at w m ms b n (is_at Phase2_write m) refl
    (sym (ap (λ z. elim z as (λ x. Option ℕ) [ Some b ↦ elim (is_at Phase2_write m) as (λ x. Option ℕ) [ true ↦ Some b.lver | false ↦ option_and_then (λ k. choose (b.lver == k) k) (open_ballot w.layout ms) ] | None ↦ elim (concludes w.layout m ms) as (λ x. Option ℕ) [ true ↦ None | false ↦ open_ballot w.layout ms ] ]) is) ∙ stands)

-- What is known of an open ballot.
pub record IsOpened (ms : List Submitted) (n : ℕ) : Type 0 where
  pub own : Block
  pub known : block_submitted ms ≡ Some own
  pub under : own.lver ≡ n
  pub fresh : freed ms < n

opened_passed : (m : Submitted) (ms : List Submitted) (n : ℕ) → block_written m ≡ None → freed (m ∷ ms) ≡ freed ms → IsOpened ms n → IsOpened (m ∷ ms) n
opened_passed m ms n none same h = record { own = h.own; known = submitted_passed m ms none ∙ h.known; under = h.under; fresh = subst (λ k. k < n) (sym same) h.fresh }

opened_block : (w : WayContext) (m : Submitted) (ms : List Submitted) (b : Block) (n : ℕ) → WritesBlock w ms m.call b → b.lver ≡ n → freed ms < n → IsOpened (m ∷ ms) n
opened_block w m ms b n op under fresh =
    record { own = b; known = submitted_here m ms b (block_is w ms m b op); under = under; fresh = subst (λ k. k < n) (sym (freed_passed m ms (block_is_no_leader w ms m b op))) fresh }

-- An open ballot is of the own block's instance, above each free.
pub is_opened : (w : WayContext) (ms : List Submitted) → Ways w ms → (n : ℕ) → open_ballot w.layout ms ≡ Some n → IsOpened ms n
is_opened w [] h n is = absurd (none_some n is)
is_opened w (m ∷ ms) h n is = by (doing w m ms h.1 h.0) (is_opened w ms h.1 n) where
  by : Doing w m ms → (open_ballot w.layout ms ≡ Some n → IsOpened ms n) → IsOpened (m ∷ ms) n
  by (Reads k op) before = opened_passed m ms n (read_writes_no_block m k op) (freed_passed m ms (read_writes_no_leader m k op)) (before (open_passed w m ms n (read_writes_no_block m k op) is))
  by (Writes_ballot b op rise fresh named) before =
      let o : OpenHere w m ms b n = open_here w m ms b n (block_is w ms m b op) is in
      opened_block w m ms b n op o.under (subst (λ k. freed ms < k) o.under fresh)
  by (Writes_mode b own op known same other) before =
      let o : OpenHere w m ms b n = open_here w m ms b n (block_is w ms m b op) is in
      opened_block w m ms b n op o.under (before (o.old other)).fresh
  by (Takes l op held) before =
      opened_passed m ms n (leader_is_no_block w m l op) (freed_held m ms l (leader_is w m l op) (held_is_none l held)) (before (open_passed w m ms n (leader_is_no_block w m l op) is))
  by (Frees l op free won concluded) before = absurd (none_some n (sym concluded ∙ open_passed w m ms n (leader_is_no_block w m l op) is))

-- ---- a ballot that was concluded

-- A read of phase 2 that was heeded and ended the ballot concludes it.
pub ended_concludes : (g : Layout) (m : Submitted) (ms : List Submitted) (n : ℕ) (o : Owner) → block_written m ≡ None → is_heeded m ≡ true → ended_ballot g m ms ≡ Some (n, o) → open_ballot g (m ∷ ms) ≡ None
ended_concludes g m ms n o none heeded ended =
    let e : EndsBy g m ms n o = ends_by g m ms n o ended in
    let read : is_phase_read m ≡ true = either (is_at Phase1_read m) (is_at Phase2_read m) e.at2 in
    let stop : stop_in g m ms ≡ Some None =
    ap (λ z. option_and_then (λ own. option_map (stop_of own) (blocks_given g m ms)) z) e.known
    ∙ ap (λ z. option_map (stop_of e.own) z) e.given ∙ ap (λ z. Some z) e.clear
    in
    let done : concludes g m ms ≡ true =
    ap (λ b. elim (b && is_phase_read m) as (λ x. Bool) [ false ↦ false | true ↦ elim (stop_in g m ms) as (λ x. Bool) [ None ↦ false | Some stop ↦ elim stop as (λ x. Bool) [ None ↦ is_at Phase2_read m | Some why ↦ is_ahead why ] ] ]) heeded
    ∙ ap (λ b. elim b as (λ x. Bool) [ false ↦ false | true ↦ elim (stop_in g m ms) as (λ x. Bool) [ None ↦ false | Some stop ↦ elim stop as (λ x. Bool) [ None ↦ is_at Phase2_read m | Some why ↦ is_ahead why ] ] ]) read
    ∙ ap (λ z. elim z as (λ x. Bool) [ None ↦ false | Some stop ↦ elim stop as (λ x. Bool) [ None ↦ is_at Phase2_read m | Some why ↦ is_ahead why ] ]) stop ∙ e.at2
    in
    ap (λ z. elim z as (λ x. Option ℕ) [ Some b ↦ elim (is_at Phase2_write m) as (λ x. Option ℕ) [ true ↦ Some b.lver | false ↦ option_and_then (λ k. choose (b.lver == k) k) (open_ballot g ms) ] | None ↦ elim (concludes g m ms) as (λ x. Option ℕ) [ true ↦ None | false ↦ open_ballot g ms ] ]) none
    ∙ ap (λ b. elim b as (λ x. Option ℕ) [ true ↦ None | false ↦ open_ballot g ms ]) done
  where
    either : (a b : Bool) → b ≡ true → (a || b) ≡ true
    either true b is = refl
    either false b is = is
