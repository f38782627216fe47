-- What a session's read of an area gave, where it writes a block later: each block and the leader were submitted before, or stood there
-- at first.
use Rattle.sl_area.specs.AreaSizes.{Layout}
use Rattle.sl_area.specs.Pairs.{BlocksRead, pairs_of}
use Rattle.sl_area.specs.TornLeader.{greatest_lver, leader_made, leader_read}
use Rattle.sl_area.specs.AreaRecords.{fresh_leader}
use Rattle.sl_area.specs.AreaLayout.{leader_of}
use Rattle.sl_safety.proofs.Ballot.ReasonLeaders.{IsUnled, LeaderSeen, Led, Unled, leader_looked}
use Rattle.sl_run_law.proofs.Front.JoinedLists.{placed_at}
use Rattle.sl_run.specs.LawfulBlock.{AreaRead}
use Rattle.sl_run_law.proofs.Leases.AgeLaws.{BecameAmong, aged_lease, answer_stays, became_among, blocks_stay}
use Rattle.sl_run_law.specs.Leases.CallFronts.{Aged, AllAged}
use Rattle.sl_trace.specs.Leases.{blocks_given, is_area_read, is_on, leader_given, read_given, spot_of_call}
use Rattle.sl_run_law.proofs.Place.FoundInLists.{given_by}
use Rattle.sl_run_law.proofs.Place.TracesOnMachines.{answer_gave}
use Rattle.sl_words.proofs.Numbers.{lt_then_le}
use Rattle.sl_safety.proofs.Resources.BlockOrigins.{IsAmong, answer_step, answered_before, line_aligned, older_look, reads_work}
use Rattle.sl_safety.proofs.Resources.TraceReads.{IsWriter, among_split, seen_before}
use Rattle.sl_safety.specs.Resources.HistoryLaws.{spot_of_line}
use Rattle.sl_run.specs.declared.header.ResourceLine.{ResourceLine}
use Rattle.sl_words.proofs.CaseLaws.{none_some, some_value}
use Rattle.sl_safety.proofs.Resources.OwnBlocks.{layout_at, spot_is}
use Rattle.sl_safety.proofs.Resources.HistoryShows.{Seen}
use Rattle.sl_safety.proofs.Resources.CallParts.{Standing}
use Rattle.sl_safety.specs.Resources.SentCalls.{Sent, step_of}
use Rattle.sl_run.specs.Runs.{Happening}
use Rattle.sl_run.specs.Safety.{world_at}
use Rattle.sl_run.specs.Worlds.{Program, World}
use Rattle.sl_run.specs.declared.header.Header.{Header}
use Rattle.sl_sector.specs.declared.sector.Block.{Block}
use Rattle.sl_sector.specs.declared.sector.Leader.{Leader}
use Rattle.sl_trace.specs.Traces.{Answered, Setting, Submitted, Trace, bytes_given, gave, new_call, submitted}
use Rattle.sl_trace.specs.declared.effects.Spot.{Spot}
use Rattle.sl_words.specs.Words.{choose, present}
use Rattle.std.proofs.Common.{ap, inl, inr, refl, subst, sym, ◌∙◌}
use Rattle.std.specs.Prelude.{Bool, Contains, List, None, Option, Some, false, find, nat_lt, option_and_then, slice_get, true, ℕ, ◌==◌, ◌≡◌, ◌≤◌, ◌⊎◌}
use Rattle.sl_sector.specs.declared.sector.PairBlock.{PairBlock}
use Rattle.sl_run_law.specs.Leases.Ways.{lease_among}

-- ---- what was seen once

leader_later : (w : World) (at : Spot) (l : Leader) (n k : ℕ) → n ≤ k → LeaderSeen w at l n → LeaderSeen w at l k
leader_later w at l n k le (Unled h) = Unled h
leader_later w at l n k le (Led z has on is less) = Led z has on is (lt_then_le (step_of z) n k less le)

-- ---- what a call gave stays

gave_stays : (n : ℕ) (was is : Submitted) (bytes : List ℕ) → Aged n was is → gave was ≡ Some bytes → gave is ≡ Some bytes
gave_stays n was is bytes aged told =
    let a = answer_gave was.answer bytes told in
    ap (λ o. option_and_then (λ (z : Answered). bytes_given z.answer) o) (answer_stays n was is a.0 aged a.1 ∙ sym a.1) ∙ told

-- ---- the leader that a read of the area gave

-- One that was made for a torn one is of no instance, and nobody holds it.
made_by : (g : Layout) (some : Bool) (l : Leader) (o : Option PairBlock) → option_and_then (λ (p : PairBlock). choose some (fresh_leader g p.lockspace p.resource)) o ≡ Some l → IsUnled l
made_by g some l None is = absurd (none_some l is)
made_by g false l (Some p) is = absurd (none_some l is)
made_by g true l (Some p) is =
    let same : fresh_leader g p.lockspace p.resource ≡ l = some_value (fresh_leader g p.lockspace p.resource) l is in
    (ap (λ (y : Leader). y.lver) (sym same), ap (λ (y : Leader). y.held) (sym same))

made_unled : (g : Layout) (ps : List PairBlock) (l : Leader) → leader_made g ps ≡ Some l → IsUnled l
made_unled g ps l is = made_by g (nat_lt 0 (greatest_lver ps)) l (find (λ p. p.block.lver == greatest_lver ps) ps) is

spelled_or : (paired : Bool) (spelled made : Option Leader) (l : Leader) → (made ≡ Some l → IsUnled l)
    → elim paired as (λ z. Option Leader) [ false ↦ spelled | true ↦ elim spelled as (λ z. Option Leader) [ Some k ↦ Some k | None ↦ made ] ] ≡ Some l
    → (spelled ≡ Some l) ⊎ IsUnled l
spelled_or false spelled made l unled is = inl is
spelled_or true (Some k) made l unled is = inl is
spelled_or true None made l unled is = inr (unled is)

-- It is what the bytes spell, or with pairs one that was made.
record LeaderTold (g : Layout) (m : Submitted) (l : Leader) : Type 0 where
  bytes : List ℕ
  told : gave m ≡ Some bytes
  from : (leader_of g bytes ≡ Some l) ⊎ IsUnled l

told_by : (g : Layout) (m : Submitted) (l : Leader) (o : Option BlocksRead) (q : Option (List ℕ)) → gave m ≡ q
    → option_and_then (λ (r : BlocksRead). option_and_then (λ bytes. leader_read g bytes r) q) o ≡ Some l → LeaderTold g m l
told_by g m l None q gives is = absurd (none_some l is)
told_by g m l (Some r) None gives is = absurd (none_some l is)
told_by g m l (Some r) (Some bytes) gives is =
    let made : Option Leader = leader_made g (present (pairs_of g r)) in
    record { bytes = bytes; told = gives; from = spelled_or g.paired (leader_of g bytes) made l (λ h. made_unled g (present (pairs_of g r)) l h) is }

leader_told : (g : Layout) (m : Submitted) (ms : List Submitted) (l : Leader) → is_area_read m ≡ true → leader_given g m ms ≡ Some l → LeaderTold g m l
leader_told g m ms l reads is =
    told_by g m l (read_given g m ms) (gave m) refl
    (sym (ap (λ b. elim b as (λ z. Option Leader) [
      | false ↦ None
      | true ↦ option_and_then (λ (r : BlocksRead). option_and_then (λ bytes. leader_read g bytes r) (gave m)) (read_given g m ms)
    ]) reads) ∙ is)

-- ---- what a read of the area gave

pub record AreaSeen (w : World) (at : Spot) (bs : List (Option Block)) (l : Leader) (n : ℕ) : Type 0 where
  pub leader : LeaderSeen w at l n
  pub blocks : (b : Block) → Contains (present bs) b → Seen w at b n

present_there : (xs : List (Option Block)) (b : Block) → Contains (present xs) b → (j : ℕ) × (slice_get xs j ≡ Some (Some b))
present_there xs b has =
    let o = given_by (λ x. x) xs b has in
    let j = placed_at xs o.0 o.1 in
    (j.0, j.1 ∙ ap (λ x. Some x) o.2)

pub area_seen : (p : Program) (h : Header) (xs : List Happening) (r : ResourceLine) (x : Sent) (s : Standing (world_at p h xs) x) → IsWriter p h xs r x s → (n : ℕ) (front : Trace)
    → AllAged n (submitted front) s.told.older → (a : AreaRead s.daemon.setting front s.session (spot_of_line r))
    → AreaSeen (world_at p h xs) (spot_of_line r) a.blocks a.leader (step_of x)
area_seen p h xs r x s writer n front aged a =
    let w : World = world_at p h xs in
    let at : Spot = spot_of_line r in
    let run = writer.run in
    let st : Setting = s.daemon.setting in
    let g : Layout = st.layout in
    let now : BecameAmong n (lease_among st s.session at s.told.older) a.read a.before =
    became_among n a.after a.before a.read (lease_among st s.session at s.told.older)
    (subst (λ ms. AllAged n ms (lease_among st s.session at s.told.older)) a.split (aged_lease st s.session at n (submitted front) s.told.older aged)) in
    let q : Submitted = now.now in
    let among : IsAmong st s.session at s.told.older q = among_split st s.session at s.told.older now.newer q now.before now.split in
    let reads : is_area_read q ≡ true = ap (λ c. is_area_read (new_call 0 0 c)) now.aged.call ∙ a.of_lease.1 in
    let lead = leader_told g a.read a.before a.leader a.of_lease.1 a.spells in
    let told : gave q ≡ Some lead.bytes = gave_stays n a.read q lead.bytes now.aged lead.told in
    let given : blocks_given g q now.before ≡ Some a.blocks = blocks_stay g n a.read q a.before now.before a.blocks now.aged now.rest a.gives in
    let k = older_look p h xs run x s at q among in
    let by = answered_before p h xs run x s writer.work writer.area q (subst (λ y. IsAmong st s.session y s.told.older q) (sym writer.spot) among)
    (reads_work g q now.before a.blocks given) in
    let place : spot_of_call w.layout q ≡ at =
    spot_is w.layout at q (line_aligned p h xs run r writer.there) (ap (λ y. is_on y at q.call) (sym (layout_at p h xs run x s)) ∙ among.on) in
    record {
      leader = elim lead.from as (λ z. LeaderSeen w at a.leader (step_of x)) [
        | inr none ↦ Unled none
        | inl spelled ↦
            let l = leader_looked p h xs x.machine s.machine s.daemon q k reads lead.bytes told a.leader spelled in
            leader_later w at a.leader l.read.stamp.step (step_of x) (answer_step p h xs run x s q by l.read.answered l.read.its l.read.stamp l.read.entry)
            (subst (λ y. LeaderSeen w y a.leader l.read.stamp.step) place l.seen)
      ];
      blocks = λ b has. let j = present_there a.blocks b has in seen_before p h xs r x s writer now.newer q now.before now.split a.blocks given j.0 b j.1;
    }
