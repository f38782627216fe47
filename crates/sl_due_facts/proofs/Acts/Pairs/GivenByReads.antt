-- What a read of a lease gives. A first read that is to be made once more tells nothing, and changes of what is known of the lease the turn
-- alone, and what is kept of a first read; all that is given are records.
use Rattle.sl_due_facts.proofs.Acts.Pairs.DecodedRecords.{AreBlocks, ArePairs, blocks_are, kept_are_pairs, leader_is}
use Rattle.sl_due_facts.proofs.Acts.Pairs.Records.{read_no_block, read_no_leader}
use Rattle.sl_area.specs.AreaSizes.{Layout}
use Rattle.sl_area.specs.Pairs.{BlocksRead, blocks_of, needs_again, pairs_kept, read_once}
use Rattle.sl_area.specs.TornLeader.{leader_read}
use Rattle.sl_area.specs.AreaLayout.{blocks_part}
use Rattle.sl_words.proofs.Lists.{got_inside}
use Rattle.sl_words.proofs.Options.{mapped_value, then_value}
use Rattle.sl_sector.specs.Records.{IsBlock, IsLeader, IsPair}
use Rattle.sl_sector.specs.declared.sector.Block.{Block}
use Rattle.sl_sector.specs.declared.sector.Leader.{Leader}
use Rattle.sl_sector.specs.declared.sector.Owner.{Owner}
use Rattle.sl_sector.specs.declared.sector.PairBlock.{PairBlock}
use Rattle.sl_trace.specs.Ballots.{is_ahead, same_owner, stop_of}
use Rattle.sl_trace.specs.LeaseDecisions.{first_step, part_read, read_of_step}
use Rattle.sl_trace.specs.Leases.{Area_read, Phase1_read, Phase2_read, Phase2_write, Read_before_block, Read_before_free, StepKind, block_of_host, block_submitted, block_written, blocks_bytes, blocks_given, concludes, ended_ballot, ended_ballots, first_kept, free_left, freed, given_with, is_again, is_area_read, is_at, is_leader_of, is_phase_read, is_second, kept_before, kind_of_step, last_blocks, leader_given, leader_written, leaders_given, lease_step, may_show_shared, name_sought, open_ballot, read_given, same_kind, settles_free, shows_settled, stop_in, value_in_end, verified_by, verified_name, was_settled, won_by}
use Rattle.sl_trace.specs.Traces.{Submitted, gave, is_answered_ok, is_heeded}
use Rattle.sl_trace.specs.declared.effects.LeaseRead.TheVariants.{OfArea, OfBlock, OfFree, OfPhase1, OfPhase2}
use Rattle.sl_trace.specs.declared.effects.LeaseStep.TheVariants.{ClearMode, FreeLeader, Phase1Read, Phase1Write, Phase2Read, Phase2Write, ReadAgain, ReadArea, ReadBeforeBlock, ReadBeforeFree, SetMode, TakeLeader}
use Rattle.sl_trace.specs.declared.effects.LeaseStep.{LeaseStep}
use Rattle.sl_trace.specs.declared.effects.Op.TheVariants.{ReadSectors}
use Rattle.sl_trace.specs.declared.effects.Purpose.TheVariants.{Lease}
use Rattle.sl_trace.specs.declared.effects.Purpose.{Purpose}
use Rattle.sl_trace.specs.declared.effects.Work.{Work}
use Rattle.sl_words.proofs.CaseLaws.{false_is_true, none_some, some_value}
use Rattle.sl_words.proofs.WordLaws.{choose_some}
use Rattle.sl_words.specs.Bounds.{most_hosts}
use Rattle.sl_words.specs.Words.{choose, first_of_list, some_is}
use Rattle.std.proofs.Common.{IfSome, ap, arith, refl, subst, ◌∙◌}
use Rattle.std.proofs.lemmas.List.Elements.{All-contains, All-nil}
use Rattle.std.specs.Option.{option_map_or}
use Rattle.std.specs.Prelude.{Bool, List, None, Option, Some, [], false, if◌then◌else◌, is_some, max, not, option_and_then, option_map, slice_get, true, unwrap_or, ℕ, ◌&&◌, ◌-◌, ◌==◌, ◌||◌, ◌∷◌, ◌≡◌, ◌≤◌}

-- ---- by the step of a call

pub at_kind : (kind : StepKind) (m : Submitted) (work : Work) (step : LeaseStep) → m.call.purpose ≡ Lease work step → is_at kind m ≡ same_kind (kind_of_step step) kind
at_kind kind m work step is = ap (λ p. some_is (λ (q : Work × LeaseStep). same_kind (kind_of_step q.1) kind) (lease_step p)) is

pub again_at : (m : Submitted) (work : Work) (step : LeaseStep) → m.call.purpose ≡ Lease work step → is_again m ≡ is_second step
again_at m work step is = ap (λ p. some_is (λ (q : Work × LeaseStep). is_second q.1) (lease_step p)) is

abbrev at_in : StepKind → Purpose → Bool
at_in kind p = some_is (λ (q : Work × LeaseStep). same_kind (kind_of_step q.1) kind) (lease_step p)

abbrev area_in : Purpose → Bool
area_in p = at_in Area_read p || at_in Read_before_free p

abbrev phase_in : Purpose → Bool
phase_in p = at_in Phase1_read p || at_in Phase2_read p

abbrev part_in : Layout → List ℕ → Purpose → Option (List ℕ)
part_in g bytes p = elim (area_in p) [ true ↦ Some (blocks_part g bytes) | false ↦ choose (area_in p || phase_in p || at_in Read_before_block p) bytes ]

part_at : (g : Layout) (bytes : List ℕ) (work : Work) (step : LeaseStep) → is_some (read_of_step (first_step step)) ≡ true → part_in g bytes (Lease work step) ≡ Some (part_read g bytes (first_step step))
part_at g bytes work (ReadArea name) reads = refl
part_at g bytes work ReadBeforeFree reads = refl
part_at g bytes work ReadBeforeBlock reads = refl
part_at g bytes work Phase1Read reads = refl
part_at g bytes work Phase2Read reads = refl
part_at g bytes work (ReadAgain (OfArea name)) reads = refl
part_at g bytes work (ReadAgain OfFree) reads = refl
part_at g bytes work (ReadAgain OfBlock) reads = refl
part_at g bytes work (ReadAgain OfPhase1) reads = refl
part_at g bytes work (ReadAgain OfPhase2) reads = refl
part_at g bytes work Phase1Write reads = absurd (false_is_true reads)
part_at g bytes work Phase2Write reads = absurd (false_is_true reads)
part_at g bytes work TakeLeader reads = absurd (false_is_true reads)
part_at g bytes work SetMode reads = absurd (false_is_true reads)
part_at g bytes work FreeLeader reads = absurd (false_is_true reads)
part_at g bytes work ClearMode reads = absurd (false_is_true reads)

-- The bytes of all blocks that a read gave.
pub bytes_at : (g : Layout) (m : Submitted) (work : Work) (step : LeaseStep) (bytes : List ℕ) → m.call.purpose ≡ Lease work step → is_some (read_of_step (first_step step)) ≡ true → gave m ≡ Some bytes
    → blocks_bytes g m ≡ Some (part_read g bytes (first_step step))
bytes_at g m work step bytes is reads gives =
    ap (λ o. elim o as (λ z. Option (List ℕ)) [ None ↦ None | Some bs ↦ part_in g bs m.call.purpose ]) gives ∙ (ap (part_in g bytes) is ∙ part_at g bytes work step reads)

-- ---- a read that tells nothing

pub record TellsNothing (g : Layout) (m : Submitted) (ms : List Submitted) : Type 0 where
  pub blocks : blocks_given g m ms ≡ None
  pub leader : leader_given g m ms ≡ None
  pub stop : stop_in g m ms ≡ None
  pub ended : ended_ballot g m ms ≡ None
  pub verified : (lockspace : List ℕ) → verified_by g lockspace m ms ≡ None
  pub won : (self : Owner) → won_by g self m ms ≡ None
  pub concludes_none : concludes g m ms ≡ false
  pub settled : (self : Owner) (n : ℕ) → was_settled g self n m ms ≡ false

pub nothing_given : (g : Layout) (m : Submitted) (ms : List Submitted) → read_given g m ms ≡ None → TellsNothing g m ms
nothing_given g m ms none =
    record {
      blocks = blocks;
      leader = leader;
      stop = stop;
      ended = ended;
      verified = λ lockspace. names lockspace (name_sought m.call.purpose);
      won = λ self. wins self (is_heeded m);
      concludes_none = stopped (is_heeded m && is_phase_read m);
      settled = λ self n. shows self n (is_at Read_before_free m);
    } where
      blocks : blocks_given g m ms ≡ None
      blocks = ap (λ o. option_map (blocks_of g) o) none

      led : (b : Bool) → elim b as (λ z. Option Leader) [ false ↦ None | true ↦ option_and_then (λ r. option_and_then (λ bytes. leader_read g bytes r) (gave m)) (read_given g m ms) ] ≡ None
      led false = refl
      led true = ap (λ o. option_and_then (λ r. option_and_then (λ bytes. leader_read g bytes r) (gave m)) o) none

      leader : leader_given g m ms ≡ None
      leader = led (is_area_read m)

      stop_by : (own : Option Block) → option_and_then (λ own. option_map (stop_of own) (blocks_given g m ms)) own ≡ None
      stop_by None = refl
      stop_by (Some own) = ap (λ o. option_map (stop_of own) o) blocks

      stop : stop_in g m ms ≡ None
      stop = stop_by (block_submitted ms)

      end_by : (own : Option Block) → option_and_then (λ own. option_and_then (λ blocks. value_in_end own (stop_of own blocks)) (blocks_given g m ms)) own ≡ None
      end_by None = refl
      end_by (Some own) = ap (λ o. option_and_then (λ blocks. value_in_end own (stop_of own blocks)) o) blocks

      ends : (b : Bool)
          → elim b as (λ z. Option (ℕ × Owner)) [ false ↦ None | true ↦ option_and_then (λ own. option_and_then (λ blocks. value_in_end own (stop_of own blocks)) (blocks_given g m ms)) (block_submitted ms) ] ≡ None
      ends false = refl
      ends true = end_by (block_submitted ms)

      ended : ended_ballot g m ms ≡ None
      ended = ends (is_at Phase2_read m)

      names : (lockspace : List ℕ) (o : Option (List ℕ))
          → elim o as (λ z. Option (List ℕ)) [
            | None ↦ None
            | Some name ↦ elim (leader_given g m ms) as (λ z. Option (List ℕ)) [ None ↦ None | Some l ↦ choose (is_leader_of g lockspace name l) name ]
          ] ≡ None
      names lockspace None = refl
      names lockspace (Some name) = ap (λ o. elim o as (λ z. Option (List ℕ)) [ None ↦ None | Some l ↦ choose (is_leader_of g lockspace name l) name ]) leader

      wins : (self : Owner) (b : Bool) → elim b as (λ z. Option ℕ) [ false ↦ None | true ↦ option_and_then (λ p. choose (same_owner p.1 self) p.0) (ended_ballot g m ms) ] ≡ None
      wins self false = refl
      wins self true = ap (λ (o : Option (ℕ × Owner)). option_and_then (λ p. choose (same_owner p.1 self) p.0) o) ended

      stopped : (b : Bool)
          → elim b as (λ z. Bool) [
            | false ↦ false
            | true ↦ elim (stop_in g m ms) as (λ z. Bool) [ None ↦ false | Some why ↦ elim why as (λ z. Bool) [ None ↦ is_at Phase2_read m | Some stop ↦ is_ahead stop ] ]
          ] ≡ false
      stopped false = refl
      stopped true =
          ap (λ o. elim o as (λ z. Bool) [ None ↦ false | Some why ↦ elim why as (λ z. Bool) [ None ↦ is_at Phase2_read m | Some s ↦ is_ahead s ] ]) stop

      shows : (self : Owner) (n : ℕ) (b : Bool) → elim b as (λ z. Bool) [ false ↦ false | true ↦ some_is (shows_settled self n (leader_given g m ms)) (blocks_given g m ms) ] ≡ false
      shows self n false = refl
      shows self n true = ap (λ o. some_is (shows_settled self n (leader_given g m ms)) o) blocks

pub first_tells_nothing : (g : Layout) (m : Submitted) (ms : List Submitted) (bytes : List ℕ) → is_again m ≡ false → blocks_bytes g m ≡ Some bytes → needs_again g bytes ≡ true → TellsNothing g m ms
first_tells_nothing g m ms bytes first is torn =
    nothing_given g m ms
    (ap (λ b. given_with g b (kept_before g ms) (blocks_bytes g m)) first ∙ (ap (given_with g false (kept_before g ms)) is ∙ ap (λ b. choose (not b) (read_once bytes)) torn))

-- What it leaves as it was.
pub record LeavesKnown (g : Layout) (lockspace : List ℕ) (self : Owner) (m : Submitted) (ms : List Submitted) : Type 0 where
  pub last : last_blocks g (m ∷ ms) ≡ last_blocks g ms
  pub leaders : leaders_given g (m ∷ ms) ≡ leaders_given g ms
  pub ended : ended_ballots g (m ∷ ms) ≡ ended_ballots g ms
  pub name : verified_name g lockspace (m ∷ ms) ≡ verified_name g lockspace ms
  pub submitted : block_submitted (m ∷ ms) ≡ block_submitted ms
  pub frees : freed (m ∷ ms) ≡ freed ms
  pub ballot : open_ballot g (m ∷ ms) ≡ open_ballot g ms
  pub shown : may_show_shared (m ∷ ms) ≡ may_show_shared ms
  pub left : free_left g self (m ∷ ms) ≡ free_left g self ms

pub leaves_known : (g : Layout) (lockspace : List ℕ) (self : Owner) (m : Submitted) (ms : List Submitted) (n : ℕ) → m.call.op ≡ ReadSectors n → TellsNothing g m ms → LeavesKnown g lockspace self m ms
leaves_known g lockspace self m ms n op h =
    record {
      last = ap (λ o. elim o as (λ z. List (Option Block)) [ Some bs ↦ bs | None ↦ last_blocks g ms ]) h.blocks;
      leaders = ap (λ o. elim o as (λ z. List Leader) [ None ↦ leaders_given g ms | Some l ↦ l ∷ leaders_given g ms ]) h.leader;
      ended = ap (λ o. elim o as (λ z. List (ℕ × Owner)) [ None ↦ ended_ballots g ms | Some p ↦ p ∷ ended_ballots g ms ]) h.ended;
      name = ap (λ o. elim o as (λ z. List ℕ) [ Some name ↦ name | None ↦ verified_name g lockspace ms ]) (h.verified lockspace);
      submitted = ap (λ o. elim o as (λ z. Option Block) [ Some b ↦ Some b | None ↦ block_submitted ms ]) none;
      frees = ap (λ o. max (option_map_or (λ (l : Leader). if l.held then 0 else l.lver) o 0) (freed ms)) no_leader ∙ omega arith;
      ballot = ap (λ o. elim o as (λ z. Option ℕ) [
        | Some b ↦ elim (is_at Phase2_write m) as (λ z. Option ℕ) [ true ↦ Some b.lver | false ↦ option_and_then (λ k. choose (b.lver == k) k) (open_ballot g ms) ]
        | None ↦ elim (concludes g m ms) as (λ z. Option ℕ) [ true ↦ None | false ↦ open_ballot g ms ]
      ]) none
          ∙ ap (λ b. elim b as (λ z. Option ℕ) [ true ↦ None | false ↦ open_ballot g ms ]) h.concludes_none;
      shown = ap (λ o. elim o as (λ z. Bool) [
        | None ↦ may_show_shared ms
        | Some b ↦ elim b.shared as (λ z. Bool) [ true ↦ true | false ↦ elim (is_answered_ok m) as (λ z. Bool) [ true ↦ false | false ↦ may_show_shared ms ] ]
      ]) none;
      left = ap (λ o. elim o as (λ z. Option ℕ) [ Some k ↦ Some k | None ↦ option_and_then (λ k. choose (not (settles_free g self k m ms)) k) (free_left g self ms) ]) (h.won self)
          ∙ still (free_left g self ms);
    } where
      none : block_written m ≡ None
      none = read_no_block m n op

      no_leader : leader_written m ≡ None
      no_leader = read_no_leader m n op

      settles_none : (k : ℕ) → settles_free g self k m ms ≡ false
      settles_none k = ap (λ o. some_is (λ (l : Leader). l.lver == k && not l.held) o && is_answered_ok m || was_settled g self k m ms) no_leader ∙ h.settled self k

      still : (o : Option ℕ) → option_and_then (λ k. choose (not (settles_free g self k m ms)) k) o ≡ o
      still None = refl
      still (Some k) = ap (λ b. choose (not b) k) (settles_none k)

-- ---- all that is given are records

mapped_pairs : (g : Layout) (o : Option (List ℕ)) → IfSome (option_map (pairs_kept g) o) ArePairs
mapped_pairs g None = tt
mapped_pairs g (Some bytes) = kept_are_pairs g bytes

kept_pairs : (g : Layout) (ms : List Submitted) → IfSome (kept_before g ms) ArePairs
kept_pairs g ms = mapped_pairs g (option_and_then (blocks_bytes g) (first_of_list ms))

pub given_kept : (g : Layout) (m : Submitted) (ms : List Submitted) (r : BlocksRead) → read_given g m ms ≡ Some r → ArePairs r.kept
given_kept g m ms r is = by (is_again m) (kept_before g ms) (blocks_bytes g m) (kept_pairs g ms) is where
  by : (again : Bool) (kept : Option (List (Option PairBlock))) (bytes : Option (List ℕ)) → IfSome kept ArePairs → given_with g again kept bytes ≡ Some r → ArePairs r.kept
  by again kept None pairs h = absurd (none_some r h)
  by false kept (Some bs) pairs h = subst (λ (q : BlocksRead). ArePairs q.kept) (choose_some (not (needs_again g bs)) (read_once bs) r h).1 (All-nil (λ o. IfSome o IsPair))
  by true None (Some bs) pairs h = absurd (none_some r h)
  by true (Some ps) (Some bs) pairs h = subst (λ (q : BlocksRead). ArePairs q.kept) (some_value (record { kept = ps; last = bs }) r h) pairs

pub given_are_blocks : (g : Layout) (m : Submitted) (ms : List Submitted) (bs : List (Option Block)) → blocks_given g m ms ≡ Some bs → AreBlocks bs
given_are_blocks g m ms bs is =
    let r = mapped_value (blocks_of g) (read_given g m ms) bs is in subst AreBlocks r.2 (blocks_are g r.0 (given_kept g m ms r.0 r.1))

pub last_are_blocks : (g : Layout) (ms : List Submitted) → AreBlocks (last_blocks g ms)
last_are_blocks g [] = All-nil (λ o. IfSome o IsBlock)
last_are_blocks g (m ∷ ms) = by (blocks_given g m ms) (given_are_blocks g m ms) (last_are_blocks g ms) where
  by : (o : Option (List (Option Block))) → ((bs : List (Option Block)) → o ≡ Some bs → AreBlocks bs) → AreBlocks (last_blocks g ms)
      → AreBlocks (elim o as (λ z. List (Option Block)) [ Some bs ↦ bs | None ↦ last_blocks g ms ])
  by None given rest = rest
  by (Some bs) given rest = given bs refl

pub host_is_block : (bs : List (Option Block)) (host : ℕ) (b : Block) → AreBlocks bs → block_of_host bs host ≡ Some b → IsBlock b
host_is_block bs host b all is = by (slice_get bs (host - 1)) (λ o at. All-contains (λ z. IfSome z IsBlock) bs o all (got_inside bs (host - 1) o at)) is where
  by : (o : Option (Option Block)) → ((z : Option Block) → o ≡ Some z → IfSome z IsBlock) → unwrap_or o None ≡ Some b → IsBlock b
  by None each h = absurd (none_some b h)
  by (Some z) each h = subst (λ v. IfSome v IsBlock) h (each z refl)

pub given_is_leader : (g : Layout) → (1 ≤ g.hosts) × (g.hosts ≤ most_hosts) → (m : Submitted) (ms : List Submitted) (l : Leader) → leader_given g m ms ≡ Some l → IsLeader l
given_is_leader g most m ms l is = by (is_area_read m) is where
  by : (area : Bool) → elim area as (λ z. Option Leader) [ false ↦ None | true ↦ option_and_then (λ r. option_and_then (λ bytes. leader_read g bytes r) (gave m)) (read_given g m ms) ] ≡ Some l → IsLeader l
  by false h = absurd (none_some l h)
  by true h =
      let r = then_value (λ (r : BlocksRead). option_and_then (λ bytes. leader_read g bytes r) (gave m)) (read_given g m ms) l h in
      let bytes = then_value (λ bs. leader_read g bs r.0) (gave m) l r.2 in
      leader_is g most bytes.0 r.0 (given_kept g m ms r.0 r.1) l bytes.2

-- What is kept of a first read, too.
pub first_are_pairs : (g : Layout) (ms : List Submitted) → ArePairs (first_kept g ms)
first_are_pairs g [] = All-nil (λ o. IfSome o IsPair)
first_are_pairs g (m ∷ ms) = by (is_again m) (kept_before g ms) (kept_pairs g ms) where
  by : (again : Bool) (o : Option (List (Option PairBlock))) → IfSome o ArePairs → ArePairs (elim again as (λ z. List (Option PairBlock)) [ false ↦ [] | true ↦ unwrap_or o [] ])
  by false o pairs = All-nil (λ o. IfSome o IsPair)
  by true None pairs = All-nil (λ o. IfSome o IsPair)
  by true (Some ps) pairs = pairs
