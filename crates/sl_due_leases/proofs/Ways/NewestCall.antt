-- What the newest call adds to what is asked of a lease's calls.
use Rattle.sl_due_facts.proofs.Acts.Pairs.Records.{leader_lver, written_block, written_leader, written_no_block, written_no_leader}
use Rattle.sl_area.specs.AreaSizes.{Layout}
use Rattle.sl_due_facts.specs.Facts.WayFacts.{WayContext, WritesBlock, WritesLeader}
use Rattle.sl_words.proofs.Lists.{contains_first, contains_more}
use Rattle.sl_trace.specs.Leases.{base_turn, block_of_record, block_submitted, block_written, ended_ballot, ended_ballots, freed, leader_of_record, leader_written, lver_written, verified_name}
use Rattle.sl_sector.specs.declared.sector.Block.{Block}
use Rattle.sl_sector.specs.declared.sector.Leader.{Leader}
use Rattle.sl_sector.specs.declared.sector.Owner.{Owner}
use Rattle.sl_trace.specs.Traces.{Submitted, record_of}
use Rattle.sl_trace.specs.declared.effects.Op.TheVariants.{ReadSectors}
use Rattle.std.proofs.Common.{ap, arith, ◌∙◌}
use Rattle.std.specs.Option.{option_map_or}
use Rattle.std.specs.Prelude.{Contains, List, None, Option, Some, find, if◌then◌else◌, is_some, max, option_and_then, ℕ, ◌+◌, ◌∷◌, ◌≡◌}

-- ---- what a call writes

pub read_writes_no_block : (m : Submitted) (n : ℕ) → m.call.op ≡ ReadSectors n → block_written m ≡ None
read_writes_no_block m n is = ap (λ o. option_and_then block_of_record (record_of o)) is

pub read_writes_no_leader : (m : Submitted) (n : ℕ) → m.call.op ≡ ReadSectors n → leader_written m ≡ None
read_writes_no_leader m n is = ap (λ o. option_and_then leader_of_record (record_of o)) is

pub block_is : (w : WayContext) (ms : List Submitted) (m : Submitted) (b : Block) → WritesBlock w ms m.call b → block_written m ≡ Some b
block_is w ms m b is = written_block w.layout (base_turn w.layout w.self.id ms + 1) w.lockspace (verified_name w.layout w.lockspace ms) m b is

pub block_is_no_leader : (w : WayContext) (ms : List Submitted) (m : Submitted) (b : Block) → WritesBlock w ms m.call b → leader_written m ≡ None
block_is_no_leader w ms m b is = written_no_leader w.layout (base_turn w.layout w.self.id ms + 1) w.lockspace (verified_name w.layout w.lockspace ms) m b is

pub leader_is : (w : WayContext) (m : Submitted) (l : Leader) → WritesLeader w m.call l → leader_written m ≡ Some l
leader_is w m l is = written_leader w.layout m l is

pub leader_is_no_block : (w : WayContext) (m : Submitted) (l : Leader) → WritesLeader w m.call l → block_written m ≡ None
leader_is_no_block w m l is = written_no_block w.layout m l is

pub lver_is : (w : WayContext) (m : Submitted) (l : Leader) → WritesLeader w m.call l → lver_written m ≡ l.lver
lver_is w m l is = leader_lver w.layout m l is

-- ---- the last block

pub submitted_passed : (m : Submitted) (ms : List Submitted) → block_written m ≡ None → block_submitted (m ∷ ms) ≡ block_submitted ms
submitted_passed m ms is = ap (λ o. elim o as (λ x. Option Block) [ Some b ↦ Some b | None ↦ block_submitted ms ]) is

pub submitted_here : (m : Submitted) (ms : List Submitted) (b : Block) → block_written m ≡ Some b → block_submitted (m ∷ ms) ≡ Some b
submitted_here m ms b is = ap (λ o. elim o as (λ x. Option Block) [ Some b ↦ Some b | None ↦ block_submitted ms ]) is

-- The call that wrote it.
abbrev pub last_write_of : List Submitted → Option Submitted
last_write_of ms = find (λ d. is_some (block_written d)) ms

pub last_passed : (m : Submitted) (ms : List Submitted) → block_written m ≡ None → last_write_of (m ∷ ms) ≡ last_write_of ms
last_passed m ms is = ap (λ (o : Option Block). if is_some o then Some m else last_write_of ms) is

pub last_here : (m : Submitted) (ms : List Submitted) (b : Block) → block_written m ≡ Some b → last_write_of (m ∷ ms) ≡ Some m
last_here m ms b is = ap (λ (o : Option Block). if is_some o then Some m else last_write_of ms) is

-- ---- frees

zero_below : (n : ℕ) → max 0 n ≡ n
zero_below n = omega arith

pub freed_passed : (m : Submitted) (ms : List Submitted) → leader_written m ≡ None → freed (m ∷ ms) ≡ freed ms
freed_passed m ms is = ap (λ (o : Option Leader). max (option_map_or (λ l. if l.held then 0 else l.lver) o 0) (freed ms)) is ∙ zero_below (freed ms)

pub freed_held : (m : Submitted) (ms : List Submitted) (l : Leader) → leader_written m ≡ Some l → (if l.held then 0 else l.lver) ≡ 0 → freed (m ∷ ms) ≡ freed ms
freed_held m ms l is held =
    ap (λ (o : Option Leader). max (option_map_or (λ l. if l.held then 0 else l.lver) o 0) (freed ms)) is
    ∙ ap (λ n. max n (freed ms)) held ∙ zero_below (freed ms)

-- ---- ballots that ended

ended_by : (o : Option (ℕ × Owner)) (ps : List (ℕ × Owner)) (p : ℕ × Owner) → Contains ps p → Contains (elim o as (λ x. List (ℕ × Owner)) [ None ↦ ps | Some q ↦ q ∷ ps ]) p
ended_by None ps p there = there
ended_by (Some q) ps p there = contains_more q ps p there

pub ended_before : (l : Layout) (m : Submitted) (ms : List Submitted) (p : ℕ × Owner) → Contains (ended_ballots l ms) p → Contains (ended_ballots l (m ∷ ms)) p
ended_before l m ms p there = ended_by (ended_ballot l m ms) (ended_ballots l ms) p there

ended_at : (o : Option (ℕ × Owner)) (ps : List (ℕ × Owner)) (p : ℕ × Owner) → o ≡ Some p → Contains (elim o as (λ x. List (ℕ × Owner)) [ None ↦ ps | Some q ↦ q ∷ ps ]) p
ended_at o ps p is = rw is (contains_first p ps)

pub ended_here : (l : Layout) (m : Submitted) (ms : List Submitted) (p : ℕ × Owner) → ended_ballot l m ms ≡ Some p → Contains (ended_ballots l (m ∷ ms)) p
ended_here l m ms p is = ended_at (ended_ballot l m ms) (ended_ballots l ms) p is
