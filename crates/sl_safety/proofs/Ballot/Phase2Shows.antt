-- What the history has of a read: of each host the block that the ballot goes by, the own torn one as it was last submitted; and each
-- block that the ballot goes by it has of a host.
use Rattle.sl_ballot_law.specs.Ballots.{IsClean}
use Rattle.sl_ballot_law.specs.History.{History}
use Rattle.sl_trace.specs.Ballots.{ballot_blocks, known_block, stop_of, with_own}
use Rattle.sl_trace.specs.Leases.{blocks_given, is_on}
use Rattle.sl_run_law.specs.Leases.Ways.{lease_among}
use Rattle.sl_words.proofs.Numbers.{one_again, zero_is_least}
use Rattle.sl_safety.proofs.GivenReads.BlocksNameHosts.{own_host}
use Rattle.sl_safety.proofs.GivenReads.ReadsAreGiven.{reads_are_given}
use Rattle.sl_safety.proofs.Resources.BlockOrigins.{block_of_none, block_of_step}
use Rattle.sl_safety.proofs.Resources.TraceReads.{counted_at, counted_reads}
use Rattle.sl_safety.proofs.Resources.HistoryShows.{IsOf, has_block, has_own, listed}
use Rattle.sl_safety.specs.Resources.Reads.{ReadBlocks}
use Rattle.sl_safety.proofs.Resources.ClearBallots.{IsClear, IsWhole, all_whole, is_clear, taken_at}
use Rattle.sl_safety.proofs.Resources.Calls.{host_range}
use Rattle.sl_safety.proofs.Resources.CallParts.{Standing}
use Rattle.sl_safety.specs.Resources.Histories.{history_block, is_host, no_block, own_before}
use Rattle.sl_safety.specs.Resources.HistoryLaws.{history_of_line, spot_of_line}
use Rattle.sl_safety.specs.Resources.SentCalls.{Sent, all_sent, began_at, block_of_course, holder_of, is_joined_there, read_at, sender_of}
use Rattle.sl_run.specs.Runs.{Happening}
use Rattle.sl_run.specs.Safety.{LawfulRun, world_at}
use Rattle.sl_run.specs.Worlds.{Program, World}
use Rattle.sl_run.specs.declared.header.Header.{Header}
use Rattle.sl_run.specs.declared.header.ResourceLine.{ResourceLine}
use Rattle.sl_sector.specs.declared.sector.Block.{Block}
use Rattle.sl_words.proofs.CaseLaws.{none_some, some_value}
use Rattle.std.proofs.Common.{ap, refl, subst, sym, ◌∙◌}
use Rattle.std.proofs.lemmas.Bool.{eqb-true}
use Rattle.std.specs.Prelude.{Bool, Contains, List, None, Option, Some, false, is_some, slice_get, true, unwrap_or, ℕ, if◌then◌else◌, ◌-◌, ◌==◌, ◌≡◌, ◌≤◌}

-- A read of a session with the blocks that it gave, and the block that the session wrote last before.
pub record OwnRead (w : World) (r : ResourceLine) (z : Sent) (own : Block) (bs : List (Option Block)) : Type 0 where
  pub has : Contains (all_sent w) z
  pub stands : Standing w z
  pub on : is_on w.layout (spot_of_line r) z.course.call ≡ true
  pub joined : is_joined_there w r.lockspace (sender_of z) ≡ true
  pub host : is_host w stands.session.id ≡ true
  pub given : blocks_given stands.daemon.setting.layout stands.told.one (lease_among stands.daemon.setting stands.session (spot_of_line r) stands.told.older) ≡ Some bs
  pub last : Sent
  pub last_has : Contains (all_sent w) last
  pub last_on : is_on w.layout (spot_of_line r) last.course.call ≡ true
  pub before : own_before w (spot_of_line r) z ≡ Some last
  pub block : block_of_course last.course ≡ Some own
  pub named : own.host ≡ stands.session.id
  pub clear : stop_of own bs ≡ None

-- ---- the read of the history

-- When it began.
abbrev pub start : Program → Header → List Happening → ResourceLine → Sent → ℕ
start p h xs r z = began_at (world_at p h xs) (spot_of_line r) z

reads_of : (p : Program) (h : Header) (xs : List Happening) → LawfulRun p h xs → (r : ResourceLine) → Contains h.resources r → (z : Sent) (own : Block) (bs : List (Option Block))
    → OwnRead (world_at p h xs) r z own bs → ReadBlocks (world_at p h xs) r (start p h xs r z) bs
reads_of p h xs run r there z own bs o = counted_reads p h xs run r there z o.has o.stands o.on o.joined bs o.given

pub read_is : (p : Program) (h : Header) (xs : List Happening) → LawfulRun p h xs → (r : ResourceLine) → Contains h.resources r → (z : Sent) (own : Block) (bs : List (Option Block))
    → OwnRead (world_at p h xs) r z own bs → read_at (world_at p h xs) (spot_of_line r) r.lockspace (start p h xs r z) ≡ Some z
read_is p h xs run r there z own bs o = counted_at p h xs run r there z o.has o.stands o.on o.joined bs o.given

read_of : (p : Program) (h : Header) (xs : List Happening) → LawfulRun p h xs → (r : ResourceLine) → Contains h.resources r → (z : Sent) (own : Block) (bs : List (Option Block))
    → OwnRead (world_at p h xs) r z own bs → (k : ℕ) → is_host (world_at p h xs) k ≡ true → IsOf p h xs r (start p h xs r z) k bs
read_of p h xs run r there z own bs o k host =
    record { run = run; there = there; give = reads_are_given p h xs r run there; read = reads_of p h xs run r there z own bs o; host = host }

-- What the history has of a host.
pub record HostShown (h : History) (read k : ℕ) (own : Block) (bs : List (Option Block)) : Type 0 where
  pub block : Block
  pub shows : h.shows read k ≡ true
  pub shown : h.block (h.shown read k) ≡ history_block block
  pub taken : slice_get (with_own own 1 bs) (k - 1) ≡ Some (k, Some block)
  pub among : Contains (ballot_blocks own bs) block

-- What is shown of a host.
record Shows (p : Program) (h : Header) (xs : List Happening) (r : ResourceLine) (n k : ℕ) (b : Block) : Type 0 where
  shows : (history_of_line p h xs r).shows n k ≡ true
  shown : (history_of_line p h xs r).block ((history_of_line p h xs r).shown n k) ≡ history_block b

-- A block that was read is shown.
whole_shown : (p : Program) (h : Header) (xs : List Happening) → LawfulRun p h xs → (r : ResourceLine) → Contains h.resources r → (z : Sent) (own : Block) (bs : List (Option Block))
    → OwnRead (world_at p h xs) r z own bs → (k : ℕ) → is_host (world_at p h xs) k ≡ true → (b : Block) → slice_get bs (k - 1) ≡ Some (Some b) → Shows p h xs r (start p h xs r z) k b
whole_shown p h xs run r there z own bs o k host b taken =
    let f = has_block p h xs r (start p h xs r z) k bs (read_of p h xs run r there z own bs o k host) b taken in
    record { shows = f.shows; shown = f.block }

-- The own block, where none was given, is shown as it was last submitted.
own_shown : (p : Program) (h : Header) (xs : List Happening) → LawfulRun p h xs → (r : ResourceLine) → Contains h.resources r → (z : Sent) (own : Block) (bs : List (Option Block))
    → OwnRead (world_at p h xs) r z own bs → (k : ℕ) → is_host (world_at p h xs) k ≡ true → k ≡ own.host → slice_get bs (k - 1) ≡ Some None → Shows p h xs r (start p h xs r z) k own
own_shown p h xs run r there z own bs o k host its none =
    let w : World = world_at p h xs in
    let same : (holder_of w (sender_of z)).id ≡ k = own_host w z o.stands ∙ sym o.named ∙ sym its in
    let f = has_own p h xs r (start p h xs r z) k bs (read_of p h xs run r there z own bs o k host) none z (read_is p h xs run r there z own bs o) same o.last o.before in
    record {
      shows = f.shows;
      shown = ap (λ n. (history_of_line p h xs r).block n) f.shown ∙ block_of_step p h xs run r there o.last own o.last_has o.last_on o.block;
    }

-- ---- the block that the ballot goes by

record TakenAs (own : Block) (bs : List (Option Block)) (k : ℕ) (o : Option Block) : Type 0 where
  block : Block
  is : known_block own o k ≡ Some block
  taken : slice_get (with_own own 1 bs) (k - 1) ≡ Some (k, Some block)
  among : Contains (ballot_blocks own bs) block

taken_as : (own : Block) (bs : List (Option Block)) → IsClear own bs → (k : ℕ) → 1 ≤ k → (o : Option Block) → slice_get bs (k - 1) ≡ Some o → TakenAs own bs k o
taken_as own bs c k low o given =
    let at : slice_get (with_own own 1 bs) (k - 1) ≡ Some (k, known_block own o k) =
    taken_at own 1 bs (k - 1) o given ∙ ap (λ n. Some (n, known_block own o n)) (one_again k low) in
    let w : IsWhole (with_own own 1 bs) (k, known_block own o k) = all_whole (with_own own 1 bs) (k - 1) (k, known_block own o k) c.whole at in
    record { block = w.block; is = w.is; taken = at ∙ ap (λ x. Some (k, x)) w.is; among = w.has }

known_whole : (own : Block) (b : Block) (k : ℕ) (t : Bool) → (if t then Some (unwrap_or (Some b) own) else Some b) ≡ Some b
known_whole own b k true = refl
known_whole own b k false = refl

known_torn : (own : Block) (b : Block) (k : ℕ) (t : Bool) → (k == own.host) ≡ t → (if t then Some (unwrap_or None own) else None) ≡ Some b → (k ≡ own.host) × (own ≡ b)
known_torn own b k true is h = (eqb-true k own.host is, some_value own b h)
known_torn own b k false is h = absurd (none_some b h)

shows_taken : (p : Program) (h : Header) (xs : List Happening) → LawfulRun p h xs → (r : ResourceLine) → Contains h.resources r → (z : Sent) (own : Block) (bs : List (Option Block))
    → OwnRead (world_at p h xs) r z own bs → (k : ℕ) → is_host (world_at p h xs) k ≡ true → (o : Option Block) → slice_get bs (k - 1) ≡ Some o → (b : Block)
    → known_block own o k ≡ Some b → Shows p h xs r (start p h xs r z) k b
shows_taken p h xs run r there z own bs o k host (Some c) given b is =
    let same : c ≡ b = some_value c b (sym (known_whole own c k (k == own.host)) ∙ is) in
    whole_shown p h xs run r there z own bs o k host b (given ∙ ap (λ x. Some (Some x)) same)
shows_taken p h xs run r there z own bs o k host None given b is =
    let its = known_torn own b k (k == own.host) refl is in
    subst (λ x. Shows p h xs r (start p h xs r z) k x) its.1 (own_shown p h xs run r there z own bs o k host its.0 given)

-- Of each host the history has the block that the ballot goes by.
pub host_shown : (p : Program) (h : Header) (xs : List Happening) → LawfulRun p h xs → (r : ResourceLine) → Contains h.resources r → (z : Sent) (own : Block) (bs : List (Option Block))
    → OwnRead (world_at p h xs) r z own bs → (k : ℕ) → is_host (world_at p h xs) k ≡ true → HostShown (history_of_line p h xs r) (start p h xs r z) k own bs
host_shown p h xs run r there z own bs o k host =
    let g = listed p h xs r (start p h xs r z) k bs (read_of p h xs run r there z own bs o k host) in
    let t = taken_as own bs (is_clear own bs o.clear) k (host_range (world_at p h xs) k host).0 g.0 g.1 in
    let s = shows_taken p h xs run r there z own bs o k host g.0 g.1 t.block t.is in
    record { block = t.block; shows = s.shows; shown = s.shown; taken = t.taken; among = t.among }

-- Of a number that is no host's it has the block of step 0.
pub record NoneShown (h : History) (read k : ℕ) : Type 0 where
  pub shows : h.shows read k ≡ true
  pub shown : h.block (h.shown read k) ≡ no_block

pub none_shown : (p : Program) (h : Header) (xs : List Happening) → LawfulRun p h xs → (r : ResourceLine) → Contains h.resources r → (z : Sent) (own : Block) (bs : List (Option Block))
    → OwnRead (world_at p h xs) r z own bs → (k : ℕ) → is_host (world_at p h xs) k ≡ false → NoneShown (history_of_line p h xs r) (start p h xs r z) k
none_shown p h xs run r there z own bs o k host =
    let f = (reads_are_given p h xs r run there).others (start p h xs r z) k (ap (λ q. is_some q) (read_is p h xs run r there z own bs o)) host in
    record { shows = f.0; shown = ap (λ n. (history_of_line p h xs r).block n) f.1 ∙ block_of_none p h xs run r }

-- ---- nothing stops the ballot

host_clear : (h : History) (read k : ℕ) (own : Block) (bs : List (Option Block)) → HostShown h read k own bs → IsClear own bs
    → ((h.block (h.shown read k)).lver ≤ own.lver) × ((h.block (h.shown read k)).lver ≡ own.lver → (h.block (h.shown read k)).mbal ≤ own.mbal)
host_clear h read k own bs s c = (
  subst (λ y. y.lver ≤ own.lver) (sym s.shown) (c.lver s.block s.among),
  λ same. subst (λ y. y.mbal ≤ own.mbal) (sym s.shown) (c.mbal s.block s.among (ap (λ y. y.lver) (sym s.shown) ∙ same)),
)

record ClearAt (h : History) (read k : ℕ) (own : Block) : Type 0 where
  shows : h.shows read k ≡ true
  lver : (h.block (h.shown read k)).lver ≤ own.lver
  mbal : (h.block (h.shown read k)).lver ≡ own.lver → (h.block (h.shown read k)).mbal ≤ own.mbal

clear_at : (p : Program) (h : Header) (xs : List Happening) → LawfulRun p h xs → (r : ResourceLine) → Contains h.resources r → (z : Sent) (own : Block) (bs : List (Option Block))
    → OwnRead (world_at p h xs) r z own bs → (k : ℕ) (b : Bool) → is_host (world_at p h xs) k ≡ b → ClearAt (history_of_line p h xs r) (start p h xs r z) k own
clear_at p h xs run r there z own bs o k true host =
    let H : History = history_of_line p h xs r in
    let s = host_shown p h xs run r there z own bs o k host in
    let c = host_clear H (start p h xs r z) k own bs s (is_clear own bs o.clear) in
    record { shows = s.shows; lver = c.0; mbal = c.1 }
clear_at p h xs run r there z own bs o k false host =
    let H : History = history_of_line p h xs r in
    let s = none_shown p h xs run r there z own bs o k host in
    record {
      shows = s.shows;
      lver = zero_is_least (H.block (H.shown (start p h xs r z) k)).lver own.lver (ap (λ y. y.lver) s.shown);
      mbal = λ same. zero_is_least (H.block (H.shown (start p h xs r z) k)).mbal own.mbal (ap (λ y. y.mbal) s.shown);
    }

-- The read stops no ballot of the own block.
pub is_clean : (p : Program) (h : Header) (xs : List Happening) → LawfulRun p h xs → (r : ResourceLine) → Contains h.resources r → (z : Sent) (own : Block) (bs : List (Option Block))
    → OwnRead (world_at p h xs) r z own bs → IsClean (history_of_line p h xs r) (start p h xs r z) own.lver own.mbal
is_clean p h xs run r there z own bs o =
    let at : (k : ℕ) → ClearAt (history_of_line p h xs r) (start p h xs r z) k own = λ k. clear_at p h xs run r there z own bs o k (is_host (world_at p h xs) k) refl in
    record { whole = λ k. (at k).shows; lver = λ k. (at k).lver; mbal = λ k. (at k).mbal }
