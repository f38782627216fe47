-- What follows of the record of reads: a block that a trace has of a host the history shows there, and it was submitted before the read was
-- answered, or is fresh; and of its own host, where nothing was given, the reader goes by the block that it submitted last.
use Rattle.sl_safety.proofs.Resources.BlockOrigins.{block_of_none, block_of_step}
use Rattle.sl_safety.specs.Resources.Histories.{history_block, is_host, no_block, own_before}
use Rattle.sl_safety.specs.Resources.Orders.{BlockSent}
use Rattle.sl_safety.specs.Resources.HistoryLaws.{history_of_line, spot_of_line}
use Rattle.sl_safety.specs.Resources.Reads.{AgreesOn, Block_of, Nothing, ReadBlocks, ReadsGive, Says, shown_given, shows_given, step_given}
use Rattle.sl_safety.specs.Resources.SentCalls.{Sent, all_sent, block_of_course, holder_of, read_at, sender_of, step_of}
use Rattle.sl_run.specs.Runs.{Happening}
use Rattle.sl_run.specs.Safety.{LawfulRun, world_at}
use Rattle.sl_run.specs.Worlds.{Program, World}
use Rattle.sl_run.specs.declared.header.Header.{Header}
use Rattle.sl_run.specs.declared.header.ResourceLine.{ResourceLine}
use Rattle.sl_sector.specs.declared.sector.Block.{Block}
use Rattle.sl_trace.specs.Leases.{is_on}
use Rattle.sl_trace.specs.declared.effects.Spot.{Spot}
use Rattle.sl_words.proofs.CaseLaws.{none_some, some_value}
use Rattle.std.proofs.Common.{ap, arith, subst, sym, ◌∙◌}
use Rattle.std.proofs.lemmas.Bool.{and_from, eq-eqb}
use Rattle.std.specs.Option.{option_map_or}
use Rattle.std.specs.Prelude.{Contains, List, None, Option, Some, is_some, slice_get, true, ℕ, ◌-◌, ◌<◌, ◌≡◌, ◌≤◌}

-- A block that was written on the area before a step, or that never was.
pub data Seen (w : World) (at : Spot) (b : Block) (n : ℕ) : Type 0 where
  Never : history_block b ≡ no_block → Seen w at b n
  Once : (z : Sent) → Contains (all_sent w) z → is_on w.layout at z.course.call ≡ true → block_of_course z.course ≡ Some b → step_of z < n → Seen w at b n

pub seen_by : (w : World) (at : Spot) (b : Block) (n k : ℕ) → n ≤ k → Seen w at b n → Seen w at b k
seen_by w at b n k le (Never h) = Never h
seen_by w at b n k le (Once z has on is less) = Once z has on is (omega (arith, less, le))

-- ---- a block that was given

-- What the history has of it.
pub record HasBlock (p : Program) (h : Header) (xs : List Happening) (r : ResourceLine) (n k : ℕ) (b : Block) : Type 0 where
  pub shows : (history_of_line p h xs r).shows n k ≡ true
  pub block : (history_of_line p h xs r).block ((history_of_line p h xs r).shown n k) ≡ history_block b
  pub host : b.host ≡ k
  pub seen : Seen (world_at p h xs) (spot_of_line r) b ((history_of_line p h xs r).answer n)

-- A read of the history, and of which host.
pub record IsOf (p : Program) (h : Header) (xs : List Happening) (r : ResourceLine) (n k : ℕ) (bs : List (Option Block)) : Type 0 where
  pub run : LawfulRun p h xs
  pub there : Contains h.resources r
  pub give : ReadsGive p h xs r
  pub read : ReadBlocks (world_at p h xs) r n bs
  pub host : is_host (world_at p h xs) k ≡ true

reads_it : (p : Program) (h : Header) (xs : List Happening) (r : ResourceLine) (n k : ℕ) (bs : List (Option Block)) → IsOf p h xs r n k bs → (history_of_line p h xs r).reads n ≡ true
reads_it p h xs r n k bs o = ap (λ q. is_some q) o.read.found

says_block : (p : Program) (h : Header) (xs : List Happening) (r : ResourceLine) (n k : ℕ) (bs : List (Option Block)) (o : IsOf p h xs r n k bs) (b : Block) (from : Option Sent)
    → o.give.given n k ≡ Some from → Says from b → (history_of_line p h xs r).block (step_given from) ≡ history_block b
says_block p h xs r n k bs o b None is says = block_of_none p h xs o.run r ∙ sym says
says_block p h xs r n k bs o b (Some x) is says =
    let s : BlockSent (world_at p h xs) r k x = o.give.submitted n k (reads_it p h xs r n k bs o) o.host x is in
    block_of_step p h xs o.run r o.there x b s.sent s.on says

says_seen : (p : Program) (h : Header) (xs : List Happening) (r : ResourceLine) (n k : ℕ) (bs : List (Option Block)) (o : IsOf p h xs r n k bs) (b : Block) (from : Option Sent)
    → o.give.given n k ≡ Some from → Says from b → Seen (world_at p h xs) (spot_of_line r) b ((history_of_line p h xs r).answer n)
says_seen p h xs r n k bs o b None is says = Never says
says_seen p h xs r n k bs o b (Some x) is says =
    let reads = reads_it p h xs r n k bs o in
    let s : BlockSent (world_at p h xs) r k x = o.give.submitted n k reads o.host x is in
    Once x s.sent s.on says (o.give.earlier n k reads o.host x is)

has_block_by : (p : Program) (h : Header) (xs : List Happening) (r : ResourceLine) (n k : ℕ) (bs : List (Option Block)) (o : IsOf p h xs r n k bs) (b : Block)
    → slice_get bs (k - 1) ≡ Some (Some b) → AgreesOn k bs (o.give.given n k) → HasBlock p h xs r n k b
has_block_by p h xs r n k bs o b taken (Nothing none given) = absurd (none_some b (some_value None (Some b) (sym none ∙ taken)))
has_block_by p h xs r n k bs o b taken (Block_of c from there given says host) =
    let w : World = world_at p h xs in
    let same : c ≡ b = some_value c b (some_value (Some c) (Some b) (sym there ∙ taken)) in
    let says_it : Says from b = subst (λ y. Says from y) same says in
    record {
      shows = o.give.shows n k o.host o.read.sent o.read.found ∙ ap (shows_given w r k o.read.sent) given;
      block = ap (λ e. (history_of_line p h xs r).block e) (o.give.shown n k o.host o.read.sent o.read.found ∙ ap (shown_given w r o.read.sent) given)
          ∙ says_block p h xs r n k bs o b from given says_it;
      host = subst (λ (y : Block). y.host ≡ k) same host;
      seen = says_seen p h xs r n k bs o b from given says_it;
    }

pub has_block : (p : Program) (h : Header) (xs : List Happening) (r : ResourceLine) (n k : ℕ) (bs : List (Option Block)) → IsOf p h xs r n k bs → (b : Block)
    → slice_get bs (k - 1) ≡ Some (Some b) → HasBlock p h xs r n k b
has_block p h xs r n k bs o b taken = has_block_by p h xs r n k bs o b taken (o.give.agrees n k o.host bs o.read)

-- ---- the own block, where nothing was given

pub record HasOwn (p : Program) (h : Header) (xs : List Happening) (r : ResourceLine) (n k : ℕ) (y : Sent) : Type 0 where
  pub shows : (history_of_line p h xs r).shows n k ≡ true
  pub shown : (history_of_line p h xs r).shown n k ≡ step_of y

has_own_by : (p : Program) (h : Header) (xs : List Happening) (r : ResourceLine) (n k : ℕ) (bs : List (Option Block)) (o : IsOf p h xs r n k bs) → slice_get bs (k - 1) ≡ Some None
    → (z : Sent) → read_at (world_at p h xs) (spot_of_line r) r.lockspace n ≡ Some z → (holder_of (world_at p h xs) (sender_of z)).id ≡ k
    → (y : Sent) → own_before (world_at p h xs) (spot_of_line r) z ≡ Some y → AgreesOn k bs (o.give.given n k) → HasOwn p h xs r n k y
has_own_by p h xs r n k bs o none z found own y last (Block_of c from there given says host) = absurd (none_some c (some_value None (Some c) (sym none ∙ there)))
has_own_by p h xs r n k bs o none z found own y last (Nothing taken given) =
    let w : World = world_at p h xs in
    record {
      shows = o.give.shows n k o.host z found ∙ ap (shows_given w r k z) given
          ∙ and_from _ _ (eq-eqb (holder_of w (sender_of z)).id k own) (ap (λ q. is_some q) last);
      shown = o.give.shown n k o.host z found ∙ ap (shown_given w r z) given ∙ ap (λ q. option_map_or step_of q 0) last;
    }

pub has_own : (p : Program) (h : Header) (xs : List Happening) (r : ResourceLine) (n k : ℕ) (bs : List (Option Block)) (o : IsOf p h xs r n k bs) → slice_get bs (k - 1) ≡ Some None
    → (z : Sent) → read_at (world_at p h xs) (spot_of_line r) r.lockspace n ≡ Some z → (holder_of (world_at p h xs) (sender_of z)).id ≡ k
    → (y : Sent) → own_before (world_at p h xs) (spot_of_line r) z ≡ Some y → HasOwn p h xs r n k y
has_own p h xs r n k bs o none z found own y last = has_own_by p h xs r n k bs o none z found own y last (o.give.agrees n k o.host bs o.read)

-- ---- each host has a place among the blocks

listed_by : (k : ℕ) (bs : List (Option Block)) (given : Option (Option Sent)) → AgreesOn k bs given → (o : Option Block) × (slice_get bs (k - 1) ≡ Some o)
listed_by k bs given (Nothing there none) = (None, there)
listed_by k bs given (Block_of b from there is says host) = (Some b, there)

pub listed : (p : Program) (h : Header) (xs : List Happening) (r : ResourceLine) (n k : ℕ) (bs : List (Option Block)) → IsOf p h xs r n k bs
    → (o : Option Block) × (slice_get bs (k - 1) ≡ Some o)
listed p h xs r n k bs o = listed_by k bs (o.give.given n k) (o.give.agrees n k o.host bs o.read)
