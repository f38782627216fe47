-- What a session's read of blocks shows in the history: of each host whose block it gave, whole and as it gave it; of no host, the block
-- of step 0.
use Rattle.sl_safety.proofs.Grant.HistorySteps.{IsAt, LookThere}
use Rattle.sl_trace.specs.Leases.{block_of_host}
use Rattle.sl_words.proofs.Lists.{contains_first, contains_more}
use Rattle.sl_safety.proofs.GivenReads.ReadsAreGiven.{reads_are_given}
use Rattle.sl_safety.proofs.Resources.BlockOrigins.{block_of_none, own_there}
use Rattle.sl_safety.proofs.Resources.HistoryShows.{HasBlock, IsOf, has_block}
use Rattle.sl_safety.specs.Resources.Histories.{is_host, no_block}
use Rattle.sl_safety.specs.Resources.HistoryLaws.{history_of_line}
use Rattle.sl_run.specs.Runs.{Happening}
use Rattle.sl_run.specs.Safety.{Found, SessionId, world_at}
use Rattle.sl_run.specs.Worlds.{Program}
use Rattle.sl_run.specs.declared.header.Header.{Header}
use Rattle.sl_run.specs.declared.header.ResourceLine.{ResourceLine}
use Rattle.sl_sector.specs.declared.sector.Block.{Block}
use Rattle.sl_trace.specs.Traces.{Submitted, Trace}
use Rattle.sl_words.proofs.CaseLaws.{none_some, some_value}
use Rattle.sl_words.specs.Words.{present}
use Rattle.std.proofs.Common.{ap, subst, sym, ◌∙◌}
use Rattle.std.specs.List.{cons_option}
use Rattle.std.specs.Prelude.{Contains, List, None, Option, Some, false, slice_get, suc, true, zero, [], ℕ, ◌∷◌, ◌≡◌}

-- ---- a host's block among those given

-- What stands at a place is there.
pub is_present : {A : Type 0} (xs : List (Option A)) (i : ℕ) (a : A) → slice_get xs i ≡ Some (Some a) → Contains (present xs) a
is_present [] i a at = absurd (none_some (Some a) at)
is_present {A} (x ∷ xs) zero a at = subst (λ o. Contains (cons_option o (present xs)) a) (sym (some_value x (Some a) at)) (contains_first a (present xs))
is_present {A} (x ∷ xs) (suc i) a at = by x (is_present xs i a at) where
  by : (o : Option A) → Contains (present xs) a → Contains (cons_option o (present xs)) a
  by None has = has
  by (Some y) has = contains_more y (present xs) a has

-- ---- what it shows of a host

pub look_shows_host : (p : Program) (h : Header) (xs : List Happening) (r : ResourceLine) (i : SessionId) (f : Found) (front : Trace) → IsAt p h xs r i f front → (c : Submitted)
    → (before : List Submitted) (bs : List (Option Block)) (l : LookThere p h xs r i f c before bs) → (k : ℕ) → is_host (world_at p h xs) k ≡ true → (b : Block) → block_of_host bs k ≡ Some b
    → HasBlock p h xs r l.look k b
look_shows_host p h xs r i f front at c before bs l k host b has =
    let run = at.front_is.run in
    let o : IsOf p h xs r l.look k bs = record { run = run; there = at.there; give = reads_are_given p h xs r run at.there; read = l.blocks; host = host } in
    has_block p h xs r l.look k bs o b (own_there bs k b has)

-- ---- of no host

pub look_shows_nothing : (p : Program) (h : Header) (xs : List Happening) (r : ResourceLine) (i : SessionId) (f : Found) (front : Trace) → IsAt p h xs r i f front → (c : Submitted)
    → (before : List Submitted) (bs : List (Option Block)) (l : LookThere p h xs r i f c before bs) → (k : ℕ) → is_host (world_at p h xs) k ≡ false
    → ((history_of_line p h xs r).shows l.look k ≡ true) × ((history_of_line p h xs r).block ((history_of_line p h xs r).shown l.look k) ≡ no_block)
look_shows_nothing p h xs r i f front at c before bs l k host =
    let run = at.front_is.run in
    let n = (reads_are_given p h xs r run at.there).others l.look k l.reads host in
    (n.0, ap (λ e. (history_of_line p h xs r).block e) n.1 ∙ block_of_none p h xs run r)
