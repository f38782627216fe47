-- What phase 2 proposes in a trace it proposes in the history: its session, or the value of the greatest ballot that the read shows.
use Rattle.sl_area.specs.AreaSizes.{Layout}
use Rattle.sl_safety.proofs.GivenReads.ReadsInTraces.{given_below}
use Rattle.sl_safety.proofs.Ballot.Phase2Shows.{OwnRead, host_shown, none_shown, start}
use Rattle.sl_safety.specs.Ballot.Endings.{holder_as}
use Rattle.sl_ballot_law.specs.Ballots.{ProposesItself, ProposesSeen}
use Rattle.sl_ballot_law.specs.History.{History}
use Rattle.sl_trace.specs.Ballots.{ballot_blocks, value_to_write, whole_blocks, with_own}
use Rattle.sl_words.proofs.Lists.{contains_cases, contains_none}
use Rattle.sl_words.proofs.Numbers.{zero_is_least}
use Rattle.sl_safety.proofs.Resources.OwnBlocks.{layout_at}
use Rattle.sl_safety.proofs.Resources.Values.{Another, Itself, Proposes, proposes}
use Rattle.sl_safety.specs.Resources.Histories.{history_block, is_host}
use Rattle.sl_safety.specs.Resources.HistoryLaws.{history_of_line, spot_of_line}
use Rattle.sl_safety.specs.Resources.SentCalls.{Sent}
use Rattle.sl_run.specs.Runs.{Happening}
use Rattle.sl_run.specs.Safety.{LawfulRun, world_at}
use Rattle.sl_run.specs.Worlds.{Program, World}
use Rattle.sl_run.specs.declared.header.Header.{Header}
use Rattle.sl_run.specs.declared.header.ResourceLine.{ResourceLine}
use Rattle.sl_sector.specs.declared.sector.Block.{Block}
use Rattle.sl_sector.specs.declared.sector.Owner.{Owner}
use Rattle.sl_words.proofs.CaseLaws.{none_some, some_value}
use Rattle.std.proofs.Common.{ap, arith, inl, inr, refl, subst, sym, ◌∙◌}
use Rattle.std.proofs.lemmas.Bool.{and_from, le-leb}
use Rattle.std.specs.List.{cons_option}
use Rattle.std.specs.Prelude.{Bool, Contains, List, None, Option, Some, false, slice_get, suc, true, zero, [], ℕ, ◌+◌, ◌-◌, ◌<◌, ◌∷◌, ◌≡◌, ◌≤◌, ◌⊎◌}
use Rattle.sl_run_law.specs.Leases.Ways.{lease_among}

-- ---- each block that the ballot goes by is of a host

record FromWhole (ps : List (ℕ × Option Block)) (b : Block) : Type 0 where
  index : ℕ
  pair : ℕ × Option Block
  at : slice_get ps index ≡ Some pair
  is : pair.1 ≡ Some b

further : (q : ℕ × Option Block) (ps : List (ℕ × Option Block)) (b : Block) → FromWhole ps b → FromWhole (q ∷ ps) b
further q ps b f = record { index = suc f.index; pair = f.pair; at = f.at; is = f.is }

from_by : (q : ℕ × Option Block) (ps : List (ℕ × Option Block)) (b : Block) (o : Option Block) → q.1 ≡ o → Contains (cons_option o (whole_blocks ps)) b
    → (Contains (whole_blocks ps) b → FromWhole ps b) → FromWhole (q ∷ ps) b
from_by q ps b None is has later = further q ps b (later has)
from_by q ps b (Some c) is has later =
    elim (contains_cases c (whole_blocks ps) b has) as (λ z. FromWhole (q ∷ ps) b) [
      | inl here ↦ record { index = 0; pair = q; at = refl; is = is ∙ ap (λ x. Some x) here }
      | inr more ↦ further q ps b (later more)
    ]

from_whole : (ps : List (ℕ × Option Block)) (b : Block) → Contains (whole_blocks ps) b → FromWhole ps b
from_whole [] b has = absurd (contains_none b has)
from_whole (q ∷ ps) b has = from_by q ps b q.1 refl has (λ more. from_whole ps b more)

read_there : (own : Block) (host : ℕ) (bs : List (Option Block)) (j : ℕ) (p : ℕ × Option Block) → slice_get (with_own own host bs) j ≡ Some p → (o : Option Block) × (slice_get bs j ≡ Some o)
read_there own host [] j p at = absurd (none_some p at)
read_there own host (b ∷ bs) zero p at = (b, refl)
read_there own host (b ∷ bs) (suc j) p at = read_there own (host + 1) bs j p at

one_on : (j n : ℕ) → j < n → (1 ≤ 1 + j) × (1 + j ≤ n)
one_on j n h = (omega arith, omega (arith, h))

back_one : (j : ℕ) → j ≡ 1 + j - 1
back_one j = omega arith

-- A host whose block in the history it is.
pub record OfHost (w : World) (h : History) (read : ℕ) (own : Block) (bs : List (Option Block)) (b : Block) : Type 0 where
  pub host : ℕ
  pub is_host_there : is_host w host ≡ true
  pub shown : h.block (h.shown read host) ≡ history_block b

pub of_host : (p : Program) (h : Header) (xs : List Happening) → LawfulRun p h xs → (r : ResourceLine) → Contains h.resources r → (z : Sent) (own : Block) (bs : List (Option Block))
    → OwnRead (world_at p h xs) r z own bs → (b : Block) → Contains (ballot_blocks own bs) b → OfHost (world_at p h xs) (history_of_line p h xs r) (start p h xs r z) own bs b
of_host p h xs run r there z own bs o b has =
    let w : World = world_at p h xs in
    let f = from_whole (with_own own 1 bs) b has in
    let read = read_there own 1 bs f.index f.pair f.at in
    let g : Layout = o.stands.daemon.setting.layout in
    let below : f.index < w.layout.hosts =
    subst (λ y. f.index < y.hosts) (layout_at p h xs run z o.stands) (given_below g o.stands.told.one (lease_among o.stands.daemon.setting o.stands.session (spot_of_line r) o.stands.told.older) bs f.index read.0 o.given read.1) in
    let range = one_on f.index w.layout.hosts below in
    let host : is_host w (1 + f.index) ≡ true = and_from _ _ (le-leb 1 (1 + f.index) range.0) (le-leb (1 + f.index) w.layout.hosts range.1) in
    let s = host_shown p h xs run r there z own bs o (1 + f.index) host in
    let pair : f.pair ≡ (1 + f.index, Some s.block) =
    some_value f.pair (1 + f.index, Some s.block) (sym f.at ∙ ap (λ j. slice_get (with_own own 1 bs) j) (back_one f.index) ∙ s.taken) in
    let same : s.block ≡ b = some_value s.block b (sym (ap (λ (x : ℕ × Option Block). x.1) pair) ∙ f.is) in
    record { host = 1 + f.index; is_host_there = host; shown = s.shown ∙ ap history_block same }

-- ---- what is proposed

-- What phase 2 writes, by the read.
pub record Proposal (p : Program) (h : Header) (xs : List Happening) (r : ResourceLine) (e : ℕ) (self : Owner) (own : Block) (bs : List (Option Block)) : Type 0 where
  pub value : ((history_of_line p h xs r).block e).inp ≡ holder_as (value_to_write self own.lver (ballot_blocks own bs))
  pub writer : (history_of_line p h xs r).writer e ≡ holder_as self

none_of : (p : Program) (h : Header) (xs : List Happening) → LawfulRun p h xs → (r : ResourceLine) → Contains h.resources r → (z : Sent) (own : Block) (bs : List (Option Block))
    → OwnRead (world_at p h xs) r z own bs → ((c : Block) → Contains (ballot_blocks own bs) c → c.lver ≡ own.lver → c.bal ≡ 0) → (k : ℕ) (b : Bool) → is_host (world_at p h xs) k ≡ b
    → ((history_of_line p h xs r).block ((history_of_line p h xs r).shown (start p h xs r z) k)).lver ≡ own.lver
    → ((history_of_line p h xs r).block ((history_of_line p h xs r).shown (start p h xs r z) k)).bal ≡ 0
none_of p h xs run r there z own bs o all k true host same =
    let s = host_shown p h xs run r there z own bs o k host in
    ap (λ y. y.bal) s.shown ∙ all s.block s.among (ap (λ y. y.lver) (sym s.shown) ∙ same)
none_of p h xs run r there z own bs o all k false host same = ap (λ y. y.bal) (none_shown p h xs run r there z own bs o k host).shown

most_of : (p : Program) (h : Header) (xs : List Happening) → LawfulRun p h xs → (r : ResourceLine) → Contains h.resources r → (z : Sent) (own : Block) (bs : List (Option Block))
    → OwnRead (world_at p h xs) r z own bs → (best : ℕ) → ((c : Block) → Contains (ballot_blocks own bs) c → c.lver ≡ own.lver → c.bal ≤ best) → (k : ℕ) (b : Bool)
    → is_host (world_at p h xs) k ≡ b → ((history_of_line p h xs r).block ((history_of_line p h xs r).shown (start p h xs r z) k)).lver ≡ own.lver
    → ((history_of_line p h xs r).block ((history_of_line p h xs r).shown (start p h xs r z) k)).bal ≤ best
most_of p h xs run r there z own bs o best all k true host same =
    let s = host_shown p h xs run r there z own bs o k host in
    subst (λ y. y.bal ≤ best) (sym s.shown) (all s.block s.among (ap (λ y. y.lver) (sym s.shown) ∙ same))
most_of p h xs run r there z own bs o best all k false host same =
    zero_is_least ((history_of_line p h xs r).block ((history_of_line p h xs r).shown (start p h xs r z) k)).bal best (ap (λ y. y.bal) (none_shown p h xs run r there z own bs o k host).shown)

proposes_by : (p : Program) (h : Header) (xs : List Happening) → LawfulRun p h xs → (r : ResourceLine) → Contains h.resources r → (e : ℕ) (z : Sent) (own : Block) (bs : List (Option Block))
    → OwnRead (world_at p h xs) r z own bs → (self : Owner) → Proposal p h xs r e self own bs
    → Proposes self own.lver (ballot_blocks own bs) (value_to_write self own.lver (ballot_blocks own bs))
    → ProposesItself (history_of_line p h xs r) e (start p h xs r z) own.lver ⊎ ProposesSeen (history_of_line p h xs r) e (start p h xs r z) own.lver
proposes_by p h xs run r there e z own bs o self q (Itself is all) =
    inl (record {
      none = λ k same. none_of p h xs run r there z own bs o all k (is_host (world_at p h xs) k) refl same;
      own = q.value ∙ ap (λ v. holder_as v) is ∙ sym q.writer;
    })
proposes_by p h xs run r there e z own bs o self q (Another b is has same some most) =
    let H : History = history_of_line p h xs r in
    let k = of_host p h xs run r there z own bs o b has in
    inr (record {
      host = k.host;
      lver = ap (λ y. y.lver) k.shown ∙ same;
      bal = subst (λ y. 0 < y.bal) (sym k.shown) some;
      inp = q.value ∙ ap (λ v. holder_as v) is ∙ ap (λ y. y.inp) (sym k.shown);
      most = λ j alike. subst (λ y. (H.block (H.shown (start p h xs r z) j)).bal ≤ y.bal) (sym k.shown)
          (most_of p h xs run r there z own bs o b.bal most j (is_host (world_at p h xs) j) refl alike);
    })

pub proposes_what : (p : Program) (h : Header) (xs : List Happening) → LawfulRun p h xs → (r : ResourceLine) → Contains h.resources r → (e : ℕ) (z : Sent) (own : Block) (bs : List (Option Block))
    → OwnRead (world_at p h xs) r z own bs → (self : Owner) → Proposal p h xs r e self own bs
    → ProposesItself (history_of_line p h xs r) e (start p h xs r z) own.lver ⊎ ProposesSeen (history_of_line p h xs r) e (start p h xs r z) own.lver
proposes_what p h xs run r there e z own bs o self q = proposes_by p h xs run r there e z own bs o self q (proposes self own.lver (ballot_blocks own bs))
