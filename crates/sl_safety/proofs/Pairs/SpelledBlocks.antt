-- What stands in a sector of a host's pair, or in both, as a block of its sender.
use Rattle.sl_area.specs.AreaSizes.{record_in}
use Rattle.sl_area.specs.AreaRecords.{fresh_pair}
use Rattle.sl_area.specs.Pairs.{later_pair}
use Rattle.sl_safety.specs.Resources.Histories.{is_host}
use Rattle.sl_safety.specs.Resources.SampledReads.{step_of_landing, stored_in}
use Rattle.sl_safety.specs.Resources.Reads.{step_given}
use Rattle.sl_safety.specs.Resources.SentCalls.{Sent}
use Rattle.sl_safety.proofs.Pairs.PairLandings.{IsPairLanding, pair_landing}
use Rattle.sl_safety.proofs.Pairs.Sectors.{IsFrom, Landed, NewestIn, Stood, left_spelled}
use Rattle.sl_safety.specs.Pairs.Reads.{SentOf}
use Rattle.sl_safety.specs.Pairs.PairsAreShown.{Both, StandsFor}
use Rattle.sl_ballot_law.specs.Pairs.Reads.{merged}
use Rattle.sl_ballot_law.specs.Pairs.State.{Stored, later}
use Rattle.sl_run.specs.Runs.{Happening}
use Rattle.sl_run.specs.Safety.{LawfulRun, world_at}
use Rattle.sl_run.specs.Worlds.{Landing, Program, World}
use Rattle.sl_run.specs.declared.header.Header.{Header}
use Rattle.sl_run.specs.declared.header.ResourceLine.{ResourceLine}
use Rattle.sl_sector.specs.SectorLayouts.{pair_in}
use Rattle.sl_sector.specs.declared.sector.PairBlock.{PairBlock}
use Rattle.sl_sector.specs.declared.sector.Rec.TheVariants.{PairIs}
use Rattle.sl_words.proofs.CaseLaws.{none_some, some_value}
use Rattle.std.proofs.Common.{ap, inl, inr, refl, subst, sym, ◌∙◌}
use Rattle.std.specs.Prelude.{Bool, Contains, List, None, Option, Some, false, if◌then◌else◌, nat_lt, option_map, true, ℕ, ◌≡◌}

-- ---- a block and its sender

pub both_some : (w : World) (r : ResourceLine) (k : ℕ) (o : Option PairBlock) (q : PairBlock) (x : Option Stored) → o ≡ Some q → Both w r k o x → (y : Stored) × (x ≡ Some y) × StandsFor w r k q y
both_some w r k o q None is both = absurd (subst (λ z. Both w r k z None) is both)
both_some w r k o q (Some y) is both = (y, refl, subst (λ z. Both w r k z (Some y)) is both)

pub later_stands : (w : World) (r : ResourceLine) (k : ℕ) (a b : Option PairBlock) (c d : Option Stored) → Both w r k a c → Both w r k b d → Both w r k (later_pair a b) (later c d)
later_stands w r k None b None d one two = two
later_stands w r k None b (Some c) d one two = absurd one
later_stands w r k (Some a) b None d one two = absurd one
later_stands w r k (Some a) None (Some c) None one two = one
later_stands w r k (Some a) None (Some c) (Some d) one two = absurd two
later_stands w r k (Some a) (Some b) (Some c) None one two = absurd two
later_stands w r k (Some a) (Some b) (Some c) (Some d) one two =
    subst (λ n. Both w r k (if nat_lt b.turn a.turn then Some a else Some b) (if nat_lt n c.turn then Some c else Some d)) (sym two.turn)
    (subst (λ n. Both w r k (if nat_lt b.turn a.turn then Some a else Some b) (if nat_lt b.turn n then Some c else Some d)) (sym one.turn) (by (nat_lt b.turn a.turn)))
  where
    by : (t : Bool) → Both w r k (if t then Some a else Some b) (if t then Some c else Some d)
    by true = one
    by false = two

-- What is kept of a first answer: the pair's block, where the second sector is whole.
abbrev pub kept_by : Option PairBlock → Option PairBlock → Option PairBlock
kept_by a b = elim b as (λ z. Option PairBlock) [ None ↦ None | Some p ↦ later_pair a b ]

pub merged_stands : (w : World) (r : ResourceLine) (k : ℕ) (a b c d : Option PairBlock) (e f g h : Option Stored) → Both w r k a e → Both w r k b f → Both w r k c g → Both w r k d h
    → Both w r k (later_pair (kept_by a b) (later_pair c d)) (merged e f g h)
merged_stands w r k a None c d e None g h one two three four = later_stands w r k c d g h three four
merged_stands w r k a None c d e (Some f) g h one two three four = absurd two
merged_stands w r k a (Some b) c d e None g h one two three four = absurd two
merged_stands w r k a (Some b) c d e (Some f) g h one two three four =
    later_stands w r k (later_pair a (Some b)) (later_pair c d) (later e (Some f)) (later g h) (later_stands w r k a (Some b) e (Some f) one two) (later_stands w r k c d g h three four)

-- ---- in a sector

mapped_stands : (w : World) (r : ResourceLine) (k : ℕ) (o : Option PairBlock) (n : ℕ)
    → ((q : PairBlock) → o ≡ Some q → (from : Option Sent) × SentOf w r k q from × (n ≡ step_given from))
    → Both w r k o (option_map (λ (q : PairBlock). let x : Stored = record { turn = q.turn; write = n } in x) o)
mapped_stands w r k None n f = tt
mapped_stands w r k (Some q) n f = let s = f q refl in record { turn = refl; from = s.0; sent = s.1; write = s.2 }

left_is : (whole : Bool) (p q : PairBlock) → (if whole then Some p else None) ≡ Some q → p ≡ q
left_is true p q h = some_value p q h
left_is false p q h = absurd (none_some q h)

fresh_of : (w : World) (r : ResourceLine) (k : ℕ) (first : Bool) (q : PairBlock) → q ≡ fresh_pair k (if first then 1 else 2) r.lockspace r.name → SentOf w r k q None
fresh_of w r k true q h = inl h
fresh_of w r k false q h = inr h

-- What the newest landing spells.
pub spelled_stands : (p : Program) (h : Header) (xs : List Happening) → LawfulRun p h xs → (r : ResourceLine) → Contains h.resources r → (world_at p h xs).layout.paired ≡ true → (k : ℕ)
    → is_host (world_at p h xs) k ≡ true → (first : Bool) (a : ℕ) (l : Landing) → NewestIn (world_at p h xs) r k first a l
    → Both (world_at p h xs) r k (pair_in k first (record_in (world_at p h xs).layout l.bytes)) (stored_in (world_at p h xs) k first l)
spelled_stands p h xs run r there paired k host first a l n =
    mapped_stands (world_at p h xs) r k (pair_in k first (record_in (world_at p h xs).layout l.bytes)) (step_of_landing (world_at p h xs) l) (λ q is. by n.from q is)
  where
    by : IsFrom (world_at p h xs) r k first l → (q : PairBlock) → pair_in k first (record_in (world_at p h xs).layout l.bytes) ≡ Some q
        → (from : Option Sent) × SentOf (world_at p h xs) r k q from × (step_of_landing (world_at p h xs) l ≡ step_given from)
    by (Stood zero write fresh) q is =
        (None, fresh_of (world_at p h xs) r k first q (some_value q (fresh_pair k (if first then 1 else 2) r.lockspace r.name) (sym is ∙ fresh)), write)
    by (Landed landed path offset) q is =
        let d : IsPairLanding p h xs r k first l = pair_landing p h xs run r there paired k host first l landed path offset in
        let same : d.pair ≡ q = left_is l.whole d.pair q (sym (left_spelled p h xs run r there k host first l d) ∙ is) in
        (Some d.sent, (d.block, d.writes ∙ ap (λ y. Some (PairIs y)) same), d.step)
