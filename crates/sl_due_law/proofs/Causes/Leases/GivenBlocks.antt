-- What an answer gives of the leader and the blocks: of a read of the area what it gives with the reads before it.
use Rattle.sl_area.specs.Pairs.{BlocksRead, blocks_of}
use Rattle.sl_area.specs.TornLeader.{leader_read}
use Rattle.sl_area.specs.AreaLayout.{area_blocks, blocks_in, blocks_part, leader_of}
use Rattle.sl_due_law.proofs.Causes.NamesBefore.{with_session}
use Rattle.sl_due_leases.proofs.Ways.GivenReads.{blocks_heard, leader_heard}
use Rattle.sl_run.specs.Caused.{Answering, BeforeCall, GivesBlocks, GivesLeader, after_entry, the_session}
use Rattle.sl_sector.specs.declared.sector.Block.{Block}
use Rattle.sl_sector.specs.declared.sector.Leader.{Leader}
use Rattle.sl_trace.proofs.PlainReads.{blocks_plain, leader_plain}
use Rattle.sl_trace.specs.Leases.{Area_read, Read_before_free, blocks_given, is_area_read, is_at, leader_given, lease_calls, read_given, spot_of_call}
use Rattle.sl_trace.specs.Traces.{Submitted, gave}
use Rattle.sl_trace.specs.declared.session.Session.{Session}
use Rattle.sl_words.proofs.CaseLaws.{true_is_false}
use Rattle.std.proofs.Common.{ap, refl, subst, sym, ◌∙◌}
use Rattle.std.specs.Prelude.{Bool, IsSome, IsSomeAnd, List, Option, Some, [], false, is_some, true, ℕ, ◌&&◌, ◌++◌, ◌∷◌, ◌≡◌, ◌||◌}

-- Of a call that doesn't read an area's blocks the leader is the one that is spelled.
pub leader_spelled : (y : Answering) (c : Submitted) (bytes : List ℕ) (l : Option Leader) → is_at Area_read c ≡ false → leader_of y.setting.layout bytes ≡ l → GivesLeader y c bytes l
leader_spelled y c bytes l other is = by y.setting.layout.paired (is_at Area_read c) other where
  by : (paired area : Bool) → area ≡ false → elim (paired && area) as (λ z. Type 0) [
    | false ↦ leader_of y.setting.layout bytes ≡ l
    | true ↦ BeforeCall y c (λ s before. IsSome (blocks_given y.setting.layout c before) × (leader_given y.setting.layout c before ≡ l))
  ]
  by false area at = is
  by true false at = is
  by true true at = absurd (true_is_false at)

-- A read of the area that isn't made once more, with the calls of the lease before it, and all that it gave of the blocks.
pub record AreaRead (y : Answering) (s : Session) (c : Submitted) (bytes : List ℕ) (r : BlocksRead) : Type 0 where
  pub session : the_session y ≡ Some s
  pub before : List Submitted
  pub calls : lease_calls y.setting (after_entry y) s (spot_of_call y.setting.layout c) ≡ c ∷ before
  pub gives : gave c ≡ Some bytes
  pub at : is_at Area_read c ≡ true
  pub given : read_given y.setting.layout c before ≡ Some r
  pub last : r.last ≡ blocks_part y.setting.layout bytes

-- What is said of the calls before it.
before_it : (y : Answering) (s : Session) (c : Submitted) (bytes : List ℕ) (r : BlocksRead) → (h : AreaRead y s c bytes r) → (P : Session → List Submitted → Type 0) → P s h.before → BeforeCall y c P
before_it y s c bytes r h P holds =
    with_session y s (λ s. (later before : List Submitted) × (lease_calls y.setting (after_entry y) s (spot_of_call y.setting.layout c) ≡ later ++ c ∷ before) × P s before) h.session
    ([], h.before, h.calls, holds)

pub leader_gives : (y : Answering) (s : Session) (c : Submitted) (bytes : List ℕ) (r : BlocksRead) → AreaRead y s c bytes r → (l : Option Leader) → leader_read y.setting.layout bytes r ≡ l → GivesLeader y c bytes l
leader_gives y s c bytes r h l is = by y.setting.layout.paired refl where
  of_area : is_area_read c ≡ true
  of_area = ap (λ b. b || is_at Read_before_free c) h.at

  whole : IsSome (blocks_given y.setting.layout c h.before)
  whole = ap (λ o. is_some o) (blocks_heard y.setting.layout c h.before r h.given)

  by : (paired : Bool) → y.setting.layout.paired ≡ paired → elim (paired && is_at Area_read c) as (λ z. Type 0) [
    | false ↦ leader_of y.setting.layout bytes ≡ l
    | true ↦ BeforeCall y c (λ s before. IsSome (blocks_given y.setting.layout c before) × (leader_given y.setting.layout c before ≡ l))
  ]
  by false plain = sym (leader_plain y.setting.layout plain bytes r) ∙ is
  by true paired =
      subst (λ b. elim b as (λ z. Type 0) [
        | false ↦ leader_of y.setting.layout bytes ≡ l
        | true ↦ BeforeCall y c (λ s before. IsSome (blocks_given y.setting.layout c before) × (leader_given y.setting.layout c before ≡ l))
      ]) (sym h.at)
      (before_it y s c bytes r h (λ s before. IsSome (blocks_given y.setting.layout c before) × (leader_given y.setting.layout c before ≡ l))
      (whole, leader_heard y.setting.layout c h.before r bytes h.given h.gives of_area ∙ is))

pub blocks_give : (y : Answering) (s : Session) (c : Submitted) (bytes : List ℕ) (r : BlocksRead) → AreaRead y s c bytes r → (P : List (Option Block) → Type 0) → P (blocks_of y.setting.layout r) → GivesBlocks y c bytes P
blocks_give y s c bytes r h P holds = by y.setting.layout.paired refl where
  by : (paired : Bool) → y.setting.layout.paired ≡ paired → elim paired as (λ z. Type 0) [
    | false ↦ P (area_blocks y.setting.layout bytes)
    | true ↦ BeforeCall y c (λ s before. IsSomeAnd (blocks_given y.setting.layout c before) P)
  ]
  by false plain = subst P (blocks_plain y.setting.layout plain r ∙ ap (λ bs. blocks_in y.setting.layout bs) h.last) holds
  by true paired =
      before_it y s c bytes r h (λ s before. IsSomeAnd (blocks_given y.setting.layout c before) P)
      (subst (λ o. IsSomeAnd o P) (sym (blocks_heard y.setting.layout c h.before r h.given)) holds)
