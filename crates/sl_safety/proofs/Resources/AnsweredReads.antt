-- A read of blocks that was answered: what it gave, and that it was made at its place.
use Rattle.sl_run_law.proofs.Place.TracesOnMachines.{answer_gave}
use Rattle.sl_trace.specs.Leases.{blocks_given, is_area_read, is_block_read, spot_of_call}
use Rattle.sl_run_law.proofs.Place.ReadsInPlace.{area_place as placed_area, phase_place as placed_phase}
use Rattle.sl_words.specs.Words.{choose}
use Rattle.sl_trace.specs.Traces.{Answered, Submitted, gave, submitted}
use Rattle.sl_trace.specs.declared.input.Answer.TheVariants.{Read}
use Rattle.sl_area.specs.AreaSizes.{Layout}
use Rattle.sl_area.specs.AreaLayout.{area_blocks, blocks_in, blocks_part}
use Rattle.sl_run.specs.Lawful.{Orderly}
use Rattle.sl_run.specs.LawfulArea.{IsAreaRead, IsBlockRead}
use Rattle.sl_run_law.proofs.Place.PlaceLaws.{promised}
use Rattle.sl_run.specs.Runs.{Happening}
use Rattle.sl_run.specs.Safety.{LawfulRun, world_at}
use Rattle.sl_run.specs.Worlds.{Daemon, Machine, Program, daemons_on, machine_at}
use Rattle.sl_run.specs.declared.header.Header.{Header}
use Rattle.sl_sector.specs.declared.sector.Block.{Block}
use Rattle.sl_run_law.specs.Sessions.SessionLaws.{IsSession}
use Rattle.sl_trace.specs.declared.session.Session.{Session}
use Rattle.sl_trace.specs.declared.effects.Spot.{Spot}
use Rattle.sl_words.proofs.CaseLaws.{none_some, some_value}
use Rattle.std.proofs.Common.{refl, sym}
use Rattle.std.specs.Prelude.{Bool, Contains, List, None, Option, Some, false, option_map, true, ℕ, ◌≡◌}
use Rattle.sl_safety.proofs.Resources.GivenBlocks.{gave_blocks, given_bytes}
use Rattle.sl_trace.proofs.PlainReads.{given_plain}

-- ---- what a read gave

pub data Gave (g : Layout) (q : Submitted) (bs : List (Option Block)) : Type 0 where
  By_area : (bytes : List ℕ) → gave q ≡ Some bytes → is_area_read q ≡ true → bs ≡ area_blocks g bytes → Gave g q bs
  By_phase : (bytes : List ℕ) → gave q ≡ Some bytes → is_area_read q ≡ false → is_block_read q ≡ true → bs ≡ blocks_in g bytes → Gave g q bs

-- What is given by an answer's bytes, whether it is a read of the area, and whether it is one of blocks.
abbrev once_by : Layout → Option (List ℕ) → Bool → Bool → Option (List (Option Block))
once_by g o area blocks =
    option_map (blocks_in g) (elim o as (λ z. Option (List ℕ)) [
      | None ↦ None
      | Some bytes ↦ elim area as (λ z. Option (List ℕ)) [ true ↦ Some (blocks_part g bytes) | false ↦ choose blocks bytes ]
    ])

gave_by : (g : Layout) (q : Submitted) (bs : List (Option Block)) (o : Option (List ℕ)) (a b : Bool) → gave q ≡ o → is_area_read q ≡ a → is_block_read q ≡ b
    → once_by g o a b ≡ Some bs → Gave g q bs
gave_by g q bs None a b told one two h = absurd (none_some bs h)
gave_by g q bs (Some bytes) true b told one two h = By_area bytes told one (sym (some_value (area_blocks g bytes) bs h))
gave_by g q bs (Some bytes) false true told one two h = By_phase bytes told one two (sym (some_value (blocks_in g bytes) bs h))
gave_by g q bs (Some bytes) false false told one two h = absurd (none_some bs h)

-- Where each host's block has one sector: what its bytes spell, whatever was read before.
pub given_blocks : (g : Layout) → g.paired ≡ false → (q : Submitted) (before : List Submitted) (bs : List (Option Block)) → blocks_given g q before ≡ Some bs → Gave g q bs
given_blocks g plain q before bs h = gave_by g q bs (gave q) (is_area_read q) (is_block_read q) refl refl refl (given_plain g plain q before bs h)

-- It is a read of blocks that was answered with bytes.
pub record GivenBy (q : Submitted) : Type 0 where
  pub answered : Answered
  pub is : q.answer ≡ Some answered
  pub bytes : List ℕ
  pub read : answered.answer ≡ Read bytes
  pub gave_is : gave q ≡ Some bytes
  pub reads : is_block_read q ≡ true

given_with : (q : Submitted) (bytes : List ℕ) → gave q ≡ Some bytes → is_block_read q ≡ true → GivenBy q
given_with q bytes told reads = let a = answer_gave q.answer bytes told in record { answered = a.0; is = a.1; bytes = bytes; read = a.2; gave_is = told; reads = reads }

pub given_told : (g : Layout) (q : Submitted) (before : List Submitted) (bs : List (Option Block)) → blocks_given g q before ≡ Some bs → GivenBy q
given_told g q before bs h =
    let told = given_bytes g q before bs h in
    let b = gave_blocks g q told.0 told.1 in
    given_with q b.bytes b.gave_is b.reads

-- ---- at its place, by the law of reads

abbrev pub own_spot : Layout → Submitted → Spot
own_spot g q = spot_of_call g q

-- A read of the session on a daemon's trace.
pub record IsLook (p : Program) (h : Header) (xs : List Happening) (m : ℕ) (a : Machine) (d : Daemon) (q : Submitted) : Type 0 where
  pub run : LawfulRun p h xs
  pub at : machine_at (world_at p h xs) m ≡ Some a
  pub has : Contains (daemons_on a) d
  pub lawful : Orderly d.setting d.trace
  pub session : Session
  pub its : IsSession d.setting d.trace session
  pub there : Contains (submitted d.trace) q
  pub mine : q.call.session ≡ session.number

pub look_layout : (p : Program) (h : Header) (xs : List Happening) (m : ℕ) (a : Machine) (d : Daemon) (q : Submitted) → IsLook p h xs m a d q
    → d.setting.layout ≡ (world_at p h xs).layout
look_layout p h xs m a d q k = (promised.of_world p h xs k.run m a d k.at k.has).layout

pub area_place : (p : Program) (h : Header) (xs : List Happening) (m : ℕ) (a : Machine) (d : Daemon) (q : Submitted) → IsLook p h xs m a d q → is_area_read q ≡ true
    → IsAreaRead d.setting (spot_of_call d.setting.layout q) q
area_place p h xs m a d q k is = placed_area d.setting d.trace k.session q k.lawful k.its k.there k.mine is

pub phase_place : (p : Program) (h : Header) (xs : List Happening) (m : ℕ) (a : Machine) (d : Daemon) (q : Submitted) → IsLook p h xs m a d q → is_area_read q ≡ false
    → is_block_read q ≡ true → IsBlockRead d.setting (spot_of_call d.setting.layout q) q
phase_place p h xs m a d q k alone is = placed_phase d.setting d.trace k.session q k.lawful k.its k.there k.mine alone is
