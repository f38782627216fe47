-- Searches for equal records: field by field.
use Rattle.sl_sector.specs.declared.sector.Block.{Block}
use Rattle.sl_sector.specs.declared.sector.DeltaRec.{DeltaRec}
use Rattle.sl_sector.specs.declared.sector.DeltaState.TheVariants.{Claimed, Free, Live}
use Rattle.sl_sector.specs.declared.sector.DeltaState.{DeltaState}
use Rattle.sl_sector.specs.declared.sector.Owner.{Owner}
use Rattle.sl_trace.specs.declared.stage.Stage.TheVariants.{Standing}
use Rattle.sl_trace.specs.declared.stage.Stage.{Stage}
use Rattle.sl_trace.specs.declared.effects.Mode.TheVariants.{Exclusive, Shared}
use Rattle.sl_trace.specs.declared.effects.Mode.{Mode}
use Rattle.sl_trace.specs.declared.effects.Op.TheVariants.{ReadSectors, WriteRecord}
use Rattle.sl_trace.specs.declared.effects.Op.{Op}
use Rattle.sl_trace.specs.declared.effects.Purpose.TheVariants.{SeeRequest, ValueRead}
use Rattle.sl_trace.specs.declared.effects.Purpose.{Purpose}
use Rattle.sl_trace.specs.declared.input.Answer.TheVariants.{Written}
use Rattle.sl_trace.specs.declared.input.Answer.{Answer}
use Rattle.sl_trace.specs.declared.input.Input.{Input}
use Rattle.sl_trace.specs.declared.input.Input.TheVariants.{Exit, Spawned}
use Rattle.sl_trace.specs.declared.reply.Reply.TheVariants.{Value, ValueSet}
use Rattle.sl_trace.specs.declared.reply.Reply.{Reply}
use Rattle.sl_examples.proofs.Witness.ProofSearch.{seek_same, seek_text, ◌>>=◌}
use Rattle.std.proofs.Common.{ap, refl}
use Rattle.std.specs.Prelude.{Bool, List, None, Option, Some, false, not, true, ℕ, ◌≡◌}

-- ---- truths and options of names

abbrev pub seek_truth : (a b : Bool) → Option (a ≡ b)
seek_truth true true = Some refl
seek_truth false false = Some refl
seek_truth a b = None

abbrev pub seek_name : (a b : Option (List ℕ)) → Option (a ≡ b)
seek_name None None = Some refl
seek_name (Some a) (Some b) = do
  h ← seek_text a b
  Some (ap (λ n. Some n) h)
seek_name a b = None

-- ---- delta records

abbrev pub seek_state : (a b : DeltaState) → Option (a ≡ b)
seek_state Free Free = Some refl
seek_state Claimed Claimed = Some refl
seek_state Live Live = Some refl
seek_state a b = None

abbrev made_delta : DeltaState → ℕ → ℕ → ℕ → ℕ → List ℕ → Option (List ℕ) → List ℕ → DeltaRec
made_delta state id generation seq stamp lockspace host bitmap =
    record { state = state; id = id; generation = generation; seq = seq; stamp = stamp; lockspace = lockspace; host = host; bitmap = bitmap }

pub delta_same : (a b : DeltaRec) → a.state ≡ b.state → a.id ≡ b.id → a.generation ≡ b.generation → a.seq ≡ b.seq → a.stamp ≡ b.stamp
    → a.lockspace ≡ b.lockspace → a.host ≡ b.host → a.bitmap ≡ b.bitmap → a ≡ b
delta_same a b state id generation seq stamp lockspace host bitmap =
    let e : made_delta a.state a.id a.generation a.seq a.stamp a.lockspace a.host a.bitmap
    ≡ made_delta b.state b.id b.generation b.seq b.stamp b.lockspace b.host b.bitmap = cc in e

abbrev pub seek_delta : (a b : DeltaRec) → Option (a ≡ b)
seek_delta a b = do
  state ← seek_state a.state b.state
  id ← seek_same a.id b.id
  generation ← seek_same a.generation b.generation
  seq ← seek_same a.seq b.seq
  stamp ← seek_same a.stamp b.stamp
  lockspace ← seek_text a.lockspace b.lockspace
  host ← seek_name a.host b.host
  bitmap ← seek_text a.bitmap b.bitmap
  Some (delta_same a b state id generation seq stamp lockspace host bitmap)

pub some_same : {A : Type 0} (a b : A) → a ≡ b → Some a ≡ Some b
some_same a b h = ap (λ x. Some x) h

abbrev pub seek_some_delta : (a : Option DeltaRec) (b : DeltaRec) → Option (a ≡ Some b)
seek_some_delta None b = None
seek_some_delta (Some a) b = do
  h ← seek_delta a b
  Some (some_same a b h)

-- ---- blocks and owners

abbrev made_block : ℕ → Bool → ℕ → ℕ → ℕ → ℕ → ℕ → ℕ → Block
made_block host shared lver mbal bal inp_gen mode_gen inp =
    record { host = host; shared = shared; lver = lver; mbal = mbal; bal = bal; inp_gen = inp_gen; mode_gen = mode_gen; inp = inp }

pub block_same : (a b : Block) → a.host ≡ b.host → a.shared ≡ b.shared → a.lver ≡ b.lver → a.mbal ≡ b.mbal → a.bal ≡ b.bal
    → a.inp_gen ≡ b.inp_gen → a.mode_gen ≡ b.mode_gen → a.inp ≡ b.inp → a ≡ b
block_same a b host shared lver mbal bal inp_gen mode_gen inp =
    let e : made_block a.host a.shared a.lver a.mbal a.bal a.inp_gen a.mode_gen a.inp
    ≡ made_block b.host b.shared b.lver b.mbal b.bal b.inp_gen b.mode_gen b.inp = cc in e

abbrev pub seek_block : (a b : Block) → Option (a ≡ b)
seek_block a b = do
  host ← seek_same a.host b.host
  shared ← seek_truth a.shared b.shared
  lver ← seek_same a.lver b.lver
  mbal ← seek_same a.mbal b.mbal
  bal ← seek_same a.bal b.bal
  inp_gen ← seek_same a.inp_gen b.inp_gen
  mode_gen ← seek_same a.mode_gen b.mode_gen
  inp ← seek_same a.inp b.inp
  Some (block_same a b host shared lver mbal bal inp_gen mode_gen inp)

abbrev made_owner : ℕ → ℕ → Owner
made_owner id generation = record { id = id; generation = generation }

pub owner_same : (a b : Owner) → a.id ≡ b.id → a.generation ≡ b.generation → a ≡ b
owner_same a b id generation = let e : made_owner a.id a.generation ≡ made_owner b.id b.generation = cc in e

pub end_same : (p : ℕ × Owner) (n : ℕ) (o : Owner) → p.0 ≡ n → p.1 ≡ o → p ≡ (n, o)
end_same p n o first second = let e : (p.0, p.1) ≡ (n, o) = cc in e

-- An instance with its owner.
abbrev pub seek_end : (p : ℕ × Owner) (n : ℕ) (o : Owner) → Option (p ≡ (n, o))
seek_end p n o = do
  first ← seek_same p.0 n
  id ← seek_same p.1.id o.id
  generation ← seek_same p.1.generation o.generation
  Some (end_same p n o first (owner_same p.1 o id generation))

-- ---- stages, modes, calls

abbrev pub seek_standing : (s : Stage) → Option (s ≡ Standing)
seek_standing Standing = Some refl
seek_standing s = None

abbrev pub seek_exclusive : (m : Mode) → Option (m ≡ Exclusive)
seek_exclusive Exclusive = Some refl
seek_exclusive Shared = None

pub not_exclusive : {P : Type 0} → Shared ≡ Exclusive → P
not_exclusive h = absurd cc

-- What is said where the mode is exclusive.
abbrev pub seek_where_exclusive : {P : Type 0} (m : Mode) → Option P → Option (m ≡ Exclusive → P)
seek_where_exclusive Shared f = Some not_exclusive
seek_where_exclusive Exclusive f = do
  h ← f
  Some (λ is. h)

abbrev pub seek_written : (a : Answer) → Option (a ≡ Written)
seek_written Written = Some refl
seek_written a = None

abbrev pub seek_read_op : (op : Op) (n : ℕ) → Option (op ≡ ReadSectors n)
seek_read_op (ReadSectors m) n = do
  h ← seek_same m n
  Some (ap (λ k. ReadSectors k) h)
seek_read_op (WriteRecord r) n = None

-- Whether the call sees a request.
abbrev pub sees : Purpose → Bool
sees SeeRequest = true
sees p = false

pub not_seen : (p : Purpose) → sees p ≡ false → p ≡ SeeRequest → ⊥
not_seen p h is = let same : sees p ≡ true = ap sees is in cc

-- Whether the call reads a value.
abbrev pub reads_value : Purpose → Bool
reads_value (ValueRead j) = true
reads_value p = false

pub no_value_read : (p : Purpose) → reads_value p ≡ false → (j : ℕ) → p ≡ ValueRead j → ⊥
no_value_read p h j is = let same : reads_value p ≡ true = ap reads_value is in cc

-- Whether the reply tells a value.
abbrev pub tells_value : Reply → Bool
tells_value (Value lver seq bytes) = true
tells_value r = false

pub no_value_told : (r : Reply) → tells_value r ≡ false → (lver seq : ℕ) (bytes : List ℕ) → r ≡ Value lver seq bytes → ⊥
no_value_told r h lver seq bytes is = let same : tells_value r ≡ true = ap tells_value is in cc

-- Whether the reply tells that a value was written.
abbrev pub tells_set : Reply → Bool
tells_set (ValueSet lver seq) = true
tells_set r = false

pub no_set_told : (r : Reply) → tells_set r ≡ false → (lver seq : ℕ) → r ≡ ValueSet lver seq → ⊥
no_set_told r h lver seq is = let same : tells_set r ≡ true = ap tells_set is in cc

-- Whether a process exits.
abbrev pub is_exit : Input → Bool
is_exit (Exit p) = true
is_exit i = false

pub no_exit : (i : Input) → is_exit i ≡ false → (p : ℕ) → i ≡ Exit p → ⊥
no_exit i h p is = let same : is_exit i ≡ true = ap is_exit is in cc

-- Whether a child was not started.
abbrev pub is_not_started : Input → Bool
is_not_started (Spawned p ok) = not ok
is_not_started i = false

pub no_failure : (i : Input) → is_not_started i ≡ false → (p : ℕ) → i ≡ Spawned p false → ⊥
no_failure i h p is = let same : is_not_started i ≡ true = ap is_not_started is in cc
