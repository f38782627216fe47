-- A search for the law of calls: what is written has a spelling.
use Rattle.sl_run.specs.LawfulCalls.{LawfulCalls, may_submit}
use Rattle.sl_sector.specs.Records.{AreBytes, IsBlock, IsDelta, IsLeader, IsRecord}
use Rattle.sl_sector.specs.declared.sector.Block.{Block}
use Rattle.sl_sector.specs.declared.sector.DeltaRec.{DeltaRec}
use Rattle.sl_sector.specs.declared.sector.Leader.{Leader}
use Rattle.sl_sector.specs.declared.sector.Rec.TheVariants.{BlockIs, DeltaIs, LeaderIs, PairIs, PairLeaderIs, RequestIs, ValueIs}
use Rattle.sl_sector.specs.declared.sector.Rec.{Rec}
use Rattle.sl_trace.specs.Sessions.{session_numbered, stage_of}
use Rattle.sl_text.specs.Names.{is_name}
use Rattle.sl_trace.specs.Traces.{Setting, Trace, record_of}
use Rattle.sl_trace.specs.declared.effects.Call.{Call}
use Rattle.sl_trace.specs.declared.effects.Entry.{Entry}
use Rattle.sl_examples.proofs.Witness.EachSearch.{seek_each_call}
use Rattle.sl_examples.proofs.Witness.ProofSearch.{seek_all, seek_for, seek_le, seek_lt, seek_same, seek_true, ◌>>=◌}
use Rattle.sl_words.proofs.CaseLaws.{true_is_false}
use Rattle.sl_words.specs.Bounds.{moments, most_hosts, record_numbers}
use Rattle.std.proofs.Common.{refl, sym, ◌∙◌}
use Rattle.std.specs.List.{list_all}
use Rattle.std.specs.Prelude.{Bool, Contains, IsSome, IsSomeAnd, IsTrue, List, None, Option, Some, false, is_some, length, nat_lt, suc, true, zero, ℕ, ◌<◌, ◌↔◌, ◌∷◌, ◌≡◌}
use native.Mathlib.Omega.{arith}

-- ---- numbers that are 0 together

pub both_zero : (a b : ℕ) → a ≡ 0 → b ≡ 0 → a ≡ 0 ↔ b ≡ 0
both_zero a b p q = (λ h. q, λ h. p)

pub both_positive : (a b : ℕ) → 0 < a → 0 < b → a ≡ 0 ↔ b ≡ 0
both_positive a b p q = (λ h. absurd (omega (arith, h, p)), λ h. absurd (omega (arith, h, q)))

abbrev pub seek_zeros : (a b : ℕ) → Option (a ≡ 0 ↔ b ≡ 0)
seek_zeros zero b = do
  h ← seek_same b 0
  Some (both_zero 0 b refl h)
seek_zeros (suc a) b = do
  p ← seek_lt 0 (suc a)
  q ← seek_lt 0 b
  Some (both_positive (suc a) b p q)

pub not_zero : (P : Type 0) (n : ℕ) → 0 < n → n ≡ 0 → P
not_zero P n h is = absurd (omega (arith, h, is))

-- ---- what is said of an optional name

abbrev pub seek_host : (o : Option (List ℕ)) → Option (IsSomeAnd o (λ n. IsTrue (is_name n)))
seek_host None = None
seek_host (Some n) = seek_true (is_name n)

abbrev pub seek_bytes : (n : ℕ) (bs : List ℕ) → Option (AreBytes n bs)
seek_bytes n bs = do
  long ← seek_same (length bs) n
  each ← seek_true (list_all (λ b. nat_lt b 256) bs)
  Some (long, each)

-- ---- records

abbrev pub seek_is_delta : (d : DeltaRec) → Option (IsDelta d)
seek_is_delta d = do
  low ← seek_le 1 d.id
  high ← seek_le d.id most_hosts
  generation ← seek_lt d.generation record_numbers
  begun ← seek_lt 0 d.generation
  seq ← seek_lt d.seq record_numbers
  stamp ← seek_lt d.stamp moments
  lockspace ← seek_true (is_name d.lockspace)
  bitmap ← seek_bytes 250 d.bitmap
  host ← seek_host d.host
  Some (record {
    id = (low, high);
    generation = generation;
    seq = seq;
    stamp = stamp;
    lockspace = lockspace;
    bitmap = bitmap;
    unused = not_zero _ d.generation begun;
    used = λ h. host;
  })

abbrev pub seek_is_leader : (l : Leader) → Option (IsLeader l)
seek_is_leader l = do
  low ← seek_le 1 l.num_hosts
  high ← seek_le l.num_hosts most_hosts
  lver ← seek_lt l.lver record_numbers
  begun ← seek_lt 0 l.lver
  generation ← seek_lt l.generation record_numbers
  owner ← seek_le l.owner l.num_hosts
  lockspace ← seek_true (is_name l.lockspace)
  resource ← seek_true (is_name l.resource)
  some_generation ← seek_lt 0 l.generation
  some_owner ← seek_lt 0 l.owner
  Some (record {
    hosts = (low, high);
    lver = lver;
    generation = generation;
    owner = owner;
    lockspace = lockspace;
    resource = resource;
    same = (both_positive l.lver l.generation begun some_generation, both_positive l.lver l.owner begun some_owner);
    unused = not_zero _ l.lver begun;
  })

pub no_mode : (b : Bool) (n : ℕ) → b ≡ false → n ≡ 0 → b ≡ false ↔ n ≡ 0
no_mode b n p q = (λ h. q, λ h. p)

pub a_mode : (b : Bool) (n : ℕ) → b ≡ true → 0 < n → b ≡ false ↔ n ≡ 0
a_mode b n p q = (λ h. absurd (true_is_false (sym p ∙ h)), λ h. absurd (omega (arith, h, q)))

abbrev pub seek_block_mode : (b : Bool) (n : ℕ) → Option (b ≡ false ↔ n ≡ 0)
seek_block_mode true n = do
  begun ← seek_lt 0 n
  Some (a_mode true n refl begun)
seek_block_mode false n = do
  none ← seek_same n 0
  Some (no_mode false n refl none)

abbrev pub seek_is_block : (b : Block) → Option (IsBlock b)
seek_is_block b = do
  low ← seek_le 1 b.host
  high ← seek_le b.host most_hosts
  lver ← seek_lt b.lver record_numbers
  begun ← seek_lt 0 b.lver
  mbal ← seek_lt b.mbal record_numbers
  bal ← seek_le b.bal b.mbal
  inp_gen ← seek_lt b.inp_gen record_numbers
  mode_gen ← seek_lt b.mode_gen record_numbers
  inp ← seek_le b.inp most_hosts
  first ← seek_zeros b.bal b.inp_gen
  second ← seek_zeros b.bal b.inp
  mode ← seek_block_mode b.shared b.mode_gen
  Some (record {
    host = (low, high);
    lver = lver;
    mbal = mbal;
    bal = bal;
    generations = (inp_gen, mode_gen);
    inp = inp;
    value = (first, second);
    mode = mode;
    unused = not_zero _ b.lver begun;
  })

abbrev pub seek_record : (r : Rec) → Option (IsRecord r)
seek_record (DeltaIs d) = seek_is_delta d
seek_record (LeaderIs l) = seek_is_leader l
seek_record (BlockIs b) = seek_is_block b
seek_record (PairIs p) = None
seek_record (PairLeaderIs l) = None
seek_record (RequestIs r) = None
seek_record (ValueIs v) = None

-- ---- the law

pub spelled_all : (e : Entry) → ((c : Call) → Contains e.effects.calls c → (r : Rec) → record_of c.op ≡ Some r → IsRecord r)
    → (c : Call) (r : Rec) → Contains e.effects.calls c → record_of c.op ≡ Some r → IsRecord r
spelled_all e h c r within is = h c within r is

abbrev pub seek_calls : (st : Setting) (past : Trace) (e : Entry) → Option (LawfulCalls st past e)
seek_calls st past e = do
  owned ← seek_all (λ c. IsSome (session_numbered st (e ∷ past) c.session)) (λ c. seek_true (is_some (session_numbered st (e ∷ past) c.session))) e.effects.calls
  alive ← seek_each_call st (λ es s c. IsTrue (may_submit (stage_of es s))) (λ es s c. seek_true (may_submit (stage_of es s))) past e
  spelled ← seek_all (λ c. (r : Rec) → record_of c.op ≡ Some r → IsRecord r) (λ c. seek_for IsRecord (record_of c.op) seek_record) e.effects.calls
  Some (record { owned = owned; alive = alive; spelled = spelled_all e spelled })
