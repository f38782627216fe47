-- What is printed of a record.
use Rattle.sl_sector.specs.Bitmaps.{bits_of}
use Rattle.sl_sector.specs.SectorLayouts.{flag}
use Rattle.sl_sector.specs.declared.sector.Bad.TheVariants.{BadCheck, BadField, BadKind, BadMagic, BadPad}
use Rattle.sl_sector.specs.declared.sector.Bad.{Bad}
use Rattle.sl_sector.specs.declared.sector.Block.{Block}
use Rattle.sl_sector.specs.declared.sector.DeltaRec.{DeltaRec}
use Rattle.sl_sector.specs.declared.sector.DeltaState.TheVariants.{Claimed, Free, Live}
use Rattle.sl_sector.specs.declared.sector.DeltaState.{DeltaState}
use Rattle.sl_sector.specs.declared.sector.Leader.{Leader}
use Rattle.sl_sector.specs.declared.sector.Rec.TheVariants.{BlockIs, DeltaIs, LeaderIs, PairIs, PairLeaderIs, RequestIs, ValueIs}
use Rattle.sl_sector.specs.declared.sector.Rec.{Rec}
use Rattle.sl_text.specs.Forms.{spaced}
use Rattle.std.specs.List.{join_with_byte}
use Rattle.std.specs.Prelude.{Bool, List, codes, decimal, false, length, map, true, unwrap_or, [], ℕ, ◌++◌, ◌∷◌}

-- A delta record's state.
abbrev pub delta_word : DeltaState → List ℕ
delta_word Free = codes "free"
delta_word Claimed = codes "claim"
delta_word Live = codes "live"

-- A dash where there is nothing.
abbrev pub dash_for_none : List ℕ → List ℕ
dash_for_none [] = codes "-"
dash_for_none (c ∷ cs) = c ∷ cs

-- The bits that are set, if any.
abbrev pub bits_words : List ℕ → List (List ℕ)
bits_words [] = []
bits_words (k ∷ ks) = codes "bits" ∷ join_with_byte 44 (map decimal (k ∷ ks)) ∷ []

-- A leader's state.
abbrev pub held_word : Bool → List ℕ
held_word true = codes "held"
held_word false = codes "free"

-- The words of a delta record before the host's name.
abbrev pub delta_front : DeltaRec → List (List ℕ)
delta_front d = codes "delta" ∷ decimal d.id ∷ codes "gen" ∷ decimal d.generation ∷ delta_word d.state ∷ []

-- The words behind it, but for the bits.
abbrev pub delta_back : DeltaRec → List (List ℕ)
delta_back d = codes "seq" ∷ decimal d.seq ∷ codes "stamp" ∷ decimal d.stamp ∷ []

-- The words of a leader.
abbrev pub leader_words : Leader → List (List ℕ)
leader_words l =
    codes "leader" ∷ codes "lver" ∷ decimal l.lver ∷ codes "owner" ∷ decimal l.owner ∷ codes "gen" ∷ decimal l.generation
    ∷ held_word l.held ∷ []

-- The words of a block behind its host.
abbrev pub block_back : Block → List (List ℕ)
block_back b =
    codes "lver" ∷ decimal b.lver ∷ codes "mbal" ∷ decimal b.mbal ∷ codes "bal" ∷ decimal b.bal
    ∷ codes "inp" ∷ decimal b.inp ∷ decimal b.inp_gen ∷ codes "mode" ∷ decimal (flag b.shared) ∷ decimal b.mode_gen ∷ []

-- The words of a record.
abbrev pub record_words : Rec → List (List ℕ)
record_words (DeltaIs d) = delta_front d ++ dash_for_none (unwrap_or d.host []) ∷ (delta_back d ++ bits_words (bits_of d.bitmap))
record_words (LeaderIs l) = leader_words l
record_words (BlockIs b) = codes "block" ∷ decimal b.host ∷ block_back b
record_words (RequestIs r) =
    codes "request" ∷ codes "lver" ∷ decimal r.lver ∷ codes "force" ∷ decimal r.force ∷ codes "host" ∷ decimal r.host ∷ []
record_words (ValueIs v) =
    codes "value" ∷ codes "lver" ∷ decimal v.lver ∷ codes "seq" ∷ decimal v.seq ∷ codes "len" ∷ decimal (length v.bytes) ∷ []
record_words (PairIs p) = codes "block" ∷ decimal p.block.host ∷ codes "turn" ∷ decimal p.turn ∷ block_back p.block
record_words (PairLeaderIs l) = leader_words l

-- The text of a record.
abbrev pub record_text : Rec → List ℕ
record_text r = spaced (record_words r)

-- The words of a refusal: its name, and the offset where there is one.
abbrev pub bad_words : Bad → List (List ℕ)
bad_words BadMagic = codes "BadMagic" ∷ []
bad_words BadKind = codes "BadKind" ∷ []
bad_words (BadField at) = codes "BadField" ∷ decimal at ∷ []
bad_words (BadPad at) = codes "BadPad" ∷ decimal at ∷ []
bad_words BadCheck = codes "BadCheck" ∷ []

-- The text of a refusal.
abbrev pub bad_text : Bad → List ℕ
bad_text b = spaced (bad_words b)
