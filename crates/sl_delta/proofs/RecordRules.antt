-- What a session writes on its id's sector is a record.
use Rattle.sl_delta.specs.OwnSector.{IsOwnRecord}
use Rattle.sl_area.specs.AreaSizes.{IsGeometry, Sizes}
use Rattle.sl_sector.specs.Records.{AreBytes, Fits}
use Rattle.sl_sector.specs.declared.sector.DeltaState.{DeltaState}
use Rattle.sl_trace.specs.DeltaDecisions.{DeltaLease, is_renewal_due}
use Rattle.sl_trace.specs.declared.delta.DeltaKnown.{DeltaKnown}
use Rattle.sl_text.specs.Names.{is_name}
use Rattle.sl_words.specs.Bounds.{is_number, moments, most_hosts}
use Rattle.std.proofs.lemmas.Bool.Decides.{nat_tests}
use Rattle.std.proofs.Common.{Bool, IsTrue, List, None, Option, Some, arith, false, not, true, ◌&&◌, ◌+◌, ℕ, ◌<◌, ◌≡◌, ◌≤◌}

pub record_is : (state : DeltaState) (id generation seq now : ℕ) (lockspace host bitmap : List ℕ) → 1 ≤ id → id ≤ most_hosts → IsTrue (is_name host) → IsTrue (is_name lockspace)
    → AreBytes 250 bitmap → 1 ≤ generation → Fits generation → Fits seq → now < moments
    → IsOwnRecord (record { state = state; id = id; generation = generation; seq = seq; stamp = now; lockspace = lockspace; host = Some host; bitmap = bitmap })
record_is state id generation seq now lockspace host bitmap one most named space bits some gen sq moment = record {
  rules = record {
    id = (one, most);
    generation = gen;
    seq = sq;
    stamp = moment;
    lockspace = space;
    bitmap = bits;
    unused = λ none. absurd (let e : generation ≡ 0 = none in omega (arith, e, some));
    used = λ used. named;
  };
  claimed = some;
}

-- A run has at most the most hosts.
pub hosts_few : (z : Sizes) → IsGeometry z → z.hosts ≤ most_hosts
hosts_few z g = grind (arith, nat_tests, g)

and_last : (a b : Bool) → IsTrue (a && b) → IsTrue b
and_last true b h = h
and_last false b h = absurd cc

left_for : (leaving : Option ℕ) (freed : Bool) (seq : ℕ) → IsTrue (elim leaving [ None ↦ is_number (seq + 1) | Some j ↦ not freed && is_number (seq + 2) ]) → Fits (seq + 1)
left_for None freed seq h = grind (arith, nat_tests, h)
left_for (Some j) freed seq h = let two : IsTrue (is_number (seq + 2)) = and_last (not freed) _ h in grind (arith, nat_tests, two)

-- Where a renewal is due a seq is left for it.
pub renewal_fits : (l : DeltaLease) (now : ℕ) (k : DeltaKnown) → IsTrue (is_renewal_due l now k) → Fits (k.seq + 1)
renewal_fits l now k due = left_for k.leaving k.freed k.seq (and_last _ _ due)
