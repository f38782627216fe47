-- The two parts of a daemon's calls.
use Rattle.sl_cell.specs.declared.part.Part.TheVariants.{Delta, Resource}
use Rattle.sl_cell.specs.declared.part.Part.{Part}
use Rattle.sl_trace.specs.declared.effects.Call.{Call}
use Rattle.sl_trace.specs.declared.effects.Entry.{Entry}
use Rattle.sl_trace.specs.declared.effects.Purpose.TheVariants.{Joining, Lease, Leaving, Renewal, RequestRead, RequestWrite, SeeRequest, Survey, ValueRead, ValueWrite}
use Rattle.sl_trace.specs.declared.effects.Purpose.{Purpose}
use Rattle.std.specs.Prelude.{Bool, List, drop, false, filter, length, true, [], ℕ, ◌++◌, ◌∷◌, ◌≡◌, ◌≤◌}

-- Of which part a call is.
abbrev pub part_of : Purpose → Part
part_of (Joining job step) = Delta
part_of Renewal = Delta
part_of Survey = Delta
part_of (Leaving job) = Delta
part_of (Lease work step) = Resource
part_of (RequestRead job) = Resource
part_of (RequestWrite job owner) = Resource
part_of SeeRequest = Resource
part_of (ValueWrite job) = Resource
part_of (ValueRead job) = Resource

-- Whether two parts are one.
abbrev pub same_part : Part → Part → Bool
same_part Delta Delta = true
same_part Delta Resource = false
same_part Resource Delta = false
same_part Resource Resource = true

-- Whether the call is of this part.
abbrev pub is_of : Part → Call → Bool
is_of part c = same_part part (part_of c.purpose)

-- The calls of a part in these, in the order in which they were made.
abbrev pub calls_of : Part → List Entry → List Call
calls_of part [] = []
calls_of part (e ∷ es) = filter (is_of part) e.effects.calls ++ calls_of part es

-- So many calls of the part were taken, the first ones, and these are left.
pub record IsLeft (part : Part) (es : List Entry) (taken : ℕ) (calls : List Call) : Type 0 where
  pub most : taken ≤ length (calls_of part es)
  pub rest : calls ≡ drop taken (calls_of part es)
