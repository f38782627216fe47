-- Which lease a lock is: a lock of a volume group is a resource in an area of the group's own lockspace.
use Rattle.sl_text.specs.Names.{is_name}
use Rattle.sl_trace.specs.declared.command.LockspaceArg.{LockspaceArg}
use Rattle.sl_trace.specs.declared.command.ResourceArg.{ResourceArg}
use Rattle.std.specs.Prelude.{Bool, List, bytes_eq, codes, count_by, flat_map, if◌then◌else◌, length, nat_le, [], ℕ, ◌&&◌, ◌*◌, ◌++◌, ◌+◌, ◌==◌, ◌∷◌}

-- A lock: its volume group, its name, and the number of its area in the group's lockspace.
pub record Lock : Type 0 where
  pub group : List ℕ
  pub name : List ℕ
  pub number : ℕ

-- Whether two locks are one.
abbrev pub same_lock : Lock → Lock → Bool
same_lock a b = bytes_eq a.group b.group && bytes_eq a.name b.name && a.number == b.number

-- The global lock, in the area of this group.
abbrev pub global_lock : List ℕ → Lock
global_lock group = record { group = group; name = codes "GLLK"; number = 1 }

-- The lock of a group.
abbrev pub group_lock : List ℕ → Lock
group_lock group = record { group = group; name = codes "VGLK"; number = 2 }

-- The lock of a logical volume, in the area of this number.
abbrev pub volume_lock : List ℕ → List ℕ → ℕ → Lock
volume_lock group name number = record { group = group; name = name; number = number }

-- The first number of an area of a logical volume.
abbrev pub first_volume : ℕ
first_volume = 3

-- Whether it is the lock of a logical volume.
abbrev pub is_volume : Lock → Bool
is_volume l = nat_le first_volume l.number

-- Names are at most 43 characters long, so that the path has room for them; in a group's name each dash counts as two.
abbrev pub longest_lock_name : ℕ
longest_lock_name = 43

-- The name of a group.
abbrev pub is_group_name : List ℕ → Bool
is_group_name w = is_name w && nat_le (length w + count_by (λ c. c == 45) w) longest_lock_name

-- The name of a logical volume.
abbrev pub is_volume_name : List ℕ → Bool
is_volume_name w = is_name w && nat_le (length w) longest_lock_name

-- The name with each dash doubled, as the device mapper does.
abbrev pub doubled : List ℕ → List ℕ
doubled name = flat_map (λ c. if c == 45 then 45 ∷ 45 ∷ [] else c ∷ []) name

-- The lockspace of a group.
abbrev pub group_lockspace : List ℕ → List ℕ
group_lockspace group = codes "lvm_" ++ group

-- The disk of its areas.
abbrev pub group_path : List ℕ → List ℕ
group_path group = codes "/dev/mapper/" ++ doubled group ++ codes "-lvmlock"

-- The group's lockspace, to be joined under this id.
abbrev pub lockspace_of : List ℕ → ℕ → LockspaceArg
lockspace_of group id = record { name = group_lockspace group; id = id; path = group_path group; offset = 0 }

-- The resource of a lock, in areas of this size.
abbrev pub resource_of : ℕ → Lock → ResourceArg
resource_of area l = record { lockspace = group_lockspace l.group; name = l.name; path = group_path l.group; offset = l.number * area }
